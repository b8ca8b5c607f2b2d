-- What has no direct operator is over the base, which is well formed.
use Rattle.std.specs.Prelude.{◌≡◌, ◌++◌, Bool as Boolean, true, false, List, [], ◌∷◌, Option, Some, None, map, flat_map, length, cond, bytes_eq, option_map, IsSomeAnd, IsFalse, refl}
use Rattle.std.specs.List.{AllByRecursion}
use Rattle.std.proofs.Common.{ap, sym, subst as transport}
use Rattle.ev_terms.specs.declared.types.Ty.{Ty, Int, Bool, Prop, Param, Data as DataType}
use Rattle.ev_terms.specs.declared.types.Tys.{Tys, Empty}
use Rattle.ev_terms.specs.declared.types.Sym.{Sym}
use Rattle.ev_terms.specs.declared.types.Sym.TheVariants.{Base, User}
use Rattle.ev_terms.specs.Types.{pow, prod, more, type_list}
use Rattle.ev_terms.specs.Term.{Term, Terms, var, lit, node, nil, cons}
use Rattle.ev_terms.specs.Substitution.{type_inst, type_at}
use Rattle.ev_typing.specs.declared.typing.Sequent.{Sequent}
use Rattle.ev_typing.specs.declared.typing.Entry.TheVariants.{Data, Constant, Direct, Recursive}
use Rattle.ev_typing.specs.declared.typing.Signature.{Signature}
use Rattle.ev_typing.specs.Env.{Env, Name, Symbol, ConstantOf, DirectOf, RecursiveOf, look_up, con_symbols, symbols, find_symbol, find_data, symbol_profile, profile}
use Rattle.ev_typing.specs.Parts.{base}
use Rattle.ev_typing.specs.Typing.{IsProper, AreProper, Typed, AreTyped, IsTypedNode, IsPredicate, IsSequent, inside}
use Rattle.ev_typing.specs.Proper.{IsResult}
use Rattle.ev_typing.specs.Occurs.{is_direct_symbol, is_direct, IsPlain, ArePlain}
use Rattle.ev_typing.specs.BaseSequents.{IsBaseSequent}
use Rattle.ev_typing.specs.WellFormed.{IsWellFormed}
use Rattle.ev_typing.proofs.Keeps.{some_map}
use Rattle.ev_ops.specs.Unfold.{unfolded, unfolded_sequent}
use Rattle.ev_ops.proofs.UnfoldLaws.{cons_plain, look_up_plain, unfolded_is_plain}
use Rattle.ev_ops.proofs.Keeping.{unfolded_typed}

-- Datatypes are those of the whole.
pub find_data_base : (env : Env) (n : Name) → find_data (base env) n ≡ find_data env n
find_data_base [] n = refl
find_data_base (Data d ∷ env) n = ap (cond (bytes_eq d.name n) (Some d)) (find_data_base env n)
find_data_base (Constant sig c ∷ env) n = find_data_base env n
find_data_base (Direct sig c body ∷ env) n = find_data_base env n
find_data_base (Recursive sig c place bodies ∷ env) n = find_data_base env n

mutual
  pub proper_base : (env : Env) (A : Ty) → IsProper env A → IsProper (base env) A
  proper_base env Int p = p
  proper_base env Bool p = p
  proper_base env Prop p = p
  proper_base env (Param i) p = p
  proper_base env (pow A) p = proper_base env A p
  proper_base env (prod A B) p = (proper_base env A p.0, proper_base env B p.1)
  proper_base env (DataType n As) p = (transport (λ o. IsSomeAnd o (λ d. length (type_list As) ≡ d.params)) (sym (find_data_base env n)) p.0, all_proper_base env As p.1)

  pub all_proper_base : (env : Env) (As : Tys) → AreProper env As → AreProper (base env) As
  all_proper_base env Empty p = p
  all_proper_base env (more A As) p = (proper_base env A p.0, all_proper_base env As p.1)

pub result_base : (env : Env) (A : Ty) → IsResult env A → IsResult (base env) A
result_base env Int p = p
result_base env Bool p = p
result_base env Prop p = p
result_base env (Param i) p = p
result_base env (pow A) p = proper_base env (pow A) p
result_base env (prod A B) p = proper_base env (prod A B) p
result_base env (DataType n As) p = proper_base env (DataType n As) p

-- Symbols that are no direct operators have the profiles of the whole.
abbrev SameProfile : Option Symbol → Option Symbol → Type 0
SameProfile o p = option_map symbol_profile o ≡ option_map symbol_profile p

prefix_same : (ps qs rs : List (Name × Symbol)) (n : Name) → (is_direct_symbol (look_up qs n) ≡ false → SameProfile (look_up rs n) (look_up qs n)) → is_direct_symbol (look_up (ps ++ qs) n) ≡ false →
    SameProfile (look_up (ps ++ rs) n) (look_up (ps ++ qs) n)
prefix_same [] qs rs n h k = h k
prefix_same (p ∷ ps) qs rs n h k = by (bytes_eq p.0 n) k (prefix_same ps qs rs n h)
  where
    by : (b : Boolean) → is_direct_symbol (cond b (Some p.1) (look_up (ps ++ qs) n)) ≡ false → (is_direct_symbol (look_up (ps ++ qs) n) ≡ false → SameProfile (look_up (ps ++ rs) n) (look_up (ps ++ qs) n)) →
        SameProfile (cond b (Some p.1) (look_up (ps ++ rs) n)) (cond b (Some p.1) (look_up (ps ++ qs) n))
    by true e f = refl
    by false e f = f e

one_same : (x y : Symbol) (o p : Option Symbol) (b : Boolean) → symbol_profile x ≡ symbol_profile y → (is_direct_symbol p ≡ false → SameProfile o p) → is_direct_symbol (cond b (Some y) p) ≡ false →
    SameProfile (cond b (Some x) o) (cond b (Some y) p)
one_same x y o p true e f k = ap Some e
one_same x y o p false e f k = f k

direct_same : (sig : Signature) (c : Option Term) (body : Term) (o p : Option Symbol) (b : Boolean) → (is_direct_symbol p ≡ false → SameProfile o p) → is_direct_symbol (cond b (Some (DirectOf sig c body)) p) ≡ false →
    SameProfile o (cond b (Some (DirectOf sig c body)) p)
direct_same sig c body o p true f k = let no : true ≡ false = k in cc
direct_same sig c body o p false f k = f k

symbol_base : (env : Env) (n : Name) → is_direct_symbol (find_symbol env n) ≡ false → SameProfile (find_symbol (base env) n) (find_symbol env n)
symbol_base [] n h = refl
symbol_base (Data d ∷ env) n h = prefix_same (flat_map (con_symbols d) d.cons) (flat_map symbols env) (flat_map symbols (base env)) n (symbol_base env n) h
symbol_base (Constant sig c ∷ env) n h = one_same (ConstantOf sig None) (ConstantOf sig c) (find_symbol (base env) n) (find_symbol env n) (bytes_eq sig.name n) refl (symbol_base env n) h
symbol_base (Direct sig c body ∷ env) n h = direct_same sig c body (find_symbol (base env) n) (find_symbol env n) (bytes_eq sig.name n) (symbol_base env n) h
symbol_base (Recursive sig c place bodies ∷ env) n h =
    one_same (RecursiveOf sig None place bodies) (RecursiveOf sig c place bodies) (find_symbol (base env) n) (find_symbol env n) (bytes_eq sig.name n) refl (symbol_base env n) h

profile_base : (env : Env) (s : Sym) → IsFalse (is_direct env s) → profile (base env) s ≡ profile env s
profile_base env (Base k) h = refl
profile_base env (User n) h = symbol_base env n h

mutual
  pub typed_base : (env : Env) (t : Term) (C : List Ty) (A : Ty) → Typed env C t A → IsPlain env t → Typed (base env) C t A
  typed_base env (var i) C A h p = h
  typed_base env (lit n) C A h p = h
  typed_base env (node s As ts) C A h p =
      transport (λ o. IsSomeAnd o (λ q. IsTypedNode (base env) As q A (AreTyped (base env) (inside C s As) ts (map (type_inst (type_at As)) q.args)))) (sym (profile_base env s p.0))
      (some_map (profile env s) (λ q f g. record { count = g.count; proper = all_proper_base env As g.proper; children = all_typed_base env ts (inside C s As) (map (type_inst (type_at As)) q.args) g.children p.1; result = g.result }) h)

  all_typed_base : (env : Env) (ts : Terms) (C As : List Ty) → AreTyped env C ts As → ArePlain env ts → AreTyped (base env) C ts As
  all_typed_base env nil C [] h p = h
  all_typed_base env nil C (A ∷ As) h p = h
  all_typed_base env (cons t ts) C [] h p = h
  all_typed_base env (cons t ts) C (A ∷ As) h p = (typed_base env t C A h.0 p.0, all_typed_base env ts C As h.1 p.1)

-- No symbol of the base is a direct operator.
choice_plain : (b : Boolean) (x : Symbol) (o : Option Symbol) → is_direct_symbol (Some x) ≡ false → is_direct_symbol o ≡ false → is_direct_symbol (cond b (Some x) o) ≡ false
choice_plain true x o f g = f
choice_plain false x o f g = g

none_direct : (env : Env) (n : Name) → is_direct_symbol (find_symbol (base env) n) ≡ false
none_direct [] n = refl
none_direct (Data d ∷ env) n = look_up_plain (flat_map (con_symbols d) d.cons) (flat_map symbols (base env)) n (cons_plain d d.cons) (none_direct env n)
none_direct (Constant sig c ∷ env) n = choice_plain (bytes_eq sig.name n) (ConstantOf sig None) (find_symbol (base env) n) refl (none_direct env n)
none_direct (Direct sig c body ∷ env) n = none_direct env n
none_direct (Recursive sig c place bodies ∷ env) n = choice_plain (bytes_eq sig.name n) (RecursiveOf sig None place bodies) (find_symbol (base env) n) refl (none_direct env n)

base_symbol : (env : Env) (s : Sym) → IsFalse (is_direct (base env) s)
base_symbol env (Base k) = refl
base_symbol env (User n) = none_direct env n

mutual
  pub plain_base : (env : Env) (t : Term) → IsPlain (base env) t
  plain_base env (var i) = tt
  plain_base env (lit n) = tt
  plain_base env (node s As ts) = (base_symbol env s, all_plain_base env ts)

  all_plain_base : (env : Env) (ts : Terms) → ArePlain (base env) ts
  all_plain_base env nil = tt
  all_plain_base env (cons t ts) = (plain_base env t, all_plain_base env ts)

-- Unfolded sequents are over the base.
unfolded_over_base : (env : Env) → IsWellFormed env → (C : List Ty) (t : Term) (A : Ty) → Typed env C t A → Typed (base env) C (unfolded env t) A
unfolded_over_base env w C t A h = typed_base env (unfolded env t) C A (unfolded_typed env w C t A h) (unfolded_is_plain env w C t A h)

hyps_over_base : (env : Env) → IsWellFormed env → (C : List Ty) (H : List Term) → AllByRecursion (IsPredicate env C) H → AllByRecursion (IsPredicate (base env) C) (map (unfolded env) H)
hyps_over_base env w C [] h = tt
hyps_over_base env w C (P ∷ H) h = (unfolded_over_base env w C P Prop h.0, hyps_over_base env w C H h.1)

hyps_plain : (env : Env) (H : List Term) → AllByRecursion (IsPlain (base env)) H
hyps_plain env [] = tt
hyps_plain env (P ∷ H) = (plain_base env P, hyps_plain env H)

pub sequent_over_base : (env : Env) → IsWellFormed env → (S : Sequent) → IsSequent env S → IsBaseSequent (base env) (unfolded_sequent env S)
sequent_over_base env w S h = record {
  typed = record {
    context = all_proper_base env S.context h.context;
    hyps = hyps_over_base env w (type_list S.context) S.hyps h.hyps;
    goal = unfolded_over_base env w (type_list S.context) S.goal Prop h.goal;
  };
  plain_hyps = hyps_plain env (map (unfolded env) S.hyps);
  plain_goal = plain_base env (unfolded env S.goal);
}
