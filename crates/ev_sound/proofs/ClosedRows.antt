-- Axioms, and the closed formulas of datatypes and recursive operators, are established.
use Rattle.std.specs.Prelude.{◌≡◌, ◌+◌, ◌++◌, ℕ, Bool as Boolean, true, false, List, [], ◌∷◌, Option, Some, None, map, flat_map, cond, bytes_eq, option_map, slice_get, refl}
use Rattle.std.specs.List.{AllByRecursion, enumerate_from}
use Rattle.std.proofs.Common.{ap, sym, ◌∙◌, subst as transport}
use Rattle.ev_terms.specs.declared.types.Ty.{Prop}
use Rattle.ev_terms.specs.declared.types.Tys.{Empty}
use Rattle.ev_terms.specs.Types.{type_list}
use Rattle.ev_terms.specs.Term.{Term}
use Rattle.ev_typing.specs.declared.typing.Entry.TheVariants.{Data, Constant, Direct, Recursive}
use Rattle.ev_typing.specs.declared.typing.DataDecl.{DataDecl}
use Rattle.ev_typing.specs.declared.typing.Con.{Con}
use Rattle.ev_typing.specs.declared.typing.Var.{Var}
use Rattle.ev_typing.specs.Env.{Env, Name, Symbol, ConOf, DesOf, ConstantOf, DirectOf, RecursiveOf, look_up, con_symbols, symbols, find_symbol}
use Rattle.ev_typing.specs.Parts.{base}
use Rattle.ev_typing.specs.Occurs.{is_direct_symbol}
use Rattle.ev_typing.specs.WellFormed.{IsWellFormed}
use Rattle.ev_data.specs.Closed.{destructor_of, destructor_row, distinctness_of, distinctness_row, recursion_in, recursion_of, recursion_row}
use Rattle.ev_data.specs.DataLaws.{IsClosedFormula}
use Rattle.ev_data.proofs.Formulas.{destructors_typed, distinctness_typed}
use Rattle.ev_data.proofs.Recursions.{recursion_typed}
use Rattle.ev_axioms.specs.Axioms.{axiom_row}
use Rattle.ev_axioms.proofs.AxiomTypes.{axioms_base}
use Rattle.ev_kernel.specs.declared.rules.BaseRule.{BaseRule}
use Rattle.ev_kernel.specs.declared.rules.BaseRule.TheVariants.{Axiom, Des, Dis, Rec}
use Rattle.ev_kernel.specs.Row.{Row}
use Rattle.ev_kernel.specs.Derivable.{Derivable, none}
use Rattle.ev_sound.proofs.Established.{IsEstablished}
use Rattle.ev_sound.proofs.Derived.{by_row}
use Rattle.ev_ops.proofs.OverWhole.{plain_unfolded}
use Rattle.ev_ops.proofs.Basing.{typed_base, plain_base}
use Rattle.ev_ops.proofs.BaseGood.{data_of_base}

-- The symbols of the base are those of the whole, without conditions.
abbrev pub without_condition : Symbol → Symbol
without_condition (ConOf d c) = ConOf d c
without_condition (DesOf d c i f) = DesOf d c i f
without_condition (ConstantOf sig c) = ConstantOf sig None
without_condition (DirectOf sig c body) = DirectOf sig c body
without_condition (RecursiveOf sig c place bodies) = RecursiveOf sig None place bodies

abbrev Kept : List (Name × Symbol) → Type 0
Kept ps = AllByRecursion (λ (p : Name × Symbol). without_condition p.1 ≡ p.1) ps

kept_append : (ps qs : List (Name × Symbol)) → Kept ps → Kept qs → Kept (ps ++ qs)
kept_append [] qs f g = g
kept_append (p ∷ ps) qs f g = (f.0, kept_append ps qs f.1 g)

fields_kept : (d : DataDecl) (c : Con) (i : ℕ) (fs : List Var) → Kept (map (λ (f : ℕ × Var). (f.1.name, DesOf d c f.0 f.1)) (enumerate_from i fs))
fields_kept d c i [] = tt
fields_kept d c i (f ∷ fs) = (refl, fields_kept d c (i + 1) fs)

cons_kept : (d : DataDecl) (cs : List Con) → Kept (flat_map (con_symbols d) cs)
cons_kept d [] = tt
cons_kept d (c ∷ cs) = kept_append (con_symbols d c) (flat_map (con_symbols d) cs) (refl, fields_kept d c 0 c.fields) (cons_kept d cs)

abbrev IsBased : Option Symbol → Option Symbol → Type 0
IsBased o p = o ≡ option_map without_condition p

prefix_based : (ps qs rs : List (Name × Symbol)) (n : Name) → Kept ps → (is_direct_symbol (look_up qs n) ≡ false → IsBased (look_up rs n) (look_up qs n)) → is_direct_symbol (look_up (ps ++ qs) n) ≡ false →
    IsBased (look_up (ps ++ rs) n) (look_up (ps ++ qs) n)
prefix_based [] qs rs n g h k = h k
prefix_based (p ∷ ps) qs rs n g h k = by (bytes_eq p.0 n) k (prefix_based ps qs rs n g.1 h)
  where
    by : (b : Boolean) → is_direct_symbol (cond b (Some p.1) (look_up (ps ++ qs) n)) ≡ false → (is_direct_symbol (look_up (ps ++ qs) n) ≡ false → IsBased (look_up (ps ++ rs) n) (look_up (ps ++ qs) n)) →
        IsBased (cond b (Some p.1) (look_up (ps ++ rs) n)) (cond b (Some p.1) (look_up (ps ++ qs) n))
    by true e f = ap Some (sym g.0)
    by false e f = f e

one_based : (x y : Symbol) (o p : Option Symbol) (b : Boolean) → x ≡ without_condition y → (is_direct_symbol p ≡ false → IsBased o p) → is_direct_symbol (cond b (Some y) p) ≡ false → IsBased (cond b (Some x) o) (cond b (Some y) p)
one_based x y o p true e f k = ap Some e
one_based x y o p false e f k = f k

direct_based : (y : Symbol) (o p : Option Symbol) (b : Boolean) → is_direct_symbol (Some y) ≡ true → (is_direct_symbol p ≡ false → IsBased o p) → is_direct_symbol (cond b (Some y) p) ≡ false → IsBased o (cond b (Some y) p)
direct_based y o p true e f k = let no : true ≡ false = sym e ∙ k in cc
direct_based y o p false e f k = f k

pub symbol_based : (env : Env) (n : Name) → is_direct_symbol (find_symbol env n) ≡ false → IsBased (find_symbol (base env) n) (find_symbol env n)
symbol_based [] n h = refl
symbol_based (Data d ∷ env) n h = prefix_based (flat_map (con_symbols d) d.cons) (flat_map symbols env) (flat_map symbols (base env)) n (cons_kept d d.cons) (symbol_based env n) h
symbol_based (Constant sig c ∷ env) n h = one_based (ConstantOf sig None) (ConstantOf sig c) (find_symbol (base env) n) (find_symbol env n) (bytes_eq sig.name n) refl (symbol_based env n) h
symbol_based (Direct sig c body ∷ env) n h = direct_based (DirectOf sig c body) (find_symbol (base env) n) (find_symbol env n) (bytes_eq sig.name n) refl (symbol_based env n) h
symbol_based (Recursive sig c place bodies ∷ env) n h =
    one_based (RecursiveOf sig None place bodies) (RecursiveOf sig c place bodies) (find_symbol (base env) n) (find_symbol env n) (bytes_eq sig.name n) refl (symbol_based env n) h

-- The rows over the base.
module _ (P : Term) where
  distinct_kept : (o p : Option Symbol) → distinctness_of o p ≡ Some P → (is_direct_symbol o ≡ false) × (is_direct_symbol p ≡ false) × (distinctness_of (option_map without_condition o) (option_map without_condition p) ≡ Some P)
  distinct_kept None p e = cc
  distinct_kept (Some (DesOf d c i f)) p e = cc
  distinct_kept (Some (ConstantOf sig c)) p e = cc
  distinct_kept (Some (DirectOf sig c body)) p e = cc
  distinct_kept (Some (RecursiveOf sig c place bodies)) p e = cc
  distinct_kept (Some (ConOf d left)) None e = cc
  distinct_kept (Some (ConOf d left)) (Some (DesOf f c i g)) e = cc
  distinct_kept (Some (ConOf d left)) (Some (ConstantOf sig c)) e = cc
  distinct_kept (Some (ConOf d left)) (Some (DirectOf sig c body)) e = cc
  distinct_kept (Some (ConOf d left)) (Some (RecursiveOf sig c place bodies)) e = cc
  distinct_kept (Some (ConOf d left)) (Some (ConOf f right)) e = (refl, refl, e)

  destructor_kept : (o : Option Symbol) (place : ℕ) → destructor_of o place ≡ Some P → (is_direct_symbol o ≡ false) × (destructor_of (option_map without_condition o) place ≡ Some P)
  destructor_kept None place e = cc
  destructor_kept (Some (DesOf d c i f)) place e = cc
  destructor_kept (Some (ConstantOf sig c)) place e = cc
  destructor_kept (Some (DirectOf sig c body)) place e = cc
  destructor_kept (Some (RecursiveOf sig c p bodies)) place e = cc
  destructor_kept (Some (ConOf d c)) place e = (refl, e)

  recursion_kept : (env : Env) (o : Option Symbol) (con : Name) → recursion_of env o con ≡ Some P → (is_direct_symbol o ≡ false) × (recursion_of (base env) (option_map without_condition o) con ≡ Some P)
  recursion_kept env None con e = cc
  recursion_kept env (Some (ConOf d c)) con e = cc
  recursion_kept env (Some (DesOf d c i f)) con e = cc
  recursion_kept env (Some (ConstantOf sig c)) con e = cc
  recursion_kept env (Some (DirectOf sig c body)) con e = cc
  recursion_kept env (Some (RecursiveOf sig c place bodies)) con e = (refl, ap (recursion_in sig place bodies con) (data_of_base env (slice_get (type_list sig.args) place)) ∙ e)

-- A closed formula with a row over the base.
module _ (env : Env) (w : IsWellFormed env) where
  by_closed_row : (P : Term) (r : BaseRule) → IsClosedFormula env P → Row (base env) [] r (record { context = Empty; hyps = []; goal = P }) → IsEstablished env P
  by_closed_row P r c k = record {
    typed = c.0;
    derivable = transport (λ G. Derivable (base env) (record { context = Empty; hyps = []; goal = G })) (sym (plain_unfolded env w P c.1))
        (by_row (base env) [] r (record { context = Empty; hyps = []; goal = P }) k
        (record { typed = record { context = tt; hyps = tt; goal = typed_base env P [] Prop c.0 c.1 }; plain_hyps = tt; plain_goal = plain_base env P }) none);
  }

  pub axiom_established : (k : ℕ) (P : Term) → axiom_row k ≡ Some P → IsEstablished env P
  axiom_established k P e = by_closed_row P (Axiom k) (axioms_base env w.distinct k P e) (refl, e)

  pub distinctness_established : (left right : Name) (P : Term) → distinctness_row env left right ≡ Some P → IsEstablished env P
  distinctness_established left right P e =
      let k = distinct_kept P (find_symbol env left) (find_symbol env right) e in
      by_closed_row P (Dis left right) (distinctness_typed env w left right P e)
      (refl, ap (λ o. distinctness_of o (find_symbol (base env) right)) (symbol_based env left k.0) ∙ ap (distinctness_of (option_map without_condition (find_symbol env left))) (symbol_based env right k.1) ∙ k.2)

  pub destructor_established : (con : Name) (place : ℕ) (P : Term) → destructor_row env con place ≡ Some P → IsEstablished env P
  destructor_established con place P e =
      let k = destructor_kept P (find_symbol env con) place e in
      by_closed_row P (Des con place) (destructors_typed env w con place P e) (refl, ap (λ o. destructor_of o place) (symbol_based env con k.0) ∙ k.1)

  pub recursion_established : (op con : Name) (P : Term) → recursion_row env op con ≡ Some P → IsEstablished env P
  recursion_established op con P e =
      let k = recursion_kept P env (find_symbol env op) con e in
      by_closed_row P (Rec op con) (recursion_typed env w op con P e) (refl, ap (λ o. recursion_of (base env) o con) (symbol_based env op k.0) ∙ k.1)
