-- Typing of nodes at places, of types found by matching, and where direct operators are declared.
use Rattle.std.specs.Prelude.{◌≡◌, ◌⊎◌, ◌++◌, ◌||◌, ◌==◌, ℕ, zero, suc, Bool as Boolean, true, false, List, [], ◌∷◌, Option, Some, None, map, flat_map, take, slice_get, get_or, cond, bytes_eq, if◌then◌else◌, IsTrue, Contains, reverse, refl}
use Rattle.std.specs.Option.{option_and_then}
use Rattle.std.specs.List.{AllByRecursion}
use Rattle.std.proofs.Common.{inl, inr, ap, sym, ◌∙◌, subst as transport, append_assoc}
use Rattle.std.proofs.lemmas.Bool.{eqb-true}
use Rattle.std.proofs.lemmas.List.{append-nil}
use Rattle.ev_terms.specs.declared.types.Ty.{Ty, Int, Bool, Prop, Param, Data}
use Rattle.ev_terms.specs.declared.types.Tys.{Tys, Empty}
use Rattle.ev_terms.specs.Types.{pow, prod, more, type_list}
use Rattle.ev_terms.specs.Term.{Term, Terms, var, lit, node, nil, cons, term_list, terms-term_list}
use Rattle.ev_terms.specs.Symbols.{binds}
use Rattle.ev_terms.specs.Substitution.{lifts, inst, insts, entry, fill, retype, retypes, type_inst, types_inst, type_at}
use Rattle.ev_typing.specs.declared.typing.Entry.{Entry}
use Rattle.ev_typing.specs.declared.typing.Entry.TheVariants.{Data as DataEntry, Constant, Direct, Recursive}
use Rattle.ev_typing.specs.declared.typing.Signature.{Signature}
use Rattle.ev_typing.specs.declared.typing.DataDecl.{DataDecl}
use Rattle.ev_typing.specs.Env.{Env, Name, Symbol, ConstantOf, DirectOf, RecursiveOf, look_up, con_symbols, symbols, find_symbol, profile}
use Rattle.ev_typing.specs.Typing.{IsProper, AreProper, Typed, AreTyped, inside}
use Rattle.ev_typing.specs.Occurs.{has_param, have_param, mentions_param, mention_param, is_direct_symbol}
use Rattle.ev_typing.specs.WellFormed.{IsWellFormed}
use Rattle.ev_typing.proofs.Names.{all_append, same_name}
use Rattle.ev_ops.proofs.UnfoldEquation.{look_up_split}
use Rattle.ev_ops.proofs.UnfoldLaws.{cons_plain, look_up_plain}
use Rattle.ev_rewrite.specs.Places.{node_at, path_types}
use Rattle.ev_rewrite.specs.Instances.{assigned}
use Rattle.ev_congruence.proofs.Terms.{append_nil, proper_list, all_take, some_out}
use Rattle.ev_sound.proofs.Bodies.{IsDirectBody, direct_body_at}
use Rattle.ev_ops.proofs.Basics.{contains_more, contains_first}
use Rattle.ev_sound.proofs.Places.{and_then_parts, map_parts, child_typed}

-- A node at a place is typed in the context extended by the binders on the way.
pub record IsTypedPlace (env : Env) (C Bs : List Ty) (t : Term) : Type 0 where
  pub type : Ty
  pub typed : Typed env (C ++ Bs) t type
  pub proper : AllByRecursion (IsProper env) Bs

pub place_typed : (env : Env) (place : List ℕ) (C : List Ty) (t old : Term) (Bs : List Ty) (A : Ty) → Typed env C t A → node_at t place ≡ Some old → path_types t place ≡ Some Bs → IsTypedPlace env C Bs old
place_typed env [] C t old Bs A h e f =
    let e' : t ≡ old = cc in
    let f' : [] ≡ Bs = cc in
    transport (λ Xs. IsTypedPlace env C Xs old) f' (record { type = A; typed = transport (λ x. Typed env (C ++ []) x A) e' (transport (λ D. Typed env D t A) (sym (append_nil C)) h); proper = tt })
place_typed env (zero ∷ place) C t old Bs A h e f = cc
place_typed env (suc i ∷ place) C (var j) old Bs A h e f = cc
place_typed env (suc i ∷ place) C (lit n) old Bs A h e f = cc
place_typed env (suc i ∷ place) C (node s As ts) old Bs A h e f =
    let child = and_then_parts (λ z. node_at z place) (slice_get (term_list ts) i) old e in
    let path = map_parts (λ Xs. take (binds s) (type_list As) ++ Xs) (option_and_then (λ z. path_types z place) (slice_get (term_list ts) i)) Bs f in
    let q : path_types child.0 place ≡ Some path.0 = sym (ap (option_and_then (λ z. path_types z place)) child.1) ∙ path.1 in
    some_out (profile env s) (λ p v g.
    let Es = map (type_inst (type_at As)) p.args in
    let k = place_typed env place (inside C s As) child.0 old path.0 (get_or Es i Prop)
    (child_typed env (inside C s As) (term_list ts) Es i child.0 (transport (λ us. AreTyped env (inside C s As) us Es) (sym (terms-term_list ts)) g.children) child.1) child.2 q in
    transport (λ Xs. IsTypedPlace env C Xs old) path.2
    (record {
      type = k.type;
      typed = transport (λ D. Typed env D old k.type) (append_assoc C (take (binds s) (type_list As)) path.0) k.typed;
      proper = all_append (IsProper env) (take (binds s) (type_list As)) path.0 (all_take (IsProper env) (binds s) (type_list As) (proper_list env As g.proper)) k.proper;
    })) h

-- Types under which a type is proper, or a term typed, are proper where the parameter occurs.
or_true : (a b : Boolean) → (a || b) ≡ true → (a ≡ true) ⊎ (b ≡ true)
or_true true b e = inl refl
or_true false b e = inr e

either_term : {X Y R : Type 0} → X ⊎ Y → (X → R) → (Y → R) → R
either_term (inl x) f g = f x
either_term (inr y) f g = g y

module _ (env : Env) (θ : ℕ → Ty) (j : ℕ) where
  mutual
    proper_part : (A : Ty) → has_param j A ≡ true → IsProper env (type_inst θ A) → IsProper env (θ j)
    proper_part Int e p = cc
    proper_part Bool e p = cc
    proper_part Prop e p = cc
    proper_part (Param i) e p = transport (λ k. IsProper env (θ k)) (eqb-true i j e) p
    proper_part (pow A) e p = proper_part A e p
    proper_part (prod A B) e p = either_term (or_true (has_param j A) (has_param j B) e) (λ k. proper_part A k p.0) (λ k. proper_part B k p.1)
    proper_part (Data n As) e p = proper_parts As e p.1

    proper_parts : (As : Tys) → have_param j As ≡ true → AreProper env (types_inst θ As) → IsProper env (θ j)
    proper_parts Empty e p = cc
    proper_parts (more A As) e p = either_term (or_true (has_param j A) (have_param j As) e) (λ k. proper_part A k p.0) (λ k. proper_parts As k p.1)

  mutual
    proper_in : (t : Term) (σ : ℕ → Term) (C : List Ty) (A : Ty) → mentions_param j t ≡ true → Typed env C (inst σ (retype θ t)) A → IsProper env (θ j)
    proper_in (var i) σ C A e h = cc
    proper_in (lit n) σ C A e h = cc
    proper_in (node s As ts) σ C A e h =
        some_out (profile env s) (λ q f g.
        either_term (or_true (have_param j As) (mention_param j ts) e) (λ k. proper_parts As k g.proper)
        (λ k. all_proper_in ts (lifts (binds s) σ) (inside C s (types_inst θ As)) (map (type_inst (type_at (types_inst θ As))) q.args) k g.children)) h

    all_proper_in : (ts : Terms) (σ : ℕ → Term) (C As : List Ty) → mention_param j ts ≡ true → AreTyped env C (insts σ (retypes θ ts)) As → IsProper env (θ j)
    all_proper_in nil σ C As e h = cc
    all_proper_in (cons t ts) σ C [] e h = absurd h
    all_proper_in (cons t ts) σ C (A ∷ As) e h =
        either_term (or_true (mentions_param j t) (mention_param j ts) e) (λ k. proper_in t σ C A k h.0) (λ k. all_proper_in ts σ C As k h.1)

-- What is assigned to a number.
assigned_or : (Q : ℕ → Type 0) (ids : List ℕ) (As : List Ty) (i : ℕ) → AllByRecursion Q ids → Q i ⊎ (assigned ids As i ≡ Param i)
assigned_or Q [] As i h = inr refl
assigned_or Q (j ∷ ids) [] i h = inr refl
assigned_or Q (j ∷ ids) (A ∷ As) i h = by (j == i) refl (assigned_or Q ids As i h.1)
  where
    by : (b : Boolean) → (j == i) ≡ b → Q i ⊎ (assigned ids As i ≡ Param i) → Q i ⊎ ((if b then A else assigned ids As i) ≡ Param i)
    by true e k = inl (transport Q (eqb-true j i e) h.0)
    by false e k = k

-- types found by matching are proper
pub matched_proper : (env : Env) (ids : List ℕ) (As : List Ty) (pattern : Term) (ts : List Term) (C : List Ty) (A : Ty) → AllByRecursion (λ j. IsTrue (mentions_param j pattern)) ids →
    Typed env C (fill (retype (assigned ids As) pattern) ts) A → (i : ℕ) → IsProper env (assigned ids As i)
matched_proper env ids As pattern ts C A m h i = by (assigned_or (λ j. IsTrue (mentions_param j pattern)) ids As i m)
  where
    by : IsTrue (mentions_param i pattern) ⊎ (assigned ids As i ≡ Param i) → IsProper env (assigned ids As i)
    by (inl e) = proper_in env (assigned ids As) i pattern (entry (reverse ts)) C A e h
    by (inr e) = transport (IsProper env) (sym e) tt

-- Where a direct operator is declared.
module _ (n : Name) (sig : Signature) (c : Option Term) (body : Term) where
  other : (x : Symbol) (b : Boolean) → is_direct_symbol (Some x) ≡ false → cond b (Some x) None ≡ Some (DirectOf sig c body) → ⊥
  other x true p q = let e : false ≡ true = sym p ∙ ap is_direct_symbol q in cc
  other x false p q = cc

  of_data : (d : DataDecl) → look_up (flat_map (con_symbols d) d.cons) n ≡ Some (DirectOf sig c body) → ⊥
  of_data d q = let e : false ≡ true = sym plain ∙ ap is_direct_symbol q in cc
    where
      plain : is_direct_symbol (look_up (flat_map (con_symbols d) d.cons) n) ≡ false
      plain = transport (λ ps. is_direct_symbol (look_up ps n) ≡ false) (append-nil (flat_map (con_symbols d) d.cons)) (look_up_plain (flat_map (con_symbols d) d.cons) [] n (cons_plain d d.cons) refl)

  this : (s : Signature) (k : Option Term) (t : Term) (b : Boolean) → bytes_eq s.name n ≡ b → cond b (Some (DirectOf s k t)) None ≡ Some (DirectOf sig c body) → (Direct s k t ≡ Direct sig c body) × (sig.name ≡ n)
  this s k t true h q = (cc, (let e : s ≡ sig = cc in sym (ap (λ (x : Signature). x.name) e) ∙ same_name s.name n h))
  this s k t false h q = let no : ⊥ = cc in absurd no

  found_entry : (d : Entry) → look_up (symbols d) n ≡ Some (DirectOf sig c body) → (d ≡ Direct sig c body) × (sig.name ≡ n)
  found_entry (DataEntry d) q = absurd (of_data d q)
  found_entry (Constant s k) q = absurd (other (ConstantOf s k) (bytes_eq s.name n) refl q)
  found_entry (Direct s k t) q = this s k t (bytes_eq s.name n) refl q
  found_entry (Recursive s k p ts) q = absurd (other (RecursiveOf s k p ts) (bytes_eq s.name n) refl q)

  found_among : (env : Env) → find_symbol env n ≡ Some (DirectOf sig c body) → Contains env (Direct sig c body) × (sig.name ≡ n)
  found_among [] q = let no : ⊥ = cc in absurd no
  found_among (d ∷ env) q = by (found_among env) (look_up_split (symbols d) (flat_map symbols env) n (DirectOf sig c body) q)
    where
      by : (find_symbol env n ≡ Some (DirectOf sig c body) → Contains env (Direct sig c body) × (sig.name ≡ n)) →
          (look_up (symbols d) n ≡ Some (DirectOf sig c body)) ⊎ (find_symbol env n ≡ Some (DirectOf sig c body)) → Contains (d ∷ env) (Direct sig c body) × (sig.name ≡ n)
      by rest (inl p) = let x = found_entry d p in (transport (λ y. Contains (y ∷ env) (Direct sig c body)) (sym x.0) (contains_first (Direct sig c body) env), x.1)
      by rest (inr p) = let x = rest p in (contains_more (Direct sig c body) d env x.0, x.1)

  -- its signature and body
  pub found_body : (env : Env) → IsWellFormed env → find_symbol env n ≡ Some (DirectOf sig c body) → IsDirectBody env sig body
  found_body env w q = let x = found_among env q in direct_body_at env sig c body w x.0
