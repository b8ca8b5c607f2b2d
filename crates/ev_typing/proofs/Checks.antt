-- What the code that finds types needs.
use Rattle.std.specs.Prelude.{◌≡◌, ◌==◌, ◌&&◌, ◌+◌, ◌-◌, ◌≤◌, ◌<◌, ◌^◌, ◌↔◌, ℕ, zero, suc, Bool as Boolean, true, false, if◌then◌else◌, List, [], ◌∷◌, ◌++◌, Option, Some, None, map, length, slice_get, take, drop, reverse, IsTrue, IsSomeAnd, refl}
use Rattle.std.specs.Option.{option_and_then}
use Rattle.std.proofs.Common.{ap, sym, ◌∙◌, subst, true≢false, arith, get_or}
use Rattle.std.proofs.lemmas.Bool.{eqb-true, eq-eqb}
use Rattle.std.proofs.lemmas.Option.{slice_get-get_or, slice_get_past}
use Rattle.std.proofs.lemmas.List.{get_or-reverse, length-reverse}
use Rattle.ev_terms.specs.declared.types.Ty.{Ty, Int}
use Rattle.ev_terms.specs.declared.types.Ty.TheVariants.{Pow, Prod}
use Rattle.ev_terms.specs.declared.types.Tys.{Tys}
use Rattle.ev_terms.specs.declared.types.Tys.TheVariants.{More}
use Rattle.ev_terms.specs.declared.types.Sym.{Sym}
use Rattle.ev_terms.specs.Types.{type_list, Pow-pow, Prod-prod, More-more}
use Rattle.ev_terms.specs.Term.{Term, Terms, var, lit, node, nil, terms, var_of, lit_of, sym_of, types_of, children, terms-term_list}
use Rattle.ev_terms.specs.Symbols.{binds}
use Rattle.ev_terms.specs.Measures.{depth, depths}
use Rattle.ev_terms.specs.Substitution.{type_inst, type_at}
use Rattle.ev_terms.proofs.ListLaws.{binds_le}
use Rattle.ev_terms.proofs.Children.{depth_at, type_size-Pow, type_size-Prod, types_size-More}
use Rattle.ev_terms.proofs.TypeSteps.{before_rest}
use Rattle.ev_typing.specs.declared.instances.Instance.{Instance}
use Rattle.ev_typing.specs.Profiles.{Profile}
use Rattle.ev_typing.specs.Env.{Env, profile}
use Rattle.ev_typing.specs.Typing.{AreProper, Typed, AreTyped, IsTypedNode, var_type, inside}
use Rattle.ev_typing.specs.Proper.{is_proper, are_proper}
use Rattle.ev_typing.specs.inner.Instances.{instance_at, at_types, instance_of}
use Rattle.ev_typing.proofs.Proper.{proper_from_test, all_proper_from_test, test_from_proper, test_from_all_proper}
use Rattle.ev_typing.proofs.Names.{drop_at, drop_all}
use Rattle.ev_typing.proofs.Laws.{Typed-unique}

-- Proper types.
pub is_proper-Pow : (env : Env) (A : Ty) → is_proper env (Pow A) ≡ is_proper env A
is_proper-Pow env A = ap (is_proper env) (Pow-pow A)

pub is_proper-Prod : (env : Env) (A B : Ty) → is_proper env (Prod A B) ≡ (is_proper env A && is_proper env B)
is_proper-Prod env A B = ap (is_proper env) (Prod-prod A B)

pub are_proper-More : (env : Env) (A : Ty) (As : Tys) → are_proper env (More A As) ≡ (is_proper env A && are_proper env As)
are_proper-More env A As = ap (are_proper env) (More-more A As)

pub prod_step : (env : Env) (C A B A' B' : Ty) (r : Boolean) → C ≡ Prod A B → A' ≡ A → B' ≡ B → true ≡ is_proper env A' → r ≡ is_proper env B' → r ≡ is_proper env C
prod_step env C A B A' B' r e a b t q =
    q ∙ ap (is_proper env) b
    ∙ sym (ap (is_proper env) e ∙ is_proper-Prod env A B ∙ ap (λ x. x && is_proper env B) (ap (is_proper env) (sym a) ∙ sym t))

pub proper_step : (env : Env) (p : Boolean) (a x : Ty) (left rest got : Tys) → left ≡ More a rest → got ≡ rest → x ≡ a → true ≡ is_proper env x →
    are_proper env left ≡ p → are_proper env got ≡ p
proper_step env p a x left rest got l g e t h =
    sym (ap (are_proper env) (before_rest left rest got a l g) ∙ ap (λ b. b && are_proper env got) (sym (t ∙ ap (is_proper env) e))) ∙ h

pub ruleset tests = (is_proper-Pow, is_proper-Prod, are_proper-More, type_size-Pow, type_size-Prod, types_size-More)

pub ruleset proper_types = (proper_from_test, all_proper_from_test, test_from_proper, test_from_all_proper)

-- Variables and literals.
pub variable_inside : (C : List Ty) (i : ℕ) (A : Ty) → A ≡ get_or C (length C - 1 - i) A → i < length C → Some A ≡ var_type C i
variable_inside C i A e h =
    let k : i < length (reverse C) = rw length-reverse h in
    sym (slice_get-get_or (reverse C) i A k ∙ ap (λ B. Some B) (get_or-reverse C i A h ∙ sym e))

pub variable_outside : (C : List Ty) (i : ℕ) → length C ≤ i → None ≡ var_type C i
variable_outside C i h = let k : length (reverse C) ≤ i = rw length-reverse h in sym (slice_get_past (reverse C) i k)

pub ruleset variables = (variable_inside, variable_outside)

pub variable_typed : (env : Env) (C : List Ty) (t : Term) (i : ℕ) (A : Ty) → Some i ≡ var_of t → Some A ≡ var_type C i → Typed env C t A
variable_typed env C (var j) i A e h = let p : j ≡ i = cc in ap (var_type C) p ∙ sym h
variable_typed env C (lit n) i A e h = cc
variable_typed env C (node s As ts) i A e h = cc

pub variable_untyped : (env : Env) (C : List Ty) (t : Term) (i : ℕ) → Some i ≡ var_of t → None ≡ var_type C i → (A : Ty) → ¬ Typed env C t A
variable_untyped env C (var j) i e h A g = let p : j ≡ i = cc in let q : var_type C j ≡ var_type C i = ap (var_type C) p in cc
variable_untyped env C (lit n) i e h A g = cc
variable_untyped env C (node s As ts) i e h A g = cc

pub literal_typed : (env : Env) (C : List Ty) (t : Term) (n : ℕ) → Some n ≡ lit_of t → n < 2 ^ 127 → Typed env C t Int
literal_typed env C (var j) n e h = cc
literal_typed env C (lit m) n e h = let p : m ≡ n = cc in (subst (λ k. k < 2 ^ 127) (sym p) h, refl)
literal_typed env C (node s As ts) n e h = cc

pub some_view : (t : Term) → sym_of t ≡ None → None ≡ var_of t → None ≡ lit_of t → ⊥
some_view (var j) p q r = cc
some_view (lit m) p q r = cc
some_view (node s As ts) p q r = cc

pub both_views : (t : Term) (s : Sym) → Some s ≡ sym_of t → None ≡ types_of t → ⊥
both_views (var j) s p q = cc
both_views (lit m) s p q = cc
both_views (node s' As ts) s p q = cc

pub ruleset leaves = (variable_typed, variable_untyped, literal_typed, some_view)

-- A node by its parts.
pub node_of : (t : Term) (s : Sym) (As : Tys) (ts : List Term) → Some s ≡ sym_of t → Some As ≡ types_of t → ts ≡ children t → t ≡ node s As (terms ts)
node_of (var i) s As ts p q r = cc
node_of (lit n) s As ts p q r = cc
node_of (node s' As' us) s As ts p q r = let e : terms ts ≡ us = ap terms r ∙ terms-term_list us in cc

pub inner_depth : (t : Term) (s : Sym) (ts : List Term) → Some s ≡ sym_of t → ts ≡ children t → depths (terms ts) < depth t
inner_depth (var i) s ts p q = cc
inner_depth (lit n) s ts p q = cc
inner_depth (node s' As us) s ts p q =
    let e : depths (terms ts) ≡ depths us = ap depths (ap terms q ∙ terms-term_list us) in omega arith

typed_by : (env : Env) (As : Tys) (D : List Ty) (ts : Terms) (i : Instance) (o : Option Profile) → Some i ≡ option_and_then (at_types As) o → AreProper env As →
    AreTyped env D ts i.args → IsSomeAnd o (λ p. IsTypedNode env As p i.result (AreTyped env D ts (map (type_inst (type_at As)) p.args)))
typed_by env As D ts i None e h g = cc
typed_by env As D ts i (Some p) e h g = by (length (type_list As) == p.params) refl e
  where
    by : (b : Boolean) → b ≡ (length (type_list As) == p.params) → Some i ≡ (if b then Some (instance_at As p) else None) →
        IsTypedNode env As p i.result (AreTyped env D ts (map (type_inst (type_at As)) p.args))
    by false c f = cc
    by true c f =
        let q : i ≡ instance_at As p = cc in
        record {
          count = eqb-true (length (type_list As)) p.params (sym c);
          proper = h;
          children = subst (λ (j : Instance). AreTyped env D ts j.args) q g;
          result = ap (λ (j : Instance). j.result) q;
        }

pub node_typed : (env : Env) (C : List Ty) (s : Sym) (As : Tys) (ts : Terms) (i : Instance) → Some i ≡ instance_of env s As → AreProper env As →
    AreTyped env (inside C s As) ts i.args → Typed env C (node s As ts) i.result
node_typed env C s As ts i e h g = typed_by env As (inside C s As) ts i (profile env s) e h g

pub record NodeParts (env : Env) (As : Tys) (D : List Ty) (ts : Terms) (A : Ty) (i : Instance) : Type 0 where
  pub proper : AreProper env As
  pub children : AreTyped env D ts i.args
  pub result : A ≡ i.result

parts_by : (env : Env) (As : Tys) (D : List Ty) (ts : Terms) (A : Ty) (o : Option Profile) (r : Option Instance) → r ≡ option_and_then (at_types As) o →
    IsSomeAnd o (λ p. IsTypedNode env As p A (AreTyped env D ts (map (type_inst (type_at As)) p.args))) → IsSomeAnd r (NodeParts env As D ts A)
parts_by env As D ts A None r e h = absurd h
parts_by env As D ts A (Some p) r e h =
    subst (λ x. IsSomeAnd x (NodeParts env As D ts A)) (sym (e ∙ ap (λ b. if b then Some (instance_at As p) else None) (eq-eqb (length (type_list As)) p.params h.count)))
    (record { proper = h.proper; children = h.children; result = h.result })

pub node_parts : (env : Env) (C : List Ty) (s : Sym) (As : Tys) (ts : Terms) (A : Ty) (r : Option Instance) → r ≡ instance_of env s As →
    Typed env C (node s As ts) A → IsSomeAnd r (NodeParts env As (inside C s As) ts A)
node_parts env C s As ts A r e h = parts_by env As (inside C s As) ts A (profile env s) r e h

pub no_instance : (env : Env) (C : List Ty) (s : Sym) (As : Tys) (ts : Terms) → None ≡ instance_of env s As → (A : Ty) → ¬ Typed env C (node s As ts) A
no_instance env C s As ts e A h = node_parts env C s As ts A None e h

pub not_proper : (env : Env) (C : List Ty) (s : Sym) (As : Tys) (ts : Terms) (b : Boolean) → b ≡ false → (IsTrue b ↔ AreProper env As) → (i : Instance) → Some i ≡ instance_of env s As →
    (A : Ty) → ¬ Typed env C (node s As ts) A
not_proper env C s As ts b differs d i e A h =
    true≢false (sym (d.1 (node_parts env C s As ts A (Some i) e h).proper) ∙ differs)

pub not_fit : (env : Env) (C : List Ty) (s : Sym) (As : Tys) (ts : Terms) (b : Boolean) → b ≡ false → (i : Instance) → (IsTrue b ↔ AreTyped env (inside C s As) ts i.args) → Some i ≡ instance_of env s As →
    (A : Ty) → ¬ Typed env C (node s As ts) A
not_fit env C s As ts b differs i d e A h =
    true≢false (sym (d.1 (node_parts env C s As ts A (Some i) e h).children) ∙ differs)

-- A type is compared with the one that was found.
pub found_same : (env : Env) (C : List Ty) (t : Term) (A B : Ty) (b : Boolean) → Typed env C t A → (IsTrue b ↔ (A ≡ B)) → IsTrue b ↔ Typed env C t B
found_same env C t A B b h d = (λ e. subst (Typed env C t) (d.0 e) h, λ g. d.1 (Typed-unique env C t A B h g))

pub found_none : (env : Env) (C : List Ty) (t : Term) (B : Ty) → ((A : Ty) → ¬ Typed env C t A) → IsTrue false ↔ Typed env C t B
found_none env C t B h = (λ e. absurd (true≢false (sym e)), λ g. absurd (h B g))

-- The children, one after the other.
abbrev pub RestTyped : Env → List Ty → List Term → List Ty → ℕ → Type 0
RestTyped env C ts As i = AreTyped env C (terms (drop i ts)) (drop i As)

pub rest_step : (env : Env) (C : List Ty) (ts : List Term) (As : List Ty) (i : ℕ) (t : Term) (A : Ty) → t ≡ get_or ts i t → A ≡ get_or As i A → i < length ts → length ts ≡ length As →
    Typed env C t A → (RestTyped env C ts As i ↔ AreTyped env C (terms ts) As) → RestTyped env C ts As (i + 1) ↔ AreTyped env C (terms ts) As
rest_step env C ts As i t A p q h same typed d =
    let k : i < length As = omega arith in
    let e = drop_at ts i t p h in
    let f = drop_at As i A q k in (
      λ g. d.0 (subst (λ us. AreTyped env C (terms us) (drop i As)) (sym e) (subst (AreTyped env C (terms (t ∷ drop (i + 1) ts))) (sym f) (typed, g))),
      λ g. (subst (AreTyped env C (terms (t ∷ drop (i + 1) ts))) f (subst (λ us. AreTyped env C (terms us) (drop i As)) e (d.1 g))).1,
    )

pub rest_fails : (env : Env) (C : List Ty) (ts : List Term) (As : List Ty) (i : ℕ) (t : Term) (A : Ty) → t ≡ get_or ts i t → A ≡ get_or As i A → i < length ts → length ts ≡ length As →
    ¬ Typed env C t A → (RestTyped env C ts As i ↔ AreTyped env C (terms ts) As) → IsTrue false ↔ AreTyped env C (terms ts) As
rest_fails env C ts As i t A p q h same untyped d =
    let k : i < length As = omega arith in
    let e = drop_at ts i t p h in
    let f = drop_at As i A q k in (
      λ g. absurd (true≢false (sym g)),
      λ g. absurd (untyped (subst (AreTyped env C (terms (t ∷ drop (i + 1) ts))) f (subst (λ us. AreTyped env C (terms us) (drop i As)) e (d.1 g))).0),
    )

pub rest_ends : (env : Env) (C : List Ty) (ts : List Term) (As : List Ty) (i : ℕ) → length ts ≤ i → length ts ≡ length As →
    (RestTyped env C ts As i ↔ AreTyped env C (terms ts) As) → IsTrue true ↔ AreTyped env C (terms ts) As
rest_ends env C ts As i h same d =
    let k : length As ≤ i = omega arith in
    (λ g. d.0 (subst (λ us. AreTyped env C (terms us) (drop i As)) (sym (drop_all ts i h)) (subst (AreTyped env C nil) (sym (drop_all As i k)) tt)), λ g. refl)

pub typed_length : (env : Env) (C : List Ty) (ts : List Term) (As : List Ty) → AreTyped env C (terms ts) As → length ts ≡ length As
typed_length env C [] [] h = refl
typed_length env C [] (A ∷ As) h = absurd h
typed_length env C (t ∷ ts) [] h = absurd h
typed_length env C (t ∷ ts) (A ∷ As) h = ap suc (typed_length env C ts As h.1)

pub other_length : (env : Env) (C : List Ty) (ts : List Term) (As : List Ty) → (length ts ≡ length As → ⊥) → IsTrue false ↔ AreTyped env C (terms ts) As
other_length env C ts As h = (λ g. absurd (true≢false (sym g)), λ g. absurd (h (typed_length env C ts As g)))

-- The context under a symbol.
append_nil : (C : List Ty) → C ++ [] ≡ C
append_nil [] = refl
append_nil (A ∷ As) = ap (λ Bs. A ∷ Bs) (append_nil As)

pub inside_none : (C : List Ty) (s : Sym) (As : Tys) → binds s ≡ 0 → C ≡ inside C s As
inside_none C s As e = sym (ap (λ n. C ++ take n (type_list As)) e ∙ append_nil C)

pub inside_empty : (C : List Ty) (s : Sym) (As : Tys) → None ≡ slice_get (type_list As) 0 → C ≡ inside C s As
inside_empty C s As e = sym (ap (λ Bs. C ++ take (binds s) Bs) (empty (type_list As) e) ∙ ap (λ Bs. C ++ Bs) (taken (binds s)) ∙ append_nil C)
  where
    empty : (Bs : List Ty) → None ≡ slice_get Bs 0 → Bs ≡ []
    empty [] h = refl
    empty (B ∷ Bs) h = cc

    taken : (n : ℕ) → ◌≡◌ {A = List Ty} (take n []) []
    taken zero = refl
    taken (suc n) = refl

pub inside_one : (C : List Ty) (s : Sym) (As : Tys) (A : Ty) → (binds s ≡ 0 → ⊥) → Some A ≡ slice_get (type_list As) 0 → C ++ A ∷ [] ≡ inside C s As
inside_one C s As A h e =
    let n : binds s ≡ 1 = omega (arith, binds_le s) in
    sym (ap (λ k. C ++ take k (type_list As)) n ∙ ap (λ Bs. C ++ Bs) (first (type_list As) e))
  where
    first : (Bs : List Ty) → Some A ≡ slice_get Bs 0 → take 1 Bs ≡ A ∷ []
    first [] g = cc
    first (B ∷ Bs) g = let p : B ≡ A = cc in ap (λ x. x ∷ []) p

pub ruleset walk = (inner_depth, depth_at, both_views)
