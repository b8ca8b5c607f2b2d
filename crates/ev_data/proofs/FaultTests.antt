-- The faults of admission, as the tests say them.
use Rattle.std.proofs.Common.{◌≡◌, ℕ, zero, suc, ◌<◌, Bool as Boolean, true, false, List, [], ◌∷◌, length, map, get_or, ap, sym, ◌∙◌, subst, refl, arith, true≢false}
use Rattle.std.specs.Prelude.{◌≢◌, ◌||◌, ◌&&◌, ◌↔◌, not, nat_lt, IsTrue, Contains, slice_index_or, Result, Ok, Err}
use Rattle.std.specs.List.{AllByRecursion, list_any, list_all}
use Rattle.std.proofs.lemmas.Bool.Decides.{nat_tests}
use Rattle.ev_terms.specs.declared.types.Ty.{Ty}
use Rattle.ev_terms.specs.Measures.{type_params}
use Rattle.ev_typing.specs.declared.typing.DataDecl.{DataDecl}
use Rattle.ev_typing.specs.declared.typing.Con.{Con}
use Rattle.ev_typing.specs.declared.typing.Var.{Var}
use Rattle.ev_typing.specs.Env.{own_type, field_types}
use Rattle.ev_typing.specs.Occurs.{has_data}
use Rattle.ev_data.specs.declared.faults.DataFault.{DataFault}
use Rattle.ev_data.specs.declared.faults.DataFault.TheVariants.{NoBaseConstructor, NestedRecursion, ExtraTypeParameter}
use Rattle.ev_data.specs.Admission.{HasField, HasNoBase, IsNested, HasExtraParam, IsAdmittedData, IsAdmission}
use Rattle.ev_data.specs.Induction.{is_recursive}
use Rattle.ev_data.specs.inner.Tests.{has_field, is_nested, is_extra, has_no_base, has_nested, has_extra}
use Rattle.ev_data.proofs.RecursiveLaw.{recursive_is_own}

-- An item of which a test holds.
any_from : {X : Type 0} (test : X → Boolean) (xs : List X) → list_any test xs ≡ true → (x : X) × Contains xs x × (test x ≡ true)
any_from test [] h = absurd (true≢false (sym h))
any_from {X} test (x ∷ xs) h = by (test x) refl h (any_from test xs)
  where
    by : (b : Boolean) → test x ≡ b → (b || list_any test xs) ≡ true → (list_any test xs ≡ true → (y : X) × Contains xs y × (test y ≡ true)) → (y : X) × Contains (x ∷ xs) y × (test y ≡ true)
    by true e g k = (x, (0, omega arith, refl), e)
    by false e g k = let r = k g in (r.0, (suc r.1.0, omega (arith, r.1.1), r.1.2), r.2)

any_to : {X : Type 0} (test : X → Boolean) (xs : List X) (x : X) → Contains xs x → test x ≡ true → list_any test xs ≡ true
any_to test [] x c h = absurd (omega (arith, c.1))
any_to test (y ∷ ys) x c h = by c.0 c.1 c.2 (λ k l e. any_to test ys x (k, l, e) h)
  where
    later : (a b : Boolean) → b ≡ true → (a || b) ≡ true
    later true b e = refl
    later false b e = e

    by : (k : ℕ) → k < length (y ∷ ys) → slice_index_or (y ∷ ys) k x ≡ x → ((j : ℕ) → j < length ys → slice_index_or ys j x ≡ x → list_any test ys ≡ true) → list_any test (y ∷ ys) ≡ true
    by zero l e go = ap (λ z. test z || list_any test ys) e ∙ ap (λ b. b || list_any test ys) h
    by (suc k) l e go = later (test y) (list_any test ys) (go k (omega (arith, l)) e)

-- A type among those of a constructor's arguments.
field_in : (fs : List Var) (f : Var) → Contains fs f → Contains (map (λ (g : Var). g.ty) fs) f.ty
field_in [] f c = absurd (omega (arith, c.1))
field_in (g ∷ gs) f c = by c.0 c.1 c.2 (λ k l e. field_in gs f (k, l, e))
  where
    by : (k : ℕ) → k < length (g ∷ gs) → slice_index_or (g ∷ gs) k f ≡ f → ((j : ℕ) → j < length gs → slice_index_or gs j f ≡ f → Contains (map (λ (h : Var). h.ty) gs) f.ty) →
        Contains (map (λ (h : Var). h.ty) (g ∷ gs)) f.ty
    by zero l e go = (0, omega arith, ap (λ (h : Var). h.ty) e)
    by (suc k) l e go = let r = go k (omega (arith, l)) e in (suc r.0, omega (arith, r.1), r.2)

in_field : (fs : List Var) (A : Ty) → Contains (map (λ (g : Var). g.ty) fs) A → (f : Var) × Contains fs f × (f.ty ≡ A)
in_field [] A c = absurd (omega (arith, c.1))
in_field (g ∷ gs) A c = by c.0 c.1 c.2 (λ k l e. in_field gs A (k, l, e))
  where
    by : (k : ℕ) → k < length (map (λ (h : Var). h.ty) (g ∷ gs)) → slice_index_or (map (λ (h : Var). h.ty) (g ∷ gs)) k A ≡ A →
        ((j : ℕ) → j < length (map (λ (h : Var). h.ty) gs) → slice_index_or (map (λ (h : Var). h.ty) gs) j A ≡ A → (f : Var) × Contains gs f × (f.ty ≡ A)) →
        (f : Var) × Contains (g ∷ gs) f × (f.ty ≡ A)
    by zero l e go = (g, (0, omega arith, refl), e)
    by (suc k) l e go = let r = go k (omega (arith, l)) e in (r.0, (suc r.1.0, omega (arith, r.1.1), r.1.2), r.2)

has_field_from : (test : Ty → Boolean) (c : Con) → has_field test c ≡ true → (A : Ty) × Contains (field_types c) A × (test A ≡ true)
has_field_from test c h = let r = any_from (λ (g : Var). test g.ty) c.fields h in (r.0.ty, field_in c.fields r.0 r.1, r.2)

has_field_to : (test : Ty → Boolean) (c : Con) (A : Ty) → Contains (field_types c) A → test A ≡ true → has_field test c ≡ true
has_field_to test c A i h = let r = in_field c.fields A i in any_to (λ (g : Var). test g.ty) c.fields r.0 r.1 (ap test r.2 ∙ h)

some_field_from : (test : Ty → Boolean) (d : DataDecl) → list_any (has_field test) d.cons ≡ true → (A : Ty) × HasField d A × (test A ≡ true)
some_field_from test d h =
    let r = any_from (has_field test) d.cons h in
    let q = has_field_from test r.0 r.2 in
    (q.0, (r.0, r.1, q.1), q.2)

some_field_to : (test : Ty → Boolean) (d : DataDecl) (A : Ty) → HasField d A → test A ≡ true → list_any (has_field test) d.cons ≡ true
some_field_to test d A g h = any_to (has_field test) d.cons g.0 g.1 (has_field_to test g.0 A g.2 h)

-- The three faults.
all_from : (d : DataDecl) (cs : List Con) → list_all (has_field (is_recursive d)) cs ≡ true → AllByRecursion (λ c. Contains (field_types c) (own_type d)) cs
all_from d [] h = tt
all_from d (c ∷ cs) h = by (has_field (is_recursive d) c) refl h (all_from d cs)
  where
    by : (b : Boolean) → has_field (is_recursive d) c ≡ b → (b && list_all (has_field (is_recursive d)) cs) ≡ true →
        (list_all (has_field (is_recursive d)) cs ≡ true → AllByRecursion (λ k. Contains (field_types k) (own_type d)) cs) →
        AllByRecursion (λ k. Contains (field_types k) (own_type d)) (c ∷ cs)
    by true e g k =
        let r = has_field_from (is_recursive d) c e in
        (subst (Contains (field_types c)) ((recursive_is_own d r.0).0 r.2) r.1, k g)
    by false e g k = absurd (true≢false (sym g))

all_to : (d : DataDecl) (cs : List Con) → AllByRecursion (λ c. Contains (field_types c) (own_type d)) cs → list_all (has_field (is_recursive d)) cs ≡ true
all_to d [] h = refl
all_to d (c ∷ cs) h =
    ap (λ b. b && list_all (has_field (is_recursive d)) cs) (has_field_to (is_recursive d) c (own_type d) h.0 ((recursive_is_own d (own_type d)).1 refl)) ∙ all_to d cs h.1

pub no_base : (d : DataDecl) → has_no_base d ≡ true → HasNoBase d
no_base d h = all_from d d.cons h

pub no_base_test : (d : DataDecl) → HasNoBase d → has_no_base d ≡ true
no_base_test d h = all_to d d.cons h

nested_type : (d : DataDecl) (A : Ty) → is_nested d A ≡ true → IsTrue (has_data d.name A) × (A ≢ own_type d)
nested_type d A h = by (has_data d.name A) (is_recursive d A) refl refl h
  where
    by : (a b : Boolean) → has_data d.name A ≡ a → is_recursive d A ≡ b → (a && not b) ≡ true → IsTrue (has_data d.name A) × (A ≢ own_type d)
    by true true e g k = absurd (true≢false (sym k))
    by true false e g k = (e, λ o. true≢false (sym ((recursive_is_own d A).1 o) ∙ g))
    by false b e g k = absurd (true≢false (sym k))

nested_test : (d : DataDecl) (A : Ty) → IsTrue (has_data d.name A) → A ≢ own_type d → is_nested d A ≡ true
nested_test d A h ne = by (is_recursive d A) refl
  where
    by : (b : Boolean) → is_recursive d A ≡ b → is_nested d A ≡ true
    by true e = absurd (ne ((recursive_is_own d A).0 e))
    by false e = ap (λ a. a && not (is_recursive d A)) h ∙ ap not e

pub nests : (d : DataDecl) → has_nested d ≡ true → IsNested d
nests d h = let r = some_field_from (is_nested d) d h in let g = nested_type d r.0 r.2 in (r.0, r.1, g.0, g.1)

pub nests_test : (d : DataDecl) → IsNested d → has_nested d ≡ true
nests_test d g = some_field_to (is_nested d) d g.0 g.1 (nested_test d g.0 g.2 g.3)

more_than : (m n : ℕ) → nat_lt m n ≡ true → m < n
more_than m n e = grind (arith, nat_tests)

test_more : (m n : ℕ) → m < n → nat_lt m n ≡ true
test_more m n h = grind (arith, nat_tests)

pub exceeds : (d : DataDecl) → has_extra d ≡ true → HasExtraParam d
exceeds d h = let r = some_field_from (is_extra d) d h in (r.0, r.1, more_than d.params (type_params r.0) r.2)

pub exceeds_test : (d : DataDecl) → HasExtraParam d → has_extra d ≡ true
exceeds_test d g = some_field_to (is_extra d) d g.0 g.1 (test_more d.params (type_params g.0) g.2)

-- The answers.
refuted : (b : Boolean) (P : Type 0) → b ≡ false → (P → b ≡ true) → ¬ P
refuted b P e h p = true≢false (sym (h p) ∙ e)

pub first_fault : (d : DataDecl) (b : Boolean) → b ≡ has_no_base d → b ≡ true → IsAdmission d (Err NoBaseConstructor)
first_fault d b e h = no_base d (sym e ∙ h)

pub second_fault : (d : DataDecl) (b n : Boolean) → b ≡ has_no_base d → b ≡ false → n ≡ has_nested d → n ≡ true → IsAdmission d (Err NestedRecursion)
second_fault d b n e h f g = (refuted (has_no_base d) (HasNoBase d) (sym e ∙ h) (no_base_test d), nests d (sym f ∙ g))

pub third_fault : (d : DataDecl) (b n x : Boolean) → b ≡ has_no_base d → b ≡ false → n ≡ has_nested d → n ≡ false → x ≡ has_extra d → x ≡ true → IsAdmission d (Err ExtraTypeParameter)
third_fault d b n x e h f g k l = (
  refuted (has_no_base d) (HasNoBase d) (sym e ∙ h) (no_base_test d),
  refuted (has_nested d) (IsNested d) (sym f ∙ g) (nests_test d),
  exceeds d (sym k ∙ l),
)

pub no_fault : (d : DataDecl) (b n x : Boolean) → b ≡ has_no_base d → b ≡ false → n ≡ has_nested d → n ≡ false → x ≡ has_extra d → x ≡ false → IsAdmittedData d
no_fault d b n x e h f g k l = record {
  based = refuted (has_no_base d) (HasNoBase d) (sym e ∙ h) (no_base_test d);
  direct = refuted (has_nested d) (IsNested d) (sym f ∙ g) (nests_test d);
  parameters = refuted (has_extra d) (HasExtraParam d) (sym k ∙ l) (exceeds_test d);
}

pub ruleset faults = (first_fault, second_fault, third_fault, no_fault)
