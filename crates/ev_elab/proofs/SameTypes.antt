-- Whether two types are the same can be told, so what is not denied of them holds.
use Rattle.std.specs.Prelude.{◌≡◌, ◌&&◌, ◌==◌, Bool as Boolean, true, false, bytes_eq, Option, Some, None, refl}
use Rattle.std.proofs.Common.{ap, sym, ◌∙◌, subst as transport, true≢false}
use Rattle.std.proofs.lemmas.Bool.{eqb-true, eq-eqb, and_from}
use Rattle.ev_terms.specs.declared.types.Ty.{Ty, Int, Bool, Prop, Param, Data}
use Rattle.ev_terms.specs.declared.types.Tys.{Tys, Empty}
use Rattle.ev_terms.specs.Types.{pow, prod, more}
use Rattle.ev_typing.proofs.Names.{same_name, name_same}
use Rattle.ev_typing.proofs.Proper.{and_split}

abbrev mutual
  same : Ty → Ty → Boolean
  same Int Int = true
  same Int Bool = false
  same Int Prop = false
  same Int (Param j) = false
  same Int (pow C) = false
  same Int (prod C D) = false
  same Int (Data n Cs) = false
  same Bool Int = false
  same Bool Bool = true
  same Bool Prop = false
  same Bool (Param j) = false
  same Bool (pow C) = false
  same Bool (prod C D) = false
  same Bool (Data n Cs) = false
  same Prop Int = false
  same Prop Bool = false
  same Prop Prop = true
  same Prop (Param j) = false
  same Prop (pow C) = false
  same Prop (prod C D) = false
  same Prop (Data n Cs) = false
  same (Param i) Int = false
  same (Param i) Bool = false
  same (Param i) Prop = false
  same (Param i) (Param j) = i == j
  same (Param i) (pow C) = false
  same (Param i) (prod C D) = false
  same (Param i) (Data n Cs) = false
  same (pow A) Int = false
  same (pow A) Bool = false
  same (pow A) Prop = false
  same (pow A) (Param j) = false
  same (pow A) (pow C) = same A C
  same (pow A) (prod C D) = false
  same (pow A) (Data n Cs) = false
  same (prod A B) Int = false
  same (prod A B) Bool = false
  same (prod A B) Prop = false
  same (prod A B) (Param j) = false
  same (prod A B) (pow C) = false
  same (prod A B) (prod C D) = same A C && same B D
  same (prod A B) (Data n Cs) = false
  same (Data m As) Int = false
  same (Data m As) Bool = false
  same (Data m As) Prop = false
  same (Data m As) (Param j) = false
  same (Data m As) (pow C) = false
  same (Data m As) (prod C D) = false
  same (Data m As) (Data n Cs) = bytes_eq m n && all_same As Cs

  all_same : Tys → Tys → Boolean
  all_same Empty Empty = true
  all_same Empty (more C Cs) = false
  all_same (more A As) Empty = false
  all_same (more A As) (more C Cs) = same A C && all_same As Cs

mutual
  same_is : (A B : Ty) → same A B ≡ true → A ≡ B
  same_is Int Int e = refl
  same_is Int Bool e = absurd (true≢false (sym e))
  same_is Int Prop e = absurd (true≢false (sym e))
  same_is Int (Param j) e = absurd (true≢false (sym e))
  same_is Int (pow C) e = absurd (true≢false (sym e))
  same_is Int (prod C D) e = absurd (true≢false (sym e))
  same_is Int (Data n Cs) e = absurd (true≢false (sym e))
  same_is Bool Int e = absurd (true≢false (sym e))
  same_is Bool Bool e = refl
  same_is Bool Prop e = absurd (true≢false (sym e))
  same_is Bool (Param j) e = absurd (true≢false (sym e))
  same_is Bool (pow C) e = absurd (true≢false (sym e))
  same_is Bool (prod C D) e = absurd (true≢false (sym e))
  same_is Bool (Data n Cs) e = absurd (true≢false (sym e))
  same_is Prop Int e = absurd (true≢false (sym e))
  same_is Prop Bool e = absurd (true≢false (sym e))
  same_is Prop Prop e = refl
  same_is Prop (Param j) e = absurd (true≢false (sym e))
  same_is Prop (pow C) e = absurd (true≢false (sym e))
  same_is Prop (prod C D) e = absurd (true≢false (sym e))
  same_is Prop (Data n Cs) e = absurd (true≢false (sym e))
  same_is (Param i) Int e = absurd (true≢false (sym e))
  same_is (Param i) Bool e = absurd (true≢false (sym e))
  same_is (Param i) Prop e = absurd (true≢false (sym e))
  same_is (Param i) (Param j) e = ap Param (eqb-true i j e)
  same_is (Param i) (pow C) e = absurd (true≢false (sym e))
  same_is (Param i) (prod C D) e = absurd (true≢false (sym e))
  same_is (Param i) (Data n Cs) e = absurd (true≢false (sym e))
  same_is (pow A) Int e = absurd (true≢false (sym e))
  same_is (pow A) Bool e = absurd (true≢false (sym e))
  same_is (pow A) Prop e = absurd (true≢false (sym e))
  same_is (pow A) (Param j) e = absurd (true≢false (sym e))
  same_is (pow A) (pow C) e = ap (λ x. pow x) (same_is A C e)
  same_is (pow A) (prod C D) e = absurd (true≢false (sym e))
  same_is (pow A) (Data n Cs) e = absurd (true≢false (sym e))
  same_is (prod A B) Int e = absurd (true≢false (sym e))
  same_is (prod A B) Bool e = absurd (true≢false (sym e))
  same_is (prod A B) Prop e = absurd (true≢false (sym e))
  same_is (prod A B) (Param j) e = absurd (true≢false (sym e))
  same_is (prod A B) (pow C) e = absurd (true≢false (sym e))
  same_is (prod A B) (prod C D) e = let p = and_split (same A C) (same B D) e in ap (λ x. prod x B) (same_is A C p.0) ∙ ap (λ x. prod C x) (same_is B D p.1)
  same_is (prod A B) (Data n Cs) e = absurd (true≢false (sym e))
  same_is (Data m As) Int e = absurd (true≢false (sym e))
  same_is (Data m As) Bool e = absurd (true≢false (sym e))
  same_is (Data m As) Prop e = absurd (true≢false (sym e))
  same_is (Data m As) (Param j) e = absurd (true≢false (sym e))
  same_is (Data m As) (pow C) e = absurd (true≢false (sym e))
  same_is (Data m As) (prod C D) e = absurd (true≢false (sym e))
  same_is (Data m As) (Data n Cs) e = let p = and_split (bytes_eq m n) (all_same As Cs) e in ap (λ x. Data x As) (same_name m n p.0) ∙ ap (Data n) (all_same_are As Cs p.1)

  all_same_are : (As Bs : Tys) → all_same As Bs ≡ true → As ≡ Bs
  all_same_are Empty Empty e = refl
  all_same_are Empty (more C Cs) e = absurd (true≢false (sym e))
  all_same_are (more A As) Empty e = absurd (true≢false (sym e))
  all_same_are (more A As) (more C Cs) e = let p = and_split (same A C) (all_same As Cs) e in ap (λ x. more x As) (same_is A C p.0) ∙ ap (λ xs. more C xs) (all_same_are As Cs p.1)

mutual
  is_same : (A : Ty) → same A A ≡ true
  is_same Int = refl
  is_same Bool = refl
  is_same Prop = refl
  is_same (Param i) = eq-eqb i i refl
  is_same (pow A) = is_same A
  is_same (prod A B) = and_from (same A A) (same B B) (is_same A) (is_same B)
  is_same (Data n As) = and_from (bytes_eq n n) (all_same As As) (name_same n) (are_same As)

  are_same : (As : Tys) → all_same As As ≡ true
  are_same Empty = refl
  are_same (more A As) = and_from (same A A) (all_same As As) (is_same A) (are_same As)

-- What is not denied.
abbrev pub IsStable : Type 0 → Type 0
IsStable P = ¬ ¬ P → P

told : {P : Type 0} (b : Boolean) → (b ≡ true → P) → (P → b ≡ true) → IsStable P
told true f g h = f refl
told false f g h = absurd (h (λ p. true≢false (sym (g p))))

pub types_stable : (As Bs : Tys) → IsStable (As ≡ Bs)
types_stable As Bs = told (all_same As Bs) (all_same_are As Bs) (λ e. transport (λ Cs. all_same As Cs ≡ true) e (are_same As))

type_stable : (A B : Ty) → IsStable (A ≡ B)
type_stable A B = told (same A B) (same_is A B) (λ e. transport (λ C. same A C ≡ true) e (is_same A))

pub optional_stable : (o : Option Ty) (A : Ty) → IsStable (o ≡ Some A)
optional_stable None A h = absurd (h (λ e. cc))
optional_stable (Some B) A h = ap Some (type_stable B A (λ k. h (λ e. k (let q : B ≡ A = cc in q))))
