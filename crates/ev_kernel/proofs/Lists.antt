-- Lists of types and of terms that are compared.
use Rattle.std.specs.Prelude.{◌↔◌, Bool as Boolean, false, Option, IsTrue, slice_get}
use Rattle.std.proofs.Common.{◌≡◌, ℕ, zero, suc, ◌+◌, ◌<◌, ◌≤◌, refl, List, [], ◌∷◌, ◌++◌, length, take, map, get_or, ap, sym, ◌∙◌, subst as transport, arith, add-one}
use Rattle.std.specs.List.{AllByRecursion}
use Rattle.ev_terms.specs.declared.types.Ty.{Ty}
use Rattle.ev_terms.specs.declared.types.Tys.{Tys, Empty}
use Rattle.ev_terms.specs.declared.types.Tys.TheVariants.{More}
use Rattle.ev_terms.specs.Types.{more, type_list, More-more}
use Rattle.ev_terms.proofs.TypeSteps.{type_list-More}
use Rattle.ev_terms.proofs.Children.{drop_at, drop_all}
use Rattle.ev_typing.specs.TypeLists.{types}
use Rattle.ev_typing.proofs.Laws.{types-type_list}
use Rattle.ev_typing.proofs.Names.{all_append}
use Rattle.ev_kernel.specs.inner.Contexts.{optional}

pub extended-More : (A : Ty) (rest : Tys) (B : Ty) → types (type_list (More A rest) ++ B ∷ []) ≡ More A (types (type_list rest ++ B ∷ []))
extended-More A rest B = ap (λ As. types (As ++ B ∷ [])) (type_list-More A rest) ∙ sym (More-more A (types (type_list rest ++ B ∷ [])))

pub extended-Empty : (B : Ty) → types (type_list Empty ++ B ∷ []) ≡ More B Empty
extended-Empty B = sym (More-more B Empty)

pub ruleset one_more_type = (extended-More, extended-Empty, More-more)

pub ruleset lists = (drop_at, drop_all)

pub ruleset maps = (drop_at, drop_all)

-- One more item that is the image of the item at its place.
pub image_step : {X Y : Type 0} (f : X → Y) (ys : List Y) (xs : List X) (i : ℕ) (y : Y) (x : X) → take i ys ≡ take i (map f xs) → y ≡ get_or ys i y → x ≡ get_or xs i x →
    i < length ys → length ys ≡ length xs → y ≡ f x → take (i + 1) ys ≡ take (i + 1) (map f xs)
image_step f ys xs i y x e p q h l g = ap (λ k. take k ys) (add-one i) ∙ one_more_image f ys xs i y x e p q h l g ∙ ap (λ k. take k (map f xs)) (sym (add-one i))
  where
    one_more_image : {X Y : Type 0} (f : X → Y) (ys : List Y) (xs : List X) (i : ℕ) (y : Y) (x : X) → take i ys ≡ take i (map f xs) → y ≡ get_or ys i y → x ≡ get_or xs i x →
        i < length ys → length ys ≡ length xs → y ≡ f x → take (suc i) ys ≡ take (suc i) (map f xs)
    one_more_image f [] xs i y x e p q h l g = absurd (omega arith)
    one_more_image f (y' ∷ ys) [] i y x e p q h l g = absurd (omega (arith, l))
    one_more_image f (y' ∷ ys) (x' ∷ xs) zero y x e p q h l g = ap (λ z. z ∷ []) (sym p ∙ g ∙ ap f q)
    one_more_image f (y' ∷ ys) (x' ∷ xs) (suc i) y x e p q h l g =
        let r : take i ys ≡ take i (map f xs) = cc in
        let s : y' ≡ f x' = cc in
        let k : length ys ≡ length xs = omega (arith, l) in
        ap (λ z. z ∷ take (suc i) ys) s ∙ ap (λ zs. f x' ∷ zs) (one_more_image f ys xs i y x r p q (omega (arith, h)) k g)

-- The types with one more behind them.
more_parts : (A B : Ty) (As Bs : Tys) → More A As ≡ More B Bs → (A ≡ B) × (As ≡ Bs)
more_parts A B As Bs e =
    let h : A ∷ type_list As ≡ B ∷ type_list Bs = sym (type_list-More A As) ∙ ap type_list e ∙ type_list-More B Bs in
    let k : type_list As ≡ type_list Bs = cc in
    (cc, sym (types-type_list As) ∙ ap types k ∙ types-type_list Bs)

extended_by : (L S : Tys) (B C : Ty) (others : Tys) → S ≡ More B others → types (type_list S ++ C ∷ []) ≡ More B (types (type_list others ++ C ∷ []))
extended_by L S B C others e = ap (λ x. types (type_list x ++ C ∷ [])) e ∙ extended-More B others C

-- One step along both lists: the same type in front, and the rest.
pub extends_more : (L S : Tys) (A B C : Ty) (rest rest' others others' : Tys) → L ≡ More A rest → S ≡ More B others → rest' ≡ rest → others' ≡ others → A ≡ B →
    (rest' ≡ types (type_list others' ++ C ∷ [])) ↔ (L ≡ types (type_list S ++ C ∷ []))
extends_more L S A B C rest rest' others others' e f g h a = (
  λ y. e ∙ ap (λ x. More x rest) a ∙ ap (λ x. More B x) (sym g ∙ y ∙ ap (λ x. types (type_list x ++ C ∷ [])) h) ∙ sym (extended_by L S B C others f),
  λ y. g ∙ (more_parts A B rest (types (type_list others ++ C ∷ [])) (sym e ∙ y ∙ extended_by L S B C others f)).1 ∙ ap (λ x. types (type_list x ++ C ∷ [])) (sym h),
)

pub extends_other : (L S : Tys) (A B C : Ty) (rest others : Tys) → L ≡ More A rest → S ≡ More B others → ¬ (A ≡ B) → ¬ (L ≡ types (type_list S ++ C ∷ []))
extends_other L S A B C rest others e f n y = n (more_parts A B rest (types (type_list others ++ C ∷ [])) (sym e ∙ y ∙ extended_by L S B C others f)).0

-- The list of one type.
pub only_rest : (L : Tys) (A A' B : Ty) (rest rest' : Tys) (b : Boolean) → L ≡ More A rest → A' ≡ A → rest' ≡ rest → A' ≡ B → (IsTrue b ↔ (rest' ≡ Empty)) →
    IsTrue b ↔ (L ≡ more B Empty)
only_rest L A A' B rest rest' b e f g a d =
    let h : more B Empty ≡ More A Empty = sym (More-more B Empty) ∙ ap (λ x. More x Empty) (sym a ∙ f) in (
      λ y. e ∙ ap (More A) (sym g ∙ d.0 y) ∙ sym h,
      λ y. d.1 (g ∙ (more_parts A A rest Empty (sym e ∙ y ∙ h)).1),
    )

pub only_other : (L : Tys) (A A' B : Ty) (rest : Tys) (b : Boolean) → L ≡ More A rest → A' ≡ A → (IsTrue b ↔ (A' ≡ B)) → b ≡ false → IsTrue b ↔ (L ≡ more B Empty)
only_other L A A' B rest b e f d n = (
  λ y. cc,
  λ y. d.1 (f ∙ (more_parts A B rest Empty (sym e ∙ y ∙ sym (More-more B Empty))).0),
)

-- the first type, if any
pub first_type : (As : List Ty) (n : ℕ) (o : Option Ty) → (n ≡ 0 → ⊥) → n ≤ 1 → o ≡ slice_get As 0 → optional o ≡ take n As
first_type As n o h l e = let p : n ≡ 1 = omega (arith, h) in ap optional e ∙ first As ∙ ap (λ k. take k As) (sym p)
  where
    first : (Bs : List Ty) → optional (slice_get Bs 0) ≡ take 1 Bs
    first [] = refl
    first (B ∷ Bs) = refl

-- one more number within the count
pub one_more_number : (ns new : List ℕ) (n count : ℕ) → AllByRecursion (λ k. (1 ≤ k) × (k ≤ count)) ns → new ≡ ns ++ n ∷ [] → 1 ≤ n → n ≤ count → AllByRecursion (λ k. (1 ≤ k) × (k ≤ count)) new
one_more_number ns new n count h e l m =
    transport (AllByRecursion (λ k. (1 ≤ k) × (k ≤ count))) (sym e) (all_append (λ k. (1 ≤ k) × (k ≤ count)) ns (n ∷ []) h ((l, m), tt))
