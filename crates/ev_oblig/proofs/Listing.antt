-- Lists of obligations that grow at their end.
use Rattle.std.proofs.Common.{◌≡◌, ◌≢◌, ◌↔◌, ℕ, zero, suc, ◌+◌, ◌≤◌, ◌<◌, Bool as Boolean, true, false, List, [], ◌∷◌, ◌++◌, length, drop, get_or, min, append_assoc, ap, sym, ◌∙◌, subst, refl, arith}
use Rattle.std.specs.Prelude.{flat_map, zip, if◌then◌else◌}
use Rattle.std.specs.List.{enumerate_from}
use Rattle.ev_terms.specs.declared.obligation.ObKind.{ObKind}
use Rattle.ev_terms.specs.Term.{Term}
use Rattle.ev_forms.specs.Forms.{truth, is_truth}
use Rattle.ev_typing.proofs.Names.{drop_at, drop_all}
use Rattle.ev_wd.specs.Limits.{IsSmall}
use Rattle.ev_wd.proofs.Making.{truth_only, no_truth, truth_small}
use Rattle.ev_oblig.specs.declared.named.Named.{Named}
use Rattle.ev_oblig.specs.Obligations.{named, wd_named, AreSmall}

append_nil : {X : Type 0} (xs : List X) → xs ++ [] ≡ xs
append_nil [] = refl
append_nil (x ∷ xs) = ap (λ ys. x ∷ ys) (append_nil xs)

-- a well-definedness obligation
pub wd_absent : (xs : List Named) (k : ObKind) (P : Term) → P ≡ truth → xs ≡ xs ++ wd_named k P
wd_absent xs k P e = sym (append_nil xs) ∙ sym (ap (λ t. xs ++ wd_named k t) e)

pub wd_present : (xs : List Named) (k : ObKind) (P : Term) → P ≢ truth → xs ++ named k P ∷ [] ≡ xs ++ wd_named k P
wd_present xs k P h = sym (ap (λ (b : Boolean). xs ++ (if b then [] else named k P ∷ [])) (no_truth P h))

pub ruleset conditions = (wd_absent, wd_present)

pub wd_small : (k : ObKind) (P : Term) → AreSmall (wd_named k P) → IsSmall P
wd_small k P h = by (is_truth P) (truth_only P) h
  where
    by : (b : Boolean) → (b ≡ true → P ≡ truth) → AreSmall (if b then [] else named k P ∷ []) → IsSmall P
    by true e g = subst IsSmall (sym (e refl)) truth_small
    by false e g = g.0

-- what is small is so in each of its parts
pub small_after : (xs ys : List Named) → AreSmall (xs ++ ys) → AreSmall ys
small_after [] ys h = h
small_after (x ∷ xs) ys h = small_after xs ys h.1

pub small_before : (xs ys : List Named) → AreSmall (xs ++ ys) → AreSmall xs
small_before [] ys h = tt
small_before (x ∷ xs) ys h = (h.0, small_before xs ys h.1)

-- the parts of numbered items, appended
pub more_parts : {X : Type 0} (f : ℕ × X → List Named) (xs rest : List X) (i : ℕ) (x : X) (ys zs all : List Named) → xs ≡ x ∷ rest → zs ≡ ys ++ f (i + 1, x) →
    ys ++ flat_map f (enumerate_from (i + 1) xs) ≡ all → zs ++ flat_map f (enumerate_from (i + 1 + 1) rest) ≡ all
more_parts f xs rest i x ys zs all p e q =
    ap (λ us. us ++ flat_map f (enumerate_from (i + 1 + 1) rest)) e ∙ append_assoc ys (f (i + 1, x)) (flat_map f (enumerate_from (i + 1 + 1) rest))
    ∙ sym (ap (λ us. ys ++ flat_map f (enumerate_from (i + 1) us)) p) ∙ q

pub part_small : {X : Type 0} (f : ℕ × X → List Named) (xs rest : List X) (i : ℕ) (x : X) (ys all : List Named) → xs ≡ x ∷ rest →
    ys ++ flat_map f (enumerate_from (i + 1) xs) ≡ all → AreSmall all → AreSmall (f (i + 1, x))
part_small f xs rest i x ys all p q h =
    small_before (f (i + 1, x)) (flat_map f (enumerate_from (i + 1 + 1) rest))
    (small_after ys (f (i + 1, x) ++ flat_map f (enumerate_from (i + 1 + 1) rest)) (subst AreSmall (sym q ∙ ap (λ us. ys ++ flat_map f (enumerate_from (i + 1) us)) p) h))

pub no_parts : {X : Type 0} (f : ℕ × X → List Named) (xs : List X) (n : ℕ) (ys all : List Named) → xs ≡ [] → ys ++ flat_map f (enumerate_from n xs) ≡ all → ys ≡ all
no_parts f xs n ys all p q = sym (append_nil ys) ∙ sym (ap (λ us. ys ++ flat_map f (enumerate_from n us)) p) ∙ q

-- pairs of two lists
pub pairs_at : {X Y : Type 0} (xs : List X) (ys : List Y) (i : ℕ) (x : X) (y : Y) → x ≡ get_or xs i x → i < length xs → y ≡ get_or ys i y → i < length ys →
    zip (drop i xs) (drop i ys) ≡ (x, y) ∷ zip (drop (i + 1) xs) (drop (i + 1) ys)
pairs_at xs ys i x y p h q g = ap (λ us. zip us (drop i ys)) (drop_at xs i x p h) ∙ ap (zip (x ∷ drop (i + 1) xs)) (drop_at ys i y q g)

no_second : {X Y : Type 0} (us : List X) (vs : List Y) → vs ≡ [] → zip us vs ≡ []
no_second [] vs e = refl
no_second (u ∷ us) [] e = refl
no_second (u ∷ us) (v ∷ vs) e = cc

pub no_pairs : {X Y : Type 0} (xs : List X) (ys : List Y) (i : ℕ) → min (length xs) (length ys) ≤ i → zip (drop i xs) (drop i ys) ≡ []
no_pairs [] ys zero h = refl
no_pairs [] ys (suc i) h = refl
no_pairs (x ∷ xs) [] zero h = refl
no_pairs (x ∷ xs) [] (suc i) h = no_second (drop i xs) [] refl
no_pairs (x ∷ xs) (y ∷ ys) zero h = absurd (omega (arith, h))
no_pairs (x ∷ xs) (y ∷ ys) (suc i) h = no_pairs xs ys i (omega (arith, h))

-- whether all are small: what is left is so just where the whole is
pub small_begin : (xs : List Named) → AreSmall (drop 0 xs) ↔ AreSmall xs
small_begin xs = (λ h. h, λ h. h)

pub small_next : (xs : List Named) (i : ℕ) (x : Named) → x ≡ get_or xs i x → i < length xs → IsSmall x.goal → (AreSmall (drop i xs) ↔ AreSmall xs) → AreSmall (drop (i + 1) xs) ↔ AreSmall xs
small_next xs i x p h s g =
    (λ k. g.0 (subst AreSmall (sym (drop_at xs i x p h)) (s, k)), λ k. (subst AreSmall (drop_at xs i x p h) (g.1 k)).1)

pub small_done : (xs : List Named) (i : ℕ) → length xs ≤ i → (AreSmall (drop i xs) ↔ AreSmall xs) → AreSmall xs
small_done xs i h g = g.0 (subst AreSmall (sym (drop_all xs i h)) tt)

pub large_here : (xs : List Named) (i : ℕ) (x : Named) → x ≡ get_or xs i x → i < length xs → ¬ IsSmall x.goal → (AreSmall (drop i xs) ↔ AreSmall xs) → ¬ AreSmall xs
large_here xs i x p h s g k = s (subst AreSmall (drop_at xs i x p h) (g.1 k)).0

pub ruleset walk = (small_begin, small_next, small_done, large_here)

pub ruleset numbered = (no_pairs, no_parts)
