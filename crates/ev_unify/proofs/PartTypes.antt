-- The types of parts by their heads and children.
use Rattle.std.specs.Prelude.{◌≡◌, ℕ, ◌+◌, ◌<◌, false, List, map, length, slice_index, slice_index_or}
use Rattle.std.proofs.Common.{ap, sym, ◌∙◌, arith}
use Rattle.std.proofs.lemmas.List.{length-map, get_or-map, ext_get_or}
use Rattle.ev_terms.specs.declared.types.Ty.{Ty}
use Rattle.ev_terms.specs.Measures.{type_size}
use Rattle.ev_unify.specs.declared.patterns.Pat.{Pat, Int}
use Rattle.ev_unify.specs.Patterns.{value}
use Rattle.ev_unify.specs.inner.Parts.{children_of, is_unknown}
use Rattle.ev_unify.specs.inner.Numbered.{part, type_of, IsFlat}
use Rattle.ev_unify.specs.inner.Links.{SameChildren, NeverSame}
use Rattle.ev_unify.specs.inner.Clashes.{SameForm}
use Rattle.ev_unify.proofs.Parts.{value_by, head_by, children_by, smaller_child}

-- the type of a child
child_type : (σ : ℕ → Ty) (P : List Pat) (F : List ℕ) → IsFlat P F → (i k : ℕ) → i < length P → k < length (children_of (part P i)) → type_of σ P (slice_index F i + k) ≡ slice_index_or (map (value σ) (children_of (part P i))) k (value σ Int)
child_type σ P F t i k h l = ap (value σ) (t.parts i k h l) ∙ sym (get_or-map (value σ) (children_of (part P i)) k Int (value σ Int) l)

pub type_by_children : (σ : ℕ → Ty) (P : List Pat) (F : List ℕ) → IsFlat P F → (i j : ℕ) → i < length P → j < length P → is_unknown (part P i) ≡ false → is_unknown (part P j) ≡ false → SameChildren (type_of σ P) P F i j → type_of σ P i ≡ type_of σ P j
type_by_children σ P F t i j hi hj known known' s =
    let xs : List Ty = map (value σ) (children_of (part P i)) in
    let ys : List Ty = map (value σ) (children_of (part P j)) in
    let nx : length xs ≡ length (children_of (part P i)) = length-map (children_of (part P i)) (value σ) in
    let ny : length ys ≡ length (children_of (part P j)) = length-map (children_of (part P j)) (value σ) in
    let same : xs ≡ ys = ext_get_or (value σ Int) xs ys (nx ∙ s.counts ∙ sym ny) (λ k l.
    let l' : k < length (children_of (part P i)) = omega (arith, l, nx) in
    sym (child_type σ P F t i k hi l') ∙ s.children k l' ∙ child_type σ P F t j k hj (omega (arith, l', s.counts))) in
    value_by σ (part P i) (part P j) known known' s.heads same

pub children_by_type : (σ : ℕ → Ty) (P : List Pat) (F : List ℕ) → IsFlat P F → (i j : ℕ) → i < length P → j < length P → is_unknown (part P i) ≡ false → is_unknown (part P j) ≡ false → type_of σ P i ≡ type_of σ P j → SameChildren (type_of σ P) P F i j
children_by_type σ P F t i j hi hj known known' e =
    let same : map (value σ) (children_of (part P i)) ≡ map (value σ) (children_of (part P j)) = children_by σ (part P i) (part P j) known known' e in
    let counts : length (children_of (part P i)) ≡ length (children_of (part P j)) = sym (length-map (children_of (part P i)) (value σ)) ∙ ap length same ∙ length-map (children_of (part P j)) (value σ) in
    record {
      heads = head_by σ (part P i) (part P j) known known' e;
      counts = counts;
      children = λ k l. child_type σ P F t i k hi l ∙ ap (λ xs. slice_index_or xs k (value σ Int)) same ∙ sym (child_type σ P F t j k hj (omega (arith, l, counts)));
    }

pub child_smaller : (σ : ℕ → Ty) (P : List Pat) (F : List ℕ) → IsFlat P F → (i k : ℕ) → i < length P → k < length (children_of (part P i)) → type_size (type_of σ P (slice_index F i + k)) < type_size (type_of σ P i)
child_smaller σ P F t i k h l =
    let e : type_size (type_of σ P (slice_index F i + k)) ≡ type_size (value σ (slice_index_or (children_of (part P i)) k Int)) = ap (λ p. type_size (value σ p)) (t.parts i k h l) in
    omega (arith, e, smaller_child σ (part P i) k l)

pub never_same : (P : List Pat) (F : List ℕ) → IsFlat P F → (i j : ℕ) → i < length P → j < length P → is_unknown (part P i) ≡ false → is_unknown (part P j) ≡ false → (SameForm P i j → ⊥) → NeverSame P i j
never_same P F t i j hi hj known known' n σ e =
    let s : SameChildren (type_of σ P) P F i j = children_by_type σ P F t i j hi hj known known' e in
    n (record { heads = s.heads; counts = s.counts })
