-- Rows of tables that are looked up.
use Rattle.std.proofs.Common.{◌≡◌, ℕ, zero, suc, List, [], ◌∷◌, refl, ap, ◌∙◌}
use Rattle.std.specs.Prelude.{Option, Some, None, slice_get, slice_index_or}
use Rattle.std.specs.Option.{unwrap_or}

pub unwrap_row : {X : Type 0} (xs : List X) (i : ℕ) (d : X) → unwrap_or (slice_get xs i) d ≡ slice_index_or xs i d
unwrap_row [] i d = refl
unwrap_row (y ∷ ys) zero d = refl
unwrap_row (y ∷ ys) (suc i) d = unwrap_row ys i d

pub row_there : {X : Type 0} (xs ys : List X) (i : ℕ) (d r : X) (o : Option X) → xs ≡ ys → o ≡ slice_get xs i → r ≡ unwrap_or o d → r ≡ slice_index_or ys i d
row_there xs ys i d r o same e f = f ∙ ap (λ p. unwrap_or p d) (e ∙ ap (λ zs. slice_get zs i) same) ∙ unwrap_row ys i d

pub some_there : {X : Type 0} (xs ys : List X) (i : ℕ) (d x : X) → xs ≡ ys → Some x ≡ slice_get xs i → x ≡ slice_index_or ys i d
some_there xs ys i d x same e = ap (λ o. unwrap_or o d) (e ∙ ap (λ zs. slice_get zs i) same) ∙ unwrap_row ys i d

pub none_there : {X : Type 0} (xs ys : List X) (i : ℕ) (d : X) → xs ≡ ys → None ≡ slice_get xs i → d ≡ slice_index_or ys i d
none_there xs ys i d same e = ap (λ o. unwrap_or o d) (e ∙ ap (λ zs. slice_get zs i) same) ∙ unwrap_row ys i d
