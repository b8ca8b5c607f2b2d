-- Codes that begin with different numbers.
use Rattle.std.specs.Prelude.{◌≡◌, ℕ, false}
use Rattle.std.proofs.Common.{ap, sym, ◌∙◌, true≢false}
use Rattle.std.proofs.Math.Dec.{eqb}
use Rattle.std.proofs.lemmas.Bool.{eq-eqb}
use base.Stored.{Gv, gnum, gcons}

-- the number that a code begins with
abbrev pub tag : Gv → ℕ
tag (gcons (gnum n) rest) = n
tag _ = 0

pub clash : (A : Type 0) (x y : Gv) → eqb (tag x) (tag y) ≡ false → x ≡ y → A
clash A x y e f = absurd (true≢false (sym (eq-eqb _ _ (ap tag f)) ∙ e))
