-- Parsers that go down by fuel: what they answer from some fuel on.
use Rattle.std.proofs.Common.{◌≡◌, ℕ, zero, suc, ◌+◌, ◌≤◌, List, ap, sym, ◌∙◌, arith}
use Rattle.std.specs.Prelude.{Option, Some, max}
use Rattle.ev_syntax.specs.Tokens.{Token}
pub use Rattle.ev_syntax.specs.inner.Finding.{Found, on_found, Eventually}

pub always : {A : Type 0} (p : ℕ → Option A) (x : A) → ((g : ℕ) → p g ≡ Some x) → Eventually p x
always p x h = (0, λ g le. h g)

pub like : {A : Type 0} (p q : ℕ → Option A) (x : A) → ((g : ℕ) → p g ≡ q g) → Eventually q x → Eventually p x
like p q x h e = (e.0, λ g le. h g ∙ e.1 g le)

-- where each step takes one of the fuel
pub later : {A : Type 0} (p q : ℕ → Option A) (x : A) → ((g : ℕ) → p (suc g) ≡ q g) → Eventually q x → Eventually p x
later {A} p q x h e = (suc e.0, more)
  where
    more : (g : ℕ) → suc e.0 ≤ g → p g ≡ Some x
    more zero le = absurd (omega arith)
    more (suc g) le = h g ∙ e.1 g (omega arith)

pub and_then : {A B : Type 0} (p : ℕ → Option (Found A)) (k : ℕ → A → List Token → Option B) (x : A) (rest : List Token) (y : B)
    → Eventually p (x, rest) → Eventually (λ g. k g x rest) y → Eventually (λ g. on_found (p g) (k g)) y
and_then p k x rest y e d =
    (max e.0 d.0, λ g le. ap (λ o. on_found o (k g)) (e.1 g (omega arith)) ∙ d.1 g (omega arith))

pub same_answer : {A : Type 0} (p : ℕ → Option A) (x y : A) → Eventually p x → Eventually p y → x ≡ y
same_answer {A} p x y e d = inj x y (sym (e.1 (e.0 + d.0) (omega arith)) ∙ d.1 (e.0 + d.0) (omega arith))
  where
    inj : (x y : A) → Some x ≡ Some y → x ≡ y
    inj x y e = cc
