-- The only subgoals of a step.
use Rattle.std.proofs.Common.{◌≡◌, List, Option, Some, None, Result, Ok, Err, ap, sym, subst, ◌∙◌}
use Rattle.std.specs.Prelude.{IfOk}
use Rattle.ev_terms.specs.Term.{Term}
use Rattle.ev_typing.specs.declared.typing.Sequent.{Sequent}
use Rattle.ev_kernel.specs.Row.{Fits}
use Rattle.ev_replay.specs.inner.Finding.{Only}

-- a property that says what the value is
pub only_equal : {X : Type 0} (x y : X) → y ≡ x → Only (λ z. z ≡ x) (Some y)
only_equal x y e = (e, λ z h. h ∙ sym e)

-- A goal that is made of two parts.
pub fits_two : {X Y : Type 0} (S : Sequent) (make : X → Y → Term) (premises : X → Y → List Sequent)
    → ((x x' : X) (y y' : Y) → make x y ≡ make x' y' → (x ≡ x') × (y ≡ y'))
    → (x : X) (y : Y) (gs : List Sequent) → S.goal ≡ make x y → gs ≡ premises x y
    → Only (λ hs. (x : X) × (y : Y) × Fits S hs (make x y) (premises x y)) (Some gs)
fits_two S make premises one x y gs e f = (
  (x, y, record { concludes = e; premises_are = f }),
  λ hs h.
      let same = one h.0 x h.1 y (sym h.2.concludes ∙ e) in
      h.2.premises_are ∙ ap (λ a. premises a h.1) same.0 ∙ ap (premises x) same.1 ∙ sym f,
)

pub fits_no_two : {X Y : Type 0} (S : Sequent) (make : X → Y → Term) (premises : X → Y → List Sequent) → ((x : X) (y : Y) → ¬ (S.goal ≡ make x y))
    → Only (λ hs. (x : X) × (y : Y) × Fits S hs (make x y) (premises x y)) None
fits_no_two S make premises never hs h = never h.0 h.1 h.2.concludes

-- A goal that is made of one.
pub fits_one : (S : Sequent) (make : Term → Term) (premises : Term → List Sequent) → ((P Q : Term) → make P ≡ make Q → P ≡ Q)
    → (P : Term) (gs : List Sequent) → S.goal ≡ make P → gs ≡ premises P → Only (λ hs. (Q : Term) × Fits S hs (make Q) (premises Q)) (Some gs)
fits_one S make premises one P gs e f = (
  (P, record { concludes = e; premises_are = f }),
  λ hs h. h.1.premises_are ∙ ap premises (one h.0 P (sym h.1.concludes ∙ e)) ∙ sym f,
)

pub fits_no_one : (S : Sequent) (make : Term → Term) (premises : Term → List Sequent) → ((P : Term) → ¬ (S.goal ≡ make P))
    → Only (λ hs. (Q : Term) × Fits S hs (make Q) (premises Q)) None
fits_no_one S make premises never hs h = never h.0 h.1.concludes

-- A step by a formula that is read.
pub by_one : {X : Type 0} (Reads : X → Type 0) (premises : X → List Sequent) (x : X) (gs : List Sequent) → Only Reads (Some x) → gs ≡ premises x
    → Only (λ hs. (y : X) × Reads y × (hs ≡ premises y)) (Some gs)
by_one Reads premises x gs r e = ((x, r.0, e), λ hs h. h.2 ∙ ap premises (r.1 h.0 h.1) ∙ sym e)

pub by_none : {X : Type 0} (Reads : X → Type 0) (premises : X → List Sequent) → Only Reads None → Only (λ hs. (y : X) × Reads y × (hs ≡ premises y)) None
by_none Reads premises n hs h = n h.0 h.1

-- The same where the formula is made of two parts.
pub by_two : {X Y : Type 0} (Reads : Term → Type 0) (make : X → Y → Term) (premises : X → Y → List Sequent)
    → ((x x' : X) (y y' : Y) → make x y ≡ make x' y' → (x ≡ x') × (y ≡ y'))
    → (P : Term) (x : X) (y : Y) (gs : List Sequent) → Only Reads (Some P) → P ≡ make x y → gs ≡ premises x y
    → Only (λ hs. (x : X) × (y : Y) × Reads (make x y) × (hs ≡ premises x y)) (Some gs)
by_two Reads make premises one P x y gs r e f = (
  (x, y, subst Reads e r.0, f),
  λ hs h.
      let same = one h.0 x h.1 y (r.1 (make h.0 h.1) h.2 ∙ e) in
      h.3 ∙ ap (λ a. premises a h.1) same.0 ∙ ap (premises x) same.1 ∙ sym f,
)

pub by_no_two : {X Y : Type 0} (Reads : Term → Type 0) (make : X → Y → Term) (premises : X → Y → List Sequent) (P : Term)
    → Only Reads (Some P) → ((x : X) (y : Y) → ¬ (P ≡ make x y)) → Only (λ hs. (x : X) × (y : Y) × Reads (make x y) × (hs ≡ premises x y)) None
by_no_two Reads make premises P r never hs h = never h.0 h.1 (sym (r.1 (make h.0 h.1) h.2))

pub by_nothing : {X Y : Type 0} (Reads : Term → Type 0) (make : X → Y → Term) (premises : X → Y → List Sequent)
    → Only Reads None → Only (λ hs. (x : X) × (y : Y) × Reads (make x y) × (hs ≡ premises x y)) None
by_nothing Reads make premises n hs h = n (make h.0 h.1) h.2

-- an answer about one property is one about another that says the same
pub only_both : {X E : Type 0} (P Q : X → Type 0) (r : Result (Option X) E) → ((x : X) → P x → Q x) → ((x : X) → Q x → P x) → IfOk r (Only P) → IfOk r (Only Q)
only_both P Q (Ok None) to from h = λ x q. h x (from x q)
only_both P Q (Ok (Some x)) to from h = (to x h.0, λ y q. h.1 y (from y q))
only_both P Q (Err e) to from h = h
