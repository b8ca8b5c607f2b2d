-- What is within the limits, and what is handed on.
use Rattle.std.specs.Prelude.{Result, Ok, Err, IfOk}
use Rattle.std.proofs.Common.{◌≡◌, ◌≤◌, ◌↔◌, Bool, IsTrue, ap, sym, ◌∙◌, subst, arith}
use Rattle.ev_terms.specs.Term.{Term}
use Rattle.ev_terms.specs.Measures.{size, depth, capped}
use Rattle.ev_terms.specs.declared.extents.Extent.{Extent}
use Rattle.ev_wd.specs.declared.faults.WdFault.{WdFault}
use Rattle.ev_wd.specs.declared.faults.WdFault.TheVariants.{TooLarge}
use Rattle.ev_wd.specs.Limits.{IsSmall, greatest_size, greatest_depth}

pub small_from : (t : Term) → capped (size t) ≤ greatest_size → capped (depth t) ≤ greatest_depth → IsSmall t
small_from t p q = record { size_fits = omega arith; depth_fits = omega arith }

pub small_to : (t : Term) → IsSmall t → (capped (size t) ≤ greatest_size) × (capped (depth t) ≤ greatest_depth)
small_to t h = (omega (arith, h.size_fits), omega (arith, h.depth_fits))

-- what the test of an extent says of a term
pub within_small : (t : Term) (b : Bool) (e : Extent) → e ≡ record { size = capped (size t); depth = capped (depth t) } →
    (IsTrue b ↔ ((e.size ≤ greatest_size) × (e.depth ≤ greatest_depth))) → IsTrue b ↔ IsSmall t
within_small t b e p h =
    let s : e.size ≡ capped (size t) = ap (λ (x : Extent). x.size) p in
    let d : e.depth ≡ capped (depth t) = ap (λ (x : Extent). x.depth) p in
    (λ y. let q = h.0 y in small_from t (omega (arith, q.0)) (omega (arith, q.1)), λ g. h.1 (omega (arith, g.size_fits), omega (arith, g.depth_fits)))

-- a term that is no larger is within the limits too
pub small_by : (t u : Term) → size u ≤ size t → depth u ≤ depth t → IsSmall t → IsSmall u
small_by t u p q h = record { size_fits = omega (arith, h.size_fits); depth_fits = omega (arith, h.depth_fits) }

-- an answer for one term is one for an equal term
pub passes : (D E : Term) (r : Result Term WdFault) → E ≡ D → IfOk r (λ t. (t ≡ E) × IsSmall t) → IfOk r (λ t. (t ≡ D) × IsSmall t)
passes D E (Ok t) e h = (h.0 ∙ e, h.1)
passes D E (Err x) e h = h

pub refuses : (D E : Term) (r : Result Term WdFault) → E ≡ D → (r ≡ Err TooLarge → ¬ IsSmall E) → r ≡ Err TooLarge → ¬ IsSmall D
refuses D E r e h p s = h p (subst IsSmall (sym e) s)

-- a refusal of a part is one of the whole
pub hands_on : (D E : Term) (r s : Result Term WdFault) (x y : WdFault) → (IsSmall D → IsSmall E) → r ≡ Err x → y ≡ x → s ≡ Err y →
    (r ≡ Err TooLarge → ¬ IsSmall E) → s ≡ Err TooLarge → ¬ IsSmall D
hands_on D E r s x y part e f g h p small =
    h (let q : y ≡ TooLarge = cc in e ∙ ap (λ z. Err z) (sym f ∙ q)) (part small)

pub ruleset limits = (within_small)
