-- Each fault is answered exactly where it holds, since no two hold together.
use Rattle.std.specs.Prelude.{◌≡◌, ◌≢◌, ◌↔◌, ℕ, List, Option, Result, Ok, Err, IfOk, refl}
use Rattle.std.proofs.Common.{sym, ◌∙◌, subst as transport}
use Rattle.ev_terms.specs.declared.extents.Extent.{Extent}
use Rattle.ev_terms.specs.declared.types.Ty.{Ty}
use Rattle.ev_terms.specs.Term.{Term}
use Rattle.ev_syntax.specs.Raw.{Raw}
use Rattle.ev_typing.specs.declared.typing.Var.{Var}
use Rattle.ev_typing.specs.Env.{Env}
use Rattle.ev_infer.specs.declared.faults.InferFault.{InferFault}
use Rattle.ev_infer.specs.declared.faults.InferFault.TheVariants.{Unknown, Taken, IllTyped, Ambiguous, TooLarge, NoMemory}
use Rattle.ev_infer.specs.Annotates.{IsPast}
use Rattle.ev_infer.specs.Answers.{IsUnknown, IsTaken, IsIllTyped, IsAmbiguous, IsTooLarge, IsAnnotated, IsAnswer}

module _ (env : Env) (params : List (List ℕ)) (vars : List Var) (raw : Raw) (expected : Option Ty) (limit : Extent) where
  abbrev Answer : Result Term InferFault → Type 0
  Answer r = IsAnswer env params vars raw expected limit r

  pub unknown_exactly : (r : Result Term InferFault) → Answer r → r ≢ Err NoMemory → ((r ≡ Err Unknown) ↔ IsUnknown env params vars raw)
  unknown_exactly (Ok t) h n = (λ e. cc, λ k. absurd (h.in_scope k.unknown))
  unknown_exactly (Err Unknown) h n = (λ e. h, λ k. refl)
  unknown_exactly (Err Taken) h n = (λ e. cc, λ k. absurd (h.in_scope k.unknown))
  unknown_exactly (Err IllTyped) h n = (λ e. cc, λ k. absurd (h.in_scope k.unknown))
  unknown_exactly (Err Ambiguous) h n = (λ e. cc, λ k. absurd (h.in_scope k.unknown))
  unknown_exactly (Err TooLarge) h n = (λ e. cc, λ k. absurd (h.1.in_scope k.unknown))
  unknown_exactly (Err NoMemory) h n = absurd (n refl)

  pub taken_exactly : (r : Result Term InferFault) → Answer r → r ≢ Err NoMemory → ((r ≡ Err Taken) ↔ IsTaken env params vars raw)
  taken_exactly (Ok t) h n = (λ e. cc, λ k. absurd (h.only.0.annotates.binders k.taken))
  taken_exactly (Err Unknown) h n = (λ e. cc, λ k. absurd (k.in_scope h.unknown))
  taken_exactly (Err Taken) h n = (λ e. h, λ k. refl)
  taken_exactly (Err IllTyped) h n = (λ e. cc, λ k. absurd (h.free k.taken))
  taken_exactly (Err Ambiguous) h n = (λ e. cc, λ k. absurd (h.free k.taken))
  taken_exactly (Err TooLarge) h n = (λ e. cc, λ k. absurd (h.1.only.0.annotates.binders k.taken))
  taken_exactly (Err NoMemory) h n = absurd (n refl)

  pub ill_typed_exactly : (r : Result Term InferFault) → Answer r → r ≢ Err NoMemory → ((r ≡ Err IllTyped) ↔ IsIllTyped env params vars raw expected)
  ill_typed_exactly (Ok t) h n = (λ e. cc, λ k. absurd (k.none t h.only.0))
  ill_typed_exactly (Err Unknown) h n = (λ e. cc, λ k. absurd (k.in_scope h.unknown))
  ill_typed_exactly (Err Taken) h n = (λ e. cc, λ k. absurd (k.free h.taken))
  ill_typed_exactly (Err IllTyped) h n = (λ e. h, λ k. refl)
  ill_typed_exactly (Err Ambiguous) h n = (λ e. cc, λ k. absurd (k.none h.two.0 h.two.2))
  ill_typed_exactly (Err TooLarge) h n = (λ e. cc, λ k. absurd (k.none h.0 h.1.only.0))
  ill_typed_exactly (Err NoMemory) h n = absurd (n refl)

  pub ambiguous_exactly : (r : Result Term InferFault) → Answer r → r ≢ Err NoMemory → ((r ≡ Err Ambiguous) ↔ IsAmbiguous env params vars raw expected)
  ambiguous_exactly (Ok t) h n = (λ e. cc, λ k. absurd (k.two.4 (h.only.1 k.two.0 k.two.2 ∙ sym (h.only.1 k.two.1 k.two.3))))
  ambiguous_exactly (Err Unknown) h n = (λ e. cc, λ k. absurd (k.in_scope h.unknown))
  ambiguous_exactly (Err Taken) h n = (λ e. cc, λ k. absurd (k.free h.taken))
  ambiguous_exactly (Err IllTyped) h n = (λ e. cc, λ k. absurd (h.none k.two.0 k.two.2))
  ambiguous_exactly (Err Ambiguous) h n = (λ e. h, λ k. refl)
  ambiguous_exactly (Err TooLarge) h n = (λ e. cc, λ k. absurd (k.two.4 (h.1.only.1 k.two.0 k.two.2 ∙ sym (h.1.only.1 k.two.1 k.two.3))))
  ambiguous_exactly (Err NoMemory) h n = absurd (n refl)

  pub too_large_exactly : (r : Result Term InferFault) → Answer r → r ≢ Err NoMemory → ((r ≡ Err TooLarge) ↔ IsTooLarge env params vars raw expected limit)
  too_large_exactly (Ok t) h n = (λ e. cc, λ k. absurd (h.within (transport (IsPast limit.size limit.depth) (h.only.1 k.0 k.1.only.0) k.1.past)))
  too_large_exactly (Err Unknown) h n = (λ e. cc, λ k. absurd (k.1.in_scope h.unknown))
  too_large_exactly (Err Taken) h n = (λ e. cc, λ k. absurd (k.1.only.0.annotates.binders h.taken))
  too_large_exactly (Err IllTyped) h n = (λ e. cc, λ k. absurd (h.none k.0 k.1.only.0))
  too_large_exactly (Err Ambiguous) h n = (λ e. cc, λ k. absurd (h.two.4 (k.1.only.1 h.two.0 h.two.2 ∙ sym (k.1.only.1 h.two.1 h.two.3))))
  too_large_exactly (Err TooLarge) h n = (λ e. h, λ k. refl)
  too_large_exactly (Err NoMemory) h n = absurd (n refl)

  pub annotated : (r : Result Term InferFault) → Answer r → IfOk r (IsAnnotated env params vars raw expected limit)
  annotated (Ok t) h = h
  annotated (Err f) h = tt
