-- Variables of contexts, and what the answers of inference say of the only annotation.
use Rattle.std.specs.Prelude.{◌≡◌, ◌≢◌, ◌↔◌, ◌<◌, ◌≤◌, ◌+◌, ◌++◌, ℕ, List, [], ◌∷◌, Option, Some, None, Result, Err, length, drop, codes, decimal}
use Rattle.std.proofs.Common.{ap, sym, ◌∙◌, get_or, append_assoc}
use Rattle.ev_terms.specs.declared.extents.Extent.{Extent}
use Rattle.ev_terms.specs.declared.types.Ty.{Ty}
use Rattle.ev_terms.specs.Term.{Term}
use Rattle.ev_syntax.specs.Raw.{Raw}
use Rattle.ev_typing.specs.declared.typing.Var.{Var}
use Rattle.ev_typing.specs.Env.{Env, Name}
use Rattle.ev_typing.proofs.Names.{drop_at, drop_all}
use Rattle.ev_data.proofs.Lists.{append_nil}
use Rattle.ev_infer.specs.declared.faults.InferFault.{InferFault}
use Rattle.ev_infer.specs.declared.faults.InferFault.TheVariants as fault
use Rattle.ev_infer.specs.Answers.{IsUnknown, IsTaken, IsIllTyped, IsAmbiguous, IsTooLarge, IsAnnotated}
use Rattle.ev_replay.specs.Reading.{context_vars}
use Rattle.ev_replay.specs.inner.Finding.{Only}

pub vars_next : (C : List Ty) (i : ℕ) (A : Ty) (vars new : List Var) (v : Var) → i < length C → A ≡ get_or C i A → v ≡ record { name = codes "v" ++ decimal i; ty = A } → new ≡ vars ++ v ∷ []
    → vars ++ context_vars i (drop i C) ≡ context_vars 0 C → new ++ context_vars (i + 1) (drop (i + 1) C) ≡ context_vars 0 C
vars_next C i A vars new v h e f g inv =
    ap (λ xs. xs ++ context_vars (i + 1) (drop (i + 1) C)) g ∙ append_assoc vars (v ∷ []) (context_vars (i + 1) (drop (i + 1) C)) ∙ ap (λ x. vars ++ x ∷ context_vars (i + 1) (drop (i + 1) C)) f
    ∙ ap (λ xs. vars ++ context_vars i xs) (sym (drop_at C i A e h)) ∙ inv

pub vars_whole : (C : List Ty) (i : ℕ) (vars : List Var) → length C ≤ i → vars ++ context_vars i (drop i C) ≡ context_vars 0 C → vars ≡ context_vars 0 C
vars_whole C i vars h inv = sym (append_nil vars) ∙ ap (λ xs. vars ++ context_vars i xs) (sym (drop_all C i h)) ∙ inv

module _ (env : Env) (params : List Name) (vars : List Var) (raw : Raw) (A : Option Ty) (limit : Extent) (r : Result Term InferFault) where
  other : (e : InferFault) → r ≡ Err e → e ≢ fault.NoMemory → r ≢ Err fault.NoMemory
  other e f n g = n (let same : Err e ≡ Err fault.NoMemory = sym f ∙ g in cc)

  pub not_unknown : r ≡ Err fault.Unknown → (r ≢ Err fault.NoMemory → ((r ≡ Err fault.Unknown) ↔ IsUnknown env params vars raw)) → Only (IsAnnotated env params vars raw A limit) None
  not_unknown e h t k = k.in_scope ((h (other fault.Unknown e (λ x. cc))).0 e).unknown

  pub not_taken : r ≡ Err fault.Taken → (r ≢ Err fault.NoMemory → ((r ≡ Err fault.Taken) ↔ IsTaken env params vars raw)) → Only (IsAnnotated env params vars raw A limit) None
  not_taken e h t k = k.only.0.annotates.binders ((h (other fault.Taken e (λ x. cc))).0 e).taken

  pub not_typed : r ≡ Err fault.IllTyped → (r ≢ Err fault.NoMemory → ((r ≡ Err fault.IllTyped) ↔ IsIllTyped env params vars raw A)) → Only (IsAnnotated env params vars raw A limit) None
  not_typed e h t k = ((h (other fault.IllTyped e (λ x. cc))).0 e).none t k.only.0

  pub not_two : r ≡ Err fault.Ambiguous → (r ≢ Err fault.NoMemory → ((r ≡ Err fault.Ambiguous) ↔ IsAmbiguous env params vars raw A)) → Only (IsAnnotated env params vars raw A limit) None
  not_two e h t k = let two = ((h (other fault.Ambiguous e (λ x. cc))).0 e).two in two.4 (k.only.1 two.0 two.2 ∙ sym (k.only.1 two.1 two.3))

  pub not_large : r ≡ Err fault.TooLarge → (r ≢ Err fault.NoMemory → ((r ≡ Err fault.TooLarge) ↔ IsTooLarge env params vars raw A limit)) → Only (IsAnnotated env params vars raw A limit) None
  not_large e h t k =
      let large = (h (other fault.TooLarge e (λ x. cc))).0 e in
      let same : large.0 ≡ t = k.only.1 large.0 large.1.only.0 in
      k.within (rw (sym same) large.1.past)

pub only_annotated : (env : Env) (params : List Name) (vars : List Var) (raw : Raw) (A : Option Ty) (limit : Extent) (t : Term) → IsAnnotated env params vars raw A limit t
    → Only (IsAnnotated env params vars raw A limit) (Some t)
only_annotated env params vars raw A limit t h = (h, λ u k. h.only.1 u k.only.0)

pub ruleset faults = (not_unknown, not_taken, not_typed, not_two, not_large, only_annotated)
