-- Inference answers no unknown name where none is.
use Rattle.std.specs.Prelude.{◌≡◌, ◌≢◌, ◌↔◌, Bool, true, false, List, reverse, Result, Err}
use Rattle.std.proofs.Common.{ap, sym, ◌∙◌, true≢false}
use Rattle.std.proofs.lemmas.List.{reverse-reverse}
use Rattle.ev_terms.specs.Term.{Term}
use Rattle.ev_syntax.specs.Raw.{Raw}
use Rattle.ev_typing.specs.declared.typing.Var.{Var}
use Rattle.ev_typing.specs.Env.{Env, Name}
use Rattle.ev_resolve.specs.UsedNames.{variable_names}
use Rattle.ev_resolve.specs.inner.Unknown.{uses_unknown}
use Rattle.ev_infer.specs.declared.faults.InferFault.{InferFault}
use Rattle.ev_infer.specs.declared.faults.InferFault.TheVariants.{Unknown, NoMemory}
use Rattle.ev_infer.specs.Answers.{variables, IsUnknown}
use Rattle.ev_infer.proofs.Answering.{in_scope}

says_unknown : Result Term InferFault → Bool
says_unknown (Err Unknown) = true
says_unknown _ = false

pub not_unknown : (env : Env) (params : List Name) (vars : List Var) (raw : Raw) (r : Result Term InferFault)
    → (r ≢ Err NoMemory → ((r ≡ Err Unknown) ↔ IsUnknown env params vars raw)) → r ≡ Err Unknown
    → uses_unknown env params raw (variable_names (variables vars)) ≡ false → ⊥
unfolding says_unknown
not_unknown env params vars raw r h e u =
    let differs : r ≢ Err NoMemory = λ p. true≢false (ap says_unknown (sym e ∙ p)) in
    let names : List Name = variable_names (variables vars) in
    in_scope env params vars raw (reverse names) (reverse-reverse names) (ap (uses_unknown env params raw) (reverse-reverse names) ∙ u) ((h differs).0 e).unknown
