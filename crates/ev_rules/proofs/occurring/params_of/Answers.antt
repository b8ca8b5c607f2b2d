use Rattle.std.proofs.Common.{◌≡◌, ◌∙◌, ap, max}
use Rattle.std.proofs.lemmas.Result.{IfOk-weaker}
use Rattle.ev_terms.specs.Term.{terms}
use Rattle.ev_terms.specs.Measures.{all_params}
use Rattle.ev_rules.specs.Params.{params_of}
use Rattle.ev_rules.specs.inner.Marks.{numbers}
use Rattle.ev_rules.proofs.Marking.{all_found}
use Rattle.ev_rules.proofs.occurring.params_of.Goals as goal

pub returns : goal.returns
returns c =
    IfOk-weaker c.marked_numbers.result (λ ids. ids ≡ numbers 0 c.as_slice.result.now) (λ ids. ids ≡ params_of c.args.trees.now c.args.types.now)
    (λ ids e. all_found c.args.trees.now c.args.types.now c.max-count.result c.in_ok-unmarked.field-0.items c.as_slice.result.now ids
    (c.max-count.ensures ∙ ap (λ n. max n c.types_params.result) c.greatest_param.ensures ∙ ap (max (all_params (terms c.args.trees.now))) c.types_params.ensures) c.in_ok-unmarked.ensures
    (c.as_slice.ensures.value ∙ c.with_marks-marks.ensures) e) c.marked_numbers.ensures
