-- What is no word and no number is a sign or nothing.
use Rattle.std.proofs.Common.{drop, subst, ap, ◌∙◌, List, ℕ}
use Rattle.std.proofs.lemmas.List.{take_rest}
use Rattle.ev_syntax.specs.inner.Places.{IsLongest}
use Rattle.ev_syntax.proofs.Stands.{mark_stands}
use Rattle.ev_syntax.proofs.Fronts.{none_begins}
use Rattle.ev_syntax.proofs.scan.mark_at.Goals as goal

pub returns-in-Some : goal.returns-in-Some
returns-in-Some c =
    mark_stands c.args.text.now _ c.args.at _ _ c.utf8.text c.requires.place c.requires.no_word c.requires.no_number
    (take_rest c.as_bytes.result.now c.args.at ∙ ap (drop c.args.at) c.as_bytes.ensures.value) c.in-Some.ensures

pub returns-in-None : goal.returns-in-None
returns-in-None c =
    none_begins c.args.text.now c.args.at c.utf8.text c.requires.place c.requires.no_word c.requires.no_number
    (subst (λ (xs : List ℕ). IsLongest xs 0) (take_rest c.as_bytes.result.now c.args.at ∙ ap (drop c.args.at) c.as_bytes.ensures.value) c.in-None.ensures)
