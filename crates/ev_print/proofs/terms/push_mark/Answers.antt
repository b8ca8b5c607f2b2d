use Rattle.std.proofs.Common.{◌++◌, ◌∙◌, ap, sym}
use Rattle.std.proofs.lemmas.List.{append-nil}
use Rattle.ev_print.proofs.TypeSteps.{on_ok}
use Rattle.ev_print.proofs.TableRows.{some_there, none_there}
use Rattle.ev_print.proofs.terms.push_mark.Goals as goal

pub returns-in-Some : goal.returns-in-Some
returns-in-Some c =
    on_ok c.append.result (λ h. h ∙ ap (λ x. c.args.text.now.items ++ x) (some_there _ _ _ _ _ c.all_spellings-spellings.ensures.rows c.in-Some.ensures)) c.append.ensures

pub returns-in-None : goal.returns-in-None
returns-in-None c =
    sym (append-nil c.args.text.now.items) ∙ ap (λ x. c.args.text.now.items ++ x) (none_there _ _ _ _ c.all_spellings-spellings.ensures.rows c.in-None.ensures)
