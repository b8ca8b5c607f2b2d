-- Only the row that the bytes point to can spell them.
use Rattle.std.proofs.Common.{ap, sym, ◌∙◌, arith, Some, None, rules}
use Rattle.std.specs.Option.{option_copied}
use Rattle.ev_syntax.proofs.RowLemmas.{mark_found, mark_absent, other_bytes, none_of_it, too_short, too_long}
use Rattle.ev_syntax.proofs.marks.mark_of.Goals as goal
use Rattle.ev_syntax.proofs.marks.mark_of.Goals.{then-is_empty-via-then-is_empty, then-is_empty-via-else-is_empty+then-word-gt9}

pub returns-then-is_empty : goal.returns-then-is_empty
returns-then-is_empty c =
    elim c.then-is_empty.branch [
      | then-is_empty-via-then-is_empty w ↦ too_short c.args.word.now (search (rules, w.if-is_empty.true))
      | then-is_empty-via-else-is_empty+then-word-gt9 w ↦ too_long c.args.word.now (omega arith)
    ]

pub returns-in_default : goal.returns-in_default
returns-in_default c =
    mark_absent c.args.word.now None _ _ c.all_spellings.ensures.rows c.candidate-mark.ensures
    (sym (ap option_copied c.in_default.is) ∙ c.get.ensures) (none_of_it c.args.word.now)

pub returns-then-eq : goal.returns-then-eq
returns-then-eq c =
    mark_found c.args.word.now c.in-Some.spelling.now _ _ c.all_spellings.ensures.different c.all_spellings.ensures.rows c.in-Some.ensures c.if-eq.ensures

pub returns-else-eq : goal.returns-else-eq
returns-else-eq c =
    mark_absent c.args.word.now (Some c.in-Some.spelling.now) _ _ c.all_spellings.ensures.rows c.candidate-mark.ensures c.in-Some.ensures
    (other_bytes c.args.word.now c.in-Some.spelling.now c.if-eq.ensures)
