-- A row of the table is the row of its texts.
use Rattle.std.proofs.Common.{sym, ◌∙◌, ap, arith}
use Rattle.std.specs.Prelude.{option_map}
use Rattle.std.proofs.lemmas.Option.{slice_get-map, slice_get-get_or, slice_get_past}
use Rattle.ev_syntax.specs.inner.Spelled.{text_of}
use Rattle.ev_syntax.proofs.marks.text_at.Goals as goal

pub returns-then-row-rows : goal.returns-then-row-rows
returns-then-row-rows c =
    sym (slice_get-map text_of c.args.rows.now c.args.row ∙ ap (option_map text_of) (slice_get-get_or c.args.rows.now c.args.row _ (omega arith)))

pub returns-else-row-rows : goal.returns-else-row-rows
returns-else-row-rows c =
    sym (slice_get-map text_of c.args.rows.now c.args.row ∙ ap (option_map text_of) (slice_get_past c.args.rows.now c.args.row (omega arith)))
