-- A word is a reserved word where its bytes spell one, and else a name.
use Rattle.std.proofs.Common.{ap, sym, subst, Some, None}
use Rattle.std.specs.Prelude.{slice_range}
use Rattle.ev_syntax.specs.Views.{token_with, IsSmall}
use Rattle.ev_syntax.proofs.Stands.{word_stands}
use Rattle.ev_syntax.proofs.scan.word_at.Goals as goal
use Rattle.ev_syntax.proofs.scan.word_at.Goals.{in-Some, in-None}

pub returns : goal.returns
returns c =
    elim c.match-mark_of.branch [
      | in-Some w ↦
          word_stands c.args.text.now c.as_bytes.result.now c.args.at c.word_end-end.result (Some w.in-Some.mark) c.match-mark_of.kind c.utf8.text
          c.requires.place c.requires.starts c.word_end-end.ensures.passes c.word_end-end.ensures.stops c.as_bytes.ensures.value w.in-Some.ensures
          (ap (λ k. token_with k (slice_range c.args.text.now c.args.at c.word_end-end.result)) w.kind-is) (subst IsSmall (sym w.kind-is) tt)
      | in-None w ↦
          word_stands c.args.text.now c.as_bytes.result.now c.args.at c.word_end-end.result None c.match-mark_of.kind c.utf8.text
          c.requires.place c.requires.starts c.word_end-end.ensures.passes c.word_end-end.ensures.stops c.as_bytes.ensures.value w.in-None.ensures
          (ap (λ k. token_with k (slice_range c.args.text.now c.args.at c.word_end-end.result)) w.kind-is) (subst IsSmall (sym w.kind-is) tt)
    ]
