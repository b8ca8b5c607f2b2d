use Rattle.std.proofs.Common.{◌∙◌, rules}
use Rattle.std.proofs.lemmas.Iterator.{YieldsList-from_take}
use Rattle.std.proofs.lemmas.Iterator.Consumers.{map_from_collect, YieldsList-at, YieldsList-from_filter}
use Rattle.std.proofs.lemmas.Iterator.Splits.{YieldsList-from_slice_split}
use Rattle.ev_script.specs.Scripts.{drop_last_blanks}
use Rattle.ev_script.proofs.lines.first_words.Goals as goal

pub returns : goal.returns
returns c = map_from_collect _ c.collect.ensures.ran
    (YieldsList-from_take 3 (YieldsList-at c.take.ensures.source
    (YieldsList-from_filter _ _ (YieldsList-at c.filter.ensures.source
    (YieldsList-from_slice_split _ _ (drop_last_blanks c.args.line.now) (c.split.ensures.rest ∙ c.drop_last_blanks.ensures) c.split.ensures.done c.split.ensures.closure (λ x r q k. search rules)))
    c.filter.ensures.closure (λ x r q k. search rules))) c.take.ensures.count)
