use Rattle.cases_text.proofs.shown.+put_nested.Given as goal

abbrev pub decreases-put_nested : goal.decreases-put_nested
decreases-put_nested l = l.depth
