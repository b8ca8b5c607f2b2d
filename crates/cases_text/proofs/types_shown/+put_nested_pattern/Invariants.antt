use Rattle.cases_text.proofs.types_shown.+put_nested_pattern.Given as goal

abbrev pub decreases-put_nested_pattern : goal.decreases-put_nested_pattern
decreases-put_nested_pattern l = l.depth
