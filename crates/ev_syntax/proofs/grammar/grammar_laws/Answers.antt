use Rattle.ev_syntax.proofs.BothSorts.{both_are_calls, calls_are_both}
use Rattle.ev_syntax.proofs.OneTree.{at_most_one_tree, comma_ends_formula}
use Rattle.ev_syntax.proofs.RunLaws.{comma_ends_run}
use Rattle.ev_syntax.proofs.grammar.grammar_laws.Goals as goal

pub returns : goal.returns
returns c = record { one = at_most_one_tree; both = both_are_calls; calls = calls_are_both; comma = comma_ends_formula; comma_run = comma_ends_run }
