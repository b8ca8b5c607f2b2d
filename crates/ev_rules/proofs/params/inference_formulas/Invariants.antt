use Rattle.std.proofs.Common.{◌≡◌, ◌++◌, ◌∷◌, drop}
use Rattle.ev_rules.proofs.params.inference_formulas.Given as goal

abbrev pub invariant-loop-given : goal.invariant-loop-given
invariant-loop-given l = l.trees ++ drop l.given-index l.rule.givens ≡ l.rule.conclusion ∷ l.rule.givens
