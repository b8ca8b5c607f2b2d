use Rattle.std.specs.Prelude.{◌≡◌, ◌++◌, ◌∷◌, [], option_to_list, refl}
use Rattle.std.proofs.Common.{ap, ◌∙◌, rules}
use Rattle.ev_infer.proofs.PatternSteps.{list_step, list_end}
use Rattle.ev_infer.proofs.patterns.listed.Goals as goal

pub loop-last-preserved : goal.loop-last-preserved
loop-last-preserved c =
    let e : c.loop-last.patterns.items ≡ c.pop.new.self.items ++ c.in-Some.last ∷ [] = c.pop.ensures.items ∙ ap (λ o. c.pop.new.self.items ++ option_to_list o) c.in-Some.is in
    list_step c.loop-last.patterns.items c.pop.new.self.items c.args.patterns.items c.in-Some.last c.in_ok-new.field-0 c.loop-last.list c.in_ok-rest.rest _ e refl c.in_ok-new.ensures c.in_ok-rest.ensures c.loop-last.invariant

pub returns : goal.returns
returns c =
    let z : c.loop-last.patterns.items ≡ [] = search rules in
    list_end c.loop-last.patterns.items c.args.patterns.items c.loop-last.list z c.loop-last.invariant
