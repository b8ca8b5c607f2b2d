use Rattle.std.proofs.Common.{ap, sym, ◌∙◌}
use Rattle.ev_typing.proofs.Signatures.{ok_weaker}
use Rattle.ev_resolve.specs.inner.BareView.{bares}
use Rattle.ev_resolve.specs.Resolve.{call_bare}
use Rattle.ev_resolve.specs.inner.Scopes.{meaning_told}
use Rattle.ev_resolve.proofs.calls.call.Goals as goal

pub returns-in-Variable : goal.returns-in-Variable
returns-in-Variable c =
    ok_weaker c.call_variable.result (λ o h. h c.args.name.now ∙ ap (λ m. call_bare (meaning_told m) c.args.name.now c.args.count (bares c.args.args)) (sym c.in-Variable.is)) c.call_variable.ensures

pub returns-in-Predicate : goal.returns-in-Predicate
returns-in-Predicate c =
    ok_weaker c.call_predicate.result (λ o h. h c.args.name.now (bares c.args.args) ∙ ap (λ m. call_bare (meaning_told m) c.args.name.now c.args.count (bares c.args.args)) (sym c.in-Predicate.is)) c.call_predicate.ensures

pub returns-in-Parameter : goal.returns-in-Parameter
returns-in-Parameter c =
    c.call_parameter.ensures c.args.name.now (bares c.args.args) ∙ ap (λ m. call_bare (meaning_told m) c.args.name.now c.args.count (bares c.args.args)) (sym c.in-Parameter.is)
