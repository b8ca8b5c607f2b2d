use Rattle.std.proofs.Common.{◌≡◌, ◌∙◌, ap}
use Rattle.std.proofs.lemmas.Result.{IfOk-weaker}
use Rattle.ev_terms.specs.Term.{terms}
use Rattle.ev_terms.specs.Substitution.{fill, instance}
use Rattle.ev_ops.specs.Unfold.{body_of, unfolded_node}
use Rattle.ev_ops.proofs.Kept.{filled}
use Rattle.ev_ops.proofs.kept_bodies.Bodies.unfold_node.Goals as goal

pub returns-in-Some : goal.returns-in-Some
returns-in-Some c =
    IfOk-weaker c.fill_body.result (λ t. t ≡ fill (instance c.in-Some.body.now c.args.types.now) c.as_slice.result.now)
    (λ t. t ≡ unfolded_node (body_of c.args.self.now c.args.sym.now) c.args.sym.now c.args.types.now (terms c.args.children))
    (λ t e. filled c.args.self.now c.args.sym.now c.args.types.now c.args.children c.in-Some.body.now t c.in-Some.ensures (e ∙ ap (fill (instance c.in-Some.body.now c.args.types.now)) c.as_slice.ensures)) c.fill_body.ensures
