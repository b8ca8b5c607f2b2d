use Rattle.std.proofs.Common.{◌≡◌}
use Rattle.std.proofs.lemmas.Result.{IfOk-weaker}
use Rattle.ev_terms.specs.Term.{terms}
use Rattle.ev_ops.specs.Unfold.{body_of, unfolded_node, unfold_by}
use Rattle.ev_ops.proofs.Kept.{at_node}
use Rattle.ev_ops.proofs.kept_bodies.Bodies.+unfold.Goals as goal

pub unfold-returns-in_ok-children-in-Some : goal.unfold-returns-in_ok-children-in-Some
unfold-returns-in_ok-children-in-Some t c =
    IfOk-weaker c.unfold_node.result (λ u. u ≡ unfolded_node (body_of c.args.self.now c.in-Some.sym.now) c.in-Some.sym.now c.in-Some.types.now (terms c.in_ok-children-in-Some.children))
    (λ u. u ≡ unfold_by c.args.self.now c.args.tree.now)
    (λ u e. at_node c.args.self.now c.args.tree.now u c.in-Some.sym.now c.in-Some.types.now c.in-Some.children.now c.in_ok-children-in-Some.children c.in-Some.ensures.found c.in_ok-children-in-Some.ensures e)
    c.unfold_node.ensures
