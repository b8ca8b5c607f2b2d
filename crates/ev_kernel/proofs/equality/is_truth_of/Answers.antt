use Rattle.ev_forms.specs.Forms.{bool_of, bool_true}
use Rattle.ev_kernel.proofs.Equations.{apart}
use Rattle.ev_kernel.proofs.Binding.{other_type}
use Rattle.ev_kernel.proofs.equality.is_truth_of.Goals as goal

pub returns-then-not-is_bool : goal.returns-then-not-is_bool
returns-then-not-is_bool c =
    other_type c.args.tree.now c.in-Some.ty.now c.in-Some.left.now c.in-Some.right.now (bool_of c.args.predicate.now) bool_true c.in-Some.ensures.found
    (apart c.is_bool.result c.is_bool.ensures c.if-not-is_bool.true)
