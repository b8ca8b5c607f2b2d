use Rattle.ev_kernel.proofs.Equations.{apart}
use Rattle.ev_kernel.proofs.Binding.{member_form, other_member}
use Rattle.ev_kernel.proofs.equality.is_member_form.Goals as goal

pub returns-then-not-same : goal.returns-then-not-same
returns-then-not-same c =
    other_member c.args.membership.now c.args.unfolded.now c.in-Some.ty.now c.in-Some-bound_parts.other.now c.in-Some.term.now c.in-Some.set.now c.in-Some-bound_parts.predicate.now
    c.in-Some.ensures.found c.in-Some-bound_parts.ensures.found (apart c.same.result c.same.ensures c.if-not-same.true)

pub returns-else-not-same : goal.returns-else-not-same
returns-else-not-same c =
    member_form c.args.membership.now c.args.unfolded.now c.in-Some.ty.now c.in-Some-bound_parts.other.now c.in-Some.term.now c.in-Some.set.now c.in-Some-bound_parts.predicate.now c.is_with.result
    c.in-Some.ensures.found c.in-Some-bound_parts.ensures.found (c.same.ensures.0 c.if-not-same.false) c.is_with.ensures
