use Rattle.std.specs.Option.{option_copied}
use Rattle.ev_kernel.specs.inner.Contexts.{optional}
use Rattle.ev_kernel.specs.Derivable.{named}
use Rattle.ev_kernel.proofs.Equations.{apart}
use Rattle.ev_kernel.proofs.Congruence.{congruent_nodes, other_node_symbol, other_node_types}
use Rattle.ev_kernel.proofs.equality.are_congruent.Goals as goal

pub returns-then-not-same : goal.returns-then-not-same
returns-then-not-same c =
    other_node_symbol c.args.sequent.now c.args.left.now c.args.right.now c.in-Some.sym.now c.in-Some-node_parts.other.now c.in-Some.types.now c.in-Some-node_parts.others.now
    c.in-Some.lefts.now c.in-Some-node_parts.rights.now (named c.args.earlier.now c.args.premises.now) c.in-Some.ensures.found c.in-Some-node_parts.ensures.found
    (apart c.same.result c.same.ensures c.if-not-same.true)

pub returns-then-not-same-2 : goal.returns-then-not-same-2
returns-then-not-same-2 c =
    other_node_types c.args.sequent.now c.args.left.now c.args.right.now c.in-Some.sym.now c.in-Some-node_parts.other.now c.in-Some.types.now c.in-Some-node_parts.others.now
    c.in-Some.lefts.now c.in-Some-node_parts.rights.now (named c.args.earlier.now c.args.premises.now) c.in-Some.ensures.found c.in-Some-node_parts.ensures.found
    (apart c.same-2.result c.same-2.ensures c.if-not-same-2.true)

pub returns : goal.returns
returns c =
    congruent_nodes c.args.sequent.now c.args.left.now c.args.right.now c.in-Some.sym.now c.in-Some-node_parts.other.now c.in-Some.types.now c.in-Some-node_parts.others.now
    c.in-Some.lefts.now c.in-Some-node_parts.rights.now (optional (option_copied c.bound_type-bound.result)) (named c.args.earlier.now c.args.premises.now) c.are_equated.result
    c.in-Some.ensures.found c.in-Some-node_parts.ensures.found (c.same.ensures.0 c.if-not-same.false) (c.same-2.ensures.0 c.if-not-same-2.false) c.bound_type-bound.ensures c.are_equated.ensures
