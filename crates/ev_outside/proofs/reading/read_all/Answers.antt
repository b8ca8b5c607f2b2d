use Rattle.std.proofs.Common.{arith, rules}
use Rattle.ev_outside.proofs.Pieces.{taken_past, taken_within}
use Rattle.ev_outside.proofs.reading.read_all.Goals as goal

pub returns-then-n-limit-clause-taken : goal.returns-then-n-limit-clause-taken
returns-then-n-limit-clause-taken g c =
    taken_past _ _ _ c.loop-bytes.bytes.items c.read.new.buf c.in_ok-n.n c.args.limit c.loop-bytes.invariant.taken c.in_ok-n.ensures.taken c.in_ok-n.ensures.within
    c.loop-bytes.invariant.within (search rules) (omega (arith, c.if-n-limit.true, c.len.ensures))

pub returns-in_err-extend_from_slice-clause-taken : goal.returns-in_err-extend_from_slice-clause-taken
returns-in_err-extend_from_slice-clause-taken g c =
    taken_within c.from_residual-in_err-extend_from_slice.result _ _ _ c.loop-bytes.bytes.items c.read.new.buf c.in_ok-n.n c.args.limit
    c.from_residual-in_err-extend_from_slice.ensures.1 c.loop-bytes.invariant.taken c.in_ok-n.ensures.taken c.in_ok-n.ensures.within c.loop-bytes.invariant.within
    (omega (arith, c.if-n-limit.false, c.len.ensures))
