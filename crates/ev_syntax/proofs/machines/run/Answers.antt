use Rattle.std.proofs.Common.{◌++◌, subst}
use Rattle.ev_syntax.specs.inner.Machines.{Holds, PieceReaches}
use Rattle.ev_syntax.proofs.Resumes.{fails}
use Rattle.ev_syntax.proofs.Stacks.{pushed, popped}
use Rattle.ev_syntax.proofs.machines.run.Goals as goal

pub returns-in-Fail : goal.returns-in-Fail
returns-in-Fail g c = λ whole h. let m = g.M.Machine.meaning c.args.machine.now in
    let i = subst (Holds m whole c.loop-next.stack.items) c.in-Fail.is (c.loop-next.invariant whole h) in
    fails whole i.0 i.2

pub loop-next-preserved-in_ok-next-in-Push : goal.loop-next-preserved-in_ok-next-in-Push
loop-next-preserved-in_ok-next-in-Push g c = λ whole h. let m = g.M.Machine.meaning c.args.machine.now in
    let i = subst (Holds m whole c.loop-next.stack.items) c.in-Push.is (c.loop-next.invariant whole h) in
    let k = pushed m.frame c.loop-next.stack.items c.push.new.items.items c.in-Push.frame i.0 i.2.0 c.in_ok-push-in-Push.ensures.ok i.1 i.2.1 in
    (i.0 ++ i.2.0, k, c.in_ok-next-in-Push.ensures.holds whole (i.0 ++ i.2.0) i.2.2)

pub loop-next-preserved : goal.loop-next-preserved
loop-next-preserved g c = λ whole h. let m = g.M.Machine.meaning c.args.machine.now in
    let i = subst (Holds m whole c.loop-next.stack.items) c.in-Found.is (c.loop-next.invariant whole h) in
    let q = popped m.frame c.loop-next.stack.items c.pop.new.self.items c.pop.result c.in-Some.frame i.0 c.pop.ensures.items c.in-Some.is i.1 in
    let p = subst (λ xs. PieceReaches m whole xs c.in-Found.piece c.in-Found.at) q.4 i.2 in
    (q.0, q.2, c.in_ok-next-in-Some.ensures.holds whole q.0 q.1 p.0 q.3 p.1 p.2 p.3)
