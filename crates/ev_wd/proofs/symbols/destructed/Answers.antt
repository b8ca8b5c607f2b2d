use Rattle.std.proofs.Common.{rules}
use Rattle.ev_wd.proofs.Destructing.{con_found}
use Rattle.ev_wd.proofs.symbols.destructed.Goals as goal

pub returns-then-has_destructor : goal.returns-then-has_destructor
returns-then-has_destructor c =
    con_found c.args.decl.now c.args.decl.now.cons c.loop-con.con-index c.args.name.now c.con-item.result _ (search rules) (search rules) c.if-eq.ensures c.if-has_destructor.ensures c.loop-con.invariant
