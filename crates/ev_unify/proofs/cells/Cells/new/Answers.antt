use Rattle.std.specs.Prelude.{◌≤◌, nat_eq, length}
use Rattle.std.specs.HashMap.{get}
use Rattle.std.proofs.Common.{rules}
use Rattle.ev_unify.proofs.Spread.{numbered_all}
use Rattle.ev_unify.proofs.cells.Cells.new.Goals as goal

pub returns : goal.returns
returns c =
    let e : length c.loop-i.pats.items ≤ c.loop-i.i = search rules in
    numbered_all c.args.pats.items c.loop-i.pats.items c.loop-i.firsts.items c.loop-i.homes.items (get nat_eq c.loop-i.places) c.loop-i.i c.loop-i.invariant e
