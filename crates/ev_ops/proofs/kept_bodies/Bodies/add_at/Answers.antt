use Rattle.std.proofs.Common.{sym}
use Rattle.std.proofs.lemmas.Result.{on_ok_weaker}
use Rattle.ev_ops.proofs.Kept.{fresh, one_more}
use Rattle.ev_ops.proofs.kept_bodies.Bodies.add_at.Goals as goal

pub add-requires : goal.add-requires
add-requires c = fresh c.args.env.now c.args.i c.in-Some.entry.now c.args.self.now c.requires.well_formed (sym c.in-Some.ensures) c.requires.known

pub returns : goal.returns
returns c =
    on_ok_weaker c.add.result
    (λ e. one_more c.args.env.now c.args.i c.in-Some.entry.now c.args.self.now c.add.new.self (sym c.in-Some.ensures) c.requires.known e) c.add.ensures
