use Rattle.std.specs.Prelude.{nat_eq}
use Rattle.std.specs.HashMap.{get}
use Rattle.std.proofs.Common.{sym}
use Rattle.ev_unify.proofs.Parts.{known_by}
use Rattle.ev_unify.proofs.Spread.{home_known, with_not, not_at}
use Rattle.ev_unify.proofs.cells.home.Goals as goal

pub returns-in_default : goal.returns-in_default
returns-in_default c =
    let place = get nat_eq c.args.places.now in
    let known = known_by c.args.pat.now c.in_default.not-Unknown in
    record {
      home = sym (home_known place c.args.pat.now c.args.place known);
      placed = λ u. sym (with_not place c.args.pat.now c.args.place u (not_at u c.args.pat.now known));
    }
