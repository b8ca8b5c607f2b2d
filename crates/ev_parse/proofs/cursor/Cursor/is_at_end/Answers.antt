use Rattle.std.proofs.Common.{sym}
use Rattle.std.proofs.lemmas.Bool.{eqb-true, eq-eqb}
use Rattle.ev_parse.proofs.PieceLaws.{end_is}
use Rattle.ev_parse.proofs.cursor.Cursor.is_at_end.Goals as goal

pub returns-in-Some : goal.returns-in-Some
returns-in-Some c =
    let e = end_is c.self.inside.reader.now c.in-Some.at c.len.result c.self.inside.at c.args.self.now c.len.ensures c.in-Some.is c.self.invariant.within (sym c.self.view_is) in
    (λ h. e.0 (eqb-true c.in-Some.at c.len.result h), λ h. eq-eqb c.in-Some.at c.len.result (e.1 h))
