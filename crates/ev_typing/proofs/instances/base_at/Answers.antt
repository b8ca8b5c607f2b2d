use Rattle.ev_typing.proofs.Signatures.{base_some, base_none, ok_weaker}
use Rattle.ev_typing.proofs.instances.base_at.Goals as goal

pub returns-in-Some : goal.returns-in-Some
returns-in-Some c =
    ok_weaker c.row_at.result (λ o h. base_some c.base_symbols-symbols.result.rows.now c.args.k c.in-Some.row c.args.types.now o c.base_symbols-symbols.ensures c.in-Some.ensures h) c.row_at.ensures

pub returns-in-None : goal.returns-in-None
returns-in-None c = base_none c.base_symbols-symbols.result.rows.now c.args.k c.args.types.now c.base_symbols-symbols.ensures c.in-None.ensures
