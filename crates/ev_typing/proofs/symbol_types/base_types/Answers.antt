use Rattle.ev_typing.proofs.Signing.{base_some, base_none}
use Rattle.ev_typing.proofs.symbol_types.base_types.Goals as goal

pub returns-in_ok-row_types-in-Some : goal.returns-in_ok-row_types-in-Some
returns-in_ok-row_types-in-Some c =
    base_some c.base_symbols-symbols.result.rows.now c.args.k c.in-Some.row _ c.base_symbols-symbols.ensures c.in-Some.ensures c.in_ok-row_types-in-Some.ensures

pub returns-in-None : goal.returns-in-None
returns-in-None c = base_none c.base_symbols-symbols.result.rows.now c.args.k c.base_symbols-symbols.ensures c.in-None.ensures
