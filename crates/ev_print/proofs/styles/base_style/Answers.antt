use Rattle.ev_print.proofs.TableRows.{row_there}
use Rattle.ev_print.proofs.styles.base_style.Goals as goal

pub returns : goal.returns
returns c = row_there _ _ _ _ _ _ c.styles.ensures c.style_in.ensures c.unwrap_or.ensures
