use Rattle.std.proofs.Common.{◌∙◌}
use Rattle.std.specs.Option.{option_copied}
use Rattle.ev_terms.specs.Types.{type_list}
use Rattle.ev_terms.specs.Symbols.{binds}
use Rattle.ev_terms.proofs.ListLaws.{binds_le}
use Rattle.ev_kernel.proofs.Lists.{first_type}
use Rattle.ev_kernel.proofs.equality.bound_type.Goals as goal

pub returns-else-binds-eq0 : goal.returns-else-binds-eq0
returns-else-binds-eq0 c =
    first_type (type_list c.args.types.now) (binds c.args.sym.now) (option_copied c.get.result) (λ e. c.if-binds-eq0.false (c.binds.ensures ∙ e)) (binds_le c.args.sym.now) c.get.ensures
