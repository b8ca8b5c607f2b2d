use Rattle.std.specs.Prelude.{◌≡◌, bytes_eq, not, false}
use Rattle.std.specs.List.{list_any}
use Rattle.std.proofs.Common.{ap, rules}
use Rattle.ev_resolve.specs.UsedNames.{variable_names}
use Rattle.ev_resolve.specs.inner.Scopes.{scope_of}
use Rattle.ev_resolve.specs.inner.Unknown.{is_unknown}
use Rattle.ev_resolve.proofs.Using.{name_free}
use Rattle.ev_resolve.proofs.used.is_unknown_here.Goals as goal

pub returns : goal.returns
returns c =
    let q : false ≡ list_any (bytes_eq c.args.name.now) (variable_names (scope_of c.args.scope.now)) = search rules in
    name_free (is_unknown c.args.names.now.1 c.args.names.now.0) (variable_names (scope_of c.args.scope.now)) c.args.name.now _ q (ap not c.has-2.ensures)
