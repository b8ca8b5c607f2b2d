use Rattle.std.proofs.Common.{◌≡◌, ◌++◌, drop}
use Rattle.std.specs.Prelude.{map, option_map}
use Rattle.ev_elab.specs.Types.{all_of, read_arg, read_args}
use Rattle.ev_elab.proofs.heads.read_args.Given as goal

abbrev pub invariant-loop-arg : goal.invariant-loop-arg
invariant-loop-arg l = option_map (λ vars. l.vars ++ vars) (all_of (map (read_arg l.names.0 l.names.1) (drop l.arg-index l.args))) ≡ read_args l.names.0 l.names.1 l.args
