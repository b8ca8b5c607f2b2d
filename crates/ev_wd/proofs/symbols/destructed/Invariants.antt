use Rattle.std.proofs.Common.{◌≡◌, drop}
use Rattle.std.specs.Prelude.{flat_map}
use Rattle.ev_typing.specs.Env.{look_up, con_symbols}
use Rattle.ev_wd.specs.inner.Destructors.{destructed}
use Rattle.ev_wd.proofs.symbols.destructed.Given as goal

abbrev pub invariant-loop-con : goal.invariant-loop-con
invariant-loop-con l =
    destructed (look_up (flat_map (con_symbols l.decl) (drop l.con-index l.decl.cons)) l.name)
    ≡ destructed (look_up (flat_map (con_symbols l.decl) l.decl.cons) l.name)
