-- What the lists of bound names need.
use Rattle.std.proofs.Common.{append_assoc}
use Rattle.std.proofs.lemmas.List.{reverse-append, map-append}
use Rattle.ev_typing.proofs.Names.{drop_at, drop_all}

pub ruleset lists = (drop_at, drop_all, append_assoc, map-append)

pub ruleset cases = (drop_at, drop_all, append_assoc)

pub ruleset backwards = (drop_at, drop_all, reverse-append)
