use Rattle.std.proofs.Common.{◌≡◌, ◌≤◌, ◌++◌, reverse, vec_len}
use Rattle.std.specs.Prelude.{bytes_eq}
use Rattle.std.specs.List.{IsDistinct}
use Rattle.std.specs.Map.{keys_of}
use Rattle.indexmap.specs.IndexMap.{spare}
use Rattle.ev_typing.proofs.environment.places.put_from_end.Given as goal

abbrev pub invariant-loop-pair : goal.invariant-loop-pair
invariant-loop-pair l = record {
  room : vec_len l.left ≤ spare l.places;
  put : IsDistinct bytes_eq (keys_of (l.initial.places.entries ++ reverse l.initial.left.items)) → l.places.entries ++ reverse l.left.items ≡ l.initial.places.entries ++ reverse l.initial.left.items;
}

abbrev pub decreases-loop-pair : goal.decreases-loop-pair
decreases-loop-pair l = vec_len l.left
