use Rattle.std.proofs.Common.{◌≡◌, ◌≤◌, ◌+◌, max, ◌*◌}
use Rattle.ev_terms.specs.Measures.{capped, type_size, types_depth, types_size}
use Rattle.ev_terms.proofs.tree.measures.+type_extent.Given as goal

abbrev pub decreases-type_extent : goal.decreases-type_extent
decreases-type_extent l = 2 * type_size l.ty.now

abbrev pub decreases-types_extent : goal.decreases-types_extent
decreases-types_extent l = 2 * types_size l.types.now + 1

abbrev pub invariant-types_extent-loop-left : goal.invariant-types_extent-loop-left
invariant-types_extent-loop-left l = record {
  smaller : types_size l.left ≤ types_size l.types;
  fits : l.all.size ≤ 18446744073709551615;
  size_is : capped (l.all.size + types_size l.left) ≡ capped (types_size l.types);
  depth_is : max l.all.depth (capped (types_depth l.left)) ≡ capped (types_depth l.types);
}
