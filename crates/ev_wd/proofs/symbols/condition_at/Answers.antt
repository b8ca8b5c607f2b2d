use Rattle.std.proofs.Common.{◌≡◌, ◌∙◌, ◌≤◌, ap, max, rules, arith}
use Rattle.ev_terms.specs.declared.extents.Extent.{Extent}
use Rattle.ev_terms.specs.Term.{terms}
use Rattle.ev_terms.specs.Measures.{size, depth, all_loose, capped}
use Rattle.ev_terms.specs.Substitution.{inst, lifts, entry}
use Rattle.ev_wd.specs.Limits.{greatest_size, greatest_depth}
use Rattle.ev_wd.proofs.Filling.{filled_room}
use Rattle.ev_wd.proofs.symbols.condition_at.Goals as goal

pub substitute-requires : goal.substitute-requires
substitute-requires c =
    let k : (c.filled_extent-extent.result.size ≤ greatest_size) × (c.filled_extent-extent.result.depth ≤ greatest_depth) = c.is_within.ensures.0 (search rules) in
    filled_room c.in_ok-instance.instance c.in_ok-entries.entries c.max-greatest.result 4294967296 c.filled_extent-extent.result
    (c.max-greatest.ensures ∙ ap (λ i. max i c.greatest_loose.result) c.loose.ensures.is ∙ ap (max _) (c.greatest_loose.ensures.is ∙ ap (λ us. all_loose (terms us)) c.as_slice-2.ensures))
    (c.filled_extent-extent.ensures
    ∙ ap (λ us. let x : Extent = record { size = capped (size (inst (lifts 0 (entry us)) c.in_ok-instance.instance)); depth = capped (depth (inst (lifts 0 (entry us)) c.in_ok-instance.instance)) } in x) c.as_slice.ensures)
    k.1 (omega arith)
