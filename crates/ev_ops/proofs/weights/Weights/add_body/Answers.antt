use Rattle.std.proofs.Common.{map, subst as transport}
use Rattle.ev_terms.specs.Types.{type_list}
use Rattle.ev_ops.specs.inner.Weights.{IsAdded, whole, within, zipped, weigh_type}
use Rattle.ev_ops.proofs.WeightLaws.{added_then, added_within, added_same, alike, within_whole}
use Rattle.ev_ops.proofs.weights.Weights.add_body.Goals as goal

pub returns : goal.returns
returns c =
    added_then c.args.self.now c.add_own.new.self c.add_types_by.new.self c.args.at (λ τ ω. c.args.body.now.own)
    (λ τ ω. zipped c.args.body.now.types.items (map (weigh_type τ) (type_list c.args.types.now)))
    (added_same c.args.self.now c.add_own.new.self c.args.at (λ τ ω. within c.args.body.now.own whole) (λ τ ω. c.args.body.now.own)
    (λ τ ω. alike (within c.args.body.now.own whole) c.args.body.now.own (within_whole c.args.body.now.own))
    (added_within c.args.self.now c.add_own.new.self c.args.at c.within.result c.args.body.now.own (λ τ ω. whole) c.within.ensures c.add_own.ensures))
    (transport (λ ws. IsAdded c.add_own.new.self c.add_types_by.new.self c.args.at (λ τ ω. zipped ws (map (weigh_type τ) (type_list c.args.types.now)))) c.deref.ensures.value c.add_types_by.ensures)
