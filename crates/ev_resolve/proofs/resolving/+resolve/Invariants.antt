use Rattle.std.proofs.Common.{◌≡◌, ◌+◌, drop}
use Rattle.std.specs.Option.{option_and_then}
use Rattle.ev_syntax.specs.inner.RawView.{raws}
use Rattle.ev_resolve.specs.Resolve.{known_of, resolve, resolve_all, resolve_members, bare_z}
use Rattle.ev_resolve.specs.inner.Scopes.{scope_of}
use Rattle.ev_resolve.proofs.ResolveSteps.{weight, weights, inner_weight, with_rest}
use Rattle.ev_resolve.proofs.resolving.+resolve.Given as goal

abbrev pub decreases-resolve_raw : goal.decreases-resolve_raw
decreases-resolve_raw l = weight l.raw.now

abbrev pub decreases-resolve_call : goal.decreases-resolve_call
decreases-resolve_call l = 2 + weights (raws l.args.now)

abbrev pub decreases-resolve_all : goal.decreases-resolve_all
decreases-resolve_all l = 1 + weights (raws l.list.now)

abbrev pub decreases-resolve_marked : goal.decreases-resolve_marked
decreases-resolve_marked l = 1 + weight l.operand.now

abbrev pub decreases-resolve_binary : goal.decreases-resolve_binary
decreases-resolve_binary l = 1 + (weight l.left.now + weight l.right.now)

abbrev pub decreases-resolve_inverse : goal.decreases-resolve_inverse
decreases-resolve_inverse l = 1 + weight l.relation.now

abbrev pub decreases-resolve_pair : goal.decreases-resolve_pair
decreases-resolve_pair l = 1 + (weight l.left.now + weight l.right.now)

abbrev pub decreases-resolve_typed : goal.decreases-resolve_typed
decreases-resolve_typed l = 1 + weight l.raw.now

abbrev pub decreases-resolve_quantified : goal.decreases-resolve_quantified
decreases-resolve_quantified l = 5 + weight l.body.now

abbrev pub decreases-bind : goal.decreases-bind
decreases-bind l = 2 + inner_weight l.inner.now

abbrev pub decreases-resolve_inner : goal.decreases-resolve_inner
decreases-resolve_inner l = 1 + inner_weight l.inner.now

abbrev pub decreases-resolve_condition : goal.decreases-resolve_condition
decreases-resolve_condition l = 1 + (weight l.condition.now + weight l.value.now)

abbrev pub decreases-resolve_mapping : goal.decreases-resolve_mapping
decreases-resolve_mapping l = 1 + (weight l.condition.now + weight l.value.now)

abbrev pub decreases-resolve_collected : goal.decreases-resolve_collected
decreases-resolve_collected l = 8 + (weight l.condition.now + weight l.value.now)

abbrev pub decreases-resolve_lambda : goal.decreases-resolve_lambda
decreases-resolve_lambda l = 8 + (weight l.condition.now + weight l.value.now)

abbrev pub decreases-resolve_members_of : goal.decreases-resolve_members_of
decreases-resolve_members_of l = 4 + inner_weight l.inner.now

abbrev pub decreases-resolve_some : goal.decreases-resolve_some
decreases-resolve_some l = 3 + (weight l.first.now + weights (raws l.rest.now))

abbrev pub decreases-resolve_set : goal.decreases-resolve_set
decreases-resolve_set l = 4 + weights (raws l.members.now)

abbrev pub decreases-resolve_members : goal.decreases-resolve_members
decreases-resolve_members l = 2 + (weight l.first.now + weights (raws l.rest.now))

-- the scope is as it was, and what is found goes on with what the rest says
abbrev pub invariant-resolve_all-loop-raw : goal.invariant-resolve_all-loop-raw
invariant-resolve_all-loop-raw l = record {
  kept : l.scope ≡ l.initial.scope;
  rest : with_rest l.names.0 (known_of l.names.1) (scope_of l.initial.scope) l.bares (drop l.raw-index l.list) ≡ resolve_all l.names.0 (known_of l.names.1) (raws l.list) (scope_of l.initial.scope);
}

abbrev pub invariant-resolve_members-loop-raw : goal.invariant-resolve_members-loop-raw
invariant-resolve_members-loop-raw l = record {
  kept : l.scope ≡ l.initial.scope;
  rest : resolve_members l.names.0 (known_of l.names.1) (raws (drop l.raw-index l.rest)) (scope_of l.initial.scope) l.front
      ≡ option_and_then (λ b. resolve_members l.names.0 (known_of l.names.1) (raws l.rest) (scope_of l.initial.scope) (bare_z b)) (resolve l.names.0 (known_of l.names.1) l.first (scope_of l.initial.scope));
}
