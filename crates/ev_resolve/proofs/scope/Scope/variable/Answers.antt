use Rattle.std.specs.Prelude.{bytes_eq, vec_len}
use Rattle.std.proofs.Common.{rules, ◌≡◌, ◌∙◌, ◌-◌, ap, arith, Some, None, get_or, length}
use Rattle.indexmap.specs.IndexMap.{get}
use Rattle.ev_resolve.specs.Reading.{meaning, variable_of}
use Rattle.ev_resolve.specs.inner.Scopes.{seen, scope_of}
use Rattle.ev_resolve.proofs.PlaceSteps.{found_within, found_meant, missing_meant}
use Rattle.ev_resolve.proofs.scope.Scope.variable.Goals as goal

pub index-slot-requires : goal.index-slot-requires
index-slot-requires c =
    let p : Some c.in-Some.place.now ≡ get bytes_eq c.self.inside.innermost c.args.name.now = search rules in
    let vl : vec_len c.self.inside.slots ≡ length c.self.inside.slots.items = search rules in
    omega (arith, found_within c.self.inside.innermost c.self.inside.slots.items c.self.invariant c.args.name.now c.in-Some.place.now p, vl)

pub overflow_sub-inside : goal.overflow_sub-inside
overflow_sub-inside c =
    let p : Some c.in-Some.place.now ≡ get bytes_eq c.self.inside.innermost c.args.name.now = search rules in
    let vl : vec_len c.self.inside.slots ≡ length c.self.inside.slots.items = search rules in
    omega (arith, found_within c.self.inside.innermost c.self.inside.slots.items c.self.invariant c.args.name.now c.in-Some.place.now p, c.len.ensures, vl)

pub overflow_sub-inside-in-Some : goal.overflow_sub-inside-in-Some
overflow_sub-inside-in-Some c =
    let p : Some c.in-Some.place.now ≡ get bytes_eq c.self.inside.innermost c.args.name.now = search rules in
    let vl : vec_len c.self.inside.slots ≡ length c.self.inside.slots.items = search rules in
    omega (arith, found_within c.self.inside.innermost c.self.inside.slots.items c.self.invariant c.args.name.now c.in-Some.place.now p, c.len.ensures, vl)

pub returns-in-Some-clause-found : goal.returns-in-Some-clause-found
returns-in-Some-clause-found c = λ params known.
    let p : Some c.in-Some.place.now ≡ get bytes_eq c.self.inside.innermost c.args.name.now = search rules in
    let vl : vec_len c.self.inside.slots ≡ length c.self.inside.slots.items = search rules in
    let at : c.index-slot.result.now ≡ get_or c.self.inside.slots.items c.in-Some.place.now c.index-slot.result.now = search rules in
    c.variable_meant.ensures
    ∙ ap (λ k. variable_of (seen c.index-slot.result.now.variable).type (k - 1 - c.in-Some.place.now)) (c.len.ensures ∙ vl)
    ∙ found_meant params known c.args.name.now c.self.inside.innermost c.self.inside.slots.items c.self.invariant c.in-Some.place.now c.index-slot.result.now p at
    ∙ ap (λ vs. meaning params known c.args.name.now (scope_of vs) 0) c.self.view_is

pub returns-in-None-clause-none : goal.returns-in-None-clause-none
returns-in-None-clause-none c = λ params known.
    let p : None ≡ get bytes_eq c.self.inside.innermost c.args.name.now = search rules in
    missing_meant params known c.args.name.now c.self.inside.innermost c.self.inside.slots.items c.self.invariant p
    ∙ ap (λ vs. meaning params known c.args.name.now (scope_of vs) 0) c.self.view_is
