use Rattle.std.proofs.Common.{ap, sym, ◌∙◌, refl, inr}
use Rattle.std.specs.Option.{option_copied}
use Rattle.ev_axioms.proofs.Built.{outside, no_row, within, found_row, a_row, not_outside}
use Rattle.ev_axioms.proofs.axioms.axiom.Goals as goal

pub returns-in_default-clause-no_such : goal.returns-in_default-clause-no_such
returns-in_default-clause-no_such c = (λ e. inr (outside c.args.k c.if-k-eq0.false (sym (ap option_copied c.in_default.is) ∙ c.steps_of.ensures)), λ x. refl)

pub returns-in_default-clause-none : goal.returns-in_default-clause-none
returns-in_default-clause-none c = (λ e. no_row c.args.k (inr (outside c.args.k c.if-k-eq0.false (sym (ap option_copied c.in_default.is) ∙ c.steps_of.ensures))), λ x. refl)

pub unreachable-requires : goal.unreachable-requires
unreachable-requires c =
    a_row c.args.k c.if-k-eq0.false (within c.args.k c.in-Some.steps.now c.in-Some.ensures)
    (sym (found_row c.args.k c.in-Some.steps.now c.in-Ok-None.field-0 c.if-k-eq0.false c.in-Some.ensures c.in-Ok-None.ensures) ∙ c.in-Ok-None.field-0-is)

pub returns-in-Ok-Some-clause-no_such : goal.returns-in-Ok-Some-clause-no_such
returns-in-Ok-Some-clause-no_such c =
    (λ e. cc, λ x. absurd (not_outside c.args.k c.if-k-eq0.false (within c.args.k c.in-Some.steps.now c.in-Some.ensures) x))

pub returns-in-Ok-Some-clause-none : goal.returns-in-Ok-Some-clause-none
returns-in-Ok-Some-clause-none c = (λ e. cc, λ x. absurd (a_row c.args.k c.if-k-eq0.false (within c.args.k c.in-Some.steps.now c.in-Some.ensures) x))

pub returns-in-Ok-Some-clause-found : goal.returns-in-Ok-Some-clause-found
returns-in-Ok-Some-clause-found c =
    sym (found_row c.args.k c.in-Some.steps.now c.in-Ok-Some.field-0 c.if-k-eq0.false c.in-Some.ensures c.in-Ok-Some.ensures) ∙ c.in-Ok-Some.field-0-is

pub returns-in-Err-clause-no_such : goal.returns-in-Err-clause-no_such
returns-in-Err-clause-no_such c =
    (λ e. cc, λ x. absurd (not_outside c.args.k c.if-k-eq0.false (within c.args.k c.in-Some.steps.now c.in-Some.ensures) x))

pub returns-in-Err-clause-none : goal.returns-in-Err-clause-none
returns-in-Err-clause-none c = (λ e. cc, λ x. absurd (a_row c.args.k c.if-k-eq0.false (within c.args.k c.in-Some.steps.now c.in-Some.ensures) x))
