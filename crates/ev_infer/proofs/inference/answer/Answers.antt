use Rattle.std.specs.Prelude.{reverse}
use Rattle.std.proofs.Common.{rules, ◌≡◌, ◌∙◌, ap, sym, true, false, subst as transport}
use Rattle.std.specs.Option.{option_copied}
use Rattle.ev_resolve.specs.TakenNames.{takes_name}
use Rattle.ev_resolve.specs.inner.Unknown.{uses_unknown}
use Rattle.ev_infer.specs.Answers.{IsFound}
use Rattle.ev_infer.proofs.Answering.{unknown_answer, taken_answer, found_answer}
use Rattle.ev_infer.proofs.inference.answer.Goals as goal

pub returns-then-branch : goal.returns-then-branch
returns-then-branch c =
    let q : c.in_ok-has_unknown_name.field-0 ≡ true = search rules in
    unknown_answer c.args.env.now c.args.params.now c.args.vars.now c.args.raw.now c.in_ok-names.names.items c.in_ok-names.ensures
    (sym (ap (λ k. uses_unknown k.1 k.0 c.args.raw.now (reverse c.in_ok-names.names.items)) c.in_ok-known.ensures)
    ∙ sym (ap (λ n. uses_unknown c.in_ok-known.known.1 c.in_ok-known.known.0 c.args.raw.now (reverse n)) c.as_slice.ensures.value) ∙ sym c.in_ok-has_unknown_name.ensures ∙ q)

pub returns-then-has_taken_binder : goal.returns-then-has_taken_binder
returns-then-has_taken_binder c =
    let q : c.in_ok-has_unknown_name.field-0 ≡ false = search rules in
    let t : c.has_taken_binder.result ≡ true = search rules in
    taken_answer c.args.env.now c.args.params.now c.args.vars.now c.args.raw.now c.in_ok-names.names.items c.in_ok-names.ensures
    (sym (ap (λ k. uses_unknown k.1 k.0 c.args.raw.now (reverse c.in_ok-names.names.items)) c.in_ok-known.ensures)
    ∙ sym (ap (λ n. uses_unknown c.in_ok-known.known.1 c.in_ok-known.known.0 c.args.raw.now (reverse n)) c.as_slice.ensures.value) ∙ sym c.in_ok-has_unknown_name.ensures ∙ q)
    (sym (ap (λ k. takes_name k.1 k.0 c.args.raw.now) c.in_ok-known.ensures) ∙ sym c.has_taken_binder.ensures ∙ t)

pub returns : goal.returns
returns c =
    let q : c.in_ok-has_unknown_name.field-0 ≡ false = search rules in
    let t : c.has_taken_binder.result ≡ false = search rules in
    found_answer c.args.env.now c.args.params.now c.args.vars.now c.args.raw.now (option_copied c.args.expected) c.args.limit.now c.in_ok-names.names.items c.in_ok-names.ensures
    (sym (ap (λ k. uses_unknown k.1 k.0 c.args.raw.now (reverse c.in_ok-names.names.items)) c.in_ok-known.ensures)
    ∙ sym (ap (λ n. uses_unknown c.in_ok-known.known.1 c.in_ok-known.known.0 c.args.raw.now (reverse n)) c.as_slice.ensures.value) ∙ sym c.in_ok-has_unknown_name.ensures ∙ q)
    (sym (ap (λ k. takes_name k.1 k.0 c.args.raw.now) c.in_ok-known.ensures) ∙ sym c.has_taken_binder.ensures ∙ t) c.annotation.result
    (transport (λ k. IsFound k.1 k.0 c.args.vars.now c.args.raw.now (option_copied c.args.expected) c.args.limit.now c.annotation.result) c.in_ok-known.ensures c.annotation.ensures)
