use Rattle.std.specs.Prelude.{◌≡◌, ◌<◌, ◌++◌, length, ◌∷◌, [], true, false, option_map}
use Rattle.std.proofs.Common.{get_or, ap, sym, ◌∙◌, rules}
use Rattle.ev_resolve.specs.inner.BareView.{bares}
use Rattle.ev_infer.specs.Equations.{emit_all}
use Rattle.ev_infer.specs.inner.Walks.{pats, walk_told, all_walk_of, when}
use Rattle.ev_infer.proofs.EmissionSteps.{all_other, child_clash, child_some, typed_improper, typed_some, under_one}
use Rattle.ev_infer.proofs.emission.+emit.Goals as goal

pub emit_all-returns-then-children-args-clause-told : goal.emit_all-returns-then-children-args-clause-told
emit_all-returns-then-children-args-clause-told t c =
    all_other c.args.env.now c.args.children.now c.args.args.now (pats c.args.types.now) c.args.context.now.items c.args.next c.args.pairs.now c.if-children-args.true

pub emit_child-returns-then-not-branch-clause-told : goal.emit_child-returns-then-not-branch-clause-told
emit_child-returns-then-not-branch-clause-told t c =
    let q : c.in_ok-meet.field-0 ≡ false = search rules in
    child_clash c.args.env.now c.args.bare.now c.args.arg.now (pats c.args.types.now) c.args.context.now.items c.args.next c.args.pairs.now c.emit.new.pairs c.meet.new.pairs c.in-Some.walked c.in_ok-asked.asked
    (ap (option_map (walk_told c.emit.new.pairs)) (sym c.in-Some.is) ∙ c.in_ok-walked.ensures.told) c.in_ok-asked.ensures (c.in_ok-meet.ensures ∙ ap (λ b. when b c.meet.new.pairs) q)

pub emit_child-returns-clause-told : goal.emit_child-returns-clause-told
emit_child-returns-clause-told t c =
    let q : c.in_ok-meet.field-0 ≡ true = search rules in
    child_some c.args.env.now c.args.bare.now c.args.arg.now (pats c.args.types.now) c.args.context.now.items c.args.next c.args.pairs.now c.emit.new.pairs c.meet.new.pairs c.in-Some.walked c.in_ok-asked.asked
    (ap (option_map (walk_told c.emit.new.pairs)) (sym c.in-Some.is) ∙ c.in_ok-walked.ensures.told) c.in_ok-asked.ensures (c.in_ok-meet.ensures ∙ ap (λ b. when b c.meet.new.pairs) q)

pub emit_inside-returns-in_ok-walked-in-Some-clause-told : goal.emit_inside-returns-in_ok-walked-in-Some-clause-told
emit_inside-returns-in_ok-walked-in-Some-clause-told t c =
    let types = c.args.types.now in
    let l : 0 < length types = search rules in
    let p : c.in-Some.pat.now ≡ get_or types 0 c.in-Some.pat.now = search rules in
    c.in_ok-walked-in-Some.ensures.told
    ∙ ap (λ D. option_map (all_walk_of c.args.pairs.now) (emit_all c.args.env.now (bares c.args.children.now) c.args.args.now (pats types) D c.args.next))
    (c.in_ok-push-in-Some.ensures.items ∙ ap (λ q. c.args.context.now.items ++ q ∷ []) c.in_ok-try_copy-in-Some.ensures
    ∙ under_one c.args.env.now c.args.context.now.items c.args.sym.now types c.in-Some.pat.now (λ z. c.if-binds-eq0.false (c.binds.ensures ∙ z)) l p)

pub emit_typed-returns-then-not-is_proper-clause-told : goal.emit_typed-returns-then-not-is_proper-clause-told
emit_typed-returns-then-not-is_proper-clause-told t c =
    typed_improper c.args.env.now c.args.bare.now c.args.ty.now c.is_proper.result c.args.context.now.items c.args.next c.args.pairs.now c.is_proper.ensures c.if-not-is_proper.true

pub emit_typed-returns-clause-told : goal.emit_typed-returns-clause-told
emit_typed-returns-clause-told t c =
    let q : c.is_proper.result ≡ true = search rules in
    typed_some c.args.env.now c.args.bare.now c.args.ty.now c.is_proper.result c.args.context.now.items c.args.next c.args.pairs.now c.emit.new.pairs c.meet.new.pairs c.in-Some.walked c.in_ok-same_pattern.field-0 c.is_proper.ensures q
    (ap (option_map (walk_told c.emit.new.pairs)) (sym c.in-Some.is) ∙ c.in_ok-walked.ensures.told) c.in_ok-same_pattern.ensures (c.in_ok-meet.ensures ∙ ap (λ b. when b c.meet.new.pairs) c.if-not-branch.false)
