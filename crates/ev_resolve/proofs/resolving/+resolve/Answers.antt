use Rattle.std.proofs.Common.{rules, ◌≡◌, ap, sym, ◌∙◌, ◌+◌, length, drop, Some, None, option_map, arith}
use Rattle.std.specs.Prelude.{option_and_then}
use Rattle.ev_forms.specs.Base as base
use Rattle.ev_terms.specs.declared.types.Ty.{Int}
use Rattle.ev_terms.specs.declared.types.Sym.TheVariants.{Base}
use Rattle.ev_typing.proofs.Signatures.{ok_weaker}
use Rattle.ev_typing.proofs.Names.{drop_at, drop_all}
use Rattle.ev_syntax.specs.Raw.{quantified, collected, members}
use Rattle.ev_syntax.specs.inner.RawView.{raw_of, raws}
use Rattle.ev_resolve.specs.Reading.{quantifier, meaning, unnamed}
use Rattle.ev_resolve.specs.Bare.{bare_none, bare_more}
use Rattle.ev_resolve.specs.inner.BareView.{bares}
use Rattle.ev_resolve.specs.Resolve.{known_of, resolve, resolve_members, bind_all, bare_one, bare_z, plain_bare}
use Rattle.ev_resolve.specs.inner.Scopes.{scope_of, meaning_told}
use Rattle.ev_resolve.specs.inner.Inners.{binders_told, inner_bare, written_types, wrap}
use Rattle.ev_resolve.proofs.BindSteps.{binds, binds_nothing}
use Rattle.ev_resolve.proofs.ResolveSteps.{with_rest, rest_found, before_nothing, call_found, first_raw, told_some, told_none, popped}
use Rattle.ev_resolve.proofs.resolving.+resolve.Goals as goal

pub resolve_raw-returns-in-Quantified-clause-told : goal.resolve_raw-returns-in-Quantified-clause-told
resolve_raw-returns-in-Quantified-clause-told t c =
    ok_weaker c.resolve_quantified.result (λ o h. h
    ∙ ap (λ r. resolve c.args.names.now.0 (known_of c.args.names.now.1) r (scope_of c.args.scope.now))
    (ap (λ bs. quantified c.in-Quantified.mark bs c.in-Quantified.e) c.as_slice-in-Quantified.ensures ∙ sym (ap raw_of c.in-Quantified.is) ∙ c.form.ensures)) c.resolve_quantified.ensures.told

pub resolve_raw-returns-in-Collected-clause-told : goal.resolve_raw-returns-in-Collected-clause-told
resolve_raw-returns-in-Collected-clause-told t c =
    ok_weaker c.resolve_collected.result (λ o h. h
    ∙ ap (λ r. resolve c.args.names.now.0 (known_of c.args.names.now.1) r (scope_of c.args.scope.now))
    (ap (λ bs. collected c.in-Collected.mark bs c.in-Collected.e c.in-Collected.f) c.as_slice-in-Collected.ensures ∙ sym (ap raw_of c.in-Collected.is) ∙ c.form.ensures)) c.resolve_collected.ensures.told

pub resolve_raw-returns-in-Lambda-clause-told : goal.resolve_raw-returns-in-Lambda-clause-told
resolve_raw-returns-in-Lambda-clause-told t c =
    ok_weaker c.resolve_lambda.result (λ o h. h
    ∙ ap (λ r. resolve c.args.names.now.0 (known_of c.args.names.now.1) r (scope_of c.args.scope.now)) (sym (ap raw_of c.in-Lambda.is) ∙ c.form.ensures)) c.resolve_lambda.ensures.told

pub resolve_all-loop-raw-preserved : goal.resolve_all-loop-raw-preserved
resolve_all-loop-raw-preserved t c =
    let params = c.args.names.now.0 in
    let known = known_of c.args.names.now.1 in
    let vars = scope_of c.args.scope.now in
    let i = c.loop-raw.raw-index in
    let found : resolve params known c.raw-item.result vars ≡ Some c.in-Some.bare =
    ap (λ s. resolve params known c.raw-item.result (scope_of s)) (sym c.loop-raw.invariant.kept) ∙ sym c.in_ok-bare.ensures.told ∙ c.in-Some.is in
    record {
      kept = c.in_ok-bare.ensures.kept ∙ c.loop-raw.invariant.kept;
      rest = ap (λ bs. with_rest params known vars bs (drop (i + 1) c.args.list.now)) c.in_ok-push-in-Some.ensures.ok
          ∙ sym (rest_found params known vars c.loop-raw.bares c.raw-item.result (drop (i + 1) c.args.list.now) c.in-Some.bare found)
          ∙ ap (with_rest params known vars c.loop-raw.bares) (sym (drop_at c.args.list.now i c.raw-item.result c.raw-item.is c.loop-raw-test.true))
          ∙ c.loop-raw.invariant.rest;
    }

pub resolve_all-returns-clause-told : goal.resolve_all-returns-clause-told
resolve_all-returns-clause-told t c =
    ap Some (sym (before_nothing c.loop-raw.bares))
    ∙ sym (ap (with_rest c.args.names.now.0 (known_of c.args.names.now.1) (scope_of c.args.scope.now) c.loop-raw.bares) (drop_all c.args.list.now c.loop-raw.raw-index (omega (arith, c.loop-raw-test.false))))
    ∙ c.loop-raw.invariant.rest

pub resolve_call-returns-clause-told : goal.resolve_call-returns-clause-told
resolve_call-returns-clause-told t c =
    let params = c.args.names.now.0 in
    let known = known_of c.args.names.now.1 in
    let vars = scope_of c.args.scope.now in
    ok_weaker c.call.result (λ o h. h
    ∙ call_found params known vars c.args.name.now c.args.args.now (meaning_told c.in_ok-meant.meant) (length c.args.args.now) (bares c.in-Some.args)
    (c.in_ok-meant.ensures ∙ ap (λ s. meaning params known c.args.name.now (scope_of s) 0) c.in_ok-args.ensures.kept) (search rules)
    (ap (option_map bares) (sym c.in-Some.is) ∙ c.in_ok-args.ensures.told)) c.call.ensures

pub resolve_quantified-returns-clause-told : goal.resolve_quantified-returns-clause-told
resolve_quantified-returns-clause-told t c =
    let params = c.args.names.now.0 in
    let known = known_of c.args.names.now.1 in
    let vars = scope_of c.args.scope.now in
    ok_weaker c.bind.result (λ o h. h
    ∙ ap (λ s. bind_all params known s (binders_told c.as_slice.result.now) (λ x. resolve params known c.args.body.now x) vars) c.quantifier_row-row.ensures
    ∙ ap (λ bs. bind_all params known (quantifier c.args.mark) bs (λ x. resolve params known c.args.body.now x) vars) (ap binders_told c.as_slice.ensures.value ∙ c.in_ok-binders.ensures)) c.bind.ensures.told

pub resolve_set-returns-in-len1-up-clause-told : goal.resolve_set-returns-in-len1-up-clause-told
resolve_set-returns-in-len1-up-clause-told t c =
    ok_weaker c.resolve_some.result (λ o h. h
    ∙ ap (λ es. resolve c.args.names.now.0 (known_of c.args.names.now.1) (members es) (scope_of c.args.scope.now))
    (sym (first_raw c.args.members.now c.first-item.result c.in-len1-up.len_at_least c.first-item.is))) c.resolve_some.ensures.told

pub bind-returns-in_default-clause-told : goal.bind-returns-in_default-clause-told
bind-returns-in_default-clause-told t c =
    let params = c.args.names.now.0 in
    let known = known_of c.args.names.now.1 in
    binds_nothing params known (Base c.args.row) (binders_told c.args.binders.now) (inner_bare params known c.args.inner.now) (scope_of c.args.scope.now)
    (told_none _ c.in_ok-types.field-0 (written_types params known (binders_told c.args.binders.now)) c.in_ok-types.ensures c.in_default.is)

pub bind-returns-in_ok-wrap-in-Some-body-clause-told : goal.bind-returns-in_ok-wrap-in-Some-body-clause-told
bind-returns-in_ok-wrap-in-Some-body-clause-told t c =
    let params = c.args.names.now.0 in
    let known = known_of c.args.names.now.1 in
    ap Some c.in_ok-wrap-in-Some-body.ensures
    ∙ ap (option_map (wrap (Base c.args.row) c.in-Some.types.items)) (sym c.in-Some-body.is ∙ c.in_ok-body.ensures.told ∙ ap (inner_bare params known c.args.inner.now) c.in_ok-push_binders.ensures.told)
    ∙ binds params known (Base c.args.row) (binders_told c.args.binders.now) (inner_bare params known c.args.inner.now) (scope_of c.args.scope.now) c.in-Some.types.items
    (told_some _ c.in_ok-types.field-0 c.in-Some.types (written_types params known (binders_told c.args.binders.now)) c.in_ok-types.ensures c.in-Some.is)

pub bind-returns-in-None-clause-told : goal.bind-returns-in-None-clause-told
bind-returns-in-None-clause-told t c =
    let params = c.args.names.now.0 in
    let known = known_of c.args.names.now.1 in
    ap (option_map (wrap (Base c.args.row) c.in-Some.types.items)) (sym c.in-None.is ∙ c.in_ok-body.ensures.told ∙ ap (inner_bare params known c.args.inner.now) c.in_ok-push_binders.ensures.told)
    ∙ binds params known (Base c.args.row) (binders_told c.args.binders.now) (inner_bare params known c.args.inner.now) (scope_of c.args.scope.now) c.in-Some.types.items
    (told_some _ c.in_ok-types.field-0 c.in-Some.types (written_types params known (binders_told c.args.binders.now)) c.in_ok-types.ensures c.in-Some.is)

pub resolve_members_of-returns-in_ok-one-in-Some-clause-kept : goal.resolve_members_of-returns-in_ok-one-in-Some-clause-kept
resolve_members_of-returns-in_ok-one-in-Some-clause-kept t c =
    popped c.args.scope.now c.push_unnamed.new.scope c.bind.new.scope c.pop.new.self (unnamed Int) (scope_of c.args.scope.now) c.pop.ensures c.in_ok-body.ensures.kept c.in_ok-push_unnamed.ensures.told
    c.in_ok-push_unnamed.ensures.back

pub resolve_members_of-returns-in-None-clause-kept : goal.resolve_members_of-returns-in-None-clause-kept
resolve_members_of-returns-in-None-clause-kept t c =
    popped c.args.scope.now c.push_unnamed.new.scope c.bind.new.scope c.pop.new.self (unnamed Int) (scope_of c.args.scope.now) c.pop.ensures c.in_ok-body.ensures.kept c.in_ok-push_unnamed.ensures.told
    c.in_ok-push_unnamed.ensures.back

pub resolve_raw-returns-in-Around-clause-told : goal.resolve_raw-returns-in-Around-clause-told
resolve_raw-returns-in-Around-clause-told t c =
    let params = c.args.names.now.0 in
    let known = known_of c.args.names.now.1 in
    let vars = scope_of c.args.scope.now in
    ok_weaker c.resolve_marked.result (λ o h. h
    ∙ ap (λ e. option_and_then (λ b. plain_bare e (bare_more b bare_none)) (resolve params known c.in-Around.e vars)) c.around_symbol.ensures
    ∙ ap (λ r. resolve params known r vars) (sym (ap raw_of c.in-Around.is) ∙ c.form.ensures)) c.resolve_marked.ensures.told

pub resolve_raw-returns-in-Unary-clause-told : goal.resolve_raw-returns-in-Unary-clause-told
resolve_raw-returns-in-Unary-clause-told t c =
    let params = c.args.names.now.0 in
    let known = known_of c.args.names.now.1 in
    let vars = scope_of c.args.scope.now in
    ok_weaker c.resolve_marked-in-Unary.result (λ o h. h
    ∙ ap (λ e. option_and_then (λ b. plain_bare e (bare_more b bare_none)) (resolve params known c.in-Unary.e vars)) c.prefix_symbol.ensures
    ∙ ap (λ r. resolve params known r vars) (sym (ap raw_of c.in-Unary.is) ∙ c.form.ensures)) c.resolve_marked-in-Unary.ensures.told

pub resolve_some-returns-in_ok-one-in-Some-clause-told : goal.resolve_some-returns-in_ok-one-in-Some-clause-told
resolve_some-returns-in_ok-one-in-Some-clause-told t c =
    let params = c.args.names.now.0 in
    let known = known_of c.args.names.now.1 in
    ap Some c.in_ok-one-in-Some.ensures
    ∙ ap (option_map (bare_one base.set_sym None)) (sym c.in-Some.is ∙ c.in_ok-body.ensures.told
    ∙ ap (λ vs. option_and_then (λ b. resolve_members params known (raws c.args.rest.now) vs (bare_z b)) (resolve params known c.args.first.now vs)) c.in_ok-push_unnamed.ensures.told)

pub resolve_some-returns-in_ok-one-in-Some-clause-kept : goal.resolve_some-returns-in_ok-one-in-Some-clause-kept
resolve_some-returns-in_ok-one-in-Some-clause-kept t c =
    popped c.args.scope.now c.push_unnamed.new.scope c.resolve_members.new.scope c.pop.new.self (unnamed Int) (scope_of c.args.scope.now) c.pop.ensures c.in_ok-body.ensures.kept c.in_ok-push_unnamed.ensures.told
    c.in_ok-push_unnamed.ensures.back

pub resolve_some-returns-in-None-clause-told : goal.resolve_some-returns-in-None-clause-told
resolve_some-returns-in-None-clause-told t c =
    let params = c.args.names.now.0 in
    let known = known_of c.args.names.now.1 in
    ap (option_map (bare_one base.set_sym None)) (sym c.in-None.is ∙ c.in_ok-body.ensures.told
    ∙ ap (λ vs. option_and_then (λ b. resolve_members params known (raws c.args.rest.now) vs (bare_z b)) (resolve params known c.args.first.now vs)) c.in_ok-push_unnamed.ensures.told)

pub resolve_some-returns-in-None-clause-kept : goal.resolve_some-returns-in-None-clause-kept
resolve_some-returns-in-None-clause-kept t c =
    popped c.args.scope.now c.push_unnamed.new.scope c.resolve_members.new.scope c.pop.new.self (unnamed Int) (scope_of c.args.scope.now) c.pop.ensures c.in_ok-body.ensures.kept c.in_ok-push_unnamed.ensures.told
    c.in_ok-push_unnamed.ensures.back
