use Rattle.std.proofs.Common.{◌∷◌, [], ◌++◌, ap, sym, ◌∙◌, subst}
use Rattle.std.specs.Prelude.{◌↔◌, IsTrue}
use Rattle.std.proofs.lemmas.Result.{IfOk-weaker}
use Rattle.ev_terms.specs.Term.{terms}
use Rattle.ev_typing.specs.Env.{Env}
use Rattle.ev_typing.specs.Typing.{AreTyped, IsTypeOf}
use Rattle.ev_typing.proofs.Checks.{other_length, inside_empty, inside_one, found_same, node_of}
use Rattle.ev_typing.proofs.checking.+type_in.Goals as goal

pub all_fit-returns-then-children-args-clause-fit : goal.all_fit-returns-then-children-args-clause-fit
all_fit-returns-then-children-args-clause-fit t c =
    other_length c.args.env.now c.args.context.now.items c.args.children.now c.args.args.now c.if-children-args.true

pub fit_inside-returns-in-None-clause-fit : goal.fit_inside-returns-in-None-clause-fit
fit_inside-returns-in-None-clause-fit t c =
    IfOk-weaker c.all_fit-in-None.result _ _ (λ b h.
    subst (λ D. IsTrue b ↔ AreTyped c.args.env.now D (terms c.args.children.now) c.args.args.now)
    (inside_empty c.args.context.now.items c.args.sym.now c.args.types.now c.in-None.ensures) h)
    c.all_fit-in-None.ensures.fit

pub fit_inside-returns-in_ok-fit-in-Some-clause-fit : goal.fit_inside-returns-in_ok-fit-in-Some-clause-fit
fit_inside-returns-in_ok-fit-in-Some-clause-fit t c =
    subst (λ D. IsTrue c.in_ok-fit-in-Some.fit ↔ AreTyped c.args.env.now D (terms c.args.children.now) c.args.args.now)
    (c.in_ok-push-in-Some.ensures.items ∙ ap (λ A. c.args.context.now.items ++ A ∷ []) c.in_ok-try_copy-in-Some.ensures
    ∙ inside_one c.args.context.now.items c.args.sym.now c.args.types.now c.in-Some.ty.now (λ z. c.if-binds-eq0.false (c.binds.ensures ∙ z)) c.in-Some.ensures)
    c.in_ok-fit-in-Some.ensures.fit

pub fits-returns-in-Some-clause-fit : goal.fits-returns-in-Some-clause-fit
fits-returns-in-Some-clause-fit t c =
    found_same c.args.env.now c.args.context.now.items c.args.tree.now c.in-Some.found c.args.ty.now c.same.result
    (subst (IsTypeOf c.args.env.now c.args.context.now.items c.args.tree.now) c.in-Some.is c.in_ok-found.ensures.typed) c.same.ensures

pub type_in-returns-in-Some-types-clause-typed : goal.type_in-returns-in-Some-types-clause-typed
type_in-returns-in-Some-types-clause-typed t c =
    IfOk-weaker c.node_type.result _ _ (λ o h.
    subst (λ u. IsTypeOf c.args.env.now c.args.context.now.items u o)
    (sym (node_of c.args.tree.now c.in-Some.sym.now c.in-Some-types.types.now c.children.result.now c.in-Some.ensures c.in-Some-types.ensures c.children.ensures)) h)
    c.node_type.ensures.typed

pub type_in-returns-in-None-clause-typed : goal.type_in-returns-in-None-clause-typed
type_in-returns-in-None-clause-typed t c =
    IfOk-weaker c.leaf_type.result (λ o. (env : Env) → IsTypeOf env c.as_slice.result.now c.args.tree.now o)
    (IsTypeOf c.args.env.now c.args.context.now.items c.args.tree.now)
    (λ o h. subst (λ C. IsTypeOf c.args.env.now C c.args.tree.now o) c.as_slice.ensures.value (h c.args.env.now)) c.leaf_type.ensures
