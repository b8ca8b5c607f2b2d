use Rattle.std.proofs.Common.{◌++◌, ◌∙◌, ap, sym, arith}
use Rattle.std.proofs.lemmas.List.{take_rest}
use Rattle.ev_terms.proofs.Children.{depth_at}
use Rattle.ev_typing.proofs.Checks.{node_of}
use Rattle.ev_print.specs.Canon.{piece}
use Rattle.ev_terms.specs.Types.{type_list}
use Rattle.ev_terms.specs.Term.{terms}
use Rattle.ev_print.proofs.TypeSteps.{on_ok}
use Rattle.ev_print.proofs.NestSteps.{stays, base_written, user_written}
use Rattle.ev_print.proofs.TermSteps.{infix_few, image_few, application_few, nothing_more, call_gives}
use Rattle.ev_print.proofs.terms.+push_term.Goals as goal

pub push_application-returns-in_default : goal.push_application-returns-in_default
push_application-returns-in_default t c = nothing_more _ _ (application_few c.args.env.now c.args.n c.args.children.now c.in_default.len_below)

pub push_image-returns-in_default : goal.push_image-returns-in_default
push_image-returns-in_default t c = nothing_more _ _ (image_few c.args.env.now c.args.n c.args.children.now c.in_default.len_below)

pub push_infix-returns-in_default : goal.push_infix-returns-in_default
push_infix-returns-in_default t c = nothing_more _ _ (infix_few c.args.env.now c.args.n c.args.mark c.args.children.now c.in_default.len_below)

pub push_term-returns-in-Some-types : goal.push_term-returns-in-Some-types
push_term-returns-in-Some-types t c =
    on_ok c.push_node.result (λ h.
    h ∙ ap (λ u. c.args.text.now.items ++ (piece c.args.env.now c.args.n u).text)
    (sym (node_of c.args.tree.now c.in-Some-sym.sym.now c.in-Some-types.types.now c.children.result.now c.in-Some-sym.ensures c.in-Some-types.ensures c.children.ensures)))
    c.push_node.ensures

pub push_call-returns-in_ok-push_rest-in-len1-up : goal.push_call-returns-in_ok-push_rest-in-len1-up
push_call-returns-in_ok-push_rest-in-len1-up t c =
    on_ok c.append-in-len1-up-2.result (λ h.
    call_gives c.args.env.now c.args.n c.args.children.now _ c.first-item.result c.args.text.now.items _ _ _ _ _ c.args.name.now _ c.first-item.is c.in-len1-up.len_at_least (take_rest c.args.children.now 1) c.as_slice.ensures c.in_ok-append.ensures
    c.in_ok-append-in-len1-up.ensures c.in_ok-push_term-in-len1-up.ensures c.in_ok-push_rest-in-len1-up.ensures h) c.append-in-len1-up-2.ensures

pub push_quantifier-overflow_add-inner : goal.push_quantifier-overflow_add-inner
push_quantifier-overflow_add-inner t c = omega (arith, c.requires.within, c.args.text.now.ok.0, c.args.text.now.ok.1, c.args.text.now.small)

pub push_set-overflow_add-inner : goal.push_set-overflow_add-inner
push_set-overflow_add-inner t c = omega (arith, c.requires.within, c.args.text.now.ok.0, c.args.text.now.ok.1, c.args.text.now.small)

pub push_symbol-returns-in-Base : goal.push_symbol-returns-in-Base
push_symbol-returns-in-Base t c =
    on_ok c.push_base.result (λ h.
    h ∙ ap (λ w. c.args.text.now.items ++ w)
    (base_written c.args.env.now c.args.sym.now c.in-Base.row c.args.n c.base_style.result (type_list c.args.types.now) (terms c.args.children.now) c.in-Base.is c.base_style.ensures))
    c.push_base.ensures

pub push_symbol-returns-in-User : goal.push_symbol-returns-in-User
push_symbol-returns-in-User t c =
    on_ok c.push_call.result (λ h.
    h ∙ ap (λ w. c.args.text.now.items ++ w)
    (user_written c.args.env.now c.args.sym.now c.in-User.name c.args.n (type_list c.args.types.now) (terms c.args.children.now) c.in-User.is))
    c.push_call.ensures

pub push_rest-push_term-requires : goal.push_rest-push_term-requires
push_rest-push_term-requires t c = (
  omega (arith, depth_at c.args.children.now c.loop-child.child-index c.child-item.result c.child-item.is c.loop-child-test.true),
  stays c.args.n c.loop-child.text.items c.append.new.text.items _ c.loop-child.invariant.nested c.in_ok-append.ensures,
)
