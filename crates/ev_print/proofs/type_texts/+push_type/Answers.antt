use Rattle.std.proofs.Common.{◌≡◌, ◌++◌, subst, arith}
use Rattle.std.specs.Prelude.{OnOk}
use Rattle.ev_print.proofs.TypeSteps.{on_ok, list_gives, called_step, rest_step, size_step, product_text, product_rank, list_rank}
use Rattle.ev_print.proofs.type_texts.+push_type.Goals as goal

pub push_list-returns : goal.push_list-returns
push_list-returns t c =
    on_ok c.append-2.result (λ h. list_gives _ _ _ _ _ _ _ c.in_ok-append.ensures c.in_ok-push_type.ensures c.in_ok-push_rest.ensures h) c.append-2.ensures

pub push_data-returns-in-More : goal.push_data-returns-in-More
push_data-returns-in-More t c =
    on_ok c.push_list.result (λ h. called_step _ _ _ _ _ _ _ _ _ _ c.in-More.is c.get.ensures c.get-in-More.ensures c.as_slice.ensures c.in_ok-append.ensures h) c.push_list.ensures

pub push_data-push_list-requires : goal.push_data-push_list-requires
push_data-push_list-requires t c = (let r = list_rank _ _ _ _ _ c.in-More.is c.get.ensures c.get-in-More.ensures in let d = c.decreases in omega (arith, r, d), tt)

pub push_rest-loop-left-preserved : goal.push_rest-loop-left-preserved
push_rest-loop-left-preserved t c = (
  rest_step _ _ _ _ _ _ _ _ _ c.in-More.is c.get.ensures c.get-left.ensures c.in_ok-append.ensures c.in_ok-push_type.ensures c.loop-left.invariant.0,
  size_step _ _ _ _ _ c.in-More.is c.get-left.ensures c.loop-left.invariant.1,
)

pub push_type-push_product-requires : goal.push_type-push_product-requires
push_type-push_product-requires t c = (let r = product_rank _ _ _ _ _ c.in-Prod.is c.get-in-Prod.ensures c.get-in-Prod-2.ensures in let d = c.decreases in omega (arith, r, d), tt)

pub push_type-returns-in-Prod : goal.push_type-returns-in-Prod
push_type-returns-in-Prod t c =
    subst (λ x. OnOk c.push_product.result (c.push_product.new.text.items ≡ c.args.text.now.items ++ x))
    (product_text _ _ _ _ _ c.in-Prod.is c.get-in-Prod.ensures c.get-in-Prod-2.ensures) c.push_product.ensures
