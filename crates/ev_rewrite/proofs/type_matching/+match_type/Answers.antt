use Rattle.std.proofs.Common.{false, refl, ap, sym, ◌∙◌, arith}
use Rattle.std.proofs.lemmas.Result.{IfOk-weaker}
use Rattle.ev_terms.specs.declared.types.Ty.TheVariants.{Pow}
use Rattle.ev_terms.proofs.Children.{size_step, second_size}
use Rattle.ev_rewrite.proofs.TypeParts.{set_size, first_size, head_size}
use Rattle.ev_rewrite.proofs.TakenSteps.{taken_pow, taken_prod, taken_more, refused_prod, refused_pow, refused_prod_form, refused_more, refused_more_form, prod_is, more_is}
use Rattle.ev_rewrite.proofs.type_matching.+match_type.Goals as goal

pub match_type-returns-then-not-branch : goal.match_type-returns-then-not-branch
match_type-returns-then-not-branch t c =
    refused_prod c.args.pattern.now c.args.ty.now c.get-in-Prod-ty.result.now c.in-Prod.b c.get-in-Prod-ty-2.result.now c.in-Prod-ty.d c.args.found.now c.match_type-in-Prod-ty.new.found c.match_type-in-Prod-ty.new.found
    c.in_ok-match_type-in-Prod-ty.field-0
    (prod_is _ _ _ _ _ c.in-Prod.is c.get-in-Prod-ty.ensures refl) (prod_is _ _ _ _ _ c.in-Prod-ty.is c.get-in-Prod-ty-2.ensures refl)
    c.if-not-branch.true c.in_ok-match_type-in-Prod-ty.ensures

pub match_type-returns-in-Pow-ty : goal.match_type-returns-in-Pow-ty
match_type-returns-in-Pow-ty t c =
    IfOk-weaker c.match_type.result _ _ (λ r h.
    taken_pow c.args.pattern.now c.args.ty.now c.get.result.now c.get-in-Pow-ty.result.now c.args.found.now c.match_type.new.found r
    (c.in-Pow.is ∙ ap Pow (sym c.get.ensures)) (c.in-Pow-ty.is ∙ ap Pow (sym c.get-in-Pow-ty.ensures)) h)
    c.match_type.ensures

pub match_type-returns-in_default : goal.match_type-returns-in_default
match_type-returns-in_default t c = refused_pow c.args.pattern.now c.args.ty.now c.in-Pow.a c.args.found.now c.args.found.now c.in-Pow.is c.in_default.not-Pow

pub match_type-returns-else-not-branch : goal.match_type-returns-else-not-branch
match_type-returns-else-not-branch t c =
    IfOk-weaker c.match_type-in-Prod-ty-2.result _ _ (λ r h.
    taken_prod c.args.pattern.now c.args.ty.now c.get-in-Prod-ty.result.now c.get-in-Prod-ty-3.result.now c.get-in-Prod-ty-2.result.now c.get-in-Prod-ty-4.result.now
    c.args.found.now c.match_type-in-Prod-ty.new.found c.match_type-in-Prod-ty-2.new.found c.in_ok-match_type-in-Prod-ty.field-0 r
    (prod_is _ _ _ _ _ c.in-Prod.is c.get-in-Prod-ty.ensures c.get-in-Prod-ty-3.ensures) (prod_is _ _ _ _ _ c.in-Prod-ty.is c.get-in-Prod-ty-2.ensures c.get-in-Prod-ty-4.ensures)
    c.if-not-branch.false c.in_ok-match_type-in-Prod-ty.ensures h)
    c.match_type-in-Prod-ty-2.ensures

pub match_type-returns-in_default-ty : goal.match_type-returns-in_default-ty
match_type-returns-in_default-ty t c = refused_prod_form c.args.pattern.now c.args.ty.now c.in-Prod.a c.in-Prod.b c.args.found.now c.args.found.now c.in-Prod.is c.in_default-ty.not-Prod

pub match_types-returns-then-not-branch : goal.match_types-returns-then-not-branch
match_types-returns-then-not-branch t c =
    c.loop-left.invariant.goes_on c.match_type.new.found false
    (refused_more c.loop-left.left.now c.loop-left.others.now c.get.result.now c.get-in-More.result.now c.in-More.rest c.in-More-others.further c.loop-left.found c.match_type.new.found c.match_type.new.found
    c.in_ok-match_type.field-0
    (more_is _ _ _ _ _ c.in-More.is c.get.ensures refl) (more_is _ _ _ _ _ c.in-More-others.is c.get-in-More.ensures refl)
    c.if-not-branch.true c.in_ok-match_type.ensures)

pub match_types-returns-in_default-others : goal.match_types-returns-in_default-others
match_types-returns-in_default-others t c =
    c.loop-left.invariant.goes_on c.loop-left.found false
    (refused_more_form c.loop-left.left.now c.loop-left.others.now c.in-More.a c.in-More.rest c.loop-left.found c.loop-left.found c.in-More.is c.in_default-others.is)

pub match_types-loop-left-preserved : goal.match_types-loop-left-preserved
match_types-loop-left-preserved t c = record {
  smaller = size_step _ _ _ _ _ c.in-More.is c.get-left.ensures c.loop-left.invariant.smaller;
  goes_on = λ new b h. c.loop-left.invariant.goes_on new b
      (taken_more c.loop-left.left.now c.loop-left.others.now c.get.result.now c.get-in-More.result.now c.get-left.result.now c.get-others.result.now
      c.loop-left.found c.match_type.new.found new c.in_ok-match_type.field-0 b
      (more_is _ _ _ _ _ c.in-More.is c.get.ensures c.get-left.ensures) (more_is _ _ _ _ _ c.in-More-others.is c.get-in-More.ensures c.get-others.ensures)
      c.if-not-branch.false c.in_ok-match_type.ensures h);
}

pub match_type-match_type-requires : goal.match_type-match_type-requires
match_type-match_type-requires t c = (let r = set_size _ _ _ c.in-Pow.is c.get.ensures in let d = c.decreases in omega (arith, r, d), tt)

pub match_type-match_type-requires-in-Prod-ty : goal.match_type-match_type-requires-in-Prod-ty
match_type-match_type-requires-in-Prod-ty t c = (let r = first_size _ _ _ _ c.in-Prod.is c.get-in-Prod-ty.ensures in let d = c.decreases in omega (arith, r, d), tt)

pub match_type-match_type-requires-in-Prod-ty-2 : goal.match_type-match_type-requires-in-Prod-ty-2
match_type-match_type-requires-in-Prod-ty-2 t c = (let r = second_size _ _ _ _ c.in-Prod.is c.get-in-Prod-ty-3.ensures in let d = c.decreases in omega (arith, r, d), tt)

pub match_types-match_type-requires : goal.match_types-match_type-requires
match_types-match_type-requires t c = (let r = head_size _ _ _ _ _ c.in-More.is c.get.ensures c.loop-left.invariant.smaller in let d = c.decreases in omega (arith, r, d), tt)
