use Rattle.std.proofs.Common.{◌≡◌, ◌++◌, take}
use Rattle.std.proofs.lemmas.Result.{IfOk-weaker}
use Rattle.ev_terms.specs.Types.{type_list}
use Rattle.ev_rewrite.proofs.PlaceSteps.{first_types}
use Rattle.ev_rewrite.proofs.places.+with_first.Goals as goal

pub returns-in_ok-share-in-More : goal.returns-in_ok-share-in-More
returns-in_ok-share-in-More t c =
    IfOk-weaker c.before-in-More.result _ (λ types. type_list types ≡ take c.args.count (type_list c.args.list.now) ++ type_list c.args.inner) (λ types h.
    first_types c.args.list.now c.in-More.rest c.in-More.first c.in_ok-share-in-More.field-0 c.get.result.now c.args.count (type_list c.args.inner) (type_list types) (type_list c.in_ok-rest-in-More.rest)
    c.in-More.is c.if-count-eq0.false c.in_ok-share-in-More.ensures c.get.ensures c.in_ok-rest-in-More.ensures h)
    c.before-in-More.ensures
