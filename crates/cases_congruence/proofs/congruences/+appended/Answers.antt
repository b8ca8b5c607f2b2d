use Rattle.std.proofs.Common.{rules, ◌≡◌, ◌∙◌, ◌++◌, ◌∷◌, [], ap, append_assoc, sym}
use Rattle.std.proofs.lemmas.Result.{IfOk-weaker}
use Rattle.ev_terms.specs.Types.{type_list}
use Rattle.ev_typing.proofs.Signatures.{counting}
use Rattle.cases_congruence.proofs.congruences.+appended.Goals as goal

pub returns-in_ok-push-in-More : goal.returns-in_ok-push-in-More
returns-in_ok-push-in-More t c =
    let e : type_list c.args.types.now ≡ c.in_ok-try_copy-in-More.field-0 ∷ type_list c.get-in-More.result.now =
    search (rules, counting, c.in-More.is, c.get.ensures, c.get-in-More.ensures, c.in_ok-try_copy-in-More.ensures) in
    IfOk-weaker c.appended.result _ _ (λ all h.
    h ∙ ap (λ x. x ++ type_list c.get-in-More.result.now) c.in_ok-push-in-More.ensures.ok ∙ append_assoc (type_list c.args.before) (c.in_ok-try_copy-in-More.field-0 ∷ []) (type_list c.get-in-More.result.now)
    ∙ ap (λ x. type_list c.args.before ++ x) (sym e)) c.appended.ensures
