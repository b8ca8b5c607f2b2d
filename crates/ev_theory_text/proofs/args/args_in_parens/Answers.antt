use Rattle.std.proofs.Common.{refl, sym, ◌∙◌}
use Rattle.ev_parse.proofs.Listing.{not_begun, begun}
use Rattle.ev_theory_text.proofs.args.args_in_parens.Goals as goal

pub returns-then-not-begins : goal.returns-then-not-begins
returns-then-not-begins c = not_begun c.new.result c.new.ensures refl (sym c.begins.ensures ∙ c.if-not-begins.true)

pub returns : goal.returns
returns c = begun (sym c.begins.ensures ∙ c.if-not-begins.false) c.mark.ensures c.in_ok-args.ensures c.mark-2.ensures (λ us. ((refl, refl), refl)) (λ rest e. e)
