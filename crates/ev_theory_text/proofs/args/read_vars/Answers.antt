use Rattle.std.proofs.Common.{refl, sym, ◌∙◌}
use Rattle.std.proofs.lemmas.Result.{IfOk-weaker}
use Rattle.ev_parse.proofs.Listing.{not_begun, begun_open}
use Rattle.ev_theory_text.proofs.args.read_vars.Goals as goal

pub returns-then-not-begins : goal.returns-then-not-begins
returns-then-not-begins c = not_begun c.new.result c.new.ensures refl (sym c.begins.ensures ∙ c.if-not-begins.true)

pub returns : goal.returns
returns c = IfOk-weaker c.read_args.result _ _ (λ v h. begun_open (sym c.begins.ensures ∙ c.if-not-begins.false) c.mark.ensures h (λ rest e. e.0) (λ rest e. e.1)) c.read_args.ensures
