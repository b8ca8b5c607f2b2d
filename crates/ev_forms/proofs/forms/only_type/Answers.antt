use Rattle.std.proofs.Common.{ap, sym, ◌∙◌}
use Rattle.ev_terms.specs.declared.types.Tys.TheVariants.{More}
use Rattle.ev_forms.proofs.FormViews.{more_than_one}
use Rattle.ev_forms.proofs.forms.only_type.Goals as goal

pub returns-in-More-get-clause-none : goal.returns-in-More-get-clause-none
returns-in-More-get-clause-none c =
    λ A e. more_than_one c.in-More.ty c.in-More-get.field-0 A c.in-More-get.field-1
    (ap (More c.in-More.ty) (sym c.in-More-get.is ∙ c.get.ensures) ∙ sym c.in-More.is ∙ e)
