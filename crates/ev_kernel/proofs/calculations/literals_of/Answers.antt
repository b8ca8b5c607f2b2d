use Rattle.ev_terms.specs.declared.types.Sym.TheVariants.{Base}
use Rattle.ev_terms.specs.declared.types.Tys.{Empty}
use Rattle.ev_terms.specs.Term.{lit}
use Rattle.ev_forms.proofs.FormViews.{if_none}
use Rattle.ev_kernel.proofs.Calculated.{no_pair}
use Rattle.ev_kernel.proofs.calculations.literals_of.Goals as goal

pub returns-in_err-left-clause-none : goal.returns-in_err-left-clause-none
returns-in_err-left-clause-none c =
    if_none c.from_residual.result c.from_residual.ensures
    (λ a b. no_pair c.args.tree.now c.in-Some-Base-Empty-default.field-0-0.now c.in-Some-Base-Empty-default.field-0-1.now c.in-Some-Base-Empty-default.children.now
    c.in-Some-Base-Empty-default.ensures.found c.in_err-left.ensures.none (Base c.args.row) Empty (lit a) (lit b))
