use Rattle.std.proofs.Common.{ap, sym, ◌∙◌}
use Rattle.ev_terms.specs.Term.{node, cons, nil}
use Rattle.ev_terms.specs.declared.types.Sym.TheVariants.{Base}
use Rattle.ev_terms.specs.declared.types.Tys.{Empty}
use Rattle.ev_forms.proofs.Views.{not_two, none_weaker}
use Rattle.ev_forms.proofs.connectives.joined_parts.Goals as goal

pub returns-clause-none : goal.returns-clause-none
returns-clause-none c =
    none_weaker c.pair_of.result (λ none P Q f.
    not_two c.args.tree.now c.in_ok-row.row c.in_ok-row.children.now c.in_ok-row.ensures.found none P Q
    (f ∙ sym (c.row_of.ensures P Q) ∙ ap (λ r. node (Base r) Empty (cons P (cons Q nil))) (sym c.if-row-row_of.false)))
    c.pair_of.ensures.none
