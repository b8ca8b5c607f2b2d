use Rattle.std.proofs.Common.{ap, sym, ◌∙◌}
use Rattle.std.proofs.lemmas.Result.{err_from_is_err_and}
use Rattle.ev_unify.specs.inner.Parts.{is_unknown}
use Rattle.ev_unify.specs.inner.Links.{NeverSame}
use Rattle.ev_unify.specs.inner.Clashes.{SameForm}
use Rattle.ev_unify.proofs.Joining.{joins_unknown, joins_known, joins_never}
use Rattle.ev_unify.proofs.Faults.{clash_weaker}
use Rattle.ev_unify.proofs.cells.Cells.link.Goals as goal

pub returns-then-is_unknown-clause-ok : goal.returns-then-is_unknown-clause-ok
returns-then-is_unknown-clause-ok c =
    joins_unknown c.args.self.now.pats.items c.args.self.now.firsts.items c.args.links.now c.args.from c.args.to c.requires.forest c.requires.from_root c.requires.to_root c.requires.lower c.args.work.now.items (sym (ap is_unknown c.pat.ensures) ∙ sym c.is_unknown.ensures ∙ c.if-is_unknown.true)

pub returns-in_err-pair_children-clause-err : goal.returns-in_err-pair_children-clause-err
returns-in_err-pair_children-clause-err c =
    let p = err_from_is_err_and c.from_residual.result c.from_residual.ensures.1 in rw (p.1, p.2)
    (clash_weaker (SameForm c.args.self.now.pats.items c.args.from c.args.to → ⊥) (NeverSame c.args.self.now.pats.items c.args.from c.args.to) _
    (joins_never c.args.self.now.pats.items c.args.self.now.firsts.items c.args.links.now c.args.from c.args.to c.requires.forest c.requires.from_root c.requires.to_root c.requires.lower c.requires.flat (sym (ap is_unknown c.pat.ensures) ∙ sym c.is_unknown.ensures ∙ c.if-is_unknown.false))
    c.in_err-pair_children.ensures.err)

pub returns-clause-ok : goal.returns-clause-ok
returns-clause-ok c =
    joins_known c.args.self.now.pats.items c.args.self.now.firsts.items c.args.links.now c.args.from c.args.to c.requires.forest c.requires.from_root c.requires.to_root c.requires.lower c.requires.flat c.args.work.now.items _ (sym (ap is_unknown c.pat.ensures) ∙ sym c.is_unknown.ensures ∙ c.if-is_unknown.false) c.in_ok-pair_children.ensures.form c.in_ok-pair_children.ensures.ok
