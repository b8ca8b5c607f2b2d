use Rattle.std.proofs.Common.{◌∙◌, ap, sym, subst, length}
use Rattle.theory.specs.Reports.{HasStatus, IsReportOf}
use Rattle.theory.specs.inner.Reports.{HasPredicates}
use Rattle.theory.proofs.ReportLaws.{as_many, report_is, text_is}
use Rattle.theory.proofs.texts.report.Goals as goal

pub append_theorems-requires : goal.append_theorems-requires
append_theorems-requires g c =
    ap length c.as_slice.ensures ∙ as_many (HasStatus c.args.script.now.proofs c.in-Some.theory.name) c.in-Some.theory.theorems c.in_ok-statuses.statuses c.in_ok-statuses.ensures ∙ sym (ap length c.as_slice-2.ensures)

pub returns : goal.returns
returns g c =
    subst (λ t. IsReportOf t c.args.script.now.proofs c.append_theorems.new.text.items) (sym c.in-Some.is)
    (report_is c.in-Some.theory c.args.script.now.proofs c.in_ok-statuses.statuses c.append_theorems.new.text.items (subst HasPredicates c.in-Some.is c.requires) c.in_ok-statuses.ensures
    (text_is c.in-Some.theory.name c.in-Some.theory.theorems c.as_slice.result.now c.in_ok-statuses.statuses c.as_slice-2.result.now c.new-text.result.items c.append_theory.new.text.items c.append_theorems.new.text.items
    c.new-text.ensures.items c.in_ok-append_theory.ensures c.as_slice.ensures c.as_slice-2.ensures c.in_ok-append_theorems.ensures))
