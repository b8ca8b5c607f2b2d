use Rattle.std.proofs.Common.{◌≡◌, ◌++◌, ◌∷◌, ◌∙◌, [], ap, codes}
use Rattle.theory.specs.Reports.{theory_line}
use Rattle.theory.proofs.ReportLaws.{in_parts, on_ok}
use Rattle.theory.proofs.texts.append_theory.Goals as goal

pub returns : goal.returns
returns c =
    let old = c.args.text.now.items in
    let now = c.append-4.new.text.items in
    on_ok (now ≡ c.append-3.new.text.items ++ 10 ∷ []) (now ≡ old ++ theory_line c.args.name.now) c.append-4.result
    (in_parts old (codes "theory ") c.args.name.now (codes " present ok") (10 ∷ []) c.append.new.text.items c.append-2.new.text.items c.append-3.new.text.items now c.in_ok-append.ensures (c.in_ok-append-2.ensures ∙ ap (λ x. c.append.new.text.items ++ x) c.as_slice.ensures) c.in_ok-append-3.ensures)
    c.append-4.ensures
