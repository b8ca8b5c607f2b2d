-- Each part of a raw tree is less high than the tree.
use Rattle.std.specs.Prelude.{◌+◌, ◌≤◌, List, [], ◌∷◌, max}
use Rattle.std.proofs.Common.{arith}
use denote.Param.Weighed.{most}
use Rattle.ev_syntax.specs.Raw.{Raw}
use Rattle.ev_syntax.specs.inner.RawView.{raws, raw_of, height, heights}
use Rattle.ev_syntax.specs.declared.formulas.FormulaForm.{FormulaForm}
use Rattle.ev_syntax.specs.declared.formulas.FormulaForm.TheVariants.{Word, Literal, Param, TypeSet, Call, Around, Unary, Binary, Inverse, Apply, Image, OfType, Quantified, SetOf, Collected, Lambda, Members, Written}
use Rattle.ev_syntax.specs.declared.formulas.Raw.TheDeep.{deep-FormulaForm}

pub most_le-heights : (es : List Raw) → most (λ e. height e + 1) es ≤ heights (raws es) + 1
most_le-heights [] = omega arith
most_le-heights (e ∷ es) = omega (arith, most_le-heights es)

pub falls : (f : FormulaForm) → max (deep-FormulaForm f) 0 ≤ height (raw_of f)
falls (Word m) = omega arith
falls (Literal n) = omega arith
falls (Param i) = omega arith
falls (TypeSet a) = omega arith
falls (Call n es) = omega (arith, most_le-heights es)
falls (Around m e) = omega arith
falls (Unary m e) = omega arith
falls (Binary m a b) = omega arith
falls (Inverse e) = omega arith
falls (Apply f e) = omega arith
falls (Image r e) = omega arith
falls (OfType e a) = omega arith
falls (Quantified m bs e) = omega arith
falls (SetOf b e) = omega arith
falls (Collected m bs e f) = omega arith
falls (Lambda p e f) = omega arith
falls (Members es) = omega (arith, most_le-heights es)
falls (Written a) = omega arith
