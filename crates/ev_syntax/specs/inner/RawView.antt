-- Raw trees by their forms, and their height.
use Rattle.std.specs.Prelude.{ℕ, ◌+◌, max, List, [], ◌∷◌}
use Rattle.ev_syntax.specs.Raw.{Raw, Raws, word, literal, param, type_set, call, around, unary, binary, inverse, apply, image, of_type, quantified, set_of, collected, lambda, members, written, none, one}
use Rattle.ev_syntax.specs.declared.formulas.FormulaForm.{FormulaForm}
use Rattle.ev_syntax.specs.declared.formulas.FormulaForm.TheVariants.{Word, Literal, Param, TypeSet, Call, Around, Unary, Binary, Inverse, Apply, Image, OfType, Quantified, SetOf, Collected, Lambda, Members, Written}

abbrev pub raws : List Raw → Raws
raws [] = none
raws (e ∷ es) = one e (raws es)

-- the raw tree of a form
abbrev pub raw_of : FormulaForm → Raw
raw_of (Word m) = word m
raw_of (Literal n) = literal n
raw_of (Param i) = param i
raw_of (TypeSet a) = type_set a
raw_of (Call n es) = call n (raws es)
raw_of (Around m e) = around m e
raw_of (Unary m e) = unary m e
raw_of (Binary m a b) = binary m a b
raw_of (Inverse e) = inverse e
raw_of (Apply f e) = apply f e
raw_of (Image r e) = image r e
raw_of (OfType e a) = of_type e a
raw_of (Quantified m bs e) = quantified m bs e
raw_of (SetOf b e) = set_of b e
raw_of (Collected m bs e f) = collected m bs e f
raw_of (Lambda p e f) = lambda p e f
raw_of (Members es) = members (raws es)
raw_of (Written a) = written a

abbrev mutual
  pub height : Raw → ℕ
  height (word m) = 1
  height (literal n) = 1
  height (param i) = 1
  height (type_set a) = 1
  height (call n es) = 1 + heights es
  height (around m e) = 1 + height e
  height (unary m e) = 1 + height e
  height (binary m a b) = 1 + max (height a) (height b)
  height (inverse e) = 1 + height e
  height (apply f e) = 1 + max (height f) (height e)
  height (image r e) = 1 + max (height r) (height e)
  height (of_type e a) = 1 + height e
  height (quantified m bs e) = 1 + height e
  height (set_of b e) = 1 + height e
  height (collected m bs e f) = 1 + max (height e) (height f)
  height (lambda p e f) = 1 + max (height e) (height f)
  height (members es) = 1 + heights es
  height (written a) = 1

  pub heights : Raws → ℕ
  heights none = 0
  heights (one e es) = max (height e) (heights es)
