-- What a part of a theory has since it was read from a text, by the grammar and by the length of the text.
use Rattle.std.specs.Prelude.{◌<◌, ◌≢◌, ◌^◌, [], length, ⊤}
use Rattle.std.specs.List.{AllByRecursion}
use Rattle.ev_theory_text.specs.declared.elements.RawElement.{RawElement}
use Rattle.ev_theory_text.specs.declared.elements.RawElement.TheVariants.{Read, Bad}
use Rattle.ev_theory_text.specs.declared.forms.RawCon.{RawCon}
use Rattle.ev_theory_text.specs.declared.forms.ElementForm.{ElementForm}
use Rattle.ev_theory_text.specs.declared.forms.ElementForm.TheVariants.{Datatype, Operator, Constant, Rewrite}

-- fewer than 2^30 arguments, as in each text of fewer than 2^32 bytes
abbrev pub HasFewArgs : ElementForm → Type 0
HasFewArgs (Datatype n listed cons) = AllByRecursion (λ (c : RawCon). length c.args < 2 ^ 30) cons
HasFewArgs (Operator h c body) = length h.args < 2 ^ 30
HasFewArgs (Constant h c) = length h.args < 2 ^ 30
HasFewArgs _ = ⊤

-- a right side of each rewrite rule, as the grammar has it
abbrev pub HasBranch : ElementForm → Type 0
HasBranch (Rewrite n vars left branches complete) = branches ≢ []
HasBranch _ = ⊤

pub record IsFromText (form : ElementForm) : Type 0 where
  pub few : HasFewArgs form
  pub branch : HasBranch form

-- the same of a part
abbrev pub IsPartFromText : RawElement → Type 0
IsPartFromText (Bad k) = ⊤
IsPartFromText (Read form) = IsFromText form
