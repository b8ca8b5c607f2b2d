-- Forms made of their parts.
use Rattle.std.specs.Prelude.{ℕ, Bool, List, Option}
use Rattle.ev_syntax.specs.Raw.{RawType, Raw}
use Rattle.ev_theory_text.specs.declared.forms.RawArg.{RawArg}
use Rattle.ev_theory_text.specs.declared.forms.RawCon.{RawCon}
use Rattle.ev_theory_text.specs.declared.forms.RawResult.{RawResult}
use Rattle.ev_theory_text.specs.declared.forms.RawResult.TheVariants.{Typed}
use Rattle.ev_theory_text.specs.declared.forms.RawHead.{RawHead}
use Rattle.ev_theory_text.specs.declared.forms.RawCase.{RawCase}
use Rattle.ev_theory_text.specs.declared.forms.RawBody.{RawBody}
use Rattle.ev_theory_text.specs.declared.forms.RawBody.TheVariants.{Direct, Recursive}
use Rattle.ev_theory_text.specs.declared.forms.RawBranch.{RawBranch}
use Rattle.ev_theory_text.specs.declared.forms.ElementForm.{ElementForm}
use Rattle.ev_theory_text.specs.declared.forms.ElementForm.TheVariants.{Import, Param, Datatype, Operator, Constant, Axiom, Theorem, Rewrite, Inference}

abbrev pub arg : List ℕ × RawType → RawArg
arg p = record { name = p.0; written = p.1 }

abbrev pub con : List ℕ × List RawArg → RawCon
con p = record { name = p.0; args = p.1 }

abbrev pub typed : RawType → RawResult
typed a = Typed a

abbrev pub head : List ℕ × (List RawArg × RawResult) → RawHead
head p = record { name = p.0; args = p.1.0; gives = p.1.1 }

abbrev pub case_of : List ℕ × (List (List ℕ) × Raw) → RawCase
case_of p = record { con = p.0; vars = p.1.0; body = p.1.1 }

abbrev pub direct : Raw → RawBody
direct e = Direct e

abbrev pub recursive : List ℕ × List RawCase → RawBody
recursive p = Recursive p.0 p.1

abbrev pub branch : Option Raw × Raw → RawBranch
branch p = record { condition = p.0; right = p.1 }

abbrev pub import_form : List ℕ → ElementForm
import_form n = Import n

abbrev pub param_form : List (List ℕ) → ElementForm
param_form names = Param names

abbrev pub datatype_form : List ℕ × (List (List ℕ) × List RawCon) → ElementForm
datatype_form p = Datatype p.0 p.1.0 p.1.1

abbrev pub operator_form : RawHead × (Option Raw × RawBody) → ElementForm
operator_form p = Operator p.0 p.1.0 p.1.1

abbrev pub constant_form : RawHead × Option Raw → ElementForm
constant_form p = Constant p.0 p.1

abbrev pub axiom_form : List ℕ × Raw → ElementForm
axiom_form p = Axiom p.0 p.1

abbrev pub theorem_form : List ℕ × Raw → ElementForm
theorem_form p = Theorem p.0 p.1

abbrev pub rewrite_form : List ℕ × (List RawArg × (Raw × (List RawBranch × Bool))) → ElementForm
rewrite_form p = Rewrite p.0 p.1.0 p.1.1.0 p.1.1.1.0 p.1.1.1.1

abbrev pub inference_form : List ℕ × (List RawArg × (List Raw × Raw)) → ElementForm
inference_form p = Inference p.0 p.1.0 p.1.1.0 p.1.1.1
