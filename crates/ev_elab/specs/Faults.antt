-- The faults of an element, in their order.
use Rattle.std.specs.Prelude.{◌≡◌, ◌≤◌, ◌⊎◌, true, false, List, [], Option, Some, None, Contains, IsSomeAnd, ⊤, Ok}
use Rattle.std.specs.List.{AllByRecursion}
use Rattle.ev_terms.specs.Term.{Term}
use Rattle.ev_terms.specs.Measures.{size, depth}
use Rattle.ev_theory_text.specs.declared.elements.TextKind.{TextKind}
use Rattle.ev_theory_text.specs.declared.elements.TextKind.TheVariants as text
use Rattle.ev_theory_text.specs.declared.elements.RawElement.{RawElement}
use Rattle.ev_theory_text.specs.declared.elements.RawElement.TheVariants.{Read, Bad}
use Rattle.ev_theory_text.specs.declared.forms.ElementForm.{ElementForm}
use Rattle.ev_typing.specs.declared.typing.Signature.{Signature}
use Rattle.ev_typing.specs.declared.typing.Con.{Con}
use Rattle.ev_typing.specs.Env.{Env}
use Rattle.ev_typing.specs.WellFormed.{inductive_data}
use Rattle.ev_data.specs.Admission.{IsAdmittedData}
use Rattle.ev_data.specs.Closed.{recursion_row}
use Rattle.ev_ops.specs.Admission.{HasExtraParam, IsDirectAdmission, IsRecursiveAdmission}
use Rattle.ev_ops.specs.Entries.{with_element}
use Rattle.ev_rules.specs.declared.elements.Element.{Element}
use Rattle.ev_rules.specs.declared.elements.Element.TheVariants.{Data, Direct, Recursive, Constant}
use Rattle.ev_oblig.specs.Obligations.{obligations, AreSmall}
use Rattle.ev_elab.specs.declared.theories.Kind.{Kind}
use Rattle.ev_elab.specs.declared.theories.Kind.TheVariants as kind
use Rattle.ev_elab.specs.States.{State}
use Rattle.ev_elab.specs.Names.{has_unknown, has_taken}
use Rattle.ev_elab.specs.Formulas.{Formula, HasNone, HasTwo, HasLarge}
use Rattle.ev_elab.specs.Readings.{Recursion, formulas, IsRight, ReadsElement}

-- one of the formulas that are read whatever the others are
pub record IsFormulaOf (s : State) (form : ElementForm) (f : Formula) : Type 0 where
  pub all : List Formula
  pub formulas_are : formulas s form ≡ Some all
  pub stands : Contains all f

-- the form has the formula
abbrev pub HasFormula : State → ElementForm → Formula → Type 0
HasFormula s form f = IsFormulaOf s form f ⊎ IsRight s form f

-- a type or a case is none, or a formula has no annotation
abbrev pub IsIllTyped : State → ElementForm → Type 0
IsIllTyped s form = (formulas s form ≡ None) ⊎ ((f : Formula) × HasFormula s form f × HasNone s.params f)

-- a formula has two annotations
abbrev pub IsAmbiguous : State → ElementForm → Type 0
IsAmbiguous s form = (f : Formula) × HasFormula s form f × HasTwo s.params f

-- the only annotation of a formula is past the limits
abbrev pub HasLargeFormula : State → ElementForm → Type 0
HasLargeFormula s form = (f : Formula) × HasFormula s form f × HasLarge s.params f

-- the cases of a recursive operator are admitted
abbrev pub AreAdmittedCases : Env → Signature → Option Term → Option Recursion → Type 0
AreAdmittedCases env sig condition None = ⊥
AreAdmittedCases env sig condition (Some r) = IsRecursiveAdmission env sig condition r.place r.cases (Ok tt)

-- what an element declares over these entries is admitted
abbrev pub IsAdmitted : Env → Option Recursion → Element → Type 0
IsAdmitted env r (Data d) = IsAdmittedData d
IsAdmitted env r (Direct sig condition body) = IsDirectAdmission sig condition body (Ok tt)
IsAdmitted env r (Recursive sig condition place bodies) = AreAdmittedCases env sig condition r
IsAdmitted env r (Constant sig condition) = ¬ HasExtraParam sig condition []
IsAdmitted env r _ = ⊤

-- the limits of an unfolded recursion equation
pub record IsSmallEquation (P : Term) : Type 0 where
  pub size_fits : size P ≤ 16384
  pub depth_fits : depth P ≤ 512

-- the unfolded equation of a recursive operator at a constructor, over an environment in which the operator stands
abbrev pub HasSmallEquation : Env → Signature → Con → Type 0
HasSmallEquation env sig c = IsSomeAnd (recursion_row env sig.name c.name) IsSmallEquation

abbrev pub HasSmallEquations : Env → Element → Type 0
HasSmallEquations env (Recursive sig condition place bodies) = IsSomeAnd (inductive_data env sig place) (λ p. AllByRecursion (HasSmallEquation env sig) p.0.cons)
HasSmallEquations env _ = ⊤

-- obligations and equations, over an environment in which the element stands, are within the limits
pub record IsWithinLimits (env : Env) (e : Element) : Type 0 where
  pub obligations_fit : AreSmall (obligations env e)
  pub equations_fit : HasSmallEquations env e

-- names are in scope and free
pub record HasGoodNames (s : State) (form : ElementForm) : Type 0 where
  pub in_scope : has_unknown s form ≡ false
  pub free : has_taken s form ≡ false

-- and the form is read as the element
pub record IsRead (s : State) (form : ElementForm) (r : Option Recursion) (e : Element) : Type 0 where
  pub names : HasGoodNames s form
  pub reads : ReadsElement s form r e

-- the element of a form without a fault
pub record IsElementOf (s : State) (form : ElementForm) (e : Element) : Type 0 where
  pub recursion : Option Recursion
  pub read : IsRead s form recursion e
  pub admitted : IsAdmitted s.env recursion e
  pub fits : IsWithinLimits (with_element s.env e) e

-- what is read is not admitted
abbrev pub IsRefused : State → ElementForm → Type 0
IsRefused s form = (r : Option Recursion) × (e : Element) × IsRead s form r e × ¬ IsAdmitted s.env r e

-- what is read is admitted, and past the limits
abbrev pub MakesLarge : State → ElementForm → Type 0
MakesLarge s form = (r : Option Recursion) × (e : Element) × IsRead s form r e × IsAdmitted s.env r e × ¬ IsWithinLimits (with_element s.env e) e

-- the first kind of fault that holds of a form
abbrev pub IsFault : State → ElementForm → Kind → Type 0
IsFault s form kind.Text = ⊥
IsFault s form kind.Syntax = ⊥
IsFault s form kind.Deep = ⊥
IsFault s form kind.Unknown = has_unknown s form ≡ true
IsFault s form kind.Taken = (has_unknown s form ≡ false) × (has_taken s form ≡ true)
IsFault s form kind.IllTyped = HasGoodNames s form × IsIllTyped s form
IsFault s form kind.Ambiguous = HasGoodNames s form × ¬ IsIllTyped s form × IsAmbiguous s form
IsFault s form kind.TooLarge = (HasGoodNames s form × ¬ IsIllTyped s form × ¬ IsAmbiguous s form × HasLargeFormula s form) ⊎ MakesLarge s form
IsFault s form kind.NotAdmitted = IsRefused s form

-- the kind of a part that is no element
abbrev pub kind_of : TextKind → Kind
kind_of text.Text = kind.Text
kind_of text.Syntax = kind.Syntax
kind_of text.Deep = kind.Deep

-- the first kind of fault that holds of a part
abbrev pub HasFault : State → RawElement → Kind → Type 0
HasFault s (Bad k) kind = kind ≡ kind_of k
HasFault s (Read form) kind = IsFault s form kind

-- a part without a fault is the element
abbrev pub IsElement : State → RawElement → Element → Type 0
IsElement s (Bad k) e = ⊥
IsElement s (Read form) e = IsElementOf s form e
