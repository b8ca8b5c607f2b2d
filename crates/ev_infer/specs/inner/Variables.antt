-- Names that stand alone.
use Rattle.std.specs.Prelude.{◌≡◌, ℕ, Bool as Boolean, true, false, List, [], Option, Some, IfSome, Result, Ok, Err, ⊤}
use Rattle.ev_terms.specs.declared.types.Ty.{Ty}
use Rattle.ev_terms.specs.declared.extents.Extent.{Extent}
use Rattle.ev_terms.specs.Term.{Term, var}
use Rattle.ev_infer.specs.Annotates.{IsPast}
use Rattle.ev_infer.specs.declared.faults.InferFault.{InferFault}
use Rattle.ev_infer.specs.declared.faults.InferFault.TheVariants.{Unknown, Taken, IllTyped, Ambiguous, TooLarge, NoMemory}
use Rattle.ev_syntax.specs.Raw.{Raw, call, of_type, quantified, none}
use Rattle.ev_typing.specs.Typing.{var_type}
use Rattle.ev_resolve.specs.Bare.{Bare, bare_var, bare_lit, bare_node, bare_of}

-- a name without arguments, also with types that it is said to have, or under a quantifier without names
abbrev pub is_name : Raw → Boolean
is_name (call n none) = true
is_name (of_type e r) = is_name e
is_name (quantified m [] e) = is_name e
is_name _ = false

-- the variable i, whose type each type is that it is said to have
abbrev pub IsVariable : Bare → List Ty → ℕ → Type 0
IsVariable (bare_var j) C i = j ≡ i
IsVariable (bare_lit n) C i = ⊥
IsVariable (bare_node s w bs) C i = ⊥
IsVariable (bare_of b A) C i = IsVariable b C i × (var_type C i ≡ Some A)

-- the variable has a type, and it is the one that is asked, where one is
abbrev pub FitsAsked : List Ty → ℕ → Option Ty → Type 0
FitsAsked C i expected = (A : Ty) × (var_type C i ≡ Some A) × IfSome expected (λ B. B ≡ A)

-- a name that stands alone for this variable, at the type that is asked
pub record StandsAlone (raw : Raw) (b : Bare) (C : List Ty) (expected : Option Ty) (i : ℕ) : Type 0 where
  pub name : is_name raw ≡ true
  pub is_variable : IsVariable b C i
  pub fits : FitsAsked C i expected

-- what is answered where only a variable that stands alone is an annotation
abbrev pub IsVariableAnswer : Raw → Bare → List Ty → Option Ty → Extent → Result Term InferFault → Type 0
IsVariableAnswer raw b C expected limit (Ok t) = (i : ℕ) × StandsAlone raw b C expected i × (t ≡ var i) × ¬ IsPast limit.size limit.depth t
IsVariableAnswer raw b C expected limit (Err Unknown) = ⊥
IsVariableAnswer raw b C expected limit (Err Taken) = ⊥
IsVariableAnswer raw b C expected limit (Err IllTyped) = (i : ℕ) → ¬ StandsAlone raw b C expected i
IsVariableAnswer raw b C expected limit (Err Ambiguous) = ⊥
IsVariableAnswer raw b C expected limit (Err TooLarge) = (i : ℕ) × StandsAlone raw b C expected i × IsPast limit.size limit.depth (var i)
IsVariableAnswer raw b C expected limit (Err NoMemory) = ⊤
