-- The formulas of elements, each with the variables and the type that it has.
use Rattle.std.specs.Prelude.{◌++◌, ℕ, List, [], ◌∷◌, Option, Some, None, bytes_eq, find, map, length, option_map, option_and_then, position, zip, if◌then◌else◌, ◌==◌, slice_get}
use Rattle.ev_terms.specs.declared.types.Ty.{Ty, Prop}
use Rattle.ev_terms.specs.declared.types.Tys.{Tys}
use Rattle.ev_terms.specs.Term.{Term}
use Rattle.ev_terms.specs.Substitution.{type_inst, type_at}
use Rattle.ev_syntax.specs.Raw.{Raw}
use Rattle.ev_theory_text.specs.declared.forms.RawCase.{RawCase}
use Rattle.ev_theory_text.specs.declared.forms.RawBody.{RawBody}
use Rattle.ev_theory_text.specs.declared.forms.RawBody.TheVariants.{Direct, Recursive}
use Rattle.ev_theory_text.specs.declared.forms.RawBranch.{RawBranch}
use Rattle.ev_typing.specs.declared.typing.Entry.TheVariants as entry
use Rattle.ev_typing.specs.declared.typing.DataDecl.{DataDecl}
use Rattle.ev_typing.specs.declared.typing.Con.{Con}
use Rattle.ev_typing.specs.declared.typing.Var.{Var}
use Rattle.ev_typing.specs.Env.{Env, Name, field_types}
use Rattle.ev_typing.specs.WellFormed.{data_of, spliced}
use Rattle.ev_infer.specs.Annotates as annotates
use Rattle.ev_infer.specs.Inference.{HasNoAnnotation, HasTwoAnnotations, IsOnlyAnnotation}
use Rattle.ev_infer.specs.Answers.{variables}
use Rattle.ev_elab.specs.Types.{Head, signature_of, typed_name, all_of}

-- a formula over an environment, under variables, at the type that is asked, where one is
pub record Formula : Type 0 where
  pub env : Env
  pub vars : List Var
  pub raw : Raw
  pub expected : Option Ty

-- over the type parameters of the theory so far
module _ (params : List Name) where
  abbrev pub HasNone : Formula → Type 0
  HasNone f = HasNoAnnotation f.env params (variables f.vars) f.raw f.expected

  abbrev pub HasTwo : Formula → Type 0
  HasTwo f = HasTwoAnnotations f.env params (variables f.vars) f.raw f.expected

  abbrev pub IsOnly : Formula → Term → Type 0
  IsOnly f t = IsOnlyAnnotation f.env params (variables f.vars) f.raw f.expected t

  -- past the limits of formulas
  abbrev pub IsPast : Term → Type 0
  IsPast t = annotates.IsPast 65536 512 t

  -- the only annotation is past the limits
  abbrev pub HasLarge : Formula → Type 0
  HasLarge f = (t : Term) × IsOnly f t × IsPast t

  -- the only annotation, within the limits
  pub record IsRead (f : Formula) (t : Term) : Type 0 where
    pub only : IsOnly f t
    pub small : ¬ IsPast t

abbrev pub formula_at : Env → List Var → Option Ty → Raw → Formula
formula_at env vars expected raw = record { env = env; vars = vars; raw = raw; expected = expected }

-- a predicate
abbrev pub predicate : Env → List Var → Raw → Formula
predicate env vars p = formula_at env vars (Some Prop) p

abbrev pub condition : Env → List Var → Option Raw → List Formula
condition env vars None = []
condition env vars (Some p) = predicate env vars p ∷ []

-- the argument with the name, by its place
abbrev pub inductive_place : List Var → Name → Option ℕ
inductive_place vars by = position (λ (v : Var). bytes_eq v.name by) vars

-- an argument's type, by its place
abbrev pub type_of_place : List Var → ℕ → Option Ty
type_of_place vars place = option_map (λ (v : Var). v.ty) (slice_get vars place)

-- the argument's place with the datatype that its type is, and the datatype's types
pub record Induction : Type 0 where
  pub place : ℕ
  pub decl : DataDecl
  pub types : Tys

abbrev pub induction_at : Env → List Var → ℕ → Option Induction
induction_at env vars place = option_map (λ (p : DataDecl × Tys). record { place = place; decl = p.0; types = p.1 }) (data_of env (type_of_place vars place))

abbrev pub induction_on : Env → List Var → Name → Option Induction
induction_on env vars by = option_and_then (induction_at env vars) (inductive_place vars by)

-- the constructor that a case names
abbrev pub con_of : DataDecl → Name → Option Con
con_of d n = find (λ (c : Con). bytes_eq c.name n) d.cons

abbrev pub case_var : Tys → Name × Ty → Var
case_var As p = typed_name p.0 (type_inst (type_at As) p.1)

-- the variables of a case of the constructor, if there are as many as it has arguments
abbrev pub case_vars : Induction → List Name → Con → Option (List Var)
case_vars i names c = if length names == length c.fields then Some (map (case_var i.types) (zip names (field_types c))) else None

-- where the theory has so many parameters
module _ (count : ℕ) where
  -- the environment in which the operator's signature is known
  abbrev pub with_signature : Env → Head → Env
  with_signature env h = env ++ entry.Constant (signature_of count h) None ∷ []

  abbrev pub case_formula : Env → Head → Induction → Raw → List Var → Formula
  case_formula env h i body vars = formula_at (with_signature env h) (spliced h.vars i.place vars) (Some h.result) body

  -- a case: its constructor, and its body under the arguments with the constructor's variables in place of the inductive one
  abbrev pub read_case : Env → Head → Induction → RawCase → Option (Con × Formula)
  read_case env h i c =
      option_and_then (λ (k : Con). option_map (λ vars. (k, case_formula env h i c.body vars)) (case_vars i c.vars k)) (con_of i.decl c.con)

  abbrev pub read_cases : Env → Head → List RawCase → Induction → Option (Induction × List (Con × Formula))
  read_cases env h cases i = option_map (λ cs. (i, cs)) (all_of (map (read_case env h i) cases))

  -- the cases of a recursive operator over the argument that BY names
  abbrev pub read_recursion : Env → Head → Name → List RawCase → Option (Induction × List (Con × Formula))
  read_recursion env h by cases = option_and_then (read_cases env h cases) (induction_on env h.vars by)

  abbrev pub direct_body : Env → Head → Raw → Formula
  direct_body env h e = formula_at env h.vars (Some h.result) e

  -- the formulas of a body, if its cases are such
  abbrev pub body_formulas : Env → Head → RawBody → Option (List Formula)
  body_formulas env h (Direct e) = Some (direct_body env h e ∷ [])
  body_formulas env h (Recursive by cases) = option_map (λ (r : Induction × List (Con × Formula)). map (λ (c : Con × Formula). c.1) r.1) (read_recursion env h by cases)

-- the left side of a rewrite rule has the type that it has, and a right side that of the left one
abbrev pub left_side : Env → List Var → Raw → Formula
left_side env vars left = formula_at env vars None left

abbrev pub right_side : Env → List Var → Ty → RawBranch → Formula
right_side env vars A b = formula_at env vars (Some A) b.right
