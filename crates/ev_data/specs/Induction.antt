-- Induction over a datatype: one premise for each constructor.
use Rattle.std.specs.Prelude.{◌==◌, ◌+◌, ◌-◌, ◌++◌, ◌&&◌, ℕ, zero, suc, Bool as Boolean, true, false, List, [], ◌∷◌, Option, Some, None, map, length, filter_map, bytes_eq, if◌then◌else◌, option_map}
use Rattle.std.specs.List.{enumerate_from}
use Rattle.ev_terms.specs.declared.types.Ty.{Ty, Param, Data as DataType}
use Rattle.ev_terms.specs.declared.types.Tys.{Tys, Empty}
use Rattle.ev_terms.specs.declared.types.Sym.TheVariants.{Base}
use Rattle.ev_terms.specs.Types.{more}
use Rattle.ev_terms.specs.Term.{Term, var, node, nil, cons}
use Rattle.ev_terms.specs.Substitution.{shift, substitute, type_inst, type_at}
use Rattle.ev_typing.specs.declared.typing.DataDecl.{DataDecl}
use Rattle.ev_typing.specs.declared.typing.Con.{Con}
use Rattle.ev_typing.specs.declared.typing.Var.{Var}
use Rattle.ev_typing.specs.declared.typing.Sequent.{Sequent}
use Rattle.ev_forms.specs.Forms.{vars, call}
use Rattle.ev_typing.specs.Env.{Env, find_data, field_types}
use Rattle.ev_typing.specs.BaseSequents.{widened}

-- the types are the n type parameters from i on
abbrev pub are_own : ℕ → ℕ → Tys → Boolean
are_own i zero Empty = true
are_own i (suc n) (more (Param j) As) = j == i && are_own (i + 1) n As
are_own i n _ = false

-- a constructor's argument of this type is recursive: the type is the datatype at its own parameters
abbrev pub is_recursive : DataDecl → Ty → Boolean
is_recursive d (DataType m As) = bytes_eq m d.name && are_own 0 d.params As
is_recursive d _ = false

-- the variables of a constructor's recursive arguments, in order, where its arguments are the innermost variables
abbrev pub recursive_vars : DataDecl → Con → List Term
recursive_vars d c =
    filter_map (λ (f : ℕ × Var). if is_recursive d f.1.ty then Some (var (length c.fields - (f.0 + 1))) else None) (enumerate_from 0 c.fields)

-- `P[x]`, where P is a predicate of one more variable and x stands under the n arguments of a constructor in its place
abbrev pub put_under : ℕ → Term → Term → Term
put_under n P x = substitute (shift P 1 n) (x ∷ [])

-- `C, As; H shifted, P[x] for each recursive argument x |- P[c(xs)]`
abbrev pub induction_premise : Sequent → DataDecl → Tys → Term → Con → Sequent
induction_premise S d As P c = record { context = W.context; hyps = W.hyps ++ map (put_under n P) (recursive_vars d c); goal = put_under n P (call c.name As (vars n)) }
  where
    n : ℕ
    n = length c.fields

    W : Sequent
    W = widened S (map (type_inst (type_at As)) (field_types c))

-- one premise for each constructor, where the type is a datatype at types
abbrev pub induction_premises : Env → Sequent → Ty → Term → Option (List Sequent)
induction_premises env S (DataType n As) P = option_map (λ (d : DataDecl). map (induction_premise S d As P) d.cons) (find_data env n)
induction_premises env S _ P = None

-- the type and the predicate of a formula `!x. P`; `!` is row 7 of the table of base symbols, from 0
abbrev pub forall_parts : Term → Option (Ty × Term)
forall_parts (node (Base k) (more A Empty) (cons P nil)) = if k == 7 then Some (A, P) else None
forall_parts _ = None

-- the premises for a sequent whose goal is `!` over a datatype
abbrev pub premises_of : Env → Sequent → Option (Ty × Term) → Option (List Sequent)
premises_of env S None = None
premises_of env S (Some (A, P)) = induction_premises env S A P

abbrev pub premises_for : Env → Sequent → Option (List Sequent)
premises_for env S = premises_of env S (forall_parts S.goal)
