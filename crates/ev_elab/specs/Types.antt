-- The types, signatures and datatypes that elements write.
use Rattle.std.specs.Prelude.{◌+◌, ◌++◌, ℕ, List, [], ◌∷◌, Option, Some, None, bytes_eq, length, map, option_map, option_and_then, if◌then◌else◌, ◌==◌, position, unwrap_or}
use Rattle.std.specs.List.{range_with_len}
use Rattle.ev_terms.specs.declared.types.Ty.{Ty, Prop, Param}
use Rattle.ev_terms.specs.declared.types.Tys.{Tys}
use Rattle.ev_terms.specs.Term.{Term}
use Rattle.ev_terms.specs.Substitution.{type_inst, types_inst, type_at, instance}
use Rattle.ev_syntax.specs.Raw.{RawType}
use Rattle.ev_theory_text.specs.declared.forms.RawArg.{RawArg}
use Rattle.ev_theory_text.specs.declared.forms.RawCon.{RawCon}
use Rattle.ev_theory_text.specs.declared.forms.RawHead.{RawHead}
use Rattle.ev_theory_text.specs.declared.forms.RawResult.{RawResult}
use Rattle.ev_theory_text.specs.declared.forms.RawResult.TheVariants.{Predicate, Typed}
use Rattle.ev_typing.specs.declared.typing.Entry.TheVariants as entry
use Rattle.ev_typing.specs.declared.typing.Signature.{Signature}
use Rattle.ev_typing.specs.declared.typing.DataDecl.{DataDecl}
use Rattle.ev_typing.specs.declared.typing.Con.{Con}
use Rattle.ev_typing.specs.declared.typing.Var.{Var}
use Rattle.ev_typing.specs.TypeLists.{types}
use Rattle.ev_typing.specs.Env.{Env, Name}
use Rattle.ev_typing.specs.Proper.{is_proper}
use Rattle.ev_resolve.specs.Reading.{type_of_raw}
use Rattle.ev_resolve.specs.Resolve.{known_of}
use Rattle.ev_rules.specs.Params.{params_of}
pub use Rattle.ev_elab.specs.declared.heads.Head.{Head}

-- all values of a list, if each is there
abbrev pub all_of : {X : Type 0} → List (Option X) → Option (List X)
all_of [] = Some []
all_of (o ∷ os) = option_and_then (λ x. option_map (λ xs. x ∷ xs) (all_of os)) o

-- the type, if it is proper
abbrev pub if_proper : Env → Ty → Option Ty
if_proper env A = if is_proper env A then Some A else None

-- the proper type that is written, by the numbers of the theory's parameters
abbrev pub read_type : List Name → Env → RawType → Option Ty
read_type params env a = option_and_then (if_proper env) (type_of_raw params (known_of env) a)

abbrev pub typed_name : Name → Ty → Var
typed_name n A = record { name = n; ty = A }

abbrev pub read_arg : List Name → Env → RawArg → Option Var
read_arg params env a = option_map (typed_name a.name) (read_type params env a.written)

abbrev pub read_args : List Name → Env → List RawArg → Option (List Var)
read_args params env args = all_of (map (read_arg params env) args)

-- `Prop` for a predicate
abbrev pub read_result : List Name → Env → RawResult → Option Ty
read_result params env Predicate = Some Prop
read_result params env (Typed a) = read_type params env a

abbrev pub var_types : List Var → List Ty
var_types vars = map (λ (v : Var). v.ty) vars

-- the number of a parameter among an element's own; one that is not its own gets a number behind them
abbrev pub own_number : List ℕ → ℕ → ℕ
own_number ids i = unwrap_or (position (λ j. j == i) ids) (length ids + i)

-- the theory's parameters, as many as it has, by an element's own numbers
abbrev pub own_list : ℕ → List ℕ → Tys
own_list count ids = types (map (λ i. Param (own_number ids i)) (range_with_len 0 count))

-- its own parameters: those that occur in these types, in the theory's order
abbrev pub head_ids : Head → List ℕ
head_ids h = params_of [] (types (var_types h.vars ++ h.result ∷ []))

abbrev pub head_of : Name → List Var → Ty → Head
head_of n vars A = record { name = n; vars = vars; result = A }

abbrev pub read_head : List Name → Env → RawHead → Option Head
read_head params env h = option_and_then (λ vars. option_map (head_of h.name vars) (read_result params env h.gives)) (read_args params env h.args)

-- where the theory has so many parameters
module _ (count : ℕ) where
  abbrev pub head_types : Head → Tys
  head_types h = own_list count (head_ids h)

  -- the signature, by its own numbers
  abbrev pub signature_of : Head → Signature
  signature_of h = record {
    name = h.name;
    params = length (head_ids h);
    args = types_inst (type_at (head_types h)) (types (var_types h.vars));
    result = type_inst (type_at (head_types h)) h.result;
  }

  -- a term by the numbers of the operator or constant
  abbrev pub by_own : Head → Term → Term
  by_own h t = instance t (head_types h)

-- the numbers of the type parameters that a datatype lists, if each is one
abbrev pub read_params : List Name → List Name → Option (List ℕ)
read_params params listed = all_of (map (λ n. position (bytes_eq n) params) listed)

-- the environment in which the datatype itself is known, without constructors
abbrev pub with_data : Env → Name → ℕ → Env
with_data env n k = env ++ entry.Data (record { name = n; params = k; cons = [] }) ∷ []

abbrev pub own_var : Tys → Var → Var
own_var As v = record { name = v.name; ty = type_inst (type_at As) v.ty }

abbrev pub con_of_vars : Tys → Name → List Var → Con
con_of_vars As n vars = record { name = n; fields = map (own_var As) vars }

abbrev pub read_con : List Name → Env → Tys → RawCon → Option Con
read_con params env As c = option_map (con_of_vars As c.name) (read_args params env c.args)

abbrev pub data_of_cons : Name → ℕ → List Con → DataDecl
data_of_cons n k cs = record { name = n; params = k; cons = cs }

abbrev pub read_cons : List Name → Env → Name → List RawCon → List ℕ → Option DataDecl
read_cons params env n cons ids =
    option_map (data_of_cons n (length ids)) (all_of (map (read_con params (with_data env n (length ids)) (own_list (length params) ids)) cons))

-- the datatype that is written
abbrev pub read_data : List Name → Env → Name → List Name → List RawCon → Option DataDecl
read_data params env n listed cons = option_and_then (read_cons params env n cons) (read_params params listed)
