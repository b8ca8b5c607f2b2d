-- Which entries may follow in an environment, and environments all of whose entries do, after Butler and Maamria, Practical Theory
-- Extension in Event-B. Admission of datatypes and operators is not asked here.
use Rattle.std.specs.Prelude.{◌≡◌, ◌<◌, ◌≤◌, ◌^◌, ◌+◌, ◌++◌, ◌||◌, ℕ, List, [], ◌∷◌, Option, Some, None, IsTrue, IsSomeAnd, ⊤, bytes_eq, flat_map, map, length, take, drop, slice_get, option_map}
use Rattle.std.specs.List.{AllByRecursion, AllZip, IsDistinct}
use Rattle.ev_terms.specs.declared.types.Ty.{Ty, Prop, Data as DataType}
use Rattle.ev_terms.specs.declared.types.Tys.{Tys}
use Rattle.ev_terms.specs.Types.{type_list}
use Rattle.ev_terms.specs.Term.{Term}
use Rattle.ev_terms.specs.Substitution.{type_inst, type_at}
use Rattle.ev_terms.specs.Measures.{type_params, types_params, params, depth}
use Rattle.ev_typing.specs.declared.typing.Entry.{Entry}
use Rattle.ev_typing.specs.declared.typing.Entry.TheVariants.{Data, Constant, Direct, Recursive}
use Rattle.ev_typing.specs.declared.typing.Signature.{Signature}
use Rattle.ev_typing.specs.declared.typing.DataDecl.{DataDecl}
use Rattle.ev_typing.specs.declared.typing.Con.{Con}
use Rattle.ev_typing.specs.Env.{Env, names, declaring, field_types, find_data}
use Rattle.ev_typing.specs.Typing.{IsProper, AreProper, Typed}
use Rattle.ev_typing.specs.Proper.{IsResult}
use Rattle.ev_typing.specs.Occurs.{has_param, have_param, IsPlain}

-- no entry declares the names, and they differ from each other
pub record HasNewNames (env : Env) (e : Entry) : Type 0 where
  pub new : AllByRecursion (λ n. declaring env n ≡ None) (names e)
  pub different : IsDistinct bytes_eq (names e)

-- the types of a constructor's fields, of which there are fewer than 2^30
pub record AreGoodFields (env : Env) (n : ℕ) (c : Con) : Type 0 where
  pub count : length c.fields < 2 ^ 30
  pub proper : AllByRecursion (IsProper env) (field_types c)
  pub parameters : AllByRecursion (λ A. type_params A ≤ n) (field_types c)

-- the parameter occurs in the types of the arguments or of the whole
abbrev pub IsParamOf : Signature → ℕ → Type 0
IsParamOf sig j = IsTrue (have_param j sig.args || has_param j sig.result)

-- proper types, but `Prop` for the whole of a predicate, whose parameters are those below `params`
pub record IsGoodSignature (env : Env) (sig : Signature) : Type 0 where
  pub count : length (type_list sig.args) < 2 ^ 30
  pub args : AreProper env sig.args
  pub result : IsResult env sig.result
  pub args_parameters : types_params sig.args ≤ sig.params
  pub result_parameters : type_params sig.result ≤ sig.params
  pub used : (j : ℕ) → j < sig.params → IsParamOf sig j

-- a term of the type in the context, with parameters below n, and of depth below 2^29
pub record IsGoodTerm (env : Env) (n : ℕ) (C : List Ty) (A : Ty) (t : Term) : Type 0 where
  pub typed : Typed env C t A
  pub parameters : params t ≤ n
  pub shallow : depth t < 2 ^ 29

-- a condition, where there is one, is a predicate over the arguments
abbrev pub IsGoodCondition : Env → Signature → Option Term → Type 0
IsGoodCondition env sig None = ⊤
IsGoodCondition env sig (Some P) = IsGoodTerm env sig.params (type_list sig.args) Prop P

-- the datatype that a type is, with its types
abbrev pub data_of : Env → Option Ty → Option (DataDecl × Tys)
data_of env (Some (DataType n As)) = option_map (λ d. (d, As)) (find_data env n)
data_of env _ = None

-- the datatype of the argument at the inductive place, with its types
abbrev pub inductive_data : Env → Signature → ℕ → Option (DataDecl × Tys)
inductive_data env sig place = data_of env (slice_get (type_list sig.args) place)

-- the items with others in place of the one at this place
abbrev pub spliced : {X : Type 0} → List X → ℕ → List X → List X
spliced xs place ys = take place xs ++ (ys ++ drop (place + 1) xs)

-- the context of a case: the arguments, with those of the constructor at the datatype's types in the inductive place
abbrev pub case_context : Signature → ℕ → Tys → Con → List Ty
case_context sig place As c = spliced (type_list sig.args) place (map (type_inst (type_at As)) (field_types c))

-- a constructor's body, without direct operators
pub record IsGoodBody (env : Env) (sig : Signature) (place : ℕ) (As : Tys) (c : Con) (body : Term) : Type 0 where
  pub term : IsGoodTerm env sig.params (case_context sig place As c) sig.result body
  pub plain : IsPlain env body

-- the inductive argument's type is a datatype, with one body for each of its constructors in their order
abbrev pub AreGoodBodies : Env → Signature → ℕ → List Term → Type 0
AreGoodBodies env sig place bodies = IsSomeAnd (inductive_data env sig place) (λ p. AllZip (IsGoodBody env sig place p.1) p.0.cons bodies)

-- a signature and a condition over the earlier entries, and what is asked of the bodies
pub record IsGoodOperator (env : Env) (sig : Signature) (condition : Option Term) (Bodies : Type 0) : Type 0 where
  pub signature : IsGoodSignature env sig
  pub condition_good : IsGoodCondition env sig condition
  pub bodies : Bodies

-- an entry over the earlier ones; fields and recursive bodies are over the entry too
abbrev pub IsGoodEntry : Env → Entry → Type 0
IsGoodEntry env (Data d) = AllByRecursion (AreGoodFields (env ++ Data d ∷ []) d.params) d.cons
IsGoodEntry env (Constant sig condition) = IsGoodOperator env sig condition ⊤
IsGoodEntry env (Direct sig condition body) = IsGoodOperator env sig condition (IsGoodTerm env sig.params (type_list sig.args) sig.result body)
IsGoodEntry env (Recursive sig condition place bodies) =
    IsGoodOperator env sig condition (AreGoodBodies (env ++ Recursive sig condition place bodies ∷ []) sig place bodies)

-- each entry is good over the environment and the entries before it
abbrev pub AreGoodAfter : Env → List Entry → Type 0
AreGoodAfter env [] = ⊤
AreGoodAfter env (e ∷ es) = IsGoodEntry env e × AreGoodAfter (env ++ e ∷ []) es

-- all names differ, and each entry is good over those before it
pub record IsWellFormed (env : Env) : Type 0 where
  pub distinct : IsDistinct bytes_eq (flat_map names env)
  pub entries : AreGoodAfter [] env
