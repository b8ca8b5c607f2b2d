-- The header of a derivation's text: a line for each entry of its environment, which has no direct operators and no conditions.
use Rattle.std.specs.Prelude.{◌≡◌, ℕ, ◌+◌, List, [], ◌∷◌, ◌++◌, map, length, codes, decimal, Option, Some, None, ⊤}
use Rattle.ev_terms.specs.declared.types.Tys.{Tys}
use Rattle.ev_terms.specs.Term.{Term}
use Rattle.ev_typing.specs.declared.typing.Entry.{Entry}
use Rattle.ev_typing.specs.declared.typing.Entry.TheVariants.{Data, Constant, Direct, Recursive}
use Rattle.ev_typing.specs.declared.typing.Signature.{Signature}
use Rattle.ev_typing.specs.declared.typing.DataDecl.{DataDecl}
use Rattle.ev_typing.specs.declared.typing.Con.{Con}
use Rattle.ev_typing.specs.declared.typing.Var.{Var}
use Rattle.ev_typing.specs.Env.{Env}
use Rattle.ev_typing.specs.WellFormed.{inductive_data, case_context}
use Rattle.ev_print.specs.Canon.{canon, type_text, called_text}
use Rattle.ev_deriv.specs.Fields.{line_of, ended, types_field}

abbrev pub field_text : Var → List ℕ
field_text f = f.name ++ (codes ": " ++ type_text f.ty)

abbrev pub constructor_field : Con → List ℕ
constructor_field c = called_text c.name (map field_text c.fields)

-- how many variables stand in each case, of the datatype and types at the inductive place
abbrev pub case_counts : Signature → ℕ → Option (DataDecl × Tys) → List ℕ
case_counts sig place None = []
case_counts sig place (Some p) = map (λ c. length (case_context sig place p.1 c)) p.0.cons

-- how many variables stand in each body of a recursive operator
abbrev pub body_counts : Env → Signature → ℕ → List ℕ
body_counts env sig place = case_counts sig place (inductive_data env sig place)

-- the bodies, each under as many variables
abbrev pub body_fields : Env → List ℕ → List Term → List (List ℕ)
body_fields env (n ∷ ns) (t ∷ ts) = canon env n t ∷ body_fields env ns ts
body_fields env _ _ = []

-- an entry that a header may have
abbrev pub IsHeaderEntry : Entry → Type 0
IsHeaderEntry (Data d) = ⊤
IsHeaderEntry (Constant sig condition) = condition ≡ None
IsHeaderEntry (Direct sig condition body) = ⊥
IsHeaderEntry (Recursive sig condition place bodies) = condition ≡ None

-- the fields of a recursive operator's line
abbrev pub recursive_fields : Env → Signature → ℕ → List Term → List (List ℕ)
recursive_fields env sig place bodies =
    codes "recursive" ∷ sig.name ∷ decimal sig.params ∷ types_field sig.args ∷ type_text sig.result ∷ decimal (place + 1)
    ∷ body_fields env (body_counts env sig place) bodies

-- the fields of an entry's line, in the environment that ends with it
abbrev pub header_fields : Env → Entry → List (List ℕ)
header_fields env (Data d) = codes "datatype" ∷ d.name ∷ decimal d.params ∷ map constructor_field d.cons
header_fields env (Constant sig condition) = codes "constant" ∷ sig.name ∷ decimal sig.params ∷ types_field sig.args ∷ type_text sig.result ∷ []
header_fields env (Direct sig condition body) = []
header_fields env (Recursive sig condition place bodies) = recursive_fields env sig place bodies

abbrev pub header_line : Env → Entry → List ℕ
header_line env e = line_of (header_fields env e)

-- the lines of entries behind others
abbrev pub header_lines : Env → List Entry → List ℕ
header_lines env [] = []
header_lines env (e ∷ es) = ended (header_line (env ++ e ∷ []) e) ++ header_lines (env ++ e ∷ []) es

-- the first line of each derivation's text
abbrev pub first_line : List ℕ
first_line = ended (codes "derivation 1")

-- the first line and the lines of an environment
abbrev pub header_text : Env → List ℕ
header_text env = first_line ++ header_lines [] env
