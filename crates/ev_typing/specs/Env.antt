-- An environment: the datatypes and symbols that are declared, in order.
use Rattle.std.specs.Prelude.{ℕ, Bool, List, [], ◌∷◌, ◌++◌, map, flat_map, find, Option, Some, None, bytes_eq, cond, option_map}
use Rattle.std.specs.List.{enumerate_from, list_any}
use Rattle.ev_terms.specs.declared.types.Ty.{Ty, Data as DataType}
use Rattle.ev_terms.specs.declared.types.Sym.{Sym}
use Rattle.ev_terms.specs.declared.types.Sym.TheVariants.{Base, User}
use Rattle.ev_terms.specs.Types.{type_list}
use Rattle.ev_terms.specs.Term.{Term}
use Rattle.ev_typing.specs.declared.typing.Entry.{Entry}
use Rattle.ev_typing.specs.declared.typing.Entry.TheVariants.{Data, Constant, Direct, Recursive}
use Rattle.ev_typing.specs.declared.typing.Signature.{Signature}
use Rattle.ev_typing.specs.declared.typing.DataDecl.{DataDecl}
use Rattle.ev_typing.specs.declared.typing.Con.{Con}
use Rattle.ev_typing.specs.declared.typing.Var.{Var}
use Rattle.ev_typing.specs.TypeLists.{own_types}
use Rattle.ev_typing.specs.Profiles.{Profile, base_profile}

-- the oldest entry first
abbrev pub Env : Type 0
Env = List Entry

-- a name, as its bytes
abbrev pub Name : Type 0
Name = List ℕ

-- the first value that stands under the name
abbrev pub look_up : {X : Type 0} → List (Name × X) → Name → Option X
look_up [] n = None
look_up (p ∷ ps) n = cond (bytes_eq p.0 n) (Some p.1) (look_up ps n)

-- what a symbol of an environment is: a constructor of a datatype; the destructor for the field of a constructor, with its
-- place from 0; a constant; a direct operator with its body; a recursive operator with its inductive place from 0 and its bodies
pub data Symbol : Type 0 where
  ConOf : DataDecl → Con → Symbol
  DesOf : DataDecl → Con → ℕ → Var → Symbol
  ConstantOf : Signature → Option Term → Symbol
  DirectOf : Signature → Option Term → Term → Symbol
  RecursiveOf : Signature → Option Term → ℕ → List Term → Symbol

-- a constructor and its destructors, under their names
abbrev pub con_symbols : DataDecl → Con → List (Name × Symbol)
con_symbols d c = (c.name, ConOf d c) ∷ map (λ (f : ℕ × Var). (f.1.name, DesOf d c f.0 f.1)) (enumerate_from 0 c.fields)

-- the symbols that an entry declares, under their names
abbrev pub symbols : Entry → List (Name × Symbol)
symbols (Data d) = flat_map (con_symbols d) d.cons
symbols (Constant sig condition) = (sig.name, ConstantOf sig condition) ∷ []
symbols (Direct sig condition body) = (sig.name, DirectOf sig condition body) ∷ []
symbols (Recursive sig condition place bodies) = (sig.name, RecursiveOf sig condition place bodies) ∷ []

-- the datatype that an entry declares
abbrev pub datatypes : Entry → List (Name × DataDecl)
datatypes (Data d) = (d.name, d) ∷ []
datatypes (Constant sig condition) = []
datatypes (Direct sig condition body) = []
datatypes (Recursive sig condition place bodies) = []

-- every name that an entry declares
abbrev pub names : Entry → List Name
names e = map (λ (p : Name × DataDecl). p.0) (datatypes e) ++ map (λ (p : Name × Symbol). p.0) (symbols e)

-- the entry declares the name
abbrev pub declares : Name → Entry → Bool
declares n e = list_any (bytes_eq n) (names e)

-- the entry that declares the name
abbrev pub declaring : Env → Name → Option Entry
declaring env n = find (declares n) env

-- the symbol of a name
abbrev pub find_symbol : Env → Name → Option Symbol
find_symbol env n = look_up (flat_map symbols env) n

-- the datatype of a name
abbrev pub find_data : Env → Name → Option DataDecl
find_data env n = look_up (flat_map datatypes env) n

-- a datatype's type at its own parameters
abbrev pub own_type : DataDecl → Ty
own_type d = DataType d.name (own_types d.params)

-- the types of a constructor's arguments
abbrev pub field_types : Con → List Ty
field_types c = map (λ (f : Var). f.ty) c.fields

-- a signature without its name
abbrev pub signature_profile : Signature → Profile
signature_profile sig = record { params = sig.params; args = type_list sig.args; result = sig.result }

-- a constructor takes its fields to the datatype
abbrev pub con_profile : DataDecl → Con → Profile
con_profile d c = record { params = d.params; args = field_types c; result = own_type d }

-- a destructor takes the datatype to its field
abbrev pub des_profile : DataDecl → Var → Profile
des_profile d f = record { params = d.params; args = own_type d ∷ []; result = f.ty }

abbrev pub symbol_profile : Symbol → Profile
symbol_profile (ConOf d c) = con_profile d c
symbol_profile (DesOf d c i f) = des_profile d f
symbol_profile (ConstantOf sig condition) = signature_profile sig
symbol_profile (DirectOf sig condition body) = signature_profile sig
symbol_profile (RecursiveOf sig condition place bodies) = signature_profile sig

-- the signature of a symbol, where there is one
abbrev pub profile : Env → Sym → Option Profile
profile env (Base k) = base_profile k
profile env (User n) = option_map symbol_profile (find_symbol env n)
