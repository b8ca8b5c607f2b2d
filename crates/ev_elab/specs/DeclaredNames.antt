-- The names that elements declare.
use Rattle.std.specs.Prelude.{List, [], ◌∷◌, ◌++◌, Option, Some, None, flat_map, map}
use Rattle.ev_typing.specs.declared.typing.DataDecl.{DataDecl}
use Rattle.ev_typing.specs.declared.typing.Con.{Con}
use Rattle.ev_typing.specs.declared.typing.Var.{Var}
use Rattle.ev_typing.specs.Env.{Name}
use Rattle.ev_rules.specs.declared.elements.Element.{Element}
use Rattle.ev_rules.specs.declared.elements.Element.TheVariants.{Params, Data, Direct, Recursive, Constant, Axiom, Theorem, Rewrite, Inference}

-- the label of an axiom, a theorem or a rule
abbrev pub label_of : Element → Option Name
label_of (Axiom label P) = Some label
label_of (Theorem label P) = Some label
label_of (Rewrite r) = Some r.label
label_of (Inference r) = Some r.label
label_of _ = None

-- the name under which an element's obligations stand: an operator's own, or the label
abbrev pub obligation_label : Element → Option Name
obligation_label (Direct sig condition body) = Some sig.name
obligation_label (Recursive sig condition place bodies) = Some sig.name
obligation_label e = label_of e

-- the type parameters that it declares
abbrev pub param_names : Element → List Name
param_names (Params names) = names
param_names _ = []

-- a constructor's names: its own and those of its destructors
abbrev pub con_names : Con → List Name
con_names c = c.name ∷ map (λ (f : Var). f.name) c.fields

-- a datatype's names: its own, and those of its constructors
abbrev pub data_names : DataDecl → List Name
data_names d = d.name ∷ flat_map con_names d.cons

-- the names of datatypes, constructors, destructors, operators and constants that it declares
abbrev pub entry_names : Element → List Name
entry_names (Data d) = data_names d
entry_names (Direct sig condition body) = sig.name ∷ []
entry_names (Recursive sig condition place bodies) = sig.name ∷ []
entry_names (Constant sig condition) = sig.name ∷ []
entry_names _ = []

-- all formula names that it declares
abbrev pub formula_names : Element → List Name
formula_names e = param_names e ++ entry_names e
