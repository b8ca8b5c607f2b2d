-- A map that keeps where each declared name stands.
use Rattle.std.specs.Prelude.{◌≡◌, ◌+◌, ◌++◌, ◌∷◌, [], ℕ, List, Option, Some, None, map, flat_map, option_map, slice_get}
use Rattle.std.specs.Option.{option_and_then}
use Rattle.std.specs.HashMap.{HashMap}
use Rattle.ev_typing.specs.declared.typing.Entry.{Entry}
use Rattle.ev_typing.specs.declared.typing.Entry.TheVariants.{Data, Constant, Direct, Recursive}
use Rattle.ev_typing.specs.declared.typing.DataDecl.{DataDecl}
use Rattle.ev_typing.specs.declared.typing.Con.{Con}
use Rattle.ev_typing.specs.declared.typing.Var.{Var}
use Rattle.ev_typing.specs.declared.environment.places.Place.{Place}
use Rattle.ev_typing.specs.declared.environment.places.Part.{Part}
use Rattle.ev_typing.specs.declared.environment.places.Part.TheVariants.{Whole, Constructor, Destructor}
use Rattle.ev_typing.specs.Env.{Env, Name, Symbol, ConOf, DesOf, ConstantOf, DirectOf, RecursiveOf}

abbrev pub place : ℕ → Part → Place
place k p = record { entry = k; part = p }

-- the names of fields from the j-th on
abbrev pub field_places : ℕ → ℕ → ℕ → List Var → List (Name × Place)
field_places k i j [] = []
field_places k i j (f ∷ fs) = (f.name, place k (Destructor i j)) ∷ field_places k i (j + 1) fs

-- the names of constructors from the i-th on, each with its destructors
abbrev pub con_places : ℕ → ℕ → List Con → List (Name × Place)
con_places k i [] = []
con_places k i (c ∷ cs) = (c.name, place k (Constructor i)) ∷ (field_places k i 0 c.fields ++ con_places k (i + 1) cs)

-- the first name of an entry
abbrev pub first_name : Entry → Name
first_name (Data d) = d.name
first_name (Constant sig condition) = sig.name
first_name (Direct sig condition body) = sig.name
first_name (Recursive sig condition place bodies) = sig.name

-- the names behind it
abbrev pub later_places : ℕ → Entry → List (Name × Place)
later_places k (Data d) = con_places k 0 d.cons
later_places k (Constant sig condition) = []
later_places k (Direct sig condition body) = []
later_places k (Recursive sig condition place bodies) = []

-- the names of the entry that has the number k
abbrev pub entry_places : ℕ → Entry → List (Name × Place)
entry_places k e = (first_name e, place k Whole) ∷ later_places k e

-- the names of entries from the k-th on
abbrev pub places_from : ℕ → Env → List (Name × Place)
places_from k [] = []
places_from k (e ∷ es) = entry_places k e ++ places_from (k + 1) es

-- the map has the declared names in their order, each with its place
abbrev pub AreKept : {S : Type 0} → HashMap Name Place S → Env → Type 0
AreKept m env = m.entries ≡ places_from 0 env

-- the symbol of a datatype at a place
abbrev pub data_symbol_at : DataDecl → Part → Option Symbol
data_symbol_at d Whole = None
data_symbol_at d (Constructor i) = option_map (ConOf d) (slice_get d.cons i)
data_symbol_at d (Destructor i j) = option_and_then (λ c. option_map (DesOf d c j) (slice_get c.fields j)) (slice_get d.cons i)

-- the symbol of an entry at a place
abbrev pub symbol_at : Entry → Part → Option Symbol
symbol_at (Data d) p = data_symbol_at d p
symbol_at (Constant sig condition) p = Some (ConstantOf sig condition)
symbol_at (Direct sig condition body) p = Some (DirectOf sig condition body)
symbol_at (Recursive sig condition place bodies) p = Some (RecursiveOf sig condition place bodies)

-- the symbol of an environment at a place
abbrev pub symbol_in : Env → Place → Option Symbol
symbol_in env p = option_and_then (λ e. symbol_at e p.part) (slice_get env p.entry)

-- a constructor's name and those of its destructors
abbrev pub con_names : Con → List Name
con_names c = c.name ∷ map (λ (f : Var). f.name) c.fields

abbrev pub all_con_names : List Con → List Name
all_con_names cs = flat_map con_names cs
