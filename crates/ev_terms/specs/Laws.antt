-- What holds of shift, substitution and type instance, for all terms, types and numbers.
use Rattle.std.specs.Prelude.{◌≡◌, ℕ, ◌+◌, ◌-◌, ◌*◌, ◌<◌, ◌≤◌, List, ◌++◌, length, map, slice_get, Some, max}
use Rattle.ev_terms.specs.declared.types.Ty.{Ty, Param}
use Rattle.ev_terms.specs.declared.types.Tys.{Tys}
use Rattle.ev_terms.specs.Types.{type_list}
use Rattle.ev_terms.specs.Term.{Term, var, terms}
use Rattle.ev_terms.specs.Measures.{loose, all_loose, size, depth, depths, highest, params, type_size, type_depth, type_params}
use Rattle.ev_terms.specs.Substitution.{shift_var, shift, lifts, inst, entry, substitute, fill, type_inst, types_inst, type_at, retype, instance}

-- Shifts.

-- a later shift from a lower place may come first
abbrev pub ShiftsCommute : Type 0
ShiftsCommute = (t : Term) (from by from' by' : ℕ) → from' ≤ from → shift (shift t from by) from' by' ≡ shift (shift t from' by') (from + by') by

-- a shift within what a shift has opened adds to it
abbrev pub ShiftsMerge : Type 0
ShiftsMerge = (t : Term) (from by from' by' : ℕ) → from ≤ from' → from' ≤ from + by → shift (shift t from by) from' by' ≡ shift t from (by + by')

-- a shift by 0 changes nothing
abbrev pub ShiftByZero : Type 0
ShiftByZero = (t : Term) (from : ℕ) → shift t from 0 ≡ t

-- a shift is a substitution of variables
abbrev pub ShiftIsInst : Type 0
ShiftIsInst = (t : Term) (from by : ℕ) → shift t from by ≡ inst (λ i. var (shift_var from by i)) t

-- Substitutions.

-- one substitution after another is that of the first one's terms, substituted
abbrev pub InstsCompose : Type 0
InstsCompose = (σ τ : ℕ → Term) (t : Term) → inst σ (inst τ t) ≡ inst (λ i. inst σ (τ i)) t

-- each variable for itself changes nothing
abbrev pub InstByVariables : Type 0
InstByVariables = (t : Term) → inst var t ≡ t

-- a substitution reads the terms of loose variables alone
abbrev pub InstReadsLoose : Type 0
InstReadsLoose = (t : Term) (σ τ : ℕ → Term) → ((i : ℕ) → i < loose t → σ i ≡ τ i) → inst σ t ≡ inst τ t

-- under n binders their variables stay
abbrev pub LiftsKeepBound : Type 0
LiftsKeepBound = (n : ℕ) (σ : ℕ → Term) (i : ℕ) → i < n → lifts n σ i ≡ var i

-- and what stands for an outer one is shifted past them
abbrev pub LiftsShiftOuter : Type 0
LiftsShiftOuter = (n : ℕ) (σ : ℕ → Term) (i : ℕ) → n ≤ i → lifts n σ i ≡ shift (σ (i - n)) 0 n

-- binders add up
abbrev pub LiftsAdd : Type 0
LiftsAdd = (n d : ℕ) (σ : ℕ → Term) → lifts n (lifts d σ) ≡ lifts (d + n) σ

-- variable i stands for the i-th term
abbrev pub EntryIsGiven : Type 0
EntryIsGiven = (ts : List Term) (i : ℕ) (t : Term) → slice_get ts i ≡ Some t → entry ts i ≡ t

-- and a later one falls by the length
abbrev pub EntryPastFalls : Type 0
EntryPastFalls = (ts : List Term) (i : ℕ) → length ts ≤ i → entry ts i ≡ var (i - length ts)

-- t[ts][us] is t[ts[us], us]
abbrev pub SubstitutionsCompose : Type 0
SubstitutionsCompose = (t : Term) (ts us : List Term) → substitute (substitute t ts) us ≡ substitute t (map (λ u. substitute u us) ts ++ us)

-- Shift and substitution.

-- a shift goes into the terms of a substitution
abbrev pub ShiftOfInst : Type 0
ShiftOfInst = (σ : ℕ → Term) (t : Term) (from by : ℕ) → shift (inst σ t) from by ≡ inst (λ i. shift (σ i) from by) t

-- a substitution reads the raised variables of a shift
abbrev pub InstOfShift : Type 0
InstOfShift = (σ : ℕ → Term) (t : Term) (from by : ℕ) → inst σ (shift t from by) ≡ inst (λ i. σ (shift_var from by i)) t

-- a term that is shifted past n binders does not meet them
abbrev pub InstPastBinders : Type 0
InstPastBinders = (n : ℕ) (σ : ℕ → Term) (t : Term) → inst (lifts n σ) (shift t 0 n) ≡ shift (inst σ t) 0 n

-- the shift of t[ts]
abbrev pub ShiftOfSubstitution : Type 0
ShiftOfSubstitution = (t : Term) (ts : List Term) (from by : ℕ) →
    shift (substitute t ts) from by ≡ substitute (shift t (from + length ts) by) (map (λ u. shift u from by) ts)

-- entries for variables that a shift has opened are dropped
abbrev pub SubstitutionOfShift : Type 0
SubstitutionOfShift = (t : Term) (ts us vs : List Term) → substitute (shift t (length ts) (length us)) (ts ++ (us ++ vs)) ≡ substitute t (ts ++ vs)

-- a substitution undoes the shift that made room for it
abbrev pub SubstitutionUndoesShift : Type 0
SubstitutionUndoesShift = (t : Term) (ts : List Term) → substitute (shift t 0 (length ts)) ts ≡ t

-- Arguments: the first one stands for the outermost variable.

-- the i-th argument, from 0, stands for variable n - 1 - i of n
abbrev pub FillIsGiven : Type 0
FillIsGiven = (ts : List Term) (i : ℕ) (t : Term) → slice_get ts i ≡ Some t → fill (var (length ts - 1 - i)) ts ≡ t

-- and later variables fall by n
abbrev pub FillPastFalls : Type 0
FillPastFalls = (ts : List Term) (i : ℕ) → fill (var (length ts + i)) ts ≡ var i

-- where no other variable is loose, a substitution goes into the entries
abbrev pub InstOfSubstitution : Type 0
InstOfSubstitution = (σ : ℕ → Term) (t : Term) (ts : List Term) → loose t ≤ length ts → inst σ (substitute t ts) ≡ substitute t (map (inst σ) ts)

-- and into the arguments
abbrev pub InstOfFill : Type 0
InstOfFill = (σ : ℕ → Term) (t : Term) (ts : List Term) → loose t ≤ length ts → inst σ (fill t ts) ≡ fill t (map (inst σ) ts)

-- and a shift too
abbrev pub ShiftOfFill : Type 0
ShiftOfFill = (t : Term) (ts : List Term) (from by : ℕ) → loose t ≤ length ts → shift (fill t ts) from by ≡ fill t (map (λ u. shift u from by) ts)

-- a type instance goes into the arguments and the term
abbrev pub RetypeOfFill : Type 0
RetypeOfFill = (θ : ℕ → Ty) (t : Term) (ts : List Term) → retype θ (fill t ts) ≡ fill (retype θ t) (map (retype θ) ts)

-- Type instances.

-- a type instance commutes with a shift
abbrev pub RetypeOfShift : Type 0
RetypeOfShift = (θ : ℕ → Ty) (t : Term) (from by : ℕ) → retype θ (shift t from by) ≡ shift (retype θ t) from by

-- and goes into a substitution
abbrev pub RetypeOfInst : Type 0
RetypeOfInst = (θ : ℕ → Ty) (σ : ℕ → Term) (t : Term) → retype θ (inst σ t) ≡ inst (λ i. retype θ (σ i)) (retype θ t)

-- t[ts]<As> is t<As>[ts<As>]
abbrev pub InstanceOfSubstitution : Type 0
InstanceOfSubstitution = (t : Term) (ts : List Term) (types : Tys) → instance (substitute t ts) types ≡ substitute (instance t types) (map (λ u. instance u types) ts)

-- one type instance after another is that of the first one's types, instantiated
abbrev pub RetypesCompose : Type 0
RetypesCompose = (θ η : ℕ → Ty) (t : Term) → retype θ (retype η t) ≡ retype (λ i. type_inst θ (η i)) t

-- and so for types
abbrev pub TypeInstsCompose : Type 0
TypeInstsCompose = (θ η : ℕ → Ty) (a : Ty) → type_inst θ (type_inst η a) ≡ type_inst (λ i. type_inst θ (η i)) a

-- t<As><Bs> is t<As<Bs>> where all parameters are given a type
abbrev pub InstancesCompose : Type 0
InstancesCompose = (t : Term) (first second : Tys) → params t ≤ length (type_list first) →
    instance (instance t first) second ≡ instance t (types_inst (type_at second) first)

-- and so for types
abbrev pub TypeListsCompose : Type 0
TypeListsCompose = (a : Ty) (first second : Tys) → type_params a ≤ length (type_list first) →
    type_inst (type_at second) (type_inst (type_at first) a) ≡ type_inst (type_at (types_inst (type_at second) first)) a

-- a type instance reads the types of parameters that stand in the term alone
abbrev pub RetypeReadsParams : Type 0
RetypeReadsParams = (t : Term) (θ η : ℕ → Ty) → ((i : ℕ) → i < params t → θ i ≡ η i) → retype θ t ≡ retype η t

-- each parameter for itself changes nothing
abbrev pub RetypeByParams : Type 0
RetypeByParams = (t : Term) → retype (λ i. Param i) t ≡ t

-- Terms without loose variables or type parameters.

-- with no loose variable from there on a shift changes nothing
abbrev pub ClosedKeepsShift : Type 0
ClosedKeepsShift = (t : Term) (from by : ℕ) → loose t ≤ from → shift t from by ≡ t

-- under as many binders as there are loose variables a substitution changes nothing
abbrev pub ClosedKeepsInst : Type 0
ClosedKeepsInst = (t : Term) (n : ℕ) (σ : ℕ → Term) → loose t ≤ n → inst (lifts n σ) t ≡ t

-- a closed term has nothing to substitute
abbrev pub ClosedKeepsSubstitution : Type 0
ClosedKeepsSubstitution = (t : Term) (ts : List Term) → loose t ≡ 0 → substitute t ts ≡ t

-- with no type parameter a type instance changes nothing
abbrev pub ClosedKeepsRetype : Type 0
ClosedKeepsRetype = (t : Term) (θ : ℕ → Ty) → params t ≡ 0 → retype θ t ≡ t

-- and so for types
abbrev pub ClosedKeepsTypeInst : Type 0
ClosedKeepsTypeInst = (a : Ty) (θ : ℕ → Ty) → type_params a ≡ 0 → type_inst θ a ≡ a

-- Measures.

-- a shift keeps the size
abbrev pub SizeOfShift : Type 0
SizeOfShift = (t : Term) (from by : ℕ) → size (shift t from by) ≡ size t

-- and the depth
abbrev pub DepthOfShift : Type 0
DepthOfShift = (t : Term) (from by : ℕ) → depth (shift t from by) ≡ depth t

-- and the type parameters
abbrev pub ParamsOfShift : Type 0
ParamsOfShift = (t : Term) (from by : ℕ) → params (shift t from by) ≡ params t

-- a shift raises the loose variables by no more than its number
abbrev pub LooseOfShift : Type 0
LooseOfShift = (t : Term) (from by : ℕ) → loose (shift t from by) ≤ loose t + by

-- a substitution leaves loose what is loose in its terms
abbrev pub LooseOfInst : Type 0
LooseOfInst = (t : Term) (m : ℕ) (σ : ℕ → Term) → ((i : ℕ) → i < loose t → loose (σ i) ≤ m) → loose (inst σ t) ≤ m

-- and puts no more than its terms below the leaves
abbrev pub DepthOfInst : Type 0
DepthOfInst = (t : Term) (m : ℕ) (σ : ℕ → Term) → ((i : ℕ) → depth (σ i) ≤ m + 1) → depth (inst σ t) ≤ depth t + m

-- no number of a variable passes the loose ones by more than the depth
abbrev pub HighestIsBounded : Type 0
HighestIsBounded = (t : Term) → highest t ≤ loose t + depth t

-- nor after a shift
abbrev pub HighestOfShift : Type 0
HighestOfShift = (t : Term) (from by : ℕ) → highest (shift t from by) ≤ (loose t + by) + depth t

-- nor after a substitution
abbrev pub HighestOfSubstitution : Type 0
HighestOfSubstitution = (t : Term) (ts : List Term) → highest (substitute t ts) ≤ max (loose t) (all_loose (terms ts)) + (depth t + depths (terms ts))

-- a substitution multiplies the size by no more than that of its greatest term
abbrev pub SizeOfInst : Type 0
SizeOfInst = (t : Term) (m : ℕ) (σ : ℕ → Term) → ((i : ℕ) → size (σ i) ≤ m) → size (inst σ t) ≤ size t * m

-- and has no type parameter but those of the term and of its terms
abbrev pub ParamsOfInst : Type 0
ParamsOfInst = (t : Term) (m : ℕ) (σ : ℕ → Term) → ((i : ℕ) → i < loose t → params (σ i) ≤ m) → params (inst σ t) ≤ max (params t) m

-- a type instance multiplies the size by no more than that of its greatest type
abbrev pub SizeOfRetype : Type 0
SizeOfRetype = (t : Term) (m : ℕ) (θ : ℕ → Ty) → ((i : ℕ) → type_size (θ i) ≤ m) → size (retype θ t) ≤ size t * m

-- and so for types
abbrev pub SizeOfTypeInst : Type 0
SizeOfTypeInst = (a : Ty) (m : ℕ) (θ : ℕ → Ty) → ((i : ℕ) → type_size (θ i) ≤ m) → type_size (type_inst θ a) ≤ type_size a * m

-- and puts no more than its types below the leaves
abbrev pub DepthOfRetype : Type 0
DepthOfRetype = (t : Term) (m : ℕ) (θ : ℕ → Ty) → ((i : ℕ) → type_depth (θ i) ≤ m + 1) → depth (retype θ t) ≤ depth t + m

-- and so for types
abbrev pub DepthOfTypeInst : Type 0
DepthOfTypeInst = (a : Ty) (m : ℕ) (θ : ℕ → Ty) → ((i : ℕ) → type_depth (θ i) ≤ m + 1) → type_depth (type_inst θ a) ≤ type_depth a + m

-- it keeps the loose variables
abbrev pub LooseOfRetype : Type 0
LooseOfRetype = (t : Term) (θ : ℕ → Ty) → loose (retype θ t) ≡ loose t

-- and the numbers of all variables
abbrev pub HighestOfRetype : Type 0
HighestOfRetype = (t : Term) (θ : ℕ → Ty) → highest (retype θ t) ≡ highest t

-- and leaves the type parameters of its types alone
abbrev pub ParamsOfRetype : Type 0
ParamsOfRetype = (t : Term) (m : ℕ) (θ : ℕ → Ty) → ((i : ℕ) → i < params t → type_params (θ i) ≤ m) → params (retype θ t) ≤ m

-- and so for types
abbrev pub ParamsOfTypeInst : Type 0
ParamsOfTypeInst = (a : Ty) (m : ℕ) (θ : ℕ → Ty) → ((i : ℕ) → i < type_params a → type_params (θ i) ≤ m) → type_params (type_inst θ a) ≤ m
