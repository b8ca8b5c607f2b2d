-- What stands under bound names.
use Rattle.std.specs.Prelude.{ℕ, List, [], ◌∷◌, map, Option, Some, None}
use Rattle.ev_terms.specs.declared.types.Ty.{Ty, Int}
use Rattle.ev_terms.specs.declared.types.Sym.{Sym}
use denote.Ref.{Bor}
use Rattle.ev_syntax.specs.Raw.{Binder}
use Rattle.ev_forms.specs.Base as base
use Rattle.ev_resolve.specs.Reading.{Known, Variable, both, binder_of}
use Rattle.ev_resolve.specs.Bare.{Bare}
use Rattle.ev_resolve.specs.Resolve.{bare_one, bare_two, collected_bare, pattern_bare, written_type, resolve}
use Rattle.ev_resolve.specs.declared.bound.Inner.{Inner}
use Rattle.ev_resolve.specs.declared.bound.Inner.TheVariants.{Body, Collected, Lambda}

-- bound names that lie in memory
abbrev pub binders_told : List (Bor Binder) → List Binder
binders_told bs = map (λ b. b.now) bs

-- the formula alone, the condition and the value of a set, or those of a function
abbrev pub inner_bare : List (List ℕ) → Known → Inner → List Variable → Option Bare
inner_bare params known (Body e) vars = resolve params known e.now vars
inner_bare params known (Collected e f n) vars = both (collected_bare n) (resolve params known e.now vars) (resolve params known f.now vars)
inner_bare params known (Lambda x e f n) vars =
    both (collected_bare n) (resolve params known e.now vars)
    (both (bare_two base.maps_to_sym None) (pattern_bare params known x.now vars) (resolve params known f.now vars))

-- the types that are written at binders
abbrev pub written_types : List (List ℕ) → Known → List Binder → Option (List (Option Ty))
written_types params known [] = Some []
written_types params known (b ∷ bs) = both (λ t ts. t ∷ ts) (written_type params known b.type) (written_types params known bs)

-- the variables under binders, the last of which is the innermost
abbrev pub bound_vars : List Binder → List Variable → List Variable
bound_vars [] vars = vars
bound_vars (b ∷ bs) vars = bound_vars bs (binder_of b Int ∷ vars)

-- a symbol that binds, once for each of the types, the first the outermost
abbrev pub wrap : Sym → List (Option Ty) → Bare → Bare
wrap s [] b = b
wrap s (t ∷ ts) b = bare_one s t (wrap s ts b)
