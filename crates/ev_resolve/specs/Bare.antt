-- Bare terms: what a raw tree says once its names are resolved and its forms are those of terms, before its types are inferred.
use Rattle.std.specs.Prelude.{◌≡◌, ℕ, List, ⊤, Option, Some, None}
use Rattle.ev_terms.specs.declared.types.Ty.{Ty}
use Rattle.ev_terms.specs.declared.types.Tys.{Tys}
use Rattle.ev_terms.specs.declared.types.Sym.{Sym}
use Rattle.ev_terms.specs.Term.{Term, Terms, var, lit, node, nil, cons}
use Rattle.ev_forms.specs.Base.{at_type}
use Rattle.ev_typing.specs.Env.{Env}
use Rattle.ev_typing.specs.Typing.{IsProper, Typed, inside}

mutual
  pub data Bare : Type 0 where
    bare_var : ℕ → Bare
    bare_lit : ℕ → Bare
    -- a symbol over its children: at any types, or at the one type that is written
    bare_node : Sym → Option Ty → Bares → Bare
    -- `b oftype A`
    bare_of : Bare → Ty → Bare

  pub data Bares : Type 0 where
    bare_none : Bares
    bare_more : Bare → Bares → Bares

-- the types of a node: any, or the one that is written
abbrev pub IsGiven : Option Ty → Tys → Type 0
IsGiven None As = ⊤
IsGiven (Some A) As = As ≡ at_type A

module _ (env : Env) where
  -- the term is the bare one once the types of its nodes that are not written are forgotten, and what is said to have a type has it
  abbrev mutual
    pub Fits : Bare → List Ty → Term → Type 0
    Fits (bare_var i) C t = t ≡ var i
    Fits (bare_lit n) C t = t ≡ lit n
    Fits (bare_node s w bs) C t = (As : Tys) × (ts : Terms) × IsGiven w As × FitAll bs (inside C s As) ts × (t ≡ node s As ts)
    Fits (bare_of b A) C t = Fits b C t × IsProper env A × Typed env C t A

    pub FitAll : Bares → List Ty → Terms → Type 0
    FitAll bare_none C ts = ts ≡ nil
    FitAll (bare_more b bs) C ts = (t : Term) × (us : Terms) × Fits b C t × FitAll bs C us × (ts ≡ cons t us)
