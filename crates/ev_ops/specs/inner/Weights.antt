-- How often and how deep parts stand in terms. Weights count up to the end of the numbers that hold them, so that facts about them are
-- up to that end. Two weights are added for a part that stands in two places, and multiplied for one that stands within another.
use Rattle.std.specs.Prelude.{◌≡◌, ◌+◌, ◌*◌, ◌-◌, ◌≤◌, ℕ, zero, suc, List, [], ◌∷◌, Option, Some, None, max, nat_lt, if◌then◌else◌, length, ⊤}
use Rattle.ev_terms.specs.declared.types.Ty.{Ty, Int, Bool, Prop, Param, Data}
use Rattle.ev_terms.specs.declared.types.Tys.{Tys, Empty}
use Rattle.ev_terms.specs.declared.types.Sym.{Sym}
use Rattle.ev_terms.specs.declared.types.Sym.TheVariants.{Base, User}
use Rattle.ev_terms.specs.Types.{pow, prod, more}
use Rattle.ev_terms.specs.Term.{Term, Terms, var, lit, node, nil, cons}
use Rattle.ev_terms.specs.Symbols.{binds}
use Rattle.ev_terms.specs.Measures.{loose, params, capped}
use Rattle.ev_typing.specs.Env.{Name, look_up}
use Rattle.ev_ops.specs.Unfold.{Bodies}
use Rattle.ev_ops.specs.declared.weights.Weight.{Weight}
use Rattle.ev_ops.specs.declared.weights.Weights.{Weights}

-- equal as far as the numbers go
pub record IsAlike (a b : Weight) : Type 0 where
  pub often : capped a.often ≡ capped b.often
  pub deep : capped a.deep ≡ capped b.deep

-- of nothing, of the whole, and of what stands right below it
abbrev pub nothing : Weight
nothing = record { often = 0; deep = 0 }

abbrev pub whole : Weight
whole = record { often = 1; deep = 1 }

abbrev pub child : Weight
child = record { often = 1; deep = 2 }

abbrev pub beside : Weight → Weight → Weight
beside a b = record { often = a.often + b.often; deep = max a.deep b.deep }

-- the longest path to a part of a part, which both paths share a node of; 0 where there is none
abbrev pub deep_within : ℕ → ℕ → ℕ
deep_within zero b = 0
deep_within (suc a) zero = 0
deep_within (suc a) (suc b) = suc (a + b)

abbrev pub within : Weight → Weight → Weight
within a b = record { often = a.often * b.often; deep = deep_within a.deep b.deep }

-- the weight of a type whose parameters have weights: as many nodes as it has, and as deep
abbrev mutual
  pub weigh_type : (ℕ → Weight) → Ty → Weight
  weigh_type τ Int = whole
  weigh_type τ Bool = whole
  weigh_type τ Prop = whole
  weigh_type τ (Param i) = τ i
  weigh_type τ (pow a) = beside whole (within child (weigh_type τ a))
  weigh_type τ (prod a b) = beside whole (within child (beside (weigh_type τ a) (weigh_type τ b)))
  weigh_type τ (Data name ts) = beside whole (within child (weigh_types τ ts))

  pub weigh_types : (ℕ → Weight) → Tys → Weight
  weigh_types τ Empty = nothing
  weigh_types τ (more a ts) = beside (weigh_type τ a) (weigh_types τ ts)

-- that of variable i under n binders
abbrev pub weigh_var : (ℕ → Weight) → ℕ → ℕ → Weight
weigh_var ω n i = if nat_lt i n then whole else ω (i - n)

-- of a term under n binders, whose type parameters and variables have weights
abbrev mutual
  pub weigh : (ℕ → Weight) → (ℕ → Weight) → ℕ → Term → Weight
  weigh τ ω n (var i) = weigh_var ω n i
  weigh τ ω n (lit k) = whole
  weigh τ ω n (node s As ts) = beside whole (within child (beside (weigh_types τ As) (weigh_all τ ω (n + binds s) ts)))

  pub weigh_all : (ℕ → Weight) → (ℕ → Weight) → ℕ → Terms → Weight
  weigh_all τ ω n nil = nothing
  weigh_all τ ω n (cons t ts) = beside (weigh τ ω n t) (weigh_all τ ω n ts)

-- the weights of places, each with what stands there
abbrev pub filled_with : List Weight → (ℕ → Weight) → Weight
filled_with [] ω = nothing
filled_with (w ∷ ws) ω = beside (within w (ω 0)) (filled_with ws (λ i. ω (suc i)))

-- and with those of a list, as far as it goes
abbrev pub zipped : List Weight → List Weight → Weight
zipped [] xs = nothing
zipped (w ∷ ws) [] = nothing
zipped (w ∷ ws) (x ∷ xs) = beside (within w x) (zipped ws xs)

-- the whole that weights of a term come to
abbrev pub total : (ℕ → Weight) → (ℕ → Weight) → Weights → Weight
total τ ω S = beside S.own (beside (filled_with S.types.items τ) (filled_with S.variables.items ω))

-- what has no place of its own weighs as a node
abbrev pub IsOwnFrom : ℕ → (ℕ → Weight) → Type 0
IsOwnFrom n ω = (i : ℕ) → n ≤ i → ω i ≡ whole

-- so many places, in which nothing stands yet
pub record ArePlaces (n : ℕ) (ws : List Weight) : Type 0 where
  pub count : length ws ≡ n
  pub empty : (ω : ℕ → Weight) → filled_with ws ω ≡ nothing

-- the weights of a term
pub record AreWeightsOf (B : Term) (S : Weights) : Type 0 where
  pub variables : loose B ≤ length S.variables.items
  pub parameters : params B ≤ length S.types.items
  pub comes_to : (τ ω : ℕ → Weight) → IsOwnFrom (length S.types.items) τ → IsOwnFrom (length S.variables.items) ω → IsAlike (total τ ω S) (weigh τ ω 0 B)

-- a part was added, which stands in a place
pub record IsAdded (old new : Weights) (at : Weight) (part : (ℕ → Weight) → (ℕ → Weight) → Weight) : Type 0 where
  pub variables : length new.variables.items ≡ length old.variables.items
  pub types : length new.types.items ≡ length old.types.items
  pub comes_to : (τ ω : ℕ → Weight) → IsOwnFrom (length old.types.items) τ → IsOwnFrom (length old.variables.items) ω → IsAlike (total τ ω new) (beside (total τ ω old) (within at (part τ ω)))

-- each body has its weights
abbrev pub HaveWeights : Option Term → Option Weights → Type 0
HaveWeights None None = ⊤
HaveWeights None (Some S) = ⊥
HaveWeights (Some B) None = ⊥
HaveWeights (Some B) (Some S) = AreWeightsOf B S

abbrev pub AreWeighed : Bodies → List (Name × Weights) → Type 0
AreWeighed bs ws = (n : Name) → HaveWeights (look_up bs n) (look_up ws n)

-- the weights of a symbol that has some
abbrev pub weights_of : List (Name × Weights) → Sym → Option Weights
weights_of ws (Base k) = None
weights_of ws (User n) = look_up ws n
