-- What the walk that emits pairs leaves, beside the pairs that were there.
use Rattle.std.specs.Prelude.{ℕ, Bool as Boolean, true, false, List, [], ◌∷◌, ◌++◌, Option, Some, None, option_map, option_and_then}
use Rattle.ev_terms.specs.declared.types.Ty.{Ty}
use Rattle.ev_typing.specs.Env.{Env}
use Rattle.ev_unify.specs.declared.patterns.Pat.{Pat}
use Rattle.ev_unify.specs.declared.patterns.Pats.{Pats, Empty}
use Rattle.ev_unify.specs.declared.patterns.PatPair.{PatPair}
use Rattle.ev_unify.specs.Patterns.{more_pats}
use Rattle.ev_infer.specs.declared.sorts.Sort.{Sort}
use Rattle.ev_infer.specs.declared.sorts.Walked.{Walked}
use Rattle.ev_infer.specs.declared.sorts.NodePats.{NodePats}
use Rattle.ev_resolve.specs.Bare.{Bare}
use Rattle.ev_infer.specs.Equations.{Emitted, AllEmitted, NodeTypes, sort_of, meet, emit}

-- a list of patterns as the arguments of a symbol
abbrev pub pats : List Pat → Pats
pats [] = Empty
pats (p ∷ ps) = more_pats p (pats ps)

abbrev pub types_told : NodePats → NodeTypes
types_told n = record { types = pats n.types.items; next = n.next }

pub record Walk : Type 0 where
  pub pairs : List PatPair
  pub next : ℕ
  pub sort : Sort

pub record AllWalk : Type 0 where
  pub pairs : List PatPair
  pub next : ℕ

-- the walk of a term, its pairs behind those that were there
abbrev pub walk_of : List PatPair → Emitted → Walk
walk_of before e = record { pairs = before ++ e.pairs; next = e.next; sort = e.sort }

abbrev pub all_walk_of : List PatPair → AllEmitted → AllWalk
all_walk_of before e = record { pairs = before ++ e.pairs; next = e.next }

abbrev pub walk_told : List PatPair → Walked → Walk
walk_told pairs w = record { pairs = pairs; next = w.next; sort = w.sort }

abbrev pub all_walk_told : List PatPair → ℕ → AllWalk
all_walk_told pairs next = record { pairs = pairs; next = next }

-- the value, where the test holds
abbrev pub when : {X : Type 0} → Boolean → X → Option X
when true x = Some x
when false x = None

-- with the pairs that make the two sorts one
abbrev pub met_walk : List PatPair → Emitted → List PatPair → AllWalk
met_walk before e qs = record { pairs = before ++ (e.pairs ++ qs); next = e.next }

-- the walk of a child at the type that its symbol's signature has
abbrev pub child_walk : Env → Bare → Ty → Pats → List Pat → ℕ → List PatPair → Option AllWalk
child_walk env b A ps ctx k before =
    option_and_then (λ (e : Emitted). option_map (met_walk before e) (meet e.sort (sort_of ps A))) (emit env b ctx k)
