-- The steps that build a row, on a stack of terms whose first one is the last that was put there.
use Rattle.std.specs.Prelude.{◌≡◌, ℕ, List, [], ◌∷◌, Option, Some, None}
use Rattle.std.specs.Option.{option_and_then}
use Rattle.ev_terms.specs.declared.types.Ty.{Ty, Int, Bool, Param}
use Rattle.ev_terms.specs.declared.types.Tys.{Tys, Empty}
use Rattle.ev_terms.specs.declared.types.Sym.TheVariants.{Base}
use Rattle.ev_terms.specs.Types.{pow, prod, more}
use Rattle.ev_terms.specs.Term.{Term, var, lit, node, nil, cons}
use Rattle.ev_axioms.specs.declared.steps.Step.{Step}
use Rattle.ev_axioms.specs.declared.steps.Step.TheVariants as step
use Rattle.ev_axioms.specs.declared.steps.Args.{Args}
use Rattle.ev_axioms.specs.declared.steps.Args.TheVariants as args

abbrev α : Ty
α = Param 0

abbrev β : Ty
β = Param 1

abbrev γ : Ty
γ = Param 2

abbrev at1 : Ty → Tys
at1 A = more A Empty

abbrev at2 : Ty → Ty → Tys
at2 A B = more A (more B Empty)

-- the type arguments that a word stands for
abbrev pub types_of : Args → Tys
types_of args.NoType = Empty
types_of args.A = at1 α
types_of args.B = at1 β
types_of args.C = at1 γ
types_of args.Int = at1 Int
types_of args.Bool = at1 Bool
types_of args.SetA = at1 (pow α)
types_of args.SetB = at1 (pow β)
types_of args.SetInt = at1 (pow Int)
types_of args.SetSetA = at1 (pow (pow α))
types_of args.PairAB = at1 (prod α β)
types_of args.PairBA = at1 (prod β α)
types_of args.PairAC = at1 (prod α γ)
types_of args.PairBC = at1 (prod β γ)
types_of args.PairAA = at1 (prod α α)
types_of args.PairABA = at1 (prod (prod α β) α)
types_of args.PairABB = at1 (prod (prod α β) β)
types_of args.RelationAB = at1 (pow (prod α β))
types_of args.RelationBC = at1 (pow (prod β γ))
types_of args.AB = at2 α β
types_of args.BA = at2 β α
types_of args.AC = at2 α γ
types_of args.BC = at2 β γ
types_of args.AA = at2 α α
types_of args.ABC = more α (at2 β γ)
types_of args.FirstOf = at2 (prod α β) α
types_of args.SecondOf = at2 (prod α β) β

-- the stack after a step: none where it has too few terms
abbrev pub stepped : Step → List Term → Option (List Term)
stepped (step.Var i) ts = Some (var i ∷ ts)
stepped (step.Lit n) ts = Some (lit n ∷ ts)
stepped (step.Leaf k a) ts = Some (node (Base k) (types_of a) nil ∷ ts)
stepped (step.One k a) [] = None
stepped (step.One k a) (t ∷ ts) = Some (node (Base k) (types_of a) (cons t nil) ∷ ts)
stepped (step.Two k a) [] = None
stepped (step.Two k a) (u ∷ []) = None
stepped (step.Two k a) (u ∷ t ∷ ts) = Some (node (Base k) (types_of a) (cons t (cons u nil)) ∷ ts)

-- the only term of a stack
abbrev pub only : List Term → Option Term
only [] = None
only (t ∷ []) = Some t
only (t ∷ u ∷ ts) = None

-- what the steps build on the stack
abbrev pub built : List Step → List Term → Option Term
built [] ts = only ts
built (s ∷ ss) ts = option_and_then (built ss) (stepped s ts)
