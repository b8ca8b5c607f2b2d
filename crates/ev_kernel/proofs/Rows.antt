-- Lists that end in one more item, and sequents that numbers name.
use Rattle.std.proofs.Common.{◌≡◌, ◌≤◌, ◌<◌, ℕ, zero, suc, List, [], ◌∷◌, ◌++◌, length, Some, None, refl, ap, subst, ◌∙◌, ◌⊎◌, inl, inr, arith, get_or}
use Rattle.std.proofs.lemmas.Option.{slice_get_cases}
use Rattle.std.specs.Prelude.{slice_get}
use Rattle.std.specs.List.{AllByRecursion}
use Rattle.ev_typing.specs.declared.typing.Sequent.{Sequent}
use Rattle.ev_typing.specs.Env.{Env}
use Rattle.ev_kernel.specs.declared.rules.BaseRule.{BaseRule}
use Rattle.ev_kernel.specs.declared.rules.BaseRule.TheVariants.{Hyp, Weak, Cut, Inst, TrueI, FalseE, NotI, NotE, AndI, AndE1, AndE2, OrI1, OrI2, OrE, ImpI, ImpE, IffI, IffE1, IffE2, AllI, AllE, ExI, ExE, Em, Refl, Sym as Symmetry, Trans, Cong, SetMem, BoolMem, Calc, Axiom, Des, Dis, Ind, Rec}
use Rattle.ev_kernel.specs.Row.{Row}
use Rattle.ev_kernel.specs.Derivable.{numbered, named}

pub nothing_one_more : {A : Type 0} (xs : List A) (x : A) → [] ≡ xs ++ x ∷ [] → ⊥
nothing_one_more [] x e = cc
nothing_one_more (y ∷ xs) x e = cc

pub ruleset one_more = (nothing_one_more)

-- A sequent that numbers name.
pub named_more : (Ss : List Sequent) (n : ℕ) (ns : List ℕ) → 1 ≤ n → n ≤ length Ss → (S : Sequent) × (named Ss (n ∷ ns) ≡ S ∷ named Ss ns)
named_more Ss zero ns h le = absurd (omega arith)
named_more Ss (suc i) ns h le = at (slice_get_cases Ss i).1
  where
    at : ((x : Sequent) × (i < length Ss) × (slice_get Ss i ≡ Some x) × (get_or Ss i x ≡ x)) ⊎ ((length Ss ≤ i) × (slice_get Ss i ≡ None)) → (S : Sequent) × (named Ss (suc i ∷ ns) ≡ S ∷ named Ss ns)
    at (inl h) = (h.0, rw h.2 refl)
    at (inr h) = absurd (omega (arith, h.0))

pub ruleset named_base = (nothing_one_more)

-- No rule but congruence and induction has four premises.
row_of_four : (env : Env) (p q r s : Sequent) (ps : List Sequent) (rule : BaseRule) (S : Sequent) → (rule ≡ Cong → ⊥) → (rule ≡ Ind → ⊥) → Row env (p ∷ q ∷ r ∷ s ∷ ps) rule S → ⊥
row_of_four env p q r s ps Hyp S n m h = let e = h.0 in cc
row_of_four env p q r s ps Weak S n m h = let e = h.2 in cc
row_of_four env p q r s ps Cut S n m h = let e = h.1 in cc
row_of_four env p q r s ps (Inst As ts) S n m h = let e = h.1 in cc
row_of_four env p q r s ps TrueI S n m h = let e = h.premises_are in cc
row_of_four env p q r s ps FalseE S n m h = cc
row_of_four env p q r s ps NotI S n m h = let e = h.1.premises_are in cc
row_of_four env p q r s ps NotE S n m h = let e = h.1.premises_are in cc
row_of_four env p q r s ps AndI S n m h = let e = h.2.premises_are in cc
row_of_four env p q r s ps AndE1 S n m h = let e = h.1 in cc
row_of_four env p q r s ps AndE2 S n m h = let e = h.1 in cc
row_of_four env p q r s ps OrI1 S n m h = let e = h.2.premises_are in cc
row_of_four env p q r s ps OrI2 S n m h = let e = h.2.premises_are in cc
row_of_four env p q r s ps OrE S n m h = let e = h.2 in cc
row_of_four env p q r s ps ImpI S n m h = let e = h.2.premises_are in cc
row_of_four env p q r s ps ImpE S n m h = let e = h.1 in cc
row_of_four env p q r s ps IffI S n m h = let e = h.2.premises_are in cc
row_of_four env p q r s ps IffE1 S n m h = let e = h.1 in cc
row_of_four env p q r s ps IffE2 S n m h = let e = h.1 in cc
row_of_four env p q r s ps AllI S n m h = let e = h.2.premises_are in cc
row_of_four env p q r s ps (AllE t) S n m h = let e = h.3.premises_are in cc
row_of_four env p q r s ps (ExI t) S n m h = let e = h.3.premises_are in cc
row_of_four env p q r s ps ExE S n m h = let e = h.2 in cc
row_of_four env p q r s ps Em S n m h = let e = h.1.premises_are in cc
row_of_four env p q r s ps Refl S n m h = let e = h.2.premises_are in cc
row_of_four env p q r s ps Symmetry S n m h = let e = h.3.premises_are in cc
row_of_four env p q r s ps Trans S n m h = let e = h.4.premises_are in cc
row_of_four env p q r s ps Cong S n m h = n refl
row_of_four env p q r s ps SetMem S n m h = let e = h.3.premises_are in cc
row_of_four env p q r s ps BoolMem S n m h = let e = h.1.premises_are in cc
row_of_four env p q r s ps Calc S n m h = let e = h.0 in cc
row_of_four env p q r s ps (Axiom k) S n m h = let e = h.0 in cc
row_of_four env p q r s ps (Des con place) S n m h = let e = h.0 in cc
row_of_four env p q r s ps (Dis left right) S n m h = let e = h.0 in cc
row_of_four env p q r s ps Ind S n m h = m refl
row_of_four env p q r s ps (Rec op con) S n m h = let e = h.0 in cc

pub no_four : (env : Env) (Ss : List Sequent) (ns : List ℕ) (rule : BaseRule) (S : Sequent) → AllByRecursion (λ n. (1 ≤ n) × (n ≤ length Ss)) ns → 4 ≤ length ns
    → (rule ≡ Cong → ⊥) → (rule ≡ Ind → ⊥) → Row env (named Ss ns) rule S → ⊥
no_four env Ss [] rule S all h n m f = absurd (omega arith)
no_four env Ss (a ∷ []) rule S all h n m f = absurd (omega arith)
no_four env Ss (a ∷ b ∷ []) rule S all h n m f = absurd (omega arith)
no_four env Ss (a ∷ b ∷ c ∷ []) rule S all h n m f = absurd (omega arith)
no_four env Ss (a ∷ b ∷ c ∷ d ∷ ns) rule S all h n m f =
    let p = named_more Ss a (b ∷ c ∷ d ∷ ns) all.0.0 all.0.1 in
    let q = named_more Ss b (c ∷ d ∷ ns) all.1.0.0 all.1.0.1 in
    let r = named_more Ss c (d ∷ ns) all.1.1.0.0 all.1.1.0.1 in
    let s = named_more Ss d ns all.1.1.1.0.0 all.1.1.1.0.1 in
    row_of_four env p.0 q.0 r.0 s.0 (named Ss ns) rule S n m
    (subst (λ ps. Row env ps rule S) (p.1 ∙ ap (λ ps. p.0 ∷ ps) (q.1 ∙ ap (λ ps. q.0 ∷ ps) (r.1 ∙ ap (λ ps. r.0 ∷ ps) s.1))) f)

-- no number names nothing
pub named_none : (Ss : List Sequent) (ns : List ℕ) → length ns < 1 → named Ss ns ≡ []
named_none Ss [] l = refl
named_none Ss (n ∷ ns) l = absurd (omega (arith, l))

-- the sequent that the only number names
pub named_one : (Ss : List Sequent) (ns : List ℕ) (p : Sequent) → 1 ≤ length ns → length ns < 2 → numbered Ss (get_or ns 0 0) ≡ Some p → named Ss ns ≡ p ∷ []
named_one Ss [] p l m e = absurd (omega arith)
named_one Ss (n ∷ []) p l m e = rw e refl
named_one Ss (n ∷ k ∷ ns) p l m e = absurd (omega (arith, m))
