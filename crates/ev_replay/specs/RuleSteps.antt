-- The proof steps by base rules: the step fits the goal sequent S and gives these subgoals, which are the premises of the rule. `S ⊢ P` is
-- S with the goal P, `S ▹ P` is S with the hypothesis P added. The rules are read over all symbols, direct operators included.
use Rattle.std.specs.Prelude.{◌≡◌, List, [], ◌∷◌, Some}
use Rattle.std.specs.List.{AllZip}
use Rattle.ev_terms.specs.declared.types.Ty.{Ty}
use Rattle.ev_terms.specs.Term.{Term}
use Rattle.ev_terms.specs.Substitution.{substitute}
use Rattle.ev_typing.specs.declared.typing.Sequent.{Sequent}
use Rattle.ev_typing.specs.Env.{Env, Name}
use Rattle.ev_typing.specs.Sequents.{◌⊢◌, ◌▹◌}
use Rattle.ev_typing.specs.BaseSequents.{under}
use Rattle.ev_forms.specs.Forms.{falsity, neg, conj, disj, imp, iff, forall, exists, equation}
use Rattle.ev_kernel.specs.Row.{Row}
use Rattle.ev_kernel.specs.Derivable.{numbered}
use Rattle.ev_kernel.specs.declared.rules.BaseRule.TheVariants as rule
use Rattle.ev_proof.specs.declared.steps.Step.{Step}
use Rattle.ev_proof.specs.declared.steps.Step.TheVariants.{Hyp, TrueI, Em, Refl, SetMem, BoolMem, Calc, Weak, Cut, FalseE, NotI, AndI, OrI1, OrI2, ImpI, IffI, AllI, Sym, Cong, Note, AndE1, AndE2, OrE, ImpE, IffE1, IffE2, AllE, ExI, ExE, Trans, Induct}
use Rattle.ev_replay.specs.Reading.{ReadsFormula, ReadsTerm}

module _ (env : Env) (params : List Name) where
  -- the step is one by a base rule, fits the goal sequent S and gives these subgoals
  abbrev pub GivesByRule : Sequent → Step → List Sequent → Type 0
  GivesByRule S Hyp gs = Row env gs rule.Hyp S
  GivesByRule S TrueI gs = Row env gs rule.TrueI S
  GivesByRule S Em gs = Row env gs rule.Em S
  GivesByRule S Refl gs = Row env gs rule.Refl S
  GivesByRule S SetMem gs = Row env gs rule.SetMem S
  GivesByRule S BoolMem gs = Row env gs rule.BoolMem S
  GivesByRule S Calc gs = Row env gs rule.Calc S
  GivesByRule S (Weak ns) gs = (H : List Term) × AllZip (λ n P. numbered S.hyps n ≡ Some P) ns H × (gs ≡ record { context = S.context; hyps = H; goal = S.goal } ∷ [])
  GivesByRule S (Cut raw) gs = (P : Term) × ReadsFormula env params S raw P × (gs ≡ (S ⊢ P) ∷ (S ▹ P) ∷ [])
  GivesByRule S FalseE gs = Row env gs rule.FalseE S
  GivesByRule S NotI gs = Row env gs rule.NotI S
  GivesByRule S AndI gs = Row env gs rule.AndI S
  GivesByRule S OrI1 gs = Row env gs rule.OrI1 S
  GivesByRule S OrI2 gs = Row env gs rule.OrI2 S
  GivesByRule S ImpI gs = Row env gs rule.ImpI S
  GivesByRule S IffI gs = Row env gs rule.IffI S
  GivesByRule S AllI gs = Row env gs rule.AllI S
  GivesByRule S Sym gs = Row env gs rule.Sym S
  GivesByRule S Cong gs = Row env gs rule.Cong S
  GivesByRule S (Note raw) gs = (P : Term) × ReadsFormula env params S raw P × (S.goal ≡ falsity) × (gs ≡ (S ⊢ P) ∷ (S ⊢ neg P) ∷ [])
  GivesByRule S (AndE1 raw) gs = (Q : Term) × ReadsFormula env params S raw Q × (gs ≡ (S ⊢ conj S.goal Q) ∷ [])
  GivesByRule S (AndE2 raw) gs = (P : Term) × ReadsFormula env params S raw P × (gs ≡ (S ⊢ conj P S.goal) ∷ [])
  GivesByRule S (OrE raw) gs = (P Q : Term) × ReadsFormula env params S raw (disj P Q) × (gs ≡ (S ⊢ disj P Q) ∷ (S ▹ P) ∷ (S ▹ Q) ∷ [])
  GivesByRule S (ImpE raw) gs = (P : Term) × ReadsFormula env params S raw P × (gs ≡ (S ⊢ imp P S.goal) ∷ (S ⊢ P) ∷ [])
  GivesByRule S (IffE1 raw) gs = (P : Term) × ReadsFormula env params S raw P × (gs ≡ (S ⊢ iff P S.goal) ∷ (S ⊢ P) ∷ [])
  GivesByRule S (IffE2 raw) gs = (Q : Term) × ReadsFormula env params S raw Q × (gs ≡ (S ⊢ iff S.goal Q) ∷ (S ⊢ Q) ∷ [])
  GivesByRule S (AllE raw raw') gs = (A : Ty) × (Q t : Term) × ReadsFormula env params S raw (forall A Q) × ReadsTerm env params S A raw' t × (S.goal ≡ substitute Q (t ∷ [])) × (gs ≡ (S ⊢ forall A Q) ∷ [])
  GivesByRule S (ExI raw) gs = (A : Ty) × (Q t : Term) × (S.goal ≡ exists A Q) × ReadsTerm env params S A raw t × (gs ≡ (S ⊢ substitute Q (t ∷ [])) ∷ [])
  GivesByRule S (ExE raw) gs = (A : Ty) × (Q : Term) × ReadsFormula env params S raw (exists A Q) × (gs ≡ (S ⊢ exists A Q) ∷ (under S A ▹ Q) ∷ [])
  GivesByRule S (Trans raw) gs = (A : Ty) × (a b t : Term) × (S.goal ≡ equation A a b) × ReadsTerm env params S A raw t × (gs ≡ (S ⊢ equation A a t) ∷ (S ⊢ equation A t b) ∷ [])
  GivesByRule S Induct gs = Row env gs rule.Ind S
  GivesByRule S _ gs = ⊥
