-- What replays rest on.
use Rattle.std.proofs.Common.{Result, Ok, Err, ◌≡◌, ◌+◌, ◌<◌, ◌↔◌, true, false, ℕ, zero, suc, get_or, List, [], ◌∷◌, ◌++◌, Option, Some, None, IsSome, length, drop, option_to_list, reverse, refl, ap, subst, sym, ◌∙◌, arith, inl, inr}
use Rattle.std.proofs.Math.Seq.{drop-cons}
use Rattle.std.proofs.lemmas.List.{reverse-append}
use Rattle.std.specs.List.{AllByRecursion}
use Rattle.std.specs.Prelude.{IfOk, IfSome}
use Rattle.ev_forms.specs.declared.connectives.Connective.TheVariants.{And, Or, Implies}
use Rattle.ev_forms.specs.Connectives.{joined}
use Rattle.ev_terms.specs.Term.{Term}
use Rattle.ev_typing.specs.declared.typing.Entry.{Entry}
use Rattle.ev_typing.specs.declared.typing.Sequent.{Sequent}
use Rattle.ev_typing.specs.Sequents.{◌⊢◌, ◌▹◌, IsWithin}
use Rattle.ev_forms.specs.Forms.{conj, disj, imp}
use Rattle.ev_kernel.specs.declared.rules.BaseRule.{BaseRule}
use Rattle.ev_kernel.specs.declared.rules.BaseRule.TheVariants as rule
use Rattle.ev_kernel.specs.Row.{Row}
use Rattle.ev_typing.specs.BaseSequents.{IsBaseSequent}
use Rattle.ev_kernel.specs.Derivable.{Follows, Derivable, AreDerivable, derived, none, more}
use Rattle.theory.specs.declared.steps.Step.{Step}
use Rattle.theory.specs.declared.steps.Step.TheVariants.{Hyp, TrueI, AndI, OrI1, OrI2, ImpI, Open}
use Rattle.theory.specs.declared.steps.Applied.TheVariants.{Goals, Left, Refused}
use Rattle.theory.specs.declared.steps.Outcome.{Outcome}
use Rattle.theory.specs.declared.steps.Outcome.TheVariants.{Complete, Broken}
use Rattle.theory.specs.Formulas.{size_limit}
use Rattle.theory.specs.Steps.{rule_of, ReadsUp, GivesGoals, Applies, Advances, ReplaysFrom, Replays, outcome_with, depth_limit}
use Rattle.theory.proofs.TypedLaws.{all_append, both_base, one_side_base, assumed_base}

-- What each step gives.
reads_closed : (env : List Entry) (S : Sequent) (step : Step) (r : BaseRule) (gs : List Sequent) → (gs ≡ []) × Row env [] r S → rule_of step ≡ Some r → ReadsUp env S step gs
reads_closed env S step r gs h e = (r, e, subst (λ x. Row env x r S) (sym h.0) h.1)

reads_both : (env : List Entry) (S : Sequent) (step : Step) (P Q : Term) (gs : List Sequent) → S.goal ≡ joined And P Q → gs ≡ (S ⊢ P) ∷ (S ⊢ Q) ∷ [] → step ≡ AndI → ReadsUp env S step gs
reads_both env S step P Q gs e f g = (rule.AndI, ap rule_of g, (P, Q, record { concludes = e; premises_are = f }))

reads_left : (env : List Entry) (S : Sequent) (step : Step) (P Q : Term) (gs : List Sequent) → S.goal ≡ joined Or P Q → gs ≡ (S ⊢ P) ∷ [] → step ≡ OrI1 → ReadsUp env S step gs
reads_left env S step P Q gs e f g = (rule.OrI1, ap rule_of g, (P, Q, record { concludes = e; premises_are = f }))

reads_right : (env : List Entry) (S : Sequent) (step : Step) (P Q : Term) (gs : List Sequent) → S.goal ≡ joined Or P Q → gs ≡ (S ⊢ Q) ∷ [] → step ≡ OrI2 → ReadsUp env S step gs
reads_right env S step P Q gs e f g = (rule.OrI2, ap rule_of g, (P, Q, record { concludes = e; premises_are = f }))

reads_assumed : (env : List Entry) (S : Sequent) (step : Step) (P Q : Term) (gs : List Sequent) → S.goal ≡ joined Implies P Q → gs ≡ (S ▹ P ⊢ Q) ∷ [] → step ≡ ImpI → ReadsUp env S step gs
reads_assumed env S step P Q gs e f g = (rule.ImpI, ap rule_of g, (P, Q, record { concludes = e; premises_are = f }))

-- what an answer says of the list in it
in_answer : {E : Type 0} (r : Result (Option (List Sequent)) E) (R T : List Sequent → Type 0) → IfOk r (λ o. IfSome o R) → ((gs : List Sequent) → R gs → T gs) → IfOk r (λ o. IfSome o T)
in_answer (Ok (Some gs)) R T h f = f gs h
in_answer (Ok None) R T h f = h
in_answer (Err e) R T h f = h

pub closed_answer : {E : Type 0} (env : List Entry) (S : Sequent) (step : Step) (r : BaseRule) (a : Result (Option (List Sequent)) E)
    → IfOk a (λ o. IfSome o (λ gs. (gs ≡ []) × Row env [] r S)) → rule_of step ≡ Some r → IfOk a (λ o. IfSome o (λ gs. ReadsUp env S step gs))
closed_answer env S step r a h e = in_answer a (λ gs. (gs ≡ []) × Row env [] r S) (ReadsUp env S step) h (λ gs g. reads_closed env S step r gs g e)

only_answer : {E : Type 0} (a : Result (Option (List Sequent)) E) (gs : List Sequent) (T : List Sequent → Type 0) → IfOk a (λ o. o ≡ Some gs) → T gs → IfOk a (λ o. IfSome o T)
only_answer (Ok o) gs T h t = subst (λ x. IfSome x T) (sym h) t
only_answer (Err e) gs T h t = h

pub left_answer : {E : Type 0} (env : List Entry) (S : Sequent) (step : Step) (P Q : Term) (g : Sequent) (a : Result (Option (List Sequent)) E)
    → IfOk a (λ o. o ≡ Some (g ∷ [])) → S.goal ≡ joined Or P Q → g ≡ (S ⊢ P) → step ≡ OrI1 → IfOk a (λ o. IfSome o (λ gs. ReadsUp env S step gs))
left_answer env S step P Q g a h e f s = only_answer a (g ∷ []) (ReadsUp env S step) h (reads_left env S step P Q (g ∷ []) e (ap (λ x. x ∷ []) f) s)

pub right_answer : {E : Type 0} (env : List Entry) (S : Sequent) (step : Step) (P Q : Term) (g : Sequent) (a : Result (Option (List Sequent)) E)
    → IfOk a (λ o. o ≡ Some (g ∷ [])) → S.goal ≡ joined Or P Q → g ≡ (S ⊢ Q) → step ≡ OrI2 → IfOk a (λ o. IfSome o (λ gs. ReadsUp env S step gs))
right_answer env S step P Q g a h e f s = only_answer a (g ∷ []) (ReadsUp env S step) h (reads_right env S step P Q (g ∷ []) e (ap (λ x. x ∷ []) f) s)

pub assumed_answer : {E : Type 0} (env : List Entry) (S : Sequent) (step : Step) (P Q : Term) (g : Sequent) (a : Result (Option (List Sequent)) E)
    → IfOk a (λ o. o ≡ Some (g ∷ [])) → S.goal ≡ joined Implies P Q → g ≡ (S ▹ P ⊢ Q) → step ≡ ImpI → IfOk a (λ o. IfSome o (λ gs. ReadsUp env S step gs))
assumed_answer env S step P Q g a h e f s = only_answer a (g ∷ []) (ReadsUp env S step) h (reads_assumed env S step P Q (g ∷ []) e (ap (λ x. x ∷ []) f) s)

pub both_pushed : (env : List Entry) (S : Sequent) (step : Step) (P Q : Term) (none' one two : List Sequent) (g h : Sequent) → none' ≡ [] → one ≡ none' ++ g ∷ [] → two ≡ one ++ h ∷ []
    → g ≡ (S ⊢ P) → h ≡ (S ⊢ Q) → S.goal ≡ joined And P Q → step ≡ AndI → ReadsUp env S step two
both_pushed env S step P Q none' one two g h a b c d e f s =
    reads_both env S step P Q two f (c ∙ ap (λ xs. xs ++ h ∷ []) (b ∙ ap (λ xs. xs ++ g ∷ []) a) ∙ ap (λ x. x ∷ h ∷ []) d ∙ ap (λ x. (S ⊢ P) ∷ x ∷ []) e) s

-- the row of a step's own rule
row_at : (env : List Entry) (gs : List Sequent) (r q : BaseRule) (S : Sequent) → Some r ≡ Some q → Row env gs q S → Row env gs r S
row_at env gs r q S e h = subst (λ x. Row env gs x S) (let same : q ≡ r = cc in same) h

-- a step has one list of subgoals for a goal
up_one : (env : List Entry) (S : Sequent) (step : Step) (gs hs : List Sequent) → ReadsUp env S step gs → ReadsUp env S step hs → gs ≡ hs
up_one env S Hyp gs hs (r, e, g) (q, f, h) = (row_at env gs rule.Hyp r S e g).0 ∙ sym (row_at env hs rule.Hyp q S f h).0
up_one env S TrueI gs hs (r, e, g) (q, f, h) = (row_at env gs rule.TrueI r S e g).premises_are ∙ sym (row_at env hs rule.TrueI q S f h).premises_are
up_one env S AndI gs hs (r, e, g) (q, f, h) =
    let (P, Q, g') = row_at env gs rule.AndI r S e g in
    let (P', Q', h') = row_at env hs rule.AndI q S f h in
    let same : conj P Q ≡ conj P' Q' = sym g'.concludes ∙ h'.concludes in
    let p : P ≡ P' = cc in
    let q' : Q ≡ Q' = cc in
    g'.premises_are ∙ ap (λ X. (S ⊢ X) ∷ (S ⊢ Q) ∷ []) p ∙ ap (λ X. (S ⊢ P') ∷ (S ⊢ X) ∷ []) q' ∙ sym h'.premises_are
up_one env S OrI1 gs hs (r, e, g) (q, f, h) =
    let (P, Q, g') = row_at env gs rule.OrI1 r S e g in
    let (P', Q', h') = row_at env hs rule.OrI1 q S f h in
    let same : disj P Q ≡ disj P' Q' = sym g'.concludes ∙ h'.concludes in
    let p : P ≡ P' = cc in
    g'.premises_are ∙ ap (λ X. (S ⊢ X) ∷ []) p ∙ sym h'.premises_are
up_one env S OrI2 gs hs (r, e, g) (q, f, h) =
    let (P, Q, g') = row_at env gs rule.OrI2 r S e g in
    let (P', Q', h') = row_at env hs rule.OrI2 q S f h in
    let same : disj P Q ≡ disj P' Q' = sym g'.concludes ∙ h'.concludes in
    let q' : Q ≡ Q' = cc in
    g'.premises_are ∙ ap (λ X. (S ⊢ X) ∷ []) q' ∙ sym h'.premises_are
up_one env S ImpI gs hs (r, e, g) (q, f, h) =
    let (P, Q, g') = row_at env gs rule.ImpI r S e g in
    let (P', Q', h') = row_at env hs rule.ImpI q S f h in
    let same : imp P Q ≡ imp P' Q' = sym g'.concludes ∙ h'.concludes in
    let p : P ≡ P' = cc in
    let q' : Q ≡ Q' = cc in
    g'.premises_are ∙ ap (λ X. (S ▹ X ⊢ Q) ∷ []) p ∙ ap (λ X. (S ▹ P' ⊢ X) ∷ []) q' ∙ sym h'.premises_are
up_one env S Open gs hs (r, e, g) (q, f, h) = absurd (let none : None ≡ Some r = e in cc)

-- the subgoals of a base sequent are such
subgoals_base : (env : List Entry) (S : Sequent) (step : Step) (gs : List Sequent) → IsBaseSequent env S → ReadsUp env S step gs → AllByRecursion (IsBaseSequent env) gs
subgoals_base env S Hyp gs b (r, e, g) = subst (AllByRecursion (IsBaseSequent env)) (sym (row_at env gs rule.Hyp r S e g).0) tt
subgoals_base env S TrueI gs b (r, e, g) = subst (AllByRecursion (IsBaseSequent env)) (sym (row_at env gs rule.TrueI r S e g).premises_are) tt
subgoals_base env S AndI gs b (r, e, g) =
    let (P, Q, g') = row_at env gs rule.AndI r S e g in
    subst (AllByRecursion (IsBaseSequent env)) (sym g'.premises_are) (both_base env S P Q b g'.concludes)
subgoals_base env S OrI1 gs b (r, e, g) =
    let (P, Q, g') = row_at env gs rule.OrI1 r S e g in
    subst (AllByRecursion (IsBaseSequent env)) (sym g'.premises_are) (one_side_base env S P Q b g'.concludes).0
subgoals_base env S OrI2 gs b (r, e, g) =
    let (P, Q, g') = row_at env gs rule.OrI2 r S e g in
    subst (AllByRecursion (IsBaseSequent env)) (sym g'.premises_are) (one_side_base env S P Q b g'.concludes).1
subgoals_base env S ImpI gs b (r, e, g) =
    let (P, Q, g') = row_at env gs rule.ImpI r S e g in
    subst (AllByRecursion (IsBaseSequent env)) (sym g'.premises_are) (assumed_base env S P Q b g'.concludes)
subgoals_base env S Open gs b (r, e, g) = absurd (let none : None ≡ Some r = e in cc)

-- subgoals past the limits
pub too_large : (env : List Entry) (S : Sequent) (step : Step) (gs : List Sequent) → ReadsUp env S step gs → (AllByRecursion (IsWithin size_limit depth_limit) gs → ⊥)
    → (hs : List Sequent) → GivesGoals env S step hs → ⊥
too_large env S step gs up large hs h = large (subst (AllByRecursion (IsWithin size_limit depth_limit)) (up_one env S step hs gs h.follows up) h.small)

pub none_up : (env : List Entry) (S : Sequent) (step : Step) → ((gs : List Sequent) → ReadsUp env S step gs → ⊥) → (hs : List Sequent) → GivesGoals env S step hs → ⊥
none_up env S step none' hs h = none' hs h.follows

-- the next step
pub steps_next : (steps : List Step) (i : ℕ) (d : Step) → i < length steps → drop i steps ≡ get_or steps i d ∷ drop (i + 1) steps
steps_next steps i d lt = let e : suc i ≡ i + 1 = omega arith in drop-cons steps i d lt ∙ ap (λ j. get_or steps i d ∷ drop j steps) e

pub no_goal : (env : List Entry) (n k : ℕ) (goals : List Sequent) (steps rest : List Step) (step : Step) → goals ≡ [] → steps ≡ step ∷ rest → ReplaysFrom env n k goals steps (Broken n)
no_goal env n k goals steps rest step e f = subst (λ gs. ReplaysFrom env n k gs steps (Broken n)) (sym e) (subst (λ ss. ReplaysFrom env n k [] ss (Broken n)) (sym f) refl)

pub refused_here : (env : List Entry) (n k : ℕ) (goal : Sequent) (behind goals : List Sequent) (steps rest : List Step) (step : Step) → goals ≡ goal ∷ behind → steps ≡ step ∷ rest
    → Applies env goal step Refused → ReplaysFrom env n k goals steps (Broken n)
refused_here env n k goal behind goals steps rest step e f a =
    subst (λ gs. ReplaysFrom env n k gs steps (Broken n)) (sym e) (subst (λ ss. ReplaysFrom env n k (goal ∷ behind) ss (Broken n)) (sym f) (inl (a, refl)))

pub goes_on : (env : List Entry) (n k k' : ℕ) (goal : Sequent) (behind goals goals' : List Sequent) (steps rest : List Step) (step : Step) (o : Outcome) → goals ≡ goal ∷ behind → steps ≡ step ∷ rest
    → Advances env k behind goal step k' goals' → ReplaysFrom env (n + 1) k' goals' rest o → ReplaysFrom env n k goals steps o
goes_on env n k k' goal behind goals goals' steps rest step o e f a h =
    subst (λ gs. ReplaysFrom env n k gs steps o) (sym e) (subst (λ ss. ReplaysFrom env n k (goal ∷ behind) ss o) (sym f) (inr (k', goals', a, h)))

-- Soundness: what a replay completes is derivable.
left_part : (env : List Entry) (gs hs : List Sequent) → AreDerivable env (gs ++ hs) → AreDerivable env gs × AreDerivable env hs
left_part env [] hs d = (none, d)
left_part env (g ∷ gs) hs (more _ _ d ds) = let h = left_part env gs hs ds in (more g gs d h.0, h.1)

outcome_complete : (k : ℕ) → Complete ≡ outcome_with k → k ≡ 0
outcome_complete zero e = refl
outcome_complete (suc k) e = cc

pub completed : (env : List Entry) (n k : ℕ) (goals : List Sequent) (steps : List Step) → AllByRecursion (IsBaseSequent env) goals → ReplaysFrom env n k goals steps Complete
    → (k ≡ 0) × AreDerivable env goals
completed env n k [] [] b h = (let e = outcome_complete (k + 0) h in omega arith, none)
completed env n k (g ∷ gs) [] b h = absurd (omega (arith, outcome_complete (k + length (g ∷ gs)) h))
completed env n k [] (s ∷ ss) b h = absurd (cc)
completed env n k (g ∷ gs) (s ∷ ss) b (inl (a, e)) = absurd (cc)
completed env n k (g ∷ gs) (s ∷ ss) b (inr (k', goals', (Goals subgoals, a, l), h)) =
    let up = subgoals_base env g s subgoals b.0 a.follows in
    let all = subst (AllByRecursion (IsBaseSequent env)) (sym l.1) (all_append (IsBaseSequent env) subgoals gs up b.1) in
    let ih = completed env (n + 1) k' goals' ss all h in
    let parts = left_part env subgoals gs (subst (AreDerivable env) l.1 ih.1) in
    let follows : Follows env subgoals a.follows.0 g = record { row = a.follows.2; conclusion = b.0; premises_base = up } in
    (sym l.0 ∙ ih.0, more g gs (derived subgoals a.follows.0 g follows parts.0) parts.1)
completed env n k (g ∷ gs) (s ∷ ss) b (inr (k', goals', (Left, a, l), h)) =
    let ih = completed env (n + 1) k' goals' ss (subst (AllByRecursion (IsBaseSequent env)) (sym l.1) b.1) h in absurd (omega (arith, ih.0, l.0))
completed env n k (g ∷ gs) (s ∷ ss) b (inr (k', goals', (Refused, a, l), h)) = absurd l

pub proved_derivable : (env : List Entry) (goal : Sequent) (steps : List Step) → IsBaseSequent env goal → Replays env goal steps Complete → Derivable env goal
proved_derivable env goal steps b h = only (completed env 1 0 (goal ∷ []) steps (b, tt) h).1
  where
    only : AreDerivable env (goal ∷ []) → Derivable env goal
    only (more _ _ d ds) = d

-- The stack, whose last sequent is the first goal.
pub pushed : {X : Type 0} (xs : List X) (x : X) → reverse (xs ++ x ∷ []) ≡ x ∷ reverse xs
pushed xs x = reverse-append xs (x ∷ [])

pub emptied : {X : Type 0} (old : List X) (n : ℕ) (o : Option X) → length old ≡ n → (IsSome o ↔ (0 < n)) → ((x : X) → o ≡ Some x → ⊥) → old ≡ []
emptied [] n o e v no-some = refl
emptied {X} (x ∷ xs) n None e v no-some = (let f : false ≡ true = v.1 (omega (arith, e)) in absurd (cc))
emptied (x ∷ xs) n (Some y) e v no-some = absurd (no-some y refl)

pub popped : {X : Type 0} (old new : List X) (o : Option X) (x : X) → old ≡ new ++ option_to_list o → o ≡ Some x → reverse old ≡ x ∷ reverse new
popped old new o x e s = ap reverse (e ∙ ap (λ q. new ++ option_to_list q) s) ∙ pushed new x
