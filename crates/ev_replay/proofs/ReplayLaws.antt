-- What replays rest on.
use Rattle.std.specs.Prelude.{◌≡◌, ◌+◌, ◌<◌, ◌≤◌, ◌++◌, ◌↔◌, ℕ, List, [], ◌∷◌, Option, Some, None, IsSome, length, drop, reverse, option_to_list, refl}
use Rattle.std.proofs.Common.{ap, sym, ◌∙◌, subst, arith, false, true, get_or}
use Rattle.std.proofs.lemmas.List.{reverse-append, length-reverse}
use Rattle.ev_terms.specs.Term.{Term}
use Rattle.ev_typing.specs.declared.typing.Sequent.{Sequent}
use Rattle.ev_typing.proofs.Names.{drop_at, drop_all}
use Rattle.ev_proof.specs.declared.steps.Step.{Step}
use Rattle.ev_replay.specs.declared.scopes.Scope.{Scope}
use Rattle.ev_replay.specs.declared.steps.Applied.TheVariants.{Goals, Left, Refused}
use Rattle.ev_replay.specs.declared.steps.Outcome.{Outcome}
use Rattle.ev_replay.specs.declared.steps.Outcome.TheVariants.{Broken}
use Rattle.ev_replay.specs.Steps.{Applies}
use Rattle.ev_replay.specs.Replay.{Trace, Replays, ReplaysFrom, no_trace, one_step, traced, outcome_with}
use Rattle.ev_replay.specs.inner.Replaying.{Advances}

-- a replay of the lines from number n on, where so many steps are applied
abbrev pub Ends : Scope → ℕ → ℕ → List Sequent → List (Option Step) → ℕ → Outcome → Type 0
Ends cs n k goals lines count o = (t : Trace) × ReplaysFrom cs n k goals lines t o × (t.applied ≡ count)

pub ends_whole : (cs : Scope) (n k : ℕ) (goals : List Sequent) (lines : List (Option Step)) → lines ≡ [] → Ends cs n k goals lines 0 (outcome_with (k + length goals))
ends_whole cs n k goals lines e = subst (λ ls. Ends cs n k goals ls 0 (outcome_with (k + length goals))) (sym e) (no_trace, (refl, refl), refl)

pub ends_no_step : (cs : Scope) (n k : ℕ) (goals : List Sequent) (lines rest : List (Option Step)) → lines ≡ None ∷ rest → Ends cs n k goals lines 0 (Broken n)
ends_no_step cs n k goals lines rest e = subst (λ ls. Ends cs n k goals ls 0 (Broken n)) (sym e) (no_trace, (refl, refl), refl)

pub ends_no_goal : (cs : Scope) (n k : ℕ) (goals : List Sequent) (lines rest : List (Option Step)) (step : Step) → goals ≡ [] → lines ≡ Some step ∷ rest → Ends cs n k goals lines 0 (Broken n)
ends_no_goal cs n k goals lines rest step f e =
    subst (λ gs. Ends cs n k gs lines 0 (Broken n)) (sym f) (subst (λ ls. Ends cs n k [] ls 0 (Broken n)) (sym e) (no_trace, (refl, refl), refl))

pub ends_refused : (cs : Scope) (n k : ℕ) (S : Sequent) (behind goals : List Sequent) (lines rest : List (Option Step)) (step : Step) → goals ≡ S ∷ behind → lines ≡ Some step ∷ rest
    → (used : List Term) × Applies cs S step Refused used → Ends cs n k goals lines 1 (Broken n)
ends_refused cs n k S behind goals lines rest step f e a =
    subst (λ gs. Ends cs n k gs lines 1 (Broken n)) (sym f)
    (subst (λ ls. Ends cs n k (S ∷ behind) ls 1 (Broken n)) (sym e) (one_step, (Refused, a.0, a.1, (refl, refl)), refl))

pub ends_next : (cs : Scope) (n k k' : ℕ) (S : Sequent) (behind goals goals' : List Sequent) (lines rest : List (Option Step)) (step : Step) (count : ℕ) (o : Outcome) → goals ≡ S ∷ behind
    → lines ≡ Some step ∷ rest → Advances cs k behind S step k' goals' → Ends cs (n + 1) k' goals' rest count o → Ends cs n k goals lines (1 + count) o
ends_next cs n k k' S behind goals goals' lines rest step count o f e a h =
    subst (λ gs. Ends cs n k gs lines (1 + count) o) (sym f) (subst (λ ls. Ends cs n k (S ∷ behind) ls (1 + count) o) (sym e) (by a))
  where
    by : Advances cs k behind S step k' goals' → Ends cs n k (S ∷ behind) (Some step ∷ rest) (1 + count) o
    by (Goals gs, used, b, (p, q)) =
        (traced gs used h.0, (Goals gs, used, b, (h.0, subst (λ m. ReplaysFrom cs (n + 1) m (gs ++ behind) rest h.0 o) p (subst (λ xs. ReplaysFrom cs (n + 1) k' xs rest h.0 o) q h.1), refl)), ap (λ m. 1 + m) h.2)
    by (Left, used, b, (p, q)) =
        (traced [] [] h.0, (Left, used, b, (h.0, subst (λ m. ReplaysFrom cs (n + 1) m behind rest h.0 o) p (subst (λ xs. ReplaysFrom cs (n + 1) k' xs rest h.0 o) q h.1), refl)), ap (λ m. 1 + m) h.2)
    by (Refused, used, b, l) = absurd l

-- The stack, whose last sequent is the first goal.
pub pushed : {X : Type 0} (xs : List X) (x : X) → reverse (xs ++ x ∷ []) ≡ x ∷ reverse xs
pushed xs x = reverse-append xs (x ∷ [])

pub emptied : {X : Type 0} (old : List X) (n : ℕ) (o : Option X) → length old ≡ n → (IsSome o ↔ (0 < n)) → ((x : X) → o ≡ Some x → ⊥) → old ≡ []
emptied [] n o e v no-some = refl
emptied {X} (x ∷ xs) n None e v no-some = (let f : false ≡ true = v.1 (omega (arith, e)) in absurd (cc))
emptied (x ∷ xs) n (Some y) e v no-some = absurd (no-some y refl)

pub popped : {X : Type 0} (old new : List X) (o : Option X) (x : X) → old ≡ new ++ option_to_list o → o ≡ Some x → reverse old ≡ x ∷ reverse new
popped old new o x e s = ap reverse (e ∙ ap (λ q. new ++ option_to_list q) s) ∙ pushed new x

-- the lines from one on
pub lines_next : (lines : List (Option Step)) (i : ℕ) (d : Option Step) → d ≡ get_or lines i d → i < length lines → drop i lines ≡ d ∷ drop (i + 1) lines
lines_next lines i d e h = drop_at lines i d e h

-- what is counted in the end
pub finished : (cs : Scope) (S : Sequent) (lines : List (Option Step)) (o : Outcome) (old now new count : ℕ)
    → (whole : ℕ) × Ends cs 1 0 (S ∷ []) lines whole o × (old + whole ≡ now + count) → new ≡ now + count → (t : Trace) × Replays cs S lines t o × (new ≡ old + t.applied)
finished cs S lines o old now new count (whole, (t, r, a), e) f = (t, r, f ∙ sym e ∙ ap (λ m. old + m) (sym a))

-- one goal on an empty stack
pub begun : (cs : Scope) (S first : Sequent) (empty items : List Sequent) (lines : List (Option Step)) (steps : ℕ) → empty ≡ [] → items ≡ empty ++ first ∷ [] → first ≡ S
    → (count : ℕ) (o : Outcome) → Ends cs 1 0 (reverse items) lines count o → (whole : ℕ) × Ends cs 1 0 (S ∷ []) lines whole o × (steps + whole ≡ steps + count)
begun cs S first empty items lines steps e f g count o h =
    let same : reverse items ≡ S ∷ [] = ap reverse (f ∙ ap (λ xs. xs ++ first ∷ []) e) ∙ ap (λ x. x ∷ []) g in
    (count, subst (λ gs. Ends cs 1 0 gs lines count o) same h, refl)

-- no line is left
pub ended : (cs : Scope) (n k a b i : ℕ) (items : List Sequent) (lines : List (Option Step)) (o : Outcome) → length lines ≤ i → o ≡ outcome_with (a + b) → a ≡ k → b ≡ length items
    → Ends cs n k (reverse items) (drop i lines) 0 o
ended cs n k a b i items lines o h e f g =
    let total : a + b ≡ k + length (reverse items) = ap (λ x. x + b) f ∙ ap (λ x. k + x) (g ∙ sym (length-reverse items)) in
    subst (λ r. Ends cs n k (reverse items) (drop i lines) 0 r) (sym (e ∙ ap outcome_with total)) (ends_whole cs n k (reverse items) (drop i lines) (drop_all lines i h))

-- the count behind a step that was applied
pub counted_on : (old now new count : ℕ) (cs : Scope) (S : Sequent) (lines : List (Option Step)) (o : Outcome) → new ≡ now + 1
    → (whole : ℕ) × Ends cs 1 0 (S ∷ []) lines whole o × (old + whole ≡ now + (1 + count)) → (whole : ℕ) × Ends cs 1 0 (S ∷ []) lines whole o × (old + whole ≡ new + count)
counted_on old now new count cs S lines o e (whole, h, f) = (whole, h, omega (arith, e, f))
