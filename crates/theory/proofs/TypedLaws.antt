-- Formulas are predicates over the environment that declares nothing, and a step leads from typed goals to typed goals.
use Rattle.std.proofs.Common.{◌≡◌, ◌++◌, ℕ, zero, suc, List, [], ◌∷◌, Option, Some, None, refl, subst, sym, take}
use Rattle.std.proofs.lemmas.List.{append-nil}
use Rattle.std.specs.List.{AllByRecursion, AllZip}
use Rattle.ev_terms.specs.declared.types.Ty.{Ty, Prop}
use Rattle.ev_terms.specs.declared.types.Tys.{Empty}
use Rattle.ev_terms.specs.declared.types.Sym.{Sym}
use Rattle.ev_terms.specs.Types.{type_list}
use Rattle.ev_terms.specs.Symbols.{binds}
use Rattle.ev_terms.specs.Term.{Term}
use Rattle.ev_forms.specs.declared.connectives.Connective.{Connective}
use Rattle.ev_forms.specs.declared.connectives.Connective.TheVariants.{And, Or, Implies, Iff}
use Rattle.ev_typing.specs.declared.typing.Sequent.{Sequent}
use Rattle.ev_typing.specs.Env.{Env}
use Rattle.ev_forms.specs.Forms.{truth, falsity, neg, conj, disj, imp}
use Rattle.ev_forms.specs.Connectives.{joined}
use Rattle.ev_typing.specs.Typing.{Typed, IsPredicate, inside}
use Rattle.ev_typing.specs.Occurs.{IsPlain}
use Rattle.ev_typing.specs.Sequents.{◌⊢◌, ◌▹◌}
use Rattle.ev_typing.specs.BaseSequents.{IsBaseSequent}
use Rattle.theory.specs.declared.marks.Mark.{Mark}
use Rattle.theory.specs.Formulas.{Literal, is_true, is_false, is_negation, in_parens, Chain, ends, goes_on, Conjunction, chained, Predicate, alone, is_joined, IsFormula}
use Rattle.theory.specs.declared.theorems.Theorem.{Theorem}
use Rattle.theory.specs.declared.script.StoredProof.{StoredProof}
use Rattle.theory.specs.declared.script.Theory.{Theory}
use Rattle.theory.specs.declared.script.Script.{Script}
use Rattle.theory.specs.Words.{full_lines, lines_of}
use Rattle.theory.specs.Theorems.{IsTheorem}
use Rattle.theory.specs.Scripts.{AreScript, IsScript}
use Rattle.theory.specs.Reports.{closed}
use Rattle.theory.specs.inner.Reports.{HasPredicates}

-- a predicate without direct operators
record IsBasePredicate (env : Env) (C : List Ty) (P : Term) : Type 0 where
  typed : IsPredicate env C P
  plain : IsPlain env P

-- the children of a connective stand in its own context
same_context : (C : List Ty) (n : ℕ) → C ++ take n [] ≡ C
same_context C zero = append-nil C
same_context C (suc n) = append-nil C

in_context : (env : Env) (C : List Ty) (s : Sym) (P : Term) → Typed env C P Prop → Typed env (inside C s Empty) P Prop
in_context env C s P h = subst (λ D. Typed env D P Prop) (sym (same_context C (binds s))) h

out_of_context : (env : Env) (C : List Ty) (s : Sym) (P : Term) → Typed env (inside C s Empty) P Prop → Typed env C P Prop
out_of_context env C s P h = subst (λ D. Typed env D P Prop) (same_context C (binds s)) h

-- Predicates from their parts.
joined_base : (env : Env) (C : List Ty) (c : Connective) (P Q : Term) → IsBasePredicate env C P → IsBasePredicate env C Q → IsBasePredicate env C (joined c P Q)
joined_base env C And P Q p q = record { typed = record { count = refl; proper = tt; children = (in_context env C _ P p.typed, (in_context env C _ Q q.typed, tt)); result = refl }; plain = (refl, (p.plain, (q.plain, tt))) }
joined_base env C Or P Q p q = record { typed = record { count = refl; proper = tt; children = (in_context env C _ P p.typed, (in_context env C _ Q q.typed, tt)); result = refl }; plain = (refl, (p.plain, (q.plain, tt))) }
joined_base env C Implies P Q p q = record { typed = record { count = refl; proper = tt; children = (in_context env C _ P p.typed, (in_context env C _ Q q.typed, tt)); result = refl }; plain = (refl, (p.plain, (q.plain, tt))) }
joined_base env C Iff P Q p q = record { typed = record { count = refl; proper = tt; children = (in_context env C _ P p.typed, (in_context env C _ Q q.typed, tt)); result = refl }; plain = (refl, (p.plain, (q.plain, tt))) }

negated_base : (env : Env) (C : List Ty) (P : Term) → IsBasePredicate env C P → IsBasePredicate env C (neg P)
negated_base env C P p = record { typed = record { count = refl; proper = tt; children = (in_context env C _ P p.typed, tt); result = refl }; plain = (refl, (p.plain, tt)) }

truth_base : (env : Env) (C : List Ty) → IsBasePredicate env C truth
truth_base env C = record { typed = record { count = refl; proper = tt; children = tt; result = refl }; plain = (refl, tt) }

falsity_base : (env : Env) (C : List Ty) → IsBasePredicate env C falsity
falsity_base env C = record { typed = record { count = refl; proper = tt; children = tt; result = refl }; plain = (refl, tt) }

-- What reads as a formula is a predicate.
mutual
  literal_base : (P : Term) (ts rest : List Mark) → Literal P ts rest → IsBasePredicate [] [] P
  literal_base P ts rest (is_true _ _ _ e p) = subst (IsBasePredicate [] []) (sym p) (truth_base [] [])
  literal_base P ts rest (is_false _ _ _ e p) = subst (IsBasePredicate [] []) (sym p) (falsity_base [] [])
  literal_base P ts rest (is_negation _ Q _ us _ e l p) = subst (IsBasePredicate [] []) (sym p) (negated_base [] [] Q (literal_base Q us rest l))
  literal_base P ts rest (in_parens _ _ us _ e p) = predicate_base P us _ p

  chain_base : (c : Connective) (P R : Term) (ts rest : List Mark) → Chain c P ts R rest → IsBasePredicate [] [] P → IsBasePredicate [] [] R
  chain_base c P R ts rest (ends _ _ _ _ _ e f) p = subst (IsBasePredicate [] []) (sym e) p
  chain_base c P R ts rest (goes_on _ _ Q _ _ us vs _ e l k) p = chain_base c (joined c P Q) R vs rest k (joined_base [] [] c P Q p (literal_base Q us vs l))

  conjunction_base : (P : Term) (ts rest : List Mark) → Conjunction P ts rest → IsBasePredicate [] [] P
  conjunction_base R ts rest (chained c P _ _ us _ i l k) = chain_base c P R us rest k (literal_base P ts us l)

  predicate_base : (P : Term) (ts rest : List Mark) → Predicate P ts rest → IsBasePredicate [] [] P
  predicate_base P ts rest (alone _ _ _ k) = conjunction_base P ts rest k
  predicate_base R ts rest (is_joined c P Q _ _ us vs _ i k e l p) =
      subst (IsBasePredicate [] []) (sym p) (joined_base [] [] c P Q (conjunction_base P ts us k) (conjunction_base Q vs rest l))

formula_base : (text : List ℕ) (P : Term) → IsFormula text P → IsBaseSequent [] (closed P)
formula_base text P f =
    let p = predicate_base P f.marks [] f.reads in
    record { typed = record { context = tt; hyps = tt; goal = p.typed }; plain_hyps = tt; plain_goal = p.plain }

theorems_base : (lines : List (List ℕ)) (ts : List Theorem) → AllZip IsTheorem lines ts → AllByRecursion (λ (t : Theorem). IsBaseSequent [] (closed t.goal)) ts
theorems_base [] [] h = tt
theorems_base (line ∷ lines) [] h = tt
theorems_base [] (t ∷ ts) h = absurd h
theorems_base (line ∷ lines) (t ∷ ts) h = let (text, e, f) = h.0 in (formula_base text t.goal f, theorems_base lines ts h.1)

-- so are the theorems of a script
pub script_base : (bytes : List ℕ) (s : Script) → IsScript bytes s → HasPredicates s.theory
script_base bytes s h = at (lines_of bytes) s.theory s.proofs h
  where
    at : (lines : List (List ℕ)) (theory : Option Theory) (ps : List StoredProof) → AreScript lines theory ps → HasPredicates theory
    at lines None ps h = tt
    at lines (Some t) ps (u, after, e, is, h) = theorems_base (full_lines u.body) t.theorems is.1.0

-- The parts of a predicate.
left_base : (env : Env) (C : List Ty) (c : Connective) (P Q : Term) → IsBasePredicate env C (joined c P Q) → IsBasePredicate env C P
left_base env C And P Q h = record { typed = out_of_context env C _ P h.typed.children.0; plain = h.plain.1.0 }
left_base env C Or P Q h = record { typed = out_of_context env C _ P h.typed.children.0; plain = h.plain.1.0 }
left_base env C Implies P Q h = record { typed = out_of_context env C _ P h.typed.children.0; plain = h.plain.1.0 }
left_base env C Iff P Q h = record { typed = out_of_context env C _ P h.typed.children.0; plain = h.plain.1.0 }

right_base : (env : Env) (C : List Ty) (c : Connective) (P Q : Term) → IsBasePredicate env C (joined c P Q) → IsBasePredicate env C Q
right_base env C And P Q h = record { typed = out_of_context env C _ Q h.typed.children.1.0; plain = h.plain.1.1.0 }
right_base env C Or P Q h = record { typed = out_of_context env C _ Q h.typed.children.1.0; plain = h.plain.1.1.0 }
right_base env C Implies P Q h = record { typed = out_of_context env C _ Q h.typed.children.1.0; plain = h.plain.1.1.0 }
right_base env C Iff P Q h = record { typed = out_of_context env C _ Q h.typed.children.1.0; plain = h.plain.1.1.0 }

-- the predicate at the goal of a base sequent
goal_base : (env : Env) (S : Sequent) (P : Term) → IsBaseSequent env S → S.goal ≡ P → IsBasePredicate env (type_list S.context) P
goal_base env S P b e = subst (IsBasePredicate env (type_list S.context)) e (record { typed = b.typed.goal; plain = b.plain_goal })

-- the sequent with another goal
with_goal_base : (env : Env) (S : Sequent) (P : Term) → IsBaseSequent env S → IsBasePredicate env (type_list S.context) P → IsBaseSequent env (S ⊢ P)
with_goal_base env S P b p =
    record { typed = record { context = b.typed.context; hyps = b.typed.hyps; goal = p.typed }; plain_hyps = b.plain_hyps; plain_goal = p.plain }

all_more : (A : Term → Type 0) (xs : List Term) (x : Term) → AllByRecursion A xs → A x → AllByRecursion A (xs ++ x ∷ [])
all_more A [] x h a = (a, tt)
all_more A (y ∷ xs) x h a = (h.0, all_more A xs x h.1 a)

-- and one more hypothesis
assuming_base : (env : Env) (S : Sequent) (P : Term) → IsBaseSequent env S → IsBasePredicate env (type_list S.context) P → IsBaseSequent env (S ▹ P)
assuming_base env S P b p =
    record {
      typed = record { context = b.typed.context; hyps = all_more (IsPredicate env (type_list S.context)) S.hyps P b.typed.hyps p.typed; goal = b.typed.goal };
      plain_hyps = all_more (IsPlain env) S.hyps P b.plain_hyps p.plain;
      plain_goal = b.plain_goal;
    }

pub all_append : (A : Sequent → Type 0) (xs ys : List Sequent) → AllByRecursion A xs → AllByRecursion A ys → AllByRecursion A (xs ++ ys)
all_append A [] ys h k = k
all_append A (x ∷ xs) ys h k = (h.0, all_append A xs ys h.1 k)

-- Subgoals of the steps.
pub both_base : (env : Env) (S : Sequent) (P Q : Term) → IsBaseSequent env S → S.goal ≡ conj P Q → AllByRecursion (IsBaseSequent env) ((S ⊢ P) ∷ (S ⊢ Q) ∷ [])
both_base env S P Q b e =
    let h = goal_base env S (joined And P Q) b e in
    (with_goal_base env S P b (left_base env _ And P Q h), (with_goal_base env S Q b (right_base env _ And P Q h), tt))

pub one_side_base : (env : Env) (S : Sequent) (P Q : Term) → IsBaseSequent env S → S.goal ≡ disj P Q
    → AllByRecursion (IsBaseSequent env) ((S ⊢ P) ∷ []) × AllByRecursion (IsBaseSequent env) ((S ⊢ Q) ∷ [])
one_side_base env S P Q b e =
    let h = goal_base env S (joined Or P Q) b e in
    ((with_goal_base env S P b (left_base env _ Or P Q h), tt), (with_goal_base env S Q b (right_base env _ Or P Q h), tt))

pub assumed_base : (env : Env) (S : Sequent) (P Q : Term) → IsBaseSequent env S → S.goal ≡ imp P Q → AllByRecursion (IsBaseSequent env) ((S ▹ P ⊢ Q) ∷ [])
assumed_base env S P Q b e =
    let h = goal_base env S (joined Implies P Q) b e in
    (with_goal_base env (S ▹ P) Q (assuming_base env S P b (left_base env _ Implies P Q h)) (right_base env _ Implies P Q h), tt)
