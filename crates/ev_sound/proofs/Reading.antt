-- What steps read is typed, and the closed formulas that they cite.
use Rattle.std.specs.Prelude.{◌≡◌, ◌+◌, ℕ, zero, suc, Bool as Boolean, true, false, List, [], ◌∷◌, Some, length, option_map, if◌then◌else◌, ◌==◌, refl}
use Rattle.std.specs.List.{AllByRecursion}
use Rattle.std.proofs.Common.{ap, sym, ◌∙◌, subst as transport}
use Rattle.ev_terms.specs.declared.types.Ty.{Ty, Int, Bool, Prop, Param, Data}
use Rattle.ev_terms.specs.Types.{pow, prod, type_list}
use Rattle.ev_terms.specs.Term.{Term, terms}
use Rattle.ev_forms.specs.Forms.{forall, forall_all}
use Rattle.ev_syntax.specs.Raw.{Raw, RawType}
use Rattle.ev_typing.specs.declared.typing.Sequent.{Sequent}
use Rattle.ev_typing.specs.Env.{Env, Name}
use Rattle.ev_typing.specs.Parts.{base}
use Rattle.ev_typing.specs.Typing.{IsProper, Typed, AreTyped, IsSequent}
use Rattle.ev_typing.specs.Sequents.{◌⊢◌}
use Rattle.ev_resolve.specs.Reading.{context_type}
use Rattle.ev_infer.specs.Annotates.{variables_context}
use Rattle.ev_infer.specs.Answers.{variables}
use Rattle.ev_data.specs.Induction.{forall_parts}
use Rattle.ev_kernel.specs.Derivable.{Derivable}
use Rattle.ev_proof.specs.declared.steps.Cite.{Cite}
use Rattle.ev_rewrite.specs.Instances.{assigned}
use Rattle.ev_replay.specs.declared.scopes.Scope.{Scope}
use Rattle.ev_replay.specs.Reading.{context_vars, Reads, ReadEach, ReadTypes}
use Rattle.ev_replay.specs.Citing.{with_outer, leading, IsCitation}
use Rattle.ev_sound.proofs.Established.{IsEstablished}
use Rattle.ev_typing.specs.WellFormed.{IsWellFormed}
use Rattle.ev_congruence.proofs.Terms.{proper_list}
use Rattle.ev_sound.proofs.Rows.{U, US}
use Rattle.ev_sound.proofs.Places.{and_then_parts, map_parts}
use Rattle.ev_sound.proofs.Citing.{formula_cited}
use Rattle.ev_sound.proofs.Steps.{all_parts}

-- What is read is typed.
proper_variable : (env : Env) (A : Ty) → IsProper env A → context_type A ≡ A
proper_variable env Int p = refl
proper_variable env Bool p = refl
proper_variable env Prop p = absurd p
proper_variable env (Param i) p = refl
proper_variable env (pow A) p = refl
proper_variable env (prod A B) p = refl
proper_variable env (Data n As) p = refl

vars_context : (env : Env) (i : ℕ) (C : List Ty) → AllByRecursion (IsProper env) C → variables_context (variables (context_vars i C)) ≡ C
vars_context env i [] p = refl
vars_context env i (A ∷ C) p = let q = proper_variable env A p.0 in let r = vars_context env (i + 1) C p.1 in cc

pub reads_typed : (env : Env) (params : List Name) (C : List Ty) (A : Ty) (raw : Raw) (t : Term) → AllByRecursion (IsProper env) C → Reads env params C A raw t → Typed env C t A
reads_typed env params C A raw t p r = transport (λ D. Typed env D t A) (vars_context env 0 C p) r.only.0.has_expected

pub each_typed : (env : Env) (params : List Name) (C As : List Ty) (raws : List Raw) (ts : List Term) → AllByRecursion (IsProper env) C → ReadEach env params C As raws ts → AreTyped env C (terms ts) As
each_typed env params C [] [] [] p r = tt
each_typed env params C [] [] (t ∷ ts) p r = absurd r
each_typed env params C [] (raw ∷ raws) ts p r = absurd r
each_typed env params C (A ∷ As) [] ts p r = absurd r
each_typed env params C (A ∷ As) (raw ∷ raws) [] p r = absurd r
each_typed env params C (A ∷ As) (raw ∷ raws) (t ∷ ts) p r = (reads_typed env params C A raw t p r.0, each_typed env params C As raws ts p r.1)

pub types_proper : (env : Env) (params : List Name) (written : List RawType) (As : List Ty) → ReadTypes env params written As → AllByRecursion (IsProper env) As
types_proper env params [] [] r = tt
types_proper env params [] (A ∷ As) r = absurd r
types_proper env params (w ∷ ws) [] r = absurd r
types_proper env params (w ∷ ws) (A ∷ As) r = (r.0.proper, types_proper env params ws As r.1)

chosen_proper : (env : Env) (b : Boolean) (A B : Ty) → IsProper env A → IsProper env B → IsProper env (if b then A else B)
chosen_proper env true A B p q = p
chosen_proper env false A B p q = q

pub assigned_proper : (env : Env) (ids : List ℕ) (As : List Ty) → AllByRecursion (IsProper env) As → (i : ℕ) → IsProper env (assigned ids As i)
assigned_proper env [] As p i = tt
assigned_proper env (j ∷ ids) [] p i = tt
assigned_proper env (j ∷ ids) (A ∷ As) p i = chosen_proper env (j == i) A (assigned ids As i) p.0 (assigned_proper env ids As p.1 i)

quantifiers : (n : ℕ) (P : Term) (Bs : List Ty) (body : Term) → leading n P ≡ Some (Bs, body) → P ≡ forall_all Bs body
quantifiers zero P Bs body e = let h : ◌≡◌ {A = List Ty × Term} ([], P) (Bs, body) = cc in ap (λ (x : List Ty × Term). forall_all x.0 x.1) h
quantifiers (suc n) P Bs body e =
    let q = and_then_parts (λ (x : Ty × Term). option_map (with_outer x.0) (leading n x.1)) (forall_parts P) (Bs, body) e in
    let r = map_parts (with_outer q.0.0) (leading n q.0.1) (Bs, body) q.2 in
    all_parts P q.0.0 q.0.1 q.1 ∙ ap (forall q.0.0) (quantifiers n q.0.1 r.0.0 r.0.1 r.1) ∙ ap (λ (x : List Ty × Term). forall_all x.0 x.1) r.2

-- A closed formula that is cited.
pub cite_sound : (cs : Scope) → IsWellFormed cs.env → (S : Sequent) (ids : List ℕ) (P : Term) (cite : Cite) (F : Term) → IsSequent cs.env S → IsCitation cs (type_list S.context) ids P cite F S.goal → IsEstablished cs.env P →
    Derivable (base cs.env) (US cs.env S)
cite_sound cs u S ids P cite F h c e =
    transport (λ G. Derivable (base cs.env) (US cs.env S ⊢ U cs.env G)) (sym c.goal_is)
    (formula_cited cs.env u S P (assigned ids c.As) c.Bs c.body c.ts h e.typed (assigned_proper cs.env ids c.As (types_proper cs.env cs.params cite.types c.As c.types_read))
    (sym c.formula_is ∙ quantifiers (length cite.terms) F c.Bs c.body c.taken_off) (each_typed cs.env cs.params (type_list S.context) c.Bs cite.terms c.ts (proper_list cs.env S.context h.context) c.terms_read) e.derivable)
