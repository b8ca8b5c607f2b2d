-- The annotations of a raw tree are the solutions of its equations.
use Rattle.std.specs.Prelude.{◌≡◌, ℕ, Bool as Boolean, true, false, ◌++◌, List, [], ◌∷◌, map, reverse, Option, Some, None, IfSome, if◌then◌else◌, refl}
use Rattle.std.specs.List.{list_any}
use Rattle.std.proofs.Common.{ap, sym, ◌∙◌, subst as transport}
use Rattle.std.proofs.lemmas.List.{reverse-reverse, reverse-append}
use Rattle.std.proofs.lemmas.List.Folds.{Any-from_list_any, list_any-from_Any}
use Rattle.ev_terms.specs.declared.types.Ty.{Ty, Int as IntType, Bool as BoolType, Prop, Param as ParamType, Data as DataType}
use Rattle.ev_terms.specs.Types.{pow, prod}
use Rattle.ev_terms.specs.Term.{Term}
use Rattle.ev_terms.specs.Substitution.{type_inst, type_at}
use Rattle.ev_syntax.specs.Raw.{Raw}
use Rattle.ev_typing.specs.Env.{Env}
use Rattle.ev_typing.specs.Typing.{IsProper, Typed}
use Rattle.ev_typing.specs.Proper.{IsResult, is_result, HasProperSignatures}
use Rattle.ev_typing.proofs.Proper.{result_from_test, test_from_result}
use Rattle.ev_typing.proofs.Laws.{Typed-unique}
use Rattle.ev_unify.specs.declared.patterns.Pats.{Empty}
use Rattle.ev_unify.specs.Patterns.{value}
use Rattle.ev_unify.specs.Solutions.{Solves}
use Rattle.ev_resolve.specs.Reading.{Variable, context_type, context_of}
use Rattle.ev_resolve.specs.UsedNames.{is_formula_name, binder_names}
use Rattle.ev_infer.specs.Annotates.{variables_context}
use Rattle.ev_resolve.specs.Bare.{Bare, Fits}
use Rattle.ev_infer.specs.Equations.{filled, sort_type, same_pattern, sort_of, meet, Emitted, emit}
use Rattle.ev_resolve.specs.Resolve.{known_of}
use Rattle.ev_resolve.specs.TakenNames.{takes_name}
use Rattle.ev_infer.specs.Inference.{HaveProperTypes, variable_patterns, with_pairs, asked, IsAnnotation, equations}
use Rattle.ev_infer.proofs.Values.{map-reverse, value-same, sort_type-sort_of, solves_append, solves_first, solves_last, meet_gives}
use Rattle.ev_infer.proofs.Sound.{and_then_gives, map_gives, if_gives, some_gives, sound}
use Rattle.ev_infer.proofs.Complete.{IsSortFixed, meet_found, and_then_to, map_to, if_to, complete}
use Rattle.ev_infer.proofs.ToBare.{AreGood, to_bare}
use Rattle.ev_infer.proofs.FromBare.{from_bare}

-- the two orders of variables
pub context_reverse : (vars : List Variable) → context_of (reverse vars) ≡ variables_context vars
context_reverse vars = ap reverse (map-reverse (λ (v : Variable). context_type v.type) vars) ∙ reverse-reverse (variables_context vars)

good_append : (env : Env) (vs ws : List Variable) → AreGood env vs → AreGood env ws → AreGood env (vs ++ ws)
good_append env [] ws h g = g
good_append env (v ∷ vs) ws h g = (h.0, good_append env vs ws h.1 g)

pub good_reverse : (env : Env) (vars : List Variable) → AreGood env vars → AreGood env (reverse vars)
good_reverse env [] h = tt
good_reverse env (v ∷ vars) h =
    transport (AreGood env) (sym (reverse-append (v ∷ []) vars)) (good_append env (reverse vars) (v ∷ []) (good_reverse env vars h.1) (h.0, tt))

value_context : (env : Env) (σ : ℕ → Ty) (a : Ty) → IsResult env a → value σ (same_pattern (context_type a)) ≡ context_type a
value_context env σ IntType h = refl
value_context env σ BoolType h = refl
value_context env σ Prop h = refl
value_context env σ (ParamType i) h = refl
value_context env σ (pow a) h = value-same env σ (pow a) h
value_context env σ (prod a b) h = value-same env σ (prod a b) h
value_context env σ (DataType n As) h = value-same env σ (DataType n As) h

pub values_variables : (env : Env) (σ : ℕ → Ty) (vars : List Variable) → HaveProperTypes env vars → map (value σ) (variable_patterns vars) ≡ variables_context vars
values_variables env σ [] h = refl
values_variables env σ (v ∷ vars) h =
    ap (λ a. a ∷ map (value σ) (variable_patterns vars)) (value_context env σ v.type h.0) ∙ ap (λ l. context_type v.type ∷ l) (values_variables env σ vars h.1)

-- parameters that no list gives stay
mutual
  inst_none : (A : Ty) → type_inst (type_at Rattle.ev_terms.specs.declared.types.Tys.Empty) A ≡ A
  inst_none IntType = refl
  inst_none BoolType = refl
  inst_none Prop = refl
  inst_none (ParamType i) = refl
  inst_none (pow A) = ap pow (inst_none A)
  inst_none (prod A B) = Rattle.ev_unify.proofs.Followed.prod_by (inst_none A) (inst_none B)
  inst_none (DataType n As) = ap (DataType n) (insts_none As)

  insts_none : (As : Rattle.ev_terms.specs.declared.types.Tys.Tys) → Rattle.ev_terms.specs.Substitution.types_inst (type_at Rattle.ev_terms.specs.declared.types.Tys.Empty) As ≡ As
  insts_none Rattle.ev_terms.specs.declared.types.Tys.Empty = refl
  insts_none (Rattle.ev_terms.specs.Types.more A As) = Rattle.ev_unify.proofs.Followed.more_by (inst_none A) (insts_none As)

pub sort_asked : (env : Env) (σ : ℕ → Ty) (A : Ty) → IsResult env A → sort_type σ (sort_of Empty A) ≡ A
sort_asked env σ A h = sort_type-sort_of env σ Empty A h ∙ inst_none A

pub unless_gives : {X : Type 0} (b : Boolean) (o : Option X) (x : X) → (if b then None else o) ≡ Some x → (b ≡ false) × (o ≡ Some x)
unless_gives true o x e = cc
unless_gives false o x e = (refl, e)

unless_to : {X : Type 0} (b : Boolean) (o : Option X) (x : X) → b ≡ false → o ≡ Some x → (if b then None else o) ≡ Some x
unless_to b o x e g = ap (λ c. if c then None else o) e ∙ g

decide : (b : Boolean) → ¬ (b ≡ true) → b ≡ false
decide true h = absurd (h refl)
decide false h = refl

module _ (env : Env) (signatures : HasProperSignatures env) (params : List (List ℕ)) (vars : List Variable) (proper : HaveProperTypes env vars) (raw : Raw) where
  good : AreGood env (reverse vars)
  good = good_reverse env vars proper

  asked_sound : (expected : Option Ty) (q e : Emitted) (σ : ℕ → Ty) → asked env expected q ≡ Some e → Solves σ e.pairs
      → Solves σ q.pairs × (q.term ≡ e.term) × IfSome expected (λ A. sort_type σ q.sort ≡ A)
  asked_sound None q e σ a h =
      let i : q ≡ e = sym (some_gives _ _ a) in
      (transport (λ (x : Emitted). Solves σ x.pairs) (sym i) h, ap (λ (x : Emitted). x.term) i, tt)
  asked_sound (Some A) q e σ a h =
      let g = if_gives (is_result env A) _ e a in
      let m = map_gives (with_pairs q) (meet q.sort (sort_of Empty A)) e g.1 in
      let h' : Solves σ (q.pairs ++ m.0) = transport (λ (x : Emitted). Solves σ x.pairs) m.2 h in (
        solves_first σ q.pairs m.0 h',
        ap (λ (x : Emitted). x.term) (sym m.2),
        meet_gives σ q.sort (sort_of Empty A) m.0 m.1 (solves_last σ q.pairs m.0 h') ∙ sort_asked env σ A (result_from_test env A g.0),
      )

  -- Each solution by proper types gives an annotation.
  pub solution_annotates : (expected : Option Ty) (e : Emitted) → equations env params vars raw expected ≡ Some e → (σ : ℕ → Ty) → ((i : ℕ) → IsProper env (σ i)) → Solves σ e.pairs
      → IsAnnotation env params vars raw expected (filled σ e.term)
  solution_annotates expected e eq σ p h =
      let u = unless_gives (takes_name env params raw) _ e eq in
      let (q, eq1, ea) = and_then_gives (asked env expected) _ e u.1 in
      let (b, eb, em) = and_then_gives (λ (b : Bare). emit env b (variable_patterns vars) 0) _ q eq1 in
      let (hq, et, ex) = asked_sound expected q e σ ea h in
      let made = sound env signatures σ p b (variable_patterns vars) 0 q em hq in
      let C = values_variables env σ vars proper in
      let made' : Fits env b (variables_context vars) (filled σ q.term) × Typed env (variables_context vars) (filled σ q.term) (sort_type σ q.sort) =
      transport (λ D. Fits env b D (filled σ q.term) × Typed env D (filled σ q.term) (sort_type σ q.sort)) C made in
      let back = sym (context_reverse vars) in
      let gives = from_bare env signatures params (known_of env) raw (reverse vars) (filled σ q.term) b good eb (transport (λ D. Fits env b D (filled σ q.term)) back made'.0)
      (sort_type σ q.sort, transport (λ D. Typed env D (filled σ q.term) (sort_type σ q.sort)) back made'.1) in
      transport (λ (x : Rattle.ev_infer.specs.Equations.PatTerm). IsAnnotation env params vars raw expected (filled σ x)) et
      (record {
        annotates = record {
          type = sort_type σ q.sort;
          typed = made'.1;
          binders = λ taken. not_both (list_any (is_formula_name params (known_of env)) (binder_names raw)) (list_any-from_Any (is_formula_name params (known_of env)) (binder_names raw) taken) u.0;
          gives = gives;
        };
        has_expected = at expected (filled σ q.term) (sort_type σ q.sort) made'.1 ex;
      })
    where
      not_both : (b : Boolean) → b ≡ true → b ≡ false → ⊥
      not_both b f g = cc

      at : (x : Option Ty) (t : Term) (B : Ty) → Typed env (variables_context vars) t B → IfSome x (λ A. B ≡ A) → IfSome x (λ A. Typed env (variables_context vars) t A)
      at None t B k g = tt
      at (Some A) t B k g = transport (Typed env (variables_context vars) t) g k

  -- what an annotation comes from
  pub record Solved (expected : Option Ty) (t : Term) : Type 0 where
    pub out : Emitted
    pub emitted : equations env params vars raw expected ≡ Some out
    pub solution : ℕ → Ty
    pub are_proper : (i : ℕ) → IsProper env (solution i)
    pub solves : Solves solution out.pairs
    pub is_term : filled solution out.term ≡ t

  asked_complete : (expected : Option Ty) (q : Emitted) (σ : ℕ → Ty) (B : Ty) → ((i : ℕ) → IsProper env (σ i)) → IsSortFixed σ q.next q.sort B → Solves σ q.pairs → IsResult env B → IfSome expected (λ A. B ≡ A)
      → (e : Emitted) × (asked env expected q ≡ Some e) × Solves σ e.pairs × (e.term ≡ q.term)
  asked_complete None q σ B p s h r x = (q, refl, h, refl)
  asked_complete (Some A) q σ B p s h r x =
      let ra : IsResult env A = transport (IsResult env) x r in
      let m = meet_found env q.sort (sort_of Empty A) q.next σ B p s (λ τ a. sort_asked env τ A ra ∙ sym x) in (
        with_pairs q m.pairs,
        if_to (is_result env A) _ _ (test_from_result env A ra) (map_to (with_pairs q) _ m.pairs m.met),
        solves_append σ q.pairs m.pairs h (m.solved σ (λ i l. refl)),
        refl,
      )

  -- Each annotation comes from a solution.
  pub annotation_solved : (expected : Option Ty) (t : Term) → IsAnnotation env params vars raw expected t → Solved expected t
  annotation_solved expected t a =
      let A = a.annotates.type in
      let C = context_reverse vars in
      let typed : Typed env (context_of (reverse vars)) t A = transport (λ D. Typed env D t A) (sym C) a.annotates.typed in
      let (b, eb, fb) = to_bare env signatures params (known_of env) raw (reverse vars) t good a.annotates.gives (A, typed) in
      let σ0 : ℕ → Ty = λ i. IntType in
      let f = complete env signatures b (variable_patterns vars) 0 σ0 (variables_context vars) t A (λ i. tt) (λ τ g. values_variables env τ vars proper) (transport (λ D. Fits env b D t) C fb) a.annotates.typed in
      let r : IsResult env A = Rattle.ev_infer.proofs.Nodes.typed_result env signatures (context_of (reverse vars)) (Rattle.ev_infer.proofs.ToBare.good_context env (reverse vars) good) t A typed in
      let (e, ea, he, et) = asked_complete expected f.out f.solution A f.proper f.is_type (f.solved f.solution (λ i l. refl)) r (at expected a.has_expected) in
      record {
        out = e;
        emitted = unless_to (takes_name env params raw) _ e (decide (takes_name env params raw) (λ taken. a.annotates.binders (Any-from_list_any (is_formula_name params (known_of env)) (binder_names raw) taken)))
            (and_then_to (asked env expected) _ f.out e (and_then_to (λ (x : Bare). emit env x (variable_patterns vars) 0) _ b f.out eb f.emitted) ea);
        solution = f.solution;
        are_proper = f.proper;
        solves = he;
        is_term = ap (filled f.solution) et ∙ f.is_term f.solution (λ i l. refl);
      }
    where
      at : (x : Option Ty) → IfSome x (λ B. Typed env (variables_context vars) t B) → IfSome x (λ B. a.annotates.type ≡ B)
      at None h = tt
      at (Some B) h = Typed-unique env (variables_context vars) t a.annotates.type B a.annotates.typed h
