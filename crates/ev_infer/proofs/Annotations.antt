-- Annotations where some variables have types that are none of the environment.
use Rattle.std.specs.Prelude.{◌≡◌, ◌↔◌, ◌⊎◌, ℕ, Bool as Boolean, true, false, List, map, reverse, Option, Some, None, IfSome, Result, Ok, Err, refl}
use Rattle.std.proofs.Common.{ap, sym, ◌∙◌, inl, inr, subst as transport}
use Rattle.ev_terms.specs.declared.extents.Extent.{Extent}
use Rattle.ev_terms.specs.declared.types.Ty.{Ty}
use Rattle.ev_terms.specs.Term.{Term, var, lit, node}
use Rattle.ev_syntax.specs.Raw.{Raw}
use Rattle.ev_typing.specs.declared.typing.Var.{Var}
use Rattle.ev_typing.specs.Env.{Env}
use Rattle.ev_typing.specs.Typing.{Typed}
use Rattle.ev_typing.specs.Proper.{HasProperSignatures}
use Rattle.ev_typing.specs.WellFormed.{IsWellFormed}
use Rattle.ev_typing.proofs.ProperSignatures.{signatures_proper}
use Rattle.ev_typing.proofs.Laws.{Typed-unique}
use Rattle.ev_infer.specs.declared.faults.InferFault.TheVariants.{Unknown, Taken, IllTyped, Ambiguous, TooLarge, NoMemory}
use Rattle.ev_infer.specs.declared.faults.InferFault.{InferFault}
use Rattle.ev_resolve.specs.Reading.{Variable, context_of}
use Rattle.ev_infer.specs.Annotates.{HasTakenBinder, variables_context}
use Rattle.ev_resolve.specs.Bare.{Bare, bare_var, bare_lit, bare_node, bare_of, Fits}
use Rattle.ev_resolve.specs.Resolve.{known_of, forget, resolve}
use Rattle.ev_infer.specs.Inference.{IsAnnotation, HasNoAnnotation, IsOnlyAnnotation}
use Rattle.ev_infer.proofs.Sound.{some_gives}
use Rattle.ev_infer.proofs.ToBare.{to_bare}
use Rattle.ev_infer.proofs.Inferring.{context_reverse, good_reverse}
use Rattle.ev_infer.proofs.RawAnswers.{no_bare}
use Rattle.ev_infer.specs.Answers.{variables, IsFound}
use Rattle.ev_infer.specs.inner.Marked.{is_marked, uses_marked}
use Rattle.ev_infer.specs.inner.Improper.{with_type_or_int}
use Rattle.ev_infer.specs.inner.Variables.{is_name, IsVariable, FitsAsked, StandsAlone, IsVariableAnswer}
use Rattle.ev_infer.proofs.Both.{AreAlike, gives_move}
use Rattle.ev_infer.proofs.Retyped.{retyped, no_variable_result, used_clash, unused_typed}
use Rattle.ev_infer.proofs.VariableSteps.{one_variable}
use Rattle.ev_infer.proofs.Variables.{reads_variable, name_gives}
use Rattle.ev_infer.proofs.ImproperVariables.{proper_or_int, alike, keeps, apart, back, marks}

by_form : (t : Term) → ((i : ℕ) × (t ≡ var i)) ⊎ ((i : ℕ) → t ≡ var i → ⊥)
by_form (var i) = inl (i, refl)
by_form (lit n) = inr (λ i e. cc)
by_form (node s As ts) = inr (λ i e. cc)

unmarked_variable : (b : Bare) (ms : List Boolean) (C : List Ty) (i : ℕ) → uses_marked b ms ≡ false → IsVariable b C i → is_marked ms i ≡ false
unmarked_variable (bare_var j) ms C i u h = ap (is_marked ms) (sym h) ∙ u
unmarked_variable (bare_lit n) ms C i u h = absurd h
unmarked_variable (bare_node s w bs) ms C i u h = absurd h
unmarked_variable (bare_of b A) ms C i u h = unmarked_variable b ms C i u h.0

module _ (env : Env) (params : List (List ℕ)) (raw : Raw) (expected : Option Ty) where
  abbrev Annotation : List Variable → Term → Type 0
  Annotation vs t = IsAnnotation env params vs raw expected t

  -- an annotation under the one list is one under the other, where it has the same type
  moved : (vs ws : List Variable) (t : Term) → AreAlike (reverse vs) (reverse ws) → (a : Annotation vs t) → Typed env (context_of (reverse ws)) t a.annotates.type → Annotation ws t
  moved vs ws t like a typed =
      let here = context_reverse vs in
      let there = context_reverse ws in
      let A = a.annotates.type in
      let before : Typed env (context_of (reverse vs)) t A = transport (λ X. Typed env X t A) (sym here) a.annotates.typed in
      let after : Typed env (variables_context ws) t A = transport (λ X. Typed env X t A) there typed in
      record {
        annotates = record {
          type = A;
          typed = after;
          binders = a.annotates.binders;
          gives = gives_move env params (known_of env) raw (reverse vs) (reverse ws) t like a.annotates.gives (A, before, typed);
        };
        has_expected = at expected after a.has_expected;
      }
    where
      at : (x : Option Ty) → Typed env (variables_context ws) t a.annotates.type → IfSome x (λ B. Typed env (variables_context vs) t B) → IfSome x (λ B. Typed env (variables_context ws) t B)
      at None k h = tt
      at (Some B) k h = transport (Typed env (variables_context ws) t) (Typed-unique env (variables_context vs) t a.annotates.type B a.annotates.typed h) k

  module _ (well : IsWellFormed env) (vars : List Var) where
    signatures : HasProperSignatures env
    signatures = signatures_proper env well

    abbrev here : List Variable
    here = variables vars

    abbrev there : List Variable
    there = variables (map (with_type_or_int env) vars)

    abbrev C : List Ty
    C = context_of (reverse here)

    abbrev D : List Ty
    D = context_of (reverse there)

    typed_here : (t : Term) (a : Annotation here t) → Typed env C t a.annotates.type
    typed_here t a = transport (λ X. Typed env X t a.annotates.type) (sym (context_reverse here)) a.annotates.typed

    typed_there : (t : Term) (a : Annotation there t) → Typed env D t a.annotates.type
    typed_there t a = transport (λ X. Typed env X t a.annotates.type) (sym (context_reverse there)) a.annotates.typed

    -- what is no variable has its type with INT put in too
    kept : (t : Term) (a : Annotation here t) → ((i : ℕ) → t ≡ var i → ⊥) → Typed env D t a.annotates.type
    kept t a n =
        retyped env signatures t C D a.annotates.type (keeps env vars) (typed_here t a) (no_variable_result env signatures C t a.annotates.type n (typed_here t a))

    to_or_int : (t : Term) (a : Annotation here t) → ((i : ℕ) → t ≡ var i → ⊥) → Annotation there t
    to_or_int t a n = moved here there t (alike env vars) a (kept t a n)

    fits_there : (t : Term) → Annotation there t → (b : Bare) → resolve params (known_of env) raw (map forget (reverse here)) ≡ Some b → Fits env b D t
    fits_there t a b e =
        let (c, ec, fc) = to_bare env signatures params (known_of env) raw (reverse there) t (good_reverse env there (proper_or_int env vars)) a.annotates.gives (a.annotates.type, typed_there t a) in
        transport (λ x. Fits env x D t) (some_gives _ _ (sym e ∙ ap (resolve params (known_of env) raw) (alike env vars) ∙ ec)) fc

    -- no bare term, no annotation
    pub none_found : resolve params (known_of env) raw (map forget (reverse here)) ≡ None → HasNoAnnotation env params here raw expected
    none_found e t a = elim (by_form t) as (λ _. ⊥) [
      | inl (i, q) ↦ no_some _ (sym e ∙ (reads_variable env params (known_of env) raw (reverse here) i (transport (λ x. Rattle.ev_resolve.specs.Reading.Gives params (known_of env) (Typed env) raw (reverse here) x) q a.annotates.gives)).resolved)
      | inr n ↦ no_bare env params there raw expected (λ m p h. signatures (Rattle.ev_terms.specs.declared.types.Sym.TheVariants.User m) p h) (proper_or_int env vars) (sym (ap (resolve params (known_of env) raw) (alike env vars)) ∙ e) t (to_or_int t a n)
    ]
      where
        no_some : (b : Bare) → None ≡ Some b → ⊥
        no_some b h = cc

    module _ (b : Bare) (resolved : resolve params (known_of env) raw (map forget (reverse here)) ≡ Some b) where
      -- an annotation that is a variable stands alone in the raw tree
      alone : (t : Term) (a : Annotation here t) (i : ℕ) → t ≡ var i → (is_name raw ≡ true) × IsVariable b C i
      alone t a i q =
          let r = reads_variable env params (known_of env) raw (reverse here) i (transport (λ x. Rattle.ev_resolve.specs.Reading.Gives params (known_of env) (Typed env) raw (reverse here) x) q a.annotates.gives) in
          (r.name, transport (λ x. IsVariable x C i) (some_gives _ _ (sym resolved ∙ r.resolved)) r.is_variable)

      -- where no marked variable is used
      pub unused : uses_marked b (marks env vars) ≡ false → (t : Term) → Annotation here t ↔ Annotation there t
      unused u t = (
        λ a. elim (by_form t) as (λ _. Annotation there t) [
          | inl (i, q) ↦ moved here there t (alike env vars) a
              (transport (λ x. Typed env D x a.annotates.type) (sym q)
              (back env vars i a.annotates.type (unmarked_variable b (marks env vars) C i u (alone t a i q).1) (transport (λ x. Typed env C x a.annotates.type) q (typed_here t a))))
          | inr n ↦ to_or_int t a n
        ],
        λ a. moved there here t (sym (alike env vars)) a
            (unused_typed env b C D (marks env vars) t a.annotates.type (apart env vars) (fits_there t a b resolved) (typed_there t a) u),
      )

      -- where one is, an annotation is a variable that stands alone
      only_alone : uses_marked b (marks env vars) ≡ true → (t : Term) (a : Annotation here t) → (i : ℕ) × (t ≡ var i)
      only_alone u t a = elim (by_form t) as (λ _. (i : ℕ) × (t ≡ var i)) [
        | inl h ↦ h
        | inr n ↦ absurd (used_clash env b C D (marks env vars) t a.annotates.type (apart env vars) (fits_there t (to_or_int t a n) b resolved) (typed_here t a) (kept t a n) u)
      ]

      fits_asked : (t : Term) (a : Annotation here t) (i : ℕ) → t ≡ var i → FitsAsked C i expected
      fits_asked t a i q =
          let typed = transport (λ x. Typed env C x a.annotates.type) q (typed_here t a) in
          (a.annotates.type, typed, at expected a.has_expected)
        where
          at : (x : Option Ty) → IfSome x (λ B. Typed env (variables_context here) t B) → IfSome x (λ B. B ≡ a.annotates.type)
          at None h = tt
          at (Some B) h = Typed-unique env (variables_context here) t B a.annotates.type h a.annotates.typed

      stands : uses_marked b (marks env vars) ≡ true → (t : Term) (a : Annotation here t) → (i : ℕ) × (t ≡ var i) × StandsAlone raw b C expected i
      stands u t a =
          let (i, q) = only_alone u t a in
          let s = alone t a i q in
          (i, q, record { name = s.0; is_variable = s.1; fits = fits_asked t a i q })

      variable_annotation : ¬ HasTakenBinder params (known_of env) (Typed env) here raw → (i : ℕ) → StandsAlone raw b C expected i → Annotation here (var i)
      variable_annotation free i s =
          let (A, typed, asked) = s.fits in
          let typed' : Typed env (variables_context here) (var i) A = transport (λ X. Typed env X (var i) A) (context_reverse here) typed in
          record {
            annotates = record {
              type = A;
              typed = typed';
              binders = free;
              gives = name_gives env params (known_of env) raw (reverse here) i b s.name resolved s.is_variable;
            };
            has_expected = at A typed' expected asked;
          }
        where
          at : (A : Ty) → Typed env (variables_context here) (var i) A → (x : Option Ty) → IfSome x (λ B. B ≡ A) → IfSome x (λ B. Typed env (variables_context here) (var i) B)
          at A k None h = tt
          at A k (Some B) h = transport (Typed env (variables_context here) (var i)) (sym h) k

      only_variable : ¬ HasTakenBinder params (known_of env) (Typed env) here raw → uses_marked b (marks env vars) ≡ true → (i : ℕ) → StandsAlone raw b C expected i → IsOnlyAnnotation env params here raw expected (var i)
      only_variable free u i s = (
        variable_annotation free i s,
        λ t a. let (j, q, r) = stands u t a in q ∙ ap var (one_variable b C j i r.is_variable s.is_variable),
      )

      variable_found : ¬ HasTakenBinder params (known_of env) (Typed env) here raw → uses_marked b (marks env vars) ≡ true → (limit : Extent) (r : Result Term InferFault) → IsVariableAnswer raw b C expected limit r → IsFound env params vars raw expected limit r
      variable_found free u limit (Ok t) (i, s, q, n) = (transport (IsOnlyAnnotation env params here raw expected) (sym q) (only_variable free u i s), n)
      variable_found free u limit (Err Unknown) h = absurd h
      variable_found free u limit (Err Taken) h = absurd h
      variable_found free u limit (Err IllTyped) h = λ t a. let (i, q, s) = stands u t a in h i s
      variable_found free u limit (Err Ambiguous) h = absurd h
      variable_found free u limit (Err TooLarge) (i, s, p) = (var i, only_variable free u i s, p)
      variable_found free u limit (Err NoMemory) h = tt

      -- the same with the context as it is made
      pub variable_answers : ¬ HasTakenBinder params (known_of env) (Typed env) here raw → uses_marked b (marks env vars) ≡ true → (limit : Extent) (r : Result Term InferFault) → IsVariableAnswer raw b (variables_context here) expected limit r → IsFound env params vars raw expected limit r
      variable_answers free u limit r h = variable_found free u limit r (transport (λ X. IsVariableAnswer raw b X expected limit r) (sym (context_reverse here)) h)

    only_move : ((t : Term) → Annotation here t ↔ Annotation there t) → (t : Term) → IsOnlyAnnotation env params there raw expected t → IsOnlyAnnotation env params here raw expected t
    only_move m t h = ((m t).1 h.0, λ u a. h.1 u ((m u).0 a))

    -- what is found with INT put in is found
    pub found_move : ((t : Term) → Annotation here t ↔ Annotation there t) → (limit : Extent) (r : Result Term InferFault) → IsFound env params (map (with_type_or_int env) vars) raw expected limit r → IsFound env params vars raw expected limit r
    found_move m limit (Ok t) h = (only_move m t h.0, h.1)
    found_move m limit (Err Unknown) h = h
    found_move m limit (Err Taken) h = h
    found_move m limit (Err IllTyped) h = λ t a. h t ((m t).0 a)
    found_move m limit (Err Ambiguous) (t, u, a, c, n) = (t, u, (m t).1 a, (m u).1 c, n)
    found_move m limit (Err TooLarge) (t, o, p) = (t, only_move m t o, p)
    found_move m limit (Err NoMemory) h = h
