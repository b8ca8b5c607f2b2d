-- What the steps of inference answer.
use Rattle.std.specs.Prelude.{◌≡◌, ℕ, Bool as Boolean, true, false, not, List, [], ◌∷◌, map, reverse, Option, Some, None, Result, Ok, Err, IfOk, IfErr, refl}
use Rattle.std.proofs.Common.{ap, sym, ◌∙◌, subst as transport}
use Rattle.std.proofs.lemmas.List.Folds.{Any-from_list_any, list_any-from_Any}
use Rattle.ev_terms.specs.declared.extents.Extent.{Extent}
use Rattle.ev_terms.specs.declared.types.Ty.{Ty}
use Rattle.ev_terms.specs.Term.{Term}
use Rattle.ev_syntax.specs.Raw.{Raw}
use Rattle.ev_typing.specs.declared.typing.Var.{Var}
use Rattle.ev_typing.specs.Env.{Env}
use Rattle.ev_typing.specs.Typing.{Typed}
use Rattle.ev_typing.specs.Proper.{HasProperUserSignatures}
use Rattle.ev_typing.specs.WellFormed.{IsWellFormed}
use Rattle.ev_typing.proofs.ProperSignatures.{signatures_proper}
use Rattle.ev_terms.specs.declared.types.Sym.TheVariants.{User}
use Rattle.ev_unify.specs.declared.patterns.Pat.{Pat}
use Rattle.ev_infer.specs.declared.faults.InferFault.{InferFault}
use Rattle.ev_infer.specs.declared.faults.InferFault.TheVariants.{Unknown, Taken, IllTyped, Ambiguous, TooLarge, NoMemory}
use Rattle.ev_resolve.specs.UsedNames.{is_formula_name, used_names, binder_names, variable_names}
use Rattle.ev_infer.specs.Annotates.{HasUnknownName, HasTakenBinder, variables_context}
use Rattle.ev_resolve.specs.Reading.{Variable, context_type}
use Rattle.ev_infer.specs.Equations.{same_pattern}
use Rattle.ev_infer.proofs.Values.{map-reverse}
use Rattle.ev_resolve.specs.Bare.{Bare}
use Rattle.ev_resolve.specs.Resolve.{known_of, forget, resolve}
use Rattle.ev_resolve.specs.TakenNames.{takes_name}
use Rattle.ev_infer.specs.Inference.{variable_patterns, bare_equations, HasNoAnnotation}
use Rattle.ev_infer.specs.inner.Answering.{OnFault, IsGiven}
use Rattle.ev_infer.specs.Laws.{AnswersOf}
use Rattle.ev_infer.proofs.RawAnswers.{answers as answers_of_bare}
use Rattle.ev_resolve.specs.inner.Unknown.{is_unknown, uses_unknown}
use Rattle.ev_infer.specs.Answers.{variables, IsUnknown, IsTaken, IsFound, IsFoundOf, IsAnswer}
use Rattle.ev_infer.specs.inner.Marked.{uses_marked}
use Rattle.ev_infer.specs.inner.Improper.{marked, with_type_or_int}
use Rattle.ev_infer.specs.inner.Variables.{IsVariableAnswer}
use Rattle.ev_infer.proofs.ImproperVariables.{proper_or_int, alike, marks}
use Rattle.ev_infer.proofs.Annotations.{none_found, unused, variable_answers, found_move}

not_true : (b : Boolean) → not b ≡ true → b ≡ false
not_true true e = cc
not_true false e = refl

not_false : (b : Boolean) → b ≡ false → not b ≡ true
not_false b e = ap not e

both_ways : (b : Boolean) → b ≡ true → b ≡ false → ⊥
both_ways b e g = cc

pub user_signatures : (env : Env) → IsWellFormed env → HasProperUserSignatures env
user_signatures env w n p e = signatures_proper env w (User n) p e

module _ (env : Env) (params : List (List ℕ)) (vars : List Var) (raw : Raw) where
  abbrev Unscoped : Type 0
  Unscoped = HasUnknownName params (known_of env) (Typed env) (variables vars) raw

  abbrev Binds : Type 0
  Binds = HasTakenBinder params (known_of env) (Typed env) (variables vars) raw

  unknown_from : uses_unknown env params raw (variable_names (variables vars)) ≡ true → Unscoped
  unknown_from e =
      let (k, x, l, i, p) = Any-from_list_any (is_unknown env params) (used_names raw (variable_names (variables vars))) e in
      (k, x, l, i, not_true (is_formula_name params (known_of env) x) p)

  unknown_to : Unscoped → uses_unknown env params raw (variable_names (variables vars)) ≡ true
  unknown_to (k, x, l, i, p) =
      list_any-from_Any (is_unknown env params) (used_names raw (variable_names (variables vars))) (k, x, l, i, not_false (is_formula_name params (known_of env) x) p)

  pub in_scope : (names : List (List ℕ)) → reverse names ≡ variable_names (variables vars) → uses_unknown env params raw (reverse names) ≡ false → ¬ Unscoped
  in_scope names n e u = both_ways (uses_unknown env params raw (reverse names)) (ap (uses_unknown env params raw) n ∙ unknown_to u) e

  pub free_binders : takes_name env params raw ≡ false → ¬ Binds
  free_binders e t = both_ways (takes_name env params raw) (list_any-from_Any (is_formula_name params (known_of env)) (binder_names raw) t) e

  pub unknown_answer : (names : List (List ℕ)) → reverse names ≡ variable_names (variables vars) → uses_unknown env params raw (reverse names) ≡ true → IsUnknown env params vars raw
  unknown_answer names n e = record { unknown = unknown_from (sym (ap (uses_unknown env params raw) n) ∙ e) }

  pub taken_answer : (names : List (List ℕ)) → reverse names ≡ variable_names (variables vars) → uses_unknown env params raw (reverse names) ≡ false → takes_name env params raw ≡ true → IsTaken env params vars raw
  taken_answer names n u e = record { in_scope = in_scope names n u; taken = Any-from_list_any (is_formula_name params (known_of env)) (binder_names raw) e }

  module _ (expected : Option Ty) (limit : Extent) where
    -- the first answer that holds
    pub found_answer : (names : List (List ℕ)) → reverse names ≡ variable_names (variables vars) → uses_unknown env params raw (reverse names) ≡ false → takes_name env params raw ≡ false
        → (r : Result Term InferFault) → IsFound env params vars raw expected limit r → IsAnswer env params vars raw expected limit r
    found_answer names n u f r h = go r h
      where
        scoped : ¬ Unscoped
        scoped = in_scope names n u

        go : (x : Result Term InferFault) → IsFound env params vars raw expected limit x → IsAnswer env params vars raw expected limit x
        go (Ok t) g = record { in_scope = scoped; only = g.0; within = g.1 }
        go (Err Unknown) g = absurd g
        go (Err Taken) g = absurd g
        go (Err IllTyped) g = record { in_scope = scoped; free = free_binders f; none = g }
        go (Err Ambiguous) g = record { in_scope = scoped; free = free_binders f; two = g }
        go (Err TooLarge) (t, o, p) = (t, record { in_scope = scoped; only = o; past = p })
        go (Err NoMemory) g = tt

    module _ (well : IsWellFormed env) (free : takes_name env params raw ≡ false) where
      abbrev scope : List Variable
      scope = map forget (reverse (variables vars))

      pub none_found_here : (vs : List Variable) → vs ≡ scope → None ≡ resolve params (known_of env) raw vs → HasNoAnnotation env params (variables vars) raw expected
      none_found_here vs s e = none_found env params raw expected well vars (sym (e ∙ ap (resolve params (known_of env) raw) s))

      module _ (b : Bare) (vs : List Variable) (is_scope : vs ≡ scope) (resolves : Some b ≡ resolve params (known_of env) raw vs) where
        resolved : resolve params (known_of env) raw scope ≡ Some b
        resolved = sym (resolves ∙ ap (resolve params (known_of env) raw) is_scope)

        marks_are : (ms : List Boolean) → ms ≡ map (marked env) vars → reverse ms ≡ marks env vars
        marks_are ms e = ap reverse e ∙ sym (map-reverse (marked env) vars)

        pub alone_found : (ms : List Boolean) (types : List Ty) → ms ≡ map (marked env) vars → uses_marked b (reverse ms) ≡ true → types ≡ variables_context (variables vars)
            → (r : Result Term InferFault) → IsVariableAnswer raw b types expected limit r → IsFound env params vars raw expected limit r
        alone_found ms types m u c r h =
            variable_answers env params raw expected well vars b resolved (free_binders free) (ap (uses_marked b) (sym (marks_are ms m)) ∙ u) limit r
            (transport (λ X. IsVariableAnswer raw b X expected limit r) c h)

        abbrev Given : List Pat → Term → Type 0
        Given ctx t = IsGiven (bare_equations env ctx expected b) limit t

        abbrev Fault : List Pat → InferFault → Type 0
        Fault ctx f = OnFault (bare_equations env ctx expected b) limit f

        abbrev there : List Variable
        there = variables (map (with_type_or_int env) vars)

        facts : AnswersOf env params there raw expected limit (bare_equations env (variable_patterns there) expected b)
        facts = answers_of_bare env params there raw expected b limit (user_signatures env well) (proper_or_int env vars) free (sym (ap (resolve params (known_of env) raw) (alike env vars)) ∙ resolved)

        settled : (r : Result Term InferFault) → IfOk r (Given (variable_patterns there)) → IfErr r (Fault (variable_patterns there)) → IsFound env params (map (with_type_or_int env) vars) raw expected limit r
        settled (Ok t) h g = facts.only t h
        settled (Err Unknown) h g = absurd g
        settled (Err Taken) h g = absurd g
        settled (Err IllTyped) h g = facts.none g
        settled (Err Ambiguous) h g = facts.two g
        settled (Err TooLarge) h g = facts.past g
        settled (Err NoMemory) h g = tt

        pub given_found : (ms : List Boolean) (ctx : List Pat) → ms ≡ map (marked env) vars → uses_marked b (reverse ms) ≡ false → ctx ≡ variable_patterns there
            → (r : Result Term InferFault) → IfOk r (Given ctx) → IfErr r (Fault ctx) → IsFound env params vars raw expected limit r
        given_found ms ctx m u c r h g =
            found_move env params raw expected well vars (unused env params raw expected well vars b resolved (ap (uses_marked b) (sym (marks_are ms m)) ∙ u)) limit r
            (settled r (transport (λ x. IfOk r (Given x)) c h) (transport (λ x. IfErr r (Fault x)) c g))

pub ruleset answers = (unknown_answer, taken_answer, found_answer)

-- of a bare term
pub bare_alone : (env : Env) (vars : List Var) (raw : Raw) (expected : Option Ty) (limit : Extent) (b : Bare) → IsWellFormed env → (ms : List Boolean) → ms ≡ map (marked env) vars → uses_marked b (reverse ms) ≡ true
    → (r : Result Term InferFault) → IsVariableAnswer raw b (variables_context (variables vars)) expected limit r → IsFoundOf env vars raw b expected limit r
bare_alone env vars raw expected limit b well ms m u r h params free e =
    alone_found env params vars raw expected limit well free b (map forget (reverse (variables vars))) refl (sym e) ms (variables_context (variables vars)) m u refl r h

-- the types in a context as patterns
same_context : (vs : List Variable) → map same_pattern (variables_context vs) ≡ variable_patterns vs
same_context [] = refl
same_context (v ∷ vs) = ap (λ ps. same_pattern (context_type v.type) ∷ ps) (same_context vs)

pub bare_given : (env : Env) (vars : List Var) (raw : Raw) (expected : Option Ty) (limit : Extent) (b : Bare) → IsWellFormed env → (ms : List Boolean) (types : List Ty) → ms ≡ map (marked env) vars → uses_marked b (reverse ms) ≡ false
    → types ≡ variables_context (variables (map (with_type_or_int env) vars)) → (r : Result Term InferFault)
    → IfOk r (IsGiven (bare_equations env (map same_pattern types) expected b) limit) → IfErr r (OnFault (bare_equations env (map same_pattern types) expected b) limit) → IsFoundOf env vars raw b expected limit r
bare_given env vars raw expected limit b well ms types m u c r h g params free e =
    given_found env params vars raw expected limit well free b (map forget (reverse (variables vars))) refl (sym e) ms (map same_pattern types) m u (ap (map same_pattern) c ∙ same_context (variables (map (with_type_or_int env) vars))) r h g

pub found_of : (env : Env) (params : List (List ℕ)) (vars : List Var) (raw : Raw) (expected : Option Ty) (limit : Extent) (b : Bare) (vs : List Variable) (o : Option Bare) → takes_name env params raw ≡ false → vs ≡ map forget (reverse (variables vars))
    → o ≡ resolve params (known_of env) raw vs → o ≡ Some b → (r : Result Term InferFault) → IsFoundOf env vars raw b expected limit r → IsFound env params vars raw expected limit r
found_of env params vars raw expected limit b vs o free s e q r h = h params free (sym (sym q ∙ e ∙ ap (resolve params (known_of env) raw) s))

pub found_none : (env : Env) (params : List (List ℕ)) (vars : List Var) (raw : Raw) (expected : Option Ty) (limit : Extent) → IsWellFormed env → (vs : List Variable) (o : Option Bare) → takes_name env params raw ≡ false → vs ≡ map forget (reverse (variables vars))
    → o ≡ resolve params (known_of env) raw vs → o ≡ None → HasNoAnnotation env params (variables vars) raw expected
found_none env params vars raw expected limit well vs o free s e q = none_found_here env params vars raw expected limit well free vs s (sym q ∙ e)
