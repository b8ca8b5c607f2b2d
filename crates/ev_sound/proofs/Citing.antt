-- What is cited: a closed formula whose unfolded form is derivable, at types and terms.
use Rattle.std.specs.Prelude.{◌≡◌, ◌+◌, ◌++◌, ◌<◌, ℕ, zero, suc, List, [], ◌∷◌, map, slice_get, refl}
use Rattle.std.specs.Option.{unwrap_or}
use Rattle.std.specs.List.{AllByRecursion}
use Rattle.std.proofs.Common.{ap, sym, ◌∙◌, subst as transport, arith, append_assoc}
use Rattle.ev_terms.specs.declared.types.Ty.{Ty, Prop, Param}
use Rattle.ev_terms.specs.declared.types.Tys.{Tys, Empty}
use Rattle.ev_terms.specs.Types.{type_list}
use Rattle.ev_terms.specs.Term.{Term, terms}
use Rattle.ev_terms.specs.Measures.{params}
use Rattle.ev_terms.specs.Substitution.{fill, retype, instance, type_at}
use Rattle.ev_terms.proofs.AnyLaws.{retype_below}
use Rattle.ev_forms.specs.Forms.{forall, forall_all}
use Rattle.ev_typing.specs.declared.typing.Sequent.{Sequent}
use Rattle.ev_typing.specs.TypeLists.{types}
use Rattle.ev_typing.specs.Env.{Env}
use Rattle.ev_typing.specs.Parts.{base}
use Rattle.ev_typing.specs.Typing.{IsProper, AreProper, Typed, AreTyped, IsPredicate, IsSequent}
use Rattle.ev_typing.specs.Occurs.{ArePlain}
use Rattle.ev_typing.specs.Sequents.{◌⊢◌}
use Rattle.ev_typing.proofs.Laws.{type_list-types}
use Rattle.ev_typing.proofs.TypeInstances.{instance_typed}
use Rattle.ev_kernel.specs.Derivable.{Derivable}
use Rattle.ev_ops.specs.Unfold.{unfolded}
use Rattle.ev_typing.specs.WellFormed.{IsWellFormed}
use Rattle.ev_congruence.proofs.Terms.{append_nil, list_proper}
use Rattle.ev_congruence.proofs.Contexts.{context_of}
use Rattle.ev_sound.proofs.Bodies.{over_base, types_over_base}
use Rattle.ev_sound.proofs.Rows.{U, US}
use Rattle.ev_sound.proofs.Quantified.{forall_typed}
use Rattle.ev_sound.proofs.Opening.{cited, closed_instance}
use Rattle.ev_ops.proofs.Basing.{sequent_over_base}
use Rattle.ev_ops.proofs.BaseGood.{base_well_formed}
use Rattle.ev_ops.proofs.Fitting.{instance_unfolded}
use Rattle.ev_sound.proofs.Putting.{fill_unfolded}

-- As many types as the formula has parameters, of those that are assigned.
first_types : (ℕ → Ty) → ℕ → ℕ → List Ty
first_types θ i zero = []
first_types θ i (suc n) = θ i ∷ first_types θ (i + 1) n

first_at : (θ : ℕ → Ty) (i n j : ℕ) (d : Ty) → j < n → unwrap_or (slice_get (first_types θ i n) j) d ≡ θ (i + j)
unfolding first_types
first_at θ i zero j d h = absurd (omega arith)
first_at θ i (suc n) zero d h = let e : i ≡ i + 0 = omega arith in ap θ e
first_at θ i (suc n) (suc j) d h = let e : i + 1 + j ≡ i + suc j = omega arith in first_at θ (i + 1) n j d (omega arith) ∙ ap θ e

first_proper : (env : Env) (θ : ℕ → Ty) (i n : ℕ) → ((j : ℕ) → IsProper env (θ j)) → AllByRecursion (IsProper env) (first_types θ i n)
unfolding first_types
first_proper env θ i zero h = tt
first_proper env θ i (suc n) h = (h i, first_proper env θ (i + 1) n h)

-- the types assigned, as a list
pub as_types : (ℕ → Ty) → Term → Tys
as_types θ P = types (first_types θ 0 (params P))

pub retype_as : (θ : ℕ → Ty) (P : Term) → retype θ P ≡ instance P (as_types θ P)
unfolding as_types
retype_as θ P = retype_below P θ (type_at (as_types θ P)) (λ i h. sym (ap (λ xs. unwrap_or (slice_get xs i) (Param i)) (type_list-types (first_types θ 0 (params P))) ∙ first_at θ 0 (params P) i (Param i) h ∙ ap θ (refl_zero i)))
  where
    refl_zero : (i : ℕ) → 0 + i ≡ i
    refl_zero i = omega arith

pub as_proper : (env : Env) (θ : ℕ → Ty) (P : Term) → ((j : ℕ) → IsProper env (θ j)) → AreProper env (as_types θ P)
unfolding as_types
as_proper env θ P h = list_proper env (first_types θ 0 (params P)) (first_proper env θ 0 (params P) h)

-- the formula below quantifiers
pub below_typed : (env : Env) (C Bs : List Ty) (P : Term) → Typed env C (forall_all Bs P) Prop → Typed env (C ++ Bs) P Prop
below_typed env C [] P h = transport (λ D. Typed env D P Prop) (sym (append_nil C)) h
below_typed env C (B ∷ Bs) P h =
    transport (λ D. Typed env D P Prop) (append_assoc C (B ∷ []) Bs) (below_typed env (C ++ B ∷ []) Bs P (forall_typed env C B (forall_all Bs P) Prop h))

module _ (env : Env) (u : IsWellFormed env) where
  -- arguments are over the base once they are unfolded
  pub record AreOverBase (C As : List Ty) (ts : List Term) : Type 0 where
    pub typed : AreTyped (base env) C (terms (map (unfolded env) ts)) As
    pub plain : ArePlain (base env) (terms (map (unfolded env) ts))

  pub args_over_base : (C : Tys) → AreProper env C → (ts : List Term) (As : List Ty) → AreTyped env (type_list C) (terms ts) As → AreOverBase (type_list C) As ts
  args_over_base C p [] [] h = record { typed = tt; plain = tt }
  args_over_base C p [] (A ∷ As) h = absurd h
  args_over_base C p (x ∷ ts) [] h = absurd h
  args_over_base C p (x ∷ ts) (A ∷ As) h =
      let o = over_base env u C p x A h.0 in
      let k = args_over_base C p ts As h.1 in
      record { typed = (o.typed, k.typed); plain = (o.plain, k.plain) }

  forall_unfolded : (Bs : List Ty) (P : Term) → U env (forall_all Bs P) ≡ forall_all Bs (U env P)
  forall_unfolded [] P = refl
  forall_unfolded (B ∷ Bs) P = ap (forall B) (forall_unfolded Bs P)

  -- the formula with types put in
  pub formula_at : (P : Term) (θ : ℕ → Ty) → IsPredicate env [] P → ((i : ℕ) → IsProper env (θ i)) → Derivable (base env) (record { context = Empty; hyps = []; goal = U env P }) →
      Derivable (base env) (record { context = Empty; hyps = []; goal = U env (retype θ P) })
  formula_at P θ h p d =
      transport (λ G. Derivable (base env) (record { context = Empty; hyps = []; goal = G })) (sym (ap (U env) (retype_as θ P) ∙ instance_unfolded env u [] P Prop h (as_types θ P)))
      (closed_instance (base env) (base_well_formed env u) (U env P) (as_types θ P) (types_over_base env u (as_types θ P) (as_proper env θ P p)) d)

  -- and terms for leading quantifiers
  pub formula_cited : (S : Sequent) (P : Term) (θ : ℕ → Ty) (Bs : List Ty) (body : Term) (ts : List Term) → IsSequent env S → IsPredicate env [] P → ((i : ℕ) → IsProper env (θ i)) → retype θ P ≡ forall_all Bs body →
      AreTyped env (type_list S.context) (terms ts) Bs → Derivable (base env) (record { context = Empty; hyps = []; goal = U env P }) → Derivable (base env) (US env S ⊢ U env (fill body ts))
  formula_cited S P θ Bs body ts s h p e k d =
      let typed : Typed env [] (forall_all Bs body) Prop =
      transport (λ x. Typed env [] x Prop) (sym (retype_as θ P) ∙ e) (instance_typed env u (as_types θ P) (as_proper env θ P p) [] P Prop h) in
      let o = args_over_base S.context s.context ts Bs k in
      transport (λ G. Derivable (base env) (US env S ⊢ G)) (sym (fill_unfolded env u (type_list S.context) Bs body Prop ts Bs (below_typed env [] Bs body typed) k))
      (cited (base env) (base_well_formed env u) (US env S) Bs (U env body) (map (U env) ts) (context_of (base env) (US env S) (sequent_over_base env u S s)) o.typed o.plain
      (transport (λ G. Derivable (base env) (record { context = Empty; hyps = []; goal = G })) (ap (U env) e ∙ forall_unfolded Bs body) (formula_at P θ h p d)))
