-- What elaboration gives is typed and admitted.
use Rattle.std.specs.Prelude.{◌≡◌, ◌++◌, List, [], ◌∷◌, Option, Some, None, length, map, option_map, IsSomeAnd, Ok}
use Rattle.std.specs.List.{AllByRecursion, AllZip}
use Rattle.std.proofs.Common.{inl, ap, sym, subst as transport}
use Rattle.ev_terms.specs.declared.types.Tys.{Tys}
use Rattle.ev_terms.specs.Types.{type_list}
use Rattle.ev_terms.specs.Substitution.{types_inst, type_at}
use Rattle.ev_theory_text.specs.declared.elements.RawElement.{RawElement}
use Rattle.ev_theory_text.specs.declared.forms.ElementForm.{ElementForm}
use Rattle.ev_typing.specs.declared.typing.Entry.TheVariants as entry
use Rattle.ev_typing.specs.declared.typing.DataDecl.{DataDecl}
use Rattle.ev_typing.specs.declared.typing.Con.{Con}
use Rattle.ev_typing.specs.WellFormed.{IsGoodBody, IsGoodEntry, inductive_data, case_context}
use Rattle.ev_data.specs.Guarded.{IsGuardedBody}
use Rattle.ev_data.specs.Sound.{IsSound}
use Rattle.ev_rules.specs.declared.elements.Element.{Element}
use Rattle.ev_rules.specs.declared.elements.Element.TheVariants as element
use Rattle.ev_ops.specs.Admission.{IsCaseAdmission}
use Rattle.ev_ops.specs.Unfold.{unfold_by, bodies_after}
use Rattle.ev_ops.specs.Entries.{with_element, with_elements, env_of}
use Rattle.ev_ops.specs.Formulas.{IsFormula, MayFollow, MayFollowAll}
use Rattle.ev_elab.specs.declared.theories.Reached.{Reached}
use Rattle.ev_elab.specs.States.{State, start, reached_elements}
use Rattle.ev_elab.specs.Types.{head_ids, own_list, signature_of, by_own}
use Rattle.ev_elab.specs.Readings.{cases_of, bodies_for}
use Rattle.ev_elab.specs.Faults.{IsAdmitted, HasSmallEquation, IsWithinLimits, IsElementOf}
use Rattle.ev_elab.specs.Elaborated.{AreElements}
use Rattle.ev_elab.proofs.ProperArgs.{args_proper}
use Rattle.ev_elab.proofs.NewNames.{new_names}
use Rattle.ev_elab.proofs.GoodHeads.{head_read, head_good, head_condition, condition_good}
use Rattle.ev_elab.proofs.Wider.{optional_over}
use Rattle.ev_elab.proofs.CaseFormulas.{inductive_is, cases_read}
use Rattle.ev_elab.proofs.RecursiveFollow.{cases_good, inductive₂, bodies_guarded, bodies_good, bodies_typed, entry_has_all}
use Rattle.ev_elab.specs.Written.{IsFromText, IsPartFromText}
use Rattle.ev_elab.specs.TheoryLaws.{TheoryIsSound}
use Rattle.ev_elab.proofs.ElementsFollow.{RecursiveFollows, element_follows_by, parts_follow}
use Rattle.ev_elab.proofs.Standing.{sound_all, empty_sound}
use Rattle.ev_elab.proofs.Together.{scope_follows}

at_some : {X : Type 0} (P : X → Type 0) (o : Option X) (x : X) → o ≡ Some x → P x → IsSomeAnd o P
at_some P o x e h = transport (λ q. IsSomeAnd q P) (sym e) h

some_at : {X : Type 0} (P : X → Type 0) (o : Option X) (x : X) → o ≡ Some x → IsSomeAnd o P → P x
some_at P o x e h = transport (λ q. IsSomeAnd q P) e h

pub recursive_follows : RecursiveFollows
recursive_follows params env u h k e scope few free o C c by raws r x g a limits =
    let w = u.well_formed in
    let read = head_read params env h k e in
    let p = args_proper params env h.args k.vars read.args in
    let sig = signature_of (length params) k in
    let condition = option_map (by_own (length params) k) C in
    let i = g.induction in
    let cs = cases_of (length params) k g.read g.terms in
    let bodies = bodies_for i.decl cs in
    let own : h.name ∷ [] ≡ k.name ∷ [] = ap (λ n. n ∷ []) (sym read.named) in
    let good = head_good params env h k read scope few in
    let new₁ = new_names env (entry.Constant sig None) (h.name ∷ []) own free in
    let f = cases_read params env w k p by raws i g.read g.cases_are in
    let all = cases_good params env w k p condition good new₁ i f.induction g.read g.terms f.each g.bodies in
    let X : Element = element.Recursive sig condition i.place bodies in
    let E = entry.Recursive sig condition i.place (map (unfold_by (bodies_after [] env)) bodies) in
    let As = types_inst (type_at (own_list (length params) (head_ids k))) i.types in
    let a' : IsAdmitted env (Some (record { place = i.place; cases = cs })) X = transport (IsAdmitted env (Some (record { place = i.place; cases = cs }))) g.is (transport (λ q. IsAdmitted env q x) g.recursion_is a) in
    let adm : IsCaseAdmission sig condition i.place cs i.decl As (Ok tt) =
    some_at (λ (q : DataDecl × Tys). IsCaseAdmission sig condition i.place cs q.0 q.1 (Ok tt)) (inductive_data env sig i.place) (i.decl, As) (inductive_is params env w k p i f.induction) a' in
    let at : inductive_data (env ++ E ∷ []) sig i.place ≡ Some (i.decl, As) = inductive₂ params env w k p condition good new₁ i f.induction cs all adm in
    let l' : IsWithinLimits (env ++ E ∷ []) X = transport (λ y. IsWithinLimits (with_element env y) y) g.is limits in
    let small = some_at (λ (q : DataDecl × Tys). AllByRecursion (HasSmallEquation (env ++ E ∷ []) sig) q.0.cons) (inductive_data (env ++ E ∷ []) sig i.place) (i.decl, As) at l'.equations_fit in
    let conditional = head_condition params env w h k read o C c in
    let entry_is : IsGoodEntry env E = record {
      signature = good;
      condition_good = condition_good env sig condition conditional (λ m. adm.0 (inl m));
      bodies = at_some (λ (q : DataDecl × Tys). AllZip (IsGoodBody (env ++ E ∷ []) sig i.place q.1) q.0.cons (map (unfold_by (bodies_after [] env)) bodies)) (inductive_data (env ++ E ∷ []) sig i.place) (i.decl, As) at
          (bodies_good params env w k p condition good new₁ i f.induction cs all adm small);
    } in
    let guarded = at_some (λ (q : DataDecl × Tys). AllZip (IsGuardedBody sig i.place q.0 q.1) q.0.cons (map (unfold_by (bodies_after [] env)) bodies)) (inductive_data (env ++ E ∷ []) sig i.place) (i.decl, As) at
    (bodies_guarded params env w k p condition good new₁ i f.induction cs all adm) in
    let typed = at_some (λ (q : DataDecl × Tys). AllZip (λ (d : Con). IsFormula (env ++ E ∷ []) (case_context sig i.place q.1 d) sig.result) q.0.cons bodies) (inductive_data (env ++ E ∷ []) sig i.place) (i.decl, As) at
    (bodies_typed params env w k p condition good new₁ i f.induction cs all adm) in
    let over = optional_over env (env ++ E ∷ []) (entry_has_all params env w k p condition good new₁ i f.induction cs all adm) (type_list sig.args) condition conditional in
    transport (MayFollow env) (sym g.is) ((new_names env E (h.name ∷ []) own free, entry_is, guarded), (over, typed))

-- An element that elaboration gives may follow the entries of its state.
pub element_follows : (s : State) → IsSound s.env → (form : ElementForm) (e : Element) → IsElementOf s form e → IsFromText form → MayFollow s.env e
element_follows s u form e h t = element_follows_by recursive_follows s u form e h t

-- All elements of a theory follow, and make a sound environment.
pub elements_follow : (scope : List (List Reached)) (raws : List RawElement) (es : List Element) → IsSound (env_of (reached_elements scope)) → AllByRecursion IsPartFromText raws → AreElements (start scope) raws es →
    MayFollowAll (env_of (reached_elements scope)) es × IsSound (with_elements (env_of (reached_elements scope)) es)
elements_follow scope raws es u t h = parts_follow recursive_follows (start scope) u raws es h t

pub theory_is_sound : TheoryIsSound
theory_is_sound scope raws T s t h =
    let below : MayFollowAll [] (reached_elements scope) = scope_follows scope raws s h.free in
    let u : IsSound (env_of (reached_elements scope)) = sound_all [] (reached_elements scope) empty_sound below in
    let p = elements_follow scope raws T.elements u t h.elements in
    record { scope_follows = below; scope_sound = u; follow = p.0; sound = p.1 }
