-- Steps that replace a node at a place.
use Rattle.std.specs.Prelude.{◌≡◌, ◌-◌, ℕ, zero, suc, List, [], ◌∷◌, Some, slice_get, slice_set}
use Rattle.std.specs.Option.{option_and_then}
use Rattle.std.proofs.Common.{ap, sym, ◌∙◌, subst as transport, arith}
use Rattle.ev_terms.specs.declared.types.Ty.{Ty, Prop}
use Rattle.ev_terms.specs.Term.{Term, Terms, var, lit, node, nil, cons, terms, term_list, terms-term_list}
use Rattle.ev_typing.specs.declared.typing.Sequent.{Sequent}
use Rattle.ev_typing.specs.Env.{Env}
use Rattle.ev_typing.specs.Parts.{base}
use Rattle.ev_typing.specs.Typing.{IsSequent}
use Rattle.ev_typing.specs.Sequents.{◌⊢◌}
use Rattle.ev_typing.specs.BaseSequents.{widened}
use Rattle.ev_kernel.specs.Derivable.{Derivable}
use Rattle.ev_ops.specs.Unfold.{body_of, unfolded_node, unfold_all_by, bodies_after}
use Rattle.ev_rewrite.specs.Places.{node_at, path_types, with_child, replace_at}
use Rattle.ev_sound.specs.Equations.{AreEqual}
use Rattle.ev_typing.specs.WellFormed.{IsWellFormed}
use Rattle.ev_congruence.proofs.Contexts.{context_of}
use Rattle.ev_sound.proofs.Derived.{backwards}
use Rattle.ev_sound.proofs.Places.{equal_place, and_then_parts, map_parts}
use Rattle.ev_ops.proofs.Basing.{sequent_over_base}
use Rattle.ev_sound.proofs.Rows.{U, US}

-- An equation at a place of the goal: the goal follows from the goal with the other node there.
pub replaced_at : (env : Env) → IsWellFormed env → (place : List ℕ) (S : Sequent) (old new G : Term) (Bs : List Ty) (B : Ty) → IsSequent env S → IsSequent env (S ⊢ G) →
    node_at S.goal place ≡ Some old → path_types S.goal place ≡ Some Bs → replace_at S.goal place new ≡ Some G →
    AreEqual (base env) (widened (US env S) Bs) B (U env old) (U env new) → Derivable (base env) (US env (S ⊢ G)) → Derivable (base env) (US env S)
replaced_at env u place S old new G Bs B h k e f g d below =
    backwards (base env) (US env S) (U env S.goal) (U env G)
    (equal_place env u place (US env S) S.goal old new G Bs Prop B h.context (context_of (base env) (US env S) (sequent_over_base env u S h)) h.goal k.goal e f g d) below

-- Where both nodes unfold to one term, so do both goals.
child_same : (env : Env) (ts : Terms) (i : ℕ) (c d : Term) → slice_get (term_list ts) i ≡ Some c → U env c ≡ U env d →
    unfold_all_by (bodies_after [] env) ts ≡ unfold_all_by (bodies_after [] env) (terms (slice_set (term_list ts) i d))
child_same env nil i c d e h = cc
child_same env (cons t ts) zero c d e h =
    let q : t ≡ c = cc in
    ap (λ x. cons (U env x) (unfold_all_by (bodies_after [] env) ts)) q ∙ ap (λ x. cons x (unfold_all_by (bodies_after [] env) ts)) h
    ∙ ap (λ us. cons (U env d) (unfold_all_by (bodies_after [] env) us)) (sym (terms-term_list ts))
child_same env (cons t ts) (suc i) c d e h = ap (cons (U env t)) (child_same env ts i c d e h)

pub same_place : (env : Env) (place : List ℕ) (t old new after : Term) → node_at t place ≡ Some old → replace_at t place new ≡ Some after → U env old ≡ U env new → U env t ≡ U env after
same_place env [] t old new after e g h =
    let e' : t ≡ old = cc in
    let g' : new ≡ after = cc in
    ap (U env) e' ∙ h ∙ ap (U env) g'
same_place env (zero ∷ place) t old new after e g h = cc
same_place env (suc i ∷ place) (var j) old new after e g h = cc
same_place env (suc i ∷ place) (lit n) old new after e g h = cc
same_place env (suc i ∷ place) (node s As ts) old new after e g h =
    let child = and_then_parts (λ z. node_at z place) (slice_get (term_list ts) i) old e in
    let next = map_parts (with_child (node s As ts) (suc i)) (option_and_then (λ z. replace_at z place new) (slice_get (term_list ts) i)) after g in
    let r : replace_at child.0 place new ≡ Some next.0 = sym (ap (option_and_then (λ z. replace_at z place new)) child.1) ∙ next.1 in
    let less : suc i - 1 ≡ i = omega arith in
    ap (unfolded_node (body_of (bodies_after [] env) s) s As) (child_same env ts i child.0 next.0 child.1 (same_place env place child.0 old new next.0 child.2 r h))
    ∙ ap (U env) (ap (λ m. node s As (terms (slice_set (term_list ts) m next.0))) (sym less) ∙ next.2)

-- and the goals are one
pub same_goal : (env : Env) (place : List ℕ) (S : Sequent) (old new G : Term) → node_at S.goal place ≡ Some old → replace_at S.goal place new ≡ Some G → U env old ≡ U env new →
    Derivable (base env) (US env (S ⊢ G)) → Derivable (base env) (US env S)
same_goal env place S old new G e g h d = transport (λ x. Derivable (base env) (US env S ⊢ x)) (sym (same_place env place S.goal old new G e g h)) d
