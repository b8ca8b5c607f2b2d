-- Constants and direct operators that are read and admitted may follow.
use Rattle.std.specs.Prelude.{◌≡◌, ◌<◌, ◌^◌, ◌++◌, false, List, [], ◌∷◌, Option, Some, length, option_map, Ok, ⊤, refl}
use Rattle.std.specs.List.{list_any}
use Rattle.std.proofs.Common.{inl, inr, ap, sym, subst as transport, arith}
use Rattle.ev_terms.specs.Types.{type_list}
use Rattle.ev_terms.specs.Term.{Term}
use Rattle.ev_syntax.specs.Raw.{Raw}
use Rattle.ev_theory_text.specs.declared.forms.RawHead.{RawHead}
use Rattle.ev_typing.specs.declared.typing.Entry.TheVariants as entry
use Rattle.ev_typing.specs.declared.typing.Signature.{Signature}
use Rattle.ev_typing.specs.Env.{Env, Name}
use Rattle.ev_typing.specs.WellFormed.{IsGoodEntry, IsGoodOperator, IsWellFormed}
use Rattle.ev_typing.proofs.Names.{well_formed_with}
use Rattle.ev_rules.specs.declared.elements.Element.TheVariants as element
use Rattle.ev_ops.specs.Admission.{HasExtraParam, IsDirectAdmission}
use Rattle.ev_ops.specs.Formulas.{IsFormula, IsOptional, MayFollow}
use Rattle.ev_elab.specs.Unknown.{type_unknown}
use Rattle.ev_elab.specs.Parts.{head_types}
use Rattle.ev_elab.specs.Types.{Head, var_types, head_ids, signature_of, by_own, read_head}
use Rattle.ev_elab.specs.Formulas.{IsRead, direct_body}
use Rattle.ev_elab.specs.Readings.{ReadsOptional}
use Rattle.ev_elab.proofs.TypedFormulas.{formula_read}
use Rattle.ev_elab.proofs.ProperArgs.{args_proper}
use Rattle.ev_elab.proofs.NewNames.{AreFree, new_names}
use Rattle.ev_elab.proofs.OwnFormulas.{own_formula}
use Rattle.ev_elab.proofs.GoodHeads.{IsHeadRead, head_read, head_good, own_context, head_condition, formula_good, condition_good}
use Rattle.ev_elab.proofs.Wider.{more_has_all, formula_over, optional_over}

module _ (params : List Name) (env : Env) (w : IsWellFormed env) (h : RawHead) (k : Head) (e : read_head params env h ≡ Some k) (in_scope : list_any (type_unknown params) (head_types env h) ≡ false)
    (few : length h.args < 2 ^ 30) (free : AreFree env (h.name ∷ [])) (o : Option Raw) (C : Option Term) (c : ReadsOptional params env k.vars o C) where
  abbrev sig : Signature
  sig = signature_of (length params) k

  abbrev condition : Option Term
  condition = option_map (by_own (length params) k) C

  read : IsHeadRead params env h k
  read = head_read params env h k e

  own_name : h.name ∷ [] ≡ k.name ∷ []
  own_name = ap (λ n. n ∷ []) (sym read.named)

  pub conditional : IsOptional env (type_list sig.args) condition
  conditional = head_condition params env w h k read o C c

  pub operator_good : (Bodies : Type 0) → Bodies → (¬ HasExtraParam sig condition []) → IsGoodOperator env sig condition Bodies
  operator_good Bodies b x = record {
    signature = head_good params env h k read in_scope few;
    condition_good = condition_good env sig condition conditional (λ m. x (inl m));
    bodies = b;
  }

  pub constant_follows : ¬ HasExtraParam sig condition [] → MayFollow env (element.Constant sig condition)
  constant_follows x =
      let E = entry.Constant sig condition in
      let new = new_names env E (h.name ∷ []) own_name free in
      let good : IsGoodEntry env E = operator_good ⊤ tt x in
      ((new, good, tt), optional_over env (env ++ E ∷ []) (more_has_all env E (well_formed_with env E w new good)) (type_list sig.args) condition conditional)

  own_body : (raw : Raw) (t : Term) → IsRead params (direct_body (length params) env k raw) t → IsFormula env (type_list sig.args) sig.result (by_own (length params) k t)
  own_body raw t r =
      transport (λ D. IsFormula env D sig.result (by_own (length params) k t)) (sym (own_context (length params) k))
      (own_formula (length params) (head_ids k) env w (var_types k.vars) k.result t (formula_read params env k.vars k.result raw t (args_proper params env h.args k.vars read.args) r))

  pub direct_follows : (raw : Raw) (t : Term) → IsRead params (direct_body (length params) env k raw) t → IsDirectAdmission sig condition (by_own (length params) k t) (Ok tt) →
      MayFollow env (element.Direct sig condition (by_own (length params) k t))
  direct_follows raw t r x =
      let body = by_own (length params) k t in
      let E = entry.Direct sig condition body in
      let f = own_body raw t r in
      let new = new_names env E (h.name ∷ []) own_name free in
      let good : IsGoodEntry env E =
      operator_good _ (formula_good env sig.params (type_list sig.args) sig.result body f (λ m. x (inr (body, (0, omega arith, refl), m)))) (no_more x) in
      let l = more_has_all env E (well_formed_with env E w new good) in
      ((new, good, tt), (optional_over env (env ++ E ∷ []) l (type_list sig.args) condition conditional, formula_over env (env ++ E ∷ []) l (type_list sig.args) sig.result body f))
    where
      no_more : ¬ HasExtraParam sig condition (by_own (length params) k t ∷ []) → ¬ HasExtraParam sig condition []
      no_more g (inl m) = g (inl m)
      no_more g (inr (u, (i, l, q), m)) = omega (arith, l)
