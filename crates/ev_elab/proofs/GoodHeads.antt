-- The head of an operator or constant that is read makes a good signature, over which its condition is typed.
use Rattle.std.specs.Prelude.{◌≡◌, ◌||◌, ◌<◌, ◌≤◌, ◌^◌, ℕ, zero, suc, Bool as Boolean, true, false, List, [], ◌∷◌, ◌++◌, Option, Some, None, map, length, slice_get, option_map, refl}
use Rattle.std.specs.List.{AllZip, list_any}
use Rattle.std.proofs.Common.{ap, sym, ◌∙◌, subst as transport, true≢false, arith}
use Rattle.std.proofs.lemmas.List.{length-map}
use Rattle.ev_terms.specs.declared.types.Ty.{Ty, Prop, Param}
use Rattle.ev_terms.specs.declared.types.Tys.{Tys}
use Rattle.ev_terms.specs.Types.{type_list}
use Rattle.ev_terms.specs.Term.{Term}
use Rattle.ev_terms.specs.Measures.{type_params, types_params, params}
use Rattle.ev_terms.specs.Substitution.{type_inst, types_inst, type_at}
use Rattle.ev_syntax.specs.Raw.{Raw}
use Rattle.ev_theory_text.specs.declared.forms.RawArg.{RawArg}
use Rattle.ev_theory_text.specs.declared.forms.RawHead.{RawHead}
use Rattle.ev_theory_text.specs.declared.forms.RawResult.{RawResult}
use Rattle.ev_theory_text.specs.declared.forms.RawResult.TheVariants.{Predicate, Typed}
use Rattle.ev_typing.specs.declared.typing.Signature.{Signature}
use Rattle.ev_typing.specs.declared.typing.Var.{Var}
use Rattle.ev_typing.specs.TypeLists.{types}
use Rattle.ev_typing.specs.Env.{Env, Name}
use Rattle.ev_typing.specs.Occurs.{has_param, have_param}
use Rattle.ev_typing.specs.WellFormed.{IsGoodSignature, IsGoodTerm, IsGoodCondition, IsWellFormed}
use Rattle.ev_typing.proofs.Laws.{type_list-types}
use Rattle.ev_typing.proofs.Proper.{all_proper_inst, result_inst}
use Rattle.ev_typing.proofs.TypeInstances.{type_list-types_inst}
use Rattle.ev_resolve.specs.Resolve.{known_of}
use Rattle.ev_rules.specs.Params.{params_of}
use Rattle.ev_ops.specs.Admission.{ConditionMentionsExtra, MentionsExtra}
use Rattle.ev_ops.specs.Formulas.{IsFormula, IsOptional}
use Rattle.ev_elab.specs.Unknown.{type_unknown, is_no_param}
use Rattle.ev_elab.specs.Parts.{arg_types, result_types, head_types}
use Rattle.ev_elab.specs.Types.{Head, own_number, own_list, var_types, head_ids, head_of, read_head, read_args, read_result, signature_of, by_own}
use Rattle.ev_elab.specs.Readings.{ReadsOptional}
use Rattle.ev_elab.proofs.Gathering.{and_then_some, map_some, or_none, none_append, not_less, zip_length}
use Rattle.ev_elab.proofs.TypedFormulas.{optional_read}
use Rattle.ev_elab.proofs.ProperArgs.{IsArgRead, args_read, args_proper, type_read, result_read, types_proper}
use Rattle.ev_elab.proofs.OwnNumbers.{have_below, inst_params, insts_params, inst_has, insts_have, own_below, own_at_place, own_occurs, own_type}
use Rattle.ev_elab.proofs.OwnFormulas.{own_proper, own_optional}
use Rattle.ev_elab.proofs.WrittenNumbers.{written_bounded}

-- What a head is read as.
pub record IsHeadRead (params : List Name) (env : Env) (h : RawHead) (k : Head) : Type 0 where
  pub named : k.name ≡ h.name
  pub args : AllZip (IsArgRead params env) h.args k.vars
  pub result : read_result params env h.gives ≡ Some k.result

pub head_read : (params : List Name) (env : Env) (h : RawHead) (k : Head) → read_head params env h ≡ Some k → IsHeadRead params env h k
head_read params env h k e =
    let (vars, f, g) = and_then_some (λ vars. option_map (head_of h.name vars) (read_result params env h.gives)) (read_args params env h.args) k e in
    let (A, p, q) = map_some (head_of h.name vars) (read_result params env h.gives) k g in
    transport (IsHeadRead params env h) q (record { named = refl; args = args_read params env h.args vars f; result = p })

-- Its types have the theory's parameters alone.
whole_types : List Var → Ty → Tys
whole_types vars A = types (var_types vars ++ A ∷ [])

args_below : (params : List Name) (env : Env) (args : List RawArg) (vars : List Var) → AllZip (IsArgRead params env) args vars → list_any (type_unknown params) (arg_types env args) ≡ false →
    (Bs : List Ty) → types_params (types Bs) ≤ length params → types_params (types (var_types vars ++ Bs)) ≤ length params
args_below params env [] [] h e Bs l = l
args_below params env [] (v ∷ vars) h e Bs l = absurd h
args_below params env (a ∷ args) [] h e Bs l = absurd h
args_below params env (a ∷ args) (v ∷ vars) h e Bs l =
    let p = or_none (type_unknown params (record { type_env = env; type = a.written })) (list_any (type_unknown params) (arg_types env args)) e in
    let q = or_none _ (list_any (is_no_param params) _) p.0 in
    let m = written_bounded params (known_of env) a.written v.ty h.0.type.written q.1 in
    let n = args_below params env args vars h.1 p.1 Bs l in
    omega (arith, m, n)

result_below : (params : List Name) (env : Env) (r : RawResult) (A : Ty) → read_result params env r ≡ Some A → list_any (type_unknown params) (result_types env r) ≡ false → type_params A ≤ length params
result_below params env Predicate A e h = let q : Prop ≡ A = cc in transport (λ B. type_params B ≤ length params) q (omega arith)
result_below params env (Typed a) A e h =
    let p = or_none (type_unknown params (record { type_env = env; type = a })) false h in
    let q = or_none _ (list_any (is_no_param params) _) p.0 in
    written_bounded params (known_of env) a A (type_read params env a A e).written q.1

pub head_below : (params : List Name) (env : Env) (h : RawHead) (k : Head) → IsHeadRead params env h k → list_any (type_unknown params) (head_types env h) ≡ false →
    types_params (types (var_types k.vars ++ k.result ∷ [])) ≤ length params
head_below params env h k r e =
    let p = none_append (type_unknown params) (arg_types env h.args) (result_types env h.gives) e in
    let l = result_below params env h.gives k.result r.result p.1 in
    args_below params env h.args k.vars r.args p.0 (k.result ∷ []) (omega (arith, l))

-- What occurs in the types of the arguments or of the whole occurs in them all.
in_args : (i : ℕ) (As Bs : List Ty) → have_param i (types As) ≡ true → have_param i (types (As ++ Bs)) ≡ true
in_args i [] Bs e = absurd (true≢false (sym e))
in_args i (A ∷ As) Bs e = by (has_param i A) e (in_args i As Bs)
  where
    by : (b : Boolean) → (b || have_param i (types As)) ≡ true → (have_param i (types As) ≡ true → have_param i (types (As ++ Bs)) ≡ true) → (b || have_param i (types (As ++ Bs))) ≡ true
    by true f g = refl
    by false f g = g f

in_result : (i : ℕ) (As : List Ty) (B : Ty) → has_param i B ≡ true → have_param i (types (As ++ B ∷ [])) ≡ true
in_result i [] B e = ap (λ b. b || false) e
in_result i (A ∷ As) B e = by (has_param i A) (in_result i As B e)
  where
    by : (b : Boolean) → have_param i (types (As ++ B ∷ [])) ≡ true → (b || have_param i (types (As ++ B ∷ []))) ≡ true
    by true g = refl
    by false g = g

args_or_result : (i : ℕ) (As : List Ty) (B : Ty) → have_param i (types (As ++ B ∷ [])) ≡ true → (have_param i (types As) || has_param i B) ≡ true
args_or_result i [] B e = by (has_param i B) e
  where
    by : (b : Boolean) → (b || false) ≡ true → (false || b) ≡ true
    by true f = refl
    by false f = f
args_or_result i (A ∷ As) B e = by (has_param i A) e (args_or_result i As B)
  where
    by : (b : Boolean) → (b || have_param i (types (As ++ B ∷ []))) ≡ true → (have_param i (types (As ++ B ∷ [])) ≡ true → (have_param i (types As) || has_param i B) ≡ true) → ((b || have_param i (types As)) || has_param i B) ≡ true
    by true f g = refl
    by false f g = g f

there : (ids : List ℕ) (j : ℕ) → j < length ids → (i : ℕ) × (slice_get ids j ≡ Some i)
there [] j h = absurd (omega (arith, h))
there (i ∷ ids) zero h = (i, refl)
there (i ∷ ids) (suc j) h = there ids j (omega (arith, h))

-- The types by their own numbers.
module _ (count : ℕ) (As : List Ty) (B : Ty) (low : types_params (types (As ++ B ∷ [])) ≤ count) where
  abbrev ids : List ℕ
  ids = params_of [] (types (As ++ B ∷ []))

  abbrev θ : ℕ → Ty
  θ = type_at (own_list count ids)

  number : (i : ℕ) → have_param i (types (As ++ B ∷ [])) ≡ true → θ i ≡ Param (own_number ids i)
  number i e = let p = have_below i (types (As ++ B ∷ [])) e in own_type count ids i (omega (arith, p, low))

  number_low : (i : ℕ) → have_param i (types (As ++ B ∷ [])) ≡ true → type_params (θ i) ≤ length ids
  number_low i e = let p = own_below (types (As ++ B ∷ [])) i e in transport (λ A. type_params A ≤ length ids) (sym (number i e)) (omega (arith, p))

  args_low : types_params (types_inst θ (types As)) ≤ length ids
  args_low = insts_params (types As) (length ids) θ (λ i e. number_low i (in_args i As (B ∷ []) e))

  result_low : type_params (type_inst θ B) ≤ length ids
  result_low = inst_params B (length ids) θ (λ i e. number_low i (in_result i As B e))

  either_has : (i j : ℕ) → θ i ≡ Param j → (have_param i (types As) || has_param i B) ≡ true → (have_param j (types_inst θ (types As)) || has_param j (type_inst θ B)) ≡ true
  either_has i j e h = by (have_param i (types As)) refl h
    where
      right : (a b : Boolean) → b ≡ true → (a || b) ≡ true
      right true b q = refl
      right false b q = q

      by : (b : Boolean) → have_param i (types As) ≡ b → (b || has_param i B) ≡ true → (have_param j (types_inst θ (types As)) || has_param j (type_inst θ B)) ≡ true
      by true f g = ap (λ b. b || has_param j (type_inst θ B)) (insts_have (types As) i j θ e f)
      by false f g = right (have_param j (types_inst θ (types As))) (has_param j (type_inst θ B)) (inst_has B i j θ e g)

  all_used : (j : ℕ) → j < length ids → (have_param j (types_inst θ (types As)) || has_param j (type_inst θ B)) ≡ true
  all_used j h =
      let (i, e) = there ids j h in
      let o = own_occurs (types (As ++ B ∷ [])) j i e in
      either_has i j (number i o ∙ ap Param (own_at_place (types (As ++ B ∷ [])) j i e)) (args_or_result i As B o)

-- The signature.
pub head_good : (params : List Name) (env : Env) (h : RawHead) (k : Head) → IsHeadRead params env h k → list_any (type_unknown params) (head_types env h) ≡ false → length h.args < 2 ^ 30 →
    IsGoodSignature env (signature_of (length params) k)
head_good params env h k r e few =
    let p = args_proper params env h.args k.vars r.args in
    let low = head_below params env h k r e in
    let As = var_types k.vars in
    let Ts = own_list (length params) (head_ids k) in
    let n : length (type_list (types_inst (type_at Ts) (types As))) ≡ length k.vars =
    ap length (type_list-types_inst (type_at Ts) (types As)) ∙ length-map (type_list (types As)) (type_inst (type_at Ts)) ∙ ap length (type_list-types As) ∙ length-map k.vars (λ (v : Var). v.ty) in
    let m = zip_length (IsArgRead params env) h.args k.vars r.args in
    record {
      count = transport (λ x. x < 2 ^ 30) (sym (n ∙ m)) few;
      args = all_proper_inst env Ts (types As) (own_proper env (length params) (head_ids k)) (types_proper env As p);
      result = result_inst env Ts k.result (own_proper env (length params) (head_ids k)) (result_read params env h.gives k.result r.result);
      args_parameters = args_low (length params) As k.result low;
      result_parameters = result_low (length params) As k.result low;
      used = all_used (length params) As k.result low;
    }

-- The types of the arguments, as a context.
pub own_context : (count : ℕ) (k : Head) → type_list (signature_of count k).args ≡ map (type_inst (type_at (own_list count (head_ids k)))) (var_types k.vars)
own_context count k =
    type_list-types_inst (type_at (own_list count (head_ids k))) (types (var_types k.vars)) ∙ ap (map (type_inst (type_at (own_list count (head_ids k))))) (type_list-types (var_types k.vars))

-- A condition.
pub head_condition : (params : List Name) (env : Env) → IsWellFormed env → (h : RawHead) (k : Head) → IsHeadRead params env h k → (o : Option Raw) (C : Option Term) → ReadsOptional params env k.vars o C →
    IsOptional env (type_list (signature_of (length params) k).args) (option_map (by_own (length params) k) C)
head_condition params env w h k r o C c =
    transport (λ D. IsOptional env D (option_map (by_own (length params) k) C)) (sym (own_context (length params) k))
    (own_optional (length params) (head_ids k) env w (var_types k.vars) C (optional_read params env k.vars o C (args_proper params env h.args k.vars r.args) c))

-- A formula with its own parameters alone is good.
pub formula_good : (env : Env) (n : ℕ) (C : List Ty) (A : Ty) (t : Term) → IsFormula env C A t → ¬ MentionsExtra n t → IsGoodTerm env n C A t
formula_good env n C A t f x = let d = f.small.depth_fits in record { typed = f.typed; parameters = not_less n (params t) x; shallow = omega (arith, d) }

pub condition_good : (env : Env) (sig : Signature) (o : Option Term) → IsOptional env (type_list sig.args) o → ¬ ConditionMentionsExtra sig.params o → IsGoodCondition env sig o
condition_good env sig None f x = tt
condition_good env sig (Some P) f x = formula_good env sig.params (type_list sig.args) Prop P f x
