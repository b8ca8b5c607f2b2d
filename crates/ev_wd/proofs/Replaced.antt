-- The condition of a term in which terms without conditions are put.
use Rattle.std.specs.Prelude.{◌≡◌, ◌≤◌, ◌+◌, ◌-◌, ℕ, zero, suc, false, List, [], ◌∷◌, ◌++◌, Option, Some, None, map, length, reverse, ⊤, refl}
use Rattle.std.specs.List.{AllByRecursion}
use Rattle.std.proofs.Common.{ap, sym, ◌∙◌, subst as transport, arith, ⊎_elim}
use Rattle.std.proofs.lemmas.Bool.{cases_lt}
use Rattle.ev_terms.specs.declared.types.Ty.{Ty, Prop, Data as DataType}
use Rattle.ev_terms.specs.declared.types.Tys.{Tys}
use Rattle.ev_terms.specs.declared.types.Sym.TheVariants.{Base, User}
use Rattle.ev_terms.specs.Types.{type_list}
use Rattle.ev_terms.specs.Term.{Term, Terms, var, lit, node, nil, cons, terms, term_list}
use Rattle.ev_terms.specs.Symbols.{binds}
use Rattle.ev_terms.specs.Measures.{loose}
use Rattle.ev_terms.specs.Substitution.{shift_var, shift, lift, lifts, inst, insts, entry, instance, type_inst, type_at}
use Rattle.ev_terms.proofs.Subst.{lift_rens, shift_one, shift-inst}
use Rattle.ev_terms.proofs.Laws.{lifts-below, lifts-past, lifts-lifts}
use Rattle.ev_terms.proofs.AnyLaws.{inst-under_binders, inst-of_fill}
use Rattle.ev_terms.proofs.Shifts.{insts-terms}
use Rattle.ev_terms.proofs.Sizes.{loose-retype}
use Rattle.ev_typing.specs.declared.typing.Con.{Con}
use Rattle.ev_typing.specs.declared.typing.Signature.{Signature}
use Rattle.ev_typing.specs.Profiles.{Profile, base_profile}
use Rattle.ev_typing.specs.Env.{Env, Name, Symbol, ConOf, DesOf, ConstantOf, DirectOf, RecursiveOf, find_symbol, field_types, symbol_profile, profile}
use Rattle.ev_typing.specs.Typing.{Typed, AreTyped, inside}
use Rattle.ev_typing.specs.WellFormed.{IsWellFormed}
use Rattle.ev_forms.specs.Forms.{truth, is_truth, exists, exists_all, eq, vars, call}
use Rattle.ev_wd.specs.declared.rows.Rule.{Rule}
use Rattle.ev_wd.specs.declared.rows.Demand.{Demand}
use Rattle.ev_wd.specs.declared.rows.Demand.TheVariants.{Nothing, Application, Quotient, Remainder, Power, Cardinality, Intersection, Minimum, Maximum}
use Rattle.ev_wd.specs.Makers.{make_imp, make_or, joined}
use Rattle.ev_wd.specs.Demands.{rule_of, parts_of}
use Rattle.ev_wd.specs.WellDefined.{is_made_by, parts_of_condition, parts_of_destructor, parts_of_symbol, guarded, closed_over, wd_base, wd, wds}
use Rattle.ev_wd.specs.ConditionLaws.{IsDefined, ConditionOfShift, ConditionOfSubstitution}
use Rattle.ev_wd.proofs.Making.{no_truth}
use Rattle.ev_wd.proofs.Destructing.{length-types}
use Rattle.ev_wd.proofs.Rules.{RuleCases, rule_cases, args_or, some_out, some_symbol, typed_loose, child_count, IsGoodUse, IsGoodSymbol, good_symbol}
use Rattle.ev_wd.proofs.Replacing.{IsNoTruth, is_truth-inst, imp-inst, or-inst, all-inst, parts-inst, guarded-inst, map-parts}

-- What a destructor and a condition ask.
exists_all-inst : (Bs : List Ty) (σ : ℕ → Term) (P : Term) → inst σ (exists_all Bs P) ≡ exists_all Bs (inst (lifts (length Bs) σ) P)
unfolding binds
exists_all-inst [] σ P = refl
exists_all-inst (B ∷ Bs) σ P =
    let e : 1 + length Bs ≡ suc (length Bs) = omega arith in
    ap (exists B) (exists_all-inst Bs (lift σ) P ∙ ap (λ τ. exists_all Bs (inst τ P)) (lifts-lifts (length Bs) 1 σ ∙ ap (λ k. lifts k σ) e))

vars-inst : (m n : ℕ) (σ : ℕ → Term) → m ≤ n → map (inst (lifts n σ)) (vars m) ≡ vars m
vars-inst zero n σ h = refl
vars-inst (suc m) n σ h =
    let p : lifts n σ (m + 0) ≡ var (m + 0) = lifts-below n σ (m + 0) (omega arith) in
    let q = vars-inst m n σ (omega arith) in cc

made-inst : (σ : ℕ → Term) (d : Name) (c : Con) (As : Tys) (e : Term) → inst σ (is_made_by d c As e) ≡ is_made_by d c As (inst σ e)
unfolding binds
made-inst σ d c As e =
    exists_all-inst Bs σ (eq (DataType d As) (shift e 0 n) (call c.name As (vars n)))
    ∙ ap (λ k. exists_all Bs (inst (lifts k σ) (eq (DataType d As) (shift e 0 n) (call c.name As (vars n))))) (length-types (type_at As) c.fields)
    ∙ ap (exists_all Bs) (
    ap (λ X. eq (DataType d As) X (node (User c.name) As (insts (lifts n σ) (terms (vars n))))) (inst-under_binders n σ e)
    ∙ ap (λ us. eq (DataType d As) (shift (inst σ e) 0 n) (node (User c.name) As us)) (insts-terms (lifts n σ) (vars n) ∙ ap terms (vars-inst n n σ (omega arith)))
    )
  where
    n : ℕ
    n = length c.fields

    Bs : List Ty
    Bs = map (type_inst (type_at As)) (field_types c)

abbrev IsFitting : Option Term → ℕ → Type 0
IsFitting None n = ⊤
IsFitting (Some P) n = loose P ≤ n

condition-inst : (σ : ℕ → Term) (o : Option Term) (As : Tys) (ts : List Term) → IsFitting o (length ts) →
    map (inst σ) (parts_of_condition o As ts) ≡ parts_of_condition o As (map (inst σ) ts)
condition-inst σ None As ts h = refl
condition-inst σ (Some P) As ts h =
    ap (λ X. X ∷ []) (inst-of_fill σ (instance P As) ts (let e = loose-retype P (type_at As) in omega arith))

destructor-inst : (σ : ℕ → Term) (d : Name) (c : Con) (As : Tys) (ts : List Term) →
    map (inst σ) (parts_of_destructor d c As ts) ≡ parts_of_destructor d c As (map (inst σ) ts)
destructor-inst σ d c As [] = refl
destructor-inst σ d c As (e ∷ []) = ap (λ X. X ∷ []) (made-inst σ d c As e)
destructor-inst σ d c As (e ∷ f ∷ ts) = refl

use_fits : (env : Env) (sig : Signature) (o : Option Term) (n : ℕ) → IsGoodUse env sig o → n ≡ length (type_list sig.args) → IsFitting o n
use_fits env sig None n h e = tt
use_fits env sig (Some P) n h e = let k = typed_loose env _ P Prop h.0 in omega arith

symbol-inst : (env : Env) (σ : ℕ → Term) (s : Symbol) (As : Tys) (ts : List Term) → IsGoodSymbol env s → length ts ≡ length (symbol_profile s).args →
    map (inst σ) (parts_of_symbol (Some s) As ts) ≡ parts_of_symbol (Some s) As (map (inst σ) ts)
symbol-inst env σ (ConOf d c) As ts h e = refl
symbol-inst env σ (DesOf d c i f) As ts h e = destructor-inst σ d.name c As ts
symbol-inst env σ (ConstantOf sig o) As ts h e = condition-inst σ o As ts (use_fits env sig o (length ts) h e)
symbol-inst env σ (DirectOf sig o body) As ts h e = condition-inst σ o As ts (use_fits env sig o (length ts) h e)
symbol-inst env σ (RecursiveOf sig o place bodies) As ts h e = condition-inst σ o As ts (use_fits env sig o (length ts) h e)

-- A substitution that, under any number of binders, puts in terms that are always defined and not `true`.
pub record IsPure (env : Env) (σ : ℕ → Term) : Type 0 where
  pub plain : (n : ℕ) → IsNoTruth (lifts n σ)
  pub defined : (n i : ℕ) → wd env (lifts n σ i) ≡ truth

pure_lifts : (env : Env) (k : ℕ) (σ : ℕ → Term) → IsPure env σ → IsPure env (lifts k σ)
pure_lifts env k σ h = record {
  plain = λ n. transport IsNoTruth (sym (lifts-lifts n k σ)) (h.plain (k + n));
  defined = λ n i. ap (λ τ. wd env (τ i)) (lifts-lifts n k σ) ∙ h.defined (k + n) i;
}

term_list-insts : (σ : ℕ → Term) (ts : Terms) → term_list (insts σ ts) ≡ map (inst σ) (term_list ts)
term_list-insts σ nil = refl
term_list-insts σ (cons t ts) = ap (λ us. inst σ t ∷ us) (term_list-insts σ ts)

-- Base symbols, from what holds of their children.
abbrev Goes : Env → (ℕ → Term) → ℕ → Rule → Type 0
Goes env σ k r = (D : List Ty) (As : Tys) (ts : Terms) (p : Profile) → base_profile k ≡ Some p → AreTyped env D ts (map (type_inst (type_at As)) p.args) →
    wd_base r As (term_list (insts (lifts (binds (Base k)) σ) ts)) (map (inst (lifts (binds (Base k)) σ)) (wds env ts)) ≡ inst σ (wd_base r As (term_list ts) (wds env ts))

guard_goes : (env : Env) (σ : ℕ → Term) → IsNoTruth σ → (make : Term → Term → Term) → ((P Q : Term) → inst σ (make P Q) ≡ make (inst σ P) (inst σ Q)) → (ts : Terms) →
    guarded make (term_list (insts σ ts)) (map (inst σ) (wds env ts)) ≡ inst σ (guarded make (term_list ts) (wds env ts))
guard_goes env σ h make m ts =
    ap (λ us. guarded make us (map (inst σ) (wds env ts))) (term_list-insts σ ts) ∙ sym (guarded-inst σ h make m (term_list ts) (wds env ts))

bound_goes : (env : Env) (σ : ℕ → Term) (D : List Ty) (As : Tys) (ts : Terms) (B : Ty) → AreTyped env D ts (B ∷ []) →
    closed_over As (map (inst (lift σ)) (wds env ts)) ≡ inst σ (closed_over As (wds env ts))
bound_goes env σ D As nil B h = absurd h
bound_goes env σ D As (cons P nil) B h = sym (all-inst σ (type_at As 0) (wd env P))
bound_goes env σ D As (cons P (cons Q ts)) B h = absurd h.1

children_go : (env : Env) (σ : ℕ → Term) → IsNoTruth σ → (a : Demand) (As : Tys) (ts : Terms) (b : ℕ) → b ≡ 0 →
    joined (map (inst (lifts b σ)) (wds env ts) ++ parts_of a As (term_list (insts (lifts b σ) ts))) ≡ inst σ (joined (wds env ts ++ parts_of a As (term_list ts)))
children_go env σ h a As ts b e =
    transport (λ k. joined (map (inst (lifts k σ)) (wds env ts) ++ parts_of a As (term_list (insts (lifts k σ) ts))) ≡ inst σ (joined (wds env ts ++ parts_of a As (term_list ts))))
    (sym e)
    (sym (map-parts σ h (wds env ts) (parts_of a As (term_list ts)) (parts_of a As (term_list (insts σ ts)))
    (parts-inst σ a As (term_list ts) ∙ ap (parts_of a As) (sym (term_list-insts σ ts)))))

base_cases : (env : Env) (σ : ℕ → Term) → IsNoTruth σ → RuleCases (Goes env σ)
unfolding binds
base_cases env σ h = record {
  conjunction = λ D As ts p e g. guard_goes env σ h make_imp (imp-inst σ h) ts;
  implication = λ D As ts p e g. guard_goes env σ h make_imp (imp-inst σ h) ts;
  disjunction = λ D As ts p e g. guard_goes env σ h make_or (or-inst σ h) ts;
  for_all = λ D As ts p e g. bound_goes env σ D As ts Prop (transport (λ Bs. AreTyped env D ts (map (type_inst (type_at As)) Bs)) (sym (ap args_or e)) g);
  for_some = λ D As ts p e g. bound_goes env σ D As ts Prop (transport (λ Bs. AreTyped env D ts (map (type_inst (type_at As)) Bs)) (sym (ap args_or e)) g);
  set_former = λ D As ts p e g. bound_goes env σ D As ts Prop (transport (λ Bs. AreTyped env D ts (map (type_inst (type_at As)) Bs)) (sym (ap args_or e)) g);
  application = λ D As ts p e g. children_go env σ h Application As ts 0 refl;
  quotient = λ D As ts p e g. children_go env σ h Quotient As ts 0 refl;
  remainder = λ D As ts p e g. children_go env σ h Remainder As ts 0 refl;
  power = λ D As ts p e g. children_go env σ h Power As ts 0 refl;
  cardinality = λ D As ts p e g. children_go env σ h Cardinality As ts 0 refl;
  intersection = λ D As ts p e g. children_go env σ h Intersection As ts 0 refl;
  minimum = λ D As ts p e g. children_go env σ h Minimum As ts 0 refl;
  maximum = λ D As ts p e g. children_go env σ h Maximum As ts 0 refl;
  others = λ k z D As ts p e g. children_go env σ h Nothing As ts (binds (Base k)) z;
}

-- Declared symbols.
user_goes : (env : Env) → IsWellFormed env → (σ : ℕ → Term) → IsNoTruth σ → (n : Name) (As : Tys) (ts : Terms) (s : Symbol) → find_symbol env n ≡ Some s →
    length (term_list ts) ≡ length (symbol_profile s).args →
    joined (map (inst σ) (wds env ts) ++ parts_of_symbol (find_symbol env n) As (term_list (insts σ ts))) ≡ inst σ (joined (wds env ts ++ parts_of_symbol (find_symbol env n) As (term_list ts)))
user_goes env w σ h n As ts s e c =
    sym (map-parts σ h (wds env ts) (parts_of_symbol (find_symbol env n) As (term_list ts)) (parts_of_symbol (find_symbol env n) As (term_list (insts σ ts)))
    (ap (λ o. map (inst σ) (parts_of_symbol o As (term_list ts))) e
    ∙ symbol-inst env σ s As (term_list ts) (good_symbol env w n s e) c
    ∙ ap (parts_of_symbol (Some s) As) (sym (term_list-insts σ ts))
    ∙ ap (λ o. parts_of_symbol o As (term_list (insts σ ts))) (sym e)))

length_map : (f : Ty → Ty) (As : List Ty) → length (map f As) ≡ length As
length_map f [] = refl
length_map f (A ∷ As) = ap suc (length_map f As)

mutual
  unfolding binds

  pub wd-inst : (env : Env) → IsWellFormed env → (t : Term) (C : List Ty) (A : Ty) → Typed env C t A → (σ : ℕ → Term) → IsPure env σ → wd env (inst σ t) ≡ inst σ (wd env t)
  wd-inst env w (var i) C A h σ k = k.defined 0 i
  wd-inst env w (lit n) C A h σ k = refl
  wd-inst env w (node (Base j) As ts) C A h σ k =
      some_out (base_profile j) (λ p e g.
      ap (wd_base (rule_of j) As (term_list (insts (lifts (binds (Base j)) σ) ts)))
      (wds-inst env w ts (inside C (Base j) As) (map (type_inst (type_at As)) p.args) g.children (lifts (binds (Base j)) σ) (pure_lifts env (binds (Base j)) σ k))
      ∙ rule_cases (Goes env σ) (base_cases env σ (k.plain 0)) j (inside C (Base j) As) As ts p e g.children) h
  wd-inst env w (node (User n) As ts) C A h σ k =
      some_out (profile env (User n)) (λ p e g.
      ap (λ Ds. joined (Ds ++ parts_of_symbol (find_symbol env n) As (term_list (insts σ ts))))
      (wds-inst env w ts (inside C (User n) As) (map (type_inst (type_at As)) p.args) g.children σ k)
      ∙ some_symbol (find_symbol env n) p e (λ s f q.
      user_goes env w σ (k.plain 0) n As ts s f
      (child_count env (inside C (User n) As) ts (map (type_inst (type_at As)) p.args) g.children ∙ length_map (type_inst (type_at As)) p.args ∙ ap (λ (r : Profile). length r.args) (sym q)))) h

  pub wds-inst : (env : Env) → IsWellFormed env → (ts : Terms) (C As : List Ty) → AreTyped env C ts As → (σ : ℕ → Term) → IsPure env σ → wds env (insts σ ts) ≡ map (inst σ) (wds env ts)
  wds-inst env w nil C As h σ k = refl
  wds-inst env w (cons t ts) C [] h σ k = absurd h
  wds-inst env w (cons t ts) C (A ∷ As) h σ k =
      let p = wd-inst env w t C A h.0 σ k in let q = wds-inst env w ts C As h.1 σ k in cc

-- A shift.
lifts_var : (n : ℕ) (ρ : ℕ → ℕ) (i : ℕ) → lifts n (λ j. var (ρ j)) i ≡ var (lift_rens n ρ i)
lifts_var zero ρ i = refl
lifts_var (suc n) ρ zero = refl
lifts_var (suc n) ρ (suc i) = ap (λ t. shift t 0 1) (lifts_var n ρ i) ∙ shift_one (var (lift_rens n ρ i))

variables_pure : (env : Env) (ρ : ℕ → ℕ) → IsPure env (λ i. var (ρ i))
variables_pure env ρ = record {
  plain = λ n i. ap is_truth (lifts_var n ρ i);
  defined = λ n i. ap (wd env) (lifts_var n ρ i);
}

pub shift_law : ConditionOfShift
shift_law env w C t A h from by =
    ap (wd env) (shift-inst t from by) ∙ wd-inst env w t C A h (λ i. var (shift_var from by i)) (variables_pure env (shift_var from by)) ∙ sym (shift-inst (wd env t) from by)

-- Terms that are always defined.
record IsGoodEntry (env : Env) (u : Term) : Type 0 where
  plain : is_truth u ≡ false
  defined : (n : ℕ) → wd env (shift u 0 n) ≡ truth

good_entry : (env : Env) → IsWellFormed env → (C As : List Ty) (ts : List Term) → AreTyped env C (terms ts) As → AllByRecursion (IsDefined env) ts → (i : ℕ) → IsGoodEntry env (entry ts i)
good_entry env w C As [] h g i = record { plain = refl; defined = λ n. refl }
good_entry env w C [] (t ∷ ts) h g i = absurd h
good_entry env w C (A ∷ As) (t ∷ ts) h g zero =
    record { plain = no_truth t g.0.1; defined = λ n. shift_law env w C t A h.0 0 n ∙ ap (λ u. shift u 0 n) g.0.0 }
good_entry env w C (A ∷ As) (t ∷ ts) h g (suc i) = good_entry env w C As ts h.1 g.1 i

plain_shift : (u : Term) (n : ℕ) → is_truth (shift u 0 n) ≡ is_truth u
plain_shift u n = ap is_truth (shift-inst u 0 n) ∙ is_truth-inst (λ i. var (shift_var 0 n i)) (λ i. refl) u

entries_pure : (env : Env) → IsWellFormed env → (C As : List Ty) (ts : List Term) → AreTyped env C (terms ts) As → AllByRecursion (IsDefined env) ts → IsPure env (entry ts)
entries_pure env w C As ts h g = record {
  plain = λ n i.
      ⊎_elim (λ k. ap is_truth (lifts-below n (entry ts) i k))
      (λ k. ap is_truth (lifts-past n (entry ts) i k) ∙ plain_shift (entry ts (i - n)) n ∙ (good_entry env w C As ts h g (i - n)).plain)
      (cases_lt i n);
  defined = λ n i.
      ⊎_elim (λ k. ap (wd env) (lifts-below n (entry ts) i k))
      (λ k. ap (wd env) (lifts-past n (entry ts) i k) ∙ (good_entry env w C As ts h g (i - n)).defined n)
      (cases_lt i n);
}

pub subst_law : ConditionOfSubstitution
subst_law env w C As ts h g t A k = wd-inst env w t (C ++ reverse As) A k (entry ts) (entries_pure env w C As ts h g)
