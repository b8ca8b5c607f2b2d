-- The condition of a typed term is a typed predicate.
use Rattle.std.specs.Prelude.{◌≡◌, ◌+◌, ◌||◌, ℕ, zero, suc, pred, Bool as Boolean, true, false, if◌then◌else◌, List, [], ◌∷◌, ◌++◌, Option, Some, None, map, length, take, reverse, slice_get, IsSomeAnd, option_map, refl}
use Rattle.std.specs.List.{AllByRecursion}
use Rattle.std.proofs.Common.{ap, sym, ◌∙◌, subst, append_assoc, arith}
use Rattle.std.proofs.lemmas.List.{reverse-append}
use Rattle.ev_terms.specs.declared.types.Ty.{Ty, Int, Prop, Data as DataType}
use Rattle.ev_terms.specs.declared.types.Tys.{Tys, Empty}
use Rattle.ev_terms.specs.declared.types.Sym.{Sym}
use Rattle.ev_terms.specs.declared.types.Sym.TheVariants.{Base, User}
use Rattle.ev_terms.specs.Types.{pow, prod, more, type_list}
use Rattle.ev_terms.specs.Term.{Term, Terms, var, lit, node, nil, cons, terms, term_list, terms-term_list}
use Rattle.ev_terms.specs.Symbols.{binds}
use Rattle.ev_terms.specs.Substitution.{shift, instance, type_inst, type_at}
use Rattle.ev_terms.proofs.Subst.{ren, rens, lift_ren, lift_rens, ren-is_inst}
use Rattle.ev_terms.proofs.Laws.{inst-id}
use Rattle.ev_typing.specs.declared.typing.Con.{Con}
use Rattle.ev_typing.specs.declared.typing.DataDecl.{DataDecl}
use Rattle.ev_typing.specs.declared.typing.Signature.{Signature}
use Rattle.ev_typing.specs.Profiles.{Profile, base_profile}
use Rattle.ev_typing.specs.Env.{Env, Name, Symbol, ConOf, DesOf, ConstantOf, DirectOf, RecursiveOf, find_symbol, field_types, symbol_profile, profile}
use Rattle.ev_typing.specs.Occurs.{has_var, have_var}
use Rattle.ev_typing.specs.Typing.{IsProper, AreProper, Typed, AreTyped, IsTypedNode, var_type, inside}
use Rattle.ev_typing.specs.WellFormed.{IsWellFormed}
use Rattle.ev_typing.proofs.Keeps.{var_here, var_later, some_map, inside_length, ren_typed, shift_typed, fill_typed}
use Rattle.ev_typing.proofs.Names.{all_append}
use Rattle.ev_typing.proofs.TypeInstances.{instance_typed}
use Rattle.ev_typing.proofs.Proper.{proper_at, proper_inst}
use Rattle.ev_typing.proofs.Signatures.{own_type_at}
use Rattle.ev_forms.specs.Base.{at_type}
use Rattle.ev_forms.specs.Forms.{two_types, truth, is_truth, neg, conj, disj, imp, forall, exists, exists_all, eq, mem, less, at_most, finite, whole, empty, domain, partial_functions, vars, call}
use Rattle.ev_wd.specs.declared.rows.Rule.{Rule}
use Rattle.ev_wd.specs.declared.rows.Demand.{Demand}
use Rattle.ev_wd.specs.declared.rows.Demand.TheVariants.{Nothing, Application, Quotient, Remainder, Power, Cardinality, Intersection, Minimum, Maximum}
use Rattle.ev_wd.specs.Rows.{apply_row, over_row, mod_row, power_row, card_row, big_inter_row, min_row, max_row, and_row, implies_row, or_row}
use Rattle.ev_wd.specs.Makers.{make_and, make_imp, make_or, make_all, lowered, joined_after, joined}
use Rattle.ev_wd.specs.Demands.{is_not_empty, is_bounded, is_in_domain, is_partial_function, parts_of}
use Rattle.ev_wd.specs.WellDefined.{is_made_by, parts_of_condition, parts_of_symbol, guarded, closed_over, wd_base, wd, wds}
use Rattle.ev_wd.specs.ConditionLaws.{ConditionIsTyped}
use Rattle.ev_wd.proofs.Destructing.{length-types}
use Rattle.ev_wd.proofs.Rules.{RuleCases, rule_cases, append_nil, or_false, apart, args_or, params_or, some_out, some_symbol, IsGoodUse, IsGoodField, IsGoodSymbol, good_symbol}

-- A symbol that binds nothing.
outside : (C : List Ty) (s : Sym) (As : Tys) → binds s ≡ 0 → inside C s As ≡ C
outside C s As e = ap (λ k. C ++ take k (type_list As)) e ∙ append_nil C

typed_base : (env : Env) (C : List Ty) (k : ℕ) (As : Tys) (ts : Terms) (A : Ty) → binds (Base k) ≡ 0 →
    IsSomeAnd (base_profile k) (λ p. IsTypedNode env As p A (AreTyped env C ts (map (type_inst (type_at As)) p.args))) → Typed env C (node (Base k) As ts) A
typed_base env C k As ts A b h =
    some_map (base_profile k) (λ p e g. record {
      count = g.count;
      proper = g.proper;
      children = subst (λ D. AreTyped env D ts (map (type_inst (type_at As)) p.args)) (sym (outside C (Base k) As b)) g.children;
      result = g.result;
    }) h

-- The terms that conditions are made of.
truth_typed : (env : Env) (C : List Ty) → Typed env C truth Prop
truth_typed env C = record { count = refl; proper = tt; children = tt; result = refl }

conj_typed : (env : Env) (C : List Ty) (P Q : Term) → Typed env C P Prop → Typed env C Q Prop → Typed env C (conj P Q) Prop
unfolding binds
conj_typed env C P Q p q = typed_base env C 3 Empty (cons P (cons Q nil)) Prop refl (record { count = refl; proper = tt; children = (p, (q, tt)); result = refl })

disj_typed : (env : Env) (C : List Ty) (P Q : Term) → Typed env C P Prop → Typed env C Q Prop → Typed env C (disj P Q) Prop
unfolding binds
disj_typed env C P Q p q = typed_base env C 4 Empty (cons P (cons Q nil)) Prop refl (record { count = refl; proper = tt; children = (p, (q, tt)); result = refl })

impl_typed : (env : Env) (C : List Ty) (P Q : Term) → Typed env C P Prop → Typed env C Q Prop → Typed env C (imp P Q) Prop
unfolding binds
impl_typed env C P Q p q = typed_base env C 5 Empty (cons P (cons Q nil)) Prop refl (record { count = refl; proper = tt; children = (p, (q, tt)); result = refl })

neg_typed : (env : Env) (C : List Ty) (P : Term) → Typed env C P Prop → Typed env C (neg P) Prop
unfolding binds
neg_typed env C P p = typed_base env C 2 Empty (cons P nil) Prop refl (record { count = refl; proper = tt; children = (p, tt); result = refl })

forall_typed : (env : Env) (C : List Ty) (A : Ty) (P : Term) → IsProper env A → Typed env (C ++ A ∷ []) P Prop → Typed env C (forall A P) Prop
unfolding binds
forall_typed env C A P a p = record { count = refl; proper = (a, tt); children = (p, tt); result = refl }

exists_typed : (env : Env) (C : List Ty) (A : Ty) (P : Term) → IsProper env A → Typed env (C ++ A ∷ []) P Prop → Typed env C (exists A P) Prop
unfolding binds
exists_typed env C A P a p = record { count = refl; proper = (a, tt); children = (p, tt); result = refl }

eq_typed : (env : Env) (C : List Ty) (A : Ty) (s t : Term) → IsProper env A → Typed env C s A → Typed env C t A → Typed env C (eq A s t) Prop
unfolding binds
eq_typed env C A s t a p q = typed_base env C 9 (at_type A) (cons s (cons t nil)) Prop refl (record { count = refl; proper = (a, tt); children = (p, (q, tt)); result = refl })

mem_typed : (env : Env) (C : List Ty) (A : Ty) (s t : Term) → IsProper env A → Typed env C s A → Typed env C t (pow A) → Typed env C (mem A s t) Prop
unfolding binds
mem_typed env C A s t a p q = typed_base env C 10 (at_type A) (cons s (cons t nil)) Prop refl (record { count = refl; proper = (a, tt); children = (p, (q, tt)); result = refl })

less_typed : (env : Env) (C : List Ty) (s t : Term) → Typed env C s Int → Typed env C t Int → Typed env C (less s t) Prop
unfolding binds
less_typed env C s t p q = typed_base env C 12 Empty (cons s (cons t nil)) Prop refl (record { count = refl; proper = tt; children = (p, (q, tt)); result = refl })

at_most_typed : (env : Env) (C : List Ty) (s t : Term) → Typed env C s Int → Typed env C t Int → Typed env C (at_most s t) Prop
unfolding binds
at_most_typed env C s t p q = typed_base env C 13 Empty (cons s (cons t nil)) Prop refl (record { count = refl; proper = tt; children = (p, (q, tt)); result = refl })

finite_typed : (env : Env) (C : List Ty) (A : Ty) (S : Term) → IsProper env A → Typed env C S (pow A) → Typed env C (finite A S) Prop
unfolding binds
finite_typed env C A S a p = typed_base env C 14 (at_type A) (cons S nil) Prop refl (record { count = refl; proper = (a, tt); children = (p, tt); result = refl })

whole_typed : (env : Env) (C : List Ty) (A : Ty) → IsProper env A → Typed env C (whole A) (pow A)
whole_typed env C A a = record { count = refl; proper = (a, tt); children = tt; result = refl }

empty_typed : (env : Env) (C : List Ty) (A : Ty) → IsProper env A → Typed env C (empty A) (pow A)
empty_typed env C A a = record { count = refl; proper = (a, tt); children = tt; result = refl }

domain_typed : (env : Env) (C : List Ty) (A B : Ty) (f : Term) → IsProper env A → IsProper env B → Typed env C f (pow (prod A B)) → Typed env C (domain A B f) (pow A)
unfolding binds
domain_typed env C A B f a b p = typed_base env C 46 (two_types A B) (cons f nil) (pow A) refl (record { count = refl; proper = (a, (b, tt)); children = (p, tt); result = refl })

functions_typed : (env : Env) (C : List Ty) (A B : Ty) → IsProper env A → IsProper env B → Typed env C (partial_functions A B (whole A) (whole B)) (pow (pow (prod A B)))
unfolding binds
functions_typed env C A B a b =
    typed_base env C 39 (two_types A B) (cons (whole A) (cons (whole B) nil)) (pow (pow (prod A B))) refl
    (record { count = refl; proper = (a, (b, tt)); children = (whole_typed env C A a, (whole_typed env C B b, tt)); result = refl })

zero_typed : (env : Env) (C : List Ty) → Typed env C (lit 0) Int
zero_typed env C = (omega arith, refl)

not_empty_typed : (env : Env) (C : List Ty) (A : Ty) (S : Term) → IsProper env A → Typed env C S (pow A) → Typed env C (is_not_empty A S) Prop
not_empty_typed env C A S a p = neg_typed env C (eq (pow A) S (empty A)) (eq_typed env C (pow A) S (empty A) a p (empty_typed env C A a))

-- A term in which a variable does not occur keeps its type without that variable.
abbrev RenamesBut : ℕ → (ℕ → ℕ) → List Ty → List Ty → Type 0
RenamesBut k ρ C D = (i : ℕ) (A : Ty) → (i ≡ k → ⊥) → var_type C i ≡ Some A → var_type D (ρ i) ≡ Some A

but_lift : (k : ℕ) (ρ : ℕ → ℕ) (C D : List Ty) (B : Ty) → RenamesBut k ρ C D → RenamesBut (suc k) (lift_ren ρ) (C ++ B ∷ []) (D ++ B ∷ [])
but_lift k ρ C D B r zero A ne h = var_here D B ∙ sym (var_here C B) ∙ h
but_lift k ρ C D B r (suc i) A ne h = var_later D B (ρ i) ∙ r i A (λ e. ne (ap suc e)) (sym (var_later C B i) ∙ h)

inner_lift : (n : ℕ) (ρ : ℕ → ℕ) → lift_rens n (lift_ren ρ) ≡ lift_ren (lift_rens n ρ)
inner_lift zero ρ = refl
inner_lift (suc n) ρ = ap lift_ren (inner_lift n ρ)

but_lifts : (Bs : List Ty) (k : ℕ) (ρ : ℕ → ℕ) (C D : List Ty) → RenamesBut k ρ C D → RenamesBut (k + length Bs) (lift_rens (length Bs) ρ) (C ++ Bs) (D ++ Bs)
but_lifts [] k ρ C D r =
    let e : k ≡ k + 0 = omega arith in
    subst (λ X. RenamesBut (k + 0) ρ X (D ++ [])) (sym (append_nil C)) (subst (λ X. RenamesBut (k + 0) ρ C X) (sym (append_nil D)) (subst (λ j. RenamesBut j ρ C D) e r))
but_lifts (B ∷ Bs) k ρ C D r =
    let e : suc k + length Bs ≡ k + suc (length Bs) = omega arith in
    subst (λ j. RenamesBut j (lift_rens (suc (length Bs)) ρ) (C ++ B ∷ Bs) (D ++ B ∷ Bs)) e
    (subst (λ μ. RenamesBut (suc k + length Bs) μ (C ++ B ∷ Bs) (D ++ B ∷ Bs)) (inner_lift (length Bs) ρ)
    (subst (λ X. RenamesBut (suc k + length Bs) (lift_rens (length Bs) (lift_ren ρ)) X (D ++ B ∷ Bs)) (append_assoc C (B ∷ []) Bs)
    (subst (λ X. RenamesBut (suc k + length Bs) (lift_rens (length Bs) (lift_ren ρ)) ((C ++ B ∷ []) ++ Bs) X) (append_assoc D (B ∷ []) Bs)
    (but_lifts Bs (suc k) (lift_ren ρ) (C ++ B ∷ []) (D ++ B ∷ []) (but_lift k ρ C D B r)))))

but_inside : (env : Env) (s : Sym) (As : Tys) (p : Profile) (k : ℕ) (ρ : ℕ → ℕ) (C D : List Ty) → profile env s ≡ Some p → length (type_list As) ≡ p.params → RenamesBut k ρ C D →
    RenamesBut (k + binds s) (lift_rens (binds s) ρ) (inside C s As) (inside D s As)
but_inside env s As p k ρ C D e h r =
    subst (λ n. RenamesBut (k + n) (lift_rens n ρ) (inside C s As) (inside D s As)) (inside_length env s As p e h) (but_lifts (take (binds s) (type_list As)) k ρ C D r)

mutual
  but_typed : (env : Env) (k : ℕ) (ρ : ℕ → ℕ) (C D : List Ty) → RenamesBut k ρ C D → (t : Term) (A : Ty) → has_var k t ≡ false → Typed env C t A → Typed env D (ren ρ t) A
  but_typed env k ρ C D r (var i) A o h = r i A (apart i k o) h
  but_typed env k ρ C D r (lit n) A o h = h
  but_typed env k ρ C D r (node s As ts) A o h =
      some_map (profile env s) (λ p e g. record {
        count = g.count;
        proper = g.proper;
        children = all_but_typed env (k + binds s) (lift_rens (binds s) ρ) (inside C s As) (inside D s As) (but_inside env s As p k ρ C D e g.count r) ts (map (type_inst (type_at As)) p.args) o g.children;
        result = g.result;
      }) h

  all_but_typed : (env : Env) (k : ℕ) (ρ : ℕ → ℕ) (C D : List Ty) → RenamesBut k ρ C D → (ts : Terms) (As : List Ty) → have_var k ts ≡ false → AreTyped env C ts As → AreTyped env D (rens ρ ts) As
  all_but_typed env k ρ C D r nil [] o h = h
  all_but_typed env k ρ C D r nil (A ∷ As) o h = h
  all_but_typed env k ρ C D r (cons t ts) [] o h = h
  all_but_typed env k ρ C D r (cons t ts) (A ∷ As) o h =
      let f = or_false (has_var k t) (have_var k ts) o in
      (but_typed env k ρ C D r t A f.0 h.0, all_but_typed env k ρ C D r ts As f.1 h.1)

lowered_typed : (env : Env) (C : List Ty) (A B : Ty) (t : Term) → has_var 0 t ≡ false → Typed env (C ++ A ∷ []) t B → Typed env C (lowered t) B
lowered_typed env C A B t o h =
    subst (λ u. Typed env C u B) (ren-is_inst pred t) (but_typed env 0 pred (C ++ A ∷ []) C each t B o h)
  where
    each : (i : ℕ) (E : Ty) → (i ≡ 0 → ⊥) → var_type (C ++ A ∷ []) i ≡ Some E → var_type C (pred i) ≡ Some E
    each zero E ne g = absurd (ne refl)
    each (suc i) E ne g = sym (var_later C A i) ∙ g

-- The makers.
and_typed : (env : Env) (C : List Ty) (P Q : Term) → Typed env C P Prop → Typed env C Q Prop → Typed env C (make_and P Q) Prop
and_typed env C P Q p q = by (is_truth P) (is_truth Q)
  where
    by : (b c : Boolean) → Typed env C (if b then Q else (if c then P else conj P Q)) Prop
    by true c = q
    by false true = p
    by false false = conj_typed env C P Q p q

imp_typed : (env : Env) (C : List Ty) (P Q : Term) → Typed env C P Prop → Typed env C Q Prop → Typed env C (make_imp P Q) Prop
imp_typed env C P Q p q = by (is_truth Q) (is_truth P)
  where
    by : (b c : Boolean) → Typed env C (if b then truth else (if c then Q else imp P Q)) Prop
    by true c = truth_typed env C
    by false true = q
    by false false = impl_typed env C P Q p q

or_typed : (env : Env) (C : List Ty) (P Q : Term) → Typed env C P Prop → Typed env C Q Prop → Typed env C (make_or P Q) Prop
or_typed env C P Q p q = by (is_truth P) (is_truth Q)
  where
    by : (b c : Boolean) → Typed env C (if b || c then truth else disj P Q) Prop
    by true c = truth_typed env C
    by false true = truth_typed env C
    by false false = disj_typed env C P Q p q

all_typed : (env : Env) (C : List Ty) (A : Ty) (P : Term) → IsProper env A → Typed env (C ++ A ∷ []) P Prop → Typed env C (make_all A P) Prop
all_typed env C A P a p = by (has_var 0 P) refl
  where
    by : (b : Boolean) → has_var 0 P ≡ b → Typed env C (if b then forall A P else lowered P) Prop
    by true e = forall_typed env C A P a p
    by false e = lowered_typed env C A Prop P e p

abbrev pub AreConditions : Env → List Ty → List Term → Type 0
AreConditions env C Ds = AllByRecursion (λ D. Typed env C D Prop) Ds

after_typed : (env : Env) (C : List Ty) (P : Term) (Qs : List Term) → Typed env C P Prop → AreConditions env C Qs → Typed env C (joined_after P Qs) Prop
after_typed env C P [] p q = p
after_typed env C P (Q ∷ Qs) p q = after_typed env C (make_and P Q) Qs (and_typed env C P Q p q.0) q.1

joined_typed : (env : Env) (C : List Ty) (Ds ps : List Term) → AreConditions env C Ds → AreConditions env C ps → Typed env C (joined (Ds ++ ps)) Prop
joined_typed env C Ds ps h g = after_typed env C truth (Ds ++ ps) (truth_typed env C) (all_append _ Ds ps h g)

-- What base symbols ask.
shifted : (env : Env) (C E : List Ty) (t : Term) (A : Ty) → Typed env C t A → Typed env (C ++ E) (shift t 0 (length E)) A
shifted env C E t A h =
    subst (λ X. Typed env X (shift t 0 (length E)) A) (append_nil (C ++ E)) (shift_typed env C E [] t A (subst (λ X. Typed env X t A) (sym (append_nil C)) h))

bounded_typed : (env : Env) (C : List Ty) (P S : Term) → Typed env ((C ++ Int ∷ []) ++ Int ∷ []) P Prop → Typed env C S (pow Int) → Typed env C (is_bounded P S) Prop
bounded_typed env C P S p s =
    exists_typed env C Int (forall Int (imp (mem Int (var 0) (shift S 0 2)) P)) tt
    (forall_typed env (C ++ Int ∷ []) Int (imp (mem Int (var 0) (shift S 0 2)) P) tt
    (impl_typed env ((C ++ Int ∷ []) ++ Int ∷ []) (mem Int (var 0) (shift S 0 2)) P
    (mem_typed env ((C ++ Int ∷ []) ++ Int ∷ []) Int (var 0) (shift S 0 2) tt (var_here (C ++ Int ∷ []) Int)
    (subst (λ X. Typed env X (shift S 0 2) (pow Int)) (sym (append_assoc C (Int ∷ []) (Int ∷ []))) (shifted env C (Int ∷ Int ∷ []) S (pow Int) s))) p))

outer_var : (C : List Ty) → var_type ((C ++ Int ∷ []) ++ Int ∷ []) 1 ≡ Some Int
outer_var C = var_later (C ++ Int ∷ []) Int 0 ∙ var_here C Int

in_domain_typed : (env : Env) (C : List Ty) (A B : Ty) (f x : Term) → IsProper env A → IsProper env B → Typed env C f (pow (prod A B)) → Typed env C x A →
    Typed env C (is_in_domain A B f x) Prop
in_domain_typed env C A B f x a b p q = mem_typed env C A x (domain A B f) a q (domain_typed env C A B f a b p)

function_typed : (env : Env) (C : List Ty) (A B : Ty) (f : Term) → IsProper env A → IsProper env B → Typed env C f (pow (prod A B)) → Typed env C (is_partial_function A B f) Prop
function_typed env C A B f a b p = mem_typed env C (pow (prod A B)) f (partial_functions A B (whole A) (whole B)) (a, b) p (functions_typed env C A B a b)

-- Base symbols, from what holds of their children.
abbrev Goes : Env → ℕ → Rule → Type 0
Goes env k r = (C : List Ty) (As : Tys) (ts : Terms) (p : Profile) → base_profile k ≡ Some p → length (type_list As) ≡ p.params → AreProper env As →
    AreTyped env (inside C (Base k) As) ts (map (type_inst (type_at As)) p.args) → AreConditions env (inside C (Base k) As) (wds env ts) →
    Typed env C (wd_base r As (term_list ts) (wds env ts)) Prop

guard_goes : (env : Env) (make : Term → Term → Term) →
    ((C : List Ty) (P Q : Term) → Typed env C P Prop → Typed env C Q Prop → Typed env C (make P Q) Prop) →
    (C : List Ty) (ts : Terms) → AreTyped env C ts (Prop ∷ Prop ∷ []) → AreConditions env C (wds env ts) → Typed env C (guarded make (term_list ts) (wds env ts)) Prop
guard_goes env make m C nil h g = absurd h
guard_goes env make m C (cons P nil) h g = absurd h.1
guard_goes env make m C (cons P (cons Q nil)) h g = and_typed env C (wd env P) (make P (wd env Q)) g.0 (m C P (wd env Q) h.0 g.1.0)
guard_goes env make m C (cons P (cons Q (cons R ts))) h g = absurd h.1.1

bound_goes : (env : Env) (C : List Ty) (As : Tys) (ts : Terms) → length (type_list As) ≡ 1 → AreProper env As → AreTyped env (C ++ take 1 (type_list As)) ts (Prop ∷ []) →
    AreConditions env (C ++ take 1 (type_list As)) (wds env ts) → Typed env C (closed_over As (wds env ts)) Prop
bound_goes env C Empty ts n a h g = absurd (omega (arith, n))
bound_goes env C (more A (more B As)) ts n a h g = absurd (omega (arith, n))
bound_goes env C (more A Empty) nil n a h g = absurd h
bound_goes env C (more A Empty) (cons P nil) n a h g = all_typed env C A (wd env P) a.0 g.0
bound_goes env C (more A Empty) (cons P (cons Q ts)) n a h g = absurd h.1

-- the children's conditions stand in the same context where nothing is bound
abbrev Asks : Env → ℕ → Demand → Type 0
Asks env k a = (C : List Ty) (As : Tys) (ts : Terms) → AreProper env As → AreTyped env C ts (map (type_inst (type_at As)) (args_or (base_profile k))) →
    AreConditions env C (parts_of a As (term_list ts))

children_go : (env : Env) (k : ℕ) (a : Demand) → binds (Base k) ≡ 0 → Asks env k a → (C : List Ty) (As : Tys) (ts : Terms) (p : Profile) → base_profile k ≡ Some p → AreProper env As →
    AreTyped env (inside C (Base k) As) ts (map (type_inst (type_at As)) p.args) → AreConditions env (inside C (Base k) As) (wds env ts) →
    Typed env C (joined (wds env ts ++ parts_of a As (term_list ts))) Prop
children_go env k a b asks C As ts p e proper h g =
    let i : inside C (Base k) As ≡ C = outside C (Base k) As b in
    joined_typed env C (wds env ts) (parts_of a As (term_list ts)) (subst (λ D. AreConditions env D (wds env ts)) i g)
    (asks C As ts proper (subst (λ Bs. AreTyped env C ts (map (type_inst (type_at As)) Bs)) (sym (ap args_or e)) (subst (λ D. AreTyped env D ts (map (type_inst (type_at As)) p.args)) i h)))

asks_nothing : (env : Env) (k : ℕ) → Asks env k Nothing
asks_nothing env k C As nil a h = tt
asks_nothing env k C As (cons S nil) a h = tt
asks_nothing env k C As (cons E (cons F nil)) a h = tt
asks_nothing env k C As (cons E (cons F (cons G ts))) a h = tt

asks_application : (env : Env) → Asks env apply_row Application
asks_application env C As nil a h = tt
asks_application env C As (cons f nil) a h = tt
asks_application env C As (cons f (cons x nil)) a h =
    let A = proper_at env As 0 a in let B = proper_at env As 1 a in
    (in_domain_typed env C (type_at As 0) (type_at As 1) f x A B h.0 h.1.0, (function_typed env C (type_at As 0) (type_at As 1) f A B h.0, tt))
asks_application env C As (cons E (cons F (cons G ts))) a h = tt

asks_quotient : (env : Env) → Asks env over_row Quotient
asks_quotient env C As nil a h = tt
asks_quotient env C As (cons E nil) a h = tt
asks_quotient env C As (cons E (cons F nil)) a h = (neg_typed env C (eq Int F (lit 0)) (eq_typed env C Int F (lit 0) tt h.1.0 (zero_typed env C)), tt)
asks_quotient env C As (cons E (cons F (cons G ts))) a h = tt

asks_remainder : (env : Env) → Asks env mod_row Remainder
asks_remainder env C As nil a h = tt
asks_remainder env C As (cons E nil) a h = tt
asks_remainder env C As (cons E (cons F nil)) a h =
    (at_most_typed env C (lit 0) E (zero_typed env C) h.0, (less_typed env C (lit 0) F (zero_typed env C) h.1.0, tt))
asks_remainder env C As (cons E (cons F (cons G ts))) a h = tt

asks_power : (env : Env) → Asks env power_row Power
asks_power env C As nil a h = tt
asks_power env C As (cons E nil) a h = tt
asks_power env C As (cons E (cons F nil)) a h =
    (at_most_typed env C (lit 0) E (zero_typed env C) h.0, (at_most_typed env C (lit 0) F (zero_typed env C) h.1.0, tt))
asks_power env C As (cons E (cons F (cons G ts))) a h = tt

asks_cardinality : (env : Env) → Asks env card_row Cardinality
asks_cardinality env C As nil a h = tt
asks_cardinality env C As (cons S nil) a h = (finite_typed env C (type_at As 0) S (proper_at env As 0 a) h.0, tt)
asks_cardinality env C As (cons E (cons F nil)) a h = tt
asks_cardinality env C As (cons E (cons F (cons G ts))) a h = tt

asks_intersection : (env : Env) → Asks env big_inter_row Intersection
asks_intersection env C As nil a h = tt
asks_intersection env C As (cons S nil) a h = (not_empty_typed env C (pow (type_at As 0)) S (proper_at env As 0 a) h.0, tt)
asks_intersection env C As (cons E (cons F nil)) a h = tt
asks_intersection env C As (cons E (cons F (cons G ts))) a h = tt

asks_minimum : (env : Env) → Asks env min_row Minimum
asks_minimum env C As nil a h = tt
asks_minimum env C As (cons S nil) a h = (
  not_empty_typed env C Int S tt h.0,
  (
    bounded_typed env C (at_most (var 1) (var 0)) S
        (at_most_typed env ((C ++ Int ∷ []) ++ Int ∷ []) (var 1) (var 0) (outer_var C) (var_here (C ++ Int ∷ []) Int)) h.0,
    tt,
  ),
)
asks_minimum env C As (cons E (cons F nil)) a h = tt
asks_minimum env C As (cons E (cons F (cons G ts))) a h = tt

asks_maximum : (env : Env) → Asks env max_row Maximum
asks_maximum env C As nil a h = tt
asks_maximum env C As (cons S nil) a h = (
  not_empty_typed env C Int S tt h.0,
  (
    bounded_typed env C (at_most (var 0) (var 1)) S
        (at_most_typed env ((C ++ Int ∷ []) ++ Int ∷ []) (var 0) (var 1) (var_here (C ++ Int ∷ []) Int) (outer_var C)) h.0,
    tt,
  ),
)
asks_maximum env C As (cons E (cons F nil)) a h = tt
asks_maximum env C As (cons E (cons F (cons G ts))) a h = tt

guards : (env : Env) (k : ℕ) (make : Term → Term → Term) → binds (Base k) ≡ 0 → args_or (base_profile k) ≡ Prop ∷ Prop ∷ [] →
    ((C : List Ty) (P Q : Term) → Typed env C P Prop → Typed env C Q Prop → Typed env C (make P Q) Prop) →
    (C : List Ty) (As : Tys) (ts : Terms) (p : Profile) → base_profile k ≡ Some p → AreTyped env (inside C (Base k) As) ts (map (type_inst (type_at As)) p.args) →
    AreConditions env (inside C (Base k) As) (wds env ts) → Typed env C (guarded make (term_list ts) (wds env ts)) Prop
guards env k make b two m C As ts p e h g =
    let i : inside C (Base k) As ≡ C = outside C (Base k) As b in
    let q : p.args ≡ Prop ∷ Prop ∷ [] = sym (ap args_or e) ∙ two in
    guard_goes env make m C ts
    (subst (λ Bs. AreTyped env C ts (map (type_inst (type_at As)) Bs)) q (subst (λ D. AreTyped env D ts (map (type_inst (type_at As)) p.args)) i h))
    (subst (λ D. AreConditions env D (wds env ts)) i g)

base_cases : (env : Env) → RuleCases (Goes env)
unfolding binds
base_cases env = record {
  conjunction = λ C As ts p e n a h g. guards env and_row make_imp refl refl (imp_typed env) C As ts p e h g;
  implication = λ C As ts p e n a h g. guards env implies_row make_imp refl refl (imp_typed env) C As ts p e h g;
  disjunction = λ C As ts p e n a h g. guards env or_row make_or refl refl (or_typed env) C As ts p e h g;
  for_all = λ C As ts p e n a h g. bound_goes env C As ts (n ∙ sym (ap params_or e)) a (subst (λ Bs. AreTyped env (C ++ take 1 (type_list As)) ts (map (type_inst (type_at As)) Bs)) (sym (ap args_or e)) h) g;
  for_some = λ C As ts p e n a h g. bound_goes env C As ts (n ∙ sym (ap params_or e)) a (subst (λ Bs. AreTyped env (C ++ take 1 (type_list As)) ts (map (type_inst (type_at As)) Bs)) (sym (ap args_or e)) h) g;
  set_former = λ C As ts p e n a h g. bound_goes env C As ts (n ∙ sym (ap params_or e)) a (subst (λ Bs. AreTyped env (C ++ take 1 (type_list As)) ts (map (type_inst (type_at As)) Bs)) (sym (ap args_or e)) h) g;
  application = λ C As ts p e n a h g. children_go env apply_row Application refl (asks_application env) C As ts p e a h g;
  quotient = λ C As ts p e n a h g. children_go env over_row Quotient refl (asks_quotient env) C As ts p e a h g;
  remainder = λ C As ts p e n a h g. children_go env mod_row Remainder refl (asks_remainder env) C As ts p e a h g;
  power = λ C As ts p e n a h g. children_go env power_row Power refl (asks_power env) C As ts p e a h g;
  cardinality = λ C As ts p e n a h g. children_go env card_row Cardinality refl (asks_cardinality env) C As ts p e a h g;
  intersection = λ C As ts p e n a h g. children_go env big_inter_row Intersection refl (asks_intersection env) C As ts p e a h g;
  minimum = λ C As ts p e n a h g. children_go env min_row Minimum refl (asks_minimum env) C As ts p e a h g;
  maximum = λ C As ts p e n a h g. children_go env max_row Maximum refl (asks_maximum env) C As ts p e a h g;
  others = λ k z C As ts p e n a h g. children_go env k Nothing z (asks_nothing env k) C As ts p e a h g;
}

-- What a destructor asks.
exists_all_typed : (env : Env) (Bs C : List Ty) (P : Term) → AllByRecursion (IsProper env) Bs → Typed env (C ++ Bs) P Prop → Typed env C (exists_all Bs P) Prop
exists_all_typed env [] C P a h = subst (λ X. Typed env X P Prop) (append_nil C) h
exists_all_typed env (B ∷ Bs) C P a h =
    exists_typed env C B (exists_all Bs P) a.0
    (exists_all_typed env Bs (C ++ B ∷ []) P a.1 (subst (λ X. Typed env X P Prop) (sym (append_assoc C (B ∷ []) Bs)) h))

past_all : (C E : List Ty) (i : ℕ) → var_type (C ++ E) (i + length E) ≡ var_type C i
past_all C [] i = let e : i + 0 ≡ i = omega arith in ap (var_type (C ++ [])) e ∙ ap (λ X. var_type X i) (append_nil C)
past_all C (B ∷ Bs) i =
    let e : i + suc (length Bs) ≡ suc i + length Bs = omega arith in
    ap (var_type (C ++ B ∷ Bs)) e ∙ ap (λ X. var_type X (suc i + length Bs)) (sym (append_assoc C (B ∷ []) Bs)) ∙ past_all (C ++ B ∷ []) Bs (suc i) ∙ var_later C B i

vars_typed : (env : Env) (C Bs : List Ty) → AreTyped env (C ++ Bs) (terms (vars (length Bs))) Bs
vars_typed env C [] = tt
vars_typed env C (B ∷ Bs) =
    let e : length Bs + 0 ≡ 0 + length Bs = omega arith in (
      ap (var_type (C ++ B ∷ Bs)) e ∙ ap (λ X. var_type X (0 + length Bs)) (sym (append_assoc C (B ∷ []) Bs)) ∙ past_all (C ++ B ∷ []) Bs 0 ∙ var_here C B,
      subst (λ X. AreTyped env X (terms (vars (length Bs))) Bs) (append_assoc C (B ∷ []) Bs) (vars_typed env (C ++ B ∷ []) Bs),
    )

fields_proper : (env : Env) (As : Tys) (Bs : List Ty) → AreProper env As → AllByRecursion (IsProper env) Bs → AllByRecursion (IsProper env) (map (type_inst (type_at As)) Bs)
fields_proper env As [] a h = tt
fields_proper env As (B ∷ Bs) a h = (proper_inst env As B a h.0, fields_proper env As Bs a h.1)

made_typed : (env : Env) (d : DataDecl) (c : Con) (C : List Ty) (As : Tys) (e : Term) → IsGoodField env d c → length (type_list As) ≡ d.params → AreProper env As →
    Typed env C e (DataType d.name As) → Typed env C (is_made_by d.name c As e) Prop
unfolding binds
made_typed env d c C As e good n a h =
    exists_all_typed env Bs C (eq (DataType d.name As) (shift e 0 (length c.fields)) (call c.name As (vars (length c.fields)))) (fields_proper env As (field_types c) a good.proper)
    (subst (λ k. Typed env (C ++ Bs) (eq (DataType d.name As) (shift e 0 k) (call c.name As (vars k))) Prop) (length-types (type_at As) c.fields)
    (eq_typed env (C ++ Bs) (DataType d.name As) (shift e 0 (length Bs)) (call c.name As (vars (length Bs))) proper (shifted env C Bs e (DataType d.name As) h) made))
  where
    Bs : List Ty
    Bs = map (type_inst (type_at As)) (field_types c)

    proper : IsProper env (DataType d.name As)
    proper = (subst (λ o. IsSomeAnd o (λ x. length (type_list As) ≡ x.params)) (sym good.decl) n, a)

    made : Typed env (C ++ Bs) (call c.name As (vars (length Bs))) (DataType d.name As)
    made =
        subst (λ o. IsSomeAnd o (λ p. IsTypedNode env As p (DataType d.name As)
        (AreTyped env (inside (C ++ Bs) (User c.name) As) (terms (vars (length Bs))) (map (type_inst (type_at As)) p.args)))) (sym (ap (option_map symbol_profile) good.con))
        (record {
          count = n;
          proper = a;
          children = subst (λ D. AreTyped env D (terms (vars (length Bs))) Bs) (sym (outside (C ++ Bs) (User c.name) As refl)) (vars_typed env C Bs);
          result = sym (own_type_at As d n);
        })

-- What a condition asks.
front_var : (Bs Cs : List Ty) (i : ℕ) (A : Ty) → slice_get Bs i ≡ Some A → slice_get (Bs ++ Cs) i ≡ Some A
front_var [] Cs i A h = cc
front_var (B ∷ Bs) Cs zero A h = h
front_var (B ∷ Bs) Cs (suc i) A h = front_var Bs Cs i A h

wider : (env : Env) (C D : List Ty) (t : Term) (A : Ty) → Typed env D t A → Typed env (C ++ D) t A
wider env C D t A h =
    subst (λ u. Typed env (C ++ D) u A) (ren-is_inst (λ i. i) t ∙ inst-id t) (ren_typed env (λ i. i) D (C ++ D) each t A h)
  where
    each : (i : ℕ) (B : Ty) → var_type D i ≡ Some B → var_type (C ++ D) i ≡ Some B
    each i B g = ap (λ X. slice_get X i) (reverse-append C D) ∙ front_var (reverse D) (reverse C) i B g

use_typed : (env : Env) → IsWellFormed env → (sig : Signature) (o : Option Term) (C : List Ty) (As : Tys) (ts : Terms) → IsGoodUse env sig o → AreProper env As →
    AreTyped env C ts (map (type_inst (type_at As)) (type_list sig.args)) → AreConditions env C (parts_of_condition o As (term_list ts))
use_typed env w sig None C As ts h a g = tt
use_typed env w sig (Some P) C As ts h a g = (
  fill_typed env C (map (type_inst (type_at As)) (type_list sig.args)) (term_list ts)
      (subst (λ us. AreTyped env C us (map (type_inst (type_at As)) (type_list sig.args))) (sym (terms-term_list ts)) g)
      (instance P As) Prop
      (wider env C (map (type_inst (type_at As)) (type_list sig.args)) (instance P As) Prop (instance_typed env w As a (type_list sig.args) P Prop h.0)),
  tt,
)

symbol_typed : (env : Env) → IsWellFormed env → (s : Symbol) (C : List Ty) (As : Tys) (ts : Terms) → IsGoodSymbol env s → length (type_list As) ≡ (symbol_profile s).params → AreProper env As →
    AreTyped env C ts (map (type_inst (type_at As)) (symbol_profile s).args) → AreConditions env C (parts_of_symbol (Some s) As (term_list ts))
symbol_typed env w (ConOf d c) C As ts h n a g = tt
symbol_typed env w (DesOf d c i f) C As nil h n a g = tt
symbol_typed env w (DesOf d c i f) C As (cons e nil) h n a g =
    (made_typed env d c C As e h n a (subst (λ A. Typed env C e A) (own_type_at As d n) g.0), tt)
symbol_typed env w (DesOf d c i f) C As (cons e (cons u ts)) h n a g = tt
symbol_typed env w (ConstantOf sig o) C As ts h n a g = use_typed env w sig o C As ts h a g
symbol_typed env w (DirectOf sig o body) C As ts h n a g = use_typed env w sig o C As ts h a g
symbol_typed env w (RecursiveOf sig o place bodies) C As ts h n a g = use_typed env w sig o C As ts h a g

user_goes : (env : Env) → IsWellFormed env → (n : Name) (C : List Ty) (As : Tys) (ts : Terms) (s : Symbol) (p : Profile) → find_symbol env n ≡ Some s → symbol_profile s ≡ p →
    length (type_list As) ≡ p.params → AreProper env As → AreTyped env C ts (map (type_inst (type_at As)) p.args) → AreConditions env C (wds env ts) →
    Typed env C (joined (wds env ts ++ parts_of_symbol (find_symbol env n) As (term_list ts))) Prop
user_goes env w n C As ts s p e q c a h g =
    joined_typed env C (wds env ts) (parts_of_symbol (find_symbol env n) As (term_list ts)) g
    (subst (λ o. AreConditions env C (parts_of_symbol o As (term_list ts))) (sym e)
    (symbol_typed env w s C As ts (good_symbol env w n s e) (c ∙ ap (λ (r : Profile). r.params) (sym q)) a
    (subst (λ (r : Profile). AreTyped env C ts (map (type_inst (type_at As)) r.args)) (sym q) h)))

mutual
  unfolding binds

  pub wd_typed : (env : Env) → IsWellFormed env → (C : List Ty) (t : Term) (A : Ty) → Typed env C t A → Typed env C (wd env t) Prop
  wd_typed env w C (var i) A h = truth_typed env C
  wd_typed env w C (lit n) A h = truth_typed env C
  wd_typed env w C (node (Base j) As ts) A h =
      some_out (base_profile j) (λ p e g.
      rule_cases (Goes env) (base_cases env) j C As ts p e g.count g.proper g.children
      (wds_typed env w (inside C (Base j) As) ts (map (type_inst (type_at As)) p.args) g.children)) h
  wd_typed env w C (node (User n) As ts) A h =
      some_out (profile env (User n)) (λ p e g.
      some_symbol (find_symbol env n) p e (λ s f q.
      let i : inside C (User n) As ≡ C = outside C (User n) As refl in
      user_goes env w n C As ts s p f q g.count g.proper (subst (λ D. AreTyped env D ts (map (type_inst (type_at As)) p.args)) i g.children)
      (subst (λ D. AreConditions env D (wds env ts)) i (wds_typed env w (inside C (User n) As) ts (map (type_inst (type_at As)) p.args) g.children)))) h

  pub wds_typed : (env : Env) → IsWellFormed env → (C : List Ty) (ts : Terms) (As : List Ty) → AreTyped env C ts As → AreConditions env C (wds env ts)
  wds_typed env w C nil As h = tt
  wds_typed env w C (cons t ts) [] h = absurd h
  wds_typed env w C (cons t ts) (A ∷ As) h = (wd_typed env w C t A h.0, wds_typed env w C ts As h.1)

pub typed_law : ConditionIsTyped
typed_law env w C t A h = wd_typed env w C t A h
