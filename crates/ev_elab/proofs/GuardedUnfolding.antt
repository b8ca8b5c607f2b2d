-- A guarded term is guarded unfolded, where no unfolded body calls the operator.
use Rattle.std.specs.Prelude.{◌≡◌, ◌≤◌, ◌<◌, ◌+◌, ◌-◌, ℕ, zero, suc, nat_lt, if◌then◌else◌, Bool as Boolean, true, false, List, [], ◌∷◌, Option, Some, None, map, reverse, slice_get, bytes_eq, option_map, IsTrue, refl}
use Rattle.std.specs.List.{AllByRecursion}
use Rattle.std.proofs.Common.{ap, sym, ◌∙◌, subst as transport, true≢false, arith}
use Rattle.std.proofs.lemmas.Bool.Decides.{nat_tests}
use Rattle.ev_terms.specs.declared.types.Ty.{Ty}
use Rattle.ev_terms.specs.declared.types.Tys.{Tys}
use Rattle.ev_terms.specs.declared.types.Sym.{Sym}
use Rattle.ev_terms.specs.declared.types.Sym.TheVariants.{Base, User}
use Rattle.ev_terms.specs.Term.{Term, Terms, var, lit, node, nil, cons, term_list}
use Rattle.ev_terms.specs.Symbols.{binds}
use Rattle.ev_terms.specs.Substitution.{shift_var, shift, shifts, lifts, inst, insts, entry, instance, retype, retypes, type_inst, type_at}
use Rattle.ev_typing.specs.declared.typing.Signature.{Signature}
use Rattle.ev_typing.specs.Profiles.{Profile}
use Rattle.ev_typing.specs.Env.{Env, Name, look_up, profile}
use Rattle.ev_typing.specs.Typing.{Typed, AreTyped, inside}
use Rattle.ev_typing.proofs.Names.{same_name}
use Rattle.ev_data.specs.Guarded.{is_named, IsVarOf, seen_under, IsGuardedCall, IsGuarded, AreGuarded}
use Rattle.ev_ops.specs.Unfold.{Bodies, body_of, unfolded_node, unfold_by, unfold_all_by}
use Rattle.ev_ops.proofs.Basics.{all_reverse, some_out}

-- No symbol of the term has the name.
abbrev mutual
  pub NoCall : Name → Term → Type 0
  NoCall n (var i) = Unit {0}
  NoCall n (lit k) = Unit {0}
  NoCall n (node s As ts) = (is_named n s ≡ false) × NoCalls n ts

  pub NoCalls : Name → Terms → Type 0
  NoCalls n nil = Unit {0}
  NoCalls n (cons t ts) = NoCall n t × NoCalls n ts

module _ (n : Name) where
  mutual
    no_call_retype : (θ : ℕ → Ty) (t : Term) → NoCall n t → NoCall n (retype θ t)
    no_call_retype θ (var i) h = tt
    no_call_retype θ (lit k) h = tt
    no_call_retype θ (node s As ts) h = (h.0, no_calls_retype θ ts h.1)

    no_calls_retype : (θ : ℕ → Ty) (ts : Terms) → NoCalls n ts → NoCalls n (retypes θ ts)
    no_calls_retype θ nil h = tt
    no_calls_retype θ (cons t ts) h = (no_call_retype θ t h.0, no_calls_retype θ ts h.1)

  -- as of a term that is typed where the name is no symbol
  other_name : (env : Env) → profile env (User n) ≡ None → (s : Sym) (p : Profile) → profile env s ≡ Some p → is_named n s ≡ false
  other_name env u (Base k) p e = refl
  other_name env u (User m) p e = by (bytes_eq m n) refl
    where
      by : (b : Boolean) → bytes_eq m n ≡ b → b ≡ false
      by true f = let q : None ≡ Some p = sym u ∙ ap (λ x. profile env (User x)) (sym (same_name m n f)) ∙ e in cc
      by false f = refl

  mutual
    pub typed_no_call : (env : Env) → profile env (User n) ≡ None → (C : List Ty) (t : Term) (A : Ty) → Typed env C t A → NoCall n t
    typed_no_call env u C (var i) A h = tt
    typed_no_call env u C (lit k) A h = tt
    typed_no_call env u C (node s As ts) A h =
        some_out (profile env s) (λ p e g. (other_name env u s p e, typed_no_calls env u (inside C s As) ts (map (type_inst (type_at As)) p.args) g.children)) h

    typed_no_calls : (env : Env) → profile env (User n) ≡ None → (C : List Ty) (ts : Terms) (As : List Ty) → AreTyped env C ts As → NoCalls n ts
    typed_no_calls env u C nil As h = tt
    typed_no_calls env u C (cons t ts) [] h = absurd h
    typed_no_calls env u C (cons t ts) (A ∷ As) h = (typed_no_call env u C t A h.0, typed_no_calls env u C ts As h.1)

module _ (sig : Signature) (place : ℕ) where
  -- A variable stays one through a map of terms that takes variables so.
  var_kept : (P Q : ℕ → Type 0) (f : ℕ → ℕ) → ((i : ℕ) → P i → Q (f i)) → (g : Term → Term) → ((i : ℕ) → g (var i) ≡ var (f i)) → (o : Option Term) → IsVarOf P o → IsVarOf Q (option_map g o)
  var_kept P Q f k g e None h = h
  var_kept P Q f k g e (Some (var i)) h = transport (λ t. IsVarOf Q (Some t)) (sym (e i)) (k i h)
  var_kept P Q f k g e (Some (lit n)) h = absurd h
  var_kept P Q f k g e (Some (node s As ts)) h = absurd h

  child_shift : (ts : Terms) (from by i : ℕ) → slice_get (term_list (shifts ts from by)) i ≡ option_map (λ t. shift t from by) (slice_get (term_list ts) i)
  child_shift nil from by i = refl
  child_shift (cons t ts) from by zero = refl
  child_shift (cons t ts) from by (suc i) = child_shift ts from by i

  child_unfold : (bs : Bodies) (ts : Terms) (i : ℕ) → slice_get (term_list (unfold_all_by bs ts)) i ≡ option_map (unfold_by bs) (slice_get (term_list ts) i)
  child_unfold bs nil i = refl
  child_unfold bs (cons t ts) zero = refl
  child_unfold bs (cons t ts) (suc i) = child_unfold bs ts i

  under_shift : (n from by i : ℕ) → n ≤ i → (n ≤ shift_var (from + n) by i) × (shift_var (from + n) by i - n ≡ shift_var from by (i - n))
  under_shift n from by i h = by_test (nat_lt i (from + n)) refl (nat_lt (i - n) from) refl
    where
      by_test : (a : Boolean) → nat_lt i (from + n) ≡ a → (b : Boolean) → nat_lt (i - n) from ≡ b → (n ≤ (if a then i else i + by)) × ((if a then i else i + by) - n ≡ (if b then i - n else (i - n) + by))
      by_test true e true f = (h, refl)
      by_test true e false f = absurd (let x : i < from + n = grind (arith, nat_tests, e) in let y : from ≤ i - n = grind (arith, nat_tests, f) in omega (arith, x, y, h))
      by_test false e true f = absurd (let x : from + n ≤ i = grind (arith, nat_tests, e) in let y : i - n < from = grind (arith, nat_tests, f) in omega (arith, x, y, h))
      by_test false e false f = (omega (arith, h), omega (arith, h))

  seen_shift : (P Q : ℕ → Type 0) (n from by : ℕ) → ((i : ℕ) → P i → Q (shift_var from by i)) → (i : ℕ) → seen_under n P i → seen_under n Q (shift_var (from + n) by i)
  seen_shift P Q n from by k i h = let u = under_shift n from by i h.0 in (u.0, transport Q (sym u.1) (k (i - n) h.1))

  named_binds : (s : Sym) → IsTrue (is_named sig.name s) → binds s ≡ 0
  unfolding binds
  named_binds (Base k) c = absurd (true≢false (sym c))
  named_binds (User n) c = refl

  mutual
    guarded_shift : (t : Term) (from by : ℕ) (P Q : ℕ → Type 0) → ((i : ℕ) → P i → Q (shift_var from by i)) → IsGuarded sig place P t → IsGuarded sig place Q (shift t from by)
    guarded_shift (var i) from by P Q k h = tt
    guarded_shift (lit n) from by P Q k h = tt
    guarded_shift (node s As ts) from by P Q k h = (
      (λ c. let g = h.0 c in (g.0, called (named_binds s c) g.1)),
      all_guarded_shift ts (from + binds s) by (seen_under (binds s) P) (seen_under (binds s) Q) (seen_shift P Q (binds s) from by k) h.1,
    )
      where
        called : binds s ≡ 0 → IsVarOf P (slice_get (term_list ts) place) → IsVarOf Q (slice_get (term_list (shifts ts (from + binds s) by)) place)
        called e g =
            let z : from + binds s ≡ from = omega (arith, e) in
            transport (IsVarOf Q) (sym (ap (λ m. slice_get (term_list (shifts ts m by)) place) z ∙ child_shift ts from by place))
            (var_kept P Q (shift_var from by) k (λ t. shift t from by) (λ i. refl) (slice_get (term_list ts) place) g)

    all_guarded_shift : (ts : Terms) (from by : ℕ) (P Q : ℕ → Type 0) → ((i : ℕ) → P i → Q (shift_var from by i)) → AreGuarded sig place P ts → AreGuarded sig place Q (shifts ts from by)
    all_guarded_shift nil from by P Q k h = tt
    all_guarded_shift (cons t ts) from by P Q k h = (guarded_shift t from by P Q k h.0, all_guarded_shift ts from by P Q k h.1)

  seen_map : (P Q : ℕ → Type 0) (n : ℕ) → ((i : ℕ) → P i → Q i) → (i : ℕ) → seen_under n P i → seen_under n Q i
  seen_map P Q n k i h = (h.0, k (i - n) h.1)

  var_map : (P Q : ℕ → Type 0) → ((i : ℕ) → P i → Q i) → (o : Option Term) → IsVarOf P o → IsVarOf Q o
  var_map P Q k None h = h
  var_map P Q k (Some (var i)) h = k i h
  var_map P Q k (Some (lit n)) h = h
  var_map P Q k (Some (node s As ts)) h = h

  mutual
    guarded_as : (P Q : ℕ → Type 0) → ((i : ℕ) → P i → Q i) → (t : Term) → IsGuarded sig place P t → IsGuarded sig place Q t
    guarded_as P Q k (var i) h = tt
    guarded_as P Q k (lit n) h = tt
    guarded_as P Q k (node s As ts) h =
        ((λ c. let g = h.0 c in (g.0, var_map P Q k (slice_get (term_list ts) place) g.1)), all_guarded_as (seen_under (binds s) P) (seen_under (binds s) Q) (seen_map P Q (binds s) k) ts h.1)

    all_guarded_as : (P Q : ℕ → Type 0) → ((i : ℕ) → P i → Q i) → (ts : Terms) → AreGuarded sig place P ts → AreGuarded sig place Q ts
    all_guarded_as P Q k nil h = tt
    all_guarded_as P Q k (cons t ts) h = (guarded_as P Q k t h.0, all_guarded_as P Q k ts h.1)

  -- Guarded terms for the variables of a term that does not call.
  abbrev AreAll : (ℕ → Type 0) → (ℕ → Term) → Type 0
  AreAll P σ = (i : ℕ) → IsGuarded sig place P (σ i)

  raised : (P : ℕ → Type 0) (n i : ℕ) → seen_under n P i → seen_under (suc n) P (shift_var 0 1 i)
  raised P n i h =
      let e : shift_var 0 1 i ≡ i + 1 = up i in
      let f : shift_var 0 1 i - suc n ≡ i - n = omega (arith, e) in
      (omega (arith, e, h.0), transport P (sym f) h.1)
    where
      up : (j : ℕ) → shift_var 0 1 j ≡ j + 1
      up j = grind (arith, nat_tests)

  lifts_guarded : (n : ℕ) (σ : ℕ → Term) (P : ℕ → Type 0) → AreAll P σ → AreAll (seen_under n P) (lifts n σ)
  lifts_guarded zero σ P h i = guarded_as P (seen_under 0 P) (λ j p. (omega arith, (let e : j - 0 ≡ j = omega arith in transport P (sym e) p))) (σ i) (h i)
  lifts_guarded (suc n) σ P h zero = tt
  lifts_guarded (suc n) σ P h (suc i) = guarded_shift (lifts n σ i) 0 1 (seen_under n P) (seen_under (suc n) P) (raised P n) (lifts_guarded n σ P h i)

  mutual
    inst_guarded : (t : Term) (σ : ℕ → Term) (P : ℕ → Type 0) → NoCall sig.name t → AreAll P σ → IsGuarded sig place P (inst σ t)
    inst_guarded (var i) σ P n h = h i
    inst_guarded (lit k) σ P n h = tt
    inst_guarded (node s As ts) σ P n h = ((λ c. absurd (true≢false (sym c ∙ n.0))), insts_guarded ts (lifts (binds s) σ) (seen_under (binds s) P) n.1 (lifts_guarded (binds s) σ P h))

    insts_guarded : (ts : Terms) (σ : ℕ → Term) (P : ℕ → Type 0) → NoCalls sig.name ts → AreAll P σ → AreGuarded sig place P (insts σ ts)
    insts_guarded nil σ P n h = tt
    insts_guarded (cons t ts) σ P n h = (inst_guarded t σ P n.0 h, insts_guarded ts σ P n.1 h)

  entry_guarded : (P : ℕ → Type 0) (ts : List Term) → AllByRecursion (IsGuarded sig place P) ts → AreAll P (entry ts)
  entry_guarded P [] h i = tt
  entry_guarded P (t ∷ ts) h zero = h.0
  entry_guarded P (t ∷ ts) h (suc i) = entry_guarded P ts h.1 i

  each_guarded : (P : ℕ → Type 0) (ts : Terms) → AreGuarded sig place P ts → AllByRecursion (IsGuarded sig place P) (term_list ts)
  each_guarded P nil h = tt
  each_guarded P (cons t ts) h = (h.0, each_guarded P ts h.1)

  unseen : (P : ℕ → Type 0) (n i : ℕ) → n ≡ 0 → seen_under n P i → P i
  unseen P n i e h = let f : i - n ≡ i = omega (arith, e) in transport P f h.1

  user_binds : (bs : Bodies) (s : Sym) (B : Term) → body_of bs s ≡ Some B → binds s ≡ 0
  unfolding binds
  user_binds bs (Base k) B e = cc
  user_binds bs (User n) B e = refl

  -- Unfolding.
  module _ (bs : Bodies) (none : (n : Name) (B : Term) → look_up bs n ≡ Some B → NoCall sig.name B) where
    body_no_call : (s : Sym) (B : Term) → body_of bs s ≡ Some B → NoCall sig.name B
    body_no_call (Base k) B e = cc
    body_no_call (User n) B e = none n B e

    node_guarded : (P : ℕ → Type 0) (s : Sym) (As : Tys) (us : Terms) (o : Option Term) → body_of bs s ≡ o → IsGuardedCall sig place P s As us → AreGuarded sig place (seen_under (binds s) P) us →
        IsGuarded sig place P (unfolded_node o s As us)
    node_guarded P s As us None e c h = (c, h)
    node_guarded P s As us (Some B) e c h =
        let z = user_binds bs s B e in
        inst_guarded (instance B As) (entry (reverse (term_list us))) P (no_call_retype sig.name (type_at As) B (body_no_call s B e))
        (entry_guarded P (reverse (term_list us)) (all_reverse (IsGuarded sig place P) (term_list us) (each_guarded P us (all_guarded_as (seen_under (binds s) P) P (λ i g. unseen P (binds s) i z g) us h))))

    mutual
      pub unfold_guarded : (P : ℕ → Type 0) (t : Term) → IsGuarded sig place P t → IsGuarded sig place P (unfold_by bs t)
      unfold_guarded P (var i) h = tt
      unfold_guarded P (lit n) h = tt
      unfold_guarded P (node s As ts) h =
          node_guarded P s As (unfold_all_by bs ts) (body_of bs s) refl
          (λ c. let g = h.0 c in (g.0, transport (IsVarOf P) (sym (child_unfold bs ts place)) (var_kept P P (λ i. i) (λ i p. p) (unfold_by bs) (λ i. refl) (slice_get (term_list ts) place) g.1)))
          (all_unfold_guarded (seen_under (binds s) P) ts h.1)

      all_unfold_guarded : (P : ℕ → Type 0) (ts : Terms) → AreGuarded sig place P ts → AreGuarded sig place P (unfold_all_by bs ts)
      all_unfold_guarded P nil h = tt
      all_unfold_guarded P (cons t ts) h = (unfold_guarded P t h.0, all_unfold_guarded P ts h.1)
