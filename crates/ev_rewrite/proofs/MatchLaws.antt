-- An instance found by matching is the only one.
use Rattle.std.proofs.Common.{◌≡◌, ℕ, zero, suc, ◌+◌, ◌<◌, List, [], ◌∷◌, length, refl, sym, ap, ◌∙◌, arith, subst as transport}
use Rattle.std.specs.Prelude.{Bool as Boolean, true, false, ◌||◌, ◌==◌, pred, IsTrue, reverse, cond}
use Rattle.std.specs.List.{AllByRecursion, IsDistinct}
use Rattle.std.proofs.Math.Path.{fun_ext}
use Rattle.std.proofs.lemmas.Bool.{eqb-true, eq-eqb}
use Rattle.std.proofs.lemmas.Bool.Decides.{nat_tests}
use Rattle.std.proofs.lemmas.List.{reverse-reverse, length-reverse}
use Rattle.ev_terms.specs.declared.types.Ty.{Ty, Int, Bool, Prop, Param, Data}
use Rattle.ev_terms.specs.declared.types.Tys.{Tys, Empty}
use Rattle.ev_terms.specs.Types.{pow, prod, more}
use Rattle.ev_terms.specs.Term.{Term, Terms, var, lit, node, nil, cons}
use Rattle.ev_terms.specs.Symbols.{binds}
use Rattle.ev_terms.specs.Substitution.{shift, shift_var, lift, lifts, inst, insts, entry, type_inst, types_inst, retype, retypes}
use Rattle.ev_terms.proofs.Subst.{inst-inst, shift-inst}
use Rattle.ev_typing.specs.Occurs.{has_param, have_param, mentions_param, mention_param, has_var, have_var}
use Rattle.ev_rewrite.proofs.TypeParts.{pow_part, left_part, right_part, data_part, head_part, tail_part}
use Rattle.ev_rewrite.specs.Instances.{assigned, put, MatchIsUnique}

-- A shift by one can be undone.
lift-var : (i : ℕ) → lift var i ≡ var i
lift-var zero = refl
lift-var (suc i) = ap var (grind (arith, nat_tests))

lifts-var : (n : ℕ) → lifts n var ≡ var
lifts-var zero = refl
lifts-var (suc n) = ap lift (lifts-var n) ∙ fun_ext lift-var

mutual
  inst-var : (t : Term) → inst var t ≡ t
  inst-var (var i) = refl
  inst-var (lit n) = refl
  inst-var (node s As ts) = ap (node s As) (ap (λ σ. insts σ ts) (lifts-var (binds s)) ∙ insts-var ts)

  insts-var : (ts : Terms) → insts var ts ≡ ts
  insts-var nil = refl
  insts-var (cons t ts) = let p = inst-var t in let q = insts-var ts in cc

lower : Term → Term
lower t = inst (λ i. var (pred i)) t

lower-shift : (t : Term) → lower (shift t 0 1) ≡ t
unfolding lower
lower-shift t = ap (inst (λ i. var (pred i))) (shift-inst t 0 1) ∙ inst-inst (λ i. var (pred i)) (λ i. var (shift_var 0 1 i)) t ∙ ap (λ σ. inst σ t) (fun_ext back) ∙ inst-var t
  where
    back : (i : ℕ) → var (pred (shift_var 0 1 i)) ≡ var i
    back i = ap var (grind (arith, nat_tests))

shift-inj : (t u : Term) → shift t 0 1 ≡ shift u 0 1 → t ≡ u
shift-inj t u e = sym (lower-shift t) ∙ ap lower e ∙ lower-shift u

lifts-inj : (n i : ℕ) (σ τ : ℕ → Term) → lifts n σ (i + n) ≡ lifts n τ (i + n) → σ i ≡ τ i
lifts-inj zero i σ τ e = let z : i + 0 ≡ i = omega arith in transport (λ k. σ k ≡ τ k) z e
lifts-inj (suc n) i σ τ e =
    let z : i + suc n ≡ suc (i + n) = omega arith in
    let f : lifts (suc n) σ (suc (i + n)) ≡ lifts (suc n) τ (suc (i + n)) = transport (λ k. lifts (suc n) σ k ≡ lifts (suc n) τ k) z e in
    lifts-inj n i σ τ (shift-inj (lifts n σ (i + n)) (lifts n τ (i + n)) f)

-- Two instances of a term agree at each variable that occurs in it.
or_cases : {A : Type 0} (a b : Boolean) → (a || b) ≡ true → (a ≡ true → A) → (b ≡ true → A) → A
or_cases true b h f g = f refl
or_cases false b h f g = g h

mutual
  agree_at_var : (P : Term) (σ τ : ℕ → Term) (θ ψ : ℕ → Ty) (i : ℕ) → inst σ (retype θ P) ≡ inst τ (retype ψ P) → has_var i P ≡ true → σ i ≡ τ i
  agree_at_var (var j) σ τ θ ψ i e h = transport (λ k. σ k ≡ τ k) (eqb-true j i h) e
  agree_at_var (lit n) σ τ θ ψ i e h = cc
  agree_at_var (node s As ts) σ τ θ ψ i e h =
      let f : insts (lifts (binds s) σ) (retypes θ ts) ≡ insts (lifts (binds s) τ) (retypes ψ ts) = cc in
      lifts-inj (binds s) i σ τ (agree_at_vars ts (lifts (binds s) σ) (lifts (binds s) τ) θ ψ (i + binds s) f h)

  agree_at_vars : (ts : Terms) (σ τ : ℕ → Term) (θ ψ : ℕ → Ty) (i : ℕ) → insts σ (retypes θ ts) ≡ insts τ (retypes ψ ts) → have_var i ts ≡ true → σ i ≡ τ i
  agree_at_vars nil σ τ θ ψ i e h = cc
  agree_at_vars (cons t ts) σ τ θ ψ i e h =
      let f : inst σ (retype θ t) ≡ inst τ (retype ψ t) = cc in
      let g : insts σ (retypes θ ts) ≡ insts τ (retypes ψ ts) = cc in
      or_cases (has_var i t) (have_var i ts) h (agree_at_var t σ τ θ ψ i f) (agree_at_vars ts σ τ θ ψ i g)

-- Two instances of a type, or of a term, agree at each parameter that occurs in it.
mutual
  agree_at_param : (A : Ty) (θ ψ : ℕ → Ty) (j : ℕ) → type_inst θ A ≡ type_inst ψ A → has_param j A ≡ true → θ j ≡ ψ j
  agree_at_param Int θ ψ j e h = cc
  agree_at_param Bool θ ψ j e h = cc
  agree_at_param Prop θ ψ j e h = cc
  agree_at_param (Param i) θ ψ j e h = transport (λ k. θ k ≡ ψ k) (eqb-true i j h) e
  agree_at_param (pow A) θ ψ j e h = agree_at_param A θ ψ j (ap pow_part e) h
  agree_at_param (prod A B) θ ψ j e h = or_cases (has_param j A) (has_param j B) h (agree_at_param A θ ψ j (ap left_part e)) (agree_at_param B θ ψ j (ap right_part e))
  agree_at_param (Data n As) θ ψ j e h = agree_at_params As θ ψ j (ap data_part e) h

  agree_at_params : (As : Tys) (θ ψ : ℕ → Ty) (j : ℕ) → types_inst θ As ≡ types_inst ψ As → have_param j As ≡ true → θ j ≡ ψ j
  agree_at_params Empty θ ψ j e h = cc
  agree_at_params (more A As) θ ψ j e h = or_cases (has_param j A) (have_param j As) h (agree_at_param A θ ψ j (ap head_part e)) (agree_at_params As θ ψ j (ap tail_part e))

mutual
  agree_in_types : (P : Term) (σ τ : ℕ → Term) (θ ψ : ℕ → Ty) (j : ℕ) → inst σ (retype θ P) ≡ inst τ (retype ψ P) → mentions_param j P ≡ true → θ j ≡ ψ j
  agree_in_types (var i) σ τ θ ψ j e h = cc
  agree_in_types (lit n) σ τ θ ψ j e h = cc
  agree_in_types (node s As ts) σ τ θ ψ j e h =
      let f : types_inst θ As ≡ types_inst ψ As = cc in
      let g : insts (lifts (binds s) σ) (retypes θ ts) ≡ insts (lifts (binds s) τ) (retypes ψ ts) = cc in
      or_cases (have_param j As) (mention_param j ts) h (agree_at_params As θ ψ j f) (agree_in_all ts (lifts (binds s) σ) (lifts (binds s) τ) θ ψ j g)

  agree_in_all : (ts : Terms) (σ τ : ℕ → Term) (θ ψ : ℕ → Ty) (j : ℕ) → insts σ (retypes θ ts) ≡ insts τ (retypes ψ ts) → mention_param j ts ≡ true → θ j ≡ ψ j
  agree_in_all nil σ τ θ ψ j e h = cc
  agree_in_all (cons t ts) σ τ θ ψ j e h =
      let f : inst σ (retype θ t) ≡ inst τ (retype ψ t) = cc in
      let g : insts σ (retypes θ ts) ≡ insts τ (retypes ψ ts) = cc in
      or_cases (mentions_param j t) (mention_param j ts) h (agree_in_types t σ τ θ ψ j f) (agree_in_all ts σ τ θ ψ j g)

-- Lists of types, and of terms, that agree at each place are equal.
cons_eq : {X : Type 0} (x y : X) (xs ys : List X) → x ≡ y → xs ≡ ys → x ∷ xs ≡ y ∷ ys
cons_eq x y xs ys p q = cc

abbrev Agree : List ℕ → List ℕ → List Ty → List Ty → Type 0
Agree ids js As Bs = AllByRecursion (λ j. assigned ids As j ≡ assigned ids Bs j) js

if_false : {X : Type 0} (b : Boolean) (x y : X) → b ≡ false → cond b x y ≡ y
if_false b x y e = ap (λ c. cond c x y) e

if_true : {X : Type 0} (b : Boolean) (x y : X) → b ≡ true → cond b x y ≡ x
if_true b x y e = ap (λ c. cond c x y) e

agree_later : (i : ℕ) (ids : List ℕ) (A B : Ty) (As Bs : List Ty) (js : List ℕ) → AllByRecursion (λ j. (i == j) ≡ false) js → Agree (i ∷ ids) js (A ∷ As) (B ∷ Bs) → Agree ids js As Bs
agree_later i ids A B As Bs [] d a = tt
agree_later i ids A B As Bs (j ∷ js) d a =
    (sym (if_false (i == j) A (assigned ids As j) d.0) ∙ a.0 ∙ if_false (i == j) B (assigned ids Bs j) d.0, agree_later i ids A B As Bs js d.1 a.1)

types_agree : (ids : List ℕ) (As Bs : List Ty) → IsDistinct ◌==◌ ids → length As ≡ length ids → length Bs ≡ length ids → Agree ids ids As Bs → As ≡ Bs
unfolding IsDistinct
types_agree [] [] [] d p q a = refl
types_agree [] [] (B ∷ Bs) d p q a = let no : ⊥ = omega (arith, q) in absurd no
types_agree [] (A ∷ As) Bs d p q a = let no : ⊥ = omega (arith, p) in absurd no
types_agree (i ∷ ids) [] Bs d p q a = let no : ⊥ = omega (arith, p) in absurd no
types_agree (i ∷ ids) (A ∷ As) [] d p q a = let no : ⊥ = omega (arith, q) in absurd no
types_agree (i ∷ ids) (A ∷ As) (B ∷ Bs) d p q a =
    let self = eq-eqb i i refl in
    let here : A ≡ B = sym (if_true (i == i) A (assigned ids As i) self) ∙ a.0 ∙ if_true (i == i) B (assigned ids Bs i) self in
    let n : length As ≡ length ids = omega (arith, p) in
    let m : length Bs ≡ length ids = omega (arith, q) in
    cons_eq A B As Bs here (types_agree ids As Bs d.1 n m (agree_later i ids A B As Bs ids d.0 a.1))

entries_agree : (ts us : List Term) → length ts ≡ length us → ((i : ℕ) → i < length ts → entry ts i ≡ entry us i) → ts ≡ us
entries_agree [] [] n f = refl
entries_agree [] (u ∷ us) n f = let no : ⊥ = omega (arith, n) in absurd no
entries_agree (t ∷ ts) [] n f = let no : ⊥ = omega (arith, n) in absurd no
entries_agree (t ∷ ts) (u ∷ us) n f =
    let m : length ts ≡ length us = omega (arith, n) in
    let first : 0 < length (t ∷ ts) = omega arith in
    cons_eq t u ts us (f 0 first) (entries_agree ts us m (λ i h. let k : suc i < length (t ∷ ts) = omega (arith, h) in f (suc i) k))

agree_each : (P : Term) (ids js : List ℕ) (As Bs : List Ty) (σ τ : ℕ → Term) → inst σ (retype (assigned ids As) P) ≡ inst τ (retype (assigned ids Bs) P) → AllByRecursion (λ j. IsTrue (mentions_param j P)) js → Agree ids js As Bs
agree_each P ids [] As Bs σ τ e h = tt
agree_each P ids (j ∷ js) As Bs σ τ e h = (agree_in_types P σ τ (assigned ids As) (assigned ids Bs) j e h.0, agree_each P ids js As Bs σ τ e h.1)

pub match_unique : MatchIsUnique
match_unique ids n P t As Bs ts us d a b = (
  types_agree ids As Bs d a.params_given b.params_given (agree_each P ids ids As Bs (entry (reverse ts)) (entry (reverse us)) same a.all_params),
  sym (reverse-reverse ts) ∙ ap reverse (entries_agree (reverse ts) (reverse us) lengths at_each) ∙ reverse-reverse us,
)
  where
    same : put ids As ts P ≡ put ids Bs us P
    same = a.is_instance ∙ sym b.is_instance

    lengths : length (reverse ts) ≡ length (reverse us)
    lengths = length-reverse ts ∙ a.variables_given ∙ sym b.variables_given ∙ sym (length-reverse us)

    at_each : (i : ℕ) → i < length (reverse ts) → entry (reverse ts) i ≡ entry (reverse us) i
    at_each i h =
        let k : i < n = omega (arith, h, length-reverse ts, a.variables_given) in
        agree_at_var P (entry (reverse ts)) (entry (reverse us)) (assigned ids As) (assigned ids Bs) i same (a.all_variables i k)
