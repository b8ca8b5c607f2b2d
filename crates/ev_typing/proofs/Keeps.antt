-- Shift and substitution keep types.
use Rattle.std.specs.Prelude.{◌≡◌, ◌==◌, ◌||◌, ◌+◌, ◌≤◌, ℕ, zero, suc, Bool as Boolean, true, false, if◌then◌else◌, List, [], ◌∷◌, ◌++◌, Option, Some, None, map, reverse, length, take, slice_get, IsSomeAnd, refl}
use Rattle.std.proofs.Common.{ap, sym, ◌∙◌, subst as transport, append_assoc, arith}
use Rattle.std.proofs.Math.Path.{fun_ext}
use Rattle.std.proofs.lemmas.Bool.{eqb-true}
use Rattle.std.proofs.lemmas.Bool.Decides.{nat_tests}
use Rattle.std.proofs.lemmas.List.{reverse-append, length-take-le}
use Rattle.ev_terms.specs.declared.types.Ty.{Ty}
use Rattle.ev_terms.specs.declared.types.Tys.{Tys}
use Rattle.ev_terms.specs.declared.types.Sym.{Sym}
use Rattle.ev_terms.specs.declared.types.Sym.TheVariants.{Base, User}
use Rattle.ev_terms.specs.Types.{type_list}
use Rattle.ev_terms.specs.Term.{Term, Terms, var, lit, node, nil, cons, terms}
use Rattle.ev_terms.specs.Symbols.{binds}
use Rattle.ev_terms.specs.Substitution.{shift_var, lift, lifts, insts, entry, type_inst, type_at}
use Rattle.ev_terms.proofs.Subst.{ren, rens, lift_ren, lift_rens, shift_one, shift-ren}
use Rattle.ev_typing.specs.Profiles.{Profile, base_profile}
use Rattle.ev_typing.specs.Env.{Env, profile}
use Rattle.ev_typing.specs.Typing.{Typed, AreTyped, var_type, inside}
use Rattle.ev_typing.specs.TypingLaws.{Puts, ShiftKeepsTypes, InstKeepsTypes, SubstitutionKeepsTypes, FillKeepsTypes}

-- The variable of a context that is one longer.
pub var_here : (C : List Ty) (A : Ty) → var_type (C ++ A ∷ []) 0 ≡ Some A
var_here C A = ap (λ xs. slice_get xs 0) (reverse-append C (A ∷ []))

pub var_later : (C : List Ty) (A : Ty) (i : ℕ) → var_type (C ++ A ∷ []) (suc i) ≡ var_type C i
var_later C A i = ap (λ xs. slice_get xs (suc i)) (reverse-append C (A ∷ []))

append_nil : (C : List Ty) → C ++ [] ≡ C
append_nil [] = refl
append_nil (A ∷ As) = ap (λ Bs. A ∷ Bs) (append_nil As)

-- what is asked of a signature, from what is
pub some_map : {X : Type 0} {P Q : X → Type 0} (o : Option X) → ((x : X) → o ≡ Some x → P x → Q x) → IsSomeAnd o P → IsSomeAnd o Q
some_map None f h = h
some_map (Some x) f h = f x refl h

-- A symbol binds no more variables than it has type parameters.
binds_base : (k : ℕ) (a b c : Boolean) → a ≡ (k == 7) → b ≡ (k == 8) → c ≡ (k == 29) → (p : Profile) → base_profile k ≡ Some p →
    (if (a || b) || c then 1 else 0) ≤ p.params
binds_base k true b c e f g p h =
    let at : base_profile 7 ≡ Some p = ap base_profile (sym (eqb-true k 7 (sym e))) ∙ h in
    let one : 1 ≡ p.params = params_at _ p at in omega arith
  where
    params_at : (q p : Profile) → ◌≡◌ {A = Option Profile} (Some q) (Some p) → q.params ≡ p.params
    params_at q p e = let i : q ≡ p = cc in ap (λ (r : Profile). r.params) i
binds_base k false true c e f g p h =
    let at : base_profile 8 ≡ Some p = ap base_profile (sym (eqb-true k 8 (sym f))) ∙ h in
    let one : 1 ≡ p.params = params_at _ p at in omega arith
  where
    params_at : (q p : Profile) → ◌≡◌ {A = Option Profile} (Some q) (Some p) → q.params ≡ p.params
    params_at q p e = let i : q ≡ p = cc in ap (λ (r : Profile). r.params) i
binds_base k false false true e f g p h =
    let at : base_profile 29 ≡ Some p = ap base_profile (sym (eqb-true k 29 (sym g))) ∙ h in
    let one : 1 ≡ p.params = params_at _ p at in omega arith
  where
    params_at : (q p : Profile) → ◌≡◌ {A = Option Profile} (Some q) (Some p) → q.params ≡ p.params
    params_at q p e = let i : q ≡ p = cc in ap (λ (r : Profile). r.params) i
binds_base k false false false e f g p h = omega arith

pub binds_fit : (env : Env) (s : Sym) (p : Profile) → profile env s ≡ Some p → binds s ≤ p.params
unfolding binds
binds_fit env (Base k) p h = binds_base k (k == 7) (k == 8) (k == 29) refl refl refl p h
binds_fit env (User n) p h = omega arith

pub inside_length : (env : Env) (s : Sym) (As : Tys) (p : Profile) → profile env s ≡ Some p → length (type_list As) ≡ p.params → length (take (binds s) (type_list As)) ≡ binds s
inside_length env s As p e h = length-take-le (binds s) (type_list As) (let k = binds_fit env s p e in omega arith)

-- Renamings.
abbrev pub Renames : (ℕ → ℕ) → List Ty → List Ty → Type 0
Renames ρ C D = (i : ℕ) (A : Ty) → var_type C i ≡ Some A → var_type D (ρ i) ≡ Some A

renames_lift : (ρ : ℕ → ℕ) (C D : List Ty) (B : Ty) → Renames ρ C D → Renames (lift_ren ρ) (C ++ B ∷ []) (D ++ B ∷ [])
renames_lift ρ C D B k zero A h = var_here D B ∙ sym (var_here C B) ∙ h
renames_lift ρ C D B k (suc i) A h = var_later D B (ρ i) ∙ k i A (sym (var_later C B i) ∙ h)

lift_rens-inner : (n : ℕ) (ρ : ℕ → ℕ) → lift_rens n (lift_ren ρ) ≡ lift_ren (lift_rens n ρ)
lift_rens-inner zero ρ = refl
lift_rens-inner (suc n) ρ = ap lift_ren (lift_rens-inner n ρ)

pub renames_lifts : (Bs : List Ty) (ρ : ℕ → ℕ) (C D : List Ty) → Renames ρ C D → Renames (lift_rens (length Bs) ρ) (C ++ Bs) (D ++ Bs)
renames_lifts [] ρ C D k = transport (λ X. Renames ρ X (D ++ [])) (sym (append_nil C)) (transport (Renames ρ C) (sym (append_nil D)) k)
renames_lifts (B ∷ Bs) ρ C D k =
    transport (λ μ. Renames μ (C ++ B ∷ Bs) (D ++ B ∷ Bs)) (lift_rens-inner (length Bs) ρ)
    (transport (λ X. Renames (lift_rens (length Bs) (lift_ren ρ)) X (D ++ B ∷ Bs)) (append_assoc C (B ∷ []) Bs)
    (transport (λ X. Renames (lift_rens (length Bs) (lift_ren ρ)) ((C ++ B ∷ []) ++ Bs) X) (append_assoc D (B ∷ []) Bs)
    (renames_lifts Bs (lift_ren ρ) (C ++ B ∷ []) (D ++ B ∷ []) (renames_lift ρ C D B k))))

renames_inside : (env : Env) (s : Sym) (As : Tys) (p : Profile) (ρ : ℕ → ℕ) (C D : List Ty) → profile env s ≡ Some p → length (type_list As) ≡ p.params → Renames ρ C D →
    Renames (lift_rens (binds s) ρ) (inside C s As) (inside D s As)
renames_inside env s As p ρ C D e h k =
    transport (λ n. Renames (lift_rens n ρ) (inside C s As) (inside D s As)) (inside_length env s As p e h) (renames_lifts (take (binds s) (type_list As)) ρ C D k)

mutual
  pub ren_typed : (env : Env) (ρ : ℕ → ℕ) (C D : List Ty) → Renames ρ C D → (t : Term) (A : Ty) → Typed env C t A → Typed env D (ren ρ t) A
  ren_typed env ρ C D k (var i) A h = k i A h
  ren_typed env ρ C D k (lit n) A h = h
  ren_typed env ρ C D k (node s As ts) A h =
      some_map (profile env s) (λ p e g. record {
        count = g.count;
        proper = g.proper;
        children = rens_typed env (lift_rens (binds s) ρ) (inside C s As) (inside D s As) (renames_inside env s As p ρ C D e g.count k) ts (map (type_inst (type_at As)) p.args) g.children;
        result = g.result;
      }) h

  pub rens_typed : (env : Env) (ρ : ℕ → ℕ) (C D : List Ty) → Renames ρ C D → (ts : Terms) (As : List Ty) → AreTyped env C ts As → AreTyped env D (rens ρ ts) As
  rens_typed env ρ C D k nil [] h = h
  rens_typed env ρ C D k nil (A ∷ As) h = h
  rens_typed env ρ C D k (cons t ts) [] h = h
  rens_typed env ρ C D k (cons t ts) (A ∷ As) h = (ren_typed env ρ C D k t A h.0, rens_typed env ρ C D k ts As h.1)

-- A shift is a renaming.
past_all : (C E : List Ty) (i : ℕ) → var_type (C ++ E) (i + length E) ≡ var_type C i
past_all C [] i = let e : i + 0 ≡ i = omega arith in ap (var_type (C ++ [])) e ∙ ap (λ X. var_type X i) (append_nil C)
past_all C (B ∷ Bs) i =
    let e : i + suc (length Bs) ≡ suc i + length Bs = omega arith in
    ap (var_type (C ++ B ∷ Bs)) e ∙ ap (λ X. var_type X (suc i + length Bs)) (sym (append_assoc C (B ∷ []) Bs)) ∙ past_all (C ++ B ∷ []) Bs (suc i) ∙ var_later C B i

renames_past : (C E : List Ty) → Renames (shift_var 0 (length E)) C (C ++ E)
renames_past C E i A h = ap (var_type (C ++ E)) (raised i) ∙ past_all C E i ∙ h
  where
    raised : (j : ℕ) → shift_var 0 (length E) j ≡ j + length E
    raised j = grind (arith, nat_tests)

lift_ren-shift_var : (from by i : ℕ) → lift_ren (shift_var from by) i ≡ shift_var (suc from) by i
lift_ren-shift_var from by zero = grind (arith, nat_tests)
lift_ren-shift_var from by (suc i) = grind (arith, nat_tests)

lift_rens-shift_var : (n by : ℕ) → lift_rens n (shift_var 0 by) ≡ shift_var n by
lift_rens-shift_var zero by = refl
lift_rens-shift_var (suc n) by = ap lift_ren (lift_rens-shift_var n by) ∙ fun_ext (lift_ren-shift_var n by)

pub shift_typed : ShiftKeepsTypes
shift_typed env C E D t A h =
    transport (λ u. Typed env ((C ++ E) ++ D) u A) (sym (shift-ren t (length D) (length E)))
    (ren_typed env (shift_var (length D) (length E)) (C ++ D) ((C ++ E) ++ D)
    (transport (λ ρ. Renames ρ (C ++ D) ((C ++ E) ++ D)) (lift_rens-shift_var (length D) (length E)) (renames_lifts D (shift_var 0 (length E)) C (C ++ E) (renames_past C E)))
    t A h)

-- Substitutions.
puts_lift : (env : Env) (σ : ℕ → Term) (C D : List Ty) (B : Ty) → Puts env σ C D → Puts env (lift σ) (C ++ B ∷ []) (D ++ B ∷ [])
puts_lift env σ C D B k zero A h = var_here D B ∙ sym (var_here C B) ∙ h
puts_lift env σ C D B k (suc i) A h =
    transport (λ t. Typed env (D ++ B ∷ []) t A) (sym (shift_one (σ i)))
    (ren_typed env suc D (D ++ B ∷ []) (λ j E g. var_later D B j ∙ g) (σ i) A (k i A (sym (var_later C B i) ∙ h)))

lifts-inner : (n : ℕ) (σ : ℕ → Term) → lifts n (lift σ) ≡ lift (lifts n σ)
lifts-inner zero σ = refl
lifts-inner (suc n) σ = ap lift (lifts-inner n σ)

pub puts_lifts : (env : Env) (Bs : List Ty) (σ : ℕ → Term) (C D : List Ty) → Puts env σ C D → Puts env (lifts (length Bs) σ) (C ++ Bs) (D ++ Bs)
puts_lifts env [] σ C D k = transport (λ X. Puts env σ X (D ++ [])) (sym (append_nil C)) (transport (Puts env σ C) (sym (append_nil D)) k)
puts_lifts env (B ∷ Bs) σ C D k =
    transport (λ μ. Puts env μ (C ++ B ∷ Bs) (D ++ B ∷ Bs)) (lifts-inner (length Bs) σ)
    (transport (λ X. Puts env (lifts (length Bs) (lift σ)) X (D ++ B ∷ Bs)) (append_assoc C (B ∷ []) Bs)
    (transport (λ X. Puts env (lifts (length Bs) (lift σ)) ((C ++ B ∷ []) ++ Bs) X) (append_assoc D (B ∷ []) Bs)
    (puts_lifts env Bs (lift σ) (C ++ B ∷ []) (D ++ B ∷ []) (puts_lift env σ C D B k))))

puts_inside : (env : Env) (s : Sym) (As : Tys) (p : Profile) (σ : ℕ → Term) (C D : List Ty) → profile env s ≡ Some p → length (type_list As) ≡ p.params → Puts env σ C D →
    Puts env (lifts (binds s) σ) (inside C s As) (inside D s As)
puts_inside env s As p σ C D e h k =
    transport (λ n. Puts env (lifts n σ) (inside C s As) (inside D s As)) (inside_length env s As p e h) (puts_lifts env (take (binds s) (type_list As)) σ C D k)

mutual
  pub inst_typed : InstKeepsTypes
  inst_typed env σ C D k (var i) A h = k i A h
  inst_typed env σ C D k (lit n) A h = h
  inst_typed env σ C D k (node s As ts) A h =
      some_map (profile env s) (λ p e g. record {
        count = g.count;
        proper = g.proper;
        children = insts_typed env (lifts (binds s) σ) (inside C s As) (inside D s As) (puts_inside env s As p σ C D e g.count k) ts (map (type_inst (type_at As)) p.args) g.children;
        result = g.result;
      }) h

  pub insts_typed : (env : Env) (σ : ℕ → Term) (C D : List Ty) → Puts env σ C D → (ts : Terms) (As : List Ty) → AreTyped env C ts As → AreTyped env D (insts σ ts) As
  insts_typed env σ C D k nil [] h = h
  insts_typed env σ C D k nil (A ∷ As) h = h
  insts_typed env σ C D k (cons t ts) [] h = h
  insts_typed env σ C D k (cons t ts) (A ∷ As) h = (inst_typed env σ C D k t A h.0, insts_typed env σ C D k ts As h.1)

-- Terms for the innermost variables.
puts_entry : (env : Env) (C As : List Ty) (ts : List Term) → AreTyped env C (terms ts) As → Puts env (entry ts) (C ++ reverse As) C
puts_entry env C [] [] h i A g = ap (λ X. var_type X i) (sym (append_nil C)) ∙ g
puts_entry env C (B ∷ Bs) [] h i A g = absurd h
puts_entry env C [] (t ∷ ts) h i A g = absurd h
puts_entry env C (B ∷ Bs) (t ∷ ts) h i A g =
    each i (ap (λ X. var_type X i) (sym longer) ∙ g) (puts_entry env C Bs ts h.1)
  where
    longer : C ++ reverse (B ∷ Bs) ≡ (C ++ reverse Bs) ++ B ∷ []
    longer = ap (λ X. C ++ X) (reverse-append (B ∷ []) Bs) ∙ sym (append_assoc C (reverse Bs) (B ∷ []))

    each : (j : ℕ) → var_type ((C ++ reverse Bs) ++ B ∷ []) j ≡ Some A → Puts env (entry ts) (C ++ reverse Bs) C → Typed env C (entry (t ∷ ts) j) A
    each zero e k = let p : Some B ≡ Some A = sym (var_here (C ++ reverse Bs) B) ∙ e in let q : B ≡ A = cc in transport (Typed env C t) q h.0
    each (suc j) e k = k j A (sym (var_later (C ++ reverse Bs) B j) ∙ e)

pub subst_typed : SubstitutionKeepsTypes
subst_typed env C As ts h t A g = inst_typed env (entry ts) (C ++ reverse As) C (puts_entry env C As ts h) t A g

-- the arguments in the other order
typed_append : (env : Env) (C : List Ty) (ts us : List Term) (As Bs : List Ty) → AreTyped env C (terms ts) As → AreTyped env C (terms us) Bs → AreTyped env C (terms (ts ++ us)) (As ++ Bs)
typed_append env C [] us [] Bs h g = g
typed_append env C [] us (A ∷ As) Bs h g = absurd h
typed_append env C (t ∷ ts) us [] Bs h g = absurd h
typed_append env C (t ∷ ts) us (A ∷ As) Bs h g = (h.0, typed_append env C ts us As Bs h.1 g)

typed_reverse : (env : Env) (C : List Ty) (ts : List Term) (As : List Ty) → AreTyped env C (terms ts) As → AreTyped env C (terms (reverse ts)) (reverse As)
typed_reverse env C [] [] h = h
typed_reverse env C [] (A ∷ As) h = absurd h
typed_reverse env C (t ∷ ts) [] h = absurd h
typed_reverse env C (t ∷ ts) (A ∷ As) h =
    transport (λ us. AreTyped env C (terms us) (reverse (A ∷ As))) (sym (reverse-append (t ∷ []) ts))
    (transport (AreTyped env C (terms (reverse ts ++ t ∷ []))) (sym (reverse-append (A ∷ []) As))
    (typed_append env C (reverse ts) (t ∷ []) (reverse As) (A ∷ []) (typed_reverse env C ts As h.1) (h.0, tt)))

reverse_reverse : (As : List Ty) → reverse (reverse As) ≡ As
reverse_reverse [] = refl
reverse_reverse (A ∷ As) = ap reverse (reverse-append (A ∷ []) As) ∙ reverse-append (reverse As) (A ∷ []) ∙ ap (λ X. A ∷ X) (reverse_reverse As)

pub fill_typed : FillKeepsTypes
fill_typed env C As ts h t A g =
    subst_typed env C (reverse As) (reverse ts) (typed_reverse env C ts As h) t A (transport (λ X. Typed env (C ++ X) t A) (sym (reverse_reverse As)) g)
