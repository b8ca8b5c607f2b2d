-- What the makers of conditions make, and that a condition is no smaller than its parts.
use Rattle.std.proofs.Common.{◌≡◌, ◌≢◌, ℕ, zero, suc, ◌+◌, ◌<◌, Bool as Boolean, true, false, List, [], ◌∷◌, length, drop, get_or, ap, sym, ◌∙◌, subst, refl, arith, max}
use Rattle.std.specs.Prelude.{◌||◌, if◌then◌else◌, pred}
use Rattle.std.proofs.Math.Path.{fun_ext}
use Rattle.ev_terms.specs.declared.types.Ty.{Ty}
use Rattle.ev_terms.specs.declared.types.Tys.{Empty}
use Rattle.ev_terms.specs.declared.types.Sym.TheVariants.{Base, User}
use Rattle.ev_terms.specs.Types.{more}
use Rattle.ev_terms.specs.Term.{Term, Terms, var, lit, node, nil, cons}
use Rattle.ev_terms.specs.Symbols.{binds}
use Rattle.ev_terms.specs.Measures.{size, sizes, depth, depths, types_size, types_depth}
use Rattle.ev_terms.specs.Substitution.{inst, entry, substitute as put}
use Rattle.ev_terms.proofs.Children as children
use Rattle.ev_terms.proofs.Subst.{ren, rens, lift_rens, ren-is_inst}
use Rattle.ev_typing.specs.Occurs.{has_var}
use Rattle.ev_forms.specs.Forms.{truth, is_truth, conj, disj, imp, forall}
use Rattle.ev_wd.specs.Limits.{IsSmall}
use Rattle.ev_wd.specs.Makers.{make_and, make_imp, make_or, make_all, lowered, joined_after}
use Rattle.ev_wd.proofs.Small.{small_by}

-- `true`
pub truth_only : (t : Term) → is_truth t ≡ true → t ≡ truth
truth_only (var i) e = cc
truth_only (lit n) e = cc
truth_only (node (Base zero) Empty nil) e = refl
truth_only (node (Base zero) Empty (cons t ts)) e = cc
truth_only (node (Base zero) (more A As) ts) e = cc
truth_only (node (Base (suc k)) As ts) e = cc
truth_only (node (User n) As ts) e = cc

pub no_truth : (t : Term) → t ≢ truth → is_truth t ≡ false
no_truth t h = by (is_truth t) (truth_only t)
  where
    by : (b : Boolean) → (b ≡ true → t ≡ truth) → b ≡ false
    by true g = absurd (h (g refl))
    by false g = refl

pub truth_small : IsSmall truth
truth_small = record { size_fits = omega arith; depth_fits = omega arith }

-- conjunctions
pub and_left_true : (P Q : Term) → P ≡ truth → Q ≡ make_and P Q
and_left_true P Q e = sym (ap (λ T. make_and T Q) e)

pub and_right_true : (P Q : Term) → P ≢ truth → Q ≡ truth → P ≡ make_and P Q
and_right_true P Q h e =
    sym (ap (make_and P) e ∙ ap (λ b. if b then truth else P) (no_truth P h))

pub and_neither : (P Q : Term) → P ≢ truth → Q ≢ truth → conj P Q ≡ make_and P Q
and_neither P Q h g =
    sym (ap (λ b. if b then Q else (if is_truth Q then P else conj P Q)) (no_truth P h) ∙ ap (λ b. if b then P else conj P Q) (no_truth Q g))

pub and_left : (P Q : Term) → IsSmall (make_and P Q) → IsSmall P
and_left P Q h = by (is_truth P) (is_truth Q) (truth_only P) h
  where
    by : (b c : Boolean) → (b ≡ true → P ≡ truth) → IsSmall (if b then Q else (if c then P else conj P Q)) → IsSmall P
    by true c e g = subst IsSmall (sym (e refl)) truth_small
    by false true e g = g
    by false false e g = small_by (conj P Q) P (omega arith) (omega arith) g

pub and_right : (P Q : Term) → IsSmall (make_and P Q) → IsSmall Q
and_right P Q h = by (is_truth P) (is_truth Q) (truth_only Q) h
  where
    by : (b c : Boolean) → (c ≡ true → Q ≡ truth) → IsSmall (if b then Q else (if c then P else conj P Q)) → IsSmall Q
    by true c e g = g
    by false true e g = subst IsSmall (sym (e refl)) truth_small
    by false false e g = small_by (conj P Q) Q (omega arith) (omega arith) g

-- implications
pub imp_right_true : (P Q : Term) → Q ≡ truth → truth ≡ make_imp P Q
imp_right_true P Q e = sym (ap (make_imp P) e)

pub imp_right_itself : (P Q : Term) → Q ≡ truth → Q ≡ make_imp P Q
imp_right_itself P Q e = e ∙ imp_right_true P Q e

pub imp_left_true : (P Q : Term) → Q ≢ truth → P ≡ truth → Q ≡ make_imp P Q
imp_left_true P Q h e =
    sym (ap (λ T. make_imp T Q) e ∙ ap (λ b. if b then truth else Q) (no_truth Q h))

pub imp_neither : (P Q : Term) → Q ≢ truth → P ≢ truth → imp P Q ≡ make_imp P Q
imp_neither P Q h g =
    sym (ap (λ b. if b then truth else (if is_truth P then Q else imp P Q)) (no_truth Q h) ∙ ap (λ b. if b then Q else imp P Q) (no_truth P g))

pub imp_right : (P Q : Term) → IsSmall (make_imp P Q) → IsSmall Q
imp_right P Q h = by (is_truth Q) (is_truth P) (truth_only Q) h
  where
    by : (b c : Boolean) → (b ≡ true → Q ≡ truth) → IsSmall (if b then truth else (if c then Q else imp P Q)) → IsSmall Q
    by true c e g = subst IsSmall (sym (e refl)) truth_small
    by false true e g = g
    by false false e g = small_by (imp P Q) Q (omega arith) (omega arith) g

pub imp_left : (P Q : Term) → Q ≢ truth → IsSmall (make_imp P Q) → IsSmall P
imp_left P Q ne h =
    by (is_truth P) (truth_only P) (subst IsSmall (ap (λ b. if b then truth else (if is_truth P then Q else imp P Q)) (no_truth Q ne)) h)
  where
    by : (c : Boolean) → (c ≡ true → P ≡ truth) → IsSmall (if c then Q else imp P Q) → IsSmall P
    by true e g = subst IsSmall (sym (e refl)) truth_small
    by false e g = small_by (imp P Q) P (omega arith) (omega arith) g

-- disjunctions
pub or_left_true : (P Q : Term) → P ≡ truth → truth ≡ make_or P Q
or_left_true P Q e = sym (ap (λ T. make_or T Q) e)

pub or_right_true : (P Q : Term) → P ≢ truth → Q ≡ truth → truth ≡ make_or P Q
or_right_true P Q h e =
    sym (ap (make_or P) e ∙ ap (λ b. if b || true then truth else disj P truth) (no_truth P h))

pub or_right_itself : (P Q : Term) → P ≢ truth → Q ≡ truth → Q ≡ make_or P Q
or_right_itself P Q h e = e ∙ or_right_true P Q h e

pub or_neither : (P Q : Term) → P ≢ truth → Q ≢ truth → disj P Q ≡ make_or P Q
or_neither P Q h g =
    sym (ap (λ b. if b || is_truth Q then truth else disj P Q) (no_truth P h) ∙ ap (λ b. if b then truth else disj P Q) (no_truth Q g))

pub or_right : (P Q : Term) → P ≢ truth → IsSmall (make_or P Q) → IsSmall Q
or_right P Q ne h =
    by (is_truth Q) (truth_only Q) (subst IsSmall (ap (λ b. if b || is_truth Q then truth else disj P Q) (no_truth P ne)) h)
  where
    by : (c : Boolean) → (c ≡ true → Q ≡ truth) → IsSmall (if c then truth else disj P Q) → IsSmall Q
    by true e g = subst IsSmall (sym (e refl)) truth_small
    by false e g = small_by (disj P Q) Q (omega arith) (omega arith) g

pub or_left : (P Q : Term) → P ≢ truth → Q ≢ truth → IsSmall (make_or P Q) → IsSmall P
or_left P Q ne mo h = small_by (disj P Q) P (omega arith) (omega arith) (subst IsSmall (sym (or_neither P Q ne mo)) h)

-- quantifiers
mutual
  pub size-ren : (ρ : ℕ → ℕ) (t : Term) → size (ren ρ t) ≡ size t
  size-ren ρ (var i) = refl
  size-ren ρ (lit n) = refl
  size-ren ρ (node s As ts) = ap (λ k. 1 + (types_size As + k)) (sizes-rens (lift_rens (binds s) ρ) ts)

  pub sizes-rens : (ρ : ℕ → ℕ) (ts : Terms) → sizes (rens ρ ts) ≡ sizes ts
  sizes-rens ρ nil = refl
  sizes-rens ρ (cons t ts) = let p = size-ren ρ t in let q = sizes-rens ρ ts in omega arith

mutual
  pub depth-ren : (ρ : ℕ → ℕ) (t : Term) → depth (ren ρ t) ≡ depth t
  depth-ren ρ (var i) = refl
  depth-ren ρ (lit n) = refl
  depth-ren ρ (node s As ts) = ap (λ k. 1 + max (types_depth As) k) (depths-rens (lift_rens (binds s) ρ) ts)

  pub depths-rens : (ρ : ℕ → ℕ) (ts : Terms) → depths (rens ρ ts) ≡ depths ts
  depths-rens ρ nil = refl
  depths-rens ρ (cons t ts) = let p = depth-ren ρ t in let q = depths-rens ρ ts in omega arith

pub size-lowered : (t : Term) → size (lowered t) ≡ size t
size-lowered t = ap size (sym (ren-is_inst pred t)) ∙ size-ren pred t

pub depth-lowered : (t : Term) → depth (lowered t) ≡ depth t
depth-lowered t = ap depth (sym (ren-is_inst pred t)) ∙ depth-ren pred t

pub lowered_small : (t : Term) → IsSmall (lowered t) → IsSmall t
lowered_small t h = small_by (lowered t) t (omega (arith, size-lowered t)) (omega (arith, depth-lowered t)) h

pub all_bound : (A : Ty) (P : Term) → has_var 0 P ≡ true → forall A P ≡ make_all A P
all_bound A P e = sym (ap (λ b. if b then forall A P else lowered P) e)

pub all_idle : (A : Ty) (P : Term) → has_var 0 P ≡ false → lowered P ≡ make_all A P
all_idle A P e = sym (ap (λ b. if b then forall A P else lowered P) e)

pub all_true : (A : Ty) (P : Term) → P ≡ truth → P ≡ make_all A P
unfolding binds
all_true A P e = e ∙ sym (ap (make_all A) e)

pub all_body : (A : Ty) (P : Term) → IsSmall (make_all A P) → IsSmall P
all_body A P h = by (has_var 0 P) h
  where
    by : (b : Boolean) → IsSmall (if b then forall A P else lowered P) → IsSmall P
    by true g = small_by (forall A P) P (omega arith) (omega arith) g
    by false g = lowered_small P g

-- a list of conditions
pub after_first : (P : Term) (Qs : List Term) → IsSmall (joined_after P Qs) → IsSmall P
after_first P [] h = h
after_first P (Q ∷ Qs) h = and_left P Q (after_first (make_and P Q) Qs h)

pub ruleset makers = (and_left_true, and_right_true, and_neither, imp_right_itself, imp_left_true, imp_neither, imp_left, or_left_true, or_right_itself, or_neither, or_left, all_true, all_bound, all_idle)

pub ruleset joining = (and_left, and_right)

-- one more of a list
pub one_more : (ts : List Term) (i : ℕ) (t D E J : Term) → t ≡ get_or ts i t → i < length ts → E ≡ make_and D t → joined_after D (drop i ts) ≡ J → joined_after E (drop (i + 1) ts) ≡ J
one_more ts i t D E J p h e q =
    ap (λ x. joined_after x (drop (i + 1) ts)) e ∙ sym (ap (joined_after D) (children.drop_at ts i t p h)) ∙ q

pub next_small : (ts : List Term) (i : ℕ) (t D J : Term) → t ≡ get_or ts i t → i < length ts → joined_after D (drop i ts) ≡ J → IsSmall J → IsSmall (make_and D t)
next_small ts i t D J p h q g =
    after_first (make_and D t) (drop (i + 1) ts) (subst IsSmall (sym q ∙ ap (joined_after D) (children.drop_at ts i t p h)) g)

pub all_done : (ts : List Term) (i : ℕ) (D J : Term) → drop i ts ≡ [] → joined_after D (drop i ts) ≡ J → D ≡ J
all_done ts i D J e q = sym (ap (joined_after D) e) ∙ q

pub ruleset listing = (children.walk, one_more, next_small, all_done, after_first)

-- a refusal of the one part is one of the whole
pub part_refused : (P Q : Term) → ¬ IsSmall Q → ¬ IsSmall (joined_after P (Q ∷ []))
part_refused P Q h g = h (and_right P Q g)

pub ruleset parts = (part_refused)
