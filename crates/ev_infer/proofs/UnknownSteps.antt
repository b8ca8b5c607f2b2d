-- What the walk over the unknowns of a solution needs: its steps over marks and visits.
use Rattle.std.specs.Prelude.{◌≡◌, ◌≢◌, ℕ, zero, suc, ◌+◌, ◌<◌, ◌≤◌, ◌||◌, ◌==◌, ◌⊎◌, max, Bool as Boolean, true, false, if◌then◌else◌, List, [], ◌∷◌, ◌++◌, length, take, Some, None, slice_get, refl}
use Rattle.std.proofs.Common.{ap, sym, ◌∙◌, arith, get_or, set, inl, inr, drop, subst as transport}
use Rattle.std.proofs.lemmas.Bool.{eqb-true, eq-eqb, cases_eq, cases_lt}
use Rattle.std.proofs.lemmas.List.{get_or-set_same, get_or-set_other}
use Rattle.std.proofs.Math.ListN.{length-set}
use Rattle.std.proofs.lemmas.Option.{slice_get-get_or}
use Rattle.ev_terms.specs.declared.extents.Extent.{Extent}
use Rattle.ev_terms.specs.declared.types.Ty.{Ty, Int as IntType, Data as DataType}
use Rattle.ev_terms.specs.Types.{pow}
use Rattle.ev_terms.specs.Measures.{type_size, types_size, type_depth, types_depth}
use Rattle.ev_typing.proofs.Names.{drop_at, drop_all}
use Rattle.ev_unify.specs.declared.patterns.Pat.{Pat, Int, Bool, Param, Data, Unknown}
use Rattle.ev_unify.specs.declared.patterns.Pats.{Pats, Empty}
use Rattle.ev_unify.specs.declared.patterns.Bind.{Bind}
use Rattle.ev_unify.specs.Patterns.{pow_pat, prod_pat, more_pats, value, values, has_unknown, have_unknown, followed, all_followed}
use Rattle.ev_unify.specs.Solutions.{bound_to, of_bound}
use Rattle.ev_unify.proofs.Followed.{prod_by, more_by, value_through}
use Rattle.ev_infer.specs.declared.bulks.Bulk.{Bulk}
use Rattle.ev_infer.specs.declared.solving.Mark.{Mark}
use Rattle.ev_infer.specs.declared.solving.Mark.TheVariants.{Free, Bound, Open, Done}
use Rattle.ev_infer.specs.declared.solving.Visit.{Visit}
use Rattle.ev_infer.specs.declared.solving.Scan.TheVariants as scan
use Rattle.ev_infer.specs.Inference.{is_open, are_open}
use Rattle.ev_infer.specs.inner.Bulks.{bulk, above, beside, type_bulk, types_bulk, pat_bulk, pats_bulk, bulk_at, type_at_unknown, IsWithin}
use Rattle.ev_infer.specs.inner.Solving.{IsEnded, ended_type, IsSolved, IsLeftFree, mark, IsBoundBy, IsMark, AreMarks, AreVisits, AreOrdered, NoneOpen, count_bound, labor, IsScan, IsFirstMark, AreSolved, IsBoundTo, AreKnown}

-- Open and closed patterns, followed.
or_left : (a b : Boolean) → a ≡ true → (a || b) ≡ true
or_left true b e = refl
or_left false b e = cc

or_right : (a b : Boolean) → b ≡ true → (a || b) ≡ true
or_right true b e = refl
or_right false b e = e

or_both : (a b : Boolean) → a ≡ false → b ≡ false → (a || b) ≡ false
or_both true b e f = cc
or_both false b e f = f

or_cases : (a b : Boolean) → (a || b) ≡ true → (a ≡ true) ⊎ (b ≡ true)
or_cases true b e = inl refl
or_cases false b e = inr e

mutual
  pub open_followed : (μ : ℕ → Pat) (w : ℕ) (p : Pat) → has_unknown w p ≡ true → is_open (μ w) ≡ true → is_open (followed μ p) ≡ true
  open_followed μ w Int e h = cc
  open_followed μ w Bool e h = cc
  open_followed μ w (Param i) e h = cc
  open_followed μ w (pow_pat p) e h = open_followed μ w p e h
  open_followed μ w (prod_pat p q) e h = go (or_cases (has_unknown w p) (has_unknown w q) e) (λ k. open_followed μ w p k h) (λ k. open_followed μ w q k h)
    where
      go : (has_unknown w p ≡ true) ⊎ (has_unknown w q ≡ true) → (has_unknown w p ≡ true → is_open (followed μ p) ≡ true) → (has_unknown w q ≡ true → is_open (followed μ q) ≡ true) → (is_open (followed μ p) || is_open (followed μ q)) ≡ true
      go (inl k) f g = or_left (is_open (followed μ p)) (is_open (followed μ q)) (f k)
      go (inr k) f g = or_right (is_open (followed μ p)) (is_open (followed μ q)) (g k)
  open_followed μ w (Data n ps) e h = all_open_followed μ w ps e h
  open_followed μ w (Unknown u) e h = let q : u ≡ w = eqb-true u w e in ap (λ x. is_open (μ x)) q ∙ h

  pub all_open_followed : (μ : ℕ → Pat) (w : ℕ) (ps : Pats) → have_unknown w ps ≡ true → is_open (μ w) ≡ true → are_open (all_followed μ ps) ≡ true
  all_open_followed μ w Empty e h = cc
  all_open_followed μ w (more_pats p ps) e h = go (or_cases (has_unknown w p) (have_unknown w ps) e) (λ k. open_followed μ w p k h) (λ k. all_open_followed μ w ps k h)
    where
      go : (has_unknown w p ≡ true) ⊎ (have_unknown w ps ≡ true) → (has_unknown w p ≡ true → is_open (followed μ p) ≡ true) → (have_unknown w ps ≡ true → are_open (all_followed μ ps) ≡ true) → (is_open (followed μ p) || are_open (all_followed μ ps)) ≡ true
      go (inl k) f g = or_left (is_open (followed μ p)) (are_open (all_followed μ ps)) (f k)
      go (inr k) f g = or_right (is_open (followed μ p)) (are_open (all_followed μ ps)) (g k)

mutual
  pub closed_followed : (μ : ℕ → Pat) (p : Pat) → ((w : ℕ) → has_unknown w p ≡ true → is_open (μ w) ≡ false) → is_open (followed μ p) ≡ false
  closed_followed μ Int h = refl
  closed_followed μ Bool h = refl
  closed_followed μ (Param i) h = refl
  closed_followed μ (pow_pat p) h = closed_followed μ p h
  closed_followed μ (prod_pat p q) h =
      or_both (is_open (followed μ p)) (is_open (followed μ q)) (closed_followed μ p (λ w e. h w (or_left (has_unknown w p) (has_unknown w q) e))) (closed_followed μ q (λ w e. h w (or_right (has_unknown w p) (has_unknown w q) e)))
  closed_followed μ (Data n ps) h = all_closed_followed μ ps h
  closed_followed μ (Unknown u) h = h u (eq-eqb u u refl)

  pub all_closed_followed : (μ : ℕ → Pat) (ps : Pats) → ((w : ℕ) → have_unknown w ps ≡ true → is_open (μ w) ≡ false) → are_open (all_followed μ ps) ≡ false
  all_closed_followed μ Empty h = refl
  all_closed_followed μ (more_pats p ps) h =
      or_both (is_open (followed μ p)) (are_open (all_followed μ ps)) (closed_followed μ p (λ w e. h w (or_left (has_unknown w p) (have_unknown w ps) e))) (all_closed_followed μ ps (λ w e. h w (or_right (has_unknown w p) (have_unknown w ps) e)))

-- How large a pattern is whose unknowns are so large.
bulk_by : (m n m' n' : ℕ) → m ≡ m' → n ≡ n' → ◌≡◌ {A = Bulk} (record { size = m; depth = n }) (record { size = m'; depth = n' })
bulk_by m n m' n' p q = cc

above_bulk : (m n : ℕ) → above (bulk m n) ≡ bulk (1 + m) (1 + n)
above_bulk m n = bulk_by _ _ _ _ (omega arith) (omega arith)

beside_bulk : (m n k l : ℕ) → beside (bulk m n) (bulk k l) ≡ bulk (m + k) (max n l)
beside_bulk m n k l = bulk_by _ _ _ _ (omega arith) (omega arith)

mutual
  pub bulk_value : (e : ℕ → Bulk) (σ : ℕ → Ty) (p : Pat) → ((w : ℕ) → has_unknown w p ≡ true → e w ≡ type_bulk (σ w)) → pat_bulk e p ≡ type_bulk (value σ p)
  bulk_value e σ Int h = refl
  bulk_value e σ Bool h = refl
  bulk_value e σ (Param i) h = refl
  bulk_value e σ (pow_pat p) h = ap above (bulk_value e σ p h) ∙ above_bulk (type_size (value σ p)) (type_depth (value σ p))
  bulk_value e σ (prod_pat p q) h =
      ap (λ x. above (beside x (pat_bulk e q))) (bulk_value e σ p (λ w k. h w (or_left (has_unknown w p) (has_unknown w q) k)))
      ∙ ap (λ x. above (beside (type_bulk (value σ p)) x)) (bulk_value e σ q (λ w k. h w (or_right (has_unknown w p) (has_unknown w q) k)))
      ∙ ap above (beside_bulk (type_size (value σ p)) (type_depth (value σ p)) (type_size (value σ q)) (type_depth (value σ q)))
      ∙ above_bulk (type_size (value σ p) + type_size (value σ q)) (max (type_depth (value σ p)) (type_depth (value σ q)))
  bulk_value e σ (Data n ps) h = ap above (bulk_values e σ ps h) ∙ above_bulk (types_size (values σ ps)) (types_depth (values σ ps))
  bulk_value e σ (Unknown u) h = h u (eq-eqb u u refl)

  pub bulk_values : (e : ℕ → Bulk) (σ : ℕ → Ty) (ps : Pats) → ((w : ℕ) → have_unknown w ps ≡ true → e w ≡ type_bulk (σ w)) → pats_bulk e ps ≡ types_bulk (values σ ps)
  bulk_values e σ Empty h = refl
  bulk_values e σ (more_pats p ps) h =
      ap (λ x. beside x (pats_bulk e ps)) (bulk_value e σ p (λ w k. h w (or_left (has_unknown w p) (have_unknown w ps) k)))
      ∙ ap (λ x. beside (type_bulk (value σ p)) x) (bulk_values e σ ps (λ w k. h w (or_right (has_unknown w p) (have_unknown w ps) k)))
      ∙ beside_bulk (type_size (value σ p)) (type_depth (value σ p)) (types_size (values σ ps)) (types_depth (values σ ps))

-- Where a whole is within the limit, so are its parts, and what is known of parts that are within is known of the whole.
pub within_less : (m n k l : ℕ) (limit : Extent) → k ≤ m → l ≤ n → IsWithin (bulk m n) limit → IsWithin (bulk k l) limit
within_less m n k l limit g f h = let x = h.size in let y = h.depth in record { size = omega (arith, x, g); depth = omega (arith, y, f) }

mutual
  pub value_within : (τ σ : ℕ → Ty) (limit : Extent) (p : Pat) → ((w : ℕ) → has_unknown w p ≡ true → IsWithin (type_bulk (σ w)) limit → τ w ≡ σ w) → IsWithin (type_bulk (value σ p)) limit → value τ p ≡ value σ p
  value_within τ σ limit Int h g = refl
  value_within τ σ limit Bool h g = refl
  value_within τ σ limit (Param i) h g = refl
  value_within τ σ limit (pow_pat p) h g = ap pow (value_within τ σ limit p h (within_less (1 + type_size (value σ p)) (1 + type_depth (value σ p)) (type_size (value σ p)) (type_depth (value σ p)) limit (omega arith) (omega arith) g))
  value_within τ σ limit (prod_pat p q) h g =
      prod_by
      (value_within τ σ limit p (λ w e. h w (or_left (has_unknown w p) (has_unknown w q) e))
      (within_less (1 + (type_size (value σ p) + type_size (value σ q))) (1 + max (type_depth (value σ p)) (type_depth (value σ q))) (type_size (value σ p)) (type_depth (value σ p)) limit (omega arith) (omega arith) g))
      (value_within τ σ limit q (λ w e. h w (or_right (has_unknown w p) (has_unknown w q) e))
      (within_less (1 + (type_size (value σ p) + type_size (value σ q))) (1 + max (type_depth (value σ p)) (type_depth (value σ q))) (type_size (value σ q)) (type_depth (value σ q)) limit (omega arith) (omega arith) g))
  value_within τ σ limit (Data n ps) h g = ap (DataType n) (values_within τ σ limit ps h (within_less (1 + types_size (values σ ps)) (1 + types_depth (values σ ps)) (types_size (values σ ps)) (types_depth (values σ ps)) limit (omega arith) (omega arith) g))
  value_within τ σ limit (Unknown u) h g = h u (eq-eqb u u refl) g

  pub values_within : (τ σ : ℕ → Ty) (limit : Extent) (ps : Pats) → ((w : ℕ) → have_unknown w ps ≡ true → IsWithin (type_bulk (σ w)) limit → τ w ≡ σ w) → IsWithin (types_bulk (values σ ps)) limit → values τ ps ≡ values σ ps
  values_within τ σ limit Empty h g = refl
  values_within τ σ limit (more_pats p ps) h g =
      more_by
      (value_within τ σ limit p (λ w e. h w (or_left (has_unknown w p) (have_unknown w ps) e))
      (within_less (type_size (value σ p) + types_size (values σ ps)) (max (type_depth (value σ p)) (types_depth (values σ ps))) (type_size (value σ p)) (type_depth (value σ p)) limit (omega arith) (omega arith) g))
      (values_within τ σ limit ps (λ w e. h w (or_right (has_unknown w p) (have_unknown w ps) e))
      (within_less (type_size (value σ p) + types_size (values σ ps)) (max (type_depth (value σ p)) (types_depth (values σ ps))) (types_size (values σ ps)) (types_depth (values σ ps)) limit (omega arith) (omega arith) g))

-- A bound unknown is what its pattern is.
ended_bound : (S : List Bind) (μ : ℕ → Pat) (u : ℕ) (p : Pat) → IsEnded S μ → bound_to S u ≡ Some p → μ u ≡ followed μ p
ended_bound S μ u p e b = e u ∙ ap (of_bound μ u) b

ended_value : (S : List Bind) (μ : ℕ → Pat) (u : ℕ) (p : Pat) → IsEnded S μ → bound_to S u ≡ Some p → ended_type μ u ≡ value (ended_type μ) p
ended_value S μ u p e b = ap (value (λ v. IntType)) (ended_bound S μ u p e b) ∙ sym (value_through (λ v. IntType) μ p)

pub left_free : (S : List Bind) (u : ℕ) → bound_to S u ≡ None → IsLeftFree S u
left_free S u b μ e = ap is_open (e u ∙ ap (of_bound μ u) b)

pub left_free_in : (S : List Bind) (t w : ℕ) (p : Pat) → bound_to S t ≡ Some p → has_unknown w p ≡ true → IsLeftFree S w → IsLeftFree S t
left_free_in S t w p b k h μ e = ap is_open (ended_bound S μ t p e b) ∙ open_followed μ w p k (h μ e)

pub solved_by : (S : List Bind) (limit : Extent) (u : ℕ) (p : Pat) (bulks : List Bulk) (types : List Ty) (b : Bulk) (A : Ty) → bound_to S u ≡ Some p
    → ((w : ℕ) → has_unknown w p ≡ true → IsSolved S limit w (bulk_at bulks w) (type_at_unknown types w)) → b ≡ pat_bulk (bulk_at bulks) p → (IsWithin b limit → A ≡ value (type_at_unknown types) p) → IsSolved S limit u b A
solved_by S limit u p bulks types b A e h eb ea = record {
  closed = λ μ k. ap is_open (ended_bound S μ u p k e) ∙ closed_followed μ p (λ w q. (h w q).closed μ k);
  large = λ μ k. eb ∙ bulk_value (bulk_at bulks) (ended_type μ) p (λ w q. (h w q).large μ k) ∙ ap type_bulk (sym (ended_value S μ u p k e));
  type = λ μ k g.
      let size : b ≡ type_bulk (value (ended_type μ) p) = eb ∙ bulk_value (bulk_at bulks) (ended_type μ) p (λ w q. (h w q).large μ k) in
      ea g
      ∙ value_within (type_at_unknown types) (ended_type μ) limit p (λ w q i. (h w q).type μ k (transport (λ x. IsWithin x limit) (sym ((h w q).large μ k)) i)) (transport (λ x. IsWithin x limit) size g)
      ∙ sym (ended_value S μ u p k e);
}

-- Tables, one entry changed.
mark_same : (M : List Mark) (t u : ℕ) (m : Mark) → t < length M → u ≡ t → mark (set M t m) u ≡ m
mark_same M t u m h e = ap (mark (set M t m)) e ∙ get_or-set_same M t m Free h

mark_other : (M : List Mark) (t u : ℕ) (m : Mark) → u ≢ t → mark (set M t m) u ≡ mark M u
mark_other M t u m e = get_or-set_other M t u m Free e

bulk_same : (B : List Bulk) (t u : ℕ) (b : Bulk) → t < length B → u ≡ t → bulk_at (set B t b) u ≡ b
bulk_same B t u b h e = ap (bulk_at (set B t b)) e ∙ get_or-set_same B t b (bulk 0 0) h

bulk_other : (B : List Bulk) (t u : ℕ) (b : Bulk) → u ≢ t → bulk_at (set B t b) u ≡ bulk_at B u
bulk_other B t u b e = get_or-set_other B t u b (bulk 0 0) e

type_same : (T : List Ty) (t u : ℕ) (A : Ty) → t < length T → u ≡ t → type_at_unknown (set T t A) u ≡ A
type_same T t u A h e = ap (type_at_unknown (set T t A)) e ∙ get_or-set_same T t A IntType h

type_other : (T : List Ty) (t u : ℕ) (A : Ty) → u ≢ t → type_at_unknown (set T t A) u ≡ type_at_unknown T u
type_other T t u A e = get_or-set_other T t u A IntType e

abbrev Known : List Bind → Extent → ℕ → List Mark → List Bulk → List Ty → Type 0
Known S limit u M B T = IsMark S limit u (mark M u) (bulk_at B u) (type_at_unknown T u)

known_by : (S : List Bind) (limit : Extent) (u : ℕ) (m m' : Mark) (b b' : Bulk) (A A' : Ty) → m ≡ m' → b ≡ b' → A ≡ A' → IsMark S limit u m b A → IsMark S limit u m' b' A'
known_by S limit u m m' b b' A A' e f g h =
    transport (λ x. IsMark S limit u m' b' x) g (transport (λ x. IsMark S limit u m' x A) f (transport (λ x. IsMark S limit u x b A) e h))

-- an unknown that a walk comes to
pub marks_open : (S : List Bind) (limit : Extent) (count t : ℕ) (M M' : List Mark) (B : List Bulk) (T : List Ty) → t < count → M' ≡ set M t Open → AreMarks S limit count M B T → AreMarks S limit count M' B T
marks_open S limit count t M M' B T l e h = record {
  mark_count = ap length e ∙ length-set M t Open ∙ h.mark_count;
  bulk_count = h.bulk_count;
  type_count = h.type_count;
  known = λ u k. transport (λ x. IsMark S limit u x (bulk_at B u) (type_at_unknown T u)) (sym (ap (λ N. mark N u) e)) (elim (cases_eq u t) as (λ _. IsMark S limit u (mark (set M t Open) u) (bulk_at B u) (type_at_unknown T u)) [
    | inl q ↦ transport (λ x. IsMark S limit u x (bulk_at B u) (type_at_unknown T u)) (sym (mark_same M t u Open (omega (arith, l, h.mark_count)) q)) tt
    | inr n ↦ transport (λ x. IsMark S limit u x (bulk_at B u) (type_at_unknown T u)) (sym (mark_other M t u Open n)) (h.known u k)
  ]);
}

-- one that is left
pub marks_done : (S : List Bind) (limit : Extent) (count t : ℕ) (M M' : List Mark) (B B' : List Bulk) (T T' : List Ty) (b : Bulk) (A : Ty) → t < count → M' ≡ set M t Done → B' ≡ set B t b → T' ≡ set T t A
    → IsSolved S limit t b A → AreMarks S limit count M B T → AreMarks S limit count M' B' T'
marks_done S limit count t M M' B B' T T' b A l em eb et s h = record {
  mark_count = ap length em ∙ length-set M t Done ∙ h.mark_count;
  bulk_count = ap length eb ∙ length-set B t b ∙ h.bulk_count;
  type_count = ap length et ∙ length-set T t A ∙ h.type_count;
  known = λ u k. elim (cases_eq u t) as (λ _. IsMark S limit u (mark M' u) (bulk_at B' u) (type_at_unknown T' u)) [
    | inl q ↦
        known_by S limit u Done (mark M' u) b (bulk_at B' u) A (type_at_unknown T' u)
        (sym (ap (λ N. mark N u) em ∙ mark_same M t u Done (omega (arith, l, h.mark_count)) q))
        (sym (ap (λ N. bulk_at N u) eb ∙ bulk_same B t u b (omega (arith, l, h.bulk_count)) q))
        (sym (ap (λ N. type_at_unknown N u) et ∙ type_same T t u A (omega (arith, l, h.type_count)) q))
        (transport (λ x. IsSolved S limit x b A) (sym q) s)
    | inr n ↦
        known_by S limit u (mark M u) (mark M' u) (bulk_at B u) (bulk_at B' u) (type_at_unknown T u) (type_at_unknown T' u)
        (sym (ap (λ N. mark N u) em ∙ mark_other M t u Done n))
        (sym (ap (λ N. bulk_at N u) eb ∙ bulk_other B t u b n))
        (sym (ap (λ N. type_at_unknown N u) et ∙ type_other T t u A n))
        (h.known u k)
  ];
}

pub leave_by : (S : List Bind) (limit : Extent) (t : ℕ) (p : Pat) (M M' : List Mark) (B B' : List Bulk) (T T' : List Ty) (b : Bulk) (A : Ty) → t < length M → IsBoundTo S t p → AreKnown p M → b ≡ pat_bulk (bulk_at B) p
    → (IsWithin b limit → A ≡ value (type_at_unknown T) p) → M' ≡ set M t Done → B' ≡ set B t b → T' ≡ set T t A → AreMarks S limit (length M) M B T → AreMarks S limit (length M) M' B' T'
leave_by S limit t p M M' B B' T T' b A l bound parts eb ea em ebs et h =
    marks_done S limit (length M) t M M' B B' T T' b A l em ebs et
    (solved_by S limit t p B T b A bound (λ w k. let (lw, dw) = parts w k in transport (λ x. IsMark S limit w x (bulk_at B w) (type_at_unknown T w)) dw (h.known w lw)) eb ea) h

-- The path.
pub visits_top : (S : List Bind) (count start : ℕ) (vs : List Visit) (v : Visit) → AreVisits S count start (vs ++ v ∷ []) → (v.unknown < count) × IsBoundBy S v.unknown v.bind × (IsLeftFree S v.unknown → IsLeftFree S start)
visits_top S count start [] v (a, b, c, d) = (a, b, c)
visits_top S count start (w ∷ vs) v (a, b, c, d) = visits_top S count start vs v d

pub visits_rest : (S : List Bind) (count start : ℕ) (vs : List Visit) (v : Visit) → AreVisits S count start (vs ++ v ∷ []) → AreVisits S count start vs
visits_rest S count start [] v h = tt
visits_rest S count start (w ∷ vs) v (a, b, c, d) = (a, b, c, visits_rest S count start vs v d)

pub visits_push : (S : List Bind) (count start : ℕ) (vs : List Visit) (v : Visit) → AreVisits S count start vs → v.unknown < count → IsBoundBy S v.unknown v.bind → (IsLeftFree S v.unknown → IsLeftFree S start) → AreVisits S count start (vs ++ v ∷ [])
visits_push S count start [] v h a b c = (a, b, c, tt)
visits_push S count start (w ∷ vs) v (a', b', c', d') a b c = (a', b', c', visits_push S count start vs v d' a b c)

-- what is left to do
count_open : (M : List Mark) (t i : ℕ) → t < length M → mark M t ≡ Bound i → count_bound (set M t Open) + 1 ≡ count_bound M
count_open [] t i h e = absurd (omega (arith, h))
count_open (Free ∷ ms) zero i h e = let q : Free ≡ Bound i = e in absurd (cc)
count_open (Bound j ∷ ms) zero i h e = omega arith
count_open (Open ∷ ms) zero i h e = let q : Open ≡ Bound i = e in absurd (cc)
count_open (Done ∷ ms) zero i h e = let q : Done ≡ Bound i = e in absurd (cc)
count_open (Free ∷ ms) (suc t) i h e = count_open ms t i (omega arith) e
count_open (Bound j ∷ ms) (suc t) i h e = omega (arith, count_open ms t i (omega arith) e)
count_open (Open ∷ ms) (suc t) i h e = count_open ms t i (omega arith) e
count_open (Done ∷ ms) (suc t) i h e = count_open ms t i (omega arith) e

count_done : (M : List Mark) (t : ℕ) → count_bound (set M t Done) ≤ count_bound M
count_done [] t = omega arith
count_done (Free ∷ ms) zero = omega arith
count_done (Bound j ∷ ms) zero = omega arith
count_done (Open ∷ ms) zero = omega arith
count_done (Done ∷ ms) zero = omega arith
count_done (Free ∷ ms) (suc t) = count_done ms t
count_done (Bound j ∷ ms) (suc t) = omega (arith, count_done ms t)
count_done (Open ∷ ms) (suc t) = count_done ms t
count_done (Done ∷ ms) (suc t) = count_done ms t

length_more : (vs : List Visit) (v : Visit) → length (vs ++ v ∷ []) ≡ length vs + 1
length_more [] v = refl
length_more (w ∷ vs) v = omega (arith, length_more vs v)

pub labor_free : (M : List Mark) (vs : List Visit) (v : Visit) → labor M vs < labor M (vs ++ v ∷ [])
labor_free M vs v = omega (arith, length_more vs v)

pub labor_done : (M M' : List Mark) (t : ℕ) (vs : List Visit) (v : Visit) → M' ≡ set M t Done → labor M' vs < labor M (vs ++ v ∷ [])
labor_done M M' t vs v e = let c : count_bound M' ≤ count_bound M = transport (λ N. count_bound N ≤ count_bound M) (sym e) (count_done M t) in omega (arith, c, length_more vs v)

pub labor_down : (M M' : List Mark) (t i : ℕ) (vs ws : List Visit) (v w : Visit) → t < length M → mark M t ≡ Bound i → M' ≡ set M t Open → ws ≡ (vs ++ v ∷ []) ++ w ∷ [] → labor M' ws < labor M (vs ++ v ∷ [])
labor_down M M' t i vs ws v w l e f g =
    let c : count_bound M' + 1 ≡ count_bound M = ap (λ N. count_bound N + 1) f ∙ count_open M t i l e in
    let n : length ws ≡ length (vs ++ v ∷ []) + 1 = ap length g ∙ length_more (vs ++ v ∷ []) w in
    omega (arith, c, n)

-- A step of the walk.
bind_bound : (S : List Bind) (u i : ℕ) (b : Bind) → IsBoundBy S u i → b ≡ get_or S i b → i < length S → bound_to S u ≡ Some b.value
bind_bound S u i b h e l =
    let q : Some h.bind ≡ Some b = sym h.at ∙ slice_get-get_or S i b l ∙ ap (λ x. Some x) (sym e) in
    let r : h.bind ≡ b = cc in
    h.bound ∙ ap (λ (x : Bind). Some x.value) r

pub bind_inside : (S : List Bind) (u i : ℕ) → IsBoundBy S u i → i < length S
bind_inside S u i h = go S i h.bind h.at
  where
    go : (R : List Bind) (j : ℕ) (b : Bind) → slice_get R j ≡ Some b → j < length R
    go [] j b e = cc
    go (c ∷ R) zero b e = omega arith
    go (c ∷ R) (suc j) b e = omega (arith, go R j b e)

pub top_bound : (S : List Bind) (count start : ℕ) (vs : List Visit) (v : Visit) (b : Bind) (p : Pat) → AreVisits S count start (vs ++ v ∷ []) → b ≡ get_or S v.bind b → p ≡ b.value → IsBoundTo S v.unknown p
top_bound S count start vs v b p h e f =
    let (a, i, c) = visits_top S count start vs v h in
    bind_bound S v.unknown v.bind b i e (bind_inside S v.unknown v.bind i) ∙ ap (λ x. Some x) (sym f)

pub step_free : (S : List Bind) (limit : Extent) (count start : ℕ) (M : List Mark) (B : List Bulk) (T : List Ty) (vs : List Visit) (v : Visit) (p : Pat) → count ≡ length M → AreMarks S limit count M B T → AreVisits S count start (vs ++ v ∷ []) → IsBoundTo S v.unknown p
    → IsScan p M scan.Free → IsLeftFree S start
step_free S limit count start M B T vs v p n h path b (w, k, l, m) =
    let (x, y, z) = visits_top S count start vs v path in
    z (left_free_in S v.unknown w p b k (left_free S w (transport (λ y. IsMark S limit w y (bulk_at B w) (type_at_unknown T w)) m (h.known w (omega (arith, l, n))))))

pub next_bound : (S : List Bind) (limit : Extent) (count : ℕ) (M : List Mark) (B : List Bulk) (T : List Ty) (w : Visit) → count ≡ length M → AreMarks S limit count M B T → w.unknown < length M → mark M w.unknown ≡ Bound w.bind → IsBoundBy S w.unknown w.bind
next_bound S limit count M B T w n h l m = transport (λ y. IsMark S limit w.unknown y (bulk_at B w.unknown) (type_at_unknown T w.unknown)) m (h.known w.unknown (omega (arith, l, n)))

pub step_down : (S : List Bind) (limit : Extent) (count start : ℕ) (M : List Mark) (B : List Bulk) (T : List Ty) (vs ws : List Visit) (v w : Visit) (p : Pat) → count ≡ length M → AreMarks S limit count M B T → AreVisits S count start (vs ++ v ∷ []) → IsBoundTo S v.unknown p
    → IsScan p M (scan.Next w) → ws ≡ (vs ++ v ∷ []) ++ w ∷ [] → AreVisits S count start ws
step_down S limit count start M B T vs ws v w p n h path b (k, l, m) e =
    let (x, y, z) = visits_top S count start vs v path in
    transport (AreVisits S count start) (sym e)
    (visits_push S count start (vs ++ v ∷ []) w path (omega (arith, l, n)) (next_bound S limit count M B T w n h l m) (λ f. z (left_free_in S v.unknown w.unknown p b k f)))

-- The marks before any walk.
first_same : (S R : List Bind) (u : ℕ) (b : Bind) → b.unknown ≡ u → bound_to (b ∷ R) u ≡ Some b.value
first_same S R u b e = ap (λ x. if x then Some b.value else bound_to R u) (eq-eqb b.unknown u e)

first_other : (R : List Bind) (u : ℕ) (b : Bind) → (b.unknown ≡ u → ⊥) → bound_to (b ∷ R) u ≡ bound_to R u
first_other R u b n = go (b.unknown == u) refl
  where
    go : (x : Boolean) → (b.unknown == u) ≡ x → (if x then Some b.value else bound_to R u) ≡ bound_to R u
    go true e = absurd (n (eqb-true b.unknown u e))
    go false e = refl

first_kept : (S R R' : List Bind) (u : ℕ) (m : Mark) → bound_to R' u ≡ bound_to R u → IsFirstMark S R u m → IsFirstMark S R' u m
first_kept S R R' u Free e h = e ∙ h
first_kept S R R' u (Bound i) e (b, a, k) = (b, a, e ∙ k)
first_kept S R R' u Open e h = h
first_kept S R R' u Done e h = h

abbrev pub AreFirst : List Bind → ℕ → ℕ → List Mark → Type 0
AreFirst S i count M = (u : ℕ) → u < count → IsFirstMark S (drop i S) u (mark M u)

pub first_step : (S : List Bind) (i j count : ℕ) (M M' : List Mark) (b : Bind) (t : ℕ) → length M ≡ count → i ≡ j + 1 → b ≡ get_or S j b → j < length S → t ≡ b.unknown → t < count → M' ≡ set M t (Bound j) → AreFirst S i count M → AreFirst S j count M'
first_step S i j count M M' b t n ij e l q lt f h u k =
    let d : drop j S ≡ b ∷ drop (j + 1) S = drop_at S j b e l in
    let dd : drop (j + 1) S ≡ drop i S = ap (λ x. drop x S) (sym ij) in
    let d' : drop j S ≡ b ∷ drop i S = d ∙ ap (λ R. b ∷ R) dd in
    transport (λ x. IsFirstMark S (drop j S) u (mark x u)) (sym f)
    (elim (cases_eq u t) as (λ _. IsFirstMark S (drop j S) u (mark (set M t (Bound j)) u)) [
      | inl w ↦
          transport (IsFirstMark S (drop j S) u) (sym (mark_same M t u (Bound j) (omega (arith, lt, n)) w))
          (b, slice_get-get_or S j b l ∙ ap (λ x. Some x) (sym e), ap (λ R. bound_to R u) d' ∙ first_same S (drop i S) u b (sym q ∙ sym w))
      | inr w ↦
          transport (IsFirstMark S (drop j S) u) (sym (mark_other M t u (Bound j) w))
          (first_kept S (drop i S) (drop j S) u (mark M u) (ap (λ R. bound_to R u) d' ∙ first_other (drop i S) u b (λ z. w (sym z ∙ sym q))) (h u k))
    ])

-- an unknown that some bind has
somewhere : (S : List Bind) (u i : ℕ) (b : Bind) → slice_get S i ≡ Some b → b.unknown ≡ u → (p : Pat) × (bound_to S u ≡ Some p)
somewhere [] u i b e q = cc
somewhere (c ∷ R) u zero b e q = let r : c ≡ b = cc in (c.value, first_same (c ∷ R) R u c (ap (λ (x : Bind). x.unknown) r ∙ q))
somewhere (c ∷ R) u (suc i) b e q = go (c.unknown == u) refl (somewhere R u i b e q)
  where
    go : (x : Boolean) → (c.unknown == u) ≡ x → (p : Pat) × (bound_to R u ≡ Some p) → (p : Pat) × (bound_to (c ∷ R) u ≡ Some p)
    go true f h = (c.value, ap (λ y. if y then Some c.value else bound_to R u) f)
    go false f (p, h) = (p, ap (λ y. if y then Some c.value else bound_to R u) f ∙ h)

pub bind_below : (S : List Bind) (count j : ℕ) (b : Bind) → AreOrdered S count → b ≡ get_or S j b → j < length S → b.unknown < count
bind_below S count j b o e l =
    let (p, q) = somewhere S b.unknown j b (slice_get-get_or S j b l ∙ ap (λ x. Some x) (sym e)) refl in
    o.bound b.unknown p q

pub ordered_by : (S : List Bind) (m n : ℕ) → n ≡ m → AreOrdered S m → AreOrdered S n
ordered_by S m n e h = transport (AreOrdered S) (sym e) h

first_closed : (S R : List Bind) (u : ℕ) (m : Mark) → IsFirstMark S R u m → m ≢ Open
first_closed S R u Free h e = let q : Free ≡ Open = e in absurd (cc)
first_closed S R u (Bound i) h e = let q : Bound i ≡ Open = e in absurd (cc)
first_closed S R u Open h e = h
first_closed S R u Done h e = h

pub first_ended : (S : List Bind) (M : List Mark) → ((u : ℕ) → u < length M → IsFirstMark S S u (mark M u)) → NoneOpen M
first_ended S M h u e = elim (cases_lt u (length M)) as (λ _. ⊥) [
  | inl l ↦ first_closed S S u (mark M u) (h u l) e
  | inr g ↦ let q : Free ≡ Open = sym (past M u (omega (arith, g))) ∙ e in absurd (cc)
]
  where
    past : (N : List Mark) (v : ℕ) → length N ≤ v → mark N v ≡ Free
    past [] v h = refl
    past (m ∷ ms) zero h = absurd (omega (arith, h))
    past (m ∷ ms) (suc v) h = past ms v (omega arith)

-- from the first marks to those of the walk
mark_from : (S : List Bind) (limit : Extent) (u : ℕ) (m : Mark) (b : Bulk) (A : Ty) → IsFirstMark S S u m → IsMark S limit u m b A
mark_from S limit u Free b A h = h
mark_from S limit u (Bound i) b A (x, a, k) = record { bind = x; at = a; bound = k }
mark_from S limit u Open b A h = tt
mark_from S limit u Done b A h = absurd h

pub marks_start : (S : List Bind) (limit : Extent) (count : ℕ) (M : List Mark) (B : List Bulk) (T : List Ty) → length M ≡ count → length B ≡ count → length T ≡ count → ((u : ℕ) → u < count → IsFirstMark S S u (mark M u)) → AreMarks S limit count M B T
marks_start S limit count M B T m b t h = record { mark_count = m; bulk_count = b; type_count = t; known = λ u k. mark_from S limit u (mark M u) (bulk_at B u) (type_at_unknown T u) (h u k) }

pub all_solved : (S : List Bind) (limit : Extent) (count : ℕ) (M : List Mark) (B : List Bulk) (T : List Ty) → AreMarks S limit count M B T → ((u : ℕ) → u < length M → mark M u ≡ Done) → AreSolved S limit count B T
all_solved S limit count M B T h d = record {
  bulk_count = h.bulk_count;
  type_count = h.type_count;
  solved = λ u k. transport (λ x. IsMark S limit u x (bulk_at B u) (type_at_unknown T u)) (d u (omega (arith, k, h.mark_count))) (h.known u k);
}

pub first_start : (S : List Bind) (count : ℕ) (M : List Mark) → ((u : ℕ) → mark M u ≡ Free) → AreFirst S (length S) count M
first_start S count M h u l = transport (IsFirstMark S (drop (length S) S) u) (sym (h u)) (ap (λ R. bound_to R u) (drop_all S (length S) (omega arith)))

pub first_end : (S : List Bind) (i count : ℕ) (M : List Mark) → i ≤ 0 → AreFirst S i count M → (u : ℕ) → u < count → IsFirstMark S S u (mark M u)
first_end S zero count M h f u l = f u l
first_end S (suc i) count M h f u l = absurd (omega (arith, h))

-- a vector after it was lent as a slice
pub restored : {X : Type 0} (xs ys : List X) (n : ℕ) → length xs ≡ n → take n (xs ++ ys) ≡ xs
restored [] ys zero e = refl
restored [] ys (suc n) e = absurd (omega (arith, e))
restored (x ∷ xs) ys zero e = absurd (omega (arith, e))
restored (x ∷ xs) ys (suc n) e = ap (λ l. x ∷ l) (restored xs ys n (omega (arith, e)))

pub mark_here : (M : List Mark) (u : ℕ) (m : Mark) → get_or M u m ≡ m → u < length M → mark M u ≡ m
mark_here [] u m e h = absurd (omega (arith, h))
mark_here (n ∷ ns) zero m e h = e
mark_here (n ∷ ns) (suc u) m e h = mark_here ns u m e (omega arith)

pub ruleset walk = (labor_free)
