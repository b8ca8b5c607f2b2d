-- What is kept of a condition as it is put together.
use Rattle.std.proofs.Common.{◌≡◌, ℕ, zero, suc, ◌+◌, ◌≤◌, ◌<◌, Bool as Boolean, false, List, [], ◌∷◌, drop, length, max, ap, sym, ◌∙◌, refl, arith, ⊎_elim}
use Rattle.std.specs.Prelude.{pred, ◌==◌}
use Rattle.std.proofs.lemmas.Bool.{cases_lt}
use Rattle.std.proofs.lemmas.Bool.Decides.{nat_tests}
use Rattle.ev_terms.specs.declared.types.Ty.{Ty}
use Rattle.ev_terms.specs.declared.extents.Extent.{Extent}
use Rattle.ev_terms.specs.Term.{Term, Terms, var, lit, node, nil, cons}
use Rattle.ev_terms.specs.Measures.{size, depth, type_size, type_depth, capped}
use Rattle.ev_terms.proofs.Subst.{lift_ren, lift_rens, ren, rens, ren-is_inst}
use Rattle.ev_terms.specs.Symbols.{binds}
use Rattle.ev_typing.specs.Occurs.{has_var, have_var}
use Rattle.ev_forms.specs.declared.connectives.Connective.{Connective}
use Rattle.ev_forms.specs.declared.connectives.Connective.TheVariants.{And, Or, Implies, Iff}
use Rattle.ev_forms.specs.Connectives.{joined}
use Rattle.ev_forms.specs.Forms.{conj, forall}
use Rattle.ev_wd.specs.Makers.{lowered}
use Rattle.ev_wd.specs.inner.Marks.{marked, occurring, either, IsMeasured}
use Rattle.ev_wd.proofs.Making.{size-lowered, depth-lowered}
use Rattle.ev_wd.proofs.Marking.{both_marks, guarded_marks, bound_marks, length-occurring}
use Rattle.ev_wd.proofs.Rules.{apart, or_false}

extent_by : (m n : ℕ) (e : Extent) (t : Term) → e ≡ record { size = m; depth = n } → m ≡ capped (size t) → n ≡ capped (depth t) →
    e ≡ record { size = capped (size t); depth = capped (depth t) }
extent_by m n e t p q r = p ∙ ap (λ k. let x : Extent = record { size = k; depth = n } in x) q ∙ ap (λ k. let x : Extent = record { size = capped (size t); depth = k } in x) r

moved : (e : Extent) (bs : List Boolean) (t u : Term) → u ≡ t → IsMeasured e bs t → IsMeasured e bs u
moved e bs t u p h = record {
  extent_is = h.extent_is ∙ ap (λ v. let x : Extent = record { size = capped (size v); depth = capped (depth v) } in x) (sym p);
  marks_are = h.marks_are ∙ ap (occurring 0 (length bs)) (sym p);
}

-- the marks of a list that is known to be those of a term
by_length : (bs cs : List Boolean) (n : ℕ) (t : Term) → bs ≡ occurring 0 n t → bs ≡ occurring 0 (length bs) t
by_length bs cs n t e = e ∙ ap (λ k. occurring 0 k t) (sym (ap length e ∙ length-occurring n 0 t))

pub measured_both : (l r e : Extent) (ls rs bs : List Boolean) (P Q t : Term) → IsMeasured l ls P → IsMeasured r rs Q →
    e ≡ record { size = capped (capped (l.size + r.size) + 1); depth = capped (max l.depth r.depth + 1) } → bs ≡ either ls rs → t ≡ conj P Q → IsMeasured e bs t
measured_both l r e ls rs bs P Q t h g p q f =
    let a : l.size ≡ capped (size P) = ap (λ (x : Extent). x.size) h.extent_is in
    let b : l.depth ≡ capped (depth P) = ap (λ (x : Extent). x.depth) h.extent_is in
    let c : r.size ≡ capped (size Q) = ap (λ (x : Extent). x.size) g.extent_is in
    let d : r.depth ≡ capped (depth Q) = ap (λ (x : Extent). x.depth) g.extent_is in
    let k : either ls rs ≡ either (occurring 0 (length ls) P) (occurring 0 (length rs) Q) = ap (λ us. either us rs) h.marks_are ∙ ap (either (occurring 0 (length ls) P)) g.marks_are in
    moved e bs (conj P Q) t f (record {
      extent_is = extent_by _ _ e (conj P Q) p (omega arith) (omega arith);
      marks_are = by_length bs bs (length (either (occurring 0 (length ls) P) (occurring 0 (length rs) Q))) (conj P Q) (q ∙ k ∙ both_marks P Q (length ls) (length rs) 0);
    })

joined_extent : (c : Connective) (P Q : Term) → (size (joined c P Q) ≡ 1 + (0 + (size P + (size Q + 0)))) × (depth (joined c P Q) ≡ 1 + max 0 (max (depth P) (max (depth Q) 0)))
joined_extent And P Q = (refl, refl)
joined_extent Or P Q = (refl, refl)
joined_extent Implies P Q = (refl, refl)
joined_extent Iff P Q = (refl, refl)

pub measured_guarded : (c : Connective) (l r e : Extent) (rs bs : List Boolean) (P Q t : Term) → l ≡ record { size = capped (size P); depth = capped (depth P) } → IsMeasured r rs Q →
    e ≡ record { size = capped (capped (l.size + r.size) + 1); depth = capped (max l.depth r.depth + 1) } → bs ≡ marked 0 rs P → t ≡ joined c P Q → IsMeasured e bs t
measured_guarded c l r e rs bs P Q t h g p q f =
    let a : l.size ≡ capped (size P) = ap (λ (x : Extent). x.size) h in
    let b : l.depth ≡ capped (depth P) = ap (λ (x : Extent). x.depth) h in
    let k : r.size ≡ capped (size Q) = ap (λ (x : Extent). x.size) g.extent_is in
    let d : r.depth ≡ capped (depth Q) = ap (λ (x : Extent). x.depth) g.extent_is in
    let m = (joined_extent c P Q).0 in
    let n = (joined_extent c P Q).1 in
    moved e bs (joined c P Q) t f (record {
      extent_is = extent_by _ _ e (joined c P Q) p (omega arith) (omega arith);
      marks_are = by_length bs bs (length rs) (joined c P Q) (q ∙ ap (λ us. marked 0 us P) g.marks_are ∙ guarded_marks c P Q (length rs) 0);
    })

outer : (bs : List Boolean) (P t : Term) → ((n j : ℕ) → occurring (suc j) n P ≡ occurring j n t) → bs ≡ occurring 0 (length bs) P → drop 1 bs ≡ occurring 0 (length (drop 1 bs)) t
outer [] P t h e = refl
outer (b ∷ bs) P t h e =
    let p : bs ≡ occurring 1 (length bs) P = cc in p ∙ h (length bs) 0

pub measured_bound : (A : Ty) (l r e : Extent) (rs bs : List Boolean) (P t : Term) → l ≡ record { size = capped (type_size A); depth = capped (type_depth A) } → IsMeasured r rs P →
    e ≡ record { size = capped (capped (l.size + r.size) + 1); depth = capped (max l.depth r.depth + 1) } → bs ≡ drop 1 rs → t ≡ forall A P → IsMeasured e bs t
measured_bound A l r e rs bs P t h g p q f =
    let a : l.size ≡ capped (type_size A) = ap (λ (x : Extent). x.size) h in
    let b : l.depth ≡ capped (type_depth A) = ap (λ (x : Extent). x.depth) h in
    let c : r.size ≡ capped (size P) = ap (λ (x : Extent). x.size) g.extent_is in
    let d : r.depth ≡ capped (depth P) = ap (λ (x : Extent). x.depth) g.extent_is in
    moved e bs (forall A P) t f (record {
      extent_is = extent_by _ _ e (forall A P) p (omega arith) (omega arith);
      marks_are = q ∙ outer rs P (forall A P) (bound_marks A P) g.marks_are ∙ ap (λ us. occurring 0 (length us) (forall A P)) (sym q);
    })

-- A variable of a lowered term.
lift_rens-lift_rens : (b n : ℕ) → lift_rens b (lift_rens n pred) ≡ lift_rens (n + b) pred
lift_rens-lift_rens zero n = let e : n + 0 ≡ n = omega arith in ap (λ k. lift_rens k pred) (sym e)
lift_rens-lift_rens (suc b) n =
    let e : suc (n + b) ≡ n + suc b = omega arith in ap lift_ren (lift_rens-lift_rens b n) ∙ ap (λ k. lift_rens k pred) e

lowered_below : (n i : ℕ) → i ≤ n → lift_rens n pred i ≡ i
lowered_below zero i h = let e : i ≡ zero = omega arith in ap pred e ∙ sym e
lowered_below (suc n) zero h = refl
lowered_below (suc n) (suc i) h = ap suc (lowered_below n i (omega arith))

lowered_past : (n i : ℕ) → n ≤ i → lift_rens n pred (suc i) ≡ i
lowered_past zero i h = refl
lowered_past (suc n) zero h = absurd (omega arith)
lowered_past (suc n) (suc i) h = ap suc (lowered_past n i (omega arith))

lowered_var : (n i j : ℕ) → n ≤ j → (i == n) ≡ false → (lift_rens n pred i == j) ≡ (i == suc j)
lowered_var n i j h e = ⊎_elim (λ k. below k) (λ k. past i (let g = apart i n e in omega (arith, g))) (cases_lt i n)
  where
    below : i < n → (lift_rens n pred i == j) ≡ (i == suc j)
    below k = ap (λ x. x == j) (lowered_below n i (omega arith)) ∙ neither i (omega arith)
      where
        neither : (i : ℕ) → i < j → (i == j) ≡ (i == suc j)
        neither i k = grind (arith, nat_tests)

    past : (i : ℕ) → n < i → (lift_rens n pred i == j) ≡ (i == suc j)
    past zero k = absurd (omega arith)
    past (suc i) k = ap (λ x. x == j) (lowered_past n i (omega arith)) ∙ both i
      where
        both : (i : ℕ) → (i == j) ≡ (suc i == suc j)
        both i = grind (arith, nat_tests)

mutual
  has_var-ren : (t : Term) (n j : ℕ) → n ≤ j → has_var n t ≡ false → has_var j (ren (lift_rens n pred) t) ≡ has_var (suc j) t
  has_var-ren (var i) n j h e = lowered_var n i j h e
  has_var-ren (lit m) n j h e = refl
  has_var-ren (node s As ts) n j h e =
      let k : suc (j + binds s) ≡ suc j + binds s = omega arith in
      ap (λ ρ. have_var (j + binds s) (rens ρ ts)) (lift_rens-lift_rens (binds s) n) ∙ have_var-rens ts (n + binds s) (j + binds s) (omega arith) e ∙ ap (λ x. have_var x ts) k

  have_var-rens : (ts : Terms) (n j : ℕ) → n ≤ j → have_var n ts ≡ false → have_var j (rens (lift_rens n pred) ts) ≡ have_var (suc j) ts
  have_var-rens nil n j h e = refl
  have_var-rens (cons t ts) n j h e =
      let f = or_false (has_var n t) (have_var n ts) e in
      let p = has_var-ren t n j h f.0 in let q = have_var-rens ts n j h f.1 in cc

has_var-lowered : (t : Term) (j : ℕ) → has_var 0 t ≡ false → has_var j (lowered t) ≡ has_var (suc j) t
has_var-lowered t j e = sym (ap (has_var j) (ren-is_inst pred t)) ∙ has_var-ren t 0 j (omega arith) e

lowered_marks : (P : Term) → has_var 0 P ≡ false → (n j : ℕ) → occurring (suc j) n P ≡ occurring j n (lowered P)
lowered_marks P e zero j = refl
lowered_marks P e (suc n) j = let p = has_var-lowered P j e in let q = lowered_marks P e n (suc j) in cc

pub measured_lowered : (e : Extent) (rs bs : List Boolean) (P t : Term) → has_var 0 P ≡ false → IsMeasured e rs P → bs ≡ drop 1 rs → t ≡ lowered P → IsMeasured e bs t
measured_lowered e rs bs P t k g q f =
    moved e bs (lowered P) t f (record {
      extent_is = extent_by _ _ e (lowered P) g.extent_is (ap capped (sym (size-lowered P))) (ap capped (sym (depth-lowered P)));
      marks_are = q ∙ outer rs P (lowered P) (lowered_marks P k) g.marks_are ∙ ap (λ us. occurring 0 (length us) (lowered P)) (sym q);
    })
