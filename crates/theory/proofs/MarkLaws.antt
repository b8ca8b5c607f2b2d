-- The marks of a text, one after the other.
use Rattle.std.proofs.Common.{◌≡◌, ◌≤◌, ℕ, Bool, true, false, List, [], ◌∷◌, ◌++◌, Option, Some, length, refl, ap, subst, sym, ◌∙◌, append_assoc, arith, ◌⊎◌, inl, inr}
use Rattle.std.specs.Prelude.{◌==◌}
use Rattle.std.proofs.lemmas.Bool.{eqb-true}
use Rattle.std.proofs.lemmas.Bool.Decides.{nat_tests}
use Rattle.std.proofs.lemmas.List.{append-nil}
use Rattle.theory.specs.declared.marks.Mark.{Mark}
use Rattle.theory.specs.Words.{is_blank, are_blanks, skip_blanks}
use Rattle.theory.specs.Formulas.{Front, mark_front, AreMarks}

pub two : (b : Bool) → (b ≡ true) ⊎ (b ≡ false)
two true = inl refl
two false = inr refl

skip_blanks-twice : (cs : List ℕ) → skip_blanks (skip_blanks cs) ≡ skip_blanks cs
skip_blanks-twice [] = refl
skip_blanks-twice (c ∷ cs) = at (two (is_blank c)) (skip_blanks-twice cs)
  where
    at : (is_blank c ≡ true) ⊎ (is_blank c ≡ false) → skip_blanks (skip_blanks cs) ≡ skip_blanks cs → skip_blanks (skip_blanks (c ∷ cs)) ≡ skip_blanks (c ∷ cs)
    at (inl h) ih = rw h ih
    at (inr h) ih = rw (h, h) refl

are_blanks-skip : (cs : List ℕ) → are_blanks (skip_blanks cs) ≡ are_blanks cs
are_blanks-skip [] = refl
are_blanks-skip (c ∷ cs) = at (two (is_blank c)) (are_blanks-skip cs)
  where
    at : (is_blank c ≡ true) ⊎ (is_blank c ≡ false) → are_blanks (skip_blanks cs) ≡ are_blanks cs → are_blanks (skip_blanks (c ∷ cs)) ≡ are_blanks (c ∷ cs)
    at (inl h) ih = rw h ih
    at (inr h) ih = rw (h, h) refl

pub length-skip_blanks : (cs : List ℕ) → length (skip_blanks cs) ≤ length cs
length-skip_blanks [] = omega arith
length-skip_blanks (c ∷ cs) = at (two (is_blank c)) (length-skip_blanks cs)
  where
    at : (is_blank c ≡ true) ⊎ (is_blank c ≡ false) → length (skip_blanks cs) ≤ length cs → length (skip_blanks (c ∷ cs)) ≤ length (c ∷ cs)
    at (inl h) ih = rw h (omega arith)
    at (inr h) ih = rw h (omega arith)

-- what does not begin with a blank is not blank
full_rest : (cs : List ℕ) → skip_blanks cs ≡ cs → (length cs ≡ 0 → ⊥) → are_blanks cs ≡ false
full_rest [] e ne = absurd (ne refl)
full_rest (c ∷ cs) e ne = at (two (is_blank c))
  where
    at : (is_blank c ≡ true) ⊎ (is_blank c ≡ false) → are_blanks (c ∷ cs) ≡ false
    at (inl h) = let f : skip_blanks cs ≡ c ∷ cs = rw h at e in absurd (omega (arith, length-skip_blanks cs, ap length f))
    at (inr h) = rw h refl

pub AreMarks-skipped : (cs : List ℕ) (ms : List Mark) → AreMarks (skip_blanks cs) ms → AreMarks cs ms
AreMarks-skipped cs [] h = sym (are_blanks-skip cs) ∙ h
AreMarks-skipped cs (m ∷ ms) (rest, e, h) = (rest, ap mark_front (sym (skip_blanks-twice cs)) ∙ e, h)

pub AreMarks-skip : (cs : List ℕ) (ms : List Mark) → AreMarks cs ms → AreMarks (skip_blanks cs) ms
AreMarks-skip cs [] h = are_blanks-skip cs ∙ h
AreMarks-skip cs (m ∷ ms) (rest, e, h) = (rest, ap mark_front (skip_blanks-twice cs) ∙ e, h)

-- the marks so far make the text's with those of the rest, and nothing else does
pub record Leads (text : List ℕ) (marks : List Mark) (rest : List ℕ) : Type 0 where
  pub skipped : skip_blanks rest ≡ rest
  pub makes : (ms : List Mark) → AreMarks rest ms → AreMarks text (marks ++ ms)
  pub only : (ms : List Mark) → AreMarks text ms → (more : List Mark) × (ms ≡ marks ++ more) × AreMarks rest more

pub leads_first : (text : List ℕ) → Leads text [] (skip_blanks text)
leads_first text = record {
  skipped = skip_blanks-twice text;
  makes = λ ms h. AreMarks-skipped text ms h;
  only = λ ms h. (ms, refl, AreMarks-skip text ms h);
}

pub leads_none : (text : List ℕ) (marks : List Mark) (rest : List ℕ) → Leads text marks rest → (length rest ≡ 0 → ⊥)
    → ((m : Mark) (after : List ℕ) → mark_front rest ≡ Some (m, after) → ⊥) → (ms : List Mark) → AreMarks text ms → ⊥
leads_none text marks rest l ne none ms h = at (l.only ms h)
  where
    at : (more : List Mark) × (ms ≡ marks ++ more) × AreMarks rest more → ⊥
    at ([], e, b) = let f = full_rest rest l.skipped ne in cc
    at (m ∷ more, e, (after, f, b)) = none m after (ap mark_front (sym l.skipped) ∙ f)

pub leads_on : (text : List ℕ) (marks : List Mark) (rest : List ℕ) (m : Mark) (after : List ℕ) → Leads text marks rest → (length rest ≡ 0 → ⊥)
    → Some (m, after) ≡ mark_front rest → Leads text (marks ++ m ∷ []) (skip_blanks after)
leads_on text marks rest m after l ne e = record {
  skipped = skip_blanks-twice after;
  makes = λ ms h. rw append_assoc (l.makes (m ∷ ms) (after, ap mark_front l.skipped ∙ sym e, AreMarks-skipped after ms h));
  only = λ ms h. at ms (l.only ms h);
}
  where
    same : (m' : Mark) (after' : List ℕ) → mark_front (skip_blanks rest) ≡ Some (m', after') → (m ≡ m') × (after ≡ after')
    same m' after' f =
        let g : ◌≡◌ {A = Option Front} (Some (m, after)) (Some (m', after')) = e ∙ ap mark_front (sym l.skipped) ∙ f in
        let p : ◌≡◌ {A = Front} (m, after) (m', after') = cc in
        (ap (λ (q : Front). q.0) p, ap (λ (q : Front). q.1) p)

    at : (ms : List Mark) → (more : List Mark) × (ms ≡ marks ++ more) × AreMarks rest more
        → (more : List Mark) × (ms ≡ (marks ++ m ∷ []) ++ more) × AreMarks (skip_blanks after) more
    at ms ([], f, b) = let g = full_rest rest l.skipped ne in absurd (cc)
    at ms (m' ∷ more, f, (after', g, b)) =
        let s = same m' after' g in
        (more, f ∙ ap (λ k. marks ++ (k ∷ more)) (sym s.0) ∙ sym (append_assoc marks (m ∷ []) more), AreMarks-skip after more (subst (λ cs. AreMarks cs more) (sym s.1) b))

-- the same, from what the code tells
pub leads_init : (text : List ℕ) (marks : List Mark) (rest : List ℕ) → marks ≡ [] → rest ≡ skip_blanks text → Leads text marks rest
leads_init text marks rest e f = subst (λ cs. Leads text marks cs) (sym f) (subst (λ ms. Leads text ms (skip_blanks text)) (sym e) (leads_first text))

pub leads_step : (text : List ℕ) (marks marks' : List Mark) (rest rest' : List ℕ) (m : Mark) (after : List ℕ) → Leads text marks rest → (length rest ≡ 0 → ⊥)
    → Some (m, after) ≡ mark_front rest → marks' ≡ marks ++ m ∷ [] → rest' ≡ skip_blanks after → Leads text marks' rest'
leads_step text marks marks' rest rest' m after l ne e f g =
    subst (λ cs. Leads text marks' cs) (sym g) (subst (λ ms. Leads text ms (skip_blanks after)) (sym f) (leads_on text marks rest m after l ne e))

pub leads_end : (text : List ℕ) (marks : List Mark) (rest : List ℕ) → Leads text marks rest → length rest ≡ 0 → AreMarks text marks
leads_end text marks [] l e = subst (AreMarks text) (append-nil marks) (l.makes [] refl)
leads_end text marks (c ∷ cs) l e = absurd (omega arith)

pub not_none : (b : Bool) (n : ℕ) → b ≡ (n == 0) → b ≡ false → n ≡ 0 → ⊥
not_none b n e f z = let g : (n == 0) ≡ false = sym e ∙ f in grind (arith, nat_tests)

pub is_none : (b : Bool) (n : ℕ) → b ≡ (n == 0) → b ≡ true → n ≡ 0
is_none b n e f = eqb-true n 0 (sym e ∙ f)

-- blanks are no mark
blanks_end : (cs : List ℕ) → are_blanks cs ≡ true → skip_blanks cs ≡ []
blanks_end [] h = refl
blanks_end (c ∷ cs) h = at (two (is_blank c)) (blanks_end cs)
  where
    at : (is_blank c ≡ true) ⊎ (is_blank c ≡ false) → (are_blanks cs ≡ true → skip_blanks cs ≡ []) → skip_blanks (c ∷ cs) ≡ []
    at (inl e) ih = let k : are_blanks cs ≡ true = rw e at h in rw e (ih k)
    at (inr e) ih = let k : false ≡ true = rw e at h in absurd (cc)

pub no_mark : (cs : List ℕ) (m : Mark) (rest : List ℕ) → are_blanks cs ≡ true → mark_front (skip_blanks cs) ≡ Some (m, rest) → ⊥
no_mark cs m rest h e = let f : mark_front [] ≡ Some (m, rest) = ap mark_front (sym (blanks_end cs h)) ∙ e in cc
