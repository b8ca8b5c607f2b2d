-- The steps of a proof, line by line.
use Rattle.std.proofs.Common.{◌≡◌, ℕ, ◌+◌, ◌^◌, ◌≤◌, ◌<◌, true, false, List, [], ◌∷◌, ◌++◌, length, refl, ap, subst, sym, ◌∙◌, arith, append-nil, append_assoc, length-append}
use Rattle.std.specs.Prelude.{Option, not, filter}
use Rattle.std.specs.List.{AllZip, concat}
use Rattle.bstr.specs.Text.{lines_of}
use Rattle.bstr.proofs.lemmas.RestLemmas.{concat-lines_of}
use Rattle.ev_syntax.specs.Chars.{are_blanks}
use Rattle.ev_proof.specs.declared.steps.Step.{Step}
use Rattle.ev_proof.specs.Lines.{IsStepLine, proof_lines, AreSteps}

-- lines that a reader of tokens takes
abbrev pub AreShort : List (List ℕ) → Type 0
AreShort [] = Unit {0}
AreShort (line ∷ lines) = (length line < 2 ^ 32) × AreShort lines

short_in : (lines : List (List ℕ)) (n : ℕ) → length (concat lines) ≤ n → n < 2 ^ 32 → AreShort lines
short_in [] n le lt = tt
short_in (line ∷ lines) n le lt = let e : length (line ++ concat lines) ≡ length line + length (concat lines) = length-append line (concat lines) in
    (omega arith, short_in lines n (omega arith) lt)

abbrev full_lines : List (List ℕ) → List (List ℕ)
full_lines lines = filter (λ line. not (are_blanks line)) lines

blank_first : (line : List ℕ) (lines : List (List ℕ)) → are_blanks line ≡ true → full_lines (line ∷ lines) ≡ full_lines lines
blank_first line lines e = rw e refl

full_first : (line : List ℕ) (lines : List (List ℕ)) → are_blanks line ≡ false → full_lines (line ∷ lines) ≡ line ∷ full_lines lines
full_first line lines e = rw e refl

-- what the lines that are left make, the whole makes behind the steps so far
pub record SoFar (body : List ℕ) (steps : List (Option Step)) (left : List (List ℕ)) : Type 0 where
  pub goes_on : (more : List (Option Step)) → AllZip IsStepLine (full_lines left) more → AllZip IsStepLine (proof_lines body) (steps ++ more)
  pub short : AreShort left

pub none_yet : (body : List ℕ) (steps : List (Option Step)) → length body < 2 ^ 32 → steps ≡ [] → SoFar body steps (lines_of body)
none_yet body steps lt e = record {
  goes_on = λ more h. subst (λ l. AllZip IsStepLine (proof_lines body) (l ++ more)) (sym e) h;
  short = let n : length (concat (lines_of body)) ≡ length body = ap length (concat-lines_of body) in short_in (lines_of body) (length body) (omega arith) lt;
}

pub line_short : (body : List ℕ) (steps : List (Option Step)) (left rest : List (List ℕ)) (line : List ℕ) → left ≡ line ∷ rest → SoFar body steps left → length line < 2 ^ 32
line_short body steps left rest line e h = (subst AreShort e h.short).0

pub without_blank : (body : List ℕ) (steps : List (Option Step)) (left rest : List (List ℕ)) (line : List ℕ) → left ≡ line ∷ rest → are_blanks line ≡ true → SoFar body steps left → SoFar body steps rest
without_blank body steps left rest line e b h = record {
  goes_on = λ more k. h.goes_on more (subst (λ l. AllZip IsStepLine l more) (sym (ap full_lines e ∙ blank_first line rest b)) k);
  short = (subst AreShort e h.short).1;
}

pub with_step : (body : List ℕ) (steps all : List (Option Step)) (left rest : List (List ℕ)) (line : List ℕ) (step : Option Step) → left ≡ line ∷ rest → are_blanks line ≡ false → IsStepLine line step
    → all ≡ steps ++ step ∷ [] → SoFar body steps left → SoFar body all rest
with_step body steps all left rest line step e b is pushed h = record {
  goes_on = λ more k. subst (λ l. AllZip IsStepLine (proof_lines body) l) (sym (ap (λ l. l ++ more) pushed ∙ append_assoc steps (step ∷ []) more))
      (h.goes_on (step ∷ more) (subst (λ l. AllZip IsStepLine l (step ∷ more)) (sym (ap full_lines e ∙ full_first line rest b)) (is, k)));
  short = (subst AreShort e h.short).1;
}

pub all_steps : (body : List ℕ) (steps : List (Option Step)) (left : List (List ℕ)) → left ≡ [] → SoFar body steps left → AreSteps body steps
all_steps body steps left e h = subst (λ l. AllZip IsStepLine (proof_lines body) l) (append-nil steps) (h.goes_on [] (subst (λ l. AllZip IsStepLine (full_lines l) []) (sym e) tt))
