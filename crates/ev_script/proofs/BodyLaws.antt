-- How a body is found line by line.
use Rattle.std.proofs.Common.{◌≡◌, ◌+◌, ◌-◌, ◌<◌, ◌≤◌, ℕ, true, false, List, [], ◌∷◌, ◌++◌, length, take, drop, Option, Some, None, refl, sym, ap, ◌∙◌, append_assoc, arith}
use Rattle.std.specs.Prelude.{option_map}
use Rattle.std.proofs.lemmas.List.{append-nil, drop_all, drop-drop, length-drop}
use Rattle.std.proofs.Math.Seq.{take-add}
use Rattle.bstr.specs.Text.{line_len, lines_of}
use Rattle.bstr.proofs.lemmas.LineLemmas.{lines-step, lines-nil}
use Rattle.ev_script.specs.Scripts.{Body, with_first, body_of, is_end}
use Rattle.ev_script.proofs.LineLaws.{line_some, line_within}

-- a body behind some bytes
abbrev behind : List ℕ → Option Body → Option Body
behind front o = option_map (λ (b : Body). record { body = front ++ b.body; after = b.after }) o

behind_none : (o : Option Body) → behind [] o ≡ o
behind_none None = refl
behind_none (Some b) = refl

behind_more : (front line : List ℕ) (o : Option Body) → behind front (option_map (with_first line) o) ≡ behind (front ++ line) o
behind_more front line None = refl
behind_more front line (Some b) = ap (λ bs. Some (record { body = bs; after = b.after })) (sym (append_assoc front line b.body))

-- no line up to the place closes the body: the body of all is that of the rest behind what stands before
abbrev pub BodySoFar : List ℕ → ℕ → Type 0
BodySoFar text at = body_of (lines_of text) ≡ behind (take at text) (body_of (lines_of (drop at text)))

pub body_first : (text : List ℕ) → BodySoFar text 0
body_first text = sym (behind_none (body_of (lines_of text)))

pub body_none : (text : List ℕ) (at : ℕ) → length text ≤ at → BodySoFar text at → None ≡ body_of (lines_of text)
body_none text at le s = sym (s ∙ ap (λ t. behind (take at text) (body_of t)) (ap lines_of (drop_all at text le) ∙ lines-nil))

-- one line further
module _ (text : List ℕ) (at n : ℕ) (rest : List ℕ) (is : rest ≡ drop at text) (within : at < length text) (line : n ≡ line_len rest) where
  rest_some : 0 < length rest
  rest_some = omega (arith, ap length is, length-drop at text, within)

  pub shorter : (length text - (at + n) < length text - at) × (at + n ≤ length text)
  shorter = (
    omega (arith, line, line_some rest rest_some, within),
    omega (arith, line, line_within rest, ap length is, length-drop at text, within),
  )

  after : drop n rest ≡ drop (at + n) text
  after = ap (drop n) is ∙ drop-drop n at text

  lines_here : lines_of (drop at text) ≡ take n rest ∷ lines_of (drop (at + n) text)
  lines_here =
      ap lines_of (sym is) ∙ lines-step rest rest_some ∙ ap (λ k. take k rest ∷ lines_of (drop k rest)) (sym line)
      ∙ ap (λ t. take n rest ∷ lines_of t) after

  taken : take at text ++ take n rest ≡ take (at + n) text
  taken = ap (λ t. take at text ++ take n t) is ∙ sym (take-add at n text)

  pub body_on : is_end (take n rest) ≡ false → BodySoFar text at → BodySoFar text (at + n)
  body_on e s =
      let later : Option Body = body_of (lines_of (drop (at + n) text)) in
      let here : body_of (lines_of (drop at text)) ≡ option_map (with_first (take n rest)) later = ap body_of lines_here ∙ rw e refl in
      s ∙ ap (behind (take at text)) here ∙ behind_more (take at text) (take n rest) later ∙ ap (λ t. behind t later) taken

  pub body_here : is_end (take n rest) ≡ true → BodySoFar text at
      → Some (record { body = take at text; after = lines_of (drop (at + n) text) }) ≡ body_of (lines_of text)
  body_here e s =
      let later : List (List ℕ) = lines_of (drop (at + n) text) in
      let here : body_of (lines_of (drop at text)) ≡ Some (record { body = []; after = later }) = ap body_of lines_here ∙ rw e refl in
      sym (s ∙ ap (behind (take at text)) here ∙ ap (λ bs. Some (record { body = bs; after = later })) (append-nil (take at text)))
