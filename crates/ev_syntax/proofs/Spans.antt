-- The spans of tokens.
use Rattle.std.proofs.Common.{◌≡◌, ℕ, zero, suc, ◌+◌, ◌-◌, ◌<◌, ◌≤◌, Bool, true, false, ◌&&◌, List, [], ◌∷◌, ◌++◌, length, take, drop, get_or, refl, ap, sym, ◌∙◌, arith}
use Rattle.std.specs.Prelude.{encode_utf8_all, slice_range, Result, Ok, Err, IfOk}
use Rattle.std.specs.List.{All}
use Rattle.ev_syntax.specs.declared.kinds as kinds
use Rattle.ev_syntax.specs.declared.faults.LexFault.{LexFault}
use Rattle.ev_syntax.specs.Views.{all_seen_in, LiesIn}
use Rattle.ev_syntax.specs.inner.Reading.{IsAnswer}
use Rattle.std.specs.Str.{chars, all_scalars}
use lib.Utf8.{scalar}
use Rattle.std.proofs.lemmas.List.{length-append, length-drop, drop-drop, drop_at, take_at}
use Rattle.std.proofs.lemmas.Str.{encodes-append, chars-encodes, length-le-encodes}
use Rattle.ev_syntax.specs.Tokens.{Spanned, AreTokens, HasTokens, token_of, is_token}
use Rattle.ev_syntax.specs.Laws.{AreSpans}
use Rattle.ev_syntax.proofs.TokenKinds.{empty_token}

scalars_of : (xs ys : List ℕ) → all_scalars (xs ++ ys) ≡ true → (all_scalars xs ≡ true) × (all_scalars ys ≡ true)
scalars_of [] ys e = (refl, e)
scalars_of (x ∷ xs) ys e = by (scalar x) e (λ r. scalars_of xs ys r)
  where
    by : (b : Bool) → (b && all_scalars (xs ++ ys)) ≡ true → (all_scalars (xs ++ ys) ≡ true → (all_scalars xs ≡ true) × (all_scalars ys ≡ true))
        → ((b && all_scalars xs) ≡ true) × (all_scalars ys ≡ true)
    by true e again = again e
    by false e again = cc

spans_from : (text : List ℕ) (from : ℕ) (cs : List ℕ) (ts : List Spanned) → from ≤ length text → all_scalars cs ≡ true → drop from text ≡ encode_utf8_all cs
    → AreTokens from cs ts → AreSpans text from ts
spans_from text from cs [] l s e h = l
spans_from text from cs (t ∷ ts) l s e (rest, b, more) =
    let whole : drop from text ≡ encode_utf8_all b.gap ++ (encode_utf8_all b.text ++ encode_utf8_all rest) =
    e ∙ ap encode_utf8_all b.splits ∙ encodes-append b.gap (b.text ++ rest) ∙ ap (λ xs. encode_utf8_all b.gap ++ xs) (encodes-append b.text rest)
    in
    let parts = scalars_of b.gap (b.text ++ rest) (ap all_scalars (sym b.splits) ∙ s) in
    let two = scalars_of b.text rest parts.1 in
    let p = b.start in
    let q = b.end in
    let size : length text - from ≡ length (encode_utf8_all b.gap) + (length (encode_utf8_all b.text) + length (encode_utf8_all rest)) =
    sym (length-drop from text) ∙ ap length whole ∙ length-append (encode_utf8_all b.gap) (encode_utf8_all b.text ++ encode_utf8_all rest)
    ∙ ap (λ n. length (encode_utf8_all b.gap) + n) (length-append (encode_utf8_all b.text) (encode_utf8_all rest))
    in
    let here : drop t.start text ≡ encode_utf8_all b.text ++ encode_utf8_all rest =
    ap (λ (n : ℕ). drop n text) p ∙ sym (drop-drop (length (encode_utf8_all b.gap)) from text)
    ∙ ap (drop (length (encode_utf8_all b.gap))) whole
    ∙ drop_at (encode_utf8_all b.gap) (encode_utf8_all b.text ++ encode_utf8_all rest) (length (encode_utf8_all b.gap)) refl
    in
    let behind : drop t.end text ≡ encode_utf8_all rest =
    ap (λ (n : ℕ). drop n text) q ∙ sym (drop-drop (length (encode_utf8_all b.text)) t.start text)
    ∙ ap (drop (length (encode_utf8_all b.text))) here
    ∙ drop_at (encode_utf8_all b.text) (encode_utf8_all rest) (length (encode_utf8_all b.text)) refl
    in
    let width : length (encode_utf8_all b.text) ≡ t.end - t.start = omega (arith, q) in
    let slice : slice_range text t.start t.end ≡ encode_utf8_all b.text =
    ap (take (t.end - t.start)) here ∙ take_at (encode_utf8_all b.text) (encode_utf8_all rest) (t.end - t.start) width
    in (
      omega (arith, p),
      (let n = longer b.text b.is_one in omega (arith, q, n)),
      b.token ∙ ap token_of (sym (chars-encodes b.text two.0) ∙ ap chars (sym slice)),
      spans_from text t.end rest ts (omega (arith, p, q, size)) two.1 behind more,
    )
  where
    longer : (x : List ℕ) → is_token x ≡ true → 1 ≤ length (encode_utf8_all x)
    longer [] one = absurd (empty_token one)
    longer (c ∷ x) one = let n : length (c ∷ x) ≤ length (encode_utf8_all (c ∷ x)) = length-le-encodes (c ∷ x) in omega arith

pub spans_in_order : (text : List ℕ) (ts : List Spanned) → HasTokens text ts → AreSpans text 0 ts
spans_in_order text ts (cs, spelled, h) = spans_from text 0 cs ts (omega arith) spelled.0 (sym spelled.1) h

-- a place before tokens lies in the text
spans_le : (text : List ℕ) (from : ℕ) (ts : List Spanned) → AreSpans text from ts → from ≤ length text
spans_le text from [] h = h
spans_le text from (t ∷ ts) h =
    let later : t.end ≤ length text = spans_le text t.end ts h.3 in
    let a = h.0 in
    let b = h.1 in
    omega (arith, a, b, later)

pub all_within : (text : List ℕ) (from : ℕ) (tokens : List kinds.Token.Token) → AreSpans text from (all_seen_in text tokens) → All (LiesIn text) tokens
all_within text from [] h = λ k d l. absurd (omega arith)
all_within text from (t ∷ tokens) h =
    by (record { forward = h.1; within = spans_le text t.end (all_seen_in text tokens) h.3 }) (all_within text t.end tokens h.3)
  where
    by : LiesIn text t → All (LiesIn text) tokens → (k : ℕ) (d : kinds.Token.Token) → k < length (t ∷ tokens) → LiesIn text (get_or (t ∷ tokens) k d)
    by here rest zero d l = here
    by here rest (suc k) d l = rest k d (omega arith)

-- what an answer says of spans
pub answer_spans : (text : List ℕ) (r : Result (List kinds.Token.Token) LexFault) → IsAnswer text r → IfOk r (λ tokens. AreSpans text 0 (all_seen_in text tokens))
answer_spans text (Ok tokens) a = spans_in_order text (all_seen_in text tokens) a.0
answer_spans text (Err fault) a = tt

pub answer_within : (text : List ℕ) (r : Result (List kinds.Token.Token) LexFault) → IsAnswer text r → IfOk r (λ tokens. All (LiesIn text) tokens)
answer_within text (Ok tokens) a = all_within text 0 tokens (spans_in_order text (all_seen_in text tokens) a.0)
answer_within text (Err fault) a = tt
