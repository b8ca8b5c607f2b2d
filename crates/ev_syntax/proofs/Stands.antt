-- What the scanner finds stands at the place.
use Rattle.std.proofs.Common.{◌≡◌, ℕ, ◌+◌, ◌-◌, ◌^◌, ◌<◌, ◌≤◌, Bool, true, false, List, ◌∷◌, length, take, drop, get_or, refl, ap, sym, ◌∙◌, subst, arith}
use Rattle.std.specs.Prelude.{Option, slice_range, MatchBool}
use Rattle.std.specs.Str.{chars, IsUtf8}
use Rattle.std.specs.Char.{is_ascii_digit}
use Rattle.unicode_ident.specs.Ident.{is_xid_continue}
use Rattle.ev_syntax.specs.declared.kinds.TokenKind.{TokenKind}
use Rattle.ev_syntax.specs.declared.kinds.TokenKind.TheVariants.{Number, Mark}
use Rattle.ev_syntax.specs.declared.pieces.Piece.TheVariants.{Found, TooLarge}
use Rattle.ev_syntax.specs.Chars.{starts_name}
use Rattle.ev_syntax.specs.Marks.{spellings}
use Rattle.ev_syntax.specs.Tokens.{row_of, mark_or, name}
use Rattle.ev_syntax.specs.inner.Places.{IsPlace, PassesAll, Stops, Starts, CountsTo, SpellsMark}
use Rattle.ev_syntax.specs.Views.{token_with, seen_in, IsSmall}
use Rattle.ev_syntax.specs.inner.Standing.{StandsAt}
use Rattle.ev_syntax.proofs.Characters.{ascii_here}
use Rattle.ev_syntax.proofs.Fronts.{word_begins, number_small, number_large, sign_front, sign_place}

-- what a test of the first character shows
pub starts_by : (p : ℕ → Bool) (cs : List ℕ) (c : ℕ) (rest : List ℕ) (r : Bool) → cs ≡ c ∷ rest → r ≡ p c → MatchBool r (Starts p cs) (Stops p cs)
starts_by p cs c rest true e t = subst (Starts p) (sym e) (sym t)
starts_by p cs c rest false e t = subst (Stops p) (sym e) (sym t)

pub byte_starts : (p : ℕ → Bool) (bs bytes : List ℕ) (at : ℕ) (r : Bool) → IsUtf8 bs → IsPlace bs at → at < length bs → bytes ≡ bs → get_or bytes at 0 < 128
    → r ≡ p (get_or bytes at 0) → MatchBool r (Starts p (chars (drop at bs))) (Stops p (chars (drop at bs)))
byte_starts p bs bytes at r u b within same small t =
    starts_by p (chars (drop at bs)) (get_or bs at 0) (chars (drop (at + 1) bs)) r
    (ascii_here bs at u b within (let e = ap (λ xs. get_or xs at 0) same in omega (arith, e)))
    (t ∙ ap (λ xs. p (get_or xs at 0)) same)

-- a word is a name or a reserved word
pub word_stands : (bs bytes : List ℕ) (at end : ℕ) (o : Option ℕ) (kind : TokenKind) → IsUtf8 bs → IsPlace bs at → Starts starts_name (chars (drop at bs))
    → PassesAll is_xid_continue bs at end → Stops is_xid_continue (chars (drop end bs)) → bytes ≡ bs → o ≡ row_of spellings (take (end - at) (drop at bytes))
    → token_with kind (slice_range bs at end) ≡ mark_or (name (slice_range bs at end)) o → IsSmall kind
    → StandsAt bs at (Found (record { kind = kind; start = at; end = end }))
word_stands bs bytes at end o kind u b starts passes stops same row token small = (
  word_begins bs at end o (seen_in bs (record { kind = kind; start = at; end = end })) u b starts passes stops
      (row ∙ ap (λ xs. row_of spellings (take (end - at) (drop at xs))) same) token refl refl,
  small,
  passes.place,
)

pub number_stands : (bs : List ℕ) (at end value : ℕ) → IsPlace bs at → Starts is_ascii_digit (chars (drop at bs)) → CountsTo bs at end value
    → Stops is_ascii_digit (chars (drop end bs)) → value < 2 ^ 127 → StandsAt bs at (Found (record { kind = Number value; start = at; end = end }))
number_stands bs at end value b starts counts stops small =
    (number_small bs at end value (seen_in bs (record { kind = Number value; start = at; end = end })) starts counts stops small refl refl refl, small, counts.place)

pub large_stands : (bs : List ℕ) (at end value : ℕ) → IsPlace bs at → Starts is_ascii_digit (chars (drop at bs)) → CountsTo bs at end value
    → Stops is_ascii_digit (chars (drop end bs)) → 2 ^ 127 ≤ value → StandsAt bs at (TooLarge end)
large_stands bs at end value b starts counts stops large =
    let n = number_large bs at end value starts counts stops large in (n.0, n.1, n.2, counts.place)

pub mark_stands : (bs front : List ℕ) (at row size : ℕ) → IsUtf8 bs → IsPlace bs at → Stops starts_name (chars (drop at bs))
    → Stops is_ascii_digit (chars (drop at bs)) → front ≡ drop at bs → SpellsMark front row size
    → StandsAt bs at (Found (record { kind = Mark row; start = at; end = at + size }))
mark_stands bs front at row size u b s d same m =
    let spelled : SpellsMark (drop at bs) row size = subst (λ xs. SpellsMark xs row size) same m in (
      sign_front bs at row size (seen_in bs (record { kind = Mark row; start = at; end = at + size })) u b s d spelled refl refl refl,
      tt,
      sign_place bs at row size u spelled,
    )
