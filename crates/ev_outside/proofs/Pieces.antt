-- What calls on end to end do to known bytes.
use Rattle.std.proofs.Common.{◌≡◌, ℕ, ◌+◌, ◌-◌, ◌<◌, ◌≤◌, List, ◌++◌, Option, Result, Ok, Err, IfErr, IsErrAnd, length, take, drop, sym, ap, ◌∙◌, subst, arith, length-append}
use Rattle.std.proofs.lemmas.List.{drop-drop, take-append-drop, take_rest, length-take-le}
use Rattle.std.proofs.Math.Seq.{take-add}
use Rattle.std.specs.Io.KnownBytes.{Appends, Consumes}
use Rattle.std.proofs.KnownBytes.{Appends-trans, Consumes-trans}
use Rattle.ev_outside.specs.declared.reading.ReadFault.{ReadFault}
use Rattle.ev_outside.specs.declared.reading.ReadFault.TheVariants as fault
use Rattle.ev_outside.specs.Ends.{ConsumesFront}
use Rattle.ev_outside.specs.Reading.{IsTaken, piece_limit}

-- the next n bytes were appended too
pub appends_next : (a b c : Option (List ℕ)) (bytes : List ℕ) (at n : ℕ) → Appends a b (take at bytes) → Appends b c (take n (take (length bytes - at) (drop at bytes))) → Appends a c (take (at + n) bytes)
appends_next a b c bytes at n first next =
    let joined = sym (take-add at n bytes ∙ ap (λ rest. take at bytes ++ take n rest) (sym (take_rest bytes at))) in
    subst (Appends a c) joined (Appends-trans a b c _ _ first next)

-- a piece was taken from the bytes from a place on
pub piece_taken : (bytes piece : List ℕ) (at n : ℕ) → piece ≡ take n (drop at bytes) → drop at bytes ≡ piece ++ drop (at + n) bytes
piece_taken bytes piece at n e = sym (take-append-drop n (drop at bytes)) ∙ ap (λ rest. rest ++ drop n (drop at bytes)) (sym e) ∙ ap (λ rest. piece ++ rest) (drop-drop n at bytes)

-- these bytes and n more, the front of a piece, were taken
taken_more : (a b c : Option (List ℕ)) (bytes piece : List ℕ) (n : ℕ) (Fits : ℕ → Type 0) → Consumes a b bytes → Consumes b c (take n piece) → n ≤ length piece → Fits (length bytes + n)
    → ConsumesFront a c Fits
taken_more a b c bytes piece n Fits first next within fits =
    let count : length (bytes ++ take n piece) ≡ length bytes + n = length-append bytes (take n piece) ∙ ap (λ k. length bytes + k) (length-take-le n piece within) in
    (bytes ++ take n piece, Consumes-trans a b c bytes (take n piece) first next, subst Fits (sym count) fits)

-- more bytes than the limit came, by one read
pub taken_past : (a b c : Option (List ℕ)) (bytes piece : List ℕ) (n limit : ℕ) → Consumes a b bytes → Consumes b c (take n piece) → n ≤ length piece → length bytes ≤ limit
    → length piece ≡ piece_limit → limit - length bytes < n → ConsumesFront a c (IsTaken fault.TooLong limit)
taken_past a b c bytes piece n limit first next within small size past =
    taken_more a b c bytes piece n (IsTaken fault.TooLong limit) first next within (omega (arith, small, past), omega (arith, small, size, within))

-- the bytes that a read gave are within the limit too, and memory is wanting for them
pub taken_within : {V : Type 0} (r : Result V ReadFault) (a b c : Option (List ℕ)) (bytes piece : List ℕ) (n limit : ℕ) → IsErrAnd r (λ e. e ≡ fault.NoMemory)
    → Consumes a b bytes → Consumes b c (take n piece) → n ≤ length piece → length bytes ≤ limit → n ≤ limit - length bytes → IfErr r (λ e. ConsumesFront a c (IsTaken e limit))
taken_within (Ok x) a b c bytes piece n limit is first next within small more = tt
taken_within (Err e) a b c bytes piece n limit is first next within small more =
    subst (λ f. ConsumesFront a c (IsTaken f limit)) (sym is) (taken_more a b c bytes piece n (IsTaken fault.NoMemory limit) first next within (omega (arith, small, more)))
