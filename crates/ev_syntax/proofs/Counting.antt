-- The value of digits, one after another.
use Rattle.std.proofs.Common.{◌≡◌, ℕ, ◌+◌, ◌-◌, ◌*◌, ◌^◌, ◌<◌, true, List, [], ◌∷◌, ◌++◌, length, drop, get_or, refl, ap, sym, ◌∙◌, arith}
use Rattle.std.specs.Prelude.{encode_utf8, min, fold}
use Rattle.std.specs.Str.{chars, IsUtf8}
use Rattle.std.specs.Char.{is_ascii_digit}
use Rattle.std.proofs.lemmas.List.{append_assoc}
use Rattle.std.proofs.lemmas.Str.{encode_ascii}
use Rattle.ev_syntax.specs.Tokens.{decimal_value}
use Rattle.ev_syntax.specs.inner.Places.{IsPlace, CountsTo}
use Rattle.ev_syntax.proofs.Characters.{encodes-push, all-push, ascii_here, ascii_next}

fold-push : (f : ℕ → ℕ → ℕ) (a : ℕ) (run : List ℕ) (c : ℕ) → fold f a (run ++ c ∷ []) ≡ f (fold f a run) c
fold-push f a [] c = refl
fold-push f a (x ∷ run) c = fold-push f (f a x) run c

pub none_counted : (bs : List ℕ) (at : ℕ) → IsPlace bs at → CountsTo bs at at 0
none_counted bs at b = record { run = []; passes = refl; splits = refl; ends = omega arith; place = b; counts = refl }

capped : (v m d : ℕ) → v ≡ min m (2 ^ 127) → min (v * 10 + d) (2 ^ 127) ≡ min (m * 10 + d) (2 ^ 127)
capped v m d e = omega arith

pub digit_counted : (bs : List ℕ) (from at value next digit : ℕ) → CountsTo bs from at value → IsUtf8 bs → at < length bs → digit ≡ get_or bs at 0
    → is_ascii_digit digit ≡ true → digit < 128 → next ≡ min (value * 10 + (digit - 48)) (2 ^ 127) → CountsTo bs from (at + 1) next
digit_counted bs from at value next digit all u within is passes small e = record {
  run = all.run ++ digit ∷ [];
  passes = all-push is_ascii_digit all.run digit all.passes passes;
  splits =
      all.splits
      ∙ ap (λ xs. all.run ++ xs) (ascii_here bs at u all.place within (rw (← is) small) ∙ ap (λ d. d ∷ chars (drop (at + 1) bs)) (sym is))
      ∙ sym (append_assoc all.run (digit ∷ []) (chars (drop (at + 1) bs)));
  ends =
      let a = all.ends in
      let d = encodes-push all.run digit in
      let one : length (encode_utf8 digit) ≡ 1 = ap length (encode_ascii digit small) in
      omega (arith, a, d, one);
  place = ascii_next bs at u within (rw (← is) small);
  counts =
      e ∙ capped value (decimal_value all.run) (digit - 48) all.counts
      ∙ ap (λ n. min n (2 ^ 127)) (sym (fold-push (λ v c. v * 10 + (c - 48)) 0 all.run digit));
}

pub ruleset counting = (none_counted)
