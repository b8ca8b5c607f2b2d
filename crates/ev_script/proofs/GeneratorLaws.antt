-- The generated script, and how long it is.
use Rattle.std.proofs.Common.{◌≡◌, ◌+◌, ◌*◌, ◌<◌, ◌≤◌, ◌^◌, ℕ, zero, suc, List, ◌++◌, length, decimal, append_assoc, sym, ap, subst, ◌∙◌, add-one, arith}
use Rattle.std.proofs.lemmas.List.{length-append}
use Rattle.std.proofs.lemmas.Fmt.{length-decimal-le}
use Rattle.ev_script.specs.Generator.{library_unit, numbered_unit, numbered_units, generated}

-- two texts behind another
pub in_turn : (old a b one two : List ℕ) → one ≡ old ++ a → two ≡ one ++ b → two ≡ old ++ (a ++ b)
in_turn old a b one two e f = f ∙ ap (λ t. t ++ b) e ∙ append_assoc old a b

pub generated_on : (k : ℕ) (old new : List ℕ) → old ≡ generated k → new ≡ old ++ numbered_unit (decimal (k + 1)) → new ≡ generated (k + 1)
generated_on k old new e f =
    let next : k + 1 ≡ suc k = add-one k in
    subst (λ n. new ≡ generated n) (sym next)
    (in_turn library_unit (numbered_units k) (numbered_unit (decimal (suc k))) old new e (f ∙ ap (λ n. old ++ numbered_unit (decimal n)) next))

unit_length : (k : List ℕ) → length (numbered_unit k) ≡ 106 + 3 * length k
unit_length k = simp (length-append {A = ℕ}) (omega arith)

units_length : (n : ℕ) → n < 10 ^ 6 → length (numbered_units n) ≤ 124 * n
units_length zero lt = omega arith
units_length (suc n) lt =
    let here = unit_length (decimal (suc n)) in
    let few = length-decimal-le 6 (suc n) (omega arith) (omega arith) (omega arith) in
    omega (arith, length-append (numbered_units n) (numbered_unit (decimal (suc n))), units_length n (omega arith), here, few)

pub generated_short : (n : ℕ) (text : List ℕ) → n ≤ 100000 → text ≡ generated n → length text < 16777216
generated_short n text few e = omega (arith, ap length e, length-append library_unit (numbered_units n), units_length n (omega arith))
