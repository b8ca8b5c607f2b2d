-- What a few words of many tell, and numbers as words.
use Rattle.std.proofs.Common.{◌≡◌, ◌<◌, ◌≤◌, ◌^◌, ◌*◌, ◌+◌, ◌-◌, ℕ, Bool, true, false, ◌&&◌, not, List, [], ◌∷◌, length, take, get_or, Option, Some, None, Result, Ok, Err, IfOk, refl, ap, subst, ◌∙◌, arith, rules}
use Rattle.std.specs.Prelude.{◌==◌, fold, nat_le, if◌then◌else◌, option_map}
use Rattle.std.specs.Char.{is_ascii_digit}
use Rattle.std.specs.List.{list_all, slice_split}
use Rattle.std.specs.Result.{OkIff, result_ok}
use Rattle.std.specs.Str.{IsUtf8}
use Rattle.std.specs.Str.Parse.{ParsesUnsigned}
use Rattle.std.proofs.lemmas.Bool.{leb-true, le-leb, ne_eqb}
use Rattle.std.proofs.lemmas.Fmt.{IsAscii-from_digits}
use Rattle.std.proofs.lemmas.Str.{IsUtf8-from_ascii}
use Rattle.std.proofs.lemmas.Str.Parse.{IsNumeralModel, numerals_by_fold, parse_plain}
use Rattle.ev_syntax.specs.Tokens.{decimal_value}
use Rattle.ev_terms.specs.declared.values.NoMemory.{NoMemory}
use Rattle.ev_script.specs.declared.heads.Head.{Head}
use Rattle.ev_script.specs.declared.sequent_names.SeqName.{SeqName}
use Rattle.ev_script.specs.SequentNames.{word_index, word_sequent, sequent_of_parts}
use Rattle.ev_script.specs.Scripts.{head_of, words_of}
use Rattle.ev_script.specs.inner.Pieces.{texts}
use Rattle.ev_script.specs.inner.Spans.{head_told}
use denote.Ref.{Bor}

-- a head is one or two words, so three of the words tell it
head-take : (ws : List (List ℕ)) → head_of (take 3 ws) ≡ head_of ws
head-take [] = refl
head-take (a ∷ []) = refl
head-take (a ∷ b ∷ []) = refl
head-take (a ∷ b ∷ c ∷ ws) = refl

pub head_told_by : (now words : List (Bor (List ℕ))) (line : List ℕ) (r : Result (Option Head) NoMemory) → now ≡ words → texts words ≡ take 3 (words_of line)
    → IfOk r (λ head. option_map head_told head ≡ head_of (texts now)) → IfOk r (λ head. option_map head_told head ≡ head_of (words_of line))
head_told_by now words line r e f h =
    let same : head_of (texts now) ≡ head_of (words_of line) = ap (λ ws. head_of (texts ws)) e ∙ ap head_of f ∙ head-take (words_of line) in
    subst (λ u. IfOk r (λ head. option_map head_told head ≡ u)) same h

pub many_words : (words : List (Bor (List ℕ))) → 3 ≤ length words → None ≡ head_of (texts words)
many_words [] h = absurd (omega (arith, h))
many_words (a ∷ []) h = absurd (omega (arith, h))
many_words (a ∷ b ∷ []) h = absurd (omega (arith, h))
many_words (a ∷ b ∷ c ∷ ws) h = refl

-- a sequent's name has three parts, so four of the parts tell it
sequent-take : (ps : List (List ℕ)) → sequent_of_parts (take 4 ps) ≡ sequent_of_parts ps
sequent-take [] = refl
sequent-take (a ∷ []) = refl
sequent-take (a ∷ b ∷ []) = refl
sequent-take (a ∷ b ∷ c ∷ []) = refl
sequent-take (a ∷ b ∷ c ∷ d ∷ ps) = refl

pub sequent_told_by : (now parts : List (Bor (List ℕ))) (word : List ℕ) (r : Result (Option SeqName) NoMemory) → now ≡ parts
    → texts parts ≡ take 4 (slice_split (λ b. b == 47) word) → IfOk r (λ name. name ≡ sequent_of_parts (texts now)) → IfOk r (λ name. name ≡ word_sequent word)
sequent_told_by now parts word r e f h =
    let same : sequent_of_parts (texts now) ≡ word_sequent word = ap (λ ps. sequent_of_parts (texts ps)) e ∙ ap sequent_of_parts f ∙ sequent-take (slice_split (λ b. b == 47) word) in
    subst (λ u. IfOk r (λ name. name ≡ u)) same h

pub other_parts : (parts : List (Bor (List ℕ))) → (length parts ≡ 3 → ⊥) → None ≡ sequent_of_parts (texts parts)
other_parts [] h = refl
other_parts (a ∷ []) h = refl
other_parts (a ∷ b ∷ []) h = refl
other_parts (a ∷ b ∷ c ∷ []) h = absurd (h refl)
other_parts (a ∷ b ∷ c ∷ d ∷ ps) h = refl

-- digits and their value, as `parse` reads them
digits : IsNumeralModel (λ ds. list_all is_ascii_digit ds ≡ true) decimal_value
digits = numerals_by_fold _ (search rules) (λ n ds. fold (λ value c. value * 10 + (c - 48)) n ds) (search rules)

index_if : (d z l : Bool) (v x : ℕ) → d ≡ true → z ≡ false → l ≡ true → x ≡ v → Some x ≡ (if d && (not z && l) then Some v else None)
index_if true false true v x a b c e = ap Some e
index_if false z l v x a b c e = absurd (cc)
index_if true true l v x a b c e = absurd (cc)
index_if true false false v x a b c e = absurd (cc)

index_unless : (d z l : Bool) (v : ℕ) → (d ≡ true → l ≡ true → ⊥) → ◌≡◌ {A = Option ℕ} None (if d && (not z && l) then Some v else None)
index_unless true false true v h = absurd (h refl refl)
index_unless false z l v h = refl
index_unless true true l v h = refl
index_unless true false false v h = refl

-- a word that begins with 1 to 9, and what `parse` makes of it
parsed : {E : Type 0} (c : ℕ) (cs : List ℕ) (r : Result ℕ E) → 49 ≤ c
    → OkIff r ((list_all is_ascii_digit (c ∷ cs) ≡ true) × (0 < length (c ∷ cs)) × (decimal_value (c ∷ cs) < 2 ^ 32)) (decimal_value (c ∷ cs))
    → result_ok r ≡ word_index (c ∷ cs)
parsed c cs (Ok x) h (holds, e) =
    let v : ℕ = decimal_value (c ∷ cs) in
    index_if (list_all is_ascii_digit (c ∷ cs)) (c == 48) (nat_le v 4294967295) v x holds.0 (ne_eqb c 48 (λ is. absurd (omega (arith, is, h))))
    (le-leb v 4294967295 (omega (arith, holds.2))) e
parsed c cs (Err e) h none =
    let v : ℕ = decimal_value (c ∷ cs) in
    index_unless (list_all is_ascii_digit (c ∷ cs)) (c == 48) (nat_le v 4294967295) v
    (λ d l. none (d, omega arith, omega (arith, leb-true v 4294967295 l)))

pub index_parsed : {E : Type 0} (word text : List ℕ) (r : Result ℕ E) → 1 ≤ length word → 49 ≤ get_or word 0 0 → text ≡ word → ParsesUnsigned 32 10 text r
    → result_ok r ≡ word_index word
index_parsed [] text r some h same p = absurd (omega (arith, some))
index_parsed (c ∷ cs) text r some h same p =
    parsed c cs r h (parse_plain digits 32 (c ∷ cs) r (subst (λ t. ParsesUnsigned 32 10 t r) same p) (λ is. absurd (omega (arith, is, h))))

-- digits are text
pub index_no_text : (word : List ℕ) → 1 ≤ length word → (IsUtf8 word → ⊥) → None ≡ word_index word
index_no_text [] some other = absurd (omega (arith, some))
index_no_text (c ∷ cs) some other =
    index_unless (list_all is_ascii_digit (c ∷ cs)) (c == 48) (nat_le (decimal_value (c ∷ cs)) 4294967295) (decimal_value (c ∷ cs))
    (λ d l. other (IsUtf8-from_ascii (c ∷ cs) (IsAscii-from_digits (c ∷ cs) (digits.to (c ∷ cs) d))))
