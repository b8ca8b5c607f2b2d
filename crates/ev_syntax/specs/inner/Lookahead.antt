-- What a parser looks ahead at: operators, and what comes behind closing parentheses.
use Rattle.std.specs.Prelude.{ℕ, zero, suc, Bool, false, ◌||◌, ◌==◌, nat_le, find, if◌then◌else◌, List, [], ◌∷◌, Option, Some, None}
use Rattle.ev_syntax.specs.Marks.{open_paren, close_paren, open_bracket, inverse_sign, oftype_word}
use Rattle.ev_syntax.specs.Tokens.{Token, name, number, mark}
use Rattle.ev_syntax.specs.Parts.{Operator, operators}
use Rattle.ev_syntax.specs.inner.TypeParser.{begins}

-- the operator that a mark is
abbrev pub operator_of : ℕ → Option Operator
operator_of m = find (λ o. o.sign == m) operators

-- the level of the operator that a token is, if it is one and its level is at least k
abbrev pub is_from : ℕ → Option Operator → Bool
is_from k None = false
is_from k (Some o) = nat_le k o.level

abbrev pub is_at : ℕ → Option Operator → Bool
is_at k None = false
is_at k (Some o) = o.level == k

abbrev pub token_operator : Token → Option Operator
token_operator (name n) = None
token_operator (number n) = None
token_operator (mark m) = operator_of m

abbrev pub first_operator : List Token → Option Operator
first_operator [] = None
first_operator (t ∷ ts) = token_operator t

abbrev pub mark_number : Token → ℕ
mark_number (name n) = 0
mark_number (number n) = 0
mark_number (mark m) = m

-- the tokens after the closing parenthesis, where n more are open
abbrev pub after_close : ℕ → List Token → Option (List Token)
after_close n [] = None
after_close n (name x ∷ ts) = after_close n ts
after_close n (number x ∷ ts) = after_close n ts
after_close zero (mark m ∷ ts) = if m == open_paren then after_close 1 ts else (if m == close_paren then Some ts else after_close zero ts)
after_close (suc n) (mark m ∷ ts) = if m == open_paren then after_close (suc (suc n)) ts else (if m == close_paren then after_close n ts else after_close (suc n) ts)

-- a token goes on with an expression
abbrev pub goes_on : List Token → Bool
goes_on ts = is_from 0 (first_operator ts) || (begins inverse_sign ts || (begins open_paren ts || (begins open_bracket ts || begins oftype_word ts)))
