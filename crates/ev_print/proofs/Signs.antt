-- Tokens of the fixed parts of canonical texts.
use Rattle.std.proofs.Common.{◌≡◌, ℕ, ◌<◌, ◌||◌, false, List, [], ◌∷◌, ◌++◌, refl, ap, ◌∙◌, subst, arith}
use Rattle.std.specs.Prelude.{Some, codes, ◌==◌}
use Rattle.std.specs.Char.{is_ascii_alphanumeric}
use Rattle.std.proofs.lemmas.List.{append_assoc}
use Rattle.unicode_ident.proofs.IdentLemmas.{is_xid_continue-ascii}
use Rattle.ev_syntax.specs.Marks.{spellings, for_all_sign, for_some_sign, open_paren, close_paren, open_bracket, close_bracket, open_brace, close_brace, comma, dot, bar, inverse_sign, param_sign, product_sign, oftype_word}
use Rattle.ev_syntax.specs.Tokens.{Token, mark, row_of}
use Rattle.ev_print.specs.Canon.{in_parens}
use Rattle.ev_print.proofs.Lexing.{Lex, Anything, Breaks, IsBreak, after_any, after_word, blank_lex, mark_blank, sign_lex}

-- signs that stand by themselves
pub open_lex : Lex Anything (codes "(") (λ ks. mark open_paren ∷ ks)
open_lex = sign_lex 40 41 41 refl refl refl

pub close_lex : Lex Anything (codes ")") (λ ks. mark close_paren ∷ ks)
close_lex = sign_lex 41 42 42 refl refl refl

pub open_bracket_lex : Lex Anything (codes "[") (λ ks. mark open_bracket ∷ ks)
open_bracket_lex = sign_lex 91 43 43 refl refl refl

pub close_bracket_lex : Lex Anything (codes "]") (λ ks. mark close_bracket ∷ ks)
close_bracket_lex = sign_lex 93 44 44 refl refl refl

pub open_brace_lex : Lex Anything (codes "{") (λ ks. mark open_brace ∷ ks)
open_brace_lex = sign_lex 123 45 45 refl refl refl

pub close_brace_lex : Lex Anything (codes "}") (λ ks. mark close_brace ∷ ks)
close_brace_lex = sign_lex 125 46 46 refl refl refl

pub inverse_lex : Lex Anything (codes "~") (λ ks. mark inverse_sign ∷ ks)
inverse_lex = sign_lex 126 40 40 refl refl refl

pub param_lex : Lex Anything (codes "?") (λ ks. mark param_sign ∷ ks)
param_lex = sign_lex 63 51 51 refl refl refl

pub for_all_lex : Lex Anything (codes "!") (λ ks. mark for_all_sign ∷ ks)
for_all_lex = sign_lex 33 0 0 refl refl refl

pub for_some_lex : Lex Anything (codes "#") (λ ks. mark for_some_sign ∷ ks)
for_some_lex = sign_lex 35 1 1 refl refl refl

-- signs and words between blanks
pub comma_lex : Lex Anything (codes ", ") (λ ks. mark comma ∷ ks)
comma_lex = mark_blank (codes ",") comma refl

pub dot_lex : Lex Anything (codes ". ") (λ ks. mark dot ∷ ks)
dot_lex = mark_blank (codes ".") dot refl

pub bar_lex : Lex Anything (codes " | ") (λ ks. mark bar ∷ ks)
bar_lex = after_any Anything (codes " ") (codes "| ") _ _ blank_lex (mark_blank (codes "|") bar refl)

pub star_lex : Lex Anything (codes " ** ") (λ ks. mark product_sign ∷ ks)
star_lex = after_any Anything (codes " ") (codes "** ") _ _ blank_lex (mark_blank (codes "**") product_sign refl)

pub oftype_lex : Lex Anything (codes " oftype ") (λ ks. mark oftype_word ∷ ks)
oftype_lex = after_any Anything (codes " ") (codes "oftype ") _ _ blank_lex (mark_blank (codes "oftype") oftype_word refl)

-- a mark between blanks, and what comes after it
pub spaced_lex : (Q : List ℕ → Type 0) (w : List ℕ) (m : ℕ) (b : List ℕ) (g : List Token → List Token) → row_of spellings w ≡ Some m → Lex Q b g
    → Lex Q (codes " " ++ (w ++ (codes " " ++ b))) (λ ks. mark m ∷ g ks)
spaced_lex Q w m b g row y =
    after_any Q (codes " ") (w ++ (codes " " ++ b)) _ _ blank_lex
    (subst (λ t. Lex Q t (λ ks. mark m ∷ g ks)) (append_assoc w (codes " ") b) (after_any Q (w ++ codes " ") b _ g (mark_blank w m row) y))

-- the bytes at which words stop
ascii_break : (c : ℕ) → c < 128 → is_ascii_alphanumeric c ≡ false → (c == 95) ≡ false → IsBreak c
ascii_break c small a l = record { small = small; breaks = is_xid_continue-ascii c small ∙ ap (λ b. b || c == 95) a ∙ l }

pub blank_break : IsBreak 32
blank_break = ascii_break 32 (omega arith) refl refl

pub open_break : IsBreak 40
open_break = ascii_break 40 (omega arith) refl refl

pub close_break : IsBreak 41
close_break = ascii_break 41 (omega arith) refl refl

pub comma_break : IsBreak 44
comma_break = ascii_break 44 (omega arith) refl refl

pub dot_break : IsBreak 46
dot_break = ascii_break 46 (omega arith) refl refl

pub open_bracket_break : IsBreak 91
open_bracket_break = ascii_break 91 (omega arith) refl refl

pub close_bracket_break : IsBreak 93
close_bracket_break = ascii_break 93 (omega arith) refl refl

pub close_brace_break : IsBreak 125
close_brace_break = ascii_break 125 (omega arith) refl refl

pub inverse_break : IsBreak 126
inverse_break = ascii_break 126 (omega arith) refl refl

-- a text in parentheses, alone and behind a word
pub closed_lex : (text : List ℕ) (f : List Token → List Token) → Lex Breaks text f → Lex Anything (text ++ codes ")") (λ ks. f (mark close_paren ∷ ks))
closed_lex text f x = after_word Anything text 41 [] f _ close_break x close_lex

pub parens_lex : (text : List ℕ) (f : List Token → List Token) → Lex Breaks text f → Lex Anything (in_parens text) (λ ks. mark open_paren ∷ f (mark close_paren ∷ ks))
parens_lex text f x = after_any Anything (codes "(") (text ++ codes ")") _ _ open_lex (closed_lex text f x)

pub call_lex : (a text : List ℕ) (f g : List Token → List Token) → Lex Breaks a f → Lex Breaks text g
    → Lex Anything (a ++ in_parens text) (λ ks. f (mark open_paren ∷ g (mark close_paren ∷ ks)))
call_lex a text f g x y = after_word Anything a 40 (text ++ codes ")") f _ open_break x (parens_lex text g y)
