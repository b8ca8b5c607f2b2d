-- Formulas by a parser that climbs the levels and goes down by fuel.
use Rattle.std.specs.Prelude.{ℕ, zero, suc, ◌^◌, Bool, false, ◌==◌, ◌&&◌, ◌||◌, nat_le, nat_lt, if◌then◌else◌, List, [], ◌∷◌, Option, Some, None}
use Rattle.ev_syntax.specs.Marks.{true_value_word, false_value_word, int_word, bool_set_word, nat_word, nat1_word, id_word, prj1_word, prj2_word, pow_word, union_word, inter_word, dom_word, ran_word, card_word, min_word, max_word, type_word, param_sign, open_paren, close_paren, open_bracket, close_bracket, open_brace, close_brace, oftype_word, minus_sign, inverse_sign, bool_word, dot, bar, lambda_sign, union_over_word, inter_over_word, true_word, false_word, finite_word, not_word, for_all_sign, for_some_sign, and_sign, or_word, implies_sign, iff_sign}
use Rattle.ev_syntax.specs.Tokens.{Token, name, number, mark}
use Rattle.ev_syntax.specs.Raw.{Raw, Raws, word, literal, param, type_set, call, around, unary, binary, inverse, apply, image, of_type, quantified, set_of, collected, lambda, members, none, one, Binder}
use Rattle.ev_syntax.specs.Parts.{is_among, relation_signs}
use Rattle.ev_syntax.specs.inner.Finding.{Found, on_found}
use Rattle.ev_syntax.specs.inner.TypeParser.{begins, expect, parse_type, a_type}
use Rattle.ev_syntax.specs.inner.BinderParser.{listed, parse_binders}
use Rattle.ev_syntax.specs.inner.PatternParser.{parse_pattern, a_pattern}
use Rattle.ev_syntax.specs.inner.Lookahead.{after_close, goes_on, is_at, token_operator, mark_number}

abbrev pub chain_levels : List ℕ
chain_levels = 1 ∷ 2 ∷ 3 ∷ 5 ∷ 6 ∷ []

abbrev pub once_levels : List ℕ
once_levels = 4 ∷ 8 ∷ []

abbrev pub Read : Type 0
Read = List Token → Option (Found Raw)

abbrev pub items : ℕ → Read → List Token → Option (Found Raws)
items f read ts = on_found (read ts) (λ e us. on_found (listed none one f read us) (λ es vs. Some (one e es, vs)))

abbrev pub words : List ℕ
words = true_value_word ∷ false_value_word ∷ int_word ∷ bool_set_word ∷ nat_word ∷ nat1_word ∷ id_word ∷ prj1_word ∷ prj2_word ∷ []

abbrev pub calls : List ℕ
calls = pow_word ∷ union_word ∷ inter_word ∷ dom_word ∷ ran_word ∷ card_word ∷ min_word ∷ max_word ∷ []

abbrev pub param_at : List Token → Option (Found Raw)
param_at [] = None
param_at (name n ∷ ts) = None
param_at (mark m ∷ ts) = None
param_at (number i ∷ ts) = if nat_lt i (2 ^ 32) then Some (param i, ts) else None

abbrev pub at_name : ℕ → Read → List ℕ → List Token → Option (Found Raw)
at_name f read n ts =
    if begins open_paren ts then expect open_paren ts (λ us. on_found (items f read us) (λ es vs. expect close_paren vs (λ rest. Some (call n es, rest))))
    else Some (call n none, ts)

-- behind the dot of a form that binds names and collects values
abbrev pub collects : Read → Read → (Raw → Raw → List Token → Option (Found Raw)) → List Token → Option (Found Raw)
collects read whole end ts = on_found (whole ts) (λ p us. expect bar us (λ vs. on_found (read vs) (λ e ws. end p e ws)))

abbrev pub first_binder : List Binder → (Binder → Option (Found Raw)) → Option (Found Raw)
first_binder [] go = None
first_binder (b ∷ []) go = go b
first_binder (b ∷ c ∷ bs) go = None

-- after `{` and what reads as a list of expressions: the end, or what was read are bound names
abbrev pub in_braces : ℕ → Read → Read → List Token → Raws → List Token → Option (Found Raw)
in_braces f read whole ts es us =
    if begins dot us then
    on_found (parse_binders f ts) (λ bs vs. expect dot vs (λ ws. collects read whole (λ p e xs. expect close_brace xs (λ rest. Some (collected open_brace bs p e, rest))) ws))
    else (if begins bar us then
    on_found (parse_binders f ts) (λ bs vs. first_binder bs (λ b. expect bar vs (λ ws. on_found (whole ws) (λ p xs. expect close_brace xs (λ rest. Some (set_of b p, rest))))))
    else expect close_brace us (λ rest. Some (members es, rest)))

abbrev pub at_mark : ℕ → Read → Read → ℕ → List Token → Option (Found Raw)
at_mark f read whole m ts =
    if is_among words m then Some (word m, ts) else
    (if m == param_sign then param_at ts else
    (if m == type_word then expect open_paren ts (λ us. on_found (parse_type f a_type us) (λ a vs. expect close_paren vs (λ rest. Some (type_set a, rest)))) else
    (if is_among calls m then expect open_paren ts (λ us. on_found (read us) (λ e vs. expect close_paren vs (λ rest. Some (around m e, rest)))) else
    (if m == open_paren then on_found (read ts) (λ e vs. expect close_paren vs (λ rest. Some (e, rest))) else
    (if m == open_brace then
    (if begins close_brace ts then expect close_brace ts (λ rest. Some (members none, rest)) else on_found (items f read ts) (in_braces f read whole ts))
    else (if m == bool_word then expect open_paren ts (λ us. on_found (whole us) (λ e vs. expect close_paren vs (λ rest. Some (around bool_word e, rest)))) else None))))))

abbrev pub prim : ℕ → Read → Read → Read
prim f read whole [] = None
prim f read whole (number n ∷ ts) = Some (literal n, ts)
prim f read whole (name n ∷ ts) = at_name f read n ts
prim f read whole (mark m ∷ ts) = at_mark f read whole m ts

abbrev pub posts : ℕ → Read → Raw → List Token → Option (Found Raw)
posts zero read a ts = Some (a, ts)
posts (suc n) read a ts =
    if begins inverse_sign ts then expect inverse_sign ts (λ us. posts n read (inverse a) us) else
    (if begins open_paren ts then expect open_paren ts (λ us. on_found (read us) (λ e vs. expect close_paren vs (λ rest. posts n read (apply a e) rest))) else
    (if begins open_bracket ts then expect open_bracket ts (λ us. on_found (read us) (λ e vs. expect close_bracket vs (λ rest. posts n read (image a e) rest))) else Some (a, ts)))

abbrev pub climb : ℕ → Read → ℕ → Raw → List Token → Option (Found Raw)
climb zero read k a ts = Some (a, ts)
climb (suc n) read k a [] = Some (a, [])
climb (suc n) read k a (t ∷ ts) =
    if is_at k (token_operator t) then on_found (read ts) (λ b rest. climb n read k (binary (mark_number t) a b) rest) else Some (a, t ∷ ts)

abbrev pub once : Read → ℕ → Raw → List Token → Option (Found Raw)
once read k a [] = Some (a, [])
once read k a (t ∷ ts) =
    if is_at k (token_operator t) then on_found (read ts) (λ b rest. Some (binary (mark_number t) a b, rest)) else Some (a, t ∷ ts)

abbrev pub typed : ℕ → Raw → List Token → Option (Found Raw)
typed f a ts = if begins oftype_word ts then expect oftype_word ts (λ us. on_found (parse_type f a_type us) (λ b vs. Some (of_type a b, vs))) else Some (a, ts)

abbrev pub after_operand : ℕ → ℕ → Read → Raw → List Token → Option (Found Raw)
after_operand k f read a ts =
    if k == 0 then typed f a ts else
    (if is_among chain_levels k then climb f read k a ts else (if is_among once_levels k then once read k a ts else Some (a, ts)))

-- whether a function abstraction, a union or an intersection begins
abbrev pub begins_special : List Token → Bool
begins_special ts = begins lambda_sign ts || (begins union_over_word ts || begins inter_over_word ts)

abbrev pub overs : ℕ → ℕ → Read → Read → List Token → Option (Found Raw)
overs f m read whole ts =
    expect m ts (λ us. on_found (parse_binders f us) (λ bs vs. expect dot vs (λ ws. collects read whole (λ p e rest. Some (collected m bs p e, rest)) ws)))

abbrev pub special : ℕ → Read → Read → Read
special f read whole ts =
    if begins lambda_sign ts then
    expect lambda_sign ts (λ us. on_found (parse_pattern f a_pattern us) (λ x vs. expect dot vs (λ ws. collects read whole (λ p e rest. Some (lambda x p e, rest)) ws)))
    else (if begins union_over_word ts then overs f union_over_word read whole ts else overs f inter_over_word read whole ts)

pub data Want : Type 0 where
  level : ℕ → Want
  a_lit : Want
  a_conj : Want
  a_pred : Want

abbrev pub is_relation : List Token → Bool
is_relation [] = false
is_relation (name n ∷ ts) = false
is_relation (number n ∷ ts) = false
is_relation (mark m ∷ ts) = is_among relation_signs m

-- behind an expression: a relation, or the expression is a call that is a predicate
abbrev pub call_only : Raw → List Token → Option (Found Raw)
call_only (call n es) ts = Some (call n es, ts)
call_only _ ts = None

abbrev pub related : Read → Raw → List Token → Option (Found Raw)
related read a [] = call_only a []
related read a (t ∷ ts) =
    if is_relation (t ∷ ts) then on_found (read ts) (λ b rest. Some (binary (mark_number t) a b, rest)) else call_only a (t ∷ ts)

-- in parentheses a predicate, unless what comes behind them goes on with an expression
abbrev pub behind_open : Read → Read → List Token → Option (List Token) → Option (Found Raw)
behind_open read whole ts None = None
behind_open read whole ts (Some rest) =
    if goes_on rest || is_relation rest then on_found (read ts) (related read) else
    expect open_paren ts (λ us. on_found (whole us) (λ p vs. expect close_paren vs (λ rest. Some (p, rest))))

abbrev pub after_open : List Token → Option (List Token)
after_open [] = None
after_open (t ∷ ts) = after_close 0 ts

abbrev pub atom : Read → Read → Read
atom read whole ts =
    if begins true_word ts then expect true_word ts (λ us. Some (word true_word, us)) else
    (if begins false_word ts then expect false_word ts (λ us. Some (word false_word, us)) else
    (if begins finite_word ts then
    expect finite_word ts (λ us. expect open_paren us (λ vs. on_found (read vs) (λ e ws. expect close_paren ws (λ rest. Some (around finite_word e, rest)))))
    else (if begins open_paren ts then behind_open read whole ts (after_open ts) else on_found (read ts) (related read))))

-- a quantified predicate takes all that it can: a connective behind it makes no formula
abbrev pub connects : List Token → Bool
connects ts = begins and_sign ts || (begins or_word ts || (begins implies_sign ts || begins iff_sign ts))

abbrev pub whole_of : Raw → List Token → Option (Found Raw)
whole_of e rest = if connects rest then None else Some (e, rest)

abbrev pub quantifies : ℕ → ℕ → Read → Read
quantifies f m whole ts =
    expect m ts (λ us. on_found (parse_binders f us) (λ bs vs. expect dot vs (λ ws. on_found (whole ws) (λ p rest. whole_of (quantified m bs p) rest))))

abbrev pub literal_at : ℕ → Read → Read → Read → Read
literal_at f lit read whole ts =
    if begins not_word ts then expect not_word ts (λ us. on_found (lit us) (λ p rest. Some (unary not_word p, rest))) else
    (if begins for_all_sign ts then quantifies f for_all_sign whole ts else
    (if begins for_some_sign ts then quantifies f for_some_sign whole ts else atom read whole ts))

-- further operands of `&` or `or`
abbrev pub connect : ℕ → Read → ℕ → Raw → List Token → Option (Found Raw)
connect zero lit m a ts = Some (a, ts)
connect (suc n) lit m a ts = if begins m ts then expect m ts (λ us. on_found (lit us) (λ b rest. connect n lit m (binary m a b) rest)) else Some (a, ts)

abbrev pub connected : ℕ → Read → Raw → List Token → Option (Found Raw)
connected f lit a ts = if begins and_sign ts then connect f lit and_sign a ts else (if begins or_word ts then connect f lit or_word a ts else Some (a, ts))

abbrev pub implied : Read → Raw → List Token → Option (Found Raw)
implied conj a ts =
    if begins implies_sign ts then expect implies_sign ts (λ us. on_found (conj us) (λ b rest. Some (binary implies_sign a b, rest))) else
    (if begins iff_sign ts then expect iff_sign ts (λ us. on_found (conj us) (λ b rest. Some (binary iff_sign a b, rest))) else Some (a, ts))

abbrev pub parse : ℕ → Want → Read
parse zero w ts = None
parse (suc f) (level k) ts =
    if nat_le 9 k then on_found (prim f (parse f (level 0)) (parse f a_pred) ts) (posts f (parse f (level 0))) else
    (if k == 7 && begins minus_sign ts then expect minus_sign ts (λ us. on_found (parse f (level 8) us) (λ e vs. Some (unary minus_sign e, vs)))
    else (if k == 0 && begins_special ts then special f (parse f (level 0)) (parse f a_pred) ts
    else on_found (parse f (level (suc k)) ts) (after_operand k f (parse f (level (suc k))))))
parse (suc f) a_lit ts = literal_at f (parse f a_lit) (parse f (level 0)) (parse f a_pred) ts
parse (suc f) a_conj ts = on_found (parse f a_lit ts) (connected f (parse f a_lit))
parse (suc f) a_pred ts = on_found (parse f a_conj ts) (implied (parse f a_conj))
