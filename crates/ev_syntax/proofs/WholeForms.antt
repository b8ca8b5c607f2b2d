-- The forms of expressions, one after the other.
use Rattle.std.proofs.Common.{◌≡◌, ℕ, ◌<◌, ◌^◌, Bool, true, false, List, [], ◌∷◌, refl, ap, subst, sym, ◌∙◌, arith, ◌⊎◌, inl, inr}
use Rattle.std.specs.Prelude.{Some, if◌then◌else◌, ◌==◌, ◌&&◌, ◌||◌, nat_lt, IsTrue}
use Rattle.std.proofs.lemmas.Bool.Decides.{nat_tests}
use Rattle.ev_syntax.specs.Marks.{true_word, false_word, type_word, param_sign, open_paren, close_paren, open_bracket, close_bracket, open_brace, close_brace, comma, inverse_sign}
use Rattle.ev_syntax.specs.Tokens.{Token, name, number, mark}
use Rattle.ev_syntax.specs.Raw.{Raw, Raws, RawType, word, literal, param, type_set, call, inverse, apply, image, members, none, one}
use Rattle.ev_syntax.specs.Parts.{Part, expr, is_among, inside, is_expression, may_be_word, may_be_name, is_predicate, expr_level, post_level, function_level}
use Rattle.ev_syntax.specs.Grammar.{Front, Is, ◌then◌, InParens, Reads, ReadsMore, ReadsType, Where}
use Rattle.ev_syntax.proofs.Eventually.{on_found, Eventually, always, like, and_then}
use Rattle.ev_syntax.proofs.TypesRead.{begins, expect, parse_type, a_type, type_found}
use Rattle.ev_syntax.proofs.BindersRead.{listed, ListedRead, none_listed, one_listed, listed_eventually}
use Rattle.ev_syntax.proofs.WholeParser.{items, words, prim, posts, parse, E, Prim, Stops, level, a_pred, dead, not_dead, and_no, in_braces}
use Rattle.ev_syntax.proofs.WholeRead.{Posts, Complete, alone_posts, more_posts, from_posts, paren_stops, bracket_stops, brace_stops, comma_stops}

pub and_both : (a b : Bool) → a && b ≡ true → (a ≡ true) × (b ≡ true)
and_both true b h = (refl, h)
and_both false b h = cc

pub or_either : (a b : Bool) → a || b ≡ true → (a ≡ true) ⊎ (b ≡ true)
or_either true b h = inl refl
or_either false b h = inr h

pub never : {A : Type 0} → IsTrue false → A
never h = absurd (clash h)
  where
    clash : false ≡ true → ⊥
    clash h = cc

-- a form that the parser of the tightest level takes
pub prims : (raw : Raw) (alone : Part → Front) → ((k : ℕ) (ts rest : List Token) → alone (expr k) ts rest → Prim ts raw rest) → Complete raw (InParens inside alone)
prims raw alone bare =
    from_posts raw alone (λ k le ts rest h stops. alone_posts ts raw rest (bare k ts rest h)) (λ ts rest h. alone_posts ts raw rest (bare 10 ts rest h))

pub prim_once : (raw : Raw) (rest ts us : List Token) → ts ≡ us → ((g : ℕ) → prim g (parse g (level 0)) (parse g a_pred) us ≡ Some (raw, rest)) → Prim ts raw rest
prim_once raw rest ts us e h = subst (λ xs. Prim xs raw rest) (sym e) (always _ _ h)

pub literal_complete : (n : ℕ) → Complete (literal n) (Reads (literal n))
literal_complete n = prims (literal n) (λ p. Where (is_expression p) (Is (number n)))
    (λ k ts rest h. prim_once (literal n) rest ts (number n ∷ rest) h.1 (λ g. refl))

pub word_complete : (m : ℕ) → Complete (word m) (Reads (word m))
word_complete m = prims (word m) (λ p. Where (may_be_word m p) (Is (mark m))) bare
  where
    listed_word : (k : ℕ) → may_be_word m (expr k) ≡ true → is_among words m ≡ true
    listed_word k h = go (or_either (is_among (true_word ∷ false_word ∷ []) m && false) _ h)
      where
        go : (is_among (true_word ∷ false_word ∷ []) m && false ≡ true) ⊎ (is_among words m && is_expression (expr k) ≡ true) → is_among words m ≡ true
        go (inl e) = never (and_both (is_among (true_word ∷ false_word ∷ []) m) false e).1
        go (inr e) = (and_both _ _ e).0

    bare : (k : ℕ) (ts rest : List Token) → Where (may_be_word m (expr k)) (Is (mark m)) ts rest → Prim ts (word m) rest
    bare k ts rest h = prim_once (word m) rest ts (mark m ∷ rest) h.1 (λ g. rw (listed_word k h.0))

pub is_below : (i n : ℕ) → i < n → nat_lt i n ≡ true
is_below i n h = grind (arith, nat_tests)

pub param_complete : (i : ℕ) → Complete (param i) (Reads (param i))
param_complete i = prims (param i) (λ p ts rest. (i < 2 ^ 32) × Where (is_expression p) (Is (mark param_sign) then Is (number i)) ts rest) bare
  where
    bare : (k : ℕ) (ts rest : List Token) → ((i < 2 ^ 32) × Where (is_expression (expr k)) (Is (mark param_sign) then Is (number i)) ts rest) → Prim ts (param i) rest
    bare k ts rest (low, (w, (mid, e, d))) =
        prim_once (param i) rest ts (mark param_sign ∷ number i ∷ rest) (e ∙ ap (λ xs. mark param_sign ∷ xs) d) (λ g. rw (is_below i (2 ^ 32) low))

pub type_set_complete : (a : RawType) → Complete (type_set a) (Reads (type_set a))
type_set_complete a = prims (type_set a) (λ p. Where (is_expression p) (Is (mark type_word) then Is (mark open_paren) then ReadsType a true then Is (mark close_paren))) bare
  where
    bare : (k : ℕ) (ts rest : List Token) → Where (is_expression (expr k)) (Is (mark type_word) then Is (mark open_paren) then ReadsType a true then Is (mark close_paren)) ts rest
        → Prim ts (type_set a) rest
    bare k ts rest (w, (us, e, (vs, d, (ws, h, f)))) =
        subst (λ xs. Prim xs (type_set a) rest) (sym (e ∙ ap (λ xs. mark type_word ∷ xs) d))
        (and_then (λ g. parse_type g a_type vs) (λ g b xs. expect close_paren xs (λ rest. Some (type_set b, rest))) a (mark close_paren ∷ rest) (type_set a, rest)
        (type_found a vs (mark close_paren ∷ rest) (subst (λ xs. ReadsType a true vs xs) f h) (refl, refl)) (always _ _ (λ g. refl)))

pub name_complete : (n : List ℕ) → Complete (call n none) (Reads (call n none))
name_complete n = from_posts (call n none) (λ p. Where (may_be_name p) (Is (name n)))
    (λ k le ts rest h stops. alone_posts ts (call n none) rest (prim_once (call n none) rest ts (name n ∷ rest) h.1 (λ g. rw stops)))
    (λ ts rest h. never h.0)

-- lists of expressions
pub record StopsItem (ts : List Token) : Type 0 where
  pub level : Stops 0 ts
  pub no_comma : begins comma ts ≡ false

abbrev pub Listed : List Token → Raws → List Token → Type 0
Listed ts es rest = ListedRead none one (λ g. parse g (level 0)) ts es rest

pub record CompleteList (es : Raws) : Type 0 where
  pub as_more : (ts rest : List Token) → ReadsMore es ts rest → StopsItem rest → Listed ts es rest
  pub ends : (ts rest : List Token) → ReadsMore es ts rest → StopsItem rest → Stops 0 ts

pub no_more_complete : CompleteList none
no_more_complete = record {
  as_more = λ ts rest h stops. subst (λ xs. Listed xs none rest) (sym h) (none_listed none one (λ g. parse g (level 0)) rest stops.no_comma);
  ends = λ ts rest h stops. subst (λ xs. Stops 0 xs) (sym h) stops.level;
}

pub more_complete : (e : Raw) (es : Raws) → Complete e (Reads e) → CompleteList es → CompleteList (one e es)
more_complete e es ce cs = record {
  as_more = λ ts rest (us, d, (vs, h, more)) stops.
      subst (λ xs. Listed xs (one e es) rest) (sym d)
      (one_listed none one (λ g. parse g (level 0)) e es us vs rest (ce.at_level 0 (omega arith) us vs h (cs.ends vs rest more stops)) (cs.as_more vs rest more stops));
  ends = λ ts rest h stops. subst (λ xs. Stops 0 xs) (sym h.1) (comma_stops h.0);
}

-- the first and the further items
pub items_found : (e : Raw) (es : Raws) (ts us rest : List Token) → Complete e (Reads e) → CompleteList es → Reads e (expr 0) ts us → ReadsMore es us rest → StopsItem rest
    → Eventually (λ g. items g (parse g (level 0)) ts) (one e es, rest)
items_found e es ts us rest ce cs h more stops =
    and_then (λ g. parse g (level 0) ts) (λ g d xs. on_found (listed none one g (parse g (level 0)) xs) (λ ds ys. Some (one d ds, ys))) e us (one e es, rest)
    (ce.at_level 0 (omega arith) ts us h (cs.ends us rest more stops))
    (and_then (λ g. listed none one g (parse g (level 0)) us) (λ g ds ys. Some (one e ds, ys)) es rest (one e es, rest)
    (listed_eventually none one (λ g. parse g (level 0)) us es rest (cs.as_more us rest more stops)) (always _ _ (λ g. refl)))

pub paren_item : (ts : List Token) → StopsItem (mark close_paren ∷ ts)
paren_item ts = record { level = paren_stops ts; no_comma = refl }

pub brace_item : (ts : List Token) → StopsItem (mark close_brace ∷ ts)
brace_item ts = record { level = brace_stops ts; no_comma = refl }

pub call_complete : (n : List ℕ) (e : Raw) (es : Raws) → Complete e (Reads e) → CompleteList es → Complete (call n (one e es)) (Reads (call n (one e es)))
call_complete n e es ce cs = prims (call n (one e es))
    (λ p. Where (is_predicate p || is_expression p) (Is (name n) then Is (mark open_paren) then Reads e (expr expr_level) then ReadsMore es then Is (mark close_paren))) bare
  where
    bare : (k : ℕ) (ts rest : List Token) → Where (is_predicate (expr k) || is_expression (expr k)) (Is (name n) then Is (mark open_paren) then Reads e (expr expr_level) then ReadsMore es then Is (mark close_paren)) ts rest
        → Prim ts (call n (one e es)) rest
    bare k ts rest (w, (us, d, (vs, f, (ws, h, (xs, more, c))))) =
        subst (λ ys. Prim ys (call n (one e es)) rest) (sym (d ∙ ap (λ ys. name n ∷ ys) f))
        (and_then (λ g. items g (parse g (level 0)) vs) (λ g ds ys. expect close_paren ys (λ rest. Some (call n ds, rest))) (one e es) (mark close_paren ∷ rest) (call n (one e es), rest)
        (items_found e es vs ws (mark close_paren ∷ rest) ce cs h (subst (λ ys. ReadsMore es ws ys) c more) (paren_item rest)) (always _ _ (λ g. refl)))

pub empty_complete : Complete (members none) (Reads (members none))
empty_complete = prims (members none) (λ p. Where (is_expression p) (Is (mark open_brace) then Is (mark close_brace)))
    (λ k ts rest h. prim_once (members none) rest ts (mark open_brace ∷ mark close_brace ∷ rest) (h.1.1 ∙ ap (λ xs. mark open_brace ∷ xs) h.1.2) (λ g. refl))

-- no expression begins with a closing brace
pub no_brace : (ts : List Token) (raw : Raw) (rest : List Token) → E 0 ts raw rest → begins close_brace ts ≡ false
no_brace ts raw rest p = not_dead close_brace 0 (λ g us. dead close_brace (λ g r w ts. refl) 0 (λ k ts le. and_no (k == 7)) (λ k ts le. and_no (k == 0)) g 0 us (omega arith)) ts (raw, rest) p

pub members_complete : (e : Raw) (es : Raws) → Complete e (Reads e) → CompleteList es → Complete (members (one e es)) (Reads (members (one e es)))
members_complete e es ce cs = prims (members (one e es))
    (λ p. Where (is_expression p) (Is (mark open_brace) then Reads e (expr expr_level) then ReadsMore es then Is (mark close_brace))) bare
  where
    bare : (k : ℕ) (ts rest : List Token) → Where (is_expression (expr k)) (Is (mark open_brace) then Reads e (expr expr_level) then ReadsMore es then Is (mark close_brace)) ts rest
        → Prim ts (members (one e es)) rest
    bare k ts rest (w, (us, d, (vs, h, (xs, more, c)))) =
        let others : ReadsMore es vs (mark close_brace ∷ rest) = subst (λ ys. ReadsMore es vs ys) c more in
        let first : E 0 us e vs = ce.at_level 0 (omega arith) us vs h (cs.ends vs (mark close_brace ∷ rest) others (brace_item rest)) in
        subst (λ ys. Prim ys (members (one e es)) rest) (sym d)
        (like (λ g. prim g (parse g (level 0)) (parse g a_pred) (mark open_brace ∷ us)) (λ g. on_found (items g (parse g (level 0)) us) (in_braces g (parse g (level 0)) (parse g a_pred) us)) (members (one e es), rest)
        (λ g. rw (no_brace us e vs first))
        (and_then (λ g. items g (parse g (level 0)) us) (λ g. in_braces g (parse g (level 0)) (parse g a_pred) us) (one e es) (mark close_brace ∷ rest) (members (one e es), rest)
        (items_found e es us vs (mark close_brace ∷ rest) ce cs h others (brace_item rest)) (always _ _ (λ g. refl))))

-- posts
pub inverse_complete : (e : Raw) → Complete e (Reads e) → Complete (inverse e) (Reads (inverse e))
inverse_complete e c = from_posts (inverse e) (λ p. Where (is_expression p) (Reads e (expr post_level) then Is (mark inverse_sign)))
    (λ k le ts rest h stops. bare ts rest h.1) (λ ts rest h. bare ts rest h.1)
  where
    bare : (ts rest : List Token) → (Reads e (expr post_level) then Is (mark inverse_sign)) ts rest → Posts ts (inverse e) rest
    bare ts rest (us, h, d) =
        more_posts ts e (inverse e) (mark inverse_sign ∷ rest) rest (c.as_post ts (mark inverse_sign ∷ rest) (subst (λ xs. Reads e (expr 9) ts xs) d h) refl)
        (0, λ g n le. refl)

pub apply_complete : (f e : Raw) → Complete f (Reads f) → Complete e (Reads e) → Complete (apply f e) (Reads (apply f e))
apply_complete f e cf ce = from_posts (apply f e)
    (λ p. Where (is_expression p) (Reads f (expr function_level) then Is (mark open_paren) then Reads e (expr expr_level) then Is (mark close_paren)))
    (λ k le ts rest h stops. bare ts rest h.1) (λ ts rest h. bare ts rest h.1)
  where
    bare : (ts rest : List Token) → (Reads f (expr function_level) then Is (mark open_paren) then Reads e (expr expr_level) then Is (mark close_paren)) ts rest → Posts ts (apply f e) rest
    bare ts rest (us, h, (vs, d, (ws, k, i))) =
        let inner : E 0 vs e (mark close_paren ∷ rest) = ce.at_level 0 (omega arith) vs (mark close_paren ∷ rest) (subst (λ xs. Reads e (expr 0) vs xs) i k) (paren_stops rest) in
        more_posts ts f (apply f e) (mark open_paren ∷ vs) rest (cf.as_function ts (mark open_paren ∷ vs) (subst (λ xs. Reads f (expr 10) ts xs) d h))
        (inner.0, λ g n le. ap (λ o. on_found o (λ x ys. expect close_paren ys (λ rest. posts n (parse g (level 0)) (apply f x) rest))) (inner.1 g le))

pub image_complete : (f e : Raw) → Complete f (Reads f) → Complete e (Reads e) → Complete (image f e) (Reads (image f e))
image_complete f e cf ce = from_posts (image f e)
    (λ p. Where (is_expression p) (Reads f (expr post_level) then Is (mark open_bracket) then Reads e (expr expr_level) then Is (mark close_bracket)))
    (λ k le ts rest h stops. bare ts rest h.1) (λ ts rest h. bare ts rest h.1)
  where
    bare : (ts rest : List Token) → (Reads f (expr post_level) then Is (mark open_bracket) then Reads e (expr expr_level) then Is (mark close_bracket)) ts rest → Posts ts (image f e) rest
    bare ts rest (us, h, (vs, d, (ws, k, i))) =
        let inner : E 0 vs e (mark close_bracket ∷ rest) = ce.at_level 0 (omega arith) vs (mark close_bracket ∷ rest) (subst (λ xs. Reads e (expr 0) vs xs) i k) (bracket_stops rest) in
        more_posts ts f (image f e) (mark open_bracket ∷ vs) rest (cf.as_post ts (mark open_bracket ∷ vs) (subst (λ xs. Reads f (expr 9) ts xs) d h) refl)
        (inner.0, λ g n le. ap (λ o. on_found o (λ x ys. expect close_bracket ys (λ rest. posts n (parse g (level 0)) (image f x) rest))) (inner.1 g le))
