-- How the parser comes to an expression: posts, levels and parentheses.
use Rattle.std.proofs.Common.{◌≡◌, ℕ, zero, suc, ◌+◌, ◌-◌, ◌≤◌, true, false, List, [], ◌∷◌, refl, ap, subst, sym, ◌∙◌, arith, ◌⊎◌, inl, inr}
use Rattle.std.specs.Prelude.{Some}
use Rattle.std.proofs.lemmas.Bool.Decides.{nat_tests}
use Rattle.ev_syntax.specs.Marks.{open_paren, close_paren, close_bracket, close_brace, comma}
use Rattle.ev_syntax.specs.Tokens.{Token, mark}
use Rattle.ev_syntax.specs.Raw.{Raw}
use Rattle.ev_syntax.specs.Parts.{Part, expr, is_among, inside}
use Rattle.ev_syntax.specs.Grammar.{Front, Times, InParens}
use Rattle.ev_syntax.proofs.Eventually.{on_found, always, later, and_then}
use Rattle.ev_syntax.proofs.TypesRead.{begins, expect}
use Rattle.ev_syntax.proofs.WholeParser.{prim, posts, climb, parse, level, a_pred, E, Prim, Stops, goes_post, no_open, posts_stop, from_above, chain_levels}

pub close_last : (n : ℕ) (t : Token) (ts rest : List Token) → Times (suc n) t ts rest → Times n t ts (t ∷ rest)
close_last zero t ts rest (after, e, h) = e ∙ ap (λ xs. t ∷ xs) h
close_last (suc n) t ts rest (after, e, h) = (after, e, close_last n t after rest h)

-- what may follow in brackets and lists
pub closing : Stops 0 (mark close_paren ∷ [])
closing = record { operator = refl; post = refl; type = refl }

pub paren_stops : (ts : List Token) → Stops 0 (mark close_paren ∷ ts)
paren_stops ts = record { operator = refl; post = refl; type = refl }

pub bracket_stops : (ts : List Token) → Stops 0 (mark close_bracket ∷ ts)
bracket_stops ts = record { operator = refl; post = refl; type = refl }

pub brace_stops : (ts : List Token) → Stops 0 (mark close_brace ∷ ts)
brace_stops ts = record { operator = refl; post = refl; type = refl }

pub comma_stops : (ts : List Token) → Stops 0 (mark comma ∷ ts)
comma_stops ts = record { operator = refl; post = refl; type = refl }

-- the first post, and how the posts after it come to the whole
abbrev pub PostReaches : Raw → List Token → Raw → List Token → Type 0
PostReaches a ts b rest = (j f : ℕ) × ((g n : ℕ) → f ≤ g → posts (j + n) (parse g (level 0)) a ts ≡ posts n (parse g (level 0)) b rest)

abbrev pub Posts : List Token → Raw → List Token → Type 0
Posts ts raw rest = (a : Raw) × (mid : List Token) × Prim ts a mid × PostReaches a mid raw rest

pub alone_posts : (ts : List Token) (raw : Raw) (rest : List Token) → Prim ts raw rest → Posts ts raw rest
alone_posts ts raw rest p =
    (raw, rest, p, (0, 0, λ g n le. let e : 0 + n ≡ n = omega arith in ap (λ i. posts i (parse g (level 0)) raw rest) e))

-- one post more, where one turn of the loop takes it
pub more_posts : (ts : List Token) (a b : Raw) (mid rest : List Token) → Posts ts a mid
    → ((f : ℕ) × ((g n : ℕ) → f ≤ g → posts (suc n) (parse g (level 0)) a mid ≡ posts n (parse g (level 0)) b rest)) → Posts ts b rest
more_posts ts a b mid rest (c, us, p, (j, f, r)) (h, q) = (
  c,
  us,
  p,
  (
    j + 1,
    f + h,
    λ g n le.
        let e : (j + 1) + n ≡ j + suc n = omega arith in
        ap (λ i. posts i (parse g (level 0)) c us) e ∙ r g (suc n) (omega arith) ∙ q g n (omega arith),
  ),
)

pub whole_post : (ts : List Token) (raw : Raw) (rest : List Token) → Posts ts raw rest → goes_post rest ≡ false → E 9 ts raw rest
whole_post ts raw rest (a, mid, p, (j, f, r)) stops =
    later (λ g. parse g (level 9) ts) (λ g. on_found (prim g (parse g (level 0)) (parse g a_pred) ts) (posts g (parse g (level 0)))) (raw, rest) (λ g. refl)
    (and_then (λ g. prim g (parse g (level 0)) (parse g a_pred) ts) (λ g. posts g (parse g (level 0))) a mid (raw, rest) p (
      j + f,
      λ g le. let e : j + (g - j) ≡ g = omega arith in
          sym (ap (λ i. posts i (parse g (level 0)) a mid) e) ∙ r g (g - j) (omega arith) ∙ posts_stop (g - j) (parse g (level 0)) raw rest stops,
    ))

-- an expression in parentheses
pub paren_prim : (ts : List Token) (raw : Raw) (rest : List Token) → E 0 ts raw (mark close_paren ∷ rest) → Prim (mark open_paren ∷ ts) raw rest
paren_prim ts raw rest p =
    and_then (λ g. parse g (level 0) ts) (λ g e vs. expect close_paren vs (λ rest. Some (e, rest))) raw (mark close_paren ∷ rest) (raw, rest) p (always _ _ (λ g. refl))

pub prim_at : (raw : Raw) (rest ts us : List Token) → ts ≡ us → Prim us raw rest → Prim ts raw rest
prim_at raw rest ts us e p = subst (λ xs. Prim xs raw rest) (sym e) p

pub parens_prim : (raw : Raw) (n : ℕ) (ts mid to rest : List Token) → Times (suc n) (mark open_paren) ts mid → E 0 mid raw to
    → Times (suc n) (mark close_paren) to rest → Prim ts raw rest
parens_prim raw zero ts mid to rest (a, e, h) p (b, d, i) =
    prim_at raw rest ts (mark open_paren ∷ mid) (e ∙ ap (λ xs. mark open_paren ∷ xs) h)
    (paren_prim mid raw rest (subst (λ xs. E 0 mid raw xs) (d ∙ ap (λ xs. mark close_paren ∷ xs) i) p))
parens_prim raw (suc n) ts mid to rest (a, e, h) p closes =
    let inner : Prim a raw (mark close_paren ∷ rest) = parens_prim raw n a mid to (mark close_paren ∷ rest) h p (close_last (suc n) (mark close_paren) to rest closes) in
    prim_at raw rest ts (mark open_paren ∷ a) e
    (paren_prim a raw rest (from_above 0 9 a raw (mark close_paren ∷ rest) (omega arith) (omega arith)
    (whole_post a raw (mark close_paren ∷ rest) (alone_posts a raw (mark close_paren ∷ rest) inner) refl) (paren_stops rest)))

pub closing_stops : (n : ℕ) (to rest : List Token) → Times (suc n) (mark close_paren) to rest → Stops 0 to
closing_stops n to rest (b, e, h) = subst (λ xs. Stops 0 xs) (sym e) (paren_stops b)

-- the chains of one level
abbrev pub Reaches : ℕ → Raw → List Token → Raw → List Token → Type 0
Reaches k a ts b rest =
    (j f : ℕ) × ((g n : ℕ) → f ≤ g → climb (j + n) (parse g (level (suc k))) k a ts ≡ climb n (parse g (level (suc k))) k b rest)

abbrev pub Chained : ℕ → List Token → Raw → List Token → Type 0
Chained k ts raw rest = (a : Raw) × (mid : List Token) × E (suc k) ts a mid × Reaches k a mid raw rest

pub alone_chained : (k : ℕ) (ts : List Token) (raw : Raw) (rest : List Token) → E (suc k) ts raw rest → Chained k ts raw rest
alone_chained k ts raw rest p =
    (raw, rest, p, (0, 0, λ g n le. let e : 0 + n ≡ n = omega arith in ap (λ i. climb i (parse g (level (suc k))) k raw rest) e))

pub record Complete (raw : Raw) (reads : Part → Front) : Type 0 where
  pub at_level : (k : ℕ) → k ≤ 9 → (ts rest : List Token) → reads (expr k) ts rest → Stops k rest → E k ts raw rest
  pub spine : (k : ℕ) → is_among chain_levels k ≡ true → (ts rest : List Token) → reads (expr k) ts rest → Stops (suc k) rest → Chained k ts raw rest
  pub as_post : (ts rest : List Token) → reads (expr 9) ts rest → begins open_paren rest ≡ false → Posts ts raw rest
  pub as_function : (ts rest : List Token) → reads (expr 10) ts rest → Posts ts raw rest

pub low_chain : (k : ℕ) → is_among chain_levels k ≡ true → k ≤ 6
low_chain k h = grind (arith, nat_tests)

pub in_part : (raw : Raw) (alone : Part → Front) → ((ts rest : List Token) → alone (expr 0) ts rest → Stops 0 rest → E 0 ts raw rest)
    → (k : ℕ) (ts rest : List Token) → InParens inside alone (expr k) ts rest → alone (expr k) ts rest ⊎ Prim ts raw rest
in_part raw alone whole k ts rest (inl h) = inl h
in_part raw alone whole k ts rest (inr (n, (mid, opens, (to, inner, closes)))) =
    inr (parens_prim raw n ts mid to rest opens (whole mid to inner (closing_stops n to rest closes)) closes)

pub or_else : {A B C : Type 0} → (A → C) → (B → C) → A ⊎ B → C
or_else f g (inl a) = f a
or_else f g (inr b) = g b

-- from what a form gives alone, at a level and above it
module _ (raw : Raw) (alone : Part → Front)
    (tree : (k : ℕ) → k ≤ 9 → (ts rest : List Token) → alone (expr k) ts rest → Stops k rest → E k ts raw rest)
    (chain : (k : ℕ) → is_among chain_levels k ≡ true → (ts rest : List Token) → alone (expr k) ts rest → Stops (suc k) rest → Chained k ts raw rest)
    (post : (ts rest : List Token) → alone (expr 9) ts rest → begins open_paren rest ≡ false → Posts ts raw rest)
    (function : (ts rest : List Token) → alone (expr 10) ts rest → Posts ts raw rest)
  where
    pub part : (k : ℕ) (ts rest : List Token) → InParens inside alone (expr k) ts rest → alone (expr k) ts rest ⊎ Prim ts raw rest
    part k ts rest h = in_part raw alone (λ us vs i s. tree 0 (omega arith) us vs i s) k ts rest h

    pub prim_level : (k : ℕ) → k ≤ 9 → (ts rest : List Token) → Prim ts raw rest → Stops k rest → E k ts raw rest
    prim_level k le ts rest p s = from_above k 9 ts raw rest le (omega arith) (whole_post ts raw rest (alone_posts ts raw rest p) s.post) s

    pub from_parts : Complete raw (InParens inside alone)
    from_parts = record {
      at_level = λ k le ts rest h s. or_else (λ bare. tree k le ts rest bare s) (λ p. prim_level k le ts rest p s) (part k ts rest h);
      spine = λ k c ts rest h s. let low : suc k ≤ 9 = omega (arith, low_chain k c) in
          or_else (λ bare. chain k c ts rest bare s) (λ p. alone_chained k ts raw rest (prim_level (suc k) low ts rest p s)) (part k ts rest h);
      as_post = λ ts rest h stops. or_else (λ bare. post ts rest bare stops) (λ p. alone_posts ts raw rest p) (part 9 ts rest h);
      as_function = λ ts rest h. or_else (λ bare. function ts rest bare) (λ p. alone_posts ts raw rest p) (part 10 ts rest h);
    }

-- a form that is a post at each level
pub from_posts : (raw : Raw) (alone : Part → Front)
    → ((k : ℕ) → k ≤ 9 → (ts rest : List Token) → alone (expr k) ts rest → begins open_paren rest ≡ false → Posts ts raw rest)
    → ((ts rest : List Token) → alone (expr 10) ts rest → Posts ts raw rest) → Complete raw (InParens inside alone)
from_posts raw alone post function = from_parts raw alone tree chain (λ ts rest h stops. post 9 (omega arith) ts rest h stops) function
  where
    tree : (k : ℕ) → k ≤ 9 → (ts rest : List Token) → alone (expr k) ts rest → Stops k rest → E k ts raw rest
    tree k le ts rest h s = from_above k 9 ts raw rest le (omega arith) (whole_post ts raw rest (post k le ts rest h (no_open rest s.post)) s.post) s

    chain : (k : ℕ) → is_among chain_levels k ≡ true → (ts rest : List Token) → alone (expr k) ts rest → Stops (suc k) rest → Chained k ts raw rest
    chain k c ts rest h s = let low : k ≤ 6 = low_chain k c in
        alone_chained k ts raw rest (from_above (suc k) 9 ts raw rest (omega arith) (omega arith) (whole_post ts raw rest (post k (omega arith) ts rest h (no_open rest s.post)) s.post) s)
