-- What begins an expression.
use Rattle.std.proofs.Common.{◌≡◌, ℕ, zero, suc, ◌+◌, ◌-◌, ◌<◌, ◌≤◌, ◌^◌, Bool, true, false, List, [], ◌∷◌, ◌++◌, refl, ap, subst, sym, ◌∙◌, arith, append-nil, append_assoc}
use Rattle.std.specs.Prelude.{Option, Some, None, ◌==◌, ◌&&◌, ◌||◌, ◌⊎◌, nat_lt, if◌then◌else◌}
use Rattle.std.proofs.Common.{inl, inr}
use Rattle.std.proofs.lemmas.Bool.Decides.{nat_tests}
use Rattle.ev_syntax.specs.Marks.{minus_sign, param_sign, type_word, open_paren, close_paren, open_brace, bool_word, lambda_sign, union_over_word, inter_over_word, dot}
use Rattle.ev_syntax.specs.Tokens.{Token, name, number, mark}
use Rattle.ev_syntax.specs.Raw.{RawType, Raw, Raws, Binder, Pattern, word, param, type_set, call, collected, lambda, none, one}
use Rattle.ev_syntax.specs.Parts.{is_among}
use Rattle.ev_syntax.specs.inner.TokenAt.{small_number}
use Rattle.ev_syntax.specs.inner.Finding.{Found, on_found, Comes}
use Rattle.ev_syntax.specs.inner.TypeParser.{begins, expect, parse_type, a_type}
use Rattle.ev_syntax.specs.inner.BinderParser.{parse_binders}
use Rattle.ev_syntax.specs.inner.PatternParser.{parse_pattern, a_pattern}
use Rattle.ev_syntax.specs.inner.FormulaParser.{level, a_pred, parse, begins_special, words, calls, collects}
use Rattle.ev_syntax.specs.inner.Resuming.{Behind, Reach, FromCall}
use Rattle.ev_parse.specs.inner.Frames.{level_at, prim_at, post_behind, level_behind, levels, between, tail, around_behind, minus_behind, body_behind, collecting, ended, lambda_body_behind, args_behind, more_items}
use Rattle.ev_syntax.proofs.WholeParser.{below}
use Rattle.ev_syntax.proofs.TypeMoves.{expect_no}
use Rattle.ev_syntax.proofs.Resumes.{at_once, below as below_work, call_inside, soon_inside, later_inside, nothing_inside, comes_after, comes_bind}

-- nothing of its own begins at the levels from one on below another
abbrev pub Plain : ℕ → ℕ → List Token → Type 0
Plain k j ts = (i : ℕ) → k ≤ i → i < j → ((i == 7 && begins minus_sign ts) ≡ false) × ((i == 0 && begins_special ts) ≡ false)

module _ (whole : ℕ → Option (Found Raw)) where
  next : (bs : List (Behind Raw)) (k : ℕ) (ts : List Token) → k < 9 → ((k == 7 && begins minus_sign ts) ≡ false) × ((k == 0 && begins_special ts) ≡ false) → FromCall whole bs (level_at k ts)
      → FromCall whole (bs ++ level_behind k ∷ []) (level_at (suc k) ts)
  next bs k ts low p h x c = subst (λ xs. Reach whole (xs ++ level_behind k ∷ []) x) (append-nil bs)
      (subst (λ xs. Reach whole xs x) (sym (append_assoc bs [] (level_behind k ∷ [])))
      (later_inside whole bs [] (level_behind k) (level_at k ts) (level_at (suc k) ts) (subst (λ xs. FromCall whole xs (level_at k ts)) (sym (append-nil bs)) h)
      (λ g. rw (below k low, p.0, p.1) refl) x c))

  pub to_level : (d k : ℕ) (bs : List (Behind Raw)) (ts : List Token) → d + k ≤ 9 → Plain k (d + k) ts → FromCall whole bs (level_at k ts) → FromCall whole (bs ++ levels k d) (level_at (d + k) ts)
  to_level zero k bs ts le p h = let same : k ≡ 0 + k = omega arith in
      subst (λ i. FromCall whole (bs ++ []) (level_at i ts)) same (subst (λ xs. FromCall whole xs (level_at k ts)) (sym (append-nil bs)) h)
  to_level (suc d) k bs ts le p h = let same : d + suc k ≡ suc d + k = omega arith in
      subst (λ i. FromCall whole (bs ++ (level_behind k ∷ levels (suc k) d)) (level_at i ts)) same
      (subst (λ xs. FromCall whole xs (level_at (d + suc k) ts)) (append_assoc bs (level_behind k ∷ []) (levels (suc k) d))
      (to_level d (suc k) (bs ++ level_behind k ∷ []) ts (omega arith) (λ i low high. p i (omega arith) (omega arith))
      (next bs k ts (omega arith) (p k (omega arith) (omega arith)) h)))

  pub to_between : (k j : ℕ) (bs : List (Behind Raw)) (ts : List Token) → k ≤ j → j ≤ 9 → Plain k j ts → FromCall whole bs (level_at k ts) → FromCall whole (bs ++ between k j) (level_at j ts)
  to_between k j bs ts le top p h = let same : (j - k) + k ≡ j = omega arith in
      subst (λ i. FromCall whole (bs ++ levels k (j - k)) (level_at i ts)) same (to_level (j - k) k bs ts (omega arith) (λ i low high. p i low (omega arith)) h)

  pub to_primary : (k : ℕ) (bs : List (Behind Raw)) (ts : List Token) → k ≤ 9 → Plain k 9 ts → FromCall whole bs (level_at k ts) → FromCall whole (bs ++ tail k) (prim_at ts)
  to_primary k bs ts le p h = later_inside whole bs (between k 9) post_behind (level_at 9 ts) (prim_at ts) (to_between k 9 bs ts le (omega arith) p h) (λ g. refl)

-- tokens that begin nothing of a level's own
pub plain_name : (k j : ℕ) (n : List ℕ) (ts us : List Token) → ts ≡ name n ∷ us → Plain k j ts
plain_name k j n ts us e = subst (Plain k j) (sym e) (λ i low high. (and_false (i == 7), and_false (i == 0)))
  where
    and_false : (b : Bool) → b && false ≡ false
    and_false true = refl
    and_false false = refl

pub plain_number : (k j n : ℕ) (ts us : List Token) → ts ≡ number n ∷ us → Plain k j ts
plain_number k j n ts us e = subst (Plain k j) (sym e) (λ i low high. (and_false (i == 7), and_false (i == 0)))
  where
    and_false : (b : Bool) → b && false ≡ false
    and_false true = refl
    and_false false = refl

pub plain_end : (k j : ℕ) (ts : List Token) → ts ≡ [] → Plain k j ts
plain_end k j ts e = subst (Plain k j) (sym e) (λ i low high. (and_false (i == 7), and_false (i == 0)))
  where
    and_false : (b : Bool) → b && false ≡ false
    and_false true = refl
    and_false false = refl

-- a mark that begins something of its own only at levels outside
pub plain_mark : (k j m : ℕ) (ts us : List Token) → ts ≡ mark m ∷ us → ((m == minus_sign) ≡ false) ⊎ (7 < k) ⊎ (j ≤ 7)
    → ((m == lambda_sign || (m == union_over_word || m == inter_over_word)) ≡ false) ⊎ (0 < k) → Plain k j ts
plain_mark k j m ts us e a b = subst (Plain k j) (sym e) (λ i low high. (minus a i low high, other b i low))
  where
    false_of : (b c : Bool) → c ≡ false → b && c ≡ false
    false_of true c e = e
    false_of false c e = refl

    apart : (i n : ℕ) → (i ≡ n → ⊥) → (i == n) ≡ false
    apart i n h = grind (arith, nat_tests)

    minus : ((m == minus_sign) ≡ false) ⊎ (7 < k) ⊎ (j ≤ 7) → (i : ℕ) → k ≤ i → i < j → (i == 7 && (m == minus_sign)) ≡ false
    minus (inl h) i low high = false_of (i == 7) (m == minus_sign) h
    minus (inr (inl h)) i low high = ap (λ c. c && (m == minus_sign)) (apart i 7 (λ d. omega arith))
    minus (inr (inr h)) i low high = ap (λ c. c && (m == minus_sign)) (apart i 7 (λ d. omega arith))

    other : ((m == lambda_sign || (m == union_over_word || m == inter_over_word)) ≡ false) ⊎ (0 < k) → (i : ℕ) → k ≤ i → (i == 0 && begins_special (mark m ∷ us)) ≡ false
    other (inl h) i low = false_of (i == 0) _ h
    other (inr h) i low = ap (λ c. c && begins_special (mark m ∷ us)) (apart i 0 (λ d. omega arith))

abbrev one_before : Raw → Option (Found Raws) → Option (Found Raws)
one_before e x = on_found x (λ es vs. Some (one e es, vs))

pub not_special : (m : ℕ) → (m == lambda_sign) ≡ false → (m == union_over_word) ≡ false → (m == inter_over_word) ≡ false → (m == lambda_sign || (m == union_over_word || m == inter_over_word)) ≡ false
not_special m a b c = rw (a, b, c)

-- what stands behind the first item of a list
pub flatten : (o : Option (Found Raw)) (rest : List Token → Option (Found Raws)) (go : Raws → List Token → Option (Found Raw))
    → on_found (on_found o (λ e us. one_before e (rest us))) go ≡ on_found o (λ e us. on_found (rest us) (λ es vs. go (one e es) vs))
flatten None rest go = refl
flatten (Some (e, us)) rest go = inner (rest us)
  where
    inner : (x : Option (Found Raws)) → on_found (one_before e x) go ≡ on_found x (λ es vs. go (one e es) vs)
    inner None = refl
    inner (Some x) = refl

pub args_part : (n : List ℕ) (us : List Token) (g : ℕ) → prim_at (name n ∷ mark open_paren ∷ us) g ≡ on_found (parse g (level 0) us) (args_behind n [] g g)
args_part n us g = flatten (parse g (level 0) us) (more_items g g) (λ es vs. expect close_paren vs (λ rest. Some (call n es, rest)))

pub name_part : (n : List ℕ) (us : List Token) (g : ℕ) → begins open_paren us ≡ false → prim_at (name n ∷ us) g ≡ Some (call n none, us)
name_part n us g h = rw h

pub word_part : (m : ℕ) (us : List Token) (g : ℕ) → is_among words m ≡ true → prim_at (mark m ∷ us) g ≡ Some (word m, us)
word_part m us g h = rw h

abbrev param_if : Bool → ℕ → List Token → Option (Found Raw)
param_if b n us = if b then Some (param n, us) else None

abbrev number_if : Bool → ℕ → Option ℕ
number_if b n = if b then Some n else None

param_some : (b : Bool) (n i : ℕ) (us : List Token) → number_if b n ≡ Some i → param_if b n us ≡ Some (param i, us)
param_some true n i us e = let same : n ≡ i = cc in ap (λ k. Some (param k, us)) same
param_some false n i us e = cc

param_none : (b : Bool) (n : ℕ) (us : List Token) → number_if b n ≡ None → param_if b n us ≡ None
param_none true n us e = cc
param_none false n us e = refl

pub param_part : (i : ℕ) (us rest : List Token) (g : ℕ) → us ≡ number i ∷ rest → small_number us ≡ Some i → prim_at (mark param_sign ∷ us) g ≡ Some (param i, rest)
param_part i us rest g e d = ap (λ xs. prim_at (mark param_sign ∷ xs) g) e ∙ param_some (nat_lt i (2 ^ 32)) i i rest (ap small_number (sym e) ∙ d)

pub no_param : (us : List Token) (g : ℕ) → small_number us ≡ None → prim_at (mark param_sign ∷ us) g ≡ None
no_param [] g e = refl
no_param (name n ∷ us) g e = refl
no_param (mark m ∷ us) g e = refl
no_param (number n ∷ us) g e = param_none (nat_lt n (2 ^ 32)) n us e

pub around_part : (m : ℕ) (vs : List Token) (g : ℕ) → is_among words m ≡ false → (m == param_sign) ≡ false → (m == type_word) ≡ false → is_among calls m ≡ true
    → prim_at (mark m ∷ mark open_paren ∷ vs) g ≡ on_found (parse g (level 0) vs) (around_behind m g g)
around_part m vs g a b c d = rw (a, b, c, d) refl

pub no_around : (m : ℕ) (us : List Token) (g : ℕ) → is_among words m ≡ false → (m == param_sign) ≡ false → (m == type_word) ≡ false → is_among calls m ≡ true → begins open_paren us ≡ false
    → prim_at (mark m ∷ us) g ≡ None
no_around m us g a b c d h = rw (a, b, c, d) (expect_no open_paren us _ h)

pub no_bool : (us : List Token) (g : ℕ) → begins open_paren us ≡ false → prim_at (mark bool_word ∷ us) g ≡ None
no_bool us g h = expect_no open_paren us _ h

pub no_type_set : (us : List Token) (g : ℕ) → begins open_paren us ≡ false → prim_at (mark type_word ∷ us) g ≡ None
no_type_set us g h = expect_no open_paren us _ h

pub no_primary : (m : ℕ) (us : List Token) (g : ℕ) → is_among words m ≡ false → (m == param_sign) ≡ false → (m == type_word) ≡ false → is_among calls m ≡ false → (m == open_paren) ≡ false
    → (m == open_brace) ≡ false → (m == bool_word) ≡ false → prim_at (mark m ∷ us) g ≡ None
no_primary m us g a b c d e f h = rw (a, b, c, d, e, f, h)

-- with what begins a form
module _ (whole : ℕ → Option (Found Raw)) (bs cs : List (Behind Raw)) where
  abbrev pub Below : Option (Found Raw) → Type 0
  Below o = Reach whole (bs ++ cs) o

  pub part_found : (ts us : List Token) (o : Option (Found Raw)) → ts ≡ us → FromCall whole (bs ++ cs) (prim_at ts) → ((g : ℕ) → prim_at us g ≡ o) → Below o
  part_found ts us o e h d = at_once whole (bs ++ cs) (prim_at ts) o h (subst (λ xs. (g : ℕ) → prim_at xs g ≡ o) (sym e) d)

  pub part_none : (ts us : List Token) → ts ≡ us → FromCall whole (bs ++ cs) (prim_at ts) → ((g : ℕ) → prim_at us g ≡ None) → Reach whole bs None
  part_none ts us e h d = nothing_inside whole bs cs (part_found ts us None e h d)

  pub part_inner : (b : Behind Raw) (inner : ℕ → Option (Found Raw)) (ts us : List Token) → ts ≡ us → FromCall whole (bs ++ cs) (prim_at ts) → ((g : ℕ) → prim_at us g ≡ on_found (inner g) (b g g))
      → FromCall whole (bs ++ (cs ++ b ∷ [])) inner
  part_inner b inner ts us e h d = call_inside whole bs cs b (prim_at ts) inner h (subst (λ xs. (g : ℕ) → prim_at xs g ≡ on_found (inner g) (b g g)) (sym e) d)

  pub type_part : (ts vs : List Token) (x : Option (Found RawType)) → ts ≡ mark type_word ∷ mark open_paren ∷ vs → FromCall whole (bs ++ cs) (prim_at ts) → Comes (λ g. parse_type g a_type vs) x
      → Below (on_found x (λ a us. expect close_paren us (λ rest. Some (type_set a, rest))))
  type_part ts vs x e h c = h _ (subst (λ xs. Comes (prim_at xs) (on_found x (λ a us. expect close_paren us (λ rest. Some (type_set a, rest))))) (sym e)
      (c.0, λ g le. ap (λ o. on_found o (λ a us. expect close_paren us (λ rest. Some (type_set a, rest)))) (c.1 g le)))

  -- bound names, then a dot
  pub no_binders : (m : ℕ) (ts : List Token) → FromCall whole (bs ++ cs) (collecting m ts) → Comes (λ g. parse_binders g ts) None → Reach whole bs None
  no_binders m ts h c = nothing_inside whole bs cs (h None (c.0, λ g le. ap (λ o. on_found o (λ xs us. expect dot us (λ vs. collects (parse g (level 0)) (parse g a_pred) (λ p e ws. ended m ws (collected m xs p e)) vs))) (c.1 g le)))

  pub no_dot : (m : ℕ) (ts us : List Token) (xs : List Binder) → FromCall whole (bs ++ cs) (collecting m ts) → Comes (λ g. parse_binders g ts) (Some (xs, us)) → begins dot us ≡ false → Reach whole bs None
  no_dot m ts us xs h c d = nothing_inside whole bs cs (h None (
    c.0,
    λ g le.
        ap (λ o. on_found o (λ xs us. expect dot us (λ vs. collects (parse g (level 0)) (parse g a_pred) (λ p e ws. ended m ws (collected m xs p e)) vs))) (c.1 g le) ∙ expect_no dot us _ d,
  ))

  pub body_part : (m : ℕ) (ts us vs : List Token) (xs : List Binder) → FromCall whole (bs ++ cs) (collecting m ts) → Comes (λ g. parse_binders g ts) (Some (xs, us)) → us ≡ mark dot ∷ vs
      → FromCall whole (bs ++ (cs ++ body_behind m xs ∷ [])) (λ g. parse g a_pred vs)
  body_part m ts us vs xs h c d = soon_inside whole bs cs (body_behind m xs) (collecting m ts) (λ g. parse g a_pred vs) c.0 h (λ g le.
      ap (λ o. on_found o (λ xs us. expect dot us (λ vs. collects (parse g (level 0)) (parse g a_pred) (λ p e ws. ended m ws (collected m xs p e)) vs))) (c.1 g le)
      ∙ ap (λ ys. expect dot ys (λ vs. collects (parse g (level 0)) (parse g a_pred) (λ p e ws. ended m ws (collected m xs p e)) vs)) d)

module _ (whole : ℕ → Option (Found Raw)) (bs : List (Behind Raw)) where
  bare : (part : ℕ → Option (Found Raw)) → FromCall whole bs part → FromCall whole (bs ++ []) part
  bare part h = subst (λ xs. FromCall whole xs part) (sym (append-nil bs)) h

  -- function abstractions
  abbrev lambda_rest : ℕ → Option (Found Pattern) → Option (Found Raw)
  lambda_rest g o = on_found o (λ x vs. expect dot vs (λ ws. collects (parse g (level 0)) (parse g a_pred) (λ p e rest. Some (lambda x p e, rest)) ws))

  lambda_at : (us : List Token) (g : ℕ) → parse (suc g) (level 0) (mark lambda_sign ∷ us) ≡ lambda_rest g (parse_pattern g a_pattern us)
  lambda_at us g = refl

  pub no_pattern : (ts us : List Token) → ts ≡ mark lambda_sign ∷ us → FromCall whole bs (level_at 0 ts) → Comes (λ g. parse_pattern g a_pattern us) None → Reach whole bs None
  no_pattern ts us e h c = h None (subst (λ xs. Comes (level_at 0 xs) None) (sym e)
      (comes_after (level_at 0 (mark lambda_sign ∷ us)) (λ g. lambda_rest g (parse_pattern g a_pattern us)) None (λ g. lambda_at us g) (c.0, λ g le. ap (lambda_rest g) (c.1 g le))))

  pub no_lambda_dot : (ts us vs : List Token) (x : Pattern) → ts ≡ mark lambda_sign ∷ us → FromCall whole bs (level_at 0 ts) → Comes (λ g. parse_pattern g a_pattern us) (Some (x, vs)) → begins dot vs ≡ false
      → Reach whole bs None
  no_lambda_dot ts us vs x e h c d = h None (subst (λ xs. Comes (level_at 0 xs) None) (sym e)
      (comes_after (level_at 0 (mark lambda_sign ∷ us)) (λ g. lambda_rest g (parse_pattern g a_pattern us)) None (λ g. lambda_at us g)
      (c.0, λ g le. ap (lambda_rest g) (c.1 g le) ∙ expect_no dot vs _ d)))

  pub lambda_part : (ts us vs ws : List Token) (x : Pattern) → ts ≡ mark lambda_sign ∷ us → FromCall whole bs (level_at 0 ts) → Comes (λ g. parse_pattern g a_pattern us) (Some (x, vs)) → vs ≡ mark dot ∷ ws
      → FromCall whole (bs ++ lambda_body_behind x ∷ []) (λ g. parse g a_pred ws)
  lambda_part ts us vs ws x e h c d y k = below_work whole bs (lambda_body_behind x) y (λ z s. let t = comes_bind (λ g. parse g a_pred ws) (lambda_body_behind x) y z k s in
      h z (subst (λ xs. Comes (level_at 0 xs) z) (sym e)
      (comes_after (level_at 0 (mark lambda_sign ∷ us)) (λ g. lambda_rest g (parse_pattern g a_pattern us)) z (λ g. lambda_at us g)
      (c.0 + t.0, λ g le. ap (lambda_rest g) (c.1 g (omega arith)) ∙ ap (λ ys. lambda_rest g (Some (x, ys))) d ∙ t.1 g (omega arith)))))

  -- unions and intersections
  pub over_part : (m : ℕ) (ts us : List Token) → ts ≡ mark m ∷ us → ((g : ℕ) → parse (suc g) (level 0) (mark m ∷ us) ≡ collecting m us g) → FromCall whole bs (level_at 0 ts) → FromCall whole (bs ++ []) (collecting m us)
  over_part m ts us e d h = bare (collecting m us) (λ x c. h x (subst (λ xs. Comes (level_at 0 xs) x) (sym e) (comes_after (level_at 0 (mark m ∷ us)) (collecting m us) x d c)))

  -- unary minus
  pub minus_part : (k : ℕ) (ts us : List Token) → k ≤ 7 → ts ≡ mark minus_sign ∷ us → FromCall whole bs (level_at k ts) → FromCall whole (bs ++ (between k 7 ++ minus_behind ∷ [])) (level_at 8 us)
  minus_part k ts us le e h = later_inside whole bs (between k 7) minus_behind (level_at 7 ts) (level_at 8 us)
      (to_between whole k 7 bs ts le (omega arith) (plain_mark k 7 minus_sign ts us e (inr (inr (omega arith))) (inl refl)) h)
      (λ g. ap (λ xs. parse (suc g) (level 7) xs) e)

  pub no_minus_part : (k : ℕ) (ts us : List Token) → k ≤ 9 → 7 < k → ts ≡ mark minus_sign ∷ us → FromCall whole bs (level_at k ts) → Reach whole bs None
  no_minus_part k ts us le lt e h = part_none whole bs (tail k) ts (mark minus_sign ∷ us) e (to_primary whole k bs ts le (plain_mark k 9 minus_sign ts us e (inr (inl lt)) (inl refl)) h) (λ g. refl)
