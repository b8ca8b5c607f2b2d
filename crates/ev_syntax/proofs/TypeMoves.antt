-- The steps of the reader of types.
use Rattle.std.proofs.Common.{◌≡◌, ℕ, zero, suc, ◌+◌, ◌^◌, Bool, true, false, List, [], ◌∷◌, ◌++◌, drop, refl, ap, subst, sym, ◌∙◌, arith, append-nil, append_assoc}
use Rattle.std.specs.Prelude.{Option, Some, None, ◌==◌, nat_lt, if◌then◌else◌}
use Rattle.std.proofs.lemmas.Bool.{eqb-true, eq-eqb}
use Rattle.ev_syntax.specs.Marks.{int_word, bool_set_word, param_sign, pow_word, open_paren, close_paren, comma, product_sign}
use Rattle.ev_syntax.specs.Tokens.{Token, name, number, mark}
use Rattle.ev_syntax.specs.inner.TokenAt.{small_number}
use Rattle.ev_syntax.specs.Raw.{RawType, RawTypes, param_type, named_type, pow_type, prod_type, no_types, one_type}
use Rattle.ev_syntax.specs.inner.TypeView.{raw_types}
use Rattle.ev_syntax.specs.inner.Finding.{Found, on_found, Comes}
use Rattle.ev_syntax.specs.inner.TypeParser.{begins, expect, an_atom, a_type, more_factors, more_types, parse_type}
use Rattle.ev_syntax.specs.inner.Resuming.{Settles, Behind, Reach, FromCall}
use Rattle.ev_syntax.specs.inner.TypeFrames.{type_at, atom_at, factors, type_tail, closed_type, closed_pow, factor_behind, onto, types_behind}
use Rattle.ev_syntax.specs.declared.type_states.TypeGoal.{TypeGoal}
use Rattle.ev_syntax.specs.declared.type_states.TypeGoal.TheVariants.{Atom as AnAtom, Whole as AType}
use Rattle.ev_syntax.proofs.Resumes.{settles_always, settles_turn, comes_after, comes_bind, settles_bind, below, done, done_at_once, goes_as, call_push, work_push, at_once}

-- places
pub next_place : (ts : List Token) (at : ℕ) (t : Token) (us : List Token) → drop at ts ≡ t ∷ us → drop (at + 1) ts ≡ us
next_place [] zero t us e = cc
next_place [] (suc at) t us e = cc
next_place (x ∷ ts) zero t us e = let same : ts ≡ us = cc in same
next_place (x ∷ ts) (suc at) t us e = let n : suc at + 1 ≡ suc (at + 1) = omega arith in ap (λ k. drop k (x ∷ ts)) n ∙ next_place ts at t us e

pub begins_is : (m : ℕ) (ts : List Token) → begins m ts ≡ true → (us : List Token) × (ts ≡ mark m ∷ us)
begins_is m [] h = cc
begins_is m (name n ∷ ts) h = cc
begins_is m (number n ∷ ts) h = cc
begins_is m (mark k ∷ ts) h = (ts, ap (λ i. mark i ∷ ts) (eqb-true k m h))

-- a mark at a place, and what comes behind it
pub begins_at : (m : ℕ) (ts : List Token) (at : ℕ) → begins m (drop at ts) ≡ true → drop at ts ≡ mark m ∷ drop (at + 1) ts
begins_at m ts at h = let b = begins_is m (drop at ts) h in b.1 ∙ ap (λ us. mark m ∷ us) (sym (next_place ts at (mark m) b.0 b.1))

pub expect_no : {A : Type 0} (m : ℕ) (ts : List Token) (go : List Token → Option A) → begins m ts ≡ false → expect m ts go ≡ None
expect_no m [] go h = refl
expect_no m (name n ∷ ts) go h = refl
expect_no m (number n ∷ ts) go h = refl
expect_no m (mark k ∷ ts) go h = rw h

module _ (whole : ℕ → Option (Found RawType)) (bs : List (Behind RawType)) where
  -- to read a type is to read an atom, and then to go on
  pub to_atom : (goal : TypeGoal) (ts : List Token) → FromCall whole bs (type_at goal ts) → FromCall whole (bs ++ type_tail goal) (atom_at ts)
  to_atom AnAtom ts h x c = subst (λ xs. Reach whole xs x) (sym (append-nil bs)) (h x (comes_after (λ g. parse_type g an_atom ts) (atom_at ts) x (λ g. refl) c))
  to_atom AType ts h x c = below whole bs factors x (λ z s.
      h z (comes_after (λ g. parse_type g a_type ts) (λ g. on_found (parse_type g an_atom ts) (more_factors g (parse_type g an_atom))) z (λ g. refl)
      (comes_bind (λ g. parse_type g an_atom ts) factors x z (comes_after (λ g. parse_type g an_atom ts) (atom_at ts) x (λ g. refl) c) s)))

  -- where no atom stands, there is no type
  pub no_atom : (goal : TypeGoal) (ts : List Token) → FromCall whole bs (type_at goal ts) → ((g : ℕ) → atom_at ts g ≡ None) → Reach whole bs None
  no_atom goal ts h e = without goal (at_once whole (bs ++ type_tail goal) (atom_at ts) None (to_atom goal ts h) e)
    where
      without : (goal : TypeGoal) → Reach whole (bs ++ type_tail goal) None → Reach whole bs None
      without AnAtom r = subst (λ xs. Reach whole xs None) (append-nil bs) r
      without AType r = done whole bs factors None None r (settles_always (λ n g. None) None (λ n g. refl))

  -- an atom that is read at once, and one that has a part
  pub leaf : (goal : TypeGoal) (ts us rest : List Token) (a : RawType) → ts ≡ us → FromCall whole bs (type_at goal ts) → ((g : ℕ) → atom_at us g ≡ Some (a, rest)) → Reach whole (bs ++ type_tail goal) (Some (a, rest))
  leaf goal ts us rest a e h d = at_once whole (bs ++ type_tail goal) (atom_at ts) (Some (a, rest)) (to_atom goal ts h) (subst (λ xs. (g : ℕ) → atom_at xs g ≡ Some (a, rest)) (sym e) d)

  pub no_leaf : (goal : TypeGoal) (ts us : List Token) → ts ≡ us → FromCall whole bs (type_at goal ts) → ((g : ℕ) → atom_at us g ≡ None) → Reach whole bs None
  no_leaf goal ts us e h d = no_atom goal ts h (subst (λ xs. (g : ℕ) → atom_at xs g ≡ None) (sym e) d)

  pub inner : (goal : TypeGoal) (b : Behind RawType) (ts us vs : List Token) → ts ≡ us → FromCall whole bs (type_at goal ts) → ((g : ℕ) → atom_at us g ≡ on_found (parse_type g a_type vs) (b g g))
      → FromCall whole (bs ++ (type_tail goal ++ b ∷ [])) (type_at AType vs)
  inner goal b ts us vs e h d = subst (λ xs. FromCall whole xs (type_at AType vs)) (append_assoc bs (type_tail goal) (b ∷ []))
      (call_push whole (bs ++ type_tail goal) b (atom_at ts) (type_at AType vs) (to_atom goal ts h) (subst (λ xs. (g : ℕ) → atom_at xs g ≡ on_found (parse_type g a_type vs) (b g g)) (sym e) d))

-- the marks that begin an atom
pub other_mark : (m : ℕ) (us : List Token) (g : ℕ) → (m == int_word) ≡ false → (m == bool_set_word) ≡ false → (m == param_sign) ≡ false → (m == pow_word) ≡ false → (m == open_paren) ≡ false
    → atom_at (mark m ∷ us) g ≡ None
other_mark m us g a b c d e = rw (a, b, c, d, e)

pub two_on : (ts : List Token) (at : ℕ) (t u : Token) → drop at ts ≡ t ∷ drop (at + 1) ts → drop (at + 1) ts ≡ u ∷ drop ((at + 1) + 1) ts → drop at ts ≡ t ∷ u ∷ drop (at + 2) ts
two_on ts at t u e d = let n : (at + 1) + 1 ≡ at + 2 = omega arith in e ∙ ap (λ xs. t ∷ xs) d ∙ ap (λ k. t ∷ u ∷ drop k ts) n

pub pow_atom : (us : List Token) (g : ℕ) → begins open_paren us ≡ false → atom_at (mark pow_word ∷ us) g ≡ None
pow_atom us g h = expect_no open_paren us _ h

pub name_atom : (n : List ℕ) (us : List Token) (g : ℕ) → begins open_paren us ≡ false → atom_at (name n ∷ us) g ≡ Some (named_type n no_types, us)
name_atom n us g h = rw h

-- numbers of parameters
abbrev chosen : Bool → Option (Found RawType) → Option (Found RawType)
chosen b x = if b then x else None

abbrev number_if : Bool → ℕ → Option ℕ
number_if b n = if b then Some n else None

chosen_some : (b : Bool) (n i : ℕ) (us : List Token) → number_if b n ≡ Some i → chosen b (Some (param_type n, us)) ≡ Some (param_type i, us)
chosen_some true n i us e = let same : n ≡ i = cc in ap (λ k. Some (param_type k, us)) same
chosen_some false n i us e = cc

chosen_number : (b : Bool) (n i : ℕ) → number_if b n ≡ Some i → n ≡ i
chosen_number true n i e = cc
chosen_number false n i e = cc

chosen_none : (b : Bool) (n : ℕ) (x : Option (Found RawType)) → number_if b n ≡ None → chosen b x ≡ None
chosen_none true n x e = cc
chosen_none false n x e = refl

pub number_is : (i : ℕ) (us : List Token) → small_number us ≡ Some i → (rest : List Token) × (us ≡ number i ∷ rest)
number_is i [] e = cc
number_is i (name n ∷ us) e = cc
number_is i (mark m ∷ us) e = cc
number_is i (number n ∷ us) e = (us, ap (λ k. number k ∷ us) (chosen_number (nat_lt n (2 ^ 32)) n i e))

pub param_found : (i : ℕ) (us rest : List Token) (g : ℕ) → us ≡ number i ∷ rest → small_number us ≡ Some i → atom_at (mark param_sign ∷ us) g ≡ Some (param_type i, rest)
param_found i us rest g e d =
    ap (λ xs. atom_at (mark param_sign ∷ xs) g) e ∙ chosen_some (nat_lt i (2 ^ 32)) i i rest (ap small_number (sym e) ∙ d)

pub no_param : (us : List Token) (g : ℕ) → small_number us ≡ None → atom_at (mark param_sign ∷ us) g ≡ None
no_param [] g e = refl
no_param (name n ∷ us) g e = refl
no_param (mark m ∷ us) g e = refl
no_param (number n ∷ us) g e = chosen_none (nat_lt n (2 ^ 32)) n (Some (param_type n, us)) e

-- types of a list
pub onto-snoc : (rs : List RawType) (r : RawType) (types : RawTypes) → onto (rs ++ r ∷ []) types ≡ onto rs (one_type r types)
onto-snoc [] r types = refl
onto-snoc (x ∷ rs) r types = ap (one_type x) (onto-snoc rs r types)

pub onto-none : (rs : List RawType) → onto rs no_types ≡ raw_types rs
onto-none [] = refl
onto-none (x ∷ rs) = ap (one_type x) (onto-none rs)

abbrev ended : List ℕ → List RawType → RawTypes → List Token → Option (Found RawType)
ended word rs types ws = expect close_paren ws (λ rest. Some (named_type word (onto rs types), rest))

one_more : (word : List ℕ) (rs : List RawType) (r : RawType) (o : Option (Found RawType)) (more : List Token → Option (Found RawTypes))
    → on_found (on_found o (λ a vs. on_found (more vs) (λ types ws. Some (one_type a types, ws)))) (λ types ws. ended word rs (one_type r types) ws)
    ≡ on_found o (λ a vs. on_found (more vs) (λ types ws. ended word (rs ++ r ∷ []) (one_type a types) ws))
one_more word rs r None more = refl
one_more word rs r (Some (a, vs)) more = go (more vs)
  where
    go : (x : Option (Found RawTypes)) → on_found (on_found x (λ types ws. Some (one_type a types, ws))) (λ types ws. ended word rs (one_type r types) ws)
        ≡ on_found x (λ types ws. ended word (rs ++ r ∷ []) (one_type a types) ws)
    go None = refl
    go (Some (types, ws)) = ap (λ ys. expect close_paren ws (λ rest. Some (named_type word ys, rest))) (sym (onto-snoc rs r (one_type a types)))

pub further_type : (word : List ℕ) (rs : List RawType) (r : RawType) (ts us : List Token) (x z : Option (Found RawType)) → ts ≡ mark comma ∷ us → Comes (λ g. parse_type g a_type us) x
    → Settles (λ n g. on_found x (types_behind word (rs ++ r ∷ []) n g)) z → Settles (λ n g. types_behind word rs n g r ts) z
further_type word rs r ts us x z e c s = subst (λ xs. Settles (λ n g. types_behind word rs n g r xs) z) (sym e)
    (settles_turn (λ n g. types_behind word rs n g r (mark comma ∷ us)) (λ n g. on_found (parse_type g a_type us) (types_behind word (rs ++ r ∷ []) n g)) z
    (λ n g. one_more word rs r (parse_type g a_type us) (more_types n (parse_type g a_type)))
    (settles_bind (λ g. parse_type g a_type us) (λ n g. types_behind word (rs ++ r ∷ []) n g) x z c s))

no_more : (n : ℕ) (read : List Token → Option (Found RawType)) (ts : List Token) → begins comma ts ≡ false → more_types n read ts ≡ Some (no_types, ts)
no_more zero read ts h = refl
no_more (suc n) read ts h = rw h

pub last_type : (word : List ℕ) (rs : List RawType) (r : RawType) (ts : List Token) (n g : ℕ) → begins comma ts ≡ false
    → types_behind word rs n g r ts ≡ expect close_paren ts (λ rest. Some (named_type word (raw_types (rs ++ r ∷ [])), rest))
last_type word rs r ts n g h =
    ap (λ o. on_found o (λ types us. ended word rs (one_type r types) us)) (no_more n (parse_type g a_type) ts h)
    ∙ ap (λ ys. expect close_paren ts (λ rest. Some (named_type word ys, rest))) (sym (onto-snoc rs r no_types) ∙ onto-none (rs ++ r ∷ []))

pub closes : {A : Type 0} (m : ℕ) (ts : List Token) (at : ℕ) (go : List Token → Option A) → begins m (drop at ts) ≡ true → expect m (drop at ts) go ≡ go (drop (at + 1) ts)
closes m ts at go h = ap (λ xs. expect m xs go) (begins_at m ts at h) ∙ rw (eq-eqb m m refl)

pub not_eq : (m k : ℕ) → (m ≡ k → ⊥) → (m == k) ≡ false
not_eq m k h = go (m == k) refl
  where
    go : (b : Bool) → (m == k) ≡ b → (m == k) ≡ false
    go true e = absurd (h (eqb-true m k e))
    go false e = e

-- what the frames do
module _ (whole : ℕ → Option (Found RawType)) (bs : List (Behind RawType)) where
  abbrev pub FoundBy : List (Behind RawType) → RawType → List Token → Type 0
  FoundBy one r ts = Reach whole (bs ++ one) (Some (r, ts))

  abbrev pub Reaches : TypeGoal → RawType → List Token → Type 0
  Reaches goal r ts = Reach whole (bs ++ type_tail goal) (Some (r, ts))

  abbrev pub Answered : TypeGoal → Option (Found RawType) → Type 0
  Answered goal x = Reach whole (bs ++ type_tail goal) x

  pub nothing : (goal : TypeGoal) → Answered goal None → Reach whole bs None
  nothing AnAtom h = subst (λ xs. Reach whole xs None) (append-nil bs) h
  nothing AType h = done whole bs factors None None h (settles_always (λ n g. None) None (λ n g. refl))

  -- the last work of a frame
  apart : (goal : TypeGoal) (b : Behind RawType) (x : Option (Found RawType)) → Reach whole (bs ++ (type_tail goal ++ b ∷ [])) x → Reach whole ((bs ++ type_tail goal) ++ b ∷ []) x
  apart goal b x h = subst (λ xs. Reach whole xs x) (sym (append_assoc bs (type_tail goal) (b ∷ []))) h

  together : (goal : TypeGoal) (b : Behind RawType) (x : Option (Found RawType)) → Reach whole ((bs ++ type_tail goal) ++ b ∷ []) x → Reach whole (bs ++ (type_tail goal ++ b ∷ [])) x
  together goal b x h = subst (λ xs. Reach whole xs x) (append_assoc bs (type_tail goal) (b ∷ [])) h

  pub paren : (goal : TypeGoal) (r : RawType) (ts : List Token) → FoundBy (type_tail goal ++ closed_type ∷ []) r ts → Answered goal (expect close_paren ts (λ rest. Some (r, rest)))
  paren goal r ts h = done_at_once whole (bs ++ type_tail goal) closed_type r ts _ (apart goal closed_type (Some (r, ts)) h) (λ n g. refl)

  pub pow : (goal : TypeGoal) (r : RawType) (ts : List Token) → FoundBy (type_tail goal ++ closed_pow ∷ []) r ts → Answered goal (expect close_paren ts (λ rest. Some (pow_type r, rest)))
  pow goal r ts h = done_at_once whole (bs ++ type_tail goal) closed_pow r ts _ (apart goal closed_pow (Some (r, ts)) h) (λ n g. refl)

  pub factor : (a r : RawType) (ts : List Token) → FoundBy (factor_behind a ∷ []) r ts → Reaches AType (prod_type a r) ts
  factor a r ts h = goes_as whole bs (factor_behind a) factors r (prod_type a r) ts ts h (λ z s. s)

  pub further : (goal : TypeGoal) (word : List ℕ) (rs : List RawType) (r : RawType) (ts us : List Token) → ts ≡ mark comma ∷ us → FoundBy (type_tail goal ++ types_behind word rs ∷ []) r ts
      → FromCall whole (bs ++ (type_tail goal ++ types_behind word (rs ++ r ∷ []) ∷ [])) (type_at AType us)
  further goal word rs r ts us e h x c = together goal (types_behind word (rs ++ r ∷ [])) x
      (work_push whole (bs ++ type_tail goal) (types_behind word rs) (types_behind word (rs ++ r ∷ [])) r ts (type_at AType us) (apart goal (types_behind word rs) (Some (r, ts)) h)
      (λ y z d s. further_type word rs r ts us y z e d s) x c)

  pub last : (goal : TypeGoal) (word : List ℕ) (rs : List RawType) (r : RawType) (ts : List Token) → begins comma ts ≡ false → FoundBy (type_tail goal ++ types_behind word rs ∷ []) r ts
      → Answered goal (expect close_paren ts (λ rest. Some (named_type word (raw_types (rs ++ r ∷ [])), rest)))
  last goal word rs r ts e h = done_at_once whole (bs ++ type_tail goal) (types_behind word rs) r ts _ (apart goal (types_behind word rs) (Some (r, ts)) h) (λ n g. last_type word rs r ts n g e)

  -- a further factor
  pub another : (r : RawType) (ts us : List Token) → ts ≡ mark product_sign ∷ us → Reaches AType r ts → FromCall whole (bs ++ factor_behind r ∷ []) (type_at AnAtom us)
  another r ts us e h = work_push whole bs factors (factor_behind r) r ts (type_at AnAtom us) h (λ x z c s.
      subst (λ xs. Settles (λ n g. factors n g r xs) z) (sym e)
      (settles_turn (λ n g. factors n g r (mark product_sign ∷ us)) (λ n g. on_found (parse_type g an_atom us) (factor_behind r n g)) z (λ n g. refl)
      (settles_bind (λ g. parse_type g an_atom us) (λ n g. factor_behind r n g) x z c s)))

  factors_end : (n : ℕ) (read : List Token → Option (Found RawType)) (a : RawType) (ts : List Token) → begins product_sign ts ≡ false → more_factors n read a ts ≡ Some (a, ts)
  factors_end zero read a ts h = refl
  factors_end (suc n) read a ts h = rw h

  pub no_other : (r : RawType) (ts : List Token) → begins product_sign ts ≡ false → Reaches AType r ts → Reach whole bs (Some (r, ts))
  no_other r ts e h = done_at_once whole bs factors r ts (Some (r, ts)) h (λ n g. factors_end n (parse_type g an_atom) r ts e)
