-- Types: a parser finds each written type, so there is one at most.
use Rattle.std.proofs.Common.{◌≡◌, ℕ, zero, suc, ◌+◌, ◌-◌, ◌≤◌, ◌<◌, ◌^◌, Bool, true, false, List, [], ◌∷◌, refl, ap, subst, sym, ◌∙◌, arith, ◌⊎◌, inl, inr}
use Rattle.std.specs.Prelude.{Option, Some, if◌then◌else◌, nat_lt}
use Rattle.std.proofs.lemmas.Bool.Decides.{nat_tests}
use Rattle.ev_syntax.specs.Marks.{int_word, bool_set_word, param_sign, pow_word, open_paren, close_paren, comma, product_sign}
use Rattle.ev_syntax.specs.Tokens.{Token, name, number, mark}
use Rattle.ev_syntax.specs.Raw.{RawType, RawTypes, int_type, bool_type, param_type, named_type, pow_type, prod_type, no_types, one_type}
use Rattle.ev_syntax.specs.Grammar.{Front, Is, ◌then◌, Times, InParens, ReadsType, ReadsMoreTypes}
use Rattle.ev_syntax.proofs.Eventually.{Found, on_found, Eventually, always, later, and_then, same_answer}
pub use Rattle.ev_syntax.specs.inner.TypeParser.{begins, expect, param_at, named_at, type_atom, more_factors, Want, an_atom, a_type, more_types, parse_type}

abbrev pub T : Want → List Token → RawType → List Token → Type 0
T w ts a rest = Eventually (λ g. parse_type g w ts) (a, rest)

abbrev pub StopsAtom : List Token → Type 0
StopsAtom ts = begins open_paren ts ≡ false

abbrev pub StopsType : List Token → Type 0
StopsType ts = (begins product_sign ts ≡ false) × (begins open_paren ts ≡ false)

abbrev Reaches : RawType → List Token → RawType → List Token → Type 0
Reaches a ts b rest =
    (j f : ℕ) × ((g n : ℕ) → f ≤ g → more_factors (j + n) (parse_type g an_atom) a ts ≡ more_factors n (parse_type g an_atom) b rest)

abbrev Chained : List Token → RawType → List Token → Type 0
Chained ts a rest = (b : RawType) × (mid : List Token) × T an_atom ts b mid × Reaches b mid a rest

alone_chained : (ts : List Token) (a : RawType) (rest : List Token) → T an_atom ts a rest → Chained ts a rest
alone_chained ts a rest p =
    (a, rest, p, (0, 0, λ g n le. let e : 0 + n ≡ n = omega arith in ap (λ i. more_factors i (parse_type g an_atom) a rest) e))

snoc : (ts : List Token) (a b : RawType) (mid rest : List Token) → Chained ts a (mark product_sign ∷ mid) → T an_atom mid b rest → Chained ts (prod_type a b) rest
snoc ts a b mid rest (c, us, p, (j, f, r)) (h, q) = (
  c,
  us,
  p,
  (
    j + 1,
    f + h,
    λ g n le.
        let e : (j + 1) + n ≡ j + suc n = omega arith in
        ap (λ i. more_factors i (parse_type g an_atom) c us) e ∙ r g (suc n) (omega arith)
        ∙ ap (λ o. on_found o (λ d vs. more_factors n (parse_type g an_atom) (prod_type a d) vs)) (q g (omega arith)),
  ),
)

factors_stop : (n : ℕ) (read : List Token → Option (Found RawType)) (a : RawType) (ts : List Token) → begins product_sign ts ≡ false → more_factors n read a ts ≡ Some (a, ts)
factors_stop zero read a ts h = refl
factors_stop (suc n) read a ts h = rw h

whole_of : (ts : List Token) (a : RawType) (rest : List Token) → Chained ts a rest → begins product_sign rest ≡ false → T a_type ts a rest
whole_of ts a rest (b, mid, p, (j, f, r)) stops =
    later (λ g. parse_type g a_type ts) (λ g. on_found (parse_type g an_atom ts) (more_factors g (parse_type g an_atom))) (a, rest) (λ g. refl)
    (and_then (λ g. parse_type g an_atom ts) (λ g. more_factors g (parse_type g an_atom)) b mid (a, rest) p (
      j + f,
      λ g le. let e : j + (g - j) ≡ g = omega arith in
          sym (ap (λ i. more_factors i (parse_type g an_atom) b mid) e) ∙ r g (g - j) (omega arith)
          ∙ factors_stop (g - j) (parse_type g an_atom) a rest stops,
    ))

in_parens : (ts : List Token) (a : RawType) (rest : List Token) → T a_type ts a (mark close_paren ∷ rest) → T an_atom (mark open_paren ∷ ts) a rest
in_parens ts a rest p =
    later (λ g. parse_type g an_atom (mark open_paren ∷ ts)) (λ g. on_found (parse_type g a_type ts) (λ b vs. expect close_paren vs (λ rest. Some (b, rest)))) (a, rest) (λ g. refl)
    (and_then _ (λ g b vs. expect close_paren vs (λ rest. Some (b, rest))) a (mark close_paren ∷ rest) (a, rest) p (always _ _ (λ g. refl)))

close_last : (n : ℕ) (t : Token) (ts rest : List Token) → Times (suc n) t ts rest → Times n t ts (t ∷ rest)
close_last zero t ts rest (after, e, h) = e ∙ ap (λ xs. t ∷ xs) h
close_last (suc n) t ts rest (after, e, h) = (after, e, close_last n t after rest h)

from_tokens : (w : Want) (a : RawType) (rest ts us : List Token) → ts ≡ us → T w us a rest → T w ts a rest
from_tokens w a rest ts us e p = subst (λ xs. T w xs a rest) (sym e) p

parens_atom : (a : RawType) (n : ℕ) (ts mid to rest : List Token) → Times (suc n) (mark open_paren) ts mid → T a_type mid a to
    → Times (suc n) (mark close_paren) to rest → T an_atom ts a rest
parens_atom a zero ts mid to rest (x, e, h) p (y, d, i) =
    from_tokens an_atom a rest ts (mark open_paren ∷ mid) (e ∙ ap (λ xs. mark open_paren ∷ xs) h)
    (in_parens mid a rest (subst (λ xs. T a_type mid a xs) (d ∙ ap (λ xs. mark close_paren ∷ xs) i) p))
parens_atom a (suc n) ts mid to rest (x, e, h) p closes =
    let inner : T an_atom x a (mark close_paren ∷ rest) = parens_atom a n x mid to (mark close_paren ∷ rest) h p (close_last (suc n) (mark close_paren) to rest closes) in
    from_tokens an_atom a rest ts (mark open_paren ∷ x) e (in_parens x a rest (whole_of x a _ (alone_chained x a _ inner) refl))

record Complete (a : RawType) (reads : Bool → Front) : Type 0 where
  as_atom : (ts rest : List Token) → reads false ts rest → StopsAtom rest → T an_atom ts a rest
  as_chain : (ts rest : List Token) → reads true ts rest → StopsAtom rest → Chained ts a rest
  as_type : (ts rest : List Token) → reads true ts rest → StopsType rest → T a_type ts a rest

closing_stops : (n : ℕ) (to rest : List Token) → Times (suc n) (mark close_paren) to rest → StopsType to
closing_stops n to rest (b, e, h) = subst (λ xs. StopsType xs) (sym e) (refl, refl)

in_part : (a : RawType) (alone : Bool → Front) → ((ts rest : List Token) → alone true ts rest → StopsType rest → T a_type ts a rest)
    → (p : Bool) (ts rest : List Token) → InParens (λ (q : Bool). true) alone p ts rest → alone p ts rest ⊎ T an_atom ts a rest
in_part a alone whole p ts rest (inl h) = inl h
in_part a alone whole p ts rest (inr (n, (mid, opens, (to, inner, closes)))) =
    inr (parens_atom a n ts mid to rest opens (whole mid to inner (closing_stops n to rest closes)) closes)

-- a form that is an atom
atoms : (a : RawType) (alone : Bool → Front) → ((p : Bool) (ts rest : List Token) → alone p ts rest → StopsAtom rest → T an_atom ts a rest)
    → Complete a (InParens (λ (q : Bool). true) alone)
atoms a alone bare = record {
  as_atom = λ ts rest h stops. atom false ts rest h stops;
  as_chain = λ ts rest h stops. alone_chained ts a rest (atom true ts rest h stops);
  as_type = λ ts rest h stops. whole_of ts a rest (alone_chained ts a rest (atom true ts rest h stops.1)) stops.0;
}
  where
    whole : (ts rest : List Token) → alone true ts rest → StopsType rest → T a_type ts a rest
    whole ts rest h stops = whole_of ts a rest (alone_chained ts a rest (bare true ts rest h stops.1)) stops.0

    either : (p : Bool) (ts rest : List Token) → alone p ts rest ⊎ T an_atom ts a rest → StopsAtom rest → T an_atom ts a rest
    either p ts rest (inl h) stops = bare p ts rest h stops
    either p ts rest (inr h) stops = h

    atom : (p : Bool) (ts rest : List Token) → InParens (λ (q : Bool). true) alone p ts rest → StopsAtom rest → T an_atom ts a rest
    atom p ts rest h stops = either p ts rest (in_part a alone whole p ts rest h) stops

-- what the atoms read, by the atom parser at once
at_once : (ts : List Token) (a : RawType) (rest us : List Token) → ts ≡ us
    → ((g : ℕ) → parse_type (suc g) an_atom us ≡ Some (a, rest)) → T an_atom ts a rest
at_once ts a rest us e h = from_tokens an_atom a rest ts us e (later (λ g. parse_type g an_atom us) (λ g. Some (a, rest)) (a, rest) h (always _ _ (λ g. refl)))

is_below : (i n : ℕ) → i < n → nat_lt i n ≡ true
is_below i n h = grind (arith, nat_tests)

int_complete : Complete int_type (ReadsType int_type)
int_complete = atoms int_type (λ p. Is (mark int_word)) (λ p ts rest h stops. at_once ts int_type rest (mark int_word ∷ rest) h (λ g. refl))

bool_complete : Complete bool_type (ReadsType bool_type)
bool_complete = atoms bool_type (λ p. Is (mark bool_set_word)) (λ p ts rest h stops. at_once ts bool_type rest (mark bool_set_word ∷ rest) h (λ g. refl))

param_complete : (i : ℕ) → Complete (param_type i) (ReadsType (param_type i))
param_complete i = atoms (param_type i) (λ p ts rest. (i < 2 ^ 32) × (Is (mark param_sign) then Is (number i)) ts rest) bare
  where
    bare : (p : Bool) (ts rest : List Token) → (i < 2 ^ 32) × (Is (mark param_sign) then Is (number i)) ts rest → StopsAtom rest → T an_atom ts (param_type i) rest
    bare p ts rest (low, (mid, e, d)) stops =
        at_once ts (param_type i) rest (mark param_sign ∷ number i ∷ rest) (e ∙ ap (λ xs. mark param_sign ∷ xs) d) (λ g. rw (is_below i (2 ^ 32) low))

name_complete : (n : List ℕ) → Complete (named_type n no_types) (ReadsType (named_type n no_types))
name_complete n = atoms (named_type n no_types) (λ p. Is (name n))
    (λ p ts rest h stops. at_once ts (named_type n no_types) rest (name n ∷ rest) h (λ g. rw stops))

pow_complete : (a : RawType) → Complete a (ReadsType a) → Complete (pow_type a) (ReadsType (pow_type a))
pow_complete a c = atoms (pow_type a) (λ p. Is (mark pow_word) then Is (mark open_paren) then ReadsType a true then Is (mark close_paren)) bare
  where
    bare : (p : Bool) (ts rest : List Token) → (Is (mark pow_word) then Is (mark open_paren) then ReadsType a true then Is (mark close_paren)) ts rest
        → StopsAtom rest → T an_atom ts (pow_type a) rest
    bare p ts rest (us, e, (vs, d, (ws, h, f))) stops =
        let inner : T a_type vs a (mark close_paren ∷ rest) = c.as_type vs (mark close_paren ∷ rest) (subst (λ xs. ReadsType a true vs xs) f h) (refl, refl) in
        from_tokens an_atom (pow_type a) rest ts (mark pow_word ∷ mark open_paren ∷ vs) (e ∙ ap (λ xs. mark pow_word ∷ xs) d)
        (later (λ g. parse_type g an_atom (mark pow_word ∷ mark open_paren ∷ vs))
        (λ g. on_found (parse_type g a_type vs) (λ b xs. expect close_paren xs (λ rest. Some (pow_type b, rest)))) (pow_type a, rest) (λ g. refl)
        (and_then _ (λ g b xs. expect close_paren xs (λ rest. Some (pow_type b, rest))) a (mark close_paren ∷ rest) (pow_type a, rest) inner (always _ _ (λ g. refl))))

abbrev MoreRead : List Token → RawTypes → List Token → Type 0
MoreRead ts types rest = (j f : ℕ) × ((g n : ℕ) → f ≤ g → more_types (j + n) (parse_type g a_type) ts ≡ Some (types, rest))

no_more : (n : ℕ) (read : List Token → Option (Found RawType)) (ts : List Token) → begins comma ts ≡ false → more_types n read ts ≡ Some (no_types, ts)
no_more zero read ts h = refl
no_more (suc n) read ts h = rw h

one_more : (a : RawType) (types : RawTypes) (us vs rest : List Token) → T a_type us a vs → MoreRead vs types rest → MoreRead (mark comma ∷ us) (one_type a types) rest
one_more a types us vs rest (f, p) (j, h, q) = (
  j + 1,
  f + h,
  λ g n le.
      let e : (j + 1) + n ≡ suc (j + n) = omega arith in
      ap (λ i. more_types i (parse_type g a_type) (mark comma ∷ us)) e
      ∙ ap (λ o. on_found o (λ b xs. on_found (more_types (j + n) (parse_type g a_type) xs) (λ bs ys. Some (one_type b bs, ys)))) (p g (omega arith))
      ∙ ap (λ o. on_found o (λ bs ys. Some (one_type a bs, ys))) (q g n (omega arith)),
)

more_eventually : (ts : List Token) (types : RawTypes) (rest : List Token) → MoreRead ts types rest → Eventually (λ g. more_types g (parse_type g a_type) ts) (types, rest)
more_eventually ts types rest (j, f, q) =
    (j + f, λ g le. let e : j + (g - j) ≡ g = omega arith in sym (ap (λ i. more_types i (parse_type g a_type) ts) e) ∙ q g (g - j) (omega arith))

-- a token that may follow a type in a list
abbrev StopsList : List Token → Type 0
StopsList ts = StopsType ts × (begins comma ts ≡ false)

record CompleteTypes (types : RawTypes) : Type 0 where
  as_more : (ts rest : List Token) → ReadsMoreTypes types ts rest → StopsList rest → MoreRead ts types rest
  -- what stands before them ends where they begin
  ends : (ts rest : List Token) → ReadsMoreTypes types ts rest → StopsList rest → StopsType ts

none_complete : CompleteTypes no_types
none_complete = record {
  as_more = λ ts rest h stops. subst (λ xs. MoreRead xs no_types rest) (sym h) (0, 0, λ g n le. no_more (0 + n) (parse_type g a_type) rest stops.1);
  ends = λ ts rest h stops. subst (λ xs. StopsType xs) (sym h) stops.0;
}

more_complete : (a : RawType) (types : RawTypes) → Complete a (ReadsType a) → CompleteTypes types → CompleteTypes (one_type a types)
more_complete a types ca cs = record {
  as_more = λ ts rest (us, e, (vs, h, more)) stops.
      subst (λ xs. MoreRead xs (one_type a types) rest) (sym e)
      (one_more a types us vs rest (ca.as_type us vs h (cs.ends vs rest more stops)) (cs.as_more vs rest more stops));
  ends = λ ts rest h stops. subst (λ xs. StopsType xs) (sym h.1) (refl, refl);
}

named_complete : (n : List ℕ) (a : RawType) (types : RawTypes) → Complete a (ReadsType a) → CompleteTypes types
    → Complete (named_type n (one_type a types)) (ReadsType (named_type n (one_type a types)))
named_complete n a types ca cs = atoms (named_type n (one_type a types)) (λ p. Is (name n) then Is (mark open_paren) then ReadsType a true then ReadsMoreTypes types then Is (mark close_paren)) bare
  where
    bare : (p : Bool) (ts rest : List Token) → (Is (name n) then Is (mark open_paren) then ReadsType a true then ReadsMoreTypes types then Is (mark close_paren)) ts rest
        → StopsAtom rest → T an_atom ts (named_type n (one_type a types)) rest
    bare p ts rest (us, e, (vs, d, (ws, h, (xs, more, f)))) stops =
        let others : ReadsMoreTypes types ws (mark close_paren ∷ rest) = subst (λ ys. ReadsMoreTypes types ws ys) f more in
        let first : T a_type vs a ws = ca.as_type vs ws h (cs.ends ws (mark close_paren ∷ rest) others ((refl, refl), refl)) in
        let last : Eventually (λ g. more_types g (parse_type g a_type) ws) (types, mark close_paren ∷ rest) =
        more_eventually ws types (mark close_paren ∷ rest) (cs.as_more ws (mark close_paren ∷ rest) others ((refl, refl), refl)) in
        from_tokens an_atom (named_type n (one_type a types)) rest ts (name n ∷ mark open_paren ∷ vs) (e ∙ ap (λ ys. name n ∷ ys) d)
        (later (λ g. parse_type g an_atom (name n ∷ mark open_paren ∷ vs))
        (λ g. on_found (parse_type g a_type vs) (λ b ys. on_found (more_types g (parse_type g a_type) ys) (λ bs zs. expect close_paren zs (λ rest. Some (named_type n (one_type b bs), rest)))))
        (named_type n (one_type a types), rest) (λ g. refl)
        (and_then _ (λ g b ys. on_found (more_types g (parse_type g a_type) ys) (λ bs zs. expect close_paren zs (λ rest. Some (named_type n (one_type b bs), rest))))
        a ws (named_type n (one_type a types), rest) first
        (and_then _ (λ g bs zs. expect close_paren zs (λ rest. Some (named_type n (one_type a bs), rest))) types (mark close_paren ∷ rest)
        (named_type n (one_type a types), rest) last (always _ _ (λ g. refl)))))

product_complete : (a b : RawType) → Complete a (ReadsType a) → Complete b (ReadsType b) → Complete (prod_type a b) (ReadsType (prod_type a b))
product_complete a b ca cb = record {
  as_atom = λ ts rest h stops. or_atom ts rest (part false ts rest h);
  as_chain = λ ts rest h stops. or_chain ts rest stops (part true ts rest h);
  as_type = λ ts rest h stops. whole_of ts (prod_type a b) rest (or_chain ts rest stops.1 (part true ts rest h)) stops.0;
}
  where
    alone : Bool → Front
    alone p ts rest = (p ≡ true) × (ReadsType a true then Is (mark product_sign) then ReadsType b false) ts rest

    chain : (ts rest : List Token) → alone true ts rest → StopsAtom rest → Chained ts (prod_type a b) rest
    chain ts rest (t, (us, h, (vs, e, k))) stops =
        snoc ts a b vs rest (ca.as_chain ts (mark product_sign ∷ vs) (subst (λ xs. ReadsType a true ts xs) e h) refl) (cb.as_atom vs rest k stops)

    whole : (ts rest : List Token) → alone true ts rest → StopsType rest → T a_type ts (prod_type a b) rest
    whole ts rest h stops = whole_of ts (prod_type a b) rest (chain ts rest h stops.1) stops.0

    part : (p : Bool) (ts rest : List Token) → InParens (λ (q : Bool). true) alone p ts rest → alone p ts rest ⊎ T an_atom ts (prod_type a b) rest
    part p ts rest h = in_part (prod_type a b) alone whole p ts rest h

    or_atom : (ts rest : List Token) → alone false ts rest ⊎ T an_atom ts (prod_type a b) rest → T an_atom ts (prod_type a b) rest
    or_atom ts rest (inl h) = let clash : false ≡ true = h.0 in cc
    or_atom ts rest (inr p) = p

    or_chain : (ts rest : List Token) → StopsAtom rest → alone true ts rest ⊎ T an_atom ts (prod_type a b) rest → Chained ts (prod_type a b) rest
    or_chain ts rest stops (inl h) = chain ts rest h stops
    or_chain ts rest stops (inr p) = alone_chained ts (prod_type a b) rest p

mutual
  complete : (a : RawType) → Complete a (ReadsType a)
  complete int_type = int_complete
  complete bool_type = bool_complete
  complete (param_type i) = param_complete i
  complete (named_type n no_types) = name_complete n
  complete (named_type n (one_type a types)) = named_complete n a types (complete a) (all_complete types)
  complete (pow_type a) = pow_complete a (complete a)
  complete (prod_type a b) = product_complete a b (complete a) (complete b)

  all_complete : (types : RawTypes) → CompleteTypes types
  all_complete no_types = none_complete
  all_complete (one_type a types) = more_complete a types (complete a) (all_complete types)

-- the parser finds each type that stands first, where what follows cannot go on with it
pub type_found : (a : RawType) (ts rest : List Token) → ReadsType a true ts rest → StopsType rest → Eventually (λ g. parse_type g a_type ts) (a, rest)
type_found a ts rest h stops = (complete a).as_type ts rest h stops

-- for one list of tokens at most one written type
pub only_type : (ts : List Token) (a b : RawType) → ReadsType a true ts [] → ReadsType b true ts [] → a ≡ b
only_type ts a b ra rb =
    ap (λ (x : RawType × List Token). x.0) (same_answer (λ g. parse_type g a_type ts) (a, []) (b, []) (type_found a ts [] ra (refl, refl)) (type_found b ts [] rb (refl, refl)))
