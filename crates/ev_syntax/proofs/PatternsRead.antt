-- Patterns: a parser finds each.
use Rattle.std.proofs.Common.{◌≡◌, ℕ, zero, suc, ◌+◌, ◌-◌, ◌≤◌, Bool, true, false, List, ◌∷◌, refl, ap, subst, sym, ◌∙◌, arith, ◌⊎◌, inl, inr}
use Rattle.std.specs.Prelude.{Option, Some, if◌then◌else◌}
use Rattle.ev_syntax.specs.Marks.{open_paren, close_paren, maps_to_sign}
use Rattle.ev_syntax.specs.Tokens.{Token, mark}
use Rattle.ev_syntax.specs.Raw.{Binder, Pattern, bound, pair}
use Rattle.ev_syntax.specs.Grammar.{Front, Is, ◌then◌, Times, InParens, ReadsBinder, ReadsPattern}
use Rattle.ev_syntax.proofs.Eventually.{Found, on_found, Eventually, always, later, and_then}
use Rattle.ev_syntax.proofs.TypesRead.{begins, expect}
use Rattle.ev_syntax.proofs.BindersRead.{parse_binder, StopsBinder, binder_found}
pub use Rattle.ev_syntax.specs.inner.PatternParser.{Want, an_atom, a_pattern, pattern_atom, more_pairs, parse_pattern}

abbrev pub X : Want → List Token → Pattern → List Token → Type 0
X w ts x rest = Eventually (λ g. parse_pattern g w ts) (x, rest)

abbrev pub StopsPattern : List Token → Type 0
StopsPattern ts = (begins maps_to_sign ts ≡ false) × StopsBinder ts

abbrev Reaches : Pattern → List Token → Pattern → List Token → Type 0
Reaches x ts y rest =
    (j f : ℕ) × ((g n : ℕ) → f ≤ g → more_pairs (j + n) (parse_pattern g an_atom) x ts ≡ more_pairs n (parse_pattern g an_atom) y rest)

abbrev Chained : List Token → Pattern → List Token → Type 0
Chained ts x rest = (y : Pattern) × (mid : List Token) × X an_atom ts y mid × Reaches y mid x rest

alone_chained : (ts : List Token) (x : Pattern) (rest : List Token) → X an_atom ts x rest → Chained ts x rest
alone_chained ts x rest p =
    (x, rest, p, (0, 0, λ g n le. let e : 0 + n ≡ n = omega arith in ap (λ i. more_pairs i (parse_pattern g an_atom) x rest) e))

snoc : (ts : List Token) (x y : Pattern) (mid rest : List Token) → Chained ts x (mark maps_to_sign ∷ mid) → X an_atom mid y rest → Chained ts (pair x y) rest
snoc ts x y mid rest (z, us, p, (j, f, r)) (h, q) = (
  z,
  us,
  p,
  (
    j + 1,
    f + h,
    λ g n le.
        let e : (j + 1) + n ≡ j + suc n = omega arith in
        ap (λ i. more_pairs i (parse_pattern g an_atom) z us) e ∙ r g (suc n) (omega arith)
        ∙ ap (λ o. on_found o (λ d vs. more_pairs n (parse_pattern g an_atom) (pair x d) vs)) (q g (omega arith)),
  ),
)

pairs_stop : (n : ℕ) (read : List Token → Option (Found Pattern)) (x : Pattern) (ts : List Token) → begins maps_to_sign ts ≡ false → more_pairs n read x ts ≡ Some (x, ts)
pairs_stop zero read x ts h = refl
pairs_stop (suc n) read x ts h = rw h

whole_of : (ts : List Token) (x : Pattern) (rest : List Token) → Chained ts x rest → begins maps_to_sign rest ≡ false → X a_pattern ts x rest
whole_of ts x rest (y, mid, p, (j, f, r)) stops =
    later (λ g. parse_pattern g a_pattern ts) (λ g. on_found (parse_pattern g an_atom ts) (more_pairs g (parse_pattern g an_atom))) (x, rest) (λ g. refl)
    (and_then (λ g. parse_pattern g an_atom ts) (λ g. more_pairs g (parse_pattern g an_atom)) y mid (x, rest) p (
      j + f,
      λ g le. let e : j + (g - j) ≡ g = omega arith in
          sym (ap (λ i. more_pairs i (parse_pattern g an_atom) y mid) e) ∙ r g (g - j) (omega arith)
          ∙ pairs_stop (g - j) (parse_pattern g an_atom) x rest stops,
    ))

in_parens : (ts : List Token) (x : Pattern) (rest : List Token) → X a_pattern ts x (mark close_paren ∷ rest) → X an_atom (mark open_paren ∷ ts) x rest
in_parens ts x rest p =
    later (λ g. parse_pattern g an_atom (mark open_paren ∷ ts)) (λ g. on_found (parse_pattern g a_pattern ts) (λ y vs. expect close_paren vs (λ rest. Some (y, rest)))) (x, rest) (λ g. refl)
    (and_then _ (λ g y vs. expect close_paren vs (λ rest. Some (y, rest))) x (mark close_paren ∷ rest) (x, rest) p (always _ _ (λ g. refl)))

close_last : (n : ℕ) (t : Token) (ts rest : List Token) → Times (suc n) t ts rest → Times n t ts (t ∷ rest)
close_last zero t ts rest (after, e, h) = e ∙ ap (λ xs. t ∷ xs) h
close_last (suc n) t ts rest (after, e, h) = (after, e, close_last n t after rest h)

from_tokens : (w : Want) (x : Pattern) (rest ts us : List Token) → ts ≡ us → X w us x rest → X w ts x rest
from_tokens w x rest ts us e p = subst (λ xs. X w xs x rest) (sym e) p

parens_atom : (x : Pattern) (n : ℕ) (ts mid to rest : List Token) → Times (suc n) (mark open_paren) ts mid → X a_pattern mid x to
    → Times (suc n) (mark close_paren) to rest → X an_atom ts x rest
parens_atom x zero ts mid to rest (u, e, h) p (v, d, i) =
    from_tokens an_atom x rest ts (mark open_paren ∷ mid) (e ∙ ap (λ xs. mark open_paren ∷ xs) h)
    (in_parens mid x rest (subst (λ xs. X a_pattern mid x xs) (d ∙ ap (λ xs. mark close_paren ∷ xs) i) p))
parens_atom x (suc n) ts mid to rest (u, e, h) p closes =
    let inner : X an_atom u x (mark close_paren ∷ rest) = parens_atom x n u mid to (mark close_paren ∷ rest) h p (close_last (suc n) (mark close_paren) to rest closes) in
    from_tokens an_atom x rest ts (mark open_paren ∷ u) e (in_parens u x rest (whole_of u x _ (alone_chained u x _ inner) refl))

record Complete (x : Pattern) (reads : Bool → Front) : Type 0 where
  as_atom : (ts rest : List Token) → reads false ts rest → StopsBinder rest → X an_atom ts x rest
  as_chain : (ts rest : List Token) → reads true ts rest → StopsBinder rest → Chained ts x rest

closing_stops : (n : ℕ) (to rest : List Token) → Times (suc n) (mark close_paren) to rest → StopsPattern to
closing_stops n to rest (b, e, h) = subst (λ xs. StopsPattern xs) (sym e) (refl, (refl, (refl, refl)))

in_part : (x : Pattern) (alone : Bool → Front) → ((ts rest : List Token) → alone true ts rest → StopsPattern rest → X a_pattern ts x rest)
    → (p : Bool) (ts rest : List Token) → InParens (λ (q : Bool). true) alone p ts rest → alone p ts rest ⊎ X an_atom ts x rest
in_part x alone whole p ts rest (inl h) = inl h
in_part x alone whole p ts rest (inr (n, (mid, opens, (to, inner, closes)))) =
    inr (parens_atom x n ts mid to rest opens (whole mid to inner (closing_stops n to rest closes)) closes)

bound_atom : (b : Binder) (ts rest : List Token) → ReadsBinder b ts rest → StopsBinder rest → X an_atom ts (bound b) rest
bound_atom b ts rest h stops =
    later (λ g. parse_pattern g an_atom ts) (λ g. on_found (parse_binder g ts) (λ c us. Some (bound c, us))) (bound b, rest)
    (λ g. let no : begins open_paren ts ≡ false = subst (λ xs. begins open_paren xs ≡ false) (sym h.1) refl in rw no)
    (and_then (λ g. parse_binder g ts) (λ g c us. Some (bound c, us)) b rest (bound b, rest) (binder_found b ts rest h stops) (always _ _ (λ g. refl)))

bound_complete : (b : Binder) → Complete (bound b) (ReadsPattern (bound b))
bound_complete b = record {
  as_atom = λ ts rest h stops. either ts rest stops (in_part (bound b) (λ p. ReadsBinder b) whole false ts rest h);
  as_chain = λ ts rest h stops. alone_chained ts (bound b) rest (either ts rest stops (in_part (bound b) (λ p. ReadsBinder b) whole true ts rest h));
}
  where
    whole : (ts rest : List Token) → ReadsBinder b ts rest → StopsPattern rest → X a_pattern ts (bound b) rest
    whole ts rest h stops = whole_of ts (bound b) rest (alone_chained ts (bound b) rest (bound_atom b ts rest h stops.1)) stops.0

    either : (ts rest : List Token) → StopsBinder rest → ReadsBinder b ts rest ⊎ X an_atom ts (bound b) rest → X an_atom ts (bound b) rest
    either ts rest stops (inl h) = bound_atom b ts rest h stops
    either ts rest stops (inr p) = p

pair_complete : (x y : Pattern) → Complete x (ReadsPattern x) → Complete y (ReadsPattern y) → Complete (pair x y) (ReadsPattern (pair x y))
pair_complete x y cx cy = record {
  as_atom = λ ts rest h stops. or_atom ts rest (part false ts rest h);
  as_chain = λ ts rest h stops. or_chain ts rest stops (part true ts rest h);
}
  where
    alone : Bool → Front
    alone p ts rest = (p ≡ true) × (ReadsPattern x true then Is (mark maps_to_sign) then ReadsPattern y false) ts rest

    chain : (ts rest : List Token) → alone true ts rest → StopsBinder rest → Chained ts (pair x y) rest
    chain ts rest (t, (us, h, (vs, e, k))) stops =
        snoc ts x y vs rest (cx.as_chain ts (mark maps_to_sign ∷ vs) (subst (λ xs. ReadsPattern x true ts xs) e h) (refl, (refl, refl))) (cy.as_atom vs rest k stops)

    whole : (ts rest : List Token) → alone true ts rest → StopsPattern rest → X a_pattern ts (pair x y) rest
    whole ts rest h stops = whole_of ts (pair x y) rest (chain ts rest h stops.1) stops.0

    part : (p : Bool) (ts rest : List Token) → InParens (λ (q : Bool). true) alone p ts rest → alone p ts rest ⊎ X an_atom ts (pair x y) rest
    part p ts rest h = in_part (pair x y) alone whole p ts rest h

    or_atom : (ts rest : List Token) → alone false ts rest ⊎ X an_atom ts (pair x y) rest → X an_atom ts (pair x y) rest
    or_atom ts rest (inl h) = let clash : false ≡ true = h.0 in cc
    or_atom ts rest (inr p) = p

    or_chain : (ts rest : List Token) → StopsBinder rest → alone true ts rest ⊎ X an_atom ts (pair x y) rest → Chained ts (pair x y) rest
    or_chain ts rest stops (inl h) = chain ts rest h stops
    or_chain ts rest stops (inr p) = alone_chained ts (pair x y) rest p

complete : (x : Pattern) → Complete x (ReadsPattern x)
complete (bound b) = bound_complete b
complete (pair x y) = pair_complete x y (complete x) (complete y)

pub pattern_found : (x : Pattern) (ts rest : List Token) → ReadsPattern x true ts rest → StopsPattern rest → Eventually (λ g. parse_pattern g a_pattern ts) (x, rest)
pattern_found x ts rest h stops = whole_of ts x rest ((complete x).as_chain ts rest h stops.1) stops.0
