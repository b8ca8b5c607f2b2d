-- How the parser comes to a predicate: literals, conjunctions, parentheses.
use Rattle.std.proofs.Common.{◌≡◌, ℕ, zero, suc, ◌+◌, ◌-◌, ◌≤◌, false, List, ◌∷◌, refl, ap, subst, sym, ◌∙◌, arith, ◌⊎◌, inl, inr, eq-eqb}
use Rattle.std.specs.Prelude.{Some, max}
use Rattle.ev_syntax.specs.Marks.{and_sign, or_word, implies_sign, iff_sign, open_paren, close_paren, inverse_sign, open_bracket}
use Rattle.ev_syntax.specs.Tokens.{Token, mark}
use Rattle.ev_syntax.specs.Raw.{Raw, binary}
use Rattle.ev_syntax.specs.Parts.{Part, pred, inside}
use Rattle.ev_syntax.specs.Grammar.{Front, Times, InParens}
use Rattle.ev_syntax.proofs.Eventually.{on_found, Eventually, always, later, and_then}
use Rattle.ev_syntax.proofs.TypesRead.{begins, expect}
use Rattle.ev_syntax.proofs.Levels.{is_from, first_operator}
use Rattle.ev_syntax.proofs.Balanced.{after_close, Keeps}
use Rattle.ev_syntax.proofs.OpenFirst.{goes_on, in_parens}
use Rattle.ev_syntax.proofs.WholeParser.{Read, parse, level, a_lit, a_conj, a_pred, Stops, or_false, is_relation, behind_open, connect, connected, implied}

abbrev pub L : List Token → Raw → List Token → Type 0
L ts raw rest = Eventually (λ g. parse g a_lit ts) (raw, rest)

abbrev pub C : List Token → Raw → List Token → Type 0
C ts raw rest = Eventually (λ g. parse g a_conj ts) (raw, rest)

abbrev pub P : List Token → Raw → List Token → Type 0
P ts raw rest = Eventually (λ g. parse g a_pred ts) (raw, rest)

-- nothing goes on after a literal, a conjunction or disjunction, a predicate
abbrev pub StopsLit : List Token → Type 0
StopsLit ts = (goes_on ts ≡ false) × (is_relation ts ≡ false)

abbrev pub StopsConj : List Token → Type 0
StopsConj ts = StopsLit ts × (begins and_sign ts ≡ false) × (begins or_word ts ≡ false)

abbrev pub StopsPred : List Token → Type 0
StopsPred ts = StopsConj ts × (begins implies_sign ts ≡ false) × (begins iff_sign ts ≡ false)

pub closes : (ts : List Token) → StopsPred (mark close_paren ∷ ts)
closes ts = (((refl, refl), refl, refl), refl, refl)

pub stops_0 : (ts : List Token) → goes_on ts ≡ false → Stops 0 ts
stops_0 ts h =
    let a = or_false (is_from 0 (first_operator ts)) _ h in
    let b = or_false (begins inverse_sign ts) _ a.1 in
    let c = or_false (begins open_paren ts) _ b.1 in
    let d = or_false (begins open_bracket ts) _ c.1 in
    record { operator = a.0; post = rw (b.0, c.0, d.0); type = d.1 }

pub conj_of_lit : (ts : List Token) (raw : Raw) (rest : List Token) → L ts raw rest → StopsConj rest → C ts raw rest
conj_of_lit ts raw rest p s =
    later (λ g. parse g a_conj ts) (λ g. on_found (parse g a_lit ts) (connected g (parse g a_lit))) (raw, rest) (λ g. refl)
    (and_then (λ g. parse g a_lit ts) (λ g. connected g (parse g a_lit)) raw rest (raw, rest) p (always _ _ (λ g. rw (s.1, s.2))))

pub pred_of_conj : (ts : List Token) (raw : Raw) (rest : List Token) → C ts raw rest → StopsPred rest → P ts raw rest
pred_of_conj ts raw rest p s =
    later (λ g. parse g a_pred ts) (λ g. on_found (parse g a_conj ts) (implied (parse g a_conj))) (raw, rest) (λ g. refl)
    (and_then (λ g. parse g a_conj ts) (λ g. implied (parse g a_conj)) raw rest (raw, rest) p (always _ _ (λ g. rw (s.1, s.2))))

pub pred_of_lit : (ts : List Token) (raw : Raw) (rest : List Token) → L ts raw rest → StopsPred rest → P ts raw rest
pred_of_lit ts raw rest p s = pred_of_conj ts raw rest (conj_of_lit ts raw rest p s.0) s

paren_lit : (ts : List Token) (raw : Raw) (rest : List Token) → P ts raw (mark close_paren ∷ rest) → after_close 0 ts ≡ Some rest → StopsLit rest → L (mark open_paren ∷ ts) raw rest
paren_lit ts raw rest p e s =
    later (λ g. parse g a_lit (mark open_paren ∷ ts)) (λ g. on_found (parse g a_pred ts) (λ q vs. expect close_paren vs (λ rest. Some (q, rest)))) (raw, rest)
    (λ g. ap (λ o. behind_open (parse g (level 0)) (parse g a_pred) (mark open_paren ∷ ts) o) e ∙ rw (s.0, s.1) refl)
    (and_then (λ g. parse g a_pred ts) (λ g q vs. expect close_paren vs (λ rest. Some (q, rest))) raw (mark close_paren ∷ rest) (raw, rest) p (always _ _ (λ g. refl)))

close_last : (n : ℕ) (t : Token) (ts rest : List Token) → Times (suc n) t ts rest → Times n t ts (t ∷ rest)
close_last zero t ts rest (after, e, h) = e ∙ ap (λ xs. t ∷ xs) h
close_last (suc n) t ts rest (after, e, h) = (after, e, close_last n t after rest h)

lit_at : (raw : Raw) (rest ts us : List Token) → ts ≡ us → L us raw rest → L ts raw rest
lit_at raw rest ts us e p = subst (λ xs. L xs raw rest) (sym e) p

parens_lit : (raw : Raw) (alone : Part → Front) → ((q : Part) → Keeps (alone q)) → (n : ℕ) (ts mid to rest : List Token) → Times (suc n) (mark open_paren) ts mid
    → alone pred mid to → P mid raw to → Times (suc n) (mark close_paren) to rest → StopsLit rest → L ts raw rest
parens_lit raw alone keep zero ts mid to rest (a, e, h) inner p (b, d, i) s =
    lit_at raw rest ts (mark open_paren ∷ a) e
    (paren_lit a raw rest (subst (λ xs. P xs raw (mark close_paren ∷ rest)) (sym h) (subst (λ xs. P mid raw xs) (d ∙ ap (λ xs. mark close_paren ∷ xs) i) p))
    (in_parens alone pred keep 0 a mid to rest (a, refl, h) inner (b, d, i)) s)
parens_lit raw alone keep (suc n) ts mid to rest (a, e, h) inner p c s =
    let one : L a raw (mark close_paren ∷ rest) = parens_lit raw alone keep n a mid to (mark close_paren ∷ rest) h inner p (close_last (suc n) (mark close_paren) to rest c) (refl, refl) in
    lit_at raw rest ts (mark open_paren ∷ a) e
    (paren_lit a raw rest (pred_of_lit a raw (mark close_paren ∷ rest) one (closes rest)) (in_parens alone pred keep (suc n) a mid to rest (a, refl, h) inner c) s)

closing_stops : (n : ℕ) (to rest : List Token) → Times (suc n) (mark close_paren) to rest → StopsPred to
closing_stops n to rest (b, e, h) = subst (λ xs. StopsPred xs) (sym e) (closes b)

pub in_part : (raw : Raw) (alone : Part → Front) → ((q : Part) → Keeps (alone q)) → ((ts rest : List Token) → alone pred ts rest → StopsPred rest → P ts raw rest)
    → (p : Part) → inside p ≡ pred → (ts rest : List Token) → InParens inside alone p ts rest → StopsLit rest → alone p ts rest ⊎ L ts raw rest
in_part raw alone keep whole p e ts rest (inl h) s = inl h
in_part raw alone keep whole p e ts rest (inr (n, (mid, o, (to, h, c)))) s =
    let inner : alone pred mid to = subst (λ q. alone q mid to) e h in
    inr (parens_lit raw alone keep n ts mid to rest o inner (whole mid to inner (closing_stops n to rest c)) c s)

-- chains of one connective
abbrev pub Reaches : ℕ → Raw → List Token → Raw → List Token → Type 0
Reaches m a ts b rest = (j f : ℕ) × ((g n : ℕ) → f ≤ g → connect (j + n) (parse g a_lit) m a ts ≡ connect n (parse g a_lit) m b rest)

abbrev pub Chained : ℕ → List Token → Raw → List Token → Type 0
Chained m ts raw rest = (a : Raw) × (mid : List Token) × L ts a (mark m ∷ mid) × Reaches m a (mark m ∷ mid) raw rest

abbrev pub Spine : ℕ → List Token → Raw → List Token → Type 0
Spine m ts raw rest = L ts raw rest ⊎ Chained m ts raw rest

one_step : (m : ℕ) (a b : Raw) (mid rest : List Token) → L mid b rest → Reaches m a (mark m ∷ mid) (binary m a b) rest
one_step m a b mid rest p = (
  1,
  p.0,
  λ g n le. let e : 1 + n ≡ suc n = omega arith in
      ap (λ k. connect k (parse g a_lit) m a (mark m ∷ mid)) e
      ∙ rw (eq-eqb m m refl) (ap (λ o. on_found o (λ c after. connect n (parse g a_lit) m (binary m a c) after)) (p.1 g le)),
)

two_reaches : (m : ℕ) (a b c : Raw) (ts us vs : List Token) → Reaches m a ts b us → Reaches m b us c vs → Reaches m a ts c vs
two_reaches m a b c ts us vs r s = (
  r.0 + s.0,
  max r.1 s.1,
  λ g n le.
      let e : (r.0 + s.0) + n ≡ r.0 + (s.0 + n) = omega arith in
      ap (λ k. connect k (parse g a_lit) m a ts) e ∙ r.2 g (s.0 + n) (omega arith) ∙ s.2 g n (omega arith),
)

pub snoc : (m : ℕ) (a b : Raw) (ts mid rest : List Token) → Spine m ts a (mark m ∷ mid) → L mid b rest → Chained m ts (binary m a b) rest
snoc m a b ts mid rest (inl p) q = (a, mid, p, one_step m a b mid rest q)
snoc m a b ts mid rest (inr (c, us, p, r)) q =
    (c, us, p, two_reaches m c a (binary m a b) (mark m ∷ us) (mark m ∷ mid) rest r (one_step m a b mid rest q))

pub connect_stops : (n : ℕ) (read : Read) (m : ℕ) (a : Raw) (ts : List Token) → begins m ts ≡ false → connect n read m a ts ≡ Some (a, ts)
connect_stops zero read m a ts h = refl
connect_stops (suc n) read m a ts h = rw h

pub finish : (m : ℕ) (ts : List Token) (raw : Raw) (rest : List Token)
    → ((n : ℕ) (read : Read) (a : Raw) (mid : List Token) → connected n read a (mark m ∷ mid) ≡ connect n read m a (mark m ∷ mid))
    → Chained m ts raw rest → begins m rest ≡ false → C ts raw rest
finish m ts raw rest picks (a, mid, p, (j, f, r)) s =
    later (λ g. parse g a_conj ts) (λ g. on_found (parse g a_lit ts) (connected g (parse g a_lit))) (raw, rest) (λ g. refl)
    (and_then (λ g. parse g a_lit ts) (λ g. connected g (parse g a_lit)) a (mark m ∷ mid) (raw, rest) p (
      j + f,
      λ g le. let e : j + (g - j) ≡ g = omega arith in
          picks g (parse g a_lit) a mid ∙ sym (ap (λ k. connect k (parse g a_lit) m a (mark m ∷ mid)) e)
          ∙ r g (g - j) (omega arith) ∙ connect_stops (g - j) (parse g a_lit) m raw rest s,
    ))
