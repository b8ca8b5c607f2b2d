-- The way of the walk over unknowns: what stands on it, and that it comes to no unknown twice.
use Rattle.std.specs.Prelude.{◌≡◌, ◌≢◌, ℕ, ◌+◌, ◌<◌, ◌≤◌, ◌⊎◌, List, [], ◌∷◌, ◌++◌, length, refl}
use Rattle.std.proofs.Common.{ap, sym, ◌∙◌, arith, set, inl, inr, subst as transport}
use Rattle.std.proofs.lemmas.Bool.{cases_eq}
use Rattle.std.proofs.lemmas.List.{get_or-set_same, get_or-set_other}
use Rattle.ev_unify.specs.declared.patterns.Pat.{Pat}
use Rattle.ev_unify.specs.declared.patterns.Bind.{Bind}
use Rattle.ev_infer.specs.declared.solving.Mark.{Mark}
use Rattle.ev_infer.specs.declared.solving.Mark.TheVariants.{Free, Bound, Open, Done}
use Rattle.ev_infer.specs.declared.solving.Visit.{Visit}
use Rattle.ev_infer.specs.declared.solving.Scan.TheVariants as scan
use Rattle.ev_infer.specs.inner.Solving.{mark, IsVisited, IsScan, AreKnown, IsBoundTo, AreOrdered, IsOn, AreLower, Falls, IsWay, NoneOpen, AreKept, IsWalked}

set_same : (M : List Mark) (t u : ℕ) (m : Mark) → t < length M → u ≡ t → mark (set M t m) u ≡ m
set_same M t u m h e = ap (mark (set M t m)) e ∙ get_or-set_same M t m Free h

set_other : (M : List Mark) (t u : ℕ) (m : Mark) → u ≢ t → mark (set M t m) u ≡ mark M u
set_other M t u m e = get_or-set_other M t u m Free e

-- a mark that is set leaves what was visited so
pub kept_by : (M N : List Mark) (t : ℕ) (m : Mark) → t < length M → N ≡ set M t m → IsVisited m → AreKept M N
kept_by M N t m l e v u h = transport (λ L. IsVisited (mark L u)) (sym e) (elim (cases_eq u t) as (λ _. IsVisited (mark (set M t m) u)) [
  | inl q ↦ transport IsVisited (sym (set_same M t u m l q)) v
  | inr n ↦ transport IsVisited (sym (set_other M t u m n)) h
])

pub kept_all : (M N L : List Mark) → AreKept M N → AreKept N L → AreKept M L
kept_all M N L f g u h = g u (f u h)

pub kept_same : (M : List Mark) → AreKept M M
kept_same M u h = h

-- a list with one more visit at its end
on_first : (u : ℕ) (vs : List Visit) (w : Visit) → IsOn u vs → IsOn u (vs ++ w ∷ [])
on_first u [] w h = absurd h
on_first u (v ∷ vs) w (inl e) = inl e
on_first u (v ∷ vs) w (inr h) = inr (on_first u vs w h)

on_last : (vs : List Visit) (w : Visit) → IsOn w.unknown (vs ++ w ∷ [])
on_last [] w = inl refl
on_last (v ∷ vs) w = inr (on_last vs w)

on_split : (u : ℕ) (vs : List Visit) (w : Visit) → IsOn u (vs ++ w ∷ []) → (w.unknown ≡ u) ⊎ IsOn u vs
on_split u [] w (inl e) = inl e
on_split u [] w (inr h) = absurd h
on_split u (v ∷ vs) w (inl e) = inr (inl e)
on_split u (v ∷ vs) w (inr h) = elim (on_split u vs w h) as (λ _. (w.unknown ≡ u) ⊎ IsOn u (v ∷ vs)) [ inl e ↦ inl e | inr g ↦ inr (inr g) ]

lower_last : (rank : ℕ → ℕ) (k : ℕ) (vs : List Visit) (w : Visit) → AreLower rank k (vs ++ w ∷ []) → rank w.unknown < k
lower_last rank k [] w h = h.0
lower_last rank k (v ∷ vs) w h = lower_last rank k vs w h.1

lower_first : (rank : ℕ → ℕ) (k : ℕ) (vs : List Visit) (w : Visit) → AreLower rank k (vs ++ w ∷ []) → AreLower rank k vs
lower_first rank k [] w h = tt
lower_first rank k (v ∷ vs) w h = (h.0, lower_first rank k vs w h.1)

lower_more : (rank : ℕ → ℕ) (k : ℕ) (vs : List Visit) (w : Visit) → AreLower rank k vs → rank w.unknown < k → AreLower rank k (vs ++ w ∷ [])
lower_more rank k [] w h l = (l, tt)
lower_more rank k (v ∷ vs) w h l = (h.0, lower_more rank k vs w h.1 l)

falls_first : (rank : ℕ → ℕ) (vs : List Visit) (w : Visit) → Falls rank (vs ++ w ∷ []) → Falls rank vs
falls_first rank [] w h = tt
falls_first rank (v ∷ vs) w h = (lower_first rank (rank v.unknown) vs w h.0, falls_first rank vs w h.1)

falls_more : (rank : ℕ → ℕ) (vs : List Visit) (v w : Visit) → Falls rank (vs ++ v ∷ []) → rank w.unknown < rank v.unknown → Falls rank ((vs ++ v ∷ []) ++ w ∷ [])
falls_more rank [] v w h l = ((l, tt), (tt, tt))
falls_more rank (x ∷ vs) v w h l =
    let k = lower_last rank (rank x.unknown) vs v h.0 in
    (lower_more rank (rank x.unknown) (vs ++ v ∷ []) w h.0 (omega (arith, k, l)), falls_more rank vs v w h.1 l)

-- the last has the least rank
least : (rank : ℕ → ℕ) (u : ℕ) (vs : List Visit) (w : Visit) → Falls rank (vs ++ w ∷ []) → IsOn u (vs ++ w ∷ []) → rank w.unknown ≤ rank u
least rank u [] w f (inl e) = let q : rank w.unknown ≡ rank u = ap rank e in omega (arith, q)
least rank u [] w f (inr h) = absurd h
least rank u (v ∷ vs) w f (inl e) =
    let q : rank v.unknown ≡ rank u = ap rank e in
    let k = lower_last rank (rank v.unknown) vs w f.0 in
    omega (arith, q, k)
least rank u (v ∷ vs) w f (inr h) = least rank u vs w f.1 h

-- One more unknown that the walk comes to.
on_more : (S : List Bind) (M N : List Mark) (vs : List Visit) (w : Visit) → w.unknown < length M → N ≡ set M w.unknown Open → ((u : ℕ) → mark M u ≡ Open → IsOn u vs) → (u : ℕ) → mark N u ≡ Open → IsOn u (vs ++ w ∷ [])
on_more S M N vs w l e h u o = elim (cases_eq u w.unknown) as (λ _. IsOn u (vs ++ w ∷ [])) [
  | inl q ↦ transport (λ x. IsOn x (vs ++ w ∷ [])) (sym q) (on_last vs w)
  | inr n ↦ on_first u vs w (h u (sym (set_other M w.unknown u Open n) ∙ sym (ap (λ L. mark L u) e) ∙ o))
]

pub way_start : (S : List Bind) (M N : List Mark) (w : Visit) (vs : List Visit) → w.unknown < length M → N ≡ set M w.unknown Open → vs ≡ [] ++ w ∷ [] → NoneOpen M → IsWay S N vs
way_start S M N w vs l e f h = transport (IsWay S N) (sym f) (record { on = on_more S M N [] w l e (λ u o. absurd (h u o)); falls = λ t. (tt, tt) })

pub way_down : (S : List Bind) (count : ℕ) (M N : List Mark) (vs ws : List Visit) (v w : Visit) (p : Pat) → AreOrdered S count → IsBoundTo S v.unknown p → IsScan p M (scan.Next w) → N ≡ set M w.unknown Open → ws ≡ (vs ++ v ∷ []) ++ w ∷ []
    → IsWay S M (vs ++ v ∷ []) → IsWay S N ws
way_down S count M N vs ws v w p o b (k, l, m) e f h = transport (IsWay S N) (sym f) (record { on = on_more S M N (vs ++ v ∷ []) w l e h.on; falls = λ t. falls_more t.rank vs v w (h.falls t) (t.falls v.unknown w.unknown p b k) })

-- The last unknown is left.
pub way_up : (S : List Bind) (M N : List Mark) (vs : List Visit) (v : Visit) → v.unknown < length M → N ≡ set M v.unknown Done → IsWay S M (vs ++ v ∷ []) → IsWay S N vs
way_up S M N vs v l e h = record {
  on = λ u o. elim (cases_eq u v.unknown) as (λ _. IsOn u vs) [
    | inl q ↦ let d : mark N u ≡ Done = ap (λ L. mark L u) e ∙ set_same M v.unknown u Done l q in let x : Done ≡ Open = sym d ∙ o in absurd (cc)
    | inr n ↦ elim (on_split u vs v (h.on u (sym (set_other M v.unknown u Done n) ∙ sym (ap (λ L. mark L u) e) ∙ o))) as (λ _. IsOn u vs) [ inl q ↦ absurd (n (sym q)) | inr g ↦ g ]
  ];
  falls = λ t. falls_first t.rank vs v (h.falls t);
}

-- what is visited is known where no walk is in it
visited_done : (m : Mark) → IsVisited m → m ≢ Open → m ≡ Done
visited_done Free v n = absurd v
visited_done (Bound i) v n = absurd v
visited_done Open v n = absurd (n refl)
visited_done Done v n = refl

-- The walk is in no unknown of the last bind, so those that are visited are known.
pub all_known : (S : List Bind) (count : ℕ) (M : List Mark) (vs : List Visit) (v : Visit) (p : Pat) → count ≡ length M → AreOrdered S count → IsBoundTo S v.unknown p → IsWay S M (vs ++ v ∷ []) → IsScan p M scan.Visited → AreKnown p M
all_known S count M vs v p n o b h s w k =
    let i = o.inside v.unknown w p b k in
    let l : w < length M = omega (arith, i, n) in
    let t = o.triangular in
    let f = t.falls v.unknown w p b k in
    (l, visited_done (mark M w) (s w k l) (λ q. let g = least t.rank w vs v (h.falls t) (h.on w q) in absurd (omega (arith, f, g))))

-- Where nothing is left to do, the walk is in no unknown.
pub none_open : (S : List Bind) (M : List Mark) (vs : List Visit) → vs ≡ [] → IsWay S M vs → NoneOpen M
none_open S M vs e h u o = transport (IsOn u) e (h.on u o)

-- what a walk that came to an end leaves
pub walked_by : (S : List Bind) (M N L : List Mark) (u : ℕ) (vs : List Visit) → u < length M → N ≡ set M u Open → AreKept N L → vs ≡ [] → IsWay S L vs → IsWalked M L u
walked_by S M N L u vs l e k f h = record {
  kept = kept_all M N L (kept_by M N u Open l e tt) k;
  visited = k u (transport (λ X. IsVisited (mark X u)) (sym e) (transport IsVisited (sym (set_same M u u Open l refl)) tt));
  ended = none_open S L vs f h;
}

pub walked_same : (M : List Mark) (u : ℕ) (m : Mark) → mark M u ≡ m → IsVisited m → NoneOpen M → IsWalked M M u
walked_same M u m e v n = record { kept = kept_same M; visited = transport IsVisited (sym e) v; ended = n }

-- All below a number are visited.
abbrev pub AreWalked : List Mark → ℕ → Type 0
AreWalked M n = (u : ℕ) → u < n → IsVisited (mark M u)

pub walked_more : (M N : List Mark) (n m : ℕ) → m ≡ n + 1 → AreWalked M n → IsWalked M N n → AreWalked N m
walked_more M N n m e h w u l = elim (cases_eq u n) as (λ _. IsVisited (mark N u)) [
  | inl q ↦ transport (λ x. IsVisited (mark N x)) (sym q) w.visited
  | inr k ↦ w.kept u (h u (omega (arith, e, k, l)))
]

pub walked_all : (M : List Mark) (n : ℕ) → AreWalked M n → NoneOpen M → (u : ℕ) → u < n → mark M u ≡ Done
walked_all M n h e u l = visited_done (mark M u) (h u l) (e u)
