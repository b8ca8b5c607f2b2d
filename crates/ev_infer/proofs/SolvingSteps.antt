-- What the walk over the unknowns of a solution needs: its steps over patterns.
use Rattle.std.specs.Prelude.{◌≡◌, ◌≢◌, ℕ, zero, suc, ◌+◌, ◌*◌, ◌<◌, ◌≤◌, ◌||◌, Bool as Boolean, true, false, List, [], ◌∷◌, ◌++◌, length, refl}
use Rattle.std.proofs.Common.{ap, sym, ◌∙◌, arith, append_assoc, append-nil, get_or, subst as transport}
use Rattle.std.proofs.lemmas.Bool.{eqb-true, eq-eqb}
use Rattle.ev_terms.specs.declared.types.Ty.{Ty, Int as IntType}
use Rattle.ev_terms.specs.declared.types.Ty.TheVariants.{Pow, Prod}
use Rattle.ev_terms.specs.declared.types.Tys.{Tys, Empty as NoTypes}
use Rattle.ev_terms.specs.declared.types.Tys.TheVariants.{More}
use Rattle.ev_terms.specs.Types.{more, type_list, Pow-pow, Prod-prod, More-more}
use Rattle.ev_typing.specs.TypeLists.{types as type_row}
use Rattle.ev_unify.specs.declared.patterns.Pat.{Pat, Unknown}
use Rattle.ev_unify.specs.declared.patterns.Pat.TheVariants.{Pow as PowPat, Prod as ProdPat}
use Rattle.ev_unify.specs.declared.patterns.Pats.{Pats, Empty}
use Rattle.ev_unify.specs.declared.patterns.Pats.TheVariants.{More as MorePats}
use Rattle.ev_unify.specs.Patterns.{PowPat-pow_pat, ProdPat-prod_pat, MorePats-more_pats, value, values, has_unknown, have_unknown}
use Rattle.ev_infer.specs.declared.solving.Mark.{Mark}
use Rattle.ev_infer.specs.declared.solving.Mark.TheVariants.{Free, Bound, Open, Done}
use Rattle.ev_unify.proofs.Spread.{pat_size, pats_size}
use Rattle.ev_infer.specs.declared.solving.Scan.{Scan}
use Rattle.ev_infer.specs.declared.solving.Scan.TheVariants as scan
use Rattle.ev_infer.specs.inner.Bulks.{type_at_unknown}
use Rattle.ev_infer.specs.inner.Solving.{mark, IsVisited, IsScanOf, IsScan, IsScanAll}

-- sizes of what the code writes
pub pat_size-Pow : (p : Pat) → pat_size (PowPat p) ≡ 1 + pat_size p
pat_size-Pow p = ap pat_size (PowPat-pow_pat p)

pub pat_size-Prod : (p q : Pat) → pat_size (ProdPat p q) ≡ 1 + (pat_size p + pat_size q)
pat_size-Prod p q = ap pat_size (ProdPat-prod_pat p q)

pub pats_size-More : (p : Pat) (ps : Pats) → pats_size (MorePats p ps) ≡ pat_size p + pats_size ps
pats_size-More p ps = ap pats_size (MorePats-more_pats p ps)

pub second_rank : (p a b r : Pat) → p ≡ ProdPat a b → r ≡ b → 2 * pat_size r < 2 * pat_size p
second_rank p a b r e q =
    let x : pat_size p ≡ 1 + (pat_size a + pat_size b) = ap pat_size e ∙ pat_size-Prod a b in
    let y : pat_size r ≡ pat_size b = ap pat_size q in
    omega arith

pub item_rank : (all left b : Pats) (a r : Pat) → left ≡ MorePats a b → r ≡ a → pats_size left ≤ pats_size all → 2 * pat_size r < 2 * pats_size all + 1
item_rank all left b a r e q h =
    let x : pats_size left ≡ pat_size a + pats_size b = ap pats_size e ∙ pats_size-More a b in
    let y : pat_size r ≡ pat_size a = ap pat_size q in
    omega arith

pub rest_size : (all left b r : Pats) (a : Pat) → left ≡ MorePats a b → r ≡ b → pats_size left ≤ pats_size all → pats_size r ≤ pats_size all
rest_size all left b r a e q h =
    let x : pats_size left ≡ pat_size a + pats_size b = ap pats_size e ∙ pats_size-More a b in
    let y : pats_size r ≡ pats_size b = ap pats_size q in
    omega arith

-- the unknowns of what the code writes
has-Pow : (w : ℕ) (p : Pat) → has_unknown w (PowPat p) ≡ has_unknown w p
has-Pow w p = ap (has_unknown w) (PowPat-pow_pat p)

has-Prod : (w : ℕ) (p q : Pat) → has_unknown w (ProdPat p q) ≡ (has_unknown w p || has_unknown w q)
has-Prod w p q = ap (has_unknown w) (ProdPat-prod_pat p q)

have-More : (w : ℕ) (p : Pat) (ps : Pats) → have_unknown w (MorePats p ps) ≡ (has_unknown w p || have_unknown w ps)
have-More w p ps = ap (have_unknown w) (MorePats-more_pats p ps)

or_left : (a b : Boolean) → a ≡ true → (a || b) ≡ true
or_left true b e = refl
or_left false b e = cc

or_right : (a b : Boolean) → b ≡ true → (a || b) ≡ true
or_right true b e = refl
or_right false b e = e

-- where the parts stand in the whole, what is found in a part is found in the whole
found_in : (part whole : ℕ → Boolean) (M : List Mark) (s : Scan) → ((w : ℕ) → part w ≡ true → whole w ≡ true) → s ≢ scan.Visited → IsScanOf part M s → IsScanOf whole M s
found_in part whole M scan.Free h n (w, e, l, m) = (w, h w e, l, m)
found_in part whole M (scan.Next v) h n (e, l, m) = (h v.unknown e, l, m)
found_in part whole M scan.Visited h n i = absurd (n refl)

both_in : (first rest whole : ℕ → Boolean) (M : List Mark) (s : Scan) → ((w : ℕ) → whole w ≡ (first w || rest w)) → IsScanOf first M scan.Visited → IsScanOf rest M s → IsScanOf whole M s
both_in first rest whole M scan.Free h f (w, e, l, m) = (w, h w ∙ or_right (first w) (rest w) e, l, m)
both_in first rest whole M (scan.Next v) h f (e, l, m) = (h v.unknown ∙ or_right (first v.unknown) (rest v.unknown) e, l, m)
both_in first rest whole M scan.Visited h f g = λ w e l. go w (first w) (rest w) refl refl (sym (h w) ∙ e) l
  where
    go : (w : ℕ) (a b : Boolean) → first w ≡ a → rest w ≡ b → (first w || rest w) ≡ true → w < length M → IsVisited (mark M w)
    go w true b ea eb e l = f w ea l
    go w false b ea eb e l = g w (sym (ap (λ x. x || rest w) ea) ∙ e) l

pub scan_pow : (p a a' : Pat) (M : List Mark) (s : Scan) → p ≡ PowPat a → a' ≡ a → IsScan a' M s → IsScan p M s
scan_pow p a a' M s e f h = transport (λ x. IsScan x M s) (sym (e ∙ PowPat-pow_pat a)) (transport (λ x. IsScan x M s) f h)

pub scan_first : (p a b a' : Pat) (M : List Mark) (s : Scan) → p ≡ ProdPat a b → a' ≡ a → s ≢ scan.Visited → IsScan a' M s → IsScan p M s
scan_first p a b a' M s e f n h =
    found_in (λ w. has_unknown w a') (λ w. has_unknown w p) M s
    (λ w k. ap (has_unknown w) e ∙ has-Prod w a b ∙ or_left (has_unknown w a) (has_unknown w b) (ap (has_unknown w) (sym f) ∙ k)) n h

pub scan_both : (p a b a' b' : Pat) (M : List Mark) (s : Scan) → p ≡ ProdPat a b → a' ≡ a → b' ≡ b → IsScan a' M scan.Visited → IsScan b' M s → IsScan p M s
scan_both p a b a' b' M s e f g h i =
    both_in (λ w. has_unknown w a') (λ w. has_unknown w b') (λ w. has_unknown w p) M s
    (λ w. ap (has_unknown w) e ∙ has-Prod w a b ∙ ap (λ x. x || has_unknown w b) (ap (has_unknown w) (sym f)) ∙ ap (λ x. has_unknown w a' || x) (ap (has_unknown w) (sym g))) h i

pub scan_head : (p : Pats) (a : Pat) (b : Pats) (a' : Pat) (M : List Mark) (s : Scan) → p ≡ MorePats a b → a' ≡ a → s ≢ scan.Visited → IsScan a' M s → IsScanAll p M s
scan_head p a b a' M s e f n h =
    found_in (λ w. has_unknown w a') (λ w. have_unknown w p) M s
    (λ w k. ap (have_unknown w) e ∙ have-More w a b ∙ or_left (has_unknown w a) (have_unknown w b) (ap (has_unknown w) (sym f) ∙ k)) n h

-- what the rest of a list gives, the whole gives
abbrev pub IsRest : Pats → Pats → List Mark → Type 0
IsRest rest all M = (s : Scan) → IsScanAll rest M s → IsScanAll all M s

pub rest_start : (all : Pats) (M : List Mark) → IsRest all all M
rest_start all M s h = h

pub rest_step : (all left : Pats) (a : Pat) (b : Pats) (a' : Pat) (b' : Pats) (M : List Mark) (r : Scan) → left ≡ MorePats a b → a' ≡ a → b' ≡ b → IsScan a' M r → r ≡ scan.Visited → IsRest left all M → IsRest b' all M
rest_step all left a b a' b' M r e f g h v rest s i =
    rest s
    (both_in (λ w. has_unknown w a') (λ w. have_unknown w b') (λ w. have_unknown w left) M s
    (λ w. ap (have_unknown w) e ∙ have-More w a b ∙ ap (λ x. x || have_unknown w b) (ap (has_unknown w) (sym f)) ∙ ap (λ x. has_unknown w a' || x) (ap (have_unknown w) (sym g))) (transport (IsScan a' M) v h) i)

pub rest_found : (all left : Pats) (a : Pat) (b : Pats) (a' : Pat) (M : List Mark) (r : Scan) → left ≡ MorePats a b → a' ≡ a → r ≢ scan.Visited → IsScan a' M r → IsRest left all M → IsScanAll all M r
rest_found all left a b a' M r e f n h rest = rest r (scan_head left a b a' M r e f n h)

pub rest_end : (all left : Pats) (M : List Mark) → left ≡ Empty → IsRest left all M → IsScanAll all M scan.Visited
rest_end all left M e rest = rest scan.Visited (transport (λ x. IsScanAll x M scan.Visited) (sym e) (λ w k l. cc))

pub scan_leaf : (p : Pat) (M : List Mark) → ((w : ℕ) → has_unknown w p ≡ false) → IsScan p M scan.Visited
scan_leaf p M h w e l = absurd (Rattle.std.proofs.Common.true≢false (sym e ∙ h w))

pub mark_is : (M : List Mark) (u : ℕ) (m : Mark) → u < length M → m ≡ get_or M u m → mark M u ≡ m
mark_is [] u m h e = absurd (omega (arith, h))
mark_is (n ∷ ns) zero m h e = sym e
mark_is (n ∷ ns) (suc u) m h e = mark_is ns u m (omega arith) e

pub unknown_free : (u : ℕ) (M : List Mark) (m : Mark) → u < length M → m ≡ get_or M u m → m ≡ Free → IsScan (Unknown u) M scan.Free
unknown_free u M m l e f = (u, eq-eqb u u refl, l, mark_is M u m l e ∙ f)

pub unknown_next : (u i : ℕ) (M : List Mark) (m : Mark) → u < length M → m ≡ get_or M u m → m ≡ Bound i → IsScan (Unknown u) M (scan.Next (record { unknown = u; bind = i }))
unknown_next u i M m l e f = (eq-eqb u u refl, l, mark_is M u m l e ∙ f)

visited_by : (u : ℕ) (M : List Mark) (m : Mark) → u < length M → m ≡ get_or M u m → IsVisited m → IsScan (Unknown u) M scan.Visited
visited_by u M m l e v w k n = let q : u ≡ w = eqb-true u w k in transport (λ x. IsVisited (mark M x)) q (transport IsVisited (sym (mark_is M u m l e)) v)

pub unknown_open : (u : ℕ) (M : List Mark) (m : Mark) → u < length M → m ≡ get_or M u m → m ≡ Open → IsScan (Unknown u) M scan.Visited
unknown_open u M m l e f = visited_by u M m l e (transport IsVisited (sym f) tt)

pub unknown_done : (u : ℕ) (M : List Mark) (m : Mark) → u < length M → m ≡ get_or M u m → m ≡ Done → IsScan (Unknown u) M scan.Visited
unknown_done u M m l e f = visited_by u M m l e (transport IsVisited (sym f) tt)

pub unknown_past : (u : ℕ) (M : List Mark) → length M ≤ u → IsScan (Unknown u) M scan.Visited
unknown_past u M h w k l = let q : u ≡ w = eqb-true u w k in absurd (omega (arith, q, h, l))

pub ruleset scanning = (scan_pow, scan_first, scan_both, rest_start, rest_found, rest_end, unknown_free, unknown_next, unknown_open, unknown_done, unknown_past, pat_size-Pow, pat_size-Prod, pats_size-More)

-- types of patterns
pub value-Pow : (σ : ℕ → Ty) (p : Pat) → value σ (PowPat p) ≡ Pow (value σ p)
value-Pow σ p = ap (value σ) (PowPat-pow_pat p) ∙ sym (Pow-pow (value σ p))

pub value-Prod : (σ : ℕ → Ty) (p q : Pat) → value σ (ProdPat p q) ≡ Prod (value σ p) (value σ q)
value-Prod σ p q = ap (value σ) (ProdPat-prod_pat p q) ∙ sym (Prod-prod (value σ p) (value σ q))

pub values-More : (σ : ℕ → Ty) (p : Pat) (ps : Pats) → values σ (MorePats p ps) ≡ More (value σ p) (values σ ps)
values-More σ p ps = ap (values σ) (MorePats-more_pats p ps) ∙ sym (More-more (value σ p) (values σ ps))

pub ruleset building = (value-Pow, value-Prod, pat_size-Pow, pat_size-Prod)

row_list : (As : Tys) → type_row (type_list As) ≡ As
row_list NoTypes = refl
row_list (more A As) = ap (more A) (row_list As)

-- one more type of a list
pub made_step : (σ : ℕ → Ty) (old new all : List Ty) (left rest got : Pats) (a a' : Pat) (A : Ty) → left ≡ MorePats a rest → a' ≡ a → got ≡ rest → A ≡ value σ a' → new ≡ old ++ A ∷ []
    → old ++ type_list (values σ left) ≡ all → new ++ type_list (values σ got) ≡ all
made_step σ old new all left rest got a a' A e f g q n h =
    ap (λ l. l ++ type_list (values σ got)) n ∙ append_assoc old (A ∷ []) (type_list (values σ got))
    ∙ ap (λ x. old ++ x ∷ type_list (values σ got)) (q ∙ ap (value σ) f) ∙ ap (λ r. old ++ value σ a ∷ type_list (values σ r)) g
    ∙ ap (λ l. old ++ type_list l) (sym (ap (values σ) e ∙ ap (values σ) (MorePats-more_pats a rest))) ∙ h

pub made_end : (σ : ℕ → Ty) (made : List Ty) (left list : Pats) → left ≡ Empty → made ++ type_list (values σ left) ≡ type_list (values σ list) → type_row made ≡ values σ list
made_end σ made left list e h = ap type_row (sym (append-nil made) ∙ ap (λ l. made ++ type_list (values σ l)) (sym e) ∙ h) ∙ row_list (values σ list)

-- one more type at the front of a list
pub list_step : (old new start : List Ty) (last a : Ty) (list rest got : Tys) → old ≡ new ++ last ∷ [] → got ≡ More a rest → a ≡ last → rest ≡ list → old ++ type_list list ≡ start → new ++ type_list got ≡ start
list_step old new start last a list rest got o e f g h =
    ap (λ l. new ++ type_list l) (e ∙ More-more a rest) ∙ ap (λ x. new ++ x ∷ type_list rest) f ∙ ap (λ r. new ++ last ∷ type_list r) g
    ∙ sym (append_assoc new (last ∷ []) (type_list list)) ∙ ap (λ l. l ++ type_list list) (sym o) ∙ h

pub list_end : (left start : List Ty) (list : Tys) → left ≡ [] → left ++ type_list list ≡ start → list ≡ type_row start
list_end left start list e h = sym (row_list list) ∙ ap type_row (ap (λ l. l ++ type_list list) (sym e) ∙ h)

pub ruleset lists = (append_assoc)

pub type_past : (types : List Ty) (u : ℕ) → length types ≤ u → IntType ≡ type_at_unknown types u
type_past [] u h = refl
type_past (a ∷ as') zero h = absurd (omega (arith, h))
type_past (a ∷ as') (suc u) h = type_past as' u (omega arith)

pub type_inside : (types : List Ty) (u : ℕ) (a : Ty) → u < length types → a ≡ get_or types u a → a ≡ type_at_unknown types u
type_inside [] u a h e = absurd (omega (arith, h))
type_inside (b ∷ bs) zero a h e = e
type_inside (b ∷ bs) (suc u) a h e = type_inside bs u a (omega arith) e

pub ruleset unknowns = (type_past, type_inside)
