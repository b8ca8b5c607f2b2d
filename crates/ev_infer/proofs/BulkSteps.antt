-- What the code that measures types needs.
use Rattle.std.specs.Prelude.{◌≡◌, ℕ, zero, suc, ◌+◌, ◌*◌, ◌<◌, ◌≤◌, List, [], ◌∷◌, length, refl}
use Rattle.std.proofs.Common.{ap, sym, ◌∙◌, arith, get_or}
use Rattle.ev_terms.specs.declared.types.Ty.{Ty}
use Rattle.ev_terms.specs.declared.types.Ty.TheVariants.{Pow, Prod}
use Rattle.ev_terms.specs.declared.types.Tys.{Tys, Empty as NoTypes}
use Rattle.ev_terms.specs.declared.types.Tys.TheVariants.{More}
use Rattle.ev_terms.specs.Measures.{type_size, types_size, types_depth}
use Rattle.ev_terms.proofs.Children.{type_size-Pow, type_size-Prod, types_size-More, type_depth-Pow, type_depth-Prod, types_depth-More}
use Rattle.ev_unify.specs.declared.patterns.Pat.{Pat}
use Rattle.ev_unify.specs.declared.patterns.Pat.TheVariants.{Pow as PowPat, Prod as ProdPat}
use Rattle.ev_unify.specs.declared.patterns.Pats.{Pats, Empty as NoPats}
use Rattle.ev_unify.specs.declared.patterns.Pats.TheVariants.{More as MorePats}
use Rattle.ev_unify.specs.Patterns.{more_pats, PowPat-pow_pat, ProdPat-prod_pat, MorePats-more_pats}
use Rattle.ev_infer.proofs.SolvingSteps.{pat_size-Pow, pat_size-Prod}
use Rattle.ev_infer.specs.declared.bulks.Bulk.{Bulk}
use Rattle.ev_infer.specs.inner.Bulks.{cap, bulk, above, beside, type_bulk, types_bulk, pat_bulk, pats_bulk, bulk_at}

bulk_by : (m n m' n' : ℕ) → m ≡ m' → n ≡ n' → ◌≡◌ {A = Bulk} (record { size = m; depth = n }) (record { size = m'; depth = n' })
bulk_by m n m' n' p q = cc

pub pow_bulk : (a : Ty) → above (type_bulk a) ≡ type_bulk (Pow a)
pow_bulk a =
    let s = type_size-Pow a in
    let d = type_depth-Pow a in
    bulk_by _ _ _ _ (omega arith) (omega arith)

pub prod_bulk : (a b : Ty) → above (beside (type_bulk a) (type_bulk b)) ≡ type_bulk (Prod a b)
prod_bulk a b =
    let s = type_size-Prod a b in
    let d = type_depth-Prod a b in
    bulk_by _ _ _ _ (omega arith) (omega arith)

pub data_bulk : (As : Tys) → above (types_bulk As) ≡ bulk (1 + types_size As) (1 + types_depth As)
data_bulk As = bulk_by _ _ _ _ (omega arith) (omega arith)

pub more_bulk : (a : Ty) (rest : Tys) → beside (type_bulk a) (types_bulk rest) ≡ types_bulk (More a rest)
more_bulk a rest =
    let s = types_size-More a rest in
    let d = types_depth-More a rest in
    bulk_by _ _ _ _ (omega arith) (omega arith)

pub ruleset types = (pow_bulk, prod_bulk, data_bulk, type_size-Pow, type_size-Prod)

pub pat_bulk-Pow : (e : ℕ → Bulk) (p : Pat) → pat_bulk e (PowPat p) ≡ above (pat_bulk e p)
pat_bulk-Pow e p = ap (pat_bulk e) (PowPat-pow_pat p)

pub pat_bulk-Prod : (e : ℕ → Bulk) (p q : Pat) → pat_bulk e (ProdPat p q) ≡ above (beside (pat_bulk e p) (pat_bulk e q))
pat_bulk-Prod e p q = ap (pat_bulk e) (ProdPat-prod_pat p q)

pub pats_bulk-More : (e : ℕ → Bulk) (p : Pat) (ps : Pats) → pats_bulk e (MorePats p ps) ≡ beside (pat_bulk e p) (pats_bulk e ps)
pats_bulk-More e p ps = ap (pats_bulk e) (MorePats-more_pats p ps)

pub ruleset patterns = (pat_bulk-Pow, pat_bulk-Prod, pat_size-Pow, pat_size-Prod)

pub bulk_past : (bulks : List Bulk) (u : ℕ) → length bulks ≤ u → bulk_at bulks u ≡ bulk 0 0
bulk_past [] u h = refl
bulk_past (b ∷ bs) zero h = absurd (omega (arith, h))
bulk_past (b ∷ bs) (suc u) h = bulk_past bs u (omega arith)

pub bulk_inside : (bulks : List Bulk) (u : ℕ) (b : Bulk) → u < length bulks → b ≡ get_or bulks u b → b ≡ bulk_at bulks u
bulk_inside [] u b h e = absurd (omega (arith, h))
bulk_inside (c ∷ cs) zero b h e = e
bulk_inside (c ∷ cs) (suc u) b h e = bulk_inside cs u b (omega arith) e

pub ruleset unknowns = (bulk_past, bulk_inside)

-- arms with two parts
pub prod_pat_by : (e : ℕ → Bulk) (p a b a' b' : Pat) (r s x y : Bulk) → p ≡ ProdPat a b → a' ≡ a → b' ≡ b → x ≡ pat_bulk e a' → y ≡ pat_bulk e b' → s ≡ beside x y → r ≡ above s → r ≡ pat_bulk e p
prod_pat_by e p a b a' b' r s x y ep ea eb ex ey es er =
    er ∙ ap above (es ∙ ap (λ z. beside z y) (ex ∙ ap (pat_bulk e) ea) ∙ ap (λ z. beside (pat_bulk e a) z) (ey ∙ ap (pat_bulk e) eb)) ∙ sym (ap (pat_bulk e) ep ∙ pat_bulk-Prod e a b)

pub prod_by : (p a b a' b' : Ty) (r s x y : Bulk) → p ≡ Prod a b → a' ≡ a → b' ≡ b → x ≡ type_bulk a' → y ≡ type_bulk b' → s ≡ beside x y → r ≡ above s → r ≡ type_bulk p
prod_by p a b a' b' r s x y ep ea eb ex ey es er =
    er ∙ ap above (es ∙ ap (λ z. beside z y) (ex ∙ ap type_bulk ea) ∙ ap (λ z. beside (type_bulk a) z) (ey ∙ ap type_bulk eb)) ∙ sym (ap type_bulk ep ∙ sym (prod_bulk a b))

-- Lists, one item after the other.
beside_assoc : (a b c : Bulk) → beside (beside a b) c ≡ beside a (beside b c)
beside_assoc a b c = bulk_by _ _ _ _ (omega arith) (omega arith)

beside_nothing : (a : Bulk) → a.size ≤ 340282366920938463463374607431768211455 → beside a (bulk 0 0) ≡ a
beside_nothing a h = bulk_by _ _ _ _ (omega (arith, h)) (omega arith)

nothing_beside : (a : Bulk) → a.size ≤ 340282366920938463463374607431768211455 → beside (bulk 0 0) a ≡ a
nothing_beside a h = bulk_by _ _ _ _ (omega (arith, h)) (omega arith)

pub small_beside : (next all x : Bulk) → next ≡ beside all x → next.size ≤ 340282366920938463463374607431768211455
small_beside next all x e = let q : next.size ≡ cap (all.size + x.size) = ap (λ (b : Bulk). b.size) e in omega (arith, q)

types_small : (As : Tys) → (types_bulk As).size ≤ 340282366920938463463374607431768211455
types_small As = omega arith

pub types_start : (As : Tys) → beside (bulk 0 0) (types_bulk As) ≡ types_bulk As
types_start As = nothing_beside (types_bulk As) (types_small As)

pub types_step : (whole all next x : Bulk) (left rest got : Tys) (a a' : Ty) → left ≡ More a rest → a' ≡ a → got ≡ rest → x ≡ type_bulk a' → next ≡ beside all x → beside all (types_bulk left) ≡ whole → beside next (types_bulk got) ≡ whole
types_step whole all next x left rest got a a' e f g q n h =
    ap (λ b. beside b (types_bulk got)) (n ∙ ap (beside all) (q ∙ ap type_bulk f)) ∙ ap (λ r. beside (beside all (type_bulk a)) (types_bulk r)) g ∙ beside_assoc all (type_bulk a) (types_bulk rest) ∙ ap (beside all) (more_bulk a rest ∙ sym (ap types_bulk e)) ∙ h

pub types_end : (whole all : Bulk) (left : Tys) → left ≡ NoTypes → all.size ≤ 340282366920938463463374607431768211455 → beside all (types_bulk left) ≡ whole → all ≡ whole
types_end whole all left e l h = sym (beside_nothing all l) ∙ ap (λ As. beside all (types_bulk As)) (sym e) ∙ h

pub item_rank : (all left b : Tys) (a r : Ty) → left ≡ More a b → r ≡ a → types_size left ≤ types_size all → 2 * type_size r < 2 * types_size all + 1
item_rank all left b a r e q h =
    let x : types_size left ≡ type_size a + types_size b = ap types_size e ∙ types_size-More a b in
    let y : type_size r ≡ type_size a = ap type_size q in
    omega arith

pub rest_size : (all left b r : Tys) (a : Ty) → left ≡ More a b → r ≡ b → types_size left ≤ types_size all → types_size r ≤ types_size all
rest_size all left b r a e q h =
    let x : types_size left ≡ type_size a + types_size b = ap types_size e ∙ types_size-More a b in
    let y : types_size r ≡ types_size b = ap types_size q in
    omega arith

pub right_rank : (ty a b r : Ty) → ty ≡ Prod a b → r ≡ b → 2 * type_size r < 2 * type_size ty
right_rank ty a b r e q =
    let x : type_size ty ≡ 1 + (type_size a + type_size b) = ap type_size e ∙ type_size-Prod a b in
    let y : type_size r ≡ type_size b = ap type_size q in
    omega arith

pats_small : (e : ℕ → Bulk) (ps : Pats) → (pats_bulk e ps).size ≤ 340282366920938463463374607431768211455
pats_small e NoPats = omega arith
pats_small e (more_pats p ps) = omega arith

pub pats_start : (e : ℕ → Bulk) (ps : Pats) → beside (bulk 0 0) (pats_bulk e ps) ≡ pats_bulk e ps
pats_start e ps = nothing_beside (pats_bulk e ps) (pats_small e ps)

pub pats_step : (e : ℕ → Bulk) (whole all next x : Bulk) (left rest got : Pats) (a a' : Pat) → left ≡ MorePats a rest → a' ≡ a → got ≡ rest → x ≡ pat_bulk e a' → next ≡ beside all x → beside all (pats_bulk e left) ≡ whole → beside next (pats_bulk e got) ≡ whole
pats_step v whole all next x left rest got a a' e f g q n h =
    ap (λ b. beside b (pats_bulk v got)) (n ∙ ap (beside all) (q ∙ ap (pat_bulk v) f)) ∙ ap (λ r. beside (beside all (pat_bulk v a)) (pats_bulk v r)) g ∙ beside_assoc all (pat_bulk v a) (pats_bulk v rest)
    ∙ ap (beside all) (sym (pats_bulk-More v a rest) ∙ sym (ap (pats_bulk v) e)) ∙ h

pub pats_end : (e : ℕ → Bulk) (whole all : Bulk) (left : Pats) → left ≡ NoPats → all.size ≤ 340282366920938463463374607431768211455 → beside all (pats_bulk e left) ≡ whole → all ≡ whole
pats_end v whole all left e l h = sym (beside_nothing all l) ∙ ap (λ ps. beside all (pats_bulk v ps)) (sym e) ∙ h
