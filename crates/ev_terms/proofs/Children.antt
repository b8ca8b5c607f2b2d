-- What a walk over the children of a term needs: the list that is left, and that each child is less deep.
use Rattle.std.proofs.Common.{◌≡◌, ℕ, zero, suc, ◌+◌, ◌*◌, ◌≤◌, ◌<◌, List, [], ◌∷◌, length, get_or, drop, max, refl, sym, ap, ◌∙◌, arith, add-one, drop-cons}
use Rattle.ev_terms.specs.Term.{Term, terms}
use Rattle.ev_terms.specs.declared.types.Ty.{Ty}
use Rattle.ev_terms.specs.declared.types.Tys.{Tys}
use Rattle.ev_terms.specs.Types.{Pow-pow, Prod-prod, More-more}
use Rattle.ev_terms.specs.declared.types.Ty.TheVariants.{Pow, Prod}
use Rattle.ev_terms.specs.declared.extents.Extent.{Extent}
use Rattle.ev_terms.specs.declared.types.Tys.TheVariants.{More}
use Rattle.ev_terms.proofs.TypeSteps.{before_rest, type_list-More, type_inst-Pow, type_inst-Prod, types_inst-More}
use Rattle.ev_terms.specs.Measures.{capped, type_params, types_params, type_size, types_size, type_depth, types_depth, depth, depths, highest, all_highest}

-- The measures by which a walk over a term and over its children falls.
abbrev pub rank : Term → ℕ
rank t = 3 * depth t + 2

abbrev pub rank_all : List Term → ℕ
rank_all ts = 3 * depths (terms ts) + 3

-- of a function between the two
abbrev pub rank_children : List Term → ℕ
rank_children ts = 3 * depths (terms ts) + 4

pub depth_at : (ts : List Term) (i : ℕ) (t : Term) → t ≡ get_or ts i t → i < length ts → depth t ≤ depths (terms ts)
depth_at [] i t e h = absurd (omega arith)
depth_at (u ∷ us) zero t e h = let p : depth t ≡ depth u = ap depth e in omega arith
depth_at (u ∷ us) (suc i) t e h = omega (arith, depth_at us i t e (omega arith))

pub highest_at : (ts : List Term) (i : ℕ) (t : Term) → t ≡ get_or ts i t → i < length ts → highest t ≤ all_highest (terms ts)
highest_at [] i t e h = absurd (omega arith)
highest_at (u ∷ us) zero t e h = let p : highest t ≡ highest u = ap highest e in omega arith
highest_at (u ∷ us) (suc i) t e h = omega (arith, highest_at us i t e (omega arith))

pub drop_at : (ts : List Term) (i : ℕ) (t : Term) → t ≡ get_or ts i t → i < length ts → drop i ts ≡ t ∷ drop (i + 1) ts
drop_at ts i t e h = drop-cons ts i t h ∙ ap (λ u. u ∷ drop (suc i) ts) (sym e) ∙ ap (λ k. t ∷ drop k ts) (sym (add-one i))

pub drop_all : (ts : List Term) (i : ℕ) → length ts ≤ i → drop i ts ≡ []
drop_all [] zero h = refl
drop_all [] (suc i) h = refl
drop_all (t ∷ ts) zero h = absurd (omega arith)
drop_all (t ∷ ts) (suc i) h = drop_all ts i (omega arith)

pub ruleset walk = (depth_at, drop_at, drop_all)

-- the recursions over types at what the code writes
pub type_size-Pow : (a : Ty) → type_size (Pow a) ≡ 1 + type_size a
type_size-Pow a = ap type_size (Pow-pow a)

pub type_size-Prod : (a b : Ty) → type_size (Prod a b) ≡ 1 + (type_size a + type_size b)
type_size-Prod a b = ap type_size (Prod-prod a b)

pub types_size-More : (a : Ty) (ts : Tys) → types_size (More a ts) ≡ type_size a + types_size ts
types_size-More a ts = ap types_size (More-more a ts)

pub type_depth-Pow : (a : Ty) → type_depth (Pow a) ≡ 1 + type_depth a
type_depth-Pow a = ap type_depth (Pow-pow a)

pub type_depth-Prod : (a b : Ty) → type_depth (Prod a b) ≡ 1 + max (type_depth a) (type_depth b)
type_depth-Prod a b = ap type_depth (Prod-prod a b)

pub types_depth-More : (a : Ty) (ts : Tys) → types_depth (More a ts) ≡ max (type_depth a) (types_depth ts)
types_depth-More a ts = ap types_depth (More-more a ts)

pub type_params-Pow : (a : Ty) → type_params (Pow a) ≡ type_params a
type_params-Pow a = ap type_params (Pow-pow a)

pub type_params-Prod : (a b : Ty) → type_params (Prod a b) ≡ max (type_params a) (type_params b)
type_params-Prod a b = ap type_params (Prod-prod a b)

pub types_params-More : (a : Ty) (ts : Tys) → types_params (More a ts) ≡ max (type_params a) (types_params ts)
types_params-More a ts = ap types_params (More-more a ts)

-- the extent of a type from those of its parts
extent_by : (m n m' n' : ℕ) → m ≡ m' → n ≡ n' → ◌≡◌ {A = Extent} (record { size = m; depth = n }) (record { size = m'; depth = n' })
extent_by m n m' n' p q = cc

pub extent_prod : (a b : Ty) →
    ◌≡◌ {A = Extent} (record {
      size = capped (1 + capped (capped (type_size a) + capped (type_size b)));
      depth = capped (1 + max (capped (type_depth a)) (capped (type_depth b)));
    }) (record { size = capped (type_size (Prod a b)); depth = capped (type_depth (Prod a b)) })
extent_prod a b =
    let s : type_size (Prod a b) ≡ 1 + (type_size a + type_size b) = ap type_size (Prod-prod a b) in
    let d : type_depth (Prod a b) ≡ 1 + max (type_depth a) (type_depth b) = ap type_depth (Prod-prod a b) in
    extent_by _ _ _ _ (omega arith) (omega arith)

-- A step along a list of types.
pub size_step : (left rest got : Tys) (a : Ty) (n : ℕ) → left ≡ More a rest → got ≡ rest → types_size left ≤ n → types_size got ≤ n
size_step left rest got a n l g h =
    let e : types_size left ≡ type_size a + types_size got = ap types_size (before_rest left rest got a l g) in
    omega (arith, e, h)

pub extent_step : (left rest got : Tys) (a x : Ty) (all one new : Extent) (n d : ℕ) → left ≡ More a rest → got ≡ rest → x ≡ a →
    one ≡ record { size = capped (type_size x); depth = capped (type_depth x) } →
    new ≡ record { size = capped (all.size + one.size); depth = max all.depth one.depth } →
    all.size ≤ 18446744073709551615 → capped (all.size + types_size left) ≡ capped n → max all.depth (capped (types_depth left)) ≡ capped d →
    (new.size ≤ 18446744073709551615) × ((capped (new.size + types_size got) ≡ capped n) × (max new.depth (capped (types_depth got)) ≡ capped d))
extent_step left rest got a x all one new n d l g e o w fits s t =
    let sizes : types_size left ≡ type_size a + types_size got = ap types_size (before_rest left rest got a l g) in
    let depths : types_depth left ≡ max (type_depth a) (types_depth got) = ap types_depth (before_rest left rest got a l g) in
    let one_size : one.size ≡ capped (type_size a) = ap (λ y. y.size) o ∙ ap (λ y. capped (type_size y)) e in
    let one_depth : one.depth ≡ capped (type_depth a) = ap (λ y. y.depth) o ∙ ap (λ y. capped (type_depth y)) e in
    let new_size : new.size ≡ capped (all.size + one.size) = ap (λ y. y.size) w in
    let new_depth : new.depth ≡ max all.depth one.depth = ap (λ y. y.depth) w in
    (omega (arith, new_size), (omega (arith, sizes, one_size, new_size, fits, s), omega (arith, depths, one_depth, new_depth, t)))

pub params_step : (left rest got : Tys) (a x : Ty) (all one new n : ℕ) → left ≡ More a rest → got ≡ rest → x ≡ a → one ≡ type_params x → new ≡ max one all →
    max all (types_params left) ≡ n → max new (types_params got) ≡ n
params_step left rest got a x all one new n l g e o w h =
    let all_params : types_params left ≡ max (type_params a) (types_params got) = ap types_params (before_rest left rest got a l g) in
    let one_params : one ≡ type_params a = o ∙ ap type_params e in
    omega (arith, all_params, one_params, w, h)

pub ruleset types_walk = (type_params-Pow, type_params-Prod, types_params-More, type_size-Pow, type_size-Prod, types_size-More, type_depth-Pow, type_depth-Prod, types_depth-More)

pub second_size : (p a b b' : Ty) → p ≡ Prod a b → b' ≡ b → type_size b' < type_size p
second_size p a b b' e f =
    let s : type_size p ≡ 1 + (type_size a + type_size b) = ap type_size e ∙ type_size-Prod a b in
    let r : type_size b' ≡ type_size b = ap type_size f in
    omega (arith, s, r)

pub ruleset instance_walk = (type_list-More, type_inst-Pow, type_inst-Prod, types_inst-More, type_size-Pow, type_size-Prod, types_size-More)
