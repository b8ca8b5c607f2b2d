-- The answers of inference by the equations of a bare term.
use Rattle.std.specs.Prelude.{◌≡◌, ℕ, zero, suc, ◌+◌, ◌<◌, ◌≤◌, ◌^◌, ◌⊎◌, ◌||◌, ◌==◌, max, Bool as Boolean, true, false, List, [], ◌++◌, map, Option, Some, None, option_map, option_and_then, if◌then◌else◌, refl}
use Rattle.std.proofs.Common.{ap, sym, ◌∙◌, arith, inl, inr, subst as transport}
use Rattle.std.proofs.lemmas.Bool.{eqb-true}
use Rattle.ev_terms.specs.declared.extents.Extent.{Extent}
use Rattle.ev_terms.specs.declared.types.Ty.{Ty, Int as IntType, Bool as BoolType, Prop, Param as ParamType, Data as DataType}
use Rattle.ev_terms.specs.declared.types.Tys.{Tys, Empty as NoTypes}
use Rattle.ev_terms.specs.Types.{pow, prod, more}
use Rattle.ev_terms.specs.Term.{Term, node, cons}
use Rattle.ev_terms.specs.Measures.{size, sizes, depth, depths, types_size, types_depth}
use Rattle.ev_typing.specs.Env.{Env, profile}
use Rattle.ev_typing.specs.Proper.{is_result}
use Rattle.ev_unify.specs.declared.patterns.Pat.{Pat}
use Rattle.ev_unify.specs.declared.patterns.Pats.{Empty}
use Rattle.ev_unify.specs.declared.patterns.PatPair.{PatPair}
use Rattle.ev_unify.specs.declared.patterns.Bind.{Bind}
use Rattle.ev_unify.specs.Patterns.{values, has_unknown, have_unknown, all_followed}
use Rattle.ev_unify.specs.Solutions.{HasSolution, IsMostGeneral, IsUnifier, follow}
use Rattle.ev_unify.proofs.Followed.{follow_step, unifier_general}
use Rattle.ev_infer.specs.declared.bulks.Bulk.{Bulk}
use Rattle.ev_infer.specs.declared.sorts.Walked.{Walked}
use Rattle.ev_infer.specs.declared.solving.Table.{Table}
use Rattle.ev_infer.specs.declared.faults.InferFault.{InferFault}
use Rattle.ev_infer.specs.declared.faults.InferFault.TheVariants as fault
use Rattle.ev_infer.specs.Annotates.{IsPast}
use Rattle.ev_resolve.specs.Bare.{Bare, Bares, bare_var, bare_lit, bare_node, bare_of, bare_none, bare_more}
use Rattle.ev_infer.specs.Equations.{PatTerm, PatTerms, pat_var, pat_lit, pat_node, pat_nil, pat_cons, filled, all_filled, patterns_of, same_pattern, unknowns, sort_of, meet, Emitted, emit}
use Rattle.ev_infer.specs.inner.Numbers.{params_of, node_numbers, numbered, all_numbered}
use Rattle.ev_infer.specs.Inference.{is_open, are_open, leaves_free, leave_free, asked, with_pairs, bare_equations}
use Rattle.ev_infer.specs.inner.Walks.{Walk, AllWalk, walk_of, walk_told, all_walk_told}
use Rattle.ev_infer.specs.inner.Bulks.{bulk, above, beside, type_bulk, types_bulk, tree_bulk, trees_bulk, term_bulk, terms_bulk, bulk_at, type_at_unknown, IsWithin}
use Rattle.ev_infer.specs.inner.Solving.{IsEnded, ended_type, IsSolved, UseBelow}
use Rattle.ev_infer.specs.declared.annotation.Equations.{Equations}
use Rattle.ev_infer.specs.inner.Answering.{pairs_of, equations_told, asked_walk, IsSettled, OnFault, IsGiven, IsSolvedTable, OnSolveFault, IsFilled, OnFillFault}
use Rattle.ev_infer.proofs.Sound.{and_then_gives, map_gives, if_gives, some_gives}
use Rattle.ev_infer.proofs.Below.{equations_use}
use Rattle.ev_infer.proofs.Numbers.{emit_numbered}
use Rattle.ev_infer.proofs.UnknownSteps.{all_closed_followed, bulk_values, values_within, within_less}

-- The equations with the pair of a type that is asked.
walk_out : (o : Option Emitted) (w : Walk) → Some w ≡ option_map (walk_of []) o → (e : Emitted) × (o ≡ Some e) × (w ≡ walk_of [] e)
walk_out None w h = cc
walk_out (Some e) w h = (e, refl, cc)

none_out : (o : Option Emitted) → None ≡ option_map (walk_of []) o → o ≡ None
none_out None h = refl
none_out (Some e) h = cc

all_walk_by : (ps qs : List PatPair) (m n : ℕ) → ps ≡ qs → m ≡ n → ◌≡◌ {A = Option AllWalk} (Some (record { pairs = ps; next = m })) (Some (record { pairs = qs; next = n }))
all_walk_by ps qs m n e f = cc

pub equations_none : (env : Env) (ctx : List Pat) (expected : Option Ty) (b : Bare) → None ≡ option_map (walk_of []) (emit env b ctx 0) → ◌≡◌ {A = Option AllWalk} None (option_map pairs_of (bare_equations env ctx expected b))
equations_none env ctx expected b h = sym (ap (λ o. option_map pairs_of (option_and_then (asked env expected) o)) (none_out (emit env b ctx 0) h))

pub equations_plain : (env : Env) (ctx : List Pat) (b : Bare) (pairs : List PatPair) (w : Walked) → Some (walk_told pairs w) ≡ option_map (walk_of []) (emit env b ctx 0) →
    Some (all_walk_told pairs w.next) ≡ option_map pairs_of (bare_equations env ctx None b)
equations_plain env ctx b pairs w h =
    let (e, eo, ew) = walk_out (emit env b ctx 0) (walk_told pairs w) h in
    all_walk_by pairs e.pairs w.next e.next (ap (λ (x : Walk). x.pairs) ew) (ap (λ (x : Walk). x.next) ew)
    ∙ sym (ap (λ o. option_map pairs_of (option_and_then (asked env None) o)) eo)

pub equations_asked : (env : Env) (ctx : List Pat) (A : Ty) (b : Bare) (pairs : List PatPair) (w : Walked) (r : Option AllWalk) → Some (walk_told pairs w) ≡ option_map (walk_of []) (emit env b ctx 0) →
    r ≡ asked_walk env A pairs w → r ≡ option_map pairs_of (bare_equations env ctx (Some A) b)
equations_asked env ctx A b pairs w r h g =
    let (e, eo, ew) = walk_out (emit env b ctx 0) (walk_told pairs w) h in
    g ∙ by e (ap (λ (x : Walk). x.pairs) ew) (ap (λ (x : Walk). x.next) ew) (ap (λ (x : Walk). x.sort) ew)
    ∙ sym (ap (λ o. option_map pairs_of (option_and_then (asked env (Some A)) o)) eo)
  where
    inner : (e : Emitted) (o : Option (List PatPair)) → option_map (λ qs. all_walk_told (e.pairs ++ qs) e.next) o ≡ option_map pairs_of (option_map (with_pairs e) o)
    inner e None = refl
    inner e (Some qs) = refl

    test : (e : Emitted) (c : Boolean) → (if c then option_map (λ qs. all_walk_told (e.pairs ++ qs) e.next) (meet e.sort (sort_of Empty A)) else None) ≡ option_map pairs_of (if c then option_map (with_pairs e) (meet e.sort (sort_of Empty A)) else None)
    test e true = inner e (meet e.sort (sort_of Empty A))
    test e false = refl

    by : (e : Emitted) → pairs ≡ e.pairs → w.next ≡ e.next → w.sort ≡ e.sort → asked_walk env A pairs w ≡ option_map pairs_of (asked env (Some A) e)
    by e p n s =
        ap (λ x. if is_result env A then option_map (λ qs. all_walk_told (x ++ qs) w.next) (meet w.sort (sort_of Empty A)) else None) p
        ∙ ap (λ x. if is_result env A then option_map (λ qs. all_walk_told (e.pairs ++ qs) x) (meet w.sort (sort_of Empty A)) else None) n
        ∙ ap (λ x. if is_result env A then option_map (λ qs. all_walk_told (e.pairs ++ qs) e.next) (meet x (sort_of Empty A)) else None) s
        ∙ test e (is_result env A)

pub ruleset equations = (equations_none, equations_plain)

-- What holds of all unknowns of a term.
abbrev mutual
  AllIn : (ℕ → Type 0) → PatTerm → Type 0
  AllIn P (pat_var i) = Unit {0}
  AllIn P (pat_lit n) = Unit {0}
  AllIn P (pat_node s ps ts) = ((w : ℕ) → have_unknown w ps ≡ true → P w) × AllsIn P ts

  AllsIn : (ℕ → Type 0) → PatTerms → Type 0
  AllsIn P pat_nil = Unit {0}
  AllsIn P (pat_cons t ts) = AllIn P t × AllsIn P ts

abbrev Between : (ℕ → Type 0) → ℕ → ℕ → Type 0
Between P k m = (u : ℕ) → k ≤ u → u < m → P u

or_true : (a b : Boolean) → (a || b) ≡ true → (a ≡ true) ⊎ (b ≡ true)
or_true true b e = inl refl
or_true false b e = inr e

mutual
  no_unknown : (w : ℕ) (A : Ty) → has_unknown w (same_pattern A) ≡ false
  no_unknown w IntType = refl
  no_unknown w BoolType = refl
  no_unknown w Prop = refl
  no_unknown w (ParamType i) = refl
  no_unknown w (pow A) = no_unknown w A
  no_unknown w (prod A B) = ap (λ x. x || has_unknown w (same_pattern B)) (no_unknown w A) ∙ no_unknown w B
  no_unknown w (DataType n As) = no_unknowns w As

  no_unknowns : (w : ℕ) (As : Tys) → have_unknown w (patterns_of Empty As) ≡ false
  no_unknowns w NoTypes = refl
  no_unknowns w (more A As) = ap (λ x. x || have_unknown w (patterns_of Empty As)) (no_unknown w A) ∙ no_unknowns w As

in_unknowns : (P : ℕ → Type 0) (k n : ℕ) → Between P k (k + n) → (w : ℕ) → have_unknown w (unknowns k n) ≡ true → P w
in_unknowns P k zero h w e = cc
in_unknowns P k (suc n) h w e = go (or_true (k == w) (have_unknown w (unknowns (k + 1) n)) e) (in_unknowns P (k + 1) n (λ u a b. h u (omega arith) (omega arith)) w)
  where
    go : ((k == w) ≡ true) ⊎ (have_unknown w (unknowns (k + 1) n) ≡ true) → (have_unknown w (unknowns (k + 1) n) ≡ true → P w) → P w
    go (inl q) f = let r : k ≡ w = eqb-true k w q in transport P r (h k (omega arith) (omega arith))
    go (inr q) f = f q

in_node : (P : ℕ → Type 0) (w : Option Ty) (params k : ℕ) → Between P k (node_numbers w params k).next → (u : ℕ) → have_unknown u (node_numbers w params k).types ≡ true → P u
in_node P None params k h u e = in_unknowns P k params h u e
in_node P (Some A) params k h u e =
    absurd (Rattle.std.proofs.Common.true≢false (sym e ∙ ap (λ x. x || false) (no_unknown u A)))

node_later : (w : Option Ty) (params k : ℕ) → k ≤ (node_numbers w params k).next
node_later None params k = omega arith
node_later (Some A) params k = omega arith

module _ (env : Env) where
  mutual
    later : (b : Bare) (k : ℕ) → k ≤ (numbered env b k).next
    later (bare_var i) k = omega arith
    later (bare_lit n) k = omega arith
    later (bare_node s w bs) k = omega (arith, node_later w (params_of (profile env s)) k, all_later bs (node_numbers w (params_of (profile env s)) k).next)
    later (bare_of b A) k = later b k

    all_later : (bs : Bares) (k : ℕ) → k ≤ (all_numbered env bs k).next
    all_later bare_none k = omega arith
    all_later (bare_more b bs) k = omega (arith, later b k, all_later bs (numbered env b k).next)

  mutual
    all_in : (P : ℕ → Type 0) (b : Bare) (k : ℕ) → Between P k (numbered env b k).next → AllIn P (numbered env b k).term
    all_in P (bare_var i) k h = tt
    all_in P (bare_lit n) k h = tt
    all_in P (bare_node s w bs) k h =
        let m = (node_numbers w (params_of (profile env s)) k).next in
        let l : k ≤ m = node_later w (params_of (profile env s)) k in
        let r : m ≤ (all_numbered env bs m).next = all_later bs m in (
          in_node P w (params_of (profile env s)) k (λ u a b. h u a (omega (arith, b, r))),
          alls_in P bs m (λ u a b. h u (omega (arith, l, a)) b),
        )
    all_in P (bare_of b A) k h = all_in P b k h

    alls_in : (P : ℕ → Type 0) (bs : Bares) (k : ℕ) → Between P k (all_numbered env bs k).next → AllsIn P (all_numbered env bs k).terms
    alls_in P bare_none k h = tt
    alls_in P (bare_more b bs) k h =
        let m = (numbered env b k).next in
        let l : k ≤ m = later b k in
        let r : m ≤ (all_numbered env bs m).next = all_later bs m in
        (all_in P b k (λ u a c. h u a (omega (arith, c, r))), alls_in P bs m (λ u a c. h u (omega (arith, l, a)) c))

-- Where all are closed, nothing is left free.
or_both : (a b : Boolean) → a ≡ false → b ≡ false → (a || b) ≡ false
or_both true b e f = cc
or_both false b e f = f

mutual
  none_free : (μ : ℕ → Pat) (t : PatTerm) → AllIn (λ w. is_open (μ w) ≡ false) t → leaves_free μ t ≡ false
  none_free μ (pat_var i) h = refl
  none_free μ (pat_lit n) h = refl
  none_free μ (pat_node s ps ts) h = or_both (are_open (all_followed μ ps)) (leave_free μ ts) (all_closed_followed μ ps h.0) (none_free_all μ ts h.1)

  none_free_all : (μ : ℕ → Pat) (ts : PatTerms) → AllsIn (λ w. is_open (μ w) ≡ false) ts → leave_free μ ts ≡ false
  none_free_all μ pat_nil h = refl
  none_free_all μ (pat_cons t ts) h = or_both (leaves_free μ t) (leave_free μ ts) (none_free μ t h.0) (none_free_all μ ts h.1)

-- How large the term is.
bulk_by : (m n m' n' : ℕ) → m ≡ m' → n ≡ n' → ◌≡◌ {A = Bulk} (record { size = m; depth = n }) (record { size = m'; depth = n' })
bulk_by m n m' n' p q = cc

above_bulk : (m n : ℕ) → above (bulk m n) ≡ bulk (1 + m) (1 + n)
above_bulk m n = bulk_by _ _ _ _ (omega arith) (omega arith)

beside_bulk : (m n k l : ℕ) → beside (bulk m n) (bulk k l) ≡ bulk (m + k) (max n l)
beside_bulk m n k l = bulk_by _ _ _ _ (omega arith) (omega arith)

mutual
  bulk_filled : (e : ℕ → Bulk) (σ : ℕ → Ty) (t : PatTerm) → AllIn (λ w. e w ≡ type_bulk (σ w)) t → term_bulk e t ≡ tree_bulk (filled σ t)
  bulk_filled e σ (pat_var i) h = refl
  bulk_filled e σ (pat_lit n) h = refl
  bulk_filled e σ (pat_node s ps ts) h =
      ap (λ x. above (beside x (terms_bulk e ts))) (bulk_values e σ ps h.0) ∙ ap (λ x. above (beside (types_bulk (values σ ps)) x)) (bulk_all_filled e σ ts h.1)
      ∙ ap above (beside_bulk (types_size (values σ ps)) (types_depth (values σ ps)) (sizes (all_filled σ ts)) (depths (all_filled σ ts)))
      ∙ above_bulk (types_size (values σ ps) + sizes (all_filled σ ts)) (max (types_depth (values σ ps)) (depths (all_filled σ ts)))

  bulk_all_filled : (e : ℕ → Bulk) (σ : ℕ → Ty) (ts : PatTerms) → AllsIn (λ w. e w ≡ type_bulk (σ w)) ts → terms_bulk e ts ≡ trees_bulk (all_filled σ ts)
  bulk_all_filled e σ pat_nil h = refl
  bulk_all_filled e σ (pat_cons t ts) h =
      ap (λ x. beside x (terms_bulk e ts)) (bulk_filled e σ t h.0) ∙ ap (λ x. beside (tree_bulk (filled σ t)) x) (bulk_all_filled e σ ts h.1)
      ∙ beside_bulk (size (filled σ t)) (depth (filled σ t)) (sizes (all_filled σ ts)) (depths (all_filled σ ts))

-- A term within the limit has types within the limit, which are known.
mutual
  filled_within : (τ σ : ℕ → Ty) (limit : Extent) (t : PatTerm) → AllIn (λ w. IsWithin (type_bulk (σ w)) limit → τ w ≡ σ w) t → IsWithin (tree_bulk (filled σ t)) limit → filled τ t ≡ filled σ t
  filled_within τ σ limit (pat_var i) h g = refl
  filled_within τ σ limit (pat_lit n) h g = refl
  filled_within τ σ limit (pat_node s ps ts) h g =
      ap (λ As. node s As (all_filled τ ts))
      (values_within τ σ limit ps h.0
      (within_less (1 + (types_size (values σ ps) + sizes (all_filled σ ts))) (1 + max (types_depth (values σ ps)) (depths (all_filled σ ts))) (types_size (values σ ps)) (types_depth (values σ ps)) limit (omega arith) (omega arith) g))
      ∙ ap (node s (values σ ps))
      (all_filled_within τ σ limit ts h.1
      (within_less (1 + (types_size (values σ ps) + sizes (all_filled σ ts))) (1 + max (types_depth (values σ ps)) (depths (all_filled σ ts))) (sizes (all_filled σ ts)) (depths (all_filled σ ts)) limit (omega arith) (omega arith) g))

  all_filled_within : (τ σ : ℕ → Ty) (limit : Extent) (ts : PatTerms) → AllsIn (λ w. IsWithin (type_bulk (σ w)) limit → τ w ≡ σ w) ts → IsWithin (trees_bulk (all_filled σ ts)) limit → all_filled τ ts ≡ all_filled σ ts
  all_filled_within τ σ limit pat_nil h g = refl
  all_filled_within τ σ limit (pat_cons t ts) h g =
      ap (λ x. cons x (all_filled τ ts))
      (filled_within τ σ limit t h.0
      (within_less (size (filled σ t) + sizes (all_filled σ ts)) (max (depth (filled σ t)) (depths (all_filled σ ts))) (size (filled σ t)) (depth (filled σ t)) limit (omega arith) (omega arith) g))
      ∙ ap (cons (filled σ t))
      (all_filled_within τ σ limit ts h.1
      (within_less (size (filled σ t) + sizes (all_filled σ ts)) (max (depth (filled σ t)) (depths (all_filled σ ts))) (sizes (all_filled σ ts)) (depths (all_filled σ ts)) limit (omega arith) (omega arith) g))

-- An unknown of the term that is open is left free in it.
or_split : (a b : Boolean) → (a || b) ≡ false → (a ≡ false) × (b ≡ false)
or_split true b e = cc
or_split false b e = (refl, e)

below_or : (u m : ℕ) → (u < m) ⊎ (m ≤ u)
below_or u zero = inr (omega arith)
below_or zero (suc m) = inl (omega arith)
below_or (suc u) (suc m) = elim (below_or u m) as (λ _. (suc u < suc m) ⊎ (suc m ≤ suc u)) [ inl h ↦ inl (omega (arith, h)) | inr h ↦ inr (omega (arith, h)) ]

unknowns_closed : (μ : ℕ → Pat) (k n : ℕ) → are_open (all_followed μ (unknowns k n)) ≡ false → (u : ℕ) → k ≤ u → u < k + n → is_open (μ u) ≡ false
unknowns_closed μ k zero e u a b = absurd (omega (arith, a, b))
unknowns_closed μ k (suc n) e u a b =
    let s = or_split (is_open (μ k)) (are_open (all_followed μ (unknowns (k + 1) n))) e in
    elim (below_or k u) as (λ _. is_open (μ u) ≡ false) [
      | inl h ↦ unknowns_closed μ (k + 1) n s.1 u (omega (arith, h)) (omega (arith, b))
      | inr h ↦ let q : k ≡ u = omega (arith, h, a) in ap (λ x. is_open (μ x)) (sym q) ∙ s.0
    ]

node_closed : (μ : ℕ → Pat) (w : Option Ty) (params k : ℕ) → are_open (all_followed μ (node_numbers w params k).types) ≡ false → Between (λ u. is_open (μ u) ≡ false) k (node_numbers w params k).next
node_closed μ None params k e u a b = unknowns_closed μ k params e u a b
node_closed μ (Some A) params k e u a b = absurd (omega (arith, a, b))

module _ (env : Env) (μ : ℕ → Pat) where
  mutual
    all_closed : (b : Bare) (k : ℕ) → leaves_free μ (numbered env b k).term ≡ false → Between (λ u. is_open (μ u) ≡ false) k (numbered env b k).next
    all_closed (bare_var i) k e u x y = absurd (omega (arith, x, y))
    all_closed (bare_lit n) k e u x y = absurd (omega (arith, x, y))
    all_closed (bare_node s w bs) k e u x y =
        let params = params_of (profile env s) in
        let m = (node_numbers w params k).next in
        let d = or_split (are_open (all_followed μ (node_numbers w params k).types)) (leave_free μ (all_numbered env bs m).terms) e in
        elim (below_or u m) as (λ _. is_open (μ u) ≡ false) [
          | inl h ↦ node_closed μ w params k d.0 u x h
          | inr h ↦ alls_closed bs m d.1 u h y
        ]
    all_closed (bare_of b A) k e u x y = all_closed b k e u x y

    alls_closed : (bs : Bares) (k : ℕ) → leave_free μ (all_numbered env bs k).terms ≡ false → Between (λ u. is_open (μ u) ≡ false) k (all_numbered env bs k).next
    alls_closed bare_none k e u x y = absurd (omega (arith, x, y))
    alls_closed (bare_more b bs) k e u x y =
        let m = (numbered env b k).next in
        let d = or_split (leaves_free μ (numbered env b k).term) (leave_free μ (all_numbered env bs m).terms) e in
        elim (below_or u m) as (λ _. is_open (μ u) ≡ false) [
          | inl h ↦ all_closed b k d.0 u x h
          | inr h ↦ alls_closed bs m d.1 u h y
        ]

-- The equations that the code has are those of the term.
record Found (env : Env) (b : Bare) (equations : Option Emitted) (pairs : List PatPair) (next : ℕ) : Type 0 where
  out : Emitted
  emitted : equations ≡ Some out
  pairs_are : pairs ≡ out.pairs
  term_is : out.term ≡ (numbered env b 0).term
  next_is : next ≡ (numbered env b 0).next

pairs_out : (o : Option Emitted) (w : AllWalk) → Some w ≡ option_map pairs_of o → (e : Emitted) × (o ≡ Some e) × (w ≡ pairs_of e)
pairs_out None w h = cc
pairs_out (Some e) w h = (e, refl, cc)

asked_keeps : (env : Env) (expected : Option Ty) (q e : Emitted) → asked env expected q ≡ Some e → (e.term ≡ q.term) × (e.next ≡ q.next)
asked_keeps env None q e h = let i : e ≡ q = some_gives q e h in (ap (λ (x : Emitted). x.term) i, ap (λ (x : Emitted). x.next) i)
asked_keeps env (Some A) q e h =
    let g = if_gives (is_result env A) _ e h in
    let m = map_gives (with_pairs q) (meet q.sort (sort_of Empty A)) e g.1 in
    (ap (λ (x : Emitted). x.term) m.2, ap (λ (x : Emitted). x.next) m.2)

found : (env : Env) (ctx : List Pat) (expected : Option Ty) (b : Bare) (q : Equations) → Some (equations_told q) ≡ option_map pairs_of (bare_equations env ctx expected b) → Found env b (bare_equations env ctx expected b) q.pairs q.next
found env ctx expected b q h =
    let (e, eo, ew) = pairs_out (bare_equations env ctx expected b) (equations_told q) h in
    let (o, em, ea) = and_then_gives (asked env expected) (emit env b ctx 0) e eo in
    let k = asked_keeps env expected o e ea in
    let n = emit_numbered env b ctx 0 o em in
    record {
      out = e;
      emitted = eo;
      pairs_are = ap (λ (x : AllWalk). x.pairs) ew;
      term_is = k.0 ∙ n.0;
      next_is = ap (λ (x : AllWalk). x.next) ew ∙ k.1 ∙ n.1;
    }

settled : (env : Env) (b : Bare) (equations : Option Emitted) (pairs : List PatPair) (next : ℕ) (f : Found env b equations pairs next) (S : List Bind) (h : IsUnifier S pairs) → IsSettled equations f.out (follow S (suc h.triangular.most))
settled env b equations pairs next f S h = record { emitted = f.emitted; general = transport (IsMostGeneral (follow S (suc h.triangular.most))) f.pairs_are (unifier_general S pairs h) }

decide_true : (b : Boolean) → ¬ (b ≡ false) → b ≡ true
decide_true true h = refl
decide_true false h = absurd (h refl)

-- the equations that the code has, by the context that they are made in
pub equations_at : (env : Env) (made ctx : List Pat) (expected : Option Ty) (b : Bare) (q : Equations) (o : Option Equations) → made ≡ ctx → o ≡ Some q → option_map equations_told o ≡ option_map pairs_of (bare_equations env made expected b)
    → Some (equations_told q) ≡ option_map pairs_of (bare_equations env ctx expected b)
equations_at env made ctx expected b q o e f h = ap (option_map equations_told) (sym f) ∙ h ∙ ap (λ x. option_map pairs_of (bare_equations env x expected b)) e

pub equations_below : (env : Env) (types : List Ty) (expected : Option Ty) (b : Bare) (q : Equations) → Some (equations_told q) ≡ option_map pairs_of (bare_equations env (map same_pattern types) expected b) → UseBelow q.next q.pairs
equations_below env types expected b q h =
    let (e, eo, ew) = pairs_out (bare_equations env (map same_pattern types) expected b) (equations_told q) h in
    transport (λ n. UseBelow n q.pairs) (sym (ap (λ (x : AllWalk). x.next) ew)) (transport (UseBelow e.next) (sym (ap (λ (x : AllWalk). x.pairs) ew)) (equations_use env types expected b e eo))

-- no solution, or a free unknown
pub solve_fault : (env : Env) (ctx : List Pat) (expected : Option Ty) (b : Bare) (q : Equations) (limit : Extent) → Some (equations_told q) ≡ option_map pairs_of (bare_equations env ctx expected b)
    → (f : InferFault) → OnSolveFault q.pairs q.next f → OnFault (bare_equations env ctx expected b) limit f
solve_fault env ctx expected b q limit h fault.Unknown g = g
solve_fault env ctx expected b q limit h fault.Taken g = g
solve_fault env ctx expected b q limit h fault.IllTyped g = λ e eo. transport (λ ps. ¬ HasSolution ps) (same e eo) g
  where
    same : (e : Emitted) → bare_equations env ctx expected b ≡ Some e → q.pairs ≡ e.pairs
    same e eo = let f = found env ctx expected b q h in let i : e ≡ f.out = some_gives f.out e (sym f.emitted ∙ eo) in f.pairs_are ∙ ap (λ (x : Emitted). x.pairs) (sym i)
solve_fault env ctx expected b q limit h fault.Ambiguous (S, u, (w, l, free)) =
    let f = found env ctx expected b q h in
    let μ = follow S (suc u.triangular.most) in
    let open_w : is_open (μ w) ≡ true = free μ (follow_step S u.triangular) in (
      f.out,
      μ,
      settled env b (bare_equations env ctx expected b) q.pairs q.next f S u,
      decide_true (leaves_free μ f.out.term)
          (λ e. Rattle.std.proofs.Common.true≢false (sym open_w ∙ all_closed env μ b 0 (sym (ap (leaves_free μ) f.term_is) ∙ e) w (omega arith) (transport (λ n. w < n) f.next_is l))),
    )
solve_fault env ctx expected b q limit h fault.TooLarge g = absurd g
solve_fault env ctx expected b q limit h fault.NoMemory g = tt

-- the one term of a solution that leaves nothing free
record Whole (env : Env) (b : Bare) (equations : Option Emitted) (table : Table) (limit : Extent) : Type 0 where
  out : Emitted
  solution : ℕ → Pat
  is_settled : IsSettled equations out solution
  closed : leaves_free solution out.term ≡ false
  large : term_bulk (bulk_at table.bulks.items) (numbered env b 0).term ≡ tree_bulk (filled (ended_type solution) out.term)
  term : IsWithin (tree_bulk (filled (ended_type solution) out.term)) limit → filled (type_at_unknown table.types.items) (numbered env b 0).term ≡ filled (ended_type solution) out.term

whole : (env : Env) (ctx : List Pat) (expected : Option Ty) (b : Bare) (q : Equations) (table : Table) (limit : Extent) → Some (equations_told q) ≡ option_map pairs_of (bare_equations env ctx expected b)
    → IsSolvedTable q.pairs limit q.next table → Whole env b (bare_equations env ctx expected b) table limit
whole env ctx expected b q table limit h (S, u, a) =
    let f = found env ctx expected b q h in
    let μ = follow S (suc u.triangular.most) in
    let e : IsEnded S μ = follow_step S u.triangular in
    let t = (numbered env b 0).term in
    let s : (w : ℕ) → w < (numbered env b 0).next → IsSolved S limit w (bulk_at table.bulks.items w) (type_at_unknown table.types.items w) = λ w l. a.solved w (transport (λ n. w < n) (sym f.next_is) l) in
    let back : filled (ended_type μ) t ≡ filled (ended_type μ) f.out.term = ap (filled (ended_type μ)) (sym f.term_is) in
    record {
      out = f.out;
      solution = μ;
      is_settled = settled env b (bare_equations env ctx expected b) q.pairs q.next f S u;
      closed = ap (leaves_free μ) f.term_is ∙ none_free μ t (all_in env (λ w. is_open (μ w) ≡ false) b 0 (λ w x l. (s w l).closed μ e));
      large = bulk_filled (bulk_at table.bulks.items) (ended_type μ) t (all_in env (λ w. bulk_at table.bulks.items w ≡ type_bulk (ended_type μ w)) b 0 (λ w x l. (s w l).large μ e)) ∙ ap tree_bulk back;
      term = λ g.
          filled_within (type_at_unknown table.types.items) (ended_type μ) limit t
          (all_in env (λ w. IsWithin (type_bulk (ended_type μ w)) limit → type_at_unknown table.types.items w ≡ ended_type μ w) b 0 (λ w x l i. (s w l).type μ e (transport (λ y. IsWithin y limit) (sym ((s w l).large μ e)) i)))
          (transport (λ y. IsWithin (tree_bulk y) limit) (sym back) g)
          ∙ back;
    }

not_past : (s d : ℕ) (limit : Extent) → limit.size < 2 ^ 64 → limit.depth < 2 ^ 64 → IsWithin (bulk s d) limit → ¬ ((limit.size < s) ⊎ (limit.depth < d))
not_past s d limit a b h (inl x) = let y = h.size in omega (arith, a, x, y)
not_past s d limit a b h (inr x) = let y = h.depth in omega (arith, b, x, y)

is_past : (s d : ℕ) (limit : Extent) → ¬ IsWithin (bulk s d) limit → (limit.size < s) ⊎ (limit.depth < d)
is_past s d limit h = elim (below_or limit.size s) as (λ _. (limit.size < s) ⊎ (limit.depth < d)) [
  | inl x ↦ inl x
  | inr x ↦ elim (below_or limit.depth d) as (λ _. (limit.size < s) ⊎ (limit.depth < d)) [
    | inl y ↦ inr y
    | inr y ↦ absurd (h (record { size = omega (arith, x); depth = omega (arith, y) }))
  ]
]

pub fill_given : (env : Env) (ctx : List Pat) (expected : Option Ty) (b : Bare) (q : Equations) (table : Table) (limit : Extent) (t : Term) → Some (equations_told q) ≡ option_map pairs_of (bare_equations env ctx expected b)
    → IsSolvedTable q.pairs limit q.next table → IsFilled env b table limit t → IsGiven (bare_equations env ctx expected b) limit t
fill_given env ctx expected b q table limit t h s f =
    let w = whole env ctx expected b q table limit h s in
    let g = transport (λ x. IsWithin x limit) w.large f.within in
    let e : t ≡ filled (ended_type w.solution) w.out.term = f.is ∙ w.term g in (
      w.out,
      w.solution,
      w.is_settled,
      w.closed,
      e,
      λ p. not_past (size (filled (ended_type w.solution) w.out.term)) (depth (filled (ended_type w.solution) w.out.term)) limit f.small_size f.small_depth g (transport (IsPast limit.size limit.depth) e p),
    )

pub fill_fault : (env : Env) (ctx : List Pat) (expected : Option Ty) (b : Bare) (q : Equations) (table : Table) (limit : Extent) → Some (equations_told q) ≡ option_map pairs_of (bare_equations env ctx expected b)
    → IsSolvedTable q.pairs limit q.next table → (f : InferFault) → OnFillFault env b table limit f → OnFault (bare_equations env ctx expected b) limit f
fill_fault env ctx expected b q table limit h s fault.Unknown g = g
fill_fault env ctx expected b q table limit h s fault.Taken g = g
fill_fault env ctx expected b q table limit h s fault.IllTyped g = absurd g
fill_fault env ctx expected b q table limit h s fault.Ambiguous g = absurd g
fill_fault env ctx expected b q table limit h s fault.TooLarge g =
    let w = whole env ctx expected b q table limit h s in (
      w.out,
      w.solution,
      w.is_settled,
      w.closed,
      is_past (size (filled (ended_type w.solution) w.out.term)) (depth (filled (ended_type w.solution) w.out.term)) limit (λ i. g (transport (λ x. IsWithin x limit) (sym w.large) i)),
    )
fill_fault env ctx expected b q table limit h s fault.NoMemory g = tt
