-- What the measure of a term with arguments put in needs.
use Rattle.std.proofs.lemmas.Bool.{true≢false}
use Rattle.std.proofs.Common.{◌≡◌, ◌↔◌, Bool, false, IsTrue, subst, ℕ, ◌+◌, ◌-◌, ◌≤◌, ◌<◌, List, [], ◌∷◌, zero, suc, drop, length, ap, sym, ◌∙◌, refl, arith, max, Some, reverse, get_or}
use Rattle.ev_terms.specs.declared.types.Tys.{Tys}
use Rattle.ev_terms.specs.declared.types.Sym.{Sym}
use Rattle.ev_terms.specs.declared.extents.Extent.{Extent}
use Rattle.ev_terms.specs.Term.{Term, Terms, var, lit, node, terms, var_of}
use Rattle.ev_terms.specs.Symbols.{binds}
use Rattle.ev_terms.specs.Measures.{size, sizes, depth, depths, types_size, types_depth, loose, all_loose, highest, capped}
use Rattle.ev_terms.specs.Substitution.{shift, inst, insts, lifts, entry, substitute as put, fill}
use Rattle.ev_terms.proofs.Children as children
use Rattle.ev_wd.specs.Limits.{IsSmall, greatest_size, greatest_depth}
use Rattle.ev_wd.proofs.Small.{within_small}
use Rattle.ev_terms.proofs.ListLaws.{inst_closed, size-shift, depth-shift, highest_le}
use Rattle.ev_terms.proofs.Fits.{loose_inst_le}
use Rattle.ev_terms.proofs.Laws.{lifts-past, lifts-lifts, entry-get, entry-past}

extent_of : (t u : Term) (e : Extent) → t ≡ u → e ≡ record { size = capped (size t); depth = capped (depth t) } → e ≡ record { size = capped (size u); depth = capped (depth u) }
extent_of t u e p q = q ∙ ap (λ v. let x : Extent = record { size = capped (size v); depth = capped (depth v) } in x) p

-- a part without variables from outside
pub closed_extent : (t : Term) (d : ℕ) (us : List Term) (e : Extent) → loose t ≤ d → e ≡ record { size = capped (size t); depth = capped (depth t) } →
    e ≡ record { size = capped (size (inst (lifts d (entry us)) t)); depth = capped (depth (inst (lifts d (entry us)) t)) }
closed_extent t d us e h p = extent_of t (inst (lifts d (entry us)) t) e (sym (inst_closed t d (entry us) h)) p

-- a variable from outside
pub variable_extent : (t : Term) (i d k : ℕ) (us : List Term) (e : Extent) → Some i ≡ var_of t → d < loose t → k ≡ i - d →
    e ≡ record { size = capped (size (entry us k)); depth = capped (depth (entry us k)) } →
    e ≡ record { size = capped (size (inst (lifts d (entry us)) t)); depth = capped (depth (inst (lifts d (entry us)) t)) }
variable_extent (var j) i d k us e f h r p =
    let q : i ≡ j = cc in
    p
    ∙ ap (λ m. let x : Extent = record { size = capped (size (entry us m)); depth = capped (depth (entry us m)) } in x) (r ∙ ap (λ m. m - d) q)
    ∙ ap (λ m. let x : Extent = record { size = capped m; depth = capped (depth (entry us (j - d))) } in x) (sym (size-shift (entry us (j - d)) 0 d))
    ∙ ap (λ m. let x : Extent = record { size = capped (size (shift (entry us (j - d)) 0 d)); depth = capped m } in x) (sym (depth-shift (entry us (j - d)) 0 d))
    ∙ ap (λ v. let x : Extent = record { size = capped (size v); depth = capped (depth v) } in x) (sym (lifts-past d (entry us) j (omega (arith, h))))
variable_extent (lit n) i d k us e f h r p = cc
variable_extent (node s As ts) i d k us e f h r p = cc

-- an entry, and a variable past the entries
pub entry_extent : (us : List Term) (i : ℕ) (t : Term) (e : Extent) → t ≡ get_or us i t → i < length us →
    e ≡ record { size = capped (size t); depth = capped (depth t) } → e ≡ record { size = capped (size (entry us i)); depth = capped (depth (entry us i)) }
entry_extent us i t e p h q = extent_of t (entry us i) e (sym (entry-get us i t p h)) q

pub past_extent : (us : List Term) (i : ℕ) → length us ≤ i →
    ◌≡◌ {A = Extent} (record { size = 1; depth = 1 }) (record { size = capped (size (entry us i)); depth = capped (depth (entry us i)) })
past_extent us i h = extent_of (var (i - length us)) (entry us i) (record { size = 1; depth = 1 }) (sym (entry-past us i h)) refl

pub ruleset entries = (entry_extent, past_extent)

-- a node, from what its children have under its binder
pub node_extent : (t : Term) (s : Sym) (As : Tys) (ts : List Term) (d b : ℕ) (us : List Term) (own all : Extent) → t ≡ node s As (terms ts) → b ≡ d + binds s →
    own ≡ record { size = capped (types_size As); depth = capped (types_depth As) } →
    all ≡ record { size = capped (sizes (insts (lifts b (entry us)) (terms ts))); depth = capped (depths (insts (lifts b (entry us)) (terms ts))) } →
    ◌≡◌ {A = Extent} (record { size = capped (capped (all.size + own.size) + 1); depth = capped (max all.depth own.depth + 1) })
    (record { size = capped (size (inst (lifts d (entry us)) t)); depth = capped (depth (inst (lifts d (entry us)) t)) })
node_extent t s As ts d b us own all e f p q =
    let u = insts (lifts b (entry us)) (terms ts) in
    let g : inst (lifts d (entry us)) t ≡ node s As u =
    ap (inst (lifts d (entry us))) e ∙ ap (λ σ. node s As (insts σ (terms ts))) (lifts-lifts (binds s) d (entry us) ∙ ap (λ k. lifts k (entry us)) (sym f)) in
    by (inst (lifts d (entry us)) t) u g p q
  where
    by : (v : Term) (u : Terms) → v ≡ node s As u → own ≡ record { size = capped (types_size As); depth = capped (types_depth As) } →
        all ≡ record { size = capped (sizes u); depth = capped (depths u) } →
        ◌≡◌ {A = Extent} (record { size = capped (capped (all.size + own.size) + 1); depth = capped (max all.depth own.depth + 1) })
        (record { size = capped (size v); depth = capped (depth v) })
    by v u g p q =
        let a : own.size ≡ capped (types_size As) = ap (λ (x : Extent). x.size) p in
        let b : own.depth ≡ capped (types_depth As) = ap (λ (x : Extent). x.depth) p in
        let c : all.size ≡ capped (sizes u) = ap (λ (x : Extent). x.size) q in
        let d : all.depth ≡ capped (depths u) = ap (λ (x : Extent). x.depth) q in
        let m : size v ≡ 1 + (types_size As + sizes u) = ap size g in
        let n : depth v ≡ 1 + max (types_depth As) (depths u) = ap depth g in
        let k : capped (capped (all.size + own.size) + 1) ≡ capped (size v) = omega arith in
        let l : capped (max all.depth own.depth + 1) ≡ capped (depth v) = omega arith in cc

pub ruleset walk = (children.walk, closed_extent, variable_extent, node_extent)

pub filled : (t : Term) (ts us : List Term) → us ≡ reverse ts → put t us ≡ fill t ts
filled t ts us e = ap (put t) e

-- a condition with its arguments put in is as large as was found
pub filled_small : (t C : Term) (ts us : List Term) (b : Bool) (e : Extent) → us ≡ reverse ts → t ≡ C →
    e ≡ record { size = capped (size (inst (lifts 0 (entry us)) t)); depth = capped (depth (inst (lifts 0 (entry us)) t)) } →
    (IsTrue b ↔ ((e.size ≤ greatest_size) × (e.depth ≤ greatest_depth))) → IsTrue b ↔ IsSmall (fill C ts)
filled_small t C ts us b e p q r h =
    let g : put t us ≡ fill C ts = ap (put t) p ∙ ap (λ u. fill u ts) q in
    subst (λ v. IsTrue b ↔ IsSmall v) g (within_small (put t us) b e r h)

pub not_filled : (t C : Term) (ts us : List Term) (b : Bool) (e : Extent) → us ≡ reverse ts → t ≡ C →
    e ≡ record { size = capped (size (inst (lifts 0 (entry us)) t)); depth = capped (depth (inst (lifts 0 (entry us)) t)) } →
    (IsTrue b ↔ ((e.size ≤ greatest_size) × (e.depth ≤ greatest_depth))) → b ≡ false → ¬ IsSmall (fill C ts)
not_filled t C ts us b e p q r h n g = true≢false (sym ((filled_small t C ts us b e p q r h).1 g) ∙ n)

-- the condition that is built
pub filled_is : (t C u : Term) (ts us : List Term) → us ≡ reverse ts → t ≡ C → u ≡ put t us → u ≡ fill C ts
filled_is t C u ts us p q r = r ∙ ap (put t) p ∙ ap (λ v. fill v ts) q

-- its variables have room
pub filled_room : (t : Term) (us : List Term) (g n : ℕ) (e : Extent) → g ≡ max (loose t) (all_loose (terms us)) →
    e ≡ record { size = capped (size (inst (lifts 0 (entry us)) t)); depth = capped (depth (inst (lifts 0 (entry us)) t)) } → e.depth ≤ greatest_depth → g + e.depth ≤ n →
    highest (put t us) ≤ n
filled_room t us g n e p q small h =
    let d : e.depth ≡ capped (depth (put t us)) = ap (λ (x : Extent). x.depth) q in
    omega (
      arith,
      highest_le (put t us),
      loose_inst_le t (max (loose t) (all_loose (terms us))) (entry us) (λ i b. omega (arith, entry_loose us i)),
    )
  where
    entry_loose : (ts : List Term) (i : ℕ) → loose (entry ts i) ≤ max (i + 1) (all_loose (terms ts))
    entry_loose [] i = omega arith
    entry_loose (t ∷ ts) zero = omega arith
    entry_loose (t ∷ ts) (suc i) = omega (arith, entry_loose ts i)

pub ruleset conditions = (not_filled, filled_is)

-- The greatest loose variable.
pub loose_more : (ts : List Term) (i : ℕ) (t : Term) (g h all : ℕ) → t ≡ get_or ts i t → i < length ts → h ≡ max g (loose t) →
    max g (all_loose (terms (drop i ts))) ≡ all → max h (all_loose (terms (drop (i + 1) ts))) ≡ all
loose_more ts i t g h all p k e q =
    let f : all_loose (terms (drop i ts)) ≡ max (loose t) (all_loose (terms (drop (i + 1) ts))) = ap (λ us. all_loose (terms us)) (children.drop_at ts i t p k) in
    omega arith

pub loose_done : (ts : List Term) (i g all : ℕ) → drop i ts ≡ [] → max g (all_loose (terms (drop i ts))) ≡ all → g ≡ all
loose_done ts i g all e q = let f : all_loose (terms (drop i ts)) ≡ 0 = ap (λ us. all_loose (terms us)) e in omega arith

pub ruleset greatest = (children.walk, loose_more, loose_done)
