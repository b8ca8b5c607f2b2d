-- What the walk that emits pairs needs.
use Rattle.std.specs.Prelude.{◌≡◌, ◌≢◌, ℕ, zero, suc, ◌+◌, ◌-◌, ◌<◌, ◌≤◌, ◌^◌, ◌↔◌, Bool as Boolean, true, false, if◌then◌else◌, nat_lt, List, [], ◌∷◌, ◌++◌, Option, Some, None, option_map, option_and_then, slice_get, reverse, take, drop, length, IsTrue, refl}
use Rattle.std.proofs.Common.{ap, sym, ◌∙◌, arith, append_assoc, get_or}
use Rattle.std.proofs.lemmas.Bool.{lt-ltb}
use Rattle.std.proofs.lemmas.Option.{slice_get-get_or, slice_get_past}
use Rattle.std.proofs.lemmas.List.{get_or-reverse, length-reverse}
use Rattle.ev_terms.specs.declared.types.Ty.{Ty}
use Rattle.ev_terms.specs.declared.types.Sym.{Sym}
use Rattle.ev_terms.specs.Symbols.{binds}
use Rattle.ev_terms.proofs.ListLaws.{binds_le}
use Rattle.ev_typing.specs.Profiles.{Profile}
use Rattle.ev_typing.specs.Env.{Env, profile}
use Rattle.ev_typing.specs.Typing.{IsProper}
use Rattle.ev_typing.proofs.Names.{drop_at, drop_all}
use Rattle.ev_unify.specs.declared.patterns.Pat.{Pat, Int}
use Rattle.ev_unify.specs.declared.patterns.Pats.{Pats}
use Rattle.ev_unify.specs.declared.patterns.PatPair.{PatPair}
use Rattle.ev_unify.specs.Patterns.{pat_list}
use Rattle.ev_infer.specs.declared.sorts.Sort.{Sort}
use Rattle.ev_infer.specs.declared.sorts.Sort.TheVariants.{Expression as expression}
use Rattle.ev_infer.specs.declared.sorts.Walked.{Walked}
use Rattle.ev_infer.specs.declared.sorts.NodePats.{NodePats}
use Rattle.ev_typing.specs.declared.symbol_types.SymbolTypes.{SymbolTypes}
use Rattle.ev_resolve.specs.Bare.{Bare, Bares, bare_var, bare_lit, bare_node, bare_of}
use Rattle.ev_resolve.specs.inner.BareView.{bares, height, heights}
use Rattle.ev_infer.specs.Equations.{pat_lit, Emitted, AllEmitted, NodeTypes, same_pattern, sort_of, meet, node_types, under, var_emitted, node_emitted, of_emitted, more_emitted, emit, emit_all}
use Rattle.ev_typing.specs.Told.{profile_told}
use Rattle.ev_infer.specs.inner.Walks.{Walk, AllWalk, pats, types_told, walk_of, all_walk_of, walk_told, all_walk_told, when, met_walk, child_walk}
use Rattle.ev_infer.proofs.PatternSteps.{test_is}

-- heights
pub height_at : (bs : List Bare) (i : ℕ) (b : Bare) → b ≡ get_or bs i b → i < length bs → height b ≤ heights (bares bs)
height_at [] i b e h = absurd (omega (arith, h))
height_at (c ∷ bs) zero b e h = let p : height b ≡ height c = ap height e in omega arith
height_at (c ∷ bs) (suc i) b e h = omega (arith, height_at bs i b e (omega arith))

pub ruleset walk = (height_at)

-- variables and literals
append_nothing : (ps : List PatPair) → ps ++ [] ≡ ps
append_nothing [] = refl
append_nothing (p ∷ ps) = ap (λ qs. p ∷ qs) (append_nothing ps)

walk_by : (ps qs : List PatPair) (m n : ℕ) (s t : Sort) → ps ≡ qs → m ≡ n → s ≡ t → ◌≡◌ {A = Option Walk} (Some (record { pairs = ps; next = m; sort = s })) (Some (record { pairs = qs; next = n; sort = t }))
walk_by ps qs m n s t e f g = cc

all_walk_by : (ps qs : List PatPair) (m n : ℕ) → ps ≡ qs → m ≡ n → ◌≡◌ {A = Option AllWalk} (Some (record { pairs = ps; next = m })) (Some (record { pairs = qs; next = n }))
all_walk_by ps qs m n e f = cc

pub variable_some : (env : Env) (C : List Pat) (i k : ℕ) (before : List PatPair) (p q : Pat) → Some p ≡ slice_get (reverse C) i → q ≡ p →
    ◌≡◌ {A = Option Walk} (Some (record { pairs = before; next = k; sort = expression q })) (option_map (walk_of before) (emit env (bare_var i) C k))
variable_some env C i k before p q e h =
    walk_by before (before ++ []) k k (expression q) (expression p) (sym (append_nothing before)) refl (ap expression h)
    ∙ ap (λ o. option_map (walk_of before) (option_map (var_emitted env i k) o)) e

pub variable_none : (env : Env) (C : List Pat) (i k : ℕ) (before : List PatPair) → None ≡ slice_get (reverse C) i → ◌≡◌ {A = Option Walk} None (option_map (walk_of before) (emit env (bare_var i) C k))
variable_none env C i k before e = ap (λ o. option_map (walk_of before) (option_map (var_emitted env i k) o)) e

pub literal_some : (env : Env) (C : List Pat) (n k : ℕ) (before : List PatPair) → n < 2 ^ 127 →
    ◌≡◌ {A = Option Walk} (Some (record { pairs = before; next = k; sort = expression Int })) (option_map (walk_of before) (emit env (bare_lit n) C k))
literal_some env C n k before h =
    walk_by before (before ++ []) k k (expression Int) (expression Int) (sym (append_nothing before)) refl refl
    ∙ sym (ap (λ b. option_map (walk_of before) (if b then Some (record { next = k; sort = expression Int; pairs = []; term = pat_lit n }) else None)) (lt-ltb n (2 ^ 127) h))

pub literal_none : (env : Env) (C : List Pat) (n k : ℕ) (before : List PatPair) → 2 ^ 127 ≤ n → ◌≡◌ {A = Option Walk} None (option_map (walk_of before) (emit env (bare_lit n) C k))
literal_none env C n k before h = go (nat_lt n (2 ^ 127)) refl
  where
    go : (b : Boolean) → nat_lt n (2 ^ 127) ≡ b → ◌≡◌ {A = Option Walk} None (option_map (walk_of before) (if b then Some (record { next = k; sort = expression Int; pairs = []; term = pat_lit n }) else None))
    go true e = absurd (omega (arith, h, Rattle.std.proofs.lemmas.Bool.ltb-true n (2 ^ 127) e))
    go false e = refl

pub ruleset leaves = (variable_some, variable_none, literal_some, literal_none)

pub variable_inside : (C : List Pat) (i : ℕ) (p : Pat) → p ≡ get_or C (length C - 1 - i) p → i < length C → Some p ≡ slice_get (reverse C) i
variable_inside C i p e h =
    let k : i < length (reverse C) = rw length-reverse h in
    sym (slice_get-get_or (reverse C) i p k ∙ ap (λ q. Some q) (get_or-reverse C i p h ∙ sym e))

pub variable_outside : (C : List Pat) (i : ℕ) → length C ≤ i → None ≡ slice_get (reverse C) i
variable_outside C i h = let k : length (reverse C) ≤ i = rw length-reverse h in sym (slice_get_past (reverse C) i k)

pub ruleset variables = (variable_inside, variable_outside)

-- what the answers of a step say of the walk
some_out : (o : Option Emitted) (before : List PatPair) (w : Walk) → Some w ≡ option_map (walk_of before) o → (e : Emitted) × (o ≡ Some e) × (w ≡ walk_of before e)
some_out None before w h = cc
some_out (Some e) before w h = (e, refl, cc)

none_out : (o : Option Emitted) (before : List PatPair) → None ≡ option_map (walk_of before) o → o ≡ None
none_out None before h = refl
none_out (Some e) before h = cc

all_some_out : (o : Option AllEmitted) (before : List PatPair) (w : AllWalk) → Some w ≡ option_map (all_walk_of before) o → (e : AllEmitted) × (o ≡ Some e) × (w ≡ all_walk_of before e)
all_some_out None before w h = cc
all_some_out (Some e) before w h = (e, refl, cc)

all_none_out : (o : Option AllEmitted) (before : List PatPair) → None ≡ option_map (all_walk_of before) o → o ≡ None
all_none_out None before h = refl
all_none_out (Some e) before h = cc

met_true : (o : Option (List PatPair)) (before after : List PatPair) → option_map (λ qs. before ++ qs) o ≡ when true after → (qs : List PatPair) × (o ≡ Some qs) × (after ≡ before ++ qs)
met_true None before after h = cc
met_true (Some qs) before after h = (qs, refl, cc)

met_false : (o : Option (List PatPair)) (before after : List PatPair) → option_map (λ qs. before ++ qs) o ≡ when false after → o ≡ None
met_false None before after h = refl
met_false (Some qs) before after h = cc

-- a child
pub child_none : (env : Env) (b : Bare) (A : Ty) (ps : Pats) (C : List Pat) (k : ℕ) (before : List PatPair) → None ≡ option_map (walk_of before) (emit env b C k) → None ≡ child_walk env b A ps C k before
child_none env b A ps C k before h =
    sym (ap (λ o. option_and_then (λ (e : Emitted). option_map (met_walk before e) (meet e.sort (sort_of ps A))) o) (none_out (emit env b C k) before h))

pub child_clash : (env : Env) (b : Bare) (A : Ty) (ps : Pats) (C : List Pat) (k : ℕ) (before middle after : List PatPair) (w : Walked) (s : Sort) → Some (walk_told middle w) ≡ option_map (walk_of before) (emit env b C k) →
    s ≡ sort_of ps A → option_map (λ qs. middle ++ qs) (meet w.sort s) ≡ when false after → None ≡ child_walk env b A ps C k before
child_clash env b A ps C k before middle after w s h f m =
    let (e, eo, ew) = some_out (emit env b C k) before (walk_told middle w) h in
    let es : w.sort ≡ e.sort = ap (λ (x : Walk). x.sort) ew in
    let n : meet e.sort (sort_of ps A) ≡ None = ap (λ t. meet t (sort_of ps A)) (sym es) ∙ ap (meet w.sort) (sym f) ∙ met_false (meet w.sort s) middle after m in
    sym (ap (λ o. option_and_then (λ (x : Emitted). option_map (met_walk before x) (meet x.sort (sort_of ps A))) o) eo ∙ ap (option_map (met_walk before e)) n)

pub child_some : (env : Env) (b : Bare) (A : Ty) (ps : Pats) (C : List Pat) (k : ℕ) (before middle after : List PatPair) (w : Walked) (s : Sort) → Some (walk_told middle w) ≡ option_map (walk_of before) (emit env b C k) →
    s ≡ sort_of ps A → option_map (λ qs. middle ++ qs) (meet w.sort s) ≡ when true after → Some (all_walk_told after w.next) ≡ child_walk env b A ps C k before
child_some env b A ps C k before middle after w s h f m =
    let (e, eo, ew) = some_out (emit env b C k) before (walk_told middle w) h in
    let es : w.sort ≡ e.sort = ap (λ (x : Walk). x.sort) ew in
    let en : w.next ≡ e.next = ap (λ (x : Walk). x.next) ew in
    let ep : middle ≡ before ++ e.pairs = ap (λ (x : Walk). x.pairs) ew in
    let (qs, eq, ea) = met_true (meet w.sort s) middle after m in
    let n : meet e.sort (sort_of ps A) ≡ Some qs = ap (λ t. meet t (sort_of ps A)) (sym es) ∙ ap (meet w.sort) (sym f) ∙ eq in
    all_walk_by after (before ++ (e.pairs ++ qs)) w.next e.next (ea ∙ ap (λ l. l ++ qs) ep ∙ append_assoc before e.pairs qs) en
    ∙ sym (ap (λ o. option_and_then (λ (x : Emitted). option_map (met_walk before x) (meet x.sort (sort_of ps A))) o) eo ∙ ap (option_map (met_walk before e)) n)

-- what is said to have a type
abbrev of_walk : Env → Ty → Option Emitted → Option Emitted
of_walk env A o = option_and_then (λ (e : Emitted). option_map (of_emitted env A e) (meet e.sort (expression (same_pattern A)))) o

emit_of_proper : (env : Env) (b : Bare) (A : Ty) (t : Boolean) (C : List Pat) (k : ℕ) → (IsTrue t ↔ IsProper env A) → t ≡ true → emit env (bare_of b A) C k ≡ of_walk env A (emit env b C k)
emit_of_proper env b A t C k h e = ap (λ c. if c then of_walk env A (emit env b C k) else None) (test_is env A t h ∙ e)

pub typed_improper : (env : Env) (b : Bare) (A : Ty) (t : Boolean) (C : List Pat) (k : ℕ) (before : List PatPair) → (IsTrue t ↔ IsProper env A) → t ≡ false → ◌≡◌ {A = Option Walk} None (option_map (walk_of before) (emit env (bare_of b A) C k))
typed_improper env b A t C k before h e = sym (ap (λ c. option_map (walk_of before) (if c then of_walk env A (emit env b C k) else None)) (test_is env A t h ∙ e))

pub typed_none : (env : Env) (b : Bare) (A : Ty) (t : Boolean) (C : List Pat) (k : ℕ) (before : List PatPair) → (IsTrue t ↔ IsProper env A) → t ≡ true → None ≡ option_map (walk_of before) (emit env b C k) →
    ◌≡◌ {A = Option Walk} None (option_map (walk_of before) (emit env (bare_of b A) C k))
typed_none env b A t C k before h e n =
    sym (ap (option_map (walk_of before)) (emit_of_proper env b A t C k h e ∙ ap (of_walk env A) (none_out (emit env b C k) before n)))

pub typed_clash : (env : Env) (b : Bare) (A : Ty) (t : Boolean) (C : List Pat) (k : ℕ) (before middle after : List PatPair) (w : Walked) (p : Pat) → (IsTrue t ↔ IsProper env A) → t ≡ true → Some (walk_told middle w) ≡ option_map (walk_of before) (emit env b C k) →
    p ≡ same_pattern A → option_map (λ qs. middle ++ qs) (meet w.sort (expression p)) ≡ when false after → ◌≡◌ {A = Option Walk} None (option_map (walk_of before) (emit env (bare_of b A) C k))
typed_clash env b A t C k before middle after w p h e n f m =
    let (x, eo, ew) = some_out (emit env b C k) before (walk_told middle w) n in
    let es : w.sort ≡ x.sort = ap (λ (y : Walk). y.sort) ew in
    let q : meet x.sort (expression (same_pattern A)) ≡ None = ap (λ s. meet s (expression (same_pattern A))) (sym es) ∙ ap (λ r. meet w.sort (expression r)) (sym f) ∙ met_false (meet w.sort (expression p)) middle after m in
    sym (ap (option_map (walk_of before)) (emit_of_proper env b A t C k h e ∙ ap (of_walk env A) eo ∙ ap (option_map (of_emitted env A x)) q))

pub typed_some : (env : Env) (b : Bare) (A : Ty) (t : Boolean) (C : List Pat) (k : ℕ) (before middle after : List PatPair) (w : Walked) (p : Pat) → (IsTrue t ↔ IsProper env A) → t ≡ true → Some (walk_told middle w) ≡ option_map (walk_of before) (emit env b C k) →
    p ≡ same_pattern A → option_map (λ qs. middle ++ qs) (meet w.sort (expression p)) ≡ when true after → Some (walk_told after w) ≡ option_map (walk_of before) (emit env (bare_of b A) C k)
typed_some env b A t C k before middle after w p h e n f m =
    let (x, eo, ew) = some_out (emit env b C k) before (walk_told middle w) n in
    let es : w.sort ≡ x.sort = ap (λ (y : Walk). y.sort) ew in
    let en : w.next ≡ x.next = ap (λ (y : Walk). y.next) ew in
    let ep : middle ≡ before ++ x.pairs = ap (λ (y : Walk). y.pairs) ew in
    let (qs, eq, ea) = met_true (meet w.sort (expression p)) middle after m in
    let q : meet x.sort (expression (same_pattern A)) ≡ Some qs = ap (λ s. meet s (expression (same_pattern A))) (sym es) ∙ ap (λ r. meet w.sort (expression r)) (sym f) ∙ eq in
    walk_by after (before ++ (x.pairs ++ qs)) w.next x.next w.sort x.sort (ea ∙ ap (λ l. l ++ qs) ep ∙ append_assoc before x.pairs qs) en es
    ∙ sym (ap (option_map (walk_of before)) (emit_of_proper env b A t C k h e ∙ ap (of_walk env A) eo ∙ ap (option_map (of_emitted env A x)) q))

-- the children, one after the other
abbrev pub rest_walk : Env → List Bare → List Ty → Pats → List Pat → ℕ → List PatPair → Option AllWalk
rest_walk env bs As ps C k before = option_map (all_walk_of before) (emit_all env (bares bs) As ps C k)

child_gives : (env : Env) (b : Bare) (A : Ty) (ps : Pats) (C : List Pat) (k m : ℕ) (before after : List PatPair) → Some (all_walk_told after m) ≡ child_walk env b A ps C k before →
    (e : Emitted) × (qs : List PatPair) × (emit env b C k ≡ Some e) × (meet e.sort (sort_of ps A) ≡ Some qs) × (after ≡ before ++ (e.pairs ++ qs)) × (m ≡ e.next)
child_gives env b A ps C k m before after h = go (emit env b C k) refl h
  where
    inner : (e : Emitted) (r : Option (List PatPair)) → Some (all_walk_told after m) ≡ option_map (met_walk before e) r → (qs : List PatPair) × (r ≡ Some qs) × (all_walk_told after m ≡ met_walk before e qs)
    inner e None g = cc
    inner e (Some qs) g = (qs, refl, cc)

    go : (o : Option Emitted) → emit env b C k ≡ o → Some (all_walk_told after m) ≡ option_and_then (λ (e : Emitted). option_map (met_walk before e) (meet e.sort (sort_of ps A))) o →
        (e : Emitted) × (qs : List PatPair) × (emit env b C k ≡ Some e) × (meet e.sort (sort_of ps A) ≡ Some qs) × (after ≡ before ++ (e.pairs ++ qs)) × (m ≡ e.next)
    go None q g = cc
    go (Some e) q g =
        let (qs, er, ew) = inner e (meet e.sort (sort_of ps A)) g in
        (e, qs, q, er, ap (λ (x : AllWalk). x.pairs) ew, ap (λ (x : AllWalk). x.next) ew)

more_found : (env : Env) (b : Bare) (bs : List Bare) (A : Ty) (As : List Ty) (ps : Pats) (C : List Pat) (k m : ℕ) (before after : List PatPair) → Some (all_walk_told after m) ≡ child_walk env b A ps C k before →
    rest_walk env bs As ps C m after ≡ rest_walk env (b ∷ bs) (A ∷ As) ps C k before
more_found env b bs A As ps C k m before after h =
    let (e, qs, eo, er, ea, en) = child_gives env b A ps C k m before after h in
    ap (λ l. rest_walk env bs As ps C m l) ea ∙ ap (λ n. rest_walk env bs As ps C n (before ++ (e.pairs ++ qs))) en
    ∙ shift e qs (emit_all env (bares bs) As ps C e.next)
    ∙ sym (ap (λ o. option_map (all_walk_of before) (option_and_then (λ (x : Emitted). option_and_then (λ (rs : List PatPair). option_map (more_emitted env x rs) (emit_all env (bares bs) As ps C x.next)) (meet x.sort (sort_of ps A))) o)) eo
    ∙ ap (λ o. option_map (all_walk_of before) (option_and_then (λ (rs : List PatPair). option_map (more_emitted env e rs) (emit_all env (bares bs) As ps C e.next)) o)) er)
  where
    shift : (e : Emitted) (qs : List PatPair) (o : Option AllEmitted) → option_map (all_walk_of (before ++ (e.pairs ++ qs))) o ≡ option_map (all_walk_of before) (option_map (more_emitted env e qs) o)
    shift e qs None = refl
    shift e qs (Some a) =
        all_walk_by ((before ++ (e.pairs ++ qs)) ++ a.pairs) (before ++ (e.pairs ++ (qs ++ a.pairs))) a.next a.next
        (append_assoc before (e.pairs ++ qs) a.pairs ∙ ap (λ l. before ++ l) (append_assoc e.pairs qs a.pairs)) refl

more_missing : (env : Env) (b : Bare) (bs : List Bare) (A : Ty) (As : List Ty) (ps : Pats) (C : List Pat) (k : ℕ) (before : List PatPair) → None ≡ child_walk env b A ps C k before →
    None ≡ rest_walk env (b ∷ bs) (A ∷ As) ps C k before
more_missing env b bs A As ps C k before h = go (emit env b C k) h
  where
    inner : (e : Emitted) (r : Option (List PatPair)) → None ≡ option_map (met_walk before e) r → None ≡ option_map (all_walk_of before) (option_and_then (λ (rs : List PatPair). option_map (more_emitted env e rs) (emit_all env (bares bs) As ps C e.next)) r)
    inner e None g = refl
    inner e (Some qs) g = cc

    go : (o : Option Emitted) → None ≡ option_and_then (λ (e : Emitted). option_map (met_walk before e) (meet e.sort (sort_of ps A))) o →
        None ≡ option_map (all_walk_of before) (option_and_then (λ (x : Emitted). option_and_then (λ (rs : List PatPair). option_map (more_emitted env x rs) (emit_all env (bares bs) As ps C x.next)) (meet x.sort (sort_of ps A))) o)
    go None g = refl
    go (Some e) g = inner e (meet e.sort (sort_of ps A)) g

pub all_step : (env : Env) (bs : List Bare) (As : List Ty) (i : ℕ) (b : Bare) (A : Ty) (ps : Pats) (C D : List Pat) (k m : ℕ) (before after : List PatPair) (whole : Option AllWalk) → b ≡ get_or bs i b → A ≡ get_or As i A → i < length bs → length bs ≡ length As →
    D ≡ C → Some (all_walk_told after m) ≡ child_walk env b A ps D k before → rest_walk env (drop i bs) (drop i As) ps C k before ≡ whole → rest_walk env (drop (i + 1) bs) (drop (i + 1) As) ps C m after ≡ whole
all_step env bs As i b A ps C D k m before after whole p q h same c f g =
    let l : i < length As = omega arith in
    more_found env b (drop (i + 1) bs) A (drop (i + 1) As) ps C k m before after (f ∙ ap (λ E. child_walk env b A ps E k before) c)
    ∙ sym (ap (λ l. rest_walk env l (drop i As) ps C k before) (drop_at bs i b p h) ∙ ap (λ l. rest_walk env (b ∷ drop (i + 1) bs) l ps C k before) (drop_at As i A q l)) ∙ g

pub all_fails : (env : Env) (bs : List Bare) (As : List Ty) (i : ℕ) (b : Bare) (A : Ty) (ps : Pats) (C D : List Pat) (k : ℕ) (before : List PatPair) (whole : Option AllWalk) → b ≡ get_or bs i b → A ≡ get_or As i A → i < length bs → length bs ≡ length As →
    D ≡ C → None ≡ child_walk env b A ps D k before → rest_walk env (drop i bs) (drop i As) ps C k before ≡ whole → None ≡ whole
all_fails env bs As i b A ps C D k before whole p q h same c f g =
    let l : i < length As = omega arith in
    more_missing env b (drop (i + 1) bs) A (drop (i + 1) As) ps C k before (f ∙ ap (λ E. child_walk env b A ps E k before) c)
    ∙ sym (ap (λ l. rest_walk env l (drop i As) ps C k before) (drop_at bs i b p h) ∙ ap (λ l. rest_walk env (b ∷ drop (i + 1) bs) l ps C k before) (drop_at As i A q l)) ∙ g

pub all_ends : (env : Env) (bs : List Bare) (As : List Ty) (i : ℕ) (ps : Pats) (C : List Pat) (k : ℕ) (before : List PatPair) (whole : Option AllWalk) → length bs ≤ i → length bs ≡ length As →
    rest_walk env (drop i bs) (drop i As) ps C k before ≡ whole → Some (all_walk_told before k) ≡ whole
all_ends env bs As i ps C k before whole h same g =
    let l : length As ≤ i = omega arith in
    all_walk_by before (before ++ []) k k (sym (append_nothing before)) refl
    ∙ sym (ap (λ x. rest_walk env x (drop i As) ps C k before) (drop_all bs i h) ∙ ap (λ x. rest_walk env [] x ps C k before) (drop_all As i l)) ∙ g

none_then : {X Y : Type 0} (f : X → Option Y) (o : Option X) → ((x : X) → f x ≡ None) → option_and_then f o ≡ None
none_then f None h = refl
none_then f (Some x) h = h x

pub other_count : (env : Env) (bs : List Bare) (As : List Ty) (ps : Pats) (C : List Pat) (k : ℕ) → length bs ≢ length As → emit_all env (bares bs) As ps C k ≡ None
other_count env [] [] ps C k h = absurd (h refl)
other_count env [] (A ∷ As) ps C k h = refl
other_count env (b ∷ bs) [] ps C k h = refl
other_count env (b ∷ bs) (A ∷ As) ps C k h =
    none_then _ (emit env b C k) (λ e. none_then _ (meet e.sort (sort_of ps A)) (λ qs. ap (option_map (more_emitted env e qs)) (other_count env bs As ps C e.next (λ q. h (ap suc q)))))

pub all_other : (env : Env) (bs : List Bare) (As : List Ty) (ps : Pats) (C : List Pat) (k : ℕ) (before : List PatPair) → length bs ≢ length As → ◌≡◌ {A = Option AllWalk} None (rest_walk env bs As ps C k before)
all_other env bs As ps C k before h = sym (ap (option_map (all_walk_of before)) (other_count env bs As ps C k h))

-- the context under a symbol
append_empty : (C : List Pat) → C ++ [] ≡ C
append_empty [] = refl
append_empty (p ∷ ps) = ap (λ qs. p ∷ qs) (append_empty ps)

pub under_none : (env : Env) (C : List Pat) (s : Sym) (ps : List Pat) → binds s ≡ 0 → C ≡ under env C s (pats ps)
under_none env C s ps e = sym (ap (λ n. C ++ take n (pat_list (pats ps))) e ∙ append_empty C)

pub under_empty : (env : Env) (C : List Pat) (s : Sym) (ps : List Pat) → length ps ≡ 0 → C ≡ under env C s (pats ps)
under_empty env C s [] e = sym (ap (λ qs. C ++ qs) (taken (binds s)) ∙ append_empty C)
  where
    taken : (n : ℕ) → ◌≡◌ {A = List Pat} (take n []) []
    taken zero = refl
    taken (suc n) = refl
under_empty env C s (p ∷ ps) e = absurd (omega (arith, e))

pub under_one : (env : Env) (C : List Pat) (s : Sym) (ps : List Pat) (p : Pat) → (binds s ≡ 0 → ⊥) → 0 < length ps → p ≡ get_or ps 0 p → C ++ p ∷ [] ≡ under env C s (pats ps)
under_one env C s [] p h l e = absurd (omega (arith, l))
under_one env C s (q ∷ ps) p h l e =
    let n : binds s ≡ 1 = omega (arith, binds_le s) in
    sym (ap (λ k. C ++ take k (q ∷ pat_list (pats ps))) n ∙ ap (λ x. C ++ x ∷ []) (sym e))

-- a node
abbrev node_walk : Env → Sym → Option Ty → Bares → List Pat → ℕ → Option Profile → Option Emitted
node_walk env s w bs C k o =
    option_and_then (λ (p : Profile). option_and_then (λ (ps : NodeTypes). option_map (node_emitted env s ps.types p) (emit_all env bs p.args ps.types (under env C s ps.types) ps.next)) (node_types env w p.params k)) o

pub node_unknown : (env : Env) (s : Sym) (w : Option Ty) (bs : Bares) (C : List Pat) (k : ℕ) (before : List PatPair) → ◌≡◌ {A = Option Profile} None (profile env s) →
    ◌≡◌ {A = Option Walk} None (option_map (walk_of before) (emit env (bare_node s w bs) C k))
node_unknown env s w bs C k before e = ap (λ o. option_map (walk_of before) (node_walk env s w bs C k o)) e

pub node_untyped : (env : Env) (s : Sym) (w : Option Ty) (bs : Bares) (C : List Pat) (k : ℕ) (before : List PatPair) (t : SymbolTypes) → Some (profile_told t) ≡ profile env s →
    ◌≡◌ {A = Option NodeTypes} None (node_types env w t.params k) → ◌≡◌ {A = Option Walk} None (option_map (walk_of before) (emit env (bare_node s w bs) C k))
node_untyped env s w bs C k before t e n =
    ap (λ o. option_map (walk_of before) (option_and_then (λ (ps : NodeTypes). option_map (node_emitted env s ps.types (profile_told t)) (emit_all env bs t.args ps.types (under env C s ps.types) ps.next)) o)) n
    ∙ ap (λ o. option_map (walk_of before) (node_walk env s w bs C k o)) e

pub node_unfit : (env : Env) (s : Sym) (w : Option Ty) (bs : Bares) (C : List Pat) (k : ℕ) (before : List PatPair) (t : SymbolTypes) (n : NodePats) → Some (profile_told t) ≡ profile env s →
    Some (types_told n) ≡ node_types env w t.params k →
    ◌≡◌ {A = Option AllWalk} None (option_map (all_walk_of before) (emit_all env bs t.args (pats n.types.items) (under env C s (pats n.types.items)) n.next)) →
    ◌≡◌ {A = Option Walk} None (option_map (walk_of before) (emit env (bare_node s w bs) C k))
node_unfit env s w bs C k before t n e f h =
    sym (ap (λ o. option_map (walk_of before) (node_walk env s w bs C k o)) (sym e)
    ∙ ap (λ o. option_map (walk_of before) (option_and_then (λ (ps : NodeTypes). option_map (node_emitted env s ps.types (profile_told t)) (emit_all env bs t.args ps.types (under env C s ps.types) ps.next)) o)) (sym f)
    ∙ ap (λ o. option_map (walk_of before) (option_map (node_emitted env s (pats n.types.items) (profile_told t)) o)) (all_none_out _ before h))

pub node_found : (env : Env) (s : Sym) (w : Option Ty) (bs : Bares) (C : List Pat) (k m : ℕ) (before after : List PatPair) (t : SymbolTypes) (n : NodePats) (r : Sort) → Some (profile_told t) ≡ profile env s →
    Some (types_told n) ≡ node_types env w t.params k →
    Some (all_walk_told after m) ≡ option_map (all_walk_of before) (emit_all env bs t.args (pats n.types.items) (under env C s (pats n.types.items)) n.next) →
    r ≡ sort_of (pats n.types.items) t.result →
    ◌≡◌ {A = Option Walk} (Some (record { pairs = after; next = m; sort = r })) (option_map (walk_of before) (emit env (bare_node s w bs) C k))
node_found env s w bs C k m before after t n r e f h g =
    let (a, eo, ew) = all_some_out (emit_all env bs t.args (pats n.types.items) (under env C s (pats n.types.items)) n.next) before (all_walk_told after m) h in
    walk_by after (before ++ a.pairs) m a.next r (sort_of (pats n.types.items) t.result) (ap (λ (x : AllWalk). x.pairs) ew) (ap (λ (x : AllWalk). x.next) ew) g
    ∙ sym (ap (λ o. option_map (walk_of before) (node_walk env s w bs C k o)) (sym e)
    ∙ ap (λ o. option_map (walk_of before) (option_and_then (λ (ps : NodeTypes). option_map (node_emitted env s ps.types (profile_told t)) (emit_all env bs t.args ps.types (under env C s ps.types) ps.next)) o)) (sym f)
    ∙ ap (λ o. option_map (walk_of before) (option_map (node_emitted env s (pats n.types.items) (profile_told t)) o)) eo)
