-- What is cited is needed, and what is needed and proved holds.
use Rattle.std.specs.Prelude.{◌≡◌, ◌++◌, ◌&&◌, ◌||◌, zero, suc, Bool as Boolean, true, false, if◌then◌else◌, List, [], ◌∷◌, Option, Some, None, map, filter, flat_map, fold, bytes_eq, Contains, refl}
use Rattle.std.specs.List.{list_any}
use Rattle.std.proofs.Common.{ap, sym, ◌∙◌, subst as transport, arith}
use Rattle.ev_typing.specs.Env.{Name}
use Rattle.ev_typing.proofs.Names.{same_name, name_same}
use Rattle.ev_ops.proofs.Basics.{contains_first, contains_more}
use Rattle.ev_ops.proofs.Fitting.{contains_front}
use Rattle.ev_proof.specs.declared.steps.Ref.{Ref}
use Rattle.ev_proof.specs.declared.steps.Step.{Step}
use Rattle.ev_replay.specs.Replay.{step_ref, same_ref, with_ref, with_step, with_line, cites}

-- Members of lists that are made of others.
pub stands_behind : {X : Type 0} (xs ys : List X) (y : X) → Contains ys y → Contains (xs ++ ys) y
stands_behind [] ys y c = c
stands_behind (x ∷ xs) ys y c = contains_more y x (xs ++ ys) (stands_behind xs ys y c)

pub map_stands : {X Y : Type 0} (f : X → Y) (xs : List X) (x : X) → Contains xs x → Contains (map f xs) (f x)
map_stands f [] x (k, l, q) = absurd (omega arith)
map_stands f (z ∷ zs) x (zero, l, q) = transport (λ y. Contains (f z ∷ map f zs) (f y)) q (contains_first (f z) (map f zs))
map_stands f (z ∷ zs) x (suc k, l, q) = contains_more (f x) (f z) (map f zs) (map_stands f zs x (k, omega arith, q))

pub flat_stands : {X Y : Type 0} (f : X → List Y) (xs : List X) (x : X) (y : Y) → Contains xs x → Contains (f x) y → Contains (flat_map f xs) y
flat_stands f [] x y (k, l, q) c = absurd (omega arith)
flat_stands f (z ∷ zs) x y (zero, l, q) c = contains_front (f z) (flat_map f zs) y (transport (λ w. Contains (f w) y) (sym q) c)
flat_stands f (z ∷ zs) x y (suc k, l, q) c = stands_behind (f z) (flat_map f zs) y (flat_stands f zs x y (k, omega arith, q) c)

pub filter_stands : {X : Type 0} (f : X → Boolean) (xs : List X) (x : X) → Contains xs x → f x ≡ true → Contains (filter f xs) x
filter_stands f [] x (k, l, q) h = absurd (omega arith)
filter_stands {X} f (z ∷ zs) x (zero, l, q) h = by (f z) (ap f q ∙ h)
  where
    by : (b : Boolean) → b ≡ true → Contains (if b then z ∷ filter f zs else filter f zs) x
    by true m = transport (λ w. Contains (z ∷ filter f zs) w) q (contains_first z (filter f zs))
    by false m = cc
filter_stands {X} f (z ∷ zs) x (suc k, l, q) h = by (f z) (filter_stands f zs x (k, omega arith, q) h)
  where
    by : (b : Boolean) → Contains (filter f zs) x → Contains (if b then z ∷ filter f zs else filter f zs) x
    by true c = contains_more x z (filter f zs) c
    by false c = c

pub stands_filter : {X : Type 0} (f : X → Boolean) (xs : List X) (x : X) → Contains (filter f xs) x → Contains xs x
stands_filter f [] x c = c
stands_filter {X} f (z ∷ zs) x c = by (f z) c (λ d. stands_filter f zs x d)
  where
    by : (b : Boolean) → Contains (if b then z ∷ filter f zs else filter f zs) x → (Contains (filter f zs) x → Contains zs x) → Contains (z ∷ zs) x
    by true (zero, l, q) g = (zero, omega arith, q)
    by true (suc k, l, q) g = contains_more x z zs (g (k, omega arith, q))
    by false d g = contains_more x z zs (g d)

-- Labels.
abbrev ref_of : Name → Name → Ref
ref_of t l = record { theory = t; label = l }

pub refs_same : (a b : Ref) → same_ref a b ≡ true → a ≡ b
refs_same a b h = by (bytes_eq a.theory b.theory) (bytes_eq a.label b.label) refl refl h
  where
    by : (x y : Boolean) → bytes_eq a.theory b.theory ≡ x → bytes_eq a.label b.label ≡ y → (x && y) ≡ true → a ≡ b
    by true true m l k = let i : a.theory ≡ b.theory = same_name a.theory b.theory m in let j : a.label ≡ b.label = same_name a.label b.label l in ap (λ t. ref_of t a.label) i ∙ ap (ref_of b.theory) j
    by true false m l k = cc
    by false y m l k = cc

pub ref_same : (r : Ref) → same_ref r r ≡ true
ref_same r = ap (λ b. b && bytes_eq r.label r.label) (name_same r.theory) ∙ name_same r.label

pub any_stands : (rs : List Ref) (r : Ref) → list_any (same_ref r) rs ≡ true → Contains rs r
any_stands [] r h = cc
any_stands (x ∷ rs) r h = by (same_ref r x) refl h (any_stands rs r)
  where
    by : (b : Boolean) → same_ref r x ≡ b → (b || list_any (same_ref r) rs) ≡ true → (list_any (same_ref r) rs ≡ true → Contains rs r) → Contains (x ∷ rs) r
    by true q k g = transport (λ y. Contains (x ∷ rs) y) (sym (refs_same r x q)) (contains_first x rs)
    by false q k g = contains_more r x rs (g k)

pub stands_any : (rs : List Ref) (r : Ref) → Contains rs r → list_any (same_ref r) rs ≡ true
stands_any [] r (k, l, q) = absurd (omega arith)
stands_any (x ∷ rs) r (zero, l, q) = ap (λ b. b || list_any (same_ref r) rs) (ap (same_ref r) q ∙ ref_same r)
stands_any (x ∷ rs) r (suc k, l, q) = by (same_ref r x) (stands_any rs r (k, omega arith, q))
  where
    by : (b : Boolean) → list_any (same_ref r) rs ≡ true → (b || list_any (same_ref r) rs) ≡ true
    by true g = refl
    by false g = g

-- The labels that lines cite.
kept_ref : (refs : List Ref) (x r : Ref) → Contains refs r → Contains (with_ref refs x) r
kept_ref refs x r c = by (list_any (same_ref x) refs)
  where
    by : (b : Boolean) → Contains (if b then refs else refs ++ x ∷ []) r
    by true = c
    by false = contains_front refs (x ∷ []) r c

new_ref : (refs : List Ref) (x : Ref) → Contains (with_ref refs x) x
new_ref refs x = by (list_any (same_ref x) refs) refl
  where
    by : (b : Boolean) → list_any (same_ref x) refs ≡ b → Contains (if b then refs else refs ++ x ∷ []) x
    by true q = any_stands refs x q
    by false q = stands_behind refs (x ∷ []) x (contains_first x [])

kept_line : (refs : List Ref) (l : Option Step) (r : Ref) → Contains refs r → Contains (with_line refs l) r
kept_line refs None r c = c
kept_line refs (Some step) r c = by (step_ref step)
  where
    by : (o : Option Ref) → Contains (with_step refs o) r
    by None = c
    by (Some x) = kept_ref refs x r c

kept_lines : (lines : List (Option Step)) (refs : List Ref) (r : Ref) → Contains refs r → Contains (fold with_line refs lines) r
kept_lines [] refs r c = c
kept_lines (l ∷ lines) refs r c = kept_lines lines (with_line refs l) r (kept_line refs l r c)

-- a line of the list is this step
abbrev pub IsLine : List (Option Step) → Step → Type 0
IsLine lines step = Contains lines (Some step)

cited_in : (lines : List (Option Step)) (refs : List Ref) (step : Step) (r : Ref) → step_ref step ≡ Some r → Contains lines (Some step) → Contains (fold with_line refs lines) r
cited_in [] refs step r h (k, l, q) = absurd (omega arith)
cited_in (x ∷ lines) refs step r h (zero, l, q) =
    kept_lines lines (with_line refs x) r (transport (λ y. Contains (with_line refs y) r) (sym q) (transport (λ o. Contains (with_step refs o) r) (sym h) (new_ref refs r)))
cited_in (x ∷ lines) refs step r h (suc k, l, q) = cited_in lines (with_line refs x) step r h (k, omega arith, q)

pub step_cited : (lines : List (Option Step)) (step : Step) (r : Ref) → step_ref step ≡ Some r → IsLine lines step → Contains (cites lines) r
step_cited lines step r h c = cited_in lines [] step r h c
