-- Values of patterns.
use Rattle.std.specs.Prelude.{◌≡◌, ◌≢◌, ℕ, zero, suc, ◌+◌, ◌≤◌, ◌<◌, Bool as Boolean, true, false, ◌==◌, List, [], ◌∷◌, ◌++◌, map, reverse, take, length, Option, Some, None, slice_get, unwrap_or, option_map, if◌then◌else◌, refl}
use Rattle.std.proofs.Common.{ap, sym, ◌∙◌, arith, subst as transport}
use Rattle.std.proofs.lemmas.Bool.{eqb-true, eq-eqb}
use Rattle.std.proofs.lemmas.Option.{slice_get-map}
use Rattle.std.proofs.lemmas.List.{map-append, reverse-append, take-map}
use Rattle.ev_terms.specs.declared.types.Ty.{Ty, Int as IntType, Bool as BoolType, Prop, Param as ParamType, Data as DataType}
use Rattle.ev_terms.specs.declared.types.Tys.{Tys, Empty as NoTypes}
use Rattle.ev_terms.specs.declared.types.Sym.{Sym}
use Rattle.ev_terms.specs.Types.{pow, prod, more, type_list}
use Rattle.ev_terms.specs.Symbols.{binds}
use Rattle.ev_terms.specs.Substitution.{type_inst, types_inst, type_at}
use Rattle.ev_typing.specs.Env.{Env}
use Rattle.ev_typing.specs.Typing.{IsProper, AreProper, inside, var_type}
use Rattle.ev_typing.specs.Proper.{IsResult}
use Rattle.ev_unify.specs.declared.patterns.Pat.{Pat, Param}
use Rattle.ev_unify.specs.declared.patterns.Pats.{Pats, Empty}
use Rattle.ev_unify.specs.declared.patterns.PatPair.{PatPair}
use Rattle.ev_unify.specs.Patterns.{more_pats, pat_list, pat_at, value, values}
use Rattle.ev_unify.specs.Solutions.{Solves}
use Rattle.ev_unify.proofs.Followed.{prod_by, more_by}
use Rattle.ev_infer.specs.declared.sorts.Sort.{Sort}
use Rattle.ev_infer.specs.declared.sorts.Sort.TheVariants.{Predicate as predicate, Expression as expression}
use Rattle.ev_infer.specs.Equations.{sort_type, pattern_of, patterns_of, same_pattern, sort_of, meet, unknowns, under}

pub map-reverse : {X Y : Type 0} (f : X → Y) (xs : List X) → map f (reverse xs) ≡ reverse (map f xs)
map-reverse f [] = refl
map-reverse f (x ∷ xs) =
    ap (map f) (reverse-append (x ∷ []) xs) ∙ map-append f (reverse xs) (x ∷ []) ∙ ap (λ l. l ++ f x ∷ []) (map-reverse f xs)
    ∙ sym (reverse-append (f x ∷ []) (map f xs))

pub type_list-values : (σ : ℕ → Ty) (ps : Pats) → type_list (values σ ps) ≡ map (value σ) (pat_list ps)
type_list-values σ Empty = refl
type_list-values σ (more_pats p ps) = ap (λ l. value σ p ∷ l) (type_list-values σ ps)

value-or : (σ : ℕ → Ty) (o : Option Pat) (i : ℕ) → value σ (unwrap_or o (Param i)) ≡ unwrap_or (option_map (value σ) o) (ParamType i)
value-or σ None i = refl
value-or σ (Some p) i = refl

pub value-pat_at : (σ : ℕ → Ty) (ps : Pats) (i : ℕ) → value σ (pat_at ps i) ≡ type_at (values σ ps) i
value-pat_at σ ps i =
    value-or σ (slice_get (pat_list ps) i) i
    ∙ ap (λ o. unwrap_or o (ParamType i)) (sym (slice_get-map (value σ) (pat_list ps) i) ∙ ap (λ l. slice_get l i) (sym (type_list-values σ ps)))

mutual
  pub value-pattern_of : (env : Env) (σ : ℕ → Ty) (ps : Pats) (A : Ty) → IsProper env A → value σ (pattern_of ps A) ≡ type_inst (type_at (values σ ps)) A
  value-pattern_of env σ ps IntType h = refl
  value-pattern_of env σ ps BoolType h = refl
  value-pattern_of env σ ps Prop h = absurd h
  value-pattern_of env σ ps (ParamType i) h = value-pat_at σ ps i
  value-pattern_of env σ ps (pow A) h = ap pow (value-pattern_of env σ ps A h)
  value-pattern_of env σ ps (prod A B) h = prod_by (value-pattern_of env σ ps A h.0) (value-pattern_of env σ ps B h.1)
  value-pattern_of env σ ps (DataType n As) h = ap (DataType n) (values-patterns_of env σ ps As h.1)

  pub values-patterns_of : (env : Env) (σ : ℕ → Ty) (ps : Pats) (As : Tys) → AreProper env As → values σ (patterns_of ps As) ≡ types_inst (type_at (values σ ps)) As
  values-patterns_of env σ ps NoTypes h = refl
  values-patterns_of env σ ps (more A As) h = more_by (value-pattern_of env σ ps A h.0) (values-patterns_of env σ ps As h.1)

mutual
  pub value-same : (env : Env) (σ : ℕ → Ty) (A : Ty) → IsProper env A → value σ (same_pattern A) ≡ A
  value-same env σ IntType h = refl
  value-same env σ BoolType h = refl
  value-same env σ Prop h = absurd h
  value-same env σ (ParamType i) h = refl
  value-same env σ (pow A) h = ap pow (value-same env σ A h)
  value-same env σ (prod A B) h = prod_by (value-same env σ A h.0) (value-same env σ B h.1)
  value-same env σ (DataType n As) h = ap (DataType n) (values-same env σ As h.1)

  pub values-same : (env : Env) (σ : ℕ → Ty) (As : Tys) → AreProper env As → values σ (patterns_of Empty As) ≡ As
  values-same env σ NoTypes h = refl
  values-same env σ (more A As) h = more_by (value-same env σ A h.0) (values-same env σ As h.1)

pub sort_type-sort_of : (env : Env) (σ : ℕ → Ty) (ps : Pats) (A : Ty) → IsResult env A → sort_type σ (sort_of ps A) ≡ type_inst (type_at (values σ ps)) A
sort_type-sort_of env σ ps IntType h = refl
sort_type-sort_of env σ ps BoolType h = refl
sort_type-sort_of env σ ps Prop h = refl
sort_type-sort_of env σ ps (ParamType i) h = value-pat_at σ ps i
sort_type-sort_of env σ ps (pow A) h = value-pattern_of env σ ps (pow A) h
sort_type-sort_of env σ ps (prod A B) h = value-pattern_of env σ ps (prod A B) h
sort_type-sort_of env σ ps (DataType n As) h = value-pattern_of env σ ps (DataType n As) h

-- contexts
pub map-under : (env : Env) (σ : ℕ → Ty) (ctx : List Pat) (s : Sym) (ps : Pats) → map (value σ) (under env ctx s ps) ≡ inside (map (value σ) ctx) s (values σ ps)
map-under env σ ctx s ps =
    map-append (value σ) ctx (take (binds s) (pat_list ps))
    ∙ ap (λ l. map (value σ) ctx ++ l) (sym (take-map (value σ) (binds s) (pat_list ps)) ∙ ap (take (binds s)) (sym (type_list-values σ ps)))

pub var_type-map : (σ : ℕ → Ty) (ctx : List Pat) (i : ℕ) → var_type (map (value σ) ctx) i ≡ option_map (value σ) (slice_get (reverse ctx) i)
var_type-map σ ctx i = ap (λ l. slice_get l i) (sym (map-reverse (value σ) ctx)) ∙ slice_get-map (value σ) (reverse ctx) i

-- solutions of lists
pub solves_append : (σ : ℕ → Ty) (xs ys : List PatPair) → Solves σ xs → Solves σ ys → Solves σ (xs ++ ys)
solves_append σ [] ys h g = g
solves_append σ (x ∷ xs) ys h g = (h.0, solves_append σ xs ys h.1 g)

pub solves_first : (σ : ℕ → Ty) (xs ys : List PatPair) → Solves σ (xs ++ ys) → Solves σ xs
solves_first σ [] ys h = tt
solves_first σ (x ∷ xs) ys h = (h.0, solves_first σ xs ys h.1)

pub solves_last : (σ : ℕ → Ty) (xs ys : List PatPair) → Solves σ (xs ++ ys) → Solves σ ys
solves_last σ [] ys h = h
solves_last σ (x ∷ xs) ys h = solves_last σ xs ys h.1

pub meet_gives : (σ : ℕ → Ty) (s s' : Sort) (qs : List PatPair) → meet s s' ≡ Some qs → Solves σ qs → sort_type σ s ≡ sort_type σ s'
meet_gives σ predicate predicate qs e h = refl
meet_gives σ predicate (expression q) qs e h = cc
meet_gives σ (expression p) predicate qs e h = cc
meet_gives σ (expression p) (expression q) qs e h =
    let i : record { left = p; right = q } ∷ [] ≡ qs = cc in
    (transport (Solves σ) (sym i) h).0

-- unknowns
pub unknowns_proper : (env : Env) (σ : ℕ → Ty) (k n : ℕ) → ((i : ℕ) → IsProper env (σ i)) → AreProper env (values σ (unknowns k n))
unknowns_proper env σ k zero h = tt
unknowns_proper env σ k (suc n) h = (h k, unknowns_proper env σ (k + 1) n h)

pub unknowns_count : (σ : ℕ → Ty) (k n : ℕ) → length (type_list (values σ (unknowns k n))) ≡ n
unknowns_count σ k zero = refl
unknowns_count σ k (suc n) = ap suc (unknowns_count σ (k + 1) n)

-- an assignment with these types at the numbers from k on
abbrev pub put : (ℕ → Ty) → ℕ → Tys → ℕ → Ty
put σ k NoTypes i = σ i
put σ k (more A As) i = if i == k then A else put σ (k + 1) As i

if_proper : (env : Env) (b : Boolean) (A B : Ty) → IsProper env A → IsProper env B → IsProper env (if b then A else B)
if_proper env true A B h g = h
if_proper env false A B h g = g

pub put_proper : (env : Env) (σ : ℕ → Ty) (k : ℕ) (As : Tys) → ((i : ℕ) → IsProper env (σ i)) → AreProper env As → (i : ℕ) → IsProper env (put σ k As i)
put_proper env σ k NoTypes h g i = h i
put_proper env σ k (more A As) h g i = if_proper env (i == k) A (put σ (k + 1) As i) g.0 (put_proper env σ (k + 1) As h g.1 i)

other : (i k : ℕ) (A B : Ty) → i ≢ k → (if i == k then A else B) ≡ B
other i k A B h = go (i == k) refl
  where
    go : (b : Boolean) → (i == k) ≡ b → (if b then A else B) ≡ B
    go true e = absurd (h (eqb-true i k e))
    go false e = refl

this : (k : ℕ) (A B : Ty) → (if k == k then A else B) ≡ A
this k A B = ap (λ b. if b then A else B) (eq-eqb k k refl)

pub put_below : (σ : ℕ → Ty) (k : ℕ) (As : Tys) (i : ℕ) → i < k → put σ k As i ≡ σ i
put_below σ k NoTypes i h = refl
put_below σ k (more A As) i h = other i k A (put σ (k + 1) As i) (λ e. omega (arith, e)) ∙ put_below σ (k + 1) As i (omega arith)

pub put_values : (σ σ' : ℕ → Ty) (k : ℕ) (As : Tys) → ((i : ℕ) → k ≤ i → i < k + length (type_list As) → put σ k As i ≡ σ' i) → values σ' (unknowns k (length (type_list As))) ≡ As
put_values σ σ' k NoTypes h = refl
put_values σ σ' k (more A As) h =
    more_by (sym (h k (omega arith) (omega arith)) ∙ this k A (put σ (k + 1) As k))
    (put_values σ σ' (k + 1) As (λ i g f. sym (other i k A (put σ (k + 1) As i) (λ e. omega (arith, e))) ∙ h i (omega arith) (omega arith)))
