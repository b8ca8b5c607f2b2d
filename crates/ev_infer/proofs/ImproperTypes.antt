-- The patterns of a walk are proper, so any solution of its pairs gives one by proper types, and a most general solution has proper patterns.
use Rattle.std.specs.Prelude.{◌≡◌, ℕ, zero, suc, ◌+◌, ◌^◌, ◌==◌, ◌&&◌, Bool as Boolean, true, false, nat_lt, List, [], ◌∷◌, ◌++◌, reverse, take, length, Option, Some, None, slice_get, unwrap_or, IsSomeAnd, ⊤, if◌then◌else◌, refl}
use Rattle.std.specs.List.{AllByRecursion}
use Rattle.std.proofs.Common.{ap, sym, ◌∙◌, subst as transport}
use Rattle.std.proofs.lemmas.List.{reverse-append}
use Rattle.ev_terms.specs.declared.types.Ty.{Ty, Int as IntType, Bool as BoolType, Prop, Param as ParamType, Data as DataType}
use Rattle.ev_terms.specs.declared.types.Tys.{Tys, Empty as NoTypes}
use Rattle.ev_terms.specs.Types.{pow, prod, more, type_list}
use Rattle.ev_terms.specs.Symbols.{binds}
use Rattle.ev_typing.specs.declared.typing.DataDecl.{DataDecl}
use Rattle.ev_typing.specs.Env.{Env, find_data, profile}
use Rattle.ev_typing.specs.Typing.{IsProper, AreProper}
use Rattle.ev_typing.specs.Proper.{is_proper, has_count, IsResult, HasProperSignatures}
use Rattle.ev_typing.proofs.Proper.{and_split, proper_from_test}
use Rattle.ev_unify.specs.declared.patterns.Pat.{Pat, Int, Bool, Param, Data, Unknown}
use Rattle.ev_unify.specs.declared.patterns.Pats.{Pats, Empty}
use Rattle.ev_unify.specs.declared.patterns.PatPair.{PatPair}
use Rattle.ev_unify.specs.Patterns.{pow_pat, prod_pat, more_pats, pat_list, value, values}
use Rattle.ev_unify.specs.Solutions.{Solves, IsMostGeneral}
use Rattle.ev_resolve.specs.Bare.{Bare, Bares, bare_var, bare_lit, bare_node, bare_of, bare_none, bare_more}
use Rattle.ev_infer.specs.declared.sorts.Sort.{Sort}
use Rattle.ev_infer.specs.declared.sorts.Sort.TheVariants.{Predicate as predicate, Expression as expression}
use Rattle.ev_infer.specs.Equations.{same_pattern, pattern_of, patterns_of, sort_of, meet, unknowns, Emitted, AllEmitted, NodeTypes, node_types, under, var_emitted, node_emitted, of_emitted, more_emitted, emit, emit_all}
use Rattle.ev_unify.proofs.Followed.{prod_by, more_by, through}
use Rattle.ev_infer.proofs.Sound.{and_then_gives, map_gives, if_gives, some_gives}
use Rattle.ev_infer.proofs.Free.{all_int}

-- a pattern that names only datatypes of the environment, each with its number of types
abbrev mutual
  pub IsProperPat : Env → Pat → Type 0
  IsProperPat env Int = ⊤
  IsProperPat env Bool = ⊤
  IsProperPat env (Param i) = ⊤
  IsProperPat env (pow_pat p) = IsProperPat env p
  IsProperPat env (prod_pat p q) = IsProperPat env p × IsProperPat env q
  IsProperPat env (Data n ps) = IsSomeAnd (find_data env n) (λ d. length (pat_list ps) ≡ d.params) × AreProperPats env ps
  IsProperPat env (Unknown u) = ⊤

  pub AreProperPats : Env → Pats → Type 0
  AreProperPats env Empty = ⊤
  AreProperPats env (more_pats p ps) = IsProperPat env p × AreProperPats env ps

abbrev pub AreProperPairs : Env → List PatPair → Type 0
AreProperPairs env pairs = AllByRecursion (λ (p : PatPair). IsProperPat env p.left × IsProperPat env p.right) pairs

abbrev pub IsProperSort : Env → Sort → Type 0
IsProperSort env predicate = ⊤
IsProperSort env (expression p) = IsProperPat env p

-- lists
pub all_append : {X : Type 0} (P : X → Type 0) (xs ys : List X) → AllByRecursion P xs → AllByRecursion P ys → AllByRecursion P (xs ++ ys)
all_append P [] ys h g = g
all_append P (x ∷ xs) ys h g = (h.0, all_append P xs ys h.1 g)

pub all_reverse : {X : Type 0} (P : X → Type 0) (xs : List X) → AllByRecursion P xs → AllByRecursion P (reverse xs)
all_reverse P [] h = tt
all_reverse P (x ∷ xs) h = transport (AllByRecursion P) (sym (reverse-append (x ∷ []) xs)) (all_append P (reverse xs) (x ∷ []) (all_reverse P xs h.1) (h.0, tt))

pub all_take : {X : Type 0} (P : X → Type 0) (n : ℕ) (xs : List X) → AllByRecursion P xs → AllByRecursion P (take n xs)
all_take P zero xs h = tt
all_take P (suc n) [] h = tt
all_take P (suc n) (x ∷ xs) h = (h.0, all_take P n xs h.1)

pub all_get : {X : Type 0} (P : X → Type 0) (xs : List X) (i : ℕ) (x : X) → AllByRecursion P xs → slice_get xs i ≡ Some x → P x
all_get P [] i x h e = cc
all_get P (y ∷ xs) zero x h e = let q : y ≡ x = cc in transport P q h.0
all_get P (y ∷ xs) (suc i) x h e = all_get P xs i x h.1 e

pats_all : (env : Env) (ps : Pats) → AreProperPats env ps → AllByRecursion (IsProperPat env) (pat_list ps)
pats_all env Empty h = tt
pats_all env (more_pats p ps) h = (h.0, pats_all env ps h.1)

-- patterns of proper types
pat_or : (env : Env) (o : Option Pat) (i : ℕ) → ((p : Pat) → o ≡ Some p → IsProperPat env p) → IsProperPat env (unwrap_or o (Param i))
pat_or env None i h = tt
pat_or env (Some p) i h = h p refl

count_patterns : (ps : Pats) (As : Tys) → length (pat_list (patterns_of ps As)) ≡ length (type_list As)
count_patterns ps NoTypes = refl
count_patterns ps (more A As) = ap suc (count_patterns ps As)

mutual
  pub pattern_proper : (env : Env) (ps : Pats) (A : Ty) → AreProperPats env ps → IsProper env A → IsProperPat env (pattern_of ps A)
  pattern_proper env ps IntType h g = tt
  pattern_proper env ps BoolType h g = tt
  pattern_proper env ps Prop h g = absurd g
  pattern_proper env ps (ParamType i) h g = pat_or env (slice_get (pat_list ps) i) i (λ p e. all_get (IsProperPat env) (pat_list ps) i p (pats_all env ps h) e)
  pattern_proper env ps (pow A) h g = pattern_proper env ps A h g
  pattern_proper env ps (prod A B) h g = (pattern_proper env ps A h g.0, pattern_proper env ps B h g.1)
  pattern_proper env ps (DataType n As) h g =
      (transport (λ k. IsSomeAnd (find_data env n) (λ d. k ≡ d.params)) (sym (count_patterns ps As)) g.0, patterns_proper env ps As h g.1)

  pub patterns_proper : (env : Env) (ps : Pats) (As : Tys) → AreProperPats env ps → AreProper env As → AreProperPats env (patterns_of ps As)
  patterns_proper env ps NoTypes h g = tt
  patterns_proper env ps (more A As) h g = (pattern_proper env ps A h g.0, patterns_proper env ps As h g.1)

pub sort_proper : (env : Env) (ps : Pats) (A : Ty) → AreProperPats env ps → IsResult env A → IsProperSort env (sort_of ps A)
sort_proper env ps IntType h g = tt
sort_proper env ps BoolType h g = tt
sort_proper env ps Prop h g = tt
sort_proper env ps (ParamType i) h g = pattern_proper env ps (ParamType i) h g
sort_proper env ps (pow A) h g = pattern_proper env ps (pow A) h g
sort_proper env ps (prod A B) h g = pattern_proper env ps (prod A B) h g
sort_proper env ps (DataType n As) h g = pattern_proper env ps (DataType n As) h g

pub meet_proper : (env : Env) (s s' : Sort) (qs : List PatPair) → IsProperSort env s → IsProperSort env s' → meet s s' ≡ Some qs → AreProperPairs env qs
meet_proper env predicate predicate qs h g e = transport (AreProperPairs env) (sym (some_gives _ _ e)) tt
meet_proper env predicate (expression q) qs h g e = cc
meet_proper env (expression p) predicate qs h g e = cc
meet_proper env (expression p) (expression q) qs h g e = transport (AreProperPairs env) (sym (some_gives _ _ e)) ((h, g), tt)

unknowns_proper : (env : Env) (k n : ℕ) → AreProperPats env (unknowns k n)
unknowns_proper env k zero = tt
unknowns_proper env k (suc n) = (tt, unknowns_proper env (k + 1) n)

node_types_proper : (env : Env) (w : Option Ty) (params k : ℕ) (ps : NodeTypes) → node_types env w params k ≡ Some ps → AreProperPats env ps.types
node_types_proper env None params k ps e = transport (λ (q : NodeTypes). AreProperPats env q.types) (sym (some_gives _ _ e)) (unknowns_proper env k params)
node_types_proper env (Some A) params k ps e =
    let g = if_gives (params == 1 && is_proper env A) _ ps e in
    transport (λ (q : NodeTypes). AreProperPats env q.types) (sym (some_gives _ _ g.1))
    (pattern_proper env Empty A tt (proper_from_test env A (and_split (params == 1) (is_proper env A) g.0).1), tt)

module _ (env : Env) (signatures : HasProperSignatures env) where
  mutual
    pub emit_proper : (b : Bare) (ctx : List Pat) (k : ℕ) (o : Emitted) → AllByRecursion (IsProperPat env) ctx → emit env b ctx k ≡ Some o → AreProperPairs env o.pairs × IsProperSort env o.sort
    emit_proper (bare_var i) ctx k o h e =
        let g = map_gives (var_emitted env i k) (slice_get (reverse ctx) i) o e in
        transport (λ (q : Emitted). AreProperPairs env q.pairs × IsProperSort env q.sort) (sym g.2) (tt, all_get (IsProperPat env) (reverse ctx) i g.0 (all_reverse (IsProperPat env) ctx h) g.1)
    emit_proper (bare_lit n) ctx k o h e =
        let g = if_gives (nat_lt n (2 ^ 127)) _ o e in
        transport (λ (q : Emitted). AreProperPairs env q.pairs × IsProperSort env q.sort) (sym (some_gives _ _ g.1)) (tt, tt)
    emit_proper (bare_node s w bs) ctx k o h e =
        let (p, ep, e1) = and_then_gives _ (profile env s) o e in
        let (ps, en, e2) = and_then_gives _ (node_types env w p.params k) o e1 in
        let (all, ea, eo) = map_gives (node_emitted env s ps.types p) (emit_all env bs p.args ps.types (under env ctx s ps.types) ps.next) o e2 in
        let hp = node_types_proper env w p.params k ps en in
        transport (λ (q : Emitted). AreProperPairs env q.pairs × IsProperSort env q.sort) (sym eo) (
          all_emit_proper bs p.args ps.types (under env ctx s ps.types) ps.next all
              (all_append (IsProperPat env) ctx (take (binds s) (pat_list ps.types)) h (all_take (IsProperPat env) (binds s) (pat_list ps.types) (pats_all env ps.types hp)))
              hp (signatures s p ep).0 ea,
          sort_proper env ps.types p.result hp (signatures s p ep).1,
        )
    emit_proper (bare_of b A) ctx k o h e =
        let g = if_gives (is_proper env A) _ o e in
        let (q, eq, e1) = and_then_gives _ (emit env b ctx k) o g.1 in
        let (qs, em, eo) = map_gives (of_emitted env A q) (meet q.sort (expression (same_pattern A))) o e1 in
        let r = emit_proper b ctx k q h eq in
        transport (λ (x : Emitted). AreProperPairs env x.pairs × IsProperSort env x.sort) (sym eo)
        (all_append _ q.pairs qs r.0 (meet_proper env q.sort (expression (same_pattern A)) qs r.1 (pattern_proper env Empty A tt (proper_from_test env A g.0)) em), r.1)

    pub all_emit_proper : (bs : Bares) (As : List Ty) (ps : Pats) (ctx : List Pat) (k : ℕ) (o : AllEmitted) → AllByRecursion (IsProperPat env) ctx → AreProperPats env ps → AllByRecursion (IsResult env) As
        → emit_all env bs As ps ctx k ≡ Some o → AreProperPairs env o.pairs
    all_emit_proper bare_none [] ps ctx k o h hp r e = transport (λ (q : AllEmitted). AreProperPairs env q.pairs) (sym (some_gives _ _ e)) tt
    all_emit_proper bare_none (A ∷ As) ps ctx k o h hp r e = cc
    all_emit_proper (bare_more b bs) [] ps ctx k o h hp r e = cc
    all_emit_proper (bare_more b bs) (A ∷ As) ps ctx k o h hp r e =
        let (q, eq, e1) = and_then_gives _ (emit env b ctx k) o e in
        let (qs, em, e2) = and_then_gives _ (meet q.sort (sort_of ps A)) o e1 in
        let (all, ea, eo) = map_gives (more_emitted env q qs) (emit_all env bs As ps ctx q.next) o e2 in
        let x = emit_proper b ctx k q h eq in
        transport (λ (y : AllEmitted). AreProperPairs env y.pairs) (sym eo)
        (all_append _ q.pairs (qs ++ all.pairs) x.0 (all_append _ qs all.pairs (meet_proper env q.sort (sort_of ps A) qs x.1 (sort_proper env ps A hp r.0) em) (all_emit_proper bs As ps ctx q.next all h hp r.1 ea)))

-- A type with INT in the place of what is not proper.
abbrev mutual
  pub or_int : Env → Ty → Ty
  or_int env IntType = IntType
  or_int env BoolType = BoolType
  or_int env Prop = IntType
  or_int env (ParamType i) = ParamType i
  or_int env (pow A) = pow (or_int env A)
  or_int env (prod A B) = prod (or_int env A) (or_int env B)
  or_int env (DataType n As) = if has_count (find_data env n) (length (type_list As)) then DataType n (all_or_int env As) else IntType

  pub all_or_int : Env → Tys → Tys
  all_or_int env NoTypes = NoTypes
  all_or_int env (more A As) = more (or_int env A) (all_or_int env As)

count_or_int : (env : Env) (As : Tys) → length (type_list (all_or_int env As)) ≡ length (type_list As)
count_or_int env NoTypes = refl
count_or_int env (more A As) = ap suc (count_or_int env As)

has_count_gives : (o : Option DataDecl) (n : ℕ) → has_count o n ≡ true → IsSomeAnd o (λ d. n ≡ d.params)
has_count_gives None n e = cc
has_count_gives (Some d) n e = Rattle.std.proofs.lemmas.Bool.eqb-true n d.params e

has_count_from : (o : Option DataDecl) (n : ℕ) → IsSomeAnd o (λ d. n ≡ d.params) → has_count o n ≡ true
has_count_from None n h = absurd h
has_count_from (Some d) n h = Rattle.std.proofs.lemmas.Bool.eq-eqb n d.params h

mutual
  pub proper_or_int : (env : Env) (A : Ty) → IsProper env (or_int env A)
  proper_or_int env IntType = tt
  proper_or_int env BoolType = tt
  proper_or_int env Prop = tt
  proper_or_int env (ParamType i) = tt
  proper_or_int env (pow A) = proper_or_int env A
  proper_or_int env (prod A B) = (proper_or_int env A, proper_or_int env B)
  proper_or_int env (DataType n As) = go (all_proper_or_int env As) (has_count (find_data env n) (length (type_list As))) refl
    where
      go : AreProper env (all_or_int env As) → (b : Boolean) → has_count (find_data env n) (length (type_list As)) ≡ b → IsProper env (if b then DataType n (all_or_int env As) else IntType)
      go h true e = (transport (λ k. IsSomeAnd (find_data env n) (λ d. k ≡ d.params)) (sym (count_or_int env As)) (has_count_gives (find_data env n) (length (type_list As)) e), h)
      go h false e = tt

  pub all_proper_or_int : (env : Env) (As : Tys) → AreProper env (all_or_int env As)
  all_proper_or_int env NoTypes = tt
  all_proper_or_int env (more A As) = (proper_or_int env A, all_proper_or_int env As)

count_values : (σ : ℕ → Ty) (ps : Pats) → length (type_list (values σ ps)) ≡ length (pat_list ps)
count_values σ Empty = refl
count_values σ (more_pats p ps) = ap suc (count_values σ ps)

mutual
  pub or_int_value : (env : Env) (σ : ℕ → Ty) (p : Pat) → IsProperPat env p → or_int env (value σ p) ≡ value (λ u. or_int env (σ u)) p
  or_int_value env σ Int h = refl
  or_int_value env σ Bool h = refl
  or_int_value env σ (Param i) h = refl
  or_int_value env σ (pow_pat p) h = ap pow (or_int_value env σ p h)
  or_int_value env σ (prod_pat p q) h = prod_by (or_int_value env σ p h.0) (or_int_value env σ q h.1)
  or_int_value env σ (Data n ps) h =
      ap (λ b. if b then DataType n (all_or_int env (values σ ps)) else IntType)
      (ap (has_count (find_data env n)) (count_values σ ps) ∙ has_count_from (find_data env n) (length (pat_list ps)) h.0)
      ∙ ap (DataType n) (or_int_values env σ ps h.1)
  or_int_value env σ (Unknown u) h = refl

  pub or_int_values : (env : Env) (σ : ℕ → Ty) (ps : Pats) → AreProperPats env ps → all_or_int env (values σ ps) ≡ values (λ u. or_int env (σ u)) ps
  or_int_values env σ Empty h = refl
  or_int_values env σ (more_pats p ps) h = more_by (or_int_value env σ p h.0) (or_int_values env σ ps h.1)

pub or_int_solves : (env : Env) (σ : ℕ → Ty) (pairs : List PatPair) → AreProperPairs env pairs → Solves σ pairs → Solves (λ u. or_int env (σ u)) pairs
or_int_solves env σ [] h g = tt
or_int_solves env σ (p ∷ ps) h g =
    (sym (or_int_value env σ p.left h.0.0) ∙ ap (or_int env) g.0 ∙ or_int_value env σ p.right h.0.1, or_int_solves env σ ps h.1 g.1)

mutual
  pat_from_value : (env : Env) (σ : ℕ → Ty) (p : Pat) → IsProper env (value σ p) → IsProperPat env p
  pat_from_value env σ Int h = tt
  pat_from_value env σ Bool h = tt
  pat_from_value env σ (Param i) h = tt
  pat_from_value env σ (pow_pat p) h = pat_from_value env σ p h
  pat_from_value env σ (prod_pat p q) h = (pat_from_value env σ p h.0, pat_from_value env σ q h.1)
  pat_from_value env σ (Data n ps) h = (transport (λ k. IsSomeAnd (find_data env n) (λ d. k ≡ d.params)) (count_values σ ps) h.0, pats_from_values env σ ps h.1)
  pat_from_value env σ (Unknown u) h = tt

  pats_from_values : (env : Env) (σ : ℕ → Ty) (ps : Pats) → AreProper env (values σ ps) → AreProperPats env ps
  pats_from_values env σ Empty h = tt
  pats_from_values env σ (more_pats p ps) h = (pat_from_value env σ p h.0, pats_from_values env σ ps h.1)

mutual
  value_proper : (env : Env) (σ : ℕ → Ty) → ((i : ℕ) → IsProper env (σ i)) → (p : Pat) → IsProperPat env p → IsProper env (value σ p)
  value_proper env σ h Int g = tt
  value_proper env σ h Bool g = tt
  value_proper env σ h (Param i) g = tt
  value_proper env σ h (pow_pat p) g = value_proper env σ h p g
  value_proper env σ h (prod_pat p q) g = (value_proper env σ h p g.0, value_proper env σ h q g.1)
  value_proper env σ h (Data n ps) g = (transport (λ k. IsSomeAnd (find_data env n) (λ d. k ≡ d.params)) (sym (count_values σ ps)) g.0, values_proper env σ h ps g.1)
  value_proper env σ h (Unknown u) g = h u

  values_proper : (env : Env) (σ : ℕ → Ty) → ((i : ℕ) → IsProper env (σ i)) → (ps : Pats) → AreProperPats env ps → AreProper env (values σ ps)
  values_proper env σ h Empty g = tt
  values_proper env σ h (more_pats p ps) g = (value_proper env σ h p g.0, values_proper env σ h ps g.1)

-- A most general solution of proper pairs gives proper types from proper types.
pub general_proper : (env : Env) (μ : ℕ → Pat) (pairs : List PatPair) → AreProperPairs env pairs → IsMostGeneral μ pairs → (θ : ℕ → Ty) → ((i : ℕ) → IsProper env (θ i)) → (u : ℕ) → IsProper env (through θ μ u)
general_proper env μ pairs h m θ p u =
    let σ : ℕ → Ty = λ v. or_int env (through all_int μ v) in
    let s : Solves σ pairs = or_int_solves env (through all_int μ) pairs h (m.solves all_int) in
    value_proper env θ p (μ u) (pat_from_value env σ (μ u) (transport (IsProper env) (m.general σ s u) (proper_or_int env (through all_int μ u))))
