-- The equations of a term use no unknown from their last number on, so a solution of them binds none.
use Rattle.std.specs.Prelude.{◌≡◌, ◌≢◌, ℕ, zero, suc, ◌+◌, ◌<◌, ◌≤◌, ◌^◌, ◌==◌, ◌&&◌, ◌||◌, ◌⊎◌, ⊤, Bool as Boolean, true, false, nat_lt, List, [], ◌∷◌, ◌++◌, map, reverse, Option, Some, None, slice_get, unwrap_or, option_map, if◌then◌else◌, refl}
use Rattle.std.proofs.Common.{ap, sym, ◌∙◌, arith, inl, inr, subst as transport}
use Rattle.std.proofs.lemmas.Bool.{eqb-true, eq-eqb, cases_lt}
use Rattle.ev_terms.specs.declared.types.Ty.{Ty, Int as IntType, Bool as BoolType, Prop, Param as ParamType, Data as DataType}
use Rattle.ev_terms.specs.declared.types.Tys.{Tys, Empty as NoTypes}
use Rattle.ev_terms.specs.declared.types.Sym.{Sym}
use Rattle.ev_terms.specs.Types.{pow, prod, more}
use Rattle.ev_terms.specs.Measures.{type_size, types_size}
use Rattle.ev_typing.specs.Env.{Env, profile}
use Rattle.ev_typing.specs.Proper.{is_proper, is_result}
use Rattle.ev_unify.specs.declared.patterns.Pat.{Pat, Int, Bool, Param, Data, Unknown}
use Rattle.ev_unify.specs.declared.patterns.Pats.{Pats, Empty}
use Rattle.ev_unify.specs.declared.patterns.PatPair.{PatPair}
use Rattle.ev_unify.specs.declared.patterns.Bind.{Bind}
use Rattle.ev_unify.specs.Patterns.{pow_pat, prod_pat, more_pats, pat_list, value, values, has_unknown, have_unknown}
use Rattle.ev_unify.specs.Solutions.{Solves, HasSolution, IsUnifier, Meets, bound_to}
use Rattle.ev_unify.proofs.Followed.{prod_by, more_by}
use Rattle.ev_resolve.specs.Bare.{Bare, Bares, bare_var, bare_lit, bare_node, bare_of, bare_none, bare_more}
use Rattle.ev_infer.specs.declared.sorts.Sort.{Sort}
use Rattle.ev_infer.specs.declared.sorts.Sort.TheVariants.{Predicate as predicate, Expression as expression}
use Rattle.ev_infer.specs.Equations.{sort_type, pattern_of, patterns_of, same_pattern, sort_of, meet, unknowns, Emitted, AllEmitted, NodeTypes, node_types, under, var_emitted, node_emitted, of_emitted, more_emitted, emit, emit_all}
use Rattle.ev_infer.specs.Inference.{with_pairs, asked, bare_equations}
use Rattle.ev_infer.specs.inner.Solving.{AreOrdered, UseBelow}
use Rattle.ev_infer.proofs.Values.{map-under, var_type-map, solves_append, solves_first, solves_last}
use Rattle.ev_infer.proofs.Sound.{and_then_gives, map_gives, if_gives, some_gives}

-- the numbers grow
types_grow : (env : Env) (w : Option Ty) (params k : ℕ) (ps : NodeTypes) → node_types env w params k ≡ Some ps → k ≤ ps.next
types_grow env None params k ps e = let i : k + params ≡ ps.next = ap (λ (q : NodeTypes). q.next) (sym (some_gives _ _ e)) in omega (arith, i)
types_grow env (Some A) params k ps e =
    let g = if_gives (params == 1 && is_proper env A) _ ps e in
    let i : k ≡ ps.next = ap (λ (q : NodeTypes). q.next) (sym (some_gives _ _ g.1)) in
    omega (arith, i)

module _ (env : Env) where
  mutual
    pub emit_grows : (b : Bare) (ctx : List Pat) (k : ℕ) (o : Emitted) → emit env b ctx k ≡ Some o → k ≤ o.next
    emit_grows (bare_var i) ctx k o e =
        let g = map_gives (var_emitted env i k) (slice_get (reverse ctx) i) o e in
        let n : o.next ≡ k = ap (λ (q : Emitted). q.next) g.2 in
        omega (arith, n)
    emit_grows (bare_lit n) ctx k o e =
        let g = if_gives (nat_lt n (2 ^ 127)) _ o e in
        let n : o.next ≡ k = ap (λ (q : Emitted). q.next) (some_gives _ _ g.1) in
        omega (arith, n)
    emit_grows (bare_node s w bs) ctx k o e =
        let (p, ep, e1) = and_then_gives _ (profile env s) o e in
        let (ps, en, e2) = and_then_gives _ (node_types env w p.params k) o e1 in
        let (all, ea, eo) = map_gives (node_emitted env s ps.types p) (emit_all env bs p.args ps.types (under env ctx s ps.types) ps.next) o e2 in
        let n : o.next ≡ all.next = ap (λ (q : Emitted). q.next) eo in
        let x = types_grow env w p.params k ps en in
        let y = all_grow bs p.args ps.types (under env ctx s ps.types) ps.next all ea in
        omega (arith, n, x, y)
    emit_grows (bare_of b A) ctx k o e =
        let g = if_gives (is_proper env A) _ o e in
        let (q, eq, e1) = and_then_gives _ (emit env b ctx k) o g.1 in
        let (qs, em, eo) = map_gives (of_emitted env A q) (meet q.sort (expression (same_pattern A))) o e1 in
        let n : o.next ≡ q.next = ap (λ (x : Emitted). x.next) eo in
        let x = emit_grows b ctx k q eq in
        omega (arith, n, x)

    pub all_grow : (bs : Bares) (As : List Ty) (ps : Pats) (ctx : List Pat) (k : ℕ) (o : AllEmitted) → emit_all env bs As ps ctx k ≡ Some o → k ≤ o.next
    all_grow bare_none [] ps ctx k o e = let n : o.next ≡ k = ap (λ (q : AllEmitted). q.next) (some_gives _ _ e) in omega (arith, n)
    all_grow bare_none (A ∷ As) ps ctx k o e = cc
    all_grow (bare_more b bs) [] ps ctx k o e = cc
    all_grow (bare_more b bs) (A ∷ As) ps ctx k o e =
        let (q, eq, e1) = and_then_gives _ (emit env b ctx k) o e in
        let (qs, em, e2) = and_then_gives _ (meet q.sort (sort_of ps A)) o e1 in
        let (all, ea, eo) = map_gives (more_emitted env q qs) (emit_all env bs As ps ctx q.next) o e2 in
        let n : o.next ≡ all.next = ap (λ (x : AllEmitted). x.next) eo in
        let x = emit_grows b ctx k q eq in
        let y = all_grow bs As ps ctx q.next all ea in
        omega (arith, n, x, y)

-- Two assignments that agree below a number.
module _ (σ τ : ℕ → Ty) where
  abbrev Below : ℕ → Type 0
  Below k = (i : ℕ) → i < k → σ i ≡ τ i

  below_less : (k m : ℕ) → k ≤ m → Below m → Below k
  below_less k m l h i j = h i (omega (arith, l, j))

  abbrev Agree : Pats → Type 0
  Agree Empty = ⊤
  Agree (more_pats p ps) = (value σ p ≡ value τ p) × Agree ps

  agree_values : (ps : Pats) → Agree ps → values σ ps ≡ values τ ps
  agree_values Empty h = refl
  agree_values (more_pats p ps) h = more_by h.0 (agree_values ps h.1)

  agree_at : (ps : Pats) (i j : ℕ) → Agree ps → value σ (unwrap_or (slice_get (pat_list ps) i) (Param j)) ≡ value τ (unwrap_or (slice_get (pat_list ps) i) (Param j))
  agree_at Empty zero j h = refl
  agree_at Empty (suc i) j h = refl
  agree_at (more_pats p ps) zero j h = h.0
  agree_at (more_pats p ps) (suc i) j h = agree_at ps i j h.1

  mutual
    pattern_agrees : (ps : Pats) → Agree ps → (A : Ty) → value σ (pattern_of ps A) ≡ value τ (pattern_of ps A)
    pattern_agrees ps h IntType = refl
    pattern_agrees ps h BoolType = refl
    pattern_agrees ps h Prop = refl
    pattern_agrees ps h (ParamType i) = agree_at ps i i h
    pattern_agrees ps h (pow A) = ap pow (pattern_agrees ps h A)
    pattern_agrees ps h (prod A B) = prod_by (pattern_agrees ps h A) (pattern_agrees ps h B)
    pattern_agrees ps h (DataType n As) = ap (DataType n) (patterns_agree ps h As)

    patterns_agree : (ps : Pats) → Agree ps → (As : Tys) → values σ (patterns_of ps As) ≡ values τ (patterns_of ps As)
    patterns_agree ps h NoTypes = refl
    patterns_agree ps h (more A As) = more_by (pattern_agrees ps h A) (patterns_agree ps h As)

  abbrev SortAgrees : Sort → Type 0
  SortAgrees s = sort_type σ s ≡ sort_type τ s

  sort_agrees : (ps : Pats) → Agree ps → (A : Ty) → SortAgrees (sort_of ps A)
  sort_agrees ps h IntType = refl
  sort_agrees ps h BoolType = refl
  sort_agrees ps h Prop = refl
  sort_agrees ps h (ParamType i) = agree_at ps i i h
  sort_agrees ps h (pow A) = pattern_agrees ps h (pow A)
  sort_agrees ps h (prod A B) = pattern_agrees ps h (prod A B)
  sort_agrees ps h (DataType n As) = pattern_agrees ps h (DataType n As)

  unknowns_agree : (k n : ℕ) → Below (k + n) → Agree (unknowns k n)
  unknowns_agree k zero h = tt
  unknowns_agree k (suc n) h = (h k (omega arith), unknowns_agree (k + 1) n (λ i l. h i (omega (arith, l))))

  types_agree : (env : Env) (w : Option Ty) (params k : ℕ) (ps : NodeTypes) → node_types env w params k ≡ Some ps → Below ps.next → Agree ps.types
  types_agree env None params k ps e h =
      let i : record { types = unknowns k params; next = k + params } ≡ ps = sym (some_gives _ _ e) in
      transport (λ (q : NodeTypes). Below q.next → Agree q.types) i (unknowns_agree k params) h
  types_agree env (Some A) params k ps e h =
      let g = if_gives (params == 1 && is_proper env A) _ ps e in
      let i : record { types = more_pats (same_pattern A) Empty; next = k } ≡ ps = sym (some_gives _ _ g.1) in
      transport (λ (q : NodeTypes). Agree q.types) i (pattern_agrees Empty tt A, tt)

  meet_moves : (s t : Sort) (qs : List PatPair) → meet s t ≡ Some qs → SortAgrees s → SortAgrees t → Solves σ qs → Solves τ qs
  meet_moves predicate predicate qs e f g h = transport (Solves τ) (sym (some_gives _ _ e)) tt
  meet_moves predicate (expression q) qs e f g h = cc
  meet_moves (expression p) predicate qs e f g h = cc
  meet_moves (expression p) (expression q) qs e f g h =
      let i = some_gives _ _ e in
      let x = transport (Solves σ) i h in
      transport (Solves τ) (sym i) (sym f ∙ x.0 ∙ g, tt)

  abbrev ContextAgrees : List Pat → Type 0
  ContextAgrees ctx = map (value σ) ctx ≡ map (value τ) ctx

  -- what is solved stays so, and the sort's type is the same
  abbrev Moves : Emitted → Type 0
  Moves o = (Solves σ o.pairs → Solves τ o.pairs) × SortAgrees o.sort

  module _ (env : Env) where
    under_agrees : (ctx : List Pat) (s : Sym) (ps : Pats) → ContextAgrees ctx → Agree ps → ContextAgrees (under env ctx s ps)
    under_agrees ctx s ps c h =
        map-under env σ ctx s ps ∙ ap (λ C. Rattle.ev_typing.specs.Typing.inside C s (values σ ps)) c ∙ ap (Rattle.ev_typing.specs.Typing.inside (map (value τ) ctx) s) (agree_values ps h) ∙ sym (map-under env τ ctx s ps)

    mutual
      emit_moves : (b : Bare) (ctx : List Pat) (k : ℕ) (o : Emitted) → emit env b ctx k ≡ Some o → Below o.next → ContextAgrees ctx → Moves o
      emit_moves (bare_var i) ctx k o e h c =
          let g = map_gives (var_emitted env i k) (slice_get (reverse ctx) i) o e in
          let x : option_map (value σ) (slice_get (reverse ctx) i) ≡ option_map (value τ) (slice_get (reverse ctx) i) =
          sym (var_type-map σ ctx i) ∙ ap (λ C. Rattle.ev_typing.specs.Typing.var_type C i) c ∙ var_type-map τ ctx i in
          let y : Some (value σ g.0) ≡ Some (value τ g.0) = sym (ap (option_map (value σ)) g.1) ∙ x ∙ ap (option_map (value τ)) g.1 in
          transport Moves (sym g.2) (λ z. tt, sym (some_gives _ _ y))
      emit_moves (bare_lit n) ctx k o e h c =
          let g = if_gives (nat_lt n (2 ^ 127)) _ o e in
          transport Moves (sym (some_gives _ _ g.1)) (λ z. tt, refl)
      emit_moves (bare_node s w bs) ctx k o e h c =
          let (p, ep, e1) = and_then_gives _ (profile env s) o e in
          let (ps, en, e2) = and_then_gives _ (node_types env w p.params k) o e1 in
          let (all, ea, eo) = map_gives (node_emitted env s ps.types p) (emit_all env bs p.args ps.types (under env ctx s ps.types) ps.next) o e2 in
          let n : o.next ≡ all.next = ap (λ (q : Emitted). q.next) eo in
          let h' : Below all.next = transport Below n h in
          let a : Agree ps.types = types_agree env w p.params k ps en (below_less ps.next all.next (all_grow env bs p.args ps.types (under env ctx s ps.types) ps.next all ea) h') in
          transport Moves (sym eo) (all_move bs p.args ps.types (under env ctx s ps.types) ps.next all ea h' (under_agrees ctx s ps.types c a) a, sort_agrees ps.types a p.result)
      emit_moves (bare_of b A) ctx k o e h c =
          let g = if_gives (is_proper env A) _ o e in
          let (q, eq, e1) = and_then_gives _ (emit env b ctx k) o g.1 in
          let (qs, em, eo) = map_gives (of_emitted env A q) (meet q.sort (expression (same_pattern A))) o e1 in
          let n : o.next ≡ q.next = ap (λ (x : Emitted). x.next) eo in
          let m = emit_moves b ctx k q eq (transport Below n h) c in
          transport Moves (sym eo)
          (λ s. solves_append τ q.pairs qs (m.0 (solves_first σ q.pairs qs s)) (meet_moves q.sort (expression (same_pattern A)) qs em m.1 (pattern_agrees Empty tt A) (solves_last σ q.pairs qs s)), m.1)

      all_move : (bs : Bares) (As : List Ty) (ps : Pats) (ctx : List Pat) (k : ℕ) (o : AllEmitted) → emit_all env bs As ps ctx k ≡ Some o → Below o.next → ContextAgrees ctx → Agree ps → Solves σ o.pairs → Solves τ o.pairs
      all_move bare_none [] ps ctx k o e h c a s = transport (λ (q : AllEmitted). Solves τ q.pairs) (sym (some_gives _ _ e)) tt
      all_move bare_none (A ∷ As) ps ctx k o e h c a s = cc
      all_move (bare_more b bs) [] ps ctx k o e h c a s = cc
      all_move (bare_more b bs) (A ∷ As) ps ctx k o e h c a s =
          let (q, eq, e1) = and_then_gives _ (emit env b ctx k) o e in
          let (qs, em, e2) = and_then_gives _ (meet q.sort (sort_of ps A)) o e1 in
          let (all, ea, eo) = map_gives (more_emitted env q qs) (emit_all env bs As ps ctx q.next) o e2 in
          let n : o.next ≡ all.next = ap (λ (x : AllEmitted). x.next) eo in
          let h' : Below all.next = transport Below n h in
          let m = emit_moves b ctx k q eq (below_less q.next all.next (all_grow env bs As ps ctx q.next all ea) h') c in
          let s' : Solves σ (q.pairs ++ (qs ++ all.pairs)) = transport (λ (x : AllEmitted). Solves σ x.pairs) eo s in
          let s2 = solves_last σ q.pairs (qs ++ all.pairs) s' in
          transport (λ (x : AllEmitted). Solves τ x.pairs) (sym eo)
          (solves_append τ q.pairs (qs ++ all.pairs) (m.0 (solves_first σ q.pairs (qs ++ all.pairs) s'))
          (solves_append τ qs all.pairs (meet_moves q.sort (sort_of ps A) qs em m.1 (sort_agrees ps a A) (solves_first σ qs all.pairs s2))
          (all_move bs As ps ctx q.next all ea h' c a (solves_last σ qs all.pairs s2))))

    context_agrees : (types : List Ty) → ContextAgrees (map same_pattern types)
    context_agrees [] = refl
    context_agrees (A ∷ As) = cons_by (pattern_agrees Empty tt A) (context_agrees As)
      where
        cons_by : {X : Type 0} {x y : X} {xs ys : List X} → x ≡ y → xs ≡ ys → (x ∷ xs) ≡ (y ∷ ys)
        cons_by p q = cc

    asked_moves : (expected : Option Ty) (q o : Emitted) → asked env expected q ≡ Some o → (Below q.next → Moves q) → Below o.next → Solves σ o.pairs → Solves τ o.pairs
    asked_moves None q o e m h s = let i : o ≡ q = some_gives q o e in transport (λ (x : Emitted). Solves τ x.pairs) (sym i) ((m (transport (λ (x : Emitted). Below x.next) i h)).0 (transport (λ (x : Emitted). Solves σ x.pairs) i s))
    asked_moves (Some A) q o e m h s =
        let g = if_gives (is_result env A) _ o e in
        let (qs, em, eo) = map_gives (with_pairs q) (meet q.sort (sort_of Empty A)) o g.1 in
        let n : o.next ≡ q.next = ap (λ (x : Emitted). x.next) eo in
        let d = m (transport Below n h) in
        let s' : Solves σ (q.pairs ++ qs) = transport (λ (x : Emitted). Solves σ x.pairs) eo s in
        transport (λ (x : Emitted). Solves τ x.pairs) (sym eo)
        (solves_append τ q.pairs qs (d.0 (solves_first σ q.pairs qs s')) (meet_moves q.sort (sort_of Empty A) qs em d.1 (sort_agrees Empty tt A) (solves_last σ q.pairs qs s')))

pub equations_use : (env : Env) (types : List Ty) (expected : Option Ty) (b : Bare) (o : Emitted) → bare_equations env (map same_pattern types) expected b ≡ Some o → UseBelow o.next o.pairs
equations_use env types expected b o e σ τ h s =
    let (q, eq, ea) = and_then_gives (asked env expected) (emit env b (map same_pattern types) 0) o e in
    asked_moves σ τ env expected q o ea (λ d. emit_moves σ τ env b (map same_pattern types) 0 q eq d (context_agrees σ τ env types)) h s

-- A power in place of an unknown's type, which is larger.
abbrev raised : (ℕ → Ty) → ℕ → ℕ → Ty
raised σ w i = if i == w then pow (σ i) else σ i

raised_other : (σ : ℕ → Ty) (w i : ℕ) → i ≢ w → σ i ≡ raised σ w i
raised_other σ w i n = go (i == w) refl
  where
    go : (b : Boolean) → (i == w) ≡ b → σ i ≡ (if b then pow (σ i) else σ i)
    go true e = absurd (n (eqb-true i w e))
    go false e = refl

raised_size : (σ : ℕ → Ty) (w i : ℕ) → type_size (σ i) ≤ type_size (raised σ w i)
raised_size σ w i = go (i == w)
  where
    go : (b : Boolean) → type_size (σ i) ≤ type_size (if b then pow (σ i) else σ i)
    go true = omega arith
    go false = omega arith

raised_here : (σ : ℕ → Ty) (w i : ℕ) → (i == w) ≡ true → type_size (σ i) < type_size (raised σ w i)
raised_here σ w i e = transport (λ b. type_size (σ i) < type_size (if b then pow (σ i) else σ i)) (sym e) (omega arith)

or_cases : (a b : Boolean) → (a || b) ≡ true → (a ≡ true) ⊎ (b ≡ true)
or_cases true b e = inl refl
or_cases false b e = inr e

mutual
  value_size : (σ : ℕ → Ty) (w : ℕ) (p : Pat) → type_size (value σ p) ≤ type_size (value (raised σ w) p)
  value_size σ w Int = omega arith
  value_size σ w Bool = omega arith
  value_size σ w (Param i) = omega arith
  value_size σ w (pow_pat a) = let x = value_size σ w a in omega (arith, x)
  value_size σ w (prod_pat a b) = let x = value_size σ w a in let y = value_size σ w b in omega (arith, x, y)
  value_size σ w (Data n ps) = let x = values_size σ w ps in omega (arith, x)
  value_size σ w (Unknown u) = raised_size σ w u

  values_size : (σ : ℕ → Ty) (w : ℕ) (ps : Pats) → types_size (values σ ps) ≤ types_size (values (raised σ w) ps)
  values_size σ w Empty = omega arith
  values_size σ w (more_pats a ps) = let x = value_size σ w a in let y = values_size σ w ps in omega (arith, x, y)

mutual
  value_grows : (σ : ℕ → Ty) (w : ℕ) (p : Pat) → has_unknown w p ≡ true → type_size (value σ p) < type_size (value (raised σ w) p)
  value_grows σ w Int e = cc
  value_grows σ w Bool e = cc
  value_grows σ w (Param i) e = cc
  value_grows σ w (pow_pat a) e = let x = value_grows σ w a e in omega (arith, x)
  value_grows σ w (prod_pat a b) e =
      let x = value_size σ w a in
      let y = value_size σ w b in
      elim (or_cases (has_unknown w a) (has_unknown w b) e) as (λ _. type_size (value σ (prod_pat a b)) < type_size (value (raised σ w) (prod_pat a b))) [
        | inl h ↦ let z = value_grows σ w a h in omega (arith, z, y)
        | inr h ↦ let z = value_grows σ w b h in omega (arith, z, x)
      ]
  value_grows σ w (Data n ps) e = let x = values_grow σ w ps e in omega (arith, x)
  value_grows σ w (Unknown u) e = raised_here σ w u e

  values_grow : (σ : ℕ → Ty) (w : ℕ) (ps : Pats) → have_unknown w ps ≡ true → types_size (values σ ps) < types_size (values (raised σ w) ps)
  values_grow σ w Empty e = cc
  values_grow σ w (more_pats a ps) e =
      let x = value_size σ w a in
      let y = values_size σ w ps in
      elim (or_cases (has_unknown w a) (have_unknown w ps) e) as (λ _. types_size (values σ (more_pats a ps)) < types_size (values (raised σ w) (more_pats a ps))) [
        | inl h ↦ let z = value_grows σ w a h in omega (arith, z, y)
        | inr h ↦ let z = values_grow σ w ps h in omega (arith, z, x)
      ]

or_first : (a b : Boolean) → a ≡ true → (a || b) ≡ true
or_first true b e = refl
or_first false b e = cc

or_second : (a b : Boolean) → b ≡ true → (a || b) ≡ true
or_second true b e = refl
or_second false b e = e

-- where an unknown does not stand, its type does not count
mutual
  value_same : (σ : ℕ → Ty) (w : ℕ) (p : Pat) → ((v : ℕ) → has_unknown v p ≡ true → v ≢ w) → value σ p ≡ value (raised σ w) p
  value_same σ w Int h = refl
  value_same σ w Bool h = refl
  value_same σ w (Param i) h = refl
  value_same σ w (pow_pat a) h = ap pow (value_same σ w a h)
  value_same σ w (prod_pat a b) h = prod_by (value_same σ w a (λ v e. h v (or_first (has_unknown v a) (has_unknown v b) e))) (value_same σ w b (λ v e. h v (or_second (has_unknown v a) (has_unknown v b) e)))
  value_same σ w (Data n ps) h = ap (DataType n) (values_same σ w ps h)
  value_same σ w (Unknown u) h = raised_other σ w u (h u (eq-eqb u u refl))

  values_same : (σ : ℕ → Ty) (w : ℕ) (ps : Pats) → ((v : ℕ) → have_unknown v ps ≡ true → v ≢ w) → values σ ps ≡ values (raised σ w) ps
  values_same σ w Empty h = refl
  values_same σ w (more_pats a ps) h = more_by (value_same σ w a (λ v e. h v (or_first (has_unknown v a) (have_unknown v ps) e))) (values_same σ w ps (λ v e. h v (or_second (has_unknown v a) (have_unknown v ps) e)))

-- A solution of such pairs is below the number.
module _ (S : List Bind) (pairs : List PatPair) (n : ℕ) (unifier : IsUnifier S pairs) (solvable : HasSolution pairs) (uses : UseBelow n pairs) where
  abbrev σ : ℕ → Ty
  σ = solvable.0

  raised_meets : (w : ℕ) → n ≤ w → Meets (raised σ w) S
  raised_meets w l = unifier.meets (raised σ w) (uses σ (raised σ w) (λ i k. raised_other σ w i (λ e. omega (arith, e, k, l))) solvable.1)

  met : Meets σ S
  met = unifier.meets σ solvable.1

  bound_below : (u : ℕ) (p : Pat) → bound_to S u ≡ Some p → u < n
  bound_below u p e = elim (cases_lt u n) as (λ _. u < n) [
    | inl h ↦ h
    | inr h ↦
        let same : value σ p ≡ value (raised σ u) p = value_same σ u p (λ v k q. let f = unifier.triangular.falls u v p e k in let r : unifier.triangular.rank v ≡ unifier.triangular.rank u = ap unifier.triangular.rank q in omega (arith, f, r)) in
        let x : σ u ≡ raised σ u u = met u p e ∙ same ∙ sym (raised_meets u (omega (arith, h)) u p e) in
        let y : type_size (σ u) ≡ type_size (raised σ u u) = ap type_size x in
        let z = raised_here σ u u (eq-eqb u u refl) in
        absurd (omega (arith, y, z))
  ]

  inside_below : (u w : ℕ) (p : Pat) → bound_to S u ≡ Some p → has_unknown w p ≡ true → w < n
  inside_below u w p e k = elim (cases_lt w n) as (λ _. w < n) [
    | inl h ↦ h
    | inr h ↦
        let f = unifier.triangular.falls u w p e k in
        let other : σ u ≡ raised σ w u = raised_other σ w u (λ q. let r : unifier.triangular.rank u ≡ unifier.triangular.rank w = ap unifier.triangular.rank q in omega (arith, f, r)) in
        let x : value σ p ≡ value (raised σ w) p = sym (met u p e) ∙ other ∙ raised_meets w (omega (arith, h)) u p e in
        let y : type_size (value σ p) ≡ type_size (value (raised σ w) p) = ap type_size x in
        let z = value_grows σ w p k in
        absurd (omega (arith, y, z))
  ]

  pub ordered : AreOrdered S n
  ordered = record { triangular = unifier.triangular; bound = bound_below; inside = inside_below }

pub solution_ordered : (S T : List Bind) (pairs : List PatPair) (n m : ℕ) → IsUnifier S pairs → HasSolution pairs → UseBelow n pairs → T ≡ S → m ≡ n → AreOrdered T m
solution_ordered S T pairs n m u h b e q = transport (λ R. AreOrdered R m) (sym e) (transport (AreOrdered S) (sym q) (ordered S pairs n u h b))

pub ruleset solutions = (solution_ordered)
