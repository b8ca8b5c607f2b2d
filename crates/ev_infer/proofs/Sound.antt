-- Each solution gives a typed term that fits.
use Rattle.std.specs.Prelude.{◌≡◌, ℕ, ◌+◌, ◌^◌, ◌==◌, ◌&&◌, Bool as Boolean, true, false, nat_lt, List, [], ◌∷◌, ◌++◌, map, reverse, length, Option, Some, None, slice_get, option_map, option_and_then, IsSomeAnd, if◌then◌else◌, refl}
use Rattle.std.specs.List.{AllByRecursion}
use Rattle.std.proofs.Common.{ap, sym, ◌∙◌, subst as transport}
use Rattle.std.proofs.lemmas.Bool.{eqb-true, ltb-true}
use Rattle.ev_terms.specs.declared.types.Ty.{Ty}
use Rattle.ev_terms.specs.declared.types.Tys.{Tys}
use Rattle.ev_terms.specs.declared.types.Sym.{Sym}
use Rattle.ev_terms.specs.Types.{type_list}
use Rattle.ev_terms.specs.Term.{Term, Terms}
use Rattle.ev_terms.specs.Substitution.{type_inst, type_at}
use Rattle.ev_typing.specs.Profiles.{Profile}
use Rattle.ev_typing.specs.Env.{Env, profile}
use Rattle.ev_typing.specs.Typing.{IsProper, AreProper, inside, Typed, AreTyped, IsTypedNode}
use Rattle.ev_typing.specs.Proper.{is_proper, IsResult, HasProperSignatures}
use Rattle.ev_typing.proofs.Proper.{and_split, proper_from_test}
use Rattle.ev_unify.specs.declared.patterns.Pat.{Pat}
use Rattle.ev_unify.specs.declared.patterns.Pats.{Pats, Empty}
use Rattle.ev_unify.specs.Patterns.{more_pats, value, values}
use Rattle.ev_unify.specs.Solutions.{Solves}
use Rattle.ev_resolve.specs.Bare.{Bare, Bares, bare_var, bare_lit, bare_node, bare_of, bare_none, bare_more, IsGiven, Fits, FitAll}
use Rattle.ev_infer.specs.declared.sorts.Sort.TheVariants.{Expression as expression}
use Rattle.ev_infer.specs.Equations.{filled, all_filled, sort_type, same_pattern, sort_of, meet, unknowns, Emitted, AllEmitted, NodeTypes, node_types, under, var_emitted, node_emitted, of_emitted, more_emitted, emit, emit_all}
use Rattle.ev_unify.proofs.Followed.{more_by}
use Rattle.ev_infer.proofs.Values.{sort_type-sort_of, value-same, map-under, var_type-map, solves_first, solves_last, meet_gives, unknowns_proper, unknowns_count}

-- what an answer of the walk came from
pub and_then_gives : {X Y : Type 0} (f : X → Option Y) (o : Option X) (y : Y) → option_and_then f o ≡ Some y → (x : X) × (o ≡ Some x) × (f x ≡ Some y)
and_then_gives f None y e = cc
and_then_gives f (Some x) y e = (x, refl, e)

pub map_gives : {X Y : Type 0} (f : X → Y) (o : Option X) (y : Y) → option_map f o ≡ Some y → (x : X) × (o ≡ Some x) × (y ≡ f x)
map_gives f None y e = cc
map_gives f (Some x) y e = (x, refl, cc)

pub if_gives : {X : Type 0} (b : Boolean) (o : Option X) (x : X) → (if b then o else None) ≡ Some x → (b ≡ true) × (o ≡ Some x)
if_gives true o x e = (refl, e)
if_gives false o x e = cc

pub some_gives : {X : Type 0} (x y : X) → Some x ≡ Some y → y ≡ x
some_gives x y e = cc

-- a node's types are proper, as many as its symbol has parameters, and the written one where one is written
pub record AreNodeTypes (env : Env) (w : Option Ty) (params : ℕ) (As : Tys) : Type 0 where
  pub count : length (type_list As) ≡ params
  pub proper : AreProper env As
  pub given : IsGiven w As

node_types_sound : (env : Env) (w : Option Ty) (params k : ℕ) (ps : NodeTypes) (σ : ℕ → Ty) → ((i : ℕ) → IsProper env (σ i))
    → node_types env w params k ≡ Some ps → AreNodeTypes env w params (values σ ps.types)
node_types_sound env None params k ps σ h e =
    let i : record { types = unknowns k params; next = k + params } ≡ ps = sym (some_gives _ _ e) in
    transport (λ (q : NodeTypes). AreNodeTypes env None params (values σ q.types)) i
    (record { count = unknowns_count σ k params; proper = unknowns_proper env σ k params h; given = tt })
node_types_sound env (Some A) params k ps σ h e =
    let g = if_gives (params == 1 && is_proper env A) _ ps e in
    let c = and_split (params == 1) (is_proper env A) g.0 in
    let a = proper_from_test env A c.1 in
    let v = value-same env σ A a in
    let i : record { types = more_pats (same_pattern A) Empty; next = k } ≡ ps = sym (some_gives _ _ g.1) in
    transport (λ (q : NodeTypes). AreNodeTypes env (Some A) params (values σ q.types)) i
    (record { count = sym (eqb-true params 1 c.0); proper = (transport (IsProper env) (sym v) a, tt); given = more_by v refl })

-- the term fits, and has the type of the sort
abbrev pub IsMade : Env → Bare → List Ty → Term → Ty → Type 0
IsMade env b C t A = Fits env b C t × Typed env C t A

abbrev pub AreMade : Env → Bares → List Ty → Terms → List Ty → Type 0
AreMade env bs C ts As = FitAll env bs C ts × AreTyped env C ts As

module _ (env : Env) (proper : HasProperSignatures env) (σ : ℕ → Ty) (assigned : (i : ℕ) → IsProper env (σ i)) where
  made_node : (s : Sym) (w : Option Ty) (bs : Bares) (ctx : List Pat) (ps : Pats) (p : Profile) (all : AllEmitted) → profile env s ≡ Some p → AreNodeTypes env w p.params (values σ ps)
      → AreMade env bs (map (value σ) (under env ctx s ps)) (all_filled σ all.terms) (map (type_inst (type_at (values σ ps))) p.args)
      → IsMade env (bare_node s w bs) (map (value σ) ctx) (filled σ (node_emitted env s ps p all).term) (sort_type σ (node_emitted env s ps p all).sort)
  made_node s w bs ctx ps p all e n h =
      let C : inside (map (value σ) ctx) s (values σ ps) ≡ map (value σ) (under env ctx s ps) = sym (map-under env σ ctx s ps) in
      let g : AreMade env bs (inside (map (value σ) ctx) s (values σ ps)) (all_filled σ all.terms) (map (type_inst (type_at (values σ ps))) p.args) =
      transport (λ D. AreMade env bs D (all_filled σ all.terms) (map (type_inst (type_at (values σ ps))) p.args)) (sym C) h in (
        (values σ ps, all_filled σ all.terms, n.given, g.0, refl),
        transport (λ o. IsSomeAnd o (λ (q : Profile). IsTypedNode env (values σ ps) q (sort_type σ (sort_of ps p.result)) (AreTyped env (inside (map (value σ) ctx) s (values σ ps)) (all_filled σ all.terms) (map (type_inst (type_at (values σ ps))) q.args))))
            (sym e)
            (record { count = n.count; proper = n.proper; children = g.1; result = sort_type-sort_of env σ ps p.result (proper s p e).1 }),
      )

  mutual
    pub sound : (b : Bare) (ctx : List Pat) (k : ℕ) (o : Emitted) → emit env b ctx k ≡ Some o → Solves σ o.pairs → IsMade env b (map (value σ) ctx) (filled σ o.term) (sort_type σ o.sort)
    sound (bare_var i) ctx k o e h =
        let g = map_gives (var_emitted env i k) (slice_get (reverse ctx) i) o e in
        transport (λ (q : Emitted). IsMade env (bare_var i) (map (value σ) ctx) (filled σ q.term) (sort_type σ q.sort)) (sym g.2)
        (refl, var_type-map σ ctx i ∙ ap (option_map (value σ)) g.1)
    sound (bare_lit n) ctx k o e h =
        let g = if_gives (nat_lt n (2 ^ 127)) _ o e in
        transport (λ (q : Emitted). IsMade env (bare_lit n) (map (value σ) ctx) (filled σ q.term) (sort_type σ q.sort)) (sym (some_gives _ _ g.1))
        (refl, (ltb-true n (2 ^ 127) g.0, refl))
    sound (bare_node s w bs) ctx k o e h =
        let (p, ep, e1) = and_then_gives _ (profile env s) o e in
        let (ps, en, e2) = and_then_gives _ (node_types env w p.params k) o e1 in
        let (all, ea, eo) = map_gives (node_emitted env s ps.types p) (emit_all env bs p.args ps.types (under env ctx s ps.types) ps.next) o e2 in
        let h' : Solves σ all.pairs = transport (λ (q : Emitted). Solves σ q.pairs) eo h in
        transport (λ (q : Emitted). IsMade env (bare_node s w bs) (map (value σ) ctx) (filled σ q.term) (sort_type σ q.sort)) (sym eo)
        (made_node s w bs ctx ps.types p all ep (node_types_sound env w p.params k ps σ assigned en)
        (all_sound bs p.args ps.types (under env ctx s ps.types) ps.next all ea (proper s p ep).0 h'))
    sound (bare_of b A) ctx k o e h =
        let g = if_gives (is_proper env A) _ o e in
        let (q, eq, e1) = and_then_gives _ (emit env b ctx k) o g.1 in
        let (qs, em, eo) = map_gives (of_emitted env A q) (meet q.sort (expression (same_pattern A))) o e1 in
        let h' : Solves σ (q.pairs ++ qs) = transport (λ (r : Emitted). Solves σ r.pairs) eo h in
        let made = sound b ctx k q eq (solves_first σ q.pairs qs h') in
        let at : sort_type σ q.sort ≡ A = meet_gives σ q.sort (expression (same_pattern A)) qs em (solves_last σ q.pairs qs h') ∙ value-same env σ A (proper_from_test env A g.0) in
        transport (λ (r : Emitted). IsMade env (bare_of b A) (map (value σ) ctx) (filled σ r.term) (sort_type σ r.sort)) (sym eo)
        ((made.0, proper_from_test env A g.0, transport (Typed env (map (value σ) ctx) (filled σ q.term)) at made.1), made.1)

    pub all_sound : (bs : Bares) (As : List Ty) (ps : Pats) (ctx : List Pat) (k : ℕ) (o : AllEmitted) → emit_all env bs As ps ctx k ≡ Some o → AllByRecursion (IsResult env) As → Solves σ o.pairs
        → AreMade env bs (map (value σ) ctx) (all_filled σ o.terms) (map (type_inst (type_at (values σ ps))) As)
    all_sound bare_none [] ps ctx k o e r h =
        transport (λ (q : AllEmitted). AreMade env bare_none (map (value σ) ctx) (all_filled σ q.terms) []) (sym (some_gives _ _ e)) (refl, tt)
    all_sound bare_none (A ∷ As) ps ctx k o e r h = cc
    all_sound (bare_more b bs) [] ps ctx k o e r h = cc
    all_sound (bare_more b bs) (A ∷ As) ps ctx k o e r h =
        let (q, eq, e1) = and_then_gives _ (emit env b ctx k) o e in
        let (qs, em, e2) = and_then_gives _ (meet q.sort (sort_of ps A)) o e1 in
        let (all, ea, eo) = map_gives (more_emitted env q qs) (emit_all env bs As ps ctx q.next) o e2 in
        let h' : Solves σ (q.pairs ++ (qs ++ all.pairs)) = transport (λ (s : AllEmitted). Solves σ s.pairs) eo h in
        let h2 = solves_last σ q.pairs (qs ++ all.pairs) h' in
        let made = sound b ctx k q eq (solves_first σ q.pairs (qs ++ all.pairs) h') in
        let rest = all_sound bs As ps ctx q.next all ea r.1 (solves_last σ qs all.pairs h2) in
        let at : sort_type σ q.sort ≡ type_inst (type_at (values σ ps)) A =
        meet_gives σ q.sort (sort_of ps A) qs em (solves_first σ qs all.pairs h2) ∙ sort_type-sort_of env σ ps A r.0 in
        transport (λ (s : AllEmitted). AreMade env (bare_more b bs) (map (value σ) ctx) (all_filled σ s.terms) (map (type_inst (type_at (values σ ps))) (A ∷ As))) (sym eo)
        ((filled σ q.term, all_filled σ all.terms, made.0, rest.0, refl), (transport (Typed env (map (value σ) ctx) (filled σ q.term)) at made.1, rest.1))
