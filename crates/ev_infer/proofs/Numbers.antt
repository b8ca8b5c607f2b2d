-- The walk that emits pairs numbers the unknowns as a walk without contexts does.
use Rattle.std.specs.Prelude.{◌≡◌, ℕ, ◌^◌, ◌==◌, ◌&&◌, nat_lt, List, [], ◌∷◌, reverse, Option, Some, None, slice_get, refl}
use Rattle.std.proofs.Common.{ap, sym, ◌∙◌, subst as transport}
use Rattle.ev_terms.specs.declared.types.Ty.{Ty}
use Rattle.ev_typing.specs.Env.{Env, profile}
use Rattle.ev_typing.specs.Proper.{is_proper}
use Rattle.ev_unify.specs.declared.patterns.Pat.{Pat}
use Rattle.ev_unify.specs.declared.patterns.Pats.{Pats}
use Rattle.ev_resolve.specs.Bare.{Bare, Bares, bare_var, bare_lit, bare_node, bare_of, bare_none, bare_more}
use Rattle.ev_infer.specs.declared.sorts.Sort.TheVariants.{Expression as expression}
use Rattle.ev_infer.specs.Equations.{pat_node, pat_cons, same_pattern, sort_of, meet, Emitted, AllEmitted, NodeTypes, node_types, under, var_emitted, node_emitted, of_emitted, more_emitted, emit, emit_all}
use Rattle.ev_infer.specs.inner.Numbers.{Numbered, AllNumbered, params_of, node_numbers, numbered, all_numbered}
use Rattle.ev_infer.proofs.Sound.{and_then_gives, map_gives, if_gives, some_gives}

types_numbers : (env : Env) (w : Option Ty) (params k : ℕ) (ps : NodeTypes) → node_types env w params k ≡ Some ps → ps ≡ node_numbers w params k
types_numbers env None params k ps e = some_gives _ _ e
types_numbers env (Some A) params k ps e = some_gives _ _ (if_gives (params == 1 && is_proper env A) _ ps e).1

abbrev IsAlike : Emitted → Numbered → Type 0
IsAlike o n = (o.term ≡ n.term) × (o.next ≡ n.next)

abbrev AreAlike : AllEmitted → AllNumbered → Type 0
AreAlike o n = (o.terms ≡ n.terms) × (o.next ≡ n.next)

module _ (env : Env) where
  mutual
    pub emit_numbered : (b : Bare) (ctx : List Pat) (k : ℕ) (o : Emitted) → emit env b ctx k ≡ Some o → IsAlike o (numbered env b k)
    emit_numbered (bare_var i) ctx k o e =
        let g = map_gives (var_emitted env i k) (slice_get (reverse ctx) i) o e in
        transport (λ (q : Emitted). IsAlike q (numbered env (bare_var i) k)) (sym g.2) (refl, refl)
    emit_numbered (bare_lit n) ctx k o e =
        let g = if_gives (nat_lt n (2 ^ 127)) _ o e in
        transport (λ (q : Emitted). IsAlike q (numbered env (bare_lit n) k)) (sym (some_gives _ _ g.1)) (refl, refl)
    emit_numbered (bare_node s w bs) ctx k o e =
        let (p, ep, e1) = and_then_gives _ (profile env s) o e in
        let (ps, en, e2) = and_then_gives _ (node_types env w p.params k) o e1 in
        let (all, ea, eo) = map_gives (node_emitted env s ps.types p) (emit_all env bs p.args ps.types (under env ctx s ps.types) ps.next) o e2 in
        let n : ps ≡ node_numbers w (params_of (profile env s)) k = types_numbers env w p.params k ps en ∙ ap (λ m. node_numbers w m k) (sym (ap params_of ep)) in
        let h = all_emit_numbered bs p.args ps.types (under env ctx s ps.types) ps.next all ea in
        transport (λ (q : Emitted). IsAlike q (numbered env (bare_node s w bs) k)) (sym eo) (
          ap (pat_node s ps.types) h.0 ∙ ap (λ (q : NodeTypes). pat_node s q.types (all_numbered env bs q.next).terms) n,
          h.1 ∙ ap (λ (q : NodeTypes). (all_numbered env bs q.next).next) n,
        )
    emit_numbered (bare_of b A) ctx k o e =
        let g = if_gives (is_proper env A) _ o e in
        let (q, eq, e1) = and_then_gives _ (emit env b ctx k) o g.1 in
        let (qs, em, eo) = map_gives (of_emitted env A q) (meet q.sort (expression (same_pattern A))) o e1 in
        transport (λ (x : Emitted). IsAlike x (numbered env b k)) (sym eo) (emit_numbered b ctx k q eq)

    pub all_emit_numbered : (bs : Bares) (As : List Ty) (ps : Pats) (ctx : List Pat) (k : ℕ) (o : AllEmitted) → emit_all env bs As ps ctx k ≡ Some o → AreAlike o (all_numbered env bs k)
    all_emit_numbered bare_none [] ps ctx k o e = transport (λ (q : AllEmitted). AreAlike q (all_numbered env bare_none k)) (sym (some_gives _ _ e)) (refl, refl)
    all_emit_numbered bare_none (A ∷ As) ps ctx k o e = cc
    all_emit_numbered (bare_more b bs) [] ps ctx k o e = cc
    all_emit_numbered (bare_more b bs) (A ∷ As) ps ctx k o e =
        let (q, eq, e1) = and_then_gives _ (emit env b ctx k) o e in
        let (qs, em, e2) = and_then_gives _ (meet q.sort (sort_of ps A)) o e1 in
        let (all, ea, eo) = map_gives (more_emitted env q qs) (emit_all env bs As ps ctx q.next) o e2 in
        let x = emit_numbered b ctx k q eq in
        let y = all_emit_numbered bs As ps ctx q.next all ea in
        transport (λ (z : AllEmitted). AreAlike z (all_numbered env (bare_more b bs) k)) (sym eo) (
          ap (λ t. pat_cons t all.terms) x.0 ∙ ap (pat_cons (numbered env b k).term) (y.0 ∙ ap (λ m. (all_numbered env bs m).terms) x.1),
          y.1 ∙ ap (λ m. (all_numbered env bs m).next) x.1,
        )
