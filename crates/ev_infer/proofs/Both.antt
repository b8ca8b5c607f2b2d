-- Terms that have one type in two contexts, and readings of them under two lists of variables with the same names.
use Rattle.std.specs.Prelude.{◌≡◌, ℕ, ◌==◌, Bool as Boolean, true, false, List, [], ◌∷◌, ◌++◌, map, length, Option, Some, None, ⊤, MatchBool, if◌then◌else◌, refl}
use Rattle.std.proofs.Common.{ap, sym, ◌∙◌, arith, inl, inr, subst as transport}
use Rattle.ev_terms.specs.declared.types.Ty.{Ty}
use Rattle.ev_terms.specs.declared.types.Tys.{Tys, Empty}
use Rattle.ev_terms.specs.declared.types.Sym.{Sym}
use Rattle.ev_terms.specs.declared.types.Sym.TheVariants.{User}
use Rattle.ev_terms.specs.Term.{Term, Terms, var, node, nil, cons}
use Rattle.ev_terms.specs.Symbols.{binds}
use Rattle.ev_terms.specs.Substitution.{type_inst, type_at}
use Rattle.ev_syntax.specs.Marks.{open_brace, union_over_word}
use Rattle.ev_syntax.specs.Raw.{Binder, Pattern, bound, pair, pattern_binders, Raw, Raws, word, literal, param, type_set, call, around, unary, binary, inverse, apply, image, of_type, quantified, set_of, collected, lambda, members, written, none, one}
use Rattle.ev_forms.specs.Base as base
use Rattle.ev_forms.specs.Base.{at_type, leaf, with_one, with_two}
use Rattle.ev_typing.specs.Profiles.{Profile}
use Rattle.ev_typing.specs.Env.{Env, profile}
use Rattle.ev_typing.specs.Typing.{IsProper, inside, Typed, AreTyped}
use Rattle.ev_typing.proofs.Laws.{Typed-unique}
use Rattle.ev_resolve.specs.Reading.{Known, Variable, context_of, Meaning, variable, predicate, parameter, symbol, nothing, meaning, Plain, infix_symbols, prefix_symbols, around_symbols, entry_of, and_not, IsPlain, two_terms, swaps, quantifier, binder_of, unnamed, IsCall, count_of, IsCollected, is_z, Binds, IsPattern, Gives, GivesAll, GivesMembers}
use Rattle.ev_resolve.specs.Resolve.{forget}
use Rattle.ev_infer.proofs.Sound.{some_gives}
use Rattle.ev_infer.proofs.Complete.{some_and}
use Rattle.ev_infer.proofs.Nodes.{inside_plain, inside_binder, IsBinder, for_some_binder, set_binder, quantifier_binder, BindNone, infix_plain, prefix_plain, around_plain, binds_not, binds_and, binds_or, binds_equal, binds_maps_to, binds_apply, binds_image, binds_inverse, binds_user, binds_over}
use Rattle.ev_infer.proofs.ToBare.{context_bound, meaning_forget}

abbrev pub Both : Env → List Ty → List Ty → Term → Type 0
Both env C D t = (A : Ty) × Typed env C t A × Typed env D t A

abbrev pub EachBoth : Env → List Ty → List Ty → Terms → Type 0
EachBoth env C D nil = ⊤
EachBoth env C D (cons t ts) = Both env C D t × EachBoth env C D ts

each_both : (env : Env) (C D : List Ty) (ts : Terms) (Bs : List Ty) → AreTyped env C ts Bs → AreTyped env D ts Bs → EachBoth env C D ts
each_both env C D nil Bs h k = tt
each_both env C D (cons t ts) [] h k = absurd h
each_both env C D (cons t ts) (B ∷ Bs) h k = ((B, h.0, k.0), each_both env C D ts Bs h.1 k.1)

pub children_both : (env : Env) (C D : List Ty) (s : Sym) (As : Tys) (ts : Terms) → Both env C D (node s As ts) → EachBoth env (inside C s As) (inside D s As) ts
children_both env C D s As ts (A, h, k) =
    let (p, ep, n) = some_and _ (profile env s) h in
    let (q, eq, m) = some_and _ (profile env s) k in
    let same : q ≡ p = some_gives _ _ (sym ep ∙ eq) in
    each_both env (inside C s As) (inside D s As) ts (map (type_inst (type_at As)) p.args) n.children
    (transport (λ (r : Profile). AreTyped env (inside D s As) ts (map (type_inst (type_at As)) r.args)) same m.children)

plain_both : (env : Env) (C D : List Ty) (s : Sym) (As : Tys) (ts : Terms) → binds s ≡ 0 → Both env C D (node s As ts) → EachBoth env C D ts
plain_both env C D s As ts e h =
    transport (λ X. EachBoth env X D ts) (inside_plain C s As e)
    (transport (λ Y. EachBoth env (inside C s As) Y ts) (inside_plain D s As e) (children_both env C D s As ts h))

binder_both : (env : Env) (C D : List Ty) (s : Sym) (a : Ty) (u : Term) → binds s ≡ 1 → Both env C D (with_one s (at_type a) u) → IsProper env a × Both env (C ++ a ∷ []) (D ++ a ∷ []) u
binder_both env C D s a u e (A, h, k) =
    let (p, ep, n) = some_and _ (profile env s) h in (
      n.proper.0,
      (transport (λ X. EachBoth env X (D ++ a ∷ []) (cons u nil)) (inside_binder C s a e)
          (transport (λ Y. EachBoth env (inside C s (at_type a)) Y (cons u nil)) (inside_binder D s a e) (children_both env C D s (at_type a) (cons u nil) (A, h, k)))).0,
    )

not_both : (env : Env) (n : Boolean) (C D : List Ty) (t : Term) → Both env C D (and_not n t) → Both env C D t
not_both env false C D t h = h
not_both env true C D t h = (plain_both env C D base.not_sym Empty (cons t nil) binds_not h).0

sign_both : (env : Env) (o : Option Plain) (C D : List Ty) (ts : Terms) (t : Term) → BindNone o → IsPlain o ts t → Both env C D t → EachBoth env C D ts
sign_both env None C D ts t h p k = absurd p
sign_both env (Some e) C D ts t h (types, q) k =
    plain_both env C D e.sym types ts (h e refl) (not_both env e.negated C D (node e.sym types ts) (transport (Both env C D) q k))

swapped_both : (env : Env) (C D : List Ty) (s : Boolean) (u v : Term) → EachBoth env C D (two_terms s u v) → Both env C D u × Both env C D v
swapped_both env C D false u v h = (h.0, h.1.0)
swapped_both env C D true u v h = (h.1.0, h.0)

bound_both : (env : Env) (v : Variable) (vs ws : List Variable) (u : Term) → IsProper env v.type → Both env (context_of vs ++ v.type ∷ []) (context_of ws ++ v.type ∷ []) u → Both env (context_of (v ∷ vs)) (context_of (v ∷ ws)) u
bound_both env v vs ws u p h =
    transport (λ X. Both env X (context_of (v ∷ ws)) u) (sym (context_bound env v vs p))
    (transport (λ Y. Both env (context_of vs ++ v.type ∷ []) Y u) (sym (context_bound env v ws p)) h)

-- the same names, each for a predicate variable or not
abbrev pub AreAlike : List Variable → List Variable → Type 0
AreAlike vs ws = map forget vs ≡ map forget ws

alike_more : (v : Variable) (vs ws : List Variable) → AreAlike vs ws → AreAlike (v ∷ vs) (v ∷ ws)
alike_more v vs ws e = ap (λ us. forget v ∷ us) e

module _ (env : Env) (params : List (List ℕ)) (known : Known) where
  abbrev G : Raw → List Variable → Term → Type 0
  G = Gives params known (Typed env)

  -- what holds of a term under the one list holds of it under the other
  abbrev pub Moves : (List Variable → Term → Type 0) → Type 0
  Moves P = (vs ws : List Variable) (t : Term) → AreAlike vs ws → P vs t → Both env (context_of vs) (context_of ws) t → P ws t

  meaning_alike : (n : List ℕ) (vs ws : List Variable) → AreAlike vs ws → meaning params known n vs 0 ≡ meaning params known n ws 0
  meaning_alike n vs ws e = sym (meaning_forget params known n vs 0) ∙ ap (λ us. meaning params known n us 0) e ∙ meaning_forget params known n ws 0

  binds_move : (s : Sym) → IsBinder env s → (bs : List Binder) (P : List Variable → Term → Type 0) → Moves P → Moves (Binds params known (Typed env) s bs P)
  binds_move s i [] P step vs ws t e h k = step vs ws t e h k
  binds_move s i (b ∷ bs) P step vs ws t e (a, u, w, rest, q) k =
      let parts = binder_both env (context_of vs) (context_of ws) s a u i.binds_one (transport (Both env (context_of vs) (context_of ws)) q k) in (
        a,
        u,
        w,
        binds_move s i bs P step (binder_of b a ∷ vs) (binder_of b a ∷ ws) u (alike_more (binder_of b a) vs ws e) rest (bound_both env (binder_of b a) vs ws u parts.0 parts.1),
        q,
      )

  collected_move : (n : ℕ) (a : Ty) (P E : List Variable → Term → Type 0) → Moves P → Moves E → Moves (IsCollected P E a n)
  collected_move n a P E p q vs ws u e c k =
      let C = context_of vs in
      let D = context_of ws in
      let z = with_two base.equal_sym (at_type a) (var n) c.value in
      let each = plain_both env C D base.and_sym Empty (cons c.condition (cons z nil)) binds_and (transport (Both env C D) c.whole k) in
      let inner = plain_both env C D base.equal_sym (at_type a) (cons (var n) (cons c.value nil)) binds_equal each.1.0 in
      record {
        condition = c.condition;
        value = c.value;
        is_condition = p vs ws c.condition e c.is_condition each.0;
        is_value = q vs ws c.value e c.is_value inner.1.0;
        whole = c.whole;
      }

  -- a set former over a new variable
  set_move : (a : Ty) (P : List Variable → Term → Type 0) → Moves P → (vs ws : List Variable) (t u : Term) → AreAlike vs ws → P (unnamed a ∷ vs) u
      → t ≡ with_one base.set_sym (at_type a) u → Both env (context_of vs) (context_of ws) t → P (unnamed a ∷ ws) u
  set_move a P step vs ws t u e h q k =
      let i = set_binder env in
      let parts = binder_both env (context_of vs) (context_of ws) base.set_sym a u i.binds_one (transport (Both env (context_of vs) (context_of ws)) q k) in
      step (unnamed a ∷ vs) (unnamed a ∷ ws) u (alike_more (unnamed a) vs ws e) h (bound_both env (unnamed a) vs ws u parts.0 parts.1)

  over_move : (b : Boolean) (s : Sym) → binds s ≡ 0 → (set set' : Term → Type 0) (C D : List Ty) (t : Term) → ((u : Term) → set u → Both env C D u → set' u)
      → MatchBool b (set t) ((types : Tys) × (u : Term) × set u × (t ≡ with_one s types u)) → Both env C D t → MatchBool b (set' t) ((types : Tys) × (u : Term) × set' u × (t ≡ with_one s types u))
  over_move true s i set set' C D t step h k = step t h k
  over_move false s i set set' C D t step (types, u, h, q) k = (types, u, step u h (plain_both env C D s types (cons u nil) i (transport (Both env C D) q k)).0, q)

  pattern_move : (x : Pattern) → Moves (IsPattern params known (Typed env) x)
  pattern_move (bound b) vs ws t e h k = transport (λ m. IsCall m b.name 0 nil t) (meaning_alike b.name vs ws e) h
  pattern_move (pair x y) vs ws t e (types, u, v, hu, hv, q) k =
      let each = plain_both env (context_of vs) (context_of ws) base.maps_to_sym types (cons u (cons v nil)) binds_maps_to (transport (Both env (context_of vs) (context_of ws)) q k) in
      (types, u, v, pattern_move x vs ws u e hu each.0, pattern_move y vs ws v e hv each.1.0, q)

  no_args : (es : Raws) (vs : List Variable) (ts : Terms) → count_of es ≡ 0 → GivesAll params known (Typed env) es vs ts → ts ≡ nil
  no_args none vs ts c h = h
  no_args (one e es) vs ts c h = absurd (omega (arith, c))

  call_both : (m : Meaning) (n : List ℕ) (es : Raws) (vs : List Variable) (C D : List Ty) (ts : Terms) (t : Term) → GivesAll params known (Typed env) es vs ts → IsCall m n (count_of es) ts t → Both env C D t → EachBoth env C D ts
  call_both (variable i) n es vs C D ts t h (inl (c, e)) k = transport (EachBoth env C D) (sym (no_args es vs ts c h)) tt
  call_both (variable i) n es vs C D ts t h (inr (c, (types, e))) k = (plain_both env C D base.apply_sym types (cons (var i) ts) binds_apply (transport (Both env C D) e k)).1
  call_both (predicate i) n es vs C D ts t h (c, e) k = transport (EachBoth env C D) (sym (no_args es vs ts c h)) tt
  call_both (parameter i) n es vs C D ts t h (c, e) k = transport (EachBoth env C D) (sym (no_args es vs ts c h)) tt
  call_both (symbol j) n es vs C D ts t h (inl (c, types, e)) k = plain_both env C D (User n) types ts (binds_user n) (transport (Both env C D) e k)
  call_both (symbol j) n es vs C D ts t h (inr (z, c, types, (types', e))) k = (plain_both env C D base.apply_sym types' (cons (leaf (User n) types) ts) binds_apply (transport (Both env C D) e k)).1
  call_both nothing n es vs C D ts t h i k = absurd i

  front_both : (es : Raws) (a : Ty) (vs : List Variable) (C D : List Ty) (front t : Term) → GivesMembers params known (Typed env) es a vs front t → Both env C D t → Both env C D front
  front_both none a vs C D front t e k = transport (Both env C D) e k
  front_both (one e es) a vs C D front t (u, hu, rest) k =
      (plain_both env C D base.or_sym Empty (cons front (cons (is_z a u) nil)) binds_or (front_both es a vs C D (with_two base.or_sym Empty front (is_z a u)) t rest k)).0

  member_both : (C D : List Ty) (a : Ty) (u : Term) → Both env C D (is_z a u) → Both env C D u
  member_both C D a u h = (plain_both env C D base.equal_sym (at_type a) (cons (var 0) (cons u nil)) binds_equal h).1.0

  mutual
    pub gives_move : (raw : Raw) → Moves (Gives params known (Typed env) raw)
    gives_move (word m) vs ws t e h k = h
    gives_move (literal n) vs ws t e h k = h
    gives_move (param i) vs ws t e h k = h
    gives_move (type_set r) vs ws t e h k = h
    gives_move (call n es) vs ws t e (ts, h, c) k = (
      ts,
      all_move es vs ws ts e h (call_both (meaning params known n vs 0) n es vs (context_of vs) (context_of ws) ts t h c k),
      transport (λ m. IsCall m n (count_of es) ts t) (meaning_alike n vs ws e) c,
    )
    gives_move (around m x) vs ws t e (u, h, p) k =
        (u, gives_move x vs ws u e h (sign_both env (entry_of around_symbols m) (context_of vs) (context_of ws) (cons u nil) t (around_plain m) p k).0, p)
    gives_move (unary m x) vs ws t e (u, h, p) k =
        (u, gives_move x vs ws u e h (sign_both env (entry_of prefix_symbols m) (context_of vs) (context_of ws) (cons u nil) t (prefix_plain m) p k).0, p)
    gives_move (binary m x y) vs ws t e (u, v, hu, hv, p) k =
        let s = swaps (entry_of infix_symbols m) in
        let each = swapped_both env (context_of vs) (context_of ws) s u v (sign_both env (entry_of infix_symbols m) (context_of vs) (context_of ws) (two_terms s u v) t (infix_plain m) p k) in
        (u, v, gives_move x vs ws u e hu each.0, gives_move y vs ws v e hv each.1, p)
    gives_move (inverse x) vs ws t e (types, u, h, q) k =
        (types, u, gives_move x vs ws u e h (plain_both env (context_of vs) (context_of ws) base.inverse_sym types (cons u nil) binds_inverse (transport (Both env (context_of vs) (context_of ws)) q k)).0, q)
    gives_move (apply x y) vs ws t e (types, u, v, hu, hv, q) k =
        let each = plain_both env (context_of vs) (context_of ws) base.apply_sym types (cons u (cons v nil)) binds_apply (transport (Both env (context_of vs) (context_of ws)) q k) in
        (types, u, v, gives_move x vs ws u e hu each.0, gives_move y vs ws v e hv each.1.0, q)
    gives_move (image x y) vs ws t e (types, u, v, hu, hv, q) k =
        let each = plain_both env (context_of vs) (context_of ws) base.image_sym types (cons u (cons v nil)) binds_image (transport (Both env (context_of vs) (context_of ws)) q k) in
        (types, u, v, gives_move x vs ws u e hu each.0, gives_move y vs ws v e hv each.1.0, q)
    gives_move (of_type x r) vs ws t e (a, q, h, typed) k =
        (a, q, gives_move x vs ws t e h k, transport (Typed env (context_of ws) t) (Typed-unique env (context_of vs) t k.0 a k.1 typed) k.2)
    gives_move (quantified m bs x) vs ws t e h k = binds_move (quantifier m) (quantifier_binder env m) bs (G x) (gives_move x) vs ws t e h k
    gives_move (set_of b x) vs ws t e h k = binds_move base.set_sym (set_binder env) (b ∷ []) (G x) (gives_move x) vs ws t e h k
    gives_move (collected m bs x y) vs ws t e h k =
        over_move (m == open_brace) (if m == union_over_word then base.big_union_sym else base.big_inter_sym) (binds_over m)
        (λ set. (a : Ty) × (u : Term) × Binds params known (Typed env) base.for_some_sym bs (IsCollected (G x) (G y) a (length bs)) (unnamed a ∷ vs) u × (set ≡ with_one base.set_sym (at_type a) u))
        (λ set. (a : Ty) × (u : Term) × Binds params known (Typed env) base.for_some_sym bs (IsCollected (G x) (G y) a (length bs)) (unnamed a ∷ ws) u × (set ≡ with_one base.set_sym (at_type a) u))
        (context_of vs) (context_of ws) t
        (λ v s l. (
          s.0,
          s.1,
          set_move s.0 (Binds params known (Typed env) base.for_some_sym bs (IsCollected (G x) (G y) s.0 (length bs)))
              (binds_move base.for_some_sym (for_some_binder env) bs (IsCollected (G x) (G y) s.0 (length bs)) (collected_move (length bs) s.0 (G x) (G y) (gives_move x) (gives_move y)))
              vs ws v s.1 e s.2 s.3 l,
          s.3,
        ))
        h k
    gives_move (lambda z x y) vs ws t e (a, u, h, q) k = (
      a,
      u,
      set_move a _
          (binds_move base.for_some_sym (for_some_binder env) (pattern_binders z) _
          (collected_move (length (pattern_binders z)) a (G x) (λ under v. (types : Tys) × (b c : Term) × IsPattern params known (Typed env) z under b × G y under c × (v ≡ with_two base.maps_to_sym types b c)) (gives_move x)
          (λ us os v l s n.
          let each = plain_both env (context_of us) (context_of os) base.maps_to_sym s.0 (cons s.1 (cons s.2 nil)) binds_maps_to (transport (Both env (context_of us) (context_of os)) s.5 n) in
          (s.0, s.1, s.2, pattern_move z us os s.1 l s.3 each.0, gives_move y us os s.2 l s.4 each.1.0, s.5))))
          vs ws t u e h q k,
      q,
    )
    gives_move (members none) vs ws t e h k = h
    gives_move (members (one x es)) vs ws t e (a, u, v, hu, rest, q) k =
        let s = set_move a (λ us w. (y : Term) × (y ≡ u) × G x us y × GivesMembers params known (Typed env) es a us (is_z a y) w)
        (λ us os w l (y, i, hy, r) n. (
          y,
          i,
          gives_move x us os y l hy (member_both (context_of us) (context_of os) a y (front_both es a us (context_of us) (context_of os) (is_z a y) w r n)),
          members_move es a us os (is_z a y) w l r n,
        ))
        vs ws t v e (u, refl, hu, rest) q k in
        (a, s.0, v, s.2, s.3, q)
    gives_move (written r) vs ws t e h k = h

    all_move : (es : Raws) (vs ws : List Variable) (ts : Terms) → AreAlike vs ws → GivesAll params known (Typed env) es vs ts → EachBoth env (context_of vs) (context_of ws) ts → GivesAll params known (Typed env) es ws ts
    all_move none vs ws ts e h k = h
    all_move (one x es) vs ws ts e (t, us, h, hs, q) k =
        let k' : Both env (context_of vs) (context_of ws) t × EachBoth env (context_of vs) (context_of ws) us = transport (EachBoth env (context_of vs) (context_of ws)) q k in
        (t, us, gives_move x vs ws t e h k'.0, all_move es vs ws us e hs k'.1, q)

    members_move : (es : Raws) (a : Ty) (vs ws : List Variable) (front t : Term) → AreAlike vs ws → GivesMembers params known (Typed env) es a vs front t → Both env (context_of vs) (context_of ws) t → GivesMembers params known (Typed env) es a ws front t
    members_move none a vs ws front t e h k = h
    members_move (one x es) a vs ws front t e (u, hu, rest) k =
        let C = context_of vs in
        let D = context_of ws in
        let next = with_two base.or_sym Empty front (is_z a u) in
        let each = plain_both env C D base.or_sym Empty (cons front (cons (is_z a u) nil)) binds_or (front_both es a vs C D next t rest k) in
        (u, gives_move x vs ws u e hu (member_both C D a u each.1.0), members_move es a vs ws next t e rest k)
