-- Under a symbol: contexts, room, and the children of two terms that are alike.
use Rattle.std.specs.Prelude.{◌≡◌, ◌+◌, ◌<◌, ◌≤◌, ◌++◌, ◌^◌, ℕ, zero, suc, List, [], ◌∷◌, Option, Some, None, map, length, take, get_or, IsSomeAnd, refl}
use Rattle.std.specs.List.{AllByRecursion}
use Rattle.std.proofs.Common.{ap, sym, ◌∙◌, subst as transport, arith, append_assoc}
use Rattle.std.proofs.lemmas.List.{length-append}
use Rattle.ev_terms.specs.declared.types.Ty.{Ty, Prop}
use Rattle.ev_terms.specs.declared.types.Tys.{Tys}
use Rattle.ev_terms.specs.declared.types.Sym.{Sym}
use Rattle.ev_terms.specs.Types.{type_list}
use Rattle.ev_terms.specs.Term.{Term, Terms, node, terms}
use Rattle.ev_terms.specs.Symbols.{binds}
use Rattle.ev_terms.specs.Measures.{loose, depth, depths, highest, all_highest}
use Rattle.ev_terms.specs.Substitution.{shift, shifts, type_inst, type_at}
use Rattle.ev_terms.proofs.Laws.{shift-shift_merge}
use Rattle.ev_terms.proofs.ListLaws.{depth-shift, binds_le}
use Rattle.ev_terms.proofs.Fits.{highest_shift_le}
use Rattle.ev_typing.specs.declared.typing.Sequent.{Sequent}
use Rattle.ev_typing.specs.TypeLists.{types}
use Rattle.ev_typing.specs.Profiles.{Profile}
use Rattle.ev_typing.specs.Env.{Env, profile}
use Rattle.ev_typing.specs.Typing.{IsProper, AreProper, Typed, AreTyped, IsTypedNode, IsPredicate, inside}
use Rattle.ev_typing.specs.Occurs.{ArePlain}
use Rattle.ev_typing.specs.Sequents.{◌⊢◌}
use Rattle.ev_typing.proofs.Laws.{type_list-types}
use Rattle.ev_typing.proofs.Keeps.{inside_length as bound_length}
use Rattle.ev_kernel.specs.Row.{at_children}
use Rattle.ev_congruence.specs.Settings.{IsBaseContext, AreAlike}
use Rattle.ev_congruence.specs.inner.Inside.{IsIndex, put, AreAllAlike}
use Rattle.ev_congruence.proofs.Terms.{proper_list, all_take, typed_loose, some_out}
use Rattle.ev_congruence.proofs.Contexts.{context_widened}
use Rattle.ev_congruence.proofs.Equal.{take_next, take_all}
use Rattle.ev_congruence.proofs.Putting.{put_node, alike_by}

-- what a typed symbol tells of its types
pub record HasGoodTypes (env : Env) (s : Sym) (As : Tys) : Type 0 where
  pub proper : AreProper env As
  pub bound : length (take (binds s) (type_list As)) ≡ binds s

pub good_types : (env : Env) (C : List Ty) (s : Sym) (As : Tys) (ts : Terms) (A : Ty) → Typed env C (node s As ts) A → HasGoodTypes env s As
good_types env C s As ts A h = some_out (profile env s) (λ p e g. record { proper = g.proper; bound = bound_length env s As p e g.count }) h

-- the children of two terms that are alike
all_alike : (env : Env) (C : List Ty) (ls rs : List Term) (Ts : List Ty) → AreTyped env C (terms ls) Ts → AreTyped env C (terms rs) Ts → ArePlain env (terms ls) → ArePlain env (terms rs) →
    all_highest (terms ls) ≤ 2 ^ 32 → all_highest (terms rs) ≤ 2 ^ 32 → AreAllAlike env C ls rs
all_alike env C [] [] Ts f g p q a b = tt
all_alike env C [] (r ∷ rs) [] f g p q a b = absurd g
all_alike env C [] (r ∷ rs) (T ∷ Ts) f g p q a b = absurd f
all_alike env C (l ∷ ls) [] [] f g p q a b = absurd f
all_alike env C (l ∷ ls) [] (T ∷ Ts) f g p q a b = absurd g
all_alike env C (l ∷ ls) (r ∷ rs) [] f g p q a b = absurd f
all_alike env C (l ∷ ls) (r ∷ rs) (T ∷ Ts) f g p q a b = (
  record { ty = T; left = f.0; right = g.0; left_plain = p.0; right_plain = q.0; left_low = omega arith; right_low = omega arith },
  all_alike env C ls rs Ts f.1 g.1 p.1 q.1 (omega arith) (omega arith),
)

both_typed : (env : Env) (As : Tys) (A B : Ty) (F G : Profile → Type 0) (o : Option Profile) → IsSomeAnd o (λ p. IsTypedNode env As p A (F p)) → IsSomeAnd o (λ p. IsTypedNode env As p B (G p)) →
    (p : Profile) × F p × G p
both_typed env As A B F G None f g = absurd f
both_typed env As A B F G (Some p) f g = (p, f.children, g.children)

pub children_alike : (env : Env) (C : List Ty) (s : Sym) (As : Tys) (ls rs : List Term) → AreAlike env C (node s As (terms ls)) (node s As (terms rs)) → AreAllAlike env (inside C s As) ls rs
children_alike env C s As ls rs a =
    let k = both_typed env As a.ty a.ty (λ p. AreTyped env (inside C s As) (terms ls) (map (type_inst (type_at As)) p.args)) (λ p. AreTyped env (inside C s As) (terms rs) (map (type_inst (type_at As)) p.args)) (profile env s)
    a.left a.right in
    all_alike env (inside C s As) ls rs (map (type_inst (type_at As)) k.0.args) k.1 k.2 a.left_plain.1 a.right_plain.1 a.left_low a.right_low

-- the context of the children
pub inner_context : (S I : Sequent) (s : Sym) (As : Tys) (G : Term) → I ≡ (at_children S s As ⊢ G) → type_list I.context ≡ inside (type_list S.context) s As
inner_context S I s As G e = ap (λ (x : Sequent). type_list x.context) e ∙ type_list-types (type_list S.context ++ take (binds s) (type_list As))

pub inner_base : (env : Env) (S I : Sequent) (s : Sym) (As : Tys) (G : Term) → I ≡ (at_children S s As ⊢ G) → IsBaseContext env S → HasGoodTypes env s As → IsBaseContext env I
inner_base env S I s As G e b h =
    let k : IsBaseContext env (at_children S s As) = context_widened env S (take (binds s) (type_list As)) b (all_take (IsProper env) (binds s) (type_list As) (proper_list env As h.proper)) in
    transport (IsBaseContext env) (sym e) (record { proper = k.proper; hyps = k.hyps; plain = k.plain })

map_shift_twice : (k n : ℕ) (Ps : List Term) → map (λ P. shift P 0 n) (map (λ P. shift P 0 k) Ps) ≡ map (λ P. shift P 0 (k + n)) Ps
map_shift_twice k n [] = refl
map_shift_twice k n (P ∷ Ps) = let p = shift-shift_merge P 0 k 0 n (omega arith) (omega arith) in let q = map_shift_twice k n Ps in cc

pub inner_inside : (env : Env) (S T I : Sequent) (k : ℕ) (s : Sym) (As : Tys) (G : Term) → IsIndex S T k → I ≡ (at_children T s As ⊢ G) → HasGoodTypes env s As → IsIndex S I (k + binds s)
inner_inside env S T I k s As G i e h = record {
  bound = i.bound ++ take (binds s) (type_list As);
  are = length-append i.bound (take (binds s) (type_list As)) ∙ ap (λ n. n + length (take (binds s) (type_list As))) i.are ∙ ap (λ n. k + n) h.bound;
  context = ap (λ (x : Sequent). x.context) e
      ∙ ap (λ C. types (type_list C ++ take (binds s) (type_list As))) i.context
      ∙ ap (λ Bs. types (Bs ++ take (binds s) (type_list As))) (type_list-types (type_list S.context ++ i.bound))
      ∙ ap types (append_assoc (type_list S.context) i.bound (take (binds s) (type_list As)));
  hyps = ap (λ (x : Sequent). x.hyps) e
      ∙ ap (λ H. map (λ P. shift P 0 (length (take (binds s) (type_list As)))) H) i.hyps
      ∙ ap (λ n. map (λ P. shift P 0 n) (map (λ P. shift P 0 k) S.hyps)) h.bound
      ∙ map_shift_twice k (binds s) S.hyps;
}

-- Room for numbers of variables.
depths_shifted : (n : ℕ) (Ps : List Term) → depths (terms (map (λ P. shift P 0 n) Ps)) ≡ depths (terms Ps)
depths_shifted n [] = refl
depths_shifted n (P ∷ Ps) = let p = depth-shift P 0 n in let q = depths_shifted n Ps in cc

pub inner_room : (env : Env) (S I : Sequent) (s : Sym) (As : Tys) (G : Term) (d : ℕ) → I ≡ (at_children S s As ⊢ G) → HasGoodTypes env s As →
    length (type_list S.context) + (depths (terms S.hyps) + (1 + d)) < 2 ^ 32 → length (type_list I.context) + (depths (terms I.hyps) + d) < 2 ^ 32
inner_room env S I s As G d e g h =
    let p : length (type_list I.context) ≡ length (type_list S.context) + length (take (binds s) (type_list As)) =
    ap length (inner_context S I s As G e) ∙ length-append (type_list S.context) (take (binds s) (type_list As)) in
    let q : depths (terms I.hyps) ≡ depths (terms S.hyps) = ap (λ (x : Sequent). depths (terms x.hyps)) e ∙ depths_shifted (length (take (binds s) (type_list As))) S.hyps in
    omega (arith, p, q, h, g.bound, binds_le s)

pub hyps_low : (env : Env) (C : List Ty) (Ps : List Term) (d : ℕ) → AllByRecursion (IsPredicate env C) Ps → 1 ≤ d → length C + (depths (terms Ps) + d) < 2 ^ 32 → all_highest (shifts (terms Ps) 0 1) ≤ 2 ^ 32
hyps_low env C [] d h k l = omega arith
hyps_low env C (P ∷ Ps) d h k l =
    let p : highest (shift P 0 1) ≤ (loose P + 1) + depth P = highest_shift_le P 0 1 in
    let q : loose P ≤ length C = typed_loose env C P Prop h.0 in
    let r : all_highest (shifts (terms Ps) 0 1) ≤ 2 ^ 32 = hyps_low env C Ps d h.1 k (omega (arith, l)) in
    omega (arith, p, q, r, k, l)

pub count_within : (S T : Sequent) (k : ℕ) → IsIndex S T k → k ≤ length (type_list T.context)
count_within S T k i =
    let p : length (type_list T.context) ≡ length (type_list S.context) + length i.bound =
    ap (λ C. length (type_list C)) i.context ∙ ap length (type_list-types (type_list S.context ++ i.bound)) ∙ length-append (type_list S.context) i.bound in
    omega (arith, p, i.are)

-- the sides of a symbol on children
pub node_alike : (env : Env) (C : List Ty) (d : ℕ) (us vs : List Term) (s : Sym) (As : Tys) (ts : List Term) → AreAlike env C (put d us (node s As (terms ts))) (put d vs (node s As (terms ts))) →
    AreAlike env C (node s As (terms (map (put (d + binds s) us) ts))) (node s As (terms (map (put (d + binds s) vs) ts)))
node_alike env C d us vs s As ts a = alike_by env C _ _ _ _ (sym (put_node d us s As ts)) (sym (put_node d vs s As ts)) a

pub inner_alike : (env : Env) (S I : Sequent) (d n : ℕ) (us vs : List Term) (s : Sym) (As : Tys) (ts : List Term) (G : Term) → I ≡ (at_children S s As ⊢ G) → n ≡ d + binds s →
    AreAlike env (type_list S.context) (put d us (node s As (terms ts))) (put d vs (node s As (terms ts))) → AreAllAlike env (type_list I.context) (map (put n us) ts) (map (put n vs) ts)
inner_alike env S I d n us vs s As ts G e k a =
    transport (λ D. AreAllAlike env D (map (put n us) ts) (map (put n vs) ts)) (sym (inner_context S I s As G e))
    (transport (λ m. AreAllAlike env (inside (type_list S.context) s As) (map (put m us) ts) (map (put m vs) ts)) (sym k)
    (children_alike env (type_list S.context) s As (map (put (d + binds s) us) ts) (map (put (d + binds s) vs) ts) (node_alike env (type_list S.context) d us vs s As ts a)))

-- types of a symbol whose sides are typed
pub sides_types : (env : Env) (C : List Ty) (d : ℕ) (us vs : List Term) (s : Sym) (As : Tys) (ts : List Term) → AreAlike env C (put d us (node s As (terms ts))) (put d vs (node s As (terms ts))) → HasGoodTypes env s As
sides_types env C d us vs s As ts a =
    let b = node_alike env C d us vs s As ts a in good_types env C s As (terms (map (put (d + binds s) us) ts)) b.ty b.left

-- In the loop over children.
pub alike_map : (env : Env) (C : List Ty) (f g : Term → Term) (ts : List Term) (i : ℕ) (t : Term) → AreAllAlike env C (map f ts) (map g ts) → t ≡ get_or ts i t → i < length ts → AreAlike env C (f t) (g t)
alike_map env C f g [] i t h e k = absurd (omega arith)
alike_map env C f g (u ∷ ts) zero t h e k = transport (λ w. AreAlike env C (f w) (g w)) (sym e) h.0
alike_map env C f g (u ∷ ts) (suc i) t h e k = alike_map env C f g ts i t h.1 e (omega arith)

map_last : (f : Term → Term) (ts : List Term) (t : Term) → map f (ts ++ t ∷ []) ≡ map f ts ++ f t ∷ []
map_last f [] t = refl
map_last f (u ∷ ts) t = ap (λ us. f u ∷ us) (map_last f ts t)

pub map_step : (f : Term → Term) (ts us ws : List Term) (i : ℕ) (t x : Term) → us ≡ map f (take i ts) → ws ≡ us ++ x ∷ [] → x ≡ f t → t ≡ get_or ts i t → i < length ts → ws ≡ map f (take (i + 1) ts)
map_step f ts us ws i t x a b e g k =
    b ∙ ap (λ vs. vs ++ x ∷ []) a ∙ ap (λ y. map f (take i ts) ++ y ∷ []) e ∙ sym (map_last f (take i ts) t) ∙ ap (map f) (sym (take_next ts i t g k))

pub map_end : (f : Term → Term) (ts us : List Term) (i : ℕ) → us ≡ map f (take i ts) → length ts ≤ i → us ≡ map f ts
map_end f ts us i a k = a ∙ ap (map f) (take_all ts i k)

-- what a side of a symbol is, from what its children are
pub put_sides : (d n : ℕ) (us : List Term) (s : Sym) (As : Tys) (ts ls : List Term) → n ≡ d + binds s → ls ≡ map (put n us) ts → put d us (node s As (terms ts)) ≡ node s As (terms ls)
put_sides d n us s As ts ls k e = put_node d us s As ts ∙ ap (λ m. node s As (terms (map (put m us) ts))) (sym k) ∙ ap (λ ws. node s As (terms ws)) (sym e)

pub alike_both : (env : Env) (C : List Ty) (ls rs ls' rs' : List Term) → ls' ≡ ls → rs' ≡ rs → AreAllAlike env C ls rs → AreAllAlike env C ls' rs'
alike_both env C ls rs ls' rs' e f h = transport (λ u. AreAllAlike env C u rs') (sym e) (transport (AreAllAlike env C ls) (sym f) h)

pub inner_inside_by : (env : Env) (S T I : Sequent) (k n : ℕ) (s : Sym) (As : Tys) (G : Term) → IsIndex S T k → I ≡ (at_children T s As ⊢ G) → HasGoodTypes env s As → n ≡ binds s → IsIndex S I (k + n)
inner_inside_by env S T I k n s As G i e h q = transport (λ m. IsIndex S I (k + m)) (sym q) (inner_inside env S T I k s As G i e h)

-- the types of a list of typed terms, one by one
pub typed_lengths : (env : Env) (C : List Ty) (ts : List Term) (Ts : List Ty) → AreTyped env C (terms ts) Ts → length Ts ≡ length ts
typed_lengths env C [] [] h = refl
typed_lengths env C [] (T ∷ Ts) h = absurd h
typed_lengths env C (t ∷ ts) [] h = absurd h
typed_lengths env C (t ∷ ts) (T ∷ Ts) h = ap suc (typed_lengths env C ts Ts h.1)

pub typed_at : (env : Env) (C : List Ty) (ts : List Term) (Ts : List Ty) (i : ℕ) (t : Term) (T : Ty) → AreTyped env C (terms ts) Ts → t ≡ get_or ts i t → T ≡ get_or Ts i T → i < length ts → Typed env C t T
typed_at env C [] Ts i t T h e f k = absurd (omega arith)
typed_at env C (u ∷ ts) [] i t T h e f k = absurd h
typed_at env C (u ∷ ts) (U ∷ Ts) zero t T h e f k = transport (λ v. Typed env C v T) (sym e) (transport (Typed env C u) (sym f) h.0)
typed_at env C (u ∷ ts) (U ∷ Ts) (suc i) t T h e f k = typed_at env C ts Ts i t T h.1 e f (omega arith)

-- what a typed symbol's signature says of its children and of its own type
pub has_signature : (env : Env) (C : List Ty) (s : Sym) (As : Tys) (ts : Terms) (A : Ty) → Typed env C (node s As ts) A → (p : Profile) × (profile env s ≡ Some p)
has_signature env C s As ts A h = some_out (profile env s) (λ p e g. (p, e)) h

pub signature_types : (env : Env) (C : List Ty) (s : Sym) (As : Tys) (ts : List Term) (A T : Ty) (Ts : List Ty) → Typed env C (node s As (terms ts)) A →
    ((p : Profile) → profile env s ≡ Some p → (Ts ≡ map (type_inst (type_at As)) p.args) × (T ≡ type_inst (type_at As) p.result)) →
    Typed env C (node s As (terms ts)) T × AreTyped env (inside C s As) (terms ts) Ts
signature_types env C s As ts A T Ts h f =
    some_out (profile env s) (λ p e g.
    let q = f p e in (
      transport (Typed env C (node s As (terms ts))) (g.result ∙ sym q.1) h,
      transport (AreTyped env (inside C s As) (terms ts)) (sym q.0) g.children,
    )) h
