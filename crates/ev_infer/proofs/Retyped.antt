-- Terms in two contexts of which the one differs from the other where a type is not proper.
use Rattle.std.specs.Prelude.{◌≡◌, ℕ, zero, suc, Bool as Boolean, true, false, ◌||◌, List, [], ◌∷◌, ◌++◌, map, reverse, length, take, slice_get, Option, Some, IsSomeAnd, ◌⊎◌, refl}
use Rattle.std.specs.List.{AllByRecursion}
use Rattle.std.proofs.Common.{sym, ◌∙◌, arith, inl, inr, subst as transport}
use Rattle.std.proofs.lemmas.List.{reverse-append}
use Rattle.ev_terms.specs.declared.types.Ty.{Ty}
use Rattle.ev_terms.specs.declared.types.Tys.{Tys}
use Rattle.ev_terms.specs.declared.types.Sym.{Sym}
use Rattle.ev_terms.specs.Types.{type_list}
use Rattle.ev_terms.specs.Term.{Term, Terms, var, lit, node, nil, cons}
use Rattle.ev_terms.specs.Symbols.{binds}
use Rattle.ev_terms.specs.Substitution.{type_inst, type_at}
use Rattle.ev_typing.specs.Profiles.{Profile}
use Rattle.ev_typing.specs.Env.{Env, profile}
use Rattle.ev_typing.specs.Typing.{AreProper, inside, var_type, Typed, AreTyped}
use Rattle.ev_typing.specs.Proper.{IsResult, HasProperSignatures}
use Rattle.ev_typing.proofs.Proper.{result_inst}
use Rattle.ev_typing.proofs.Keeps.{inside_length}
use Rattle.ev_resolve.specs.Bare.{Bare, Bares, bare_var, bare_lit, bare_node, bare_of, bare_none, bare_more, Fits, FitAll}
use Rattle.ev_infer.proofs.Sound.{some_gives}
use Rattle.ev_infer.proofs.Complete.{some_and}
use Rattle.ev_infer.specs.inner.Marked.{is_marked, unmarked, uses_marked, use_marked}

-- a typed node by its signature
some_to : {X : Type 0} (P : X → Type 0) (o : Option X) (x : X) → o ≡ Some x → P x → IsSomeAnd o P
some_to P o x e h = transport (λ q. IsSomeAnd q P) (sym e) h

-- The one context keeps the types of the other that are proper, or `Prop`.
abbrev pub Keeps : Env → List Ty → List Ty → Type 0
Keeps env C D = (i : ℕ) (A : Ty) → var_type C i ≡ Some A → IsResult env A → var_type D i ≡ Some A

keeps_front : (P : Ty → Type 0) (xs ys zs : List Ty) → ((i : ℕ) (A : Ty) → slice_get ys i ≡ Some A → P A → slice_get zs i ≡ Some A)
    → (i : ℕ) (A : Ty) → slice_get (xs ++ ys) i ≡ Some A → P A → slice_get (xs ++ zs) i ≡ Some A
keeps_front P [] ys zs h i A e p = h i A e p
keeps_front P (x ∷ xs) ys zs h zero A e p = e
keeps_front P (x ∷ xs) ys zs h (suc i) A e p = keeps_front P xs ys zs h i A e p

keeps_more : (env : Env) (C D E : List Ty) → Keeps env C D → Keeps env (C ++ E) (D ++ E)
keeps_more env C D E h i A e p =
    transport (λ l. slice_get l i ≡ Some A) (sym (reverse-append D E))
    (keeps_front (IsResult env) (reverse E) (reverse C) (reverse D) h i A (transport (λ l. slice_get l i ≡ Some A) (reverse-append C E) e) p)

results_inst : (env : Env) (As : Tys) (Bs : List Ty) → AreProper env As → AllByRecursion (IsResult env) Bs → AllByRecursion (IsResult env) (map (type_inst (type_at As)) Bs)
results_inst env As [] p h = tt
results_inst env As (B ∷ Bs) p h = (result_inst env As B p h.0, results_inst env As Bs p h.1)

-- what has a proper type in the one context has it in the other
mutual
  pub retyped : (env : Env) → HasProperSignatures env → (t : Term) (C D : List Ty) (A : Ty) → Keeps env C D → Typed env C t A → IsResult env A → Typed env D t A
  retyped env s (var i) C D A k h r = k i A h r
  retyped env s (lit n) C D A k h r = h
  retyped env s (node f As ts) C D A k h r =
      let (p, ep, n) = some_and _ (profile env f) h in
      some_to _ (profile env f) p ep
      (record {
        count = n.count;
        proper = n.proper;
        children = all_retyped env s ts (inside C f As) (inside D f As) (map (type_inst (type_at As)) p.args)
            (keeps_more env C D (take (binds f) (type_list As)) k) n.children (results_inst env As p.args n.proper (s f p ep).0);
        result = n.result;
      })

  all_retyped : (env : Env) → HasProperSignatures env → (ts : Terms) (C D : List Ty) (Bs : List Ty) → Keeps env C D → AreTyped env C ts Bs → AllByRecursion (IsResult env) Bs → AreTyped env D ts Bs
  all_retyped env s nil C D [] k h r = tt
  all_retyped env s nil C D (B ∷ Bs) k h r = absurd h
  all_retyped env s (cons t ts) C D [] k h r = absurd h
  all_retyped env s (cons t ts) C D (B ∷ Bs) k h r = (retyped env s t C D B k h.0 r.0, all_retyped env s ts C D Bs k h.1 r.1)

-- the type of what is no variable is proper, or `Prop`
pub no_variable_result : (env : Env) → HasProperSignatures env → (C : List Ty) (t : Term) (A : Ty) → ((i : ℕ) → t ≡ var i → ⊥) → Typed env C t A → IsResult env A
no_variable_result env s C (var i) A n h = absurd (n i refl)
no_variable_result env s C (lit k) A n h = transport (IsResult env) (sym h.1) tt
no_variable_result env s C (node f As ts) A n h =
    let (p, ep, m) = some_and _ (profile env f) h in
    transport (IsResult env) (sym m.result) (result_inst env As p.result m.proper (s f p ep).1)

-- Of two contexts with marks, the innermost variable's first: they have one type where there is no mark, and no common one where there is.
pub record AreApart (C D : List Ty) (marks : List Boolean) : Type 0 where
  pub same : (i : ℕ) (A : Ty) → is_marked marks i ≡ false → slice_get D i ≡ Some A → slice_get C i ≡ Some A
  pub differ : (i : ℕ) (A : Ty) → is_marked marks i ≡ true → slice_get C i ≡ Some A → slice_get D i ≡ Some A → ⊥

apart_front : (n : ℕ) (xs C D : List Ty) (marks : List Boolean) → length xs ≡ n → AreApart C D marks → AreApart (xs ++ C) (xs ++ D) (unmarked n ++ marks)
apart_front zero [] C D marks l a = a
apart_front zero (x ∷ xs) C D marks l a = absurd (omega (arith, l))
apart_front (suc n) [] C D marks l a = absurd (omega (arith, l))
apart_front (suc n) (x ∷ xs) C D marks l a =
    let rest = apart_front n xs C D marks (omega (arith, l)) a in
    record { same = same_at rest; differ = differ_at rest }
  where
    same_at : AreApart (xs ++ C) (xs ++ D) (unmarked n ++ marks) → (i : ℕ) (A : Ty) → is_marked (false ∷ unmarked n ++ marks) i ≡ false → slice_get (x ∷ xs ++ D) i ≡ Some A → slice_get (x ∷ xs ++ C) i ≡ Some A
    same_at r zero A m e = e
    same_at r (suc i) A m e = r.same i A m e

    differ_at : AreApart (xs ++ C) (xs ++ D) (unmarked n ++ marks) → (i : ℕ) (A : Ty) → is_marked (false ∷ unmarked n ++ marks) i ≡ true → slice_get (x ∷ xs ++ C) i ≡ Some A → slice_get (x ∷ xs ++ D) i ≡ Some A → ⊥
    differ_at r zero A m e f = cc
    differ_at r (suc i) A m e f = r.differ i A m e f

abbrev pub Apart : List Ty → List Ty → List Boolean → Type 0
Apart C D marks = AreApart (reverse C) (reverse D) marks

reversed_length : (xs : List Ty) → length (reverse xs) ≡ length xs
reversed_length xs = Rattle.std.proofs.lemmas.List.length-reverse xs

apart_inside : (env : Env) (C D : List Ty) (marks : List Boolean) (s : Sym) (As : Tys) (p : Profile) → profile env s ≡ Some p → length (type_list As) ≡ p.params → Apart C D marks → Apart (inside C s As) (inside D s As) (unmarked (binds s) ++ marks)
apart_inside env C D marks s As p e l a =
    let new = take (binds s) (type_list As) in
    transport (λ X. AreApart X (reverse (D ++ new)) (unmarked (binds s) ++ marks)) (sym (reverse-append C new))
    (transport (λ Y. AreApart (reverse new ++ reverse C) Y (unmarked (binds s) ++ marks)) (sym (reverse-append D new))
    (apart_front (binds s) (reverse new) (reverse C) (reverse D) marks (reversed_length new ∙ inside_length env s As p e l) a))

or_split : (a b : Boolean) → (a || b) ≡ true → (a ≡ true) ⊎ (b ≡ true)
or_split true b e = inl refl
or_split false b e = inr e

or_none : (a b : Boolean) → (a || b) ≡ false → (a ≡ false) × (b ≡ false)
or_none true b e = cc
or_none false b e = (refl, e)

-- a term of one type in both contexts uses no marked variable
mutual
  pub used_clash : (env : Env) (b : Bare) (C D : List Ty) (marks : List Boolean) (t : Term) (A : Ty) → Apart C D marks → Fits env b D t → Typed env C t A → Typed env D t A → uses_marked b marks ≡ true → ⊥
  used_clash env (bare_var i) C D marks t A a f h k u = a.differ i A u (transport (λ x. Typed env C x A) f h) (transport (λ x. Typed env D x A) f k)
  used_clash env (bare_lit n) C D marks t A a f h k u = cc
  used_clash env (bare_node s w bs) C D marks t A a (As, ts, g, fs, q) h k u =
      let (p, ep, n) = some_and _ (profile env s) (transport (λ x. Typed env C x A) q h) in
      let (p', ep', m) = some_and _ (profile env s) (transport (λ x. Typed env D x A) q k) in
      let same : p' ≡ p = some_gives _ _ (sym ep ∙ ep') in
      all_clash env bs (inside C s As) (inside D s As) (unmarked (binds s) ++ marks) ts (map (type_inst (type_at As)) p.args) (apart_inside env C D marks s As p ep n.count a) fs n.children
      (transport (λ (r : Profile). AreTyped env (inside D s As) ts (map (type_inst (type_at As)) r.args)) same m.children) u
  used_clash env (bare_of b B) C D marks t A a f h k u = used_clash env b C D marks t A a f.0 h k u

  all_clash : (env : Env) (bs : Bares) (C D : List Ty) (marks : List Boolean) (ts : Terms) (Bs : List Ty) → Apart C D marks → FitAll env bs D ts → AreTyped env C ts Bs → AreTyped env D ts Bs → use_marked bs marks ≡ true → ⊥
  all_clash env bare_none C D marks ts Bs a f h k u = cc
  all_clash env (bare_more b bs) C D marks ts [] a (t, us, f, fs, q) h k u = transport (λ x. AreTyped env C x []) q h
  all_clash env (bare_more b bs) C D marks ts (B ∷ Bs) a (t, us, f, fs, q) h k u =
      let h' : Typed env C t B × AreTyped env C us Bs = transport (λ x. AreTyped env C x (B ∷ Bs)) q h in
      let k' : Typed env D t B × AreTyped env D us Bs = transport (λ x. AreTyped env D x (B ∷ Bs)) q k in
      elim (or_split (uses_marked b marks) (use_marked bs marks) u) as (λ _. ⊥) [
        | inl x ↦ used_clash env b C D marks t B a f h'.0 k'.0 x
        | inr x ↦ all_clash env bs C D marks us Bs a fs h'.1 k'.1 x
      ]

-- a term that uses none has its type in the one context too
mutual
  pub unused_typed : (env : Env) (b : Bare) (C D : List Ty) (marks : List Boolean) (t : Term) (A : Ty) → Apart C D marks → Fits env b D t → Typed env D t A → uses_marked b marks ≡ false → Typed env C t A
  unused_typed env (bare_var i) C D marks t A a f k u = transport (λ x. Typed env C x A) (sym f) (a.same i A u (transport (λ x. Typed env D x A) f k))
  unused_typed env (bare_lit n) C D marks t A a f k u = transport (λ x. Typed env C x A) (sym f) (transport (λ x. Typed env D x A) f k)
  unused_typed env (bare_node s w bs) C D marks t A a (As, ts, g, fs, q) k u =
      let (p, ep, m) = some_and _ (profile env s) (transport (λ x. Typed env D x A) q k) in
      transport (λ x. Typed env C x A) (sym q)
      (some_to _ (profile env s) p ep
      (record {
        count = m.count;
        proper = m.proper;
        children = all_unused env bs (inside C s As) (inside D s As) (unmarked (binds s) ++ marks) ts (map (type_inst (type_at As)) p.args) (apart_inside env C D marks s As p ep m.count a) fs m.children u;
        result = m.result;
      }))
  unused_typed env (bare_of b B) C D marks t A a f k u = unused_typed env b C D marks t A a f.0 k u

  all_unused : (env : Env) (bs : Bares) (C D : List Ty) (marks : List Boolean) (ts : Terms) (Bs : List Ty) → Apart C D marks → FitAll env bs D ts → AreTyped env D ts Bs → use_marked bs marks ≡ false → AreTyped env C ts Bs
  all_unused env bare_none C D marks ts [] a f k u = transport (λ x. AreTyped env C x []) (sym f) tt
  all_unused env bare_none C D marks ts (B ∷ Bs) a f k u = absurd (transport (λ x. AreTyped env D x (B ∷ Bs)) f k)
  all_unused env (bare_more b bs) C D marks ts [] a (t, us, f, fs, q) k u = absurd (transport (λ x. AreTyped env D x []) q k)
  all_unused env (bare_more b bs) C D marks ts (B ∷ Bs) a (t, us, f, fs, q) k u =
      let k' : Typed env D t B × AreTyped env D us Bs = transport (λ x. AreTyped env D x (B ∷ Bs)) q k in
      let (v, vs) = or_none (uses_marked b marks) (use_marked bs marks) u in
      transport (λ x. AreTyped env C x (B ∷ Bs)) (sym q) (unused_typed env b C D marks t B a f k'.0 v, all_unused env bs C D marks us Bs a fs k'.1 vs)
