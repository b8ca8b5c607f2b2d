-- Congruence at a place of a term in which direct operators may stand.
use Rattle.std.specs.Prelude.{◌≡◌, ◌+◌, ◌-◌, ◌++◌, ℕ, zero, suc, List, [], ◌∷◌, Option, Some, None, map, length, take, get_or, slice_get, slice_set, option_map, refl}
use Rattle.std.specs.Option.{option_and_then}
use Rattle.std.specs.List.{AllByRecursion}
use Rattle.std.proofs.Common.{ap, sym, ◌∙◌, subst as transport, arith, append_assoc}
use Rattle.std.proofs.lemmas.List.{length-append}
use Rattle.ev_terms.specs.declared.types.Ty.{Ty, Prop}
use Rattle.ev_terms.specs.declared.types.Tys.{Tys}
use Rattle.ev_terms.specs.declared.types.Sym.{Sym}
use Rattle.ev_terms.specs.declared.types.Sym.TheVariants.{Base, User}
use Rattle.ev_terms.specs.Types.{type_list}
use Rattle.ev_terms.specs.Term.{Term, Terms, var, lit, node, nil, cons, terms, term_list, terms-term_list, term_list-terms}
use Rattle.ev_terms.specs.Symbols.{binds}
use Rattle.ev_terms.specs.Substitution.{shift, fill, instance, type_inst, type_at}
use Rattle.ev_terms.proofs.Laws.{shift-shift_merge}
use Rattle.ev_forms.specs.Forms.{equation}
use Rattle.ev_typing.specs.declared.typing.Sequent.{Sequent}
use Rattle.ev_typing.specs.TypeLists.{types}
use Rattle.ev_typing.specs.Profiles.{Profile}
use Rattle.ev_typing.specs.Env.{Env, Name, DirectOf, signature_profile, symbol_profile, find_symbol, profile}
use Rattle.ev_typing.specs.Parts.{base}
use Rattle.ev_typing.specs.Typing.{IsProper, AreProper, Typed, AreTyped, inside}
use Rattle.ev_typing.specs.Occurs.{IsPlain, ArePlain}
use Rattle.ev_typing.specs.Sequents.{◌⊢◌}
use Rattle.ev_typing.specs.BaseSequents.{widened}
use Rattle.ev_typing.proofs.Checks.{inside_none}
use Rattle.ev_typing.proofs.Laws.{type_list-types, Typed-unique}
use Rattle.ev_typing.proofs.Names.{all_append}
use Rattle.ev_kernel.specs.Row.{at_children}
use Rattle.ev_kernel.specs.Derivable.{Derivable}
use Rattle.ev_ops.specs.Unfold.{body_of, unfolded_node, unfold_all_by, bodies_after, unfolded}
use Rattle.ev_ops.proofs.UnfoldApplication.{unfolded_application}
use Rattle.ev_rewrite.specs.Places.{node_at, path_types, with_child, replace_at}
use Rattle.ev_congruence.specs.Settings.{IsBaseContext}
use Rattle.ev_sound.specs.Equations.{AreEqual, AreAllEqual}
use Rattle.ev_typing.specs.WellFormed.{IsWellFormed}
use Rattle.ev_ops.proofs.Fitting.{IsBodyOf, body_found, found_body}
use Rattle.ev_ops.proofs.BaseGood.{base_well_formed}
use Rattle.ev_congruence.proofs.Terms.{proper_list, list_proper, all_take, some_out}
use Rattle.ev_congruence.proofs.Contexts.{are_equals, by_parts}
use Rattle.ev_sound.proofs.Derived.{base_of, same}
use Rattle.ev_sound.proofs.Congruence.{widened_none, AreEqualChildren, no_children, one_more, equal_node, children_context, congruence}
use Rattle.ev_sound.proofs.Bodies.{direct_body, over_base, types_over_base, body_over_base}

-- A context that is extended twice.
map_shift_twice : (k n : ℕ) (Ps : List Term) → map (λ P. shift P 0 n) (map (λ P. shift P 0 k) Ps) ≡ map (λ P. shift P 0 (k + n)) Ps
map_shift_twice k n [] = refl
map_shift_twice k n (P ∷ Ps) = let p = shift-shift_merge P 0 k 0 n (omega arith) (omega arith) in let q = map_shift_twice k n Ps in cc

pub widened_twice : (S : Sequent) (Bs Cs : List Ty) (G : Term) → (widened (widened S Bs) Cs ⊢ G) ≡ (widened S (Bs ++ Cs) ⊢ G)
widened_twice S Bs Cs G =
    by_parts (types (type_list (types (type_list S.context ++ Bs)) ++ Cs)) (types (type_list S.context ++ (Bs ++ Cs)))
    (map (λ P. shift P 0 (length Cs)) (map (λ P. shift P 0 (length Bs)) S.hyps)) (map (λ P. shift P 0 (length (Bs ++ Cs))) S.hyps) G G
    (ap (λ D. types (D ++ Cs)) (type_list-types (type_list S.context ++ Bs)) ∙ ap types (append_assoc (type_list S.context) Bs Cs))
    (map_shift_twice (length Bs) (length Cs) S.hyps ∙ ap (λ n. map (λ P. shift P 0 n) S.hyps) (sym (length-append Bs Cs))) refl

-- a user's symbol binds nothing
pub user_binds : (n : Name) → binds (User n) ≡ 0
unfolding binds
user_binds n = refl

pub at_user : (S : Sequent) (n : Name) (As : Tys) (G : Term) → (at_children S (User n) As ⊢ G) ≡ (S ⊢ G)
at_user S n As G = ap (λ k. widened S (take k (type_list As)) ⊢ G) (user_binds n) ∙ sym (widened_none S G)

-- Answers that are there.
pub and_then_parts : {X Y : Type 0} (f : X → Option Y) (o : Option X) (y : Y) → option_and_then f o ≡ Some y → (x : X) × (o ≡ Some x) × (f x ≡ Some y)
and_then_parts f None y e = cc
and_then_parts f (Some x) y e = (x, refl, e)

pub map_parts : {X Y : Type 0} (f : X → Y) (o : Option X) (y : Y) → option_map f o ≡ Some y → (x : X) × (o ≡ Some x) × (f x ≡ y)
map_parts f None y e = cc
map_parts f (Some x) y e = (x, refl, cc)

-- Children by number.
set_get : (xs : List Term) (i : ℕ) (c d : Term) → slice_get xs i ≡ Some c → slice_get (slice_set xs i d) i ≡ Some d
set_get [] i c d e = cc
set_get (x ∷ xs) zero c d e = refl
set_get (x ∷ xs) (suc i) c d e = set_get xs i c d e

pub child_typed : (env : Env) (D : List Ty) (ts : List Term) (Es : List Ty) (i : ℕ) (c : Term) → AreTyped env D (terms ts) Es → slice_get ts i ≡ Some c → Typed env D c (get_or Es i Prop)
child_typed env D [] Es i c h e = cc
child_typed env D (t ∷ ts) [] i c h e = absurd h
child_typed env D (t ∷ ts) (E ∷ Es) zero c h e = let q : t ≡ c = cc in transport (λ x. Typed env D x E) q h.0
child_typed env D (t ∷ ts) (E ∷ Es) (suc i) c h e = child_typed env D ts Es i c h.1 e

-- An equation at the type of its left side.
pub equal_at : (env : Env) (S : Sequent) (A B : Ty) (l r : Term) → Typed env (type_list S.context) l A → AreEqual env S B l r → AreEqual env S A l r
equal_at env S A B l r h d =
    transport (λ X. AreEqual env S X l r) (Typed-unique env (type_list S.context) l B A (are_equals env S B l r (base_of env (S ⊢ equation B l r) d)).sides.left h) d

module _ (env : Env) (u : IsWellFormed env) where
  abbrev pub all_unfolded : Terms → Terms
  all_unfolded ts = unfold_all_by (bodies_after [] env) ts

  -- Children of which one is replaced by an equal one.
  module _ (S : Sequent) (b : IsBaseContext (base env) S) where
    same_children : (ts : Terms) (Xs : List Ty) → AreTyped (base env) (type_list S.context) (all_unfolded ts) Xs → ArePlain (base env) (all_unfolded ts) → AreEqualChildren (base env) S Xs (all_unfolded ts) (all_unfolded ts)
    same_children nil [] h p = no_children (base env) S
    same_children nil (X ∷ Xs) h p = absurd h
    same_children (cons t ts) [] h p = absurd h
    same_children (cons t ts) (X ∷ Xs) h p =
        one_more (base env) S X Xs (unfolded env t) (unfolded env t) (all_unfolded ts) (all_unfolded ts) (same (base env) (base_well_formed env u) S X (unfolded env t) b h.0 p.0) (same_children ts Xs h.1 p.1)

    replaced_children : (ts : Terms) (i : ℕ) (c d : Term) (E : Ty) (Xs : List Ty) → slice_get (term_list ts) i ≡ Some c → AreEqual (base env) S E (unfolded env c) (unfolded env d) →
        AreTyped (base env) (type_list S.context) (all_unfolded ts) Xs → ArePlain (base env) (all_unfolded ts) →
        AreEqualChildren (base env) S Xs (all_unfolded ts) (all_unfolded (terms (slice_set (term_list ts) i d)))
    replaced_children nil i c d E Xs e a h p = cc
    replaced_children (cons t ts) i c d E [] e a h p = absurd h
    replaced_children (cons t ts) zero c d E (X ∷ Xs) e a h p =
        let q : c ≡ t = cc in
        one_more (base env) S X Xs (unfolded env t) (unfolded env d) (all_unfolded ts) (all_unfolded (terms (term_list ts)))
        (equal_at (base env) S X E (unfolded env t) (unfolded env d) h.0 (transport (λ x. AreEqual (base env) S E (unfolded env x) (unfolded env d)) q a))
        (transport (λ us. AreEqualChildren (base env) S Xs (all_unfolded ts) (all_unfolded us)) (sym (terms-term_list ts)) (same_children ts Xs h.1 p.1))
    replaced_children (cons t ts) (suc i) c d E (X ∷ Xs) e a h p =
        one_more (base env) S X Xs (unfolded env t) (unfolded env t) (all_unfolded ts) (all_unfolded (terms (slice_set (term_list ts) i d)))
        (same (base env) (base_well_formed env u) S X (unfolded env t) b h.0 p.0) (replaced_children ts i c d E Xs e a h.1 p.1)

  -- Arguments of which one is replaced by an equal one.
  module _ (S : Sequent) (c : AreProper env S.context) (b : IsBaseContext (base env) S) where
    same_arguments : (ts : List Term) (Es : List Ty) → AreTyped env (type_list S.context) (terms ts) Es → AreAllEqual (base env) S Es (map (unfolded env) ts) (map (unfolded env) ts)
    same_arguments [] [] h = tt
    same_arguments [] (E ∷ Es) h = absurd h
    same_arguments (t ∷ ts) [] h = absurd h
    same_arguments (t ∷ ts) (E ∷ Es) h =
        let o = over_base env u S.context c t E h.0 in
        (same (base env) (base_well_formed env u) S E (unfolded env t) b o.typed o.plain, same_arguments ts Es h.1)

    replaced_arguments : (ts : List Term) (i : ℕ) (x y : Term) (E : Ty) (Es : List Ty) → slice_get ts i ≡ Some x → AreEqual (base env) S E (unfolded env x) (unfolded env y) →
        AreTyped env (type_list S.context) (terms ts) Es → AreAllEqual (base env) S Es (map (unfolded env) ts) (map (unfolded env) (slice_set ts i y))
    replaced_arguments [] i x y E Es e a h = cc
    replaced_arguments (t ∷ ts) i x y E [] e a h = absurd h
    replaced_arguments (t ∷ ts) zero x y E (X ∷ Es) e a h =
        let q : x ≡ t = cc in
        let o = over_base env u S.context c t X h.0 in
        (equal_at (base env) S X E (unfolded env t) (unfolded env y) o.typed (transport (λ z. AreEqual (base env) S E (unfolded env z) (unfolded env y)) q a), same_arguments ts Es h.1)
    replaced_arguments (t ∷ ts) (suc i) x y E (X ∷ Es) e a h =
        let o = over_base env u S.context c t X h.0 in
        (same (base env) (base_well_formed env u) S X (unfolded env t) b o.typed o.plain, replaced_arguments ts i x y E Es e a h.1)

    -- an application of a direct operator to equal arguments
    pub direct_between : (n : Name) (B : Term) (As : Tys) (ts vs : Terms) (A : Ty) (a : IsBodyOf env n B) →
        (AreTyped env (type_list S.context) (terms (term_list ts)) (map (type_inst (type_at As)) (type_list a.sig.args)) →
        AreAllEqual (base env) S (map (type_inst (type_at As)) (type_list a.sig.args)) (map (unfolded env) (term_list ts)) (map (unfolded env) (term_list vs))) →
        Typed env (type_list S.context) (node (User n) As ts) A → Typed env (type_list S.context) (node (User n) As vs) A →
        AreEqual (base env) S A (unfolded env (node (User n) As ts)) (unfolded env (node (User n) As vs))
    direct_between n B As ts vs A a d h k =
        let found = body_found env n B u.distinct a in
        let l = unfolded_application env u (type_list S.context) n As ts A h a.sig a.condition a.body found in
        let r = unfolded_application env u (type_list S.context) n As vs A k a.sig a.condition a.body found in
        some_out (profile env (User n)) (λ q f g.
        let p : q ≡ signature_profile a.sig = profile_is q f found in
        let body = body_over_base env u a.sig a.body As (direct_body env n B u a) g.proper in
        let ts_typed : AreTyped env (type_list S.context) (terms (term_list ts)) (map (type_inst (type_at As)) (type_list a.sig.args)) =
        transport (λ us. AreTyped env (type_list S.context) us (map (type_inst (type_at As)) (type_list a.sig.args))) (sym (terms-term_list ts))
        (transport (λ (z : Profile). AreTyped env (type_list S.context) ts (map (type_inst (type_at As)) z.args)) p
        (transport (λ D. AreTyped env D ts (map (type_inst (type_at As)) q.args)) (sym (inside_none (type_list S.context) (User n) As (user_binds n))) g.children)) in
        let type_is : type_inst (type_at As) a.sig.result ≡ A = sym (g.result ∙ ap (λ (z : Profile). type_inst (type_at As) z.result) p) in
        transport (λ v. AreEqual (base env) S A (unfolded env (node (User n) As ts)) v) (sym r)
        (transport (λ v. AreEqual (base env) S A v (fill (instance (unfolded env a.body) As) (map (unfolded env) (term_list vs)))) (sym l)
        (transport (λ X. AreEqual (base env) S X (fill (instance (unfolded env a.body) As) (map (unfolded env) (term_list ts))) (fill (instance (unfolded env a.body) As) (map (unfolded env) (term_list vs)))) type_is
        (congruence (base env) (base_well_formed env u) S (map (type_inst (type_at As)) (type_list a.sig.args)) (map (unfolded env) (term_list ts)) (map (unfolded env) (term_list vs))
        (instance (unfolded env a.body) As) (type_inst (type_at As) a.sig.result) b (d ts_typed) body.0 body.1)))) h
      where
        profile_is : (q : Profile) → profile env (User n) ≡ Some q → find_symbol env n ≡ Some (DirectOf a.sig a.condition a.body) → q ≡ signature_profile a.sig
        profile_is q f g = let z : Some (signature_profile a.sig) ≡ Some q = sym (ap (option_map symbol_profile) g) ∙ f in cc

    -- a symbol that is no direct operator on equal children
    pub plain_between : (s : Sym) (As : Tys) (ts vs : Terms) (A : Ty) → body_of (bodies_after [] env) s ≡ None →
        ((Xs : List Ty) → IsBaseContext (base env) (at_children S s As) → AreTyped (base env) (type_list (at_children S s As).context) (all_unfolded ts) Xs → ArePlain (base env) (all_unfolded ts) →
        AreEqualChildren (base env) (at_children S s As) Xs (all_unfolded ts) (all_unfolded vs)) →
        Typed env (type_list S.context) (node s As ts) A → AreEqual (base env) S A (unfolded env (node s As ts)) (unfolded env (node s As vs))
    plain_between s As ts vs A none d h =
        let o = over_base env u S.context c (node s As ts) A h in
        let us = all_unfolded ts in
        let l : unfolded env (node s As ts) ≡ node s As us = ap (λ z. unfolded_node z s As us) none in
        let r : unfolded env (node s As vs) ≡ node s As (all_unfolded vs) = ap (λ z. unfolded_node z s As (all_unfolded vs)) none in
        let typed : Typed (base env) (type_list S.context) (node s As us) A = transport (λ z. Typed (base env) (type_list S.context) z A) l o.typed in
        let plain : IsPlain (base env) (node s As us) = transport (IsPlain (base env)) l o.plain in
        transport (λ v. AreEqual (base env) S A (unfolded env (node s As ts)) v) (sym r)
        (transport (λ v. AreEqual (base env) S A v (node s As (all_unfolded vs))) (sym l)
        (some_out (profile (base env) s) (λ q f g.
        equal_node (base env) (base_well_formed env u) S s As q A us (all_unfolded vs) b plain.0 f g.count g.proper g.result
        (d (map (type_inst (type_at As)) q.args) (children_context (base env) S s As b (proper_list (base env) As g.proper))
        (transport (λ D. AreTyped (base env) D us (map (type_inst (type_at As)) q.args)) (sym (type_list-types (inside (type_list S.context) s As))) g.children) plain.1)) typed))

    -- any symbol
    node_equal : (s : Sym) (As : Tys) (ts : Terms) (i : ℕ) (x y : Term) (E A : Ty) (o : Option Term) → body_of (bodies_after [] env) s ≡ o → slice_get (term_list ts) i ≡ Some x →
        AreEqual (base env) (at_children S s As) E (unfolded env x) (unfolded env y) → Typed env (type_list S.context) (node s As ts) A →
        Typed env (type_list S.context) (node s As (terms (slice_set (term_list ts) i y))) A →
        AreEqual (base env) S A (unfolded env (node s As ts)) (unfolded env (node s As (terms (slice_set (term_list ts) i y))))
    node_equal s As ts i x y E A None o e d h k =
        plain_between s As ts (terms (slice_set (term_list ts) i y)) A o (λ Xs z f p. replaced_children (at_children S s As) z ts i x y E Xs e d f p) h
    node_equal (Base m) As ts i x y E A (Some B) o e d h k = cc
    node_equal (User n) As ts i x y E A (Some B) o e d h k =
        direct_between n B As ts (terms (slice_set (term_list ts) i y)) A (found_body env u n B o)
        (λ f. transport (λ us. AreAllEqual (base env) S (map (type_inst (type_at As)) (type_list (found_body env u n B o).sig.args)) (map (unfolded env) (term_list ts)) (map (unfolded env) us)) (sym (term_list-terms (slice_set (term_list ts) i y)))
        (replaced_arguments (term_list ts) i x y E (map (type_inst (type_at As)) (type_list (found_body env u n B o).sig.args)) e
        (transport (Derivable (base env)) (at_user S n As (equation E (unfolded env x) (unfolded env y))) d) f)) h k

  -- Equal nodes at a place.
  pub equal_place : (place : List ℕ) (S : Sequent) (t x y after : Term) (Bs : List Ty) (A B : Ty) → AreProper env S.context → IsBaseContext (base env) S →
      Typed env (type_list S.context) t A → Typed env (type_list S.context) after A → node_at t place ≡ Some x → path_types t place ≡ Some Bs → replace_at t place y ≡ Some after →
      AreEqual (base env) (widened S Bs) B (unfolded env x) (unfolded env y) → AreEqual (base env) S A (unfolded env t) (unfolded env after)
  equal_place [] S t x y after Bs A B c b h k e f g d =
      let e' : t ≡ x = cc in
      let f' : [] ≡ Bs = cc in
      let g' : y ≡ after = cc in
      equal_at (base env) S A B (unfolded env t) (unfolded env after) (over_base env u S.context c t A h).typed
      (transport (Derivable (base env)) (sym (widened_none S (equation B (unfolded env t) (unfolded env after))))
      (transport (λ Xs. AreEqual (base env) (widened S Xs) B (unfolded env t) (unfolded env after)) (sym f')
      (transport (λ z. AreEqual (base env) (widened S Bs) B (unfolded env z) (unfolded env after)) (sym e')
      (transport (λ z. AreEqual (base env) (widened S Bs) B (unfolded env x) (unfolded env z)) g' d))))
  equal_place (zero ∷ place) S t x y after Bs A B c b h k e f g d = cc
  equal_place (suc i ∷ place) S (var j) x y after Bs A B c b h k e f g d = cc
  equal_place (suc i ∷ place) S (lit n) x y after Bs A B c b h k e f g d = cc
  equal_place (suc i ∷ place) S (node s As ts) x y after Bs A B c b h k e f g d =
      let child = and_then_parts (λ z. node_at z place) (slice_get (term_list ts) i) x e in
      let path = map_parts (λ Xs. take (binds s) (type_list As) ++ Xs) (option_and_then (λ z. path_types z place) (slice_get (term_list ts) i)) Bs f in
      let new = map_parts (with_child (node s As ts) (suc i)) (option_and_then (λ z. replace_at z place y) (slice_get (term_list ts) i)) after g in
      let q : path_types child.0 place ≡ Some path.0 = sym (ap (option_and_then (λ z. path_types z place)) child.1) ∙ path.1 in
      let r : replace_at child.0 place y ≡ Some new.0 = sym (ap (option_and_then (λ z. replace_at z place y)) child.1) ∙ new.1 in
      let less : suc i - 1 ≡ i = omega arith in
      let is : after ≡ node s As (terms (slice_set (term_list ts) i new.0)) = sym new.2 ∙ ap (λ m. node s As (terms (slice_set (term_list ts) m new.0))) less in
      let k' : Typed env (type_list S.context) (node s As (terms (slice_set (term_list ts) i new.0))) A = transport (λ z. Typed env (type_list S.context) z A) is k in
      let inner : type_list (at_children S s As).context ≡ inside (type_list S.context) s As = type_list-types (inside (type_list S.context) s As) in
      transport (λ z. AreEqual (base env) S A (unfolded env (node s As ts)) (unfolded env z)) (sym is)
      (some_out (profile env s) (λ p v a.
      some_out (profile env s) (λ p' v' a'.
      let pp : p ≡ p' = same_profile p p' v v' in
      let Es = map (type_inst (type_at As)) p.args in
      let E = get_or Es i Prop in
      let old_typed : Typed env (type_list (at_children S s As).context) child.0 E =
      transport (λ D. Typed env D child.0 E) (sym inner)
      (child_typed env (inside (type_list S.context) s As) (term_list ts) Es i child.0 (transport (λ us. AreTyped env (inside (type_list S.context) s As) us Es) (sym (terms-term_list ts)) a.children) child.1) in
      let new_typed : Typed env (type_list (at_children S s As).context) new.0 E =
      transport (λ D. Typed env D new.0 E) (sym inner)
      (child_typed env (inside (type_list S.context) s As) (slice_set (term_list ts) i new.0) Es i new.0
      (transport (λ (z : Profile). AreTyped env (inside (type_list S.context) s As) (terms (slice_set (term_list ts) i new.0)) (map (type_inst (type_at As)) z.args)) (sym pp) a'.children)
      (set_get (term_list ts) i child.0 new.0 child.1)) in
      let proper = proper_list env As a.proper in
      let inner_proper : AreProper env (at_children S s As).context =
      list_proper env (inside (type_list S.context) s As) (all_append (IsProper env) (type_list S.context) (take (binds s) (type_list As)) (proper_list env S.context c) (all_take (IsProper env) (binds s) (type_list As) proper)) in
      let inner_base : IsBaseContext (base env) (at_children S s As) = base_inside S s As b (proper_list (base env) As (types_base As a.proper)) in
      node_equal S c b s As ts i child.0 new.0 E A (body_of (bodies_after [] env) s) refl child.1
      (equal_place place (at_children S s As) child.0 x y new.0 path.0 E B inner_proper inner_base old_typed new_typed child.2 q r
      (transport (Derivable (base env)) (sym (widened_twice S (take (binds s) (type_list As)) path.0 (equation B (unfolded env x) (unfolded env y))))
      (transport (λ Xs. AreEqual (base env) (widened S Xs) B (unfolded env x) (unfolded env y)) (sym path.2) d)))
      h k') k') h)
    where
      same_profile : (p q : Profile) → profile env s ≡ Some p → profile env s ≡ Some q → p ≡ q
      same_profile p q v w = let z : Some p ≡ Some q = sym v ∙ w in cc

      base_inside : (T : Sequent) (s' : Sym) (As' : Tys) → IsBaseContext (base env) T → AllByRecursion (IsProper (base env)) (type_list As') → IsBaseContext (base env) (at_children T s' As')
      base_inside T s' As' v w = children_context (base env) T s' As' v w

      types_base : (As' : Tys) → AreProper env As' → AreProper (base env) As'
      types_base As' v = types_over_base env u As' v
