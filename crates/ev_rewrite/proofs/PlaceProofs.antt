-- The laws of places.
use Rattle.std.proofs.Common.{◌≡◌, ℕ, zero, suc, ◌-◌, List, [], ◌∷◌, ◌++◌, map, Option, Some, None, is_some, option_map, option_and_then, slice_get, slice_set, refl, sym, ap, ◌∙◌, arith, append_assoc, subst as transport}
use Rattle.std.specs.Prelude.{IsSomeAnd}
use Rattle.std.proofs.lemmas.Option.{same_Some, none-some}
use Rattle.std.proofs.lemmas.List.{append-nil}
use Rattle.ev_terms.specs.declared.types.Ty.{Ty}
use Rattle.ev_terms.specs.Term.{Term, Terms, var, lit, node, nil, cons, terms, term_list, terms-term_list, term_list-terms}
use Rattle.ev_terms.specs.Substitution.{type_inst, type_at}
use Rattle.ev_typing.specs.Env.{Env, profile}
use Rattle.ev_typing.specs.Profiles.{Profile}
use Rattle.ev_typing.specs.Typing.{Typed, AreTyped, IsTypedNode, inside}
use Rattle.ev_typing.proofs.Laws.{Typed-unique}
use Rattle.ev_rewrite.specs.Places.{child_at, node_at, bound_types, path_types, with_child, replace_at}
use Rattle.ev_rewrite.specs.PlaceLaws.{PlacesAgree, ReplacedByItself, NewIsThere, NodesAreTyped, ReplacingKeepsTypes}

-- Lists.
set_same : {X : Type 0} (xs : List X) (i : ℕ) (x : X) → slice_get xs i ≡ Some x → slice_set xs i x ≡ xs
set_same [] i x e = refl
set_same (y ∷ ys) zero x e = ap (λ z. z ∷ ys) (sym (same_Some y x e))
set_same (y ∷ ys) (suc i) x e = ap (λ zs. y ∷ zs) (set_same ys i x e)

get_set : {X : Type 0} (xs : List X) (i : ℕ) (x y : X) → slice_get xs i ≡ Some x → slice_get (slice_set xs i y) i ≡ Some y
get_set [] i x y e = absurd (none-some x e)
get_set (z ∷ zs) zero x y e = refl
get_set (z ∷ zs) (suc i) x y e = get_set zs i x y e

one_less : (i : ℕ) → i ≡ suc i - 1
one_less i = omega arith

-- A child in its own place, and another one.
with_same : (t c : Term) (i : ℕ) → child_at t i ≡ Some c → with_child t i c ≡ t
with_same (var j) c zero e = refl
with_same (var j) c (suc i) e = refl
with_same (lit n) c zero e = refl
with_same (lit n) c (suc i) e = refl
with_same (node s As ts) c zero e = absurd (none-some c e)
with_same (node s As ts) c (suc i) e =
    ap (λ k. node s As (terms (slice_set (term_list ts) k c))) (sym (one_less i)) ∙ ap (λ us. node s As (terms us)) (set_same (term_list ts) i c e) ∙ ap (node s As) (terms-term_list ts)

child_there : (t c new : Term) (i : ℕ) → child_at t i ≡ Some c → child_at (with_child t i new) i ≡ Some new
child_there (var j) c new zero e = absurd (none-some c e)
child_there (var j) c new (suc i) e = absurd (none-some c e)
child_there (lit n) c new zero e = absurd (none-some c e)
child_there (lit n) c new (suc i) e = absurd (none-some c e)
child_there (node s As ts) c new zero e = absurd (none-some c e)
child_there (node s As ts) c new (suc i) e =
    ap (λ us. slice_get us i) (term_list-terms (slice_set (term_list ts) (suc i - 1) new)) ∙ ap (λ k. slice_get (slice_set (term_list ts) k new) i) (sym (one_less i))
    ∙ get_set (term_list ts) i c new e

same_bound : (t new : Term) (i : ℕ) → bound_types (with_child t i new) ≡ bound_types t
same_bound (var j) new i = refl
same_bound (lit n) new i = refl
same_bound (node s As ts) new i = refl

-- The three calls have the same places.
some_map : {X Y : Type 0} (f : X → Y) (o : Option X) → is_some (option_map f o) ≡ is_some o
some_map f None = refl
some_map f (Some x) = refl

path_step : (t : Term) (place : List ℕ) → ((c : Term) → is_some (path_types c place) ≡ is_some (node_at c place)) → (o : Option Term) →
    is_some (option_map (λ As. bound_types t ++ As) (option_and_then (λ c. path_types c place) o)) ≡ is_some (option_and_then (λ c. node_at c place) o)
path_step t place h None = refl
path_step t place h (Some c) = some_map (λ As. bound_types t ++ As) (path_types c place) ∙ h c

path_there : (t : Term) (place : List ℕ) → is_some (path_types t place) ≡ is_some (node_at t place)
path_there t [] = refl
path_there t (i ∷ place) = path_step t place (λ c. path_there c place) (child_at t i)

replace_step : (t new : Term) (i : ℕ) (place : List ℕ) → ((c : Term) → is_some (replace_at c place new) ≡ is_some (node_at c place)) → (o : Option Term) →
    is_some (option_map (with_child t i) (option_and_then (λ c. replace_at c place new) o)) ≡ is_some (option_and_then (λ c. node_at c place) o)
replace_step t new i place h None = refl
replace_step t new i place h (Some c) = some_map (with_child t i) (replace_at c place new) ∙ h c

replace_there : (t new : Term) (place : List ℕ) → is_some (replace_at t place new) ≡ is_some (node_at t place)
replace_there t new [] = refl
replace_there t new (i ∷ place) = replace_step t new i place (λ c. replace_there c new place) (child_at t i)

pub places_agree : PlacesAgree
places_agree t new place = (path_there t place, replace_there t new place)

-- A node in its own place.
itself_step : (t u : Term) (i : ℕ) (place : List ℕ) → ((c : Term) → node_at c place ≡ Some u → replace_at c place u ≡ Some c) → (o : Option Term) → child_at t i ≡ o →
    option_and_then (λ c. node_at c place) o ≡ Some u → option_map (with_child t i) (option_and_then (λ c. replace_at c place u) o) ≡ Some t
itself_step t u i place h None p e = absurd (none-some u e)
itself_step t u i place h (Some c) p e = ap (option_map (with_child t i)) (h c e) ∙ ap Some (with_same t c i p)

pub replaced_by_itself : ReplacedByItself
replaced_by_itself t u [] e = sym e
replaced_by_itself t u (i ∷ place) e = itself_step t u i place (λ c. replaced_by_itself c u place) (child_at t i) refl e

-- What a replacement is made of.
record IsMade (t t' new : Term) (i : ℕ) (place : List ℕ) : Type 0 where
  child : Term
  changed : Term
  child_is : child_at t i ≡ Some child
  changed_is : replace_at child place new ≡ Some changed
  whole_is : with_child t i changed ≡ t'

made_of : (t t' new : Term) (i : ℕ) (place : List ℕ) → replace_at t (i ∷ place) new ≡ Some t' → IsMade t t' new i place
made_of t t' new i place e = by (child_at t i) refl e
  where
    inner : (c : Term) → child_at t i ≡ Some c → (r : Option Term) → replace_at c place new ≡ r → option_map (with_child t i) r ≡ Some t' → IsMade t t' new i place
    inner c p None q h = absurd (none-some t' h)
    inner c p (Some c') q h = record { child = c; changed = c'; child_is = p; changed_is = q; whole_is = same_Some (with_child t i c') t' h }

    by : (o : Option Term) → child_at t i ≡ o → option_map (with_child t i) (option_and_then (λ c. replace_at c place new) o) ≡ Some t' → IsMade t t' new i place
    by None p h = absurd (none-some t' h)
    by (Some c) p h = inner c p (replace_at c place new) refl h

there_step : (t t' new : Term) (i : ℕ) (place : List ℕ) →
    ((c c' : Term) → replace_at c place new ≡ Some c' → (node_at c' place ≡ Some new) × (path_types c' place ≡ path_types c place)) →
    IsMade t t' new i place → (node_at t' (i ∷ place) ≡ Some new) × (path_types t' (i ∷ place) ≡ path_types t (i ∷ place))
there_step t t' new i place h m =
    let there : child_at t' i ≡ Some m.changed = ap (λ u. child_at u i) (sym m.whole_is) ∙ child_there t m.child m.changed i m.child_is in
    let bound : bound_types t' ≡ bound_types t = ap bound_types (sym m.whole_is) ∙ same_bound t m.changed i in
    let g : (node_at m.changed place ≡ Some new) × (path_types m.changed place ≡ path_types m.child place) = h m.child m.changed m.changed_is in (
      ap (option_and_then (λ c. node_at c place)) there ∙ g.0,
      ap (λ o. option_map (λ As. bound_types t' ++ As) (option_and_then (λ c. path_types c place) o)) there
          ∙ ap (λ Bs. option_map (λ As. Bs ++ As) (path_types m.changed place)) bound ∙ ap (option_map (λ As. bound_types t ++ As)) g.1
          ∙ sym (ap (λ o. option_map (λ As. bound_types t ++ As) (option_and_then (λ c. path_types c place) o)) m.child_is),
    )

pub new_is_there : NewIsThere
new_is_there t t' new [] e = (sym e, refl)
new_is_there t t' new (i ∷ place) e = there_step t t' new i place (λ c c'. new_is_there c c' new place) (made_of t t' new i place e)

-- Typing. A child of typed children is typed, and another one of its type may stand there.
record IsTypedAt (env : Env) (D : List Ty) (c : Term) (Whole : Term → Type 0) : Type 0 where
  its_type : Ty
  typed : Typed env D c its_type
  replaced : (c' : Term) → Typed env D c' its_type → Whole c'

one_of : (env : Env) (D : List Ty) (ts : Terms) (Bs : List Ty) (i : ℕ) (c : Term) → AreTyped env D ts Bs → slice_get (term_list ts) i ≡ Some c →
    IsTypedAt env D c (λ c'. AreTyped env D (terms (slice_set (term_list ts) i c')) Bs)
one_of env D nil Bs i c h e = absurd (none-some c e)
one_of env D (cons t ts) [] i c h e = absurd h
one_of env D (cons t ts) (B ∷ Bs) zero c h e = record {
  its_type = B;
  typed = transport (λ u. Typed env D u B) (same_Some t c e) h.0;
  replaced = λ c' k. (k, transport (λ us. AreTyped env D us Bs) (sym (terms-term_list ts)) h.1);
}
one_of env D (cons t ts) (B ∷ Bs) (suc i) c h e =
    let r : IsTypedAt env D c (λ c'. AreTyped env D (terms (slice_set (term_list ts) i c')) Bs) = one_of env D ts Bs i c h.1 e in
    record { its_type = r.its_type; typed = r.typed; replaced = λ c' k. (h.0, r.replaced c' k) }

child_typed : (env : Env) (C : List Ty) (t : Term) (A : Ty) (i : ℕ) (c : Term) → Typed env C t A → child_at t i ≡ Some c →
    IsTypedAt env (C ++ bound_types t) c (λ c'. Typed env C (with_child t i c') A)
child_typed env C (var j) A zero c h e = absurd (none-some c e)
child_typed env C (var j) A (suc i) c h e = absurd (none-some c e)
child_typed env C (lit n) A zero c h e = absurd (none-some c e)
child_typed env C (lit n) A (suc i) c h e = absurd (none-some c e)
child_typed env C (node s As ts) A zero c h e = absurd (none-some c e)
child_typed env C (node s As ts) A (suc i) c h e = over (profile env s) h
  where
    over : (o : Option Profile) → IsSomeAnd o (λ p. IsTypedNode env As p A (AreTyped env (inside C s As) ts (map (type_inst (type_at As)) p.args))) →
        IsTypedAt env (C ++ bound_types (node s As ts)) c
        (λ c'. IsSomeAnd o (λ p. IsTypedNode env As p A (AreTyped env (inside C s As) (terms (slice_set (term_list ts) (suc i - 1) c')) (map (type_inst (type_at As)) p.args))))
    over None k = absurd k
    over (Some p) k =
        let r : IsTypedAt env (inside C s As) c (λ c'. AreTyped env (inside C s As) (terms (slice_set (term_list ts) i c')) (map (type_inst (type_at As)) p.args)) =
        one_of env (inside C s As) ts (map (type_inst (type_at As)) p.args) i c k.children e in
        record {
          its_type = r.its_type;
          typed = r.typed;
          replaced = λ c' l. record {
            count = k.count;
            proper = k.proper;
            children = transport (λ n. AreTyped env (inside C s As) (terms (slice_set (term_list ts) n c')) (map (type_inst (type_at As)) p.args)) (one_less i) (r.replaced c' l);
            result = k.result;
          };
        }

-- A place, by its first child.
record IsBelow (t u : Term) (i : ℕ) (place : List ℕ) (Bs : List Ty) : Type 0 where
  child : Term
  inner : List Ty
  child_is : child_at t i ≡ Some child
  node_is : node_at child place ≡ Some u
  path_is : path_types child place ≡ Some inner
  whole_is : bound_types t ++ inner ≡ Bs

below_of : (t u : Term) (i : ℕ) (place : List ℕ) (Bs : List Ty) → node_at t (i ∷ place) ≡ Some u → path_types t (i ∷ place) ≡ Some Bs → IsBelow t u i place Bs
below_of t u i place Bs e f = by (child_at t i) refl e f
  where
    paths : (c : Term) → child_at t i ≡ Some c → node_at c place ≡ Some u → (r : Option (List Ty)) → path_types c place ≡ r → option_map (λ As. bound_types t ++ As) r ≡ Some Bs →
        IsBelow t u i place Bs
    paths c p n None q h = absurd (none-some Bs h)
    paths c p n (Some Cs) q h = record { child = c; inner = Cs; child_is = p; node_is = n; path_is = q; whole_is = same_Some (bound_types t ++ Cs) Bs h }

    by : (o : Option Term) → child_at t i ≡ o → option_and_then (λ c. node_at c place) o ≡ Some u →
        option_map (λ As. bound_types t ++ As) (option_and_then (λ c. path_types c place) o) ≡ Some Bs → IsBelow t u i place Bs
    by None p n h = absurd (none-some u n)
    by (Some c) p n h = paths c p n (path_types c place) refl h

abbrev Replaces : Env → List Ty → Term → Ty → List ℕ → Term → Type 0
Replaces env C t A place new = (t' : Term) → replace_at t place new ≡ Some t' → Typed env C t' A

place_step : (env : Env) (C : List Ty) (t u : Term) (A : Ty) (i : ℕ) (place : List ℕ) (Bs : List Ty) → Typed env C t A → (b : IsBelow t u i place Bs) →
    ((B : Ty) → Typed env (C ++ bound_types t) b.child B → IsTypedAt env ((C ++ bound_types t) ++ b.inner) u (Replaces env (C ++ bound_types t) b.child B place)) →
    IsTypedAt env (C ++ Bs) u (Replaces env C t A (i ∷ place))
place_step env C t u A i place Bs h b k =
    let r : IsTypedAt env (C ++ bound_types t) b.child (λ c'. Typed env C (with_child t i c') A) = child_typed env C t A i b.child h b.child_is in
    let g : IsTypedAt env ((C ++ bound_types t) ++ b.inner) u (Replaces env (C ++ bound_types t) b.child r.its_type place) = k r.its_type r.typed in
    let joined : (C ++ bound_types t) ++ b.inner ≡ C ++ Bs = append_assoc C (bound_types t) b.inner ∙ ap (λ As. C ++ As) b.whole_is in
    record {
      its_type = g.its_type;
      typed = transport (λ D. Typed env D u g.its_type) joined g.typed;
      replaced = λ new l t' e.
          let m : IsMade t t' new i place = made_of t t' new i place e in
          let same : m.child ≡ b.child = same_Some m.child b.child (sym m.child_is ∙ b.child_is) in
          transport (λ v. Typed env C v A) m.whole_is
          (r.replaced m.changed (g.replaced new (transport (λ D. Typed env D new g.its_type) (sym joined) l) m.changed (sym (ap (λ c. replace_at c place new) same) ∙ m.changed_is)));
    }

at_place : (place : List ℕ) (env : Env) (C : List Ty) (t u : Term) (A : Ty) (Bs : List Ty) → Typed env C t A → node_at t place ≡ Some u → path_types t place ≡ Some Bs →
    IsTypedAt env (C ++ Bs) u (Replaces env C t A place)
at_place [] env C t u A Bs h e f =
    let same : C ≡ C ++ Bs = sym (append-nil C) ∙ ap (λ As. C ++ As) (same_Some [] Bs f) in
    record {
      its_type = A;
      typed = transport (λ D. Typed env D u A) same (transport (λ v. Typed env C v A) (same_Some t u e) h);
      replaced = λ new l t' k. transport (λ v. Typed env C v A) (same_Some new t' k) (transport (λ D. Typed env D new A) (sym same) l);
    }
at_place (i ∷ place) env C t u A Bs h e f =
    let b : IsBelow t u i place Bs = below_of t u i place Bs e f in
    place_step env C t u A i place Bs h b (λ B k. at_place place env (C ++ bound_types t) b.child u B b.inner k b.node_is b.path_is)

pub nodes_are_typed : NodesAreTyped
nodes_are_typed env C Bs t u A place h e f = let r : IsTypedAt env (C ++ Bs) u (Replaces env C t A place) = at_place place env C t u A Bs h e f in (r.its_type, r.typed)

pub replacing_keeps_types : ReplacingKeepsTypes
replacing_keeps_types env C Bs t t' u new A B place h e f k l m =
    let r : IsTypedAt env (C ++ Bs) u (Replaces env C t A place) = at_place place env C t u A Bs h e f in
    r.replaced new (transport (λ X. Typed env (C ++ Bs) new X) (Typed-unique env (C ++ Bs) u B r.its_type k r.typed) l) t' m
