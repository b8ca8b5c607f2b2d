-- A typed term that fits the bare term of a raw tree is a reading of the tree.
use Rattle.std.specs.Prelude.{◌≡◌, ◌⊎◌, ℕ, suc, ◌+◌, ◌==◌, Bool as Boolean, true, false, List, [], ◌∷◌, ◌++◌, map, length, Option, Some, None, option_map, option_and_then, MatchBool, if◌then◌else◌, refl}
use Rattle.std.proofs.Common.{ap, sym, ◌∙◌, arith, inl, inr, subst as transport}
use Rattle.std.proofs.lemmas.Bool.{eqb-true}
use Rattle.ev_terms.specs.declared.types.Ty.{Ty, Int, Bool, Param}
use Rattle.ev_terms.specs.declared.types.Tys.{Tys, Empty}
use Rattle.ev_terms.specs.declared.types.Sym.{Sym}
use Rattle.ev_terms.specs.declared.types.Sym.TheVariants.{User}
use Rattle.ev_terms.specs.Term.{Term, Terms, var, node, nil, cons}
use Rattle.ev_terms.specs.Symbols.{binds}
use Rattle.ev_syntax.specs.Marks.{int_word, bool_set_word, open_brace, union_over_word}
use Rattle.ev_syntax.specs.Raw.{RawType, Binder, Pattern, bound, pair, pattern_binders, Raw, Raws, word, literal, param, type_set, call, around, unary, binary, inverse, apply, image, of_type, quantified, set_of, collected, lambda, members, written, none, one}
use Rattle.ev_forms.specs.Base as base
use Rattle.ev_forms.specs.Base.{at_type, leaf, with_one, with_two}
use Rattle.ev_typing.specs.Env.{Env}
use Rattle.ev_typing.specs.Typing.{IsProper, var_type, Typed}
use Rattle.ev_typing.specs.Proper.{HasProperSignatures}
use Rattle.ev_typing.proofs.Proper.{result_from_proper}
use Rattle.ev_resolve.specs.Reading.{Known, Variable, context_type, context_of, Meaning, variable, predicate, parameter, symbol, nothing, meaning, type_of_raw, IsWritten, both, Plain, infix_symbols, prefix_symbols, around_symbols, word_symbols, entry_of, and_not, IsPlain, two_terms, swaps, quantifier, binder_of, unnamed, IsApplication, IsCall, count_of, IsCollected, is_z, Binds, IsPattern, Gives, GivesAll, GivesMembers}
use Rattle.ev_resolve.specs.Bare.{Bare, Bares, bare_var, bare_node, bare_of, bare_none, bare_more, IsGiven, Fits, FitAll}
use Rattle.ev_resolve.specs.Resolve.{bare_one, bare_two, bare_leaf, type_bare, bare_and_not, plain_bare, two_bares, word_bare, application_bare, call_bare, bare_z, collected_bare, forget, written_type, bind_all, pattern_bare, resolve, resolve_all, resolve_members}
use Rattle.ev_infer.proofs.Sound.{and_then_gives, map_gives, if_gives, some_gives}
use Rattle.ev_infer.proofs.Nodes.{HasSome, EachTyped, plain_each, no_types, node_fit, IsBinder, BinderFit, binder_fit, for_some_binder, set_binder, quantifier_binder, BindNone, infix_plain, prefix_plain, around_plain, word_plain, binds_not, binds_and, binds_or, binds_equal, binds_maps_to, binds_type, binds_empty, binds_true_value, binds_apply, binds_image, binds_inverse, binds_user, binds_over, context_more, var_type_last, var_type_before, equal_types}
use Rattle.ev_infer.proofs.ToBare.{AreGood, context_bound, meaning_forget, forget_proper}

pub both_gives : {X Y Z : Type 0} (f : X → Y → Z) (o : Option X) (p : Option Y) (z : Z) → both f o p ≡ Some z → (x : X) × (y : Y) × (o ≡ Some x) × (p ≡ Some y) × (z ≡ f x y)
both_gives f None p z e = cc
both_gives f (Some x) None z e = cc
both_gives f (Some x) (Some y) z e = (x, y, refl, refl, cc)

if_cases : {X : Type 0} (b : Boolean) (o p : Option X) (x : X) → (if b then o else p) ≡ Some x → (b ≡ true) × (o ≡ Some x) ⊎ (b ≡ false) × (p ≡ Some x)
if_cases true o p x e = inl (refl, e)
if_cases false o p x e = inr (refl, e)

-- the parts of a bare node over none, one or two in the same context
record OneFit (env : Env) (s : Sym) (w : Option Ty) (b : Bare) (C : List Ty) (t : Term) : Type 0 where
  types : Tys
  child : Term
  given : IsGiven w types
  fits : Fits env b C child
  typed : HasSome env C child
  whole : t ≡ with_one s types child

one_parts : (env : Env) (s : Sym) (w : Option Ty) (b : Bare) (C : List Ty) (t : Term) → binds s ≡ 0 → Fits env (bare_one s w b) C t → HasSome env C t → OneFit env s w b C t
one_parts env s w b C t i f h =
    let n = node_fit env s w (bare_more b bare_none) C t i f in
    let (u, us, fu, r, q) = n.fits in
    let e : t ≡ with_one s n.types u = n.whole ∙ ap (node s n.types) (q ∙ ap (cons u) r) in
    record { types = n.types; child = u; given = n.given; fits = fu; typed = (plain_each env C s n.types (cons u nil) i (transport (HasSome env C) e h)).0; whole = e }

record TwoFit (env : Env) (s : Sym) (w : Option Ty) (b c : Bare) (C : List Ty) (t : Term) : Type 0 where
  types : Tys
  first : Term
  second : Term
  given : IsGiven w types
  fits_first : Fits env b C first
  fits_second : Fits env c C second
  typed_first : HasSome env C first
  typed_second : HasSome env C second
  whole : t ≡ with_two s types first second

two_parts : (env : Env) (s : Sym) (w : Option Ty) (b c : Bare) (C : List Ty) (t : Term) → binds s ≡ 0 → Fits env (bare_two s w b c) C t → HasSome env C t → TwoFit env s w b c C t
two_parts env s w b c C t i f h =
    let n = node_fit env s w (bare_more b (bare_more c bare_none)) C t i f in
    let (u, us, fu, (v, vs, fv, r, q'), q) = n.fits in
    let e : t ≡ with_two s n.types u v = n.whole ∙ ap (node s n.types) (q ∙ ap (cons u) (q' ∙ ap (cons v) r)) in
    let each = plain_each env C s n.types (cons u (cons v nil)) i (transport (HasSome env C) e h) in
    record { types = n.types; first = u; second = v; given = n.given; fits_first = fu; fits_second = fv; typed_first = each.0; typed_second = each.1.0; whole = e }

leaf_parts : (env : Env) (s : Sym) (w : Option Ty) (C : List Ty) (t : Term) → binds s ≡ 0 → Fits env (bare_leaf s w) C t → (types : Tys) × IsGiven w types × (t ≡ leaf s types)
leaf_parts env s w C t i f =
    let n = node_fit env s w bare_none C t i f in
    (n.types, n.given, n.whole ∙ ap (node s n.types) n.fits)

type_parts : (env : Env) (C : List Ty) (a : Ty) (t : Term) → Fits env (type_bare a) C t → t ≡ leaf base.type_sym (at_type a)
type_parts env C a t f =
    let (types, g, e) = leaf_parts env base.type_sym (Some a) C t binds_type f in
    e ∙ ap (leaf base.type_sym) g

-- base symbols without parameters
not_empty : (env : Env) (C : List Ty) (As : Tys) (ts : Terms) → HasSome env C (node base.not_sym As ts) → As ≡ Empty
not_empty env C As ts (A, h) = no_types As h.count

and_empty : (env : Env) (C : List Ty) (As : Tys) (ts : Terms) → HasSome env C (node base.and_sym As ts) → As ≡ Empty
and_empty env C As ts (A, h) = no_types As h.count

or_empty : (env : Env) (C : List Ty) (As : Tys) (ts : Terms) → HasSome env C (node base.or_sym As ts) → As ≡ Empty
or_empty env C As ts (A, h) = no_types As h.count

true_value_empty : (env : Env) (C : List Ty) (As : Tys) (ts : Terms) → HasSome env C (node base.true_value_sym As ts) → As ≡ Empty
true_value_empty env C As ts (A, h) = no_types As h.count

-- symbols of the tables
not_parts : (env : Env) (n : Boolean) (b : Bare) (C : List Ty) (t : Term) → Fits env (bare_and_not n b) C t → HasSome env C t → (u : Term) × Fits env b C u × HasSome env C u × (t ≡ and_not n u)
not_parts env false b C t f h = (t, f, h, refl)
not_parts env true b C t f h =
    let p = one_parts env base.not_sym None b C t binds_not f h in
    (p.child, p.fits, p.typed, p.whole ∙ ap (λ As. with_one base.not_sym As p.child) (not_empty env C p.types (cons p.child nil) (transport (HasSome env C) p.whole h)))

from_plain : (env : Env) (o : Option Plain) (bs : Bares) (C : List Ty) (b : Bare) (t : Term) → BindNone o → plain_bare o bs ≡ Some b → Fits env b C t → HasSome env C t
    → (ts : Terms) × FitAll env bs C ts × EachTyped env C ts × IsPlain o ts t
from_plain env None bs C b t i e f h = cc
from_plain env (Some x) bs C b t i e f h =
    let f' = transport (λ c. Fits env c C t) (some_gives _ _ e) f in
    let (u, fu, hu, q) = not_parts env x.negated (bare_node x.sym None bs) C t f' h in
    let n = node_fit env x.sym None bs C u (i x refl) fu in
    (n.children, n.fits, plain_each env C x.sym n.types n.children (i x refl) (transport (HasSome env C) n.whole hu), (n.types, q ∙ ap (and_not x.negated) n.whole))

from_word : (env : Env) (o : Option Plain) (m : ℕ) (C : List Ty) (b : Bare) (t : Term) → BindNone o → word_bare o m ≡ Some b → Fits env b C t → HasSome env C t
    → IsPlain o nil t ⊎ ((m ≡ int_word) × (t ≡ leaf base.type_sym (at_type Int))) ⊎ ((m ≡ bool_set_word) × (t ≡ leaf base.type_sym (at_type Bool)))
from_word env (Some x) m C b t i e f h =
    let (ts, fs, hs, p) = from_plain env (Some x) bare_none C b t i e f h in
    inl (transport (λ us. IsPlain (Some x) us t) fs p)
from_word env None m C b t i e f h = go (if_cases (m == int_word) _ _ b e)
  where
    go : ((m == int_word) ≡ true) × (Some (type_bare Int) ≡ Some b) ⊎ ((m == int_word) ≡ false) × ((if m == bool_set_word then Some (type_bare Bool) else None) ≡ Some b)
        → ⊥ ⊎ ((m ≡ int_word) × (t ≡ leaf base.type_sym (at_type Int))) ⊎ ((m ≡ bool_set_word) × (t ≡ leaf base.type_sym (at_type Bool)))
    go (inl (q, r)) = inr (inl (eqb-true m int_word q, type_parts env C Int t (transport (λ c. Fits env c C t) (some_gives _ _ r) f)))
    go (inr (q, r)) =
        let s = if_gives (m == bool_set_word) _ b r in
        inr (inr (eqb-true m bool_set_word s.0, type_parts env C Bool t (transport (λ c. Fits env c C t) (some_gives _ _ s.1) f)))

-- names
from_application : (env : Env) (C : List Ty) (b : Bare) (bs : Bares) (t : Term) → Fits env (application_bare b bs) C t → HasSome env C t
    → (f : Term) × (ts : Terms) × Fits env b C f × FitAll env bs C ts × EachTyped env C ts × IsApplication f ts t
from_application env C b bs t k h =
    let n = node_fit env base.apply_sym None (bare_more b bs) C t binds_apply k in
    let (f, ts, ff, fs, q) = n.fits in
    let e : t ≡ node base.apply_sym n.types (cons f ts) = n.whole ∙ ap (node base.apply_sym n.types) q in
    (f, ts, ff, fs, (plain_each env C base.apply_sym n.types (cons f ts) binds_apply (transport (HasSome env C) e h)).1, (n.types, e))

-- the arguments, and what the call is
abbrev pub Called : Env → Meaning → List ℕ → ℕ → Bares → List Ty → Term → Type 0
Called env m n count bs C t = (ts : Terms) × FitAll env bs C ts × EachTyped env C ts × IsCall m n count ts t

from_call : (env : Env) (m : Meaning) (n : List ℕ) (count : ℕ) (bs : Bares) (C : List Ty) (b : Bare) (t : Term) → (count ≡ 0 → bs ≡ bare_none) → call_bare m n count bs ≡ Some b → Fits env b C t → HasSome env C t
    → Called env m n count bs C t
from_call env (variable i) n count bs C b t z e f h = go (if_cases (count == 0) _ _ b e)
  where
    go : ((count == 0) ≡ true) × (Some (bare_var i) ≡ Some b) ⊎ ((count == 0) ≡ false) × ((if count == 1 then Some (application_bare (bare_var i) bs) else None) ≡ Some b) → Called env (variable i) n count bs C t
    go (inl (q, r)) =
        let c = eqb-true count 0 q in
        (nil, transport (λ cs. FitAll env cs C nil) (sym (z c)) refl, tt, inl (c, transport (λ c. Fits env c C t) (some_gives _ _ r) f))
    go (inr (q, r)) =
        let s = if_gives (count == 1) _ b r in
        let (g, ts, fg, fs, hs, a) = from_application env C (bare_var i) bs t (transport (λ c. Fits env c C t) (some_gives _ _ s.1) f) h in
        (ts, fs, hs, inr (eqb-true count 1 s.0, transport (λ x. IsApplication x ts t) fg a))
from_call env (predicate i) n count bs C b t z e f h =
    let s = if_gives (count == 0) _ b e in
    let c = eqb-true count 0 s.0 in
    let p = two_parts env base.equal_sym (Some Bool) (bare_var i) (bare_leaf base.true_value_sym None) C t binds_equal (transport (λ x. Fits env x C t) (some_gives _ _ s.1) f) h in
    let (types, g, q) = leaf_parts env base.true_value_sym None C p.second binds_true_value p.fits_second in
    let q' : p.second ≡ leaf base.true_value_sym Empty = q ∙ ap (leaf base.true_value_sym) (true_value_empty env C types nil (transport (HasSome env C) q p.typed_second)) in (
      nil,
      transport (λ cs. FitAll env cs C nil) (sym (z c)) refl,
      tt,
      (c, p.whole ∙ ap (λ As. with_two base.equal_sym As p.first p.second) p.given ∙ ap (λ x. with_two base.equal_sym (at_type Bool) x p.second) p.fits_first ∙ ap (λ x. with_two base.equal_sym (at_type Bool) (var i) x) q'),
    )
from_call env (parameter i) n count bs C b t z e f h =
    let s = if_gives (count == 0) _ b e in
    let c = eqb-true count 0 s.0 in
    (nil, transport (λ cs. FitAll env cs C nil) (sym (z c)) refl, tt, (c, type_parts env C (Param i) t (transport (λ x. Fits env x C t) (some_gives _ _ s.1) f)))
from_call env (symbol k) n count bs C b t z e f h = go (if_cases (count == k) _ _ b e)
  where
    go : ((count == k) ≡ true) × (Some (bare_node (User n) None bs) ≡ Some b) ⊎ ((count == k) ≡ false) × ((if k == 0 then (if count == 1 then Some (application_bare (bare_leaf (User n) None) bs) else None) else None) ≡ Some b)
        → Called env (symbol k) n count bs C t
    go (inl (q, r)) =
        let p = node_fit env (User n) None bs C t (binds_user n) (transport (λ x. Fits env x C t) (some_gives _ _ r) f) in
        (p.children, p.fits, plain_each env C (User n) p.types p.children (binds_user n) (transport (HasSome env C) p.whole h), inl (eqb-true count k q, p.types, p.whole))
    go (inr (q, r)) =
        let s = if_gives (k == 0) _ b r in
        let u = if_gives (count == 1) _ b s.1 in
        let (g, ts, fg, fs, hs, a) = from_application env C (bare_leaf (User n) None) bs t (transport (λ c. Fits env c C t) (some_gives _ _ u.1) f) h in
        let (types, gt, eg) = leaf_parts env (User n) None C g (binds_user n) fg in
        (ts, fs, hs, inr (eqb-true k 0 s.0, eqb-true count 1 u.0, types, transport (λ x. IsApplication x ts t) eg a))
from_call env nothing n count bs C b t z e f h = cc

-- the first of them is among the context's variables n places further out
abbrev pub IsUnder : List Variable → List Variable → ℕ → Type 0
IsUnder vars vs n = (i : ℕ) → var_type (context_of vs) (i + n) ≡ var_type (context_of vars) i

under_none : (vars : List Variable) → IsUnder vars vars 0
under_none vars i = let z : i + 0 ≡ i = omega arith in ap (var_type (context_of vars)) z

under_more : (v : Variable) (vars vs : List Variable) (n : ℕ) → IsUnder (v ∷ vars) vs n → IsUnder vars vs (suc n)
under_more v vars vs n h i =
    let z : i + suc n ≡ suc i + n = omega arith in
    ap (var_type (context_of vs)) z ∙ h (suc i) ∙ ap (λ C. var_type C (suc i)) (context_more v vars) ∙ var_type_before (context_of vars) (context_type v.type) i

under_type : (a : Ty) (env : Env) (vars vs : List Variable) (n : ℕ) → IsProper env a → IsUnder (unnamed a ∷ vars) vs n → var_type (context_of vs) n ≡ Some a
under_type a env vars vs n p h =
    let z : n ≡ 0 + n = omega arith in
    ap (var_type (context_of vs)) z ∙ h 0 ∙ ap (λ C. var_type C 0) (context_bound env (unnamed a) vars p) ∙ var_type_last (context_of vars) a

module _ (env : Env) (signatures : HasProperSignatures env) (params : List (List ℕ)) (known : Known) where
  abbrev G : Raw → List Variable → Term → Type 0
  G = Gives params known (Typed env)

  abbrev pub StepFrom : (List Variable → Term → Type 0) → (List Variable → Option Bare) → Type 0
  StepFrom P P' = (vs : List Variable) (u : Term) (b : Bare) → AreGood env vs → P' (map forget vs) ≡ Some b → Fits env b (context_of vs) u → HasSome env (context_of vs) u → P vs u

  abbrev StepUnder : List Variable → ℕ → (List Variable → Term → Type 0) → (List Variable → Option Bare) → Type 0
  StepUnder vars n P P' = (vs : List Variable) (u : Term) (b : Bare) → IsUnder vars vs n → AreGood env vs → P' (map forget vs) ≡ Some b → Fits env b (context_of vs) u → HasSome env (context_of vs) u → P vs u

  written_from : (o : Option RawType) (a : Ty) (w : Option Ty) → written_type params known o ≡ Some w → IsGiven w (at_type a) → IsWritten params known o a
  written_from None a w e g = tt
  written_from (Some r) a w e g =
      let (c, ec, q) = map_gives Some (type_of_raw params known r) w e in
      let g' : at_type a ≡ at_type c = transport (λ x. IsGiven x (at_type a)) q g in
      let same : a ≡ c = ap first g' in
      ec ∙ ap Some (sym same)
    where
      first : Tys → Ty
      first Empty = Int
      first (Rattle.ev_terms.specs.Types.more x xs) = x

  from_binds : (s : Sym) → IsBinder env s → (bs : List Binder) (P : List Variable → Term → Type 0) (P' : List Variable → Option Bare) (vars : List Variable) (t : Term) (b : Bare) → StepUnder vars (length bs) P P'
      → AreGood env vars → bind_all params known s bs P' (map forget vars) ≡ Some b → Fits env b (context_of vars) t → HasSome env (context_of vars) t → Binds params known (Typed env) s bs P vars t
  from_binds s i [] P P' vars t b step g e f h = step vars t b (under_none vars) g e f h
  from_binds s i (x ∷ bs) P P' vars t b step g e f h =
      let (w, v, ew, ev, q) = both_gives (bare_one s) _ _ b e in
      let p = binder_fit env s w v (context_of vars) t i (transport (λ c. Fits env c (context_of vars) t) q f) h in
      let a = p.type in
      let C : context_of (binder_of x a ∷ vars) ≡ context_of vars ++ a ∷ [] = context_bound env (binder_of x a) vars p.proper in (
        a,
        p.child,
        written_from x.type a w ew p.given,
        from_binds s i bs P P' (binder_of x a ∷ vars) p.child v (λ vs u c l. step vs u c (under_more (binder_of x a) vars vs (length bs) l)) (result_from_proper env a p.proper, g)
            (ap (λ y. bind_all params known s bs P' (binder_of x y ∷ map forget vars)) (forget_proper env a p.proper) ∙ ev)
            (transport (λ D. Fits env v D p.child) (sym C) p.fits) (transport (λ D. HasSome env D p.child) (sym C) p.typed),
        p.whole,
      )

  from_collected : (n : ℕ) (a : Ty) (P E : List Variable → Term → Type 0) (P' E' : List Variable → Option Bare) → StepFrom P P' → StepFrom E E' → (vs : List Variable) (u : Term) (b : Bare) → var_type (context_of vs) n ≡ Some a
      → AreGood env vs → both (collected_bare n) (P' (map forget vs)) (E' (map forget vs)) ≡ Some b → Fits env b (context_of vs) u → HasSome env (context_of vs) u → IsCollected P E a n vs u
  from_collected n a P E P' E' p q vs u b l g e f h =
      let C = context_of vs in
      let (x, y, ex, ey, eb) = both_gives (collected_bare n) _ _ b e in
      let k = two_parts env base.and_sym None x (bare_two base.equal_sym None (bare_var n) y) C u binds_and (transport (λ c. Fits env c C u) eb f) h in
      let m = two_parts env base.equal_sym None (bare_var n) y C k.second binds_equal k.fits_second k.typed_second in
      let (c, ec, tx, ty) = equal_types env C m.types m.first m.second (transport (HasSome env C) m.whole k.typed_second) in
      let at : var_type C n ≡ Some c = transport (λ v. Typed env C v c) m.fits_first tx in
      let same : c ≡ a = some_gives a c (sym l ∙ at) in
      let z : k.second ≡ with_two base.equal_sym (at_type a) (var n) m.second =
      m.whole ∙ ap (λ As. with_two base.equal_sym As m.first m.second) (ec ∙ ap at_type same) ∙ ap (λ v. with_two base.equal_sym (at_type a) v m.second) m.fits_first in
      record {
        condition = k.first;
        value = m.second;
        is_condition = p vs k.first x g ex k.fits_first k.typed_first;
        is_value = q vs m.second y g ey m.fits_second m.typed_second;
        whole = k.whole ∙ ap (λ As. with_two base.and_sym As k.first k.second) (and_empty env C k.types (cons k.first (cons k.second nil)) (transport (HasSome env C) k.whole h)) ∙ ap (with_two base.and_sym Empty k.first) z;
      }

  from_set : (P : Ty → List Variable → Term → Type 0) (P' : List Variable → Option Bare) (vars : List Variable) (t : Term) (b : Bare)
      → ((a : Ty) (u : Term) (v : Bare) → IsProper env a → AreGood env (unnamed a ∷ vars) → P' (map forget (unnamed a ∷ vars)) ≡ Some v → Fits env v (context_of (unnamed a ∷ vars)) u → HasSome env (context_of (unnamed a ∷ vars)) u → P a (unnamed a ∷ vars) u)
      → AreGood env vars → option_map (bare_one base.set_sym None) (P' (unnamed Int ∷ map forget vars)) ≡ Some b → Fits env b (context_of vars) t → HasSome env (context_of vars) t
      → (a : Ty) × (u : Term) × P a (unnamed a ∷ vars) u × (t ≡ with_one base.set_sym (at_type a) u)
  from_set P P' vars t b step g e f h =
      let (v, ev, q) = map_gives (bare_one base.set_sym None) _ b e in
      let p = binder_fit env base.set_sym None v (context_of vars) t (set_binder env) (transport (λ c. Fits env c (context_of vars) t) q f) h in
      let a = p.type in
      let C : context_of (unnamed a ∷ vars) ≡ context_of vars ++ a ∷ [] = context_bound env (unnamed a) vars p.proper in (
        a,
        p.child,
        step a p.child v p.proper (result_from_proper env a p.proper, g) (ap (λ y. P' (unnamed y ∷ map forget vars)) (forget_proper env a p.proper) ∙ ev)
            (transport (λ D. Fits env v D p.child) (sym C) p.fits) (transport (λ D. HasSome env D p.child) (sym C) p.typed),
        p.whole,
      )

  from_over : (b : Boolean) (s : Sym) → binds s ≡ 0 → (set : Term → Type 0) (o : Option Bare) (C : List Ty) (t : Term) (c : Bare)
      → ((v : Bare) (u : Term) → o ≡ Some v → Fits env v C u → HasSome env C u → set u)
      → option_map (λ x. if b then x else bare_one s None x) o ≡ Some c → Fits env c C t → HasSome env C t → MatchBool b (set t) ((types : Tys) × (u : Term) × set u × (t ≡ with_one s types u))
  from_over true s i set o C t c step e f h =
      let (v, ev, q) = map_gives (λ x. x) o c e in
      step v t ev (transport (λ d. Fits env d C t) q f) h
  from_over false s i set o C t c step e f h =
      let (v, ev, q) = map_gives (bare_one s None) o c e in
      let p = one_parts env s None v C t i (transport (λ d. Fits env d C t) q f) h in
      (p.types, p.child, step v p.child ev p.fits p.typed, p.whole)

  call_forget : (n : List ℕ) (vars : List Variable) (count : ℕ) (bs : Bares) → call_bare (meaning params known n vars 0) n count bs ≡ call_bare (meaning params known n (map forget vars) 0) n count bs
  call_forget n vars count bs = ap (λ m. call_bare m n count bs) (sym (meaning_forget params known n vars 0))

  from_pattern : (x : Pattern) → StepFrom (IsPattern params known (Typed env) x) (pattern_bare params known x)
  from_pattern (bound b) vars t c g e f h =
      let (ts, fs, hs, k) = from_call env (meaning params known b.name vars 0) b.name 0 bare_none (context_of vars) c t (λ z. refl) (call_forget b.name vars 0 bare_none ∙ e) f h in
      transport (λ us. IsCall (meaning params known b.name vars 0) b.name 0 us t) fs k
  from_pattern (pair x y) vars t c g e f h =
      let (u, v, eu, ev, q) = both_gives (bare_two base.maps_to_sym None) _ _ c e in
      let p = two_parts env base.maps_to_sym None u v (context_of vars) t binds_maps_to (transport (λ d. Fits env d (context_of vars) t) q f) h in
      (p.types, p.first, p.second, from_pattern x vars p.first u g eu p.fits_first p.typed_first, from_pattern y vars p.second v g ev p.fits_second p.typed_second, p.whole)

  no_bares : (es : Raws) (vars : List Variable) (bs : Bares) → resolve_all params known es vars ≡ Some bs → count_of es ≡ 0 → bs ≡ bare_none
  no_bares none vars bs e c = some_gives _ _ e
  no_bares (one x es) vars bs e c = absurd (omega (arith, c))

  z_parts : (C : List Ty) (a : Ty) (c : Bare) (z : Term) → var_type C 0 ≡ Some a → Fits env (bare_z c) C z → HasSome env C z → (u : Term) × Fits env c C u × HasSome env C u × (z ≡ is_z a u)
  z_parts C a c z l f h =
      let m = two_parts env base.equal_sym None (bare_var 0) c C z binds_equal f h in
      let (d, ed, tx, ty) = equal_types env C m.types m.first m.second (transport (HasSome env C) m.whole h) in
      let at : var_type C 0 ≡ Some d = transport (λ v. Typed env C v d) m.fits_first tx in
      let same : d ≡ a = some_gives a d (sym l ∙ at) in (
        m.second,
        m.fits_second,
        m.typed_second,
        m.whole ∙ ap (λ As. with_two base.equal_sym As m.first m.second) (ed ∙ ap at_type same) ∙ ap (λ v. with_two base.equal_sym (at_type a) v m.second) m.fits_first,
      )

  mutual
    pub from_bare : (raw : Raw) (vars : List Variable) (t : Term) (b : Bare) → AreGood env vars → resolve params known raw (map forget vars) ≡ Some b → Fits env b (context_of vars) t → HasSome env (context_of vars) t
        → Gives params known (Typed env) raw vars t
    from_bare (word m) vars t b g e f h = from_word env (entry_of word_symbols m) m (context_of vars) b t (word_plain m) e f h
    from_bare (literal n) vars t b g e f h = transport (λ c. Fits env c (context_of vars) t) (some_gives _ _ e) f
    from_bare (param i) vars t b g e f h = type_parts env (context_of vars) (Param i) t (transport (λ c. Fits env c (context_of vars) t) (some_gives _ _ e) f)
    from_bare (type_set r) vars t b g e f h =
        let (a, ea, q) = map_gives type_bare (type_of_raw params known r) b e in
        (a, ea, type_parts env (context_of vars) a t (transport (λ c. Fits env c (context_of vars) t) q f))
    from_bare (call n es) vars t b g e f h =
        let (bs, eb, ec) = and_then_gives _ (resolve_all params known es (map forget vars)) b e in
        let (ts, fs, hs, k) = from_call env (meaning params known n vars 0) n (count_of es) bs (context_of vars) b t (no_bares es (map forget vars) bs eb) (call_forget n vars (count_of es) bs ∙ ec) f h in
        (ts, all_from_bare es vars ts bs g eb fs hs, k)
    from_bare (around m x) vars t b g e f h =
        let (c, ec, ep) = and_then_gives _ (resolve params known x (map forget vars)) b e in
        let (ts, (u, us, fu, r, q), hs, p) = from_plain env (entry_of around_symbols m) (bare_more c bare_none) (context_of vars) b t (around_plain m) ep f h in
        let w : ts ≡ cons u nil = q ∙ ap (cons u) r in
        (u, from_bare x vars u c g ec fu (transport (EachTyped env (context_of vars)) w hs).0, transport (λ vs. IsPlain (entry_of around_symbols m) vs t) w p)
    from_bare (unary m x) vars t b g e f h =
        let (c, ec, ep) = and_then_gives _ (resolve params known x (map forget vars)) b e in
        let (ts, (u, us, fu, r, q), hs, p) = from_plain env (entry_of prefix_symbols m) (bare_more c bare_none) (context_of vars) b t (prefix_plain m) ep f h in
        let w : ts ≡ cons u nil = q ∙ ap (cons u) r in
        (u, from_bare x vars u c g ec fu (transport (EachTyped env (context_of vars)) w hs).0, transport (λ vs. IsPlain (entry_of prefix_symbols m) vs t) w p)
    from_bare (binary m x y) vars t b g e f h =
        let s = swaps (entry_of infix_symbols m) in
        let (cs, ecs, ep) = and_then_gives _ (both (two_bares s) (resolve params known x (map forget vars)) (resolve params known y (map forget vars))) b e in
        let (c, d, ec, ed, q) = both_gives (two_bares s) _ _ cs ecs in
        let (ts, fs, hs, p) = from_plain env (entry_of infix_symbols m) cs (context_of vars) b t (infix_plain m) ep f h in
        let (u, v, fu, fv, w) = swapped_parts (context_of vars) s c d ts (transport (λ bs. FitAll env bs (context_of vars) ts) q fs) in
        let each = Rattle.ev_infer.proofs.ToBare.swapped_typed env (context_of vars) s u v (transport (EachTyped env (context_of vars)) w hs) in
        (u, v, from_bare x vars u c g ec fu each.0, from_bare y vars v d g ed fv each.1, transport (λ vs. IsPlain (entry_of infix_symbols m) vs t) w p)
      where
        swapped_parts : (C : List Ty) (s : Boolean) (c d : Bare) (ts : Terms) → FitAll env (two_bares s c d) C ts → (u v : Term) × Fits env c C u × Fits env d C v × (ts ≡ two_terms s u v)
        swapped_parts C false c d ts (u, us, fu, (v, vs, fv, r, q'), q) = (u, v, fu, fv, q ∙ ap (cons u) (q' ∙ ap (cons v) r))
        swapped_parts C true c d ts (u, us, fu, (v, vs, fv, r, q'), q) = (v, u, fv, fu, q ∙ ap (cons u) (q' ∙ ap (cons v) r))
    from_bare (inverse x) vars t b g e f h =
        let (c, ec, q) = map_gives (bare_one base.inverse_sym None) _ b e in
        let p = one_parts env base.inverse_sym None c (context_of vars) t binds_inverse (transport (λ d. Fits env d (context_of vars) t) q f) h in
        (p.types, p.child, from_bare x vars p.child c g ec p.fits p.typed, p.whole)
    from_bare (apply x y) vars t b g e f h =
        let (c, d, ec, ed, q) = both_gives (bare_two base.apply_sym None) _ _ b e in
        let p = two_parts env base.apply_sym None c d (context_of vars) t binds_apply (transport (λ d. Fits env d (context_of vars) t) q f) h in
        (p.types, p.first, p.second, from_bare x vars p.first c g ec p.fits_first p.typed_first, from_bare y vars p.second d g ed p.fits_second p.typed_second, p.whole)
    from_bare (image x y) vars t b g e f h =
        let (c, d, ec, ed, q) = both_gives (bare_two base.image_sym None) _ _ b e in
        let p = two_parts env base.image_sym None c d (context_of vars) t binds_image (transport (λ d. Fits env d (context_of vars) t) q f) h in
        (p.types, p.first, p.second, from_bare x vars p.first c g ec p.fits_first p.typed_first, from_bare y vars p.second d g ed p.fits_second p.typed_second, p.whole)
    from_bare (of_type x r) vars t b g e f h =
        let (c, a, ec, ea, q) = both_gives bare_of _ _ b e in
        let (fc, proper, typed) = transport (λ d. Fits env d (context_of vars) t) q f in
        (a, ea, from_bare x vars t c g ec fc h, typed)
    from_bare (quantified m bs x) vars t b g e f h =
        from_binds (quantifier m) (quantifier_binder env m) bs (G x) (resolve params known x) vars t b (λ vs u c l. from_bare x vs u c) g e f h
    from_bare (set_of y x) vars t b g e f h =
        from_binds base.set_sym (set_binder env) (y ∷ []) (G x) (resolve params known x) vars t b (λ vs u c l. from_bare x vs u c) g e f h
    from_bare (collected m bs x y) vars t b g e f h =
        from_over (m == open_brace) (if m == union_over_word then base.big_union_sym else base.big_inter_sym) (binds_over m)
        (λ set. (a : Ty) × (u : Term) × Binds params known (Typed env) base.for_some_sym bs (IsCollected (G x) (G y) a (length bs)) (unnamed a ∷ vars) u × (set ≡ with_one base.set_sym (at_type a) u))
        (option_map (bare_one base.set_sym None) (bind_all params known base.for_some_sym bs (λ under. both (collected_bare (length bs)) (resolve params known x under) (resolve params known y under)) (unnamed Int ∷ map forget vars)))
        (context_of vars) t b
        (λ v u ev fv hv. from_set (λ a. Binds params known (Typed env) base.for_some_sym bs (IsCollected (G x) (G y) a (length bs)))
        (bind_all params known base.for_some_sym bs (λ under. both (collected_bare (length bs)) (resolve params known x under) (resolve params known y under)))
        vars u v
        (λ a w c p ga ec fc hc. from_binds base.for_some_sym (for_some_binder env) bs (IsCollected (G x) (G y) a (length bs)) (λ under. both (collected_bare (length bs)) (resolve params known x under) (resolve params known y under)) (unnamed a ∷ vars) w c
        (λ vs s d l. from_collected (length bs) a (G x) (G y) (resolve params known x) (resolve params known y) (from_bare x) (from_bare y) vs s d (under_type a env vars vs (length bs) p l))
        ga ec fc hc)
        g ev fv hv)
        e f h
    from_bare (lambda z x y) vars t b g e f h =
        from_set
        (λ a. Binds params known (Typed env) base.for_some_sym (pattern_binders z)
        (IsCollected (G x) (λ under v. (types : Tys) × (p q : Term) × IsPattern params known (Typed env) z under p × G y under q × (v ≡ with_two base.maps_to_sym types p q)) a (length (pattern_binders z))))
        (bind_all params known base.for_some_sym (pattern_binders z)
        (λ under. both (collected_bare (length (pattern_binders z))) (resolve params known x under) (both (bare_two base.maps_to_sym None) (pattern_bare params known z under) (resolve params known y under))))
        vars t b
        (λ a w c p ga ec fc hc. from_binds base.for_some_sym (for_some_binder env) (pattern_binders z)
        (IsCollected (G x) (λ under v. (types : Tys) × (p q : Term) × IsPattern params known (Typed env) z under p × G y under q × (v ≡ with_two base.maps_to_sym types p q)) a (length (pattern_binders z)))
        (λ under. both (collected_bare (length (pattern_binders z))) (resolve params known x under) (both (bare_two base.maps_to_sym None) (pattern_bare params known z under) (resolve params known y under)))
        (unnamed a ∷ vars) w c
        (λ vs s d l. from_collected (length (pattern_binders z)) a (G x) (λ under v. (types : Tys) × (p q : Term) × IsPattern params known (Typed env) z under p × G y under q × (v ≡ with_two base.maps_to_sym types p q))
        (resolve params known x) (λ under. both (bare_two base.maps_to_sym None) (pattern_bare params known z under) (resolve params known y under)) (from_bare x)
        (λ vs' v d' g' e' f' h'.
        let r = both_gives (bare_two base.maps_to_sym None) (pattern_bare params known z (map forget vs')) (resolve params known y (map forget vs')) d' e' in
        let k = two_parts env base.maps_to_sym None r.0 r.1 (context_of vs') v binds_maps_to (transport (λ o. Fits env o (context_of vs') v) r.4 f') h' in
        (k.types, k.first, k.second, from_pattern z vs' k.first r.0 g' r.2 k.fits_first k.typed_first, from_bare y vs' k.second r.1 g' r.3 k.fits_second k.typed_second, k.whole))
        vs s d (under_type a env vars vs (length (pattern_binders z)) p l))
        ga ec fc hc)
        g e f h
    from_bare (members none) vars t b g e f h =
        let f' = transport (λ c. Fits env c (context_of vars) t) (some_gives _ _ e) f in
        let (types, gt, q) = leaf_parts env base.empty_sym None (context_of vars) t binds_empty f' in
        let (a, ea) = empty_type (context_of vars) types (transport (HasSome env (context_of vars)) q h) in
        (a, q ∙ ap (leaf base.empty_sym) ea)
      where
        empty_type : (C : List Ty) (As : Tys) → HasSome env C (leaf base.empty_sym As) → (a : Ty) × (As ≡ at_type a)
        empty_type C As (A, k) = Rattle.ev_infer.proofs.Nodes.one_type_only As k.count
    from_bare (members (one x es)) vars t b g e f h =
        let s = from_set (λ a vs w. (u : Term) × G x vs u × GivesMembers params known (Typed env) es a vs (is_z a u) w)
        (λ vs. option_and_then (λ c. resolve_members params known es vs (bare_z c)) (resolve params known x vs)) vars t b
        (λ a w c p ga ec fc hc.
        let vs = unnamed a ∷ vars in
        let l : var_type (context_of vs) 0 ≡ Some a = ap (λ C. var_type C 0) (context_bound env (unnamed a) vars p) ∙ var_type_last (context_of vars) a in
        let r = and_then_gives (λ d. resolve_members params known es (map forget vs) (bare_z d)) (resolve params known x (map forget vs)) c ec in
        let m = members_from_bare es a vs w (bare_z r.0) c ga l r.2 fc hc in
        let z = z_parts (context_of vs) a r.0 m.0 l m.1 m.2 in
        (z.0, from_bare x vs z.0 r.0 ga r.1 z.1 z.2, transport (λ front. GivesMembers params known (Typed env) es a vs front w) z.3 m.3))
        g e f h in
        (s.0, s.2.0, s.1, s.2.1, s.2.2, s.3)
    from_bare (written r) vars t b g e f h = cc

    pub all_from_bare : (es : Raws) (vars : List Variable) (ts : Terms) (bs : Bares) → AreGood env vars → resolve_all params known es (map forget vars) ≡ Some bs → FitAll env bs (context_of vars) ts → EachTyped env (context_of vars) ts
        → GivesAll params known (Typed env) es vars ts
    all_from_bare none vars ts bs g e f h = transport (λ cs. FitAll env cs (context_of vars) ts) (some_gives _ _ e) f
    all_from_bare (one x es) vars ts bs g e f h =
        let (c, cs, ec, ecs, q) = both_gives bare_more _ _ bs e in
        let (t, us, ft, fus, w) = transport (λ ds. FitAll env ds (context_of vars) ts) q f in
        let h' : HasSome env (context_of vars) t × EachTyped env (context_of vars) us = transport (EachTyped env (context_of vars)) w h in
        (t, us, from_bare x vars t c g ec ft h'.0, all_from_bare es vars us cs g ecs fus h'.1, w)

    pub members_from_bare : (es : Raws) (a : Ty) (vars : List Variable) (t : Term) (bare b : Bare) → AreGood env vars → var_type (context_of vars) 0 ≡ Some a → resolve_members params known es (map forget vars) bare ≡ Some b
        → Fits env b (context_of vars) t → HasSome env (context_of vars) t → (front : Term) × Fits env bare (context_of vars) front × HasSome env (context_of vars) front × GivesMembers params known (Typed env) es a vars front t
    members_from_bare none a vars t bare b g l e f h = (t, transport (λ c. Fits env c (context_of vars) t) (some_gives _ _ e) f, h, refl)
    members_from_bare (one x es) a vars t bare b g l e f h =
        let C = context_of vars in
        let (c, ec, e1) = and_then_gives _ (resolve params known x (map forget vars)) b e in
        let (front, ff, hf, m) = members_from_bare es a vars t (bare_two base.or_sym None bare (bare_z c)) b g l e1 f h in
        let p = two_parts env base.or_sym None bare (bare_z c) C front binds_or ff hf in
        let (u, fu, hu, z) = z_parts C a c p.second l p.fits_second p.typed_second in
        let w : front ≡ with_two base.or_sym Empty p.first (is_z a u) =
        p.whole ∙ ap (λ As. with_two base.or_sym As p.first p.second) (or_empty env C p.types (cons p.first (cons p.second nil)) (transport (HasSome env C) p.whole hf)) ∙ ap (with_two base.or_sym Empty p.first) z in
        (p.first, p.fits_first, p.typed_first, (u, from_bare x vars u c g ec fu hu, transport (λ y. GivesMembers params known (Typed env) es a vars y t) w m))
