-- A typed reading of a raw tree fits its bare term.
use Rattle.std.specs.Prelude.{◌≡◌, ℕ, zero, suc, ◌+◌, ◌==◌, Bool as Boolean, true, false, List, [], ◌∷◌, ◌++◌, map, length, position, bytes_eq, Option, Some, None, option_map, option_and_then, MatchBool, if◌then◌else◌, refl}
use Rattle.std.specs.List.{AllByRecursion}
use Rattle.std.proofs.Common.{ap, sym, ◌∙◌, arith, inl, inr, subst as transport}
use Rattle.std.proofs.lemmas.Bool.{eq-eqb}
use Rattle.ev_terms.specs.declared.types.Ty.{Ty, Int, Bool, Prop, Param, Data}
use Rattle.ev_terms.specs.declared.types.Tys.{Tys, Empty}
use Rattle.ev_terms.specs.declared.types.Sym.{Sym}
use Rattle.ev_terms.specs.declared.types.Sym.TheVariants.{User}
use Rattle.ev_terms.specs.Types.{pow, prod, more}
use Rattle.ev_terms.specs.Term.{Term, Terms, var, node, nil, cons}
use Rattle.ev_terms.specs.Symbols.{binds}
use Rattle.ev_syntax.specs.Marks.{open_brace, union_over_word}
use Rattle.ev_syntax.specs.Raw.{RawType, int_type, bool_type, param_type, named_type, pow_type, prod_type, Binder, Pattern, bound, pair, pattern_binders, Raw, Raws, word, literal, param, type_set, call, around, unary, binary, inverse, apply, image, of_type, quantified, set_of, collected, lambda, members, written, none, one}
use Rattle.ev_forms.specs.Base as base
use Rattle.ev_forms.specs.Base.{at_type, leaf, with_one, with_two}
use Rattle.ev_typing.specs.Env.{Env}
use Rattle.ev_typing.specs.Typing.{IsProper, var_type, Typed}
use Rattle.ev_typing.specs.Proper.{IsResult, HasProperSignatures}
use Rattle.ev_typing.proofs.Proper.{result_from_proper}
use Rattle.ev_resolve.specs.Reading.{Known, Variable, context_type, context_of, Meaning, variable, predicate, parameter, symbol, nothing, variable_of, option_is, meaning, named, type_of_raw, types_of_raw, IsWritten, both, Plain, infix_symbols, prefix_symbols, around_symbols, word_symbols, entry_of, and_not, IsPlain, two_terms, swaps, quantifier, binder_of, unnamed, IsApplication, IsCall, count_of, IsCollected, is_z, Binds, IsPattern, Gives, GivesAll, GivesMembers}
use Rattle.ev_resolve.specs.Bare.{Bare, Bares, bare_var, bare_lit, bare_node, bare_of, bare_none, bare_more, IsGiven, Fits, FitAll}
use Rattle.ev_resolve.specs.Resolve.{bare_one, bare_two, bare_leaf, type_bare, bare_and_not, plain_bare, two_bares, word_bare, application_bare, call_bare, bare_z, collected_bare, forget_type, forget, written_type, bind_all, pattern_bare, resolve, resolve_all, resolve_members}
use Rattle.ev_infer.proofs.Complete.{and_then_to, map_to}
use Rattle.ev_infer.proofs.Nodes.{HasSome, EachTyped, plain_each, binder_child, fit_node, fit_binder, IsBinder, for_some_binder, set_binder, quantifier_binder, BindNone, infix_plain, prefix_plain, around_plain, word_plain, binds_not, binds_and, binds_or, binds_equal, binds_maps_to, binds_type, binds_empty, binds_true_value, binds_apply, binds_image, binds_inverse, binds_user, binds_over, context_more, context_type_proper, var_type_last, var_type_before, typed_result}

-- the bare term is there, and the term fits it
abbrev pub Resolved : Env → Option Bare → List Ty → Term → Type 0
Resolved env o C t = (b : Bare) × (o ≡ Some b) × Fits env b C t

abbrev pub AllResolved : Env → Option Bares → List Ty → Terms → Type 0
AllResolved env o C ts = (bs : Bares) × (o ≡ Some bs) × FitAll env bs C ts

-- the types of the variables are proper, or `Prop` for a predicate variable
abbrev pub AreGood : Env → List Variable → Type 0
AreGood env vars = AllByRecursion (λ (v : Variable). IsResult env v.type) vars

good_type : (env : Env) (a : Ty) → IsResult env a → IsResult env (context_type a)
good_type env Int h = h
good_type env Bool h = h
good_type env Prop h = tt
good_type env (Param i) h = h
good_type env (pow a) h = h
good_type env (prod a b) h = h
good_type env (Data n As) h = h

pub good_context : (env : Env) (vars : List Variable) → AreGood env vars → (i : ℕ) (A : Ty) → var_type (context_of vars) i ≡ Some A → IsResult env A
good_context env [] h i A e = cc
good_context env (v ∷ vars) h zero A e =
    let q : Some (context_type v.type) ≡ Some A = sym (ap (λ C. var_type C 0) (context_more v vars) ∙ var_type_last (context_of vars) (context_type v.type)) ∙ e in
    let p : context_type v.type ≡ A = cc in
    transport (IsResult env) p (good_type env v.type h.0)
good_context env (v ∷ vars) h (suc i) A e =
    good_context env vars h.1 i A (sym (ap (λ C. var_type C (suc i)) (context_more v vars) ∙ var_type_before (context_of vars) (context_type v.type) i) ∙ e)

pub context_bound : (env : Env) (v : Variable) (vars : List Variable) → IsProper env v.type → context_of (v ∷ vars) ≡ context_of vars ++ v.type ∷ []
context_bound env v vars h = context_more v vars ∙ ap (λ a. context_of vars ++ a ∷ []) (context_type_proper env v.type h)

-- what a name means does not hang on the types
variable_forget : (a : Ty) (i : ℕ) → variable_of (forget_type a) i ≡ variable_of a i
variable_forget Int i = refl
variable_forget Bool i = refl
variable_forget Prop i = refl
variable_forget (Param j) i = refl
variable_forget (pow a) i = refl
variable_forget (prod a b) i = refl
variable_forget (Data n As) i = refl

pub meaning_forget : (params : List (List ℕ)) (known : Known) (n : List ℕ) (vars : List Variable) (i : ℕ) → meaning params known n (map forget vars) i ≡ meaning params known n vars i
meaning_forget params known n [] i = refl
meaning_forget params known n (v ∷ vars) i =
    ap (λ m. if option_is n v.name then m else meaning params known n (map forget vars) (i + 1)) (variable_forget v.type i)
    ∙ ap (λ m. if option_is n v.name then variable_of v.type i else m) (meaning_forget params known n vars (i + 1))

pub forget_proper : (env : Env) (a : Ty) → IsProper env a → forget_type a ≡ Int
forget_proper env Int h = refl
forget_proper env Bool h = refl
forget_proper env Prop h = absurd h
forget_proper env (Param i) h = refl
forget_proper env (pow a) h = refl
forget_proper env (prod a b) h = refl
forget_proper env (Data n As) h = refl

pub both_to : {X Y Z : Type 0} (f : X → Y → Z) (o : Option X) (p : Option Y) (x : X) (y : Y) → o ≡ Some x → p ≡ Some y → both f o p ≡ Some (f x y)
both_to f o p x y e g = ap (λ z. both f z p) e ∙ ap (both f (Some x)) g

-- a written type is not `Prop`
abbrev pub is_prop : Ty → Boolean
is_prop Prop = true
is_prop _ = false

abbrev is_prop_option : Option Ty → Boolean
is_prop_option None = false
is_prop_option (Some a) = is_prop a

pow_no_prop : (o : Option Ty) → is_prop_option (option_map pow o) ≡ false
pow_no_prop None = refl
pow_no_prop (Some a) = refl

prod_no_prop : (o p : Option Ty) → is_prop_option (both prod o p) ≡ false
prod_no_prop None p = refl
prod_no_prop (Some a) None = refl
prod_no_prop (Some a) (Some b) = refl

named_no_prop : (i : Option ℕ) (d : Boolean) (n : List ℕ) (types : Tys) → is_prop_option (named i d n types) ≡ false
named_no_prop (Some i) d n Empty = refl
named_no_prop (Some i) d n (more a types) = refl
named_no_prop None true n types = refl
named_no_prop None false n types = refl

and_then_no_prop : (f : Tys → Option Ty) → ((types : Tys) → is_prop_option (f types) ≡ false) → (o : Option Tys) → is_prop_option (option_and_then f o) ≡ false
and_then_no_prop f h None = refl
and_then_no_prop f h (Some types) = h types

raw_no_prop : (params : List (List ℕ)) (known : Known) (r : RawType) → is_prop_option (type_of_raw params known r) ≡ false
raw_no_prop params known int_type = refl
raw_no_prop params known bool_type = refl
raw_no_prop params known (param_type i) = refl
raw_no_prop params known (named_type n types) =
    and_then_no_prop (named (position (bytes_eq n) params) (known.is_datatype n) n) (named_no_prop (position (bytes_eq n) params) (known.is_datatype n) n) (types_of_raw params known types)
raw_no_prop params known (pow_type a) = pow_no_prop (type_of_raw params known a)
raw_no_prop params known (prod_type a b) = prod_no_prop (type_of_raw params known a) (type_of_raw params known b)

pub result_no_prop : (env : Env) (a : Ty) → IsResult env a → is_prop a ≡ false → IsProper env a
result_no_prop env Int h e = h
result_no_prop env Bool h e = h
result_no_prop env Prop h e = cc
result_no_prop env (Param i) h e = h
result_no_prop env (pow a) h e = h
result_no_prop env (prod a b) h e = h
result_no_prop env (Data n As) h e = h

pub written_proper : (env : Env) (params : List (List ℕ)) (known : Known) (r : RawType) (a : Ty) → type_of_raw params known r ≡ Some a → IsResult env a → IsProper env a
written_proper env params known r a e h = result_no_prop env a h (sym (ap is_prop_option e) ∙ raw_no_prop params known r)

-- symbols of the tables
fit_and_not : (env : Env) (n : Boolean) (b : Bare) (C : List Ty) (t : Term) → Fits env b C t → Fits env (bare_and_not n b) C (and_not n t)
fit_and_not env false b C t f = f
fit_and_not env true b C t f = fit_node env base.not_sym None (bare_more b bare_none) C Empty (cons t nil) binds_not tt (t, nil, f, refl, refl)

not_child : (env : Env) (n : Boolean) (C : List Ty) (t : Term) → HasSome env C (and_not n t) → HasSome env C t
not_child env false C t h = h
not_child env true C t h = (plain_each env C base.not_sym Empty (cons t nil) binds_not h).0

to_plain : (env : Env) (o : Option Plain) (bs : Bares) (C : List Ty) (ts : Terms) (t : Term) → BindNone o → FitAll env bs C ts → IsPlain o ts t → Resolved env (plain_bare o bs) C t
to_plain env None bs C ts t h f p = absurd p
to_plain env (Some e) bs C ts t h f (types, q) = (
  bare_and_not e.negated (bare_node e.sym None bs),
  refl,
  transport (Fits env (bare_and_not e.negated (bare_node e.sym None bs)) C) (sym q)
      (fit_and_not env e.negated (bare_node e.sym None bs) C (node e.sym types ts) (fit_node env e.sym None bs C types ts (h e refl) tt f)),
)

pub plain_children : (env : Env) (o : Option Plain) (C : List Ty) (ts : Terms) (t : Term) → BindNone o → IsPlain o ts t → HasSome env C t → EachTyped env C ts
plain_children env None C ts t h p k = absurd p
plain_children env (Some e) C ts t h (types, q) k =
    plain_each env C e.sym types ts (h e refl) (not_child env e.negated C (node e.sym types ts) (transport (HasSome env C) q k))

pub swapped_typed : (env : Env) (C : List Ty) (s : Boolean) (u v : Term) → EachTyped env C (two_terms s u v) → HasSome env C u × HasSome env C v
swapped_typed env C false u v h = (h.0, h.1.0)
swapped_typed env C true u v h = (h.1.0, h.0)

swapped_fit : (env : Env) (C : List Ty) (s : Boolean) (b c : Bare) (u v : Term) → Fits env b C u → Fits env c C v → FitAll env (two_bares s b c) C (two_terms s u v)
swapped_fit env C false b c u v f g = (u, cons v nil, f, (v, nil, g, refl, refl), refl)
swapped_fit env C true b c u v f g = (v, cons u nil, g, (u, nil, f, refl, refl), refl)

two_fit : (env : Env) (s : Sym) (C : List Ty) (types : Tys) (b c : Bare) (u v : Term) → binds s ≡ 0 → Fits env b C u → Fits env c C v → Fits env (bare_two s None b c) C (with_two s types u v)
two_fit env s C types b c u v e f g = fit_node env s None (bare_more b (bare_more c bare_none)) C types (cons u (cons v nil)) e tt (swapped_fit env C false b c u v f g)

to_word : (env : Env) (o : Option Plain) (m : ℕ) (C : List Ty) (t : Term) → BindNone o → IsPlain o nil t → Resolved env (word_bare o m) C t
to_word env None m C t h p = absurd p
to_word env (Some e) m C t h p = to_plain env (Some e) bare_none C nil t h refl p

type_resolved : (env : Env) (C : List Ty) (a : Ty) (t : Term) → t ≡ leaf base.type_sym (at_type a) → Fits env (type_bare a) C t
type_resolved env C a t e = transport (Fits env (type_bare a) C) (sym e) (fit_node env base.type_sym (Some a) bare_none C (at_type a) nil binds_type refl refl)

-- names
to_application : (env : Env) (C : List Ty) (b : Bare) (bs : Bares) (f : Term) (ts : Terms) (t : Term) → Fits env b C f → FitAll env bs C ts → IsApplication f ts t → Fits env (application_bare b bs) C t
to_application env C b bs f ts t k l (types, e) =
    transport (Fits env (application_bare b bs) C) (sym e) (fit_node env base.apply_sym None (bare_more b bs) C types (cons f ts) binds_apply tt (f, ts, k, l, refl))

leaf_fit : (env : Env) (C : List Ty) (s : Sym) (types : Tys) → binds s ≡ 0 → Fits env (bare_leaf s None) C (leaf s types)
leaf_fit env C s types e = fit_node env s None bare_none C types nil e tt refl

to_call : (env : Env) (m : Meaning) (n : List ℕ) (count : ℕ) (bs : Bares) (C : List Ty) (ts : Terms) (t : Term) → FitAll env bs C ts → IsCall m n count ts t → Resolved env (call_bare m n count bs) C t
to_call env (variable i) n count bs C ts t f (inl (c, e)) = (bare_var i, ap (λ k. call_bare (variable i) n k bs) c, e)
to_call env (variable i) n count bs C ts t f (inr (c, a)) =
    (application_bare (bare_var i) bs, ap (λ k. call_bare (variable i) n k bs) c, to_application env C (bare_var i) bs (var i) ts t refl f a)
to_call env (predicate i) n count bs C ts t f (c, e) = (
  _,
  ap (λ k. call_bare (predicate i) n k bs) c,
  transport (Fits env (bare_two base.equal_sym (Some Bool) (bare_var i) (bare_leaf base.true_value_sym None)) C) (sym e)
      (fit_node env base.equal_sym (Some Bool) (bare_more (bare_var i) (bare_more (bare_leaf base.true_value_sym None) bare_none)) C (at_type Bool) (cons (var i) (cons (leaf base.true_value_sym Empty) nil)) binds_equal refl
      (swapped_fit env C false (bare_var i) (bare_leaf base.true_value_sym None) (var i) (leaf base.true_value_sym Empty) refl (leaf_fit env C base.true_value_sym Empty binds_true_value))),
)
to_call env (parameter i) n count bs C ts t f (c, e) = (type_bare (Param i), ap (λ k. call_bare (parameter i) n k bs) c, type_resolved env C (Param i) t e)
to_call env (symbol k) n count bs C ts t f (inl (c, types, e)) = (
  bare_node (User n) None bs,
  ap (λ b. if b then Some (bare_node (User n) None bs) else (if k == 0 then (if count == 1 then Some (application_bare (bare_leaf (User n) None) bs) else None) else None)) (eq-eqb count k c),
  transport (Fits env (bare_node (User n) None bs) C) (sym e) (fit_node env (User n) None bs C types ts (binds_user n) tt f),
)
to_call env (symbol k) n count bs C ts t f (inr (z, c, types, a)) = (
  application_bare (bare_leaf (User n) None) bs,
  ap (λ j. call_bare (symbol j) n count bs) z ∙ ap (λ j. call_bare (symbol 0) n j bs) c,
  to_application env C (bare_leaf (User n) None) bs (leaf (User n) types) ts t (leaf_fit env C (User n) types (binds_user n)) f a,
)
to_call env nothing n count bs C ts t f h = absurd h

module _ (env : Env) (signatures : HasProperSignatures env) (params : List (List ℕ)) (known : Known) where
  abbrev G : Raw → List Variable → Term → Type 0
  G = Gives params known (Typed env)

  -- readings of one kind are resolved
  abbrev pub StepTo : (List Variable → Term → Type 0) → (List Variable → Option Bare) → Type 0
  StepTo P P' = (vs : List Variable) (u : Term) → AreGood env vs → P vs u → HasSome env (context_of vs) u → Resolved env (P' (map forget vs)) (context_of vs) u

  written_to : (o : Option RawType) (a : Ty) → IsWritten params known o a → (w : Option Ty) × (written_type params known o ≡ Some w) × IsGiven w (at_type a)
  written_to None a h = (None, refl, tt)
  written_to (Some r) a h = (Some a, ap (option_map Some) h, refl)

  to_binds : (s : Sym) → IsBinder env s → (bs : List Binder) (P : List Variable → Term → Type 0) (P' : List Variable → Option Bare) → StepTo P P'
      → StepTo (Binds params known (Typed env) s bs P) (bind_all params known s bs P')
  to_binds s i [] P P' step vars t g h k = step vars t g h k
  to_binds s i (b ∷ bs) P P' step vars t g (a, u, w, rest, e) k =
      let parts = binder_child env (context_of vars) s a u i.binds_one (transport (HasSome env (context_of vars)) e k) in
      let C : context_of (binder_of b a ∷ vars) ≡ context_of vars ++ a ∷ [] = context_bound env (binder_of b a) vars parts.0 in
      let (v, ev, fv) = to_binds s i bs P P' step (binder_of b a ∷ vars) u (result_from_proper env a parts.0, g) rest (transport (λ D. HasSome env D u) (sym C) parts.1) in
      let (wb, ew, gw) = written_to b.type a w in (
        bare_one s wb v,
        both_to (bare_one s) (written_type params known b.type) _ wb v ew (ap (λ x. bind_all params known s bs P' (binder_of b x ∷ map forget vars)) (sym (forget_proper env a parts.0)) ∙ ev),
        transport (Fits env (bare_one s wb v) (context_of vars)) (sym e) (fit_binder env s wb v (context_of vars) a u i.binds_one gw (transport (λ D. Fits env v D u) C fv)),
      )

  to_collected : (n : ℕ) (a : Ty) (P E : List Variable → Term → Type 0) (P' E' : List Variable → Option Bare) → StepTo P P' → StepTo E E' → StepTo (IsCollected P E a n) (λ under. both (collected_bare n) (P' under) (E' under))
  to_collected n a P E P' E' p q vs u g c h =
      let C = context_of vs in
      let z = with_two base.equal_sym (at_type a) (var n) c.value in
      let each = plain_each env C base.and_sym Empty (cons c.condition (cons z nil)) binds_and (transport (HasSome env C) c.whole h) in
      let inner = plain_each env C base.equal_sym (at_type a) (cons (var n) (cons c.value nil)) binds_equal each.1.0 in
      let (x, ex, fx) = p vs c.condition g c.is_condition each.0 in
      let (y, ey, fy) = q vs c.value g c.is_value inner.1.0 in (
        collected_bare n x y,
        both_to (collected_bare n) _ _ x y ex ey,
        transport (Fits env (collected_bare n x y) C) (sym c.whole)
            (two_fit env base.and_sym C Empty x (bare_two base.equal_sym None (bare_var n) y) c.condition z binds_and fx (two_fit env base.equal_sym C (at_type a) (bare_var n) y (var n) c.value binds_equal refl fy)),
      )

  -- a set former over a new variable
  to_set : (a : Ty) (P : List Variable → Term → Type 0) (P' : List Variable → Option Bare) → StepTo P P' → (vars : List Variable) (t u : Term) → AreGood env vars → P (unnamed a ∷ vars) u
      → t ≡ with_one base.set_sym (at_type a) u → HasSome env (context_of vars) t → Resolved env (option_map (bare_one base.set_sym None) (P' (unnamed Int ∷ map forget vars))) (context_of vars) t
  to_set a P P' step vars t u g h e k =
      let i = set_binder env in
      let parts = binder_child env (context_of vars) base.set_sym a u i.binds_one (transport (HasSome env (context_of vars)) e k) in
      let C : context_of (unnamed a ∷ vars) ≡ context_of vars ++ a ∷ [] = context_bound env (unnamed a) vars parts.0 in
      let (v, ev, fv) = step (unnamed a ∷ vars) u (result_from_proper env a parts.0, g) h (transport (λ D. HasSome env D u) (sym C) parts.1) in (
        bare_one base.set_sym None v,
        map_to (bare_one base.set_sym None) _ v (ap (λ x. P' (unnamed x ∷ map forget vars)) (sym (forget_proper env a parts.0)) ∙ ev),
        transport (Fits env (bare_one base.set_sym None v) (context_of vars)) (sym e) (fit_binder env base.set_sym None v (context_of vars) a u i.binds_one tt (transport (λ D. Fits env v D u) C fv)),
      )

  to_over : (b : Boolean) (s : Sym) → binds s ≡ 0 → (set : Term → Type 0) (o : Option Bare) (C : List Ty) (t : Term)
      → ((u : Term) → set u → HasSome env C u → Resolved env o C u)
      → MatchBool b (set t) ((types : Tys) × (u : Term) × set u × (t ≡ with_one s types u)) → HasSome env C t → Resolved env (option_map (λ x. if b then x else bare_one s None x) o) C t
  to_over true s i set o C t step h k =
      let (v, ev, fv) = step t h k in
      (v, map_to (λ x. x) o v ev, fv)
  to_over false s i set o C t step (types, u, h, e) k =
      let (v, ev, fv) = step u h (plain_each env C s types (cons u nil) i (transport (HasSome env C) e k)).0 in
      (bare_one s None v, map_to (bare_one s None) o v ev, transport (Fits env (bare_one s None v) C) (sym e) (fit_node env s None (bare_more v bare_none) C types (cons u nil) i tt (u, nil, fv, refl, refl)))

  call_forget : (n : List ℕ) (vars : List Variable) (count : ℕ) (bs : Bares) → call_bare (meaning params known n (map forget vars) 0) n count bs ≡ call_bare (meaning params known n vars 0) n count bs
  call_forget n vars count bs = ap (λ m. call_bare m n count bs) (meaning_forget params known n vars 0)

  to_pattern : (x : Pattern) → StepTo (IsPattern params known (Typed env) x) (pattern_bare params known x)
  to_pattern (bound b) vars t g h k =
      let (v, ev, fv) = to_call env (meaning params known b.name vars 0) b.name 0 bare_none (context_of vars) nil t refl h in
      (v, call_forget b.name vars 0 bare_none ∙ ev, fv)
  to_pattern (pair x y) vars t g (types, u, w, hu, hw, e) k =
      let each = plain_each env (context_of vars) base.maps_to_sym types (cons u (cons w nil)) binds_maps_to (transport (HasSome env (context_of vars)) e k) in
      let (b, eb, fb) = to_pattern x vars u g hu each.0 in
      let (c, ec, fc) = to_pattern y vars w g hw each.1.0 in (
        bare_two base.maps_to_sym None b c,
        both_to (bare_two base.maps_to_sym None) _ _ b c eb ec,
        transport (Fits env (bare_two base.maps_to_sym None b c) (context_of vars)) (sym e) (two_fit env base.maps_to_sym (context_of vars) types b c u w binds_maps_to fb fc),
      )

  no_args : (es : Raws) (vars : List Variable) (ts : Terms) → count_of es ≡ 0 → GivesAll params known (Typed env) es vars ts → ts ≡ nil
  no_args none vars ts c h = h
  no_args (one e es) vars ts c h = absurd (omega (arith, c))

  call_children : (m : Meaning) (n : List ℕ) (es : Raws) (vars : List Variable) (C : List Ty) (ts : Terms) (t : Term) → GivesAll params known (Typed env) es vars ts → IsCall m n (count_of es) ts t → HasSome env C t → EachTyped env C ts
  call_children (variable i) n es vars C ts t h (inl (c, e)) k = transport (EachTyped env C) (sym (no_args es vars ts c h)) tt
  call_children (variable i) n es vars C ts t h (inr (c, (types, e))) k = (plain_each env C base.apply_sym types (cons (var i) ts) binds_apply (transport (HasSome env C) e k)).1
  call_children (predicate i) n es vars C ts t h (c, e) k = transport (EachTyped env C) (sym (no_args es vars ts c h)) tt
  call_children (parameter i) n es vars C ts t h (c, e) k = transport (EachTyped env C) (sym (no_args es vars ts c h)) tt
  call_children (symbol j) n es vars C ts t h (inl (c, types, e)) k = plain_each env C (User n) types ts (binds_user n) (transport (HasSome env C) e k)
  call_children (symbol j) n es vars C ts t h (inr (z, c, types, (types', e))) k = (plain_each env C base.apply_sym types' (cons (leaf (User n) types) ts) binds_apply (transport (HasSome env C) e k)).1
  call_children nothing n es vars C ts t h i k = absurd i

  -- where the whole disjunction of members is typed, its front is
  pub front_typed : (es : Raws) (a : Ty) (vars : List Variable) (front t : Term) → GivesMembers params known (Typed env) es a vars front t → HasSome env (context_of vars) t → HasSome env (context_of vars) front
  front_typed none a vars front t e k = transport (HasSome env (context_of vars)) e k
  front_typed (one e es) a vars front t (u, hu, rest) k =
      (plain_each env (context_of vars) base.or_sym Empty (cons front (cons (is_z a u) nil)) binds_or (front_typed es a vars (with_two base.or_sym Empty front (is_z a u)) t rest k)).0

  pub member_typed : (C : List Ty) (a : Ty) (u : Term) → HasSome env C (is_z a u) → HasSome env C u
  member_typed C a u h = (plain_each env C base.equal_sym (at_type a) (cons (var 0) (cons u nil)) binds_equal h).1.0

  z_fit : (C : List Ty) (a : Ty) (b : Bare) (u : Term) → Fits env b C u → Fits env (bare_z b) C (is_z a u)
  z_fit C a b u f = two_fit env base.equal_sym C (at_type a) (bare_var 0) b (var 0) u binds_equal refl f

  mutual
    pub to_bare : (raw : Raw) (vars : List Variable) (t : Term) → AreGood env vars → Gives params known (Typed env) raw vars t → HasSome env (context_of vars) t
        → Resolved env (resolve params known raw (map forget vars)) (context_of vars) t
    to_bare (word m) vars t g (inl h) k = to_word env (entry_of word_symbols m) m (context_of vars) t (word_plain m) h
    to_bare (word m) vars t g (inr (inl (e, q))) k = (type_bare Int, ap (λ n. word_bare (entry_of word_symbols n) n) e, type_resolved env (context_of vars) Int t q)
    to_bare (word m) vars t g (inr (inr (e, q))) k = (type_bare Bool, ap (λ n. word_bare (entry_of word_symbols n) n) e, type_resolved env (context_of vars) Bool t q)
    to_bare (literal n) vars t g h k = (bare_lit n, refl, h)
    to_bare (param i) vars t g h k = (type_bare (Param i), refl, type_resolved env (context_of vars) (Param i) t h)
    to_bare (type_set r) vars t g (a, e, h) k = (type_bare a, map_to type_bare (type_of_raw params known r) a e, type_resolved env (context_of vars) a t h)
    to_bare (call n es) vars t g (ts, h, c) k =
        let (bs, eb, fb) = all_to_bare es vars ts g h (call_children (meaning params known n vars 0) n es vars (context_of vars) ts t h c k) in
        let (b, ec, fc) = to_call env (meaning params known n vars 0) n (count_of es) bs (context_of vars) ts t fb c in
        (b, and_then_to _ _ bs b eb (call_forget n vars (count_of es) bs ∙ ec), fc)
    to_bare (around m e) vars t g (u, h, p) k =
        let (b, eb, fb) = to_bare e vars u g h (plain_children env (entry_of around_symbols m) (context_of vars) (cons u nil) t (around_plain m) p k).0 in
        let (c, ec, fc) = to_plain env (entry_of around_symbols m) (bare_more b bare_none) (context_of vars) (cons u nil) t (around_plain m) (u, nil, fb, refl, refl) p in
        (c, and_then_to _ _ b c eb ec, fc)
    to_bare (unary m e) vars t g (u, h, p) k =
        let (b, eb, fb) = to_bare e vars u g h (plain_children env (entry_of prefix_symbols m) (context_of vars) (cons u nil) t (prefix_plain m) p k).0 in
        let (c, ec, fc) = to_plain env (entry_of prefix_symbols m) (bare_more b bare_none) (context_of vars) (cons u nil) t (prefix_plain m) (u, nil, fb, refl, refl) p in
        (c, and_then_to _ _ b c eb ec, fc)
    to_bare (binary m e f) vars t g (u, v, hu, hv, p) k =
        let s = swaps (entry_of infix_symbols m) in
        let each = swapped_typed env (context_of vars) s u v (plain_children env (entry_of infix_symbols m) (context_of vars) (two_terms s u v) t (infix_plain m) p k) in
        let (b, eb, fb) = to_bare e vars u g hu each.0 in
        let (c, ec, fc) = to_bare f vars v g hv each.1 in
        let (d, ed, fd) = to_plain env (entry_of infix_symbols m) (two_bares s b c) (context_of vars) (two_terms s u v) t (infix_plain m) (swapped_fit env (context_of vars) s b c u v fb fc) p in
        (d, and_then_to _ _ (two_bares s b c) d (both_to (two_bares s) _ _ b c eb ec) ed, fd)
    to_bare (inverse e) vars t g (types, u, h, q) k =
        let (b, eb, fb) = to_bare e vars u g h (plain_each env (context_of vars) base.inverse_sym types (cons u nil) binds_inverse (transport (HasSome env (context_of vars)) q k)).0 in (
          bare_one base.inverse_sym None b,
          map_to (bare_one base.inverse_sym None) _ b eb,
          transport (Fits env (bare_one base.inverse_sym None b) (context_of vars)) (sym q) (fit_node env base.inverse_sym None (bare_more b bare_none) (context_of vars) types (cons u nil) binds_inverse tt (u, nil, fb, refl, refl)),
        )
    to_bare (apply e f) vars t g (types, u, v, hu, hv, q) k =
        let each = plain_each env (context_of vars) base.apply_sym types (cons u (cons v nil)) binds_apply (transport (HasSome env (context_of vars)) q k) in
        let (b, eb, fb) = to_bare e vars u g hu each.0 in
        let (c, ec, fc) = to_bare f vars v g hv each.1.0 in (
          bare_two base.apply_sym None b c,
          both_to (bare_two base.apply_sym None) _ _ b c eb ec,
          transport (Fits env (bare_two base.apply_sym None b c) (context_of vars)) (sym q) (two_fit env base.apply_sym (context_of vars) types b c u v binds_apply fb fc),
        )
    to_bare (image e f) vars t g (types, u, v, hu, hv, q) k =
        let each = plain_each env (context_of vars) base.image_sym types (cons u (cons v nil)) binds_image (transport (HasSome env (context_of vars)) q k) in
        let (b, eb, fb) = to_bare e vars u g hu each.0 in
        let (c, ec, fc) = to_bare f vars v g hv each.1.0 in (
          bare_two base.image_sym None b c,
          both_to (bare_two base.image_sym None) _ _ b c eb ec,
          transport (Fits env (bare_two base.image_sym None b c) (context_of vars)) (sym q) (two_fit env base.image_sym (context_of vars) types b c u v binds_image fb fc),
        )
    to_bare (of_type e r) vars t g (a, q, h, typed) k =
        let (b, eb, fb) = to_bare e vars t g h k in (
          bare_of b a,
          both_to bare_of _ _ b a eb q,
          (fb, written_proper env params known r a q (typed_result env signatures (context_of vars) (good_context env vars g) t a typed), typed),
        )
    to_bare (quantified m bs e) vars t g h k = to_binds (quantifier m) (quantifier_binder env m) bs (G e) (resolve params known e) (to_bare e) vars t g h k
    to_bare (set_of b e) vars t g h k = to_binds base.set_sym (set_binder env) (b ∷ []) (G e) (resolve params known e) (to_bare e) vars t g h k
    to_bare (collected m bs e f) vars t g h k =
        to_over (m == open_brace) (if m == union_over_word then base.big_union_sym else base.big_inter_sym) (binds_over m)
        (λ set. (a : Ty) × (u : Term) × Binds params known (Typed env) base.for_some_sym bs (IsCollected (G e) (G f) a (length bs)) (unnamed a ∷ vars) u × (set ≡ with_one base.set_sym (at_type a) u)) _ (context_of vars) t
        (λ v s l. to_set s.0 (Binds params known (Typed env) base.for_some_sym bs (IsCollected (G e) (G f) s.0 (length bs)))
        (bind_all params known base.for_some_sym bs (λ under. both (collected_bare (length bs)) (resolve params known e under) (resolve params known f under)))
        (to_binds base.for_some_sym (for_some_binder env) bs (IsCollected (G e) (G f) s.0 (length bs))
        (λ under. both (collected_bare (length bs)) (resolve params known e under) (resolve params known f under))
        (to_collected (length bs) s.0 (G e) (G f) (resolve params known e) (resolve params known f) (to_bare e) (to_bare f)))
        vars v s.1 g s.2 s.3 l)
        h k
    to_bare (lambda x e f) vars t g (a, u, h, q) k =
        to_set a _
        (bind_all params known base.for_some_sym (pattern_binders x) (λ under. both (collected_bare (length (pattern_binders x))) (resolve params known e under) (both (bare_two base.maps_to_sym None) (pattern_bare params known x under) (resolve params known f under))))
        (to_binds base.for_some_sym (for_some_binder env) (pattern_binders x) _
        (λ under. both (collected_bare (length (pattern_binders x))) (resolve params known e under) (both (bare_two base.maps_to_sym None) (pattern_bare params known x under) (resolve params known f under)))
        (to_collected (length (pattern_binders x)) a (G e) (λ under v. (types : Tys) × (y z : Term) × IsPattern params known (Typed env) x under y × G f under z × (v ≡ with_two base.maps_to_sym types y z))
        (resolve params known e) (λ under. both (bare_two base.maps_to_sym None) (pattern_bare params known x under) (resolve params known f under)) (to_bare e)
        (λ vs v gv s l.
        let each = plain_each env (context_of vs) base.maps_to_sym s.0 (cons s.1 (cons s.2 nil)) binds_maps_to (transport (HasSome env (context_of vs)) s.5 l) in
        let y = to_pattern x vs s.1 gv s.3 each.0 in
        let z = to_bare f vs s.2 gv s.4 each.1.0 in (
          bare_two base.maps_to_sym None y.0 z.0,
          both_to (bare_two base.maps_to_sym None) _ _ y.0 z.0 y.1 z.1,
          transport (Fits env (bare_two base.maps_to_sym None y.0 z.0) (context_of vs)) (sym s.5) (two_fit env base.maps_to_sym (context_of vs) s.0 y.0 z.0 s.1 s.2 binds_maps_to y.2 z.2),
        ))))
        vars t u g h q k
    to_bare (members none) vars t g (a, q) k =
        (bare_leaf base.empty_sym None, refl, transport (Fits env (bare_leaf base.empty_sym None) (context_of vars)) (sym q) (leaf_fit env (context_of vars) base.empty_sym (at_type a) binds_empty))
    to_bare (members (one e es)) vars t g (a, u, v, hu, rest, q) k =
        to_set a (λ vs w. (x : Term) × G e vs x × GivesMembers params known (Typed env) es a vs (is_z a x) w) (λ vs. option_and_then (λ b. resolve_members params known es vs (bare_z b)) (resolve params known e vs))
        (λ vs w gw s l.
        let x = to_bare e vs s.0 gw s.1 (member_typed (context_of vs) a s.0 (front_typed es a vs (is_z a s.0) w s.2 l)) in
        let y = members_to_bare es a vs (is_z a s.0) w (bare_z x.0) gw s.2 l (z_fit (context_of vs) a x.0 s.0 x.2) in
        (y.0, and_then_to _ _ x.0 y.0 x.1 y.1, y.2))
        vars t v g (u, hu, rest) q k
    to_bare (written r) vars t g h k = absurd h

    pub all_to_bare : (es : Raws) (vars : List Variable) (ts : Terms) → AreGood env vars → GivesAll params known (Typed env) es vars ts → EachTyped env (context_of vars) ts
        → AllResolved env (resolve_all params known es (map forget vars)) (context_of vars) ts
    all_to_bare none vars ts g h k = (bare_none, refl, h)
    all_to_bare (one e es) vars ts g (t, us, h, hs, q) k =
        let k' : HasSome env (context_of vars) t × EachTyped env (context_of vars) us = transport (EachTyped env (context_of vars)) q k in
        let (b, eb, fb) = to_bare e vars t g h k'.0 in
        let (bs, es', fs) = all_to_bare es vars us g hs k'.1 in
        (bare_more b bs, both_to bare_more _ _ b bs eb es', (t, us, fb, fs, q))

    pub members_to_bare : (es : Raws) (a : Ty) (vars : List Variable) (front t : Term) (bare : Bare) → AreGood env vars → GivesMembers params known (Typed env) es a vars front t → HasSome env (context_of vars) t
        → Fits env bare (context_of vars) front → Resolved env (resolve_members params known es (map forget vars) bare) (context_of vars) t
    members_to_bare none a vars front t bare g q k f = (bare, refl, transport (Fits env bare (context_of vars)) (sym q) f)
    members_to_bare (one e es) a vars front t bare g (u, hu, rest) k f =
        let C = context_of vars in
        let z = plain_each env C base.or_sym Empty (cons front (cons (is_z a u) nil)) binds_or (front_typed es a vars (with_two base.or_sym Empty front (is_z a u)) t rest k) in
        let (b, eb, fb) = to_bare e vars u g hu (member_typed C a u z.1.0) in
        let (c, ec, fc) = members_to_bare es a vars (with_two base.or_sym Empty front (is_z a u)) t (bare_two base.or_sym None bare (bare_z b)) g rest k
        (two_fit env base.or_sym C Empty bare (bare_z b) front (is_z a u) binds_or f (z_fit C a b u fb)) in
        (c, and_then_to _ _ b c eb ec, fc)
