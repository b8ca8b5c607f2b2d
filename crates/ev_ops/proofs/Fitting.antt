-- Typed terms give each direct operator as many types and arguments as its unfolded body wants, so unfolding commutes with shift,
-- substitution and type instance.
use Rattle.std.specs.Prelude.{◌≡◌, ◌⊎◌, ◌-◌, ◌++◌, ◌≤◌, ◌<◌, ℕ, zero, suc, Bool as Boolean, true, false, List, [], ◌∷◌, Option, Some, None, map, flat_map, length, max, reverse, slice_get, cond, bytes_eq, option_map, Contains, refl}
use Rattle.std.specs.Option.{unwrap_or}
use Rattle.std.specs.List.{AllByRecursion, IsDistinct}
use Rattle.std.proofs.Common.{inl, inr, ap, sym, ◌∙◌, subst as transport, arith, append_assoc}
use Rattle.std.proofs.lemmas.List.{length-reverse, length-map}
use Rattle.std.proofs.lemmas.Grind.{flat_map-append}
use Rattle.ev_terms.specs.declared.types.Ty.{Ty, Param}
use Rattle.ev_terms.specs.declared.types.Tys.{Tys, Empty}
use Rattle.ev_terms.specs.declared.types.Sym.{Sym}
use Rattle.ev_terms.specs.declared.types.Sym.TheVariants.{Base, User}
use Rattle.ev_terms.specs.Types.{more, type_list}
use Rattle.ev_terms.specs.Term.{Term, Terms, var, lit, node, nil, cons, terms, term_list}
use Rattle.ev_terms.specs.Symbols.{binds}
use Rattle.ev_terms.specs.Measures.{loose, all_loose, params, all_params, types_params, type_params}
use Rattle.ev_terms.specs.Substitution.{entry, fill, instance, type_inst, type_at}
use Rattle.ev_terms.proofs.Fits.{loose_inst_le}
use Rattle.ev_terms.proofs.Sizes.{loose-retype, params_inst_le, params_retype_le}
use Rattle.ev_typing.specs.declared.typing.Entry.{Entry}
use Rattle.ev_typing.specs.declared.typing.Entry.TheVariants.{Data, Constant, Direct, Recursive}
use Rattle.ev_typing.specs.declared.typing.Signature.{Signature}
use Rattle.ev_typing.specs.Profiles.{Profile}
use Rattle.ev_typing.specs.Env.{Env, Name, DirectOf, look_up, names, symbols, find_symbol, symbol_profile, signature_profile, profile}
use Rattle.ev_typing.specs.Parts.{HasDistinctNames}
use Rattle.ev_typing.specs.Typing.{Typed, AreTyped, inside}
use Rattle.ev_typing.specs.WellFormed.{IsWellFormed, IsGoodEntry, AreGoodAfter}
use Rattle.ev_typing.proofs.Names.{name_same, same_name}
use Rattle.ev_typing.proofs.Entries.{symbols_named, distinct_left}
use Rattle.ev_typing.proofs.Wholes.{found_whole}
use Rattle.ev_ops.specs.Unfold.{Bodies, body_of, unfolded_node, unfold_by, unfold_all_by, bodies_after, unfolded}
use Rattle.ev_ops.proofs.UnfoldEquation.{bodies_after-append}
use Rattle.ev_ops.specs.UnfoldLaws.{IsTyped, UnfoldedOfShift, UnfoldedOfSubstitution, UnfoldedOfInstance}
use Rattle.ev_ops.proofs.Basics.{append_nil, all_reverse, some_out, typed_loose, contains_more, contains_first}
use Rattle.ev_ops.specs.inner.Fit.{FitsBody, IsFit, AreFit}
use Rattle.ev_ops.proofs.Commuting.{unfold_shift, unfold_subst, unfold_retype}

-- Unfolding brings in no loose variable and no type parameter.
entry_all : (P : Term → Type 0) (ts : List Term) (i : ℕ) → AllByRecursion P ts → i < length ts → P (entry ts i)
entry_all P [] i h k = absurd (omega arith)
entry_all P (t ∷ ts) zero h k = h.0
entry_all P (t ∷ ts) (suc i) h k = entry_all P ts i h.1 (omega arith)

all_loose_each : (ts : Terms) (m : ℕ) → all_loose ts ≤ m → AllByRecursion (λ t. loose t ≤ m) (term_list ts)
all_loose_each nil m h = tt
all_loose_each (cons t ts) m h = (omega arith, all_loose_each ts m (omega arith))

all_params_each : (ts : Terms) (m : ℕ) → all_params ts ≤ m → AllByRecursion (λ t. params t ≤ m) (term_list ts)
all_params_each nil m h = tt
all_params_each (cons t ts) m h = (omega arith, all_params_each ts m (omega arith))

type_at_params : (As : Tys) (i : ℕ) → i < length (type_list As) → type_params (type_at As i) ≤ types_params As
type_at_params As i h = by As i (Param i) h
  where
    by : (Bs : Tys) (j : ℕ) (d : Ty) → j < length (type_list Bs) → type_params (unwrap_or (slice_get (type_list Bs) j) d) ≤ types_params Bs
    by Empty j d k = absurd (omega arith)
    by (more B Bs) zero d k = omega arith
    by (more B Bs) (suc j) d k = let p = by Bs j d (omega arith) in omega arith

module _ (bs : Bodies) where
  unfolded_count : (ts : Terms) → length (term_list (unfold_all_by bs ts)) ≡ length (term_list ts)
  unfolded_count nil = refl
  unfolded_count (cons t ts) = ap suc (unfolded_count ts)

  node_loose : (s : Sym) (As : Tys) (ts us : Terms) (o : Option Term) → ((B : Term) → o ≡ Some B → FitsBody B As (length (term_list us))) → ((B : Term) → o ≡ Some B → binds s ≡ 0) → all_loose us ≤ all_loose ts →
      loose (unfolded_node o s As us) ≤ all_loose ts - binds s
  node_loose s As ts us None h z k = omega arith
  node_loose s As ts us (Some B) h z k =
      let e = z B refl in
      let f = (h B refl).arguments in
      let low : loose (fill (instance B As) (term_list us)) ≤ all_loose ts =
      loose_inst_le (instance B As) (all_loose ts) (entry (reverse (term_list us)))
      (λ i l. entry_all (λ t. loose t ≤ all_loose ts) (reverse (term_list us)) i (all_reverse (λ t. loose t ≤ all_loose ts) (term_list us) (all_loose_each us (all_loose ts) k))
      (omega (arith, l, f, loose-retype B (type_at As), length-reverse (term_list us)))) in
      omega (arith, low, e)

  node_params : (s : Sym) (As : Tys) (ts us : Terms) (o : Option Term) → ((B : Term) → o ≡ Some B → FitsBody B As (length (term_list us))) → all_params us ≤ all_params ts →
      params (unfolded_node o s As us) ≤ max (types_params As) (all_params ts)
  node_params s As ts us None h k = omega arith
  node_params s As ts us (Some B) h k =
      let f = h B refl in
      let args = f.arguments in
      let pars = f.parameters in
      let a : params (instance B As) ≤ types_params As = params_retype_le B (types_params As) (type_at As) (λ i l. type_at_params As i (omega (arith, l, pars))) in
      let b : params (fill (instance B As) (term_list us)) ≤ max (params (instance B As)) (all_params ts) =
      params_inst_le (instance B As) (all_params ts) (entry (reverse (term_list us)))
      (λ i l. entry_all (λ t. params t ≤ all_params ts) (reverse (term_list us)) i (all_reverse (λ t. params t ≤ all_params ts) (term_list us) (all_params_each us (all_params ts) k))
      (omega (arith, l, args, loose-retype B (type_at As), length-reverse (term_list us)))) in
      omega (arith, a, b)

  no_binder : (s : Sym) (B : Term) → body_of bs s ≡ Some B → binds s ≡ 0
  unfolding binds
  no_binder (Base k) B e = cc
  no_binder (User n) B e = refl

  mutual
    pub unfold_loose : (t : Term) → IsFit bs t → loose (unfold_by bs t) ≤ loose t
    unfold_loose (var i) h = omega arith
    unfold_loose (lit n) h = omega arith
    unfold_loose (node s As ts) h = node_loose s As ts (unfold_all_by bs ts) (body_of bs s) (λ B e. transport (FitsBody B As) (sym (unfolded_count ts)) (h.0 B e)) (no_binder s) (unfold_all_loose ts h.1)

    unfold_all_loose : (ts : Terms) → AreFit bs ts → all_loose (unfold_all_by bs ts) ≤ all_loose ts
    unfold_all_loose nil h = omega arith
    unfold_all_loose (cons t ts) h = let p = unfold_loose t h.0 in let q = unfold_all_loose ts h.1 in omega (arith, p, q)

  mutual
    pub unfold_params : (t : Term) → IsFit bs t → params (unfold_by bs t) ≤ params t
    unfold_params (var i) h = omega arith
    unfold_params (lit n) h = omega arith
    unfold_params (node s As ts) h = node_params s As ts (unfold_all_by bs ts) (body_of bs s) (λ B e. transport (FitsBody B As) (sym (unfolded_count ts)) (h.0 B e)) (unfold_all_params ts h.1)

    unfold_all_params : (ts : Terms) → AreFit bs ts → all_params (unfold_all_by bs ts) ≤ all_params ts
    unfold_all_params nil h = omega arith
    unfold_all_params (cons t ts) h = let p = unfold_params t h.0 in let q = unfold_all_params ts h.1 in omega (arith, p, q)

-- A body with the operator that it belongs to.
pub record IsBodyOf (env : Env) (n : Name) (B : Term) : Type 0 where
  pub sig : Signature
  pub condition : Option Term
  pub body : Term
  pub entry : Contains env (Direct sig condition body)
  pub named : sig.name ≡ n
  pub arguments : loose B ≤ length (type_list sig.args)
  pub parameters : params B ≤ sig.params

pub AreBodies : Env → Type 0
AreBodies env = (n : Name) (B : Term) → look_up (bodies_after [] env) n ≡ Some B → IsBodyOf env n B

pub body_found : (env : Env) (n : Name) (B : Term) → HasDistinctNames env → (b : IsBodyOf env n B) → find_symbol env n ≡ Some (DirectOf b.sig b.condition b.body)
body_found env n B w b =
    found_whole symbols symbols_named env (Direct b.sig b.condition b.body) n (DirectOf b.sig b.condition b.body) w b.entry
    (ap (λ x. cond x (Some (DirectOf b.sig b.condition b.body)) None) (ap (λ m. bytes_eq m n) b.named ∙ name_same n))

typed_count : (env : Env) (D : List Ty) (ts : Terms) (Es : List Ty) → AreTyped env D ts Es → length (term_list ts) ≡ length Es
typed_count env D nil [] h = refl
typed_count env D nil (E ∷ Es) h = absurd h
typed_count env D (cons t ts) [] h = absurd h
typed_count env D (cons t ts) (E ∷ Es) h = ap suc (typed_count env D ts Es h.1)

profile_is : (env : Env) (n : Name) (q : Profile) (sig : Signature) (c : Option Term) (body : Term) → profile env (User n) ≡ Some q → find_symbol env n ≡ Some (DirectOf sig c body) → q ≡ signature_profile sig
profile_is env n q sig c body f g = let z : Some (signature_profile sig) ≡ Some q = sym (ap (option_map symbol_profile) g) ∙ f in cc

module _ (env : Env) (w : HasDistinctNames env) (bodies : AreBodies env) where
  fits : (s : Sym) (As : Tys) (n : ℕ) (q : Profile) (B : Term) → profile env s ≡ Some q → length (type_list As) ≡ q.params → n ≡ length q.args → body_of (bodies_after [] env) s ≡ Some B → FitsBody B As n
  unfolding AreBodies
  fits (Base k) As n q B f e g h = cc
  fits (User m) As n q B f e g h =
      let b = bodies m B h in
      let p = profile_is env m q b.sig b.condition b.body f (body_found env m B w b) in
      let p' : q.params ≡ b.sig.params = ap (λ (x : Profile). x.params) p in
      let p'' : length q.args ≡ length (type_list b.sig.args) = ap (λ (x : Profile). length x.args) p in
      let l = b.arguments in
      let r = b.parameters in
      record { arguments = omega (arith, l, p'', g); parameters = omega (arith, r, p', e) }

  mutual
    pub typed_fit : (t : Term) (C : List Ty) (A : Ty) → Typed env C t A → IsFit (bodies_after [] env) t
    typed_fit (var i) C A h = tt
    typed_fit (lit n) C A h = tt
    typed_fit (node s As ts) C A h =
        some_out (profile env s) (λ q f g. (
          (λ B e. fits s As (length (term_list ts)) q B f g.count (typed_count env (inside C s As) ts (map (type_inst (type_at As)) q.args) g.children ∙ length-map q.args (type_inst (type_at As))) e),
          all_typed_fit ts (inside C s As) (map (type_inst (type_at As)) q.args) g.children,
        )) h

    pub all_typed_fit : (ts : Terms) (C As : List Ty) → AreTyped env C ts As → AreFit (bodies_after [] env) ts
    all_typed_fit nil C As h = tt
    all_typed_fit (cons t ts) C [] h = absurd h
    all_typed_fit (cons t ts) C (A ∷ As) h = (typed_fit t C A h.0, all_typed_fit ts C As h.1)

-- Entries that are added.
pub contains_front : {X : Type 0} (xs ys : List X) (x : X) → Contains xs x → Contains (xs ++ ys) x
contains_front [] ys x (k, h, e) = absurd (omega arith)
contains_front (z ∷ xs) ys x (zero, h, e) = (0, omega arith, e)
contains_front (z ∷ xs) ys x (suc k, h, e) = contains_more x z (xs ++ ys) (contains_front xs ys x (k, omega arith, e))

pub contains_last : {X : Type 0} (xs : List X) (x : X) → Contains (xs ++ x ∷ []) x
contains_last [] x = contains_first x []
contains_last (y ∷ xs) x = contains_more x y (xs ++ x ∷ []) (contains_last xs x)

body_more : (e : Env) (d : Entry) (n : Name) (B : Term) → IsBodyOf e n B → IsBodyOf (e ++ d ∷ []) n B
body_more e d n B b = record {
  sig = b.sig;
  condition = b.condition;
  body = b.body;
  entry = contains_front e (d ∷ []) (Direct b.sig b.condition b.body) b.entry;
  named = b.named;
  arguments = b.arguments;
  parameters = b.parameters;
}

pub last_found : (ps : Bodies) (m n : Name) (y x : Term) → look_up (ps ++ (m, y) ∷ []) n ≡ Some x → (look_up ps n ≡ Some x) ⊎ ((m ≡ n) × (y ≡ x))
last_found [] m n y x e = here (bytes_eq m n) refl e
  where
    here : (b : Boolean) → bytes_eq m n ≡ b → cond b (Some y) None ≡ Some x → (None ≡ Some x) ⊎ ((m ≡ n) × (y ≡ x))
    here true f q = inr (same_name m n f, cc)
    here false f q = inl q
last_found (p ∷ ps) m n y x e = here (last_found ps m n y x) (bytes_eq p.0 n) e
  where
    here : (look_up (ps ++ (m, y) ∷ []) n ≡ Some x → (look_up ps n ≡ Some x) ⊎ ((m ≡ n) × (y ≡ x))) → (b : Boolean) → cond b (Some p.1) (look_up (ps ++ (m, y) ∷ []) n) ≡ Some x →
        (cond b (Some p.1) (look_up ps n) ≡ Some x) ⊎ ((m ≡ n) × (y ≡ x))
    here rest true q = inl q
    here rest false q = rest q

kept : (e : Env) (d : Entry) → bodies_after (bodies_after [] e) (d ∷ []) ≡ bodies_after [] e → AreBodies e → AreBodies (e ++ d ∷ [])
unfolding AreBodies
kept e d same g n B h = body_more e d n B (g n B (transport (λ bs. look_up bs n ≡ Some B) (bodies_after-append [] e (d ∷ []) ∙ same) h))

added : (e : Env) (sig : Signature) (c : Option Term) (body : Term) → HasDistinctNames e → IsGoodEntry e (Direct sig c body) → AreBodies e → AreBodies (e ++ Direct sig c body ∷ [])
unfolding AreBodies
added e sig c body w good g n B h = by (last_found (bodies_after [] e) sig.name n (unfolded e body) B (transport (λ bs. look_up bs n ≡ Some B) (bodies_after-append [] e (Direct sig c body ∷ [])) h))
  where
    fit : IsFit (bodies_after [] e) body
    fit = typed_fit e w g body (type_list sig.args) sig.result good.bodies.typed

    by : (look_up (bodies_after [] e) n ≡ Some B) ⊎ ((sig.name ≡ n) × (unfolded e body ≡ B)) → IsBodyOf (e ++ Direct sig c body ∷ []) n B
    by (inl q) = body_more e (Direct sig c body) n B (g n B q)
    by (inr q) =
        let l = unfold_loose (bodies_after [] e) body fit in
        let l' = typed_loose e (type_list sig.args) body sig.result good.bodies.typed in
        let r = unfold_params (bodies_after [] e) body fit in
        let r' = good.bodies.parameters in
        record {
          sig = sig;
          condition = c;
          body = body;
          entry = contains_last e (Direct sig c body);
          named = q.0;
          arguments = transport (λ x. loose x ≤ length (type_list sig.args)) q.1 (omega (arith, l, l'));
          parameters = transport (λ x. params x ≤ sig.params) q.1 (omega (arith, r, r'));
        }

one_added : (e : Env) (d : Entry) → HasDistinctNames e → IsGoodEntry e d → AreBodies e → AreBodies (e ++ d ∷ [])
one_added e (Data d) w good g = kept e (Data d) refl g
one_added e (Constant sig c) w good g = kept e (Constant sig c) refl g
one_added e (Direct sig c body) w good g = added e sig c body w good g
one_added e (Recursive sig c place bodies) w good g = kept e (Recursive sig c place bodies) refl g

all_added : (e r : Env) → HasDistinctNames (e ++ r) → AreBodies e → AreGoodAfter e r → AreBodies (e ++ r)
all_added e [] w g h = transport AreBodies (sym (append_nil e)) g
all_added e (d ∷ r) w g h =
    transport AreBodies (append_assoc e (d ∷ []) r)
    (all_added (e ++ d ∷ []) r (transport HasDistinctNames (sym (append_assoc e (d ∷ []) r)) w)
    (one_added e d (distinct_left (flat_map names e) (flat_map names (d ∷ r)) (transport (IsDistinct bytes_eq) (flat_map-append names e (d ∷ r)) w)) h.0 g) h.1)

none_bodies : AreBodies []
unfolding AreBodies
none_bodies n B h = cc

pub are_bodies : (env : Env) → IsWellFormed env → AreBodies env
are_bodies env w = all_added [] env w.distinct none_bodies w.entries

pub found_body : (env : Env) → IsWellFormed env → (n : Name) (B : Term) → look_up (bodies_after [] env) n ≡ Some B → IsBodyOf env n B
unfolding AreBodies
found_body env w n B h = are_bodies env w n B h

-- Typed terms of a well-formed environment.
pub fit_of : (env : Env) → IsWellFormed env → (C : List Ty) (t : Term) (A : Ty) → Typed env C t A → IsFit (bodies_after [] env) t
fit_of env w C t A h = typed_fit env w.distinct (are_bodies env w) t C A h

pub fit_list : (env : Env) → IsWellFormed env → (C : List Ty) (ts : List Term) (As : List Ty) → AreTyped env C (terms ts) As → AllByRecursion (IsFit (bodies_after [] env)) ts
fit_list env w C [] As h = tt
fit_list env w C (t ∷ ts) [] h = absurd h
fit_list env w C (t ∷ ts) (A ∷ As) h = (fit_of env w C t A h.0, fit_list env w C ts As h.1)

-- terms that have types, each in a context of its own
pub each_fit : (env : Env) → IsWellFormed env → (ts : List Term) → AllByRecursion (IsTyped env) ts → AllByRecursion (IsFit (bodies_after [] env)) ts
each_fit env w [] h = tt
each_fit env w (t ∷ ts) h = (fit_of env w h.0.0 t h.0.1 h.0.2, each_fit env w ts h.1)

-- put into one that has a type
pub subst_unfolded : UnfoldedOfSubstitution
subst_unfolded env w t h ts g = unfold_subst (bodies_after [] env) t ts (each_fit env w ts g) (fit_of env w h.0 t h.1 h.2)

-- The laws of shift and of type instance.
pub shift_unfolded : UnfoldedOfShift
shift_unfolded env w C t A h from by = unfold_shift (bodies_after [] env) t from by (fit_of env w C t A h)

pub instance_unfolded : UnfoldedOfInstance
instance_unfolded env w C t A h As = unfold_retype (bodies_after [] env) t (type_at As) (fit_of env w C t A h)
