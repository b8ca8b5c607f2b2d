-- Unfolding keeps types.
use Rattle.std.specs.Prelude.{◌≡◌, ◌⊎◌, ◌++◌, List, [], ◌∷◌, Option, Some, None, map, flat_map, reverse, cond, bytes_eq, option_map, Contains, refl}
use Rattle.std.specs.List.{IsDistinct}
use Rattle.std.proofs.Common.{inl, inr, ap, sym, ◌∙◌, subst as transport, append_assoc}
use Rattle.std.proofs.lemmas.Grind.{flat_map-append}
use Rattle.ev_terms.specs.declared.types.Ty.{Ty}
use Rattle.ev_terms.specs.declared.types.Tys.{Tys}
use Rattle.ev_terms.specs.declared.types.Sym.{Sym}
use Rattle.ev_terms.specs.declared.types.Sym.TheVariants.{Base, User}
use Rattle.ev_terms.specs.Types.{type_list}
use Rattle.ev_terms.specs.Term.{Term, Terms, var, lit, node, nil, cons, terms, term_list, terms-term_list}
use Rattle.ev_terms.specs.Symbols.{binds}
use Rattle.ev_terms.specs.Substitution.{entry, fill, instance, type_inst, type_at}
use Rattle.ev_typing.specs.declared.typing.Entry.{Entry}
use Rattle.ev_typing.specs.declared.typing.Entry.TheVariants.{Data, Constant, Direct, Recursive}
use Rattle.ev_typing.specs.declared.typing.Signature.{Signature}
use Rattle.ev_typing.specs.Profiles.{Profile}
use Rattle.ev_typing.specs.Env.{Env, Name, DirectOf, look_up, names, symbols, symbol_profile, signature_profile, profile}
use Rattle.ev_typing.specs.Parts.{IsPartOf, HasDistinctNames}
use Rattle.ev_typing.specs.Typing.{Typed, AreTyped, inside}
use Rattle.ev_typing.specs.WellFormed.{IsWellFormed, IsGoodEntry, AreGoodAfter}
use Rattle.ev_typing.proofs.Names.{name_same}
use Rattle.ev_typing.proofs.Checks.{inside_none}
use Rattle.ev_typing.proofs.Keeps.{inst_typed, some_map}
use Rattle.ev_typing.proofs.Entries.{symbols_named, distinct_left}
use Rattle.ev_typing.proofs.Wholes.{found_whole, whole_typed}
use Rattle.ev_typing.proofs.TypeInstances.{instance_typed}
use Rattle.ev_ops.specs.Unfold.{body_of, unfolded_node, unfold_all_by, bodies_after, unfolded}
use Rattle.ev_ops.proofs.UnfoldEquation.{bodies_after-append}
use Rattle.ev_ops.proofs.Basics.{append_nil, some_out, args_put, contains_first, contains_more}
use Rattle.ev_ops.proofs.Fitting.{contains_front, contains_last, last_found}

-- A body has the type that its operator says.
record IsTypedBody (env : Env) (n : Name) (B : Term) : Type 0 where
  sig : Signature
  condition : Option Term
  body : Term
  entry : Contains env (Direct sig condition body)
  named : sig.name ≡ n
  typed : Typed env (type_list sig.args) B sig.result

HasTypedBodies : Env → Type 0
HasTypedBodies env = (n : Name) (B : Term) → look_up (bodies_after [] env) n ≡ Some B → IsTypedBody env n B

profile_of : (env : Env) (n : Name) (B : Term) → HasDistinctNames env → (b : IsTypedBody env n B) → profile env (User n) ≡ Some (signature_profile b.sig)
profile_of env n B w b =
    ap (option_map symbol_profile)
    (found_whole symbols symbols_named env (Direct b.sig b.condition b.body) n (DirectOf b.sig b.condition b.body) w b.entry
    (ap (λ x. cond x (Some (DirectOf b.sig b.condition b.body)) None) (ap (λ m. bytes_eq m n) b.named ∙ name_same n)))

user_none : (n : Name) → binds (User n) ≡ 0
unfolding binds
user_none n = refl

module _ (env : Env) (w : IsWellFormed env) (bodies : HasTypedBodies env) where
  abbrev all_unfolded : Terms → Terms
  all_unfolded ts = unfold_all_by (bodies_after [] env) ts

  -- a symbol on unfolded children
  node_kept : (s : Sym) (As : Tys) (us : Terms) (C : List Ty) (A : Ty) (o : Option Term) → body_of (bodies_after [] env) s ≡ o → Typed env C (node s As us) A → Typed env C (unfolded_node o s As us) A
  unfolding HasTypedBodies
  node_kept s As us C A None e h = h
  node_kept (Base k) As us C A (Some B) e h = cc
  node_kept (User n) As us C A (Some B) e h =
      let b = bodies n B e in
      some_out (profile env (User n)) (λ q f g.
      let p : q ≡ signature_profile b.sig = (let z : Some (signature_profile b.sig) ≡ Some q = sym (profile_of env n B w.distinct b) ∙ f in cc) in
      let Es = map (type_inst (type_at As)) (type_list b.sig.args) in
      let args : AreTyped env C (terms (term_list us)) Es =
      transport (λ vs. AreTyped env C vs Es) (sym (terms-term_list us))
      (transport (λ (x : Profile). AreTyped env C us (map (type_inst (type_at As)) x.args)) p (transport (λ D. AreTyped env D us (map (type_inst (type_at As)) q.args)) (sym (inside_none C (User n) As (user_none n))) g.children)) in
      transport (Typed env C (fill (instance B As) (term_list us))) (sym (g.result ∙ ap (λ (x : Profile). type_inst (type_at As) x.result) p))
      (inst_typed env (entry (reverse (term_list us))) Es C (args_put env C Es (term_list us) args) (instance B As) (type_inst (type_at As) b.sig.result)
      (instance_typed env w As g.proper (type_list b.sig.args) B b.sig.result b.typed))) h

  mutual
    kept_type : (t : Term) (C : List Ty) (A : Ty) → Typed env C t A → Typed env C (unfolded env t) A
    kept_type (var i) C A h = h
    kept_type (lit n) C A h = h
    kept_type (node s As ts) C A h =
        node_kept s As (all_unfolded ts) C A (body_of (bodies_after [] env) s) refl
        (some_map (profile env s) (λ q f g. record { count = g.count; proper = g.proper; children = kept_types ts (inside C s As) (map (type_inst (type_at As)) q.args) g.children; result = g.result }) h)

    kept_types : (ts : Terms) (C As : List Ty) → AreTyped env C ts As → AreTyped env C (all_unfolded ts) As
    kept_types nil C As h = h
    kept_types (cons t ts) C [] h = h
    kept_types (cons t ts) C (A ∷ As) h = (kept_type t C A h.0, kept_types ts C As h.1)

-- Entries that are added.
all_contained : (e f : Env) → ((x : Entry) → Contains e x → Contains f x) → IsPartOf e f
all_contained [] f h = tt
all_contained (x ∷ e) f h =
    (h x (contains_first x e), all_contained e f (λ y c. h y (contains_more y x e c)))

front_part : (e r : Env) → IsPartOf e (e ++ r)
front_part e r = all_contained e (e ++ r) (λ x c. contains_front e r x c)

body_more : (e : Env) (d : Entry) (n : Name) (B : Term) → HasDistinctNames (e ++ d ∷ []) → IsTypedBody e n B → IsTypedBody (e ++ d ∷ []) n B
body_more e d n B w b = record {
  sig = b.sig;
  condition = b.condition;
  body = b.body;
  entry = contains_front e (d ∷ []) (Direct b.sig b.condition b.body) b.entry;
  named = b.named;
  typed = whole_typed e (e ++ d ∷ []) (front_part e (d ∷ [])) w (type_list b.sig.args) B b.sig.result b.typed;
}

kept : (e : Env) (d : Entry) → HasDistinctNames (e ++ d ∷ []) → bodies_after (bodies_after [] e) (d ∷ []) ≡ bodies_after [] e → HasTypedBodies e → HasTypedBodies (e ++ d ∷ [])
unfolding HasTypedBodies
kept e d w same g n B h = body_more e d n B w (g n B (transport (λ bs. look_up bs n ≡ Some B) (bodies_after-append [] e (d ∷ []) ∙ same) h))

added : (e : Env) (sig : Signature) (c : Option Term) (body : Term) → IsWellFormed e → HasDistinctNames (e ++ Direct sig c body ∷ []) → IsGoodEntry e (Direct sig c body) → HasTypedBodies e → HasTypedBodies (e ++ Direct sig c body ∷ [])
unfolding HasTypedBodies
added e sig c body v w good g n B h = by (last_found (bodies_after [] e) sig.name n (unfolded e body) B (transport (λ bs. look_up bs n ≡ Some B) (bodies_after-append [] e (Direct sig c body ∷ [])) h))
  where
    by : (look_up (bodies_after [] e) n ≡ Some B) ⊎ ((sig.name ≡ n) × (unfolded e body ≡ B)) → IsTypedBody (e ++ Direct sig c body ∷ []) n B
    by (inl q) = body_more e (Direct sig c body) n B w (g n B q)
    by (inr q) = record {
      sig = sig;
      condition = c;
      body = body;
      entry = contains_last e (Direct sig c body);
      named = q.0;
      typed = whole_typed e (e ++ Direct sig c body ∷ []) (front_part e (Direct sig c body ∷ [])) w (type_list sig.args) B sig.result
          (transport (λ x. Typed e (type_list sig.args) x sig.result) q.1 (kept_type e v g body (type_list sig.args) sig.result good.bodies.typed));
    }

one_added : (e : Env) (d : Entry) → IsWellFormed e → HasDistinctNames (e ++ d ∷ []) → IsGoodEntry e d → HasTypedBodies e → HasTypedBodies (e ++ d ∷ [])
one_added e (Data d) v w good g = kept e (Data d) w refl g
one_added e (Constant sig c) v w good g = kept e (Constant sig c) w refl g
one_added e (Direct sig c body) v w good g = added e sig c body v w good g
one_added e (Recursive sig c place bodies) v w good g = kept e (Recursive sig c place bodies) w refl g

good_last : (p e : Env) (d : Entry) → AreGoodAfter p e → IsGoodEntry (p ++ e) d → AreGoodAfter p (e ++ d ∷ [])
good_last p [] d h k = (transport (λ x. IsGoodEntry x d) (append_nil p) k, tt)
good_last p (x ∷ e) d h k = (h.0, good_last (p ++ x ∷ []) e d h.1 (transport (λ y. IsGoodEntry y d) (sym (append_assoc p (x ∷ []) e)) k))

pub front_distinct : (e r : Env) → HasDistinctNames (e ++ r) → HasDistinctNames e
front_distinct e r w = distinct_left (flat_map names e) (flat_map names r) (transport (IsDistinct bytes_eq) (flat_map-append names e r) w)

all_added : (e r : Env) → HasDistinctNames (e ++ r) → AreGoodAfter [] e → HasTypedBodies e → AreGoodAfter e r → HasTypedBodies (e ++ r)
all_added e [] w v g h = transport HasTypedBodies (sym (append_nil e)) g
all_added e (d ∷ r) w v g h =
    let w' : HasDistinctNames ((e ++ d ∷ []) ++ r) = transport HasDistinctNames (sym (append_assoc e (d ∷ []) r)) w in
    transport HasTypedBodies (append_assoc e (d ∷ []) r)
    (all_added (e ++ d ∷ []) r w' (good_last [] e d v h.0)
    (one_added e d (record { distinct = front_distinct e (d ∷ r) w; entries = v }) (front_distinct (e ++ d ∷ []) r w') h.0 g) h.1)

none_typed : HasTypedBodies []
unfolding HasTypedBodies
none_typed n B h = cc

-- Unfolding keeps types.
pub unfolded_typed : (env : Env) → IsWellFormed env → (C : List Ty) (t : Term) (A : Ty) → Typed env C t A → Typed env C (unfolded env t) A
unfolded_typed env w C t A h = kept_type env w (all_added [] env w.distinct tt none_typed w.entries) t C A h
