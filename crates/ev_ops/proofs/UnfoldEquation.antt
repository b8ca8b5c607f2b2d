-- In a well-formed environment a direct operator unfolds to its unfolded body with the types and the unfolded arguments put in.
use Rattle.std.specs.Prelude.{◌≡◌, ◌⊎◌, ◌++◌, Bool as Boolean, true, false, List, [], ◌∷◌, Option, Some, None, map, flat_map, cond, bytes_eq, IsSomeAnd, option_map, refl}
use Rattle.std.proofs.Common.{sym, ap, ◌∙◌, subst as transport}
use Rattle.std.specs.List.{AllByRecursion, IsDistinct}
use mathlib.Core.Logic.{inl, inr}
use Rattle.std.proofs.lemmas.List.{append_assoc, append-nil}
use Rattle.std.proofs.lemmas.Grind.{flat_map-append}
use Rattle.std.proofs.lemmas.Slice.Eq.{bytes_eq-Decides}
use Rattle.ev_terms.specs.declared.types.Ty.{Ty}
use Rattle.ev_terms.specs.declared.types.Tys.{Tys}
use Rattle.ev_terms.specs.declared.types.Sym.{Sym}
use Rattle.ev_terms.specs.declared.types.Sym.TheVariants.{Base, User}
use Rattle.ev_terms.specs.Types.{type_list}
use Rattle.ev_terms.specs.Term.{Term, Terms, var, lit, node, nil, cons, term_list}
use Rattle.ev_terms.specs.Substitution.{fill, instance, type_inst, type_at}
use Rattle.ev_typing.specs.declared.typing.DataDecl.{DataDecl}
use Rattle.ev_typing.specs.declared.typing.Entry.{Entry}
use Rattle.ev_typing.specs.declared.typing.Entry.TheVariants.{Data, Constant, Direct, Recursive}
use Rattle.ev_typing.specs.declared.typing.Signature.{Signature}
use Rattle.ev_typing.specs.Profiles.{Profile}
use Rattle.ev_typing.specs.Env.{Env, Name, Symbol, look_up, symbols, datatypes, names, find_symbol, symbol_profile, profile}
use Rattle.ev_typing.specs.Typing.{Typed, AreTyped, IsTypedNode, inside}
use Rattle.ev_typing.specs.WellFormed.{IsWellFormed, AreGoodAfter, IsGoodEntry}
use Rattle.ev_ops.specs.Unfold.{Bodies, body_of, unfolded_node, unfold_by, unfold_all_by, bodies_after, unfolded}

-- P holds of some name
abbrev AnyOf : (Name → Type 0) → List Name → Type 0
AnyOf P [] = ⊥
AnyOf P (m ∷ ms) = P m ⊎ AnyOf P ms

-- The names of a list.
abbrev Has : List Name → Name → Type 0
Has ns n = AnyOf (λ m. m ≡ n) ns

has_left : (ms ns : List Name) (n : Name) → Has ms n → Has (ms ++ ns) n
has_left [] ns n h = absurd h
has_left (m ∷ ms) ns n (inl e) = inl e
has_left (m ∷ ms) ns n (inr h) = inr (has_left ms ns n h)

has_right : (ms ns : List Name) (n : Name) → Has ns n → Has (ms ++ ns) n
has_right [] ns n h = h
has_right (m ∷ ms) ns n h = inr (has_right ms ns n h)

split : (ms ns : List Name) (n : Name) → Has (ms ++ ns) n → Has ms n ⊎ Has ns n
split [] ns n h = inr h
split (m ∷ ms) ns n (inl e) = inl (inl e)
split (m ∷ ms) ns n (inr h) = later (split ms ns n h)
  where
    later : Has ms n ⊎ Has ns n → Has (m ∷ ms) n ⊎ Has ns n
    later (inl k) = inl (inr k)
    later (inr k) = inr k

same_bytes : (m n : Name) → m ≡ n → bytes_eq m n ≡ true
same_bytes m n e = (bytes_eq-Decides m n).1 e

pub bytes_same : (m n : Name) → bytes_eq m n ≡ true → m ≡ n
bytes_same m n e = (bytes_eq-Decides m n).0 e

apart : (m : Name) (ns : List Name) (n : Name) → AllByRecursion (λ k. bytes_eq m k ≡ false) ns → Has ns n → m ≡ n → ⊥
apart m [] n d h e = h
apart m (k ∷ ns) n d (inl q) e = let a = same_bytes m k (e ∙ sym q) in let b = d.0 in cc
apart m (k ∷ ns) n d (inr h) e = apart m ns n d.1 h e

-- no name stands both in the first and in the second part of a list of distinct names
distinct_parts : (ms ns : List Name) (n : Name) → IsDistinct bytes_eq (ms ++ ns) → Has ms n → Has ns n → ⊥
unfolding IsDistinct
distinct_parts [] ns n d h k = h
distinct_parts (m ∷ ms) ns n d (inl e) k = apart m (ms ++ ns) n d.0 (has_right ms ns n k) e
distinct_parts (m ∷ ms) ns n d (inr h) k = distinct_parts ms ns n d.1 h k

-- Looking up.
is_false : (b : Boolean) → (b ≡ true → ⊥) → b ≡ false
is_false true h = absurd (h refl)
is_false false h = refl

other_bytes : (m n : Name) → (m ≡ n → ⊥) → bytes_eq m n ≡ false
other_bytes m n h = is_false (bytes_eq m n) (λ e. h (bytes_same m n e))

choose : {X : Type 0} (b c : Boolean) (x y : X) → b ≡ c → cond b x y ≡ cond c x y
choose b c x y e = ap (λ d. cond d x y) e

add_other : (bs : Bodies) (m n : Name) (B : Term) → (m ≡ n → ⊥) → look_up (bs ++ (m, B) ∷ []) n ≡ look_up bs n
add_other [] m n B h = choose (bytes_eq m n) false (Some B) None (other_bytes m n h)
add_other (p ∷ bs) m n B h = ap (cond (bytes_eq p.0 n) (Some p.1)) (add_other bs m n B h)

past : (b : Boolean) (x : Term) (o : Option Term) → cond b (Some x) o ≡ None → (b ≡ false) × (o ≡ None)
past true x o e = absurd (no e)
  where
    no : ¬ (Some x ≡ None)
    no q = cc
past false x o e = (refl, e)

add_here : (bs : Bodies) (n : Name) (B : Term) → look_up bs n ≡ None → look_up (bs ++ (n, B) ∷ []) n ≡ Some B
add_here [] n B h = choose (bytes_eq n n) true (Some B) None (same_bytes n n refl)
add_here (p ∷ bs) n B h =
    let q = past (bytes_eq p.0 n) p.1 (look_up bs n) h in
    choose (bytes_eq p.0 n) false (Some p.1) (look_up (bs ++ (n, B) ∷ []) n) q.0 ∙ add_here bs n B q.1

-- entries that do not declare a name leave its body as it is
undeclared : (bs : Bodies) (es : List Entry) (n : Name) → (Has (flat_map names es) n → ⊥) → look_up (bodies_after bs es) n ≡ look_up bs n
undeclared bs [] n h = refl
undeclared bs (Data d ∷ es) n h = undeclared bs es n (λ k. h (has_right (names (Data d)) (flat_map names es) n k))
undeclared bs (Constant sig c ∷ es) n h = undeclared bs es n (λ k. h (inr k))
undeclared bs (Direct sig c body ∷ es) n h =
    undeclared (bs ++ (sig.name, unfold_by bs body) ∷ []) es n (λ k. h (inr k)) ∙ add_other bs sig.name n (unfold_by bs body) (λ e. h (inl e))
undeclared bs (Recursive sig c place bodies ∷ es) n h = undeclared bs es n (λ k. h (inr k))

pub bodies_after-append : (bs : Bodies) (es fs : List Entry) → bodies_after bs (es ++ fs) ≡ bodies_after (bodies_after bs es) fs
bodies_after-append bs [] fs = refl
bodies_after-append bs (Data d ∷ es) fs = bodies_after-append bs es fs
bodies_after-append bs (Constant sig c ∷ es) fs = bodies_after-append bs es fs
bodies_after-append bs (Direct sig c body ∷ es) fs = bodies_after-append (bs ++ (sig.name, unfold_by bs body) ∷ []) es fs
bodies_after-append bs (Recursive sig c place bodies ∷ es) fs = bodies_after-append bs es fs

-- A symbol that is found is declared.
found_in : (ps : List (Name × Symbol)) (n : Name) (x : Symbol) → look_up ps n ≡ Some x → Has (map (λ (p : Name × Symbol). p.0) ps) n
found_in [] n x e = cc
found_in (p ∷ ps) n x e = here (found_in ps n x) (bytes_eq p.0 n) refl e
  where
    here : (look_up ps n ≡ Some x → Has (map (λ (q : Name × Symbol). q.0) ps) n) → (b : Boolean) → bytes_eq p.0 n ≡ b → cond b (Some p.1) (look_up ps n) ≡ Some x → Has (map (λ (q : Name × Symbol). q.0) (p ∷ ps)) n
    here rest true t q = inl (bytes_same p.0 n t)
    here rest false t q = inr (rest q)

pub look_up_split : (ps qs : List (Name × Symbol)) (n : Name) (x : Symbol) → look_up (ps ++ qs) n ≡ Some x → (look_up ps n ≡ Some x) ⊎ (look_up qs n ≡ Some x)
look_up_split [] qs n x e = inr e
look_up_split (p ∷ ps) qs n x e = here (look_up_split ps qs n x) (bytes_eq p.0 n) e
  where
    here : (look_up (ps ++ qs) n ≡ Some x → (look_up ps n ≡ Some x) ⊎ (look_up qs n ≡ Some x)) → (b : Boolean) → cond b (Some p.1) (look_up (ps ++ qs) n) ≡ Some x → (cond b (Some p.1) (look_up ps n) ≡ Some x) ⊎ (look_up qs n ≡ Some x)
    here rest true q = inl q
    here rest false q = rest q

declared : (env : Env) (n : Name) (x : Symbol) → find_symbol env n ≡ Some x → Has (flat_map names env) n
declared [] n x e = cc
declared (d ∷ env) n x e = here (declared env n x) (look_up_split (symbols d) (flat_map symbols env) n x e)
  where
    here : (find_symbol env n ≡ Some x → Has (flat_map names env) n) → (look_up (symbols d) n ≡ Some x) ⊎ (find_symbol env n ≡ Some x) → Has (names d ++ flat_map names env) n
    here rest (inl q) = has_left (names d) (flat_map names env) n (has_right (map (λ (p : Name × DataDecl). p.0) (datatypes d)) (map (λ (p : Name × Symbol). p.0) (symbols d)) n (found_in (symbols d) n x q))
    here rest (inr q) = has_right (names d) (flat_map names env) n (rest q)

-- Two lists of bodies that agree on the symbols of an environment unfold its terms alike.
module _ (env : Env) (bs cs : Bodies) (agree : (n : Name) (x : Symbol) → find_symbol env n ≡ Some x → look_up bs n ≡ look_up cs n) where
  symbol_alike : (o : Option Symbol) (n : Name) → find_symbol env n ≡ o → (F : Profile → Type 0) → IsSomeAnd (option_map symbol_profile o) F → look_up bs n ≡ look_up cs n
  symbol_alike None n e F h = absurd h
  symbol_alike (Some x) n e F h = agree n x e

  body_alike : (s : Sym) (F : Profile → Type 0) → IsSomeAnd (profile env s) F → body_of bs s ≡ body_of cs s
  body_alike (Base k) F h = refl
  body_alike (User n) F h = symbol_alike (find_symbol env n) n refl F h

  node_alike : (s : Sym) (As : Tys) (ts us : Terms) (o p : Option Term) → o ≡ p → ts ≡ us → unfolded_node o s As ts ≡ unfolded_node p s As us
  node_alike s As ts us o p e f = ap (λ q. unfolded_node q s As ts) e ∙ ap (unfolded_node p s As) f

  children_of : (o : Option Profile) (As : Tys) (A : Ty) (C : Profile → Type 0) (R : Type 0) → IsSomeAnd o (λ p. IsTypedNode env As p A (C p)) → ((p : Profile) → C p → R) → R
  children_of None As A C R h f = absurd h
  children_of (Some p) As A C R h f = f p h.children

  mutual
    pub alike : (t : Term) (C : List Ty) (A : Ty) → Typed env C t A → unfold_by bs t ≡ unfold_by cs t
    alike (var i) C A h = refl
    alike (lit n) C A h = refl
    alike (node s As ts) C A h =
        node_alike s As (unfold_all_by bs ts) (unfold_all_by cs ts) (body_of bs s) (body_of cs s) (body_alike s _ h)
        (children_of (profile env s) As A (λ p. AreTyped env (inside C s As) ts (map (type_inst (type_at As)) p.args)) (unfold_all_by bs ts ≡ unfold_all_by cs ts) h
        (λ p k. all_alike ts (inside C s As) (map (type_inst (type_at As)) p.args) k))

    all_alike : (ts : Terms) (C : List Ty) (As : List Ty) → AreTyped env C ts As → unfold_all_by bs ts ≡ unfold_all_by cs ts
    all_alike nil C As h = refl
    all_alike (cons t ts) C [] h = absurd h
    all_alike (cons t ts) C (A ∷ As) h = let p = alike t C A h.0 in let q = all_alike ts C As h.1 in cc

-- the entry at a place is good over those before it
pub good_at : (env e r : List Entry) (d : Entry) → AreGoodAfter env (e ++ d ∷ r) → IsGoodEntry (env ++ e) d
good_at env [] r d h = transport (λ x. IsGoodEntry x d) (sym (append-nil env)) h.0
good_at env (x ∷ e) r d h = transport (λ y. IsGoodEntry y d) (append_assoc env (x ∷ []) e) (good_at (env ++ x ∷ []) e r d h.1)

-- Where a term is typed over the first entries of a sound environment, the whole unfolds it as these do.
pub unfolded-first : (e r : List Entry) (C : List Ty) (t : Term) (A : Ty) → IsWellFormed (e ++ r) → Typed e C t A → unfolded (e ++ r) t ≡ unfolded e t
unfolded-first e r C t A s h =
    ap (λ bs. unfold_by bs t) (bodies_after-append [] e r) ∙ alike e (bodies_after (bodies_after [] e) r) (bodies_after [] e) (λ n x q. agree n (declared e n x q)) t C A h
  where
    apart_names : IsDistinct bytes_eq (flat_map names e ++ flat_map names r)
    apart_names = transport (IsDistinct bytes_eq) (flat_map-append names e r) s.distinct

    agree : (n : Name) → Has (flat_map names e) n → look_up (bodies_after (bodies_after [] e) r) n ≡ look_up (bodies_after [] e) n
    agree n k = undeclared (bodies_after [] e) r n (distinct_parts (flat_map names e) (flat_map names r) n apart_names k)

-- The body of a direct operator.
pub direct_body : (e r : List Entry) (sig : Signature) (c : Option Term) (body : Term) → (s : IsWellFormed (e ++ Direct sig c body ∷ r))
    → look_up (bodies_after [] (e ++ Direct sig c body ∷ r)) sig.name ≡ Some (unfolded (e ++ Direct sig c body ∷ r) body)
direct_body e r sig c body s = the_body ∙ ap Some (sym whole)
  where
    d : Entry
    d = Direct sig c body

    good : IsGoodEntry e d
    good = good_at [] e r d s.entries

    whole : unfolded (e ++ d ∷ r) body ≡ unfolded e body
    whole = unfolded-first e (d ∷ r) (type_list sig.args) body sig.result s good.bodies.typed

    names_apart : IsDistinct bytes_eq (flat_map names e ++ (sig.name ∷ flat_map names r))
    names_apart = transport (IsDistinct bytes_eq) (flat_map-append names e (d ∷ r)) s.distinct

    not_before : Has (flat_map names e) sig.name → ⊥
    not_before k = distinct_parts (flat_map names e) (sig.name ∷ flat_map names r) sig.name names_apart k (inl refl)

    not_after : Has (flat_map names r) sig.name → ⊥
    not_after k = distinct_parts (flat_map names e ++ sig.name ∷ []) (flat_map names r) sig.name
        (transport (IsDistinct bytes_eq) (sym (append_assoc (flat_map names e) (sig.name ∷ []) (flat_map names r))) names_apart)
        (has_right (flat_map names e) (sig.name ∷ []) sig.name (inl refl)) k

    the_body : look_up (bodies_after [] (e ++ d ∷ r)) sig.name ≡ Some (unfolded e body)
    the_body = ap (λ bs. look_up bs sig.name) (bodies_after-append [] e (d ∷ r))
        ∙ undeclared (bodies_after [] e ++ (sig.name, unfolded e body) ∷ []) r sig.name not_after
        ∙ add_here (bodies_after [] e) sig.name (unfolded e body) (undeclared [] e sig.name not_before)

-- U at a direct operator: its unfolded body with the types and the unfolded arguments put in.
pub unfolded-direct : (e r : List Entry) (sig : Signature) (c : Option Term) (body : Term) (As : Tys) (ts : Terms) → (s : IsWellFormed (e ++ Direct sig c body ∷ r))
    → unfolded (e ++ Direct sig c body ∷ r) (node (User sig.name) As ts) ≡ fill (instance (unfolded (e ++ Direct sig c body ∷ r) body) As) (term_list (unfold_all_by (bodies_after [] (e ++ Direct sig c body ∷ r)) ts))
unfolded-direct e r sig c body As ts s =
    ap (λ o. unfolded_node o (User sig.name) As (unfold_all_by (bodies_after [] (e ++ Direct sig c body ∷ r)) ts)) (direct_body e r sig c body s)

-- No body is found under a name that the first entries do not have.
pub not_yet : (e r : List Entry) (sig : Signature) (c : Option Term) (body : Term) → IsWellFormed (e ++ Direct sig c body ∷ r) → look_up (bodies_after [] e) sig.name ≡ None
not_yet e r sig c body s = undeclared [] e sig.name not_before
  where
    not_before : Has (flat_map names e) sig.name → ⊥
    not_before k = distinct_parts (flat_map names e) (sig.name ∷ flat_map names r) sig.name (transport (IsDistinct bytes_eq) (flat_map-append names e (Direct sig c body ∷ r)) s.distinct) k (inl refl)
