-- In a well-formed environment unfolding leaves no direct operator.
use Rattle.std.specs.Prelude.{◌≡◌, ◌⊎◌, ◌+◌, ◌++◌, ℕ, zero, suc, Bool as Boolean, true, false, List, [], ◌∷◌, Option, Some, None, map, flat_map, reverse, cond, bytes_eq, IsSomeAnd, IsFalse, option_map, ⊤, refl}
use Rattle.std.proofs.Common.{sym, ap, ◌∙◌, subst as transport}
use Rattle.std.proofs.lemmas.List.{append_assoc, append-nil}
use Rattle.std.proofs.lemmas.Grind.{flat_map-append}
use Rattle.std.specs.List.{AllByRecursion, enumerate_from}
use mathlib.Core.Logic.{inl, inr}
use mathlib.Core.List.{reverse_aux}
use Rattle.ev_terms.specs.declared.types.Ty.{Ty}
use Rattle.ev_terms.specs.declared.types.Tys.{Tys}
use Rattle.ev_terms.specs.declared.types.Sym.{Sym}
use Rattle.ev_terms.specs.declared.types.Sym.TheVariants.{Base, User}
use Rattle.ev_terms.specs.Types.{type_list}
use Rattle.ev_terms.specs.Term.{Term, Terms, var, lit, node, nil, cons, term_list}
use Rattle.ev_terms.specs.Symbols.{binds}
use Rattle.ev_terms.specs.Substitution.{shift, shifts, lift, lifts, inst, insts, entry, retype, retypes, type_inst, type_at, instance}
use Rattle.ev_typing.specs.declared.typing.Con.{Con}
use Rattle.ev_typing.specs.declared.typing.Var.{Var}
use Rattle.ev_typing.specs.declared.typing.DataDecl.{DataDecl}
use Rattle.ev_typing.specs.declared.typing.Entry.{Entry}
use Rattle.ev_typing.specs.declared.typing.Entry.TheVariants.{Data, Constant, Direct, Recursive}
use Rattle.ev_typing.specs.Profiles.{Profile}
use Rattle.ev_typing.specs.Env.{Env, Name, Symbol, DesOf, ConstantOf, DirectOf, RecursiveOf, look_up, con_symbols, symbols, find_symbol, symbol_profile, profile}
use Rattle.ev_typing.specs.Typing.{Typed, AreTyped, IsTypedNode, inside}
use Rattle.ev_typing.specs.Occurs.{IsPlain, ArePlain, is_direct, is_direct_symbol}
use Rattle.ev_typing.specs.WellFormed.{IsWellFormed, AreGoodAfter, IsGoodEntry}
use Rattle.ev_ops.specs.Unfold.{Bodies, body_of, unfolded_node, unfold_by, unfold_all_by, bodies_after, unfolded}
use Rattle.ev_ops.specs.UnfoldLaws.{UnfoldedIsPlain}
use Rattle.ev_ops.proofs.UnfoldEquation.{bodies_after-append}

-- Q holds of every symbol of the term
abbrev mutual
  pub Everywhere : (Sym → Type 0) → Term → Type 0
  Everywhere Q (var i) = ⊤
  Everywhere Q (lit n) = ⊤
  Everywhere Q (node s As ts) = Q s × AllEverywhere Q ts

  pub AllEverywhere : (Sym → Type 0) → Terms → Type 0
  AllEverywhere Q nil = ⊤
  AllEverywhere Q (cons t ts) = Everywhere Q t × AllEverywhere Q ts

mutual
  everywhere_map : (P Q : Sym → Type 0) → ((s : Sym) → P s → Q s) → (t : Term) → Everywhere P t → Everywhere Q t
  everywhere_map P Q f (var i) h = tt
  everywhere_map P Q f (lit n) h = tt
  everywhere_map P Q f (node s As ts) h = (f s h.0, all_everywhere_map P Q f ts h.1)

  all_everywhere_map : (P Q : Sym → Type 0) → ((s : Sym) → P s → Q s) → (ts : Terms) → AllEverywhere P ts → AllEverywhere Q ts
  all_everywhere_map P Q f nil h = tt
  all_everywhere_map P Q f (cons t ts) h = (everywhere_map P Q f t h.0, all_everywhere_map P Q f ts h.1)

-- Shift, substitution and type instance bring in no symbol of their own.
module _ (Q : Sym → Type 0) where
  mutual
    shift_keeps : (t : Term) (from by : ℕ) → Everywhere Q t → Everywhere Q (shift t from by)
    shift_keeps (var i) from by f = tt
    shift_keeps (lit n) from by f = tt
    shift_keeps (node s As ts) from by f = (f.0, shifts_keep ts (from + binds s) by f.1)

    shifts_keep : (ts : Terms) (from by : ℕ) → AllEverywhere Q ts → AllEverywhere Q (shifts ts from by)
    shifts_keep nil from by f = tt
    shifts_keep (cons t ts) from by f = (shift_keeps t from by f.0, shifts_keep ts from by f.1)

  lift_keeps : (σ : ℕ → Term) → ((i : ℕ) → Everywhere Q (σ i)) → (i : ℕ) → Everywhere Q (lift σ i)
  lift_keeps σ f zero = tt
  lift_keeps σ f (suc i) = shift_keeps (σ i) 0 1 (f i)

  lifts_keep : (n : ℕ) (σ : ℕ → Term) → ((i : ℕ) → Everywhere Q (σ i)) → (i : ℕ) → Everywhere Q (lifts n σ i)
  lifts_keep zero σ f i = f i
  lifts_keep (suc n) σ f i = lift_keeps (lifts n σ) (lifts_keep n σ f) i

  mutual
    inst_keeps : (t : Term) (σ : ℕ → Term) → ((i : ℕ) → Everywhere Q (σ i)) → Everywhere Q t → Everywhere Q (inst σ t)
    inst_keeps (var i) σ g f = g i
    inst_keeps (lit n) σ g f = tt
    inst_keeps (node s As ts) σ g f = (f.0, insts_keep ts (lifts (binds s) σ) (lifts_keep (binds s) σ g) f.1)

    insts_keep : (ts : Terms) (σ : ℕ → Term) → ((i : ℕ) → Everywhere Q (σ i)) → AllEverywhere Q ts → AllEverywhere Q (insts σ ts)
    insts_keep nil σ g f = tt
    insts_keep (cons t ts) σ g f = (inst_keeps t σ g f.0, insts_keep ts σ g f.1)

  mutual
    retype_keeps : (t : Term) (θ : ℕ → Ty) → Everywhere Q t → Everywhere Q (retype θ t)
    retype_keeps (var i) θ f = tt
    retype_keeps (lit n) θ f = tt
    retype_keeps (node s As ts) θ f = (f.0, retypes_keep ts θ f.1)

    retypes_keep : (ts : Terms) (θ : ℕ → Ty) → AllEverywhere Q ts → AllEverywhere Q (retypes θ ts)
    retypes_keep nil θ f = tt
    retypes_keep (cons t ts) θ f = (retype_keeps t θ f.0, retypes_keep ts θ f.1)

  entry_keeps : (ts : List Term) (i : ℕ) → AllByRecursion (Everywhere Q) ts → Everywhere Q (entry ts i)
  entry_keeps [] i f = tt
  entry_keeps (t ∷ ts) zero f = f.0
  entry_keeps (t ∷ ts) (suc i) f = entry_keeps ts i f.1

  onto_keeps : (ts us : List Term) → AllByRecursion (Everywhere Q) ts → AllByRecursion (Everywhere Q) us → AllByRecursion (Everywhere Q) (reverse_aux ts us)
  onto_keeps [] us f g = g
  onto_keeps (t ∷ ts) us f g = onto_keeps ts (t ∷ us) f.1 (f.0, g)

  list_keeps : (ts : Terms) → AllEverywhere Q ts → AllByRecursion (Everywhere Q) (term_list ts)
  list_keeps nil f = tt
  list_keeps (cons t ts) f = (f.0, list_keeps ts f.1)

  node_keeps : (s : Sym) (As : Tys) (ts : Terms) (o : Option Term) → (o ≡ None → Q s) → ((B : Term) → o ≡ Some B → Everywhere Q B) → AllEverywhere Q ts → Everywhere Q (unfolded_node o s As ts)
  node_keeps s As ts None e g f = (e refl, f)
  node_keeps s As ts (Some B) e g f =
      inst_keeps (instance B As) (entry (reverse (term_list ts))) (λ i. entry_keeps (reverse (term_list ts)) i (onto_keeps (term_list ts) [] (list_keeps ts f) tt)) (retype_keeps B (type_at As) (g B refl))

  -- where Q holds of the symbols without a body and of all symbols of the bodies, it holds of those of the unfolded term
  module _ (P : Sym → Type 0) (bodies : Bodies) (bare : (s : Sym) → P s → body_of bodies s ≡ None → Q s) (held : (s : Sym) (B : Term) → body_of bodies s ≡ Some B → Everywhere Q B) where
    mutual
      unfold_keeps : (t : Term) → Everywhere P t → Everywhere Q (unfold_by bodies t)
      unfold_keeps (var i) h = tt
      unfold_keeps (lit n) h = tt
      unfold_keeps (node s As ts) h = node_keeps s As (unfold_all_by bodies ts) (body_of bodies s) (bare s h.0) (held s) (unfold_all_keeps ts h.1)

      unfold_all_keeps : (ts : Terms) → AllEverywhere P ts → AllEverywhere Q (unfold_all_by bodies ts)
      unfold_all_keeps nil h = tt
      unfold_all_keeps (cons t ts) h = (unfold_keeps t h.0, unfold_all_keeps ts h.1)

-- The symbol is one of the environment; and it is no direct operator.
abbrev Dec : Env → Sym → Type 0
Dec env (Base k) = ⊤
Dec env (User n) = (x : Symbol) × (find_symbol env n ≡ Some x)

abbrev Good : Env → Sym → Type 0
Good env (Base k) = ⊤
Good env (User n) = (x : Symbol) × (find_symbol env n ≡ Some x) × (is_direct_symbol (Some x) ≡ false)

-- A typed term has symbols of the environment alone.
user_declared : (env : Env) (n : Name) (o : Option Symbol) → find_symbol env n ≡ o → (F : Profile → Type 0) → IsSomeAnd (option_map symbol_profile o) F → Dec env (User n)
user_declared env n None e F h = absurd h
user_declared env n (Some x) e F h = (x, e)

symbol_declared : (env : Env) (s : Sym) (F : Profile → Type 0) → IsSomeAnd (profile env s) F → Dec env s
symbol_declared env (Base k) F h = tt
symbol_declared env (User n) F h = user_declared env n (find_symbol env n) refl F h

children_of : (env : Env) (o : Option Profile) (As : Tys) (A : Ty) (C : Profile → Type 0) (R : Type 0) → IsSomeAnd o (λ p. IsTypedNode env As p A (C p)) → ((p : Profile) → C p → R) → R
children_of env None As A C R h f = absurd h
children_of env (Some p) As A C R h f = f p h.children

mutual
  typed_declared : (env : Env) (t : Term) (C : List Ty) (A : Ty) → Typed env C t A → Everywhere (Dec env) t
  typed_declared env (var i) C A h = tt
  typed_declared env (lit n) C A h = tt
  typed_declared env (node s As ts) C A h = (
    symbol_declared env s _ h,
    children_of env (profile env s) As A (λ p. AreTyped env (inside C s As) ts (map (type_inst (type_at As)) p.args)) (AllEverywhere (Dec env) ts) h
        (λ p k. all_typed_declared env ts (inside C s As) (map (type_inst (type_at As)) p.args) k),
  )

  all_typed_declared : (env : Env) (ts : Terms) (C : List Ty) (As : List Ty) → AreTyped env C ts As → AllEverywhere (Dec env) ts
  all_typed_declared env nil C As h = tt
  all_typed_declared env (cons t ts) C [] h = absurd h
  all_typed_declared env (cons t ts) C (A ∷ As) h = (typed_declared env t C A h.0, all_typed_declared env ts C As h.1)

-- Looking up in longer lists.
look_up_front : {X : Type 0} (ps qs : List (Name × X)) (n : Name) (x : X) → look_up ps n ≡ Some x → look_up (ps ++ qs) n ≡ Some x
look_up_front [] qs n x e = cc
look_up_front (p ∷ ps) qs n x e = here (look_up_front ps qs n x) (bytes_eq p.0 n) e
  where
    here : (look_up ps n ≡ Some x → look_up (ps ++ qs) n ≡ Some x) → (b : Boolean) → cond b (Some p.1) (look_up ps n) ≡ Some x → cond b (Some p.1) (look_up (ps ++ qs) n) ≡ Some x
    here rest true q = q
    here rest false q = rest q

last_of : {X : Type 0} (ps : List (Name × X)) (m n : Name) (y x : X) → look_up (ps ++ (m, y) ∷ []) n ≡ Some x → (look_up ps n ≡ Some x) ⊎ (y ≡ x)
last_of [] m n y x e = here (bytes_eq m n) e
  where
    here : (b : Boolean) → cond b (Some y) None ≡ Some x → (None ≡ Some x) ⊎ (y ≡ x)
    here true q = inr (cc)
    here false q = inl q
last_of (p ∷ ps) m n y x e = here (last_of ps m n y x) (bytes_eq p.0 n) e
  where
    here : (look_up (ps ++ (m, y) ∷ []) n ≡ Some x → (look_up ps n ≡ Some x) ⊎ (y ≡ x)) → (b : Boolean) → cond b (Some p.1) (look_up (ps ++ (m, y) ∷ []) n) ≡ Some x → (cond b (Some p.1) (look_up ps n) ≡ Some x) ⊎ (y ≡ x)
    here rest true q = inl q
    here rest false q = rest q

last_found : (ps : Bodies) (m n : Name) (y : Term) → bytes_eq m n ≡ true → (x : Term) × (look_up (ps ++ (m, y) ∷ []) n ≡ Some x)
last_found [] m n y e = (y, ap (λ b. cond b (Some y) None) e)
last_found (p ∷ ps) m n y e = here (last_found ps m n y e) (bytes_eq p.0 n)
  where
    here : ((x : Term) × (look_up (ps ++ (m, y) ∷ []) n ≡ Some x)) → (b : Boolean) → (x : Term) × (cond b (Some p.1) (look_up (ps ++ (m, y) ∷ []) n) ≡ Some x)
    here rest true = (p.1, refl)
    here rest false = rest

good_more : (e r : List Entry) (s : Sym) → Good e s → Good (e ++ r) s
good_more e r (Base k) h = tt
good_more e r (User n) h =
    (h.0, transport (λ ps. look_up ps n ≡ Some h.0) (sym (flat_map-append symbols e r)) (look_up_front (flat_map symbols e) (flat_map symbols r) n h.0 h.1), h.2)

-- A name without a body is no direct operator.
persists : (bs : Bodies) (es : List Entry) (n : Name) (B : Term) → look_up bs n ≡ Some B → look_up (bodies_after bs es) n ≡ Some B
persists bs [] n B h = h
persists bs (Data d ∷ es) n B h = persists bs es n B h
persists bs (Constant sig c ∷ es) n B h = persists bs es n B h
persists bs (Direct sig c body ∷ es) n B h = persists (bs ++ (sig.name, unfold_by bs body) ∷ []) es n B (look_up_front bs ((sig.name, unfold_by bs body) ∷ []) n B h)
persists bs (Recursive sig c place bodies ∷ es) n B h = persists bs es n B h

abbrev ArePlainSymbols : List (Name × Symbol) → Type 0
ArePlainSymbols ps = AllByRecursion (λ (p : Name × Symbol). is_direct_symbol (Some p.1) ≡ false) ps

plain_append : (ps qs : List (Name × Symbol)) → ArePlainSymbols ps → ArePlainSymbols qs → ArePlainSymbols (ps ++ qs)
plain_append [] qs f g = g
plain_append (p ∷ ps) qs f g = (f.0, plain_append ps qs f.1 g)

fields_plain : (d : DataDecl) (c : Con) (i : ℕ) (fs : List Var) → ArePlainSymbols (map (λ (f : ℕ × Var). (f.1.name, DesOf d c f.0 f.1)) (enumerate_from i fs))
fields_plain d c i [] = tt
fields_plain d c i (f ∷ fs) = (refl, fields_plain d c (i + 1) fs)

pub cons_plain : (d : DataDecl) (cs : List Con) → ArePlainSymbols (flat_map (con_symbols d) cs)
cons_plain d [] = tt
cons_plain d (c ∷ cs) = plain_append (con_symbols d c) (flat_map (con_symbols d) cs) (refl, fields_plain d c 0 c.fields) (cons_plain d cs)

choice_plain : (b : Boolean) (x : Symbol) (o : Option Symbol) → is_direct_symbol (Some x) ≡ false → is_direct_symbol o ≡ false → is_direct_symbol (cond b (Some x) o) ≡ false
choice_plain true x o f g = f
choice_plain false x o f g = g

pub look_up_plain : (ps qs : List (Name × Symbol)) (n : Name) → ArePlainSymbols ps → is_direct_symbol (look_up qs n) ≡ false → is_direct_symbol (look_up (ps ++ qs) n) ≡ false
look_up_plain [] qs n f g = g
look_up_plain (p ∷ ps) qs n f g = choice_plain (bytes_eq p.0 n) p.1 (look_up (ps ++ qs) n) f.0 (look_up_plain ps qs n f.1 g)

bare_plain : (bs : Bodies) (es : List Entry) (n : Name) → look_up (bodies_after bs es) n ≡ None → is_direct_symbol (look_up (flat_map symbols es) n) ≡ false
bare_plain bs [] n h = refl
bare_plain bs (Data d ∷ es) n h = look_up_plain (flat_map (con_symbols d) d.cons) (flat_map symbols es) n (cons_plain d d.cons) (bare_plain bs es n h)
bare_plain bs (Constant sig c ∷ es) n h = choice_plain (bytes_eq sig.name n) (ConstantOf sig c) (look_up (flat_map symbols es) n) refl (bare_plain bs es n h)
bare_plain bs (Direct sig c body ∷ es) n h = here (bare_plain (bs ++ (sig.name, unfold_by bs body) ∷ []) es n h) (bytes_eq sig.name n) refl
  where
    B : Term
    B = unfold_by bs body

    later : look_up (bodies_after (bs ++ (sig.name, B) ∷ []) es) n ≡ None
    later = h

    here : is_direct_symbol (look_up (flat_map symbols es) n) ≡ false → (b : Boolean) → bytes_eq sig.name n ≡ b → is_direct_symbol (cond b (Some (DirectOf sig c body)) (look_up (flat_map symbols es) n)) ≡ false
    here rest true e =
        let f = last_found bs sig.name n B e in
        let k = persists (bs ++ (sig.name, B) ∷ []) es n f.0 f.1 in
        let no : None ≡ Some f.0 = sym later ∙ k in cc
    here rest false e = rest
bare_plain bs (Recursive sig c place bodies ∷ es) n h = choice_plain (bytes_eq sig.name n) (RecursiveOf sig c place bodies) (look_up (flat_map symbols es) n) refl (bare_plain bs es n h)

-- The bodies of a sound environment have no direct operator.
AreGoodBodies : Env → Type 0
AreGoodBodies e = (n : Name) (B : Term) → look_up (bodies_after [] e) n ≡ Some B → Everywhere (Good e) B

more_good : (e : List Entry) (d : Entry) (t : Term) → Everywhere (Good e) t → Everywhere (Good (e ++ d ∷ [])) t
more_good e d t h = everywhere_map (Good e) (Good (e ++ d ∷ [])) (good_more e (d ∷ [])) t h

-- an entry that is no direct operator adds no body
kept : (e : List Entry) (d : Entry) → bodies_after (bodies_after [] e) (d ∷ []) ≡ bodies_after [] e → AreGoodBodies e → AreGoodBodies (e ++ d ∷ [])
unfolding AreGoodBodies
kept e d same g n B h = more_good e d B (g n B (transport (λ bs. look_up bs n ≡ Some B) (bodies_after-append [] e (d ∷ []) ∙ same) h))

bare_good : (e : List Entry) (s : Sym) → Dec e s → body_of (bodies_after [] e) s ≡ None → Good e s
bare_good e (Base k) h b = tt
bare_good e (User n) h b = (h.0, h.1, transport (λ o. is_direct_symbol o ≡ false) h.1 (bare_plain [] e n b))

held_good : (e : List Entry) → AreGoodBodies e → (s : Sym) (B : Term) → body_of (bodies_after [] e) s ≡ Some B → Everywhere (Good e) B
unfolding AreGoodBodies
held_good e g (Base k) B h = cc
held_good e g (User n) B h = g n B h

good_unfolded : (e : List Entry) (t : Term) (C : List Ty) (A : Ty) → AreGoodBodies e → Typed e C t A → Everywhere (Good e) (unfolded e t)
good_unfolded e t C A g h = unfold_keeps (Good e) (Dec e) (bodies_after [] e) (bare_good e) (held_good e g) t (typed_declared e t C A h)

added : (e : List Entry) (sig : Rattle.ev_typing.specs.declared.typing.Signature.Signature) (c : Option Term) (body : Term) → IsGoodEntry e (Direct sig c body) → AreGoodBodies e → AreGoodBodies (e ++ Direct sig c body ∷ [])
unfolding AreGoodBodies
added e sig c body good g n B h = here (last_of (bodies_after [] e) sig.name n (unfolded e body) B (transport (λ bs. look_up bs n ≡ Some B) (bodies_after-append [] e (Direct sig c body ∷ [])) h))
  where
    here : (look_up (bodies_after [] e) n ≡ Some B) ⊎ (unfolded e body ≡ B) → Everywhere (Good (e ++ Direct sig c body ∷ [])) B
    here (inl q) = more_good e (Direct sig c body) B (g n B q)
    here (inr q) = more_good e (Direct sig c body) B (transport (Everywhere (Good e)) q (good_unfolded e body (type_list sig.args) sig.result g good.bodies.typed))

step_good : (e : List Entry) (d : Entry) → IsGoodEntry e d → AreGoodBodies e → AreGoodBodies (e ++ d ∷ [])
step_good e (Data d) good g = kept e (Data d) refl g
step_good e (Constant sig c) good g = kept e (Constant sig c) refl g
step_good e (Direct sig c body) good g = added e sig c body good g
step_good e (Recursive sig c place bodies) good g = kept e (Recursive sig c place bodies) refl g

all_good : (e r : List Entry) → AreGoodBodies e → AreGoodAfter e r → AreGoodBodies (e ++ r)
all_good e [] g h = transport AreGoodBodies (sym (append-nil e)) g
all_good e (d ∷ r) g h = transport AreGoodBodies (append_assoc e (d ∷ []) r) (all_good (e ++ d ∷ []) r (step_good e d h.0 g) h.1)

none_good : AreGoodBodies []
unfolding AreGoodBodies
none_good n B h = cc

symbol_plain : (env : Env) (s : Sym) → Good env s → IsFalse (is_direct env s)
symbol_plain env (Base k) h = refl
symbol_plain env (User n) h = ap is_direct_symbol h.1 ∙ h.2

mutual
  all_plain : (env : Env) (t : Term) → Everywhere (Good env) t → IsPlain env t
  all_plain env (var i) h = tt
  all_plain env (lit n) h = tt
  all_plain env (node s As ts) h = (symbol_plain env s h.0, alls_plain env ts h.1)

  alls_plain : (env : Env) (ts : Terms) → AllEverywhere (Good env) ts → ArePlain env ts
  alls_plain env nil h = tt
  alls_plain env (cons t ts) h = (all_plain env t h.0, alls_plain env ts h.1)

-- Unfolding leaves no direct operator.
pub unfolded-plain : (env : Env) (C : List Ty) (t : Term) (A : Ty) → IsWellFormed env → Typed env C t A → IsPlain env (unfolded env t)
unfolded-plain env C t A s h = all_plain env (unfolded env t) (good_unfolded env t C A (all_good [] env none_good s.entries) h)

pub unfolded_is_plain : UnfoldedIsPlain
unfolded_is_plain env w C t A h = unfolded-plain env C t A w h
