-- Sequents without direct operators.
use Rattle.std.specs.Prelude.{◌≡◌, ◌||◌, ◌<◌, ◌≤◌, ◌+◌, ℕ, Bool as Boolean, true, false, cond, List, [], ◌∷◌, Option, Some, None, length, drop, get_or, flat_map, map, bytes_eq, option_map, ◌↔◌, IsTrue, IsFalse, IsSomeAnd, refl}
use Rattle.std.specs.Option.{option_and_then}
use Rattle.std.specs.List.{AllByRecursion, enumerate_from}
use Rattle.std.proofs.Common.{ap, sym, ◌∙◌, subst, true≢false}
use Rattle.ev_terms.specs.declared.types.Ty.{Ty, Prop}
use Rattle.ev_terms.specs.declared.types.Sym.{Sym}
use Rattle.ev_terms.specs.declared.types.Sym.TheVariants.{Base, User}
use Rattle.ev_terms.specs.Types.{type_list}
use Rattle.ev_terms.specs.Term.{Term, Terms, var, lit, node, nil, cons, terms, sym_of, children, terms-term_list}
use Rattle.ev_terms.specs.Substitution.{type_inst, type_at}
use Rattle.ev_terms.proofs.Children.{depth_at}
use Rattle.ev_typing.specs.declared.typing.Entry.{Entry}
use Rattle.ev_typing.specs.declared.typing.Entry.TheVariants.{Data, Constant, Direct, Recursive}
use Rattle.ev_typing.specs.declared.typing.DataDecl.{DataDecl}
use Rattle.ev_typing.specs.declared.typing.Con.{Con}
use Rattle.ev_typing.specs.declared.typing.Var.{Var}
use Rattle.ev_typing.specs.Profiles.{Profile}
use Rattle.ev_typing.specs.Env.{Env, Name, Symbol, DesOf, ConstantOf, DirectOf, RecursiveOf, look_up, declares, declaring, symbols, con_symbols, find_symbol, symbol_profile, profile}
use Rattle.ev_typing.specs.Typing.{Typed, AreTyped, IsTypedNode, IsPredicate, inside}
use Rattle.ev_typing.specs.Occurs.{is_direct_symbol, is_direct, IsPlain, ArePlain}
use Rattle.ev_typing.specs.WellFormed.{IsWellFormed}
use Rattle.ev_typing.specs.Parts.{IsPartOf, HasDistinctNames}
use Rattle.ev_typing.specs.BaseSequents.{is_direct_entry, WholeKeepsBaseSequents}
use Rattle.ev_typing.proofs.Names.{same_name, name_same, all_append, drop_at, drop_all}
use Rattle.ev_typing.proofs.Entries.{symbols_named, find_symbol-declaring}
use Rattle.ev_typing.proofs.Checks.{inner_depth}
use Rattle.ev_typing.proofs.Wholes.{whole_has_all, all_proper_over, typed_over, found_part}

-- A direct operator is declared by such an entry.
declared_entry : (env : Env) (n : Name) (e : Entry) → declaring env n ≡ Some e → declares n e ≡ true
declared_entry [] n e h = cc
declared_entry (d ∷ ds) n e h = by (declares n d) refl h (declared_entry ds n e)
  where
    by : (b : Boolean) → b ≡ declares n d → cond b (Some d) (declaring ds n) ≡ Some e → (declaring ds n ≡ Some e → declares n e ≡ true) → declares n e ≡ true
    by true p g k = let q : d ≡ e = cc in ap (declares n) (sym q) ∙ sym p
    by false p g k = k g

-- none of the symbols is a direct operator
abbrev AreIndirect : List (Name × Symbol) → Type 0
AreIndirect ps = AllByRecursion (λ (p : Name × Symbol). is_direct_symbol (Some p.1) ≡ false) ps

found_indirect : (ps : List (Name × Symbol)) (n : Name) → AreIndirect ps → is_direct_symbol (look_up ps n) ≡ false
found_indirect [] n h = refl
found_indirect (p ∷ ps) n h = by (bytes_eq p.0 n) (found_indirect ps n h.1)
  where
    by : (b : Boolean) → is_direct_symbol (look_up ps n) ≡ false → is_direct_symbol (cond b (Some p.1) (look_up ps n)) ≡ false
    by true later = h.0
    by false later = later

fields_indirect : (d : DataDecl) (c : Con) (fs : List (ℕ × Var)) → AreIndirect (map (λ (f : ℕ × Var). (f.1.name, DesOf d c f.0 f.1)) fs)
fields_indirect d c [] = tt
fields_indirect d c (f ∷ fs) = (refl, fields_indirect d c fs)

cons_indirect : (d : DataDecl) (cs : List Con) → AreIndirect (flat_map (con_symbols d) cs)
cons_indirect d [] = tt
cons_indirect d (c ∷ cs) =
    all_append (λ (p : Name × Symbol). is_direct_symbol (Some p.1) ≡ false) (con_symbols d c) (flat_map (con_symbols d) cs)
    (refl, fields_indirect d c (enumerate_from 0 c.fields)) (cons_indirect d cs)

single_indirect : (m n : Name) (s : Symbol) → is_direct_symbol (Some s) ≡ false → is_direct_symbol (look_up ((m, s) ∷ []) n) ≡ false
single_indirect m n s h = found_indirect ((m, s) ∷ []) n (h, tt)

or_nothing : (b : Boolean) → (b || false) ≡ true → b ≡ true
or_nothing true h = refl
or_nothing false h = h

at_entry : (e : Entry) (n : Name) → declares n e ≡ true → is_direct_entry e ≡ is_direct_symbol (look_up (symbols e) n)
at_entry (Data d) n h = sym (found_indirect (flat_map (con_symbols d) d.cons) n (cons_indirect d d.cons))
at_entry (Constant sig condition) n h = sym (single_indirect sig.name n (ConstantOf sig condition) refl)
at_entry (Direct sig condition body) n h =
    let e : n ≡ sig.name = same_name n sig.name (or_nothing (bytes_eq n sig.name) h) in
    let f : bytes_eq sig.name n ≡ true = ap (bytes_eq sig.name) e ∙ name_same sig.name in
    sym (ap (λ b. is_direct_symbol (cond b (Some (DirectOf sig condition body)) None)) f)
at_entry (Recursive sig condition place bodies) n h = sym (single_indirect sig.name n (RecursiveOf sig condition place bodies) refl)

pub direct_found : (env : Env) (n : Name) (e : Entry) → IsWellFormed env → Some e ≡ declaring env n → is_direct_entry e ≡ is_direct env (User n)
direct_found env n e w h =
    at_entry e n (declared_entry env n e (sym h))
    ∙ sym (ap is_direct_symbol (find_symbol-declaring env n w ∙ ap (option_and_then (λ d. look_up (symbols d) n)) (sym h)))

pub direct_none : (env : Env) (n : Name) → IsWellFormed env → None ≡ declaring env n → false ≡ is_direct env (User n)
direct_none env n w h = sym (ap is_direct_symbol (find_symbol-declaring env n w ∙ ap (option_and_then (λ d. look_up (symbols d) n)) (sym h)))

pub ruleset direct = (direct_found, direct_none)

-- The walk over a term.
pub plain_leaf : (env : Env) (t : Term) → None ≡ sym_of t → IsTrue true ↔ IsPlain env t
plain_leaf env (var i) h = (λ e. tt, λ e. refl)
plain_leaf env (lit n) h = (λ e. tt, λ e. refl)
plain_leaf env (node s As ts) h = cc

pub plain_node : (env : Env) (t : Term) (s : Sym) (ts : List Term) (b d : Boolean) → Some s ≡ sym_of t → ts ≡ children t → d ≡ is_direct env s → d ≡ false →
    (IsTrue b ↔ ArePlain env (terms ts)) → IsTrue b ↔ IsPlain env t
plain_node env (var i) s ts b d e f g h k = cc
plain_node env (lit n) s ts b d e f g h k = cc
plain_node env (node s' As us) s ts b d e f g h k =
    let p : terms ts ≡ us = ap terms f ∙ terms-term_list us in
    let q : s ≡ s' = cc in
    let r : is_direct env s' ≡ false = sym (ap (is_direct env) q) ∙ sym g ∙ h in (
      λ x. (r, subst (ArePlain env) p (k.0 x)),
      λ x. k.1 (subst (ArePlain env) (sym p) x.1),
    )

pub direct_node : (env : Env) (t : Term) (s : Sym) (d : Boolean) → Some s ≡ sym_of t → d ≡ is_direct env s → IsTrue d → IsTrue false ↔ IsPlain env t
direct_node env (var i) s d e g h = cc
direct_node env (lit n) s d e g h = cc
direct_node env (node s' As us) s d e g h =
    let q : s ≡ s' = cc in
    (λ x. absurd (true≢false (sym x)), λ x. absurd (true≢false (sym h ∙ g ∙ ap (is_direct env) q ∙ x.0)))

pub plain_step : (env : Env) (ts : List Term) (i : ℕ) (t : Term) → t ≡ get_or ts i t → i < length ts → IsPlain env t →
    (ArePlain env (terms (drop i ts)) ↔ ArePlain env (terms ts)) → ArePlain env (terms (drop (i + 1) ts)) ↔ ArePlain env (terms ts)
plain_step env ts i t e h p d =
    let f = drop_at ts i t e h in (
      λ g. d.0 (subst (λ us. ArePlain env (terms us)) (sym f) (p, g)),
      λ g. (subst (λ us. ArePlain env (terms us)) f (d.1 g)).1,
    )

pub plain_fails : (env : Env) (ts : List Term) (i : ℕ) (t : Term) → t ≡ get_or ts i t → i < length ts → ¬ IsPlain env t →
    (ArePlain env (terms (drop i ts)) ↔ ArePlain env (terms ts)) → IsTrue false ↔ ArePlain env (terms ts)
plain_fails env ts i t e h p d =
    let f = drop_at ts i t e h in
    (λ g. absurd (true≢false (sym g)), λ g. absurd (p (subst (λ us. ArePlain env (terms us)) f (d.1 g)).0))

pub plain_ends : (env : Env) (ts : List Term) (i : ℕ) → length ts ≤ i → (ArePlain env (terms (drop i ts)) ↔ ArePlain env (terms ts)) → IsTrue true ↔ ArePlain env (terms ts)
plain_ends env ts i h d =
    let f = drop_all ts i h in
    (λ g. d.0 (subst (λ us. ArePlain env (terms us)) (sym f) tt), λ g. refl)

pub ruleset walk = (inner_depth, depth_at)

-- What is asked of each item of a list.
pub all_step : {X : Type 0} (P : X → Type 0) (xs : List X) (i : ℕ) (x : X) → x ≡ get_or xs i x → i < length xs → P x →
    (AllByRecursion P (drop i xs) ↔ AllByRecursion P xs) → AllByRecursion P (drop (i + 1) xs) ↔ AllByRecursion P xs
all_step P xs i x e h p d =
    let f = drop_at xs i x e h in (
      λ g. d.0 (subst (AllByRecursion P) (sym f) (p, g)),
      λ g. (subst (AllByRecursion P) f (d.1 g)).1,
    )

pub all_fails : {X : Type 0} (P : X → Type 0) (xs : List X) (i : ℕ) (x : X) → x ≡ get_or xs i x → i < length xs → ¬ P x →
    (AllByRecursion P (drop i xs) ↔ AllByRecursion P xs) → IsTrue false ↔ AllByRecursion P xs
all_fails P xs i x e h p d =
    let f = drop_at xs i x e h in
    (λ g. absurd (true≢false (sym g)), λ g. absurd (p (subst (AllByRecursion P) f (d.1 g)).0))

pub all_ends : {X : Type 0} (P : X → Type 0) (xs : List X) (i : ℕ) → length xs ≤ i → (AllByRecursion P (drop i xs) ↔ AllByRecursion P xs) → IsTrue true ↔ AllByRecursion P xs
all_ends P xs i h d =
    let f = drop_all xs i h in
    (λ g. d.0 (subst (AllByRecursion P) (sym f) tt), λ g. refl)

pub plain_all : (env : Env) (ts : List Term) → ArePlain env (terms ts) → AllByRecursion (IsPlain env) ts
plain_all env [] h = tt
plain_all env (t ∷ ts) h = (h.0, plain_all env ts h.1)

pub all_plain : (env : Env) (ts : List Term) → AllByRecursion (IsPlain env) ts → ArePlain env (terms ts)
all_plain env [] h = tt
all_plain env (t ∷ ts) h = (h.0, all_plain env ts h.1)

pub ruleset lists = (plain_all, all_plain)

-- Larger environments.
indirect_over : (e f : Env) → IsPartOf e f → HasDistinctNames f → (s : Sym) (P : Profile → Type 0) → IsSomeAnd (profile e s) P → IsFalse (is_direct e s) → IsFalse (is_direct f s)
indirect_over e f k w (Base j) P h p = p
indirect_over e f k w (User n) P h p = by (find_symbol e n) refl h
  where
    by : (o : Option Symbol) → find_symbol e n ≡ o → IsSomeAnd (option_map symbol_profile o) P → IsFalse (is_direct f (User n))
    by None g x = absurd x
    by (Some y) g x = ap is_direct_symbol (found_part symbols symbols_named e f n y w k g) ∙ sym (ap is_direct_symbol g) ∙ p

some_gives : {X R : Type 0} {P : X → Type 0} (o : Option X) → ((x : X) → P x → R) → IsSomeAnd o P → R
some_gives None k h = absurd h
some_gives (Some x) k h = k x h

mutual
  plain_over : (e f : Env) → IsPartOf e f → HasDistinctNames f → (C : List Ty) (t : Term) (A : Ty) → Typed e C t A → IsPlain e t → IsPlain f t
  plain_over e f k w C (var i) A h p = tt
  plain_over e f k w C (lit n) A h p = tt
  plain_over e f k w C (node s As ts) A h p = (
    indirect_over e f k w s (λ q. IsTypedNode e As q A (AreTyped e (inside C s As) ts (map (type_inst (type_at As)) q.args))) h p.0,
    some_gives (profile e s) (λ q g. all_plain_over e f k w (inside C s As) ts (map (type_inst (type_at As)) q.args) g.children p.1) h,
  )

  all_plain_over : (e f : Env) → IsPartOf e f → HasDistinctNames f → (C : List Ty) (ts : Terms) (As : List Ty) → AreTyped e C ts As → ArePlain e ts → ArePlain f ts
  all_plain_over e f k w C nil As h p = tt
  all_plain_over e f k w C (cons t ts) [] h p = absurd h
  all_plain_over e f k w C (cons t ts) (A ∷ As) h p = (plain_over e f k w C t A h.0 p.0, all_plain_over e f k w C ts As h.1 p.1)

all_over : {X : Type 0} (P Q : X → Type 0) (xs : List X) → ((x : X) → P x → Q x) → AllByRecursion P xs → AllByRecursion Q xs
all_over P Q [] k h = tt
all_over P Q (x ∷ xs) k h = (k x h.0, all_over P Q xs k h.1)

both_over : {X : Type 0} (P Q R : X → Type 0) (xs : List X) → ((x : X) → P x → Q x → R x) → AllByRecursion P xs → AllByRecursion Q xs → AllByRecursion R xs
both_over P Q R [] k h g = tt
both_over P Q R (x ∷ xs) k h g = (k x h.0 g.0, both_over P Q R xs k h.1 g.1)

pub whole_base_sequents : WholeKeepsBaseSequents
whole_base_sequents e f k w S h =
    let all = whole_has_all e f k w in
    let C : List Ty = type_list S.context in
    record {
      typed = record {
        context = all_proper_over e f all S.context h.typed.context;
        hyps = all_over (IsPredicate e C) (IsPredicate f C) S.hyps (λ P g. typed_over e f all C P Prop g) h.typed.hyps;
        goal = typed_over e f all C S.goal Prop h.typed.goal;
      };
      plain_hyps = both_over (IsPredicate e C) (IsPlain e) (IsPlain f) S.hyps (λ P g p. plain_over e f k w C P Prop g p) h.typed.hyps h.plain_hyps;
      plain_goal = plain_over e f k w C S.goal Prop h.typed.goal h.plain_goal;
    }
