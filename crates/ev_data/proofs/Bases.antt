-- The base of a sound environment: without direct operators and conditions it is sound too.
use Rattle.std.specs.Prelude.{◌≡◌, ◌<◌, ◌+◌, ◌++◌, ℕ, zero, suc, Bool as Boolean, true, false, cond, List, [], ◌∷◌, Option, Some, None, map, flat_map, length, get_or, slice_get, bytes_eq, option_map, Contains, IsFalse, IsSomeAnd, refl}
use Rattle.std.specs.List.{AllByRecursion, AllZip, IsDistinct, enumerate_from}
use Rattle.std.proofs.Common.{ap, sym, ◌∙◌, subst, true≢false, arith}
use Rattle.ev_terms.specs.declared.types.Ty.{Ty, Int, Bool, Prop, Param, Data as DataType}
use Rattle.ev_terms.specs.declared.types.Tys.{Tys, Empty}
use Rattle.ev_terms.specs.declared.types.Sym.{Sym}
use Rattle.ev_terms.specs.declared.types.Sym.TheVariants.{Base, User}
use Rattle.ev_terms.specs.Types.{pow, prod, more, type_list}
use Rattle.ev_terms.specs.Term.{Term, Terms, var, lit, node, nil, cons}
use Rattle.ev_terms.specs.Substitution.{type_inst, type_at}
use Rattle.ev_typing.specs.declared.typing.Entry.{Entry}
use Rattle.ev_typing.specs.declared.typing.Entry.TheVariants as entry
use Rattle.ev_typing.specs.declared.typing.Signature.{Signature}
use Rattle.ev_typing.specs.declared.typing.DataDecl.{DataDecl}
use Rattle.ev_typing.specs.declared.typing.Con.{Con}
use Rattle.ev_typing.specs.declared.typing.Var.{Var}
use Rattle.ev_typing.specs.Profiles.{Profile}
use Rattle.ev_typing.specs.Env.{Env, Name, Symbol, ConOf, DesOf, ConstantOf, DirectOf, RecursiveOf, look_up, con_symbols, symbols, datatypes, names, find_data, find_symbol, field_types, symbol_profile, profile}
use Rattle.ev_typing.specs.Typing.{IsProper, AreProper, Typed, AreTyped, IsTypedNode, inside}
use Rattle.ev_typing.specs.Proper.{IsResult}
use Rattle.ev_typing.specs.Occurs.{is_direct_symbol, is_direct, IsPlain, ArePlain}
use Rattle.ev_typing.specs.Parts.{IsPartOf, base_entry, base}
use Rattle.ev_typing.specs.WellFormed.{AreGoodFields, IsGoodSignature, IsGoodBody, IsGoodEntry, AreGoodBodies, AreGoodAfter, data_of, inductive_data}
use Rattle.ev_typing.proofs.Names.{all_append}
use Rattle.ev_typing.proofs.Entries.{distinct_right, look_up_later}
use Rattle.ev_data.specs.Guarded.{IsGuardedBody}
use Rattle.ev_data.specs.Sound.{IsAdmittedEntry, IsSound, BaseIsSound, BaseOfBase}
use Rattle.ev_data.proofs.Environments.{look_up_all}

-- The names of the base differ.
all_left : {X : Type 0} (P : X → Type 0) (xs ys : List X) → AllByRecursion P (xs ++ ys) → AllByRecursion P xs
all_left P [] ys h = tt
all_left P (x ∷ xs) ys h = (h.0, all_left P xs ys h.1)

all_right : {X : Type 0} (P : X → Type 0) (xs ys : List X) → AllByRecursion P (xs ++ ys) → AllByRecursion P ys
all_right P [] ys h = h
all_right P (x ∷ xs) ys h = all_right P xs ys h.1

all_names : (P : Name → Type 0) (es : Env) → AllByRecursion P (flat_map names es) → AllByRecursion P (flat_map names (base es))
all_names P [] h = tt
all_names P (entry.Data d ∷ es) h =
    all_append P (names (entry.Data d)) (flat_map names (base es)) (all_left P (names (entry.Data d)) (flat_map names es) h)
    (all_names P es (all_right P (names (entry.Data d)) (flat_map names es) h))
all_names P (entry.Constant sig condition ∷ es) h = (h.0, all_names P es h.1)
all_names P (entry.Direct sig condition body ∷ es) h = all_names P es h.1
all_names P (entry.Recursive sig condition place bodies ∷ es) h = (h.0, all_names P es h.1)

fewer_behind : (xs ys zs : List Name) → ((x : Name) → AllByRecursion (λ y. bytes_eq x y ≡ false) ys → AllByRecursion (λ y. bytes_eq x y ≡ false) zs) → IsDistinct bytes_eq (xs ++ ys) →
    IsDistinct bytes_eq zs → IsDistinct bytes_eq (xs ++ zs)
unfolding IsDistinct
fewer_behind [] ys zs k h g = g
fewer_behind (x ∷ xs) ys zs k h g =
    let P : Name → Type 0 = λ y. bytes_eq x y ≡ false in
    (all_append P xs zs (all_left P xs ys h.0) (k x (all_right P xs ys h.0)), fewer_behind xs ys zs k h.1 g)

distinct_base : (es : Env) → IsDistinct bytes_eq (flat_map names es) → IsDistinct bytes_eq (flat_map names (base es))
unfolding IsDistinct
distinct_base [] h = tt
distinct_base (entry.Data d ∷ es) h =
    fewer_behind (names (entry.Data d)) (flat_map names es) (flat_map names (base es)) (λ x g. all_names (λ y. bytes_eq x y ≡ false) es g) h
    (distinct_base es (distinct_right (names (entry.Data d)) (flat_map names es) h))
distinct_base (entry.Constant sig condition ∷ es) h = (all_names (λ y. bytes_eq sig.name y ≡ false) es h.0, distinct_base es h.1)
distinct_base (entry.Direct sig condition body ∷ es) h = distinct_base es h.1
distinct_base (entry.Recursive sig condition place bodies ∷ es) h = (all_names (λ y. bytes_eq sig.name y ≡ false) es h.0, distinct_base es h.1)

-- The base has the same datatypes.
data_base : (es : Env) → flat_map datatypes (base es) ≡ flat_map datatypes es
data_base [] = refl
data_base (entry.Data d ∷ es) = ap (λ ps. (d.name, d) ∷ ps) (data_base es)
data_base (entry.Constant sig condition ∷ es) = data_base es
data_base (entry.Direct sig condition body ∷ es) = data_base es
data_base (entry.Recursive sig condition place bodies ∷ es) = data_base es

found_base : (env : Env) (n : Name) → find_data (base env) n ≡ find_data env n
found_base env n = ap (λ ps. look_up ps n) (data_base env)

data_of_base : (env : Env) (o : Option Ty) → data_of (base env) o ≡ data_of env o
data_of_base env None = refl
data_of_base env (Some Int) = refl
data_of_base env (Some Bool) = refl
data_of_base env (Some Prop) = refl
data_of_base env (Some (Param i)) = refl
data_of_base env (Some (pow A)) = refl
data_of_base env (Some (prod A B)) = refl
data_of_base env (Some (DataType n As)) = ap (option_map (λ d. (d, As))) (found_base env n)

inductive_base : (env : Env) (sig : Signature) (place : ℕ) → inductive_data (base env) sig place ≡ inductive_data env sig place
inductive_base env sig place = data_of_base env (slice_get (type_list sig.args) place)

mutual
  proper_base : (env : Env) (A : Ty) → IsProper env A → IsProper (base env) A
  proper_base env Int h = tt
  proper_base env Bool h = tt
  proper_base env Prop h = h
  proper_base env (Param i) h = tt
  proper_base env (pow A) h = proper_base env A h
  proper_base env (prod A B) h = (proper_base env A h.0, proper_base env B h.1)
  proper_base env (DataType n As) h =
      (subst (λ o. IsSomeAnd o (λ (d : DataDecl). length (type_list As) ≡ d.params)) (sym (found_base env n)) h.0, all_proper_base env As h.1)

  all_proper_base : (env : Env) (As : Tys) → AreProper env As → AreProper (base env) As
  all_proper_base env Empty h = tt
  all_proper_base env (more A As) h = (proper_base env A h.0, all_proper_base env As h.1)

result_base : (env : Env) (A : Ty) → IsResult env A → IsResult (base env) A
result_base env Int h = h
result_base env Bool h = h
result_base env Prop h = h
result_base env (Param i) h = h
result_base env (pow A) h = proper_base env (pow A) h
result_base env (prod A B) h = proper_base env (prod A B) h
result_base env (DataType n As) h = proper_base env (DataType n As) h

each_proper_base : (env : Env) (As : List Ty) → AllByRecursion (IsProper env) As → AllByRecursion (IsProper (base env)) As
each_proper_base env [] h = tt
each_proper_base env (A ∷ As) h = (proper_base env A h.0, each_proper_base env As h.1)

-- The base has the same symbols, but for direct operators, and no conditions.
abbrev base_symbol : Symbol → Symbol
base_symbol (ConOf d c) = ConOf d c
base_symbol (DesOf d c i f) = DesOf d c i f
base_symbol (ConstantOf sig condition) = ConstantOf sig None
base_symbol (DirectOf sig condition body) = DirectOf sig condition body
base_symbol (RecursiveOf sig condition place bodies) = RecursiveOf sig None place bodies

same_profile : (s : Symbol) → symbol_profile (base_symbol s) ≡ symbol_profile s
same_profile (ConOf d c) = refl
same_profile (DesOf d c i f) = refl
same_profile (ConstantOf sig condition) = refl
same_profile (DirectOf sig condition body) = refl
same_profile (RecursiveOf sig condition place bodies) = refl

same_direct : (s : Symbol) → is_direct_symbol (Some (base_symbol s)) ≡ is_direct_symbol (Some s)
same_direct (ConOf d c) = refl
same_direct (DesOf d c i f) = refl
same_direct (ConstantOf sig condition) = refl
same_direct (DirectOf sig condition body) = refl
same_direct (RecursiveOf sig condition place bodies) = refl

cons_kept : (d : DataDecl) (cs : List Con) → AllByRecursion (λ (p : Name × Symbol). base_symbol p.1 ≡ p.1) (flat_map (con_symbols d) cs)
cons_kept d [] = tt
cons_kept d (c ∷ cs) = (refl, all_append _ (map (λ (f : ℕ × Var). (f.1.name, DesOf d c f.0 f.1)) (enumerate_from 0 c.fields)) (flat_map (con_symbols d) cs) (each 0 c.fields) (cons_kept d cs))
  where
    each : (i : ℕ) (fs : List Var) → AllByRecursion (λ (p : Name × Symbol). base_symbol p.1 ≡ p.1) (map (λ (f : ℕ × Var). (f.1.name, DesOf d c f.0 f.1)) (enumerate_from i fs))
    each i [] = tt
    each i (f ∷ fs) = (refl, each (i + 1) fs)

look_up_first : {X : Type 0} (ps qs : List (Name × X)) (n : Name) (x : X) → look_up ps n ≡ Some x → look_up (ps ++ qs) n ≡ Some x
look_up_first [] qs n x h = cc
look_up_first (p ∷ ps) qs n x h = by (bytes_eq p.0 n) h (look_up_first ps qs n x)
  where
    by : (b : Boolean) → cond b (Some p.1) (look_up ps n) ≡ Some x → (look_up ps n ≡ Some x → look_up (ps ++ qs) n ≡ Some x) → cond b (Some p.1) (look_up (ps ++ qs) n) ≡ Some x
    by true e k = e
    by false e k = k e

symbol_base : (env : Env) (n : Name) (s : Symbol) → find_symbol env n ≡ Some s → is_direct_symbol (Some s) ≡ false → find_symbol (base env) n ≡ Some (base_symbol s)
symbol_base [] n s h p = cc
symbol_base (entry.Data d ∷ es) n s h p = by (look_up (symbols (entry.Data d)) n) refl (λ g. symbol_base es n s g p)
  where
    by : (o : Option Symbol) → look_up (symbols (entry.Data d)) n ≡ o → (find_symbol es n ≡ Some s → find_symbol (base es) n ≡ Some (base_symbol s)) →
        look_up (symbols (entry.Data d) ++ flat_map symbols (base es)) n ≡ Some (base_symbol s)
    by None q r =
        look_up_later (symbols (entry.Data d)) (flat_map symbols (base es)) n q
        ∙ r (sym (look_up_later (symbols (entry.Data d)) (flat_map symbols es) n q) ∙ h)
    by (Some y) q r =
        let k : Some y ≡ Some s = sym (look_up_first (symbols (entry.Data d)) (flat_map symbols es) n y q) ∙ h in
        let e : y ≡ s = cc in
        let m : base_symbol y ≡ y = look_up_all (λ x z. base_symbol z ≡ z) (symbols (entry.Data d)) n y (cons_kept d d.cons) q in
        look_up_first (symbols (entry.Data d)) (flat_map symbols (base es)) n y q ∙ ap (λ z. Some z) (sym m ∙ ap base_symbol e)
symbol_base (entry.Constant sig condition ∷ es) n s h p = by (bytes_eq sig.name n) h (λ g. symbol_base es n s g p)
  where
    by : (b : Boolean) → cond b (Some (ConstantOf sig condition)) (look_up (flat_map symbols es) n) ≡ Some s → (find_symbol es n ≡ Some s → find_symbol (base es) n ≡ Some (base_symbol s)) →
        cond b (Some (ConstantOf sig None)) (look_up (flat_map symbols (base es)) n) ≡ Some (base_symbol s)
    by true g r = let e : ConstantOf sig condition ≡ s = cc in ap (λ z. Some (base_symbol z)) e
    by false g r = r g
symbol_base (entry.Direct sig condition body ∷ es) n s h p = by (bytes_eq sig.name n) h (λ g. symbol_base es n s g p)
  where
    by : (b : Boolean) → cond b (Some (DirectOf sig condition body)) (look_up (flat_map symbols es) n) ≡ Some s → (find_symbol es n ≡ Some s → find_symbol (base es) n ≡ Some (base_symbol s)) →
        look_up (flat_map symbols (base es)) n ≡ Some (base_symbol s)
    by true g r = let e : DirectOf sig condition body ≡ s = cc in absurd (true≢false (ap (λ z. is_direct_symbol (Some z)) e ∙ p))
    by false g r = r g
symbol_base (entry.Recursive sig condition place bodies ∷ es) n s h p = by (bytes_eq sig.name n) h (λ g. symbol_base es n s g p)
  where
    by : (b : Boolean) → cond b (Some (RecursiveOf sig condition place bodies)) (look_up (flat_map symbols es) n) ≡ Some s → (find_symbol es n ≡ Some s → find_symbol (base es) n ≡ Some (base_symbol s)) →
        cond b (Some (RecursiveOf sig None place bodies)) (look_up (flat_map symbols (base es)) n) ≡ Some (base_symbol s)
    by true g r = let e : RecursiveOf sig condition place bodies ≡ s = cc in ap (λ z. Some (base_symbol z)) e
    by false g r = r g

profile_base : (env : Env) (s : Sym) (q : Profile) → profile env s ≡ Some q → IsFalse (is_direct env s) → profile (base env) s ≡ Some q
profile_base env (Base k) q h p = h
profile_base env (User n) q h p = by (find_symbol env n) refl h
  where
    by : (o : Option Symbol) → find_symbol env n ≡ o → option_map symbol_profile o ≡ Some q → profile (base env) (User n) ≡ Some q
    by None e g = cc
    by (Some s) e g =
        let i : is_direct_symbol (Some s) ≡ false = ap is_direct_symbol (sym e) ∙ p in
        ap (option_map symbol_profile) (symbol_base env n s e i) ∙ ap (λ r. Some r) (same_profile s) ∙ g

indirect_base : (env : Env) (s : Sym) (P : Profile → Type 0) → IsSomeAnd (profile env s) P → IsFalse (is_direct env s) → IsFalse (is_direct (base env) s)
indirect_base env (Base k) P h p = p
indirect_base env (User n) P h p = by (find_symbol env n) refl h
  where
    by : (o : Option Symbol) → find_symbol env n ≡ o → IsSomeAnd (option_map symbol_profile o) P → IsFalse (is_direct (base env) (User n))
    by None e g = absurd g
    by (Some s) e g =
        let i : is_direct_symbol (Some s) ≡ false = ap is_direct_symbol (sym e) ∙ p in
        ap is_direct_symbol (symbol_base env n s e i) ∙ same_direct s ∙ i

-- A term without direct operators is typed over the base.
some_found : {X : Type 0} {P Q : X → Type 0} (o r : Option X) → ((x : X) → o ≡ Some x → r ≡ Some x) → ((x : X) → P x → Q x) → IsSomeAnd o P → IsSomeAnd r Q
some_found None r h k g = absurd g
some_found {Q = Q} (Some x) r h k g = subst (λ o. IsSomeAnd o Q) (sym (h x refl)) (k x g)

some_gives : {X R : Type 0} {P : X → Type 0} (o : Option X) → ((x : X) → P x → R) → IsSomeAnd o P → R
some_gives None k h = absurd h
some_gives (Some x) k h = k x h

mutual
  typed_base : (env : Env) (C : List Ty) (t : Term) (A : Ty) → Typed env C t A → IsPlain env t → Typed (base env) C t A
  typed_base env C (var i) A h p = h
  typed_base env C (lit n) A h p = h
  typed_base env C (node s As ts) A h p =
      some_found (profile env s) (profile (base env) s) (λ q e. profile_base env s q e p.0) (λ q g. record {
        count = g.count;
        proper = all_proper_base env As g.proper;
        children = all_typed_base env (inside C s As) ts (map (type_inst (type_at As)) q.args) g.children p.1;
        result = g.result;
      }) h

  all_typed_base : (env : Env) (C : List Ty) (ts : Terms) (As : List Ty) → AreTyped env C ts As → ArePlain env ts → AreTyped (base env) C ts As
  all_typed_base env C nil [] h p = h
  all_typed_base env C nil (A ∷ As) h p = h
  all_typed_base env C (cons t ts) [] h p = h
  all_typed_base env C (cons t ts) (A ∷ As) h p = (typed_base env C t A h.0 p.0, all_typed_base env C ts As h.1 p.1)

mutual
  plain_base : (env : Env) (C : List Ty) (t : Term) (A : Ty) → Typed env C t A → IsPlain env t → IsPlain (base env) t
  plain_base env C (var i) A h p = tt
  plain_base env C (lit n) A h p = tt
  plain_base env C (node s As ts) A h p = (
    indirect_base env s (λ q. IsTypedNode env As q A (AreTyped env (inside C s As) ts (map (type_inst (type_at As)) q.args))) h p.0,
    some_gives (profile env s) (λ q g. all_plain_base env (inside C s As) ts (map (type_inst (type_at As)) q.args) g.children p.1) h,
  )

  all_plain_base : (env : Env) (C : List Ty) (ts : Terms) (As : List Ty) → AreTyped env C ts As → ArePlain env ts → ArePlain (base env) ts
  all_plain_base env C nil As h p = tt
  all_plain_base env C (cons t ts) [] h p = absurd h
  all_plain_base env C (cons t ts) (A ∷ As) h p = (plain_base env C t A h.0 p.0, all_plain_base env C ts As h.1 p.1)

-- Each entry of the base is good.
fields_base : (env : Env) (n : ℕ) (cs : List Con) → AllByRecursion (AreGoodFields env n) cs → AllByRecursion (AreGoodFields (base env) n) cs
fields_base env n [] h = tt
fields_base env n (c ∷ cs) h =
    (record { count = h.0.count; proper = each_proper_base env (field_types c) h.0.proper; parameters = h.0.parameters }, fields_base env n cs h.1)

signature_base : (env : Env) (sig : Signature) → IsGoodSignature env sig → IsGoodSignature (base env) sig
signature_base env sig h = record {
  count = h.count;
  args = all_proper_base env sig.args h.args;
  result = result_base env sig.result h.result;
  args_parameters = h.args_parameters;
  result_parameters = h.result_parameters;
  used = h.used;
}

each_body_base : (env : Env) (sig : Signature) (place : ℕ) (As : Tys) (cs : List Con) (bs : List Term) → AllZip (IsGoodBody env sig place As) cs bs → AllZip (IsGoodBody (base env) sig place As) cs bs
each_body_base env sig place As [] [] h = tt
each_body_base env sig place As [] (b ∷ bs) h = h
each_body_base env sig place As (c ∷ cs) [] h = h
each_body_base env sig place As (c ∷ cs) (b ∷ bs) h = (
  record {
    term = record { typed = typed_base env _ b sig.result h.0.term.typed h.0.plain; parameters = h.0.term.parameters; shallow = h.0.term.shallow };
    plain = plain_base env _ b sig.result h.0.term.typed h.0.plain;
  },
  each_body_base env sig place As cs bs h.1,
)

some_kept : {X : Type 0} {P Q : X → Type 0} (o : Option X) → ((x : X) → P x → Q x) → IsSomeAnd o P → IsSomeAnd o Q
some_kept None k h = h
some_kept (Some x) k h = k x h

bodies_base : (env : Env) (sig : Signature) (place : ℕ) (bodies : List Term) → AreGoodBodies env sig place bodies → AreGoodBodies (base env) sig place bodies
bodies_base env sig place bodies h =
    subst (λ o. IsSomeAnd o (λ (p : DataDecl × Tys). AllZip (IsGoodBody (base env) sig place p.1) p.0.cons bodies)) (sym (inductive_base env sig place))
    (some_kept (inductive_data env sig place) (λ p g. each_body_base env sig place p.1 p.0.cons bodies g) h)

base_append : (xs ys : Env) → base (xs ++ ys) ≡ base xs ++ base ys
base_append [] ys = refl
base_append (entry.Data d ∷ xs) ys = ap (λ zs. entry.Data d ∷ zs) (base_append xs ys)
base_append (entry.Constant sig condition ∷ xs) ys = ap (λ zs. entry.Constant sig None ∷ zs) (base_append xs ys)
base_append (entry.Direct sig condition body ∷ xs) ys = base_append xs ys
base_append (entry.Recursive sig condition place bodies ∷ xs) ys = ap (λ zs. entry.Recursive sig None place bodies ∷ zs) (base_append xs ys)

append_nil : (xs : Env) → xs ++ [] ≡ xs
append_nil [] = refl
append_nil (x ∷ xs) = ap (λ ys. x ∷ ys) (append_nil xs)

after_base : (before es : Env) → AreGoodAfter before es → AreGoodAfter (base before) (base es)
after_base before [] h = tt
after_base before (entry.Data d ∷ es) h =
    let e : base (before ++ entry.Data d ∷ []) ≡ base before ++ entry.Data d ∷ [] = base_append before (entry.Data d ∷ []) in (
      subst (λ env. AllByRecursion (AreGoodFields env d.params) d.cons) e (fields_base (before ++ entry.Data d ∷ []) d.params d.cons h.0),
      subst (λ env. AreGoodAfter env (base es)) e (after_base (before ++ entry.Data d ∷ []) es h.1),
    )
after_base before (entry.Constant sig condition ∷ es) h =
    let e : base (before ++ entry.Constant sig condition ∷ []) ≡ base before ++ entry.Constant sig None ∷ [] = base_append before (entry.Constant sig condition ∷ []) in (
      record { signature = signature_base before sig h.0.signature; condition_good = tt; bodies = tt },
      subst (λ env. AreGoodAfter env (base es)) e (after_base (before ++ entry.Constant sig condition ∷ []) es h.1),
    )
after_base before (entry.Direct sig condition body ∷ es) h =
    let e : base (before ++ entry.Direct sig condition body ∷ []) ≡ base before = base_append before (entry.Direct sig condition body ∷ []) ∙ append_nil (base before) in
    subst (λ env. AreGoodAfter env (base es)) e (after_base (before ++ entry.Direct sig condition body ∷ []) es h.1)
after_base before (entry.Recursive sig condition place bodies ∷ es) h =
    let R : Entry = entry.Recursive sig condition place bodies in
    let e : base (before ++ R ∷ []) ≡ base before ++ entry.Recursive sig None place bodies ∷ [] = base_append before (R ∷ []) in (
      record {
        signature = signature_base before sig h.0.signature;
        condition_good = tt;
        bodies = subst (λ env. AreGoodBodies env sig place bodies) e (bodies_base (before ++ R ∷ []) sig place bodies h.0.bodies);
      },
      subst (λ env. AreGoodAfter env (base es)) e (after_base (before ++ R ∷ []) es h.1),
    )

-- And each is admitted.
admitted_base : (env es : Env) → AllByRecursion (IsAdmittedEntry env) es → AllByRecursion (IsAdmittedEntry (base env)) (base es)
admitted_base env [] h = tt
admitted_base env (entry.Data d ∷ es) h = (h.0, admitted_base env es h.1)
admitted_base env (entry.Constant sig condition ∷ es) h = (tt, admitted_base env es h.1)
admitted_base env (entry.Direct sig condition body ∷ es) h = admitted_base env es h.1
admitted_base env (entry.Recursive sig condition place bodies ∷ es) h = (
  subst (λ o. IsSomeAnd o (λ (p : DataDecl × Tys). AllZip (IsGuardedBody sig place p.0 p.1) p.0.cons bodies)) (sym (inductive_base env sig place)) h.0,
  admitted_base env es h.1,
)

pub base_is_sound : BaseIsSound
base_is_sound env h = record {
  well_formed = record { distinct = distinct_base env h.well_formed.distinct; entries = after_base [] env h.well_formed.entries };
  admitted = admitted_base env env h.admitted;
}

-- The base of a part is a part of the base.
contains_later : (es : Env) (c y : Entry) → Contains es y → Contains (c ∷ es) y
contains_later es c y (k, h, e) = (suc k, omega (arith, h), e)

base_some : (c y : Entry) (es : Env) → base_entry c ≡ Some y → base (c ∷ es) ≡ y ∷ base es
base_some (entry.Data d) y es e = let q : entry.Data d ≡ y = cc in ap (λ z. z ∷ base es) q
base_some (entry.Constant sig condition) y es e = let q : entry.Constant sig None ≡ y = cc in ap (λ z. z ∷ base es) q
base_some (entry.Direct sig condition body) y es e = cc
base_some (entry.Recursive sig condition place bodies) y es e = let q : entry.Recursive sig None place bodies ≡ y = cc in ap (λ z. z ∷ base es) q

base_later : (c y : Entry) (es : Env) → Contains (base es) y → Contains (base (c ∷ es)) y
base_later (entry.Data d) y es h = contains_later (base es) (entry.Data d) y h
base_later (entry.Constant sig condition) y es h = contains_later (base es) (entry.Constant sig None) y h
base_later (entry.Direct sig condition body) y es h = h
base_later (entry.Recursive sig condition place bodies) y es h = contains_later (base es) (entry.Recursive sig None place bodies) y h

contains_base : (f : Env) (k : ℕ) (d y : Entry) → k < length f → get_or f k d ≡ d → base_entry d ≡ Some y → Contains (base f) y
contains_base [] k d y h e q = absurd (omega (arith, h))
contains_base (c ∷ cs) zero d y h e q = subst (λ es. Contains es y) (sym (base_some c y cs (ap base_entry e ∙ q))) (0, omega arith, refl)
contains_base (c ∷ cs) (suc k) d y h e q = base_later c y cs (contains_base cs k d y (omega (arith, h)) e q)

pub base_of_base : BaseOfBase
base_of_base [] f h = tt
base_of_base (entry.Data d ∷ es) f h = (contains_base f h.0.0 (entry.Data d) (entry.Data d) h.0.1 h.0.2 refl, base_of_base es f h.1)
base_of_base (entry.Constant sig condition ∷ es) f h =
    (contains_base f h.0.0 (entry.Constant sig condition) (entry.Constant sig None) h.0.1 h.0.2 refl, base_of_base es f h.1)
base_of_base (entry.Direct sig condition body ∷ es) f h = base_of_base es f h.1
base_of_base (entry.Recursive sig condition place bodies ∷ es) f h =
    (contains_base f h.0.0 (entry.Recursive sig condition place bodies) (entry.Recursive sig None place bodies) h.0.1 h.0.2 refl, base_of_base es f h.1)
