-- What a well-formed environment promises of its constructors and recursive operators.
use Rattle.std.specs.Prelude.{◌≡◌, ◌<◌, ◌^◌, ◌+◌, ◌||◌, ℕ, Bool as Boolean, true, false, cond, List, [], ◌∷◌, ◌++◌, Option, Some, None, map, flat_map, length, slice_get, bytes_eq, option_map, Contains, IsFalse, IsSomeAnd, ⊤, refl}
use Rattle.std.specs.List.{AllByRecursion, AllZip, IsDistinct, enumerate_from, list_any}
use Rattle.std.proofs.Common.{ap, sym, ◌∙◌, subst, append_assoc, arith}
use Rattle.std.proofs.lemmas.List.Elements.{Contains-append_right}
use Rattle.ev_terms.specs.declared.types.Ty.{Ty, Int, Bool, Prop, Param, Data as DataType}
use Rattle.ev_terms.specs.declared.types.Tys.{Tys}
use Rattle.ev_terms.specs.declared.types.Sym.{Sym}
use Rattle.ev_terms.specs.declared.types.Sym.TheVariants.{Base, User}
use Rattle.ev_terms.specs.Types.{pow, prod, type_list}
use Rattle.ev_terms.specs.Term.{Term, Terms, var, lit, node, nil, cons}
use Rattle.ev_terms.specs.Substitution.{type_inst, type_at}
use Rattle.ev_typing.specs.declared.typing.Entry.{Entry}
use Rattle.ev_typing.specs.declared.typing.Entry.TheVariants as entry
use Rattle.ev_typing.specs.declared.typing.Signature.{Signature}
use Rattle.ev_typing.specs.declared.typing.DataDecl.{DataDecl}
use Rattle.ev_typing.specs.declared.typing.Con.{Con}
use Rattle.ev_typing.specs.declared.typing.Var.{Var}
use Rattle.ev_typing.specs.Profiles.{Profile}
use Rattle.ev_typing.specs.Env.{Env, Name, Symbol, ConOf, DesOf, ConstantOf, DirectOf, RecursiveOf, look_up, con_symbols, symbols, datatypes, names, find_data, find_symbol, field_types, symbol_profile, profile}
use Rattle.ev_typing.specs.Typing.{IsProper, AreProper, Typed, AreTyped, IsTypedNode, inside}
use Rattle.ev_typing.specs.Proper.{IsResult}
use Rattle.ev_typing.specs.Occurs.{is_direct_symbol, is_direct, IsPlain, ArePlain}
use Rattle.ev_typing.specs.Parts.{IsPartOf, HasDistinctNames}
use Rattle.ev_typing.specs.WellFormed.{AreGoodFields, IsGoodSignature, IsGoodBody, IsGoodEntry, AreGoodBodies, AreGoodAfter, IsWellFormed, data_of, inductive_data}
use Rattle.ev_typing.proofs.Names.{all_append, name_same, same_name}
use Rattle.ev_typing.proofs.Entries.{datatypes_named, symbols_named, distinct_left, distinct_right, distinct_apart, look_up_later, absent}
use Rattle.ev_typing.proofs.Wholes.{HasAll, whole_has_all, found_whole, found_part, proper_over, all_proper_over, typed_over}

-- Each symbol is found under its name.
abbrev pub IsFound : Env → Name × Symbol → Type 0
IsFound env p = find_symbol env p.0 ≡ Some p.1

found_last : (ps qs : List (Name × Symbol)) (n : Name) (s : Symbol) → list_any (bytes_eq n) (map (λ (p : Name × Symbol). p.0) ps) ≡ false →
    look_up (ps ++ (n, s) ∷ qs) n ≡ Some s
found_last ps qs n s h =
    look_up_later ps ((n, s) ∷ qs) n (absent ps n h) ∙ ap (λ b. cond b (Some s) (look_up qs n)) (name_same n)

map_names : (ps qs : List (Name × Symbol)) → map (λ (p : Name × Symbol). p.0) (ps ++ qs) ≡ map (λ (p : Name × Symbol). p.0) ps ++ map (λ (p : Name × Symbol). p.0) qs
map_names [] qs = refl
map_names (p ∷ ps) qs = ap (λ ns. p.0 ∷ ns) (map_names ps qs)

symbol_at : (ps qs : List (Name × Symbol)) (n : Name) (s : Symbol) → IsDistinct bytes_eq (map (λ (p : Name × Symbol). p.0) (ps ++ (n, s) ∷ qs)) →
    look_up (ps ++ (n, s) ∷ qs) n ≡ Some s
symbol_at ps qs n s h =
    found_last ps qs n s
    (distinct_apart (map (λ (p : Name × Symbol). p.0) ps) (n ∷ map (λ (p : Name × Symbol). p.0) qs) n
    (subst (IsDistinct bytes_eq) (map_names ps ((n, s) ∷ qs)) h) (ap (λ b. b || list_any (bytes_eq n) (map (λ (p : Name × Symbol). p.0) qs)) (name_same n)))

all_found : (whole : Env) (e : Entry) → HasDistinctNames whole → Contains whole e → IsDistinct bytes_eq (map (λ (p : Name × Symbol). p.0) (symbols e)) →
    (before ps : List (Name × Symbol)) → before ++ ps ≡ symbols e → AllByRecursion (IsFound whole) ps
all_found whole e w k dist before [] q = tt
all_found whole e w k dist before (p ∷ ps) q = (
  found_whole symbols symbols_named whole e p.0 p.1 w k
      (ap (λ xs. look_up xs p.0) (sym q)
      ∙ symbol_at before ps p.0 p.1 (subst (λ xs. IsDistinct bytes_eq (map (λ (r : Name × Symbol). r.0) xs)) (sym q) dist)),
  all_found whole e w k dist (before ++ p ∷ []) ps (append_assoc before (p ∷ []) ps ∙ q),
)

-- A constructor with its destructors.
pub record IsGoodCon (env : Env) (d : DataDecl) (c : Con) : Type 0 where
  pub count : length c.fields < 2 ^ 30
  pub proper : AllByRecursion (IsProper env) (field_types c)
  pub decl : find_data env d.name ≡ Some d
  pub con : find_symbol env c.name ≡ Some (ConOf d c)
  pub destructors : AllByRecursion (λ (f : ℕ × Var). find_symbol env f.1.name ≡ Some (DesOf d c f.0 f.1)) (enumerate_from 0 c.fields)

fields_found : (env : Env) (d : DataDecl) (c : Con) (i : ℕ) (fs : List Var) (rest : List (Name × Symbol)) →
    AllByRecursion (IsFound env) (map (λ (f : ℕ × Var). (f.1.name, DesOf d c f.0 f.1)) (enumerate_from i fs) ++ rest) →
    AllByRecursion (λ (f : ℕ × Var). find_symbol env f.1.name ≡ Some (DesOf d c f.0 f.1)) (enumerate_from i fs) × AllByRecursion (IsFound env) rest
fields_found env d c i [] rest h = (tt, h)
fields_found env d c i (f ∷ fs) rest h = let g = fields_found env d c (i + 1) fs rest h.1 in ((h.0, g.0), g.1)

all_proper : (env whole : Env) → HasAll env whole → (As : List Ty) → AllByRecursion (IsProper env) As → AllByRecursion (IsProper whole) As
all_proper env whole l [] h = tt
all_proper env whole l (A ∷ As) h = (proper_over env whole l A h.0, all_proper env whole l As h.1)

cons_good : (env whole : Env) → HasAll env whole → (d : DataDecl) → find_data whole d.name ≡ Some d → (cs : List Con) → AllByRecursion (IsFound whole) (flat_map (con_symbols d) cs) →
    AllByRecursion (AreGoodFields env d.params) cs → AllByRecursion (IsGoodCon whole d) cs
cons_good env whole l d q [] f h = tt
cons_good env whole l d q (c ∷ cs) f h =
    let g = fields_found whole d c 0 c.fields (flat_map (con_symbols d) cs) f.1 in (
      record { count = h.0.count; proper = all_proper env whole l (field_types c) h.0.proper; decl = q; con = f.0; destructors = g.0 },
      cons_good env whole l d q cs g.1 h.1,
    )

-- A term without direct operators is so over more entries.
indirect_over : (e f : Env) → IsPartOf e f → HasDistinctNames f → (s : Sym) (P : Profile → Type 0) → IsSomeAnd (profile e s) P → IsFalse (is_direct e s) → IsFalse (is_direct f s)
indirect_over e f k w (Base j) P h p = p
indirect_over e f k w (User n) P h p = by (find_symbol e n) refl h
  where
    by : (o : Option Symbol) → find_symbol e n ≡ o → IsSomeAnd (option_map symbol_profile o) P → IsFalse (is_direct f (User n))
    by None g x = absurd x
    by (Some y) g x = ap is_direct_symbol (found_part symbols symbols_named e f n y w k g) ∙ sym (ap is_direct_symbol g) ∙ p

some_gives : {X R : Type 0} {P : X → Type 0} (o : Option X) → ((x : X) → P x → R) → IsSomeAnd o P → R
some_gives None k h = absurd h
some_gives (Some x) k h = k x h

mutual
  plain_over : (e f : Env) → IsPartOf e f → HasDistinctNames f → (C : List Ty) (t : Term) (A : Ty) → Typed e C t A → IsPlain e t → IsPlain f t
  plain_over e f k w C (var i) A h p = tt
  plain_over e f k w C (lit n) A h p = tt
  plain_over e f k w C (node s As ts) A h p = (
    indirect_over e f k w s (λ q. IsTypedNode e As q A (AreTyped e (inside C s As) ts (map (type_inst (type_at As)) q.args))) h p.0,
    some_gives (profile e s) (λ q g. all_plain_over e f k w (inside C s As) ts (map (type_inst (type_at As)) q.args) g.children p.1) h,
  )

  all_plain_over : (e f : Env) → IsPartOf e f → HasDistinctNames f → (C : List Ty) (ts : Terms) (As : List Ty) → AreTyped e C ts As → ArePlain e ts → ArePlain f ts
  all_plain_over e f k w C nil As h p = tt
  all_plain_over e f k w C (cons t ts) [] h p = absurd h
  all_plain_over e f k w C (cons t ts) (A ∷ As) h p = (plain_over e f k w C t A h.0 p.0, all_plain_over e f k w C ts As h.1 p.1)

-- A recursive operator with its cases.
pub record IsGoodRecursion (env : Env) (sig : Signature) (condition : Option Term) (place : ℕ) (bodies : List Term) : Type 0 where
  pub count : length (type_list sig.args) < 2 ^ 30
  pub args : AreProper env sig.args
  pub result : IsResult env sig.result
  pub found : find_symbol env sig.name ≡ Some (RecursiveOf sig condition place bodies)
  pub cases : AreGoodBodies env sig place bodies

result_over : (e f : Env) → HasAll e f → (A : Ty) → IsResult e A → IsResult f A
result_over e f k Int h = h
result_over e f k Bool h = h
result_over e f k Prop h = h
result_over e f k (Param i) h = h
result_over e f k (pow A) h = proper_over e f k (pow A) h
result_over e f k (prod A B) h = proper_over e f k (prod A B) h
result_over e f k (DataType n As) h = proper_over e f k (DataType n As) h

bodies_over : (e f : Env) → IsPartOf e f → HasDistinctNames f → HasAll e f → (sig : Signature) (place : ℕ) (As : Tys) (cs : List Con) (bs : List Term) →
    AllZip (IsGoodBody e sig place As) cs bs → AllZip (IsGoodBody f sig place As) cs bs
bodies_over e f k w l sig place As [] [] h = tt
bodies_over e f k w l sig place As [] (b ∷ bs) h = h
bodies_over e f k w l sig place As (c ∷ cs) [] h = h
bodies_over e f k w l sig place As (c ∷ cs) (b ∷ bs) h = (
  record {
    term = record { typed = typed_over e f l _ b sig.result h.0.term.typed; parameters = h.0.term.parameters; shallow = h.0.term.shallow };
    plain = plain_over e f k w _ b sig.result h.0.term.typed h.0.plain;
  },
  bodies_over e f k w l sig place As cs bs h.1,
)

data_over : (e f : Env) → HasAll e f → (o : Option Ty) (P Q : DataDecl × Tys → Type 0) → ((p : DataDecl × Tys) → P p → Q p) → IsSomeAnd (data_of e o) P → IsSomeAnd (data_of f o) Q
data_over e f k None P Q g h = absurd h
data_over e f k (Some Int) P Q g h = absurd h
data_over e f k (Some Bool) P Q g h = absurd h
data_over e f k (Some Prop) P Q g h = absurd h
data_over e f k (Some (Param i)) P Q g h = absurd h
data_over e f k (Some (pow A)) P Q g h = absurd h
data_over e f k (Some (prod A B)) P Q g h = absurd h
data_over e f k (Some (DataType n As)) P Q g h = by (find_data e n) refl h
  where
    by : (o : Option DataDecl) → find_data e n ≡ o → IsSomeAnd (option_map (λ d. (d, As)) o) P → IsSomeAnd (option_map (λ d. (d, As)) (find_data f n)) Q
    by None q x = absurd x
    by (Some d) q x = subst (λ r. IsSomeAnd (option_map (λ d. (d, As)) r) Q) (sym (k.decls n d q)) (g (d, As) x)

-- What is promised of an entry.
abbrev pub IsGoodWhole : Env → Entry → Type 0
IsGoodWhole env (entry.Data d) = AllByRecursion (IsGoodCon env d) d.cons
IsGoodWhole env (entry.Constant sig condition) = ⊤
IsGoodWhole env (entry.Direct sig condition body) = ⊤
IsGoodWhole env (entry.Recursive sig condition place bodies) = IsGoodRecursion env sig condition place bodies

entry_good : (before whole : Env) (e : Entry) → IsPartOf (before ++ e ∷ []) whole → HasAll before whole → HasAll (before ++ e ∷ []) whole → HasDistinctNames whole → Contains whole e →
    AllByRecursion (IsFound whole) (symbols e) → IsGoodEntry before e → IsGoodWhole whole e
entry_good before whole (entry.Data d) i k l w c f h =
    cons_good (before ++ entry.Data d ∷ []) whole l d
    (found_whole datatypes datatypes_named whole (entry.Data d) d.name d w c (ap (λ b. cond b (Some d) None) (name_same d.name))) d.cons f h
entry_good before whole (entry.Constant sig condition) i k l w c f h = tt
entry_good before whole (entry.Direct sig condition body) i k l w c f h = tt
entry_good before whole (entry.Recursive sig condition place bodies) i k l w c f h = record {
  count = h.signature.count;
  args = all_proper_over before whole k sig.args h.signature.args;
  result = result_over before whole k sig.result h.signature.result;
  found = f.0;
  cases =
      data_over (before ++ entry.Recursive sig condition place bodies ∷ []) whole l (slice_get (type_list sig.args) place)
      (λ p. AllZip (IsGoodBody (before ++ entry.Recursive sig condition place bodies ∷ []) sig place p.1) p.0.cons bodies) (λ p. AllZip (IsGoodBody whole sig place p.1) p.0.cons bodies)
      (λ p g. bodies_over (before ++ entry.Recursive sig condition place bodies ∷ []) whole i w l sig place p.1 p.0.cons bodies g) h.bodies;
}

-- The entries before others are a part of them all.
part_of_all : (whole before env later : Env) → before ++ (env ++ later) ≡ whole → IsPartOf env whole
part_of_all whole before [] later e = tt
part_of_all whole before (d ∷ ds) later e = (
  subst (λ w. Contains w d) e (Contains-append_right before (d ∷ (ds ++ later)) d (0, omega arith, refl)),
  part_of_all whole (before ++ d ∷ []) ds later (append_assoc before (d ∷ []) (ds ++ later) ∙ e),
)

contains_next : (whole before : Env) (d : Entry) (later : Env) → before ++ d ∷ later ≡ whole → Contains whole d
contains_next whole before d later e = subst (λ w. Contains w d) e (Contains-append_right before (d ∷ later) d (0, omega arith, refl))

entries_good : (whole before env : Env) → before ++ env ≡ whole → HasDistinctNames whole → HasDistinctNames env → AreGoodAfter before env → AllByRecursion (IsGoodWhole whole) env
entries_good whole before [] e w v h = tt
entries_good whole before (d ∷ ds) e w v h =
    let next : (before ++ d ∷ []) ++ ds ≡ whole = append_assoc before (d ∷ []) ds ∙ e in
    let part : IsPartOf (before ++ d ∷ []) whole = part_of_all whole [] (before ++ d ∷ []) ds next in
    let here : Contains whole d = contains_next whole before d ds e in (
      entry_good before whole d part (whole_has_all before whole (part_of_all whole [] before (d ∷ ds) e) w) (whole_has_all (before ++ d ∷ []) whole part w) w here
          (all_found whole d w here
          (distinct_right (map (λ (p : Name × DataDecl). p.0) (datatypes d)) (map (λ (p : Name × Symbol). p.0) (symbols d)) (distinct_left (names d) (flat_map names ds) v))
          [] (symbols d) refl)
          h.0,
      entries_good whole (before ++ d ∷ []) ds next w (distinct_right (names d) (flat_map names ds) v) h.1,
    )

-- What is found is promised.
abbrev pub IsGoodSymbol : Env → Symbol → Type 0
IsGoodSymbol env (ConOf d c) = IsGoodCon env d c
IsGoodSymbol env (DesOf d c i f) = ⊤
IsGoodSymbol env (ConstantOf sig condition) = ⊤
IsGoodSymbol env (DirectOf sig condition body) = ⊤
IsGoodSymbol env (RecursiveOf sig condition place bodies) = IsGoodRecursion env sig condition place bodies

abbrev AreGoodSymbols : Env → List (Name × Symbol) → Type 0
AreGoodSymbols env ps = AllByRecursion (λ (p : Name × Symbol). IsGoodSymbol env p.1) ps

con_symbols_good : (env : Env) (d : DataDecl) (cs : List Con) → AllByRecursion (IsGoodCon env d) cs → AreGoodSymbols env (flat_map (con_symbols d) cs)
con_symbols_good env d [] h = tt
con_symbols_good env d (c ∷ cs) h = (h.0, all_append _ (map (λ (f : ℕ × Var). (f.1.name, DesOf d c f.0 f.1)) (enumerate_from 0 c.fields)) (flat_map (con_symbols d) cs) (each 0 c.fields) (con_symbols_good env d cs h.1))
  where
    each : (i : ℕ) (fs : List Var) → AreGoodSymbols env (map (λ (f : ℕ × Var). (f.1.name, DesOf d c f.0 f.1)) (enumerate_from i fs))
    each i [] = tt
    each i (f ∷ fs) = (tt, each (i + 1) fs)

entry_symbols_good : (env : Env) (e : Entry) → IsGoodWhole env e → AreGoodSymbols env (symbols e)
entry_symbols_good env (entry.Data d) h = con_symbols_good env d d.cons h
entry_symbols_good env (entry.Constant sig condition) h = (tt, tt)
entry_symbols_good env (entry.Direct sig condition body) h = (tt, tt)
entry_symbols_good env (entry.Recursive sig condition place bodies) h = (h, tt)

symbols_good : (env es : Env) → AllByRecursion (IsGoodWhole env) es → AreGoodSymbols env (flat_map symbols es)
symbols_good env [] h = tt
symbols_good env (e ∷ es) h = all_append _ (symbols e) (flat_map symbols es) (entry_symbols_good env e h.0) (symbols_good env es h.1)

pub look_up_all : {X : Type 0} (P : Name → X → Type 0) (ps : List (Name × X)) (n : Name) (x : X) → AllByRecursion (λ (p : Name × X). P p.0 p.1) ps → look_up ps n ≡ Some x → P n x
look_up_all P [] n x h e = cc
look_up_all {X} P (q ∷ qs) n x h e = by (bytes_eq q.0 n) refl e (look_up_all P qs n x h.1)
  where
    by : (b : Boolean) → bytes_eq q.0 n ≡ b → cond b (Some q.1) (look_up qs n) ≡ Some x → (look_up qs n ≡ Some x → P n x) → P n x
    by true m g k = let i : q.1 ≡ x = cc in subst (λ y. P n y) i (subst (λ y. P y q.1) (same_name q.0 n m) h.0)
    by false m g k = k g

all_entries : (env : Env) → IsWellFormed env → AllByRecursion (IsGoodWhole env) env
all_entries env w = entries_good env [] env refl w.distinct w.distinct w.entries

pub symbol_good : (env : Env) → IsWellFormed env → (n : Name) (s : Symbol) → find_symbol env n ≡ Some s → IsGoodSymbol env s
symbol_good env w n s e = look_up_all (λ m x. IsGoodSymbol env x) (flat_map symbols env) n s (symbols_good env env (all_entries env w)) e

-- The same of a datatype, and its name.
abbrev AreGoodData : Env → List (Name × DataDecl) → Type 0
AreGoodData env ps = AllByRecursion (λ (p : Name × DataDecl). (p.1.name ≡ p.0) × AllByRecursion (IsGoodCon env p.1) p.1.cons) ps

entry_data_good : (env : Env) (e : Entry) → IsGoodWhole env e → AreGoodData env (datatypes e)
entry_data_good env (entry.Data d) h = ((refl, h), tt)
entry_data_good env (entry.Constant sig condition) h = tt
entry_data_good env (entry.Direct sig condition body) h = tt
entry_data_good env (entry.Recursive sig condition place bodies) h = tt

data_good : (env es : Env) → AllByRecursion (IsGoodWhole env) es → AreGoodData env (flat_map datatypes es)
data_good env [] h = tt
data_good env (e ∷ es) h = all_append _ (datatypes e) (flat_map datatypes es) (entry_data_good env e h.0) (data_good env es h.1)

pub found_data_good : (env : Env) → IsWellFormed env → (n : Name) (d : DataDecl) → find_data env n ≡ Some d → (d.name ≡ n) × AllByRecursion (IsGoodCon env d) d.cons
found_data_good env w n d e = look_up_all (λ m x. (x.name ≡ m) × AllByRecursion (IsGoodCon env x) x.cons) (flat_map datatypes env) n d (data_good env env (all_entries env w)) e
