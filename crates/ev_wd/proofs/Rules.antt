-- The rules of base symbols, one by one, and what a well-formed environment promises of its symbols.
use Rattle.std.specs.Prelude.{◌≡◌, ◌==◌, ◌||◌, ◌≤◌, ◌+◌, ◌<◌, ℕ, zero, suc, Bool as Boolean, true, false, cond, List, [], ◌∷◌, ◌++◌, Option, Some, None, map, flat_map, length, take, bytes_eq, option_map, Contains, IsSomeAnd, ⊤, reverse, refl}
use Rattle.std.specs.List.{AllByRecursion, IsDistinct, enumerate_from, list_any}
use Rattle.std.proofs.Common.{ap, sym, ◌∙◌, subst, append_assoc, arith, ⊎_elim, true≢false}
use Rattle.std.proofs.lemmas.Bool.{cases_Bool, eqb-true}
use Rattle.std.proofs.lemmas.List.Elements.{Contains-append_right}
use Rattle.std.proofs.lemmas.Bool.Decides.{nat_tests}
use Rattle.std.proofs.lemmas.List.{length-reverse, length-append}
use Rattle.std.proofs.lemmas.Option.{slice_get_within}
use Rattle.ev_terms.specs.declared.types.Ty.{Ty, Prop}
use Rattle.ev_terms.specs.declared.types.Sym.TheVariants.{Base}
use Rattle.ev_terms.specs.Types.{type_list}
use Rattle.ev_terms.specs.Term.{Term, Terms, var, lit, node, nil, cons}
use Rattle.ev_terms.specs.Symbols.{binds}
use Rattle.ev_terms.specs.Measures.{loose, all_loose, params, type_params}
use Rattle.ev_terms.specs.Substitution.{type_inst, type_at}
use Rattle.ev_terms.specs.Term.{term_list}
use Rattle.ev_typing.specs.declared.typing.Entry.{Entry}
use Rattle.ev_typing.specs.declared.typing.Entry.TheVariants as entry
use Rattle.ev_typing.specs.declared.typing.Signature.{Signature}
use Rattle.ev_typing.specs.declared.typing.DataDecl.{DataDecl}
use Rattle.ev_typing.specs.declared.typing.Con.{Con}
use Rattle.ev_typing.specs.declared.typing.Var.{Var}
use Rattle.ev_typing.specs.Env.{Env, Name, Symbol, ConOf, DesOf, ConstantOf, DirectOf, RecursiveOf, look_up, con_symbols, symbols, datatypes, names, find_data, find_symbol, field_types, symbol_profile, profile}
use Rattle.ev_typing.specs.Profiles.{Profile}
use Rattle.ev_typing.specs.Typing.{IsProper, Typed, AreTyped, inside}
use Rattle.ev_typing.specs.Parts.{IsPartOf, HasDistinctNames}
use Rattle.ev_typing.specs.WellFormed.{AreGoodFields, IsGoodCondition, IsGoodEntry, AreGoodAfter, IsWellFormed}
use Rattle.ev_typing.proofs.Names.{all_append, name_same}
use Rattle.ev_typing.proofs.Entries.{datatypes_named, symbols_named, distinct_left, distinct_right, distinct_apart, look_up_later, absent}
use Rattle.ev_typing.proofs.Wholes.{HasAll, whole_has_all, found_whole, proper_over, typed_over}
use Rattle.ev_wd.specs.Rows.{apply_row, over_row, mod_row, power_row, card_row, big_inter_row, min_row, max_row, and_row, implies_row, or_row, for_all_row, for_some_row, set_row}
use Rattle.ev_wd.specs.declared.rows.Rule.{Rule}
use Rattle.ev_wd.specs.declared.rows.Rule.TheVariants.{Both, Either, Bound, Children}
use Rattle.ev_wd.specs.declared.rows.Demand.TheVariants.{Nothing, Application, Quotient, Remainder, Power, Cardinality, Intersection, Minimum, Maximum}
use Rattle.ev_wd.specs.Demands.{rule_of}

-- Small facts that several files use.
pub append_nil : {X : Type 0} (xs : List X) → xs ++ [] ≡ xs
append_nil [] = refl
append_nil (x ∷ xs) = ap (λ ys. x ∷ ys) (append_nil xs)

pub or_false : (a b : Boolean) → (a || b) ≡ false → (a ≡ false) × (b ≡ false)
or_false true b e = absurd (true≢false e)
or_false false b e = (refl, e)

pub apart : (i k : ℕ) → (i == k) ≡ false → i ≡ k → ⊥
apart i k e p = grind (arith, nat_tests)

-- the types of a symbol's children, and its number of type parameters, where it has a signature
abbrev pub args_or : Option Profile → List Ty
args_or None = []
args_or (Some p) = p.args

abbrev pub params_or : Option Profile → ℕ
params_or None = 0
params_or (Some p) = p.params

-- a value of an option
pub some_out : {X Q : Type 0} {P : X → Type 0} (o : Option X) → ((x : X) → o ≡ Some x → P x → Q) → IsSomeAnd o P → Q
some_out None f h = absurd h
some_out (Some x) f h = f x refl h

-- a symbol with the profile
pub some_symbol : {Q : Type 0} (o : Option Symbol) (p : Profile) → option_map symbol_profile o ≡ Some p → ((s : Symbol) → o ≡ Some s → symbol_profile s ≡ p → Q) → Q
some_symbol None p e f = cc
some_symbol (Some s) p e f = f s refl (cc)

decide : (k n : ℕ) (Q : Type 0) → (k ≡ n → Q) → ((k == n) ≡ false → Q) → Q
decide k n Q f g = ⊎_elim (λ e. f (eqb-true k n e)) g (cases_Bool (k == n))

-- what holds of each row with its rule holds of all
pub record RuleCases (P : ℕ → Rule → Type 0) : Type 0 where
  pub conjunction : P and_row Both
  pub implication : P implies_row Both
  pub disjunction : P or_row Either
  pub for_all : P for_all_row Bound
  pub for_some : P for_some_row Bound
  pub set_former : P set_row Bound
  pub application : P apply_row (Children Application)
  pub quotient : P over_row (Children Quotient)
  pub remainder : P mod_row (Children Remainder)
  pub power : P power_row (Children Power)
  pub cardinality : P card_row (Children Cardinality)
  pub intersection : P big_inter_row (Children Intersection)
  pub minimum : P min_row (Children Minimum)
  pub maximum : P max_row (Children Maximum)
  pub others : (k : ℕ) → binds (Base k) ≡ 0 → P k (Children Nothing)

pub rule_cases : (P : ℕ → Rule → Type 0) → RuleCases P → (k : ℕ) → P k (rule_of k)
unfolding binds
rule_cases P c k =
    let at : (n : ℕ) → P n (rule_of n) → k ≡ n → P k (rule_of k) = λ n p e. subst (λ j. P j (rule_of j)) (sym e) p in
    decide k and_row (P k (rule_of k)) (at and_row c.conjunction) (λ e0.
    decide k implies_row (P k (rule_of k)) (at implies_row c.implication) (λ e1.
    decide k or_row (P k (rule_of k)) (at or_row c.disjunction) (λ e2.
    decide k for_all_row (P k (rule_of k)) (at for_all_row c.for_all) (λ e3.
    decide k for_some_row (P k (rule_of k)) (at for_some_row c.for_some) (λ e4.
    decide k set_row (P k (rule_of k)) (at set_row c.set_former) (λ e5.
    decide k apply_row (P k (rule_of k)) (at apply_row c.application) (λ e6.
    decide k over_row (P k (rule_of k)) (at over_row c.quotient) (λ e7.
    decide k mod_row (P k (rule_of k)) (at mod_row c.remainder) (λ e8.
    decide k power_row (P k (rule_of k)) (at power_row c.power) (λ e9.
    decide k card_row (P k (rule_of k)) (at card_row c.cardinality) (λ e10.
    decide k big_inter_row (P k (rule_of k)) (at big_inter_row c.intersection) (λ e11.
    decide k min_row (P k (rule_of k)) (at min_row c.minimum) (λ e12.
    decide k max_row (P k (rule_of k)) (at max_row c.maximum) (λ e13.
    let r : rule_of k ≡ Children Nothing = rw (e0, e1, e2, e3, e4, e5, e6, e7, e8, e9, e10, e11, e12, e13) refl in
    let b : binds (Base k) ≡ 0 = rw (e3, e4, e5) refl in
    subst (P k) (sym r) (c.others k b)))))))))))))))

-- A typed term has no loose variable past its context.
take_short : (n : ℕ) (As : List Ty) → length (take n As) ≤ n
take_short zero As = omega arith
take_short (suc n) [] = omega arith
take_short (suc n) (A ∷ As) = omega (arith, take_short n As)

mutual
  pub typed_loose : (env : Env) (C : List Ty) (t : Term) (A : Ty) → Typed env C t A → loose t ≤ length C
  typed_loose env C (var i) A h =
      let k : i < length (reverse C) = slice_get_within (reverse C) i A h in
      omega (arith, length-reverse C)
  typed_loose env C (lit n) A h = omega arith
  typed_loose env C (node s As ts) A h =
      some_out (profile env s) (λ p e g.
      let k : all_loose ts ≤ length (inside C s As) = all_typed_loose env (inside C s As) ts (map (type_inst (type_at As)) p.args) g.children in
      omega (arith, length-append C (take (binds s) (type_list As)), take_short (binds s) (type_list As))) h

  pub all_typed_loose : (env : Env) (C : List Ty) (ts : Terms) (As : List Ty) → AreTyped env C ts As → all_loose ts ≤ length C
  all_typed_loose env C nil As h = omega arith
  all_typed_loose env C (cons t ts) [] h = absurd h
  all_typed_loose env C (cons t ts) (A ∷ As) h = omega (arith, typed_loose env C t A h.0, all_typed_loose env C ts As h.1)

-- as many children as types
pub child_count : (env : Env) (C : List Ty) (ts : Terms) (As : List Ty) → AreTyped env C ts As → length (term_list ts) ≡ length As
child_count env C nil [] h = refl
child_count env C nil (A ∷ As) h = absurd h
child_count env C (cons t ts) [] h = absurd h
child_count env C (cons t ts) (A ∷ As) h = ap suc (child_count env C ts As h.1)

-- What a well-formed environment promises of a symbol.
abbrev pub IsGoodUse : Env → Signature → Option Term → Type 0
IsGoodUse env sig None = ⊤
IsGoodUse env sig (Some P) = Typed env (type_list sig.args) P Prop × (params P ≤ sig.params)

pub record IsGoodField (env : Env) (d : DataDecl) (c : Con) : Type 0 where
  pub proper : AllByRecursion (IsProper env) (field_types c)
  pub parameters : AllByRecursion (λ A. type_params A ≤ d.params) (field_types c)
  pub decl : find_data env d.name ≡ Some d
  pub con : find_symbol env c.name ≡ Some (ConOf d c)

abbrev pub IsGoodSymbol : Env → Symbol → Type 0
IsGoodSymbol env (ConOf d c) = ⊤
IsGoodSymbol env (DesOf d c i f) = IsGoodField env d c
IsGoodSymbol env (ConstantOf sig condition) = IsGoodUse env sig condition
IsGoodSymbol env (DirectOf sig condition body) = IsGoodUse env sig condition
IsGoodSymbol env (RecursiveOf sig condition place bodies) = IsGoodUse env sig condition

abbrev AreGoodSymbols : Env → List (Name × Symbol) → Type 0
AreGoodSymbols env ps = AllByRecursion (λ (p : Name × Symbol). IsGoodSymbol env p.1) ps

-- The entries before others are a part of them all.
part_of_all : (whole before env later : Env) → before ++ (env ++ later) ≡ whole → IsPartOf env whole
part_of_all whole before [] later e = tt
part_of_all whole before (d ∷ ds) later e = (
  subst (λ w. Contains w d) e (Contains-append_right before (d ∷ (ds ++ later)) d (0, omega arith, refl)),
  part_of_all whole (before ++ d ∷ []) ds later (append_assoc before (d ∷ []) (ds ++ later) ∙ e),
)

contains_next : (whole before : Env) (d : Entry) (later : Env) → before ++ d ∷ later ≡ whole → Contains whole d
contains_next whole before d later e = subst (λ w. Contains w d) e (Contains-append_right before (d ∷ later) d (0, omega arith, refl))

good_use : (env whole : Env) → HasAll env whole → (sig : Signature) (condition : Option Term) → IsGoodCondition env sig condition → IsGoodUse whole sig condition
good_use env whole k sig None h = tt
good_use env whole k sig (Some P) h = (typed_over env whole k (type_list sig.args) P Prop h.typed, h.parameters)

-- A constructor is found by its name.
found_last : (ps qs : List (Name × Symbol)) (n : Name) (s : Symbol) → list_any (bytes_eq n) (map (λ (p : Name × Symbol). p.0) ps) ≡ false →
    look_up (ps ++ (n, s) ∷ qs) n ≡ Some s
found_last ps qs n s h =
    look_up_later ps ((n, s) ∷ qs) n (absent ps n h) ∙ ap (λ b. cond b (Some s) (look_up qs n)) (name_same n)

map_names : (ps qs : List (Name × Symbol)) → map (λ (p : Name × Symbol). p.0) (ps ++ qs) ≡ map (λ (p : Name × Symbol). p.0) ps ++ map (λ (p : Name × Symbol). p.0) qs
map_names [] qs = refl
map_names (p ∷ ps) qs = ap (λ ns. p.0 ∷ ns) (map_names ps qs)

con_at : (ps qs : List (Name × Symbol)) (n : Name) (s : Symbol) → IsDistinct bytes_eq (map (λ (p : Name × Symbol). p.0) (ps ++ (n, s) ∷ qs)) →
    look_up (ps ++ (n, s) ∷ qs) n ≡ Some s
con_at ps qs n s h =
    found_last ps qs n s
    (distinct_apart (map (λ (p : Name × Symbol). p.0) ps) (n ∷ map (λ (p : Name × Symbol). p.0) qs) n
    (subst (IsDistinct bytes_eq) (map_names ps ((n, s) ∷ qs)) h) (ap (λ b. b || list_any (bytes_eq n) (map (λ (p : Name × Symbol). p.0) qs)) (name_same n)))

-- all symbols of the constructors from one on, with those before it
cons_good : (whole : Env) (d : DataDecl) → HasDistinctNames whole → Contains whole (entry.Data d) → (env : Env) → HasAll env whole →
    IsDistinct bytes_eq (map (λ (p : Name × Symbol). p.0) (symbols (entry.Data d))) → (before : List (Name × Symbol)) (cs : List Con) →
    before ++ flat_map (con_symbols d) cs ≡ symbols (entry.Data d) → AllByRecursion (AreGoodFields env d.params) cs → AreGoodSymbols whole (flat_map (con_symbols d) cs)
cons_good whole d w k env l dist before [] e h = tt
cons_good whole d w k env l dist before (c ∷ cs) e h =
    all_append _ (con_symbols d c) (flat_map (con_symbols d) cs) (tt, each 0 c.fields)
    (cons_good whole d w k env l dist (before ++ con_symbols d c) cs (append_assoc before (con_symbols d c) (flat_map (con_symbols d) cs) ∙ e) h.1)
  where
    con : find_symbol whole c.name ≡ Some (ConOf d c)
    con =
        found_whole symbols symbols_named whole (entry.Data d) c.name (ConOf d c) w k
        (ap (λ ps. look_up ps c.name) (sym e)
        ∙ con_at before (map (λ (f : ℕ × Var). (f.1.name, DesOf d c f.0 f.1)) (enumerate_from 0 c.fields) ++ flat_map (con_symbols d) cs) c.name (ConOf d c)
        (subst (λ ps. IsDistinct bytes_eq (map (λ (p : Name × Symbol). p.0) ps)) (sym e) dist))

    decl : find_data whole d.name ≡ Some d
    decl = found_whole datatypes datatypes_named whole (entry.Data d) d.name d w k (ap (λ b. cond b (Some d) None) (name_same d.name))

    proper : (fs : List Var) → AllByRecursion (IsProper env) (map (λ (f : Var). f.ty) fs) → AllByRecursion (IsProper whole) (map (λ (f : Var). f.ty) fs)
    proper [] g = tt
    proper (f ∷ fs) g = (proper_over env whole l f.ty g.0, proper fs g.1)

    good : IsGoodField whole d c
    good = record { proper = proper c.fields h.0.proper; parameters = h.0.parameters; decl = decl; con = con }

    each : (i : ℕ) (fs : List Var) → AreGoodSymbols whole (map (λ (f : ℕ × Var). (f.1.name, DesOf d c f.0 f.1)) (enumerate_from i fs))
    each i [] = tt
    each i (f ∷ fs) = (good, each (i + 1) fs)

entry_good : (before whole : Env) (e : Entry) → HasAll before whole → HasAll (before ++ e ∷ []) whole → HasDistinctNames whole → Contains whole e →
    IsDistinct bytes_eq (names e) → IsGoodEntry before e → AreGoodSymbols whole (symbols e)
unfolding IsDistinct
entry_good before whole (entry.Data d) k l w c dist h = cons_good whole d w c (before ++ entry.Data d ∷ []) l dist.1 [] d.cons refl h
entry_good before whole (entry.Constant sig condition) k l w c dist h = (good_use before whole k sig condition h.condition_good, tt)
entry_good before whole (entry.Direct sig condition body) k l w c dist h = (good_use before whole k sig condition h.condition_good, tt)
entry_good before whole (entry.Recursive sig condition place bodies) k l w c dist h = (good_use before whole k sig condition h.condition_good, tt)

all_good : (whole before env : Env) → before ++ env ≡ whole → HasDistinctNames whole → HasDistinctNames env → AreGoodAfter before env → AreGoodSymbols whole (flat_map symbols env)
all_good whole before [] e w v h = tt
all_good whole before (d ∷ ds) e w v h =
    let next : (before ++ d ∷ []) ++ ds ≡ whole = append_assoc before (d ∷ []) ds ∙ e in
    all_append _ (symbols d) (flat_map symbols ds)
    (entry_good before whole d (whole_has_all before whole (part_of_all whole [] before (d ∷ ds) e) w)
    (whole_has_all (before ++ d ∷ []) whole (part_of_all whole [] (before ++ d ∷ []) ds next) w) w (contains_next whole before d ds e)
    (distinct_left (names d) (flat_map names ds) v) h.0)
    (all_good whole (before ++ d ∷ []) ds next w (distinct_right (names d) (flat_map names ds) v) h.1)

found_good : (env : Env) (ps : List (Name × Symbol)) (n : Name) (s : Symbol) → AreGoodSymbols env ps → look_up ps n ≡ Some s → IsGoodSymbol env s
found_good env [] n s h e = cc
found_good env (q ∷ qs) n s h e = by (bytes_eq q.0 n) e (found_good env qs n s h.1)
  where
    by : (b : Boolean) → cond b (Some q.1) (look_up qs n) ≡ Some s → (look_up qs n ≡ Some s → IsGoodSymbol env s) → IsGoodSymbol env s
    by true g k = let i : q.1 ≡ s = cc in subst (IsGoodSymbol env) i h.0
    by false g k = k g

pub good_symbol : (env : Env) → IsWellFormed env → (n : Name) (s : Symbol) → find_symbol env n ≡ Some s → IsGoodSymbol env s
good_symbol env w n s e = found_good env (flat_map symbols env) n s (all_good env [] env refl w.distinct w.distinct w.entries) e
