-- The signatures of a well-formed environment have proper types.
use Rattle.std.specs.Prelude.{◌≡◌, ◌+◌, ℕ, zero, suc, Bool as Boolean, true, false, cond, List, [], ◌∷◌, ◌++◌, Some, None, map, flat_map, length, bytes_eq, option_map, Contains, IsSomeAnd, refl}
use Rattle.std.specs.List.{AllByRecursion, enumerate_from}
use Rattle.std.proofs.Common.{ap, sym, ◌∙◌, subst, append_assoc, arith}
use Rattle.std.proofs.lemmas.List.Elements.{Contains-append_right}
use Rattle.ev_terms.specs.declared.types.Ty.{Ty, Int, Bool, Prop, Param, Data}
use Rattle.ev_terms.specs.declared.types.Tys.{Tys, Empty}
use Rattle.ev_terms.specs.Types.{pow, prod, more, type_list}
use Rattle.ev_typing.specs.declared.typing.Entry.{Entry}
use Rattle.ev_typing.specs.declared.typing.Entry.TheVariants as entry
use Rattle.ev_typing.specs.declared.typing.Signature.{Signature}
use Rattle.ev_typing.specs.declared.typing.DataDecl.{DataDecl}
use Rattle.ev_typing.specs.declared.typing.Con.{Con}
use Rattle.ev_typing.specs.declared.typing.Var.{Var}
use Rattle.ev_typing.specs.TypeLists.{params_from, own_types}
use Rattle.ev_typing.specs.Profiles.{Profile}
use Rattle.ev_typing.specs.Env.{Env, Name, Symbol, DesOf, look_up, con_symbols, symbols, datatypes, own_type, signature_profile, symbol_profile, find_data}
use Rattle.ev_typing.specs.Typing.{IsProper, AreProper}
use Rattle.ev_typing.specs.Proper.{IsResult}
use Rattle.ev_typing.specs.Parts.{IsPartOf, HasDistinctNames}
use Rattle.ev_typing.specs.WellFormed.{AreGoodFields, IsGoodSignature, IsGoodEntry, AreGoodAfter}
use Rattle.ev_typing.specs.TypingLaws.{SignaturesAreProper}
use Rattle.ev_typing.proofs.Names.{all_append, name_same}
use Rattle.ev_typing.proofs.Proper.{proper_signatures, result_from_proper}
use Rattle.ev_typing.proofs.Entries.{datatypes_named}
use Rattle.ev_typing.proofs.Wholes.{HasAll, whole_has_all, found_whole, proper_over, all_proper_over}

-- The entries before others are a part of them all.
part_of_all : (whole before env later : Env) → before ++ (env ++ later) ≡ whole → IsPartOf env whole
part_of_all whole before [] later e = tt
part_of_all whole before (d ∷ ds) later e = (
  subst (λ w. Contains w d) e (Contains-append_right before (d ∷ (ds ++ later)) d (0, omega arith, refl)),
  part_of_all whole (before ++ d ∷ []) ds later (append_assoc before (d ∷ []) (ds ++ later) ∙ e),
)

contains_next : (whole before : Env) (d : Entry) (later : Env) → before ++ d ∷ later ≡ whole → Contains whole d
contains_next whole before d later e = subst (λ w. Contains w d) e (Contains-append_right before (d ∷ later) d (0, omega arith, refl))

-- What is asked of a signature.
abbrev HasResults : Env → Profile → Type 0
HasResults env p = AllByRecursion (IsResult env) p.args × IsResult env p.result

abbrev AllHaveResults : Env → List (Name × Symbol) → Type 0
AllHaveResults env ps = AllByRecursion (λ (p : Name × Symbol). HasResults env (symbol_profile p.1)) ps

result_over : (e f : Env) → HasAll e f → (A : Ty) → IsResult e A → IsResult f A
result_over e f k Int h = h
result_over e f k Bool h = h
result_over e f k Prop h = h
result_over e f k (Param i) h = h
result_over e f k (pow A) h = proper_over e f k (pow A) h
result_over e f k (prod A B) h = proper_over e f k (prod A B) h
result_over e f k (Data n As) h = proper_over e f k (Data n As) h

list_results : (env : Env) (As : Tys) → AreProper env As → AllByRecursion (IsResult env) (type_list As)
list_results env Empty h = tt
list_results env (more A As) h = (result_from_proper env A h.0, list_results env As h.1)

signature_results : (env whole : Env) → HasAll env whole → (sig : Signature) → IsGoodSignature env sig → HasResults whole (signature_profile sig)
signature_results env whole k sig h =
    (list_results whole sig.args (all_proper_over env whole k sig.args h.args), result_over env whole k sig.result h.result)

-- A declared datatype at its own parameters is proper.
own_length : (i n : ℕ) → length (type_list (params_from i n)) ≡ n
own_length i zero = refl
own_length i (suc n) = ap suc (own_length (i + 1) n)

own_proper : (env : Env) (i n : ℕ) → AreProper env (params_from i n)
own_proper env i zero = tt
own_proper env i (suc n) = (tt, own_proper env (i + 1) n)

own_type_proper : (whole : Env) (d : DataDecl) → HasDistinctNames whole → Contains whole (entry.Data d) → IsProper whole (own_type d)
own_type_proper whole d w c =
    (subst (λ o. IsSomeAnd o (λ x. length (type_list (own_types d.params)) ≡ x.params)) (sym found) (own_length 0 d.params), own_proper whole 0 d.params)
  where
    found : find_data whole d.name ≡ Some d
    found = found_whole datatypes datatypes_named whole (entry.Data d) d.name d w c (ap (λ b. cond b (Some d) None) (name_same d.name))

con_results : (env whole : Env) → HasAll env whole → (d : DataDecl) → IsProper whole (own_type d) → (c : Con) → AreGoodFields env d.params c → AllHaveResults whole (con_symbols d c)
con_results env whole k d own c h =
    ((fields c.fields h.proper, own), each 0 c.fields h.proper)
  where
    fields : (fs : List Var) → AllByRecursion (IsProper env) (map (λ (f : Var). f.ty) fs) → AllByRecursion (IsResult whole) (map (λ (f : Var). f.ty) fs)
    fields [] g = tt
    fields (f ∷ fs) g = (result_from_proper whole f.ty (proper_over env whole k f.ty g.0), fields fs g.1)

    each : (i : ℕ) (fs : List Var) → AllByRecursion (IsProper env) (map (λ (f : Var). f.ty) fs) → AllHaveResults whole (map (λ (f : ℕ × Var). (f.1.name, DesOf d c f.0 f.1)) (enumerate_from i fs))
    each i [] g = tt
    each i (f ∷ fs) g = (((own, tt), result_from_proper whole f.ty (proper_over env whole k f.ty g.0)), each (i + 1) fs g.1)

data_results : (env whole : Env) → HasAll env whole → (d : DataDecl) → IsProper whole (own_type d) → (cs : List Con) → AllByRecursion (AreGoodFields env d.params) cs →
    AllHaveResults whole (flat_map (con_symbols d) cs)
data_results env whole k d own [] h = tt
data_results env whole k d own (c ∷ cs) h =
    all_append _ (con_symbols d c) (flat_map (con_symbols d) cs) (con_results env whole k d own c h.0) (data_results env whole k d own cs h.1)

entry_results : (before whole : Env) (e : Entry) → HasAll before whole → HasAll (before ++ e ∷ []) whole → HasDistinctNames whole → Contains whole e → IsGoodEntry before e →
    AllHaveResults whole (symbols e)
entry_results before whole (entry.Data d) k l w c h = data_results (before ++ entry.Data d ∷ []) whole l d (own_type_proper whole d w c) d.cons h
entry_results before whole (entry.Constant sig condition) k l w c h = (signature_results before whole k sig h.signature, tt)
entry_results before whole (entry.Direct sig condition body) k l w c h = (signature_results before whole k sig h.signature, tt)
entry_results before whole (entry.Recursive sig condition place bodies) k l w c h = (signature_results before whole k sig h.signature, tt)

all_results : (whole before env : Env) → before ++ env ≡ whole → HasDistinctNames whole → AreGoodAfter before env → AllHaveResults whole (flat_map symbols env)
all_results whole before [] e w h = tt
all_results whole before (d ∷ ds) e w h =
    let next : (before ++ d ∷ []) ++ ds ≡ whole = append_assoc before (d ∷ []) ds ∙ e in
    all_append _ (symbols d) (flat_map symbols ds)
    (entry_results before whole d (whole_has_all before whole (part_of_all whole [] before (d ∷ ds) e) w)
    (whole_has_all (before ++ d ∷ []) whole (part_of_all whole [] (before ++ d ∷ []) ds next) w) w (contains_next whole before d ds e) h.0)
    (all_results whole (before ++ d ∷ []) ds next w h.1)

found_results : (env : Env) (ps : List (Name × Symbol)) (n : Name) (p : Profile) → AllHaveResults env ps → option_map symbol_profile (look_up ps n) ≡ Some p → HasResults env p
found_results env [] n p h e = cc
found_results env (q ∷ qs) n p h e = by (bytes_eq q.0 n) e (found_results env qs n p h.1)
  where
    by : (b : Boolean) → option_map symbol_profile (cond b (Some q.1) (look_up qs n)) ≡ Some p → (option_map symbol_profile (look_up qs n) ≡ Some p → HasResults env p) → HasResults env p
    by true g k = let i : symbol_profile q.1 ≡ p = cc in subst (HasResults env) i h.0
    by false g k = k g

pub signatures_proper : SignaturesAreProper
signatures_proper env w =
    proper_signatures env (λ n p e. found_results env (flat_map symbols env) n p (all_results env [] env refl w.distinct w.entries) e)
