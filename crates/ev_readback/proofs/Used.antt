-- Each type parameter of a symbol occurs in the types of its children or in its own.
use Rattle.std.specs.Prelude.{◌≡◌, ℕ, zero, suc, ◌+◌, ◌<◌, ◌≤◌, Bool as Boolean, true, false, ◌||◌, ◌&&◌, ◌==◌, not, cond, List, [], ◌∷◌, ◌++◌, map, flat_map, length, Option, Some, None, option_map, slice_get, bytes_eq, IsTrue, refl}
use Rattle.std.specs.List.{list_any, list_all, range_with_len, AllByRecursion, enumerate_from}
use Rattle.std.proofs.Common.{ap, sym, ◌∙◌, arith, true≢false, subst as transport}
use Rattle.std.proofs.lemmas.Bool.{eqb-true, eqb-false, eq-eqb}
use Rattle.ev_terms.specs.declared.types.Ty.{Ty, Int, Bool, Prop, Param, Data}
use Rattle.ev_terms.specs.declared.types.Tys.{Tys, Empty}
use Rattle.ev_terms.specs.declared.types.Sym.{Sym}
use Rattle.ev_terms.specs.declared.types.Sym.TheVariants.{Base, User}
use Rattle.ev_terms.specs.Types.{more, type_list}
use Rattle.ev_typing.specs.declared.typing.Entry.{Entry}
use Rattle.ev_typing.specs.declared.typing.Entry.TheVariants as entry
use Rattle.ev_typing.specs.declared.typing.Signature.{Signature}
use Rattle.ev_typing.specs.declared.typing.DataDecl.{DataDecl}
use Rattle.ev_typing.specs.declared.typing.Con.{Con}
use Rattle.ev_typing.specs.declared.typing.Var.{Var}
use Rattle.ev_typing.specs.Occurs.{has_param, have_param}
use Rattle.ev_typing.specs.TypeLists.{params_from, own_types}
use Rattle.ev_typing.specs.Profiles.{Profile, base_profiles, base_profile}
use Rattle.ev_typing.specs.Env.{Env, Name, Symbol, ConOf, DesOf, look_up, con_symbols, symbols, symbol_profile, signature_profile, profile}
use Rattle.ev_typing.specs.WellFormed.{IsGoodSignature, IsGoodEntry, AreGoodAfter, IsWellFormed}
use Rattle.ev_typing.proofs.Proper.{and_split}
use Rattle.ev_typing.proofs.Names.{all_append}
use Rattle.ev_print.specs.Canon.{leaves_open, symbol_shows_type}
use Rattle.ev_print.specs.Styles.{base_style, shows_type}
use Rattle.ev_readback.proofs.Rows.{pass, row_passed}
use Rattle.ev_readback.proofs.Parameters.{or_cases, none_of_range}

abbrev pub occurs : Profile → ℕ → Boolean
occurs p j = list_any (has_param j) p.args || has_param j p.result

abbrev pub IsUsed : Profile → Type 0
IsUsed p = (j : ℕ) → j < p.params → occurs p j ≡ true

or_right : (a b : Boolean) → b ≡ true → (a || b) ≡ true
or_right true b e = refl
or_right false b e = e

or_left : (a b : Boolean) → a ≡ true → (a || b) ≡ true
or_left true b e = refl
or_left false b e = absurd (true≢false (sym e))

-- a base symbol, by a test on its row
abbrev used_test : Profile → Boolean
used_test p = not (list_any (λ j. not (occurs p j)) (range_with_len 0 p.params))

pub not_false : (b : Boolean) → not b ≡ true → b ≡ false
not_false true e = absurd (true≢false (sym e))
not_false false e = refl

not_true : (b : Boolean) → not b ≡ false → b ≡ true
not_true true e = refl
not_true false e = absurd (true≢false e)

used_from_test : (p : Profile) → used_test p ≡ true → IsUsed p
used_from_test p h j lt =
    not_true (occurs p j) (none_of_range (λ i. not (occurs p i)) 0 p.params j (not_false _ h) (omega arith) (omega (arith, lt)))

-- a base symbol whose text shows its type, or one whose parameters are used
abbrev row_test : ℕ → Profile → Boolean
row_test k p = shows_type (base_style k) || used_test p

rows_pass : pass row_test 0 base_profiles ≡ true
rows_pass = refl

base_used : (k : ℕ) (p : Profile) → base_profile k ≡ Some p → shows_type (base_style k) ≡ false → IsUsed p
base_used k p e shows = used_from_test p (sym (ap (λ b. b || used_test p) shows) ∙ row_passed row_test rows_pass k p e)

-- a user's symbol
own_params : (i n j : ℕ) → i ≤ j → j < i + n → have_param j (params_from i n) ≡ true
own_params i zero j a b = absurd (omega (arith, a, b))
own_params i (suc n) j a b = by (i == j) refl (own_params (i + 1) n j)
  where
    by : (x : Boolean) → (i == j) ≡ x → (i + 1 ≤ j → j < i + 1 + n → have_param j (params_from (i + 1) n) ≡ true)
        → ((i == j) || have_param j (params_from (i + 1) n)) ≡ true
    by true e k = ap (λ c. c || have_param j (params_from (i + 1) n)) e
    by false e k = or_right (i == j) _ (k (omega (arith, a, eqb-false i j e)) (omega (arith, b)))

own_used : (n j : ℕ) → j < n → have_param j (own_types n) ≡ true
own_used n j lt = own_params 0 n j (omega arith) (omega (arith, lt))

in_list : (j : ℕ) (As : Tys) → list_any (has_param j) (type_list As) ≡ have_param j As
in_list j Empty = refl
in_list j (more A As) = ap (λ b. has_param j A || b) (in_list j As)

signature_used : (env : Env) (sig : Signature) → IsGoodSignature env sig → IsUsed (signature_profile sig)
signature_used env sig h j lt = ap (λ b. b || has_param j sig.result) (in_list j sig.args) ∙ h.used j lt

abbrev AreUsed : List (Name × Symbol) → Type 0
AreUsed ps = AllByRecursion (λ (p : Name × Symbol). IsUsed (symbol_profile p.1)) ps

con_used : (d : DataDecl) (c : Con) → AreUsed (con_symbols d c)
con_used d c = (λ j lt. or_right _ _ (own_used d.params j lt), each 0 c.fields)
  where
    each : (i : ℕ) (fs : List Var) → AreUsed (map (λ (f : ℕ × Var). (f.1.name, DesOf d c f.0 f.1)) (enumerate_from i fs))
    each i [] = tt
    each i (f ∷ fs) =
        (λ j lt. or_left _ _ (or_left _ _ (own_used d.params j lt)), each (i + 1) fs)

data_used : (d : DataDecl) (cs : List Con) → AreUsed (flat_map (con_symbols d) cs)
data_used d [] = tt
data_used d (c ∷ cs) = all_append _ (con_symbols d c) (flat_map (con_symbols d) cs) (con_used d c) (data_used d cs)

entry_used : (env : Env) (e : Entry) → IsGoodEntry env e → AreUsed (symbols e)
entry_used env (entry.Data d) h = data_used d d.cons
entry_used env (entry.Constant sig condition) h = (signature_used env sig h.signature, tt)
entry_used env (entry.Direct sig condition body) h = (signature_used env sig h.signature, tt)
entry_used env (entry.Recursive sig condition place bodies) h = (signature_used env sig h.signature, tt)

all_used : (before env : Env) → AreGoodAfter before env → AreUsed (flat_map symbols env)
all_used before [] h = tt
all_used before (e ∷ es) h = all_append _ (symbols e) (flat_map symbols es) (entry_used before e h.0) (all_used (before ++ e ∷ []) es h.1)

found_used : (ps : List (Name × Symbol)) (n : Name) (p : Profile) → AreUsed ps → option_map symbol_profile (look_up ps n) ≡ Some p → IsUsed p
found_used [] n p h e = cc
found_used (q ∷ qs) n p h e = by (bytes_eq q.0 n) e (found_used qs n p h.1)
  where
    by : (b : Boolean) → option_map symbol_profile (cond b (Some q.1) (look_up qs n)) ≡ Some p → (option_map symbol_profile (look_up qs n) ≡ Some p → IsUsed p) → IsUsed p
    by true g k = let i : symbol_profile q.1 ≡ p = cc in transport IsUsed i h.0
    by false g k = k g

pub profile_used : (env : Env) → IsWellFormed env → (s : Sym) (p : Profile) → profile env s ≡ Some p → symbol_shows_type s ≡ false → IsUsed p
profile_used env w (Base k) p h shows = base_used k p h shows
profile_used env w (User n) p h shows = found_used (flat_map symbols env) n p (all_used [] env w.entries) h

-- where no type is left open, each parameter occurs in the types of the children
pub closed_used : (p : Profile) → leaves_open p ≡ false → (j : ℕ) → j < p.params → list_any (has_param j) p.args ≡ true
closed_used p e j lt =
    not_true _ (none_of_range (λ i. not (list_any (has_param i) p.args)) 0 p.params j e (omega arith) (omega (arith, lt)))

-- what leaves a type open is no predicate
some_of_range : (f : ℕ → Boolean) (from n : ℕ) → list_any f (range_with_len from n) ≡ true → (j : ℕ) × (j < from + n) × (f j ≡ true)
some_of_range f from zero e = absurd (true≢false (sym e))
some_of_range f from (suc n) e = by (f from) refl e (some_of_range f (from + 1) n)
  where
    by : (x : Boolean) → f from ≡ x → (x || list_any f (range_with_len (from + 1) n)) ≡ true
        → (list_any f (range_with_len (from + 1) n) ≡ true → (j : ℕ) × (j < from + 1 + n) × (f j ≡ true)) → (j : ℕ) × (j < from + suc n) × (f j ≡ true)
    by true g h k = (from, omega arith, g)
    by false g h k = let (j, lt, q) = k h in (j, omega (arith, lt), q)

pub open_result : (p : Profile) → IsUsed p → leaves_open p ≡ true → p.result ≡ Prop → ⊥
open_result p used free is =
    let (j, lt, q) = some_of_range (λ i. not (list_any (has_param i) p.args)) 0 p.params free in
    let none : list_any (has_param j) p.args ≡ false = not_false _ q in
    let all = used j (omega (arith, lt)) in
    true≢false (sym all ∙ ap (λ b. b || has_param j p.result) none ∙ ap (has_param j) is)
