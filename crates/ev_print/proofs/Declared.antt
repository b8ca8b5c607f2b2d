-- What an environment's names and signatures are.
use Rattle.std.proofs.Common.{◌≡◌, ℕ, zero, suc, ◌+◌, ◌<◌, Bool as Boolean, true, false, ◌||◌, not, List, [], ◌∷◌, ◌++◌, map, refl, sym, ap, ◌∙◌, subst, arith, true≢false}
use Rattle.std.specs.Prelude.{Some, cond, bytes_eq, flat_map, IsTrue}
use Rattle.std.specs.List.{AllByRecursion, list_any, range_with_len, enumerate_from}
use Rattle.ev_terms.specs.declared.types.Ty.{Ty, Int, Bool, Prop, Param, Data}
use Rattle.ev_terms.specs.declared.types.Tys.{Tys, Empty}
use Rattle.ev_terms.specs.Types.{pow, prod, more, type_list}
use Rattle.ev_typing.specs.declared.typing.Entry.{Entry}
use Rattle.ev_typing.specs.declared.typing.Entry.TheVariants as entry
use Rattle.ev_typing.specs.declared.typing.Signature.{Signature}
use Rattle.ev_typing.specs.declared.typing.DataDecl.{DataDecl}
use Rattle.ev_typing.specs.declared.typing.Con.{Con}
use Rattle.ev_typing.specs.declared.typing.Var.{Var}
use Rattle.ev_typing.specs.Profiles.{Profile}
use Rattle.ev_typing.specs.Env.{Env, Name, Symbol, DesOf, look_up, con_symbols, symbols, datatypes, names, signature_profile, symbol_profile, find_data, find_symbol}
use Rattle.ev_typing.specs.Occurs.{has_param, have_param}
use Rattle.ev_typing.specs.Typing.{IsProper, AreProper}
use Rattle.ev_typing.specs.WellFormed.{AreGoodFields, IsGoodSignature, IsGoodEntry, AreGoodAfter, IsWellFormed}
use Rattle.ev_typing.proofs.Names.{all_append, same_name}
use Rattle.ev_syntax.specs.Names.{is_name, is_variable_name}
use Rattle.ev_print.specs.Canon.{leaves_open}
use Rattle.ev_print.specs.ReadBack.{is_free_name, HasFreeNames}
use Rattle.ev_print.proofs.Rows.{is_prop, both}

-- The children are expressions; in a predicate every type parameter occurs in their types.
pub record HasTextSignature (p : Profile) : Type 0 where
  pub expressions : AllByRecursion (λ A. is_prop A ≡ false) p.args
  pub shown : is_prop p.result ≡ true → leaves_open p ≡ false

proper_expression : (env : Env) (A : Ty) → IsProper env A → is_prop A ≡ false
proper_expression env Int h = refl
proper_expression env Bool h = refl
proper_expression env Prop h = absurd h
proper_expression env (Param i) h = refl
proper_expression env (pow A) h = refl
proper_expression env (prod A B) h = refl
proper_expression env (Data n As) h = refl

proper_expressions : (env : Env) (As : Tys) → AreProper env As → AllByRecursion (λ A. is_prop A ≡ false) (type_list As)
proper_expressions env Empty h = tt
proper_expressions env (more A As) h = (proper_expression env A h.0, proper_expressions env As h.1)

-- a parameter in a list of types
listed_param : (j : ℕ) (As : Tys) → have_param j As ≡ list_any (has_param j) (type_list As)
listed_param j Empty = refl
listed_param j (more A As) = ap (λ b. has_param j A || b) (listed_param j As)

none_open : (P : ℕ → Boolean) (i n : ℕ) → ((j : ℕ) → j < i + n → P j ≡ true) → list_any (λ j. not (P j)) (range_with_len i n) ≡ false
none_open P i zero h = refl
none_open P i (suc n) h =
    ap (λ b. not b || list_any (λ j. not (P j)) (range_with_len (i + 1) n)) (h i (omega arith)) ∙ none_open P (i + 1) n (λ j l. h j (omega arith))

signature_text : (env : Env) (sig : Signature) → IsGoodSignature env sig → HasTextSignature (signature_profile sig)
signature_text env sig h = record { expressions = proper_expressions env sig.args h.args; shown = shown sig.result h.used }
  where
    param_of : (j : ℕ) (R : Ty) → is_prop R ≡ true → IsTrue (have_param j sig.args || has_param j R) → list_any (has_param j) (type_list sig.args) ≡ true
    param_of j Prop e u = sym (listed_param j sig.args) ∙ plain (have_param j sig.args) u
      where
        plain : (b : Boolean) → IsTrue (b || false) → b ≡ true
        plain true u = refl
        plain false u = u
    param_of j Int e u = cc
    param_of j Bool e u = cc
    param_of j (Param i) e u = cc
    param_of j (pow A) e u = cc
    param_of j (prod A B) e u = cc
    param_of j (Data n As) e u = cc

    shown : (R : Ty) → ((j : ℕ) → j < sig.params → IsTrue (have_param j sig.args || has_param j R)) → is_prop R ≡ true
        → list_any (λ i. not (list_any (has_param i) (type_list sig.args))) (range_with_len 0 sig.params) ≡ false
    shown R u e = none_open (λ j. list_any (has_param j) (type_list sig.args)) 0 sig.params (λ j l. param_of j R e (u j (omega arith)))

abbrev AllTexts : List (Name × Symbol) → Type 0
AllTexts ps = AllByRecursion (λ (p : Name × Symbol). HasTextSignature (symbol_profile p.1)) ps

con_texts : (env : Env) (d : DataDecl) (c : Con) → AreGoodFields env d.params c → AllTexts (con_symbols d c)
con_texts env d c h = (record { expressions = fields c.fields h.proper; shown = λ e. absurd (cc) }, each 0 c.fields h.proper)
  where
    fields : (fs : List Var) → AllByRecursion (IsProper env) (map (λ (f : Var). f.ty) fs) → AllByRecursion (λ A. is_prop A ≡ false) (map (λ (f : Var). f.ty) fs)
    fields [] g = tt
    fields (f ∷ fs) g = (proper_expression env f.ty g.0, fields fs g.1)

    each : (i : ℕ) (fs : List Var) → AllByRecursion (IsProper env) (map (λ (f : Var). f.ty) fs) → AllTexts (map (λ (f : ℕ × Var). (f.1.name, DesOf d c f.0 f.1)) (enumerate_from i fs))
    each i [] g = tt
    each i (f ∷ fs) g =
        (record { expressions = (refl, tt); shown = λ e. absurd (true≢false (sym e ∙ proper_expression env f.ty g.0)) }, each (i + 1) fs g.1)

data_texts : (env : Env) (d : DataDecl) (cs : List Con) → AllByRecursion (AreGoodFields env d.params) cs → AllTexts (flat_map (con_symbols d) cs)
data_texts env d [] h = tt
data_texts env d (c ∷ cs) h = all_append _ (con_symbols d c) (flat_map (con_symbols d) cs) (con_texts env d c h.0) (data_texts env d cs h.1)

entry_texts : (before : Env) (e : Entry) → IsGoodEntry before e → AllTexts (symbols e)
entry_texts before (entry.Data d) h = data_texts (before ++ entry.Data d ∷ []) d d.cons h
entry_texts before (entry.Constant sig condition) h = (signature_text before sig h.signature, tt)
entry_texts before (entry.Direct sig condition body) h = (signature_text before sig h.signature, tt)
entry_texts before (entry.Recursive sig condition place bodies) h = (signature_text before sig h.signature, tt)

all_texts : (before env : Env) → AreGoodAfter before env → AllTexts (flat_map symbols env)
all_texts before [] h = tt
all_texts before (e ∷ es) h = all_append _ (symbols e) (flat_map symbols es) (entry_texts before e h.0) (all_texts (before ++ e ∷ []) es h.1)

-- what holds of all that stand under names holds of what is found
found : {X : Type 0} (P : Name → X → Type 0) (ps : List (Name × X)) (n : Name) (x : X) → AllByRecursion (λ (p : Name × X). P p.0 p.1) ps → look_up ps n ≡ Some x → P n x
found P [] n x h e = absurd (cc)
found P (p ∷ ps) n x h e = by (bytes_eq p.0 n) refl e (found P ps n x h.1)
  where
    by : (b : Boolean) → bytes_eq p.0 n ≡ b → cond b (Some p.1) (look_up ps n) ≡ Some x → (look_up ps n ≡ Some x → P n x) → P n x
    by true f g again =
        let same : p.1 ≡ x = cc in
        subst (λ y. P n y) same (subst (λ m. P m p.1) (same_name p.0 n f) h.0)
    by false f g again = again g

pub text_signature : (env : Env) → IsWellFormed env → (n : Name) (s : Symbol) → find_symbol env n ≡ Some s → HasTextSignature (symbol_profile s)
text_signature env w n s e = found (λ m x. HasTextSignature (symbol_profile x)) (flat_map symbols env) n s (all_texts [] env w.entries) e

-- names
all_left : {X : Type 0} (P : X → Type 0) (xs ys : List X) → AllByRecursion P (xs ++ ys) → AllByRecursion P xs
all_left P [] ys h = tt
all_left P (x ∷ xs) ys h = (h.0, all_left P xs ys h.1)

all_right : {X : Type 0} (P : X → Type 0) (xs ys : List X) → AllByRecursion P (xs ++ ys) → AllByRecursion P ys
all_right P [] ys h = h
all_right P (x ∷ xs) ys h = all_right P xs ys h.1

under_names : {X : Type 0} (P : Name → Type 0) (ps : List (Name × X)) → AllByRecursion P (map (λ (p : Name × X). p.0) ps) → AllByRecursion (λ (p : Name × X). P p.0) ps
under_names P [] h = tt
under_names P (p ∷ ps) h = (h.0, under_names P ps h.1)

abbrev IsFree : Name → Type 0
IsFree n = IsTrue (is_free_name n)

free_symbols : (env : Env) → HasFreeNames env → AllByRecursion (λ (p : Name × Symbol). IsFree p.0) (flat_map symbols env)
free_symbols [] h = tt
free_symbols (e ∷ es) h =
    all_append _ (symbols e) (flat_map symbols es)
    (under_names IsFree (symbols e) (all_right IsFree (map (λ (p : Name × DataDecl). p.0) (datatypes e)) _ (all_left IsFree (names e) (flat_map names es) h)))
    (free_symbols es (all_right IsFree (names e) (flat_map names es) h))

free_datatypes : (env : Env) → HasFreeNames env → AllByRecursion (λ (p : Name × DataDecl). IsFree p.0) (flat_map datatypes env)
free_datatypes [] h = tt
free_datatypes (e ∷ es) h =
    all_append _ (datatypes e) (flat_map datatypes es)
    (under_names IsFree (datatypes e) (all_left IsFree (map (λ (p : Name × DataDecl). p.0) (datatypes e)) _ (all_left IsFree (names e) (flat_map names es) h)))
    (free_datatypes es (all_right IsFree (names e) (flat_map names es) h))

pub free_symbol : (env : Env) → HasFreeNames env → (n : Name) (s : Symbol) → find_symbol env n ≡ Some s → is_free_name n ≡ true
free_symbol env h n s e = found (λ m x. IsFree m) (flat_map symbols env) n s (free_symbols env h) e

pub free_datatype : (env : Env) → HasFreeNames env → (n : Name) (d : DataDecl) → find_data env n ≡ Some d → is_free_name n ≡ true
free_datatype env h n d e = found (λ m x. IsFree m) (flat_map datatypes env) n d (free_datatypes env h) e

pub free_is_name : (n : Name) → is_free_name n ≡ true → is_name n ≡ true
free_is_name n e = (both (is_name n) (not (is_variable_name n)) e).0
