-- The case of a name.
use Rattle.std.proofs.Common.{◌≡◌, ℕ, zero, suc, ◌+◌, ◌≤◌, ◌<◌, Bool as Boolean, true, false, cond, List, [], ◌∷◌, length, drop, get_or, min, Option, Some, None, ap, sym, ◌∙◌, subst, refl, arith}
use Rattle.std.proofs.lemmas.List.{length-drop}
use Rattle.std.specs.Prelude.{◌^◌, ◌++◌, map, flat_map, slice_get, option_map, bytes_eq}
use Rattle.std.specs.List.{AllByRecursion, enumerate_from}
use Rattle.ev_terms.specs.declared.types.Ty.{Ty, Int, Bool, Prop, Param, Data as DataType}
use Rattle.ev_terms.specs.declared.types.Tys.{Tys}
use Rattle.ev_terms.specs.Types.{pow, prod, type_list}
use Rattle.ev_terms.specs.Term.{Term}
use Rattle.ev_typing.specs.declared.typing.Con.{Con}
use Rattle.ev_typing.specs.Env.{Env, Name, Symbol, DesOf, ConstantOf, DirectOf, RecursiveOf, look_up, con_symbols, symbols, declaring, find_data}
use Rattle.ev_typing.specs.WellFormed.{IsWellFormed, data_of, inductive_data}
use Rattle.ev_typing.proofs.Names.{drop_at, drop_all, all_append}
use Rattle.ev_typing.specs.declared.typing.DataDecl.{DataDecl}
use Rattle.ev_typing.specs.declared.typing.Var.{Var}
use Rattle.ev_typing.specs.declared.typing.Signature.{Signature}
use Rattle.ev_typing.specs.declared.typing.Entry.{Entry}
use Rattle.ev_typing.specs.declared.typing.Entry.TheVariants.{Data, Constant, Direct, Recursive}
use Rattle.ev_data.specs.Closed.{cases_by_name, recursion_formula, recursion_in, recursion_of}
use Rattle.ev_data.proofs.Constructors.{symbol_declared}
use Rattle.ev_data.proofs.Environments.{IsGoodCon, symbol_good, found_data_good}

from_here : (cs : List Con) (bs : List Term) (i : ℕ) (n : Name) (c : Con) (b : Term) (t : Boolean) → c ≡ get_or cs i c → b ≡ get_or bs i b → i < length cs → i < length bs → t ≡ bytes_eq c.name n →
    look_up (cases_by_name (drop i cs) (drop i bs)) n ≡ cond t (Some (c, b)) (look_up (cases_by_name (drop (i + 1) cs) (drop (i + 1) bs)) n)
from_here cs bs i n c b t p q h g e =
    ap (λ xs. look_up (cases_by_name xs (drop i bs)) n) (drop_at cs i c p h)
    ∙ ap (λ ys. look_up (cases_by_name (c ∷ drop (i + 1) cs) ys) n) (drop_at bs i b q g)
    ∙ ap (λ x. cond x (Some (c, b)) (look_up (cases_by_name (drop (i + 1) cs) (drop (i + 1) bs)) n)) (sym e)

pub case_named : (cs : List Con) (bs : List Term) (i : ℕ) (n : Name) (c : Con) (b : Term) (o : Option (Con × Term)) → c ≡ get_or cs i c → b ≡ get_or bs i b → i < length cs → i < length bs →
    true ≡ bytes_eq c.name n → look_up (cases_by_name (drop i cs) (drop i bs)) n ≡ o → o ≡ Some (c, b)
case_named cs bs i n c b o p q h g e k = sym k ∙ from_here cs bs i n c b true p q h g e

some_item : (bs : List Term) (i : ℕ) → i < length bs → (b : Term) × (b ≡ get_or bs i b)
some_item [] i h = absurd (omega (arith, h))
some_item (b ∷ bs) zero h = (b, refl)
some_item (b ∷ bs) (suc i) h = some_item bs i (omega (arith, h))

pub case_missed : (cs : List Con) (bs : List Term) (i : ℕ) (n : Name) (c : Con) (o : Option (Con × Term)) → c ≡ get_or cs i c → i < length cs → i < length bs →
    false ≡ bytes_eq c.name n → look_up (cases_by_name (drop i cs) (drop i bs)) n ≡ o → look_up (cases_by_name (drop (i + 1) cs) (drop (i + 1) bs)) n ≡ o
case_missed cs bs i n c o p h g e k = let b = some_item bs i g in sym (from_here cs bs i n c b.0 false p b.1 h g e) ∙ k

no_cases : (cs : List Con) → cases_by_name cs [] ≡ []
no_cases [] = refl
no_cases (c ∷ cs) = refl

pub case_nowhere : (cs : List Con) (bs : List Term) (i : ℕ) (n : Name) (o : Option (Con × Term)) → min (length cs) (length bs) ≤ i → look_up (cases_by_name (drop i cs) (drop i bs)) n ≡ o → o ≡ None
case_nowhere cs bs i n o h k = sym k ∙ by (drop i cs) (drop i bs) refl refl
  where
    by : (xs : List Con) (ys : List Term) → drop i cs ≡ xs → drop i bs ≡ ys → look_up (cases_by_name xs ys) n ≡ None
    by [] ys p q = refl
    by (x ∷ xs) [] p q = refl
    by (x ∷ xs) (y ∷ ys) p q =
        let l : 0 < length (drop i cs) = omega (arith, ap length p) in
        let m : 0 < length (drop i bs) = omega (arith, ap length q) in
        absurd (omega (arith, l, m, length-drop i cs, length-drop i bs, h))

-- What is found of a case.
abbrev with_types : Tys → DataDecl → DataDecl × Tys
with_types As d = (d, As)

pub inductive_type : (env : Env) (o : Option Ty) (d : DataDecl) (As : Tys) (Q : Type 0) → data_of env o ≡ Some (d, As) → ((n : Name) → o ≡ Some (DataType n As) → find_data env n ≡ Some d → Q) → Q
inductive_type env None d As Q e k = cc
inductive_type env (Some Int) d As Q e k = cc
inductive_type env (Some Bool) d As Q e k = cc
inductive_type env (Some Prop) d As Q e k = cc
inductive_type env (Some (Param i)) d As Q e k = cc
inductive_type env (Some (pow A)) d As Q e k = cc
inductive_type env (Some (prod A B)) d As Q e k = cc
inductive_type env (Some (DataType n Bs)) d As Q e k = by (find_data env n) refl e
  where
    by : (o : Option DataDecl) → find_data env n ≡ o → option_map (with_types Bs) o ≡ Some (d, As) → Q
    by None p g = cc
    by (Some f) p g =
        let q : (f, Bs) ≡ (d, As) = cc in
        let s : Bs ≡ As = ap (λ (x : DataDecl × Tys). x.1) q in
        let t : f ≡ d = ap (λ (x : DataDecl × Tys). x.0) q in
        k n (ap (λ Xs. Some (DataType n Xs)) s) (p ∙ ap (λ x. Some x) t)

within : (xs : List Ty) (k : ℕ) (A : Ty) → slice_get xs k ≡ Some A → k < length xs
within [] k A h = cc
within (x ∷ xs) zero A h = omega arith
within (x ∷ xs) (suc k) A h = omega (arith, within xs k A h)

pub place_within : (env : Env) (sig : Signature) (place : ℕ) (d : DataDecl) (As : Tys) → inductive_data env sig place ≡ Some (d, As) → place < length (type_list sig.args)
place_within env sig place d As e =
    inductive_type env (slice_get (type_list sig.args) place) d As (place < length (type_list sig.args)) e (λ n p q. within (type_list sig.args) place (DataType n As) p)

found_con : (P : Con → Type 0) (cs : List Con) (bs : List Term) → AllByRecursion P cs → (n : Name) (p : Con × Term) → look_up (cases_by_name cs bs) n ≡ Some p → P p.0
found_con P [] bs h n p e = cc
found_con P (c ∷ cs) [] h n p e = cc
found_con P (c ∷ cs) (b ∷ bs) h n p e = by (bytes_eq c.name n) e (found_con P cs bs h.1 n p)
  where
    by : (t : Boolean) → cond t (Some (c, b)) (look_up (cases_by_name cs bs) n) ≡ Some p → (look_up (cases_by_name cs bs) n ≡ Some p → P p.0) → P p.0
    by true g k = let q : (c, b) ≡ p = cc in subst P (ap (λ (x : Con × Term). x.0) q) h.0
    by false g k = k g

pub con_small : (env : Env) → IsWellFormed env → (sig : Signature) (place : ℕ) (d : DataDecl) (As : Tys) (bs : List Term) (n : Name) (c : Con) (b : Term) → inductive_data env sig place ≡ Some (d, As) →
    look_up (cases_by_name d.cons bs) n ≡ Some (c, b) → length c.fields < 2 ^ 30
con_small env w sig place d As bs n c b e h =
    inductive_type env (slice_get (type_list sig.args) place) d As (length c.fields < 2 ^ 30) e (λ m p q. (found_con (IsGoodCon env d) d.cons bs (found_data_good env w m d q).1 n (c, b) h).count)

-- The equation of a case.
pub found_formula : (env : Env) (sig : Signature) (place : ℕ) (d : DataDecl) (As : Tys) (bs : List Term) (n : Name) (c : Con) (b : Term) → inductive_data env sig place ≡ Some (d, As) →
    look_up (cases_by_name d.cons bs) n ≡ Some (c, b) → recursion_in sig place bs n (inductive_data env sig place) ≡ Some (recursion_formula sig place As c b)
found_formula env sig place d As bs n c b e h =
    ap (recursion_in sig place bs n) e ∙ ap (option_map (λ (p : Con × Term). recursion_formula sig place As p.0 p.1)) h

-- The symbols of a datatype are no recursive operators.
abbrev AreOther : Env → Name → List (Name × Symbol) → Type 0
AreOther env con ps = AllByRecursion (λ (p : Name × Symbol). recursion_of env (Some p.1) con ≡ None) ps

fields_other : (env : Env) (con : Name) (d : DataDecl) (c : Con) (i : ℕ) (fs : List Var) → AreOther env con (map (λ (f : ℕ × Var). (f.1.name, DesOf d c f.0 f.1)) (enumerate_from i fs))
fields_other env con d c i [] = tt
fields_other env con d c i (f ∷ fs) = (refl, fields_other env con d c (i + 1) fs)

cons_other : (env : Env) (con : Name) (d : DataDecl) (cs : List Con) → AreOther env con (flat_map (con_symbols d) cs)
cons_other env con d [] = tt
cons_other env con d (c ∷ cs) = (refl, all_append _ (map (λ (f : ℕ × Var). (f.1.name, DesOf d c f.0 f.1)) (enumerate_from 0 c.fields)) (flat_map (con_symbols d) cs) (fields_other env con d c 0 c.fields) (cons_other env con d cs))

look_up_other : (env : Env) (con : Name) (ps : List (Name × Symbol)) (n : Name) → AreOther env con ps → recursion_of env (look_up ps n) con ≡ None
look_up_other env con [] n h = refl
look_up_other env con (p ∷ ps) n h = by (bytes_eq p.0 n) (look_up_other env con ps n h.1)
  where
    by : (b : Boolean) → recursion_of env (look_up ps n) con ≡ None → recursion_of env (cond b (Some p.1) (look_up ps n)) con ≡ None
    by true g = h.0
    by false g = g

pub data_other : (env : Env) (con op : Name) (d : DataDecl) → recursion_of env (look_up (symbols (Data d)) op) con ≡ None
data_other env con op d = look_up_other env con (symbols (Data d)) op (cons_other env con d d.cons)

single : (env : Env) (con : Name) (b : Boolean) (s : Symbol) → recursion_of env (Some s) con ≡ None → recursion_of env (cond b (Some s) None) con ≡ None
single env con true s e = e
single env con false s e = refl

pub constant_other : (env : Env) (con op : Name) (sig : Signature) (o : Option Term) → recursion_of env (look_up (symbols (Constant sig o)) op) con ≡ None
constant_other env con op sig o = single env con (bytes_eq sig.name op) (ConstantOf sig o) refl

pub direct_other : (env : Env) (con op : Name) (sig : Signature) (o : Option Term) (body : Term) → recursion_of env (look_up (symbols (Direct sig o body)) op) con ≡ None
direct_other env con op sig o body = single env con (bytes_eq sig.name op) (DirectOf sig o body) refl

pub recursive_named : (sig : Signature) (o : Option Term) (place : ℕ) (bodies : List Term) (op : Name) → true ≡ bytes_eq sig.name op → look_up (symbols (Recursive sig o place bodies)) op ≡ Some (RecursiveOf sig o place bodies)
recursive_named sig o place bodies op e = ap (λ b. cond b (Some (RecursiveOf sig o place bodies)) None) (sym e)

pub recursive_other : (env : Env) (con op : Name) (sig : Signature) (o : Option Term) (place : ℕ) (bodies : List Term) → false ≡ bytes_eq sig.name op →
    recursion_of env (look_up (symbols (Recursive sig o place bodies)) op) con ≡ None
recursive_other env con op sig o place bodies e = ap (λ b. recursion_of env (cond b (Some (RecursiveOf sig o place bodies)) None) con) (sym e)

pub few_args : (env : Env) → IsWellFormed env → (op : Name) (sig : Signature) (o : Option Term) (place : ℕ) (bodies : List Term) → Some (Recursive sig o place bodies) ≡ declaring env op → true ≡ bytes_eq sig.name op →
    length (type_list sig.args) < 2 ^ 30
few_args env w op sig o place bodies p e =
    (symbol_good env w op (RecursiveOf sig o place bodies) (symbol_declared env op (Recursive sig o place bodies) w p ∙ recursive_named sig o place bodies op e)).count

pub entry_recursive : (env : Env) (con op : Name) (e : Entry) (sig : Signature) (o : Option Term) (place : ℕ) (bodies : List Term) → e ≡ Recursive sig o place bodies → true ≡ bytes_eq sig.name op →
    recursion_of env (look_up (symbols e) op) con ≡ recursion_in sig place bodies con (inductive_data env sig place)
entry_recursive env con op e sig o place bodies p q =
    ap (λ x. recursion_of env (look_up (symbols x) op) con) p ∙ ap (λ s. recursion_of env s con) (recursive_named sig o place bodies op q)

pub entry_other : (env : Env) (con op : Name) (e : Entry) (sig : Signature) (o : Option Term) (place : ℕ) (bodies : List Term) → e ≡ Recursive sig o place bodies → false ≡ bytes_eq sig.name op →
    recursion_of env (look_up (symbols e) op) con ≡ None
entry_other env con op e sig o place bodies p q = ap (λ x. recursion_of env (look_up (symbols x) op) con) p ∙ recursive_other env con op sig o place bodies q

pub ruleset operators = (data_other, constant_other, direct_other)

pub ruleset cases = (case_named, case_missed, case_nowhere)
