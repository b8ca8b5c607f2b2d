-- The types that are written behind symbols, at what the code reads and writes.
use Rattle.std.proofs.Common.{◌≡◌, ℕ, zero, suc, ◌+◌, ◌-◌, ◌<◌, ◌≤◌, Bool as Boolean, true, false, ◌&&◌, ◌||◌, not, List, [], ◌∷◌, ◌++◌, map, length, drop, get_or, refl, ap, sym, ◌∙◌, subst, arith}
use Rattle.std.specs.Prelude.{Option, Some, None, option_map, cond, bytes_eq, flat_map, find, slice_get, slice_index_or, is_some, if◌then◌else◌, ◌==◌}
use Rattle.std.specs.Option.{option_and_then}
use Rattle.std.specs.List.{list_any, range_with_len, enumerate_from}
use Rattle.std.proofs.lemmas.Bool.Decides.{nat_tests}
use Rattle.ev_terms.specs.declared.types.Ty.{Ty, Param}
use Rattle.ev_terms.specs.declared.types.Tys.{Tys, Empty}
use Rattle.ev_terms.specs.declared.types.Sym.{Sym}
use Rattle.ev_terms.specs.declared.types.Sym.TheVariants.{Base, User}
use Rattle.ev_terms.specs.Types.{pow, prod, more, Pow-pow, Prod-prod, More-more}
use Rattle.ev_terms.specs.Substitution.{type_inst, type_at}
use Rattle.ev_typing.specs.declared.typing.Entry.{Entry}
use Rattle.ev_typing.specs.declared.typing.DataDecl.{DataDecl}
use Rattle.ev_typing.specs.declared.typing.Con.{Con}
use Rattle.ev_typing.specs.declared.typing.Var.{Var}
use Rattle.ev_typing.specs.TypeLists.{params_from}
use Rattle.ev_typing.specs.Profiles.{Profile, base_profiles, base_profile}
use Rattle.ev_typing.specs.Env.{Env, Name, Symbol, ConOf, DesOf, look_up, con_symbols, symbols, declaring, find_symbol, own_type, con_profile, des_profile, symbol_profile}
use Rattle.ev_typing.specs.Occurs.{has_param, have_param}
use Rattle.ev_typing.specs.WellFormed.{IsWellFormed}
use Rattle.ev_typing.proofs.Names.{drop_at, drop_all}
use Rattle.ev_typing.proofs.Signatures.{symbol_found}
use Rattle.ev_print.specs.declared.styles.Style.{Style}
use Rattle.ev_print.specs.declared.styles.Style.TheVariants.{Application}
use Rattle.ev_print.specs.Styles.{base_styles, shows_type}
use Rattle.ev_print.specs.Canon.{leaves_open, annotation, symbol_shows_type}
use Rattle.ev_print.specs.inner.OpenTypes.{open_type}
use Rattle.ev_print.proofs.Rows.{both}

pub ruleset forms = (Pow-pow, Prod-prod)

-- the type arguments put in
pub annotation_open : (s : Sym) (o : Option Profile) (As : Tys) → annotation s o As ≡ option_map (type_inst (type_at As)) (open_type s o)
annotation_open s None As = refl
annotation_open s (Some h) As = by (not (symbol_shows_type s) && leaves_open h)
  where
    by : (b : Boolean) → (if b then Some (type_inst (type_at As) h.result) else None) ≡ option_map (type_inst (type_at As)) (if b then Some h.result else None)
    by true = refl
    by false = refl

pub ruleset annotations = (annotation_open)

-- the base symbols that leave a type parameter open
abbrev opens_here : ℕ → Boolean
opens_here k = (k == 28 || k == 57) || (k == 58 || k == 59)

abbrev others_closed : ℕ → List Style → List Profile → Boolean
others_closed i styles [] = true
others_closed i [] (h ∷ hs) = false
others_closed i (s ∷ styles) (h ∷ hs) = (opens_here i || not (not (shows_type s) && leaves_open h)) && others_closed (suc i) styles hs

all_closed : others_closed 0 base_styles base_profiles ≡ true
all_closed = refl

closed_at : (i k : ℕ) (styles : List Style) (hs : List Profile) (h : Profile) → others_closed i styles hs ≡ true → slice_get hs k ≡ Some h → opens_here (i + k) ≡ false
    → (not (shows_type (slice_index_or styles k Application)) && leaves_open h) ≡ false
closed_at i k styles [] h t e n = absurd (cc)
closed_at i k [] (x ∷ hs) h t e n = absurd (cc)
closed_at i zero (s ∷ styles) (x ∷ hs) h t e n =
    let same : x ≡ h = cc in
    let at : i + 0 ≡ i = omega arith in
    subst (λ y. (not (shows_type s) && leaves_open y) ≡ false) same
    (negated _ (ap (λ b. b || not (not (shows_type s) && leaves_open x)) (sym (ap opens_here (sym at) ∙ n)) ∙ (both _ _ t).0))
  where
    negated : (b : Boolean) → not b ≡ true → b ≡ false
    negated false e = refl
    negated true e = cc
closed_at i (suc k) (s ∷ styles) (x ∷ hs) h t e n =
    let at : suc i + k ≡ i + suc k = omega arith in
    closed_at (suc i) k styles hs h (both _ _ t).1 e (ap opens_here at ∙ n)

pub no_type : (k : ℕ) → (k ≡ 28 → ⊥) → (k ≡ 57 → ⊥) → (k ≡ 58 → ⊥) → (k ≡ 59 → ⊥) → None ≡ open_type (Base k) (base_profile k)
no_type k a b c d = by (base_profile k) refl
  where
    differs : opens_here (0 + k) ≡ false
    differs =
        let at : 0 + k ≡ k = omega arith in
        let p : (k == 28) ≡ false = grind (arith, nat_tests, a) in
        let q : (k == 57) ≡ false = grind (arith, nat_tests, b) in
        let r : (k == 58) ≡ false = grind (arith, nat_tests, c) in
        let s : (k == 59) ≡ false = grind (arith, nat_tests, d) in
        ap opens_here at ∙ rw (p, q, r, s) refl

    by : (o : Option Profile) → base_profile k ≡ o → None ≡ open_type (Base k) o
    by None e = refl
    by (Some h) e = sym (ap (λ x. if x then Some h.result else None) (closed_at 0 k base_styles base_profiles h all_closed e differs))

pub empty_type : (k : ℕ) → k ≡ 28 → Some (pow (Param 0)) ≡ open_type (Base k) (base_profile k)
empty_type k e = subst (λ j. Some (pow (Param 0)) ≡ open_type (Base j) (base_profile j)) (sym e) refl

pub identity_type : (k : ℕ) → k ≡ 57 → Some (pow (prod (Param 0) (Param 0))) ≡ open_type (Base k) (base_profile k)
identity_type k e = subst (λ j. Some (pow (prod (Param 0) (Param 0))) ≡ open_type (Base j) (base_profile j)) (sym e) refl

pub first_type : (k : ℕ) → k ≡ 58 → Some (pow (prod (prod (Param 0) (Param 1)) (Param 0))) ≡ open_type (Base k) (base_profile k)
first_type k e = subst (λ j. Some (pow (prod (prod (Param 0) (Param 1)) (Param 0))) ≡ open_type (Base j) (base_profile j)) (sym e) refl

pub second_type : (k : ℕ) → k ≡ 59 → Some (pow (prod (prod (Param 0) (Param 1)) (Param 1))) ≡ open_type (Base k) (base_profile k)
second_type k e = subst (λ j. Some (pow (prod (prod (Param 0) (Param 1)) (Param 1))) ≡ open_type (Base j) (base_profile j)) (sym e) refl

pub ruleset base_rows = (no_type, empty_type, identity_type, first_type, second_type)

-- the symbol of an entry that declares one
pub single_type : (m n : Name) (s : Symbol) → option_map symbol_profile (look_up ((m, s) ∷ []) n) ≡ (if bytes_eq m n then Some (symbol_profile s) else None)
single_type m n s = by (bytes_eq m n)
  where
    by : (b : Boolean) → option_map symbol_profile (cond b (Some s) None) ≡ (if b then Some (symbol_profile s) else None)
    by true = refl
    by false = refl

pub ruleset entries = (single_type)

-- a user's symbol by its entry
pub user_there : (env : Env) (n : Name) (e : Entry) (o : Option Ty) → IsWellFormed env → Some e ≡ declaring env n
    → o ≡ open_type (User n) (option_map symbol_profile (look_up (symbols e) n)) → o ≡ open_type (User n) (option_map symbol_profile (find_symbol env n))
user_there env n e o w p q =
    q ∙ sym (ap (open_type (User n)) (symbol_found env n w ∙ ap (option_and_then (λ d. option_map symbol_profile (look_up (symbols d) n))) (sym p)))

pub user_absent : (env : Env) (n : Name) → IsWellFormed env → None ≡ declaring env n → None ≡ open_type (User n) (option_map symbol_profile (find_symbol env n))
user_absent env n w p =
    sym (ap (open_type (User n)) (symbol_found env n w ∙ ap (option_and_then (λ d. option_map symbol_profile (look_up (symbols d) n))) (sym p)))

-- the symbols of a datatype
abbrev pub type_among : DataDecl → List Con → Name → Option Ty
type_among d cs n = open_type (User n) (option_map symbol_profile (look_up (flat_map (con_symbols d) cs) n))

fields_of : DataDecl → Con → ℕ → List Var → List (Name × Symbol)
fields_of d c i fs = map (λ (f : ℕ × Var). (f.1.name, DesOf d c f.0 f.1)) (enumerate_from i fs)

own_open : (n i : ℕ) (f : ℕ → Boolean) → ((j : ℕ) → i ≤ j → j < i + n → f j ≡ true) → list_any (λ j. not (f j)) (range_with_len i n) ≡ false
own_open zero i f h = refl
own_open (suc n) i f h = ap (λ b. not b || list_any (λ j. not (f j)) (range_with_len (i + 1) n)) (h i (omega arith) (omega arith)) ∙ own_open n (i + 1) f (λ j a b. h j (omega arith) (omega arith))

own_has : (n i j : ℕ) → i ≤ j → j < i + n → have_param j (params_from i n) ≡ true
own_has zero i j a b = absurd (omega arith)
own_has (suc n) i j a b = by (i == j) refl (λ l. own_has n (i + 1) j l (omega arith))
  where
    by : (x : Boolean) → (i == j) ≡ x → (i + 1 ≤ j → have_param j (params_from (i + 1) n) ≡ true) → (x || have_param j (params_from (i + 1) n)) ≡ true
    by true e again = refl
    by false e again = again (grind (arith, nat_tests, e, a))

des_closed : (d : DataDecl) (f : Var) → leaves_open (des_profile d f) ≡ false
des_closed d f = own_open d.params 0 (λ j. list_any (has_param j) (own_type d ∷ [])) (λ j a b. ap (λ x. x || false) (own_has d.params 0 j a b))

-- a constructor of the name, a destructor of it, or neither
others : DataDecl → Con → List Con → List (Name × Symbol)
others d c cs = map (λ (f : ℕ × Var). (f.1.name, DesOf d c f.0 f.1)) (enumerate_from 0 c.fields) ++ flat_map (con_symbols d) cs

chosen : (d : DataDecl) (c : Con) (cs : List Con) (n : Name) (b : Boolean) → bytes_eq c.name n ≡ b
    → type_among d (c ∷ cs) n ≡ open_type (User n) (option_map symbol_profile (cond b (Some (ConOf d c)) (look_up (others d c cs) n)))
unfolding others
chosen d c cs n b e = ap (λ x. open_type (User n) (option_map symbol_profile (cond x (Some (ConOf d c)) (look_up (others d c cs) n)))) e

field_first : (d : DataDecl) (c : Con) (i : ℕ) (fs : List Var) (rest : List (Name × Symbol)) (n : Name) → is_some (find (λ (f : Var). bytes_eq f.name n) fs) ≡ true
    → open_type (User n) (option_map symbol_profile (look_up (map (λ (f : ℕ × Var). (f.1.name, DesOf d c f.0 f.1)) (enumerate_from i fs) ++ rest) n)) ≡ None
field_first d c i [] rest n e = absurd (cc)
field_first d c i (f ∷ fs) rest n e = by (bytes_eq f.name n) refl e (field_first d c (i + 1) fs rest n)
  where
    by : (b : Boolean) → bytes_eq f.name n ≡ b → is_some (cond b (Some f) (find (λ (f : Var). bytes_eq f.name n) fs)) ≡ true
        → (is_some (find (λ (f : Var). bytes_eq f.name n) fs) ≡ true
        → open_type (User n) (option_map symbol_profile (look_up (map (λ (f : ℕ × Var). (f.1.name, DesOf d c f.0 f.1)) (enumerate_from (i + 1) fs) ++ rest) n)) ≡ None)
        → open_type (User n) (option_map symbol_profile (cond b (Some (DesOf d c i f)) (look_up (map (λ (f : ℕ × Var). (f.1.name, DesOf d c f.0 f.1)) (enumerate_from (i + 1) fs) ++ rest) n))) ≡ None
    by true g e again = ap (λ x. if x then Some f.ty else None) (des_closed d f)
    by false g e again = again e

field_none : (d : DataDecl) (c : Con) (i : ℕ) (fs : List Var) (rest : List (Name × Symbol)) (n : Name) → is_some (find (λ (f : Var). bytes_eq f.name n) fs) ≡ false
    → look_up (map (λ (f : ℕ × Var). (f.1.name, DesOf d c f.0 f.1)) (enumerate_from i fs) ++ rest) n ≡ look_up rest n
field_none d c i [] rest n e = refl
field_none d c i (f ∷ fs) rest n e = by (bytes_eq f.name n) refl e (field_none d c (i + 1) fs rest n)
  where
    by : (b : Boolean) → bytes_eq f.name n ≡ b → is_some (cond b (Some f) (find (λ (f : Var). bytes_eq f.name n) fs)) ≡ false
        → (is_some (find (λ (f : Var). bytes_eq f.name n) fs) ≡ false → look_up (map (λ (f : ℕ × Var). (f.1.name, DesOf d c f.0 f.1)) (enumerate_from (i + 1) fs) ++ rest) n ≡ look_up rest n)
        → cond b (Some (DesOf d c i f)) (look_up (map (λ (f : ℕ × Var). (f.1.name, DesOf d c f.0 f.1)) (enumerate_from (i + 1) fs) ++ rest) n) ≡ look_up rest n
    by true g e again = absurd (cc)
    by false g e again = again e

pub con_here : (d : DataDecl) (xs cs : List Con) (i : ℕ) (c : Con) (n : Name) (o : Option Ty) → xs ≡ cs → c ≡ get_or xs i c → i < length xs → bytes_eq c.name n ≡ true
    → type_among d (drop i cs) n ≡ type_among d cs n → o ≡ open_type (User n) (Some (con_profile d c)) → o ≡ type_among d cs n
con_here d xs cs i c n o same at l e h q =
    q ∙ sym (chosen d c (drop (i + 1) xs) n true e) ∙ ap (λ ys. type_among d ys n) (sym (drop_at xs i c at l) ∙ ap (drop i) same) ∙ h

pub des_here : (d : DataDecl) (xs cs : List Con) (i : ℕ) (c : Con) (n : Name) → xs ≡ cs → c ≡ get_or xs i c → i < length xs → bytes_eq c.name n ≡ false
    → is_some (find (λ (f : Var). bytes_eq f.name n) c.fields) ≡ true → type_among d (drop i cs) n ≡ type_among d cs n → None ≡ type_among d cs n
unfolding others
des_here d xs cs i c n same at l e f h =
    sym (chosen d c (drop (i + 1) xs) n false e ∙ field_first d c 0 c.fields (flat_map (con_symbols d) (drop (i + 1) xs)) n f)
    ∙ ap (λ ys. type_among d ys n) (sym (drop_at xs i c at l) ∙ ap (drop i) same) ∙ h

pub con_passed : (d : DataDecl) (xs cs : List Con) (i : ℕ) (c : Con) (n : Name) → xs ≡ cs → c ≡ get_or xs i c → i < length xs → bytes_eq c.name n ≡ false
    → is_some (find (λ (f : Var). bytes_eq f.name n) c.fields) ≡ false → type_among d (drop i cs) n ≡ type_among d cs n → type_among d (drop (i + 1) cs) n ≡ type_among d cs n
unfolding others
con_passed d xs cs i c n same at l e f h =
    ap (λ ys. type_among d (drop (i + 1) ys) n) (sym same)
    ∙ sym (chosen d c (drop (i + 1) xs) n false e ∙ ap (λ o. open_type (User n) (option_map symbol_profile o)) (field_none d c 0 c.fields (flat_map (con_symbols d) (drop (i + 1) xs)) n f))
    ∙ ap (λ ys. type_among d ys n) (sym (drop_at xs i c at l) ∙ ap (drop i) same) ∙ h

pub ruleset datatypes = (drop_all)

-- one parameter more in front
pub own_step : (n left new : ℕ) (types rest : Tys) → types ≡ params_from left (n - left) → left ≤ n → new ≡ left - 1 → 0 < left → rest ≡ types
    → more (Param new) rest ≡ params_from new (n - new)
own_step n left new types rest e l p some q =
    let a : n - new ≡ suc (n - left) = omega arith in
    let b : new + 1 ≡ left = omega arith in
    ap (more (Param new)) (q ∙ e ∙ ap (λ k. params_from k (n - left)) (sym b)) ∙ ap (params_from new) (sym a)

pub own_none : (n : ℕ) → Empty ≡ params_from n (n - n)
own_none n = let e : n - n ≡ 0 = omega arith in ap (params_from n) (sym e)

pub ruleset own = (More-more, own_step, own_none)
