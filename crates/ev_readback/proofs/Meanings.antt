-- What the names of a canonical text mean.
use Rattle.std.specs.Prelude.{◌≡◌, ℕ, zero, suc, ◌+◌, ◌-◌, ◌<◌, ◌^◌, Bool as Boolean, true, false, ◌||◌, ◌&&◌, ◌==◌, not, List, [], ◌∷◌, ◌++◌, map, flat_map, length, reverse, Option, Some, None, option_map, option_and_then, is_some, bytes_eq, position, cond, if◌then◌else◌, IsTrue, IsSomeAnd, decimal, codes, refl}
use Rattle.std.specs.List.{list_any, list_all, position_from, AllByRecursion}
use Rattle.std.specs.Char.{is_ascii_digit}
use Rattle.std.specs.Str.Parse.{AllDigits, digits_value}
use Rattle.std.proofs.Common.{ap, sym, ◌∙◌, arith, true≢false, subst as transport}
use Rattle.std.proofs.lemmas.Bool.{eqb-true, cases_Bool}
use Rattle.std.proofs.lemmas.Fmt.{decimal_is_IsNumeral_wide}
use Rattle.std.proofs.lemmas.Iterator.Adapters.{position_from-zero}
use Rattle.std.proofs.lemmas.Str.Parse.{digit_from_value}
use Rattle.std.proofs.lemmas.Bool.Decides.{nat_tests}
use Rattle.std.proofs.lemmas.List.{reverse-append, map-append, append_assoc, append-nil}
use Rattle.ev_terms.specs.declared.types.Ty.{Ty, Int, Prop}
use Rattle.ev_terms.specs.declared.types.Sym.TheVariants.{User}
use Rattle.ev_typing.specs.declared.typing.Entry.{Entry}
use Rattle.ev_typing.specs.Profiles.{Profile}
use Rattle.ev_typing.specs.Env.{Env, Name, Symbol, look_up, names, symbols, datatypes, symbol_profile, find_symbol, find_data, profile}
use Rattle.ev_typing.specs.Typing.{IsProper}
use Rattle.ev_typing.proofs.Proper.{and_split}
use Rattle.ev_typing.proofs.Names.{same_name, name_same, holds_of_one}
use Rattle.ev_typing.proofs.Entries.{KeepsNames, symbols_named, datatypes_named, look_up_later}
use Rattle.ev_syntax.specs.Names.{is_name, is_variable_name}
use Rattle.ev_syntax.specs.Chars.{is_digits}
use Rattle.ev_resolve.specs.Reading.{Known, Variable, Meaning, variable, symbol, meaning, formula_meaning, of_position, of_count, variable_of, option_is, binder_of}
use Rattle.ev_resolve.specs.UsedNames.{is_name_among, is_formula_name}
use Rattle.ev_resolve.specs.Resolve.{known_of, forget, forget_type}
use Rattle.ev_infer.proofs.ToBare.{forget_proper}
use Rattle.ev_print.specs.Canon.{variable_text}
use Rattle.ev_print.specs.ReadBack.{is_free_name, HasFreeNames}
use Rattle.ev_readback.specs.OnlyAnnotation.{variables_from, canonical_variables, AreParameters}
use Rattle.ev_readback.proofs.Used.{not_false}

bool_cases : {R : Type 0} (b : Boolean) → (b ≡ true → R) → (b ≡ false → R) → R
bool_cases true f g = f refl
bool_cases false f g = g refl

-- Names of variables.
abbrev rest_of : List ℕ → List ℕ
rest_of [] = []
rest_of (c ∷ cs) = cs

pub variable_text_tells : (j k : ℕ) → j < 2 ^ 64 → k < 2 ^ 64 → variable_text j ≡ variable_text k → j ≡ k
variable_text_tells j k a b e =
    let same : decimal j ≡ decimal k = ap rest_of e in
    sym (decimal_is_IsNumeral_wide j (omega (arith, a))).1 ∙ ap (digits_value 10) same ∙ (decimal_is_IsNumeral_wide k (omega (arith, b))).1

all_digits : (ds : List ℕ) → AllDigits 10 ds → list_all is_ascii_digit ds ≡ true
all_digits [] h = refl
all_digits (c ∷ cs) h =
    let r = digit_from_value c h.0 in
    let d : is_ascii_digit c ≡ true = grind (arith, nat_tests, r) in
    ap (λ b. b && list_all is_ascii_digit cs) d ∙ all_digits cs h.1

digits_are : (ds : List ℕ) → 0 < length ds → AllDigits 10 ds → is_digits ds ≡ true
digits_are [] some h = absurd (omega (arith, some))
digits_are (c ∷ cs) some h = all_digits (c ∷ cs) h

pub variable_text_is : (k : ℕ) → k < 2 ^ 64 → is_variable_name (variable_text k) ≡ true
variable_text_is k h =
    let numeral = (decimal_is_IsNumeral_wide k (omega (arith, h))).0 in
    digits_are (decimal k) numeral.0 numeral.1

-- the variables of n positions, the innermost first, with what their names mean
abbrev pub scope : ℕ → List Variable
scope zero = []
scope (suc n) = record { name = Some (variable_text n); type = Int } ∷ scope n

names_differ : (m n : Name) → (m ≡ n → ⊥) → bytes_eq m n ≡ false
names_differ m n h = bool_cases (bytes_eq m n) (λ y. absurd (h (same_name m n y))) (λ z. z)

module _ (params : List Name) (known : Known) where
  -- a variable means its number
  pub meaning_at : (n i j : ℕ) → n < 2 ^ 64 → i < n → meaning params known (variable_text (n - (i + 1))) (scope n) j ≡ variable (j + i)
  meaning_at zero i j w lt = absurd (omega (arith, lt))
  meaning_at (suc n) zero j w lt =
      let here : suc n - (0 + 1) ≡ n = omega arith in
      ap (λ k. meaning params known (variable_text k) (scope (suc n)) j) here
      ∙ ap (λ b. if b then variable j else meaning params known (variable_text n) (scope n) (j + 1)) (name_same (variable_text n))
      ∙ ap variable (omega arith)
  meaning_at (suc n) (suc i) j w lt =
      let there : suc n - (suc i + 1) ≡ n - (i + 1) = omega arith in
      let other : bytes_eq (variable_text n) (variable_text (n - (i + 1))) ≡ false =
      names_differ (variable_text n) (variable_text (n - (i + 1))) (λ (e : variable_text n ≡ variable_text (n - (i + 1))).
      let same = variable_text_tells n (n - (i + 1)) (omega (arith, w)) (omega (arith, w)) e in absurd (omega (arith, same, lt))) in
      ap (λ k. meaning params known (variable_text k) (scope (suc n)) j) there
      ∙ ap (λ b. if b then variable j else meaning params known (variable_text (n - (i + 1))) (scope n) (j + 1)) other
      ∙ meaning_at n i (j + 1) (omega (arith, w)) (omega (arith, lt))
      ∙ ap variable (omega arith)

  -- another name is no variable
  pub meaning_beyond : (m : Name) (n j : ℕ) → n < 2 ^ 64 → is_variable_name m ≡ false → meaning params known m (scope n) j ≡ formula_meaning params known m
  meaning_beyond m zero j w free = refl
  meaning_beyond m (suc n) j w free =
      let other : bytes_eq (variable_text n) m ≡ false =
      names_differ (variable_text n) m (λ (e : variable_text n ≡ m). true≢false (sym (variable_text_is n (omega (arith, w))) ∙ ap is_variable_name e ∙ free)) in
      ap (λ b. if b then variable j else meaning params known m (scope n) (j + 1)) other ∙ meaning_beyond m n (j + 1) (omega (arith, w)) free

-- What holds of all declared names holds of one that is found.
holds_where : {X : Type 0} (P : Name → Type 0) (f : Entry → List (Name × X)) → KeepsNames f → (env : Env) (n : Name) (x : X)
    → AllByRecursion P (flat_map names env) → look_up (flat_map f env) n ≡ Some x → P n
holds_where P f keeps [] n x h e = cc
holds_where P f keeps (d ∷ ds) n x h e =
    bool_cases (list_any (bytes_eq n) (names d))
    (λ y. holds_of_one P (names d) n (first (names d) h) y)
    (λ z. holds_where P f keeps ds n x (later (names d) h) (sym (look_up_later (f d) (flat_map f ds) n (keeps d n z)) ∙ e))
  where
    first : (ns : List Name) → AllByRecursion P (ns ++ flat_map names ds) → AllByRecursion P ns
    first [] g = tt
    first (m ∷ ms) g = (g.0, first ms g.1)

    later : (ns : List Name) → AllByRecursion P (ns ++ flat_map names ds) → AllByRecursion P (flat_map names ds)
    later [] g = g
    later (m ∷ ms) g = later ms g.1

symbol_there : (o : Option Symbol) (p : Profile) → option_map symbol_profile o ≡ Some p → (s : Symbol) × (o ≡ Some s)
symbol_there None p e = cc
symbol_there (Some s) p e = (s, refl)

pub declared_symbol : (P : Name → Type 0) (env : Env) (n : Name) (p : Profile) → AllByRecursion P (flat_map names env) → profile env (User n) ≡ Some p → P n
declared_symbol P env n p h e = let (s, q) = symbol_there (find_symbol env n) p e in holds_where P symbols symbols_named env n s h q

pub declared_data : (P : Name → Type 0) (env : Env) (n : Name) (d : _) → AllByRecursion P (flat_map names env) → find_data env n ≡ Some d → P n
declared_data P env n d h e = holds_where P datatypes datatypes_named env n d h e

pub free_is : (n : Name) → IsTrue (is_free_name n) → is_variable_name n ≡ false
free_is n h = not_false _ (and_split (is_name n) (not (is_variable_name n)) h).1

-- A name that is not among others has no position there.
position_none : (n : Name) (ms : List Name) (i : ℕ) → is_name_among ms n ≡ false → position_from (bytes_eq n) i ms ≡ None
position_none n [] i h = refl
position_none n (m ∷ ms) i h = by (bytes_eq n m) refl h (position_none n ms (i + 1))
  where
    by : (b : Boolean) → bytes_eq n m ≡ b → (b || is_name_among ms n) ≡ false → (is_name_among ms n ≡ false → position_from (bytes_eq n) (i + 1) ms ≡ None)
        → cond (bytes_eq n m) (Some i) (position_from (bytes_eq n) (i + 1) ms) ≡ None
    by true e g k = absurd (true≢false g)
    by false e g k = ap (λ b. cond b (Some i) (position_from (bytes_eq n) (i + 1) ms)) e ∙ k g

module _ (env : Env) (frees : HasFreeNames env) (params : List Name) (own : AreParameters env params) where
  pub symbol_apart : (n : Name) (p : Profile) → profile env (User n) ≡ Some p → position (bytes_eq n) params ≡ None
  symbol_apart n p e = position_from-zero (bytes_eq n) params ∙ position_none n params 0 (declared_symbol (λ m. is_name_among params m ≡ false) env n p own.apart e)

  pub data_apart : (n : Name) (d : _) → find_data env n ≡ Some d → position (bytes_eq n) params ≡ None
  data_apart n d e = position_from-zero (bytes_eq n) params ∙ position_none n params 0 (declared_data (λ m. is_name_among params m ≡ false) env n d own.apart e)

  -- a declared symbol means itself
  pub meaning_symbol : (n : Name) (p : Profile) (k : ℕ) → k < 2 ^ 64 → profile env (User n) ≡ Some p
      → meaning params (known_of env) n (scope k) 0 ≡ symbol (length p.args)
  meaning_symbol n p k w e =
      let free = free_is n (declared_symbol (λ m. IsTrue (is_free_name m)) env n p frees e) in
      meaning_beyond params (known_of env) n k 0 w free
      ∙ ap (λ o. of_position o (of_count (option_map (λ (q : Profile). length q.args) (profile env (User n))))) (symbol_apart n p e)
      ∙ ap (λ o. of_count (option_map (λ (q : Profile). length q.args) o)) e

  -- a variable's name is no formula name
  pub variable_no_formula : (m : Name) → is_variable_name m ≡ true → is_formula_name params (known_of env) m ≡ false
  variable_no_formula m v =
      ap (λ b. b || (is_some (find_data env m) || is_some (option_map (λ (q : Profile). length q.args) (profile env (User m))))) (among params own.free)
      ∙ ap (λ b. b || is_some (option_map (λ (q : Profile). length q.args) (profile env (User m)))) (no_data (find_data env m) refl)
      ∙ no_symbol (profile env (User m)) refl
    where
      among : (ns : List Name) → AllByRecursion (λ n. IsTrue (is_free_name n)) ns → is_name_among ns m ≡ false
      among [] h = refl
      among (n ∷ ns) h =
          ap (λ b. b || is_name_among ns m) (names_differ m n (λ e. true≢false (sym v ∙ ap is_variable_name e ∙ free_is n h.0))) ∙ among ns h.1

      no_data : (o : Option _) → find_data env m ≡ o → is_some (find_data env m) ≡ false
      no_data None e = ap is_some e
      no_data (Some d) e = absurd (true≢false (sym v ∙ free_is m (declared_data (λ n. IsTrue (is_free_name n)) env m d frees e)))

      no_symbol : (o : Option Profile) → profile env (User m) ≡ o → is_some (option_map (λ (q : Profile). length q.args) (profile env (User m))) ≡ false
      no_symbol None e = ap (λ o. is_some (option_map (λ (q : Profile). length q.args) o)) e
      no_symbol (Some p) e = absurd (true≢false (sym v ∙ free_is m (declared_symbol (λ n. IsTrue (is_free_name n)) env m p frees e)))

-- the variables of a context with their types forgotten
forget_from : (env : Env) (n : ℕ) (C : List Ty) → AllByRecursion (IsProper env) C → map forget (reverse (variables_from n C)) ++ scope n ≡ scope (length C + n)
forget_from env n [] h = ap scope (omega arith)
forget_from env n (A ∷ As) h =
    let v : Variable = record { name = Some (variable_text n); type = A } in
    let next : suc n ≡ n + 1 = omega arith in
    let all : length As + (n + 1) ≡ length (A ∷ As) + n = omega arith in
    let known : forget v ≡ record { name = Some (variable_text n); type = Int } = ap (λ (B : Ty). record { name = Some (variable_text n); type = B }) (forget_proper env A h.0) in
    ap (λ vs. map forget vs ++ scope n) (reverse-append (v ∷ []) (variables_from (n + 1) As))
    ∙ ap (λ vs. vs ++ scope n) (map-append forget (reverse (variables_from (n + 1) As)) (v ∷ []))
    ∙ append_assoc (map forget (reverse (variables_from (n + 1) As))) (forget v ∷ []) (scope n)
    ∙ ap (λ w. map forget (reverse (variables_from (n + 1) As)) ++ (w ∷ scope n)) known
    ∙ ap (λ k. map forget (reverse (variables_from (n + 1) As)) ++ scope k) next
    ∙ forget_from env (n + 1) As h.1
    ∙ ap scope all

pub canonical_scope : (env : Env) (C : List Ty) → AllByRecursion (IsProper env) C → map forget (reverse (canonical_variables C)) ≡ scope (length C)
canonical_scope env C h = sym (append-nil (map forget (reverse (canonical_variables C)))) ∙ forget_from env 0 C h ∙ ap scope all
  where
    all : length C + 0 ≡ length C
    all = omega arith
