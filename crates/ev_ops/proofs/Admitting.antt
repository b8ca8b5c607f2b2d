-- The faults of admission, as the tests say them.
use Rattle.std.proofs.Common.{◌≡◌, ℕ, zero, suc, ◌+◌, ◌-◌, ◌≤◌, ◌<◌, Bool as Boolean, true, false, Option, Some, None, List, [], ◌∷◌, length, get_or, drop, ap, sym, ◌∙◌, subst, refl, arith, true≢false}
use Rattle.std.specs.Prelude.{◌⊎◌, ◌↔◌, ◌||◌, ◌&&◌, not, nat_lt, bytes_eq, IsTrue, IsSome, IsSomeAnd, Contains, slice_get, option_map, cond, Result, Ok, Err}
use Rattle.std.specs.List.{list_any}
use Rattle.std.proofs.Common.{inl, inr}
use Rattle.std.proofs.lemmas.Bool.Decides.{nat_tests}
use Rattle.ev_terms.specs.declared.types.Ty.{Ty, Int, Bool, Prop, Param, Data as DataType}
use Rattle.ev_terms.specs.declared.types.Tys.{Tys}
use Rattle.ev_terms.specs.Types.{pow, prod, type_list}
use Rattle.ev_terms.specs.Term.{Term}
use Rattle.ev_terms.specs.Measures.{params}
use Rattle.ev_typing.specs.declared.typing.Entry.TheVariants.{Data, Constant, Direct, Recursive}
use Rattle.ev_typing.specs.declared.typing.Signature.{Signature}
use Rattle.ev_typing.specs.declared.typing.DataDecl.{DataDecl}
use Rattle.ev_typing.specs.declared.typing.Con.{Con}
use Rattle.ev_typing.specs.Env.{Env, Name, find_data}
use Rattle.ev_typing.specs.WellFormed.{inductive_data, data_of}
use Rattle.ev_typing.proofs.Names.{same_name, name_same, drop_at, drop_all}
use Rattle.ev_data.specs.Guarded.{IsRecursiveVar, IsGuardedBody, seen_under}
use Rattle.ev_ops.specs.declared.cases.Case.{Case}
use Rattle.ev_ops.specs.declared.faults.OpFault.{OpFault}
use Rattle.ev_ops.specs.declared.faults.OpFault.TheVariants.{ExtraTypeParameter, Unguarded, MissingCase, RepeatedCase}
use Rattle.ev_ops.specs.Admission.{MentionsExtra, ConditionMentionsExtra, HasExtraParam, IsUnguarded, MissesCase, RepeatsCase, IsDirectAdmission, IsCaseAdmission, IsRecursiveAdmission, case_count, case_bodies}
use Rattle.ev_ops.specs.inner.Tests.{behind, IsOwnVar, IsGuardedUnder, IsUnguardedCase, AnyUnguarded, IsInductiveAt, IsCaseAnswer, condition_exceeds, case_exceeds, misses, repeats}
use Rattle.ev_ops.proofs.Guarding.{guarded_map}

-- Items of a list of which something holds.
abbrev HasItem : {X : Type 0} → (X → Type 0) → List X → Type 0
HasItem {X} P xs = (x : X) × Contains xs x × P x

has_first : {X : Type 0} (P : X → Type 0) (x : X) (xs : List X) → P x → HasItem P (x ∷ xs)
has_first P x xs h = (x, (0, omega arith, refl), h)

has_later : {X : Type 0} (P : X → Type 0) (y : X) (xs : List X) → HasItem P xs → HasItem P (y ∷ xs)
has_later P y xs (x, (k, l, e), h) = (x, (suc k, omega (arith, l), e), h)

has_split : {X : Type 0} (P : X → Type 0) (y : X) (xs : List X) → HasItem P (y ∷ xs) → P y ⊎ HasItem P xs
has_split P y xs (x, (zero, l, e), h) = inl (subst P (sym e) h)
has_split P y xs (x, (suc k, l, e), h) = inr (x, (k, omega (arith, l), e), h)

has_none : {X : Type 0} (P : X → Type 0) → ¬ HasItem P []
has_none P (x, (k, l, e), h) = omega (arith, l)

has_at : {X : Type 0} (P : X → Type 0) (xs : List X) (i : ℕ) (x : X) → x ≡ get_or xs i x → i < length xs → P x → HasItem P xs
has_at P [] i x e l h = absurd (omega arith)
has_at P (y ∷ ys) zero x e l h = has_first P y ys (subst P e h)
has_at P (y ∷ ys) (suc i) x e l h = has_later P y ys (has_at P ys i x e (omega arith) h)

pub item_more : {X : Type 0} (P : X → Type 0) (xs : List X) (i : ℕ) (x : X) (r : Boolean) → x ≡ get_or xs i x → i < length xs → r ≡ false → (IsTrue r ↔ P x) → (HasItem P (drop i xs) ↔ HasItem P xs) → (HasItem P (drop (i + 1) xs) ↔ HasItem P xs)
item_more P xs i x r e l f k q =
    let d = drop_at xs i x e l in
    ((λ h. q.0 (subst (HasItem P) (sym d) (has_later P x (drop (i + 1) xs) h))), (λ h. by (has_split P x (drop (i + 1) xs) (subst (HasItem P) d (q.1 h)))))
  where
    by : P x ⊎ HasItem P (drop (i + 1) xs) → HasItem P (drop (i + 1) xs)
    by (inl h) = absurd (true≢false (sym (k.1 h) ∙ f))
    by (inr h) = h

pub item_here : {X : Type 0} (P : X → Type 0) (xs : List X) (i : ℕ) (x : X) (r : Boolean) → x ≡ get_or xs i x → i < length xs → r ≡ true → (IsTrue r ↔ P x) → IsTrue true ↔ HasItem P xs
item_here P xs i x r e l f k = ((λ h. has_at P xs i x e l (k.0 f)), (λ h. refl))

pub item_none : {X : Type 0} (P : X → Type 0) (xs : List X) (i : ℕ) → length xs ≤ i → (HasItem P (drop i xs) ↔ HasItem P xs) → IsTrue false ↔ HasItem P xs
item_none P xs i l q = ((λ h. absurd (true≢false (sym h))), (λ h. absurd (has_none P (subst (HasItem P) (drop_all xs i l) (q.1 h)))))

any_item : {X : Type 0} (test : X → Boolean) (xs : List X) → list_any test xs ≡ true → HasItem (λ x. test x ≡ true) xs
any_item test [] h = absurd (true≢false (sym h))
any_item {X} test (x ∷ xs) h = by (test x) refl h (any_item test xs)
  where
    by : (b : Boolean) → test x ≡ b → (b || list_any test xs) ≡ true → (list_any test xs ≡ true → HasItem (λ y. test y ≡ true) xs) → HasItem (λ y. test y ≡ true) (x ∷ xs)
    by true e g k = has_first (λ y. test y ≡ true) x xs e
    by false e g k = has_later (λ y. test y ≡ true) x xs (k g)

no_item : {X : Type 0} (test : X → Boolean) (xs : List X) → list_any test xs ≡ false → ¬ HasItem (λ x. test x ≡ true) xs
no_item test [] h k = has_none (λ x. test x ≡ true) k
no_item test (x ∷ xs) h k = by (test x) refl h (has_split (λ y. test y ≡ true) x xs k) (no_item test xs)
  where
    by : (b : Boolean) → test x ≡ b → (b || list_any test xs) ≡ false → (test x ≡ true) ⊎ HasItem (λ y. test y ≡ true) xs → (list_any test xs ≡ false → ¬ HasItem (λ y. test y ≡ true) xs) → ⊥
    by true e g s f = absurd (true≢false g)
    by false e g (inl t) f = absurd (true≢false (sym t ∙ e))
    by false e g (inr t) f = f g t

-- Extra parameters.
less : (n m : ℕ) → nat_lt n m ≡ true → n < m
less n m e = grind (arith, nat_tests, e)

more_test : (n m : ℕ) → n < m → nat_lt n m ≡ true
more_test n m e = grind (arith, nat_tests, e)

condition_yes : (n : ℕ) (o : Option Term) → condition_exceeds n o ≡ true → ConditionMentionsExtra n o
condition_yes n None e = absurd (true≢false (sym e))
condition_yes n (Some P) e = less n (params P) e

condition_no : (n : ℕ) (o : Option Term) → condition_exceeds n o ≡ false → ¬ ConditionMentionsExtra n o
condition_no n None e h = h
condition_no n (Some P) e h = absurd (true≢false (sym (more_test n (params P) h) ∙ e))

or_split : (a b : Boolean) → (a || b) ≡ true → (a ≡ true) ⊎ (b ≡ true)
or_split true b e = inl refl
or_split false b e = inr e

or_none : (a b : Boolean) → (a || b) ≡ false → (a ≡ false) × (b ≡ false)
or_none true b e = absurd (true≢false e)
or_none false b e = (refl, e)

extra : (sig : Signature) (o : Option Term) (ts : List Term) → (condition_exceeds sig.params o ≡ true) ⊎ HasItem (MentionsExtra sig.params) ts → HasExtraParam sig o ts
extra sig o ts (inl e) = inl (condition_yes sig.params o e)
extra sig o ts (inr h) = inr h

no_extra : (sig : Signature) (o : Option Term) (ts : List Term) → condition_exceeds sig.params o ≡ false → ¬ HasItem (MentionsExtra sig.params) ts → ¬ HasExtraParam sig o ts
no_extra sig o ts e f (inl h) = condition_no sig.params o e h
no_extra sig o ts e f (inr h) = f h

-- of a direct operator
pub direct_fault : (sig : Signature) (o : Option Term) (body : Term) (r : Boolean) → r ≡ (condition_exceeds sig.params o || nat_lt sig.params (params body)) → r ≡ true → IsDirectAdmission sig o body (Err ExtraTypeParameter)
direct_fault sig o body r e h = extra sig o (body ∷ []) (by (or_split (condition_exceeds sig.params o) (nat_lt sig.params (params body)) (sym e ∙ h)))
  where
    by : (condition_exceeds sig.params o ≡ true) ⊎ (nat_lt sig.params (params body) ≡ true) → (condition_exceeds sig.params o ≡ true) ⊎ HasItem (MentionsExtra sig.params) (body ∷ [])
    by (inl q) = inl q
    by (inr q) = inr (has_first (MentionsExtra sig.params) body [] (less sig.params (params body) q))

pub direct_none : (sig : Signature) (o : Option Term) (body : Term) (r : Boolean) → r ≡ (condition_exceeds sig.params o || nat_lt sig.params (params body)) → r ≡ false → IsDirectAdmission sig o body (Ok tt)
direct_none sig o body r e h =
    let q = or_none (condition_exceeds sig.params o) (nat_lt sig.params (params body)) (sym e ∙ h) in
    no_extra sig o (body ∷ []) q.0 (λ k. by q.1 (has_split (MentionsExtra sig.params) body [] k))
  where
    by : nat_lt sig.params (params body) ≡ false → MentionsExtra sig.params body ⊎ HasItem (MentionsExtra sig.params) [] → ⊥
    by f (inl k) = absurd (true≢false (sym (more_test sig.params (params body) k) ∙ f))
    by f (inr k) = has_none (MentionsExtra sig.params) k

pub ruleset direct = (direct_fault, direct_none)

-- of cases
case_has : (n : ℕ) (ks : List Case) → HasItem (λ k. case_exceeds n k ≡ true) ks → HasItem (MentionsExtra n) (case_bodies ks)
case_has n [] h = absurd (has_none (λ k. case_exceeds n k ≡ true) h)
case_has n (k ∷ ks) h = by (has_split (λ j. case_exceeds n j ≡ true) k ks h) (case_has n ks)
  where
    by : (case_exceeds n k ≡ true) ⊎ HasItem (λ j. case_exceeds n j ≡ true) ks → (HasItem (λ j. case_exceeds n j ≡ true) ks → HasItem (MentionsExtra n) (case_bodies ks)) → HasItem (MentionsExtra n) (case_bodies (k ∷ ks))
    by (inl e) f = has_first (MentionsExtra n) k.body (case_bodies ks) (less n (params k.body) e)
    by (inr g) f = has_later (MentionsExtra n) k.body (case_bodies ks) (f g)

has_case : (n : ℕ) (ks : List Case) → HasItem (MentionsExtra n) (case_bodies ks) → HasItem (λ k. case_exceeds n k ≡ true) ks
has_case n [] h = absurd (has_none (MentionsExtra n) h)
has_case n (k ∷ ks) h = by (has_split (MentionsExtra n) k.body (case_bodies ks) h) (has_case n ks)
  where
    by : MentionsExtra n k.body ⊎ HasItem (MentionsExtra n) (case_bodies ks) → (HasItem (MentionsExtra n) (case_bodies ks) → HasItem (λ j. case_exceeds n j ≡ true) ks) → HasItem (λ j. case_exceeds n j ≡ true) (k ∷ ks)
    by (inl e) f = has_first (λ j. case_exceeds n j ≡ true) k ks (more_test n (params k.body) e)
    by (inr g) f = has_later (λ j. case_exceeds n j ≡ true) k ks (f g)

some_extra : (sig : Signature) (o : Option Term) (ks : List Case) (r : Boolean) → r ≡ (condition_exceeds sig.params o || list_any (case_exceeds sig.params) ks) → r ≡ true → HasExtraParam sig o (case_bodies ks)
some_extra sig o ks r e h = extra sig o (case_bodies ks) (by (or_split (condition_exceeds sig.params o) (list_any (case_exceeds sig.params) ks) (sym e ∙ h)))
  where
    by : (condition_exceeds sig.params o ≡ true) ⊎ (list_any (case_exceeds sig.params) ks ≡ true) → (condition_exceeds sig.params o ≡ true) ⊎ HasItem (MentionsExtra sig.params) (case_bodies ks)
    by (inl q) = inl q
    by (inr q) = inr (case_has sig.params ks (any_item (case_exceeds sig.params) ks q))

none_extra : (sig : Signature) (o : Option Term) (ks : List Case) (r : Boolean) → r ≡ (condition_exceeds sig.params o || list_any (case_exceeds sig.params) ks) → r ≡ false → ¬ HasExtraParam sig o (case_bodies ks)
none_extra sig o ks r e h =
    let q = or_none (condition_exceeds sig.params o) (list_any (case_exceeds sig.params) ks) (sym e ∙ h) in
    no_extra sig o (case_bodies ks) q.0 (λ k. no_item (case_exceeds sig.params) ks q.1 (has_case sig.params ks k))

-- The datatype at the inductive place.
data_name : (env : Env) (n : Name) (d : DataDecl) → find_data env n ≡ Some d → d.name ≡ n
data_name [] n d e = cc
data_name (Data x ∷ env) n d e = by (bytes_eq x.name n) refl e (data_name env n d)
  where
    by : (b : Boolean) → bytes_eq x.name n ≡ b → cond b (Some x) (find_data env n) ≡ Some d → (find_data env n ≡ Some d → d.name ≡ n) → d.name ≡ n
    by true f g k = let q : x ≡ d = cc in sym (ap (λ (y : DataDecl). y.name) q) ∙ same_name x.name n f
    by false f g k = k g
data_name (Constant sig c ∷ env) n d e = data_name env n d e
data_name (Direct sig c body ∷ env) n d e = data_name env n d e
data_name (Recursive sig c place bodies ∷ env) n d e = data_name env n d e

first_of : DataDecl → Option (DataDecl × Tys) → DataDecl
first_of z None = z
first_of z (Some p) = p.0

second_of : Tys → Option (DataDecl × Tys) → Tys
second_of z None = z
second_of z (Some p) = p.1

type_of_data : (env : Env) (o : Option Ty) (d : DataDecl) (As : Tys) → data_of env o ≡ Some (d, As) → o ≡ Some (DataType d.name As)
unfolding first_of second_of
type_of_data env None d As e = cc
type_of_data env (Some Int) d As e = cc
type_of_data env (Some Bool) d As e = cc
type_of_data env (Some Prop) d As e = cc
type_of_data env (Some (Param i)) d As e = cc
type_of_data env (Some (pow A)) d As e = cc
type_of_data env (Some (prod A B)) d As e = cc
type_of_data env (Some (DataType n Bs)) d As e = by (find_data env n) refl e
  where
    by : (o : Option DataDecl) → find_data env n ≡ o → option_map {U = DataDecl × Tys} (λ x. (x, Bs)) o ≡ Some (d, As) → ◌≡◌ {A = Option Ty} (Some (DataType n Bs)) (Some (DataType d.name As))
    by None f g = cc
    by (Some x) f g =
        let p : x ≡ d = ap (first_of x) g in
        let q : Bs ≡ As = ap (second_of Bs) g in
        let r : d.name ≡ n = data_name env n d (f ∙ ap Some p) in
        ap (λ m. Some (DataType m Bs)) (sym r) ∙ ap (λ Cs. Some (DataType d.name Cs)) q

pub inductive_at : (env : Env) (sig : Signature) (place : ℕ) (d : DataDecl) (As : Tys) → inductive_data env sig place ≡ Some (d, As) → IsInductiveAt sig place d As
inductive_at env sig place d As e = type_of_data env (slice_get (type_list sig.args) place) d As e

-- of a recursive operator
pub recursive_fault : (env : Env) (sig : Signature) (o : Option Term) (place : ℕ) (ks : List Case) (r : Boolean) → r ≡ (condition_exceeds sig.params o || list_any (case_exceeds sig.params) ks) → r ≡ true → IsSome (inductive_data env sig place) →
    IsRecursiveAdmission env sig o place ks (Err ExtraTypeParameter)
recursive_fault env sig o place ks r e h s = by (inductive_data env sig place) s
  where
    by : (p : Option (DataDecl × Tys)) → IsSome p → IsSomeAnd p (λ q. IsCaseAdmission sig o place ks q.0 q.1 (Err ExtraTypeParameter))
    by None k = cc
    by (Some p) k = some_extra sig o ks r e h

pub recursive_rest : (env : Env) (sig : Signature) (o : Option Term) (place : ℕ) (ks : List Case) (r : Boolean) (d : DataDecl) (As : Tys) (answer : Result (Unit {0}) OpFault) →
    r ≡ (condition_exceeds sig.params o || list_any (case_exceeds sig.params) ks) → r ≡ false → inductive_data env sig place ≡ Some (d, As) → IsCaseAnswer sig place ks d As answer → IsRecursiveAdmission env sig o place ks answer
recursive_rest env sig o place ks r d As answer e h f g =
    subst (λ p. IsSomeAnd p (λ q. IsCaseAdmission sig o place ks q.0 q.1 answer)) (sym f) (by answer g)
  where
    none : ¬ HasExtraParam sig o (case_bodies ks)
    none = none_extra sig o ks r e h

    by : (a : Result (Unit {0}) OpFault) → IsCaseAnswer sig place ks d As a → IsCaseAdmission sig o place ks d As a
    by (Ok u) k = (none, k.0, k.1, k.2)
    by (Err ExtraTypeParameter) k = absurd k
    by (Err Unguarded) k = (none, k)
    by (Err MissingCase) k = (none, k.0, k.1)
    by (Err RepeatedCase) k = (none, k.0, k.1, k.2)

pub ruleset recursive = (recursive_fault, recursive_rest, inductive_at)

-- Cases that are missing, and those that are there twice.
misses_yes : (d : DataDecl) (ks : List Case) → list_any (misses ks) d.cons ≡ true → MissesCase d ks
misses_yes d ks h = let i = any_item (misses ks) d.cons h in (i.0, i.1, (let e = i.2 in grind (arith, nat_tests, e)))

misses_no : (d : DataDecl) (ks : List Case) → list_any (misses ks) d.cons ≡ false → ¬ MissesCase d ks
misses_no d ks h (c, k, e) = no_item (misses ks) d.cons h (c, k, grind (arith, nat_tests, e))

repeats_yes : (d : DataDecl) (ks : List Case) → list_any (repeats ks) d.cons ≡ true → RepeatsCase d ks
repeats_yes d ks h = let i = any_item (repeats ks) d.cons h in (i.0, i.1, (let e = less 1 (case_count ks i.0) i.2 in omega (arith, e)))

repeats_no : (d : DataDecl) (ks : List Case) → list_any (repeats ks) d.cons ≡ false → ¬ RepeatsCase d ks
repeats_no d ks h (c, k, e) = no_item (repeats ks) d.cons h (c, k, more_test 1 (case_count ks c) (omega (arith, e)))

module _ (sig : Signature) (place : ℕ) (ks : List Case) (d : DataDecl) (As : Tys) where
  refused_not : (u : Boolean) → (IsTrue u ↔ IsUnguarded sig place d As ks) → u ≡ false → ¬ IsUnguarded sig place d As ks
  refused_not u k e h = true≢false (sym (k.1 h) ∙ e)

  pub is_unguarded : (u : Boolean) → (IsTrue u ↔ IsUnguarded sig place d As ks) → u ≡ true → IsCaseAnswer sig place ks d As (Err Unguarded)
  is_unguarded u k e = k.0 e

  pub is_missing : (u m : Boolean) → (IsTrue u ↔ IsUnguarded sig place d As ks) → u ≡ false → m ≡ list_any (misses ks) d.cons → m ≡ true → IsCaseAnswer sig place ks d As (Err MissingCase)
  is_missing u m k e f g = (refused_not u k e, misses_yes d ks (sym f ∙ g))

  pub is_repeated : (u m p : Boolean) → (IsTrue u ↔ IsUnguarded sig place d As ks) → u ≡ false → m ≡ list_any (misses ks) d.cons → m ≡ false → p ≡ list_any (repeats ks) d.cons → p ≡ true → IsCaseAnswer sig place ks d As (Err RepeatedCase)
  is_repeated u m p k e f g h i = (refused_not u k e, misses_no d ks (sym f ∙ g), repeats_yes d ks (sym h ∙ i))

  pub is_admitted : (u m p : Boolean) → (IsTrue u ↔ IsUnguarded sig place d As ks) → u ≡ false → m ≡ list_any (misses ks) d.cons → m ≡ false → p ≡ list_any (repeats ks) d.cons → p ≡ false → IsCaseAnswer sig place ks d As (Ok tt)
  is_admitted u m p k e f g h i = (refused_not u k e, misses_no d ks (sym f ∙ g), repeats_no d ks (sym h ∙ i))

pub ruleset cases = (is_unguarded, is_missing, is_repeated, is_admitted)

-- Guarded bodies, by the type at the inductive place.
own_var : (sig : Signature) (place : ℕ) (d : DataDecl) (As : Tys) (c : Con) (i : ℕ) → IsRecursiveVar sig place d As c (behind sig place) i → seen_under 0 (IsOwnVar sig place (DataType d.name As) As c) i
own_var sig place d As c i h =
    let e : i ≡ i - 0 = omega arith in
    (omega arith, subst (IsOwnVar sig place (DataType d.name As) As c) e (h.from, h.to, h.type))

var_own : (sig : Signature) (place : ℕ) (d : DataDecl) (As : Tys) (c : Con) (i : ℕ) → seen_under 0 (IsOwnVar sig place (DataType d.name As) As c) i → IsRecursiveVar sig place d As c (behind sig place) i
var_own sig place d As c i h =
    let e : i - 0 ≡ i = omega arith in
    let k : IsOwnVar sig place (DataType d.name As) As c i = subst (IsOwnVar sig place (DataType d.name As) As c) e h.1 in
    record { from = k.0; to = k.1; type = k.2 }

body_under : (sig : Signature) (place : ℕ) (d : DataDecl) (As : Tys) (c : Con) (t : Term) → IsGuardedBody sig place d As c t → IsGuardedUnder sig place (DataType d.name As) As c 0 t
body_under sig place d As c t h = guarded_map sig place (IsRecursiveVar sig place d As c (behind sig place)) (seen_under 0 (IsOwnVar sig place (DataType d.name As) As c)) (own_var sig place d As c) t h

under_body : (sig : Signature) (place : ℕ) (d : DataDecl) (As : Tys) (c : Con) (t : Term) → IsGuardedUnder sig place (DataType d.name As) As c 0 t → IsGuardedBody sig place d As c t
under_body sig place d As c t h = guarded_map sig place (seen_under 0 (IsOwnVar sig place (DataType d.name As) As c)) (IsRecursiveVar sig place d As c (behind sig place)) (var_own sig place d As c) t h

-- no type, though the inductive argument has one
pub no_type : (sig : Signature) (place : ℕ) (d : DataDecl) (As : Tys) (A : Type 0) → IsInductiveAt sig place d As → slice_get (type_list sig.args) place ≡ None → A
no_type sig place d As A e f = let q : Some (DataType d.name As) ≡ None = sym e ∙ f in cc

found_type : (sig : Signature) (place : ℕ) (d : DataDecl) (As : Tys) (own : Ty) → IsInductiveAt sig place d As → slice_get (type_list sig.args) place ≡ Some own → own ≡ DataType d.name As
found_type sig place d As own e f = let q : Some own ≡ Some (DataType d.name As) = sym f ∙ e in cc

pub as_constructors : (sig : Signature) (place : ℕ) (ks : List Case) (d : DataDecl) (As : Tys) (own : Ty) (r : Boolean) → IsInductiveAt sig place d As → slice_get (type_list sig.args) place ≡ Some own →
    (IsTrue r ↔ AnyUnguarded sig place own As ks d.cons) → IsTrue r ↔ IsUnguarded sig place d As ks
as_constructors sig place ks d As own r e f k =
    let o : own ≡ DataType d.name As = found_type sig place d As own e f in
    ((λ h. to (subst (λ A. AnyUnguarded sig place A As ks d.cons) o (k.0 h))), (λ h. k.1 (subst (λ A. AnyUnguarded sig place A As ks d.cons) (sym o) (from h))))
  where
    to : AnyUnguarded sig place (DataType d.name As) As ks d.cons → IsUnguarded sig place d As ks
    to (c, there, (x, among, k)) = (c, x, there, among, k.0, (λ g. k.1 (body_under sig place d As c x.body g)))

    from : IsUnguarded sig place d As ks → AnyUnguarded sig place (DataType d.name As) As ks d.cons
    from (c, x, there, among, named, not) = (c, there, (x, among, (named, (λ g. not (under_body sig place d As c x.body g)))))

pub as_listed : (sig : Signature) (place : ℕ) (ks ks' : List Case) (d : DataDecl) (cs : List Con) (As : Tys) (own : Ty) (r : Boolean) → ks' ≡ ks → cs ≡ d.cons → IsInductiveAt sig place d As → slice_get (type_list sig.args) place ≡ Some own →
    (IsTrue r ↔ AnyUnguarded sig place own As ks' cs) → IsTrue r ↔ IsUnguarded sig place d As ks
as_listed sig place ks ks' d cs As own r e f g h k =
    as_constructors sig place ks d As own r g h (subst (λ xs. IsTrue r ↔ AnyUnguarded sig place own As ks xs) f (subst (λ xs. IsTrue r ↔ AnyUnguarded sig place own As xs cs) e k))

pub ruleset inductive = (no_type, as_constructors)

-- One case.
pub case_is : (sig : Signature) (place : ℕ) (own : Ty) (As : Tys) (c : Con) (x : Case) (a g : Boolean) → a ≡ bytes_eq x.con c.name → (IsTrue g ↔ IsGuardedUnder sig place own As c 0 x.body) → IsTrue (a && not g) ↔ IsUnguardedCase sig place own As c x
case_is sig place own As c x a g e k = by a g e k
  where
    by : (b h : Boolean) → b ≡ bytes_eq x.con c.name → (IsTrue h ↔ IsGuardedUnder sig place own As c 0 x.body) → IsTrue (b && not h) ↔ IsUnguardedCase sig place own As c x
    by true true f i = ((λ j. absurd (true≢false (sym j))), (λ j. absurd (j.1 (i.0 refl))))
    by true false f i = ((λ j. (same_name x.con c.name (sym f), (λ m. true≢false (sym (i.1 m))))), (λ j. refl))
    by false h f i = ((λ j. absurd (true≢false (sym j))), (λ j. absurd (true≢false (sym (subst (λ n. bytes_eq x.con n ≡ true) j.0 (name_same x.con)) ∙ sym f))))

pub ruleset single = (case_is)

pub ruleset constructors = (item_more, item_here, item_none)
