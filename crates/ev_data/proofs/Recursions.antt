-- The equations of recursive operators are closed, typed and without direct operators.
use Rattle.std.specs.Prelude.{◌≡◌, ◌+◌, ◌-◌, ◌<◌, ◌≤◌, ℕ, zero, suc, Bool as Boolean, true, false, cond, List, [], ◌∷◌, ◌++◌, Option, Some, None, map, length, take, drop, slice_get, zip, bytes_eq, IsSomeAnd, option_map, refl}
use Rattle.std.specs.List.{AllByRecursion, AllZip}
use Rattle.std.proofs.Common.{ap, sym, ◌∙◌, subst, append_assoc, arith}
use Rattle.std.proofs.lemmas.List.{length-append, length-drop}
use Rattle.ev_terms.specs.declared.types.Ty.{Ty, Int, Bool, Prop, Param, Data as DataType}
use Rattle.ev_terms.specs.declared.types.Tys.{Tys, Empty}
use Rattle.ev_terms.specs.Types.{pow, prod, more, type_list}
use Rattle.ev_terms.specs.Term.{Term, Terms, nil, cons, terms}
use Rattle.ev_terms.specs.Substitution.{type_inst, type_at}
use Rattle.ev_typing.specs.declared.typing.Con.{Con}
use Rattle.ev_typing.specs.declared.typing.DataDecl.{DataDecl}
use Rattle.ev_typing.specs.declared.typing.Signature.{Signature}
use Rattle.ev_typing.specs.TypeLists.{own_types}
use Rattle.ev_typing.specs.Env.{Env, Name, Symbol, ConOf, DesOf, ConstantOf, DirectOf, RecursiveOf, find_symbol, find_data, look_up, own_type, field_types}
use Rattle.ev_typing.specs.Typing.{IsProper, AreProper, Typed, AreTyped}
use Rattle.ev_typing.specs.Occurs.{IsPlain, ArePlain}
use Rattle.ev_typing.specs.WellFormed.{IsGoodBody, IsWellFormed, data_of, inductive_data, spliced, case_context}
use Rattle.ev_typing.proofs.Proper.{proper_inst}
use Rattle.ev_typing.proofs.Signatures.{own_type_at}
use Rattle.ev_forms.specs.Forms.{equation, forall_all, vars, vars_above, call}
use Rattle.ev_data.specs.Closed.{case_arguments, recursion_formula, cases_by_name, recursion_in, recursion_of, recursion_row}
use Rattle.ev_data.specs.DataLaws.{IsClosedFormula, RecursionIsTyped}
use Rattle.ev_data.proofs.Lists.{append_nil, spliced-suc}
use Rattle.ev_data.proofs.Cases.{inductive_type}
use Rattle.ev_data.proofs.Environments.{IsGoodCon, IsGoodRecursion, symbol_good, found_data_good}
use Rattle.ev_data.proofs.Formulas.{own_length, own_proper, own_at, all_own_at, equation_typed, equation_plain, forall_all_typed, forall_all_plain, call_typed, call_plain, con_plain, own_vars_typed, vars_plain, field_count}

-- Parts of typed lists.
take_typed : (env : Env) (C : List Ty) (k : ℕ) (ts : List Term) (As : List Ty) → AreTyped env C (terms ts) As → AreTyped env C (terms (take k ts)) (take k As)
take_typed env C zero ts As h = tt
take_typed env C (suc k) [] [] h = tt
take_typed env C (suc k) [] (A ∷ As) h = absurd h
take_typed env C (suc k) (t ∷ ts) [] h = absurd h
take_typed env C (suc k) (t ∷ ts) (A ∷ As) h = (h.0, take_typed env C k ts As h.1)

drop_typed : (env : Env) (C : List Ty) (k : ℕ) (ts : List Term) (As : List Ty) → AreTyped env C (terms ts) As → AreTyped env C (terms (drop k ts)) (drop k As)
drop_typed env C zero ts As h = h
drop_typed env C (suc k) [] [] h = tt
drop_typed env C (suc k) [] (A ∷ As) h = absurd h
drop_typed env C (suc k) (t ∷ ts) [] h = absurd h
drop_typed env C (suc k) (t ∷ ts) (A ∷ As) h = drop_typed env C k ts As h.1

join_typed : (env : Env) (C : List Ty) (ts us : List Term) (As Bs : List Ty) → AreTyped env C (terms ts) As → AreTyped env C (terms us) Bs → AreTyped env C (terms (ts ++ us)) (As ++ Bs)
join_typed env C [] us [] Bs h g = g
join_typed env C [] us (A ∷ As) Bs h g = absurd h
join_typed env C (t ∷ ts) us [] Bs h g = absurd h
join_typed env C (t ∷ ts) us (A ∷ As) Bs h g = (h.0, join_typed env C ts us As Bs h.1 g)

-- The types of a case's variables.
take_front : (xs ys : List Ty) (k : ℕ) → k < length xs → take k (spliced xs k ys) ≡ take k xs
take_front [] ys k h = absurd (omega (arith, h))
take_front (x ∷ xs) ys zero h = refl
take_front (x ∷ xs) ys (suc k) h = ap (take (suc k)) (spliced-suc x xs k ys) ∙ ap (λ zs. x ∷ zs) (take_front xs ys k (omega (arith, h)))

next : (k : ℕ) → suc k + 1 ≡ suc (k + 1)
next k = omega arith

drop_front : (xs ys : List Ty) (k : ℕ) → k < length xs → drop k (spliced xs k ys) ≡ ys ++ drop (k + 1) xs
drop_front [] ys k h = absurd (omega (arith, h))
drop_front (x ∷ xs) ys zero h = refl
drop_front (x ∷ xs) ys (suc k) h =
    ap (drop (suc k)) (spliced-suc x xs k ys) ∙ drop_front xs ys k (omega (arith, h)) ∙ ap (λ j. ys ++ drop j (x ∷ xs)) (sym (next k))

take_middle : (ys zs : List Ty) → take (length ys) (ys ++ zs) ≡ ys
take_middle [] zs = refl
take_middle (y ∷ ys) zs = ap (λ us. y ∷ us) (take_middle ys zs)

drop_middle : (ys zs : List Ty) → drop (length ys) (ys ++ zs) ≡ zs
drop_middle [] zs = refl
drop_middle (y ∷ ys) zs = drop_middle ys zs

abbrev none : List Ty
none = []

drop_none : (j : ℕ) → drop j none ≡ none
drop_none zero = refl
drop_none (suc j) = refl

drop_more : (xs : List Ty) (k m : ℕ) → drop (k + m) xs ≡ drop m (drop k xs)
drop_more xs zero m = let e : zero + m ≡ m = omega arith in ap (λ j. drop j xs) e
drop_more [] (suc k) m = drop_none (suc k + m) ∙ sym (drop_none m)
drop_more (x ∷ xs) (suc k) m = let e : suc k + m ≡ suc (k + m) = omega arith in ap (λ j. drop j (x ∷ xs)) e ∙ drop_more xs k m

drop_back : (xs ys : List Ty) (k : ℕ) → k < length xs → drop (k + length ys) (spliced xs k ys) ≡ drop (k + 1) xs
drop_back xs ys k h = drop_more (spliced xs k ys) k (length ys) ∙ ap (drop (length ys)) (drop_front xs ys k h) ∙ drop_middle ys (drop (k + 1) xs)

split_at : (xs : List Ty) (k : ℕ) (A : Ty) → slice_get xs k ≡ Some A → take k xs ++ A ∷ drop (k + 1) xs ≡ xs
split_at [] k A h = cc
split_at (x ∷ xs) zero A h = let e : x ≡ A = cc in ap (λ y. y ∷ xs) (sym e)
split_at (x ∷ xs) (suc k) A h = ap (λ j. take (suc k) (x ∷ xs) ++ A ∷ drop j (x ∷ xs)) (next k) ∙ ap (λ ys. x ∷ ys) (split_at xs k A h)

within : (xs : List Ty) (k : ℕ) (A : Ty) → slice_get xs k ≡ Some A → k < length xs
within [] k A h = cc
within (x ∷ xs) zero A h = omega arith
within (x ∷ xs) (suc k) A h = omega (arith, within xs k A h)

-- The operator's arguments in a case: the variables before the inductive place, the constructor on its own, those behind.
map_count : (θ : ℕ → Ty) (Xs : List Ty) → length (map (type_inst θ) Xs) ≡ length Xs
map_count θ [] = refl
map_count θ (X ∷ Xs) = ap suc (map_count θ Xs)

before_typed : (env : Env) (args Bs : List Ty) (k : ℕ) (A : Ty) (C : List Ty) → slice_get args k ≡ Some A → C ≡ spliced args k Bs → AreTyped env C (terms (take k (vars (length C)))) (take k args)
before_typed env args Bs k A C e q =
    subst (λ Xs. AreTyped env C (terms (take k (vars (length C)))) Xs) (ap (take k) q ∙ take_front args Bs k (within args k A e))
    (take_typed env C k (vars (length C)) C (own_vars_typed env [] C))

middle_typed : (env : Env) (args Bs : List Ty) (k : ℕ) (A : Ty) (C : List Ty) → slice_get args k ≡ Some A → C ≡ spliced args k Bs → AreTyped env C (terms (take (length Bs) (drop k (vars (length C))))) Bs
middle_typed env args Bs k A C e q =
    subst (λ Xs. AreTyped env C (terms (take (length Bs) (drop k (vars (length C))))) Xs)
    (ap (take (length Bs)) (ap (drop k) q ∙ drop_front args Bs k (within args k A e)) ∙ take_middle Bs (drop (k + 1) args))
    (take_typed env C (length Bs) (drop k (vars (length C))) (drop k C) (drop_typed env C k (vars (length C)) C (own_vars_typed env [] C)))

behind_typed : (env : Env) (args Bs : List Ty) (k : ℕ) (A : Ty) (C : List Ty) → slice_get args k ≡ Some A → C ≡ spliced args k Bs → AreTyped env C (terms (drop (k + length Bs) (vars (length C)))) (drop (k + 1) args)
behind_typed env args Bs k A C e q =
    subst (λ Xs. AreTyped env C (terms (drop (k + length Bs) (vars (length C)))) Xs) (ap (drop (k + length Bs)) q ∙ drop_back args Bs k (within args k A e))
    (drop_typed env C (k + length Bs) (vars (length C)) C (own_vars_typed env [] C))

-- a constructor of a datatype at types
pub con_at_typed : (env : Env) (d : DataDecl) (c : Con) (As : Tys) (C : List Ty) (ts : List Term) → IsGoodCon env d c → length (type_list As) ≡ d.params → AreProper env As →
    AreTyped env C (terms ts) (map (type_inst (type_at As)) (field_types c)) → Typed env C (call c.name As ts) (DataType d.name As)
con_at_typed env d c As C ts g n a h = call_typed env C c.name As ts (ConOf d c) (DataType d.name As) g.con n a h (sym (own_type_at As d n))

arguments_typed : (env : Env) (d : DataDecl) (c : Con) (args : List Ty) (k : ℕ) (As : Tys) → IsGoodCon env d c → slice_get args k ≡ Some (DataType d.name As) → length (type_list As) ≡ d.params → AreProper env As →
    (C : List Ty) → C ≡ spliced args k (map (type_inst (type_at As)) (field_types c)) → AreTyped env C (terms (case_arguments k (length c.fields) c As (vars (length C)))) args
arguments_typed env d c args k As g e n a C q =
    let Bs : List Ty = map (type_inst (type_at As)) (field_types c) in
    let m : length Bs ≡ length c.fields = map_count (type_at As) (field_types c) ∙ field_count c.fields in
    subst (λ j. AreTyped env C (terms (case_arguments k j c As (vars (length C)))) args) m
    (subst (λ Xs. AreTyped env C (terms (case_arguments k (length Bs) c As (vars (length C)))) Xs) (split_at args k (DataType d.name As) e)
    (join_typed env C (take k (vars (length C))) (call c.name As (take (length Bs) (drop k (vars (length C)))) ∷ drop (k + length Bs) (vars (length C))) (take k args) (DataType d.name As ∷ drop (k + 1) args)
    (before_typed env args Bs k (DataType d.name As) C e q) (
      con_at_typed env d c As C (take (length Bs) (drop k (vars (length C)))) g n a (middle_typed env args Bs k (DataType d.name As) C e q),
      behind_typed env args Bs k (DataType d.name As) C e q,
    )))

take_plain : (env : Env) (k : ℕ) (ts : List Term) → ArePlain env (terms ts) → ArePlain env (terms (take k ts))
take_plain env zero ts h = tt
take_plain env (suc k) [] h = tt
take_plain env (suc k) (t ∷ ts) h = (h.0, take_plain env k ts h.1)

drop_plain : (env : Env) (k : ℕ) (ts : List Term) → ArePlain env (terms ts) → ArePlain env (terms (drop k ts))
drop_plain env zero ts h = h
drop_plain env (suc k) [] h = tt
drop_plain env (suc k) (t ∷ ts) h = drop_plain env k ts h.1

join_plain : (env : Env) (ts us : List Term) → ArePlain env (terms ts) → ArePlain env (terms us) → ArePlain env (terms (ts ++ us))
join_plain env [] us h g = g
join_plain env (t ∷ ts) us h g = (h.0, join_plain env ts us h.1 g)

arguments_plain : (env : Env) (d : DataDecl) (c : Con) (k m : ℕ) (As : Tys) (n : ℕ) → IsGoodCon env d c → ArePlain env (terms (case_arguments k m c As (vars n)))
arguments_plain env d c k m As n g =
    let h = vars_plain env n 0 in
    join_plain env (take k (vars n)) (call c.name As (take m (drop k (vars n))) ∷ drop (k + m) (vars n)) (take_plain env k (vars n) h)
    (con_plain env d c As (take m (drop k (vars n))) g (take_plain env m (drop k (vars n)) (drop_plain env k (vars n) h)), drop_plain env (k + m) (vars n) h)

-- The types of the variables are proper.
take_proper : (env : Env) (k : ℕ) (Xs : List Ty) → AllByRecursion (IsProper env) Xs → AllByRecursion (IsProper env) (take k Xs)
take_proper env zero Xs h = tt
take_proper env (suc k) [] h = tt
take_proper env (suc k) (X ∷ Xs) h = (h.0, take_proper env k Xs h.1)

drop_proper : (env : Env) (k : ℕ) (Xs : List Ty) → AllByRecursion (IsProper env) Xs → AllByRecursion (IsProper env) (drop k Xs)
drop_proper env zero Xs h = h
drop_proper env (suc k) [] h = tt
drop_proper env (suc k) (X ∷ Xs) h = drop_proper env k Xs h.1

pub join_proper : (env : Env) (Xs Ys : List Ty) → AllByRecursion (IsProper env) Xs → AllByRecursion (IsProper env) Ys → AllByRecursion (IsProper env) (Xs ++ Ys)
join_proper env [] Ys h g = g
join_proper env (X ∷ Xs) Ys h g = (h.0, join_proper env Xs Ys h.1 g)

pub fields_proper : (env : Env) (As : Tys) (Bs : List Ty) → AreProper env As → AllByRecursion (IsProper env) Bs → AllByRecursion (IsProper env) (map (type_inst (type_at As)) Bs)
fields_proper env As [] a h = tt
fields_proper env As (B ∷ Bs) a h = (proper_inst env As B a h.0, fields_proper env As Bs a h.1)

pub list_proper : (env : Env) (As : Tys) → AreProper env As → AllByRecursion (IsProper env) (type_list As)
list_proper env Empty h = tt
list_proper env (more A As) h = (h.0, list_proper env As h.1)

at_proper : (env : Env) (Xs : List Ty) → AllByRecursion (IsProper env) Xs → (k : ℕ) (A : Ty) → slice_get Xs k ≡ Some A → IsProper env A
at_proper env [] h k A e = cc
at_proper env (X ∷ Xs) h zero A e = let q : X ≡ A = cc in subst (IsProper env) q h.0
at_proper env (X ∷ Xs) h (suc k) A e = at_proper env Xs h.1 k A e

-- The equation.
case_closed : (env : Env) (sig : Signature) (o : Option Term) (place : ℕ) (bodies : List Term) (d : DataDecl) (c : Con) (As : Tys) (body : Term) → IsGoodRecursion env sig o place bodies → IsGoodCon env d c →
    slice_get (type_list sig.args) place ≡ Some (DataType d.name As) → length (type_list As) ≡ d.params → AreProper env As → IsGoodBody env sig place As c body →
    IsClosedFormula env (recursion_formula sig place As c body)
case_closed env sig o place bodies d c As body r g e n a b =
    let C : List Ty = case_context sig place As c in
    let ts : List Term = case_arguments place (length c.fields) c As (vars (length C)) in
    let whole : Term = call sig.name (own_types sig.params) ts in
    let args : AllByRecursion (IsProper env) (type_list sig.args) = list_proper env sig.args r.args in
    let typed : Typed env C whole sig.result =
    call_typed env C sig.name (own_types sig.params) ts (RecursiveOf sig o place bodies) sig.result r.found (own_length 0 sig.params) (own_proper env 0 sig.params)
    (subst (λ Xs. AreTyped env C (terms ts) Xs) (sym (all_own_at sig.params (type_list sig.args))) (arguments_typed env d c (type_list sig.args) place As g e n a C refl))
    (sym (own_at sig.params sig.result)) in
    let plain : IsPlain env whole = call_plain env sig.name (own_types sig.params) ts (RecursiveOf sig o place bodies) r.found refl (arguments_plain env d c place (length c.fields) As (length C) g) in (
      forall_all_typed env C [] (equation sig.result whole body)
          (join_proper env (take place (type_list sig.args)) (map (type_inst (type_at As)) (field_types c) ++ drop (place + 1) (type_list sig.args)) (take_proper env place (type_list sig.args) args)
          (join_proper env (map (type_inst (type_at As)) (field_types c)) (drop (place + 1) (type_list sig.args)) (fields_proper env As (field_types c) a g.proper) (drop_proper env (place + 1) (type_list sig.args) args)))
          (equation_typed env C sig.result whole body r.result typed b.term.typed),
      forall_all_plain env C (equation sig.result whole body) (equation_plain env sig.result whole body plain b.plain),
    )

-- The case that is found.
found_case : (P : Con → Term → Type 0) (cs : List Con) (bs : List Term) → AllZip P cs bs → (n : Name) (p : Con × Term) → look_up (cases_by_name cs bs) n ≡ Some p → P p.0 p.1
found_case P [] [] h n p e = cc
found_case P [] (b ∷ bs) h n p e = absurd h
found_case P (c ∷ cs) [] h n p e = absurd h
found_case P (c ∷ cs) (b ∷ bs) h n p e = by (bytes_eq c.name n) e (found_case P cs bs h.1 n p)
  where
    by : (t : Boolean) → cond t (Some (c, b)) (look_up (cases_by_name cs bs) n) ≡ Some p → (look_up (cases_by_name cs bs) n ≡ Some p → P p.0 p.1) → P p.0 p.1
    by true g k = let q : (c, b) ≡ p = cc in subst (λ x. P x.0 x.1) q h.0
    by false g k = k g

-- what holds of each constructor beside what holds of it with its body
with_good : (R : Con → Type 0) (P : Con → Term → Type 0) (cs : List Con) (bs : List Term) → AllByRecursion R cs → AllZip P cs bs → AllZip (λ c b. R c × P c b) cs bs
with_good R P [] [] g h = tt
with_good R P [] (b ∷ bs) g h = h
with_good R P (c ∷ cs) [] g h = h
with_good R P (c ∷ cs) (b ∷ bs) g h = ((g.0, h.0), with_good R P cs bs g.1 h.1)

some_value : {X Y : Type 0} (f : X → Y) (Q : Y → Type 0) (o : Option X) (y : Y) → option_map f o ≡ Some y → ((x : X) → o ≡ Some x → Q (f x)) → Q y
some_value f Q None y e k = cc
some_value f Q (Some x) y e k = let q : f x ≡ y = cc in subst Q q (k x refl)

in_case : (env : Env) → IsWellFormed env → (sig : Signature) (o : Option Term) (place : ℕ) (bodies : List Term) (con : Name) (P : Term) → IsGoodRecursion env sig o place bodies →
    (p : Option (DataDecl × Tys)) → inductive_data env sig place ≡ p → IsSomeAnd p (λ x. AllZip (IsGoodBody env sig place x.1) x.0.cons bodies) → recursion_in sig place bodies con p ≡ Some P →
    IsClosedFormula env P
in_case env w sig o place bodies con P r None q b e = cc
in_case env w sig o place bodies con P r (Some (d, As)) q b e =
    inductive_type env (slice_get (type_list sig.args) place) d As (IsClosedFormula env P) q (λ n s f.
    let g = found_data_good env w n d f in
    let t : slice_get (type_list sig.args) place ≡ Some (DataType d.name As) = s ∙ ap (λ m. Some (DataType m As)) (sym g.0) in
    let a : IsProper env (DataType n As) = at_proper env (type_list sig.args) (list_proper env sig.args r.args) place (DataType n As) s in
    let c : length (type_list As) ≡ d.params = subst (λ x. IsSomeAnd x (λ y. length (type_list As) ≡ y.params)) f a.0 in
    some_value (λ (x : Con × Term). recursion_formula sig place As x.0 x.1) (IsClosedFormula env) (look_up (cases_by_name d.cons bodies) con) P e (λ x h.
    let k = found_case (λ y z. IsGoodCon env d y × IsGoodBody env sig place As y z) d.cons bodies (with_good (IsGoodCon env d) (IsGoodBody env sig place As) d.cons bodies g.1 b) con x h in
    case_closed env sig o place bodies d x.0 As x.1 r k.0 t c a.1 k.1))

pub recursion_typed : RecursionIsTyped
recursion_typed env w op con P e = by (find_symbol env op) refl e
  where
    by : (o : Option Symbol) → find_symbol env op ≡ o → recursion_of env o con ≡ Some P → IsClosedFormula env P
    by None q h = cc
    by (Some (ConOf d c)) q h = cc
    by (Some (DesOf d c i f)) q h = cc
    by (Some (ConstantOf sig o)) q h = cc
    by (Some (DirectOf sig o body)) q h = cc
    by (Some (RecursiveOf sig o place bodies)) q h =
        let r : IsGoodRecursion env sig o place bodies = symbol_good env w op (RecursiveOf sig o place bodies) q in
        in_case env w sig o place bodies con P r (inductive_data env sig place) refl r.cases h
