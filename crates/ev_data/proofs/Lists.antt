-- Lists of variables, types and terms as the code builds them.
use Rattle.std.proofs.Common.{◌≡◌, ℕ, zero, suc, ◌+◌, ◌-◌, ◌≤◌, ◌<◌, Bool as Boolean, true, false, List, [], ◌∷◌, ◌++◌, length, take, drop, map, get_or, ap, sym, ◌∙◌, subst, refl, arith, append_assoc, true≢false}
use Rattle.std.specs.Prelude.{◌==◌, ◌&&◌, ◌≢◌, Option, Some, None, IfSome, IfNone}
use Rattle.std.proofs.lemmas.List.{length-append}
use Rattle.std.proofs.lemmas.Bool.{eqb-true, eq-eqb}
use Rattle.std.proofs.lemmas.Bool.Decides.{nat_tests}
use Rattle.ev_terms.specs.declared.types.Ty.{Ty, Int, Bool, Prop, Param, Data}
use Rattle.ev_terms.specs.declared.types.Ty.TheVariants.{Pow, Prod}
use Rattle.ev_terms.specs.declared.types.Tys.{Tys, Empty}
use Rattle.ev_terms.specs.declared.types.Tys.TheVariants.{More}
use Rattle.ev_terms.specs.Types.{pow, prod, more, type_list, Pow-pow, Prod-prod, More-more}
use Rattle.ev_terms.specs.Term.{Term, var}
use Rattle.ev_terms.proofs.TypeSteps.{type_list-More}
use Rattle.ev_forms.specs.Forms.{forall, forall_all, eq, equation, vars_above}
use Rattle.ev_terms.specs.Substitution.{type_inst, type_at}
use Rattle.ev_typing.specs.declared.typing.DataDecl.{DataDecl}
use Rattle.ev_typing.specs.declared.typing.Con.{Con}
use Rattle.ev_typing.specs.declared.typing.Var.{Var}
use Rattle.ev_typing.specs.declared.typing.Signature.{Signature}
use Rattle.ev_typing.specs.Env.{field_types}
use Rattle.ev_typing.specs.WellFormed.{spliced, case_context}
use Rattle.ev_typing.specs.TypeLists.{types, params_from, own_types}
use Rattle.ev_data.specs.Induction.{are_own, is_recursive}

pub append_nil : {X : Type 0} (xs : List X) → xs ++ [] ≡ xs
append_nil [] = refl
append_nil (x ∷ xs) = ap (λ ys. x ∷ ys) (append_nil xs)

pub take_last : {X : Type 0} (xs : List X) (i : ℕ) (x : X) → x ≡ get_or xs i x → i < length xs → take (suc i) xs ≡ take i xs ++ x ∷ []
take_last [] i x e h = absurd (omega (arith, h))
take_last (y ∷ ys) zero x e h = ap (λ z. z ∷ []) (sym e)
take_last (y ∷ ys) (suc i) x e h = ap (λ zs. y ∷ zs) (take_last ys i x e (omega (arith, h)))

pub take_all : {X : Type 0} (xs : List X) → take (length xs) xs ≡ xs
take_all [] = refl
take_all (x ∷ xs) = ap (λ ys. x ∷ ys) (take_all xs)

-- Variables, from the outermost on.
pub vars_step : (all new : List Term) (left next n inner : ℕ) (t : Term) → 0 < left → next ≡ left - 1 → t ≡ var (next + inner) → new ≡ all ++ t ∷ [] →
    all ++ vars_above left inner ≡ vars_above n inner → new ++ vars_above next inner ≡ vars_above n inner
vars_step all new zero next n inner t h p q r e = absurd (omega (arith, h))
vars_step all new (suc left) next n inner t h p q r e =
    let k : next ≡ left = omega arith in
    ap (λ us. us ++ vars_above next inner) r ∙ append_assoc all (t ∷ []) (vars_above next inner)
    ∙ ap (λ u. all ++ u ∷ vars_above next inner) (q ∙ ap (λ m. var (m + inner)) k) ∙ ap (λ m. all ++ var (left + inner) ∷ vars_above m inner) k ∙ e

pub vars_end : (all : List Term) (left n inner : ℕ) → left ≡ 0 → all ++ vars_above left inner ≡ vars_above n inner → all ≡ vars_above n inner
vars_end all left n inner p e = sym (append_nil all) ∙ ap (λ k. all ++ vars_above k inner) (sym p) ∙ e

-- Type parameters, from the last on.
pub own_step : (list new : Tys) (first : Ty) (rest : Tys) (left next n : ℕ) → 0 < left → next ≡ left - 1 → left ≤ n → first ≡ Param next → rest ≡ list → new ≡ More first rest →
    list ≡ params_from left (n - left) → new ≡ params_from next (n - next)
own_step list new first rest left next n h p w f g e q =
    let k : left ≡ next + 1 = omega arith in
    let m : n - next ≡ suc (n - left) = omega arith in
    e ∙ More-more first rest ∙ ap (λ A. more A rest) f ∙ ap (λ As. more (Param next) As) (g ∙ q ∙ ap (λ j. params_from j (n - left)) k)
    ∙ sym (ap (params_from next) m)

pub own_begin : (n : ℕ) → Empty ≡ params_from n (n - n)
own_begin n = let k : n - n ≡ 0 = omega arith in sym (ap (params_from n) k)

pub own_end : (list : Tys) (left n : ℕ) → left ≡ 0 → list ≡ params_from left (n - left) → list ≡ own_types n
own_end list left n p q =
    let k : n - left ≡ n = omega arith in
    q ∙ ap (λ j. params_from j (n - left)) p ∙ ap (params_from 0) k

-- Quantifiers, from the innermost on.
forall_last : (As : List Ty) (A : Ty) (P : Term) → forall_all (As ++ A ∷ []) P ≡ forall_all As (forall A P)
forall_last [] A P = refl
forall_last (B ∷ As) A P = ap (forall B) (forall_last As A P)

pub forall_step : (As : List Ty) (t new whole : Term) (left next : ℕ) (A B : Ty) → 0 < left → next ≡ left - 1 → A ≡ get_or As next A → next < length As → B ≡ A → new ≡ forall B t →
    forall_all (take left As) t ≡ whole → forall_all (take next As) new ≡ whole
forall_step As t new whole zero next A B h p g k b r e = absurd (omega (arith, h))
forall_step As t new whole (suc left) next A B h p g k b r e =
    let s : suc left ≡ suc next = omega arith in
    ap (forall_all (take next As)) (r ∙ ap (λ C. forall C t) b) ∙ sym (forall_last (take next As) A t)
    ∙ ap (λ Bs. forall_all Bs t) (sym (take_last As next A g k)) ∙ ap (λ j. forall_all (take j As) t) (sym s) ∙ e

pub forall_begin : (As : List Ty) (n : ℕ) (t : Term) → n ≡ length As → forall_all (take n As) t ≡ forall_all As t
forall_begin As n t e = ap (λ k. forall_all (take k As) t) e ∙ ap (λ Bs. forall_all Bs t) (take_all As)

pub forall_end : (As : List Ty) (t whole : Term) (left : ℕ) → left ≡ 0 → forall_all (take left As) t ≡ whole → t ≡ whole
forall_end As t whole left p e = ap (λ k. forall_all (take k As) t) (sym p) ∙ e

-- Lists of types.
pub ruleset type_lists = (type_list-More)

pub list_step : (all new whole : List Ty) (x a : Ty) (left rest got : Tys) → left ≡ More a rest → x ≡ a → new ≡ all ++ x ∷ [] → got ≡ rest →
    all ++ type_list left ≡ whole → new ++ type_list got ≡ whole
list_step all new whole x a left rest got l p q g h =
    ap (λ ys. ys ++ type_list got) (q ∙ ap (λ y. all ++ y ∷ []) p)
    ∙ append_assoc all (a ∷ []) (type_list got)
    ∙ ap (λ r. all ++ a ∷ type_list r) g
    ∙ sym (ap (λ ts. all ++ ts) (ap type_list l ∙ type_list-More a rest)) ∙ h

types_from : (As : List Ty) (i : ℕ) (A : Ty) → A ≡ get_or As i A → i < length As → types (drop i As) ≡ more A (types (drop (suc i) As))
types_from [] i A e h = absurd (omega (arith, h))
types_from (B ∷ As) zero A e h = ap (λ C. more C (types As)) (sym e)
types_from (B ∷ As) (suc i) A e h = types_from As i A e (omega (arith, h))

pub types_step : (As : List Ty) (list new : Tys) (left next : ℕ) (A first : Ty) (rest : Tys) → 0 < left → next ≡ left - 1 → A ≡ get_or As next A → next < length As →
    first ≡ A → rest ≡ list → new ≡ More first rest → list ≡ types (drop left As) → new ≡ types (drop next As)
types_step As list new left next A first rest h p g k f r e q =
    let s : left ≡ suc next = omega arith in
    e ∙ More-more first rest ∙ ap (λ B. more B rest) f ∙ ap (more A) (r ∙ q ∙ ap (λ j. types (drop j As)) s) ∙ sym (types_from As next A g k)

past_all : (As : List Ty) → types (drop (length As) As) ≡ Empty
past_all [] = refl
past_all (A ∷ As) = past_all As

pub types_begin : (As : List Ty) (n : ℕ) → n ≡ length As → Empty ≡ types (drop n As)
types_begin As n e = sym (ap (λ k. types (drop k As)) e ∙ past_all As)

pub types_end : (As : List Ty) (list : Tys) (left : ℕ) → left ≡ 0 → list ≡ types (drop left As) → list ≡ types As
types_end As list left p q = q ∙ ap (λ k. types (drop k As)) p

-- What holds of an option's value.
pub some_weaker : {X : Type 0} {P Q : X → Type 0} (o : Option X) → ((x : X) → P x → Q x) → IfSome o P → IfSome o Q
some_weaker None f h = h
some_weaker (Some x) f h = f x h

pub none_weaker : {X : Type 0} {P Q : Type 0} (o : Option X) → (P → Q) → IfNone o P → IfNone o Q
none_weaker None f h = f h
none_weaker (Some x) f h = h

-- Room for the arguments of a constructor in a case.
length-vars : (n inner : ℕ) → length (vars_above n inner) ≡ n
length-vars zero inner = refl
length-vars (suc n) inner = ap suc (length-vars n inner)

pub spliced-suc : {X : Type 0} (x : X) (xs : List X) (place : ℕ) (ys : List X) → spliced (x ∷ xs) (suc place) ys ≡ x ∷ spliced xs place ys
spliced-suc x xs place ys = let e : suc place + 1 ≡ suc (place + 1) = omega arith in ap (λ j. x ∷ (take place xs ++ (ys ++ drop j (x ∷ xs)))) e

long_enough : {X : Type 0} (xs ys : List X) (place : ℕ) → place < length xs → place + length ys ≤ length (spliced xs place ys)
long_enough [] ys place h = absurd (omega (arith, h))
long_enough (x ∷ xs) ys zero h = let e : length (ys ++ xs) ≡ length ys + length xs = length-append ys xs in omega arith
long_enough (x ∷ xs) ys (suc place) h =
    let l : place + length ys ≤ length (spliced xs place ys) = long_enough xs ys place (omega (arith, h)) in
    let e : length (spliced (x ∷ xs) (suc place) ys) ≡ suc (length (spliced xs place ys)) = ap length (spliced-suc x xs place ys) in
    omega (arith, l, e)

length-fields : (θ : ℕ → Ty) (fs : List Var) → length (map (type_inst θ) (map (λ (f : Var). f.ty) fs)) ≡ length fs
length-fields θ [] = refl
length-fields θ (f ∷ fs) = ap suc (length-fields θ fs)

pub case_room : (sig : Signature) (place : ℕ) (As : Tys) (c : Con) (C : List Ty) (n : ℕ) (xs : List Term) → place < length (type_list sig.args) → C ≡ case_context sig place As c →
    n ≡ length C → xs ≡ vars_above n 0 → place + length c.fields ≤ length xs
case_room sig place As c C n xs h p q r =
    let e : length xs ≡ length (case_context sig place As c) = ap length r ∙ length-vars n 0 ∙ q ∙ ap length p in
    let l = long_enough (type_list sig.args) (map (type_inst (type_at As)) (field_types c)) place h in
    omega (arith, e, l, length-fields (type_at As) c.fields)

-- An equation between expressions.
pub equation_other : (A : Ty) (s t : Term) → A ≢ Prop → eq A s t ≡ equation A s t
equation_other Int s t h = refl
equation_other Bool s t h = refl
equation_other Prop s t h = absurd (h refl)
equation_other (Param i) s t h = refl
equation_other (pow A) s t h = refl
equation_other (prod A B) s t h = refl
equation_other (Data n As) s t h = refl

-- Recursive arguments.
pub not_data-Pow : (d : DataDecl) (A : Ty) → is_recursive d (Pow A) ≡ false
not_data-Pow d A = ap (is_recursive d) (Pow-pow A)

pub not_data-Prod : (d : DataDecl) (A B : Ty) → is_recursive d (Prod A B) ≡ false
not_data-Prod d A B = ap (is_recursive d) (Prod-prod A B)

pub ruleset other_types = (not_data-Pow, not_data-Prod)

own_param : (i n j : ℕ) (As : Tys) → are_own i (suc n) (more (Param j) As) ≡ (j == i && are_own (i + 1) n As)
own_param i n j As = refl

pub own_more : (i n : ℕ) (left rest got : Tys) (A B : Ty) (b : Boolean) → left ≡ More A rest → B ≡ A → got ≡ rest → B ≡ Param i → (i ≡ n → ⊥) → i ≤ n →
    are_own i (n - i) left ≡ b → are_own (i + 1) (n - (i + 1)) got ≡ b
own_more i n left rest got A B b l p g q ne h e =
    let m : n - i ≡ suc (n - (i + 1)) = omega arith in
    let k : left ≡ more (Param i) got = l ∙ More-more A rest ∙ ap (λ C. more C rest) (sym p ∙ q) ∙ ap (more (Param i)) (sym g) in
    let s : are_own i (n - i) left ≡ (i == i && are_own (i + 1) (n - (i + 1)) got) = ap (λ j. are_own i j left) m ∙ ap (are_own i (suc (n - (i + 1)))) k in
    sym (s ∙ ap (λ c. c && are_own (i + 1) (n - (i + 1)) got) (eq-eqb i i refl)) ∙ e

pub own_full : (i n : ℕ) (left rest : Tys) (A : Ty) (b : Boolean) → left ≡ More A rest → i ≡ n → are_own i (n - i) left ≡ b → false ≡ b
own_full i n left rest A b l p e =
    let m : n - i ≡ 0 = omega arith in
    sym (ap (λ j. are_own i j left) m ∙ ap (are_own i 0) (l ∙ More-more A rest)) ∙ e

other_param : (i n : ℕ) (A : Ty) (As : Tys) → (A ≡ Param i → ⊥) → are_own i (suc n) (more A As) ≡ false
other_param i n Int As h = refl
other_param i n Bool As h = refl
other_param i n Prop As h = refl
other_param i n (Param j) As h = let ne : j ≡ i → ⊥ = λ e. h (ap Param e) in by (j == i) refl
  where
    by : (b : Boolean) → (j == i) ≡ b → (b && are_own (i + 1) n As) ≡ false
    by true e = absurd (h (ap Param (eqb-true j i e)))
    by false e = refl
other_param i n (pow A) As h = refl
other_param i n (prod A B) As h = refl
other_param i n (Data m Bs) As h = refl

pub own_other : (i n : ℕ) (left rest : Tys) (A B : Ty) (b : Boolean) → left ≡ More A rest → B ≡ A → (B ≡ Param i → ⊥) → (i ≡ n → ⊥) → i ≤ n → are_own i (n - i) left ≡ b → false ≡ b
own_other i n left rest A B b l p apart ne h e =
    let m : n - i ≡ suc (n - (i + 1)) = omega arith in
    sym (ap (λ j. are_own i j left) m ∙ ap (are_own i (suc (n - (i + 1)))) (l ∙ More-more A rest) ∙ other_param i (n - (i + 1)) A rest (λ q. apart (p ∙ q))) ∙ e

pub own_nothing : (i n : ℕ) (left : Tys) (b : Boolean) → left ≡ Empty → i ≤ n → are_own i (n - i) left ≡ b → (i == n) ≡ b
own_nothing i n left b l h e = by (n - i) refl (sym (ap (are_own i (n - i)) l) ∙ e)
  where
    by : (k : ℕ) → n - i ≡ k → are_own i k Empty ≡ b → (i == n) ≡ b
    by zero p q = let m : i ≡ n = omega (arith, p, h) in eq-eqb i n m ∙ q
    by (suc k) p q = let m : (i == n) ≡ false = grind (arith, nat_tests, p) in m ∙ q

pub own_start : (n : ℕ) (As : Tys) → are_own 0 (n - 0) As ≡ are_own 0 n As
own_start n As = let m : n - 0 ≡ n = omega arith in ap (λ j. are_own 0 j As) m

pub ruleset variables = (vars_step, vars_end)

pub ruleset own_lists = (own_step, own_begin, own_end)

pub ruleset quantified = (forall_step, forall_begin, forall_end)

pub ruleset rows_of_types = (types_step, types_begin, types_end)

pub ruleset equations = (equation_other)

pub ruleset own_walk = (own_more, own_full, own_other, own_nothing, own_start)
