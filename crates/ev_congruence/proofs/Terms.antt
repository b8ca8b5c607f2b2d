-- Typed terms, equations between them, and variables put for variables.
use Rattle.std.specs.Prelude.{◌≡◌, ◌+◌, ◌-◌, ◌<◌, ◌≤◌, ◌++◌, ℕ, zero, suc, List, [], ◌∷◌, Option, Some, None, map, reverse, length, take, slice_get, IsSomeAnd, refl}
use Rattle.std.specs.List.{AllByRecursion}
use Rattle.std.proofs.Common.{◌⊎◌, inl, inr, ⊎_elim, ap, sym, ◌∙◌, subst as transport, arith, add-zero, append_assoc}
use Rattle.std.proofs.lemmas.List.{length-reverse, length-append, reverse-append}
use Rattle.std.proofs.lemmas.Option.{slice_get_within}
use Rattle.std.proofs.Math.Path.{fun_ext}
use Rattle.ev_terms.specs.declared.types.Ty.{Ty, Int, Bool, Prop, Param, Data}
use Rattle.ev_terms.specs.declared.types.Tys.{Tys, Empty}
use Rattle.ev_terms.specs.Types.{pow, prod, more, type_list}
use Rattle.ev_terms.specs.Term.{Term, Terms, var, lit, node, nil, cons, terms}
use Rattle.ev_terms.specs.Symbols.{binds}
use Rattle.ev_terms.specs.Measures.{loose, all_loose}
use Rattle.ev_terms.specs.Substitution.{shift_var, shift, shifts, entry, fill, type_inst, type_at, retype, instance}
use Rattle.ev_terms.proofs.Subst.{shift-inst}
use Rattle.ev_terms.proofs.Shifts.{shift_var_past}
use Rattle.ev_terms.proofs.ListLaws.{inst_below}
use Rattle.ev_terms.proofs.AnyLaws.{type_inst-id, retype-id}
use Rattle.ev_forms.specs.Base.{at_type, equal_sym, iff_sym}
use Rattle.ev_forms.specs.Forms.{equation, eq, iff, vars_above}
use Rattle.ev_typing.specs.TypeLists.{types}
use Rattle.ev_typing.specs.Profiles.{Profile}
use Rattle.ev_typing.specs.Env.{Env, profile}
use Rattle.ev_typing.specs.Typing.{IsProper, AreProper, Typed, AreTyped, IsTypedNode, var_type, inside}
use Rattle.ev_typing.specs.Proper.{IsResult, HasProperSignatures}
use Rattle.ev_typing.specs.Occurs.{IsPlain, ArePlain}
use Rattle.ev_typing.proofs.Checks.{inside_none}
use Rattle.ev_typing.proofs.Names.{all_append}
use Rattle.ev_typing.proofs.Proper.{result_from_proper, result_inst}

pub append_nil : {X : Type 0} (xs : List X) → xs ++ [] ≡ xs
append_nil [] = refl
append_nil (x ∷ xs) = ap (λ ys. x ∷ ys) (append_nil xs)

-- Equations are predicates between two terms of one type.
equal_binds : binds equal_sym ≡ 0
unfolding binds
equal_binds = refl

iff_binds : binds iff_sym ≡ 0
unfolding binds
iff_binds = refl

eq_typed : (env : Env) (C : List Ty) (A : Ty) (s t : Term) → IsProper env A → Typed env C s A → Typed env C t A → Typed env C (eq A s t) Prop
eq_typed env C A s t p g h = record {
  count = refl;
  proper = (p, tt);
  children = transport (λ D. AreTyped env D (cons s (cons t nil)) (A ∷ A ∷ [])) (inside_none C equal_sym (at_type A) equal_binds) (g, (h, tt));
  result = refl;
}

iff_typed : (env : Env) (C : List Ty) (s t : Term) → Typed env C s Prop → Typed env C t Prop → Typed env C (iff s t) Prop
iff_typed env C s t g h = record {
  count = refl;
  proper = tt;
  children = transport (λ D. AreTyped env D (cons s (cons t nil)) (Prop ∷ Prop ∷ [])) (inside_none C iff_sym Empty iff_binds) (g, (h, tt));
  result = refl;
}

pub equation_typed : (env : Env) (C : List Ty) (A : Ty) (s t : Term) → IsResult env A → Typed env C s A → Typed env C t A → Typed env C (equation A s t) Prop
equation_typed env C Int s t p g h = eq_typed env C Int s t p g h
equation_typed env C Bool s t p g h = eq_typed env C Bool s t p g h
equation_typed env C Prop s t p g h = iff_typed env C s t g h
equation_typed env C (Param i) s t p g h = eq_typed env C (Param i) s t p g h
equation_typed env C (pow A) s t p g h = eq_typed env C (pow A) s t p g h
equation_typed env C (prod A B) s t p g h = eq_typed env C (prod A B) s t p g h
equation_typed env C (Data n As) s t p g h = eq_typed env C (Data n As) s t p g h

-- two terms of one type, which is proper or that of predicates
pub record HasSides (env : Env) (C : List Ty) (A : Ty) (s t : Term) : Type 0 where
  pub left : Typed env C s A
  pub right : Typed env C t A
  pub result : IsResult env A

eq_sides : (env : Env) (C : List Ty) (A : Ty) (s t : Term) (B : Ty) → Typed env C (eq A s t) B → HasSides env C A s t
eq_sides env C A s t B h = by h
  where
    by : IsTypedNode env (at_type A) (record { params = 1; args = Param 0 ∷ Param 0 ∷ []; result = Prop }) B (AreTyped env (inside C equal_sym (at_type A)) (cons s (cons t nil)) (A ∷ A ∷ [])) → HasSides env C A s t
    by r =
        let c : AreTyped env C (cons s (cons t nil)) (A ∷ A ∷ []) = transport (λ D. AreTyped env D (cons s (cons t nil)) (A ∷ A ∷ [])) (sym (inside_none C equal_sym (at_type A) equal_binds)) r.children in
        record { left = c.0; right = c.1.0; result = result_from_proper env A r.proper.0 }

iff_sides : (env : Env) (C : List Ty) (s t : Term) (B : Ty) → Typed env C (iff s t) B → HasSides env C Prop s t
iff_sides env C s t B h = by h
  where
    by : IsTypedNode env Empty (record { params = 0; args = Prop ∷ Prop ∷ []; result = Prop }) B (AreTyped env (inside C iff_sym Empty) (cons s (cons t nil)) (Prop ∷ Prop ∷ [])) → HasSides env C Prop s t
    by r =
        let c : AreTyped env C (cons s (cons t nil)) (Prop ∷ Prop ∷ []) = transport (λ D. AreTyped env D (cons s (cons t nil)) (Prop ∷ Prop ∷ [])) (sym (inside_none C iff_sym Empty iff_binds)) r.children in
        record { left = c.0; right = c.1.0; result = tt }

pub equation_sides : (env : Env) (C : List Ty) (A : Ty) (s t : Term) (B : Ty) → Typed env C (equation A s t) B → HasSides env C A s t
equation_sides env C Int s t B h = eq_sides env C Int s t B h
equation_sides env C Bool s t B h = eq_sides env C Bool s t B h
equation_sides env C Prop s t B h = iff_sides env C s t B h
equation_sides env C (Param i) s t B h = eq_sides env C (Param i) s t B h
equation_sides env C (pow A) s t B h = eq_sides env C (pow A) s t B h
equation_sides env C (prod A D) s t B h = eq_sides env C (prod A D) s t B h
equation_sides env C (Data n As) s t B h = eq_sides env C (Data n As) s t B h

-- No direct operator.
pub equation_plain : (env : Env) (A : Ty) (s t : Term) → IsPlain env s → IsPlain env t → IsPlain env (equation A s t)
equation_plain env Int s t g h = (refl, (g, (h, tt)))
equation_plain env Bool s t g h = (refl, (g, (h, tt)))
equation_plain env Prop s t g h = (refl, (g, (h, tt)))
equation_plain env (Param i) s t g h = (refl, (g, (h, tt)))
equation_plain env (pow A) s t g h = (refl, (g, (h, tt)))
equation_plain env (prod A B) s t g h = (refl, (g, (h, tt)))
equation_plain env (Data n As) s t g h = (refl, (g, (h, tt)))

pub equation_plain_sides : (env : Env) (A : Ty) (s t : Term) → IsPlain env (equation A s t) → IsPlain env s × IsPlain env t
equation_plain_sides env Int s t h = (h.1.0, h.1.1.0)
equation_plain_sides env Bool s t h = (h.1.0, h.1.1.0)
equation_plain_sides env Prop s t h = (h.1.0, h.1.1.0)
equation_plain_sides env (Param i) s t h = (h.1.0, h.1.1.0)
equation_plain_sides env (pow A) s t h = (h.1.0, h.1.1.0)
equation_plain_sides env (prod A B) s t h = (h.1.0, h.1.1.0)
equation_plain_sides env (Data n As) s t h = (h.1.0, h.1.1.0)

mutual
  pub shift_plain : (env : Env) (t : Term) (from by : ℕ) → IsPlain env t → IsPlain env (shift t from by)
  shift_plain env (var i) from by h = tt
  shift_plain env (lit n) from by h = tt
  shift_plain env (node s As ts) from by h = (h.0, shifts_plain env ts (from + binds s) by h.1)

  pub shifts_plain : (env : Env) (ts : Terms) (from by : ℕ) → ArePlain env ts → ArePlain env (shifts ts from by)
  shifts_plain env nil from by h = tt
  shifts_plain env (cons t ts) from by h = (shift_plain env t from by h.0, shifts_plain env ts from by h.1)

-- Shifts go into equations.
eq_shift : (A : Ty) (s t : Term) (from by : ℕ) → shift (eq A s t) from by ≡ eq A (shift s from by) (shift t from by)
eq_shift A s t from by =
    ap (λ k. node equal_sym (at_type A) (cons (shift s (from + k) by) (cons (shift t (from + k) by) nil))) equal_binds
    ∙ ap (λ k. node equal_sym (at_type A) (cons (shift s k by) (cons (shift t k by) nil))) (add-zero from)

iff_shift : (s t : Term) (from by : ℕ) → shift (iff s t) from by ≡ iff (shift s from by) (shift t from by)
iff_shift s t from by =
    ap (λ k. node iff_sym Empty (cons (shift s (from + k) by) (cons (shift t (from + k) by) nil))) iff_binds
    ∙ ap (λ k. node iff_sym Empty (cons (shift s k by) (cons (shift t k by) nil))) (add-zero from)

pub equation_shift : (A : Ty) (s t : Term) (from by : ℕ) → shift (equation A s t) from by ≡ equation A (shift s from by) (shift t from by)
equation_shift Int s t from by = eq_shift Int s t from by
equation_shift Bool s t from by = eq_shift Bool s t from by
equation_shift Prop s t from by = iff_shift s t from by
equation_shift (Param i) s t from by = eq_shift (Param i) s t from by
equation_shift (pow A) s t from by = eq_shift (pow A) s t from by
equation_shift (prod A B) s t from by = eq_shift (prod A B) s t from by
equation_shift (Data n As) s t from by = eq_shift (Data n As) s t from by

-- Lists of proper types.
pub proper_list : (env : Env) (As : Tys) → AreProper env As → AllByRecursion (IsProper env) (type_list As)
proper_list env Empty h = tt
proper_list env (more A As) h = (h.0, proper_list env As h.1)

pub list_proper : (env : Env) (As : List Ty) → AllByRecursion (IsProper env) As → AreProper env (types As)
list_proper env [] h = tt
list_proper env (A ∷ As) h = (h.0, list_proper env As h.1)

pub all_take : {X : Type 0} (P : X → Type 0) (n : ℕ) (xs : List X) → AllByRecursion P xs → AllByRecursion P (take n xs)
all_take P zero xs h = tt
all_take P (suc n) [] h = tt
all_take P (suc n) (x ∷ xs) h = (h.0, all_take P n xs h.1)

pub all_reverse : {X : Type 0} (P : X → Type 0) (xs : List X) → AllByRecursion P xs → AllByRecursion P (reverse xs)
all_reverse P [] h = tt
all_reverse P (x ∷ xs) h = transport (AllByRecursion P) (sym (reverse-append (x ∷ []) xs)) (all_append P (reverse xs) (x ∷ []) (all_reverse P xs h.1) (h.0, tt))

pub all_get : {X : Type 0} (P : X → Type 0) (xs : List X) (i : ℕ) (x : X) → AllByRecursion P xs → slice_get xs i ≡ Some x → P x
all_get P [] i x h e = cc
all_get P (y ∷ xs) zero x h e = let q : y ≡ x = cc in transport P q h.0
all_get P (y ∷ xs) (suc i) x h e = all_get P xs i x h.1 e

-- The type of a typed term is proper, or that of predicates.
node_result : (env : Env) (As : Tys) (A : Ty) (Children : Profile → Type 0) (o : Option Profile) → ((p : Profile) → o ≡ Some p → IsResult env p.result) →
    IsSomeAnd o (λ p. IsTypedNode env As p A (Children p)) → IsResult env A
node_result env As A Children None k h = absurd h
node_result env As A Children (Some p) k h = transport (IsResult env) (sym h.result) (result_inst env As p.result h.proper (k p refl))

pub typed_result : (env : Env) → HasProperSignatures env → (C : List Ty) → AllByRecursion (IsProper env) C → (t : Term) (A : Ty) → Typed env C t A → IsResult env A
typed_result env w C p (var i) A h = result_from_proper env A (all_get (IsProper env) (reverse C) i A (all_reverse (IsProper env) C p) h)
typed_result env w C p (lit n) A h = transport (IsResult env) (sym h.1) tt
typed_result env w C p (node s As ts) A h = node_result env As A _ (profile env s) (λ q e. (w s q e).1) h

-- A typed term has no loose variable past its context.
pub some_out : {X Q : Type 0} {P : X → Type 0} (o : Option X) → ((x : X) → o ≡ Some x → P x → Q) → IsSomeAnd o P → Q
some_out None f h = absurd h
some_out (Some x) f h = f x refl h

take_short : (n : ℕ) (As : List Ty) → length (take n As) ≤ n
take_short zero As = omega arith
take_short (suc n) [] = omega arith
take_short (suc n) (A ∷ As) = omega (arith, take_short n As)

mutual
  pub typed_loose : (env : Env) (C : List Ty) (t : Term) (A : Ty) → Typed env C t A → loose t ≤ length C
  typed_loose env C (var i) A h =
      let k : i < length (reverse C) = slice_get_within (reverse C) i A h in
      omega (arith, length-reverse C)
  typed_loose env C (lit n) A h = omega arith
  typed_loose env C (node s As ts) A h =
      some_out (profile env s) (λ p e g.
      let k : all_loose ts ≤ length (inside C s As) = all_typed_loose env (inside C s As) ts (map (type_inst (type_at As)) p.args) g.children in
      omega (arith, length-append C (take (binds s) (type_list As)), take_short (binds s) (type_list As))) h

  pub all_typed_loose : (env : Env) (C : List Ty) (ts : Terms) (As : List Ty) → AreTyped env C ts As → all_loose ts ≤ length C
  all_typed_loose env C nil As h = omega arith
  all_typed_loose env C (cons t ts) [] h = absurd h
  all_typed_loose env C (cons t ts) (A ∷ As) h = omega (arith, typed_loose env C t A h.0, all_typed_loose env C ts As h.1)

-- Variables put for variables.
entry_first : (ts us : List Term) (i : ℕ) → i < length ts → entry (ts ++ us) i ≡ entry ts i
entry_first [] us i h = absurd (omega arith)
entry_first (t ∷ ts) us zero h = refl
entry_first (t ∷ ts) us (suc i) h = entry_first ts us i (omega arith)

entry_last : (ts : List Term) (u : Term) (i : ℕ) → i ≡ length ts → entry (ts ++ u ∷ []) i ≡ u
entry_last [] u zero h = refl
entry_last [] u (suc i) h = absurd (omega arith)
entry_last (t ∷ ts) u zero h = absurd (omega arith)
entry_last (t ∷ ts) u (suc i) h = entry_last ts u i (omega arith)

pub vars_length : (n k : ℕ) → length (vars_above n k) ≡ n
vars_length zero k = refl
vars_length (suc n) k = ap suc (vars_length n k)

vars_reverse : (n k : ℕ) → reverse (vars_above (suc n) k) ≡ reverse (vars_above n k) ++ var (n + k) ∷ []
vars_reverse n k = reverse-append (var (n + k) ∷ []) (vars_above n k)

vars_entry : (n k i : ℕ) → i < n → entry (reverse (vars_above n k)) i ≡ var (i + k)
vars_entry zero k i h = absurd (omega arith)
vars_entry (suc n) k i h = by (order i n (omega arith)) (vars_entry n k i)
  where
    long : length (reverse (vars_above n k)) ≡ n
    long = length-reverse (vars_above n k) ∙ vars_length n k

    order : (i n : ℕ) → i ≤ n → (i < n) ⊎ (i ≡ n)
    order zero zero h = inr refl
    order zero (suc n) h = inl (omega arith)
    order (suc i) zero h = absurd (omega arith)
    order (suc i) (suc n) h = ⊎_elim (λ l. inl (omega (arith, l))) (λ e. inr (ap suc e)) (order i n (omega arith))

    by : (i < n) ⊎ (i ≡ n) → (i < n → entry (reverse (vars_above n k)) i ≡ var (i + k)) → entry (reverse (vars_above (suc n) k)) i ≡ var (i + k)
    by (inl l) before =
        ap (λ ts. entry ts i) (vars_reverse n k)
        ∙ entry_first (reverse (vars_above n k)) (var (n + k) ∷ []) i (omega (arith, l, long))
        ∙ before l
    by (inr e) before =
        ap (λ ts. entry ts i) (vars_reverse n k)
        ∙ entry_last (reverse (vars_above n k)) (var (n + k)) i (e ∙ sym long)
        ∙ ap (λ j. var (j + k)) (sym e)

pub vars_fill : (t : Term) (n k : ℕ) → loose t ≤ n → fill t (vars_above n k) ≡ shift t 0 k
vars_fill t n k h =
    inst_below t (entry (reverse (vars_above n k))) (λ i. var (shift_var 0 k i))
    (λ i l. vars_entry n k i (omega (arith, l, h)) ∙ ap var (sym (shift_var_past 0 k i (omega arith))))
    ∙ sym (shift-inst t 0 k)

-- No types put for parameters.
pub type_none : (i : ℕ) → type_at Empty i ≡ Param i
type_none i = refl

pub instance_none : (t : Term) → instance t Empty ≡ t
instance_none t = ap (λ θ. retype θ t) (fun_ext type_none) ∙ retype-id t

pub types_none : (As : List Ty) → map (type_inst (type_at Empty)) As ≡ As
types_none [] = refl
types_none (A ∷ As) =
    let p : type_inst (type_at Empty) A ≡ A = ap (λ θ. type_inst θ A) (fun_ext type_none) ∙ type_inst-id A in
    let q = types_none As in cc

-- The variables of a context, in a longer one.
slice_middle : {X : Type 0} (xs ys : List X) (y : X) (i : ℕ) → i ≡ length xs → slice_get (xs ++ y ∷ ys) i ≡ Some y
slice_middle [] ys y zero e = refl
slice_middle [] ys y (suc i) e = absurd (omega arith)
slice_middle (x ∷ xs) ys y zero e = absurd (omega arith)
slice_middle (x ∷ xs) ys y (suc i) e = slice_middle xs ys y i (omega arith)

var_between : (E F : List Ty) (A : Ty) → var_type (E ++ A ∷ F) (length F) ≡ Some A
var_between E F A =
    ap (λ xs. slice_get xs (length F)) (reverse-append E (A ∷ F) ∙ ap (λ xs. xs ++ reverse E) (reverse-append (A ∷ []) F) ∙ append_assoc (reverse F) (A ∷ []) (reverse E))
    ∙ slice_middle (reverse F) (reverse E) A (length F) (sym (length-reverse F))

vars_typed_after : (env : Env) (E F Bs : List Ty) → AreTyped env ((E ++ F) ++ Bs) (terms (vars_above (length F) (length Bs))) F
vars_typed_after env E [] Bs = tt
vars_typed_after env E (A ∷ F) Bs = (
  transport (λ D. var_type D (length F + length Bs) ≡ Some A) (sym (append_assoc E (A ∷ F) Bs))
      (ap (var_type (E ++ A ∷ (F ++ Bs))) (sym (length-append F Bs)) ∙ var_between E (F ++ Bs) A),
  transport (λ D. AreTyped env (D ++ Bs) (terms (vars_above (length F) (length Bs))) F) (append_assoc E (A ∷ []) F)
      (vars_typed_after env (E ++ A ∷ []) F Bs),
)

pub vars_typed : (env : Env) (C Bs : List Ty) → AreTyped env (C ++ Bs) (terms (vars_above (length C) (length Bs))) C
vars_typed env C Bs = vars_typed_after env [] C Bs

-- The variables one by one.
take_one_more : {X : Type 0} (xs : List X) (i : ℕ) (x : X) → slice_get xs i ≡ Some x → take i xs ++ x ∷ [] ≡ take (i + 1) xs
take_one_more [] i x h = cc
take_one_more (y ∷ xs) zero x h = let q : y ≡ x = cc in ap (λ z. z ∷ []) (sym q)
take_one_more (y ∷ xs) (suc i) x h =
    let k : suc i + 1 ≡ suc (i + 1) = omega arith in
    ap (λ zs. y ∷ zs) (take_one_more xs i x h) ∙ ap (λ j. take j (y ∷ xs)) (sym k)

vars_at : (n k i : ℕ) → i < n → slice_get (vars_above n k) i ≡ Some (var (n - 1 - i + k))
vars_at zero k i h = absurd (omega arith)
vars_at (suc n) k zero h = let e : n + k ≡ suc n - 1 - zero + k = omega arith in ap (λ j. Some (var j)) e
vars_at (suc n) k (suc i) h = let e : n - 1 - i + k ≡ suc n - 1 - suc i + k = omega arith in vars_at n k i (omega arith) ∙ ap (λ j. Some (var j)) e

pub vars_step : (n k i : ℕ) (all new : List Term) (t : Term) → i < n → all ≡ take i (vars_above n k) → t ≡ var (n - 1 - i + k) → new ≡ all ++ t ∷ [] → new ≡ take (i + 1) (vars_above n k)
vars_step n k i all new t h a e g =
    g ∙ ap (λ xs. xs ++ t ∷ []) a ∙ take_one_more (vars_above n k) i t (vars_at n k i h ∙ ap Some (sym e))

take_all : {X : Type 0} (xs : List X) (n : ℕ) → length xs ≤ n → take n xs ≡ xs
take_all [] zero h = refl
take_all [] (suc n) h = refl
take_all (x ∷ xs) zero h = absurd (omega arith)
take_all (x ∷ xs) (suc n) h = ap (λ ys. x ∷ ys) (take_all xs n (omega arith))

pub vars_end : (n k i : ℕ) (all : List Term) → n ≤ i → all ≡ take i (vars_above n k) → all ≡ vars_above n k
vars_end n k i all h a = a ∙ take_all (vars_above n k) i (omega (arith, vars_length n k))

-- An equation at another type than that of predicates.
pub equation_eq : (A : Ty) (s t : Term) → ¬ (A ≡ Prop) → eq A s t ≡ equation A s t
equation_eq Int s t n = refl
equation_eq Bool s t n = refl
equation_eq Prop s t n = absurd (n refl)
equation_eq (Param i) s t n = refl
equation_eq (pow A) s t n = refl
equation_eq (prod A B) s t n = refl
equation_eq (Data m As) s t n = refl
