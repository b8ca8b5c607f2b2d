-- The formulas of datatypes are closed, typed and without direct operators.
use Rattle.std.specs.Prelude.{◌≡◌, ◌+◌, ◌-◌, ◌<◌, ◌≤◌, ◌&&◌, ◌==◌, not, ℕ, zero, suc, Bool as Boolean, true, false, if◌then◌else◌, List, [], ◌∷◌, ◌++◌, Option, Some, None, map, length, take, drop, reverse, slice_get, zip, bytes_eq, IsFalse, IsSomeAnd, option_map, unwrap_or, refl}
use Rattle.std.specs.List.{AllByRecursion, AllZip, enumerate_from}
use Rattle.std.proofs.Common.{ap, sym, ◌∙◌, subst, append_assoc, arith}
use Rattle.std.proofs.Math.Path.{fun_ext}
use Rattle.std.proofs.lemmas.List.{reverse-append}
use Rattle.ev_terms.specs.declared.types.Ty.{Ty, Int, Bool, Prop, Param, Data as DataType}
use Rattle.ev_terms.specs.declared.types.Tys.{Tys, Empty}
use Rattle.ev_terms.specs.declared.types.Sym.{Sym}
use Rattle.ev_terms.specs.declared.types.Sym.TheVariants.{Base, User}
use Rattle.ev_terms.specs.Types.{pow, prod, more, type_list}
use Rattle.ev_terms.specs.Term.{Term, Terms, var, lit, node, nil, cons, terms}
use Rattle.ev_terms.specs.Symbols.{binds}
use Rattle.ev_terms.specs.Substitution.{type_inst, type_at}
use Rattle.ev_terms.proofs.AnyLaws.{type_inst-id}
use Rattle.ev_typing.specs.declared.typing.Con.{Con}
use Rattle.ev_typing.specs.declared.typing.Var.{Var}
use Rattle.ev_typing.specs.declared.typing.DataDecl.{DataDecl}
use Rattle.ev_typing.specs.declared.typing.Signature.{Signature}
use Rattle.ev_typing.specs.TypeLists.{params_from, own_types}
use Rattle.ev_typing.specs.Profiles.{Profile, base_profile}
use Rattle.ev_typing.specs.Env.{Env, Name, Symbol, ConOf, DesOf, ConstantOf, DirectOf, RecursiveOf, find_symbol, find_data, look_up, own_type, field_types, symbol_profile, profile}
use Rattle.ev_typing.specs.Typing.{IsProper, AreProper, Typed, AreTyped, IsTypedNode, IsPredicate, var_type, inside}
use Rattle.ev_typing.specs.Proper.{IsResult}
use Rattle.ev_typing.specs.Occurs.{is_direct, is_direct_symbol, IsPlain, ArePlain}
use Rattle.ev_typing.specs.WellFormed.{IsGoodBody, IsWellFormed, AreGoodBodies, data_of, inductive_data, spliced, case_context}
use Rattle.ev_typing.proofs.Keeps.{var_here, var_later}
use Rattle.ev_typing.proofs.Names.{same_name}
use Rattle.ev_typing.proofs.Proper.{proper_inst}
use Rattle.ev_typing.proofs.Signatures.{own_type_at}
use Rattle.ev_forms.specs.Base.{at_type}
use Rattle.ev_forms.specs.Forms.{neg, iff, eq, equation, forall, forall_all, vars, vars_above, call}
use Rattle.ev_data.specs.Closed.{destructor_formula, distinctness_formula, destructor_of, distinctness_of, destructor_row, distinctness_row}
use Rattle.ev_data.specs.DataLaws.{IsClosedFormula, DestructorsAreTyped, DistinctnessIsTyped}
use Rattle.ev_data.proofs.Lists.{append_nil}
use Rattle.ev_data.proofs.Environments.{IsGoodCon, symbol_good}

-- A symbol's own parameters.
pub own_length : (i n : ℕ) → length (type_list (params_from i n)) ≡ n
own_length i zero = refl
own_length i (suc n) = ap suc (own_length (i + 1) n)

pub own_proper : (env : Env) (i n : ℕ) → AreProper env (params_from i n)
own_proper env i zero = tt
own_proper env i (suc n) = (tt, own_proper env (i + 1) n)

pub own_type_proper : (env : Env) (d : DataDecl) → find_data env d.name ≡ Some d → IsProper env (own_type d)
own_type_proper env d e =
    (subst (λ o. IsSomeAnd o (λ x. length (type_list (own_types d.params)) ≡ x.params)) (sym e) (own_length 0 d.params), own_proper env 0 d.params)

own_param : (i n j : ℕ) → unwrap_or (slice_get (type_list (params_from i n)) j) (Param (i + j)) ≡ Param (i + j)
own_param i zero j = refl
own_param i (suc n) zero = let e : i + 0 ≡ i = omega arith in ap (λ k. Param k) (sym e)
own_param i (suc n) (suc j) = let e : i + suc j ≡ (i + 1) + j = omega arith in ap (λ k. unwrap_or (slice_get (type_list (params_from (i + 1) n)) j) (Param k)) e ∙ own_param (i + 1) n j ∙ ap Param (sym e)

pub own_at : (n : ℕ) (A : Ty) → type_inst (type_at (own_types n)) A ≡ A
own_at n A = ap (λ θ. type_inst θ A) (fun_ext each) ∙ type_inst-id A
  where
    each : (j : ℕ) → type_at (own_types n) j ≡ Param j
    each j = let e : 0 + j ≡ j = omega arith in ap (λ k. unwrap_or (slice_get (type_list (params_from 0 n)) j) (Param k)) (sym e) ∙ own_param 0 n j ∙ ap Param e

pub all_own_at : (n : ℕ) (As : List Ty) → map (type_inst (type_at (own_types n))) As ≡ As
all_own_at n [] = refl
all_own_at n (A ∷ As) = ap (λ B. B ∷ map (type_inst (type_at (own_types n))) As) (own_at n A) ∙ ap (λ Bs. A ∷ Bs) (all_own_at n As)

-- Nodes.
pub outside : (C : List Ty) (s : Sym) (As : Tys) → binds s ≡ 0 → inside C s As ≡ C
outside C s As e = ap (λ k. C ++ take k (type_list As)) e ∙ append_nil C

typed_base : (env : Env) (C : List Ty) (k : ℕ) (As : Tys) (ts : Terms) (A : Ty) → binds (Base k) ≡ 0 →
    IsSomeAnd (base_profile k) (λ p. IsTypedNode env As p A (AreTyped env C ts (map (type_inst (type_at As)) p.args))) → Typed env C (node (Base k) As ts) A
typed_base env C k As ts A b h = subst (λ D. IsSomeAnd (base_profile k) (λ p. IsTypedNode env As p A (AreTyped env D ts (map (type_inst (type_at As)) p.args)))) (sym (outside C (Base k) As b)) h

pub neg_typed : (env : Env) (C : List Ty) (P : Term) → IsPredicate env C P → IsPredicate env C (neg P)
unfolding binds
neg_typed env C P p = typed_base env C 2 Empty (cons P nil) Prop refl (record { count = refl; proper = tt; children = (p, tt); result = refl })

pub eq_typed : (env : Env) (C : List Ty) (A : Ty) (s t : Term) → IsProper env A → Typed env C s A → Typed env C t A → IsPredicate env C (eq A s t)
unfolding binds
eq_typed env C A s t a p q = typed_base env C 9 (at_type A) (cons s (cons t nil)) Prop refl (record { count = refl; proper = (a, tt); children = (p, (q, tt)); result = refl })

iff_typed : (env : Env) (C : List Ty) (P Q : Term) → IsPredicate env C P → IsPredicate env C Q → IsPredicate env C (iff P Q)
unfolding binds
iff_typed env C P Q p q = typed_base env C 6 Empty (cons P (cons Q nil)) Prop refl (record { count = refl; proper = tt; children = (p, (q, tt)); result = refl })

pub equation_typed : (env : Env) (C : List Ty) (A : Ty) (s t : Term) → IsResult env A → Typed env C s A → Typed env C t A → IsPredicate env C (equation A s t)
equation_typed env C Int s t a p q = eq_typed env C Int s t tt p q
equation_typed env C Bool s t a p q = eq_typed env C Bool s t tt p q
equation_typed env C Prop s t a p q = iff_typed env C s t p q
equation_typed env C (Param i) s t a p q = eq_typed env C (Param i) s t tt p q
equation_typed env C (pow A) s t a p q = eq_typed env C (pow A) s t a p q
equation_typed env C (prod A B) s t a p q = eq_typed env C (prod A B) s t a p q
equation_typed env C (DataType n As) s t a p q = eq_typed env C (DataType n As) s t a p q

pub equation_plain : (env : Env) (A : Ty) (s t : Term) → IsPlain env s → IsPlain env t → IsPlain env (equation A s t)
equation_plain env Int s t p q = (refl, (p, (q, tt)))
equation_plain env Bool s t p q = (refl, (p, (q, tt)))
equation_plain env Prop s t p q = (refl, (p, (q, tt)))
equation_plain env (Param i) s t p q = (refl, (p, (q, tt)))
equation_plain env (pow A) s t p q = (refl, (p, (q, tt)))
equation_plain env (prod A B) s t p q = (refl, (p, (q, tt)))
equation_plain env (DataType n As) s t p q = (refl, (p, (q, tt)))

forall_typed : (env : Env) (C : List Ty) (A : Ty) (P : Term) → IsProper env A → IsPredicate env (C ++ A ∷ []) P → IsPredicate env C (forall A P)
unfolding binds
forall_typed env C A P a p = record { count = refl; proper = (a, tt); children = (p, tt); result = refl }

pub forall_all_typed : (env : Env) (Bs C : List Ty) (P : Term) → AllByRecursion (IsProper env) Bs → IsPredicate env (C ++ Bs) P → IsPredicate env C (forall_all Bs P)
forall_all_typed env [] C P a h = subst (λ X. IsPredicate env X P) (append_nil C) h
forall_all_typed env (B ∷ Bs) C P a h =
    forall_typed env C B (forall_all Bs P) a.0
    (forall_all_typed env Bs (C ++ B ∷ []) P a.1 (subst (λ X. IsPredicate env X P) (sym (append_assoc C (B ∷ []) Bs)) h))

pub forall_all_plain : (env : Env) (Bs : List Ty) (P : Term) → IsPlain env P → IsPlain env (forall_all Bs P)
forall_all_plain env [] P h = h
forall_all_plain env (B ∷ Bs) P h = (refl, (forall_all_plain env Bs P h, tt))

pub call_typed : (env : Env) (C : List Ty) (n : Name) (As : Tys) (ts : List Term) (s : Symbol) (A : Ty) → find_symbol env n ≡ Some s → length (type_list As) ≡ (symbol_profile s).params →
    AreProper env As → AreTyped env C (terms ts) (map (type_inst (type_at As)) (symbol_profile s).args) → A ≡ type_inst (type_at As) (symbol_profile s).result →
    Typed env C (call n As ts) A
unfolding binds
call_typed env C n As ts s A e k a h r =
    subst (λ o. IsSomeAnd o (λ p. IsTypedNode env As p A (AreTyped env (inside C (User n) As) (terms ts) (map (type_inst (type_at As)) p.args)))) (sym (ap (option_map symbol_profile) e))
    (record {
      count = k;
      proper = a;
      children = subst (λ D. AreTyped env D (terms ts) (map (type_inst (type_at As)) (symbol_profile s).args)) (sym (outside C (User n) As refl)) h;
      result = r;
    })

pub call_plain : (env : Env) (n : Name) (As : Tys) (ts : List Term) (s : Symbol) → find_symbol env n ≡ Some s → is_direct_symbol (Some s) ≡ false → ArePlain env (terms ts) → IsPlain env (call n As ts)
call_plain env n As ts s e d h = (ap is_direct_symbol e ∙ d, h)

-- Variables.
pub past_all : (C E : List Ty) (i : ℕ) → var_type (C ++ E) (i + length E) ≡ var_type C i
past_all C [] i = let e : i + 0 ≡ i = omega arith in ap (var_type (C ++ [])) e ∙ ap (λ X. var_type X i) (append_nil C)
past_all C (B ∷ Bs) i =
    let e : i + suc (length Bs) ≡ suc i + length Bs = omega arith in
    ap (var_type (C ++ B ∷ Bs)) e ∙ ap (λ X. var_type X (suc i + length Bs)) (sym (append_assoc C (B ∷ []) Bs)) ∙ past_all (C ++ B ∷ []) Bs (suc i) ∙ var_later C B i

pub vars_typed : (env : Env) (C Bs E : List Ty) → AreTyped env ((C ++ Bs) ++ E) (terms (vars_above (length Bs) (length E))) Bs
vars_typed env C [] E = tt
vars_typed env C (B ∷ Bs) E =
    let e : length Bs ≡ 0 + length Bs = omega arith in (
      past_all (C ++ B ∷ Bs) E (length Bs) ∙ ap (var_type (C ++ B ∷ Bs)) e ∙ ap (λ X. var_type X (0 + length Bs)) (sym (append_assoc C (B ∷ []) Bs)) ∙ past_all (C ++ B ∷ []) Bs 0 ∙ var_here C B,
      subst (λ X. AreTyped env (X ++ E) (terms (vars_above (length Bs) (length E))) Bs) (append_assoc C (B ∷ []) Bs) (vars_typed env (C ++ B ∷ []) Bs E),
    )

pub own_vars_typed : (env : Env) (C Bs : List Ty) → AreTyped env (C ++ Bs) (terms (vars (length Bs))) Bs
own_vars_typed env C Bs = subst (λ X. AreTyped env X (terms (vars (length Bs))) Bs) (append_nil (C ++ Bs)) (vars_typed env C Bs [])

pub vars_plain : (env : Env) (n inner : ℕ) → ArePlain env (terms (vars_above n inner))
vars_plain env zero inner = tt
vars_plain env (suc n) inner = (tt, vars_plain env n inner)

front_var : (Bs Cs : List Ty) (i : ℕ) (A : Ty) → slice_get Bs i ≡ Some A → slice_get (Bs ++ Cs) i ≡ Some A
front_var [] Cs i A h = cc
front_var (B ∷ Bs) Cs zero A h = h
front_var (B ∷ Bs) Cs (suc i) A h = front_var Bs Cs i A h

-- a variable of the inner context has its type in the whole
pub inner_var : (C D : List Ty) (i : ℕ) (A : Ty) → var_type D i ≡ Some A → var_type (C ++ D) i ≡ Some A
inner_var C D i A h = ap (λ X. slice_get X i) (reverse-append C D) ∙ front_var (reverse D) (reverse C) i A h

-- the i-th variable from outside
pub var_at : (As : List Ty) (i : ℕ) (A : Ty) → slice_get As i ≡ Some A → var_type As (length As - (i + 1)) ≡ Some A
var_at [] i A h = cc
var_at (B ∷ As) zero A h =
    let e : length (B ∷ As) - (zero + 1) ≡ 0 + length As = omega arith in
    ap (var_type (B ∷ As)) e ∙ past_all (B ∷ []) As 0 ∙ var_here [] B ∙ h
var_at (B ∷ As) (suc i) A h =
    let e : length (B ∷ As) - (suc i + 1) ≡ length As - (i + 1) = omega arith in
    ap (var_type (B ∷ As)) e ∙ inner_var (B ∷ []) As (length As - (i + 1)) A (var_at As i A h)

pub field_count : (fs : List Var) → length (map (λ (f : Var). f.ty) fs) ≡ length fs
field_count [] = refl
field_count (f ∷ fs) = ap suc (field_count fs)

pub field_at : (fs : List Var) (i : ℕ) (f : Var) → slice_get fs i ≡ Some f → slice_get (map (λ (g : Var). g.ty) fs) i ≡ Some f.ty
field_at [] i f h = cc
field_at (g ∷ gs) zero f h = let e : g ≡ f = cc in ap (λ (k : Var). Some k.ty) e
field_at (g ∷ gs) (suc i) f h = field_at gs i f h

-- A constructor on its own variables.
pub con_typed : (env : Env) (d : DataDecl) (c : Con) (C E : List Ty) → IsGoodCon env d c →
    Typed env ((C ++ field_types c) ++ E) (call c.name (own_types d.params) (vars_above (length c.fields) (length E))) (own_type d)
con_typed env d c C E g =
    call_typed env ((C ++ field_types c) ++ E) c.name (own_types d.params) (vars_above (length c.fields) (length E)) (ConOf d c) (own_type d) g.con (own_length 0 d.params) (own_proper env 0 d.params)
    (subst (λ Bs. AreTyped env ((C ++ field_types c) ++ E) (terms (vars_above (length c.fields) (length E))) Bs) (sym (all_own_at d.params (field_types c)))
    (subst (λ n. AreTyped env ((C ++ field_types c) ++ E) (terms (vars_above n (length E))) (field_types c)) (field_count c.fields) (vars_typed env C (field_types c) E)))
    (sym (own_at d.params (own_type d)))

pub con_plain : (env : Env) (d : DataDecl) (c : Con) (As : Tys) (ts : List Term) → IsGoodCon env d c → ArePlain env (terms ts) → IsPlain env (call c.name As ts)
con_plain env d c As ts g h = call_plain env c.name As ts (ConOf d c) g.con refl h

-- Destructors.
numbered_at : (env : Env) (d : DataDecl) (c : Con) (start : ℕ) (fs : List Var) → AllByRecursion (λ (f : ℕ × Var). find_symbol env f.1.name ≡ Some (DesOf d c f.0 f.1)) (enumerate_from start fs) →
    (i : ℕ) (f : Var) → slice_get fs i ≡ Some f → find_symbol env f.name ≡ Some (DesOf d c (start + i) f)
numbered_at env d c start [] h i f e = cc
numbered_at env d c start (g ∷ gs) h zero f e =
    let q : g ≡ f = cc in
    let k : start ≡ start + 0 = omega arith in
    subst (λ x. find_symbol env x.name ≡ Some (DesOf d c (start + 0) x)) q (h.0 ∙ ap (λ j. Some (DesOf d c j g)) k)
numbered_at env d c start (g ∷ gs) h (suc i) f e =
    let k : (start + 1) + i ≡ start + suc i = omega arith in
    numbered_at env d c (start + 1) gs h.1 i f e ∙ ap (λ j. Some (DesOf d c j f)) k

field_proper : (env : Env) (fs : List Var) → AllByRecursion (IsProper env) (map (λ (g : Var). g.ty) fs) → (i : ℕ) (f : Var) → slice_get fs i ≡ Some f → IsProper env f.ty
field_proper env [] h i f e = cc
field_proper env (g ∷ gs) h zero f e = let q : g ≡ f = cc in subst (λ x. IsProper env x.ty) q h.0
field_proper env (g ∷ gs) h (suc i) f e = field_proper env gs h.1 i f e

destructor_closed : (env : Env) (d : DataDecl) (c : Con) (i : ℕ) (f : Var) → IsGoodCon env d c → slice_get c.fields i ≡ Some f → IsClosedFormula env (destructor_formula d c i f)
destructor_closed env d c i f g e = (
  forall_all_typed env Bs [] (eq f.ty taken x) g.proper (eq_typed env Bs f.ty taken x (field_proper env c.fields g.proper i f e) taken_typed x_typed),
  forall_all_plain env Bs (eq f.ty taken x) (refl, (call_plain env f.name own (made ∷ []) (DesOf d c (0 + i) f) des refl (con_plain env d c own (vars (length c.fields)) g (vars_plain env (length c.fields) 0), tt), (tt, tt))),
)
  where
    Bs : List Ty
    Bs = field_types c

    own : Tys
    own = own_types d.params

    made : Term
    made = call c.name own (vars (length c.fields))

    taken : Term
    taken = call f.name own (made ∷ [])

    x : Term
    x = var (length c.fields - (i + 1))

    des : find_symbol env f.name ≡ Some (DesOf d c (0 + i) f)
    des = numbered_at env d c 0 c.fields g.destructors i f e

    made_typed : Typed env (field_types c) (call c.name (own_types d.params) (vars (length c.fields))) (own_type d)
    made_typed = subst (λ X. Typed env X (call c.name (own_types d.params) (vars (length c.fields))) (own_type d)) (append_nil (field_types c)) (con_typed env d c [] [] g)

    taken_typed : Typed env (field_types c) (call f.name (own_types d.params) (call c.name (own_types d.params) (vars (length c.fields)) ∷ [])) f.ty
    taken_typed =
        call_typed env (field_types c) f.name (own_types d.params) (call c.name (own_types d.params) (vars (length c.fields)) ∷ []) (DesOf d c (0 + i) f) f.ty
        (numbered_at env d c 0 c.fields g.destructors i f e) (own_length 0 d.params) (own_proper env 0 d.params)
        (subst (λ X. AreTyped env (field_types c) (cons (call c.name (own_types d.params) (vars (length c.fields))) nil) X) (sym (all_own_at d.params (own_type d ∷ [])))
        (subst (λ X. Typed env X (call c.name (own_types d.params) (vars (length c.fields))) (own_type d)) (append_nil (field_types c)) (con_typed env d c [] [] g), tt))
        (sym (own_at d.params f.ty))

    x_typed : var_type (field_types c) (length c.fields - (i + 1)) ≡ Some f.ty
    x_typed = subst (λ n. var_type (field_types c) (n - (i + 1)) ≡ Some f.ty) (field_count c.fields) (var_at (field_types c) i f.ty (field_at c.fields i f e))

some_value : {X Y : Type 0} (f : X → Y) (Q : Y → Type 0) (o : Option X) (y : Y) → option_map f o ≡ Some y → ((x : X) → o ≡ Some x → Q (f x)) → Q y
some_value f Q None y e k = cc
some_value f Q (Some x) y e k = let q : f x ≡ y = cc in subst Q q (k x refl)

pub destructors_typed : DestructorsAreTyped
destructors_typed env w con place P e = by (find_symbol env con) place refl e
  where
    by : (o : Option Symbol) (k : ℕ) → find_symbol env con ≡ o → destructor_of o k ≡ Some P → IsClosedFormula env P
    by None k q h = cc
    by (Some (ConOf d c)) zero q h = cc
    by (Some (ConOf d c)) (suc i) q h =
        some_value (destructor_formula d c i) (IsClosedFormula env) (slice_get c.fields i) P h (λ f g. destructor_closed env d c i f (symbol_good env w con (ConOf d c) q) g)
    by (Some (DesOf d c j f)) k q h = cc
    by (Some (ConstantOf sig o)) k q h = cc
    by (Some (DirectOf sig o body)) k q h = cc
    by (Some (RecursiveOf sig o p bodies)) k q h = cc

-- Distinctness.
distinct_closed : (env : Env) (d : DataDecl) (left right : Con) → IsGoodCon env d left → IsGoodCon env d right → IsClosedFormula env (distinctness_formula d left right)
distinct_closed env d left right g h = (
  forall_all_typed env (field_types left) [] (forall_all (field_types right) (neg (eq (own_type d) l r))) g.proper
      (forall_all_typed env (field_types right) (field_types left) (neg (eq (own_type d) l r)) h.proper
      (neg_typed env (field_types left ++ field_types right) (eq (own_type d) l r)
      (eq_typed env (field_types left ++ field_types right) (own_type d) l r (own_type_proper env d g.decl) l_typed r_typed))),
  forall_all_plain env (field_types left) (forall_all (field_types right) (neg (eq (own_type d) l r)))
      (forall_all_plain env (field_types right) (neg (eq (own_type d) l r)) (refl, ((refl, (l_plain, (r_plain, tt))), tt))),
)
  where
    l : Term
    l = call left.name (own_types d.params) (vars_above (length left.fields) (length right.fields))

    r : Term
    r = call right.name (own_types d.params) (vars (length right.fields))

    l_typed : Typed env (field_types left ++ field_types right) (call left.name (own_types d.params) (vars_above (length left.fields) (length right.fields))) (own_type d)
    l_typed =
        subst (λ n. Typed env (field_types left ++ field_types right) (call left.name (own_types d.params) (vars_above (length left.fields) n)) (own_type d)) (field_count right.fields)
        (con_typed env d left [] (field_types right) g)

    r_typed : Typed env (field_types left ++ field_types right) (call right.name (own_types d.params) (vars (length right.fields))) (own_type d)
    r_typed =
        subst (λ X. Typed env X (call right.name (own_types d.params) (vars (length right.fields))) (own_type d)) (append_nil (field_types left ++ field_types right))
        (con_typed env d right (field_types left) [] h)

    l_plain : IsPlain env (call left.name (own_types d.params) (vars_above (length left.fields) (length right.fields)))
    l_plain = con_plain env d left (own_types d.params) (vars_above (length left.fields) (length right.fields)) g (vars_plain env (length left.fields) (length right.fields))

    r_plain : IsPlain env (call right.name (own_types d.params) (vars (length right.fields)))
    r_plain = con_plain env d right (own_types d.params) (vars (length right.fields)) h (vars_plain env (length right.fields) 0)

and_true : (a b : Boolean) → (a && b) ≡ true → a ≡ true
and_true true b e = refl
and_true false b e = cc

if_some : (b : Boolean) (F P : Term) (Q : Type 0) → (if b then Some F else None) ≡ Some P → (b ≡ true → F ≡ P → Q) → Q
if_some true F P Q e k = k refl (cc)
if_some false F P Q e k = cc

pub distinctness_typed : DistinctnessIsTyped
distinctness_typed env w left right P e = by (find_symbol env left) (find_symbol env right) refl refl e
  where
    both : (d e : DataDecl) (l r : Con) → find_symbol env left ≡ Some (ConOf d l) → find_symbol env right ≡ Some (ConOf e r) → bytes_eq d.name e.name ≡ true → IsClosedFormula env (distinctness_formula d l r)
    both d e l r p q n =
        let g : IsGoodCon env d l = symbol_good env w left (ConOf d l) p in
        let h : IsGoodCon env e r = symbol_good env w right (ConOf e r) q in
        let s : Some d ≡ Some e = sym g.decl ∙ ap (find_data env) (same_name d.name e.name n) ∙ h.decl in
        let t : d ≡ e = cc in
        distinct_closed env d l r g (subst (λ x. IsGoodCon env x r) (sym t) h)

    by : (o p : Option Symbol) → find_symbol env left ≡ o → find_symbol env right ≡ p → distinctness_of o p ≡ Some P → IsClosedFormula env P
    by (Some (ConOf d l)) (Some (ConOf f r)) p q h =
        if_some (bytes_eq d.name f.name && not (bytes_eq l.name r.name)) (distinctness_formula d l r) P (IsClosedFormula env P) h
        (λ b s. subst (IsClosedFormula env) s (both d f l r p q (and_true (bytes_eq d.name f.name) (not (bytes_eq l.name r.name)) b)))
    by None p a b h = cc
    by (Some (ConOf d l)) None a b h = cc
    by (Some (ConOf d l)) (Some (DesOf f c i g)) a b h = cc
    by (Some (ConOf d l)) (Some (ConstantOf sig o)) a b h = cc
    by (Some (ConOf d l)) (Some (DirectOf sig o body)) a b h = cc
    by (Some (ConOf d l)) (Some (RecursiveOf sig o k bodies)) a b h = cc
    by (Some (DesOf f c i g)) p a b h = cc
    by (Some (ConstantOf sig o)) p a b h = cc
    by (Some (DirectOf sig o body)) p a b h = cc
    by (Some (RecursiveOf sig o k bodies)) p a b h = cc
