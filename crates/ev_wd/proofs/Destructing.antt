-- What a destructor asks.
use Rattle.std.proofs.Common.{◌≡◌, ℕ, zero, suc, ◌+◌, ◌-◌, ◌≤◌, ◌<◌, Bool as Boolean, true, false, cond, List, [], ◌∷◌, ◌++◌, length, take, drop, reverse, map, get_or, Option, Some, None, ap, sym, ◌∙◌, subst, refl, arith, append_assoc}
use Rattle.std.specs.Prelude.{◌||◌, flat_map, bytes_eq, if◌then◌else◌}
use Rattle.std.specs.Option.{option_and_then}
use Rattle.std.specs.List.{enumerate_from, list_any, AllByRecursion}
use Rattle.std.proofs.lemmas.Bool.{true≢false, false≢true}
use Rattle.std.proofs.lemmas.List.{reverse-append}
use Rattle.ev_terms.specs.declared.types.Ty.{Ty, Data as DataType}
use Rattle.ev_terms.specs.declared.types.Tys.{Tys}
use Rattle.ev_terms.specs.declared.types.Sym.TheVariants.{User}
use Rattle.ev_terms.specs.Term.{Term, var, node, terms}
use Rattle.ev_terms.specs.Measures.{size, depth}
use Rattle.ev_terms.specs.Substitution.{shift, type_inst, type_at}
use Rattle.ev_terms.proofs.ListLaws.{size-shift, depth-shift}
use Rattle.ev_typing.specs.declared.typing.Entry.{Entry}
use Rattle.ev_typing.specs.declared.typing.Signature.{Signature}
use Rattle.ev_typing.specs.declared.typing.DataDecl.{DataDecl}
use Rattle.ev_typing.specs.declared.typing.Con.{Con}
use Rattle.ev_typing.specs.declared.typing.Var.{Var}
use Rattle.ev_typing.specs.Env.{Env, Name, Symbol, ConOf, DesOf, ConstantOf, DirectOf, RecursiveOf, look_up, symbols, con_symbols, find_symbol, declaring, field_types}
use Rattle.ev_typing.specs.WellFormed.{IsWellFormed}
use Rattle.ev_typing.proofs.Names.{all_append, drop_at, drop_all}
use Rattle.ev_typing.proofs.Entries.{find_symbol-declaring}
use Rattle.ev_forms.specs.Forms.{exists_all, eq, vars, call}
use Rattle.ev_wd.specs.Limits.{IsSmall, greatest_depth}
use Rattle.ev_wd.specs.Makers.{joined_after}
use Rattle.ev_wd.specs.WellDefined.{is_made_by, parts_of_condition, parts_of_destructor, parts_of_symbol}
use Rattle.ev_wd.specs.inner.Destructors.{destructed}
use Rattle.ev_wd.proofs.Small.{small_by}
use Rattle.ev_wd.proofs.Making.{and_right}
use Rattle.ev_wd.proofs.Rules.{append_nil}

-- The variables of a constructor.
vars_suc : (n : ℕ) → vars (suc n) ≡ var n ∷ vars n
vars_suc n = let e : n + 0 ≡ n = omega arith in ap (λ k. var k ∷ vars n) e

pub vars_step : (all new : List Term) (left next n : ℕ) (t : Term) → 0 < left → next ≡ left - 1 → t ≡ var next → new ≡ all ++ t ∷ [] →
    all ++ vars left ≡ vars n → new ++ vars next ≡ vars n
vars_step all new zero next n t h p q r e = absurd (omega (arith, h))
vars_step all new (suc left) next n t h p q r e =
    let k : next ≡ left = omega arith in
    ap (λ us. us ++ vars next) r ∙ append_assoc all (t ∷ []) (vars next)
    ∙ ap (λ u. all ++ u ∷ vars next) (q ∙ ap var k) ∙ ap (λ m. all ++ var left ∷ vars m) k
    ∙ ap (λ us. all ++ us) (sym (vars_suc left)) ∙ e

pub vars_end : (all : List Term) (left n : ℕ) → left ≡ 0 → all ++ vars left ≡ vars n → all ≡ vars n
vars_end all left n p e = sym (append_nil all) ∙ ap (λ k. all ++ vars k) (sym p) ∙ e

pub ruleset variables = (vars_step, vars_end)

-- The terms in reverse.
take_last : (ts : List Term) (i : ℕ) (t : Term) → t ≡ get_or ts i t → i < length ts → take (suc i) ts ≡ take i ts ++ t ∷ []
take_last [] i t e h = absurd (omega (arith, h))
take_last (u ∷ us) zero t e h = ap (λ v. v ∷ []) (sym e)
take_last (u ∷ us) (suc i) t e h = ap (λ vs. u ∷ vs) (take_last us i t e (omega (arith, h)))

pub reverse_step : (ts all new : List Term) (left next : ℕ) (t u : Term) → 0 < left → next ≡ left - 1 → t ≡ get_or ts next t → next < length ts → u ≡ t → new ≡ all ++ u ∷ [] →
    all ++ reverse (take left ts) ≡ reverse ts → new ++ reverse (take next ts) ≡ reverse ts
reverse_step ts all new zero next t u h p g k w r e = absurd (omega (arith, h))
reverse_step ts all new (suc left) next t u h p g k w r e =
    let m : next ≡ left = omega arith in
    let s : suc left ≡ suc next = omega arith in
    ap (λ us. us ++ reverse (take next ts)) (r ∙ ap (λ v. all ++ v ∷ []) w) ∙ append_assoc all (t ∷ []) (reverse (take next ts))
    ∙ ap (λ us. all ++ us) (sym (ap (λ j. reverse (take j ts)) s ∙ ap reverse (take_last ts next t g k) ∙ reverse-append (take next ts) (t ∷ []))) ∙ e

take_all : (ts : List Term) → take (length ts) ts ≡ ts
take_all [] = refl
take_all (t ∷ ts) = ap (λ us. t ∷ us) (take_all ts)

pub reverse_begin : (ts : List Term) (n : ℕ) → n ≡ length ts → [] ++ reverse (take n ts) ≡ reverse ts
reverse_begin ts n e = ap (λ k. reverse (take k ts)) e ∙ ap reverse (take_all ts)

pub reverse_end : (ts all : List Term) (left : ℕ) → left ≡ 0 → all ++ reverse (take left ts) ≡ reverse ts → all ≡ reverse ts
reverse_end ts all left p e = sym (append_nil all) ∙ ap (λ k. all ++ reverse (take k ts)) (sym p) ∙ e

pub ruleset backwards = (reverse_step, reverse_begin, reverse_end)

-- A constructor's application is no smaller than its parts.
exists_depth : (As : List Ty) (P : Term) → length As + depth P ≤ depth (exists_all As P)
exists_depth [] P = omega arith
exists_depth (A ∷ As) P = omega (arith, exists_depth As P)

exists_size : (As : List Ty) (P : Term) → size P ≤ size (exists_all As P)
exists_size [] P = omega arith
exists_size (A ∷ As) P = omega (arith, exists_size As P)

pub length-types : (θ : ℕ → Ty) (fs : List Var) → length (map (type_inst θ) (map (λ (f : Var). f.ty) fs)) ≡ length fs
length-types θ [] = refl
length-types θ (f ∷ fs) = ap suc (length-types θ fs)

pub made_fields : (d : Name) (c : Con) (As : Tys) (e : Term) → IsSmall (is_made_by d c As e) → length c.fields ≤ greatest_depth
made_fields d c As e h =
    let P = eq (DataType d As) (shift e 0 (length c.fields)) (call c.name As (vars (length c.fields))) in
    omega (arith, h.depth_fits, exists_depth (map (type_inst (type_at As)) (field_types c)) P, length-types (type_at As) c.fields)

pub made_value : (d : Name) (c : Con) (As : Tys) (e : Term) → IsSmall (is_made_by d c As e) → IsSmall e
made_value d c As e h =
    let P = eq (DataType d As) (shift e 0 (length c.fields)) (call c.name As (vars (length c.fields))) in
    let p : size e ≤ size P = omega (arith, size-shift e 0 (length c.fields)) in
    let q : depth e ≤ depth P = omega (arith, depth-shift e 0 (length c.fields)) in
    small_by (is_made_by d c As e) e
    (omega (arith, p, exists_size (map (type_inst (type_at As)) (field_types c)) P))
    (omega (arith, q, exists_depth (map (type_inst (type_at As)) (field_types c)) P)) h

pub made_is : (d : Name) (c : Con) (As : Tys) (e t made raised equal : Term) (n : ℕ) (A : Ty) → n ≡ length c.fields → raised ≡ shift e 0 n →
    made ≡ node (User c.name) As (terms (vars n)) → A ≡ DataType d As → equal ≡ eq A raised made →
    t ≡ exists_all (map (type_inst (type_at As)) (map (λ (f : Var). f.ty) c.fields)) equal → t ≡ is_made_by d c As e
made_is d c As e t made raised equal n A p q r s u v =
    let Bs = map (type_inst (type_at As)) (field_types c) in
    v ∙ ap (exists_all Bs) (
    u ∙ ap (λ B. eq B raised made) s ∙ ap (λ x. eq (DataType d As) x made) q ∙ ap (eq (DataType d As) (shift e 0 n)) r
    ∙ ap (λ k. eq (DataType d As) (shift e 0 k) (call c.name As (vars k))) p
    )

pub ruleset made = (made_fields, made_value, made_is)

-- The constructor that the destructor of a name takes apart.
field_found : (d : DataDecl) (c : Con) (n : Name) (i : ℕ) (fs : List Var) (rest : List (Name × Symbol)) → list_any (λ (f : Var). bytes_eq f.name n) fs ≡ true →
    destructed (look_up (map (λ (f : ℕ × Var). (f.1.name, DesOf d c f.0 f.1)) (enumerate_from i fs) ++ rest) n) ≡ Some c
field_found d c n i [] rest h = absurd (false≢true h)
field_found d c n i (f ∷ fs) rest h = by (bytes_eq f.name n) h (field_found d c n (i + 1) fs rest)
  where
    by : (b : Boolean) → (b || list_any (λ (g : Var). bytes_eq g.name n) fs) ≡ true →
        (list_any (λ (g : Var). bytes_eq g.name n) fs ≡ true → destructed (look_up (map (λ (g : ℕ × Var). (g.1.name, DesOf d c g.0 g.1)) (enumerate_from (i + 1) fs) ++ rest) n) ≡ Some c) →
        destructed (cond b (Some (DesOf d c i f)) (look_up (map (λ (g : ℕ × Var). (g.1.name, DesOf d c g.0 g.1)) (enumerate_from (i + 1) fs) ++ rest) n)) ≡ Some c
    by true e g = refl
    by false e g = g e

field_missed : (d : DataDecl) (c : Con) (n : Name) (i : ℕ) (fs : List Var) (rest : List (Name × Symbol)) → list_any (λ (f : Var). bytes_eq f.name n) fs ≡ false →
    look_up (map (λ (f : ℕ × Var). (f.1.name, DesOf d c f.0 f.1)) (enumerate_from i fs) ++ rest) n ≡ look_up rest n
field_missed d c n i [] rest h = refl
field_missed d c n i (f ∷ fs) rest h = by (bytes_eq f.name n) h (field_missed d c n (i + 1) fs rest)
  where
    by : (b : Boolean) → (b || list_any (λ (g : Var). bytes_eq g.name n) fs) ≡ false →
        (list_any (λ (g : Var). bytes_eq g.name n) fs ≡ false → look_up (map (λ (g : ℕ × Var). (g.1.name, DesOf d c g.0 g.1)) (enumerate_from (i + 1) fs) ++ rest) n ≡ look_up rest n) →
        cond b (Some (DesOf d c i f)) (look_up (map (λ (g : ℕ × Var). (g.1.name, DesOf d c g.0 g.1)) (enumerate_from (i + 1) fs) ++ rest) n) ≡ look_up rest n
    by true e g = absurd (true≢false e)
    by false e g = g e

pub con_named : (d : DataDecl) (cs : List Con) (i : ℕ) (n : Name) (c : Con) (o : Option Con) → c ≡ get_or cs i c → i < length cs → true ≡ bytes_eq c.name n →
    destructed (look_up (flat_map (con_symbols d) (drop i cs)) n) ≡ o → None ≡ o
con_named d cs i n c o p h e q =
    sym (ap (λ xs. destructed (look_up (flat_map (con_symbols d) xs) n)) (drop_at cs i c p h)
    ∙ ap (λ b. destructed (cond b (Some (ConOf d c)) (look_up (map (λ (f : ℕ × Var). (f.1.name, DesOf d c f.0 f.1)) (enumerate_from 0 c.fields) ++ flat_map (con_symbols d) (drop (i + 1) cs)) n))) (sym e)) ∙ q

pub con_found : (d : DataDecl) (cs : List Con) (i : ℕ) (n : Name) (c : Con) (o : Option Con) → c ≡ get_or cs i c → i < length cs → false ≡ bytes_eq c.name n →
    true ≡ list_any (λ (f : Var). bytes_eq f.name n) c.fields →
    destructed (look_up (flat_map (con_symbols d) (drop i cs)) n) ≡ o → Some c ≡ o
con_found d cs i n c o p h e g q =
    sym (ap (λ xs. destructed (look_up (flat_map (con_symbols d) xs) n)) (drop_at cs i c p h)
    ∙ ap (λ b. destructed (cond b (Some (ConOf d c)) (look_up (map (λ (f : ℕ × Var). (f.1.name, DesOf d c f.0 f.1)) (enumerate_from 0 c.fields) ++ flat_map (con_symbols d) (drop (i + 1) cs)) n))) (sym e)
    ∙ field_found d c n 0 c.fields (flat_map (con_symbols d) (drop (i + 1) cs)) (sym g)) ∙ q

pub con_missed : (d : DataDecl) (cs : List Con) (i : ℕ) (n : Name) (c : Con) (o : Option Con) → c ≡ get_or cs i c → i < length cs → false ≡ bytes_eq c.name n →
    false ≡ list_any (λ (f : Var). bytes_eq f.name n) c.fields →
    destructed (look_up (flat_map (con_symbols d) (drop i cs)) n) ≡ o → destructed (look_up (flat_map (con_symbols d) (drop (i + 1) cs)) n) ≡ o
con_missed d cs i n c o p h e g q =
    sym (ap (λ xs. destructed (look_up (flat_map (con_symbols d) xs) n)) (drop_at cs i c p h)
    ∙ ap (λ b. destructed (cond b (Some (ConOf d c)) (look_up (map (λ (f : ℕ × Var). (f.1.name, DesOf d c f.0 f.1)) (enumerate_from 0 c.fields) ++ flat_map (con_symbols d) (drop (i + 1) cs)) n))) (sym e)
    ∙ ap destructed (field_missed d c n 0 c.fields (flat_map (con_symbols d) (drop (i + 1) cs)) (sym g))) ∙ q

pub ruleset found = (con_named, con_found, con_missed, drop_at, drop_all)

-- A refusal of parts is one of equal parts.
pub refused_by : (P : Term) (Ps Qs : List Term) → Ps ≡ Qs → ¬ IsSmall (joined_after P Ps) → ¬ IsSmall (joined_after P Qs)
refused_by P Ps Qs e h g = h (subst (λ us. IsSmall (joined_after P us)) (sym e) g)

-- A symbol of a datatype asks what its destructor does.
parts_of_destructed : Name → Option Con → Tys → List Term → List Term
parts_of_destructed d None As ts = []
parts_of_destructed d (Some c) As ts = parts_of_destructor d c As ts

abbrev AreOf : DataDecl → List (Name × Symbol) → Type 0
AreOf d ps = AllByRecursion (λ (p : Name × Symbol). (As : Tys) (ts : List Term) → parts_of_symbol (Some p.1) As ts ≡ parts_of_destructed d.name (destructed (Some p.1)) As ts) ps

fields_are_of : (d : DataDecl) (c : Con) (i : ℕ) (fs : List Var) → AreOf d (map (λ (f : ℕ × Var). (f.1.name, DesOf d c f.0 f.1)) (enumerate_from i fs))
unfolding parts_of_destructed
fields_are_of d c i [] = tt
fields_are_of d c i (f ∷ fs) = (λ As ts. refl, fields_are_of d c (i + 1) fs)

cons_are_of : (d : DataDecl) (cs : List Con) → AreOf d (flat_map (con_symbols d) cs)
unfolding parts_of_destructed
cons_are_of d [] = tt
cons_are_of d (c ∷ cs) = (λ As ts. refl, all_append _ (map (λ (f : ℕ × Var). (f.1.name, DesOf d c f.0 f.1)) (enumerate_from 0 c.fields)) (flat_map (con_symbols d) cs) (fields_are_of d c 0 c.fields) (cons_are_of d cs))

look_up_of : (d : DataDecl) (ps : List (Name × Symbol)) (n : Name) (As : Tys) (ts : List Term) → AreOf d ps →
    parts_of_symbol (look_up ps n) As ts ≡ parts_of_destructed d.name (destructed (look_up ps n)) As ts
unfolding parts_of_destructed
look_up_of d [] n As ts h = refl
look_up_of d (p ∷ ps) n As ts h = by (bytes_eq p.0 n) (look_up_of d ps n As ts h.1)
  where
    by : (b : Boolean) → parts_of_symbol (look_up ps n) As ts ≡ parts_of_destructed d.name (destructed (look_up ps n)) As ts →
        parts_of_symbol (cond b (Some p.1) (look_up ps n)) As ts ≡ parts_of_destructed d.name (destructed (cond b (Some p.1) (look_up ps n))) As ts
    by true g = h.0 As ts
    by false g = g

pub asked_some : (d : DataDecl) (n : Name) (c : Con) (As : Tys) (ts : List Term) → Some c ≡ destructed (look_up (flat_map (con_symbols d) d.cons) n) →
    parts_of_destructor d.name c As ts ≡ parts_of_symbol (look_up (flat_map (con_symbols d) d.cons) n) As ts
unfolding parts_of_destructed
asked_some d n c As ts e =
    ap (λ o. parts_of_destructed d.name o As ts) e ∙ sym (look_up_of d (flat_map (con_symbols d) d.cons) n As ts (cons_are_of d d.cons))

pub asked_none : (d : DataDecl) (n : Name) (As : Tys) (ts : List Term) → None ≡ destructed (look_up (flat_map (con_symbols d) d.cons) n) →
    [] ≡ parts_of_symbol (look_up (flat_map (con_symbols d) d.cons) n) As ts
unfolding parts_of_destructed
asked_none d n As ts e =
    ap (λ o. parts_of_destructed d.name o As ts) e ∙ sym (look_up_of d (flat_map (con_symbols d) d.cons) n As ts (cons_are_of d d.cons))

pub ruleset asked = (asked_some, asked_none, refused_by)

pub one_child : (d : Name) (c : Con) (As : Tys) (ts : List Term) (e : Term) → ts ≡ e ∷ [] → is_made_by d c As e ∷ [] ≡ parts_of_destructor d c As ts
one_child d c As ts e p = ap (parts_of_destructor d c As) (sym p)

pub other_children : (d : Name) (c : Con) (As : Tys) (ts : List Term) → ((e : Term) → ts ≡ e ∷ [] → ⊥) → [] ≡ parts_of_destructor d c As ts
other_children d c As [] h = refl
other_children d c As (e ∷ []) h = absurd (h e refl)
other_children d c As (e ∷ f ∷ ts) h = refl

-- a refusal of what the constructor asks is one of the whole
pub made_refused : (P : Term) (d : Name) (c : Con) (As : Tys) (ts : List Term) (e : Term) → ts ≡ e ∷ [] → ¬ IsSmall (is_made_by d c As e) →
    ¬ IsSmall (joined_after P (parts_of_destructor d c As ts))
made_refused P d c As ts e p h g =
    h (and_right P (is_made_by d c As e) (subst (λ us. IsSmall (joined_after P us)) (sym (one_child d c As ts e p)) g))

pub ruleset children = (one_child, other_children, made_refused)

-- The symbol that an entry declares.
pub constant_named : (b : Boolean) (sig : Signature) (o : Option Term) (As : Tys) (ts : List Term) →
    (if b then parts_of_condition o As ts else []) ≡ parts_of_symbol (cond b (Some (ConstantOf sig o)) None) As ts
constant_named true sig o As ts = refl
constant_named false sig o As ts = refl

pub direct_named : (b : Boolean) (sig : Signature) (o : Option Term) (body : Term) (As : Tys) (ts : List Term) →
    (if b then parts_of_condition o As ts else []) ≡ parts_of_symbol (cond b (Some (DirectOf sig o body)) None) As ts
direct_named true sig o body As ts = refl
direct_named false sig o body As ts = refl

pub recursive_named : (b : Boolean) (sig : Signature) (o : Option Term) (place : ℕ) (bodies : List Term) (As : Tys) (ts : List Term) →
    (if b then parts_of_condition o As ts else []) ≡ parts_of_symbol (cond b (Some (RecursiveOf sig o place bodies)) None) As ts
recursive_named true sig o place bodies As ts = refl
recursive_named false sig o place bodies As ts = refl

pub ruleset named = (constant_named, direct_named, recursive_named, refused_by)

pub declared : (env : Env) (n : Name) (e : Entry) (As : Tys) (ts : List Term) → IsWellFormed env → Some e ≡ declaring env n →
    parts_of_symbol (look_up (symbols e) n) As ts ≡ parts_of_symbol (find_symbol env n) As ts
declared env n e As ts w p =
    ap (λ o. parts_of_symbol o As ts) (ap (option_and_then (λ d. look_up (symbols d) n)) p ∙ sym (find_symbol-declaring env n w))

pub undeclared : (env : Env) (n : Name) (As : Tys) (ts : List Term) → IsWellFormed env → None ≡ declaring env n → [] ≡ parts_of_symbol (find_symbol env n) As ts
undeclared env n As ts w p =
    ap (λ o. parts_of_symbol o As ts) (ap (option_and_then (λ d. look_up (symbols d) n)) p ∙ sym (find_symbol-declaring env n w))

pub ruleset entries = (declared, undeclared, refused_by)
