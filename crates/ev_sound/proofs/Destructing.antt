-- A destructor on its own constructor, and a recursive operator on a constructor: the equations of these nodes.
use Rattle.std.specs.Prelude.{◌≡◌, ◌+◌, ◌-◌, ◌++◌, ℕ, zero, suc, List, [], ◌∷◌, Some, map, length, reverse, slice_get, option_map, refl}
use Rattle.std.specs.Option.{unwrap_or}
use Rattle.std.specs.List.{AllByRecursion}
use Rattle.std.proofs.Common.{ap, sym, ◌∙◌, subst as transport, arith, append_assoc}
use Rattle.std.proofs.lemmas.List.{length-map, length-append}
use Rattle.ev_terms.specs.declared.types.Ty.{Ty, Param, Data as DataType}
use Rattle.ev_terms.specs.declared.types.Tys.{Tys}
use Rattle.ev_terms.specs.declared.types.Sym.TheVariants.{User}
use Rattle.ev_terms.specs.Types.{type_list}
use Rattle.ev_terms.specs.Term.{Term, Terms, var, node, nil, cons, terms, term_list, terms-term_list}
use Rattle.ev_terms.specs.Substitution.{lifts, insts, entry, fill, retypes, type_inst, types_inst, type_at}
use Rattle.ev_terms.proofs.AnyLaws.{fill_given}
use Rattle.ev_forms.specs.Forms.{eq, equation, vars, call}
use Rattle.ev_typing.specs.declared.typing.Sequent.{Sequent}
use Rattle.ev_typing.specs.declared.typing.DataDecl.{DataDecl}
use Rattle.ev_typing.specs.declared.typing.Con.{Con}
use Rattle.ev_typing.specs.declared.typing.Var.{Var}
use Rattle.ev_typing.specs.TypeLists.{own_types}
use Rattle.ev_typing.specs.Env.{Env, Name, ConOf, DesOf, own_type, field_types, find_symbol}
use Rattle.ev_typing.specs.Parts.{base}
use Rattle.ev_typing.specs.Typing.{IsProper, AreProper, Typed, AreTyped, IsSequent}
use Rattle.ev_typing.specs.WellFormed.{IsWellFormed}
use Rattle.ev_typing.specs.Sequents.{◌⊢◌}
use Rattle.ev_typing.proofs.Checks.{typed_length}
use Rattle.ev_typing.proofs.Signatures.{own_at, own_type_at}
use Rattle.ev_data.specs.Closed.{destructor_formula, destructor_of}
use Rattle.ev_data.proofs.Environments.{IsGoodCon}
use Rattle.ev_data.proofs.Formulas.{field_at}
use Rattle.ev_data.proofs.Recursions.{fields_proper}
use Rattle.ev_kernel.specs.Derivable.{Derivable}
use Rattle.ev_congruence.proofs.Terms.{equation_eq, proper_list}
use Rattle.ev_sound.proofs.Places.{user_binds}
use Rattle.ev_sound.proofs.Rows.{U, US}
use Rattle.ev_sound.proofs.Rules.{filled, filled_eq, rule_cited}
use Rattle.ev_sound.proofs.ClosedRows.{destructor_established}
use Rattle.ev_sound.proofs.Named.{IsField, all_slice, symbol_named, con_good, typed_call}

-- the type at a number is proper
pub type_at_proper : (env : Env) (As : Tys) → AreProper env As → (i : ℕ) → IsProper env (type_at As i)
type_at_proper env As p i = by (type_list As) (proper_list env As p) i
  where
    by : (Bs : List Ty) → AllByRecursion (IsProper env) Bs → (j : ℕ) → IsProper env (unwrap_or (slice_get Bs j) (Param i))
    by [] q j = tt
    by (B ∷ Bs) q zero = q.0
    by (B ∷ Bs) q (suc j) = by Bs q.1 j

-- Variables are given back.
get_behind : (xs : List Term) (x : Term) (ys : List Term) → slice_get (xs ++ x ∷ ys) (length xs) ≡ Some x
get_behind [] x ys = refl
get_behind (z ∷ xs) x ys = get_behind xs x ys

module _ (θ : ℕ → Ty) (ts : List Term) where
  filled_list : (us : List Term) → insts (entry (reverse ts)) (retypes θ (terms us)) ≡ terms (map (filled θ ts) us)
  filled_list [] = refl
  filled_list (u ∷ us) = ap (cons (filled θ ts u)) (filled_list us)

  pub filled_call : (g : Name) (Xs : Tys) (us : List Term) → filled θ ts (call g Xs us) ≡ call g (types_inst θ Xs) (map (filled θ ts) us)
  filled_call g Xs us =
      ap (λ k. node (User g) (types_inst θ Xs) (insts (lifts k (entry (reverse ts))) (retypes θ (terms us)))) (user_binds g) ∙ ap (node (User g) (types_inst θ Xs)) (filled_list us)

  filled_from : (us before : List Term) → before ++ us ≡ ts → map (filled θ ts) (vars (length us)) ≡ us
  filled_from [] before e = refl
  filled_from (x ∷ us) before e =
      let n : length ts - 1 - length before ≡ length us + 0 = omega (arith, ap length e, length-append before (x ∷ us)) in
      let head : filled θ ts (var (length us + 0)) ≡ x =
      ap (λ j. fill (var j) ts) (sym n) ∙ fill_given ts (length before) x (transport (λ z. slice_get z (length before) ≡ Some x) e (get_behind before x us)) in
      ap (λ y. y ∷ map (filled θ ts) (vars (length us))) head ∙ ap (λ ys. x ∷ ys) (filled_from us (before ++ x ∷ []) (append_assoc before (x ∷ []) us ∙ e))

  pub filled_vars : (n : ℕ) → n ≡ length ts → map (filled θ ts) (vars n) ≡ ts
  filled_vars n e = ap (λ k. map (filled θ ts) (vars k)) e ∙ filled_from ts [] refl

-- two types of one datatype
pub data_types : (n : Name) (As Cs : Tys) → DataType n As ≡ DataType n Cs → As ≡ Cs
data_types n As Cs e = cc

-- the instance of a destructor's equation
destructor_filled : (env : Env) (d : DataDecl) (c : Con) (i : ℕ) (f : Var) (As : Tys) (ts : List Term) (x : Term) → length (type_list As) ≡ d.params → AreProper env As → IsProper env f.ty →
    length c.fields ≡ length ts → slice_get ts i ≡ Some x →
    filled (type_at As) ts (eq f.ty (call f.name (own_types d.params) (call c.name (own_types d.params) (vars (length c.fields)) ∷ [])) (var (length c.fields - (i + 1))))
    ≡ equation (type_inst (type_at As) f.ty) (call f.name As (call c.name As ts ∷ [])) x
destructor_filled env d c i f As ts x n p q m e =
    let θ = type_at As in
    let own : types_inst θ (own_types d.params) ≡ As = own_at As d.params n in
    let made : filled θ ts (call c.name (own_types d.params) (vars (length c.fields))) ≡ call c.name As ts =
    filled_call θ ts c.name (own_types d.params) (vars (length c.fields)) ∙ ap (λ Xs. call c.name Xs (map (filled θ ts) (vars (length c.fields)))) own ∙ ap (call c.name As) (filled_vars θ ts (length c.fields) m) in
    let taken : filled θ ts (call f.name (own_types d.params) (call c.name (own_types d.params) (vars (length c.fields)) ∷ [])) ≡ call f.name As (call c.name As ts ∷ []) =
    filled_call θ ts f.name (own_types d.params) (call c.name (own_types d.params) (vars (length c.fields)) ∷ [])
    ∙ ap (λ Xs. call f.name Xs (filled θ ts (call c.name (own_types d.params) (vars (length c.fields))) ∷ [])) own ∙ ap (λ y. call f.name As (y ∷ [])) made in
    let k : length c.fields - (i + 1) ≡ length ts - 1 - i = omega (arith, m) in
    let value : filled θ ts (var (length c.fields - (i + 1))) ≡ x = ap (λ j. fill (var j) ts) k ∙ fill_given ts i x e in
    let proper : IsProper env (type_inst θ f.ty) = (fields_proper env As (f.ty ∷ []) p (q, tt)).0 in
    filled_eq θ ts f.ty (call f.name (own_types d.params) (call c.name (own_types d.params) (vars (length c.fields)) ∷ [])) (var (length c.fields - (i + 1)))
    ∙ ap (λ y. eq (type_inst θ f.ty) y (filled θ ts (var (length c.fields - (i + 1))))) taken
    ∙ ap (eq (type_inst θ f.ty) (call f.name As (call c.name As ts ∷ []))) value
    ∙ equation_eq (type_inst θ f.ty) (call f.name As (call c.name As ts ∷ [])) x (λ z. transport (IsProper env) z proper)

-- What the node of a destructor on its constructor is made of.
pub record IsDestructed (env : Env) (D : List Ty) (n : Name) (d : DataDecl) (c : Con) (i : ℕ) (f : Var) (As Cs : Tys) (xs : Terms) (B : Ty) : Type 0 where
  pub field : IsField env n d c i f
  pub good : IsGoodCon env d c
  pub count : length (type_list As) ≡ d.params
  pub proper : AreProper env As
  pub types : As ≡ Cs
  pub arguments : AreTyped env D xs (map (type_inst (type_at As)) (field_types c))
  pub result : B ≡ type_inst (type_at As) f.ty

pub is_destructed : (env : Env) → IsWellFormed env → (D : List Ty) (n : Name) (d : DataDecl) (c : Con) (i : ℕ) (f : Var) (As Cs : Tys) (xs : Terms) (B : Ty) → find_symbol env n ≡ Some (DesOf d c i f) →
    Typed env D (node (User n) As (cons (node (User c.name) Cs xs) nil)) B → IsDestructed env D n d c i f As Cs xs B
is_destructed env w D n d c i f As Cs xs B e h =
    let m : IsField env n d c i f = symbol_named env n (DesOf d c i f) e in
    let g = con_good env w d c m.con m.decl in
    let outer = typed_call env D n As (cons (node (User c.name) Cs xs) nil) B (DesOf d c i f) e h in
    let inner = typed_call env D c.name Cs xs (type_inst (type_at As) (own_type d)) (ConOf d c) g.con outer.children.0 in
    let same : As ≡ Cs = data_types d.name As Cs (sym (own_type_at As d outer.count) ∙ inner.result ∙ own_type_at Cs d inner.count) in record {
      field = m;
      good = g;
      count = outer.count;
      proper = outer.proper;
      types = same;
      arguments = transport (λ Xs. AreTyped env D xs (map (type_inst (type_at Xs)) (field_types c))) (sym same) inner.children;
      result = outer.result;
    }

module _ (env : Env) (u : IsWellFormed env) where
  pub destructed_equal : (W : Sequent) (n : Name) (d : DataDecl) (c : Con) (i : ℕ) (f : Var) (As Cs : Tys) (xs : Terms) (x : Term) (B : Ty) → IsSequent env W → find_symbol env n ≡ Some (DesOf d c i f) →
      slice_get (term_list xs) i ≡ Some x → Typed env (type_list W.context) (node (User n) As (cons (node (User c.name) Cs xs) nil)) B →
      Derivable (base env) (US env W ⊢ U env (equation B (node (User n) As (cons (node (User c.name) Cs xs) nil)) x))
  destructed_equal W n d c i f As Cs xs x B h e k t =
      let s = is_destructed env u (type_list W.context) n d c i f As Cs xs B e t in
      let ts = term_list xs in
      let args : AreTyped env (type_list W.context) (terms ts) (map (type_inst (type_at As)) (field_types c)) =
      transport (λ us. AreTyped env (type_list W.context) us (map (type_inst (type_at As)) (field_types c))) (sym (terms-term_list xs)) s.arguments in
      let m : length c.fields ≡ length ts = sym (typed_length env (type_list W.context) ts (map (type_inst (type_at As)) (field_types c)) args
      ∙ length-map (field_types c) (type_inst (type_at As)) ∙ length-map c.fields (λ (v : Var). v.ty)) in
      let q : IsProper env f.ty = all_slice (IsProper env) (field_types c) i f.ty s.good.proper (field_at c.fields i f s.field.field) in
      let is : equation (type_inst (type_at As) f.ty) (call f.name As (call c.name As ts ∷ [])) x ≡ equation B (node (User n) As (cons (node (User c.name) Cs xs) nil)) x =
      ap (λ X. equation X (call f.name As (call c.name As ts ∷ [])) x) (sym s.result)
      ∙ ap (λ m'. equation B (call m' As (call c.name As ts ∷ [])) x) s.field.named
      ∙ ap (λ us. equation B (node (User n) As (cons (node (User c.name) As us) nil)) x) (terms-term_list xs)
      ∙ ap (λ Xs. equation B (node (User n) As (cons (node (User c.name) Xs xs) nil)) x) s.types in
      transport (λ P. Derivable (base env) (US env W ⊢ U env P)) (destructor_filled env d c i f As ts x s.count s.proper q m k ∙ is)
      (rule_cited env u W (field_types c)
      (eq f.ty (call f.name (own_types d.params) (call c.name (own_types d.params) (vars (length c.fields)) ∷ [])) (var (length c.fields - (i + 1)))) (type_at As) ts h (type_at_proper env As s.proper) args
      (destructor_established env u c.name (suc i) (destructor_formula d c i f)
      (ap (λ o. destructor_of o (suc i)) s.good.con ∙ ap (option_map (destructor_formula d c i)) s.field.field)))
