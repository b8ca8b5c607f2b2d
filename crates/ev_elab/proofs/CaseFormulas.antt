-- The bodies of a recursive operator's cases are typed by the operator's own numbers, where its signature is known.
use Rattle.std.specs.Prelude.{◌≡◌, ◌<◌, ◌≤◌, ◌+◌, ◌==◌, ◌++◌, ℕ, zero, suc, Bool as Boolean, true, false, cond, if◌then◌else◌, List, [], ◌∷◌, Option, Some, None, map, length, take, drop, zip, slice_get, find, option_map, bytes_eq, IsSomeAnd, refl}
use Rattle.std.specs.Option.{unwrap_or}
use Rattle.std.specs.List.{AllByRecursion, AllZip}
use Rattle.std.proofs.Common.{ap, sym, ◌∙◌, subst as transport, arith}
use Rattle.std.proofs.lemmas.Bool.{eqb-true}
use Rattle.std.proofs.lemmas.Option.{slice_get-map}
use Rattle.std.proofs.lemmas.List.{map-append, length-map}
use Rattle.ev_terms.specs.declared.types.Ty.{Ty, Int, Bool, Prop, Param, Data as DataType}
use Rattle.ev_terms.specs.declared.types.Tys.{Tys}
use Rattle.ev_terms.specs.declared.types.Sym.TheVariants.{User}
use Rattle.ev_terms.specs.Types.{pow, prod, type_list}
use Rattle.ev_terms.specs.Term.{Term}
use Rattle.ev_terms.specs.Measures.{type_params}
use Rattle.ev_terms.specs.Substitution.{type_inst, types_inst, type_at}
use Rattle.ev_terms.proofs.ListLaws.{type_inst-type_inst}
use Rattle.ev_syntax.specs.Raw.{Raw}
use Rattle.ev_theory_text.specs.declared.forms.RawCase.{RawCase}
use Rattle.ev_typing.specs.declared.typing.DataDecl.{DataDecl}
use Rattle.ev_typing.specs.declared.typing.Con.{Con}
use Rattle.ev_typing.specs.declared.typing.Var.{Var}
use Rattle.ev_typing.specs.declared.typing.Signature.{Signature}
use Rattle.ev_typing.specs.Env.{Env, Name, find_data, field_types, symbol_profile, con_profile}
use Rattle.ev_typing.specs.Typing.{IsProper, AreProper}
use Rattle.ev_typing.specs.WellFormed.{data_of, inductive_data, spliced, case_context, IsWellFormed}
use Rattle.ev_typing.proofs.Names.{all_append}
use Rattle.ev_typing.proofs.Proper.{proper_inst}
use Rattle.ev_typing.proofs.TypeInstances.{type_inst_below, type_list-types_inst, profile_bounded}
use Rattle.ev_typing.proofs.Wholes.{HasAll, proper_over}
use Rattle.ev_data.proofs.Environments.{IsGoodCon, found_data_good}
use Rattle.ev_ops.specs.Formulas.{IsFormula}
use Rattle.ev_elab.specs.Types.{Head, head_ids, own_list, var_types, signature_of, by_own, all_of}
use Rattle.ev_elab.specs.Formulas.{Formula, Induction, IsRead, inductive_place, type_of_place, induction_at, induction_on, con_of, case_var, case_vars, with_signature, case_formula, read_case, read_cases, read_recursion}
use Rattle.ev_elab.proofs.Gathering.{and_then_some, map_some, some_is, all_read}
use Rattle.ev_elab.proofs.TypedFormulas.{all_get, formula_read}
use Rattle.ev_elab.proofs.OwnFormulas.{own_formula}
use Rattle.ev_elab.proofs.GoodHeads.{own_context}

-- The datatype of a type.
pub data_is : (env : Env) (o : Option Ty) (p : DataDecl × Tys) → data_of env o ≡ Some p → (n : Name) × (o ≡ Some (DataType n p.1)) × (find_data env n ≡ Some p.0)
data_is env None p e = absurd (let q : ⊥ = cc in q)
data_is env (Some Int) p e = absurd (let q : ⊥ = cc in q)
data_is env (Some Bool) p e = absurd (let q : ⊥ = cc in q)
data_is env (Some Prop) p e = absurd (let q : ⊥ = cc in q)
data_is env (Some (Param i)) p e = absurd (let q : ⊥ = cc in q)
data_is env (Some (pow A)) p e = absurd (let q : ⊥ = cc in q)
data_is env (Some (prod A B)) p e = absurd (let q : ⊥ = cc in q)
data_is env (Some (DataType n As)) p e =
    let (d, f, g) = map_some (λ (x : DataDecl). (x, As)) (find_data env n) p e in
    (n, ap (λ (x : DataDecl × Tys). Some (DataType n x.1)) g, f ∙ ap (λ (x : DataDecl × Tys). Some x.0) g)

-- The parts of a spliced list.
all_take : {X : Type 0} (P : X → Type 0) (n : ℕ) (xs : List X) → AllByRecursion P xs → AllByRecursion P (take n xs)
all_take P zero xs h = tt
all_take P (suc n) [] h = tt
all_take P (suc n) (x ∷ xs) h = (h.0, all_take P n xs h.1)

all_drop : {X : Type 0} (P : X → Type 0) (n : ℕ) (xs : List X) → AllByRecursion P xs → AllByRecursion P (drop n xs)
all_drop P zero xs h = h
all_drop P (suc n) [] h = h
all_drop P (suc n) (x ∷ xs) h = all_drop P n xs h.1

map_take : {X Y : Type 0} (f : X → Y) (n : ℕ) (xs : List X) → map f (take n xs) ≡ take n (map f xs)
map_take f zero xs = refl
map_take f (suc n) [] = refl
map_take f (suc n) (x ∷ xs) = ap (λ ys. f x ∷ ys) (map_take f n xs)

map_drop : {X Y : Type 0} (f : X → Y) (n : ℕ) (xs : List X) → map f (drop n xs) ≡ drop n (map f xs)
map_drop f zero xs = refl
map_drop f (suc n) [] = refl
map_drop f (suc n) (x ∷ xs) = map_drop f n xs

map_spliced : {X Y : Type 0} (f : X → Y) (xs : List X) (place : ℕ) (ys : List X) → map f (spliced xs place ys) ≡ spliced (map f xs) place (map f ys)
map_spliced f xs place ys =
    map-append f (take place xs) (ys ++ drop (place + 1) xs)
    ∙ ap (λ zs. zs ++ map f (ys ++ drop (place + 1) xs)) (map_take f place xs)
    ∙ ap (λ zs. take place (map f xs) ++ zs) (map-append f ys (drop (place + 1) xs) ∙ ap (λ zs. map f ys ++ zs) (map_drop f (place + 1) xs))

all_spliced : {X : Type 0} (P : X → Type 0) (xs : List X) (place : ℕ) (ys : List X) → AllByRecursion P xs → AllByRecursion P ys → AllByRecursion P (spliced xs place ys)
all_spliced P xs place ys h g = all_append P (take place xs) (ys ++ drop (place + 1) xs) (all_take P place xs h) (all_append P ys (drop (place + 1) xs) g (all_drop P (place + 1) xs h))

-- Types put into the types of a constructor's fields, and others into these.
at_inst : (θ : ℕ → Ty) (Bs : List Ty) (i d : ℕ) → i < length Bs → unwrap_or (slice_get (map (type_inst θ) Bs) i) (Param d) ≡ type_inst θ (unwrap_or (slice_get Bs i) (Param d))
at_inst θ [] i d h = absurd (omega (arith, h))
at_inst θ (B ∷ Bs) zero d h = refl
at_inst θ (B ∷ Bs) (suc i) d h = at_inst θ Bs i d (omega (arith, h))

field_inst : (θ : ℕ → Ty) (As : Tys) (A : Ty) → type_params A ≤ length (type_list As) → type_inst θ (type_inst (type_at As) A) ≡ type_inst (type_at (types_inst θ As)) A
field_inst θ As A h =
    type_inst-type_inst θ (type_at As) A
    ∙ type_inst_below A (λ i. type_inst θ (type_at As i)) (type_at (types_inst θ As)) (λ i l.
    sym (ap (λ Bs. unwrap_or (slice_get Bs i) (Param i)) (type_list-types_inst θ As) ∙ at_inst θ (type_list As) i i (omega (arith, h, l))))

fields_inst : (θ : ℕ → Ty) (As : Tys) (n : ℕ) (Bs : List Ty) → n ≡ length (type_list As) → AllByRecursion (λ B. type_params B ≤ n) Bs →
    map (type_inst θ) (map (type_inst (type_at As)) Bs) ≡ map (type_inst (type_at (types_inst θ As))) Bs
fields_inst θ As n [] e h = refl
fields_inst θ As n (B ∷ Bs) e h =
    ap (λ C. C ∷ map (type_inst θ) (map (type_inst (type_at As)) Bs)) (field_inst θ As B (let l = h.0 in omega (arith, e, l)))
    ∙ ap (λ Cs. type_inst (type_at (types_inst θ As)) B ∷ Cs) (fields_inst θ As n Bs e h.1)

all_inst : (env : Env) (As : Tys) (Bs : List Ty) → AreProper env As → AllByRecursion (IsProper env) Bs → AllByRecursion (IsProper env) (map (type_inst (type_at As)) Bs)
all_inst env As [] g h = tt
all_inst env As (B ∷ Bs) g h = (proper_inst env As B g h.0, all_inst env As Bs g h.1)

all_proper_over : (e f : Env) → HasAll e f → (Bs : List Ty) → AllByRecursion (IsProper e) Bs → AllByRecursion (IsProper f) Bs
all_proper_over e f k [] h = tt
all_proper_over e f k (B ∷ Bs) h = (proper_over e f k B h.0, all_proper_over e f k Bs h.1)

-- The variables of a case.
zipped_types : (As : Tys) (ns : List Name) (Fs : List Ty) → length ns ≡ length Fs → var_types (map (case_var As) (zip ns Fs)) ≡ map (type_inst (type_at As)) Fs
zipped_types As [] [] e = refl
zipped_types As [] (F ∷ Fs) e = absurd (omega (arith, e))
zipped_types As (n ∷ ns) [] e = absurd (omega (arith, e))
zipped_types As (n ∷ ns) (F ∷ Fs) e = ap (λ Gs. type_inst (type_at As) F ∷ Gs) (zipped_types As ns Fs (omega (arith, e)))

case_vars_typed : (i : Induction) (ns : List Name) (c : Con) (vars : List Var) → case_vars i ns c ≡ Some vars → var_types vars ≡ map (type_inst (type_at i.types)) (field_types c)
case_vars_typed i ns c vars e = by (length ns == length c.fields) refl e
  where
    by : (b : Boolean) → (length ns == length c.fields) ≡ b → ◌≡◌ {A = Option (List Var)} (if b then Some (map (case_var i.types) (zip ns (field_types c))) else None) (Some vars) →
        var_types vars ≡ map (type_inst (type_at i.types)) (field_types c)
    by true f g =
        ap var_types (sym (some_is (map (case_var i.types) (zip ns (field_types c))) vars g))
        ∙ zipped_types i.types ns (field_types c) (eqb-true (length ns) (length c.fields) f ∙ sym (length-map c.fields (λ (v : Var). v.ty)))
    by false f g = absurd (let q : ⊥ = cc in q)

find_all : {X : Type 0} (P : X → Type 0) (t : X → Boolean) (xs : List X) (x : X) → AllByRecursion P xs → find t xs ≡ Some x → P x
find_all P t [] x h e = absurd (let q : ⊥ = cc in q)
find_all P t (y ∷ xs) x h e = by (t y) e (find_all P t xs x h.1)
  where
    by : (b : Boolean) → cond b (Some y) (find t xs) ≡ Some x → (find t xs ≡ Some x → P x) → P x
    by true g r = transport P (some_is y x g) h.0
    by false g r = r g

module _ (params : List Name) (env : Env) (w : IsWellFormed env) (k : Head) (p : AllByRecursion (IsProper env) (var_types k.vars)) where
  abbrev sig : Signature
  sig = signature_of (length params) k

  abbrev θ : ℕ → Ty
  θ = type_at (own_list (length params) (head_ids k))

  -- The inductive argument.
  pub record IsInduction (i : Induction) : Type 0 where
    pub data_name : Name
    pub at : slice_get (var_types k.vars) i.place ≡ Some (DataType data_name i.types)
    pub found : find_data env data_name ≡ Some i.decl

  induction_read : (by : Name) (i : Induction) → induction_on env k.vars by ≡ Some i → IsInduction i
  induction_read by i e =
      let (place, f, g) = and_then_some (induction_at env k.vars) (inductive_place k.vars by) i e in
      let (d, q, r) = map_some (λ (x : DataDecl × Tys). record { place = place; decl = x.0; types = x.1 }) (data_of env (type_of_place k.vars place)) i g in
      let (n, s, t) = data_is env (type_of_place k.vars place) d q in
      transport IsInduction r (record { data_name = n; at = slice_get-map (λ (v : Var). v.ty) k.vars place ∙ s; found = t })

  -- by the operator's own numbers
  pub inductive_is : (i : Induction) → IsInduction i → inductive_data env sig i.place ≡ Some (i.decl, types_inst θ i.types)
  inductive_is i h =
      ap (λ Bs. data_of env (slice_get Bs i.place)) (own_context (length params) k)
      ∙ ap (data_of env) (slice_get-map (type_inst θ) (var_types k.vars) i.place ∙ ap (option_map (type_inst θ)) h.at)
      ∙ ap (option_map (λ (d : DataDecl). (d, types_inst θ i.types))) h.found

  -- A case.
  pub record IsCaseRead (i : Induction) (x : Con × Formula) : Type 0 where
    pub good : IsGoodCon env i.decl x.0
    pub vars : List Var
    pub vars_are : var_types vars ≡ map (type_inst (type_at i.types)) (field_types x.0)
    pub body : Raw
    pub is : x.1 ≡ case_formula (length params) env k i body vars

  case_read : (i : Induction) → IsInduction i → (raw : RawCase) (x : Con × Formula) → read_case (length params) env k i raw ≡ Some x → IsCaseRead i x
  case_read i h raw x e =
      let (c, f, g) = and_then_some (λ (c : Con). option_map (λ vars. (c, case_formula (length params) env k i raw.body vars)) (case_vars i raw.vars c)) (con_of i.decl raw.con) x e in
      let (vars, q, r) = map_some (λ vars. (c, case_formula (length params) env k i raw.body vars)) (case_vars i raw.vars c) x g in
      transport (IsCaseRead i) r (record {
        good = find_all (IsGoodCon env i.decl) (λ (d : Con). bytes_eq d.name raw.con) i.decl.cons c (found_data_good env w h.data_name i.decl h.found).1 f;
        vars = vars;
        vars_are = case_vars_typed i raw.vars c vars q;
        body = raw.body;
        is = refl;
      })

  each_case : (i : Induction) → IsInduction i → (raws : List RawCase) (xs : List (Con × Formula)) → AllZip (λ raw x. read_case (length params) env k i raw ≡ Some x) raws xs → AllByRecursion (IsCaseRead i) xs
  each_case i h [] [] z = tt
  each_case i h [] (x ∷ xs) z = absurd z
  each_case i h (raw ∷ raws) [] z = absurd z
  each_case i h (raw ∷ raws) (x ∷ xs) z = (case_read i h raw x z.0, each_case i h raws xs z.1)

  pub record AreCasesRead (i : Induction) (xs : List (Con × Formula)) : Type 0 where
    pub induction : IsInduction i
    pub each : AllByRecursion (IsCaseRead i) xs

  pub cases_read : (by : Name) (raws : List RawCase) (i : Induction) (xs : List (Con × Formula)) → read_recursion (length params) env k by raws ≡ Some (i, xs) → AreCasesRead i xs
  cases_read by raws i xs e =
      let (j, f, g) = and_then_some (read_cases (length params) env k raws) (induction_on env k.vars by) (i, xs) e in
      let (ys, q, r) = map_some (λ (zs : List (Con × Formula)). (j, zs)) (all_of (map (read_case (length params) env k j) raws)) (i, xs) g in
      let h = induction_read by j f in
      transport (λ (z : Induction × List (Con × Formula)). AreCasesRead z.0 z.1) r (record { induction = h; each = each_case j h raws ys (all_read (read_case (length params) env k j) raws ys q) })

  -- Its body.
  module _ (i : Induction) (h : IsInduction i) where
    abbrev e₁ : Env
    e₁ = with_signature (length params) env k

    proper_types : IsProper env (DataType h.data_name i.types)
    proper_types = all_get (IsProper env) (var_types k.vars) i.place (DataType h.data_name i.types) p h.at

    types_count : i.decl.params ≡ length (type_list i.types)
    types_count = sym (transport (λ o. IsSomeAnd o (λ (d : DataDecl). length (type_list i.types) ≡ d.params)) h.found proper_types.0)

    pub body_formula : HasAll env e₁ → IsWellFormed e₁ → (x : Con × Formula) → IsCaseRead i x → (t : Term) → IsRead params x.1 t →
        IsFormula e₁ (case_context sig i.place (types_inst θ i.types) x.0) sig.result (by_own (length params) k t)
    body_formula l w₁ x c t r =
        let C = var_types (spliced k.vars i.place c.vars) in
        let s : C ≡ spliced (var_types k.vars) i.place (map (type_inst (type_at i.types)) (field_types x.0)) =
        map_spliced (λ (v : Var). v.ty) k.vars i.place c.vars ∙ ap (spliced (var_types k.vars) i.place) c.vars_are in
        let q : AllByRecursion (IsProper e₁) C =
        transport (AllByRecursion (IsProper e₁)) (sym s)
        (all_spliced (IsProper e₁) (var_types k.vars) i.place (map (type_inst (type_at i.types)) (field_types x.0)) (all_proper_over env e₁ l (var_types k.vars) p)
        (all_proper_over env e₁ l (map (type_inst (type_at i.types)) (field_types x.0)) (all_inst env i.types (field_types x.0) proper_types.1 c.good.proper))) in
        let b = (profile_bounded env w (User x.0.name) (con_profile i.decl x.0) (ap (option_map symbol_profile) c.good.con)).args in
        let u : map (type_inst θ) C ≡ case_context sig i.place (types_inst θ i.types) x.0 =
        ap (map (type_inst θ)) s ∙ map_spliced (type_inst θ) (var_types k.vars) i.place (map (type_inst (type_at i.types)) (field_types x.0))
        ∙ ap (λ Bs. spliced Bs i.place (map (type_inst θ) (map (type_inst (type_at i.types)) (field_types x.0)))) (sym (own_context (length params) k))
        ∙ ap (spliced (type_list sig.args) i.place) (fields_inst θ i.types i.decl.params (field_types x.0) types_count b) in
        transport (λ D. IsFormula e₁ D sig.result (by_own (length params) k t)) u
        (own_formula (length params) (head_ids k) e₁ w₁ C k.result t (formula_read params e₁ (spliced k.vars i.place c.vars) k.result c.body t q (transport (λ f. IsRead params f t) c.is r)))
