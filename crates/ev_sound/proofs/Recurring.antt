-- A recursive operator on a constructor: the equation of this node.
use Rattle.std.specs.Prelude.{◌≡◌, ◌+◌, ◌++◌, ◌≤◌, ℕ, List, [], ◌∷◌, Option, Some, map, length, take, drop, slice_get, option_map, refl}
use Rattle.std.specs.List.{AllByRecursion}
use Rattle.std.proofs.Common.{ap, sym, ◌∙◌, subst as transport, arith}
use Rattle.std.proofs.lemmas.List.{map-append, take-map, length-map}
use Rattle.ev_terms.specs.declared.types.Ty.{Ty, Data as DataType}
use Rattle.ev_terms.specs.declared.types.Tys.{Tys}
use Rattle.ev_terms.specs.declared.types.Sym.TheVariants.{User}
use Rattle.ev_terms.specs.Types.{type_list}
use Rattle.ev_terms.specs.Term.{Term, Terms, node, terms, term_list, terms-term_list}
use Rattle.ev_terms.specs.Measures.{type_params}
use Rattle.ev_terms.specs.Substitution.{fill, instance, type_inst, types_inst, type_at}
use Rattle.ev_terms.proofs.AnyLaws.{type_inst-list}
use Rattle.ev_forms.specs.Forms.{equation, vars, call}
use Rattle.ev_typing.specs.declared.typing.Sequent.{Sequent}
use Rattle.ev_typing.specs.declared.typing.Signature.{Signature}
use Rattle.ev_typing.specs.declared.typing.DataDecl.{DataDecl}
use Rattle.ev_typing.specs.declared.typing.Con.{Con}
use Rattle.ev_typing.specs.declared.typing.Var.{Var}
use Rattle.ev_typing.specs.TypeLists.{own_types}
use Rattle.ev_typing.specs.Env.{Env, Name, ConOf, RecursiveOf, look_up, field_types, con_profile, symbol_profile, find_symbol}
use Rattle.ev_typing.specs.Parts.{base}
use Rattle.ev_typing.specs.Typing.{AreProper, Typed, AreTyped, IsSequent}
use Rattle.ev_typing.specs.WellFormed.{IsWellFormed, inductive_data, spliced, case_context}
use Rattle.ev_typing.specs.Sequents.{◌⊢◌}
use Rattle.ev_typing.proofs.Checks.{typed_length}
use Rattle.ev_typing.proofs.Signatures.{own_at, own_type_at}
use Rattle.ev_typing.proofs.TypeInstances.{type_list-types_inst, profile_bounded}
use Rattle.ev_data.specs.Closed.{case_arguments, recursion_formula, recursion_of, cases_by_name}
use Rattle.ev_data.proofs.Environments.{IsGoodCon, look_up_all, found_data_good}
use Rattle.ev_data.proofs.Cases.{inductive_type, found_formula}
use Rattle.ev_kernel.specs.Derivable.{Derivable}
use Rattle.ev_sound.proofs.Rows.{U, US}
use Rattle.ev_sound.proofs.Rules.{filled, filled_equation, rule_cited}
use Rattle.ev_sound.proofs.ClosedRows.{recursion_established}
use Rattle.ev_sound.proofs.Named.{symbol_named, typed_call}
use Rattle.ev_sound.proofs.Destructing.{type_at_proper, filled_call, filled_vars, data_types}
use Rattle.ev_sound.proofs.Splicing.{middle_is, put_back, drop_map, spliced_map, spliced_typed, typed_at}

-- The arguments of a case, once its variables are put in.
module _ (θ : ℕ → Ty) (place : ℕ) (args us : List Term) where
  abbrev all : List Term
  all = spliced args place us

  abbrev F : Term → Term
  F = filled θ all

  arguments_filled : (m n : ℕ) (k : Con) (Ds : Tys) → m ≡ length us → n ≡ length all → slice_get args place ≡ Some (call k.name (types_inst θ Ds) us) →
      map F (case_arguments place m k Ds (vars n)) ≡ args
  arguments_filled m n k Ds q r e =
      let vs = vars n in
      let given : map F vs ≡ all = filled_vars θ all n r in
      let inner : F (call k.name Ds (take m (drop place vs))) ≡ call k.name (types_inst θ Ds) us =
      filled_call θ all k.name Ds (take m (drop place vs))
      ∙ ap (call k.name (types_inst θ Ds))
      (sym (take-map F m (drop place vs)) ∙ ap (take m) (sym (drop_map F place vs)) ∙ ap (λ ts. take m (drop place ts)) given ∙ ap (λ j. take j (drop place all)) q
      ∙ middle_is args us place (call k.name (types_inst θ Ds) us) e) in
      map-append F (take place vs) (call k.name Ds (take m (drop place vs)) ∷ drop (place + m) vs)
      ∙ ap (λ ts. ts ++ (F (call k.name Ds (take m (drop place vs))) ∷ map F (drop (place + m) vs))) (sym (take-map F place vs) ∙ ap (take place) given)
      ∙ ap (λ t. take place all ++ (t ∷ map F (drop (place + m) vs))) inner
      ∙ ap (λ ts. take place all ++ (call k.name (types_inst θ Ds) us ∷ ts)) (sym (drop_map F (place + m) vs) ∙ ap (drop (place + m)) given ∙ ap (λ j. drop (place + j) all) q)
      ∙ put_back args us place (call k.name (types_inst θ Ds) us) e

-- the instance of a case's equation
recursion_filled : (env : Env) (sig : Signature) (place : ℕ) (As Ds : Tys) (k : Con) (body : Term) (args us : List Term) → length (type_list As) ≡ sig.params → AreProper env As →
    length k.fields ≡ length us → length (case_context sig place Ds k) ≡ length (spliced args place us) → slice_get args place ≡ Some (call k.name (types_inst (type_at As) Ds) us) →
    filled (type_at As) (spliced args place us)
    (equation sig.result (call sig.name (own_types sig.params) (case_arguments place (length k.fields) k Ds (vars (length (case_context sig place Ds k))))) body)
    ≡ equation (type_inst (type_at As) sig.result) (call sig.name As args) (fill (instance body As) (spliced args place us))
recursion_filled env sig place As Ds k body args us n p q r e =
    let θ = type_at As in
    let ts = spliced args place us in
    let cs = case_arguments place (length k.fields) k Ds (vars (length (case_context sig place Ds k))) in
    filled_equation θ ts env (type_at_proper env As p) sig.result (call sig.name (own_types sig.params) cs) body
    ∙ ap (λ t. equation (type_inst θ sig.result) t (fill (instance body As) ts))
    (filled_call θ ts sig.name (own_types sig.params) cs ∙ ap (λ Xs. call sig.name Xs (map (filled θ ts) cs)) (own_at As sig.params n)
    ∙ ap (call sig.name As) (arguments_filled θ place args us (length k.fields) (length (case_context sig place Ds k)) k Ds q r e))

-- The constructor of a case that is found.
case_named : (env : Env) (d : DataDecl) (bodies : List Term) (c : Name) (k : Con) (body : Term) → AllByRecursion (IsGoodCon env d) d.cons → look_up (cases_by_name d.cons bodies) c ≡ Some (k, body) →
    (k.name ≡ c) × IsGoodCon env d k
case_named env d bodies c k body g e = look_up_all (λ m (x : Con × Term). (x.0.name ≡ m) × IsGoodCon env d x.0) (cases_by_name d.cons bodies) c (k, body) (by d.cons bodies g) e
  where
    by : (cs : List Con) (bs : List Term) → AllByRecursion (IsGoodCon env d) cs → AllByRecursion (λ (x : Name × (Con × Term)). (x.1.0.name ≡ x.0) × IsGoodCon env d x.1.0) (cases_by_name cs bs)
    by [] bs h = tt
    by (x ∷ cs) [] h = tt
    by (x ∷ cs) (b ∷ bs) h = ((refl, h.0), by cs bs h.1)

-- types put into a constructor's fields one after the other
fields_at : (As Ds : Tys) (Bs : List Ty) (n : ℕ) → n ≡ length (type_list Ds) → AllByRecursion (λ A. type_params A ≤ n) Bs → map (type_inst (type_at (types_inst (type_at As) Ds))) Bs ≡ map (type_inst (type_at As)) (map (type_inst (type_at Ds)) Bs)
fields_at As Ds [] n e h = refl
fields_at As Ds (B ∷ Bs) n e h =
    let m : type_params B ≤ length (type_list Ds) = omega (arith, h.0, e) in
    let p = sym (type_inst-list B Ds As m) in
    let q = fields_at As Ds Bs n e h.1 in cc

-- What the node of a recursive operator on a constructor is made of.
pub record IsRecursed (env : Env) (D : List Ty) (n c : Name) (sig : Signature) (place : ℕ) (d : DataDecl) (Ds : Tys) (k : Con) (As Cs : Tys) (args xs : Terms) (B : Ty) : Type 0 where
  pub named : sig.name ≡ n
  pub con_named : k.name ≡ c
  pub good : IsGoodCon env d k
  pub count : length (type_list As) ≡ sig.params
  pub proper : AreProper env As
  pub types : types_inst (type_at As) Ds ≡ Cs
  pub typed : AreTyped env D (terms (spliced (term_list args) place (term_list xs))) (map (type_inst (type_at As)) (case_context sig place Ds k))
  pub fields : length k.fields ≡ length (term_list xs)
  pub result : B ≡ type_inst (type_at As) sig.result

pub is_recursed : (env : Env) → IsWellFormed env → (D : List Ty) (n c : Name) (sig : Signature) (condition : Option Term) (place : ℕ) (bodies : List Term) (d : DataDecl) (Ds : Tys) (k : Con) (body : Term)
    (As Cs : Tys) (args xs : Terms) (B : Ty) → find_symbol env n ≡ Some (RecursiveOf sig condition place bodies) → inductive_data env sig place ≡ Some (d, Ds) → look_up (cases_by_name d.cons bodies) c ≡ Some (k, body) →
    slice_get (term_list args) place ≡ Some (node (User c) Cs xs) → Typed env D (node (User n) As args) B → IsRecursed env D n c sig place d Ds k As Cs args xs B
is_recursed env w D n c sig condition place bodies d Ds k body As Cs args xs B e i f g h =
    inductive_type env (slice_get (type_list sig.args) place) d Ds (IsRecursed env D n c sig place d Ds k As Cs args xs B) i (λ m q r.
    let decl = found_data_good env w m d r in
    let case = case_named env d bodies c k body decl.1 f in
    let outer = typed_call env D n As args B (RecursiveOf sig condition place bodies) e h in
    let θ = type_at As in
    let typed_args : AreTyped env D (terms (term_list args)) (map (type_inst θ) (type_list sig.args)) = transport (λ us. AreTyped env D us (map (type_inst θ) (type_list sig.args))) (sym (terms-term_list args)) outer.children in
    let there : slice_get (type_list sig.args) place ≡ Some (DataType d.name Ds) = q ∙ ap (λ x. Some (DataType x Ds)) (sym decl.0) in
    let con_typed : Typed env D (node (User c) Cs xs) (DataType d.name (types_inst θ Ds)) = typed_at env D θ (term_list args) (type_list sig.args) place (node (User c) Cs xs) (DataType d.name Ds) typed_args g there in
    let con_found : find_symbol env c ≡ Some (ConOf d k) = transport (λ x. find_symbol env x ≡ Some (ConOf d k)) case.0 case.1.con in
    let inner = typed_call env D c Cs xs (DataType d.name (types_inst θ Ds)) (ConOf d k) con_found con_typed in
    let same : types_inst θ Ds ≡ Cs = data_types d.name (types_inst θ Ds) Cs (inner.result ∙ own_type_at Cs d inner.count) in
    let counted : d.params ≡ length (type_list Ds) =
    sym inner.count ∙ ap (λ Xs. length (type_list Xs)) (sym same) ∙ ap length (type_list-types_inst θ Ds) ∙ length-map (type_list Ds) (type_inst θ) in
    let bounds : AllByRecursion (λ A. type_params A ≤ d.params) (field_types k) = (profile_bounded env w (User k.name) (con_profile d k) (ap (option_map symbol_profile) case.1.con)).args in
    let typed_xs : AreTyped env D (terms (term_list xs)) (map (type_inst θ) (map (type_inst (type_at Ds)) (field_types k))) =
    transport (AreTyped env D (terms (term_list xs))) (fields_at As Ds (field_types k) d.params counted bounds)
    (transport (λ Xs. AreTyped env D (terms (term_list xs)) (map (type_inst (type_at Xs)) (field_types k))) (sym same)
    (transport (λ us. AreTyped env D us (map (type_inst (type_at Cs)) (field_types k))) (sym (terms-term_list xs)) inner.children)) in
    record {
      named = symbol_named env n (RecursiveOf sig condition place bodies) e;
      con_named = case.0;
      good = case.1;
      count = outer.count;
      proper = outer.proper;
      types = same;
      typed = transport (AreTyped env D (terms (spliced (term_list args) place (term_list xs)))) (sym (spliced_map (type_inst θ) (type_list sig.args) (map (type_inst (type_at Ds)) (field_types k)) place))
          (spliced_typed env D (term_list args) (term_list xs) (map (type_inst θ) (type_list sig.args)) (map (type_inst θ) (map (type_inst (type_at Ds)) (field_types k))) place typed_args typed_xs);
      fields = sym (typed_length env D (term_list xs) (map (type_inst θ) (map (type_inst (type_at Ds)) (field_types k))) typed_xs
          ∙ length-map (map (type_inst (type_at Ds)) (field_types k)) (type_inst θ) ∙ length-map (field_types k) (type_inst (type_at Ds)) ∙ length-map k.fields (λ (v : Var). v.ty));
      result = outer.result;
    })

module _ (env : Env) (u : IsWellFormed env) where
  pub recursed_equal : (W : Sequent) (n c : Name) (sig : Signature) (condition : Option Term) (place : ℕ) (bodies : List Term) (d : DataDecl) (Ds : Tys) (k : Con) (body : Term) (As Cs : Tys) (args xs : Terms) (B : Ty) →
      IsSequent env W → find_symbol env n ≡ Some (RecursiveOf sig condition place bodies) → inductive_data env sig place ≡ Some (d, Ds) → look_up (cases_by_name d.cons bodies) c ≡ Some (k, body) →
      slice_get (term_list args) place ≡ Some (node (User c) Cs xs) → Typed env (type_list W.context) (node (User n) As args) B →
      Derivable (base env) (US env W ⊢ U env (equation B (node (User n) As args) (fill (instance body As) (spliced (term_list args) place (term_list xs)))))
  recursed_equal W n c sig condition place bodies d Ds k body As Cs args xs B h e i f g t =
      let s = is_recursed env u (type_list W.context) n c sig condition place bodies d Ds k body As Cs args xs B e i f g t in
      let θ = type_at As in
      let ts = spliced (term_list args) place (term_list xs) in
      let C = case_context sig place Ds k in
      let many : length C ≡ length ts = sym (typed_length env (type_list W.context) ts (map (type_inst θ) C) s.typed ∙ length-map C (type_inst θ)) in
      let there : slice_get (term_list args) place ≡ Some (call k.name (types_inst θ Ds) (term_list xs)) =
      g ∙ ap (λ m. Some (node (User m) Cs xs)) (sym s.con_named) ∙ ap (λ Xs. Some (node (User k.name) Xs xs)) (sym s.types) ∙ ap (λ us. Some (node (User k.name) (types_inst θ Ds) us)) (sym (terms-term_list xs)) in
      let is : equation (type_inst θ sig.result) (call sig.name As (term_list args)) (fill (instance body As) ts) ≡ equation B (node (User n) As args) (fill (instance body As) ts) =
      ap (λ X. equation X (call sig.name As (term_list args)) (fill (instance body As) ts)) (sym s.result)
      ∙ ap (λ m. equation B (call m As (term_list args)) (fill (instance body As) ts)) s.named
      ∙ ap (λ us. equation B (node (User n) As us) (fill (instance body As) ts)) (terms-term_list args) in
      transport (λ P. Derivable (base env) (US env W ⊢ U env P)) (recursion_filled env sig place As Ds k body (term_list args) (term_list xs) s.count s.proper s.fields many there ∙ is)
      (rule_cited env u W C
      (equation sig.result (call sig.name (own_types sig.params) (case_arguments place (length k.fields) k Ds (vars (length C)))) body) θ ts h (type_at_proper env As s.proper) s.typed
      (recursion_established env u n c (recursion_formula sig place Ds k body)
      (ap (λ o. recursion_of env o c) e ∙ found_formula env sig place d Ds bodies c k body i f)))
