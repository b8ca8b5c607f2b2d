-- A recursive operator that is read, admitted and within the limits may follow.
use Rattle.std.specs.Prelude.{◌≡◌, ◌≤◌, ◌+◌, ◌++◌, cond, flat_map, List, [], ◌∷◌, Option, Some, None, map, length, drop, zip, option_map, option_and_then, Contains, IsSomeAnd, Ok, refl}
use Rattle.std.specs.List.{AllByRecursion, AllZip}
use Rattle.std.proofs.Common.{inr, ap, sym, ◌∙◌, subst as transport, arith}
use Rattle.std.proofs.lemmas.Grind.{flat_map-append}
use Rattle.ev_terms.specs.declared.types.Tys.{Tys}
use Rattle.ev_terms.specs.Types.{type_list}
use Rattle.ev_terms.specs.Term.{Term}
use Rattle.ev_terms.specs.Measures.{depth, params as term_params}
use Rattle.ev_terms.specs.Substitution.{types_inst, type_at}
use Rattle.ev_typing.specs.declared.typing.Entry.{Entry}
use Rattle.ev_typing.specs.declared.typing.Entry.TheVariants as entry
use Rattle.ev_typing.specs.declared.typing.DataDecl.{DataDecl}
use Rattle.ev_typing.specs.declared.typing.Con.{Con}
use Rattle.ev_typing.specs.declared.typing.Signature.{Signature}
use Rattle.ev_typing.specs.Env.{Env, Name, Symbol, ConOf, RecursiveOf, look_up, symbols, declaring, find_symbol, symbol_profile}
use Rattle.ev_typing.specs.Typing.{IsProper, Typed}
use Rattle.ev_typing.specs.Occurs.{IsPlain}
use Rattle.ev_typing.specs.WellFormed.{HasNewNames, IsGoodSignature, IsGoodBody, inductive_data, case_context, IsWellFormed}
use Rattle.ev_typing.proofs.Names.{same_name, name_same, well_formed_with}
use Rattle.ev_typing.proofs.Entries.{find_symbol-declaring, look_up_later}
use Rattle.ev_typing.proofs.Wholes.{HasAll, whole_has_all, typed_over}
use Rattle.ev_data.specs.Closed.{cases_by_name, recursion_formula, recursion_in, recursion_of}
use Rattle.ev_data.specs.Guarded.{IsGuardedBody, IsRecursiveVar}
use Rattle.ev_data.proofs.Environments.{IsGoodCon, look_up_all, found_data_good}
use Rattle.ev_ops.specs.declared.cases.Case.{Case}
use Rattle.ev_ops.specs.Admission.{MentionsExtra, IsCaseAdmission}
use Rattle.ev_ops.specs.Unfold.{unfold_by, bodies_after, unfolded}
use Rattle.ev_ops.specs.Formulas.{IsFormula}
use Rattle.ev_ops.proofs.Fitting.{found_body, body_found, fit_of, unfold_params}
use Rattle.ev_ops.proofs.Keeping.{unfolded_typed}
use Rattle.ev_ops.proofs.OverWhole.{body_there}
use Rattle.ev_ops.proofs.UnfoldApplication.{stands}
use Rattle.ev_ops.proofs.UnfoldEquation.{bodies_after-append, good_at}
use Rattle.ev_ops.proofs.UnfoldLaws.{unfolded_is_plain}
use Rattle.ev_elab.specs.Types.{Head, head_ids, own_list, var_types, signature_of}
use Rattle.ev_elab.specs.Formulas.{Formula, Induction}
use Rattle.ev_elab.specs.Readings.{case_of, body_for, bodies_for, ReadsCases}
use Rattle.ev_elab.specs.Faults.{IsSmallEquation, HasSmallEquation}
use Rattle.ev_elab.proofs.Gathering.{some_is, not_less}
use Rattle.ev_elab.proofs.SoundAfter.{inductive_over}
use Rattle.ev_elab.proofs.Wider.{part_of_more, more_has_all, formula_over}
use Rattle.ev_elab.proofs.CaseFormulas.{IsInduction, IsCaseRead, body_formula, inductive_is}
use Rattle.ev_elab.proofs.GuardedUnfolding.{NoCall, typed_no_call, unfold_guarded}
use Rattle.ev_elab.proofs.RecursiveParts.{operator_has_all, plain_same, first_case, zip_bodies, zip_map, contained_all, guarded_stable, recursive_stable, body_depth}

-- Unfolded bodies of direct operators do not call a new operator.
no_symbol : (env : Env) → IsWellFormed env → (n : Name) → declaring env n ≡ None → find_symbol env n ≡ None
no_symbol env w n e = find_symbol-declaring env n w ∙ ap (option_and_then (λ d. look_up (symbols d) n)) e

bodies_do_not_call : (env : Env) → IsWellFormed env → (m : Name) → find_symbol env m ≡ None → (n : Name) (B : Term) → look_up (bodies_after [] env) n ≡ Some B → NoCall m B
bodies_do_not_call env w m u n B e =
    let b = found_body env w n B e in
    let f = body_found env n B w.distinct b in
    let q : unfolded env b.body ≡ B = some_is (unfolded env b.body) B (sym (body_there env w n b.sig b.condition b.body f) ∙ e) in
    let (before, later, s, t) = stands n b.sig b.condition b.body env f in
    let typed : Typed env (type_list b.sig.args) b.body b.sig.result = over before later b.sig b.condition b.body s in
    transport (NoCall m) q (typed_no_call m env (ap (option_map symbol_profile) u) (type_list b.sig.args) (unfolded env b.body) b.sig.result (unfolded_typed env w (type_list b.sig.args) b.body b.sig.result typed))
  where
    over : (before later : Env) (g : Signature) (c : Option Term) (body : Term) → env ≡ before ++ entry.Direct g c body ∷ later → Typed env (type_list g.args) body g.result
    over before later g c body s =
        let v : IsWellFormed (before ++ entry.Direct g c body ∷ later) = transport IsWellFormed s w in
        transport (λ x. Typed x (type_list g.args) body g.result) (sym s)
        (typed_over before (before ++ entry.Direct g c body ∷ later) (whole_has_all before (before ++ entry.Direct g c body ∷ later) (part_of_more before (entry.Direct g c body ∷ later)) v.distinct) (type_list g.args) body g.result
        (good_at [] before later (entry.Direct g c body) v.entries).bodies.typed)

-- A constructor is told by its name.
same_con : (env : Env) (d : DataDecl) (c k : Con) → IsGoodCon env d c → IsGoodCon env d k → c.name ≡ k.name → c ≡ k
same_con env d c k g h e = let q : ◌≡◌ {A = Option Symbol} (Some (ConOf d c)) (Some (ConOf d k)) = sym g.con ∙ ap (find_symbol env) e ∙ h.con in cc

module _ (params : List Name) (env : Env) (w : IsWellFormed env) (k : Head) (p : AllByRecursion (IsProper env) (var_types k.vars)) (condition : Option Term)
    (good : IsGoodSignature env (signature_of (length params) k)) (new : HasNewNames env (entry.Constant (signature_of (length params) k) None)) (i : Induction) (h : IsInduction params env w k p i) where
  abbrev sig : Signature
  sig = signature_of (length params) k

  abbrev As : Tys
  As = types_inst (type_at (own_list (length params) (head_ids k))) i.types

  abbrev e₁ : Env
  e₁ = env ++ entry.Constant sig None ∷ []

  w₁ : IsWellFormed e₁
  w₁ = well_formed_with env (entry.Constant sig None) w new (record { signature = good; condition_good = tt; bodies = tt })

  -- Each case.
  pub record IsGoodCase (j : Case) : Type 0 where
    pub con : Con
    pub good_con : IsGoodCon env i.decl con
    pub named : j.con ≡ con.name
    pub formula : IsFormula e₁ (case_context sig i.place As con) sig.result j.body

  pub cases_good : (xs : List (Con × Formula)) (ts : List Term) → AllByRecursion (IsCaseRead params env w k p i) xs → ReadsCases params xs ts → AllByRecursion IsGoodCase (map (case_of (length params) k) (zip xs ts))
  cases_good [] [] c r = tt
  cases_good [] (t ∷ ts) c r = absurd r
  cases_good (x ∷ xs) [] c r = absurd r
  cases_good (x ∷ xs) (t ∷ ts) c r = (
    record { con = x.0; good_con = c.0.good; named = refl; formula = body_formula params env w k p i h (more_has_all env (entry.Constant sig None) w₁) w₁ x c.0 t r.0 },
    cases_good xs ts c.1 r.1,
  )

  module _ (cs : List Case) (cases : AllByRecursion IsGoodCase cs) (admitted : IsCaseAdmission sig condition i.place cs i.decl As (Ok tt)) where
    -- Each body.
    record IsBody (c : Con) (b : Term) : Type 0 where
      stands_for : body_for cs c ≡ b ∷ []
      good_con : IsGoodCon env i.decl c
      formula : IsFormula e₁ (case_context sig i.place As c) sig.result b
      own : ¬ MentionsExtra sig.params b
      guarded : IsGuardedBody sig i.place i.decl As c b

    constructors : AllByRecursion (IsGoodCon env i.decl) i.decl.cons
    constructors = (found_data_good env w h.data_name i.decl h.found).1

    body_is : (c : Con) → Contains i.decl.cons c → (b : Term) × (body_for cs c ≡ b ∷ []) × IsBody c b
    body_is c m =
        let g = contained_all (IsGoodCon env i.decl) i.decl.cons c constructors m in
        let (j, f) = first_case IsGoodCase cs c cases (λ z. admitted.2 (c, m, z)) in
        let n : j.con ≡ c.name = same_name j.con c.name f.named in
        let q : f.holds.con ≡ c = same_con env i.decl f.holds.con c f.holds.good_con g (sym f.holds.named ∙ n) in (
          j.body,
          f.is,
          record {
            stands_for = f.is;
            good_con = g;
            formula = transport (λ d. IsFormula e₁ (case_context sig i.place As d) sig.result j.body) q f.holds.formula;
            own = λ x. admitted.0 (inr (j.body, f.body_among, x));
            guarded = guarded_stable sig i.place (IsRecursiveVar sig i.place i.decl As c (length (drop (i.place + 1) (type_list sig.args))))
                (recursive_stable sig i.place i.decl As c (length (drop (i.place + 1) (type_list sig.args)))) j.body (λ no. admitted.1 (c, j, m, f.among, n, no));
          },
        )

    abbrev bodies : List Term
    bodies = bodies_for i.decl cs

    abbrev bs : List (Name × Term)
    bs = bodies_after [] env

    abbrev E : Entry
    E = entry.Recursive sig condition i.place (map (unfold_by bs) bodies)

    abbrev e₂ : Env
    e₂ = env ++ E ∷ []

    are_bodies : AllZip IsBody i.decl.cons bodies
    are_bodies = zip_bodies IsBody cs i.decl.cons body_is

    l₂ : HasAll e₁ e₂
    l₂ = operator_has_all sig condition i.place (map (unfold_by bs) bodies) env

    l : HasAll env e₂
    l = record {
      profiles = λ n q e. l₂.profiles n q ((more_has_all env (entry.Constant sig None) w₁).profiles n q e);
      decls = λ n d e. l₂.decls n d ((more_has_all env (entry.Constant sig None) w₁).decls n d e);
    }

    pub inductive₂ : inductive_data e₂ sig i.place ≡ Some (i.decl, As)
    inductive₂ = inductive_over env e₂ l sig i.place (i.decl, As) (inductive_is params env w k p i h)

    -- Unfolded.
    same_bodies : bodies_after [] e₁ ≡ bs
    same_bodies = bodies_after-append [] env (entry.Constant sig None ∷ [])

    no_operator : find_symbol env sig.name ≡ None
    no_operator = no_symbol env w sig.name new.new.0

    found₂ : find_symbol e₂ sig.name ≡ Some (RecursiveOf sig condition i.place (map (unfold_by bs) bodies))
    found₂ =
        ap (λ ps. look_up ps sig.name) (flat_map-append symbols env (E ∷ []))
        ∙ look_up_later (flat_map symbols env) (flat_map symbols (E ∷ [])) sig.name no_operator
        ∙ ap (λ b. cond b (Some (RecursiveOf sig condition i.place (map (unfold_by bs) bodies))) None) (name_same sig.name)

    pub bodies_guarded : AllZip (IsGuardedBody sig i.place i.decl As) i.decl.cons (map (unfold_by bs) bodies)
    bodies_guarded =
        zip_map IsBody (IsGuardedBody sig i.place i.decl As) (unfold_by bs)
        (λ c b q. unfold_guarded sig i.place bs (bodies_do_not_call env w sig.name no_operator) (IsRecursiveVar sig i.place i.decl As c (length (drop (i.place + 1) (type_list sig.args)))) b q.guarded)
        i.decl.cons bodies are_bodies

    -- Its equation is small.
    abbrev HasCase : Name → Con × Term → Type 0
    HasCase n x = (x.0.name ≡ n) × IsGoodCon env i.decl x.0 × (b : Term) × (body_for cs x.0 ≡ b ∷ []) × (x.1 ≡ unfold_by bs b)

    named_cases : (ds : List Con) (ts : List Term) → AllZip IsBody ds ts → AllByRecursion (λ (x : Name × (Con × Term)). HasCase x.0 x.1) (cases_by_name ds (map (unfold_by bs) ts))
    named_cases [] [] z = tt
    named_cases [] (t ∷ ts) z = absurd z
    named_cases (d ∷ ds) [] z = absurd z
    named_cases (d ∷ ds) (t ∷ ts) z = ((refl, z.0.good_con, t, z.0.stands_for, refl), named_cases ds ts z.1)

    row_is : (c : Con) → HasSmallEquation e₂ sig c → IsSomeAnd (option_map (λ (x : Con × Term). recursion_formula sig i.place As x.0 x.1) (look_up (cases_by_name i.decl.cons (map (unfold_by bs) bodies)) c.name)) IsSmallEquation
    row_is c s =
        transport (λ o. IsSomeAnd (recursion_in sig i.place (map (unfold_by bs) bodies) c.name o) IsSmallEquation) inductive₂
        (transport (λ o. IsSomeAnd (recursion_of e₂ o c.name) IsSmallEquation) found₂ s)

    shallow : (c : Con) (b : Term) → IsBody c b → HasSmallEquation e₂ sig c → depth (unfold_by bs b) ≤ 512
    shallow c b q s = by (look_up (cases_by_name i.decl.cons (map (unfold_by bs) bodies)) c.name) refl (row_is c s)
      where
        by : (o : Option (Con × Term)) → look_up (cases_by_name i.decl.cons (map (unfold_by bs) bodies)) c.name ≡ o →
            IsSomeAnd (option_map (λ (x : Con × Term). recursion_formula sig i.place As x.0 x.1) o) IsSmallEquation → depth (unfold_by bs b) ≤ 512
        by None e f = absurd f
        by (Some x) e f =
            let (n, g, b', r, t) = look_up_all HasCase (cases_by_name i.decl.cons (map (unfold_by bs) bodies)) c.name x (named_cases i.decl.cons bodies are_bodies) e in
            let u : x.0 ≡ c = same_con env i.decl x.0 c g q.good_con n in
            let v : b ∷ [] ≡ b' ∷ [] = sym q.stands_for ∙ ap (body_for cs) (sym u) ∙ r in
            let m : b ≡ b' = cc in
            let d = body_depth sig i.place As x.0 x.1 in
            let y : x.1 ≡ unfold_by bs b = t ∙ ap (unfold_by bs) (sym m) in
            let z : depth (unfold_by bs b) ≤ depth x.1 = transport (λ a. depth a ≤ depth x.1) y (omega arith) in
            let a = f.depth_fits in
            omega (arith, d, z, a)

    -- The entry.
    body_good : (c : Con) (b : Term) → IsBody c b → HasSmallEquation e₂ sig c → IsGoodBody e₂ sig i.place As c (unfold_by bs b)
    body_good c b q s =
        let C = case_context sig i.place As c in
        let r : unfolded e₁ b ≡ unfold_by bs b = ap (λ x. unfold_by x b) same_bodies in
        let d = shallow c b q s in
        let m = unfold_params (bodies_after [] e₁) b (fit_of e₁ w₁ C b sig.result q.formula.typed) in
        let m' : term_params (unfold_by bs b) ≤ term_params b = transport (λ x. term_params x ≤ term_params b) r m in
        let o = not_less sig.params (term_params b) q.own in
        record {
          term = record {
            typed = typed_over e₁ e₂ l₂ C (unfold_by bs b) sig.result (transport (λ x. Typed e₁ C x sig.result) r (unfolded_typed e₁ w₁ C b sig.result q.formula.typed));
            parameters = omega (arith, m', o);
            shallow = omega (arith, d);
          };
          plain = plain_same sig condition i.place (map (unfold_by bs) bodies) env (unfold_by bs b) (transport (IsPlain e₁) r (unfolded_is_plain e₁ w₁ C b sig.result q.formula.typed));
        }

    each_good : (ds : List Con) (ts : List Term) → AllZip IsBody ds ts → AllByRecursion (HasSmallEquation e₂ sig) ds → AllZip (IsGoodBody e₂ sig i.place As) ds (map (unfold_by bs) ts)
    each_good [] [] z s = tt
    each_good [] (t ∷ ts) z s = z
    each_good (d ∷ ds) [] z s = z
    each_good (d ∷ ds) (t ∷ ts) z s = (body_good d t z.0 s.0, each_good ds ts z.1 s.1)

    each_formula : (ds : List Con) (ts : List Term) → AllZip IsBody ds ts → AllZip (λ (c : Con) t. IsFormula e₂ (case_context sig i.place As c) sig.result t) ds ts
    each_formula [] [] z = tt
    each_formula [] (t ∷ ts) z = z
    each_formula (d ∷ ds) [] z = z
    each_formula (d ∷ ds) (t ∷ ts) z = (formula_over e₁ e₂ l₂ (case_context sig i.place As d) sig.result t z.0.formula, each_formula ds ts z.1)

    pub bodies_good : AllByRecursion (HasSmallEquation e₂ sig) i.decl.cons → AllZip (IsGoodBody e₂ sig i.place As) i.decl.cons (map (unfold_by bs) bodies)
    bodies_good s = each_good i.decl.cons bodies are_bodies s

    pub bodies_typed : AllZip (λ (c : Con) t. IsFormula e₂ (case_context sig i.place As c) sig.result t) i.decl.cons bodies
    bodies_typed = each_formula i.decl.cons bodies are_bodies

    pub entry_has_all : HasAll env e₂
    entry_has_all = l
