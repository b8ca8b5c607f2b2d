-- The goals of obligations are typed.
use Rattle.std.specs.Prelude.{◌≡◌, ◌+◌, ◌++◌, ◌<◌, Contains, get_or, slice_get, ℕ, zero, suc, pred, Bool as Boolean, true, false, if◌then◌else◌, List, [], ◌∷◌, Option, Some, None, map, flat_map, zip, length, take, bytes_eq, cond, option_map, IsSomeAnd, ⊤, refl}
use Rattle.std.specs.List.{AllByRecursion, AllZip, enumerate_from}
use Rattle.std.proofs.Common.{ap, sym, ◌∙◌, subst as transport, append_assoc, arith}
use Rattle.ev_terms.specs.declared.types.Ty.{Ty, Prop}
use Rattle.ev_terms.specs.declared.types.Tys.{Tys}
use Rattle.ev_terms.specs.declared.types.Sym.{Sym}
use Rattle.ev_terms.specs.declared.types.Sym.TheVariants.{User}
use Rattle.ev_terms.specs.Types.{type_list}
use Rattle.ev_terms.specs.Term.{Term, Terms, var, lit, node, nil, cons, terms}
use Rattle.ev_terms.specs.Symbols.{binds}
use Rattle.ev_terms.specs.Substitution.{type_inst, type_at}
use Rattle.ev_terms.proofs.Laws.{inst-id}
use Rattle.ev_terms.proofs.Subst.{ren, rens, lift_ren, lift_rens, ren-is_inst}
use Rattle.ev_forms.specs.Base.{at_type, for_all_sym}
use Rattle.ev_forms.specs.Forms.{truth, is_truth, conj, imp, forall, forall_all, equation, vars, call}
use Rattle.ev_typing.specs.declared.typing.Entry.{Entry}
use Rattle.ev_typing.specs.declared.typing.Entry.TheVariants as entry
use Rattle.ev_typing.specs.declared.typing.Con.{Con}
use Rattle.ev_typing.specs.declared.typing.DataDecl.{DataDecl}
use Rattle.ev_typing.specs.declared.typing.Signature.{Signature}
use Rattle.ev_typing.specs.Profiles.{Profile}
use Rattle.ev_typing.specs.Env.{Env, ConOf, DirectOf, RecursiveOf, look_up, find_symbol, symbol_profile, signature_profile, profile}
use Rattle.ev_typing.specs.TypeLists.{own_types}
use Rattle.ev_typing.specs.Occurs.{has_var, have_var}
use Rattle.ev_typing.specs.Typing.{IsProper, AreProper, Typed, AreTyped, IsPredicate, IsTypedNode, var_type, inside}
use Rattle.ev_typing.specs.Parts.{IsPartOf}
use Rattle.ev_typing.specs.WellFormed.{IsGoodBody, IsWellFormed, inductive_data, case_context}
use Rattle.ev_typing.proofs.Keeps.{var_here, var_later, some_map, inside_length, ren_typed, fill_typed}
use Rattle.ev_typing.proofs.Names.{same_name, name_same, all_append, append_nil}
use Rattle.ev_typing.proofs.Checks.{inside_none}
use Rattle.ev_typing.proofs.Wholes.{whole_has_all, all_proper_over}
use Rattle.ev_data.proofs.Formulas.{forall_all_typed, all_own_at, inner_var}
use Rattle.ev_wd.specs.Makers.{make_and, make_imp, make_all, lowered}
use Rattle.ev_wd.specs.WellDefined.{wd}
use Rattle.ev_wd.proofs.Typedness.{wd_typed}
use Rattle.ev_wd.proofs.Rules.{or_false, apart}
use Rattle.ev_rules.specs.declared.elements.Element.{Element}
use Rattle.ev_rules.specs.declared.elements.Element.TheVariants.{Import, Params, Data, Direct, Recursive, Constant, Axiom, Theorem, Rewrite, Inference}
use Rattle.ev_rules.specs.declared.elements.RewriteRule.{RewriteRule}
use Rattle.ev_rules.specs.declared.elements.InferenceRule.{InferenceRule}
use Rattle.ev_rules.specs.declared.elements.Branch.{Branch}
use Rattle.ev_ops.specs.Formulas.{IsFormula, IsOptional, IsBranch, IsRewriteRule, IsInferenceRule, HasFormulas}
use Rattle.ev_oblig.specs.declared.named.Named.{Named}
use Rattle.ev_terms.specs.declared.obligation.ObKind.{ObKind}
use Rattle.ev_terms.specs.declared.obligation.ObKind.TheVariants as ob
use Rattle.ev_oblig.specs.Obligations.{named, wd_named, make_alls, condition_or_truth, case_condition, case_wd, case_obligation, case_obligations, branch_guard, branch_wd, branch_obligations, complete_obligation, givens_formula, inference_wd, inference_obligations, direct_wd, obligations, branch_formula, complete_formula, inference_formula}
use Rattle.ev_data.specs.Closed.{case_arguments, cases_by_name, recursion_formula, recursion_in, recursion_of, recursion_row}
use Rattle.ev_data.proofs.Environments.{IsGoodCon, IsGoodRecursion, symbol_good, found_data_good}
use Rattle.ev_data.proofs.Recursions.{recursion_typed}
use Rattle.ev_data.proofs.Cases.{inductive_type}
use Rattle.ev_ops.proofs.Basics.{contains_more, contains_first, some_out}
use Rattle.ev_ops.proofs.Fitting.{contains_front}
use Rattle.ev_ops.proofs.UnfoldEquation.{good_at}
use Rattle.ev_ops.proofs.UnfoldApplication.{stands}
use Rattle.ev_congruence.proofs.Terms.{proper_list, equation_sides}
use Rattle.ev_sound.proofs.Quantified.{forall_typed}
use Rattle.ev_sound.proofs.Connectives.{conj_typed, imp_typed}
use Rattle.ev_sound.proofs.Citable.{truth_typed, condition_typed, all_together_typed, branch_typed, inference_typed, covering_typed}

-- Members of lists.
pub all_members : {X : Type 0} (xs : List X) → AllByRecursion (Contains xs) xs
all_members {X} xs = each xs (λ x c. c)
  where
    each : (ys : List X) → ((x : X) → Contains ys x → Contains xs x) → AllByRecursion (Contains xs) ys
    each [] g = tt
    each (y ∷ ys) g = (g y (contains_first y ys), each ys (λ x c. g x (contains_more x y ys c)))

pub member_holds : {X : Type 0} (P : X → Type 0) (xs : List X) (x : X) → AllByRecursion P xs → Contains xs x → P x
member_holds P xs x h (k, l, q) = at xs h k x l q
  where
    at : (ys : List _) → AllByRecursion P ys → (j : ℕ) (y : _) → j < length ys → get_or ys j y ≡ y → P y
    at [] g j y m e = absurd (omega arith)
    at (z ∷ zs) g zero y m e = transport P e g.0
    at (z ∷ zs) g (suc j) y m e = at zs g.1 j y (omega arith) e

-- A term in which a variable does not occur keeps its type without that variable.
abbrev RenamesBut : ℕ → (ℕ → ℕ) → List Ty → List Ty → Type 0
RenamesBut k ρ C D = (i : ℕ) (A : Ty) → (i ≡ k → ⊥) → var_type C i ≡ Some A → var_type D (ρ i) ≡ Some A

but_lift : (k : ℕ) (ρ : ℕ → ℕ) (C D : List Ty) (B : Ty) → RenamesBut k ρ C D → RenamesBut (suc k) (lift_ren ρ) (C ++ B ∷ []) (D ++ B ∷ [])
but_lift k ρ C D B r zero A ne h = var_here D B ∙ sym (var_here C B) ∙ h
but_lift k ρ C D B r (suc i) A ne h = var_later D B (ρ i) ∙ r i A (λ e. ne (ap suc e)) (sym (var_later C B i) ∙ h)

inner_lift : (n : ℕ) (ρ : ℕ → ℕ) → lift_rens n (lift_ren ρ) ≡ lift_ren (lift_rens n ρ)
inner_lift zero ρ = refl
inner_lift (suc n) ρ = ap lift_ren (inner_lift n ρ)

but_lifts : (Bs : List Ty) (k : ℕ) (ρ : ℕ → ℕ) (C D : List Ty) → RenamesBut k ρ C D → RenamesBut (k + length Bs) (lift_rens (length Bs) ρ) (C ++ Bs) (D ++ Bs)
but_lifts [] k ρ C D r =
    let e : k ≡ k + 0 = omega arith in
    transport (λ X. RenamesBut (k + 0) ρ X (D ++ [])) (sym (append_nil C)) (transport (λ X. RenamesBut (k + 0) ρ C X) (sym (append_nil D)) (transport (λ j. RenamesBut j ρ C D) e r))
but_lifts (B ∷ Bs) k ρ C D r =
    let e : suc k + length Bs ≡ k + suc (length Bs) = omega arith in
    transport (λ j. RenamesBut j (lift_rens (suc (length Bs)) ρ) (C ++ B ∷ Bs) (D ++ B ∷ Bs)) e
    (transport (λ μ. RenamesBut (suc k + length Bs) μ (C ++ B ∷ Bs) (D ++ B ∷ Bs)) (inner_lift (length Bs) ρ)
    (transport (λ X. RenamesBut (suc k + length Bs) (lift_rens (length Bs) (lift_ren ρ)) X (D ++ B ∷ Bs)) (append_assoc C (B ∷ []) Bs)
    (transport (λ X. RenamesBut (suc k + length Bs) (lift_rens (length Bs) (lift_ren ρ)) ((C ++ B ∷ []) ++ Bs) X) (append_assoc D (B ∷ []) Bs)
    (but_lifts Bs (suc k) (lift_ren ρ) (C ++ B ∷ []) (D ++ B ∷ []) (but_lift k ρ C D B r)))))

but_inside : (env : Env) (s : Sym) (As : Tys) (p : Profile) (k : ℕ) (ρ : ℕ → ℕ) (C D : List Ty) → profile env s ≡ Some p → length (type_list As) ≡ p.params → RenamesBut k ρ C D →
    RenamesBut (k + binds s) (lift_rens (binds s) ρ) (inside C s As) (inside D s As)
but_inside env s As p k ρ C D e h r =
    transport (λ n. RenamesBut (k + n) (lift_rens n ρ) (inside C s As) (inside D s As)) (inside_length env s As p e h) (but_lifts (take (binds s) (type_list As)) k ρ C D r)

mutual
  but_typed : (env : Env) (k : ℕ) (ρ : ℕ → ℕ) (C D : List Ty) → RenamesBut k ρ C D → (t : Term) (A : Ty) → has_var k t ≡ false → Typed env C t A → Typed env D (ren ρ t) A
  but_typed env k ρ C D r (var i) A o h = r i A (apart i k o) h
  but_typed env k ρ C D r (lit n) A o h = h
  but_typed env k ρ C D r (node s As ts) A o h =
      some_map (profile env s) (λ p e g. record {
        count = g.count;
        proper = g.proper;
        children = all_but_typed env (k + binds s) (lift_rens (binds s) ρ) (inside C s As) (inside D s As) (but_inside env s As p k ρ C D e g.count r) ts (map (type_inst (type_at As)) p.args) o g.children;
        result = g.result;
      }) h

  all_but_typed : (env : Env) (k : ℕ) (ρ : ℕ → ℕ) (C D : List Ty) → RenamesBut k ρ C D → (ts : Terms) (As : List Ty) → have_var k ts ≡ false → AreTyped env C ts As → AreTyped env D (rens ρ ts) As
  all_but_typed env k ρ C D r nil [] o h = h
  all_but_typed env k ρ C D r nil (A ∷ As) o h = h
  all_but_typed env k ρ C D r (cons t ts) [] o h = h
  all_but_typed env k ρ C D r (cons t ts) (A ∷ As) o h =
      let f = or_false (has_var k t) (have_var k ts) o in
      (but_typed env k ρ C D r t A f.0 h.0, all_but_typed env k ρ C D r ts As f.1 h.1)

lowered_typed : (env : Env) (C : List Ty) (A B : Ty) (t : Term) → has_var 0 t ≡ false → Typed env (C ++ A ∷ []) t B → Typed env C (lowered t) B
lowered_typed env C A B t o h =
    transport (λ u. Typed env C u B) (ren-is_inst pred t) (but_typed env 0 pred (C ++ A ∷ []) C each t B o h)
  where
    each : (i : ℕ) (E : Ty) → (i ≡ 0 → ⊥) → var_type (C ++ A ∷ []) i ≡ Some E → var_type C (pred i) ≡ Some E
    each zero E ne g = absurd (ne refl)
    each (suc i) E ne g = sym (var_later C A i) ∙ g

-- The makers of conditions.
and_typed : (env : Env) (C : List Ty) (P Q : Term) → Typed env C P Prop → Typed env C Q Prop → Typed env C (make_and P Q) Prop
and_typed env C P Q p q = by (is_truth P) (is_truth Q)
  where
    by : (b c : Boolean) → Typed env C (if b then Q else (if c then P else conj P Q)) Prop
    by true c = q
    by false true = p
    by false false = conj_typed env C P Q p q

implied_typed : (env : Env) (C : List Ty) (P Q : Term) → Typed env C P Prop → Typed env C Q Prop → Typed env C (make_imp P Q) Prop
implied_typed env C P Q p q = by (is_truth Q) (is_truth P)
  where
    by : (b c : Boolean) → Typed env C (if b then truth else (if c then Q else imp P Q)) Prop
    by true c = truth_typed env C
    by false true = q
    by false false = imp_typed env C P Q p q

all_typed : (env : Env) (C : List Ty) (A : Ty) (P : Term) → IsProper env A → Typed env (C ++ A ∷ []) P Prop → Typed env C (make_all A P) Prop
all_typed env C A P a p = by (has_var 0 P) refl
  where
    by : (b : Boolean) → has_var 0 P ≡ b → Typed env C (if b then forall A P else lowered P) Prop
    by true e = forall_all_typed env (A ∷ []) C P (a, tt) p
    by false e = lowered_typed env C A Prop P e p

alls_typed : (env : Env) (As C : List Ty) (P : Term) → AllByRecursion (IsProper env) As → Typed env (C ++ As) P Prop → Typed env C (make_alls As P) Prop
alls_typed env [] C P a p = transport (λ D. Typed env D P Prop) (append_nil C) p
alls_typed env (A ∷ As) C P a p =
    all_typed env C A (make_alls As P) a.0 (alls_typed env As (C ++ A ∷ []) P a.1 (transport (λ D. Typed env D P Prop) (sym (append_assoc C (A ∷ []) As)) p))

-- Goals of obligations.
abbrev AreGoals : Env → List Named → Type 0
AreGoals env obs = AllByRecursion (λ (o : Named). IsPredicate env [] o.goal) obs

wd_goal : (env : Env) (kind : ObKind) (P : Term) → IsPredicate env [] P → AreGoals env (wd_named kind P)
wd_goal env kind P h = by (is_truth P)
  where
    by : (b : Boolean) → AreGoals env (if b then [] else named kind P ∷ [])
    by true = tt
    by false = (h, tt)

module _ (env : Env) (w : IsWellFormed env) where
  theorem_goals : (P : Term) → Typed env [] P Prop → AreGoals env (named ob.Thm P ∷ wd_named ob.Wd (wd env P))
  theorem_goals P h = (h, wd_goal env ob.Wd (wd env P) (wd_typed env w [] P Prop h))

  direct_goals : (sig : Signature) (c : Option Term) (body : Term) → AreProper env sig.args → IsOptional env (type_list sig.args) c → Typed env (type_list sig.args) body sig.result → IsPredicate env [] (direct_wd env sig c body)
  direct_goals sig c body a h k =
      alls_typed env (type_list sig.args) [] (make_imp (condition_or_truth c) (wd env body)) (proper_list env sig.args a)
      (implied_typed env (type_list sig.args) (condition_or_truth c) (wd env body) (condition_typed env (type_list sig.args) c h) (wd_typed env w (type_list sig.args) body sig.result k))

  guard_typed : (r : RewriteRule) (f : IsRewriteRule env r) (b : Branch) → IsBranch env (type_list r.vars) f.type b → Typed env (type_list r.vars) (branch_guard env r b.condition) Prop
  guard_typed r f b k =
      let C = type_list r.vars in
      let P = condition_or_truth b.condition in
      let p = condition_typed env C b.condition k.condition in
      and_typed env C (make_and (wd env r.left) (wd env P)) P
      (and_typed env C (wd env r.left) (wd env P) (wd_typed env w C r.left f.type f.left.typed) (wd_typed env w C P Prop p)) p

  branch_goals : (r : RewriteRule) (f : IsRewriteRule env r) (bs : List Branch) (n : ℕ) → AllByRecursion (IsBranch env (type_list r.vars) f.type) bs → AreGoals env (flat_map (branch_obligations env r) (enumerate_from n bs))
  branch_goals r f [] n h = tt
  branch_goals r f (b ∷ bs) n h =
      let C = type_list r.vars in
      let proper = proper_list env r.vars f.vars in
      let sound : IsPredicate env [] (forall_all C (branch_formula env r b)) = forall_all_typed env C [] (branch_formula env r b) proper (branch_typed env r b f h.0) in
      let right : IsPredicate env [] (branch_wd env r b) =
      alls_typed env C [] (make_imp (branch_guard env r b.condition) (wd env b.right)) proper
      (implied_typed env C (branch_guard env r b.condition) (wd env b.right) (guard_typed r f b h.0) (wd_typed env w C b.right f.type h.0.right.typed)) in
      all_append _ (branch_obligations env r (n, b)) (flat_map (branch_obligations env r) (enumerate_from (n + 1) bs))
      (sound, wd_goal env (ob.WdOf n) (branch_wd env r b) right) (branch_goals r f bs (n + 1) h.1)

  complete_goals : (r : RewriteRule) (f : IsRewriteRule env r) → AreGoals env (complete_obligation r)
  complete_goals r f = by r.complete
    where
      by : (b : Boolean) → AreGoals env (if b then named ob.Complete (forall_all (type_list r.vars) (complete_formula r)) ∷ [] else [])
      by true = (forall_all_typed env (type_list r.vars) [] (complete_formula r) (proper_list env r.vars f.vars) (covering_typed env (type_list r.vars) f.type r.branches f.some f.branches), tt)
      by false = tt

  givens_typed : (C : List Ty) (Gs : List Term) → AllByRecursion (IsFormula env C Prop) Gs → Typed env C (givens_formula Gs) Prop
  givens_typed C [] h = truth_typed env C
  givens_typed C (G ∷ Gs) h = all_together_typed env C G Gs h.0.typed h.1

  inference_goals : (r : InferenceRule) → IsInferenceRule env r → AreGoals env (inference_obligations env r)
  inference_goals r f =
      let C = type_list r.vars in
      let proper = proper_list env r.vars f.vars in (
        forall_all_typed env C [] (inference_formula r.givens r.conclusion) proper (inference_typed env C r.givens r.conclusion f.givens f.conclusion.typed),
        wd_goal env ob.Wd (inference_wd env r)
            (alls_typed env C [] (make_imp (wd env r.conclusion) (wd env (givens_formula r.givens))) proper
            (implied_typed env C (wd env r.conclusion) (wd env (givens_formula r.givens)) (wd_typed env w C r.conclusion Prop f.conclusion.typed) (wd_typed env w C (givens_formula r.givens) Prop (givens_typed C r.givens f.givens)))),
      )

user_none : (n : List ℕ) → binds (User n) ≡ 0
unfolding binds
user_none n = refl

inside_user : (C : List Ty) (n : List ℕ) (As : Tys) → inside C (User n) As ≡ C
inside_user C n As = sym (inside_none C (User n) As (user_none n))

-- What is closed by quantifiers.
closed_parts : (env : Env) (C D : List Ty) (P : Term) → Typed env D (forall_all C P) Prop → AllByRecursion (IsProper env) C × Typed env (D ++ C) P Prop
closed_parts env [] D P h = (tt, transport (λ X. Typed env X P Prop) (sym (append_nil D)) h)
closed_parts env (A ∷ C) D P h =
    let r = closed_parts env C (D ++ A ∷ []) P (forall_typed env D A (forall_all C P) Prop h) in
    ((proper_of h, r.0), transport (λ X. Typed env X P Prop) (append_assoc D (A ∷ []) C) r.1)
  where
    proper_of : Typed env D (forall A (forall_all C P)) Prop → IsProper env A
    proper_of g = by g
      where
        by : IsTypedNode env (at_type A) (record { params = 1; args = Prop ∷ []; result = Prop }) Prop (AreTyped env (inside D for_all_sym (at_type A)) (cons (forall_all C P) nil) (Prop ∷ [])) → IsProper env A
        by k = k.proper.0

-- The case of a constructor, by its name.
pub record IsCaseOf (env : Env) (d : DataDecl) (cs : List Con) (ts : List Term) (c : Con) : Type 0 where
  pub case : Con × Term
  pub found : look_up (cases_by_name cs ts) c.name ≡ Some case
  pub same : case.0 ≡ c

more_case : (env : Env) (d : DataDecl) (x : Con) (t : Term) (cs : List Con) (ts : List Term) (c : Con) → bytes_eq x.name c.name ≡ false → IsCaseOf env d cs ts c → IsCaseOf env d (x ∷ cs) (t ∷ ts) c
more_case env d x t cs ts c m r = record { case = r.case; found = ap (λ b. cond b (Some (x, t)) (look_up (cases_by_name cs ts) c.name)) m ∙ r.found; same = r.same }

first_case : (env : Env) (d : DataDecl) (x : Con) (t : Term) (cs : List Con) (ts : List Term) (c : Con) → IsGoodCon env d x → IsGoodCon env d c → bytes_eq x.name c.name ≡ true → IsCaseOf env d (x ∷ cs) (t ∷ ts) c
first_case env d x t cs ts c g h m =
    let i : x.name ≡ c.name = same_name x.name c.name m in
    let a : Some (ConOf d x) ≡ Some (ConOf d c) = sym g.con ∙ ap (find_symbol env) i ∙ h.con in
    record { case = (x, t); found = ap (λ b. cond b (Some (x, t)) (look_up (cases_by_name cs ts) c.name)) m; same = (let j : x ≡ c = cc in j) }

case_there : (env : Env) (d : DataDecl) (Q : Con → Term → Type 0) (c : Con) (cs : List Con) (ts : List Term) → IsGoodCon env d c → AllByRecursion (IsGoodCon env d) cs → AllZip Q cs ts → Contains cs c → IsCaseOf env d cs ts c
case_there env d Q c [] ts g gs z (k, l, q) = absurd (omega arith)
case_there env d Q c (x ∷ cs) [] g gs z m = absurd z
case_there env d Q c (x ∷ cs) (t ∷ ts) g gs z (zero, l, q) = first_case env d x t cs ts c gs.0 g (ap (λ (y : Con). bytes_eq y.name c.name) q ∙ name_same c.name)
case_there env d Q c (x ∷ cs) (t ∷ ts) g gs z (suc j, l, q) = by (bytes_eq x.name c.name) refl (case_there env d Q c cs ts g gs.1 z.1 (j, omega arith, q))
  where
    by : (b : Boolean) → bytes_eq x.name c.name ≡ b → IsCaseOf env d cs ts c → IsCaseOf env d (x ∷ cs) (t ∷ ts) c
    by true m r = first_case env d x t cs ts c gs.0 g m
    by false m r = more_case env d x t cs ts c m r

module _ (env : Env) (w : IsWellFormed env) (sig : Signature) (o : Option Term) (place : ℕ) (trees : List Term) (found : find_symbol env sig.name ≡ Some (RecursiveOf sig o place trees)) where
  recursion : IsGoodRecursion env sig o place trees
  recursion = symbol_good env w sig.name (RecursiveOf sig o place trees) found

  -- the arguments of the operator in a case, and the types of the case's variables
  arguments : (d : DataDecl) (As : Tys) → inductive_data env sig place ≡ Some (d, As) → AllByRecursion (IsGoodCon env d) d.cons → (c : Con) → Contains d.cons c →
      AllByRecursion (IsProper env) (case_context sig place As c)
      × AreTyped env (case_context sig place As c) (terms (case_arguments place (length c.fields) c As (vars (length (case_context sig place As c))))) (type_list sig.args)
  arguments d As q gs c m =
      let z : AllZip (IsGoodBody env sig place As) d.cons trees = transport (λ r. IsSomeAnd r (λ p. AllZip (IsGoodBody env sig place p.1) p.0.cons trees)) q recursion.cases in
      let k = case_there env d (IsGoodBody env sig place As) c d.cons trees (member_holds (IsGoodCon env d) d.cons c gs m) gs z m in
      let row : recursion_row env sig.name c.name ≡ Some (recursion_formula sig place As k.case.0 k.case.1) =
      ap (λ x. recursion_of env x c.name) found ∙ ap (recursion_in sig place trees c.name) q ∙ ap (option_map (λ (p : Con × Term). recursion_formula sig place As p.0 p.1)) k.found in
      let typed = (recursion_typed env w sig.name c.name (recursion_formula sig place As k.case.0 k.case.1) row).0 in
      transport Good k.same (by k.case.0 k.case.1 typed)
    where
      Good : Con → Type 0
      Good x =
          AllByRecursion (IsProper env) (case_context sig place As x)
          × AreTyped env (case_context sig place As x) (terms (case_arguments place (length x.fields) x As (vars (length (case_context sig place As x))))) (type_list sig.args)

      by : (x : Con) (body : Term) → Typed env [] (recursion_formula sig place As x body) Prop → Good x
      by x body h =
          let C = case_context sig place As x in
          let ts = case_arguments place (length x.fields) x As (vars (length C)) in
          let r = closed_parts env C [] (equation sig.result (call sig.name (own_types sig.params) ts) body) h in
          let left : Typed env C (call sig.name (own_types sig.params) ts) sig.result = (equation_sides env C sig.result (call sig.name (own_types sig.params) ts) body Prop r.1).left in
          (r.0, operands C ts left)
        where
          operands : (C : List Ty) (ts : List Term) → Typed env C (call sig.name (own_types sig.params) ts) sig.result → AreTyped env C (terms ts) (type_list sig.args)
          operands C ts g =
              some_out (profile env (User sig.name)) (λ p e k.
              let i : p ≡ signature_profile sig = (let a : Some p ≡ Some (signature_profile sig) = sym e ∙ ap (option_map symbol_profile) found in cc) in
              transport (AreTyped env C (terms ts)) (ap (λ (x : Profile). map (type_inst (type_at (own_types sig.params))) x.args) i ∙ all_own_at sig.params (type_list sig.args))
              (transport (λ D. AreTyped env D (terms ts) (map (type_inst (type_at (own_types sig.params))) p.args)) (inside_user C sig.name (own_types sig.params)) k.children)) g

wider : (env : Env) (C D : List Ty) (t : Term) (A : Ty) → Typed env D t A → Typed env (C ++ D) t A
wider env C D t A h = transport (λ u. Typed env (C ++ D) u A) (ren-is_inst (λ i. i) t ∙ inst-id t) (ren_typed env (λ i. i) D (C ++ D) (λ i B g. inner_var C D i B g) t A h)

module _ (env : Env) (w : IsWellFormed env) (sig : Signature) (c : Option Term) (place : ℕ) (h : IsOptional env (type_list sig.args) c) where
  -- arguments of the operator in each case
  abbrev HasArguments : Tys → Con → Type 0
  HasArguments As k =
      AllByRecursion (IsProper env) (case_context sig place As k)
      × AreTyped env (case_context sig place As k) (terms (case_arguments place (length k.fields) k As (vars (length (case_context sig place As k))))) (type_list sig.args)

  case_goals : (As : Tys) (n : ℕ) (cs : List Con) (bodies : List Term) → AllByRecursion (HasArguments As) cs → AllZip (λ (k : Con). IsFormula env (case_context sig place As k) sig.result) cs bodies →
      AreGoals env (flat_map (case_obligation env sig c place As) (enumerate_from n (zip cs bodies)))
  case_goals As n [] bodies a z = tt
  case_goals As n (k ∷ ks) [] a z = tt
  case_goals As n (k ∷ ks) (b ∷ bs) a z =
      let C = case_context sig place As k in
      let ts = case_arguments place (length k.fields) k As (vars (length C)) in
      let condition : Typed env C (case_condition sig c place As k) Prop =
      fill_typed env C (type_list sig.args) ts a.0.1 (condition_or_truth c) Prop (wider env C (type_list sig.args) (condition_or_truth c) Prop (condition_typed env (type_list sig.args) c h)) in
      let goal : IsPredicate env [] (case_wd env sig c place As k b) =
      alls_typed env C [] (make_imp (case_condition sig c place As k) (wd env b)) a.0.0 (implied_typed env C (case_condition sig c place As k) (wd env b) condition (wd_typed env w C b sig.result z.0.typed)) in
      all_append _ (case_obligation env sig c place As (n, (k, b))) (flat_map (case_obligation env sig c place As) (enumerate_from (n + 1) (zip ks bs)))
      (wd_goal env (ob.WdOf n) (case_wd env sig c place As k b) goal) (case_goals As (n + 1) ks bs a.1 z.1)

-- An operator stands in the environment.
abbrev pub Stands : Env → Element → Type 0
Stands env (Direct sig c body) = find_symbol env sig.name ≡ Some (DirectOf sig c body)
Stands env (Recursive sig c place bodies) = (trees : List Term) × (find_symbol env sig.name ≡ Some (RecursiveOf sig c place trees))
Stands env x = ⊤

front_contained : (e r : Env) → IsPartOf e (e ++ r)
front_contained e r = each e (λ x k. contains_front e r x k)
  where
    each : (xs : Env) → ((x : Entry) → Contains xs x → Contains (e ++ r) x) → IsPartOf xs (e ++ r)
    each [] g = tt
    each (x ∷ xs) g = (g x (contains_first x xs), each xs (λ y k. g y (contains_more y x xs k)))

signature_proper : (env : Env) → IsWellFormed env → (sig : Signature) (c : Option Term) (body : Term) → find_symbol env sig.name ≡ Some (DirectOf sig c body) → AreProper env sig.args
signature_proper env w sig c body h =
    let s = stands sig.name sig c body env h in
    transport (λ x. IsWellFormed x → AreProper x sig.args) (sym s.2) (from s.0 s.1) w
  where
    from : (e r : Env) → IsWellFormed (e ++ entry.Direct sig c body ∷ r) → AreProper (e ++ entry.Direct sig c body ∷ r) sig.args
    from e r u = all_proper_over e (e ++ entry.Direct sig c body ∷ r) (whole_has_all e (e ++ entry.Direct sig c body ∷ r) (front_contained e (entry.Direct sig c body ∷ r)) u.distinct) sig.args (good_at [] e r (entry.Direct sig c body) u.entries).signature.args

-- The goals of an element's obligations are closed predicates.
pub goals_typed : (env : Env) → IsWellFormed env → (x : Element) → Stands env x → HasFormulas env x → AreGoals env (obligations env x)
goals_typed env w (Import n) s h = tt
goals_typed env w (Params ns) s h = tt
goals_typed env w (Data d) s h = tt
goals_typed env w (Constant sig c) s h = tt
goals_typed env w (Axiom l P) s h = tt
goals_typed env w (Theorem l P) s h = theorem_goals env w P h.typed
goals_typed env w (Rewrite r) s h =
    all_append _ (flat_map (branch_obligations env r) (enumerate_from 1 r.branches)) (complete_obligation r) (branch_goals env w r h r.branches 1 h.branches) (complete_goals env w r h)
goals_typed env w (Inference r) s h = inference_goals env w r h
goals_typed env w (Direct sig c body) s h =
    wd_goal env ob.Wd (direct_wd env sig c body) (direct_goals env w sig c body (signature_proper env w sig c body s) h.0 h.1.typed)
goals_typed env w (Recursive sig c place bodies) (trees, s) h = by (inductive_data env sig place) refl h.1
  where
    each : (d : DataDecl) (As : Tys) → inductive_data env sig place ≡ Some (d, As) → AllByRecursion (IsGoodCon env d) d.cons → (cs : List Con) → AllByRecursion (Contains d.cons) cs → AllByRecursion (HasArguments env w sig c place h.0 As) cs
    each d As q g [] m = tt
    each d As q g (k ∷ ks) m = (arguments env w sig c place trees s d As q g k m.0, each d As q g ks m.1)

    by : (r : Option (DataDecl × Tys)) → inductive_data env sig place ≡ r → IsSomeAnd r (λ p. AllZip (λ (k : Con). IsFormula env (case_context sig place p.1 k) sig.result) p.0.cons bodies) → AreGoals env (case_obligations env sig c place bodies r)
    by None q z = tt
    by (Some (d, As)) q z =
        let g = inductive_type env (slice_get (type_list sig.args) place) d As (AllByRecursion (IsGoodCon env d) d.cons) q (λ n i f. (found_data_good env w n d f).1) in
        case_goals env w sig c place h.0 As 1 d.cons bodies (each d As q g d.cons (all_members d.cons)) z
