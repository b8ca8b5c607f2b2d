-- The condition of a term with types put in.
use Rattle.std.specs.Prelude.{◌≡◌, ◌≤◌, ◌<◌, ◌+◌, ◌||◌, ℕ, zero, suc, pred, Bool as Boolean, true, false, if◌then◌else◌, List, [], ◌∷◌, ◌++◌, Option, Some, None, map, length, slice_get, ⊤, refl}
use Rattle.std.specs.List.{AllByRecursion}
use Rattle.std.specs.Option.{unwrap_or}
use Rattle.std.proofs.Common.{ap, sym, ◌∙◌, subst, arith}
use Rattle.std.proofs.lemmas.List.{map-append}
use Rattle.ev_terms.specs.declared.types.Ty.{Ty, Int, Prop, Param, Data as DataType}
use Rattle.ev_terms.specs.declared.types.Tys.{Tys, Empty}
use Rattle.ev_terms.specs.declared.types.Sym.TheVariants.{Base, User}
use Rattle.ev_terms.specs.Types.{pow, more, type_list}
use Rattle.ev_terms.specs.Term.{Term, Terms, var, lit, node, nil, cons, terms, term_list}
use Rattle.ev_terms.specs.Symbols.{binds}
use Rattle.ev_terms.specs.Measures.{type_params}
use Rattle.ev_terms.specs.Substitution.{shift, fill, instance, type_inst, types_inst, type_at, retype, retypes}
use Rattle.ev_terms.proofs.ListLaws.{retype-shift, retype-inst, retype-retype, type_inst-type_inst}
use Rattle.ev_terms.proofs.AnyLaws.{retype-of_fill, retype_below, type_inst_below}
use Rattle.ev_terms.proofs.Shifts.{retypes-terms}
use Rattle.ev_typing.specs.declared.typing.Con.{Con}
use Rattle.ev_typing.specs.declared.typing.Signature.{Signature}
use Rattle.ev_typing.specs.Profiles.{Profile, base_profile}
use Rattle.ev_typing.specs.Env.{Env, Name, Symbol, ConOf, DesOf, ConstantOf, DirectOf, RecursiveOf, find_symbol, field_types, symbol_profile, profile}
use Rattle.ev_typing.specs.Occurs.{has_var, have_var}
use Rattle.ev_typing.specs.Typing.{Typed, AreTyped, inside}
use Rattle.ev_typing.specs.WellFormed.{IsWellFormed}
use Rattle.ev_forms.specs.Forms.{truth, is_truth, conj, disj, imp, forall, exists, exists_all, eq, mem, finite, at_most, vars, call}
use Rattle.ev_wd.specs.declared.rows.Rule.{Rule}
use Rattle.ev_wd.specs.declared.rows.Demand.{Demand}
use Rattle.ev_wd.specs.declared.rows.Demand.TheVariants.{Nothing, Application, Quotient, Remainder, Power, Cardinality, Intersection, Minimum, Maximum}
use Rattle.ev_wd.specs.Makers.{make_and, make_imp, make_or, make_all, lowered, joined_after, joined}
use Rattle.ev_wd.specs.Demands.{rule_of, is_not_empty, is_in_domain, is_partial_function, parts_of_one, parts_of_two, parts_of}
use Rattle.ev_wd.specs.WellDefined.{is_made_by, parts_of_condition, parts_of_destructor, parts_of_symbol, guarded, closed_over, wd_base, wd, wds}
use Rattle.ev_wd.specs.ConditionLaws.{ConditionOfInstance}
use Rattle.ev_wd.proofs.Rules.{RuleCases, rule_cases, args_or, params_or, some_out, some_symbol, IsGoodUse, IsGoodSymbol, good_symbol}

-- The makers.
is_truth-retype : (θ : ℕ → Ty) (t : Term) → is_truth (retype θ t) ≡ is_truth t
is_truth-retype θ (var i) = refl
is_truth-retype θ (lit n) = refl
is_truth-retype θ (node (Base zero) Empty nil) = refl
is_truth-retype θ (node (Base zero) Empty (cons t ts)) = refl
is_truth-retype θ (node (Base zero) (more A As) ts) = refl
is_truth-retype θ (node (Base (suc k)) As ts) = refl
is_truth-retype θ (node (User n) As ts) = refl

mutual
  has_var-retype : (θ : ℕ → Ty) (t : Term) (j : ℕ) → has_var j (retype θ t) ≡ has_var j t
  has_var-retype θ (var i) j = refl
  has_var-retype θ (lit n) j = refl
  has_var-retype θ (node s As ts) j = have_var-retypes θ ts (j + binds s)

  have_var-retypes : (θ : ℕ → Ty) (ts : Terms) (j : ℕ) → have_var j (retypes θ ts) ≡ have_var j ts
  have_var-retypes θ nil j = refl
  have_var-retypes θ (cons t ts) j = let p = has_var-retype θ t j in let q = have_var-retypes θ ts j in cc

and-retype : (θ : ℕ → Ty) (P Q : Term) → retype θ (make_and P Q) ≡ make_and (retype θ P) (retype θ Q)
and-retype θ P Q =
    by (is_truth P) (is_truth Q)
    ∙ sym (ap (λ b. if b then retype θ Q else (if is_truth (retype θ Q) then retype θ P else conj (retype θ P) (retype θ Q))) (is_truth-retype θ P)
    ∙ ap (λ c. if is_truth P then retype θ Q else (if c then retype θ P else conj (retype θ P) (retype θ Q))) (is_truth-retype θ Q))
  where
    by : (b c : Boolean) → retype θ (if b then Q else (if c then P else conj P Q)) ≡ (if b then retype θ Q else (if c then retype θ P else conj (retype θ P) (retype θ Q)))
    by true c = refl
    by false true = refl
    by false false = refl

imp-retype : (θ : ℕ → Ty) (P Q : Term) → retype θ (make_imp P Q) ≡ make_imp (retype θ P) (retype θ Q)
imp-retype θ P Q =
    by (is_truth Q) (is_truth P)
    ∙ sym (ap (λ b. if b then truth else (if is_truth (retype θ P) then retype θ Q else imp (retype θ P) (retype θ Q))) (is_truth-retype θ Q)
    ∙ ap (λ c. if is_truth Q then truth else (if c then retype θ Q else imp (retype θ P) (retype θ Q))) (is_truth-retype θ P))
  where
    by : (b c : Boolean) → retype θ (if b then truth else (if c then Q else imp P Q)) ≡ (if b then truth else (if c then retype θ Q else imp (retype θ P) (retype θ Q)))
    by true c = refl
    by false true = refl
    by false false = refl

or-retype : (θ : ℕ → Ty) (P Q : Term) → retype θ (make_or P Q) ≡ make_or (retype θ P) (retype θ Q)
or-retype θ P Q =
    by (is_truth P) (is_truth Q)
    ∙ sym (ap (λ b. if b || is_truth (retype θ Q) then truth else disj (retype θ P) (retype θ Q)) (is_truth-retype θ P)
    ∙ ap (λ c. if is_truth P || c then truth else disj (retype θ P) (retype θ Q)) (is_truth-retype θ Q))
  where
    by : (b c : Boolean) → retype θ (if b || c then truth else disj P Q) ≡ (if b || c then truth else disj (retype θ P) (retype θ Q))
    by true c = refl
    by false true = refl
    by false false = refl

all-retype : (θ : ℕ → Ty) (A : Ty) (P : Term) → retype θ (make_all A P) ≡ make_all (type_inst θ A) (retype θ P)
all-retype θ A P =
    by (has_var 0 P) ∙ sym (ap (λ b. if b then forall (type_inst θ A) (retype θ P) else lowered (retype θ P)) (has_var-retype θ P 0))
  where
    by : (b : Boolean) → retype θ (if b then forall A P else lowered P) ≡ (if b then forall (type_inst θ A) (retype θ P) else lowered (retype θ P))
    by true = refl
    by false = retype-inst θ (λ i. var (pred i)) P

after-retype : (θ : ℕ → Ty) (P : Term) (Qs : List Term) → retype θ (joined_after P Qs) ≡ joined_after (retype θ P) (map (retype θ) Qs)
after-retype θ P [] = refl
after-retype θ P (Q ∷ Qs) = after-retype θ (make_and P Q) Qs ∙ ap (λ R. joined_after R (map (retype θ) Qs)) (and-retype θ P Q)

joined-retype : (θ : ℕ → Ty) (Qs : List Term) → retype θ (joined Qs) ≡ joined (map (retype θ) Qs)
joined-retype θ Qs = after-retype θ truth Qs

parts-retype : (θ : ℕ → Ty) (Ds ps qs : List Term) → map (retype θ) ps ≡ qs → joined (map (retype θ) Ds ++ qs) ≡ retype θ (joined (Ds ++ ps))
parts-retype θ Ds ps qs e = sym (joined-retype θ (Ds ++ ps) ∙ ap joined (map-append (retype θ) Ds ps ∙ ap (λ us. map (retype θ) Ds ++ us) e))

-- Type arguments with types put in.
at_inst_or : (θ : ℕ → Ty) (As : Tys) (i : ℕ) (d e : Ty) → i < length (type_list As) →
    unwrap_or (slice_get (type_list (types_inst θ As)) i) d ≡ type_inst θ (unwrap_or (slice_get (type_list As) i) e)
at_inst_or θ Empty i d e h = absurd (omega (arith, h))
at_inst_or θ (more A rest) zero d e h = refl
at_inst_or θ (more A rest) (suc i) d e h = at_inst_or θ rest i d e (omega (arith, h))

at_inst : (θ : ℕ → Ty) (As : Tys) (i : ℕ) → i < length (type_list As) → type_inst θ (type_at As i) ≡ type_at (types_inst θ As) i
at_inst θ As i h = sym (at_inst_or θ As i (Param i) (Param i) h)

type_at_args : (θ : ℕ → Ty) (As : Tys) (A : Ty) → type_params A ≤ length (type_list As) → type_inst θ (type_inst (type_at As) A) ≡ type_inst (type_at (types_inst θ As)) A
type_at_args θ As A h =
    type_inst-type_inst θ (type_at As) A
    ∙ type_inst_below A (λ i. type_inst θ (type_at As i)) (type_at (types_inst θ As)) (λ i k. at_inst θ As i (omega arith))

types_at_args : (θ : ℕ → Ty) (As : Tys) (Bs : List Ty) → AllByRecursion (λ B. type_params B ≤ length (type_list As)) Bs →
    map (type_inst θ) (map (type_inst (type_at As)) Bs) ≡ map (type_inst (type_at (types_inst θ As))) Bs
types_at_args θ As [] h = refl
types_at_args θ As (B ∷ Bs) h = let p = type_at_args θ As B h.0 in let q = types_at_args θ As Bs h.1 in cc

-- What a base symbol asks.
abbrev HasEnough : Demand → ℕ → Type 0
HasEnough Application n = 2 ≤ n
HasEnough Cardinality n = 1 ≤ n
HasEnough Intersection n = 1 ≤ n
HasEnough _ n = ⊤

one-retype : (θ : ℕ → Ty) (a : Demand) (As : Tys) (S : Term) → HasEnough a (length (type_list As)) → map (retype θ) (parts_of_one a As S) ≡ parts_of_one a (types_inst θ As) (retype θ S)
one-retype θ Nothing As S h = refl
one-retype θ Application As S h = refl
one-retype θ Quotient As S h = refl
one-retype θ Remainder As S h = refl
one-retype θ Power As S h = refl
one-retype θ Cardinality As S h = ap (λ B. finite B (retype θ S) ∷ []) (at_inst θ As 0 (omega (arith, h)))
one-retype θ Intersection As S h = ap (λ B. is_not_empty (pow B) (retype θ S) ∷ []) (at_inst θ As 0 (omega (arith, h)))
one-retype θ Minimum As S h =
    ap (λ X. is_not_empty Int (retype θ S) ∷ exists Int (forall Int (imp (mem Int (var 0) X) (at_most (var 1) (var 0)))) ∷ []) (retype-shift θ S 0 2)
one-retype θ Maximum As S h =
    ap (λ X. is_not_empty Int (retype θ S) ∷ exists Int (forall Int (imp (mem Int (var 0) X) (at_most (var 0) (var 1)))) ∷ []) (retype-shift θ S 0 2)

two-retype : (θ : ℕ → Ty) (a : Demand) (As : Tys) (E F : Term) → HasEnough a (length (type_list As)) →
    map (retype θ) (parts_of_two a As E F) ≡ parts_of_two a (types_inst θ As) (retype θ E) (retype θ F)
two-retype θ Nothing As E F h = refl
two-retype θ Application As E F h =
    ap (λ B. is_in_domain B (type_inst θ (type_at As 1)) (retype θ E) (retype θ F) ∷ is_partial_function B (type_inst θ (type_at As 1)) (retype θ E) ∷ []) (at_inst θ As 0 (omega (arith, h)))
    ∙ ap (λ B. is_in_domain (type_at (types_inst θ As) 0) B (retype θ E) (retype θ F) ∷ is_partial_function (type_at (types_inst θ As) 0) B (retype θ E) ∷ []) (at_inst θ As 1 (omega (arith, h)))
two-retype θ Quotient As E F h = refl
two-retype θ Remainder As E F h = refl
two-retype θ Power As E F h = refl
two-retype θ Cardinality As E F h = refl
two-retype θ Intersection As E F h = refl
two-retype θ Minimum As E F h = refl
two-retype θ Maximum As E F h = refl

demand-retype : (θ : ℕ → Ty) (a : Demand) (As : Tys) (ts : List Term) → HasEnough a (length (type_list As)) →
    map (retype θ) (parts_of a As ts) ≡ parts_of a (types_inst θ As) (map (retype θ) ts)
demand-retype θ a As [] h = refl
demand-retype θ a As (S ∷ []) h = one-retype θ a As S h
demand-retype θ a As (E ∷ F ∷ []) h = two-retype θ a As E F h
demand-retype θ a As (E ∷ F ∷ G ∷ ts) h = refl

guarded-retype : (θ : ℕ → Ty) (make : Term → Term → Term) → ((P Q : Term) → retype θ (make P Q) ≡ make (retype θ P) (retype θ Q)) → (ts Ds : List Term) →
    retype θ (guarded make ts Ds) ≡ guarded make (map (retype θ) ts) (map (retype θ) Ds)
guarded-retype θ make m [] Ds = joined-retype θ Ds
guarded-retype θ make m (P ∷ []) Ds = joined-retype θ Ds
guarded-retype θ make m (P ∷ Q ∷ []) [] = joined-retype θ []
guarded-retype θ make m (P ∷ Q ∷ []) (D ∷ []) = joined-retype θ (D ∷ [])
guarded-retype θ make m (P ∷ Q ∷ []) (D ∷ E ∷ []) = and-retype θ D (make P E) ∙ ap (make_and (retype θ D)) (m P E)
guarded-retype θ make m (P ∷ Q ∷ []) (D ∷ E ∷ F ∷ Ds) = joined-retype θ (D ∷ E ∷ F ∷ Ds)
guarded-retype θ make m (P ∷ Q ∷ R ∷ ts) Ds = joined-retype θ Ds

-- What a destructor and a condition ask.
exists_all-retype : (θ : ℕ → Ty) (Bs : List Ty) (P : Term) → retype θ (exists_all Bs P) ≡ exists_all (map (type_inst θ) Bs) (retype θ P)
exists_all-retype θ [] P = refl
exists_all-retype θ (B ∷ Bs) P = ap (exists (type_inst θ B)) (exists_all-retype θ Bs P)

vars-retype : (θ : ℕ → Ty) (n : ℕ) → map (retype θ) (vars n) ≡ vars n
vars-retype θ zero = refl
vars-retype θ (suc n) = ap (λ us. var (n + 0) ∷ us) (vars-retype θ n)

made-retype : (θ : ℕ → Ty) (d : Name) (c : Con) (As : Tys) (e : Term) → AllByRecursion (λ B. type_params B ≤ length (type_list As)) (field_types c) →
    retype θ (is_made_by d c As e) ≡ is_made_by d c (types_inst θ As) (retype θ e)
made-retype θ d c As e h =
    exists_all-retype θ (map (type_inst (type_at As)) (field_types c)) (eq (DataType d As) (shift e 0 n) (call c.name As (vars n)))
    ∙ ap (λ Bs. exists_all Bs (retype θ (eq (DataType d As) (shift e 0 n) (call c.name As (vars n))))) (types_at_args θ As (field_types c) h)
    ∙ ap (exists_all (map (type_inst (type_at (types_inst θ As))) (field_types c))) (
    ap (λ X. eq (DataType d (types_inst θ As)) X (node (User c.name) (types_inst θ As) (retypes θ (terms (vars n))))) (retype-shift θ e 0 n)
    ∙ ap (λ us. eq (DataType d (types_inst θ As)) (shift (retype θ e) 0 n) (node (User c.name) (types_inst θ As) us)) (retypes-terms θ (vars n) ∙ ap terms (vars-retype θ n))
    )
  where
    n : ℕ
    n = length c.fields

destructor-retype : (θ : ℕ → Ty) (d : Name) (c : Con) (As : Tys) (ts : List Term) → AllByRecursion (λ B. type_params B ≤ length (type_list As)) (field_types c) →
    map (retype θ) (parts_of_destructor d c As ts) ≡ parts_of_destructor d c (types_inst θ As) (map (retype θ) ts)
destructor-retype θ d c As [] h = refl
destructor-retype θ d c As (e ∷ []) h = ap (λ X. X ∷ []) (made-retype θ d c As e h)
destructor-retype θ d c As (e ∷ f ∷ ts) h = refl

condition-retype : (env : Env) (θ : ℕ → Ty) (sig : Signature) (o : Option Term) (As : Tys) (ts : List Term) → IsGoodUse env sig o → sig.params ≡ length (type_list As) →
    map (retype θ) (parts_of_condition o As ts) ≡ parts_of_condition o (types_inst θ As) (map (retype θ) ts)
condition-retype env θ sig None As ts h e = refl
condition-retype env θ sig (Some P) As ts h e =
    ap (λ X. X ∷ []) (
    retype-of_fill θ (instance P As) ts
    ∙ ap (λ Q. fill Q (map (retype θ) ts)) (
    retype-retype θ (type_at As) P
    ∙ retype_below P (λ i. type_inst θ (type_at As i)) (type_at (types_inst θ As)) (λ i k. at_inst θ As i (omega (arith, h.1)))
    )
    )

symbol-retype : (env : Env) (θ : ℕ → Ty) (s : Symbol) (As : Tys) (ts : List Term) → IsGoodSymbol env s → (symbol_profile s).params ≡ length (type_list As) →
    map (retype θ) (parts_of_symbol (Some s) As ts) ≡ parts_of_symbol (Some s) (types_inst θ As) (map (retype θ) ts)
symbol-retype env θ (ConOf d c) As ts h e = refl
symbol-retype env θ (DesOf d c i f) As ts h e =
    destructor-retype θ d.name c As ts (subst (λ n. AllByRecursion (λ B. type_params B ≤ n) (field_types c)) e h.parameters)
symbol-retype env θ (ConstantOf sig o) As ts h e = condition-retype env θ sig o As ts h e
symbol-retype env θ (DirectOf sig o body) As ts h e = condition-retype env θ sig o As ts h e
symbol-retype env θ (RecursiveOf sig o place bodies) As ts h e = condition-retype env θ sig o As ts h e

-- Base symbols, from what holds of their children.
term_list-retypes : (θ : ℕ → Ty) (ts : Terms) → term_list (retypes θ ts) ≡ map (retype θ) (term_list ts)
term_list-retypes θ nil = refl
term_list-retypes θ (cons t ts) = ap (λ us. retype θ t ∷ us) (term_list-retypes θ ts)

abbrev Goes : Env → (ℕ → Ty) → ℕ → Rule → Type 0
Goes env θ k r = (D : List Ty) (As : Tys) (ts : Terms) (p : Profile) → base_profile k ≡ Some p → length (type_list As) ≡ p.params →
    AreTyped env D ts (map (type_inst (type_at As)) p.args) →
    wd_base r (types_inst θ As) (term_list (retypes θ ts)) (map (retype θ) (wds env ts)) ≡ retype θ (wd_base r As (term_list ts) (wds env ts))

guard_goes : (env : Env) (θ : ℕ → Ty) (make : Term → Term → Term) → ((P Q : Term) → retype θ (make P Q) ≡ make (retype θ P) (retype θ Q)) → (ts : Terms) →
    guarded make (term_list (retypes θ ts)) (map (retype θ) (wds env ts)) ≡ retype θ (guarded make (term_list ts) (wds env ts))
guard_goes env θ make m ts =
    ap (λ us. guarded make us (map (retype θ) (wds env ts))) (term_list-retypes θ ts) ∙ sym (guarded-retype θ make m (term_list ts) (wds env ts))

bound_goes : (env : Env) (θ : ℕ → Ty) (D : List Ty) (As : Tys) (ts : Terms) (B : Ty) → 1 ≤ length (type_list As) → AreTyped env D ts (B ∷ []) →
    closed_over (types_inst θ As) (map (retype θ) (wds env ts)) ≡ retype θ (closed_over As (wds env ts))
bound_goes env θ D As nil B e h = absurd h
bound_goes env θ D As (cons P nil) B e h =
    sym (all-retype θ (type_at As 0) (wd env P) ∙ ap (λ A. make_all A (retype θ (wd env P))) (at_inst θ As 0 (omega (arith, e))))
bound_goes env θ D As (cons P (cons Q ts)) B e h = absurd h.1

children_go : (env : Env) (θ : ℕ → Ty) (a : Demand) (As : Tys) (ts : Terms) → HasEnough a (length (type_list As)) →
    joined (map (retype θ) (wds env ts) ++ parts_of a (types_inst θ As) (term_list (retypes θ ts))) ≡ retype θ (joined (wds env ts ++ parts_of a As (term_list ts)))
children_go env θ a As ts h =
    parts-retype θ (wds env ts) (parts_of a As (term_list ts)) (parts_of a (types_inst θ As) (term_list (retypes θ ts)))
    (demand-retype θ a As (term_list ts) h ∙ ap (parts_of a (types_inst θ As)) (sym (term_list-retypes θ ts)))

base_cases : (env : Env) (θ : ℕ → Ty) → RuleCases (Goes env θ)
base_cases env θ = record {
  conjunction = λ D As ts p e c g. guard_goes env θ make_imp (imp-retype θ) ts;
  implication = λ D As ts p e c g. guard_goes env θ make_imp (imp-retype θ) ts;
  disjunction = λ D As ts p e c g. guard_goes env θ make_or (or-retype θ) ts;
  for_all = λ D As ts p e c g. bound_goes env θ D As ts Prop (let n : 1 ≡ p.params = ap params_or e in omega arith) (subst (λ Bs. AreTyped env D ts (map (type_inst (type_at As)) Bs)) (sym (ap args_or e)) g);
  for_some = λ D As ts p e c g. bound_goes env θ D As ts Prop (let n : 1 ≡ p.params = ap params_or e in omega arith) (subst (λ Bs. AreTyped env D ts (map (type_inst (type_at As)) Bs)) (sym (ap args_or e)) g);
  set_former = λ D As ts p e c g. bound_goes env θ D As ts Prop (let n : 1 ≡ p.params = ap params_or e in omega arith) (subst (λ Bs. AreTyped env D ts (map (type_inst (type_at As)) Bs)) (sym (ap args_or e)) g);
  application = λ D As ts p e c g. children_go env θ Application As ts (let n : 2 ≡ p.params = ap params_or e in omega arith);
  quotient = λ D As ts p e c g. children_go env θ Quotient As ts tt;
  remainder = λ D As ts p e c g. children_go env θ Remainder As ts tt;
  power = λ D As ts p e c g. children_go env θ Power As ts tt;
  cardinality = λ D As ts p e c g. children_go env θ Cardinality As ts (let n : 1 ≡ p.params = ap params_or e in omega arith);
  intersection = λ D As ts p e c g. children_go env θ Intersection As ts (let n : 1 ≡ p.params = ap params_or e in omega arith);
  minimum = λ D As ts p e c g. children_go env θ Minimum As ts tt;
  maximum = λ D As ts p e c g. children_go env θ Maximum As ts tt;
  others = λ k z D As ts p e c g. children_go env θ Nothing As ts tt;
}

user_goes : (env : Env) → IsWellFormed env → (θ : ℕ → Ty) (n : Name) (As : Tys) (ts : Terms) (s : Symbol) → find_symbol env n ≡ Some s →
    (symbol_profile s).params ≡ length (type_list As) →
    joined (map (retype θ) (wds env ts) ++ parts_of_symbol (find_symbol env n) (types_inst θ As) (term_list (retypes θ ts)))
    ≡ retype θ (joined (wds env ts ++ parts_of_symbol (find_symbol env n) As (term_list ts)))
user_goes env w θ n As ts s e c =
    parts-retype θ (wds env ts) (parts_of_symbol (find_symbol env n) As (term_list ts)) (parts_of_symbol (find_symbol env n) (types_inst θ As) (term_list (retypes θ ts)))
    (ap (λ o. map (retype θ) (parts_of_symbol o As (term_list ts))) e
    ∙ symbol-retype env θ s As (term_list ts) (good_symbol env w n s e) c
    ∙ ap (parts_of_symbol (Some s) (types_inst θ As)) (sym (term_list-retypes θ ts))
    ∙ ap (λ o. parts_of_symbol o (types_inst θ As) (term_list (retypes θ ts))) (sym e))

mutual
  pub wd-retype : (env : Env) → IsWellFormed env → (t : Term) (C : List Ty) (A : Ty) → Typed env C t A → (θ : ℕ → Ty) → wd env (retype θ t) ≡ retype θ (wd env t)
  wd-retype env w (var i) C A h θ = refl
  wd-retype env w (lit n) C A h θ = refl
  wd-retype env w (node (Base j) As ts) C A h θ =
      some_out (base_profile j) (λ p e g.
      ap (wd_base (rule_of j) (types_inst θ As) (term_list (retypes θ ts))) (wds-retypes env w ts (inside C (Base j) As) (map (type_inst (type_at As)) p.args) g.children θ)
      ∙ rule_cases (Goes env θ) (base_cases env θ) j (inside C (Base j) As) As ts p e g.count g.children) h
  wd-retype env w (node (User n) As ts) C A h θ =
      some_out (profile env (User n)) (λ p e g.
      ap (λ Ds. joined (Ds ++ parts_of_symbol (find_symbol env n) (types_inst θ As) (term_list (retypes θ ts))))
      (wds-retypes env w ts (inside C (User n) As) (map (type_inst (type_at As)) p.args) g.children θ)
      ∙ some_symbol (find_symbol env n) p e (λ s f q. user_goes env w θ n As ts s f (ap (λ (r : Profile). r.params) q ∙ sym g.count))) h

  pub wds-retypes : (env : Env) → IsWellFormed env → (ts : Terms) (C As : List Ty) → AreTyped env C ts As → (θ : ℕ → Ty) → wds env (retypes θ ts) ≡ map (retype θ) (wds env ts)
  wds-retypes env w nil C As h θ = refl
  wds-retypes env w (cons t ts) C [] h θ = absurd h
  wds-retypes env w (cons t ts) C (A ∷ As) h θ =
      let p = wd-retype env w t C A h.0 θ in let q = wds-retypes env w ts C As h.1 θ in cc

pub instance_law : ConditionOfInstance
instance_law env w C t A h As = wd-retype env w t C A h (type_at As)
