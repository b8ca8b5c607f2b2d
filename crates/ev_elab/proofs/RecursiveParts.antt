-- Parts of the law of recursive operators: the environments with the operator, its bodies in the order of the constructors, that what
-- is not refused is guarded, and how deep bodies are.
use Rattle.std.specs.Prelude.{◌≡◌, ◌<◌, ◌≤◌, ◌+◌, ◌-◌, ◌++◌, ℕ, zero, suc, Bool as Boolean, true, false, cond, List, [], ◌∷◌, Option, Some, None, map, flat_map, length, slice_get, fold, option_map, bytes_eq, Contains, IsFalse, refl}
use Rattle.std.specs.List.{AllByRecursion, AllZip}
use Rattle.std.proofs.Common.{ap, sym, ◌∙◌, subst as transport, arith}
use Rattle.ev_terms.specs.declared.types.Ty.{Ty, Int, Bool, Prop, Param, Data as DataType}
use Rattle.ev_terms.specs.declared.types.Tys.{Tys}
use Rattle.ev_terms.specs.declared.types.Sym.{Sym}
use Rattle.ev_terms.specs.declared.types.Sym.TheVariants.{Base, User}
use Rattle.ev_terms.specs.Types.{pow, prod}
use Rattle.ev_terms.specs.Term.{Term, Terms, var, lit, node, nil, cons, term_list}
use Rattle.ev_terms.specs.Symbols.{binds}
use Rattle.ev_terms.specs.Measures.{depth}
use Rattle.ev_forms.specs.Forms.{equation, forall_all, vars, call}
use Rattle.ev_typing.specs.declared.typing.Entry.TheVariants as entry
use Rattle.ev_typing.specs.declared.typing.DataDecl.{DataDecl}
use Rattle.ev_typing.specs.declared.typing.Con.{Con}
use Rattle.ev_typing.specs.declared.typing.Signature.{Signature}
use Rattle.ev_typing.specs.TypeLists.{own_types}
use Rattle.ev_typing.specs.Env.{Env, Name, Symbol, ConstantOf, RecursiveOf, look_up, symbols, datatypes, find_symbol, find_data, symbol_profile}
use Rattle.ev_typing.specs.Occurs.{is_direct_symbol, is_direct, IsPlain, ArePlain}
use Rattle.ev_typing.specs.WellFormed.{case_context}
use Rattle.ev_typing.proofs.Wholes.{HasAll}
use Rattle.ev_data.specs.Closed.{case_arguments, recursion_formula}
use Rattle.ev_data.specs.Guarded.{IsRecursiveVar, IsVarOf, seen_under, IsGuarded, AreGuarded}
use Rattle.ev_ops.specs.declared.cases.Case.{Case}
use Rattle.ev_ops.specs.Admission.{case_count, case_bodies}
use Rattle.ev_ops.proofs.Basics.{contains_first, contains_more}
use Rattle.ev_elab.specs.Readings.{body_for}
use Rattle.ev_elab.proofs.Gathering.{not_less}
use Rattle.ev_elab.proofs.SameTypes.{IsStable, types_stable, optional_stable}

-- An environment with the operator as a constant, and with it as a recursive operator.
look_up_same : {X Y : Type 0} (F : Option X → Y) (ps qs rs : List (Name × X)) (n : Name) → F (look_up qs n) ≡ F (look_up rs n) → F (look_up (ps ++ qs) n) ≡ F (look_up (ps ++ rs) n)
look_up_same F [] qs rs n h = h
look_up_same F (p ∷ ps) qs rs n h = by (bytes_eq p.0 n) (look_up_same F ps qs rs n h)
  where
    by : (b : Boolean) → F (look_up (ps ++ qs) n) ≡ F (look_up (ps ++ rs) n) → F (cond b (Some p.1) (look_up (ps ++ qs) n)) ≡ F (cond b (Some p.1) (look_up (ps ++ rs) n))
    by true g = refl
    by false g = g

module _ (sig : Signature) (condition : Option Term) (place : ℕ) (bodies : List Term) where
  symbols_same : {Y : Type 0} (F : Option Symbol → Y) → F (Some (ConstantOf sig None)) ≡ F (Some (RecursiveOf sig condition place bodies)) → (env : Env) (n : Name) →
      F (find_symbol (env ++ entry.Constant sig None ∷ []) n) ≡ F (find_symbol (env ++ entry.Recursive sig condition place bodies ∷ []) n)
  symbols_same {Y} F h [] n = by (bytes_eq sig.name n)
    where
      by : (b : Boolean) → F (cond b (Some (ConstantOf sig None)) None) ≡ F (cond b (Some (RecursiveOf sig condition place bodies)) None)
      by true = h
      by false = refl
  symbols_same F h (e ∷ env) n =
      look_up_same F (symbols e) (flat_map symbols (env ++ entry.Constant sig None ∷ [])) (flat_map symbols (env ++ entry.Recursive sig condition place bodies ∷ [])) n (symbols_same F h env n)

  data_same : (env : Env) (n : Name) → find_data (env ++ entry.Constant sig None ∷ []) n ≡ find_data (env ++ entry.Recursive sig condition place bodies ∷ []) n
  data_same [] n = refl
  data_same (e ∷ env) n =
      look_up_same (λ o. o) (datatypes e) (flat_map datatypes (env ++ entry.Constant sig None ∷ [])) (flat_map datatypes (env ++ entry.Recursive sig condition place bodies ∷ [])) n (data_same env n)

  pub operator_has_all : (env : Env) → HasAll (env ++ entry.Constant sig None ∷ []) (env ++ entry.Recursive sig condition place bodies ∷ [])
  operator_has_all env = record {
    profiles = λ n p h. sym (symbols_same (option_map symbol_profile) refl env n) ∙ h;
    decls = λ n d h. sym (data_same env n) ∙ h;
  }

  direct_same : (env : Env) (s : Sym) → is_direct (env ++ entry.Constant sig None ∷ []) s ≡ is_direct (env ++ entry.Recursive sig condition place bodies ∷ []) s
  direct_same env (Base j) = refl
  direct_same env (User n) = symbols_same is_direct_symbol refl env n

  mutual
    pub plain_same : (env : Env) (t : Term) → IsPlain (env ++ entry.Constant sig None ∷ []) t → IsPlain (env ++ entry.Recursive sig condition place bodies ∷ []) t
    plain_same env (var i) h = tt
    plain_same env (lit n) h = tt
    plain_same env (node s As ts) h = (transport IsFalse (direct_same env s) h.0, all_plain_same env ts h.1)

    all_plain_same : (env : Env) (ts : Terms) → ArePlain (env ++ entry.Constant sig None ∷ []) ts → ArePlain (env ++ entry.Recursive sig condition place bodies ∷ []) ts
    all_plain_same env nil h = tt
    all_plain_same env (cons t ts) h = (plain_same env t h.0, all_plain_same env ts h.1)

-- Bodies in the order of the constructors.
pub record IsFirst (P : Case → Type 0) (cs : List Case) (c : Con) (j : Case) : Type 0 where
  pub among : Contains cs j
  pub holds : P j
  pub named : bytes_eq j.con c.name ≡ true
  pub is : body_for cs c ≡ j.body ∷ []
  pub body_among : Contains (case_bodies cs) j.body

pub first_case : (P : Case → Type 0) (cs : List Case) (c : Con) → AllByRecursion P cs → ¬ (case_count cs c ≡ 0) → (j : Case) × IsFirst P cs c j
first_case P [] c h n = absurd (n refl)
first_case P (k ∷ cs) c h n = by (bytes_eq k.con c.name) refl (first_case P cs c h.1)
  where
    by : (b : Boolean) → bytes_eq k.con c.name ≡ b → (¬ (case_count cs c ≡ 0) → (j : Case) × IsFirst P cs c j) → (j : Case) × IsFirst P (k ∷ cs) c j
    by true e r = (
      k,
      record {
        among = contains_first k cs;
        holds = h.0;
        named = e;
        is = ap (λ b. cond b (k.body ∷ []) (body_for cs c)) e;
        body_among = contains_first k.body (case_bodies cs);
      },
    )
    by false e r =
        let (j, f) = r (λ z. n (ap (λ b. fold (λ a x. a + cond {A = ℕ} (bytes_eq x.con c.name) 1 0) (0 + cond {A = ℕ} b 1 0) cs) e ∙ z)) in (
          j,
          record {
            among = contains_more j k cs f.among;
            holds = f.holds;
            named = f.named;
            is = ap (λ b. cond b (k.body ∷ []) (body_for cs c)) e ∙ f.is;
            body_among = contains_more j.body k.body (case_bodies cs) f.body_among;
          },
        )

pub zip_bodies : (Q : Con → Term → Type 0) (ks : List Case) (cs : List Con) → ((c : Con) → Contains cs c → (b : Term) × (body_for ks c ≡ b ∷ []) × Q c b) → AllZip Q cs (flat_map (body_for ks) cs)
zip_bodies Q ks [] h = tt
zip_bodies Q ks (c ∷ cs) h =
    let (b, e, q) = h c (contains_first c cs) in
    transport (λ bs. AllZip Q (c ∷ cs) (bs ++ flat_map (body_for ks) cs)) (sym e) (q, zip_bodies Q ks cs (λ d i. h d (contains_more d c cs i)))

pub zip_map : (Q R : Con → Term → Type 0) (f : Term → Term) → ((c : Con) (b : Term) → Q c b → R c (f b)) → (cs : List Con) (bs : List Term) → AllZip Q cs bs → AllZip R cs (map f bs)
zip_map Q R f k [] [] h = tt
zip_map Q R f k [] (b ∷ bs) h = h
zip_map Q R f k (c ∷ cs) [] h = h
zip_map Q R f k (c ∷ cs) (b ∷ bs) h = (k c b h.0, zip_map Q R f k cs bs h.1)

pub contained_all : {X : Type 0} (P : X → Type 0) (xs : List X) (x : X) → AllByRecursion P xs → Contains xs x → P x
contained_all P [] x h (i, l, e) = absurd (omega (arith, l))
contained_all P (y ∷ xs) x h (zero, l, e) = transport P e h.0
contained_all P (y ∷ xs) x h (suc i, l, e) = contained_all P xs x h.1 (i, omega (arith, l), e)

-- What is not denied to be guarded is guarded.
module _ (sig : Signature) (place : ℕ) where
  le_stable : (m n : ℕ) → IsStable (m ≤ n)
  le_stable m n h = not_less n m (λ l. h (λ q. omega (arith, l, q)))

  lt_stable : (m n : ℕ) → IsStable (m < n)
  lt_stable m n h = let q = not_less n (suc m) (λ l. h (λ q. omega (arith, l, q))) in omega (arith, q)

  seen_stable : (P : ℕ → Type 0) → ((i : ℕ) → IsStable (P i)) → (n i : ℕ) → IsStable (seen_under n P i)
  seen_stable P k n i h = (le_stable n i (λ f. h (λ q. f q.0)), k (i - n) (λ f. h (λ q. f q.1)))

  var_stable : (P : ℕ → Type 0) → ((i : ℕ) → IsStable (P i)) → (o : Option Term) → IsStable (IsVarOf P o)
  var_stable P k None h = absurd (h (λ q. q))
  var_stable P k (Some (var i)) h = k i h
  var_stable P k (Some (lit n)) h = absurd (h (λ q. q))
  var_stable P k (Some (node s As ts)) h = absurd (h (λ q. q))

  mutual
    pub guarded_stable : (P : ℕ → Type 0) → ((i : ℕ) → IsStable (P i)) → (t : Term) → IsStable (IsGuarded sig place P t)
    guarded_stable P k (var i) h = tt
    guarded_stable P k (lit n) h = tt
    guarded_stable P k (node s As ts) h = (
      (λ c. (types_stable As (own_types sig.params) (λ f. h (λ q. f (q.0 c).0)), var_stable P k (slice_get (term_list ts) place) (λ f. h (λ q. f (q.0 c).1)))),
      all_guarded_stable (seen_under (binds s) P) (seen_stable P k (binds s)) ts (λ f. h (λ q. f q.1)),
    )

    all_guarded_stable : (P : ℕ → Type 0) → ((i : ℕ) → IsStable (P i)) → (ts : Terms) → IsStable (AreGuarded sig place P ts)
    all_guarded_stable P k nil h = tt
    all_guarded_stable P k (cons t ts) h = (guarded_stable P k t (λ f. h (λ q. f q.0)), all_guarded_stable P k ts (λ f. h (λ q. f q.1)))

  pub recursive_stable : (d : DataDecl) (As : Tys) (c : Con) (n i : ℕ) → IsStable (IsRecursiveVar sig place d As c n i)
  recursive_stable d As c n i h = record {
    from = le_stable n i (λ f. h (λ q. f q.from));
    to = lt_stable i (n + length c.fields) (λ f. h (λ q. f q.to));
    type = optional_stable _ (DataType d.name As) (λ f. h (λ q. f q.type));
  }

-- A body is less deep than its equation.
under_all : (Bs : List Ty) (P t : Term) → depth t ≤ depth P → depth t ≤ depth (forall_all Bs P)
under_all [] P t h = h
under_all (B ∷ Bs) P t h = let q = under_all Bs P t h in omega (arith, q)

in_equation : (A : Ty) (s t : Term) → depth t ≤ depth (equation A s t)
in_equation Int s t = omega arith
in_equation Bool s t = omega arith
in_equation Prop s t = omega arith
in_equation (Param i) s t = omega arith
in_equation (pow A) s t = omega arith
in_equation (prod A B) s t = omega arith
in_equation (DataType n As) s t = omega arith

pub body_depth : (sig : Signature) (place : ℕ) (As : Tys) (c : Con) (body : Term) → depth body ≤ depth (recursion_formula sig place As c body)
body_depth sig place As c body =
    let C = case_context sig place As c in
    let s = call sig.name (own_types sig.params) (case_arguments place (length c.fields) c As (vars (length C))) in
    under_all C (equation sig.result s body) body (in_equation sig.result s body)
