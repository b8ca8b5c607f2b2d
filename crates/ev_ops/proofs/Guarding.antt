-- Where a recursive operator calls itself, as the code tests it.
use Rattle.std.proofs.Common.{◌≡◌, ◌≢◌, ℕ, zero, suc, ◌+◌, ◌-◌, ◌≤◌, ◌<◌, Bool as Boolean, true, false, Option, Some, None, List, [], ◌∷◌, ◌++◌, length, get_or, take, drop, map, reverse, ap, sym, ◌∙◌, subst, refl, arith, true≢false}
use Rattle.std.specs.Prelude.{◌↔◌, ◌||◌, ◌&&◌, ◌==◌, not, IsTrue, IfNone, slice_get, bytes_eq}
use Rattle.std.proofs.lemmas.List.{length-reverse, length-map, reverse-append}
use Rattle.std.proofs.lemmas.Bool.Decides.{nat_tests}
use Rattle.ev_terms.specs.declared.types.Ty.{Ty, Param, Data}
use Rattle.ev_terms.specs.declared.types.Tys.{Tys, Empty}
use Rattle.ev_terms.specs.declared.types.Tys.TheVariants.{More}
use Rattle.ev_terms.specs.declared.types.Ty.TheVariants.{Pow, Prod}
use Rattle.ev_terms.specs.declared.types.Sym.{Sym}
use Rattle.ev_terms.specs.declared.types.Sym.TheVariants.{Base, User}
use Rattle.ev_terms.specs.Types.{pow, prod, more, type_list, Pow-pow, Prod-prod, More-more}
use Rattle.ev_terms.specs.Term.{Term, Terms, var, lit, node, nil, cons, terms, term_list, var_of, term_list-terms}
use Rattle.ev_terms.specs.Symbols.{binds}
use Rattle.ev_terms.specs.Measures.{loose, all_loose, capped}
use Rattle.ev_terms.specs.Substitution.{type_inst, types_inst, type_at}
use Rattle.ev_terms.proofs.Children as children
use Rattle.ev_terms.proofs.TypeSteps.{type_list-More}
use Rattle.ev_typing.specs.declared.typing.Signature.{Signature}
use Rattle.ev_typing.specs.declared.typing.Con.{Con}
use Rattle.ev_typing.specs.declared.typing.Var.{Var}
use Rattle.ev_typing.specs.TypeLists.{own_types, params_from}
use Rattle.ev_typing.specs.Env.{Name, field_types}
use Rattle.ev_typing.specs.Typing.{var_type}
use Rattle.ev_typing.specs.WellFormed.{case_context}
use Rattle.ev_typing.proofs.Names.{same_name, name_same}
use Rattle.ev_data.specs.Guarded.{is_named, IsVarOf, IsGuardedCall, IsGuarded, AreGuarded, seen_under}
use Rattle.ev_ops.specs.inner.Tests.{behind, IsOwnVar, IsSeenVar, IsSeen, IsGuardedUnder, AreGuardedUnder, calls, some_call}

or_false : (a b : Boolean) → (a || b) ≡ false → (a ≡ false) × (b ≡ false)
or_false true b e = absurd (true≢false e)
or_false false b e = (refl, e)

none_of : (a b : Boolean) → a ≡ false → b ≡ false → (a || b) ≡ false
none_of a b e f = cc

user_binds : (n : Name) → binds (User n) ≡ 0
unfolding binds
user_binds n = refl

module _ (sig : Signature) (place : ℕ) where
  -- what is asked of variables may be weakened
  var_map : (P Q : ℕ → Type 0) → ((i : ℕ) → P i → Q i) → (o : Option Term) → IsVarOf P o → IsVarOf Q o
  var_map P Q f None h = h
  var_map P Q f (Some (var i)) h = f i h
  var_map P Q f (Some (lit n)) h = h
  var_map P Q f (Some (node s As ts)) h = h

  mutual
    pub guarded_map : (P Q : ℕ → Type 0) → ((i : ℕ) → P i → Q i) → (t : Term) → IsGuarded sig place P t → IsGuarded sig place Q t
    guarded_map P Q f (var i) h = tt
    guarded_map P Q f (lit n) h = tt
    guarded_map P Q f (node s As ts) h = (
      (λ e. let g = h.0 e in (g.0, var_map P Q f (slice_get (term_list ts) place) g.1)),
      all_guarded_map (seen_under (binds s) P) (seen_under (binds s) Q) (λ i k. (k.0, f (i - binds s) k.1)) ts h.1,
    )

    all_guarded_map : (P Q : ℕ → Type 0) → ((i : ℕ) → P i → Q i) → (ts : Terms) → AreGuarded sig place P ts → AreGuarded sig place Q ts
    all_guarded_map P Q f nil h = tt
    all_guarded_map P Q f (cons t ts) h = (guarded_map P Q f t h.0, all_guarded_map P Q f ts h.1)

  -- a term in which the operator is not called
  mutual
    uncalled : (P : ℕ → Type 0) (t : Term) → calls sig.name t ≡ false → IsGuarded sig place P t
    uncalled P (var i) h = tt
    uncalled P (lit n) h = tt
    uncalled P (node s As ts) h =
        let q = or_false (is_named sig.name s) (some_call sig.name ts) h in
        ((λ e. absurd (true≢false (sym e ∙ q.0))), all_uncalled (seen_under (binds s) P) ts q.1)

    all_uncalled : (P : ℕ → Type 0) (ts : Terms) → some_call sig.name ts ≡ false → AreGuarded sig place P ts
    all_uncalled P nil h = tt
    all_uncalled P (cons t ts) h = let q = or_false (calls sig.name t) (some_call sig.name ts) h in (uncalled P t q.0, all_uncalled P ts q.1)

  -- where no variable may stand, the operator is not called
  no_argument : (P : ℕ → Type 0) (m : ℕ) → ((i : ℕ) → i < m → ¬ P i) → (ts : Terms) (k : ℕ) → all_loose ts ≤ m → IsVarOf P (slice_get (term_list ts) k) → ⊥
  no_argument P m f nil k l h = h
  no_argument P m f (cons (var i) ts) zero l h = f i (omega arith) h
  no_argument P m f (cons (lit n) ts) zero l h = h
  no_argument P m f (cons (node s As us) ts) zero l h = h
  no_argument P m f (cons t ts) (suc k) l h = no_argument P m f ts k (omega arith) h

  no_call : (P : ℕ → Type 0) (m : ℕ) → ((i : ℕ) → i < m → ¬ P i) → (s : Sym) (As : Tys) (ts : Terms) → all_loose ts - binds s ≤ m → IsGuardedCall sig place P s As ts → is_named sig.name s ≡ false
  no_call P m f (Base k) As ts l h = refl
  no_call P m f (User n) As ts l h = by (bytes_eq n sig.name) refl
    where
      by : (b : Boolean) → bytes_eq n sig.name ≡ b → b ≡ false
      by false e = refl
      by true e = absurd (no_argument P m f ts place (omega (arith, l, user_binds n)) (h e).1)

  mutual
    unseen : (P : ℕ → Type 0) (m : ℕ) → ((i : ℕ) → i < m → ¬ P i) → (t : Term) → loose t ≤ m → IsGuarded sig place P t → calls sig.name t ≡ false
    unseen P m f (var i) l h = refl
    unseen P m f (lit n) l h = refl
    unseen P m f (node s As ts) l h =
        none_of (is_named sig.name s) (some_call sig.name ts) (no_call P m f s As ts l h.0)
        (all_unseen (seen_under (binds s) P) (m + binds s) (λ i k q. f (i - binds s) (omega (arith, k, q.0)) q.1) ts (omega (arith, l)) h.1)

    all_unseen : (P : ℕ → Type 0) (m : ℕ) → ((i : ℕ) → i < m → ¬ P i) → (ts : Terms) → all_loose ts ≤ m → AreGuarded sig place P ts → some_call sig.name ts ≡ false
    all_unseen P m f nil l h = refl
    all_unseen P m f (cons t ts) l h =
        none_of (calls sig.name t) (some_call sig.name ts) (unseen P m f t (omega arith) h.0) (all_unseen P m f ts (omega arith) h.1)

-- Binders one after another.
inwards : (P : ℕ → Type 0) (d b i : ℕ) → seen_under b (seen_under d P) i → seen_under (d + b) P i
inwards P d b i h =
    let e : i - b - d ≡ i - (d + b) = omega arith in
    (omega (arith, h.0, h.1.0), subst P e h.1.1)

outwards : (P : ℕ → Type 0) (d b i : ℕ) → seen_under (d + b) P i → seen_under b (seen_under d P) i
outwards P d b i h =
    let e : i - (d + b) ≡ i - b - d = omega arith in
    (omega (arith, h.0), (omega (arith, h.0), subst P e h.1))

module _ (sig : Signature) (place : ℕ) (own : Ty) (As : Tys) (c : Con) where
  abbrev own_var : ℕ → Type 0
  own_var = IsOwnVar sig place own As c

  -- a term without variables from outside
  pub closed : (d : ℕ) (t : Term) (r q : Boolean) → loose t ≤ d → q ≡ calls sig.name t → r ≡ not q → IsTrue r ↔ IsGuardedUnder sig place own As c d t
  closed d t r q l e f = (to, from)
    where
      flip : (b : Boolean) → not b ≡ true → b ≡ false
      flip true g = absurd (true≢false (sym g))
      flip false g = refl

      to : IsTrue r → IsGuardedUnder sig place own As c d t
      to h = uncalled sig place (seen_under d own_var) t (sym e ∙ flip q (sym f ∙ h))

      from : IsGuardedUnder sig place own As c d t → IsTrue r
      from h = f ∙ ap not (e ∙ unseen sig place (seen_under d own_var) d (λ i k m. omega (arith, k, m.0)) t l h)

  pub leaf : (d : ℕ) (t : Term) → ((s : Sym) (Bs : Tys) (ts : Terms) → t ≢ node s Bs ts) → IsTrue true ↔ IsGuardedUnder sig place own As c d t
  leaf d (var i) h = ((λ e. tt), (λ g. refl))
  leaf d (lit n) h = ((λ e. tt), (λ g. refl))
  leaf d (node s Bs ts) h = absurd (h s Bs ts refl)

  seen_list : (d : ℕ) (Bs : Tys) (ts : List Term) → IsSeen sig place own As c d Bs ts → IsSeen sig place own As c d Bs (term_list (terms ts))
  seen_list d Bs ts h = (h.0, subst (λ us. IsVarOf (IsSeenVar sig place own As c d) (slice_get us place)) (sym (term_list-terms ts)) h.1)

  list_seen : (d : ℕ) (Bs : Tys) (ts : List Term) → IsSeen sig place own As c d Bs (term_list (terms ts)) → IsSeen sig place own As c d Bs ts
  list_seen d Bs ts h = (h.0, subst (λ us. IsVarOf (IsSeenVar sig place own As c d) (slice_get us place)) (term_list-terms ts) h.1)

  -- a call that is not as it must be
  pub refused : (d : ℕ) (t : Term) (s : Sym) (Bs : Tys) (ts : List Term) (q : Boolean) → t ≡ node s Bs (terms ts) → q ≡ false → (IsTrue q ↔ (is_named sig.name s ≡ true → IsSeen sig place own As c d Bs ts)) →
      IsTrue false ↔ IsGuardedUnder sig place own As c d t
  refused d t s Bs ts q e f k = (
    (λ h. absurd (true≢false (sym h))),
    (λ h. absurd (true≢false (sym (k.1 (λ n. list_seen d Bs ts ((subst (IsGuardedUnder sig place own As c d) e h).0 n))) ∙ f))),
  )

  node_to : (d : ℕ) (s : Sym) (Bs : Tys) (ts : List Term) → (is_named sig.name s ≡ true → IsSeen sig place own As c d Bs ts) → AreGuardedUnder sig place own As c (d + binds s) (terms ts) →
      IsGuardedUnder sig place own As c d (node s Bs (terms ts))
  node_to d s Bs ts f g = (
    (λ e. seen_list d Bs ts (f e)),
    all_guarded_map sig place (seen_under (d + binds s) own_var) (seen_under (binds s) (seen_under d own_var)) (outwards own_var d (binds s)) (terms ts) g,
  )

  -- a node whose call, if it is one, is as it must be
  pub at_node : (d k : ℕ) (t : Term) (s : Sym) (Bs : Tys) (ts : List Term) (r : Boolean) → t ≡ node s Bs (terms ts) → k ≡ d + binds s → (is_named sig.name s ≡ true → IsSeen sig place own As c d Bs ts) →
      (IsTrue r ↔ AreGuardedUnder sig place own As c k (terms ts)) → IsTrue r ↔ IsGuardedUnder sig place own As c d t
  at_node d k t s Bs ts r e m f g = (
    (λ h. subst (IsGuardedUnder sig place own As c d) (sym e) (node_to d s Bs ts f (subst (λ j. AreGuardedUnder sig place own As c j (terms ts)) m (g.0 h)))),
    (λ h. g.1 (subst (λ j. AreGuardedUnder sig place own As c j (terms ts)) (sym m)
        (all_guarded_map sig place (seen_under (binds s) (seen_under d own_var)) (seen_under (d + binds s) own_var) (inwards own_var d (binds s)) (terms ts) (subst (IsGuardedUnder sig place own As c d) e h).1))),
  )

  -- terms, one by one
  pub one_more : (d i : ℕ) (ts : List Term) (t : Term) (r : Boolean) → t ≡ get_or ts i t → i < length ts → r ≡ true → (IsTrue r ↔ IsGuardedUnder sig place own As c d t) →
      (AreGuardedUnder sig place own As c d (terms (drop i ts)) ↔ AreGuardedUnder sig place own As c d (terms ts)) →
      (AreGuardedUnder sig place own As c d (terms (drop (i + 1) ts)) ↔ AreGuardedUnder sig place own As c d (terms ts))
  one_more d i ts t r p h e k q =
      let f : terms (drop i ts) ≡ cons t (terms (drop (i + 1) ts)) = ap terms (children.drop_at ts i t p h) in (
        (λ g. q.0 (subst (AreGuardedUnder sig place own As c d) (sym f) (k.0 e, g))),
        (λ g. (subst (AreGuardedUnder sig place own As c d) f (q.1 g)).1),
      )

  pub one_refused : (d i : ℕ) (ts : List Term) (t : Term) (r : Boolean) → t ≡ get_or ts i t → i < length ts → r ≡ false → (IsTrue r ↔ IsGuardedUnder sig place own As c d t) →
      (AreGuardedUnder sig place own As c d (terms (drop i ts)) ↔ AreGuardedUnder sig place own As c d (terms ts)) → IsTrue false ↔ AreGuardedUnder sig place own As c d (terms ts)
  one_refused d i ts t r p h e k q =
      let f : terms (drop i ts) ≡ cons t (terms (drop (i + 1) ts)) = ap terms (children.drop_at ts i t p h) in
      ((λ g. absurd (true≢false (sym g))), (λ g. absurd (true≢false (sym (k.1 (subst (AreGuardedUnder sig place own As c d) f (q.1 g)).0) ∙ e))))

  pub all_done : (d i : ℕ) (ts : List Term) → length ts ≤ i → (AreGuardedUnder sig place own As c d (terms (drop i ts)) ↔ AreGuardedUnder sig place own As c d (terms ts)) → IsTrue true ↔ AreGuardedUnder sig place own As c d (terms ts)
  all_done d i ts h q =
      let f : terms (drop i ts) ≡ nil = ap terms (children.drop_all ts i h) in
      ((λ e. q.0 (subst (AreGuardedUnder sig place own As c d) (sym f) tt)), (λ g. refl))

pub ruleset walk = (children.walk, closed, leaf, refused, at_node, one_more, one_refused, all_done)

-- Calls.
pub calls_leaf : (n : Name) (t : Term) → ((s : Sym) (Bs : Tys) (ts : Terms) → t ≢ node s Bs ts) → false ≡ calls n t
calls_leaf n (var i) h = refl
calls_leaf n (lit k) h = refl
calls_leaf n (node s Bs ts) h = absurd (h s Bs ts refl)

pub calls_node : (n : Name) (t : Term) (s : Sym) (Bs : Tys) (ts : List Term) → t ≡ node s Bs (terms ts) → (is_named n s || some_call n (terms ts)) ≡ calls n t
calls_node n t s Bs ts e = sym (ap (calls n) e)

pub ruleset calling = (children.walk, calls_leaf, calls_node)

-- Own type parameters.
pub own_empty : (Bs : Tys) (i n : ℕ) (r : Boolean) → Bs ≡ Empty → i ≤ n → r ≡ (i == n) → IsTrue r ↔ (Bs ≡ params_from i (n - i))
own_empty Bs i n r e h f = by (n - i) refl
  where
    by : (k : ℕ) → n - i ≡ k → IsTrue r ↔ (Bs ≡ params_from i k)
    by zero p = ((λ g. e), (λ g. let m : i ≡ n = omega arith in f ∙ grind (arith, nat_tests, m)))
    by (suc k) p = ((λ g. let no : (i == n) ≡ false = grind (arith, nat_tests, p) in absurd (true≢false (sym g ∙ f ∙ no))), (λ g. absurd (differ (sym e ∙ g))))
      where
        differ : Empty ≡ params_from i (suc k) → ⊥
        differ q = cc

pub own_full : (Bs rest : Tys) (A : Ty) (i n : ℕ) → Bs ≡ More A rest → i ≡ n → IsTrue false ↔ (Bs ≡ params_from i (n - i))
own_full Bs rest A i n e h =
    let k : n - i ≡ 0 = omega arith in
    ((λ g. absurd (true≢false (sym g))), (λ g. absurd (differ (sym (e ∙ More-more A rest) ∙ g ∙ ap (params_from i) k))))
  where
    differ : more A rest ≡ params_from i 0 → ⊥
    differ q = cc

first_type : Ty → Tys → Ty
first_type D Empty = D
first_type D (more A As) = A

rest_types : Tys → Tys
rest_types Empty = Empty
rest_types (more A As) = As

split_more : (A B : Ty) (As Bs : Tys) → more A As ≡ more B Bs → (A ≡ B) × (As ≡ Bs)
unfolding first_type rest_types
split_more A B As Bs e = (ap (first_type A) e, ap rest_types e)

pub own_other : (Bs rest : Tys) (A B : Ty) (i n : ℕ) (q : Boolean) → Bs ≡ More A rest → B ≡ A → i ≤ n → i ≢ n → q ≡ false → (IsTrue q ↔ (B ≡ Param i)) → IsTrue false ↔ (Bs ≡ params_from i (n - i))
own_other Bs rest A B i n q e p h ne f k =
    let m : n - i ≡ suc (n - (i + 1)) = omega arith in (
      (λ g. absurd (true≢false (sym g))),
      (λ g. absurd (true≢false (sym (k.1 (p ∙ (split_more A (Param i) rest (params_from (i + 1) (n - (i + 1))) (sym (e ∙ More-more A rest) ∙ g ∙ ap (params_from i) m)).0)) ∙ f))),
    )

pub own_more : (Bs rest got : Tys) (A B : Ty) (i n : ℕ) (q r : Boolean) → Bs ≡ More A rest → B ≡ A → got ≡ rest → i ≤ n → i ≢ n → q ≡ true → (IsTrue q ↔ (B ≡ Param i)) →
    (IsTrue r ↔ (got ≡ params_from (i + 1) (n - (i + 1)))) → IsTrue r ↔ (Bs ≡ params_from i (n - i))
own_more Bs rest got A B i n q r e p g h ne f k w =
    let m : n - i ≡ suc (n - (i + 1)) = omega arith in
    let s : Bs ≡ more A rest = e ∙ More-more A rest in (
      (λ x. s ∙ ap (λ X. more X rest) (sym p ∙ k.0 f) ∙ ap (more (Param i)) (sym g ∙ w.0 x) ∙ sym (ap (params_from i) m)),
      (λ x. w.1 (g ∙ (split_more A (Param i) rest (params_from (i + 1) (n - (i + 1))) (sym s ∙ x ∙ ap (params_from i) m)).1)),
    )

-- Lists of types.
drop_none : (k : ℕ) → ◌≡◌ {A = List Ty} (drop k []) []
drop_none zero = refl
drop_none (suc k) = refl

pub behind_step : (Bs rest got : Tys) (A : Ty) (n : ℕ) (all : List Ty) → Bs ≡ More A rest → got ≡ rest → drop (n + 1) (type_list Bs) ≡ all → drop n (type_list got) ≡ all
behind_step Bs rest got A n all e g q =
    let j : n + 1 ≡ suc n = omega arith in
    ap (λ xs. drop n (type_list xs)) g ∙ sym (ap (λ i. drop i (type_list Bs)) j ∙ ap (drop (suc n)) (ap type_list e ∙ type_list-More A rest)) ∙ q

pub behind_here : (got : Tys) (n : ℕ) (all : List Ty) → n ≡ 0 → drop n (type_list got) ≡ all → type_list got ≡ all
behind_here got n all e q = sym (ap (λ i. drop i (type_list got)) e) ∙ q

pub behind_next : (got : Tys) (n m : ℕ) (all : List Ty) → n ≢ 0 → m ≡ n - 1 → drop n (type_list got) ≡ all → drop (m + 1) (type_list got) ≡ all
behind_next got n m all e f q = let j : m + 1 ≡ n = omega (arith, e, f) in ap (λ i. drop i (type_list got)) j ∙ q

pub behind_end : (left : Tys) (n : ℕ) (all : List Ty) → ((A : Ty) (rest : Tys) → left ≢ More A rest) → drop (n + 1) (type_list left) ≡ all → type_list left ≡ all
behind_end Empty n all h q = sym (drop_none (n + 1)) ∙ q
behind_end (more A rest) n all h q = absurd (h A rest (sym (More-more A rest)))

pub count_more : (Bs rest got : Tys) (A : Ty) (n m all : ℕ) → Bs ≡ More A rest → got ≡ rest → m ≡ capped (n + 1) → capped (n + length (type_list Bs)) ≡ all → capped (m + length (type_list got)) ≡ all
count_more Bs rest got A n m all e g h q =
    let a : length (type_list Bs) ≡ suc (length (type_list rest)) = ap length (ap type_list e ∙ type_list-More A rest) in
    let b : length (type_list got) ≡ length (type_list rest) = ap (λ xs. length (type_list xs)) g in
    omega (arith, a, b, h, q)

pub ruleset walked = (type_list-More, count_more)

-- A call, and its argument.
own_from : (sig : Signature) → params_from 0 (sig.params - 0) ≡ own_types sig.params
own_from sig = let z : sig.params - 0 ≡ sig.params = omega arith in ap (params_from 0) z

pub both : (a b : Boolean) (sig : Signature) (place : ℕ) (own : Ty) (As : Tys) (c : Con) (d : ℕ) (Bs : Tys) (ts : List Term) → (IsTrue a ↔ (Bs ≡ params_from 0 (sig.params - 0))) →
    (IsTrue b ↔ IsVarOf (IsSeenVar sig place own As c d) (slice_get ts place)) → IsTrue (a && b) ↔ IsSeen sig place own As c d Bs ts
both true b sig place own As c d Bs ts f g = ((λ e. (f.0 refl ∙ own_from sig, g.0 e)), (λ h. g.1 h.1))
both false b sig place own As c d Bs ts f g = ((λ e. absurd (true≢false (sym e))), (λ h. absurd (true≢false (sym (f.1 (h.0 ∙ sym (own_from sig)))))))

pub first_fails : (a : Boolean) (sig : Signature) (place : ℕ) (own : Ty) (As : Tys) (c : Con) (d : ℕ) (Bs : Tys) (ts : List Term) → a ≡ false → (IsTrue a ↔ (Bs ≡ params_from 0 (sig.params - 0))) →
    IsTrue a ↔ IsSeen sig place own As c d Bs ts
first_fails a sig place own As c d Bs ts e f = ((λ h. absurd (true≢false (sym h ∙ e))), (λ h. f.1 (h.0 ∙ sym (own_from sig))))

pub first_holds : (a b : Boolean) (sig : Signature) (place : ℕ) (own : Ty) (As : Tys) (c : Con) (d : ℕ) (Bs : Tys) (ts : List Term) → a ≡ true → (IsTrue a ↔ (Bs ≡ params_from 0 (sig.params - 0))) →
    (IsTrue b ↔ IsVarOf (IsSeenVar sig place own As c d) (slice_get ts place)) → IsTrue b ↔ IsSeen sig place own As c d Bs ts
first_holds a b sig place own As c d Bs ts e f g = ((λ h. (f.0 e ∙ own_from sig, g.0 h)), (λ h. g.1 h.1))

pub ruleset called = (both, first_fails, first_holds)

-- the argument is missing, no variable, or one
pub no_var : (P : ℕ → Type 0) (o : Option Term) (t : Term) → o ≡ Some t → None ≡ var_of t → IsTrue false ↔ IsVarOf P o
no_var P o (var i) e h = cc
no_var P o (lit n) e h = ((λ g. absurd (true≢false (sym g))), (λ g. absurd (subst (IsVarOf P) e g)))
no_var P o (node s Bs ts) e h = ((λ g. absurd (true≢false (sym g))), (λ g. absurd (subst (IsVarOf P) e g)))

pub no_child : (P : ℕ → Type 0) (o : Option Term) → o ≡ None → IsTrue false ↔ IsVarOf P o
no_child P o e = ((λ g. absurd (true≢false (sym g))), (λ g. absurd (subst (IsVarOf P) e g)))

var_is : (t : Term) (i : ℕ) → Some i ≡ var_of t → t ≡ var i
var_is (var j) i h = cc
var_is (lit n) i h = cc
var_is (node s Bs ts) i h = cc

pub shallow : (P : ℕ → Type 0) (o : Option Term) (t : Term) (i d : ℕ) (r : Boolean) → o ≡ Some t → Some i ≡ var_of t → (d ≤ i → ⊥) → r ≡ false → IsTrue r ↔ IsVarOf (seen_under d P) o
shallow P o t i d r e h l f =
    ((λ g. absurd (true≢false (sym g ∙ f))), (λ g. absurd (l (subst (IsVarOf (seen_under d P)) (e ∙ ap Some (var_is t i h)) g).0)))

pub deep : (P : ℕ → Type 0) (o : Option Term) (t : Term) (i j d : ℕ) (r : Boolean) → o ≡ Some t → Some i ≡ var_of t → d ≤ i → j ≡ i - d → (IsTrue r ↔ P j) → IsTrue r ↔ IsVarOf (seen_under d P) o
deep P o t i j d r e h l f k =
    let m : o ≡ Some (var i) = e ∙ ap Some (var_is t i h) in
    ((λ g. subst (IsVarOf (seen_under d P)) (sym m) (l, subst P f (k.0 g))), (λ g. k.1 (subst P (sym f) (subst (IsVarOf (seen_under d P)) m g).1)))

pub ruleset argued = (no_var, no_child, shallow, deep)

-- The type of a constructor's variable.
get_front : {X : Type 0} (xs ys : List X) (i : ℕ) → i < length xs → slice_get (xs ++ ys) i ≡ slice_get xs i
get_front [] ys i h = absurd (omega arith)
get_front (x ∷ xs) ys zero h = refl
get_front (x ∷ xs) ys (suc i) h = get_front xs ys i (omega arith)

get_behind : {X : Type 0} (xs ys : List X) (i k : ℕ) → i ≡ length xs + k → slice_get (xs ++ ys) i ≡ slice_get ys k
get_behind [] ys i k h = let e : i ≡ k = omega (arith, h) in ap (slice_get ys) e
get_behind (x ∷ xs) ys zero k h = absurd (omega arith)
get_behind (x ∷ xs) ys (suc i) k h = get_behind xs ys i k (omega arith)

pub get_reverse : {X : Type 0} (xs : List X) (i k : ℕ) → i + k + 1 ≡ length xs → slice_get (reverse xs) i ≡ slice_get xs k
get_reverse [] i k h = absurd (omega arith)
get_reverse (x ∷ xs) i zero h =
    ap (λ ys. slice_get ys i) (reverse-append (x ∷ []) xs) ∙ get_behind (reverse xs) (x ∷ []) i 0 (omega (arith, h, length-reverse xs))
get_reverse (x ∷ xs) i (suc k) h =
    ap (λ ys. slice_get ys i) (reverse-append (x ∷ []) xs) ∙ get_front (reverse xs) (x ∷ []) i (omega (arith, h, length-reverse xs)) ∙ get_reverse xs i k (omega arith)

pub get_map : {X Y : Type 0} (f : X → Y) (xs : List X) (k : ℕ) (x : X) → x ≡ get_or xs k x → k < length xs → slice_get (map f xs) k ≡ Some (f x)
get_map f [] k x e h = absurd (omega arith)
get_map f (y ∷ ys) zero x e h = ap (λ z. Some (f z)) (sym e)
get_map f (y ∷ ys) (suc k) x e h = get_map f ys k x e (omega arith)

reverse_spliced : (before fs after : List Ty) → reverse (before ++ (fs ++ after)) ≡ reverse after ++ (reverse fs ++ reverse before)
reverse_spliced before fs after =
    reverse-append before (fs ++ after) ∙ ap (λ xs. xs ++ reverse before) (reverse-append fs after) ∙ append_three (reverse after) (reverse fs) (reverse before)
  where
    append_three : (xs ys zs : List Ty) → (xs ++ ys) ++ zs ≡ xs ++ (ys ++ zs)
    append_three [] ys zs = refl
    append_three (x ∷ xs) ys zs = ap (λ us. x ∷ us) (append_three xs ys zs)

own_type_at : (sig : Signature) (place : ℕ) (As : Tys) (c : Con) (i k : ℕ) (f : Var) → behind sig place ≤ i → i < behind sig place + length c.fields → (i - behind sig place) + k + 1 ≡ length c.fields → f ≡ get_or c.fields k f →
    var_type (case_context sig place As c) i ≡ Some (type_inst (type_at As) f.ty)
own_type_at sig place As c i k f h l e g =
    ap (λ xs. slice_get xs i) (reverse_spliced before fs after)
    ∙ get_behind (reverse after) (reverse fs ++ reverse before) i (i - length after) (omega (arith, h, length-reverse after))
    ∙ get_front (reverse fs) (reverse before) (i - length after) (omega (arith, l, h, length-reverse fs, n))
    ∙ get_reverse fs (i - length after) k (omega (arith, e, n))
    ∙ get_map (type_inst (type_at As)) (field_types c) k f.ty (field c.fields k g) (omega (arith, e, m))
  where
    before : List Ty
    before = take place (type_list sig.args)

    after : List Ty
    after = drop (place + 1) (type_list sig.args)

    fs : List Ty
    fs = map (type_inst (type_at As)) (field_types c)

    m : length (field_types c) ≡ length c.fields
    m = length-map c.fields (λ (x : Var). x.ty)

    n : length fs ≡ length c.fields
    n = length-map (field_types c) (type_inst (type_at As)) ∙ m

    field : (xs : List Var) (j : ℕ) → f ≡ get_or xs j f → f.ty ≡ get_or (map (λ (x : Var). x.ty) xs) j f.ty
    field [] j q = refl
    field (x ∷ xs) zero q = ap (λ (y : Var). y.ty) q
    field (x ∷ xs) (suc j) q = field xs j q

pub own_var_is : (sig : Signature) (place : ℕ) (own : Ty) (As : Tys) (c : Con) (i n k : ℕ) (after : List Ty) (f : Var) (r : Boolean) → after ≡ drop (place + 1) (type_list sig.args) → n ≡ capped (length after) → i < 4294967296 →
    (i < n → ⊥) → (length c.fields ≤ i - n → ⊥) → k ≡ length c.fields - 1 - (i - n) → f ≡ get_or c.fields k f → (IsTrue r ↔ (type_inst (type_at As) f.ty ≡ own)) → IsTrue r ↔ IsOwnVar sig place own As c i
own_var_is sig place own As c i n k after f r a h small low high e g w =
    let b : behind sig place ≡ n = omega (arith, ap length (sym a), h, small, low) in
    let l : behind sig place ≤ i = omega (arith, b, low) in
    let m : i < behind sig place + length c.fields = omega (arith, b, low, high) in
    let t = own_type_at sig place As c i k f l m (omega (arith, b, e, low, high)) g in
    ((λ x. (l, m, t ∙ ap Some (w.0 x))), (λ x. w.1 (let q : Some (type_inst (type_at As) f.ty) ≡ Some own = sym t ∙ x.2 in cc)))

pub too_low : (sig : Signature) (place : ℕ) (own : Ty) (As : Tys) (c : Con) (i n : ℕ) (after : List Ty) → after ≡ drop (place + 1) (type_list sig.args) → n ≡ capped (length after) → i < n → IsTrue false ↔ IsOwnVar sig place own As c i
too_low sig place own As c i n after a h l =
    let b : length after ≡ behind sig place = ap length a in
    ((λ g. absurd (true≢false (sym g))), (λ x. absurd (let y = x.0 in omega (arith, b, h, l, y))))

pub too_high : (sig : Signature) (place : ℕ) (own : Ty) (As : Tys) (c : Con) (i n : ℕ) (after : List Ty) → after ≡ drop (place + 1) (type_list sig.args) → n ≡ capped (length after) → i < 4294967296 → (i < n → ⊥) → length c.fields ≤ i - n →
    IsTrue false ↔ IsOwnVar sig place own As c i
too_high sig place own As c i n after a h small low l =
    let b : length after ≡ behind sig place = ap length a in
    ((λ g. absurd (true≢false (sym g))), (λ x. absurd (let y = x.1 in omega (arith, b, h, l, y, small, low))))

pub own_var_listed : (sig : Signature) (place : ℕ) (own : Ty) (As : Tys) (c : Con) (fs : List Var) (i n k : ℕ) (after : List Ty) (f : Var) (r : Boolean) → fs ≡ c.fields → after ≡ drop (place + 1) (type_list sig.args) → n ≡ capped (length after) →
    i < 4294967296 → (i < n → ⊥) → (length fs ≤ i - n → ⊥) → k ≡ length fs - 1 - (i - n) → f ≡ get_or fs k f → (IsTrue r ↔ (type_inst (type_at As) f.ty ≡ own)) → IsTrue r ↔ IsOwnVar sig place own As c i
own_var_listed sig place own As c fs i n k after f r q a h small low high e g w =
    own_var_is sig place own As c i n k after f r a h small low (λ x. high (subst (λ xs. length xs ≤ i - n) (sym q) x)) (e ∙ ap (λ xs. length xs - 1 - (i - n)) q) (subst (λ xs. f ≡ get_or xs k f) q g) w

pub ruleset variables = (own_var_is, too_low, too_high)

pub count_end : (L : Tys) (n all : ℕ) → ((A : Ty) (rest : Tys) → L ≢ More A rest) → n ≤ 18446744073709551615 → capped (n + length (type_list L)) ≡ all → n ≡ all
count_end Empty n all h l e = omega (arith, l, e)
count_end (more A rest) n all h l e = absurd (h A rest (sym (More-more A rest)))

-- Types with others put in.
pub inst_param : (θ : ℕ → Ty) (P T : Ty) (i : ℕ) (r : Boolean) → P ≡ Param i → (IsTrue r ↔ (θ i ≡ T)) → IsTrue r ↔ (type_inst θ P ≡ T)
inst_param θ P T i r e k = ((λ h. ap (type_inst θ) e ∙ k.0 h), (λ h. k.1 (sym (ap (type_inst θ) e) ∙ h)))

pub inst_same : (θ : ℕ → Ty) (P T Q : Ty) (r : Boolean) → P ≡ Q → type_inst θ Q ≡ Q → (IsTrue r ↔ (P ≡ T)) → IsTrue r ↔ (type_inst θ P ≡ T)
inst_same θ P T Q r e f k = let p : type_inst θ P ≡ P = ap (type_inst θ) e ∙ f ∙ sym e in ((λ h. p ∙ k.0 h), (λ h. k.1 (sym p ∙ h)))

inner : Ty → Ty
inner (pow A) = A
inner A = A

left_part : Ty → Ty
left_part (prod A B) = A
left_part A = A

right_part : Ty → Ty
right_part (prod A B) = B
right_part A = A

pub inst_set : (θ : ℕ → Ty) (P T A B A' : Ty) (r : Boolean) → P ≡ Pow A → A' ≡ A → T ≡ Pow B → (IsTrue r ↔ (type_inst θ A' ≡ B)) → IsTrue r ↔ (type_inst θ P ≡ T)
unfolding inner
inst_set θ P T A B A' r e f g k =
    let p : type_inst θ P ≡ pow (type_inst θ A') = ap (type_inst θ) (e ∙ Pow-pow A ∙ ap pow (sym f)) in
    let q : T ≡ pow B = g ∙ Pow-pow B in
    ((λ h. p ∙ ap pow (k.0 h) ∙ sym q), (λ h. k.1 (ap inner (sym p ∙ h ∙ q))))

pub no_set : (θ : ℕ → Ty) (P T A : Ty) → P ≡ Pow A → ((B : Ty) → T ≢ Pow B) → IsTrue false ↔ (type_inst θ P ≡ T)
no_set θ P T A e h =
    ((λ g. absurd (true≢false (sym g))), (λ g. absurd (h (type_inst θ A) (sym g ∙ ap (type_inst θ) (e ∙ Pow-pow A) ∙ sym (Pow-pow (type_inst θ A))))))

pub inst_pair : (θ : ℕ → Ty) (P T A B A' B' C D : Ty) (u r s : Boolean) → u ≡ (r && s) → P ≡ Prod A B → A' ≡ A → B' ≡ B → T ≡ Prod C D → (IsTrue r ↔ (type_inst θ A' ≡ C)) → (IsTrue s ↔ (type_inst θ B' ≡ D)) → IsTrue u ↔ (type_inst θ P ≡ T)
unfolding left_part right_part
inst_pair θ P T A B A' B' C D u r s z e f f' g k l =
    let p : type_inst θ P ≡ prod (type_inst θ A') (type_inst θ B') = ap (type_inst θ) (e ∙ Prod-prod A B ∙ ap (λ X. prod X B) (sym f) ∙ ap (prod A') (sym f')) in
    let q : T ≡ prod C D = g ∙ Prod-prod C D in (
      (λ h. let x = split_and r s (sym z ∙ h) in p ∙ ap (λ X. prod X (type_inst θ B')) (k.0 x.0) ∙ ap (prod C) (l.0 x.1) ∙ sym q),
      (λ h. z ∙ join_and r s (k.1 (ap left_part (sym p ∙ h ∙ q))) (l.1 (ap right_part (sym p ∙ h ∙ q)))),
    )
  where
    split_and : (a b : Boolean) → (a && b) ≡ true → (a ≡ true) × (b ≡ true)
    split_and true b x = (refl, x)
    split_and false b x = absurd (true≢false (sym x))

    join_and : (a b : Boolean) → a ≡ true → b ≡ true → (a && b) ≡ true
    join_and a b x y = cc

pub no_pair : (θ : ℕ → Ty) (P T A B : Ty) → P ≡ Prod A B → ((C D : Ty) → T ≢ Prod C D) → IsTrue false ↔ (type_inst θ P ≡ T)
no_pair θ P T A B e h =
    ((λ g. absurd (true≢false (sym g))), (λ g. absurd (h (type_inst θ A) (type_inst θ B) (sym g ∙ ap (type_inst θ) (e ∙ Prod-prod A B) ∙ sym (Prod-prod (type_inst θ A) (type_inst θ B))))))

data_types : Ty → Tys
data_types (Data n As) = As
data_types A = Empty

data_bytes : Ty → Name
data_bytes (Data n As) = n
data_bytes A = []

pub inst_data : (θ : ℕ → Ty) (P T : Ty) (n m : Name) (As Bs : Tys) (r s : Boolean) → P ≡ Data n As → T ≡ Data m Bs → r ≡ bytes_eq n m → (IsTrue s ↔ (types_inst θ As ≡ Bs)) → IsTrue (r && s) ↔ (type_inst θ P ≡ T)
unfolding data_types data_bytes
inst_data θ P T n m As Bs r s e g f k =
    let p : type_inst θ P ≡ Data n (types_inst θ As) = ap (type_inst θ) e in (
      (λ h. let x = split_and r s h in p ∙ ap (λ i. Data i (types_inst θ As)) (same_name n m (sym f ∙ x.0)) ∙ ap (Data m) (k.0 x.1) ∙ sym g),
      (λ h. join_and r s (f ∙ ap (bytes_eq n) (sym (ap data_bytes (sym p ∙ h ∙ g))) ∙ name_same n) (k.1 (ap data_types (sym p ∙ h ∙ g)))),
    )
  where
    split_and : (a b : Boolean) → (a && b) ≡ true → (a ≡ true) × (b ≡ true)
    split_and true b x = (refl, x)
    split_and false b x = absurd (true≢false (sym x))

    join_and : (a b : Boolean) → a ≡ true → b ≡ true → (a && b) ≡ true
    join_and a b x y = cc

pub no_data : (θ : ℕ → Ty) (P T : Ty) (n : Name) (As : Tys) → P ≡ Data n As → ((m : Name) (Bs : Tys) → T ≢ Data m Bs) → IsTrue false ↔ (type_inst θ P ≡ T)
no_data θ P T n As e h = ((λ g. absurd (true≢false (sym g))), (λ g. absurd (h n (types_inst θ As) (sym g ∙ ap (type_inst θ) e))))

-- Types of a list, one by one.
pub insts_step : (θ : ℕ → Ty) (Ps Ts : Tys) (A B A' : Ty) (As Bs As' : Tys) → Ps ≡ More A As → Ts ≡ More B Bs → A' ≡ A → As' ≡ As → type_inst θ A' ≡ B →
    (types_inst θ As' ≡ Bs) ↔ (types_inst θ Ps ≡ Ts)
insts_step θ Ps Ts A B A' As Bs As' e f g i k =
    let p : types_inst θ Ps ≡ more (type_inst θ A') (types_inst θ As') = ap (types_inst θ) (e ∙ More-more A As ∙ ap (λ X. more X As) (sym g) ∙ ap (more A') (sym i)) in
    let q : Ts ≡ more B Bs = f ∙ More-more B Bs in (
      (λ h. p ∙ ap (λ X. more X (types_inst θ As')) k ∙ ap (more B) h ∙ sym q),
      (λ h. (split_more (type_inst θ A') B (types_inst θ As') Bs (sym p ∙ h ∙ q)).1),
    )

pub insts_other : (θ : ℕ → Ty) (Ps Ts : Tys) (A B A' : Ty) (As Bs : Tys) → Ps ≡ More A As → Ts ≡ More B Bs → A' ≡ A → ¬ (type_inst θ A' ≡ B) → ¬ (types_inst θ Ps ≡ Ts)
insts_other θ Ps Ts A B A' As Bs e f g n h =
    let p : types_inst θ Ps ≡ more (type_inst θ A') (types_inst θ As) = ap (types_inst θ) (e ∙ More-more A As ∙ ap (λ X. more X As) (sym g)) in
    n (split_more (type_inst θ A') B (types_inst θ As) Bs (sym p ∙ h ∙ f ∙ More-more B Bs)).0

pub insts_fewer : (θ : ℕ → Ty) (Ps Ts : Tys) (A : Ty) (As : Tys) → Ps ≡ More A As → ((B : Ty) (Bs : Tys) → Ts ≢ More B Bs) → ¬ (types_inst θ Ps ≡ Ts)
insts_fewer θ Ps Ts A As e h g =
    h (type_inst θ A) (types_inst θ As) (sym g ∙ ap (types_inst θ) (e ∙ More-more A As) ∙ sym (More-more (type_inst θ A) (types_inst θ As)))

pub insts_end : (θ : ℕ → Ty) (Ps Ts : Tys) (r : Boolean) → ((A : Ty) (As : Tys) → Ps ≢ More A As) → (IsTrue r ↔ (Ts ≡ Empty)) → IsTrue r ↔ (types_inst θ Ps ≡ Ts)
insts_end θ Empty Ts r h k = ((λ g. sym (k.0 g)), (λ g. k.1 (sym g)))
insts_end θ (more A As) Ts r h k = absurd (h A As (sym (More-more A As)))

-- What is so where there is none.
pub none_holds : {X P : Type 0} (o : Option X) → IfNone o P → ((x : X) → o ≢ Some x) → P
none_holds None h n = h
none_holds (Some x) h n = absurd (n x refl)

-- An answer for what is left, and for the whole.
pub insts_refused : (P Q : Type 0) → (P ↔ Q) → ¬ P → IsTrue false ↔ Q
insts_refused P Q k n = ((λ h. absurd (true≢false (sym h))), (λ q. absurd (n (k.1 q))))

pub insts_told : (r : Boolean) (P Q : Type 0) → (P ↔ Q) → (IsTrue r ↔ P) → IsTrue r ↔ Q
insts_told r P Q k a = ((λ h. k.0 (a.0 h)), (λ q. a.1 (k.1 q)))

pub insts_joined : (N P Q : Type 0) → (P ↔ Q) → (N ↔ P) → N ↔ Q
insts_joined N P Q k a = ((λ h. k.0 (a.0 h)), (λ q. a.1 (k.1 q)))

-- A call, where the symbol is the operator.
pub not_named : (sig : Signature) (place : ℕ) (own : Ty) (As : Tys) (c : Con) (d : ℕ) (s : Sym) (Bs : Tys) (ts : List Term) → is_named sig.name s ≡ false → IsTrue true ↔ (is_named sig.name s ≡ true → IsSeen sig place own As c d Bs ts)
not_named sig place own As c d s Bs ts e = ((λ h f. absurd (true≢false (sym f ∙ e))), (λ h. refl))

pub named : (sig : Signature) (place : ℕ) (own : Ty) (As : Tys) (c : Con) (d : ℕ) (s : Sym) (Bs : Tys) (ts : List Term) (r : Boolean) → is_named sig.name s ≡ true → (IsTrue r ↔ IsSeen sig place own As c d Bs ts) →
    IsTrue r ↔ (is_named sig.name s ≡ true → IsSeen sig place own As c d Bs ts)
named sig place own As c d s Bs ts r e k = ((λ h f. k.0 h), (λ h. k.1 (h e)))

pub ruleset instances = (inst_param, inst_same, inst_set, no_set, inst_pair, no_pair, inst_data, no_data)

pub ruleset calls_of = (not_named, named)
