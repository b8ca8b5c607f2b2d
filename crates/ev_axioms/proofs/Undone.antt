-- The steps undone.
use Rattle.std.specs.Prelude.{◌≡◌, ◌≢◌, ◌↔◌, ◌+◌, ◌-◌, ◌<◌, ◌≤◌, ◌++◌, ℕ, zero, suc, Bool as Boolean, true, false, List, [], ◌∷◌, Option, Some, None, length, take, get_or, reverse, IsTrue, IfSome, IfNone, refl}
use Rattle.std.specs.Option.{option_and_then, option_to_list}
use Rattle.std.proofs.Common.{ap, sym, ◌∙◌, subst, true≢false, arith}
use Rattle.std.proofs.lemmas.List.{reverse-append}
use Rattle.ev_terms.specs.declared.types.Tys.{Tys}
use Rattle.ev_terms.specs.declared.types.Sym.{Sym}
use Rattle.ev_terms.specs.declared.types.Sym.TheVariants.{Base}
use Rattle.ev_terms.specs.Term.{Term, Terms, var, lit, node, nil, cons, terms, terms_one}
use Rattle.ev_axioms.specs.declared.steps.Step.{Step}
use Rattle.ev_axioms.specs.declared.steps.Step.TheVariants as step
use Rattle.ev_axioms.specs.declared.steps.Args.{Args}
use Rattle.ev_axioms.specs.inner.Building.{types_of, stepped, only, built}
use Rattle.ev_axioms.specs.inner.Undoing.{ran, IsMadeOf, IsNotMade, IsUndone}
use Rattle.ev_axioms.specs.Axioms.{axiom_row}

-- What a step makes its term of.
pub var_made : (i : ℕ) (t : Term) (cs : List Term) → t ≡ var i → cs ≡ [] → IsMadeOf (step.Var i) t cs
var_made i t cs e f = subst (IsMadeOf (step.Var i) t) (sym f) (λ vs ts. (λ h. let k : Some (var i ∷ vs) ≡ Some (t ∷ ts) = h in cc, λ h. ap (λ u. Some (u ∷ vs)) (sym e) ∙ ap (λ us. Some (t ∷ us)) h))

pub var_not_made : (i : ℕ) (t : Term) → t ≢ var i → IsNotMade (step.Var i) t
var_not_made i t n vs ts h = n (let k : Some (var i ∷ vs) ≡ Some (t ∷ ts) = h in cc)

pub lit_made : (n : ℕ) (t : Term) (cs : List Term) → t ≡ lit n → cs ≡ [] → IsMadeOf (step.Lit n) t cs
lit_made n t cs e f = subst (IsMadeOf (step.Lit n) t) (sym f) (λ vs ts. (λ h. let k : Some (lit n ∷ vs) ≡ Some (t ∷ ts) = h in cc, λ h. ap (λ u. Some (u ∷ vs)) (sym e) ∙ ap (λ us. Some (t ∷ us)) h))

pub lit_not_made : (n : ℕ) (t : Term) → t ≢ lit n → IsNotMade (step.Lit n) t
lit_not_made n t m vs ts h = m (let k : Some (lit n ∷ vs) ≡ Some (t ∷ ts) = h in cc)

-- a node of a base symbol
abbrev at_row : ℕ → Args → List Term → Term
at_row row a cs = node (Base row) (types_of a) (terms cs)

same_children : (row : ℕ) (a : Args) (cs ds : List Term) → at_row row a cs ≡ at_row row a ds → cs ≡ ds
same_children row a cs ds e = terms_one cs ds (let k : node (Base row) (types_of a) (terms cs) ≡ node (Base row) (types_of a) (terms ds) = e in cc)

pub leaf_made : (row : ℕ) (a : Args) (t : Term) (cs : List Term) → t ≡ at_row row a cs → length cs ≡ 0 → IsMadeOf (step.Leaf row a) t cs
leaf_made row a t [] e l vs ts = (λ h. let k : Some (at_row row a [] ∷ vs) ≡ Some (t ∷ ts) = h in cc, λ h. ap (λ u. Some (u ∷ vs)) (sym e) ∙ ap (λ us. Some (t ∷ us)) h)
leaf_made row a t (c ∷ cs) e l vs ts = absurd (omega (arith, l))

pub leaf_not_made : (row : ℕ) (a : Args) (t : Term) → ((cs : List Term) → length cs ≡ 0 → t ≢ at_row row a cs) → IsNotMade (step.Leaf row a) t
leaf_not_made row a t n vs ts h = n [] refl (let k : Some (at_row row a [] ∷ vs) ≡ Some (t ∷ ts) = h in cc)

pub one_made : (row : ℕ) (a : Args) (t : Term) (cs : List Term) → t ≡ at_row row a cs → length cs ≡ 1 → IsMadeOf (step.One row a) t cs
one_made row a t [] e l vs ts = absurd (omega (arith, l))
one_made row a t (c ∷ d ∷ ds) e l vs ts = absurd (omega (arith, l))
one_made row a t (c ∷ []) e l [] ts = (λ h. let k : None ≡ Some (t ∷ ts) = h in cc, λ h. let k : [] ≡ c ∷ ts = h in cc)
one_made row a t (c ∷ []) e l (v ∷ vs) ts = (
  λ h.
      let k : Some (at_row row a (v ∷ []) ∷ vs) ≡ Some (t ∷ ts) = h in
      let p : at_row row a (v ∷ []) ≡ t = cc in
      let q : vs ≡ ts = cc in
      ap (λ us. us ++ vs) (same_children row a (v ∷ []) (c ∷ []) (p ∙ e)) ∙ ap (λ us. c ∷ us) q,
  λ h.
      let p : v ≡ c = cc in
      let q : vs ≡ ts = cc in
      ap (λ u. Some (at_row row a (u ∷ []) ∷ vs)) p ∙ ap (λ us. Some (at_row row a (c ∷ []) ∷ us)) q ∙ ap (λ u. Some (u ∷ ts)) (sym e),
)

pub one_not_made : (row : ℕ) (a : Args) (t : Term) → ((cs : List Term) → length cs ≡ 1 → t ≢ at_row row a cs) → IsNotMade (step.One row a) t
one_not_made row a t n [] ts h = let k : None ≡ Some (t ∷ ts) = h in cc
one_not_made row a t n (v ∷ vs) ts h = n (v ∷ []) refl (let k : Some (at_row row a (v ∷ []) ∷ vs) ≡ Some (t ∷ ts) = h in cc)

pub two_made : (row : ℕ) (a : Args) (t : Term) (cs : List Term) → t ≡ at_row row a cs → length cs ≡ 2 → IsMadeOf (step.Two row a) t cs
two_made row a t [] e l vs ts = absurd (omega (arith, l))
two_made row a t (c ∷ []) e l vs ts = absurd (omega (arith, l))
two_made row a t (c ∷ d ∷ f ∷ fs) e l vs ts = absurd (omega (arith, l))
two_made row a t (c ∷ d ∷ []) e l [] ts = (λ h. let k : None ≡ Some (t ∷ ts) = h in cc, λ h. let k : [] ≡ d ∷ c ∷ ts = h in cc)
two_made row a t (c ∷ d ∷ []) e l (u ∷ []) ts = (λ h. let k : None ≡ Some (t ∷ ts) = h in cc, λ h. let k : u ∷ [] ≡ d ∷ c ∷ ts = h in cc)
two_made row a t (c ∷ d ∷ []) e l (u ∷ v ∷ vs) ts = (
  λ h.
      let k : Some (at_row row a (v ∷ u ∷ []) ∷ vs) ≡ Some (t ∷ ts) = h in
      let p : at_row row a (v ∷ u ∷ []) ≡ t = cc in
      let q : vs ≡ ts = cc in
      let r : v ∷ u ∷ [] ≡ c ∷ d ∷ [] = same_children row a (v ∷ u ∷ []) (c ∷ d ∷ []) (p ∙ e) in
      ap (λ us. reverse us ++ vs) r ∙ ap (λ us. d ∷ c ∷ us) q,
  λ h.
      let k : u ∷ v ∷ vs ≡ d ∷ c ∷ ts = h in
      let p : u ≡ d = cc in
      let r : v ≡ c = cc in
      let q : vs ≡ ts = cc in
      ap (λ x. Some (at_row row a (v ∷ x ∷ []) ∷ vs)) p ∙ ap (λ x. Some (at_row row a (x ∷ d ∷ []) ∷ vs)) r ∙ ap (λ us. Some (at_row row a (c ∷ d ∷ []) ∷ us)) q
      ∙ ap (λ x. Some (x ∷ ts)) (sym e),
)

pub two_not_made : (row : ℕ) (a : Args) (t : Term) → ((cs : List Term) → length cs ≡ 2 → t ≢ at_row row a cs) → IsNotMade (step.Two row a) t
two_not_made row a t n [] ts h = let k : None ≡ Some (t ∷ ts) = h in cc
two_not_made row a t n (u ∷ []) ts h = let k : None ≡ Some (t ∷ ts) = h in cc
two_not_made row a t n (u ∷ v ∷ vs) ts h = n (v ∷ u ∷ []) refl (let k : Some (at_row row a (v ∷ u ∷ []) ∷ vs) ≡ Some (t ∷ ts) = h in cc)

-- The children of a node.
pub other_count : (t : Term) (s : Sym) (As : Tys) (cs : List Term) (n : ℕ) → t ≡ node s As (terms cs) → ¬ (length cs ≡ n) → (row : ℕ) (Bs : Tys) (ts : List Term) → length ts ≡ n →
    t ≢ node (Base row) Bs (terms ts)
other_count t s As cs n e h row Bs ts l q =
    let k : node s As (terms cs) ≡ node (Base row) Bs (terms ts) = sym e ∙ q in
    let m : terms cs ≡ terms ts = cc in
    h (ap length (terms_one cs ts m) ∙ l)

pub none_weaker : {X P Q : Type 0} (o : Option X) → (P → Q) → IfNone o P → IfNone o Q
none_weaker None f h = f h
none_weaker (Some x) f h = h

pub some_weaker : {X : Type 0} {P Q : X → Type 0} (o : Option X) → ((x : X) → P x → Q x) → IfSome o P → IfSome o Q
some_weaker None f h = h
some_weaker (Some x) f h = f x h

-- No step leaves an empty stack.
never_empty : (s : Step) (vs : List Term) → stepped s vs ≢ Some []
never_empty (step.Var i) vs h = cc
never_empty (step.Lit n) vs h = cc
never_empty (step.Leaf row a) vs h = cc
never_empty (step.One row a) [] h = cc
never_empty (step.One row a) (v ∷ vs) h = cc
never_empty (step.Two row a) [] h = cc
never_empty (step.Two row a) (u ∷ []) h = cc
never_empty (step.Two row a) (u ∷ v ∷ vs) h = cc

pub undone_empty : (s : Step) (ts us : List Term) → length ts ≡ 0 → IsUndone false s (reverse ts) us
undone_empty s [] us l vs h = never_empty s vs h
undone_empty s (t ∷ ts) us l vs h = absurd (omega (arith, l))

pub undone_not : (s : Step) (ts rest us : List Term) (t : Term) → reverse ts ≡ t ∷ reverse rest → IsNotMade s t → IsUndone false s (reverse ts) us
undone_not s ts rest us t e n vs h = n vs (reverse rest) (h ∙ ap (λ xs. Some xs) e)

pub undone : (s : Step) (ts rest new cs : List Term) (t : Term) → reverse ts ≡ t ∷ reverse rest → IsMadeOf s t cs → new ≡ rest ++ cs → IsUndone true s (reverse ts) (reverse new)
undone s ts rest new cs t e m q vs =
    let k : reverse new ≡ reverse cs ++ reverse rest = ap reverse q ∙ reverse-append rest cs in
    let d = m vs (reverse rest) in
    (λ h. d.0 (h ∙ ap (λ xs. Some xs) e) ∙ sym k, λ h. d.1 (h ∙ k) ∙ ap (λ xs. Some xs) (sym e))

-- The steps build a term where they leave it alone on the stack.
only_term : (us : List Term) (t : Term) → (only us ≡ Some t) ↔ (us ≡ t ∷ [])
only_term [] t = (λ h. let k : None ≡ Some t = h in cc, λ h. let k : [] ≡ t ∷ [] = h in cc)
only_term (u ∷ []) t = (λ h. let k : Some u ≡ Some t = h in cc, λ h. let k : u ∷ [] ≡ t ∷ [] = h in cc)
only_term (u ∷ v ∷ us) t = (λ h. let k : None ≡ Some t = h in cc, λ h. let k : u ∷ v ∷ us ≡ t ∷ [] = h in cc)

built_ran : (ss : List Step) (ts : List Term) → built ss ts ≡ option_and_then only (ran ss ts)
built_ran [] ts = refl
built_ran (s ∷ ss) ts = by (stepped s ts) (built_ran ss)
  where
    by : (o : Option (List Term)) → ((us : List Term) → built ss us ≡ option_and_then only (ran ss us)) →
        option_and_then (built ss) o ≡ option_and_then only (option_and_then (ran ss) o)
    by None k = refl
    by (Some us) k = k us

built_is : (ss : List Step) (t : Term) → (built ss [] ≡ Some t) ↔ (ran ss [] ≡ Some (t ∷ []))
built_is ss t = (λ h. to (ran ss []) (sym (built_ran ss []) ∙ h), λ h. built_ran ss [] ∙ ap (option_and_then only) h)
  where
    to : (o : Option (List Term)) → option_and_then only o ≡ Some t → o ≡ Some (t ∷ [])
    to None h = let k : None ≡ Some t = h in cc
    to (Some us) h = ap (λ xs. Some xs) ((only_term us t).0 h)

ran_last : (ss : List Step) (s : Step) (ts : List Term) → ran (ss ++ s ∷ []) ts ≡ option_and_then (stepped s) (ran ss ts)
ran_last [] s ts = by (stepped s ts)
  where
    by : (o : Option (List Term)) → option_and_then (ran []) o ≡ o
    by None = refl
    by (Some us) = refl
ran_last (r ∷ ss) s ts = by (stepped r ts) (ran_last ss s)
  where
    by : (o : Option (List Term)) → ((us : List Term) → ran (ss ++ s ∷ []) us ≡ option_and_then (stepped s) (ran ss us)) →
        option_and_then (ran (ss ++ s ∷ [])) o ≡ option_and_then (stepped s) (option_and_then (ran ss) o)
    by None k = refl
    by (Some us) k = k us

take_more : (ss : List Step) (i : ℕ) (s : Step) → s ≡ get_or ss i s → i < length ss → take (suc i) ss ≡ take i ss ++ s ∷ []
take_more [] i s e h = absurd (omega (arith, h))
take_more (r ∷ ss) zero s e h = ap (λ x. x ∷ []) (sym e)
take_more (r ∷ ss) (suc i) s e h = ap (λ xs. r ∷ xs) (take_more ss i s e (omega (arith, h)))

-- what the steps that are left leave on the stack
abbrev pub Leaves : List Step → ℕ → List Term → Type 0
Leaves ss i ts = ran (take i ss) [] ≡ Some (reverse ts)

ran_more : (ss : List Step) (i j : ℕ) (s : Step) → s ≡ get_or ss i s → i < length ss → j ≡ i + 1 → ran (take j ss) [] ≡ option_and_then (stepped s) (ran (take i ss) [])
ran_more ss i j s e h q = let k : j ≡ suc i = omega (arith, q) in ap (λ n. ran (take n ss) []) k ∙ ap (λ xs. ran xs []) (take_more ss i s e h) ∙ ran_last (take i ss) s []

undone_step : (ss : List Step) (i j : ℕ) (s : Step) (ts us : List Term) (X : Type 0) → s ≡ get_or ss i s → i < length ss → j ≡ i + 1 → IsUndone true s (reverse ts) (reverse us) →
    (Leaves ss j ts ↔ X) → Leaves ss i us ↔ X
undone_step ss i j s ts us X e h q d k = (
  λ y. k.0 (ran_more ss i j s e h q ∙ ap (option_and_then (stepped s)) y ∙ (d (reverse us)).1 refl),
  λ x. to (ran (take i ss) []) (sym (ran_more ss i j s e h q) ∙ k.1 x),
)
  where
    to : (o : Option (List Term)) → option_and_then (stepped s) o ≡ Some (reverse ts) → o ≡ Some (reverse us)
    to None g = let n : None ≡ Some (reverse ts) = g in cc
    to (Some vs) g = ap (λ xs. Some xs) ((d vs).0 g)

undone_fails : (ss : List Step) (i j : ℕ) (s : Step) (ts us : List Term) (X : Type 0) → s ≡ get_or ss i s → i < length ss → j ≡ i + 1 → IsUndone false s (reverse ts) (reverse us) →
    (Leaves ss j ts ↔ X) → IsTrue false ↔ X
undone_fails ss i j s ts us X e h q d k =
    (λ y. absurd (true≢false (sym y)), λ x. absurd (to (ran (take i ss) []) (sym (ran_more ss i j s e h q) ∙ k.1 x)))
  where
    to : (o : Option (List Term)) → option_and_then (stepped s) o ≡ Some (reverse ts) → ⊥
    to None g = let n : None ≡ Some (reverse ts) = g in cc
    to (Some vs) g = d vs g

-- The same of the step that is read with some other one by default.
any_default : (ss : List Step) (i : ℕ) (e : Step) → i < length ss → get_or ss i e ≡ get_or ss i (get_or ss i e)
any_default [] i e h = absurd (omega (arith, h))
any_default (r ∷ ss) zero e h = refl
any_default (r ∷ ss) (suc i) e h = any_default ss i e (omega (arith, h))

pub goes_on_undone : (ss : List Step) (i j : ℕ) (e : Step) (b : Boolean) (ts us : List Term) (X : Type 0) → i < length ss → j ≡ i + 1 → b ≡ true → IsUndone b (get_or ss i e) (reverse ts) (reverse us) →
    (Leaves ss j ts ↔ X) → Leaves ss i us ↔ X
goes_on_undone ss i j e b ts us X h q p d k =
    undone_step ss i j (get_or ss i e) ts us X (any_default ss i e h) h q (subst (λ c. IsUndone c (get_or ss i e) (reverse ts) (reverse us)) p d) k

pub stops_undone : (ss : List Step) (i j : ℕ) (e : Step) (b : Boolean) (ts us : List Term) (X : Type 0) → i < length ss → j ≡ i + 1 → b ≡ false → IsUndone b (get_or ss i e) (reverse ts) (reverse us) →
    (Leaves ss j ts ↔ X) → IsTrue false ↔ X
stops_undone ss i j e b ts us X h q p d k =
    undone_fails ss i j (get_or ss i e) ts us X (any_default ss i e h) h q (subst (λ c. IsUndone c (get_or ss i e) (reverse ts) (reverse us)) p d) k

take_all : (ss : List Step) → take (length ss) ss ≡ ss
take_all [] = refl
take_all (s ∷ ss) = ap (λ xs. s ∷ xs) (take_all ss)

pub undone_starts : (ss : List Step) (t v : Term) (ts us : List Term) → ts ≡ us ++ v ∷ [] → us ≡ [] → v ≡ t → Leaves ss (length ss) ts ↔ (built ss [] ≡ Some t)
undone_starts ss t v ts us p q w =
    let e : ts ≡ t ∷ [] = p ∙ ap (λ xs. xs ++ v ∷ []) q ∙ ap (λ x. x ∷ []) w in
    let k : ran (take (length ss) ss) [] ≡ ran ss [] = ap (λ xs. ran xs []) (take_all ss) in
    let r : reverse ts ≡ t ∷ [] = ap reverse e in
    let d = built_is ss t in
    (λ y. d.1 (sym k ∙ y ∙ ap (λ xs. Some xs) r), λ y. k ∙ d.0 y ∙ ap (λ xs. Some xs) (sym r))

no_reverse : (ts : List Term) → [] ≡ reverse ts → length ts ≡ 0
no_reverse [] e = refl
no_reverse (t ∷ ts) e = absurd (nothing (reverse ts) t (e ∙ reverse-append (t ∷ []) ts))
  where
    nothing : (xs : List Term) (x : Term) → [] ≡ xs ++ x ∷ [] → ⊥
    nothing [] x h = cc
    nothing (y ∷ ys) x h = cc

pub undone_ends : (ss : List Step) (i : ℕ) (ts : List Term) (X : Type 0) (b : Boolean) → i ≡ 0 → (IsTrue b ↔ (length ts ≡ 0)) → (Leaves ss i ts ↔ X) → IsTrue b ↔ X
undone_ends ss i ts X b e c k = (λ y. k.0 (start ∙ ap (λ xs. Some xs) (empty ts (c.0 y))), λ x. c.1 (no_reverse ts (let g : Some [] ≡ Some (reverse ts) = sym start ∙ k.1 x in cc)))
  where
    start : ran (take i ss) [] ≡ Some []
    start = ap (λ n. ran (take n ss) []) e

    empty : (us : List Term) → length us ≡ 0 → [] ≡ reverse us
    empty [] l = refl
    empty (u ∷ us) l = absurd (omega (arith, l))

pub no_axiom : (k : ℕ) (t : Term) → axiom_row k ≡ None → IsTrue false ↔ (axiom_row k ≡ Some t)
no_axiom k t e = (λ y. absurd (true≢false (sym y)), λ h. absurd (let f : None ≡ Some t = sym e ∙ h in cc))
