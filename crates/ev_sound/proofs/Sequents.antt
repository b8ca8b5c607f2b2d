-- The sequents of a theory, and those of the first element with a label.
use Rattle.std.specs.Prelude.{◌≡◌, ◌≢◌, ◌+◌, ◌++◌, ◌==◌, ◌&&◌, ℕ, zero, suc, Bool as Boolean, true, false, if◌then◌else◌, cond, List, [], ◌∷◌, Option, Some, None, map, flat_map, length, slice_get, bytes_eq, option_map, find, Contains, IsTrue, refl}
use Rattle.std.specs.List.{enumerate_from}
use Rattle.std.specs.Prelude.{zip}
use Rattle.std.specs.Option.{option_or}
use Rattle.std.proofs.Common.{ap, sym, ◌∙◌, subst as transport, append_assoc, arith}
use Rattle.std.proofs.lemmas.List.Folds.{find-append}
use Rattle.std.proofs.lemmas.Bool.Decides.{nat_tests}
use Rattle.ev_terms.specs.Term.{Term}
use Rattle.ev_terms.specs.Types.{type_list}
use Rattle.ev_terms.specs.declared.obligation.ObKind.{ObKind}
use Rattle.ev_terms.specs.declared.obligation.ObKind.TheVariants.{Thm, Wd, WdOf, Sound, SoundOf, Complete}
use Rattle.ev_forms.specs.Forms.{is_truth, forall_all}
use Rattle.ev_typing.specs.Env.{Env, Name}
use Rattle.ev_typing.proofs.Names.{name_same, apart_flip}
use Rattle.ev_typing.specs.declared.typing.Signature.{Signature}
use Rattle.ev_script.specs.declared.sequent_names.SeqName.{SeqName}
use Rattle.ev_rules.specs.declared.elements.Element.{Element}
use Rattle.ev_rules.specs.declared.elements.Element.TheVariants.{Import, Params, Data, Direct, Recursive, Constant, Axiom, Theorem, Rewrite, Inference}
use Rattle.ev_rules.specs.declared.elements.RewriteRule.{RewriteRule}
use Rattle.ev_rules.specs.declared.elements.InferenceRule.{InferenceRule}
use Rattle.ev_rules.specs.declared.elements.Branch.{Branch}
use Rattle.ev_typing.specs.declared.typing.DataDecl.{DataDecl}
use Rattle.ev_typing.specs.declared.typing.Con.{Con}
use Rattle.ev_terms.specs.declared.types.Tys.{Tys}
use Rattle.ev_ops.specs.Entries.{with_element, with_elements}
use Rattle.ev_ops.proofs.Basics.{contains_first, contains_more}
use Rattle.ev_oblig.specs.declared.named.Named.{Named}
use Rattle.ev_oblig.specs.Obligations.{named, wd_named, obligations, case_obligation, case_obligations, branch_formula, branch_wd, branch_obligations, complete_formula, complete_obligation, inference_formula, direct_wd, case_wd}
use Rattle.ev_typing.specs.WellFormed.{inductive_data}
use Rattle.ev_replay.specs.Scopes.{is_labelled}
use Rattle.ev_elab.specs.declared.theories.TheorySequent.{TheorySequent}
use Rattle.ev_elab.specs.DeclaredNames.{obligation_label}
use Rattle.ev_elab.specs.Elaborated.{sequent, element_sequents, sequents_from}
use Rattle.ev_project.specs.Projects.{same_kind, same_sequent}
use Rattle.ev_project.specs.Scopes.{sequent_name}

-- What a search finds.
pub record IsImage {X Y : Type 0} (g : X → Y) (xs : List X) (y : Y) : Type 0 where
  pub item : X
  pub stands : Contains xs item
  pub image : y ≡ g item

pub find_stands : {X : Type 0} (f : X → Boolean) (xs : List X) (x : X) → find f xs ≡ Some x → Contains xs x
find_stands f [] x h = cc
find_stands {X} f (y ∷ ys) x h = by (f y) h (find_stands f ys x)
  where
    by : (b : Boolean) → cond b (Some y) (find f ys) ≡ Some x → (find f ys ≡ Some x → Contains ys x) → Contains (y ∷ ys) x
    by true q k = let i : y ≡ x = cc in transport (λ z. Contains (y ∷ ys) z) i (contains_first y ys)
    by false q k = contains_more x y ys (k q)

pub stands_map : {X Y : Type 0} (g : X → Y) (xs : List X) (y : Y) → Contains (map g xs) y → IsImage g xs y
stands_map g [] y (k, l, q) = absurd (omega arith)
stands_map {X} {Y} g (x ∷ xs) y (zero, l, q) = record { item = x; stands = contains_first x xs; image = sym q }
stands_map {X} {Y} g (x ∷ xs) y (suc k, l, q) = let r = stands_map g xs y (k, omega arith, q) in record { item = r.item; stands = contains_more r.item x xs r.stands; image = r.image }

pub data StandsIn {X : Type 0} (xs ys : List X) (z : X) : Type 0 where
  in_front : Contains xs z → StandsIn xs ys z
  behind : Contains ys z → StandsIn xs ys z

pub stands_append : {X : Type 0} (xs ys : List X) (z : X) → Contains (xs ++ ys) z → StandsIn xs ys z
stands_append [] ys z c = behind c
stands_append (x ∷ xs) ys z (zero, l, q) = in_front (zero, omega arith, q)
stands_append {X} (x ∷ xs) ys z (suc k, l, q) = by (stands_append xs ys z (k, omega arith, q))
  where
    by : StandsIn xs ys z → StandsIn (x ∷ xs) ys z
    by (in_front c) = in_front (contains_more z x xs c)
    by (behind c) = behind c

-- Where a sequent comes from.
pub record SequentAt (E : Env) (n : ℕ) (es : List Element) (s : TheorySequent) : Type 0 where
  pub before : List Element
  pub own : Element
  pub later : List Element
  pub split : es ≡ before ++ own ∷ later
  pub number : s.element ≡ n + length before
  pub obligation : Named
  pub among : Contains (obligations (with_element (with_elements E before) own) own) obligation
  pub goal : s.goal ≡ obligation.goal

own_sequent : (E : Env) (n : ℕ) (x : Element) (o : Option Name) (s : TheorySequent) → Contains (element_sequents E n x o) s → (s.element ≡ n) × IsImage (λ (b : Named). b.goal) (obligations E x) s.goal
own_sequent E n x None s (k, l, q) = absurd (omega arith)
own_sequent E n x (Some label) s c =
    let r = stands_map (sequent n label) (obligations E x) s c in
    (ap (λ (z : TheorySequent). z.element) r.image, record { item = r.item; stands = r.stands; image = ap (λ (z : TheorySequent). z.goal) r.image })

pub sequent_at : (E : Env) (n : ℕ) (es : List Element) (s : TheorySequent) → Contains (sequents_from E n es) s → SequentAt E n es s
sequent_at E n [] s (k, l, q) = absurd (omega arith)
sequent_at E n (x ∷ es) s c = by (stands_append (element_sequents (with_element E x) n x (obligation_label x)) (sequents_from (with_element E x) (n + 1) es) s c) (sequent_at (with_element E x) (n + 1) es s)
  where
    by : StandsIn (element_sequents (with_element E x) n x (obligation_label x)) (sequents_from (with_element E x) (n + 1) es) s → (Contains (sequents_from (with_element E x) (n + 1) es) s → SequentAt (with_element E x) (n + 1) es s) → SequentAt E n (x ∷ es) s
    by (in_front d) k =
        let r = own_sequent (with_element E x) n x (obligation_label x) s d in
        record { before = []; own = x; later = es; split = refl; number = r.0 ∙ (let z : n ≡ n + 0 = omega arith in z); obligation = r.1.item; among = r.1.stands; goal = r.1.image }
    by (behind d) k =
        let r = k d in
        record {
          before = x ∷ r.before;
          own = r.own;
          later = r.later;
          split = ap (λ ys. x ∷ ys) r.split;
          number = r.number ∙ (let z : (n + 1) + length r.before ≡ n + suc (length r.before) = omega arith in z);
          obligation = r.obligation;
          among = r.among;
          goal = r.goal;
        }

-- Kinds of theorems and rules.
pub record IsClaimKind (k : ObKind) : Type 0 where
  pub not_wd : same_kind Wd k ≡ false
  pub not_numbered : (i : ℕ) → same_kind (WdOf i) k ≡ false

-- the kind of an obligation
abbrev pub has_kind : ObKind → Named → Boolean
has_kind k o = same_kind o.kind k

wd_skipped : (k : ObKind) (own : ObKind) (P : Term) → same_kind own k ≡ false → find (has_kind k) (wd_named own P) ≡ None
wd_skipped k own P h = by (is_truth P)
  where
    by : (b : Boolean) → find (has_kind k) (if b then [] else named own P ∷ []) ≡ None
    by true = refl
    by false = ap (λ b. cond b (Some (named own P)) None) h

-- Nothing is found where there is nothing in either part.
find_neither : {X : Type 0} (f : X → Boolean) (xs ys : List X) → find f xs ≡ None → find f ys ≡ None → find f (xs ++ ys) ≡ None
find_neither f xs ys h k = find-append f xs ys ∙ ap (λ o. option_or o (find f ys)) h ∙ k

find_behind : {X : Type 0} (f : X → Boolean) (xs ys : List X) → find f xs ≡ None → find f (xs ++ ys) ≡ find f ys
find_behind f xs ys h = find-append f xs ys ∙ ap (λ o. option_or o (find f ys)) h

find_front : {X : Type 0} (f : X → Boolean) (xs ys : List X) (x : X) → find f xs ≡ Some x → find f (xs ++ ys) ≡ Some x
find_front f xs ys x h = find-append f xs ys ∙ ap (λ o. option_or o (find f ys)) h

-- Which sequents have a name.
abbrev pub is_called : SeqName → TheorySequent → Boolean
is_called name s = same_sequent (sequent_name name.theory s) name

module _ (name : SeqName) where
  called_kind : (n : ℕ) (label : Name) (o : Named) → bytes_eq label name.label ≡ true → is_called name (sequent n label o) ≡ same_kind o.kind name.kind
  called_kind n label o h = ap (λ b. b && (bytes_eq label name.label && same_kind o.kind name.kind)) (name_same name.theory) ∙ ap (λ b. b && same_kind o.kind name.kind) h

  not_called : (n : ℕ) (label : Name) (o : Named) → bytes_eq label name.label ≡ false → is_called name (sequent n label o) ≡ false
  not_called n label o h = ap (λ b. b && (bytes_eq label name.label && same_kind o.kind name.kind)) (name_same name.theory) ∙ ap (λ b. b && same_kind o.kind name.kind) h

  find_labelled : (n : ℕ) (label : Name) (os : List Named) → bytes_eq label name.label ≡ true → find (is_called name) (map (sequent n label) os) ≡ option_map (sequent n label) (find (has_kind name.kind) os)
  find_labelled n label [] h = refl
  find_labelled n label (o ∷ os) h =
      ap (λ b. cond b (Some (sequent n label o)) (find (is_called name) (map (sequent n label) os))) (called_kind n label o h) ∙ by (same_kind o.kind name.kind) (find_labelled n label os h)
    where
      by : (b : Boolean) → find (is_called name) (map (sequent n label) os) ≡ option_map (sequent n label) (find (has_kind name.kind) os) →
          cond b (Some (sequent n label o)) (find (is_called name) (map (sequent n label) os)) ≡ option_map (sequent n label) (cond b (Some o) (find (has_kind name.kind) os))
      by true k = refl
      by false k = k

  find_other : (n : ℕ) (label : Name) (os : List Named) → bytes_eq label name.label ≡ false → find (is_called name) (map (sequent n label) os) ≡ None
  find_other n label [] h = refl
  find_other n label (o ∷ os) h = ap (λ b. cond b (Some (sequent n label o)) (find (is_called name) (map (sequent n label) os))) (not_called n label o h) ∙ find_other n label os h

  module _ (claim : IsClaimKind name.kind) where
    none_labelled : (n : ℕ) (label : Name) (os : List Named) → find (has_kind name.kind) os ≡ None → find (is_called name) (map (sequent n label) os) ≡ None
    none_labelled n label os h = by (bytes_eq label name.label) refl
      where
        by : (b : Boolean) → bytes_eq label name.label ≡ b → find (is_called name) (map (sequent n label) os) ≡ None
        by true q = find_labelled n label os q ∙ ap (option_map (sequent n label)) h
        by false q = find_other n label os q

    -- operators have no obligation of such a kind
    cases_skipped : (env : Env) (sig : Signature) (c : Option Term) (place : ℕ) (As : Tys) (ps : List (ℕ × (Con × Term))) → find (has_kind name.kind) (flat_map (case_obligation env sig c place As) ps) ≡ None
    cases_skipped env sig c place As [] = refl
    cases_skipped env sig c place As (p ∷ ps) =
        find_neither (has_kind name.kind) (case_obligation env sig c place As p) (flat_map (case_obligation env sig c place As) ps)
        (wd_skipped name.kind (WdOf p.0) (case_wd env sig c place As p.1.0 p.1.1) (claim.not_numbered p.0)) (cases_skipped env sig c place As ps)

    recursive_skipped : (env : Env) (sig : Signature) (c : Option Term) (place : ℕ) (bodies : List Term) (o : Option (DataDecl × Tys)) → find (has_kind name.kind) (case_obligations env sig c place bodies o) ≡ None
    recursive_skipped env sig c place bodies None = refl
    recursive_skipped env sig c place bodies (Some (d, As)) = cases_skipped env sig c place As (enumerate_from 1 (zip d.cons bodies))

    flipped : (m n : Name) → bytes_eq m n ≡ false → bytes_eq n m ≡ false
    flipped m n h = apart_flip m n h

    -- an element without the label has no such sequent
    skipped : (E : Env) (n : ℕ) (x : Element) → is_labelled name.label x ≡ false → find (is_called name) (element_sequents E n x (obligation_label x)) ≡ None
    skipped E n (Import i) h = refl
    skipped E n (Params ns) h = refl
    skipped E n (Data d) h = refl
    skipped E n (Constant sig c) h = refl
    skipped E n (Direct sig c body) h = none_labelled n sig.name (obligations E (Direct sig c body)) (wd_skipped name.kind Wd (direct_wd E sig c body) claim.not_wd)
    skipped E n (Recursive sig c place bodies) h = none_labelled n sig.name (obligations E (Recursive sig c place bodies)) (recursive_skipped E sig c place bodies (inductive_data E sig place))
    skipped E n (Axiom l P) h = refl
    skipped E n (Theorem l P) h = find_other n l (obligations E (Theorem l P)) (flipped name.label l h)
    skipped E n (Rewrite r) h = find_other n r.label (obligations E (Rewrite r)) (flipped name.label r.label h)
    skipped E n (Inference r) h = find_other n r.label (obligations E (Inference r)) (flipped name.label r.label h)

    -- The first element with a label, among the first elements of a theory.
    pub record ClaimAt (E : Env) (n : ℕ) (es rest : List Element) (e : Element) (o : Env → Named) : Type 0 where
      pub before : List Element
      pub later : List Element
      pub split : es ≡ before ++ e ∷ later
      pub found : find (is_called name) (sequents_from E n (es ++ rest)) ≡ Some (sequent (n + length before) name.label (o (with_element (with_elements E before) e)))

    pub claim_at : (E : Env) (n : ℕ) (es rest : List Element) (e : Element) (o : Env → Named) → obligation_label e ≡ Some name.label → ((D : Env) → find (has_kind name.kind) (obligations D e) ≡ Some (o D)) →
        find (is_labelled name.label) es ≡ Some e → ClaimAt E n es rest e o
    claim_at E n [] rest e o l k h = cc
    claim_at E n (x ∷ es) rest e o l k h = by (is_labelled name.label x) refl h (claim_at (with_element E x) (n + 1) es rest e o l k)
      where
        here : x ≡ e → ClaimAt E n (x ∷ es) rest e o
        here i = transport (λ y. ClaimAt E n (y ∷ es) rest e o) (sym i) (record {
          before = [];
          later = es;
          split = refl;
          found =
              find_front (is_called name) (element_sequents (with_element E e) n e (obligation_label e)) (sequents_from (with_element E e) (n + 1) (es ++ rest)) (sequent n name.label (o (with_element E e)))
              (ap (λ z. find (is_called name) (element_sequents (with_element E e) n e z)) l ∙ find_labelled n name.label (obligations (with_element E e) e) (name_same name.label) ∙ ap (option_map (sequent n name.label)) (k (with_element E e)))
              ∙ (let z : n ≡ n + 0 = omega arith in ap (λ m. Some (sequent m name.label (o (with_element E e)))) z);
        })

        by : (b : Boolean) → is_labelled name.label x ≡ b → cond b (Some x) (find (is_labelled name.label) es) ≡ Some e → (find (is_labelled name.label) es ≡ Some e → ClaimAt (with_element E x) (n + 1) es rest e o) → ClaimAt E n (x ∷ es) rest e o
        by true q g r = here (let i : x ≡ e = cc in i)
        by false q g r =
            let w = r g in
            record {
              before = x ∷ w.before;
              later = w.later;
              split = ap (λ ys. x ∷ ys) w.split;
              found =
                  find_behind (is_called name) (element_sequents (with_element E x) n x (obligation_label x)) (sequents_from (with_element E x) (n + 1) (es ++ rest)) (skipped (with_element E x) n x q) ∙ w.found
                  ∙ (let z : (n + 1) + length w.before ≡ n + suc (length w.before) = omega arith in ap (λ m. Some (sequent m name.label (o (with_element (with_elements (with_element E x) w.before) e)))) z);
            }

-- The claims of elements.
pub theorem_claimed : (D : Env) (l : Name) (P : Term) → find (has_kind Thm) (obligations D (Theorem l P)) ≡ Some (named Thm P)
theorem_claimed D l P = refl

pub inference_claimed : (D : Env) (r : InferenceRule) → find (has_kind Sound) (obligations D (Inference r)) ≡ Some (named Sound (forall_all (type_list r.vars) (inference_formula r.givens r.conclusion)))
inference_claimed D r = refl

same_number : (n : ℕ) → (n == n) ≡ true
same_number n = grind (arith, nat_tests)

other_number : (m n : ℕ) → m ≢ n → (m == n) ≡ false
other_number m n h = grind (arith, nat_tests)

branches_claimed : (D : Env) (r : RewriteRule) (bs : List Branch) (n k : ℕ) (b : Branch) (rest : List Named) → slice_get bs k ≡ Some b →
    find (has_kind (SoundOf (n + k))) (flat_map (branch_obligations D r) (enumerate_from n bs) ++ rest) ≡ Some (named (SoundOf (n + k)) (forall_all (type_list r.vars) (branch_formula D r b)))
branches_claimed D r [] n k b rest h = cc
branches_claimed D r (x ∷ bs) n zero b rest h =
    let i : x ≡ b = cc in
    let z : n + 0 ≡ n = omega arith in
    transport (λ m. find (has_kind (SoundOf m)) (flat_map (branch_obligations D r) (enumerate_from n (x ∷ bs)) ++ rest) ≡ Some (named (SoundOf m) (forall_all (type_list r.vars) (branch_formula D r b)))) (sym z)
    (transport (λ (y : Branch). find (has_kind (SoundOf n)) (flat_map (branch_obligations D r) (enumerate_from n (x ∷ bs)) ++ rest) ≡ Some (named (SoundOf n) (forall_all (type_list r.vars) (branch_formula D r y)))) i
    (ap (λ t. cond t (Some (named (SoundOf n) (forall_all (type_list r.vars) (branch_formula D r x)))) (find (has_kind (SoundOf n)) ((wd_named (WdOf n) (branch_wd D r x) ++ flat_map (branch_obligations D r) (enumerate_from (n + 1) bs)) ++ rest))) (same_number n)))
branches_claimed D r (x ∷ bs) n (suc k) b rest h =
    let m = n + suc k in
    let others = flat_map (branch_obligations D r) (enumerate_from (n + 1) bs) in
    let ne : n ≢ m = λ q. omega (arith, q) in
    let z : (n + 1) + k ≡ m = omega arith in
    ap (λ t. cond t (Some (named (SoundOf n) (forall_all (type_list r.vars) (branch_formula D r x)))) (find (has_kind (SoundOf m)) ((wd_named (WdOf n) (branch_wd D r x) ++ others) ++ rest))) (other_number n m ne)
    ∙ ap (find (has_kind (SoundOf m))) (append_assoc (wd_named (WdOf n) (branch_wd D r x)) others rest)
    ∙ find_behind (has_kind (SoundOf m)) (wd_named (WdOf n) (branch_wd D r x)) (others ++ rest) (wd_skipped (SoundOf m) (WdOf n) (branch_wd D r x) refl)
    ∙ transport (λ j. find (has_kind (SoundOf j)) (others ++ rest) ≡ Some (named (SoundOf j) (forall_all (type_list r.vars) (branch_formula D r b)))) z (branches_claimed D r bs (n + 1) k b rest h)

pub branch_claimed : (D : Env) (r : RewriteRule) (k : ℕ) (b : Branch) → slice_get r.branches k ≡ Some b →
    find (has_kind (SoundOf (1 + k))) (obligations D (Rewrite r)) ≡ Some (named (SoundOf (1 + k)) (forall_all (type_list r.vars) (branch_formula D r b)))
branch_claimed D r k b h = branches_claimed D r r.branches 1 k b (complete_obligation r) h

no_complete : (D : Env) (r : RewriteRule) (bs : List Branch) (n : ℕ) → find (has_kind Complete) (flat_map (branch_obligations D r) (enumerate_from n bs)) ≡ None
no_complete D r [] n = refl
no_complete D r (x ∷ bs) n =
    find_neither (has_kind Complete) (branch_obligations D r (n, x)) (flat_map (branch_obligations D r) (enumerate_from (n + 1) bs)) (wd_skipped Complete (WdOf n) (branch_wd D r x) refl) (no_complete D r bs (n + 1))

pub complete_claimed : (D : Env) (r : RewriteRule) → IsTrue r.complete → find (has_kind Complete) (obligations D (Rewrite r)) ≡ Some (named Complete (forall_all (type_list r.vars) (complete_formula r)))
complete_claimed D r h =
    find_behind (has_kind Complete) (flat_map (branch_obligations D r) (enumerate_from 1 r.branches)) (complete_obligation r) (no_complete D r r.branches 1)
    ∙ ap (λ b. find (has_kind Complete) (if b then named Complete (forall_all (type_list r.vars) (complete_formula r)) ∷ [] else [])) h

pub thm_claim : IsClaimKind Thm
thm_claim = record { not_wd = refl; not_numbered = λ i. refl }

pub sound_claim : IsClaimKind Sound
sound_claim = record { not_wd = refl; not_numbered = λ i. refl }

pub branch_claim : (n : ℕ) → IsClaimKind (SoundOf n)
branch_claim n = record { not_wd = refl; not_numbered = λ i. refl }

pub complete_claim : IsClaimKind Complete
complete_claim = record { not_wd = refl; not_numbered = λ i. refl }
