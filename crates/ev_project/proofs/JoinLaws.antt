-- What the imports of a text reach one after the other is what its theory reaches.
use Rattle.std.specs.Prelude.{◌≡◌, ◌==◌, ◌&&◌, ◌||◌, ℕ, suc, Bool as Boolean, true, false, not, List, [], ◌∷◌, ◌++◌, map, length, bytes_eq, fold, refl}
use Rattle.std.specs.List.{concat}
use Rattle.std.proofs.Common.{inl, inr, sym, ap, subst, ◌∙◌, true≢false}
use Rattle.std.proofs.lemmas.Bool.{cases_Bool}
use Rattle.std.proofs.lemmas.Bool.{eq-eqb}
use Rattle.std.proofs.lemmas.List.Sums.{fold-append}
use Rattle.std.proofs.lemmas.List.Folds.{list_any-append}
use Rattle.ev_typing.specs.Env.{Name}
use Rattle.ev_typing.proofs.Names.{same_name}
use Rattle.ev_theory_text.specs.declared.forms.ElementForm.TheVariants.{Import}
use Rattle.ev_theory_text.specs.declared.elements.RawElement.{RawElement}
use Rattle.ev_theory_text.specs.declared.elements.RawElement.TheVariants.{Read}
use Rattle.ev_theory_text.specs.Theories.{with_name, with_import, import_names}
use Rattle.ev_imports.specs.Walks.{imports_of}
use Rattle.ev_imports.specs.Reached.{has_number, is_deployed, visit, reached, reached_by_each}
use Rattle.ev_imports.proofs.Walking.{visit_entered, visit_skipped}
use Rattle.ev_imports.proofs.Parts.{enters, joined}
use Rattle.ev_project.specs.Projects.{Project, has_text}
use Rattle.ev_project.specs.Texts.{is_among, import_elements}
use Rattle.ev_project.specs.Graphs.{theory_names, number_of, name_of, graph, marks, reached_names, names_by_each}
use Rattle.ev_project.proofs.GraphLaws.{text_among, numbered_within, row_of, named}
use Rattle.ev_project.proofs.OrderLaws.{graph_len}

abbrev pub join : {X : Type 0} → List (List X) → List X
join [] = []
join (xs ∷ xss) = xs ++ join xss

map_append : {X Y : Type 0} (f : X → Y) (xs ys : List X) → map f (xs ++ ys) ≡ map f xs ++ map f ys
map_append f [] ys = refl
map_append f (x ∷ xs) ys = ap (λ zs. f x ∷ zs) (map_append f xs ys)

pub join_map : {X Y : Type 0} (f : X → Y) (xss : List (List X)) → join (map (map f) xss) ≡ map f (join xss)
join_map f [] = refl
join_map f (xs ∷ xss) = ap (λ zs. map f xs ++ zs) (join_map f xss) ∙ sym (map_append f xs (join xss))

pub join_concat : (xss : List (List ℕ)) → join xss ≡ concat xss
join_concat [] = refl
join_concat (xs ∷ xss) = ap (λ zs. xs ++ zs) (join_concat xss)

module _ (g : List (List ℕ)) (deployed : List Boolean) (depth : ℕ) where
  abbrev visits : List ℕ → List ℕ → List ℕ
  visits listed us = fold (visit (suc depth) g deployed) listed us

  has_left : (xs ys : List ℕ) (v : ℕ) → has_number xs v ≡ true → has_number (xs ++ ys) v ≡ true
  has_left xs ys v h = list_any-append (λ x. x == v) xs ys ∙ ap (λ b. b || has_number ys v) h

  -- what is not entered is not entered later
  stays_out : (us listed : List ℕ) (v : ℕ) → enters g deployed listed v ≡ false → enters g deployed (visits listed us) v ≡ false
  stays_out us listed v h = elim (cases_Bool (is_deployed deployed v)) [
    | inr d ↦ rw d refl
    | inl d ↦
        let listed_v : has_number listed v ≡ true = was (has_number listed v) (sym (ap (λ b. b && not (has_number listed v)) d) ∙ h) in
        let all = joined g deployed (suc depth) us listed in
        let later = subst (λ xs. has_number xs v ≡ true) all (has_left listed (concat (reached_by_each (suc depth) g deployed listed us)) v listed_v) in
        rw (d, later) refl
  ]
    where
      was : (b : Boolean) → not b ≡ false → b ≡ true
      was true e = refl
      was false e = absurd (true≢false e)

  -- nor is what was visited
  visited_out : (listed : List ℕ) (v : ℕ) → enters g deployed (visit (suc depth) g deployed listed v) v ≡ false
  visited_out listed v = elim (cases_Bool (enters g deployed listed v)) [
    | inr e ↦ rw (visit_skipped g deployed (suc depth) listed v e) e
    | inl e ↦
        let inner : List ℕ = fold (visit depth g deployed) listed (imports_of g v) in
        let own : has_number (v ∷ []) v ≡ true = ap (λ b. b || false) (eq-eqb v v refl) in
        let has : has_number (inner ++ v ∷ []) v ≡ true = list_any-append (λ x. x == v) inner (v ∷ []) ∙ rw own (or_true (has_number inner v)) in
        rw (visit_entered g deployed depth listed v e, has) (and_false (is_deployed deployed v))
  ]
    where
      or_true : (b : Boolean) → (b || true) ≡ true
      or_true true = refl
      or_true false = refl

      and_false : (b : Boolean) → (b && false) ≡ false
      and_false true = refl
      and_false false = refl

  module _ (number : Name → ℕ) where
    abbrev of_names : List Name → List ℕ
    of_names ns = visits [] (map number ns)

    -- a name that was visited adds nothing
    again : (ns : List Name) (listed : List ℕ) (n : Name) → is_among ns n ≡ true → enters g deployed (visits listed (map number ns)) (number n) ≡ false
    again [] listed n h = absurd (true≢false (sym h))
    again (m ∷ ms) listed n h = elim (cases_Bool (bytes_eq n m)) [
      | inl y ↦
          let e : number m ≡ number n = ap number (sym (same_name n m y)) in
          subst (λ x. enters g deployed (visits (visit (suc depth) g deployed listed (number m)) (map number ms)) x ≡ false) e
          (stays_out (map number ms) (visit (suc depth) g deployed listed (number m)) (number m) (visited_out listed (number m)))
      | inr y ↦ again ms (visit (suc depth) g deployed listed (number m)) n (sym (ap (λ b. b || is_among ms n) y) ∙ h)
    ]

    one_more : (ns : List Name) (n : Name) → visit (suc depth) g deployed (of_names ns) (number n) ≡ of_names (with_name ns n)
    one_more ns n = elim (cases_Bool (is_among ns n)) [
      | inl y ↦ rw y (visit_skipped g deployed (suc depth) (of_names ns) (number n) (again ns [] n y))
      | inr y ↦ rw y (sym (ap (visits []) (map_append number ns (n ∷ [])) ∙ fold-append (visit (suc depth) g deployed) [] (map number ns) (number n ∷ [])))
    ]

    -- imports that stand there several times reach nothing more
    pub each_once : (es : List RawElement) (ns : List Name) → visits (of_names ns) (map number (import_elements es)) ≡ of_names (fold with_import ns es)
    each_once [] ns = refl
    each_once (Read (Import n) ∷ es) ns = rw (one_more ns n) (each_once es (with_name ns n))
    each_once (e ∷ es) ns = each_once es ns

-- what the elements that import reach, joined, is what the theory reaches
pub names_joined : (p : Project) (imports : Name → List Name) (n : Name) (es : List RawElement) → has_text p n ≡ true → imports n ≡ import_names es
    → join (names_by_each p imports (import_elements es)) ≡ reached_names p imports n
names_joined p imports n es here are =
    join_map (name_of p) by_elements ∙ ap (map (name_of p)) (join_concat by_elements ∙ joined g deployed (length g) (map (number_of p) (import_elements es)) [] ∙ once ∙ sym own)
  where
    g : List (List ℕ)
    g = graph p imports

    deployed : List Boolean
    deployed = marks p imports

    by_elements : List (List ℕ)
    by_elements = reached_by_each (length g) g deployed [] (map (number_of p) (import_elements es))

    once : fold (visit (length g) g deployed) [] (map (number_of p) (import_elements es)) ≡ fold (visit (length g) g deployed) [] (map (number_of p) (import_names es))
    once = rw (graph_len p imports) (each_once g deployed (length (theory_names p)) (number_of p) es [])

    own : reached g deployed (number_of p n) ≡ fold (visit (length g) g deployed) [] (map (number_of p) (import_names es))
    own =
        let inside = numbered_within p imports n (sym (text_among p n) ∙ here) in
        ap (λ us. fold (visit (length g) g deployed) [] us)
        (row_of p imports (number_of p n) inside ∙ ap (λ m. map (number_of p) (imports m)) (named p imports n inside) ∙ ap (map (number_of p)) are)
