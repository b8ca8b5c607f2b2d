-- The scope of each theory of a project is one over which texts may be elaborated.
use Rattle.std.specs.Prelude.{◌≡◌, ◌<◌, ◌^◌, ◌++◌, ℕ, Ok, Err, Bool as Boolean, true, false, ◌||◌, List, [], ◌∷◌, Some, Contains, map, length, find, option_map, bytes_eq, refl, if◌then◌else◌}
use Rattle.std.specs.List.{AllByRecursion, IsDistinct}
use Rattle.std.proofs.Common.{inl, inr, sym, ap, subst, ◌∙◌, true≢false, arith}
use Rattle.std.proofs.lemmas.Bool.{cases_Bool}
use Rattle.std.proofs.lemmas.List.{append-nil, append_assoc, length-map, get_or-map}
use Rattle.std.proofs.lemmas.List.Folds.{list_any-append}
use Rattle.std.proofs.lemmas.Grind.{flat_map-append}
use Rattle.ev_typing.specs.Env.{Name}
use Rattle.ev_typing.proofs.Names.{same_name, name_same}
use Rattle.ev_ops.specs.Formulas.{MayFollowAll}
use Rattle.ev_theory_text.specs.declared.forms.ElementForm.TheVariants.{Import}
use Rattle.ev_theory_text.specs.declared.elements.RawElement.{RawElement}
use Rattle.ev_theory_text.specs.declared.elements.RawElement.TheVariants.{Read}
use Rattle.ev_theory_text.specs.Theories.{import_names}
use Rattle.ev_imports.specs.Reached.{visit, reached_by_each}
use Rattle.ev_elab.specs.declared.theories.Theory.{Theory}
use Rattle.ev_elab.specs.declared.theories.Reached.{Reached}
use Rattle.ev_elab.specs.States.{all_reached, elements_of as elements_of_all, reached_elements}
use Rattle.ev_elab.specs.Scopes.{import_count, StandsOver, StandAfter, IsScope}
use Rattle.ev_elab.specs.Elaborated.{IsSoundTheory}
use Rattle.ev_elab.proofs.Standing.{follow_append}
use Rattle.ev_project.specs.declared.projects.TheoryText.{TheoryText}
use Rattle.ev_project.specs.Projects.{Project, has_text}
use Rattle.ev_project.specs.Texts.{AreRead, is_among, import_elements}
use Rattle.ev_project.specs.Contents.{Elaboration, Contents, IsElaboration, elements_of, imports}
use Rattle.ev_project.specs.Graphs.{number_of, name_of, graph, marks, reached_names, names_by_each, HasNoCycles}
use Rattle.ev_project.specs.Scopes.{reached_theory, scope, IsElaborated}
use Rattle.ev_project.specs.Kept.{IsKept}
use Rattle.ev_project.specs.Orders.{AreInOrder}
use Rattle.ev_project.specs.Laws.{TheoriesAreSound}
use Rattle.ev_project.proofs.GraphLaws.{no_cycles}
use Rattle.ev_project.proofs.AcyclicLaws.{text_stands, import_of_read}
use Rattle.ev_project.proofs.ReachLaws.{among_place}
use Rattle.ev_project.proofs.OrderLaws.{in_order}
use Rattle.ev_project.proofs.JoinLaws.{join, join_map, names_joined}

all_reached_is : (s : List (List Reached)) → all_reached s ≡ join s
all_reached_is [] = refl
all_reached_is (rs ∷ s) = ap (λ xs. rs ++ xs) (all_reached_is s)

elements_append : (rs ss : List Reached) → elements_of_all (rs ++ ss) ≡ elements_of_all rs ++ elements_of_all ss
elements_append rs ss = flat_map-append (λ (r : Reached). r.elements) rs ss

-- what holds of each of a list, by membership
all_among : (P : Name → Type 0) (ns : List Name) → ((n : Name) → is_among ns n ≡ true → P n) → AllByRecursion P ns
all_among P [] h = tt
all_among P (n ∷ ns) h = (h n (ap (λ b. b || is_among ns n) (name_same n)), all_among P ns (λ m e. h m (later m e)))
  where
    later : (m : Name) → is_among ns m ≡ true → is_among (n ∷ ns) m ≡ true
    later m e = elim (cases_Bool (bytes_eq m n)) [
      | inl y ↦ rw y refl
      | inr y ↦ rw y e
    ]

of_among : (P : Name → Type 0) (ns : List Name) → AllByRecursion P ns → (n : Name) → is_among ns n ≡ true → P n
of_among P [] h n e = absurd (true≢false (sym e))
of_among P (m ∷ ms) h n e = elim (cases_Bool (bytes_eq n m)) [
  | inl y ↦ subst P (sym (same_name n m y)) h.0
  | inr y ↦ of_among P ms h.1 n (sym (ap (λ b. b || is_among ms n) y) ∙ e)
]

count_each : (es : List RawElement) → length (import_elements es) ≡ import_count es
count_each [] = refl
count_each (Read (Import n) ∷ es) = let rest = count_each es in omega (arith, rest)
count_each (e ∷ es) = count_each es

lists_each : (depth : ℕ) (g : List (List ℕ)) (deployed : List Boolean) (us listed : List ℕ) → length (reached_by_each depth g deployed listed us) ≡ length us
lists_each depth g deployed [] listed = refl
lists_each depth g deployed (u ∷ us) listed = let rest = lists_each depth g deployed us (visit depth g deployed listed u) in omega (arith, rest)

-- the text of each theory is short
short_text : (ts : List TheoryText) (n : Name) (text : List ℕ) → AllByRecursion (λ (t : TheoryText). length t.text < 2 ^ 32) ts
    → option_map (λ (t : TheoryText). t.text) (find (λ (t : TheoryText). bytes_eq t.name n) ts) ≡ Some text → length text < 2 ^ 32
short_text [] n text h e = cc e
short_text (t ∷ ts) n text h e = elim (cases_Bool (bytes_eq t.name n)) [
  | inl y ↦
      let first : Some t.text ≡ Some text = sym (ap (λ b. option_map (λ (t : TheoryText). t.text) (if b then Some t else find (λ (t : TheoryText). bytes_eq t.name n) ts)) y) ∙ e in
      let same : t.text ≡ text = cc first in
      subst (λ x. length x < 2 ^ 32) same h.0
  | inr y ↦ short_text ts n text h.1 (sym (ap (λ b. option_map (λ (t : TheoryText). t.text) (if b then Some t else find (λ (t : TheoryText). bytes_eq t.name n) ts)) y) ∙ e)
]

-- the theories of a scope
pub scope_is : (p : Project) (v : Contents) (n : Name) → has_text p n ≡ true → all_reached (scope p v n) ≡ map (reached_theory p v) (reached_names p (imports p v) n)
scope_is p v n here =
    all_reached_is (scope p v n) ∙ join_map (reached_theory p v) (names_by_each p (imports p v) (import_elements (v.raw_elements n)))
    ∙ ap (map (reached_theory p v)) (names_joined p (imports p v) n (v.raw_elements n) here (ap (λ b. if b then import_names (v.raw_elements n) else []) here))

module _ (sound : TheoriesAreSound) (p : Project) (v : Contents) (kept : IsKept p) (read : AreRead p v.raw_elements) where
  abbrev reach : Name → List Name
  reach n = reached_names p (imports p v) n

  acyclic : HasNoCycles p (imports p v)
  acyclic = no_cycles p (imports p v) (import_of_read p v.raw_elements read) kept.orderly.acyclic

  pub ordered : (n : Name) → AreInOrder p (imports p v) n
  ordered n = in_order p (imports p v) acyclic n

  -- each elaboration without a fault is sound
  abbrev IsSoundAt : Name → Type 0
  IsSoundAt u = (T : Theory) → v.elaboration u ≡ Ok T → IsSoundTheory (scope p v u) T

  names_of : (ns : List Name) → map (λ (r : Reached). r.name) (map (reached_theory p v) ns) ≡ ns
  names_of [] = refl
  names_of (n ∷ ns) = ap (λ ms. n ∷ ms) (names_of ns)

  theories_append : (ns ms : List Name) → map (reached_theory p v) (ns ++ ms) ≡ map (reached_theory p v) ns ++ map (reached_theory p v) ms
  theories_append [] ms = refl
  theories_append (n ∷ ns) ms = ap (λ rs. reached_theory p v n ∷ rs) (theories_append ns ms)

  contains_theory : (ns : List Name) (w : Name) → is_among ns w ≡ true → Contains (map (reached_theory p v) ns) (reached_theory p v w)
  contains_theory ns w h =
      let at = among_place ns w h in
      (at.0, (let len = length-map ns (reached_theory p v) in omega (arith, at.1, len)), get_or-map (reached_theory p v) ns at.0 [] (reached_theory p v w) at.1 ∙ ap (reached_theory p v) at.2)

  all_map : (P : Reached → Type 0) (ns : List Name) → AllByRecursion (λ n. P (reached_theory p v n)) ns → AllByRecursion P (map (reached_theory p v) ns)
  all_map P [] h = tt
  all_map P (n ∷ ns) h = (h.0, all_map P ns h.1)

  -- a faulty theory stands over nothing
  faulty_stands : (earlier : List Reached) (r : Reached) → r.elements ≡ [] → StandsOver earlier r
  faulty_stands earlier r none = record {
    below = [];
    among = tt;
    follow = rw none tt;
  }

  -- one without a fault over those that it reaches
  good_stands : (before : List Name) (u : Name) (T : Theory) → has_text p u ≡ true → v.elaboration u ≡ Ok T → IsSoundTheory (scope p v u) T
      → ((w : Name) → is_among (reach u) w ≡ true → is_among before w ≡ true) → StandsOver (map (reached_theory p v) before) (reached_theory p v u)
  good_stands before u T here is s within = record {
    below = below;
    among = all_map (Contains (map (reached_theory p v) before)) (reach u) (all_among (λ w. Contains (map (reached_theory p v) before) (reached_theory p v w)) (reach u) (λ w h. contains_theory before w (within w h)));
    follow = subst (MayFollowAll []) elements_joined (follow_append [] (reached_elements (scope p v u)) T.elements s.scope_follows s.follow);
  }
    where
      below : List Reached
      below = map (reached_theory p v) (reach u)

      elements_are : elements_of (v.elaboration u) ≡ T.elements
      elements_are = ap elements_of is

      elements_joined : reached_elements (scope p v u) ++ T.elements ≡ elements_of_all (below ++ reached_theory p v u ∷ [])
      elements_joined =
          ap (λ rs. elements_of_all rs ++ T.elements) (scope_is p v u here) ∙ ap (λ es. elements_of_all below ++ es) (sym (append-nil (elements_of (v.elaboration u)) ∙ elements_are))
          ∙ sym (flat_map-append (λ (r : Reached). r.elements) below (reached_theory p v u ∷ []))

  among_middle : (before after : List Name) (u : Name) → is_among (before ++ u ∷ after) u ≡ true
  among_middle before after u =
      list_any-append (bytes_eq u) before (u ∷ after) ∙ ap (λ b. is_among before u || (b || is_among after u)) (name_same u) ∙ or_true (is_among before u)
    where
      or_true : (b : Boolean) → (b || true) ≡ true
      or_true true = refl
      or_true false = refl

  -- where all that it reaches is sound, the scope of a theory is such
  module _ (n : Name) (goods : (u : Name) → is_among (reach n) u ≡ true → IsSoundAt u) where
    stands_one : (before after : List Name) (u : Name) → reach n ≡ before ++ u ∷ after → StandsOver (map (reached_theory p v) before) (reached_theory p v u)
    stands_one before after u same = by (v.elaboration u) refl
      where
        among : is_among (reach n) u ≡ true
        among = subst (λ ns. is_among ns u ≡ true) (sym same) (among_middle before after u)

        by : (e : Elaboration) → v.elaboration u ≡ e → StandsOver (map (reached_theory p v) before) (reached_theory p v u)
        by (Err fault) is = faulty_stands (map (reached_theory p v) before) (reached_theory p v u) (ap elements_of is)
        by (Ok T) is = good_stands before u T ((ordered n).there u among) is (goods u among T is) ((ordered n).earlier before after u same)

    stands : (before after : List Name) → reach n ≡ before ++ after → StandAfter (map (reached_theory p v) before) (map (reached_theory p v) after)
    stands before [] same = tt
    stands before (u ∷ after) same = (
      stands_one before after u same,
      subst (λ rs. StandAfter rs (map (reached_theory p v) after)) (theories_append before (u ∷ []))
          (stands (before ++ u ∷ []) after (same ∙ sym (append_assoc before (u ∷ []) after))),
    )

    scope_of : has_text p n ≡ true → IsScope (scope p v n) (v.raw_elements n)
    scope_of here = record {
      count = counted;
      distinct = subst (IsDistinct bytes_eq) (sym (ap (map (λ (r : Reached). r.name)) (scope_is p v n here) ∙ names_of (reach n))) (ordered n).different;
      theories = subst (StandAfter []) (sym (scope_is p v n here)) (stands [] (reach n) refl);
    }
      where
        ns : List Name
        ns = import_elements (v.raw_elements n)

        by_each : List (List ℕ)
        by_each = reached_by_each (length (graph p (imports p v))) (graph p (imports p v)) (marks p (imports p v)) [] (map (number_of p) ns)

        counted : length (scope p v n) ≡ import_count (v.raw_elements n)
        counted =
            length-map (map (map (name_of p)) by_each) (map (reached_theory p v)) ∙ length-map by_each (map (name_of p))
            ∙ lists_each (length (graph p (imports p v))) (graph p (imports p v)) (marks p (imports p v)) (map (number_of p) ns) [] ∙ length-map ns (number_of p)
            ∙ count_each (v.raw_elements n)

  sound_at : (u : Name) → has_text p u ≡ true → IsElaborated p v u → IsScope (scope p v u) (v.raw_elements u) → IsSoundAt u
  sound_at u here elaborated is_scope T is =
      let at = text_stands p u here in
      sound at.0 (scope p v u) (v.raw_elements u) T (short_text p.0 u at.0 kept.texts at.1) (read u at.0 at.1) is_scope (subst (IsElaboration (scope p v u) (v.raw_elements u)) is (elaborated here))

  module _ (n : Name) (below : AllByRecursion (IsElaborated p v) (reach n)) where
    all_sound : (after before : List Name) → reach n ≡ before ++ after → ((w : Name) → is_among before w ≡ true → IsSoundAt w)
        → (w : Name) → is_among (before ++ after) w ≡ true → IsSoundAt w
    all_sound [] before same have w h = have w (subst (λ ns. is_among ns w ≡ true) (append-nil before) h)
    all_sound (u ∷ after) before same have w h =
        all_sound after (before ++ u ∷ []) (same ∙ sym (append_assoc before (u ∷ []) after)) longer w (subst (λ ns. is_among ns w ≡ true) (sym (append_assoc before (u ∷ []) after)) h)
      where
        among : is_among (reach n) u ≡ true
        among = subst (λ ns. is_among ns u ≡ true) (sym same) (among_middle before after u)

        here : has_text p u ≡ true
        here = (ordered n).there u among

        at_u : IsSoundAt u
        at_u = sound_at u here (of_among (IsElaborated p v) (reach n) below u among) (scope_of u (λ x i. have x ((ordered n).earlier before after u same x i)) here)

        longer : (x : Name) → is_among (before ++ u ∷ []) x ≡ true → IsSoundAt x
        longer x i = elim (cases_Bool (bytes_eq x u)) [
          | inl y ↦ subst IsSoundAt (sym (same_name x u y)) at_u
          | inr y ↦ have x (in_first (is_among before x) (sym (list_any-append (bytes_eq x) before (u ∷ []) ∙ ap (λ b. is_among before x || (b || false)) y) ∙ i))
        ]
          where
            in_first : (b : Boolean) → (b || false) ≡ true → b ≡ true
            in_first true e = refl
            in_first false e = e

    pub scope_sound : has_text p n ≡ true → IsScope (scope p v n) (v.raw_elements n)
    scope_sound here = scope_of n (all_sound (reach n) [] refl (λ w h. absurd (true≢false (sym h)))) here

    pub theory_sound : has_text p n ≡ true → IsElaborated p v n → (T : Theory) → v.elaboration n ≡ Ok T → IsSoundTheory (scope p v n) T
    theory_sound here elaborated = sound_at n here elaborated (scope_sound here)
