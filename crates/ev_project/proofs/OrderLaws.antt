-- The theories that a theory reaches stand in order.
use Rattle.std.specs.Prelude.{◌≡◌, ◌||◌, ◌≢◌, ◌<◌, ℕ, ◌-◌, zero, suc, Bool as Boolean, true, false, List, [], ◌∷◌, ◌++◌, map, length, bytes_eq, get_or, refl}
use Rattle.std.specs.List.{IsDistinct}
use Rattle.std.proofs.Common.{inl, inr, sym, ap, subst, ◌∙◌, true≢false, arith}
use Rattle.std.proofs.lemmas.Bool.{cases_Bool, cases_lt}
use Rattle.std.proofs.lemmas.List.{get_or-map, get_or-append_right, get_or_append_left, length-append, length-map, get_or_default}
use Rattle.std.proofs.lemmas.List.Folds.{list_any-append}
use Rattle.std.proofs.Math.Seq.{get_or-append_seam}
use Rattle.std.proofs.lemmas.Map.Keys.{IsDistinct-from_apart}
use Rattle.ev_typing.specs.Env.{Name}
use Rattle.ev_typing.proofs.Names.{same_name}
use Rattle.ev_imports.specs.Walks.{InRange}
use Rattle.ev_imports.specs.Reached.{is_deployed, reached}
use Rattle.ev_imports.specs.inner.Listing.{IsDeployedWalk}
use Rattle.ev_project.specs.declared.projects.TheoryText.{TheoryText}
use Rattle.ev_project.specs.Projects.{Project, has_text}
use Rattle.ev_project.specs.Texts.{is_among}
use Rattle.ev_project.specs.Graphs.{theory_names, number_of, name_of, graph, marks, reached_names, HasNoCycles}
use Rattle.ev_project.specs.Orders.{AreInOrder}
use Rattle.ev_project.proofs.GraphLaws.{number_is, among_at, text_among, rows, rows_len, row_of, row_behind, named, edge_from}
use Rattle.ev_project.proofs.ReachLaws.{place_short, among_place, place_among, lists, listed_deployed, not_itself, reaches_earlier}

-- what stands before and behind a name
split_at : (ns : List Name) (u : Name) → is_among ns u ≡ true → (before after : List Name) × (ns ≡ before ++ u ∷ after)
split_at [] u h = absurd (true≢false (sym h))
split_at (m ∷ ms) u h = elim (cases_Bool (bytes_eq u m)) [
  | inl y ↦ ([], ms, ap (λ k. k ∷ ms) (sym (same_name u m y)))
  | inr y ↦
      let rest = split_at ms u (sym (ap (λ b. b || is_among ms u) y) ∙ h) in
      (m ∷ rest.0, rest.1, ap (λ ns. m ∷ ns) rest.2)
]

module _ (p : Project) (imports : Name → List Name) where
  abbrev pub size : ℕ
  size = length (theory_names p)

  abbrev g : List (List ℕ)
  g = graph p imports

  abbrev deployed : List Boolean
  deployed = marks p imports

  pub graph_len : length g ≡ suc size
  graph_len = length-append (rows p imports) ([] ∷ []) ∙ (let e = rows_len p imports in omega (arith, e))

  pub number_below : (n : Name) → number_of p n < length g
  number_below n =
      let short = place_short (theory_names p) n in
      omega (arith, short, number_is p n, graph_len)

  below_in : (row : List ℕ) (ns : List Name) → row ≡ map (number_of p) ns → (i e : ℕ) → i < length row → get_or row i e < length g
  below_in row ns same i e l =
      let len = length-map ns (number_of p) in
      let inside : i < length ns = omega (arith, l, ap length same, len) in
      let at = ap (λ us. get_or us i e) same ∙ get_or-map (number_of p) ns i [] e inside in
      subst (λ x. x < length g) (sym at) (number_below (get_or ns i []))

  -- each import is a number of the graph
  pub in_range : InRange g
  in_range u d h i e l =
      let same = get_or_default g u d [] h in
      elim (cases_lt u size) [
        | inl c ↦ below_in (get_or g u d) (imports (name_of p u)) (same ∙ row_of p imports u c) i e l
        | inr c ↦ below_in (get_or g u d) [] (same ∙ row_behind p imports u c) i e l
      ]

  -- what is deployed is a theory
  deployed_within : (v : ℕ) → is_deployed deployed v ≡ true → v < size
  deployed_within v d = elim (cases_lt v size) [
    | inl c ↦ c
    | inr c ↦
        let names = length-map p.0 (λ (t : TheoryText). t.name) in
        let own = length-map p.0 (λ (t : TheoryText). t.marked) in
        let behind = get_or-append_right (map (λ (t : TheoryText). t.marked) p.0) (false ∷ []) (length p.0) v false own (omega (arith, c, names)) in
        absurd (true≢false (sym d ∙ behind ∙ unmarked (v - length p.0)))
  ]
    where
      unmarked : (k : ℕ) → is_deployed (false ∷ []) k ≡ false
      unmarked zero = refl
      unmarked (suc k) = refl

  -- a walk leads to the number of a name
  walk_named : (t : ℕ) (is : List ℕ) (u : ℕ) → is ≢ [] → IsDeployedWalk g deployed t is u → (z : Name) × (u ≡ number_of p z)
  walk_named t [] u some w = absurd (some refl)
  walk_named t (i ∷ []) u some w = let e = edge_from p imports t i w.0 w.1 in (e.target, sym w.3 ∙ e.number)
  walk_named t (i ∷ (j ∷ is)) u some w = walk_named w.0 (j ∷ is) u (λ e. cc e) w.3

  module _ (acyclic : HasNoCycles p imports) (n : Name) where
    abbrev t : ℕ
    t = number_of p n

    abbrev listed : List ℕ
    listed = reached g deployed t

    abbrev names : List Name
    names = reached_names p imports n

    name_at : (k : ℕ) (d : Name) → k < length listed → get_or names k d ≡ name_of p (get_or listed k 0)
    name_at k d h = get_or-map (name_of p) listed k 0 d h

    names_len : length names ≡ length listed
    names_len = length-map listed (name_of p)

    number_at : (k : ℕ) → k < length listed → number_of p (name_of p (get_or listed k 0)) ≡ get_or listed k 0
    number_at k h =
        let first = (lists g deployed in_range acyclic t (number_below n)).first_walks k h in
        let z = walk_named t _ (get_or listed k 0) first.some first.is_walk in
        let within = deployed_within (get_or listed k 0) (listed_deployed g deployed in_range acyclic t (number_below n) k h) in
        ap (number_of p) (ap (name_of p) z.1 ∙ named p imports z.0 (subst (λ x. x < size) z.1 within)) ∙ sym z.1

    there : (u : Name) → is_among names u ≡ true → has_text p u ≡ true
    there u h =
        let at = among_place names u h in
        let inside : at.0 < length listed = omega (arith, at.1, names_len) in
        let within = deployed_within (get_or listed at.0 0) (listed_deployed g deployed in_range acyclic t (number_below n) at.0 inside) in
        let is_u = sym (name_at at.0 [] inside) ∙ at.2 in
        text_among p u ∙ subst (λ k. is_among (theory_names p) k ≡ true) is_u (among_at (theory_names p) (get_or listed at.0 0) within)

    different : IsDistinct bytes_eq names
    different = IsDistinct-from_apart bytes_eq names apart
      where
        apart : (i j : ℕ) (d : Name) → i < j → j < length names → bytes_eq (get_or names i d) (get_or names j d) ≡ false
        apart i j d l h = elim (cases_Bool (bytes_eq (get_or names i d) (get_or names j d))) [
          | inr e ↦ e
          | inl e ↦
              let inside : j < length listed = omega (arith, h, names_len) in
              let earlier : i < length listed = omega (arith, l, inside) in
              let same = sym (name_at i d earlier) ∙ same_name _ _ e ∙ name_at j d inside in
              let numbers = sym (number_at i earlier) ∙ ap (number_of p) same ∙ number_at j inside in
              absurd ((lists g deployed in_range acyclic t (number_below n)).once i j l inside numbers)
        ]

    others : is_among names n ≡ false
    others = elim (cases_Bool (is_among names n)) [
      | inr e ↦ e
      | inl e ↦
          let at = among_place names n e in
          let inside : at.0 < length listed = omega (arith, at.1, names_len) in
          let is_n = sym (name_at at.0 [] inside) ∙ at.2 in
          absurd (not_itself g deployed in_range acyclic t (number_below n) at.0 inside (sym (number_at at.0 inside) ∙ ap (number_of p) is_n))
    ]

    earlier : (before after : List Name) (u : Name) → names ≡ before ++ u ∷ after → (w : Name) → is_among (reached_names p imports u) w ≡ true
        → is_among before w ≡ true
    earlier before after u same w h =
        let k : ℕ = length before in
        let inside : k < length listed = omega (arith, ap length same, length-append before (u ∷ after), names_len) in
        let is_u = sym (name_at k [] inside) ∙ ap (λ (ns : List Name). get_or ns k []) same ∙ get_or-append_seam before u after [] in
        let number_u = sym (number_at k inside) ∙ ap (number_of p) is_u in
        let moved = subst (λ x. is_among (map (name_of p) (reached g deployed x)) w ≡ true) (sym number_u) h in
        let at = among_place (map (name_of p) (reached g deployed (get_or listed k 0))) w moved in
        let at_inside : at.0 < length (reached g deployed (get_or listed k 0)) = omega (arith, at.1, length-map (reached g deployed (get_or listed k 0)) (name_of p)) in
        let found = reaches_earlier g deployed in_range acyclic t (number_below n) k inside at.0 at_inside in
        let found_inside : found.0 < length listed = omega (arith, found.1, inside) in
        let named_w = ap (name_of p) found.2 ∙ sym (get_or-map (name_of p) (reached g deployed (get_or listed k 0)) at.0 0 [] at_inside) ∙ at.2 in
        let in_before = sym (get_or_append_left before (u ∷ after) [] found.0 found.1) ∙ sym (ap (λ (ns : List Name). get_or ns found.0 []) same) ∙ name_at found.0 [] found_inside
        ∙ named_w in
        place_among before found.0 w found.1 in_before

    within : (u w : Name) → is_among names u ≡ true → is_among (reached_names p imports u) w ≡ true → is_among names w ≡ true
    within u w h g =
        let at = split_at names u h in
        let before = earlier at.0 at.1 u at.2 w g in
        subst (λ ns. is_among ns w ≡ true) (sym at.2) (list_any-append (bytes_eq w) at.0 (u ∷ at.1) ∙ ap (λ b. b || is_among (u ∷ at.1) w) before)

    pub in_order : AreInOrder p imports n
    in_order = record { there = there; different = different; others = others; within = within; earlier = earlier }
