-- Walks of imports by names are walks in the graph of a project.
use Rattle.std.specs.Prelude.{◌≡◌, ◌≢◌, ◌<◌, ◌≤◌, ℕ, ◌+◌, ◌-◌, zero, suc, true, ◌||◌, List, [], ◌∷◌, Option, Some, None, map, length, is_some, bytes_eq, get_or, slice_get, option_map, find, refl, if◌then◌else◌}
use Rattle.std.proofs.Common.{inl, inr, sym, ap, subst, ◌∙◌, true≢false, arith}
use Rattle.std.proofs.lemmas.Bool.{cases_Bool, cases_lt}
use Rattle.std.proofs.lemmas.List.{get_or-map, get_or-append_right, length-map}
use Rattle.std.proofs.lemmas.List.{get_or_append_left}
use Rattle.std.proofs.lemmas.Option.{slice_get-map}
use Rattle.std.proofs.lemmas.List.Recursion.{is_position_or_len}
use Rattle.ev_typing.specs.Env.{Name}
use Rattle.ev_typing.proofs.Names.{same_name, name_same, apart_flip}
use Rattle.ev_imports.specs.Walks.{imports_of, Imports, IsWalk}
use Rattle.ev_project.specs.declared.projects.TheoryText.{TheoryText}
use Rattle.ev_project.specs.Projects.{Project, find_theory, has_text, text_of}
use Rattle.ev_project.specs.Texts.{is_among, IsImport, IsWalkOfNames, IsAcyclic}
use Rattle.ev_project.specs.Graphs.{theory_names, number_of, name_of, graph, HasNoCycleAt, HasNoCycles}

-- the place of a name among names, or behind them
abbrev pub place : List Name → Name → ℕ
place [] n = 0
place (m ∷ ms) n = if bytes_eq m n then 0 else suc (place ms n)

pub number_is : (p : Project) (n : Name) → number_of p n ≡ place (theory_names p) n
number_is p n = sym (is_position_or_len (λ ns. place ns n) (λ m. bytes_eq m n) refl step (theory_names p))
  where
    step : (m : Name) (ms : List Name) → place (m ∷ ms) n ≡ (if bytes_eq m n then 0 else (1 + place ms n))
    step m ms = elim (cases_Bool (bytes_eq m n)) [
      | inl y ↦ rw y refl
      | inr y ↦ rw y (omega arith)
    ]

pub name_at_place : (ns : List Name) (n : Name) → place ns n < length ns → get_or ns (place ns n) [] ≡ n
name_at_place [] n h = absurd (omega (arith, h))
name_at_place (m ∷ ms) n h = elim (cases_Bool (bytes_eq m n)) [
  | inl y ↦ rw y (same_name m n y)
  | inr y ↦
      let at : place (m ∷ ms) n ≡ suc (place ms n) = rw y refl in
      rw y (name_at_place ms n (omega (arith, h, at)))
]

pub place_within : (ns : List Name) (n : Name) → is_among ns n ≡ true → place ns n < length ns
place_within [] n h = absurd (true≢false (sym h))
place_within (m ∷ ms) n h = elim (cases_Bool (bytes_eq m n)) [
  | inl y ↦ rw y (omega arith)
  | inr y ↦
      let among : is_among ms n ≡ true = sym (ap (λ b. b || is_among ms n) (apart_flip m n y)) ∙ h in
      let inside = place_within ms n among in
      rw y (omega (arith, inside))
]

pub among_at : (ns : List Name) (u : ℕ) → u < length ns → is_among ns (get_or ns u []) ≡ true
among_at [] u h = absurd (omega (arith, h))
among_at (m ∷ ms) zero h = ap (λ b. b || is_among ms m) (name_same m)
among_at (m ∷ ms) (suc u) h = elim (cases_Bool (bytes_eq (get_or ms u []) m)) [
  | inl y ↦ rw y refl
  | inr y ↦ rw y (among_at ms u (omega (arith, h)))
]

-- membership and places in a list
pub at_some : (ns : List Name) (n : Name) → is_among ns n ≡ true → (i : ℕ) × (slice_get ns i ≡ Some n)
at_some [] n h = absurd (true≢false (sym h))
at_some (m ∷ ms) n h = elim (cases_Bool (bytes_eq n m)) [
  | inl y ↦ (0, ap Some (sym (same_name n m y)))
  | inr y ↦
      let rest = at_some ms n (sym (ap (λ b. b || is_among ms n) y) ∙ h) in
      (suc rest.0, rest.1)
]

pub among_some : (ns : List Name) (i : ℕ) (n : Name) → slice_get ns i ≡ Some n → is_among ns n ≡ true
among_some [] i n h = cc
among_some (m ∷ ms) zero n h = let e : m ≡ n = cc h in ap (λ b. b || is_among ms n) (subst (λ k. bytes_eq n k ≡ true) (sym e) (name_same n))
among_some (m ∷ ms) (suc i) n h = elim (cases_Bool (bytes_eq n m)) [
  | inl y ↦ rw y refl
  | inr y ↦ rw y (among_some ms i n h)
]

-- a name has a text where it is one of the theories' names
pub text_among : (p : Project) (n : Name) → has_text p n ≡ is_among (theory_names p) n
text_among p n = by p.0
  where
    by : (ts : List TheoryText) → is_some (find (λ (t : TheoryText). bytes_eq t.name n) ts) ≡ is_among (map (λ (t : TheoryText). t.name) ts) n
    by [] = refl
    by (t ∷ ts) = elim (cases_Bool (bytes_eq t.name n)) [
      | inl y ↦ rw (y, subst (λ k. bytes_eq n k ≡ true) (sym (same_name t.name n y)) (name_same n)) refl
      | inr y ↦ rw (y, apart_flip t.name n y) (by ts)
    ]

-- a theory with a text is there
pub has_some : (p : Project) (n : Name) (text : List ℕ) → text_of p n ≡ Some text → has_text p n ≡ true
has_some p n text h = by (find_theory p n) h
  where
    by : (o : Option TheoryText) → option_map (λ (t : TheoryText). t.text) o ≡ Some text → is_some o ≡ true
    by None e = absurd (cc e)
    by (Some t) e = refl

module _ (p : Project) (imports : Name → List Name) where
  abbrev pub rows : List (List ℕ)
  rows = map (λ n. map (number_of p) (imports n)) (theory_names p)

  pub rows_len : length rows ≡ length (theory_names p)
  rows_len = length-map (theory_names p) (λ n. map (number_of p) (imports n))

  -- the imports of a number
  pub row_of : (u : ℕ) → u < length (theory_names p) → imports_of (graph p imports) u ≡ map (number_of p) (imports (name_of p u))
  row_of u h =
      get_or_append_left rows ([] ∷ []) [] u (omega (arith, h, rows_len))
      ∙ get_or-map (λ n. map (number_of p) (imports n)) (theory_names p) u [] [] h

  -- the number behind the theories has none
  pub row_behind : (u : ℕ) → length (theory_names p) ≤ u → imports_of (graph p imports) u ≡ []
  row_behind u h = get_or-append_right rows ([] ∷ []) (length (theory_names p)) u [] rows_len h ∙ no_row (u - length (theory_names p))
    where
      no_row : (k : ℕ) → imports_of ([] ∷ []) k ≡ []
      no_row zero = refl
      no_row (suc k) = refl

  -- the number of a theory means its name
  pub named : (n : Name) → number_of p n < length (theory_names p) → name_of p (number_of p n) ≡ n
  named n h = rw (number_is p n) (name_at_place (theory_names p) n (subst (λ k. k < length (theory_names p)) (number_is p n) h))

  pub numbered_within : (n : Name) → is_among (theory_names p) n ≡ true → number_of p n < length (theory_names p)
  numbered_within n h = subst (λ k. k < length (theory_names p)) (sym (number_is p n)) (place_within (theory_names p) n h)

  -- an import of a theory, as one of its number
  pub edge_to : (n m : Name) → is_among (theory_names p) n ≡ true → is_among (imports n) m ≡ true → (i : ℕ) × Imports (graph p imports) (number_of p n) i (number_of p m)
  edge_to n m here h =
      let inside = numbered_within n here in
      let at = at_some (imports n) m h in
      let row = row_of (number_of p n) inside ∙ ap (λ k. map (number_of p) (imports k)) (named n inside) in
      (at.0, ap (λ us. slice_get us at.0) row ∙ slice_get-map (number_of p) (imports n) at.0 ∙ ap (option_map (number_of p)) at.1)

  pub record EdgeFrom (u v : ℕ) : Type 0 where
    pub within : u < length (theory_names p)
    pub target : Name
    pub imported : is_among (imports (name_of p u)) target ≡ true
    pub number : v ≡ number_of p target

  -- an import of a number, as one of its theory
  pub edge_from : (u i v : ℕ) → Imports (graph p imports) u i v → EdgeFrom u v
  edge_from u i v h = elim (cases_lt u (length (theory_names p))) [
    | inl l ↦ from_row l (imports (name_of p u)) refl (sym (slice_get-map (number_of p) (imports (name_of p u)) i) ∙ sym (ap (λ us. slice_get us i) (row_of u l)) ∙ h)
    | inr l ↦ let none : None ≡ Some v = sym (ap (λ (us : List ℕ). slice_get us i) (row_behind u l)) ∙ h in absurd (cc none)
  ]
    where
      from_row : u < length (theory_names p) → (ns : List Name) → ns ≡ imports (name_of p u) → option_map (number_of p) (slice_get (imports (name_of p u)) i) ≡ Some v → EdgeFrom u v
      from_row l ns same e = by (slice_get (imports (name_of p u)) i) refl e
        where
          by : (o : Option Name) → slice_get (imports (name_of p u)) i ≡ o → option_map (number_of p) o ≡ Some v → EdgeFrom u v
          by None at f = absurd (cc f)
          by (Some m) at f = record { within = l; target = m; imported = among_some (imports (name_of p u)) i m at; number = cc f }

  -- a walk of names as one of their numbers
  pub record WalkTo (n : Name) (us : List Name) (m : Name) : Type 0 where
    pub positions : List ℕ
    pub numbers : List ℕ
    pub is_walk : IsWalk (graph p imports) (number_of p n) positions numbers (number_of p m)
    pub some : us ≢ [] → positions ≢ []

  module _ (are : (n m : Name) → IsImport p n m → is_among (imports n) m ≡ true) where
    walk_to : (n : Name) (us : List Name) (m : Name) → IsWalkOfNames p n us m → WalkTo n us m
    walk_to n [] m w = record { positions = []; numbers = []; is_walk = ap (number_of p) w; some = λ h e. h refl }
    walk_to n (u ∷ us) m w =
        let rest = walk_to u us m w.1 in
        let first = edge_to n u (has_name n u w.0) (are n u w.0) in
        record {
          positions = first.0 ∷ rest.positions;
          numbers = number_of p u ∷ rest.numbers;
          is_walk = (first.1, rest.is_walk);
          some = λ h e. cc e;
        }
      where
        has_name : (n u : Name) → IsImport p n u → is_among (theory_names p) n ≡ true
        has_name n u i = sym (text_among p n) ∙ has_some p n i.text i.stands

    -- where no walk leads from the number back to it, none leads from the name
    pub no_cycle_at : (n : Name) → HasNoCycleAt p imports n → (us : List Name) → us ≢ [] → ¬ IsWalkOfNames p n us n
    no_cycle_at n h us some w = let walk = walk_to n us n w in h walk.positions walk.numbers (walk.some some, walk.is_walk)

  module _ (are : (n m : Name) → is_among (theory_names p) n ≡ true → is_among (imports n) m ≡ true → IsImport p n m) where
    pub record WalkFrom (n : Name) (is : List ℕ) (u : ℕ) : Type 0 where
      pub names : List Name
      pub last : Name
      pub is_walk : IsWalkOfNames p n names last
      pub number : number_of p last ≡ u
      pub some : is ≢ [] → names ≢ []

    walk_from : (n : Name) (is vs : List ℕ) (u : ℕ) → IsWalk (graph p imports) (number_of p n) is vs u → WalkFrom n is u
    walk_from n [] [] u w = record { names = []; last = n; is_walk = refl; number = w; some = λ h e. h refl }
    walk_from n [] (v ∷ vs) u w = absurd w
    walk_from n (i ∷ is) [] u w = absurd w
    walk_from n (i ∷ is) (v ∷ vs) u w =
        let first = edge_from (number_of p n) i v w.0 in
        let named_n = named n first.within in
        let rest = walk_from first.target is vs u (subst (λ x. IsWalk (graph p imports) x is vs u) first.number w.1) in
        let here = subst (λ k. is_among (theory_names p) k ≡ true) named_n (among_at (theory_names p) (number_of p n) first.within) in
        record {
          names = first.target ∷ rest.names;
          last = rest.last;
          is_walk = (are n first.target here (subst (λ k. is_among (imports k) first.target ≡ true) named_n first.imported), rest.is_walk);
          number = rest.number;
          some = λ h e. cc e;
        }

    -- where a walk ends is the number of a name
    ends_named : (t : ℕ) (is vs : List ℕ) (u : ℕ) → is ≢ [] → IsWalk (graph p imports) t is vs u → (z : Name) × (u ≡ number_of p z)
    ends_named t [] vs u some w = absurd (some refl)
    ends_named t (i ∷ is) [] u some w = absurd w
    ends_named t (i ∷ []) (v ∷ []) u some w = let e = edge_from t i v w.0 in (e.target, sym w.1 ∙ e.number)
    ends_named t (i ∷ []) (v ∷ (x ∷ vs)) u some w = absurd w.1
    ends_named t (i ∷ (j ∷ is)) (v ∷ vs) u some w = ends_named v (j ∷ is) vs u (λ e. cc e) w.1

    begins_within : (t : ℕ) (is vs : List ℕ) (u : ℕ) → is ≢ [] → IsWalk (graph p imports) t is vs u → t < length (theory_names p)
    begins_within t [] vs u some w = absurd (some refl)
    begins_within t (i ∷ is) [] u some w = absurd w
    begins_within t (i ∷ is) (v ∷ vs) u some w = let e = edge_from t i v w.0 in e.within

    -- where no walk of names leads back, none does in the graph
    pub no_cycles : IsAcyclic p → HasNoCycles p imports
    no_cycles acyclic t is vs c =
        let end = ends_named t is vs t c.0 c.1 in
        let within = begins_within t is vs t c.0 c.1 in
        let walk = walk_from end.0 is vs t (subst (λ x. IsWalk (graph p imports) x is vs t) end.1 c.1) in
        let last_is = sym (named walk.last (subst (λ x. x < length (theory_names p)) (sym walk.number) within)) ∙ ap (name_of p) (walk.number ∙ end.1)
        ∙ named end.0 (subst (λ x. x < length (theory_names p)) end.1 within) in
        acyclic end.0 walk.names (walk.some c.0) (subst (IsWalkOfNames p end.0 walk.names) last_is walk.is_walk)
