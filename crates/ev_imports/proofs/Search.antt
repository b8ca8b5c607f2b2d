-- What the search for a cycle keeps, and what follows where it ends.
use Rattle.std.proofs.Common.{◌≡◌, ◌⊎◌, ℕ, zero, suc, ◌+◌, ◌<◌, ◌≤◌, Bool, true, false, not, cond, List, [], ◌∷◌, ◌++◌, length, get_or, set, replicate, reverse, refl, sym, ap, ◌∙◌, subst, inl, inr, arith}
use Rattle.std.proofs.lemmas.List.{reverse-reverse, length-reverse, length-replicate, get_or_append_left, get_or_push, length_push, length-set, get_or-set_other}
use Rattle.std.proofs.lemmas.List.Sums.{sum_by-set}
use Rattle.std.proofs.lemmas.List.Folds.{sum_by-replicate}
use Rattle.std.proofs.lemmas.Option.{slice_get_within}
use Rattle.std.proofs.lemmas.Bool.{cases_lt, cases_eq}
use Rattle.std.specs.List.{count_by}
use Rattle.ev_imports.specs.declared.cycle.Found.{Found}
use Rattle.ev_imports.specs.Walks.{imports_of, Imports, IsCycle, HasNoCycle}
use Rattle.ev_imports.specs.Cycles.{IsFirstCycle}
use Rattle.ev_imports.specs.inner.Found.{no_found, number_at, parent_at, ParentsFall, IsTrail}
use Rattle.ev_imports.proofs.Order.{Earlier, NotLater, not_later_trans, earlier_cons, not_later_cons, earlier_next, earlier_past, not_later_length, not_before}
use Rattle.ev_imports.proofs.Backward.{Arrives, Leads, arrives_from_walk, walk_from_leads}

abbrev one_if_unmarked : Bool → ℕ
one_if_unmarked b = cond (not b) 1 0

-- the positions, last first, that lead to what was found at a place
abbrev pub path : List (List ℕ) → ℕ → List ℕ
path paths e = get_or paths e []

pub record Hop (graph : List (List ℕ)) (paths : List (List ℕ)) (found : List Found) (e : ℕ) : Type 0 where
  pub position : ℕ
  pub path_is : path paths e ≡ position ∷ path paths (parent_at found e)
  pub imports : Imports graph (number_at found (parent_at found e)) position (number_at found e)

pub record IsFoundAt (found : List Found) (v e : ℕ) : Type 0 where
  pub within : e < length found
  pub number_is : number_at found e ≡ v

-- the import at position a of what was found at e was looked at
abbrev pub Done : ℕ → ℕ → ℕ → ℕ → Type 0
Done head next e a = (e < head) ⊎ ((e ≡ head) × (a < next))

pub record Closed (name : ℕ) (paths : List (List ℕ)) (found : List Found) (e a v : ℕ) : Type 0 where
  pub other : v ≡ name → ⊥
  pub place : ℕ
  pub is_found : IsFoundAt found v place
  pub no_later : NotLater (path paths place) (a ∷ path paths e)

pub record Searched (graph : List (List ℕ)) (name : ℕ) (marks : List Bool) (found : List Found) (head next : ℕ) : Type 0 where
  pub paths : List (List ℕ)
  pub paths_len : length paths ≡ length found
  pub marks_len : length marks ≡ length graph
  pub some : 0 < length found
  pub start : number_at found 0 ≡ name
  pub start_path : path paths 0 ≡ []
  pub parents : ParentsFall found
  pub below : (e : ℕ) → e < length found → number_at found e < length graph
  pub hops : (e : ℕ) → 0 < e → e < length found → Hop graph paths found e
  pub marked : (v : ℕ) → get_or marks v false ≡ true → (e : ℕ) × IsFoundAt found v e
  pub sorted : (d e : ℕ) → d < e → e < length found → Earlier (path paths d) (path paths e)
  pub pending : head < length found → (e : ℕ) → e < length found → Earlier (path paths e) (next ∷ path paths head)
  pub closed : (e a v : ℕ) → e < length found → Done head next e a → Imports graph (number_at found e) a v → Closed name paths found e a v
  pub unmarked : length found + count_by not marks ≡ length graph + 1

-- what one more find leaves as it was
pub number_kept : (found : List Found) (f : Found) (e : ℕ) → e < length found → number_at (found ++ f ∷ []) e ≡ number_at found e
number_kept found f e h = ap (λ (x : Found). x.number) (get_or_append_left found (f ∷ []) no_found e h)

parent_kept : (found : List Found) (f : Found) (e : ℕ) → e < length found → parent_at (found ++ f ∷ []) e ≡ parent_at found e
parent_kept found f e h = ap (λ (x : Found). x.parent) (get_or_append_left found (f ∷ []) no_found e h)

number_new : (found : List Found) (f : Found) (e : ℕ) → length found ≡ e → number_at (found ++ f ∷ []) e ≡ f.number
number_new found f e h = ap (λ (x : Found). x.number) (get_or_push found f no_found e h)

parent_new : (found : List Found) (f : Found) (e : ℕ) → length found ≡ e → parent_at (found ++ f ∷ []) e ≡ f.parent
parent_new found f e h = ap (λ (x : Found). x.parent) (get_or_push found f no_found e h)

path_kept : (paths : List (List ℕ)) (p : List ℕ) (e : ℕ) → e < length paths → path (paths ++ p ∷ []) e ≡ path paths e
path_kept paths p e h = get_or_append_left paths (p ∷ []) [] e h

path_new : (paths : List (List ℕ)) (p : List ℕ) (e : ℕ) → length paths ≡ e → path (paths ++ p ∷ []) e ≡ p
path_new paths p e h = get_or_push paths p [] e h

module _ (graph : List (List ℕ)) (name : ℕ) (marks : List Bool) (found : List Found) (head next : ℕ) (s : Searched graph name marks found head next) where
  -- the next import comes no later than these positions
  abbrev IsAhead : List ℕ → Type 0
  IsAhead r = (head < length found) × NotLater (next ∷ path s.paths head) r

  -- what is found at e comes no later than these positions
  abbrev IsBehind : ℕ → List ℕ → Type 0
  IsBehind u r = (e : ℕ) × IsFoundAt found u e × NotLater (path s.paths e) r

  -- an import that was not looked at yet comes no earlier than the next one
  not_done : (e a : ℕ) → e < length found → (r : List ℕ) → NotLater (path s.paths e) r → Done head next e a ⊎ IsAhead (a ∷ r)
  not_done e a h r p =
      let along : NotLater (a ∷ path s.paths e) (a ∷ r) = not_later_cons (path s.paths e) r a p in
      elim (cases_lt e head) [
        | inl l ↦ inl (inl l)
        | inr l ↦ elim (cases_lt head e) [
          | inl m ↦ inr (omega arith, not_later_trans _ _ _ (inr (inl (s.sorted head e m h))) along)
          | inr m ↦ let q : e ≡ head = omega arith in elim (cases_lt a next) [
            | inl n ↦ inl (inr (q, n))
            | inr n ↦ elim (cases_lt next a) [
              | inl o ↦ inr (omega arith, not_later_trans _ _ _ (inr (inr (ap (path s.paths) (sym q), o))) along)
              | inr o ↦ let t : next ≡ a = omega arith in
                  inr (omega arith, not_later_trans _ _ _ (inl (ap (λ (x : ℕ). x ∷ path s.paths head) t ∙ ap (λ (x : ℕ). a ∷ path s.paths x) (sym q))) along)
            ]
          ]
        ]
      ]

  -- each walk ends at a number that was found no later than by it, or it is no earlier than the next import
  reaches : (r : List ℕ) (u : ℕ) → Arrives graph name u r → IsBehind u r ⊎ IsAhead r
  reaches [] u p = inl (0, record { within = s.some; number_is = s.start ∙ p }, inl s.start_path)
  reaches (a ∷ r) u p =
      elim (reaches r p.0 p.1) [
        | inl q ↦ elim (not_done q.0 a q.1.within r q.2) [
          | inl d ↦
              let c = s.closed q.0 a u q.1.within d (subst (λ (x : ℕ). Imports graph x a u) (sym q.1.number_is) p.2) in
              inl (c.place, c.is_found, not_later_trans _ _ _ c.no_later (not_later_cons (path s.paths q.0) r a q.2))
          | inr d ↦ inr d
        ]
        | inr q ↦ inr (q.0, not_later_trans _ _ _ q.1 (inr (earlier_cons r a)))
      ]

  -- a walk back to the start is no earlier than the next import
  back : (a : ℕ) (r : List ℕ) → Arrives graph name name (a ∷ r) → IsAhead (a ∷ r)
  back a r p =
      elim (reaches r p.0 p.1) [
        | inl q ↦ elim (not_done q.0 a q.1.within r q.2) [
          | inl d ↦
              let c = s.closed q.0 a name q.1.within d (subst (λ (x : ℕ). Imports graph x a name) (sym q.1.number_is) p.2) in
              absurd (c.other refl)
          | inr d ↦ d
        ]
        | inr q ↦ (q.0, not_later_trans _ _ _ q.1 (inr (earlier_cons r a)))
      ]

  ahead_of : (r : List ℕ) → (r ≡ [] → ⊥) → Arrives graph name name r → IsAhead r
  ahead_of [] n p = absurd (n refl)
  ahead_of (a ∷ r) n p = back a r p

  cycle_ahead : (is vs : List ℕ) → IsCycle graph name is vs → IsAhead (reverse is)
  cycle_ahead is vs c =
      ahead_of (reverse is) (λ (e : reverse is ≡ []). c.0 (sym (reverse-reverse is) ∙ ap reverse e)) (arrives_from_walk graph name name is vs c.1)

  pub no_cycle : length found ≤ head → HasNoCycle graph name
  no_cycle h is vs c = let a = cycle_ahead is vs c in omega (arith, a.0)

  trail_head : (e : ℕ) (w : ℕ) (vs : List ℕ) → IsTrail found e (w ∷ vs) → number_at found e ≡ w
  trail_head zero w vs p = p.0
  trail_head (suc e) w vs p = p.0

  leads_from_trail : (vs : List ℕ) (e : ℕ) → e < length found → IsTrail found e vs → Leads graph name (path s.paths e) vs
  leads_from_trail [] e h p = absurd p
  leads_from_trail (v ∷ vs) zero h p =
      let first : Leads graph name [] (v ∷ []) = sym s.start ∙ p.0 in
      subst (λ (x : List ℕ). Leads graph name x (v ∷ vs)) (sym s.start_path) (subst (λ (x : List ℕ). Leads graph name [] (v ∷ x)) (sym p.1) first)
  leads_from_trail (v ∷ []) (suc e) h p = absurd p.1
  leads_from_trail (v ∷ (w ∷ vs)) (suc e) h p =
      let hop = s.hops (suc e) (omega arith) h in
      let parent = s.parents (suc e) (omega arith) h in
      let before = leads_from_trail (w ∷ vs) (parent_at found (suc e)) (omega arith) p.1 in
      let from_w : Imports graph w hop.position v =
      subst (λ (x : ℕ). Imports graph w hop.position x) p.0
      (subst (λ (x : ℕ). Imports graph x hop.position (number_at found (suc e))) (trail_head (parent_at found (suc e)) w vs p.1) hop.imports) in
      subst (λ (x : List ℕ). Leads graph name x (v ∷ (w ∷ vs))) (sym hop.path_is) (from_w, before)

  pub cycle_found : head < length found → Imports graph (number_at found head) next name → (trail : List ℕ) → IsTrail found head trail → IsFirstCycle graph name (reverse (name ∷ trail))
  cycle_found h i [] p = absurd p
  cycle_found h i (v ∷ vs) p =
      let closing : Imports graph v next name = subst (λ (x : ℕ). Imports graph x next name) (trail_head head v vs p) i in
      let all : Leads graph name (next ∷ path s.paths head) (name ∷ (v ∷ vs)) = (closing, leads_from_trail (v ∷ vs) head h p) in
      let walk = walk_from_leads graph name (next ∷ path s.paths head) name (v ∷ vs) all in
      let len = length-reverse (next ∷ path s.paths head) in
      record {
        positions = reverse (next ∷ path s.paths head);
        later = walk.later;
        walk_is = walk.same;
        is_cycle = (λ (e : reverse (next ∷ path s.paths head) ≡ []). let l = ap length e in omega (arith, l, len), walk.is_walk);
        shortest = λ is us c. let a = cycle_ahead is us c in omega (arith, not_later_length _ _ a.1, length-reverse is, len);
        first = λ is us c e b. let a = cycle_ahead is us c in not_before is (next ∷ path s.paths head) e a.1 b;
      }

  same_import : (u a v w : ℕ) → Imports graph u a v → Imports graph u a w → v ≡ w
  same_import u a v w p q = cc (p, q)

  -- all imports up to the next one were looked at
  closed_more : (paths : List (List ℕ)) (more : List Found) (v : ℕ)
      → ((e a u : ℕ) → e < length more → Done head next e a → Imports graph (number_at more e) a u → Closed name paths more e a u)
      → Imports graph (number_at more head) next v → Closed name paths more head next v
      → (e a u : ℕ) → e < length more → Done head (next + 1) e a → Imports graph (number_at more e) a u → Closed name paths more e a u
  closed_more paths more v old i c e a u h (inl l) j = old e a u h (inl l) j
  closed_more paths more v old i c e a u h (inr l) j =
      elim (cases_lt a next) [
        | inl m ↦ old e a u h (inr (l.0, m)) j
        | inr m ↦
            let p : next ≡ a = let b = l.1 in omega arith in
            let q : head ≡ e = sym l.0 in
            let here = subst (λ (x : ℕ). Closed name paths more e x v) p (subst (λ (x : ℕ). Closed name paths more x next v) q c) in
            let i' = subst (λ (x : ℕ). Imports graph (number_at more e) x v) p (subst (λ (x : ℕ). Imports graph (number_at more x) next v) q i) in
            subst (λ (x : ℕ). Closed name paths more e a x) (same_import (number_at more e) a v u i' j) here
      ]

  -- the next import was found before
  pub search_known : (v : ℕ) → head < length found → Imports graph (number_at found head) next v → (v ≡ name → ⊥) → get_or marks v false ≡ true
      → Searched graph name marks found head (next + 1)
  search_known v h i n m =
      let there = s.marked v m in
      let here : Closed name s.paths found head next v = record { other = n; place = there.0; is_found = there.1; no_later = inr (s.pending h there.0 there.1.within) } in
      record {
        paths = s.paths;
        paths_len = s.paths_len;
        marks_len = s.marks_len;
        some = s.some;
        start = s.start;
        start_path = s.start_path;
        parents = s.parents;
        below = s.below;
        hops = s.hops;
        marked = s.marked;
        sorted = s.sorted;
        unmarked = s.unmarked;
        pending = λ l e k. earlier_next (path s.paths e) (path s.paths head) next (s.pending h e k);
        closed = closed_more s.paths found v s.closed i here;
      }

  -- all imports of what was found at this place were looked at
  pub search_row : head < length found → length (imports_of graph (number_at found head)) ≤ next → Searched graph name marks found (head + 1) 0
  search_row h n =
      record {
        paths = s.paths;
        paths_len = s.paths_len;
        marks_len = s.marks_len;
        some = s.some;
        start = s.start;
        start_path = s.start_path;
        parents = s.parents;
        below = s.below;
        hops = s.hops;
        marked = s.marked;
        sorted = s.sorted;
        unmarked = s.unmarked;
        pending = λ l e k. earlier_past (path s.paths e) (path s.paths head) (path s.paths (head + 1)) next 0 (s.pending h e k) (s.sorted head (head + 1) (omega arith) l);
        closed = λ e a v k d i. s.closed e a v k (looked_at e a v k d i) i;
      }
    where
      looked_at : (e a v : ℕ) → e < length found → Done (head + 1) 0 e a → Imports graph (number_at found e) a v → Done head next e a
      looked_at e a v k (inl l) i = elim (cases_lt e head) [
        | inl m ↦ inl m
        | inr m ↦
            let q : e ≡ head = omega arith in
            let i' = subst (λ (x : ℕ). Imports graph (number_at found x) a v) q i in
            let w = slice_get_within (imports_of graph (number_at found head)) a v i' in
            inr (q, omega arith)
      ]
      looked_at e a v k (inr l) i = absurd (omega (arith, l.1))

  -- The next import is found for the first time: what is known of the found numbers once it is one of them.
  module _ (v : ℕ) (here : head < length found) (imported : Imports graph (number_at found head) next v) (unlike : v ≡ name → ⊥)
      (inside : v < length graph) (fresh : get_or marks v false ≡ false) where
    abbrev new : Found
    new = record { number = v; parent = head }

    abbrev more : List Found
    more = found ++ new ∷ []

    abbrev longer : List (List ℕ)
    longer = s.paths ++ (next ∷ path s.paths head) ∷ []

    more_len : length more ≡ length found + 1
    more_len = length_push found new

    kept : (e : ℕ) → e < length found → path longer e ≡ path s.paths e
    kept e h = path_kept s.paths (next ∷ path s.paths head) e (omega (arith, s.paths_len))

    last : (e : ℕ) → e ≡ length found → path longer e ≡ next ∷ path s.paths head
    last e h = path_new s.paths (next ∷ path s.paths head) e (s.paths_len ∙ sym h)

    last_of : (e : ℕ) → e < length more → length found ≤ e → e ≡ length found
    last_of e h l = omega (arith, more_len)

    parents_more : ParentsFall more
    parents_more e p h = elim (cases_lt e (length found)) [
      | inl l ↦ rw (parent_kept found new e l) (s.parents e p l)
      | inr l ↦ rw (parent_new found new e (sym (last_of e h l))) (omega arith)
    ]

    below_more' : (e : ℕ) → e < length more → number_at more e < length graph
    below_more' e h = elim (cases_lt e (length found)) [
      | inl l ↦ rw (number_kept found new e l) (s.below e l)
      | inr l ↦ rw (number_new found new e (sym (last_of e h l))) inside
    ]

    hops_more : (e : ℕ) → 0 < e → e < length more → Hop graph longer more e
    hops_more e p h = elim (cases_lt e (length found)) [
      | inl l ↦
          let hop = s.hops e p l in
          let q = parent_kept found new e l in
          let falls = s.parents e p l in
          record {
            position = hop.position;
            path_is = kept e l ∙ hop.path_is ∙ ap (λ x. hop.position ∷ x) (sym (kept (parent_at found e) (omega arith)) ∙ ap (path longer) (sym q));
            imports =
                rw (q, number_kept found new e l, number_kept found new (parent_at found e) (omega arith)) hop.imports;
          }
      | inr l ↦
          let q = parent_new found new e (sym (last_of e h l)) in
          record {
            position = next;
            path_is = last e (last_of e h l) ∙ ap (λ x. next ∷ x) (sym (kept head here) ∙ ap (path longer) (sym q));
            imports = rw (q, number_new found new e (sym (last_of e h l)), number_kept found new head here) imported;
          }
    ]

    found_more : (u e : ℕ) → IsFoundAt found u e → IsFoundAt more u e
    found_more u e p = record { within = omega (arith, more_len, p.within); number_is = number_kept found new e p.within ∙ p.number_is }

    found_new : IsFoundAt more v (length found)
    found_new = record { within = omega (arith, more_len); number_is = number_new found new (length found) refl }

    marked_more : (u : ℕ) → get_or (set marks v true) u false ≡ true → (e : ℕ) × IsFoundAt more u e
    marked_more u m = elim (cases_eq u v) [
      | inl q ↦ (length found, subst (λ (x : ℕ). IsFoundAt more x (length found)) (sym q) found_new)
      | inr q ↦
          let old = s.marked u (sym (get_or-set_other marks v u true false q) ∙ m) in
          (old.0, found_more u old.0 old.1)
    ]

    sorted_more : (d e : ℕ) → d < e → e < length more → Earlier (path longer d) (path longer e)
    sorted_more d e l h = elim (cases_lt e (length found)) [
      | inl k ↦ rw (kept e k, kept d (omega arith)) (s.sorted d e l k)
      | inr k ↦ let q = last_of e h k in rw (last e q, kept d (omega arith)) (s.pending here d (omega arith))
    ]

    pending_more : head < length more → (e : ℕ) → e < length more → Earlier (path longer e) ((next + 1) ∷ path longer head)
    pending_more _ e h = elim (cases_lt e (length found)) [
      | inl k ↦ rw (kept e k, kept head here) (earlier_next (path s.paths e) (path s.paths head) next (s.pending here e k))
      | inr k ↦ let q = last_of e h k in rw (last e q, kept head here) (inr (refl, omega arith))
    ]

    closed_old : (e a u : ℕ) → e < length more → Done head next e a → Imports graph (number_at more e) a u → Closed name longer more e a u
    closed_old e a u h d i =
        let k : e < length found = elim d [ inl l ↦ omega arith | inr l ↦ let q = l.0 in omega arith ] in
        let c = s.closed e a u k d (rw (number_kept found new e k) at i) in
        record {
          other = c.other;
          place = c.place;
          is_found = found_more u c.place c.is_found;
          no_later = rw (kept c.place c.is_found.within, kept e k) c.no_later;
        }

    closed_here : Closed name longer more head next v
    closed_here = record {
      other = unlike;
      place = length found;
      is_found = found_new;
      no_later = inl (last (length found) refl ∙ ap (λ x. next ∷ x) (sym (kept head here)));
    }

    unmarked_more : length more + count_by not (set marks v true) ≡ length graph + 1
    unmarked_more =
        let change : count_by not (set marks v true) + 1 ≡ count_by not marks =
        let whole = sum_by-set one_if_unmarked marks v true false (omega (arith, s.marks_len)) in
        let was : one_if_unmarked (get_or marks v false) ≡ 1 = ap one_if_unmarked fresh in
        omega (arith, whole, was) in
        omega (arith, more_len, change, s.unmarked)

    pub search_found : Searched graph name (set marks v true) more head (next + 1)
    search_found = record {
      paths = longer;
      paths_len = length_push s.paths (next ∷ path s.paths head) ∙ ap (λ x. x + 1) s.paths_len ∙ sym more_len;
      marks_len = length-set marks v true ∙ s.marks_len;
      some = omega (arith, more_len);
      start = number_kept found new 0 s.some ∙ s.start;
      start_path = kept 0 s.some ∙ s.start_path;
      parents = parents_more;
      below = below_more';
      hops = hops_more;
      marked = marked_more;
      sorted = sorted_more;
      pending = pending_more;
      closed = closed_more longer more v closed_old (rw (number_kept found new head here) imported) closed_here;
      unmarked = unmarked_more;
    }

never_marked : (n v : ℕ) → get_or (replicate n false) v false ≡ true → ⊥
never_marked zero v p = cc
never_marked (suc n) zero p = cc
never_marked (suc n) (suc v) p = never_marked n v p

pub search_start : (graph : List (List ℕ)) (name : ℕ) → name < length graph
    → Searched graph name (replicate (length graph) false) (record { number = name; parent = 0 } ∷ []) 0 0
search_start graph name h = record {
  paths = [] ∷ [];
  paths_len = refl;
  marks_len = length-replicate (length graph) false;
  some = omega arith;
  start = refl;
  start_path = refl;
  parents = λ e p l. absurd (omega arith);
  below = below;
  hops = λ e p l. absurd (omega arith);
  marked = λ v m. absurd (never_marked (length graph) v m);
  sorted = λ d e l k. absurd (omega arith);
  pending = λ l e k. only e k;
  closed = λ e a v k d i. absurd (nothing e a d);
  unmarked = let c = sum_by-replicate one_if_unmarked (length graph) false in omega (arith, c);
}
  where
    below : (e : ℕ) → e < 1 → number_at (record { number = name; parent = 0 } ∷ []) e < length graph
    below zero l = h
    below (suc e) l = absurd (omega arith)

    only : (e : ℕ) → e < 1 → Earlier (path ([] ∷ []) e) (0 ∷ path ([] ∷ []) 0)
    only zero l = tt
    only (suc e) l = absurd (omega arith)

    nothing : (e a : ℕ) → Done 0 0 e a → ⊥
    nothing e a (inl l) = omega arith
    nothing e a (inr l) = omega (arith, l.1)
