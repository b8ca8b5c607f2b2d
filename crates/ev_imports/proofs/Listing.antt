-- The recursion lists the numbers to which walks lead, in the order in which the first walks end.
use Rattle.std.proofs.Common.{◌≡◌, ◌⊎◌, ◌&&◌, ◌||◌, ℕ, zero, suc, ◌+◌, ◌<◌, ◌≤◌, Bool, true, false, not, List, [], ◌∷◌, ◌++◌, length, get_or, drop, refl, sym, ap, ◌∙◌, subst, inl, inr, arith, Some}
use Rattle.std.specs.List.{fold, Contains}
use Rattle.std.proofs.lemmas.List.{length_push, get_or_append_left, get_or_push, get_or_default, drop_more, drop_all, append_assoc, append-nil}
use Rattle.std.proofs.lemmas.Bool.{cases_lt, eq-eqb}
use Rattle.std.proofs.lemmas.Bool.Decides.{eqb_tells}
use Rattle.std.proofs.lemmas.Option.{slice_get_within, slice_get-get_or}
use Rattle.ev_imports.specs.Walks.{imports_of, Imports, HasNoCycle, InRange}
use Rattle.ev_imports.specs.Cycles.{ComesBefore}
use Rattle.ev_imports.specs.Reached.{has_number, is_deployed, visit, reached}
use Rattle.ev_imports.specs.inner.Listing.{IsDeployedWalk, EndsBefore, ListsReached}
use Rattle.ev_imports.proofs.Lexicographic.{before_trans, before_on, before_right, before_at, before_cases, ends_from_before, ends_on, ends_cases}
use Rattle.ev_imports.proofs.Deployed.{same_import, walk_on, walk_rest, walk_import, no_return, walk_short}
use Rattle.ev_imports.proofs.Walking.{visit_entered, visit_skipped}

pub record IsListed (listed : List ℕ) (u : ℕ) : Type 0 where
  pub place : ℕ
  pub within : place < length listed
  pub number_is : get_or listed place 0 ≡ u

is_listed_at : (listed : List ℕ) (u : ℕ) → has_number listed u ≡ true → IsListed listed u
is_listed_at [] u p = cc
is_listed_at (x ∷ listed) u p =
    elim (eqb_tells x u) [
      | inl e ↦ record { place = 0; within = omega arith; number_is = e.1 }
      | inr e ↦
          let later = is_listed_at listed u (sym (ap (λ (b : Bool). b || has_number listed u) e.0) ∙ p) in
          record { place = suc later.place; within = let w = later.within in omega arith; number_is = later.number_is }
    ]

has_listed : (listed : List ℕ) (k u : ℕ) → k < length listed → get_or listed k 0 ≡ u → has_number listed u ≡ true
has_listed [] k u h e = absurd (omega arith)
has_listed (x ∷ listed) zero u h e = ap (λ (b : Bool). b || has_number listed u) (eq-eqb x u e)
has_listed (x ∷ listed) (suc k) u h e =
    let later = has_listed listed k u (omega arith) e in
    elim (eqb_tells x u) [
      | inl q ↦ ap (λ (b : Bool). b || has_number listed u) q.0
      | inr q ↦ ap (λ (b : Bool). b || has_number listed u) q.0 ∙ later
    ]

pub bool_cases : (b : Bool) → (b ≡ true) ⊎ (b ≡ false)
bool_cases true = inl refl
bool_cases false = inr refl

-- What is listed where all walks before a cut have been walked: the numbers to which they lead.
pub record Upto (graph : List (List ℕ)) (deployed : List Bool) (t : ℕ) (cut : List ℕ) (listed : List ℕ) : Type 0 where
  pub walks : List (List ℕ)
  pub one_each : length walks ≡ length listed
  pub are_walks : (k : ℕ) → k < length listed → IsDeployedWalk graph deployed t (get_or walks k []) (get_or listed k 0)
  pub before : (k : ℕ) → k < length listed → ComesBefore (get_or walks k []) cut
  pub firsts : (k : ℕ) → k < length listed → (is : List ℕ) → IsDeployedWalk graph deployed t is (get_or listed k 0) → ComesBefore is (get_or walks k []) → ⊥
  pub in_order : (j k : ℕ) → j < k → k < length listed → EndsBefore (get_or walks j []) (get_or walks k [])
  pub complete : (is : List ℕ) (u : ℕ) → IsDeployedWalk graph deployed t is u → ComesBefore is cut → IsListed listed u

module _ (graph : List (List ℕ)) (deployed : List Bool) (t : ℕ) (in_range : InRange graph) (acyclic : (u : ℕ) → HasNoCycle graph u) (below : t < length graph) where
  -- nothing comes between a walk and its first import
  upto_down : (p listed : List ℕ) → Upto graph deployed t p listed → Upto graph deployed t (p ++ 0 ∷ []) listed
  upto_down p listed s = record {
    walks = s.walks;
    one_each = s.one_each;
    are_walks = s.are_walks;
    firsts = s.firsts;
    in_order = s.in_order;
    before = λ k h. before_right _ p (0 ∷ []) (s.before k h);
    complete = λ is u w b. elim (before_cases p 0 is b) [
      | inl c ↦ s.complete is u w c
      | inr c ↦ absurd (let l = c.less in omega arith)
    ];
  }

  module _ (p : List ℕ) (x : ℕ) (here : IsDeployedWalk graph deployed t p x) (i v : ℕ) (imported : Imports graph x i v)
      (listed : List ℕ) (s : Upto graph deployed t (p ++ i ∷ []) listed) where
    cut_up : (q : List ℕ) → ComesBefore q (p ++ i ∷ []) → ComesBefore q (p ++ (i + 1) ∷ [])
    cut_up q b = before_trans q (p ++ i ∷ []) (p ++ (i + 1) ∷ []) b (before_at p [] [] i (i + 1) (omega arith))

    -- a walk before the next import is one before this one, or it goes on from this one
    data Next (is : List ℕ) (u : ℕ) : Type 0 where
      old : ComesBefore is (p ++ i ∷ []) → Next is u
      along : (later : List ℕ) → is ≡ p ++ i ∷ later → is_deployed deployed v ≡ true → IsDeployedWalk graph deployed v later u → Next is u

    next_cases : (is : List ℕ) (u : ℕ) → IsDeployedWalk graph deployed t is u → ComesBefore is (p ++ (i + 1) ∷ []) → Next is u
    next_cases is u w b =
        elim (before_cases p (i + 1) is b) [
          | inl c ↦ old (before_right is p (i ∷ []) c)
          | inr c ↦ elim (cases_lt c.position i) [
            | inl l ↦ old (subst (λ (q : List ℕ). ComesBefore q (p ++ i ∷ [])) (sym c.is) (before_at p c.later [] c.position i l))
            | inr l ↦
                let e : c.position ≡ i = let m = c.less in omega arith in
                let is_i : is ≡ p ++ i ∷ c.later = c.is ∙ ap (λ (k : ℕ). p ++ k ∷ c.later) e in
                let rest = walk_rest graph deployed p t x (i ∷ c.later) u here (subst (λ (q : List ℕ). IsDeployedWalk graph deployed t q u) is_i w) in
                let v_is = same_import graph x i rest.0 v rest.1 imported in
                along c.later is_i (subst (λ (n : ℕ). is_deployed deployed n ≡ true) v_is rest.2)
                (subst (λ (n : ℕ). IsDeployedWalk graph deployed n c.later u) v_is rest.3)
          ]
        ]

    skipped : (is_deployed deployed v && not (has_number listed v)) ≡ false → Upto graph deployed t (p ++ (i + 1) ∷ []) listed
    skipped e = record {
      walks = s.walks;
      one_each = s.one_each;
      are_walks = s.are_walks;
      firsts = s.firsts;
      in_order = s.in_order;
      before = λ k h. cut_up _ (s.before k h);
      complete = λ is u w b. elim (next_cases is u w b) [
        | old c ↦ s.complete is u w c
        | along later is_i d rest ↦
            let there = is_listed_at listed v (listed_from (has_number listed v) (sym (ap (λ (y : Bool). y && not (has_number listed v)) d) ∙ e)) in
            let to_v = subst (IsDeployedWalk graph deployed t (get_or s.walks there.place [])) there.number_is (s.are_walks there.place there.within) in
            s.complete (get_or s.walks there.place [] ++ later) u (walk_on graph deployed _ t v later u to_v rest)
            (before_shorter there.place there.within later)
      ];
    }
      where
        listed_from : (b : Bool) → not b ≡ false → b ≡ true
        listed_from true q = refl
        listed_from false q = cc

        before_shorter : (k : ℕ) → k < length listed → (later : List ℕ) → ComesBefore (get_or s.walks k [] ++ later) (p ++ i ∷ [])
        before_shorter k h later = subst (λ (q : List ℕ). ComesBefore (get_or s.walks k [] ++ later) q) (append-nil (p ++ i ∷ [])) (before_on _ (p ++ i ∷ []) later [] (s.before k h))

    left_true : (a b : Bool) → (a && b) ≡ true → a ≡ true
    left_true true b q = refl
    left_true false b q = cc

    right_false : (a b : Bool) → (a && not b) ≡ true → b ≡ false
    right_false true false q = refl
    right_false true true q = cc
    right_false false b q = cc

    to_v : (is_deployed deployed v && not (has_number listed v)) ≡ true → IsDeployedWalk graph deployed t (p ++ i ∷ []) v
    to_v entered = walk_import graph deployed p t x i v here imported (left_true (is_deployed deployed v) (not (has_number listed v)) entered)

    -- all imports of v were walked, and then v is listed
    module _ (entered : (is_deployed deployed v && not (has_number listed v)) ≡ true) (inner : List ℕ)
        (w : Upto graph deployed t ((p ++ i ∷ []) ++ length (imports_of graph v) ∷ []) inner) where
      abbrev all : List ℕ
      all = inner ++ v ∷ []

      abbrev longer_walks : List (List ℕ)
      longer_walks = w.walks ++ (p ++ i ∷ []) ∷ []

      not_yet : has_number listed v ≡ false
      not_yet = right_false (is_deployed deployed v) (has_number listed v) entered

      all_len : length all ≡ length inner + 1
      all_len = length_push inner v

      number_kept : (k : ℕ) → k < length inner → get_or all k 0 ≡ get_or inner k 0
      number_kept k h = get_or_append_left inner (v ∷ []) 0 k h

      number_last : (k : ℕ) → k ≡ length inner → get_or all k 0 ≡ v
      number_last k e = get_or_push inner v 0 k (sym e)

      walk_kept : (k : ℕ) → k < length inner → get_or longer_walks k [] ≡ get_or w.walks k []
      walk_kept k h = get_or_append_left w.walks ((p ++ i ∷ []) ∷ []) [] k (omega (arith, w.one_each))

      walk_last : (k : ℕ) → k ≡ length inner → get_or longer_walks k [] ≡ p ++ i ∷ []
      walk_last k e = get_or_push w.walks (p ++ i ∷ []) [] k (w.one_each ∙ sym e)

      last_of : (k : ℕ) → k < length all → length inner ≤ k → k ≡ length inner
      last_of k h l = omega (arith, all_len)

      inner_before : (k : ℕ) → k < length inner → ComesBefore (get_or w.walks k []) (p ++ (i + 1) ∷ [])
      inner_before k h = elim (before_cases (p ++ i ∷ []) (length (imports_of graph v)) (get_or w.walks k []) (w.before k h)) [
        | inl b ↦ cut_up _ b
        | inr g ↦ subst (λ (q : List ℕ). ComesBefore q (p ++ (i + 1) ∷ [])) (sym (g.is ∙ append_assoc p (i ∷ []) (g.position ∷ g.later)))
            (before_at p (g.position ∷ g.later) [] i (i + 1) (omega arith))
      ]

      inner_ends : (k : ℕ) → k < length inner → EndsBefore (get_or w.walks k []) (p ++ i ∷ [])
      inner_ends k h = elim (before_cases (p ++ i ∷ []) (length (imports_of graph v)) (get_or w.walks k []) (w.before k h)) [
        | inl b ↦ ends_from_before _ _ b
        | inr g ↦ subst (λ (q : List ℕ). EndsBefore q (p ++ i ∷ [])) (sym g.is) (ends_on (p ++ i ∷ []) g.later g.position)
      ]

      listed_kept : (u : ℕ) → IsListed inner u → IsListed all u
      listed_kept u l = record { place = l.place; within = let h = l.within in omega (arith, all_len); number_is = number_kept l.place l.within ∙ l.number_is }

      inner_has : (is : List ℕ) (u : ℕ) → IsDeployedWalk graph deployed t is u → ComesBefore is (p ++ i ∷ []) → IsListed inner u
      inner_has is u walk b = w.complete is u walk (before_right is (p ++ i ∷ []) (length (imports_of graph v) ∷ []) b)

      finished_complete : (is : List ℕ) (u : ℕ) → IsDeployedWalk graph deployed t is u → ComesBefore is (p ++ (i + 1) ∷ []) → IsListed all u
      finished_complete is u walk b = elim (next_cases is u walk b) [
        | old c ↦ listed_kept u (inner_has is u walk c)
        | along later is_i d rest ↦ further later is u walk is_i rest
      ]
        where
          further : (later is : List ℕ) (u : ℕ) → IsDeployedWalk graph deployed t is u → is ≡ p ++ i ∷ later → IsDeployedWalk graph deployed v later u → IsListed all u
          further [] is u walk is_i rest = record { place = length inner; within = omega (arith, all_len); number_is = number_last (length inner) refl ∙ rest }
          further (j ∷ later) is u walk is_i rest =
              let inside = slice_get_within (imports_of graph v) j rest.0 rest.1 in
              let split = is_i ∙ sym (append_assoc p (i ∷ []) (j ∷ later)) in
              listed_kept u (w.complete is u walk
              (subst (λ (q : List ℕ). ComesBefore q ((p ++ i ∷ []) ++ length (imports_of graph v) ∷ [])) (sym split)
              (before_at (p ++ i ∷ []) later [] j (length (imports_of graph v)) inside)))

      finished_firsts : (k : ℕ) → k < length all → (is : List ℕ) → IsDeployedWalk graph deployed t is (get_or all k 0) → ComesBefore is (get_or longer_walks k []) → ⊥
      finished_firsts k h is walk b = elim (cases_lt k (length inner)) [
        | inl l ↦ w.firsts k l is (subst (IsDeployedWalk graph deployed t is) (number_kept k l) walk) (subst (ComesBefore is) (walk_kept k l) b)
        | inr l ↦
            let e = last_of k h l in
            let there = s.complete is v (subst (IsDeployedWalk graph deployed t is) (number_last k e) walk) (subst (ComesBefore is) (walk_last k e) b) in
            let has = has_listed listed there.place v there.within there.number_is in
            cc (has, not_yet)
      ]

      finished_order : (j k : ℕ) → j < k → k < length all → EndsBefore (get_or longer_walks j []) (get_or longer_walks k [])
      finished_order j k l h = elim (cases_lt k (length inner)) [
        | inl m ↦ rw (walk_kept k m, walk_kept j (omega arith)) (w.in_order j k l m)
        | inr m ↦ let e = last_of k h m in rw (walk_last k e, walk_kept j (omega arith)) (inner_ends j (omega arith))
      ]

      finished_walks : (k : ℕ) → k < length all → IsDeployedWalk graph deployed t (get_or longer_walks k []) (get_or all k 0)
      finished_walks k h = elim (cases_lt k (length inner)) [
        | inl m ↦ rw (walk_kept k m, number_kept k m) (w.are_walks k m)
        | inr m ↦ let e = last_of k h m in rw (walk_last k e, number_last k e) (to_v entered)
      ]

      finished_before : (k : ℕ) → k < length all → ComesBefore (get_or longer_walks k []) (p ++ (i + 1) ∷ [])
      finished_before k h = elim (cases_lt k (length inner)) [
        | inl m ↦ rw (walk_kept k m) (inner_before k m)
        | inr m ↦ let e = last_of k h m in rw (walk_last k e) (before_at p [] [] i (i + 1) (omega arith))
      ]

      finished : Upto graph deployed t (p ++ (i + 1) ∷ []) all
      finished = record {
        walks = longer_walks;
        one_each = length_push w.walks (p ++ i ∷ []) ∙ ap (λ (n : ℕ). n + 1) w.one_each ∙ sym all_len;
        are_walks = finished_walks;
        before = finished_before;
        firsts = finished_firsts;
        in_order = finished_order;
        complete = finished_complete;
      }

  -- a visit of the import at i lists what the walks along it lead to
  abbrev Visits : ℕ → Type 0
  Visits depth = (p : List ℕ) (x : ℕ) → IsDeployedWalk graph deployed t p x → length p + depth ≡ length graph → (i v : ℕ) → Imports graph x i v
      → (listed : List ℕ) → Upto graph deployed t (p ++ i ∷ []) listed → Upto graph deployed t (p ++ (i + 1) ∷ []) (visit depth graph deployed listed v)

  folds : (depth : ℕ) → Visits depth → (p : List ℕ) (x : ℕ) → IsDeployedWalk graph deployed t p x → length p + depth ≡ length graph
      → (rest : List ℕ) (i : ℕ) → i ≤ length (imports_of graph x) → rest ≡ drop i (imports_of graph x)
      → (listed : List ℕ) → Upto graph deployed t (p ++ i ∷ []) listed
      → Upto graph deployed t (p ++ length (imports_of graph x) ∷ []) (fold (visit depth graph deployed) listed rest)
  folds depth visits p x here deep [] i l e listed s = elim (cases_lt i (length (imports_of graph x))) [
    | inl h ↦ let more = e ∙ drop_more (imports_of graph x) i 0 h in cc more
    | inr h ↦
        let all : i ≡ length (imports_of graph x) = omega arith in
        subst (λ (n : ℕ). Upto graph deployed t (p ++ n ∷ []) listed) all s
  ]
  folds depth visits p x here deep (v ∷ rest) i l e listed s = elim (cases_lt i (length (imports_of graph x))) [
    | inl h ↦
        let more = e ∙ drop_more (imports_of graph x) i 0 h in
        let v_is : get_or (imports_of graph x) i 0 ≡ v = cc more in
        let rest_is : rest ≡ drop (i + 1) (imports_of graph x) = cc more in
        let imported = slice_get-get_or (imports_of graph x) i 0 h ∙ ap Some v_is in
        folds depth visits p x here deep rest (i + 1) (omega arith) rest_is (visit depth graph deployed listed v)
        (visits p x here deep i v imported listed s)
    | inr h ↦ let none = e ∙ drop_all i (imports_of graph x) h in cc none
  ]

  visits : (depth : ℕ) → Visits depth
  visits zero p x here deep i v imported listed s =
      let short = walk_short graph deployed in_range acyclic p t x below here in
      absurd (omega arith)
  visits (suc depth) p x here deep i v imported listed s = elim (bool_cases (is_deployed deployed v && not (has_number listed v))) [
    | inr e ↦
        subst (Upto graph deployed t (p ++ (i + 1) ∷ [])) (sym (visit_skipped graph deployed (suc depth) listed v e))
        (skipped p x here i v imported listed s e)
    | inl e ↦
        let longer = length_push p i in
        let inner = folds depth (visits depth) (p ++ i ∷ []) v (to_v p x here i v imported listed s e) (omega (arith, longer)) (imports_of graph v) 0 (omega arith) refl listed
        (upto_down (p ++ i ∷ []) listed s) in
        subst (Upto graph deployed t (p ++ (i + 1) ∷ [])) (sym (visit_entered graph deployed depth listed v e))
        (finished p x here i v imported listed s e (fold (visit depth graph deployed) listed (imports_of graph v)) inner)
  ]

  upto_start : Upto graph deployed t (0 ∷ []) []
  upto_start = record {
    walks = [];
    one_each = refl;
    are_walks = λ k h. absurd (omega arith);
    before = λ k h. absurd (omega arith);
    firsts = λ k h. absurd (omega arith);
    in_order = λ j k l h. absurd (omega arith);
    complete = nothing;
  }
    where
      nothing : (is : List ℕ) (u : ℕ) → IsDeployedWalk graph deployed t is u → ComesBefore is (0 ∷ []) → IsListed [] u
      nothing [] u w b = absurd b
      nothing (i ∷ []) u w (inl b) = absurd (omega arith)
      nothing (i ∷ []) u w (inr b) = absurd b.1
      nothing (i ∷ (j ∷ is)) u w (inl b) = absurd (omega arith)
      nothing (i ∷ (j ∷ is)) u w (inr b) = absurd b.1

  upto_all : Upto graph deployed t (length (imports_of graph t) ∷ []) (reached graph deployed t)
  upto_all = folds (length graph) (visits (length graph)) [] t refl (omega arith) (imports_of graph t) 0 (omega arith) refl [] upto_start

  module _ (listed : List ℕ) (s : Upto graph deployed t (length (imports_of graph t) ∷ []) listed) where
    not_empty : (k : ℕ) → k < length listed → get_or s.walks k [] ≡ [] → ⊥
    not_empty k h e = subst (λ (q : List ℕ). ComesBefore q (length (imports_of graph t) ∷ [])) e (s.before k h)

    has_all : (is : List ℕ) (u : ℕ) → (is ≡ [] → ⊥) → IsDeployedWalk graph deployed t is u → IsListed listed u
    has_all [] u n w = absurd (n refl)
    has_all (i ∷ is) u n w = s.complete (i ∷ is) u w (inl (slice_get_within (imports_of graph t) i w.0 w.1))

    contains : (u : ℕ) → IsListed listed u → Contains listed u
    contains u l = (l.place, l.within, get_or_default listed l.place u 0 l.within ∙ l.number_is)

    -- two walks to one number of which neither is before the other are the same
    apart : (j k : ℕ) → j < k → k < length listed → get_or listed j 0 ≡ get_or listed k 0 → ⊥
    apart j k l h e =
        let j_in : j < length listed = omega arith in
        let u : ℕ = get_or listed k 0 in
        let to_j = subst (IsDeployedWalk graph deployed t (get_or s.walks j [])) e (s.are_walks j j_in) in
        elim (ends_cases (get_or s.walks j []) (get_or s.walks k []) (s.in_order j k l h)) [
          | inl b ↦ s.firsts k h (get_or s.walks j []) to_j b
          | inr b ↦
              no_return graph deployed acyclic u b.0 b.1
              (walk_rest graph deployed (get_or s.walks k []) t u (b.0 ∷ b.1) u (s.are_walks k h)
              (subst (λ (q : List ℕ). IsDeployedWalk graph deployed t q u) b.2 to_j))
        ]

    earlier : (k i v : ℕ) → k < length listed → Imports graph (get_or listed k 0) i v → is_deployed deployed v ≡ true
        → (j : ℕ) × (j < k) × (get_or listed j 0 ≡ v)
    earlier k i v h imported d =
        let u : ℕ = get_or listed k 0 in
        let q : List ℕ = get_or s.walks k [] in
        let to_v = walk_import graph deployed q t u i v (s.are_walks k h) imported d in
        let len = length_push q i in
        let there = has_all (q ++ i ∷ []) v (λ (e : q ++ i ∷ [] ≡ []). let l = ap length e in omega (arith, l, len)) to_v in
        elim (cases_lt there.place k) [
          | inl l ↦ (there.place, l, there.number_is)
          | inr l ↦ elim (cases_lt k there.place) [
            | inl m ↦ absurd (elim (ends_cases q (get_or s.walks there.place []) (s.in_order k there.place m there.within)) [
              | inl b ↦
                  s.firsts there.place there.within (q ++ i ∷ []) (subst (IsDeployedWalk graph deployed t (q ++ i ∷ [])) (sym there.number_is) to_v)
                  (subst (ComesBefore (q ++ i ∷ [])) (append-nil (get_or s.walks there.place [])) (before_on q (get_or s.walks there.place []) (i ∷ []) [] b))
              | inr b ↦
                  let v_walk = subst (IsDeployedWalk graph deployed t (get_or s.walks there.place [])) there.number_is (s.are_walks there.place there.within) in
                  let on = walk_rest graph deployed (get_or s.walks there.place []) t v (b.0 ∷ b.1) u v_walk
                  (subst (λ (x : List ℕ). IsDeployedWalk graph deployed t x u) b.2 (s.are_walks k h)) in
                  no_return graph deployed acyclic u i (b.0 ∷ b.1) (v, imported, d, on)
            ])
            | inr m ↦
                let same_place : there.place ≡ k = omega arith in
                let u_is : u ≡ v = ap (λ (n : ℕ). get_or listed n 0) (sym same_place) ∙ there.number_is in
                absurd (no_return graph deployed acyclic u i [] (v, imported, d, sym u_is))
          ]
        ]

    lists_upto : ListsReached graph deployed t listed
    lists_upto = record {
      walks = s.walks;
      one_each = s.one_each;
      first_walks = λ k h. record { some = not_empty k h; is_walk = s.are_walks k h; first = s.firsts k h };
      in_order = s.in_order;
      complete = λ is u n w. contains u (has_all is u n w);
      once = apart;
      imports_first = earlier;
    }

  pub lists_reached : ListsReached graph deployed t (reached graph deployed t)
  lists_reached = lists_upto (reached graph deployed t) upto_all
