-- What the walk through the imports keeps.
use Rattle.std.proofs.Common.{◌≡◌, ◌&&◌, ◌||◌, ℕ, zero, suc, ◌+◌, ◌-◌, ◌<◌, ◌≤◌, Bool, true, false, not, cond, eqb, List, [], ◌∷◌, ◌++◌, map, length, get_or, set, drop, replicate, refl, sym, ap, ◌∙◌, subst, inl, inr, arith}
use Rattle.std.specs.List.{fold, sum_by}
use Rattle.std.proofs.lemmas.List.{length-set, length-replicate, length-map, map-append, length_push, drop_more, drop_all, get_or-set_same, get_or-set_other, get_or-replicate}
use Rattle.std.proofs.lemmas.List.Folds.{list_any-append}
use Rattle.std.proofs.lemmas.List.Sums.{sum_by-cons}
use Rattle.std.proofs.lemmas.Bool.Decides.{eqb_tells}
use Rattle.std.proofs.lemmas.Bool.{cases_eq, eq-eqb}
use Rattle.std.proofs.lemmas.Option.{slice_get-get_or}
use Rattle.ev_imports.specs.declared.reached.Frame.{Frame}
use Rattle.ev_imports.specs.Walks.{imports_of, HasNoCycle}
use Rattle.ev_imports.specs.Reached.{has_number, is_deployed, visit, reached}
use Rattle.ev_imports.proofs.Chain.{IsChain, chain_pop, chain_push, chain_last, chain_short}

abbrev pub numbers : List Frame → List ℕ
numbers stack = map (λ (f : Frame). f.number) stack

-- what is left of a frame's imports
abbrev pub rest_of : List (List ℕ) → Frame → List ℕ
rest_of graph f = drop f.next (imports_of graph f.number)

-- what is listed once all frames are done, the last one first; the depth is that of the first one's imports
abbrev pub unwound : List (List ℕ) → List Bool → ℕ → List Frame → List ℕ → List ℕ
unwound graph deployed depth [] listed = listed
unwound graph deployed depth (f ∷ stack) listed =
    fold (visit depth graph deployed) (unwound graph deployed (depth - 1) stack listed) (rest_of graph f) ++ f.number ∷ []

-- how many steps a visit takes at most, where nothing is listed yet
abbrev pub work : List (List ℕ) → ℕ → ℕ → ℕ
work graph zero u = 1
work graph (suc depth) u = 2 + sum_by (work graph depth) (imports_of graph u)

-- how many steps the frames take at most
abbrev pub left : List (List ℕ) → ℕ → List Frame → ℕ
left graph depth [] = 0
left graph depth (f ∷ stack) = left graph (depth - 1) stack + (1 + sum_by (work graph depth) (rest_of graph f))

unwound_push : (graph : List (List ℕ)) (deployed : List Bool) (depth : ℕ) (stack : List Frame) (f : Frame) (listed : List ℕ)
    → unwound graph deployed depth (stack ++ f ∷ []) listed
    ≡ unwound graph deployed depth stack (fold (visit (depth - length stack) graph deployed) listed (rest_of graph f) ++ f.number ∷ [])
unwound_push graph deployed depth [] f listed =
    let same : depth ≡ depth - 0 = omega arith in ap (λ (d : ℕ). fold (visit d graph deployed) listed (rest_of graph f) ++ f.number ∷ []) same
unwound_push graph deployed depth (g ∷ stack) f listed =
    let same : depth - 1 - length stack ≡ depth - suc (length stack) = omega arith in
    let before = unwound_push graph deployed (depth - 1) stack f listed in
    ap (λ (l : List ℕ). fold (visit depth graph deployed) l (rest_of graph g) ++ g.number ∷ [])
    (before ∙ ap (λ (d : ℕ). unwound graph deployed (depth - 1) stack (fold (visit d graph deployed) listed (rest_of graph f) ++ f.number ∷ [])) same)

left_push : (graph : List (List ℕ)) (depth : ℕ) (stack : List Frame) (f : Frame)
    → left graph depth (stack ++ f ∷ []) ≡ left graph depth stack + (1 + sum_by (work graph (depth - length stack)) (rest_of graph f))
left_push graph depth [] f =
    let same : depth ≡ depth - 0 = omega arith in
    let at_same = ap (λ (d : ℕ). 1 + sum_by (work graph d) (rest_of graph f)) same in
    omega (arith, at_same)
left_push graph depth (g ∷ stack) f =
    let same : depth - 1 - length stack ≡ depth - suc (length stack) = omega arith in
    let before = left_push graph (depth - 1) stack f ∙ ap (λ (d : ℕ). left graph (depth - 1) stack + (1 + sum_by (work graph d) (rest_of graph f))) same in
    omega (arith, before)

pub visit_entered : (graph : List (List ℕ)) (deployed : List Bool) (depth : ℕ) (listed : List ℕ) (v : ℕ) → (is_deployed deployed v && not (has_number listed v)) ≡ true
    → visit (suc depth) graph deployed listed v ≡ fold (visit depth graph deployed) listed (imports_of graph v) ++ v ∷ []
visit_entered graph deployed depth listed v e =
    ap (λ (b : Bool). cond b (fold (visit depth graph deployed) listed (imports_of graph v) ++ v ∷ []) listed) e

pub visit_skipped : (graph : List (List ℕ)) (deployed : List Bool) (depth : ℕ) (listed : List ℕ) (v : ℕ) → (is_deployed deployed v && not (has_number listed v)) ≡ false
    → visit depth graph deployed listed v ≡ listed
visit_skipped graph deployed zero listed v e = refl
visit_skipped graph deployed (suc depth) listed v e =
    ap (λ (b : Bool). cond b (fold (visit depth graph deployed) listed (imports_of graph v) ++ v ∷ []) listed) e

has_number_push : (listed : List ℕ) (u v : ℕ) → has_number (listed ++ u ∷ []) v ≡ (has_number listed v || (eqb u v || false))
has_number_push listed u v = list_any-append (λ x. eqb x v) listed (u ∷ [])

or_true : (b : Bool) → (b || true) ≡ true
or_true true = refl
or_true false = refl

or_false : (b : Bool) → (b || false) ≡ b
or_false true = refl
or_false false = refl

pub record Walking (graph : List (List ℕ)) (deployed : List Bool) (name : ℕ) (is_listed : List Bool) (listed : List ℕ) (stack : List Frame) : Type 0 where
  pub total : unwound graph deployed (length graph) stack listed ≡ reached graph deployed name ++ name ∷ []
  pub chain : IsChain graph (numbers stack)
  pub marks_len : length is_listed ≡ length graph
  pub marks : (u : ℕ) → u < length graph → get_or is_listed u false ≡ has_number listed u

pub walking_starts : (graph : List (List ℕ)) (deployed : List Bool) (name : ℕ) → name < length graph
    → Walking graph deployed name (replicate (length graph) false) [] (record { number = name; next = 0 } ∷ [])
walking_starts graph deployed name h = record {
  total = refl;
  chain = (h, tt, tt);
  marks_len = length-replicate (length graph) false;
  marks = λ u l. get_or-replicate (length graph) u false false l;
}

module _ (graph : List (List ℕ)) (deployed : List Bool) (name : ℕ) (is_listed : List Bool) (listed : List ℕ) (rest : List Frame) (u next : ℕ)
    (w : Walking graph deployed name is_listed listed (rest ++ record { number = u; next = next } ∷ [])) where
  abbrev frame : Frame
  frame = record { number = u; next = next }

  abbrev frame_after : Frame
  frame_after = record { number = u; next = next + 1 }

  abbrev depth_here : ℕ
  depth_here = length graph - length rest

  numbers_here : (f : Frame) → numbers (rest ++ f ∷ []) ≡ numbers rest ++ f.number ∷ []
  numbers_here f = map-append (λ (g : Frame). g.number) rest (f ∷ [])

  chain_here : IsChain graph (numbers rest ++ u ∷ [])
  chain_here = subst (IsChain graph) (numbers_here frame) w.chain

  pub number_below : u < length graph
  number_below = chain_last graph (numbers rest) u chain_here

  total_here : unwound graph deployed (length graph) rest (fold (visit depth_here graph deployed) listed (rest_of graph frame) ++ u ∷ [])
      ≡ reached graph deployed name ++ name ∷ []
  total_here = sym (unwound_push graph deployed (length graph) rest frame listed) ∙ w.total

  -- all imports of the last frame were walked
  pub walking_done : length (imports_of graph u) ≤ next → Walking graph deployed name (set is_listed u true) (listed ++ u ∷ []) rest
  walking_done h =
      let none : rest_of graph frame ≡ [] = drop_all next (imports_of graph u) h in
      record {
        total = ap (λ (l : List ℕ). unwound graph deployed (length graph) rest (fold (visit depth_here graph deployed) listed l ++ u ∷ [])) (sym none) ∙ total_here;
        chain = chain_pop graph (numbers rest) u chain_here;
        marks_len = length-set is_listed u true ∙ w.marks_len;
        marks = λ v l.
            let pushed = has_number_push listed u v in
            elim (cases_eq v u) [
              | inl e ↦
                  let b = number_below in
                  let inside : u < length is_listed = omega (arith, w.marks_len) in
                  let here = get_or-set_same is_listed u true false inside in
                  let one : eqb u v ≡ true = eq-eqb u v (sym e) in
                  ap (λ (x : ℕ). get_or (set is_listed u true) x false) e ∙ here ∙ sym (or_true (has_number listed v))
                  ∙ ap (λ (x : Bool). has_number listed v || (x || false)) (sym one) ∙ sym pushed
              | inr e ↦
                  elim (eqb_tells u v) [
                    | inl q ↦ absurd (e (sym q.1))
                    | inr q ↦
                        get_or-set_other is_listed u v true false e ∙ w.marks v l ∙ sym (or_false (has_number listed v))
                        ∙ ap (λ (x : Bool). has_number listed v || (x || false)) (sym q.0) ∙ sym pushed
                  ]
            ];
      }

  module _ (inside : next < length (imports_of graph u)) (below : get_or (imports_of graph u) next 0 < length graph) where
    abbrev import : ℕ
    import = get_or (imports_of graph u) next 0

    rest_here : rest_of graph frame ≡ import ∷ rest_of graph frame_after
    rest_here = drop_more (imports_of graph u) next 0 inside

    total_after : unwound graph deployed (length graph) rest
        (fold (visit depth_here graph deployed) (visit depth_here graph deployed listed import) (rest_of graph frame_after) ++ u ∷ [])
        ≡ reached graph deployed name ++ name ∷ []
    total_after =
        ap (λ (l : List ℕ). unwound graph deployed (length graph) rest (fold (visit depth_here graph deployed) listed l ++ u ∷ [])) (sym rest_here) ∙ total_here

    chain_after : IsChain graph (numbers (rest ++ frame_after ∷ []))
    chain_after = subst (IsChain graph) (sym (numbers_here frame_after)) chain_here

    enters_marked : (is_deployed deployed import && not (has_number listed import)) ≡ (get_or deployed import false && not (get_or is_listed import false))
    enters_marked = ap (λ (b : Bool). get_or deployed import false && not b) (sym (w.marks import below))

    -- the import is not entered
    pub walking_skips : (get_or deployed import false && not (get_or is_listed import false)) ≡ false
        → Walking graph deployed name is_listed listed (rest ++ frame_after ∷ [])
    walking_skips e =
        let skipped = visit_skipped graph deployed depth_here listed import (enters_marked ∙ e) in
        record {
          total = unwound_push graph deployed (length graph) rest frame_after listed
              ∙ ap (λ (l : List ℕ). unwound graph deployed (length graph) rest (fold (visit depth_here graph deployed) l (rest_of graph frame_after) ++ u ∷ [])) (sym skipped)
              ∙ total_after;
          chain = chain_after;
          marks_len = w.marks_len;
          marks = w.marks;
        }

    module _ (acyclic : (t : ℕ) → HasNoCycle graph t) where
      abbrev entered : Frame
      entered = record { number = import; next = 0 }

      chain_entered : IsChain graph (numbers ((rest ++ frame_after ∷ []) ++ entered ∷ []))
      chain_entered =
          let pushed = chain_push graph (numbers rest) u next import chain_here (slice_get-get_or (imports_of graph u) next 0 inside) below in
          let two = map-append (λ (g : Frame). g.number) (rest ++ frame_after ∷ []) (entered ∷ []) in
          subst (IsChain graph) (sym (two ∙ ap (λ (l : List ℕ). l ++ import ∷ []) (numbers_here frame_after))) pushed

      deep : length rest + 2 ≤ length graph
      deep =
          let short = chain_short graph acyclic (numbers ((rest ++ frame_after ∷ []) ++ entered ∷ [])) chain_entered in
          let len = length-map ((rest ++ frame_after ∷ []) ++ entered ∷ []) (λ (g : Frame). g.number) in
          omega (arith, length_push (rest ++ frame_after ∷ []) entered, length_push rest frame_after, short, len)

      -- the import is entered
      pub walking_enters : (get_or deployed import false && not (get_or is_listed import false)) ≡ true
          → Walking graph deployed name is_listed listed ((rest ++ frame_after ∷ []) ++ entered ∷ [])
      walking_enters e =
          let less : ℕ = length graph - length (rest ++ frame_after ∷ []) in
          let one_less : suc less ≡ depth_here = omega (arith, deep, length_push rest frame_after) in
          let visited = visit_entered graph deployed less listed import (enters_marked ∙ e)
          in
          record {
            total = unwound_push graph deployed (length graph) (rest ++ frame_after ∷ []) entered listed
                ∙ ap (unwound graph deployed (length graph) (rest ++ frame_after ∷ [])) (sym visited ∙ ap (λ (d : ℕ). visit d graph deployed listed import) one_less)
                ∙ unwound_push graph deployed (length graph) rest frame_after (visit depth_here graph deployed listed import)
                ∙ total_after;
            chain = chain_entered;
            marks_len = w.marks_len;
            marks = w.marks;
          }

      pub left_enters : left graph (length graph) ((rest ++ frame_after ∷ []) ++ entered ∷ []) < left graph (length graph) (rest ++ frame ∷ [])
      left_enters =
          let less : ℕ = length graph - length (rest ++ frame_after ∷ []) in
          let one_less : depth_here ≡ suc less = omega (arith, deep, length_push rest frame_after) in
          let a = left_push graph (length graph) (rest ++ frame_after ∷ []) entered in
          let b = left_push graph (length graph) rest frame_after in
          let c = left_push graph (length graph) rest frame ∙ ap (λ (l : List ℕ). left graph (length graph) rest + (1 + sum_by (work graph depth_here) l)) rest_here in
          let d = ap (λ (x : ℕ). work graph x import) one_less in
          omega (arith, a, b, c, d, sum_by-cons (work graph depth_here) import (rest_of graph frame_after))

    pub left_skips : left graph (length graph) (rest ++ frame_after ∷ []) < left graph (length graph) (rest ++ frame ∷ [])
    left_skips =
        let b = left_push graph (length graph) rest frame_after in
        let c = left_push graph (length graph) rest frame ∙ ap (λ (l : List ℕ). left graph (length graph) rest + (1 + sum_by (work graph depth_here) l)) rest_here in
        omega (arith, b, c, work_positive depth_here import, sum_by-cons (work graph depth_here) import (rest_of graph frame_after))
      where
        work_positive : (d : ℕ) (x : ℕ) → 0 < work graph d x
        work_positive zero x = omega arith
        work_positive (suc d) x = omega arith

  pub left_done : left graph (length graph) rest < left graph (length graph) (rest ++ frame ∷ [])
  left_done = omega (arith, left_push graph (length graph) rest frame)
