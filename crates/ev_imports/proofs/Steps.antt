-- The steps of the walk through the imports, as the code takes them.
use Rattle.std.proofs.Common.{◌≡◌, ◌&&◌, ℕ, ◌+◌, ◌<◌, ◌≤◌, Bool, true, false, not, List, [], ◌∷◌, ◌++◌, length, get_or, set, refl, sym, ap, ◌∙◌, subst, inl, inr, ◌⊎◌, arith}
use Rattle.std.proofs.lemmas.List.{get_or_read}
use Rattle.ev_imports.specs.declared.reached.Frame.{Frame}
use Rattle.ev_imports.specs.Walks.{imports_of, HasNoCycle, InRange}
use Rattle.ev_imports.proofs.Walking.{Walking, left, number_below, walking_done, walking_skips, walking_enters, left_done, left_skips, left_enters}

-- what is known after a step, where the stack was the one before
pub record Stepped (graph : List (List ℕ)) (deployed : List Bool) (name : ℕ) (is_listed : List Bool) (listed : List ℕ) (before after : List Frame) : Type 0 where
  pub walking : Walking graph deployed name is_listed listed after
  pub falls : left graph (length graph) after < left graph (length graph) before

module _ (graph : List (List ℕ)) (deployed : List Bool) (name : ℕ) (is_listed : List Bool) (listed : List ℕ) (stack rest : List Frame) (f : Frame)
    (w : Walking graph deployed name is_listed listed stack) (popped : stack ≡ rest ++ f ∷ []) where
  at_pop : Walking graph deployed name is_listed listed (rest ++ f ∷ [])
  at_pop = subst (Walking graph deployed name is_listed listed) popped w

  falls_from : (after : List Frame) → left graph (length graph) after < left graph (length graph) (rest ++ f ∷ []) → left graph (length graph) after < left graph (length graph) stack
  falls_from after h = subst (λ (s : List Frame). left graph (length graph) after < left graph (length graph) s) (sym popped) h

  pub pop_below : f.number < length graph
  pop_below = number_below graph deployed name is_listed listed rest f.number f.next at_pop

  pub row_read : (imports result : List ℕ) → imports ≡ result → result ≡ get_or graph f.number result → imports ≡ imports_of graph f.number
  row_read imports result e r = e ∙ get_or_read graph f.number result pop_below r []

  pub pop_marked : f.number < length is_listed
  pop_marked = let b = pop_below in omega (arith, w.marks_len)

  pub step_done : (imports : List ℕ) → imports ≡ imports_of graph f.number → length imports ≤ f.next
      → (is_listed' : List Bool) → is_listed' ≡ set is_listed f.number true → (listed' : List ℕ) → listed' ≡ listed ++ f.number ∷ []
      → Stepped graph deployed name is_listed' listed' stack rest
  step_done imports r h is_listed' e listed' l =
      let past : length (imports_of graph f.number) ≤ f.next = subst (λ (x : List ℕ). length x ≤ f.next) r h in
      let after = walking_done graph deployed name is_listed listed rest f.number f.next at_pop past in
      record {
        walking =
            subst (λ (x : List Bool). Walking graph deployed name x listed' rest) (sym e)
            (subst (λ (x : List ℕ). Walking graph deployed name (set is_listed f.number true) x rest) (sym l) after);
        falls = falls_from rest (left_done graph deployed name is_listed listed rest f.number f.next at_pop);
      }

  module _ (in_range : InRange graph) (imports : List ℕ) (r : imports ≡ imports_of graph f.number) (h : f.next < length imports) where
    abbrev frame_after : Frame
    frame_after = record { number = f.number; next = f.next + 1 }

    inside : f.next < length (imports_of graph f.number)
    inside = subst (λ (x : List ℕ). f.next < length x) r h

    import_is : get_or imports f.next 0 ≡ get_or (imports_of graph f.number) f.next 0
    import_is = ap (λ (x : List ℕ). get_or x f.next 0) r

    below : get_or (imports_of graph f.number) f.next 0 < length graph
    below = in_range f.number [] pop_below f.next 0 inside

    pub import_below : get_or imports f.next 0 < length graph
    import_below = subst (λ (x : ℕ). x < length graph) (sym import_is) below

    pub import_marked : get_or imports f.next 0 < length is_listed
    import_marked = let b = import_below in omega (arith, w.marks_len)

    -- whether the import is listed, as it is read
    pub mark_read : (x b : Bool) → x ≡ get_or is_listed (get_or imports f.next 0) x → x ≡ b → get_or is_listed (get_or imports f.next 0) false ≡ b
    mark_read x b r e = sym (get_or_read is_listed (get_or imports f.next 0) x import_marked r false) ∙ e

    and_false : (a b : Bool) → (a ≡ false) ⊎ (b ≡ true) → (a && not b) ≡ false
    and_false false b p = refl
    and_false true true p = refl
    and_false true false (inl p) = cc
    and_false true false (inr p) = cc

    pub step_skips : (get_or deployed (get_or imports f.next 0) false ≡ false) ⊎ (get_or is_listed (get_or imports f.next 0) false ≡ true)
        → (after : List Frame) → after ≡ rest ++ frame_after ∷ [] → Stepped graph deployed name is_listed listed stack after
    step_skips e after a =
        let e' = subst (λ (x : ℕ). (get_or deployed x false && not (get_or is_listed x false)) ≡ false) import_is (and_false _ _ e) in
        let step = walking_skips graph deployed name is_listed listed rest f.number f.next at_pop inside below e' in
        subst (Stepped graph deployed name is_listed listed stack) (sym a)
        record {
          walking = step;
          falls = falls_from (rest ++ frame_after ∷ []) (left_skips graph deployed name is_listed listed rest f.number f.next at_pop inside below);
        }

    and_true : (a b : Bool) → a ≡ true → b ≡ false → (a && not b) ≡ true
    and_true true false p q = refl
    and_true true true p q = cc
    and_true false b p q = cc

    pub step_enters : ((t : ℕ) → HasNoCycle graph t)
        → get_or deployed (get_or imports f.next 0) false ≡ true → get_or is_listed (get_or imports f.next 0) false ≡ false
        → (middle after : List Frame) → middle ≡ rest ++ frame_after ∷ [] → after ≡ middle ++ record { number = get_or imports f.next 0; next = 0 } ∷ []
        → Stepped graph deployed name is_listed listed stack after
    step_enters acyclic d l middle after m a =
        let e' = subst (λ (x : ℕ). (get_or deployed x false && not (get_or is_listed x false)) ≡ true) import_is (and_true _ _ d l) in
        let first = ap (λ (x : List Frame). x ++ record { number = get_or imports f.next 0; next = 0 } ∷ []) m in
        let new = ap (λ (x : ℕ). (rest ++ frame_after ∷ []) ++ record { number = x; next = 0 } ∷ []) import_is in
        subst (Stepped graph deployed name is_listed listed stack) (sym (a ∙ first ∙ new))
        record {
          walking = walking_enters graph deployed name is_listed listed rest f.number f.next at_pop inside below acyclic e';
          falls = falls_from _ (left_enters graph deployed name is_listed listed rest f.number f.next at_pop inside below acyclic);
        }
