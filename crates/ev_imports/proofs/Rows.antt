-- The steps of the search for a cycle, as the code takes them: row by row, and in a row import by import.
use Rattle.std.proofs.Common.{◌≡◌, ℕ, ◌+◌, ◌<◌, ◌≤◌, Bool, true, false, List, [], ◌∷◌, ◌++◌, length, get_or, set, replicate, reverse, refl, sym, ap, ◌∙◌, subst, arith, Some}
use Rattle.std.proofs.lemmas.List.{length-set, length_push}
use Rattle.std.proofs.lemmas.Option.{slice_get-get_or}
use Rattle.std.specs.List.{slice_get}
use Rattle.ev_imports.specs.declared.cycle.Found.{Found}
use Rattle.ev_imports.specs.Walks.{imports_of, Imports}
use Rattle.ev_imports.specs.Cycles.{IsFirstCycle}
use Rattle.ev_imports.specs.inner.Found.{number_at, IsTrail}
use Rattle.ev_imports.proofs.Search.{Searched, search_start, search_known, search_found, search_row, cycle_found, number_kept}

pub record RowSearched (graph : List (List ℕ)) (name : ℕ) (marks : List Bool) (found : List Found) (head next : ℕ) (row : List ℕ) : Type 0 where
  pub searched : Searched graph name marks found head next
  pub within : head < length found
  pub row_is : row ≡ imports_of graph (number_at found head)

import_read : (graph : List (List ℕ)) (u : ℕ) (row : List ℕ) (a v : ℕ) → row ≡ imports_of graph u → a < length row → get_or row a 0 ≡ v → Imports graph u a v
import_read graph u row a v e h q =
    subst (λ (x : List ℕ). slice_get x a ≡ Some v) e (slice_get-get_or row a 0 h ∙ ap Some q)

pub search_starts : (lists : List (List ℕ)) (name : ℕ) (imports : List ℕ) (marks : List Bool) (found : List Found) → name < length lists
    → marks ≡ replicate (length lists) false → found ≡ record { number = name; parent = 0 } ∷ [] → Searched (set lists name imports) name marks found 0 0
search_starts lists name imports marks found h m f =
    let len = length-set lists name imports in
    let start = search_start (set lists name imports) name (omega arith) in
    let m' : replicate (length (set lists name imports)) false ≡ marks = ap (λ (n : ℕ). replicate n false) len ∙ sym m in
    subst (λ (x : List Found). Searched (set lists name imports) name marks x 0 0) (sym f)
    (subst (λ (x : List Bool). Searched (set lists name imports) name x (record { number = name; parent = 0 } ∷ []) 0 0) m' start)

module _ (graph : List (List ℕ)) (name : ℕ) (marks : List Bool) (found : List Found) (head next : ℕ) (row : List ℕ) (s : RowSearched graph name marks found head next row) where
  pub row_closes : (walk : List ℕ) → next < length row → get_or row next 0 ≡ name
      → (trail : List ℕ) × IsTrail found head trail × (walk ≡ reverse (name ∷ trail)) → IsFirstCycle graph name walk
  row_closes walk h q t =
      subst (IsFirstCycle graph name) (sym t.2)
      (cycle_found graph name marks found head next s.searched s.within (import_read graph (number_at found head) row next name s.row_is h q) t.0 t.1)

  pub row_known : next < length row → (get_or row next 0 ≡ name → ⊥) → get_or marks (get_or row next 0) false ≡ true
      → RowSearched graph name marks found head (next + 1) row
  row_known h n m =
      record {
        searched =
            search_known graph name marks found head next s.searched (get_or row next 0) s.within
            (import_read graph (number_at found head) row next (get_or row next 0) s.row_is h refl) n m;
        within = s.within;
        row_is = s.row_is;
      }

  pub row_found : (marks' : List Bool) (found' : List Found) → next < length row → (get_or row next 0 ≡ name → ⊥) → get_or row next 0 < length graph
      → get_or marks (get_or row next 0) false ≡ false → marks' ≡ set marks (get_or row next 0) true
      → found' ≡ found ++ record { number = get_or row next 0; parent = head } ∷ [] → RowSearched graph name marks' found' head (next + 1) row
  row_found marks' found' h n b m e f =
      let v : ℕ = get_or row next 0 in
      let new : Found = record { number = v; parent = head } in
      let after = search_found graph name marks found head next s.searched v s.within
      (import_read graph (number_at found head) row next v s.row_is h refl) n b m in
      let len = length_push found new in
      subst (λ (x : List Found). RowSearched graph name marks' x head (next + 1) row) (sym f)
      (subst (λ (x : List Bool). RowSearched graph name x (found ++ new ∷ []) head (next + 1) row) (sym e)
      record {
        searched = after;
        within = let w = s.within in omega arith;
        row_is = s.row_is ∙ ap (imports_of graph) (sym (number_kept found new head s.within));
      })

  pub row_end : length row ≤ next → Searched graph name marks found (head + 1) 0
  row_end h = search_row graph name marks found head next s.searched s.within (subst (λ (x : List ℕ). length x ≤ next) s.row_is h)
