-- What each import of a number adds to the list of the reached ones.
use Rattle.std.proofs.Common.{◌≡◌, ◌&&◌, ℕ, zero, suc, Bool, true, false, not, List, [], ◌∷◌, ◌++◌, length, drop, sym, ap, ◌∙◌, inl, inr}
use Rattle.std.specs.List.{fold, concat}
use Rattle.std.proofs.lemmas.List.{append-nil, append_assoc}
use Rattle.std.proofs.Math.Seq.{drop-append_seam}
use Rattle.ev_imports.specs.Walks.{imports_of}
use Rattle.ev_imports.specs.Reached.{has_number, is_deployed, visit, reached, reached_by_each}
use Rattle.ev_imports.proofs.Walking.{visit_entered, visit_skipped}
use Rattle.ev_imports.proofs.Listing.{bool_cases}

-- the one list begins with the other
abbrev pub BeginsWith : List ℕ → List ℕ → Type 0
BeginsWith longer listed = (added : List ℕ) × (longer ≡ listed ++ added)

module _ (graph : List (List ℕ)) (deployed : List Bool) where
  -- u is entered
  abbrev pub enters : List ℕ → ℕ → Bool
  enters listed u = is_deployed deployed u && not (has_number listed u)

  fold_begins : (depth : ℕ) → ((listed : List ℕ) (u : ℕ) → BeginsWith (visit depth graph deployed listed u) listed)
      → (us listed : List ℕ) → BeginsWith (fold (visit depth graph deployed) listed us) listed
  fold_begins depth begins [] listed = ([], sym (append-nil listed))
  fold_begins depth begins (u ∷ us) listed =
      let first = begins listed u in
      let rest = fold_begins depth begins us (visit depth graph deployed listed u) in
      (first.0 ++ rest.0, rest.1 ∙ ap (λ (l : List ℕ). l ++ rest.0) first.1 ∙ append_assoc listed first.0 rest.0)

  pub visit_begins : (depth : ℕ) (listed : List ℕ) (u : ℕ) → BeginsWith (visit depth graph deployed listed u) listed
  visit_begins zero listed u = ([], sym (append-nil listed))
  visit_begins (suc depth) listed u =
      elim (bool_cases (enters listed u)) [
        | inl e ↦
            let inner = fold_begins depth (visit_begins depth) (imports_of graph u) listed in (
              inner.0 ++ u ∷ [],
              visit_entered graph deployed depth listed u e ∙ ap (λ (l : List ℕ). l ++ u ∷ []) inner.1 ∙ append_assoc listed inner.0 (u ∷ []),
            )
        | inr e ↦ ([], visit_skipped graph deployed (suc depth) listed u e ∙ sym (append-nil listed))
      ]

  added_is : (listed longer added : List ℕ) → longer ≡ listed ++ added → drop (length listed) longer ≡ added
  added_is listed longer added e = ap (drop (length listed)) e ∙ drop-append_seam listed added

  -- an import that is not entered adds nothing
  pub part_none : (depth : ℕ) (listed : List ℕ) (u : ℕ) → enters listed u ≡ false → drop (length listed) (visit depth graph deployed listed u) ≡ []
  part_none depth listed u e = added_is listed (visit depth graph deployed listed u) [] (visit_skipped graph deployed depth listed u e ∙ sym (append-nil listed))

  -- what an import adds that is entered ends with the import
  pub part_last : (depth : ℕ) (listed : List ℕ) (u : ℕ) → enters listed u ≡ true
      → (before : List ℕ) × (drop (length listed) (visit (suc depth) graph deployed listed u) ≡ before ++ u ∷ [])
  part_last depth listed u e =
      let inner = fold_begins depth (visit_begins depth) (imports_of graph u) listed in (
        inner.0,
        added_is listed (visit (suc depth) graph deployed listed u) (inner.0 ++ u ∷ [])
            (visit_entered graph deployed depth listed u e ∙ ap (λ (l : List ℕ). l ++ u ∷ []) inner.1 ∙ append_assoc listed inner.0 (u ∷ [])),
      )

  pub joined : (depth : ℕ) (us listed : List ℕ) → listed ++ concat (reached_by_each depth graph deployed listed us) ≡ fold (visit depth graph deployed) listed us
  joined depth [] listed = append-nil listed
  joined depth (u ∷ us) listed =
      let begins = visit_begins depth listed u in
      let added = added_is listed (visit depth graph deployed listed u) begins.0 begins.1 in
      let whole : listed ++ drop (length listed) (visit depth graph deployed listed u) ≡ visit depth graph deployed listed u =
      ap (λ (l : List ℕ). listed ++ l) added ∙ sym begins.1 in
      let rest : List ℕ = concat (reached_by_each depth graph deployed (visit depth graph deployed listed u) us) in
      sym (append_assoc listed (drop (length listed) (visit depth graph deployed listed u)) rest) ∙ ap (λ (l : List ℕ). l ++ rest) whole
      ∙ joined depth us (visit depth graph deployed listed u)

  pub reached-concat : (t : ℕ) → reached graph deployed t ≡ concat (reached_by_each (length graph) graph deployed [] (imports_of graph t))
  reached-concat t = sym (joined (length graph) (imports_of graph t) [])
