-- What the parts of the report rest on: the proofs by label, and formulas that are predicates.
use Rattle.std.specs.Prelude.{⊤, ◌≡◌, ℕ, List, [], Option, Some, None, find, option_and_then, reverse, slice_get}
use Rattle.std.specs.List.{AllByRecursion}
use Rattle.ev_typing.specs.BaseSequents.{IsBaseSequent}
use Rattle.theory.specs.declared.theorems.Theorem.{Theorem}
use Rattle.theory.specs.declared.script.StoredProof.{StoredProof}
use Rattle.theory.specs.declared.script.Theory.{Theory}
use Rattle.theory.specs.Reports.{closed, is_for}

-- the formulas of a theory are predicates, over the environment that declares nothing
abbrev pub HasPredicates : Option Theory → Type 0
HasPredicates None = ⊤
HasPredicates (Some t) = AllByRecursion (λ (th : Theorem). IsBaseSequent [] (closed th.goal)) t.theorems

-- where a label's proof stands among some proofs: a look-up that gives the place of the last one for the theory's theorem of that label
abbrev pub IsIndexOf : List ℕ → List StoredProof → List StoredProof → (List ℕ → Option ℕ) → Type 0
IsIndexOf theory first all place =
    (label : List ℕ) → option_and_then (slice_get all) (place label) ≡ find (is_for theory label) (reverse first)
