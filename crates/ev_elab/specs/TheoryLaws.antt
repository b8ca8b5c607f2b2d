-- The law of elaborated theories.
use Rattle.std.specs.Prelude.{List}
use Rattle.std.specs.List.{AllByRecursion}
use Rattle.ev_theory_text.specs.declared.elements.RawElement.{RawElement}
use Rattle.ev_elab.specs.declared.theories.Reached.{Reached}
use Rattle.ev_elab.specs.declared.theories.Theory.{Theory}
use Rattle.ev_elab.specs.Scopes.{IsScope}
use Rattle.ev_elab.specs.Written.{IsPartFromText}
use Rattle.ev_elab.specs.Elaborated.{IsTheory, IsSoundTheory}

-- Law: an elaborated theory is sound over its scope.
abbrev pub TheoryIsSound : Type 0
TheoryIsSound = (scope : List (List Reached)) (raws : List RawElement) (T : Theory) → IsScope scope raws → AllByRecursion IsPartFromText raws → IsTheory scope raws T → IsSoundTheory scope T
