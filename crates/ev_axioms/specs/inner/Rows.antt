-- The rows as the code keeps them.
use Rattle.std.specs.Prelude.{List, [], ◌∷◌, ◌++◌, map, flat_map}
use Rattle.std.specs.Borrow.{Bor}
use Rattle.ev_axioms.specs.declared.steps.Step.{Step}
use Rattle.ev_axioms.specs.declared.logic_rows.TheConstants.{VALUES, SETS, MORE_SETS}
use Rattle.ev_axioms.specs.declared.relation_rows.TheConstants.{PAIRS, DOMAINS, RESTRICTIONS, IMAGES, FUNCTIONS, MORE_FUNCTIONS}
use Rattle.ev_axioms.specs.declared.number_rows.TheConstants.{SUMS, PRODUCTS, ORDER, NUMBERS, QUOTIENTS}
use Rattle.ev_axioms.specs.declared.finite_rows.TheConstants.{FINITE_SETS, EXTREMES}

-- the steps of each row
abbrev pub steps_in : List (Bor (List Step)) → List (List Step)
steps_in rows = map (λ (r : Bor (List Step)). r.now) rows

-- one group after the other
abbrev pub joined : List (Bor (List (Bor (List Step)))) → List (List Step)
joined groups = flat_map (λ (g : Bor (List (Bor (List Step)))). steps_in g.now) groups

-- those of a table
abbrev pub kept : List (record { now : List Step }) → List (List Step)
kept rows = map (λ (r : record { now : List Step }). r.now) rows

-- all rows
unfoldable pub all_steps : List (List Step)
all_steps = kept VALUES ++ (kept SETS ++ (kept MORE_SETS ++ (kept PAIRS ++ (kept DOMAINS ++ (kept RESTRICTIONS ++ (kept IMAGES ++ (kept FUNCTIONS ++ (kept MORE_FUNCTIONS ++ (kept SUMS ++ (kept PRODUCTS ++ (kept ORDER ++ (kept NUMBERS ++ (kept QUOTIENTS ++ (kept FINITE_SETS ++ (kept EXTREMES ++ [])))))))))))))))
