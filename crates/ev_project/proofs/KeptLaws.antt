-- The project without theories and proofs is as projects are.
use Rattle.std.specs.Prelude.{◌≡◌, [], ◌∷◌, Some, None, refl}
use Rattle.std.specs.List.{IsDistinct}
use Rattle.ev_typing.specs.Env.{Name}
use Rattle.ev_project.specs.Projects.{empty_project}
use Rattle.ev_project.specs.Texts.{IsImport, IsAcyclic}
use Rattle.ev_project.specs.Kept.{IsOrderly, IsKept}

no_import : (n m : Name) → IsImport empty_project n m → ⊥
no_import n m i = let e : None ≡ Some i.text = i.stands in cc

empty_acyclic : IsAcyclic empty_project
empty_acyclic n [] some w = some refl
empty_acyclic n (u ∷ us) some w = no_import n u w.0

pub empty_orderly : IsOrderly empty_project
unfolding IsDistinct
empty_orderly = record { one_text = tt; one_proof = tt; acyclic = empty_acyclic }

pub empty_kept : IsKept empty_project
empty_kept = record { orderly = empty_orderly; texts = tt; bodies = tt }
