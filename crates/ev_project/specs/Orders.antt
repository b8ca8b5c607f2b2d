-- The order of the theories that a theory reaches.
use Rattle.std.specs.Prelude.{◌≡◌, ◌++◌, true, false, List, ◌∷◌, bytes_eq}
use Rattle.std.specs.List.{IsDistinct}
use Rattle.ev_typing.specs.Env.{Name}
use Rattle.ev_project.specs.Projects.{Project, has_text}
use Rattle.ev_project.specs.Texts.{is_among}
use Rattle.ev_project.specs.Graphs.{reached_names}

-- The theories that n reaches have texts and are different, and n is not among them. What one of them reaches is reached by n too, and stands
-- before it.
pub record AreInOrder (p : Project) (imports : Name → List Name) (n : Name) : Type 0 where
  pub there : (u : Name) → is_among (reached_names p imports n) u ≡ true → has_text p u ≡ true
  pub different : IsDistinct bytes_eq (reached_names p imports n)
  pub others : is_among (reached_names p imports n) n ≡ false
  pub within : (u w : Name) → is_among (reached_names p imports n) u ≡ true → is_among (reached_names p imports u) w ≡ true → is_among (reached_names p imports n) w ≡ true
  pub earlier : (before after : List Name) (u : Name) → reached_names p imports n ≡ before ++ u ∷ after
      → (w : Name) → is_among (reached_names p imports u) w ≡ true → is_among before w ≡ true
