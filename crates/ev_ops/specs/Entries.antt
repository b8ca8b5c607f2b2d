-- The environments that elements make.
use Rattle.std.specs.Prelude.{◌++◌, List, [], ◌∷◌, Option, Some, None, map, fold}
use Rattle.ev_typing.specs.declared.typing.Entry.{Entry}
use Rattle.ev_typing.specs.declared.typing.Entry.TheVariants as entry
use Rattle.ev_typing.specs.Env.{Env}
use Rattle.ev_rules.specs.declared.elements.Element.{Element}
use Rattle.ev_rules.specs.declared.elements.Element.TheVariants.{Data, Direct, Recursive, Constant}
use Rattle.ev_ops.specs.Unfold.{Bodies, unfold_by, bodies_after}

-- the entry that an element makes, where it makes one; the bodies of a recursive operator are unfolded by given ones
abbrev pub entry_by : Bodies → Element → Option Entry
entry_by bodies (Data d) = Some (entry.Data d)
entry_by bodies (Direct sig condition body) = Some (entry.Direct sig condition body)
entry_by bodies (Recursive sig condition place trees) = Some (entry.Recursive sig condition place (map (unfold_by bodies) trees))
entry_by bodies (Constant sig condition) = Some (entry.Constant sig condition)
entry_by bodies _ = None

-- over the entries before it, whose bodies are put in
abbrev pub entry_of : Env → Element → Option Entry
entry_of env e = entry_by (bodies_after [] env) e

-- the environment with one more entry, if there is one
abbrev pub with_entry : Env → Option Entry → Env
with_entry env None = env
with_entry env (Some e) = env ++ e ∷ []

abbrev pub with_element : Env → Element → Env
with_element env e = with_entry env (entry_of env e)

-- the environment with the entries of some elements, in their order
abbrev pub with_elements : Env → List Element → Env
with_elements env elements = fold with_element env elements

abbrev pub env_of : List Element → Env
env_of elements = with_elements [] elements
