-- Heads, bodies and units as they are read.
use Rattle.std.specs.Prelude.{ℕ, List, take, drop}
use Rattle.bstr.specs.Text.{lines_of}
use Rattle.ev_script.specs.declared.heads.Head.{Head}
use Rattle.ev_script.specs.declared.heads.Head.TheVariants.{Whole, Put, Proof}
use Rattle.ev_script.specs.declared.bodies.BodySpan.{BodySpan}
use Rattle.ev_script.specs.declared.bodies.Closing.{Closing}
use Rattle.ev_script.specs.declared.units.UnitSpan.{UnitSpan}
use Rattle.ev_script.specs.Scripts.{UnitHead, whole, put, proof, Body, ScriptUnit}

-- what a head says
abbrev pub head_told : Head → UnitHead
head_told (Whole e) = whole e
head_told (Put n) = put n
head_told (Proof s) = proof s

-- the body of a text before the line that closes it
abbrev pub body_between : List ℕ → Closing → Body
body_between text c = record { body = take c.start text; after = lines_of (drop c.end text) }

-- the body at the front of a text
abbrev pub body_at : List ℕ → BodySpan → Body
body_at text b = record { body = b.bytes; after = lines_of (drop b.length text) }

-- the unit at the front of a text
abbrev pub unit_at : List ℕ → UnitSpan → ScriptUnit
unit_at text u = record { event = u.event; after = lines_of (drop u.length text) }
