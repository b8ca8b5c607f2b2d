-- A script: at most one theory text, and then proofs.
use Rattle.std.specs.Prelude.{◌≡◌, ◌&&◌, ◌==◌, ℕ, Bool, true, List, [], ◌∷◌, Option, Some, None, bytes_eq, codes, if◌then◌else◌, option_map}
use Rattle.std.specs.List.{list_all, slice_split}
use Rattle.theory.specs.declared.script.Head.{Head}
use Rattle.theory.specs.declared.script.Head.TheVariants.{Put, Proof}
use Rattle.theory.specs.declared.script.StoredProof.{StoredProof}
use Rattle.theory.specs.declared.script.Theory.{Theory}
use Rattle.theory.specs.declared.script.Script.{Script}
use Rattle.theory.specs.Words.{are_blanks, drop_last_blanks, is_name, lines_of, trimmed, words_of}
use Rattle.theory.specs.Theorems.{AreTheorems}
use Rattle.theory.specs.Steps.{AreSteps}

-- `theory/label/THM`
abbrev pub proof_head : List (List ℕ) → Option Head
proof_head (theory ∷ label ∷ kind ∷ []) = if (is_name theory && is_name label) && bytes_eq kind (codes "THM") then Some (Proof theory label) else None
proof_head _ = None

abbrev pub put_head : List ℕ → Option Head
put_head word = if is_name word then Some (Put word) else None

-- `PUT name` or `PROOF theory/label/THM`
abbrev pub head_of_words : List (List ℕ) → Option Head
head_of_words (keyword ∷ word ∷ []) =
    if bytes_eq keyword (codes "PUT") then put_head word else
    (if bytes_eq keyword (codes "PROOF") then proof_head (slice_split (λ c. c == 47) word) else None)
head_of_words _ = None

abbrev pub head_of : List ℕ → Option Head
head_of line = head_of_words (words_of (trimmed line))

-- a unit: its head, and the lines of its body
pub record ScriptUnit : Type 0 where
  pub head : Head
  pub body : List (List ℕ)

-- a unit, and the lines behind it
abbrev pub UnitFront : Type 0
UnitFront = ScriptUnit × List (List ℕ)

-- the line that ends a body
abbrev pub is_end : List ℕ → Bool
is_end line = bytes_eq (drop_last_blanks line) (codes "END")

-- a body, and the lines behind the one that ends it
pub record Body : Type 0 where
  pub lines : List (List ℕ)
  pub after : List (List ℕ)

abbrev pub with_line : List ℕ → Body → Body
with_line line b = record { lines = line ∷ b.lines; after = b.after }

-- the body goes up to the first line that ends it
abbrev pub body_of : List (List ℕ) → Option Body
body_of [] = None
body_of (line ∷ lines) = if is_end line then Some (record { lines = []; after = lines }) else option_map (with_line line) (body_of lines)

abbrev pub with_body : Option Head → List (List ℕ) → Option UnitFront
with_body None lines = None
with_body (Some head) lines = option_map (λ (b : Body). (record { head = head; body = b.lines }, b.after)) (body_of lines)

-- the unit with which the lines begin, after blank ones, or none
abbrev pub unit_front : List (List ℕ) → Option UnitFront
unit_front [] = None
unit_front (line ∷ lines) = if are_blanks line then unit_front lines else with_body (head_of line) lines

-- the unit is the proof
abbrev pub IsProof : ScriptUnit → StoredProof → Type 0
IsProof u p = (u.head ≡ Proof p.theory p.label) × AreSteps u.body p.steps

-- the unit is the theory
abbrev pub IsTheory : ScriptUnit → Theory → Type 0
IsTheory u t = (u.head ≡ Put t.name) × AreTheorems u.body t.theorems

-- the lines are units with these proofs
abbrev pub AreProofs : List (List ℕ) → List StoredProof → Type 0
AreProofs lines [] = list_all are_blanks lines ≡ true
AreProofs lines (p ∷ ps) = (u : ScriptUnit) × (after : List (List ℕ)) × (unit_front lines ≡ Some (u, after)) × IsProof u p × AreProofs after ps

-- the lines are a unit with the theory, where there is one, and then proofs
abbrev pub AreScript : List (List ℕ) → Option Theory → List StoredProof → Type 0
AreScript lines None ps = AreProofs lines ps
AreScript lines (Some t) ps = (u : ScriptUnit) × (after : List (List ℕ)) × (unit_front lines ≡ Some (u, after)) × IsTheory u t × AreProofs after ps

-- the bytes are the script
abbrev pub IsScript : List ℕ → Script → Type 0
IsScript bytes s = AreScript (lines_of bytes) s.theory s.proofs
