-- What a call does to the bytes of a source or a sink, and to its counts of faults and of refused writes.
use Rattle.std.specs.Prelude.{◌≡◌, ◌↔◌, ℕ, ◌+◌, ◌-◌, ◌^◌, ◌<◌, ◌≤◌, min, List, [], Option, Some, IfSome, length, take}
use Rattle.std.specs.Io.KnownBytes.{Appends, Consumes}

-- one more, in a count that stands still at the end of 64 bits
abbrev pub counted : ℕ → ℕ
counted n = min (n + 1) (2 ^ 64 - 1)

-- a count is greater than before, or stands at that end
abbrev pub Rose : ℕ → ℕ → Type 0
Rose before now = counted before ≤ now

-- a read gave no byte where none of the known bytes was left, and only there
abbrev pub EndsExactly : Option (List ℕ) → ℕ → Type 0
EndsExactly left n = IfSome left (λ bytes. (n ≡ 0) ↔ (bytes ≡ []))

-- these are all of the known bytes, and none is left
abbrev pub ConsumesAll : Option (List ℕ) → Option (List ℕ) → List ℕ → Type 0
ConsumesAll old new all = IfSome old (λ bytes. (all ≡ bytes) × (new ≡ Some []))

-- known bytes lose a front of such a length
abbrev pub ConsumesFront : Option (List ℕ) → Option (List ℕ) → (ℕ → Type 0) → Type 0
ConsumesFront old new Fits = (front : List ℕ) × Consumes old new front × Fits (length front)

-- known bytes grow by a front of these that is not all of them
abbrev pub AppendsFront : Option (List ℕ) → Option (List ℕ) → List ℕ → Type 0
AppendsFront old new bytes = (n : ℕ) × (n < length bytes) × Appends old new (take n bytes)
