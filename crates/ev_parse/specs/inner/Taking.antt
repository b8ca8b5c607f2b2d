-- What a reader takes from the front of the tokens that are left.
use Rattle.std.specs.Prelude.{◌≡◌, ◌==◌, ℕ, ◌≤◌, Bool, true, false, List, [], ◌∷◌, ◌++◌, length, Option, Some, None, if◌then◌else◌}
use Rattle.ev_syntax.specs.Marks.{open_paren, product_sign}
use Rattle.ev_syntax.specs.Tokens.{Token, name, number, mark}
use Rattle.ev_syntax.specs.Grammar.{Front}
use Rattle.ev_syntax.specs.inner.TypeParser.{begins}
use Rattle.ev_parse.specs.Items.{ends}

-- the tokens that are left, or none once something that must stand there did not
abbrev pub State : Type 0
State = Option (List Token)

-- whether a test holds of what comes next
abbrev pub next : (List Token → Bool) → State → Bool
next starts None = false
next starts (Some ts) = starts ts

abbrev pub next_is : ℕ → State → Bool
next_is m s = next (begins m) s

-- the state behind a mark that must come next
abbrev pub behind : ℕ → List Token → State
behind m [] = None
behind m (name n ∷ ts) = None
behind m (number n ∷ ts) = None
behind m (mark k ∷ ts) = if k == m then Some ts else None

abbrev pub behind_mark : ℕ → State → State
behind_mark m None = None
behind_mark m (Some ts) = behind m ts

-- what is kept of a part: nothing where it nests too deeply
abbrev pub kept : {A : Type 0} → (A → Bool) → A → Option A
kept deep a = if deep a then None else Some a

-- of the parts that stand first before what may follow them: the one that there is, or none
abbrev pub Takes : {A : Type 0} → (A → Front) → (List Token → Type 0) → (A → Bool) → List Token → Option A → State → Type 0
Takes {A} reads Ends deep ts v None = (a : A) (rest : List Token) → reads a ts rest → Ends rest → ⊥
Takes {A} reads Ends deep ts v (Some us) =
    (a : A) × (v ≡ kept deep a) × reads a ts us × (length us ≤ length ts) × ((b : A) (rest : List Token) → reads b ts rest → Ends rest → (b ≡ a) × (rest ≡ us))

abbrev pub TakesFrom : {A : Type 0} → (A → Front) → (List Token → Type 0) → (A → Bool) → State → Option A → State → Type 0
TakesFrom reads Ends deep None v after = after ≡ None
TakesFrom reads Ends deep (Some ts) v after = Takes reads Ends deep ts v after

-- the reader goes from one state to the next
pub record Took {A : Type 0} (reads : A → Front) (Ends : List Token → Type 0) (deep : A → Bool) (before : State) (v : Option A) (after : State) : Type 0 where
  pub takes : TakesFrom reads Ends deep before v after

-- further parts behind some
abbrev pub joined : {A : Type 0} → Option (List A) → Option (List A) → Option (List A)
joined None more = None
joined (Some items) None = None
joined (Some items) (Some more) = Some (items ++ more)

abbrev pub single : {A : Type 0} → Option A → Option (List A)
single None = None
single (Some a) = Some (a ∷ [])

abbrev pub TookMore : {A : Type 0} → (List A → Front) → (List Token → Type 0) → (List A → Bool) → Option (List A) → State → Option (List A) → State → Type 0
TookMore {A} reads Ends deep items before v after = (more : Option (List A)) × (v ≡ joined items more) × Took reads Ends deep before more after

-- whatever part stands first has the tag
abbrev pub Tagged : {A K : Type 0} → (A → K) → (A → Front) → State → K → Type 0
Tagged tag reads None k = Unit {0}
Tagged {A} tag reads (Some ts) k = (a : A) (rest : List Token) → reads a ts rest → tag a ≡ k

-- what may follow a part
abbrev pub Anything : List Token → Type 0
Anything ts = Unit {0}

abbrev pub NotBefore : ℕ → List Token → Type 0
NotBefore m ts = begins m ts ≡ false

abbrev pub AtEnd : List Token → Type 0
AtEnd ts = ts ≡ []

abbrev pub EndsType : List Token → Type 0
EndsType ts = NotBefore product_sign ts × NotBefore open_paren ts

abbrev pub EndsFormula : List Token → Type 0
EndsFormula ts = ends ts ≡ true

-- whether a number stands first
abbrev pub begins_number : List Token → Bool
begins_number [] = false
begins_number (name n ∷ ts) = false
begins_number (number n ∷ ts) = true
begins_number (mark k ∷ ts) = false

abbrev pub NoNumber : List Token → Type 0
NoNumber ts = begins_number ts ≡ false

-- parts without formulas and types
abbrev pub never : {A : Type 0} → A → Bool
never a = false

-- two parts, if both are kept
abbrev pub both : {A B : Type 0} → Option A → Option B → Option (A × B)
both None b = None
both (Some a) None = None
both (Some a) (Some b) = Some (a, b)
