-- The 72 axioms, which alone say what each set operator means. They are this project's own, after the set theory of Métayer and Voisin, The Event-B Mathematical Language.
-- A row is written as in its table but for these signs: ∈ for `:`, ≐ for `=`, ≺ for `<`, ⊕ ⊖ ⊗ ⊘ ⊙ ↑ for `+`, `-`, `*`, `/`, `mod`
-- and `^` (the signs themselves are those of numbers here), ⨾ for `;`, ‥ for `..`, ⟶ for `-->`,
-- ⟶> for `-->>`, `r ⟦ S ⟧` for the image, `r ⟨ x ⟩` for application, ❴ x ❵ for a set of one, `! x ∙ P` and `# x ∙ P` for the
-- quantifiers, minus(k) for the unary sign. Type arguments that no child shows are written: ∅(α), TYPE(α), id(α), prj1 α β.
mod Signs
use Signs.*
use Rattle.std.specs.Prelude.{ℕ, zero, suc, List, [], Option, Some, None, slice_get, option_map}
use Rattle.ev_terms.specs.Types.{pow}
use Rattle.ev_terms.specs.Term.{Term}
use Rattle.ev_axioms.specs.AxiomText.{Text, closed}

-- the rows, from 1
unfoldable pub rows : List Text
rows =
    # x ∙ true ▪  -- 1
    b ≐ TRUE or b ≐ FALSE ▪  -- 2
    not TRUE ≐ FALSE ▪  -- 3
    (! x ∙ x ∈ S <=> x ∈ T) => S ≐ T ▪  -- 4
    x ∈ TYPE (α) ▪  -- 5
    not x ∈ ∅ (α) ▪  -- 6
    S <: T <=> (! x ∙ x ∈ S => x ∈ T) ▪  -- 7
    x ∈ S \/ T <=> x ∈ S or x ∈ T ▪  -- 8
    x ∈ S /\ T <=> x ∈ S & x ∈ T ▪  -- 9
    x ∈ S \ T <=> x ∈ S & not x ∈ T ▪  -- 10
    S ∈ POW (T) <=> S <: T ▪  -- 11
    x ∈ union (F) <=> (# S ∙ S ∈ F & x ∈ S) ▪  -- 12
    not F ≐ ∅ (pow α) => (x ∈ inter (F) <=> (! S ∙ S ∈ F => x ∈ S)) ▪  -- 13
    x |-> u ≐ y |-> v => x ≐ y & u ≐ v ▪  -- 14
    # x ∙ # u ∙ p ≐ x |-> u ▪  -- 15
    x |-> u ∈ S ** U <=> x ∈ S & u ∈ U ▪  -- 16
    r ∈ S <-> U <=> r <: S ** U ▪  -- 17
    x ∈ dom (r) <=> (# u ∙ x |-> u ∈ r) ▪  -- 18
    u ∈ ran (r) <=> (# x ∙ x |-> u ∈ r) ▪  -- 19
    u |-> x ∈ r ~ <=> x |-> u ∈ r ▪  -- 20
    x |-> w ∈ r ⨾ s <=> (# u ∙ x |-> u ∈ r & u |-> w ∈ s) ▪  -- 21
    x |-> u ∈ S <| r <=> x ∈ S & x |-> u ∈ r ▪  -- 22
    x |-> u ∈ S <<| r <=> not x ∈ S & x |-> u ∈ r ▪  -- 23
    x |-> u ∈ r |> U <=> u ∈ U & x |-> u ∈ r ▪  -- 24
    x |-> u ∈ r |>> U <=> not u ∈ U & x |-> u ∈ r ▪  -- 25
    x |-> u ∈ r <+ q <=> x |-> u ∈ q or (not x ∈ dom (q) & x |-> u ∈ r) ▪  -- 26
    u ∈ r ⟦ S ⟧ <=> (# x ∙ x ∈ S & x |-> u ∈ r) ▪  -- 27
    x |-> y ∈ id (α) <=> x ≐ y ▪  -- 28
    (x |-> u) |-> y ∈ prj1 α β <=> x ≐ y ▪  -- 29
    (x |-> u) |-> v ∈ prj2 α β <=> u ≐ v ▪  -- 30
    r ∈ S +-> U <=> r ∈ S <-> U & (! x ∙ ! u ∙ ! v ∙ x |-> u ∈ r & x |-> v ∈ r => u ≐ v) ▪  -- 31
    r ∈ S ⟶ U <=> r ∈ S +-> U & dom (r) ≐ S ▪  -- 32
    r ∈ S >+> U <=> r ∈ S +-> U & (! x ∙ ! y ∙ ! u ∙ x |-> u ∈ r & y |-> u ∈ r => x ≐ y) ▪  -- 33
    r ∈ S >-> U <=> r ∈ S >+> U & dom (r) ≐ S ▪  -- 34
    r ∈ S +->> U <=> r ∈ S +-> U & ran (r) ≐ U ▪  -- 35
    r ∈ S ⟶> U <=> r ∈ S ⟶ U & ran (r) ≐ U ▪  -- 36
    r ∈ S >->> U <=> r ∈ S >-> U & ran (r) ≐ U ▪  -- 37
    x |-> u ∈ r & r ∈ TYPE (α) +-> TYPE (β) => r ⟨ x ⟩ ≐ u ▪  -- 38
    k ⊕ m ≐ m ⊕ k ▪  -- 39
    (k ⊕ m) ⊕ n ≐ k ⊕ (m ⊕ n) ▪  -- 40
    k ⊕ 𝟎 ≐ k ▪  -- 41
    k ⊕ minus (k) ≐ 𝟎 ▪  -- 42
    k ⊖ m ≐ k ⊕ minus (m) ▪  -- 43
    k ⊗ m ≐ m ⊗ k ▪  -- 44
    (k ⊗ m) ⊗ n ≐ k ⊗ (m ⊗ n) ▪  -- 45
    k ⊗ 𝟏 ≐ k ▪  -- 46
    k ⊗ (m ⊕ n) ≐ k ⊗ m ⊕ k ⊗ n ▪  -- 47
    k <= m & m <= k => k ≐ m ▪  -- 48
    k <= m & m <= n => k <= n ▪  -- 49
    k <= m or m ≺ k ▪  -- 50
    k ≺ m <=> k ⊕ 𝟏 <= m ▪  -- 51
    k <= m => k ⊕ n <= m ⊕ n ▪  -- 52
    𝟎 <= k & 𝟎 <= m => 𝟎 <= k ⊗ m ▪  -- 53
    k ∈ NAT <=> 𝟎 <= k ▪  -- 54
    k ∈ NAT1 <=> 𝟏 <= k ▪  -- 55
    𝟎 ∈ N & (! k ∙ k ∈ N & 𝟎 <= k => k ⊕ 𝟏 ∈ N) => (! k ∙ 𝟎 <= k => k ∈ N) ▪  -- 56
    k ∈ m ‥ n <=> m <= k & k <= n ▪  -- 57
    𝟎 <= k & 𝟎 ≺ m => m ⊗ (k ⊘ m) <= k & k ≺ m ⊗ (k ⊘ m) ⊕ m ▪  -- 58
    𝟎 <= k & 𝟎 ≺ m => k ⊙ m ≐ k ⊖ m ⊗ (k ⊘ m) ▪  -- 59
    k ↑ 𝟎 ≐ 𝟏 ▪  -- 60
    𝟎 <= m => k ↑ (m ⊕ 𝟏) ≐ (k ↑ m) ⊗ k ▪  -- 61
    finite (∅ (α)) ▪  -- 62
    finite (S) => finite (S \/ ❴ x ❵) ▪  -- 63
    ∅ (α) ∈ F & (! S ∙ ! x ∙ S ∈ F & finite (S) & not x ∈ S => S \/ ❴ x ❵ ∈ F) => (! S ∙ finite (S) => S ∈ F) ▪  -- 64
    card (∅ (α)) ≐ 𝟎 ▪  -- 65
    finite (S) & not x ∈ S => card (S \/ ❴ x ❵) ≐ card (S) ⊕ 𝟏 ▪  -- 66
    k ∈ N & (! m ∙ m ∈ N => k <= m) => min (N) ≐ k ▪  -- 67
    k ∈ N & (! m ∙ m ∈ N => m <= k) => max (N) ≐ k ▪  -- 68
    finite (m ‥ n) ▪  -- 69
    finite (S) & T <: S => finite (T) ▪  -- 70
    finite (S) & finite (U) => finite (S ** U) ▪  -- 71
    finite (S) & finite (T) & S /\ T ≐ ∅ (α) => card (S \/ T) ≐ card (S) ⊕ card (T) ▪ []  -- 72

-- the closed formula of a row, by its number from 1
abbrev pub axiom_row : ℕ → Option Term
axiom_row zero = None
axiom_row (suc i) = option_map closed (slice_get rows i)
