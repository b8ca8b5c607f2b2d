-- A line of fields is one of no other fields.
use Rattle.std.proofs.Common.{◌≡◌, ℕ, true, false, ◌||◌, List, [], ◌∷◌, ◌++◌, refl, ap, sym, ◌∙◌}
use Rattle.std.specs.Prelude.{◌==◌, codes}
use Rattle.std.specs.List.{AllByRecursion}
use Rattle.std.proofs.lemmas.Bool.{eq-eqb}
use Rattle.std.proofs.lemmas.List.{append_assoc, append_cancel_right}
use Rattle.std.proofs.lemmas.List.Folds.{list_any-append}
use Rattle.ev_deriv.specs.Fields.{line_of, ended}
use Rattle.ev_deriv.proofs.NoSign.{has, neither, joined_without}

-- no `@` stands in a text
abbrev pub IsWithoutAt : List ℕ → Type 0
IsWithoutAt text = has 64 text ≡ false

abbrev pub AreWithoutAt : List (List ℕ) → Type 0
AreWithoutAt texts = AllByRecursion IsWithoutAt texts

head_differs : (x : ℕ) (xs : List ℕ) → IsWithoutAt (x ∷ xs) → x ≡ 64 → ⊥
head_differs x xs h e = let clash : true ≡ false = sym (ap (λ b. b || has 64 xs) (eq-eqb x 64 e)) ∙ h in cc

-- what stands before the first `@`, and what behind it
before_at : (x y rest other : List ℕ) → IsWithoutAt x → IsWithoutAt y → x ++ 64 ∷ rest ≡ y ++ 64 ∷ other → (x ≡ y) × (rest ≡ other)
before_at [] [] rest other h g e = let tails : rest ≡ other = cc in (refl, tails)
before_at [] (c ∷ cs) rest other h g e = absurd (head_differs c cs g (let heads : c ≡ 64 = cc in heads))
before_at (c ∷ cs) [] rest other h g e = absurd (head_differs c cs h (let heads : c ≡ 64 = cc in heads))
before_at (c ∷ cs) (d ∷ ds) rest other h g e =
    let heads : c ≡ d = cc in
    let tails : cs ++ 64 ∷ rest ≡ ds ++ 64 ∷ other = cc in
    let r = before_at cs ds rest other (neither (c == 64) (has 64 cs) h).1 (neither (d == 64) (has 64 ds) g).1 tails in
    (ap (λ x. x ∷ cs) heads ∙ ap (λ xs. d ∷ xs) r.0, r.1)

has_sign : (x rest : List ℕ) → IsWithoutAt x → has 64 (x ++ (codes " @ " ++ rest)) ≡ true
has_sign x rest h = list_any-append (λ c. c == 64) x (codes " @ " ++ rest) ∙ ap (λ b. b || true) h

differs : (text : List ℕ) → IsWithoutAt text → has 64 text ≡ true → ⊥
differs text h e = let clash : true ≡ false = sym e ∙ h in cc

-- two lines that are the same have the same fields
pub same_fields : (x : List ℕ) (xs : List (List ℕ)) (y : List ℕ) (ys : List (List ℕ)) → AreWithoutAt (x ∷ xs) → AreWithoutAt (y ∷ ys) → line_of (x ∷ xs) ≡ line_of (y ∷ ys) →
    x ∷ xs ≡ y ∷ ys
same_fields x [] y [] h g e = ap (λ z. z ∷ []) e
same_fields x [] y (b ∷ bs) h g e = absurd (differs x h.0 (ap (has 64) e ∙ has_sign y (line_of (b ∷ bs)) g.0))
same_fields x (a ∷ more) y [] h g e = absurd (differs y g.0 (ap (has 64) (sym e) ∙ has_sign x (line_of (a ∷ more)) h.0))
same_fields x (a ∷ more) y (b ∷ bs) h g e =
    let p : List ℕ = line_of (a ∷ more) in
    let q : List ℕ = line_of (b ∷ bs) in
    let r = before_at (x ++ 32 ∷ []) (y ++ 32 ∷ []) (32 ∷ p) (32 ∷ q) (joined_without 64 x (32 ∷ []) h.0 refl) (joined_without 64 y (32 ∷ []) g.0 refl)
    (append_assoc x (32 ∷ []) (64 ∷ 32 ∷ p) ∙ e ∙ sym (append_assoc y (32 ∷ []) (64 ∷ 32 ∷ q))) in
    let rests : p ≡ q = (let s : 32 ∷ p ≡ 32 ∷ q = r.1 in cc) in
    ap (λ z. z ∷ a ∷ more) (append_cancel_right x y (32 ∷ []) r.0) ∙ ap (λ zs. y ∷ zs) (same_fields a more b bs h.1 g.1 rests)

pub same_ended : (a b : List ℕ) → ended a ≡ ended b → a ≡ b
same_ended a b e = append_cancel_right a b (10 ∷ []) e
