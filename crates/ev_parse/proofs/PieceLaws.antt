-- What a reader that stands at a place takes.
use Rattle.std.proofs.Common.{◌≡◌, ℕ, zero, suc, ◌+◌, ◌-◌, ◌≤◌, ◌<◌, Bool, true, false, List, [], ◌∷◌, ◌++◌, drop, length, refl, ap, subst, sym, ◌∙◌, arith, length-append, length-drop, true≢false}
use Rattle.std.specs.Prelude.{Option, Some, None, ◌||◌, not, nat_lt, if◌then◌else◌}
use Rattle.std.proofs.lemmas.Bool.Decides.{nat_tests}
use Rattle.ev_syntax.specs.Marks.{product_sign, open_paren, and_sign, or_word, implies_sign, iff_sign}
use Rattle.ev_syntax.specs.Tokens.{Token, mark}
use Rattle.ev_syntax.specs.Raw.{RawType, Raw, nesting, type_nesting}
use Rattle.ev_syntax.specs.Grammar.{ReadsType}
use Rattle.ev_syntax.specs.inner.Pieces.{IsPiece}
use Rattle.ev_syntax.specs.declared.read_pieces.Piece.{Piece}
use Rattle.ev_syntax.specs.declared.read_pieces.Piece.TheVariants.{Whole, Deep}
use Rattle.ev_syntax.specs.declared.sorts.Sort.{Sort}
use Rattle.ev_syntax.specs.declared.sorts.Sort.TheVariants.{Pred, Expr, Either, TypeText}
use Rattle.ev_syntax.specs.inner.Finding.{Found}
use Rattle.ev_syntax.specs.inner.TypeParser.{begins}
use Rattle.ev_syntax.specs.inner.TypeFrames.{TypeAnswer}
use Rattle.ev_syntax.specs.inner.Lookahead.{goes_on}
use Rattle.ev_syntax.specs.inner.FormulaParser.{is_relation, connects}
use Rattle.ev_syntax.specs.Parses.{ReadsAs}
use Rattle.ev_syntax.proofs.TypeMoves.{begins_at, begins_is}
use Rattle.ev_syntax.proofs.Comes.{type_answer}
use Rattle.ev_syntax.proofs.Answers.{type_sound}
use Rattle.ev_syntax.proofs.Frame.{Takes}
use Rattle.ev_syntax.proofs.OneTree.{StopsAs, same_front, as_frame}
use Rattle.ev_syntax.proofs.RunLaws.{run_front, front_run}
use Rattle.ev_parse.specs.Items.{ends, ItemAnswer}
use Rattle.ev_parse.specs.Depths.{limit, formula_deep, type_deep}
use Rattle.ev_parse.specs.inner.Taking.{State, behind, behind_mark, kept, Took, EndsType, EndsFormula}
use Rattle.ev_parse.specs.inner.Places.{from_place, IsWithin, whole}
use Rattle.ev_parse.proofs.Takings.{behind_here}

-- places
pub mark_behind : (m at : ℕ) (ts : List Token) (o : Option ℕ) → o ≡ Some at → begins m (drop at ts) ≡ true → Some (drop (at + 1) ts) ≡ behind_mark m (from_place ts o)
mark_behind m at ts o e h =
    sym (ap (λ x. behind_mark m (from_place ts x)) e ∙ ap (behind m) (begins_at m ts at h) ∙ behind_here m (drop (at + 1) ts))

none_left : (ts : List Token) (at : ℕ) → at ≤ length ts → drop at ts ≡ [] → at ≡ length ts
none_left ts at le e = let n : length (drop at ts) ≡ 0 = ap length e in let k : length (drop at ts) ≡ length ts - at = length-drop at ts in omega arith

all_gone : (ts : List Token) (at : ℕ) → at ≡ length ts → drop at ts ≡ []
all_gone [] zero e = refl
all_gone [] (suc at) e = refl
all_gone (t ∷ ts) zero e = absurd (omega arith)
all_gone (t ∷ ts) (suc at) e = all_gone ts at (omega arith)

pub end_is : (ts : List Token) (at n : ℕ) (o : Option ℕ) (s : State) → n ≡ length ts → o ≡ Some at → IsWithin ts o → s ≡ from_place ts o → (at ≡ n → s ≡ Some []) × (s ≡ Some [] → at ≡ n)
end_is ts at n o s l e w v =
    (λ d. here ∙ ap (λ xs. Some xs) (all_gone ts at (d ∙ l)), λ d. none_left ts at (subst (IsWithin ts) e w) (inj (sym here ∙ d)) ∙ sym l)
  where
    here : s ≡ Some (drop at ts)
    here = v ∙ ap (from_place ts) e

    inj : ◌≡◌ {A = State} (Some (drop at ts)) (Some []) → drop at ts ≡ []
    inj d = cc

no_more : (ts : List Token) (at to : ℕ) → at ≤ to → length (drop to ts) ≤ length (drop at ts)
no_more ts at to le = let n : length (drop to ts) ≡ length ts - to = length-drop to ts in let k : length (drop at ts) ≡ length ts - at = length-drop at ts in omega arith

-- pieces
below : (n : ℕ) → n ≤ limit → nat_lt limit n ≡ false
below n h = grind (arith, nat_tests)

above : (n : ℕ) → limit < n → nat_lt limit n ≡ true
above n h = grind (arith, nat_tests)

pub piece_kept : {A : Type 0} (depth : A → ℕ) (p : Piece A) (a : A) → IsPiece depth limit p a → whole p ≡ kept (λ x. nat_lt limit (depth x)) a
piece_kept depth (Whole t n) a h =
    ap (λ x. Some x) h.0 ∙ sym (ap (λ b. if b then None else Some a) (below (depth a) (let e = h.1 in let le = h.2 in omega arith)))
piece_kept depth Deep a h = sym (ap (λ b. if b then None else Some a) (above (depth a) h))

-- types
found_type : (o : Option (Found RawType)) (a b : RawType) (us rest : List Token) → o ≡ Some (a, us) → o ≡ Some (b, rest) → (b ≡ a) × (rest ≡ us)
found_type o a b us rest e d = (sym (ap (λ (x : Found RawType). x.0) same), sym (ap (λ (x : Found RawType). x.1) same))
  where
    inj : (x y : Found RawType) → ◌≡◌ {A = Option (Found RawType)} (Some x) (Some y) → x ≡ y
    inj x y e = cc

    same : ◌≡◌ {A = Found RawType} (a, us) (b, rest)
    same = inj (a, us) (b, rest) (sym e ∙ d)

pub type_took : (ts : List Token) (at to : ℕ) (o : Option ℕ) (s : State) (p : Piece RawType) (v : Option RawType) → o ≡ Some at → s ≡ from_place ts o
    → TypeAnswer limit ts at (Some (p, to)) → v ≡ whole p → Took (λ a. ReadsType a true) EndsType type_deep s v (Some (drop to ts))
type_took ts at to o s p v e d h w = subst (λ x. Took (λ a. ReadsType a true) EndsType type_deep x v (Some (drop to ts))) (sym (d ∙ ap (from_place ts) e))
    (record {
      takes = (
        h.0,
        w ∙ piece_kept type_nesting p h.0 h.1,
        type_sound (drop at ts) (drop to ts) h.0 h.2,
        no_more ts at to (let lt = h.4 in omega arith),
        λ b rest i stops. found_type (Some (h.0, drop to ts)) h.0 b (drop to ts) rest refl (type_answer (drop at ts) rest b (Some (h.0, drop to ts)) h.2 i stops),
      );
    })

not_some : (x : Found RawType) → ◌≡◌ {A = Option (Found RawType)} None (Some x) → ⊥
not_some x e = cc

pub no_type_took : (ts : List Token) (at : ℕ) (o : Option ℕ) (s : State) (v : Option RawType) → o ≡ Some at → s ≡ from_place ts o
    → TypeAnswer limit ts at None → Took (λ a. ReadsType a true) EndsType type_deep s v None
no_type_took ts at o s v e d h = subst (λ x. Took (λ a. ReadsType a true) EndsType type_deep x v None) (sym (d ∙ ap (from_place ts) e))
    (record { takes = λ b rest i stops. not_some (b, rest) (type_answer (drop at ts) rest b None h i stops) })

-- formulas
or_none : (a b : Bool) → not (a || b) ≡ true → (a ≡ false) × (b ≡ false)
or_none true b h = cc
or_none false true h = cc
or_none false false h = (refl, refl)

or_false : (a b : Bool) → (a || b) ≡ false → (a ≡ false) × (b ≡ false)
or_false true b h = cc
or_false false b h = (refl, h)

record Stopping (ts : List Token) : Type 0 where
  goes : goes_on ts ≡ false
  relates : is_relation ts ≡ false
  conj : begins and_sign ts ≡ false
  disj : begins or_word ts ≡ false
  implies : begins implies_sign ts ≡ false
  iff : begins iff_sign ts ≡ false

stopping : (ts : List Token) → ends ts ≡ true → Stopping ts
stopping ts h =
    let a = or_none (goes_on ts) (is_relation ts || connects ts) h in
    let b = or_false (is_relation ts) (connects ts) a.1 in
    let c = or_false (begins and_sign ts) (begins or_word ts || (begins implies_sign ts || begins iff_sign ts)) b.1 in
    let d = or_false (begins or_word ts) (begins implies_sign ts || begins iff_sign ts) c.1 in
    let e = or_false (begins implies_sign ts) (begins iff_sign ts) d.1 in
    record { goes = a.0; relates = b.0; conj = c.0; disj = d.0; implies = e.0; iff = e.1 }

-- a sign that goes on does not come next
no_sign : (m : ℕ) (ts : List Token) → ((us : List Token) → goes_on (mark m ∷ us) ≡ true) → goes_on ts ≡ false → begins m ts ≡ false
no_sign m ts on h = go (begins m ts) refl
  where
    go : (b : Bool) → begins m ts ≡ b → begins m ts ≡ false
    go false e = e
    go true e = let is = begins_is m ts e in absurd (true≢false (sym (on is.0) ∙ ap goes_on (sym is.1) ∙ h))

pub stops_as : (sort : Sort) (ts : List Token) → ends ts ≡ true → StopsAs sort ts
stops_as Pred ts h = let s = stopping ts h in (((s.goes, s.relates), s.conj, s.disj), s.implies, s.iff)
stops_as Expr ts h = let s = stopping ts h in (((s.goes, s.relates), s.conj, s.disj), s.implies, s.iff)
stops_as Either ts h = let s = stopping ts h in (((s.goes, s.relates), s.conj, s.disj), s.implies, s.iff)
stops_as TypeText ts h = let s = stopping ts h in (no_sign product_sign ts (λ us. refl) s.goes, no_sign open_paren ts (λ us. refl) s.goes)

drop_front : {A : Type 0} (xs rest : List A) (n : ℕ) → n ≡ length xs → drop n (xs ++ rest) ≡ rest
drop_front [] rest zero e = refl
drop_front [] rest (suc n) e = absurd (omega arith)
drop_front (x ∷ xs) rest zero e = absurd (omega arith)
drop_front (x ∷ xs) rest (suc n) e = drop_front xs rest n (omega arith)

behind_run : (ts rest : List Token) (sort : Sort) (a : Raw) → ReadsAs sort a ts rest → drop (length ts - length rest) ts ≡ rest
behind_run ts rest sort a h = let t : Takes (ReadsAs sort a) ts rest = as_frame sort a ts rest h in
    let n : length ts ≡ length t.front + length rest = ap length t.splits ∙ length-append t.front rest in
    let k : length ts - length rest ≡ length t.front = omega arith in
    ap (λ xs. drop (length ts - length rest) xs) t.splits ∙ drop_front t.front rest (length ts - length rest) k

drop_nil : {A : Type 0} (n : ℕ) → ◌≡◌ {A = List A} (drop n []) []
drop_nil zero = refl
drop_nil (suc n) = refl

drop_drop : {A : Type 0} (xs : List A) (n m : ℕ) → drop n (drop m xs) ≡ drop (m + n) xs
drop_drop xs n zero = let e : 0 + n ≡ n = omega arith in ap (λ k. drop k xs) (sym e)
drop_drop [] n (suc m) = drop_nil n ∙ sym (drop_nil (suc m + n))
drop_drop (x ∷ xs) n (suc m) = let e : suc m + n ≡ suc (m + n) = omega arith in drop_drop xs n m ∙ ap (λ k. drop k (x ∷ xs)) (sym e)

-- the same formula
parts : (a b : Raw) (us vs : List Token) → ◌≡◌ {A = Found Raw} (a, us) (b, vs) → (b ≡ a) × (vs ≡ us)
parts a b us vs e = (sym (ap (λ (x : Found Raw). x.0) e), sym (ap (λ (x : Found Raw). x.1) e))

pub formula_took : (sort : Sort) (ts : List Token) (at to : ℕ) (o : Option ℕ) (s : State) (p : Piece Raw) (v : Option Raw) → o ≡ Some at → s ≡ from_place ts o
    → ItemAnswer sort limit ts at (Some (p, to)) → v ≡ whole p → Took (ReadsAs sort) EndsFormula formula_deep s v (Some (drop to ts))
formula_took sort ts at to o s p v e d h w = subst (λ x. Took (ReadsAs sort) EndsFormula formula_deep x v (Some (drop to ts))) (sym (d ∙ ap (from_place ts) e))
    (record {
      takes = (
        h.0,
        w ∙ piece_kept nesting p h.0 h.1,
        here,
        no_more ts at to (let lt = h.4 in omega arith),
        λ b rest i stops. parts h.0 b (drop to ts) rest (same_front sort h.0 b (drop at ts) (drop to ts) rest here (stops_as sort (drop to ts) h.3) i (stops_as sort rest stops)),
      );
    })
  where
    there : drop (to - at) (drop at ts) ≡ drop to ts
    there = drop_drop ts (to - at) at ∙ ap (λ k. drop k ts) (let lt = h.4 in omega arith)

    here : ReadsAs sort h.0 (drop at ts) (drop to ts)
    here = subst (λ xs. ReadsAs sort h.0 (drop at ts) xs) there (run_front ts at sort (to - at) h.0 h.2)

pub no_formula_took : (sort : Sort) (ts : List Token) (at : ℕ) (o : Option ℕ) (s : State) (v : Option Raw) → o ≡ Some at → s ≡ from_place ts o
    → ItemAnswer sort limit ts at None → Took (ReadsAs sort) EndsFormula formula_deep s v None
no_formula_took sort ts at o s v e d h = subst (λ x. Took (ReadsAs sort) EndsFormula formula_deep x v None) (sym (d ∙ ap (from_place ts) e))
    (record {
      takes = λ b rest i stops. h (length (drop at ts) - length rest) b (front_run ts at sort b rest i)
          (subst (λ xs. ends xs ≡ true) (sym (behind_run (drop at ts) rest sort b i)) stops);
    })
