-- Contexts with further types behind, and chosen hypotheses.
use Rattle.std.specs.Prelude.{◌≡◌, ◌<◌, ◌≤◌, ◌+◌, ◌++◌, ℕ, zero, suc, List, [], ◌∷◌, Some, None, length, take, refl}
use Rattle.std.specs.List.{AllZip}
use Rattle.std.proofs.Common.{ap, sym, ◌∙◌, arith, get_or}
use Rattle.ev_terms.specs.declared.types.Ty.{Ty}
use Rattle.ev_terms.specs.declared.types.Tys.{Tys}
use Rattle.ev_terms.specs.Term.{Term}
use Rattle.ev_terms.specs.Types.{type_list}
use Rattle.ev_typing.specs.TypeLists.{types}
use Rattle.ev_typing.proofs.Laws.{types-type_list}
use Rattle.ev_kernel.specs.Derivable.{numbered}

pub take_past : {X : Type 0} (xs : List X) (n : ℕ) → length xs ≤ n → take n xs ≡ xs
take_past [] zero h = refl
take_past [] (suc n) h = refl
take_past (x ∷ xs) zero h = absurd (omega arith)
take_past (x ∷ xs) (suc n) h = ap (λ ys. x ∷ ys) (take_past xs n (omega (arith, h)))

pub longer_made : (As : Tys) (items before more : List Ty) (n : ℕ) → type_list As ≡ items → items ≡ before ++ take n more → length more ≤ n → As ≡ types (before ++ more)
longer_made As items before more n e f h = sym (types-type_list As) ∙ ap types (e ∙ f ∙ ap (λ xs. before ++ xs) (take_past more n h))

-- The hypotheses with some numbers.
abbrev pub Chosen : List Term → List ℕ → List Term → Type 0
Chosen hyps ns H = AllZip (λ n P. numbered hyps n ≡ Some P) ns H

pub chosen_next : (hyps : List Term) (ns : List ℕ) (i n : ℕ) (all new : List Term) (P : Term) → i < length ns → n ≡ get_or ns i n → numbered hyps n ≡ Some P
    → new ≡ all ++ P ∷ [] → Chosen hyps (take i ns) all → Chosen hyps (take (i + 1) ns) new
chosen_next hyps ns i n all new P h e f g c = let same : i + 1 ≡ suc i = omega arith in rw same (rw g (by ns i all h e c))
  where
    by : (ns : List ℕ) (i : ℕ) (all : List Term) → i < length ns → n ≡ get_or ns i n → Chosen hyps (take i ns) all → Chosen hyps (take (suc i) ns) (all ++ P ∷ [])
    by [] i all h e c = absurd (omega (arith, h))
    by (m ∷ ms) zero [] h e c = (ap (numbered hyps) (sym e) ∙ f, tt)
    by (m ∷ ms) zero (Q ∷ Qs) h e c = absurd c
    by (m ∷ ms) (suc i) [] h e c = absurd c
    by (m ∷ ms) (suc i) (Q ∷ Qs) h e c = (c.0, by ms i Qs (omega (arith, h)) e c.1)

pub chosen_one : (hyps : List Term) (ns : List ℕ) (H G : List Term) → Chosen hyps ns H → Chosen hyps ns G → G ≡ H
chosen_one hyps [] [] [] h g = refl
chosen_one hyps [] [] (Q ∷ G) h g = absurd g
chosen_one hyps [] (P ∷ H) G h g = absurd h
chosen_one hyps (n ∷ ns) [] G h g = absurd h
chosen_one hyps (n ∷ ns) (P ∷ H) [] h g = absurd g
chosen_one hyps (n ∷ ns) (P ∷ H) (Q ∷ G) h g =
    let same : Some Q ≡ Some P = sym g.0 ∙ h.0 in
    let q : Q ≡ P = cc in
    ap (λ x. x ∷ G) q ∙ ap (λ xs. P ∷ xs) (chosen_one hyps ns H G h.1 g.1)

pub chosen_not : (hyps : List Term) (ns : List ℕ) (i n : ℕ) → i < length ns → n ≡ get_or ns i n → numbered hyps n ≡ None → (H : List Term) → ¬ Chosen hyps ns H
chosen_not hyps [] i n h e f H c = absurd (omega (arith, h))
chosen_not hyps (m ∷ ms) zero n h e f [] c = absurd c
chosen_not hyps (m ∷ ms) zero n h e f (P ∷ H) c = (let x : Some P ≡ None = sym c.0 ∙ ap (numbered hyps) (sym e) ∙ f in cc)
chosen_not hyps (m ∷ ms) (suc i) n h e f [] c = absurd c
chosen_not hyps (m ∷ ms) (suc i) n h e f (P ∷ H) c = chosen_not hyps ms i n (omega (arith, h)) e f H c.1
