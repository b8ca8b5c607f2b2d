-- The work on the couples, one after the other.
use Rattle.std.specs.Prelude.{◌≡◌, ℕ, ◌+◌, ◌<◌, List, [], ◌∷◌, ◌++◌, length}
use Rattle.std.proofs.Common.{ap, sym, ◌∙◌, arith, subst, length-append}
use Rattle.ev_terms.specs.declared.types.Ty.{Ty}
use Rattle.ev_unify.specs.declared.patterns.Pat.{Pat}
use Rattle.ev_unify.specs.declared.cells.Couple.{Couple}
use Rattle.ev_unify.specs.inner.Numbered.{type_of, Joined, AllBelow}
use Rattle.ev_unify.specs.inner.Links.{effort, Joins, NeverLinked, NeverJoined, IsMerging, IsMerged}
use Rattle.ev_unify.proofs.Siding.{joined_append, joined_front, joined_back, below_front, below_back}

pub merge_more : (P : List Pat) (F L0 : List ℕ) (work0 : List Couple) (L : List ℕ) (work rest : List Couple) (c : Couple) (L' : List ℕ) (work' : List Couple) → IsMerging P F L0 work0 L work → work ≡ rest ++ c ∷ [] → Joins P F L rest L' work' c.left c.right → IsMerging P F L0 work0 L' work'
merge_more P F L0 work0 L work rest c L' work' m e h =
    let all : (f : ℕ → Ty) → Joined f rest → f c.left ≡ f c.right → Joined f work = λ f j q. (let Q : List Couple → Type 0 = λ w. Joined f w in subst Q (sym e) (joined_append f rest (c ∷ []) j (q, tt))) in
    let cut : (f : ℕ → Ty) → Joined f work → Joined f (rest ++ c ∷ []) = λ f j. (let Q : List Couple → Type 0 = λ w. Joined f w in subst Q e j) in
    record {
      forest = h.forest;
      count = h.count ∙ m.count;
      below = h.below (below_front (length P) rest (c ∷ []) (let Q : List Couple → Type 0 = λ w. AllBelow (length P) w in subst Q e m.below));
      back = λ f g j. let r = h.back f g j in m.back f r.0 (all f r.1 r.2);
      kept = λ σ g j. let r = m.kept σ g j in h.kept σ r.0 (joined_front (type_of σ P) rest (c ∷ []) (cut (type_of σ P) r.1)) (joined_back (type_of σ P) rest (c ∷ []) (cut (type_of σ P) r.1)).0;
      agrees = λ f g j. let r = h.back f g j in h.agrees f g j (m.agrees f r.0 (all f r.1 r.2));
    }

pub merge_falls : (P : List Pat) (F L : List ℕ) (work rest : List Couple) (c : Couple) (L' : List ℕ) (work' : List Couple) → work ≡ rest ++ c ∷ [] → Joins P F L rest L' work' c.left c.right → effort P L' work' < effort P L work
merge_falls P F L work rest c L' work' e h =
    let n : length work ≡ length rest + 1 = ap length e ∙ length-append rest (c ∷ []) in
    omega (arith, n, h.falls)

pub merge_never : (P : List Pat) (F L0 : List ℕ) (work0 : List Couple) (L : List ℕ) (work rest : List Couple) (c : Couple) → IsMerging P F L0 work0 L work → work ≡ rest ++ c ∷ [] → NeverLinked P L c.left c.right → NeverJoined P L0 work0
merge_never P F L0 work0 L work rest c m e n σ g j =
    let r = m.kept σ g j in
    let all : Joined (type_of σ P) (rest ++ c ∷ []) = (let Q : List Couple → Type 0 = λ w. Joined (type_of σ P) w in subst Q e r.1) in
    n σ r.0 (joined_back (type_of σ P) rest (c ∷ []) all).0

pub merge_left : (P : List Pat) (F L0 : List ℕ) (work0 : List Couple) (L : List ℕ) (work rest : List Couple) (c : Couple) → IsMerging P F L0 work0 L work → work ≡ rest ++ c ∷ [] → c.left < length P
merge_left P F L0 work0 L work rest c m e = (below_back (length P) rest (c ∷ []) (let Q : List Couple → Type 0 = λ w. AllBelow (length P) w in subst Q e m.below)).0.0

pub merge_right : (P : List Pat) (F L0 : List ℕ) (work0 : List Couple) (L : List ℕ) (work rest : List Couple) (c : Couple) → IsMerging P F L0 work0 L work → work ≡ rest ++ c ∷ [] → c.right < length P
merge_right P F L0 work0 L work rest c m e = (below_back (length P) rest (c ∷ []) (let Q : List Couple → Type 0 = λ w. AllBelow (length P) w in subst Q e m.below)).0.1

pub merge_done : (P : List Pat) (F L0 : List ℕ) (work0 : List Couple) (L : List ℕ) (work : List Couple) → IsMerging P F L0 work0 L work → work ≡ [] → IsMerged P F L0 work0 L
merge_done P F L0 work0 L work m e = let Q : List Couple → Type 0 = λ w. IsMerging P F L0 work0 L w in subst Q e m
