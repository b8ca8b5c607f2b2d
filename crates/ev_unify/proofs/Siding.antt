-- The sides of pairs by number, one pair after the other.
use Rattle.std.specs.Prelude.{◌≡◌, ℕ, ◌+◌, ◌<◌, ◌≤◌, List, [], ◌∷◌, ◌++◌, length, refl}
use Rattle.std.proofs.Common.{ap, sym, ◌∙◌, arith, length-append, append_assoc}
use Rattle.std.proofs.lemmas.List.{get_or_append_left, get_or-append-add}
use Rattle.ev_terms.specs.declared.types.Ty.{Ty}
use Rattle.ev_unify.specs.declared.patterns.Pat.{Pat, Int}
use Rattle.ev_unify.specs.declared.patterns.PatPair.{PatPair}
use Rattle.ev_unify.specs.declared.cells.Couple.{Couple}
use Rattle.ev_unify.specs.Patterns.{value}
use Rattle.ev_unify.specs.Solutions.{Solves}
use Rattle.ev_unify.specs.inner.Numbered.{part, type_of, Joined, AllBelow}
use Rattle.ev_unify.specs.inner.Sides.{HasSides}

pub solves_append : (σ : ℕ → Ty) (ps qs : List PatPair) → Solves σ ps → Solves σ qs → Solves σ (ps ++ qs)
solves_append σ [] qs a b = b
solves_append σ (p ∷ ps) qs (e, a) b = (e, solves_append σ ps qs a b)

pub solves_front : (σ : ℕ → Ty) (ps qs : List PatPair) → Solves σ (ps ++ qs) → Solves σ ps
solves_front σ [] qs a = tt
solves_front σ (p ∷ ps) qs (e, a) = (e, solves_front σ ps qs a)

pub solves_back : (σ : ℕ → Ty) (ps qs : List PatPair) → Solves σ (ps ++ qs) → Solves σ qs
solves_back σ [] qs a = a
solves_back σ (p ∷ ps) qs (e, a) = solves_back σ ps qs a

pub joined_append : (f : ℕ → Ty) (cs ds : List Couple) → Joined f cs → Joined f ds → Joined f (cs ++ ds)
joined_append f [] ds a b = b
joined_append f (c ∷ cs) ds (e, a) b = (e, joined_append f cs ds a b)

pub joined_front : (f : ℕ → Ty) (cs ds : List Couple) → Joined f (cs ++ ds) → Joined f cs
joined_front f [] ds a = tt
joined_front f (c ∷ cs) ds (e, a) = (e, joined_front f cs ds a)

pub joined_back : (f : ℕ → Ty) (cs ds : List Couple) → Joined f (cs ++ ds) → Joined f ds
joined_back f [] ds a = a
joined_back f (c ∷ cs) ds (e, a) = joined_back f cs ds a

pub below_append : (n : ℕ) (cs ds : List Couple) → AllBelow n cs → AllBelow n ds → AllBelow n (cs ++ ds)
below_append n [] ds a b = b
below_append n (c ∷ cs) ds (e, a) b = (e, below_append n cs ds a b)

pub below_front : (n : ℕ) (cs ds : List Couple) → AllBelow n (cs ++ ds) → AllBelow n cs
below_front n [] ds a = tt
below_front n (c ∷ cs) ds (e, a) = (e, below_front n cs ds a)

pub below_back : (n : ℕ) (cs ds : List Couple) → AllBelow n (cs ++ ds) → AllBelow n ds
below_back n [] ds a = a
below_back n (c ∷ cs) ds (e, a) = below_back n cs ds a

pub below_more : (n m : ℕ) (cs : List Couple) → n ≤ m → AllBelow n cs → AllBelow m cs
below_more n m [] h a = tt
below_more n m (c ∷ cs) h (e, a) = ((omega (arith, h, e.0), omega (arith, h, e.1)), below_more n m cs h a)

-- only the parts that the couples name matter
pub joined_alike : (f g : ℕ → Ty) (n : ℕ) (cs : List Couple) → ((i : ℕ) → i < n → f i ≡ g i) → AllBelow n cs → Joined f cs → Joined g cs
joined_alike f g n [] h b a = tt
joined_alike f g n (c ∷ cs) h (b, bs) (e, a) = (sym (h c.left b.0) ∙ e ∙ h c.right b.1, joined_alike f g n cs h bs a)

pub part_before : (P Q : List Pat) (i : ℕ) → i < length P → part (P ++ Q) i ≡ part P i
part_before P Q i h = get_or_append_left P Q Int i h

pub type_before : (σ : ℕ → Ty) (P Q : List Pat) (i : ℕ) → i < length P → type_of σ (P ++ Q) i ≡ type_of σ P i
type_before σ P Q i h = ap (value σ) (part_before P Q i h)

pub joined_grown : (σ : ℕ → Ty) (P Q : List Pat) (cs : List Couple) → AllBelow (length P) cs → Joined (type_of σ P) cs → Joined (type_of σ (P ++ Q)) cs
joined_grown σ P Q cs b a = joined_alike (type_of σ P) (type_of σ (P ++ Q)) (length P) cs (λ i h. sym (type_before σ P Q i h)) b a

pub joined_cut : (σ : ℕ → Ty) (P Q : List Pat) (cs : List Couple) → AllBelow (length P) cs → Joined (type_of σ (P ++ Q)) cs → Joined (type_of σ P) cs
joined_cut σ P Q cs b a = joined_alike (type_of σ (P ++ Q)) (type_of σ P) (length P) cs (type_before σ P Q) b a

-- more parts change nothing
pub sides_grown : (pairs : List PatPair) (P Q : List Pat) (cs : List Couple) → HasSides pairs P cs → HasSides pairs (P ++ Q) cs
sides_grown pairs P Q cs h = record {
  below = below_more (length P) (length (P ++ Q)) cs (omega (arith, length-append P Q)) h.below;
  joined = λ σ s. joined_grown σ P Q cs h.below (h.joined σ s);
  solves = λ σ j. h.solves σ (joined_cut σ P Q cs h.below j);
}

pub no_sides : HasSides [] [] []
no_sides = record { below = tt; joined = λ σ s. tt; solves = λ σ j. tt }

pub part_at : (P : List Pat) (p : Pat) (Q : List Pat) (i : ℕ) → length P ≡ i → part (P ++ p ∷ Q) i ≡ p
part_at [] p Q i e = ap (part (p ∷ Q)) (sym e)
part_at (q ∷ P) p Q i e = ap (part (q ∷ (P ++ p ∷ Q))) (sym e) ∙ part_at P p Q (length P) refl

-- one pair more
sides_with : (pairs : List PatPair) (p : PatPair) (P : List Pat) (cs : List Couple) (c : Couple) → HasSides pairs P cs → c.left ≡ length P → c.right ≡ length P + 1 → HasSides (pairs ++ p ∷ []) (P ++ p.left ∷ p.right ∷ []) (cs ++ c ∷ [])
sides_with pairs p P cs c h l r =
    let Q : List Pat = p.left ∷ p.right ∷ [] in
    let g : HasSides pairs (P ++ Q) cs = sides_grown pairs P Q cs h in
    let pl : part (P ++ Q) c.left ≡ p.left = part_at P p.left (p.right ∷ []) c.left (sym l) in
    let pr : part (P ++ Q) c.right ≡ p.right = ap (part (P ++ Q)) r ∙ get_or-append-add P Q 1 Int in
    record {
      below = below_append (length (P ++ Q)) cs (c ∷ []) g.below ((omega (arith, length-append P Q, l), omega (arith, length-append P Q, r)), tt);
      joined = λ σ s. joined_append (type_of σ (P ++ Q)) cs (c ∷ []) (g.joined σ (solves_front σ pairs (p ∷ []) s)) (ap (value σ) pl ∙ (solves_back σ pairs (p ∷ []) s).0 ∙ sym (ap (value σ) pr), tt);
      solves = λ σ j. solves_append σ pairs (p ∷ []) (g.solves σ (joined_front (type_of σ (P ++ Q)) cs (c ∷ []) j)) (sym (ap (value σ) pl) ∙ (joined_back (type_of σ (P ++ Q)) cs (c ∷ []) j).0 ∙ ap (value σ) pr, tt);
    }

pub sides_more : (pairs : List PatPair) (p : PatPair) (P P' P'' : List Pat) (cs cs' : List Couple) (left right : ℕ) (l r : Pat) → HasSides pairs P cs → l ≡ p.left → r ≡ p.right → left ≡ length P → P' ≡ P ++ l ∷ [] → right ≡ length P' → P'' ≡ P' ++ r ∷ [] → cs' ≡ cs ++ record { left = left; right = right } ∷ [] → HasSides (pairs ++ p ∷ []) P'' cs'
sides_more pairs p P P' P'' cs cs' left right l r h el er at e at' e' ec =
    let c : Couple = record { left = left; right = right } in
    let e1 : P' ≡ P ++ p.left ∷ [] = e ∙ ap (λ x. P ++ x ∷ []) el in
    let e2 : P'' ≡ P' ++ p.right ∷ [] = e' ∙ ap (λ x. P' ++ x ∷ []) er in
    let ep : P'' ≡ P ++ p.left ∷ p.right ∷ [] = e2 ∙ ap (λ x. x ++ p.right ∷ []) e1 ∙ append_assoc P (p.left ∷ []) (p.right ∷ []) in
    let here : right ≡ length P + 1 = at' ∙ ap length e1 ∙ length-append P (p.left ∷ []) in
    rw (ep, ec) (sides_with pairs p P cs c h at here)

pub ruleset walk = (no_sides, sides_more)
