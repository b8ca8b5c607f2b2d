-- Equations and the rows that speak of them.
use Rattle.std.specs.Prelude.{◌≡◌, ◌↔◌, Bool as Boolean, false, List, [], ◌∷◌, Some, IsTrue, refl}
use Rattle.std.proofs.Common.{ap, sym, ◌∙◌, subst as transport, true≢false}
use Rattle.ev_terms.specs.declared.types.Ty.{Ty, Int, Bool, Prop, Param, Data}
use Rattle.ev_terms.specs.declared.types.Tys.{Tys}
use Rattle.ev_terms.specs.Types.{pow, prod}
use Rattle.ev_terms.specs.Term.{Term, types_of, children}
use Rattle.ev_typing.specs.declared.typing.Sequent.{Sequent}
use Rattle.ev_forms.specs.Forms.{equation}
use Rattle.ev_forms.specs.Binders.{equated}
use Rattle.ev_typing.specs.Sequents.{◌⊢◌}
use Rattle.ev_forms.proofs.FormViews.{equated_at}
use Rattle.ev_kernel.specs.declared.rules.BaseRule.TheVariants.{Refl, Sym as Symmetry, Trans, Cong}
use Rattle.ev_kernel.specs.Row.{Row, AreCongruent}

-- a test that fails
pub apart : {P : Type 0} (b : Boolean) → (IsTrue b ↔ P) → b ≡ false → ¬ P
apart b d e p = true≢false (sym (d.1 p) ∙ e)

pub refused : {P : Type 0} → ¬ P → IsTrue false ↔ P
refused n = (λ y. absurd (true≢false (sym y)), λ p. absurd (n p))

-- The sides and the type of an equation.
equation_children : (A : Ty) (s t : Term) → children (equation A s t) ≡ s ∷ t ∷ []
equation_children Int s t = refl
equation_children Bool s t = refl
equation_children Prop s t = refl
equation_children (Param i) s t = refl
equation_children (pow A) s t = refl
equation_children (prod A B) s t = refl
equation_children (Data n As) s t = refl

-- at a type the type arguments are the same, whatever the sides
same_types : (A : Ty) (s t u v : Term) → types_of (equation A s t) ≡ types_of (equation A u v)
same_types Int s t u v = refl
same_types Bool s t u v = refl
same_types Prop s t u v = refl
same_types (Param i) s t u v = refl
same_types (pow A) s t u v = refl
same_types (prod A B) s t u v = refl
same_types (Data n As) s t u v = refl

pub same_sides : (A B : Ty) (s t u v : Term) → equation A s t ≡ equation B u v → (s ≡ u) × (t ≡ v)
same_sides A B s t u v e =
    let h : s ∷ t ∷ [] ≡ u ∷ v ∷ [] = sym (equation_children A s t) ∙ ap children e ∙ equation_children B u v in (cc, cc)

pub same_kind : (A : Ty) (As : Tys) (t s u : Term) → t ≡ equation A s u → types_of t ≡ Some As → equated As ≡ A
same_kind A As t s u e h = equated_at A s u As (ap types_of (sym e) ∙ h)

-- The test of an equation.
pub other_types : (u l r : Term) (As Bs : Tys) → types_of u ≡ Some As → ¬ (As ≡ Bs) → IsTrue false ↔ ((u ≡ equation (equated Bs) l r) × (types_of u ≡ Some Bs))
other_types u l r As Bs h n = refused (λ p. n (let e : Some As ≡ Some Bs = sym h ∙ p.1 in cc))

pub other_left : (u l r s t : Term) (As Bs : Tys) → u ≡ equation (equated As) s t → ¬ (s ≡ l) → IsTrue false ↔ ((u ≡ equation (equated Bs) l r) × (types_of u ≡ Some Bs))
other_left u l r s t As Bs e n = refused (λ p. n (same_sides (equated As) (equated Bs) s t l r (sym e ∙ p.0)).0)

pub by_right : (u l r s t : Term) (As Bs : Tys) (b : Boolean) → u ≡ equation (equated As) s t → types_of u ≡ Some As → As ≡ Bs → s ≡ l → (IsTrue b ↔ (t ≡ r)) →
    IsTrue b ↔ ((u ≡ equation (equated Bs) l r) × (types_of u ≡ Some Bs))
by_right u l r s t As Bs b e h a x d = (
  λ y. (
    e ∙ ap (λ k. equation (equated k) s t) a ∙ ap (λ k. equation (equated Bs) k t) x ∙ ap (equation (equated Bs) l) (d.0 y),
    h ∙ ap (λ k. Some k) a,
  ),
  λ p. d.1 (same_sides (equated As) (equated Bs) s t l r (sym e ∙ p.0)).1,
)

-- Reflexivity.
pub reflexive : (S : Sequent) (As : Tys) (l r : Term) (b : Boolean) → S.goal ≡ equation (equated As) l r → (IsTrue b ↔ (l ≡ r)) → IsTrue b ↔ Row [] [] Refl S
reflexive S As l r b e d = (
  λ y. (equated As, l, record { concludes = e ∙ ap (equation (equated As) l) (sym (d.0 y)); premises_are = refl }),
  λ f. let p = same_sides (equated As) f.0 l r f.1 f.1 (sym e ∙ f.2.concludes) in d.1 (p.0 ∙ sym p.1),
)

-- Symmetry.
pub first_is : (p q : Sequent) (ps qs : List Sequent) → p ∷ ps ≡ q ∷ qs → p ≡ q
first_is p q ps qs e = cc

second_is : (p q p' q' : Sequent) (ps qs : List Sequent) → p ∷ p' ∷ ps ≡ q ∷ q' ∷ qs → p' ≡ q'
second_is p q p' q' ps qs e = cc

goal_of : (p S : Sequent) (G : Term) → p ≡ (S ⊢ G) → p.goal ≡ G
goal_of p S G e = ap (λ (x : Sequent). x.goal) e

-- an equation of the same kind, from one of these types
of_kind : (A : Ty) (As : Tys) (p t s u v w : Term) → p ≡ equation A s u → types_of p ≡ Some As → t ≡ equation A v w → (t ≡ equation (equated As) v w) × (types_of t ≡ Some As)
of_kind A As p t s u v w e h f = (
  f ∙ ap (λ B. equation B v w) (sym (same_kind A As p s u e h)),
  ap types_of f ∙ same_types A v w s u ∙ ap types_of (sym e) ∙ h,
)

pub symmetric : (p S : Sequent) (As : Tys) (l r : Term) (b : Boolean) → p ≡ (S ⊢ p.goal) → p.goal ≡ equation (equated As) l r → types_of p.goal ≡ Some As →
    (IsTrue b ↔ ((S.goal ≡ equation (equated As) r l) × (types_of S.goal ≡ Some As))) → IsTrue b ↔ Row [] (p ∷ []) Symmetry S
symmetric p S As l r b k e h d = (
  λ y. (equated As, l, r, record { concludes = (d.0 y).0; premises_are = ap (λ x. x ∷ []) (k ∙ ap (λ G. S ⊢ G) e) }),
  λ f.
      let A = f.0 in let s = f.1 in let t = f.2 in
      let g : p.goal ≡ equation A s t = goal_of p S (equation A s t) (first_is p (S ⊢ equation A s t) [] [] f.3.premises_are) in
      let q = same_sides (equated As) A l r s t (sym e ∙ g) in
      let c : S.goal ≡ equation A r l = f.3.concludes ∙ ap (λ x. equation A x s) (sym q.1) ∙ ap (equation A r) (sym q.0) in
      d.1 (of_kind A As p.goal S.goal s t r l g h c),
)

-- Transitivity.
pub record Chain (S : Sequent) (As Bs : Tys) (l m n r : Term) : Type 0 where
  pub types : As ≡ Bs
  pub middle : m ≡ n
  pub ends : (S.goal ≡ equation (equated As) l r) × (types_of S.goal ≡ Some As)

pub chain : (p q S : Sequent) (As Bs : Tys) (l m n r : Term) → p.goal ≡ equation (equated As) l m → types_of p.goal ≡ Some As → q.goal ≡ equation (equated Bs) n r → types_of q.goal ≡ Some Bs →
    Row [] (p ∷ q ∷ []) Trans S → Chain S As Bs l m n r
chain p q S As Bs l m n r e h e' h' f =
    let A = f.0 in let s = f.1 in let t = f.2 in let u = f.3 in
    let g : p.goal ≡ equation A s t = goal_of p S (equation A s t) (first_is p (S ⊢ equation A s t) (q ∷ []) ((S ⊢ equation A t u) ∷ []) f.4.premises_are) in
    let g' : q.goal ≡ equation A t u = goal_of q S (equation A t u) (second_is p (S ⊢ equation A s t) q (S ⊢ equation A t u) [] [] f.4.premises_are) in
    let x = same_sides (equated As) A l m s t (sym e ∙ g) in
    let y = same_sides (equated Bs) A n r t u (sym e' ∙ g') in
    let k : Some As ≡ Some Bs = sym h ∙ ap types_of g ∙ same_types A s t t u ∙ ap types_of (sym g') ∙ h' in
    let c : S.goal ≡ equation A l r = f.4.concludes ∙ ap (λ z. equation A z u) (sym x.0) ∙ ap (equation A l) (sym y.1) in
    record { types = cc; middle = x.1 ∙ sym y.0; ends = of_kind A As p.goal S.goal s t l r g h c }

pub transitive : (p q S : Sequent) (As Bs : Tys) (l m n r : Term) (b : Boolean) → p ≡ (S ⊢ p.goal) → q ≡ (S ⊢ q.goal) → p.goal ≡ equation (equated As) l m → types_of p.goal ≡ Some As →
    q.goal ≡ equation (equated Bs) n r → types_of q.goal ≡ Some Bs → As ≡ Bs → m ≡ n →
    (IsTrue b ↔ ((S.goal ≡ equation (equated As) l r) × (types_of S.goal ≡ Some As))) → IsTrue b ↔ Row [] (p ∷ q ∷ []) Trans S
transitive p q S As Bs l m n r b k k' e h e' h' a x d = (
  λ y. (
    equated As,
    l,
    m,
    r,
    record {
      concludes = (d.0 y).0;
      premises_are =
          ap (λ z. z ∷ q ∷ []) (k ∙ ap (λ G. S ⊢ G) e)
          ∙ ap (λ z. (S ⊢ equation (equated As) l m) ∷ z ∷ []) (k' ∙ ap (λ G. S ⊢ G) (e' ∙ ap (λ z. equation (equated z) n r) (sym a) ∙ ap (λ z. equation (equated As) z r) (sym x)));
    },
  ),
  λ f. d.1 (chain p q S As Bs l m n r e h e' h' f).ends,
)

-- Congruence.
pub congruent : (S : Sequent) (A : Ty) (l r : Term) (ps : List Sequent) (b : Boolean) → S.goal ≡ equation A l r → (IsTrue b ↔ AreCongruent S l r ps) → IsTrue b ↔ Row [] ps Cong S
congruent S A l r ps b e d = (
  λ y. (A, l, r, e, d.0 y),
  λ f.
      let q = same_sides f.0 A f.1 f.2 l r (sym f.3 ∙ e) in
      d.1 (transport (λ x. AreCongruent S l x ps) q.1 (transport (λ x. AreCongruent S x f.2 ps) q.0 f.4)),
)
