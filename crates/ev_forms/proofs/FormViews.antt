-- What a term is, from its symbol, its type arguments and its children.
use Rattle.std.proofs.Common.{◌≡◌, ◌≢◌, ℕ, List, [], ◌∷◌, Option, Some, None, refl, ap, sym, ◌∙◌}
use Rattle.std.specs.Prelude.{IfNone}
use Rattle.ev_terms.specs.declared.types.Ty.{Ty, Int, Bool, Prop, Param, Data}
use Rattle.ev_terms.specs.declared.types.Tys.{Tys, Empty}
use Rattle.ev_terms.specs.declared.types.Tys.TheVariants.{More}
use Rattle.ev_terms.specs.declared.types.Sym.{Sym}
use Rattle.ev_terms.specs.declared.types.Sym.TheVariants.{Base, User}
use Rattle.ev_terms.specs.Types.{pow, prod, more, type_list, More-more}
use Rattle.ev_terms.specs.Term.{Term, Terms, node, nil, cons, terms, term_list, sym_of, types_of, term_list-terms}
use Rattle.ev_terms.proofs.TypeSteps.{type_list-More}
use Rattle.ev_forms.specs.Base.{at_type}
use Rattle.ev_forms.specs.Forms.{equation, iff, eq}
use Rattle.ev_forms.specs.Binders.{equated}
use Rattle.ev_forms.proofs.Views.{node_by_views}

pub no_symbol : (t : Term) (s : Sym) (As : Tys) (ts : Terms) → None ≡ sym_of t → t ≢ node s As ts
no_symbol t s As ts h e = cc

pub no_types : (t : Term) (s : Sym) (As : Tys) (ts : Terms) → None ≡ types_of t → t ≢ node s As ts
no_types t s As ts h e = cc

pub ruleset nodes = (node_by_views)

-- another symbol at the root
pub other_base : (t : Term) (row k : ℕ) (As Bs : Tys) (ts us : Terms) → t ≡ node (Base row) As ts → (row ≡ k → ⊥) → t ≢ node (Base k) Bs us
other_base t row k As Bs ts us e ne f = ne (cc)

pub user_symbol : (t : Term) (n : List ℕ) (k : ℕ) (As Bs : Tys) (ts us : Terms) → t ≡ node (User n) As ts → t ≢ node (Base k) Bs us
user_symbol t n k As Bs ts us e f = cc

pub ruleset rows = (other_base, user_symbol)

pub More-one : (A : Ty) → More A Empty ≡ at_type A
More-one A = More-more A Empty

pub more_than_one : (A B C : Ty) (rest : Tys) → More A (More B rest) ≢ at_type C
more_than_one A B C rest e =
    let p : type_list (More A (More B rest)) ≡ A ∷ B ∷ type_list rest = type_list-More A (More B rest) ∙ ap (λ Bs. A ∷ Bs) (type_list-More B rest) in
    let q : A ∷ B ∷ type_list rest ≡ C ∷ [] = sym p ∙ ap type_list e in cc

pub ruleset one_type = (More-one, more_than_one, More-more)

-- the children of a node with one
pub not_one : (t : Term) (row : ℕ) (ts : List Term) → t ≡ node (Base row) Empty (terms ts) → ((P : Term) → ts ≢ P ∷ []) → (P : Term) → t ≢ node (Base row) Empty (cons P nil)
not_one t row ts e none P f = none P (sym (term_list-terms ts) ∙ ap term_list (let g : terms ts ≡ cons P nil = cc in g))

pub ruleset one_child = (not_one, other_base)

-- what an equation is at
pub equated_at : (A : Ty) (s t : Term) (As : Tys) → types_of (equation A s t) ≡ Some As → equated As ≡ A
equated_at Int s t As e = let p : at_type Int ≡ As = cc in sym (ap equated p)
equated_at Bool s t As e = let p : at_type Bool ≡ As = cc in sym (ap equated p)
equated_at Prop s t As e = let p : Empty ≡ As = cc in sym (ap equated p)
equated_at (Param i) s t As e = let p : at_type (Param i) ≡ As = cc in sym (ap equated p)
equated_at (pow A) s t As e = let p : at_type (pow A) ≡ As = cc in sym (ap equated p)
equated_at (prod A B) s t As e = let p : at_type (prod A B) ≡ As = cc in sym (ap equated p)
equated_at (Data n Bs) s t As e = let p : at_type (Data n Bs) ≡ As = cc in sym (ap equated p)

pub equation_types : (A : Ty) (s t : Term) → (As : Tys) × (types_of (equation A s t) ≡ Some As)
equation_types Int s t = (_, refl)
equation_types Bool s t = (_, refl)
equation_types Prop s t = (_, refl)
equation_types (Param i) s t = (_, refl)
equation_types (pow A) s t = (_, refl)
equation_types (prod A B) s t = (_, refl)
equation_types (Data n Bs) s t = (_, refl)

pub equation_found : (t l r : Term) (A : Ty) (As : Tys) → t ≡ equation A l r → Some As ≡ types_of t → (t ≡ equation (equated As) l r) × (types_of t ≡ Some As)
equation_found t l r A As e h =
    let p : equated As ≡ A = equated_at A l r As (ap types_of (sym e) ∙ sym h) in
    (e ∙ ap (λ B. equation B l r) (sym p), sym h)

pub equation_typed : (t l r : Term) (A : Ty) → t ≡ equation A l r → None ≡ types_of t → ⊥
equation_typed t l r A e h = let p = equation_types A l r in let q : None ≡ Some p.0 = h ∙ ap types_of e ∙ p.1 in cc

pub ruleset equations = (equation_found, equation_typed)

pub equation_eq : (A : Ty) (s t : Term) → A ≢ Prop → equation A s t ≡ eq A s t
equation_eq Int s t ne = refl
equation_eq Bool s t ne = refl
equation_eq Prop s t ne = absurd (ne refl)
equation_eq (Param i) s t ne = refl
equation_eq (pow A) s t ne = refl
equation_eq (prod A B) s t ne = refl
equation_eq (Data n Bs) s t ne = refl

pub iff_sides : (u l r : Term) → u ≡ iff l r → (A : Ty) × (u ≡ equation A l r)
iff_sides u l r e = (Prop, e)

pub eq_sides : (u l r : Term) (A : Ty) → u ≡ eq A l r → A ≢ Prop → (B : Ty) × (u ≡ equation B l r)
eq_sides u l r A e ne = (A, e ∙ sym (equation_eq A l r ne))

pub no_sides : (u : Term) → ((P Q : Term) → u ≢ iff P Q) → ((A : Ty) (s t : Term) → A ≢ Prop → u ≢ equation A s t) → (A : Ty) (s t : Term) → u ≢ equation A s t
no_sides u p q Int s t = q Int s t (λ e. cc)
no_sides u p q Bool s t = q Bool s t (λ e. cc)
no_sides u p q Prop s t = p s t
no_sides u p q (Param i) s t = q (Param i) s t (λ e. cc)
no_sides u p q (pow A) s t = q (pow A) s t (λ e. cc)
no_sides u p q (prod A B) s t = q (prod A B) s t (λ e. cc)
no_sides u p q (Data n Bs) s t = q (Data n Bs) s t (λ e. cc)

pub eq_prop : (u l r : Term) → u ≡ eq Prop l r → (A : Ty) (s t : Term) → A ≢ Prop → u ≢ equation A s t
eq_prop u l r e A s t ne f = ne (let g : eq Prop l r ≡ eq A s t = sym e ∙ f ∙ equation_eq A s t ne in let h : at_type Prop ≡ at_type A = cc in sym (ap equated h))

pub no_eq : (u : Term) → ((A : Ty) (s t : Term) → u ≢ eq A s t) → (A : Ty) (s t : Term) → A ≢ Prop → u ≢ equation A s t
no_eq u h A s t ne f = h A s t (f ∙ equation_eq A s t ne)

pub ruleset sides = (iff_sides, eq_sides, no_sides, eq_prop, no_eq)

pub if_none : {T P : Type 0} (o : Option T) → o ≡ None → P → IfNone o P
if_none None e p = p
if_none (Some x) e p = cc

pub not_bound : (u : Term) (row : ℕ) (As : Tys) (ts : List Term) (make : Ty → Term → Term) → u ≡ node (Base row) As (terms ts)
    → ((A : Ty) (P : Term) → node (Base row) (at_type A) (cons P nil) ≡ make A P) → ((P : Term) → ts ≢ P ∷ []) → (A : Ty) (P : Term) → u ≢ make A P
not_bound u row As ts make e is none A P f =
    let g : node (Base row) As (terms ts) ≡ node (Base row) (at_type A) (cons P nil) = sym e ∙ f ∙ sym (is A P) in
    none P (sym (term_list-terms ts) ∙ ap term_list (let h : terms ts ≡ cons P nil = cc in h))

pub not_related : (u : Term) (row : ℕ) (As : Tys) (ts : List Term) (make : Ty → Term → Term → Term) → u ≡ node (Base row) As (terms ts)
    → ((A : Ty) (s t : Term) → node (Base row) (at_type A) (cons s (cons t nil)) ≡ make A s t) → ((s t : Term) → ts ≢ s ∷ t ∷ []) → (A : Ty) (s t : Term) → u ≢ make A s t
not_related u row As ts make e is none A s t f =
    let g : node (Base row) As (terms ts) ≡ node (Base row) (at_type A) (cons s (cons t nil)) = sym e ∙ f ∙ sym (is A s t) in
    none s t (sym (term_list-terms ts) ∙ ap term_list (let h : terms ts ≡ cons s (cons t nil) = cc in h))
