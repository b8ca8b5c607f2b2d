-- Equations as the code makes them, and those between the children of two terms.
use Rattle.std.specs.Prelude.{◌≡◌, ◌<◌, ◌≤◌, ◌+◌, ◌++◌, ℕ, suc, List, [], ◌∷◌, Option, Some, None, length, drop, option_map, IfOk, Result, Ok, Err, refl}
use Rattle.std.specs.List.{AllByRecursion}
use Rattle.std.proofs.Common.{ap, sym, ◌∙◌, subst as transport, arith, get_or, append_assoc}
use Rattle.ev_terms.specs.declared.types.Ty.{Ty, Int, Bool, Prop, Param, Data}
use Rattle.ev_terms.specs.declared.types.Tys.{Tys, Empty}
use Rattle.ev_terms.specs.declared.types.Tys.TheVariants.{More}
use Rattle.ev_terms.specs.Types.{pow, prod, type_list, More-more}
use Rattle.ev_terms.specs.declared.types.Sym.{Sym}
use Rattle.ev_terms.specs.Term.{Term, node, cons, nil, terms, term_list, term_list-terms}
use Rattle.ev_terms.specs.Symbols.{binds}
use Rattle.ev_forms.specs.Base.{at_type, equal_sym, iff_sym}
use Rattle.ev_forms.specs.Binders.{equated}
use Rattle.ev_forms.specs.Forms.{equation, eq, iff}
use Rattle.ev_forms.proofs.FormViews.{equation_eq}
use Rattle.ev_typing.specs.declared.typing.Sequent.{Sequent}
use Rattle.ev_typing.specs.Env.{Env}
use Rattle.ev_typing.specs.Sequents.{◌⊢◌}
use Rattle.ev_typing.specs.Typing.{Typed, AreTyped, IsTypedNode, IsSequent, inside}
use Rattle.ev_typing.proofs.Checks.{inside_none}
use Rattle.ev_typing.proofs.Laws.{Typed-unique}
use Rattle.ev_typing.proofs.Names.{drop_at, drop_all}
use Rattle.ev_data.proofs.Lists.{append_nil}
use Rattle.ev_kernel.specs.declared.rules.BaseRule.TheVariants.{Cong, Sym as Symmetry}
use Rattle.ev_kernel.specs.Row.{Row, AreEquated, AreCongruent, at_children}
use Rattle.ev_kernel.proofs.Equations.{same_sides}
use Rattle.ev_replay.specs.inner.Finding.{Only, OnlyAmong}
use Rattle.ev_replay.proofs.Forms.{one_equation}

pub equated_more : (list rest : Tys) (A got : Ty) → list ≡ More A rest → got ≡ A → got ≡ equated list
equated_more list rest A got e f = f ∙ sym (ap equated (e ∙ More-more A rest))

pub ruleset equations = (equation_eq, equated_more)

-- The left side of a typed equation has the equation's type.
equal_binds : binds equal_sym ≡ 0
unfolding binds
equal_binds = refl

iff_binds : binds iff_sym ≡ 0
unfolding binds
iff_binds = refl

eq_left : (env : Env) (C : List Ty) (A : Ty) (s t : Term) (B : Ty) → Typed env C (eq A s t) B → Typed env C s A
eq_left env C A s t B h = by h
  where
    by : IsTypedNode env (at_type A) (record { params = 1; args = Param 0 ∷ Param 0 ∷ []; result = Prop }) B (AreTyped env (inside C equal_sym (at_type A)) (cons s (cons t nil)) (A ∷ A ∷ [])) → Typed env C s A
    by r = (transport (λ D. AreTyped env D (cons s (cons t nil)) (A ∷ A ∷ [])) (sym (inside_none C equal_sym (at_type A) equal_binds)) r.children).0

iff_left : (env : Env) (C : List Ty) (s t : Term) (B : Ty) → Typed env C (iff s t) B → Typed env C s Prop
iff_left env C s t B h = by h
  where
    by : IsTypedNode env Empty (record { params = 0; args = Prop ∷ Prop ∷ []; result = Prop }) B (AreTyped env (inside C iff_sym Empty) (cons s (cons t nil)) (Prop ∷ Prop ∷ [])) → Typed env C s Prop
    by r = (transport (λ D. AreTyped env D (cons s (cons t nil)) (Prop ∷ Prop ∷ [])) (sym (inside_none C iff_sym Empty iff_binds)) r.children).0

pub equation_left : (env : Env) (C : List Ty) (A : Ty) (s t : Term) (B : Ty) → Typed env C (equation A s t) B → Typed env C s A
equation_left env C Int s t B h = eq_left env C Int s t B h
equation_left env C Bool s t B h = eq_left env C Bool s t B h
equation_left env C Prop s t B h = iff_left env C s t B h
equation_left env C (Param i) s t B h = eq_left env C (Param i) s t B h
equation_left env C (pow A) s t B h = eq_left env C (pow A) s t B h
equation_left env C (prod A D) s t B h = eq_left env C (prod A D) s t B h
equation_left env C (Data n As) s t B h = eq_left env C (Data n As) s t B h

-- The equations between the children, of which the well-typed ones are looked for.
abbrev pub Equate : Env → Sequent → List Term → List Term → Option (List Sequent) → Type 0
Equate env S ls rs o = OnlyAmong (AllByRecursion (IsSequent env)) (AreEquated S ls rs) o

pub equate_end : (env : Env) (S : Sequent) → Equate env S [] [] (Some [])
equate_end env S = (tt, none)
  where
    none : (y : List Sequent) → AreEquated S [] [] y → AllByRecursion (IsSequent env) y → y ≡ []
    none [] h k = refl
    none (p ∷ ps) h k = absurd h

pub equate_lengths : (env : Env) (S : Sequent) (ls rs : List Term) → ¬ (length ls ≡ length rs) → Equate env S ls rs None
equate_lengths env S ls rs n ps h k = n (same ls rs ps h)
  where
    same : (ls rs : List Term) (ps : List Sequent) → AreEquated S ls rs ps → length ls ≡ length rs
    same [] [] ps h = refl
    same [] (r ∷ rs) ps h = absurd h
    same (l ∷ ls) [] ps h = absurd h
    same (l ∷ ls) (r ∷ rs) [] h = absurd h
    same (l ∷ ls) (r ∷ rs) (p ∷ ps) h = ap suc (same ls rs ps h.1)

left_of : (env : Env) (S p : Sequent) (l r : Term) (B : Ty) → p ≡ (S ⊢ equation B l r) → IsSequent env p → Typed env (type_list S.context) l B
left_of env S p l r B e h = equation_left env (type_list S.context) B l r Prop (transport (IsSequent env) e h).goal

pub equate_untyped : (env : Env) (S : Sequent) (l r : Term) (ls rs : List Term) → ((A : Ty) → ¬ Typed env (type_list S.context) l A) → Equate env S (l ∷ ls) (r ∷ rs) None
equate_untyped env S l r ls rs n [] h k = absurd h
equate_untyped env S l r ls rs n (p ∷ ps) h k = n h.0.0 (left_of env S p l r h.0.0 h.0.1 k.0)

pub equate_step : (env : Env) (S : Sequent) (l r : Term) (ls rs : List Term) (A : Ty) (o : Option (List Sequent)) → Typed env (type_list S.context) l A
    → Equate env S ls rs o → Equate env S (l ∷ ls) (r ∷ rs) (option_map (λ gs. (S ⊢ equation A l r) ∷ gs) o)
equate_step env S l r ls rs A None t h = never
  where
    never : (y : List Sequent) → AreEquated S (l ∷ ls) (r ∷ rs) y → ¬ AllByRecursion (IsSequent env) y
    never [] f k = absurd f
    never (p ∷ ps) f k = h ps f.1 k.1
equate_step env S l r ls rs A (Some gs) t h = (((A, refl), h.0), only)
  where
    only : (y : List Sequent) → AreEquated S (l ∷ ls) (r ∷ rs) y → AllByRecursion (IsSequent env) y → y ≡ (S ⊢ equation A l r) ∷ gs
    only [] f k = absurd f
    only (p ∷ ps) f k =
        let same : f.0.0 ≡ A = Typed-unique env (type_list S.context) l f.0.0 A (left_of env S p l r f.0.0 f.0.1 k.0) t in
        ap (λ q. q ∷ ps) (f.0.1 ∙ ap (λ B. (S ⊢ equation B l r)) same) ∙ ap (λ qs. (S ⊢ equation A l r) ∷ qs) (h.1 ps f.1 k.1)

pub equate_next : (env : Env) (S : Sequent) (ls rs : List Term) (i : ℕ) (l r : Term) (g : Sequent) (gs new : List Sequent)
    → i < length ls → length ls ≡ length rs → l ≡ get_or ls i l → r ≡ get_or rs i r
    → (A : Ty) × Typed env (type_list S.context) l A × (g ≡ (S ⊢ equation A l r)) → new ≡ gs ++ g ∷ []
    → ((o : Option (List Sequent)) → Equate env S (drop i ls) (drop i rs) o → Equate env S ls rs (option_map (λ hs. gs ++ hs) o))
    → (o : Option (List Sequent)) → Equate env S (drop (i + 1) ls) (drop (i + 1) rs) o → Equate env S ls rs (option_map (λ hs. new ++ hs) o)
equate_next env S ls rs i l r g gs new h n e f (A, t, k) m goes o q =
    let step = equate_step env S l r (drop (i + 1) ls) (drop (i + 1) rs) A o t q in
    let here : Equate env S (drop i ls) (drop i rs) (option_map (λ hs. (S ⊢ equation A l r) ∷ hs) o) =
    rw (drop_at ls i l e h) (rw (drop_at rs i r f (omega (arith, h, n))) step) in
    transport (Equate env S ls rs) (joined o) (goes (option_map (λ hs. (S ⊢ equation A l r) ∷ hs) o) here)
  where
    joined : (o : Option (List Sequent)) → option_map (λ hs. gs ++ hs) (option_map (λ hs. (S ⊢ equation A l r) ∷ hs) o) ≡ option_map (λ hs. new ++ hs) o
    joined None = refl
    joined (Some hs) = ap Some (sym (ap (λ xs. xs ++ hs) m ∙ append_assoc gs (g ∷ []) hs ∙ ap (λ x. gs ++ x ∷ hs) k))

pub equate_stops : (env : Env) (S : Sequent) (ls rs : List Term) (i : ℕ) (l r : Term) (gs : List Sequent)
    → i < length ls → length ls ≡ length rs → l ≡ get_or ls i l → r ≡ get_or rs i r → ((A : Ty) → ¬ Typed env (type_list S.context) l A)
    → ((o : Option (List Sequent)) → Equate env S (drop i ls) (drop i rs) o → Equate env S ls rs (option_map (λ hs. gs ++ hs) o)) → Equate env S ls rs None
equate_stops env S ls rs i l r gs h n e f t goes =
    goes None (rw (drop_at ls i l e h) (rw (drop_at rs i r f (omega (arith, h, n))) (equate_untyped env S l r (drop (i + 1) ls) (drop (i + 1) rs) t)))

pub equate_whole : (env : Env) (S : Sequent) (ls rs : List Term) (i : ℕ) (gs : List Sequent) → length ls ≤ i → length ls ≡ length rs
    → ((o : Option (List Sequent)) → Equate env S (drop i ls) (drop i rs) o → Equate env S ls rs (option_map (λ hs. gs ++ hs) o)) → Equate env S ls rs (Some gs)
equate_whole env S ls rs i gs h n goes =
    transport (λ xs. Equate env S ls rs (Some xs)) (append_nil gs)
    (goes (Some []) (rw (drop_all ls i h) (rw (drop_all rs i (omega (arith, h, n))) (equate_end env S))))

-- The two sides at one symbol.
beside : (X : Sequent) (G : Term) (ls rs : List Term) (ps : List Sequent) → AreEquated (X ⊢ G) ls rs ps → AreEquated X ls rs ps
beside X G [] [] [] h = h
beside X G [] [] (p ∷ ps) h = h
beside X G [] (r ∷ rs) ps h = h
beside X G (l ∷ ls) [] ps h = h
beside X G (l ∷ ls) (r ∷ rs) [] h = h
beside X G (l ∷ ls) (r ∷ rs) (p ∷ ps) h = (h.0, beside X G ls rs ps h.1)

besides : (X : Sequent) (G : Term) (ls rs : List Term) (ps : List Sequent) → AreEquated X ls rs ps → AreEquated (X ⊢ G) ls rs ps
besides X G [] [] [] h = h
besides X G [] [] (p ∷ ps) h = h
besides X G [] (r ∷ rs) ps h = h
besides X G (l ∷ ls) [] ps h = h
besides X G (l ∷ ls) (r ∷ rs) [] h = h
besides X G (l ∷ ls) (r ∷ rs) (p ∷ ps) h = (h.0, besides X G ls rs ps h.1)

-- an answer about one property is one about another that says the same
pub among_both : {X E : Type 0} (Kind P Q : X → Type 0) (r : Result (Option X) E) → ((x : X) → P x → Q x) → ((x : X) → Q x → P x)
    → IfOk r (OnlyAmong Kind P) → IfOk r (OnlyAmong Kind Q)
among_both Kind P Q (Ok None) to from h = λ x q. h x (from x q)
among_both Kind P Q (Ok (Some x)) to from h = (to x h.0, λ y q. h.1 y (from y q))
among_both Kind P Q (Err e) to from h = h

pub congruent_at : {E : Type 0} (env : Env) (S W : Sequent) (t u : Term) (s s' : Sym) (As As' : Tys) (ls rs : List Term) (r : Result (Option (List Sequent)) E)
    → t ≡ node s As (terms ls) → u ≡ node s' As' (terms rs) → s ≡ s' → As ≡ As' → W ≡ (at_children S s As ⊢ S.goal)
    → IfOk r (OnlyAmong (AllByRecursion (IsSequent env)) (AreEquated W ls rs)) → IfOk r (OnlyAmong (AllByRecursion (IsSequent env)) (AreCongruent S t u))
congruent_at env S W t u s s' As As' ls rs r e f p q w h =
    among_both (AllByRecursion (IsSequent env)) (AreEquated W ls rs) (AreCongruent S t u) r to from h
  where
    to : (ps : List Sequent) → AreEquated W ls rs ps → AreCongruent S t u ps
    to ps k = (
      s,
      As,
      terms ls,
      terms rs,
      e,
      f ∙ ap (λ x. node x As' (terms rs)) (sym p) ∙ ap (λ x. node s x (terms rs)) (sym q),
      rw (term_list-terms ls) (rw (term_list-terms rs) (beside (at_children S s As) S.goal ls rs ps (transport (λ X. AreEquated X ls rs ps) w k))),
    )

    from : (ps : List Sequent) → AreCongruent S t u ps → AreEquated W ls rs ps
    from ps (z, Bs, cs, ds, a, b, k) =
        let x : node z Bs cs ≡ node s As (terms ls) = sym a ∙ e in
        let y : node z Bs ds ≡ node s' As' (terms rs) = sym b ∙ f in
        let zs : z ≡ s = cc in
        let bs : Bs ≡ As = cc in
        let l : term_list cs ≡ ls = ap term_list (let c : cs ≡ terms ls = cc in c) ∙ term_list-terms ls in
        let m : term_list ds ≡ rs = ap term_list (let d : ds ≡ terms rs = cc in d) ∙ term_list-terms rs in
        transport (λ X. AreEquated X ls rs ps) (sym w)
        (besides (at_children S s As) S.goal ls rs ps
        (transport (λ v. AreEquated (at_children S v As) ls rs ps) zs (transport (λ v. AreEquated (at_children S z v) ls rs ps) bs
        (transport (λ v. AreEquated (at_children S z Bs) v rs ps) l (transport (λ v. AreEquated (at_children S z Bs) (term_list cs) v ps) m k)))))

pub congruence_at : {E : Type 0} (env : Env) (S : Sequent) (A : Ty) (t u : Term) (r : Result (Option (List Sequent)) E) → S.goal ≡ equation A t u
    → IfOk r (OnlyAmong (AllByRecursion (IsSequent env)) (AreCongruent S t u)) → IfOk r (OnlyAmong (AllByRecursion (IsSequent env)) (λ gs. Row env gs Cong S))
congruence_at env S A t u r e h =
    among_both (AllByRecursion (IsSequent env)) (AreCongruent S t u) (λ gs. Row env gs Cong S) r (λ ps k. (A, t, u, e, k)) from h
  where
    from : (ps : List Sequent) → Row env ps Cong S → AreCongruent S t u ps
    from ps (B, v, w, f, k) =
        let same = same_sides B A v w t u (sym f ∙ e) in
        transport (λ x. AreCongruent S x u ps) same.0 (transport (λ x. AreCongruent S v x ps) same.1 k)

-- The sides exchanged.
pub exchanged : (S : Sequent) (A : Ty) (l r : Term) (gs : List Sequent) → S.goal ≡ equation A l r → gs ≡ (S ⊢ equation A r l) ∷ [] → Only (λ hs. Row [] hs Symmetry S) (Some gs)
exchanged S A l r gs e f = (
  (A, r, l, record { concludes = e; premises_are = f }),
  λ hs (B, s, t, k).
      let g : equation B t s ≡ equation A l r = sym k.concludes ∙ e in
      let same = same_sides B A t s l r g in
      k.premises_are ∙ ap (λ X. (S ⊢ equation X s t) ∷ []) (one_equation B A t s l r g) ∙ ap (λ x. (S ⊢ equation A x t) ∷ []) same.1 ∙ ap (λ x. (S ⊢ equation A r x) ∷ []) same.0 ∙ sym f,
)
