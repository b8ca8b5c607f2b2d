-- A line that equates two terms, in a longer context.
use Rattle.std.specs.Prelude.{◌≡◌, ◌+◌, ◌<◌, ◌≤◌, ◌++◌, ◌^◌, ℕ, zero, suc, List, [], ◌∷◌, Option, Some, map, max, length, get_or, refl}
use Rattle.std.proofs.Common.{ap, sym, ◌∙◌, subst as transport, arith}
use Rattle.std.proofs.lemmas.List.{length-append}
use Rattle.ev_terms.specs.declared.types.Ty.{Ty, Int, Bool, Prop, Param, Data}
use Rattle.ev_terms.specs.declared.types.Tys.{Tys}
use Rattle.ev_terms.specs.Types.{pow, prod, type_list}
use Rattle.ev_terms.specs.Term.{Term}
use Rattle.ev_terms.specs.Measures.{highest}
use Rattle.ev_terms.specs.Substitution.{shift}
use Rattle.ev_terms.proofs.Laws.{shift-zero}
use Rattle.ev_forms.specs.Forms.{equation}
use Rattle.ev_typing.specs.declared.typing.Sequent.{Sequent}
use Rattle.ev_typing.specs.TypeLists.{types}
use Rattle.ev_typing.specs.Sequents.{◌⊢◌}
use Rattle.ev_typing.specs.BaseSequents.{widened}
use Rattle.ev_typing.proofs.Laws.{type_list-types, types-type_list}
use Rattle.ev_typing.specs.Env.{Env}
use Rattle.ev_kernel.specs.declared.rules.Line.{Line}
use Rattle.ev_congruence.specs.Growing.{concluded}
use Rattle.ev_congruence.specs.Settings.{IsBaseContext, AreAlike}
use Rattle.ev_congruence.specs.Equating.{Equates}
use Rattle.ev_congruence.specs.inner.Inside.{IsIndex, AreAllAlike}
use Rattle.ev_congruence.proofs.Terms.{append_nil, equation_shift}
use Rattle.ev_congruence.proofs.Contexts.{by_parts, map_shift_none}

equation_highest : (A : Ty) (l r : Term) → highest (equation A l r) ≡ max (highest l) (max (highest r) 0)
equation_highest Int l r = refl
equation_highest Bool l r = refl
equation_highest Prop l r = refl
equation_highest (Param i) l r = refl
equation_highest (pow A) l r = refl
equation_highest (prod A B) l r = refl
equation_highest (Data n As) l r = refl

pub found_equation : (ls : List Line) (S : Sequent) (l r : Term) (n : ℕ) (F : Sequent) → concluded ls n ≡ Some F → (e : Equates ls S l r n) → F ≡ (S ⊢ equation e.ty l r)
found_equation ls S l r n F h e = let q : ◌≡◌ {A = Option Sequent} (Some F) (Some (S ⊢ equation e.ty l r)) = sym h ∙ e.line in cc

shifted_goal : (S F : Sequent) (A : Ty) (l r : Term) (k : ℕ) → F ≡ (S ⊢ equation A l r) → shift F.goal 0 k ≡ equation A (shift l 0 k) (shift r 0 k)
shifted_goal S F A l r k e = ap (λ (x : Sequent). shift x.goal 0 k) e ∙ equation_shift A l r 0 k

pub brought_low : (S F : Sequent) (A : Ty) (l r : Term) (k : ℕ) → F ≡ (S ⊢ equation A l r) → highest (shift l 0 k) ≤ 2 ^ 32 → highest (shift r 0 k) ≤ 2 ^ 32 → highest (shift F.goal 0 k) ≤ 2 ^ 32
brought_low S F A l r k e g h =
    let p : highest (shift F.goal 0 k) ≡ max (highest (shift l 0 k)) (max (highest (shift r 0 k)) 0) = ap highest (shifted_goal S F A l r k e) ∙ equation_highest A (shift l 0 k) (shift r 0 k) in
    omega (arith, p)

pub inside_length : (S T : Sequent) (k : ℕ) → IsIndex S T k → length (type_list T.context) ≡ length (type_list S.context) + k
inside_length S T k i =
    ap (λ C. length (type_list C)) i.context ∙ ap length (type_list-types (type_list S.context ++ i.bound)) ∙ length-append (type_list S.context) i.bound
    ∙ ap (λ n. length (type_list S.context) + n) i.are

pub brought_widened : (S T F : Sequent) (A : Ty) (l r : Term) (k : ℕ) (C : Tys) (H : List Term) (G : Term) → (i : IsIndex S T k) → F ≡ (S ⊢ equation A l r) → C ≡ T.context → H ≡ T.hyps → G ≡ shift F.goal 0 k →
    ◌≡◌ {A = Sequent} (record { context = C; hyps = H; goal = G }) (widened F i.bound)
brought_widened S T F A l r k C H G i e f g h =
    by_parts C (types (type_list F.context ++ i.bound)) H (map (λ P. shift P 0 (length i.bound)) F.hyps) G (shift F.goal 0 (length i.bound))
    (f ∙ i.context ∙ ap (λ (x : Sequent). types (type_list x.context ++ i.bound)) (sym e))
    (g ∙ i.hyps ∙ ap (λ n. map (λ P. shift P 0 n) S.hyps) (sym i.are) ∙ ap (λ (x : Sequent). map (λ P. shift P 0 (length i.bound)) x.hyps) (sym e))
    (h ∙ ap (λ n. shift F.goal 0 n) (sym i.are))

pub brought_line : (ls : List Line) (S T F : Sequent) (A : Ty) (l r : Term) (k n : ℕ) (C : Tys) (H : List Term) (G : Term) → F ≡ (S ⊢ equation A l r) → C ≡ T.context → H ≡ T.hyps → G ≡ shift F.goal 0 k →
    concluded ls n ≡ Some (record { context = C; hyps = H; goal = G }) → Equates ls T (shift l 0 k) (shift r 0 k) n
brought_line ls S T F A l r k n C H G e f g h c = record {
  ty = A;
  line = c ∙ ap Some (by_parts C T.context H T.hyps G (equation A (shift l 0 k) (shift r 0 k)) f g (h ∙ shifted_goal S F A l r k e));
}

-- in the same context
inside_none : (S T : Sequent) (k : ℕ) (G : Term) → IsIndex S T k → k ≡ 0 → (S ⊢ G) ≡ (T ⊢ G)
inside_none S T k G i z =
    by_parts S.context T.context S.hyps T.hyps G G
    (sym (i.context ∙ ap (λ Bs. types (type_list S.context ++ Bs)) (no_bound i.bound (i.are ∙ z)) ∙ ap types (append_nil (type_list S.context)) ∙ types-type_list S.context))
    (sym (i.hyps ∙ ap (λ n. map (λ P. shift P 0 n) S.hyps) z ∙ map_shift_none S.hyps)) refl
  where
    no_bound : (Bs : List Ty) → length Bs ≡ 0 → Bs ≡ []
    no_bound [] h = refl
    no_bound (B ∷ Bs) h = absurd (omega arith)

pub line_stays : (ls : List Line) (S T : Sequent) (l r : Term) (k n : ℕ) → IsIndex S T k → k ≡ 0 → Equates ls S l r n → Equates ls T (shift l 0 k) (shift r 0 k) n
line_stays ls S T l r k n i z e =
    let a : l ≡ shift l 0 k = sym (ap (shift l 0) z ∙ shift-zero l 0) in
    let b : r ≡ shift r 0 k = sym (ap (shift r 0) z ∙ shift-zero r 0) in
    transport (λ u. Equates ls T u (shift r 0 k) n) a
    (transport (λ u. Equates ls T l u n) b
    (record { ty = e.ty; line = e.line ∙ ap Some (inside_none S T k (equation e.ty l r) i z) }))

-- items of lists
pub read_any : {X : Type 0} (xs : List X) (i : ℕ) (d : X) → i < length xs → get_or xs i d ≡ get_or xs i (get_or xs i d)
read_any {X = X} [] i d h = absurd (omega arith)
read_any {X = X} (x ∷ xs) zero d h = refl
read_any {X = X} (x ∷ xs) (suc i) d h = by (get_or xs i d) (read_any xs i d (omega arith))
  where
    by : (y : X) → y ≡ get_or xs i y → y ≡ get_or (x ∷ xs) (suc i) y
    by y e = e

pub alike_at : (env : Env) (C : List Ty) (ls rs : List Term) (i : ℕ) (l r : Term) → AreAllAlike env C ls rs → i < length ls → l ≡ get_or ls i l → r ≡ get_or rs i r → AreAlike env C l r
alike_at env C [] rs i l r h k e f = absurd (omega arith)
alike_at env C (x ∷ ls) [] i l r h k e f = absurd h
alike_at env C (x ∷ ls) (y ∷ rs) zero l r h k e f = transport (λ u. AreAlike env C u r) (sym e) (transport (λ u. AreAlike env C x u) (sym f) h.0)
alike_at env C (x ∷ ls) (y ∷ rs) (suc i) l r h k e f = alike_at env C ls rs i l r h.1 (omega arith) e f

pub context_parts : (env : Env) (T : Sequent) (C : Tys) (H : List Term) (G : Term) → C ≡ T.context → H ≡ T.hyps → IsBaseContext env T → IsBaseContext env (record { context = C; hyps = H; goal = G })
context_parts env T C H G e f b =
    transport (λ x. IsBaseContext env (record { context = x; hyps = H; goal = G })) (sym e)
    (transport (λ x. IsBaseContext env (record { context = T.context; hyps = x; goal = G })) (sym f) (record { proper = b.proper; hyps = b.hyps; plain = b.plain }))
