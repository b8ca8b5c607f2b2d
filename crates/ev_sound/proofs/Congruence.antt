-- Congruence: equal terms for the variables of a term without direct operators give equal terms.
use Rattle.std.specs.Prelude.{◌≡◌, ◌≤◌, ◌++◌, ℕ, zero, suc, List, [], ◌∷◌, Some, map, length, take, reverse, IsSomeAnd, IsFalse, refl}
use Rattle.std.specs.List.{AllByRecursion}
use Rattle.std.proofs.Common.{ap, sym, ◌∙◌, subst as transport, arith}
use Rattle.ev_terms.specs.declared.types.Ty.{Ty}
use Rattle.ev_terms.specs.declared.types.Tys.{Tys}
use Rattle.ev_terms.specs.declared.types.Sym.{Sym}
use Rattle.ev_terms.specs.Types.{type_list}
use Rattle.ev_terms.specs.Term.{Term, Terms, var, lit, node, nil, cons, term_list}
use Rattle.ev_terms.specs.Symbols.{binds}
use Rattle.ev_terms.specs.Substitution.{shift, lift, lifts, inst, insts, entry, fill, type_inst, type_at}
use Rattle.ev_terms.proofs.ListLaws.{binds_le}
use Rattle.ev_forms.specs.Forms.{equation}
use Rattle.ev_typing.specs.declared.typing.Sequent.{Sequent}
use Rattle.ev_typing.specs.TypeLists.{types}
use Rattle.ev_typing.specs.Profiles.{Profile}
use Rattle.ev_typing.specs.Env.{Env, profile}
use Rattle.ev_typing.specs.Typing.{IsProper, AreProper, IsTypedNode, Typed, AreTyped, var_type, inside}
use Rattle.ev_typing.specs.Occurs.{IsPlain, ArePlain, is_direct}
use Rattle.ev_typing.specs.WellFormed.{IsWellFormed}
use Rattle.ev_typing.specs.Sequents.{◌⊢◌}
use Rattle.ev_typing.specs.BaseSequents.{widened}
use Rattle.ev_typing.proofs.Laws.{type_list-types, types-type_list}
use Rattle.ev_typing.proofs.Keeps.{var_here, var_later, inside_length}
use Rattle.ev_kernel.specs.declared.rules.BaseRule.TheVariants.{Cong}
use Rattle.ev_kernel.specs.Row.{AreEquated, at_children}
use Rattle.ev_kernel.specs.Derivable.{Derivable, AreDerivable, none, more}
use Rattle.ev_congruence.specs.Settings.{IsBaseContext}
use Rattle.ev_sound.specs.Equations.{AreEqual, AreAllEqual}
use Rattle.ev_congruence.proofs.Terms.{append_nil, equation_shift, proper_list, all_take, some_out}
use Rattle.ev_congruence.proofs.Contexts.{base_equation, are_equals, context_widened, map_shift_none, by_parts}
use Rattle.ev_sound.proofs.Derived.{base_of, by_row, same, lengthened}
use Rattle.ev_sound.proofs.Arguments.{PutEqual, equal_puts}

-- A context that is made longer by nothing.
pub widened_none : (S : Sequent) (G : Term) → (S ⊢ G) ≡ (widened S [] ⊢ G)
widened_none S G =
    by_parts S.context (types (type_list S.context ++ [])) S.hyps (map (λ P. shift P 0 0) S.hyps) G G
    (sym (ap types (append_nil (type_list S.context)) ∙ types-type_list S.context)) (sym (map_shift_none S.hyps)) refl

-- Equal terms in a longer context.
pub equal_lengthened : (env : Env) (S : Sequent) (Bs : List Ty) (A : Ty) (l r : Term) → AllByRecursion (IsProper env) Bs → AreEqual env S A l r →
    AreEqual env (widened S Bs) A (shift l 0 (length Bs)) (shift r 0 (length Bs))
equal_lengthened env S Bs A l r p d = transport (λ G. Derivable env (widened S Bs ⊢ G)) (equation_shift A l r 0 (length Bs)) (lengthened env (S ⊢ equation A l r) Bs p d)

-- Under one binder.
equal_lift : (env : Env) → IsWellFormed env → (S : Sequent) (B : Ty) (σ τ : ℕ → Term) (C : List Ty) → IsBaseContext env (widened S (B ∷ [])) → IsProper env B →
    PutEqual env S σ τ C → PutEqual env (widened S (B ∷ [])) (lift σ) (lift τ) (C ++ B ∷ [])
equal_lift env w S B σ τ C b p k zero A h =
    same env w (widened S (B ∷ [])) A (var 0) b
    (ap (λ D. var_type D 0) (type_list-types (type_list S.context ++ B ∷ [])) ∙ var_here (type_list S.context) B ∙ sym (var_here C B) ∙ h) tt
equal_lift env w S B σ τ C b p k (suc i) A h = equal_lengthened env S (B ∷ []) A (σ i) (τ i) (p, tt) (k i A (sym (var_later C B i) ∙ h))

equal_lifts : (env : Env) → IsWellFormed env → (S : Sequent) (Bs : List Ty) (σ τ : ℕ → Term) (C : List Ty) → length Bs ≤ 1 → IsBaseContext env (widened S Bs) → AllByRecursion (IsProper env) Bs →
    PutEqual env S σ τ C → PutEqual env (widened S Bs) (lifts (length Bs) σ) (lifts (length Bs) τ) (C ++ Bs)
equal_lifts env w S [] σ τ C n b p k i A h = transport (Derivable env) (widened_none S (equation A (σ i) (τ i))) (k i A (ap (λ D. var_type D i) (sym (append_nil C)) ∙ h))
equal_lifts env w S (B ∷ []) σ τ C n b p k i A h = equal_lift env w S B σ τ C b p.0 k i A h
equal_lifts env w S (B ∷ B' ∷ Bs) σ τ C n b p k i A h = absurd (omega arith)

equal_inside : (env : Env) → IsWellFormed env → (S : Sequent) (s : Sym) (As : Tys) (σ τ : ℕ → Term) (C : List Ty) → length (take (binds s) (type_list As)) ≡ binds s → IsBaseContext env (at_children S s As) →
    AllByRecursion (IsProper env) (take (binds s) (type_list As)) → PutEqual env S σ τ C → PutEqual env (at_children S s As) (lifts (binds s) σ) (lifts (binds s) τ) (inside C s As)
equal_inside env w S s As σ τ C n b p k =
    transport (λ m. PutEqual env (at_children S s As) (lifts m σ) (lifts m τ) (inside C s As)) n
    (equal_lifts env w S (take (binds s) (type_list As)) σ τ C (omega (arith, n, binds_le s)) b p k)

-- Children of these types that are equal one by one.
pub record AreEqualChildren (env : Env) (S : Sequent) (As : List Ty) (cs ds : Terms) : Type 0 where
  pub premises : List Sequent
  pub equated : AreEquated S (term_list cs) (term_list ds) premises
  pub derivable : AreDerivable env premises
  pub left : AreTyped env (type_list S.context) cs As
  pub right : AreTyped env (type_list S.context) ds As
  pub left_plain : ArePlain env cs
  pub right_plain : ArePlain env ds

pub no_children : (env : Env) (S : Sequent) → AreEqualChildren env S [] nil nil
no_children env S = record { premises = []; equated = tt; derivable = none; left = tt; right = tt; left_plain = tt; right_plain = tt }

pub one_more : (env : Env) (S : Sequent) (A : Ty) (As : List Ty) (c d : Term) (cs ds : Terms) → AreEqual env S A c d → AreEqualChildren env S As cs ds → AreEqualChildren env S (A ∷ As) (cons c cs) (cons d ds)
one_more env S A As c d cs ds h k =
    let q = are_equals env S A c d (base_of env (S ⊢ equation A c d) h) in record {
      premises = (S ⊢ equation A c d) ∷ k.premises;
      equated = ((A, refl), k.equated);
      derivable = more (S ⊢ equation A c d) k.premises h k.derivable;
      left = (q.sides.left, k.left);
      right = (q.sides.right, k.right);
      left_plain = (q.left_plain, k.left_plain);
      right_plain = (q.right_plain, k.right_plain);
    }

-- A symbol on children of its types.
pub node_typed : (env : Env) (S : Sequent) (s : Sym) (As : Tys) (q : Profile) (A : Ty) (cs : Terms) → profile env s ≡ Some q → length (type_list As) ≡ q.params → AreProper env As → A ≡ type_inst (type_at As) q.result →
    AreTyped env (type_list (at_children S s As).context) cs (map (type_inst (type_at As)) q.args) → Typed env (type_list S.context) (node s As cs) A
node_typed env S s As q A cs e n p r h =
    transport (λ o. IsSomeAnd o (λ x. IsTypedNode env As x A (AreTyped env (inside (type_list S.context) s As) cs (map (type_inst (type_at As)) x.args)))) (sym e)
    (record {
      count = n;
      proper = p;
      children = transport (λ D. AreTyped env D cs (map (type_inst (type_at As)) q.args)) (type_list-types (inside (type_list S.context) s As)) h;
      result = r;
    })

-- One symbol at the same types on equal children.
pub equal_node : (env : Env) → IsWellFormed env → (S : Sequent) (s : Sym) (As : Tys) (q : Profile) (A : Ty) (cs ds : Terms) → IsBaseContext env S → IsFalse (is_direct env s) →
    profile env s ≡ Some q → length (type_list As) ≡ q.params → AreProper env As → A ≡ type_inst (type_at As) q.result →
    AreEqualChildren env (at_children S s As) (map (type_inst (type_at As)) q.args) cs ds → AreEqual env S A (node s As cs) (node s As ds)
equal_node env w S s As q A cs ds b f e n p r k =
    by_row env k.premises Cong (S ⊢ equation A (node s As cs) (node s As ds)) (A, node s As cs, node s As ds, refl, (s, As, cs, ds, refl, refl, k.equated))
    (base_equation env w S A (node s As cs) (node s As ds) b (node_typed env S s As q A cs e n p r k.left) (node_typed env S s As q A ds e n p r k.right) (f, k.left_plain) (f, k.right_plain)) k.derivable

-- the context of a symbol's children
pub children_context : (env : Env) (S : Sequent) (s : Sym) (As : Tys) → IsBaseContext env S → AllByRecursion (IsProper env) (type_list As) → IsBaseContext env (at_children S s As)
children_context env S s As b p = context_widened env S (take (binds s) (type_list As)) b (all_take (IsProper env) (binds s) (type_list As) p)

module _ (env : Env) (w : IsWellFormed env) where
  mutual
    pub equal_inst : (t : Term) (S : Sequent) (σ τ : ℕ → Term) (C : List Ty) (A : Ty) → IsBaseContext env S → PutEqual env S σ τ C → Typed env C t A → IsPlain env t → AreEqual env S A (inst σ t) (inst τ t)
    equal_inst (var i) S σ τ C A b k h p = k i A h
    equal_inst (lit n) S σ τ C A b k h p = same env w S A (lit n) b h tt
    equal_inst (node s As ts) S σ τ C A b k h p =
        some_out (profile env s) (λ q e g.
        let proper = proper_list env As g.proper in
        let n = inside_length env s As q e g.count in
        let c = children_context env S s As b proper in
        equal_node env w S s As q A (insts (lifts (binds s) σ) ts) (insts (lifts (binds s) τ) ts) b p.0 e g.count g.proper g.result
        (equal_insts ts (at_children S s As) (lifts (binds s) σ) (lifts (binds s) τ) (inside C s As) (map (type_inst (type_at As)) q.args) c
        (equal_inside env w S s As σ τ C n c (all_take (IsProper env) (binds s) (type_list As) proper) k) g.children p.1)) h

    pub equal_insts : (ts : Terms) (S : Sequent) (σ τ : ℕ → Term) (C As : List Ty) → IsBaseContext env S → PutEqual env S σ τ C → AreTyped env C ts As → ArePlain env ts →
        AreEqualChildren env S As (insts σ ts) (insts τ ts)
    equal_insts nil S σ τ C [] b k h p = no_children env S
    equal_insts nil S σ τ C (A ∷ As) b k h p = absurd h
    equal_insts (cons t ts) S σ τ C [] b k h p = absurd h
    equal_insts (cons t ts) S σ τ C (A ∷ As) b k h p =
        one_more env S A As (inst σ t) (inst τ t) (insts σ ts) (insts τ ts) (equal_inst t S σ τ C A b k h.0 p.0) (equal_insts ts S σ τ C As b k h.1 p.1)

  -- Equal terms put for the variables of a body.
  pub congruence : (S : Sequent) (Cs : List Ty) (us vs : List Term) (B : Term) (A : Ty) → IsBaseContext env S → AreAllEqual env S Cs us vs → Typed env Cs B A → IsPlain env B → AreEqual env S A (fill B us) (fill B vs)
  congruence S Cs us vs B A b k h p = equal_inst B S (entry (reverse us)) (entry (reverse vs)) Cs A b (equal_puts env S Cs us vs k) h p
