-- The same terms on both sides but for one.
use Rattle.std.specs.Prelude.{◌≡◌, ◌<◌, ℕ, zero, suc, List, [], ◌∷◌, Option, Some, None, map, length, slice_set, refl}
use Rattle.std.proofs.Common.{ap, sym, ◌∙◌, subst as transport, arith}
use Rattle.ev_terms.specs.declared.types.Tys.{Tys}
use Rattle.ev_terms.specs.declared.types.Sym.{Sym}
use Rattle.ev_terms.specs.Term.{Term, node, terms}
use Rattle.ev_terms.specs.Substitution.{entry}
use Rattle.ev_forms.specs.Forms.{equation}
use Rattle.ev_typing.specs.declared.typing.Sequent.{Sequent}
use Rattle.ev_typing.specs.Sequents.{◌⊢◌}
use Rattle.ev_kernel.specs.declared.rules.Line.{Line}
use Rattle.ev_congruence.specs.Equating.{Equates, AreSettled}

settled_none : (ls : List Line) (S : Sequent) (ts : List Term) → AreSettled ls S ts ts (map (λ t. None) ts)
settled_none ls S [] = tt
settled_none ls S (t ∷ ts) = (refl, settled_none ls S ts)

pub settled_but_one : (ls : List Line) (S : Sequent) (ts : List Term) (i : ℕ) (new : Term) (n : ℕ) → i < length ts → Equates ls S (entry ts i) new n →
    AreSettled ls S ts (slice_set ts i new) (slice_set (map (λ t. None) ts) i (Some n))
settled_but_one ls S [] i new n h e = absurd (omega arith)
settled_but_one ls S (t ∷ ts) zero new n h e = (e, settled_none ls S ts)
settled_but_one ls S (t ∷ ts) (suc i) new n h e = (refl, settled_but_one ls S ts i new n (omega arith) e)

pub equates_beside : (ls : List Line) (S T : Sequent) (l r : Term) (n : ℕ) → ((G : Term) → (S ⊢ G) ≡ (T ⊢ G)) → Equates ls S l r n → Equates ls T l r n
equates_beside ls S T l r n k e = record { ty = e.ty; line = e.line ∙ ap Some (k (equation e.ty l r)) }

pub settled_lists : (ls : List Line) (S : Sequent) (us vs us' vs' : List Term) (os os' : List (Option ℕ)) → us' ≡ us → vs' ≡ vs → os' ≡ os → AreSettled ls S us vs os → AreSettled ls S us' vs' os'
settled_lists ls S us vs us' vs' os os' e f g h =
    transport (λ w. AreSettled ls S w vs' os') (sym e) (transport (λ w. AreSettled ls S us w os') (sym f) (transport (AreSettled ls S us vs) (sym g) h))

pub node_by : (s : Sym) (As : Tys) (us us' : List Term) → us' ≡ us → node s As (terms us') ≡ node s As (terms us)
node_by s As us us' e = ap (λ w. node s As (terms w)) e

pub equates_sides : (ls : List Line) (S : Sequent) (l r l' r' : Term) (n : ℕ) → l' ≡ l → r' ≡ r → Equates ls S l' r' n → Equates ls S l r n
equates_sides ls S l r l' r' n e f h = transport (λ w. Equates ls S w r n) e (transport (λ w. Equates ls S l' w n) f h)
