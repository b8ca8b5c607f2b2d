-- Terms put for variables, and the two sides of a symbol on children.
use Rattle.std.specs.Prelude.{◌≡◌, ◌+◌, ◌-◌, ◌<◌, ◌≤◌, ◌^◌, ℕ, List, Option, Some, None, map, length, reverse, get_or, refl}
use Rattle.std.specs.List.{AllByRecursion}
use Rattle.std.proofs.Common.{ap, sym, ◌∙◌, subst as transport, arith}
use Rattle.ev_terms.specs.declared.types.Ty.{Ty}
use Rattle.ev_terms.specs.declared.types.Tys.{Tys}
use Rattle.ev_terms.specs.declared.types.Sym.{Sym}
use Rattle.ev_terms.specs.Term.{Term, Terms, var, lit, node, terms, var_of, sym_of}
use Rattle.ev_terms.specs.Symbols.{binds}
use Rattle.ev_terms.specs.Measures.{loose, highest}
use Rattle.ev_terms.specs.Substitution.{shift, entry}
use Rattle.ev_terms.proofs.Shifts.{substitute_walk}
use Rattle.ev_terms.proofs.ListLaws.{inst_closed}
use Rattle.ev_typing.specs.declared.typing.Sequent.{Sequent}
use Rattle.ev_typing.specs.Env.{Env}
use Rattle.ev_typing.specs.Sequents.{◌⊢◌}
use Rattle.ev_kernel.specs.declared.rules.Line.{Line}
use Rattle.ev_kernel.specs.Row.{at_children}
use Rattle.ev_kernel.proofs.Comparing.{put_argument, put_outside}
use Rattle.ev_congruence.specs.Settings.{AreAlike}
use Rattle.ev_congruence.specs.Equating.{AreEquatedBy, IsSettled, AreSettled}
use Rattle.ev_congruence.specs.inner.Inside.{put, IsByCongruence}
use Rattle.ev_congruence.proofs.Equal.{settled_same, equated_by_beside, entry_read}

-- A variable past the binders.
pub put_given : (t a : Term) (i d n : ℕ) (ts : List Term) → Some i ≡ var_of t → d < loose t → n ≡ length ts → i - d < n → a ≡ get_or ts (n - 1 - (i - d)) a → put d ts t ≡ shift a 0 d
unfolding put
put_given t a i d n ts e h k l q =
    put_argument t a i d (i - d) ts e h refl (omega (arith, k, l)) (q ∙ ap (λ m. get_or ts (m - 1 - (i - d)) a) k)

pub put_entry : (t : Term) (i d n k : ℕ) (ts : List Term) → Some i ≡ var_of t → d < loose t → n ≡ length ts → i - d < n → k ≡ n - 1 - (i - d) → put d ts t ≡ shift (entry ts k) 0 d
put_entry t i d n k ts e h m l q =
    put_given t (entry ts k) i d n ts e h m l (entry_read ts k (omega (arith, m, l, q)) ∙ ap (λ j. get_or ts j (entry ts k)) q)

pub put_later : (t : Term) (i d n : ℕ) (ts : List Term) → Some i ≡ var_of t → d < loose t → n ≡ length ts → n ≤ i - d → put d ts t ≡ var (i - n)
unfolding put
put_later t i d n ts e h k l = put_outside t i d (i - d) ts e h refl (omega (arith, k, l)) ∙ ap (λ m. var (i - m)) (sym k)

-- no variable past the binders
pub put_closed : (t : Term) (d : ℕ) (ts : List Term) → loose t ≤ d → put d ts t ≡ t
unfolding put
put_closed t d ts h = inst_closed t d (entry (reverse ts)) h

-- a symbol
pub put_node : (d : ℕ) (ts : List Term) (s : Sym) (As : Tys) (us : List Term) → put d ts (node s As (terms us)) ≡ node s As (terms (map (put (d + binds s) ts) us))
unfolding put
put_node d ts s As us = substitute_walk d (entry (reverse ts)) s As us

pub no_symbol : (t : Term) → ((s : Sym) (As : Tys) (ts : Terms) → t ≡ node s As ts → ⊥) → sym_of t ≡ None
no_symbol (var i) h = refl
no_symbol (lit n) h = refl
no_symbol (node s As ts) h = absurd (h s As ts refl)

-- What holds of terms holds of equal ones.
pub settled_by : (ls : List Line) (S : Sequent) (l r l' r' : Term) (o o' : Option ℕ) → l' ≡ l → r' ≡ r → o' ≡ o → IsSettled ls S l r o → IsSettled ls S l' r' o'
settled_by ls S l r l' r' o o' e f g h =
    transport (λ u. IsSettled ls S u r' o') (sym e) (transport (λ u. IsSettled ls S l u o') (sym f) (transport (IsSettled ls S l r) (sym g) h))

pub alike_by : (env : Env) (C : List Ty) (l r l' r' : Term) → l' ≡ l → r' ≡ r → AreAlike env C l r → AreAlike env C l' r'
alike_by env C l r l' r' e f h = transport (λ u. AreAlike env C u r') (sym e) (transport (AreAlike env C l) (sym f) h)

pub settled_one : (ls : List Line) (S : Sequent) (l r : Term) (o : Option ℕ) → l ≡ r → o ≡ None → IsSettled ls S l r o
settled_one ls S l r o e g = transport (IsSettled ls S l r) (sym g) e

-- the two sides of a symbol whose children are one
pub same_children : (ls : List Line) (S : Sequent) (s : Sym) (As : Tys) (us vs : List Term) (os : List (Option ℕ)) → AreSettled ls S us vs os → AllByRecursion (λ o. o ≡ None) os → node s As (terms us) ≡ node s As (terms vs)
same_children ls S s As us vs os h k = ap (λ ws. node s As (terms ws)) (settled_same ls S us vs os h k)

-- and the lines for congruence
pub by_congruence : (ls : List Line) (S I : Sequent) (G : Term) (l r : Term) (s : Sym) (As : Tys) (us vs : List Term) (ns : List ℕ) → I ≡ (at_children S s As ⊢ G) → l ≡ node s As (terms us) → r ≡ node s As (terms vs) →
    AreEquatedBy ls I us vs ns → IsByCongruence ls S l r ns
by_congruence ls S I G l r s As us vs ns e f g h = record {
  symbol = s;
  types = As;
  lefts = us;
  rights = vs;
  left = f;
  right = g;
  children = equated_by_beside ls I (at_children S s As) (λ H. ap (λ (x : Sequent). x ⊢ H) e) us vs ns h;
}

-- where each side stands for one variable
pub low_by : (t u : Term) → t ≡ u → highest t ≤ 2 ^ 32 → highest u ≤ 2 ^ 32
low_by t u e h = transport (λ v. highest v ≤ 2 ^ 32) e h
