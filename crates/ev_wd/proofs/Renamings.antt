-- What the walk under binders that are dropped needs.
use Rattle.std.proofs.Common.{◌≡◌, ◌≢◌, ℕ, zero, suc, ◌+◌, ◌-◌, ◌≤◌, Bool as Boolean, true, false, List, [], ◌∷◌, length, Some, None, ap, sym, ◌∙◌, refl, arith}
use Rattle.std.specs.Prelude.{pred}
use Rattle.std.proofs.lemmas.Bool.Decides.{nat_tests}
use Rattle.ev_terms.specs.declared.types.Tys.{Tys}
use Rattle.ev_terms.specs.declared.types.Sym.{Sym}
use Rattle.ev_terms.specs.Term.{Term, Terms, var, lit, node, var_of}
use Rattle.ev_terms.specs.Substitution.{shift_var, inst, lifts}
use Rattle.ev_terms.proofs.Children as children
use Rattle.ev_terms.proofs.ListLaws.{inst_closed}
use Rattle.ev_terms.proofs.Laws.{inst-id, lifts-past}
use Rattle.ev_wd.specs.inner.Renaming.{new_number, renaming}

-- The number of a variable.
pub at_none : (ks : List Boolean) (i : ℕ) → ks ≡ [] → i ≡ new_number ks i
at_none ks i e = sym (ap (λ us. new_number us i) e)

pub at_dropped : (ks rest : List Boolean) (b : Boolean) (i j : ℕ) → ks ≡ b ∷ rest → b ≡ false → j ≡ i - 1 → new_number rest j ≡ new_number ks i
at_dropped ks rest b i j e f g =
    let h : j ≡ pred i = omega arith in
    ap (new_number rest) h ∙ sym (ap (λ us. new_number us i) e ∙ ap (λ c. new_number (c ∷ rest) i) f)

pub at_zero : (ks rest : List Boolean) (b : Boolean) (i : ℕ) → ks ≡ b ∷ rest → b ≡ true → i ≡ 0 → 0 ≡ new_number ks i
at_zero ks rest b i e f g = sym (ap (λ us. new_number us i) e ∙ ap (λ c. new_number (c ∷ rest) i) f ∙ ap (new_number (true ∷ rest)) g)

pub at_kept : (ks rest : List Boolean) (b : Boolean) (i j : ℕ) → ks ≡ b ∷ rest → b ≡ true → i ≢ 0 → j ≡ i - 1 → new_number rest j + 1 ≡ new_number ks i
at_kept ks rest b zero j e f g h = absurd (g refl)
at_kept ks rest b (suc i) j e f g h =
    let k : j ≡ i = omega arith in
    let m : new_number rest j ≡ new_number rest i = ap (new_number rest) k in
    let n : new_number ks (suc i) ≡ suc (new_number rest i) = ap (λ us. new_number us (suc i)) e ∙ ap (λ c. new_number (c ∷ rest) (suc i)) f in
    omega arith

pub ruleset numbers = (at_none, at_dropped, at_zero, at_kept)

-- Under no binder nothing is renamed.
pub none_around : (ks : List Boolean) (t : Term) → length ks ≡ 0 → t ≡ inst (renaming ks) t
none_around [] t e = sym (inst-id t)
none_around (k ∷ ks) t e = absurd (omega arith)

-- A term by its form.
pub at_variable : (t u : Term) (i d : ℕ) (σ : ℕ → Term) → Some i ≡ var_of t → u ≡ lifts d σ i → u ≡ inst (lifts d σ) t
at_variable (var j) u i d σ e f = let g : i ≡ j = cc in f ∙ ap (lifts d σ) g
at_variable (lit n) u i d σ e f = cc
at_variable (node s As ts) u i d σ e f = cc

pub at_literal : (t u : Term) (σ : ℕ → Term) → None ≡ var_of t → ((s : Sym) (As : Tys) (ts : Terms) → t ≢ node s As ts) → u ≡ t → u ≡ inst σ t
at_literal (var j) u σ e h f = cc
at_literal (lit n) u σ e h f = f
at_literal (node s As ts) u σ e h f = absurd (h s As ts refl)

pub at_closed : (t u : Term) (d : ℕ) (σ : ℕ → Term) → u ≡ t → u ≡ inst (lifts d σ) t → u ≡ inst (lifts d σ) t
at_closed t u d σ e f = f

pub ruleset walk = (children.walk, inst_closed, at_variable, at_literal)

-- A variable from outside.
raised : (n r : ℕ) → shift_var 0 n r ≡ n + r
raised n r = grind (arith, nat_tests)

pub outside : (i d r : ℕ) (ks : List Boolean) → d ≤ i → r ≡ new_number ks (i - d) → var (d + r) ≡ lifts d (renaming ks) i
outside i d r ks h e =
    ap (λ k. var (d + k)) e ∙ sym (lifts-past d (renaming ks) i h ∙ ap var (raised d (new_number ks (i - d))))

pub ruleset variables = (outside)
