-- What the search for a variable needs.
use Rattle.std.proofs.Common.{◌≡◌, ℕ, ◌+◌, ◌≤◌, false, List, Some, None, ap, sym, ◌∙◌, refl, arith}
use Rattle.std.specs.Prelude.{◌||◌, ◌==◌}
use Rattle.std.proofs.lemmas.Bool.Decides.{nat_tests}
use Rattle.ev_terms.specs.declared.types.Tys.{Tys}
use Rattle.ev_terms.specs.declared.types.Sym.{Sym}
use Rattle.ev_terms.specs.Term.{Term, Terms, var, lit, node, nil, cons, terms, var_of}
use Rattle.ev_terms.specs.Symbols.{binds}
use Rattle.ev_terms.specs.Measures.{loose, all_loose}
use Rattle.ev_terms.proofs.Children as children
use Rattle.ev_typing.specs.Occurs.{has_var, have_var}

mutual
  pub none_free : (t : Term) (j : ℕ) → loose t ≤ j → has_var j t ≡ false
  none_free (var i) j h = grind (arith, nat_tests)
  none_free (lit n) j h = refl
  none_free (node s As ts) j h = none_free_all ts (j + binds s) (omega (arith, h))

  pub none_free_all : (ts : Terms) (j : ℕ) → all_loose ts ≤ j → have_var j ts ≡ false
  none_free_all nil j h = refl
  none_free_all (cons t ts) j h =
      ap (λ b. b || have_var j ts) (none_free t j (omega (arith, h))) ∙ none_free_all ts j (omega (arith, h))

pub at_variable : (t : Term) (i j : ℕ) → Some i ≡ var_of t → (i == j) ≡ has_var j t
at_variable (var k) i j e = let p : i ≡ k = cc in ap (λ x. x == j) p
at_variable (lit n) i j e = cc
at_variable (node s As ts) i j e = cc

pub at_leaf : (t : Term) (j : ℕ) → None ≡ var_of t → ((s : Sym) (As : Tys) (ts : Terms) → t ≡ node s As ts → ⊥) → false ≡ has_var j t
at_leaf (var k) j e h = cc
at_leaf (lit n) j e h = refl
at_leaf (node s As ts) j e h = absurd (h s As ts refl)

pub at_node : (t : Term) (s : Sym) (As : Tys) (ts : List Term) (j : ℕ) → t ≡ node s As (terms ts) → have_var (j + binds s) (terms ts) ≡ has_var j t
at_node t s As ts j e = sym (ap (has_var j) e)

pub ruleset walk = (children.walk, none_free, at_variable, at_leaf, at_node)
