-- Worked examples of matching: `x + 0` against `7 + 0`, and a variable that is not captured.
use Rattle.std.specs.Prelude.{◌≡◌, ◌↔◌, ◌<◌, ◌-◌, ◌∷◌, [], ℕ, zero, suc, List, Some, IsTrue, refl}
use Rattle.std.proofs.Common.{arith}
use Rattle.std.proofs.lemmas.Bool.Decides.{nat_tests}
use Rattle.ev_terms.specs.declared.types.Ty.{Ty, Int}
use Rattle.ev_terms.specs.Symbols.{binds}
use Rattle.ev_terms.specs.Term.{Term, var, lit, node}
use Rattle.ev_terms.specs.Substitution.{shift_var}
use Rattle.ev_forms.specs.Forms.{plus, forall, less}
use Rattle.ev_typing.specs.Occurs.{mentions_param, has_var}
use Rattle.ev_rewrite.specs.declared.matching.Inst.{Inst}
use Rattle.ev_rewrite.specs.Matching.{IsInstance, Agree, IsFoundAt, IsFound}

abbrev pattern' : Term
pattern' = plus (var 0) (lit 0)

abbrev tree : Term
tree = plus (lit 7) (lit 0)

abbrev inst : Inst
inst = record { types = []; terms = Some (lit 7) ∷ [] }

no_types : (j : ℕ) → j < 0 → IsFoundAt inst.types j ↔ IsTrue (mentions_param j pattern')
no_types j h = let no : ⊥ = omega (arith, h) in absurd no

one_term : (i : ℕ) → i < 1 → IsFoundAt inst.terms (1 - 1 - i) ↔ IsTrue (has_var i pattern')
unfolding binds
one_term zero h = (λ f. refl, λ v. (lit 7, refl))
one_term (suc i) h = let no : ⊥ = omega (arith, h) in absurd no

agreeing : (As : List Ty) (ts : List Term) → Agree inst.types As → Agree inst.terms ts → IsInstance 0 1 pattern' As ts tree
unfolding binds
agreeing [] [] a b = absurd b
agreeing [] (t ∷ []) a b = record { type_count = refl; term_count = refl; is_instance = let e : lit 7 ≡ t = b.0 in cc }
agreeing [] (t ∷ u ∷ ts) a b = absurd b.1
agreeing (A ∷ As) ts a b = absurd a

only : (As : List Ty) (ts : List Term) → IsInstance 0 1 pattern' As ts tree → Agree inst.types As × Agree inst.terms ts
unfolding binds
only [] [] h = let no : ⊥ = omega (arith, h.term_count) in absurd no
only [] (t ∷ []) h = (tt, (let e : plus t (lit 0) ≡ tree = h.is_instance in let q : lit 7 ≡ t = cc in q, tt))
only [] (t ∷ u ∷ ts) h = let no : ⊥ = omega (arith, h.term_count) in absurd no
only (A ∷ As) ts h = let no : ⊥ = omega (arith, h.type_count) in absurd no

seven : IsFound 0 1 pattern' tree inst
seven = record { type_count = refl; term_count = refl; types_where = no_types; terms_where = one_term; agreeing = agreeing; only = only }

-- under a binder: x < 0 has no instance that mentions the bound variable, whatever term is put for x
not_captured : (t : Term) → ¬ IsInstance 0 1 (forall Int (less (var 1) (lit 0))) [] (t ∷ []) (forall Int (less (var 0) (lit 0)))
unfolding binds
not_captured (var i) h = let e : less (var (shift_var 0 1 i)) (lit 0) ≡ less (var 0) (lit 0) = cc in let q : shift_var 0 1 i ≡ 0 = cc in grind (arith, nat_tests)
not_captured (lit n) h = cc
not_captured (node s As ts) h = cc
