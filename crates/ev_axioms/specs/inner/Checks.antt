-- Typing of rows as a test, and the list of axioms that is kept.
use Rattle.std.specs.Prelude.{◌≡◌, ◌<◌, ◌+◌, ◌^◌, ◌==◌, ◌&&◌, ℕ, nat_lt, Bool as Boolean, true, false, List, [], ◌∷◌, Option, Some, None, map, length, slice_get}
use Rattle.ev_terms.specs.declared.types.Ty.{Ty, Int, Bool, Prop, Param, Data}
use Rattle.ev_terms.specs.declared.types.Tys.{Tys}
use Rattle.ev_terms.specs.declared.types.Sym.TheVariants.{Base, User}
use Rattle.ev_terms.specs.Types.{pow, prod, type_list}
use Rattle.ev_terms.specs.Term.{Term, Terms, var, lit, node, nil, cons}
use Rattle.ev_terms.specs.Measures.{loose}
use Rattle.ev_terms.specs.Substitution.{type_inst, type_at}
use Rattle.ev_typing.specs.Profiles.{Profile, base_profile}
use Rattle.ev_typing.specs.Typing.{var_type, inside}
use Rattle.ev_typing.specs.Proper.{are_proper}
use Rattle.ev_axioms.specs.Axioms.{axiom_row}

-- two types without datatypes are one
abbrev pub same_type : Ty → Ty → Boolean
same_type Int Int = true
same_type Bool Bool = true
same_type Prop Prop = true
same_type (Param i) (Param j) = i == j
same_type (pow A) (pow B) = same_type A B
same_type (prod A B) (prod C D) = same_type A C && same_type B D
same_type _ _ = false

-- a variable's type
abbrev pub is_type : Option Ty → Ty → Boolean
is_type None A = false
is_type (Some B) A = same_type B A

-- a symbol at types, whose children pass a test of the types that they need
abbrev pub is_node : Option Profile → Tys → Ty → (List Ty → Boolean) → Boolean
is_node None As A children = false
is_node (Some p) As A children =
    length (type_list As) == p.params && (are_proper [] As && (same_type A (type_inst (type_at As) p.result) && children (map (type_inst (type_at As)) p.args)))

abbrev mutual
  -- the term of base symbols has the type in the context
  pub is_typed : List Ty → Term → Ty → Boolean
  is_typed C (var i) A = is_type (var_type C i) A
  is_typed C (lit n) A = nat_lt n 170141183460469231731687303715884105728 && same_type A Int
  is_typed C (node (Base k) As ts) A = is_node (base_profile k) As A (λ Bs. are_typed (inside C (Base k) As) ts Bs)
  is_typed C (node (User n) As ts) A = false

  pub are_typed : List Ty → Terms → List Ty → Boolean
  are_typed C nil [] = true
  are_typed C nil (A ∷ As) = false
  are_typed C (cons t ts) [] = false
  are_typed C (cons t ts) (A ∷ As) = is_typed C t A && are_typed C ts As

-- a closed predicate of base symbols
abbrev pub passes : Term → Boolean
passes P = is_typed [] P Prop && loose P == 0

-- the first n axioms
pub record AreAxioms (n : ℕ) (Ps : List Term) : Type 0 where
  pub count : length Ps ≡ n
  pub each : (k : ℕ) → k < n → slice_get Ps k ≡ axiom_row (k + 1)
