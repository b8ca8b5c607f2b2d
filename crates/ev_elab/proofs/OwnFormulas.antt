-- Formulas by an element's own numbers are as large as they were.
use Rattle.std.specs.Prelude.{◌≤◌, ◌+◌, ℕ, List, [], ◌∷◌, Option, Some, None, map, option_map}
use Rattle.std.specs.List.{range_with_len}
use Rattle.std.proofs.Common.{sym, subst as transport, arith}
use Rattle.ev_terms.specs.declared.types.Ty.{Ty, Prop, Param}
use Rattle.ev_terms.specs.Term.{Term}
use Rattle.ev_terms.specs.Measures.{type_size, type_depth}
use Rattle.ev_terms.specs.Substitution.{type_inst, type_at, instance}
use Rattle.ev_terms.proofs.Sizes.{size_retype_le, depth_retype_le}
use Rattle.ev_typing.specs.TypeLists.{types}
use Rattle.ev_typing.specs.Env.{Env}
use Rattle.ev_typing.specs.Typing.{AreProper}
use Rattle.ev_typing.specs.WellFormed.{IsWellFormed}
use Rattle.ev_typing.proofs.TypeInstances.{instance_typed}
use Rattle.ev_wd.specs.Limits.{IsSmall}
use Rattle.ev_ops.specs.Formulas.{IsFormula, IsOptional}
use Rattle.ev_elab.specs.Types.{own_number, own_list}
use Rattle.ev_elab.proofs.OwnNumbers.{own_is_param}

all_params_proper : (env : Env) (f : ℕ → ℕ) (ks : List ℕ) → AreProper env (types (map (λ k. Param (f k)) ks))
all_params_proper env f [] = tt
all_params_proper env f (k ∷ ks) = (tt, all_params_proper env f ks)

pub own_proper : (env : Env) (count : ℕ) (ids : List ℕ) → AreProper env (own_list count ids)
own_proper env count ids = all_params_proper env (own_number ids) (range_with_len 0 count)

module _ (count : ℕ) (ids : List ℕ) where
  one_node : (i : ℕ) → type_size (type_at (own_list count ids) i) ≤ 1
  one_node i = let (j, e) = own_is_param count ids i in transport (λ A. type_size A ≤ 1) (sym e) (omega arith)

  one_level : (i : ℕ) → type_depth (type_at (own_list count ids) i) ≤ 0 + 1
  one_level i = let (j, e) = own_is_param count ids i in transport (λ A. type_depth A ≤ 0 + 1) (sym e) (omega arith)

  pub own_small : (t : Term) → IsSmall t → IsSmall (instance t (own_list count ids))
  own_small t h =
      let p = size_retype_le t 1 (type_at (own_list count ids)) (omega arith) one_node in
      let q = depth_retype_le t 0 (type_at (own_list count ids)) one_level in
      let s = h.size_fits in
      let d = h.depth_fits in
      record { size_fits = omega (arith, p, s); depth_fits = omega (arith, q, d) }

  pub own_formula : (env : Env) → IsWellFormed env → (C : List Ty) (A : Ty) (t : Term) → IsFormula env C A t →
      IsFormula env (map (type_inst (type_at (own_list count ids))) C) (type_inst (type_at (own_list count ids)) A) (instance t (own_list count ids))
  own_formula env w C A t h = record { typed = instance_typed env w (own_list count ids) (own_proper env count ids) C t A h.typed; small = own_small t h.small }

  pub own_optional : (env : Env) → IsWellFormed env → (C : List Ty) (o : Option Term) → IsOptional env C o →
      IsOptional env (map (type_inst (type_at (own_list count ids))) C) (option_map (λ t. instance t (own_list count ids)) o)
  own_optional env w C None h = tt
  own_optional env w C (Some t) h = own_formula env w C Prop t h
