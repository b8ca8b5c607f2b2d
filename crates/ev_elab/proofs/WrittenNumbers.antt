-- A type whose written numbers are those of parameters has no others.
use Rattle.std.specs.Prelude.{◌≡◌, ◌<◌, ◌≤◌, ℕ, Bool as Boolean, true, false, List, [], Option, Some, None, length, bytes_eq, position, refl}
use Rattle.std.specs.List.{list_any}
use Rattle.std.proofs.Common.{subst as transport, arith}
use Rattle.std.proofs.lemmas.Bool.Decides.{nat_tests}
use Rattle.std.proofs.lemmas.List.Quantifiers.{position-Some}
use Rattle.ev_terms.specs.declared.types.Ty.{Ty, Int, Bool as BoolType, Param, Data}
use Rattle.ev_terms.specs.declared.types.Tys.{Tys, Empty}
use Rattle.ev_terms.specs.Types.{pow, prod, more}
use Rattle.ev_terms.specs.Measures.{type_params, types_params}
use Rattle.ev_syntax.specs.Raw.{RawType, RawTypes, int_type, bool_type, param_type, named_type, pow_type, prod_type, no_types, one_type}
use Rattle.ev_typing.specs.Env.{Name}
use Rattle.ev_resolve.specs.Reading.{Known, named, both, type_of_raw, types_of_raw}
use Rattle.ev_resolve.specs.UsedNames.{type_params as written_params, types_params as all_written_params}
use Rattle.ev_elab.specs.Unknown.{is_no_param}
use Rattle.ev_elab.proofs.Gathering.{and_then_some, map_some, some_is, or_none, none_append}

both_some : {A B C : Type 0} (f : A → B → C) (a : Option A) (b : Option B) (c : C) → both f a b ≡ Some c → (x : A) × (y : B) × (a ≡ Some x) × (b ≡ Some y) × (f x y ≡ c)
both_some f None b c e = cc
both_some f (Some x) None c e = cc
both_some f (Some x) (Some y) c e = (x, y, refl, refl, some_is (f x y) c e)

module _ (params : List Name) (known : Known) where
  named_bounded : (n : Name) (o : Option ℕ) (d : Boolean) (As : Tys) (A : Ty) → ((i : ℕ) → o ≡ Some i → i < length params) → types_params As ≤ length params → named o d n As ≡ Some A → type_params A ≤ length params
  named_bounded n (Some i) d Empty A k h e = let q = some_is (Param i) A e in let l = k i refl in transport (λ B. type_params B ≤ length params) q (omega (arith, l))
  named_bounded n (Some i) d (more B Bs) A k h e = cc
  named_bounded n None true As A k h e = transport (λ B. type_params B ≤ length params) (some_is (Data n As) A e) h
  named_bounded n None false As A k h e = cc

  number_below : (i : ℕ) → is_no_param params i ≡ false → i < length params
  number_below i e = grind (arith, nat_tests, e)

  mutual
    pub written_bounded : (a : RawType) (A : Ty) → type_of_raw params known a ≡ Some A → list_any (is_no_param params) (written_params a) ≡ false → type_params A ≤ length params
    written_bounded int_type A e h = transport (λ B. type_params B ≤ length params) (some_is Int A e) (omega arith)
    written_bounded bool_type A e h = transport (λ B. type_params B ≤ length params) (some_is BoolType A e) (omega arith)
    written_bounded (param_type i) A e h =
        let l = number_below i (or_none (is_no_param params i) false h).0 in
        transport (λ B. type_params B ≤ length params) (some_is (Param i) A e) (omega (arith, l))
    written_bounded (named_type n rs) A e h =
        let p = and_then_some (named (position (bytes_eq n) params) (known.is_datatype n) n) (types_of_raw params known rs) A e in
        named_bounded n (position (bytes_eq n) params) (known.is_datatype n) p.0 A (λ i q. (position-Some (bytes_eq n) params i [] q).0) (all_written_bounded rs p.0 p.1 h) p.2
    written_bounded (pow_type a) A e h =
        let p = map_some (λ B. pow B) (type_of_raw params known a) A e in
        transport (λ B. type_params B ≤ length params) p.2 (written_bounded a p.0 p.1 h)
    written_bounded (prod_type a b) A e h =
        let (B, C, f, g, q) = both_some (λ x y. prod x y) (type_of_raw params known a) (type_of_raw params known b) A e in
        let k = none_append (is_no_param params) (written_params a) (written_params b) h in
        let l = written_bounded a B f k.0 in
        let m = written_bounded b C g k.1 in
        transport (λ D. type_params D ≤ length params) q (omega (arith, l, m))

    pub all_written_bounded : (rs : RawTypes) (As : Tys) → types_of_raw params known rs ≡ Some As → list_any (is_no_param params) (all_written_params rs) ≡ false → types_params As ≤ length params
    all_written_bounded no_types As e h = transport (λ Bs. types_params Bs ≤ length params) (some_is Empty As e) (omega arith)
    all_written_bounded (one_type a rs) As e h =
        let (B, Bs, f, g, q) = both_some (λ x y. more x y) (type_of_raw params known a) (types_of_raw params known rs) As e in
        let k = none_append (is_no_param params) (written_params a) (all_written_params rs) h in
        let l = written_bounded a B f k.0 in
        let m = all_written_bounded rs Bs g k.1 in
        transport (λ Ds. types_params Ds ≤ length params) q (omega (arith, l, m))
