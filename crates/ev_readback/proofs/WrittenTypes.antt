-- A proper type is what its written form says.
use Rattle.std.specs.Prelude.{◌≡◌, ℕ, Bool as Boolean, true, false, List, Option, Some, None, option_and_then, is_some, bytes_eq, position, IsSomeAnd, length, refl}
use Rattle.std.proofs.Common.{ap, sym, ◌∙◌}
use Rattle.ev_terms.specs.declared.types.Ty.{Ty, Int, Bool, Prop, Param, Data}
use Rattle.ev_terms.specs.declared.types.Tys.{Tys, Empty}
use Rattle.ev_terms.specs.Types.{pow, prod, more, type_list}
use Rattle.ev_typing.specs.declared.typing.DataDecl.{DataDecl}
use Rattle.ev_typing.specs.Env.{Env, Name, find_data}
use Rattle.ev_typing.specs.Typing.{IsProper, AreProper}
use Rattle.ev_resolve.specs.Reading.{named, type_of_raw, types_of_raw, both}
use Rattle.ev_resolve.specs.Resolve.{known_of}
use Rattle.ev_infer.proofs.ToBare.{both_to}
use Rattle.ev_print.specs.ReadBack.{HasFreeNames}
use Rattle.ev_print.specs.Texts.{raw_type, raw_types}
use Rattle.ev_readback.specs.OnlyAnnotation.{AreParameters}
use Rattle.ev_readback.proofs.Meanings.{data_apart}

pub some_of : {X : Type 0} (P : X → Type 0) (o : Option X) → IsSomeAnd o P → (x : X) × (o ≡ Some x) × P x
some_of P None h = absurd h
some_of P (Some x) h = (x, refl, h)

module _ (env : Env) (frees : HasFreeNames env) (params : List Name) (own : AreParameters env params) where
  mutual
    pub type_back : (A : Ty) → IsProper env A → type_of_raw params (known_of env) (raw_type A) ≡ Some A
    type_back Int h = refl
    type_back Bool h = refl
    type_back Prop h = absurd h
    type_back (Param i) h = refl
    type_back (pow a) h = ap (Rattle.std.specs.Prelude.option_map pow) (type_back a h)
    type_back (prod a b) h = both_to prod _ _ a b (type_back a h.0) (type_back b h.1)
    type_back (Data n As) h =
        let (d, e, count) = some_of (λ (d : DataDecl). length (type_list As) ≡ d.params) (find_data env n) h.0 in
        ap (λ o. option_and_then (named o (is_some (find_data env n)) n) (types_of_raw params (known_of env) (raw_types As))) (data_apart env frees params own n d e)
        ∙ ap (λ o. option_and_then (named None (is_some o) n) (types_of_raw params (known_of env) (raw_types As))) e
        ∙ ap (option_and_then (named None true n)) (types_back As h.1)

    pub types_back : (As : Tys) → AreProper env As → types_of_raw params (known_of env) (raw_types As) ≡ Some As
    types_back Empty h = refl
    types_back (more a As) h = both_to more _ _ a As (type_back a h.0) (types_back As h.1)
