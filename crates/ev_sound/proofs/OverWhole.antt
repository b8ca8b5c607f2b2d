-- What holds unfolded over a part of an environment holds over the whole.
use Rattle.std.specs.Prelude.{◌≡◌, []}
use Rattle.std.proofs.Common.{sym, subst as transport}
use Rattle.ev_terms.specs.declared.types.Ty.{Prop}
use Rattle.ev_terms.specs.declared.types.Tys.{Empty}
use Rattle.ev_terms.specs.Term.{Term}
use Rattle.ev_typing.specs.Env.{Env}
use Rattle.ev_typing.specs.Typing.{IsPredicate}
use Rattle.ev_typing.specs.Parts.{IsPartOf, base}
use Rattle.ev_kernel.specs.Derivable.{Derivable}
use Rattle.ev_kernel.proofs.DerivationLaws.{whole_derivable}
use Rattle.ev_data.specs.Sound.{IsSound}
use Rattle.ev_data.proofs.Bases.{base_of_base}
use Rattle.ev_ops.specs.Unfold.{unfolded}
use Rattle.ev_ops.proofs.OverWhole.{over_whole}
use Rattle.ev_ops.proofs.BaseGood.{base_well_formed}
use Rattle.ev_sound.specs.Unfoldings.{HoldsUnfolded}

pub holds_over : (e f : Env) → IsSound e → IsSound f → IsPartOf e f → (P : Term) → IsPredicate e [] P → HoldsUnfolded e P → HoldsUnfolded f P
holds_over e f s t p P h d =
    let same : unfolded f P ≡ unfolded e P = over_whole e f s.well_formed t.well_formed p [] P Prop h in
    whole_derivable (base e) (base f) (base_of_base e f p) (base_well_formed f t.well_formed).distinct (record { context = Empty; hyps = []; goal = unfolded f P })
    (transport (λ Q. Derivable (base e) (record { context = Empty; hyps = []; goal = Q })) (sym same) d)
