-- A derivable sequent without hypotheses, at types and terms.
use Rattle.std.specs.Prelude.{◌≡◌, List, [], ◌∷◌, map, reverse, refl}
use Rattle.std.proofs.Common.{ap, sym}
use Rattle.ev_terms.specs.declared.types.Ty.{Prop}
use Rattle.ev_terms.specs.declared.types.Tys.{Tys, Empty}
use Rattle.ev_terms.specs.Types.{type_list}
use Rattle.ev_terms.specs.Term.{Term, terms}
use Rattle.ev_terms.specs.Substitution.{entry, fill, instance, type_inst, type_at}
use Rattle.ev_typing.specs.declared.typing.Sequent.{Sequent}
use Rattle.ev_typing.specs.Env.{Env}
use Rattle.ev_typing.specs.Typing.{AreProper, AreTyped}
use Rattle.ev_typing.specs.Occurs.{ArePlain}
use Rattle.ev_typing.specs.WellFormed.{IsWellFormed}
use Rattle.ev_typing.specs.Sequents.{◌⊢◌}
use Rattle.ev_typing.proofs.Keeps.{inst_typed}
use Rattle.ev_typing.proofs.TypeInstances.{instance_typed}
use Rattle.ev_kernel.specs.declared.rules.BaseRule.TheVariants.{Inst}
use Rattle.ev_kernel.specs.Derivable.{Derivable}
use Rattle.ev_ops.proofs.Basics.{args_put}
use Rattle.ev_congruence.specs.Settings.{IsBaseContext}
use Rattle.ev_congruence.proofs.Bodies.{fill_plain}
use Rattle.ev_congruence.proofs.Cited.{retype_plain}
use Rattle.ev_sound.proofs.Derived.{base_of, by_row, one, weakened_all}

-- the sequent's goal at types and terms, in another context
pub instantiated : (env : Env) → IsWellFormed env → (S : Sequent) (C : Tys) (As : Tys) (ts : List Term) → AreProper env C → AreProper env As →
    AreTyped env (type_list C) (terms ts) (map (type_inst (type_at As)) (type_list S.context)) → ArePlain env (terms ts) → S.hyps ≡ [] →
    Derivable env S → Derivable env (record { context = C; hyps = []; goal = fill (instance S.goal As) ts })
instantiated env w S C As ts c p h q e d =
    let b = base_of env S d in
    by_row env (S ∷ []) (Inst As ts) (record { context = C; hyps = []; goal = fill (instance S.goal As) ts })
    (S, refl, record { types_proper = p; terms_typed = h; hyps_are = ap (map (λ P. fill (instance P As) ts)) (sym e); goal_is = refl })
    (record {
      typed = record {
        context = c;
        hyps = tt;
        goal = inst_typed env (entry (reverse ts)) (map (type_inst (type_at As)) (type_list S.context)) (type_list C) (args_put env (type_list C) (map (type_inst (type_at As)) (type_list S.context)) ts h)
            (instance S.goal As) Prop (instance_typed env w As p (type_list S.context) S.goal Prop b.typed.goal);
      };
      plain_hyps = tt;
      plain_goal = fill_plain env (instance S.goal As) ts (retype_plain env (type_at As) S.goal b.plain_goal) q;
    })
    (one env S d)

-- a closed formula at types, in any context and under any hypotheses
pub closed_at : (env : Env) → IsWellFormed env → (S : Sequent) (P : Term) (As : Tys) → IsBaseContext env S → AreProper env As →
    Derivable env (record { context = Empty; hyps = []; goal = P }) → Derivable env (S ⊢ fill (instance P As) [])
closed_at env w S P As b p d = weakened_all env S (fill (instance P As) []) b (instantiated env w (record { context = Empty; hyps = []; goal = P }) S.context As [] b.proper p tt tt refl d)
