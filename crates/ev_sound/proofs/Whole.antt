-- Each step of the table, and the replay of a proof.
use Rattle.std.specs.Prelude.{◌≡◌, ◌+◌, ◌++◌, ℕ, zero, suc, List, [], ◌∷◌, Option, Some, None, map, length, refl}
use Rattle.std.specs.List.{AllByRecursion}
use Rattle.std.proofs.Common.{ap, ◌∙◌, arith}
use Rattle.ev_terms.specs.declared.types.Tys.{Empty}
use Rattle.ev_terms.specs.Types.{type_list}
use Rattle.ev_typing.specs.declared.typing.Sequent.{Sequent}
use Rattle.ev_typing.specs.Parts.{base}
use Rattle.ev_typing.specs.Typing.{IsSequent}
use Rattle.ev_typing.proofs.Names.{all_append}
use Rattle.ev_kernel.specs.declared.rules.BaseRule.{BaseRule}
use Rattle.ev_kernel.specs.declared.rules.BaseRule.TheVariants as rule
use Rattle.ev_kernel.specs.Row.{Row}
use Rattle.ev_kernel.specs.Derivable.{none, more}
use Rattle.ev_proof.specs.declared.steps.Step.{Step}
use Rattle.ev_proof.specs.declared.steps.Step.TheVariants.{Hyp, TrueI, Em, Refl, SetMem, BoolMem, Calc, Weak, Cut, FalseE, NotI, AndI, OrI1, OrI2, ImpI, IffI, AllI, Sym, Cong, Note, AndE1, AndE2, OrE, ImpE, IffE1, IffE2, AllE, ExI, ExE, Trans, Axiom, Theorem, Assume, Dis, Infer, Rewrite, Cases, Unfold, Fold, Recur, Con, Induct, Open}
use Rattle.ev_replay.specs.declared.scopes.Scope.{Scope}
use Rattle.ev_replay.specs.declared.steps.Applied.TheVariants.{Goals, Left, Refused}
use Rattle.ev_replay.specs.declared.steps.Outcome.TheVariants.{Complete, Partial, Broken}
use Rattle.ev_proof.specs.declared.steps.Ref.{Ref}
use Rattle.ev_replay.specs.Replay.{Trace, ReplaysFrom, outcome_with, step_ref}
use Rattle.ev_rules.specs.Params.{params_of}
use Rattle.ev_sound.specs.Unfoldings.{HasDerivableUnfolding, HaveDerivableUnfoldings}
use Rattle.ev_replay.specs.Scopes.{IsScope}
use Rattle.ev_sound.proofs.Citable.{IsCitable, citable}
use Rattle.ev_sound.specs.Proofs.{CitesEstablished, CiteEstablished, LeansOnAxiom, NoLineLeans, StepIsSound, StepsAreSound, CompleteIsSound}
use Rattle.ev_typing.specs.WellFormed.{IsWellFormed}
use Rattle.ev_congruence.proofs.Terms.{proper_list}
use Rattle.ev_sound.proofs.Rows.{US, IsSimple}
use Rattle.ev_sound.proofs.Cong.{head_of, tail_of}
use Rattle.ev_sound.proofs.Steps.{simple_sound, weak_sound, all_i_sound, all_e_sound, ex_i_sound, ex_e_sound, set_mem_sound, calc_sound, cong_sound}
use Rattle.ev_sound.proofs.Reading.{reads_typed, cite_sound}
use Rattle.ev_sound.proofs.Cases.{cases_sound}
use Rattle.ev_sound.proofs.ClosedRows.{axiom_established, distinctness_established}
use Rattle.ev_sound.proofs.Inducting.{ind_sound}
use Rattle.ev_sound.proofs.Table.{unfold_sound, fold_sound, inference_sound, rewriting_sound, con_sound, recur_sound}

pub steps_are_sound : StepsAreSound
steps_are_sound cs scope w = by
  where
    u : IsWellFormed cs.env
    u = w

    citing : (step : Step) (ref : Ref) → step_ref step ≡ Some ref → CitesEstablished cs step → IsCitable cs ref
    citing step ref q known = citable cs scope w ref (known ref q)

    simple : (r : BaseRule) → IsSimple cs.env r → (S : Sequent) (gs : List Sequent) → IsSequent cs.env S → Row cs.env gs r S → HaveDerivableUnfoldings cs.env gs → HasDerivableUnfolding cs.env S
    simple r i S gs h k d = simple_sound cs.env u S gs r i h k d

    by : (step : Step) → CitesEstablished cs step → ¬ LeansOnAxiom step → StepIsSound cs step
    by Hyp e n S gs c h g k d = simple rule.Hyp tt S gs h k.0 d
    by TrueI e n S gs c h g k d = simple rule.TrueI tt S gs h k.0 d
    by Em e n S gs c h g k d = simple rule.Em tt S gs h k.0 d
    by Refl e n S gs c h g k d = simple rule.Refl tt S gs h k.0 d
    by SetMem e n S gs c h g k d = set_mem_sound cs.env u S gs h k.0 d
    by BoolMem e n S gs c h g k d = simple rule.BoolMem tt S gs h k.0 d
    by Calc e n S gs c h g k d = calc_sound cs.env u S gs h k.0 d
    by (Weak ns) e n S gs c h g ((H, z, q), k) d = weak_sound cs.env u S gs ns H h z q d
    by (Cut raw) e n S gs c h g ((P, r, q), k) d = simple rule.Cut tt S gs h (P, q) d
    by FalseE e n S gs c h g k d = simple rule.FalseE tt S gs h k.0 d
    by NotI e n S gs c h g k d = simple rule.NotI tt S gs h k.0 d
    by AndI e n S gs c h g k d = simple rule.AndI tt S gs h k.0 d
    by OrI1 e n S gs c h g k d = simple rule.OrI1 tt S gs h k.0 d
    by OrI2 e n S gs c h g k d = simple rule.OrI2 tt S gs h k.0 d
    by ImpI e n S gs c h g k d = simple rule.ImpI tt S gs h k.0 d
    by IffI e n S gs c h g k d = simple rule.IffI tt S gs h k.0 d
    by AllI e n S gs c h g k d = all_i_sound cs.env u S gs h k.0 d
    by Sym e n S gs c h g k d = simple rule.Sym tt S gs h k.0 d
    by Cong e n S gs c h g k d = cong_sound cs.env u S gs h k.0 d
    by (Note raw) e n S gs c h g ((P, r, f, q), k) d = simple rule.NotE tt S gs h (P, record { concludes = f; premises_are = q }) d
    by (AndE1 raw) e n S gs c h g ((Q, r, q), k) d = simple rule.AndE1 tt S gs h (Q, q) d
    by (AndE2 raw) e n S gs c h g ((P, r, q), k) d = simple rule.AndE2 tt S gs h (P, q) d
    by (OrE raw) e n S gs c h g ((P, Q, r, q), k) d = simple rule.OrE tt S gs h (P, Q, q) d
    by (ImpE raw) e n S gs c h g ((P, r, q), k) d = simple rule.ImpE tt S gs h (P, q) d
    by (IffE1 raw) e n S gs c h g ((P, r, q), k) d = simple rule.IffE1 tt S gs h (P, q) d
    by (IffE2 raw) e n S gs c h g ((Q, r, q), k) d = simple rule.IffE2 tt S gs h (Q, q) d
    by (AllE raw raw') e n S gs c h g ((A, Q, x, r, r', f, q), k) d =
        all_e_sound cs.env u S gs x h g (A, Q, reads_typed cs.env cs.params (type_list S.context) A raw' x (proper_list cs.env S.context h.context) r', record { concludes = f; premises_are = q }) d
    by (ExI raw) e n S gs c h g ((A, Q, x, f, r, q), k) d =
        ex_i_sound cs.env u S gs x h (A, Q, reads_typed cs.env cs.params (type_list S.context) A raw x (proper_list cs.env S.context h.context) r, record { concludes = f; premises_are = q }) d
    by (ExE raw) e n S gs c h g ((A, Q, r, q), k) d = ex_e_sound cs.env u S gs h (A, Q, q) d
    by (Trans raw) e n S gs c h g ((A, a, b, x, f, r, q), k) d = simple rule.Trans tt S gs h (A, a, x, b, record { concludes = f; premises_are = q }) d
    by (Axiom m cite) e n S gs c h g (q, (P, row, (F, is, k))) d = cite_sound cs u S (params_of (P ∷ []) Empty) P cite F h is (axiom_established cs.env w m P row)
    by (Theorem ref cite) e n S gs c h g (q, (P, label, may, (F, is, k))) d = cite_sound cs u S (params_of (P ∷ []) Empty) P cite F h is ((citing (Theorem ref cite) ref refl e).theorem label P may)
    by (Assume ref cite) e n S gs c h g k d = absurd (n tt)
    by (Dis left right cite) e n S gs c h g (q, (P, row, (F, is, k))) d = cite_sound cs u S (params_of (P ∷ []) Empty) P cite F h is (distinctness_established cs.env w left right P row)
    by (Infer ref cite) e n S gs c h g k d = inference_sound cs u ref (citing (Infer ref cite) ref refl e) S cite gs c h k d
    by (Rewrite ref i place cite) e n S gs c h g k d = rewriting_sound cs u ref (citing (Rewrite ref i place cite) ref refl e) S i place cite gs c h g k d
    by (Cases ref place cite) e n S gs c h g k d = cases_sound cs u ref (citing (Cases ref place cite) ref refl e) S place cite gs c h g k d
    by (Unfold place) e n S gs c h g k d = unfold_sound cs u S place gs h k.0 d
    by (Fold m place cite) e n S gs c h g k d = fold_sound cs u S m place cite gs h k.0 d
    by (Recur place) e n S gs c h g k d = recur_sound cs u scope S place gs c h g k d
    by (Con place) e n S gs c h g k d = con_sound cs u S place gs c h g k d
    by Induct e n S gs c h g k d = ind_sound cs.env u S gs h k.0 d
    by Open e n S gs c h g k d = absurd k.0

-- Goals in front of others.
front_sound : (cs : Scope) (gs rest : List Sequent) → HaveDerivableUnfoldings cs.env (gs ++ rest) → HaveDerivableUnfoldings cs.env gs × HaveDerivableUnfoldings cs.env rest
front_sound cs [] rest d = (none, d)
front_sound cs (g ∷ gs) rest d =
    let k = front_sound cs gs rest (tail_of (base cs.env) (US cs.env g) (map (US cs.env) (gs ++ rest)) d) in
    (more (US cs.env g) (map (US cs.env) gs) (head_of (base cs.env) (US cs.env g) (map (US cs.env) (gs ++ rest)) d) k.0, k.1)

module _ (cs : Scope) (scope : IsScope cs) (w : IsWellFormed cs.env) where
  -- what comes of a replay that ends complete
  abbrev Ends : ℕ → List Sequent → Type 0
  Ends k goals = (k ≡ 0) × HaveDerivableUnfoldings cs.env goals

  not_partial : (k : ℕ) (goals : List Sequent) → Complete ≡ outcome_with (k + length goals) → Ends k goals
  not_partial zero [] h = (refl, none)
  not_partial zero (g ∷ gs) h = let q : 0 + length (g ∷ gs) ≡ suc (length gs) = omega arith in let no : Complete ≡ Partial (suc (length gs)) = h ∙ ap outcome_with q in cc
  not_partial (suc k) gs h = let q : suc k + length gs ≡ suc (k + length gs) = omega arith in let no : Complete ≡ Partial (suc (k + length gs)) = h ∙ ap outcome_with q in cc

  from : (lines : List (Option Step)) (n k : ℕ) (goals : List Sequent) (t : Trace) → CiteEstablished cs lines → NoLineLeans lines → AllByRecursion (IsSequent cs.env) goals → ReplaysFrom cs n k goals lines t Complete → Ends k goals
  from [] n k goals t e l p (q, o) = not_partial k goals o
  from (None ∷ lines) n k goals t e l p (q, o) = let no : Complete ≡ Broken n = o in cc
  from (Some step ∷ lines) n k [] t e l p (q, o) = let no : Complete ≡ Broken n = o in cc
  from (Some step ∷ lines) n k (S ∷ goals) t e l p (Goals gs, used, a, (later, rest, q)) =
      let r = from lines (n + 1) k (gs ++ goals) later e.1 l.1 (all_append (IsSequent cs.env) gs goals a.typed p.1) rest in
      let parts = front_sound cs gs goals r.1 in
      (r.0, more (US cs.env S) (map (US cs.env) goals) (steps_are_sound cs scope w step (e.0 step refl) (l.0 step refl) S gs used p.0 a.typed a.gives parts.0) parts.1)
  from (Some step ∷ lines) n k (S ∷ goals) t e l p (Left, used, a, (later, rest, q)) =
      let r = from lines (n + 1) (k + 1) goals later e.1 l.1 p.1 rest in absurd (let z : k + 1 ≡ 0 = r.0 in omega arith)
  from (Some step ∷ lines) n k (S ∷ goals) t e l p (Refused, used, a, (q, o)) = let no : Complete ≡ Broken n = o in cc

pub complete_is_sound : CompleteIsSound
complete_is_sound cs scope w S h lines t e l r =
    let q = from cs scope w lines 1 0 (S ∷ []) t e l (h, tt) r in head_of (base cs.env) (US cs.env S) [] q.1
