-- What the status of a sequent says: by induction over statuses.
use Rattle.std.specs.Prelude.{◌≡◌, ◌≢◌, ◌+◌, ◌++◌, ℕ, zero, suc, true, List, [], ◌∷◌, Option, Some, None, flat_map, Contains, ⊤, refl}
use Rattle.std.specs.List.{AllByRecursion}
use Rattle.std.proofs.Common.{ap, sym, ◌∙◌, subst as transport}
use Rattle.ev_terms.specs.Types.{type_list}
use Rattle.ev_terms.specs.Term.{Term}
use Rattle.ev_terms.specs.declared.obligation.ObKind.TheVariants as ob
use Rattle.ev_forms.specs.Forms.{forall_all, equation}
use Rattle.ev_typing.specs.declared.typing.Sequent.{Sequent}
use Rattle.ev_typing.specs.Env.{Name}
use Rattle.ev_typing.specs.Typing.{Typed, type_in}
use Rattle.ev_typing.proofs.Names.{same_name}
use Rattle.ev_typing.proofs.Laws.{Typed-type_in}
use Rattle.ev_typing.proofs.Wholes.{whole_typed}
use Rattle.ev_kernel.specs.Derivable.{numbered}
use Rattle.ev_rules.specs.declared.elements.Element.{Element}
use Rattle.ev_rules.specs.declared.elements.Element.TheVariants as element
use Rattle.ev_rules.specs.declared.elements.RewriteRule.{RewriteRule}
use Rattle.ev_rules.specs.declared.elements.Branch.{Branch}
use Rattle.ev_ops.specs.Formulas.{IsRewriteRule}
use Rattle.ev_ops.proofs.Basics.{contains_first, contains_more}
use Rattle.ev_oblig.specs.Obligations.{named, under_condition, inference_formula, branch_formula, complete_formula}
use Rattle.ev_script.specs.declared.sequent_names.SeqName.{SeqName}
use Rattle.ev_proof.specs.declared.steps.Ref.{Ref}
use Rattle.ev_proof.specs.declared.steps.Step.{Step}
use Rattle.ev_proof.specs.declared.steps.Step.TheVariants.{Hyp, TrueI, Em, Refl, SetMem, BoolMem, Calc, Weak, Cut, FalseE, NotI, AndI, OrI1, OrI2, ImpI, IffI, AllI, Sym, Cong, Note, AndE1, AndE2, OrE, ImpE, IffE1, IffE2, AllE, ExI, ExE, Trans, Axiom, Theorem, Assume, Dis, Infer, Rewrite, Cases, Unfold, Fold, Recur, Con, Induct, Open}
use Rattle.ev_replay.specs.declared.scopes.Scope.{Scope}
use Rattle.ev_replay.specs.declared.scopes.CiteElement.{CiteElement}
use Rattle.ev_replay.specs.declared.steps.Applied.TheVariants.{Goals, Left, Refused}
use Rattle.ev_replay.specs.declared.steps.Outcome.TheVariants as outcome
use Rattle.ev_replay.specs.Scopes.{is_labelled, cited}
use Rattle.ev_replay.specs.Steps.{Gives}
use Rattle.ev_replay.specs.Replay.{Trace, ReplaysFrom, cites}
use Rattle.ev_elab.specs.declared.theories.TheorySequent.{TheorySequent}
use Rattle.ev_project.specs.declared.statuses.Status.{Status}
use Rattle.ev_project.specs.declared.statuses.Status.TheVariants.{NoProof, Broken, Partial, Leans, Assumed, Proved}
use Rattle.ev_project.specs.Projects.{Project}
use Rattle.ev_project.specs.Contents.{Contents}
use Rattle.ev_project.specs.Scopes.{goal_sequent, cite_scope, find_sequent}
use Rattle.ev_project.specs.Needs.{is_axiom, has_ref, axioms, needs_of}
use Rattle.ev_project.specs.Statuses.{is_fine, status_axioms, assume_refs, assumed, proved_or_assumed, IsReplayed, HasStatus, HaveStatuses, no_proof, broken, partial, leans, fine, no_statuses, more_statuses}
use Rattle.ev_sound.specs.Unfoldings.{HoldsUnfolded}
use Rattle.ev_sound.specs.Proofs.{LabelIsEstablished, CiteEstablished, LeansOnAxiom, NoLineLeans}
use Rattle.ev_sound.proofs.Whole.{complete_is_sound}
use Rattle.ev_sound.proofs.Sequents.{thm_claim, sound_claim, branch_claim, complete_claim, theorem_claimed, inference_claimed, branch_claimed, complete_claimed}
use Rattle.ev_sound.proofs.Positions.{own, reach, IsSoundAt, Position, position, scope_is, scope_sound, sequent_typed}
use Rattle.ev_sound.proofs.Claims.{stands_filter, flat_stands, step_cited}
use Rattle.ev_ops.proofs.Fitting.{contains_front}
use Rattle.ev_sound.proofs.Needed.{find_passes, Source, source, label_stands, Holds, Known, AreKnown, no_axiom, claim_holds}

-- A step that leans on an axiomatic element cites one.
abbrev pub LineCites : Scope → Option Step → Type 0
LineCites cs (Some (Assume ref cite)) = (label : Name) × (P : Term) × (cited cs ref ≡ Some (element.Axiom label P))
LineCites cs _ = ⊤

module _ (cs : Scope) where
  one : (step : Step) (S : Sequent) (gs : List Sequent) (used : List Term) → Gives cs S step gs used → LineCites cs (Some step)
  one (Assume ref cite) S gs used (q, (P, label, may, rest)) = (label, P, may)
  one Hyp S gs used g = tt
  one TrueI S gs used g = tt
  one Em S gs used g = tt
  one Refl S gs used g = tt
  one SetMem S gs used g = tt
  one BoolMem S gs used g = tt
  one Calc S gs used g = tt
  one (Weak a) S gs used g = tt
  one (Cut a) S gs used g = tt
  one FalseE S gs used g = tt
  one NotI S gs used g = tt
  one AndI S gs used g = tt
  one OrI1 S gs used g = tt
  one OrI2 S gs used g = tt
  one ImpI S gs used g = tt
  one IffI S gs used g = tt
  one AllI S gs used g = tt
  one Sym S gs used g = tt
  one Cong S gs used g = tt
  one (Note a) S gs used g = tt
  one (AndE1 a) S gs used g = tt
  one (AndE2 a) S gs used g = tt
  one (OrE a) S gs used g = tt
  one (ImpE a) S gs used g = tt
  one (IffE1 a) S gs used g = tt
  one (IffE2 a) S gs used g = tt
  one (AllE a b) S gs used g = tt
  one (ExI a) S gs used g = tt
  one (ExE a) S gs used g = tt
  one (Trans a) S gs used g = tt
  one (Axiom a b) S gs used g = tt
  one (Theorem a b) S gs used g = tt
  one (Dis a b c) S gs used g = tt
  one (Infer a b) S gs used g = tt
  one (Rewrite a b c d) S gs used g = tt
  one (Cases a b c) S gs used g = tt
  one (Unfold a) S gs used g = tt
  one (Fold a b c) S gs used g = tt
  one (Recur a) S gs used g = tt
  one (Con a) S gs used g = tt
  one Induct S gs used g = tt
  one Open S gs used g = tt

  lines_cite : (lines : List (Option Step)) (n k : ℕ) (goals : List Sequent) (t : Trace) → ReplaysFrom cs n k goals lines t outcome.Complete → AllByRecursion (LineCites cs) lines
  lines_cite [] n k goals t r = tt
  lines_cite (None ∷ lines) n k goals t (q, o) = let no : outcome.Complete ≡ outcome.Broken n = o in cc
  lines_cite (Some step ∷ lines) n k [] t (q, o) = let no : outcome.Complete ≡ outcome.Broken n = o in cc
  lines_cite (Some step ∷ lines) n k (S ∷ goals) t (Goals gs, used, a, (later, rest, q)) = (one step S gs used a.gives, lines_cite lines (n + 1) k (gs ++ goals) later rest)
  lines_cite (Some step ∷ lines) n k (S ∷ goals) t (Left, used, a, (later, rest, q)) = (transport (λ x. LineCites cs (Some x)) (sym a.0) tt, lines_cite lines (n + 1) (k + 1) goals later rest)
  lines_cite (Some step ∷ lines) n k (S ∷ goals) t (Refused, used, a, (q, o)) = let no : outcome.Complete ≡ outcome.Broken n = o in cc

-- Statuses.
nothing_assumed : (rs : List Ref) → proved_or_assumed rs ≡ Proved → rs ≡ []
nothing_assumed [] h = refl
nothing_assumed (r ∷ rs) h = cc

axioms_of : (rs : List Ref) → status_axioms (proved_or_assumed rs) ≡ rs
axioms_of [] = refl
axioms_of (r ∷ rs) = refl

never_empty : (rs : List Ref) → proved_or_assumed rs ≢ Assumed []
never_empty [] h = cc
never_empty (r ∷ rs) h = cc

each_of : {X : Type 0} (xs ys : List X) → ((x : X) → Contains xs x → Contains ys x) → AllByRecursion (Contains ys) xs
each_of [] ys h = tt
each_of (x ∷ xs) ys h = (h x (contains_first x xs), each_of xs ys (λ y c. h y (contains_more y x xs c)))

module _ (p : Project) (v : Contents) (G : Name → Type 0) (sound_at : (n : Name) → G n → IsSoundAt p v n) (closed : (n u : Name) (e : Element) → G n → Contains (reach p v n) u → Contains (own p v u) e → G u)
    (within : (n u w : Name) → G n → Contains (reach p v n) u → Contains (reach p v u) w → Contains (reach p v n) w) where
  module _ (name : SeqName) (s : TheorySequent) (g : G name.theory) (q : Position p v name s) (lines : List (Option Step)) (sts : List Status) (known : AreKnown p v G sound_at closed within (needs_of p v name.theory s lines) sts)
      (all_fine : AllByRecursion (λ st. is_fine st ≡ true) sts) (none : assumed (cite_scope p v name.theory s.element) lines sts ≡ []) where
    abbrev cs : Scope
    cs = cite_scope p v name.theory s.element

    abbrev from : (ref : Ref) (e : Element) → cited (cite_scope p v name.theory s.element) ref ≡ Some e → Source p v G sound_at closed within name.theory q.at.before ref e
    from ref e h = source p v G sound_at closed within name s g q ref e h

    label_is : (ref : Ref) (e : Element) (h : cited (cite_scope p v name.theory s.element) ref ≡ Some e) → is_labelled ref.label e ≡ true
    label_is ref e h = find_passes (is_labelled ref.label) (from ref e h).first e (from ref e h).found

    established : (ref : Ref) → Contains (cites lines) ref → LabelIsEstablished (cite_scope p v name.theory s.element) ref
    established ref c = record {
      theorem = λ l P h.
          let i : Some l ≡ Some ref.label = ap Some (sym (same_name ref.label l (label_is ref (element.Theorem l P) h))) in
          (claim_holds p v G sound_at closed within name s g q lines sts known all_fine none ref (element.Theorem l P) (from ref (element.Theorem l P) h) ob.Thm thm_claim (λ D. named ob.Thm P) i i refl (λ D. theorem_claimed D l P) (λ D. refl) c).holds;
      inference = λ r h.
          let i : Some r.label ≡ Some ref.label = ap Some (sym (same_name ref.label r.label (label_is ref (element.Inference r) h))) in
          (claim_holds p v G sound_at closed within name s g q lines sts known all_fine none ref (element.Inference r) (from ref (element.Inference r) h) ob.Sound sound_claim
          (λ D. named ob.Sound (forall_all (type_list r.vars) (inference_formula r.givens r.conclusion))) i i refl (λ D. inference_claimed D r) (λ D. refl) c).holds;
      branches = λ r i b h n. branch_holds r i b h n;
      complete = λ r h t.
          let i : Some r.label ≡ Some ref.label = ap Some (sym (same_name ref.label r.label (label_is ref (element.Rewrite r) h))) in
          (claim_holds p v G sound_at closed within name s g q lines sts known all_fine none ref (element.Rewrite r) (from ref (element.Rewrite r) h) ob.Complete complete_claim
          (λ D. named ob.Complete (forall_all (type_list r.vars) (complete_formula r))) i i refl (λ D. complete_claimed D r t) (λ D. refl) c).holds;
    }
      where
        branch_holds : (r : RewriteRule) (i : ℕ) (b : Branch) → cited (cite_scope p v name.theory s.element) ref ≡ Some (element.Rewrite r) → numbered r.branches i ≡ Some b →
            HoldsUnfolded (cite_scope p v name.theory s.element).env (forall_all (type_list r.vars) (branch_formula (cite_scope p v name.theory s.element).env r b))
        branch_holds r zero b h n = cc
        branch_holds r (suc k) b h n =
            let i : Some r.label ≡ Some ref.label = ap Some (sym (same_name ref.label r.label (label_is ref (element.Rewrite r) h))) in
            let w = claim_holds p v G sound_at closed within name s g q lines sts known all_fine none ref (element.Rewrite r) (from ref (element.Rewrite r) h) (ob.SoundOf (1 + k)) (branch_claim (1 + k))
            (λ D. named (ob.SoundOf (1 + k)) (forall_all (type_list r.vars) (branch_formula D r b))) i i refl (λ D. branch_claimed D r k b n) (λ D. refl) c in
            let f : IsRewriteRule w.env r = w.formulas in
            let C = type_list r.vars in
            let over : Typed (cite_scope p v name.theory s.element).env C r.left f.type = whole_typed w.env (cite_scope p v name.theory s.element).env w.part (scope_sound p v name s (sound_at name.theory g) q).well_formed.distinct C r.left f.type f.left.typed in
            let same : type_in w.env C r.left ≡ type_in (cite_scope p v name.theory s.element).env C r.left = sym (Typed-type_in w.env C r.left f.type f.left.typed) ∙ Typed-type_in (cite_scope p v name.theory s.element).env C r.left f.type over in
            transport (λ A. HoldsUnfolded (cite_scope p v name.theory s.element).env (forall_all C (under_condition b.condition (equation A r.left b.right)))) same w.holds

    cite_established : (ls : List (Option Step)) → ((l : Option Step) → Contains ls l → Contains lines l) → CiteEstablished (cite_scope p v name.theory s.element) ls
    cite_established [] h = tt
    cite_established (l ∷ ls) h =
        ((λ step i ref j. established ref (step_cited lines step ref j (transport (Contains lines) i (h l (contains_first l ls))))), cite_established ls (λ x c. h x (contains_more x l ls c)))

    -- no line leans on an axiomatic element
    not_leaning : (ls : List (Option Step)) → AllByRecursion (LineCites (cite_scope p v name.theory s.element)) ls → ((l : Option Step) → Contains ls l → Contains lines l) → NoLineLeans ls
    not_leaning [] c h = tt
    not_leaning (l ∷ ls) c h = ((λ step i. by step (transport (LineCites (cite_scope p v name.theory s.element)) i c.0) (transport (Contains lines) i (h l (contains_first l ls)))), not_leaning ls c.1 (λ x d. h x (contains_more x l ls d)))
      where
        assuming : (ref : Ref) (l' : Option Step) → assume_refs l' ≡ ref ∷ [] → (label : Name) (P : Term) → cited (cite_scope p v name.theory s.element) ref ≡ Some (element.Axiom label P) → Contains lines l' → ⊥
        assuming ref l' a label P may m =
            let i : Some label ≡ Some ref.label = ap Some (sym (same_name ref.label label (label_is ref (element.Axiom label P) may))) in
            no_axiom p v G sound_at closed within name s g q lines sts known all_fine none ref
            (label_stands p v G sound_at closed within name s g q ref (element.Axiom label P) (from ref (element.Axiom label P) may) i (λ (x : CiteElement). is_axiom x.element) refl)
            (contains_front (flat_map assume_refs lines) (flat_map status_axioms sts) ref (flat_stands assume_refs lines l' ref m (transport (λ rs. Contains rs ref) (sym a) (contains_first ref []))))

        by : (step : Step) → LineCites (cite_scope p v name.theory s.element) (Some step) → Contains lines (Some step) → LeansOnAxiom step → ⊥
        by (Assume ref cite) (label, P, may) m t = assuming ref (Some (Assume ref cite)) refl label P may m
        by _ k m t = absurd t

    pub proof_holds : (t : Trace) → IsReplayed p v name s lines t outcome.Complete → Holds p v G sound_at closed within name s
    proof_holds t r =
        complete_is_sound (cite_scope p v name.theory s.element) (scope_is p v name s (sound_at name.theory g) q) (scope_sound p v name s (sound_at name.theory g) q).well_formed (goal_sequent s) (sequent_typed p v name s (sound_at name.theory g) q) lines t
        (cite_established lines (λ l c. c)) (not_leaning lines (lines_cite (cite_scope p v name.theory s.element) lines 1 0 (goal_sequent s ∷ []) t r.replays) (λ l c. c)) r.replays

  same_sequents : (s s₁ : TheorySequent) (o : Option TheorySequent) → o ≡ Some s → o ≡ Some s₁ → s ≡ s₁
  same_sequents s s₁ o h k = let i : Some s ≡ Some s₁ = sym h ∙ k in cc

  mutual
    pub known_of : (name : SeqName) (st : Status) → HasStatus p v name st → Known p v G sound_at closed within name st
    known_of name st (no_proof n s f u) = record { holds = λ g h s₁ f₁. (let no : NoProof ≡ Proved = h in cc); axioms_there = λ s₁ f₁. tt; some = λ h. (let no : NoProof ≡ Assumed [] = h in cc) }
    known_of name st (broken n s lines t k r) = record { holds = λ g h s₁ f₁. (let no : Broken k ≡ Proved = h in cc); axioms_there = λ s₁ f₁. tt; some = λ h. (let no : Broken k ≡ Assumed [] = h in cc) }
    known_of name st (partial n s lines t k r) = record { holds = λ g h s₁ f₁. (let no : Partial k ≡ Proved = h in cc); axioms_there = λ s₁ f₁. tt; some = λ h. (let no : Partial k ≡ Assumed [] = h in cc) }
    known_of name st (leans n s lines t r before after X e sts hs fs st' x bad) = record { holds = λ g h s₁ f₁. (let no : Leans X ≡ Proved = h in cc); axioms_there = λ s₁ f₁. tt; some = λ h. (let no : Leans X ≡ Assumed [] = h in cc) }
    known_of name st (fine n s lines t r sts hs fs) =
        let all = all_known (needs_of p v n.theory s lines) sts hs in
        record {
          holds = λ g h s₁ f₁.
              transport (Holds p v G sound_at closed within n) (same_sequents s s₁ (find_sequent p v n) r.exists f₁)
              (proof_holds n s g (position p v n s (sound_at n.theory g) r.exists) lines sts all fs (nothing_assumed (assumed (cite_scope p v n.theory s.element) lines sts) h) t r);
          axioms_there = λ s₁ f₁.
              transport (λ z. AllByRecursion (Contains (axioms (cite_scope p v n.theory z.element))) (status_axioms (proved_or_assumed (assumed (cite_scope p v n.theory s.element) lines sts)))) (same_sequents s s₁ (find_sequent p v n) r.exists f₁)
              (transport (AllByRecursion (Contains (axioms (cite_scope p v n.theory s.element)))) (sym (axioms_of (assumed (cite_scope p v n.theory s.element) lines sts)))
              (each_of (assumed (cite_scope p v n.theory s.element) lines sts) (axioms (cite_scope p v n.theory s.element)) (λ x c. stands_filter (has_ref (flat_map assume_refs lines ++ flat_map status_axioms sts)) (axioms (cite_scope p v n.theory s.element)) x c)));
          some = never_empty (assumed (cite_scope p v n.theory s.element) lines sts);
        }

    all_known : (names : List SeqName) (sts : List Status) → HaveStatuses p v names sts → AreKnown p v G sound_at closed within names sts
    all_known names sts no_statuses = tt
    all_known names sts (more_statuses name ns st rest h hs) = (known_of name st h, all_known ns rest hs)
