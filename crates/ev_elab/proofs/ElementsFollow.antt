-- The elements of a theory that is elaborated may follow those of its scope and those before them.
use Rattle.std.specs.Prelude.{◌≡◌, ◌<◌, ◌^◌, false, List, [], ◌∷◌, Option, Some, length}
use Rattle.std.specs.List.{AllByRecursion, list_any}
use Rattle.std.proofs.Common.{sym, subst as transport}
use Rattle.ev_terms.specs.Term.{Term}
use Rattle.ev_syntax.specs.Raw.{Raw}
use Rattle.ev_theory_text.specs.declared.elements.RawElement.{RawElement}
use Rattle.ev_theory_text.specs.declared.elements.RawElement.TheVariants.{Read, Bad}
use Rattle.ev_theory_text.specs.declared.forms.RawHead.{RawHead}
use Rattle.ev_theory_text.specs.declared.forms.RawCase.{RawCase}
use Rattle.ev_theory_text.specs.declared.forms.RawBody.{RawBody}
use Rattle.ev_theory_text.specs.declared.forms.RawBody.TheVariants.{Direct, Recursive}
use Rattle.ev_theory_text.specs.declared.forms.ElementForm.{ElementForm}
use Rattle.ev_theory_text.specs.declared.forms.ElementForm.TheVariants.{Import, Param, Datatype, Operator, Constant, Axiom, Theorem, Rewrite, Inference}
use Rattle.ev_typing.specs.Env.{Env, Name}
use Rattle.ev_data.specs.Sound.{IsSound}
use Rattle.ev_rules.specs.declared.elements.Element.{Element}
use Rattle.ev_ops.specs.Entries.{with_element, with_elements}
use Rattle.ev_ops.specs.Formulas.{MayFollow, MayFollowAll}
use Rattle.ev_elab.specs.States.{State, after}
use Rattle.ev_elab.specs.Unknown.{type_unknown}
use Rattle.ev_elab.specs.Parts.{head_types, written_types}
use Rattle.ev_elab.specs.Taken.{declared_formulas}
use Rattle.ev_elab.specs.Types.{Head, read_head}
use Rattle.ev_elab.specs.Readings.{Recursion, ReadsElement, ReadsBody, ReadsRecursive, ReadsOptional}
use Rattle.ev_elab.specs.Faults.{IsAdmitted, IsWithinLimits, IsElementOf, IsElement}
use Rattle.ev_elab.specs.Elaborated.{AreElements}
use Rattle.ev_elab.specs.Written.{IsFromText, IsPartFromText}
use Rattle.ev_elab.proofs.Gathering.{or_none}
use Rattle.ev_elab.proofs.NewNames.{AreFree, declared_free}
use Rattle.ev_elab.proofs.RulesFollow.{closed_formula, rewrite_follows, inference_follows}
use Rattle.ev_elab.proofs.OperatorsFollow.{constant_follows, direct_follows}
use Rattle.ev_elab.proofs.DatatypesFollow.{data_follows}
use Rattle.ev_elab.proofs.SoundAfter.{sound_after}

-- A recursive operator that is read, admitted and within the limits may follow.
abbrev pub RecursiveFollows : Type 0
RecursiveFollows =
    (params : List Name) (env : Env) → IsSound env → (h : RawHead) (k : Head) → read_head params env h ≡ Some k → list_any (type_unknown params) (head_types env h) ≡ false → length h.args < 2 ^ 30 → AreFree env (h.name ∷ [])
    → (o : Option Raw) (C : Option Term) → ReadsOptional params env k.vars o C → (by : Name) (cases : List RawCase) (r : Option Recursion) (x : Element) → ReadsRecursive params env k C by cases r x → IsAdmitted env r x
    → IsWithinLimits (with_element env x) x → MayFollow env x

module _ (recursive : RecursiveFollows) where
  body_follows : (params : List Name) (env : Env) → IsSound env → (h : RawHead) (k : Head) → read_head params env h ≡ Some k → list_any (type_unknown params) (head_types env h) ≡ false → length h.args < 2 ^ 30 → AreFree env (h.name ∷ []) →
      (o : Option Raw) (C : Option Term) → ReadsOptional params env k.vars o C → (body : RawBody) (r : Option Recursion) (x : Element) → ReadsBody params env k C body r x → IsAdmitted env r x → IsWithinLimits (with_element env x) x → MayFollow env x
  body_follows params env u h k e i few free o C c (Direct raw) r x g a l =
      let (t, f, q, p) = g in
      transport (MayFollow env) (sym p) (direct_follows params env u.well_formed h k e i few free o C c raw t f (transport (IsAdmitted env r) p a))
  body_follows params env u h k e i few free o C c (Recursive by cases) r x g a l = recursive params env u h k e i few free o C c by cases r x g a l

  module _ (s : State) (u : IsSound s.env) where
    form_follows : (form : ElementForm) (r : Option Recursion) (x : Element) → list_any (type_unknown s.params) (written_types s.env form) ≡ false → AreFree s.env (declared_formulas form) → ReadsElement s form r x → IsAdmitted s.env r x →
        IsWithinLimits (with_element s.env x) x → IsFromText form → MayFollow s.env x
    form_follows (Import n) r x i free g a l t = transport (MayFollow s.env) (sym g.1) (tt, tt)
    form_follows (Param names) r x i free g a l t = transport (MayFollow s.env) (sym g.1) (tt, tt)
    form_follows (Datatype n listed cons) r x i free g a l t =
        let (q, (d, e, p)) = g in
        transport (MayFollow s.env) (sym p) (data_follows s.params s.env n listed cons d e free t.few (transport (IsAdmitted s.env r) p a))
    form_follows (Operator h o body) r x i free g a l t =
        let (k, C, e, c, f) = g in
        body_follows s.params s.env u h k e i t.few free o C c body r x f a l
    form_follows (Constant h o) r x i free g a l t =
        let (q, (k, C, e, c, p)) = g in
        transport (MayFollow s.env) (sym p) (constant_follows s.params s.env u.well_formed h k e i t.few free o C c (transport (IsAdmitted s.env r) p a))
    form_follows (Axiom n raw) r x i free g a l t =
        let (q, (P, f, p)) = g in
        transport (MayFollow s.env) (sym p) (tt, closed_formula s.params s.env raw P f)
    form_follows (Theorem n raw) r x i free g a l t =
        let (q, (P, f, p)) = g in
        transport (MayFollow s.env) (sym p) (tt, closed_formula s.params s.env raw P f)
    form_follows (Rewrite n vars left branches complete) r x i free g a l t =
        let (q, (w, m, c, f, p)) = g in
        transport (MayFollow s.env) (sym p) (tt, rewrite_follows s.params s.env u.well_formed vars left branches w t.branch f)
    form_follows (Inference n vars givens raw) r x i free g a l t =
        let (q, (w, m, f, p)) = g in
        transport (MayFollow s.env) (sym p) (tt, inference_follows s.params s.env vars givens raw w f)

    pub element_follows_by : (form : ElementForm) (x : Element) → IsElementOf s form x → IsFromText form → MayFollow s.env x
    element_follows_by form x h t =
        form_follows form h.recursion x (or_none (list_any (type_unknown s.params) (written_types s.env form)) _ h.read.names.in_scope).0
        (declared_free s form h.read.names.free) h.read.reads h.admitted h.fits t

-- The parts of a theory's text.
module _ (recursive : RecursiveFollows) where
  part_follows : (s : State) → IsSound s.env → (raw : RawElement) (x : Element) → IsElement s raw x → IsPartFromText raw → MayFollow s.env x
  part_follows s u (Bad k) x h t = absurd h
  part_follows s u (Read form) x h t = element_follows_by recursive s u form x h t

  pub parts_follow : (s : State) → IsSound s.env → (raws : List RawElement) (xs : List Element) → AreElements s raws xs → AllByRecursion IsPartFromText raws → MayFollowAll s.env xs × IsSound (with_elements s.env xs)
  parts_follow s u [] [] h t = (tt, u)
  parts_follow s u [] (x ∷ xs) h t = absurd h
  parts_follow s u (raw ∷ raws) [] h t = absurd h
  parts_follow s u (raw ∷ raws) (x ∷ xs) h t =
      let f = part_follows s u raw x h.0 t.0 in
      let g = parts_follow (after s x) (sound_after s.env u x f) raws xs h.1 t.1 in
      ((f, g.0), g.1)
