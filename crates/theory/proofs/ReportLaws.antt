-- Statuses and their lines.
use Rattle.std.proofs.Common.{◌≡◌, ◌≤◌, ◌<◌, ◌+◌, ◌++◌, ℕ, suc, List, [], ◌∷◌, Option, Some, None, Result, Ok, Err, OnOk, append_assoc, drop, get_or, length, option_and_then, slice_get, take, refl, ap, subst, sym, ◌∙◌}
use Rattle.std.proofs.lemmas.List.{append-nil, take_more}
use Rattle.std.proofs.Math.ListN.{drop_of_length-le}
use Rattle.std.specs.List.{AllByRecursion, AllZip}
use Rattle.ev_terms.specs.declared.types.Tys.{Tys, Empty}
use Rattle.ev_terms.specs.declared.types.Tys.{Empty}
use Rattle.ev_terms.specs.Types.{more, type_list}
use Rattle.ev_terms.specs.Term.{Term}
use Rattle.ev_typing.specs.declared.typing.Sequent.{Sequent}
use Rattle.ev_typing.specs.BaseSequents.{IsBaseSequent}
use Rattle.ev_kernel.specs.Derivable.{Derivable}
use Rattle.theory.specs.declared.steps.Step.{Step}
use Rattle.theory.specs.declared.steps.Outcome.{Outcome}
use Rattle.theory.specs.declared.steps.Outcome.TheVariants.{Complete, Partial, Broken}
use Rattle.theory.specs.declared.reports.Status.{Status}
use Rattle.theory.specs.declared.reports.Status.TheVariants.{Proved}
use Rattle.theory.specs.declared.theorems.Theorem.{Theorem}
use Rattle.theory.specs.declared.script.StoredProof.{StoredProof}
use Rattle.theory.specs.declared.script.Theory.{Theory}
use Rattle.theory.specs.Steps.{Replays}
use Rattle.theory.specs.Reports.{closed, kept_steps, stored_steps, status_of, IsStatus, HasStatus, IsJustified, IsTheoryReport, theory_line, theorem_lines}
use Rattle.theory.specs.inner.Reports.{IsIndexOf, HasPredicates}
use Rattle.theory.proofs.StepLaws.{proved_derivable}

-- A printed `proved` is a derivation.
complete_if_proved : (o : Outcome) → Proved ≡ status_of o → o ≡ Complete
complete_if_proved Complete e = refl
complete_if_proved (Partial k) e = cc
complete_if_proved (Broken n) e = cc

justified_with : (stored : Option (List Step)) (P : Term) (st : Status) → IsBaseSequent [] (closed P) → IsStatus stored P st → st ≡ Proved → Derivable [] (closed P)
justified_with None P st b h e = absurd (let f = sym e ∙ h in cc)
justified_with (Some steps) P st b (o, r, h) e = proved_derivable [] (closed P) steps b (subst (Replays [] (closed P) steps) (complete_if_proved o (sym e ∙ h)) r)

justify : (proofs : List StoredProof) (theory : List ℕ) (ts : List Theorem) (sts : List Status) → AllByRecursion (λ (t : Theorem). IsBaseSequent [] (closed t.goal)) ts
    → AllZip (HasStatus proofs theory) ts sts → AllZip IsJustified ts sts
justify proofs theory [] [] b h = tt
justify proofs theory (t ∷ ts) [] b h = h
justify proofs theory [] (st ∷ sts) b h = h
justify proofs theory (t ∷ ts) (st ∷ sts) b h = (justified_with (stored_steps proofs theory t.label) t.goal st b.0 h.0, justify proofs theory ts sts b.1 h.1)

pub report_is : (t : Theory) (proofs : List StoredProof) (sts : List Status) (text : List ℕ) → HasPredicates (Some t) → AllZip (HasStatus proofs t.name) t.theorems sts → text ≡ theory_line t.name ++ theorem_lines t.name t.theorems sts
    → IsTheoryReport t proofs text
report_is t proofs sts text b h e = record { statuses = sts; are = h; written = e; justified = justify proofs t.name t.theorems sts b h }

pub as_many : {A B : Type 0} (R : A → B → Type 0) (xs : List A) (ys : List B) → AllZip R xs ys → length xs ≡ length ys
as_many R [] [] h = refl
as_many R (x ∷ xs) [] h = absurd h
as_many R [] (y ∷ ys) h = absurd h
as_many R (x ∷ xs) (y ∷ ys) h = ap suc (as_many R xs ys h.1)

pub one_more : {A B : Type 0} (R : A → B → Type 0) (xs : List A) (ys : List B) (x : A) (y : B) → AllZip R xs ys → R x y → AllZip R (xs ++ x ∷ []) (ys ++ y ∷ [])
one_more R [] [] x y h r = (r, tt)
one_more R (a ∷ xs) [] x y h r = absurd h
one_more R [] (b ∷ ys) x y h r = absurd h
one_more R (a ∷ xs) (b ∷ ys) x y h r = (h.0, one_more R xs ys x y h.1 r)

-- no theorem is left
pub no_lines : (theory : List ℕ) (ts : List Theorem) (sts : List Status) (at : ℕ) (done all : List ℕ) → length ts ≤ at → done ++ theorem_lines theory (drop at ts) (drop at sts) ≡ all → done ≡ all
no_lines theory ts sts at done all le h = sym (append-nil done) ∙ ap (λ left. done ++ theorem_lines theory left (drop at sts)) (sym (drop_of_length-le ts le)) ∙ h

pub has_status : (proofs : List StoredProof) (theory : List ℕ) (t : Theorem) (place : List ℕ → Option ℕ) (steps : Option (List Step)) (st : Status) → IsIndexOf theory proofs proofs place
    → steps ≡ kept_steps (option_and_then (slice_get proofs) (place t.label)) → IsStatus steps t.goal st → HasStatus proofs theory t st
has_status proofs theory t place steps st i e h = subst (λ s. IsStatus s t.goal st) (e ∙ ap kept_steps (i t.label)) h

pub statuses_next : (proofs : List StoredProof) (theory : List ℕ) (ts : List Theorem) (sts now : List Status) (at : ℕ) (t : Theorem) (st : Status) → at < length ts → t ≡ get_or ts at t → now ≡ sts ++ st ∷ []
    → HasStatus proofs theory t st → AllZip (HasStatus proofs theory) (take at ts) sts → AllZip (HasStatus proofs theory) (take (at + 1) ts) now
statuses_next proofs theory ts sts now at t st lt is e h all =
    let R = HasStatus proofs theory in
    subst (AllZip R (take (at + 1) ts)) (sym e) (subst (λ xs. AllZip R xs (sts ++ st ∷ [])) (ap (λ x. take at ts ++ x ∷ []) is ∙ sym (take_more ts at t lt)) (one_more R (take at ts) sts t st all h))

-- four pieces, one behind the other
pub in_parts : (old a b c d one two three four : List ℕ) → one ≡ old ++ a → two ≡ one ++ b → three ≡ two ++ c → four ≡ three ++ d → four ≡ old ++ (((a ++ b) ++ c) ++ d)
in_parts old a b c d one two three four e f g h =
    h ∙ ap (λ x. x ++ d) (g ∙ ap (λ x. x ++ c) (f ∙ ap (λ x. x ++ b) e ∙ append_assoc old a b) ∙ append_assoc old (a ++ b) c) ∙ append_assoc old ((a ++ b) ++ c) d

pub on_ok : {T E : Type 0} (P Q : Type 0) (r : Result T E) → (P → Q) → OnOk r P → OnOk r Q
on_ok P Q (Ok x) f h = f h
on_ok P Q (Err e) f h = h

pub text_is : (name : List ℕ) (ts ts' : List Theorem) (sts sts' : List Status) (zero one two : List ℕ) → zero ≡ [] → one ≡ zero ++ theory_line name → ts' ≡ ts → sts' ≡ sts → two ≡ one ++ theorem_lines name ts' sts'
    → two ≡ theory_line name ++ theorem_lines name ts sts
text_is name ts ts' sts sts' zero one two e f g h k =
    k ∙ ap (λ x. x ++ theorem_lines name ts' sts') (f ∙ ap (λ x. x ++ theory_line name) e) ∙ ap (λ x. theory_line name ++ theorem_lines name x sts') g ∙ ap (λ x. theory_line name ++ theorem_lines name ts x) h

nothing_there : {A : Type 0} (x : A) (xs : List A) → x ∷ xs ≡ [] → ⊥
nothing_there x xs e = cc

pub closed_is : (c : Tys) (hs : List Term) (P Q : Term) → type_list c ≡ [] → hs ≡ [] → P ≡ Q → ◌≡◌ {A = Sequent} (record { context = c; hyps = hs; goal = P }) (closed Q)
closed_is Empty hs P Q e f g = cc
closed_is (more ty tys) hs P Q e f g = absurd (nothing_there ty (type_list tys) e)
