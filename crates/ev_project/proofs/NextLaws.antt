-- Each event leaves a project as projects are.
use Rattle.std.specs.Prelude.{◌≡◌, ◌⊎◌, ◌<◌, ◌^◌, ℕ, Bool as Boolean, true, false, not, List, [], ◌∷◌, Option, Some, None, map, filter, length, bytes_eq, if◌then◌else◌, refl}
use Rattle.std.specs.List.{AllByRecursion, IsDistinct}
use Rattle.std.proofs.Common.{inl, inr, sym, subst}
use Rattle.std.proofs.lemmas.Bool.{cases_Bool}
use Rattle.ev_typing.specs.Env.{Name}
use Rattle.ev_script.specs.declared.sequent_names.SeqName.{SeqName}
use Rattle.ev_script.specs.declared.events.Event.{Event}
use Rattle.ev_script.specs.declared.events.Event.TheVariants.{Put, Remove, Proof, Deploy, Withdraw, Status, Show}
use Rattle.ev_proof.specs.Lines.{proof_lines}
use Rattle.ev_project.specs.declared.projects.TheoryText.{TheoryText}
use Rattle.ev_project.specs.declared.projects.StoredProof.{StoredProof}
use Rattle.ev_project.specs.declared.replies.Cause.{Cause}
use Rattle.ev_project.specs.declared.replies.Reply.{Reply}
use Rattle.ev_project.specs.Projects.{Project, empty_project, same_sequent}
use Rattle.ev_project.specs.Texts.{IsAcyclic}
use Rattle.ev_project.specs.Contents.{Contents}
use Rattle.ev_project.specs.Changes.{put_item, with_text, without_text, with_mark, with_proof, without_proof, with_body}
use Rattle.ev_project.specs.Refusals.{refusal}
use Rattle.ev_project.specs.Kept.{IsOrderly, IsKept, IsShort}
use Rattle.ev_project.specs.Next.{RefusedOrDone, TakesEffect, IsNext, RunsTo, IsProjectOf}
use Rattle.ev_project.proofs.KeptLaws.{empty_orderly}
use Rattle.ev_project.proofs.ChangeLaws.{marked_names, distinct_put, distinct_filter}
use Rattle.ev_project.proofs.AcyclicLaws.{removing, marking, putting, same_texts}

-- how an event changes a project
data Changed (p : Project) (e : Event) (q : Project) : Type 0 where
  unchanged : q ≡ p → Changed p e q
  text_set : (n : Name) (text : List ℕ) → e ≡ Put n text → q ≡ with_text p n text → (IsAcyclic p → IsAcyclic (with_text p n text)) → Changed p e q
  text_taken : (n : Name) → q ≡ without_text p n → Changed p e q
  mark_set : (n : Name) (mark : Boolean) → q ≡ with_mark p n mark → Changed p e q
  proof_set : (s : SeqName) (body : List ℕ) (lines : List (List ℕ)) → e ≡ Proof s body → q ≡ with_body p s body lines → Changed p e q

done_or_same : (p : Project) (v : Contents) (e : Event) (q : Project) (r : Reply) (c : Option Cause) → RefusedOrDone c p v e q r → (q ≡ p) ⊎ TakesEffect p v e q r
done_or_same p v e q r (Some c) h = inl h.same
done_or_same p v e q r None h = inr h

changes : (p : Project) (e : Event) (q : Project) (r : Reply) → IsNext p e q r → Changed p e q
changes p (Put n text) q r (v, read, (es, is, inl refused)) = unchanged refused.2.same
changes p (Put n text) q r (v, read, (es, is, inr done)) = text_set n text refl done.1.project_is (putting p v.raw_elements n text es read is done.0)
changes p (Remove n) q r (v, read, h) = elim (done_or_same p v (Remove n) q r (refusal p v (Remove n)) h) [
  | inl same ↦ unchanged same
  | inr done ↦ text_taken n done.project_is
]
changes p (Proof s body) q r (v, read, h) = elim (done_or_same p v (Proof s body) q r (refusal p v (Proof s body)) h) [
  | inl same ↦ unchanged same
  | inr done ↦ proof_set s body (proof_lines body) refl done.project_is
]
changes p (Deploy n) q r (v, read, h) = elim (done_or_same p v (Deploy n) q r (refusal p v (Deploy n)) h) [
  | inl same ↦ unchanged same
  | inr done ↦ mark_set n true done.project_is
]
changes p (Withdraw n) q r (v, read, h) = elim (done_or_same p v (Withdraw n) q r (refusal p v (Withdraw n)) h) [
  | inl same ↦ unchanged same
  | inr done ↦ mark_set n false done.project_is
]
changes p Status q r (v, read, h) = elim (done_or_same p v Status q r (refusal p v Status) h) [
  | inl same ↦ unchanged same
  | inr answered ↦ unchanged answered.2.same
]
changes p (Show s) q r (v, read, h) = elim (done_or_same p v (Show s) q r (refusal p v (Show s)) h) [
  | inl same ↦ unchanged same
  | inr answered ↦ unchanged answered.2.same
]

with_body_orderly : (p : Project) (s : SeqName) (body : List ℕ) (lines : List (List ℕ)) → IsOrderly p → IsOrderly (with_body p s body lines)
with_body_orderly p s body [] o = record {
  one_text = o.one_text;
  one_proof = distinct_filter (λ (q : StoredProof). q.name) same_sequent (λ (q : StoredProof). not (same_sequent q.name s)) p.1 o.one_proof;
  acyclic = same_texts p (without_proof p s).1 o.acyclic;
}
with_body_orderly p s body (l ∷ lines) o = record {
  one_text = o.one_text;
  one_proof =
      distinct_put (λ (q : StoredProof). q.name) same_sequent s (λ (q : StoredProof). record { name = q.name; body = body }) (record { name = s; body = body }) (λ q. refl) refl
      p.1 o.one_proof;
  acyclic = same_texts p (with_proof p s body).1 o.acyclic;
}

changed_orderly : (p : Project) (e : Event) (q : Project) → IsOrderly p → Changed p e q → IsOrderly q
changed_orderly p e q o (unchanged same) = subst IsOrderly (sym same) o
changed_orderly p e q o (text_set n text is same acyclic) =
    subst IsOrderly (sym same)
    (record {
      one_text =
          distinct_put (λ (t : TheoryText). t.name) bytes_eq n (λ (t : TheoryText). record { name = t.name; text = text; marked = t.marked })
          (record { name = n; text = text; marked = false }) (λ t. refl) refl p.0 o.one_text;
      one_proof = o.one_proof;
      acyclic = acyclic o.acyclic;
    })
changed_orderly p e q o (text_taken n same) =
    subst IsOrderly (sym same)
    (record {
      one_text = distinct_filter (λ (t : TheoryText). t.name) bytes_eq (λ (t : TheoryText). not (bytes_eq t.name n)) p.0 o.one_text;
      one_proof = o.one_proof;
      acyclic = removing p n o.acyclic;
    })
changed_orderly p e q o (mark_set n mark same) =
    subst IsOrderly (sym same)
    (record { one_text = subst (IsDistinct bytes_eq) (sym (marked_names p.0 n mark)) o.one_text; one_proof = o.one_proof; acyclic = marking p n mark o.acyclic })
changed_orderly p e q o (proof_set s body lines is same) = subst IsOrderly (sym same) (with_body_orderly p s body lines o)

pub next_orderly : (p q : Project) (e : Event) (r : Reply) → IsOrderly p → IsNext p e q r → IsOrderly q
next_orderly p q e r o h = changed_orderly p e q o (changes p e q r h)

-- what holds of each item still does so once one is put, and once some are taken away
all_put : {X : Type 0} (P : X → Type 0) (test : X → Boolean) (change : X → X) (new : X) → ((x : X) → P (change x)) → P new → (xs : List X) → AllByRecursion P xs
    → AllByRecursion P (put_item test change new xs)
all_put P test change new changed is_new [] h = (is_new, tt)
all_put P test change new changed is_new (x ∷ xs) h = elim (cases_Bool (test x)) [
  | inl y ↦ rw y (changed x, h.1)
  | inr y ↦ rw y (h.0, all_put P test change new changed is_new xs h.1)
]

all_filter : {X : Type 0} (P : X → Type 0) (test : X → Boolean) (xs : List X) → AllByRecursion P xs → AllByRecursion P (filter test xs)
all_filter P test [] h = tt
all_filter P test (x ∷ xs) h = elim (cases_Bool (test x)) [
  | inl y ↦ rw y (h.0, all_filter P test xs h.1)
  | inr y ↦ rw y (all_filter P test xs h.1)
]

abbrev has_short_text : TheoryText → Type 0
has_short_text t = length t.text < 2 ^ 32

abbrev has_short_body : StoredProof → Type 0
has_short_body q = length q.body < 2 ^ 32

marked_short : (n : Name) (mark : Boolean) (ts : List TheoryText) → AllByRecursion has_short_text ts
    → AllByRecursion has_short_text (map (λ (t : TheoryText). if bytes_eq t.name n then record { name = t.name; text = t.text; marked = mark } else t) ts)
marked_short n mark [] h = tt
marked_short n mark (t ∷ ts) h = elim (cases_Bool (bytes_eq t.name n)) [
  | inl y ↦ rw y (h.0, marked_short n mark ts h.1)
  | inr y ↦ rw y (h.0, marked_short n mark ts h.1)
]

with_body_short : (p : Project) (s : SeqName) (body : List ℕ) (lines : List (List ℕ)) → length body < 2 ^ 32 → AllByRecursion has_short_body p.1
    → AllByRecursion has_short_body (with_body p s body lines).1
with_body_short p s body [] short h = all_filter has_short_body (λ (q : StoredProof). not (same_sequent q.name s)) p.1 h
with_body_short p s body (l ∷ lines) short h =
    all_put has_short_body (λ (q : StoredProof). same_sequent q.name s) (λ (q : StoredProof). record { name = q.name; body = body }) (record { name = s; body = body }) (λ q. short) short p.1 h

with_body_texts : (p : Project) (s : SeqName) (body : List ℕ) (lines : List (List ℕ)) → AllByRecursion has_short_text p.0 → AllByRecursion has_short_text (with_body p s body lines).0
with_body_texts p s body [] h = h
with_body_texts p s body (l ∷ lines) h = h

changed_kept : (p : Project) (e : Event) (q : Project) → IsKept p → IsShort e → Changed p e q → IsKept q
changed_kept p e q k short c = record { orderly = changed_orderly p e q k.orderly c; texts = texts c; bodies = bodies c }
  where
    texts : Changed p e q → AllByRecursion has_short_text q.0
    texts (unchanged same) = subst (λ (x : Project). AllByRecursion has_short_text x.0) (sym same) k.texts
    texts (text_set n text is same acyclic) =
        let fits : length text < 2 ^ 32 = subst IsShort is short in
        subst (λ (x : Project). AllByRecursion has_short_text x.0) (sym same)
        (all_put has_short_text (λ (t : TheoryText). bytes_eq t.name n) (λ (t : TheoryText). record { name = t.name; text = text; marked = t.marked })
        (record { name = n; text = text; marked = false }) (λ t. fits) fits p.0 k.texts)
    texts (text_taken n same) =
        subst (λ (x : Project). AllByRecursion has_short_text x.0) (sym same) (all_filter has_short_text (λ (t : TheoryText). not (bytes_eq t.name n)) p.0 k.texts)
    texts (mark_set n mark same) = subst (λ (x : Project). AllByRecursion has_short_text x.0) (sym same) (marked_short n mark p.0 k.texts)
    texts (proof_set s body lines is same) = subst (λ (x : Project). AllByRecursion has_short_text x.0) (sym same) (with_body_texts p s body lines k.texts)

    bodies : Changed p e q → AllByRecursion has_short_body q.1
    bodies (unchanged same) = subst (λ (x : Project). AllByRecursion has_short_body x.1) (sym same) k.bodies
    bodies (text_set n text is same acyclic) = subst (λ (x : Project). AllByRecursion has_short_body x.1) (sym same) k.bodies
    bodies (text_taken n same) = subst (λ (x : Project). AllByRecursion has_short_body x.1) (sym same) k.bodies
    bodies (mark_set n mark same) = subst (λ (x : Project). AllByRecursion has_short_body x.1) (sym same) k.bodies
    bodies (proof_set s body lines is same) =
        let fits : length body < 2 ^ 32 = subst IsShort is short in
        subst (λ (x : Project). AllByRecursion has_short_body x.1) (sym same) (with_body_short p s body lines fits k.bodies)

pub next_kept : (p q : Project) (e : Event) (r : Reply) → IsKept p → IsShort e → IsNext p e q r → IsKept q
next_kept p q e r k short h = changed_kept p e q k short (changes p e q r h)

runs_orderly : (es : List Event) (p q : Project) (rs : List Reply) → IsOrderly p → RunsTo p es q rs → IsOrderly q
runs_orderly [] p q [] o h = subst IsOrderly (sym h) o
runs_orderly [] p q (r ∷ rs) o h = absurd h
runs_orderly (e ∷ es) p q [] o h = absurd h
runs_orderly (e ∷ es) p q (r ∷ rs) o h = runs_orderly es h.0 q rs (next_orderly p h.0 e r o h.1) h.2

pub projects_orderly : (es : List Event) (p : Project) → IsProjectOf es p → IsOrderly p
projects_orderly es p h = runs_orderly es empty_project p h.0 empty_orderly h.1
