-- The units of a script, one after the other.
use Rattle.std.proofs.Common.{◌≡◌, ◌+◌, ◌<◌, ◌≤◌, ℕ, zero, suc, ◌-◌, true, false, List, [], ◌∷◌, ◌++◌, Option, Some, None, length, take, drop, length-drop, drop-drop, refl, ap, subst, sym, ◌∙◌, append_assoc, arith, ◌⊎◌, inl, inr}
use Rattle.std.proofs.lemmas.List.{append-nil}
use Rattle.std.specs.List.{AllZip, list_all}
use Rattle.std.specs.Prelude.{option_map, slice_range}
use denote.Ref.{Bor}
use Rattle.theory.specs.declared.steps.Step.{Step}
use Rattle.theory.specs.declared.script.Head.{Head}
use Rattle.theory.specs.declared.script.Head.TheVariants.{Put, Proof}
use Rattle.theory.specs.declared.script.StoredProof.{StoredProof}
use Rattle.theory.specs.declared.script.Theory.{Theory}
use Rattle.theory.specs.Words.{are_blanks, full_lines, trimmed, words_of}
use Rattle.theory.specs.inner.Pieces.{piece, texts}
use Rattle.theory.specs.Steps.{IsStep}
use Rattle.theory.specs.Theorems.{AreTheorems}
use Rattle.theory.specs.Scripts.{Body, ScriptUnit, UnitFront, body_of, with_line, with_body, is_end, head_of, head_of_words, proof_head, unit_front, IsProof, AreProofs, AreScript}
use Rattle.theory.specs.inner.Scripts.{BlankSoFar, IsUnitAt, PutsNothing}
use Rattle.theory.specs.declared.script.Script.{Script}
use Rattle.theory.specs.declared.theorems.Theorem.{Theorem}
use Rattle.theory.proofs.MarkLaws.{two}
use Rattle.theory.proofs.ReadingLaws.{texts_next, texts_end, some_one, step_one}

pub texts-take : (pieces : List (Bor (List ℕ))) (i : ℕ) → texts (take i pieces) ≡ take i (texts pieces)
texts-take [] zero = refl
texts-take [] (suc i) = refl
texts-take (p ∷ ps) zero = refl
texts-take (p ∷ ps) (suc i) = ap (λ ls. p.now ∷ ls) (texts-take ps i)

pub texts-drop : (pieces : List (Bor (List ℕ))) (i : ℕ) → texts (drop i pieces) ≡ drop i (texts pieces)
texts-drop [] zero = refl
texts-drop [] (suc i) = refl
texts-drop (p ∷ ps) zero = refl
texts-drop (p ∷ ps) (suc i) = texts-drop ps i

-- a body behind some lines
abbrev pub behind : List (List ℕ) → Option Body → Option Body
behind front o = option_map (λ (b : Body). record { lines = front ++ b.lines; after = b.after }) o

behind_none : (o : Option Body) → behind [] o ≡ o
behind_none None = refl
behind_none (Some b) = refl

behind_more : (front : List (List ℕ)) (line : List ℕ) (o : Option Body) → behind front (option_map (with_line line) o) ≡ behind (front ++ line ∷ []) o
behind_more front line None = refl
behind_more front line (Some b) = ap (λ ls. Some (record { lines = ls; after = b.after })) (sym (append_assoc front (line ∷ []) b.lines))

-- the body of all lines is that of the rest behind those before
abbrev pub BodySoFar : List (Bor (List ℕ)) → ℕ → Type 0
BodySoFar lines i = body_of (texts lines) ≡ behind (texts (take i lines)) (body_of (texts (drop i lines)))

pub body_first : (lines : List (Bor (List ℕ))) → BodySoFar lines 0
body_first lines = sym (behind_none (body_of (texts lines)))

take_next : (lines : List (Bor (List ℕ))) (i : ℕ) → i < length lines → texts (take (i + 1) lines) ≡ texts (take i lines) ++ piece lines i ∷ []
take_next [] i lt = absurd (omega arith)
take_next (l ∷ ls) zero lt = refl
take_next (l ∷ ls) (suc i) lt =
    let e : suc i + 1 ≡ suc (i + 1) = omega arith in
    ap (λ j. texts (take j (l ∷ ls))) e ∙ ap (λ xs. l.now ∷ xs) (take_next ls i (omega arith))

pub body_on : (lines : List (Bor (List ℕ))) (i : ℕ) → i < length lines → is_end (piece lines i) ≡ false → BodySoFar lines i → BodySoFar lines (i + 1)
body_on lines i lt e s =
    let f : body_of (texts (drop i lines)) ≡ option_map (with_line (piece lines i)) (body_of (texts (drop (i + 1) lines))) =
    ap body_of (texts_next lines i lt) ∙ rw e refl in
    s ∙ ap (behind (texts (take i lines))) f ∙ behind_more (texts (take i lines)) (piece lines i) (body_of (texts (drop (i + 1) lines)))
    ∙ ap (λ front. behind front (body_of (texts (drop (i + 1) lines)))) (sym (take_next lines i lt))

pub body_here : (lines : List (Bor (List ℕ))) (i : ℕ) → i < length lines → is_end (piece lines i) ≡ true → BodySoFar lines i
    → body_of (texts lines) ≡ Some (record { lines = texts (take i lines); after = texts (drop (i + 1) lines) })
body_here lines i lt e s =
    let f : body_of (texts (drop i lines)) ≡ Some (record { lines = []; after = texts (drop (i + 1) lines) }) = ap body_of (texts_next lines i lt) ∙ rw e refl in
    s ∙ ap (behind (texts (take i lines))) f ∙ ap (λ ls. Some (record { lines = ls; after = texts (drop (i + 1) lines) })) (append-nil (texts (take i lines)))

pub body_none : (lines : List (Bor (List ℕ))) (i : ℕ) → length lines ≤ i → BodySoFar lines i → body_of (texts lines) ≡ None
body_none lines i le s = s ∙ ap (λ ls. behind (texts (take i lines)) (body_of ls)) (texts_end lines i le)

pub blank_first : (lines : List (Bor (List ℕ))) → BlankSoFar lines 0
blank_first lines = record { within = omega arith; front = refl; blank = refl }

pub blank_on : (lines : List (Bor (List ℕ))) (i : ℕ) → i < length lines → are_blanks (piece lines i) ≡ true → BlankSoFar lines i → BlankSoFar lines (i + 1)
blank_on lines i lt e s = record {
  within = omega arith;
  front = let f : unit_front (texts (drop i lines)) ≡ unit_front (texts (drop (i + 1) lines)) = ap unit_front (texts_next lines i lt) ∙ rw e refl in sym f ∙ s.front;
  blank = let f : list_all are_blanks (texts (drop i lines)) ≡ list_all are_blanks (texts (drop (i + 1) lines)) = ap (list_all are_blanks) (texts_next lines i lt) ∙ rw e refl in s.blank ∙ f;
}

pub all_blank : (lines : List (Bor (List ℕ))) (i : ℕ) → length lines ≤ i → BlankSoFar lines i → list_all are_blanks (texts lines) ≡ true
all_blank lines i le s = s.blank ∙ ap (list_all are_blanks) (texts_end lines i le)

pub not_all_blank : (lines : List (Bor (List ℕ))) (i : ℕ) → i < length lines → are_blanks (piece lines i) ≡ false → BlankSoFar lines i → list_all are_blanks (texts lines) ≡ true → ⊥
not_all_blank lines i lt e s h =
    let f : list_all are_blanks (texts (drop i lines)) ≡ false = ap (list_all are_blanks) (texts_next lines i lt) ∙ rw e refl in
    let g : true ≡ false = sym h ∙ s.blank ∙ f in cc

-- the unit behind blank lines
pub front_here : (lines : List (Bor (List ℕ))) (i : ℕ) → i < length lines → are_blanks (piece lines i) ≡ false → BlankSoFar lines i
    → unit_front (texts lines) ≡ with_body (head_of (piece lines i)) (texts (drop (i + 1) lines))
front_here lines i lt e s = sym s.front ∙ ap unit_front (texts_next lines i lt) ∙ rw e refl

pub front_past : (lines : List (Bor (List ℕ))) (i : ℕ) → length lines ≤ i → BlankSoFar lines i → unit_front (texts lines) ≡ None
front_past lines i le s = sym s.front ∙ ap unit_front (texts_end lines i le)

-- the unit at a place
pub unit_at : (lines rest : List (Bor (List ℕ))) (i start len : ℕ) (head : Head) → i < length lines → are_blanks (piece lines i) ≡ false → BlankSoFar lines i
    → Some head ≡ head_of (piece lines i) → start ≡ i + 1 → rest ≡ drop start lines → len < length rest
    → body_of (texts rest) ≡ Some (record { lines = texts (take len rest); after = texts (drop (len + 1) rest) })
    → IsUnitAt lines head start (start + len)
unit_at lines rest i start len head lt full s e f g l b =
    let rest_is : rest ≡ drop (i + 1) lines = g ∙ ap (λ k. drop k lines) f in
    let rest_len : length rest + start ≡ length lines = omega (arith, ap length g, length-drop start lines) in
    let body : body_of (texts (drop (i + 1) lines)) ≡ Some (record { lines = texts (take len rest); after = texts (drop (len + 1) rest) }) = subst (λ r. body_of (texts r) ≡ Some (record { lines = texts (take len rest); after = texts (drop (len + 1) rest) })) rest_is b in
    let here : unit_front (texts lines) ≡ Some (record { head = head; body = texts (take len rest) }, texts (drop (len + 1) rest)) =
    front_here lines i lt full s ∙ ap (λ o. with_body o (texts (drop (i + 1) lines))) (sym e) ∙ ap (option_map (λ (x : Body). (record { head = head; body = x.lines }, x.after))) body in
    let n : (start + len) - start ≡ len = omega arith in
    let front : take len rest ≡ slice_range lines start (start + len) = ap (take len) g ∙ ap (λ k. take k (drop start lines)) (sym n) in
    let m : start + len + 1 ≡ start + (len + 1) = omega arith in
    let back : drop (len + 1) rest ≡ drop (start + len + 1) lines = ap (drop (len + 1)) g ∙ drop-drop (len + 1) start lines ∙ ap (λ k. drop k lines) (sym m) in
    record {
      ordered = omega arith;
      within = omega (arith, rest_len);
      is = here ∙ ap (λ (x : List (Bor (List ℕ))). Some (record { head = head; body = texts x }, texts (drop (len + 1) rest))) front
          ∙ ap (λ (x : List (Bor (List ℕ))). Some (record { head = head; body = texts (slice_range lines start (start + len)) }, texts x)) back;
    }

pub no_head : (lines : List (Bor (List ℕ))) (i : ℕ) → i < length lines → are_blanks (piece lines i) ≡ false → BlankSoFar lines i → head_of (piece lines i) ≡ None
    → unit_front (texts lines) ≡ None
no_head lines i lt full s e = front_here lines i lt full s ∙ ap (λ o. with_body o (texts (drop (i + 1) lines))) e

pub no_body : (lines rest : List (Bor (List ℕ))) (i start : ℕ) → i < length lines → are_blanks (piece lines i) ≡ false → BlankSoFar lines i → start ≡ i + 1 → rest ≡ drop start lines
    → body_of (texts rest) ≡ None → unit_front (texts lines) ≡ None
no_body lines rest i start lt full s f g b =
    let body : body_of (texts (drop (i + 1) lines)) ≡ None = ap (λ r. body_of (texts r)) (sym (g ∙ ap (λ k. drop k lines) f)) ∙ b in
    front_here lines i lt full s ∙ none (head_of (piece lines i)) body
  where
    none : (o : Option Head) → body_of (texts (drop (i + 1) lines)) ≡ None → with_body o (texts (drop (i + 1) lines)) ≡ None
    none None e = refl
    none (Some head) e = ap (option_map (λ (x : Body). (record { head = head; body = x.lines }, x.after))) e

-- Proofs, one after the other.
pub record ProofsSoFar (lines : List (List ℕ)) (done : List StoredProof) (rest : List (List ℕ)) : Type 0 where
  pub makes : (more : List StoredProof) → AreProofs rest more → AreProofs lines (done ++ more)
  pub only : (ps : List StoredProof) → AreProofs lines ps → (more : List StoredProof) × (ps ≡ done ++ more) × AreProofs rest more

pub proofs_first : (lines : List (List ℕ)) → ProofsSoFar lines [] lines
proofs_first lines = record { makes = λ more h. h; only = λ ps h. (ps, refl, h) }

steps_one : (lines : List (List ℕ)) (ss ts : List Step) → AllZip IsStep lines ss → AllZip IsStep lines ts → ss ≡ ts
steps_one [] [] [] h k = refl
steps_one [] [] (t ∷ ts) h k = absurd k
steps_one [] (s ∷ ss) ts h k = absurd h
steps_one (l ∷ ls) [] ts h k = absurd h
steps_one (l ∷ ls) (s ∷ ss) [] h k = absurd k
steps_one (l ∷ ls) (s ∷ ss) (t ∷ ts) h k = let e : s ≡ t = step_one l s t h.0 k.0 in let f : ss ≡ ts = steps_one ls ss ts h.1 k.1 in cc

proof_one : (u : ScriptUnit) (p q : StoredProof) → IsProof u p → IsProof u q → p ≡ q
proof_one u p q (e, s) (f, t) =
    let g : Proof p.theory p.label ≡ Proof q.theory q.label = sym e ∙ f in
    let theories : p.theory ≡ q.theory = cc in
    let labels : p.label ≡ q.label = cc in
    proof_by p q theories labels (steps_one (full_lines u.body) p.steps q.steps s t)
  where
    proof_by : (p q : StoredProof) → p.theory ≡ q.theory → p.label ≡ q.label → p.steps ≡ q.steps → p ≡ q
    proof_by p q e f g = ap (λ x. record { theory = x; label = p.label; steps = p.steps }) e ∙ ap (λ x. record { theory = q.theory; label = x; steps = p.steps }) f ∙ ap (λ x. record { theory = q.theory; label = q.label; steps = x }) g

same_front : (lines : List (List ℕ)) (u v : ScriptUnit) (after behind : List (List ℕ)) → unit_front lines ≡ Some (u, after) → unit_front lines ≡ Some (v, behind) → (u ≡ v) × (after ≡ behind)
same_front lines u v after behind e f =
    let g : ◌≡◌ {A = UnitFront} (u, after) (v, behind) = some_one (u, after) (v, behind) (sym e ∙ f) in
    (ap (λ (x : UnitFront). x.0) g, ap (λ (x : UnitFront). x.1) g)

pub proofs_on : (lines : List (List ℕ)) (done : List StoredProof) (rest after : List (List ℕ)) (u : ScriptUnit) (p : StoredProof) → ProofsSoFar lines done rest
    → unit_front rest ≡ Some (u, after) → IsProof u p → (list_all are_blanks rest ≡ true → ⊥) → ProofsSoFar lines (done ++ p ∷ []) after
proofs_on lines done rest after u p s e is full = record {
  makes = λ more h. rw append_assoc (s.makes (p ∷ more) (u, after, e, is, h));
  only = λ ps h. at ps (s.only ps h);
}
  where
    at : (ps : List StoredProof) → (more : List StoredProof) × (ps ≡ done ++ more) × AreProofs rest more → (more : List StoredProof) × (ps ≡ (done ++ p ∷ []) ++ more) × AreProofs after more
    at ps ([], f, h) = absurd (full h)
    at ps (q ∷ more, f, (v, behind, g, is', h)) =
        let same = same_front rest u v after behind e g in
        let one : p ≡ q = proof_one u p q is (subst (λ x. IsProof x q) (sym same.0) is') in
        (more, f ∙ ap (λ x. done ++ (x ∷ more)) (sym one) ∙ sym (append_assoc done (p ∷ []) more), subst (λ ls. AreProofs ls more) (sym same.1) h)

pub proofs_end : (lines : List (List ℕ)) (done : List StoredProof) (rest : List (List ℕ)) → ProofsSoFar lines done rest → list_all are_blanks rest ≡ true → AreProofs lines done
proofs_end lines done rest s e = subst (AreProofs lines) (append-nil done) (s.makes [] e)

pub no_unit : (lines : List (List ℕ)) (done : List StoredProof) (rest : List (List ℕ)) → ProofsSoFar lines done rest → unit_front rest ≡ None → (list_all are_blanks rest ≡ true → ⊥)
    → (ps : List StoredProof) → AreProofs lines ps → ⊥
no_unit lines done rest s e full ps h = at (s.only ps h)
  where
    at : (more : List StoredProof) × (ps ≡ done ++ more) × AreProofs rest more → ⊥
    at ([], f, k) = full k
    at (q ∷ more, f, (v, behind, g, is, k)) = let i : ◌≡◌ {A = Option UnitFront} (Some (v, behind)) None = sym g ∙ e in cc

pub no_proof_here : (lines : List (List ℕ)) (done : List StoredProof) (rest after : List (List ℕ)) (u : ScriptUnit) → ProofsSoFar lines done rest → unit_front rest ≡ Some (u, after)
    → ((p : StoredProof) → IsProof u p → ⊥) → (list_all are_blanks rest ≡ true → ⊥) → (ps : List StoredProof) → AreProofs lines ps → ⊥
no_proof_here lines done rest after u s e none full ps h = at (s.only ps h)
  where
    at : (more : List StoredProof) × (ps ≡ done ++ more) × AreProofs rest more → ⊥
    at ([], f, k) = full k
    at (q ∷ more, f, (v, behind, g, is, k)) = let same = same_front rest u v after behind e g in none q (subst (λ x. IsProof x q) (sym same.0) is)

-- lines with another number of words are no heads
pub short_head : (parts : List (Bor (List ℕ))) → (length parts ≡ 3 → ⊥) → None ≡ proof_head (texts parts)
short_head [] n = refl
short_head (a ∷ []) n = refl
short_head (a ∷ b ∷ []) n = refl
short_head (a ∷ b ∷ d ∷ []) n = absurd (n refl)
short_head (a ∷ b ∷ d ∷ e ∷ parts) n = refl

short_words : (words : List (Bor (List ℕ))) → (length words ≡ 2 → ⊥) → None ≡ head_of_words (texts words)
short_words [] n = refl
short_words (a ∷ []) n = refl
short_words (a ∷ b ∷ []) n = absurd (n refl)
short_words (a ∷ b ∷ d ∷ words) n = refl

pub not_two_words : (words items : List (Bor (List ℕ))) (line : List ℕ) → items ≡ words → texts words ≡ words_of (trimmed line) → (length items ≡ 2 → ⊥) → None ≡ head_of line
not_two_words words items line e f n = short_words items n ∙ ap (λ ws. head_of_words (texts ws)) e ∙ ap head_of_words f

-- Scripts, by what they begin with.
pub with_theory : (lines : List (Bor (List ℕ))) (name : List ℕ) (start end : ℕ) (body after : List (Bor (List ℕ))) (t : Theory) (ps : List StoredProof)
    → IsUnitAt lines (Put name) start end → body ≡ slice_range lines start end → after ≡ drop (end + 1) lines → t.name ≡ name → AreTheorems (texts body) t.theorems → AreProofs (texts after) ps
    → AreScript (texts lines) (Some t) ps
with_theory lines name start end body after t ps u e f n h k = (
  record { head = Put name; body = texts (slice_range lines start end) },
  texts (drop (end + 1) lines),
  u.is,
  (ap Put (sym n), subst (λ b. AreTheorems (texts b) t.theorems) e h),
  subst (λ b. AreProofs (texts b) ps) f k,
)

-- lines that begin with a unit are not blank
blank_front : (lines : List (List ℕ)) → list_all are_blanks lines ≡ true → unit_front lines ≡ None
blank_front [] h = refl
blank_front (l ∷ ls) h = at (two (are_blanks l)) (blank_front ls)
  where
    at : (are_blanks l ≡ true) ⊎ (are_blanks l ≡ false) → (list_all are_blanks ls ≡ true → unit_front ls ≡ None) → unit_front (l ∷ ls) ≡ None
    at (inl e) ih = let k : list_all are_blanks ls ≡ true = rw e at h in rw e (ih k)
    at (inr e) ih = let k : false ≡ true = rw e at h in absurd (cc)

put_is_no_blank : (lines : List (Bor (List ℕ))) (name : List ℕ) (start end : ℕ) → IsUnitAt lines (Put name) start end → list_all are_blanks (texts lines) ≡ true → ⊥
put_is_no_blank lines name start end u h = let g = sym (blank_front (texts lines) h) ∙ u.is in cc

-- a theory behind the unit's head, and nothing else
its_theory : (lines : List (Bor (List ℕ))) (name : List ℕ) (start end : ℕ) (o : Option Theory) (ps : List StoredProof) → IsUnitAt lines (Put name) start end
    → AreScript (texts lines) o ps → (t : Theory) × AreTheorems (texts (slice_range lines start end)) t.theorems × AreProofs (texts (drop (end + 1) lines)) ps
its_theory lines name start end None [] u h = absurd (put_is_no_blank lines name start end u h)
its_theory lines name start end None (p ∷ ps) u (v, after, e, is, h) =
    let same = same_front (texts lines) v (record { head = Put name; body = texts (slice_range lines start end) }) after (texts (drop (end + 1) lines)) e u.is in
    let f : v.head ≡ Put name = ap (λ (x : ScriptUnit). x.head) same.0 in
    let g : Proof p.theory p.label ≡ Put name = sym is.0 ∙ f in absurd (cc)
its_theory lines name start end (Some t) ps u (v, after, e, is, h) =
    let same = same_front (texts lines) v (record { head = Put name; body = texts (slice_range lines start end) }) after (texts (drop (end + 1) lines)) e u.is in
    (t, subst (λ b. AreTheorems b t.theorems) (ap (λ (x : ScriptUnit). x.body) same.0) is.1, subst (λ b. AreProofs b ps) same.1 h)

pub no_theorems : (lines : List (Bor (List ℕ))) (name : List ℕ) (start end : ℕ) (body : List (Bor (List ℕ))) → IsUnitAt lines (Put name) start end → body ≡ slice_range lines start end
    → ((ts : List Theorem) → AreTheorems (texts body) ts → ⊥) → (s : Script) → AreScript (texts lines) s.theory s.proofs → ⊥
no_theorems lines name start end body u e none s h =
    let k = its_theory lines name start end s.theory s.proofs u h in
    none k.0.theorems (subst (λ b. AreTheorems (texts b) k.0.theorems) (sym e) k.1)

pub no_proofs : (lines : List (Bor (List ℕ))) (name : List ℕ) (start end : ℕ) (after : List (Bor (List ℕ))) → IsUnitAt lines (Put name) start end → after ≡ drop (end + 1) lines
    → ((ps : List StoredProof) → AreProofs (texts after) ps → ⊥) → (s : Script) → AreScript (texts lines) s.theory s.proofs → ⊥
no_proofs lines name start end after u e none s h =
    let k = its_theory lines name start end s.theory s.proofs u h in
    none s.proofs (subst (λ b. AreProofs (texts b) s.proofs) (sym e) k.2)

pub nothing_put : (lines : List (List ℕ)) → PutsNothing lines → ((ps : List StoredProof) → AreProofs lines ps → ⊥) → (s : Script) → AreScript lines s.theory s.proofs → ⊥
nothing_put lines puts none s h = at s.theory h
  where
    at : (o : Option Theory) → AreScript lines o s.proofs → ⊥
    at None k = none s.proofs k
    at (Some t) (u, after, e, is, k) = puts u after t.name e is.0

-- what the first unit tells
pub no_unit_puts_nothing : (lines : List (List ℕ)) → unit_front lines ≡ None → PutsNothing lines
no_unit_puts_nothing lines e u after name f = let g : ◌≡◌ {A = Option UnitFront} None (Some (u, after)) = sym e ∙ f in absurd (cc)

pub proof_puts_nothing : (lines : List (Bor (List ℕ))) (head : Head) (start end : ℕ) → IsUnitAt lines head start end → ((name : List ℕ) → head ≡ Put name → ⊥) → PutsNothing (texts lines)
proof_puts_nothing lines head start end u n v after name f g =
    let same = same_front (texts lines) v (record { head = head; body = texts (slice_range lines start end) }) after (texts (drop (end + 1) lines)) f u.is in
    n name (ap (λ (x : ScriptUnit). x.head) (sym same.0) ∙ g)

-- the same over lines that lie in memory
pub on_lines : (lines rest rest' body : List (Bor (List ℕ))) (done done' : List StoredProof) (head : Head) (start end : ℕ) (p : StoredProof) → ProofsSoFar (texts lines) done (texts rest)
    → IsUnitAt rest head start end → body ≡ slice_range rest start end → rest' ≡ drop (end + 1) rest → IsProof (record { head = head; body = texts body }) p → done' ≡ done ++ p ∷ []
    → (list_all are_blanks (texts rest) ≡ true → ⊥) → ProofsSoFar (texts lines) done' (texts rest')
on_lines lines rest rest' body done done' head start end p s u e f is g full =
    let is' : IsProof (record { head = head; body = texts (slice_range rest start end) }) p = subst (λ b. IsProof (record { head = head; body = texts b }) p) e is in
    subst (λ d. ProofsSoFar (texts lines) d (texts rest')) (sym g) (subst (λ r. ProofsSoFar (texts lines) (done ++ p ∷ []) (texts r)) (sym f)
    (proofs_on (texts lines) done (texts rest) (texts (drop (end + 1) rest)) (record { head = head; body = texts (slice_range rest start end) }) p s u.is is' full))

pub none_on_lines : (lines rest body : List (Bor (List ℕ))) (done : List StoredProof) (head : Head) (start end : ℕ) → ProofsSoFar (texts lines) done (texts rest)
    → IsUnitAt rest head start end → body ≡ slice_range rest start end → ((p : StoredProof) → IsProof (record { head = head; body = texts body }) p → ⊥)
    → (list_all are_blanks (texts rest) ≡ true → ⊥) → (ps : List StoredProof) → AreProofs (texts lines) ps → ⊥
none_on_lines lines rest body done head start end s u e none full =
    no_proof_here (texts lines) done (texts rest) (texts (drop (end + 1) rest)) (record { head = head; body = texts (slice_range rest start end) }) s u.is
    (λ p is. none p (subst (λ b. IsProof (record { head = head; body = texts b }) p) (sym e) is)) full
