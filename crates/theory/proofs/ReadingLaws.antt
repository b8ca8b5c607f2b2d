-- Lists that are read item by item, where each item is read in one way at most.
use Rattle.std.proofs.Common.{◌≡◌, ◌+◌, ◌<◌, ◌≤◌, ℕ, suc, Bool, true, false, List, [], ◌∷◌, ◌++◌, Some, length, drop, refl, ap, subst, sym, ◌∙◌, append_assoc, arith}
use Rattle.std.proofs.lemmas.List.{append-nil}
use Rattle.std.specs.List.{AllZip}
use Rattle.std.specs.Prelude.{not, if◌then◌else◌}
use Rattle.ev_terms.specs.Term.{Term}
use Rattle.theory.proofs.MarkLaws.{no_mark}
use Rattle.theory.proofs.FormulaLaws.{predicate_unique}
use Rattle.ev_forms.specs.declared.connectives.Connective.{Connective}
use Rattle.theory.specs.declared.marks.Mark.{Mark}
use Rattle.theory.specs.declared.theorems.Theorem.{Theorem}
use Rattle.theory.specs.declared.steps.Step.{Step}
use Rattle.theory.specs.Words.{full_lines}
use Rattle.theory.specs.inner.Pieces.{nowhere, piece, texts}
use denote.Ref.{Bor}
use Rattle.std.proofs.Math.Seq.{drop-cons}
use Rattle.std.proofs.Math.ListN.{drop_of_length-le}
use Rattle.std.specs.Prelude.{bytes_eq}
use Rattle.std.specs.List.{list_any}
use Rattle.theory.specs.Formulas.{Front, mark_of, AreMarks, IsFormula, Predicate, nesting_limit}
use Rattle.theory.specs.inner.Parsing.{EndsPredicate}
use Rattle.ev_terms.specs.Measures.{depth}
use Rattle.theory.specs.Theorems.{Labelled, theorem_parts, IsTheorem, AreDifferent, AreTheorems, labels_of}
use Rattle.theory.specs.Steps.{IsStep}

-- the items done make all with what the rest is read as, and nothing else does
pub record ReadSoFar {A B : Type 0} (R : A → B → Type 0) (all : List A) (done : List B) (rest : List A) : Type 0 where
  pub makes : (more : List B) → AllZip R rest more → AllZip R all (done ++ more)
  pub only : (bs : List B) → AllZip R all bs → (more : List B) × (bs ≡ done ++ more) × AllZip R rest more

pub read_first : {A B : Type 0} (R : A → B → Type 0) (all : List A) → ReadSoFar R all [] all
read_first R all = record { makes = λ more h. h; only = λ bs h. (bs, refl, h) }

pub read_on : {A B : Type 0} (R : A → B → Type 0) (all rest : List A) (done : List B) (a : A) (b : B) → R a b → ((c : B) → R a c → c ≡ b)
    → ReadSoFar R all done (a ∷ rest) → ReadSoFar R all (done ++ b ∷ []) rest
read_on {A} {B} R all rest done a b r unique s = record {
  makes = λ more h. rw append_assoc (s.makes (b ∷ more) (r, h));
  only = λ bs h. at bs (s.only bs h);
}
  where
    at : (bs : List B) → (more : List B) × (bs ≡ done ++ more) × AllZip R (a ∷ rest) more → (more : List B) × (bs ≡ (done ++ b ∷ []) ++ more) × AllZip R rest more
    at bs ([], e, h) = absurd h
    at bs (c ∷ more, e, h) = (more, e ∙ ap (λ d. done ++ (d ∷ more)) (unique c h.0) ∙ sym (append_assoc done (b ∷ []) more), h.1)

pub read_all : {A B : Type 0} (R : A → B → Type 0) (all : List A) (done : List B) → ReadSoFar R all done [] → AllZip R all done
read_all R all done s = subst (AllZip R all) (append-nil done) (s.makes [] tt)

pub read_none : {A B : Type 0} (R : A → B → Type 0) (all rest : List A) (done : List B) (a : A) → ((b : B) → R a b → ⊥) → ReadSoFar R all done (a ∷ rest)
    → (bs : List B) → AllZip R all bs → ⊥
read_none {A} {B} R all rest done a none s bs h = at (s.only bs h)
  where
    at : (more : List B) × (bs ≡ done ++ more) × AllZip R (a ∷ rest) more → ⊥
    at ([], e, k) = k
    at (b ∷ more, e, k) = none b k.0

-- One text has one list of marks, and is one formula at most.
pub some_one : {X : Type 0} (x y : X) → Some x ≡ Some y → x ≡ y
some_one x y e = cc

marks_one : (cs : List ℕ) (ms ns : List Mark) → AreMarks cs ms → AreMarks cs ns → ms ≡ ns
marks_one cs [] [] h k = refl
marks_one cs [] (n ∷ ns) h (rest, e, k) = absurd (no_mark cs n rest h e)
marks_one cs (m ∷ ms) [] (rest, e, h) k = absurd (no_mark cs m rest k e)
marks_one cs (m ∷ ms) (n ∷ ns) (rest, e, h) (rest', f, k) =
    let p : ◌≡◌ {A = Front} (m, rest) (n, rest') = some_one (m, rest) (n, rest') (sym e ∙ f) in
    let q : m ≡ n = ap (λ (x : Front). x.0) p in
    let r : rest' ≡ rest = sym (ap (λ (x : Front). x.1) p) in
    let s : ms ≡ ns = marks_one rest ms ns h (subst (λ xs. AreMarks xs ns) r k) in cc

-- no marks go on
nothing_ends : (c : Connective) (us : List Mark) → [] ≡ mark_of c ∷ us → ⊥
nothing_ends c us e = cc

pub formula_one : (text : List ℕ) (P Q : Term) → IsFormula text P → IsFormula text Q → P ≡ Q
formula_one text P Q p q =
    let e : q.marks ≡ p.marks = marks_one text q.marks p.marks q.are p.are in
    (predicate_unique P Q p.marks [] [] p.reads (subst (λ ms. Predicate Q ms []) e q.reads) nothing_ends nothing_ends).0

pub theorem_one : (line : List ℕ) (s t : Theorem) → IsTheorem line s → IsTheorem line t → s ≡ t
theorem_one line s t (text, e, p) (text', f, q) =
    let both : ◌≡◌ {A = Labelled} (s.label, text) (t.label, text') = some_one (s.label, text) (t.label, text') (sym e ∙ f) in
    let labels : s.label ≡ t.label = ap (λ (x : Labelled). x.0) both in
    let texts : text' ≡ text = sym (ap (λ (x : Labelled). x.1) both) in
    let goals : s.goal ≡ t.goal = formula_one text s.goal t.goal p (subst (λ xs. IsFormula xs t.goal) texts q) in
    theorem_by s t labels goals
  where
    theorem_by : (s t : Theorem) → s.label ≡ t.label → s.goal ≡ t.goal → s ≡ t
    theorem_by s t e f = ap (λ x. record { label = x; goal = s.goal }) e ∙ ap (λ x. record { label = t.label; goal = x }) f

pub step_one : (line : List ℕ) (s t : Step) → IsStep line s → IsStep line t → s ≡ t
step_one line s t p q = some_one s t (sym p ∙ q)

pub formula_none : (text : List ℕ) (ms : List Mark) → AreMarks text ms → ((P : Term) (rest : List Mark) → Predicate P ms rest × EndsPredicate rest → nesting_limit < depth P)
    → (P : Term) → IsFormula text P → ⊥
formula_none text ms are none P p =
    let e : p.marks ≡ ms = marks_one text p.marks ms p.are are in
    omega (arith, none P [] (subst (λ xs. Predicate P xs []) e p.reads, nothing_ends), p.shallow)

pub formula_other : (text : List ℕ) (ms rest : List Mark) (Q : Term) → AreMarks text ms → Predicate Q ms rest × EndsPredicate rest
    → (P : Term) → IsFormula text P → (P ≡ Q) × ([] ≡ rest)
formula_other text ms rest Q are q P p =
    let e : p.marks ≡ ms = marks_one text p.marks ms p.are are in
    predicate_unique P Q ms [] rest (subst (λ xs. Predicate P xs []) e p.reads) q.0 nothing_ends q.1

-- the next of some texts that lie in memory
pub texts_next : (pieces : List (Bor (List ℕ))) (i : ℕ) → i < length pieces → texts (drop i pieces) ≡ piece pieces i ∷ texts (drop (i + 1) pieces)
texts_next pieces i lt =
    let s : suc i ≡ i + 1 = omega arith in
    ap texts (drop-cons pieces i nowhere lt) ∙ ap (λ j. piece pieces i ∷ texts (drop j pieces)) s

pub texts_end : (pieces : List (Bor (List ℕ))) (i : ℕ) → length pieces ≤ i → texts (drop i pieces) ≡ []
texts_end pieces i le = ap texts (drop_of_length-le pieces le)

-- the same of what was read so far
pub so_far_next : {B : Type 0} (R : List ℕ → B → Type 0) (pieces : List (Bor (List ℕ))) (done : List B) (i : ℕ) → i < length pieces
    → ReadSoFar R (texts pieces) done (texts (drop i pieces)) → ReadSoFar R (texts pieces) done (piece pieces i ∷ texts (drop (i + 1) pieces))
so_far_next R pieces done i lt s = subst (ReadSoFar R (texts pieces) done) (texts_next pieces i lt) s

pub so_far_end : {B : Type 0} (R : List ℕ → B → Type 0) (pieces : List (Bor (List ℕ))) (done : List B) (i : ℕ) → length pieces ≤ i
    → ReadSoFar R (texts pieces) done (texts (drop i pieces)) → AllZip R (texts pieces) done
so_far_end R pieces done i le s = read_all R (texts pieces) done (subst (ReadSoFar R (texts pieces) done) (texts_end pieces i le) s)

pub theorem_none : (line label text : List ℕ) → Some (label, text) ≡ theorem_parts line → ((P : Term) → IsFormula text P → ⊥) → (t : Theorem) → IsTheorem line t → ⊥
theorem_none line label text e none t (text', f, p) =
    let both : ◌≡◌ {A = Labelled} (label, text) (t.label, text') = some_one (label, text) (t.label, text') (e ∙ f) in
    none t.goal (subst (λ xs. IsFormula xs t.goal) (sym (ap (λ (x : Labelled). x.1) both)) p)

-- Labels that differ.
different_more : (seen labels : List (List ℕ)) (label : List ℕ) → AreDifferent seen labels → list_any (bytes_eq label) (seen ++ labels) ≡ false → AreDifferent seen (labels ++ label ∷ [])
different_more seen [] label h n = (subst (λ ls. list_any (bytes_eq label) ls ≡ false) (append-nil seen) n, tt)
different_more seen (l ∷ ls) label h n = (h.0, different_more (seen ++ l ∷ []) ls label h.1 (subst (λ xs. list_any (bytes_eq label) xs ≡ false) (sym (append_assoc seen (l ∷ []) ls)) n))

different_at : (seen labels more : List (List ℕ)) (label : List ℕ) → AreDifferent seen (labels ++ label ∷ more) → list_any (bytes_eq label) (seen ++ labels) ≡ false
different_at seen [] more label h = subst (λ ls. list_any (bytes_eq label) ls ≡ false) (sym (append-nil seen)) h.0
different_at seen (l ∷ ls) more label h = subst (λ xs. list_any (bytes_eq label) xs ≡ false) (append_assoc seen (l ∷ []) ls) (different_at (seen ++ l ∷ []) ls more label h.1)

labels-append : (ts us : List Theorem) → labels_of (ts ++ us) ≡ labels_of ts ++ labels_of us
labels-append [] us = refl
labels-append (t ∷ ts) us = ap (λ ls. t.label ∷ ls) (labels-append ts us)

pub different_on : (done : List Theorem) (t : Theorem) → AreDifferent [] (labels_of done) → list_any (bytes_eq t.label) (labels_of done) ≡ false → AreDifferent [] (labels_of (done ++ t ∷ []))
different_on done t h n = subst (AreDifferent []) (sym (labels-append done (t ∷ []))) (different_more [] (labels_of done) t.label h n)

pub labels-more : (done : List Theorem) (t : Theorem) → labels_of done ++ t.label ∷ [] ≡ labels_of (done ++ t ∷ [])
labels-more done t = sym (labels-append done (t ∷ []))

pub repeated : (lines : List (List ℕ)) (done : List Theorem) (line : List ℕ) (rest : List (List ℕ)) (t : Theorem) → IsTheorem line t
    → ReadSoFar IsTheorem (full_lines lines) done (line ∷ rest) → list_any (bytes_eq t.label) (labels_of done) ≡ true
    → (ts : List Theorem) → AreTheorems lines ts → ⊥
repeated lines done line rest t is s n ts h = at (s.only ts h.0)
  where
    at : (more : List Theorem) × (ts ≡ done ++ more) × AllZip IsTheorem (line ∷ rest) more → ⊥
    at ([], e, k) = k
    at (u ∷ more, e, k) =
        let same : u ≡ t = theorem_one line u t k.0 is in
        let f : labels_of ts ≡ labels_of done ++ t.label ∷ labels_of more = ap labels_of e ∙ labels-append done (u ∷ more) ∙ ap (λ (x : Theorem). labels_of done ++ x.label ∷ labels_of more) same in
        let g : list_any (bytes_eq t.label) (labels_of done) ≡ false = different_at [] (labels_of done) (labels_of more) t.label (subst (AreDifferent []) f h.1) in
        cc

-- what was read, where the lines that are not blank lie in memory
pub lines_are : (full : List (Bor (List ℕ))) (items : List (Bor (List ℕ))) (lines : List (List ℕ)) → items ≡ full → texts full ≡ full_lines lines → texts items ≡ full_lines lines
lines_are full items lines e f = ap texts e ∙ f

-- A set of the labels so far, and the next one.
pub old_key : (k label : List ℕ) (keys labels : List (List ℕ)) (new : Bool) → k ≡ label → keys ≡ labels → new ≡ not (list_any (bytes_eq k) keys) → new ≡ false
    → list_any (bytes_eq label) labels ≡ true
old_key k label keys labels new e f g h = not_false (list_any (bytes_eq label) labels) (sym h ∙ g ∙ ap (λ x. not (list_any (bytes_eq x) keys)) e ∙ ap (λ ks. not (list_any (bytes_eq label) ks)) f)
  where
    not_false : (b : Bool) → false ≡ not b → b ≡ true
    not_false true e = refl
    not_false false e = cc

pub fresh_key : (k label : List ℕ) (keys labels : List (List ℕ)) (new : Bool) → k ≡ label → keys ≡ labels → new ≡ not (list_any (bytes_eq k) keys) → new ≡ true
    → list_any (bytes_eq label) labels ≡ false
fresh_key k label keys labels new e f g h = not_true (list_any (bytes_eq label) labels) (sym h ∙ g ∙ ap (λ x. not (list_any (bytes_eq x) keys)) e ∙ ap (λ ks. not (list_any (bytes_eq label) ks)) f)
  where
    not_true : (b : Bool) → true ≡ not b → b ≡ false
    not_true true e = cc
    not_true false e = refl

pub fresh_keys : (k label : List ℕ) (keys labels : List (List ℕ)) (after : List (List ℕ)) → k ≡ label → keys ≡ labels
    → after ≡ (if list_any (bytes_eq k) keys then keys else keys ++ k ∷ []) → list_any (bytes_eq label) labels ≡ false → after ≡ labels ++ label ∷ []
fresh_keys k label keys labels after e f g fresh =
    let h : list_any (bytes_eq k) keys ≡ false = ap (λ x. list_any (bytes_eq x) keys) e ∙ ap (list_any (bytes_eq label)) f ∙ fresh in
    let i : after ≡ keys ++ k ∷ [] = g ∙ rw h refl in
    i ∙ ap (λ ks. ks ++ k ∷ []) f ∙ ap (λ x. labels ++ x ∷ []) e
