-- No event makes imports go in a circle.
use Rattle.std.specs.Prelude.{◌≡◌, ◌≢◌, ◌⊎◌, ℕ, Bool as Boolean, true, false, List, [], ◌∷◌, ◌++◌, Option, Some, None, bytes_eq, is_some, option_map, if◌then◌else◌, refl}
use Rattle.std.proofs.Common.{inl, inr, sym, ap, subst, ◌∙◌, true≢false}
use Rattle.std.proofs.lemmas.Bool.{cases_Bool}
use Rattle.ev_typing.specs.Env.{Name}
use Rattle.ev_typing.proofs.Names.{same_name, apart_flip}
use Rattle.ev_theory_text.specs.declared.elements.RawElement.{RawElement}
use Rattle.ev_theory_text.specs.Theories.{IsTheory, import_names}
use Rattle.ev_project.specs.declared.projects.TheoryText.{TheoryText}
use Rattle.ev_project.specs.declared.projects.StoredProof.{StoredProof}
use Rattle.ev_project.specs.Projects.{Project, find_theory, text_of, has_text}
use Rattle.ev_project.specs.Texts.{AreRead, imports_by, is_among, IsImport, IsWalkOfNames, IsAcyclic}
use Rattle.ev_project.specs.Graphs.{theory_names, HasNoCycleAt}
use Rattle.ev_project.specs.Changes.{with_text, without_text, with_mark}
use Rattle.ev_project.proofs.ReadLaws.{one_theory}
use Rattle.ev_project.proofs.ChangeLaws.{set_other, set_same, removed_other, removed_same, marked_text}
use Rattle.ev_project.proofs.GraphLaws.{has_some, text_among, no_cycle_at}

-- what is imported is kept where the texts are
import_kept : (p q : Project) (n m : Name) → text_of q n ≡ text_of p n → IsImport q n m → IsImport p n m
import_kept p q n m same i = record { text = i.text; stands = sym same ∙ i.stands; elements = i.elements; read = i.read; among = i.among }

walk_kept : (p q : Project) → ((n m : Name) → IsImport q n m → IsImport p n m) → (n : Name) (us : List Name) (m : Name) → IsWalkOfNames q n us m → IsWalkOfNames p n us m
walk_kept p q keeps n [] m w = w
walk_kept p q keeps n (u ∷ us) m w = (keeps n u w.0, walk_kept p q keeps u us m w.1)

-- a project all of whose imports are those of another
pub fewer_imports : (p q : Project) → ((n m : Name) → IsImport q n m → IsImport p n m) → IsAcyclic p → IsAcyclic q
fewer_imports p q keeps acyclic n us some w = acyclic n us some (walk_kept p q keeps n us n w)

-- proofs play no part
pub same_texts : (p : Project) (proofs : List StoredProof) → IsAcyclic p → IsAcyclic (p.0, proofs)
same_texts p proofs acyclic = fewer_imports p (p.0, proofs) (λ n m i. import_kept p (p.0, proofs) n m refl i) acyclic

pub removing : (p : Project) (n : Name) → IsAcyclic p → IsAcyclic (without_text p n)
removing p n acyclic = fewer_imports p (without_text p n) keeps acyclic
  where
    keeps : (x m : Name) → IsImport (without_text p n) x m → IsImport p x m
    keeps x m i = elim (cases_Bool (bytes_eq n x)) [
      | inl y ↦
          let e = same_name n x y in
          let none = subst (λ k. text_of (without_text p n) k ≡ None) e (removed_same p.0 n) in
          absurd (cc (none, i.stands))
      | inr y ↦ import_kept p (without_text p n) x m (removed_other p.0 n x y) i
    ]

pub marking : (p : Project) (n : Name) (mark : Boolean) → IsAcyclic p → IsAcyclic (with_mark p n mark)
marking p n mark acyclic = fewer_imports p (with_mark p n mark) (λ x m i. import_kept p (with_mark p n mark) x m (marked_text p.0 n x mark) i) acyclic

-- the imports that the texts are read as
pub read_import : (p : Project) (raws : Name → List RawElement) → AreRead p raws → (n m : Name) → IsImport p n m → is_among (imports_by p raws n) m ≡ true
read_import p raws read n m i =
    let same = one_theory i.text i.elements (raws n) i.read (read n i.text i.stands) in
    rw (has_some p n i.text i.stands) (subst (λ es. is_among (import_names es) m ≡ true) same i.among)

-- a name with a text has this text
pub text_stands : (p : Project) (n : Name) → has_text p n ≡ true → (text : List ℕ) × (text_of p n ≡ Some text)
text_stands p n h = by (find_theory p n) refl h
  where
    by : (o : Option TheoryText) → find_theory p n ≡ o → is_some o ≡ true → (text : List ℕ) × (text_of p n ≡ Some text)
    by None e h = absurd (true≢false (sym h))
    by (Some t) e h = (t.text, ap (option_map (λ (t : TheoryText). t.text)) e)

pub import_of_read : (p : Project) (raws : Name → List RawElement) → AreRead p raws
    → (n m : Name) → is_among (theory_names p) n ≡ true → is_among (imports_by p raws n) m ≡ true → IsImport p n m
import_of_read p raws read n m here h =
    let has = text_among p n ∙ here in
    let at = text_stands p n has in
    record {
      text = at.0;
      stands = at.1;
      elements = raws n;
      read = read n at.0 at.1;
      among = sym (ap (λ b. is_among (if b then import_names (raws n) else []) m) has) ∙ h;
    }

walk_append : (p : Project) (n : Name) (us : List Name) (m : Name) (vs : List Name) (k : Name) → IsWalkOfNames p n us m → IsWalkOfNames p m vs k → IsWalkOfNames p n (us ++ vs) k
walk_append p n [] m vs k a b = subst (λ x. IsWalkOfNames p x vs k) (sym a) b
walk_append p n (u ∷ us) m vs k a b = (a.0, walk_append p u us m vs k a.1 b)

module _ (p q : Project) (n : Name) (other : (x m : Name) → bytes_eq x n ≡ false → IsImport q x m → IsImport p x m) where
  record Through (a z : Name) : Type 0 where
    pub before : List Name
    pub after : List Name
    pub some : after ≢ []
    pub to : IsWalkOfNames q a before n
    pub from : IsWalkOfNames q n after z

  -- a walk is one of the other project, or some import on it is one of n
  through : (a : Name) (us : List Name) (z : Name) → IsWalkOfNames q a us z → IsWalkOfNames p a us z ⊎ Through a z
  through a [] z w = inl w
  through a (u ∷ us) z w = elim (cases_Bool (bytes_eq a n)) [
    | inl y ↦
        let e = same_name a n y in
        inr record { before = []; after = u ∷ us; some = λ f. cc f; to = e; from = subst (λ x. IsWalkOfNames q x (u ∷ us) z) e w }
    | inr y ↦ elim (through u us z w.1) [
      | inl v ↦ inl (other a u y w.0, v)
      | inr t ↦ inr record { before = u ∷ t.before; after = t.after; some = t.some; to = (w.0, t.to); from = t.from }
    ]
  ]

  some_append : (us vs : List Name) → us ≢ [] → us ++ vs ≢ []
  some_append [] vs some e = some refl
  some_append (u ∷ us) vs some e = cc e

  -- a circle in the one that is none in the other goes through n
  pub acyclic_at : IsAcyclic p → ((us : List Name) → us ≢ [] → ¬ IsWalkOfNames q n us n) → IsAcyclic q
  acyclic_at acyclic none a us some w = elim (through a us a w) [
    | inl v ↦ acyclic a us some v
    | inr t ↦ none (t.after ++ t.before) (some_append t.after t.before t.some) (walk_append q n t.after a t.before n t.from t.to)
  ]

-- a text is set that closes no walk
module _ (p : Project) (raws : Name → List RawElement) (n : Name) (text : List ℕ) (es : List RawElement) (read : AreRead p raws) (is : IsTheory text es) where
  abbrev q : Project
  q = with_text p n text

  abbrev imports : Name → List Name
  imports u = if bytes_eq u n then import_names es else imports_by p raws u

  other_import : (x m : Name) → bytes_eq x n ≡ false → IsImport q x m → IsImport p x m
  other_import x m e i = import_kept p q x m (set_other p.0 n x text (apart_flip x n e)) i

  are_imports : (x m : Name) → IsImport q x m → is_among (imports x) m ≡ true
  are_imports x m i = elim (cases_Bool (bytes_eq x n)) [
    | inl y ↦
        let e = same_name x n y in
        let stands : text_of q n ≡ Some i.text = subst (λ k. text_of q k ≡ Some i.text) e i.stands in
        let set = set_same p.0 n text in
        let texts : text ≡ i.text = cc (stands, set) in
        let same = one_theory i.text i.elements es i.read (subst (λ k. IsTheory k es) texts is) in
        rw y (subst (λ k. is_among (import_names k) m ≡ true) same i.among)
    | inr y ↦ rw y (read_import p raws read x m (other_import x m y i))
  ]

  pub putting : HasNoCycleAt q imports n → IsAcyclic p → IsAcyclic q
  putting none acyclic = acyclic_at p q n other_import acyclic (no_cycle_at q imports are_imports n none)
