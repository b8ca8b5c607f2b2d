-- What changes of a project keep.
use Rattle.std.specs.Prelude.{◌≡◌, ℕ, Bool as Boolean, true, false, not, List, [], ◌∷◌, Option, Some, None, find, filter, map, option_map, bytes_eq, if◌then◌else◌, refl}
use Rattle.std.specs.List.{AllByRecursion, IsDistinct}
use Rattle.std.proofs.Common.{inl, inr, sym, ap, subst}
use Rattle.std.proofs.lemmas.Bool.{cases_Bool}
use Rattle.ev_typing.specs.Env.{Name}
use Rattle.ev_typing.proofs.Names.{same_name, name_same}
use Rattle.ev_project.specs.declared.projects.TheoryText.{TheoryText}
use Rattle.ev_project.specs.Changes.{put_item}

-- the text of a name among theories
abbrev pub text_in : List TheoryText → Name → Option (List ℕ)
text_in ts n = option_map (λ (t : TheoryText). t.text) (find (λ (t : TheoryText). bytes_eq t.name n) ts)

-- the theories with a text set, and without one
abbrev pub set_text : Name → List ℕ → List TheoryText → List TheoryText
set_text n text ts =
    put_item (λ (t : TheoryText). bytes_eq t.name n) (λ (t : TheoryText). record { name = t.name; text = text; marked = t.marked })
    (record { name = n; text = text; marked = false }) ts

abbrev pub removed : Name → List TheoryText → List TheoryText
removed n ts = filter (λ (t : TheoryText). not (bytes_eq t.name n)) ts

abbrev pub set_mark : Name → Boolean → List TheoryText → List TheoryText
set_mark n mark ts = map (λ (t : TheoryText). if bytes_eq t.name n then record { name = t.name; text = t.text; marked = mark } else t) ts

-- what is not n's name, where x is not n
apart : (n x m : Name) → bytes_eq n x ≡ false → bytes_eq m n ≡ true → bytes_eq m x ≡ false
apart n x m e y = subst (λ k. bytes_eq k x ≡ false) (sym (same_name m n y)) e

pub set_other : (ts : List TheoryText) (n x : Name) (text : List ℕ) → bytes_eq n x ≡ false → text_in (set_text n text ts) x ≡ text_in ts x
set_other [] n x text e = rw e refl
set_other (t ∷ ts) n x text e = elim (cases_Bool (bytes_eq t.name n)) [
  | inl y ↦ rw (y, apart n x t.name e y) refl
  | inr y ↦ elim (cases_Bool (bytes_eq t.name x)) [
    | inl z ↦ rw (y, z) refl
    | inr z ↦ rw (y, z) (set_other ts n x text e)
  ]
]

pub set_same : (ts : List TheoryText) (n : Name) (text : List ℕ) → text_in (set_text n text ts) n ≡ Some text
set_same [] n text = rw (name_same n) refl
set_same (t ∷ ts) n text = elim (cases_Bool (bytes_eq t.name n)) [
  | inl y ↦ rw y (rw y refl)
  | inr y ↦ rw y (rw y (set_same ts n text))
]

pub removed_other : (ts : List TheoryText) (n x : Name) → bytes_eq n x ≡ false → text_in (removed n ts) x ≡ text_in ts x
removed_other [] n x e = refl
removed_other (t ∷ ts) n x e = elim (cases_Bool (bytes_eq t.name n)) [
  | inl y ↦ rw (y, apart n x t.name e y) (removed_other ts n x e)
  | inr y ↦ elim (cases_Bool (bytes_eq t.name x)) [
    | inl z ↦ rw (y, z) refl
    | inr z ↦ rw (y, z) (removed_other ts n x e)
  ]
]

pub removed_same : (ts : List TheoryText) (n : Name) → text_in (removed n ts) n ≡ None
removed_same [] n = refl
removed_same (t ∷ ts) n = elim (cases_Bool (bytes_eq t.name n)) [
  | inl y ↦ rw y (removed_same ts n)
  | inr y ↦ rw y (rw y (removed_same ts n))
]

pub marked_text : (ts : List TheoryText) (n x : Name) (mark : Boolean) → text_in (set_mark n mark ts) x ≡ text_in ts x
marked_text [] n x mark = refl
marked_text (t ∷ ts) n x mark = elim (cases_Bool (bytes_eq t.name n)) [
  | inl y ↦ elim (cases_Bool (bytes_eq t.name x)) [
    | inl z ↦ rw (y, z) refl
    | inr z ↦ rw (y, z) (marked_text ts n x mark)
  ]
  | inr y ↦ elim (cases_Bool (bytes_eq t.name x)) [
    | inl z ↦ rw (y, z) refl
    | inr z ↦ rw (y, z) (marked_text ts n x mark)
  ]
]

pub marked_names : (ts : List TheoryText) (n : Name) (mark : Boolean) → map (λ (t : TheoryText). t.name) (set_mark n mark ts) ≡ map (λ (t : TheoryText). t.name) ts
marked_names [] n mark = refl
marked_names (t ∷ ts) n mark = elim (cases_Bool (bytes_eq t.name n)) [
  | inl y ↦ rw y (ap (λ ns. t.name ∷ ns) (marked_names ts n mark))
  | inr y ↦ rw y (ap (λ ns. t.name ∷ ns) (marked_names ts n mark))
]

-- keys that differ still do so once an item is put, and once some are taken away
module _ {X K : Type 0} (key : X → K) (same : K → K → Boolean) where
  abbrev keys : List X → List K
  keys xs = map key xs

  module _ (k : K) (change : X → X) (new : X) (keeps : (x : X) → key (change x) ≡ key x) (is_new : key new ≡ k) where
    abbrev put : List X → List X
    put xs = put_item (λ x. same (key x) k) change new xs

    apart_put : (a : K) (xs : List X) → same a k ≡ false → AllByRecursion (λ b. same a b ≡ false) (keys xs) → AllByRecursion (λ b. same a b ≡ false) (keys (put xs))
    apart_put a [] e h = (rw is_new e, tt)
    apart_put a (x ∷ xs) e h = elim (cases_Bool (same (key x) k)) [
      | inl y ↦ rw y (rw (keeps x) h)
      | inr y ↦ rw y (h.0, apart_put a xs e h.1)
    ]

    pub distinct_put : (xs : List X) → IsDistinct same (keys xs) → IsDistinct same (keys (put xs))
    unfolding IsDistinct
    distinct_put [] h = (tt, tt)
    distinct_put (x ∷ xs) h = elim (cases_Bool (same (key x) k)) [
      | inl y ↦ rw y (rw (keeps x) h)
      | inr y ↦ rw y (apart_put (key x) xs y h.0, distinct_put xs h.1)
    ]

  module _ (test : X → Boolean) where
    apart_filter : (a : K) (xs : List X) → AllByRecursion (λ b. same a b ≡ false) (keys xs) → AllByRecursion (λ b. same a b ≡ false) (keys (filter test xs))
    apart_filter a [] h = tt
    apart_filter a (x ∷ xs) h = elim (cases_Bool (test x)) [
      | inl y ↦ rw y (h.0, apart_filter a xs h.1)
      | inr y ↦ rw y (apart_filter a xs h.1)
    ]

    pub distinct_filter : (xs : List X) → IsDistinct same (keys xs) → IsDistinct same (keys (filter test xs))
    unfolding IsDistinct
    distinct_filter [] h = tt
    distinct_filter (x ∷ xs) h = elim (cases_Bool (test x)) [
      | inl y ↦ rw y (apart_filter (key x) xs h.0, distinct_filter xs h.1)
      | inr y ↦ rw y (distinct_filter xs h.1)
    ]
