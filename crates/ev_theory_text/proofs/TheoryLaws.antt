-- The elements of a text, part by part.
use Rattle.std.proofs.Common.{◌≡◌, ℕ, ◌+◌, ◌≤◌, ◌<◌, ◌^◌, Bool, true, false, List, [], ◌∷◌, ◌++◌, length, take, get_or, ap, subst, sym, ◌∙◌, arith, append-nil, append_assoc, MatchBool}
use Rattle.std.specs.List.{All}
use Rattle.std.proofs.lemmas.List.{take_more, take_all, map-append}
use denote.Ref.{Bor}
use Rattle.ev_syntax.specs.Chars.{are_blanks}
use Rattle.ev_theory_text.specs.declared.elements.RawElement.{RawElement}
use Rattle.ev_theory_text.specs.Answers.{IsElement, IsNoElement}
use Rattle.ev_theory_text.specs.Cut.{cut, texts}
use Rattle.ev_theory_text.specs.Theories.{AreElements, BeginsWithNoElement, AreOf, IsTheory, FrontElements, FurtherElements}

one_more : (parts : List (List ℕ)) (part : List ℕ) (es : List RawElement) (e : RawElement) → AreElements parts es → IsElement part e → AreElements (parts ++ part ∷ []) (es ++ e ∷ [])
one_more [] part [] e h i = (i, tt)
one_more [] part (d ∷ es) e h i = absurd h
one_more (p ∷ parts) part [] e h i = absurd h
one_more (p ∷ parts) part (d ∷ es) e h i = (h.0, one_more parts part es e h.1 i)

-- what a loop over the parts keeps
pub record SoFar (first : List RawElement) (parts : List (Bor (List ℕ))) (n : ℕ) (es : List RawElement) : Type 0 where
  pub more : List RawElement
  pub all : es ≡ first ++ more
  pub are : AreElements (texts (take n parts)) more

pub none_yet : (first : List RawElement) (parts : List (Bor (List ℕ))) → SoFar first parts 0 first
none_yet first parts = record { more = []; all = sym (append-nil first); are = tt }

-- a part, by its place
abbrev pub nowhere : Bor (List ℕ)
nowhere = record { ref_ptr = (0, 0); now = [] }

abbrev pub part_at : List (Bor (List ℕ)) → ℕ → Bor (List ℕ)
part_at parts n = get_or parts n nowhere

pub another : (first : List RawElement) (parts : List (Bor (List ℕ))) (n : ℕ) (part : Bor (List ℕ)) (es all : List RawElement) (e : RawElement) → n < length parts → part ≡ part_at parts n
    → SoFar first parts n es → IsElement part.now e → all ≡ es ++ e ∷ [] → SoFar first parts (n + 1) all
another first parts n part es all e lt is h i pushed = record {
  more = h.more ++ e ∷ [];
  all = pushed ∙ ap (λ l. l ++ e ∷ []) h.all ∙ append_assoc first h.more (e ∷ []);
  are = subst (λ l. AreElements l (h.more ++ e ∷ [])) (sym texts_more) (one_more (texts (take n parts)) part.now h.more e h.are i);
}
  where
    texts_more : texts (take (n + 1) parts) ≡ texts (take n parts) ++ part.now ∷ []
    texts_more = ap texts (take_more parts n nowhere lt ∙ ap (λ p. take n parts ++ p ∷ []) (sym is)) ∙ map-append (λ (q : Bor (List ℕ)). q.now) (take n parts) (part ∷ [])

pub all_parts : (first : List RawElement) (parts : List (Bor (List ℕ))) (n : ℕ) (es : List RawElement) → length parts ≤ n → SoFar first parts n es → FurtherElements first parts es
all_parts first parts n es le h = (h.more, h.all, subst (λ l. AreElements (texts l) h.more) (take_all n parts le) h.are)

pub short_parts : (text : List ℕ) (parts : List (Bor (List ℕ))) → length text < 2 ^ 32 → All (λ (p : Bor (List ℕ)). length p.now ≤ length text) parts
    → All (λ (p : Bor (List ℕ)). length p.now < 2 ^ 32) parts
short_parts text parts lt h = λ k d i. let le = h k d i in omega arith

-- the front and the parts
pub theory_is : (text front : List ℕ) (parts : List (Bor (List ℕ))) (first es : List RawElement) → front ≡ (cut text).front → texts parts ≡ (cut text).parts → FrontElements front first
    → FurtherElements first parts es → IsTheory text es
theory_is text front parts first es e d h k =
    subst (λ c. AreOf c es) same (go (are_blanks front) h)
  where
    same : record { front = front; parts = texts parts } ≡ cut text
    same = ap (λ f. record { front = f; parts = texts parts }) e ∙ ap (λ ps. record { front = (cut text).front; parts = ps }) d

    go : (b : Bool) → MatchBool b (first ≡ []) ((x : RawElement) × (first ≡ x ∷ []) × IsNoElement front x)
        → MatchBool b (AreElements (texts parts) es) (BeginsWithNoElement front (texts parts) es)
    go true f = subst (λ l. AreElements (texts parts) l) (sym (k.1 ∙ ap (λ l. l ++ k.0) f)) k.2
    go false f = subst (λ l. BeginsWithNoElement front (texts parts) l) (sym (k.1 ∙ ap (λ l. l ++ k.0) f.1)) (f.2, k.2)
