-- How units are read one after the other.
use Rattle.std.proofs.Common.{◌≡◌, ◌≢◌, ◌+◌, ◌<◌, ◌≤◌, ℕ, Bool, true, false, List, [], ◌∷◌, ◌++◌, length, take, drop, Option, Some, None, Result, Ok, Err, refl, sym, ap, subst, ◌∙◌, append_assoc, arith}
use Rattle.std.specs.Prelude.{◌↔◌, option_map, option_and_then, IsOkUnless}
use Rattle.std.proofs.lemmas.List.{append-nil, drop_all, drop-drop, length-drop}
use Rattle.bstr.specs.Text.{line_len, lines_of}
use Rattle.bstr.proofs.lemmas.LineLemmas.{lines-step}
use Rattle.ev_syntax.specs.Chars.{is_blank, are_blanks}
use Rattle.ev_script.specs.declared.events.Event.{Event}
use Rattle.ev_script.specs.declared.faults.ScriptFault.{ScriptFault}
use Rattle.ev_script.specs.declared.faults.ScriptFault.TheVariants.{BadScript, NoMemory}
use Rattle.ev_script.specs.declared.heads.Head.{Head}
use Rattle.ev_script.specs.Scripts.{skip_blanks, words_of, head_of, unit_with, unit_of_lines, unit_of, AreUnits, IsScript, IsBadAt}
use Rattle.ev_script.specs.inner.Spans.{head_told, unit_at}
use Rattle.ev_script.proofs.LineLaws.{joined}
use Rattle.ev_script.proofs.ScriptLaws.{bad_is_no_script}

-- what was told of what is there, or is not
pub told_none : {A B : Type 0} (f : A → B) (o : Option A) (v : Option B) → ((x : A) → o ≡ Some x → ⊥) → option_map f o ≡ v → None ≡ v
told_none f None v none e = e
told_none f (Some x) v none e = absurd (none x refl)

pub told_some : {A B : Type 0} (f : A → B) (o : Option A) (v : Option B) (x : A) → o ≡ Some x → option_map f o ≡ v → Some (f x) ≡ v
told_some f o v x is e = sym (ap (option_map f) is) ∙ e

-- the unit of a head and the text after its line
unit_here : (text : List ℕ) (n : ℕ) → 0 < length text → n ≡ line_len text
    → unit_of text ≡ option_and_then (unit_with (lines_of (drop n text))) (head_of (words_of (take n text)))
unit_here text n some line =
    ap unit_of_lines (lines-step text some)
    ∙ ap (λ k. option_and_then (unit_with (lines_of (drop k text))) (head_of (words_of (take k text)))) (sym line)

pub no_head : (text : List ℕ) (n : ℕ) → 0 < length text → n ≡ line_len text → None ≡ head_of (words_of (take n text)) → None ≡ unit_of text
no_head text n some line none =
    sym (unit_here text n some line ∙ ap (option_and_then (unit_with (lines_of (drop n text)))) (sym none))

-- by the head that was read, and the text after it
module _ (text : List ℕ) (n : ℕ) (after : List ℕ) (head : Head) (some : 0 < length text) (line : n ≡ line_len text) (is : after ≡ drop n text)
    (told : Some (head_told head) ≡ head_of (words_of (take n text))) where
  unit_after : unit_of text ≡ unit_with (lines_of after) (head_told head)
  unit_after =
      unit_here text n some line ∙ ap (option_and_then (unit_with (lines_of (drop n text)))) (sym told)
      ∙ ap (λ t. unit_with (lines_of t) (head_told head)) (sym is)

  pub no_unit : None ≡ unit_with (lines_of after) (head_told head) → None ≡ unit_of text
  no_unit none = none ∙ sym unit_after

  pub a_unit : (event : Event) (length : ℕ) → Some (unit_at after (record { event = event; length = length })) ≡ unit_with (lines_of after) (head_told head)
      → Some (unit_at text (record { event = event; length = n + length })) ≡ unit_of text
  a_unit event m is_unit =
      ap (λ t. Some (record { event = event; after = lines_of t })) (sym (drop-drop m n text) ∙ ap (drop m) (sym is)) ∙ (is_unit ∙ sym unit_after)

-- what is left behind blanks
some_left : (bs : List ℕ) → 0 < length (skip_blanks bs) → are_blanks bs ≡ false
some_left [] h = absurd (omega (arith, h))
some_left (b ∷ bs) h = by (is_blank b) refl (some_left bs)
  where
    by : (test : Bool) → is_blank b ≡ test → (0 < length (skip_blanks bs) → are_blanks bs ≡ false) → are_blanks (b ∷ bs) ≡ false
    by true e later = let g : 0 < length (skip_blanks bs) = rw e at h in rw e (later g)
    by false e later = rw e refl

none_left : (bs : List ℕ) → skip_blanks bs ≡ [] → are_blanks bs ≡ true
none_left [] h = refl
none_left (b ∷ bs) h = by (is_blank b) refl (none_left bs)
  where
    by : (test : Bool) → is_blank b ≡ test → (skip_blanks bs ≡ [] → are_blanks bs ≡ true) → are_blanks (b ∷ bs) ≡ true
    by true e later = let g : skip_blanks bs ≡ [] = rw e at h in rw e (later g)
    by false e later = let g : b ∷ bs ≡ [] = rw e at h in absurd (cc)

-- the events so far, and a place behind their units and the blanks after them
pub record ReadSoFar (bytes : List ℕ) (events : List Event) (at : ℕ) : Type 0 where
  pub rest : List ℕ
  pub goes_on : (es : List Event) (r : List ℕ) → AreUnits rest es r → AreUnits bytes (events ++ es) r
  pub stands : skip_blanks rest ≡ drop at bytes
  pub within : at ≤ length bytes

-- the unit that stands at the place, of the rest as a slice
module _ (bytes : List ℕ) (events : List Event) (at : ℕ) (rest : List ℕ) (so_far : ReadSoFar bytes events at) (is : rest ≡ drop at bytes) where
  stands_here : unit_of (skip_blanks so_far.rest) ≡ unit_of rest
  stands_here = ap unit_of (so_far.stands ∙ sym is)

  pub read_more : (event : Event) (n next : ℕ) (more : List Event) → Some (unit_at rest (record { event = event; length = n })) ≡ unit_of rest
      → more ≡ events ++ event ∷ [] → skip_blanks (drop (at + n) bytes) ≡ drop next bytes → next ≤ length bytes → ReadSoFar bytes more next
  read_more event n next more unit pushed stands within = record {
    rest = drop (at + n) bytes;
    goes_on = λ es r units. subst (λ fs. AreUnits bytes (fs ++ es) r) (sym pushed)
        (subst (λ fs. AreUnits bytes fs r) (sym (append_assoc events (event ∷ []) es))
        (so_far.goes_on (event ∷ es) r (lines_of (drop n rest), stands_here ∙ sym unit, subst (λ t. AreUnits t es r) (sym (joined (drop n rest) ∙ ap (drop n) is ∙ drop-drop n at bytes)) units)));
    stands = stands;
    within = within;
  }

  left : (r : List ℕ) → AreUnits so_far.rest [] r → AreUnits bytes events r
  left r units = subst (λ fs. AreUnits bytes fs r) (append-nil events) (so_far.goes_on [] r units)

  pub bad_here : at < length bytes → None ≡ unit_of rest → IsBadAt bytes at
  bad_here lt none = record {
    events = events;
    rest = so_far.rest;
    units = left so_far.rest refl;
    more = some_left so_far.rest (omega (arith, ap length so_far.stands, length-drop at bytes, lt));
    none = stands_here ∙ sym none;
    place = omega (arith, ap length so_far.stands, length-drop at bytes, lt);
  }

pub whole_script : (bytes : List ℕ) (events : List Event) (at : ℕ) → length bytes ≤ at → ReadSoFar bytes events at → IsScript bytes events
whole_script bytes events at le so_far = (
  so_far.rest,
  left bytes events at (drop at bytes) so_far refl so_far.rest refl,
  none_left so_far.rest (so_far.stands ∙ drop_all at bytes le),
)

-- what an answer says
abbrev pub IsAnswer : List ℕ → Result (List Event) ScriptFault → Type 0
IsAnswer bytes (Ok es) = IsScript bytes es
IsAnswer bytes (Err (BadScript offset)) = IsBadAt bytes offset
IsAnswer bytes (Err NoMemory) = Unit {0}

pub answer_succeeds : (bytes : List ℕ) (r : Result (List Event) ScriptFault) → IsAnswer bytes r → (es : List Event) → IsScript bytes es → IsOkUnless r NoMemory
answer_succeeds bytes (Ok fs) is es h = tt
answer_succeeds bytes (Err (BadScript offset)) is es h = absurd ((bad_is_no_script bytes offset is).0 es h)
answer_succeeds bytes (Err NoMemory) is es h = refl

pub answer_bad : (bytes : List ℕ) (r : Result (List Event) ScriptFault) → IsAnswer bytes r → (offset : ℕ) → r ≢ Err NoMemory
    → (r ≡ Err (BadScript offset)) ↔ IsBadAt bytes offset
answer_bad bytes (Ok fs) is offset known = (λ e. absurd (cc), λ bad. absurd ((bad_is_no_script bytes offset bad).0 fs is))
answer_bad bytes (Err (BadScript place)) is offset known = (
  λ e. let same : place ≡ offset = cc in subst (IsBadAt bytes) same is,
  λ bad. ap (λ n. Err (BadScript n)) ((bad_is_no_script bytes offset bad).1 place is),
)
answer_bad bytes (Err NoMemory) is offset known = absurd (known refl)
