-- The tests whether names of an element are taken, and their definition.
use Rattle.std.specs.Prelude.{◌≡◌, ◌||◌, Bool, List, Result, Ok, Err, IfOk}
use Rattle.std.specs.List.{list_any}
use Rattle.std.proofs.Common.{ap, sym, ◌∙◌, append_assoc}
use Rattle.std.proofs.lemmas.List.Folds.{list_any-append}
use Rattle.ev_terms.specs.declared.values.NoMemory.{NoMemory}
use Rattle.ev_typing.specs.Env.{Name}
use Rattle.ev_typing.proofs.Names.{drop_at, drop_all}
use Rattle.ev_theory_text.specs.declared.forms.RawCase.{RawCase}
use Rattle.ev_resolve.specs.UsedNames.{is_name_among}
use Rattle.ev_elab.specs.Parts.{but}
use Rattle.ev_elab.specs.Taken.{repeats, case_taken}
use Rattle.ev_elab.specs.inner.Takes.{case_repeats}
use Rattle.ev_elab.proofs.UnknownLaws.{any_same}

pub ruleset lists = (drop_at, drop_all, append_assoc)

-- a table of the other arguments serves for the arguments
pub cases_by : (other : Name → Bool) (args : List Name) (by : Name) → ((n : Name) → other n ≡ is_name_among (but by args) n) → (cases : List RawCase)
    → list_any (case_repeats other) cases ≡ list_any (case_taken args by) cases
cases_by other args by h cases = any_same _ _ (λ (c : RawCase). ap (λ b. repeats c.vars || b) (any_same _ _ h c.vars)) cases

pub cases_told : (args : List Name) (by : Name) (cases : List RawCase) (other : Name → Bool) (r : Result Bool NoMemory) → ((n : Name) → other n ≡ is_name_among (but by args) n)
    → IfOk r (λ b. b ≡ list_any (case_repeats other) cases) → IfOk r (λ b. b ≡ list_any (case_taken args by) cases)
cases_told args by cases other (Ok b) h e = e ∙ cases_by other args by h cases
cases_told args by cases other (Err x) h e = e

pub ruleset declared = (list_any-append)

pub ruleset whole = (list_any-append)
