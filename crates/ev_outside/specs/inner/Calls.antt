-- Calls that are numbered from 1, of which some fail.
use Rattle.std.specs.Prelude.{◌==◌, if◌then◌else◌, Bool}
use Rattle.std.specs.List.{list_any}
use Rattle.ev_outside.specs.Ends.{counted}
use Rattle.ev_outside.specs.declared.numbered.Calls.{Calls}

-- the next call is one of those that fail
abbrev pub next_fails : Calls → Bool
next_fails calls = list_any (λ n. n == counted calls.made) calls.failing.items

-- the next call was made
abbrev pub after_call : Calls → Calls
after_call calls =
    record calls {
      made = counted calls.made;
      faults = if next_fails calls then counted calls.faults else calls.faults;
    }
