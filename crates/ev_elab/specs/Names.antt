-- Names of an element in its state.
use Rattle.std.specs.Prelude.{Bool as Boolean}
use Rattle.ev_theory_text.specs.declared.forms.ElementForm.{ElementForm}
use Rattle.ev_elab.specs.States.{State, labels, own_names}
use Rattle.ev_elab.specs.Unknown.{element_unknown}
use Rattle.ev_elab.specs.Taken.{element_taken}

-- the element uses a name that is not in scope
abbrev pub has_unknown : State → ElementForm → Boolean
has_unknown s form = element_unknown s.params s.env form

-- a name that it declares or binds is taken
abbrev pub has_taken : State → ElementForm → Boolean
has_taken s form = element_taken s.params s.env (labels s.elements) (own_names s.elements) form
