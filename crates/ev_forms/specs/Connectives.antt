-- The connectives that join two predicates.
use Rattle.ev_terms.specs.Term.{Term}
use Rattle.ev_forms.specs.declared.connectives.Connective.{Connective}
use Rattle.ev_forms.specs.declared.connectives.Connective.TheVariants.{And, Or, Implies, Iff}
use Rattle.ev_forms.specs.Forms.{conj, disj, imp, iff}

-- the two predicates with the connective between them
abbrev pub joined : Connective → Term → Term → Term
joined And P Q = conj P Q
joined Or P Q = disj P Q
joined Implies P Q = imp P Q
joined Iff P Q = iff P Q
