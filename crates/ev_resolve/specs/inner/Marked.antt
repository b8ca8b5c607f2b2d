-- The tables of marks as the code keeps them.
use Rattle.ev_terms.specs.declared.types.Sym.TheVariants.{Base}
use Rattle.ev_resolve.specs.Reading.{Plain}
use Rattle.ev_resolve.specs.declared.marks.Marked.{Marked}

abbrev pub plain_of : Marked → Plain
plain_of e = record { mark = e.mark; sym = Base e.row; swapped = e.swapped; negated = e.negated }
