-- The symbols that bind a variable or relate two terms, each at one type.
use Rattle.ev_terms.specs.declared.types.Ty.{Ty, Prop}
use Rattle.ev_terms.specs.declared.types.Tys.{Tys, Empty}
use Rattle.ev_terms.specs.Types.{more}
use Rattle.ev_terms.specs.Term.{Term}
use Rattle.ev_forms.specs.declared.forms.Binder.{Binder}
use Rattle.ev_forms.specs.declared.forms.Binder.TheVariants.{ForAll, ForSome, SetOf}
use Rattle.ev_forms.specs.declared.forms.Relation.{Relation}
use Rattle.ev_forms.specs.declared.forms.Relation.TheVariants.{Equal, In}
use Rattle.ev_forms.specs.Forms.{forall, exists, such_that, eq, mem}

-- the predicate under the binder, whose variable has the type
abbrev pub bound : Binder → Ty → Term → Term
bound ForAll A P = forall A P
bound ForSome A P = exists A P
bound SetOf A P = such_that A P

-- the relation at the type, between two terms
abbrev pub related : Relation → Ty → Term → Term → Term
related Equal A s t = eq A s t
related In A s t = mem A s t

-- what an equation is at, by its type arguments: none between predicates, the type between expressions
abbrev pub equated : Tys → Ty
equated Empty = Prop
equated (more A As) = A
