-- Sketches of conditions, with a pattern for each form that holds another one behind a handle.
use Rattle.std.specs.Prelude.{◌≡◌, refl}
use Rattle.ev_terms.specs.declared.types.Ty.{Ty}
use Rattle.ev_terms.specs.Term.{Term}
use Rattle.ev_forms.specs.declared.connectives.Connective.{Connective}
use Rattle.ev_forms.specs.Connectives.{joined}
use Rattle.ev_forms.specs.Forms.{conj, forall}
use Rattle.ev_wd.specs.Makers.{lowered}
use Rattle.ev_wd.specs.declared.sketches.Sketch.{Sketch, Part}
use Rattle.ev_wd.specs.declared.sketches.Sketch.{Both', Guarded', Bound', Lowered', end_of-Sketch, more_of-Sketch}
use Rattle.ev_wd.specs.declared.sketches.Sketch.TheVariants.{Both, Guarded, Bound, Lowered}

pattern abbrev pub both : Sketch → Sketch → Sketch
both P Q = Both' tt (more_of-Sketch P end_of-Sketch) tt (more_of-Sketch Q end_of-Sketch)

pattern abbrev pub guarded : Connective → Term → Sketch → Sketch
guarded c P Q = Guarded' c P tt (more_of-Sketch Q end_of-Sketch)

pattern abbrev pub bound : Ty → Sketch → Sketch
bound A P = Bound' A tt (more_of-Sketch P end_of-Sketch)

pattern abbrev pub under_idle : Sketch → Sketch
under_idle P = Lowered' tt (more_of-Sketch P end_of-Sketch)

-- the predicate that a sketch is one of
abbrev pub meaning : Sketch → Term
meaning (Part P) = P
meaning (both P Q) = conj (meaning P) (meaning Q)
meaning (guarded c P Q) = joined c P (meaning Q)
meaning (bound A P) = forall A (meaning P)
meaning (under_idle P) = lowered (meaning P)
