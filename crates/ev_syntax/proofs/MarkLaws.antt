-- Each mark by name is the row of its spelling, in the definitions and in the code.
use Rattle.std.specs.Prelude.{refl}
use Rattle.ev_syntax.specs.Laws.{ConstantsAreMarks, MarksAreSpellings}

pub marks_are_spellings : MarksAreSpellings
marks_are_spellings = refl

pub constants_are_marks : ConstantsAreMarks
constants_are_marks = refl
