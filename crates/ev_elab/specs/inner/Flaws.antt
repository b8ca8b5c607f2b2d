-- What a formula is read as.
use Rattle.std.specs.Prelude.{List}
use Rattle.ev_typing.specs.Env.{Name}
use Rattle.ev_elab.specs.declared.readings.Reading.{Reading}
use Rattle.ev_elab.specs.declared.readings.Reading.TheVariants.{Read, TooLarge, Ambiguous, IllTyped}
use Rattle.ev_elab.specs.Formulas.{Formula, IsRead, HasNone, HasTwo, HasLarge}

abbrev pub IsReading : List Name → Formula → Reading → Type 0
IsReading params f (Read t) = IsRead params f t
IsReading params f TooLarge = HasLarge params f
IsReading params f Ambiguous = HasTwo params f
IsReading params f IllTyped = HasNone params f
