-- What may follow lists of types and of terms.
use Rattle.std.specs.Prelude.{List}
use Rattle.ev_syntax.specs.Marks.{comma, of_word}
use Rattle.ev_syntax.specs.Tokens.{Token}
use Rattle.ev_parse.specs.inner.Taking.{NotBefore, EndsType, EndsFormula}

abbrev pub EndsTypes : List Token → Type 0
EndsTypes ts = EndsType ts × NotBefore comma ts

abbrev pub EndsTerms : List Token → Type 0
EndsTerms ts = EndsFormula ts × NotBefore comma ts × NotBefore of_word ts
