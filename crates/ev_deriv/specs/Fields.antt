-- The fields of a line of a derivation's text.
use Rattle.std.specs.Prelude.{ℕ, List, [], ◌∷◌, ◌++◌, map, codes, decimal}
use Rattle.ev_terms.specs.declared.types.Tys.{Tys}
use Rattle.ev_terms.specs.Term.{Term}
use Rattle.ev_typing.specs.Env.{Env}
use Rattle.ev_print.specs.Canon.{canon, type_texts}

-- texts with another between them
abbrev pub joined : List ℕ → List (List ℕ) → List ℕ
joined between [] = []
joined between (text ∷ []) = text
joined between (text ∷ next ∷ texts) = text ++ (between ++ joined between (next ∷ texts))

-- a line without its LF
abbrev pub line_of : List (List ℕ) → List ℕ
line_of fields = joined (codes " @ ") fields

-- a line with its LF
abbrev pub ended : List ℕ → List ℕ
ended line = line ++ 10 ∷ []

-- `-` where the list is empty
abbrev pub or_dash : List (List ℕ) → List ℕ → List ℕ
or_dash [] text = codes "-"
or_dash (x ∷ xs) text = text

abbrev pub comma_list : List (List ℕ) → List ℕ
comma_list texts = or_dash texts (joined (codes ", ") texts)

abbrev pub types_field : Tys → List ℕ
types_field types = comma_list (type_texts types)

abbrev pub numbers_field : List ℕ → List ℕ
numbers_field ns = let texts = map decimal ns in or_dash texts (joined (codes " ") texts)

-- terms under n variables
abbrev pub terms_field : Env → ℕ → List Term → List ℕ
terms_field env n ts = comma_list (map (canon env n) ts)
