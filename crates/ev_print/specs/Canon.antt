-- The canonical text of types and terms.
use Rattle.std.specs.Prelude.{ℕ, ◌+◌, ◌-◌, Bool as Boolean, true, false, ◌&&◌, not, List, [], ◌∷◌, ◌++◌, map, Option, Some, None, codes, decimal, if◌then◌else◌, slice_index_or}
use Rattle.std.specs.List.{list_any, range_with_len}
use Rattle.ev_terms.specs.declared.types.Ty.{Ty, Int, Bool, Prop, Param, Data}
use Rattle.ev_terms.specs.declared.types.Tys.{Tys, Empty}
use Rattle.ev_terms.specs.declared.types.Sym.{Sym}
use Rattle.ev_terms.specs.declared.types.Sym.TheVariants.{Base, User}
use Rattle.ev_terms.specs.Types.{pow, prod, more, type_list}
use Rattle.ev_terms.specs.Term.{Term, Terms, var, lit, node, nil, cons}
use Rattle.ev_terms.specs.Symbols.{binds}
use Rattle.ev_terms.specs.Substitution.{type_inst, type_at}
use Rattle.ev_typing.specs.Profiles.{Profile}
use Rattle.ev_typing.specs.Env.{Env, profile}
use Rattle.ev_typing.specs.Occurs.{has_param}
use Rattle.ev_print.specs.declared.styles.Style.{Style}
use Rattle.ev_print.specs.declared.styles.Style.TheVariants.{Word, Braces, Infix, Not, Minus, Inverse, Around, Quantifier, SetFormer, Whole, Image, Application}
use Rattle.ev_print.specs.Styles.{base_style, spelled, is_closed, shows_type}

abbrev pub in_parens : List ℕ → List ℕ
in_parens text = codes "(" ++ (text ++ codes ")")

-- texts with `, ` between them
abbrev pub with_commas : List (List ℕ) → List ℕ
with_commas [] = []
with_commas (text ∷ []) = text
with_commas (text ∷ next ∷ texts) = text ++ (codes ", " ++ with_commas (next ∷ texts))

-- a name before its arguments, or alone where it has none
abbrev pub called_text : List ℕ → List (List ℕ) → List ℕ
called_text n [] = n
called_text n (text ∷ texts) = n ++ in_parens (with_commas (text ∷ texts))

abbrev pub param_text : ℕ → List ℕ
param_text i = codes "?" ++ decimal i

abbrev pub is_product : Ty → Boolean
is_product (prod a b) = true
is_product _ = false

-- the operand of `**`: in parentheses where it is a product
abbrev pub factor : Boolean → List ℕ → List ℕ
factor product text = if product then in_parens text else text

abbrev mutual
  -- the text of a type; `PRED` stands for the type of predicates, which no type of a formula has in it
  pub type_text : Ty → List ℕ
  type_text Int = codes "INT"
  type_text Bool = codes "BOOL"
  type_text Prop = codes "PRED"
  type_text (Param i) = param_text i
  type_text (pow a) = codes "POW" ++ in_parens (type_text a)
  type_text (prod a b) = factor (is_product a) (type_text a) ++ (codes " ** " ++ factor (is_product b) (type_text b))
  type_text (Data n types) = called_text n (type_texts types)

  pub type_texts : Tys → List (List ℕ)
  type_texts Empty = []
  type_texts (more a types) = type_text a ∷ type_texts types

-- a text, whether it may be an operand without parentheses, and whether it may so be the function of an application
pub record Piece : Type 0 where
  pub text : List ℕ
  pub closed : Boolean
  pub function : Boolean

abbrev pub operand_text : Piece → List ℕ
operand_text p = if p.closed then p.text else in_parens p.text

abbrev pub function_text : Piece → List ℕ
function_text p = if p.function then p.text else in_parens p.text

abbrev pub texts : List Piece → List (List ℕ)
texts ps = map (λ p. p.text) ps

-- `v` and the position, that is, the number of variables outside
abbrev pub variable_text : ℕ → List ℕ
variable_text position = codes "v" ++ decimal position

abbrev pub first_type : List Ty → Ty
first_type types = slice_index_or types 0 Int

-- the variable bound under n variables, with its type
abbrev pub bound_text : ℕ → Ty → List ℕ
bound_text n a = variable_text n ++ (codes " oftype " ++ type_text a)

-- the set of all of a type: `INT`, `BOOL` and parameters stand for themselves
abbrev pub whole_text : Ty → List ℕ
whole_text Int = codes "INT"
whole_text Bool = codes "BOOL"
whole_text (Param i) = param_text i
whole_text a = codes "TYPE" ++ in_parens (type_text a)

-- the texts of a base symbol's children put together, under n variables
abbrev pub written : Style → ℕ → List Ty → List Piece → List ℕ
written (Word m) n types ps = spelled m
written Braces n types ps = codes "{}"
written (Infix m) n types (x ∷ y ∷ ps) = operand_text x ++ (codes " " ++ (spelled m ++ (codes " " ++ operand_text y)))
written Not n types (x ∷ ps) = codes "not " ++ operand_text x
written Minus n types (x ∷ ps) = codes "-" ++ operand_text x
written Inverse n types (x ∷ ps) = operand_text x ++ codes "~"
written (Around m) n types (x ∷ ps) = spelled m ++ in_parens x.text
written (Quantifier m) n types (x ∷ ps) = spelled m ++ (bound_text n (first_type types) ++ (codes ". " ++ x.text))
written SetFormer n types (x ∷ ps) = codes "{" ++ (bound_text n (first_type types) ++ (codes " | " ++ (x.text ++ codes "}")))
written Whole n types ps = whole_text (first_type types)
written Image n types (x ∷ y ∷ ps) = operand_text x ++ (codes "[" ++ (y.text ++ codes "]"))
written Application n types (x ∷ y ∷ ps) = function_text x ++ in_parens y.text
written _ n types ps = []

-- a symbol's text with those of its children
abbrev pub written_symbol : Sym → ℕ → List Ty → List Piece → List ℕ
written_symbol (Base row) n types ps = written (base_style row) n types ps
written_symbol (User name) n types ps = called_text name (texts ps)

abbrev pub is_closed_symbol : Sym → Boolean
is_closed_symbol (Base row) = is_closed (base_style row)
is_closed_symbol (User name) = true

abbrev pub symbol_shows_type : Sym → Boolean
symbol_shows_type (Base row) = shows_type (base_style row)
symbol_shows_type (User name) = false

-- some type parameter occurs in no type of the children
abbrev pub leaves_open : Profile → Boolean
leaves_open h = list_any (λ i. not (list_any (has_param i) h.args)) (range_with_len 0 h.params)

-- the type to write behind a symbol at these types, or none
abbrev pub annotation : Sym → Option Profile → Tys → Option Ty
annotation s None types = None
annotation s (Some h) types =
    if not (symbol_shows_type s) && leaves_open h then Some (type_inst (type_at types) h.result) else None

abbrev pub annotated : Option Ty → Piece → Piece
annotated None p = p
annotated (Some a) p = record { text = in_parens (p.text ++ (codes " oftype " ++ type_text a)); closed = true; function = true }

module _ (env : Env) where
  abbrev mutual
    -- a term under n variables
    pub piece : ℕ → Term → Piece
    piece n (var i) = record { text = variable_text (n - (i + 1)); closed = true; function = true }
    piece n (lit k) = record { text = decimal k; closed = true; function = false }
    piece n (node s types ts) =
        annotated (annotation s (profile env s) types)
        (record { text = written_symbol s n (type_list types) (pieces (n + binds s) ts); closed = is_closed_symbol s; function = false })

    pub pieces : ℕ → Terms → List Piece
    pieces n nil = []
    pieces n (cons t ts) = piece n t ∷ pieces n ts

  -- its canonical text
  abbrev pub canon : ℕ → Term → List ℕ
  canon n t = (piece n t).text
