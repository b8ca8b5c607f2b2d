-- What of a text is known before it is written: the type behind a symbol, and whether a term needs parentheses.
use Rattle.std.specs.Prelude.{ℕ, List, Bool as Boolean, true, false, is_some, Option, Some, None, ◌&&◌, ◌++◌, codes, not, if◌then◌else◌}
use Rattle.ev_terms.specs.declared.types.Ty.{Ty}
use Rattle.ev_terms.specs.declared.types.Sym.{Sym}
use Rattle.ev_terms.specs.Term.{Term, var, lit, node}
use Rattle.ev_typing.specs.Profiles.{Profile}
use Rattle.ev_typing.specs.Env.{Env, profile}
use Rattle.ev_print.specs.Canon.{symbol_shows_type, is_closed_symbol, leaves_open, in_parens, type_text}

-- the type of a symbol that leaves a type parameter open, before its type arguments are put in
abbrev pub open_type : Sym → Option Profile → Option Ty
open_type s None = None
open_type s (Some h) = if not (symbol_shows_type s) && leaves_open h then Some h.result else None

-- the term may be an operand without parentheses
abbrev pub closed_term : Term → Boolean
closed_term (var i) = true
closed_term (lit k) = true
closed_term (node s As ts) = is_closed_symbol s

-- `TYPE` of a type that has no word of its own
abbrev pub type_word_text : Ty → List ℕ
type_word_text A = codes "TYPE" ++ in_parens (type_text A)

-- the term may be the function of an application without parentheses
abbrev pub function_term : Env → Term → Boolean
function_term env (var i) = true
function_term env (lit k) = false
function_term env (node s As ts) = is_some (open_type s (profile env s))
