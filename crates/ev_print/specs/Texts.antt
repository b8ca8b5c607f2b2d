-- What a canonical text says before types are inferred.
use Rattle.std.specs.Prelude.{ℕ, ◌+◌, ◌-◌, List, [], ◌∷◌, Option, Some, None}
use Rattle.ev_terms.specs.declared.types.Ty.{Ty, Int, Bool, Prop, Param, Data}
use Rattle.ev_terms.specs.declared.types.Tys.{Tys, Empty}
use Rattle.ev_terms.specs.declared.types.Sym.{Sym}
use Rattle.ev_terms.specs.declared.types.Sym.TheVariants.{Base, User}
use Rattle.ev_terms.specs.Types.{pow, prod, more, type_list}
use Rattle.ev_terms.specs.Term.{Term, Terms, var, lit, node, nil, cons}
use Rattle.ev_terms.specs.Symbols.{binds}
use Rattle.ev_typing.specs.Env.{Env, profile}
use Rattle.ev_syntax.specs.Marks.{not_word, minus_sign, int_word, bool_set_word}
use Rattle.ev_syntax.specs.Raw.{RawType, RawTypes, int_type, bool_type, param_type, named_type, pow_type, prod_type, no_types, one_type, Binder, Raw, Raws, word, literal, param, type_set, call, around, unary, binary, inverse, apply, image, of_type, quantified, set_of, members, none, one}
use Rattle.ev_print.specs.declared.styles.Style.{Style}
use Rattle.ev_print.specs.declared.styles.Style.TheVariants.{Word, Infix, Not, Minus, Inverse, Around, Quantifier, SetFormer, Whole, Image, Application}
use Rattle.ev_print.specs.Styles.{base_style}
use Rattle.ev_print.specs.Canon.{variable_text, first_type, annotation}

abbrev mutual
  -- a type as it is written
  pub raw_type : Ty → RawType
  raw_type Int = int_type
  raw_type Bool = bool_type
  raw_type Prop = bool_type
  raw_type (Param i) = param_type i
  raw_type (pow a) = pow_type (raw_type a)
  raw_type (prod a b) = prod_type (raw_type a) (raw_type b)
  raw_type (Data n types) = named_type n (raw_types types)

  pub raw_types : Tys → RawTypes
  raw_types Empty = no_types
  raw_types (more a types) = one_type (raw_type a) (raw_types types)

-- the variable bound under n variables, with its type
abbrev pub raw_binder : ℕ → Ty → Binder
raw_binder n a = record { name = variable_text n; type = Some (raw_type a) }

abbrev pub raw_whole : Ty → Raw
raw_whole Int = word int_word
raw_whole Bool = word bool_set_word
raw_whole (Param i) = param i
raw_whole a = type_set (raw_type a)

-- an application: of a variable it reads as a call
abbrev pub raw_application : Option (List ℕ) → Raw → Raw → Raw
raw_application (Some v) f e = call v (one e none)
raw_application None f e = apply f e

-- a base symbol over its children, of which the first may be a variable
abbrev pub raw_written : Style → ℕ → List Ty → Option (List ℕ) → Raws → Raw
raw_written (Word m) n types v es = word m
raw_written (Infix m) n types v (one a (one b es)) = binary m a b
raw_written Not n types v (one a es) = unary not_word a
raw_written Minus n types v (one a es) = unary minus_sign a
raw_written Inverse n types v (one a es) = inverse a
raw_written (Around m) n types v (one a es) = around m a
raw_written (Quantifier m) n types v (one a es) = quantified m (raw_binder n (first_type types) ∷ []) a
raw_written SetFormer n types v (one a es) = set_of (raw_binder n (first_type types)) a
raw_written Whole n types v es = raw_whole (first_type types)
raw_written Image n types v (one a (one b es)) = image a b
raw_written Application n types v (one a (one b es)) = raw_application v a b
raw_written _ n types v es = members none

abbrev pub raw_symbol : Sym → ℕ → List Ty → Option (List ℕ) → Raws → Raw
raw_symbol (Base row) n types v es = raw_written (base_style row) n types v es
raw_symbol (User name) n types v es = call name es

abbrev pub raw_annotated : Option Ty → Raw → Raw
raw_annotated None e = e
raw_annotated (Some a) e = of_type e (raw_type a)

-- the name of the first term where it is a variable
abbrev pub first_variable : ℕ → Terms → Option (List ℕ)
first_variable n (cons (var i) ts) = Some (variable_text (n - (i + 1)))
first_variable n _ = None

module _ (env : Env) where
  abbrev mutual
    -- a term under n variables
    pub raw_term : ℕ → Term → Raw
    raw_term n (var i) = call (variable_text (n - (i + 1))) none
    raw_term n (lit k) = literal k
    raw_term n (node s types ts) =
        raw_annotated (annotation s (profile env s) types)
        (raw_symbol s n (type_list types) (first_variable (n + binds s) ts) (raw_terms (n + binds s) ts))

    pub raw_terms : ℕ → Terms → Raws
    raw_terms n nil = none
    raw_terms n (cons t ts) = one (raw_term n t) (raw_terms n ts)
