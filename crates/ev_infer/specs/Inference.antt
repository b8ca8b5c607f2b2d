-- The annotations of a raw tree over an environment, and its type equations.
use Rattle.std.specs.Prelude.{ℕ, Bool as Boolean, true, false, ◌||◌, ◌++◌, List, map, reverse, Option, Some, None, option_map, option_and_then, if◌then◌else◌}
use Rattle.std.specs.List.{AllByRecursion}
use Rattle.ev_terms.specs.declared.types.Ty.{Ty}
use Rattle.ev_terms.specs.Term.{Term}
use Rattle.ev_syntax.specs.Raw.{Raw}
use Rattle.ev_typing.specs.Env.{Env}
use Rattle.ev_typing.specs.Typing.{Typed}
use Rattle.ev_typing.specs.Proper.{IsResult, is_result}
use Rattle.ev_unify.specs.declared.patterns.Pat.{Pat, Int, Bool, Param, Data, Unknown}
use Rattle.ev_unify.specs.declared.patterns.Pats.{Pats, Empty}
use Rattle.ev_unify.specs.declared.patterns.PatPair.{PatPair}
use Rattle.ev_unify.specs.Patterns.{pow_pat, prod_pat, more_pats, all_followed}
use Rattle.ev_resolve.specs.Reading.{Variable, context_type}
use Rattle.ev_infer.specs.Annotates.{AnnotatesAt, HasNone, HasTwo, IsOnly}
use Rattle.ev_resolve.specs.Bare.{Bare}
use Rattle.ev_infer.specs.Equations.{PatTerm, PatTerms, pat_var, pat_lit, pat_node, pat_nil, pat_cons, same_pattern, sort_of, meet, Emitted, emit}
use Rattle.ev_resolve.specs.Resolve.{known_of, forget, resolve}
use Rattle.ev_resolve.specs.TakenNames.{takes_name}

-- the types of the variables are proper, or `Prop` for a predicate variable
abbrev pub HaveProperTypes : Env → List Variable → Type 0
HaveProperTypes env vars = AllByRecursion (λ (v : Variable). IsResult env v.type) vars

-- the context of a walk, the outermost variable first
abbrev pub variable_patterns : List Variable → List Pat
variable_patterns vars = map (λ (v : Variable). same_pattern (context_type v.type)) vars

-- with one more pair where a type is asked; none where it is no type of the environment, or where a predicate is asked and an expression stands
abbrev pub with_pairs : Emitted → List PatPair → Emitted
with_pairs e qs = record { next = e.next; sort = e.sort; pairs = e.pairs ++ qs; term = e.term }

abbrev pub asked : Env → Option Ty → Emitted → Option Emitted
asked env None e = Some e
asked env (Some A) e = if is_result env A then option_map (with_pairs e) (meet e.sort (sort_of Empty A)) else None

module _ (env : Env) (params : List (List ℕ)) (vars : List Variable) (raw : Raw) where
  -- an annotation, also with the type that is asked
  abbrev pub IsAnnotation : Option Ty → Term → Type 0
  IsAnnotation expected t = AnnotatesAt params (known_of env) (Typed env) vars raw expected t

  abbrev pub HasNoAnnotation : Option Ty → Type 0
  HasNoAnnotation expected = HasNone params (known_of env) (Typed env) vars raw expected

  abbrev pub HasTwoAnnotations : Option Ty → Type 0
  HasTwoAnnotations expected = HasTwo params (known_of env) (Typed env) vars raw expected

  abbrev pub IsOnlyAnnotation : Option Ty → Term → Type 0
  IsOnlyAnnotation expected t = IsOnly params (known_of env) (Typed env) vars raw expected t

  -- The equations: in the first variable's place of `vars` the outermost stands. None where a sort, a number of arguments or a
  -- written type does not fit, or a binder has a formula name.
  abbrev pub equations : Option Ty → Option Emitted
  equations expected =
      if takes_name env params raw then None
      else option_and_then (asked env expected) (option_and_then (λ (b : Bare). emit env b (variable_patterns vars) 0) (resolve params (known_of env) raw (map forget (reverse vars))))

-- the same of a bare term, where these variables stand
abbrev pub bare_equations : Env → List Pat → Option Ty → Bare → Option Emitted
bare_equations env ctx expected b = option_and_then (asked env expected) (emit env b ctx 0)

-- some unknown stands in the pattern
abbrev mutual
  pub is_open : Pat → Boolean
  is_open Int = false
  is_open Bool = false
  is_open (Param i) = false
  is_open (pow_pat a) = is_open a
  is_open (prod_pat a b) = is_open a || is_open b
  is_open (Data n ps) = are_open ps
  is_open (Unknown u) = true

  pub are_open : Pats → Boolean
  are_open Empty = false
  are_open (more_pats a ps) = is_open a || are_open ps

-- a free unknown stands in the types of the solved tree
abbrev mutual
  pub leaves_free : (ℕ → Pat) → PatTerm → Boolean
  leaves_free μ (pat_var i) = false
  leaves_free μ (pat_lit n) = false
  leaves_free μ (pat_node s ps ts) = are_open (all_followed μ ps) || leave_free μ ts

  pub leave_free : (ℕ → Pat) → PatTerms → Boolean
  leave_free μ pat_nil = false
  leave_free μ (pat_cons t ts) = leaves_free μ t || leave_free μ ts
