-- The type equations of a bare term: one walk that numbers the unknowns from a number on, emits pairs, and says the term that is
-- built once the unknowns are known.
use Rattle.std.specs.Prelude.{ℕ, zero, suc, ◌+◌, ◌^◌, ◌==◌, ◌&&◌, nat_lt, List, [], ◌∷◌, ◌++◌, reverse, slice_get, take, Option, Some, None, option_map, option_and_then, if◌then◌else◌}
use Rattle.ev_terms.specs.declared.types.Ty.{Ty, Int as IntType, Bool as BoolType, Prop, Param as ParamType, Data as DataType}
use Rattle.ev_terms.specs.declared.types.Tys.{Tys, Empty as NoTypes}
use Rattle.ev_terms.specs.declared.types.Sym.{Sym}
use Rattle.ev_terms.specs.Types.{pow, prod, more}
use Rattle.ev_terms.specs.Term.{Term, Terms, var, lit, node, nil, cons}
use Rattle.ev_terms.specs.Symbols.{binds}
use Rattle.ev_typing.specs.Profiles.{Profile}
use Rattle.ev_typing.specs.Env.{Env, profile}
use Rattle.ev_typing.specs.Proper.{is_proper}
use Rattle.ev_unify.specs.declared.patterns.Pat.{Pat, Int, Bool, Data, Unknown}
use Rattle.ev_unify.specs.declared.patterns.Pats.{Pats, Empty}
use Rattle.ev_unify.specs.declared.patterns.PatPair.{PatPair}
use Rattle.ev_unify.specs.Patterns.{pow_pat, prod_pat, more_pats, pat_list, pat_at, value, values}
use Rattle.ev_infer.specs.declared.sorts.Sort.{Sort}
use Rattle.ev_infer.specs.declared.sorts.Sort.TheVariants.{Predicate as predicate, Expression as expression}
use Rattle.ev_resolve.specs.Bare.{Bare, Bares, bare_var, bare_lit, bare_node, bare_of, bare_none, bare_more}

-- a term whose types are patterns
mutual
  pub data PatTerm : Type 0 where
    pat_var : ℕ → PatTerm
    pat_lit : ℕ → PatTerm
    pat_node : Sym → Pats → PatTerms → PatTerm

  pub data PatTerms : Type 0 where
    pat_nil : PatTerms
    pat_cons : PatTerm → PatTerms → PatTerms

-- the term where each unknown is a type
abbrev mutual
  pub filled : (ℕ → Ty) → PatTerm → Term
  filled σ (pat_var i) = var i
  filled σ (pat_lit n) = lit n
  filled σ (pat_node s ps ts) = node s (values σ ps) (all_filled σ ts)

  pub all_filled : (ℕ → Ty) → PatTerms → Terms
  all_filled σ pat_nil = nil
  all_filled σ (pat_cons t ts) = cons (filled σ t) (all_filled σ ts)

abbrev pub sort_type : (ℕ → Ty) → Sort → Ty
sort_type σ predicate = Prop
sort_type σ (expression p) = value σ p

-- a type with these patterns for its parameters; a type that is asked has no `Prop` inside
abbrev mutual
  pub pattern_of : Pats → Ty → Pat
  pattern_of ps IntType = Int
  pattern_of ps BoolType = Bool
  pattern_of ps Prop = Int
  pattern_of ps (ParamType i) = pat_at ps i
  pattern_of ps (pow A) = pow_pat (pattern_of ps A)
  pattern_of ps (prod A B) = prod_pat (pattern_of ps A) (pattern_of ps B)
  pattern_of ps (DataType n As) = Data n (patterns_of ps As)

  pub patterns_of : Pats → Tys → Pats
  patterns_of ps NoTypes = Empty
  patterns_of ps (more A As) = more_pats (pattern_of ps A) (patterns_of ps As)

-- a type as it stands
abbrev pub same_pattern : Ty → Pat
same_pattern A = pattern_of Empty A

abbrev pub sort_of : Pats → Ty → Sort
sort_of ps Prop = predicate
sort_of ps A = expression (pattern_of ps A)

-- the pairs that make two sorts one, or none where one is of predicates and the other of expressions
abbrev pub meet : Sort → Sort → Option (List PatPair)
meet predicate predicate = Some []
meet predicate (expression q) = None
meet (expression p) predicate = None
meet (expression p) (expression q) = Some (record { left = p; right = q } ∷ [])

-- n unknowns from k on
abbrev pub unknowns : ℕ → ℕ → Pats
unknowns k zero = Empty
unknowns k (suc n) = more_pats (Unknown k) (unknowns (k + 1) n)

-- a walk's answer for a term, and for terms; `next` is the first number that is not used
pub record Emitted : Type 0 where
  pub next : ℕ
  pub sort : Sort
  pub pairs : List PatPair
  pub term : PatTerm

pub record AllEmitted : Type 0 where
  pub next : ℕ
  pub pairs : List PatPair
  pub terms : PatTerms

-- a node's types, and the next number: new unknowns, or the written type, where it is a type of the environment
pub record NodeTypes : Type 0 where
  pub types : Pats
  pub next : ℕ

abbrev pub of_profile : {X : Type 0} → (Profile → Option X) → Option Profile → Option X
of_profile f o = option_and_then f o

module _ (env : Env) where
  abbrev pub node_types : Option Ty → ℕ → ℕ → Option NodeTypes
  node_types None params k = Some (record { types = unknowns k params; next = k + params })
  node_types (Some A) params k =
      if params == 1 && is_proper env A then Some (record { types = more_pats (same_pattern A) Empty; next = k }) else None

  -- the context of a symbol's children
  abbrev pub under : List Pat → Sym → Pats → List Pat
  under ctx s ps = ctx ++ take (binds s) (pat_list ps)

  abbrev pub var_emitted : ℕ → ℕ → Pat → Emitted
  var_emitted i k p = record { next = k; sort = expression p; pairs = []; term = pat_var i }

  abbrev pub node_emitted : Sym → Pats → Profile → AllEmitted → Emitted
  node_emitted s ps p all = record { next = all.next; sort = sort_of ps p.result; pairs = all.pairs; term = pat_node s ps all.terms }

  abbrev pub of_emitted : Ty → Emitted → List PatPair → Emitted
  of_emitted A e qs = record { next = e.next; sort = e.sort; pairs = e.pairs ++ qs; term = e.term }

  abbrev pub none_emitted : ℕ → AllEmitted
  none_emitted k = record { next = k; pairs = []; terms = pat_nil }

  abbrev pub more_emitted : Emitted → List PatPair → AllEmitted → AllEmitted
  more_emitted e qs all = record { next = all.next; pairs = e.pairs ++ (qs ++ all.pairs); terms = pat_cons e.term all.terms }

  -- The context has the outermost variable's type first. None where a sort, a number of arguments or a written type does not fit.
  abbrev mutual
    pub emit : Bare → List Pat → ℕ → Option Emitted
    emit (bare_var i) ctx k = option_map (var_emitted i k) (slice_get (reverse ctx) i)
    emit (bare_lit n) ctx k =
        if nat_lt n (2 ^ 127) then Some (record { next = k; sort = expression Int; pairs = []; term = pat_lit n }) else None
    emit (bare_node s w bs) ctx k =
        option_and_then
        (λ (p : Profile). option_and_then (λ (ps : NodeTypes). option_map (node_emitted s ps.types p) (emit_all bs p.args ps.types (under ctx s ps.types) ps.next)) (node_types w p.params k))
        (profile env s)
    emit (bare_of b A) ctx k =
        if is_proper env A
        then option_and_then (λ (e : Emitted). option_map (of_emitted A e) (meet e.sort (expression (same_pattern A)))) (emit b ctx k)
        else None

    -- the terms at the types of a signature, with these patterns for its parameters
    pub emit_all : Bares → List Ty → Pats → List Pat → ℕ → Option AllEmitted
    emit_all bare_none [] ps ctx k = Some (none_emitted k)
    emit_all bare_none (A ∷ As) ps ctx k = None
    emit_all (bare_more b bs) [] ps ctx k = None
    emit_all (bare_more b bs) (A ∷ As) ps ctx k =
        option_and_then
        (λ (e : Emitted). option_and_then (λ (qs : List PatPair). option_map (more_emitted e qs) (emit_all bs As ps ctx e.next)) (meet e.sort (sort_of ps A)))
        (emit b ctx k)
