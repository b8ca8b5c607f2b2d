-- The numbers that a walk gives to the unknowns of a bare term, by themselves: what a second walk needs to build the term.
use Rattle.std.specs.Prelude.{ℕ, ◌+◌, Option, Some, None}
use Rattle.ev_terms.specs.declared.types.Ty.{Ty}
use Rattle.ev_terms.specs.declared.types.Sym.{Sym}
use Rattle.ev_typing.specs.Profiles.{Profile}
use Rattle.ev_typing.specs.Env.{Env, profile}
use Rattle.ev_unify.specs.declared.patterns.Pats.{Empty}
use Rattle.ev_unify.specs.Patterns.{more_pats}
use Rattle.ev_resolve.specs.Bare.{Bare, Bares, bare_var, bare_lit, bare_node, bare_of, bare_none, bare_more}
use Rattle.ev_infer.specs.Equations.{PatTerm, PatTerms, pat_var, pat_lit, pat_node, pat_nil, pat_cons, same_pattern, unknowns, NodeTypes}

pub record Numbered : Type 0 where
  pub term : PatTerm
  pub next : ℕ

pub record AllNumbered : Type 0 where
  pub terms : PatTerms
  pub next : ℕ

abbrev pub params_of : Option Profile → ℕ
params_of None = 0
params_of (Some p) = p.params

abbrev pub node_numbers : Option Ty → ℕ → ℕ → NodeTypes
node_numbers None params k = record { types = unknowns k params; next = k + params }
node_numbers (Some A) params k = record { types = more_pats (same_pattern A) Empty; next = k }

abbrev pub node_numbered : Sym → NodeTypes → AllNumbered → Numbered
node_numbered s ps all = record { term = pat_node s ps.types all.terms; next = all.next }

abbrev pub more_numbered : Numbered → AllNumbered → AllNumbered
more_numbered t all = record { terms = pat_cons t.term all.terms; next = all.next }

module _ (env : Env) where
  abbrev mutual
    pub numbered : Bare → ℕ → Numbered
    numbered (bare_var i) k = record { term = pat_var i; next = k }
    numbered (bare_lit n) k = record { term = pat_lit n; next = k }
    numbered (bare_node s w bs) k =
        node_numbered s (node_numbers w (params_of (profile env s)) k) (all_numbered bs (node_numbers w (params_of (profile env s)) k).next)
    numbered (bare_of b A) k = numbered b k

    pub all_numbered : Bares → ℕ → AllNumbered
    all_numbered bare_none k = record { terms = pat_nil; next = k }
    all_numbered (bare_more b bs) k = more_numbered (numbered b k) (all_numbered bs (numbered b k).next)
