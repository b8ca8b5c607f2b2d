-- Unfolding: each application of a direct operator is replaced by its unfolded body with the unfolded arguments and the types put
-- in (the direct definitions of Butler and Maamria, Practical Theory Extension in Event-B).
use Rattle.std.specs.Prelude.{◌++◌, List, [], ◌∷◌, Option, Some, None, map}
use Rattle.ev_terms.specs.declared.types.Tys.{Tys}
use Rattle.ev_terms.specs.declared.types.Sym.{Sym}
use Rattle.ev_terms.specs.declared.types.Sym.TheVariants.{Base, User}
use Rattle.ev_terms.specs.Term.{Term, Terms, var, lit, node, nil, cons, term_list}
use Rattle.ev_terms.specs.Substitution.{fill, instance}
use Rattle.ev_terms.specs.Measures.{size, depth, capped}
use Rattle.ev_terms.specs.declared.extents.Extent.{Extent}
use Rattle.ev_typing.specs.declared.typing.Entry.{Entry}
use Rattle.ev_typing.specs.declared.typing.Entry.TheVariants.{Direct}
use Rattle.ev_typing.specs.declared.typing.Sequent.{Sequent}
use Rattle.ev_typing.specs.Env.{Env, Name, look_up}

-- the unfolded bodies of direct operators, under their names
abbrev pub Bodies : Type 0
Bodies = List (Name × Term)

-- the unfolded body of a symbol that has one
abbrev pub body_of : Bodies → Sym → Option Term
body_of bodies (Base k) = None
body_of bodies (User n) = look_up bodies n

-- a node whose children are unfolded: the body with types and arguments put in, where there is one
abbrev pub unfolded_node : Option Term → Sym → Tys → Terms → Term
unfolded_node None s As ts = node s As ts
unfolded_node (Some body) s As ts = fill (instance body As) (term_list ts)

abbrev mutual
  -- unfolding by given bodies
  pub unfold_by : Bodies → Term → Term
  unfold_by bodies (var i) = var i
  unfold_by bodies (lit n) = lit n
  unfold_by bodies (node s As ts) = unfolded_node (body_of bodies s) s As (unfold_all_by bodies ts)

  pub unfold_all_by : Bodies → Terms → Terms
  unfold_all_by bodies nil = nil
  unfold_all_by bodies (cons t ts) = cons (unfold_by bodies t) (unfold_all_by bodies ts)

-- the bodies after further entries; that of a direct operator is unfolded by those before it
abbrev pub bodies_after : Bodies → List Entry → Bodies
bodies_after bodies [] = bodies
bodies_after bodies (Direct sig condition body ∷ es) = bodies_after (bodies ++ (sig.name, unfold_by bodies body) ∷ []) es
bodies_after bodies (e ∷ es) = bodies_after bodies es

-- the term without direct operators
abbrev pub unfolded : Env → Term → Term
unfolded env t = unfold_by (bodies_after [] env) t

-- the sequent with hypotheses and goal unfolded
abbrev pub unfolded_sequent : Env → Sequent → Sequent
unfolded_sequent env S = record { context = S.context; hyps = map (unfolded env) S.hyps; goal = unfolded env S.goal }

-- how large the term is without direct operators
abbrev pub unfolded_extent : Env → Term → Extent
unfolded_extent env t = record { size = capped (size (unfolded env t)); depth = capped (depth (unfolded env t)) }
