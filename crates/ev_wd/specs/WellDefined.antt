-- The well-definedness of a term: a predicate in the same context, simplified as it is made. After Métayer and Voisin, The Event-B
-- Mathematical Language; the simplification, and the conditions of destructors, are this project's own.
use Rattle.std.specs.Prelude.{List, [], ◌∷◌, ◌++◌, Option, Some, None, map, length}
use Rattle.ev_terms.specs.declared.types.Ty.{Data as DataType}
use Rattle.ev_terms.specs.declared.types.Tys.{Tys}
use Rattle.ev_terms.specs.declared.types.Sym.{Sym}
use Rattle.ev_terms.specs.declared.types.Sym.TheVariants.{Base, User}
use Rattle.ev_terms.specs.Term.{Term, Terms, var, lit, node, nil, cons, term_list}
use Rattle.ev_terms.specs.Substitution.{shift, fill, instance, type_inst, type_at}
use Rattle.ev_typing.specs.declared.typing.Con.{Con}
use Rattle.ev_typing.specs.Env.{Env, Name, Symbol, ConOf, DesOf, ConstantOf, DirectOf, RecursiveOf, find_symbol, field_types}
use Rattle.ev_forms.specs.Forms.{truth, exists_all, eq, vars, call}
use Rattle.ev_wd.specs.declared.rows.Rule.{Rule}
use Rattle.ev_wd.specs.declared.rows.Rule.TheVariants.{Both, Either, Bound, Children}
use Rattle.ev_wd.specs.Makers.{make_and, make_imp, make_or, make_all, joined}
use Rattle.ev_wd.specs.Demands.{rule_of, parts_of}

-- `#xs. e = c(xs)`, for a constructor c of the datatype at types
abbrev pub is_made_by : Name → Con → Tys → Term → Term
is_made_by d c As e =
    exists_all (map (type_inst (type_at As)) (field_types c))
    (eq (DataType d As) (shift e 0 (length c.fields)) (call c.name As (vars (length c.fields))))

-- a condition with types and arguments put in
abbrev pub parts_of_condition : Option Term → Tys → List Term → List Term
parts_of_condition None As ts = []
parts_of_condition (Some C) As ts = fill (instance C As) ts ∷ []

-- of a destructor's argument: that its constructor made it
abbrev pub parts_of_destructor : Name → Con → Tys → List Term → List Term
parts_of_destructor d c As (e ∷ []) = is_made_by d c As e ∷ []
parts_of_destructor d c As ts = []

-- what a declared symbol asks beside the conditions of its children: a destructor, that its constructor made the argument; an operator
-- or a constant, its condition
abbrev pub parts_of_symbol : Option Symbol → Tys → List Term → List Term
parts_of_symbol None As ts = []
parts_of_symbol (Some (ConOf d c)) As ts = []
parts_of_symbol (Some (DesOf d c i f)) As ts = parts_of_destructor d.name c As ts
parts_of_symbol (Some (ConstantOf sig condition)) As ts = parts_of_condition condition As ts
parts_of_symbol (Some (DirectOf sig condition body)) As ts = parts_of_condition condition As ts
parts_of_symbol (Some (RecursiveOf sig condition place bodies)) As ts = parts_of_condition condition As ts

-- of a symbol with the children P and Q, the condition of Q under P
abbrev pub guarded : (Term → Term → Term) → List Term → List Term → Term
guarded make (P ∷ Q ∷ []) (D ∷ E ∷ []) = make_and D (make P E)
guarded make ts Ds = joined Ds

-- of a symbol that binds a variable in its child
abbrev pub closed_over : Tys → List Term → Term
closed_over As (D ∷ []) = make_all (type_at As 0) D
closed_over As Ds = joined Ds

-- of a base symbol, from its children and their conditions
abbrev pub wd_base : Rule → Tys → List Term → List Term → Term
wd_base Both As ts Ds = guarded make_imp ts Ds
wd_base Either As ts Ds = guarded make_or ts Ds
wd_base Bound As ts Ds = closed_over As Ds
wd_base (Children a) As ts Ds = joined (Ds ++ parts_of a As ts)

-- of a node, from its children and their conditions
abbrev pub wd_node : Env → Sym → Tys → List Term → List Term → Term
wd_node env (Base k) As ts Ds = wd_base (rule_of k) As ts Ds
wd_node env (User n) As ts Ds = joined (Ds ++ parts_of_symbol (find_symbol env n) As ts)

abbrev mutual
  -- the condition of a term
  pub wd : Env → Term → Term
  wd env (var i) = truth
  wd env (lit n) = truth
  wd env (node s As ts) = wd_node env s As (term_list ts) (wds env ts)

  -- those of several
  pub wds : Env → Terms → List Term
  wds env nil = []
  wds env (cons t ts) = wd env t ∷ wds env ts
