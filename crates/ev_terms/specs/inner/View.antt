use Rattle.std.specs.Prelude.{◌≡◌, ◌<◌, ◌≤◌, ◌^◌, List}
use Rattle.ev_terms.specs.Term.{Term, var, lit, node, terms}
use Rattle.ev_terms.specs.Measures.{loose, all_loose, size, sizes, depth, depths, params, all_params, capped}
use Rattle.ev_terms.specs.declared.extents.Bounds.{Bounds}
use Rattle.ev_terms.specs.declared.tree.App.TheVariants.{Of}
use Rattle.ev_terms.specs.declared.tree.Node.{Node}
use Rattle.ev_terms.specs.declared.tree.Node.TheVariants.{Var, Lit, Sym}

abbrev pub term_of : Node → Term
term_of (Var i) = var i
term_of (Lit n) = lit n
term_of (Sym (Of b s a ts)) = node s a (terms ts)

-- the bounds are those of the term
abbrev pub Bound : Bounds → Term → Type 0
Bound b t = ((b.loose ≡ loose t) × (b.loose ≤ 2 ^ 32)) × ((b.size ≡ capped (size t)) × ((b.depth ≡ capped (depth t)) × (b.params ≡ params t)))

-- a literal is below its limit, and the kept numbers of a node are those of its term
abbrev pub Kept : Node → Type 0
Kept (Var i) = Unit {0}
Kept (Lit n) = n < 2 ^ 127
Kept (Sym (Of b s a ts)) = Bound b (node s a (terms ts))

-- the bounds are those of the terms together
abbrev pub BoundAll : Bounds → List Term → Type 0
BoundAll b ts = ((b.loose ≡ all_loose (terms ts)) × (b.loose ≤ 2 ^ 32)) × ((b.size ≡ capped (sizes (terms ts))) × ((b.depth ≡ capped (depths (terms ts))) × (b.params ≡ all_params (terms ts))))
