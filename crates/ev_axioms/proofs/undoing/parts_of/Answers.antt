use Rattle.std.proofs.Common.{sym, subst}
use Rattle.std.proofs.lemmas.Result.{IfOk-weaker}
use Rattle.std.specs.Prelude.{◌≡◌, ◌≢◌, List, length, IfSome, IfNone}
use Rattle.ev_terms.specs.declared.types.Sym.TheVariants.{Base}
use Rattle.ev_terms.specs.Term.{Term, node, terms}
use Rattle.ev_axioms.specs.inner.Building.{types_of}
use Rattle.ev_axioms.specs.inner.Undoing.{IsMadeOf, IsNotMade}
use Rattle.ev_axioms.proofs.Undone.{some_weaker, none_weaker, leaf_made, leaf_not_made, one_made, one_not_made, two_made, two_not_made}
use Rattle.ev_axioms.proofs.undoing.parts_of.Goals as goal

pub returns-in-Leaf-clause-found : goal.returns-in-Leaf-clause-found
returns-in-Leaf-clause-found c =
    IfOk-weaker c.children_at.result
    (λ o. IfSome o (λ ts. (c.args.tree.now ≡ node (Base c.in-Leaf.row) (types_of c.in-Leaf.args) (terms ts.now)) × (length ts.now ≡ 0)))
    (λ o. IfSome o (λ ts. IsMadeOf c.args.step c.args.tree.now ts.now))
    (λ o h. some_weaker o (λ ts g. subst (λ s. IsMadeOf s c.args.tree.now ts.now) (sym c.in-Leaf.is) (leaf_made c.in-Leaf.row c.in-Leaf.args c.args.tree.now ts.now g.0 g.1)) h)
    c.children_at.ensures.found

pub returns-in-Leaf-clause-none : goal.returns-in-Leaf-clause-none
returns-in-Leaf-clause-none c =
    IfOk-weaker c.children_at.result
    (λ o. IfNone o ((ts : List Term) → length ts ≡ 0 → c.args.tree.now ≢ node (Base c.in-Leaf.row) (types_of c.in-Leaf.args) (terms ts)))
    (λ o. IfNone o (IsNotMade c.args.step c.args.tree.now))
    (λ o h. none_weaker o (λ g. subst (λ s. IsNotMade s c.args.tree.now) (sym c.in-Leaf.is) (leaf_not_made c.in-Leaf.row c.in-Leaf.args c.args.tree.now g)) h)
    c.children_at.ensures.none

pub returns-in-One-clause-found : goal.returns-in-One-clause-found
returns-in-One-clause-found c =
    IfOk-weaker c.children_at-in-One.result
    (λ o. IfSome o (λ ts. (c.args.tree.now ≡ node (Base c.in-One.row) (types_of c.in-One.args) (terms ts.now)) × (length ts.now ≡ 1)))
    (λ o. IfSome o (λ ts. IsMadeOf c.args.step c.args.tree.now ts.now))
    (λ o h. some_weaker o (λ ts g. subst (λ s. IsMadeOf s c.args.tree.now ts.now) (sym c.in-One.is) (one_made c.in-One.row c.in-One.args c.args.tree.now ts.now g.0 g.1)) h)
    c.children_at-in-One.ensures.found

pub returns-in-One-clause-none : goal.returns-in-One-clause-none
returns-in-One-clause-none c =
    IfOk-weaker c.children_at-in-One.result
    (λ o. IfNone o ((ts : List Term) → length ts ≡ 1 → c.args.tree.now ≢ node (Base c.in-One.row) (types_of c.in-One.args) (terms ts)))
    (λ o. IfNone o (IsNotMade c.args.step c.args.tree.now))
    (λ o h. none_weaker o (λ g. subst (λ s. IsNotMade s c.args.tree.now) (sym c.in-One.is) (one_not_made c.in-One.row c.in-One.args c.args.tree.now g)) h)
    c.children_at-in-One.ensures.none

pub returns-in-Two-clause-found : goal.returns-in-Two-clause-found
returns-in-Two-clause-found c =
    IfOk-weaker c.children_at-in-Two.result
    (λ o. IfSome o (λ ts. (c.args.tree.now ≡ node (Base c.in-Two.row) (types_of c.in-Two.args) (terms ts.now)) × (length ts.now ≡ 2)))
    (λ o. IfSome o (λ ts. IsMadeOf c.args.step c.args.tree.now ts.now))
    (λ o h. some_weaker o (λ ts g. subst (λ s. IsMadeOf s c.args.tree.now ts.now) (sym c.in-Two.is) (two_made c.in-Two.row c.in-Two.args c.args.tree.now ts.now g.0 g.1)) h)
    c.children_at-in-Two.ensures.found

pub returns-in-Two-clause-none : goal.returns-in-Two-clause-none
returns-in-Two-clause-none c =
    IfOk-weaker c.children_at-in-Two.result
    (λ o. IfNone o ((ts : List Term) → length ts ≡ 2 → c.args.tree.now ≢ node (Base c.in-Two.row) (types_of c.in-Two.args) (terms ts)))
    (λ o. IfNone o (IsNotMade c.args.step c.args.tree.now))
    (λ o h. none_weaker o (λ g. subst (λ s. IsNotMade s c.args.tree.now) (sym c.in-Two.is) (two_not_made c.in-Two.row c.in-Two.args c.args.tree.now g)) h)
    c.children_at-in-Two.ensures.none
