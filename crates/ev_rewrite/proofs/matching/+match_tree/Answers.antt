use Rattle.std.proofs.Common.{◌≡◌, true, false, ap, sym, ◌∙◌, subst, arith}
use Rattle.std.proofs.lemmas.Result.{IfOk-weaker}
use Rattle.ev_terms.specs.Term.{node, terms}
use Rattle.ev_terms.specs.Measures.{loose}
use Rattle.ev_terms.proofs.Children.{depth_at}
use Rattle.ev_terms.proofs.ListLaws.{binds_le}
use Rattle.ev_typing.proofs.Checks.{node_of, inner_depth}
use Rattle.ev_rewrite.specs.inner.Taken.{TermTaken}
use Rattle.ev_rewrite.proofs.TakenSteps.{step_of, taken_node, rest_taken, rest_refused, end_taken, refused_count, loose_at}
use Rattle.ev_rewrite.proofs.matching.+match_tree.Goals as goal

pub match_all-returns-then-patterns-trees : goal.match_all-returns-then-patterns-trees
match_all-returns-then-patterns-trees t c =
    refused_count c.args.patterns.now c.args.trees.now c.args.depth c.args.found.now c.args.found.now c.if-patterns-trees.true

pub match_all-match_tree-requires : goal.match_all-match_tree-requires
match_all-match_tree-requires t c = (
  omega (arith, depth_at c.args.patterns.now c.loop-i.i c.index-patterns-i.result c.index-patterns-i.is c.loop-i-test.true),
  omega (arith, loose_at c.args.patterns.now c.loop-i.i c.index-patterns-i.result c.index-patterns-i.is c.loop-i-test.true, c.loop-i.invariant.slots, c.requires),
)

pub match_all-returns-then-not-branch : goal.match_all-returns-then-not-branch
match_all-returns-then-not-branch t c =
    c.loop-i.invariant.goes_on c.match_tree.new.found false
    (rest_refused c.args.patterns.now c.args.trees.now c.loop-i.i c.index-patterns-i.result c.index-trees-i.result c.args.depth c.loop-i.found c.match_tree.new.found c.match_tree.new.found
    c.in_ok-match_tree.field-0 c.index-patterns-i.is c.loop-i-test.true c.index-trees-i.is (omega (arith, c.loop-i-test.true, c.if-patterns-trees.false))
    c.if-not-branch.true c.in_ok-match_tree.ensures)

pub match_all-loop-i-preserved : goal.match_all-loop-i-preserved
match_all-loop-i-preserved t c = record {
  slots = (step_of _ _ _ c.loop-i.found c.match_tree.new.found c.in_ok-match_tree.field-0 c.if-not-branch.false c.in_ok-match_tree.ensures).term_count ∙ c.loop-i.invariant.slots;
  goes_on = λ new b h. c.loop-i.invariant.goes_on new b
      (rest_taken c.args.patterns.now c.args.trees.now c.loop-i.i c.index-patterns-i.result c.index-trees-i.result c.args.depth c.loop-i.found c.match_tree.new.found new
      c.in_ok-match_tree.field-0 b c.index-patterns-i.is c.loop-i-test.true c.index-trees-i.is (omega (arith, c.loop-i-test.true, c.if-patterns-trees.false))
      c.if-not-branch.false c.in_ok-match_tree.ensures h);
}

pub match_all-returns : goal.match_all-returns
match_all-returns t c =
    c.loop-i.invariant.goes_on c.loop-i.found true
    (end_taken c.args.patterns.now c.args.trees.now c.loop-i.i c.args.depth c.loop-i.found c.loop-i-test.false (omega (arith, c.loop-i-test.false, c.if-patterns-trees.false)))

pub match_node-returns : goal.match_node-returns
match_node-returns t c =
    let same : c.args.sym.now ≡ c.in-Some.other.now = c.same.ensures.0 c.if-not-same.false in
    let is : c.args.tree.now ≡ node c.args.sym.now c.in-Some-types.others.now (terms c.children.result.now) =
    node_of c.args.tree.now c.in-Some.other.now c.in-Some-types.others.now c.children.result.now c.in-Some.ensures c.in-Some-types.ensures c.children.ensures
    ∙ ap (λ f. node f c.in-Some-types.others.now (terms c.children.result.now)) (sym same) in
    IfOk-weaker c.match_all.result _ _ (λ r h.
    subst (λ u. TermTaken (node c.args.sym.now c.args.types.now (terms c.args.children.now)) c.args.depth u c.args.found.now c.match_all.new.found r) (sym is)
    (taken_node c.args.sym.now c.args.types.now c.in-Some-types.others.now (terms c.args.children.now) (terms c.children.result.now) c.args.depth c.saturating_add-under.result
    c.args.found.now c.match_types.new.found c.match_all.new.found c.in_ok-match_types.field-0 r
    (omega (arith, c.saturating_add-under.ensures, c.from.ensures, c.binds.ensures)) (omega (arith, c.requires.small, binds_le c.args.sym.now))
    c.if-not-branch.false c.in_ok-match_types.ensures h))
    c.match_all.ensures

pub match_tree-match_node-requires : goal.match_tree-match_node-requires
match_tree-match_node-requires t c =
    let e : loose c.args.pattern.now ≡ loose (node c.in-Some.sym.now c.in-Some-types.types.now (terms c.children.result.now)) =
    ap loose (node_of c.args.pattern.now c.in-Some.sym.now c.in-Some-types.types.now c.children.result.now c.in-Some.ensures c.in-Some-types.ensures c.children.ensures) in (
      omega (arith, inner_depth c.args.pattern.now c.in-Some.sym.now c.children.result.now c.in-Some.ensures c.children.ensures),
      (omega (arith, e, c.loose-small.ensures.is, c.loose-small.ensures.small), omega (arith, e, c.requires)),
    )

pub match_tree-returns-in-Some-types : goal.match_tree-returns-in-Some-types
match_tree-returns-in-Some-types t c =
    IfOk-weaker c.match_node.result _ _ (λ r h.
    subst (λ u. TermTaken u c.args.depth c.args.tree.now c.args.found.now c.match_node.new.found r)
    (sym (node_of c.args.pattern.now c.in-Some.sym.now c.in-Some-types.types.now c.children.result.now c.in-Some.ensures c.in-Some-types.ensures c.children.ensures)) h)
    c.match_node.ensures
