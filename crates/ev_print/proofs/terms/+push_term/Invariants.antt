use Rattle.std.proofs.Common.{◌≡◌, ◌+◌, ◌*◌, ◌++◌, drop}
use Rattle.ev_terms.specs.Term.{terms}
use Rattle.ev_terms.specs.Measures.{depth, depths}
use Rattle.ev_print.specs.Canon.{texts, pieces}
use Rattle.ev_print.specs.inner.Lists.{after_commas}
use Rattle.ev_print.specs.inner.Nesting.{IsNested}
use Rattle.ev_print.proofs.terms.+push_term.Given as goal

abbrev pub decreases-push_term : goal.decreases-push_term
decreases-push_term l = 20 * depth l.tree.now

abbrev pub decreases-push_in_parens : goal.decreases-push_in_parens
decreases-push_in_parens l = 20 * depth l.tree.now + 1

abbrev pub decreases-push_operand : goal.decreases-push_operand
decreases-push_operand l = 20 * depth l.tree.now + 2

abbrev pub decreases-push_function : goal.decreases-push_function
decreases-push_function l = 20 * depth l.tree.now + 3

abbrev pub decreases-push_node : goal.decreases-push_node
decreases-push_node l = 20 * depths (terms l.children.now) + 17

abbrev pub decreases-push_symbol : goal.decreases-push_symbol
decreases-push_symbol l = 20 * depths (terms l.children.now) + 16

abbrev pub decreases-push_base : goal.decreases-push_base
decreases-push_base l = 20 * depths (terms l.children.now) + 15

abbrev pub decreases-push_infix : goal.decreases-push_infix
decreases-push_infix l = 20 * depths (terms l.children.now) + 10

abbrev pub decreases-push_not : goal.decreases-push_not
decreases-push_not l = 20 * depths (terms l.children.now) + 10

abbrev pub decreases-push_minus : goal.decreases-push_minus
decreases-push_minus l = 20 * depths (terms l.children.now) + 10

abbrev pub decreases-push_inverse : goal.decreases-push_inverse
decreases-push_inverse l = 20 * depths (terms l.children.now) + 10

abbrev pub decreases-push_around : goal.decreases-push_around
decreases-push_around l = 20 * depths (terms l.children.now) + 10

abbrev pub decreases-push_quantifier : goal.decreases-push_quantifier
decreases-push_quantifier l = 20 * depths (terms l.children.now) + 10

abbrev pub decreases-push_set : goal.decreases-push_set
decreases-push_set l = 20 * depths (terms l.children.now) + 10

abbrev pub decreases-push_image : goal.decreases-push_image
decreases-push_image l = 20 * depths (terms l.children.now) + 10

abbrev pub decreases-push_application : goal.decreases-push_application
decreases-push_application l = 20 * depths (terms l.children.now) + 10

abbrev pub decreases-push_call : goal.decreases-push_call
decreases-push_call l = 20 * depths (terms l.children.now) + 10

abbrev pub decreases-push_rest : goal.decreases-push_rest
decreases-push_rest l = 20 * depths (terms l.children.now) + 8

abbrev pub invariant-push_rest-loop-child : goal.invariant-push_rest-loop-child
invariant-push_rest-loop-child l = record {
  nested : IsNested l.n l.text.items;
  rest : l.text.items ++ after_commas (texts (pieces l.env l.n (terms (drop l.child-index l.children))))
      ≡ l.initial.text.items ++ after_commas (texts (pieces l.env l.n (terms l.children)));
}
