use Rattle.std.proofs.Common.{sym, None, ◌≡◌, subst as transport}
use Rattle.std.specs.List.{AllByRecursion}
use Rattle.std.proofs.lemmas.Result.{IfOk-weaker}
use Rattle.ev_terms.specs.Types.{type_list}
use Rattle.ev_terms.specs.Term.{node, terms}
use Rattle.ev_congruence.specs.Equating.{AreSettled, AreEquatedBy, Equates}
use Rattle.ev_congruence.specs.inner.Inside.{AreAllAlike}
use Rattle.ev_congruence.proofs.Appending.{extended_derivation, extends_twice}
use Rattle.ev_congruence.proofs.Putting.{alike_by, settled_one, same_children, by_congruence}
use Rattle.ev_typing.specs.Typing.{Typed, AreTyped, inside}
use Rattle.ev_congruence.proofs.Nodes.{inner_context, has_signature, signature_types}
use Rattle.ev_congruence.proofs.Within.{between_twice, between_completed, between_one}
use Rattle.ev_congruence.proofs.walking.joined.Goals as goal

pub completed-requires : goal.completed-requires
completed-requires c = record {
  derivation = c.requires.derivation;
  base = c.requires.inner_base;
  typed = transport (λ C. AreTyped c.args.env.now C (terms c.as_slice-lefts.result.now) c.as_slice-args.result.now)
      (sym (inner_context c.args.at.now c.args.children.at c.args.of.now.sym.now c.args.of.now.types.now c.args.at.now.goal c.requires.inner))
      (transport (λ us. AreTyped c.args.env.now (inside (type_list c.args.at.now.context) c.args.of.now.sym.now c.args.of.now.types.now) (terms us) c.as_slice-args.result.now) (sym c.as_slice-lefts.ensures)
      (transport (AreTyped c.args.env.now (inside (type_list c.args.at.now.context) c.args.of.now.sym.now c.args.of.now.types.now) (terms c.args.children.lefts)) (sym c.as_slice-args.ensures)
      (signature_types c.args.env.now (type_list c.args.at.now.context) c.args.of.now.sym.now c.args.of.now.types.now c.args.children.lefts c.requires.alike.ty c.in_ok-types.types.result c.in_ok-types.types.args
      c.requires.alike.left c.in_ok-types.ensures).1));
  given = (
    c.args.children.rights,
    transport (λ us. AreSettled c.args.lines.now c.args.children.at us c.args.children.rights c.as_slice-found.result.now) (sym c.as_slice-lefts.ensures)
        (transport (AreSettled c.args.lines.now c.args.children.at c.args.children.lefts c.args.children.rights) (sym c.as_slice-found.ensures) c.requires.settled),
    transport (λ us. AreAllAlike c.args.env.now (type_list c.args.children.at.context) us c.args.children.rights) (sym c.as_slice-lefts.ensures) c.requires.children,
  );
}

pub congruent-requires : goal.congruent-requires
congruent-requires c = record {
  derivation = extended_derivation c.args.env.now c.args.lines.now c.completed.new.lines c.requires.derivation c.completed.ensures.extends;
  base = c.requires.base;
  alike = alike_by c.args.env.now (type_list c.args.at.now.context) _ _ c.in_ok-sides.sides.left c.in_ok-sides.sides.right c.in_ok-sides.ensures.left c.in_ok-sides.ensures.right c.requires.alike;
  typed = transport (λ u. Typed c.args.env.now (type_list c.args.at.now.context) u c.in_ok-types.types.result) (sym c.in_ok-sides.ensures.left)
      (signature_types c.args.env.now (type_list c.args.at.now.context) c.args.of.now.sym.now c.args.of.now.types.now c.args.children.lefts c.requires.alike.ty c.in_ok-types.types.result c.in_ok-types.types.args
      c.requires.alike.left c.in_ok-types.ensures).0;
  premises = by_congruence c.completed.new.lines c.args.at.now c.args.children.at c.args.at.now.goal c.in_ok-sides.sides.left c.in_ok-sides.sides.right c.args.of.now.sym.now c.args.of.now.types.now c.args.children.lefts
      c.args.children.rights c.in_ok-numbers.numbers c.requires.inner c.in_ok-sides.ensures.left c.in_ok-sides.ensures.right
      (transport (λ us. AreEquatedBy c.completed.new.lines c.args.children.at us c.args.children.rights c.in_ok-numbers.numbers) c.as_slice-lefts.ensures
      (c.in_ok-numbers.ensures.numbers c.args.children.rights
      (transport (λ us. AreSettled c.args.lines.now c.args.children.at us c.args.children.rights c.as_slice-found.result.now) (sym c.as_slice-lefts.ensures)
      (transport (AreSettled c.args.lines.now c.args.children.at c.args.children.lefts c.args.children.rights) (sym c.as_slice-found.ensures) c.requires.settled))));
}

pub returns-then-are_none-clause-line : goal.returns-then-are_none-clause-line
returns-then-are_none-clause-line c =
    IfOk-weaker c.both.result _ _ (λ s h.
    settled_one _ c.args.at.now _ _ s.line
    (same_children c.args.lines.now c.args.children.at c.args.of.now.sym.now c.args.of.now.types.now c.args.children.lefts c.args.children.rights c.args.children.found c.requires.settled
    (transport (AllByRecursion (λ o. o ≡ None)) c.as_slice-found.ensures (c.are_none.ensures.0 c.if-are_none.true))) h) c.both.ensures.line

pub returns-in_err-line-clause-extends : goal.returns-in_err-line-clause-extends
returns-in_err-line-clause-extends c = extends_twice c.args.env.now c.args.lines.now c.completed.new.lines c.congruent.new.lines c.completed.ensures.extends c.congruent.ensures.extends

pub types_of_node-requires : goal.types_of_node-requires
types_of_node-requires c =
    has_signature c.args.env.now (type_list c.args.at.now.context) c.args.of.now.sym.now c.args.of.now.types.now (terms c.args.children.lefts) c.requires.alike.ty c.requires.alike.left

pub returns-in_err-numbers-clause-limits : goal.returns-in_err-numbers-clause-limits
returns-in_err-numbers-clause-limits c =
    between_completed c.args.env.now c.args.lines.now c.completed.new.lines c.args.at.now c.args.children.at c.args.of.now.sym.now c.args.of.now.types.now c.args.children.lefts c.as_slice-lefts.result.now c.args.children.rights
    c.args.at.now.goal c.requires.inner c.as_slice-lefts.ensures c.completed.ensures.limits

pub returns-in_err-sides-clause-limits : goal.returns-in_err-sides-clause-limits
returns-in_err-sides-clause-limits c =
    between_completed c.args.env.now c.args.lines.now c.completed.new.lines c.args.at.now c.args.children.at c.args.of.now.sym.now c.args.of.now.types.now c.args.children.lefts c.as_slice-lefts.result.now c.args.children.rights
    c.args.at.now.goal c.requires.inner c.as_slice-lefts.ensures c.completed.ensures.limits

pub returns-in_err-line-clause-limits : goal.returns-in_err-line-clause-limits
returns-in_err-line-clause-limits c =
    between_twice c.args.env.now c.args.lines.now c.completed.new.lines c.congruent.new.lines c.args.at.now _ _
    (between_completed c.args.env.now c.args.lines.now c.completed.new.lines c.args.at.now c.args.children.at c.args.of.now.sym.now c.args.of.now.types.now c.args.children.lefts c.as_slice-lefts.result.now c.args.children.rights
    c.args.at.now.goal c.requires.inner c.as_slice-lefts.ensures c.completed.ensures.limits)
    (between_one c.args.env.now c.completed.new.lines c.congruent.new.lines c.args.at.now c.in_ok-sides.sides.left c.in_ok-sides.sides.right _ _ (sym c.in_ok-sides.ensures.left) (sym c.in_ok-sides.ensures.right)
    c.congruent.ensures.limits)

pub returns : goal.returns
returns c = record {
  limits = between_twice c.args.env.now c.args.lines.now c.completed.new.lines c.congruent.new.lines c.args.at.now _ _
      (between_completed c.args.env.now c.args.lines.now c.completed.new.lines c.args.at.now c.args.children.at c.args.of.now.sym.now c.args.of.now.types.now c.args.children.lefts c.as_slice-lefts.result.now c.args.children.rights
      c.args.at.now.goal c.requires.inner c.as_slice-lefts.ensures c.completed.ensures.limits)
      (between_one c.args.env.now c.completed.new.lines c.congruent.new.lines c.args.at.now c.in_ok-sides.sides.left c.in_ok-sides.sides.right _ _ (sym c.in_ok-sides.ensures.left) (sym c.in_ok-sides.ensures.right)
      c.congruent.ensures.limits);
  left = c.in_ok-sides.ensures.left;
  right = c.in_ok-sides.ensures.right;
  line = transport (λ u. Equates c.congruent.new.lines c.args.at.now u (node c.args.of.now.sym.now c.args.of.now.types.now (terms c.args.children.rights)) c.in_ok-line.line) c.in_ok-sides.ensures.left
      (transport (λ u. Equates c.congruent.new.lines c.args.at.now c.in_ok-sides.sides.left u c.in_ok-line.line) c.in_ok-sides.ensures.right c.in_ok-line.ensures.line);
  extends = extends_twice c.args.env.now c.args.lines.now c.completed.new.lines c.congruent.new.lines c.completed.ensures.extends c.congruent.ensures.extends;
}
