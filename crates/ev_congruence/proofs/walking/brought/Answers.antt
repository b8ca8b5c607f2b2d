use Rattle.std.proofs.Common.{ap, sym, arith, length}
use Rattle.std.proofs.lemmas.Result.{IfOk-weaker}
use Rattle.ev_terms.specs.Types.{type_list}
use Rattle.ev_typing.specs.declared.typing.Sequent.{Sequent}
use Rattle.ev_congruence.proofs.Bringing.{found_equation, brought_low, inside_length, brought_widened, brought_line, context_parts}
use Rattle.ev_congruence.proofs.Contexts.{by_parts}
use Rattle.ev_congruence.proofs.Within.{between_brought}
use Rattle.ev_congruence.proofs.walking.brought.Goals as goal

pub sequent_of-found-requires : goal.sequent_of-found-requires
sequent_of-found-requires c = (_, c.requires.outside.settled.line)

pub shift-requires : goal.shift-requires
shift-requires c =
    let o = c.requires.outside in
    brought_low o.outer c.sequent_of-found.result.now o.settled.ty o.left o.right c.args.count
    (found_equation c.args.lines.now o.outer o.left o.right c.args.premise c.sequent_of-found.result.now c.sequent_of-found.ensures o.settled)
    o.left_low o.right_low

pub lengthened-requires : goal.lengthened-requires
lengthened-requires c =
    let o = c.requires.outside in
    let e = found_equation c.args.lines.now o.outer o.left o.right c.args.premise c.sequent_of-found.result.now c.sequent_of-found.ensures o.settled in
    let k = ap (λ (x : Sequent). length (type_list x.context)) e in
    let w = brought_widened o.outer c.args.at.now c.sequent_of-found.result.now o.settled.ty o.left o.right c.args.count c.in_ok-try_copy.field-0 c.in_ok-try_copy-2.field-0
    c.in_ok-goal.goal o.inside e c.in_ok-try_copy.ensures c.in_ok-try_copy-2.ensures c.in_ok-goal.ensures in record {
      derivation = c.requires.derivation;
      room = omega (arith, inside_length o.outer c.args.at.now c.args.count o.inside, k, c.len-length.ensures, c.requires.room);
      base = context_parts c.args.env.now c.args.at.now c.in_ok-try_copy.field-0 c.in_ok-try_copy-2.field-0 c.in_ok-goal.goal c.in_ok-try_copy.ensures c.in_ok-try_copy-2.ensures c.requires.base;
      widened = (c.sequent_of-found.result.now, o.inside.bound, c.sequent_of-found.ensures, sym c.len-length.ensures, o.inside.are, w);
    }

pub returns-clause-line : goal.returns-clause-line
returns-clause-line c =
    IfOk-weaker c.lengthened.result _ _ (λ n h S l r i q.
    brought_line c.lengthened.new.lines S c.args.at.now c.sequent_of-found.result.now q.ty l r c.args.count n c.in_ok-try_copy.field-0 c.in_ok-try_copy-2.field-0 c.in_ok-goal.goal
    (found_equation c.args.lines.now S l r c.args.premise c.sequent_of-found.result.now c.sequent_of-found.ensures q) c.in_ok-try_copy.ensures c.in_ok-try_copy-2.ensures c.in_ok-goal.ensures h)
    c.lengthened.ensures.concludes

pub len-length-requires : goal.len-length-requires
len-length-requires c =
    let o = c.requires.outside in
    let k = ap (λ (x : Sequent). length (type_list x.context)) (found_equation c.args.lines.now o.outer o.left o.right c.args.premise c.sequent_of-found.result.now c.sequent_of-found.ensures o.settled) in
    omega (arith, inside_length o.outer c.args.at.now c.args.count o.inside, k, c.requires.room)

pub overflow_cast-length : goal.overflow_cast-length
overflow_cast-length c =
    let o = c.requires.outside in
    let k = ap (λ (x : Sequent). length (type_list x.context)) (found_equation c.args.lines.now o.outer o.left o.right c.args.premise c.sequent_of-found.result.now c.sequent_of-found.ensures o.settled) in
    omega (arith, inside_length o.outer c.args.at.now c.args.count o.inside, k, c.len-length.ensures, c.requires.room)

pub returns-clause-limits : goal.returns-clause-limits
returns-clause-limits c =
    between_brought c.args.env.now c.args.lines.now c.lengthened.new.lines c.args.at.now c.sequent_of-found.result.now _ c.args.premise _ c.args.count c.sequent_of-found.ensures
    (by_parts c.in_ok-try_copy.field-0 c.args.at.now.context c.in_ok-try_copy-2.field-0 c.args.at.now.hyps c.in_ok-goal.goal _ c.in_ok-try_copy.ensures c.in_ok-try_copy-2.ensures c.in_ok-goal.ensures)
    c.lengthened.ensures.limits
