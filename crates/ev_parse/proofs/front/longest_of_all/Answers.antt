use Rattle.std.specs.Prelude.{Some, None}
use Rattle.std.proofs.Common.{◌≡◌, ◌∙◌, drop, length, subst, arith}
use Rattle.ev_syntax.specs.Views.{all_seen_in}
use Rattle.ev_syntax.specs.Tokens.{tokens_of}
use Rattle.ev_parse.specs.Wholes.{WholeAnswer}
use Rattle.ev_parse.proofs.FrontMoves.{seen_take, seen_length, none_behind_less, longest_part, no_front}
use Rattle.ev_parse.proofs.front.longest_of_all.Goals as goal

pub returns-in-Some : goal.returns-in-Some
returns-in-Some c =
    let tokens = tokens_of (all_seen_in c.args.text.now c.args.tokens.now) in
    let part = c.new-reader.ensures ∙ seen_take c.args.text.now c.args.tokens.now c.loop-to.to in
    let count : length tokens ≡ length c.args.tokens.now = seen_length c.args.text.now c.args.tokens.now in
    let inside = c.loop-to.invariant.inside in
    let more = c.loop-to-test.true in
    longest_part c.args.sort c.args.limit tokens c.args.from c.loop-to.to c.in-Some.piece c.loop-to.invariant.behind
    (subst (λ us. WholeAnswer c.args.sort c.args.limit (drop c.args.from us) (Some c.in-Some.piece)) part (subst (WholeAnswer c.args.sort c.args.limit (drop c.args.from c.new-reader.result)) c.in-Some.is c.in_ok-piece.ensures))
    (omega arith) (omega arith)

pub loop-to-preserved : goal.loop-to-preserved
loop-to-preserved c =
    let tokens = tokens_of (all_seen_in c.args.text.now c.args.tokens.now) in
    let part = c.new-reader.ensures ∙ seen_take c.args.text.now c.args.tokens.now c.loop-to.to in
    let inside = c.loop-to.invariant.inside in
    record {
      inside = omega arith;
      behind = none_behind_less c.args.sort c.args.limit tokens c.args.from c.loop-to.to c.loop-to.invariant.behind
          (subst (λ us. WholeAnswer c.args.sort c.args.limit (drop c.args.from us) None) part (subst (WholeAnswer c.args.sort c.args.limit (drop c.args.from c.new-reader.result)) c.in_default.is c.in_ok-piece.ensures));
    }

pub returns : goal.returns
returns c =
    no_front c.args.sort c.args.limit (tokens_of (all_seen_in c.args.text.now c.args.tokens.now)) c.args.from c.loop-to.to c.loop-to.invariant.behind (let end = c.loop-to-test.false in omega arith)
