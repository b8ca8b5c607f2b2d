-- The tokens found so far, and what comes after them.
use Rattle.std.proofs.Common.{rules, sym, subst}
use Rattle.ev_syntax.specs.Views.{seen_in, all_seen_in}
use Rattle.ev_syntax.specs.inner.Reading.{ReadsTo, AreSmall}
use Rattle.ev_syntax.proofs.Characters.{first_place}
use Rattle.ev_syntax.proofs.Continuing.{reads_start, reads_end, closer, bad_text, text_has}
use Rattle.ev_syntax.proofs.Answering.{token_pushed, none_small, large_answer}
use Rattle.ev_syntax.proofs.lexer.lex_text.Goals as goal

pub blanks_end-at-requires : goal.blanks_end-at-requires
blanks_end-at-requires c = first_place c.args.text.now c.utf8.text

pub pieces-init : goal.pieces-init
pieces-init c =
    let none = sym c.new-tokens.ensures in
    record {
      reads = subst (λ ts. ReadsTo c.args.text.now 0 (all_seen_in c.args.text.now ts) c.blanks_end-at.result) none
          (reads_start c.args.text.now 0 _ c.blanks_end-at.ensures.passes c.blanks_end-at.ensures.stops);
      small = subst AreSmall none none_small;
    }

pub pieces-smaller : goal.pieces-smaller
pieces-smaller c =
    closer c.args.text.now c.pieces.at _ (seen_in c.args.text.now c.in-Found.token) c.in-Found.ensures.0 c.blanks_end-at-in-Found.ensures.passes (search rules)

pub pieces-preserved : goal.pieces-preserved
pieces-preserved c =
    let more =
    token_pushed c.args.text.now c.pieces.tokens _ c.in-Found.token c.pieces.at _ c.pieces.invariant.reads c.pieces.invariant.small c.in-Found.ensures
    c.blanks_end-at-in-Found.ensures.passes c.blanks_end-at-in-Found.ensures.stops c.in_ok-push-in-Found.ensures.ok
    in
    record { reads = more.0; small = more.1 }

pub returns-in-TooLarge : goal.returns-in-TooLarge
returns-in-TooLarge c =
    large_answer c.args.text.now _ c.pieces.at c.in-TooLarge.end c.large_or_bad.result c.utf8.text c.pieces.invariant.reads
    c.in-TooLarge.ensures c.large_or_bad.ensures

pub returns-in-Bad : goal.returns-in-Bad
returns-in-Bad c = bad_text c.args.text.now _ c.pieces.at c.utf8.text c.pieces.invariant.reads (search rules) c.in-Bad.ensures

pub returns : goal.returns
returns c =
    (text_has c.args.text.now _ c.utf8.text (reads_end c.args.text.now 0 _ c.pieces.at c.pieces.invariant.reads (search rules)), c.pieces.invariant.small)
