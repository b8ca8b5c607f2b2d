-- The pieces are tokens, one after another.
use Rattle.std.proofs.Common.{[], ◌∷◌, ◌++◌, rules, refl}
use Rattle.ev_syntax.specs.Tokens.{number}
use Rattle.ev_syntax.specs.Views.{seen_in}
use Rattle.ev_syntax.proofs.Continuing.{reads_start, reads_more, reads_end, reads_bad, closer}
use Rattle.ev_syntax.proofs.lexer.has_tokens_from.Goals as goal

pub pieces-init : goal.pieces-init
pieces-init c = ([], reads_start c.args.text.now c.args.from _ c.blanks_end-at.ensures.passes c.blanks_end-at.ensures.stops)

pub returns-in-Bad : goal.returns-in-Bad
returns-in-Bad c = (
  (λ e. absurd (cc)),
  (λ (ts, h). absurd (reads_bad c.args.text.now c.args.from c.pieces.invariant.0 c.pieces.at c.utf8.text c.pieces.invariant.1 (search rules) c.in-Bad.ensures ts h)),
)

pub pieces-smaller-in-Found : goal.pieces-smaller-in-Found
pieces-smaller-in-Found c =
    closer c.args.text.now c.pieces.at _ (seen_in c.args.text.now c.in-Found.token) c.in-Found.ensures.0 c.blanks_end-at-in-Found.ensures.passes (search rules)

pub pieces-preserved-in-Found : goal.pieces-preserved-in-Found
pieces-preserved-in-Found c = (
  c.pieces.invariant.0 ++ seen_in c.args.text.now c.in-Found.token ∷ [],
  reads_more c.args.text.now c.args.from c.pieces.invariant.0 c.pieces.at _ (seen_in c.args.text.now c.in-Found.token) c.pieces.invariant.1
      c.in-Found.ensures.0 c.blanks_end-at-in-Found.ensures.passes c.blanks_end-at-in-Found.ensures.stops,
)

pub pieces-smaller : goal.pieces-smaller
pieces-smaller c = closer c.args.text.now c.pieces.at _ _ c.in-TooLarge.ensures.2 c.blanks_end-at-in-TooLarge.ensures.passes (search rules)

pub pieces-preserved : goal.pieces-preserved
pieces-preserved c = (
  c.pieces.invariant.0 ++ record { token = number c.in-TooLarge.ensures.0; start = c.pieces.at; end = c.in-TooLarge.end } ∷ [],
  reads_more c.args.text.now c.args.from c.pieces.invariant.0 c.pieces.at _ _ c.pieces.invariant.1
      c.in-TooLarge.ensures.2 c.blanks_end-at-in-TooLarge.ensures.passes c.blanks_end-at-in-TooLarge.ensures.stops,
)

pub returns : goal.returns
returns c = (
  (λ _. (c.pieces.invariant.0, reads_end c.args.text.now c.args.from c.pieces.invariant.0 c.pieces.at c.pieces.invariant.1 (search rules))),
  (λ _. refl),
)
