use Rattle.std.proofs.Common.{◌≡◌, drop, ap, subst, sym, ◌∙◌, arith, ◌+◌, ◌∷◌}
use Rattle.std.specs.Prelude.{Some}
use Rattle.ev_syntax.specs.Marks.{param_sign}
use Rattle.ev_syntax.specs.Tokens.{mark, number}
use Rattle.ev_syntax.specs.Raw.{param}
use Rattle.ev_parse.specs.inner.Frames.{tail}
use Rattle.ev_syntax.proofs.TypeMoves.{number_is, next_place}
use Rattle.ev_parse.proofs.LevelMoves.{param_part, no_param}
use Rattle.ev_parse.proofs.LevelMoves as moves
use Rattle.ev_parse.proofs.expression_reader.call_param.Goals as goal

pub returns-in-Some-clause-holds : goal.returns-in-Some-clause-holds
returns-in-Some-clause-holds c = λ whole bs h.
    let t = c.args.reader.now in let at = c.args.at in let i = c.in-Some.number in
    let d = sym c.small_number.ensures.is ∙ c.in-Some.is in
    let r = number_is i (drop (at + 1) t) d in
    let last : drop (at + 2) t ≡ r.0 = (let n : at + 2 ≡ (at + 1) + 1 = omega arith in ap (λ k. drop k t) n ∙ next_place t (at + 1) (number i) r.0 r.1) in
    c.leaf.ensures.holds whole bs
    (subst (λ xs. moves.Below whole bs (tail c.args.k) (Some (param i, xs))) (sym last)
    (moves.part_found whole bs (tail c.args.k) (drop at t) (mark param_sign ∷ drop (at + 1) t) (Some (param i, r.0)) c.requires.token h
    (λ g. param_part i (drop (at + 1) t) r.0 g r.1 d)))
    (let w = c.in-Some.ensures.inside.0 in omega arith)

pub returns-in-None-clause-holds : goal.returns-in-None-clause-holds
returns-in-None-clause-holds c = λ whole bs h. let t = c.args.reader.now in let at = c.args.at in
    moves.part_none whole bs (tail c.args.k) (drop at t) (mark param_sign ∷ drop (at + 1) t) c.requires.token h
    (λ g. no_param (drop (at + 1) t) g (sym c.small_number.ensures.is ∙ c.in-None.is))
