use Rattle.std.proofs.Common.{◌≡◌, drop, ap, subst, sym, ◌∙◌, arith, ◌+◌, ◌∷◌}
use Rattle.ev_syntax.specs.Marks.{param_sign}
use Rattle.ev_syntax.specs.Tokens.{mark, number}
use Rattle.ev_syntax.specs.Raw.{param_type}
use Rattle.ev_syntax.proofs.TypeMoves.{number_is, next_place, param_found, no_param}
use Rattle.ev_syntax.proofs.TypeMoves as moves
use Rattle.ev_syntax.proofs.type_reader.call_param.Goals as goal

pub returns-in-Some-clause-holds : goal.returns-in-Some-clause-holds
returns-in-Some-clause-holds c = λ whole bs h.
    let t = c.args.reader.now in let at = c.args.at in let i = c.in-Some.number in
    let d = sym c.small_number.ensures.is ∙ c.in-Some.is in
    let r = number_is i (drop (at + 1) t) d in
    let last : drop (at + 2) t ≡ r.0 = (let n : at + 2 ≡ (at + 1) + 1 = omega arith in ap (λ k. drop k t) n ∙ next_place t (at + 1) (number i) r.0 r.1) in
    c.leaf.ensures.holds whole bs
    (subst (λ xs. moves.Reaches whole bs c.args.goal (param_type i) xs) (sym last)
    (moves.leaf whole bs c.args.goal (drop at t) (mark param_sign ∷ drop (at + 1) t) r.0 (param_type i) c.requires.token h
    (λ g. param_found i (drop (at + 1) t) r.0 g r.1 d)))
    (let w = c.in-Some.ensures.inside.0 in omega arith)

pub returns-in-None-clause-holds : goal.returns-in-None-clause-holds
returns-in-None-clause-holds c = λ whole bs h.
    moves.no_leaf whole bs c.args.goal (drop c.args.at c.args.reader.now) (mark param_sign ∷ drop (c.args.at + 1) c.args.reader.now) c.requires.token h
    (λ g. no_param (drop (c.args.at + 1) c.args.reader.now) g (sym c.small_number.ensures.is ∙ c.in-None.is))
