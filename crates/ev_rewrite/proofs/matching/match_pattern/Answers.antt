use Rattle.ev_rewrite.proofs.MatchAnswers.{no_instance, whole_found}
use Rattle.ev_rewrite.proofs.matching.match_pattern.Goals as goal

pub returns-then-not-branch : goal.returns-then-not-branch
returns-then-not-branch c =
    no_instance c.args.params c.args.metas c.args.pattern.now c.args.tree.now _ c.match_tree.new.found c.in_ok-match_tree.field-0
    c.in_ok-empty_slots.ensures c.in_ok-empty_slots-2.ensures c.if-not-branch.true c.in_ok-match_tree.ensures

pub returns : goal.returns
returns c =
    whole_found c.args.params c.args.metas c.args.pattern.now c.args.tree.now _ c.match_tree.new.found _ c.in_ok-match_tree.field-0
    c.in_ok-empty_slots.ensures c.in_ok-empty_slots-2.ensures c.if-not-branch.false c.in_ok-match_tree.ensures c.from_vec.ensures c.from_vec-2.ensures
