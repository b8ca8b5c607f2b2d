use Rattle.ev_replay.proofs.LabelLaws.{label_added}
use Rattle.ev_replay.proofs.labels.add_label.Goals as goal

pub returns : goal.returns
returns c =
    label_added c.args.labels.now.keys c.insert_full.new.self.keys (c.in_ok-try_copy.field-0, c.in_ok-try_copy-2.field-0) c.args.label.now
    c.in_ok-try_copy.ensures c.in_ok-try_copy-2.ensures c.in_ok-_added.ensures.keys
