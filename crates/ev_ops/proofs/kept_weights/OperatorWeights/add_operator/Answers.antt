use Rattle.std.proofs.Common.{◌≡◌, ap, sym, ◌∙◌, ◌++◌, ◌∷◌, [], subst as transport}
use Rattle.std.specs.Prelude.{bytes_eq}
use Rattle.indexmap.specs.IndexMap.{insert_entry}
use Rattle.ev_ops.specs.Unfold.{unfold_by}
use Rattle.ev_ops.specs.inner.Weights.{AreWeighed}
use Rattle.ev_ops.proofs.Weighed.{put_weights, not_known, one_weighed}
use Rattle.ev_ops.proofs.kept_weights.OperatorWeights.add_operator.Goals as goal

pub returns : goal.returns
returns c =
    let entries : c.insert.new.self.entries ≡ insert_entry bytes_eq c.args.self.now.by_name.entries c.args.signature.now.name c.in_ok-weights.weights =
    c.in_ok-insert.ensures.entries ∙ ap (λ k. insert_entry bytes_eq c.args.self.now.by_name.entries k c.in_ok-weights.weights) c.in_ok-try_copy.ensures in
    λ bs w none f l r.
    transport (AreWeighed (bs ++ (c.args.signature.now.name, unfold_by bs c.args.body.now) ∷ []))
    (sym (entries ∙ put_weights c.args.self.now.by_name c.args.signature.now.name c.in_ok-weights.weights (not_known bs c.args.self.now.by_name.entries c.args.signature.now.name w none)))
    (one_weighed bs c.args.self.now.by_name.entries c.args.signature.now.name (unfold_by bs c.args.body.now) c.in_ok-weights.weights w (c.in_ok-weights.ensures bs w f l r))
