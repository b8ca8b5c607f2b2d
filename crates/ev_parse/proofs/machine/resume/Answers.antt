use Rattle.std.proofs.Common.{◌++◌, drop, refl, subst}
use Rattle.std.specs.Prelude.{Some}
use Rattle.ev_syntax.specs.inner.Resuming.{Reach}
use Rattle.ev_syntax.proofs.Resumes.{found_inside}
use Rattle.ev_parse.specs.inner.Frames.{IsFrame, tail, paren_behind}
use Rattle.ev_parse.proofs.machine.resume.Goals as goal

pub returns-in-Paren-clause-holds : goal.returns-in-Paren-clause-holds
returns-in-Paren-clause-holds c = λ whole bs cs r f p h le. let t = c.args.source.now.reader.now in let at = c.args.at in
    let i = subst (λ x. IsFrame c.args.source.now.limit x cs) c.in-Paren.is f in
    c.close.ensures.holds whole bs r p (found_inside whole bs (tail c.in-Paren.k) paren_behind r (drop at t) _ (subst (λ xs. Reach whole (bs ++ xs) (Some (r, drop at t))) i h) (λ n g. refl))

pub returns-in-Around-clause-holds : goal.returns-in-Around-clause-holds
returns-in-Around-clause-holds c = λ whole bs cs r f p h le. c.after_word.ensures.holds whole bs cs r (subst (λ x. IsFrame c.args.source.now.limit x cs) c.in-Around.is f) p h le

pub returns-in-Args-clause-holds : goal.returns-in-Args-clause-holds
returns-in-Args-clause-holds c = λ whole bs cs r f p h le. c.after_args.ensures.holds whole bs cs r (subst (λ x. IsFrame c.args.source.now.limit x cs) c.in-Args.is f) p h le

pub returns-in-Members-clause-holds : goal.returns-in-Members-clause-holds
returns-in-Members-clause-holds c = λ whole bs cs r f p h le. c.after_members.ensures.holds whole bs cs r (subst (λ x. IsFrame c.args.source.now.limit x cs) c.in-Members.is f) p h le

pub returns-in-SetBody-clause-holds : goal.returns-in-SetBody-clause-holds
returns-in-SetBody-clause-holds c = λ whole bs cs r f p h le. c.after_set.ensures.holds whole bs cs r (subst (λ x. IsFrame c.args.source.now.limit x cs) c.in-SetBody.is f) p h le

pub returns-in-Argument-clause-holds : goal.returns-in-Argument-clause-holds
returns-in-Argument-clause-holds c = λ whole bs cs r f p h le. c.after_argument.ensures.holds whole bs cs r (subst (λ x. IsFrame c.args.source.now.limit x cs) c.in-Argument.is f) p h le

pub returns-in-Image-clause-holds : goal.returns-in-Image-clause-holds
returns-in-Image-clause-holds c = λ whole bs cs r f p h le. c.after_image.ensures.holds whole bs cs r (subst (λ x. IsFrame c.args.source.now.limit x cs) c.in-Image.is f) p h le

pub returns-in-Right-clause-holds : goal.returns-in-Right-clause-holds
returns-in-Right-clause-holds c = λ whole bs cs r f p h le. c.after_sign.ensures.holds whole bs cs r (subst (λ x. IsFrame c.args.source.now.limit x cs) c.in-Right.is f) p h le

pub returns-in-Minus-clause-holds : goal.returns-in-Minus-clause-holds
returns-in-Minus-clause-holds c = λ whole bs cs r f p h le. c.after_minus.ensures.holds whole bs cs r (subst (λ x. IsFrame c.args.source.now.limit x cs) c.in-Minus.is f) p h le

pub returns-in-Body-clause-holds : goal.returns-in-Body-clause-holds
returns-in-Body-clause-holds c = λ whole bs cs r f p h le. c.after_dot.ensures.holds whole bs cs r (subst (λ x. IsFrame c.args.source.now.limit x cs) c.in-Body.is f) p h le

pub returns-in-Value-clause-holds : goal.returns-in-Value-clause-holds
returns-in-Value-clause-holds c = λ whole bs cs r f p h le. c.after_collected.ensures.holds whole bs cs r (subst (λ x. IsFrame c.args.source.now.limit x cs) c.in-Value.is f) p h le

pub returns-in-LambdaBody-clause-holds : goal.returns-in-LambdaBody-clause-holds
returns-in-LambdaBody-clause-holds c = λ whole bs cs r f p h le. c.after_lambda.ensures.holds whole bs cs r (subst (λ x. IsFrame c.args.source.now.limit x cs) c.in-LambdaBody.is f) p h le

pub returns-in-LambdaValue-clause-holds : goal.returns-in-LambdaValue-clause-holds
returns-in-LambdaValue-clause-holds c = λ whole bs cs r f p h le. c.after_value.ensures.holds whole bs cs r (subst (λ x. IsFrame c.args.source.now.limit x cs) c.in-LambdaValue.is f) p h le

pub returns-in-Not-clause-holds : goal.returns-in-Not-clause-holds
returns-in-Not-clause-holds c = λ whole bs cs r f p h le. c.after_not.ensures.holds whole bs cs r (subst (λ x. IsFrame c.args.source.now.limit x cs) c.in-Not.is f) p h le

pub returns-in-Quantified-clause-holds : goal.returns-in-Quantified-clause-holds
returns-in-Quantified-clause-holds c = λ whole bs cs r f p h le. c.after_quantifier.ensures.holds whole bs cs r (subst (λ x. IsFrame c.args.source.now.limit x cs) c.in-Quantified.is f) p h le

pub returns-in-Finite-clause-holds : goal.returns-in-Finite-clause-holds
returns-in-Finite-clause-holds c = λ whole bs cs r f p h le. c.after_finite.ensures.holds whole bs cs r (subst (λ x. IsFrame c.args.source.now.limit x cs) c.in-Finite.is f) p h le

pub returns-in-Inner-clause-holds : goal.returns-in-Inner-clause-holds
returns-in-Inner-clause-holds c = λ whole bs cs r f p h le. c.after_paren.ensures.holds whole bs cs r (subst (λ x. IsFrame c.args.source.now.limit x cs) c.in-Inner.is f) p h le

pub returns-in-Related-clause-holds : goal.returns-in-Related-clause-holds
returns-in-Related-clause-holds c = λ whole bs cs r f p h le. let t = c.args.source.now.reader.now in let at = c.args.at in
    let i = subst (λ x. IsFrame c.args.source.now.limit x cs) c.in-Related.is f in
    c.after_expression.ensures.holds whole bs r p (subst (λ xs. Reach whole (bs ++ xs) (Some (r, drop at t))) i h) le

pub returns-in-Relation-clause-holds : goal.returns-in-Relation-clause-holds
returns-in-Relation-clause-holds c = λ whole bs cs r f p h le. c.after_relation.ensures.holds whole bs cs r (subst (λ x. IsFrame c.args.source.now.limit x cs) c.in-Relation.is f) p h le

pub returns-in-Connective-clause-holds : goal.returns-in-Connective-clause-holds
returns-in-Connective-clause-holds c = λ whole bs cs r f p h le. c.after_connective.ensures.holds whole bs cs r (subst (λ x. IsFrame c.args.source.now.limit x cs) c.in-Connective.is f) p h le

pub returns-in-Implication-clause-holds : goal.returns-in-Implication-clause-holds
returns-in-Implication-clause-holds c = λ whole bs cs r f p h le. c.after_implication.ensures.holds whole bs cs r (subst (λ x. IsFrame c.args.source.now.limit x cs) c.in-Implication.is f) p h le
