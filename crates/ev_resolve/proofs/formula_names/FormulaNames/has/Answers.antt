use Rattle.std.specs.Prelude.{◌≡◌, is_some}
use Rattle.std.proofs.Common.{rules, ap, ◌∙◌}
use Rattle.ev_typing.specs.Env.{declaring}
use Rattle.ev_resolve.specs.UsedNames.{is_formula_name}
use Rattle.ev_resolve.specs.Resolve.{known_of}
use Rattle.ev_resolve.proofs.Declared.{formula_other, formula_param}
use Rattle.ev_resolve.proofs.Numbering.{is_numbered}
use Rattle.ev_resolve.proofs.formula_names.FormulaNames.has.Goals as goal

pub returns-then-contains_key : goal.returns-then-contains_key
returns-then-contains_key c =
    formula_param c.self.inside.env.now c.self.inside.params.now c.args.name.now
    (c.if-contains_key.ensures ∙ ap is_some (c.self.invariant.0 c.args.name.now) ∙ is_numbered c.args.name.now c.self.inside.params.now)
    ∙ ap (λ k. is_formula_name k.0 (known_of k.1) c.args.name.now) c.self.view_is

pub returns : goal.returns
returns c =
    let found : c.is_some.result ≡ is_some (declaring c.self.inside.env.now c.args.name.now) = search rules in
    found
    ∙ formula_other c.self.inside.env.now c.self.inside.params.now c.args.name.now c.self.invariant.1
    (c.if-contains_key.ensures ∙ ap is_some (c.self.invariant.0 c.args.name.now) ∙ is_numbered c.args.name.now c.self.inside.params.now)
    ∙ ap (λ k. is_formula_name k.0 (known_of k.1) c.args.name.now) c.self.view_is
