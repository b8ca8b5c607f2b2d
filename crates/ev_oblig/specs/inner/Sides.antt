-- What is kept of a rewrite rule while its obligations are made.
use Rattle.std.specs.Prelude.{◌≡◌, IfSome, IfNone}
use Rattle.ev_terms.specs.Types.{type_list}
use Rattle.ev_typing.specs.Env.{Env}
use Rattle.ev_typing.specs.Typing.{type_in}
use Rattle.ev_wd.specs.Limits.{IsSmall}
use Rattle.ev_wd.specs.WellDefined.{wd}
use Rattle.ev_oblig.specs.declared.rules.Sides.{Sides}

-- the types of the variables, the type of the left side, and its condition, which is left out where it is too large
pub record AreSides (env : Env) (s : Sides) : Type 0 where
  pub types_are : s.types.items ≡ type_list s.rule.now.vars
  pub type_is : s.ty ≡ type_in env (type_list s.rule.now.vars) s.rule.now.left
  pub left_is : IfSome s.left (λ t. t ≡ wd env s.rule.now.left)
  pub left_large : IfNone s.left (¬ IsSmall (wd env s.rule.now.left))
