use Rattle.std.proofs.Common.{◌≡◌, ◌-◌, length, subst, sym, refl, arith}
use Rattle.std.specs.Prelude.{◌↔◌, IsTrue}
use Rattle.ev_terms.specs.Types.{type_list}
use Rattle.ev_terms.specs.Substitution.{type_inst, type_at}
use Rattle.ev_typing.specs.declared.typing.Var.{Var}
use Rattle.ev_ops.proofs.Guarding.{own_var_listed}
use Rattle.ev_ops.proofs.guards.is_own_var.Goals as goal

pub returns : goal.returns
returns c =
    own_var_listed c.args.guard.now.sig.now c.args.guard.now.place c.args.guard.now.own.now c.args.guard.now.types.now c.args.guard.now.con.now c.as_slice-fields.result.now c.args.i c.count-behind.result
    (length c.as_slice-fields.result.now - 1 - (c.args.i - c.count-behind.result)) (type_list c.behind.result.now) c.index-fields-at.result c.is_instance.result c.as_slice-fields.ensures c.behind.ensures c.count-behind.ensures
    (omega (arith, c.requires)) (λ x. omega (arith, x, c.if-i-behind.false)) (λ x. omega (arith, x, c.if-fields-i.false)) refl c.index-fields-at.is
    (subst (λ (f : Var). IsTrue c.is_instance.result ↔ (type_inst (type_at c.args.guard.now.types.now) f.ty ≡ c.args.guard.now.own.now)) (sym c.index-fields-at.is) c.is_instance.ensures)
