use Rattle.std.proofs.Common.{◌≡◌, sym, subst, length, rules}
use Rattle.ev_typing.specs.WellFormed.{HasNewNames, IsGoodEntry}
use Rattle.ev_typing.proofs.Names.{well_formed_with}
use Rattle.ev_typing.proofs.PlaceLaws.{kept_with}
use Rattle.ev_typing.proofs.environment.Env.add.Goals as goal

pub invariant_of-self-2 : goal.invariant_of-self-2
invariant_of-self-2 c =
    let new = subst (λ env. HasNewNames env c.args.entry) (sym c.self.view_is) c.requires.new in
    let good = subst (λ env. IsGoodEntry env c.args.entry) (sym c.self.view_is) c.requires.good in
    let w = well_formed_with c.self.inside.entries.items c.args.entry c.self.invariant.1 new good in
    let at : c.len.result ≡ length c.self.inside.entries.items = search rules in
    rw c.in_ok-push.ensures.items (
      kept_with c.self.inside.places c.reserve.new.self c.put_all.new.places c.self.inside.entries.items c.args.entry c.in_ok-pairs.pairs.items c.len.result c.self.invariant.0 w
          c.reserve.ensures.entries c.in_ok-pairs.ensures at c.put_all.ensures,
      w,
    )
