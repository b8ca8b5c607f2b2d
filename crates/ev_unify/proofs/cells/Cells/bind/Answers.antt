use Rattle.std.proofs.Common.{sym, ◌∙◌, refl, arith}
use Rattle.std.proofs.lemmas.List.{get_or_read}
use Rattle.ev_unify.proofs.Binding.{binds_away, binds_known, binds_itself, binds_more}
use Rattle.ev_unify.proofs.cells.Cells.bind.Goals as goal

pub returns-then-index-i : goal.returns-then-index-i
returns-then-index-i c =
    let e = get_or_read c.args.self.now.homes.items c.args.i c.index.result.now (omega (arith, c.requires.inside, c.requires.homes.count)) c.index.ensures 0 in
    binds_away c.args.self.now.pats.items c.args.self.now.homes.items c.args.roots.now c.args.binds.now c.args.i c.requires.homes c.requires.classes c.requires.inside c.requires.before (λ q. c.if-index-i.true (e ∙ q))

pub returns-in_default : goal.returns-in_default
returns-in_default c = binds_known c.args.self.now.pats.items c.args.self.now.homes.items c.args.roots.now c.args.binds.now c.args.i c.pat.result.now c.requires.homes c.requires.classes c.requires.inside c.requires.before c.pat.ensures c.in_default.not-Unknown

pub returns-then-is_at : goal.returns-then-is_at
returns-then-is_at c =
    binds_itself c.args.self.now.pats.items c.args.self.now.homes.items c.args.roots.now c.args.binds.now c.args.i c.in-Unknown.unknown c.pat.result.now c.pat-value.result.now c.requires.homes c.requires.classes c.requires.inside c.requires.before c.pat.ensures c.in-Unknown.is c.pat-value.ensures (sym c.is_at.ensures ∙ c.if-is_at.true)

pub returns : goal.returns
returns c =
    let e = get_or_read c.args.self.now.homes.items c.args.i c.index.result.now (omega (arith, c.requires.inside, c.requires.homes.count)) c.index.ensures 0 in
    binds_more c.args.self.now.pats.items c.args.self.now.homes.items c.args.roots.now c.args.binds.now _ c.args.i c.in-Unknown.unknown c.pat.result.now c.pat-value.result.now (record { unknown = c.in-Unknown.unknown; value = c.in_ok-value.value }) c.requires.homes c.requires.classes c.requires.inside c.requires.before (sym e ∙ c.if-index-i.false) c.pat.ensures c.in-Unknown.is c.pat-value.ensures (sym c.is_at.ensures ∙ c.if-is_at.false) refl c.in_ok-value.ensures c.in_ok-push.ensures.ok
