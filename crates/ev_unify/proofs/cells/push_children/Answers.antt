use Rattle.ev_unify.proofs.Parts.{push_two}
use Rattle.ev_unify.proofs.cells.push_children.Goals as goal

pub returns-in_ok-append-in-Prod-2 : goal.returns-in_ok-append-in-Prod-2
returns-in_ok-append-in-Prod-2 c =
    push_two c.args.pats.now.items c.append-in-Prod.new.items.items c.append-in-Prod-2.new.items.items c.args.pat.now c.in-Prod.a c.in-Prod.b c.in_ok-share-in-Prod.field-0 c.in_ok-share-in-Prod-2.field-0 c.in-Prod.is c.in_ok-share-in-Prod.ensures c.in_ok-share-in-Prod-2.ensures c.in_ok-append-in-Prod.ensures.ok c.in_ok-append-in-Prod-2.ensures.ok
