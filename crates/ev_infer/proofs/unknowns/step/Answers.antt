use Rattle.std.specs.Prelude.{◌<◌, ◌++◌, ◌∷◌, [], length}
use Rattle.std.proofs.Common.{refl, rules, ap, sym, ◌∙◌}
use Rattle.ev_unify.specs.declared.patterns.Bind.{Bind}
use Rattle.ev_infer.specs.declared.solving.Mark.TheVariants.{Open, Done}
use Rattle.ev_infer.proofs.UnknownSteps.{visits_top, visits_rest, bind_inside, top_bound, step_free, step_down, labor_done, labor_down}
use Rattle.ev_infer.proofs.Ways.{kept_by, way_down, way_up, all_known}
use Rattle.ev_infer.proofs.unknowns.step.Goals as goal

pub offset_bounds-binds-visit : goal.offset_bounds-binds-visit
offset_bounds-binds-visit c =
    let (a, b, d) = visits_top c.args.binds.now (length c.args.marks.now) c.args._start c.args.path.now.items c.args.visit c.requires.path in
    let h : c.args.visit.bind < length c.args.binds.now = bind_inside c.args.binds.now c.args.visit.unknown c.args.visit.bind b in
    search rules

pub bounds-binds-visit : goal.bounds-binds-visit
bounds-binds-visit c =
    let (a, b, d) = visits_top c.args.binds.now (length c.args.marks.now) c.args._start c.args.path.now.items c.args.visit c.requires.path in
    bind_inside c.args.binds.now c.args.visit.unknown c.args.visit.bind b

pub leave-requires-clause-inside : goal.leave-requires-clause-inside
leave-requires-clause-inside c =
    let (a, b, d) = visits_top c.args.binds.now (length c.args.marks.now) c.args._start c.args.path.now.items c.args.visit c.requires.path in a

pub leave-requires-clause-bound : goal.leave-requires-clause-bound
leave-requires-clause-bound c =
    top_bound c.args.binds.now (length c.args.marks.now) c.args._start c.args.path.now.items c.args.visit c.index-binds-visit.result _ c.requires.path c.index-binds-visit.is (ap (λ (x : Bind). x.value) (sym c.index-binds-visit.is))

pub returns-in-Free-clause-path : goal.returns-in-Free-clause-path
returns-in-Free-clause-path c = visits_rest c.args.binds.now (length c.args.marks.now) c.args._start c.args.path.now.items c.args.visit c.requires.path

pub returns-in-Free-clause-free : goal.returns-in-Free-clause-free
returns-in-Free-clause-free c e =
    step_free c.args.binds.now c.args.limit.now (length c.args.marks.now) c.args._start c.args.marks.now c.args.bulks.now c.args.types.now c.args.path.now.items c.args.visit _ refl c.requires.known c.requires.path
    (top_bound c.args.binds.now (length c.args.marks.now) c.args._start c.args.path.now.items c.args.visit c.index-binds-visit.result _ c.requires.path c.index-binds-visit.is (ap (λ (x : Bind). x.value) (sym c.index-binds-visit.is))) c.in-Free.ensures

pub returns-in_ok-push-in-Next-2-clause-path : goal.returns-in_ok-push-in-Next-2-clause-path
returns-in_ok-push-in-Next-2-clause-path c =
    step_down c.args.binds.now c.args.limit.now (length c.args.marks.now) c.args._start c.args.marks.now c.args.bulks.now c.args.types.now c.args.path.now.items c.push-in-Next.new.self.items c.args.visit c.in-Next.next _ refl c.requires.known c.requires.path
    (top_bound c.args.binds.now (length c.args.marks.now) c.args._start c.args.path.now.items c.args.visit c.index-binds-visit.result _ c.requires.path c.index-binds-visit.is (ap (λ (x : Bind). x.value) (sym c.index-binds-visit.is))) c.in-Next.ensures
    (c.in_ok-push-in-Next-2.ensures.items ∙ ap (λ l. l ++ c.in-Next.next ∷ []) c.in_ok-push-in-Next.ensures.items)

pub returns-in_ok-push-in-Next-2-clause-less : goal.returns-in_ok-push-in-Next-2-clause-less
returns-in_ok-push-in-Next-2-clause-less c =
    labor_down c.args.marks.now _ c.in-Next.next.unknown c.in-Next.next.bind c.args.path.now.items c.push-in-Next.new.self.items c.args.visit c.in-Next.next c.in-Next.ensures.1 c.in-Next.ensures.2 refl
    (c.in_ok-push-in-Next-2.ensures.items ∙ ap (λ l. l ++ c.in-Next.next ∷ []) c.in_ok-push-in-Next.ensures.items)

pub returns-in_ok-leave-in-Visited-clause-path : goal.returns-in_ok-leave-in-Visited-clause-path
returns-in_ok-leave-in-Visited-clause-path c = visits_rest c.args.binds.now (length c.args.marks.now) c.args._start c.args.path.now.items c.args.visit c.requires.path

pub returns-in_ok-leave-in-Visited-clause-less : goal.returns-in_ok-leave-in-Visited-clause-less
returns-in_ok-leave-in-Visited-clause-less c =
    labor_done c.args.marks.now c.leave.new.marks c.args.visit.unknown c.args.path.now.items c.args.visit c.in_ok-leave-in-Visited.ensures.marks

pub leave-requires-clause-parts : goal.leave-requires-clause-parts
leave-requires-clause-parts c =
    all_known c.args.binds.now (length c.args.marks.now) c.args.marks.now c.args.path.now.items c.args.visit _ refl c.requires.ordered
    (top_bound c.args.binds.now (length c.args.marks.now) c.args._start c.args.path.now.items c.args.visit c.index-binds-visit.result _ c.requires.path c.index-binds-visit.is (ap (λ (x : Bind). x.value) (sym c.index-binds-visit.is))) c.requires.way c.in-Visited.ensures

pub returns-in_ok-push-in-Next-2-clause-way : goal.returns-in_ok-push-in-Next-2-clause-way
returns-in_ok-push-in-Next-2-clause-way c e =
    way_down c.args.binds.now (length c.args.marks.now) c.args.marks.now _ c.args.path.now.items c.push-in-Next.new.self.items c.args.visit c.in-Next.next _ c.requires.ordered
    (top_bound c.args.binds.now (length c.args.marks.now) c.args._start c.args.path.now.items c.args.visit c.index-binds-visit.result _ c.requires.path c.index-binds-visit.is (ap (λ (x : Bind). x.value) (sym c.index-binds-visit.is))) c.in-Next.ensures refl
    (c.in_ok-push-in-Next-2.ensures.items ∙ ap (λ l. l ++ c.in-Next.next ∷ []) c.in_ok-push-in-Next.ensures.items) c.requires.way

pub returns-in_ok-push-in-Next-2-clause-kept : goal.returns-in_ok-push-in-Next-2-clause-kept
returns-in_ok-push-in-Next-2-clause-kept c = kept_by c.args.marks.now _ c.in-Next.next.unknown Open c.in-Next.ensures.1 refl tt

pub returns-in_ok-leave-in-Visited-clause-way : goal.returns-in_ok-leave-in-Visited-clause-way
returns-in_ok-leave-in-Visited-clause-way c e =
    let (a, b, d) = visits_top c.args.binds.now (length c.args.marks.now) c.args._start c.args.path.now.items c.args.visit c.requires.path in
    way_up c.args.binds.now c.args.marks.now c.leave.new.marks c.args.path.now.items c.args.visit a c.in_ok-leave-in-Visited.ensures.marks c.requires.way

pub returns-in_ok-leave-in-Visited-clause-kept : goal.returns-in_ok-leave-in-Visited-clause-kept
returns-in_ok-leave-in-Visited-clause-kept c =
    let (a, b, d) = visits_top c.args.binds.now (length c.args.marks.now) c.args._start c.args.path.now.items c.args.visit c.requires.path in
    kept_by c.args.marks.now c.leave.new.marks c.args.visit.unknown Done a c.in_ok-leave-in-Visited.ensures.marks tt
