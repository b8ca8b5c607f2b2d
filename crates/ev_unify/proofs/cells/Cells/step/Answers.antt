use Rattle.std.specs.Prelude.{◌≢◌, ◌+◌, ◌<◌, [], ◌∷◌, ◌++◌, length, slice_index}
use Rattle.std.proofs.Common.{sym, ◌∙◌, refl, rules, arith}
use Rattle.ev_unify.proofs.Ranking.{part_within, next_within, before_end, walk_leave, walk_next, walk_down, walk_clash}
use Rattle.ev_unify.proofs.Marking.{labor_done, labor_next, labor_down}
use Rattle.ev_unify.proofs.cells.Cells.step.Goals as goal

pub end-requires-clause-inside : goal.end-requires-clause-inside
end-requires-clause-inside c = part_within c.args.self.now.pats.items c.args.self.now.firsts.items c.args.roots.now c.args.marks.now c.args.path.now.items c.args.visit c.requires.walking

pub bounds-marks-visit : goal.bounds-marks-visit
bounds-marks-visit c =
    let h = part_within c.args.self.now.pats.items c.args.self.now.firsts.items c.args.roots.now c.args.marks.now c.args.path.now.items c.args.visit c.requires.walking in
    omega (arith, h, c.requires.walking.count)

pub returns-then-visit-end-clause-walking : goal.returns-then-visit-end-clause-walking
returns-then-visit-end-clause-walking c =
    walk_leave c.args.self.now.pats.items c.args.self.now.firsts.items c.args.roots.now c.args.marks.now c.args.path.now.items c.args.visit c.requires.flat c.requires.walking (c.if-visit-end.true ∙ c.end.ensures)

pub returns-then-visit-end-clause-less : goal.returns-then-visit-end-clause-less
returns-then-visit-end-clause-less c =
    labor_done c.args.self.now.pats.items c.args.self.now.firsts.items c.args.marks.now c.args.path.now.items c.args.visit c.args.visit.part

pub offset_bounds-roots-visit : goal.offset_bounds-roots-visit
offset_bounds-roots-visit c =
    let n : c.args.visit.next ≢ slice_index c.args.self.now.firsts.items (c.args.visit.part + 1) = λ q. c.if-visit-end.false (q ∙ sym c.end.ensures) in
    let h : c.args.visit.next < length c.args.self.now.pats.items = next_within c.args.self.now.pats.items c.args.self.now.firsts.items c.args.roots.now c.args.marks.now c.args.path.now.items c.args.visit c.requires.flat c.requires.walking n in
    let k : c.args.visit.next < length c.args.roots.now = omega (arith, h, c.requires.closed.count) in
    search rules

pub bounds-roots-visit : goal.bounds-roots-visit
bounds-roots-visit c =
    let n : c.args.visit.next ≢ slice_index c.args.self.now.firsts.items (c.args.visit.part + 1) = λ q. c.if-visit-end.false (q ∙ sym c.end.ensures) in
    let h : c.args.visit.next < length c.args.self.now.pats.items = next_within c.args.self.now.pats.items c.args.self.now.firsts.items c.args.roots.now c.args.marks.now c.args.path.now.items c.args.visit c.requires.flat c.requires.walking n in
    omega (arith, h, c.requires.closed.count)

pub bounds : goal.bounds
bounds c =
    let n : c.args.visit.next ≢ slice_index c.args.self.now.firsts.items (c.args.visit.part + 1) = λ q. c.if-visit-end.false (q ∙ sym c.end.ensures) in
    let h : c.args.visit.next < length c.args.self.now.pats.items = next_within c.args.self.now.pats.items c.args.self.now.firsts.items c.args.roots.now c.args.marks.now c.args.path.now.items c.args.visit c.requires.flat c.requires.walking n in
    let k : slice_index c.args.roots.now c.args.visit.next < length c.args.self.now.pats.items = c.requires.closed.within c.args.visit.next h in
    omega (arith, k, c.requires.walking.count)

pub overflow_add-visit : goal.overflow_add-visit
overflow_add-visit c =
    let n : c.args.visit.next ≢ slice_index c.args.self.now.firsts.items (c.args.visit.part + 1) = λ q. c.if-visit-end.false (q ∙ sym c.end.ensures) in
    let h : c.args.visit.next < length c.args.self.now.pats.items = next_within c.args.self.now.pats.items c.args.self.now.firsts.items c.args.roots.now c.args.marks.now c.args.path.now.items c.args.visit c.requires.flat c.requires.walking n in
    let k : c.args.visit.next < length c.args.roots.now = omega (arith, h, c.requires.closed.count) in
    search rules

pub enter-requires-clause-mark : goal.enter-requires-clause-mark
enter-requires-clause-mark c =
    let n : c.args.visit.next ≢ slice_index c.args.self.now.firsts.items (c.args.visit.part + 1) = λ q. c.if-visit-end.false (q ∙ sym c.end.ensures) in
    let h : c.args.visit.next < length c.args.self.now.pats.items = next_within c.args.self.now.pats.items c.args.self.now.firsts.items c.args.roots.now c.args.marks.now c.args.path.now.items c.args.visit c.requires.flat c.requires.walking n in
    let k : slice_index c.args.roots.now c.args.visit.next < length c.args.self.now.pats.items = c.requires.closed.within c.args.visit.next h in
    omega (arith, k, c.requires.walking.count)

pub returns-in_ok-append-in-Done-clause-walking : goal.returns-in_ok-append-in-Done-clause-walking
returns-in_ok-append-in-Done-clause-walking c =
    let n : c.args.visit.next ≢ slice_index c.args.self.now.firsts.items (c.args.visit.part + 1) = λ q. c.if-visit-end.false (q ∙ sym c.end.ensures) in
    let h : c.args.visit.next < length c.args.self.now.pats.items = next_within c.args.self.now.pats.items c.args.self.now.firsts.items c.args.roots.now c.args.marks.now c.args.path.now.items c.args.visit c.requires.flat c.requires.walking n in
    walk_next c.args.self.now.pats.items c.args.self.now.firsts.items c.args.roots.now c.args.marks.now c.args.path.now.items c.args.visit _ c.append.new.items.items c.requires.walking n c.in-Done.is refl refl c.in_ok-append-in-Done.ensures.ok

pub returns-in_ok-append-in-Done-clause-less : goal.returns-in_ok-append-in-Done-clause-less
returns-in_ok-append-in-Done-clause-less c =
    let n : c.args.visit.next ≢ slice_index c.args.self.now.firsts.items (c.args.visit.part + 1) = λ q. c.if-visit-end.false (q ∙ sym c.end.ensures) in
    let h : c.args.visit.next < length c.args.self.now.pats.items = next_within c.args.self.now.pats.items c.args.self.now.firsts.items c.args.roots.now c.args.marks.now c.args.path.now.items c.args.visit c.requires.flat c.requires.walking n in
    rw c.in_ok-append-in-Done.ensures.ok (labor_next c.args.self.now.pats.items c.args.self.now.firsts.items c.args.marks.now c.args.path.now.items c.args.visit (record { part = c.args.visit.part; next = c.args.visit.next + 1 }) (before_end c.args.self.now.pats.items c.args.self.now.firsts.items c.args.roots.now c.args.marks.now c.args.path.now.items c.args.visit c.requires.walking n) refl refl)

pub returns-in-Open-clause-err : goal.returns-in-Open-clause-err
returns-in-Open-clause-err c =
    let n : c.args.visit.next ≢ slice_index c.args.self.now.firsts.items (c.args.visit.part + 1) = λ q. c.if-visit-end.false (q ∙ sym c.end.ensures) in
    let h : c.args.visit.next < length c.args.self.now.pats.items = next_within c.args.self.now.pats.items c.args.self.now.firsts.items c.args.roots.now c.args.marks.now c.args.path.now.items c.args.visit c.requires.flat c.requires.walking n in
    walk_clash c.args.self.now.pats.items c.args.self.now.firsts.items c.args.roots.now c.args.marks.now c.args.path.now.items c.args.visit c.requires.flat c.requires.closed c.requires.walking n c.in-Open.is

pub returns-in_ok-enter-in-New-clause-walking : goal.returns-in_ok-enter-in-New-clause-walking
returns-in_ok-enter-in-New-clause-walking c =
    let n : c.args.visit.next ≢ slice_index c.args.self.now.firsts.items (c.args.visit.part + 1) = λ q. c.if-visit-end.false (q ∙ sym c.end.ensures) in
    let h : c.args.visit.next < length c.args.self.now.pats.items = next_within c.args.self.now.pats.items c.args.self.now.firsts.items c.args.roots.now c.args.marks.now c.args.path.now.items c.args.visit c.requires.flat c.requires.walking n in
    walk_down c.args.self.now.pats.items c.args.self.now.firsts.items c.args.roots.now c.args.marks.now c.args.path.now.items c.args.visit (record { part = slice_index c.args.roots.now c.args.visit.next; next = slice_index c.args.self.now.firsts.items (slice_index c.args.roots.now c.args.visit.next) }) c.enter.new.marks c.append-in-New.new.items.items c.enter.new.path.items c.requires.flat c.requires.closed c.requires.walking n c.in-New.is refl refl c.in_ok-enter-in-New.ensures.marks c.in_ok-append-in-New.ensures.ok c.in_ok-enter-in-New.ensures.path

pub returns-in_ok-enter-in-New-clause-less : goal.returns-in_ok-enter-in-New-clause-less
returns-in_ok-enter-in-New-clause-less c =
    let n : c.args.visit.next ≢ slice_index c.args.self.now.firsts.items (c.args.visit.part + 1) = λ q. c.if-visit-end.false (q ∙ sym c.end.ensures) in
    let h : c.args.visit.next < length c.args.self.now.pats.items = next_within c.args.self.now.pats.items c.args.self.now.firsts.items c.args.roots.now c.args.marks.now c.args.path.now.items c.args.visit c.requires.flat c.requires.walking n in
    let k : slice_index c.args.roots.now c.args.visit.next < length c.args.self.now.pats.items = c.requires.closed.within c.args.visit.next h in
    rw (c.in_ok-enter-in-New.ensures.path, c.in_ok-enter-in-New.ensures.marks, c.in_ok-append-in-New.ensures.ok) (labor_down c.args.self.now.pats.items c.args.self.now.firsts.items c.args.marks.now (c.args.path.now.items ++ c.args.visit ∷ []) (slice_index c.args.roots.now c.args.visit.next) (record { part = slice_index c.args.roots.now c.args.visit.next; next = slice_index c.args.self.now.firsts.items (slice_index c.args.roots.now c.args.visit.next) }) c.requires.flat k (omega (arith, k, c.requires.walking.count)) c.in-New.is refl)
