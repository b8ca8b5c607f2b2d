use Rattle.std.proofs.Common.{◌≡◌, [], ◌∷◌, ◌++◌, ◌+◌, ◌<◌, ℕ, true, false, drop, refl, ap, subst, sym, ◌∙◌, arith, inl, inr}
use Rattle.std.specs.Prelude.{nat_lt, nat_le, ◌&&◌}
use Rattle.ev_syntax.specs.Tokens.{mark}
use Rattle.ev_syntax.specs.inner.Resuming.{FromCall}
use Rattle.ev_parse.specs.inner.Frames.{between, right_behind, level_at}
use Rattle.ev_syntax.proofs.TypeMoves.{not_eq}
use Rattle.ev_parse.proofs.OperandMoves as moves
use Rattle.ev_parse.proofs.operand_reader.operand_mark.Goals as goal

pub returns-then-in_range-clause-holds : goal.returns-then-in_range-clause-holds
returns-then-in_range-clause-holds c = λ whole bs r p h le. let t = c.args.source.now.reader.now in let at = c.args.at in let m = c.args.mark in let k = c.args.k in let l = c.operator_level-level.result in
    let test = sym c.in_range.ensures ∙ c.if-in_range.true in
    let e = c.operator_level-level.ensures.is in (
      between k l ++ right_behind m l r ∷ [],
      (r, p, refl, (moves.in_range l c.args.j k test).1),
      (
        subst (λ i. FromCall whole (bs ++ (between k i ++ right_behind m i r ∷ [])) (level_at (i + 1) (drop (at + 1) t))) (sym e)
            (moves.operated whole bs m c.args.j k r (drop at t) (drop (at + 1) t) c.requires.token (subst (λ i. (nat_lt 0 i && (nat_le k i && nat_lt i c.args.j)) ≡ true) e test) h),
        (let w = c.requires.inside.0 in omega arith),
        let f = c.operator_level-level.ensures.few in omega arith,
      ),
    )

pub returns-then-mark-ne-OFTYPE_WORD-clause-holds : goal.returns-then-mark-ne-OFTYPE_WORD-clause-holds
returns-then-mark-ne-OFTYPE_WORD-clause-holds c = λ whole bs r p h le. let t = c.args.source.now.reader.now in let at = c.args.at in let k = c.args.k in (
  r,
  p,
  moves.other_mark whole bs c.args.mark c.args.j k r (drop at t) (drop (at + 1) t) c.requires.token
      (subst (λ i. (nat_lt 0 i && (nat_le k i && nat_lt i c.args.j)) ≡ false) c.operator_level-level.ensures.is (sym c.in_range.ensures ∙ c.if-in_range.false)) (inl (not_eq _ _ c.if-mark-ne-OFTYPE_WORD.true)) h,
  le,
)

pub returns-then-k-gt0-clause-holds : goal.returns-then-k-gt0-clause-holds
returns-then-k-gt0-clause-holds c = λ whole bs r p h le. let t = c.args.source.now.reader.now in let at = c.args.at in let k = c.args.k in (
  r,
  p,
  moves.other_mark whole bs c.args.mark c.args.j k r (drop at t) (drop (at + 1) t) c.requires.token
      (subst (λ i. (nat_lt 0 i && (nat_le k i && nat_lt i c.args.j)) ≡ false) c.operator_level-level.ensures.is (sym c.in_range.ensures ∙ c.if-in_range.false)) (inr (inl c.if-k-gt0.true)) h,
  le,
)

pub returns-then-j-eq0-clause-holds : goal.returns-then-j-eq0-clause-holds
returns-then-j-eq0-clause-holds c = λ whole bs r p h le. let t = c.args.source.now.reader.now in let at = c.args.at in let k = c.args.k in (
  r,
  p,
  moves.other_mark whole bs c.args.mark c.args.j k r (drop at t) (drop (at + 1) t) c.requires.token
      (subst (λ i. (nat_lt 0 i && (nat_le k i && nat_lt i c.args.j)) ≡ false) c.operator_level-level.ensures.is (sym c.in_range.ensures ∙ c.if-in_range.false)) (inr (inr c.if-j-eq0.true)) h,
  le,
)

pub returns-clause-holds : goal.returns-clause-holds
returns-clause-holds c = λ whole bs r p h le. let t = c.args.source.now.reader.now in let at = c.args.at in
    let w = c.if-k-gt0.false in let z : c.args.k ≡ 0 = omega arith in
    let e = c.requires.token ∙ ap (λ m. mark m ∷ drop (at + 1) t) c.if-mark-ne-OFTYPE_WORD.false in
    c.typed.ensures.holds whole bs r p (moves.last_level whole bs c.args.j r (drop at t) (drop (at + 1) t) e (let f = c.if-j-eq0.false in positive c.args.j f)
    (subst (λ i. moves.FoundBy whole bs (between i c.args.j) r (drop at t)) z h)) le
  where
    positive : (j : ℕ) → (j ≡ 0 → ⊥) → 0 < j
    positive j f = omega (arith, f)
