use Rattle.std.proofs.Common.{◌≡◌, ℕ, ◌≤◌, ◌<◌, Bool, true, false, List, ◌⊎◌, inl, inr, drop, refl, subst, sym, arith}
use Rattle.std.specs.Prelude.{Some}
use Rattle.ev_syntax.specs.Tokens.{Token}
use Rattle.ev_syntax.specs.Raw.{Raw, binary}
use Rattle.ev_syntax.specs.Parts.{is_among}
use Rattle.ev_syntax.specs.inner.FormulaParser.{once_levels, chain_levels}
use Rattle.ev_syntax.proofs.Resumes.{settles_like, found_inside, moves_inside}
use Rattle.ev_syntax.proofs.TypeMoves.{not_eq}
use Rattle.ev_parse.specs.inner.Frames.{between, right_behind, level_behind}
use Rattle.ev_parse.proofs.OperandMoves.{between-suc, FoundBy}
use Rattle.ev_parse.proofs.literal_steps.after_sign.Goals as goal

-- signs that do not associate
once_ends : (m l : ℕ) (a r : Raw) (n g : ℕ) (ts : List Token) → (l ≡ 4) ⊎ ((l ≡ 4 → ⊥) × (8 ≤ l)) → right_behind m l a n g r ts ≡ Some (binary m a r, ts)
once_ends m l a r n g ts (inl e) = subst (λ i. right_behind m i a n g r ts ≡ Some (binary m a r, ts)) (sym e) refl
once_ends m l a r n g ts (inr h) = go (is_among once_levels l) refl
  where
    no_chain : is_among chain_levels l ≡ false
    no_chain = rw (not_eq 1 l (λ e. (let w = h.1 in omega arith)), not_eq 2 l (λ e. (let w = h.1 in omega arith)), not_eq 3 l (λ e. (let w = h.1 in omega arith)), not_eq 5 l (λ e. (let w = h.1 in omega arith)), not_eq 6 l (λ e. (let w = h.1 in omega arith)))

    go : (w : Bool) → is_among once_levels l ≡ w → right_behind m l a n g r ts ≡ Some (binary m a r, ts)
    go true e = rw e refl
    go false e = rw (e, not_eq l 0 (λ e. (let w = h.1 in omega arith)), no_chain) refl

pub returns-then-level-eq4-clause-holds : goal.returns-then-level-eq4-clause-holds
returns-then-level-eq4-clause-holds c = λ whole bs cs r f p h le. let t = c.args.source.now.reader.now in let at = c.args.at in let l = c.args.level in (
  binary c.args.mark f.0 r,
  c.in_ok-piece.ensures f.0 r f.1 p,
  found_inside whole bs (between c.args.k l) (right_behind c.args.mark l f.0) r (drop at t) (Some (binary c.args.mark f.0 r, drop at t)) (subst (λ xs. FoundBy whole bs xs r (drop at t)) f.2 h)
      (λ n g. once_ends c.args.mark l f.0 r n g (drop at t) c.then-level-eq4.either),
  le,
)

pub returns-clause-holds : goal.returns-clause-holds
returns-clause-holds c = λ whole bs cs r f p h le. let t = c.args.source.now.reader.now in let at = c.args.at in
    let l = c.args.level in (
      binary c.args.mark f.0 r,
      c.in_ok-piece.ensures f.0 r f.1 p,
      subst (λ xs. FoundBy whole bs xs (binary c.args.mark f.0 r) (drop at t)) (sym (between-suc c.args.k l f.3))
          (moves_inside whole bs (between c.args.k l) (right_behind c.args.mark l f.0) (level_behind l) r (binary c.args.mark f.0 r) (drop at t) (drop at t) (subst (λ xs. FoundBy whole bs xs r (drop at t)) f.2 h)
          (λ z s. settles_like (λ n g. right_behind c.args.mark l f.0 n g r (drop at t)) (λ n g. level_behind l n g (binary c.args.mark f.0 r) (drop at t)) z (λ n g. rw (no_once l c.if-level-eq4.false c.if-level-ge8.false) refl) s)),
      le,
    )
  where
    no_once : (l : ℕ) → (l ≡ 4 → ⊥) → (l < 8) → is_among once_levels l ≡ false
    no_once l a b = rw (not_eq 4 l (λ e. a (sym e)), not_eq 8 l (λ e. omega arith))
