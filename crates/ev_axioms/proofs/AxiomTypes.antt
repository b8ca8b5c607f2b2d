-- Each row is typed, closed and of base symbols: a test of the whole table, which the checker computes.
use Rattle.std.specs.Prelude.{◌≡◌, ◌==◌, ◌&&◌, ℕ, zero, suc, Bool as Boolean, true, false, List, [], ◌∷◌, Option, Some, None, slice_get, option_map, refl}
use Rattle.std.specs.List.{list_all}
use Rattle.std.proofs.Common.{ap, sym, ◌∙◌, subst}
use Rattle.std.proofs.lemmas.Bool.{eqb-true}
use Rattle.ev_terms.specs.declared.types.Ty.{Prop}
use Rattle.ev_terms.specs.Symbols.{binds}
use Rattle.ev_terms.specs.Term.{Term}
use Rattle.ev_terms.specs.Measures.{loose}
use Rattle.ev_typing.specs.Env.{Env}
use Rattle.ev_typing.proofs.Wholes.{whole_typed}
use Rattle.ev_axioms.specs.AxiomText.{Text, closed}
use Rattle.ev_axioms.specs.Axioms.{rows, axiom_row}
use Rattle.ev_axioms.specs.AxiomLaws.{IsClosedAxiom, AxiomsAreClosed, AxiomsAreBase}
use Rattle.ev_axioms.specs.inner.Checks.{is_typed, passes}
use Rattle.ev_axioms.proofs.Typedness.{typed_by, base_symbols, base_plain}

all_pass : list_all (λ r. passes (closed r)) rows ≡ true
unfolding rows binds
all_pass = refl

and_split : (a b : Boolean) → (a && b) ≡ true → (a ≡ true) × (b ≡ true)
and_split true b e = (refl, e)
and_split false b e = cc

passing : (P : Term) → passes P ≡ true → IsClosedAxiom P
passing P e =
    let h = and_split (is_typed [] P Prop) (loose P == 0) e in
    let t = typed_by [] P Prop h.0 in
    record { typed = t; closed = eqb-true (loose P) 0 h.1; base = base_symbols [] P Prop t }

at_place : (rs : List Text) → list_all (λ r. passes (closed r)) rs ≡ true → (i : ℕ) (P : Term) → option_map closed (slice_get rs i) ≡ Some P → passes P ≡ true
at_place [] all i P e = cc
at_place (r ∷ rs) all zero P e =
    let q : closed r ≡ P = cc in
    ap passes (sym q) ∙ (and_split (passes (closed r)) (list_all (λ s. passes (closed s)) rs) all).0
at_place (r ∷ rs) all (suc i) P e = at_place rs (and_split (passes (closed r)) (list_all (λ s. passes (closed s)) rs) all).1 i P e

pub axioms_closed : AxiomsAreClosed
axioms_closed zero P e = cc
axioms_closed (suc i) P e = passing P (at_place rows all_pass i P e)

pub axioms_base : AxiomsAreBase
axioms_base env w k P e =
    let h = axioms_closed k P e in
    (whole_typed [] env tt w [] P Prop h.typed, base_plain env P h.base)
