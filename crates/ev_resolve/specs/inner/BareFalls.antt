-- Each part of a bare term is less high than the term.
use Rattle.std.specs.Prelude.{◌+◌, ◌≤◌, List, [], ◌∷◌, max}
use Rattle.std.proofs.Common.{arith}
use denote.Param.Weighed.{most}
use Rattle.ev_resolve.specs.Bare.{Bare}
use Rattle.ev_resolve.specs.inner.BareView.{bares, bare_of_form, height, heights}
use Rattle.ev_resolve.specs.declared.bare.BareForm.{BareForm}
use Rattle.ev_resolve.specs.declared.bare.BareForm.TheVariants.{Var, Lit, Node, Of}
use Rattle.ev_resolve.specs.declared.bare.Bare.TheDeep.{deep-BareForm}

pub most_le-heights : (bs : List Bare) → most (λ b. height b + 1) bs ≤ heights (bares bs) + 1
most_le-heights [] = omega arith
most_le-heights (b ∷ bs) = omega (arith, most_le-heights bs)

pub falls : (f : BareForm) → max (deep-BareForm f) 0 ≤ height (bare_of_form f)
falls (Var i) = omega arith
falls (Lit n) = omega arith
falls (Node s w bs) = omega (arith, most_le-heights bs)
falls (Of b A) = omega arith
