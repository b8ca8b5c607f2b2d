-- Bare terms by their forms, and their height.
use Rattle.std.specs.Prelude.{ℕ, ◌+◌, max, List, [], ◌∷◌}
use Rattle.ev_resolve.specs.Bare.{Bare, Bares, bare_var, bare_lit, bare_node, bare_of, bare_none, bare_more}
use Rattle.ev_resolve.specs.declared.bare.BareForm.{BareForm}
use Rattle.ev_resolve.specs.declared.bare.BareForm.TheVariants.{Var, Lit, Node, Of}

abbrev pub bares : List Bare → Bares
bares [] = bare_none
bares (b ∷ bs) = bare_more b (bares bs)

-- the bare term of a form
abbrev pub bare_of_form : BareForm → Bare
bare_of_form (Var i) = bare_var i
bare_of_form (Lit n) = bare_lit n
bare_of_form (Node s w bs) = bare_node s w (bares bs)
bare_of_form (Of b A) = bare_of b.value A

abbrev mutual
  pub height : Bare → ℕ
  height (bare_var i) = 1
  height (bare_lit n) = 1
  height (bare_node s w bs) = 1 + heights bs
  height (bare_of b A) = 1 + height b

  pub heights : Bares → ℕ
  heights bare_none = 0
  heights (bare_more b bs) = max (height b) (heights bs)
