-- What the walk over used variables needs.
use Rattle.std.specs.Prelude.{◌≡◌, ◌≢◌, ℕ, ◌-◌, ◌<◌, ◌≤◌, Bool, true, false, if◌then◌else◌, List, [], ◌∷◌, ◌++◌, length, reverse, unwrap_or, refl}
use Rattle.std.proofs.Common.{ap, sym, ◌∙◌, get_or}
use Rattle.std.proofs.lemmas.List.{reverse-append, get_or-reverse, length-reverse}
use Rattle.std.proofs.lemmas.Option.{unwrap_or-slice_get, slice_get_past}
use Rattle.ev_terms.specs.declared.types.Sym.{Sym}
use Rattle.ev_terms.specs.declared.types.Sym.TheVariants.{Base, User}
use Rattle.ev_terms.specs.Symbols.{binds}
use Rattle.ev_typing.proofs.Names.{drop_at, drop_all}
use Rattle.ev_infer.proofs.EmissionSteps.{height_at}
use Rattle.ev_infer.specs.inner.Marked.{is_marked, unmarked}

pub mark_inside : (marks : List Bool) (i : ℕ) → i < length marks → get_or marks (length marks - 1 - i) false ≡ is_marked (reverse marks) i
mark_inside marks i h = sym (unwrap_or-slice_get (reverse marks) i false ∙ get_or-reverse marks i false h)

pub mark_outside : (marks : List Bool) (i : ℕ) → length marks ≤ i → false ≡ is_marked (reverse marks) i
mark_outside marks i h =
    let k : length (reverse marks) ≤ i = rw length-reverse h in
    ap (λ o. unwrap_or o false) (sym (slice_get_past (reverse marks) i k))

pub ruleset places = (mark_inside, mark_outside)

-- a symbol binds nothing, or one variable
abbrev one_if : Bool → ℕ
one_if b = if b then 1 else 0

one_or_none : (b : Bool) → one_if b ≢ 0 → one_if b ≡ 1
one_or_none true n = refl
one_or_none false n = absurd (n refl)

binds_one : (s : Sym) → binds s ≢ 0 → binds s ≡ 1
unfolding binds
binds_one (Base k) n = one_or_none _ n
binds_one (User m) n = absurd (n refl)

pub under_none : (s : Sym) (marks : List Bool) → binds s ≡ 0 → reverse marks ≡ unmarked (binds s) ++ reverse marks
under_none s marks e = ap (λ n. unmarked n ++ reverse marks) (sym e)

pub under_one : (s : Sym) (marks new : List Bool) → binds s ≢ 0 → new ≡ marks ++ false ∷ [] → reverse new ≡ unmarked (binds s) ++ reverse marks
under_one s marks new n e = ap reverse e ∙ reverse-append marks (false ∷ []) ∙ ap (λ k. unmarked k ++ reverse marks) (sym (binds_one s n))

pub ruleset walk = (height_at, drop_at, drop_all, under_none, under_one)
