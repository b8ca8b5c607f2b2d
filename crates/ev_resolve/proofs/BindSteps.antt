-- Bound names one after the other, told without recursion.
use Rattle.std.specs.Prelude.{◌≡◌, ℕ, List, [], ◌∷◌, ◌++◌, Option, Some, None, option_map, refl}
use Rattle.std.proofs.Common.{ap, sym, ◌∙◌, append_assoc}
use Rattle.std.proofs.lemmas.List.{append-nil}
use Rattle.ev_terms.specs.declared.types.Ty.{Ty, Int}
use Rattle.ev_terms.specs.declared.types.Sym.{Sym}
use Rattle.ev_syntax.specs.Raw.{Binder}
use Rattle.ev_typing.proofs.Names.{drop_at, drop_all}
use Rattle.ev_resolve.specs.Reading.{Known, Variable, both, binder_of}
use Rattle.ev_resolve.specs.Bare.{Bare}
use Rattle.ev_resolve.specs.Resolve.{bare_one, written_type, bind_all}
use Rattle.ev_resolve.specs.inner.Inners.{written_types, bound_vars, wrap}
use Rattle.ev_resolve.proofs.NameSteps.{scope_more}
use Rattle.ev_resolve.proofs.Using.{take_old, longer, kept_more}

module _ (params : List (List ℕ)) (known : Known) where
  -- the types so far, and those of the rest
  abbrev pub types_with : List (Option Ty) → List Binder → Option (List (Option Ty))
  types_with ts bs = option_map (λ us. ts ++ us) (written_types params known bs)

  pub type_found : (ts : List (Option Ty)) (b : Binder) (bs : List Binder) (t : Option Ty) → written_type params known b.type ≡ Some t → types_with ts (b ∷ bs) ≡ types_with (ts ++ t ∷ []) bs
  type_found ts b bs t h = ap (λ o. option_map (λ us. ts ++ us) (both (λ u us. u ∷ us) o (written_types params known bs))) h ∙ by (written_types params known bs)
    where
      by : (o : Option (List (Option Ty))) → option_map (λ us. ts ++ us) (both (λ u us. u ∷ us) (Some t) o) ≡ option_map (λ us. (ts ++ t ∷ []) ++ us) o
      by None = refl
      by (Some us) = ap Some (sym (append_assoc ts (t ∷ []) us))

  pub type_missing : (ts : List (Option Ty)) (b : Binder) (bs : List Binder) → written_type params known b.type ≡ None → types_with ts (b ∷ bs) ≡ None
  type_missing ts b bs h = ap (λ o. option_map (λ us. ts ++ us) (both (λ u us. u ∷ us) o (written_types params known bs))) h

  pub binds_nothing : (s : Sym) (bs : List Binder) (inner : List Variable → Option Bare) (vars : List Variable) → written_types params known bs ≡ None
      → None ≡ bind_all params known s bs inner vars
  binds_nothing s [] inner vars h = cc
  binds_nothing s (b ∷ bs) inner vars h = by (written_type params known b.type) (written_types params known bs) h _ (λ p. binds_nothing s bs inner _ p)
    where
      by : (o : Option (Option Ty)) (p : Option (List (Option Ty))) → both (λ u us. u ∷ us) o p ≡ None → (r : Option Bare) → (p ≡ None → None ≡ r) → None ≡ both (bare_one s) o r
      by None p e r g = refl
      by (Some t) None e r g = ap (both (bare_one s) (Some t)) (g refl)
      by (Some t) (Some us) e r g = cc

  pub binds : (s : Sym) (bs : List Binder) (inner : List Variable → Option Bare) (vars : List Variable) (ts : List (Option Ty)) → written_types params known bs ≡ Some ts
      → option_map (wrap s ts) (inner (bound_vars bs vars)) ≡ bind_all params known s bs inner vars
  binds s [] inner vars [] h = by (inner vars)
    where
      by : (o : Option Bare) → option_map (wrap s []) o ≡ o
      by None = refl
      by (Some b) = refl
  binds s [] inner vars (t ∷ ts) h = cc
  binds s (b ∷ bs) inner vars ts h = go (written_type params known b.type) (written_types params known bs) h (bound_vars bs (binder_of b Int ∷ vars)) _ (λ us p. binds s bs inner _ us p)
    where
      under : (t : Option Ty) (us : List (Option Ty)) (o : Option Bare) → option_map (wrap s (t ∷ us)) o ≡ both (bare_one s) (Some t) (option_map (wrap s us) o)
      under t us None = refl
      under t us (Some c) = refl

      go : (o : Option (Option Ty)) (p : Option (List (Option Ty))) → both (λ u us. u ∷ us) o p ≡ Some ts → (vs : List Variable) (r : Option Bare) →
          ((us : List (Option Ty)) → p ≡ Some us → option_map (wrap s us) (inner vs) ≡ r) → option_map (wrap s ts) (inner vs) ≡ both (bare_one s) o r
      go None p e vs r g = cc
      go (Some t) None e vs r g = cc
      go (Some t) (Some us) e vs r g =
          let q : t ∷ us ≡ ts = cc in
          sym (ap (λ l. option_map (wrap s l) (inner vs)) q) ∙ under t us (inner vs) ∙ ap (both (bare_one s) (Some t)) (g us refl)

pub wrap_last : (s : Sym) (ts : List (Option Ty)) (t : Option Ty) (b : Bare) → wrap s (ts ++ t ∷ []) b ≡ wrap s ts (bare_one s t b)
wrap_last s [] t b = refl
wrap_last s (u ∷ ts) t b = ap (bare_one s u) (wrap_last s ts t b)

pub ruleset types = (drop_at, drop_all, append-nil)

pub ruleset scopes = (drop_at, drop_all, scope_more, take_old, longer)

pub ruleset wraps = (wrap_last, append-nil)
