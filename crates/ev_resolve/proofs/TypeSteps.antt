-- What the reader of written types needs.
use Rattle.std.specs.Prelude.{◌≡◌, ℕ, zero, suc, ◌+◌, ◌-◌, ◌<◌, ◌≤◌, [], ◌∷◌, length, drop, Bool as Boolean, List, Option, Some, None, option_and_then, refl}
use Rattle.std.proofs.Common.{ap, sym, ◌∙◌, arith, get_or}
use Rattle.ev_typing.proofs.Names.{drop_at, drop_all}
use Rattle.ev_syntax.specs.inner.TypeView.{raw_types}
use Rattle.ev_terms.specs.declared.types.Ty.{Ty}
use Rattle.ev_terms.specs.declared.types.Tys.{Tys, Empty}
use Rattle.ev_resolve.specs.Reading.{Known, named, both, type_of_raw, types_of_raw}
use Rattle.ev_terms.specs.Types.{more, Pow-pow, Prod-prod, More-more}
use Rattle.ev_syntax.specs.Raw.{RawType, RawTypes, int_type, bool_type, param_type, named_type, pow_type, prod_type, no_types, one_type}

pub ruleset forms = (Pow-pow, Prod-prod, More-more)

-- what falls as a written type is taken apart
abbrev mutual
  pub weight : RawType → ℕ
  weight int_type = 1
  weight bool_type = 1
  weight (param_type i) = 1
  weight (named_type n types) = 3 + weights types
  weight (pow_type a) = 3 + weight a
  weight (prod_type a b) = 3 + (weight a + weight b)

  pub weights : RawTypes → ℕ
  weights no_types = 0
  weights (one_type a types) = 2 + (weight a + weights types)

pub named_with : (o : Option ℕ) (i : ℕ) (p : Option Tys) (ts : Tys) (b : Boolean) (n : List ℕ) → o ≡ Some i → p ≡ Some ts → named (Some i) b n ts ≡ option_and_then (named o b n) p
named_with o i p ts b n e f = sym (ap (λ q. option_and_then (named q b n) p) e ∙ ap (option_and_then (named (Some i) b n)) f)

pub weight_at : (types : List RawType) (i : ℕ) (a : RawType) → a ≡ get_or types i a → i < length types → weight a < weights (raw_types types)
weight_at [] i a q lt = absurd (omega (arith, lt))
weight_at (b ∷ bs) zero a q lt = let same : weight a ≡ weight b = ap weight q in omega (arith, same)
weight_at (b ∷ bs) (suc i) a q lt = omega (arith, weight_at bs i a q (omega (arith, lt)))

module _ (params : List (List ℕ)) (known : Known) where
  -- a list is made from its end
  abbrev pub MadeFrom : List RawType → ℕ → Tys → Type 0
  MadeFrom types left list = (left ≤ length types) × (types_of_raw params known (raw_types (drop left types)) ≡ Some list)

  pub made_nothing : (types : List RawType) → MadeFrom types (length types) Empty
  made_nothing types = (omega arith, ap (λ l. types_of_raw params known (raw_types l)) (drop_all types (length types) (omega arith)))

  pub made_more : (types : List RawType) (left : ℕ) (a : RawType) (ty : Ty) (list whole : Tys) → 0 < left → MadeFrom types left list → a ≡ get_or types (left - 1) a
      → type_of_raw params known a ≡ Some ty → whole ≡ more ty list → MadeFrom types (left - 1) whole
  made_more types left a ty list whole some h at found is = (
    omega (arith, h.0),
    ap (λ l. types_of_raw params known (raw_types l)) (drop_at types (left - 1) a at (omega (arith, some, h.0)))
        ∙ ap (λ k. both more (type_of_raw params known a) (types_of_raw params known (raw_types (drop k types)))) next
        ∙ ap (λ o. both more o (types_of_raw params known (raw_types (drop left types)))) found ∙ ap (both more (Some ty)) h.1 ∙ ap Some (sym is),
  )
    where
      next : left - 1 + 1 ≡ left
      next = omega (arith, some)

  pub made_none : (types : List RawType) (i : ℕ) (a : RawType) → a ≡ get_or types i a → i < length types → type_of_raw params known a ≡ None → None ≡ types_of_raw params known (raw_types types)
  made_none [] i a at lt none = absurd (omega (arith, lt))
  made_none (b ∷ bs) zero a at lt none =
      sym (ap (λ o. both more o (types_of_raw params known (raw_types bs))) (ap (type_of_raw params known) (sym at) ∙ none))
  made_none (b ∷ bs) (suc i) a at lt none =
      by (type_of_raw params known b) ∙ ap (both more (type_of_raw params known b)) (made_none bs i a at (omega (arith, lt)) none)
    where
      by : (o : Option Ty) → None ≡ both more o None
      by None = refl
      by (Some x) = refl
