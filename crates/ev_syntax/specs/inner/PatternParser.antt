-- Patterns by a parser that goes down by fuel.
use Rattle.std.specs.Prelude.{ℕ, zero, suc, if◌then◌else◌, List, Option, Some, None}
use Rattle.ev_syntax.specs.Marks.{open_paren, close_paren, maps_to_sign}
use Rattle.ev_syntax.specs.Tokens.{Token}
use Rattle.ev_syntax.specs.Raw.{Pattern, bound, pair}
use Rattle.ev_syntax.specs.inner.Finding.{Found, on_found}
use Rattle.ev_syntax.specs.inner.TypeParser.{begins, expect}
use Rattle.ev_syntax.specs.inner.BinderParser.{parse_binder}

pub data Want : Type 0 where
  an_atom : Want
  a_pattern : Want

abbrev pub pattern_atom : ℕ → (List Token → Option (Found Pattern)) → List Token → Option (Found Pattern)
pattern_atom f whole ts =
    if begins open_paren ts then expect open_paren ts (λ us. on_found (whole us) (λ x vs. expect close_paren vs (λ rest. Some (x, rest))))
    else on_found (parse_binder f ts) (λ b us. Some (bound b, us))

abbrev pub more_pairs : ℕ → (List Token → Option (Found Pattern)) → Pattern → List Token → Option (Found Pattern)
more_pairs zero read x ts = Some (x, ts)
more_pairs (suc n) read x ts =
    if begins maps_to_sign ts then expect maps_to_sign ts (λ us. on_found (read us) (λ y vs. more_pairs n read (pair x y) vs)) else Some (x, ts)

abbrev pub parse_pattern : ℕ → Want → List Token → Option (Found Pattern)
parse_pattern zero w ts = None
parse_pattern (suc f) an_atom ts = pattern_atom f (parse_pattern f a_pattern) ts
parse_pattern (suc f) a_pattern ts = on_found (parse_pattern f an_atom ts) (more_pairs f (parse_pattern f an_atom))
