-- Lists with commas, bound names and patterns by parsers that go down by fuel.
use Rattle.std.specs.Prelude.{ℕ, zero, suc, if◌then◌else◌, List, [], ◌∷◌, Option, Some, None}
use Rattle.ev_syntax.specs.Marks.{comma, oftype_word}
use Rattle.ev_syntax.specs.Tokens.{Token, name, number, mark}
use Rattle.ev_syntax.specs.Raw.{RawType, Binder}
use Rattle.ev_syntax.specs.inner.Finding.{Found, on_found}
use Rattle.ev_syntax.specs.inner.TypeParser.{begins, expect, parse_type, a_type}

-- further items, each after a comma
abbrev pub listed : {A B : Type 0} → B → (A → B → B) → ℕ → (List Token → Option (Found A)) → List Token → Option (Found B)
listed nil cons zero read ts = Some (nil, ts)
listed nil cons (suc n) read ts =
    if begins comma ts then expect comma ts (λ us. on_found (read us) (λ a vs. on_found (listed nil cons n read vs) (λ b ws. Some (cons a b, ws)))) else Some (nil, ts)

abbrev pub plain_binder : List ℕ → Binder
plain_binder n = record { name = n; type = None }

abbrev pub typed_binder : List ℕ → RawType → Binder
typed_binder n a = record { name = n; type = Some a }

abbrev pub parse_binder : ℕ → List Token → Option (Found Binder)
parse_binder f [] = None
parse_binder f (number n ∷ ts) = None
parse_binder f (mark m ∷ ts) = None
parse_binder f (name n ∷ ts) =
    if begins oftype_word ts then expect oftype_word ts (λ us. on_found (parse_type f a_type us) (λ a vs. Some (typed_binder n a, vs))) else Some (plain_binder n, ts)

abbrev pub parse_binders : ℕ → List Token → Option (Found (List Binder))
parse_binders f ts = on_found (parse_binder f ts) (λ b us. on_found (listed [] (λ c cs. c ∷ cs) f (parse_binder f) us) (λ bs vs. Some (b ∷ bs, vs)))
