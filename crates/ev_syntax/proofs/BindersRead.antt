-- Lists with commas, bound names and patterns: parsers that find them.
use Rattle.std.proofs.Common.{◌≡◌, ℕ, zero, suc, ◌+◌, ◌-◌, ◌≤◌, false, List, [], ◌∷◌, refl, ap, subst, sym, ◌∙◌, arith}
use Rattle.std.specs.Prelude.{Option, Some, None}
use Rattle.ev_syntax.specs.Marks.{comma, oftype_word}
use Rattle.ev_syntax.specs.Tokens.{Token, name, mark}
use Rattle.ev_syntax.specs.Raw.{RawType, Binder}
use Rattle.ev_syntax.specs.Grammar.{ReadsWritten, ReadsBinder, ReadsMoreBinders, ReadsBinders}
use Rattle.ev_syntax.proofs.Eventually.{Found, on_found, Eventually, always, and_then}
use Rattle.ev_syntax.proofs.TypesRead.{begins, parse_type, a_type, StopsType, type_found}
pub use Rattle.ev_syntax.specs.inner.BinderParser.{listed, plain_binder, typed_binder, parse_binder, parse_binders}

module _ {A B : Type 0} (nil : B) (cons : A → B → B) (read : ℕ → List Token → Option (Found A)) where
  abbrev pub ListedRead : List Token → B → List Token → Type 0
  ListedRead ts b rest = (j f : ℕ) × ((g n : ℕ) → f ≤ g → listed nil cons (j + n) (read g) ts ≡ Some (b, rest))

  no_item : (n : ℕ) (r : List Token → Option (Found A)) (ts : List Token) → begins comma ts ≡ false → listed nil cons n r ts ≡ Some (nil, ts)
  no_item zero r ts h = refl
  no_item (suc n) r ts h = rw h

  pub none_listed : (rest : List Token) → begins comma rest ≡ false → ListedRead rest nil rest
  none_listed rest h = (0, 0, λ g n le. no_item (0 + n) (read g) rest h)

  pub one_listed : (a : A) (b : B) (us vs rest : List Token) → Eventually (λ g. read g us) (a, vs) → ListedRead vs b rest → ListedRead (mark comma ∷ us) (cons a b) rest
  one_listed a b us vs rest (f, p) (j, h, q) = (
    j + 1,
    f + h,
    λ g n le.
        let e : (j + 1) + n ≡ suc (j + n) = omega arith in
        ap (λ i. listed nil cons i (read g) (mark comma ∷ us)) e
        ∙ ap (λ o. on_found o (λ c xs. on_found (listed nil cons (j + n) (read g) xs) (λ bs ys. Some (cons c bs, ys)))) (p g (omega arith))
        ∙ ap (λ o. on_found o (λ bs ys. Some (cons a bs, ys))) (q g n (omega arith)),
  )

  pub listed_eventually : (ts : List Token) (b : B) (rest : List Token) → ListedRead ts b rest → Eventually (λ g. listed nil cons g (read g) ts) (b, rest)
  listed_eventually ts b rest (j, f, q) =
      (j + f, λ g le. let e : j + (g - j) ≡ g = omega arith in sym (ap (λ i. listed nil cons i (read g) ts) e) ∙ q g (g - j) (omega arith))

-- what cannot go on with a bound name
abbrev pub StopsBinder : List Token → Type 0
StopsBinder ts = (begins oftype_word ts ≡ false) × StopsType ts

pub binder_found : (b : Binder) (ts rest : List Token) → ReadsBinder b ts rest → StopsBinder rest → Eventually (λ g. parse_binder g ts) (b, rest)
binder_found b ts rest (us, e, h) stops = subst (λ xs. Eventually (λ g. parse_binder g xs) (b, rest)) (sym e) (go b.type refl h)
  where
    go : (o : Option RawType) → b.type ≡ o → ReadsWritten o us rest → Eventually (λ g. parse_binder g (name b.name ∷ us)) (b, rest)
    go None t h =
        let same : plain_binder b.name ≡ b = ap (λ o. record { name = b.name; type = o }) (sym t) in
        always _ _ (λ g. rw (h, stops.0) (ap (λ c. Some (c, rest)) same))
    go (Some a) t (vs, d, k) =
        let same : typed_binder b.name a ≡ b = ap (λ o. record { name = b.name; type = o }) (sym t) in
        subst (λ xs. Eventually (λ g. parse_binder g (name b.name ∷ xs)) (b, rest)) (sym d)
        (and_then (λ g. parse_type g a_type vs) (λ g c xs. Some (typed_binder b.name c, xs)) a rest (b, rest)
        (type_found a vs rest k stops.1) (always _ _ (λ g. ap (λ c. Some (c, rest)) same)))

abbrev pub StopsBinders : List Token → Type 0
StopsBinders ts = StopsBinder ts × (begins comma ts ≡ false)

abbrev MoreBinders : List Token → List Binder → List Token → Type 0
MoreBinders ts bs rest = ListedRead {A = Binder} [] (λ c cs. c ∷ cs) parse_binder ts bs rest

more_ends : (bs : List Binder) (ts rest : List Token) → ReadsMoreBinders bs ts rest → StopsBinders rest → StopsBinder ts
more_ends [] ts rest h stops = subst (λ xs. StopsBinder xs) (sym h) stops.0
more_ends (b ∷ bs) ts rest h stops = subst (λ xs. StopsBinder xs) (sym h.1) (refl, (refl, refl))

more_binders : (bs : List Binder) (ts rest : List Token) → ReadsMoreBinders bs ts rest → StopsBinders rest → MoreBinders ts bs rest
more_binders [] ts rest h stops =
    subst (λ xs. MoreBinders xs [] rest) (sym h) (none_listed [] (λ (c : Binder) (cs : List Binder). c ∷ cs) parse_binder rest stops.1)
more_binders (b ∷ bs) ts rest (us, e, (vs, h, more)) stops =
    subst (λ xs. MoreBinders xs (b ∷ bs) rest) (sym e)
    (one_listed [] (λ (c : Binder) (cs : List Binder). c ∷ cs) parse_binder b bs us vs rest (binder_found b us vs h (more_ends bs vs rest more stops)) (more_binders bs vs rest more stops))

pub binders_found : (bs : List Binder) (ts rest : List Token) → ReadsBinders bs ts rest → StopsBinders rest → Eventually (λ g. parse_binders g ts) (bs, rest)
binders_found [] ts rest h stops = absurd h
binders_found (b ∷ bs) ts rest (us, h, more) stops =
    and_then (λ g. parse_binder g ts) (λ g c xs. on_found (listed [] (λ (d : Binder) (cs : List Binder). d ∷ cs) g (parse_binder g) xs) (λ cs ys. Some (c ∷ cs, ys))) b us (b ∷ bs, rest)
    (binder_found b ts us h (more_ends bs us rest more stops))
    (and_then (λ g. listed [] (λ (d : Binder) (cs : List Binder). d ∷ cs) g (parse_binder g) us) (λ g cs ys. Some (b ∷ cs, ys)) bs rest (b ∷ bs, rest)
    (listed_eventually [] (λ (d : Binder) (cs : List Binder). d ∷ cs) parse_binder us bs rest (more_binders bs us rest more stops)) (always _ _ (λ g. refl)))
