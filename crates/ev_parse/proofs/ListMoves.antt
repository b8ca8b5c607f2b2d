-- Behind an item of a list, and behind the value of a form that collects.
use Rattle.std.proofs.Common.{◌≡◌, ℕ, zero, suc, false, List, [], ◌∷◌, ◌++◌, refl, ap, subst, sym, ◌∙◌}
use Rattle.std.specs.Prelude.{Option, Some, None, ◌==◌}
use Rattle.ev_syntax.specs.Marks.{comma, close_brace, open_brace}
use Rattle.ev_syntax.specs.Tokens.{Token, mark}
use Rattle.ev_syntax.specs.Raw.{Raw, Raws, Binder, collected, one, none}
use Rattle.ev_syntax.specs.inner.RawView.{raws}
use Rattle.ev_syntax.specs.inner.Finding.{Found, on_found}
use Rattle.ev_syntax.specs.inner.TypeParser.{begins, expect}
use Rattle.ev_syntax.specs.inner.BinderParser.{listed}
use Rattle.ev_syntax.specs.inner.FormulaParser.{level, parse, Read}
use Rattle.ev_syntax.specs.inner.Resuming.{Settles, Behind, Reach, FromCall}
use Rattle.ev_parse.specs.inner.Forms.{raw_onto}
use Rattle.ev_parse.specs.inner.Frames.{level_at, more_items, tail, body_tail, value_behind}
use Rattle.ev_syntax.proofs.Resumes.{settles_turn, settles_bind, found_inside, work_inside}

pub onto-snoc : (rs : List Raw) (r : Raw) (es : Raws) → raw_onto (rs ++ r ∷ []) es ≡ raw_onto rs (one r es)
onto-snoc [] r es = refl
onto-snoc (x ∷ rs) r es = ap (one x) (onto-snoc rs r es)

pub onto-none : (rs : List Raw) → raw_onto rs none ≡ raws rs
onto-none [] = refl
onto-none (x ∷ rs) = ap (one x) (onto-none rs)

abbrev pub End : Type 0
End = Raws → List Token → Option (Found Raw)

abbrev pub list_behind : End → List Raw → Behind Raw
list_behind end done n g e ts = on_found (more_items n g ts) (λ es us. end (raw_onto done (one e es)) us)

module _ (end : End) where
  one_more : (rs : List Raw) (r : Raw) (o : Option (Found Raw)) (more : List Token → Option (Found Raws))
      → on_found (on_found o (λ a vs. on_found (more vs) (λ es ws. Some (one a es, ws)))) (λ es ws. end (raw_onto rs (one r es)) ws)
      ≡ on_found o (λ a vs. on_found (more vs) (λ es ws. end (raw_onto (rs ++ r ∷ []) (one a es)) ws))
  one_more rs r None more = refl
  one_more rs r (Some (a, vs)) more = go (more vs)
    where
      go : (x : Option (Found Raws)) → on_found (on_found x (λ es ws. Some (one a es, ws))) (λ es ws. end (raw_onto rs (one r es)) ws) ≡ on_found x (λ es ws. end (raw_onto (rs ++ r ∷ []) (one a es)) ws)
      go None = refl
      go (Some (es, ws)) = ap (λ ys. end ys ws) (sym (onto-snoc rs r (one a es)))

  no_more : (n : ℕ) (read : Read) (ts : List Token) → begins comma ts ≡ false → listed none one n read ts ≡ Some (none, ts)
  no_more zero read ts h = refl
  no_more (suc n) read ts h = rw h

  last_item : (rs : List Raw) (r : Raw) (ts : List Token) (n g : ℕ) → begins comma ts ≡ false → list_behind end rs n g r ts ≡ end (raws (rs ++ r ∷ [])) ts
  last_item rs r ts n g h = ap (λ o. on_found o (λ es us. end (raw_onto rs (one r es)) us)) (no_more n (parse g (level 0)) ts h) ∙ ap (λ ys. end ys ts) (sym (onto-snoc rs r none) ∙ onto-none (rs ++ r ∷ []))

  module _ (whole : ℕ → Option (Found Raw)) (bs cs : List (Behind Raw)) where
    pub further : (rs : List Raw) (r : Raw) (ts us : List Token) → ts ≡ mark comma ∷ us → Reach whole (bs ++ (cs ++ list_behind end rs ∷ [])) (Some (r, ts))
        → FromCall whole (bs ++ (cs ++ list_behind end (rs ++ r ∷ []) ∷ [])) (level_at 0 us)
    further rs r ts us e h = work_inside whole bs cs (list_behind end rs) (list_behind end (rs ++ r ∷ [])) r ts (level_at 0 us) h (λ x z c s.
        subst (λ xs. Settles (λ n g. list_behind end rs n g r xs) z) (sym e)
        (settles_turn (λ n g. list_behind end rs n g r (mark comma ∷ us)) (λ n g. on_found (parse g (level 0) us) (list_behind end (rs ++ r ∷ []) n g)) z
        (λ n g. one_more rs r (parse g (level 0) us) (λ vs. listed none one n (parse g (level 0)) vs))
        (settles_bind (level_at 0 us) (λ n g. list_behind end (rs ++ r ∷ []) n g) x z c s)))

    pub last : (rs : List Raw) (r : Raw) (ts : List Token) → begins comma ts ≡ false → Reach whole (bs ++ (cs ++ list_behind end rs ∷ [])) (Some (r, ts)) → Reach whole (bs ++ cs) (end (raws (rs ++ r ∷ [])) ts)
    last rs r ts h i = found_inside whole bs cs (list_behind end rs) r ts (end (raws (rs ++ r ∷ [])) ts) i (λ n g. last_item rs r ts n g h)

-- the value of a form that collects
module _ (whole : ℕ → Option (Found Raw)) (bs : List (Behind Raw)) where
  abbrev ValueAt : ℕ → ℕ → List Binder → Raw → Raw → List Token → Type 0
  ValueAt m k xs p e ts = Reach whole (bs ++ (body_tail m k ++ value_behind m xs p ∷ [])) (Some (e, ts))

  pub in_brace : (m k : ℕ) (xs : List Binder) (p e : Raw) (ts : List Token) → m ≡ open_brace → ValueAt m k xs p e ts → Reach whole (bs ++ tail k) (expect close_brace ts (λ rest. Some (collected m xs p e, rest)))
  in_brace m k xs p e ts same = subst (λ i. ValueAt i k xs p e ts → Reach whole (bs ++ tail k) (expect close_brace ts (λ rest. Some (collected i xs p e, rest)))) (sym same)
      (λ h. found_inside whole bs (tail k) (value_behind open_brace xs p) e ts _ h (λ n g. refl))

  pub not_in_brace : (m k : ℕ) (xs : List Binder) (p e : Raw) (ts : List Token) → (m == open_brace) ≡ false → ValueAt m k xs p e ts → Reach whole (bs ++ []) (Some (collected m xs p e, ts))
  not_in_brace m k xs p e ts other h =
      let none_left : body_tail m k ≡ [] = rw other refl in
      found_inside whole bs [] (value_behind m xs p) e ts (Some (collected m xs p e, ts)) (subst (λ ys. Reach whole (bs ++ (ys ++ value_behind m xs p ∷ [])) (Some (e, ts))) none_left h) (λ n g. rw other refl)
