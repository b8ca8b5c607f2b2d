-- What begins with a brace.
use Rattle.std.proofs.Common.{◌≡◌, ℕ, zero, suc, ◌+◌, ◌≤◌, Bool, true, false, List, [], ◌∷◌, ◌++◌, refl, ap, subst, sym, ◌∙◌, arith}
use Rattle.std.specs.Prelude.{Option, Some, None, if◌then◌else◌}
use Rattle.ev_syntax.specs.Marks.{open_brace, close_brace, dot, bar, comma}
use Rattle.ev_syntax.specs.Tokens.{Token, mark}
use Rattle.ev_syntax.specs.Raw.{Raw, Raws, Binder, members, set_of, collected, one}
use Rattle.ev_syntax.specs.Grammar.{ReadsBinders}
use Rattle.ev_syntax.specs.inner.Finding.{Found, on_found, Comes}
use Rattle.ev_syntax.specs.inner.TypeParser.{begins, expect}
use Rattle.ev_syntax.specs.inner.BinderParser.{listed, parse_binder, parse_binders}
use Rattle.ev_syntax.specs.inner.FormulaParser.{level, a_pred, parse, items, in_braces, first_binder, collects}
use Rattle.ev_syntax.specs.inner.Resuming.{Behind, FromCall}
use Rattle.ev_parse.specs.inner.Frames.{level_at, prim_at, members_behind, set_behind, body_behind, more_items}
use Rattle.ev_parse.specs.inner.Braces.{EndsNotBefore, NotBefore}
use Rattle.ev_syntax.proofs.WholeSound.{Holds, holds_found, holds_expect, holds_if, BindersAre, binders_are}
use Rattle.ev_syntax.proofs.WholeBinding.{binders_items, dot_item, bar_item}
use Rattle.ev_syntax.proofs.TypeMoves.{begins_is, expect_no}
use Rattle.ev_syntax.proofs.Resumes.{soon_inside}
use Rattle.ev_parse.proofs.LevelMoves.{flatten}

abbrev set_end : ℕ → Binder → List Token → Option (Found Raw)
set_end g b ws = on_found (parse g a_pred ws) (λ p xs. expect close_brace xs (λ rest. Some (set_of b p, rest)))

abbrev set_of_first : ℕ → List Binder → List Token → Option (Found Raw)
set_of_first g bs vs = first_binder bs (λ b. expect bar vs (set_end g b))

abbrev collected_end : ℕ → List Binder → List Token → Option (Found Raw)
collected_end g bs vs = expect dot vs (λ ws. collects (parse g (level 0)) (parse g a_pred) (λ p e xs. expect close_brace xs (λ rest. Some (collected open_brace bs p e, rest))) ws)

anything : {A : Type 0} (o : Option A) → Holds (λ x. Unit {0}) o
anything None = tt
anything (Some x) = tt

-- no set, where no bar stands behind the first bound name
no_more_sets : (g n : ℕ) (b : Binder) (vs : List Token) → begins bar vs ≡ false
    → Holds (λ (x : Found (List Binder)). set_of_first g (b ∷ x.0) x.1 ≡ None) (listed [] (λ c cs. c ∷ cs) n (parse_binder g) vs)
no_more_sets g zero b vs h = expect_no bar vs (set_end g b) h
no_more_sets g (suc n) b vs h =
    holds_if Q (begins comma vs) _ _ (λ t. holds_expect Q comma vs _ (λ us e.
    holds_found Q (λ x. Unit {0}) (parse_binder g us) _ (anything (parse_binder g us)) (λ a ws u.
    holds_found Q (λ x. Unit {0}) (listed [] (λ c cs. c ∷ cs) n (parse_binder g) ws) _ (anything (listed [] (λ c cs. c ∷ cs) n (parse_binder g) ws)) (λ bs xs v. refl)))) (λ t. expect_no bar vs (set_end g b) h)
  where
    Q : Found (List Binder) → Type 0
    Q x = set_of_first g (b ∷ x.0) x.1 ≡ None

with_first : (g : ℕ) (b : Binder) (o : Option (Found (List Binder))) → Holds (λ (x : Found (List Binder)). set_of_first g (b ∷ x.0) x.1 ≡ None) o
    → on_found (on_found o (λ bs vs. Some (b ∷ bs, vs))) (set_of_first g) ≡ None
with_first g b None h = refl
with_first g b (Some x) h = h

no_set_of : (g : ℕ) (o : Option (Found Binder)) → EndsNotBefore bar o
    → on_found (on_found o (λ b us. on_found (listed [] (λ c cs. c ∷ cs) g (parse_binder g) us) (λ bs vs. Some (b ∷ bs, vs)))) (set_of_first g) ≡ None
no_set_of g None h = refl
no_set_of g (Some x) h = with_first g x.0 (listed [] (λ c cs. c ∷ cs) g (parse_binder g) x.1) (no_more_sets g g x.0 x.1 h)

no_set : (g : ℕ) (us : List Token) (o : Option (Found Binder)) → parse_binder g us ≡ o → EndsNotBefore bar o → on_found (parse_binders g us) (set_of_first g) ≡ None
no_set g us o e h = ap (λ p. on_found (on_found p (λ b us. on_found (listed [] (λ c cs. c ∷ cs) g (parse_binder g) us) (λ bs vs. Some (b ∷ bs, vs)))) (set_of_first g)) e ∙ no_set_of g o h

no_collected_of : (g : ℕ) (o : Option (Found (List Binder))) → EndsNotBefore dot o → on_found o (collected_end g) ≡ None
no_collected_of g None h = refl
no_collected_of g (Some x) h = expect_no dot x.1 _ h

no_collected : (g : ℕ) (us : List Token) (o : Option (Found (List Binder))) → parse_binders g us ≡ o → EndsNotBefore dot o → on_found (parse_binders g us) (collected_end g) ≡ None
no_collected g us o e h = ap (λ p. on_found p (collected_end g)) e ∙ no_collected_of g o h

abbrev with_further : ℕ → Option (Found Binder) → Option (Found (List Binder))
with_further g o = on_found o (λ b us. on_found (listed [] (λ c cs. c ∷ cs) g (parse_binder g) us) (λ bs vs. Some (b ∷ bs, vs)))

pub no_binders : (us : List Token) → Comes (λ g. parse_binder g us) None → NotBefore dot (λ g. parse_binders g us)
no_binders us c = (None, (c.0, λ g le. ap (with_further g) (c.1 g le)), tt)

-- then members come
abbrev closed : Raws → List Token → Option (Found Raw)
closed es vs = expect close_brace vs (λ rest. Some (members es, rest))

open_at : (m : ℕ) (es : Raws) (vs : List Token) → begins m vs ≡ true → ((ws : List Token) → closed es (mark m ∷ ws) ≡ None) → closed es vs ≡ None
open_at m es vs h f = let b = begins_is m vs h in ap (closed es) b.1 ∙ f b.0

only_members : (g : ℕ) (us : List Token) (es : Raws) (vs : List Token) → on_found (parse_binders g us) (set_of_first g) ≡ None → on_found (parse_binders g us) (collected_end g) ≡ None
    → in_braces g (parse g (level 0)) (parse g a_pred) us es vs ≡ closed es vs
only_members g us es vs a b = go (begins dot vs) (begins bar vs) refl refl
  where
    go : (c d : Bool) → begins dot vs ≡ c → begins bar vs ≡ d
        → (if c then on_found (parse_binders g us) (collected_end g) else (if d then on_found (parse_binders g us) (set_of_first g) else closed es vs)) ≡ closed es vs
    go true d h i = b ∙ sym (open_at dot es vs h (λ ws. refl))
    go false true h i = a ∙ sym (open_at bar es vs i (λ ws. refl))
    go false false h i = refl

same_found : {A B : Type 0} (o : Option (Found A)) (f h : A → List Token → Option B) → ((a : A) (ts : List Token) → f a ts ≡ h a ts) → on_found o f ≡ on_found o h
same_found None f h e = refl
same_found (Some x) f h e = e x.0 x.1

members_are : (us : List Token) (g : ℕ) → begins close_brace us ≡ false → on_found (parse_binders g us) (set_of_first g) ≡ None → on_found (parse_binders g us) (collected_end g) ≡ None
    → prim_at (mark open_brace ∷ us) g ≡ on_found (parse g (level 0) us) (members_behind [] g g)
members_are us g h a b =
    rw h (flatten (parse g (level 0) us) (more_items g g) (in_braces g (parse g (level 0)) (parse g a_pred) us)
    ∙ same_found (parse g (level 0) us) (λ e ts. on_found (more_items g g ts) (λ es vs. in_braces g (parse g (level 0)) (parse g a_pred) us (one e es) vs)) (members_behind [] g g)
    (λ e ts. same_found (more_items g g ts) (λ es vs. in_braces g (parse g (level 0)) (parse g a_pred) us (one e es) vs) (λ es vs. closed (one e es) vs) (λ es vs. only_members g us (one e es) vs a b)))

-- bound names are found as items first
binders_read : (b : Binder) (bs : List Binder) (us vs : List Token) → Comes (λ g. parse_binders g us) (Some (b ∷ bs, vs)) → ReadsBinders (b ∷ bs) us vs
binders_read b bs us vs c = subst (λ o. Holds (BindersAre us) o) (c.1 c.0 (omega arith)) (binders_are c.0 us)

no_names : (us vs : List Token) → Comes (λ g. parse_binders g us) (Some ([], vs)) → ⊥
no_names us vs c = subst (λ o. Holds (BindersAre us) o) (c.1 c.0 (omega arith)) (binders_are c.0 us)

abbrev with_rest : Binder → Option (Found (List Binder)) → Option (Found (List Binder))
with_rest b o = on_found o (λ bs vs. Some (b ∷ bs, vs))

no_further : (b : Binder) (ws : List Token) (n g : ℕ) → with_rest b (listed [] (λ c cs. c ∷ cs) n (parse_binder g) (mark bar ∷ ws)) ≡ Some (b ∷ [], mark bar ∷ ws)
no_further b ws zero g = refl
no_further b ws (suc n) g = refl

abbrev behind_items : List Token → ℕ → Option (Found Raws) → Option (Found Raw)
behind_items us g o = on_found o (in_braces g (parse g (level 0)) (parse g a_pred) us)

as_items : (us : List Token) (g : ℕ) → begins close_brace us ≡ false → prim_at (mark open_brace ∷ us) g ≡ behind_items us g (items g (parse g (level 0)) us)
as_items us g h = rw h refl

module _ (whole : ℕ → Option (Found Raw)) (bs cs : List (Behind Raw)) (ts us : List Token) (e : ts ≡ mark open_brace ∷ us) (starts : begins close_brace us ≡ false) (h : FromCall whole (bs ++ cs) (prim_at ts)) where
  pub members_part : NotBefore bar (λ g. parse_binder g us) → NotBefore dot (λ g. parse_binders g us) → FromCall whole (bs ++ (cs ++ members_behind [] ∷ [])) (level_at 0 us)
  members_part a b = soon_inside whole bs cs (members_behind []) (prim_at ts) (level_at 0 us) (a.1.0 + b.1.0) h (λ g le.
      subst (λ xs. prim_at xs g ≡ on_found (parse g (level 0) us) (members_behind [] g g)) (sym e)
      (members_are us g starts (no_set g us a.0 (a.1.1 g (omega arith)) a.2) (no_collected g us b.0 (b.1.1 g (omega arith)) b.2)))

  abbrev Made : (ℕ → Option (Found Raw)) → Behind Raw → ℕ → Type 0
  Made inner b g = prim_at (mark open_brace ∷ us) g ≡ on_found (inner g) (b g g)

  part : (b : Behind Raw) (inner : ℕ → Option (Found Raw)) (f : ℕ) → ((g : ℕ) → f ≤ g → Made inner b g) → FromCall whole (bs ++ (cs ++ b ∷ [])) inner
  part b inner f d = soon_inside whole bs cs b (prim_at ts) inner f h (λ g le. subst (λ xs. prim_at xs g ≡ on_found (inner g) (b g g)) (sym e) (d g le))

  -- behind bound names
  pub collected_part : (xs : List Binder) (vs ws : List Token) → Comes (λ g. parse_binders g us) (Some (xs, vs)) → vs ≡ mark dot ∷ ws → FromCall whole (bs ++ (cs ++ body_behind open_brace xs ∷ [])) (λ g. parse g a_pred ws)
  collected_part [] vs ws c d = absurd (no_names us vs c)
  collected_part (b ∷ xs) vs ws c d =
      let i = binders_items b xs us (mark dot ∷ ws) (subst (λ ys. ReadsBinders (b ∷ xs) us ys) d (binders_read b xs us vs c)) (dot_item ws) in
      part (body_behind open_brace (b ∷ xs)) (λ g. parse g a_pred ws) (i.0 + c.0) (λ g le.
      as_items us g starts ∙ ap (behind_items us g) (i.1 g (omega arith)) ∙ ap (λ o. on_found o (collected_end g)) (c.1 g (omega arith)) ∙ ap (collected_end g (b ∷ xs)) d)

  pub set_part : (b : Binder) (vs ws : List Token) → Comes (λ g. parse_binder g us) (Some (b, vs)) → vs ≡ mark bar ∷ ws → FromCall whole (bs ++ (cs ++ set_behind b ∷ [])) (λ g. parse g a_pred ws)
  set_part b vs ws c d =
      let n : Comes (λ g. parse_binders g us) (Some (b ∷ [], mark bar ∷ ws)) = (c.0, λ g le. ap (with_further g) (c.1 g le) ∙ ap (λ ys. with_further g (Some (b, ys))) d ∙ no_further b ws g g) in
      let i = binders_items b [] us (mark bar ∷ ws) (binders_read b [] us (mark bar ∷ ws) n) (bar_item ws) in
      part (set_behind b) (λ g. parse g a_pred ws) (i.0 + n.0) (λ g le.
      as_items us g starts ∙ ap (behind_items us g) (i.1 g (omega arith)) ∙ ap (λ o. on_found o (set_of_first g)) (n.1 g (omega arith)))
