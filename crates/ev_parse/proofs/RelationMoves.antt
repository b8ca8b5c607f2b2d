-- Behind an expression that is a predicate, or a part of a relation.
use Rattle.std.proofs.Common.{◌≡◌, ℕ, true, false, List, [], ◌∷◌, ◌++◌, refl, ap, subst, sym, ◌∙◌}
use Rattle.std.specs.Prelude.{Option, Some, None}
use Rattle.ev_syntax.specs.Tokens.{Token, name, number, mark}
use Rattle.ev_syntax.specs.Raw.{Raw, word, literal, param, type_set, call, around, unary, binary, inverse, apply, image, of_type, quantified, set_of, collected, lambda, members, written}
use Rattle.ev_syntax.specs.Parts.{is_among, relation_signs}
use Rattle.ev_syntax.specs.inner.Finding.{Found, on_found}
use Rattle.ev_syntax.specs.inner.FormulaParser.{level, parse, Read, related, call_only}
use Rattle.ev_syntax.specs.inner.Resuming.{Settles, Behind, Reach, FromCall}
use Rattle.ev_parse.specs.inner.Forms.{is_call}
use Rattle.ev_parse.specs.inner.Frames.{level_at, related_behind, binary_behind}
use Rattle.ev_syntax.proofs.Resumes.{settles_like, settles_bind, found_inside, work_inside}

pub named_alone : (r : Raw) (ts : List Token) → is_call r ≡ true → call_only r ts ≡ Some (r, ts)
named_alone (call n es) ts e = refl
named_alone (word m) ts e = cc
named_alone (literal n) ts e = cc
named_alone (param i) ts e = cc
named_alone (type_set a) ts e = cc
named_alone (around m a) ts e = cc
named_alone (unary m a) ts e = cc
named_alone (binary m a b) ts e = cc
named_alone (inverse a) ts e = cc
named_alone (apply a b) ts e = cc
named_alone (image a b) ts e = cc
named_alone (of_type a b) ts e = cc
named_alone (quantified m bs a) ts e = cc
named_alone (set_of b a) ts e = cc
named_alone (collected m bs a b) ts e = cc
named_alone (lambda x a b) ts e = cc
named_alone (members es) ts e = cc
named_alone (written a) ts e = cc

pub not_named : (r : Raw) (ts : List Token) → is_call r ≡ false → call_only r ts ≡ None
not_named (call n es) ts e = cc
not_named (word m) ts e = refl
not_named (literal n) ts e = refl
not_named (param i) ts e = refl
not_named (type_set a) ts e = refl
not_named (around m a) ts e = refl
not_named (unary m a) ts e = refl
not_named (binary m a b) ts e = refl
not_named (inverse a) ts e = refl
not_named (apply a b) ts e = refl
not_named (image a b) ts e = refl
not_named (of_type a b) ts e = refl
not_named (quantified m bs a) ts e = refl
not_named (set_of b a) ts e = refl
not_named (collected m bs a b) ts e = refl
not_named (lambda x a b) ts e = refl
not_named (members es) ts e = refl
not_named (written a) ts e = refl

module _ (whole : ℕ → Option (Found Raw)) (bs cs : List (Behind Raw)) (r : Raw) where
  abbrev pub Before : List Token → Type 0
  Before ts = Reach whole (bs ++ (cs ++ related_behind ∷ [])) (Some (r, ts))

  abbrev pub Alone : List Token → Type 0
  Alone ts = Reach whole (bs ++ cs) (call_only r ts)

  alone : (ts us : List Token) → ts ≡ us → ((read : Read) → related read r us ≡ call_only r us) → Before ts → Alone ts
  alone ts us e d h = found_inside whole bs cs related_behind r ts (call_only r ts) h (λ n g. ap (related (parse g (level 0)) r) e ∙ d (parse g (level 0)) ∙ ap (call_only r) (sym e))

  pub at_name : (n : List ℕ) (ts us : List Token) → ts ≡ name n ∷ us → Before ts → Alone ts
  at_name n ts us e = alone ts (name n ∷ us) e (λ read. refl)

  pub at_number : (n : ℕ) (ts us : List Token) → ts ≡ number n ∷ us → Before ts → Alone ts
  at_number n ts us e = alone ts (number n ∷ us) e (λ read. refl)

  pub at_end : (ts : List Token) → ts ≡ [] → Before ts → Alone ts
  at_end ts e = alone ts [] e (λ read. refl)

  pub at_other : (m : ℕ) (ts us : List Token) → ts ≡ mark m ∷ us → is_among relation_signs m ≡ false → Before ts → Alone ts
  at_other m ts us e d = alone ts (mark m ∷ us) e (λ read. rw d refl)

  pub at_relation : (m : ℕ) (ts us : List Token) → ts ≡ mark m ∷ us → is_among relation_signs m ≡ true → Before ts → FromCall whole (bs ++ (cs ++ binary_behind m r ∷ [])) (level_at 0 us)
  at_relation m ts us e d h = work_inside whole bs cs related_behind (binary_behind m r) r ts (level_at 0 us) h (λ x z c s.
      subst (λ xs. Settles (λ n g. related_behind n g r xs) z) (sym e)
      (settles_like (λ n g. related_behind n g r (mark m ∷ us)) (λ n g. on_found (parse g (level 0) us) (binary_behind m r n g)) z (λ n g. rw d refl)
      (settles_bind (level_at 0 us) (λ n g. binary_behind m r n g) x z c s)))
