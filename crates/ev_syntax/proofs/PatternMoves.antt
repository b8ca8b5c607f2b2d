-- The steps of the reader of patterns.
use Rattle.std.proofs.Common.{◌≡◌, ℕ, zero, suc, false, List, [], ◌∷◌, ◌++◌, refl, ap, subst, sym, append-nil, append_assoc}
use Rattle.std.specs.Prelude.{Option, Some, None}
use Rattle.ev_syntax.specs.Marks.{open_paren, close_paren, maps_to_sign}
use Rattle.ev_syntax.specs.Tokens.{Token, mark}
use Rattle.ev_syntax.specs.Raw.{Binder, Pattern, bound, pair}
use Rattle.ev_syntax.specs.inner.Finding.{Found, on_found, Comes}
use Rattle.ev_syntax.specs.inner.TypeParser.{begins, expect}
use Rattle.ev_syntax.specs.inner.BinderParser.{parse_binder}
use Rattle.ev_syntax.specs.inner.PatternParser.{an_atom, a_pattern, more_pairs, parse_pattern}
use Rattle.ev_syntax.specs.inner.Resuming.{Settles, Behind, Reach, FromCall}
use Rattle.ev_syntax.specs.inner.PatternFrames.{pattern_at, atom_at, pairs, pattern_tail, closed, pair_behind}
use Rattle.ev_syntax.specs.declared.pattern_states.PatternGoal.{PatternGoal}
use Rattle.ev_syntax.specs.declared.pattern_states.PatternGoal.TheVariants.{Atom as AnAtom, Whole as APattern}
use Rattle.ev_syntax.proofs.Resumes.{settles_always, settles_turn, comes_after, comes_bind, settles_bind, below, done, done_at_once, goes_as, call_push, work_push}

module _ (whole : ℕ → Option (Found Pattern)) (bs : List (Behind Pattern)) where
  abbrev pub FoundBy : List (Behind Pattern) → Pattern → List Token → Type 0
  FoundBy one x ts = Reach whole (bs ++ one) (Some (x, ts))

  abbrev pub Answered : PatternGoal → Option (Found Pattern) → Type 0
  Answered goal o = Reach whole (bs ++ pattern_tail goal) o

  to_atom : (goal : PatternGoal) (ts : List Token) → FromCall whole bs (pattern_at goal ts) → FromCall whole (bs ++ pattern_tail goal) (atom_at ts)
  to_atom AnAtom ts h x c = subst (λ xs. Reach whole xs x) (sym (append-nil bs)) (h x (comes_after (λ g. parse_pattern g an_atom ts) (atom_at ts) x (λ g. refl) c))
  to_atom APattern ts h x c = below whole bs pairs x (λ z s.
      h z (comes_after (λ g. parse_pattern g a_pattern ts) (λ g. on_found (parse_pattern g an_atom ts) (more_pairs g (parse_pattern g an_atom))) z (λ g. refl)
      (comes_bind (λ g. parse_pattern g an_atom ts) pairs x z (comes_after (λ g. parse_pattern g an_atom ts) (atom_at ts) x (λ g. refl) c) s)))

  pub nothing : (goal : PatternGoal) → Answered goal None → Reach whole bs None
  nothing AnAtom h = subst (λ xs. Reach whole xs None) (append-nil bs) h
  nothing APattern h = done whole bs pairs None None h (settles_always (λ n g. None) None (λ n g. refl))

  pub paren_opens : (goal : PatternGoal) (ts us : List Token) → ts ≡ mark open_paren ∷ us → FromCall whole bs (pattern_at goal ts) → FromCall whole (bs ++ (pattern_tail goal ++ closed ∷ [])) (pattern_at APattern us)
  paren_opens goal ts us e h = subst (λ xs. FromCall whole xs (pattern_at APattern us)) (append_assoc bs (pattern_tail goal) (closed ∷ []))
      (call_push whole (bs ++ pattern_tail goal) closed (atom_at ts) (pattern_at APattern us) (to_atom goal ts h)
      (subst (λ xs. (g : ℕ) → atom_at xs g ≡ on_found (parse_pattern g a_pattern us) (closed g g)) (sym e) (λ g. refl)))

  -- a name
  pub one_name : (goal : PatternGoal) (ts : List Token) (o : Option (Found Binder)) → begins open_paren ts ≡ false → Comes (λ g. parse_binder g ts) o → FromCall whole bs (pattern_at goal ts)
      → Answered goal (on_found o (λ b us. Some (bound b, us)))
  one_name goal ts o plain c h = to_atom goal ts h _ (c.0, λ g le. rw plain (ap (λ x. on_found x (λ b us. Some (bound b, us))) (c.1 g le)))

  pub paren_ends : (goal : PatternGoal) (x : Pattern) (ts : List Token) → FoundBy (pattern_tail goal ++ closed ∷ []) x ts → Answered goal (expect close_paren ts (λ rest. Some (x, rest)))
  paren_ends goal x ts h = done_at_once whole (bs ++ pattern_tail goal) closed x ts _ (subst (λ xs. Reach whole xs (Some (x, ts))) (sym (append_assoc bs (pattern_tail goal) (closed ∷ []))) h) (λ n g. refl)

  pub paired : (x y : Pattern) (ts : List Token) → FoundBy (pair_behind x ∷ []) y ts → FoundBy (pairs ∷ []) (pair x y) ts
  paired x y ts h = goes_as whole bs (pair_behind x) pairs y (pair x y) ts ts h (λ z s. s)

  pub another : (x : Pattern) (ts us : List Token) → ts ≡ mark maps_to_sign ∷ us → FoundBy (pairs ∷ []) x ts → FromCall whole (bs ++ pair_behind x ∷ []) (pattern_at AnAtom us)
  another x ts us e h = work_push whole bs pairs (pair_behind x) x ts (pattern_at AnAtom us) h (λ y z c s.
      subst (λ xs. Settles (λ n g. pairs n g x xs) z) (sym e)
      (settles_turn (λ n g. pairs n g x (mark maps_to_sign ∷ us)) (λ n g. on_found (parse_pattern g an_atom us) (pair_behind x n g)) z (λ n g. refl)
      (settles_bind (λ g. parse_pattern g an_atom us) (λ n g. pair_behind x n g) y z c s)))

  pairs_end : (n : ℕ) (read : List Token → Option (Found Pattern)) (x : Pattern) (ts : List Token) → begins maps_to_sign ts ≡ false → more_pairs n read x ts ≡ Some (x, ts)
  pairs_end zero read x ts h = refl
  pairs_end (suc n) read x ts h = rw h

  pub no_other : (x : Pattern) (ts : List Token) → begins maps_to_sign ts ≡ false → FoundBy (pairs ∷ []) x ts → Reach whole bs (Some (x, ts))
  no_other x ts e h = done_at_once whole bs pairs x ts (Some (x, ts)) h (λ n g. pairs_end n (parse_pattern g an_atom) x ts e)
