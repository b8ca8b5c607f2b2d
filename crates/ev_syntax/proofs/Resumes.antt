-- Work that is left, and what it makes of an answer.
use Rattle.std.proofs.Common.{◌≡◌, ℕ, zero, suc, ◌+◌, ◌≤◌, List, [], ◌∷◌, ◌++◌, refl, ap, subst, sym, ◌∙◌, arith, append_assoc}
use Rattle.std.specs.Prelude.{Option, Some, None, max}
use Rattle.ev_syntax.specs.Tokens.{Token}
use Rattle.ev_syntax.specs.inner.Finding.{Found, on_found, Comes}
use Rattle.ev_syntax.specs.inner.Resuming.{Settles, Behind, Into, Reach, FromCall}

pub settles_always : {A : Type 0} (p : ℕ → ℕ → Option A) (o : Option A) → ((n g : ℕ) → p n g ≡ o) → Settles p o
settles_always p o h = (0, λ n g le low. h n g)

pub settles_like : {A : Type 0} (p q : ℕ → ℕ → Option A) (o : Option A) → ((n g : ℕ) → p n g ≡ q n g) → Settles q o → Settles p o
settles_like p q o h s = (s.0, λ n g le low. h n g ∙ s.1 n g le low)

-- where a turn of a loop takes one of its fuel
pub settles_turn : {A : Type 0} (p q : ℕ → ℕ → Option A) (o : Option A) → ((n g : ℕ) → p (suc n) g ≡ q n g) → Settles q o → Settles p o
settles_turn {A} p q o h s = (suc s.0, more)
  where
    more : (n g : ℕ) → suc s.0 ≤ n → suc s.0 ≤ g → p n g ≡ o
    more zero g le low = absurd (omega arith)
    more (suc n) g le low = h n g ∙ s.1 n g (omega arith) (omega arith)

pub comes_like : {A : Type 0} (p q : ℕ → Option A) (o : Option A) → ((g : ℕ) → p g ≡ q g) → Comes q o → Comes p o
comes_like p q o h c = (c.0, λ g le. h g ∙ c.1 g le)

pub comes_after : {A : Type 0} (p q : ℕ → Option A) (o : Option A) → ((g : ℕ) → p (suc g) ≡ q g) → Comes q o → Comes p o
comes_after {A} p q o h c = (suc c.0, more)
  where
    more : (g : ℕ) → suc c.0 ≤ g → p g ≡ o
    more zero le = absurd (omega arith)
    more (suc g) le = h g ∙ c.1 g (omega arith)

pub comes_at_once : {A : Type 0} (p : ℕ → Option A) (o : Option A) → ((g : ℕ) → p g ≡ o) → Comes p o
comes_at_once p o h = (0, λ g le. h g)

-- an answer and the work behind it
pub comes_bind : {A : Type 0} (p : ℕ → Option (Found A)) (b : Behind A) (x z : Option (Found A)) → Comes p x → Settles (λ n g. on_found x (b n g)) z → Comes (λ g. on_found (p g) (b g g)) z
comes_bind p b x z c s = (max c.0 s.0, λ g le. ap (λ y. on_found y (b g g)) (c.1 g (omega arith)) ∙ s.1 g g (omega arith) (omega arith))

-- the same in a loop
pub settles_bind : {A B : Type 0} (p : ℕ → Option (Found A)) (k : ℕ → ℕ → A → List Token → Option B) (x : Option (Found A)) (z : Option B) → Comes p x
    → Settles (λ n g. on_found x (k n g)) z → Settles (λ n g. on_found (p g) (k n g)) z
settles_bind p k x z c s = (max c.0 s.0, λ n g le low. ap (λ y. on_found y (k n g)) (c.1 g (omega arith)) ∙ s.1 n g (omega arith) (omega arith))

pub into_append : {A : Type 0} (xs bs : List (Behind A)) (goal : Option (Found A) → Type 0) (x : Option (Found A)) → Into bs (Into xs goal) x → Into (xs ++ bs) goal x
into_append [] bs goal x h = h
into_append (a ∷ xs) bs goal x h = into_append xs bs _ x h

pub append_into : {A : Type 0} (xs bs : List (Behind A)) (goal : Option (Found A) → Type 0) (x : Option (Found A)) → Into (xs ++ bs) goal x → Into bs (Into xs goal) x
append_into [] bs goal x h = h
append_into (a ∷ xs) bs goal x h = append_into xs bs _ x h

module _ {A : Type 0} (whole : ℕ → Option (Found A)) where
  -- the last of the work
  pub below : (bs : List (Behind A)) (b : Behind A) (x : Option (Found A)) → ((z : Option (Found A)) → Settles (λ n g. on_found x (b n g)) z → Reach whole bs z) → Reach whole (bs ++ b ∷ []) x
  below bs b x h = into_append bs (b ∷ []) (Comes whole) x h

  pub done : (bs : List (Behind A)) (b : Behind A) (x z : Option (Found A)) → Reach whole (bs ++ b ∷ []) x → Settles (λ n g. on_found x (b n g)) z → Reach whole bs z
  done bs b x z h s = append_into bs (b ∷ []) (Comes whole) x h z s

  pub done_at_once : (bs : List (Behind A)) (b : Behind A) (a : A) (ts : List Token) (z : Option (Found A)) → Reach whole (bs ++ b ∷ []) (Some (a, ts)) → ((n g : ℕ) → b n g a ts ≡ z) → Reach whole bs z
  done_at_once bs b a ts z h e = done bs b (Some (a, ts)) z h (settles_always (λ n g. b n g a ts) z e)

  -- the work itself goes on as other work does
  pub goes_as : (bs : List (Behind A)) (b c : Behind A) (a d : A) (ts us : List Token) → Reach whole (bs ++ b ∷ []) (Some (a, ts))
      → ((z : Option (Found A)) → Settles (λ n g. c n g d us) z → Settles (λ n g. b n g a ts) z) → Reach whole (bs ++ c ∷ []) (Some (d, us))
  goes_as bs b c a d ts us h f = below bs c (Some (d, us)) (λ z s. done bs b (Some (a, ts)) z h (f z s))

  -- a part that is an inner part and work behind it
  pub call_push : (bs : List (Behind A)) (b : Behind A) (part inner : ℕ → Option (Found A)) → FromCall whole bs part → ((g : ℕ) → part g ≡ on_found (inner g) (b g g))
      → FromCall whole (bs ++ b ∷ []) inner
  call_push bs b part inner h e x c = below bs b x (λ z s. h z (comes_like part (λ g. on_found (inner g) (b g g)) z e (comes_bind inner b x z c s)))

  -- work that calls an inner part
  pub work_push : (bs : List (Behind A)) (b d : Behind A) (a : A) (ts : List Token) (inner : ℕ → Option (Found A)) → Reach whole (bs ++ b ∷ []) (Some (a, ts))
      → ((x z : Option (Found A)) → Comes inner x → Settles (λ n g. on_found x (d n g)) z → Settles (λ n g. b n g a ts) z) → FromCall whole (bs ++ d ∷ []) inner
  work_push bs b d a ts inner h f x c = below bs d x (λ z s. done bs b (Some (a, ts)) z h (f x z c s))

  pub at_once : (bs : List (Behind A)) (part : ℕ → Option (Found A)) (o : Option (Found A)) → FromCall whole bs part → ((g : ℕ) → part g ≡ o) → Reach whole bs o
  at_once bs part o h e = h o (comes_at_once part o e)

nothing_settles : {A : Type 0} (b : Behind A) → Settles {A = Found A} (λ n g. None) None
nothing_settles b = (0, λ n g le low. refl)

-- nothing found comes to nothing
fails_into : {A : Type 0} (bs : List (Behind A)) (goal : Option (Found A) → Type 0) → Into bs goal None → goal None
fails_into [] goal h = h
fails_into (b ∷ bs) goal h = fails_into bs _ h None (nothing_settles b)

pub fails : {A : Type 0} (whole : ℕ → Option (Found A)) (bs : List (Behind A)) → Reach whole bs None → Comes whole None
fails whole bs h = fails_into bs (Comes whole) h

-- the same below other work
module _ {A : Type 0} (whole : ℕ → Option (Found A)) (bs cs : List (Behind A)) where
  pub apart : (b : Behind A) (x : Option (Found A)) → Reach whole (bs ++ (cs ++ b ∷ [])) x → Reach whole ((bs ++ cs) ++ b ∷ []) x
  apart b x h = subst (λ xs. Reach whole xs x) (sym (append_assoc bs cs (b ∷ []))) h

  pub together : (b : Behind A) (x : Option (Found A)) → Reach whole ((bs ++ cs) ++ b ∷ []) x → Reach whole (bs ++ (cs ++ b ∷ [])) x
  together b x h = subst (λ xs. Reach whole xs x) (append_assoc bs cs (b ∷ [])) h

  pub call_inside : (b : Behind A) (part inner : ℕ → Option (Found A)) → FromCall whole (bs ++ cs) part → ((g : ℕ) → part g ≡ on_found (inner g) (b g g)) → FromCall whole (bs ++ (cs ++ b ∷ [])) inner
  call_inside b part inner h e x c = together b x (call_push whole (bs ++ cs) b part inner h e x c)

  pub soon_inside : (b : Behind A) (part inner : ℕ → Option (Found A)) (f : ℕ) → FromCall whole (bs ++ cs) part → ((g : ℕ) → f ≤ g → part g ≡ on_found (inner g) (b g g)) → FromCall whole (bs ++ (cs ++ b ∷ [])) inner
  soon_inside b part inner f h e x c = together b x (below whole (bs ++ cs) b x (λ z s. let d = comes_bind inner b x z c s in
      h z (f + d.0, λ g le. e g (omega arith) ∙ d.1 g (omega arith))))

  pub later_inside : (b : Behind A) (part inner : ℕ → Option (Found A)) → FromCall whole (bs ++ cs) part → ((g : ℕ) → part (suc g) ≡ on_found (inner g) (b g g)) → FromCall whole (bs ++ (cs ++ b ∷ [])) inner
  later_inside b part inner h e x c = together b x (below whole (bs ++ cs) b x (λ z s. h z (comes_after part (λ g. on_found (inner g) (b g g)) z e (comes_bind inner b x z c s))))

  pub found_inside : (b : Behind A) (a : A) (ts : List Token) (z : Option (Found A)) → Reach whole (bs ++ (cs ++ b ∷ [])) (Some (a, ts)) → ((n g : ℕ) → b n g a ts ≡ z) → Reach whole (bs ++ cs) z
  found_inside b a ts z h e = done_at_once whole (bs ++ cs) b a ts z (apart b (Some (a, ts)) h) e

  pub moves_inside : (b d : Behind A) (a e : A) (ts us : List Token) → Reach whole (bs ++ (cs ++ b ∷ [])) (Some (a, ts))
      → ((z : Option (Found A)) → Settles (λ n g. d n g e us) z → Settles (λ n g. b n g a ts) z) → Reach whole (bs ++ (cs ++ d ∷ [])) (Some (e, us))
  moves_inside b d a e ts us h f = together d (Some (e, us)) (goes_as whole (bs ++ cs) b d a e ts us (apart b (Some (a, ts)) h) f)

  pub work_inside : (b d : Behind A) (a : A) (ts : List Token) (inner : ℕ → Option (Found A)) → Reach whole (bs ++ (cs ++ b ∷ [])) (Some (a, ts))
      → ((x z : Option (Found A)) → Comes inner x → Settles (λ n g. on_found x (d n g)) z → Settles (λ n g. b n g a ts) z) → FromCall whole (bs ++ (cs ++ d ∷ [])) inner
  work_inside b d a ts inner h f x c = together d x (work_push whole (bs ++ cs) b d a ts inner (apart b (Some (a, ts)) h) f x c)

  -- nothing comes to nothing
  pub nothing_inside : Reach whole (bs ++ cs) None → Reach whole bs None
  nothing_inside h = fails_into cs (Into bs (Comes whole)) (append_into bs cs (Comes whole) None h)
