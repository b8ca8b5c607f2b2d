-- Lists, what a context asks, and arguments.
use Rattle.std.specs.Prelude.{◌≡◌, ◌++◌, ◌≤◌, ◌<◌, ℕ, zero, suc, List, [], ◌∷◌, Option, Some, None, map, take, length, reverse, slice_get, Contains, IsSomeAnd, ⊤, refl}
use Rattle.std.specs.List.{AllByRecursion}
use Rattle.std.proofs.Common.{ap, sym, subst as transport, arith}
use Rattle.std.proofs.lemmas.List.{length-reverse, reverse-append, length-append}
use Rattle.std.proofs.lemmas.Option.{slice_get_within}
use Rattle.ev_terms.specs.declared.types.Ty.{Ty}
use Rattle.ev_terms.specs.Types.{type_list}
use Rattle.ev_terms.specs.Term.{Term, Terms, var, lit, node, nil, cons, terms}
use Rattle.ev_terms.specs.Symbols.{binds}
use Rattle.ev_terms.specs.Measures.{loose, all_loose}
use Rattle.ev_terms.specs.Substitution.{entry, type_inst, type_at}
use Rattle.ev_typing.specs.Env.{Env, profile}
use Rattle.ev_typing.specs.Typing.{Typed, AreTyped, var_type, inside}
use Rattle.ev_typing.specs.TypingLaws.{Puts}
use Rattle.ev_typing.proofs.Names.{all_append}

pub contains_more : {X : Type 0} (x y : X) (xs : List X) → Contains xs x → Contains (y ∷ xs) x
contains_more x y xs (k, h, e) = (suc k, omega (arith, h), e)

pub contains_first : {X : Type 0} (x : X) (xs : List X) → Contains (x ∷ xs) x
contains_first x xs = (0, omega arith, refl)

pub append_nil : {X : Type 0} (xs : List X) → xs ++ [] ≡ xs
append_nil [] = refl
append_nil (x ∷ xs) = ap (λ ys. x ∷ ys) (append_nil xs)

pub all_reverse : {X : Type 0} (P : X → Type 0) (xs : List X) → AllByRecursion P xs → AllByRecursion P (reverse xs)
all_reverse P [] h = tt
all_reverse P (x ∷ xs) h = transport (AllByRecursion P) (sym (reverse-append (x ∷ []) xs)) (all_append P (reverse xs) (x ∷ []) (all_reverse P xs h.1) (h.0, tt))

-- A typed term has no loose variable past its context.
pub some_out : {X Q : Type 0} {P : X → Type 0} (o : Option X) → ((x : X) → o ≡ Some x → P x → Q) → IsSomeAnd o P → Q
some_out None f h = absurd h
some_out (Some x) f h = f x refl h

take_short : (n : ℕ) (As : List Ty) → length (take n As) ≤ n
take_short zero As = omega arith
take_short (suc n) [] = omega arith
take_short (suc n) (A ∷ As) = omega (arith, take_short n As)

mutual
  pub typed_loose : (env : Env) (C : List Ty) (t : Term) (A : Ty) → Typed env C t A → loose t ≤ length C
  typed_loose env C (var i) A h =
      let k : i < length (reverse C) = slice_get_within (reverse C) i A h in
      omega (arith, length-reverse C)
  typed_loose env C (lit n) A h = omega arith
  typed_loose env C (node s As ts) A h =
      some_out (profile env s) (λ p e g.
      let k : all_loose ts ≤ length (inside C s As) = all_typed_loose env (inside C s As) ts (map (type_inst (type_at As)) p.args) g.children in
      omega (arith, length-append C (take (binds s) (type_list As)), take_short (binds s) (type_list As))) h

  pub all_typed_loose : (env : Env) (C : List Ty) (ts : Terms) (As : List Ty) → AreTyped env C ts As → all_loose ts ≤ length C
  all_typed_loose env C nil As h = omega arith
  all_typed_loose env C (cons t ts) [] h = absurd h
  all_typed_loose env C (cons t ts) (A ∷ As) h = omega (arith, typed_loose env C t A h.0, all_typed_loose env C ts As h.1)

-- A relation of two terms at a type, triple by triple.
abbrev AllThree : (Ty → Term → Term → Type 0) → List Ty → List Term → List Term → Type 0
AllThree P [] [] [] = ⊤
AllThree P (A ∷ As) (l ∷ ls) (r ∷ rs) = P A l r × AllThree P As ls rs
AllThree P _ _ _ = ⊥

module _ (P : Ty → Term → Term → Type 0) where
  three_append : (As Bs : List Ty) (us vs xs ys : List Term) → AllThree P As us vs → AllThree P Bs xs ys → AllThree P (As ++ Bs) (us ++ xs) (vs ++ ys)
  three_append [] Bs [] [] xs ys h k = k
  three_append [] Bs [] (v ∷ vs) xs ys h k = absurd h
  three_append [] Bs (u ∷ us) vs xs ys h k = absurd h
  three_append (A ∷ As) Bs [] vs xs ys h k = absurd h
  three_append (A ∷ As) Bs (u ∷ us) [] xs ys h k = absurd h
  three_append (A ∷ As) Bs (u ∷ us) (v ∷ vs) xs ys h k = (h.0, three_append As Bs us vs xs ys h.1 k)

  pub three_reverse : (As : List Ty) (us vs : List Term) → AllThree P As us vs → AllThree P (reverse As) (reverse us) (reverse vs)
  three_reverse [] [] [] h = h
  three_reverse [] [] (v ∷ vs) h = absurd h
  three_reverse [] (u ∷ us) vs h = absurd h
  three_reverse (A ∷ As) [] vs h = absurd h
  three_reverse (A ∷ As) (u ∷ us) [] h = absurd h
  three_reverse (A ∷ As) (u ∷ us) (v ∷ vs) h =
      transport (λ X. AllThree P X (reverse (u ∷ us)) (reverse (v ∷ vs))) (sym (reverse-append (A ∷ []) As))
      (transport (λ X. AllThree P (reverse As ++ A ∷ []) X (reverse (v ∷ vs))) (sym (reverse-append (u ∷ []) us))
      (transport (AllThree P (reverse As ++ A ∷ []) (reverse us ++ u ∷ [])) (sym (reverse-append (v ∷ []) vs))
      (three_append (reverse As) (A ∷ []) (reverse us) (reverse vs) (u ∷ []) (v ∷ []) (three_reverse As us vs h.1) (h.0, tt))))

  pub three_get : (As : List Ty) (us vs : List Term) (i : ℕ) (A : Ty) → AllThree P As us vs → slice_get As i ≡ Some A → P A (entry us i) (entry vs i)
  three_get [] us vs i A h e = cc
  three_get (B ∷ As) [] vs i A h e = absurd h
  three_get (B ∷ As) (u ∷ us) [] i A h e = absurd h
  three_get (B ∷ As) (u ∷ us) (v ∷ vs) zero A h e = let q : B ≡ A = cc in transport (λ X. P X u v) q h.0
  three_get (B ∷ As) (u ∷ us) (v ∷ vs) (suc i) A h e = three_get As us vs i A h.1 e

  -- what stands for a variable
  pub three_puts : (As : List Ty) (us vs : List Term) → AllThree P As us vs → (i : ℕ) (A : Ty) → var_type As i ≡ Some A → P A (entry (reverse us) i) (entry (reverse vs) i)
  three_puts As us vs h i A e = three_get (reverse As) (reverse us) (reverse vs) i A (three_reverse As us vs h) e

-- typed terms
pub three_typed : (env : Env) (C As : List Ty) (ts : List Term) → AreTyped env C (terms ts) As → AllThree (λ A l r. Typed env C l A) As ts ts
three_typed env C [] [] h = tt
three_typed env C (A ∷ As) [] h = h
three_typed env C [] (t ∷ ts) h = h
three_typed env C (A ∷ As) (t ∷ ts) h = (h.0, three_typed env C As ts h.1)

pub args_put : (env : Env) (C As : List Ty) (ts : List Term) → AreTyped env C (terms ts) As → Puts env (entry (reverse ts)) As C
args_put env C As ts h i A e = three_puts (λ B l r. Typed env C l B) As ts ts (three_typed env C As ts h) i A e
