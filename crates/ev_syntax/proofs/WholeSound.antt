-- What the fuelled parsers find is so by the grammar: types, bound names, patterns, and the tools for it.
use Rattle.std.proofs.Common.{◌≡◌, ℕ, zero, suc, ◌^◌, Bool, true, false, List, [], ◌∷◌, refl, ap, subst, inl, inr}
use Rattle.std.specs.Prelude.{Option, Some, None, if◌then◌else◌, ◌==◌, nat_lt}
use Rattle.std.proofs.lemmas.Bool.{eqb-true}
use Rattle.ev_syntax.specs.Marks.{int_word, bool_set_word, param_sign, pow_word, product_sign, oftype_word, maps_to_sign, open_paren, close_paren, comma}
use Rattle.ev_syntax.specs.Tokens.{Token, name, number, mark}
use Rattle.ev_syntax.specs.Raw.{RawType, RawTypes, int_type, bool_type, param_type, named_type, pow_type, prod_type, no_types, one_type, Binder, Pattern, bound, pair}
use Rattle.ev_syntax.specs.Grammar.{Front, ◌then◌, ReadsType, ReadsMoreTypes, ReadsBinder, ReadsMoreBinders, ReadsBinders, ReadsPattern}
use Rattle.ev_syntax.proofs.Eventually.{Found, on_found}
use Rattle.ev_syntax.proofs.TypesRead.{begins, expect, param_at, type_atom, more_factors, more_types, parse_type, an_atom, a_type}
use Rattle.ev_syntax.proofs.BindersRead.{listed, parse_binder, parse_binders}
use Rattle.ev_syntax.proofs.PatternsRead.{pattern_atom, more_pairs, parse_pattern, a_pattern}
use Rattle.ev_syntax.proofs.Wrapping.{below, paren_type, paren_pattern}

-- of what is found
abbrev pub Holds : {X : Type 0} → (X → Type 0) → Option X → Type 0
Holds Q None = Unit {0}
Holds Q (Some x) = Q x

pub holds_found : {A X : Type 0} (Q : X → Type 0) (P : Found A → Type 0) (o : Option (Found A)) (go : A → List Token → Option X) → Holds P o
    → ((a : A) (rest : List Token) → P (a, rest) → Holds Q (go a rest)) → Holds Q (on_found o go)
holds_found Q P None go h f = tt
holds_found Q P (Some x) go h f = f x.0 x.1 h

pub holds_expect : {X : Type 0} (Q : X → Type 0) (m : ℕ) (ts : List Token) (go : List Token → Option X) → ((us : List Token) → ts ≡ mark m ∷ us → Holds Q (go us)) → Holds Q (expect m ts go)
holds_expect Q m [] go f = tt
holds_expect Q m (name n ∷ ts) go f = tt
holds_expect Q m (number n ∷ ts) go f = tt
holds_expect Q m (mark k ∷ ts) go f = at (k == m) refl
  where
    at : (b : Bool) → (k == m) ≡ b → Holds Q (if b then go ts else None)
    at true e = f ts (ap (λ i. mark i ∷ ts) (eqb-true k m e))
    at false e = tt

pub holds_if : {X : Type 0} (Q : X → Type 0) (b : Bool) (x y : Option X) → (b ≡ true → Holds Q x) → (b ≡ false → Holds Q y) → Holds Q (if b then x else y)
holds_if Q true x y f g = f refl
holds_if Q false x y f g = g refl

-- lists with commas
pub listed_sound : {A B : Type 0} (nil : B) (cons : A → B → B) (R : A → Front) (S : B → Front) → ((ts : List Token) → S nil ts ts)
    → ((a : A) (b : B) (ts us vs rest : List Token) → ts ≡ mark comma ∷ us → R a us vs → S b vs rest → S (cons a b) ts rest)
    → (n : ℕ) (read : List Token → Option (Found A)) → ((ts : List Token) → Holds (λ (x : Found A). R x.0 ts x.1) (read ts))
    → (ts : List Token) → Holds (λ (x : Found B). S x.0 ts x.1) (listed nil cons n read ts)
listed_sound {A} {B} nil cons R S s_nil s_cons zero read r ts = s_nil ts
listed_sound {A} {B} nil cons R S s_nil s_cons (suc n) read r ts =
    holds_if Q (begins comma ts) _ _ (λ t. holds_expect Q comma ts _ (λ us e.
    holds_found Q (λ (x : Found A). R x.0 us x.1) (read us) _ (r us) (λ a vs h.
    holds_found Q (λ (x : Found B). S x.0 vs x.1) (listed nil cons n read vs) _ (listed_sound nil cons R S s_nil s_cons n read r vs) (λ b rest i. s_cons a b ts us vs rest e h i)))) (λ t. s_nil ts)
  where
    Q : Found B → Type 0
    Q x = S x.0 ts x.1

-- types
abbrev pub TypeIs : Bool → List Token → Found RawType → Type 0
TypeIs flag ts x = ReadsType x.0 flag ts x.1

abbrev pub TypesAre : List Token → Found RawTypes → Type 0
TypesAre ts x = ReadsMoreTypes x.0 ts x.1

type_looser : (a : RawType) (ts rest : List Token) → ReadsType a false ts rest → ReadsType a true ts rest
type_looser int_type ts rest h = h
type_looser bool_type ts rest h = h
type_looser (param_type i) ts rest h = h
type_looser (named_type n no_types) ts rest h = h
type_looser (named_type n (one_type a types)) ts rest h = h
type_looser (pow_type a) ts rest h = h
type_looser (prod_type a b) ts rest (inl h) = let clash : false ≡ true = h.0 in cc
type_looser (prod_type a b) ts rest (inr h) = inr h

more_types_sound : (n : ℕ) (read : List Token → Option (Found RawType)) → ((ts : List Token) → Holds (TypeIs true ts) (read ts)) → (ts : List Token) → Holds (TypesAre ts) (more_types n read ts)
more_types_sound zero read r ts = refl
more_types_sound (suc n) read r ts =
    holds_if (TypesAre ts) (begins comma ts) _ _ (λ t. holds_expect (TypesAre ts) comma ts _ (λ us e.
    holds_found (TypesAre ts) (TypeIs true us) (read us) _ (r us) (λ a vs h.
    holds_found (TypesAre ts) (TypesAre vs) (more_types n read vs) _ (more_types_sound n read r vs) (λ types rest i. (us, e, (vs, h, i)))))) (λ t. refl)

more_factors_sound : (n : ℕ) (read : List Token → Option (Found RawType)) → ((ts : List Token) → Holds (TypeIs false ts) (read ts)) → (a : RawType) (start ts : List Token) → ReadsType a true start ts
    → Holds (TypeIs true start) (more_factors n read a ts)
more_factors_sound zero read r a start ts h = h
more_factors_sound (suc n) read r a start ts h =
    holds_if (TypeIs true start) (begins product_sign ts) _ _ (λ t. holds_expect (TypeIs true start) product_sign ts _ (λ us e.
    holds_found (TypeIs true start) (TypeIs false us) (read us) _ (r us) (λ b vs i. more_factors_sound n read r (prod_type a b) start vs (inl (refl, (ts, h, (us, e, i))))))) (λ t. h)

param_sound : (ts us : List Token) → ts ≡ mark param_sign ∷ us → Holds (TypeIs false ts) (param_at us)
param_sound ts [] e = tt
param_sound ts (name n ∷ us) e = tt
param_sound ts (mark m ∷ us) e = tt
param_sound ts (number i ∷ us) e = holds_if (TypeIs false ts) (nat_lt i (2 ^ 32)) _ _ (λ t. inl (below i (2 ^ 32) t, (number i ∷ us, e, refl))) (λ t. tt)

atom_sound : (whole : List Token → Option (Found RawType)) (more : List Token → Option (Found RawTypes)) → ((ts : List Token) → Holds (TypeIs true ts) (whole ts))
    → ((ts : List Token) → Holds (TypesAre ts) (more ts)) → (ts : List Token) → Holds (TypeIs false ts) (type_atom whole more ts)
atom_sound whole more w s [] = tt
atom_sound whole more w s (number n ∷ ts) = tt
atom_sound whole more w s (name n ∷ ts) =
    holds_if Q (begins open_paren ts) _ _ (λ t. holds_expect Q open_paren ts _ (λ us e. holds_found Q (TypeIs true us) (whole us) _ (w us) (λ a vs h.
    holds_found Q (TypesAre vs) (more vs) _ (s vs) (λ types ws i. holds_expect Q close_paren ws _ (λ rest c. inl (ts, refl, (us, e, (vs, h, (ws, i, c)))))))))
    (λ t. inl refl)
  where
    Q : Found RawType → Type 0
    Q = TypeIs false (name n ∷ ts)
atom_sound whole more w s (mark m ∷ ts) =
    holds_if Q (m == int_word) _ _ (λ t. inl (is int_word t)) (λ t.
    holds_if Q (m == bool_set_word) _ _ (λ t. inl (is bool_set_word t)) (λ t.
    holds_if Q (m == param_sign) _ _ (λ t. param_sound (mark m ∷ ts) ts (is param_sign t)) (λ t.
    holds_if Q (m == pow_word) _ _ (λ t. holds_expect Q open_paren ts _ (λ us e. holds_found Q (TypeIs true us) (whole us) _ (w us) (λ a vs h.
    holds_expect Q close_paren vs _ (λ rest c. inl (ts, is pow_word t, (us, e, (vs, h, c))))))) (λ t.
    holds_if Q (m == open_paren) _ _ (λ t. holds_found Q (TypeIs true ts) (whole ts) _ (w ts) (λ a vs h. holds_expect Q close_paren vs _ (λ rest c.
    (paren_type a).wraps false (mark m ∷ ts) ts rest (is open_paren t) (subst (λ xs. ReadsType a true ts xs) c h)))) (λ t. tt)))))
  where
    Q : Found RawType → Type 0
    Q = TypeIs false (mark m ∷ ts)

    is : (k : ℕ) → (m == k) ≡ true → mark m ∷ ts ≡ mark k ∷ ts
    is k t = ap (λ i. mark i ∷ ts) (eqb-true m k t)

mutual
  pub type_is : (f : ℕ) (ts : List Token) → Holds (TypeIs true ts) (parse_type f a_type ts)
  type_is zero ts = tt
  type_is (suc f) ts = holds_found (TypeIs true ts) (TypeIs false ts) (parse_type f an_atom ts) _ (type_atom_is f ts) (λ a us h.
      more_factors_sound f (parse_type f an_atom) (λ ts. type_atom_is f ts) a ts us (type_looser a ts us h))

  type_atom_is : (f : ℕ) (ts : List Token) → Holds (TypeIs false ts) (parse_type f an_atom ts)
  type_atom_is zero ts = tt
  type_atom_is (suc f) ts = atom_sound (parse_type f a_type) (more_types f (parse_type f a_type)) (λ ts. type_is f ts) (λ ts. more_types_sound f (parse_type f a_type) (λ ts. type_is f ts) ts) ts

-- bound names
abbrev pub BinderIs : List Token → Found Binder → Type 0
BinderIs ts x = ReadsBinder x.0 ts x.1

pub binder_is : (f : ℕ) (ts : List Token) → Holds (BinderIs ts) (parse_binder f ts)
binder_is f [] = tt
binder_is f (number n ∷ ts) = tt
binder_is f (mark m ∷ ts) = tt
binder_is f (name n ∷ ts) = holds_if Q (begins oftype_word ts) _ _
    (λ t. holds_expect Q oftype_word ts _ (λ us e. holds_found Q (TypeIs true us) (parse_type f a_type us) _ (type_is f us) (λ a rest h. (ts, refl, (us, e, h)))))
    (λ t. (ts, refl, refl))
  where
    Q : Found Binder → Type 0
    Q = BinderIs (name n ∷ ts)

abbrev pub BindersAre : List Token → Found (List Binder) → Type 0
BindersAre ts x = ReadsBinders x.0 ts x.1

pub binders_are : (f : ℕ) (ts : List Token) → Holds (BindersAre ts) (parse_binders f ts)
binders_are f ts = holds_found (BindersAre ts) (BinderIs ts) (parse_binder f ts) _ (binder_is f ts) (λ b us h.
    holds_found (BindersAre ts) (λ (x : Found (List Binder)). ReadsMoreBinders x.0 us x.1) (listed [] (λ (c : Binder) (cs : List Binder). c ∷ cs) f (parse_binder f) us) _
    (listed_sound [] (λ (c : Binder) (cs : List Binder). c ∷ cs) ReadsBinder ReadsMoreBinders (λ ts. refl) (λ a b ts us vs rest e h i. (us, e, (vs, h, i))) f (parse_binder f) (λ ts. binder_is f ts) us)
    (λ bs rest i. (us, h, i)))

abbrev pattern_word : Rattle.ev_syntax.proofs.PatternsRead.Want
pattern_word = Rattle.ev_syntax.proofs.PatternsRead.Want.an_atom

-- patterns
abbrev pub PatternIs : Bool → List Token → Found Pattern → Type 0
PatternIs flag ts x = ReadsPattern x.0 flag ts x.1

pattern_looser : (x : Pattern) (ts rest : List Token) → ReadsPattern x false ts rest → ReadsPattern x true ts rest
pattern_looser (bound b) ts rest h = h
pattern_looser (pair x y) ts rest (inl h) = let clash : false ≡ true = h.0 in cc
pattern_looser (pair x y) ts rest (inr h) = inr h

more_pairs_sound : (n : ℕ) (read : List Token → Option (Found Pattern)) → ((ts : List Token) → Holds (PatternIs false ts) (read ts)) → (x : Pattern) (start ts : List Token) → ReadsPattern x true start ts
    → Holds (PatternIs true start) (more_pairs n read x ts)
more_pairs_sound zero read r x start ts h = h
more_pairs_sound (suc n) read r x start ts h =
    holds_if (PatternIs true start) (begins maps_to_sign ts) _ _ (λ t. holds_expect (PatternIs true start) maps_to_sign ts _ (λ us e.
    holds_found (PatternIs true start) (PatternIs false us) (read us) _ (r us) (λ y vs i. more_pairs_sound n read r (pair x y) start vs (inl (refl, (ts, h, (us, e, i))))))) (λ t. h)

mutual
  pub pattern_is : (f : ℕ) (ts : List Token) → Holds (PatternIs true ts) (parse_pattern f a_pattern ts)
  pattern_is zero ts = tt
  pattern_is (suc f) ts = holds_found (PatternIs true ts) (PatternIs false ts) (parse_pattern f pattern_word ts) _ (pattern_atom_is f ts) (λ x us h.
      more_pairs_sound f (parse_pattern f pattern_word) (λ ts. pattern_atom_is f ts) x ts us (pattern_looser x ts us h))

  pattern_atom_is : (f : ℕ) (ts : List Token) → Holds (PatternIs false ts) (parse_pattern f pattern_word ts)
  pattern_atom_is zero ts = tt
  pattern_atom_is (suc f) ts = holds_if (PatternIs false ts) (begins open_paren ts) _ _
      (λ t. holds_expect (PatternIs false ts) open_paren ts _ (λ us e. holds_found (PatternIs false ts) (PatternIs true us) (parse_pattern f a_pattern us) _ (pattern_is f us) (λ x vs h.
      holds_expect (PatternIs false ts) close_paren vs _ (λ rest c. (paren_pattern x).wraps false ts us rest e (subst (λ xs. ReadsPattern x true us xs) c h)))))
      (λ t. holds_found (PatternIs false ts) (BinderIs ts) (parse_binder f ts) _ (binder_is f ts) (λ b us h. inl h))
