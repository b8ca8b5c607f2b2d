-- What the reader of raw trees needs.
use Rattle.std.specs.Prelude.{◌≡◌, ℕ, zero, suc, ◌+◌, ◌-◌, ◌<◌, ◌≤◌, take, drop, List, [], ◌∷◌, ◌++◌, length, Option, Some, None, option_map, option_and_then, refl}
use Rattle.std.proofs.Common.{ap, sym, ◌∙◌, arith, get_or}
use Rattle.std.proofs.lemmas.List.{take_all}
use denote.Ref.{Bor}
use Rattle.ev_syntax.specs.Raw.{Binder, Raw, Raws, word, literal, param, type_set, call, around, unary, binary, inverse, apply, image, of_type, quantified, set_of, collected, lambda, members, written, none, one}
use Rattle.ev_syntax.specs.inner.RawView.{raws}
use Rattle.ev_resolve.specs.Reading.{Known, Variable, Meaning, meaning, both, count_of}
use Rattle.ev_resolve.specs.Bare.{Bare, Bares, bare_none, bare_more}
use Rattle.ev_resolve.specs.inner.BareView.{bares}
use Rattle.ev_resolve.specs.Resolve.{call_bare, resolve, resolve_all}
use Rattle.ev_resolve.specs.declared.bound.Inner.{Inner}
use Rattle.ev_resolve.specs.declared.bound.Inner.TheVariants.{Body, Collected, Lambda}
use Rattle.ev_resolve.specs.inner.Inners.{binders_told}
use Rattle.ev_resolve.specs.inner.Scopes.{scope_of}
use Rattle.ev_resolve.specs.declared.scope.ScopeVariable.{ScopeVariable}
use Rattle.ev_resolve.proofs.NameSteps.{scope_more}

-- what falls as a raw tree is taken apart
abbrev mutual
  pub weight : Raw → ℕ
  weight (word m) = 1
  weight (literal n) = 1
  weight (param i) = 1
  weight (type_set a) = 1
  weight (call n es) = 8 + weights es
  weight (around m e) = 8 + weight e
  weight (unary m e) = 8 + weight e
  weight (binary m e f) = 8 + (weight e + weight f)
  weight (inverse e) = 8 + weight e
  weight (apply e f) = 8 + (weight e + weight f)
  weight (image e f) = 8 + (weight e + weight f)
  weight (of_type e a) = 8 + weight e
  weight (quantified m bs e) = 20 + weight e
  weight (set_of b e) = 20 + weight e
  weight (collected m bs e f) = 20 + (weight e + weight f)
  weight (lambda x e f) = 20 + (weight e + weight f)
  weight (members es) = 8 + weights es
  weight (written a) = 1

  pub weights : Raws → ℕ
  weights none = 0
  weights (one e es) = 4 + (weight e + weights es)

abbrev pub inner_weight : Inner → ℕ
inner_weight (Body e) = 1 + weight e.now
inner_weight (Collected e f n) = 2 + (weight e.now + weight f.now)
inner_weight (Lambda x e f n) = 2 + (weight e.now + weight f.now)

pub weight_at : (es : List Raw) (i : ℕ) (e : Raw) → e ≡ get_or es i e → i < length es → weight e < weights (raws es)
weight_at [] i e q lt = absurd (omega (arith, lt))
weight_at (f ∷ es) zero e q lt = let same : weight e ≡ weight f = ap weight q in omega (arith, same)
weight_at (f ∷ es) (suc i) e q lt = omega (arith, weight_at es i e q (omega (arith, lt)))

pub told_length : (bs : List (Bor Binder)) → length (binders_told bs) ≡ length bs
told_length [] = refl
told_length (b ∷ bs) = ap suc (told_length bs)

-- raw trees that are counted
pub counted : (es : List Raw) → count_of (raws es) ≡ length es
counted [] = refl
counted (e ∷ es) = omega (arith, counted es)

-- bare terms in front of others
abbrev pub before : List Bare → Bares → Bares
before [] cs = cs
before (b ∷ bs) cs = bare_more b (before bs cs)

pub before_nothing : (bs : List Bare) → before bs bare_none ≡ bares bs
before_nothing [] = refl
before_nothing (b ∷ bs) = ap (bare_more b) (before_nothing bs)

before_last : (bs : List Bare) (b : Bare) (cs : Bares) → before bs (bare_more b cs) ≡ before (bs ++ b ∷ []) cs
before_last [] b cs = refl
before_last (c ∷ bs) b cs = ap (bare_more c) (before_last bs b cs)

module _ (params : List (List ℕ)) (known : Known) (vars : List Variable) where
  -- the terms so far, and those of the rest
  abbrev pub with_rest : List Bare → List Raw → Option Bares
  with_rest bs es = option_map (before bs) (resolve_all params known (raws es) vars)

  pub rest_found : (bs : List Bare) (e : Raw) (es : List Raw) (b : Bare) → resolve params known e vars ≡ Some b → with_rest bs (e ∷ es) ≡ with_rest (bs ++ b ∷ []) es
  rest_found bs e es b h = ap (λ o. option_map (before bs) (both bare_more o (resolve_all params known (raws es) vars))) h ∙ by (resolve_all params known (raws es) vars)
    where
      by : (o : Option Bares) → option_map (before bs) (both bare_more (Some b) o) ≡ option_map (before (bs ++ b ∷ [])) o
      by None = refl
      by (Some cs) = ap Some (before_last bs b cs)

  pub rest_missing : (bs : List Bare) (e : Raw) (es : List Raw) → resolve params known e vars ≡ None → with_rest bs (e ∷ es) ≡ None
  rest_missing bs e es h = ap (λ o. option_map (before bs) (both bare_more o (resolve_all params known (raws es) vars))) h

-- a list by its first item
pub first_raw : (es : List Raw) (e : Raw) → 1 ≤ length es → e ≡ get_or es 0 e → raws es ≡ one e (raws (take (length es - 1) (drop 1 es)))
first_raw [] e lt q = absurd (omega (arith, lt))
first_raw (f ∷ es) e lt q = ap (λ x. one x (raws es)) (sym q) ∙ ap (λ xs. one e (raws xs)) (sym (take_all (length (f ∷ es) - 1) es (omega arith)))

-- a name with its arguments
pub call_found : (params : List (List ℕ)) (known : Known) (vars : List Variable) (n : List ℕ) (es : List Raw) (m : Meaning) (k : ℕ) (bs : Bares)
    → m ≡ meaning params known n vars 0 → k ≡ length es → Some bs ≡ resolve_all params known (raws es) vars
    → call_bare m n k bs ≡ resolve params known (call n (raws es)) vars
call_found params known vars n es m k bs e f g =
    ap (λ x. call_bare x n k bs) e ∙ ap (λ x. call_bare (meaning params known n vars 0) n x bs) (f ∙ sym (counted es))
    ∙ ap (option_and_then (call_bare (meaning params known n vars 0) n (count_of (raws es)))) g

-- what is told of something that is there, or not
pub told_some : {X Y : Type 0} (f : X → Y) (o : Option X) (x : X) (p : Option Y) → option_map f o ≡ p → o ≡ Some x → p ≡ Some (f x)
told_some f o x p e q = sym e ∙ ap (option_map f) q

pub told_none : {X Y : Type 0} (f : X → Y) (o : Option X) (p : Option Y) → option_map f o ≡ p → o ≡ None → p ≡ None
told_none f o p e q = sym e ∙ ap (option_map f) q

-- a list of one item or more by its last
last_of : {X : Type 0} (x : X) (xs : List X) → (v : X) × (x ∷ xs ≡ take (length xs) (x ∷ xs) ++ v ∷ [])
last_of x [] = (x, refl)
last_of x (y ∷ ys) = let (v, e) = last_of y ys in (v, ap (λ l. x ∷ l) e)

-- the innermost variable taken away again
pub popped : (old pushed left now : List ScopeVariable) (w : Variable) (ws : List Variable) → now ≡ take (length left - 1) left → left ≡ pushed → scope_of pushed ≡ w ∷ ws
    → ((v : ScopeVariable) → (us : List ScopeVariable) → pushed ≡ us ++ v ∷ [] → us ≡ old) → now ≡ old
popped old [] left now w ws e k h back = let n : [] ≡ w ∷ ws = h in cc
popped old (x ∷ xs) left now w ws e k h back =
    let (v, q) = last_of x xs in
    let n : length (x ∷ xs) - 1 ≡ length xs = omega arith in
    e ∙ ap (λ l. take (length l - 1) l) k ∙ ap (λ m. take m (x ∷ xs)) n ∙ back v (take (length xs) (x ∷ xs)) q

pub ruleset walk = (weight_at, told_length, counted, scope_more, before_nothing, first_raw)
