-- How the table of a scope follows its variables.
use Rattle.std.specs.Prelude.{◌≡◌, ◌≢◌, ◌||◌, ℕ, zero, suc, ◌+◌, ◌-◌, ◌<◌, Bool as Boolean, true, false, if◌then◌else◌, List, [], ◌∷◌, ◌++◌, map, reverse, take, length, bytes_eq, is_some, Option, Some, None, refl}
use Rattle.std.specs.List.{list_any}
use Rattle.std.specs.HashMap.{HashMap, get}
use Rattle.std.proofs.Common.{ap, sym, ◌∙◌, subst, arith, get_or}
use Rattle.std.proofs.lemmas.List.{reverse-append, reverse-reverse, map-append, length-reverse, length-append}
use Rattle.std.proofs.lemmas.List.Folds.{list_any-append}
use Rattle.ev_typing.proofs.Names.{same_name, name_same}
use Rattle.ev_resolve.specs.Reading.{Known, Variable, variable_of, option_is, meaning, formula_meaning}
use Rattle.ev_resolve.specs.UsedNames.{is_name_among, name_list, variable_names}
use Rattle.ev_resolve.specs.declared.scope.ScopeVariable.{ScopeVariable}
use Rattle.ev_resolve.specs.declared.scope.Slot.{Slot}
use Rattle.ev_resolve.specs.inner.Scopes.{seen, scope_of}
use Rattle.ev_resolve.specs.inner.Places.{variables_of, place_in, hidden_in, Hides, IsScope}
use Rattle.ev_resolve.proofs.Declared.{flip}

pub slots_more : (slots : List Slot) (s : Slot) → reverse (slots ++ s ∷ []) ≡ s ∷ reverse slots
slots_more slots s = reverse-append slots (s ∷ [])

map_reverse : {X Y : Type 0} (f : X → Y) (xs : List X) → reverse (map f xs) ≡ map f (reverse xs)
map_reverse f [] = refl
map_reverse f (x ∷ xs) =
    reverse-append (f x ∷ []) (map f xs) ∙ ap (λ ys. ys ++ f x ∷ []) (map_reverse f xs)
    ∙ sym (ap (map f) (reverse-append (x ∷ []) xs) ∙ map-append f (reverse xs) (x ∷ []))

abbrev seen_slot : Slot → Variable
seen_slot s = seen s.variable

map_twice : (ss : List Slot) → map seen (variables_of ss) ≡ map seen_slot ss
map_twice [] = refl
map_twice (s ∷ ss) = ap (λ vs. seen s.variable ∷ vs) (map_twice ss)

pub scope_told : (slots : List Slot) → scope_of (variables_of slots) ≡ map seen_slot (reverse slots)
scope_told slots = ap reverse (map_twice slots) ∙ map_reverse seen_slot slots

module _ {S : Type 0} (m : HashMap (List ℕ) ℕ S) (slots : List Slot) (h : IsScope m slots) where
  module _ (rest : List Slot) (s : Slot) (e : slots ≡ rest ++ s ∷ []) where
    split : reverse slots ≡ s ∷ reverse rest
    split = ap reverse e ∙ slots_more rest s

    last_hides : Hides (s ∷ reverse rest)
    last_hides = subst Hides split h.hidden

    last_found : (n : List ℕ) → get bytes_eq m n ≡ (if option_is n s.variable.name then Some (length (reverse rest)) else place_in (reverse rest) n)
    last_found n = h.found n ∙ ap (λ ss. place_in ss n) split

    pub named_there : (k : List ℕ) → s.variable.name ≡ Some k → get bytes_eq m k ≢ None
    named_there k named p =
        let q : get bytes_eq m k ≡ Some (length (reverse rest)) =
        last_found k ∙ ap (λ o. if option_is k o then Some (length (reverse rest)) else place_in (reverse rest) k) named
        ∙ ap (λ b. if b then Some (length (reverse rest)) else place_in (reverse rest) k) (name_same k) in
        cc

    pub popped : (m' : HashMap (List ℕ) ℕ S) → ((n : List ℕ) → get bytes_eq m' n ≡ (if option_is n s.variable.name then s.hidden else get bytes_eq m n)) → IsScope m' rest
    popped m' put = record { found = λ n. put n ∙ go n s.variable.name refl; hidden = last_hides.1 }
      where
        by : (n k : List ℕ) → s.variable.name ≡ Some k → (b : Boolean) → bytes_eq k n ≡ b → get bytes_eq m n ≡ (if b then Some (length (reverse rest)) else place_in (reverse rest) n)
            → (if b then s.hidden else get bytes_eq m n) ≡ place_in (reverse rest) n
        by n k named true q h = last_hides.0 ∙ ap (hidden_in (reverse rest)) named ∙ ap (place_in (reverse rest)) (same_name k n q)
        by n k named false q h = h

        go : (n : List ℕ) (o : Option (List ℕ)) → s.variable.name ≡ o → (if option_is n s.variable.name then s.hidden else get bytes_eq m n) ≡ place_in (reverse rest) n
        go n None e =
            ap (λ o. if option_is n o then s.hidden else get bytes_eq m n) e
            ∙ last_found n ∙ ap (λ o. if option_is n o then Some (length (reverse rest)) else place_in (reverse rest) n) e
        go n (Some k) e =
            ap (λ o. if option_is n o then s.hidden else get bytes_eq m n) e
            ∙ by n k e (bytes_eq k n) refl (last_found n ∙ ap (λ o. if option_is n o then Some (length (reverse rest)) else place_in (reverse rest) n) e)

take_front : {X : Type 0} (xs : List X) (x : X) → take (length (xs ++ x ∷ []) - 1) (xs ++ x ∷ []) ≡ xs
take_front [] x = refl
take_front (y ∷ ys) x =
    let less : length (y ∷ (ys ++ x ∷ [])) - 1 ≡ length (ys ++ x ∷ []) = omega arith in
    ap (λ k. take k (y ∷ (ys ++ x ∷ []))) less ∙ front (length (ys ++ x ∷ [])) (length-append ys (x ∷ [])) (take_front ys x)
  where
    front : (n : ℕ) → n ≡ length ys + 1 → take (n - 1) (ys ++ x ∷ []) ≡ ys → take n (y ∷ (ys ++ x ∷ [])) ≡ y ∷ ys
    front zero p h = absurd (omega (arith, p))
    front (suc n) p h = let e : n ≡ suc n - 1 = omega arith in ap (λ l. y ∷ l) (ap (λ k. take k (ys ++ x ∷ [])) e ∙ h)

pub pop_last : (vs : List ScopeVariable) (v : ScopeVariable) → take (length (vs ++ v ∷ []) - 1) (vs ++ v ∷ []) ≡ vs
pop_last vs v = take_front vs v

pub ruleset pops = (pop_last)

-- what a name is
place_within : (ss : List Slot) (n : List ℕ) (i : ℕ) → place_in ss n ≡ Some i → i < length ss
place_within [] n i h = cc
place_within (s ∷ ss) n i h = go (option_is n s.variable.name) h (place_within ss n i)
  where
    go : (b : Boolean) → (if b then Some (length ss) else place_in ss n) ≡ Some i → (place_in ss n ≡ Some i → i < length ss) → i < suc (length ss)
    go true p k = let q : length ss ≡ i = cc in omega (arith, q)
    go false p k = omega (arith, k p)

pub found_within : {S : Type 0} (m : HashMap (List ℕ) ℕ S) (slots : List Slot) → IsScope m slots → (n : List ℕ) (i : ℕ) → Some i ≡ get bytes_eq m n → i < length slots
found_within m slots h n i e = let lt : i < length (reverse slots) = place_within (reverse slots) n i (sym (h.found n) ∙ sym e) in omega (arith, lt, length-reverse slots)

module _ (params : List (List ℕ)) (known : Known) (n : List ℕ) where
  meant_in : (ss : List Slot) (i j : ℕ) (s : Slot) → place_in ss n ≡ Some i → s ≡ get_or (reverse ss) i s
      → variable_of (seen s.variable).type (j + (length ss - 1 - i)) ≡ meaning params known n (map seen_slot ss) j
  meant_in [] i j s h at = cc
  meant_in (t ∷ ss) i j s h at = go (option_is n t.variable.name) refl h (meant_in ss i (j + 1) s)
    where
      found : s ≡ get_or (reverse ss ++ t ∷ []) i s
      found = at ∙ ap (λ l. get_or l i s) (reverse-append (t ∷ []) ss)

      go : (b : Boolean) → option_is n t.variable.name ≡ b → (if b then Some (length ss) else place_in ss n) ≡ Some i
          → (place_in ss n ≡ Some i → s ≡ get_or (reverse ss) i s → variable_of (seen s.variable).type (j + 1 + (length ss - 1 - i)) ≡ meaning params known n (map seen_slot ss) (j + 1))
          → variable_of (seen s.variable).type (j + (length (t ∷ ss) - 1 - i)) ≡ (if option_is n t.variable.name then variable_of (seen t.variable).type j else meaning params known n (map seen_slot ss) (j + 1))
      go true q p inner =
          let last : i ≡ length (reverse ss) = sym (length-reverse ss ∙ cc) in
          let here : s ≡ t = found ∙ ap (λ k. get_or (reverse ss ++ t ∷ []) k s) last ∙ at_end (reverse ss) in
          let none : j + (length (t ∷ ss) - 1 - i) ≡ j = omega (arith, last, length-reverse ss) in
          ap (λ k. variable_of (seen s.variable).type k) none ∙ ap (λ x. variable_of (seen x.variable).type j) here
          ∙ sym (ap (λ b. if b then variable_of (seen t.variable).type j else meaning params known n (map seen_slot ss) (j + 1)) q)
        where
          at_end : (l : List Slot) → get_or (l ++ t ∷ []) (length l) s ≡ t
          at_end [] = refl
          at_end (x ∷ l) = at_end l
      go false q p inner =
          let within : i < length ss = place_within ss n i p in
          let here : s ≡ get_or (reverse ss) i s = found ∙ before (reverse ss) i (omega (arith, within, length-reverse ss)) in
          let one : j + (length (t ∷ ss) - 1 - i) ≡ j + 1 + (length ss - 1 - i) = omega (arith, within) in
          ap (λ k. variable_of (seen s.variable).type k) one ∙ inner p here
          ∙ sym (ap (λ b. if b then variable_of (seen t.variable).type j else meaning params known n (map seen_slot ss) (j + 1)) q)
        where
          before : (l : List Slot) (k : ℕ) → k < length l → get_or (l ++ t ∷ []) k s ≡ get_or l k s
          before [] k lt = absurd (omega (arith, lt))
          before (x ∷ l) zero lt = refl
          before (x ∷ l) (suc k) lt = before l k (omega (arith, lt))

  meant_out : (ss : List Slot) (j : ℕ) → place_in ss n ≡ None → formula_meaning params known n ≡ meaning params known n (map seen_slot ss) j
  meant_out [] j h = refl
  meant_out (t ∷ ss) j h = go (option_is n t.variable.name) h (meant_out ss (j + 1))
    where
      go : (b : Boolean) → (if b then Some (length ss) else place_in ss n) ≡ None
          → (place_in ss n ≡ None → formula_meaning params known n ≡ meaning params known n (map seen_slot ss) (j + 1))
          → formula_meaning params known n ≡ (if b then variable_of (seen t.variable).type j else meaning params known n (map seen_slot ss) (j + 1))
      go true p k = cc
      go false p k = k p

  module _ {S : Type 0} (m : HashMap (List ℕ) ℕ S) (slots : List Slot) (h : IsScope m slots) where
    pub found_meant : (i : ℕ) (s : Slot) → Some i ≡ get bytes_eq m n → s ≡ get_or slots i s
        → variable_of (seen s.variable).type (length slots - 1 - i) ≡ meaning params known n (scope_of (variables_of slots)) 0
    found_meant i s e at =
        let inside : length slots - 1 - i ≡ 0 + (length (reverse slots) - 1 - i) = omega (arith, length-reverse slots) in
        ap (λ k. variable_of (seen s.variable).type k) inside
        ∙ meant_in (reverse slots) i 0 s (sym (h.found n) ∙ sym e) (at ∙ ap (λ l. get_or l i s) (sym (reverse-reverse slots)))
        ∙ sym (ap (λ vs. meaning params known n vs 0) (scope_told slots))

    pub missing_meant : None ≡ get bytes_eq m n → formula_meaning params known n ≡ meaning params known n (scope_of (variables_of slots)) 0
    missing_meant e = meant_out (reverse slots) 0 (sym (h.found n) ∙ sym e) ∙ sym (ap (λ vs. meaning params known n vs 0) (scope_told slots))

named_in : (ss : List Slot) (n : List ℕ) → is_some (place_in ss n) ≡ is_name_among (variable_names (map seen_slot ss)) n
named_in [] n = refl
named_in (s ∷ ss) n = go s.variable.name (named_in ss n) ∙ sym (list_any-append (bytes_eq n) (name_list s.variable.name) (variable_names (map seen_slot ss)))
  where
    go : (o : Option (List ℕ)) → is_some (place_in ss n) ≡ list_any (bytes_eq n) (variable_names (map seen_slot ss))
        → is_some (if option_is n o then Some (length ss) else place_in ss n) ≡ (list_any (bytes_eq n) (name_list o) || list_any (bytes_eq n) (variable_names (map seen_slot ss)))
    go None h = h
    go (Some k) h = by (bytes_eq k n) (flip k n)
      where
        by : (b : Boolean) → b ≡ bytes_eq n k → is_some (if b then Some (length ss) else place_in ss n) ≡ ((bytes_eq n k || false) || list_any (bytes_eq n) (variable_names (map seen_slot ss)))
        by true e = ap (λ c. (c || false) || list_any (bytes_eq n) (variable_names (map seen_slot ss))) e
        by false e = h ∙ ap (λ c. (c || false) || list_any (bytes_eq n) (variable_names (map seen_slot ss))) e

pub named_scope : {S : Type 0} (m : HashMap (List ℕ) ℕ S) (slots : List Slot) (h : IsScope m slots) (n : List ℕ)
    → is_some (get bytes_eq m n) ≡ is_name_among (variable_names (scope_of (variables_of slots))) n
named_scope m slots h n = ap is_some (h.found n) ∙ named_in (reverse slots) n ∙ sym (ap (λ vs. is_name_among (variable_names vs) n) (scope_told slots))
