-- What a label means in the scope of a sequent.
use Rattle.std.specs.Prelude.{◌≡◌, ◌-◌, ◌++◌, ◌&&◌, suc, Bool as Boolean, true, false, cond, List, [], ◌∷◌, Option, Some, None, flat_map, find, take, length, bytes_eq, option_map, Contains, refl}
use Rattle.std.specs.Option.{option_or}
use Rattle.std.proofs.Common.{ap, sym, ◌∙◌, subst as transport, append_assoc, arith}
use Rattle.std.proofs.lemmas.List.Folds.{find-append}
use Rattle.ev_typing.specs.Env.{Name}
use Rattle.ev_typing.proofs.Names.{same_name, name_same}
use Rattle.ev_rules.specs.declared.elements.Element.{Element}
use Rattle.ev_proof.specs.declared.steps.Ref.{Ref}
use Rattle.ev_ops.proofs.Basics.{contains_first, contains_more}
use Rattle.ev_replay.specs.declared.scopes.CiteElement.{CiteElement}
use Rattle.ev_replay.specs.Scopes.{is_labelled, is_named}
use Rattle.ev_project.specs.Scopes.{cite_elements}

-- All but the last.
last_length : {X : Type 0} (xs : List X) (x : X) → length (xs ++ x ∷ []) ≡ suc (length xs)
last_length [] x = refl
last_length (y ∷ ys) x = ap suc (last_length ys x)

take_all : {X : Type 0} (xs ys : List X) → take (length xs) (xs ++ ys) ≡ xs
take_all [] ys = refl
take_all (x ∷ xs) ys = ap (λ zs. x ∷ zs) (take_all xs ys)

pub but_last : {X : Type 0} (xs : List X) (x : X) → take (length (xs ++ x ∷ []) - 1) (xs ++ x ∷ []) ≡ xs
but_last xs x =
    let n : length (xs ++ x ∷ []) - 1 ≡ length xs = omega (arith, last_length xs x) in
    ap (λ k. take k (xs ++ x ∷ [])) n ∙ take_all xs (x ∷ [])

-- Elements under the name of their theory.
and_parts : (a b : Boolean) → (a && b) ≡ true → (a ≡ true) × (b ≡ true)
and_parts true b h = (refl, h)
and_parts false b h = cc

pub record IsOwn (ref : Ref) (u : Name) (es : List Element) (e : Element) : Type 0 where
  pub theory : ref.theory ≡ u
  pub found : find (is_labelled ref.label) es ≡ Some e

pub found_own : (ref : Ref) (u : Name) (es : List Element) (c : CiteElement) → find (is_named ref) (cite_elements u es) ≡ Some c → IsOwn ref u es c.element
found_own ref u [] c h = cc
found_own ref u (x ∷ es) c h = by (bytes_eq ref.theory u) (is_labelled ref.label x) refl refl h (found_own ref u es c)
  where
    here : bytes_eq ref.theory u ≡ true → is_labelled ref.label x ≡ true → record { theory = u; element = x } ≡ c → IsOwn ref u (x ∷ es) c.element
    here m l q = record {
      theory = same_name ref.theory u m;
      found = ap (λ b. cond b (Some x) (find (is_labelled ref.label) es)) l ∙ ap (λ (k : CiteElement). Some k.element) q;
    }

    later : is_labelled ref.label x ≡ false → IsOwn ref u es c.element → IsOwn ref u (x ∷ es) c.element
    later l w = record { theory = w.theory; found = ap (λ b. cond b (Some x) (find (is_labelled ref.label) es)) l ∙ w.found }

    elsewhere : bytes_eq ref.theory u ≡ false → IsOwn ref u es c.element → IsOwn ref u (x ∷ es) c.element
    elsewhere m w = let no : true ≡ false = sym (name_same ref.theory) ∙ ap (bytes_eq ref.theory) w.theory ∙ m in cc

    by : (a b : Boolean) → bytes_eq ref.theory u ≡ a → is_labelled ref.label x ≡ b → cond (a && b) (Some (record { theory = u; element = x })) (find (is_named ref) (cite_elements u es)) ≡ Some c →
        (find (is_named ref) (cite_elements u es) ≡ Some c → IsOwn ref u es c.element) → IsOwn ref u (x ∷ es) c.element
    by true true m l g k = here m l (let i : record { theory = u; element = x } ≡ c = cc in i)
    by true false m l g k = later l (k g)
    by false true m l g k = elsewhere m (k g)
    by false false m l g k = elsewhere m (k g)

-- in one of several theories, or behind them
pub data FoundIn (ref : Ref) (E : Name → List Element) (us : List Name) (rest : List CiteElement) (c : CiteElement) : Type 0 where
  in_one : (u : Name) → Contains us u → IsOwn ref u (E u) c.element → FoundIn ref E us rest c
  in_rest : find (is_named ref) rest ≡ Some c → FoundIn ref E us rest c

found_in : (ref : Ref) (E : Name → List Element) (us : List Name) (rest : List CiteElement) (c : CiteElement) → find (is_named ref) (flat_map (λ u. cite_elements u (E u)) us ++ rest) ≡ Some c → FoundIn ref E us rest c
found_in ref E [] rest c h = in_rest h
found_in ref E (u ∷ us) rest c h =
    by (find (is_named ref) (cite_elements u (E u))) refl
    (sym (find-append (is_named ref) (cite_elements u (E u)) (flat_map (λ x. cite_elements x (E x)) us ++ rest)) ∙ ap (find (is_named ref)) (sym (append_assoc (cite_elements u (E u)) (flat_map (λ x. cite_elements x (E x)) us) rest)) ∙ h)
    (found_in ref E us rest c)
  where
    wider : FoundIn ref E us rest c → FoundIn ref E (u ∷ us) rest c
    wider (in_one v m w) = in_one v (contains_more v u us m) w
    wider (in_rest q) = in_rest q

    by : (o : Option CiteElement) → find (is_named ref) (cite_elements u (E u)) ≡ o → option_or o (find (is_named ref) (flat_map (λ x. cite_elements x (E x)) us ++ rest)) ≡ Some c →
        (find (is_named ref) (flat_map (λ x. cite_elements x (E x)) us ++ rest) ≡ Some c → FoundIn ref E us rest c) → FoundIn ref E (u ∷ us) rest c
    by None q g k = wider (k g)
    by (Some d) q g k = in_one u (contains_first u us) (found_own ref u (E u) c (q ∙ g))

-- A label means an element of a theory that is reached, or one before the sequent's own.
pub data CitedFrom (ref : Ref) (E : Name → List Element) (us : List Name) (n : Name) (before : List Element) (e : Element) : Type 0 where
  reached : (u : Name) → Contains us u → IsOwn ref u (E u) e → CitedFrom ref E us n before e
  earlier : IsOwn ref n before e → CitedFrom ref E us n before e

pub cited_from : (ref : Ref) (E : Name → List Element) (us : List Name) (n : Name) (before : List Element) (e : Element) →
    option_map (λ (c : CiteElement). c.element) (find (is_named ref) (flat_map (λ u. cite_elements u (E u)) us ++ cite_elements n before)) ≡ Some e → CitedFrom ref E us n before e
cited_from ref E us n before e h = by (find (is_named ref) (flat_map (λ u. cite_elements u (E u)) us ++ cite_elements n before)) refl h
  where
    from : (c : CiteElement) → c.element ≡ e → FoundIn ref E us (cite_elements n before) c → CitedFrom ref E us n before e
    from c i (in_one u m w) = reached u m (transport (IsOwn ref u (E u)) i w)
    from c i (in_rest q) = earlier (transport (IsOwn ref n before) i (found_own ref n before c q))

    by : (o : Option CiteElement) → find (is_named ref) (flat_map (λ u. cite_elements u (E u)) us ++ cite_elements n before) ≡ o → option_map (λ (c : CiteElement). c.element) o ≡ Some e → CitedFrom ref E us n before e
    by None q g = cc
    by (Some c) q g = from c (let i : c.element ≡ e = cc in i) (found_in ref E us (cite_elements n before) c q)
