-- What a step cites: elements of the scope, closed formulas at types and terms, rules under an instance.
use Rattle.std.specs.Prelude.{◌≡◌, ◌≢◌, ◌⊎◌, ℕ, zero, suc, List, [], ◌∷◌, Option, Some, length, option_map}
use Rattle.std.specs.Option.{option_and_then}
use Rattle.ev_terms.specs.declared.types.Ty.{Ty}
use Rattle.ev_terms.specs.Term.{Term, terms}
use Rattle.ev_terms.specs.Substitution.{fill, retype}
use Rattle.ev_proof.specs.declared.steps.Cite.{Cite}
use Rattle.ev_replay.specs.declared.scopes.Scope.{Scope}
use Rattle.ev_typing.specs.Typing.{AreTyped}
use Rattle.ev_data.specs.Induction.{forall_parts}
use Rattle.ev_rewrite.specs.Instances.{assigned, put, put_types, IsMatch}
use Rattle.ev_replay.specs.Reading.{ReadEach, ReadTypes}

-- a quantifier's type before those of the quantifiers inside it
abbrev pub with_outer : Ty → List Ty × Term → List Ty × Term
with_outer A l = (A ∷ l.0, l.1)

-- the types of the n leading `!` of a formula, the first outermost, with the rest
abbrev pub leading : ℕ → Term → Option (List Ty × Term)
leading zero P = Some ([], P)
leading (suc n) P = option_and_then (λ (q : Ty × Term). option_map (with_outer q.0) (leading n q.1)) (forall_parts P)

module _ (cs : Scope) where
  -- the closed formula P with exactly its types put in is F, and F with as many leading `!` taken off as there are terms,
  -- and the terms put for their variables, is G
  pub record IsCitation (C : List Ty) (ids : List ℕ) (P : Term) (cite : Cite) (F G : Term) : Type 0 where
    pub As : List Ty
    pub types_read : ReadTypes cs.env cs.params cite.types As
    pub types_counted : length As ≡ length ids
    pub formula_is : F ≡ retype (assigned ids As) P
    pub Bs : List Ty
    pub body : Term
    pub taken_off : leading (length cite.terms) F ≡ Some (Bs, body)
    pub ts : List Term
    pub terms_read : ReadEach cs.env cs.params C Bs cite.terms ts
    pub goal_is : G ≡ fill body ts

  -- the types and terms that a cite part gives
  pub record IsGiven (C : List Ty) (ids : List ℕ) (variables : List Ty) (cite : Cite) (As : List Ty) (ts : List Term) : Type 0 where
    pub part : (cite.types ≢ []) ⊎ (cite.terms ≢ [])
    pub types_read : ReadTypes cs.env cs.params cite.types As
    pub types_counted : length As ≡ length ids
    pub terms_read : ReadEach cs.env cs.params C (put_types ids As variables) cite.terms ts

  -- a rule's pattern under the types and terms is t, in the context C: without any cite part they are found by matching,
  -- with one they are given; each term has its variable's type
  pub record IsRuleInstance (C : List Ty) (ids : List ℕ) (variables : List Ty) (pattern : Term) (cite : Cite) (As : List Ty) (ts : List Term) (t : Term) : Type 0 where
    pub found : (cite.types ≡ []) × (cite.terms ≡ []) × IsMatch ids (length variables) pattern As ts t ⊎ IsGiven C ids variables cite As ts
    pub is_instance : put ids As ts pattern ≡ t
    pub typed : AreTyped cs.env C (terms ts) (put_types ids As variables)
