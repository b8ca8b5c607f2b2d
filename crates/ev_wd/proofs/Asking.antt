-- What a base symbol asks, by the number of its children.
use Rattle.std.proofs.Common.{◌≡◌, ◌≢◌, List, [], ◌∷◌, ap, sym, subst, refl}
use Rattle.ev_terms.specs.declared.types.Tys.{Tys}
use Rattle.ev_terms.specs.Term.{Term}
use Rattle.ev_wd.specs.declared.rows.Demand.{Demand}
use Rattle.ev_wd.specs.Demands.{parts_of, parts_of_one, parts_of_two}
use Rattle.ev_wd.specs.Limits.{IsSmall}
use Rattle.ev_wd.specs.Makers.{make_and, joined_after}
use Rattle.ev_wd.proofs.Making.{and_right}

pub of_one : (a : Demand) (As : Tys) (ts : List Term) (S : Term) → ts ≡ S ∷ [] → parts_of_one a As S ≡ parts_of a As ts
of_one a As ts S e = ap (parts_of a As) (sym e)

pub of_two : (a : Demand) (As : Tys) (ts : List Term) (E F : Term) → ts ≡ E ∷ F ∷ [] → parts_of_two a As E F ≡ parts_of a As ts
of_two a As ts E F e = ap (parts_of a As) (sym e)

pub of_others : (a : Demand) (As : Tys) (ts : List Term) → ((S : Term) → ts ≢ S ∷ []) → ((E F : Term) → ts ≢ E ∷ F ∷ []) → [] ≡ parts_of a As ts
of_others a As [] h g = refl
of_others a As (S ∷ []) h g = absurd (h S refl)
of_others a As (E ∷ F ∷ []) h g = absurd (g E F refl)
of_others a As (E ∷ F ∷ G ∷ ts) h g = refl

-- a refusal for the one child is one for the list of it
pub one_refused : (a : Demand) (As : Tys) (ts : List Term) (S P : Term) → ts ≡ S ∷ [] → ¬ IsSmall (joined_after P (parts_of_one a As S)) → ¬ IsSmall (joined_after P (parts_of a As ts))
one_refused a As ts S P e h g = h (subst (λ us. IsSmall (joined_after P us)) (sym (of_one a As ts S e)) g)

pub ruleset listed = (of_one, of_two, of_others, one_refused)

-- a refusal of the bound is one of the whole
pub bound_refused : (P Q R : Term) → ¬ IsSmall R → ¬ IsSmall (joined_after P (Q ∷ R ∷ []))
bound_refused P Q R h g = h (and_right (make_and P Q) R g)

pub ruleset extremes = (bound_refused)
