-- What each symbol of the table of base symbols asks, by its row from 0. After Métayer and Voisin, The Event-B Mathematical Language.
use Rattle.std.specs.Prelude.{ℕ, ◌==◌, ◌||◌, List, [], ◌∷◌, if◌then◌else◌}
use Rattle.ev_terms.specs.declared.types.Ty.{Ty, Int}
use Rattle.ev_terms.specs.declared.types.Tys.{Tys}
use Rattle.ev_terms.specs.Types.{pow, prod}
use Rattle.ev_terms.specs.Term.{Term, var, lit}
use Rattle.ev_terms.specs.Substitution.{shift, type_at}
use Rattle.ev_forms.specs.Forms.{neg, imp, forall, exists, eq, mem, less, at_most, finite, whole, empty, domain, partial_functions}
use Rattle.ev_wd.specs.Rows.{and_row, or_row, implies_row, for_all_row, for_some_row, over_row, mod_row, power_row, set_row, big_inter_row, apply_row, card_row, min_row, max_row}
use Rattle.ev_wd.specs.declared.rows.Rule.{Rule}
use Rattle.ev_wd.specs.declared.rows.Rule.TheVariants.{Both, Either, Bound, Children}
use Rattle.ev_wd.specs.declared.rows.Demand.{Demand}
use Rattle.ev_wd.specs.declared.rows.Demand.TheVariants.{Nothing, Application, Quotient, Remainder, Power, Cardinality, Intersection, Minimum, Maximum}

-- what is asked beside the conditions of the children
abbrev pub demand_of : ℕ → Demand
demand_of k =
    if k == apply_row then Application
    else (if k == over_row then Quotient
    else (if k == mod_row then Remainder
    else (if k == power_row then Power
    else (if k == card_row then Cardinality
    else (if k == big_inter_row then Intersection
    else (if k == min_row then Minimum
    else (if k == max_row then Maximum else Nothing)))))))

-- how the conditions of the children come together
abbrev pub rule_of : ℕ → Rule
rule_of k =
    if k == and_row || k == implies_row then Both
    else (if k == or_row then Either
    else (if (k == for_all_row || k == for_some_row) || k == set_row then Bound else Children (demand_of k)))

-- `not S = {}`, for a set of members of the type
abbrev pub is_not_empty : Ty → Term → Term
is_not_empty A S = neg (eq (pow A) S (empty A))

-- `#k. !m. m : S => P`, where k is the variable 1 of P and m the variable 0
abbrev pub is_bounded : Term → Term → Term
is_bounded P S = exists Int (forall Int (imp (mem Int (var 0) (shift S 0 2)) P))

-- `#k. !m. m : S => k <= m`, and `#k. !m. m : S => m <= k`
abbrev pub is_bounded_below : Term → Term
is_bounded_below S = is_bounded (at_most (var 1) (var 0)) S

abbrev pub is_bounded_above : Term → Term
is_bounded_above S = is_bounded (at_most (var 0) (var 1)) S

-- `x : dom(f)`, and `f : TYPE(A) +-> TYPE(B)`
abbrev pub is_in_domain : Ty → Ty → Term → Term → Term
is_in_domain A B f x = mem A x (domain A B f)

abbrev pub is_partial_function : Ty → Ty → Term → Term
is_partial_function A B f = mem (pow (prod A B)) f (partial_functions A B (whole A) (whole B))

-- of a symbol with the one child S
abbrev pub parts_of_one : Demand → Tys → Term → List Term
parts_of_one Cardinality As S = finite (type_at As 0) S ∷ []
parts_of_one Intersection As S = is_not_empty (pow (type_at As 0)) S ∷ []
parts_of_one Minimum As S = is_not_empty Int S ∷ is_bounded_below S ∷ []
parts_of_one Maximum As S = is_not_empty Int S ∷ is_bounded_above S ∷ []
parts_of_one _ As S = []

-- of a symbol with the children E and F
abbrev pub parts_of_two : Demand → Tys → Term → Term → List Term
parts_of_two Application As E F = is_in_domain (type_at As 0) (type_at As 1) E F ∷ is_partial_function (type_at As 0) (type_at As 1) E ∷ []
parts_of_two Quotient As E F = neg (eq Int F (lit 0)) ∷ []
parts_of_two Remainder As E F = at_most (lit 0) E ∷ less (lit 0) F ∷ []
parts_of_two Power As E F = at_most (lit 0) E ∷ at_most (lit 0) F ∷ []
parts_of_two _ As E F = []

abbrev pub parts_of : Demand → Tys → List Term → List Term
parts_of a As (S ∷ []) = parts_of_one a As S
parts_of a As (E ∷ F ∷ []) = parts_of_two a As E F
parts_of a As ts = []
