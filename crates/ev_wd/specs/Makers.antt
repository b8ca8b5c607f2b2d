-- The connectives and the quantifier by which conditions are put together: `true` as a part and a quantifier over a variable that does
-- not occur are dropped as the condition is made.
use Rattle.std.specs.Prelude.{pred, ◌||◌, List, fold, if◌then◌else◌}
use Rattle.ev_terms.specs.declared.types.Ty.{Ty}
use Rattle.ev_terms.specs.Term.{Term, var}
use Rattle.ev_terms.specs.Substitution.{inst}
use Rattle.ev_typing.specs.Occurs.{has_var}
use Rattle.ev_forms.specs.Forms.{truth, is_truth, conj, disj, imp, forall}

-- `P & Q`
abbrev pub make_and : Term → Term → Term
make_and P Q = if is_truth P then Q else (if is_truth Q then P else conj P Q)

-- `P => Q`
abbrev pub make_imp : Term → Term → Term
make_imp P Q = if is_truth Q then truth else (if is_truth P then Q else imp P Q)

-- `P or Q`
abbrev pub make_or : Term → Term → Term
make_or P Q = if is_truth P || is_truth Q then truth else disj P Q

-- every variable falls by one; for a term in which the variable 0 does not occur
abbrev pub lowered : Term → Term
lowered t = inst (λ i. var (pred i)) t

-- `!x. P`, for x of the type
abbrev pub make_all : Ty → Term → Term
make_all A P = if has_var 0 P then forall A P else lowered P

-- all of them, from the left, behind a first one
abbrev pub joined_after : Term → List Term → Term
joined_after P Qs = fold make_and P Qs

abbrev pub joined : List Term → Term
joined Ps = joined_after truth Ps
