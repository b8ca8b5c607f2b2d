-- What holds over an environment holds with one more entry.
use Rattle.std.specs.Prelude.{◌≡◌, ◌++◌, List, [], ◌∷◌, Option, Some, None, Contains, refl}
use Rattle.std.proofs.Common.{◌∙◌, subst as transport, append_assoc, arith}
use Rattle.std.proofs.lemmas.List.Elements.{Contains-append_right}
use Rattle.ev_terms.specs.declared.types.Ty.{Ty, Prop}
use Rattle.ev_terms.specs.Term.{Term}
use Rattle.ev_typing.specs.declared.typing.Entry.{Entry}
use Rattle.ev_typing.specs.Env.{Env}
use Rattle.ev_typing.specs.Parts.{IsPartOf}
use Rattle.ev_typing.specs.WellFormed.{IsWellFormed}
use Rattle.ev_typing.proofs.Wholes.{HasAll, whole_has_all, typed_over}
use Rattle.ev_ops.specs.Formulas.{IsFormula, IsOptional}

part_of_all : (whole before env later : Env) → before ++ (env ++ later) ≡ whole → IsPartOf env whole
part_of_all whole before [] later e = tt
part_of_all whole before (d ∷ ds) later e = (
  transport (λ w. Contains w d) e (Contains-append_right before (d ∷ (ds ++ later)) d (0, omega arith, refl)),
  part_of_all whole (before ++ d ∷ []) ds later (append_assoc before (d ∷ []) (ds ++ later) ∙ e),
)

pub part_of_more : (env later : Env) → IsPartOf env (env ++ later)
part_of_more env later = part_of_all (env ++ later) [] env later refl

pub more_has_all : (env : Env) (e : Entry) → IsWellFormed (env ++ e ∷ []) → HasAll env (env ++ e ∷ [])
more_has_all env e w = whole_has_all env (env ++ e ∷ []) (part_of_more env (e ∷ [])) w.distinct

pub formula_over : (e f : Env) → HasAll e f → (C : List Ty) (A : Ty) (t : Term) → IsFormula e C A t → IsFormula f C A t
formula_over e f k C A t h = record { typed = typed_over e f k C t A h.typed; small = h.small }

pub optional_over : (e f : Env) → HasAll e f → (C : List Ty) (o : Option Term) → IsOptional e C o → IsOptional f C o
optional_over e f k C None h = tt
optional_over e f k C (Some t) h = formula_over e f k C Prop t h
