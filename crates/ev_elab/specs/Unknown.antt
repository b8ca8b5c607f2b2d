-- Names of an element that are not in scope.
use Rattle.std.specs.Prelude.{◌||◌, ◌&&◌, ℕ, Bool as Boolean, false, not, nat_le, List, length}
use Rattle.std.specs.List.{list_any}
use Rattle.ev_theory_text.specs.declared.forms.RawCase.{RawCase}
use Rattle.ev_theory_text.specs.declared.forms.RawBody.{RawBody}
use Rattle.ev_theory_text.specs.declared.forms.RawBody.TheVariants.{Direct, Recursive}
use Rattle.ev_theory_text.specs.declared.forms.ElementForm.{ElementForm}
use Rattle.ev_theory_text.specs.declared.forms.ElementForm.TheVariants.{Datatype, Operator}
use Rattle.ev_typing.specs.Env.{Env, Name}
use Rattle.ev_resolve.specs.UsedNames.{is_formula_name, is_name_among, type_names, type_params, used_names, used_params}
use Rattle.ev_resolve.specs.Resolve.{known_of}
use Rattle.ev_elab.specs.Parts.{WrittenType, WrittenFormula, arg_names, written_types, written_formulas}

-- a type parameter, a datatype, or a symbol of the environment
abbrev pub is_known : List Name → Env → Name → Boolean
is_known params env n = is_formula_name params (known_of env) n

abbrev pub is_unknown : List Name → Env → Name → Boolean
is_unknown params env n = not (is_known params env n)

-- none of so many type parameters has the number
abbrev pub is_no_number : ℕ → ℕ → Boolean
is_no_number count i = nat_le count i

-- the theory has no parameter of this number so far
abbrev pub is_no_param : List Name → ℕ → Boolean
is_no_param params i = is_no_number (length params) i

abbrev pub type_unknown : List Name → WrittenType → Boolean
type_unknown params w = list_any (is_unknown params w.type_env) (type_names w.type) || list_any (is_no_param params) (type_params w.type)

abbrev pub formula_unknown : List Name → WrittenFormula → Boolean
formula_unknown params w = list_any (is_unknown params w.formula_env) (used_names w.formula w.bound) || list_any (is_no_param params) (used_params w.formula)

-- behind BY stands an argument or a name in scope, and behind CASE a name in scope
abbrev pub body_unknown : List Name → Env → List Name → RawBody → Boolean
body_unknown params env args (Direct e) = false
body_unknown params env args (Recursive by cases) =
    (not (is_name_among args by) && is_unknown params env by) || list_any (λ (c : RawCase). is_unknown params env c.con) cases

-- what stands in a datatype's list, or behind BY and CASE
abbrev pub others_unknown : List Name → Env → ElementForm → Boolean
others_unknown params env (Datatype n listed cons) = list_any (is_unknown params env) listed
others_unknown params env (Operator h c body) = body_unknown params env (arg_names h.args) body
others_unknown params env _ = false

-- the element uses a name that is not in scope, over the theory's type parameters so far and an environment
abbrev pub element_unknown : List Name → Env → ElementForm → Boolean
element_unknown params env form =
    list_any (type_unknown params) (written_types env form)
    || (list_any (formula_unknown params) (written_formulas env form) || others_unknown params env form)
