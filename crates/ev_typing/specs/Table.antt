-- The rows of the table of base symbols as the code keeps them.
use Rattle.std.specs.Prelude.{ℕ, List, [], ◌∷◌, Bool as Boolean, ◌&&◌, nat_le}
use Rattle.std.specs.List.{list_all}
use Rattle.ev_terms.specs.declared.types.Ty.{Ty, Int, Bool, Prop, Param}
use Rattle.ev_terms.specs.Types.{pow, prod}
use Rattle.ev_terms.specs.Measures.{type_params}
use Rattle.ev_typing.specs.declared.table.Form.{Form}
use Rattle.ev_typing.specs.declared.table.Form.TheVariants as form
use Rattle.ev_typing.specs.declared.table.Children.{Children}
use Rattle.ev_typing.specs.declared.table.Children.TheVariants as children
use Rattle.ev_typing.specs.declared.table.Row.{Row}
use Rattle.ev_typing.specs.Profiles.{Profile}
use Rattle.ev_typing.specs.Proper.{is_result}

abbrev α : Ty
α = Param 0

abbrev β : Ty
β = Param 1

abbrev γ : Ty
γ = Param 2

-- the sets of pairs
abbrev pub relation : Ty → Ty → Ty
relation A B = pow (prod A B)

-- the type that a form stands for
abbrev pub form_type : Form → Ty
form_type form.Prop = Prop
form_type form.Int = Int
form_type form.Bool = Bool
form_type form.A = α
form_type form.B = β
form_type form.Pair = prod α β
form_type form.SetInt = pow Int
form_type form.SetA = pow α
form_type form.SetB = pow β
form_type form.SetSetA = pow (pow α)
form_type form.RelationAB = relation α β
form_type form.RelationBA = relation β α
form_type form.RelationBC = relation β γ
form_type form.RelationAC = relation α γ
form_type form.RelationAA = relation α α
form_type form.SetRelation = pow (relation α β)
form_type form.FirstOf = relation (prod α β) α
form_type form.SecondOf = relation (prod α β) β

-- the types of the children
abbrev pub children_types : Children → List Ty
children_types children.None = []
children_types (children.One f) = form_type f ∷ []
children_types (children.Two f g) = form_type f ∷ form_type g ∷ []

-- the signature that a row stands for
abbrev pub row_profile : Row → Profile
row_profile r = record { params = r.params; args = children_types r.children; result = form_type r.result }

-- the type has only parameters below n, and is `Prop` or has no `Prop` in it
abbrev pub is_well_formed_type : ℕ → Ty → Boolean
is_well_formed_type n A = nat_le (type_params A) n && is_result [] A

-- all types of the signature are so
abbrev pub is_well_formed : Profile → Boolean
is_well_formed p = list_all (is_well_formed_type p.params) p.args && is_well_formed_type p.params p.result

abbrev pub all_well_formed : List Row → Boolean
all_well_formed rows = list_all (λ r. is_well_formed (row_profile r)) rows
