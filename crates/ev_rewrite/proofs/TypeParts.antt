-- The parts of types: a form of types is injective.
use Rattle.std.proofs.Common.{◌≡◌, ◌<◌, ◌≤◌, ◌+◌, ℕ, List, [], ap, sym, ◌∙◌, arith}
use Rattle.ev_terms.specs.declared.types.Ty.{Ty, Int, Data}
use Rattle.ev_terms.specs.declared.types.Tys.{Tys, Empty}
use Rattle.ev_terms.specs.declared.types.Ty.TheVariants.{Pow, Prod}
use Rattle.ev_terms.specs.declared.types.Tys.TheVariants.{More}
use Rattle.ev_terms.specs.Measures.{type_size, types_size}
use Rattle.ev_terms.proofs.Children.{type_size-Pow, type_size-Prod, types_size-More}
use Rattle.ev_terms.specs.Types.{pow, prod, more}

abbrev pub pow_part : Ty → Ty
pow_part (pow A) = A
pow_part A = A

abbrev pub left_part : Ty → Ty
left_part (prod A B) = A
left_part A = A

abbrev pub right_part : Ty → Ty
right_part (prod A B) = B
right_part A = A

abbrev pub name_part : Ty → List ℕ
name_part (Data n As) = n
name_part A = []

abbrev pub data_part : Ty → Tys
data_part (Data n As) = As
data_part A = Empty

abbrev pub head_part : Tys → Ty
head_part (more A As) = A
head_part Empty = Int

abbrev pub tail_part : Tys → Tys
tail_part (more A As) = As
tail_part Empty = Empty

-- The parts of a type are smaller.
pub set_size : (p a a' : Ty) → p ≡ Pow a → a' ≡ a → type_size a' < type_size p
set_size p a a' e f = let g : type_size p ≡ 1 + type_size a' = ap type_size e ∙ type_size-Pow a ∙ ap (λ x. 1 + type_size x) (sym f) in omega (arith, g)

pub first_size : (p a b a' : Ty) → p ≡ Prod a b → a' ≡ a → type_size a' < type_size p
first_size p a b a' e f =
    let g : type_size p ≡ 1 + (type_size a' + type_size b) = ap type_size e ∙ type_size-Prod a b ∙ ap (λ x. 1 + (type_size x + type_size b)) (sym f) in omega (arith, g)

pub head_size : (left rest : Tys) (a a' : Ty) (n : ℕ) → left ≡ More a rest → a' ≡ a → types_size left ≤ n → type_size a' ≤ n
head_size left rest a a' n e f h =
    let g : types_size left ≡ type_size a' + types_size rest = ap types_size e ∙ types_size-More a rest ∙ ap (λ x. type_size x + types_size rest) (sym f) in omega (arith, g, h)
