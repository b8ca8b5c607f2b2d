-- The signs and letters of the axiom table.
use Rattle.std.specs.Prelude.{List, ◌∷◌}
use Rattle.ev_terms.specs.declared.types.Ty.{Ty, Int, Bool, Param}
use Rattle.ev_terms.specs.declared.types.Tys.{Empty}
use Rattle.ev_terms.specs.Types.{pow, prod}
use Rattle.ev_terms.specs.declared.types.Sym.{Sym}
use Rattle.ev_forms.specs.Base.{at_type, true_sym, not_sym, and_sym, or_sym, implies_sym, iff_sym, for_all_sym, for_some_sym, equal_sym, in_sym, subset_sym, less_sym, at_most_sym, finite_sym, true_value_sym, false_value_sym, negative_sym, plus_sym, minus_sym, times_sym, over_sym, mod_sym, power_sym, type_sym, nat_sym, nat1_sym, empty_sym, maps_to_sym, product_sym, pow_sym, cup_sym, cap_sym, without_sym, big_union_sym, big_inter_sym, relation_sym, partial_function_sym, total_function_sym, partial_injection_sym, total_injection_sym, partial_surjection_sym, total_surjection_sym, bijection_sym, dom_sym, ran_sym, inverse_sym, composition_sym, domain_restriction_sym, domain_subtraction_sym, range_restriction_sym, range_subtraction_sym, override_sym, image_sym, apply_sym, id_sym, prj1_sym, prj2_sym, up_to_sym, card_sym, min_sym, max_sym}
use Rattle.ev_forms.specs.Forms.{two_types}
use Rattle.ev_axioms.specs.AxiomText.{Text, letter, number, leaf, one, two, quantified, single}

infixr 1 ◌▪◌
infixr 5 !◌∙◌
infixr 5 #◌∙◌
infix 10 ◌=>◌
infix 10 ◌<=>◌
infixl 20 ◌&◌
infixl 20 ◌or◌
infixr 30 not◌
infix 40 ◌∈◌
infix 40 ◌≐◌
infix 40 ◌<:◌
infix 40 ◌≺◌
infix 40 ◌<=◌
infixl 50 ◌|->◌
infixl 55 ◌<->◌
infixl 55 ◌+->◌
infixl 55 ◌⟶◌
infixl 55 ◌>+>◌
infixl 55 ◌>->◌
infixl 55 ◌+->>◌
infixl 55 ◌⟶>◌
infixl 55 ◌>->>◌
infixl 60 ◌\/◌
infixl 60 ◌/\◌
infixl 60 ◌\◌
infixl 60 ◌**◌
infixl 60 ◌⨾◌
infixl 60 ◌<+◌
infixl 60 ◌<|◌
infixl 60 ◌<<|◌
infixl 60 ◌|>◌
infixl 60 ◌|>>◌
infix 65 ◌‥◌
infixl 70 ◌⊕◌
infixl 70 ◌⊖◌
infixl 80 ◌⊗◌
infixl 80 ◌⊘◌
infixl 80 ◌⊙◌
infix 90 ◌↑◌
infixl 95 ◌~
infixl 95 ◌⟦◌⟧
infixl 95 ◌⟨◌⟩
-- a list of rows
abbrev pub ◌▪◌ : Text → List Text → List Text
r ▪ rs = r ∷ rs

-- the parameters ?0, ?1 and ?2
abbrev pub α : Ty
α = Param 0

abbrev pub β : Ty
β = Param 1

abbrev pub γ : Ty
γ = Param 2

-- the letters with their types
abbrev pub x : Text
x = letter 0 α

abbrev pub y : Text
y = letter 1 α

abbrev pub u : Text
u = letter 2 β

abbrev pub v : Text
v = letter 3 β

abbrev pub w : Text
w = letter 4 γ

abbrev pub S : Text
S = letter 5 (pow α)

abbrev pub T : Text
T = letter 6 (pow α)

abbrev pub U : Text
U = letter 7 (pow β)

abbrev pub F : Text
F = letter 8 (pow (pow α))

abbrev pub p : Text
p = letter 9 (prod α β)

abbrev pub r : Text
r = letter 10 (pow (prod α β))

abbrev pub q : Text
q = letter 11 (pow (prod α β))

abbrev pub s : Text
s = letter 12 (pow (prod β γ))

abbrev pub k : Text
k = letter 13 Int

abbrev pub m : Text
m = letter 14 Int

abbrev pub n : Text
n = letter 15 Int

abbrev pub N : Text
N = letter 16 (pow Int)

abbrev pub b : Text
b = letter 17 Bool

-- the symbols
abbrev pub ◌~ : Text → Text
◌~ = one inverse_sym

abbrev pub ◌⟦◌⟧ : Text → Text → Text
◌⟦◌⟧ = two image_sym

abbrev pub ◌⟨◌⟩ : Text → Text → Text
◌⟨◌⟩ = two apply_sym

abbrev pub not◌ : Text → Text
not◌ = one not_sym

abbrev pub ◌=>◌ : Text → Text → Text
◌=>◌ = two implies_sym

abbrev pub ◌<=>◌ : Text → Text → Text
◌<=>◌ = two iff_sym

abbrev pub ◌&◌ : Text → Text → Text
◌&◌ = two and_sym

abbrev pub ◌or◌ : Text → Text → Text
◌or◌ = two or_sym

abbrev pub ◌∈◌ : Text → Text → Text
◌∈◌ = two in_sym

abbrev pub ◌≐◌ : Text → Text → Text
◌≐◌ = two equal_sym

abbrev pub ◌<:◌ : Text → Text → Text
◌<:◌ = two subset_sym

abbrev pub ◌≺◌ : Text → Text → Text
◌≺◌ = two less_sym

abbrev pub ◌<=◌ : Text → Text → Text
◌<=◌ = two at_most_sym

abbrev pub ◌|->◌ : Text → Text → Text
◌|->◌ = two maps_to_sym

abbrev pub ◌<->◌ : Text → Text → Text
◌<->◌ = two relation_sym

abbrev pub ◌+->◌ : Text → Text → Text
◌+->◌ = two partial_function_sym

abbrev pub ◌⟶◌ : Text → Text → Text
◌⟶◌ = two total_function_sym

abbrev pub ◌>+>◌ : Text → Text → Text
◌>+>◌ = two partial_injection_sym

abbrev pub ◌>->◌ : Text → Text → Text
◌>->◌ = two total_injection_sym

abbrev pub ◌+->>◌ : Text → Text → Text
◌+->>◌ = two partial_surjection_sym

abbrev pub ◌⟶>◌ : Text → Text → Text
◌⟶>◌ = two total_surjection_sym

abbrev pub ◌>->>◌ : Text → Text → Text
◌>->>◌ = two bijection_sym

abbrev pub ◌\/◌ : Text → Text → Text
◌\/◌ = two cup_sym

abbrev pub ◌/\◌ : Text → Text → Text
◌/\◌ = two cap_sym

abbrev pub ◌\◌ : Text → Text → Text
◌\◌ = two without_sym

abbrev pub ◌**◌ : Text → Text → Text
◌**◌ = two product_sym

abbrev pub ◌⨾◌ : Text → Text → Text
◌⨾◌ = two composition_sym

abbrev pub ◌<+◌ : Text → Text → Text
◌<+◌ = two override_sym

abbrev pub ◌<|◌ : Text → Text → Text
◌<|◌ = two domain_restriction_sym

abbrev pub ◌<<|◌ : Text → Text → Text
◌<<|◌ = two domain_subtraction_sym

abbrev pub ◌|>◌ : Text → Text → Text
◌|>◌ = two range_restriction_sym

abbrev pub ◌|>>◌ : Text → Text → Text
◌|>>◌ = two range_subtraction_sym

abbrev pub ◌‥◌ : Text → Text → Text
◌‥◌ = two up_to_sym

abbrev pub ◌⊕◌ : Text → Text → Text
◌⊕◌ = two plus_sym

abbrev pub ◌⊖◌ : Text → Text → Text
◌⊖◌ = two minus_sym

abbrev pub ◌⊗◌ : Text → Text → Text
◌⊗◌ = two times_sym

abbrev pub ◌⊘◌ : Text → Text → Text
◌⊘◌ = two over_sym

abbrev pub ◌⊙◌ : Text → Text → Text
◌⊙◌ = two mod_sym

abbrev pub ◌↑◌ : Text → Text → Text
◌↑◌ = two power_sym

abbrev pub finite : Text → Text
finite = one finite_sym

abbrev pub minus : Text → Text
minus = one negative_sym

abbrev pub POW : Text → Text
POW = one pow_sym

abbrev pub union : Text → Text
union = one big_union_sym

abbrev pub inter : Text → Text
inter = one big_inter_sym

abbrev pub dom : Text → Text
dom = one dom_sym

abbrev pub ran : Text → Text
ran = one ran_sym

abbrev pub card : Text → Text
card = one card_sym

abbrev pub min : Text → Text
min = one min_sym

abbrev pub max : Text → Text
max = one max_sym

abbrev pub true : Text
true = leaf true_sym Empty

abbrev pub TRUE : Text
TRUE = leaf true_value_sym Empty

abbrev pub FALSE : Text
FALSE = leaf false_value_sym Empty

abbrev pub NAT : Text
NAT = leaf nat_sym Empty

abbrev pub NAT1 : Text
NAT1 = leaf nat1_sym Empty

abbrev pub TYPE : Ty → Text
TYPE A = leaf type_sym (at_type A)

abbrev pub ∅ : Ty → Text
∅ A = leaf empty_sym (at_type A)

abbrev pub id : Ty → Text
id A = leaf id_sym (at_type A)

abbrev pub prj1 : Ty → Ty → Text
prj1 A B = leaf prj1_sym (two_types A B)

abbrev pub prj2 : Ty → Ty → Text
prj2 A B = leaf prj2_sym (two_types A B)

abbrev pub ❴◌❵ : Text → Text
❴◌❵ = single

abbrev pub quantifier : Sym → Text → Text → Text
quantifier f (letter i A) P = quantified f i A P
quantifier f _ P = P

abbrev pub !◌∙◌ : Text → Text → Text
!◌∙◌ = quantifier for_all_sym

abbrev pub #◌∙◌ : Text → Text → Text
#◌∙◌ = quantifier for_some_sym

abbrev pub 𝟎 : Text
𝟎 = number 0

abbrev pub 𝟏 : Text
𝟏 = number 1
