-- The marks: the signs and the reserved words, each a row of one table.
use Rattle.std.specs.Prelude.{ℕ, List, [], ◌∷◌, ◌++◌, codes}

-- the signs
abbrev pub signs : List (List ℕ)
signs =
    codes "!" ∷ codes "#" ∷ codes "&" ∷ codes "=>" ∷ codes "<=>" ∷ codes "=" ∷ codes "/=" ∷
    codes ":" ∷ codes "/:" ∷ codes "<:" ∷ codes "/<:" ∷ codes "<" ∷ codes "<=" ∷ codes ">" ∷
    codes ">=" ∷ codes "|->" ∷ codes "<->" ∷ codes "+->" ∷ codes "-->" ∷ codes ">+>" ∷
    codes ">->" ∷ codes "+->>" ∷ codes "-->>" ∷ codes ">->>" ∷ codes "\\/" ∷ codes "/\\" ∷
    codes "\\" ∷ codes "**" ∷ codes "<+" ∷ codes "<|" ∷ codes "<<|" ∷ codes "|>" ∷ codes "|>>" ∷
    codes ";" ∷ codes ".." ∷ codes "+" ∷ codes "-" ∷ codes "*" ∷ codes "/" ∷ codes "^" ∷
    codes "~" ∷ codes "(" ∷ codes ")" ∷ codes "[" ∷ codes "]" ∷ codes "{" ∷ codes "}" ∷
    codes "," ∷ codes "." ∷ codes "|" ∷ codes "%" ∷ codes "?" ∷ codes "@" ∷ []

-- the reserved words
abbrev pub reserved_words : List (List ℕ)
reserved_words =
    codes "true" ∷ codes "false" ∷ codes "not" ∷ codes "or" ∷ codes "TRUE" ∷ codes "FALSE" ∷
    codes "INT" ∷ codes "NAT" ∷ codes "NAT1" ∷ codes "BOOL" ∷ codes "POW" ∷ codes "TYPE" ∷
    codes "PRED" ∷ codes "bool" ∷ codes "oftype" ∷ codes "mod" ∷ codes "finite" ∷ codes "card" ∷
    codes "min" ∷ codes "max" ∷ codes "union" ∷ codes "inter" ∷ codes "dom" ∷ codes "ran" ∷
    codes "id" ∷ codes "prj1" ∷ codes "prj2" ∷ codes "UNION" ∷ codes "INTER" ∷ codes "at" ∷
    codes "of" ∷ codes "IMPORT" ∷ codes "PARAM" ∷ codes "DATATYPE" ∷ codes "OPERATOR" ∷
    codes "CONSTANT" ∷ codes "AXIOM" ∷ codes "THEOREM" ∷ codes "REWRITE" ∷ codes "INFERENCE" ∷
    codes "WHERE" ∷ codes "IS" ∷ codes "BY" ∷ codes "CASE" ∷ codes "FOR" ∷ codes "WHEN" ∷
    codes "THEN" ∷ codes "COMPLETE" ∷ codes "GIVEN" ∷ codes "INFER" ∷ []

-- the table: a mark is the number of its row, from 0
abbrev pub spellings : List (List ℕ)
spellings = signs ++ reserved_words

-- the rows by name; `token_laws` says that each is the row of its spelling, and the constant of that name in the code
abbrev pub for_all_sign : ℕ
for_all_sign = 0

abbrev pub for_some_sign : ℕ
for_some_sign = 1

abbrev pub and_sign : ℕ
and_sign = 2

abbrev pub implies_sign : ℕ
implies_sign = 3

abbrev pub iff_sign : ℕ
iff_sign = 4

abbrev pub equal_sign : ℕ
equal_sign = 5

abbrev pub not_equal_sign : ℕ
not_equal_sign = 6

abbrev pub in_sign : ℕ
in_sign = 7

abbrev pub not_in_sign : ℕ
not_in_sign = 8

abbrev pub subset_sign : ℕ
subset_sign = 9

abbrev pub not_subset_sign : ℕ
not_subset_sign = 10

abbrev pub less_sign : ℕ
less_sign = 11

abbrev pub at_most_sign : ℕ
at_most_sign = 12

abbrev pub greater_sign : ℕ
greater_sign = 13

abbrev pub at_least_sign : ℕ
at_least_sign = 14

abbrev pub maps_to_sign : ℕ
maps_to_sign = 15

abbrev pub relation_sign : ℕ
relation_sign = 16

abbrev pub partial_function_sign : ℕ
partial_function_sign = 17

abbrev pub total_function_sign : ℕ
total_function_sign = 18

abbrev pub partial_injection_sign : ℕ
partial_injection_sign = 19

abbrev pub total_injection_sign : ℕ
total_injection_sign = 20

abbrev pub partial_surjection_sign : ℕ
partial_surjection_sign = 21

abbrev pub total_surjection_sign : ℕ
total_surjection_sign = 22

abbrev pub bijection_sign : ℕ
bijection_sign = 23

abbrev pub cup_sign : ℕ
cup_sign = 24

abbrev pub cap_sign : ℕ
cap_sign = 25

abbrev pub without_sign : ℕ
without_sign = 26

abbrev pub product_sign : ℕ
product_sign = 27

abbrev pub override_sign : ℕ
override_sign = 28

abbrev pub domain_restriction_sign : ℕ
domain_restriction_sign = 29

abbrev pub domain_subtraction_sign : ℕ
domain_subtraction_sign = 30

abbrev pub range_restriction_sign : ℕ
range_restriction_sign = 31

abbrev pub range_subtraction_sign : ℕ
range_subtraction_sign = 32

abbrev pub composition_sign : ℕ
composition_sign = 33

abbrev pub up_to_sign : ℕ
up_to_sign = 34

abbrev pub plus_sign : ℕ
plus_sign = 35

abbrev pub minus_sign : ℕ
minus_sign = 36

abbrev pub times_sign : ℕ
times_sign = 37

abbrev pub over_sign : ℕ
over_sign = 38

abbrev pub power_sign : ℕ
power_sign = 39

abbrev pub inverse_sign : ℕ
inverse_sign = 40

abbrev pub open_paren : ℕ
open_paren = 41

abbrev pub close_paren : ℕ
close_paren = 42

abbrev pub open_bracket : ℕ
open_bracket = 43

abbrev pub close_bracket : ℕ
close_bracket = 44

abbrev pub open_brace : ℕ
open_brace = 45

abbrev pub close_brace : ℕ
close_brace = 46

abbrev pub comma : ℕ
comma = 47

abbrev pub dot : ℕ
dot = 48

abbrev pub bar : ℕ
bar = 49

abbrev pub lambda_sign : ℕ
lambda_sign = 50

abbrev pub param_sign : ℕ
param_sign = 51

abbrev pub at_sign : ℕ
at_sign = 52

abbrev pub true_word : ℕ
true_word = 53

abbrev pub false_word : ℕ
false_word = 54

abbrev pub not_word : ℕ
not_word = 55

abbrev pub or_word : ℕ
or_word = 56

abbrev pub true_value_word : ℕ
true_value_word = 57

abbrev pub false_value_word : ℕ
false_value_word = 58

abbrev pub int_word : ℕ
int_word = 59

abbrev pub nat_word : ℕ
nat_word = 60

abbrev pub nat1_word : ℕ
nat1_word = 61

abbrev pub bool_set_word : ℕ
bool_set_word = 62

abbrev pub pow_word : ℕ
pow_word = 63

abbrev pub type_word : ℕ
type_word = 64

abbrev pub pred_word : ℕ
pred_word = 65

abbrev pub bool_word : ℕ
bool_word = 66

abbrev pub oftype_word : ℕ
oftype_word = 67

abbrev pub mod_word : ℕ
mod_word = 68

abbrev pub finite_word : ℕ
finite_word = 69

abbrev pub card_word : ℕ
card_word = 70

abbrev pub min_word : ℕ
min_word = 71

abbrev pub max_word : ℕ
max_word = 72

abbrev pub union_word : ℕ
union_word = 73

abbrev pub inter_word : ℕ
inter_word = 74

abbrev pub dom_word : ℕ
dom_word = 75

abbrev pub ran_word : ℕ
ran_word = 76

abbrev pub id_word : ℕ
id_word = 77

abbrev pub prj1_word : ℕ
prj1_word = 78

abbrev pub prj2_word : ℕ
prj2_word = 79

abbrev pub union_over_word : ℕ
union_over_word = 80

abbrev pub inter_over_word : ℕ
inter_over_word = 81

abbrev pub at_word : ℕ
at_word = 82

abbrev pub of_word : ℕ
of_word = 83

abbrev pub import_word : ℕ
import_word = 84

abbrev pub param_word : ℕ
param_word = 85

abbrev pub datatype_word : ℕ
datatype_word = 86

abbrev pub operator_word : ℕ
operator_word = 87

abbrev pub constant_word : ℕ
constant_word = 88

abbrev pub axiom_word : ℕ
axiom_word = 89

abbrev pub theorem_word : ℕ
theorem_word = 90

abbrev pub rewrite_word : ℕ
rewrite_word = 91

abbrev pub inference_word : ℕ
inference_word = 92

abbrev pub where_word : ℕ
where_word = 93

abbrev pub is_word : ℕ
is_word = 94

abbrev pub by_word : ℕ
by_word = 95

abbrev pub case_word : ℕ
case_word = 96

abbrev pub for_word : ℕ
for_word = 97

abbrev pub when_word : ℕ
when_word = 98

abbrev pub then_word : ℕ
then_word = 99

abbrev pub complete_word : ℕ
complete_word = 100

abbrev pub given_word : ℕ
given_word = 101

abbrev pub infer_word : ℕ
infer_word = 102
