-- The marks by name: the constant of the code, the row that the definitions give the name, and its spelling.
use Rattle.std.specs.Prelude.{ℕ, List, [], ◌∷◌, codes}
use Rattle.ev_syntax.specs.declared.mark_names.TheConstants.{FOR_ALL_SIGN, FOR_SOME_SIGN, AND_SIGN, IMPLIES_SIGN, IFF_SIGN, EQUAL_SIGN, NOT_EQUAL_SIGN, IN_SIGN, NOT_IN_SIGN, SUBSET_SIGN, NOT_SUBSET_SIGN, LESS_SIGN, AT_MOST_SIGN, GREATER_SIGN, AT_LEAST_SIGN, MAPS_TO_SIGN, RELATION_SIGN, PARTIAL_FUNCTION_SIGN, TOTAL_FUNCTION_SIGN, PARTIAL_INJECTION_SIGN, TOTAL_INJECTION_SIGN, PARTIAL_SURJECTION_SIGN, TOTAL_SURJECTION_SIGN, BIJECTION_SIGN, CUP_SIGN, CAP_SIGN, WITHOUT_SIGN, PRODUCT_SIGN, OVERRIDE_SIGN, DOMAIN_RESTRICTION_SIGN, DOMAIN_SUBTRACTION_SIGN, RANGE_RESTRICTION_SIGN, RANGE_SUBTRACTION_SIGN, COMPOSITION_SIGN, UP_TO_SIGN, PLUS_SIGN, MINUS_SIGN, TIMES_SIGN, OVER_SIGN, POWER_SIGN, INVERSE_SIGN, OPEN_PAREN, CLOSE_PAREN, OPEN_BRACKET, CLOSE_BRACKET, OPEN_BRACE, CLOSE_BRACE, COMMA, DOT, BAR, LAMBDA_SIGN, PARAM_SIGN, AT_SIGN, TRUE_WORD, FALSE_WORD, NOT_WORD, OR_WORD, TRUE_VALUE_WORD, FALSE_VALUE_WORD, INT_WORD, NAT_WORD, NAT1_WORD, BOOL_SET_WORD, POW_WORD, TYPE_WORD, PRED_WORD, BOOL_WORD, OFTYPE_WORD, MOD_WORD, FINITE_WORD, CARD_WORD, MIN_WORD, MAX_WORD, UNION_WORD, INTER_WORD, DOM_WORD, RAN_WORD, ID_WORD, PRJ1_WORD, PRJ2_WORD, UNION_OVER_WORD, INTER_OVER_WORD, AT_WORD, OF_WORD, IMPORT_WORD, PARAM_WORD, DATATYPE_WORD, OPERATOR_WORD, CONSTANT_WORD, AXIOM_WORD, THEOREM_WORD, REWRITE_WORD, INFERENCE_WORD, WHERE_WORD, IS_WORD, BY_WORD, CASE_WORD, FOR_WORD, WHEN_WORD, THEN_WORD, COMPLETE_WORD, GIVEN_WORD, INFER_WORD}
use Rattle.ev_syntax.specs.Marks.{for_all_sign, for_some_sign, and_sign, implies_sign, iff_sign, equal_sign, not_equal_sign, in_sign, not_in_sign, subset_sign, not_subset_sign, less_sign, at_most_sign, greater_sign, at_least_sign, maps_to_sign, relation_sign, partial_function_sign, total_function_sign, partial_injection_sign, total_injection_sign, partial_surjection_sign, total_surjection_sign, bijection_sign, cup_sign, cap_sign, without_sign, product_sign, override_sign, domain_restriction_sign, domain_subtraction_sign, range_restriction_sign, range_subtraction_sign, composition_sign, up_to_sign, plus_sign, minus_sign, times_sign, over_sign, power_sign, inverse_sign, open_paren, close_paren, open_bracket, close_bracket, open_brace, close_brace, comma, dot, bar, lambda_sign, param_sign, at_sign, true_word, false_word, not_word, or_word, true_value_word, false_value_word, int_word, nat_word, nat1_word, bool_set_word, pow_word, type_word, pred_word, bool_word, oftype_word, mod_word, finite_word, card_word, min_word, max_word, union_word, inter_word, dom_word, ran_word, id_word, prj1_word, prj2_word, union_over_word, inter_over_word, at_word, of_word, import_word, param_word, datatype_word, operator_word, constant_word, axiom_word, theorem_word, rewrite_word, inference_word, where_word, is_word, by_word, case_word, for_word, when_word, then_word, complete_word, given_word, infer_word}

pub record NamedMark : Type 0 where
  pub constant : ℕ
  pub row : ℕ
  pub spelling : List ℕ

abbrev pub named : ℕ → ℕ → List ℕ → NamedMark
named constant row spelling = record { constant = constant; row = row; spelling = spelling }

abbrev pub named_marks : List NamedMark
named_marks =
    named FOR_ALL_SIGN for_all_sign (codes "!") ∷
    named FOR_SOME_SIGN for_some_sign (codes "#") ∷
    named AND_SIGN and_sign (codes "&") ∷
    named IMPLIES_SIGN implies_sign (codes "=>") ∷
    named IFF_SIGN iff_sign (codes "<=>") ∷
    named EQUAL_SIGN equal_sign (codes "=") ∷
    named NOT_EQUAL_SIGN not_equal_sign (codes "/=") ∷
    named IN_SIGN in_sign (codes ":") ∷
    named NOT_IN_SIGN not_in_sign (codes "/:") ∷
    named SUBSET_SIGN subset_sign (codes "<:") ∷
    named NOT_SUBSET_SIGN not_subset_sign (codes "/<:") ∷
    named LESS_SIGN less_sign (codes "<") ∷
    named AT_MOST_SIGN at_most_sign (codes "<=") ∷
    named GREATER_SIGN greater_sign (codes ">") ∷
    named AT_LEAST_SIGN at_least_sign (codes ">=") ∷
    named MAPS_TO_SIGN maps_to_sign (codes "|->") ∷
    named RELATION_SIGN relation_sign (codes "<->") ∷
    named PARTIAL_FUNCTION_SIGN partial_function_sign (codes "+->") ∷
    named TOTAL_FUNCTION_SIGN total_function_sign (codes "-->") ∷
    named PARTIAL_INJECTION_SIGN partial_injection_sign (codes ">+>") ∷
    named TOTAL_INJECTION_SIGN total_injection_sign (codes ">->") ∷
    named PARTIAL_SURJECTION_SIGN partial_surjection_sign (codes "+->>") ∷
    named TOTAL_SURJECTION_SIGN total_surjection_sign (codes "-->>") ∷
    named BIJECTION_SIGN bijection_sign (codes ">->>") ∷
    named CUP_SIGN cup_sign (codes "\\/") ∷
    named CAP_SIGN cap_sign (codes "/\\") ∷
    named WITHOUT_SIGN without_sign (codes "\\") ∷
    named PRODUCT_SIGN product_sign (codes "**") ∷
    named OVERRIDE_SIGN override_sign (codes "<+") ∷
    named DOMAIN_RESTRICTION_SIGN domain_restriction_sign (codes "<|") ∷
    named DOMAIN_SUBTRACTION_SIGN domain_subtraction_sign (codes "<<|") ∷
    named RANGE_RESTRICTION_SIGN range_restriction_sign (codes "|>") ∷
    named RANGE_SUBTRACTION_SIGN range_subtraction_sign (codes "|>>") ∷
    named COMPOSITION_SIGN composition_sign (codes ";") ∷
    named UP_TO_SIGN up_to_sign (codes "..") ∷
    named PLUS_SIGN plus_sign (codes "+") ∷
    named MINUS_SIGN minus_sign (codes "-") ∷
    named TIMES_SIGN times_sign (codes "*") ∷
    named OVER_SIGN over_sign (codes "/") ∷
    named POWER_SIGN power_sign (codes "^") ∷
    named INVERSE_SIGN inverse_sign (codes "~") ∷
    named OPEN_PAREN open_paren (codes "(") ∷
    named CLOSE_PAREN close_paren (codes ")") ∷
    named OPEN_BRACKET open_bracket (codes "[") ∷
    named CLOSE_BRACKET close_bracket (codes "]") ∷
    named OPEN_BRACE open_brace (codes "{") ∷
    named CLOSE_BRACE close_brace (codes "}") ∷
    named COMMA comma (codes ",") ∷
    named DOT dot (codes ".") ∷
    named BAR bar (codes "|") ∷
    named LAMBDA_SIGN lambda_sign (codes "%") ∷
    named PARAM_SIGN param_sign (codes "?") ∷
    named AT_SIGN at_sign (codes "@") ∷
    named TRUE_WORD true_word (codes "true") ∷
    named FALSE_WORD false_word (codes "false") ∷
    named NOT_WORD not_word (codes "not") ∷
    named OR_WORD or_word (codes "or") ∷
    named TRUE_VALUE_WORD true_value_word (codes "TRUE") ∷
    named FALSE_VALUE_WORD false_value_word (codes "FALSE") ∷
    named INT_WORD int_word (codes "INT") ∷
    named NAT_WORD nat_word (codes "NAT") ∷
    named NAT1_WORD nat1_word (codes "NAT1") ∷
    named BOOL_SET_WORD bool_set_word (codes "BOOL") ∷
    named POW_WORD pow_word (codes "POW") ∷
    named TYPE_WORD type_word (codes "TYPE") ∷
    named PRED_WORD pred_word (codes "PRED") ∷
    named BOOL_WORD bool_word (codes "bool") ∷
    named OFTYPE_WORD oftype_word (codes "oftype") ∷
    named MOD_WORD mod_word (codes "mod") ∷
    named FINITE_WORD finite_word (codes "finite") ∷
    named CARD_WORD card_word (codes "card") ∷
    named MIN_WORD min_word (codes "min") ∷
    named MAX_WORD max_word (codes "max") ∷
    named UNION_WORD union_word (codes "union") ∷
    named INTER_WORD inter_word (codes "inter") ∷
    named DOM_WORD dom_word (codes "dom") ∷
    named RAN_WORD ran_word (codes "ran") ∷
    named ID_WORD id_word (codes "id") ∷
    named PRJ1_WORD prj1_word (codes "prj1") ∷
    named PRJ2_WORD prj2_word (codes "prj2") ∷
    named UNION_OVER_WORD union_over_word (codes "UNION") ∷
    named INTER_OVER_WORD inter_over_word (codes "INTER") ∷
    named AT_WORD at_word (codes "at") ∷
    named OF_WORD of_word (codes "of") ∷
    named IMPORT_WORD import_word (codes "IMPORT") ∷
    named PARAM_WORD param_word (codes "PARAM") ∷
    named DATATYPE_WORD datatype_word (codes "DATATYPE") ∷
    named OPERATOR_WORD operator_word (codes "OPERATOR") ∷
    named CONSTANT_WORD constant_word (codes "CONSTANT") ∷
    named AXIOM_WORD axiom_word (codes "AXIOM") ∷
    named THEOREM_WORD theorem_word (codes "THEOREM") ∷
    named REWRITE_WORD rewrite_word (codes "REWRITE") ∷
    named INFERENCE_WORD inference_word (codes "INFERENCE") ∷
    named WHERE_WORD where_word (codes "WHERE") ∷
    named IS_WORD is_word (codes "IS") ∷
    named BY_WORD by_word (codes "BY") ∷
    named CASE_WORD case_word (codes "CASE") ∷
    named FOR_WORD for_word (codes "FOR") ∷
    named WHEN_WORD when_word (codes "WHEN") ∷
    named THEN_WORD then_word (codes "THEN") ∷
    named COMPLETE_WORD complete_word (codes "COMPLETE") ∷
    named GIVEN_WORD given_word (codes "GIVEN") ∷
    named INFER_WORD infer_word (codes "INFER") ∷ []
