-- How the base symbols are written.
use Rattle.std.specs.Prelude.{ℕ, List, [], ◌∷◌, Bool as Boolean, true, false, slice_index_or}
use Rattle.ev_syntax.specs.Marks.{spellings, for_all_sign, for_some_sign, and_sign, or_word, implies_sign, iff_sign, equal_sign, in_sign, subset_sign, less_sign, at_most_sign, finite_word, true_word, false_word, true_value_word, false_value_word, bool_word, plus_sign, minus_sign, times_sign, over_sign, mod_word, power_sign, nat_word, nat1_word, maps_to_sign, product_sign, pow_word, cup_sign, cap_sign, without_sign, union_word, inter_word, relation_sign, partial_function_sign, total_function_sign, partial_injection_sign, total_injection_sign, partial_surjection_sign, total_surjection_sign, bijection_sign, dom_word, ran_word, composition_sign, domain_restriction_sign, domain_subtraction_sign, range_restriction_sign, range_subtraction_sign, override_sign, id_word, prj1_word, prj2_word, up_to_sign, card_word, min_word, max_word}
use Rattle.ev_print.specs.declared.styles.Style.{Style}
use Rattle.ev_print.specs.declared.styles.Style.TheVariants.{Word, Braces, Infix, Not, Minus, Inverse, Around, Quantifier, SetFormer, Whole, Image, Application}

-- the base symbols, in the order of the table of base symbols
abbrev pub base_styles : List Style
base_styles =
    Word true_word ∷ Word false_word ∷ Not ∷ Infix and_sign ∷ Infix or_word ∷ Infix implies_sign ∷ Infix iff_sign ∷
    Quantifier for_all_sign ∷ Quantifier for_some_sign ∷ Infix equal_sign ∷ Infix in_sign ∷ Infix subset_sign ∷
    Infix less_sign ∷ Infix at_most_sign ∷ Around finite_word ∷ Word true_value_word ∷ Word false_value_word ∷
    Around bool_word ∷ Minus ∷ Infix plus_sign ∷ Infix minus_sign ∷ Infix times_sign ∷ Infix over_sign ∷ Infix mod_word ∷
    Infix power_sign ∷ Whole ∷ Word nat_word ∷ Word nat1_word ∷ Braces ∷ SetFormer ∷ Infix maps_to_sign ∷
    Infix product_sign ∷ Around pow_word ∷ Infix cup_sign ∷ Infix cap_sign ∷ Infix without_sign ∷ Around union_word ∷
    Around inter_word ∷ Infix relation_sign ∷ Infix partial_function_sign ∷ Infix total_function_sign ∷
    Infix partial_injection_sign ∷ Infix total_injection_sign ∷ Infix partial_surjection_sign ∷
    Infix total_surjection_sign ∷ Infix bijection_sign ∷ Around dom_word ∷ Around ran_word ∷ Inverse ∷
    Infix composition_sign ∷ Infix domain_restriction_sign ∷ Infix domain_subtraction_sign ∷
    Infix range_restriction_sign ∷ Infix range_subtraction_sign ∷ Infix override_sign ∷ Image ∷ Application ∷
    Word id_word ∷ Word prj1_word ∷ Word prj2_word ∷ Infix up_to_sign ∷ Around card_word ∷ Around min_word ∷
    Around max_word ∷ []

abbrev pub base_style : ℕ → Style
base_style row = slice_index_or base_styles row Application

-- the spelling of a mark
abbrev pub spelled : ℕ → List ℕ
spelled m = slice_index_or spellings m []

-- the styles whose text ends its own brackets, or has no operands
abbrev pub is_closed : Style → Boolean
is_closed (Word m) = true
is_closed Braces = true
is_closed (Around m) = true
is_closed SetFormer = true
is_closed Whole = true
is_closed Image = true
is_closed Application = true
is_closed _ = false

-- the binders and `TYPE` have their type in their own text
abbrev pub shows_type : Style → Boolean
shows_type (Quantifier m) = true
shows_type SetFormer = true
shows_type Whole = true
shows_type _ = false
