-- The bare term of a raw tree: names resolved, forms spelled out. None where a sort of name, a number of arguments or a written type does not fit.
use Rattle.std.specs.Prelude.{ℕ, ◌==◌, Bool as Boolean, true, false, List, [], ◌∷◌, length, Option, Some, None, option_map, option_and_then, is_some, if◌then◌else◌}
use Rattle.ev_terms.specs.declared.types.Ty.{Ty, Int, Bool, Prop, Param}
use Rattle.ev_terms.specs.declared.types.Sym.{Sym}
use Rattle.ev_terms.specs.declared.types.Sym.TheVariants.{User}
use Rattle.ev_syntax.specs.Marks.{int_word, bool_set_word, open_brace, union_over_word}
use Rattle.ev_syntax.specs.Raw.{RawType, Binder, Pattern, bound, pair, pattern_binders, Raw, Raws, word, literal, param, type_set, call, around, unary, binary, inverse, apply, image, of_type, quantified, set_of, collected, lambda, members, written, none, one}
use Rattle.ev_forms.specs.Base as base
use Rattle.ev_typing.specs.Profiles.{Profile}
use Rattle.ev_typing.specs.Env.{Env, find_data, profile}
use Rattle.ev_resolve.specs.Reading.{Known, Variable, Meaning, variable, predicate, parameter, symbol, nothing, meaning, type_of_raw, both, Plain, infix_symbols, prefix_symbols, around_symbols, word_symbols, entry_of, swaps, quantifier, binder_of, unnamed, count_of}
use Rattle.ev_resolve.specs.Bare.{Bare, Bares, bare_var, bare_lit, bare_node, bare_of, bare_none, bare_more}

-- what an environment says of names
abbrev pub known_of : Env → Known
known_of env = record {
  argument_count = λ n. option_map (λ (p : Profile). length p.args) (profile env (User n));
  is_datatype = λ n. is_some (find_data env n);
}

abbrev pub bare_one : Sym → Option Ty → Bare → Bare
bare_one s w b = bare_node s w (bare_more b bare_none)

abbrev pub bare_two : Sym → Option Ty → Bare → Bare → Bare
bare_two s w b c = bare_node s w (bare_more b (bare_more c bare_none))

abbrev pub bare_leaf : Sym → Option Ty → Bare
bare_leaf s w = bare_node s w bare_none

-- `TYPE` at a type
abbrev pub type_bare : Ty → Bare
type_bare A = bare_leaf base.type_sym (Some A)

abbrev pub bare_and_not : Boolean → Bare → Bare
bare_and_not false b = b
bare_and_not true b = bare_one base.not_sym None b

abbrev pub plain_bare : Option Plain → Bares → Option Bare
plain_bare None bs = None
plain_bare (Some e) bs = Some (bare_and_not e.negated (bare_node e.sym None bs))

abbrev pub two_bares : Boolean → Bare → Bare → Bares
two_bares false b c = bare_more b (bare_more c bare_none)
two_bares true b c = bare_more c (bare_more b bare_none)

abbrev pub word_bare : Option Plain → ℕ → Option Bare
word_bare (Some e) m = plain_bare (Some e) bare_none
word_bare None m = if m == int_word then Some (type_bare Int) else (if m == bool_set_word then Some (type_bare Bool) else None)

abbrev pub application_bare : Bare → Bares → Bare
application_bare f bs = bare_node base.apply_sym None (bare_more f bs)

abbrev pub call_bare : Meaning → List ℕ → ℕ → Bares → Option Bare
call_bare (variable i) n count bs =
    if count == 0 then Some (bare_var i) else (if count == 1 then Some (application_bare (bare_var i) bs) else None)
call_bare (predicate i) n count bs =
    if count == 0 then Some (bare_two base.equal_sym (Some Bool) (bare_var i) (bare_leaf base.true_value_sym None)) else None
call_bare (parameter i) n count bs = if count == 0 then Some (type_bare (Param i)) else None
call_bare (symbol k) n count bs =
    if count == k then Some (bare_node (User n) None bs)
    else (if k == 0 then (if count == 1 then Some (application_bare (bare_leaf (User n) None) bs) else None) else None)
call_bare nothing n count bs = None

-- `z = b`, where z is the innermost variable
abbrev pub bare_z : Bare → Bare
bare_z b = bare_two base.equal_sym None (bare_var 0) b

-- `b & z = c`, where z is the variable that bounds n others
abbrev pub collected_bare : ℕ → Bare → Bare → Bare
collected_bare n b c = bare_two base.and_sym None b (bare_two base.equal_sym None (bare_var n) c)

abbrev pub over_bare : ℕ → Bare → Bare
over_bare m b =
    if m == open_brace then b else bare_one (if m == union_over_word then base.big_union_sym else base.big_inter_sym) None b

-- a variable with what its name means: its type counts only as far as it is `Prop`
abbrev pub forget_type : Ty → Ty
forget_type Prop = Prop
forget_type A = Int

abbrev pub forget : Variable → Variable
forget v = record { name = v.name; type = forget_type v.type }

module _ (params : List (List ℕ)) (known : Known) where
  abbrev pub written_type : Option RawType → Option (Option Ty)
  written_type None = Some None
  written_type (Some r) = option_map Some (type_of_raw params known r)

  -- bound names one after the other, the first the outermost, around what stands inside
  abbrev pub bind_all : Sym → List Binder → (List Variable → Option Bare) → List Variable → Option Bare
  bind_all s [] inner vars = inner vars
  bind_all s (b ∷ bs) inner vars = both (bare_one s) (written_type b.type) (bind_all s bs inner (binder_of b Int ∷ vars))

  abbrev pub pattern_bare : Pattern → List Variable → Option Bare
  pattern_bare (bound b) vars = call_bare (meaning params known b.name vars 0) b.name 0 bare_none
  pattern_bare (pair x y) vars = both (bare_two base.maps_to_sym None) (pattern_bare x vars) (pattern_bare y vars)

  -- the variables are the innermost first
  abbrev mutual
    pub resolve : Raw → List Variable → Option Bare
    resolve (word m) vars = word_bare (entry_of word_symbols m) m
    resolve (literal n) vars = Some (bare_lit n)
    resolve (param i) vars = Some (type_bare (Param i))
    resolve (type_set r) vars = option_map type_bare (type_of_raw params known r)
    resolve (call n es) vars = option_and_then (call_bare (meaning params known n vars 0) n (count_of es)) (resolve_all es vars)
    resolve (around m e) vars = option_and_then (λ b. plain_bare (entry_of around_symbols m) (bare_more b bare_none)) (resolve e vars)
    resolve (unary m e) vars = option_and_then (λ b. plain_bare (entry_of prefix_symbols m) (bare_more b bare_none)) (resolve e vars)
    resolve (binary m e f) vars =
        option_and_then (plain_bare (entry_of infix_symbols m)) (both (two_bares (swaps (entry_of infix_symbols m))) (resolve e vars) (resolve f vars))
    resolve (inverse e) vars = option_map (bare_one base.inverse_sym None) (resolve e vars)
    resolve (apply e f) vars = both (bare_two base.apply_sym None) (resolve e vars) (resolve f vars)
    resolve (image e f) vars = both (bare_two base.image_sym None) (resolve e vars) (resolve f vars)
    resolve (of_type e r) vars = both bare_of (resolve e vars) (type_of_raw params known r)
    resolve (quantified m bs e) vars = bind_all (quantifier m) bs (resolve e) vars
    resolve (set_of b e) vars = bind_all base.set_sym (b ∷ []) (resolve e) vars
    resolve (collected m bs e f) vars =
        option_map (over_bare m) (option_map (bare_one base.set_sym None) (bind_all base.for_some_sym bs (λ under. both (collected_bare (length bs)) (resolve e under) (resolve f under)) (unnamed Int ∷ vars)))
    resolve (lambda x e f) vars =
        option_map (bare_one base.set_sym None)
        (bind_all base.for_some_sym (pattern_binders x)
        (λ under. both (collected_bare (length (pattern_binders x))) (resolve e under) (both (bare_two base.maps_to_sym None) (pattern_bare x under) (resolve f under)))
        (unnamed Int ∷ vars))
    resolve (members none) vars = Some (bare_leaf base.empty_sym None)
    resolve (members (one e es)) vars =
        option_map (bare_one base.set_sym None) (option_and_then (λ b. resolve_members es (unnamed Int ∷ vars) (bare_z b)) (resolve e (unnamed Int ∷ vars)))
    resolve (written r) vars = None

    pub resolve_all : Raws → List Variable → Option Bares
    resolve_all none vars = Some bare_none
    resolve_all (one e es) vars = both bare_more (resolve e vars) (resolve_all es vars)

    -- `front` is the disjunction of the members so far
    pub resolve_members : Raws → List Variable → Bare → Option Bare
    resolve_members none vars front = Some front
    resolve_members (one e es) vars front = option_and_then (λ b. resolve_members es vars (bare_two base.or_sym None front (bare_z b))) (resolve e vars)
