-- How a raw tree is read as a term: the readings give the term, but for the types that its symbols and binders have.
use Rattle.std.specs.Prelude.{◌≡◌, ℕ, ◌+◌, Bool, true, false, ◌==◌, ◌⊎◌, List, [], ◌∷◌, length, map, reverse, position, bytes_eq, Option, Some, None, find, if◌then◌else◌, option_map, option_and_then, MatchBool}
use Rattle.ev_terms.specs.declared.types.Ty.{Ty, Int, Bool as BoolType, Prop, Param, Data}
use Rattle.ev_terms.specs.declared.types.Tys.{Tys, Empty}
use Rattle.ev_terms.specs.declared.types.Sym.{Sym}
use Rattle.ev_terms.specs.declared.types.Sym.TheVariants.{User}
use Rattle.ev_terms.specs.Types.{pow, prod, more}
use Rattle.ev_terms.specs.Term.{Term, Terms, var, lit, node, nil, cons}
use Rattle.ev_syntax.specs.Marks.{not_equal_sign, not_in_sign, not_subset_sign, greater_sign, at_least_sign, and_sign, or_word, implies_sign, iff_sign, equal_sign, in_sign, subset_sign, less_sign, at_most_sign, maps_to_sign, relation_sign, partial_function_sign, total_function_sign, partial_injection_sign, total_injection_sign, partial_surjection_sign, total_surjection_sign, bijection_sign, cup_sign, cap_sign, without_sign, product_sign, composition_sign, override_sign, domain_restriction_sign, domain_subtraction_sign, range_restriction_sign, range_subtraction_sign, up_to_sign, plus_sign, minus_sign, times_sign, over_sign, mod_word, power_sign, not_word, finite_word, bool_word, pow_word, union_word, inter_word, dom_word, ran_word, card_word, min_word, max_word, true_word, false_word, true_value_word, false_value_word, int_word, bool_set_word, nat_word, nat1_word, id_word, prj1_word, prj2_word, for_all_sign, open_brace, union_over_word}
use Rattle.ev_syntax.specs.Raw.{RawType, RawTypes, int_type, bool_type, param_type, named_type, pow_type, prod_type, no_types, one_type, Binder, Pattern, bound, pair, pattern_binders, Raw, Raws, word, literal, param, type_set, call, around, unary, binary, inverse, apply, image, of_type, quantified, set_of, collected, lambda, members, written, none, one}
use Rattle.ev_forms.specs.Base as base
use Rattle.ev_forms.specs.Base.{leaf, with_one, with_two, at_type}

-- The formula names that are no type parameter: what a constructor, destructor, operator or constant is, by its number of arguments, and which names are datatypes.
pub record Known : Type 0 where
  pub argument_count : List ℕ → Option ℕ
  pub is_datatype : List ℕ → Bool

-- A variable: its name, or none where no text can name it, and its type, or Prop for a predicate variable, which stands in the context with BOOL.
pub record Variable : Type 0 where
  pub name : Option (List ℕ)
  pub type : Ty

abbrev pub context_type : Ty → Ty
context_type Prop = BoolType
context_type a = a

-- the types of the variables, the innermost of which stands first here, as a context
abbrev pub context_of : List Variable → List Ty
context_of vars = reverse (map (λ v. context_type v.type) vars)

abbrev pub option_is : List ℕ → Option (List ℕ) → Bool
option_is n None = false
option_is n (Some m) = bytes_eq m n

-- What a name is: a variable by its number, a predicate variable, a type parameter by its number, a symbol with so many arguments, or nothing that a formula may name.
pub data Meaning : Type 0 where
  variable : ℕ → Meaning
  predicate : ℕ → Meaning
  parameter : ℕ → Meaning
  symbol : ℕ → Meaning
  nothing : Meaning

abbrev pub variable_of : Ty → ℕ → Meaning
variable_of Prop i = predicate i
variable_of a i = variable i

abbrev pub of_count : Option ℕ → Meaning
of_count None = nothing
of_count (Some k) = symbol k

abbrev pub of_position : Option ℕ → Meaning → Meaning
of_position None otherwise = otherwise
of_position (Some i) otherwise = parameter i

-- among the formula names: a type parameter, or a symbol
abbrev pub formula_meaning : List (List ℕ) → Known → List ℕ → Meaning
formula_meaning params known n = of_position (position (bytes_eq n) params) (of_count (known.argument_count n))

-- A name is looked up among the variables, the innermost first, of which i are passed already, then among the formula names.
abbrev pub meaning : List (List ℕ) → Known → List ℕ → List Variable → ℕ → Meaning
meaning params known n [] i = formula_meaning params known n
meaning params known n (v ∷ vs) i = if option_is n v.name then variable_of v.type i else meaning params known n vs (i + 1)

-- the type that a written one is: a name is a type parameter or a datatype
abbrev pub named : Option ℕ → Bool → List ℕ → Tys → Option Ty
named (Some i) datatype n Empty = Some (Param i)
named (Some i) datatype n types = None
named None true n types = Some (Data n types)
named None false n types = None

abbrev pub both : {A B C : Type 0} → (A → B → C) → Option A → Option B → Option C
both f None b = None
both f (Some a) None = None
both f (Some a) (Some b) = Some (f a b)

module _ (params : List (List ℕ)) (known : Known) where
  abbrev mutual
    pub type_of_raw : RawType → Option Ty
    type_of_raw int_type = Some Int
    type_of_raw bool_type = Some BoolType
    type_of_raw (param_type i) = Some (Param i)
    type_of_raw (named_type n types) =
        option_and_then (named (position (bytes_eq n) params) (known.is_datatype n) n) (types_of_raw types)
    type_of_raw (pow_type a) = option_map pow (type_of_raw a)
    type_of_raw (prod_type a b) = both prod (type_of_raw a) (type_of_raw b)

    pub types_of_raw : RawTypes → Option Tys
    types_of_raw no_types = Some Empty
    types_of_raw (one_type a types) = both more (type_of_raw a) (types_of_raw types)

  -- a written type, where there is one, is this type
  abbrev pub IsWritten : Option RawType → Ty → Type 0
  IsWritten None a = Unit {0}
  IsWritten (Some r) a = type_of_raw r ≡ Some a

-- A mark before, around or between operands: its symbol; whether the operands change places, and whether `not` stands before it all.
pub record Plain : Type 0 where
  pub mark : ℕ
  pub sym : Sym
  pub swapped : Bool
  pub negated : Bool

abbrev pub plain : ℕ → Sym → Plain
plain m s = record { mark = m; sym = s; swapped = false; negated = false }

abbrev pub infix_symbols : List Plain
infix_symbols =
    record { mark = not_equal_sign; sym = base.equal_sym; swapped = false; negated = true } ∷
    record { mark = not_in_sign; sym = base.in_sym; swapped = false; negated = true } ∷
    record { mark = not_subset_sign; sym = base.subset_sym; swapped = false; negated = true } ∷
    record { mark = greater_sign; sym = base.less_sym; swapped = true; negated = false } ∷
    record { mark = at_least_sign; sym = base.at_most_sym; swapped = true; negated = false } ∷
    plain and_sign base.and_sym ∷ plain or_word base.or_sym ∷ plain implies_sign base.implies_sym ∷
    plain iff_sign base.iff_sym ∷ plain equal_sign base.equal_sym ∷ plain in_sign base.in_sym ∷
    plain subset_sign base.subset_sym ∷ plain less_sign base.less_sym ∷ plain at_most_sign base.at_most_sym ∷
    plain maps_to_sign base.maps_to_sym ∷ plain relation_sign base.relation_sym ∷
    plain partial_function_sign base.partial_function_sym ∷
    plain total_function_sign base.total_function_sym ∷
    plain partial_injection_sign base.partial_injection_sym ∷
    plain total_injection_sign base.total_injection_sym ∷
    plain partial_surjection_sign base.partial_surjection_sym ∷
    plain total_surjection_sign base.total_surjection_sym ∷ plain bijection_sign base.bijection_sym ∷
    plain cup_sign base.cup_sym ∷ plain cap_sign base.cap_sym ∷ plain without_sign base.without_sym ∷
    plain product_sign base.product_sym ∷ plain composition_sign base.composition_sym ∷
    plain override_sign base.override_sym ∷ plain domain_restriction_sign base.domain_restriction_sym ∷
    plain domain_subtraction_sign base.domain_subtraction_sym ∷
    plain range_restriction_sign base.range_restriction_sym ∷
    plain range_subtraction_sign base.range_subtraction_sym ∷ plain up_to_sign base.up_to_sym ∷
    plain plus_sign base.plus_sym ∷ plain minus_sign base.minus_sym ∷ plain times_sign base.times_sym ∷
    plain over_sign base.over_sym ∷ plain power_sign base.power_sym ∷ plain mod_word base.mod_sym ∷ []

abbrev pub prefix_symbols : List Plain
prefix_symbols = plain not_word base.not_sym ∷ plain minus_sign base.negative_sym ∷ []

abbrev pub around_symbols : List Plain
around_symbols =
    plain finite_word base.finite_sym ∷ plain bool_word base.bool_sym ∷ plain pow_word base.pow_sym ∷
    plain union_word base.big_union_sym ∷ plain inter_word base.big_inter_sym ∷ plain dom_word base.dom_sym ∷
    plain ran_word base.ran_sym ∷ plain card_word base.card_sym ∷ plain min_word base.min_sym ∷
    plain max_word base.max_sym ∷ []

-- a word alone
abbrev pub word_symbols : List Plain
word_symbols =
    plain true_word base.true_sym ∷ plain false_word base.false_sym ∷
    plain true_value_word base.true_value_sym ∷ plain false_value_word base.false_value_sym ∷
    plain nat_word base.nat_sym ∷ plain nat1_word base.nat1_sym ∷ plain id_word base.id_sym ∷
    plain prj1_word base.prj1_sym ∷ plain prj2_word base.prj2_sym ∷ []

abbrev pub entry_of : List Plain → ℕ → Option Plain
entry_of table m = find (λ e. e.mark == m) table

abbrev pub and_not : Bool → Term → Term
and_not false t = t
and_not true t = with_one base.not_sym Empty t

-- t is the entry's symbol, at some types, over these children
abbrev pub IsPlain : Option Plain → Terms → Term → Type 0
IsPlain None ts t = ⊥
IsPlain (Some e) ts t = (types : Tys) × (t ≡ and_not e.negated (node e.sym types ts))

abbrev pub two_terms : Bool → Term → Term → Terms
two_terms false x y = cons x (cons y nil)
two_terms true x y = cons y (cons x nil)

abbrev pub swaps : Option Plain → Bool
swaps None = false
swaps (Some e) = e.swapped

-- `INT` and `BOOL` are `TYPE` at that type
abbrev pub IsWord : ℕ → Term → Type 0
IsWord m t =
    IsPlain (entry_of word_symbols m) nil t
    ⊎ ((m ≡ int_word) × (t ≡ leaf base.type_sym (at_type Int)))
    ⊎ ((m ≡ bool_set_word) × (t ≡ leaf base.type_sym (at_type BoolType)))

abbrev pub quantifier : ℕ → Sym
quantifier m = if m == for_all_sign then base.for_all_sym else base.for_some_sym

abbrev pub binder_of : Binder → Ty → Variable
binder_of b a = record { name = Some b.name; type = a }

-- a new variable, which no text names
abbrev pub unnamed : Ty → Variable
unnamed a = record { name = None; type = a }

-- an application: of f to the one argument
abbrev pub IsApplication : Term → Terms → Term → Type 0
IsApplication f args t = (types : Tys) × (t ≡ node base.apply_sym types (cons f args))

-- A name with so many arguments. A variable, or a symbol without arguments, with one argument is applied to it.
-- A predicate variable P is `P = TRUE`.
abbrev pub IsCall : Meaning → List ℕ → ℕ → Terms → Term → Type 0
IsCall (variable i) n count args t = ((count ≡ 0) × (t ≡ var i)) ⊎ ((count ≡ 1) × IsApplication (var i) args t)
IsCall (predicate i) n count args t =
    (count ≡ 0) × (t ≡ with_two base.equal_sym (at_type BoolType) (var i) (leaf base.true_value_sym Empty))
IsCall (parameter i) n count args t = (count ≡ 0) × (t ≡ leaf base.type_sym (at_type (Param i)))
IsCall (symbol k) n count args t =
    ((count ≡ k) × (types : Tys) × (t ≡ node (User n) types args))
    ⊎ ((k ≡ 0) × (count ≡ 1) × (types : Tys) × IsApplication (leaf (User n) types) args t)
IsCall nothing n count args t = ⊥

abbrev pub count_of : Raws → ℕ
count_of none = 0
count_of (one e es) = 1 + count_of es

-- the parts of `{xs . P | E}` that stand under xs
pub record IsCollected (P E : List Variable → Term → Type 0) (A : Ty) (bound : ℕ) (vars : List Variable) (t : Term) : Type 0 where
  pub condition : Term
  pub value : Term
  pub is_condition : P vars condition
  pub is_value : E vars value
  -- the new variable is the one that bounds all of xs
  pub whole : t ≡ with_two base.and_sym Empty condition (with_two base.equal_sym (at_type A) (var bound) value)

-- `UNION` and `INTER` are `union` and `inter` of the set
abbrev pub IsOver : ℕ → (Term → Type 0) → Term → Type 0
IsOver m set t =
    MatchBool (m == open_brace) (set t)
    ((types : Tys) × (u : Term) × set u × (t ≡ with_one (if m == union_over_word then base.big_union_sym else base.big_inter_sym) types u))

-- t is `z = u`, where z is the innermost variable
abbrev pub is_z : Ty → Term → Term
is_z a u = with_two base.equal_sym (at_type a) (var 0) u

module _ (params : List (List ℕ)) (known : Known) (HasType : List Ty → Term → Ty → Type 0) where
  -- bound names one after the other, the first the outermost, around what stands inside
  abbrev pub Binds : Sym → List Binder → (List Variable → Term → Type 0) → List Variable → Term → Type 0
  Binds s [] inner vars t = inner vars t
  Binds s (b ∷ bs) inner vars t =
      (a : Ty) × (u : Term) × IsWritten params known b.type a × Binds s bs inner (binder_of b a ∷ vars) u × (t ≡ with_one s (at_type a) u)

  -- a pattern as an expression over its names
  abbrev pub IsPattern : Pattern → List Variable → Term → Type 0
  IsPattern (bound b) vars t = IsCall (meaning params known b.name vars 0) b.name 0 nil t
  IsPattern (pair x y) vars t =
      (types : Tys) × (u v : Term) × IsPattern x vars u × IsPattern y vars v × (t ≡ with_two base.maps_to_sym types u v)

  -- The term that a raw tree gives where these variables stand, the innermost first. Types of symbols and of binders are any.
  abbrev mutual
    pub Gives : Raw → List Variable → Term → Type 0
    Gives (word m) vars t = IsWord m t
    Gives (literal n) vars t = t ≡ lit n
    Gives (param i) vars t = t ≡ leaf base.type_sym (at_type (Param i))
    Gives (type_set r) vars t = (a : Ty) × (type_of_raw params known r ≡ Some a) × (t ≡ leaf base.type_sym (at_type a))
    Gives (call n es) vars t =
        (args : Terms) × GivesAll es vars args × IsCall (meaning params known n vars 0) n (count_of es) args t
    Gives (around m e) vars t = (u : Term) × Gives e vars u × IsPlain (entry_of around_symbols m) (cons u nil) t
    Gives (unary m e) vars t = (u : Term) × Gives e vars u × IsPlain (entry_of prefix_symbols m) (cons u nil) t
    Gives (binary m e f) vars t =
        (u v : Term) × Gives e vars u × Gives f vars v
        × IsPlain (entry_of infix_symbols m) (two_terms (swaps (entry_of infix_symbols m)) u v) t
    Gives (inverse e) vars t = (types : Tys) × (u : Term) × Gives e vars u × (t ≡ with_one base.inverse_sym types u)
    Gives (apply e f) vars t = (types : Tys) × (u v : Term) × Gives e vars u × Gives f vars v × (t ≡ with_two base.apply_sym types u v)
    Gives (image e f) vars t = (types : Tys) × (u v : Term) × Gives e vars u × Gives f vars v × (t ≡ with_two base.image_sym types u v)
    Gives (of_type e r) vars t = (a : Ty) × (type_of_raw params known r ≡ Some a) × Gives e vars t × HasType (context_of vars) t a
    Gives (quantified m bs e) vars t = Binds (quantifier m) bs (Gives e) vars t
    Gives (set_of b e) vars t = Binds base.set_sym (b ∷ []) (Gives e) vars t
    Gives (collected m bs e f) vars t =
        IsOver m (λ set. (a : Ty) × (u : Term)
        × Binds base.for_some_sym bs (IsCollected (Gives e) (Gives f) a (length bs)) (unnamed a ∷ vars) u
        × (set ≡ with_one base.set_sym (at_type a) u)) t
    Gives (lambda x e f) vars t =
        (a : Ty) × (u : Term)
        × Binds base.for_some_sym (pattern_binders x)
        (IsCollected (Gives e) (λ under v. (types : Tys) × (y z : Term) × IsPattern x under y × Gives f under z × (v ≡ with_two base.maps_to_sym types y z))
        a (length (pattern_binders x))) (unnamed a ∷ vars) u
        × (t ≡ with_one base.set_sym (at_type a) u)
    Gives (members none) vars t = (a : Ty) × (t ≡ leaf base.empty_sym (at_type a))
    Gives (members (one e es)) vars t =
        (a : Ty) × (u v : Term) × Gives e (unnamed a ∷ vars) u × GivesMembers es a (unnamed a ∷ vars) (is_z a u) v
        × (t ≡ with_one base.set_sym (at_type a) v)
    Gives (written r) vars t = ⊥

    pub GivesAll : Raws → List Variable → Terms → Type 0
    GivesAll none vars ts = ts ≡ nil
    GivesAll (one e es) vars ts = (t : Term) × (us : Terms) × Gives e vars t × GivesAll es vars us × (ts ≡ cons t us)

    -- `z = a or z = b or ..`, where `front` is the disjunction of the members so far
    pub GivesMembers : Raws → Ty → List Variable → Term → Term → Type 0
    GivesMembers none a vars front t = t ≡ front
    GivesMembers (one e es) a vars front t =
        (u : Term) × Gives e vars u × GivesMembers es a vars (with_two base.or_sym Empty front (is_z a u)) t
