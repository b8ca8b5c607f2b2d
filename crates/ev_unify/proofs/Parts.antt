-- A pattern's type by its head and its children.
use Rattle.std.specs.Prelude.{◌≡◌, ℕ, zero, suc, ◌<◌, ◌≤◌, true, false, List, [], ◌∷◌, ◌++◌, map, length, slice_index_or, IsTrue, refl}
use Rattle.std.proofs.Common.{ap, sym, ◌∙◌, arith, append_assoc}
use Rattle.ev_terms.specs.declared.types.Ty.{Ty, Int as IntType, Bool as BoolType, Prop, Param as ParamType, Data as DataType}
use Rattle.ev_terms.specs.declared.types.Tys.{Tys, Empty as NoTypes}
use Rattle.ev_terms.specs.Types.{pow, prod, more, type_list}
use Rattle.ev_terms.specs.Measures.{type_size, types_size}
use Rattle.ev_unify.specs.declared.patterns.Pat.{Pat, Int, Bool, Param, Data, Unknown}
use Rattle.ev_unify.specs.declared.patterns.Pats.{Pats, Empty}
use Rattle.ev_unify.specs.declared.patterns.Pat.TheVariants.{Pow, Prod}
use Rattle.ev_unify.specs.declared.patterns.Pats.TheVariants.{More}
use Rattle.ev_unify.specs.Patterns.{pow_pat, prod_pat, more_pats, PowPat-pow_pat, ProdPat-prod_pat, MorePats-more_pats, pat_list, value, values}
use Rattle.ev_unify.specs.inner.Parts.{Head, int_head, bool_head, prop_head, param_head, pow_head, prod_head, data_head, unknown_head, head, children_of, is_unknown}

-- at what the code writes
pub head-Pow : (a : Pat) → head (Pow a) ≡ pow_head
head-Pow a = ap head (PowPat-pow_pat a)

pub head-Prod : (a b : Pat) → head (Prod a b) ≡ prod_head
head-Prod a b = ap head (ProdPat-prod_pat a b)

pub children_of-Pow : (a : Pat) → children_of (Pow a) ≡ a ∷ []
children_of-Pow a = ap children_of (PowPat-pow_pat a)

pub children_of-Prod : (a b : Pat) → children_of (Prod a b) ≡ a ∷ b ∷ []
children_of-Prod a b = ap children_of (ProdPat-prod_pat a b)

pub is_unknown-Pow : (a : Pat) → is_unknown (Pow a) ≡ false
is_unknown-Pow a = ap is_unknown (PowPat-pow_pat a)

pub is_unknown-Prod : (a b : Pat) → is_unknown (Prod a b) ≡ false
is_unknown-Prod a b = ap is_unknown (ProdPat-prod_pat a b)

pub pat_list-More : (a : Pat) (rest : Pats) → pat_list (More a rest) ≡ a ∷ pat_list rest
pat_list-More a rest = ap pat_list (MorePats-more_pats a rest)

-- the code's lists of children
pub push_two : (P P' P'' : List Pat) (p a b a' b' : Pat) → p ≡ Prod a b → a' ≡ a → b' ≡ b → P' ≡ P ++ a' ∷ [] → P'' ≡ P' ++ b' ∷ [] → P'' ≡ P ++ children_of p
push_two P P' P'' p a b a' b' ep ea eb e e' =
    e' ∙ ap (λ x. x ++ b' ∷ []) e ∙ append_assoc P (a' ∷ []) (b' ∷ []) ∙ ap (λ x. P ++ x ∷ b' ∷ []) ea ∙ ap (λ x. P ++ a ∷ x ∷ []) eb ∙ ap (λ x. P ++ x) (sym (ap children_of ep ∙ children_of-Prod a b))

pub push_more : (P P' Q : List Pat) (a : Pat) (left rest : Pats) → left ≡ More a rest → P' ≡ P ++ a ∷ [] → P ++ pat_list left ≡ Q → P' ++ pat_list rest ≡ Q
push_more P P' Q a left rest e e' h =
    ap (λ x. x ++ pat_list rest) e' ∙ append_assoc P (a ∷ []) (pat_list rest) ∙ ap (λ x. P ++ x) (sym (pat_list-More a rest) ∙ ap pat_list (sym e)) ∙ h

pub ruleset walk = (head-Pow, head-Prod, children_of-Pow, children_of-Prod, is_unknown-Pow, is_unknown-Prod, pat_list-More, push_two, push_more)

-- what a pattern is where it is none of a form
pub known_by : (p : Pat) → ((u : ℕ) → p ≡ Unknown u → ⊥) → is_unknown p ≡ false
known_by Int n = refl
known_by Bool n = refl
known_by (Param j) n = refl
known_by (pow_pat x) n = refl
known_by (prod_pat x y) n = refl
known_by (Data m ps) n = refl
known_by (Unknown w) n = absurd (n w refl)

abbrev pub Differ : Pat → Pat → Type 0
Differ a b = (IsTrue false → head a ≡ head b) × (head a ≡ head b → IsTrue false)

pub differ : (a b : Pat) (x : Head) → head a ≡ x → (head b ≡ x → ⊥) → Differ a b
differ a b x e n = (λ f. let g : false ≡ true = f in cc, λ q. absurd (n (sym q ∙ e)))

pub int_only : (b : Pat) → (b ≡ Int → ⊥) → head b ≡ int_head → ⊥
int_only Int n e = n refl
int_only Bool n e = cc
int_only (Param j) n e = cc
int_only (pow_pat x) n e = cc
int_only (prod_pat x y) n e = cc
int_only (Data m ps) n e = cc
int_only (Unknown w) n e = cc

pub bool_only : (b : Pat) → (b ≡ Bool → ⊥) → head b ≡ bool_head → ⊥
bool_only Int n e = cc
bool_only Bool n e = n refl
bool_only (Param j) n e = cc
bool_only (pow_pat x) n e = cc
bool_only (prod_pat x y) n e = cc
bool_only (Data m ps) n e = cc
bool_only (Unknown w) n e = cc

pub param_only : (b : Pat) (i : ℕ) → ((j : ℕ) → b ≡ Param j → ⊥) → head b ≡ param_head i → ⊥
param_only Int i n e = cc
param_only Bool i n e = cc
param_only (Param j) i n e = n j refl
param_only (pow_pat x) i n e = cc
param_only (prod_pat x y) i n e = cc
param_only (Data m ps) i n e = cc
param_only (Unknown w) i n e = cc

pub pow_only : (b : Pat) → ((x : Pat) → b ≡ Pow x → ⊥) → head b ≡ pow_head → ⊥
pow_only Int n e = cc
pow_only Bool n e = cc
pow_only (Param j) n e = cc
pow_only (pow_pat x) n e = n x (sym (PowPat-pow_pat x))
pow_only (prod_pat x y) n e = cc
pow_only (Data m ps) n e = cc
pow_only (Unknown w) n e = cc

pub prod_only : (b : Pat) → ((x y : Pat) → b ≡ Prod x y → ⊥) → head b ≡ prod_head → ⊥
prod_only Int n e = cc
prod_only Bool n e = cc
prod_only (Param j) n e = cc
prod_only (pow_pat x) n e = cc
prod_only (prod_pat x y) n e = n x y (sym (ProdPat-prod_pat x y))
prod_only (Data m ps) n e = cc
prod_only (Unknown w) n e = cc

pub data_only : (b : Pat) (name : List ℕ) → ((x : List ℕ) (y : Pats) → b ≡ Data x y → ⊥) → head b ≡ data_head name → ⊥
data_only Int name n e = cc
data_only Bool name n e = cc
data_only (Param j) name n e = cc
data_only (pow_pat x) name n e = cc
data_only (prod_pat x y) name n e = cc
data_only (Data m ps) name n e = n m ps refl
data_only (Unknown w) name n e = cc

pub unknown_only : (b : Pat) (u : ℕ) → ((w : ℕ) → b ≡ Unknown w → ⊥) → head b ≡ unknown_head u → ⊥
unknown_only Int u n e = cc
unknown_only Bool u n e = cc
unknown_only (Param j) u n e = cc
unknown_only (pow_pat x) u n e = cc
unknown_only (prod_pat x y) u n e = cc
unknown_only (Data m ps) u n e = cc
unknown_only (Unknown w) u n e = n w refl

-- a type by its head and its children
abbrev pub type_head : Ty → Head
type_head IntType = int_head
type_head BoolType = bool_head
type_head Prop = prop_head
type_head (ParamType i) = param_head i
type_head (pow a) = pow_head
type_head (prod a b) = prod_head
type_head (DataType n As) = data_head n

abbrev pub type_children : Ty → List Ty
type_children IntType = []
type_children BoolType = []
type_children Prop = []
type_children (ParamType i) = []
type_children (pow a) = a ∷ []
type_children (prod a b) = a ∷ b ∷ []
type_children (DataType n As) = type_list As

abbrev first_of : List Ty → Ty
first_of [] = IntType
first_of (A ∷ As) = A

abbrev second_of : List Ty → Ty
second_of [] = IntType
second_of (A ∷ As) = first_of As

abbrev types : List Ty → Tys
types [] = NoTypes
types (A ∷ As) = more A (types As)

abbrev rebuilt : Head → List Ty → Ty
rebuilt int_head As = IntType
rebuilt bool_head As = BoolType
rebuilt prop_head As = Prop
rebuilt (param_head i) As = ParamType i
rebuilt pow_head As = pow (first_of As)
rebuilt prod_head As = prod (first_of As) (second_of As)
rebuilt (data_head n) As = DataType n (types As)
rebuilt _ As = IntType

types-type_list : (As : Tys) → types (type_list As) ≡ As
types-type_list NoTypes = refl
types-type_list (more A As) = ap (more A) (types-type_list As)

rebuilt_is : (A : Ty) → rebuilt (type_head A) (type_children A) ≡ A
rebuilt_is IntType = refl
rebuilt_is BoolType = refl
rebuilt_is Prop = refl
rebuilt_is (ParamType i) = refl
rebuilt_is (pow a) = refl
rebuilt_is (prod a b) = refl
rebuilt_is (DataType n As) = ap (DataType n) (types-type_list As)

type_by : (A B : Ty) → type_head A ≡ type_head B → type_children A ≡ type_children B → A ≡ B
type_by A B h k = sym (rebuilt_is A) ∙ ap (λ x. rebuilt x (type_children A)) h ∙ ap (rebuilt (type_head B)) k ∙ rebuilt_is B

pub head_value : (σ : ℕ → Ty) (p : Pat) → is_unknown p ≡ false → type_head (value σ p) ≡ head p
head_value σ Int e = refl
head_value σ Bool e = refl
head_value σ (Param i) e = refl
head_value σ (pow_pat a) e = refl
head_value σ (prod_pat a b) e = refl
head_value σ (Data n ps) e = refl
head_value σ (Unknown u) e = cc

list_values : (σ : ℕ → Ty) (ps : Pats) → type_list (values σ ps) ≡ map (value σ) (pat_list ps)
list_values σ Empty = refl
list_values σ (more_pats p ps) = ap (λ As. value σ p ∷ As) (list_values σ ps)

pub children_value : (σ : ℕ → Ty) (p : Pat) → is_unknown p ≡ false → type_children (value σ p) ≡ map (value σ) (children_of p)
children_value σ Int e = refl
children_value σ Bool e = refl
children_value σ (Param i) e = refl
children_value σ (pow_pat a) e = refl
children_value σ (prod_pat a b) e = refl
children_value σ (Data n ps) e = list_values σ ps
children_value σ (Unknown u) e = cc

-- patterns that are no unknowns are one type just where their heads are the same and their children are one type each
pub value_by : (σ : ℕ → Ty) (p q : Pat) → is_unknown p ≡ false → is_unknown q ≡ false → head p ≡ head q → map (value σ) (children_of p) ≡ map (value σ) (children_of q) → value σ p ≡ value σ q
value_by σ p q known known' h k =
    type_by (value σ p) (value σ q) (head_value σ p known ∙ h ∙ sym (head_value σ q known')) (children_value σ p known ∙ k ∙ sym (children_value σ q known'))

pub head_by : (σ : ℕ → Ty) (p q : Pat) → is_unknown p ≡ false → is_unknown q ≡ false → value σ p ≡ value σ q → head p ≡ head q
head_by σ p q known known' e = sym (head_value σ p known) ∙ ap type_head e ∙ head_value σ q known'

pub children_by : (σ : ℕ → Ty) (p q : Pat) → is_unknown p ≡ false → is_unknown q ≡ false → value σ p ≡ value σ q → map (value σ) (children_of p) ≡ map (value σ) (children_of q)
children_by σ p q known known' e = sym (children_value σ p known) ∙ ap type_children e ∙ children_value σ q known'

-- a child is smaller
in_list : (σ : ℕ → Ty) (ps : Pats) (k : ℕ) → k < length (pat_list ps) → type_size (value σ (slice_index_or (pat_list ps) k Int)) ≤ types_size (values σ ps)
in_list σ Empty k h = absurd (omega (arith, h))
in_list σ (more_pats p ps) zero h = omega arith
in_list σ (more_pats p ps) (suc k) h = omega (arith, in_list σ ps k (omega (arith, h)))

pub smaller_child : (σ : ℕ → Ty) (p : Pat) (k : ℕ) → k < length (children_of p) → type_size (value σ (slice_index_or (children_of p) k Int)) < type_size (value σ p)
smaller_child σ Int k h = absurd (omega (arith, h))
smaller_child σ Bool k h = absurd (omega (arith, h))
smaller_child σ (Param i) k h = absurd (omega (arith, h))
smaller_child σ (pow_pat a) zero h = omega arith
smaller_child σ (pow_pat a) (suc k) h = absurd (omega (arith, h))
smaller_child σ (prod_pat a b) zero h = omega arith
smaller_child σ (prod_pat a b) (suc zero) h = omega arith
smaller_child σ (prod_pat a b) (suc (suc k)) h = absurd (omega (arith, h))
smaller_child σ (Data n ps) k h = omega (arith, in_list σ ps k h)
smaller_child σ (Unknown u) k h = absurd (omega (arith, h))
