-- The texts of terms at what the code reads.
use Rattle.std.proofs.Common.{◌≡◌, ℕ, ◌+◌, ◌-◌, ◌<◌, Bool as Boolean, true, false, ◌&&◌, ◌||◌, not, List, [], ◌∷◌, ◌++◌, length, drop, get_or, refl, ap, sym, ◌∙◌, arith}
use Rattle.std.specs.Prelude.{Option, Some, None, codes, decimal, is_some, if◌then◌else◌}
use Rattle.std.proofs.lemmas.List.{append_assoc, append-nil}
use Rattle.ev_terms.specs.declared.types.Ty.{Ty}
use Rattle.ev_terms.specs.declared.types.Tys.{Tys}
use Rattle.ev_terms.specs.declared.types.Ty.TheVariants.{Pow, Prod}
use Rattle.ev_terms.specs.declared.types.Tys.TheVariants.{More}
use Rattle.ev_terms.specs.declared.types.Sym.{Sym}
use Rattle.ev_terms.specs.Types.{type_list, Pow-pow, Prod-prod, More-more}
use Rattle.ev_print.specs.Canon.{Piece, written, texts, with_commas, called_text, in_parens, operand_text, function_text, first_type, whole_text, variable_text, bound_text, type_text, written_symbol, is_closed_symbol, symbol_shows_type, leaves_open, annotation, annotated, piece, pieces}
use Rattle.ev_terms.specs.declared.types.Sym.TheVariants.{Base, User}
use Rattle.ev_terms.specs.Term.{Term, Terms, var, lit, node, terms, var_of, lit_of, sym_of, types_of}
use Rattle.ev_terms.specs.Symbols.{binds}
use Rattle.ev_terms.specs.Substitution.{type_inst, type_at}
use Rattle.ev_typing.specs.Profiles.{Profile}
use Rattle.ev_typing.specs.Env.{Env, profile}
use Rattle.ev_terms.proofs.Children.{depth_at, drop_at, drop_all}
use Rattle.ev_typing.proofs.Checks.{inner_depth}
use Rattle.ev_print.specs.Styles.{base_style, is_closed}
use Rattle.ev_print.specs.inner.OpenTypes.{open_type, closed_term, function_term, type_word_text}
use Rattle.ev_print.specs.declared.styles.Style.TheVariants.{Infix, Image, Application}
use Rattle.ev_print.specs.inner.Lists.{after_commas}
use Rattle.ev_print.proofs.TypeSteps.{list_gives}
use Rattle.ev_print.proofs.NestSteps.{stays, deeper}
use Rattle.ev_print.proofs.Rows.{is_prop, both, base_row}

pub first_type-More : (a : Ty) (rest : Tys) → first_type (type_list (More a rest)) ≡ a
first_type-More a rest = ap (λ ts. first_type (type_list ts)) (More-more a rest)

pub ruleset firsts = (first_type-More)

pub whole_text-Pow : (a : Ty) → whole_text (Pow a) ≡ type_word_text (Pow a)
whole_text-Pow a = ap whole_text (Pow-pow a) ∙ ap type_word_text (sym (Pow-pow a))

pub whole_text-Prod : (a b : Ty) → whole_text (Prod a b) ≡ type_word_text (Prod a b)
whole_text-Prod a b = ap whole_text (Prod-prod a b) ∙ ap type_word_text (sym (Prod-prod a b))

pub ruleset wholes = (whole_text-Pow, whole_text-Prod)

pub bound_step : (old mid pre new : List ℕ) (n : ℕ) (types rest : Tys) (a x : Ty) → types ≡ More a rest → x ≡ a → mid ≡ old ++ variable_text n → pre ≡ mid ++ codes " oftype "
    → new ≡ pre ++ type_text x → new ≡ old ++ bound_text n (first_type (type_list types))
bound_step old mid pre new n types rest a x e f p q r =
    r ∙ ap (λ t. t ++ type_text x) (q ∙ ap (λ t. t ++ codes " oftype ") p ∙ append_assoc old (variable_text n) (codes " oftype "))
    ∙ append_assoc old (variable_text n ++ codes " oftype ") (type_text x)
    ∙ ap (λ t. old ++ t) (append_assoc (variable_text n) (codes " oftype ") (type_text x))
    ∙ ap (λ b. old ++ bound_text n b) (f ∙ sym (ap (λ ts. first_type (type_list ts)) e ∙ first_type-More a rest))

pub whole_step : (old new : List ℕ) (types rest : Tys) (a x : Ty) → types ≡ More a rest → x ≡ a → new ≡ old ++ whole_text x → new ≡ old ++ whole_text (first_type (type_list types))
whole_step old new types rest a x e f r = r ∙ ap (λ b. old ++ whole_text b) (f ∙ sym (ap (λ ts. first_type (type_list ts)) e ∙ first_type-More a rest))

-- the form of a term
pub var_here : (env : Env) (n i : ℕ) (t : Term) → Some i ≡ var_of t → (piece env n t).text ≡ variable_text (n - (i + 1))
var_here env n i (var j) e = let m : i ≡ j = cc in ap (λ k. variable_text (n - (k + 1))) (sym m)
var_here env n i (lit k) e = absurd (cc)
var_here env n i (node s As ts) e = absurd (cc)

pub lit_here : (env : Env) (n k : ℕ) (t : Term) → Some k ≡ lit_of t → (piece env n t).text ≡ decimal k
lit_here env n k (lit j) e = let m : k ≡ j = cc in ap decimal (sym m)
lit_here env n k (var i) e = absurd (cc)
lit_here env n k (node s As ts) e = absurd (cc)

pub some_form : (t : Term) → None ≡ var_of t → None ≡ lit_of t → None ≡ sym_of t → ⊥
some_form (var i) a b c = absurd (cc)
some_form (lit k) a b c = absurd (cc)
some_form (node s As ts) a b c = absurd (cc)

pub some_types : (t : Term) (s : Sym) → Some s ≡ sym_of t → None ≡ types_of t → ⊥
some_types (var i) s a b = absurd (cc)
some_types (lit k) s a b = absurd (cc)
some_types (node s' As ts) s a b = absurd (cc)

-- operands and functions
closed_piece : (env : Env) (n : ℕ) (t : Term) → (piece env n t).closed ≡ closed_term t
closed_piece env n (var i) = refl
closed_piece env n (lit k) = refl
closed_piece env n (node s As ts) = by (profile env s) refl
  where
    inner : Piece
    inner = record { text = written_symbol s n (type_list As) (pieces env (n + binds s) ts); closed = is_closed_symbol s; function = false }

    closed : (s : Sym) (p : Profile) → profile env s ≡ Some p → (not (symbol_shows_type s) && leaves_open p) ≡ true → is_closed_symbol s ≡ true
    closed (User w) p e f = refl
    closed (Base k) p e f =
        (both (is_closed (base_style k)) (not (is_prop p.result))
        (ap (λ b. not b || (is_closed (base_style k) && not (is_prop p.result))) (sym f) ∙ (both _ _ (base_row k p e)).1)).0

    by : (o : Option Profile) → profile env s ≡ o → (annotated (annotation s (profile env s) As) inner).closed ≡ is_closed_symbol s
    by None e = ap (λ o. (annotated (annotation s o As) inner).closed) e
    by (Some p) e = ap (λ o. (annotated (annotation s o As) inner).closed) e ∙ choose (not (symbol_shows_type s) && leaves_open p) refl
      where
        choose : (b : Boolean) → (not (symbol_shows_type s) && leaves_open p) ≡ b
            → (annotated (if b then Some (type_inst (type_at As) p.result) else None) inner).closed ≡ is_closed_symbol s
        choose true f = sym (closed s p e f)
        choose false f = refl

pub operand_plain : (env : Env) (n : ℕ) (t : Term) (b : Boolean) → b ≡ closed_term t → b ≡ true → operand_text (piece env n t) ≡ (piece env n t).text
operand_plain env n t b e f = ap (λ c. if c then (piece env n t).text else in_parens (piece env n t).text) (closed_piece env n t ∙ sym e ∙ f)

pub operand_parens : (env : Env) (n : ℕ) (t : Term) (b : Boolean) → b ≡ closed_term t → b ≡ false → operand_text (piece env n t) ≡ in_parens (piece env n t).text
operand_parens env n t b e f = ap (λ c. if c then (piece env n t).text else in_parens (piece env n t).text) (closed_piece env n t ∙ sym e ∙ f)

function_piece : (env : Env) (n : ℕ) (t : Term) → (piece env n t).function ≡ function_term env t
function_piece env n (var i) = refl
function_piece env n (lit k) = refl
function_piece env n (node s As ts) = by (profile env s)
  where
    inner : Piece
    inner = record { text = written_symbol s n (type_list As) (pieces env (n + binds s) ts); closed = is_closed_symbol s; function = false }

    by : (o : Option Profile) → (annotated (annotation s o As) inner).function ≡ is_some (open_type s o)
    by None = refl
    by (Some p) = choose (not (symbol_shows_type s) && leaves_open p)
      where
        choose : (b : Boolean) → (annotated (if b then Some (type_inst (type_at As) p.result) else None) inner).function ≡ is_some (if b then Some p.result else None)
        choose true = refl
        choose false = refl

pub function_plain : (env : Env) (n : ℕ) (t : Term) (b : Boolean) → b ≡ function_term env t → b ≡ true → function_text (piece env n t) ≡ (piece env n t).text
function_plain env n t b e f = ap (λ c. if c then (piece env n t).text else in_parens (piece env n t).text) (function_piece env n t ∙ sym e ∙ f)

pub function_parens : (env : Env) (n : ℕ) (t : Term) (b : Boolean) → b ≡ function_term env t → b ≡ false → function_text (piece env n t) ≡ in_parens (piece env n t).text
function_parens env n t b e f = ap (λ c. if c then (piece env n t).text else in_parens (piece env n t).text) (function_piece env n t ∙ sym e ∙ f)

pub function_leaf : (env : Env) (t : Term) → None ≡ sym_of t → is_some (var_of t) ≡ function_term env t
function_leaf env (var i) e = refl
function_leaf env (lit k) e = refl
function_leaf env (node s As ts) e = absurd (cc)

pub function_node : (env : Env) (t : Term) (s : Sym) → Some s ≡ sym_of t → is_some (open_type s (profile env s)) ≡ function_term env t
function_node env (var i) s e = absurd (cc)
function_node env (lit k) s e = absurd (cc)
function_node env (node s' As ts) s e = let m : s ≡ s' = cc in ap (λ x. is_some (open_type x (profile env x))) m

pub ruleset functions = (function_leaf, function_node)

-- the texts of a node, annotated or not
pub node_plain : (env : Env) (n : ℕ) (s : Sym) (As : Tys) (ts : Terms) → None ≡ annotation s (profile env s) As
    → (piece env n (node s As ts)).text ≡ written_symbol s n (type_list As) (pieces env (n + binds s) ts)
node_plain env n s As ts e =
    ap (λ o. (annotated o (record { text = written_symbol s n (type_list As) (pieces env (n + binds s) ts); closed = is_closed_symbol s; function = false })).text) (sym e)

pub node_annotated : (env : Env) (n : ℕ) (s : Sym) (As : Tys) (ts : Terms) (A : Ty) → Some A ≡ annotation s (profile env s) As
    → (piece env n (node s As ts)).text ≡ in_parens (written_symbol s n (type_list As) (pieces env (n + binds s) ts) ++ (codes " oftype " ++ type_text A))
node_annotated env n s As ts A e =
    ap (λ o. (annotated o (record { text = written_symbol s n (type_list As) (pieces env (n + binds s) ts); closed = is_closed_symbol s; function = false })).text) (sym e)

-- the first child or two
pub first_piece : (env : Env) (k : ℕ) (ts : List Term) (t : Term) → t ≡ get_or ts 0 t → 0 < length ts → (ps : List Piece) × (pieces env k (terms ts) ≡ piece env k t ∷ ps)
first_piece env k [] t e h = absurd (omega arith)
first_piece env k (u ∷ us) t e h = (pieces env k (terms us), ap (λ x. piece env k x ∷ pieces env k (terms us)) (sym e))

pub two_pieces : (env : Env) (k : ℕ) (ts : List Term) (t u : Term) → t ≡ get_or ts 0 t → u ≡ get_or ts 1 u → 1 < length ts
    → (ps : List Piece) × (pieces env k (terms ts) ≡ piece env k t ∷ piece env k u ∷ ps)
two_pieces env k [] t u e f h = absurd (omega arith)
two_pieces env k (x ∷ []) t u e f h = absurd (omega arith)
two_pieces env k (x ∷ y ∷ us) t u e f h =
    (pieces env k (terms us), ap (λ z. piece env k z ∷ piece env k y ∷ pieces env k (terms us)) (sym e) ∙ ap (λ z. piece env k t ∷ piece env k z ∷ pieces env k (terms us)) (sym f))

pub ruleset leaves = (var_here, lit_here, some_form, some_types, inner_depth)

pub ruleset nesting = (stays, deeper)

pub ruleset operands = (operand_plain, operand_parens, function_plain, function_parens)

pub ruleset children = (depth_at, stays, deeper)

pub ruleset rests = (depth_at, drop_at, drop_all, stays)

-- too few children
pub infix_few : (env : Env) (k m : ℕ) (ts : List Term) → length ts < 2 → [] ≡ written (Infix m) 0 [] (pieces env k (terms ts))
infix_few env k m [] h = refl
infix_few env k m (t ∷ []) h = refl
infix_few env k m (t ∷ u ∷ ts) h = absurd (omega arith)

pub image_few : (env : Env) (k : ℕ) (ts : List Term) → length ts < 2 → [] ≡ written Image 0 [] (pieces env k (terms ts))
image_few env k [] h = refl
image_few env k (t ∷ []) h = refl
image_few env k (t ∷ u ∷ ts) h = absurd (omega arith)

pub application_few : (env : Env) (k : ℕ) (ts : List Term) → length ts < 2 → [] ≡ written Application 0 [] (pieces env k (terms ts))
application_few env k [] h = refl
application_few env k (t ∷ []) h = refl
application_few env k (t ∷ u ∷ ts) h = absurd (omega arith)

pub nothing_more : (old new : List ℕ) → [] ≡ new → old ≡ old ++ new
nothing_more old new e = sym (append-nil old) ∙ ap (λ x. old ++ x) e

-- a name with its arguments
pub call_gives : (env : Env) (k : ℕ) (ts rest : List Term) (t : Term) (old a b c d e n m : List ℕ) → t ≡ get_or ts 0 t → 0 < length ts → rest ≡ drop 1 ts
    → m ≡ n → a ≡ old ++ m → b ≡ a ++ codes "(" → c ≡ b ++ (piece env k t).text → d ≡ c ++ after_commas (texts (pieces env k (terms rest))) → e ≡ d ++ codes ")"
    → e ≡ old ++ called_text n (texts (pieces env k (terms ts)))
call_gives env k [] rest t old a b c d e n m at l r p q s u v w = absurd (omega arith)
call_gives env k (x ∷ xs) rest t old a b c d e n m at l r p q s u v w =
    list_gives a b c d e (piece env k t).text (texts (pieces env k (terms rest))) s u v w
    ∙ ap (λ y. y ++ in_parens (with_commas ((piece env k t).text ∷ texts (pieces env k (terms rest))))) (q ∙ ap (λ y. old ++ y) p)
    ∙ append_assoc old n _
    ∙ ap (λ y. old ++ (n ++ in_parens (with_commas ((piece env k y).text ∷ texts (pieces env k (terms rest)))))) at
    ∙ ap (λ ys. old ++ (n ++ in_parens (with_commas ((piece env k x).text ∷ texts (pieces env k (terms ys)))))) r
