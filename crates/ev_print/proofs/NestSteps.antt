-- The number of variables around what is written stays small as the text grows.
use Rattle.std.proofs.Common.{◌≡◌, ℕ, zero, suc, ◌+◌, ◌≤◌, Bool as Boolean, true, false, ◌&&◌, ◌||◌, List, [], ◌∷◌, ◌++◌, length, refl, ap, sym, ◌∙◌, arith}
use Rattle.std.specs.Prelude.{slice_index_or, ◌==◌, if◌then◌else◌, codes, decimal}
use Rattle.std.proofs.lemmas.List.{length-append}
use Rattle.std.proofs.lemmas.Bool.{eqb-true, leb-true}
use Rattle.ev_terms.specs.declared.types.Ty.{Ty}
use Rattle.ev_terms.specs.declared.types.Sym.{Sym}
use Rattle.ev_terms.specs.declared.types.Sym.TheVariants.{Base, User}
use Rattle.ev_terms.specs.Symbols.{binds}
use Rattle.ev_terms.specs.Term.{Terms}
use Rattle.ev_typing.specs.Env.{Env}
use Rattle.ev_print.specs.declared.styles.Style.{Style}
use Rattle.ev_print.specs.declared.styles.Style.TheVariants.{Word, Braces, Infix, Not, Minus, Inverse, Around, Quantifier, SetFormer, Whole, Image, Application}
use Rattle.ev_print.specs.Styles.{base_styles, base_style}
use Rattle.ev_print.specs.Canon.{bound_text, type_text, written, written_symbol, called_text, texts, pieces}
use Rattle.ev_print.specs.inner.Nesting.{IsNested, under}
use Rattle.ev_print.proofs.Rows.{both}

pub stays : (n : ℕ) (old new x : List ℕ) → IsNested n old → new ≡ old ++ x → IsNested n new
stays n old new x h e =
    let long : length new ≡ length old + length x = ap length e ∙ length-append old x in
    record { within = omega (arith, h.within, long) }

some_long : (c : ℕ) (cs : List ℕ) → 1 ≤ length (c ∷ cs)
some_long c cs = omega arith

bound_long : (n : ℕ) (a : Ty) → 1 ≤ length (bound_text n a)
bound_long n a = some_long 118 (decimal n ++ (codes " oftype " ++ type_text a))

-- one more variable, once it is written
pub deeper : (n : ℕ) (old new : List ℕ) (a : Ty) → IsNested n old → new ≡ old ++ bound_text n a → IsNested (n + 1) new
deeper n old new a h e =
    let long : length new ≡ length old + length (bound_text n a) = ap length e ∙ length-append old (bound_text n a) in
    record { within = omega (arith, h.within, long, bound_long n a) }

-- the rows of the base symbols that bind have the styles of binders
abbrev style_binds : Style → ℕ
style_binds (Quantifier m) = 1
style_binds SetFormer = 1
style_binds _ = 0

abbrev row_binds : ℕ → ℕ
row_binds k = if (k == 7 || k == 8) || k == 29 then 1 else 0

abbrev rows_bind : ℕ → List Style → Boolean
rows_bind i [] = true
rows_bind i (s ∷ ss) = (row_binds i == style_binds s) && rows_bind (i + 1) ss

all_bind : rows_bind 0 base_styles ≡ true
all_bind = refl

beyond : (k : ℕ) → 30 ≤ k → row_binds k ≡ 0
beyond k h = by (k == 7) (k == 8) (k == 29) refl refl refl
  where
    by : (a b c : Boolean) → (k == 7) ≡ a → (k == 8) ≡ b → (k == 29) ≡ c → row_binds k ≡ 0
    by true b c p q r = let e : k ≡ 7 = eqb-true k 7 p in absurd (omega (arith, e, h))
    by false true c p q r = let e : k ≡ 8 = eqb-true k 8 q in absurd (omega (arith, e, h))
    by false false true p q r = let e : k ≡ 29 = eqb-true k 29 r in absurd (omega (arith, e, h))
    by false false false p q r =
        ap (λ x. if (x || k == 8) || k == 29 then 1 else 0) p ∙ ap (λ x. if (false || x) || k == 29 then 1 else 0) q
        ∙ ap (λ x. if (false || false) || x then 1 else 0) r

row_at : (i : ℕ) (ss : List Style) (k : ℕ) → rows_bind i ss ≡ true → 30 ≤ i + length ss → row_binds (i + k) ≡ style_binds (slice_index_or ss k Application)
row_at i [] k e h = beyond (i + k) (omega (arith, h))
row_at i (s ∷ ss) zero e h =
    let same : i + 0 ≡ i = omega arith in
    ap row_binds same ∙ eqb-true (row_binds i) (style_binds s) (both _ _ e).0
row_at i (s ∷ ss) (suc k) e h =
    let next : i + suc k ≡ i + 1 + k = omega arith in
    ap row_binds next ∙ row_at (i + 1) ss k (both _ _ e).1 (omega (arith, h))

base_rows : (k : ℕ) → row_binds k ≡ style_binds (base_style k)
base_rows k =
    let same : k ≡ 0 + k = omega arith in
    ap row_binds same ∙ row_at 0 base_styles k all_bind (leb-true 30 (0 + length base_styles) refl)

base_binds : (k : ℕ) → binds (Base k) ≡ style_binds (base_style k)
unfolding binds
base_binds k = base_rows k

plus_nothing : (n : ℕ) → n + 0 ≡ n
plus_nothing n = omega arith

added : (s : Style) (n : ℕ) → n + style_binds s ≡ under s n
added (Quantifier m) n = refl
added SetFormer n = refl
added (Word m) n = plus_nothing n
added Braces n = plus_nothing n
added (Infix m) n = plus_nothing n
added Not n = plus_nothing n
added Minus n = plus_nothing n
added Inverse n = plus_nothing n
added (Around m) n = plus_nothing n
added Whole n = plus_nothing n
added Image n = plus_nothing n
added Application n = plus_nothing n

pub base_under : (k n : ℕ) → under (base_style k) n ≡ n + binds (Base k)
base_under k n = sym (ap (λ b. n + b) (base_binds k) ∙ added (base_style k) n)

pub user_under : (name : List ℕ) (n : ℕ) → n ≡ n + binds (User name)
unfolding binds
user_under name n = omega arith

-- a symbol is written as its style or its name says
pub base_written : (env : Env) (s : Sym) (k n : ℕ) (style : Style) (types : List Ty) (ts : Terms) → s ≡ Base k → style ≡ base_style k
    → written style n types (pieces env (under style n) ts) ≡ written_symbol s n types (pieces env (n + binds s) ts)
base_written env s k n style types ts e f =
    ap (λ x. written x n types (pieces env (under x n) ts)) f ∙ ap (λ m. written (base_style k) n types (pieces env m ts)) (base_under k n)
    ∙ sym (ap (λ x. written_symbol x n types (pieces env (n + binds x) ts)) e)

pub user_written : (env : Env) (s : Sym) (name : List ℕ) (n : ℕ) (types : List Ty) (ts : Terms) → s ≡ User name
    → called_text name (texts (pieces env n ts)) ≡ written_symbol s n types (pieces env (n + binds s) ts)
user_written env s name n types ts e =
    ap (λ m. called_text name (texts (pieces env m ts))) (user_under name n) ∙ sym (ap (λ x. written_symbol x n types (pieces env (n + binds x) ts)) e)
