-- The texts of types at what the code writes.
use Rattle.std.proofs.Common.{◌≡◌, ℕ, ◌+◌, ◌*◌, ◌<◌, ◌≤◌, arith, true, List, [], ◌∷◌, ◌++◌, ap, sym, ◌∙◌}
use Rattle.std.specs.Prelude.{codes, Result, Ok, Err, OnOk}
use Rattle.std.proofs.lemmas.List.{append_assoc, append-nil}
use Rattle.ev_terms.specs.declared.types.Ty.{Ty}
use Rattle.ev_terms.specs.declared.types.Tys.{Tys}
use Rattle.ev_terms.specs.declared.types.Ty.TheVariants.{Pow, Prod}
use Rattle.ev_terms.specs.declared.types.Tys.TheVariants.{More}
use Rattle.ev_terms.specs.Types.{pow, prod, Pow-pow, Prod-prod, More-more}
use Rattle.ev_terms.specs.Measures.{type_size, types_size}
use Rattle.ev_print.specs.Canon.{is_product, type_text, type_texts, with_commas, in_parens, called_text}
use Rattle.ev_print.specs.inner.Lists.{after_commas}

pub type_text-Pow : (a : Ty) → type_text (Pow a) ≡ type_text (pow a)
type_text-Pow a = ap type_text (Pow-pow a)

pub type_text-Prod : (a b : Ty) → type_text (Prod a b) ≡ type_text (prod a b)
type_text-Prod a b = ap type_text (Prod-prod a b)

pub is_product-Prod : (a b : Ty) → is_product (Prod a b) ≡ true
is_product-Prod a b = ap is_product (Prod-prod a b)

pub is_product-Pow : (a : Ty) → is_product (Pow a) ≡ is_product (pow a)
is_product-Pow a = ap is_product (Pow-pow a)

pub type_texts-More : (a : Ty) (rest : Tys) → type_texts (More a rest) ≡ type_text a ∷ type_texts rest
type_texts-More a rest = ap type_texts (More-more a rest)

pub commas : (text : List ℕ) (texts : List (List ℕ)) → with_commas (text ∷ texts) ≡ text ++ after_commas texts
commas text [] = sym (append-nil text)
commas text (next ∷ texts) = ap (λ t. text ++ (codes ", " ++ t)) (commas next texts)

pub type_size-Pow : (a : Ty) → type_size (Pow a) ≡ 1 + type_size a
type_size-Pow a = ap type_size (Pow-pow a)

pub type_size-Prod : (a b : Ty) → type_size (Prod a b) ≡ 1 + (type_size a + type_size b)
type_size-Prod a b = ap type_size (Prod-prod a b)

pub types_size-More : (a : Ty) (rest : Tys) → types_size (More a rest) ≡ type_size a + types_size rest
types_size-More a rest = ap types_size (More-more a rest)

-- a name before types in parentheses
pub called_step : (n m : List ℕ) (types rest got : Tys) (first a : Ty) (old mid new : List ℕ) → types ≡ More a rest → first ≡ a → got ≡ rest → m ≡ n → mid ≡ old ++ m
    → new ≡ mid ++ in_parens (with_commas (type_text first ∷ type_texts got)) → new ≡ old ++ called_text n (type_texts types)
called_step n m types rest got first a old mid new e f g s p q =
    q ∙ ap (λ t. t ++ in_parens (with_commas (type_text first ∷ type_texts got))) (p ∙ ap (λ t. old ++ t) s)
    ∙ append_assoc old n (in_parens (with_commas (type_text first ∷ type_texts got)))
    ∙ ap (λ b. old ++ (n ++ in_parens (with_commas (type_text b ∷ type_texts got)))) f
    ∙ ap (λ r. old ++ (n ++ in_parens (with_commas (type_text a ∷ type_texts r)))) g
    ∙ sym (ap (λ ts. old ++ called_text n ts) (ap type_texts e ∙ type_texts-More a rest))

-- one more type of a list
pub rest_step : (old mid new all : List ℕ) (left rest got : Tys) (a b : Ty) → left ≡ More a rest → b ≡ a → got ≡ rest → mid ≡ old ++ codes ", " → new ≡ mid ++ type_text b
    → old ++ after_commas (type_texts left) ≡ all → new ++ after_commas (type_texts got) ≡ all
rest_step old mid new all left rest got a b e f g p q h =
    ap (λ r. new ++ after_commas (type_texts r)) g
    ∙ ap (λ t. t ++ after_commas (type_texts rest)) (q ∙ ap (λ t. t ++ type_text b) p ∙ append_assoc old (codes ", ") (type_text b))
    ∙ append_assoc old (codes ", " ++ type_text b) (after_commas (type_texts rest))
    ∙ ap (λ x. old ++ (codes ", " ++ (type_text x ++ after_commas (type_texts rest)))) f
    ∙ sym (ap (λ ts. old ++ after_commas ts) (ap type_texts e ∙ type_texts-More a rest)) ∙ h

pub size_step : (m : ℕ) (left rest got : Tys) (a : Ty) → left ≡ More a rest → got ≡ rest → types_size left ≤ m → types_size got ≤ m
size_step m left rest got a e g h =
    let p : types_size left ≡ type_size a + types_size rest = ap types_size e ∙ types_size-More a rest in
    let q : types_size got ≡ types_size rest = ap types_size g in
    omega arith

pub list_gives : (old a b c d first : List ℕ) (rest : List (List ℕ)) → a ≡ old ++ codes "(" → b ≡ a ++ first → c ≡ b ++ after_commas rest → d ≡ c ++ codes ")"
    → d ≡ old ++ in_parens (with_commas (first ∷ rest))
list_gives old a b c d first rest p q r s =
    s ∙ ap (λ t. t ++ codes ")") (r ∙ ap (λ t. t ++ after_commas rest) (q ∙ ap (λ t. t ++ first) p ∙ append_assoc old (codes "(") first) ∙ append_assoc old (codes "(" ++ first) (after_commas rest))
    ∙ append_assoc old (codes "(" ++ (first ++ after_commas rest)) (codes ")")
    ∙ ap (λ t. old ++ (codes "(" ++ (t ++ codes ")"))) (sym (commas first rest))

-- the two types of a product
pub product_text : (ty a b l r : Ty) → ty ≡ Prod a b → l ≡ a → r ≡ b → type_text (prod l r) ≡ type_text ty
product_text ty a b l r e p q = ap (λ x. type_text (prod x r)) p ∙ ap (λ x. type_text (prod a x)) q ∙ sym (ap type_text e ∙ type_text-Prod a b)

pub product_rank : (ty a b l r : Ty) → ty ≡ Prod a b → l ≡ a → r ≡ b → 6 * (type_size l + type_size r) + 5 < 6 * type_size ty
product_rank ty a b l r e p q =
    let x : type_size ty ≡ 1 + (type_size a + type_size b) = ap type_size e ∙ type_size-Prod a b in
    let y : type_size l ≡ type_size a = ap type_size p in
    let z : type_size r ≡ type_size b = ap type_size q in
    omega arith

pub list_rank : (types rest got : Tys) (a first : Ty) → types ≡ More a rest → first ≡ a → got ≡ rest → 6 * (type_size first + types_size got) + 4 < 6 * types_size types + 5
list_rank types rest got a first e p q =
    let x : types_size types ≡ type_size a + types_size rest = ap types_size e ∙ types_size-More a rest in
    let y : type_size first ≡ type_size a = ap type_size p in
    let z : types_size got ≡ types_size rest = ap types_size q in
    omega arith

pub on_ok : {T E P Q : Type 0} (r : Result T E) → (P → Q) → OnOk r P → OnOk r Q
on_ok (Ok v) f h = f h
on_ok (Err e) f h = h

pub ruleset walk = (type_text-Pow, type_text-Prod, is_product-Prod, is_product-Pow, type_texts-More, type_size-Pow, type_size-Prod, types_size-More)
