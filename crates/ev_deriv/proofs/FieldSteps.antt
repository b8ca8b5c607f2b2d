-- The fields of lines at what the code writes.
use Rattle.std.proofs.Common.{◌≡◌, ℕ, ◌+◌, ◌<◌, List, [], ◌∷◌, ◌++◌, drop, get_or, length, refl, ap, sym, ◌∙◌, arith}
use Rattle.std.specs.Prelude.{codes}
use Rattle.std.proofs.lemmas.List.{append_assoc, append-nil}
use Rattle.ev_terms.specs.declared.types.Ty.{Ty}
use Rattle.ev_terms.specs.declared.types.Tys.{Tys}
use Rattle.ev_terms.specs.declared.types.Tys.TheVariants.{More}
use Rattle.ev_terms.specs.Types.{More-more}
use Rattle.ev_typing.proofs.Names.{drop_at, drop_all}
use Rattle.ev_print.specs.Canon.{type_text, type_texts, with_commas}
use Rattle.ev_deriv.specs.Fields.{joined}
use Rattle.ev_deriv.specs.inner.Joined.{after}

-- the first text and those after it
pub first_after : (between text : List ℕ) (texts : List (List ℕ)) → joined between (text ∷ texts) ≡ text ++ after between texts
first_after between text [] = sym (append-nil text)
first_after between text (next ∷ texts) = ap (λ t. text ++ (between ++ t)) (first_after between next texts)

pub joined_gives : (between first : List ℕ) (rest texts : List (List ℕ)) (old new : List ℕ) → texts ≡ first ∷ rest → old ≡ first → new ≡ old ++ after between rest → new ≡ joined between texts
joined_gives between first rest texts old new e f g =
    g ∙ ap (λ t. t ++ after between rest) f ∙ sym (first_after between first rest) ∙ sym (ap (joined between) e)

-- one more text
pub after_step : (between old mid new item all : List ℕ) (texts : List (List ℕ)) (i : ℕ) → item ≡ get_or texts i item → i < length texts → mid ≡ old ++ between → new ≡ mid ++ item
    → old ++ after between (drop i texts) ≡ all → new ++ after between (drop (i + 1) texts) ≡ all
after_step between old mid new item all texts i e h p q inv =
    ap (λ t. t ++ after between (drop (i + 1) texts)) (q ∙ ap (λ t. t ++ item) p ∙ append_assoc old between item)
    ∙ append_assoc old (between ++ item) (after between (drop (i + 1) texts))
    ∙ ap (λ t. old ++ t) (append_assoc between item (after between (drop (i + 1) texts)))
    ∙ sym (ap (λ ts. old ++ after between ts) (drop_at texts i item e h)) ∙ inv

pub after_none : (between new all : List ℕ) (texts : List (List ℕ)) (i : ℕ) → length texts ≡ i → new ++ after between (drop i texts) ≡ all → new ≡ all
after_none between new all texts i e h =
    sym (append-nil new) ∙ sym (ap (λ ts. new ++ after between ts) (drop_all texts i (omega (arith, e)))) ∙ h

-- commas
pub joined_commas : (texts : List (List ℕ)) → joined (codes ", ") texts ≡ with_commas texts
joined_commas [] = refl
joined_commas (text ∷ []) = refl
joined_commas (text ∷ next ∷ texts) = ap (λ t. text ++ (codes ", " ++ t)) (joined_commas (next ∷ texts))

-- types
pub type_texts-More : (a : Ty) (rest : Tys) → type_texts (More a rest) ≡ type_text a ∷ type_texts rest
type_texts-More a rest = ap type_texts (More-more a rest)

pub types_step : (old new all : List (List ℕ)) (text : List ℕ) (left rest got : Tys) (a b : Ty) → left ≡ More a rest → b ≡ a → got ≡ rest → text ≡ type_text b → new ≡ old ++ text ∷ []
    → old ++ type_texts left ≡ all → new ++ type_texts got ≡ all
types_step old new all text left rest got a b e f g p q inv =
    ap (λ r. new ++ type_texts r) g
    ∙ ap (λ t. t ++ type_texts rest) q
    ∙ append_assoc old (text ∷ []) (type_texts rest)
    ∙ ap (λ t. old ++ t ∷ type_texts rest) (p ∙ ap type_text f)
    ∙ sym (ap (λ ts. old ++ ts) (ap type_texts e ∙ type_texts-More a rest)) ∙ inv
