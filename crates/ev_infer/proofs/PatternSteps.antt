-- What the code that makes patterns needs.
use Rattle.std.specs.Prelude.{◌≡◌, ◌≢◌, ℕ, suc, ◌+◌, ◌<◌, ◌≤◌, ◌↔◌, ◌==◌, ◌&&◌, Bool as Boolean, true, false, if◌then◌else◌, List, [], ◌∷◌, ◌++◌, Option, Some, None, slice_get, unwrap_or, length, IsTrue, refl}
use Rattle.std.proofs.Common.{ap, sym, ◌∙◌, arith, append_assoc, append-nil, get_or}
use Rattle.std.proofs.lemmas.Option.{slice_get-get_or, slice_get_past}
use Rattle.std.proofs.lemmas.Bool.{eqb-true, eq-eqb}
use Rattle.ev_terms.specs.declared.types.Ty.{Ty, Int, Bool, Prop, Param, Data}
use Rattle.ev_terms.specs.declared.types.Ty.TheVariants.{Pow, Prod}
use Rattle.ev_terms.specs.declared.types.Tys.{Tys, Empty as NoTypes}
use Rattle.ev_terms.specs.declared.types.Tys.TheVariants.{More}
use Rattle.ev_terms.specs.Types.{pow, prod, Pow-pow, Prod-prod, More-more}
use Rattle.ev_terms.proofs.Children.{type_size-Pow, type_size-Prod}
use Rattle.ev_typing.proofs.Names.{drop_at, drop_all}
use Rattle.ev_typing.specs.Env.{Env}
use Rattle.ev_typing.specs.Typing.{IsProper}
use Rattle.ev_typing.specs.Proper.{is_proper, is_result}
use Rattle.ev_typing.proofs.Proper.{test_from_proper, proper_from_test}
use Rattle.ev_unify.specs.declared.patterns.Pat.{Pat, Unknown, Param as ParamPat}
use Rattle.ev_unify.specs.declared.patterns.Pat.TheVariants.{Pow as PowPat, Prod as ProdPat}
use Rattle.ev_unify.specs.declared.patterns.Pats.{Pats, Empty}
use Rattle.ev_unify.specs.declared.patterns.Pats.TheVariants.{More as MorePats}
use Rattle.ev_unify.specs.Patterns.{more_pats, pat_list, pat_at, PowPat-pow_pat, ProdPat-prod_pat, MorePats-more_pats}
use Rattle.ev_infer.specs.declared.sorts.Sort.TheVariants.{Expression}
use Rattle.ev_infer.specs.Equations.{NodeTypes, pattern_of, patterns_of, same_pattern, sort_of, unknowns, node_types}
use Rattle.ev_infer.specs.inner.Walks.{pats}

pub pattern_of-Pow : (ps : Pats) (a : Ty) → pattern_of ps (Pow a) ≡ PowPat (pattern_of ps a)
pattern_of-Pow ps a = ap (pattern_of ps) (Pow-pow a) ∙ sym (PowPat-pow_pat (pattern_of ps a))

pub pattern_of-Prod : (ps : Pats) (a b : Ty) → pattern_of ps (Prod a b) ≡ ProdPat (pattern_of ps a) (pattern_of ps b)
pattern_of-Prod ps a b = ap (pattern_of ps) (Prod-prod a b) ∙ sym (ProdPat-prod_pat (pattern_of ps a) (pattern_of ps b))

pub patterns_of-More : (ps : Pats) (a : Ty) (rest : Tys) → patterns_of ps (More a rest) ≡ MorePats (pattern_of ps a) (patterns_of ps rest)
patterns_of-More ps a rest = ap (patterns_of ps) (More-more a rest) ∙ sym (MorePats-more_pats (pattern_of ps a) (patterns_of ps rest))

pub ruleset walk = (pattern_of-Pow, pattern_of-Prod, type_size-Pow, type_size-Prod)

pub pat_list-pats : (ps : List Pat) → pat_list (pats ps) ≡ ps
pat_list-pats [] = refl
pat_list-pats (p ∷ ps) = ap (λ qs. p ∷ qs) (pat_list-pats ps)

pub pats-pat_list : (ps : Pats) → pats (pat_list ps) ≡ ps
pats-pat_list Empty = refl
pats-pat_list (more_pats p ps) = ap (more_pats p) (pats-pat_list ps)

-- one more type of a list
pub made_step : (ps : Pats) (old new : List Pat) (all : List Pat) (left rest got : Tys) (a a' : Ty) (p : Pat) → left ≡ More a rest → a' ≡ a → got ≡ rest → p ≡ pattern_of ps a' → new ≡ old ++ p ∷ []
    → old ++ pat_list (patterns_of ps left) ≡ all → new ++ pat_list (patterns_of ps got) ≡ all
made_step ps old new all left rest got a a' p e f g q n h =
    ap (λ l. l ++ pat_list (patterns_of ps got)) n ∙ append_assoc old (p ∷ []) (pat_list (patterns_of ps got))
    ∙ ap (λ x. old ++ x ∷ pat_list (patterns_of ps got)) (q ∙ ap (pattern_of ps) f) ∙ ap (λ r. old ++ pattern_of ps a ∷ pat_list (patterns_of ps r)) g
    ∙ ap (λ l. old ++ pat_list l) (sym (ap (patterns_of ps) e ∙ ap (patterns_of ps) (More-more a rest))) ∙ h

pub made_end : (ps : Pats) (made : List Pat) (left list : Tys) → left ≡ NoTypes → made ++ pat_list (patterns_of ps left) ≡ pat_list (patterns_of ps list) → pats made ≡ patterns_of ps list
made_end ps made left list e h = ap pats (sym (append-nil made) ∙ ap (λ l. made ++ pat_list (patterns_of ps l)) (sym e) ∙ h) ∙ pats-pat_list (patterns_of ps list)

-- one more pattern at the front of a list
pub list_step : (old new start : List Pat) (last a : Pat) (list rest got : Pats) → old ≡ new ++ last ∷ [] → got ≡ MorePats a rest → a ≡ last → rest ≡ list → old ++ pat_list list ≡ start → new ++ pat_list got ≡ start
list_step old new start last a list rest got o e f g h =
    ap (λ l. new ++ pat_list l) (e ∙ MorePats-more_pats a rest) ∙ ap (λ x. new ++ x ∷ pat_list rest) f ∙ ap (λ r. new ++ last ∷ pat_list r) g
    ∙ sym (append_assoc new (last ∷ []) (pat_list list)) ∙ ap (λ l. l ++ pat_list list) (sym o) ∙ h

pub list_end : (left start : List Pat) (list : Pats) → left ≡ [] → left ++ pat_list list ≡ start → list ≡ pats start
list_end left start list e h = sym (pats-pat_list list) ∙ ap pats (ap (λ l. l ++ pat_list list) (sym e) ∙ h)

pub ruleset lists = (drop_at, drop_all, append_assoc)

pub param_inside : (ps : List Pat) (i : ℕ) (p : Pat) → i < length ps → p ≡ get_or ps i p → p ≡ pat_at (pats ps) i
param_inside ps i p h e =
    e ∙ sym (ap (λ l. unwrap_or (slice_get l i) (ParamPat i)) (pat_list-pats ps) ∙ ap (λ o. unwrap_or o (ParamPat i)) (slice_get-get_or ps i p h))

pub param_outside : (ps : List Pat) (i : ℕ) → length ps ≤ i → ParamPat i ≡ pat_at (pats ps) i
param_outside ps i h = sym (ap (λ l. unwrap_or (slice_get l i) (ParamPat i)) (pat_list-pats ps) ∙ ap (λ o. unwrap_or o (ParamPat i)) (slice_get_past ps i h))

pub ruleset params = (param_inside, param_outside)

pub sort_plain : (ps : Pats) (A : Ty) → A ≢ Prop → sort_of ps A ≡ Expression (pattern_of ps A)
sort_plain ps Int h = refl
sort_plain ps Bool h = refl
sort_plain ps Prop h = absurd (h refl)
sort_plain ps (Param i) h = refl
sort_plain ps (pow A) h = refl
sort_plain ps (prod A B) h = refl
sort_plain ps (Data n As) h = refl

pub ruleset sorts = (sort_plain)

pub pats-append : (ps : List Pat) (p : Pat) (rest : Pats) → pats (ps ++ pat_list (more_pats p rest)) ≡ pats ((ps ++ p ∷ []) ++ pat_list rest)
pats-append ps p rest = ap pats (sym (append_assoc ps (p ∷ []) (pat_list rest)))

-- the unknowns that are made, before those that are left
abbrev pub AreCounted : List Pat → ℕ → ℕ → ℕ → Type 0
AreCounted ps first unknown count = (n : ℕ) → unknown + n ≡ first + count → pats (ps ++ pat_list (unknowns unknown n)) ≡ unknowns first count

pub counted_start : (first count : ℕ) → AreCounted [] first first count
counted_start first count n e = let h : n ≡ count = omega arith in pats-pat_list (unknowns first n) ∙ ap (unknowns first) h

pub counted_more : (ps new : List Pat) (first unknown count : ℕ) → unknown < first + count → new ≡ ps ++ Unknown unknown ∷ [] → AreCounted ps first unknown count → AreCounted new first (unknown + 1) count
counted_more ps new first unknown count l e h n g =
    ap (λ qs. pats (qs ++ pat_list (unknowns (unknown + 1) n))) e
    ∙ sym (pats-append ps (Unknown unknown) (unknowns (unknown + 1) n))
    ∙ h (suc n) (omega arith)

append_nothing : (ps : List Pat) → ps ++ [] ≡ ps
append_nothing [] = refl
append_nothing (p ∷ ps) = ap (λ qs. p ∷ qs) (append_nothing ps)

types_by : (ps qs : Pats) (m n : ℕ) → ps ≡ qs → m ≡ n → ◌≡◌ {A = NodeTypes} (record { types = ps; next = m }) (record { types = qs; next = n })
types_by ps qs m n e f = cc

pub counted_end : (ps : List Pat) (first unknown count end : ℕ) → end ≤ unknown → unknown ≤ end → end ≡ first + count → AreCounted ps first unknown count →
    ◌≡◌ {A = NodeTypes} (record { types = pats ps; next = end }) (record { types = unknowns first count; next = first + count })
counted_end ps first unknown count end l m e h =
    types_by _ _ _ _ (ap pats (sym (append_nothing ps)) ∙ h 0 (omega arith)) e

pub ruleset counting = (counted_start, counted_more, counted_end)

-- a written type
pub test_is : (env : Env) (A : Ty) (b : Boolean) → (IsTrue b ↔ IsProper env A) → is_proper env A ≡ b
test_is env A true h = test_from_proper env A (h.0 refl)
test_is env A false h = go (is_proper env A) refl
  where
    go : (c : Boolean) → is_proper env A ≡ c → is_proper env A ≡ false
    go true e = absurd (Rattle.std.proofs.Common.true≢false (sym (h.1 (proper_from_test env A e))))
    go false e = e

pub written_none : (env : Env) (A : Ty) (b : Boolean) (params next : ℕ) → (IsTrue b ↔ IsProper env A) → b ≡ false → ◌≡◌ {A = Option NodeTypes} None (node_types env (Some A) params next)
written_none env A b params next h e = sym (ap (λ c. if params == 1 && c then Some (record { types = more_pats (same_pattern A) Empty; next = next }) else None) (test_is env A b h ∙ e) ∙ go (params == 1))
  where
    go : (c : Boolean) → ◌≡◌ {A = Option NodeTypes} (if c && false then Some (record { types = more_pats (same_pattern A) Empty; next = next }) else None) None
    go true = refl
    go false = refl

pub written_other : (env : Env) (A : Ty) (params next : ℕ) → params ≢ 1 → ◌≡◌ {A = Option NodeTypes} None (node_types env (Some A) params next)
written_other env A params next h = go (params == 1) refl
  where
    go : (c : Boolean) → (params == 1) ≡ c → ◌≡◌ {A = Option NodeTypes} None (if c && is_proper env A then Some (record { types = more_pats (same_pattern A) Empty; next = next }) else None)
    go true e = absurd (h (eqb-true params 1 e))
    go false e = refl

pub written_some : (env : Env) (A : Ty) (b : Boolean) (params next : ℕ) (types : List Pat) (p : Pat) → (IsTrue b ↔ IsProper env A) → b ≡ true → params ≡ 1 → p ≡ same_pattern A → types ≡ [] ++ p ∷ [] →
    ◌≡◌ {A = Option NodeTypes} (Some (record { types = pats types; next = next })) (node_types env (Some A) params next)
written_some env A b params next types p h e one q t =
    ap (λ l. Some (record { types = pats l; next = next })) t
    ∙ ap (λ x. Some (record { types = more_pats x Empty; next = next })) q
    ∙ sym (ap (λ c. if c && is_proper env A then Some (record { types = more_pats (same_pattern A) Empty; next = next }) else None) (eq-eqb params 1 one)
    ∙ ap (λ c. if c then Some (record { types = more_pats (same_pattern A) Empty; next = next }) else None) (test_is env A b h ∙ e))

pub ruleset written = (written_none, written_other, written_some)

-- a type that is asked
pub result_plain : (env : Env) (A : Ty) (b : Boolean) → A ≢ Prop → (IsTrue b ↔ IsProper env A) → b ≡ is_result env A
result_plain env Int b n h = sym (test_is env Int b h)
result_plain env Bool b n h = sym (test_is env Bool b h)
result_plain env Prop b n h = absurd (n refl)
result_plain env (Param i) b n h = sym (test_is env (Param i) b h)
result_plain env (pow A) b n h = sym (test_is env (pow A) b h)
result_plain env (prod A B) b n h = sym (test_is env (prod A B) b h)
result_plain env (Data m As) b n h = sym (test_is env (Data m As) b h)

pub ruleset results = (result_plain)
