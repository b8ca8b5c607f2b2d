-- The forms of expressions that have a predicate in them.
use Rattle.std.proofs.Common.{◌≡◌, ℕ, suc, ◌≤◌, Bool, true, false, List, [], ◌∷◌, refl, ap, subst, sym, ◌∙◌, arith, inl}
use Rattle.std.specs.Prelude.{Option, Some, None, if◌then◌else◌, nat_le}
use Rattle.std.proofs.lemmas.Bool.Decides.{nat_tests}
use Rattle.ev_syntax.specs.Marks.{bool_word, open_paren, close_paren, open_brace, close_brace, dot, bar, lambda_sign, union_over_word, inter_over_word}
use Rattle.ev_syntax.specs.Tokens.{Token, name, mark}
use Rattle.ev_syntax.specs.Raw.{Raw, Raws, RawType, Binder, Pattern, call, around, of_type, set_of, collected, lambda, none, one}
use Rattle.ev_syntax.specs.Parts.{Part, pred, expr, is_among, inside, is_expression, may_have_level, around_operand, expr_level}
use Rattle.ev_syntax.specs.Grammar.{Front, Is, ◌then◌, InParens, Reads, ReadsMore, ReadsBinder, ReadsMoreBinders, ReadsBinders, ReadsWritten, ReadsPattern, Where, WithOperand, EndsCollected}
use Rattle.ev_syntax.proofs.Eventually.{Found, on_found, Eventually, always, like, later, and_then}
use Rattle.ev_syntax.proofs.TypesRead.{begins, expect}
use Rattle.ev_syntax.proofs.BindersRead.{parse_binders, binders_found}
use Rattle.ev_syntax.proofs.PatternsRead.{parse_pattern, a_pattern, pattern_found}
use Rattle.ev_syntax.proofs.WholeParser.{items, prim, parse, level, a_pred, E, Prim, Stops, collects, in_braces, chain_levels, first_binder}
use Rattle.ev_syntax.proofs.WholeRead.{Chained, Complete, from_parts, brace_stops}
use Rattle.ev_syntax.proofs.WholeForms.{prims, never, items_found, CompleteList, StopsItem, no_more_complete, more_complete, name_complete}
use Rattle.ev_syntax.proofs.WholeLevels.{of_type_complete}

-- a predicate is found where these tokens may follow it
abbrev pub FoundBefore : Raw → Token → Type 0
FoundBefore e t = (ts rest : List Token) → Reads e pred ts (t ∷ rest) → Eventually (λ g. parse g a_pred ts) (e, t ∷ rest)

-- `bool(P)`
pub bool_complete : (e : Raw) → FoundBefore e (mark close_paren) → Complete (around bool_word e) (Reads (around bool_word e))
bool_complete e found = prims (around bool_word e) (λ p. WithOperand (around_operand bool_word p) (λ q. Is (mark bool_word) then Is (mark open_paren) then Reads e q then Is (mark close_paren))) bare
  where
    inner : Part → Front
    inner q = Is (mark bool_word) then Is (mark open_paren) then Reads e q then Is (mark close_paren)

    read : (ts rest : List Token) → inner pred ts rest → Prim ts (around bool_word e) rest
    read ts rest (us, d, (vs, f, (ws, h, i))) =
        subst (λ xs. Prim xs (around bool_word e) rest) (sym (d ∙ ap (λ xs. mark bool_word ∷ xs) f))
        (and_then (λ g. parse g a_pred vs) (λ g x xs. expect close_paren xs (λ rest. Some (around bool_word x, rest))) e (mark close_paren ∷ rest) (around bool_word e, rest)
        (found vs rest (subst (λ xs. Reads e pred vs xs) i h)) (always _ _ (λ g. refl)))

    chosen : (b : Bool) (ts rest : List Token) → WithOperand (if b then Some pred else None) inner ts rest → inner pred ts rest
    chosen true ts rest h = h
    chosen false ts rest h = absurd h

    bare : (k : ℕ) (ts rest : List Token) → WithOperand (around_operand bool_word (expr k)) inner ts rest → Prim ts (around bool_word e) rest
    bare k ts rest h = read ts rest (chosen (nat_le k 10) ts rest h)

-- bound names read as a list of expressions
abbrev pub member_of : List ℕ → Option RawType → Raw
member_of n None = call n none
member_of n (Some a) = of_type (call n none) a

abbrev pub more_of : List Binder → Raws
more_of [] = none
more_of (b ∷ bs) = one (member_of b.name b.type) (more_of bs)

member_reads : (n : List ℕ) (o : Option RawType) (ts us rest : List Token) → ts ≡ name n ∷ us → ReadsWritten o us rest → Reads (member_of n o) (expr 0) ts rest
member_reads n None ts us rest e h = inl (refl, e ∙ ap (λ xs. name n ∷ xs) h)
member_reads n (Some a) ts us rest e h = inl (refl, (us, inl (refl, e), h))

binder_reads : (b : Binder) (ts rest : List Token) → ReadsBinder b ts rest → Reads (member_of b.name b.type) (expr 0) ts rest
binder_reads b ts rest (us, e, h) = member_reads b.name b.type ts us rest e h

more_reads : (bs : List Binder) (ts rest : List Token) → ReadsMoreBinders bs ts rest → ReadsMore (more_of bs) ts rest
more_reads [] ts rest h = h
more_reads (b ∷ bs) ts rest (us, e, (vs, h, more)) = (us, e, (vs, binder_reads b us vs h, more_reads bs vs rest more))

member_complete : (n : List ℕ) (o : Option RawType) → Complete (member_of n o) (Reads (member_of n o))
member_complete n None = name_complete n
member_complete n (Some a) = of_type_complete (call n none) a (name_complete n)

more_members : (bs : List Binder) → CompleteList (more_of bs)
more_members [] = no_more_complete
more_members (b ∷ bs) = more_complete (member_of b.name b.type) (more_of bs) (member_complete b.name b.type) (more_members bs)

-- so the list is found before a dot or a bar
pub binders_items : (b : Binder) (bs : List Binder) (ts rest : List Token) → ReadsBinders (b ∷ bs) ts rest → StopsItem rest
    → Eventually (λ g. items g (parse g (level 0)) ts) (one (member_of b.name b.type) (more_of bs), rest)
binders_items b bs ts rest (us, h, more) stops =
    items_found (member_of b.name b.type) (more_of bs) ts us rest (member_complete b.name b.type) (more_members bs) (binder_reads b ts us h) (more_reads bs us rest more) stops

no_brace_first : (b : Binder) (bs : List Binder) (ts rest : List Token) → ReadsBinders (b ∷ bs) ts rest → begins close_brace ts ≡ false
no_brace_first b bs ts rest (us, (vs, e, h), more) = subst (λ xs. begins close_brace xs ≡ false) (sym e) refl

pub dot_item : (ts : List Token) → StopsItem (mark dot ∷ ts)
dot_item ts = record { level = record { operator = refl; post = refl; type = refl }; no_comma = refl }

pub bar_item : (ts : List Token) → StopsItem (mark bar ∷ ts)
bar_item ts = record { level = record { operator = refl; post = refl; type = refl }; no_comma = refl }

-- `{x | P}`
pub set_complete : (b : Binder) (e : Raw) → FoundBefore e (mark close_brace) → Complete (set_of b e) (Reads (set_of b e))
set_complete b e found = prims (set_of b e) (λ p. Where (is_expression p) (Is (mark open_brace) then ReadsBinder b then Is (mark bar) then Reads e pred then Is (mark close_brace))) bare
  where
    bare : (k : ℕ) (ts rest : List Token) → Where (is_expression (expr k)) (Is (mark open_brace) then ReadsBinder b then Is (mark bar) then Reads e pred then Is (mark close_brace)) ts rest
        → Prim ts (set_of b e) rest
    bare k ts rest (w, (us, d, (vs, rb, (ws, i, (xs, h, c))))) =
        let names : ReadsBinders (b ∷ []) us (mark bar ∷ ws) = (vs, rb, i) in
        subst (λ ys. Prim ys (set_of b e) rest) (sym d)
        (like (λ g. prim g (parse g (level 0)) (parse g a_pred) (mark open_brace ∷ us)) (λ g. on_found (items g (parse g (level 0)) us) (in_braces g (parse g (level 0)) (parse g a_pred) us)) (set_of b e, rest)
        (λ g. rw (no_brace_first b [] us (mark bar ∷ ws) names))
        (and_then (λ g. items g (parse g (level 0)) us) (λ g. in_braces g (parse g (level 0)) (parse g a_pred) us) (one (member_of b.name b.type) none) (mark bar ∷ ws) (set_of b e, rest)
        (binders_items b [] us (mark bar ∷ ws) names (bar_item ws))
        (and_then (λ g. parse_binders g us) (λ g bs ys. first_binder bs (λ x. expect bar ys (λ zs. on_found (parse g a_pred zs) (λ p qs. expect close_brace qs (λ rest. Some (set_of x p, rest))))))
        (b ∷ []) (mark bar ∷ ws) (set_of b e, rest) (binders_found (b ∷ []) us (mark bar ∷ ws) names ((refl, (refl, refl)), refl))
        (and_then (λ g. parse g a_pred ws) (λ g p qs. expect close_brace qs (λ rest. Some (set_of b p, rest))) e (mark close_brace ∷ rest) (set_of b e, rest)
        (found ws rest (subst (λ ys. Reads e pred ws ys) c h)) (always _ _ (λ g. refl))))))

-- behind the dot of a form that collects
collects_found : (end : Raw → Raw → List Token → Option (Found Raw)) (e f : Raw) (ts mid us rest : List Token) (x : Found Raw) → FoundBefore e (mark bar) → Complete f (Reads f)
    → Reads e pred ts (mark bar ∷ mid) → Reads f (expr 0) mid us → Stops 0 us → end e f us ≡ Some x → Eventually (λ g. collects (parse g (level 0)) (parse g a_pred) end ts) x
collects_found end e f ts mid us rest x found c he hf s done =
    and_then (λ g. parse g a_pred ts) (λ g p ys. expect bar ys (λ vs. on_found (parse g (level 0) vs) (λ v ws. end p v ws))) e (mark bar ∷ mid) x (found ts mid he)
    (and_then (λ g. parse g (level 0) mid) (λ g v ws. end e v ws) f us x (c.at_level 0 (omega arith) mid us hf s) (always _ _ (λ g. done)))

-- `{xs . P | E}`
pub brace_collected : (b : Binder) (bs : List Binder) (e f : Raw) → FoundBefore e (mark bar) → Complete f (Reads f)
    → Complete (collected open_brace (b ∷ bs) e f) (Reads (collected open_brace (b ∷ bs) e f))
brace_collected b bs e f found c = prims (collected open_brace (b ∷ bs) e f)
    (λ p. Where (is_expression p) (Is (mark open_brace) then ReadsBinders (b ∷ bs) then Is (mark dot) then Reads e pred then Is (mark bar) then Reads f (expr expr_level) then EndsCollected open_brace)) bare
  where
    bare : (k : ℕ) (ts rest : List Token)
        → Where (is_expression (expr k)) (Is (mark open_brace) then ReadsBinders (b ∷ bs) then Is (mark dot) then Reads e pred then Is (mark bar) then Reads f (expr expr_level) then EndsCollected open_brace) ts rest
        → Prim ts (collected open_brace (b ∷ bs) e f) rest
    bare k ts rest (w, (us, d, (vs, rb, (ws, i, (xs, h, (ys, j, (zs, hf, c'))))))) =
        let names : ReadsBinders (b ∷ bs) us (mark dot ∷ ws) = subst (λ qs. ReadsBinders (b ∷ bs) us qs) i rb in
        let end : Raw → Raw → List Token → Option (Found Raw) = λ p v qs. expect close_brace qs (λ rest. Some (collected open_brace (b ∷ bs) p v, rest)) in
        subst (λ qs. Prim qs (collected open_brace (b ∷ bs) e f) rest) (sym d)
        (like (λ g. prim g (parse g (level 0)) (parse g a_pred) (mark open_brace ∷ us)) (λ g. on_found (items g (parse g (level 0)) us) (in_braces g (parse g (level 0)) (parse g a_pred) us))
        (collected open_brace (b ∷ bs) e f, rest)
        (λ g. rw (no_brace_first b bs us (mark dot ∷ ws) names))
        (and_then (λ g. items g (parse g (level 0)) us) (λ g. in_braces g (parse g (level 0)) (parse g a_pred) us) (one (member_of b.name b.type) (more_of bs)) (mark dot ∷ ws) (collected open_brace (b ∷ bs) e f, rest)
        (binders_items b bs us (mark dot ∷ ws) names (dot_item ws))
        (and_then (λ g. parse_binders g us)
        (λ g cs qs. expect dot qs (λ rs. collects (parse g (level 0)) (parse g a_pred) (λ p v xs. expect close_brace xs (λ rest. Some (collected open_brace cs p v, rest))) rs))
        (b ∷ bs) (mark dot ∷ ws) (collected open_brace (b ∷ bs) e f, rest) (binders_found (b ∷ bs) us (mark dot ∷ ws) names ((refl, (refl, refl)), refl))
        (collects_found end e f ws ys (mark close_brace ∷ rest) rest (collected open_brace (b ∷ bs) e f, rest) found c
        (subst (λ qs. Reads e pred ws qs) j h) (subst (λ qs. Reads f (expr 0) ys qs) c' hf) (brace_stops rest) refl))))

zero_of : (k : ℕ) → nat_le k 0 ≡ true → k ≡ 0
zero_of k h = grind (arith, nat_tests)

-- a form that stands at the loosest level alone
loosest : (raw : Raw) (inner : Front) → ((ts rest : List Token) → inner ts rest → Stops 0 rest → E 0 ts raw rest) → Complete raw (InParens inside (λ p. Where (may_have_level expr_level p) inner))
loosest raw inner at0 = from_parts raw (λ p. Where (may_have_level expr_level p) inner) tree chain (λ ts rest h stops. never h.0) (λ ts rest h. never h.0)
  where
    tree : (k : ℕ) → k ≤ 9 → (ts rest : List Token) → Where (may_have_level expr_level (expr k)) inner ts rest → Stops k rest → E k ts raw rest
    tree k le ts rest h s = let is0 : k ≡ 0 = zero_of k h.0 in subst (λ i. E i ts raw rest) (sym is0) (at0 ts rest h.1 (subst (λ i. Stops i rest) is0 s))

    chain : (k : ℕ) → is_among chain_levels k ≡ true → (ts rest : List Token) → Where (may_have_level expr_level (expr k)) inner ts rest → Stops (suc k) rest → Chained k ts raw rest
    chain k ch ts rest h s = let is0 : k ≡ 0 = zero_of k h.0 in never (subst (λ i. is_among chain_levels i ≡ true) is0 ch)

-- `UNION xs . P | E` and `INTER xs . P | E`
over_found : (m : ℕ) (bs : List Binder) (e f : Raw) → FoundBefore e (mark bar) → Complete f (Reads f) → (us rest : List Token)
    → (ReadsBinders bs then Is (mark dot) then Reads e pred then Is (mark bar) then Reads f (expr expr_level) then (λ ts rest. ts ≡ rest)) us rest → Stops 0 rest
    → Eventually (λ g. on_found (parse_binders g us) (λ cs vs. expect dot vs (λ ws. collects (parse g (level 0)) (parse g a_pred) (λ p v rest. Some (collected m cs p v, rest)) ws))) (collected m bs e f, rest)
over_found m bs e f found c us rest (vs, rb, (ws, i, (xs, h, (ys, j, (zs, hf, same))))) s =
    and_then (λ g. parse_binders g us) (λ g cs qs. expect dot qs (λ rs. collects (parse g (level 0)) (parse g a_pred) (λ p v rest. Some (collected m cs p v, rest)) rs)) bs (mark dot ∷ ws) (collected m bs e f, rest)
    (binders_found bs us (mark dot ∷ ws) (subst (λ qs. ReadsBinders bs us qs) i rb) ((refl, (refl, refl)), refl))
    (collects_found (λ p v rest. Some (collected m bs p v, rest)) e f ws ys rest rest (collected m bs e f, rest) found c
    (subst (λ qs. Reads e pred ws qs) j h) (subst (λ qs. Reads f (expr 0) ys qs) same hf) s refl)

pub union_collected : (bs : List Binder) (e f : Raw) → FoundBefore e (mark bar) → Complete f (Reads f) → Complete (collected union_over_word bs e f) (Reads (collected union_over_word bs e f))
union_collected bs e f found c = loosest (collected union_over_word bs e f) _ (λ ts rest h s.
    subst (λ xs. E 0 xs (collected union_over_word bs e f) rest) (sym h.1)
    (later (λ g. parse g (level 0) (mark union_over_word ∷ h.0))
    (λ g. on_found (parse_binders g h.0) (λ cs vs. expect dot vs (λ ws. collects (parse g (level 0)) (parse g a_pred) (λ p v rest. Some (collected union_over_word cs p v, rest)) ws)))
    (collected union_over_word bs e f, rest) (λ g. refl) (over_found union_over_word bs e f found c h.0 rest h.2 s)))

pub inter_collected : (bs : List Binder) (e f : Raw) → FoundBefore e (mark bar) → Complete f (Reads f) → Complete (collected inter_over_word bs e f) (Reads (collected inter_over_word bs e f))
inter_collected bs e f found c = loosest (collected inter_over_word bs e f) _ (λ ts rest h s.
    subst (λ xs. E 0 xs (collected inter_over_word bs e f) rest) (sym h.1)
    (later (λ g. parse g (level 0) (mark inter_over_word ∷ h.0))
    (λ g. on_found (parse_binders g h.0) (λ cs vs. expect dot vs (λ ws. collects (parse g (level 0)) (parse g a_pred) (λ p v rest. Some (collected inter_over_word cs p v, rest)) ws)))
    (collected inter_over_word bs e f, rest) (λ g. refl) (over_found inter_over_word bs e f found c h.0 rest h.2 s)))

-- `%p . P | E`
pub lambda_complete : (x : Pattern) (e f : Raw) → FoundBefore e (mark bar) → Complete f (Reads f) → Complete (lambda x e f) (Reads (lambda x e f))
lambda_complete x e f found c = loosest (lambda x e f) (Is (mark lambda_sign) then ReadsPattern x true then Is (mark dot) then Reads e pred then Is (mark bar) then Reads f (expr expr_level)) at0
  where
    at0 : (ts rest : List Token) → (Is (mark lambda_sign) then ReadsPattern x true then Is (mark dot) then Reads e pred then Is (mark bar) then Reads f (expr expr_level)) ts rest → Stops 0 rest → E 0 ts (lambda x e f) rest
    at0 ts rest (us, d, (vs, rx, (ws, i, (xs, h, (ys, j, hf))))) s =
        subst (λ qs. E 0 qs (lambda x e f) rest) (sym d)
        (later (λ g. parse g (level 0) (mark lambda_sign ∷ us))
        (λ g. on_found (parse_pattern g a_pattern us) (λ y vs. expect dot vs (λ ws. collects (parse g (level 0)) (parse g a_pred) (λ p v rest. Some (lambda y p v, rest)) ws)))
        (lambda x e f, rest) (λ g. refl)
        (and_then (λ g. parse_pattern g a_pattern us) (λ g y qs. expect dot qs (λ rs. collects (parse g (level 0)) (parse g a_pred) (λ p v rest. Some (lambda y p v, rest)) rs)) x (mark dot ∷ ws) (lambda x e f, rest)
        (pattern_found x us (mark dot ∷ ws) (subst (λ qs. ReadsPattern x true us qs) i rx) (refl, (refl, (refl, refl))))
        (collects_found (λ p v rest. Some (lambda x p v, rest)) e f ws ys rest rest (lambda x e f, rest) found c (subst (λ qs. Reads e pred ws qs) j h) hf s refl)))
