-- The forms of predicates, one after the other.
use Rattle.std.proofs.Common.{◌≡◌, ℕ, suc, Bool, true, false, List, [], ◌∷◌, refl, ap, subst, sym, ◌∙◌, arith, ◌⊎◌, inl, inr}
use Rattle.std.specs.Prelude.{Option, Some, None, if◌then◌else◌, ◌==◌, ◌&&◌, ◌||◌}
use Rattle.std.proofs.lemmas.Bool.{eqb-true}
use Rattle.ev_syntax.specs.Marks.{true_word, false_word, finite_word, bool_word, not_word, minus_sign, open_paren, close_paren, for_all_sign, for_some_sign, dot, and_sign, or_word, implies_sign, iff_sign}
use Rattle.ev_syntax.specs.Tokens.{Token, name, number, mark}
use Rattle.ev_syntax.specs.Raw.{Raw, Raws, word, call, around, unary, binary, quantified, none, one, Binder}
use Rattle.ev_syntax.specs.Parts.{Part, pred, conj, conj_or_tail, ands, ors, lit, lit_or_quant, expr, inside, is_among, relation_signs, operands, relation_operands, operator_operands, operand, minus_operand, around_operand, may_be_word, may_be_name, may_be_quantified, may_have_level, is_predicate, is_expression, expr_level}
use Rattle.ev_syntax.specs.Grammar.{Front, Is, ◌then◌, InParens, Reads, ReadsMore, ReadsBinders, Where, WithOperand, WithOperands}
use Rattle.ev_syntax.proofs.Eventually.{Found, on_found, Eventually, always, like, later, and_then}
use Rattle.ev_syntax.proofs.TypesRead.{begins, expect}
use Rattle.ev_syntax.proofs.BindersRead.{parse_binders, binders_found}
use Rattle.ev_syntax.proofs.Balanced.{after_close, Keeps, keeps}
use Rattle.ev_syntax.proofs.OpenFirst.{goes_on, Behind, open_first}
use Rattle.ev_syntax.proofs.WholeParser.{Read, prim, begins_special, parse, level, a_lit, a_conj, a_pred, E, Stops, is_relation, related, behind_open, whole_of, implied, dead, not_dead, and_no, calls}
use Rattle.ev_syntax.proofs.WholeRead.{Complete, or_else}
use Rattle.ev_syntax.proofs.WholeForms.{and_both, or_either}
use Rattle.ev_syntax.proofs.WholeLevels.{among_all}
use Rattle.ev_syntax.proofs.WholeLiterals.{L, C, P, StopsLit, StopsConj, StopsPred, stops_0, conj_of_lit, pred_of_conj, pred_of_lit, in_part, Chained, Spine, snoc, finish}

-- wherever the raw tree stands as a predicate, the parser finds it
pub record CompletePred (raw : Raw) (reads : Part → Front) : Type 0 where
  pub as_lit : (ts rest : List Token) → reads lit ts rest → StopsLit rest → L ts raw rest
  pub as_lit_or_quant : (ts rest : List Token) → reads lit_or_quant ts rest → StopsPred rest → L ts raw rest
  pub as_ands : (ts rest : List Token) → reads ands ts rest → StopsLit rest → Spine and_sign ts raw rest
  pub as_ors : (ts rest : List Token) → reads ors ts rest → StopsLit rest → Spine or_word ts raw rest
  pub as_conj : (ts rest : List Token) → reads conj ts rest → StopsConj rest → C ts raw rest
  pub as_conj_or_tail : (ts rest : List Token) → reads conj_or_tail ts rest → StopsPred rest → C ts raw rest
  pub as_pred : (ts rest : List Token) → reads pred ts rest → StopsPred rest → P ts raw rest

-- the same for what stands there alone
record Bare (raw : Raw) (alone : Part → Front) : Type 0 where
  in_lit : (ts rest : List Token) → alone lit ts rest → StopsLit rest → L ts raw rest
  in_lit_or_quant : (ts rest : List Token) → alone lit_or_quant ts rest → StopsPred rest → L ts raw rest
  in_ands : (ts rest : List Token) → alone ands ts rest → StopsLit rest → Spine and_sign ts raw rest
  in_ors : (ts rest : List Token) → alone ors ts rest → StopsLit rest → Spine or_word ts raw rest
  in_conj : (ts rest : List Token) → alone conj ts rest → StopsConj rest → C ts raw rest
  in_conj_or_tail : (ts rest : List Token) → alone conj_or_tail ts rest → StopsPred rest → C ts raw rest
  in_pred : (ts rest : List Token) → alone pred ts rest → StopsPred rest → P ts raw rest

from_bare : (raw : Raw) (alone : Part → Front) → ((q : Part) → Keeps (alone q)) → Bare raw alone → CompletePred raw (InParens inside alone)
from_bare raw alone keep c = record {
  as_lit = λ ts rest h s. or_else (λ bare. c.in_lit ts rest bare s) (λ p. p) (part lit refl ts rest h s);
  as_lit_or_quant = λ ts rest h s. or_else (λ bare. c.in_lit_or_quant ts rest bare s) (λ p. p) (part lit_or_quant refl ts rest h s.0.0);
  as_ands = λ ts rest h s. or_else (λ bare. c.in_ands ts rest bare s) (λ p. inl p) (part ands refl ts rest h s);
  as_ors = λ ts rest h s. or_else (λ bare. c.in_ors ts rest bare s) (λ p. inl p) (part ors refl ts rest h s);
  as_conj = λ ts rest h s. or_else (λ bare. c.in_conj ts rest bare s) (λ p. conj_of_lit ts raw rest p s) (part conj refl ts rest h s.0);
  as_conj_or_tail = λ ts rest h s. or_else (λ bare. c.in_conj_or_tail ts rest bare s) (λ p. conj_of_lit ts raw rest p s.0) (part conj_or_tail refl ts rest h s.0.0);
  as_pred = λ ts rest h s. or_else (λ bare. c.in_pred ts rest bare s) (λ p. pred_of_lit ts raw rest p s) (part pred refl ts rest h s.0.0);
}
  where
    part : (p : Part) → inside p ≡ pred → (ts rest : List Token) → InParens inside alone p ts rest → StopsLit rest → alone p ts rest ⊎ L ts raw rest
    part p e ts rest h s = in_part raw alone keep c.in_pred p e ts rest h s

-- what may follow a literal in the part
abbrev StopsAt : Part → List Token → Type 0
StopsAt pred ts = StopsPred ts
StopsAt conj_or_tail ts = StopsPred ts
StopsAt lit_or_quant ts = StopsPred ts
StopsAt _ ts = StopsLit ts

lit_stops : (p : Part) (ts : List Token) → inside p ≡ pred → StopsAt p ts → StopsLit ts
lit_stops pred ts i s = s.0.0
lit_stops conj_or_tail ts i s = s.0.0
lit_stops lit_or_quant ts i s = s.0.0
lit_stops conj ts i s = s
lit_stops ands ts i s = s
lit_stops ors ts i s = s
lit_stops lit ts i s = s
lit_stops (expr k) ts i s = cc

-- a form that is a literal wherever it stands alone
literals : (raw : Raw) (alone : Part → Front) → ((q : Part) → Keeps (alone q))
    → ((p : Part) → inside p ≡ pred → (ts rest : List Token) → alone p ts rest → StopsAt p rest → L ts raw rest) → CompletePred raw (InParens inside alone)
literals raw alone keep bare = from_bare raw alone keep (record {
  in_lit = λ ts rest h s. bare lit refl ts rest h s;
  in_lit_or_quant = λ ts rest h s. bare lit_or_quant refl ts rest h s;
  in_ands = λ ts rest h s. inl (bare ands refl ts rest h s);
  in_ors = λ ts rest h s. inl (bare ors refl ts rest h s);
  in_conj = λ ts rest h s. conj_of_lit ts raw rest (bare conj refl ts rest h s.0) s;
  in_conj_or_tail = λ ts rest h s. conj_of_lit ts raw rest (bare conj_or_tail refl ts rest h s) s.0;
  in_pred = λ ts rest h s. pred_of_lit ts raw rest (bare pred refl ts rest h s) s;
})

-- one that is no predicate
pub no_predicate : (raw : Raw) (alone : Part → Front) → ((q : Part) → Keeps (alone q)) → ((p : Part) → inside p ≡ pred → (ts rest : List Token) → alone p ts rest → ⊥)
    → CompletePred raw (InParens inside alone)
no_predicate raw alone keep never_alone = literals raw alone keep (λ p i ts rest h s. absurd (never_alone p i ts rest h))

pub no_level : (l : ℕ) (p : Part) → inside p ≡ pred → may_have_level l p ≡ false
no_level l pred i = refl
no_level l conj i = refl
no_level l conj_or_tail i = refl
no_level l ands i = refl
no_level l ors i = refl
no_level l lit i = refl
no_level l lit_or_quant i = refl
no_level l (expr k) i = cc

pub clash : {A : Type 0} (b : Bool) → b ≡ true → b ≡ false → A
clash b t f = let e : true ≡ false = sym t ∙ f in absurd (no_true e)
  where
    no_true : true ≡ false → ⊥
    no_true e = cc

-- a form that may stand only where a level may
pub level_only : (raw : Raw) (l : ℕ) (inner : Front) → ((q : Part) → Keeps (Where (may_have_level l q) inner))
    → CompletePred raw (InParens inside (λ p. Where (may_have_level l p) inner))
level_only raw l inner keep = no_predicate raw (λ p. Where (may_have_level l p) inner) keep (λ p i ts rest h. clash (may_have_level l p) h.0 (no_level l p i))

lit_once : (raw : Raw) (rest ts us : List Token) → ts ≡ us → ((g : ℕ) → parse (suc g) a_lit us ≡ Some (raw, rest)) → L ts raw rest
lit_once raw rest ts us e h = subst (λ xs. L xs raw rest) (sym e) (later (λ g. parse g a_lit us) (λ g. Some (raw, rest)) (raw, rest) h (always _ _ (λ g. refl)))

-- the words
pub word_pred : (m : ℕ) → CompletePred (word m) (Reads (word m))
word_pred m = literals (word m) (λ p. Where (may_be_word m p) (Is (mark m))) (λ q ts rest h n. keeps (word m) q ts rest (inl h) n) bare
  where
    is_truth : (p : Part) → inside p ≡ pred → may_be_word m p ≡ true → is_among (true_word ∷ false_word ∷ []) m ≡ true
    is_truth p i h = or_else (λ a. (and_both _ _ a).0) (λ b. clash (is_expression p) (and_both _ _ b).1 (no_level 10 p i)) (or_either (is_among (true_word ∷ false_word ∷ []) m && is_predicate p) _ h)

    bare : (p : Part) → inside p ≡ pred → (ts rest : List Token) → Where (may_be_word m p) (Is (mark m)) ts rest → StopsAt p rest → L ts (word m) rest
    bare p i ts rest h s = among_all (λ k. ts ≡ mark k ∷ rest → L ts (word k) rest) (true_word ∷ false_word ∷ [])
        ((λ e. lit_once (word true_word) rest ts (mark true_word ∷ rest) e (λ g. refl)), ((λ e. lit_once (word false_word) rest ts (mark false_word ∷ rest) e (λ g. refl)), tt))
        m (is_truth p i h.0) h.1

-- `finite(E)`
none_of : (a b c d : Bool) (x y z : Option Part) → a ≡ false → (if a && d then x else (if b && false then y else (if c && false then z else None))) ≡ None
none_of true b c d x y z e = clash true refl e
none_of false true true d x y z e = refl
none_of false true false d x y z e = refl
none_of false false true d x y z e = refl
none_of false false false d x y z e = refl

around_none : (m : ℕ) (p : Part) → inside p ≡ pred → (m == finite_word) ≡ false → around_operand m p ≡ None
around_none m pred i e = none_of (m == finite_word) (m == bool_word) (is_among calls m) true _ _ _ e
around_none m conj i e = none_of (m == finite_word) (m == bool_word) (is_among calls m) true _ _ _ e
around_none m conj_or_tail i e = none_of (m == finite_word) (m == bool_word) (is_among calls m) true _ _ _ e
around_none m ands i e = none_of (m == finite_word) (m == bool_word) (is_among calls m) true _ _ _ e
around_none m ors i e = none_of (m == finite_word) (m == bool_word) (is_among calls m) true _ _ _ e
around_none m lit i e = none_of (m == finite_word) (m == bool_word) (is_among calls m) true _ _ _ e
around_none m lit_or_quant i e = none_of (m == finite_word) (m == bool_word) (is_among calls m) true _ _ _ e
around_none m (expr k) i e = cc

finite_some : (p : Part) → inside p ≡ pred → around_operand finite_word p ≡ Some (expr expr_level)
finite_some pred i = refl
finite_some conj i = refl
finite_some conj_or_tail i = refl
finite_some ands i = refl
finite_some ors i = refl
finite_some lit i = refl
finite_some lit_or_quant i = refl
finite_some (expr k) i = cc

paren_stops : (ts : List Token) → Stops 0 (mark close_paren ∷ ts)
paren_stops ts = record { operator = refl; post = refl; type = refl }

finite_pred : (e : Raw) → Complete e (Reads e) → CompletePred (around finite_word e) (Reads (around finite_word e))
finite_pred e c = literals (around finite_word e) (λ p. WithOperand (around_operand finite_word p) inner) (λ q ts rest h n. keeps (around finite_word e) q ts rest (inl h) n) bare
  where
    inner : Part → Front
    inner q = Is (mark finite_word) then Is (mark open_paren) then Reads e q then Is (mark close_paren)

    read : (ts rest : List Token) → inner (expr 0) ts rest → L ts (around finite_word e) rest
    read ts rest (us, d, (vs, f, (ws, h, i))) =
        subst (λ xs. L xs (around finite_word e) rest) (sym (d ∙ ap (λ xs. mark finite_word ∷ xs) f))
        (later (λ g. parse g a_lit (mark finite_word ∷ mark open_paren ∷ vs)) (λ g. on_found (parse g (level 0) vs) (λ x xs. expect close_paren xs (λ rest. Some (around finite_word x, rest)))) (around finite_word e, rest) (λ g. refl)
        (and_then (λ g. parse g (level 0) vs) (λ g x xs. expect close_paren xs (λ rest. Some (around finite_word x, rest))) e (mark close_paren ∷ rest) (around finite_word e, rest)
        (c.at_level 0 (omega arith) vs (mark close_paren ∷ rest) (subst (λ xs. Reads e (expr 0) vs xs) i h) (paren_stops rest)) (always _ _ (λ g. refl))))

    bare : (p : Part) → inside p ≡ pred → (ts rest : List Token) → WithOperand (around_operand finite_word p) inner ts rest → StopsAt p rest → L ts (around finite_word e) rest
    bare p i ts rest h s = read ts rest (subst (λ o. WithOperand o inner ts rest) (finite_some p i) h)

pub around_pred : (m : ℕ) (e : Raw) → Complete e (Reads e) → CompletePred (around m e) (Reads (around m e))
around_pred m e c = go (m == finite_word) refl
  where
    go : (b : Bool) → (m == finite_word) ≡ b → CompletePred (around m e) (Reads (around m e))
    go true d = subst (λ k. CompletePred (around k e) (Reads (around k e))) (sym (eqb-true m finite_word d)) (finite_pred e c)
    go false d = no_predicate (around m e) (λ p. WithOperand (around_operand m p) (λ q. Is (mark m) then Is (mark open_paren) then Reads e q then Is (mark close_paren)))
        (λ q ts rest h n. keeps (around m e) q ts rest (inl h) n)
        (λ p i ts rest h. subst (λ o. WithOperand o (λ q. Is (mark m) then Is (mark open_paren) then Reads e q then Is (mark close_paren)) ts rest) (around_none m p i d) h)

-- negation
not_lit : (e : Raw) (ts after rest : List Token) → ts ≡ mark not_word ∷ after → L after e rest → L ts (unary not_word e) rest
not_lit e ts after rest is p = subst (λ xs. L xs (unary not_word e) rest) (sym is)
    (later (λ g. parse g a_lit (mark not_word ∷ after)) (λ g. on_found (parse g a_lit after) (λ x rest. Some (unary not_word x, rest))) (unary not_word e, rest) (λ g. refl)
    (and_then (λ g. parse g a_lit after) (λ g x rest. Some (unary not_word x, rest)) e rest (unary not_word e, rest) p (always _ _ (λ g. refl))))

not_pred : (e : Raw) → CompletePred e (Reads e) → CompletePred (unary not_word e) (Reads (unary not_word e))
not_pred e c = literals (unary not_word e) (λ p. WithOperand (operand not_word p) (λ q. Is (mark not_word) then Reads e q)) (λ q ts rest h n. keeps (unary not_word e) q ts rest (inl h) n) bare
  where
    bare : (p : Part) → inside p ≡ pred → (ts rest : List Token) → WithOperand (operand not_word p) (λ q. Is (mark not_word) then Reads e q) ts rest → StopsAt p rest → L ts (unary not_word e) rest
    bare pred i ts rest (after, is, h) s = not_lit e ts after rest is (c.as_lit_or_quant after rest h s)
    bare conj_or_tail i ts rest (after, is, h) s = not_lit e ts after rest is (c.as_lit_or_quant after rest h s)
    bare lit_or_quant i ts rest (after, is, h) s = not_lit e ts after rest is (c.as_lit_or_quant after rest h s)
    bare conj i ts rest (after, is, h) s = not_lit e ts after rest is (c.as_lit after rest h s)
    bare ands i ts rest (after, is, h) s = not_lit e ts after rest is (c.as_lit after rest h s)
    bare ors i ts rest (after, is, h) s = not_lit e ts after rest is (c.as_lit after rest h s)
    bare lit i ts rest (after, is, h) s = not_lit e ts after rest is (c.as_lit after rest h s)
    bare (expr k) i ts rest h s = cc

minus_none : (p : Part) → inside p ≡ pred → minus_operand p ≡ None
minus_none pred i = refl
minus_none conj i = refl
minus_none conj_or_tail i = refl
minus_none ands i = refl
minus_none ors i = refl
minus_none lit i = refl
minus_none lit_or_quant i = refl
minus_none (expr k) i = cc

unary_none : (m : ℕ) (p : Part) → inside p ≡ pred → (m == not_word) ≡ false → operand m p ≡ None
unary_none m p i e = rw e (same (m == minus_sign) (minus_operand p) (minus_none p i))
  where
    same : (b : Bool) (x : Option Part) → x ≡ None → (if b then x else None) ≡ None
    same true x e = e
    same false x e = refl

pub unary_pred : (m : ℕ) (e : Raw) → CompletePred e (Reads e) → CompletePred (unary m e) (Reads (unary m e))
unary_pred m e c = go (m == not_word) refl
  where
    go : (b : Bool) → (m == not_word) ≡ b → CompletePred (unary m e) (Reads (unary m e))
    go true d = subst (λ k. CompletePred (unary k e) (Reads (unary k e))) (sym (eqb-true m not_word d)) (not_pred e c)
    go false d = no_predicate (unary m e) (λ p. WithOperand (operand m p) (λ q. Is (mark m) then Reads e q)) (λ q ts rest h n. keeps (unary m e) q ts rest (inl h) n)
        (λ p i ts rest h. subst (λ o. WithOperand o (λ q. Is (mark m) then Reads e q) ts rest) (unary_none m p i d) h)

-- quantified predicates
quantifies_found : (m : ℕ) (bs : List Binder) (e : Raw) (us rest : List Token) → CompletePred e (Reads e)
    → (ReadsBinders bs then Is (mark dot) then Reads e pred) us rest → StopsPred rest
    → Eventually {A = Found Raw} (λ g. on_found (parse_binders g us) (λ cs vs. expect dot vs (λ ws. on_found (parse g a_pred ws) (λ p rest. whole_of (quantified m cs p) rest)))) (quantified m bs e, rest)
quantifies_found m bs e us rest c (vs, rb, (ws, i, h)) s =
    and_then (λ g. parse_binders g us) (λ g cs qs. expect dot qs (λ rs. on_found (parse g a_pred rs) (λ p rest. whole_of (quantified m cs p) rest))) bs (mark dot ∷ ws) (quantified m bs e, rest)
    (binders_found bs us (mark dot ∷ ws) (subst (λ qs. ReadsBinders bs us qs) i rb) ((refl, (refl, refl)), refl))
    (and_then (λ g. parse g a_pred ws) (λ g p rest. whole_of (quantified m bs p) rest) e rest (quantified m bs e, rest) (c.as_pred ws rest h s) (always _ _ (λ g. rw (s.0.1, s.0.2, s.1, s.2))))

quantified_lit : (m : ℕ) (bs : List Binder) (e : Raw) → CompletePred e (Reads e) → is_among (for_all_sign ∷ for_some_sign ∷ []) m ≡ true
    → (ts rest : List Token) → (Is (mark m) then ReadsBinders bs then Is (mark dot) then Reads e pred) ts rest → StopsPred rest → L ts (quantified m bs e) rest
quantified_lit m bs e c q ts rest (us, d, h) s =
    among_all (λ k. ts ≡ mark k ∷ us → L ts (quantified k bs e) rest) (for_all_sign ∷ for_some_sign ∷ [])
    (all, (some, tt)) m q d
  where
    all : ts ≡ mark for_all_sign ∷ us → L ts (quantified for_all_sign bs e) rest
    all d = subst (λ xs. L xs (quantified for_all_sign bs e) rest) (sym d)
        (later (λ g. parse g a_lit (mark for_all_sign ∷ us))
        (λ g. on_found (parse_binders g us) (λ cs vs. expect dot vs (λ ws. on_found (parse g a_pred ws) (λ p rest. whole_of (quantified for_all_sign cs p) rest))))
        (quantified for_all_sign bs e, rest) (λ g. refl) (quantifies_found for_all_sign bs e us rest c h s))

    some : ts ≡ mark for_some_sign ∷ us → L ts (quantified for_some_sign bs e) rest
    some d = subst (λ xs. L xs (quantified for_some_sign bs e) rest) (sym d)
        (later (λ g. parse g a_lit (mark for_some_sign ∷ us))
        (λ g. on_found (parse_binders g us) (λ cs vs. expect dot vs (λ ws. on_found (parse g a_pred ws) (λ p rest. whole_of (quantified for_some_sign cs p) rest))))
        (quantified for_some_sign bs e, rest) (λ g. refl) (quantifies_found for_some_sign bs e us rest c h s))

open_stops : (p : Part) (ts : List Token) → may_be_quantified p ≡ true → StopsAt p ts → StopsPred ts
open_stops pred ts i s = s
open_stops conj_or_tail ts i s = s
open_stops lit_or_quant ts i s = s
open_stops conj ts i s = cc
open_stops ands ts i s = cc
open_stops ors ts i s = cc
open_stops lit ts i s = cc
open_stops (expr k) ts i s = cc

pub quantified_pred : (m : ℕ) (bs : List Binder) (e : Raw) → CompletePred e (Reads e) → CompletePred (quantified m bs e) (Reads (quantified m bs e))
quantified_pred m bs e c = literals (quantified m bs e)
    (λ p. Where (may_be_quantified p && is_among (for_all_sign ∷ for_some_sign ∷ []) m) (Is (mark m) then ReadsBinders bs then Is (mark dot) then Reads e pred))
    (λ q ts rest h n. keeps (quantified m bs e) q ts rest (inl h) n)
    (λ p i ts rest h s. let b = and_both (may_be_quantified p) _ h.0 in quantified_lit m bs e c b.1 ts rest h.1 (open_stops p rest b.0 s))

-- what begins with an expression
not_prefix : (m : ℕ) → ((g : ℕ) (r w : Read) (ts : List Token) → prim g r w (mark m ∷ ts) ≡ None)
    → ((ts : List Token) → begins_special (mark m ∷ ts) ≡ false) → (m == minus_sign) ≡ false
    → (ts : List Token) (x : Raw) (us : List Token) → E 0 ts x us → begins m ts ≡ false
not_prefix m refuses special no_minus ts x us p =
    not_dead m 0 (λ g vs. dead m refuses 0 (λ k ts le. rw no_minus (and_no (k == 7))) (λ k ts le. rw (special ts) (and_no (k == 0))) g 0 vs (omega arith)) ts (x, us) p

pub record Plain (ts : List Token) : Type 0 where
  pub no_not : begins not_word ts ≡ false
  pub no_all : begins for_all_sign ts ≡ false
  pub no_some : begins for_some_sign ts ≡ false
  pub no_true : begins true_word ts ≡ false
  pub no_false : begins false_word ts ≡ false
  pub no_finite : begins finite_word ts ≡ false

pub plain_of : (ts : List Token) (x : Raw) (us : List Token) → E 0 ts x us → Plain ts
plain_of ts x us p = record {
  no_not = not_prefix not_word (λ g r w ts. refl) (λ ts. refl) refl ts x us p;
  no_all = not_prefix for_all_sign (λ g r w ts. refl) (λ ts. refl) refl ts x us p;
  no_some = not_prefix for_some_sign (λ g r w ts. refl) (λ ts. refl) refl ts x us p;
  no_true = not_prefix true_word (λ g r w ts. refl) (λ ts. refl) refl ts x us p;
  no_false = not_prefix false_word (λ g r w ts. refl) (λ ts. refl) refl ts x us p;
  no_finite = not_prefix finite_word (λ g r w ts. refl) (λ ts. refl) refl ts x us p;
}

begins_is : (m : ℕ) (ts : List Token) → begins m ts ≡ true → (us : List Token) × (ts ≡ mark m ∷ us)
begins_is m [] h = absurd (clash false h refl)
begins_is m (name n ∷ ts) h = absurd (clash false h refl)
begins_is m (number n ∷ ts) h = absurd (clash false h refl)
begins_is m (mark k ∷ ts) h = (ts, ap (λ i. mark i ∷ ts) (eqb-true k m h))

-- a literal that is read as an expression and what comes behind it
lit_not_open : (x : Raw) (ts us : List Token) (y : Found Raw) → begins open_paren ts ≡ false → E 0 ts x us
    → Eventually {A = Found Raw} (λ g. related (parse g (level 0)) x us) y → Eventually {A = Found Raw} (λ g. parse g a_lit ts) y
lit_not_open x ts us y no_open p q = let a : Plain ts = plain_of ts x us p in
    later (λ g. parse g a_lit ts) (λ g. on_found (parse g (level 0) ts) (related (parse g (level 0)))) y
    (λ g. rw (a.no_not, a.no_all, a.no_some, a.no_true, a.no_false, a.no_finite, no_open) refl)
    (and_then (λ g. parse g (level 0) ts) (λ g. related (parse g (level 0))) x us y p q)

lit_open : (x : Raw) (ts us after : List Token) (y : Found Raw) → after_close 0 ts ≡ Some after → (goes_on after || is_relation after) ≡ true → E 0 (mark open_paren ∷ ts) x us
    → Eventually {A = Found Raw} (λ g. related (parse g (level 0)) x us) y → Eventually {A = Found Raw} (λ g. parse g a_lit (mark open_paren ∷ ts)) y
lit_open x ts us after y e goes p q =
    later (λ g. parse g a_lit (mark open_paren ∷ ts)) (λ g. on_found (parse g (level 0) (mark open_paren ∷ ts)) (related (parse g (level 0)))) y
    (λ g. ap (λ o. behind_open (parse g (level 0)) (parse g a_pred) (mark open_paren ∷ ts) o) e ∙ rw goes refl)
    (and_then (λ g. parse g (level 0) (mark open_paren ∷ ts)) (λ g. related (parse g (level 0))) x us y p q)

or_right : (a b : Bool) → b ≡ true → (a || b) ≡ true
or_right true b h = refl
or_right false b h = h

or_left : (a b : Bool) → a ≡ true → (a || b) ≡ true
or_left true b h = refl
or_left false b h = absurd (clash false h refl)

-- relations
relation_goes : (m : ℕ) → is_among relation_signs m ≡ true → (ts : List Token) → goes_on (mark m ∷ ts) ≡ false
relation_goes m h = among_all (λ k. (ts : List Token) → goes_on (mark k ∷ ts) ≡ false) relation_signs
    ((λ ts. refl), ((λ ts. refl), ((λ ts. refl), ((λ ts. refl), ((λ ts. refl), ((λ ts. refl), ((λ ts. refl), ((λ ts. refl), ((λ ts. refl), ((λ ts. refl), tt)))))))))) m h

relation_lit : (m : ℕ) (a b : Raw) → Complete a (Reads a) → Complete b (Reads b) → is_among relation_signs m ≡ true
    → (ts rest : List Token) → (Reads a (expr 0) then Is (mark m) then Reads b (expr 0)) ts rest → StopsLit rest → L ts (binary m a b) rest
relation_lit m a b ca cb r ts rest (us, ha, (vs, is, hb)) s = go (begins open_paren ts) refl
  where
    left : Reads a (expr 0) ts (mark m ∷ vs)
    left = subst (λ xs. Reads a (expr 0) ts xs) is ha

    first : E 0 ts a (mark m ∷ vs)
    first = ca.at_level 0 (omega arith) ts (mark m ∷ vs) left (stops_0 (mark m ∷ vs) (relation_goes m r vs))

    second : Eventually {A = Found Raw} (λ g. related (parse g (level 0)) a (mark m ∷ vs)) (binary m a b, rest)
    second = like (λ g. related (parse g (level 0)) a (mark m ∷ vs)) (λ g. on_found (parse g (level 0) vs) (λ d rest. Some (binary m a d, rest))) (binary m a b, rest) (λ g. rw r)
        (and_then (λ g. parse g (level 0) vs) (λ g d rest. Some (binary m a d, rest)) b rest (binary m a b, rest) (cb.at_level 0 (omega arith) vs rest hb (stops_0 rest s.0)) (always _ _ (λ g. refl)))

    opened : (ws : List Token) → ts ≡ mark open_paren ∷ ws → L ts (binary m a b) rest
    opened ws e =
        let d : Behind ws (mark m ∷ vs) = open_first a 0 ws (mark m ∷ vs) (subst (λ xs. Reads a (expr 0) xs (mark m ∷ vs)) e left) in
        subst (λ xs. L xs (binary m a b) rest) (sym e)
        (lit_open a ws (mark m ∷ vs) d.after (binary m a b, rest) d.found
        (or_else (λ i. or_right (goes_on d.after) (is_relation d.after) (ap is_relation i ∙ r)) (λ i. or_left (goes_on d.after) (is_relation d.after) i) d.goes)
        (subst (λ xs. E 0 xs a (mark m ∷ vs)) e first) second)

    go : (t : Bool) → begins open_paren ts ≡ t → L ts (binary m a b) rest
    go false e = lit_not_open a ts (mark m ∷ vs) (binary m a b, rest) e first second
    go true e = let w = begins_is open_paren ts e in opened w.0 w.1

-- calls
call_related : (n : List ℕ) (es : Raws) (read : Read) (rest : List Token) → is_relation rest ≡ false → related read (call n es) rest ≡ Some (call n es, rest)
call_related n es read [] h = refl
call_related n es read (t ∷ ts) h = rw h

call_lit : (n : List ℕ) (es : Raws) (us rest : List Token) → E 0 (name n ∷ us) (call n es) rest → StopsLit rest → L (name n ∷ us) (call n es) rest
call_lit n es us rest p s = lit_not_open (call n es) (name n ∷ us) rest (call n es, rest) refl p (always _ _ (λ g. call_related n es (parse g (level 0)) rest s.1))

pub name_pred : (n : List ℕ) → Complete (call n none) (Reads (call n none)) → CompletePred (call n none) (Reads (call n none))
name_pred n c = literals (call n none) (λ p. Where (may_be_name p) (Is (name n))) (λ q ts rest h n'. keeps (call n none) q ts rest (inl h) n')
    (λ p i ts rest h s. let t : StopsLit rest = lit_stops p rest i s in
    subst (λ xs. L xs (call n none) rest) (sym h.1)
    (call_lit n none rest rest (c.at_level 0 (omega arith) (name n ∷ rest) rest (inl (refl, refl)) (stops_0 rest t.0)) t))

pub call_pred : (n : List ℕ) (e : Raw) (es : Raws) → Complete (call n (one e es)) (Reads (call n (one e es))) → CompletePred (call n (one e es)) (Reads (call n (one e es)))
call_pred n e es c = literals (call n (one e es))
    (λ p. Where (is_predicate p || is_expression p) (Is (name n) then Is (mark open_paren) then Reads e (expr expr_level) then ReadsMore es then Is (mark close_paren)))
    (λ q ts rest h n'. keeps (call n (one e es)) q ts rest (inl h) n')
    (λ p i ts rest (w, (us, d, h)) s. let t : StopsLit rest = lit_stops p rest i s in
    subst (λ xs. L xs (call n (one e es)) rest) (sym d)
    (call_lit n (one e es) us rest (c.at_level 0 (omega arith) (name n ∷ us) rest (inl (refl, (us, refl, h))) (stops_0 rest t.0)) t))

-- connectives
spine_at : (m : ℕ) (a : Raw) (ts us vs : List Token) → us ≡ vs → Spine m ts a us → Spine m ts a vs
spine_at m a ts us vs e s = subst (λ xs. Spine m ts a xs) e s

module _ (a b : Raw) (ca : CompletePred a (Reads a)) (cb : CompletePred b (Reads b)) where
  abbrev Two : ℕ → Part → Part → Front
  Two m l r = Reads a l then Is (mark m) then Reads b r

  and_left : (ts us vs : List Token) → us ≡ mark and_sign ∷ vs → Reads a ands ts us → Spine and_sign ts a (mark and_sign ∷ vs)
  and_left ts us vs is ra = ca.as_ands ts (mark and_sign ∷ vs) (subst (λ xs. Reads a ands ts xs) is ra) (refl, refl)

  or_left_side : (ts us vs : List Token) → us ≡ mark or_word ∷ vs → Reads a ors ts us → Spine or_word ts a (mark or_word ∷ vs)
  or_left_side ts us vs is ra = ca.as_ors ts (mark or_word ∷ vs) (subst (λ xs. Reads a ors ts xs) is ra) (refl, refl)

  and_chain : (ts rest : List Token) → Two and_sign ands lit ts rest → StopsLit rest → Chained and_sign ts (binary and_sign a b) rest
  and_chain ts rest (us, ra, (vs, is, rb)) s = snoc and_sign a b ts vs rest (and_left ts us vs is ra) (cb.as_lit vs rest rb s)

  and_chain_quant : (ts rest : List Token) → Two and_sign ands lit_or_quant ts rest → StopsPred rest → Chained and_sign ts (binary and_sign a b) rest
  and_chain_quant ts rest (us, ra, (vs, is, rb)) s = snoc and_sign a b ts vs rest (and_left ts us vs is ra) (cb.as_lit_or_quant vs rest rb s)

  or_chain : (ts rest : List Token) → Two or_word ors lit ts rest → StopsLit rest → Chained or_word ts (binary or_word a b) rest
  or_chain ts rest (us, ra, (vs, is, rb)) s = snoc or_word a b ts vs rest (or_left_side ts us vs is ra) (cb.as_lit vs rest rb s)

  or_chain_quant : (ts rest : List Token) → Two or_word ors lit_or_quant ts rest → StopsPred rest → Chained or_word ts (binary or_word a b) rest
  or_chain_quant ts rest (us, ra, (vs, is, rb)) s = snoc or_word a b ts vs rest (or_left_side ts us vs is ra) (cb.as_lit_or_quant vs rest rb s)

  finish_and : (ts rest : List Token) → Chained and_sign ts (binary and_sign a b) rest → StopsConj rest → C ts (binary and_sign a b) rest
  finish_and ts rest c s = finish and_sign ts (binary and_sign a b) rest (λ n read x mid. refl) c s.1

  finish_or : (ts rest : List Token) → Chained or_word ts (binary or_word a b) rest → StopsConj rest → C ts (binary or_word a b) rest
  finish_or ts rest c s = finish or_word ts (binary or_word a b) rest (λ n read x mid. refl) c s.2

  and_complete : CompletePred (binary and_sign a b) (Reads (binary and_sign a b))
  and_complete = from_bare (binary and_sign a b) (λ p. WithOperands (operands and_sign p) (Two and_sign)) (λ q ts rest h n. keeps (binary and_sign a b) q ts rest (inl h) n) (record {
    in_lit = λ ts rest h s. absurd h;
    in_lit_or_quant = λ ts rest h s. absurd h;
    in_ands = λ ts rest h s. inr (and_chain ts rest h s);
    in_ors = λ ts rest h s. absurd h;
    in_conj = λ ts rest h s. finish_and ts rest (and_chain ts rest h s.0) s;
    in_conj_or_tail = λ ts rest h s. finish_and ts rest (and_chain_quant ts rest h s) s.0;
    in_pred = λ ts rest h s. pred_of_conj ts _ rest (finish_and ts rest (and_chain_quant ts rest h s) s.0) s;
  })

  or_complete : CompletePred (binary or_word a b) (Reads (binary or_word a b))
  or_complete = from_bare (binary or_word a b) (λ p. WithOperands (operands or_word p) (Two or_word)) (λ q ts rest h n. keeps (binary or_word a b) q ts rest (inl h) n) (record {
    in_lit = λ ts rest h s. absurd h;
    in_lit_or_quant = λ ts rest h s. absurd h;
    in_ands = λ ts rest h s. absurd h;
    in_ors = λ ts rest h s. inr (or_chain ts rest h s);
    in_conj = λ ts rest h s. finish_or ts rest (or_chain ts rest h s.0) s;
    in_conj_or_tail = λ ts rest h s. finish_or ts rest (or_chain_quant ts rest h s) s.0;
    in_pred = λ ts rest h s. pred_of_conj ts _ rest (finish_or ts rest (or_chain_quant ts rest h s) s.0) s;
  })

  -- an implication or equivalence
  implies_pred : (m : ℕ) → ((ts : List Token) → StopsConj (mark m ∷ ts))
      → ((conj : Read) (x : Raw) (ts : List Token) → implied conj x (mark m ∷ ts) ≡ on_found (conj ts) (λ c rest. Some (binary m x c, rest)))
      → (ts rest : List Token) → Two m conj conj_or_tail ts rest → StopsPred rest → P ts (binary m a b) rest
  implies_pred m stops picks ts rest (us, ra, (vs, is, rb)) end =
      later (λ g. parse g a_pred ts) (λ g. on_found (parse g a_conj ts) (implied (parse g a_conj))) (binary m a b, rest) (λ g. refl)
      (and_then (λ g. parse g a_conj ts) (λ g. implied (parse g a_conj)) a (mark m ∷ vs) (binary m a b, rest)
      (ca.as_conj ts (mark m ∷ vs) (subst (λ xs. Reads a conj ts xs) is ra) (stops vs))
      (like (λ g. implied (parse g a_conj) a (mark m ∷ vs)) (λ g. on_found (parse g a_conj vs) (λ c rest. Some (binary m a c, rest))) (binary m a b, rest) (λ g. picks (parse g a_conj) a vs)
      (and_then (λ g. parse g a_conj vs) (λ g c rest. Some (binary m a c, rest)) b rest (binary m a b, rest) (cb.as_conj_or_tail vs rest rb end) (always _ _ (λ g. refl)))))

  implies_complete : CompletePred (binary implies_sign a b) (Reads (binary implies_sign a b))
  implies_complete = from_bare (binary implies_sign a b) (λ p. WithOperands (operands implies_sign p) (Two implies_sign)) (λ q ts rest h n. keeps (binary implies_sign a b) q ts rest (inl h) n) (record {
    in_lit = λ ts rest h s. absurd h;
    in_lit_or_quant = λ ts rest h s. absurd h;
    in_ands = λ ts rest h s. absurd h;
    in_ors = λ ts rest h s. absurd h;
    in_conj = λ ts rest h s. absurd h;
    in_conj_or_tail = λ ts rest h s. absurd h;
    in_pred = λ ts rest h s. implies_pred implies_sign (λ ts. ((refl, refl), refl, refl)) (λ read x ts. refl) ts rest h s;
  })

  iff_complete : CompletePred (binary iff_sign a b) (Reads (binary iff_sign a b))
  iff_complete = from_bare (binary iff_sign a b) (λ p. WithOperands (operands iff_sign p) (Two iff_sign)) (λ q ts rest h n. keeps (binary iff_sign a b) q ts rest (inl h) n) (record {
    in_lit = λ ts rest h s. absurd h;
    in_lit_or_quant = λ ts rest h s. absurd h;
    in_ands = λ ts rest h s. absurd h;
    in_ors = λ ts rest h s. absurd h;
    in_conj = λ ts rest h s. absurd h;
    in_conj_or_tail = λ ts rest h s. absurd h;
    in_pred = λ ts rest h s. implies_pred iff_sign (λ ts. ((refl, refl), refl, refl)) (λ read x ts. refl) ts rest h s;
  })

-- what a mark asks for, where it is no connective
other_operands : (m : ℕ) (p : Part) → is_among (implies_sign ∷ iff_sign ∷ []) m ≡ false → (m == and_sign) ≡ false → (m == or_word) ≡ false
    → operands m p ≡ (if is_among relation_signs m then relation_operands p else operator_operands m p)
other_operands m p i a o = rw (i, a, o) refl

relation_two : (p : Part) → inside p ≡ pred → relation_operands p ≡ Some (record { left = expr expr_level; right = expr expr_level })
relation_two pred i = refl
relation_two conj i = refl
relation_two conj_or_tail i = refl
relation_two ands i = refl
relation_two ors i = refl
relation_two lit i = refl
relation_two lit_or_quant i = refl
relation_two (expr k) i = cc

operator_none : (m : ℕ) (p : Part) → inside p ≡ pred → operator_operands m p ≡ None
operator_none m pred i = refl
operator_none m conj i = refl
operator_none m conj_or_tail i = refl
operator_none m ands i = refl
operator_none m ors i = refl
operator_none m lit i = refl
operator_none m lit_or_quant i = refl
operator_none m (expr k) i = cc

pub binary_pred : (m : ℕ) (a b : Raw) → Complete a (Reads a) → Complete b (Reads b) → CompletePred a (Reads a) → CompletePred b (Reads b) → CompletePred (binary m a b) (Reads (binary m a b))
binary_pred m a b ea eb ca cb = go (is_among (implies_sign ∷ iff_sign ∷ []) m) refl (m == and_sign) refl (m == or_word) refl (is_among relation_signs m) refl
  where
    Goal : ℕ → Type 0
    Goal k = CompletePred (binary k a b) (Reads (binary k a b))

    both : Part → Part → Front
    both l r = Reads a l then Is (mark m) then Reads b r

    keep : (q : Part) → Keeps (WithOperands (operands m q) both)
    keep q ts rest h n = keeps (binary m a b) q ts rest (inl h) n

    go : (i : Bool) → is_among (implies_sign ∷ iff_sign ∷ []) m ≡ i → (x : Bool) → (m == and_sign) ≡ x → (y : Bool) → (m == or_word) ≡ y
        → (r : Bool) → is_among relation_signs m ≡ r → Goal m
    go true i x ex y ey r er = among_all Goal (implies_sign ∷ iff_sign ∷ []) (implies_complete a b ca cb, (iff_complete a b ca cb, tt)) m i
    go false i true ex y ey r er = subst Goal (sym (eqb-true m and_sign ex)) (and_complete a b ca cb)
    go false i false ex true ey r er = subst Goal (sym (eqb-true m or_word ey)) (or_complete a b ca cb)
    go false i false ex false ey true er = literals (binary m a b) (λ p. WithOperands (operands m p) both) keep
        (λ p is ts rest h s. relation_lit m a b ea eb er ts rest
        (subst (λ o. WithOperands o both ts rest) (relation_asks p is) h) (lit_stops p rest is s))
      where
        relation_asks : (p : Part) → inside p ≡ pred → operands m p ≡ Some (record { left = expr expr_level; right = expr expr_level })
        relation_asks p is = other_operands m p i ex ey ∙ rw er (relation_two p is)
    go false i false ex false ey false er = no_predicate (binary m a b) (λ p. WithOperands (operands m p) both) keep
        (λ p is ts rest h. subst (λ o. WithOperands o both ts rest) (asks_none p is) h)
      where
        asks_none : (p : Part) → inside p ≡ pred → operands m p ≡ None
        asks_none p is = other_operands m p i ex ey ∙ rw er (operator_none m p is)
