-- For one list of tokens and one sort there is one raw tree at most, and what stops a formula stops each one that begins so.
use Rattle.std.proofs.Common.{◌≡◌, ℕ, zero, suc, ◌+◌, ◌≤◌, Bool, true, false, List, [], ◌∷◌, ◌++◌, refl, ap, subst, sym, ◌∙◌, arith, ◌⊎◌, inl, inr, append-nil}
use Rattle.std.specs.Prelude.{Option, Some, None, ◌==◌, max}
use Rattle.std.proofs.lemmas.Bool.{eqb-true}
use Rattle.ev_syntax.specs.Marks.{open_paren, close_paren, comma}
use Rattle.ev_syntax.specs.Tokens.{Token, name, number, mark}
use Rattle.ev_syntax.specs.Raw.{RawType, Raw, word, literal, param, type_set, call, around, unary, binary, inverse, apply, image, of_type, quantified, set_of, collected, lambda, members, written}
use Rattle.ev_syntax.specs.Parts.{pred, expr}
use Rattle.ev_syntax.specs.Grammar.{Reads, ReadsType}
use Rattle.ev_syntax.specs.declared.sorts.Sort.{Sort}
use Rattle.ev_syntax.specs.declared.sorts.Sort.TheVariants.{Pred, Expr, Either, TypeText}
use Rattle.ev_syntax.specs.Parses.{ReadsAs, Parses}
use Rattle.ev_syntax.specs.GrammarLaws.{AtMostOneTree, CommaEndsFormula}
use Rattle.ev_syntax.proofs.Eventually.{Found, on_found, Eventually, same_answer}
use Rattle.ev_syntax.proofs.TypesRead.{begins, expect, parse_type, a_type, StopsType, type_found}
use Rattle.ev_syntax.proofs.Frame.{Takes, frame, type_frame}
use Rattle.ev_syntax.proofs.Balanced.{after_close}
use Rattle.ev_syntax.proofs.OpenFirst.{goes_on, Behind, open_first, Goes, open_whole}
use Rattle.ev_syntax.proofs.WholeParser.{Read, parse, level, a_lit, a_conj, a_pred, E, is_relation, related, call_only, behind_open, connected, implied}
use Rattle.ev_syntax.proofs.WholeLiterals.{StopsLit, StopsPred, stops_0}
use Rattle.ev_syntax.proofs.WholePredicates.{Plain, plain_of}
use Rattle.ev_syntax.proofs.WholeGrammar.{whole}

-- from some fuel on there is this answer or none
abbrev Settles : {A : Type 0} → (ℕ → Option A) → A → Type 0
Settles p x = (f : ℕ) × ((g : ℕ) → f ≤ g → (p g ≡ Some x) ⊎ (p g ≡ None))

settle_later : {A : Type 0} (p q : ℕ → Option A) (x : A) → ((g : ℕ) → p (suc g) ≡ q g) → Settles q x → Settles p x
settle_later {A} p q x h e = (suc e.0, more)
  where
    via : (g : ℕ) → (q g ≡ Some x) ⊎ (q g ≡ None) → (p (suc g) ≡ Some x) ⊎ (p (suc g) ≡ None)
    via g (inl d) = inl (h g ∙ d)
    via g (inr d) = inr (h g ∙ d)

    more : (g : ℕ) → suc e.0 ≤ g → (p g ≡ Some x) ⊎ (p g ≡ None)
    more zero le = absurd (omega arith)
    more (suc g) le = via g (e.1 g (omega arith))

settle_then : {A B : Type 0} (p : ℕ → Option (Found A)) (k : ℕ → A → List Token → Option B) (x : A) (rest : List Token) (y : B)
    → Settles p (x, rest) → Settles (λ g. k g x rest) y → Settles (λ g. on_found (p g) (k g)) y
settle_then {A} {B} p k x rest y e d = (max e.0 d.0, λ g le. go g (e.1 g (omega arith)) (d.1 g (omega arith)))
  where
    go : (g : ℕ) → (p g ≡ Some (x, rest)) ⊎ (p g ≡ None) → (k g x rest ≡ Some y) ⊎ (k g x rest ≡ None) → (on_found (p g) (k g) ≡ Some y) ⊎ (on_found (p g) (k g) ≡ None)
    go g (inl i) (inl j) = inl (ap (λ o. on_found o (k g)) i ∙ j)
    go g (inl i) (inr j) = inr (ap (λ o. on_found o (k g)) i ∙ j)
    go g (inr i) j = inr (ap (λ o. on_found o (k g)) i)

surely : {A : Type 0} (p : ℕ → Option A) (x : A) → Eventually p x → Settles p x
surely p x e = (e.0, λ g le. inl (e.1 g le))

settled_same : {A : Type 0} (p : ℕ → Option A) (x y : A) → Settles p x → Eventually p y → x ≡ y
settled_same {A} p x y e d = go (e.1 (e.0 + d.0) (omega arith)) (d.1 (e.0 + d.0) (omega arith))
  where
    inj : (o : Option A) → o ≡ Some x → o ≡ Some y → x ≡ y
    inj o e d = cc

    none_some : (o : Option A) → o ≡ None → o ≡ Some y → x ≡ y
    none_some o e d = cc

    go : (p (e.0 + d.0) ≡ Some x) ⊎ (p (e.0 + d.0) ≡ None) → p (e.0 + d.0) ≡ Some y → x ≡ y
    go (inl i) j = inj _ i j
    go (inr i) j = none_some _ i j

-- behind an expression that no relation follows: it is a call, or there is no literal
call_settles : (b : Raw) (rest : List Token) → (call_only b rest ≡ Some (b, rest)) ⊎ (call_only b rest ≡ None)
call_settles (call n es) rest = inl refl
call_settles (word m) rest = inr refl
call_settles (literal n) rest = inr refl
call_settles (param i) rest = inr refl
call_settles (type_set a) rest = inr refl
call_settles (around m e) rest = inr refl
call_settles (unary m e) rest = inr refl
call_settles (binary m a b) rest = inr refl
call_settles (inverse e) rest = inr refl
call_settles (apply e f) rest = inr refl
call_settles (image e f) rest = inr refl
call_settles (of_type e a) rest = inr refl
call_settles (quantified m bs e) rest = inr refl
call_settles (set_of x e) rest = inr refl
call_settles (collected m bs e f) rest = inr refl
call_settles (lambda x e f) rest = inr refl
call_settles (members es) rest = inr refl
call_settles (written a) rest = inr refl

related_only : (read : Read) (b : Raw) (rest : List Token) → is_relation rest ≡ false → related read b rest ≡ call_only b rest
related_only read b [] h = refl
related_only read b (t ∷ ts) h = rw h

related_settles : (b : Raw) (rest : List Token) → is_relation rest ≡ false → Settles {A = Found Raw} (λ g. related (parse g (level 0)) b rest) (b, rest)
related_settles b rest h = (0, λ g le. go g (call_settles b rest))
  where
    go : (g : ℕ) → (call_only b rest ≡ Some (b, rest)) ⊎ (call_only b rest ≡ None)
        → (related (parse g (level 0)) b rest ≡ Some (b, rest)) ⊎ (related (parse g (level 0)) b rest ≡ None)
    go g (inl e) = inl (related_only (parse g (level 0)) b rest h ∙ e)
    go g (inr e) = inr (related_only (parse g (level 0)) b rest h ∙ e)

pred_settles : (ts : List Token) (b : Raw) (rest : List Token) → Settles {A = Found Raw} (λ g. parse g a_lit ts) (b, rest) → StopsPred rest
    → Settles {A = Found Raw} (λ g. parse g a_pred ts) (b, rest)
pred_settles ts b rest l s =
    settle_later (λ g. parse g a_pred ts) (λ g. on_found (parse g a_conj ts) (implied (parse g a_conj))) (b, rest) (λ g. refl)
    (settle_then (λ g. parse g a_conj ts) (λ g. implied (parse g a_conj)) b rest (b, rest)
    (settle_later (λ g. parse g a_conj ts) (λ g. on_found (parse g a_lit ts) (connected g (parse g a_lit))) (b, rest) (λ g. refl)
    (settle_then (λ g. parse g a_lit ts) (λ g. connected g (parse g a_lit)) b rest (b, rest) l (0, λ g le. inl (rw (s.0.1, s.0.2)))))
    (0, λ g le. inl (rw (s.1, s.2))))

abbrev LitSettles : List Token → Raw → List Token → Type 0
LitSettles ts b rest = Settles {A = Found Raw} (λ g. parse g a_lit ts) (b, rest)

-- where an expression stands first, the parser of literals finds that or nothing
plain_settles : (ts : List Token) (b : Raw) (rest : List Token) → begins open_paren ts ≡ false → E 0 ts b rest → StopsLit rest → LitSettles ts b rest
plain_settles ts b rest no_open p s = let a : Plain ts = plain_of ts b rest p in
    settle_later (λ g. parse g a_lit ts) (λ g. on_found (parse g (level 0) ts) (related (parse g (level 0)))) (b, rest)
    (λ g. rw (a.no_not, a.no_all, a.no_some, a.no_true, a.no_false, a.no_finite, no_open) refl)
    (settle_then (λ g. parse g (level 0) ts) (λ g. related (parse g (level 0))) b rest (b, rest) (surely (λ g. parse g (level 0) ts) (b, rest) p) (related_settles b rest s.1))

goes_settles : (ts : List Token) (b : Raw) (rest after : List Token) → after_close 0 ts ≡ Some after → goes_on after ≡ true → E 0 (mark open_paren ∷ ts) b rest → StopsLit rest
    → LitSettles (mark open_paren ∷ ts) b rest
goes_settles ts b rest after e goes p s =
    settle_later (λ g. parse g a_lit (mark open_paren ∷ ts)) (λ g. on_found (parse g (level 0) (mark open_paren ∷ ts)) (related (parse g (level 0)))) (b, rest)
    (λ g. ap (λ o. behind_open (parse g (level 0)) (parse g a_pred) (mark open_paren ∷ ts) o) e ∙ rw goes refl)
    (settle_then (λ g. parse g (level 0) (mark open_paren ∷ ts)) (λ g. related (parse g (level 0))) b rest (b, rest)
    (surely (λ g. parse g (level 0) (mark open_paren ∷ ts)) (b, rest) p) (related_settles b rest s.1))

paren_settles : (ts : List Token) (b : Raw) (rest : List Token) → after_close 0 ts ≡ Some rest → StopsLit rest
    → Settles {A = Found Raw} (λ g. parse g a_pred ts) (b, mark close_paren ∷ rest) → LitSettles (mark open_paren ∷ ts) b rest
paren_settles ts b rest e s l =
    settle_later (λ g. parse g a_lit (mark open_paren ∷ ts)) (λ g. on_found (parse g a_pred ts) (λ q vs. expect close_paren vs (λ rest. Some (q, rest)))) (b, rest)
    (λ g. ap (λ o. behind_open (parse g (level 0)) (parse g a_pred) (mark open_paren ∷ ts) o) e ∙ rw (s.0, s.1) refl)
    (settle_then (λ g. parse g a_pred ts) (λ g q vs. expect close_paren vs (λ rest. Some (q, rest))) b (mark close_paren ∷ rest) (b, rest) l (0, λ g le. inl refl))

expr_found : (b : Raw) (ts rest : List Token) → Reads b (expr 0) ts rest → StopsLit rest → E 0 ts b rest
expr_found b ts rest h s = (whole b).as_expr.at_level 0 (omega arith) ts rest h (stops_0 rest s.0)

lit_settles : (ts : List Token) (b : Raw) (rest : List Token) → Reads b (expr 0) ts rest → StopsLit rest → LitSettles ts b rest
lit_settles [] b rest h s = plain_settles [] b rest refl (expr_found b [] rest h s) s
lit_settles (name n ∷ ts) b rest h s = plain_settles (name n ∷ ts) b rest refl (expr_found b (name n ∷ ts) rest h s) s
lit_settles (number n ∷ ts) b rest h s = plain_settles (number n ∷ ts) b rest refl (expr_found b (number n ∷ ts) rest h s) s
lit_settles (mark m ∷ ts) b rest h s = go (m == open_paren) refl (λ i. lit_settles ts b (mark close_paren ∷ rest) i (refl, refl))
  where
    opened : Reads b (expr 0) (mark open_paren ∷ ts) rest → (Reads b (expr 0) ts (mark close_paren ∷ rest) → LitSettles ts b (mark close_paren ∷ rest)) → LitSettles (mark open_paren ∷ ts) b rest
    opened h again = by_whole (open_whole b 0 ts rest h)
      where
        found : E 0 (mark open_paren ∷ ts) b rest
        found = expr_found b (mark open_paren ∷ ts) rest h s

        by_behind : (d : Behind ts rest) → (d.after ≡ rest) ⊎ (goes_on d.after ≡ true) → Reads b (expr 0) ts (mark close_paren ∷ rest) → LitSettles (mark open_paren ∷ ts) b rest
        by_behind d (inl e) i = paren_settles ts b rest (d.found ∙ ap (λ xs. Some xs) e) s
            (pred_settles ts b (mark close_paren ∷ rest) (again i) (((refl, refl), refl, refl), refl, refl))
        by_behind d (inr e) i = goes_settles ts b rest d.after d.found e found s

        by_whole : Goes ts ⊎ Reads b (expr 0) ts (mark close_paren ∷ rest) → LitSettles (mark open_paren ∷ ts) b rest
        by_whole (inl d) = goes_settles ts b rest d.after d.found d.goes found s
        by_whole (inr i) = let d : Behind ts rest = open_first b 0 ts rest h in by_behind d d.goes i

    go : (t : Bool) → (m == open_paren) ≡ t → (Reads b (expr 0) ts (mark close_paren ∷ rest) → LitSettles ts b (mark close_paren ∷ rest)) → LitSettles (mark m ∷ ts) b rest
    go false e again = plain_settles (mark m ∷ ts) b rest e (expr_found b (mark m ∷ ts) rest h s) s
    go true e again = subst (λ k. LitSettles (mark k ∷ ts) b rest) (sym (eqb-true m open_paren e))
        (opened (subst (λ k. Reads b (expr 0) (mark k ∷ ts) rest) (eqb-true m open_paren e) h) again)

-- the same tree before the same tokens
abbrev pub SameFound : Raw → List Token → Raw → List Token → Type 0
SameFound a us b vs = ◌≡◌ {A = Found Raw} (a, us) (b, vs)

-- what reads as a predicate and as an expression is the same
pub both : (a b : Raw) (ts us vs : List Token) → Reads a pred ts us → StopsPred us → Reads b (expr 0) ts vs → StopsPred vs → SameFound b vs a us
both a b ts us vs ha s hb t =
    settled_same (λ g. parse g a_pred ts) (b, vs) (a, us) (pred_settles ts b vs (lit_settles ts b vs hb t.0.0) t) ((whole a).as_predicate.as_pred ts us ha s)

-- what cannot go on with a formula of the sort
abbrev pub StopsAs : Sort → List Token → Type 0
StopsAs TypeText ts = StopsType ts
StopsAs _ ts = StopsPred ts

-- what reads as a type is one
pub record IsType (a : Raw) (ts rest : List Token) : Type 0 where
  pub type : RawType
  pub is : a ≡ written type
  pub reads : ReadsType type true ts rest

pub is_type : (a : Raw) (ts rest : List Token) → ReadsAs TypeText a ts rest → IsType a ts rest
is_type (written a) ts rest h = record { type = a; is = refl; reads = h }
is_type (word m) ts rest h = absurd h
is_type (literal n) ts rest h = absurd h
is_type (param i) ts rest h = absurd h
is_type (type_set a) ts rest h = absurd h
is_type (call n es) ts rest h = absurd h
is_type (around m e) ts rest h = absurd h
is_type (unary m e) ts rest h = absurd h
is_type (binary m a b) ts rest h = absurd h
is_type (inverse e) ts rest h = absurd h
is_type (apply e f) ts rest h = absurd h
is_type (image e f) ts rest h = absurd h
is_type (of_type e a) ts rest h = absurd h
is_type (quantified m bs e) ts rest h = absurd h
is_type (set_of x e) ts rest h = absurd h
is_type (collected m bs e f) ts rest h = absurd h
is_type (lambda x e f) ts rest h = absurd h
is_type (members es) ts rest h = absurd h

same_type : (a b : Raw) (ts us vs : List Token) → IsType a ts us → StopsType us → IsType b ts vs → StopsType vs → SameFound a us b vs
same_type a b ts us vs ha s hb t =
    ap (λ (x : Raw). (x, us)) ha.is
    ∙ ap (λ (x : Found RawType). (written x.0, x.1))
    (same_answer (λ g. parse_type g a_type ts) (ha.type, us) (hb.type, vs) (type_found ha.type ts us ha.reads s) (type_found hb.type ts vs hb.reads t))
    ∙ ap (λ (x : Raw). (x, vs)) (sym hb.is)

same_pred : (a b : Raw) (ts us vs : List Token) → Reads a pred ts us → StopsPred us → Reads b pred ts vs → StopsPred vs → SameFound a us b vs
same_pred a b ts us vs ha s hb t =
    same_answer (λ g. parse g a_pred ts) (a, us) (b, vs) ((whole a).as_predicate.as_pred ts us ha s) ((whole b).as_predicate.as_pred ts vs hb t)

same_expr : (a b : Raw) (ts us vs : List Token) → Reads a (expr 0) ts us → StopsPred us → Reads b (expr 0) ts vs → StopsPred vs → SameFound a us b vs
same_expr a b ts us vs ha s hb t = same_answer (λ g. parse g (level 0) ts) (a, us) (b, vs) (expr_found a ts us ha s.0.0) (expr_found b ts vs hb t.0.0)

-- one formula of a sort at most stands first and ends before what cannot go on with it
pub same_front : (sort : Sort) (a b : Raw) (ts us vs : List Token) → ReadsAs sort a ts us → StopsAs sort us → ReadsAs sort b ts vs → StopsAs sort vs → SameFound a us b vs
same_front Pred a b ts us vs ha s hb t = same_pred a b ts us vs ha s hb t
same_front Expr a b ts us vs ha s hb t = same_expr a b ts us vs ha s hb t
same_front Either a b ts us vs (inl ha) s (inl hb) t = same_pred a b ts us vs ha s hb t
same_front Either a b ts us vs (inr ha) s (inr hb) t = same_expr a b ts us vs ha s hb t
same_front Either a b ts us vs (inl ha) s (inr hb) t = sym (both a b ts us vs ha s hb t)
same_front Either a b ts us vs (inr ha) s (inl hb) t = both b a ts vs us hb t ha s
same_front TypeText a b ts us vs ha s hb t = same_type a b ts us vs (is_type a ts us ha) s (is_type b ts vs hb) t

pub nothing_stops : (sort : Sort) → StopsAs sort []
nothing_stops Pred = (((refl, refl), refl, refl), refl, refl)
nothing_stops Expr = (((refl, refl), refl, refl), refl, refl)
nothing_stops Either = (((refl, refl), refl, refl), refl, refl)
nothing_stops TypeText = (refl, refl)

pub comma_stops : (sort : Sort) (ts : List Token) → StopsAs sort (mark comma ∷ ts)
comma_stops Pred ts = (((refl, refl), refl, refl), refl, refl)
comma_stops Expr ts = (((refl, refl), refl, refl), refl, refl)
comma_stops Either ts = (((refl, refl), refl, refl), refl, refl)
comma_stops TypeText ts = (refl, refl)

pub at_most_one_tree : AtMostOneTree
at_most_one_tree ts sort a b ha hb = ap (λ (x : Found Raw). x.0) (same_front sort a b ts [] [] ha (nothing_stops sort) hb (nothing_stops sort))

-- a formula of a sort stands at the front of others that begin so
pub as_frame : (sort : Sort) (a : Raw) (ts rest : List Token) → ReadsAs sort a ts rest → Takes (ReadsAs sort a) ts rest
as_frame Pred a ts rest h = let t : Takes (Reads a pred) ts rest = frame a pred ts rest h in record { front = t.front; splits = t.splits; anywhere = t.anywhere }
as_frame Expr a ts rest h = let t : Takes (Reads a (expr 0)) ts rest = frame a (expr 0) ts rest h in record { front = t.front; splits = t.splits; anywhere = t.anywhere }
as_frame Either a ts rest (inl h) = let t : Takes (Reads a pred) ts rest = frame a pred ts rest h in
    record { front = t.front; splits = t.splits; anywhere = λ other. inl (t.anywhere other) }
as_frame Either a ts rest (inr h) = let t : Takes (Reads a (expr 0)) ts rest = frame a (expr 0) ts rest h in
    record { front = t.front; splits = t.splits; anywhere = λ other. inr (t.anywhere other) }
as_frame TypeText a ts rest h = let i : IsType a ts rest = is_type a ts rest h in let t : Takes (ReadsType i.type true) ts rest = type_frame i.type true ts rest i.reads in
    record { front = t.front; splits = t.splits; anywhere = λ other. subst (λ x. ReadsAs TypeText x (t.front ++ other) other) (sym i.is) (t.anywhere other) }

-- what is all of some tokens stands before any others
pub before_others : (sort : Sort) (a : Raw) (ts other : List Token) → Parses ts sort a → ReadsAs sort a (ts ++ other) other
before_others sort a ts other h = let t : Takes (ReadsAs sort a) ts [] = as_frame sort a ts [] h in
    subst (λ xs. ReadsAs sort a (xs ++ other) other) (sym (t.splits ∙ append-nil t.front)) (t.anywhere other)

-- where what comes behind a formula cannot go on with it, no longer front is a formula of the sort
pub no_longer : (sort : Sort) (a b : Raw) (ts more : List Token) → Parses ts sort a → StopsAs sort more → Parses (ts ++ more) sort b → more ≡ []
no_longer sort a b ts more ha s hb =
    ap (λ (x : Found Raw). x.1) (same_front sort a b (ts ++ more) more [] (before_others sort a ts more ha) s hb (nothing_stops sort))

pub comma_ends_formula : CommaEndsFormula
comma_ends_formula ts more sort a b ha hb = not_empty (no_longer sort a b ts (mark comma ∷ more) ha (comma_stops sort more) hb)
  where
    not_empty : mark comma ∷ more ≡ [] → ⊥
    not_empty e = cc
