-- An expression that begins with a parenthesis: behind the closing one it ends, or goes on with a mark that goes on with an expression.
use Rattle.std.proofs.Common.{◌≡◌, ℕ, zero, suc, ◌+◌, Bool, true, false, List, [], ◌∷◌, refl, ap, subst, sym, ◌∙◌, ◌⊎◌, inl, inr, arith, eq-eqb}
use Rattle.std.specs.Prelude.{Option, Some, None, ◌==◌, nat_le}
use Rattle.std.proofs.lemmas.Bool.Decides.{nat_tests}
use Rattle.ev_syntax.specs.Marks.{open_paren, close_paren}
use Rattle.ev_syntax.specs.Tokens.{Token, name, number, mark}
use Rattle.ev_syntax.specs.Raw.{Raw, word, literal, param, type_set, call, around, unary, binary, inverse, apply, image, of_type, quantified, set_of, collected, lambda, members, written, none, one}
use Rattle.ev_syntax.specs.Parts.{Part, expr, operands, operand, around_operand, may_be_word, inside}
use Rattle.ev_syntax.specs.Grammar.{Front, Is, ◌then◌, Times, InParens, Reads, WithOperand, WithOperands, may_collect}
use Rattle.ev_syntax.proofs.Levels.{operator_at}
use Rattle.ev_syntax.proofs.Balanced.{after_close, Keeps, IsOther, keeps, keeps_times, closes_times, other_by_test, other_by_none, IsNotNone}
pub use Rattle.ev_syntax.specs.inner.Lookahead.{goes_on}

pub record Behind (ts rest : List Token) : Type 0 where
  pub after : List Token
  pub found : after_close 0 ts ≡ Some after
  pub goes : (after ≡ rest) ⊎ (goes_on after ≡ true)

abbrev rest_of : List Token → List Token
rest_of [] = []
rest_of (t ∷ ts) = ts

abbrev first_mark : List Token → ℕ
first_mark [] = 0
first_mark (name n ∷ ts) = 0
first_mark (number n ∷ ts) = 0
first_mark (mark m ∷ ts) = m

-- another mark does not come first
not_mark : (m : ℕ) (ts us : List Token) → IsOther m → mark open_paren ∷ ts ≡ mark m ∷ us → ⊥
not_mark m ts us o e = clash (m == open_paren) o.0 (eq-eqb m open_paren (sym (ap first_mark e)))
  where
    clash : (b : Bool) → b ≡ false → b ≡ true → ⊥
    clash b f t = let no : false ≡ true = sym f ∙ t in cc

not_name : (n : List ℕ) (ts us : List Token) → mark open_paren ∷ ts ≡ name n ∷ us → ⊥
not_name n ts us e = cc

not_number : (n : ℕ) (ts us : List Token) → mark open_paren ∷ ts ≡ number n ∷ us → ⊥
not_number n ts us e = cc

close_last : (n : ℕ) (t : Token) (ts rest : List Token) → Times (suc n) t ts rest → Times n t ts (t ∷ rest)
close_last zero t ts rest (after, e, h) = e ∙ ap (λ xs. t ∷ xs) h
close_last (suc n) t ts rest (after, e, h) = (after, e, close_last n t after rest h)

-- what stands in parentheses as a whole ends behind its closing one
pub in_parens : (alone : Part → Front) (p : Part) → ((q : Part) → Keeps (alone q)) → (j : ℕ) (ts mid to rest : List Token)
    → Times (suc j) (mark open_paren) (mark open_paren ∷ ts) mid → alone (inside p) mid to → Times (suc j) (mark close_paren) to rest → after_close 0 ts ≡ Some rest
in_parens alone p k j ts mid to rest (us, e, o) h c =
    ap (λ xs. after_close 0 (rest_of xs)) e ∙ keeps_times j us mid o 0 ∙ k (inside p) mid to h (j + 0) ∙ closes_times j to (mark close_paren ∷ rest) (close_last j (mark close_paren) to rest c) 0

-- an operand that comes first, before a mark that goes on
first_operand : (ts us rest : List Token) → goes_on us ≡ true → Behind ts us → Behind ts rest
first_operand ts us rest g b = record { after = b.after; found = b.found; goes = inr (or_goes b.goes) }
  where
    or_goes : (b.after ≡ us) ⊎ (goes_on b.after ≡ true) → goes_on b.after ≡ true
    or_goes (inl e) = ap goes_on e ∙ g
    or_goes (inr h) = h

operator_goes : (m k : ℕ) (reads : Part → Part → Front) (ts rest us : List Token) → WithOperands (operands m (expr k)) reads ts rest → goes_on (mark m ∷ us) ≡ true
operator_goes m k reads ts rest us h = let a = operator_at m k reads ts rest h in rw (a.used.is_found, least a.operator.level)
  where
    least : (l : ℕ) → nat_le 0 l ≡ true
    least l = grind (arith, nat_tests)

-- alone, or in parentheses as a whole
behind : (e : Raw) (alone : Part → Front) → ((q : Part) → Keeps (alone q)) → (k : ℕ)
    → ((ts rest : List Token) → alone (expr k) (mark open_paren ∷ ts) rest → Behind ts rest)
    → (ts rest : List Token) → InParens inside alone (expr k) (mark open_paren ∷ ts) rest → Behind ts rest
behind e alone keep k bare ts rest (inl h) = bare ts rest h
behind e alone keep k bare ts rest (inr (j, (mid, o, (to, h, c)))) =
    record { after = rest; found = in_parens alone (expr k) keep j ts mid to rest o h c; goes = inl refl }

no_operand : (m : ℕ) (o : Option Part) (then_reads : Part → Front) (ts rest : List Token) → (IsNotNone o → IsOther m)
    → WithOperand o (λ q. Is (mark m) then then_reads q) (mark open_paren ∷ ts) rest → ⊥
no_operand m None r ts rest other h = h
no_operand m (Some q) r ts rest other (us, e, h) = not_mark m ts us (other tt) e

false_true : false ≡ true → ⊥
false_true h = cc

pub open_first : (e : Raw) → (k : ℕ) (ts rest : List Token) → Reads e (expr k) (mark open_paren ∷ ts) rest → Behind ts rest
open_first (word m) k ts rest h = behind (word m) _ (λ q ts rest h n. keeps (word m) q ts rest (inl h) n) k
    (λ ts rest h. absurd (not_mark m ts rest (other_by_test (λ i. may_be_word i (expr k)) m h.0 refl refl) h.1)) ts rest h
open_first (literal n) k ts rest h = behind (literal n) _ (λ q ts rest h m. keeps (literal n) q ts rest (inl h) m) k (λ ts rest h. absurd (not_number n ts rest h.1)) ts rest h
open_first (param i) k ts rest h = behind (param i) _ (λ q ts rest h n. keeps (param i) q ts rest (inl h) n) k
    (λ ts rest h. absurd (not_mark _ ts _ (refl, refl) h.1.1.1)) ts rest h
open_first (type_set a) k ts rest h = behind (type_set a) _ (λ q ts rest h n. keeps (type_set a) q ts rest (inl h) n) k
    (λ ts rest h. absurd (not_mark _ ts _ (refl, refl) h.1.1)) ts rest h
open_first (call x none) k ts rest h = behind (call x none) _ (λ q ts rest h n. keeps (call x none) q ts rest (inl h) n) k (λ ts rest h. absurd (not_name x ts rest h.1)) ts rest h
open_first (call x (one e es)) k ts rest h = behind (call x (one e es)) _ (λ q ts rest h n. keeps (call x (one e es)) q ts rest (inl h) n) k
    (λ ts rest h. absurd (not_name x ts _ h.1.1)) ts rest h
open_first (around m e) k ts rest h = behind (around m e) _ (λ q ts rest h n. keeps (around m e) q ts rest (inl h) n) k
    (λ ts rest h. absurd (no_operand m (around_operand m (expr k)) _ ts rest (λ s. other_by_none (λ i. around_operand i (expr k)) m s refl refl) h)) ts rest h
open_first (unary m e) k ts rest h = behind (unary m e) _ (λ q ts rest h n. keeps (unary m e) q ts rest (inl h) n) k
    (λ ts rest h. absurd (no_operand m (operand m (expr k)) _ ts rest (λ s. other_by_none (λ i. operand i (expr k)) m s refl refl) h)) ts rest h
open_first (binary m a b) k ts rest h = behind (binary m a b) _ (λ q ts rest h n. keeps (binary m a b) q ts rest (inl h) n) k
    (λ ts rest h. let u = operator_at m k (λ l r. Reads a l then Is (mark m) then Reads b r) (mark open_paren ∷ ts) rest h in
    first_operand ts u.operands_read.0 rest
    (subst (λ xs. goes_on xs ≡ true) (sym u.operands_read.2.1) (operator_goes m k (λ l r. Reads a l then Is (mark m) then Reads b r) (mark open_paren ∷ ts) rest u.operands_read.2.0 h))
    (open_first a u.operator.left ts u.operands_read.0 u.operands_read.1)) ts rest h
open_first (inverse e) k ts rest h = behind (inverse e) _ (λ q ts rest h n. keeps (inverse e) q ts rest (inl h) n) k
    (λ ts rest h. first_operand ts h.1.0 rest (subst (λ xs. goes_on xs ≡ true) (sym h.1.2) refl) (open_first e 9 ts h.1.0 h.1.1)) ts rest h
open_first (apply f e) k ts rest h = behind (apply f e) _ (λ q ts rest h n. keeps (apply f e) q ts rest (inl h) n) k
    (λ ts rest h. first_operand ts h.1.0 rest (subst (λ xs. goes_on xs ≡ true) (sym h.1.2.1) refl) (open_first f 10 ts h.1.0 h.1.1)) ts rest h
open_first (image f e) k ts rest h = behind (image f e) _ (λ q ts rest h n. keeps (image f e) q ts rest (inl h) n) k
    (λ ts rest h. first_operand ts h.1.0 rest (subst (λ xs. goes_on xs ≡ true) (sym h.1.2.1) refl) (open_first f 9 ts h.1.0 h.1.1)) ts rest h
open_first (of_type e a) k ts rest h = behind (of_type e a) _ (λ q ts rest h n. keeps (of_type e a) q ts rest (inl h) n) k
    (λ ts rest h. first_operand ts h.1.0 rest (subst (λ xs. goes_on xs ≡ true) (sym h.1.2.1) refl) (open_first e 1 ts h.1.0 h.1.1)) ts rest h
open_first (quantified m bs e) k ts rest h = behind (quantified m bs e) _ (λ q ts rest h n. keeps (quantified m bs e) q ts rest (inl h) n) k (λ ts rest h. absurd (false_true h.0)) ts rest h
open_first (set_of b e) k ts rest h = behind (set_of b e) _ (λ q ts rest h n. keeps (set_of b e) q ts rest (inl h) n) k
    (λ ts rest h. absurd (not_mark _ ts _ (refl, refl) h.1.1)) ts rest h
open_first (collected m bs e f) k ts rest h = behind (collected m bs e f) _ (λ q ts rest h n. keeps (collected m bs e f) q ts rest (inl h) n) k
    (λ ts rest h. absurd (not_mark m ts _ (other_by_test (λ i. may_collect i (expr k)) m h.0 refl refl) h.1.1)) ts rest h
open_first (lambda x e f) k ts rest h = behind (lambda x e f) _ (λ q ts rest h n. keeps (lambda x e f) q ts rest (inl h) n) k
    (λ ts rest h. absurd (not_mark _ ts _ (refl, refl) h.1.1)) ts rest h
open_first (members none) k ts rest h = behind (members none) _ (λ q ts rest h n. keeps (members none) q ts rest (inl h) n) k
    (λ ts rest h. absurd (not_mark _ ts _ (refl, refl) h.1.1)) ts rest h
open_first (members (one e es)) k ts rest h = behind (members (one e es)) _ (λ q ts rest h n. keeps (members (one e es)) q ts rest (inl h) n) k
    (λ ts rest h. absurd (not_mark _ ts _ (refl, refl) h.1.1)) ts rest h
open_first (written a) k ts rest h = absurd h

-- behind the first closing parenthesis it goes on
pub record Goes (ts : List Token) : Type 0 where
  pub after : List Token
  pub found : after_close 0 ts ≡ Some after
  pub goes : goes_on after ≡ true

goes_first : (ts us rest : List Token) → goes_on us ≡ true → Behind ts us → Goes ts
goes_first ts us rest g b = record { after = b.after; found = b.found; goes = or_goes b.goes }
  where
    or_goes : (b.after ≡ us) ⊎ (goes_on b.after ≡ true) → goes_on b.after ≡ true
    or_goes (inl e) = ap goes_on e ∙ g
    or_goes (inr h) = h

within : (alone : Part → Front) → ((q : Part) → Keeps (alone q)) → (k : ℕ) → ((ts rest : List Token) → alone (expr k) (mark open_paren ∷ ts) rest → Goes ts)
    → (ts rest : List Token) → InParens inside alone (expr k) (mark open_paren ∷ ts) rest → Goes ts ⊎ InParens inside alone (expr 0) ts (mark close_paren ∷ rest)
within alone keep k bare ts rest (inl h) = inl (bare ts rest h)
within alone keep k bare ts rest (inr (zero, (mid, (us, e, o), (to, h, (vs, d, c))))) =
    inr (inl (subst (λ xs. alone (expr 0) xs (mark close_paren ∷ rest)) (sym (ap rest_of e ∙ o)) (subst (λ xs. alone (expr 0) mid xs) (d ∙ ap (λ xs. mark close_paren ∷ xs) c) h)))
within alone keep k bare ts rest (inr (suc n, (mid, (us, e, o), (to, h, c)))) =
    inr (inr (n, (mid, subst (λ xs. Times (suc n) (mark open_paren) xs mid) (sym (ap rest_of e)) o, (to, h, close_last (suc n) (mark close_paren) to rest c))))

-- an expression that begins with a parenthesis: it goes on behind the closing one, or it is another expression in parentheses
pub open_whole : (e : Raw) → (k : ℕ) (ts rest : List Token) → Reads e (expr k) (mark open_paren ∷ ts) rest → Goes ts ⊎ Reads e (expr 0) ts (mark close_paren ∷ rest)
open_whole (word m) k ts rest h = within _ (λ q ts rest h n. keeps (word m) q ts rest (inl h) n) k
    (λ ts rest h. absurd (not_mark m ts rest (other_by_test (λ i. may_be_word i (expr k)) m h.0 refl refl) h.1)) ts rest h
open_whole (literal n) k ts rest h = within _ (λ q ts rest h m. keeps (literal n) q ts rest (inl h) m) k (λ ts rest h. absurd (not_number n ts rest h.1)) ts rest h
open_whole (param i) k ts rest h = within _ (λ q ts rest h n. keeps (param i) q ts rest (inl h) n) k
    (λ ts rest h. absurd (not_mark _ ts _ (refl, refl) h.1.1.1)) ts rest h
open_whole (type_set a) k ts rest h = within _ (λ q ts rest h n. keeps (type_set a) q ts rest (inl h) n) k
    (λ ts rest h. absurd (not_mark _ ts _ (refl, refl) h.1.1)) ts rest h
open_whole (call x none) k ts rest h = within _ (λ q ts rest h n. keeps (call x none) q ts rest (inl h) n) k (λ ts rest h. absurd (not_name x ts rest h.1)) ts rest h
open_whole (call x (one e es)) k ts rest h = within _ (λ q ts rest h n. keeps (call x (one e es)) q ts rest (inl h) n) k
    (λ ts rest h. absurd (not_name x ts _ h.1.1)) ts rest h
open_whole (around m e) k ts rest h = within _ (λ q ts rest h n. keeps (around m e) q ts rest (inl h) n) k
    (λ ts rest h. absurd (no_operand m (around_operand m (expr k)) _ ts rest (λ s. other_by_none (λ i. around_operand i (expr k)) m s refl refl) h)) ts rest h
open_whole (unary m e) k ts rest h = within _ (λ q ts rest h n. keeps (unary m e) q ts rest (inl h) n) k
    (λ ts rest h. absurd (no_operand m (operand m (expr k)) _ ts rest (λ s. other_by_none (λ i. operand i (expr k)) m s refl refl) h)) ts rest h
open_whole (binary m a b) k ts rest h = within _ (λ q ts rest h n. keeps (binary m a b) q ts rest (inl h) n) k
    (λ ts rest h. let u = operator_at m k (λ l r. Reads a l then Is (mark m) then Reads b r) (mark open_paren ∷ ts) rest h in
    goes_first ts u.operands_read.0 rest
    (subst (λ xs. goes_on xs ≡ true) (sym u.operands_read.2.1) (operator_goes m k (λ l r. Reads a l then Is (mark m) then Reads b r) (mark open_paren ∷ ts) rest u.operands_read.2.0 h))
    (open_first a u.operator.left ts u.operands_read.0 u.operands_read.1)) ts rest h
open_whole (inverse e) k ts rest h = within _ (λ q ts rest h n. keeps (inverse e) q ts rest (inl h) n) k
    (λ ts rest h. goes_first ts h.1.0 rest (subst (λ xs. goes_on xs ≡ true) (sym h.1.2) refl) (open_first e 9 ts h.1.0 h.1.1)) ts rest h
open_whole (apply f e) k ts rest h = within _ (λ q ts rest h n. keeps (apply f e) q ts rest (inl h) n) k
    (λ ts rest h. goes_first ts h.1.0 rest (subst (λ xs. goes_on xs ≡ true) (sym h.1.2.1) refl) (open_first f 10 ts h.1.0 h.1.1)) ts rest h
open_whole (image f e) k ts rest h = within _ (λ q ts rest h n. keeps (image f e) q ts rest (inl h) n) k
    (λ ts rest h. goes_first ts h.1.0 rest (subst (λ xs. goes_on xs ≡ true) (sym h.1.2.1) refl) (open_first f 9 ts h.1.0 h.1.1)) ts rest h
open_whole (of_type e a) k ts rest h = within _ (λ q ts rest h n. keeps (of_type e a) q ts rest (inl h) n) k
    (λ ts rest h. goes_first ts h.1.0 rest (subst (λ xs. goes_on xs ≡ true) (sym h.1.2.1) refl) (open_first e 1 ts h.1.0 h.1.1)) ts rest h
open_whole (quantified m bs e) k ts rest h = within _ (λ q ts rest h n. keeps (quantified m bs e) q ts rest (inl h) n) k (λ ts rest h. absurd (false_true h.0)) ts rest h
open_whole (set_of b e) k ts rest h = within _ (λ q ts rest h n. keeps (set_of b e) q ts rest (inl h) n) k
    (λ ts rest h. absurd (not_mark _ ts _ (refl, refl) h.1.1)) ts rest h
open_whole (collected m bs e f) k ts rest h = within _ (λ q ts rest h n. keeps (collected m bs e f) q ts rest (inl h) n) k
    (λ ts rest h. absurd (not_mark m ts _ (other_by_test (λ i. may_collect i (expr k)) m h.0 refl refl) h.1.1)) ts rest h
open_whole (lambda x e f) k ts rest h = within _ (λ q ts rest h n. keeps (lambda x e f) q ts rest (inl h) n) k
    (λ ts rest h. absurd (not_mark _ ts _ (refl, refl) h.1.1)) ts rest h
open_whole (members none) k ts rest h = within _ (λ q ts rest h n. keeps (members none) q ts rest (inl h) n) k
    (λ ts rest h. absurd (not_mark _ ts _ (refl, refl) h.1.1)) ts rest h
open_whole (members (one e es)) k ts rest h = within _ (λ q ts rest h n. keeps (members (one e es)) q ts rest (inl h) n) k
    (λ ts rest h. absurd (not_mark _ ts _ (refl, refl) h.1.1)) ts rest h
open_whole (written a) k ts rest h = absurd h
