-- What was read at a place and ends, and that nothing else stands there.
use Rattle.std.proofs.Common.{◌≡◌, ℕ, ◌-◌, ◌≤◌, ◌<◌, Bool, true, false, List, length, drop, refl, ap, subst, arith, length-drop}
use Rattle.std.specs.Prelude.{Option, Some, None}
use Rattle.ev_syntax.specs.Tokens.{Token}
use Rattle.ev_syntax.specs.Raw.{RawType, Raw, written, nesting}
use Rattle.ev_syntax.specs.inner.Pieces.{IsPiece}
use Rattle.ev_syntax.specs.declared.read_pieces.Piece.{Piece}
use Rattle.ev_syntax.specs.inner.Finding.{Found, Comes}
use Rattle.ev_syntax.specs.inner.FormulaParser.{parse, level, a_pred}
use Rattle.ev_syntax.specs.inner.TypeParser.{parse_type, a_type}
use Rattle.ev_syntax.specs.declared.sorts.Sort.{Sort}
use Rattle.ev_syntax.specs.declared.sorts.Sort.TheVariants.{Pred, Expr, TypeText}
use Rattle.ev_syntax.specs.Parses.{ReadsAs, IsRun}
use Rattle.ev_syntax.proofs.Comes.{pred_run_answer, expr_run_answer, type_answer}
use Rattle.ev_syntax.proofs.Answers.{pred_sound, expr_sound, type_sound}
use Rattle.ev_syntax.proofs.RunLaws.{front_run, run_front}
use Rattle.ev_syntax.proofs.OneTree.{IsType, is_type}
use Rattle.ev_parse.specs.Items.{ends, ItemAnswer}
use Rattle.ev_parse.proofs.EndingMoves.{ends_stops}

-- nothing that ends stands there
abbrev pub NoItem : Sort → List Token → ℕ → Type 0
NoItem sort ts from = (n : ℕ) (raw : Raw) → IsRun ts from sort n raw → ends (drop n (drop from ts)) ≡ true → ⊥

-- what was read is a run
front_to : (sort : Sort) (ts : List Token) (from to : ℕ) (raw : Raw) → ReadsAs sort raw (drop from ts) (drop to ts) → from < to → to ≤ length ts → IsRun ts from sort (to - from) raw
front_to sort ts from to raw h lt le =
    let a : length (drop from ts) ≡ length ts - from = length-drop from ts in
    let b : length (drop to ts) ≡ length ts - to = length-drop to ts in
    let e : length (drop from ts) - length (drop to ts) ≡ to - from = omega arith in
    subst (λ n. IsRun ts from sort n raw) e (front_run ts from sort raw (drop to ts) h)

-- an answer is one alone
differ : {A : Type 0} (o : Option A) (x : A) → o ≡ None → o ≡ Some x → ⊥
differ o x e d = cc

abbrev rest_of : {A : Type 0} → List Token → Option (Found A) → List Token
rest_of us None = us
rest_of us (Some x) = x.1

open_clash : {A : Type 0} (a b : A) (us vs : List Token) → ◌≡◌ {A = Option (Found A)} (Some (a, us)) (Some (b, vs)) → ends us ≡ false → ends vs ≡ true → ⊥
open_clash a b us vs e out end = let same : us ≡ vs = ap (rest_of us) e in let d : ends us ≡ ends vs = ap ends same in clash (ends us) (ends vs) d out end
  where
    clash : (x y : Bool) → x ≡ y → x ≡ false → y ≡ true → ⊥
    clash x y e out end = cc

-- predicates
pub no_pred : (ts : List Token) (from : ℕ) → Comes (λ g. parse g a_pred (drop from ts)) None → NoItem Pred ts from
no_pred ts from c n raw h s = differ {A = Found Raw} None (raw, drop n (drop from ts)) refl (pred_run_answer ts from n raw None c h (ends_stops Pred (drop n (drop from ts)) s))

pub open_pred : (ts : List Token) (from to : ℕ) (r : Raw) → Comes (λ g. parse g a_pred (drop from ts)) (Some (r, drop to ts)) → ends (drop to ts) ≡ false → NoItem Pred ts from
open_pred ts from to r c out n raw h s =
    open_clash r raw (drop to ts) (drop n (drop from ts)) (pred_run_answer ts from n raw (Some (r, drop to ts)) c h (ends_stops Pred (drop n (drop from ts)) s)) out s

pub pred_item : (ts : List Token) (from to limit : ℕ) (p : Piece Raw) (r : Raw) → Comes (λ g. parse g a_pred (drop from ts)) (Some (r, drop to ts)) → IsPiece nesting limit p r
    → from < to → to ≤ length ts → ends (drop to ts) ≡ true → ItemAnswer Pred limit ts from (Some (p, to))
pred_item ts from to limit p r c q lt le s = (r, q, front_to Pred ts from to r (pred_sound (drop from ts) (drop to ts) r c) lt le, s, lt, le)

-- expressions
pub no_expr : (ts : List Token) (from : ℕ) → Comes (λ g. parse g (level 0) (drop from ts)) None → NoItem Expr ts from
no_expr ts from c n raw h s = differ {A = Found Raw} None (raw, drop n (drop from ts)) refl (expr_run_answer ts from n raw None c h (ends_stops Expr (drop n (drop from ts)) s))

pub open_expr : (ts : List Token) (from to : ℕ) (r : Raw) → Comes (λ g. parse g (level 0) (drop from ts)) (Some (r, drop to ts)) → ends (drop to ts) ≡ false → NoItem Expr ts from
open_expr ts from to r c out n raw h s =
    open_clash r raw (drop to ts) (drop n (drop from ts)) (expr_run_answer ts from n raw (Some (r, drop to ts)) c h (ends_stops Expr (drop n (drop from ts)) s)) out s

pub expr_item : (ts : List Token) (from to limit : ℕ) (p : Piece Raw) (r : Raw) → Comes (λ g. parse g (level 0) (drop from ts)) (Some (r, drop to ts)) → IsPiece nesting limit p r
    → from < to → to ≤ length ts → ends (drop to ts) ≡ true → ItemAnswer Expr limit ts from (Some (p, to))
expr_item ts from to limit p r c q lt le s = (r, q, front_to Expr ts from to r (expr_sound 0 (omega arith) (drop from ts) (drop to ts) r c) lt le, s, lt, le)

-- types
type_run : (ts : List Token) (from n : ℕ) (raw : Raw) (o : Option (Found RawType)) → Comes (λ g. parse_type g a_type (drop from ts)) o → IsRun ts from TypeText n raw
    → ends (drop n (drop from ts)) ≡ true → (a : RawType) × (o ≡ Some (a, drop n (drop from ts)))
type_run ts from n raw o c h s =
    let i : IsType raw (drop from ts) (drop n (drop from ts)) = is_type raw (drop from ts) (drop n (drop from ts)) (run_front ts from TypeText n raw h) in
    (i.type, type_answer (drop from ts) (drop n (drop from ts)) i.type o c i.reads (ends_stops TypeText (drop n (drop from ts)) s))

pub no_type : (ts : List Token) (from : ℕ) → Comes (λ g. parse_type g a_type (drop from ts)) None → NoItem TypeText ts from
no_type ts from c n raw h s = let d = type_run ts from n raw None c h s in differ {A = Found RawType} None (d.0, drop n (drop from ts)) refl d.1

pub open_type : (ts : List Token) (from to : ℕ) (r : RawType) → Comes (λ g. parse_type g a_type (drop from ts)) (Some (r, drop to ts)) → ends (drop to ts) ≡ false → NoItem TypeText ts from
open_type ts from to r c out n raw h s = let d = type_run ts from n raw (Some (r, drop to ts)) c h s in
    open_clash r d.0 (drop to ts) (drop n (drop from ts)) d.1 out s

pub type_item : (ts : List Token) (from to limit : ℕ) (p : Piece Raw) (r : RawType) → Comes (λ g. parse_type g a_type (drop from ts)) (Some (r, drop to ts)) → IsPiece nesting limit p (written r)
    → from < to → to ≤ length ts → ends (drop to ts) ≡ true → ItemAnswer TypeText limit ts from (Some (p, to))
type_item ts from to limit p r c q lt le s = (written r, q, front_to TypeText ts from to (written r) (type_sound (drop from ts) (drop to ts) r c) lt le, s, lt, le)
