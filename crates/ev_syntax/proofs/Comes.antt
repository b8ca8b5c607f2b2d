-- What the parser by fuel answers from some fuel on, where a formula stands first.
use Rattle.std.proofs.Common.{◌≡◌, ℕ, ◌+◌, true, List, drop, sym, ◌∙◌, arith}
use Rattle.std.specs.Prelude.{Option, Some}
use Rattle.ev_syntax.specs.Tokens.{Token}
use Rattle.ev_syntax.specs.Raw.{RawType, Raw}
use Rattle.ev_syntax.specs.Parts.{pred, expr}
use Rattle.ev_syntax.specs.Grammar.{Reads, ReadsType}
use Rattle.ev_syntax.specs.declared.sorts.Sort.TheVariants.{Pred, Expr, TypeText}
use Rattle.ev_syntax.specs.Parses.{IsRun}
use Rattle.ev_syntax.proofs.Eventually.{Found}
use Rattle.ev_syntax.proofs.TypesRead.{parse_type, a_type, type_found}
use Rattle.ev_syntax.proofs.WholeParser.{parse, level, a_pred}
use Rattle.ev_syntax.proofs.WholeLiterals.{stops_0}
use Rattle.ev_syntax.proofs.WholeGrammar.{whole}
use Rattle.ev_syntax.proofs.OneTree.{StopsAs}
use Rattle.ev_syntax.proofs.RunLaws.{run_front}
pub use Rattle.ev_syntax.specs.inner.Finding.{Comes}

pub comes_once : {A : Type 0} (p : ℕ → Option A) (a b : Option A) → Comes p a → Comes p b → a ≡ b
comes_once p a b e d = sym (e.1 (e.0 + d.0) (omega arith)) ∙ d.1 (e.0 + d.0) (omega arith)

-- A formula that stands first before what cannot go on with it is the answer: so where the answer is another one or none, there is no such formula.
pub pred_answer : (ts rest : List Token) (raw : Raw) (o : Option (Found Raw)) → Comes (λ g. parse g a_pred ts) o → Reads raw pred ts rest → StopsAs Pred rest → o ≡ Some (raw, rest)
pred_answer ts rest raw o c h s = comes_once (λ g. parse g a_pred ts) o (Some (raw, rest)) c ((whole raw).as_predicate.as_pred ts rest h s)

pub expr_answer : (ts rest : List Token) (raw : Raw) (o : Option (Found Raw)) → Comes (λ g. parse g (level 0) ts) o → Reads raw (expr 0) ts rest → StopsAs Expr rest → o ≡ Some (raw, rest)
expr_answer ts rest raw o c h s =
    comes_once (λ g. parse g (level 0) ts) o (Some (raw, rest)) c ((whole raw).as_expr.at_level 0 (omega arith) ts rest h (stops_0 rest s.0.0.0))

pub type_answer : (ts rest : List Token) (a : RawType) (o : Option (Found RawType)) → Comes (λ g. parse_type g a_type ts) o → ReadsType a true ts rest → StopsAs TypeText rest → o ≡ Some (a, rest)
type_answer ts rest a o c h s = comes_once (λ g. parse_type g a_type ts) o (Some (a, rest)) c (type_found a ts rest h s)

-- of a run that stops
pub pred_run_answer : (ts : List Token) (from n : ℕ) (raw : Raw) (o : Option (Found Raw)) → Comes (λ g. parse g a_pred (drop from ts)) o → IsRun ts from Pred n raw
    → StopsAs Pred (drop n (drop from ts)) → o ≡ Some (raw, drop n (drop from ts))
pred_run_answer ts from n raw o c h s = pred_answer (drop from ts) (drop n (drop from ts)) raw o c (run_front ts from Pred n raw h) s

pub expr_run_answer : (ts : List Token) (from n : ℕ) (raw : Raw) (o : Option (Found Raw)) → Comes (λ g. parse g (level 0) (drop from ts)) o → IsRun ts from Expr n raw
    → StopsAs Expr (drop n (drop from ts)) → o ≡ Some (raw, drop n (drop from ts))
expr_run_answer ts from n raw o c h s = expr_answer (drop from ts) (drop n (drop from ts)) raw o c (run_front ts from Expr n raw h) s
