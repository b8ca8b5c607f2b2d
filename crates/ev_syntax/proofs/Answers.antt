-- What the parser by levels comes to is what the grammar relates.
use Rattle.std.proofs.Common.{ℕ, ◌≤◌, true, List, subst, arith}
use Rattle.std.specs.Prelude.{Some}
use Rattle.ev_syntax.specs.Tokens.{Token}
use Rattle.ev_syntax.specs.Raw.{RawType, Raw}
use Rattle.ev_syntax.specs.Parts.{pred, expr}
use Rattle.ev_syntax.specs.Grammar.{Reads, ReadsType}
use Rattle.ev_syntax.proofs.TypesRead.{parse_type, a_type}
use Rattle.ev_syntax.proofs.WholeParser.{parse, level, a_pred}
use Rattle.ev_syntax.proofs.Comes.{Comes}
use Rattle.ev_syntax.proofs.WholeSound.{Holds, TypeIs, type_is}
use Rattle.ev_syntax.proofs.WholeSoundRaw.{RawIs, level_is, pred_is}

-- what it finds is a formula
pub pred_sound : (ts rest : List Token) (raw : Raw) → Comes (λ g. parse g a_pred ts) (Some (raw, rest)) → Reads raw pred ts rest
pred_sound ts rest raw c = subst (λ o. Holds (RawIs pred ts) o) (c.1 c.0 (omega arith)) (pred_is c.0 ts)

pub expr_sound : (k : ℕ) → k ≤ 9 → (ts rest : List Token) (raw : Raw) → Comes (λ g. parse g (level k) ts) (Some (raw, rest)) → Reads raw (expr k) ts rest
expr_sound k le ts rest raw c = subst (λ o. Holds (RawIs (expr k) ts) o) (c.1 c.0 (omega arith)) (level_is c.0 k le ts)

pub type_sound : (ts rest : List Token) (a : RawType) → Comes (λ g. parse_type g a_type ts) (Some (a, rest)) → ReadsType a true ts rest
type_sound ts rest a c = subst (λ o. Holds (TypeIs true ts) o) (c.1 c.0 (omega arith)) (type_is c.0 ts)
