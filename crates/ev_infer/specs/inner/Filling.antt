-- What the walks that measure and build a term leave.
use Rattle.std.specs.Prelude.{ℕ}
use Rattle.ev_terms.specs.declared.types.Ty.{Ty}
use Rattle.ev_terms.specs.declared.types.Tys.{Tys}
use Rattle.ev_terms.specs.Term.{Term, Terms, terms}
use Rattle.ev_typing.specs.Env.{Env}
use Rattle.ev_unify.specs.Patterns.{values}
use Rattle.ev_infer.specs.declared.bulks.Bulk.{Bulk}
use Rattle.ev_infer.specs.declared.filling.Measured.{Measured}
use Rattle.ev_infer.specs.declared.filling.Made.{Made}
use Rattle.ev_infer.specs.declared.filling.MadeTypes.{MadeTypes}
use Rattle.ev_infer.specs.declared.filling.AllMade.{AllMade}
use Rattle.ev_resolve.specs.Bare.{Bare, Bares}
use Rattle.ev_infer.specs.Equations.{NodeTypes, filled, all_filled}
use Rattle.ev_infer.specs.inner.Numbers.{numbered, all_numbered}
use Rattle.ev_infer.specs.inner.Bulks.{pats_bulk, term_bulk, terms_bulk}

-- something with the first unknown that it does not use
pub record Used (X : Type 0) : Type 0 where
  pub part : X
  pub next : ℕ

abbrev pub measured_told : Measured → Used Bulk
measured_told m = record { part = m.bulk; next = m.next }

abbrev pub made_told : Made → Used Term
made_told m = record { part = m.tree; next = m.next }

abbrev pub types_told : MadeTypes → Used Tys
types_told m = record { part = m.types; next = m.next }

abbrev pub all_made_told : AllMade → Used Terms
all_made_told m = record { part = terms m.trees; next = m.next }

abbrev pub measured : Env → Bare → ℕ → (ℕ → Bulk) → Used Bulk
measured env b k e = record { part = term_bulk e (numbered env b k).term; next = (numbered env b k).next }

abbrev pub all_measured : Env → Bares → ℕ → (ℕ → Bulk) → Used Bulk
all_measured env bs k e = record { part = terms_bulk e (all_numbered env bs k).terms; next = (all_numbered env bs k).next }

abbrev pub types_measured : NodeTypes → (ℕ → Bulk) → Used Bulk
types_measured n e = record { part = pats_bulk e n.types; next = n.next }

abbrev pub made : Env → Bare → ℕ → (ℕ → Ty) → Used Term
made env b k σ = record { part = filled σ (numbered env b k).term; next = (numbered env b k).next }

abbrev pub all_made : Env → Bares → ℕ → (ℕ → Ty) → Used Terms
all_made env bs k σ = record { part = all_filled σ (all_numbered env bs k).terms; next = (all_numbered env bs k).next }

abbrev pub types_made : NodeTypes → (ℕ → Ty) → Used Tys
types_made n σ = record { part = values σ n.types; next = n.next }
