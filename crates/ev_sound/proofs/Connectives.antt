-- The connectives bind nothing, and make predicates of predicates.
use Rattle.std.specs.Prelude.{◌≡◌, List, [], ◌∷◌, refl}
use Rattle.std.proofs.Common.{subst as transport}
use Rattle.ev_terms.specs.declared.types.Ty.{Ty, Prop}
use Rattle.ev_terms.specs.declared.types.Tys.{Empty}
use Rattle.ev_terms.specs.Term.{Term, nil, cons}
use Rattle.ev_terms.specs.Symbols.{binds}
use Rattle.ev_forms.specs.Base.{and_sym, or_sym, implies_sym, equal_sym, iff_sym}
use Rattle.ev_forms.specs.Forms.{conj, disj, imp}
use Rattle.ev_typing.specs.Env.{Env}
use Rattle.ev_typing.specs.Typing.{Typed, AreTyped}
use Rattle.ev_typing.proofs.Checks.{inside_none}

pub and_binds : binds and_sym ≡ 0
unfolding binds
and_binds = refl

pub or_binds : binds or_sym ≡ 0
unfolding binds
or_binds = refl

pub implies_binds : binds implies_sym ≡ 0
unfolding binds
implies_binds = refl

pub equal_binds : binds equal_sym ≡ 0
unfolding binds
equal_binds = refl

pub iff_binds : binds iff_sym ≡ 0
unfolding binds
iff_binds = refl

pub conj_typed : (env : Env) (C : List Ty) (P Q : Term) → Typed env C P Prop → Typed env C Q Prop → Typed env C (conj P Q) Prop
conj_typed env C P Q g h = record {
  count = refl;
  proper = tt;
  children = transport (λ D. AreTyped env D (cons P (cons Q nil)) (Prop ∷ Prop ∷ [])) (inside_none C and_sym Empty and_binds) (g, (h, tt));
  result = refl;
}

pub disj_typed : (env : Env) (C : List Ty) (P Q : Term) → Typed env C P Prop → Typed env C Q Prop → Typed env C (disj P Q) Prop
disj_typed env C P Q g h = record {
  count = refl;
  proper = tt;
  children = transport (λ D. AreTyped env D (cons P (cons Q nil)) (Prop ∷ Prop ∷ [])) (inside_none C or_sym Empty or_binds) (g, (h, tt));
  result = refl;
}

pub imp_typed : (env : Env) (C : List Ty) (P Q : Term) → Typed env C P Prop → Typed env C Q Prop → Typed env C (imp P Q) Prop
imp_typed env C P Q g h = record {
  count = refl;
  proper = tt;
  children = transport (λ D. AreTyped env D (cons P (cons Q nil)) (Prop ∷ Prop ∷ [])) (inside_none C implies_sym Empty implies_binds) (g, (h, tt));
  result = refl;
}
