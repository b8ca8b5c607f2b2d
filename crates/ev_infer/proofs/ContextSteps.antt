-- What the code that makes names, scopes and contexts needs.
use Rattle.std.specs.Prelude.{◌≡◌, ◌≢◌, true, false, if◌then◌else◌, List, map, reverse, refl}
use Rattle.std.proofs.Common.{ap, sym, ◌∙◌, append_assoc}
use Rattle.std.proofs.lemmas.List.{reverse-append, map-append}
use Rattle.ev_terms.specs.declared.types.Ty.{Ty, Int, Bool, Prop, Param, Data}
use Rattle.ev_terms.specs.Types.{pow, prod}
use Rattle.ev_typing.specs.Env.{Env}
use Rattle.ev_typing.specs.Proper.{is_result}
use Rattle.ev_typing.proofs.Names.{drop_at, drop_all}
use Rattle.ev_infer.proofs.Values.{map-reverse}
use Rattle.ev_resolve.specs.Reading.{Variable, context_type}
use Rattle.ev_resolve.specs.Resolve.{forget_type, forget}
use Rattle.ev_resolve.specs.declared.scope.ScopeVariable.{ScopeVariable}
use Rattle.ev_resolve.specs.inner.Scopes.{seen, scope_of}
use Rattle.ev_infer.specs.inner.Improper.{type_or_int}

pub ruleset names = (drop_at, drop_all, reverse-append)

pub ruleset contexts = (drop_at, drop_all, append_assoc)

pub scope_told : (scope : List ScopeVariable) (vars : List Variable) → map seen scope ≡ map forget vars → scope_of scope ≡ map forget (reverse vars)
scope_told scope vars e = ap reverse e ∙ sym (map-reverse forget vars)

pub ruleset scopes = (drop_at, drop_all, append_assoc, map-append)

-- types that are not `Prop`
pub plain_type : (A : Ty) → A ≢ Prop → context_type A ≡ A
plain_type Int n = refl
plain_type Bool n = refl
plain_type Prop n = absurd (n refl)
plain_type (Param i) n = refl
plain_type (pow A) n = refl
plain_type (prod A B) n = refl
plain_type (Data n As) m = refl

pub forgotten_type : (A : Ty) → A ≢ Prop → forget_type A ≡ Int
forgotten_type Int n = refl
forgotten_type Bool n = refl
forgotten_type Prop n = absurd (n refl)
forgotten_type (Param i) n = refl
forgotten_type (pow A) n = refl
forgotten_type (prod A B) n = refl
forgotten_type (Data n As) m = refl

pub improper_type : (env : Env) (A : Ty) → is_result env A ≡ false → Int ≡ context_type (type_or_int env A)
improper_type env A e = ap (λ b. context_type (if b then A else Int)) (sym e)

pub proper_type : (env : Env) (A B : Ty) → is_result env A ≡ true → B ≡ context_type A → B ≡ context_type (type_or_int env A)
proper_type env A B e q = q ∙ ap (λ b. context_type (if b then A else Int)) (sym e)

pub ruleset patterns = (improper_type, proper_type, plain_type)

pub ruleset variables = (forgotten_type)
