-- Direct operators that tests have found to be such.
use Rattle.std.specs.Prelude.{◌≡◌, ◌<◌, ◌≤◌, ◌+◌, ◌^◌, ◌||◌, ℕ, zero, suc, Bool as Boolean, true, false, List, None, IsTrue, length, refl}
use Rattle.std.specs.List.{IsDistinct}
use Rattle.std.proofs.Common.{ap, sym, ◌∙◌, subst as transport, arith}
use Rattle.ev_terms.specs.declared.types.Ty.{Ty, Int, Bool, Prop, Param, Data}
use Rattle.ev_terms.specs.declared.types.Tys.{Tys, Empty}
use Rattle.ev_terms.specs.declared.types.Tys.TheVariants.{More}
use Rattle.ev_terms.specs.Types.{pow, prod, more, type_list, More-more}
use Rattle.ev_terms.specs.Term.{Term}
use Rattle.ev_terms.specs.Measures.{type_params, types_params, params, depth, capped}
use Rattle.ev_terms.proofs.TypeSteps.{before_rest}
use Rattle.ev_typing.specs.declared.typing.Entry.TheVariants.{Direct}
use Rattle.ev_typing.specs.declared.typing.Signature.{Signature}
use Rattle.ev_typing.specs.Env.{Env, declaring}
use Rattle.ev_typing.specs.Occurs.{has_param, have_param}
use Rattle.ev_typing.specs.Proper.{IsResult}
use Rattle.ev_typing.specs.Typing.{IsProper, AreProper, Typed}
use Rattle.ev_typing.specs.WellFormed.{HasNewNames, IsGoodEntry, IsGoodSignature, IsGoodTerm, IsParamOf}

pub proper_result : (env : Env) (A : Ty) → IsProper env A → IsResult env A
proper_result env Int h = h
proper_result env Bool h = h
proper_result env Prop h = tt
proper_result env (Param i) h = h
proper_result env (pow A) h = h
proper_result env (prod A B) h = h
proper_result env (Data n As) h = h

pub new_operator : (env : Env) (sig : Signature) (body : Term) → declaring env sig.name ≡ None → HasNewNames env (Direct sig None body)
unfolding IsDistinct
new_operator env sig body e = record { new = (e, tt); different = (tt, tt) }

pub short_step : (left rest got : Tys) (A : Ty) (room room' n : ℕ) → left ≡ More A rest → got ≡ rest → room' + 1 ≡ room → n + room ≡ length (type_list left) + 1000 → n + room' ≡ length (type_list got) + 1000
short_step left rest got A room room' n l g e h =
    let p : length (type_list left) ≡ suc (length (type_list got)) = ap (λ ts. length (type_list ts)) (before_rest left rest got A l g) in
    omega (arith, p, e, h)

pub short_end : (left : Tys) (room n : ℕ) → left ≡ Empty → room ≤ 1000 → n + room ≡ length (type_list left) + 1000 → n < 2 ^ 30
short_end left room n e h k = let p : length (type_list left) ≡ 0 = ap (λ ts. length (type_list ts)) e in omega (arith, p, h, k)

pub first_used : (list rest : Tys) (A : Ty) → list ≡ More A rest → A ≡ Param 0 → have_param 0 list ≡ true
first_used list rest A e f = ap (have_param 0) (e ∙ More-more A rest ∙ ap (λ B. more B rest) f)

or_left : (a b : Boolean) → a ≡ true → IsTrue (a || b)
or_left true b e = refl
or_left false b e = absurd (wrong e)
  where
    wrong : false ≡ true → ⊥
    wrong q = cc

pub none_unused : (sig : Signature) → sig.params ≡ 0 → (j : ℕ) → j < sig.params → IsParamOf sig j
none_unused sig e j h = absurd (omega (arith, e, h))

pub one_used : (sig : Signature) → sig.params ≡ 1 → have_param 0 sig.args ≡ true → (j : ℕ) → j < sig.params → IsParamOf sig j
one_used sig e f zero h = or_left (have_param 0 sig.args) (has_param 0 sig.result) f
one_used sig e f (suc j) h = absurd (omega (arith, e, h))

pub good_signature : (env : Env) (sig : Signature) →
    (length (type_list sig.args) < 2 ^ 30) × (AreProper env sig.args × IsResult env sig.result) →
    (types_params sig.args ≤ sig.params) × ((type_params sig.result ≤ sig.params) × ((j : ℕ) → j < sig.params → IsParamOf sig j)) → IsGoodSignature env sig
good_signature env sig h k = record { count = h.0; args = h.1.0; result = h.1.1; args_parameters = k.0; result_parameters = k.1.0; used = k.1.1 }

pub good_entry : (env : Env) (sig : Signature) (body : Term) → IsGoodSignature env sig → IsGoodTerm env sig.params (type_list sig.args) sig.result body → IsGoodEntry env (Direct sig None body)
good_entry env sig body h k = record { signature = h; condition_good = tt; bodies = k }

pub good_body : (env : Env) (sig : Signature) (A : Ty) (body : Term) → Typed env (type_list sig.args) body A → A ≡ sig.result → (params body ≤ sig.params) × (depth body < 2 ^ 29) →
    IsGoodTerm env sig.params (type_list sig.args) sig.result body
good_body env sig A body t e h = record { typed = transport (Typed env (type_list sig.args) body) e t; parameters = h.0; shallow = h.1 }
