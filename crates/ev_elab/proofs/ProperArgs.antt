-- Arguments that are read have proper types, and the names that are written.
use Rattle.std.specs.Prelude.{◌≡◌, Bool as Boolean, true, false, List, [], ◌∷◌, Option, Some, None, map, if◌then◌else◌, refl}
use Rattle.std.specs.List.{AllByRecursion, AllZip}
use Rattle.std.proofs.Common.{ap, sym, ◌∙◌, subst as transport}
use Rattle.ev_terms.specs.declared.types.Ty.{Ty, Prop}
use Rattle.ev_syntax.specs.Raw.{RawType}
use Rattle.ev_theory_text.specs.declared.forms.RawArg.{RawArg}
use Rattle.ev_theory_text.specs.declared.forms.RawResult.{RawResult}
use Rattle.ev_theory_text.specs.declared.forms.RawResult.TheVariants.{Predicate, Typed}
use Rattle.ev_typing.specs.declared.typing.Var.{Var}
use Rattle.ev_typing.specs.TypeLists.{types}
use Rattle.ev_typing.specs.Env.{Env, Name}
use Rattle.ev_typing.specs.Typing.{IsProper, AreProper}
use Rattle.ev_typing.specs.Proper.{IsResult, is_proper}
use Rattle.ev_typing.proofs.Proper.{proper_from_test, result_from_proper}
use Rattle.ev_resolve.specs.Reading.{type_of_raw}
use Rattle.ev_resolve.specs.Resolve.{known_of}
use Rattle.ev_elab.specs.Types.{if_proper, read_type, typed_name, read_arg, read_args, read_result, var_types}
use Rattle.ev_elab.specs.Parts.{arg_names}
use Rattle.ev_elab.proofs.Gathering.{and_then_some, map_some, some_is, all_read}

-- A type that is written, and proper.
pub record IsTypeRead (params : List Name) (env : Env) (a : RawType) (A : Ty) : Type 0 where
  pub written : type_of_raw params (known_of env) a ≡ Some A
  pub proper : IsProper env A

proper_there : (env : Env) (A B : Ty) → if_proper env A ≡ Some B → (A ≡ B) × IsProper env A
proper_there env A B e = by (is_proper env A) refl e
  where
    by : (b : Boolean) → is_proper env A ≡ b → ◌≡◌ {A = Option Ty} (if b then Some A else None) (Some B) → (A ≡ B) × IsProper env A
    by true f g = (some_is A B g, proper_from_test env A f)
    by false f g = cc

pub type_read : (params : List Name) (env : Env) (a : RawType) (A : Ty) → read_type params env a ≡ Some A → IsTypeRead params env a A
type_read params env a A e =
    let p = and_then_some (if_proper env) (type_of_raw params (known_of env) a) A e in
    let q = proper_there env p.0 A p.2 in
    record { written = p.1 ∙ ap Some q.0; proper = transport (IsProper env) q.0 q.1 }

pub record IsArgRead (params : List Name) (env : Env) (a : RawArg) (v : Var) : Type 0 where
  pub named : v.name ≡ a.name
  pub type : IsTypeRead params env a.written v.ty

arg_read : (params : List Name) (env : Env) (a : RawArg) (v : Var) → read_arg params env a ≡ Some v → IsArgRead params env a v
arg_read params env a v e =
    let p = map_some (typed_name a.name) (read_type params env a.written) v e in
    record {
      named = ap (λ (x : Var). x.name) (sym p.2);
      type = transport (IsTypeRead params env a.written) (ap (λ (x : Var). x.ty) p.2) (type_read params env a.written p.0 p.1);
    }

each_arg : (params : List Name) (env : Env) (args : List RawArg) (vars : List Var) → AllZip (λ a v. read_arg params env a ≡ Some v) args vars → AllZip (IsArgRead params env) args vars
each_arg params env [] [] h = tt
each_arg params env [] (v ∷ vars) h = h
each_arg params env (a ∷ args) [] h = h
each_arg params env (a ∷ args) (v ∷ vars) h = (arg_read params env a v h.0, each_arg params env args vars h.1)

pub args_read : (params : List Name) (env : Env) (args : List RawArg) (vars : List Var) → read_args params env args ≡ Some vars → AllZip (IsArgRead params env) args vars
args_read params env args vars e = each_arg params env args vars (all_read (read_arg params env) args vars e)

pub args_proper : (params : List Name) (env : Env) (args : List RawArg) (vars : List Var) → AllZip (IsArgRead params env) args vars → AllByRecursion (IsProper env) (var_types vars)
args_proper params env [] [] h = tt
args_proper params env [] (v ∷ vars) h = absurd h
args_proper params env (a ∷ args) [] h = absurd h
args_proper params env (a ∷ args) (v ∷ vars) h = (h.0.type.proper, args_proper params env args vars h.1)

pub args_named : (params : List Name) (env : Env) (args : List RawArg) (vars : List Var) → AllZip (IsArgRead params env) args vars → map (λ (v : Var). v.name) vars ≡ arg_names args
args_named params env [] [] h = refl
args_named params env [] (v ∷ vars) h = absurd h
args_named params env (a ∷ args) [] h = absurd h
args_named params env (a ∷ args) (v ∷ vars) h = ap (λ n. n ∷ map (λ (x : Var). x.name) vars) h.0.named ∙ ap (λ ns. a.name ∷ ns) (args_named params env args vars h.1)

pub result_read : (params : List Name) (env : Env) (r : RawResult) (A : Ty) → read_result params env r ≡ Some A → IsResult env A
result_read params env Predicate A e = transport (IsResult env) (some_is Prop A e) tt
result_read params env (Typed a) A e = result_from_proper env A (type_read params env a A e).proper

-- Lists of proper types.
pub types_proper : (env : Env) (As : List Ty) → AllByRecursion (IsProper env) As → AreProper env (types As)
types_proper env [] h = tt
types_proper env (A ∷ As) h = (h.0, types_proper env As h.1)
