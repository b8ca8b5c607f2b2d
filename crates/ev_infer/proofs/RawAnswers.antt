-- What the answers over the equations of a bare term say of the annotations of its raw tree.
use Rattle.std.specs.Prelude.{◌≡◌, ℕ, Bool as Boolean, true, false, List, map, reverse, Option, Some, None, option_and_then, if◌then◌else◌, refl}
use Rattle.std.proofs.Common.{ap, sym, ◌∙◌, subst as transport}
use Rattle.ev_terms.specs.declared.types.Ty.{Ty}
use Rattle.ev_syntax.specs.Raw.{Raw}
use Rattle.ev_typing.specs.Env.{Env}
use Rattle.ev_typing.specs.Proper.{HasProperUserSignatures}
use Rattle.ev_unify.specs.Solutions.{HasSolution}
use Rattle.ev_resolve.specs.Reading.{Variable}
use Rattle.ev_resolve.specs.Bare.{Bare}
use Rattle.ev_infer.specs.Equations.{Emitted, filled, emit}
use Rattle.ev_resolve.specs.Resolve.{known_of, forget, resolve}
use Rattle.ev_resolve.specs.TakenNames.{takes_name}
use Rattle.ev_infer.specs.Inference.{HaveProperTypes, variable_patterns, asked, HasNoAnnotation, IsOnlyAnnotation, equations, bare_equations}
use Rattle.ev_infer.specs.inner.Solving.{ended_type}
use Rattle.ev_infer.specs.Laws.{AnswersBare, NoBareNoAnnotation}
use Rattle.ev_infer.proofs.Outcomes.{none_without_equations, none_without_solution, two_where_free, one_where_closed}

module _ (env : Env) (params : List (List ℕ)) (vars : List Variable) (raw : Raw) (expected : Option Ty) where
  the_equations : (b : Bare) → takes_name env params raw ≡ false → resolve params (known_of env) raw (map forget (reverse vars)) ≡ Some b
      → equations env params vars raw expected ≡ bare_equations env (variable_patterns vars) expected b
  the_equations b taken eb =
      ap (λ c. if c then None else option_and_then (asked env expected) (option_and_then (λ (x : Bare). emit env x (variable_patterns vars) 0) (resolve params (known_of env) raw (map forget (reverse vars))))) taken
      ∙ ap (λ o. option_and_then (asked env expected) (option_and_then (λ (x : Bare). emit env x (variable_patterns vars) 0) o)) eb

  nothing_of : (user : HasProperUserSignatures env) (proper : HaveProperTypes env vars) (o : Option Emitted) → equations env params vars raw expected ≡ o → ((e : Emitted) → o ≡ Some e → ¬ HasSolution e.pairs) → HasNoAnnotation env params vars raw expected
  nothing_of user proper None q h = none_without_equations env user params vars proper raw expected q
  nothing_of user proper (Some e) q h = none_without_solution env user params vars proper raw expected e q (λ σ s. h e refl (σ, s))

  no_equations : (c : Boolean) (o : Option Bare) → o ≡ None → (if c then None else option_and_then (asked env expected) (option_and_then (λ (x : Bare). emit env x (variable_patterns vars) 0) o)) ≡ None
  no_equations true o e = refl
  no_equations false o e = ap (λ x. option_and_then (asked env expected) (option_and_then (λ (y : Bare). emit env y (variable_patterns vars) 0) x)) e

pub answers : AnswersBare
answers env params vars raw expected b limit user proper taken eb =
    let q = the_equations env params vars raw expected b taken eb in
    record {
      none = λ h. nothing_of env params vars raw expected user proper (bare_equations env (variable_patterns vars) expected b) q h;
      two = λ (e, μ, s, f). two_where_free env user params vars proper raw expected e (q ∙ s.emitted) μ s.general f;
      past = λ (e, μ, s, f, p). (filled (ended_type μ) e.term, one_where_closed env user params vars proper raw expected e (q ∙ s.emitted) μ s.general f, p);
      only = λ t (e, μ, s, f, et, n). (
        transport (IsOnlyAnnotation env params vars raw expected) (sym et) (one_where_closed env user params vars proper raw expected e (q ∙ s.emitted) μ s.general f),
        n,
      );
    }

pub no_bare : NoBareNoAnnotation
no_bare env params vars raw expected user proper e =
    none_without_equations env user params vars proper raw expected (no_equations env params vars raw expected (takes_name env params raw) (resolve params (known_of env) raw (map forget (reverse vars))) e)
