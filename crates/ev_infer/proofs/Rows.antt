-- Worked rows: how many annotations raw trees have.
use Rattle.std.specs.Prelude.{◌≡◌, ℕ, zero, suc, Bool as Boolean, true, false, List, [], ◌∷◌, Some, None, cond, bytes_eq, option_map, refl}
use Rattle.std.proofs.Common.{ap, sym, ◌∙◌, subst as transport}
use Rattle.ev_terms.specs.declared.types.Ty.{Ty, Int as IntType, Bool as BoolType, Prop}
use Rattle.ev_terms.specs.declared.types.Tys.{Empty as NoTypes}
use Rattle.ev_terms.specs.declared.types.Sym.TheVariants.{User}
use Rattle.ev_terms.specs.Types.{pow}
use Rattle.ev_terms.specs.Term.{Term, node, nil, cons}
use Rattle.ev_terms.specs.Symbols.{binds}
use Rattle.ev_syntax.specs.Marks.{equal_sign, and_sign, for_all_sign, true_value_word}
use Rattle.ev_syntax.specs.Raw.{int_type, pow_type, Raw, word, literal, call, binary, of_type, quantified, members, none, one}
use Rattle.ev_forms.specs.Base as base
use Rattle.ev_forms.specs.Base.{at_type, leaf, with_one, with_two}
use Rattle.ev_typing.specs.declared.typing.Entry.TheVariants.{Constant}
use Rattle.ev_typing.specs.declared.typing.Signature.{Signature}
use Rattle.ev_typing.specs.Profiles.{Profile}
use Rattle.ev_typing.specs.Env.{Env, symbol_profile, signature_profile, ConstantOf}
use Rattle.ev_typing.specs.Proper.{IsResult, HasProperUserSignatures}
use Rattle.std.specs.List.{AllByRecursion}
use Rattle.ev_unify.specs.declared.patterns.Pat.{Pat, Int, Bool, Unknown}
use Rattle.ev_unify.specs.declared.patterns.Pats.{Empty}
use Rattle.ev_unify.specs.declared.patterns.PatPair.{PatPair}
use Rattle.ev_unify.specs.Patterns.{pow_pat, more_pats, value}
use Rattle.ev_unify.specs.Solutions.{Solves, IsMostGeneral}
use Rattle.ev_infer.specs.declared.sorts.Sort.TheVariants.{Predicate as predicate}
use Rattle.ev_infer.specs.Equations.{pat_var, pat_lit, pat_node, pat_nil, pat_cons, Emitted}
use Rattle.ev_infer.specs.Inference.{IsAnnotation, HasNoAnnotation, HasTwoAnnotations, IsOnlyAnnotation, equations}
use Rattle.ev_infer.proofs.Outcomes.{none_without_equations, none_without_solution, annotation_by, two_where_free, one_where_closed}

no_user : HasProperUserSignatures []
no_user n p e = cc

abbrev pair : Pat → Pat → PatPair
pair p q = record { left = p; right = q }

abbrev empty_at : Pat → Rattle.ev_infer.specs.Equations.PatTerm
empty_at p = pat_node base.empty_sym (more_pats p Empty) pat_nil

-- `{} = {}`
abbrev two_empties : Raw
two_empties = binary equal_sign (members none) (members none)

abbrev two_empties_out : Emitted
two_empties_out = record {
  next = 3;
  sort = predicate;
  pairs = pair (pow_pat (Unknown 1)) (Unknown 0) ∷ pair (pow_pat (Unknown 2)) (Unknown 0) ∷ [];
  term = pat_node base.equal_sym (more_pats (Unknown 0) Empty) (pat_cons (empty_at (Unknown 1)) (pat_cons (empty_at (Unknown 2)) pat_nil));
}

pub two_empties_emitted : equations [] [] [] two_empties None ≡ Some two_empties_out
unfolding binds
two_empties_emitted = refl

abbrev pow_part : Ty → Ty
pow_part (pow a) = a
pow_part _ = IntType

-- 0 is POW(2), 1 is 2, and 2 is free
abbrev two_empties_general : ℕ → Pat
two_empties_general zero = pow_pat (Unknown 2)
two_empties_general (suc zero) = Unknown 2
two_empties_general (suc (suc zero)) = Unknown 2
two_empties_general (suc (suc (suc u))) = Unknown (suc (suc (suc u)))

two_empties_is_general : IsMostGeneral two_empties_general two_empties_out.pairs
two_empties_is_general = record { solves = λ θ. (refl, (refl, tt)); general = general }
  where
    general : (σ : ℕ → Ty) → Solves σ two_empties_out.pairs → (u : ℕ) → σ u ≡ value σ (two_empties_general u)
    general σ (a, (b, c)) zero = sym b
    general σ (a, (b, c)) (suc zero) = ap pow_part (a ∙ sym b)
    general σ (a, (b, c)) (suc (suc zero)) = refl
    general σ (a, (b, c)) (suc (suc (suc u))) = refl

pub two_empties_ambiguous : HasTwoAnnotations [] [] [] two_empties None
two_empties_ambiguous = two_where_free [] no_user [] [] tt two_empties None two_empties_out two_empties_emitted two_empties_general two_empties_is_general refl

-- two of them: at INT and at BOOL
abbrev empties : Ty → Term
empties a = with_two base.equal_sym (at_type (pow a)) (leaf base.empty_sym (at_type a)) (leaf base.empty_sym (at_type a))

pub two_empties_at_int : IsAnnotation [] [] [] two_empties None (empties IntType)
two_empties_at_int = annotation_by [] no_user [] [] tt two_empties None two_empties_out two_empties_emitted two_empties_general two_empties_is_general (λ u. IntType) (λ i. tt)

pub two_empties_at_bool : IsAnnotation [] [] [] two_empties None (empties BoolType)
two_empties_at_bool = annotation_by [] no_user [] [] tt two_empties None two_empties_out two_empties_emitted two_empties_general two_empties_is_general (λ u. BoolType) (λ i. tt)

-- `{} = {} oftype POW(INT)`
abbrev one_written : Raw
one_written = binary equal_sign (members none) (of_type (members none) (pow_type int_type))

abbrev one_written_out : Emitted
one_written_out = record {
  next = 3;
  sort = predicate;
  pairs = pair (pow_pat (Unknown 1)) (Unknown 0) ∷ pair (pow_pat (Unknown 2)) (pow_pat Int) ∷ pair (pow_pat (Unknown 2)) (Unknown 0) ∷ [];
  term = pat_node base.equal_sym (more_pats (Unknown 0) Empty) (pat_cons (empty_at (Unknown 1)) (pat_cons (empty_at (Unknown 2)) pat_nil));
}

pub one_written_emitted : equations [] [] [] one_written None ≡ Some one_written_out
unfolding binds
one_written_emitted = refl

abbrev one_written_general : ℕ → Pat
one_written_general zero = pow_pat Int
one_written_general (suc zero) = Int
one_written_general (suc (suc zero)) = Int
one_written_general (suc (suc (suc u))) = Unknown (suc (suc (suc u)))

one_written_is_general : IsMostGeneral one_written_general one_written_out.pairs
one_written_is_general = record { solves = λ θ. (refl, (refl, (refl, tt))); general = general }
  where
    general : (σ : ℕ → Ty) → Solves σ one_written_out.pairs → (u : ℕ) → σ u ≡ value σ (one_written_general u)
    general σ (a, (b, (c, d))) zero = sym c ∙ b
    general σ (a, (b, (c, d))) (suc zero) = ap pow_part (a ∙ sym c ∙ b)
    general σ (a, (b, (c, d))) (suc (suc zero)) = ap pow_part b
    general σ (a, (b, (c, d))) (suc (suc (suc u))) = refl

pub one_written_only : IsOnlyAnnotation [] [] [] one_written None
    (with_two base.equal_sym (at_type (pow IntType)) (leaf base.empty_sym (at_type IntType)) (leaf base.empty_sym (at_type IntType)))
one_written_only = one_where_closed [] no_user [] [] tt one_written None one_written_out one_written_emitted one_written_general one_written_is_general refl

-- `!x. x = TRUE & x = 1`
abbrev x : List ℕ
x = 120 ∷ []

abbrev mixed : Raw
mixed =
    quantified for_all_sign (record { name = x; type = None } ∷ [])
    (binary and_sign (binary equal_sign (call x none) (word true_value_word)) (binary equal_sign (call x none) (literal 1)))

abbrev mixed_out : Emitted
mixed_out = record {
  next = 3;
  sort = predicate;
  pairs = pair (Unknown 0) (Unknown 1) ∷ pair Bool (Unknown 1) ∷ pair (Unknown 0) (Unknown 2) ∷ pair Int (Unknown 2) ∷ [];
  term =
      pat_node base.for_all_sym (more_pats (Unknown 0) Empty) (pat_cons
      (pat_node base.and_sym Empty (pat_cons
      (pat_node base.equal_sym (more_pats (Unknown 1) Empty) (pat_cons (pat_var 0) (pat_cons (pat_node base.true_value_sym Empty pat_nil) pat_nil))) (pat_cons
      (pat_node base.equal_sym (more_pats (Unknown 2) Empty) (pat_cons (pat_var 0) (pat_cons (pat_lit 1) pat_nil)))
      pat_nil))) pat_nil);
}

pub mixed_emitted : equations [] [] [] mixed None ≡ Some mixed_out
unfolding binds
mixed_emitted = refl

abbrev is_int : Ty → Boolean
is_int IntType = true
is_int _ = false

pub mixed_none : HasNoAnnotation [] [] [] mixed None
mixed_none = none_without_solution [] no_user [] [] tt mixed None mixed_out mixed_emitted clash
  where
    clash : (σ : ℕ → Ty) → ¬ Solves σ mixed_out.pairs
    clash σ (a, (b, (c, (d, e)))) =
        let same : BoolType ≡ IntType = b ∙ sym a ∙ c ∙ sym d in
        let wrong : false ≡ true = ap is_int same in
        cc

-- with `f(a: INT) : INT`, `f` and `f(1, 2)` are no expressions, and `f(1)` is one
abbrev f : List ℕ
f = 102 ∷ []

abbrev f_signature : Signature
f_signature = record { name = f; params = 0; args = at_type IntType; result = IntType }

abbrev f_env : Env
f_env = Constant f_signature None ∷ []

f_user : HasProperUserSignatures f_env
f_user n p e = go (bytes_eq f n) e
  where
    go : (b : Boolean) → option_map symbol_profile (cond b (Some (ConstantOf f_signature None)) None) ≡ Some p → AllByRecursion (IsResult f_env) p.args × IsResult f_env p.result
    go true q =
        let i : signature_profile f_signature ≡ p = cc in
        transport (λ (r : Profile). AllByRecursion (IsResult f_env) r.args × IsResult f_env r.result) i ((tt, tt), tt)
    go false q = cc

pub two_arguments_none : HasNoAnnotation f_env [] [] (call f (one (literal 1) (one (literal 2) none))) None
two_arguments_none = none_without_equations f_env f_user [] [] tt (call f (one (literal 1) (one (literal 2) none))) None refl

pub no_argument_none : HasNoAnnotation f_env [] [] (call f none) None
no_argument_none = none_without_equations f_env f_user [] [] tt (call f none) None refl

abbrev f_out : Emitted
f_out = record { next = 0; sort = Rattle.ev_infer.specs.declared.sorts.Sort.TheVariants.Expression Int; pairs = pair Int Int ∷ []; term = pat_node (User f) Empty (pat_cons (pat_lit 1) pat_nil) }

pub f_emitted : equations f_env [] [] (call f (one (literal 1) none)) None ≡ Some f_out
unfolding binds
f_emitted = refl

f_is_general : IsMostGeneral Unknown f_out.pairs
f_is_general = record { solves = λ θ. (refl, tt); general = λ σ h u. refl }

pub one_argument_only : IsOnlyAnnotation f_env [] [] (call f (one (literal 1) none)) None (node (User f) NoTypes (cons (Rattle.ev_terms.specs.Term.lit 1) nil))
one_argument_only = one_where_closed f_env f_user [] [] tt (call f (one (literal 1) none)) None f_out f_emitted Unknown f_is_general refl

-- a predicate is asked where an expression stands, and a binder has a formula name
pub sort_none : HasNoAnnotation f_env [] [] (call f (one (literal 1) none)) (Some Prop)
unfolding binds
sort_none = none_without_equations f_env f_user [] [] tt (call f (one (literal 1) none)) (Some Prop) refl

pub taken_none : HasNoAnnotation f_env [] [] (quantified for_all_sign (record { name = f; type = None } ∷ []) (binary equal_sign (literal 1) (literal 1))) None
taken_none = none_without_equations f_env f_user [] [] tt (quantified for_all_sign (record { name = f; type = None } ∷ []) (binary equal_sign (literal 1) (literal 1))) None refl
