-- Direct operators and their unfolded bodies.
use Rattle.std.specs.Prelude.{◌≡◌, ℕ, zero, suc, List, [], ◌∷◌, Option, map, take, Contains, refl}
use Rattle.std.specs.List.{AllByRecursion}
use Rattle.std.proofs.Common.{sym, subst as transport}
use Rattle.ev_terms.specs.declared.types.Ty.{Ty, Int, Bool, Prop, Param, Data}
use Rattle.ev_terms.specs.declared.types.Tys.{Tys}
use Rattle.ev_terms.specs.Types.{pow, prod, type_list}
use Rattle.ev_terms.specs.Term.{Term}
use Rattle.ev_terms.specs.Substitution.{instance, type_inst, type_at}
use Rattle.ev_forms.specs.Forms.{equation, truth}
use Rattle.ev_typing.specs.declared.typing.Entry.TheVariants.{Direct}
use Rattle.ev_typing.specs.declared.typing.Signature.{Signature}
use Rattle.ev_typing.specs.Env.{Env, Name}
use Rattle.ev_typing.specs.Parts.{IsPartOf, base}
use Rattle.ev_typing.specs.Typing.{IsProper, AreProper, Typed}
use Rattle.ev_typing.specs.Occurs.{IsPlain}
use Rattle.ev_typing.specs.WellFormed.{IsWellFormed, IsGoodEntry}
use Rattle.ev_typing.proofs.Laws.{types-type_list}
use Rattle.ev_typing.proofs.Entries.{good_at}
use Rattle.ev_typing.proofs.Wholes.{whole_typed, whole_proper}
use Rattle.ev_typing.proofs.TypeInstances.{instance_typed}
use Rattle.ev_typing.proofs.ProperSignatures.{signatures_proper}
use Rattle.ev_ops.specs.Unfold.{unfolded}
use Rattle.ev_ops.proofs.Basics.{contains_more, contains_first}
use Rattle.ev_ops.proofs.Fitting.{IsBodyOf}
use Rattle.ev_ops.proofs.Basing.{sequent_over_base}
use Rattle.ev_ops.proofs.BaseGood.{base_well_formed}
use Rattle.ev_congruence.proofs.Terms.{equation_typed, equation_sides, equation_plain_sides, proper_list, list_proper, typed_result}
use Rattle.ev_congruence.proofs.Cited.{retype_plain}

-- The first entries are a part of the environment.
contains_take : {X : Type 0} (P : X → Type 0) (i : ℕ) (xs : List X) → ((x : X) → Contains xs x → P x) → AllByRecursion P (take i xs)
contains_take P zero xs h = tt
contains_take P (suc i) [] h = tt
contains_take P (suc i) (x ∷ xs) h = (h x (contains_first x xs), contains_take P i xs (λ y c. h y (contains_more y x xs c)))

first_part : (env : Env) (i : ℕ) → IsPartOf (take i env) env
first_part env i = contains_take (Contains env) i env (λ x c. c)

-- A direct operator's signature and body.
pub record IsDirectBody (env : Env) (sig : Signature) (body : Term) : Type 0 where
  pub args : AreProper env sig.args
  pub typed : Typed env (type_list sig.args) body sig.result

all_whole_proper : (e f : Env) → ((A : Ty) → IsProper e A → IsProper f A) → (As : List Ty) → AllByRecursion (IsProper e) As → AllByRecursion (IsProper f) As
all_whole_proper e f h [] p = tt
all_whole_proper e f h (A ∷ As) p = (h A p.0, all_whole_proper e f h As p.1)

pub direct_body_at : (env : Env) (sig : Signature) (c : Option Term) (body : Term) → IsWellFormed env → Contains env (Direct sig c body) → IsDirectBody env sig body
direct_body_at env sig c body w h =
    let i = h.0 in
    let good : IsGoodEntry (take i env) (Direct sig c body) = good_at env i (Direct sig c body) (sym h.2) h.1 w in
    let part = first_part env i in record {
      args = transport (AreProper env) (types-type_list sig.args)
          (list_proper env (type_list sig.args) (all_whole_proper (take i env) env (whole_proper (take i env) env part w.distinct) (type_list sig.args) (proper_list (take i env) sig.args good.signature.args)));
      typed = whole_typed (take i env) env part w.distinct (type_list sig.args) body sig.result good.bodies.typed;
    }

pub direct_body : (env : Env) (n : Name) (B : Term) → IsWellFormed env → (a : IsBodyOf env n B) → IsDirectBody env a.sig a.body
direct_body env n B w a = direct_body_at env a.sig a.condition a.body w a.entry

-- Unfolding goes into equations.
pub equation_unfolded : (env : Env) (A : Ty) (s t : Term) → unfolded env (equation A s t) ≡ equation A (unfolded env s) (unfolded env t)
equation_unfolded env Int s t = refl
equation_unfolded env Bool s t = refl
equation_unfolded env Prop s t = refl
equation_unfolded env (Param i) s t = refl
equation_unfolded env (pow A) s t = refl
equation_unfolded env (prod A B) s t = refl
equation_unfolded env (Data n As) s t = refl

-- Unfolded terms are over the base.
pub record IsOverBase (env : Env) (C : List Ty) (t : Term) (A : Ty) : Type 0 where
  pub typed : Typed (base env) C (unfolded env t) A
  pub plain : IsPlain (base env) (unfolded env t)

pub over_base : (env : Env) → IsWellFormed env → (C : Tys) → AreProper env C → (t : Term) (A : Ty) → Typed env (type_list C) t A → IsOverBase env (type_list C) t A
over_base env u C c t A h =
    let p : Typed env (type_list C) (equation A t t) Prop = equation_typed env (type_list C) A t t (typed_result env (signatures_proper env u) (type_list C) (proper_list env C c) t A h) h h in
    let b = sequent_over_base env u (record { context = C; hyps = []; goal = equation A t t }) (record { context = c; hyps = tt; goal = p }) in
    let g : Typed (base env) (type_list C) (equation A (unfolded env t) (unfolded env t)) Prop = transport (λ G. Typed (base env) (type_list C) G Prop) (equation_unfolded env A t t) b.typed.goal in
    let q : IsPlain (base env) (equation A (unfolded env t) (unfolded env t)) = transport (IsPlain (base env)) (equation_unfolded env A t t) b.plain_goal in record {
      typed = (equation_sides (base env) (type_list C) A (unfolded env t) (unfolded env t) Prop g).left;
      plain = (equation_plain_sides (base env) A (unfolded env t) (unfolded env t) q).0;
    }

pub types_over_base : (env : Env) → IsWellFormed env → (As : Tys) → AreProper env As → AreProper (base env) As
types_over_base env u As p =
    let b = sequent_over_base env u (record { context = As; hyps = []; goal = truth }) (record { context = p; hyps = tt; goal = record { count = refl; proper = tt; children = tt; result = refl } }) in
    b.typed.context

-- the unfolded body at types
pub body_over_base : (env : Env) → IsWellFormed env → (sig : Signature) (body : Term) (As : Tys) → IsDirectBody env sig body → AreProper env As →
    Typed (base env) (map (type_inst (type_at As)) (type_list sig.args)) (instance (unfolded env body) As) (type_inst (type_at As) sig.result) × IsPlain (base env) (instance (unfolded env body) As)
body_over_base env u sig body As d p =
    let o = over_base env u sig.args d.args body sig.result d.typed in (
      instance_typed (base env) (base_well_formed env u) As (types_over_base env u As p) (type_list sig.args) (unfolded env body) sig.result o.typed,
      retype_plain (base env) (type_at As) (unfolded env body) o.plain,
    )
