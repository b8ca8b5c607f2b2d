-- Lines without hypotheses, with types and terms put in.
use Rattle.std.specs.Prelude.{◌≡◌, ◌+◌, ◌-◌, ◌<◌, ◌≤◌, ◌++◌, ◌^◌, ℕ, List, [], ◌∷◌, Some, map, take, length, reverse, get_or, refl}
use Rattle.std.proofs.Common.{ap, sym, ◌∙◌, subst as transport}
use Rattle.std.proofs.lemmas.List.{get_or-reverse, length-reverse}
use Rattle.ev_terms.specs.declared.types.Ty.{Ty, Prop}
use Rattle.ev_terms.specs.declared.types.Tys.{Tys}
use Rattle.ev_terms.specs.Types.{type_list}
use Rattle.ev_terms.specs.Term.{Term, Terms, var, lit, node, nil, cons, terms}
use Rattle.ev_terms.specs.Measures.{highest}
use Rattle.ev_terms.specs.Substitution.{fill, retype, retypes, instance, type_inst, type_at}
use Rattle.ev_terms.proofs.ListLaws.{shift_closed}
use Rattle.ev_typing.specs.declared.typing.Sequent.{Sequent}
use Rattle.ev_typing.specs.Env.{Env}
use Rattle.ev_typing.specs.Typing.{AreProper, Typed, AreTyped}
use Rattle.ev_typing.specs.Occurs.{IsPlain, ArePlain}
use Rattle.ev_typing.specs.WellFormed.{IsWellFormed}
use Rattle.ev_typing.specs.BaseSequents.{IsBaseSequent}
use Rattle.ev_typing.proofs.Keeps.{shift_typed, fill_typed}
use Rattle.ev_typing.proofs.TypeInstances.{instance_typed}
use Rattle.ev_kernel.specs.declared.rules.Line.{Line}
use Rattle.ev_kernel.specs.declared.rules.BaseRule.TheVariants.{Inst}
use Rattle.ev_kernel.specs.Row.{Row}
use Rattle.ev_kernel.specs.Derivable.{IsDerivation}
use Rattle.ev_congruence.specs.Growing.{concluded}
use Rattle.ev_congruence.specs.Equating.{IsInstantiable}
use Rattle.ev_congruence.proofs.Terms.{typed_loose}
use Rattle.ev_congruence.proofs.Appending.{concluded_base}
use Rattle.ev_congruence.proofs.Contexts.{by_parts}
use Rattle.ev_congruence.proofs.Equal.{take_next, take_all}
use Rattle.ev_congruence.proofs.Bodies.{fill_plain}

-- A list read from its end.
pub reversed_step : (xs all new : List Term) (i : ℕ) (x y : Term) → y ≡ get_or xs (length xs - 1 - i) y → i < length xs → x ≡ y → all ≡ take i (reverse xs) → new ≡ all ++ x ∷ [] → new ≡ take (i + 1) (reverse xs)
reversed_step xs all new i x y e h a b g =
    g ∙ ap (λ zs. zs ++ x ∷ []) b ∙ ap (λ z. take i (reverse xs) ++ z ∷ []) a
    ∙ sym (take_next (reverse xs) i y (e ∙ sym (get_or-reverse xs i y h)) (rw length-reverse h))

pub reversed_end : (xs all : List Term) (i : ℕ) → all ≡ take i (reverse xs) → length xs ≤ i → all ≡ reverse xs
reversed_end xs all i e h = e ∙ take_all (reverse xs) i (rw length-reverse h)

-- No direct operator comes in by types.
mutual
  pub retype_plain : (env : Env) (θ : ℕ → Ty) (t : Term) → IsPlain env t → IsPlain env (retype θ t)
  retype_plain env θ (var i) h = tt
  retype_plain env θ (lit n) h = tt
  retype_plain env θ (node s As ts) h = (h.0, retypes_plain env θ ts h.1)

  pub retypes_plain : (env : Env) (θ : ℕ → Ty) (ts : Terms) → ArePlain env ts → ArePlain env (retypes θ ts)
  retypes_plain env θ nil h = tt
  retypes_plain env θ (cons t ts) h = (retype_plain env θ t h.0, retypes_plain env θ ts h.1)

-- a term of a context is one of the context with other variables outside
outside : (env : Env) (C D : List Ty) (t : Term) (A : Ty) → Typed env D t A → Typed env (C ++ D) t A
outside env C D t A h =
    transport (λ u. Typed env (C ++ D) u A) (shift_closed t (length D) (length C) (typed_loose env D t A h)) (shift_typed env [] C D t A h)

instantiated_typed : (env : Env) → IsWellFormed env → (S : Sequent) (C As : Tys) (ts : List Term) → IsBaseSequent env S → AreProper env As →
    AreTyped env (type_list C) (terms ts) (map (type_inst (type_at As)) (type_list S.context)) → Typed env (type_list C) (fill (instance S.goal As) ts) Prop
instantiated_typed env w S C As ts b p h =
    let D = map (type_inst (type_at As)) (type_list S.context) in
    let g : Typed env D (instance S.goal As) Prop = instance_typed env w As p (type_list S.context) S.goal Prop b.typed.goal in
    fill_typed env (type_list C) D ts h (instance S.goal As) Prop (outside env (type_list C) D (instance S.goal As) Prop g)

pub cited_base : (env : Env) → IsWellFormed env → (ls : List Line) (S : Sequent) (C As : Tys) (ts : List Term) (n : ℕ) (T : Sequent) → IsDerivation env ls → IsInstantiable env ls S C As ts n →
    AreProper env As → AreProper env C → ArePlain env (terms ts) → T ≡ record { context = C; hyps = []; goal = fill (instance S.goal As) ts } → IsBaseSequent env T
cited_base env w ls S C As ts n T d i p c q e =
    let b = concluded_base env ls n S d i.line in
    transport (IsBaseSequent env) (sym e)
    (record {
      typed = record { context = c; hyps = tt; goal = instantiated_typed env w S C As ts b p i.typed };
      plain_hyps = tt;
      plain_goal = fill_plain env (instance S.goal As) ts (retype_plain env (type_at As) S.goal b.plain_goal) q;
    })

pub cited_row : (env : Env) (ls : List Line) (S : Sequent) (C As As' : Tys) (ts ts' : List Term) (n : ℕ) (T : Sequent) → IsInstantiable env ls S C As ts n → AreProper env As → As' ≡ As → ts' ≡ ts →
    T ≡ record { context = C; hyps = []; goal = fill (instance S.goal As) ts } → (P : Sequent) × (concluded ls n ≡ Some P) × Row env (P ∷ []) (Inst As' ts') T
cited_row env ls S C As As' ts ts' n T i p f g e = (
  S,
  i.line,
  transport (λ x. Row env (S ∷ []) (Inst x ts') T) (sym f)
      (transport (λ x. Row env (S ∷ []) (Inst As x) T) (sym g)
      (transport (Row env (S ∷ []) (Inst As ts)) (sym e)
      (S, refl, record { types_proper = p; terms_typed = i.typed; hyps_are = ap (map (λ P. fill (instance P As) ts)) (sym i.none); goal_is = refl }))),
)

-- what was found at the line
pub same_line : (ls : List Line) (n : ℕ) (F S : Sequent) → concluded ls n ≡ Some F → concluded ls n ≡ Some S → F ≡ S
same_line ls n F S e f = let q : Some F ≡ Some S = sym e ∙ f in cc

pub cited_sequent : (F S : Sequent) (C C' As : Tys) (ts H : List Term) (G : Term) → F ≡ S → C' ≡ C → H ≡ [] → G ≡ fill (instance F.goal As) ts →
    ◌≡◌ {A = Sequent} (record { context = C'; hyps = H; goal = G }) (record { context = C; hyps = []; goal = fill (instance S.goal As) ts })
cited_sequent F S C C' As ts H G e f g h = by_parts C' C H [] G (fill (instance S.goal As) ts) f g (h ∙ ap (λ (x : Sequent). fill (instance x.goal As) ts) e)

pub low_same : (F S : Sequent) (As : Tys) (ts : List Term) → F ≡ S → highest (fill (instance S.goal As) ts) ≤ 2 ^ 32 → highest (fill (instance F.goal As) ts) ≤ 2 ^ 32
low_same F S As ts e h = transport (λ (x : Sequent). highest (fill (instance x.goal As) ts) ≤ 2 ^ 32) (sym e) h
