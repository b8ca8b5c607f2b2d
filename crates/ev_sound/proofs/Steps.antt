-- Steps that cite nothing: derivable unfolded subgoals make the unfolded goal derivable.
use Rattle.std.specs.Prelude.{◌≡◌, ℕ, zero, suc, Bool as Boolean, true, false, List, [], ◌∷◌, Option, Some, None, map, slice_get, if◌then◌else◌, ◌==◌, Contains, refl}
use Rattle.std.specs.List.{AllByRecursion, AllZip}
use Rattle.std.proofs.Common.{ap, ◌∙◌, arith}
use Rattle.ev_terms.specs.declared.types.Ty.{Ty}
use Rattle.ev_terms.specs.declared.types.Tys.{Empty}
use Rattle.ev_terms.specs.Types.{more}
use Rattle.ev_terms.specs.Term.{Term, var, lit, node, nil, cons}
use Rattle.ev_forms.specs.Forms.{forall}
use Rattle.ev_terms.specs.declared.types.Sym.TheVariants.{Base, User}
use Rattle.std.proofs.lemmas.Bool.{eqb-true}
use Rattle.ev_typing.specs.declared.typing.Sequent.{Sequent}
use Rattle.ev_typing.specs.Env.{Env}
use Rattle.ev_typing.specs.Parts.{base}
use Rattle.ev_typing.specs.Typing.{IsSequent}
use Rattle.ev_data.specs.Induction.{forall_parts}
use Rattle.ev_kernel.specs.declared.rules.BaseRule.{BaseRule}
use Rattle.ev_kernel.specs.declared.rules.BaseRule.TheVariants as rule
use Rattle.ev_kernel.specs.Row.{Row}
use Rattle.ev_kernel.specs.Derivable.{numbered, Derivable, AreDerivable}
use Rattle.ev_typing.specs.WellFormed.{IsWellFormed}
use Rattle.ev_sound.proofs.Derived.{by_row}
use Rattle.ev_sound.proofs.Rows.{U, US, IsSimple, simple_row}
use Rattle.ev_sound.proofs.Quantified.{all_i, all_e, ex_i, ex_e, set_mem, calculated}
use Rattle.ev_sound.proofs.Cong.{cong_row}
use Rattle.ev_ops.proofs.Basing.{sequent_over_base}

-- numbers of hypotheses
number_contained : (H : List Term) (n : ℕ) (P : Term) → numbered H n ≡ Some P → Contains H P
number_contained H zero P e = cc
number_contained H (suc i) P e = at H i e
  where
    at : (Ps : List Term) (j : ℕ) → slice_get Ps j ≡ Some P → Contains Ps P
    at [] j q = cc
    at (Q ∷ Ps) zero q = (0, omega arith, cc)
    at (Q ∷ Ps) (suc j) q = let k = at Ps j q in (suc k.0, (let l = k.1 in omega (arith, l)), k.2)

numbers_contained : (H : List Term) (ns : List ℕ) (Ps : List Term) → AllZip (λ n P. numbered H n ≡ Some P) ns Ps → AllByRecursion (Contains H) Ps
numbers_contained H [] [] z = tt
numbers_contained H [] (P ∷ Ps) z = absurd z
numbers_contained H (n ∷ ns) [] z = absurd z
numbers_contained H (n ∷ ns) (P ∷ Ps) z = (number_contained H n P z.0, numbers_contained H ns Ps z.1)

module _ (env : Env) (u : IsWellFormed env) where
  abbrev pub Unfolded : Sequent → Type 0
  Unfolded S = Derivable (base env) (US env S)

  abbrev pub AllUnfolded : List Sequent → Type 0
  AllUnfolded gs = AreDerivable (base env) (map (US env) gs)

  -- by the row of the same rule
  pub by_base_row : (S : Sequent) (gs : List Sequent) (r : BaseRule) → IsSequent env S → Row (base env) (map (US env) gs) r (US env S) → AllUnfolded gs → Unfolded S
  by_base_row S gs r h k d = by_row (base env) (map (US env) gs) r (US env S) k (sequent_over_base env u S h) d

  pub simple_sound : (S : Sequent) (gs : List Sequent) (r : BaseRule) → IsSimple env r → IsSequent env S → Row env gs r S → AllUnfolded gs → Unfolded S
  simple_sound S gs r i h k d = by_base_row S gs r h (simple_row env S gs r i k) d

  pub weak_sound : (S : Sequent) (gs : List Sequent) (ns : List ℕ) (H : List Term) → IsSequent env S → AllZip (λ n P. numbered S.hyps n ≡ Some P) ns H → gs ≡ record { context = S.context; hyps = H; goal = S.goal } ∷ [] → AllUnfolded gs → Unfolded S
  weak_sound S gs ns H h z e d = simple_sound S gs rule.Weak tt h (H, numbers_contained S.hyps ns H z, e) d

  pub all_i_sound : (S : Sequent) (gs : List Sequent) → IsSequent env S → Row env gs rule.AllI S → AllUnfolded gs → Unfolded S
  all_i_sound S gs h k d = by_base_row S gs rule.AllI h (all_i env u S gs h k) d

  pub all_e_sound : (S : Sequent) (gs : List Sequent) (x : Term) → IsSequent env S → AllByRecursion (IsSequent env) gs → Row env gs (rule.AllE x) S → AllUnfolded gs → Unfolded S
  all_e_sound S gs x h g k d = by_base_row S gs (rule.AllE (U env x)) h (all_e env u S gs x h g k) d

  pub ex_i_sound : (S : Sequent) (gs : List Sequent) (x : Term) → IsSequent env S → Row env gs (rule.ExI x) S → AllUnfolded gs → Unfolded S
  ex_i_sound S gs x h k d = by_base_row S gs (rule.ExI (U env x)) h (ex_i env u S gs x h k) d

  pub ex_e_sound : (S : Sequent) (gs : List Sequent) → IsSequent env S → Row env gs rule.ExE S → AllUnfolded gs → Unfolded S
  ex_e_sound S gs h k d = by_base_row S gs rule.ExE h (ex_e env u S gs h k) d

  pub set_mem_sound : (S : Sequent) (gs : List Sequent) → IsSequent env S → Row env gs rule.SetMem S → AllUnfolded gs → Unfolded S
  set_mem_sound S gs h k d = by_base_row S gs rule.SetMem h (set_mem env u S gs h k) d

  pub calc_sound : (S : Sequent) (gs : List Sequent) → IsSequent env S → Row env gs rule.Calc S → AllUnfolded gs → Unfolded S
  calc_sound S gs h k d = by_base_row S gs rule.Calc h (ap (map (US env)) k.0, calculated env u S.goal k.1) d

  pub cong_sound : (S : Sequent) (gs : List Sequent) → IsSequent env S → Row env gs rule.Cong S → AllUnfolded gs → Unfolded S
  cong_sound S gs h k d = cong_row env u S gs h k d

-- Leading quantifiers that are taken off.
pub all_parts : (P : Term) (A : Ty) (Q : Term) → forall_parts P ≡ Some (A, Q) → P ≡ forall A Q
all_parts (var i) A Q e = cc
all_parts (lit n) A Q e = cc
all_parts (node (User n) As ts) A Q e = cc
all_parts (node (Base k) Empty ts) A Q e = cc
all_parts (node (Base k) (more B (more D Ds)) ts) A Q e = cc
all_parts (node (Base k) (more B Empty) nil) A Q e = cc
all_parts (node (Base k) (more B Empty) (cons R (cons R' Rs))) A Q e = cc
all_parts (node (Base k) (more B Empty) (cons R nil)) A Q e = by (k == 7) refl e
  where
    by : (b : Boolean) → (k == 7) ≡ b → if◌then◌else◌ {A = Option (Ty × Term)} b (Some (B, R)) None ≡ Some (A, Q) → node (Base k) (more B Empty) (cons R nil) ≡ forall A Q
    by false f g = cc
    by true f g =
        let q : k ≡ 7 = eqb-true k 7 f in
        let h : ◌≡◌ {A = Ty × Term} (B, R) (A, Q) = cc in
        ap (λ j. node (Base j) (more B Empty) (cons R nil)) q ∙ ap (λ (x : Ty × Term). forall x.0 x.1) h
