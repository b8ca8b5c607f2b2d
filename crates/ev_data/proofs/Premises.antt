-- The premises of induction for a base sequent are base sequents.
use Rattle.std.specs.Prelude.{◌≡◌, ◌+◌, ◌-◌, ◌<◌, ◌==◌, ℕ, zero, suc, Bool as Boolean, true, false, cond, if◌then◌else◌, List, [], ◌∷◌, ◌++◌, Option, Some, None, map, length, slice_get, IsFalse, IsTrue, IsSomeAnd, option_map, refl}
use Rattle.std.specs.List.{AllByRecursion, enumerate_from, cons_option}
use Rattle.std.proofs.Common.{ap, sym, ◌∙◌, subst as along, append_assoc, arith}
use Rattle.std.proofs.lemmas.Bool.{eqb-true}
use Rattle.ev_terms.specs.declared.types.Ty.{Ty, Int, Bool, Prop, Param, Data as DataType}
use Rattle.ev_terms.specs.declared.types.Tys.{Tys, Empty}
use Rattle.ev_terms.specs.declared.types.Sym.{Sym}
use Rattle.ev_terms.specs.declared.types.Sym.TheVariants.{Base, User}
use Rattle.ev_terms.specs.Types.{pow, prod, more, type_list}
use Rattle.ev_terms.specs.Term.{Term, Terms, var, lit, node, nil, cons, terms}
use Rattle.ev_terms.specs.Symbols.{binds}
use Rattle.ev_terms.specs.Substitution.{shift, shifts, lift, lifts, inst, insts, entry, substitute, type_inst, type_at}
use Rattle.ev_typing.specs.declared.typing.Con.{Con}
use Rattle.ev_typing.specs.declared.typing.Var.{Var}
use Rattle.ev_typing.specs.declared.typing.DataDecl.{DataDecl}
use Rattle.ev_typing.specs.declared.typing.Sequent.{Sequent}
use Rattle.ev_typing.specs.TypeLists.{types}
use Rattle.ev_typing.specs.Env.{Env, find_data, field_types, own_type}
use Rattle.ev_typing.specs.Typing.{IsProper, AreProper, Typed, AreTyped, IsPredicate, var_type}
use Rattle.ev_typing.specs.Occurs.{IsPlain, ArePlain}
use Rattle.ev_typing.specs.BaseSequents.{IsBaseSequent, widened}
use Rattle.ev_typing.specs.WellFormed.{IsWellFormed}
use Rattle.ev_typing.proofs.Keeps.{shift_typed, subst_typed}
use Rattle.ev_typing.proofs.Laws.{type_list-types}
use Rattle.ev_typing.proofs.Names.{all_append}
use Rattle.ev_typing.proofs.Signatures.{own_type_at}
use Rattle.ev_forms.specs.Forms.{forall, vars, call}
use Rattle.ev_data.specs.Induction.{is_recursive, recursive_vars, put_under, induction_premise, induction_premises, forall_parts, premises_of, premises_for}
use Rattle.ev_data.specs.inner.Tests.{recursive_from}
use Rattle.ev_data.specs.DataLaws.{PremisesAreBase}
use Rattle.ev_data.proofs.Lists.{append_nil}
use Rattle.ev_data.proofs.Inductions.{parts_if}
use Rattle.ev_data.proofs.RecursiveLaw.{recursive_is_own}
use Rattle.ev_data.proofs.Environments.{IsGoodCon, found_data_good}
use Rattle.ev_data.proofs.Formulas.{con_plain, own_vars_typed, vars_plain, inner_var, var_at, field_count}
use Rattle.ev_data.proofs.Recursions.{con_at_typed, join_proper, fields_proper, list_proper}

-- Shift and substitution keep a term without direct operators.
mutual
  shift_plain : (env : Env) (t : Term) (from by : ℕ) → IsPlain env t → IsPlain env (shift t from by)
  shift_plain env (var i) from by h = tt
  shift_plain env (lit n) from by h = tt
  shift_plain env (node s As ts) from by h = (h.0, shifts_plain env ts (from + binds s) by h.1)

  shifts_plain : (env : Env) (ts : Terms) (from by : ℕ) → ArePlain env ts → ArePlain env (shifts ts from by)
  shifts_plain env nil from by h = tt
  shifts_plain env (cons t ts) from by h = (shift_plain env t from by h.0, shifts_plain env ts from by h.1)

lift_plain : (env : Env) (σ : ℕ → Term) → ((i : ℕ) → IsPlain env (σ i)) → (i : ℕ) → IsPlain env (lift σ i)
lift_plain env σ h zero = tt
lift_plain env σ h (suc i) = shift_plain env (σ i) 0 1 (h i)

lifts_plain : (env : Env) (n : ℕ) (σ : ℕ → Term) → ((i : ℕ) → IsPlain env (σ i)) → (i : ℕ) → IsPlain env (lifts n σ i)
lifts_plain env zero σ h i = h i
lifts_plain env (suc n) σ h i = lift_plain env (lifts n σ) (lifts_plain env n σ h) i

mutual
  inst_plain : (env : Env) (t : Term) (σ : ℕ → Term) → ((i : ℕ) → IsPlain env (σ i)) → IsPlain env t → IsPlain env (inst σ t)
  inst_plain env (var i) σ g h = g i
  inst_plain env (lit n) σ g h = tt
  inst_plain env (node s As ts) σ g h = (h.0, insts_plain env ts (lifts (binds s) σ) (lifts_plain env (binds s) σ g) h.1)

  insts_plain : (env : Env) (ts : Terms) (σ : ℕ → Term) → ((i : ℕ) → IsPlain env (σ i)) → ArePlain env ts → ArePlain env (insts σ ts)
  insts_plain env nil σ g h = tt
  insts_plain env (cons t ts) σ g h = (inst_plain env t σ g h.0, insts_plain env ts σ g h.1)

one_entry : (env : Env) (x : Term) → IsPlain env x → (i : ℕ) → IsPlain env (entry (x ∷ []) i)
one_entry env x h zero = h
one_entry env x h (suc i) = tt

put_plain : (env : Env) (n : ℕ) (P x : Term) → IsPlain env P → IsPlain env x → IsPlain env (put_under n P x)
put_plain env n P x p h = inst_plain env (shift P 1 n) (entry (x ∷ [])) (one_entry env x h) (shift_plain env P 1 n p)

-- The predicate at a term under the arguments of a constructor.
put_typed : (env : Env) (C Bs : List Ty) (A : Ty) (P x : Term) (n : ℕ) → length Bs ≡ n → IsPredicate env (C ++ A ∷ []) P → Typed env (C ++ Bs) x A → IsPredicate env (C ++ Bs) (put_under n P x)
put_typed env C Bs A P x n e p h =
    along (λ m. IsPredicate env (C ++ Bs) (put_under m P x)) e
    (subst_typed env (C ++ Bs) (A ∷ []) (x ∷ []) (h, tt) (shift P 1 (length Bs)) Prop (shift_typed env C Bs (A ∷ []) P Prop p))

shifted : (env : Env) (C Bs : List Ty) (P : Term) (n : ℕ) → length Bs ≡ n → IsPredicate env C P → IsPredicate env (C ++ Bs) (shift P 0 n)
shifted env C Bs P n e h =
    along (λ m. IsPredicate env (C ++ Bs) (shift P 0 m)) e
    (along (λ X. IsPredicate env X (shift P 0 (length Bs))) (append_nil (C ++ Bs)) (shift_typed env C Bs [] P Prop (along (λ X. IsPredicate env X P) (sym (append_nil C)) h)))

all_shifted : (env : Env) (C Bs : List Ty) (n : ℕ) (Hs : List Term) → length Bs ≡ n → AllByRecursion (IsPredicate env C) Hs → AllByRecursion (IsPredicate env (C ++ Bs)) (map (λ P. shift P 0 n) Hs)
all_shifted env C Bs n [] e h = tt
all_shifted env C Bs n (H ∷ Hs) e h = (shifted env C Bs H n e h.0, all_shifted env C Bs n Hs e h.1)

all_shift_plain : (env : Env) (n : ℕ) (Hs : List Term) → AllByRecursion (IsPlain env) Hs → AllByRecursion (IsPlain env) (map (λ P. shift P 0 n) Hs)
all_shift_plain env n [] h = tt
all_shift_plain env n (H ∷ Hs) h = (shift_plain env H 0 n h.0, all_shift_plain env n Hs h.1)

map_count : (θ : ℕ → Ty) (Xs : List Ty) → length (map (type_inst θ) Xs) ≡ length Xs
map_count θ [] = refl
map_count θ (X ∷ Xs) = ap suc (map_count θ Xs)

-- The recursive arguments are of the datatype at its types.
type_of_field : (θ : ℕ → Ty) (fs : List Var) (i : ℕ) (f : Var) → slice_get fs i ≡ Some f → slice_get (map (type_inst θ) (map (λ (g : Var). g.ty) fs)) i ≡ Some (type_inst θ f.ty)
type_of_field θ [] i f h = cc
type_of_field θ (g ∷ gs) zero f h = let e : g ≡ f = cc in ap (λ (k : Var). Some (type_inst θ k.ty)) e
type_of_field θ (g ∷ gs) (suc i) f h = type_of_field θ gs i f h

-- the fields from a place on
next_field : (fs gs : List Var) (g : Var) (i : ℕ) → ((j : ℕ) (f : Var) → slice_get (g ∷ gs) j ≡ Some f → slice_get fs (i + j) ≡ Some f) → (j : ℕ) (f : Var) → slice_get gs j ≡ Some f → slice_get fs ((i + 1) + j) ≡ Some f
next_field fs gs g i h j f e = let k : i + suc j ≡ (i + 1) + j = omega arith in ap (slice_get fs) (sym k) ∙ h (suc j) f e

hyps_hold : (env : Env) (d : DataDecl) (As : Tys) (C : List Ty) (c : Con) (P : Term) (Q : Term → Type 0) → ((i : ℕ) (f : Var) → slice_get c.fields i ≡ Some f → is_recursive d f.ty ≡ true → Q (put_under (length c.fields) P (var (length c.fields - (i + 1))))) →
    (i : ℕ) (gs : List Var) → ((j : ℕ) (f : Var) → slice_get gs j ≡ Some f → slice_get c.fields (i + j) ≡ Some f) →
    AllByRecursion Q (map (put_under (length c.fields) P) (recursive_from d (length c.fields) i gs))
hyps_hold env d As C c P Q k i [] h = tt
hyps_hold env d As C c P Q k i (g ∷ gs) h = by (is_recursive d g.ty) refl (hyps_hold env d As C c P Q k (i + 1) gs (next_field c.fields gs g i h))
  where
    by : (b : Boolean) → is_recursive d g.ty ≡ b → AllByRecursion Q (map (put_under (length c.fields) P) (recursive_from d (length c.fields) (i + 1) gs)) →
        AllByRecursion Q (map (put_under (length c.fields) P) (cons_option (if b then Some (var (length c.fields - (i + 1))) else None) (recursive_from d (length c.fields) (i + 1) gs)))
    by true e rest = (k i g (let z : i + zero ≡ i = omega arith in ap (slice_get c.fields) (sym z) ∙ h zero g refl) e, rest)
    by false e rest = rest

recursive_typed : (env : Env) (d : DataDecl) (As : Tys) (C : List Ty) (c : Con) → length (type_list As) ≡ d.params → (i : ℕ) (f : Var) → slice_get c.fields i ≡ Some f → is_recursive d f.ty ≡ true →
    Typed env (C ++ map (type_inst (type_at As)) (field_types c)) (var (length c.fields - (i + 1))) (DataType d.name As)
recursive_typed env d As C c n i f e r =
    let Bs : List Ty = map (type_inst (type_at As)) (field_types c) in
    let m : length Bs ≡ length c.fields = map_count (type_at As) (field_types c) ∙ field_count c.fields in
    let t : type_inst (type_at As) f.ty ≡ DataType d.name As = ap (type_inst (type_at As)) ((recursive_is_own d f.ty).0 r) ∙ own_type_at As d n in
    inner_var C Bs (length c.fields - (i + 1)) (DataType d.name As)
    (along (λ k. var_type Bs (k - (i + 1)) ≡ Some (DataType d.name As)) m (var_at Bs i (DataType d.name As) (type_of_field (type_at As) c.fields i f e ∙ ap (λ X. Some X) t)))

-- One premise.
types_proper : (env : Env) (Xs : List Ty) → AllByRecursion (IsProper env) Xs → AreProper env (types Xs)
types_proper env [] h = tt
types_proper env (X ∷ Xs) h = (h.0, types_proper env Xs h.1)

premise_base : (env : Env) (S : Sequent) (d : DataDecl) (As : Tys) (P : Term) (c : Con) → IsBaseSequent env S → IsGoodCon env d c → length (type_list As) ≡ d.params → AreProper env As →
    IsPredicate env (type_list S.context ++ DataType d.name As ∷ []) P → IsPlain env P → IsBaseSequent env (induction_premise S d As P c)
premise_base env S d As P c s g n a p q =
    let C : List Ty = type_list S.context in
    let Bs : List Ty = map (type_inst (type_at As)) (field_types c) in
    let k : ℕ = length c.fields in
    let m : length Bs ≡ k = map_count (type_at As) (field_types c) ∙ field_count c.fields in
    let made : Typed env (C ++ Bs) (call c.name As (vars k)) (DataType d.name As) =
    con_at_typed env d c As (C ++ Bs) (vars k) g n a (along (λ j. AreTyped env (C ++ Bs) (terms (vars j)) Bs) m (own_vars_typed env C Bs)) in
    let Hs : List Term = map (λ H. shift H 0 (length Bs)) S.hyps in
    let back : C ++ Bs ≡ type_list (types (C ++ Bs)) = sym (type_list-types (C ++ Bs)) in
    record {
      typed = record {
        context = types_proper env (C ++ Bs) (join_proper env C Bs (list_proper env S.context s.typed.context) (fields_proper env As (field_types c) a g.proper));
        hyps = along (λ X. AllByRecursion (IsPredicate env X) (Hs ++ map (put_under k P) (recursive_vars d c))) back
            (all_append _ Hs (map (put_under k P) (recursive_vars d c)) (all_shifted env C Bs (length Bs) S.hyps refl s.typed.hyps)
            (hyps_hold env d As C c P (IsPredicate env (C ++ Bs)) (λ i f e r. put_typed env C Bs (DataType d.name As) P (var (k - (i + 1))) k m p (recursive_typed env d As C c n i f e r)) 0 c.fields from_start));
        goal = along (λ X. IsPredicate env X (put_under k P (call c.name As (vars k)))) back (put_typed env C Bs (DataType d.name As) P (call c.name As (vars k)) k m p made);
      };
      plain_hyps =
          all_append _ Hs (map (put_under k P) (recursive_vars d c)) (all_shift_plain env (length Bs) S.hyps s.plain_hyps)
          (hyps_hold env d As C c P (IsPlain env) (λ i f e r. put_plain env k P (var (k - (i + 1))) q tt) 0 c.fields from_start);
      plain_goal = put_plain env k P (call c.name As (vars k)) q (con_plain env d c As (vars k) g (vars_plain env k 0));
    }
  where
    from_start : (j : ℕ) (f : Var) → slice_get c.fields j ≡ Some f → slice_get c.fields (0 + j) ≡ Some f
    from_start j f e = let z : 0 + j ≡ j = omega arith in ap (slice_get c.fields) z ∙ e

premises_base : (env : Env) (S : Sequent) (d : DataDecl) (As : Tys) (P : Term) (cs : List Con) → IsBaseSequent env S → AllByRecursion (IsGoodCon env d) cs → length (type_list As) ≡ d.params → AreProper env As →
    IsPredicate env (type_list S.context ++ DataType d.name As ∷ []) P → IsPlain env P → AllByRecursion (IsBaseSequent env) (map (induction_premise S d As P) cs)
premises_base env S d As P [] s g n a p q = tt
premises_base env S d As P (c ∷ cs) s g n a p q = (premise_base env S d As P c s g.0 n a p q, premises_base env S d As P cs s g.1 n a p q)

-- The parts of the goal.
forall_of_parts : (t : Term) (A : Ty) (P : Term) → forall_parts t ≡ Some (A, P) → t ≡ forall A P
forall_of_parts (var i) A P e = cc
forall_of_parts (lit n) A P e = cc
forall_of_parts (node (User n) As ts) A P e = cc
forall_of_parts (node (Base k) Empty ts) A P e = cc
forall_of_parts (node (Base k) (more B (more C Bs)) ts) A P e = cc
forall_of_parts (node (Base k) (more B Empty) nil) A P e = cc
forall_of_parts (node (Base k) (more B Empty) (cons Q (cons R ts))) A P e = cc
forall_of_parts (node (Base k) (more B Empty) (cons Q nil)) A P e = by (k == 7) refl e
  where
    by : (b : Boolean) → (k == 7) ≡ b → parts_if b B Q ≡ Some (A, P) → node (Base k) (more B Empty) (cons Q nil) ≡ forall A P
    by true n g =
        let q : (B, Q) ≡ (A, P) = cc in
        ap (λ j. node (Base j) (more B Empty) (cons Q nil)) (eqb-true k 7 n) ∙ ap (λ (x : Ty × Term). node (Base 7) (more x.0 Empty) (cons x.1 nil)) q
    by false n g = cc

-- what a typed `!x. P` says of its type and its predicate
forall_proper : (env : Env) (C : List Ty) (A : Ty) (P : Term) → IsPredicate env C (forall A P) → IsProper env A × IsPredicate env (C ++ A ∷ []) P
unfolding binds
forall_proper env C A P h = (h.proper.0, h.children.0)

over_data : (env : Env) → IsWellFormed env → (S : Sequent) → IsBaseSequent env S → (A : Ty) (P : Term) → IsProper env A → IsPredicate env (type_list S.context ++ A ∷ []) P → IsPlain env P →
    (ps : List Sequent) → induction_premises env S A P ≡ Some ps → AllByRecursion (IsBaseSequent env) ps
over_data env w S s Int P a p q ps e = cc
over_data env w S s Bool P a p q ps e = cc
over_data env w S s Prop P a p q ps e = cc
over_data env w S s (Param i) P a p q ps e = cc
over_data env w S s (pow A) P a p q ps e = cc
over_data env w S s (prod A B) P a p q ps e = cc
over_data env w S s (DataType n As) P a p q ps e = by (find_data env n) refl e
  where
    by : (o : Option DataDecl) → find_data env n ≡ o → option_map (λ (d : DataDecl). map (induction_premise S d As P) d.cons) o ≡ Some ps → AllByRecursion (IsBaseSequent env) ps
    by None f g = cc
    by (Some d) f g =
        let k = found_data_good env w n d f in
        let c : length (type_list As) ≡ d.params = along (λ x. IsSomeAnd x (λ y. length (type_list As) ≡ y.params)) f a.0 in
        let r : map (induction_premise S d As P) d.cons ≡ ps = cc in
        along (AllByRecursion (IsBaseSequent env)) r
        (premises_base env S d As P d.cons s k.1 c a.1 (along (λ m. IsPredicate env (type_list S.context ++ DataType m As ∷ []) P) (sym k.0) p) q)

pub premises_are_base : PremisesAreBase
premises_are_base env w S s ps e = by (forall_parts S.goal) refl e
  where
    by : (o : Option (Ty × Term)) → forall_parts S.goal ≡ o → premises_of env S o ≡ Some ps → AllByRecursion (IsBaseSequent env) ps
    by None f g = cc
    by (Some (A, P)) f g =
        let t : S.goal ≡ forall A P = forall_of_parts S.goal A P f in
        let h = forall_proper env (type_list S.context) A P (along (λ u. IsPredicate env (type_list S.context) u) t s.typed.goal) in
        let q : IsPlain env (forall A P) = along (IsPlain env) t s.plain_goal in
        over_data env w S s A P h.0 h.1 q.1.0 ps g
