-- Induction read upwards.
use Rattle.std.specs.Prelude.{◌≡◌, ◌+◌, ◌-◌, ◌++◌, ◌<◌, ℕ, zero, suc, Bool as Boolean, true, false, List, [], ◌∷◌, Option, Some, None, map, flat_map, filter_map, length, get_or, cond, bytes_eq, option_map, if◌then◌else◌, Contains, refl}
use Rattle.std.specs.List.{AllByRecursion, cons_option, enumerate_from}
use Rattle.std.proofs.Common.{ap, sym, ◌∙◌, subst as transport, arith}
use Rattle.std.proofs.lemmas.List.{append-nil}
use Rattle.ev_terms.specs.declared.types.Ty.{Ty, Int, Bool, Prop, Param, Data as DataType}
use Rattle.ev_terms.specs.declared.types.Tys.{Tys}
use Rattle.ev_terms.specs.declared.types.Sym.TheVariants.{User}
use Rattle.ev_terms.specs.Types.{pow, prod, type_list}
use Rattle.ev_terms.specs.Term.{Term, var, node, cons, terms}
use Rattle.ev_terms.specs.Substitution.{shift, substitute, type_inst, type_at}
use Rattle.ev_forms.specs.Forms.{truth, forall, vars, vars_above, call}
use Rattle.ev_typing.specs.declared.typing.Sequent.{Sequent}
use Rattle.ev_typing.specs.declared.typing.Entry.TheVariants.{Data, Constant, Direct, Recursive}
use Rattle.ev_typing.specs.declared.typing.DataDecl.{DataDecl}
use Rattle.ev_typing.specs.declared.typing.Con.{Con}
use Rattle.ev_typing.specs.declared.typing.Var.{Var}
use Rattle.ev_typing.specs.TypeLists.{types}
use Rattle.ev_typing.specs.Env.{Env, Name, Symbol, ConOf, DesOf, look_up, con_symbols, symbols, find_symbol, find_data, field_types}
use Rattle.ev_typing.specs.Parts.{base}
use Rattle.ev_typing.specs.Typing.{Typed, IsPredicate, IsSequent}
use Rattle.ev_typing.specs.Occurs.{is_direct_symbol}
use Rattle.ev_typing.specs.WellFormed.{IsWellFormed}
use Rattle.ev_typing.specs.BaseSequents.{widened}
use Rattle.ev_typing.proofs.Names.{name_same}
use Rattle.ev_typing.proofs.Entries.{symbols_named}
use Rattle.ev_typing.proofs.Wholes.{found_whole}
use Rattle.ev_data.specs.Induction.{is_recursive, recursive_vars, put_under, induction_premise, induction_premises, forall_parts, premises_of, premises_for}
use Rattle.ev_kernel.specs.declared.rules.BaseRule.TheVariants as rule
use Rattle.ev_kernel.specs.Row.{Row}
use Rattle.ev_ops.specs.Unfold.{Bodies, unfolded_node, unfold_all_by, bodies_after}
use Rattle.ev_ops.proofs.UnfoldLaws.{cons_plain, look_up_plain}
use Rattle.ev_sound.specs.Unfoldings.{HasDerivableUnfolding, HaveDerivableUnfoldings}
use Rattle.ev_congruence.proofs.Contexts.{by_parts}
use Rattle.ev_ops.proofs.Basics.{contains_first, contains_more}
use Rattle.ev_sound.proofs.Rows.{U, US, map_append}
use Rattle.ev_sound.proofs.Quantified.{unfolded_widened, forall_typed}
use Rattle.ev_ops.proofs.Commuting.{IsFit, AreFit, shift_fit, unfold_shift, unfold_subst}
use Rattle.ev_ops.proofs.Fitting.{fit_of, body_found, found_body}
use Rattle.ev_ops.proofs.Basing.{find_data_base}
use Rattle.ev_sound.proofs.Steps.{by_base_row, all_parts}

-- A constructor of the environment has no body.
some_behind : (ps qs : List (Name × Symbol)) (n : Name) (x : Symbol) → look_up qs n ≡ Some x → (y : Symbol) × (look_up (ps ++ qs) n ≡ Some y)
some_behind [] qs n x e = (x, e)
some_behind (p ∷ ps) qs n x e = by (bytes_eq p.0 n) (some_behind ps qs n x e)
  where
    by : (b : Boolean) → ((y : Symbol) × (look_up (ps ++ qs) n ≡ Some y)) → (y : Symbol) × (cond b (Some p.1) (look_up (ps ++ qs) n) ≡ Some y)
    by true h = (p.1, refl)
    by false h = h

con_there : (d : DataDecl) (cs : List Con) (c : Con) (k : ℕ) → k < length cs → get_or cs k c ≡ c → (x : Symbol) × (look_up (flat_map (con_symbols d) cs) c.name ≡ Some x)
con_there d [] c k h e = absurd (omega arith)
con_there d (b ∷ cs) c zero h e =
    (ConOf d b, ap (λ t. cond t (Some (ConOf d b)) (look_up (map (λ (f : ℕ × Var). (f.1.name, DesOf d b f.0 f.1)) (enumerate_from 0 b.fields) ++ flat_map (con_symbols d) cs) c.name)) (ap (λ (x : Con). bytes_eq x.name c.name) e ∙ name_same c.name))
con_there d (b ∷ cs) c (suc k) h e = let q = con_there d cs c k (omega arith) e in some_behind (con_symbols d b) (flat_map (con_symbols d) cs) c.name q.0 q.1

data_contained : (env : Env) (m : Name) (d : DataDecl) → find_data env m ≡ Some d → Contains env (Data d)
data_contained [] m d e = cc
data_contained (Data b ∷ env) m d e = by (bytes_eq b.name m) e (data_contained env m d)
  where
    by : (t : Boolean) → cond t (Some b) (find_data env m) ≡ Some d → (find_data env m ≡ Some d → Contains env (Data d)) → Contains (Data b ∷ env) (Data d)
    by true q f = let r : b ≡ d = cc in transport (λ x. Contains (Data x ∷ env) (Data d)) (sym r) (contains_first (Data d) env)
    by false q f = contains_more (Data d) (Data b) env (f q)
data_contained (Constant sig c ∷ env) m d e = contains_more (Data d) (Constant sig c) env (data_contained env m d e)
data_contained (Direct sig c body ∷ env) m d e = contains_more (Data d) (Direct sig c body) env (data_contained env m d e)
data_contained (Recursive sig c place bodies ∷ env) m d e = contains_more (Data d) (Recursive sig c place bodies) env (data_contained env m d e)

no_body : (env : Env) → IsWellFormed env → (d : DataDecl) (c : Con) → Contains env (Data d) → Contains d.cons c → look_up (bodies_after [] env) c.name ≡ None
no_body env w d c h (k, l, e) = by (look_up (bodies_after [] env) c.name) refl
  where
    by : (o : Option Term) → look_up (bodies_after [] env) c.name ≡ o → o ≡ None
    by None q = refl
    by (Some B) q =
        let f = body_found env c.name B w.distinct (found_body env w c.name B q) in
        let x = con_there d d.cons c k l e in
        let g : find_symbol env c.name ≡ Some x.0 = found_whole symbols symbols_named env (Data d) c.name x.0 w.distinct h x.1 in
        let plain : is_direct_symbol (look_up (flat_map (con_symbols d) d.cons) c.name) ≡ false =
        transport (λ ps. is_direct_symbol (look_up ps c.name) ≡ false) (append-nil (flat_map (con_symbols d) d.cons)) (look_up_plain (flat_map (con_symbols d) d.cons) [] c.name (cons_plain d d.cons) refl) in
        let no : true ≡ false = sym (ap is_direct_symbol (sym g ∙ f)) ∙ ap is_direct_symbol (sym x.1) ∙ plain in cc

all_of : {X : Type 0} (Q : X → Type 0) (xs : List X) → ((x : X) → Contains xs x → Q x) → AllByRecursion Q xs
all_of Q [] f = tt
all_of Q (x ∷ xs) f = (f x (contains_first x xs), all_of Q xs (λ y c. f y (contains_more y x xs c)))

map_same : {X Y Z : Type 0} (f : Y → Z) (g : X → Y) (h : X → Z) (xs : List X) → AllByRecursion (λ x. f (g x) ≡ h x) xs → map f (map g xs) ≡ map h xs
map_same f g h [] k = refl
map_same f g h (x ∷ xs) k = let p = k.0 in let q = map_same f g h xs k.1 in cc

module _ (env : Env) (u : IsWellFormed env) where
  abbrev bodies : Bodies
  bodies = bodies_after [] env

  vars_fit : (n k : ℕ) → AreFit bodies (terms (vars_above n k))
  vars_fit zero k = tt
  vars_fit (suc n) k = (tt, vars_fit n k)

  vars_unfolded : (n k : ℕ) → unfold_all_by bodies (terms (vars_above n k)) ≡ terms (vars_above n k)
  vars_unfolded zero k = refl
  vars_unfolded (suc n) k = ap (cons (var (n + k))) (vars_unfolded n k)

  -- a term put under constructor's arguments
  put_unfolded : (n : ℕ) (P x : Term) → IsFit bodies P → IsFit bodies x → U env x ≡ x → U env (put_under n P x) ≡ put_under n (U env P) x
  put_unfolded n P x h k e =
      unfold_subst bodies (shift P 1 n) (x ∷ []) (k, tt) (shift_fit bodies P 1 n h)
      ∙ ap (λ y. substitute (U env (shift P 1 n)) (y ∷ [])) e ∙ ap (λ t. substitute t (x ∷ [])) (unfold_shift bodies P 1 n h)

  recursive_unfolded : (d : DataDecl) (n m : ℕ) (P : Term) (fs : List (ℕ × Var)) → IsFit bodies P →
      map (U env) (map (put_under n P) (filter_map (λ (f : ℕ × Var). if is_recursive d f.1.ty then Some (var (m - (f.0 + 1))) else None) fs))
      ≡ map (put_under n (U env P)) (filter_map (λ (f : ℕ × Var). if is_recursive d f.1.ty then Some (var (m - (f.0 + 1))) else None) fs)
  recursive_unfolded d n m P [] h = refl
  recursive_unfolded d n m P (f ∷ fs) h = by (is_recursive d f.1.ty) (filter_map (λ (g : ℕ × Var). if is_recursive d g.1.ty then Some (var (m - (g.0 + 1))) else None) fs) (recursive_unfolded d n m P fs h)
    where
      by : (b : Boolean) (xs : List Term) → map (U env) (map (put_under n P) xs) ≡ map (put_under n (U env P)) xs →
          map (U env) (map (put_under n P) (cons_option (if b then Some (var (m - (f.0 + 1))) else None) xs)) ≡ map (put_under n (U env P)) (cons_option (if b then Some (var (m - (f.0 + 1))) else None) xs)
      by true xs e = let q = put_unfolded n P (var (m - (f.0 + 1))) h tt refl in cc
      by false xs e = e

  premise_unfolded : (S : Sequent) (d : DataDecl) (As : Tys) (P : Term) (c : Con) → IsSequent env S → IsFit bodies P → look_up bodies c.name ≡ None → US env (induction_premise S d As P c) ≡ induction_premise (US env S) d As (U env P) c
  premise_unfolded S d As P c h p none =
      let fields = map (type_inst (type_at As)) (field_types c) in
      let n = length c.fields in
      let con : Term = call c.name As (vars n) in
      let fit : IsFit bodies con = ((λ B e. absurd (let no : None ≡ Some B = sym none ∙ e in (cc))), vars_fit n 0) in
      let same : U env con ≡ con = ap (λ o. unfolded_node o (User c.name) As (unfold_all_by bodies (terms (vars n)))) none ∙ ap (node (User c.name) As) (vars_unfolded n 0) in
      by_parts (types (type_list S.context ++ fields)) (types (type_list S.context ++ fields))
      (map (U env) ((widened S fields).hyps ++ map (put_under n P) (recursive_vars d c))) ((widened (US env S) fields).hyps ++ map (put_under n (U env P)) (recursive_vars d c))
      (U env (put_under n P con)) (put_under n (U env P) con) refl
      (map_append (U env) (widened S fields).hyps (map (put_under n P) (recursive_vars d c))
      ∙ ap (λ H. H ++ map (U env) (map (put_under n P) (recursive_vars d c))) (ap (λ (x : Sequent). x.hyps) (unfolded_widened env u S fields truth h.hyps))
      ∙ ap (λ K. (widened (US env S) fields).hyps ++ K) (recursive_unfolded d n n P (enumerate_from 0 c.fields) p))
      (put_unfolded n P con p fit same)

  ind_row : (S : Sequent) (gs : List Sequent) → IsSequent env S → premises_for env S ≡ Some gs → premises_for (base env) (US env S) ≡ Some (map (US env) gs)
  ind_row S gs h r = by (forall_parts S.goal) refl r
    where
      of_data : (m : Name) (As : Tys) (P : Term) (o : Option DataDecl) → find_data env m ≡ o → IsFit bodies P → option_map (λ (d : DataDecl). map (induction_premise S d As P) d.cons) o ≡ Some gs →
          option_map (λ (d : DataDecl). map (induction_premise (US env S) d As (U env P)) d.cons) o ≡ Some (map (US env) gs)
      of_data m As P None f p e = cc
      of_data m As P (Some d) f p e =
          let q : map (induction_premise S d As P) d.cons ≡ gs = cc in
          ap Some (sym (map_same (US env) (induction_premise S d As P) (induction_premise (US env S) d As (U env P)) d.cons
          (all_of (λ c. US env (induction_premise S d As P c) ≡ induction_premise (US env S) d As (U env P) c) d.cons
          (λ c k. premise_unfolded S d As P c h p (no_body env u d c (data_contained env m d f) k)))) ∙ ap (map (US env)) q)

      of_type : (A : Ty) (P : Term) → IsFit bodies P → induction_premises env S A P ≡ Some gs → induction_premises (base env) (US env S) A (U env P) ≡ Some (map (US env) gs)
      of_type Int P p e = cc
      of_type Bool P p e = cc
      of_type Prop P p e = cc
      of_type (Param i) P p e = cc
      of_type (pow A) P p e = cc
      of_type (prod A B) P p e = cc
      of_type (DataType m As) P p e =
          ap (option_map (λ (d : DataDecl). map (induction_premise (US env S) d As (U env P)) d.cons)) (find_data_base env m) ∙ of_data m As P (find_data env m) refl p e

      by : (o : Option (Ty × Term)) → forall_parts S.goal ≡ o → premises_of env S o ≡ Some gs → premises_for (base env) (US env S) ≡ Some (map (US env) gs)
      by None f e = cc
      by (Some (A, P)) f e =
          let g : S.goal ≡ forall A P = all_parts S.goal A P f in
          let typed : Typed env (type_list S.context) (forall A P) Prop = transport (IsPredicate env (type_list S.context)) g h.goal in
          ap (λ G. premises_of (base env) (US env S) (forall_parts (U env G))) g
          ∙ of_type A P (fit_of env u (type_list S.context ++ A ∷ []) P Prop (forall_typed env (type_list S.context) A P Prop typed)) e

  pub ind_sound : (S : Sequent) (gs : List Sequent) → IsSequent env S → Row env gs rule.Ind S → HaveDerivableUnfoldings env gs → HasDerivableUnfolding env S
  ind_sound S gs h r d = by_base_row env u S gs rule.Ind h (ind_row S gs h r) d
