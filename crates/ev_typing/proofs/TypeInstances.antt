-- Type instance keeps types.
use Rattle.std.specs.Prelude.{◌≡◌, ◌&&◌, ◌+◌, ◌≤◌, ◌<◌, ℕ, zero, suc, nat_le, Bool as Boolean, true, false, cond, List, [], ◌∷◌, ◌++◌, Some, map, flat_map, reverse, length, take, slice_get, bytes_eq, option_map, refl}
use Rattle.std.specs.Option.{unwrap_or}
use Rattle.std.specs.List.{AllByRecursion, list_all, enumerate_from, take-map}
use Rattle.std.proofs.Common.{ap, sym, ◌∙◌, subst, arith}
use Rattle.std.proofs.lemmas.Bool.Decides.{nat_tests}
use Rattle.std.proofs.lemmas.Option.{slice_get-map}
use Rattle.std.proofs.lemmas.List.{map-append, reverse-append}
use Rattle.ev_terms.specs.declared.types.Ty.{Ty, Int, Bool, Prop, Param, Data}
use Rattle.ev_terms.specs.declared.types.Tys.{Tys, Empty}
use Rattle.ev_terms.specs.declared.types.Sym.{Sym}
use Rattle.ev_terms.specs.declared.types.Sym.TheVariants.{Base, User}
use Rattle.ev_terms.specs.Types.{pow, prod, more, type_list}
use Rattle.ev_terms.specs.Term.{Term, Terms, var, lit, node, nil, cons}
use Rattle.ev_terms.specs.Symbols.{binds}
use Rattle.ev_terms.specs.Measures.{type_params, types_params}
use Rattle.ev_terms.specs.Substitution.{type_inst, types_inst, type_at, retype, retypes}
use Rattle.ev_terms.proofs.ListLaws.{type_inst-type_inst}
use Rattle.ev_typing.specs.declared.typing.Entry.{Entry}
use Rattle.ev_typing.specs.declared.typing.Entry.TheVariants as entry
use Rattle.ev_typing.specs.declared.typing.Signature.{Signature}
use Rattle.ev_typing.specs.declared.typing.DataDecl.{DataDecl}
use Rattle.ev_typing.specs.declared.typing.Con.{Con}
use Rattle.ev_typing.specs.declared.typing.Var.{Var}
use Rattle.ev_typing.specs.TypeLists.{params_from, own_types}
use Rattle.ev_typing.specs.Profiles.{Profile, base_profiles}
use Rattle.ev_typing.specs.Env.{Env, Name, Symbol, DesOf, look_up, con_symbols, symbols, signature_profile, symbol_profile, profile}
use Rattle.ev_typing.specs.Typing.{AreProper, Typed, AreTyped, var_type, inside}
use Rattle.ev_typing.specs.WellFormed.{AreGoodFields, IsGoodSignature, IsGoodEntry, AreGoodAfter, IsWellFormed}
use Rattle.ev_typing.specs.TypingLaws.{InstanceKeepsTypes}
use Rattle.ev_typing.proofs.Names.{all_append}
use Rattle.ev_typing.proofs.Proper.{all_proper_inst, and_split}
use Rattle.ev_typing.proofs.Keeps.{some_map}

-- A type instance reads its types below the greatest parameter alone.
mutual
  pub type_inst_below : (A : Ty) (θ η : ℕ → Ty) → ((i : ℕ) → i < type_params A → θ i ≡ η i) → type_inst θ A ≡ type_inst η A
  type_inst_below Int θ η h = refl
  type_inst_below Bool θ η h = refl
  type_inst_below Prop θ η h = refl
  type_inst_below (Param i) θ η h = h i (omega arith)
  type_inst_below (pow A) θ η h = ap (λ x. pow x) (type_inst_below A θ η h)
  type_inst_below (prod A B) θ η h =
      ap (λ x. prod x (type_inst θ B)) (type_inst_below A θ η (λ i k. h i (omega arith))) ∙ ap (λ x. prod (type_inst η A) x) (type_inst_below B θ η (λ i k. h i (omega arith)))
  type_inst_below (Data n As) θ η h = ap (Data n) (types_inst_below As θ η h)

  pub types_inst_below : (As : Tys) (θ η : ℕ → Ty) → ((i : ℕ) → i < types_params As → θ i ≡ η i) → types_inst θ As ≡ types_inst η As
  types_inst_below Empty θ η h = refl
  types_inst_below (more A As) θ η h =
      ap (λ x. more x (types_inst θ As)) (type_inst_below A θ η (λ i k. h i (omega arith))) ∙ ap (λ x. more (type_inst η A) x) (types_inst_below As θ η (λ i k. h i (omega arith)))

pub type_list-types_inst : (θ : ℕ → Ty) (As : Tys) → type_list (types_inst θ As) ≡ map (type_inst θ) (type_list As)
type_list-types_inst θ Empty = refl
type_list-types_inst θ (more A As) = ap (λ Bs. type_inst θ A ∷ Bs) (type_list-types_inst θ As)

length-map : (θ : ℕ → Ty) (As : List Ty) → length (map (type_inst θ) As) ≡ length As
length-map θ [] = refl
length-map θ (A ∷ As) = ap suc (length-map θ As)

at_inst : (θ : ℕ → Ty) (Bs : List Ty) (i d : ℕ) → i < length Bs → unwrap_or (slice_get (map (type_inst θ) Bs) i) (Param d) ≡ type_inst θ (unwrap_or (slice_get Bs i) (Param d))
at_inst θ [] i d h = absurd (omega arith)
at_inst θ (B ∷ Bs) zero d h = refl
at_inst θ (B ∷ Bs) (suc i) d h = at_inst θ Bs i d (omega arith)

-- the types of a signature, whose parameters are among the type arguments
signature_inst : (θ : ℕ → Ty) (As : Tys) (A : Ty) → type_params A ≤ length (type_list As) → type_inst θ (type_inst (type_at As) A) ≡ type_inst (type_at (types_inst θ As)) A
signature_inst θ As A h =
    type_inst-type_inst θ (type_at As) A
    ∙ type_inst_below A (λ i. type_inst θ (type_at As i)) (type_at (types_inst θ As)) (λ i k.
    sym (ap (λ Bs. unwrap_or (slice_get Bs i) (Param i)) (type_list-types_inst θ As) ∙ at_inst θ (type_list As) i i (omega arith)))

signature_insts : (θ : ℕ → Ty) (As : Tys) (Bs : List Ty) → AllByRecursion (λ B. type_params B ≤ length (type_list As)) Bs →
    map (type_inst θ) (map (type_inst (type_at As)) Bs) ≡ map (type_inst (type_at (types_inst θ As))) Bs
signature_insts θ As [] h = refl
signature_insts θ As (B ∷ Bs) h =
    ap (λ C. C ∷ map (type_inst θ) (map (type_inst (type_at As)) Bs)) (signature_inst θ As B h.0)
    ∙ ap (λ Cs. type_inst (type_at (types_inst θ As)) B ∷ Cs) (signature_insts θ As Bs h.1)

-- Only its own parameters occur in a signature.
pub record IsBounded (p : Profile) : Type 0 where
  pub args : AllByRecursion (λ A. type_params A ≤ p.params) p.args
  pub result : type_params p.result ≤ p.params

abbrev bounded_test : Profile → Boolean
bounded_test p = list_all (λ A. nat_le (type_params A) p.params) p.args && nat_le (type_params p.result) p.params

le_from_test : (m n : ℕ) → nat_le m n ≡ true → m ≤ n
le_from_test m n h = grind (arith, nat_tests)

all_from_test : (n : ℕ) (As : List Ty) → list_all (λ A. nat_le (type_params A) n) As ≡ true → AllByRecursion (λ A. type_params A ≤ n) As
all_from_test n [] h = tt
all_from_test n (A ∷ As) h =
    let p = and_split (nat_le (type_params A) n) (list_all (λ B. nat_le (type_params B) n) As) h in
    (le_from_test (type_params A) n p.0, all_from_test n As p.1)

bounded_from_test : (p : Profile) → bounded_test p ≡ true → IsBounded p
bounded_from_test p h =
    let q = and_split (list_all (λ A. nat_le (type_params A) p.params) p.args) (nat_le (type_params p.result) p.params) h in
    record { args = all_from_test p.params p.args q.0; result = le_from_test (type_params p.result) p.params q.1 }

base_passes : list_all bounded_test base_profiles ≡ true
base_passes = refl

row_passes : (ps : List Profile) (k : ℕ) (p : Profile) → list_all bounded_test ps ≡ true → slice_get ps k ≡ Some p → bounded_test p ≡ true
row_passes [] k p h e = cc
row_passes (q ∷ ps) zero p h e = let i : q ≡ p = cc in subst (λ r. bounded_test r ≡ true) i (and_split (bounded_test q) (list_all bounded_test ps) h).0
row_passes (q ∷ ps) (suc k) p h e = row_passes ps k p (and_split (bounded_test q) (list_all bounded_test ps) h).1 e

own_params : (i n : ℕ) → types_params (params_from i n) ≤ i + n
own_params i zero = omega arith
own_params i (suc n) = omega (arith, own_params (i + 1) n)

own_bounded : (n : ℕ) → types_params (own_types n) ≤ n
own_bounded n = omega (arith, own_params 0 n)

abbrev AreBounded : List (Name × Symbol) → Type 0
AreBounded ps = AllByRecursion (λ (p : Name × Symbol). IsBounded (symbol_profile p.1)) ps

con_bounded : (env : Env) (d : DataDecl) (c : Con) → AreGoodFields env d.params c → AreBounded (con_symbols d c)
con_bounded env d c h =
    (record { args = h.parameters; result = own_bounded d.params }, each 0 c.fields h.parameters)
  where
    each : (i : ℕ) (fs : List Var) → AllByRecursion (λ A. type_params A ≤ d.params) (map (λ (f : Var). f.ty) fs) →
        AreBounded (map (λ (f : ℕ × Var). (f.1.name, DesOf d c f.0 f.1)) (enumerate_from i fs))
    each i [] g = tt
    each i (f ∷ fs) g = (record { args = (own_bounded d.params, tt); result = g.0 }, each (i + 1) fs g.1)

data_bounded : (env : Env) (d : DataDecl) (cs : List Con) → AllByRecursion (AreGoodFields env d.params) cs → AreBounded (flat_map (con_symbols d) cs)
data_bounded env d [] h = tt
data_bounded env d (c ∷ cs) h = all_append _ (con_symbols d c) (flat_map (con_symbols d) cs) (con_bounded env d c h.0) (data_bounded env d cs h.1)

list_bounded : (n : ℕ) (As : Tys) → types_params As ≤ n → AllByRecursion (λ A. type_params A ≤ n) (type_list As)
list_bounded n Empty h = tt
list_bounded n (more A As) h = (omega (arith, h), list_bounded n As (omega (arith, h)))

signature_bounded : (env : Env) (sig : Signature) → IsGoodSignature env sig → IsBounded (signature_profile sig)
signature_bounded env sig h = record { args = list_bounded sig.params sig.args h.args_parameters; result = h.result_parameters }

entry_bounded : (env : Env) (e : Entry) → IsGoodEntry env e → AreBounded (symbols e)
entry_bounded env (entry.Data d) h = data_bounded (env ++ entry.Data d ∷ []) d d.cons h
entry_bounded env (entry.Constant sig condition) h = (signature_bounded env sig h.signature, tt)
entry_bounded env (entry.Direct sig condition body) h = (signature_bounded env sig h.signature, tt)
entry_bounded env (entry.Recursive sig condition place bodies) h = (signature_bounded env sig h.signature, tt)

all_bounded : (before env : Env) → AreGoodAfter before env → AreBounded (flat_map symbols env)
all_bounded before [] h = tt
all_bounded before (e ∷ es) h = all_append _ (symbols e) (flat_map symbols es) (entry_bounded before e h.0) (all_bounded (before ++ e ∷ []) es h.1)

found_bounded : (ps : List (Name × Symbol)) (n : Name) (p : Profile) → AreBounded ps → option_map symbol_profile (look_up ps n) ≡ Some p → IsBounded p
found_bounded [] n p h e = cc
found_bounded (q ∷ qs) n p h e = by (bytes_eq q.0 n) e (found_bounded qs n p h.1)
  where
    by : (b : Boolean) → option_map symbol_profile (cond b (Some q.1) (look_up qs n)) ≡ Some p → (option_map symbol_profile (look_up qs n) ≡ Some p → IsBounded p) → IsBounded p
    by true g k = let i : symbol_profile q.1 ≡ p = cc in subst IsBounded i h.0
    by false g k = k g

pub profile_bounded : (env : Env) → IsWellFormed env → (s : Sym) (p : Profile) → profile env s ≡ Some p → IsBounded p
profile_bounded env w (Base k) p h = bounded_from_test p (row_passes base_profiles k p base_passes h)
profile_bounded env w (User n) p h = found_bounded (flat_map symbols env) n p (all_bounded [] env w.entries) h

-- The context with the types put in.
map-reverse : (θ : ℕ → Ty) (C : List Ty) → map (type_inst θ) (reverse C) ≡ reverse (map (type_inst θ) C)
map-reverse θ [] = refl
map-reverse θ (A ∷ As) =
    ap (map (type_inst θ)) (reverse-append (A ∷ []) As) ∙ map-append (type_inst θ) (reverse As) (A ∷ [])
    ∙ ap (λ Bs. Bs ++ type_inst θ A ∷ []) (map-reverse θ As) ∙ sym (reverse-append (type_inst θ A ∷ []) (map (type_inst θ) As))

var_inst : (θ : ℕ → Ty) (C : List Ty) (i : ℕ) (A : Ty) → var_type C i ≡ Some A → var_type (map (type_inst θ) C) i ≡ Some (type_inst θ A)
var_inst θ C i A h = ap (λ Bs. slice_get Bs i) (sym (map-reverse θ C)) ∙ slice_get-map (type_inst θ) (reverse C) i ∙ ap (option_map (type_inst θ)) h

inside_inst : (θ : ℕ → Ty) (C : List Ty) (s : Sym) (As : Tys) → map (type_inst θ) (inside C s As) ≡ inside (map (type_inst θ) C) s (types_inst θ As)
inside_inst θ C s As =
    map-append (type_inst θ) C (take (binds s) (type_list As))
    ∙ ap (λ Bs. map (type_inst θ) C ++ Bs) (sym (take-map (type_inst θ) (binds s) (type_list As)) ∙ ap (take (binds s)) (sym (type_list-types_inst θ As)))

bounded_by : (k n : ℕ) (As : List Ty) → n ≡ k → AllByRecursion (λ A. type_params A ≤ n) As → AllByRecursion (λ A. type_params A ≤ k) As
bounded_by k n As e h = subst (λ m. AllByRecursion (λ A. type_params A ≤ m) As) e h

mutual
  pub retype_typed : (env : Env) → IsWellFormed env → (Ts : Tys) → AreProper env Ts → (C : List Ty) (t : Term) (A : Ty) → Typed env C t A →
      Typed env (map (type_inst (type_at Ts)) C) (retype (type_at Ts) t) (type_inst (type_at Ts) A)
  retype_typed env w Ts g C (var i) A h = var_inst (type_at Ts) C i A h
  retype_typed env w Ts g C (lit n) A h = (h.0, ap (type_inst (type_at Ts)) h.1)
  retype_typed env w Ts g C (node s As ts) A h =
      some_map (profile env s) (λ p e q.
      let b = profile_bounded env w s p e in
      record {
        count = ap length (type_list-types_inst (type_at Ts) As) ∙ length-map (type_at Ts) (type_list As) ∙ q.count;
        proper = all_proper_inst env Ts As g q.proper;
        children = subst (λ D. AreTyped env D (retypes (type_at Ts) ts) (map (type_inst (type_at (types_inst (type_at Ts) As))) p.args)) (inside_inst (type_at Ts) C s As)
            (subst (AreTyped env (map (type_inst (type_at Ts)) (inside C s As)) (retypes (type_at Ts) ts))
            (signature_insts (type_at Ts) As p.args (bounded_by (length (type_list As)) p.params p.args (sym q.count) b.args))
            (retypes_typed env w Ts g (inside C s As) ts (map (type_inst (type_at As)) p.args) q.children));
        result = ap (type_inst (type_at Ts)) q.result ∙ signature_inst (type_at Ts) As p.result (subst (λ m. type_params p.result ≤ m) (sym q.count) b.result);
      }) h

  pub retypes_typed : (env : Env) → IsWellFormed env → (Ts : Tys) → AreProper env Ts → (C : List Ty) (ts : Terms) (As : List Ty) → AreTyped env C ts As →
      AreTyped env (map (type_inst (type_at Ts)) C) (retypes (type_at Ts) ts) (map (type_inst (type_at Ts)) As)
  retypes_typed env w Ts g C nil [] h = h
  retypes_typed env w Ts g C nil (A ∷ As) h = h
  retypes_typed env w Ts g C (cons t ts) [] h = h
  retypes_typed env w Ts g C (cons t ts) (A ∷ As) h = (retype_typed env w Ts g C t A h.0, retypes_typed env w Ts g C ts As h.1)

pub instance_typed : InstanceKeepsTypes
instance_typed env w As g C t A h = retype_typed env w As g C t A h
