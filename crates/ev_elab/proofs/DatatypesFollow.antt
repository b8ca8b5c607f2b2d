-- A datatype that is read and admitted may follow.
use Rattle.std.specs.Prelude.{◌≡◌, ◌<◌, ◌≤◌, ◌^◌, ◌++◌, ℕ, Bool as Boolean, true, false, cond, List, [], ◌∷◌, Some, None, map, flat_map, length, bytes_eq, Contains, IsSomeAnd, refl}
use Rattle.std.specs.List.{AllByRecursion, AllZip}
use Rattle.std.proofs.Common.{ap, sym, ◌∙◌, subst as transport}
use Rattle.std.proofs.lemmas.List.{length-map}
use Rattle.ev_terms.specs.declared.types.Ty.{Ty, Int, Bool, Prop, Param, Data as DataType}
use Rattle.ev_terms.specs.declared.types.Tys.{Tys, Empty}
use Rattle.ev_terms.specs.Types.{pow, prod, more, type_list}
use Rattle.ev_terms.specs.Measures.{type_params}
use Rattle.ev_terms.specs.Substitution.{type_inst, type_at}
use Rattle.ev_theory_text.specs.declared.forms.RawCon.{RawCon}
use Rattle.ev_typing.specs.declared.typing.Entry.TheVariants as entry
use Rattle.ev_typing.specs.declared.typing.DataDecl.{DataDecl}
use Rattle.ev_typing.specs.declared.typing.Con.{Con}
use Rattle.ev_typing.specs.declared.typing.Var.{Var}
use Rattle.ev_typing.specs.Env.{Env, Name, names, find_data, field_types}
use Rattle.ev_typing.specs.Typing.{IsProper, AreProper}
use Rattle.ev_typing.specs.WellFormed.{AreGoodFields, IsGoodEntry}
use Rattle.ev_typing.specs.inner.Places.{all_con_names}
use Rattle.ev_typing.proofs.Names.{names_of_data}
use Rattle.ev_typing.proofs.Proper.{proper_inst}
use Rattle.ev_data.specs.Admission.{IsAdmittedData}
use Rattle.ev_rules.specs.declared.elements.Element.TheVariants as element
use Rattle.ev_ops.specs.Formulas.{MayFollow}
use Rattle.ev_ops.proofs.Basics.{contains_first, contains_more}
use Rattle.ev_elab.specs.Taken.{raw_con_names}
use Rattle.ev_elab.specs.Types.{own_list, own_var, con_of_vars, data_of_cons, with_data, var_types, read_args, read_con, read_cons, read_params, read_data, all_of}
use Rattle.ev_elab.proofs.Gathering.{and_then_some, map_some, all_read, not_less, zip_length}
use Rattle.ev_elab.proofs.ProperArgs.{IsArgRead, args_read, args_proper, args_named}
use Rattle.ev_elab.proofs.NewNames.{AreFree, new_names}
use Rattle.ev_elab.proofs.OwnFormulas.{own_proper}

-- What a constructor is read as.
record IsConRead (params : List Name) (env : Env) (As : Tys) (c : RawCon) (k : Con) : Type 0 where
  named : k.name ≡ c.name
  vars : List Var
  args : AllZip (IsArgRead params env) c.args vars
  fields : k.fields ≡ map (own_var As) vars

con_read : (params : List Name) (env : Env) (As : Tys) (c : RawCon) (k : Con) → read_con params env As c ≡ Some k → IsConRead params env As c k
con_read params env As c k e =
    let (vars, f, g) = map_some (con_of_vars As c.name) (read_args params env c.args) k e in
    record {
      named = ap (λ (x : Con). x.name) (sym g);
      vars = vars;
      args = args_read params env c.args vars f;
      fields = ap (λ (x : Con). x.fields) (sym g);
    }

each_con : (params : List Name) (env : Env) (As : Tys) (cs : List RawCon) (ks : List Con) → AllZip (λ c k. read_con params env As c ≡ Some k) cs ks → AllZip (IsConRead params env As) cs ks
each_con params env As [] [] h = tt
each_con params env As [] (k ∷ ks) h = h
each_con params env As (c ∷ cs) [] h = h
each_con params env As (c ∷ cs) (k ∷ ks) h = (con_read params env As c k h.0, each_con params env As cs ks h.1)

record IsDataRead (params : List Name) (env : Env) (n : Name) (cons : List RawCon) (d : DataDecl) : Type 0 where
  ids : List ℕ
  named : d.name ≡ n
  count : d.params ≡ length ids
  cons_read : AllZip (IsConRead params (with_data env n (length ids)) (own_list (length params) ids)) cons d.cons

data_read : (params : List Name) (env : Env) (n : Name) (listed : List Name) (cons : List RawCon) (d : DataDecl) → read_data params env n listed cons ≡ Some d → IsDataRead params env n cons d
data_read params env n listed cons d e =
    let (ids, f, g) = and_then_some (read_cons params env n cons) (read_params params listed) d e in
    let E = with_data env n (length ids) in
    let As = own_list (length params) ids in
    let (cs, p, q) = map_some (data_of_cons n (length ids)) (all_of (map (read_con params E As) cons)) d g in
    transport (IsDataRead params env n cons) q
    (record { ids = ids; named = refl; count = refl; cons_read = each_con params E As cons cs (all_read (read_con params E As) cons cs p) })

-- Its names are those that are written.
field_names : (As : Tys) (vars : List Var) → map (λ (f : Var). f.name) (map (own_var As) vars) ≡ map (λ (v : Var). v.name) vars
field_names As [] = refl
field_names As (v ∷ vars) = ap (λ ns. v.name ∷ ns) (field_names As vars)

con_names_read : (params : List Name) (env : Env) (As : Tys) (c : RawCon) (k : Con) → IsConRead params env As c k → k.name ∷ map (λ (f : Var). f.name) k.fields ≡ raw_con_names c
con_names_read params env As c k h =
    ap (λ n. n ∷ map (λ (f : Var). f.name) k.fields) h.named
    ∙ ap (λ ns. c.name ∷ ns) (ap (map (λ (f : Var). f.name)) h.fields ∙ field_names As h.vars ∙ args_named params env c.args h.vars h.args)

all_names_read : (params : List Name) (env : Env) (As : Tys) (cs : List RawCon) (ks : List Con) → AllZip (IsConRead params env As) cs ks → all_con_names ks ≡ flat_map raw_con_names cs
all_names_read params env As [] [] h = refl
all_names_read params env As [] (k ∷ ks) h = absurd h
all_names_read params env As (c ∷ cs) [] h = absurd h
all_names_read params env As (c ∷ cs) (k ∷ ks) h =
    ap (λ ns. ns ++ all_con_names ks) (con_names_read params env As c k h.0) ∙ ap (λ ns. raw_con_names c ++ ns) (all_names_read params env As cs ks h.1)

names_read : (params : List Name) (env : Env) (n : Name) (cons : List RawCon) (d : DataDecl) → IsDataRead params env n cons d → n ∷ flat_map raw_con_names cons ≡ names (entry.Data d)
names_read params env n cons d h =
    sym (names_of_data d ∙ ap (λ m. m ∷ all_con_names d.cons) h.named ∙ ap (λ ns. n ∷ ns) (all_names_read params (with_data env n (length h.ids)) (own_list (length params) h.ids) cons d.cons h.cons_read))

-- A type that is proper where the datatype has no constructors is proper where it has them.
counts_kept : (env : Env) (x y : DataDecl) → x.name ≡ y.name → x.params ≡ y.params → (m : Name) (k : ℕ) → IsSomeAnd (find_data (env ++ entry.Data x ∷ []) m) (λ d. k ≡ d.params) →
    IsSomeAnd (find_data (env ++ entry.Data y ∷ []) m) (λ d. k ≡ d.params)
counts_kept [] x y e f m k h = transport (λ n. IsSomeAnd (cond (bytes_eq n m) (Some y) None) (λ d. k ≡ d.params)) e (by (bytes_eq x.name m) h)
  where
    by : (b : Boolean) → IsSomeAnd (cond b (Some x) None) (λ d. k ≡ d.params) → IsSomeAnd (cond b (Some y) None) (λ d. k ≡ d.params)
    by true g = g ∙ f
    by false g = absurd g
counts_kept (entry.Data z ∷ env) x y e f m k h = by (bytes_eq z.name m) h (counts_kept env x y e f m k)
  where
    by : (b : Boolean) → IsSomeAnd (cond b (Some z) (find_data (env ++ entry.Data x ∷ []) m)) (λ d. k ≡ d.params) →
        (IsSomeAnd (find_data (env ++ entry.Data x ∷ []) m) (λ d. k ≡ d.params) → IsSomeAnd (find_data (env ++ entry.Data y ∷ []) m) (λ d. k ≡ d.params)) →
        IsSomeAnd (cond b (Some z) (find_data (env ++ entry.Data y ∷ []) m)) (λ d. k ≡ d.params)
    by true g r = g
    by false g r = r g
counts_kept (entry.Constant sig c ∷ env) x y e f m k h = counts_kept env x y e f m k h
counts_kept (entry.Direct sig c body ∷ env) x y e f m k h = counts_kept env x y e f m k h
counts_kept (entry.Recursive sig c place bodies ∷ env) x y e f m k h = counts_kept env x y e f m k h

module _ (env : Env) (x y : DataDecl) (e : x.name ≡ y.name) (f : x.params ≡ y.params) where
  mutual
    proper_kept : (A : Ty) → IsProper (env ++ entry.Data x ∷ []) A → IsProper (env ++ entry.Data y ∷ []) A
    proper_kept Int h = tt
    proper_kept Bool h = tt
    proper_kept Prop h = h
    proper_kept (Param i) h = tt
    proper_kept (pow A) h = proper_kept A h
    proper_kept (prod A B) h = (proper_kept A h.0, proper_kept B h.1)
    proper_kept (DataType m As) h = (counts_kept env x y e f m (length (type_list As)) h.0, all_proper_kept As h.1)

    all_proper_kept : (As : Tys) → AreProper (env ++ entry.Data x ∷ []) As → AreProper (env ++ entry.Data y ∷ []) As
    all_proper_kept Empty h = tt
    all_proper_kept (more A As) h = (proper_kept A h.0, all_proper_kept As h.1)

-- Fields.
all_contained : {X : Type 0} (P : X → Type 0) (xs : List X) → ((x : X) → Contains xs x → P x) → AllByRecursion P xs
all_contained P [] h = tt
all_contained P (x ∷ xs) h = (h x (contains_first x xs), all_contained P xs (λ y c. h y (contains_more y x xs c)))

fields_proper : (env f : Env) (params : List Name) (ids : List ℕ) → ((A : Ty) → IsProper env A → IsProper f A) → (vars : List Var) → AllByRecursion (IsProper env) (var_types vars) →
    AllByRecursion (IsProper f) (map (λ (v : Var). v.ty) (map (own_var (own_list (length params) ids)) vars))
fields_proper env f params ids k [] h = tt
fields_proper env f params ids k (v ∷ vars) h =
    (k (type_inst (type_at (own_list (length params) ids)) v.ty) (proper_inst env (own_list (length params) ids) v.ty (own_proper env (length params) ids) h.0), fields_proper env f params ids k vars h.1)

con_good : (params : List Name) (env f : Env) (ids : List ℕ) (n : ℕ) → ((A : Ty) → IsProper env A → IsProper f A) → (c : RawCon) (k : Con) → IsConRead params env (own_list (length params) ids) c k → length c.args < 2 ^ 30 →
    AllByRecursion (λ A. type_params A ≤ n) (field_types k) → AreGoodFields f n k
con_good params env f ids n l c k h few low =
    let p = args_proper params env c.args h.vars h.args in
    let m : length k.fields ≡ length c.args = ap length h.fields ∙ length-map h.vars (own_var (own_list (length params) ids)) ∙ zip_length (IsArgRead params env) c.args h.vars h.args in
    record {
      count = transport (λ x. x < 2 ^ 30) (sym m) few;
      proper = transport (λ fs. AllByRecursion (IsProper f) (map (λ (v : Var). v.ty) fs)) (sym h.fields) (fields_proper env f params ids l h.vars p);
      parameters = low;
    }

cons_good : (params : List Name) (env f : Env) (ids : List ℕ) (n : ℕ) → ((A : Ty) → IsProper env A → IsProper f A) → (cs : List RawCon) (ks : List Con) → AllZip (IsConRead params env (own_list (length params) ids)) cs ks →
    AllByRecursion (λ (c : RawCon). length c.args < 2 ^ 30) cs → AllByRecursion (λ k. AllByRecursion (λ A. type_params A ≤ n) (field_types k)) ks → AllByRecursion (AreGoodFields f n) ks
cons_good params env f ids n l [] [] h few low = tt
cons_good params env f ids n l [] (k ∷ ks) h few low = absurd h
cons_good params env f ids n l (c ∷ cs) [] h few low = absurd h
cons_good params env f ids n l (c ∷ cs) (k ∷ ks) h few low = (con_good params env f ids n l c k h.0 few.0 low.0, cons_good params env f ids n l cs ks h.1 few.1 low.1)

pub data_follows : (params : List Name) (env : Env) (n : Name) (listed : List Name) (cons : List RawCon) (d : DataDecl) → read_data params env n listed cons ≡ Some d → AreFree env (n ∷ flat_map raw_con_names cons) →
    AllByRecursion (λ (c : RawCon). length c.args < 2 ^ 30) cons → IsAdmittedData d → MayFollow env (element.Data d)
data_follows params env n listed cons d e free few x =
    let r = data_read params env n listed cons d e in
    let bare : DataDecl = record { name = n; params = length r.ids; cons = [] } in
    let E = entry.Data d in
    let low = all_contained (λ c. AllByRecursion (λ A. type_params A ≤ d.params) (field_types c)) d.cons
    (λ c i. all_contained (λ A. type_params A ≤ d.params) (field_types c) (λ A j. not_less d.params (type_params A) (λ l. x.parameters (A, (c, i, j), l)))) in
    let good : IsGoodEntry env E =
    cons_good params (with_data env n (length r.ids)) (env ++ E ∷ []) r.ids d.params (proper_kept env bare d (sym r.named) (sym r.count)) cons d.cons r.cons_read few low in
    ((new_names env E (n ∷ flat_map raw_con_names cons) (names_read params env n cons d r) free, good, x), tt)
