-- Elements that may follow a part of an environment may follow the whole, and make the same entry there.
use Rattle.std.specs.Prelude.{◌≡◌, ◌<◌, ◌++◌, ℕ, zero, suc, Bool as Boolean, true, false, cond, List, [], ◌∷◌, Option, Some, None, map, flat_map, slice_get, get_or, length, bytes_eq, option_map, Contains, IsFalse, IsSomeAnd, ⊤, refl}
use Rattle.std.specs.List.{AllByRecursion, AllZip, IsDistinct, list_any}
use Rattle.std.proofs.Common.{◌⊎◌, inl, inr, ⊎_elim, ap, sym, ◌∙◌, subst as transport, arith}
use Rattle.std.specs.Option.{option_and_then}
use Rattle.std.proofs.lemmas.Grind.{flat_map-append}
use Rattle.ev_terms.specs.declared.types.Ty.{Ty, Int, Bool, Prop, Param, Data as DataType}
use Rattle.ev_terms.specs.declared.types.Tys.{Tys}
use Rattle.ev_terms.specs.declared.types.Sym.{Sym}
use Rattle.ev_terms.specs.declared.types.Sym.TheVariants.{Base, User}
use Rattle.ev_terms.specs.Types.{pow, prod, type_list}
use Rattle.ev_terms.specs.Term.{Term, Terms, var, lit, node, nil, cons}
use Rattle.ev_terms.specs.Substitution.{type_inst, type_at}
use Rattle.ev_typing.specs.declared.typing.Entry.{Entry}
use Rattle.ev_typing.specs.declared.typing.Entry.TheVariants as entry
use Rattle.ev_typing.specs.declared.typing.Signature.{Signature}
use Rattle.ev_typing.specs.declared.typing.DataDecl.{DataDecl}
use Rattle.ev_typing.specs.declared.typing.Con.{Con}
use Rattle.ev_typing.specs.Profiles.{Profile}
use Rattle.ev_typing.specs.Env.{Env, Name, Symbol, ConOf, DesOf, ConstantOf, DirectOf, RecursiveOf, look_up, names, symbols, declares, declaring, find_data, find_symbol, field_types, symbol_profile, profile}
use Rattle.ev_typing.specs.Typing.{Typed, AreTyped, inside}
use Rattle.ev_typing.specs.Proper.{IsResult}
use Rattle.ev_typing.specs.Occurs.{is_direct_symbol, is_direct, IsPlain, ArePlain}
use Rattle.ev_typing.specs.Parts.{IsPartOf, HasDistinctNames}
use Rattle.ev_typing.specs.WellFormed.{HasNewNames, AreGoodFields, IsGoodSignature, IsGoodTerm, IsGoodCondition, IsGoodEntry, IsWellFormed, data_of, inductive_data, case_context}
use Rattle.ev_typing.proofs.Names.{same_name, name_same, empty_well_formed, all_append, append_nil, apart_declared, well_formed_with}
use Rattle.ev_typing.proofs.Entries.{symbols_named, find_symbol-declaring}
use Rattle.ev_typing.proofs.Wholes.{HasAll, whole_has_all, found_whole, found_part, proper_over, all_proper_over, typed_over}
use Rattle.ev_data.specs.Sound.{IsSound, IsAdmittedEntry}
use Rattle.ev_rules.specs.declared.elements.Element.{Element}
use Rattle.ev_rules.specs.declared.elements.Element.TheVariants.{Import, Params, Data, Direct, Recursive, Constant, Axiom, Theorem, Rewrite, Inference}
use Rattle.ev_rules.specs.declared.elements.Branch.{Branch}
use Rattle.ev_ops.specs.Unfold.{Bodies, unfold_by, bodies_after}
use Rattle.ev_ops.specs.Entries.{entry_by, entry_of, with_entry, with_element, with_elements, env_of}
use Rattle.ev_ops.specs.Formulas.{IsFormula, IsOptional, HasFormulas, IsNewEntry, MayFollow, MayFollowAll}
use Rattle.ev_ops.proofs.Basics.{contains_more, contains_first}
use Rattle.ev_ops.proofs.Fitting.{contains_front, contains_last, body_found, found_body}
use Rattle.ev_ops.proofs.UnfoldEquation.{alike, good_at, look_up_split}
use Rattle.ev_ops.proofs.UnfoldApplication.{stands}
use Rattle.ev_ops.proofs.OverWhole.{over_whole, body_there}

-- Lists.
all_map : {X : Type 0} (P Q : X → Type 0) → ((x : X) → P x → Q x) → (xs : List X) → AllByRecursion P xs → AllByRecursion Q xs
all_map P Q g [] h = tt
all_map P Q g (x ∷ xs) h = (g x h.0, all_map P Q g xs h.1)

zip_map : {X Y : Type 0} (P Q : X → Y → Type 0) → ((x : X) (y : Y) → P x y → Q x y) → (xs : List X) (ys : List Y) → AllZip P xs ys → AllZip Q xs ys
zip_map P Q g [] [] h = tt
zip_map P Q g [] (y ∷ ys) h = h
zip_map P Q g (x ∷ xs) [] h = h
zip_map P Q g (x ∷ xs) (y ∷ ys) h = (g x y h.0, zip_map P Q g xs ys h.1)

some_same : {X : Type 0} (P Q : X → Type 0) (o r : Option X) → ((x : X) → o ≡ Some x → r ≡ Some x) → ((x : X) → P x → Q x) → IsSomeAnd o P → IsSomeAnd r Q
some_same P Q None r h k g = absurd g
some_same P Q (Some x) r h k g = transport (λ o. IsSomeAnd o Q) (sym (h x refl)) (k x g)

-- Names that are new behind those that are there.
distinct_behind : (xs ys : List Name) → IsDistinct bytes_eq xs → IsDistinct bytes_eq ys → AllByRecursion (λ y. AllByRecursion (λ x. bytes_eq x y ≡ false) xs) ys → IsDistinct bytes_eq (xs ++ ys)
unfolding IsDistinct
distinct_behind [] ys h g apart = g
distinct_behind (x ∷ xs) ys h g apart =
    (all_append (λ y. bytes_eq x y ≡ false) xs ys h.0 (all_map _ _ (λ y k. k.0) ys apart), distinct_behind xs ys h.1 g (all_map _ _ (λ y k. k.1) ys apart))

names_with : (f : Env) (d : Entry) → flat_map names (f ++ d ∷ []) ≡ flat_map names f ++ names d
names_with f d = flat_map-append names f (d ∷ []) ∙ ap (λ ns. flat_map names f ++ ns) (append_nil (names d))

pub distinct_with : (f : Env) (d : Entry) → HasDistinctNames f → HasNewNames f d → HasDistinctNames (f ++ d ∷ [])
distinct_with f d w new =
    transport (IsDistinct bytes_eq) (sym (names_with f d))
    (distinct_behind (flat_map names f) (names d) w new.different (all_map _ _ (λ n h. apart_declared f n h) (names d) new.new))

-- Parts.
pub part_with : (e f : Env) (d : Entry) → IsPartOf e f → IsPartOf (e ++ d ∷ []) (f ++ d ∷ [])
part_with e f d p =
    all_append (Contains (f ++ d ∷ [])) e (d ∷ []) (all_map _ _ (λ x c. contains_front f (d ∷ []) x c) e p) (contains_last f d, tt)

pub part_front : (f : Env) (d : Entry) → IsPartOf f (f ++ d ∷ [])
part_front f d = each f (λ x c. contains_front f (d ∷ []) x c)
  where
    each : (xs : Env) → ((x : Entry) → Contains xs x → Contains (f ++ d ∷ []) x) → IsPartOf xs (f ++ d ∷ [])
    each [] g = tt
    each (x ∷ xs) g = (g x (contains_first x xs), each xs (λ y c. g y (contains_more y x xs c)))

-- What holds over fewer entries.
result_over : (e f : Env) → HasAll e f → (A : Ty) → IsResult e A → IsResult f A
result_over e f k Int h = h
result_over e f k Bool h = h
result_over e f k Prop h = h
result_over e f k (Param i) h = h
result_over e f k (pow A) h = proper_over e f k (pow A) h
result_over e f k (prod A B) h = proper_over e f k (prod A B) h
result_over e f k (DataType n As) h = proper_over e f k (DataType n As) h

data_over : (e f : Env) → HasAll e f → (o : Option Ty) (p : DataDecl × Tys) → data_of e o ≡ Some p → data_of f o ≡ Some p
data_over e f k None p h = cc
data_over e f k (Some Int) p h = cc
data_over e f k (Some Bool) p h = cc
data_over e f k (Some Prop) p h = cc
data_over e f k (Some (Param i)) p h = cc
data_over e f k (Some (pow A)) p h = cc
data_over e f k (Some (prod A B)) p h = cc
data_over e f k (Some (DataType n As)) p h = by (find_data e n) refl h
  where
    by : (o : Option DataDecl) → find_data e n ≡ o → option_map (λ (d : DataDecl). (d, As)) o ≡ Some p → option_map (λ (d : DataDecl). (d, As)) (find_data f n) ≡ Some p
    by None q x = cc
    by (Some d) q x = ap (option_map (λ (d : DataDecl). (d, As))) (k.decls n d q) ∙ x

inductive_over : (e f : Env) → HasAll e f → (sig : Signature) (place : ℕ) (p : DataDecl × Tys) → inductive_data e sig place ≡ Some p → inductive_data f sig place ≡ Some p
inductive_over e f k sig place p h = data_over e f k (slice_get (type_list sig.args) place) p h

indirect_over : (e f : Env) → IsPartOf e f → HasDistinctNames f → (s : Sym) (P : Profile → Type 0) → IsSomeAnd (profile e s) P → IsFalse (is_direct e s) → IsFalse (is_direct f s)
indirect_over e f k w (Base j) P h p = p
indirect_over e f k w (User n) P h p = by (find_symbol e n) refl h
  where
    by : (o : Option Symbol) → find_symbol e n ≡ o → IsSomeAnd (option_map symbol_profile o) P → IsFalse (is_direct f (User n))
    by None g x = absurd x
    by (Some y) g x = ap is_direct_symbol (found_part symbols symbols_named e f n y w k g) ∙ sym (ap is_direct_symbol g) ∙ p

some_gives : {X R : Type 0} {P : X → Type 0} (o : Option X) → ((x : X) → P x → R) → IsSomeAnd o P → R
some_gives None k h = absurd h
some_gives (Some x) k h = k x h

mutual
  plain_over : (e f : Env) → IsPartOf e f → HasDistinctNames f → (C : List Ty) (t : Term) (A : Ty) → Typed e C t A → IsPlain e t → IsPlain f t
  plain_over e f k w C (var i) A h p = tt
  plain_over e f k w C (lit n) A h p = tt
  plain_over e f k w C (node s As ts) A h p = (
    indirect_over e f k w s _ h p.0,
    some_gives (profile e s) (λ q g. all_plain_over e f k w (inside C s As) ts (map (type_inst (type_at As)) q.args) g.children p.1) h,
  )

  all_plain_over : (e f : Env) → IsPartOf e f → HasDistinctNames f → (C : List Ty) (ts : Terms) (As : List Ty) → AreTyped e C ts As → ArePlain e ts → ArePlain f ts
  all_plain_over e f k w C nil As h p = tt
  all_plain_over e f k w C (cons t ts) [] h p = absurd h
  all_plain_over e f k w C (cons t ts) (A ∷ As) h p = (plain_over e f k w C t A h.0 p.0, all_plain_over e f k w C ts As h.1 p.1)

signature_over : (e f : Env) → HasAll e f → (sig : Signature) → IsGoodSignature e sig → IsGoodSignature f sig
signature_over e f k sig h = record {
  count = h.count;
  args = all_proper_over e f k sig.args h.args;
  result = result_over e f k sig.result h.result;
  args_parameters = h.args_parameters;
  result_parameters = h.result_parameters;
  used = h.used;
}

term_over : (e f : Env) → HasAll e f → (n : ℕ) (C : List Ty) (A : Ty) (t : Term) → IsGoodTerm e n C A t → IsGoodTerm f n C A t
term_over e f k n C A t h = record { typed = typed_over e f k C t A h.typed; parameters = h.parameters; shallow = h.shallow }

condition_over : (e f : Env) → HasAll e f → (sig : Signature) (c : Option Term) → IsGoodCondition e sig c → IsGoodCondition f sig c
condition_over e f k sig None h = h
condition_over e f k sig (Some P) h = term_over e f k sig.params (type_list sig.args) Prop P h

fields_over : (e f : Env) → HasAll e f → (n : ℕ) (c : Con) → AreGoodFields e n c → AreGoodFields f n c
fields_over e f k n c h = record { count = h.count; proper = all_map _ _ (λ A p. proper_over e f k A p) (field_types c) h.proper; parameters = h.parameters }

-- An entry that is good over fewer.
good_over : (e f : Env) → IsPartOf e f → HasDistinctNames f → (d : Entry) → HasDistinctNames (f ++ d ∷ []) → IsGoodEntry e d → IsGoodEntry f d
good_over e f p w (entry.Data d) v h =
    all_map _ _ (fields_over (e ++ entry.Data d ∷ []) (f ++ entry.Data d ∷ []) (whole_has_all _ _ (part_with e f (entry.Data d) p) v) d.params) d.cons h
good_over e f p w (entry.Constant sig c) v h =
    let k = whole_has_all e f p w in
    record { signature = signature_over e f k sig h.signature; condition_good = condition_over e f k sig c h.condition_good; bodies = tt }
good_over e f p w (entry.Direct sig c body) v h =
    let k = whole_has_all e f p w in
    record {
      signature = signature_over e f k sig h.signature;
      condition_good = condition_over e f k sig c h.condition_good;
      bodies = term_over e f k sig.params (type_list sig.args) sig.result body h.bodies;
    }
good_over e f p w (entry.Recursive sig c place bodies) v h =
    let k = whole_has_all e f p w in
    let d = entry.Recursive sig c place bodies in
    let p' = part_with e f d p in
    let k' = whole_has_all (e ++ d ∷ []) (f ++ d ∷ []) p' v in
    record {
      signature = signature_over e f k sig h.signature;
      condition_good = condition_over e f k sig c h.condition_good;
      bodies =
          some_same _ _ (inductive_data (e ++ d ∷ []) sig place) (inductive_data (f ++ d ∷ []) sig place) (inductive_over (e ++ d ∷ []) (f ++ d ∷ []) k' sig place)
          (λ q z. zip_map _ _ (λ con body b. record {
            term = term_over (e ++ d ∷ []) (f ++ d ∷ []) k' sig.params (case_context sig place q.1 con) sig.result body b.term;
            plain = plain_over (e ++ d ∷ []) (f ++ d ∷ []) p' v (case_context sig place q.1 con) body sig.result b.term.typed b.plain;
          }) q.0.cons bodies z) h.bodies;
    }

admitted_over : (e f : Env) → HasAll e f → (d : Entry) → IsAdmittedEntry e d → IsAdmittedEntry f d
admitted_over e f k (entry.Data d) h = h
admitted_over e f k (entry.Constant sig c) h = h
admitted_over e f k (entry.Direct sig c body) h = h
admitted_over e f k (entry.Recursive sig c place bodies) h =
    some_same _ _ (inductive_data e sig place) (inductive_data f sig place) (inductive_over e f k sig place) (λ q z. z) h

-- A sound environment with one more entry.
pub sound_with : (e : Env) (d : Entry) → IsSound e → HasNewNames e d → IsGoodEntry e d → IsAdmittedEntry (e ++ d ∷ []) d → IsSound (e ++ d ∷ [])
sound_with e d s new good admitted =
    let w = well_formed_with e d s.well_formed new good in
    let k = whole_has_all e (e ++ d ∷ []) (part_front e d) w.distinct in
    record { well_formed = w; admitted = all_append _ e (d ∷ []) (all_map _ _ (λ x h. admitted_over e (e ++ d ∷ []) k x h) e s.admitted) (admitted, tt) }

pub sound_after : (e : Env) (o : Option Entry) → IsSound e → IsNewEntry e o → IsSound (with_entry e o)
sound_after e None s n = s
sound_after e (Some d) s n = sound_with e d s n.0 n.1 n.2

-- Formulas over fewer entries.
formula_over : (e f : Env) → HasAll e f → (C : List Ty) (A : Ty) (t : Term) → IsFormula e C A t → IsFormula f C A t
formula_over e f k C A t h = record { typed = typed_over e f k C t A h.typed; small = h.small }

optional_over : (e f : Env) → HasAll e f → (C : List Ty) (o : Option Term) → IsOptional e C o → IsOptional f C o
optional_over e f k C None h = h
optional_over e f k C (Some P) h = formula_over e f k C Prop P h

pub formulas_over : (e f : Env) → HasAll e f → (x : Element) → HasFormulas e x → HasFormulas f x
formulas_over e f k (Import n) h = tt
formulas_over e f k (Params ns) h = tt
formulas_over e f k (Data d) h = tt
formulas_over e f k (Direct sig c body) h = (optional_over e f k (type_list sig.args) c h.0, formula_over e f k (type_list sig.args) sig.result body h.1)
formulas_over e f k (Recursive sig c place bodies) h = (
  optional_over e f k (type_list sig.args) c h.0,
  some_same _ _ (inductive_data e sig place) (inductive_data f sig place) (inductive_over e f k sig place)
      (λ q z. zip_map _ _ (λ con body b. formula_over e f k (case_context sig place q.1 con) sig.result body b) q.0.cons bodies z) h.1,
)
formulas_over e f k (Constant sig c) h = optional_over e f k (type_list sig.args) c h
formulas_over e f k (Axiom l P) h = formula_over e f k [] Prop P h
formulas_over e f k (Theorem l P) h = formula_over e f k [] Prop P h
formulas_over e f k (Rewrite r) h = record {
  vars = all_proper_over e f k r.vars h.vars;
  type = h.type;
  sort = result_over e f k h.type h.sort;
  left = formula_over e f k (type_list r.vars) h.type r.left h.left;
  some = h.some;
  branches = all_map _ _ (λ (b : Branch) g. record {
    condition = optional_over e f k (type_list r.vars) b.condition g.condition;
    right = formula_over e f k (type_list r.vars) h.type b.right g.right;
  }) r.branches h.branches;
}
formulas_over e f k (Inference r) h = record {
  vars = all_proper_over e f k r.vars h.vars;
  givens = all_map _ _ (λ P g. formula_over e f k (type_list r.vars) Prop P g) r.givens h.givens;
  conclusion = formula_over e f k (type_list r.vars) Prop r.conclusion h.conclusion;
}

-- Entries that are covered by two lists declare no other names.
abbrev pub Covers : Env → Env → Env → Type 0
Covers f0 e f = AllByRecursion (λ d. Contains f0 d ⊎ Contains e d) f

not_found : (n : Name) (es : Env) (k : ℕ) (d : Entry) → k < length es → get_or es k d ≡ d → declaring es n ≡ None → declares n d ≡ false
not_found n [] k d h q z = absurd (omega arith)
not_found n (c ∷ es) zero d h q z = ap (declares n) (sym q) ∙ by (declares n c) refl z
  where
    by : (b : Boolean) → declares n c ≡ b → cond b (Some c) (declaring es n) ≡ None → declares n c ≡ false
    by true m y = cc
    by false m y = m
not_found n (c ∷ es) (suc k) d h q z = by (declares n c) (not_found n es k d (omega arith) q) z
  where
    by : (b : Boolean) → (declaring es n ≡ None → declares n d ≡ false) → cond b (Some c) (declaring es n) ≡ None → declares n d ≡ false
    by true g y = cc
    by false g y = g y

absent_in : (n : Name) (es : Env) (d : Entry) → Contains es d → declaring es n ≡ None → declares n d ≡ false
absent_in n es d (k, h, q) z = not_found n es k d h q z

none_declared : (n : Name) (f0 e f : Env) → Covers f0 e f → declaring f0 n ≡ None → declaring e n ≡ None → declaring f n ≡ None
none_declared n f0 e [] c h g = refl
none_declared n f0 e (d ∷ f) c h g = ap (λ b. cond b (Some d) (declaring f n)) (by c.0) ∙ none_declared n f0 e f c.1 h g
  where
    by : Contains f0 d ⊎ Contains e d → declares n d ≡ false
    by (inl k) = absent_in n f0 d k h
    by (inr k) = absent_in n e d k g

covers_more : (f0 e f : Env) (d : Entry) → Covers f0 e f → Covers f0 (e ++ d ∷ []) (f ++ d ∷ [])
covers_more f0 e f d c =
    all_append (λ x. Contains f0 x ⊎ Contains (e ++ d ∷ []) x) f (d ∷ [])
    (all_map _ _ (λ x k. ⊎_elim (λ a. inl a) (λ b. inr (contains_front e (d ∷ []) x b)) k) f c)
    (inr (contains_last e d), tt)

-- A name that no entry declares has no symbol.
not_declared : (e : Env) → IsWellFormed e → (n : Name) → declaring e n ≡ None → find_symbol e n ≡ None
not_declared e w n h = find_symbol-declaring e n w ∙ ap (option_and_then (λ d. look_up (symbols d) n)) h

all_contained : (e r : Env) → IsPartOf e (e ++ r)
all_contained [] r = tt
all_contained (x ∷ e) r = (contains_first x (e ++ r), all_map _ _ (λ y c. contains_more y x (e ++ r) c) e (all_contained e r))

-- Unfolding over a part and over the whole.
no_body : (env : Env) → IsWellFormed env → (n : Name) → is_direct_symbol (find_symbol env n) ≡ false → look_up (bodies_after [] env) n ≡ None
no_body env w n h = by (look_up (bodies_after [] env) n) refl
  where
    by : (o : Option Term) → look_up (bodies_after [] env) n ≡ o → o ≡ None
    by None q = refl
    by (Some B) q =
        let g = body_found env n B w.distinct (found_body env w n B q) in
        let no : true ≡ false = sym (ap is_direct_symbol g) ∙ h in cc

module _ (e f : Env) (v : IsWellFormed e) (w : IsWellFormed f) (p : IsPartOf e f) where
  in_whole : (n : Name) (x : Symbol) → find_symbol e n ≡ Some x → find_symbol f n ≡ Some x
  in_whole n x h = found_part symbols symbols_named e f n x w.distinct p h

  body_typed : (n : Name) (sig : Signature) (c : Option Term) (body : Term) → find_symbol e n ≡ Some (DirectOf sig c body) → Typed e (type_list sig.args) body sig.result
  body_typed n sig c body h =
      let s = stands n sig c body e h in
      transport (λ x. IsWellFormed x → Typed x (type_list sig.args) body sig.result) (sym s.2) (from s.0 s.1) v
    where
      from : (e₁ r₁ : Env) → IsWellFormed (e₁ ++ entry.Direct sig c body ∷ r₁) → Typed (e₁ ++ entry.Direct sig c body ∷ r₁) (type_list sig.args) body sig.result
      from e₁ r₁ u =
          typed_over e₁ (e₁ ++ entry.Direct sig c body ∷ r₁) (whole_has_all e₁ (e₁ ++ entry.Direct sig c body ∷ r₁) (all_contained e₁ (entry.Direct sig c body ∷ r₁)) u.distinct) (type_list sig.args) body sig.result
          (good_at [] e₁ r₁ (entry.Direct sig c body) u.entries).bodies.typed

  bodies_agree : (n : Name) (x : Symbol) → find_symbol e n ≡ Some x → look_up (bodies_after [] f) n ≡ look_up (bodies_after [] e) n
  bodies_agree n x h = by x h
    where
      neither : (y : Symbol) → find_symbol e n ≡ Some y → is_direct_symbol (Some y) ≡ false → look_up (bodies_after [] f) n ≡ look_up (bodies_after [] e) n
      neither y g k = no_body f w n (ap is_direct_symbol (in_whole n y g) ∙ k) ∙ sym (no_body e v n (ap is_direct_symbol g ∙ k))

      by : (y : Symbol) → find_symbol e n ≡ Some y → look_up (bodies_after [] f) n ≡ look_up (bodies_after [] e) n
      by (ConOf d c) g = neither (ConOf d c) g refl
      by (DesOf d c i u) g = neither (DesOf d c i u) g refl
      by (ConstantOf sig c) g = neither (ConstantOf sig c) g refl
      by (DirectOf sig c body) g =
          body_there f w n sig c body (in_whole n (DirectOf sig c body) g)
          ∙ ap Some (over_whole e f v w p (type_list sig.args) body sig.result (body_typed n sig c body g))
          ∙ sym (body_there e v n sig c body g)
      by (RecursiveOf sig c place bodies) g = neither (RecursiveOf sig c place bodies) g refl

  -- a term that may call a recursive operator besides
  unfolded_alike : (sig : Signature) (c : Option Term) (place : ℕ) (trees : List Term) → is_direct_symbol (find_symbol f sig.name) ≡ false → is_direct_symbol (find_symbol e sig.name) ≡ false →
      (C : List Ty) (A : Ty) (body : Term) → Typed (e ++ entry.Recursive sig c place trees ∷ []) C body A → unfold_by (bodies_after [] f) body ≡ unfold_by (bodies_after [] e) body
  unfolded_alike sig c place trees no_f no_e C A body h =
      alike (e ++ entry.Recursive sig c place trees ∷ []) (bodies_after [] f) (bodies_after [] e) agree body C A h
    where
      here : (n : Name) (x : Symbol) → look_up ((sig.name, RecursiveOf sig c place trees) ∷ []) n ≡ Some x → look_up (bodies_after [] f) n ≡ look_up (bodies_after [] e) n
      here n x q = by (bytes_eq sig.name n) refl q
        where
          by : (b : Boolean) → bytes_eq sig.name n ≡ b → cond b (Some (RecursiveOf sig c place trees)) None ≡ Some x → look_up (bodies_after [] f) n ≡ look_up (bodies_after [] e) n
          by true m y =
              let i : sig.name ≡ n = same_name sig.name n m in
              transport (λ k. look_up (bodies_after [] f) k ≡ look_up (bodies_after [] e) k) i (no_body f w sig.name no_f ∙ sym (no_body e v sig.name no_e))
          by false m y = cc

      agree : (n : Name) (x : Symbol) → find_symbol (e ++ entry.Recursive sig c place trees ∷ []) n ≡ Some x → look_up (bodies_after [] f) n ≡ look_up (bodies_after [] e) n
      agree n x g =
          ⊎_elim (λ q. bodies_agree n x q) (λ q. here n x q)
          (look_up_split (flat_map symbols e) ((sig.name, RecursiveOf sig c place trees) ∷ []) n x
          (ap (λ ps. look_up ps n) (sym (flat_map-append symbols e (entry.Recursive sig c place trees ∷ []))) ∙ g))

  all_alike : (sig : Signature) (c : Option Term) (place : ℕ) (trees : List Term) → is_direct_symbol (find_symbol f sig.name) ≡ false → is_direct_symbol (find_symbol e sig.name) ≡ false →
      (As : Tys) (cs : List Con) (bodies : List Term) → AllZip (λ (k : Con). IsFormula (e ++ entry.Recursive sig c place trees ∷ []) (case_context sig place As k) sig.result) cs bodies →
      map (unfold_by (bodies_after [] f)) bodies ≡ map (unfold_by (bodies_after [] e)) bodies
  all_alike sig c place trees no_f no_e As [] [] h = refl
  all_alike sig c place trees no_f no_e As [] (b ∷ bs) h = absurd h
  all_alike sig c place trees no_f no_e As (k ∷ ks) [] h = refl
  all_alike sig c place trees no_f no_e As (k ∷ ks) (b ∷ bs) h =
      let one = unfolded_alike sig c place trees no_f no_e (case_context sig place As k) sig.result b h.0.typed in
      let rest = all_alike sig c place trees no_f no_e As ks bs h.1 in
      cc

  -- a recursive operator is no direct one over the whole
  abbrev pub IsNotDirect : Element → Type 0
  IsNotDirect (Recursive sig c place bodies) = is_direct_symbol (find_symbol f sig.name) ≡ false
  IsNotDirect x = ⊤

  -- Over the whole the element makes the entry that it makes over the part.
  pub same_entry : (x : Element) → MayFollow e x → IsNotDirect x → entry_of f x ≡ entry_of e x
  same_entry (Import n) h k = refl
  same_entry (Params ns) h k = refl
  same_entry (Data d) h k = refl
  same_entry (Direct sig c body) h k = refl
  same_entry (Constant sig c) h k = refl
  same_entry (Axiom l P) h k = refl
  same_entry (Theorem l P) h k = refl
  same_entry (Rewrite r) h k = refl
  same_entry (Inference r) h k = refl
  same_entry (Recursive sig c place bodies) h k =
      let trees = map (unfold_by (bodies_after [] e)) bodies in
      let unknown : find_symbol e sig.name ≡ None = not_declared e v sig.name h.0.0.new.0 in
      ap (λ ts. Some (entry.Recursive sig c place ts))
      (some_gives (inductive_data (e ++ entry.Recursive sig c place trees ∷ []) sig place) (λ q z. all_alike sig c place trees k (ap is_direct_symbol unknown) q.1 q.0.cons bodies z) h.1.1)

-- An element that may follow a part, and declares what is new to the whole.
abbrev pub names_in : Option Entry → List Name
names_in None = []
names_in (Some d) = names d

abbrev pub declared_by : Element → List Name
declared_by x = names_in (entry_by [] x)

named_alike : (bs : Bodies) (x : Element) (d : Entry) → entry_by bs x ≡ Some d → names d ≡ declared_by x
named_alike bs (Import n) d h = cc
named_alike bs (Params ns) d h = cc
named_alike bs (Data x) d h = (let q : entry.Data x ≡ d = cc in sym (ap names q))
named_alike bs (Direct sig c body) d h = (let q : entry.Direct sig c body ≡ d = cc in sym (ap names q))
named_alike bs (Recursive sig c place ts) d h = (let q : entry.Recursive sig c place (map (unfold_by bs) ts) ≡ d = cc in sym (ap names q))
named_alike bs (Constant sig c) d h = (let q : entry.Constant sig c ≡ d = cc in sym (ap names q))
named_alike bs (Axiom l P) d h = cc
named_alike bs (Theorem l P) d h = cc
named_alike bs (Rewrite r) d h = cc
named_alike bs (Inference r) d h = cc

abbrev pub AreUndeclared : Env → List Name → Type 0
AreUndeclared f ns = AllByRecursion (λ n. declaring f n ≡ None) ns

not_direct : (e f : Env) (v : IsWellFormed e) (w : IsWellFormed f) (p : IsPartOf e f) (x : Element) → AreUndeclared f (declared_by x) → IsNotDirect e f v w p x
not_direct e f v w p (Import n) h = tt
not_direct e f v w p (Params ns) h = tt
not_direct e f v w p (Data d) h = tt
not_direct e f v w p (Direct sig c body) h = tt
not_direct e f v w p (Recursive sig c place bodies) h = ap is_direct_symbol (not_declared f w sig.name h.0)
not_direct e f v w p (Constant sig c) h = tt
not_direct e f v w p (Axiom l P) h = tt
not_direct e f v w p (Theorem l P) h = tt
not_direct e f v w p (Rewrite r) h = tt
not_direct e f v w p (Inference r) h = tt

pub record Follows (e f : Env) (x : Element) : Type 0 where
  pub same : entry_of f x ≡ entry_of e x
  pub follow : MayFollow f x
  pub sound : IsSound (with_element f x)
  pub part : IsPartOf (with_element e x) (with_element f x)

follows : (e f : Env) → IsSound e → IsSound f → IsPartOf e f → (x : Element) → MayFollow e x → AreUndeclared f (declared_by x) → Follows e f x
follows e f s t p x h new = by (entry_of e x) refl h
  where
    same : entry_of f x ≡ entry_of e x
    same = same_entry e f s.well_formed t.well_formed p x h (not_direct e f s.well_formed t.well_formed p x new)

    by : (o : Option Entry) → entry_of e x ≡ o → IsNewEntry e (entry_of e x) × HasFormulas (with_entry e (entry_of e x)) x → Follows e f x
    by None q k =
        let r : entry_of f x ≡ None = same ∙ q in
        let g : HasFormulas e x = transport (λ o. HasFormulas (with_entry e o) x) q k.1 in
        record {
          same = same;
          follow = transport (λ o. IsNewEntry f o × HasFormulas (with_entry f o) x) (sym r) (tt, formulas_over e f (whole_has_all e f p t.well_formed.distinct) x g);
          sound = transport (λ o. IsSound (with_entry f o)) (sym r) t;
          part = transport (λ o. IsPartOf (with_element e x) (with_entry f o)) (sym r) (transport (λ o. IsPartOf (with_entry e o) f) (sym q) p);
        }
    by (Some d) q k =
        let r : entry_of f x ≡ Some d = same ∙ q in
        let n : IsNewEntry e (Some d) = transport (IsNewEntry e) q k.0 in
        let g : HasFormulas (e ++ d ∷ []) x = transport (λ o. HasFormulas (with_entry e o) x) q k.1 in
        let fresh : HasNewNames f d = record { new = transport (AreUndeclared f) (sym (named_alike (bodies_after [] e) x d q)) new; different = n.0.different } in
        let p' : IsPartOf (e ++ d ∷ []) (f ++ d ∷ []) = part_with e f d p in
        let w : HasDistinctNames (f ++ d ∷ []) = distinct_with f d t.well_formed.distinct fresh in
        let k' = whole_has_all (e ++ d ∷ []) (f ++ d ∷ []) p' w in
        let good = good_over e f p t.well_formed.distinct d w n.1 in
        let admitted = admitted_over (e ++ d ∷ []) (f ++ d ∷ []) k' d n.2 in
        record {
          same = same;
          follow = transport (λ o. IsNewEntry f o × HasFormulas (with_entry f o) x) (sym r) ((fresh, good, admitted), formulas_over (e ++ d ∷ []) (f ++ d ∷ []) k' x g);
          sound = transport (λ o. IsSound (with_entry f o)) (sym r) (sound_with f d t fresh good admitted);
          part = transport (λ o. IsPartOf (with_element e x) (with_entry f o)) (sym r) (transport (λ o. IsPartOf (with_entry e o) (f ++ d ∷ [])) (sym q) p');
        }

covers_after : (f0 e f : Env) (x : Element) → entry_of f x ≡ entry_of e x → Covers f0 e f → Covers f0 (with_element e x) (with_element f x)
covers_after f0 e f x same c = transport (λ o. Covers f0 (with_element e x) (with_entry f o)) (sym same) (by (entry_of e x))
  where
    by : (o : Option Entry) → Covers f0 (with_entry e o) (with_entry f o)
    by None = c
    by (Some d) = covers_more f0 e f d c

-- Elements one after the other, behind a part and behind the whole.
pub record AllFollow (e f : Env) (xs : List Element) : Type 0 where
  pub follow : MayFollowAll f xs
  pub sound : IsSound (with_elements f xs)
  pub part : IsPartOf (with_elements e xs) (with_elements f xs)

new_names : (e : Env) (x : Element) → MayFollow e x → AreUndeclared e (declared_by x)
new_names e x h = by (entry_of e x) refl h.0
  where
    by : (o : Option Entry) → entry_of e x ≡ o → IsNewEntry e (entry_of e x) → AreUndeclared e (declared_by x)
    by None q n = transport (AreUndeclared e) (none x q) tt
      where
        none : (y : Element) → entry_of e y ≡ None → [] ≡ declared_by y
        none (Import i) r = refl
        none (Params ns) r = refl
        none (Data d) r = cc
        none (Direct sig c body) r = cc
        none (Recursive sig c place ts) r = cc
        none (Constant sig c) r = cc
        none (Axiom l P) r = refl
        none (Theorem l P) r = refl
        none (Rewrite w) r = refl
        none (Inference w) r = refl
    by (Some d) q n = transport (AreUndeclared e) (named_alike (bodies_after [] e) x d q) (transport (IsNewEntry e) q n).0.new

both_undeclared : (f0 e f : Env) → Covers f0 e f → (ns : List Name) → AreUndeclared f0 ns → AreUndeclared e ns → AreUndeclared f ns
both_undeclared f0 e f c [] h g = tt
both_undeclared f0 e f c (n ∷ ns) h g = (none_declared n f0 e f c h.0 g.0, both_undeclared f0 e f c ns h.1 g.1)

pub all_follow : (f0 : Env) (xs : List Element) (e f : Env) → IsSound e → IsSound f → IsPartOf e f → Covers f0 e f → MayFollowAll e xs → AllByRecursion (λ x. AreUndeclared f0 (declared_by x)) xs → AllFollow e f xs
all_follow f0 [] e f s t p c h new = record { follow = tt; sound = t; part = p }
all_follow f0 (x ∷ xs) e f s t p c h new =
    let one = follows e f s t p x h.0 (both_undeclared f0 e f c (declared_by x) new.0 (new_names e x h.0)) in
    let rest = all_follow f0 xs (with_element e x) (with_element f x) (sound_after e (entry_of e x) s h.0.0) one.sound one.part (covers_after f0 e f x one.same c) h.1 new.1 in
    record { follow = (one.follow, rest.follow); sound = rest.sound; part = rest.part }

pub sound_all : (e : Env) (xs : List Element) → IsSound e → MayFollowAll e xs → IsSound (with_elements e xs)
sound_all e [] s h = s
sound_all e (x ∷ xs) s h = sound_all (with_element e x) xs (sound_after e (entry_of e x) s h.0.0) h.1

-- Members of lists.
at_holds : {X : Type 0} (P : X → Type 0) (xs : List X) → AllByRecursion P xs → (k : ℕ) (x : X) → k < length xs → get_or xs k x ≡ x → P x
at_holds P [] h k x l q = absurd (omega arith)
at_holds P (y ∷ ys) h zero x l q = transport P q h.0
at_holds P (y ∷ ys) h (suc k) x l q = at_holds P ys h.1 k x (omega arith) q

pub member_holds : {X : Type 0} (P : X → Type 0) (xs : List X) (x : X) → AllByRecursion P xs → Contains xs x → P x
member_holds P xs x h (k, l, q) = at_holds P xs h k x l q

members_hold : {X : Type 0} (P : X → Type 0) (xs ys : List X) → AllByRecursion P ys → AllByRecursion (Contains ys) xs → AllByRecursion P xs
members_hold P [] ys h c = tt
members_hold P (x ∷ xs) ys h c = (member_holds P ys x h c.0, members_hold P xs ys h c.1)

pub part_of_part : (e f g : Env) → IsPartOf e f → IsPartOf f g → IsPartOf e g
part_of_part e f g p q = members_hold (Contains g) e f q p

pub part_self : (e : Env) → IsPartOf e e
part_self e = each e (λ x c. c)
  where
    each : (xs : Env) → ((x : Entry) → Contains xs x → Contains e x) → IsPartOf xs e
    each [] g = tt
    each (x ∷ xs) g = (g x (contains_first x xs), each xs (λ y c. g y (contains_more y x xs c)))

part_entry : (e : Env) (o : Option Entry) → IsPartOf e (with_entry e o)
part_entry e None = part_self e
part_entry e (Some d) = part_front e d

pub part_elements : (e : Env) (xs : List Element) → IsPartOf e (with_elements e xs)
part_elements e [] = part_self e
part_elements e (x ∷ xs) = part_of_part e (with_element e x) (with_elements (with_element e x) xs) (part_entry e (entry_of e x)) (part_elements (with_element e x) xs)

-- Elements whose entries stand in an environment.
abbrev IsEntered : Env → Option Entry → Type 0
IsEntered f None = ⊤
IsEntered f (Some d) = Contains f d

recursive_there : (f : Env) → IsWellFormed f → (sig : Signature) (c : Option Term) (place : ℕ) (ts : List Term) → Contains f (entry.Recursive sig c place ts) → is_direct_symbol (find_symbol f sig.name) ≡ false
recursive_there f w sig c place ts h =
    ap is_direct_symbol
    (found_whole symbols symbols_named f (entry.Recursive sig c place ts) sig.name (RecursiveOf sig c place ts) w.distinct h
    (ap (λ b. cond b (Some (RecursiveOf sig c place ts)) None) (name_same sig.name)))

entered_apart : (e f : Env) (v : IsWellFormed e) (w : IsWellFormed f) (p : IsPartOf e f) (bs : Bodies) (x : Element) → IsEntered f (entry_by bs x) → IsNotDirect e f v w p x
entered_apart e f v w p bs (Import n) h = tt
entered_apart e f v w p bs (Params ns) h = tt
entered_apart e f v w p bs (Data d) h = tt
entered_apart e f v w p bs (Direct sig c body) h = tt
entered_apart e f v w p bs (Recursive sig c place ts) h = recursive_there f w sig c place (map (unfold_by bs) ts) h
entered_apart e f v w p bs (Constant sig c) h = tt
entered_apart e f v w p bs (Axiom l P) h = tt
entered_apart e f v w p bs (Theorem l P) h = tt
entered_apart e f v w p bs (Rewrite r) h = tt
entered_apart e f v w p bs (Inference r) h = tt

last_entered : (e f : Env) (o : Option Entry) → IsPartOf (with_entry e o) f → IsEntered f o
last_entered e f None p = tt
last_entered e f (Some d) p = member_holds (Contains f) (e ++ d ∷ []) d p (contains_last e d)

entry_part : (e f : Env) (o : Option Entry) → IsPartOf e f → IsEntered f o → IsPartOf (with_entry e o) f
entry_part e f None p h = p
entry_part e f (Some d) p h = all_append (Contains f) e (d ∷ []) p (h, tt)

all_entered : (f : Env) → IsSound f → (e : Env) (xs : List Element) → IsSound e → MayFollowAll e xs → IsPartOf (with_elements e xs) f → AllByRecursion (λ x. IsEntered f (entry_of f x)) xs
all_entered f t e [] s h p = tt
all_entered f t e (x ∷ xs) s h p =
    let next = sound_after e (entry_of e x) s h.0.0 in
    let p' : IsPartOf (with_element e x) f = part_of_part (with_element e x) (with_elements (with_element e x) xs) f (part_elements (with_element e x) xs) p in
    let p0 : IsPartOf e f = part_of_part e (with_element e x) f (part_entry e (entry_of e x)) p' in
    let there : IsEntered f (entry_of e x) = last_entered e f (entry_of e x) p' in
    let same : entry_of f x ≡ entry_of e x = same_entry e f s.well_formed t.well_formed p0 x h.0 (entered_apart e f s.well_formed t.well_formed p0 (bodies_after [] e) x there) in
    (transport (IsEntered f) (sym same) there, all_entered f t (with_element e x) xs next h.1 p)

entered_part : (f : Env) → IsSound f → (e : Env) (xs : List Element) → IsSound e → IsPartOf e f → MayFollowAll e xs → AllByRecursion (λ x. IsEntered f (entry_of f x)) xs → IsPartOf (with_elements e xs) f
entered_part f t e [] s p h k = p
entered_part f t e (x ∷ xs) s p h k =
    let same : entry_of f x ≡ entry_of e x = same_entry e f s.well_formed t.well_formed p x h.0 (entered_apart e f s.well_formed t.well_formed p (bodies_after [] f) x k.0) in
    let p' : IsPartOf (with_element e x) f = entry_part e f (entry_of e x) p (transport (IsEntered f) same k.0) in
    entered_part f t (with_element e x) xs (sound_after e (entry_of e x) s h.0.0) p' h.1 k.1

pub empty_sound : IsSound []
empty_sound = record { well_formed = empty_well_formed; admitted = tt }

-- Elements that may follow one another, and stand among others that do, make a part of what these make.
pub parts : (xs ys : List Element) → MayFollowAll [] xs → MayFollowAll [] ys → AllByRecursion (Contains ys) xs → IsPartOf (env_of xs) (env_of ys)
parts xs ys h k c =
    let f = env_of ys in
    let t : IsSound f = sound_all [] ys empty_sound k in
    entered_part f t [] xs empty_sound tt h (members_hold (λ x. IsEntered f (entry_of f x)) xs ys (all_entered f t [] ys empty_sound k (part_self f)) c)

-- Some elements and then others.
pub follow_append : (e : Env) (xs ys : List Element) → MayFollowAll e xs → MayFollowAll (with_elements e xs) ys → MayFollowAll e (xs ++ ys)
follow_append e [] ys h k = k
follow_append e (x ∷ xs) ys h k = (h.0, follow_append (with_element e x) xs ys h.1 k)

pub follow_split : (e : Env) (xs ys : List Element) → MayFollowAll e (xs ++ ys) → MayFollowAll e xs × MayFollowAll (with_elements e xs) ys
follow_split e [] ys h = (tt, h)
follow_split e (x ∷ xs) ys h = let r = follow_split (with_element e x) xs ys h.1 in ((h.0, r.0), r.1)

-- The elements of a list may follow others of which they declare no name, where they may follow some of these.
pub follow_more : (below earlier own : List Element) → MayFollowAll [] (below ++ own) → MayFollowAll [] earlier → AllByRecursion (Contains earlier) below → AllByRecursion (λ x. AreUndeclared (env_of earlier) (declared_by x)) own →
    MayFollowAll [] (earlier ++ own)
follow_more below earlier own h k c new =
    let r = follow_split [] below own h in
    let t : IsSound (env_of earlier) = sound_all [] earlier empty_sound k in
    let s : IsSound (env_of below) = sound_all [] below empty_sound r.0 in
    let all = all_follow (env_of earlier) own (env_of below) (env_of earlier) s t (parts below earlier r.0 k c) (each (env_of earlier) (part_self (env_of earlier))) r.1 new in
    follow_append [] earlier own k all.follow
  where
    each : (xs : Env) → IsPartOf xs (env_of earlier) → AllByRecursion (λ d. Contains (env_of earlier) d ⊎ Contains (env_of below) d) xs
    each xs p = all_map _ _ (λ d q. inl q) xs p

none_behind : (n : Name) (es : Env) (d : Entry) → declaring es n ≡ None → declares n d ≡ false → declaring (es ++ d ∷ []) n ≡ None
none_behind n [] d g m = ap (λ b. cond b (Some d) None) m
none_behind n (c ∷ es) d g m = at (declares n c) (λ z. none_behind n es d z m) g
  where
    at : (b : Boolean) → (declaring es n ≡ None → declaring (es ++ d ∷ []) n ≡ None) → cond b (Some c) (declaring es n) ≡ None → cond b (Some c) (declaring (es ++ d ∷ []) n) ≡ None
    at true k z = cc
    at false k z = k z

-- A name that none of the elements declares is declared by no entry of theirs.
pub undeclared_after : (n : Name) (xs : List Element) (e : Env) → declaring e n ≡ None → AllByRecursion (λ x. list_any (bytes_eq n) (declared_by x) ≡ false) xs → declaring (with_elements e xs) n ≡ None
undeclared_after n [] e h k = h
undeclared_after n (x ∷ xs) e h k = undeclared_after n xs (with_element e x) (by (entry_of e x) refl) k.1
  where
    by : (o : Option Entry) → entry_of e x ≡ o → declaring (with_entry e o) n ≡ None
    by None q = h
    by (Some d) q = none_behind n e d h (ap (list_any (bytes_eq n)) (named_alike (bodies_after [] e) x d q) ∙ k.0)
