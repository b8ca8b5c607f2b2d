-- The laws of shift, substitution and type instance for any substitution, and those of arguments.
use Rattle.std.proofs.Common.{◌≡◌, ℕ, zero, suc, ◌+◌, ◌-◌, ◌≤◌, ◌<◌, List, [], ◌∷◌, ◌++◌, length, map, reverse, get_or, max, refl, sym, ap, ◌∙◌, arith}
use Rattle.std.specs.Prelude.{Some, slice_get, unwrap_or}
use Rattle.std.proofs.lemmas.Bool.Decides.{nat_tests}
use Rattle.std.proofs.lemmas.List.{map-append, reverse-append, length-reverse, get_or-reverse}
use Rattle.std.proofs.lemmas.Option.{slice_get_within, get_or_from_slice_get}
use Rattle.std.proofs.Math.Path.{fun_ext}
use Rattle.ev_terms.specs.declared.types.Ty.{Ty, Int, Bool, Prop, Param, Data}
use Rattle.ev_terms.specs.declared.types.Tys.{Tys, Empty}
use Rattle.ev_terms.specs.Types.{pow, prod, more, type_list}
use Rattle.ev_terms.specs.Term.{Term, Terms, var, lit, node, nil, cons}
use Rattle.ev_terms.specs.Symbols.{binds}
use Rattle.ev_terms.specs.Measures.{loose, type_params, types_params, params, all_params}
use Rattle.ev_terms.specs.Substitution.{shift_var, shift, shifts, lifts, inst, entry, substitute, fill, type_inst, types_inst, retype, retypes, instance, type_at}
use Rattle.ev_terms.proofs.Subst.{inst-inst, shift-inst}
use Rattle.ev_terms.proofs.Laws.{lifts-past, entry-get, entry-past}
use Rattle.ev_terms.proofs.ListLaws.{inst_below, inst_closed, retype-inst, retype-entry, retype-retype, type_inst-type_inst}

-- Shift and substitution.
pub shift-of_inst : (σ : ℕ → Term) (t : Term) (from by : ℕ) → shift (inst σ t) from by ≡ inst (λ i. shift (σ i) from by) t
shift-of_inst σ t from by =
    shift-inst (inst σ t) from by ∙ inst-inst (λ i. var (shift_var from by i)) σ t
    ∙ ap (λ τ. inst τ t) (fun_ext (λ i. sym (shift-inst (σ i) from by)))

pub inst-of_shift : (σ : ℕ → Term) (t : Term) (from by : ℕ) → inst σ (shift t from by) ≡ inst (λ i. σ (shift_var from by i)) t
inst-of_shift σ t from by = ap (inst σ) (shift-inst t from by) ∙ inst-inst σ (λ i. var (shift_var from by i)) t

shift_var_all : (n i : ℕ) → shift_var 0 n i ≡ i + n
shift_var_all n i = grind (arith, nat_tests)

lifts_raised : (n : ℕ) (σ : ℕ → Term) (i : ℕ) → lifts n σ (shift_var 0 n i) ≡ shift (σ i) 0 n
lifts_raised n σ i =
    let e : i + n - n ≡ i = omega arith in
    ap (lifts n σ) (shift_var_all n i) ∙ lifts-past n σ (i + n) (omega arith) ∙ ap (λ j. shift (σ j) 0 n) e

pub inst-under_binders : (n : ℕ) (σ : ℕ → Term) (t : Term) → inst (lifts n σ) (shift t 0 n) ≡ shift (inst σ t) 0 n
inst-under_binders n σ t =
    inst-of_shift (lifts n σ) t 0 n ∙ ap (λ τ. inst τ t) (fun_ext (lifts_raised n σ)) ∙ sym (shift-of_inst σ t 0 n)

-- a substitution of no entry for the variables that a shift has opened
entry_after : (us vs : List Term) (i : ℕ) → entry (us ++ vs) (i + length us) ≡ entry vs i
entry_after [] vs i =
    let e : i + 0 ≡ i = omega arith in
    ap (entry vs) e
entry_after (u ∷ us) vs i =
    let e : i + suc (length us) ≡ suc (i + length us) = omega arith in
    ap (entry (u ∷ (us ++ vs))) e ∙ entry_after us vs i

entry_opened : (ts us vs : List Term) (i : ℕ) → entry (ts ++ (us ++ vs)) (shift_var (length ts) (length us) i) ≡ entry (ts ++ vs) i
entry_opened [] us vs i = ap (entry (us ++ vs)) (shift_var_all (length us) i) ∙ entry_after us vs i
entry_opened (t ∷ ts) us vs zero =
    let e : shift_var (suc (length ts)) (length us) zero ≡ zero = grind (arith, nat_tests) in
    ap (entry (t ∷ (ts ++ (us ++ vs)))) e
entry_opened (t ∷ ts) us vs (suc i) =
    let e : shift_var (suc (length ts)) (length us) (suc i) ≡ suc (shift_var (length ts) (length us) i) = grind (arith, nat_tests) in
    ap (entry (t ∷ (ts ++ (us ++ vs)))) e ∙ entry_opened ts us vs i

pub subst-of_shift : (t : Term) (ts us vs : List Term) → substitute (shift t (length ts) (length us)) (ts ++ (us ++ vs)) ≡ substitute t (ts ++ vs)
subst-of_shift t ts us vs =
    inst-of_shift (entry (ts ++ (us ++ vs))) t (length ts) (length us) ∙ ap (λ τ. inst τ t) (fun_ext (entry_opened ts us vs))

-- Entries for all loose variables.
inst_entry : (σ : ℕ → Term) (ts : List Term) (i : ℕ) → i < length ts → inst σ (entry ts i) ≡ entry (map (inst σ) ts) i
inst_entry σ [] i h = absurd (omega arith)
inst_entry σ (t ∷ ts) zero h = refl
inst_entry σ (t ∷ ts) (suc i) h = inst_entry σ ts i (omega arith)

pub inst-of_subst : (σ : ℕ → Term) (t : Term) (ts : List Term) → loose t ≤ length ts → inst σ (substitute t ts) ≡ substitute t (map (inst σ) ts)
inst-of_subst σ t ts h =
    inst-inst σ (entry ts) t
    ∙ inst_below t (λ i. inst σ (entry ts i)) (entry (map (inst σ) ts)) (λ i k. inst_entry σ ts i (omega arith))

pub subst-closed : (t : Term) (ts : List Term) → loose t ≡ 0 → substitute t ts ≡ t
subst-closed t ts h = inst_closed t 0 (entry ts) (omega arith)

pub entry_given : (ts : List Term) (i : ℕ) (t : Term) → slice_get ts i ≡ Some t → entry ts i ≡ t
entry_given ts i t e = entry-get ts i t (sym (get_or_from_slice_get ts i t t e)) (slice_get_within ts i t e)

-- Arguments: the first one stands for the outermost variable.
map_reverse : (f : Term → Term) (ts : List Term) → map f (reverse ts) ≡ reverse (map f ts)
map_reverse f [] = refl
map_reverse f (t ∷ ts) =
    ap (map f) (reverse-append (t ∷ []) ts) ∙ map-append f (reverse ts) (t ∷ [])
    ∙ ap (λ us. us ++ f t ∷ []) (map_reverse f ts) ∙ sym (reverse-append (f t ∷ []) (map f ts))

pub fill_given : (ts : List Term) (i : ℕ) (t : Term) → slice_get ts i ≡ Some t → fill (var (length ts - 1 - i)) ts ≡ t
fill_given ts i t e =
    let h : i < length ts = slice_get_within ts i t e in
    let l : length (reverse ts) ≡ length ts = length-reverse ts in
    let k : length ts - 1 - (length ts - 1 - i) ≡ i = omega arith in
    let p = get_or-reverse ts (length ts - 1 - i) t (omega arith) in
    entry-get (reverse ts) (length ts - 1 - i) t (sym (p ∙ ap (λ j. get_or ts j t) k ∙ get_or_from_slice_get ts i t t e)) (omega arith)

pub fill_past : (ts : List Term) (i : ℕ) → fill (var (length ts + i)) ts ≡ var i
fill_past ts i =
    let l : length (reverse ts) ≡ length ts = length-reverse ts in
    let e : length ts + i - length (reverse ts) ≡ i = omega arith in
    entry-past (reverse ts) (length ts + i) (omega arith) ∙ ap var e

pub inst-of_fill : (σ : ℕ → Term) (t : Term) (ts : List Term) → loose t ≤ length ts → inst σ (fill t ts) ≡ fill t (map (inst σ) ts)
inst-of_fill σ t ts h =
    let l : length (reverse ts) ≡ length ts = length-reverse ts in
    inst-of_subst σ t (reverse ts) (omega arith) ∙ ap (substitute t) (map_reverse (inst σ) ts)

pub shift-of_fill : (t : Term) (ts : List Term) (from by : ℕ) → loose t ≤ length ts →
    shift (fill t ts) from by ≡ fill t (map (λ u. shift u from by) ts)
shift-of_fill t ts from by h =
    shift-inst (fill t ts) from by ∙ inst-of_fill (λ i. var (shift_var from by i)) t ts h
    ∙ ap (λ f. fill t (map f ts)) (fun_ext (λ u. sym (shift-inst u from by)))

pub retype-of_fill : (θ : ℕ → Ty) (t : Term) (ts : List Term) → retype θ (fill t ts) ≡ fill (retype θ t) (map (retype θ) ts)
retype-of_fill θ t ts =
    retype-inst θ (entry (reverse ts)) t
    ∙ ap (λ σ. inst σ (retype θ t)) (fun_ext (retype-entry θ (reverse ts)))
    ∙ ap (substitute (retype θ t)) (map_reverse (retype θ) ts)

-- A type instance reads its types below the parameters alone.
mutual
  pub type_inst_below : (a : Ty) (θ η : ℕ → Ty) → ((i : ℕ) → i < type_params a → θ i ≡ η i) → type_inst θ a ≡ type_inst η a
  type_inst_below Int θ η same = refl
  type_inst_below Bool θ η same = refl
  type_inst_below Prop θ η same = refl
  type_inst_below (Param i) θ η same = same i (omega arith)
  type_inst_below (pow a) θ η same = ap (λ x. pow x) (type_inst_below a θ η same)
  type_inst_below (prod a b) θ η same =
      ap (λ x. prod x (type_inst θ b)) (type_inst_below a θ η (λ i h. same i (omega (arith, h))))
      ∙ ap (λ x. prod (type_inst η a) x) (type_inst_below b θ η (λ i h. same i (omega (arith, h))))
  type_inst_below (Data name ts) θ η same = ap (Data name) (types_inst_below ts θ η same)

  pub types_inst_below : (ts : Tys) (θ η : ℕ → Ty) → ((i : ℕ) → i < types_params ts → θ i ≡ η i) → types_inst θ ts ≡ types_inst η ts
  types_inst_below Empty θ η same = refl
  types_inst_below (more a ts) θ η same =
      ap (λ x. more x (types_inst θ ts)) (type_inst_below a θ η (λ i h. same i (omega (arith, h))))
      ∙ ap (λ x. more (type_inst η a) x) (types_inst_below ts θ η (λ i h. same i (omega (arith, h))))

mutual
  pub retype_below : (t : Term) (θ η : ℕ → Ty) → ((i : ℕ) → i < params t → θ i ≡ η i) → retype θ t ≡ retype η t
  retype_below (var i) θ η same = refl
  retype_below (lit n) θ η same = refl
  retype_below (node s a ts) θ η same =
      let p = types_inst_below a θ η (λ i h. same i (omega (arith, h))) in
      let q = retypes_below ts θ η (λ i h. same i (omega (arith, h))) in cc

  pub retypes_below : (ts : Terms) (θ η : ℕ → Ty) → ((i : ℕ) → i < all_params ts → θ i ≡ η i) → retypes θ ts ≡ retypes η ts
  retypes_below nil θ η same = refl
  retypes_below (cons t ts) θ η same =
      let p = retype_below t θ η (λ i h. same i (omega (arith, h))) in
      let q = retypes_below ts θ η (λ i h. same i (omega (arith, h))) in cc

-- each parameter by itself changes nothing
mutual
  pub type_inst-id : (a : Ty) → type_inst (λ i. Param i) a ≡ a
  type_inst-id Int = refl
  type_inst-id Bool = refl
  type_inst-id Prop = refl
  type_inst-id (Param i) = refl
  type_inst-id (pow a) = ap (λ x. pow x) (type_inst-id a)
  type_inst-id (prod a b) = ap (λ x. prod x (type_inst (λ i. Param i) b)) (type_inst-id a) ∙ ap (λ x. prod a x) (type_inst-id b)
  type_inst-id (Data name ts) = ap (Data name) (types_inst-id ts)

  pub types_inst-id : (ts : Tys) → types_inst (λ i. Param i) ts ≡ ts
  types_inst-id Empty = refl
  types_inst-id (more a ts) = ap (λ x. more x (types_inst (λ i. Param i) ts)) (type_inst-id a) ∙ ap (λ x. more a x) (types_inst-id ts)

mutual
  pub retype-id : (t : Term) → retype (λ i. Param i) t ≡ t
  retype-id (var i) = refl
  retype-id (lit n) = refl
  retype-id (node s a ts) = let p = types_inst-id a in let q = retypes-id ts in cc

  pub retypes-id : (ts : Terms) → retypes (λ i. Param i) ts ≡ ts
  retypes-id nil = refl
  retypes-id (cons t ts) = let p = retype-id t in let q = retypes-id ts in cc

-- Two lists of types, one after the other.
type_at_inst : (θ : ℕ → Ty) (types : Tys) (i : ℕ) (d e : Ty) → i < length (type_list types) →
    unwrap_or (slice_get (type_list (types_inst θ types)) i) d ≡ type_inst θ (unwrap_or (slice_get (type_list types) i) e)
type_at_inst θ Empty i d e h = absurd (omega (arith, h))
type_at_inst θ (more a rest) zero d e h = refl
type_at_inst θ (more a rest) (suc i) d e h = type_at_inst θ rest i d e (omega (arith, h))

pub type_inst-list : (a : Ty) (first second : Tys) → type_params a ≤ length (type_list first) →
    type_inst (type_at second) (type_inst (type_at first) a) ≡ type_inst (type_at (types_inst (type_at second) first)) a
type_inst-list a first second h =
    type_inst-type_inst (type_at second) (type_at first) a
    ∙ type_inst_below a (λ i. type_inst (type_at second) (type_at first i)) (type_at (types_inst (type_at second) first))
    (λ i k. sym (type_at_inst (type_at second) first i (Param i) (Param i) (omega arith)))

pub instance-instance : (t : Term) (first second : Tys) → params t ≤ length (type_list first) →
    instance (instance t first) second ≡ instance t (types_inst (type_at second) first)
instance-instance t first second h =
    retype-retype (type_at second) (type_at first) t
    ∙ retype_below t (λ i. type_inst (type_at second) (type_at first i)) (type_at (types_inst (type_at second) first))
    (λ i k. sym (type_at_inst (type_at second) first i (Param i) (Param i) (omega arith)))

mutual
  pub params-shift : (t : Term) (from by : ℕ) → params (shift t from by) ≡ params t
  params-shift (var i) from by = refl
  params-shift (lit n) from by = refl
  params-shift (node s a ts) from by = ap (λ k. max (types_params a) k) (all_params-shifts ts (from + binds s) by)

  pub all_params-shifts : (ts : Terms) (from by : ℕ) → all_params (shifts ts from by) ≡ all_params ts
  all_params-shifts nil from by = refl
  all_params-shifts (cons t ts) from by = let p = params-shift t from by in let q = all_params-shifts ts from by in omega arith
