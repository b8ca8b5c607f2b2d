-- Unfolding commutes with shift, substitution and type instance, in terms that give each direct operator as many types and arguments
-- as its body wants.
use Rattle.std.specs.Prelude.{◌≡◌, ◌+◌, ◌++◌, ◌<◌, ℕ, zero, suc, List, [], ◌∷◌, Option, Some, None, map, length, reverse, slice_get, refl}
use Rattle.std.specs.Option.{unwrap_or}
use Rattle.std.specs.List.{AllByRecursion}
use Rattle.std.proofs.Common.{ap, sym, ◌∙◌, subst as transport, arith, add-zero}
use Rattle.std.proofs.Math.Path.{fun_ext}
use Rattle.std.proofs.lemmas.List.{length-map, reverse-append}
use Rattle.ev_terms.specs.declared.types.Ty.{Ty, Param}
use Rattle.ev_terms.specs.declared.types.Tys.{Tys}
use Rattle.ev_terms.specs.declared.types.Sym.{Sym}
use Rattle.ev_terms.specs.declared.types.Sym.TheVariants.{Base, User}
use Rattle.ev_terms.specs.Types.{type_list}
use Rattle.ev_terms.specs.Term.{Term, Terms, var, lit, node, nil, cons, term_list}
use Rattle.ev_terms.specs.Symbols.{binds}
use Rattle.ev_terms.specs.Measures.{loose, params}
use Rattle.ev_terms.specs.Substitution.{shift, shifts, lift, lifts, inst, insts, entry, substitute, fill, retype, retypes, instance, type_inst, types_inst, type_at}
use Rattle.ev_terms.proofs.AnyLaws.{inst-of_fill, shift-of_fill, retype-of_fill, retype_below}
use Rattle.ev_terms.proofs.ListLaws.{retype-retype}
use Rattle.ev_terms.proofs.Sizes.{loose-retype}
use Rattle.ev_typing.proofs.TypeInstances.{type_list-types_inst}
use Rattle.ev_ops.specs.Unfold.{Bodies, body_of, unfolded_node, unfold_by, unfold_all_by}
pub use Rattle.ev_ops.specs.inner.Fit.{FitsBody, IsFit, AreFit}

-- as many arguments as there are children
abbrev count : Terms → ℕ
count ts = length (term_list ts)

shifts_count : (ts : Terms) (f b : ℕ) → count (shifts ts f b) ≡ count ts
shifts_count nil f b = refl
shifts_count (cons t ts) f b = ap suc (shifts_count ts f b)

insts_count : (σ : ℕ → Term) (ts : Terms) → count (insts σ ts) ≡ count ts
insts_count σ nil = refl
insts_count σ (cons t ts) = ap suc (insts_count σ ts)

shifts_list : (ts : Terms) (f b : ℕ) → term_list (shifts ts f b) ≡ map (λ t. shift t f b) (term_list ts)
shifts_list nil f b = refl
shifts_list (cons t ts) f b = ap (λ us. shift t f b ∷ us) (shifts_list ts f b)

insts_list : (σ : ℕ → Term) (ts : Terms) → term_list (insts σ ts) ≡ map (inst σ) (term_list ts)
insts_list σ nil = refl
insts_list σ (cons t ts) = ap (λ us. inst σ t ∷ us) (insts_list σ ts)

retypes_list : (θ : ℕ → Ty) (ts : Terms) → term_list (retypes θ ts) ≡ map (retype θ) (term_list ts)
retypes_list θ nil = refl
retypes_list θ (cons t ts) = ap (λ us. retype θ t ∷ us) (retypes_list θ ts)

-- the types put in a list of types
type_at_inst : (θ : ℕ → Ty) (As : List Ty) (i : ℕ) → i < length As → unwrap_or (slice_get (map (type_inst θ) As) i) (Param i) ≡ type_inst θ (unwrap_or (slice_get As i) (Param i))
type_at_inst θ [] i h = absurd (omega arith)
type_at_inst θ (A ∷ As) zero h = refl
type_at_inst θ (A ∷ As) (suc i) h = later As i (omega arith)
  where
    later : (Bs : List Ty) (j : ℕ) → j < length Bs → unwrap_or (slice_get (map (type_inst θ) Bs) j) (Param (suc i)) ≡ type_inst θ (unwrap_or (slice_get Bs j) (Param (suc i)))
    later [] j k = absurd (omega arith)
    later (B ∷ Bs) zero k = refl
    later (B ∷ Bs) (suc j) k = later Bs j (omega arith)

module _ (bs : Bodies) where
  unfold_count : (ts : Terms) → count (unfold_all_by bs ts) ≡ count ts
  unfold_count nil = refl
  unfold_count (cons t ts) = ap suc (unfold_count ts)

  no_binder : (s : Sym) (B : Term) → body_of bs s ≡ Some B → binds s ≡ 0
  unfolding binds
  no_binder (Base k) B e = cc
  no_binder (User n) B e = refl

  -- shifts
  mutual
    pub shift_fit : (t : Term) (f b : ℕ) → IsFit bs t → IsFit bs (shift t f b)
    shift_fit (var i) f b h = tt
    shift_fit (lit n) f b h = tt
    shift_fit (node s As ts) f b h = ((λ B e. transport (FitsBody B As) (sym (shifts_count ts (f + binds s) b)) (h.0 B e)), shifts_fit ts (f + binds s) b h.1)

    shifts_fit : (ts : Terms) (f b : ℕ) → AreFit bs ts → AreFit bs (shifts ts f b)
    shifts_fit nil f b h = tt
    shifts_fit (cons t ts) f b h = (shift_fit t f b h.0, shifts_fit ts f b h.1)

  loose_instance : (B : Term) (As : Tys) → loose (instance B As) ≡ loose B
  loose_instance B As = loose-retype B (type_at As)

  node_shift : (s : Sym) (As : Tys) (us : Terms) (f b : ℕ) (o : Option Term) → ((B : Term) → o ≡ Some B → FitsBody B As (count us)) → ((B : Term) → o ≡ Some B → binds s ≡ 0) →
      unfolded_node o s As (shifts us (f + binds s) b) ≡ shift (unfolded_node o s As us) f b
  node_shift s As us f b None h z = refl
  node_shift s As us f b (Some B) h z =
      ap (fill (instance B As)) (ap (λ k. term_list (shifts us (f + k) b)) (z B refl) ∙ ap (λ k. term_list (shifts us k b)) (add-zero f) ∙ shifts_list us f b)
      ∙ sym (shift-of_fill (instance B As) (term_list us) f b (let k = (h B refl).arguments in omega (arith, k, loose_instance B As)))

  mutual
    pub unfold_shift : (t : Term) (f b : ℕ) → IsFit bs t → unfold_by bs (shift t f b) ≡ shift (unfold_by bs t) f b
    unfold_shift (var i) f b h = refl
    unfold_shift (lit n) f b h = refl
    unfold_shift (node s As ts) f b h =
        ap (unfolded_node (body_of bs s) s As) (unfold_shifts ts (f + binds s) b h.1)
        ∙ node_shift s As (unfold_all_by bs ts) f b (body_of bs s) (λ B e. transport (FitsBody B As) (sym (unfold_count ts)) (h.0 B e)) (no_binder s)

    unfold_shifts : (ts : Terms) (f b : ℕ) → AreFit bs ts → unfold_all_by bs (shifts ts f b) ≡ shifts (unfold_all_by bs ts) f b
    unfold_shifts nil f b h = refl
    unfold_shifts (cons t ts) f b h = let p = unfold_shift t f b h.0 in let q = unfold_shifts ts f b h.1 in cc

  -- substitutions
  abbrev pub AllFit : (ℕ → Term) → Type 0
  AllFit σ = (i : ℕ) → IsFit bs (σ i)

  abbrev unfolds : (ℕ → Term) → ℕ → Term
  unfolds σ i = unfold_by bs (σ i)

  lift_fit : (σ : ℕ → Term) → AllFit σ → AllFit (lift σ)
  lift_fit σ h zero = tt
  lift_fit σ h (suc i) = shift_fit (σ i) 0 1 (h i)

  lifts_fit : (n : ℕ) (σ : ℕ → Term) → AllFit σ → AllFit (lifts n σ)
  lifts_fit zero σ h i = h i
  lifts_fit (suc n) σ h i = lift_fit (lifts n σ) (lifts_fit n σ h) i

  unfold_lift : (σ : ℕ → Term) → AllFit σ → (i : ℕ) → unfolds (lift σ) i ≡ lift (unfolds σ) i
  unfold_lift σ h zero = refl
  unfold_lift σ h (suc i) = unfold_shift (σ i) 0 1 (h i)

  unfold_lifts : (n : ℕ) (σ : ℕ → Term) → AllFit σ → unfolds (lifts n σ) ≡ lifts n (unfolds σ)
  unfold_lifts zero σ h = refl
  unfold_lifts (suc n) σ h = fun_ext (unfold_lift (lifts n σ) (lifts_fit n σ h)) ∙ ap lift (unfold_lifts n σ h)

  node_inst : (s : Sym) (As : Tys) (us : Terms) (σ : ℕ → Term) (o : Option Term) → ((B : Term) → o ≡ Some B → FitsBody B As (count us)) → ((B : Term) → o ≡ Some B → binds s ≡ 0) →
      unfolded_node o s As (insts (lifts (binds s) σ) us) ≡ inst σ (unfolded_node o s As us)
  node_inst s As us σ None h z = refl
  node_inst s As us σ (Some B) h z =
      ap (fill (instance B As)) (ap (λ k. term_list (insts (lifts k σ) us)) (z B refl) ∙ insts_list σ us)
      ∙ sym (inst-of_fill σ (instance B As) (term_list us) (let k = (h B refl).arguments in omega (arith, k, loose_instance B As)))

  mutual
    pub unfold_inst : (t : Term) (σ : ℕ → Term) → AllFit σ → IsFit bs t → unfold_by bs (inst σ t) ≡ inst (unfolds σ) (unfold_by bs t)
    unfold_inst (var i) σ g h = refl
    unfold_inst (lit n) σ g h = refl
    unfold_inst (node s As ts) σ g h =
        ap (unfolded_node (body_of bs s) s As) (unfold_insts ts (lifts (binds s) σ) (lifts_fit (binds s) σ g) h.1 ∙ ap (λ τ. insts τ (unfold_all_by bs ts)) (unfold_lifts (binds s) σ g))
        ∙ node_inst s As (unfold_all_by bs ts) (unfolds σ) (body_of bs s) (λ B e. transport (FitsBody B As) (sym (unfold_count ts)) (h.0 B e)) (no_binder s)

    unfold_insts : (ts : Terms) (σ : ℕ → Term) → AllFit σ → AreFit bs ts → unfold_all_by bs (insts σ ts) ≡ insts (unfolds σ) (unfold_all_by bs ts)
    unfold_insts nil σ g h = refl
    unfold_insts (cons t ts) σ g h = let p = unfold_inst t σ g h.0 in let q = unfold_insts ts σ g h.1 in cc

  -- terms in a list
  pub entry_fit : (ts : List Term) → AllByRecursion (IsFit bs) ts → AllFit (entry ts)
  entry_fit [] h i = tt
  entry_fit (t ∷ ts) h zero = h.0
  entry_fit (t ∷ ts) h (suc i) = entry_fit ts h.1 i

  entry_unfolded : (ts : List Term) (i : ℕ) → unfold_by bs (entry ts i) ≡ entry (map (unfold_by bs) ts) i
  entry_unfolded [] i = refl
  entry_unfolded (t ∷ ts) zero = refl
  entry_unfolded (t ∷ ts) (suc i) = entry_unfolded ts i

  pub unfold_subst : (t : Term) (ts : List Term) → AllByRecursion (IsFit bs) ts → IsFit bs t → unfold_by bs (substitute t ts) ≡ substitute (unfold_by bs t) (map (unfold_by bs) ts)
  unfold_subst t ts g h = unfold_inst t (entry ts) (entry_fit ts g) h ∙ ap (λ σ. inst σ (unfold_by bs t)) (fun_ext (entry_unfolded ts))

  fit_reverse : (ts us : List Term) → AllByRecursion (IsFit bs) ts → AllByRecursion (IsFit bs) us → AllByRecursion (IsFit bs) (ts ++ us)
  fit_reverse [] us h k = k
  fit_reverse (t ∷ ts) us h k = (h.0, fit_reverse ts us h.1 k)

  pub reverse_fit : (ts : List Term) → AllByRecursion (IsFit bs) ts → AllByRecursion (IsFit bs) (reverse ts)
  reverse_fit [] h = tt
  reverse_fit (t ∷ ts) h = transport (AllByRecursion (IsFit bs)) (sym (reverse-append (t ∷ []) ts)) (fit_reverse (reverse ts) (t ∷ []) (reverse_fit ts h.1) (h.0, tt))

  map_append : (ts us : List Term) → map (unfold_by bs) (ts ++ us) ≡ map (unfold_by bs) ts ++ map (unfold_by bs) us
  map_append [] us = refl
  map_append (t ∷ ts) us = ap (λ vs. unfold_by bs t ∷ vs) (map_append ts us)

  pub map_reverse : (ts : List Term) → map (unfold_by bs) (reverse ts) ≡ reverse (map (unfold_by bs) ts)
  map_reverse [] = refl
  map_reverse (t ∷ ts) =
      ap (map (unfold_by bs)) (reverse-append (t ∷ []) ts) ∙ map_append (reverse ts) (t ∷ []) ∙ ap (λ vs. vs ++ unfold_by bs t ∷ []) (map_reverse ts)
      ∙ sym (reverse-append (unfold_by bs t ∷ []) (map (unfold_by bs) ts))

  pub unfold_fill : (t : Term) (ts : List Term) → AllByRecursion (IsFit bs) ts → IsFit bs t → unfold_by bs (fill t ts) ≡ fill (unfold_by bs t) (map (unfold_by bs) ts)
  unfold_fill t ts g h = unfold_subst t (reverse ts) (reverse_fit ts g) h ∙ ap (substitute (unfold_by bs t)) (map_reverse ts)

  pub list_fit : (ts : Terms) → AreFit bs ts → AllByRecursion (IsFit bs) (term_list ts)
  list_fit nil h = tt
  list_fit (cons t ts) h = (h.0, list_fit ts h.1)

  -- type instances
  node_retype : (s : Sym) (As : Tys) (us : Terms) (θ : ℕ → Ty) (o : Option Term) → ((B : Term) → o ≡ Some B → FitsBody B As (count us)) →
      unfolded_node o s (types_inst θ As) (retypes θ us) ≡ retype θ (unfolded_node o s As us)
  node_retype s As us θ None h = refl
  node_retype s As us θ (Some B) h =
      ap (λ x. fill x (term_list (retypes θ us))) (sym (retype-retype θ (type_at As) B ∙ retype_below B (λ i. type_inst θ (type_at As i)) (type_at (types_inst θ As)) same))
      ∙ ap (fill (retype θ (instance B As))) (retypes_list θ us) ∙ sym (retype-of_fill θ (instance B As) (term_list us))
    where
      same : (i : ℕ) → i < params B → type_inst θ (type_at As i) ≡ type_at (types_inst θ As) i
      same i k =
          let p = (h B refl).parameters in
          sym (type_at_inst θ (type_list As) i (omega (arith, k, p))) ∙ ap (λ xs. unwrap_or (slice_get xs i) (Param i)) (sym (type_list-types_inst θ As))

  types_count : (θ : ℕ → Ty) (As : Tys) → length (type_list (types_inst θ As)) ≡ length (type_list As)
  types_count θ As = ap length (type_list-types_inst θ As) ∙ length-map (type_list As) (type_inst θ)

  retypes_count : (θ : ℕ → Ty) (ts : Terms) → count (retypes θ ts) ≡ count ts
  retypes_count θ nil = refl
  retypes_count θ (cons t ts) = ap suc (retypes_count θ ts)

  fits_retyped : (B : Term) (As As' : Tys) (n m : ℕ) → length (type_list As') ≡ length (type_list As) → m ≡ n → FitsBody B As n → FitsBody B As' m
  fits_retyped B As As' n m e f h = let a = h.arguments in let p = h.parameters in record { arguments = omega (arith, a, f); parameters = omega (arith, p, e) }

  mutual
    pub retype_fit : (t : Term) (θ : ℕ → Ty) → IsFit bs t → IsFit bs (retype θ t)
    retype_fit (var i) θ h = tt
    retype_fit (lit n) θ h = tt
    retype_fit (node s As ts) θ h = ((λ B e. fits_retyped B As (types_inst θ As) (count ts) (count (retypes θ ts)) (types_count θ As) (retypes_count θ ts) (h.0 B e)), retypes_fit ts θ h.1)

    retypes_fit : (ts : Terms) (θ : ℕ → Ty) → AreFit bs ts → AreFit bs (retypes θ ts)
    retypes_fit nil θ h = tt
    retypes_fit (cons t ts) θ h = (retype_fit t θ h.0, retypes_fit ts θ h.1)

  mutual
    pub unfold_retype : (t : Term) (θ : ℕ → Ty) → IsFit bs t → unfold_by bs (retype θ t) ≡ retype θ (unfold_by bs t)
    unfold_retype (var i) θ h = refl
    unfold_retype (lit n) θ h = refl
    unfold_retype (node s As ts) θ h =
        ap (unfolded_node (body_of bs s) s (types_inst θ As)) (unfold_retypes ts θ h.1)
        ∙ node_retype s As (unfold_all_by bs ts) θ (body_of bs s) (λ B e. transport (FitsBody B As) (sym (unfold_count ts)) (h.0 B e))

    unfold_retypes : (ts : Terms) (θ : ℕ → Ty) → AreFit bs ts → unfold_all_by bs (retypes θ ts) ≡ retypes θ (unfold_all_by bs ts)
    unfold_retypes nil θ h = refl
    unfold_retypes (cons t ts) θ h = let p = unfold_retype t θ h.0 in let q = unfold_retypes ts θ h.1 in cc
