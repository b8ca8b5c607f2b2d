-- The weights of a body, with those of the types and the arguments of an application, are the weight of the application unfolded.
use Rattle.std.proofs.Common.{◌≡◌, ℕ, zero, suc, ◌+◌, ◌-◌, ◌≤◌, ◌<◌, Bool, true, false, cond, List, [], ◌∷◌, ◌++◌, Option, Some, None, length, map, take, drop, get_or, reverse, slice_get, refl, sym, ap, ◌∙◌, subst as transport, arith}
use Rattle.std.specs.Prelude.{bytes_eq, flat_map}
use Rattle.std.specs.List.{IsDistinct}
use Rattle.std.specs.Option.{unwrap_or}
use Rattle.std.specs.HashMap.{HashMap, get}
use Rattle.std.proofs.lemmas.List.{reverse-append, length-reverse}
use Rattle.std.proofs.lemmas.Grind.{flat_map-append}
use Rattle.indexmap.specs.IndexMap.{insert_entry}
use Rattle.indexmap.proofs.CallerLemmas.{insert_entry-new}
use Rattle.ev_terms.specs.declared.types.Ty.{Ty, Param}
use Rattle.ev_terms.specs.declared.types.Tys.{Tys}
use Rattle.ev_terms.specs.declared.types.Sym.{Sym}
use Rattle.ev_terms.specs.declared.types.Sym.TheVariants.{Base, User}
use Rattle.ev_terms.specs.Types.{type_list}
use Rattle.ev_terms.specs.Term.{Term, Terms, var, lit, node, terms, term_list}
use Rattle.ev_terms.specs.Symbols.{binds}
use Rattle.ev_terms.specs.Measures.{capped, loose, params, size, depth}
use Rattle.ev_terms.specs.declared.extents.Extent.{Extent}
use Rattle.ev_terms.specs.Substitution.{entry, fill, instance, type_at}
use Rattle.ev_terms.proofs.Children as children
use Rattle.ev_typing.specs.declared.typing.Entry.{Entry}
use Rattle.ev_typing.specs.declared.typing.Entry.TheVariants.{Direct}
use Rattle.ev_typing.specs.declared.typing.Signature.{Signature}
use Rattle.ev_typing.specs.Env.{Env, Name, look_up, names}
use Rattle.ev_typing.specs.WellFormed.{IsWellFormed, AreGoodAfter}
use Rattle.ev_typing.proofs.Entries.{distinct_left}
use Rattle.ev_ops.specs.Unfold.{Bodies, body_of, unfolded_node, unfold_by, unfold_all_by, bodies_after}
use Rattle.ev_ops.specs.declared.weights.Weight.{Weight}
use Rattle.ev_ops.specs.declared.weights.Weights.{Weights}
use Rattle.ev_ops.specs.inner.Fit.{FitsBody, IsFit, AreFit}
use Rattle.ev_ops.specs.inner.Weights.{IsAlike, nothing, whole, child, beside, within, filled_with, zipped, total, weigh, weigh_all, weigh_type, weigh_types, IsOwnFrom, ArePlaces, AreWeightsOf, IsAdded, HaveWeights, AreWeighed, weights_of}
use Rattle.ev_ops.proofs.Commuting.{map_reverse}
use Rattle.ev_ops.proofs.Kept.{kept, take_last, split_from, take_more}
use Rattle.ev_ops.proofs.Basics.{typed_loose}
use Rattle.ev_ops.proofs.Fitting.{fit_of, unfold_loose, unfold_params}
use Rattle.ev_ops.proofs.UnfoldEquation.{bodies_after-append, good_at, not_yet}
use Rattle.ev_ops.proofs.WeightLaws.{alike, alike_then, beside_beside, whole_within, nothing_beside, within_nothing, beside_nothing, added_nothing, zipped_step, zipped_end, added_same, added_then, added_node}
use Rattle.ev_ops.proofs.Weighing.{ones, weigh-reads, weigh-filled, weigh_size, weigh_depth}

-- Weights that stand at the first places, and whole ones behind them.
abbrev item : List Weight → ℕ → Weight
item xs i = unwrap_or (slice_get xs i) nothing

filled_nothing : (ws : List Weight) → filled_with ws (λ i. nothing) ≡ nothing
filled_nothing [] = refl
filled_nothing (w ∷ ws) = ap (beside (within w nothing)) (filled_nothing ws) ∙ none_of w
  where
    none_of : (x : Weight) → beside (within x nothing) nothing ≡ nothing
    none_of x = beside_nothing (within x nothing) ∙ within_nothing x

zipped_filled : (ws xs : List Weight) → zipped ws xs ≡ filled_with ws (item xs)
zipped_filled [] xs = refl
zipped_filled (w ∷ ws) [] = sym (filled_nothing (w ∷ ws))
zipped_filled (w ∷ ws) (x ∷ xs) = ap (beside (within w x)) (zipped_filled ws xs)

abbrev cut : ℕ → (ℕ → Weight) → ℕ → Weight
cut zero f i = whole
cut (suc n) f zero = f 0
cut (suc n) f (suc i) = cut n (λ j. f (suc j)) i

filled_cut : (ws : List Weight) (f : ℕ → Weight) → filled_with ws (cut (length ws) f) ≡ filled_with ws f
filled_cut [] f = refl
filled_cut (w ∷ ws) f = ap (beside (within w (f 0))) (filled_cut ws (λ j. f (suc j)))

own_cut : (n : ℕ) (f : ℕ → Weight) → IsOwnFrom n (cut n f)
own_cut zero f i h = refl
own_cut (suc n) f zero h = absurd (omega (arith, h))
own_cut (suc n) f (suc i) h = own_cut n (λ j. f (suc j)) i (omega (arith, h))

in_cut : (n : ℕ) (f : ℕ → Weight) (i : ℕ) → i < n → cut n f i ≡ f i
in_cut zero f i h = absurd (omega (arith, h))
in_cut (suc n) f zero h = refl
in_cut (suc n) f (suc i) h = in_cut n (λ j. f (suc j)) i (omega (arith, h))

item_type : (g : Ty → Weight) (As : List Ty) (d : Ty) (i : ℕ) → i < length As → item (map g As) i ≡ g (unwrap_or (slice_get As i) d)
item_type g [] d i h = absurd (omega (arith, h))
item_type g (A ∷ As) d zero h = refl
item_type g (A ∷ As) d (suc i) h = item_type g As d i (omega (arith, h))

item_term : (g : Term → Weight) (f : Term → Term) (ts : List Term) (i : ℕ) → i < length ts → item (map (λ u. g (f u)) ts) i ≡ g (entry (map f ts) i)
item_term g f [] i h = absurd (omega (arith, h))
item_term g f (t ∷ ts) zero h = refl
item_term g f (t ∷ ts) (suc i) h = item_term g f ts i (omega (arith, h))

-- An application.
unfold_list : (bs : Bodies) (ts : List Term) → term_list (unfold_all_by bs (terms ts)) ≡ map (unfold_by bs) ts
unfold_list bs [] = refl
unfold_list bs (t ∷ ts) = ap (λ us. unfold_by bs t ∷ us) (unfold_list bs ts)

module _ (bs : Bodies) (n : ℕ) (B : Term) (As : Tys) (ts : List Term) (K : Weights) (h : AreWeightsOf B K) (f : FitsBody B As (length ts)) (τ ω : ℕ → Weight) where
  abbrev type_weights : List Weight
  type_weights = map (weigh_type τ) (type_list As)

  abbrev term_weights : List Weight
  term_weights = map (λ u. weigh τ ω n (unfold_by bs u)) (reverse ts)

  abbrev the_types : ℕ → Weight
  the_types = cut (length K.types.items) (item type_weights)

  abbrev the_terms : ℕ → Weight
  the_terms = cut (length K.variables.items) (item term_weights)

  zips_total : beside (beside K.own (zipped K.types.items type_weights)) (zipped K.variables.items term_weights) ≡ total the_types the_terms K
  zips_total =
      beside_beside K.own (zipped K.types.items type_weights) (zipped K.variables.items term_weights)
      ∙ ap (λ x. beside K.own (beside x (zipped K.variables.items term_weights))) (zipped_filled K.types.items type_weights ∙ sym (filled_cut K.types.items (item type_weights)))
      ∙ ap (λ x. beside K.own (beside (filled_with K.types.items the_types) x)) (zipped_filled K.variables.items term_weights ∙ sym (filled_cut K.variables.items (item term_weights)))

  same_type : (j : ℕ) → j < params B → the_types j ≡ weigh_type τ (type_at As j)
  same_type j k =
      let a = h.parameters in
      let b = f.parameters in
      in_cut (length K.types.items) (item type_weights) j (omega (arith, a, k)) ∙ item_type (weigh_type τ) (type_list As) (Param j) j (omega (arith, b, k))

  same_term : (i : ℕ) → i < loose B - 0 → the_terms i ≡ weigh τ ω n (entry (reverse (map (unfold_by bs) ts)) i)
  same_term i k =
      let a = h.variables in
      let b = f.arguments in
      in_cut (length K.variables.items) (item term_weights) i (omega (arith, a, k))
      ∙ item_term (weigh τ ω n) (unfold_by bs) (reverse ts) i (omega (arith, b, k, length-reverse ts))
      ∙ ap (λ us. weigh τ ω n (entry us i)) (map_reverse bs ts)

  pub application_weight : IsAlike (beside (beside K.own (zipped K.types.items (map (weigh_type τ) (type_list As)))) (zipped K.variables.items (map (λ u. weigh τ ω n (unfold_by bs u)) (reverse ts))))
      (weigh τ ω n (fill (instance B As) (map (unfold_by bs) ts)))
  application_weight =
      alike_then _ (total the_types the_terms K) _ (alike _ _ zips_total)
      (alike_then (total the_types the_terms K) (weigh the_types the_terms 0 B) _
      (h.comes_to the_types the_terms (own_cut (length K.types.items) (item type_weights)) (own_cut (length K.variables.items) (item term_weights)))
      (alike _ _ (weigh-reads the_types (λ j. weigh_type τ (type_at As j)) the_terms (λ i. weigh τ ω n (entry (reverse (map (unfold_by bs) ts)) i)) 0 B same_type same_term
      ∙ sym (weigh-filled τ ω n B As (map (unfold_by bs) ts)))))

-- The bodies and their weights under a symbol.
body_weights : (bs : Bodies) (ws : List (Name × Weights)) (s : Sym) → AreWeighed bs ws → HaveWeights (body_of bs s) (weights_of ws s)
body_weights bs ws (Base k) h = tt
body_weights bs ws (User n) h = h n

no_body : (o : Option Term) (p : Option Weights) → HaveWeights o p → None ≡ p → o ≡ None
no_body None p h e = refl
no_body (Some B) None h e = absurd h
no_body (Some B) (Some S) h e = cc

some_body : (o : Option Term) (p : Option Weights) (K : Weights) → HaveWeights o p → Some K ≡ p → (B : Term) × (o ≡ Some B) × AreWeightsOf B K
some_body None None K h e = cc
some_body None (Some S) K h e = absurd h
some_body (Some B) None K h e = absurd h
some_body (Some B) (Some S) K h e = let q : S ≡ K = cc in (B, refl, transport (AreWeightsOf B) q h)

-- What the walk adds at a node.
pub operator_added : (bs : Bodies) (ws : List (Name × Weights)) (n : ℕ) (t : Term) (s : Sym) (As : Tys) (ts : List Term) (at : Weight) (K S S' S'' : Weights) →
    t ≡ node s As (terms ts) → Some K ≡ weights_of ws s → AreWeighed bs ws → IsFit bs t →
    IsAdded S S' at (λ τ ω. beside K.own (zipped K.types.items (map (weigh_type τ) (type_list As)))) →
    (AreFit bs (terms ts) → IsAdded S' S'' at (λ τ ω. zipped K.variables.items (map (λ u. weigh τ ω n (unfold_by bs u)) (reverse ts)))) →
    IsAdded S S'' at (λ τ ω. weigh τ ω n (unfold_by bs t))
operator_added bs ws n t s As ts at K S S' S'' e k w fit h g =
    let b = some_body (body_of bs s) (weights_of ws s) K (body_weights bs ws s w) k in
    let fits : IsFit bs (node s As (terms ts)) = transport (IsFit bs) e fit in
    let args : FitsBody b.0 As (length ts) = transport (FitsBody b.0 As) (ap length (listed ts)) (fits.0 b.0 b.1) in
    let same : unfold_by bs t ≡ fill (instance b.0 As) (map (unfold_by bs) ts) =
    ap (unfold_by bs) e ∙ ap (λ o. unfolded_node o s As (unfold_all_by bs (terms ts))) b.1 ∙ ap (fill (instance b.0 As)) (unfold_list bs ts) in
    added_same S S'' at
    (λ τ ω. beside (beside K.own (zipped K.types.items (map (weigh_type τ) (type_list As)))) (zipped K.variables.items (map (λ u. weigh τ ω n (unfold_by bs u)) (reverse ts))))
    (λ τ ω. weigh τ ω n (unfold_by bs t))
    (λ τ ω. alike_then _ _ _ (application_weight bs n b.0 As ts K b.2 args τ ω) (alike _ _ (ap (weigh τ ω n) (sym same))))
    (added_then S S' S'' at (λ τ ω. beside K.own (zipped K.types.items (map (weigh_type τ) (type_list As))))
    (λ τ ω. zipped K.variables.items (map (λ u. weigh τ ω n (unfold_by bs u)) (reverse ts))) h (g fits.1))
  where
    listed : (us : List Term) → term_list (terms us) ≡ us
    listed [] = refl
    listed (u ∷ us) = ap (λ vs. u ∷ vs) (listed us)

capped_more : (n b u m : ℕ) → u ≡ capped n → m ≡ capped (u + b) → m ≡ capped (n + b)
capped_more n b u m e f = omega (arith, e, f)

pub plain_added : (bs : Bodies) (ws : List (Name × Weights)) (n under deeper : ℕ) (t : Term) (s : Sym) (As : Tys) (ts : List Term) (at inside : Weight) (S S' S'' S''' : Weights) →
    t ≡ node s As (terms ts) → None ≡ weights_of ws s → AreWeighed bs ws → IsFit bs t → under ≡ capped n → deeper ≡ capped (under + binds s) →
    IsAdded S S' at (λ τ ω. whole) → IsAlike inside (within at child) → IsAdded S' S'' inside (λ τ ω. weigh_types τ As) →
    ((m : ℕ) → AreFit bs (terms ts) → deeper ≡ capped m → IsAdded S'' S''' inside (λ τ ω. weigh_all τ ω m (unfold_all_by bs (terms ts)))) →
    IsAdded S S''' at (λ τ ω. weigh τ ω n (unfold_by bs t))
plain_added bs ws n under deeper t s As ts at inside S S' S'' S''' e k w fit u d own low types rest =
    let fits : IsFit bs (node s As (terms ts)) = transport (IsFit bs) e fit in
    let o = no_body (body_of bs s) (weights_of ws s) (body_weights bs ws s w) k in
    let same : unfold_by bs t ≡ node s As (unfold_all_by bs (terms ts)) = ap (unfold_by bs) e ∙ ap (λ p. unfolded_node p s As (unfold_all_by bs (terms ts))) o in
    transport (λ x. IsAdded S S''' at (λ τ ω. weigh τ ω n x)) (sym same)
    (added_node S S' S''' at inside (λ τ ω. beside (weigh_types τ As) (weigh_all τ ω (n + binds s) (unfold_all_by bs (terms ts)))) own low
    (added_then S' S'' S''' inside (λ τ ω. weigh_types τ As) (λ τ ω. weigh_all τ ω (n + binds s) (unfold_all_by bs (terms ts))) types
    (rest (n + binds s) fits.1 (capped_more n (binds s) under deeper u d))))

leaf_same : (bs : Bodies) (t : Term) → ((s : Sym) (As : Tys) (ts : Terms) → t ≡ node s As ts → ⊥) → unfold_by bs t ≡ t
leaf_same bs (var i) h = refl
leaf_same bs (lit k) h = refl
leaf_same bs (node s As ts) h = absurd (h s As ts refl)

pub leaf_added : (bs : Bodies) (n : ℕ) (t : Term) (at : Weight) (S S' : Weights) → ((s : Sym) (As : Tys) (ts : Terms) → t ≡ node s As ts → ⊥) →
    IsAdded S S' at (λ τ ω. weigh τ ω n t) → IsAdded S S' at (λ τ ω. weigh τ ω n (unfold_by bs t))
leaf_added bs n t at S S' h k = transport (λ x. IsAdded S S' at (λ τ ω. weigh τ ω n x)) (sym (leaf_same bs t h)) k

-- A walk along lists.
fit_at : (bs : Bodies) (ts : List Term) (i : ℕ) (t : Term) → AreFit bs (terms ts) → t ≡ get_or ts i t → i < length ts → IsFit bs t
fit_at bs [] i t h e k = absurd (omega (arith, k))
fit_at bs (u ∷ us) zero t h e k = transport (IsFit bs) (sym e) h.0
fit_at bs (u ∷ us) (suc i) t h e k = fit_at bs us i t h.1 e (omega (arith, k))

pub trees_step : (bs : Bodies) (ts : List Term) (i n : ℕ) (t : Term) (at : Weight) (S S' new : Weights) → AreFit bs (terms ts) → t ≡ get_or ts i t → i < length ts →
    (IsFit bs t → IsAdded S S' at (λ τ ω. weigh τ ω n (unfold_by bs t))) →
    IsAdded S' new at (λ τ ω. weigh_all τ ω n (unfold_all_by bs (terms (drop (i + 1) ts)))) → IsAdded S new at (λ τ ω. weigh_all τ ω n (unfold_all_by bs (terms (drop i ts))))
trees_step bs ts i n t at S S' new f e h a b =
    transport (λ us. IsAdded S new at (λ τ ω. weigh_all τ ω n (unfold_all_by bs (terms us)))) (sym (children.drop_at ts i t e h))
    (added_then S S' new at (λ τ ω. weigh τ ω n (unfold_by bs t)) (λ τ ω. weigh_all τ ω n (unfold_all_by bs (terms (drop (i + 1) ts)))) (a (fit_at bs ts i t f e h)) b)

pub trees_end : (bs : Bodies) (ts : List Term) (i n : ℕ) (at : Weight) (S : Weights) → length ts ≤ i → IsAdded S S at (λ τ ω. weigh_all τ ω n (unfold_all_by bs (terms (drop i ts))))
trees_end bs ts i n at S h = transport (λ us. IsAdded S S at (λ τ ω. weigh_all τ ω n (unfold_all_by bs (terms us)))) (sym (children.drop_all ts i h)) (added_nothing S at)

-- arguments from the last on
last_first : (ts : List Term) (i : ℕ) (t : Term) → t ≡ get_or ts i t → i < length ts → reverse (take (suc i) ts) ≡ t ∷ reverse (take i ts)
last_first ts i t e h = ap reverse (take_last ts i t e h) ∙ reverse-append (take i ts) (t ∷ [])

pub arguments_step : (bs : Bodies) (ts : List Term) (left next n k : ℕ) (t : Term) (at place d : Weight) (ws : List Weight) (S S' new : Weights) → AreFit bs (terms ts) → 0 < left → left ≤ length ts → next ≡ left - 1 →
    t ≡ get_or ts next t → k < length ws → IsAlike place (within at (get_or ws k d)) → (IsFit bs t → IsAdded S S' place (λ τ ω. weigh τ ω n (unfold_by bs t))) →
    IsAdded S' new at (λ τ ω. zipped (drop (k + 1) ws) (map (λ u. weigh τ ω n (unfold_by bs u)) (reverse (take next ts)))) →
    IsAdded S new at (λ τ ω. zipped (drop k ws) (map (λ u. weigh τ ω n (unfold_by bs u)) (reverse (take left ts))))
arguments_step bs ts left next n k t at place d ws S S' new f h l q e m p a b =
    let c : left ≡ suc next = omega (arith, h, q) in
    let i : next < length ts = omega (arith, h, l, q) in
    zipped_step S S' new at place d ws k (λ τ ω. weigh τ ω n (unfold_by bs t)) (λ τ ω. map (λ u. weigh τ ω n (unfold_by bs u)) (reverse (take next ts)))
    (λ τ ω. map (λ u. weigh τ ω n (unfold_by bs u)) (reverse (take left ts))) m
    (λ τ ω. ap (map (λ u. weigh τ ω n (unfold_by bs u))) (ap (λ j. reverse (take j ts)) c ∙ last_first ts next t e i)) p (a (fit_at bs ts next t f e i)) b

pub arguments_none : (bs : Bodies) (ts : List Term) (left n k : ℕ) (at : Weight) (ws : List Weight) (S : Weights) → left ≡ 0 →
    IsAdded S S at (λ τ ω. zipped (drop k ws) (map (λ u. weigh τ ω n (unfold_by bs u)) (reverse (take left ts))))
arguments_none bs ts left n k at ws S e =
    zipped_end S at (drop k ws) (λ τ ω. map (λ u. weigh τ ω n (unfold_by bs u)) (reverse (take left ts))) (λ τ ω. ap (λ j. map (λ u. weigh τ ω n (unfold_by bs u)) (reverse (take j ts))) e)

pub take_whole : (ts : List Term) → take (length ts) ts ≡ ts
take_whole [] = refl
take_whole (t ∷ ts) = ap (λ us. t ∷ us) (take_whole ts)

-- The bodies of the first entries.
pub found_weights : {S : Type 0} (m : HashMap Name Weights S) (n : Name) (o : Option Weights) → o ≡ get bytes_eq m n → o ≡ look_up m.entries n
found_weights m n o e = e ∙ kept m.entries n

pub put_weights : {S : Type 0} (m : HashMap Name Weights S) (n : Name) (K : Weights) → look_up m.entries n ≡ None → insert_entry bytes_eq m.entries n K ≡ m.entries ++ (n, K) ∷ []
put_weights m n K e = insert_entry-new bytes_eq m n K (kept m.entries n ∙ e)

or_last : {X : Type 0} → Option X → Option X → Option X
or_last None p = p
or_last (Some x) p = Some x

look_up-last : {X : Type 0} (ps : List (Name × X)) (m n : Name) (x : X) → look_up (ps ++ (m, x) ∷ []) n ≡ or_last (look_up ps n) (cond (bytes_eq m n) (Some x) None)
unfolding or_last
look_up-last [] m n x = refl
look_up-last {X = X} (p ∷ ps) m n x = ap (cond (bytes_eq p.0 n) (Some p.1)) (look_up-last ps m n x) ∙ through (bytes_eq p.0 n) (look_up ps n)
  where
    through : (b : Bool) (o : Option X) → cond b (Some p.1) (or_last o (cond (bytes_eq m n) (Some x) None)) ≡ or_last (cond b (Some p.1) o) (cond (bytes_eq m n) (Some x) None)
    through true o = refl
    through false o = refl

pub one_weighed : (bs : Bodies) (ws : List (Name × Weights)) (m : Name) (B : Term) (K : Weights) → AreWeighed bs ws → AreWeightsOf B K → AreWeighed (bs ++ (m, B) ∷ []) (ws ++ (m, K) ∷ [])
unfolding or_last
one_weighed bs ws m B K h k n =
    transport (λ o. HaveWeights o (look_up (ws ++ (m, K) ∷ []) n)) (sym (look_up-last bs m n B))
    (transport (HaveWeights (or_last (look_up bs n) (cond (bytes_eq m n) (Some B) None))) (sym (look_up-last ws m n K)) (both (look_up bs n) (look_up ws n) (bytes_eq m n) (h n)))
  where
    both : (o : Option Term) (p : Option Weights) (b : Bool) → HaveWeights o p → HaveWeights (or_last o (cond b (Some B) None)) (or_last p (cond b (Some K) None))
    both None None true g = k
    both None None false g = tt
    both None (Some S) b g = absurd g
    both (Some C) None b g = absurd g
    both (Some C) (Some S) b g = g

none_known : (o : Option Term) (p : Option Weights) → HaveWeights o p → o ≡ None → p ≡ None
none_known None None h e = refl
none_known None (Some S) h e = absurd h
none_known (Some B) p h e = cc

pub not_known : (bs : Bodies) (ws : List (Name × Weights)) (n : Name) → AreWeighed bs ws → look_up bs n ≡ None → look_up ws n ≡ None
not_known bs ws n h e = none_known (look_up bs n) (look_up ws n) (h n) e

-- What the weights of a whole term come to.
empty_total : (τ ω : ℕ → Weight) (S : Weights) → S.own ≡ nothing → filled_with S.types.items τ ≡ nothing → filled_with S.variables.items ω ≡ nothing → total τ ω S ≡ nothing
empty_total τ ω S o t v = ap (λ x. beside x (beside (filled_with S.types.items τ) (filled_with S.variables.items ω))) o
    ∙ ap (λ x. beside nothing (beside x (filled_with S.variables.items ω))) t ∙ ap (λ x. beside nothing (beside nothing x)) v

pub body_weighed : (B : Term) (n p : ℕ) (S S' : Weights) → S.own ≡ nothing → ArePlaces n S.variables.items → ArePlaces p S.types.items → IsAdded S S' whole (λ τ ω. weigh τ ω 0 B) →
    loose B ≤ n → params B ≤ p → AreWeightsOf B S'
body_weighed B n p S S' o v t h l r =
    let a = h.variables in
    let b = h.types in
    let c = v.count in
    let d = t.count in
    record {
      variables = omega (arith, a, c, l);
      parameters = omega (arith, b, d, r);
      comes_to = λ τ ω f g.
          alike_then (total τ ω S') (beside (total τ ω S) (within whole (weigh τ ω 0 B))) (weigh τ ω 0 B)
          (h.comes_to τ ω (transport (λ k. IsOwnFrom k τ) b f) (transport (λ k. IsOwnFrom k ω) a g))
          (alike _ _ (ap (λ x. beside x (within whole (weigh τ ω 0 B))) (empty_total τ ω S o (t.empty τ) (v.empty ω)) ∙ nothing_beside (within whole (weigh τ ω 0 B)) ∙ whole_within (weigh τ ω 0 B)));
    }

no_items : (ws : List Weight) → length ws ≡ 0 → ws ≡ []
no_items [] e = refl
no_items (w ∷ ws) e = absurd (omega (arith, e))

pub whole_extent : (t : Term) (S S' : Weights) → S.own ≡ nothing → length S.variables.items ≡ 0 → length S.types.items ≡ 0 → IsAdded S S' whole (λ τ ω. weigh τ ω 0 t) →
    (capped S'.own.often ≡ capped (size t)) × (capped S'.own.deep ≡ capped (depth t))
whole_extent t S S' o v p h =
    let k : IsAlike (total ones ones S') (beside (total ones ones S) (within whole (weigh ones ones 0 t))) = h.comes_to ones ones (λ i g. refl) (λ i g. refl) in
    let before : beside (total ones ones S) (within whole (weigh ones ones 0 t)) ≡ weigh ones ones 0 t =
    ap (λ x. beside x (within whole (weigh ones ones 0 t))) (empty_total ones ones S o (ap (λ ws. filled_with ws ones) (no_items S.types.items p)) (ap (λ ws. filled_with ws ones) (no_items S.variables.items v)))
    ∙ nothing_beside (within whole (weigh ones ones 0 t)) ∙ whole_within (weigh ones ones 0 t) in
    let after : total ones ones S' ≡ S'.own =
    ap (λ ws. beside S'.own (beside (filled_with ws ones) (filled_with S'.variables.items ones))) (no_items S'.types.items (h.types ∙ p))
    ∙ ap (λ ws. beside S'.own (beside nothing (filled_with ws ones))) (no_items S'.variables.items (h.variables ∙ v)) ∙ beside_nothing S'.own in (
      ap (λ x. capped x.often) (sym after) ∙ k.often ∙ ap (λ x. capped x.often) before ∙ ap capped (weigh_size 0 t),
      ap (λ x. capped x.deep) (sym after) ∙ k.deep ∙ ap (λ x. capped x.deep) before ∙ ap capped (weigh_depth 0 t),
    )

same_extent : (m n k l : ℕ) → m ≡ k → n ≡ l → ◌≡◌ {A = Extent} (record { size = m; depth = n }) (record { size = k; depth = l })
same_extent m n k l p q = cc

pub extent_found : (t : Term) (S S' : Weights) (e : Extent) → S.own ≡ nothing → length S.variables.items ≡ 0 → length S.types.items ≡ 0 → IsAdded S S' whole (λ τ ω. weigh τ ω 0 t) →
    e ≡ record { size = capped S'.own.often; depth = capped S'.own.deep } → e ≡ record { size = capped (size t); depth = capped (depth t) }
extent_found t S S' e o v p h g = let k = whole_extent t S S' o v p h in g ∙ same_extent _ _ _ _ k.0 k.1

-- The entries one by one.
good_front : (before e r : Env) → AreGoodAfter before (e ++ r) → AreGoodAfter before e
good_front before [] r h = tt
good_front before (d ∷ e) r h = (h.0, good_front (before ++ d ∷ []) e r h.1)

front : (e r : Env) → IsWellFormed (e ++ r) → IsWellFormed e
front e r w = record {
  distinct = distinct_left (flat_map names e) (flat_map names r) (transport (IsDistinct bytes_eq) (flat_map-append names e r) w.distinct);
  entries = good_front [] e r w.entries;
}

pub operator_known : (e r : Env) (d : Entry) (sig : Signature) (c : Option Term) (body : Term) (old new : List (Name × Weights)) → IsWellFormed (e ++ d ∷ r) → d ≡ Direct sig c body → AreWeighed (bodies_after [] e) old →
    ((bs : Bodies) → AreWeighed bs old → look_up bs sig.name ≡ None → IsFit bs body → loose (unfold_by bs body) ≤ length (type_list sig.args) → params (unfold_by bs body) ≤ sig.params →
    AreWeighed (bs ++ (sig.name, unfold_by bs body) ∷ []) new) →
    AreWeighed (bodies_after [] (e ++ d ∷ [])) new
operator_known e r d sig c body old new w q k h =
    let known : IsWellFormed (e ++ Direct sig c body ∷ r) = transport (λ x. IsWellFormed (e ++ x ∷ r)) q w in
    let first = front e (Direct sig c body ∷ r) known in
    let good = good_at [] e r (Direct sig c body) known.entries in
    let fit = fit_of e first (type_list sig.args) body sig.result good.bodies.typed in
    let l = unfold_loose (bodies_after [] e) body fit in
    let l' = typed_loose e (type_list sig.args) body sig.result good.bodies.typed in
    let m = unfold_params (bodies_after [] e) body fit in
    let m' = good.bodies.parameters in
    transport (λ bs. AreWeighed bs new) (sym (bodies_after-append [] e (d ∷ []) ∙ ap (λ x. bodies_after (bodies_after [] e) (x ∷ [])) q))
    (h (bodies_after [] e) k (not_yet e r sig c body known) fit (omega (arith, l, l')) (omega (arith, m, m')))

pub other_known : (e : Env) (d x : Entry) (ws : List (Name × Weights)) → d ≡ x → bodies_after (bodies_after [] e) (x ∷ []) ≡ bodies_after [] e → AreWeighed (bodies_after [] e) ws → AreWeighed (bodies_after [] (e ++ d ∷ [])) ws
other_known e d x ws q same h =
    transport (λ bs. AreWeighed bs ws) (sym (bodies_after-append [] e (d ∷ []) ∙ ap (λ y. bodies_after (bodies_after [] e) (y ∷ [])) q ∙ same)) h

pub entry_known : (env : Env) (i : ℕ) (d : Entry) (old new : List (Name × Weights)) → IsWellFormed env → slice_get env i ≡ Some d → AreWeighed (bodies_after [] (take i env)) old →
    ((e r : Env) → IsWellFormed (e ++ d ∷ r) → AreWeighed (bodies_after [] e) old → AreWeighed (bodies_after [] (e ++ d ∷ [])) new) → AreWeighed (bodies_after [] (take (i + 1) env)) new
entry_known env i d old new w e k h =
    transport (λ xs. AreWeighed (bodies_after [] xs) new) (take_more env i d e) (h (take i env) (drop (suc i) env) (transport IsWellFormed (split_from env i d e) w) k)

pub ruleset walk = (children.walk, found_weights)
