-- What the walks that measure and build a term need.
use Rattle.std.specs.Prelude.{◌≡◌, ℕ, zero, suc, ◌+◌, ◌<◌, ◌≤◌, max, List, [], ◌∷◌, ◌++◌, length, Option, Some, None, refl}
use Rattle.std.proofs.Common.{ap, sym, ◌∙◌, arith, get_or, drop, append_assoc, subst as transport}
use Rattle.ev_terms.specs.declared.types.Ty.{Ty, Int, Bool, Prop, Param, Data}
use Rattle.ev_terms.specs.declared.types.Tys.{Tys, Empty}
use Rattle.ev_terms.specs.declared.types.Tys.TheVariants.{More}
use Rattle.ev_terms.specs.declared.types.Sym.{Sym}
use Rattle.ev_terms.specs.Types.{pow, prod, more, More-more}
use Rattle.ev_terms.specs.Term.{Term, Terms, node, terms, term_list, terms-term_list}
use Rattle.ev_terms.specs.Measures.{type_size, types_size, type_depth, types_depth}
use Rattle.ev_typing.specs.Env.{Env, profile}
use Rattle.ev_typing.specs.Typing.{IsProper}
use Rattle.ev_typing.proofs.Names.{drop_at, drop_all}
use Rattle.ev_unify.specs.declared.patterns.Pats.{Empty as NoPats}
use Rattle.ev_unify.specs.Patterns.{values}
use Rattle.ev_infer.specs.declared.bulks.Bulk.{Bulk}
use Rattle.ev_resolve.specs.Bare.{Bare, Bares, bare_var, bare_lit, bare_node, bare_of}
use Rattle.ev_resolve.specs.inner.BareView.{bares}
use Rattle.ev_infer.specs.Equations.{patterns_of, same_pattern, unknowns, filled, all_filled}
use Rattle.ev_infer.specs.inner.Numbers.{params_of, node_numbers, numbered, all_numbered}
use Rattle.ev_infer.specs.inner.Bulks.{bulk, above, beside, type_bulk, types_bulk, pat_bulk, pats_bulk, term_bulk, terms_bulk}
use Rattle.ev_infer.specs.inner.Filling.{Used, measured, all_measured, types_measured, made, all_made, types_made}
use Rattle.ev_infer.proofs.Values.{value-same}
use Rattle.ev_infer.proofs.EmissionSteps.{height_at}

pub ruleset walk = (height_at)

used_by : {X : Type 0} (a b : X) (m n : ℕ) → a ≡ b → m ≡ n → ◌≡◌ {A = Used X} (record { part = a; next = m }) (record { part = b; next = n })
used_by a b m n e f = cc

-- measures
bulk_by : (m n m' n' : ℕ) → m ≡ m' → n ≡ n' → ◌≡◌ {A = Bulk} (record { size = m; depth = n }) (record { size = m'; depth = n' })
bulk_by m n m' n' p q = cc

above_bulk : (m n : ℕ) → above (bulk m n) ≡ bulk (1 + m) (1 + n)
above_bulk m n = bulk_by _ _ _ _ (omega arith) (omega arith)

beside_bulk : (m n k l : ℕ) → beside (bulk m n) (bulk k l) ≡ bulk (m + k) (max n l)
beside_bulk m n k l = bulk_by _ _ _ _ (omega arith) (omega arith)

mutual
  same_bulk : (e : ℕ → Bulk) (A : Ty) → pat_bulk e (same_pattern A) ≡ type_bulk A
  same_bulk e Int = refl
  same_bulk e Bool = refl
  same_bulk e Prop = refl
  same_bulk e (Param i) = refl
  same_bulk e (pow A) = ap above (same_bulk e A) ∙ above_bulk (type_size A) (type_depth A)
  same_bulk e (prod A B) =
      ap (λ x. above (beside x (pat_bulk e (same_pattern B)))) (same_bulk e A) ∙ ap (λ x. above (beside (type_bulk A) x)) (same_bulk e B)
      ∙ ap above (beside_bulk (type_size A) (type_depth A) (type_size B) (type_depth B)) ∙ above_bulk (type_size A + type_size B) (max (type_depth A) (type_depth B))
  same_bulk e (Data n As) = ap above (same_bulks e As) ∙ above_bulk (types_size As) (types_depth As)

  same_bulks : (e : ℕ → Bulk) (As : Tys) → pats_bulk e (patterns_of NoPats As) ≡ types_bulk As
  same_bulks e Empty = refl
  same_bulks e (more A As) =
      ap (λ x. beside x (pats_bulk e (patterns_of NoPats As))) (same_bulk e A) ∙ ap (λ x. beside (type_bulk A) x) (same_bulks e As)
      ∙ beside_bulk (type_size A) (type_depth A) (types_size As) (types_depth As)

pub written_bulk : (e : ℕ → Bulk) (A : Ty) (k : ℕ) (b : Bulk) → b ≡ beside (type_bulk A) (bulk 0 0) → ◌≡◌ {A = Used Bulk} (record { part = b; next = k }) (types_measured (node_numbers (Some A) 0 k) e)
written_bulk e A k b h = used_by _ _ _ _ (h ∙ ap (λ x. beside x (bulk 0 0)) (sym (same_bulk e A))) refl

pub written_types : (env : Env) (σ : ℕ → Ty) (A B : Ty) (k : ℕ) (rest types : Tys) → IsProper env A → B ≡ A → rest ≡ Empty → types ≡ More B rest →
    ◌≡◌ {A = Used Tys} (record { part = types; next = k }) (types_made (node_numbers (Some A) 0 k) σ)
written_types env σ A B k rest types h f g e =
    used_by _ _ _ _ (e ∙ More-more B rest ∙ ap (more B) g ∙ ap (λ x. more x Empty) (f ∙ sym (value-same env σ A h))) refl

pub ruleset written = (written_bulk, written_types)

-- the unknowns of a node, from the last one on
abbrev pub AreMeasured : (ℕ → Bulk) → ℕ → ℕ → Bulk → Type 0
AreMeasured e unknown end b = (n : ℕ) → unknown + n ≡ end → b ≡ pats_bulk e (unknowns unknown n)

pub measured_start : (e : ℕ → Bulk) (end : ℕ) → AreMeasured e end end (bulk 0 0)
measured_start e end zero h = refl
measured_start e end (suc n) h = absurd (omega (arith, h))

pub measured_more : (e : ℕ → Bulk) (unknown less end : ℕ) (b x c : Bulk) → unknown ≤ end → unknown ≡ less + 1 → x ≡ e less → c ≡ beside x b → AreMeasured e unknown end b → AreMeasured e less end c
measured_more e unknown less end b x c l h q r g zero k = absurd (omega (arith, l, h, k))
measured_more e unknown less end b x c l h q r g (suc n) k =
    r ∙ ap (λ y. beside y b) q ∙ ap (λ y. beside (e less) y) (g n (omega (arith, h, k)) ∙ ap (λ u. pats_bulk e (unknowns u n)) h)

pub measured_end : (e : ℕ → Bulk) (next unknown end count : ℕ) (b : Bulk) → unknown ≡ next → end ≡ next + count → AreMeasured e unknown end b → ◌≡◌ {A = Used Bulk} (record { part = b; next = end }) (types_measured (node_numbers None count next) e)
measured_end e next unknown end count b h l g = used_by _ _ _ _ (g count (omega (arith, h, l)) ∙ ap (λ u. pats_bulk e (unknowns u count)) h) l

abbrev pub AreListed : (ℕ → Ty) → ℕ → ℕ → Tys → Type 0
AreListed σ unknown end types = (n : ℕ) → unknown + n ≡ end → types ≡ values σ (unknowns unknown n)

pub listed_start : (σ : ℕ → Ty) (end : ℕ) → AreListed σ end end Empty
listed_start σ end zero h = refl
listed_start σ end (suc n) h = absurd (omega (arith, h))

pub listed_more : (σ : ℕ → Ty) (unknown less end : ℕ) (old new rest : Tys) (A B : Ty) → unknown ≤ end → unknown ≡ less + 1 → A ≡ σ less → B ≡ A → rest ≡ old → new ≡ More B rest → AreListed σ unknown end old → AreListed σ less end new
listed_more σ unknown less end old new rest A B l h q s f r g zero k = absurd (omega (arith, l, h, k))
listed_more σ unknown less end old new rest A B l h q s f r g (suc n) k =
    r ∙ More-more B rest ∙ ap (λ x. more x rest) (s ∙ q) ∙ ap (more (σ less)) (f ∙ g n (omega (arith, h, k)) ∙ ap (λ u. values σ (unknowns u n)) h)

pub listed_end : (σ : ℕ → Ty) (next unknown end count : ℕ) (types : Tys) → unknown ≡ next → end ≡ next + count → AreListed σ unknown end types → ◌≡◌ {A = Used Tys} (record { part = types; next = end }) (types_made (node_numbers None count next) σ)
listed_end σ next unknown end count types h l g = used_by _ _ _ _ (g count (omega (arith, h, l)) ∙ ap (λ u. values σ (unknowns u count)) h) l

pub ruleset counting = (More-more)

-- a node
pub node_measured : (env : Env) (e : ℕ → Bulk) (s : Sym) (w : Option Ty) (bs : Bares) (k m n : ℕ) (a b r : Bulk) →
    ◌≡◌ {A = Used Bulk} (record { part = a; next = m }) (types_measured (node_numbers w (params_of (profile env s)) k) e) →
    ◌≡◌ {A = Used Bulk} (record { part = b; next = n }) (all_measured env bs m e) → r ≡ above (beside a b) → ◌≡◌ {A = Used Bulk} (record { part = r; next = n }) (measured env (bare_node s w bs) k e)
node_measured env e s w bs k m n a b r h g q =
    let ea = ap (λ (u : Used Bulk). u.part) h in
    let em = ap (λ (u : Used Bulk). u.next) h in
    let eb = ap (λ (u : Used Bulk). u.part) g in
    let en = ap (λ (u : Used Bulk). u.next) g in
    used_by _ _ _ _
    (q ∙ ap (λ x. above (beside x b)) ea ∙ ap (λ x. above (beside (pats_bulk e (node_numbers w (params_of (profile env s)) k).types) x)) (eb ∙ ap (λ j. terms_bulk e (all_numbered env bs j).terms) em))
    (en ∙ ap (λ j. (all_numbered env bs j).next) em)

pub node_made : (env : Env) (σ : ℕ → Ty) (s s' : Sym) (w : Option Ty) (bs : Bares) (k m n : ℕ) (As : Tys) (ts : Terms) (t : Term) →
    ◌≡◌ {A = Used Tys} (record { part = As; next = m }) (types_made (node_numbers w (params_of (profile env s)) k) σ) →
    ◌≡◌ {A = Used Terms} (record { part = ts; next = n }) (all_made env bs m σ) → s' ≡ s → t ≡ node s' As ts → ◌≡◌ {A = Used Term} (record { part = t; next = n }) (made env (bare_node s w bs) k σ)
node_made env σ s s' w bs k m n As ts t h g f q =
    let ea = ap (λ (u : Used Tys). u.part) h in
    let em = ap (λ (u : Used Tys). u.next) h in
    let eb = ap (λ (u : Used Terms). u.part) g in
    let en = ap (λ (u : Used Terms). u.next) g in
    used_by _ _ _ _
    (q ∙ ap (λ x. node x As ts) f ∙ ap (λ x. node s x ts) ea ∙ ap (node s (values σ (node_numbers w (params_of (profile env s)) k).types)) (eb ∙ ap (λ j. all_filled σ (all_numbered env bs j).terms) em))
    (en ∙ ap (λ j. (all_numbered env bs j).next) em)

-- children, one after the other
beside_assoc : (a b c : Bulk) → beside (beside a b) c ≡ beside a (beside b c)
beside_assoc a b c = bulk_by _ _ _ _ (omega arith) (omega arith)

pub record RestMeasured (env : Env) (e : ℕ → Bulk) (bs : List Bare) (k : ℕ) (b : Bulk) (whole : Used Bulk) : Type 0 where
  pub part : beside b (all_measured env (bares bs) k e).part ≡ whole.part
  pub next : (all_measured env (bares bs) k e).next ≡ whole.next

capped_bulk : (e : ℕ → Bulk) (env : Env) (bs : Bares) (k : ℕ) → beside (bulk 0 0) (terms_bulk e (all_numbered env bs k).terms) ≡ terms_bulk e (all_numbered env bs k).terms
capped_bulk e env Rattle.ev_resolve.specs.Bare.bare_none k = refl
capped_bulk e env (Rattle.ev_resolve.specs.Bare.bare_more b bs) k = bulk_by _ _ _ _ (omega arith) (omega arith)

pub rest_start : (env : Env) (e : ℕ → Bulk) (bs : List Bare) (k : ℕ) → RestMeasured env e bs k (bulk 0 0) (all_measured env (bares bs) k e)
rest_start env e bs k = record { part = capped_bulk e env (bares bs) k; next = refl }

pub rest_step : (env : Env) (e : ℕ → Bulk) (bs : List Bare) (i : ℕ) (c : Bare) (k m : ℕ) (a b x : Bulk) (whole : Used Bulk) → c ≡ get_or bs i c → i < length bs →
    ◌≡◌ {A = Used Bulk} (record { part = x; next = m }) (measured env c k e) → b ≡ beside a x → RestMeasured env e (drop i bs) k a whole → RestMeasured env e (drop (i + 1) bs) m b whole
rest_step env e bs i c k m a b x whole p l h q g =
    let d = drop_at bs i c p l in
    let ex = ap (λ (u : Used Bulk). u.part) h in
    let em = ap (λ (u : Used Bulk). u.next) h in
    let r : beside a (beside (term_bulk e (numbered env c k).term) (all_measured env (bares (drop (i + 1) bs)) (numbered env c k).next e).part) ≡ whole.part =
    transport (λ l. beside a (all_measured env (bares l) k e).part ≡ whole.part) d g.part in
    let s : (all_measured env (bares (drop (i + 1) bs)) (numbered env c k).next e).next ≡ whole.next =
    transport (λ l. (all_measured env (bares l) k e).next ≡ whole.next) d g.next in
    record {
      part = ap (λ y. beside y (all_measured env (bares (drop (i + 1) bs)) m e).part) (q ∙ ap (beside a) ex)
          ∙ ap (λ j. beside (beside a (term_bulk e (numbered env c k).term)) (all_measured env (bares (drop (i + 1) bs)) j e).part) em
          ∙ beside_assoc a (term_bulk e (numbered env c k).term) (all_measured env (bares (drop (i + 1) bs)) (numbered env c k).next e).part ∙ r;
      next = ap (λ j. (all_measured env (bares (drop (i + 1) bs)) j e).next) em ∙ s;
    }

-- a bulk that a sum gives
abbrev pub IsCapped : Bulk → Type 0
IsCapped b = b ≡ beside b (bulk 0 0)

pub capped_zero : IsCapped (bulk 0 0)
capped_zero = refl

pub capped_sum : (a x b : Bulk) → b ≡ beside a x → IsCapped b
capped_sum a x b h = h ∙ by ∙ ap (λ y. beside y (bulk 0 0)) (sym h)
  where
    by : beside a x ≡ beside (beside a x) (bulk 0 0)
    by = bulk_by _ _ _ _ (omega arith) (omega arith)

pub rest_end : (env : Env) (e : ℕ → Bulk) (bs : List Bare) (i k : ℕ) (b : Bulk) (whole : Used Bulk) → length bs ≤ i → IsCapped b → RestMeasured env e (drop i bs) k b whole → ◌≡◌ {A = Used Bulk} (record { part = b; next = k }) whole
rest_end env e bs i k b whole l c g =
    let d = drop_all bs i l in
    used_by _ _ _ _ (c ∙ transport (λ x. beside b (all_measured env (bares x) k e).part ≡ whole.part) d g.part) (transport (λ x. (all_measured env (bares x) k e).next ≡ whole.next) d g.next)

pub record RestMade (env : Env) (σ : ℕ → Ty) (bs : List Bare) (k : ℕ) (ts : List Term) (whole : Used Terms) : Type 0 where
  pub part : ts ++ term_list (all_made env (bares bs) k σ).part ≡ term_list whole.part
  pub next : (all_made env (bares bs) k σ).next ≡ whole.next

pub made_start : (env : Env) (σ : ℕ → Ty) (bs : List Bare) (k : ℕ) → RestMade env σ bs k [] (all_made env (bares bs) k σ)
made_start env σ bs k = record { part = refl; next = refl }

pub made_step : (env : Env) (σ : ℕ → Ty) (bs : List Bare) (i : ℕ) (c : Bare) (k m : ℕ) (ts us : List Term) (x : Term) (whole : Used Terms) → c ≡ get_or bs i c → i < length bs →
    ◌≡◌ {A = Used Term} (record { part = x; next = m }) (made env c k σ) → us ≡ ts ++ x ∷ [] → RestMade env σ (drop i bs) k ts whole → RestMade env σ (drop (i + 1) bs) m us whole
made_step env σ bs i c k m ts us x whole p l h q g =
    let d = drop_at bs i c p l in
    let ex = ap (λ (u : Used Term). u.part) h in
    let em = ap (λ (u : Used Term). u.next) h in
    let r : ts ++ filled σ (numbered env c k).term ∷ term_list (all_made env (bares (drop (i + 1) bs)) (numbered env c k).next σ).part ≡ term_list whole.part =
    transport (λ l. ts ++ term_list (all_made env (bares l) k σ).part ≡ term_list whole.part) d g.part in
    let s : (all_made env (bares (drop (i + 1) bs)) (numbered env c k).next σ).next ≡ whole.next =
    transport (λ l. (all_made env (bares l) k σ).next ≡ whole.next) d g.next in
    record {
      part = ap (λ y. y ++ term_list (all_made env (bares (drop (i + 1) bs)) m σ).part) (q ∙ ap (λ y. ts ++ y ∷ []) ex)
          ∙ ap (λ j. (ts ++ filled σ (numbered env c k).term ∷ []) ++ term_list (all_made env (bares (drop (i + 1) bs)) j σ).part) em
          ∙ append_assoc ts (filled σ (numbered env c k).term ∷ []) (term_list (all_made env (bares (drop (i + 1) bs)) (numbered env c k).next σ).part) ∙ r;
      next = ap (λ j. (all_made env (bares (drop (i + 1) bs)) j σ).next) em ∙ s;
    }

append_nothing : (ts : List Term) → ts ++ [] ≡ ts
append_nothing [] = refl
append_nothing (t ∷ ts) = ap (λ us. t ∷ us) (append_nothing ts)

pub made_end : (env : Env) (σ : ℕ → Ty) (bs : List Bare) (i k : ℕ) (ts : List Term) (whole : Used Terms) → length bs ≤ i → RestMade env σ (drop i bs) k ts whole → ◌≡◌ {A = Used Terms} (record { part = terms ts; next = k }) whole
made_end env σ bs i k ts whole l g =
    let d = drop_all bs i l in
    used_by _ _ _ _
    (ap terms (sym (append_nothing ts) ∙ transport (λ x. ts ++ term_list (all_made env (bares x) k σ).part ≡ term_list whole.part) d g.part) ∙ terms-term_list whole.part)
    (transport (λ x. (all_made env (bares x) k σ).next ≡ whole.next) d g.next)
