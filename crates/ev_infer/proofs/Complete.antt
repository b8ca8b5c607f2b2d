-- Each typed term that fits comes from a solution.
use Rattle.std.specs.Prelude.{◌≡◌, ◌≢◌, ℕ, ◌+◌, ◌≤◌, ◌<◌, ◌^◌, ◌==◌, ◌&&◌, Bool as Boolean, true, false, nat_lt, List, [], ◌∷◌, ◌++◌, map, reverse, length, Option, Some, None, slice_get, option_map, option_and_then, IsSomeAnd, if◌then◌else◌, refl}
use Rattle.std.specs.List.{AllByRecursion}
use Rattle.std.proofs.Common.{ap, sym, ◌∙◌, arith, subst as transport}
use Rattle.std.proofs.lemmas.Bool.{lt-ltb, and_from}
use Rattle.ev_terms.specs.declared.types.Ty.{Ty, Int as IntType, Bool as BoolType, Prop, Param as ParamType, Data as DataType}
use Rattle.ev_terms.specs.declared.types.Tys.{Tys}
use Rattle.ev_terms.specs.declared.types.Sym.{Sym}
use Rattle.ev_terms.specs.Types.{pow, prod, type_list}
use Rattle.ev_terms.specs.Term.{Term, Terms, node, cons}
use Rattle.ev_terms.specs.Substitution.{type_inst, type_at}
use Rattle.ev_typing.specs.Profiles.{Profile}
use Rattle.ev_typing.specs.Env.{Env, profile}
use Rattle.ev_typing.specs.Typing.{IsProper, AreProper, inside, var_type, Typed, AreTyped}
use Rattle.ev_typing.specs.Proper.{is_proper, IsResult, HasProperSignatures}
use Rattle.ev_typing.proofs.Proper.{test_from_proper}
use Rattle.ev_unify.specs.declared.patterns.Pat.{Pat, Int, Bool, Param, Data, Unknown}
use Rattle.ev_unify.specs.declared.patterns.Pats.{Pats, Empty}
use Rattle.ev_unify.specs.declared.patterns.PatPair.{PatPair}
use Rattle.ev_unify.specs.Patterns.{pow_pat, prod_pat, more_pats, value, values}
use Rattle.ev_unify.specs.Solutions.{Solves}
use Rattle.ev_resolve.specs.Bare.{Bare, Bares, bare_var, bare_lit, bare_node, bare_of, bare_none, bare_more, IsGiven, Fits, FitAll}
use Rattle.ev_infer.specs.declared.sorts.Sort.{Sort}
use Rattle.ev_infer.specs.declared.sorts.Sort.TheVariants.{Predicate as predicate, Expression as expression}
use Rattle.ev_infer.specs.Equations.{filled, all_filled, sort_type, same_pattern, sort_of, meet, unknowns, Emitted, AllEmitted, NodeTypes, node_types, under, var_emitted, node_emitted, of_emitted, more_emitted, none_emitted, emit, emit_all}
use Rattle.ev_unify.proofs.Followed.{more_by}
use Rattle.ev_infer.proofs.Values.{sort_type-sort_of, value-same, map-under, var_type-map, solves_append, put, put_below, put_proper, put_values}

-- the two say the same of the unknowns below k
abbrev pub AgreeBelow : ℕ → (ℕ → Ty) → (ℕ → Ty) → Type 0
AgreeBelow k σ τ = (i : ℕ) → i < k → σ i ≡ τ i

pub agree_chain : (k m : ℕ) (σ τ υ : ℕ → Ty) → k ≤ m → AgreeBelow k σ τ → AgreeBelow m τ υ → AgreeBelow k σ υ
agree_chain k m σ τ υ h f g i l = f i l ∙ g i (omega arith)

-- whatever the later unknowns are, the context is this one, the types are these
abbrev pub IsFixed : (ℕ → Ty) → ℕ → List Pat → List Ty → Type 0
IsFixed σ k ctx C = (τ : ℕ → Ty) → AgreeBelow k σ τ → map (value τ) ctx ≡ C

abbrev pub AreFixed : (ℕ → Ty) → ℕ → Pats → Tys → Type 0
AreFixed σ k ps As = (τ : ℕ → Ty) → AgreeBelow k σ τ → values τ ps ≡ As

abbrev pub IsSortFixed : (ℕ → Ty) → ℕ → Sort → Ty → Type 0
IsSortFixed σ k s A = (τ : ℕ → Ty) → AgreeBelow k σ τ → sort_type τ s ≡ A

-- The walk answers, and its unknowns have types by which the answer is the term and its type, whatever the later unknowns are.
pub record Found (env : Env) (b : Bare) (ctx : List Pat) (k : ℕ) (σ : ℕ → Ty) (t : Term) (A : Ty) : Type 0 where
  pub out : Emitted
  pub emitted : emit env b ctx k ≡ Some out
  pub solution : ℕ → Ty
  pub proper : (i : ℕ) → IsProper env (solution i)
  pub later : k ≤ out.next
  pub agrees : AgreeBelow k σ solution
  pub solved : (τ : ℕ → Ty) → AgreeBelow out.next solution τ → Solves τ out.pairs
  pub is_term : (τ : ℕ → Ty) → AgreeBelow out.next solution τ → filled τ out.term ≡ t
  pub is_type : IsSortFixed solution out.next out.sort A

pub record AllFound (env : Env) (bs : Bares) (As : List Ty) (ps : Pats) (ctx : List Pat) (k : ℕ) (σ : ℕ → Ty) (ts : Terms) : Type 0 where
  pub out : AllEmitted
  pub emitted : emit_all env bs As ps ctx k ≡ Some out
  pub solution : ℕ → Ty
  pub proper : (i : ℕ) → IsProper env (solution i)
  pub later : k ≤ out.next
  pub agrees : AgreeBelow k σ solution
  pub solved : (τ : ℕ → Ty) → AgreeBelow out.next solution τ → Solves τ out.pairs
  pub are_terms : (τ : ℕ → Ty) → AgreeBelow out.next solution τ → all_filled τ out.terms ≡ ts

pub record TypesFound (env : Env) (w : Option Ty) (params k : ℕ) (σ : ℕ → Ty) (As : Tys) : Type 0 where
  pub out : NodeTypes
  pub emitted : node_types env w params k ≡ Some out
  pub solution : ℕ → Ty
  pub proper : (i : ℕ) → IsProper env (solution i)
  pub later : k ≤ out.next
  pub agrees : AgreeBelow k σ solution
  pub are_types : AreFixed solution out.next out.types As

pub and_then_to : {X Y : Type 0} (f : X → Option Y) (o : Option X) (x : X) (y : Y) → o ≡ Some x → f x ≡ Some y → option_and_then f o ≡ Some y
and_then_to f o x y e g = ap (option_and_then f) e ∙ g

pub map_to : {X Y : Type 0} (f : X → Y) (o : Option X) (x : X) → o ≡ Some x → option_map f o ≡ Some (f x)
map_to f o x e = ap (option_map f) e

pub if_to : {X : Type 0} (b : Boolean) (o : Option X) (x : X) → b ≡ true → o ≡ Some x → (if b then o else None) ≡ Some x
if_to b o x e g = ap (λ c. if c then o else None) e ∙ g

pub some_and : {X : Type 0} (P : X → Type 0) (o : Option X) → IsSomeAnd o P → (x : X) × (o ≡ Some x) × P x
some_and P None h = absurd h
some_and P (Some x) h = (x, refl, h)

types_found : (env : Env) (w : Option Ty) (k : ℕ) (σ : ℕ → Ty) (As : Tys) → ((i : ℕ) → IsProper env (σ i)) → AreProper env As → IsGiven w As → TypesFound env w (length (type_list As)) k σ As
types_found env None k σ As h p g = record {
  out = record { types = unknowns k (length (type_list As)); next = k + length (type_list As) };
  emitted = refl;
  solution = put σ k As;
  proper = put_proper env σ k As h p;
  later = omega arith;
  agrees = λ i l. sym (put_below σ k As i l);
  are_types = λ τ f. put_values σ τ k As (λ i l m. f i m);
}
types_found env (Some A) k σ As h p g =
    transport (λ Bs. TypesFound env (Some A) (length (type_list Bs)) k σ Bs) (sym g)
    (record {
      out = record { types = more_pats (same_pattern A) Empty; next = k };
      emitted = if_to (1 == 1 && is_proper env A) _ _ (and_from (1 == 1) (is_proper env A) refl (test_from_proper env A a)) refl;
      solution = σ;
      proper = h;
      later = omega arith;
      agrees = λ i l. refl;
      are_types = λ τ f. more_by (value-same env τ A a) refl;
    })
  where
    a : IsProper env A
    a = (transport (AreProper env) g p).0

-- no pattern is `Prop`
is_prop : Ty → Boolean
is_prop Prop = true
is_prop _ = false

not_prop : (env : Env) (A : Ty) → IsProper env A → A ≢ Prop
unfolding is_prop
not_prop env IntType h e = let q : false ≡ true = ap is_prop e in cc
not_prop env BoolType h e = let q : false ≡ true = ap is_prop e in cc
not_prop env Prop h e = absurd h
not_prop env (ParamType i) h e = let q : false ≡ true = ap is_prop e in cc
not_prop env (pow A) h e = let q : false ≡ true = ap is_prop e in cc
not_prop env (prod A B) h e = let q : false ≡ true = ap is_prop e in cc
not_prop env (DataType n As) h e = let q : false ≡ true = ap is_prop e in cc

pub value_not_prop : (env : Env) (σ : ℕ → Ty) → ((i : ℕ) → IsProper env (σ i)) → (p : Pat) → value σ p ≢ Prop
unfolding is_prop
value_not_prop env σ h Int e = let q : false ≡ true = ap is_prop e in cc
value_not_prop env σ h Bool e = let q : false ≡ true = ap is_prop e in cc
value_not_prop env σ h (Param i) e = let q : false ≡ true = ap is_prop e in cc
value_not_prop env σ h (pow_pat p) e = let q : false ≡ true = ap is_prop e in cc
value_not_prop env σ h (prod_pat p q) e = let r : false ≡ true = ap is_prop e in cc
value_not_prop env σ h (Data n ps) e = let q : false ≡ true = ap is_prop e in cc
value_not_prop env σ h (Unknown u) e = not_prop env (σ u) (h u) e

pub record MeetFound (s s' : Sort) (k : ℕ) (σ : ℕ → Ty) : Type 0 where
  pub pairs : List PatPair
  pub met : meet s s' ≡ Some pairs
  pub solved : (τ : ℕ → Ty) → AgreeBelow k σ τ → Solves τ pairs

pub meet_found : (env : Env) (s s' : Sort) (k : ℕ) (σ : ℕ → Ty) (A : Ty) → ((i : ℕ) → IsProper env (σ i)) → IsSortFixed σ k s A → IsSortFixed σ k s' A → MeetFound s s' k σ
meet_found env predicate predicate k σ A h f g = record { pairs = []; met = refl; solved = λ τ a. tt }
meet_found env predicate (expression q) k σ A h f g = absurd (value_not_prop env σ h q (g σ (λ i l. refl) ∙ sym (f σ (λ i l. refl))))
meet_found env (expression p) predicate k σ A h f g = absurd (value_not_prop env σ h p (f σ (λ i l. refl) ∙ sym (g σ (λ i l. refl))))
meet_found env (expression p) (expression q) k σ A h f g =
    record { pairs = record { left = p; right = q } ∷ []; met = refl; solved = λ τ a. (f τ a ∙ sym (g τ a), tt) }

module _ (env : Env) (signatures : HasProperSignatures env) where
  fixed_under : (σ τ : ℕ → Ty) (k m : ℕ) (ctx : List Pat) (C : List Ty) (s : Sym) (ps : Pats) (As : Tys) → k ≤ m → AgreeBelow k σ τ → IsFixed σ k ctx C → AreFixed τ m ps As → IsFixed τ m (under env ctx s ps) (inside C s As)
  fixed_under σ τ k m ctx C s ps As l a f g υ b =
      map-under env υ ctx s ps ∙ ap (λ D. inside D s (values υ ps)) (f υ (agree_chain k m σ τ υ l a b)) ∙ ap (inside C s) (g υ b)

  found_node : (s : Sym) (w : Option Ty) (bs : Bares) (ctx : List Pat) (k : ℕ) (σ : ℕ → Ty) (As : Tys) (ts : Terms) (A : Ty) (p : Profile) → profile env s ≡ Some p
      → A ≡ type_inst (type_at As) p.result → (f : TypesFound env w p.params k σ As) → AllFound env bs p.args f.out.types (under env ctx s f.out.types) f.out.next f.solution ts
      → Found env (bare_node s w bs) ctx k σ (node s As ts) A
  found_node s w bs ctx k σ As ts A p ep r f g = record {
    out = node_emitted env s f.out.types p g.out;
    emitted = and_then_to _ (profile env s) p _ ep (and_then_to _ (node_types env w p.params k) f.out _ f.emitted (map_to (node_emitted env s f.out.types p) _ g.out g.emitted));
    solution = g.solution;
    proper = g.proper;
    later = omega (arith, f.later, g.later);
    agrees = agree_chain k f.out.next σ f.solution g.solution f.later f.agrees g.agrees;
    solved = g.solved;
    is_term = λ τ a. ap (λ Bs. node s Bs (all_filled τ g.out.terms)) (types τ a) ∙ ap (node s As) (g.are_terms τ a);
    is_type = λ τ a. sort_type-sort_of env τ f.out.types p.result (signatures s p ep).1 ∙ ap (λ Bs. type_inst (type_at Bs) p.result) (types τ a) ∙ sym r;
  }
    where
      types : AreFixed g.solution g.out.next f.out.types As
      types τ a = f.are_types τ (agree_chain f.out.next g.out.next f.solution g.solution τ g.later g.agrees a)

  mutual
    pub complete : (b : Bare) (ctx : List Pat) (k : ℕ) (σ : ℕ → Ty) (C : List Ty) (t : Term) (A : Ty) → ((i : ℕ) → IsProper env (σ i)) → IsFixed σ k ctx C → Fits env b C t → Typed env C t A → Found env b ctx k σ t A
    complete (bare_var i) ctx k σ C t A h f e typed =
        let typed' : var_type C i ≡ Some A = transport (λ u. Typed env C u A) e typed in
        let at : (τ : ℕ → Ty) → AgreeBelow k σ τ → option_map (value τ) (slice_get (reverse ctx) i) ≡ Some A =
        λ τ a. sym (var_type-map τ ctx i) ∙ ap (λ D. var_type D i) (f τ a) ∙ typed' in
        let (p, ep, v) = found (slice_get (reverse ctx) i) A (at σ (λ j l. refl)) in
        record {
          out = var_emitted env i k p;
          emitted = map_to (var_emitted env i k) (slice_get (reverse ctx) i) p ep;
          solution = σ;
          proper = h;
          later = omega arith;
          agrees = λ j l. refl;
          solved = λ τ a. tt;
          is_term = λ τ a. sym e;
          is_type = λ τ a. is_value τ (slice_get (reverse ctx) i) p ep (at τ a);
        }
      where
        found : (o : Option Pat) (B : Ty) → option_map (value σ) o ≡ Some B → (p : Pat) × (o ≡ Some p) × (value σ p ≡ B)
        found None B q = cc
        found (Some p) B q = (p, refl, cc)

        is_value : (τ : ℕ → Ty) (o : Option Pat) (p : Pat) → o ≡ Some p → option_map (value τ) o ≡ Some A → value τ p ≡ A
        is_value τ o p q r = let s : Some (value τ p) ≡ Some A = sym (ap (option_map (value τ)) q) ∙ r in cc
    complete (bare_lit n) ctx k σ C t A h f e typed =
        let typed' : (n < 2 ^ 127) × (A ≡ IntType) = transport (λ u. Typed env C u A) e typed in
        record {
          out = _;
          emitted = if_to (nat_lt n (2 ^ 127)) _ _ (lt-ltb n (2 ^ 127) typed'.0) refl;
          solution = σ;
          proper = h;
          later = omega arith;
          agrees = λ j l. refl;
          solved = λ τ a. tt;
          is_term = λ τ a. sym e;
          is_type = λ τ a. sym typed'.1;
        }
    complete (bare_node s w bs) ctx k σ C t A h f (As, ts, given, fits, e) typed =
        let typed' : Typed env C (node s As ts) A = transport (λ u. Typed env C u A) e typed in
        let (p, ep, n) = some_and _ (profile env s) typed' in
        let types : TypesFound env w p.params k σ As = transport (λ m. TypesFound env w m k σ As) n.count (types_found env w k σ As h n.proper given) in
        transport (λ u. Found env (bare_node s w bs) ctx k σ u A) (sym e)
        (found_node s w bs ctx k σ As ts A p ep n.result types
        (all_complete bs p.args types.out.types (under env ctx s types.out.types) types.out.next types.solution (inside C s As) ts As types.proper
        (fixed_under σ types.solution k types.out.next ctx C s types.out.types As types.later types.agrees f types.are_types)
        types.are_types (signatures s p ep).0 fits n.children))
    complete (bare_of b B) ctx k σ C t A h f (fits, proper, at) typed =
        let g = complete b ctx k σ C t B h f fits at in
        let same : A ≡ B = Rattle.ev_typing.proofs.Laws.Typed-unique env C t A B typed at in
        let m = meet_found env g.out.sort (expression (same_pattern B)) g.out.next g.solution B g.proper g.is_type (λ τ a. value-same env τ B proper) in
        record {
          out = of_emitted env B g.out m.pairs;
          emitted = if_to (is_proper env B) _ _ (test_from_proper env B proper) (and_then_to _ (emit env b ctx k) g.out _ g.emitted (map_to (of_emitted env B g.out) _ m.pairs m.met));
          solution = g.solution;
          proper = g.proper;
          later = g.later;
          agrees = g.agrees;
          solved = λ τ a. solves_append τ g.out.pairs m.pairs (g.solved τ a) (m.solved τ a);
          is_term = g.is_term;
          is_type = λ τ a. g.is_type τ a ∙ sym same;
        }

    pub all_complete : (bs : Bares) (Bs : List Ty) (ps : Pats) (ctx : List Pat) (k : ℕ) (σ : ℕ → Ty) (C : List Ty) (ts : Terms) (As : Tys) → ((i : ℕ) → IsProper env (σ i)) → IsFixed σ k ctx C
        → AreFixed σ k ps As → AllByRecursion (IsResult env) Bs → FitAll env bs C ts → AreTyped env C ts (map (type_inst (type_at As)) Bs) → AllFound env bs Bs ps ctx k σ ts
    all_complete bare_none [] ps ctx k σ C ts As h f g r e typed = record {
      out = none_emitted env k;
      emitted = refl;
      solution = σ;
      proper = h;
      later = omega arith;
      agrees = λ j l. refl;
      solved = λ τ a. tt;
      are_terms = λ τ a. sym e;
    }
    all_complete bare_none (B ∷ Bs) ps ctx k σ C ts As h f g r e typed = absurd (transport (λ us. AreTyped env C us (map (type_inst (type_at As)) (B ∷ Bs))) e typed)
    all_complete (bare_more b bs) [] ps ctx k σ C ts As h f g r (t, us, ft, fus, e) typed = absurd (transport (λ vs. AreTyped env C vs []) e typed)
    all_complete (bare_more b bs) (B ∷ Bs) ps ctx k σ C ts As h f g r (t, us, ft, fus, e) typed =
        let typed' : Typed env C t (type_inst (type_at As) B) × AreTyped env C us (map (type_inst (type_at As)) Bs) = transport (λ vs. AreTyped env C vs (map (type_inst (type_at As)) (B ∷ Bs))) e typed in
        let x = complete b ctx k σ C t (type_inst (type_at As) B) h f ft typed'.0 in
        let into : (τ : ℕ → Ty) → AgreeBelow x.out.next x.solution τ → AgreeBelow k σ τ = λ τ a. agree_chain k x.out.next σ x.solution τ x.later x.agrees a in
        let m = meet_found env x.out.sort (sort_of ps B) x.out.next x.solution (type_inst (type_at As) B) x.proper x.is_type
        (λ τ a. sort_type-sort_of env τ ps B r.0 ∙ ap (λ Cs. type_inst (type_at Cs) B) (g τ (into τ a))) in
        let y = all_complete bs Bs ps ctx x.out.next x.solution C us As x.proper (λ τ a. f τ (into τ a)) (λ τ a. g τ (into τ a)) r.1 fus typed'.1 in
        let back : (τ : ℕ → Ty) → AgreeBelow y.out.next y.solution τ → AgreeBelow x.out.next x.solution τ = λ τ a. agree_chain x.out.next y.out.next x.solution y.solution τ y.later y.agrees a in
        record {
          out = more_emitted env x.out m.pairs y.out;
          emitted = and_then_to _ (emit env b ctx k) x.out _ x.emitted (and_then_to _ (meet x.out.sort (sort_of ps B)) m.pairs _ m.met (map_to (more_emitted env x.out m.pairs) _ y.out y.emitted));
          solution = y.solution;
          proper = y.proper;
          later = omega (arith, x.later, y.later);
          agrees = agree_chain k x.out.next σ x.solution y.solution x.later x.agrees y.agrees;
          solved = λ τ a. solves_append τ x.out.pairs (m.pairs ++ y.out.pairs) (x.solved τ (back τ a)) (solves_append τ m.pairs y.out.pairs (m.solved τ (back τ a)) (y.solved τ a));
          are_terms = λ τ a. ap (λ u. cons u (all_filled τ y.out.terms)) (x.is_term τ (back τ a)) ∙ ap (cons t) (y.are_terms τ a) ∙ sym e;
        }
