-- What holds over a part of an environment holds over the whole.
use Rattle.std.specs.Prelude.{◌≡◌, ◌||◌, ◌<◌, ℕ, zero, suc, Bool as Boolean, true, false, cond, List, [], ◌∷◌, ◌++◌, Option, Some, None, length, get_or, flat_map, bytes_eq, option_map, Contains, IsSomeAnd, map, refl}
use Rattle.std.specs.Option.{option_and_then}
use Rattle.std.specs.List.{list_any}
use Rattle.std.proofs.Common.{ap, sym, ◌∙◌, subst, true≢false, arith, ⊎_elim}
use Rattle.std.proofs.lemmas.Bool.{cases_Bool}
use Rattle.ev_terms.specs.declared.types.Ty.{Ty, Int, Bool, Prop, Param, Data}
use Rattle.ev_terms.specs.declared.types.Tys.{Tys, Empty}
use Rattle.ev_terms.specs.declared.types.Sym.{Sym}
use Rattle.ev_terms.specs.declared.types.Sym.TheVariants.{Base, User}
use Rattle.ev_terms.specs.Types.{pow, prod, more}
use Rattle.ev_terms.specs.Term.{Term, Terms, var, lit, node, nil, cons}
use Rattle.ev_terms.specs.Substitution.{type_inst, type_at}
use Rattle.ev_typing.specs.declared.typing.Entry.{Entry}
use Rattle.ev_typing.specs.declared.typing.DataDecl.{DataDecl}
use Rattle.ev_typing.specs.Profiles.{Profile}
use Rattle.ev_typing.specs.Env.{Env, Name, Symbol, look_up, names, declares, declaring, datatypes, symbols, find_data, find_symbol, symbol_profile, profile}
use Rattle.ev_typing.specs.Typing.{IsProper, AreProper, Typed, AreTyped, inside}
use Rattle.ev_typing.specs.Parts.{IsPartOf, HasDistinctNames}
use Rattle.ev_typing.specs.TypingLaws.{WholeKeepsTypes, WholeKeepsProper}
use Rattle.ev_typing.proofs.Entries.{KeepsNames, distinct_right, distinct_apart, look_up_declaring, look_up_later, datatypes_named, symbols_named}

-- An entry of the whole declares its names there.
any_more : (n : Name) (ms ns : List Name) → list_any (bytes_eq n) ns ≡ true → list_any (bytes_eq n) (ms ++ ns) ≡ true
any_more n [] ns h = h
any_more n (m ∷ ms) ns h = by (bytes_eq n m) (any_more n ms ns h)
  where
    by : (b : Boolean) → list_any (bytes_eq n) (ms ++ ns) ≡ true → (b || list_any (bytes_eq n) (ms ++ ns)) ≡ true
    by true e = refl
    by false e = e

any_first : (n : Name) (ms ns : List Name) → list_any (bytes_eq n) ms ≡ true → list_any (bytes_eq n) (ms ++ ns) ≡ true
any_first n [] ns h = absurd (true≢false (sym h))
any_first n (m ∷ ms) ns h = by (bytes_eq n m) h (any_first n ms ns)
  where
    by : (b : Boolean) → (b || list_any (bytes_eq n) ms) ≡ true → (list_any (bytes_eq n) ms ≡ true → list_any (bytes_eq n) (ms ++ ns) ≡ true) → (b || list_any (bytes_eq n) (ms ++ ns)) ≡ true
    by true e k = refl
    by false e k = k e

declared_at : (f : Env) (k : ℕ) (d : Entry) (n : Name) → k < length f → get_or f k d ≡ d → declares n d ≡ true → list_any (bytes_eq n) (flat_map names f) ≡ true
declared_at [] k d n h e g = absurd (omega arith)
declared_at (c ∷ cs) zero d n h e g = any_first n (names c) (flat_map names cs) (ap (declares n) e ∙ g)
declared_at (c ∷ cs) (suc k) d n h e g = any_more n (names c) (flat_map names cs) (declared_at cs k d n (omega arith) e g)

declaring_at : (f : Env) (k : ℕ) (d : Entry) (n : Name) → k < length f → get_or f k d ≡ d → declares n d ≡ true → HasDistinctNames f → declaring f n ≡ Some d
declaring_at [] k d n h e g w = absurd (omega arith)
declaring_at (c ∷ cs) zero d n h e g w = ap (λ b. cond b (Some c) (declaring cs n)) (ap (declares n) e ∙ g) ∙ ap (λ x. Some x) e
declaring_at (c ∷ cs) (suc k) d n h e g w =
    ap (λ b. cond b (Some c) (declaring cs n)) (distinct_apart (names c) (flat_map names cs) n w (declared_at cs k d n (omega arith) e g))
    ∙ declaring_at cs k d n (omega arith) e g (distinct_right (names c) (flat_map names cs) w)

-- what is found in an entry of the whole is found in the whole
pub found_whole : {X : Type 0} (sel : Entry → List (Name × X)) → KeepsNames sel → (f : Env) (d : Entry) (n : Name) (x : X) → HasDistinctNames f → Contains f d →
    look_up (sel d) n ≡ Some x → look_up (flat_map sel f) n ≡ Some x
found_whole sel keeps f d n x w (k, h, e) g =
    look_up_declaring sel keeps f n w ∙ ap (option_and_then (λ c. look_up (sel c) n)) (declaring_at f k d n h e declared w) ∙ g
  where
    declared : declares n d ≡ true
    declared = ⊎_elim (λ y. y) (λ z. absurd (none (keeps d n z))) (cases_Bool (declares n d))
      where
        none : look_up (sel d) n ≡ None → ⊥
        none q = cc

look_up_first : {X : Type 0} (ps qs : List (Name × X)) (n : Name) (x : X) → look_up ps n ≡ Some x → look_up (ps ++ qs) n ≡ Some x
look_up_first [] qs n x h = cc
look_up_first (p ∷ ps) qs n x h = by (bytes_eq p.0 n) h (look_up_first ps qs n x)
  where
    by : (b : Boolean) → cond b (Some p.1) (look_up ps n) ≡ Some x → (look_up ps n ≡ Some x → look_up (ps ++ qs) n ≡ Some x) → cond b (Some p.1) (look_up (ps ++ qs) n) ≡ Some x
    by true e k = e
    by false e k = k e

pub found_part : {X : Type 0} (sel : Entry → List (Name × X)) → KeepsNames sel → (e f : Env) (n : Name) (x : X) → HasDistinctNames f → IsPartOf e f →
    look_up (flat_map sel e) n ≡ Some x → look_up (flat_map sel f) n ≡ Some x
found_part sel keeps [] f n x w h g = cc
found_part {X} sel keeps (d ∷ ds) f n x w h g = by (look_up (sel d) n) refl (found_part sel keeps ds f n x w h.1)
  where
    by : (o : Option X) → o ≡ look_up (sel d) n → (look_up (flat_map sel ds) n ≡ Some x → look_up (flat_map sel f) n ≡ Some x) → look_up (flat_map sel f) n ≡ Some x
    by None p k = k (sym (look_up_later (sel d) (flat_map sel ds) n (sym p)) ∙ g)
    by (Some y) p k =
        let q : Some y ≡ Some x = sym (look_up_first (sel d) (flat_map sel ds) n y (sym p)) ∙ g in
        found_whole sel keeps f d n x w h.0 (sym p ∙ q)

-- Environments that have the same signatures and datatypes, or more.
pub record HasAll (e f : Env) : Type 0 where
  pub profiles : (n : Name) (p : Profile) → profile e (User n) ≡ Some p → profile f (User n) ≡ Some p
  pub decls : (n : Name) (d : DataDecl) → find_data e n ≡ Some d → find_data f n ≡ Some d

pub whole_has_all : (e f : Env) → IsPartOf e f → HasDistinctNames f → HasAll e f
whole_has_all e f h w = record { profiles = profiles; decls = λ n d g. found_part datatypes datatypes_named e f n d w h g }
  where
    by : (n : Name) (p : Profile) (o : Option Symbol) → find_symbol e n ≡ o → option_map symbol_profile o ≡ Some p → profile f (User n) ≡ Some p
    by n p None q g = cc
    by n p (Some s) q g = ap (option_map symbol_profile) (found_part symbols symbols_named e f n s w h q) ∙ g

    profiles : (n : Name) (p : Profile) → profile e (User n) ≡ Some p → profile f (User n) ≡ Some p
    profiles n p g = by n p (find_symbol e n) refl g

profile_kept : (e f : Env) → HasAll e f → (s : Sym) (p : Profile) → profile e s ≡ Some p → profile f s ≡ Some p
profile_kept e f k (Base j) p h = h
profile_kept e f k (User n) p h = k.profiles n p h

some_found : {X : Type 0} {P Q : X → Type 0} (o r : Option X) → ((x : X) → o ≡ Some x → r ≡ Some x) → ((x : X) → P x → Q x) → IsSomeAnd o P → IsSomeAnd r Q
some_found None r h k g = absurd g
some_found {Q = Q} (Some x) r h k g = subst (λ o. IsSomeAnd o Q) (sym (h x refl)) (k x g)

mutual
  pub proper_over : (e f : Env) → HasAll e f → (A : Ty) → IsProper e A → IsProper f A
  proper_over e f k Int h = tt
  proper_over e f k Bool h = tt
  proper_over e f k Prop h = h
  proper_over e f k (Param i) h = tt
  proper_over e f k (pow A) h = proper_over e f k A h
  proper_over e f k (prod A B) h = (proper_over e f k A h.0, proper_over e f k B h.1)
  proper_over e f k (Data n As) h = (some_found (find_data e n) (find_data f n) (k.decls n) (λ d g. g) h.0, all_proper_over e f k As h.1)

  pub all_proper_over : (e f : Env) → HasAll e f → (As : Tys) → AreProper e As → AreProper f As
  all_proper_over e f k Empty h = tt
  all_proper_over e f k (more A As) h = (proper_over e f k A h.0, all_proper_over e f k As h.1)

mutual
  pub typed_over : (e f : Env) → HasAll e f → (C : List Ty) (t : Term) (A : Ty) → Typed e C t A → Typed f C t A
  typed_over e f k C (var i) A h = h
  typed_over e f k C (lit n) A h = h
  typed_over e f k C (node s As ts) A h =
      some_found (profile e s) (profile f s) (profile_kept e f k s) (λ p g. record {
        count = g.count;
        proper = all_proper_over e f k As g.proper;
        children = all_typed_over e f k (inside C s As) ts (map (type_inst (type_at As)) p.args) g.children;
        result = g.result;
      }) h

  pub all_typed_over : (e f : Env) → HasAll e f → (C : List Ty) (ts : Terms) (As : List Ty) → AreTyped e C ts As → AreTyped f C ts As
  all_typed_over e f k C nil [] h = h
  all_typed_over e f k C nil (A ∷ As) h = h
  all_typed_over e f k C (cons t ts) [] h = h
  all_typed_over e f k C (cons t ts) (A ∷ As) h = (typed_over e f k C t A h.0, all_typed_over e f k C ts As h.1)

pub whole_typed : WholeKeepsTypes
whole_typed e f h w C t A g = typed_over e f (whole_has_all e f h w) C t A g

pub whole_proper : WholeKeepsProper
whole_proper e f h w A g = proper_over e f (whole_has_all e f h w) A g
