-- A typed term with those types forgotten that its canonical text does not write: the term is the only one that fits it.
use Rattle.std.specs.Prelude.{◌≡◌, ℕ, suc, ◌+◌, ◌<◌, ◌==◌, Bool as Boolean, true, false, ◌||◌, ◌&&◌, not, if◌then◌else◌, List, [], ◌∷◌, ◌++◌, map, take, length, slice_get, Option, Some, None, IsSomeAnd, refl}
use Rattle.std.specs.List.{list_any, AllByRecursion}
use Rattle.std.proofs.Common.{ap, sym, ◌∙◌, arith, true≢false, subst as transport}
use Rattle.std.proofs.lemmas.Bool.{eqb-true}
use Rattle.ev_terms.specs.declared.types.Ty.{Ty, Int, Bool, Prop, Param, Data}
use Rattle.ev_terms.specs.declared.types.Tys.{Tys, Empty}
use Rattle.ev_terms.specs.declared.types.Sym.{Sym}
use Rattle.ev_terms.specs.declared.types.Sym.TheVariants.{Base, User}
use Rattle.ev_terms.specs.Types.{pow, prod, more, type_list}
use Rattle.ev_terms.specs.Term.{Term, Terms, var, lit, node, nil, cons}
use Rattle.ev_terms.specs.Symbols.{binds}
use Rattle.ev_terms.specs.Substitution.{type_inst, type_at}
use Rattle.ev_forms.specs.Base.{at_type}
use Rattle.ev_typing.specs.Occurs.{has_param}
use Rattle.ev_typing.specs.Profiles.{Profile, base_profiles, base_profile}
use Rattle.ev_typing.specs.Env.{Env, profile}
use Rattle.ev_typing.specs.Typing.{IsProper, Typed, AreTyped, IsTypedNode, inside}
use Rattle.ev_typing.specs.Proper.{IsResult, HasProperSignatures}
use Rattle.ev_typing.specs.WellFormed.{IsWellFormed}
use Rattle.ev_typing.proofs.Proper.{and_split, proper_inst}
use Rattle.ev_typing.proofs.ProperSignatures.{signatures_proper}
use Rattle.ev_typing.proofs.Laws.{Typed-unique}
use Rattle.ev_resolve.specs.Bare.{Bare, Bares, bare_var, bare_lit, bare_node, bare_of, bare_none, bare_more, IsGiven, Fits, FitAll}
use Rattle.ev_infer.proofs.Nodes.{inside_plain, one_type_only, binds_user}
use Rattle.ev_print.specs.Styles.{base_style, shows_type}
use Rattle.ev_print.specs.Canon.{first_type, symbol_shows_type, leaves_open, annotation}
use Rattle.ev_readback.proofs.Rows.{pass, row_passed}
use Rattle.ev_readback.proofs.Parameters.{list_tells, inst_tells, types_same, or_cases}
use Rattle.ev_readback.proofs.Used.{IsUsed, occurs, profile_used, closed_used, open_result}
use Rattle.ev_readback.proofs.WrittenTypes.{some_of}

-- the type that a symbol's own text writes
abbrev pub shown : Sym → Tys → Option Ty
shown s As = if symbol_shows_type s then Some (first_type (type_list As)) else None

abbrev pub bare_annotated : Option Ty → Bare → Bare
bare_annotated None b = b
bare_annotated (Some a) b = bare_of b a

module _ (env : Env) where
  abbrev mutual
    pub bare_term : Term → Bare
    bare_term (var i) = bare_var i
    bare_term (lit n) = bare_lit n
    bare_term (node s As ts) = bare_annotated (annotation s (profile env s) As) (bare_node s (shown s As) (bare_terms ts))

    pub bare_terms : Terms → Bares
    bare_terms nil = bare_none
    bare_terms (cons t ts) = bare_more (bare_term t) (bare_terms ts)

-- Symbols whose text shows their type have one type; the others bind nothing.
abbrev row_test : ℕ → Profile → Boolean
row_test k p = if shows_type (base_style k) then p.params == 1 else binds (Base k) == 0

rows_pass : pass row_test 0 base_profiles ≡ true
unfolding binds
rows_pass = refl

pub shown_one : (env : Env) (s : Sym) (p : Profile) → profile env s ≡ Some p → symbol_shows_type s ≡ true → p.params ≡ 1
shown_one env (Base k) p e shows = eqb-true p.params 1 (sym (ap (λ b. if b then p.params == 1 else binds (Base k) == 0) shows) ∙ row_passed row_test rows_pass k p e)
shown_one env (User n) p e shows = absurd (true≢false (sym shows))

pub hidden_plain : (env : Env) (s : Sym) (p : Profile) → profile env s ≡ Some p → symbol_shows_type s ≡ false → binds s ≡ 0
hidden_plain env (Base k) p e hides = eqb-true (binds (Base k)) 0 (sym (ap (λ b. if b then p.params == 1 else binds (Base k) == 0) hides) ∙ row_passed row_test rows_pass k p e)
hidden_plain env (User n) p e hides = binds_user n

no_prop : (env : Env) (A : Ty) → (A ≡ Prop → ⊥) → IsResult env A → IsProper env A
no_prop env Int n h = h
no_prop env Bool n h = h
no_prop env Prop n h = absurd (n refl)
no_prop env (Param i) n h = h
no_prop env (pow a) n h = h
no_prop env (prod a b) n h = h
no_prop env (Data m As) n h = h

one_type_first : (As : Tys) → length (type_list As) ≡ 1 → As ≡ at_type (first_type (type_list As))
one_type_first As h = let (a, e) = one_type_only As h in e ∙ ap at_type (sym (ap (λ Bs. first_type (type_list Bs)) e))

bool_is : (b : Boolean) → (b ≡ true → ⊥) → b ≡ false
bool_is true h = absurd (h refl)
bool_is false h = refl

module _ (env : Env) (formed : IsWellFormed env) where
  -- what is written behind a symbol: its own type, which is proper
  record IsWritten (s : Sym) (p : Profile) (As : Tys) (a : Ty) : Type 0 where
    hides : symbol_shows_type s ≡ false
    open_ : leaves_open p ≡ true
    is : a ≡ type_inst (type_at As) p.result

  written_is : (s : Sym) (p : Profile) (As : Tys) (a : Ty) → annotation s (Some p) As ≡ Some a → IsWritten s p As a
  written_is s p As a e = by (symbol_shows_type s) (leaves_open p) refl refl e
    where
      by : (x y : Boolean) → symbol_shows_type s ≡ x → leaves_open p ≡ y
          → (if not x && y then Some (type_inst (type_at As) p.result) else None) ≡ Some a → IsWritten s p As a
      by true y g h q = cc
      by false true g h q = let i : type_inst (type_at As) p.result ≡ a = cc in record { hides = g; open_ = h; is = sym i }
      by false false g h q = cc

  pub written_proper : (s : Sym) (p : Profile) (As : Tys) (a : Ty) (A : Ty) (Children : Type 0) → profile env s ≡ Some p → IsTypedNode env As p A Children
      → annotation s (Some p) As ≡ Some a → IsProper env a
  written_proper s p As a A Children e q w =
      let i = written_is s p As a w in
      let used = profile_used env formed s p e i.hides in
      let result = (signatures_proper env formed s p e).1 in
      transport (IsProper env) (sym i.is) (proper_inst env As p.result q.proper (no_prop env p.result (open_result p used i.open_) result))

  given_own : (s : Sym) (p : Profile) (As : Tys) → profile env s ≡ Some p → length (type_list As) ≡ p.params → IsGiven (shown s As) As
  given_own s p As e count = by (symbol_shows_type s) refl
    where
      by : (b : Boolean) → symbol_shows_type s ≡ b → IsGiven (if b then Some (first_type (type_list As)) else None) As
      by true g = one_type_first As (count ∙ shown_one env s p e g)
      by false g = tt

  annotated_own : (o : Option Ty) (b : Bare) (C : List Ty) (t : Term) → ((a : Ty) → o ≡ Some a → IsProper env a × Typed env C t a) → Fits env b C t
      → Fits env (bare_annotated o b) C t
  annotated_own None b C t h f = f
  annotated_own (Some a) b C t h f = let r = h a refl in (f, r.0, r.1)

  -- The term fits.
  mutual
    pub own_fits : (C : List Ty) (t : Term) (A : Ty) → Typed env C t A → Fits env (bare_term env t) C t
    own_fits C (var i) A h = refl
    own_fits C (lit n) A h = refl
    own_fits C (node s As ts) A h =
        let (p, e, q) = some_of (λ (p : Profile). IsTypedNode env As p A (AreTyped env (inside C s As) ts (map (type_inst (type_at As)) p.args))) (profile env s) h in
        let fit : Fits env (bare_node s (shown s As) (bare_terms env ts)) C (node s As ts) =
        (As, ts, given_own s p As e q.count, own_fit_all (inside C s As) ts (map (type_inst (type_at As)) p.args) q.children, refl) in
        annotated_own (annotation s (profile env s) As) (bare_node s (shown s As) (bare_terms env ts)) C (node s As ts)
        (λ a w.
        let v = sym (ap (λ o. annotation s o As) e) ∙ w in
        let i = written_is s p As a v in (
          written_proper s p As a A _ e q v,
          transport (Typed env C (node s As ts)) (q.result ∙ sym i.is) h,
        ))
        fit

    pub own_fit_all : (C : List Ty) (ts : Terms) (As : List Ty) → AreTyped env C ts As → FitAll env (bare_terms env ts) C ts
    own_fit_all C nil As h = refl
    own_fit_all C (cons t ts) [] h = absurd h
    own_fit_all C (cons t ts) (A ∷ As) h = (t, ts, own_fits C t A h.0, own_fit_all C ts As h.1, refl)

  annotated_parts : (o : Option Ty) (b : Bare) (C : List Ty) (t : Term) → Fits env (bare_annotated o b) C t
      → Fits env b C t × ((a : Ty) → o ≡ Some a → Typed env C t a)
  annotated_parts None b C t f = (f, λ a e. cc)
  annotated_parts (Some c) b C t (f, k, h) = (f, λ a e. let i : c ≡ a = cc in transport (Typed env C t) i h)

  -- Types of the same children are the same.
  types_agree : (C : List Ty) (ts : Terms) (As Bs : List Ty) → AreTyped env C ts As → AreTyped env C ts Bs → As ≡ Bs
  types_agree C nil [] [] h g = refl
  types_agree C nil [] (B ∷ Bs) h g = absurd g
  types_agree C nil (A ∷ As) Bs h g = absurd h
  types_agree C (cons t ts) [] Bs h g = absurd h
  types_agree C (cons t ts) (A ∷ As) [] h g = absurd g
  types_agree C (cons t ts) (A ∷ As) (B ∷ Bs) h g =
      ap (λ X. X ∷ As) (Typed-unique env C t A B h.0 g.0) ∙ ap (λ Xs. B ∷ Xs) (types_agree C ts As Bs h.1 g.1)

  -- The type arguments are those that the children's types tell, and the type that is written.
  told : (s : Sym) (p : Profile) (As Bs : Tys) → profile env s ≡ Some p → symbol_shows_type s ≡ false
      → length (type_list As) ≡ p.params → length (type_list Bs) ≡ p.params
      → map (type_inst (type_at As)) p.args ≡ map (type_inst (type_at Bs)) p.args
      → ((a : Ty) → annotation s (Some p) As ≡ Some a → a ≡ type_inst (type_at Bs) p.result)
      → As ≡ Bs
  told s p As Bs e hides a b args result = types_same As Bs p.params a b (λ j lt. by (leaves_open p) refl j lt)
    where
      by : (y : Boolean) → leaves_open p ≡ y → (j : ℕ) → j < p.params → type_at As j ≡ type_at Bs j
      by false g j lt = list_tells p.args j (type_at As) (type_at Bs) args (closed_used p g j lt)
      by true g j lt =
          let written : annotation s (Some p) As ≡ Some (type_inst (type_at As) p.result) =
          ap (λ x. if not x && leaves_open p then Some (type_inst (type_at As) p.result) else None) hides
          ∙ ap (λ y. if y then Some (type_inst (type_at As) p.result) else None) g in
          or_cases (list_any (has_param j) p.args) (has_param j p.result) (profile_used env formed s p e hides j lt)
          (list_tells p.args j (type_at As) (type_at Bs) args)
          (inst_tells p.result j (type_at As) (type_at Bs) (result (type_inst (type_at As) p.result) written))

  -- Where the children are the only ones, the node is.
  node_only : (C : List Ty) (s : Sym) (p : Profile) (As Bs : Tys) (ts us : Terms) → profile env s ≡ Some p
      → length (type_list As) ≡ p.params → length (type_list Bs) ≡ p.params
      → AreTyped env (inside C s As) ts (map (type_inst (type_at As)) p.args) → AreTyped env (inside C s Bs) us (map (type_inst (type_at Bs)) p.args)
      → IsGiven (shown s As) Bs → FitAll env (bare_terms env ts) (inside C s Bs) us
      → ((a : Ty) → annotation s (Some p) As ≡ Some a → a ≡ type_inst (type_at Bs) p.result)
      → ((D : List Ty) (Xs Ys : List Ty) → AreTyped env D ts Xs → AreTyped env D us Ys → FitAll env (bare_terms env ts) D us → ts ≡ us)
      → node s As ts ≡ node s Bs us
  node_only C s p As Bs ts us e a b h g given fit result again = by (symbol_shows_type s) refl given
    where
      whole : As ≡ Bs → ts ≡ us → node s As ts ≡ node s Bs us
      whole x y = ap (λ Xs. node s Xs ts) x ∙ ap (λ xs. node s Bs xs) y

      by : (y : Boolean) → symbol_shows_type s ≡ y → IsGiven (if y then Some (first_type (type_list As)) else None) Bs → node s As ts ≡ node s Bs us
      by true shows is =
          let same : As ≡ Bs = one_type_first As (a ∙ shown_one env s p e shows) ∙ sym is in
          let there = ap (λ Xs. inside C s Xs) same in
          whole same
          (again (inside C s Bs) (map (type_inst (type_at As)) p.args) (map (type_inst (type_at Bs)) p.args)
          (transport (λ D. AreTyped env D ts (map (type_inst (type_at As)) p.args)) there h) g fit)
      by false hides is =
          let z = hidden_plain env s p e hides in
          let h' = transport (λ D. AreTyped env D ts (map (type_inst (type_at As)) p.args)) (inside_plain C s As z) h in
          let g' = transport (λ D. AreTyped env D us (map (type_inst (type_at Bs)) p.args)) (inside_plain C s Bs z) g in
          let fit' = transport (λ D. FitAll env (bare_terms env ts) D us) (inside_plain C s Bs z) fit in
          let children : ts ≡ us = again C (map (type_inst (type_at As)) p.args) (map (type_inst (type_at Bs)) p.args) h' g' fit' in
          let args = types_agree C us (map (type_inst (type_at As)) p.args) (map (type_inst (type_at Bs)) p.args)
          (transport (λ xs. AreTyped env C xs (map (type_inst (type_at As)) p.args)) children h') g' in
          whole (told s p As Bs e hides a b args result) children

  -- It is the only one.
  mutual
    pub only_fits : (C : List Ty) (t : Term) (A : Ty) (u : Term) (B : Ty) → Typed env C t A → Typed env C u B → Fits env (bare_term env t) C u → t ≡ u
    only_fits C (var i) A u B h g f = sym f
    only_fits C (lit n) A u B h g f = sym f
    only_fits C (node s As ts) A u B h g f =
        let (p, e, q) = some_of (λ (p : Profile). IsTypedNode env As p A (AreTyped env (inside C s As) ts (map (type_inst (type_at As)) p.args))) (profile env s) h in
        let (fit, typed) = annotated_parts (annotation s (profile env s) As) (bare_node s (shown s As) (bare_terms env ts)) C u f in
        let (Bs, us, given, all, is) = fit in
        let g' : Typed env C (node s Bs us) B = transport (λ v. Typed env C v B) is g in
        let (p', e', q') = some_of (λ (p : Profile). IsTypedNode env Bs p B (AreTyped env (inside C s Bs) us (map (type_inst (type_at Bs)) p.args))) (profile env s) g' in
        let same : Some p' ≡ Some p = sym e' ∙ e in
        let one : p' ≡ p = cc in
        let r = transport (λ (x : Profile). IsTypedNode env Bs x B (AreTyped env (inside C s Bs) us (map (type_inst (type_at Bs)) x.args))) one q' in
        let there : (a : Ty) → annotation s (Some p) As ≡ Some a → a ≡ type_inst (type_at Bs) p.result =
        λ a w.
        let v = ap (λ o. annotation s o As) e ∙ w in
        Typed-unique env C (node s Bs us) a B (transport (λ x. Typed env C x a) is (typed a v)) g' ∙ r.result in
        node_only C s p As Bs ts us e q.count r.count q.children r.children given all there (λ D Xs Ys. only_fit_all D ts Xs us Ys) ∙ sym is

    pub only_fit_all : (C : List Ty) (ts : Terms) (As : List Ty) (us : Terms) (Bs : List Ty) → AreTyped env C ts As → AreTyped env C us Bs
        → FitAll env (bare_terms env ts) C us → ts ≡ us
    only_fit_all C nil As us Bs h g f = sym f
    only_fit_all C (cons t ts) [] us Bs h g f = absurd h
    only_fit_all C (cons t ts) (A ∷ As) us Bs h g (u, vs, fit, fits, is) = heads Bs (transport (λ xs. AreTyped env C xs Bs) is g) (λ B. only_fits C t A u B h.0) (λ Ys. only_fit_all C ts As vs Ys h.1) ∙ sym is
      where
        heads : (Ys : List Ty) → AreTyped env C (cons u vs) Ys → ((B : Ty) → Typed env C u B → Fits env (bare_term env t) C u → t ≡ u)
            → ((Zs : List Ty) → AreTyped env C vs Zs → FitAll env (bare_terms env ts) C vs → ts ≡ vs) → cons t ts ≡ cons u vs
        heads [] k one others = absurd k
        heads (Y ∷ Ys) k one others = ap (λ x. cons x ts) (one Y k.0 fit) ∙ ap (cons u) (others Ys k.1 fits)
