-- Nodes of terms and of bare terms: what typing says of their parts.
use Rattle.std.specs.Prelude.{◌≡◌, ℕ, suc, ◌==◌, Bool as Boolean, true, false, List, [], ◌∷◌, ◌++◌, map, take, length, Option, Some, slice_get, find, ⊤, if◌then◌else◌, refl}
use Rattle.std.specs.List.{list_all}
use Rattle.std.proofs.Common.{ap, sym, ◌∙◌, arith, subst as transport}
use Rattle.std.proofs.lemmas.Bool.{eqb-true}
use Rattle.std.proofs.lemmas.List.{append-nil, reverse-append}
use Rattle.ev_terms.specs.declared.types.Ty.{Ty, Int, Bool, Prop, Param, Data}
use Rattle.ev_terms.specs.declared.types.Tys.{Tys, Empty}
use Rattle.ev_terms.specs.declared.types.Sym.{Sym}
use Rattle.ev_terms.specs.declared.types.Sym.TheVariants.{User}
use Rattle.ev_terms.specs.Types.{pow, prod, more, type_list}
use Rattle.ev_terms.specs.Term.{Term, Terms, var, lit, node, nil, cons}
use Rattle.ev_terms.specs.Symbols.{binds}
use Rattle.ev_terms.specs.Substitution.{type_at}
use Rattle.ev_syntax.specs.Marks.{for_all_sign, union_over_word}
use Rattle.ev_forms.specs.Base as base
use Rattle.ev_forms.specs.Base.{at_type, leaf, with_one, with_two}
use Rattle.ev_typing.specs.Profiles.{Profile}
use Rattle.ev_typing.specs.Env.{Env, profile}
use Rattle.ev_typing.specs.Typing.{IsProper, inside, var_type, Typed, AreTyped}
use Rattle.ev_typing.specs.Proper.{IsResult, HasProperSignatures}
use Rattle.ev_typing.proofs.Proper.{and_split, result_inst}
use Rattle.ev_resolve.specs.Reading.{Variable, context_type, context_of, Plain, infix_symbols, prefix_symbols, around_symbols, word_symbols, entry_of, quantifier}
use Rattle.ev_resolve.specs.Bare.{Bare, Bares, bare_node, bare_none, bare_more, IsGiven, Fits, FitAll}
use Rattle.ev_resolve.specs.Resolve.{bare_one}
use Rattle.ev_infer.proofs.Complete.{some_and}

abbrev pub HasSome : Env → List Ty → Term → Type 0
HasSome env C t = (A : Ty) × Typed env C t A

abbrev pub EachTyped : Env → List Ty → Terms → Type 0
EachTyped env C nil = ⊤
EachTyped env C (cons t ts) = HasSome env C t × EachTyped env C ts

pub each_typed : (env : Env) (C : List Ty) (ts : Terms) (Bs : List Ty) → AreTyped env C ts Bs → EachTyped env C ts
each_typed env C nil Bs h = tt
each_typed env C (cons t ts) [] h = absurd h
each_typed env C (cons t ts) (B ∷ Bs) h = ((B, h.0), each_typed env C ts Bs h.1)

pub inside_plain : (C : List Ty) (s : Sym) (As : Tys) → binds s ≡ 0 → inside C s As ≡ C
inside_plain C s As e = ap (λ n. C ++ take n (type_list As)) e ∙ append-nil C

pub inside_binder : (C : List Ty) (s : Sym) (a : Ty) → binds s ≡ 1 → inside C s (at_type a) ≡ C ++ a ∷ []
inside_binder C s a e = ap (λ n. C ++ take n (a ∷ [])) e

-- the children of a symbol that binds nothing
pub plain_each : (env : Env) (C : List Ty) (s : Sym) (As : Tys) (ts : Terms) → binds s ≡ 0 → HasSome env C (node s As ts) → EachTyped env C ts
plain_each env C s As ts e (A, h) =
    let (p, ep, n) = some_and _ (profile env s) h in
    transport (λ D. EachTyped env D ts) (inside_plain C s As e) (each_typed env (inside C s As) ts _ n.children)

-- the child of one that binds
pub binder_child : (env : Env) (C : List Ty) (s : Sym) (a : Ty) (u : Term) → binds s ≡ 1 → HasSome env C (with_one s (at_type a) u) → IsProper env a × HasSome env (C ++ a ∷ []) u
binder_child env C s a u e (A, h) =
    let (p, ep, n) = some_and _ (profile env s) h in
    (n.proper.0, (transport (λ D. EachTyped env D (cons u nil)) (inside_binder C s a e) (each_typed env (inside C s (at_type a)) (cons u nil) _ n.children)).0)

pub no_types : (As : Tys) → length (type_list As) ≡ 0 → As ≡ Empty
no_types Empty e = refl
no_types (more A As) e = absurd (omega (arith, e))

pub one_type_only : (As : Tys) → length (type_list As) ≡ 1 → (a : Ty) × (As ≡ at_type a)
one_type_only Empty e = absurd (omega (arith, e))
one_type_only (more A Empty) e = (A, refl)
one_type_only (more A (more B As)) e = absurd (omega (arith, e))

-- bare nodes over children in the same context
pub fit_node : (env : Env) (s : Sym) (w : Option Ty) (bs : Bares) (C : List Ty) (As : Tys) (ts : Terms) → binds s ≡ 0 → IsGiven w As → FitAll env bs C ts → Fits env (bare_node s w bs) C (node s As ts)
fit_node env s w bs C As ts e g f = (As, ts, g, transport (λ D. FitAll env bs D ts) (sym (inside_plain C s As e)) f, refl)

pub fit_binder : (env : Env) (s : Sym) (w : Option Ty) (b : Bare) (C : List Ty) (a : Ty) (u : Term) → binds s ≡ 1 → IsGiven w (at_type a) → Fits env b (C ++ a ∷ []) u → Fits env (bare_one s w b) C (with_one s (at_type a) u)
fit_binder env s w b C a u e g f = (at_type a, cons u nil, g, transport (λ D. FitAll env (bare_more b bare_none) D (cons u nil)) (sym (inside_binder C s a e)) (u, nil, f, refl, refl), refl)

pub record NodeFit (env : Env) (s : Sym) (w : Option Ty) (bs : Bares) (C : List Ty) (t : Term) : Type 0 where
  pub types : Tys
  pub children : Terms
  pub given : IsGiven w types
  pub fits : FitAll env bs C children
  pub whole : t ≡ node s types children

pub node_fit : (env : Env) (s : Sym) (w : Option Ty) (bs : Bares) (C : List Ty) (t : Term) → binds s ≡ 0 → Fits env (bare_node s w bs) C t → NodeFit env s w bs C t
node_fit env s w bs C t e (As, ts, g, f, q) = record { types = As; children = ts; given = g; fits = transport (λ D. FitAll env bs D ts) (inside_plain C s As e) f; whole = q }

-- a symbol that binds one variable, of its one type
pub record IsBinder (env : Env) (s : Sym) : Type 0 where
  pub binds_one : binds s ≡ 1
  pub one_param : (p : Profile) → profile env s ≡ Some p → p.params ≡ 1

pub record BinderFit (env : Env) (s : Sym) (w : Option Ty) (b : Bare) (C : List Ty) (t : Term) : Type 0 where
  pub type : Ty
  pub child : Term
  pub given : IsGiven w (at_type type)
  pub proper : IsProper env type
  pub fits : Fits env b (C ++ type ∷ []) child
  pub typed : HasSome env (C ++ type ∷ []) child
  pub whole : t ≡ with_one s (at_type type) child

pub binder_fit : (env : Env) (s : Sym) (w : Option Ty) (b : Bare) (C : List Ty) (t : Term) → IsBinder env s → Fits env (bare_one s w b) C t → HasSome env C t → BinderFit env s w b C t
binder_fit env s w b C t i (As, ts, g, (u, us, f, q, r), e) (A, h) =
    let h' : Typed env C (node s As ts) A = transport (λ v. Typed env C v A) e h in
    let (p, ep, n) = some_and _ (profile env s) h' in
    let (a, ea) = one_type_only As (n.count ∙ i.one_param p ep) in
    let whole : t ≡ with_one s (at_type a) u = e ∙ ap (λ Bs. node s Bs ts) ea ∙ ap (node s (at_type a)) (r ∙ ap (cons u) q) in
    let parts = binder_child env C s a u i.binds_one (A, transport (λ v. Typed env C v A) whole h) in
    record {
      type = a;
      child = u;
      given = transport (IsGiven w) ea g;
      proper = parts.0;
      fits = transport (λ D. Fits env b D u) (ap (inside C s) ea ∙ inside_binder C s a i.binds_one) f;
      typed = parts.1;
      whole = whole;
    }

pub for_all_binder : (env : Env) → IsBinder env base.for_all_sym
unfolding binds
for_all_binder env = record { binds_one = refl; one_param = λ p e. let q : record { params = 1; args = Prop ∷ []; result = Prop } ≡ p = cc in ap (λ (r : Profile). r.params) (sym q) }

pub for_some_binder : (env : Env) → IsBinder env base.for_some_sym
unfolding binds
for_some_binder env = record { binds_one = refl; one_param = λ p e. let q : record { params = 1; args = Prop ∷ []; result = Prop } ≡ p = cc in ap (λ (r : Profile). r.params) (sym q) }

pub set_binder : (env : Env) → IsBinder env base.set_sym
unfolding binds
set_binder env = record { binds_one = refl; one_param = λ p e. let q : record { params = 1; args = Prop ∷ []; result = pow (Param 0) } ≡ p = cc in ap (λ (r : Profile). r.params) (sym q) }

choose_binder : (env : Env) (b : Boolean) → IsBinder env (if b then base.for_all_sym else base.for_some_sym)
choose_binder env true = for_all_binder env
choose_binder env false = for_some_binder env

pub quantifier_binder : (env : Env) (m : ℕ) → IsBinder env (quantifier m)
quantifier_binder env m = choose_binder env (m == for_all_sign)

-- the symbols that bind nothing
pub binds_not : binds base.not_sym ≡ 0
unfolding binds
binds_not = refl

pub binds_and : binds base.and_sym ≡ 0
unfolding binds
binds_and = refl

pub binds_or : binds base.or_sym ≡ 0
unfolding binds
binds_or = refl

pub binds_equal : binds base.equal_sym ≡ 0
unfolding binds
binds_equal = refl

pub binds_maps_to : binds base.maps_to_sym ≡ 0
unfolding binds
binds_maps_to = refl

pub binds_type : binds base.type_sym ≡ 0
unfolding binds
binds_type = refl

pub binds_empty : binds base.empty_sym ≡ 0
unfolding binds
binds_empty = refl

pub binds_true_value : binds base.true_value_sym ≡ 0
unfolding binds
binds_true_value = refl

pub binds_apply : binds base.apply_sym ≡ 0
unfolding binds
binds_apply = refl

pub binds_image : binds base.image_sym ≡ 0
unfolding binds
binds_image = refl

pub binds_inverse : binds base.inverse_sym ≡ 0
unfolding binds
binds_inverse = refl

pub binds_user : (n : List ℕ) → binds (User n) ≡ 0
unfolding binds
binds_user n = refl

choose_over : (b : Boolean) → binds (if b then base.big_union_sym else base.big_inter_sym) ≡ 0
unfolding binds
choose_over true = refl
choose_over false = refl

pub binds_over : (m : ℕ) → binds (if m == union_over_word then base.big_union_sym else base.big_inter_sym) ≡ 0
binds_over m = choose_over (m == union_over_word)

-- the symbols of a table
abbrev pub binds_none : Plain → Boolean
binds_none e = binds e.sym == 0

find_passes : (table : List Plain) (m : ℕ) (e : Plain) → list_all binds_none table ≡ true → find (λ (q : Plain). q.mark == m) table ≡ Some e → binds_none e ≡ true
find_passes [] m e h f = cc
find_passes (q ∷ table) m e h f = go (find_passes table m e (and_split (binds_none q) (list_all binds_none table) h).1) (q.mark == m) refl
  where
    go : (find (λ (x : Plain). x.mark == m) table ≡ Some e → binds_none e ≡ true) → (b : Boolean) → (q.mark == m) ≡ b → binds_none e ≡ true
    go later true eb =
        let r : Some q ≡ Some e = sym (ap (λ c. if c then Some q else find (λ (x : Plain). x.mark == m) table) eb) ∙ f in
        let i : q ≡ e = cc in
        transport (λ x. binds_none x ≡ true) i (and_split (binds_none q) (list_all binds_none table) h).0
    go later false eb = later (sym (ap (λ c. if c then Some q else find (λ (x : Plain). x.mark == m) table) eb) ∙ f)

abbrev pub BindNone : Option Plain → Type 0
BindNone o = (e : Plain) → o ≡ Some e → binds e.sym ≡ 0

infix_bind_none : list_all binds_none infix_symbols ≡ true
unfolding binds
infix_bind_none = refl

prefix_bind_none : list_all binds_none prefix_symbols ≡ true
unfolding binds
prefix_bind_none = refl

around_bind_none : list_all binds_none around_symbols ≡ true
unfolding binds
around_bind_none = refl

word_bind_none : list_all binds_none word_symbols ≡ true
unfolding binds
word_bind_none = refl

pub infix_plain : (m : ℕ) → BindNone (entry_of infix_symbols m)
infix_plain m e f = eqb-true (binds e.sym) 0 (find_passes infix_symbols m e infix_bind_none f)

pub prefix_plain : (m : ℕ) → BindNone (entry_of prefix_symbols m)
prefix_plain m e f = eqb-true (binds e.sym) 0 (find_passes prefix_symbols m e prefix_bind_none f)

pub around_plain : (m : ℕ) → BindNone (entry_of around_symbols m)
around_plain m e f = eqb-true (binds e.sym) 0 (find_passes around_symbols m e around_bind_none f)

pub word_plain : (m : ℕ) → BindNone (entry_of word_symbols m)
word_plain m e f = eqb-true (binds e.sym) 0 (find_passes word_symbols m e word_bind_none f)

-- contexts
pub context_more : (v : Variable) (vars : List Variable) → context_of (v ∷ vars) ≡ context_of vars ++ context_type v.type ∷ []
context_more v vars = reverse-append (context_type v.type ∷ []) (map (λ (u : Variable). context_type u.type) vars)

pub context_type_proper : (env : Env) (a : Ty) → IsProper env a → context_type a ≡ a
context_type_proper env Int h = refl
context_type_proper env Bool h = refl
context_type_proper env Prop h = absurd h
context_type_proper env (Param i) h = refl
context_type_proper env (pow a) h = refl
context_type_proper env (prod a b) h = refl
context_type_proper env (Data n As) h = refl

pub var_type_last : (C : List Ty) (a : Ty) → var_type (C ++ a ∷ []) 0 ≡ Some a
var_type_last C a = ap (λ l. slice_get l 0) (reverse-append C (a ∷ []))

pub var_type_before : (C : List Ty) (a : Ty) (i : ℕ) → var_type (C ++ a ∷ []) (suc i) ≡ var_type C i
var_type_before C a i = ap (λ l. slice_get l (suc i)) (reverse-append C (a ∷ []))

-- the type of a typed term is proper, or `Prop`, where the context's types are
pub typed_result : (env : Env) → HasProperSignatures env → (C : List Ty) → ((i : ℕ) (A : Ty) → var_type C i ≡ Some A → IsResult env A) → (t : Term) (A : Ty) → Typed env C t A → IsResult env A
typed_result env h C g (var i) A e = g i A e
typed_result env h C g (lit n) A e = transport (IsResult env) (sym e.1) tt
typed_result env h C g (node s As ts) A e =
    let (p, ep, n) = some_and _ (profile env s) e in
    transport (IsResult env) (sym n.result) (result_inst env As p.result n.proper (h s p ep).1)

-- `=` has the type of its operands
pub equal_types : (env : Env) (C : List Ty) (As : Tys) (x y : Term) → HasSome env C (node base.equal_sym As (cons x (cons y nil)))
    → (a : Ty) × (As ≡ at_type a) × Typed env C x a × Typed env C y a
equal_types env C As x y (A, h) =
    let (a, ea) = one_type_only As h.count in
    let into : (t : Term) → Typed env (inside C base.equal_sym As) t (type_at As 0) → Typed env C t a =
    λ t k. transport (λ D. Typed env D t a) (inside_plain C base.equal_sym As binds_equal) (transport (λ Bs. Typed env (inside C base.equal_sym As) t (type_at Bs 0)) ea k) in
    (a, ea, into x h.children.0, into y h.children.1.0)
