-- Which goals have an induction, and the hypotheses of a premise.
use Rattle.std.proofs.Common.{◌≡◌, ◌≢◌, ℕ, zero, suc, ◌+◌, ◌-◌, ◌≤◌, ◌<◌, Bool as Boolean, true, false, cond, List, [], ◌∷◌, ◌++◌, length, take, drop, map, get_or, Option, Some, None, ap, sym, ◌∙◌, subst, refl, arith, append_assoc}
use Rattle.std.specs.Prelude.{◌==◌, if◌then◌else◌}
use Rattle.std.specs.List.{cons_option}
use Rattle.std.proofs.lemmas.Bool.{eqb-true}
use Rattle.ev_terms.specs.declared.types.Ty.{Ty}
use Rattle.ev_terms.specs.declared.types.Ty.TheVariants.{Pow, Prod}
use Rattle.ev_terms.specs.declared.types.Tys.{Tys, Empty}
use Rattle.ev_terms.specs.declared.types.Sym.TheVariants.{Base, User}
use Rattle.ev_terms.specs.Types.{more, type_list, Pow-pow, Prod-prod}
use Rattle.ev_terms.specs.Term.{Term, Terms, var, lit, node, nil, cons}
use Rattle.ev_terms.specs.Substitution.{shift, substitute as put_into, type_inst, type_at}
use Rattle.ev_forms.specs.Forms.{forall, call, vars}
use Rattle.ev_typing.specs.declared.typing.DataDecl.{DataDecl}
use Rattle.ev_typing.specs.declared.typing.Var.{Var}
use Rattle.ev_typing.specs.declared.typing.Sequent.{Sequent}
use Rattle.ev_typing.specs.declared.typing.Con.{Con}
use Rattle.ev_typing.specs.TypeLists.{types}
use Rattle.ev_typing.specs.Env.{Env, field_types}
use Rattle.ev_typing.proofs.Names.{drop_at, drop_all}
use Rattle.ev_data.specs.Induction.{is_recursive, recursive_vars, put_under, induction_premise, forall_parts, premises_of, premises_for, induction_premises}
use Rattle.ev_data.specs.inner.Tests.{recursive_from}
use Rattle.ev_data.proofs.Lists.{append_nil}

-- The goals.
pub forall_found : (env : Env) (S : Sequent) (A : Ty) (P : Term) → S.goal ≡ forall A P → premises_for env S ≡ induction_premises env S A P
forall_found env S A P e = ap (λ t. premises_of env S (forall_parts t)) e

-- what stands under `!`, where the row is that of `!`
abbrev pub parts_if : Boolean → Ty → Term → Option (Ty × Term)
parts_if b A P = let p : Ty × Term = (A, P) in cond b (Some p) None

no_parts : (t : Term) → ((A : Ty) (P : Term) → t ≢ forall A P) → forall_parts t ≡ None
no_parts (var i) h = refl
no_parts (lit n) h = refl
no_parts (node (User n) As ts) h = refl
no_parts (node (Base k) Empty ts) h = refl
no_parts (node (Base k) (more A (more B As)) ts) h = refl
no_parts (node (Base k) (more A Empty) nil) h = refl
no_parts (node (Base k) (more A Empty) (cons P (cons Q ts))) h = refl
no_parts (node (Base k) (more A Empty) (cons P nil)) h = by (k == 7) refl
  where
    by : (b : Boolean) → (k == 7) ≡ b → parts_if b A P ≡ None
    by true e = absurd (h A P (ap (λ j. node (Base j) (more A Empty) (cons P nil)) (eqb-true k 7 e)))
    by false e = refl

pub forall_none : (env : Env) (S : Sequent) → ((A : Ty) (P : Term) → S.goal ≢ forall A P) → premises_for env S ≡ None
forall_none env S h = ap (premises_of env S) (no_parts S.goal h)

pub none_over-Pow : (env : Env) (S : Sequent) (A : Ty) (P : Term) → induction_premises env S (Pow A) P ≡ None
none_over-Pow env S A P = ap (λ B. induction_premises env S B P) (Pow-pow A)

pub none_over-Prod : (env : Env) (S : Sequent) (A B : Ty) (P : Term) → induction_premises env S (Prod A B) P ≡ None
none_over-Prod env S A B P = ap (λ C. induction_premises env S C P) (Prod-prod A B)

pub ruleset other_types = (none_over-Pow, none_over-Prod)

-- The hypotheses from a field on.
abbrev pub put : Term → Term → Term
put P x = put_into P (x ∷ [])

from_here : (d : DataDecl) (n i : ℕ) (fs : List Var) (f : Var) → f ≡ get_or fs i f → i < length fs →
    recursive_from d n i (drop i fs) ≡ (if is_recursive d f.ty then var (n - (i + 1)) ∷ recursive_from d n (i + 1) (drop (i + 1) fs) else recursive_from d n (i + 1) (drop (i + 1) fs))
from_here d n i fs f e h = ap (recursive_from d n i) (drop_at fs i f e h) ∙ by (is_recursive d f.ty)
  where
    by : (b : Boolean) → cons_option (if b then Some (var (n - (i + 1))) else None) (recursive_from d n (i + 1) (drop (i + 1) fs))
        ≡ (if b then var (n - (i + 1)) ∷ recursive_from d n (i + 1) (drop (i + 1) fs) else recursive_from d n (i + 1) (drop (i + 1) fs))
    by true = refl
    by false = refl

pub hyp_added : (d : DataDecl) (n i : ℕ) (fs : List Var) (f : Var) (A : Ty) (P x t : Term) (hyps new whole : List Term) → f ≡ get_or fs i f → i < length fs → A ≡ f.ty → true ≡ is_recursive d A →
    x ≡ var (n - (i + 1)) → t ≡ put P x → new ≡ hyps ++ t ∷ [] →
    hyps ++ map (put P) (recursive_from d n i (drop i fs)) ≡ whole → new ++ map (put P) (recursive_from d n (i + 1) (drop (i + 1) fs)) ≡ whole
hyp_added d n i fs f A P x t hyps new whole e h p r v q w k =
    let b : is_recursive d f.ty ≡ true = sym (r ∙ ap (is_recursive d) p) in
    let rest : List Term = recursive_from d n (i + 1) (drop (i + 1) fs) in
    let s : recursive_from d n i (drop i fs) ≡ var (n - (i + 1)) ∷ rest = from_here d n i fs f e h ∙ ap (λ c. if c then var (n - (i + 1)) ∷ rest else rest) b in
    ap (λ us. us ++ map (put P) rest) (w ∙ ap (λ u. hyps ++ u ∷ []) (q ∙ ap (put P) v)) ∙ append_assoc hyps (put P (var (n - (i + 1))) ∷ []) (map (put P) rest)
    ∙ sym (ap (λ us. hyps ++ map (put P) us) s) ∙ k

pub hyp_kept : (d : DataDecl) (n i : ℕ) (fs : List Var) (f : Var) (A : Ty) (P : Term) (hyps whole : List Term) → f ≡ get_or fs i f → i < length fs → A ≡ f.ty → false ≡ is_recursive d A →
    hyps ++ map (put P) (recursive_from d n i (drop i fs)) ≡ whole → hyps ++ map (put P) (recursive_from d n (i + 1) (drop (i + 1) fs)) ≡ whole
hyp_kept d n i fs f A P hyps whole e h p r k =
    let b : is_recursive d f.ty ≡ false = sym (r ∙ ap (is_recursive d) p) in
    let rest : List Term = recursive_from d n (i + 1) (drop (i + 1) fs) in
    let s : recursive_from d n i (drop i fs) ≡ rest = from_here d n i fs f e h ∙ ap (λ c. if c then var (n - (i + 1)) ∷ rest else rest) b in
    sym (ap (λ us. hyps ++ map (put P) us) s) ∙ k

pub hyps_end : (d : DataDecl) (n i : ℕ) (fs : List Var) (P : Term) (hyps whole : List Term) → length fs ≤ i → hyps ++ map (put P) (recursive_from d n i (drop i fs)) ≡ whole → hyps ≡ whole
hyps_end d n i fs P hyps whole h k = sym (append_nil hyps) ∙ sym (ap (λ gs. hyps ++ map (put P) (recursive_from d n i gs)) (drop_all fs i h)) ∙ k

pub ruleset hypotheses = (hyp_added, hyp_kept, hyps_end)

-- A premise from its parts.
abbrev made_of : Tys → List Term → Term → Sequent
made_of X Hs G = record { context = X; hyps = Hs; goal = G }

map_count : (θ : ℕ → Ty) (fs : List Var) → length (map (type_inst θ) (map (λ (f : Var). f.ty) fs)) ≡ length fs
map_count θ [] = refl
map_count θ (f ∷ fs) = ap suc (map_count θ fs)

pub premise_made : (S : Sequent) (d : DataDecl) (As : Tys) (P : Term) (c : Con) (n : ℕ) (fields : List Ty) (context : Tys) (raised made goal : Term) (hyps all : List Term) → n ≡ length c.fields →
    fields ≡ map (type_inst (type_at As)) (field_types c) → context ≡ types (type_list S.context ++ fields) → raised ≡ shift P 1 n → hyps ≡ map (λ H. shift H 0 n) S.hyps →
    all ≡ hyps ++ map (λ (x : Term). put_into raised (x ∷ [])) (recursive_vars d c) → made ≡ call c.name As (vars n) → goal ≡ put_into raised (made ∷ []) →
    record { context = context; hyps = all; goal = goal } ≡ induction_premise S d As P c
premise_made S d As P c n fields context raised made goal hyps all e f k r h a m g =
    let Bs : List Ty = map (type_inst (type_at As)) (field_types c) in
    let p : context ≡ types (type_list S.context ++ Bs) = k ∙ ap (λ Xs. types (type_list S.context ++ Xs)) f in
    let w : raised ≡ shift P 1 (length c.fields) = r ∙ ap (shift P 1) e in
    let l : n ≡ length Bs = e ∙ sym (map_count (type_at As) c.fields) in
    let q : all ≡ map (λ H. shift H 0 (length Bs)) S.hyps ++ map (put_under (length c.fields) P) (recursive_vars d c) =
    a ∙ ap (λ Hs. Hs ++ map (λ (x : Term). put_into raised (x ∷ [])) (recursive_vars d c)) (h ∙ ap (λ j. map (λ H. shift H 0 j) S.hyps) l)
    ∙ ap (λ t. map (λ H. shift H 0 (length Bs)) S.hyps ++ map (λ (x : Term). put_into t (x ∷ [])) (recursive_vars d c)) w in
    let s : goal ≡ put_under (length c.fields) P (call c.name As (vars (length c.fields))) =
    g ∙ ap (λ t. put_into t (made ∷ [])) w ∙ ap (λ x. put_into (shift P 1 (length c.fields)) (x ∷ [])) (m ∙ ap (λ j. call c.name As (vars j)) e) in
    ap (λ X. made_of X all goal) p ∙ ap (λ Hs. made_of (types (type_list S.context ++ Bs)) Hs goal) q
    ∙ ap (made_of (types (type_list S.context ++ Bs)) (map (λ H. shift H 0 (length Bs)) S.hyps ++ map (put_under (length c.fields) P) (recursive_vars d c))) s
