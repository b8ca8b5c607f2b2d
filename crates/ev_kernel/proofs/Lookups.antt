-- What datatypes and recursive operators give over a part of an environment they give over the whole.
use Rattle.std.specs.Prelude.{◌≡◌, ℕ, List, Option, Some, None, slice_get, option_map, map, refl}
use Rattle.std.proofs.Common.{ap, ◌∙◌}
use Rattle.ev_terms.specs.declared.types.Ty.{Ty, Int, Bool, Prop, Param, Data as DataType}
use Rattle.ev_terms.specs.declared.types.Tys.{Tys}
use Rattle.ev_terms.specs.Types.{pow, prod, type_list}
use Rattle.ev_terms.specs.Term.{Term}
use Rattle.ev_typing.specs.declared.typing.Sequent.{Sequent}
use Rattle.ev_typing.specs.declared.typing.Signature.{Signature}
use Rattle.ev_typing.specs.declared.typing.DataDecl.{DataDecl}
use Rattle.ev_typing.specs.Env.{Env, Name, Symbol, ConOf, DesOf, ConstantOf, DirectOf, RecursiveOf, find_symbol, find_data, symbols}
use Rattle.ev_typing.specs.Parts.{IsPartOf, HasDistinctNames}
use Rattle.ev_typing.specs.WellFormed.{data_of, inductive_data}
use Rattle.ev_typing.proofs.Entries.{symbols_named}
use Rattle.ev_typing.proofs.Wholes.{HasAll, found_part}
use Rattle.ev_data.specs.Closed.{destructor_of, destructor_row, distinctness_of, distinctness_row, recursion_in, recursion_of, recursion_row}
use Rattle.ev_data.specs.Induction.{induction_premise, induction_premises, forall_parts, premises_of, premises_for}

symbol_over : (e f : Env) → IsPartOf e f → HasDistinctNames f → (n : Name) (s : Symbol) → find_symbol e n ≡ Some s → find_symbol f n ≡ Some s
symbol_over e f i w n s h = found_part symbols symbols_named e f n s w i h

pub destructor_over : (e f : Env) → IsPartOf e f → HasDistinctNames f → (con : Name) (place : ℕ) (P : Term) → destructor_row e con place ≡ Some P → destructor_row f con place ≡ Some P
destructor_over e f i w con place P h = by (find_symbol e con) refl h
  where
    by : (o : Option Symbol) → find_symbol e con ≡ o → destructor_of o place ≡ Some P → destructor_row f con place ≡ Some P
    by None q g = cc
    by (Some s) q g = ap (λ o. destructor_of o place) (symbol_over e f i w con s q) ∙ g

pub distinctness_over : (e f : Env) → IsPartOf e f → HasDistinctNames f → (left right : Name) (P : Term) → distinctness_row e left right ≡ Some P → distinctness_row f left right ≡ Some P
distinctness_over e f i w left right P h = by (find_symbol e left) (find_symbol e right) refl refl h
  where
    by : (o r : Option Symbol) → find_symbol e left ≡ o → find_symbol e right ≡ r → distinctness_of o r ≡ Some P → distinctness_row f left right ≡ Some P
    by None r p q g = cc
    by (Some (ConOf d c)) None p q g = cc
    by (Some (DesOf d c j v)) None p q g = cc
    by (Some (ConstantOf sig condition)) None p q g = cc
    by (Some (DirectOf sig condition body)) None p q g = cc
    by (Some (RecursiveOf sig condition place bodies)) None p q g = cc
    by (Some s) (Some t) p q g =
        ap (λ o. distinctness_of o (find_symbol f right)) (symbol_over e f i w left s p) ∙ ap (distinctness_of (Some s)) (symbol_over e f i w right t q) ∙ g

data_over : (e f : Env) → HasAll e f → (o : Option Ty) (p : DataDecl × Tys) → data_of e o ≡ Some p → data_of f o ≡ Some p
data_over e f k None p h = cc
data_over e f k (Some Int) p h = cc
data_over e f k (Some Bool) p h = cc
data_over e f k (Some Prop) p h = cc
data_over e f k (Some (Param j)) p h = cc
data_over e f k (Some (pow A)) p h = cc
data_over e f k (Some (prod A B)) p h = cc
data_over e f k (Some (DataType n As)) p h = by (find_data e n) refl h
  where
    by : (o : Option DataDecl) → find_data e n ≡ o → option_map (λ d. (d, As)) o ≡ Some p → option_map (λ d. (d, As)) (find_data f n) ≡ Some p
    by None q g = cc
    by (Some d) q g = ap (option_map (λ d. (d, As))) (k.decls n d q) ∙ g

pub recursion_over : (e f : Env) → IsPartOf e f → HasDistinctNames f → HasAll e f → (op con : Name) (P : Term) → recursion_row e op con ≡ Some P → recursion_row f op con ≡ Some P
recursion_over e f i w k op con P h = by (find_symbol e op) refl h
  where
    in_data : (sig : Signature) (place : ℕ) (bodies : List Term) (o : Option (DataDecl × Tys)) → inductive_data e sig place ≡ o → recursion_in sig place bodies con o ≡ Some P →
        recursion_in sig place bodies con (inductive_data f sig place) ≡ Some P
    in_data sig place bodies None q g = cc
    in_data sig place bodies (Some p) q g =
        ap (recursion_in sig place bodies con) (data_over e f k (slice_get (type_list sig.args) place) p q) ∙ g

    by : (o : Option Symbol) → find_symbol e op ≡ o → recursion_of e o con ≡ Some P → recursion_row f op con ≡ Some P
    by None q g = cc
    by (Some (ConOf d c)) q g = cc
    by (Some (DesOf d c j v)) q g = cc
    by (Some (ConstantOf sig condition)) q g = cc
    by (Some (DirectOf sig condition body)) q g = cc
    by (Some (RecursiveOf sig condition place bodies)) q g =
        ap (λ o. recursion_of f o con) (symbol_over e f i w op (RecursiveOf sig condition place bodies) q) ∙ in_data sig place bodies (inductive_data e sig place) refl g

premises_at : (e f : Env) → HasAll e f → (S : Sequent) (A : Ty) (P : Term) (ps : List Sequent) → induction_premises e S A P ≡ Some ps → induction_premises f S A P ≡ Some ps
premises_at e f k S Int P ps h = cc
premises_at e f k S Bool P ps h = cc
premises_at e f k S Prop P ps h = cc
premises_at e f k S (Param j) P ps h = cc
premises_at e f k S (pow A) P ps h = cc
premises_at e f k S (prod A B) P ps h = cc
premises_at e f k S (DataType n As) P ps h = by (find_data e n) refl h
  where
    by : (o : Option DataDecl) → find_data e n ≡ o → option_map (λ (d : DataDecl). map (induction_premise S d As P) d.cons) o ≡ Some ps →
        option_map (λ (d : DataDecl). map (induction_premise S d As P) d.cons) (find_data f n) ≡ Some ps
    by None q g = cc
    by (Some d) q g = ap (option_map (λ (d : DataDecl). map (induction_premise S d As P) d.cons)) (k.decls n d q) ∙ g

pub premises_over : (e f : Env) → HasAll e f → (S : Sequent) (ps : List Sequent) → premises_for e S ≡ Some ps → premises_for f S ≡ Some ps
premises_over e f k S ps h = by (forall_parts S.goal) h
  where
    by : (o : Option (Ty × Term)) → premises_of e S o ≡ Some ps → premises_of f S o ≡ Some ps
    by None g = cc
    by (Some (A, P)) g = premises_at e f k S A P ps g
