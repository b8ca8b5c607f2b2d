-- A case of a recursive operator as it is written in a scope, and as it stands in the environment.
use Rattle.std.specs.Prelude.{◌≡◌, ℕ, Bool as Boolean, true, false, List, [], ◌∷◌, Option, Some, None, bytes_eq, if◌then◌else◌, IsSomeAnd, Contains, refl}
use Rattle.std.specs.Option.{option_or}
use Rattle.std.specs.List.{AllZip}
use Rattle.std.proofs.Common.{ap, sym, ◌∙◌, subst as transport}
use Rattle.ev_terms.specs.declared.types.Tys.{Tys}
use Rattle.ev_terms.specs.Term.{Term}
use Rattle.ev_typing.specs.declared.typing.Signature.{Signature}
use Rattle.ev_typing.specs.declared.typing.DataDecl.{DataDecl}
use Rattle.ev_typing.specs.declared.typing.Con.{Con}
use Rattle.ev_typing.specs.Env.{Env, Name, RecursiveOf, look_up, find_symbol}
use Rattle.ev_typing.specs.Typing.{Typed}
use Rattle.ev_typing.specs.WellFormed.{IsWellFormed, IsGoodBody, inductive_data, case_context}
use Rattle.ev_typing.proofs.Names.{same_name}
use Rattle.ev_data.specs.Closed.{cases_by_name}
use Rattle.ev_data.proofs.Environments.{IsGoodRecursion, symbol_good}
use Rattle.ev_rules.specs.declared.elements.Element.{Element}
use Rattle.ev_rules.specs.declared.elements.Element.TheVariants.{Import, Params, Data, Direct, Recursive, Constant, Axiom, Theorem, Rewrite, Inference}
use Rattle.ev_ops.specs.Unfold.{unfolded}
use Rattle.ev_ops.specs.Formulas.{HasFormulas, IsFormula, AreBodies}
use Rattle.ev_ops.proofs.Basics.{contains_more, contains_first}
use Rattle.ev_replay.specs.declared.scopes.Scope.{Scope}
use Rattle.ev_replay.specs.declared.scopes.CiteElement.{CiteElement}
use Rattle.ev_replay.specs.Scopes.{IsScope, elements_of, bodies_of, written_in}
use Rattle.ev_sound.proofs.Named.{all_at}
use Rattle.ev_sound.proofs.Twice.{unfolded_twice}
use Rattle.ev_sound.proofs.Written.{IsWrittenIn, written_there, AreFrom, are_from, case_mapped, found_case}

-- the element that writes a recursive operator
record IsWriter (n : Name) (xs : List Element) (written : List Term) : Type 0 where
  pub sig : Signature
  pub condition : Option Term
  pub place : ℕ
  pub there : Contains xs (Recursive sig condition place written)
  pub named : sig.name ≡ n

this_writer : (n : Name) (x : Element) (xs : List Element) (written : List Term) → bodies_of n x ≡ Some written → IsWriter n (x ∷ xs) written
this_writer n (Import m) xs written e = cc
this_writer n (Params ns) xs written e = cc
this_writer n (Data d) xs written e = cc
this_writer n (Direct sig condition body) xs written e = cc
this_writer n (Constant sig condition) xs written e = cc
this_writer n (Axiom label P) xs written e = cc
this_writer n (Theorem label P) xs written e = cc
this_writer n (Rewrite r) xs written e = cc
this_writer n (Inference r) xs written e = cc
this_writer n (Recursive sig condition place bodies) xs written e = by (bytes_eq n sig.name) refl e
  where
    by : (b : Boolean) → bytes_eq n sig.name ≡ b → (if b then Some bodies else None) ≡ Some written → IsWriter n (Recursive sig condition place bodies ∷ xs) written
    by true f g =
        let q : bodies ≡ written = cc in
        record {
          sig = sig;
          condition = condition;
          place = place;
          there = transport (λ bs. Contains (Recursive sig condition place bodies ∷ xs) (Recursive sig condition place bs)) q (contains_first (Recursive sig condition place bodies) xs);
          named = sym (same_name n sig.name f);
        }
    by false f g = cc

writer : (n : Name) (es : List CiteElement) (written : List Term) → written_in n es ≡ Some written → IsWriter n (elements_of es) written
writer n [] written h = cc
writer n (e ∷ es) written h = by (bodies_of n e.element) refl h (writer n es written)
  where
    rest : IsWriter n (elements_of es) written → IsWriter n (elements_of (e ∷ es)) written
    rest k = record {
      sig = k.sig;
      condition = k.condition;
      place = k.place;
      there = contains_more (Recursive k.sig k.condition k.place written) e.element (elements_of es) k.there;
      named = k.named;
    }

    by : (o : Option (List Term)) → bodies_of n e.element ≡ o → option_or o (written_in n es) ≡ Some written → (written_in n es ≡ Some written → IsWriter n (elements_of es) written) → IsWriter n (elements_of (e ∷ es)) written
    by None q g f = rest (f g)
    by (Some bs) q g f = let r : bs ≡ written = cc in this_writer n e.element (elements_of es) written (q ∙ ap Some r)

-- what stands behind an option that is there
at_some : {X : Type 0} (P : X → Type 0) (o : Option X) (x : X) → o ≡ Some x → IsSomeAnd o P → P x
at_some P o x e h = transport (λ p. IsSomeAnd p P) e h

pub record IsWrittenCase (env : Env) (sig : Signature) (place : ℕ) (bodies : List Term) (c : Name) (d : DataDecl) (Ds : Tys) (k : Con) (body : Term) : Type 0 where
  pub unfolded_body : Term
  pub case : look_up (cases_by_name d.cons bodies) c ≡ Some (k, unfolded_body)
  pub same : unfolded env unfolded_body ≡ unfolded env body
  pub typed : Typed env (case_context sig place Ds k) unfolded_body sig.result
  pub written_typed : Typed env (case_context sig place Ds k) body sig.result

pub written_case : (cs : Scope) → IsWellFormed cs.env → IsScope cs → (n : Name) (sig : Signature) (condition : Option Term) (place : ℕ) (bodies written : List Term) (c : Name) (d : DataDecl) (Ds : Tys) (k : Con) (body : Term) →
    find_symbol cs.env n ≡ Some (RecursiveOf sig condition place bodies) → inductive_data cs.env sig place ≡ Some (d, Ds) → written_in n cs.elements ≡ Some written → look_up (cases_by_name d.cons written) c ≡ Some (k, body) →
    IsWrittenCase cs.env sig place bodies c d Ds k body
written_case cs w scope n sig condition place bodies written c d Ds k body f i h e =
    let x = writer n cs.elements written h in
    let element = Recursive x.sig x.condition x.place written in
    let there : IsWrittenIn cs.env x.sig x.condition x.place written =
    transport (λ env. IsWrittenIn env x.sig x.condition x.place written) (sym scope.env_is) (written_there [] (elements_of cs.elements) x.sig x.condition x.place written x.there) in
    let from : AreFrom cs.env sig x.sig place x.place bodies written = are_from cs.env w n sig x.sig condition x.condition place x.place bodies written there x.named f in
    let stated = unfolded from.first body in
    let case : look_up (cases_by_name d.cons bodies) c ≡ Some (k, stated) =
    transport (λ bs. look_up (cases_by_name d.cons bs) c ≡ Some (k, stated)) (sym from.bodies_are) (case_mapped (unfolded from.first) d.cons written c k body e) in
    let formulas : HasFormulas cs.env element = all_at (HasFormulas cs.env) (elements_of cs.elements) element scope.formulas x.there in
    let bodied : AreBodies cs.env sig place written = transport (λ s. AreBodies cs.env s place written) from.signature (transport (λ p. AreBodies cs.env x.sig p written) from.inductive formulas.1) in
    let formula : IsFormula cs.env (case_context sig place Ds k) sig.result body =
    found_case (λ q. IsFormula cs.env (case_context sig place Ds q) sig.result) d.cons written
    (at_some (λ (p : DataDecl × Tys). AllZip (λ (q : Con). IsFormula cs.env (case_context sig place p.1 q) sig.result) p.0.cons written) (inductive_data cs.env sig place) (d, Ds) i bodied) c k body e in
    let good : IsGoodRecursion cs.env sig condition place bodies = symbol_good cs.env w n (RecursiveOf sig condition place bodies) f in
    let good_body : IsGoodBody cs.env sig place Ds k stated =
    found_case (IsGoodBody cs.env sig place Ds) d.cons bodies (at_some (λ (p : DataDecl × Tys). AllZip (IsGoodBody cs.env sig place p.1) p.0.cons bodies) (inductive_data cs.env sig place) (d, Ds) i good.cases) c k stated case in
    record {
      unfolded_body = stated;
      case = case;
      same = unfolded_twice from.first cs.env from.well_formed w from.part (case_context sig place Ds k) body sig.result formula.typed;
      typed = good_body.term.typed;
      written_typed = formula.typed;
    }
