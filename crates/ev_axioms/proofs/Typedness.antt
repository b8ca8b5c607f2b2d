-- What the test of typing says.
use Rattle.std.specs.Prelude.{◌≡◌, ◌==◌, ◌&&◌, ◌^◌, ◌<◌, ℕ, nat_lt, Bool as Boolean, true, false, List, [], ◌∷◌, Option, Some, None, map, length, IsSomeAnd, refl}
use Rattle.std.proofs.Common.{ap, sym, ◌∙◌, arith, true≢false}
use Rattle.std.proofs.lemmas.Bool.{eqb-true}
use Rattle.std.proofs.lemmas.Bool.Decides.{nat_tests}
use Rattle.ev_terms.specs.declared.types.Ty.{Ty, Int, Bool, Prop, Param, Data}
use Rattle.ev_terms.specs.declared.types.Tys.{Tys}
use Rattle.ev_terms.specs.declared.types.Sym.TheVariants.{Base, User}
use Rattle.ev_terms.specs.Types.{pow, prod, type_list}
use Rattle.ev_terms.specs.Term.{Term, Terms, var, lit, node, nil, cons}
use Rattle.ev_terms.specs.Substitution.{type_inst, type_at}
use Rattle.ev_typing.specs.Profiles.{Profile, base_profile}
use Rattle.ev_typing.specs.Env.{Env}
use Rattle.ev_typing.specs.Typing.{AreProper, Typed, AreTyped, IsTypedNode, var_type, inside}
use Rattle.ev_typing.specs.Proper.{are_proper}
use Rattle.ev_typing.specs.Occurs.{IsPlain, ArePlain}
use Rattle.ev_typing.proofs.Proper.{all_proper_from_test}
use Rattle.ev_axioms.specs.AxiomLaws.{IsOfBaseSymbols, AreOfBaseSymbols}
use Rattle.ev_axioms.specs.inner.Checks.{same_type, is_type, is_node, is_typed, are_typed}

and_split : (a b : Boolean) → (a && b) ≡ true → (a ≡ true) × (b ≡ true)
and_split true b e = (refl, e)
and_split false b e = cc

same : (A B : Ty) → same_type A B ≡ true → A ≡ B
same Int Int e = refl
same Bool Bool e = refl
same Prop Prop e = refl
same (Param i) (Param j) e = ap Param (eqb-true i j e)
same (pow A) (pow B) e = ap (λ C. pow C) (same A B e)
same (prod A B) (prod C D) e =
    let h = and_split (same_type A C) (same_type B D) e in
    ap (λ X. prod X B) (same A C h.0) ∙ ap (λ X. prod C X) (same B D h.1)
same Int Bool e = cc
same Int Prop e = cc
same Int (Param j) e = cc
same Int (pow C) e = cc
same Int (prod C D) e = cc
same Int (Data m Bs) e = cc
same Bool Int e = cc
same Bool Prop e = cc
same Bool (Param j) e = cc
same Bool (pow C) e = cc
same Bool (prod C D) e = cc
same Bool (Data m Bs) e = cc
same Prop Int e = cc
same Prop Bool e = cc
same Prop (Param j) e = cc
same Prop (pow C) e = cc
same Prop (prod C D) e = cc
same Prop (Data m Bs) e = cc
same (Param i) Int e = cc
same (Param i) Bool e = cc
same (Param i) Prop e = cc
same (Param i) (pow C) e = cc
same (Param i) (prod C D) e = cc
same (Param i) (Data m Bs) e = cc
same (pow A) Int e = cc
same (pow A) Bool e = cc
same (pow A) Prop e = cc
same (pow A) (Param j) e = cc
same (pow A) (prod C D) e = cc
same (pow A) (Data m Bs) e = cc
same (prod A B) Int e = cc
same (prod A B) Bool e = cc
same (prod A B) Prop e = cc
same (prod A B) (Param j) e = cc
same (prod A B) (pow C) e = cc
same (prod A B) (Data m Bs) e = cc
same (Data n As) Int e = cc
same (Data n As) Bool e = cc
same (Data n As) Prop e = cc
same (Data n As) (Param j) e = cc
same (Data n As) (pow C) e = cc
same (Data n As) (prod C D) e = cc
same (Data n As) (Data m Bs) e = cc

is_of_type : (o : Option Ty) (A : Ty) → is_type o A ≡ true → o ≡ Some A
is_of_type None A e = cc
is_of_type (Some B) A e = ap (λ C. Some C) (same B A e)

node_typed : (o : Option Profile) (As : Tys) (A : Ty) (f : List Ty → Boolean) (P : List Ty → Type 0) → ((Bs : List Ty) → f Bs ≡ true → P Bs) → is_node o As A f ≡ true →
    IsSomeAnd o (λ p. IsTypedNode [] As p A (P (map (type_inst (type_at As)) p.args)))
node_typed None As A f P k e = cc
node_typed (Some p) As A f P k e =
    let a = and_split (length (type_list As) == p.params) (are_proper [] As && (same_type A (type_inst (type_at As) p.result) && f (map (type_inst (type_at As)) p.args))) e in
    let b = and_split (are_proper [] As) (same_type A (type_inst (type_at As) p.result) && f (map (type_inst (type_at As)) p.args)) a.1 in
    let c = and_split (same_type A (type_inst (type_at As) p.result)) (f (map (type_inst (type_at As)) p.args)) b.1 in
    record {
      count = eqb-true (length (type_list As)) p.params a.0;
      proper = all_proper_from_test [] As b.0;
      children = k (map (type_inst (type_at As)) p.args) c.1;
      result = same A (type_inst (type_at As) p.result) c.0;
    }

below : (n m : ℕ) → nat_lt n m ≡ true → n < m
below n m e = grind (arith, nat_tests)

mutual
  pub typed_by : (C : List Ty) (t : Term) (A : Ty) → is_typed C t A ≡ true → Typed [] C t A
  typed_by C (var i) A e = is_of_type (var_type C i) A e
  typed_by C (lit n) A e =
      let h = and_split (nat_lt n 170141183460469231731687303715884105728) (same_type A Int) e in
      (below n 170141183460469231731687303715884105728 h.0, same A Int h.1)
  typed_by C (node (Base k) As ts) A e =
      node_typed (base_profile k) As A (λ Bs. are_typed (inside C (Base k) As) ts Bs) (λ Bs. AreTyped [] (inside C (Base k) As) ts Bs) (all_typed_by (inside C (Base k) As) ts) e
  typed_by C (node (User n) As ts) A e = cc

  pub all_typed_by : (C : List Ty) (ts : Terms) (As : List Ty) → are_typed C ts As ≡ true → AreTyped [] C ts As
  all_typed_by C nil [] e = tt
  all_typed_by C nil (A ∷ As) e = cc
  all_typed_by C (cons t ts) [] e = cc
  all_typed_by C (cons t ts) (A ∷ As) e =
      let h = and_split (is_typed C t A) (are_typed C ts As) e in
      (typed_by C t A h.0, all_typed_by C ts As h.1)

-- What is typed where nothing is declared has base symbols alone.
some_out : {X Q : Type 0} {P : X → Type 0} (o : Option X) → ((x : X) → P x → Q) → IsSomeAnd o P → Q
some_out None f h = absurd h
some_out (Some x) f h = f x h

mutual
  pub base_symbols : (C : List Ty) (t : Term) (A : Ty) → Typed [] C t A → IsOfBaseSymbols t
  base_symbols C (var i) A h = tt
  base_symbols C (lit n) A h = tt
  base_symbols C (node (Base k) As ts) A h = some_out (base_profile k) (λ p g. all_base_symbols (inside C (Base k) As) ts (map (type_inst (type_at As)) p.args) g.children) h
  base_symbols C (node (User n) As ts) A h = h

  pub all_base_symbols : (C : List Ty) (ts : Terms) (As : List Ty) → AreTyped [] C ts As → AreOfBaseSymbols ts
  all_base_symbols C nil As h = tt
  all_base_symbols C (cons t ts) [] h = absurd h
  all_base_symbols C (cons t ts) (A ∷ As) h = (base_symbols C t A h.0, all_base_symbols C ts As h.1)

mutual
  pub base_plain : (env : Env) (t : Term) → IsOfBaseSymbols t → IsPlain env t
  base_plain env (var i) h = tt
  base_plain env (lit n) h = tt
  base_plain env (node (Base k) As ts) h = (refl, all_base_plain env ts h)
  base_plain env (node (User n) As ts) h = absurd h

  pub all_base_plain : (env : Env) (ts : Terms) → AreOfBaseSymbols ts → ArePlain env ts
  all_base_plain env nil h = tt
  all_base_plain env (cons t ts) h = (base_plain env t h.0, all_base_plain env ts h.1)
