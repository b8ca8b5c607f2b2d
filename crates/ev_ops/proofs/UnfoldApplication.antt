-- An application of a direct operator, wherever it is declared, unfolds to its unfolded body.
use Rattle.std.specs.Prelude.{◌≡◌, ◌⊎◌, ◌++◌, Bool as Boolean, true, false, List, [], ◌∷◌, Option, Some, None, map, flat_map, cond, bytes_eq, refl}
use Rattle.std.proofs.Common.{sym, ap, ◌∙◌, subst as transport}
use mathlib.Core.Logic.{inl, inr}
use Rattle.std.proofs.lemmas.List.{append-nil}
use Rattle.ev_terms.specs.declared.types.Tys.{Tys}
use Rattle.ev_terms.specs.declared.types.Sym.TheVariants.{User}
use Rattle.ev_terms.specs.Term.{Term, Terms, node, nil, cons, term_list}
use Rattle.ev_terms.specs.Substitution.{fill, instance}
use Rattle.ev_typing.specs.declared.typing.Entry.{Entry}
use Rattle.ev_typing.specs.declared.typing.Entry.TheVariants.{Data, Constant, Direct, Recursive}
use Rattle.ev_typing.specs.declared.typing.Signature.{Signature}
use Rattle.ev_typing.specs.declared.typing.DataDecl.{DataDecl}
use Rattle.ev_typing.specs.Env.{Env, Name, Symbol, ConstantOf, DirectOf, RecursiveOf, look_up, con_symbols, symbols, find_symbol}
use Rattle.ev_typing.specs.Occurs.{is_direct_symbol}
use Rattle.ev_typing.specs.WellFormed.{IsWellFormed}
use Rattle.ev_ops.specs.Unfold.{Bodies, unfold_by, unfold_all_by, bodies_after, unfolded}
use Rattle.ev_ops.specs.UnfoldLaws.{UnfoldedApplication}
use Rattle.ev_ops.proofs.UnfoldEquation.{look_up_split, bytes_same, unfolded-direct}
use Rattle.ev_ops.proofs.UnfoldLaws.{cons_plain, look_up_plain}

module _ (n : Name) (sig : Signature) (c : Option Term) (body : Term) where
  -- no other symbol is a direct operator
  other : (x : Symbol) (b : Boolean) → is_direct_symbol (Some x) ≡ false → cond b (Some x) None ≡ Some (DirectOf sig c body) → ⊥
  other x true p q = let e : false ≡ true = sym p ∙ ap is_direct_symbol q in cc
  other x false p q = cc

  of_data : (d : DataDecl) → look_up (flat_map (con_symbols d) d.cons) n ≡ Some (DirectOf sig c body) → ⊥
  of_data d q = let e : false ≡ true = sym plain ∙ ap is_direct_symbol q in cc
    where
      plain : is_direct_symbol (look_up (flat_map (con_symbols d) d.cons) n) ≡ false
      plain = transport (λ ps. is_direct_symbol (look_up ps n) ≡ false) (append-nil (flat_map (con_symbols d) d.cons)) (look_up_plain (flat_map (con_symbols d) d.cons) [] n (cons_plain d d.cons) refl)

  this : (s : Signature) (k : Option Term) (t : Term) (b : Boolean) → bytes_eq s.name n ≡ b → cond b (Some (DirectOf s k t)) None ≡ Some (DirectOf sig c body) → (Direct s k t ≡ Direct sig c body) × (sig.name ≡ n)
  this s k t true h q = (cc, (let e : s ≡ sig = cc in sym (ap (λ (x : Signature). x.name) e) ∙ bytes_same s.name n h))
  this s k t false h q = let no : ⊥ = cc in absurd no

  -- the entry in which it is found
  entry : (d : Entry) → look_up (symbols d) n ≡ Some (DirectOf sig c body) → (d ≡ Direct sig c body) × (sig.name ≡ n)
  entry (Data d) q = absurd (of_data d q)
  entry (Constant s k) q = absurd (other (ConstantOf s k) (bytes_eq s.name n) refl q)
  entry (Direct s k t) q = this s k t (bytes_eq s.name n) refl q
  entry (Recursive s k p ts) q = absurd (other (RecursiveOf s k p ts) (bytes_eq s.name n) refl q)

  pub stands : (env : Env) → find_symbol env n ≡ Some (DirectOf sig c body) → (e r : List Entry) × (env ≡ e ++ Direct sig c body ∷ r) × (sig.name ≡ n)
  stands [] q = let no : ⊥ = cc in absurd no
  stands (d ∷ env) q = here (stands env) (look_up_split (symbols d) (flat_map symbols env) n (DirectOf sig c body) q)
    where
      here : (find_symbol env n ≡ Some (DirectOf sig c body) → (e r : List Entry) × (env ≡ e ++ Direct sig c body ∷ r) × (sig.name ≡ n))
          → (look_up (symbols d) n ≡ Some (DirectOf sig c body)) ⊎ (find_symbol env n ≡ Some (DirectOf sig c body))
          → (e r : List Entry) × (d ∷ env ≡ e ++ Direct sig c body ∷ r) × (sig.name ≡ n)
      here rest (inl p) = let x = entry d p in ([], env, ap (λ y. y ∷ env) x.0, x.1)
      here rest (inr p) = let x = rest p in (d ∷ x.0, x.1, ap (λ ys. d ∷ ys) x.2, x.3)

all_list : (bs : Bodies) (ts : Terms) → term_list (unfold_all_by bs ts) ≡ map (unfold_by bs) (term_list ts)
all_list bs nil = refl
all_list bs (cons t ts) = ap (λ us. unfold_by bs t ∷ us) (all_list bs ts)

-- in an environment that is split where the operator stands
split_at : (e r : List Entry) (sig : Signature) (c : Option Term) (body : Term) (As : Tys) (ts : Terms) → IsWellFormed (e ++ Direct sig c body ∷ r)
    → unfolded (e ++ Direct sig c body ∷ r) (node (User sig.name) As ts) ≡ fill (instance (unfolded (e ++ Direct sig c body ∷ r) body) As) (map (unfolded (e ++ Direct sig c body ∷ r)) (term_list ts))
split_at e r sig c body As ts w =
    unfolded-direct e r sig c body As ts w ∙ ap (fill (instance (unfolded (e ++ Direct sig c body ∷ r) body) As)) (all_list (bodies_after [] (e ++ Direct sig c body ∷ r)) ts)

abbrev Says : Env → Name → Tys → Terms → Term → Type 0
Says env n As ts body = unfolded env (node (User n) As ts) ≡ fill (instance (unfolded env body) As) (map (unfolded env) (term_list ts))

pub unfolded_application : UnfoldedApplication
unfolded_application env w C n As ts A h sig c body found =
    transport (λ m. Says env m As ts body) s.3 (transport (λ x. IsWellFormed x → Says x sig.name As ts body) (sym s.2) (split_at s.0 s.1 sig c body As ts) w)
  where
    s : (e r : List Entry) × (env ≡ e ++ Direct sig c body ∷ r) × (sig.name ≡ n)
    s = stands n sig c body env found
