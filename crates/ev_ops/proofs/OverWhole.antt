-- Over an environment of which that of the term is a part, unfolding is the same; and a term without direct operators is unfolded.
use Rattle.std.specs.Prelude.{◌≡◌, ◌++◌, ◌≤◌, ℕ, zero, suc, true, false, [], ◌∷◌, Option, Some, None, length, IsFalse, refl}
use Rattle.std.proofs.Common.{sym, ap, ◌∙◌, subst as transport, arith}
use Rattle.std.proofs.lemmas.List.{length-append}
use Rattle.ev_terms.specs.declared.types.Sym.{Sym}
use Rattle.ev_terms.specs.declared.types.Sym.TheVariants.{Base, User}
use Rattle.ev_terms.specs.Types.{type_list}
use Rattle.ev_terms.specs.Term.{Term, Terms, var, lit, node, nil, cons}
use Rattle.ev_typing.specs.declared.typing.Entry.TheVariants.{Direct}
use Rattle.ev_typing.specs.declared.typing.Signature.{Signature}
use Rattle.ev_typing.specs.Env.{Env, Name, Symbol, ConOf, DesOf, ConstantOf, DirectOf, RecursiveOf, look_up, symbols, find_symbol}
use Rattle.ev_typing.specs.Parts.{IsPartOf}
use Rattle.ev_typing.specs.Occurs.{is_direct_symbol, is_direct, IsPlain, ArePlain}
use Rattle.ev_typing.specs.WellFormed.{IsWellFormed, AreGoodAfter}
use Rattle.ev_typing.proofs.Entries.{symbols_named}
use Rattle.ev_typing.proofs.Wholes.{found_part}
use Rattle.ev_ops.specs.Unfold.{body_of, unfolded_node, unfold_all_by, bodies_after, unfolded}
use Rattle.ev_ops.specs.UnfoldLaws.{PlainIsUnfolded, UnfoldedOverWhole}
use Rattle.ev_ops.proofs.UnfoldEquation.{alike, direct_body, good_at, unfolded-first}
use Rattle.ev_ops.proofs.UnfoldApplication.{stands}
use Rattle.ev_ops.proofs.Fitting.{found_body, body_found}
use Rattle.ev_ops.proofs.Keeping.{front_distinct}

-- A name that is no direct operator has no body.
no_body : (env : Env) → IsWellFormed env → (n : Name) → is_direct_symbol (find_symbol env n) ≡ false → look_up (bodies_after [] env) n ≡ None
no_body env w n h = by (look_up (bodies_after [] env) n) refl
  where
    by : (o : Option Term) → look_up (bodies_after [] env) n ≡ o → o ≡ None
    by None q = refl
    by (Some B) q =
        let f = body_found env n B w.distinct (found_body env w n B q) in
        let no : true ≡ false = sym (ap is_direct_symbol f) ∙ h in cc

bare : (env : Env) → IsWellFormed env → (s : Sym) → IsFalse (is_direct env s) → body_of (bodies_after [] env) s ≡ None
bare env w (Base k) h = refl
bare env w (User n) h = no_body env w n h

mutual
  plain : (env : Env) → IsWellFormed env → (t : Term) → IsPlain env t → unfolded env t ≡ t
  plain env w (var i) p = refl
  plain env w (lit n) p = refl
  plain env w (node s As ts) p = ap (λ o. unfolded_node o s As (unfold_all_by (bodies_after [] env) ts)) (bare env w s p.0) ∙ ap (node s As) (all_plain env w ts p.1)

  all_plain : (env : Env) → IsWellFormed env → (ts : Terms) → ArePlain env ts → unfold_all_by (bodies_after [] env) ts ≡ ts
  all_plain env w nil p = refl
  all_plain env w (cons t ts) p = let a = plain env w t p.0 in let b = all_plain env w ts p.1 in cc

pub plain_unfolded : PlainIsUnfolded
plain_unfolded env w t p = plain env w t p

-- A direct operator has its unfolded body.
abbrev HasBody : Env → Name → Term → Type 0
HasBody env n body = look_up (bodies_after [] env) n ≡ Some (unfolded env body)

pub body_there : (env : Env) → IsWellFormed env → (n : Name) (sig : Signature) (c : Option Term) (body : Term) → find_symbol env n ≡ Some (DirectOf sig c body) → HasBody env n body
body_there env w n sig c body h =
    let s = stands n sig c body env h in
    transport (λ m. HasBody env m body) s.3 (transport (λ x. IsWellFormed x → HasBody x sig.name body) (sym s.2) (direct_body s.0 s.1 sig c body) w)

-- The first entries.
good_front : (p e r : Env) → AreGoodAfter p (e ++ r) → AreGoodAfter p e
good_front p [] r h = tt
good_front p (d ∷ e) r h = (h.0, good_front (p ++ d ∷ []) e r h.1)

front : (e r : Env) → IsWellFormed (e ++ r) → IsWellFormed e
front e r w = record { distinct = front_distinct e r w.distinct; entries = good_front [] e r w.entries }

part_front : (f e r : Env) → IsPartOf (e ++ r) f → IsPartOf e f
part_front f [] r h = tt
part_front f (d ∷ e) r h = (h.0, part_front f e r h.1)

module _ (f : Env) (w : IsWellFormed f) where
  -- the bodies of the part's symbols are those of the whole
  abbrev Agrees : Env → Type 0
  Agrees e = (n : Name) (x : Symbol) → find_symbol e n ≡ Some x → look_up (bodies_after [] f) n ≡ look_up (bodies_after [] e) n

  -- a body is over the entries before it
  same_body : (e r : Env) (sig : Signature) (c : Option Term) (body : Term) → IsWellFormed (e ++ Direct sig c body ∷ r) → Agrees e → unfolded f body ≡ unfolded (e ++ Direct sig c body ∷ r) body
  same_body e r sig c body v g =
      let typed = (good_at [] e r (Direct sig c body) v.entries).bodies.typed in
      alike e (bodies_after [] f) (bodies_after [] e) g body (type_list sig.args) sig.result typed
      ∙ sym (unfolded-first e (Direct sig c body ∷ r) (type_list sig.args) body sig.result v typed)

  abbrev AgreesTo : ℕ → Type 0
  AgreesTo k = (e : Env) → length e ≤ k → IsWellFormed e → IsPartOf e f → Agrees e

  both_none : (e : Env) → IsWellFormed e → IsPartOf e f → (n : Name) (x : Symbol) → find_symbol e n ≡ Some x → is_direct_symbol (Some x) ≡ false → look_up (bodies_after [] f) n ≡ look_up (bodies_after [] e) n
  both_none e v p n x h k =
      no_body f w n (ap is_direct_symbol (found_part symbols symbols_named e f n x w.distinct p h) ∙ k) ∙ sym (no_body e v n (ap is_direct_symbol h ∙ k))

  direct_agrees : (k : ℕ) → AgreesTo k → (e : Env) → length e ≤ suc k → IsWellFormed e → IsPartOf e f → (n : Name) (sig : Signature) (c : Option Term) (body : Term) → find_symbol e n ≡ Some (DirectOf sig c body) →
      look_up (bodies_after [] f) n ≡ look_up (bodies_after [] e) n
  direct_agrees k before e l v p n sig c body h =
      let s = stands n sig c body e h in
      body_there f w n sig c body (found_part symbols symbols_named e f n (DirectOf sig c body) w.distinct p h)
      ∙ ap Some (transport (λ x. length x ≤ suc k → IsWellFormed x → IsPartOf x f → unfolded f body ≡ unfolded x body) (sym s.2) (at s.0 s.1) l v p)
      ∙ sym (body_there e v n sig c body h)
    where
      at : (e₁ r₁ : Env) → length (e₁ ++ Direct sig c body ∷ r₁) ≤ suc k → IsWellFormed (e₁ ++ Direct sig c body ∷ r₁) → IsPartOf (e₁ ++ Direct sig c body ∷ r₁) f → unfolded f body ≡ unfolded (e₁ ++ Direct sig c body ∷ r₁) body
      at e₁ r₁ m u q =
          same_body e₁ r₁ sig c body u
          (before e₁ (omega (arith, m, length-append e₁ (Direct sig c body ∷ r₁))) (front e₁ (Direct sig c body ∷ r₁) u) (part_front f e₁ (Direct sig c body ∷ r₁) q))

  agrees : (k : ℕ) → AgreesTo k
  agrees zero [] l v p n x h = cc
  agrees zero (d ∷ e) l v p n x h = absurd (omega (arith, l))
  agrees (suc k) e l v p n (ConOf d c) h = both_none e v p n (ConOf d c) h refl
  agrees (suc k) e l v p n (DesOf d c i g) h = both_none e v p n (DesOf d c i g) h refl
  agrees (suc k) e l v p n (ConstantOf sig c) h = both_none e v p n (ConstantOf sig c) h refl
  agrees (suc k) e l v p n (DirectOf sig c body) h = direct_agrees k (agrees k) e l v p n sig c body h
  agrees (suc k) e l v p n (RecursiveOf sig c place bodies) h = both_none e v p n (RecursiveOf sig c place bodies) h refl

pub over_whole : UnfoldedOverWhole
over_whole e f v w p C t A h = alike e (bodies_after [] f) (bodies_after [] e) (agrees f w (length e) e (omega arith) v p) t C A h
