-- What is unfolded over a part of an environment and then over the whole is unfolded over the whole.
use Rattle.std.specs.Prelude.{◌≡◌, ℕ, zero, suc, List, [], ◌∷◌, Option, Some, None, map, length, reverse, refl}
use Rattle.std.specs.List.{AllByRecursion}
use Rattle.std.proofs.Common.{ap, sym, ◌∙◌, subst as transport}
use Rattle.ev_terms.specs.declared.types.Ty.{Ty}
use Rattle.ev_terms.specs.declared.types.Tys.{Tys}
use Rattle.ev_terms.specs.declared.types.Sym.{Sym}
use Rattle.ev_terms.specs.declared.types.Sym.TheVariants.{Base, User}
use Rattle.ev_terms.specs.Types.{type_list}
use Rattle.ev_terms.specs.Term.{Term, Terms, var, lit, node, nil, cons, term_list}
use Rattle.ev_terms.specs.Symbols.{binds}
use Rattle.ev_terms.specs.Substitution.{lift, lifts, inst, insts, entry, fill, instance, type_at}
use Rattle.ev_typing.specs.Env.{Env, Name, DirectOf, look_up, symbols, find_symbol}
use Rattle.ev_typing.specs.Parts.{IsPartOf}
use Rattle.ev_typing.specs.Typing.{Typed}
use Rattle.ev_typing.specs.WellFormed.{IsWellFormed}
use Rattle.ev_typing.proofs.Entries.{symbols_named}
use Rattle.ev_typing.proofs.Wholes.{found_part, whole_typed}
use Rattle.ev_ops.specs.Unfold.{Bodies, body_of, unfolded_node, unfold_by, unfold_all_by, bodies_after, unfolded}
use Rattle.ev_ops.proofs.Commuting.{FitsBody, IsFit, AreFit, AllFit, shift_fit, entry_fit, reverse_fit, unfold_fill, list_fit, retype_fit, unfold_retype}
use Rattle.ev_ops.proofs.Fitting.{body_found, found_body, fit_of}
use Rattle.ev_ops.proofs.Keeping.{unfolded_typed}
use Rattle.ev_ops.proofs.UnfoldLaws.{unfolded_is_plain}
use Rattle.ev_ops.proofs.OverWhole.{plain_unfolded, body_there, over_whole}
use Rattle.ev_sound.proofs.Bodies.{direct_body}

-- Terms that fit, put into one that fits.
module _ (bs : Bodies) where
  lift_fit : (σ : ℕ → Term) → AllFit bs σ → AllFit bs (lift σ)
  lift_fit σ h zero = tt
  lift_fit σ h (suc i) = shift_fit bs (σ i) 0 1 (h i)

  lifts_fit : (n : ℕ) (σ : ℕ → Term) → AllFit bs σ → AllFit bs (lifts n σ)
  lifts_fit zero σ h = h
  lifts_fit (suc n) σ h = lift_fit (lifts n σ) (lifts_fit n σ h)

  insts_count : (σ : ℕ → Term) (ts : Terms) → length (term_list (insts σ ts)) ≡ length (term_list ts)
  insts_count σ nil = refl
  insts_count σ (cons t ts) = ap suc (insts_count σ ts)

  mutual
    inst_fit : (t : Term) (σ : ℕ → Term) → AllFit bs σ → IsFit bs t → IsFit bs (inst σ t)
    inst_fit (var i) σ f h = f i
    inst_fit (lit n) σ f h = tt
    inst_fit (node s As ts) σ f h =
        ((λ B e. transport (FitsBody B As) (sym (insts_count (lifts (binds s) σ) ts)) (h.0 B e)), insts_fit ts (lifts (binds s) σ) (lifts_fit (binds s) σ f) h.1)

    insts_fit : (ts : Terms) (σ : ℕ → Term) → AllFit bs σ → AreFit bs ts → AreFit bs (insts σ ts)
    insts_fit nil σ f h = tt
    insts_fit (cons t ts) σ f h = (inst_fit t σ f h.0, insts_fit ts σ f h.1)

  fill_fit : (t : Term) (ts : List Term) → AllByRecursion (IsFit bs) ts → IsFit bs t → IsFit bs (fill t ts)
  fill_fit t ts f h = inst_fit t (entry (reverse ts)) (entry_fit bs (reverse ts) (reverse_fit bs ts f)) h

unfolded_count : (bs : Bodies) (ts : Terms) → length (term_list (unfold_all_by bs ts)) ≡ length (term_list ts)
unfolded_count bs nil = refl
unfolded_count bs (cons t ts) = ap suc (unfolded_count bs ts)

unfolded_list : (bs : Bodies) (ts : Terms) → map (unfold_by bs) (term_list ts) ≡ term_list (unfold_all_by bs ts)
unfolded_list bs nil = refl
unfolded_list bs (cons t ts) = ap (λ us. unfold_by bs t ∷ us) (unfolded_list bs ts)

-- a body of the part is one of the whole, without what the whole would unfold
record IsKept (bs : Bodies) (s : Sym) (B : Term) : Type 0 where
  pub there : body_of bs s ≡ Some B
  pub done : unfold_by bs B ≡ B
  pub fit : IsFit bs B

module _ (first bs : Bodies) (kept : (s : Sym) (B : Term) → body_of first s ≡ Some B → IsKept bs s B) where
  abbrev Twice : Term → Term → Type 0
  Twice u t = (unfold_by bs u ≡ unfold_by bs t) × IsFit bs u

  node_twice : (s : Sym) (As : Tys) (ts us : Terms) (o : Option Term) → body_of first s ≡ o → unfold_all_by bs us ≡ unfold_all_by bs ts → AreFit bs us → length (term_list us) ≡ length (term_list ts) →
      IsFit bs (node s As ts) → Twice (unfolded_node o s As us) (node s As ts)
  node_twice s As ts us None q e f c h = (ap (unfolded_node (body_of bs s) s As) e, ((λ B r. transport (FitsBody B As) (sym c) (h.0 B r)), f))
  node_twice s As ts us (Some B) q e f c h =
      let k : IsKept bs s B = kept s B q in
      let fits = list_fit bs us f in (
        unfold_fill bs (instance B As) (term_list us) fits (retype_fit bs B (type_at As) k.fit)
            ∙ ap (λ x. fill x (map (unfold_by bs) (term_list us))) (unfold_retype bs B (type_at As) k.fit ∙ ap (λ x. instance x As) k.done)
            ∙ ap (fill (instance B As)) (unfolded_list bs us ∙ ap term_list e)
            ∙ sym (ap (λ x. unfolded_node x s As (unfold_all_by bs ts)) k.there),
        fill_fit bs (instance B As) (term_list us) fits (retype_fit bs B (type_at As) k.fit),
      )

  mutual
    twice : (t : Term) → IsFit bs t → Twice (unfold_by first t) t
    twice (var i) h = (refl, tt)
    twice (lit n) h = (refl, tt)
    twice (node s As ts) h =
        let r = all_twice ts h.1 in
        node_twice s As ts (unfold_all_by first ts) (body_of first s) refl r.0 r.1 (unfolded_count first ts) h

    all_twice : (ts : Terms) → AreFit bs ts → (unfold_all_by bs (unfold_all_by first ts) ≡ unfold_all_by bs ts) × AreFit bs (unfold_all_by first ts)
    all_twice nil h = (refl, tt)
    all_twice (cons t ts) h =
        let p = twice t h.0 in
        let q = all_twice ts h.1 in
        (ap (λ x. cons x (unfold_all_by bs (unfold_all_by first ts))) p.0 ∙ ap (cons (unfold_by bs t)) q.0, (p.1, q.1))

-- The bodies of a part of an environment.
module _ (e f : Env) (v : IsWellFormed e) (w : IsWellFormed f) (p : IsPartOf e f) where
  body_kept : (n : Name) (B : Term) → look_up (bodies_after [] e) n ≡ Some B → IsKept (bodies_after [] f) (User n) B
  body_kept n B h =
      let b = found_body e v n B h in
      let found : find_symbol e n ≡ Some (DirectOf b.sig b.condition b.body) = body_found e n B v.distinct b in
      let typed = (direct_body e n B v b).typed in
      let q : Some B ≡ Some (unfolded e b.body) = sym h ∙ body_there e v n b.sig b.condition b.body found in
      let is : B ≡ unfolded e b.body = cc in
      let B_typed : Typed e (type_list b.sig.args) B b.sig.result = transport (λ x. Typed e (type_list b.sig.args) x b.sig.result) (sym is) (unfolded_typed e v (type_list b.sig.args) b.body b.sig.result typed) in
      record {
        there = body_there f w n b.sig b.condition b.body (found_part symbols symbols_named e f n (DirectOf b.sig b.condition b.body) w.distinct p found)
            ∙ ap Some (over_whole e f v w p (type_list b.sig.args) b.body b.sig.result typed) ∙ ap Some (sym is);
        done = over_whole e f v w p (type_list b.sig.args) B b.sig.result B_typed ∙ ap (unfolded e) is
            ∙ plain_unfolded e v (unfolded e b.body) (unfolded_is_plain e v (type_list b.sig.args) b.body b.sig.result typed) ∙ sym is;
        fit = fit_of f w (type_list b.sig.args) B b.sig.result (whole_typed e f p w.distinct (type_list b.sig.args) B b.sig.result B_typed);
      }

  all_kept : (s : Sym) (B : Term) → body_of (bodies_after [] e) s ≡ Some B → IsKept (bodies_after [] f) s B
  all_kept (Base k) B h = cc
  all_kept (User n) B h = body_kept n B h

  pub unfolded_twice : (C : List Ty) (t : Term) (A : Ty) → Typed f C t A → unfolded f (unfolded e t) ≡ unfolded f t
  unfolded_twice C t A h = (twice (bodies_after [] e) (bodies_after [] f) all_kept t (fit_of f w C t A h)).0
