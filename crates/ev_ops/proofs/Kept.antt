-- Unfolded bodies under their names, and lists that are turned round.
use Rattle.std.proofs.Common.{◌≡◌, ℕ, zero, suc, ◌+◌, ◌-◌, ◌≤◌, ◌<◌, true, cond, Option, Some, None, List, [], ◌∷◌, ◌++◌, length, get_or, take, drop, map, reverse, append_assoc, ap, sym, ◌∙◌, subst, refl, arith, add-one}
use Rattle.std.specs.Prelude.{slice_get, bytes_eq}
use Rattle.std.specs.Map.{lookup}
use Rattle.std.specs.HashMap.{HashMap, get}
use Rattle.std.proofs.lemmas.List.{reverse-append}
use Rattle.indexmap.specs.IndexMap.{insert_entry}
use Rattle.indexmap.proofs.CallerLemmas.{insert_entry-new}
use Rattle.ev_terms.specs.declared.types.Sym.{Sym}
use Rattle.ev_terms.specs.declared.types.Tys.{Tys}
use Rattle.ev_terms.specs.Term.{Term, Terms, var, lit, node, cons, terms, term_list-terms}
use Rattle.ev_terms.specs.Substitution.{fill, instance}
use Rattle.ev_terms.proofs.Children as children
use Rattle.ev_typing.specs.declared.typing.Entry.{Entry}
use Rattle.ev_typing.specs.declared.typing.Entry.TheVariants.{Data, Constant, Direct, Recursive}
use Rattle.ev_typing.specs.declared.typing.Signature.{Signature}
use Rattle.ev_typing.specs.Env.{Env, Name, look_up}
use Rattle.ev_typing.specs.WellFormed.{IsWellFormed}
use Rattle.ev_typing.proofs.Names.{same_name, name_same, apart_flip}
use Rattle.std.proofs.lemmas.Bool.{cases_Bool}
use Rattle.std.proofs.Common.{⊎_elim}
use Rattle.ev_ops.specs.Unfold.{Bodies, body_of, unfolded_node, unfold_by, unfold_all_by, bodies_after}
use Rattle.ev_ops.specs.inner.Kept.{IsNewBody}
use Rattle.ev_ops.proofs.UnfoldEquation.{bodies_after-append, not_yet}

-- The body under a name.
turned : (m n : Name) → bytes_eq n m ≡ bytes_eq m n
turned m n =
    ⊎_elim (λ y. y ∙ sym (subst (λ k. bytes_eq m k ≡ true) (sym (same_name n m y)) (name_same m)))
    (λ z. z ∙ sym (apart_flip n m z)) (cases_Bool (bytes_eq n m))

pub kept : {X : Type 0} (es : List (Name × X)) (n : Name) → lookup (bytes_eq n) es ≡ look_up es n
kept [] n = refl
kept (e ∷ es) n = ap (λ b. cond b (Some e.1) (lookup (bytes_eq n) es)) (turned e.0 n) ∙ ap (cond (bytes_eq e.0 n) (Some e.1)) (kept es n)

pub found_body : {S : Type 0} (m : HashMap Name Term S) (n : Name) (o : Option Term) → o ≡ get bytes_eq m n → o ≡ look_up m.entries n
found_body m n o e = e ∙ kept m.entries n

pub put_body : {S : Type 0} (m : HashMap Name Term S) (n : Name) (B : Term) → look_up m.entries n ≡ None → insert_entry bytes_eq m.entries n B ≡ m.entries ++ (n, B) ∷ []
put_body m n B e = insert_entry-new bytes_eq m n B (kept m.entries n ∙ e)

-- The bodies of the first entries.
pub split_from : (env : Env) (i : ℕ) (d : Entry) → slice_get env i ≡ Some d → env ≡ take i env ++ d ∷ drop (suc i) env
split_from [] i d e = cc
split_from (x ∷ xs) zero d e = let q : x ≡ d = cc in ap (λ y. y ∷ xs) q
split_from (x ∷ xs) (suc i) d e = ap (λ ys. x ∷ ys) (split_from xs i d e)

take_from : (env : Env) (i : ℕ) (d : Entry) → slice_get env i ≡ Some d → take i env ++ d ∷ [] ≡ take (suc i) env
take_from [] i d e = cc
take_from (x ∷ xs) zero d e = let q : x ≡ d = cc in ap (λ y. y ∷ []) (sym q)
take_from (x ∷ xs) (suc i) d e = ap (λ ys. x ∷ ys) (take_from xs i d e)

pub take_more : (env : Env) (i : ℕ) (d : Entry) → slice_get env i ≡ Some d → take i env ++ d ∷ [] ≡ take (i + 1) env
take_more env i d e = take_from env i d e ∙ ap (λ k. take k env) (sym (add-one i))

pub take_end : (env : Env) (i : ℕ) → length env ≤ i → take i env ≡ env
take_end [] zero h = refl
take_end [] (suc i) h = refl
take_end (x ∷ xs) zero h = absurd (omega arith)
take_end (x ∷ xs) (suc i) h = ap (λ ys. x ∷ ys) (take_end xs i (omega arith))

pub new_body : (e r : Env) (d : Entry) → IsWellFormed (e ++ d ∷ r) → IsNewBody (bodies_after [] e) d
new_body e r (Data d) w = tt
new_body e r (Constant sig c) w = tt
new_body e r (Direct sig c body) w = not_yet e r sig c body w
new_body e r (Recursive sig c place bodies) w = tt

pub fresh : (env : Env) (i : ℕ) (d : Entry) (bs : Bodies) → IsWellFormed env → slice_get env i ≡ Some d → bs ≡ bodies_after [] (take i env) → IsNewBody bs d
fresh env i d bs w e b =
    subst (λ cs. IsNewBody cs d) (sym b) (new_body (take i env) (drop (suc i) env) d (subst IsWellFormed (split_from env i d e) w))

pub one_more : (env : Env) (i : ℕ) (d : Entry) (bs cs : Bodies) → slice_get env i ≡ Some d → bs ≡ bodies_after [] (take i env) → cs ≡ bodies_after bs (d ∷ []) → cs ≡ bodies_after [] (take (i + 1) env)
one_more env i d bs cs e b c =
    c ∙ ap (λ xs. bodies_after xs (d ∷ [])) b ∙ sym (bodies_after-append [] (take i env) (d ∷ [])) ∙ ap (bodies_after []) (take_more env i d e)

pub none_left : (env : Env) (i : ℕ) → slice_get env i ≡ None → length env ≤ i
none_left [] i e = omega arith
none_left (x ∷ xs) zero e = cc
none_left (x ∷ xs) (suc i) e = let k = none_left xs i e in omega (arith, k)

pub never : (env : Env) (i : ℕ) (A : Type 0) → slice_get env i ≡ None → i < length env → A
never env i A e h = absurd (omega (arith, none_left env i e, h))

pub all_done : (env : Env) (i : ℕ) (bs : Bodies) → length env ≤ i → bs ≡ bodies_after [] (take i env) → bs ≡ bodies_after [] env
all_done env i bs h b = b ∙ ap (bodies_after []) (take_end env i h)

pub ruleset look_ups = (found_body, put_body, fresh, one_more, never, all_done)

-- what is added to the bodies
pub added : (d : Entry) (sig : Signature) (c : Option Term) (body B : Term) (bs cs : Bodies) → d ≡ Direct sig c body → B ≡ unfold_by bs body → cs ≡ bs ++ (sig.name, B) ∷ [] → cs ≡ bodies_after bs (d ∷ [])
added d sig c body B bs cs e b g =
    g ∙ ap (λ x. bs ++ (sig.name, x) ∷ []) b ∙ sym (ap (λ x. bodies_after bs (x ∷ [])) e)

-- Unfolding by the form of the term.
unfold_terms : (bs : Bodies) (ts : List Term) → unfold_all_by bs (terms ts) ≡ terms (map (unfold_by bs) ts)
unfold_terms bs [] = refl
unfold_terms bs (t ∷ ts) = ap (cons (unfold_by bs t)) (unfold_terms bs ts)

pub at_node : (bs : Bodies) (t r : Term) (s : Sym) (As : Tys) (ts us : List Term) → t ≡ node s As (terms ts) → us ≡ map (unfold_by bs) ts →
    r ≡ unfolded_node (body_of bs s) s As (terms us) → r ≡ unfold_by bs t
at_node bs t r s As ts us e f g =
    g ∙ ap (λ vs. unfolded_node (body_of bs s) s As (terms vs)) f ∙ ap (unfolded_node (body_of bs s) s As) (sym (unfold_terms bs ts)) ∙ sym (ap (unfold_by bs) e)

pub at_leaf : (bs : Bodies) (t r : Term) → ((s : Sym) (As : Tys) (ts : Terms) → t ≡ node s As ts → ⊥) → r ≡ t → r ≡ unfold_by bs t
at_leaf bs (var i) r h e = e
at_leaf bs (lit n) r h e = e
at_leaf bs (node s As ts) r h e = absurd (h s As ts refl)

-- the body with types and arguments put in
pub filled : (bs : Bodies) (s : Sym) (As : Tys) (us : List Term) (B : Term) (r : Term) → Some B ≡ body_of bs s → r ≡ fill (instance B As) us → r ≡ unfolded_node (body_of bs s) s As (terms us)
filled bs s As us B r e f =
    f ∙ ap (fill (instance B As)) (sym (term_list-terms us)) ∙ ap (λ o. unfolded_node o s As (terms us)) e

pub ruleset walk = (children.walk, at_node, at_leaf)

-- The terms in reverse.
append_nil : {X : Type 0} (xs : List X) → xs ++ [] ≡ xs
append_nil [] = refl
append_nil (x ∷ xs) = ap (λ ys. x ∷ ys) (append_nil xs)

pub take_last : (ts : List Term) (i : ℕ) (t : Term) → t ≡ get_or ts i t → i < length ts → take (suc i) ts ≡ take i ts ++ t ∷ []
take_last [] i t e h = absurd (omega (arith, h))
take_last (u ∷ us) zero t e h = ap (λ v. v ∷ []) (sym e)
take_last (u ∷ us) (suc i) t e h = ap (λ vs. u ∷ vs) (take_last us i t e (omega (arith, h)))

pub reverse_step : (ts all new : List Term) (left next : ℕ) (t u : Term) → 0 < left → next ≡ left - 1 → t ≡ get_or ts next t → next < length ts → u ≡ t → new ≡ all ++ u ∷ [] →
    all ++ reverse (take left ts) ≡ reverse ts → new ++ reverse (take next ts) ≡ reverse ts
reverse_step ts all new zero next t u h p g k w r e = absurd (omega (arith, h))
reverse_step ts all new (suc left) next t u h p g k w r e =
    let m : next ≡ left = omega arith in
    let s : suc left ≡ suc next = omega arith in
    ap (λ us. us ++ reverse (take next ts)) (r ∙ ap (λ v. all ++ v ∷ []) w) ∙ append_assoc all (t ∷ []) (reverse (take next ts))
    ∙ ap (λ us. all ++ us) (sym (ap (λ j. reverse (take j ts)) s ∙ ap reverse (take_last ts next t g k) ∙ reverse-append (take next ts) (t ∷ []))) ∙ e

take_all : (ts : List Term) → take (length ts) ts ≡ ts
take_all [] = refl
take_all (t ∷ ts) = ap (λ us. t ∷ us) (take_all ts)

pub reverse_begin : (ts : List Term) (n : ℕ) → n ≡ length ts → [] ++ reverse (take n ts) ≡ reverse ts
reverse_begin ts n e = ap (λ k. reverse (take k ts)) e ∙ ap reverse (take_all ts)

pub reverse_end : (ts all : List Term) (left : ℕ) → left ≡ 0 → all ++ reverse (take left ts) ≡ reverse ts → all ≡ reverse ts
reverse_end ts all left p e = sym (append_nil all) ∙ ap (λ k. all ++ reverse (take k ts)) (sym p) ∙ e

pub ruleset backwards = (reverse_step, reverse_begin, reverse_end)
