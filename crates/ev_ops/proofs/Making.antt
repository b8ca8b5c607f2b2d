-- Environments of elements, one element after the other.
use Rattle.std.specs.List.{IsDistinct}
use Rattle.std.proofs.lemmas.Grind.{flat_map-append}
use Rattle.std.specs.Prelude.{bytes_eq, flat_map, ◌≡◌, ◌++◌, ◌≤◌, ◌<◌, ◌+◌, ℕ, zero, suc, List, [], ◌∷◌, Option, Some, None, take, drop, length, refl}
use Rattle.std.proofs.Common.{ap, sym, ◌∙◌, subst, get_or, append_assoc, add-one, arith}
use Rattle.ev_terms.specs.Term.{Term}
use Rattle.ev_typing.specs.declared.typing.Entry.{Entry}
use Rattle.ev_typing.specs.declared.typing.Signature.{Signature}
use Rattle.ev_typing.specs.Env.{Env, names}
use Rattle.ev_typing.specs.WellFormed.{IsWellFormed, HasNewNames, IsGoodEntry, AreGoodAfter}
use Rattle.ev_typing.proofs.Entries.{new_part, distinct_left}
use Rattle.ev_rules.specs.declared.elements.Element.{Element}
use Rattle.ev_rules.specs.declared.elements.Element.TheVariants.{Import, Params, Data, Direct, Recursive, Constant, Axiom, Theorem, Rewrite, Inference}
use Rattle.ev_ops.specs.Unfold.{Bodies, bodies_after}
use Rattle.ev_ops.specs.Entries.{entry_by, entry_of, with_entry, with_element, with_elements, env_of}
use Rattle.ev_ops.specs.inner.Kept.{IsNewBody}
use Rattle.ev_ops.proofs.Kept.{new_body}
use Rattle.ev_ops.proofs.UnfoldEquation.{bodies_after-append}

-- the bodies are asked of a recursive operator alone
pub entry_any : (bs cs : Bodies) (e : Element) → ((sig : Signature) (c : Option Term) (place : ℕ) (ts : List Term) → e ≡ Recursive sig c place ts → ⊥) →
    entry_by bs e ≡ entry_by cs e
entry_any bs cs (Import n) h = refl
entry_any bs cs (Params names) h = refl
entry_any bs cs (Data d) h = refl
entry_any bs cs (Direct sig c body) h = refl
entry_any bs cs (Recursive sig c place ts) h = absurd (h sig c place ts refl)
entry_any bs cs (Constant sig c) h = refl
entry_any bs cs (Axiom n P) h = refl
entry_any bs cs (Theorem n P) h = refl
entry_any bs cs (Rewrite r) h = refl
entry_any bs cs (Inference r) h = refl

pub ruleset entries = (entry_any)

-- The environment grows at its end, and what stands before is well formed too.
after_nil : {X : Type 0} (xs : List X) → xs ++ [] ≡ xs
after_nil [] = refl
after_nil (x ∷ xs) = ap (λ ys. x ∷ ys) (after_nil xs)

pub grows : (env : Env) (es : List Element) → (later : Env) × (with_elements env es ≡ env ++ later)
grows env [] = ([], sym (after_nil env))
grows env (e ∷ es) = by (entry_of env e) refl (grows (with_element env e) es)
  where
    by : (o : Option Entry) → with_element env e ≡ with_entry env o → (later : Env) × (with_elements (with_element env e) es ≡ with_element env e ++ later) →
        (later : Env) × (with_elements env (e ∷ es) ≡ env ++ later)
    by None p r = (r.0, r.1 ∙ ap (λ x. x ++ r.0) p)
    by (Some d) p r = (d ∷ r.0, r.1 ∙ ap (λ x. x ++ r.0) p ∙ append_assoc env (d ∷ []) r.0)

good_left : (before xs ys : Env) → AreGoodAfter before (xs ++ ys) → AreGoodAfter before xs
good_left before [] ys h = tt
good_left before (x ∷ xs) ys h = (h.0, good_left (before ++ x ∷ []) xs ys h.1)

well_formed_left : (xs ys : Env) → IsWellFormed (xs ++ ys) → IsWellFormed xs
well_formed_left xs ys w = record {
  distinct = distinct_left (flat_map names xs) (flat_map names ys) (subst (IsDistinct bytes_eq) (flat_map-append names xs ys) w.distinct);
  entries = good_left [] xs ys w.entries;
}

pub part_well_formed : (env : Env) (es : List Element) → IsWellFormed (with_elements env es) → IsWellFormed env
part_well_formed env es w = let r = grows env es in well_formed_left env r.0 (subst IsWellFormed r.1 w)

elements_split : (env : Env) (xs ys : List Element) → with_elements env (xs ++ ys) ≡ with_elements (with_elements env xs) ys
elements_split env [] ys = refl
elements_split env (x ∷ xs) ys = elements_split (with_element env x) xs ys

split_at : {X : Type 0} (xs : List X) (i : ℕ) (x : X) → x ≡ get_or xs i x → i < length xs → xs ≡ take i xs ++ x ∷ drop (suc i) xs
split_at [] i x e h = absurd (omega arith)
split_at (y ∷ ys) zero x e h = ap (λ z. z ∷ ys) (sym e)
split_at (y ∷ ys) (suc i) x e h = ap (λ zs. y ∷ zs) (split_at ys i x e (omega arith))

take_at : {X : Type 0} (xs : List X) (i : ℕ) (x : X) → x ≡ get_or xs i x → i < length xs → take (i + 1) xs ≡ take i xs ++ x ∷ []
take_at {X = X} xs i x e h = ap (λ k. take k xs) (add-one i) ∙ by xs i e h
  where
    by : (ys : List X) (k : ℕ) → x ≡ get_or ys k x → k < length ys → take (suc k) ys ≡ take k ys ++ x ∷ []
    by [] k e h = absurd (omega arith)
    by (y ∷ ys) zero e h = ap (λ z. z ∷ []) (sym e)
    by (y ∷ ys) (suc k) e h = ap (λ zs. y ∷ zs) (by ys k e (omega arith))

-- the environment after an element at a place is well formed where the last one is
pub element_fits : (es : List Element) (i : ℕ) (e : Element) (env : Env) → IsWellFormed (env_of es) → e ≡ get_or es i e → i < length es → env ≡ env_of (take i es) →
    IsWellFormed (with_element env e)
element_fits es i e env w p h q =
    subst (λ x. IsWellFormed (with_element x e)) (sym q)
    (part_well_formed (with_element (env_of (take i es)) e) (drop (suc i) es)
    (subst IsWellFormed (ap env_of (split_at es i e p h) ∙ elements_split [] (take i es) (e ∷ drop (suc i) es)) w))

-- the same by the items of a slice
pub fits_in : (es xs : List Element) (i : ℕ) (e g : Element) (env : Env) → xs ≡ es → IsWellFormed (env_of es) → e ≡ get_or xs i e → g ≡ e → i < length xs →
    env ≡ env_of (take i es) → IsWellFormed (with_element env g)
fits_in es xs i e g env x w p r h q =
    subst (λ y. IsWellFormed (with_element env y)) (sym r)
    (element_fits es i e env w (subst (λ ys. e ≡ get_or ys i e) x p) (subst (λ ys. i < length ys) x h) q)

pub element_made : (es : List Element) (i : ℕ) (e : Element) (env new : Env) → e ≡ get_or es i e → i < length es → env ≡ env_of (take i es) → new ≡ with_element env e →
    new ≡ env_of (take (i + 1) es)
element_made es i e env new p h q r =
    r ∙ ap (λ x. with_element x e) q ∙ sym (elements_split [] (take i es) (e ∷ [])) ∙ sym (ap env_of (take_at es i e p h))

pub bodies_made : (bs : Bodies) (env new : Env) (e : Element) → bs ≡ bodies_after [] (with_element env e) → new ≡ with_element env e → bs ≡ bodies_after [] new
bodies_made bs env new e b n = b ∙ sym (ap (bodies_after []) n)

-- One entry.
pub entry_fits : (env : Env) (e : Element) (d : Entry) (bs : Bodies) → bs ≡ bodies_after [] env → Some d ≡ entry_by bs e → IsWellFormed (with_element env e) → IsWellFormed (env ++ d ∷ [])
entry_fits env e d bs b p w = subst IsWellFormed (ap (with_entry env) (sym (p ∙ ap (λ x. entry_by x e) b))) w

pub with_some : (env new : Env) (e : Element) (d : Entry) (bs : Bodies) → bs ≡ bodies_after [] env → Some d ≡ entry_by bs e → with_element env e ≡ env ++ d ∷ []
with_some env new e d bs b p = ap (with_entry env) (sym (p ∙ ap (λ x. entry_by x e) b))

pub with_none : (env : Env) (e : Element) (bs : Bodies) → bs ≡ bodies_after [] env → None ≡ entry_by bs e → with_element env e ≡ env
with_none env e bs b p = ap (with_entry env) (sym (p ∙ ap (λ x. entry_by x e) b))

pub is_new : (env : Env) (d : Entry) → IsWellFormed (env ++ d ∷ []) → HasNewNames env d
is_new env d w = new_part env d [] w

good_last : (before env : Env) (d : Entry) → AreGoodAfter before (env ++ d ∷ []) → IsGoodEntry (before ++ env) d
good_last before [] d h = subst (λ xs. IsGoodEntry xs d) (sym (after_nil before)) h.0
good_last before (x ∷ xs) d h = subst (λ ys. IsGoodEntry ys d) (append_assoc before (x ∷ []) xs) (good_last (before ++ x ∷ []) xs d h.1)

pub is_good : (env : Env) (d : Entry) → IsWellFormed (env ++ d ∷ []) → IsGoodEntry env d
is_good env d w = good_last [] env d w.entries

pub is_new_body : (env : Env) (d : Entry) (bs : Bodies) → bs ≡ bodies_after [] env → IsWellFormed (env ++ d ∷ []) → IsNewBody bs d
is_new_body env d bs b w = subst (λ cs. IsNewBody cs d) (sym b) (new_body env [] d w)

pub one_body : (env : Env) (d : Entry) (bs cs : Bodies) → bs ≡ bodies_after [] env → cs ≡ bodies_after bs (d ∷ []) → cs ≡ bodies_after [] (env ++ d ∷ [])
one_body env d bs cs b c = c ∙ ap (λ x. bodies_after x (d ∷ [])) b ∙ sym (bodies_after-append [] env (d ∷ []))

take_all : {X : Type 0} (xs : List X) (i : ℕ) → length xs ≤ i → take i xs ≡ xs
take_all [] zero h = refl
take_all [] (suc i) h = refl
take_all (x ∷ xs) zero h = absurd (omega arith)
take_all (x ∷ xs) (suc i) h = ap (λ ys. x ∷ ys) (take_all xs i (omega arith))

pub all_made : (es : List Element) (i : ℕ) (env : Env) → length es ≤ i → env ≡ env_of (take i es) → env ≡ env_of es
all_made es i env h q = q ∙ ap env_of (take_all es i h)

pub ruleset single = (entry_fits, with_some, with_none, is_new, is_good, is_new_body, one_body)

pub ruleset elements = (element_fits, element_made, bodies_made, all_made)
