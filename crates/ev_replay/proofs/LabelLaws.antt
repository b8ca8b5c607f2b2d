-- Labels that are cited, kept by pairs of names.
use Rattle.std.specs.Prelude.{◌≡◌, ◌++◌, ◌&&◌, ◌||◌, ℕ, Bool as Boolean, List, [], ◌∷◌, bytes_eq, if◌then◌else◌, refl}
use Rattle.std.specs.List.{list_any}
use Rattle.std.proofs.Common.{ap, ◌∙◌, true, false}
use Rattle.ev_proof.specs.declared.steps.Ref.{Ref}
use Rattle.ev_replay.specs.Replay.{same_ref, with_ref}
use Rattle.ev_replay.specs.inner.Labels.{ref_of, refs_of}

abbrev pub same_key : List ℕ × List ℕ → List ℕ × List ℕ → Boolean
same_key a b = bytes_eq a.0 b.0 && bytes_eq a.1 b.1

one_behind : (keys : List (List ℕ × List ℕ)) (key : List ℕ × List ℕ) → refs_of (keys ++ key ∷ []) ≡ refs_of keys ++ ref_of key ∷ []
one_behind [] key = refl
one_behind (k ∷ keys) key = ap (λ rs. ref_of k ∷ rs) (one_behind keys key)

any : (key : List ℕ × List ℕ) (ks : List (List ℕ × List ℕ)) → list_any (same_key key) ks ≡ list_any (same_ref (ref_of key)) (refs_of ks)
any key [] = refl
any key (k ∷ ks) = ap (λ b. same_key key k || b) (any key ks)

chosen : (keys : List (List ℕ × List ℕ)) (key : List ℕ × List ℕ) (b : Boolean)
    → refs_of (if b then keys else keys ++ key ∷ []) ≡ (if b then refs_of keys else refs_of keys ++ ref_of key ∷ [])
chosen keys key true = refl
chosen keys key false = one_behind keys key

pub label_added : (keys new : List (List ℕ × List ℕ)) (key : List ℕ × List ℕ) (r : Ref) → key.0 ≡ r.theory → key.1 ≡ r.label
    → new ≡ (if list_any (same_key key) keys then keys else keys ++ key ∷ []) → refs_of new ≡ with_ref (refs_of keys) r
label_added keys new key r e f g =
    let same : ref_of key ≡ r = ap (λ n. record { theory = n; label = key.1 }) e ∙ ap (λ n. record { theory = r.theory; label = n }) f in
    ap refs_of g ∙ chosen keys key (list_any (same_key key) keys) ∙ ap (λ b. if b then refs_of keys else refs_of keys ++ ref_of key ∷ []) (any key keys) ∙ ap (with_ref (refs_of keys)) same
