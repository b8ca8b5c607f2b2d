-- The places of a theory's proofs.
use Rattle.std.proofs.Common.{◌≡◌, ◌+◌, ◌<◌, ◌++◌, ℕ, Bool, true, false, List, [], ◌∷◌, Option, Some, cond, find, get_or, length, option_and_then, reverse, slice_get, take, refl, ap, sym, ◌∙◌}
use Rattle.std.proofs.lemmas.List.{take_more}
use Rattle.std.proofs.lemmas.Option.{slice_get-get_or}
use Rattle.theory.specs.declared.script.StoredProof.{StoredProof}
use Rattle.theory.specs.Reports.{is_for}
use Rattle.theory.specs.inner.Reports.{IsIndexOf}
use Rattle.theory.proofs.StepLaws.{pushed}

chosen : (all : List StoredProof) (old now : Option ℕ) (b : Bool) (at : ℕ) (p : StoredProof) (first : Option StoredProof) → now ≡ cond b (Some at) old → slice_get all at ≡ Some p
    → option_and_then (slice_get all) old ≡ first → option_and_then (slice_get all) now ≡ cond b (Some p) first
chosen all old now true at p first e s h = ap (option_and_then (slice_get all)) e ∙ s
chosen all old now false at p first e s h = ap (option_and_then (slice_get all)) e ∙ h

found_first : (test : StoredProof → Bool) (p : StoredProof) (ps : List StoredProof) → find test (p ∷ ps) ≡ cond (test p) (Some p) (find test ps)
found_first test p ps = refl

pub index_next : (theory : List ℕ) (all : List StoredProof) (at : ℕ) (old new : List ℕ → Option ℕ) (p : StoredProof) → at < length all → p ≡ get_or all at p → IsIndexOf theory (take at all) all old
    → ((label : List ℕ) → new label ≡ cond (is_for theory label p) (Some at) (old label)) → IsIndexOf theory (take (at + 1) all) all new
index_next theory all at old new p lt is h e label =
    let t : reverse (take (at + 1) all) ≡ p ∷ reverse (take at all) = ap reverse (take_more all at p lt ∙ ap (λ q. take at all ++ q ∷ []) (sym is)) ∙ pushed (take at all) p in
    chosen all (old label) (new label) (is_for theory label p) at p (find (is_for theory label) (reverse (take at all))) (e label) (slice_get-get_or all at p lt ∙ ap Some (sym is)) (h label)
    ∙ sym (found_first (is_for theory label) p (reverse (take at all))) ∙ ap (find (is_for theory label)) (sym t)
