-- What a test on the table of base symbols says of each of them.
use Rattle.std.specs.Prelude.{◌≡◌, ℕ, zero, suc, ◌+◌, Bool as Boolean, true, ◌&&◌, List, [], ◌∷◌, Some, slice_get}
use Rattle.std.proofs.Common.{arith, subst as transport}
use Rattle.ev_typing.specs.Profiles.{Profile, base_profiles, base_profile}
use Rattle.ev_typing.proofs.Proper.{and_split}

module _ (test : ℕ → Profile → Boolean) where
  -- the rows pass, the first of which has the number k
  abbrev pub pass : ℕ → List Profile → Boolean
  pass k [] = true
  pass k (p ∷ ps) = test k p && pass (k + 1) ps

  row_passes : (ps : List Profile) (from k : ℕ) (p : Profile) → pass from ps ≡ true → slice_get ps k ≡ Some p → test (from + k) p ≡ true
  row_passes [] from k p h e = cc
  row_passes (q ∷ ps) from zero p h e =
      let i : q ≡ p = cc in
      let here = transport (λ r. test from r ≡ true) i (and_split (test from q) (pass (from + 1) ps) h).0 in
      let there : from ≡ from + 0 = omega arith in
      transport (λ n. test n p ≡ true) there here
  row_passes (q ∷ ps) from (suc k) p h e =
      let later = row_passes ps (from + 1) k p (and_split (test from q) (pass (from + 1) ps) h).1 e in
      let there : from + 1 + k ≡ from + suc k = omega arith in
      transport (λ n. test n p ≡ true) there later

  pub row_passed : pass 0 base_profiles ≡ true → (k : ℕ) (p : Profile) → base_profile k ≡ Some p → test k p ≡ true
  row_passed h k p e =
      let there : 0 + k ≡ k = omega arith in
      transport (λ n. test n p ≡ true) there (row_passes base_profiles 0 k p h e)
