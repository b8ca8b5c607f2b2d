-- Words: which characters are in them.
use Rattle.std.proofs.Common.{◌≡◌, ℕ, ◌≤◌, false, arith}
use Rattle.std.proofs.lemmas.Bool.Decides.{nat_tests}
use Rattle.ev_syntax.specs.Chars.{is_blank}
use Rattle.std.specs.Char.{is_ascii_digit}
use Rattle.unicode_ident.proofs.IdentLemmas.{is_xid_start-ascii, is_xid_continue-ascii}

pub blank-outside : (c : ℕ) → 128 ≤ c → is_blank c ≡ false
blank-outside c h = grind (arith, nat_tests)

pub digit-outside : (c : ℕ) → 128 ≤ c → is_ascii_digit c ≡ false
digit-outside c h = grind (arith, nat_tests)

pub ruleset ascii_words = (is_xid_continue-ascii, is_xid_start-ascii)
