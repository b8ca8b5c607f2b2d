-- The longest run, from what the tokens up to a place are.
use Rattle.std.proofs.Common.{◌≡◌, ℕ, ◌+◌, ◌-◌, ◌≤◌, ◌<◌, Bool, true, false, List, [], length, take, drop, refl, ap, subst, sym, ◌∙◌, arith}
use Rattle.std.specs.Prelude.{Some, None, Result, Ok, Err, ◌≢◌, ◌↔◌, ◌==◌}
use Rattle.std.proofs.lemmas.Bool.Decides.{nat_tests}
use Rattle.std.proofs.lemmas.List.{length-map, take-map, drop-take}
use Rattle.ev_syntax.specs.Views.{seen_in, all_seen_in}
use Rattle.ev_syntax.specs.declared.kinds as kinds
use Rattle.ev_syntax.specs.Tokens.{Token, tokens_of}
use Rattle.ev_syntax.specs.Raw.{Raw, nesting}
use Rattle.ev_syntax.specs.declared.read_pieces.Piece.{Piece}
use Rattle.ev_syntax.specs.declared.sorts.Sort.{Sort}
use Rattle.ev_syntax.specs.declared.parse_faults.ParseFault.{ParseFault}
use Rattle.ev_syntax.specs.declared.parse_faults.ParseFault.TheVariants.{Syntax, TooDeep, NoMemory}
use Rattle.ev_syntax.specs.Parses.{Parses, IsRun, IsLongestRun}
use Rattle.ev_syntax.proofs.RunLaws.{as_shrinks, only_longest}
use Rattle.ev_parse.specs.Items.{ItemAnswer}
use Rattle.ev_parse.specs.Wholes.{WholeAnswer}
use Rattle.ev_parse.specs.Fronts.{FrontAnswer, IsFrontResult}
use Rattle.ev_parse.proofs.WholeMoves.{item_longest}

-- what the first tokens are, and how many
pub seen_take : (text : List ℕ) (tokens : List kinds.Token.Token) (n : ℕ) → tokens_of (all_seen_in text (take n tokens)) ≡ take n (tokens_of (all_seen_in text tokens))
seen_take text tokens n = ap tokens_of (sym (take-map (seen_in text) n tokens)) ∙ sym (take-map (λ t. t.token) n (all_seen_in text tokens))

pub seen_length : (text : List ℕ) (tokens : List kinds.Token.Token) → length (tokens_of (all_seen_in text tokens)) ≡ length tokens
seen_length text tokens = simp length-map

-- no run from the place on ends behind another place
abbrev pub NoneBehind : List Token → ℕ → Sort → ℕ → Type 0
NoneBehind ts from sort to = (n : ℕ) (raw : Raw) → IsRun ts from sort n raw → from + n ≤ to

-- a run up to a place is all of the tokens up to it
run_part : (sort : Sort) (ts : List Token) (from n : ℕ) (raw : Raw) → Parses (take n (drop from ts)) sort raw → Parses (drop from (take (from + n) ts)) sort raw
run_part sort ts from n raw h = subst (λ us. Parses us sort raw) (sym (drop-take from n ts)) h

part_run : (sort : Sort) (ts : List Token) (from n : ℕ) (raw : Raw) → Parses (drop from (take (from + n) ts)) sort raw → Parses (take n (drop from ts)) sort raw
part_run sort ts from n raw h = subst (λ us. Parses us sort raw) (drop-take from n ts) h

pub none_behind_less : (sort : Sort) (limit : ℕ) (ts : List Token) (from to : ℕ) → NoneBehind ts from sort to → WholeAnswer sort limit (drop from (take to ts)) None → NoneBehind ts from sort (to - 1)
none_behind_less sort limit ts from to before out n raw h = go (from + n == to) refl
  where
    below : (a b : ℕ) → a ≤ b → (a == b) ≡ false → a ≤ b - 1
    below a b le e = grind (arith, nat_tests)

    same : (a b : ℕ) → (a == b) ≡ true → a ≡ b
    same a b e = grind (arith, nat_tests)

    go : (b : Bool) → (from + n == to) ≡ b → from + n ≤ to - 1
    go false e = below (from + n) to (before n raw h) e
    go true e = absurd (out raw (subst (λ k. Parses (drop from (take k ts)) sort raw) (same (from + n) to e) (run_part sort ts from n raw h.1)))

pub longest_part : (sort : Sort) (limit : ℕ) (ts : List Token) (from to : ℕ) (p : Piece Raw) → NoneBehind ts from sort to → WholeAnswer sort limit (drop from (take to ts)) (Some p)
    → from < to → to ≤ length ts → FrontAnswer sort limit ts from (Some (p, to))
longest_part sort limit ts from to p before (raw, q, h) lt le =
    let n : to ≡ from + (to - from) = omega arith in
    let run : IsRun ts from sort (to - from) raw = (omega arith, part_run sort ts from (to - from) raw (subst (λ k. Parses (drop from (take k ts)) sort raw) n h)) in
    (raw, q, (record { run = run; longest = λ m other i. let b : from + m ≤ to = before m other i in omega arith }, omega arith, le))

-- a run has tokens
some_tokens : (sort : Sort) (ts : List Token) (from n : ℕ) (raw : Raw) → IsRun ts from sort n raw → n ≡ 0 → ⊥
some_tokens sort ts from n raw h e =
    let i : Parses [] sort raw = subst (λ k. Parses (take k (drop from ts)) sort raw) e h.1 in
    let lt : 0 < 0 = as_shrinks sort raw [] [] i in omega arith

pub no_front : (sort : Sort) (limit : ℕ) (ts : List Token) (from to : ℕ) → NoneBehind ts from sort to → to ≤ from → FrontAnswer sort limit ts from None
no_front sort limit ts from to before le n raw h = let b : from + n ≤ to = before n raw h in some_tokens sort ts from n raw h (omega arith)

pub item_front : (sort : Sort) (limit : ℕ) (ts : List Token) (from : ℕ) (x : Piece Raw × ℕ) → ItemAnswer sort limit ts from (Some x) → FrontAnswer sort limit ts from (Some x)
item_front sort limit ts from (p, to) (raw, q, run, s, lt, le) = (raw, q, (item_longest sort ts from to raw run s lt, omega arith, le))

-- a clause, from what the result says
pub front_too_deep : (sort : Sort) (limit : ℕ) (ts : List Token) (from : ℕ) (r : Result (Raw × ℕ) ParseFault) → IsFrontResult sort limit ts from r → r ≢ Err NoMemory
    → (r ≡ Err TooDeep) ↔ ((n : ℕ) × (raw : Raw) × IsLongestRun ts from sort n raw × (limit < nesting raw))
front_too_deep sort limit ts from (Ok (raw, to)) ((l, m, k), q) n =
    (λ e. cc, λ f. let d : nesting raw ≡ nesting f.1 = ap (λ (x : ℕ × Raw). nesting x.1) (only_longest ts from sort (to - from) f.0 raw f.1 l f.2) in let lt : limit < nesting f.1 = f.3 in absurd (omega arith))
front_too_deep sort limit ts from (Err Syntax) h n = (λ e. cc, λ f. absurd (h f.0 f.1 f.2.run))
front_too_deep sort limit ts from (Err TooDeep) h n = (λ e. h, λ f. refl)
front_too_deep sort limit ts from (Err NoMemory) h n = absurd (n refl)
