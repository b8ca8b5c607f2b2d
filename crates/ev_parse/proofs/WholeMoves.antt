-- From what stands at a place to what all the tokens from there on are.
use Rattle.std.proofs.Common.{◌≡◌, ℕ, ◌+◌, ◌-◌, ◌≤◌, ◌<◌, true, List, [], length, take, drop, refl, ap, subst, sym, ◌∙◌, arith, length-drop}
use Rattle.std.specs.Prelude.{Some, None, Result, Ok, Err, ◌≢◌, ◌↔◌}
use Rattle.std.proofs.lemmas.List.{take_all, drop_all, drop-drop}
use Rattle.ev_syntax.specs.Tokens.{Token}
use Rattle.ev_syntax.specs.Raw.{Raw, nesting}
use Rattle.ev_syntax.specs.declared.read_pieces.Piece.{Piece}
use Rattle.ev_syntax.specs.declared.sorts.Sort.{Sort}
use Rattle.ev_syntax.specs.declared.parse_faults.ParseFault.{ParseFault}
use Rattle.ev_syntax.specs.declared.parse_faults.ParseFault.TheVariants.{Syntax, TooDeep, NoMemory}
use Rattle.ev_syntax.specs.Parses.{Parses, IsRun, IsLongestRun}
use Rattle.ev_syntax.proofs.OneTree.{at_most_one_tree}
use Rattle.ev_syntax.proofs.RunLaws.{longest_by_stop}
use Rattle.ev_parse.specs.Items.{ends, ItemAnswer}
use Rattle.ev_parse.specs.Wholes.{WholeAnswer, IsFormulaResult}
use Rattle.ev_parse.proofs.EndingMoves.{ends_stops}

-- all the tokens from a place on are a run
whole_run : (sort : Sort) (ts : List Token) (from : ℕ) (raw : Raw) → from ≤ length ts → Parses (drop from ts) sort raw → IsRun ts from sort (length ts - from) raw
whole_run sort ts from raw le h =
    let d : length (drop from ts) ≡ length ts - from = length-drop from ts in
    let e : take (length ts - from) (drop from ts) ≡ drop from ts = take_all (length ts - from) (drop from ts) (omega arith) in
    (omega arith, subst (λ us. Parses us sort raw) (sym e) h)

pub no_whole : (sort : Sort) (limit : ℕ) (ts : List Token) (from : ℕ) → from ≤ length ts → ItemAnswer sort limit ts from None → WholeAnswer sort limit (drop from ts) None
no_whole sort limit ts from le h raw p =
    let d : length (drop from ts) ≡ length ts - from = length-drop from ts in
    let e : drop (length ts - from) (drop from ts) ≡ [] = drop_all (length ts - from) (drop from ts) (omega arith) in
    h (length ts - from) raw (whole_run sort ts from raw le p) (subst (λ us. ends us ≡ true) (sym e) refl)

-- an item is the longest run
pub item_longest : (sort : Sort) (ts : List Token) (from to : ℕ) (raw : Raw) → IsRun ts from sort (to - from) raw → ends (drop to ts) ≡ true → from < to → IsLongestRun ts from sort (to - from) raw
item_longest sort ts from to raw run s lt =
    let n : from + (to - from) ≡ to = omega arith in
    let e : drop (to - from) (drop from ts) ≡ drop to ts = drop-drop (to - from) from ts ∙ ap (λ k. drop k ts) n in
    longest_by_stop ts from sort (to - from) raw run (ends_stops sort (drop (to - from) (drop from ts)) (subst (λ us. ends us ≡ true) (sym e) s))

pub left_over : (sort : Sort) (limit : ℕ) (ts : List Token) (from to : ℕ) (p : Piece Raw) → from ≤ length ts → ItemAnswer sort limit ts from (Some (p, to)) → to < length ts
    → WholeAnswer sort limit (drop from ts) None
left_over sort limit ts from to p le h lt raw i =
    let l : IsLongestRun ts from sort (to - from) h.0 = item_longest sort ts from to h.0 h.2 h.3 h.4 in
    let m : length ts - from ≤ to - from = l.longest (length ts - from) raw (whole_run sort ts from raw le i) in
    let some : from < to = h.4 in
    absurd (omega arith)

-- a clause, from what the result says
pub formula_too_deep : (sort : Sort) (limit : ℕ) (ts : List Token) (r : Result Raw ParseFault) → IsFormulaResult sort limit ts r → r ≢ Err NoMemory
    → (r ≡ Err TooDeep) ↔ ((raw : Raw) × Parses ts sort raw × (limit < nesting raw))
formula_too_deep sort limit ts (Ok a) h n =
    (λ e. cc, λ f. let same : a ≡ f.0 = at_most_one_tree ts sort a f.0 h.0 f.1 in let d : nesting a ≡ nesting f.0 = ap nesting same in let lt = f.2 in let le = h.1 in absurd (omega arith))
formula_too_deep sort limit ts (Err Syntax) h n = (λ e. cc, λ f. absurd (h f.0 f.1))
formula_too_deep sort limit ts (Err TooDeep) h n = (λ e. h, λ f. refl)
formula_too_deep sort limit ts (Err NoMemory) h n = absurd (n refl)
