-- The laws of derivations.
use Rattle.std.specs.Prelude.{◌≡◌, ◌+◌, ◌++◌, ℕ, zero, suc, List, [], ◌∷◌, Some, slice_get, length, map, refl}
use Rattle.std.proofs.Common.{ap, sym, ◌∙◌, subst as transport, append_assoc, arith}
use Rattle.std.specs.List.{AllByRecursion, AllZip}
use Rattle.ev_terms.specs.Types.{type_list}
use Rattle.ev_typing.specs.declared.typing.Sequent.{Sequent}
use Rattle.ev_typing.specs.Env.{Env}
use Rattle.ev_typing.specs.Parts.{IsPartOf, HasDistinctNames}
use Rattle.ev_typing.specs.BaseSequents.{IsBaseSequent}
use Rattle.ev_typing.proofs.Wholes.{HasAll, whole_has_all, all_proper_over, typed_over, all_typed_over}
use Rattle.ev_typing.proofs.BaseSequents.{whole_base_sequents}
use Rattle.ev_kernel.specs.declared.rules.BaseRule.{BaseRule}
use Rattle.ev_kernel.specs.declared.rules.BaseRule.TheVariants.{Hyp, Weak, Cut, Inst, TrueI, FalseE, NotI, NotE, AndI, AndE1, AndE2, OrI1, OrI2, OrE, ImpI, ImpE, IffI, IffE1, IffE2, AllI, AllE, ExI, ExE, Em, Refl, Sym as Symmetry, Trans, Cong, SetMem, BoolMem, Calc, Axiom, Des, Dis, Ind, Rec}
use Rattle.ev_kernel.specs.declared.rules.Line.{Line}
use Rattle.ev_kernel.specs.Row.{Row}
use Rattle.ev_kernel.proofs.Lookups.{destructor_over, distinctness_over, recursion_over, premises_over}
use Rattle.ev_kernel.specs.Derivable.{Follows, Derivable, AreDerivable, derived, none, more, numbered, IsSequentAt, LineFollows, IsDerivationAfter, IsDerivation, LinesAreDerivable, DerivableHasDerivation, WholeKeepsDerivable}

-- Each line of a derivation has a derivable sequent.
abbrev AreLinesDerivable : Env → List Line → Type 0
AreLinesDerivable env ls = AllByRecursion (λ (l : Line). Derivable env l.sequent) ls

line_derivable : (env : Env) (ls : List Line) (i : ℕ) (l : Line) → AreLinesDerivable env ls → slice_get ls i ≡ Some l → Derivable env l.sequent
line_derivable env [] i l h e = cc
line_derivable env (k ∷ ls) zero l h e = let q : k ≡ l = cc in transport (λ (x : Line). Derivable env x.sequent) q h.0
line_derivable env (k ∷ ls) (suc i) l h e = line_derivable env ls i l h.1 e

numbered_derivable : (env : Env) (ls : List Line) (n : ℕ) (l : Line) → AreLinesDerivable env ls → numbered ls n ≡ Some l → Derivable env l.sequent
numbered_derivable env ls zero l h e = cc
numbered_derivable env ls (suc i) l h e = line_derivable env ls i l h e

premises_derivable : (env : Env) (ls : List Line) (ns : List ℕ) (Ss : List Sequent) → AreLinesDerivable env ls → AllZip (IsSequentAt ls) ns Ss → AreDerivable env Ss
premises_derivable env ls [] [] h z = none
premises_derivable env ls [] (S ∷ Ss) h z = absurd z
premises_derivable env ls (n ∷ ns) [] h z = absurd z
premises_derivable env ls (n ∷ ns) (S ∷ Ss) h z =
    more S Ss (transport (Derivable env) z.0.2 (numbered_derivable env ls n z.0.0 h z.0.1)) (premises_derivable env ls ns Ss h z.1)

with_last : (env : Env) (ls : List Line) (l : Line) → AreLinesDerivable env ls → Derivable env l.sequent → AreLinesDerivable env (ls ++ l ∷ [])
with_last env [] l h d = (d, tt)
with_last env (k ∷ ls) l h d = (h.0, with_last env ls l h.1 d)

lines_after : (env : Env) (earlier ls : List Line) → AreLinesDerivable env earlier → IsDerivationAfter env earlier ls → AreLinesDerivable env ls
lines_after env earlier [] h d = tt
lines_after env earlier (l ∷ ls) h d =
    let this : Derivable env l.sequent = derived d.0.0 l.rule l.sequent d.0.2 (premises_derivable env earlier l.premises d.0.0 h d.0.1) in
    (this, lines_after env (earlier ++ l ∷ []) ls (with_last env earlier l h this) d.1)

pub derivation_derivable : LinesAreDerivable
derivation_derivable env ls d = lines_after env [] ls tt d

-- A rule goes over to a larger environment: only types and typed terms of fields, and declared names, speak of the environment.
row_over : (e f : Env) → IsPartOf e f → HasDistinctNames f → HasAll e f → (ps : List Sequent) (rule : BaseRule) (S : Sequent) → Row e ps rule S → Row f ps rule S
row_over e f i w k ps Hyp S h = h
row_over e f i w k ps Weak S h = h
row_over e f i w k ps Cut S h = h
row_over e f i w k ps (Inst As ts) S (T, q, g) = (
  T,
  q,
  record {
    types_proper = all_proper_over e f k As g.types_proper;
    terms_typed = all_typed_over e f k (type_list S.context) _ _ g.terms_typed;
    hyps_are = g.hyps_are;
    goal_is = g.goal_is;
  },
)
row_over e f i w k ps TrueI S h = h
row_over e f i w k ps FalseE S h = h
row_over e f i w k ps NotI S h = h
row_over e f i w k ps NotE S h = h
row_over e f i w k ps AndI S h = h
row_over e f i w k ps AndE1 S h = h
row_over e f i w k ps AndE2 S h = h
row_over e f i w k ps OrI1 S h = h
row_over e f i w k ps OrI2 S h = h
row_over e f i w k ps OrE S h = h
row_over e f i w k ps ImpI S h = h
row_over e f i w k ps ImpE S h = h
row_over e f i w k ps IffI S h = h
row_over e f i w k ps IffE1 S h = h
row_over e f i w k ps IffE2 S h = h
row_over e f i w k ps AllI S h = h
row_over e f i w k ps (AllE t) S (A, P, y, q) = (A, P, typed_over e f k (type_list S.context) t A y, q)
row_over e f i w k ps (ExI t) S (A, P, y, q) = (A, P, typed_over e f k (type_list S.context) t A y, q)
row_over e f i w k ps ExE S h = h
row_over e f i w k ps Em S h = h
row_over e f i w k ps Refl S h = h
row_over e f i w k ps Symmetry S h = h
row_over e f i w k ps Trans S h = h
row_over e f i w k ps Cong S h = h
row_over e f i w k ps SetMem S h = h
row_over e f i w k ps BoolMem S h = h
row_over e f i w k ps Calc S h = h
row_over e f i w k ps (Axiom n) S h = h
row_over e f i w k ps (Des con place) S h = (h.0, destructor_over e f i w con place S.goal h.1)
row_over e f i w k ps (Dis left right) S h = (h.0, distinctness_over e f i w left right S.goal h.1)
row_over e f i w k ps Ind S h = premises_over e f k S ps h
row_over e f i w k ps (Rec op con) S h = (h.0, recursion_over e f i w k op con S.goal h.1)

all_base_over : (e f : Env) → IsPartOf e f → HasDistinctNames f → (Ss : List Sequent) → AllByRecursion (IsBaseSequent e) Ss → AllByRecursion (IsBaseSequent f) Ss
all_base_over e f k w [] h = tt
all_base_over e f k w (S ∷ Ss) h = (whole_base_sequents e f k w S h.0, all_base_over e f k w Ss h.1)

follows_over : (e f : Env) → IsPartOf e f → HasDistinctNames f → (ps : List Sequent) (rule : BaseRule) (S : Sequent) → Follows e ps rule S → Follows f ps rule S
follows_over e f k w ps rule S h = record {
  row = row_over e f k w (whole_has_all e f k w) ps rule S h.row;
  conclusion = whole_base_sequents e f k w S h.conclusion;
  premises_base = all_base_over e f k w ps h.premises_base;
}

mutual
  derivable_over : (e f : Env) → IsPartOf e f → HasDistinctNames f → (S : Sequent) → Derivable e S → Derivable f S
  derivable_over e f k w S (derived ps rule T h ds) = derived ps rule S (follows_over e f k w ps rule S h) (all_derivable_over e f k w ps ds)

  all_derivable_over : (e f : Env) → IsPartOf e f → HasDistinctNames f → (Ss : List Sequent) → AreDerivable e Ss → AreDerivable f Ss
  all_derivable_over e f k w [] none = none
  all_derivable_over e f k w (S ∷ Ss) (more T Ts d ds) = more S Ss (derivable_over e f k w S d) (all_derivable_over e f k w Ss ds)

pub whole_derivable : WholeKeepsDerivable
whole_derivable e f k w S d = derivable_over e f k w S d

-- What is derivable has a derivation: those of the premises, one behind the other, and a last line.

-- the line with its premises counted on from k
abbrev moved : ℕ → Line → Line
moved k l = record { sequent = l.sequent; rule = l.rule; premises = map (λ n. n + k) l.premises }

slice_past : {X : Type 0} (xs ys : List X) (i : ℕ) → slice_get (xs ++ ys) (i + length xs) ≡ slice_get ys i
slice_past [] ys i = let e : i + 0 ≡ i = omega arith in ap (slice_get ys) e
slice_past (x ∷ xs) ys i = let e : i + suc (length xs) ≡ suc (i + length xs) = omega arith in ap (slice_get (x ∷ (xs ++ ys))) e ∙ slice_past xs ys i

slice_map : {X Y : Type 0} (f : X → Y) (xs : List X) (i : ℕ) (x : X) → slice_get xs i ≡ Some x → slice_get (map f xs) i ≡ Some (f x)
slice_map f [] i x h = cc
slice_map f (y ∷ xs) zero x h = let e : y ≡ x = cc in ap (λ z. Some (f z)) e
slice_map f (y ∷ xs) (suc i) x h = slice_map f xs i x h

slice_first : {X : Type 0} (xs ys : List X) (i : ℕ) (x : X) → slice_get xs i ≡ Some x → slice_get (xs ++ ys) i ≡ Some x
slice_first [] ys i x h = cc
slice_first (y ∷ xs) ys zero x h = h
slice_first (y ∷ xs) ys (suc i) x h = slice_first xs ys i x h

slice_last : {X : Type 0} (xs ys : List X) (x : X) → slice_get (xs ++ x ∷ ys) (length xs) ≡ Some x
slice_last [] ys x = refl
slice_last (y ∷ xs) ys x = slice_last xs ys x

at_moved : (es ls : List Line) (n : ℕ) (S : Sequent) → IsSequentAt ls n S → IsSequentAt (es ++ map (moved (length es)) ls) (n + length es) S
at_moved es ls zero S (l, h, e) = cc
at_moved es ls (suc i) S (l, h, e) =
    let k : suc i + length es ≡ suc (i + length es) = omega arith in (
      moved (length es) l,
      ap (numbered (es ++ map (moved (length es)) ls)) k ∙ slice_past es (map (moved (length es)) ls) i ∙ slice_map (moved (length es)) ls i l h,
      e,
    )

all_at_moved : (es ls : List Line) (ns : List ℕ) (Ss : List Sequent) → AllZip (IsSequentAt ls) ns Ss →
    AllZip (IsSequentAt (es ++ map (moved (length es)) ls)) (map (λ n. n + length es) ns) Ss
all_at_moved es ls [] [] z = tt
all_at_moved es ls [] (S ∷ Ss) z = absurd z
all_at_moved es ls (n ∷ ns) [] z = absurd z
all_at_moved es ls (n ∷ ns) (S ∷ Ss) z = (at_moved es ls n S z.0, all_at_moved es ls ns Ss z.1)

at_first : (ls ms : List Line) (n : ℕ) (S : Sequent) → IsSequentAt ls n S → IsSequentAt (ls ++ ms) n S
at_first ls ms zero S (l, h, e) = cc
at_first ls ms (suc i) S (l, h, e) = (l, slice_first ls ms i l h, e)

line_moved : (env : Env) (es earlier : List Line) (l : Line) → LineFollows env earlier l → LineFollows env (es ++ map (moved (length es)) earlier) (moved (length es) l)
line_moved env es earlier l (ps, z, f) = (ps, all_at_moved es earlier l.premises ps z, f)

map_last : (f : Line → Line) (ls : List Line) (l : Line) → map f (ls ++ l ∷ []) ≡ map f ls ++ f l ∷ []
map_last f [] l = refl
map_last f (k ∷ ls) l = ap (λ ms. f k ∷ ms) (map_last f ls l)

moved_after : (env : Env) (es earlier ls : List Line) → IsDerivationAfter env earlier ls → IsDerivationAfter env (es ++ map (moved (length es)) earlier) (map (moved (length es)) ls)
moved_after env es earlier [] d = tt
moved_after env es earlier (l ∷ ls) d = (
  line_moved env es earlier l d.0,
  transport (λ fs. IsDerivationAfter env fs (map (moved (length es)) ls))
      (ap (λ fs. es ++ fs) (map_last (moved (length es)) earlier l) ∙ sym (append_assoc es (map (moved (length es)) earlier) (moved (length es) l ∷ [])))
      (moved_after env es (earlier ++ l ∷ []) ls d.1),
)

append_nothing : (ls : List Line) → ls ++ [] ≡ ls
append_nothing [] = refl
append_nothing (l ∷ ls) = ap (λ ms. l ∷ ms) (append_nothing ls)

joined : (env : Env) (earlier ls ms : List Line) → IsDerivationAfter env earlier ls → IsDerivationAfter env (earlier ++ ls) ms → IsDerivationAfter env earlier (ls ++ ms)
joined env earlier [] ms d h = transport (λ es. IsDerivationAfter env es ms) (append_nothing earlier) h
joined env earlier (l ∷ ls) ms d h =
    (d.0, joined env (earlier ++ l ∷ []) ls ms d.1 (transport (λ es. IsDerivationAfter env es ms) (sym (append_assoc earlier (l ∷ []) ls)) h))

-- a derivation in which each of the sequents has a line, by these numbers
abbrev HaveLines : Env → List Sequent → Type 0
HaveLines env Ss = (ls : List Line) × (ns : List ℕ) × IsDerivation env ls × AllZip (IsSequentAt ls) ns Ss

abbrev HasLastLine : Env → Sequent → Type 0
HasLastLine env S = (ls : List Line) × (l : Line) × IsDerivation env (ls ++ l ∷ []) × (l.sequent ≡ S)

last_line : (env : Env) (ps : List Sequent) (rule : BaseRule) (S : Sequent) → Follows env ps rule S → HaveLines env ps → HasLastLine env S
last_line env ps rule S f (ls, ns, d, z) =
    let l : Line = record { sequent = S; rule = rule; premises = ns } in
    (ls, l, joined env [] ls (l ∷ []) d ((ps, z, f), tt), refl)

behind : (env : Env) (S : Sequent) (Ss : List Sequent) → HasLastLine env S → HaveLines env Ss → HaveLines env (S ∷ Ss)
behind env S Ss (ls, l, d, e) (ms, ns, h, z) =
    let es : List Line = ls ++ l ∷ [] in
    let k : ℕ = length es in (
      es ++ map (moved k) ms,
      suc (length ls) ∷ map (λ n. n + k) ns,
      joined env [] es (map (moved k) ms) d
          (transport (λ fs. IsDerivationAfter env fs (map (moved k) ms)) (append_nothing es) (moved_after env es [] ms h)),
      ((l, slice_first es (map (moved k) ms) (length ls) l (slice_last ls [] l), e), all_at_moved es ms ns Ss z),
    )

mutual
  has_last_line : (env : Env) (S : Sequent) → Derivable env S → HasLastLine env S
  has_last_line env S (derived ps rule T h ds) = last_line env ps rule S h (have_lines env ps ds)

  have_lines : (env : Env) (Ss : List Sequent) → AreDerivable env Ss → HaveLines env Ss
  have_lines env [] none = ([], [], tt, tt)
  have_lines env (S ∷ Ss) (more T Ts d ds) = behind env S Ss (has_last_line env S d) (have_lines env Ss ds)

pub derivable_derivation : DerivableHasDerivation
derivable_derivation env S d = has_last_line env S d
