-- What the reader of types answers, for all the tokens.
use Rattle.std.proofs.Common.{◌≡◌, ℕ, zero, suc, ◌≤◌, ◌<◌, true, List, [], ◌∷◌, drop, length, refl, ap, subst, sym, arith}
use Rattle.std.specs.Prelude.{Option, Some, None, Result, Ok, Err, ◌≢◌, ◌↔◌, IfOk}
use Rattle.ev_syntax.specs.Tokens.{Token}
use Rattle.ev_syntax.specs.Raw.{RawType, type_nesting}
use Rattle.ev_syntax.specs.Grammar.{ReadsType}
use Rattle.ev_syntax.specs.inner.Finding.{Found, Comes}
use Rattle.ev_syntax.specs.inner.TypeParser.{parse_type, a_type}
use Rattle.ev_syntax.specs.Answers.{IsTypeResult}
use Rattle.ev_syntax.specs.declared.sorts.Sort.TheVariants.{TypeText}
use Rattle.ev_syntax.specs.declared.parse_faults.ParseFault.{ParseFault}
use Rattle.ev_syntax.specs.declared.parse_faults.ParseFault.TheVariants.{Syntax, TooDeep, NoMemory}
use Rattle.ev_syntax.proofs.OneTree.{nothing_stops}
use Rattle.ev_syntax.proofs.Comes.{type_answer}
use Rattle.ev_syntax.proofs.Answers.{type_sound}
use Rattle.ev_syntax.proofs.TypesRead.{only_type}

abbrev Answer : List Token → Option (Found RawType) → Type 0
Answer ts o = Comes (λ g. parse_type g a_type ts) o

all_dropped : {A : Type 0} (ts : List A) (to : ℕ) → length ts ≤ to → drop to ts ≡ []
all_dropped [] zero le = refl
all_dropped [] (suc to) le = refl
all_dropped (t ∷ ts) zero le = absurd (omega arith)
all_dropped (t ∷ ts) (suc to) le = all_dropped ts to (omega arith)

some_left : {A : Type 0} (ts : List A) (to : ℕ) → to < length ts → drop to ts ≡ [] → ⊥
some_left [] to lt e = omega arith
some_left (t ∷ ts) zero lt e = cc
some_left (t ∷ ts) (suc to) lt e = some_left ts to (omega arith) e

pub type_whole : (ts : List Token) (to : ℕ) (r : RawType) → Answer ts (Some (r, drop to ts)) → length ts ≤ to → ReadsType r true ts []
type_whole ts to r c le = subst (λ us. ReadsType r true ts us) (all_dropped ts to le) (type_sound ts (drop to ts) r c)

none_some : (o : Option (Found RawType)) (x : Found RawType) → o ≡ None → o ≡ Some x → ⊥
none_some o x e d = cc

rests : (r a : RawType) (us : List Token) → ◌≡◌ {A = Option (Found RawType)} (Some (r, us)) (Some (a, [])) → us ≡ []
rests r a us e = ap behind e
  where
    behind : Option (Found RawType) → List Token
    behind None = []
    behind (Some x) = x.1

pub type_left : (ts : List Token) (to : ℕ) (r : RawType) → Answer ts (Some (r, drop to ts)) → to < length ts → (a : RawType) → ReadsType a true ts [] → ⊥
type_left ts to r c lt a h = some_left ts to lt (rests r a (drop to ts) (type_answer ts [] a (Some (r, drop to ts)) c h (nothing_stops TypeText)))

pub no_type : (ts : List Token) → Answer ts None → (a : RawType) → ReadsType a true ts [] → ⊥
no_type ts c a h = none_some None (a, []) refl (type_answer ts [] a None c h (nothing_stops TypeText))

-- the clauses, from what the answer says
pub type_ok : (ts : List Token) (limit : ℕ) (r : Result RawType ParseFault) → IsTypeResult ts limit r → IfOk r (λ a. ReadsType a true ts [] × (type_nesting a ≤ limit))
type_ok ts limit (Ok a) h = h
type_ok ts limit (Err f) h = tt

clash : {P : Type 0} (x y : Result RawType ParseFault) → x ≡ y → (x ≡ y → ⊥) → P
clash x y e f = absurd (f e)

pub type_syntax : (ts : List Token) (limit : ℕ) (r : Result RawType ParseFault) → IsTypeResult ts limit r → r ≢ Err NoMemory → (r ≡ Err Syntax) ↔ ((a : RawType) → ReadsType a true ts [] → ⊥)
type_syntax ts limit (Ok a) h n = (λ e. cc, λ f. absurd (f a h.0))
type_syntax ts limit (Err Syntax) h n = (λ e. h, λ f. refl)
type_syntax ts limit (Err TooDeep) h n = (λ e. cc, λ f. absurd (f h.0 h.1))
type_syntax ts limit (Err NoMemory) h n = absurd (n refl)

pub type_too_deep : (ts : List Token) (limit : ℕ) (r : Result RawType ParseFault) → IsTypeResult ts limit r → r ≢ Err NoMemory
    → (r ≡ Err TooDeep) ↔ ((a : RawType) × ReadsType a true ts [] × (limit < type_nesting a))
type_too_deep ts limit (Ok a) h n = (λ e. cc, λ f. let same : a ≡ f.0 = only_type ts a f.0 h.0 f.1 in let d : type_nesting a ≡ type_nesting f.0 = ap type_nesting same in let lt = f.2 in let le = h.1 in absurd (omega arith))
type_too_deep ts limit (Err Syntax) h n = (λ e. cc, λ f. absurd (h f.0 f.1))
type_too_deep ts limit (Err TooDeep) h n = (λ e. h, λ f. refl)
type_too_deep ts limit (Err NoMemory) h n = absurd (n refl)

pub piece_whole : (ts : List Token) (limit : ℕ) (r a : RawType) (n : ℕ) → (a ≡ r) × (n ≡ type_nesting r) × (n ≤ limit) → ReadsType r true ts [] → ReadsType a true ts [] × (type_nesting a ≤ limit)
piece_whole ts limit r a n (e, d, le) h = (subst (λ x. ReadsType x true ts []) (sym e) h, let f : type_nesting a ≡ type_nesting r = ap type_nesting e in omega arith)
