-- What a part of a pattern adds to what is found.
use Rattle.std.specs.Prelude.{◌≡◌, ◌+◌, ◌-◌, ◌<◌, ◌||◌, ℕ, Bool as Boolean, true, false, List, length, reverse}
use Rattle.ev_terms.specs.declared.types.Ty.{Ty}
use Rattle.ev_terms.specs.declared.types.Tys.{Tys}
use Rattle.ev_terms.specs.Term.{Term, Terms}
use Rattle.ev_terms.specs.Substitution.{lifts, inst, insts, entry, type_at, type_inst, types_inst, retype, retypes}
use Rattle.ev_typing.specs.TypeLists.{types}
use Rattle.ev_typing.specs.Occurs.{has_param, have_param, mentions_param, mention_param, has_var, have_var}
use Rattle.ev_rewrite.specs.declared.slots.Found.{Found}
use Rattle.ev_rewrite.specs.Matching.{Agree}
use Rattle.ev_rewrite.specs.inner.Slots.{is_given}

-- types and terms, the outermost variable's first, agree with what is found
abbrev pub Agrees : Found → List Ty → List Term → Type 0
Agrees found As ts = Agree found.types.items As × Agree found.terms.items ts

-- a demand on types and terms
abbrev pub Demand : Type 1
Demand = List Ty → List Term → Type 0

-- what is found then is what was found before and what the demand adds: values for the parameters of p and the variables of q
pub record IsStep (E : Demand) (p q : ℕ → Boolean) (old new : Found) : Type 0 where
  pub type_count : length new.types.items ≡ length old.types.items
  pub term_count : length new.terms.items ≡ length old.terms.items
  pub types_where : (j : ℕ) → j < length old.types.items → is_given new.types.items j ≡ (is_given old.types.items j || p j)
  pub terms_where : (i : ℕ) → i < length old.terms.items → is_given new.terms.items (length old.terms.items - 1 - i) ≡ (is_given old.terms.items (length old.terms.items - 1 - i) || q i)
  pub before : (As : List Ty) (ts : List Term) → Agrees new As ts → Agrees old As ts
  pub holds : (As : List Ty) (ts : List Term) → Agrees new As ts → E As ts
  pub all : (As : List Ty) (ts : List Term) → Agrees old As ts → E As ts → Agrees new As ts

-- that, or that nothing that agrees with what was found meets the demand
abbrev pub IsTaken : Demand → (ℕ → Boolean) → (ℕ → Boolean) → Found → Found → Boolean → Type 0
IsTaken E p q old new true = IsStep E p q old new
IsTaken E p q old new false = (As : List Ty) (ts : List Term) → Agrees old As ts → ¬ E As ts

-- the pattern, a type, becomes the type
abbrev pub TypeTaken : Ty → Ty → Found → Found → Boolean → Type 0
TypeTaken A B old new b = IsTaken (λ As ts. type_inst (type_at (types As)) A ≡ B) (λ j. has_param j A) (λ i. false) old new b

abbrev pub TypesTaken : Tys → Tys → Found → Found → Boolean → Type 0
TypesTaken A B old new b = IsTaken (λ As ts. types_inst (type_at (types As)) A ≡ B) (λ j. have_param j A) (λ i. false) old new b

-- the pattern, a part of the whole under d binders, becomes the term
abbrev pub TermTaken : Term → ℕ → Term → Found → Found → Boolean → Type 0
TermTaken P d t old new b =
    IsTaken (λ As ts. inst (lifts d (entry (reverse ts))) (retype (type_at (types As)) P) ≡ t) (λ j. mentions_param j P) (λ i. has_var (i + d) P) old new b

abbrev pub TermsTaken : Terms → ℕ → Terms → Found → Found → Boolean → Type 0
TermsTaken Ps d ts' old new b =
    IsTaken (λ As ts. insts (lifts d (entry (reverse ts))) (retypes (type_at (types As)) Ps) ≡ ts') (λ j. mention_param j Ps) (λ i. have_var (i + d) Ps) old new b
