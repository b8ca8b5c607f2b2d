-- What the walk over numbers of type parameters needs.
use Rattle.std.specs.Prelude.{◌≡◌, ◌||◌, ◌++◌, ℕ, Bool, true, false, List, [], ◌∷◌, refl}
use Rattle.std.specs.List.{list_any}
use Rattle.std.proofs.Common.{ap, sym, ◌∙◌, append_assoc}
use Rattle.std.proofs.lemmas.List.Folds.{list_any-append}
use Rattle.ev_syntax.specs.Raw.{Binder}
use Rattle.ev_typing.proofs.Names.{drop_at, drop_all}
use Rattle.ev_resolve.specs.UsedNames.{binders_params, written_params}
use Rattle.ev_resolve.proofs.Taking.{height_at}
use Rattle.ev_resolve.proofs.Using.{type_height_at}

or_false : (b : Bool) → (b || false) ≡ b
or_false true = refl
or_false false = refl

-- of one number
pub any_alone : (p : ℕ → Bool) (i : ℕ) → list_any p (i ∷ []) ≡ p i
any_alone p i = or_false (p i)

append_nothing : (ns : List ℕ) → ns ++ [] ≡ ns
append_nothing [] = refl
append_nothing (n ∷ ns) = ap (λ l. n ∷ l) (append_nothing ns)

pub binder_alone : (p : ℕ → Bool) (b : Binder) → list_any p (binders_params (b ∷ [])) ≡ list_any p (written_params b.type)
binder_alone p b = ap (list_any p) (append_nothing (written_params b.type))

params_append : (xs ys : List Binder) → binders_params (xs ++ ys) ≡ binders_params xs ++ binders_params ys
params_append [] ys = refl
params_append (x ∷ xs) ys = ap (λ l. written_params x.type ++ l) (params_append xs ys) ∙ sym (append_assoc (written_params x.type) (binders_params xs) (binders_params ys))

pub pattern_pair : (p : ℕ → Bool) (xs ys : List Binder) → list_any p (binders_params (xs ++ ys)) ≡ (list_any p (binders_params xs) || list_any p (binders_params ys))
pattern_pair p xs ys = ap (list_any p) (params_append xs ys) ∙ list_any-append p (binders_params xs) (binders_params ys)

pub ruleset numbers = (any_alone)

pub ruleset types = (any_alone, type_height_at, drop_at, drop_all, list_any-append)

pub ruleset binders = (drop_at, drop_all, list_any-append)

pub ruleset patterns = (pattern_pair, binder_alone)

pub ruleset walk = (any_alone, binder_alone, height_at, drop_at, drop_all, list_any-append)
