-- Where a datatype occurs in a type.
use Rattle.std.proofs.Common.{◌≡◌, ◌<◌, ◌≤◌, ◌+◌, ℕ, Bool as Boolean, true, false, ap, sym, ◌∙◌, arith}
use Rattle.std.specs.Prelude.{◌||◌}
use Rattle.ev_terms.specs.declared.types.Ty.{Ty}
use Rattle.ev_terms.specs.declared.types.Ty.TheVariants.{Pow, Prod}
use Rattle.ev_terms.specs.declared.types.Tys.{Tys}
use Rattle.ev_terms.specs.declared.types.Tys.TheVariants.{More}
use Rattle.ev_terms.specs.Measures.{type_size, types_size}
use Rattle.ev_terms.proofs.Children.{type_size-Pow, type_size-Prod, types_size-More}
use Rattle.ev_terms.specs.Types.{Pow-pow, Prod-prod, More-more}
use Rattle.ev_typing.specs.Env.{Name}
use Rattle.ev_typing.specs.Occurs.{has_data, have_data}

pub in_set : (n : Name) (C A B : Ty) (r : Boolean) → C ≡ Pow A → B ≡ A → r ≡ has_data n B → r ≡ has_data n C
in_set n C A B r e p q = q ∙ ap (has_data n) p ∙ sym (ap (has_data n) (e ∙ Pow-pow A))

pub in_first : (n : Name) (C A B A' : Ty) (r : Boolean) → C ≡ Prod A B → A' ≡ A → true ≡ has_data n A' → r ≡ has_data n A' → r ≡ has_data n C
in_first n C A B A' r e p q w = w ∙ sym q ∙ sym (ap (has_data n) (e ∙ Prod-prod A B) ∙ ap (λ x. x || has_data n B) (ap (has_data n) (sym p) ∙ sym q))

pub in_second : (n : Name) (C A B A' B' : Ty) (r : Boolean) → C ≡ Prod A B → A' ≡ A → B' ≡ B → false ≡ has_data n A' → r ≡ has_data n B' → r ≡ has_data n C
in_second n C A B A' B' r e p g q w =
    w ∙ ap (has_data n) g ∙ sym (ap (has_data n) (e ∙ Prod-prod A B) ∙ ap (λ x. x || has_data n B) (ap (has_data n) (sym p) ∙ sym q))

more_has : (n : Name) (Cs : Tys) (A A' : Ty) (As : Tys) → Cs ≡ More A As → A' ≡ A → have_data n Cs ≡ (has_data n A' || have_data n As)
more_has n Cs A A' As e p = ap (have_data n) (e ∙ More-more A As) ∙ ap (λ B. has_data n B || have_data n As) (sym p)

-- along a list of which the rest has the name just where the whole has
pub in_head : (n : Name) (Cs Ds : Tys) (A A' : Ty) (As : Tys) → Cs ≡ More A As → A' ≡ A → true ≡ has_data n A' → have_data n Cs ≡ have_data n Ds → true ≡ have_data n Ds
in_head n Cs Ds A A' As e p q h = ap (λ x. x || have_data n As) q ∙ sym (more_has n Cs A A' As e p) ∙ h

pub in_tail : (n : Name) (Cs Ds : Tys) (A A' : Ty) (As Bs : Tys) → Cs ≡ More A As → A' ≡ A → Bs ≡ As → false ≡ has_data n A' → have_data n Cs ≡ have_data n Ds → have_data n Bs ≡ have_data n Ds
in_tail n Cs Ds A A' As Bs e p g q h = ap (have_data n) g ∙ ap (λ x. x || have_data n As) q ∙ sym (more_has n Cs A A' As e p) ∙ h

-- The parts of a type are smaller.
pub set_size : (p a a' : Ty) → p ≡ Pow a → a' ≡ a → type_size a' < type_size p
set_size p a a' e f = let g : type_size p ≡ 1 + type_size a' = ap type_size e ∙ type_size-Pow a ∙ ap (λ x. 1 + type_size x) (sym f) in omega (arith, g)

pub first_size : (p a b a' : Ty) → p ≡ Prod a b → a' ≡ a → type_size a' < type_size p
first_size p a b a' e f =
    let g : type_size p ≡ 1 + (type_size a' + type_size b) = ap type_size e ∙ type_size-Prod a b ∙ ap (λ x. 1 + (type_size x + type_size b)) (sym f) in omega (arith, g)

pub head_size : (left rest : Tys) (a a' : Ty) (n : ℕ) → left ≡ More a rest → a' ≡ a → types_size left ≤ n → type_size a' ≤ n
head_size left rest a a' n e f h =
    let g : types_size left ≡ type_size a' + types_size rest = ap types_size e ∙ types_size-More a rest ∙ ap (λ x. type_size x + types_size rest) (sym f) in omega (arith, g, h)
