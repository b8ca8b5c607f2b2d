-- The condition of a term over a larger environment.
use Rattle.std.specs.Prelude.{◌≡◌, ◌++◌, List, [], ◌∷◌, map}
use Rattle.std.proofs.Common.{ap, sym, ◌∙◌, refl}
use Rattle.ev_terms.specs.declared.types.Ty.{Ty}
use Rattle.ev_terms.specs.declared.types.Sym.TheVariants.{Base, User}
use Rattle.ev_terms.specs.Term.{Term, Terms, var, lit, node, nil, cons, term_list}
use Rattle.ev_terms.specs.Substitution.{type_inst, type_at}
use Rattle.ev_typing.specs.Profiles.{base_profile}
use Rattle.ev_typing.specs.Env.{Env, find_symbol, symbols, profile}
use Rattle.ev_typing.specs.Typing.{Typed, AreTyped, inside}
use Rattle.ev_typing.specs.Parts.{IsPartOf, HasDistinctNames}
use Rattle.ev_typing.proofs.Entries.{symbols_named}
use Rattle.ev_typing.proofs.Wholes.{found_part}
use Rattle.ev_wd.specs.Makers.{joined}
use Rattle.ev_wd.specs.Demands.{rule_of}
use Rattle.ev_wd.specs.WellDefined.{parts_of_symbol, wd_base, wd, wds}
use Rattle.ev_wd.specs.ConditionLaws.{ConditionOverWhole}
use Rattle.ev_wd.proofs.Rules.{some_out, some_symbol}

mutual
  wd_whole : (e f : Env) → IsPartOf e f → HasDistinctNames f → (C : List Ty) (t : Term) (A : Ty) → Typed e C t A → wd f t ≡ wd e t
  wd_whole e f h w C (var i) A g = refl
  wd_whole e f h w C (lit n) A g = refl
  wd_whole e f h w C (node (Base k) As ts) A g =
      some_out (base_profile k) (λ p q d.
      ap (wd_base (rule_of k) As (term_list ts)) (wds_whole e f h w (inside C (Base k) As) ts (map (type_inst (type_at As)) p.args) d.children)) g
  wd_whole e f h w C (node (User n) As ts) A g =
      some_out (profile e (User n)) (λ p q d.
      some_symbol (find_symbol e n) p q (λ s found at.
      ap (λ Ds. joined (Ds ++ parts_of_symbol (find_symbol f n) As (term_list ts))) (wds_whole e f h w (inside C (User n) As) ts (map (type_inst (type_at As)) p.args) d.children)
      ∙ ap (λ o. joined (wds e ts ++ parts_of_symbol o As (term_list ts))) (found_part symbols symbols_named e f n s w h found ∙ sym found))) g

  wds_whole : (e f : Env) → IsPartOf e f → HasDistinctNames f → (C : List Ty) (ts : Terms) (As : List Ty) → AreTyped e C ts As → wds f ts ≡ wds e ts
  wds_whole e f h w C nil As g = refl
  wds_whole e f h w C (cons t ts) [] g = absurd g
  wds_whole e f h w C (cons t ts) (A ∷ As) g =
      let p = wd_whole e f h w C t A g.0 in let q = wds_whole e f h w C ts As g.1 in cc

pub whole_law : ConditionOverWhole
whole_law e f h w C t A g = wd_whole e f h w C t A g
