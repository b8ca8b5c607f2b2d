-- The lines of a derivation as text.
use Rattle.std.specs.Prelude.{ℕ, List, [], ◌∷◌, ◌++◌, length, codes, decimal}
use Rattle.ev_terms.specs.declared.types.Tys.{Tys}
use Rattle.ev_terms.specs.Types.{type_list}
use Rattle.ev_typing.specs.Env.{Env}
use Rattle.ev_kernel.specs.declared.rules.Line.{Line}
use Rattle.ev_kernel.specs.declared.rules.BaseRule.{BaseRule}
use Rattle.ev_kernel.specs.declared.rules.BaseRule.TheVariants.{Hyp, Weak, Cut, Inst, TrueI, FalseE, NotI, NotE, AndI, AndE1, AndE2, OrI1, OrI2, OrE, ImpI, ImpE, IffI, IffE1, IffE2, AllI, AllE, ExI, ExE, Em, Refl, Sym as Symmetry, Trans, Cong, SetMem, BoolMem, Calc, Axiom, Des, Dis, Ind, Rec}
use Rattle.ev_print.specs.Canon.{canon, type_texts}
use Rattle.ev_deriv.specs.Fields.{joined, line_of, types_field, numbers_field, terms_field}

abbrev pub rule_name : BaseRule → List ℕ
rule_name Hyp = codes "Hyp"
rule_name Weak = codes "Weak"
rule_name Cut = codes "Cut"
rule_name (Inst types terms) = codes "Inst"
rule_name TrueI = codes "TrueI"
rule_name FalseE = codes "FalseE"
rule_name NotI = codes "NotI"
rule_name NotE = codes "NotE"
rule_name AndI = codes "AndI"
rule_name AndE1 = codes "AndE1"
rule_name AndE2 = codes "AndE2"
rule_name OrI1 = codes "OrI1"
rule_name OrI2 = codes "OrI2"
rule_name OrE = codes "OrE"
rule_name ImpI = codes "ImpI"
rule_name ImpE = codes "ImpE"
rule_name IffI = codes "IffI"
rule_name IffE1 = codes "IffE1"
rule_name IffE2 = codes "IffE2"
rule_name AllI = codes "AllI"
rule_name (AllE t) = codes "AllE"
rule_name (ExI t) = codes "ExI"
rule_name ExE = codes "ExE"
rule_name Em = codes "Em"
rule_name Refl = codes "Refl"
rule_name Symmetry = codes "Sym"
rule_name Trans = codes "Trans"
rule_name Cong = codes "Cong"
rule_name SetMem = codes "SetMem"
rule_name BoolMem = codes "BoolMem"
rule_name Calc = codes "Calc"
rule_name (Axiom k) = codes "Axiom"
rule_name (Des con place) = codes "Des"
rule_name (Dis left right) = codes "Dis"
rule_name Ind = codes "Ind"
rule_name (Rec op con) = codes "Rec"

abbrev pub in_brackets : List ℕ → List ℕ
in_brackets text = codes "[" ++ (text ++ codes "]")

-- `[TYPES] TERMS`, with `[]` or `-` for an empty part; the terms stand under n variables
abbrev pub instance_field : Env → ℕ → Tys → List ℕ → List ℕ
instance_field env n types terms = joined (codes " ") (in_brackets (joined (codes ", ") (type_texts types)) ∷ terms ∷ [])

-- the fields of a rule, whose terms stand under n variables
abbrev pub rule_field : Env → ℕ → BaseRule → List ℕ
rule_field env n (Inst types terms) = instance_field env n types (terms_field env n terms)
rule_field env n (AllE t) = canon env n t
rule_field env n (ExI t) = canon env n t
rule_field env n (Axiom k) = decimal k
rule_field env n (Des con place) = joined (codes " ") (con ∷ decimal place ∷ [])
rule_field env n (Dis left right) = joined (codes " ") (left ∷ right ∷ [])
rule_field env n (Rec op con) = joined (codes " ") (op ∷ con ∷ [])
rule_field env n _ = codes "-"

-- a line whose terms stand under n variables, without its LF
abbrev pub line_under : Env → ℕ → Line → List ℕ
line_under env n l =
    line_of (rule_name l.rule ∷ rule_field env n l.rule ∷ numbers_field l.premises ∷ types_field l.sequent.context
    ∷ terms_field env n l.sequent.hyps ∷ canon env n l.sequent.goal ∷ [])

-- a line, whose terms stand in the conclusion's context
abbrev pub rule_line : Env → Line → List ℕ
rule_line env l = line_under env (length (type_list l.sequent.context)) l
