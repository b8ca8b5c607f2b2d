-- Lines of derivations' texts.
use Rattle.std.specs.Prelude.{◌≡◌, [], ◌∷◌, None, codes, refl}
use Rattle.std.specs.Fmt.{digits}
use Rattle.std.proofs.Common.{inr}
use Rattle.bstr.specs.Text.{lines_from, line_len}
use Rattle.ev_terms.specs.declared.types.Ty.{Ty, Int, Prop, Param, Data as DataType}
use Rattle.ev_terms.specs.declared.types.Tys.{Empty}
use Rattle.ev_terms.specs.Types.{more}
use Rattle.ev_terms.specs.Term.{var, lit}
use Rattle.ev_terms.specs.Symbols.{binds}
use Rattle.ev_typing.specs.declared.typing.Entry.{Entry}
use Rattle.ev_typing.specs.declared.typing.Entry.TheVariants.{Data, Constant, Recursive}
use Rattle.ev_forms.specs.Forms.{truth, conj, eq, plus, call}
use Rattle.ev_kernel.specs.declared.rules.BaseRule.TheVariants.{TrueI, AndI, Inst, Axiom, Des, Rec}
use Rattle.ev_deriv.specs.RuleLines.{rule_line}
use Rattle.ev_deriv.specs.HeaderLines.{header_text}
use Rattle.ev_deriv.specs.Texts.{FirstBad}

true_line : rule_line [] (record { sequent = record { context = Empty; hyps = []; goal = truth }; rule = TrueI; premises = [] })
    ≡ codes "TrueI @ - @ - @ - @ - @ true"
unfolding digits binds
true_line = refl

and_line : rule_line [] (record { sequent = record { context = Empty; hyps = []; goal = conj truth truth }; rule = AndI; premises = 1 ∷ 1 ∷ [] })
    ≡ codes "AndI @ - @ 1 1 @ - @ - @ true & true"
unfolding digits binds
and_line = refl

inst_line : rule_line []
    (record {
      sequent = record { context = more Int (more (Param 1) Empty); hyps = truth ∷ truth ∷ []; goal = eq Int (var 1) (lit 0) };
      rule = Inst Empty (lit 7 ∷ var 0 ∷ []);
      premises = 12 ∷ [];
    })
    ≡ codes "Inst @ [] 7, v1 @ 12 @ INT, ?1 @ true, true @ v0 = 0"
unfolding digits binds
inst_line = refl

inst_of_types : rule_line [] (record { sequent = record { context = Empty; hyps = []; goal = truth }; rule = Inst (more Int (more (Param 0) Empty)) []; premises = 3 ∷ [] })
    ≡ codes "Inst @ [INT, ?0] - @ 3 @ - @ - @ true"
unfolding digits binds
inst_of_types = refl

abbrev list_type : Ty
list_type = DataType (codes "List") (more (Param 0) Empty)

abbrev list : Entry
list = Data (record {
  name = codes "List";
  params = 1;
  cons =
      record { name = codes "nil"; fields = [] } ∷
      record { name = codes "cons"; fields = record { name = codes "head"; ty = Param 0 } ∷ record { name = codes "tail"; ty = list_type } ∷ [] } ∷ [];
})

-- `len`, whose second body is under `x` and `t`
abbrev len : Entry
len = Recursive (record { name = codes "len"; params = 1; args = more list_type Empty; result = Int }) None 0
    (lit 0 ∷ plus (lit 1) (call (codes "len") (more (Param 0) Empty) (var 0 ∷ [])) ∷ [])

header : header_text (list ∷ len ∷ Constant (record { name = codes "p"; params = 0; args = Empty; result = Prop }) None ∷ [])
    ≡ codes "derivation 1\ndatatype @ List @ 1 @ nil @ cons(head: ?0, tail: List(?0))\nrecursive @ len @ 1 @ List(?0) @ INT @ 1 @ 0 @ 1 + len(v1)\nconstant @ p @ 0 @ - @ PRED\n"
unfolding digits binds
header = refl

-- no text at all, and a first line alone
empty_text : FirstBad [] 1
unfolding lines_from line_len
empty_text = inr (record { env = []; good = (refl, refl) }, refl)

first_line_alone : FirstBad (codes "derivation 1\n") 2
unfolding lines_from line_len
first_line_alone = inr (record { env = []; good = (refl, (refl, refl)) }, refl)

axiom_line : rule_line [] (record { sequent = record { context = Empty; hyps = []; goal = truth }; rule = Axiom 41; premises = [] }) ≡ codes "Axiom @ 41 @ - @ - @ - @ true"
unfolding digits binds
axiom_line = refl

destructor_line : rule_line [] (record { sequent = record { context = Empty; hyps = []; goal = truth }; rule = Des (codes "cons") 2; premises = [] }) ≡ codes "Des @ cons 2 @ - @ - @ - @ true"
unfolding digits binds
destructor_line = refl

recursion_line : rule_line [] (record { sequent = record { context = Empty; hyps = []; goal = truth }; rule = Rec (codes "len") (codes "nil"); premises = [] }) ≡ codes "Rec @ len nil @ - @ - @ - @ true"
unfolding digits binds
recursion_line = refl
