-- A rewrite rule that is read has a right side.
use Rattle.std.specs.Prelude.{◌≢◌, List, [], ◌∷◌}
use Rattle.ev_syntax.specs.Tokens.{Token}
use Rattle.ev_theory_text.specs.declared.forms.RawBranch.{RawBranch}
use Rattle.ev_theory_text.specs.declared.forms.ElementForm.{ElementForm}
use Rattle.ev_theory_text.specs.declared.forms.ElementForm.TheVariants.{Import, Param, Datatype, Operator, Constant, Axiom, Theorem, Rewrite, Inference}
use Rattle.ev_parse.specs.Sequences.{AtLeastOne}
use Rattle.ev_theory_text.specs.Elements.{ReadsBranch, ReadsForm}
use Rattle.ev_elab.specs.Written.{HasBranch}

some_branch : (branches : List RawBranch) (ts rest : List Token) → AtLeastOne ReadsBranch branches ts rest → branches ≢ []
some_branch [] ts rest h e = h
some_branch (b ∷ bs) ts rest h e = cc

pub has_branch : (form : ElementForm) (ts rest : List Token) → ReadsForm form ts rest → HasBranch form
has_branch (Import n) ts rest h = tt
has_branch (Param names) ts rest h = tt
has_branch (Datatype n listed cons) ts rest h = tt
has_branch (Operator h c body) ts rest r = tt
has_branch (Constant h c) ts rest r = tt
has_branch (Axiom n p) ts rest h = tt
has_branch (Theorem n p) ts rest h = tt
has_branch (Rewrite n vars left branches complete) ts rest (a, i, (b, w, (c, v, (d, m, (e, l, (f, g, j)))))) = some_branch branches e f g
has_branch (Inference n vars givens p) ts rest h = tt
