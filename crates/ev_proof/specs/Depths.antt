-- Steps in which a formula or a type is nested too deeply.
use Rattle.std.specs.Prelude.{Bool, false, ◌||◌}
use Rattle.std.specs.List.{list_any}
use Rattle.ev_parse.specs.Depths.{formula_deep, type_deep}
use Rattle.ev_proof.specs.declared.steps.Cite.{Cite}
use Rattle.ev_proof.specs.declared.steps.Step.{Step}
use Rattle.ev_proof.specs.declared.steps.Step.TheVariants.{Cut, Note, AndE1, AndE2, OrE, ImpE, IffE1, IffE2, AllE, ExI, ExE, Trans, Axiom, Theorem, Assume, Dis, Infer, Rewrite, Cases, Fold}

abbrev pub cite_deep : Cite → Bool
cite_deep c = list_any type_deep c.types || list_any formula_deep c.terms

abbrev pub step_deep : Step → Bool
step_deep (Cut p) = formula_deep p
step_deep (Note p) = formula_deep p
step_deep (AndE1 p) = formula_deep p
step_deep (AndE2 p) = formula_deep p
step_deep (OrE p) = formula_deep p
step_deep (ImpE p) = formula_deep p
step_deep (IffE1 p) = formula_deep p
step_deep (IffE2 p) = formula_deep p
step_deep (AllE p t) = formula_deep p || formula_deep t
step_deep (ExI t) = formula_deep t
step_deep (ExE p) = formula_deep p
step_deep (Trans t) = formula_deep t
step_deep (Axiom k c) = cite_deep c
step_deep (Theorem r c) = cite_deep c
step_deep (Assume r c) = cite_deep c
step_deep (Dis left right c) = cite_deep c
step_deep (Infer r c) = cite_deep c
step_deep (Rewrite r i place c) = cite_deep c
step_deep (Cases r place c) = cite_deep c
step_deep (Fold n place c) = cite_deep c
step_deep _ = false
