-- The steps of proofs, as a grammar: which step stands at the front of some tokens.
use Rattle.std.specs.Prelude.{ℕ, true, List, codes}
use Rattle.ev_syntax.specs.Marks.{over_sign, comma, open_bracket, close_bracket, at_word, of_word}
use Rattle.ev_syntax.specs.Tokens.{mark}
use Rattle.ev_syntax.specs.Raw.{RawType, Raw}
use Rattle.ev_syntax.specs.Grammar.{Front, Is, ◌then◌, ReadsType}
use Rattle.ev_syntax.specs.declared.sorts.Sort.TheVariants.{Pred, Expr, Either}
use Rattle.ev_syntax.specs.Parses.{ReadsAs}
use Rattle.ev_parse.specs.Sequences.{Word, Number, Nothing, Repeated, MaybeBegun}
use Rattle.ev_proof.specs.declared.steps.Ref.{Ref}
use Rattle.ev_proof.specs.declared.steps.Cite.{Cite}
use Rattle.ev_proof.specs.declared.steps.Step.{Step}
use Rattle.ev_proof.specs.declared.steps.Step.TheVariants.{Hyp, TrueI, Em, Refl, SetMem, BoolMem, Calc, Weak, Cut, FalseE, NotI, AndI, OrI1, OrI2, ImpI, IffI, AllI, Sym, Cong, Note, AndE1, AndE2, OrE, ImpE, IffE1, IffE2, AllE, ExI, ExE, Trans, Axiom, Theorem, Assume, Dis, Infer, Rewrite, Cases, Unfold, Fold, Recur, Con, Induct, Open}

-- `at` and child numbers, none for the root
abbrev pub ReadsPlace : List ℕ → Front
ReadsPlace place = Is (mark at_word) then Repeated Number place

-- `theory/label`
abbrev pub ReadsRef : Ref → Front
ReadsRef r = Word r.theory then Is (mark over_sign) then Word r.label

-- `[ .. , .. ]`, and terms behind `of`
abbrev pub ReadsTypes : List RawType → Front
ReadsTypes types = MaybeBegun open_bracket (Is (mark close_bracket)) comma (λ a. ReadsType a true) types

abbrev pub ReadsTerms : List Raw → Front
ReadsTerms terms = MaybeBegun of_word Nothing comma (ReadsAs Expr) terms

abbrev pub ReadsCite : Cite → Front
ReadsCite c = ReadsTypes c.types then ReadsTerms c.terms

-- a word and a predicate
abbrev pub WithPredicate : List ℕ → Raw → Front
WithPredicate word p = Word word then ReadsAs Pred p

abbrev pub ReadsStep : Step → Front
ReadsStep Hyp = Word (codes "hyp")
ReadsStep TrueI = Word (codes "truei")
ReadsStep Em = Word (codes "em")
ReadsStep Refl = Word (codes "refl")
ReadsStep SetMem = Word (codes "setmem")
ReadsStep BoolMem = Word (codes "boolmem")
ReadsStep Calc = Word (codes "calc")
ReadsStep (Weak numbers) = Word (codes "weak") then Repeated Number numbers
ReadsStep (Cut p) = WithPredicate (codes "cut") p
ReadsStep FalseE = Word (codes "falsee")
ReadsStep NotI = Word (codes "noti")
ReadsStep AndI = Word (codes "andi")
ReadsStep OrI1 = Word (codes "ori1")
ReadsStep OrI2 = Word (codes "ori2")
ReadsStep ImpI = Word (codes "impi")
ReadsStep IffI = Word (codes "iffi")
ReadsStep AllI = Word (codes "alli")
ReadsStep Sym = Word (codes "sym")
ReadsStep Cong = Word (codes "cong")
ReadsStep (Note p) = WithPredicate (codes "note") p
ReadsStep (AndE1 p) = WithPredicate (codes "ande1") p
ReadsStep (AndE2 p) = WithPredicate (codes "ande2") p
ReadsStep (OrE p) = WithPredicate (codes "ore") p
ReadsStep (ImpE p) = WithPredicate (codes "impe") p
ReadsStep (IffE1 p) = WithPredicate (codes "iffe1") p
ReadsStep (IffE2 p) = WithPredicate (codes "iffe2") p
ReadsStep (AllE p t) = Word (codes "alle") then ReadsAs Pred p then Is (mark comma) then ReadsAs Expr t
ReadsStep (ExI t) = Word (codes "exi") then ReadsAs Expr t
ReadsStep (ExE p) = WithPredicate (codes "exe") p
ReadsStep (Trans t) = Word (codes "trans") then ReadsAs Either t
ReadsStep (Axiom k c) = Word (codes "axiom") then Number k then ReadsCite c
ReadsStep (Theorem r c) = Word (codes "theorem") then ReadsRef r then ReadsCite c
ReadsStep (Assume r c) = Word (codes "assume") then ReadsRef r then ReadsCite c
ReadsStep (Dis left right c) = Word (codes "dis") then Word left then Word right then ReadsCite c
ReadsStep (Infer r c) = Word (codes "infer") then ReadsRef r then ReadsCite c
ReadsStep (Rewrite r i place c) = Word (codes "rewrite") then ReadsRef r then Number i then ReadsPlace place then ReadsCite c
ReadsStep (Cases r place c) = Word (codes "cases") then ReadsRef r then ReadsPlace place then ReadsCite c
ReadsStep (Unfold place) = Word (codes "unfold") then ReadsPlace place
ReadsStep (Fold n place c) = Word (codes "fold") then Word n then ReadsPlace place then ReadsCite c
ReadsStep (Recur place) = Word (codes "recur") then ReadsPlace place
ReadsStep (Con place) = Word (codes "con") then ReadsPlace place
ReadsStep Induct = Word (codes "induct")
ReadsStep Open = Word (codes "open")
