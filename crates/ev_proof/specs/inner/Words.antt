-- Steps by the words that begin them.
use Rattle.std.specs.Prelude.{◌≡◌, ℕ, Bool, false, ◌||◌, List, [], ◌∷◌, codes, bytes_eq, Option, Some, None, if◌then◌else◌}
use Rattle.std.specs.List.{list_any}
use Rattle.ev_syntax.specs.Marks.{comma}
use Rattle.ev_syntax.specs.Tokens.{mark}
use Rattle.ev_syntax.specs.Raw.{RawType, Raw}
use Rattle.ev_syntax.specs.Grammar.{Front, Is, ◌then◌}
use Rattle.ev_syntax.specs.declared.sorts.Sort.TheVariants.{Pred, Expr, Either}
use Rattle.ev_syntax.specs.Parses.{ReadsAs}
use Rattle.ev_proof.specs.declared.steps.Ref.{Ref}
use Rattle.ev_proof.specs.declared.steps.Cite.{Cite}
use Rattle.ev_proof.specs.declared.steps.Step.{Step}
use Rattle.ev_proof.specs.declared.steps.Step.TheVariants.{Hyp, TrueI, Em, Refl, SetMem, BoolMem, Calc, Weak, Cut, FalseE, NotI, AndI, OrI1, OrI2, ImpI, IffI, AllI, Sym, Cong, Note, AndE1, AndE2, OrE, ImpE, IffE1, IffE2, AllE, ExI, ExE, Trans, Axiom, Theorem, Assume, Dis, Infer, Rewrite, Cases, Unfold, Fold, Recur, Con, Induct, Open}
use Rattle.ev_proof.specs.declared.words.StepWord.{StepWord}
use Rattle.ev_proof.specs.declared.words.StepWord.TheVariants.{Lone, Predicate, Cited, Placed, Weak as weak_word, AllE as alle_word, ExI as exi_word, Trans as trans_word, Axiom as axiom_word, Dis as dis_word, Rewrite as rewrite_word, Cases as cases_word, Fold as fold_word}
use Rattle.ev_proof.specs.declared.words.LoneWord.TheVariants.{Hyp as hyp_word, TrueI as truei_word, Em as em_word, Refl as refl_word, SetMem as setmem_word, BoolMem as boolmem_word, Calc as calc_word, FalseE as falsee_word, NotI as noti_word, AndI as andi_word, OrI1 as ori1_word, OrI2 as ori2_word, ImpI as impi_word, IffI as iffi_word, AllI as alli_word, Sym as sym_word, Cong as cong_word, Induct as induct_word, Open as open_word}
use Rattle.ev_proof.specs.declared.words.PredicateWord.TheVariants.{Cut as cut_word, Note as note_word, AndE1 as ande1_word, AndE2 as ande2_word, OrE as ore_word, ImpE as impe_word, IffE1 as iffe1_word, IffE2 as iffe2_word, ExE as exe_word}
use Rattle.ev_proof.specs.declared.words.CitedWord.TheVariants.{Theorem as theorem_word, Assume as assume_word, Infer as infer_word}
use Rattle.ev_proof.specs.declared.words.PlacedWord.TheVariants.{Unfold as unfold_word, Recur as recur_word, Con as con_word}
use Rattle.ev_parse.specs.Sequences.{Nothing, Repeated, Word, Number}
use Rattle.ev_proof.specs.Steps.{ReadsPlace, ReadsRef, ReadsCite}
use Rattle.ev_parse.specs.Depths.{formula_deep}
use Rattle.ev_proof.specs.Depths.{cite_deep}
use Rattle.ev_parse.specs.inner.Taking.{never}
use denote.Ref.{Bor}

-- the bytes of each word
abbrev pub rows : List (List ℕ × StepWord)
rows =
    (codes "hyp", Lone hyp_word) ∷
    (codes "truei", Lone truei_word) ∷
    (codes "em", Lone em_word) ∷
    (codes "refl", Lone refl_word) ∷
    (codes "setmem", Lone setmem_word) ∷
    (codes "boolmem", Lone boolmem_word) ∷
    (codes "calc", Lone calc_word) ∷
    (codes "weak", weak_word) ∷
    (codes "cut", Predicate cut_word) ∷
    (codes "falsee", Lone falsee_word) ∷
    (codes "noti", Lone noti_word) ∷
    (codes "andi", Lone andi_word) ∷
    (codes "ori1", Lone ori1_word) ∷
    (codes "ori2", Lone ori2_word) ∷
    (codes "impi", Lone impi_word) ∷
    (codes "iffi", Lone iffi_word) ∷
    (codes "alli", Lone alli_word) ∷
    (codes "sym", Lone sym_word) ∷
    (codes "cong", Lone cong_word) ∷
    (codes "note", Predicate note_word) ∷
    (codes "ande1", Predicate ande1_word) ∷
    (codes "ande2", Predicate ande2_word) ∷
    (codes "ore", Predicate ore_word) ∷
    (codes "impe", Predicate impe_word) ∷
    (codes "iffe1", Predicate iffe1_word) ∷
    (codes "iffe2", Predicate iffe2_word) ∷
    (codes "alle", alle_word) ∷
    (codes "exi", exi_word) ∷
    (codes "exe", Predicate exe_word) ∷
    (codes "trans", trans_word) ∷
    (codes "axiom", axiom_word) ∷
    (codes "theorem", Cited theorem_word) ∷
    (codes "assume", Cited assume_word) ∷
    (codes "dis", dis_word) ∷
    (codes "infer", Cited infer_word) ∷
    (codes "rewrite", rewrite_word) ∷
    (codes "cases", cases_word) ∷
    (codes "unfold", Placed unfold_word) ∷
    (codes "fold", fold_word) ∷
    (codes "recur", Placed recur_word) ∷
    (codes "con", Placed con_word) ∷
    (codes "induct", Lone induct_word) ∷
    (codes "open", Lone open_word) ∷
    []

-- what a row of the code's table tells
abbrev pub row_told : Bor (List ℕ) × StepWord → List ℕ × StepWord
row_told row = (row.0.now, row.1)

-- the word of a row that has these bytes
abbrev pub word_in : List (List ℕ × StepWord) → List ℕ → Option StepWord
word_in [] bytes = None
word_in (row ∷ table) bytes = if bytes_eq bytes row.0 then Some row.1 else word_in table bytes

abbrev pub word_of : List ℕ → Option StepWord
word_of bytes = word_in rows bytes

abbrev pub spelling : StepWord → List ℕ
spelling (Lone hyp_word) = codes "hyp"
spelling (Lone truei_word) = codes "truei"
spelling (Lone em_word) = codes "em"
spelling (Lone refl_word) = codes "refl"
spelling (Lone setmem_word) = codes "setmem"
spelling (Lone boolmem_word) = codes "boolmem"
spelling (Lone calc_word) = codes "calc"
spelling weak_word = codes "weak"
spelling (Predicate cut_word) = codes "cut"
spelling (Lone falsee_word) = codes "falsee"
spelling (Lone noti_word) = codes "noti"
spelling (Lone andi_word) = codes "andi"
spelling (Lone ori1_word) = codes "ori1"
spelling (Lone ori2_word) = codes "ori2"
spelling (Lone impi_word) = codes "impi"
spelling (Lone iffi_word) = codes "iffi"
spelling (Lone alli_word) = codes "alli"
spelling (Lone sym_word) = codes "sym"
spelling (Lone cong_word) = codes "cong"
spelling (Predicate note_word) = codes "note"
spelling (Predicate ande1_word) = codes "ande1"
spelling (Predicate ande2_word) = codes "ande2"
spelling (Predicate ore_word) = codes "ore"
spelling (Predicate impe_word) = codes "impe"
spelling (Predicate iffe1_word) = codes "iffe1"
spelling (Predicate iffe2_word) = codes "iffe2"
spelling alle_word = codes "alle"
spelling exi_word = codes "exi"
spelling (Predicate exe_word) = codes "exe"
spelling trans_word = codes "trans"
spelling axiom_word = codes "axiom"
spelling (Cited theorem_word) = codes "theorem"
spelling (Cited assume_word) = codes "assume"
spelling dis_word = codes "dis"
spelling (Cited infer_word) = codes "infer"
spelling rewrite_word = codes "rewrite"
spelling cases_word = codes "cases"
spelling (Placed unfold_word) = codes "unfold"
spelling fold_word = codes "fold"
spelling (Placed recur_word) = codes "recur"
spelling (Placed con_word) = codes "con"
spelling (Lone induct_word) = codes "induct"
spelling (Lone open_word) = codes "open"

-- parts of steps, made of their own
abbrev pub made_ref : List ℕ × List ℕ → Ref
made_ref p = record { theory = p.0; label = p.1 }

abbrev pub made_cite : List RawType × List Raw → Cite
made_cite p = record { types = p.0; terms = p.1 }

-- what stands behind a word
abbrev pub Fields : StepWord → Type 0
Fields (Lone w) = Unit {0}
Fields weak_word = List ℕ
Fields (Predicate w) = Raw
Fields alle_word = Raw × Raw
Fields exi_word = Raw
Fields trans_word = Raw
Fields axiom_word = ℕ × Cite
Fields (Cited w) = Ref × Cite
Fields dis_word = List ℕ × (List ℕ × Cite)
Fields rewrite_word = Ref × (ℕ × (List ℕ × Cite))
Fields cases_word = Ref × (List ℕ × Cite)
Fields (Placed w) = List ℕ
Fields fold_word = List ℕ × (List ℕ × Cite)

abbrev pub made : (w : StepWord) → Fields w → Step
made (Lone hyp_word) f = Hyp
made (Lone truei_word) f = TrueI
made (Lone em_word) f = Em
made (Lone refl_word) f = Refl
made (Lone setmem_word) f = SetMem
made (Lone boolmem_word) f = BoolMem
made (Lone calc_word) f = Calc
made weak_word f = Weak f
made (Predicate cut_word) f = Cut f
made (Lone falsee_word) f = FalseE
made (Lone noti_word) f = NotI
made (Lone andi_word) f = AndI
made (Lone ori1_word) f = OrI1
made (Lone ori2_word) f = OrI2
made (Lone impi_word) f = ImpI
made (Lone iffi_word) f = IffI
made (Lone alli_word) f = AllI
made (Lone sym_word) f = Sym
made (Lone cong_word) f = Cong
made (Predicate note_word) f = Note f
made (Predicate ande1_word) f = AndE1 f
made (Predicate ande2_word) f = AndE2 f
made (Predicate ore_word) f = OrE f
made (Predicate impe_word) f = ImpE f
made (Predicate iffe1_word) f = IffE1 f
made (Predicate iffe2_word) f = IffE2 f
made alle_word f = AllE f.0 f.1
made exi_word f = ExI f
made (Predicate exe_word) f = ExE f
made trans_word f = Trans f
made axiom_word f = Axiom f.0 f.1
made (Cited theorem_word) f = Theorem f.0 f.1
made (Cited assume_word) f = Assume f.0 f.1
made dis_word f = Dis f.0 f.1.0 f.1.1
made (Cited infer_word) f = Infer f.0 f.1
made rewrite_word f = Rewrite f.0 f.1.0 f.1.1.0 f.1.1.1
made cases_word f = Cases f.0 f.1.0 f.1.1
made (Placed unfold_word) f = Unfold f
made fold_word f = Fold f.0 f.1.0 f.1.1
made (Placed recur_word) f = Recur f
made (Placed con_word) f = Con f
made (Lone induct_word) f = Induct
made (Lone open_word) f = Open

abbrev pub ReadsFields : (w : StepWord) → Fields w → Front
ReadsFields (Lone w) f = Nothing
ReadsFields weak_word f = Repeated Number f
ReadsFields (Predicate w) f = ReadsAs Pred f
ReadsFields alle_word f = ReadsAs Pred f.0 then Is (mark comma) then ReadsAs Expr f.1
ReadsFields exi_word f = ReadsAs Expr f
ReadsFields trans_word f = ReadsAs Either f
ReadsFields axiom_word f = Number f.0 then ReadsCite f.1
ReadsFields (Cited w) f = ReadsRef f.0 then ReadsCite f.1
ReadsFields dis_word f = Word f.0 then Word f.1.0 then ReadsCite f.1.1
ReadsFields rewrite_word f = ReadsRef f.0 then Number f.1.0 then ReadsPlace f.1.1.0 then ReadsCite f.1.1.1
ReadsFields cases_word f = ReadsRef f.0 then ReadsPlace f.1.0 then ReadsCite f.1.1
ReadsFields (Placed w) f = ReadsPlace f
ReadsFields fold_word f = Word f.0 then ReadsPlace f.1.0 then ReadsCite f.1.1

abbrev pub fields_deep : (w : StepWord) → Fields w → Bool
fields_deep (Lone w) f = false
fields_deep weak_word f = list_any never f
fields_deep (Predicate w) f = formula_deep f
fields_deep alle_word f = formula_deep f.0 || formula_deep f.1
fields_deep exi_word f = formula_deep f
fields_deep trans_word f = formula_deep f
fields_deep axiom_word f = cite_deep f.1
fields_deep (Cited w) f = cite_deep f.1
fields_deep dis_word f = cite_deep f.1.1
fields_deep rewrite_word f = list_any never f.1.1.0 || cite_deep f.1.1.1
fields_deep cases_word f = list_any never f.1.0 || cite_deep f.1.1
fields_deep (Placed w) f = list_any never f
fields_deep fold_word f = list_any never f.1.0 || cite_deep f.1.1

-- a step of the word, by what stands behind it
abbrev pub OfWord : StepWord → Step → Front
OfWord w step ts rest = (f : Fields w) × (step ≡ made w f) × ReadsFields w f ts rest
