-- Steps by the words that begin them.
use Rattle.std.proofs.Common.{◌≡◌, ℕ, Bool, true, false, List, [], ◌∷◌, refl, ap, subst, sym, ◌∙◌, arith}
use Rattle.std.specs.Prelude.{Option, Some, None, ◌||◌, option_map, bytes_eq, if◌then◌else◌}
use Rattle.std.specs.List.{AllByRecursion}
use Rattle.std.proofs.lemmas.Slice.Eq.{bytes_eq-Decides}
use Rattle.ev_syntax.specs.Tokens.{Token, name}
use Rattle.ev_proof.specs.declared.steps.Step.{Step}
use Rattle.ev_proof.specs.declared.steps.Step.TheVariants.{Hyp, TrueI, Em, Refl, SetMem, BoolMem, Calc, Weak, Cut, FalseE, NotI, AndI, OrI1, OrI2, ImpI, IffI, AllI, Sym, Cong, Note, AndE1, AndE2, OrE, ImpE, IffE1, IffE2, AllE, ExI, ExE, Trans, Axiom, Theorem, Assume, Dis, Infer, Rewrite, Cases, Unfold, Fold, Recur, Con, Induct, Open}
use Rattle.ev_proof.specs.declared.words.StepWord.{StepWord}
use Rattle.ev_proof.specs.declared.words.StepWord.TheVariants.{Lone, Predicate, Cited, Placed, Weak as weak_word, AllE as alle_word, ExI as exi_word, Trans as trans_word, Axiom as axiom_word, Dis as dis_word, Rewrite as rewrite_word, Cases as cases_word, Fold as fold_word}
use Rattle.ev_proof.specs.declared.words.LoneWord.{LoneWord}
use Rattle.ev_proof.specs.declared.words.LoneWord.TheVariants.{Hyp as hyp_word, TrueI as truei_word, Em as em_word, Refl as refl_word, SetMem as setmem_word, BoolMem as boolmem_word, Calc as calc_word, FalseE as falsee_word, NotI as noti_word, AndI as andi_word, OrI1 as ori1_word, OrI2 as ori2_word, ImpI as impi_word, IffI as iffi_word, AllI as alli_word, Sym as sym_word, Cong as cong_word, Induct as induct_word, Open as open_word}
use Rattle.ev_proof.specs.declared.words.PredicateWord.TheVariants.{Cut as cut_word, Note as note_word, AndE1 as ande1_word, AndE2 as ande2_word, OrE as ore_word, ImpE as impe_word, IffE1 as iffe1_word, IffE2 as iffe2_word, ExE as exe_word}
use Rattle.ev_proof.specs.declared.words.CitedWord.TheVariants.{Theorem as theorem_word, Assume as assume_word, Infer as infer_word}
use Rattle.ev_proof.specs.declared.words.PlacedWord.TheVariants.{Unfold as unfold_word, Recur as recur_word, Con as con_word}
use Rattle.ev_parse.specs.Sequences.{Word}
use Rattle.ev_proof.specs.Steps.{ReadsStep}
use Rattle.ev_proof.specs.Depths.{step_deep, cite_deep}
use Rattle.ev_proof.specs.inner.Words.{rows, word_in, word_of, spelling, Fields, made, ReadsFields, fields_deep, OfWord}
use Rattle.ev_parse.specs.inner.Taking.{State, Takes, TakesFrom, Took, Anything, AtEnd, never}
use Rattle.ev_parse.proofs.Takings.{map_kept, never_any}

-- the table tells the bytes of each word, and each word is told by its bytes
rows_spelled : AllByRecursion (λ (row : List ℕ × StepWord). row.0 ≡ spelling row.1) rows
rows_spelled = (refl, (refl, (refl, (refl, (refl, (refl, (refl, (refl, (refl, (refl, (refl, (refl, (refl, (refl, (refl, (refl, (refl, (refl, (refl, (refl, (refl, (refl, (refl, (refl, (refl, (refl, (refl, (refl, (refl, (refl, (refl, (refl, (refl, (refl, (refl, (refl, (refl, (refl, (refl, (refl, (refl, (refl, (refl, tt)))))))))))))))))))))))))))))))))))))))))))

pub known : (w : StepWord) → word_of (spelling w) ≡ Some w
known (Lone hyp_word) = refl
known (Lone truei_word) = refl
known (Lone em_word) = refl
known (Lone refl_word) = refl
known (Lone setmem_word) = refl
known (Lone boolmem_word) = refl
known (Lone calc_word) = refl
known weak_word = refl
known (Predicate cut_word) = refl
known (Lone falsee_word) = refl
known (Lone noti_word) = refl
known (Lone andi_word) = refl
known (Lone ori1_word) = refl
known (Lone ori2_word) = refl
known (Lone impi_word) = refl
known (Lone iffi_word) = refl
known (Lone alli_word) = refl
known (Lone sym_word) = refl
known (Lone cong_word) = refl
known (Predicate note_word) = refl
known (Predicate ande1_word) = refl
known (Predicate ande2_word) = refl
known (Predicate ore_word) = refl
known (Predicate impe_word) = refl
known (Predicate iffe1_word) = refl
known (Predicate iffe2_word) = refl
known alle_word = refl
known exi_word = refl
known (Predicate exe_word) = refl
known trans_word = refl
known axiom_word = refl
known (Cited theorem_word) = refl
known (Cited assume_word) = refl
known dis_word = refl
known (Cited infer_word) = refl
known rewrite_word = refl
known cases_word = refl
known (Placed unfold_word) = refl
known fold_word = refl
known (Placed recur_word) = refl
known (Placed con_word) = refl
known (Lone induct_word) = refl
known (Lone open_word) = refl

word_spelled : (table : List (List ℕ × StepWord)) (bytes : List ℕ) (w : StepWord) → AllByRecursion (λ (row : List ℕ × StepWord). row.0 ≡ spelling row.1) table → word_in table bytes ≡ Some w
    → bytes ≡ spelling w
word_spelled [] bytes w all e = cc
word_spelled (row ∷ table) bytes w all e = go (bytes_eq bytes row.0) refl (word_spelled table bytes w all.1) e
  where
    go : (b : Bool) → bytes_eq bytes row.0 ≡ b → (word_in table bytes ≡ Some w → bytes ≡ spelling w) → (if b then Some row.1 else word_in table bytes) ≡ Some w → bytes ≡ spelling w
    go true t later d = let same : row.1 ≡ w = cc in (bytes_eq-Decides bytes row.0).0 t ∙ all.0 ∙ ap spelling same
    go false t later d = later d

pub spelled : (bytes : List ℕ) (w : StepWord) → word_of bytes ≡ Some w → bytes ≡ spelling w
spelled bytes w e = word_spelled rows bytes w rows_spelled e

-- a step is its word and what stands behind it
pub by_word : (step : Step) (ts rest : List Token) → ReadsStep step ts rest → (w : StepWord) × (us : List Token) × (ts ≡ name (spelling w) ∷ us) × OfWord w step us rest
by_word Hyp ts rest h = (Lone hyp_word, rest, h, (tt, refl, refl))
by_word TrueI ts rest h = (Lone truei_word, rest, h, (tt, refl, refl))
by_word Em ts rest h = (Lone em_word, rest, h, (tt, refl, refl))
by_word Refl ts rest h = (Lone refl_word, rest, h, (tt, refl, refl))
by_word SetMem ts rest h = (Lone setmem_word, rest, h, (tt, refl, refl))
by_word BoolMem ts rest h = (Lone boolmem_word, rest, h, (tt, refl, refl))
by_word Calc ts rest h = (Lone calc_word, rest, h, (tt, refl, refl))
by_word (Weak numbers) ts rest h = (weak_word, h.0, h.1, (numbers, refl, h.2))
by_word (Cut p) ts rest h = (Predicate cut_word, h.0, h.1, (p, refl, h.2))
by_word FalseE ts rest h = (Lone falsee_word, rest, h, (tt, refl, refl))
by_word NotI ts rest h = (Lone noti_word, rest, h, (tt, refl, refl))
by_word AndI ts rest h = (Lone andi_word, rest, h, (tt, refl, refl))
by_word OrI1 ts rest h = (Lone ori1_word, rest, h, (tt, refl, refl))
by_word OrI2 ts rest h = (Lone ori2_word, rest, h, (tt, refl, refl))
by_word ImpI ts rest h = (Lone impi_word, rest, h, (tt, refl, refl))
by_word IffI ts rest h = (Lone iffi_word, rest, h, (tt, refl, refl))
by_word AllI ts rest h = (Lone alli_word, rest, h, (tt, refl, refl))
by_word Sym ts rest h = (Lone sym_word, rest, h, (tt, refl, refl))
by_word Cong ts rest h = (Lone cong_word, rest, h, (tt, refl, refl))
by_word (Note p) ts rest h = (Predicate note_word, h.0, h.1, (p, refl, h.2))
by_word (AndE1 p) ts rest h = (Predicate ande1_word, h.0, h.1, (p, refl, h.2))
by_word (AndE2 p) ts rest h = (Predicate ande2_word, h.0, h.1, (p, refl, h.2))
by_word (OrE p) ts rest h = (Predicate ore_word, h.0, h.1, (p, refl, h.2))
by_word (ImpE p) ts rest h = (Predicate impe_word, h.0, h.1, (p, refl, h.2))
by_word (IffE1 p) ts rest h = (Predicate iffe1_word, h.0, h.1, (p, refl, h.2))
by_word (IffE2 p) ts rest h = (Predicate iffe2_word, h.0, h.1, (p, refl, h.2))
by_word (AllE p t) ts rest h = (alle_word, h.0, h.1, ((p, t), refl, h.2))
by_word (ExI t) ts rest h = (exi_word, h.0, h.1, (t, refl, h.2))
by_word (ExE p) ts rest h = (Predicate exe_word, h.0, h.1, (p, refl, h.2))
by_word (Trans t) ts rest h = (trans_word, h.0, h.1, (t, refl, h.2))
by_word (Axiom k c) ts rest h = (axiom_word, h.0, h.1, ((k, c), refl, h.2))
by_word (Theorem r c) ts rest h = (Cited theorem_word, h.0, h.1, ((r, c), refl, h.2))
by_word (Assume r c) ts rest h = (Cited assume_word, h.0, h.1, ((r, c), refl, h.2))
by_word (Dis left right c) ts rest h = (dis_word, h.0, h.1, ((left, (right, c)), refl, h.2))
by_word (Infer r c) ts rest h = (Cited infer_word, h.0, h.1, ((r, c), refl, h.2))
by_word (Rewrite r i place c) ts rest h = (rewrite_word, h.0, h.1, ((r, (i, (place, c))), refl, h.2))
by_word (Cases r place c) ts rest h = (cases_word, h.0, h.1, ((r, (place, c)), refl, h.2))
by_word (Unfold place) ts rest h = (Placed unfold_word, h.0, h.1, (place, refl, h.2))
by_word (Fold n place c) ts rest h = (fold_word, h.0, h.1, ((n, (place, c)), refl, h.2))
by_word (Recur place) ts rest h = (Placed recur_word, h.0, h.1, (place, refl, h.2))
by_word (Con place) ts rest h = (Placed con_word, h.0, h.1, (place, refl, h.2))
by_word Induct ts rest h = (Lone induct_word, rest, h, (tt, refl, refl))
by_word Open ts rest h = (Lone open_word, rest, h, (tt, refl, refl))

pub of_word : (w : StepWord) (f : Fields w) (us rest : List Token) → ReadsFields w f us rest → ReadsStep (made w f) (name (spelling w) ∷ us) rest
of_word (Lone hyp_word) f us rest h = ap (λ xs. name (spelling (Lone hyp_word)) ∷ xs) h
of_word (Lone truei_word) f us rest h = ap (λ xs. name (spelling (Lone truei_word)) ∷ xs) h
of_word (Lone em_word) f us rest h = ap (λ xs. name (spelling (Lone em_word)) ∷ xs) h
of_word (Lone refl_word) f us rest h = ap (λ xs. name (spelling (Lone refl_word)) ∷ xs) h
of_word (Lone setmem_word) f us rest h = ap (λ xs. name (spelling (Lone setmem_word)) ∷ xs) h
of_word (Lone boolmem_word) f us rest h = ap (λ xs. name (spelling (Lone boolmem_word)) ∷ xs) h
of_word (Lone calc_word) f us rest h = ap (λ xs. name (spelling (Lone calc_word)) ∷ xs) h
of_word weak_word f us rest h = (us, refl, h)
of_word (Predicate cut_word) f us rest h = (us, refl, h)
of_word (Lone falsee_word) f us rest h = ap (λ xs. name (spelling (Lone falsee_word)) ∷ xs) h
of_word (Lone noti_word) f us rest h = ap (λ xs. name (spelling (Lone noti_word)) ∷ xs) h
of_word (Lone andi_word) f us rest h = ap (λ xs. name (spelling (Lone andi_word)) ∷ xs) h
of_word (Lone ori1_word) f us rest h = ap (λ xs. name (spelling (Lone ori1_word)) ∷ xs) h
of_word (Lone ori2_word) f us rest h = ap (λ xs. name (spelling (Lone ori2_word)) ∷ xs) h
of_word (Lone impi_word) f us rest h = ap (λ xs. name (spelling (Lone impi_word)) ∷ xs) h
of_word (Lone iffi_word) f us rest h = ap (λ xs. name (spelling (Lone iffi_word)) ∷ xs) h
of_word (Lone alli_word) f us rest h = ap (λ xs. name (spelling (Lone alli_word)) ∷ xs) h
of_word (Lone sym_word) f us rest h = ap (λ xs. name (spelling (Lone sym_word)) ∷ xs) h
of_word (Lone cong_word) f us rest h = ap (λ xs. name (spelling (Lone cong_word)) ∷ xs) h
of_word (Predicate note_word) f us rest h = (us, refl, h)
of_word (Predicate ande1_word) f us rest h = (us, refl, h)
of_word (Predicate ande2_word) f us rest h = (us, refl, h)
of_word (Predicate ore_word) f us rest h = (us, refl, h)
of_word (Predicate impe_word) f us rest h = (us, refl, h)
of_word (Predicate iffe1_word) f us rest h = (us, refl, h)
of_word (Predicate iffe2_word) f us rest h = (us, refl, h)
of_word alle_word f us rest h = (us, refl, h)
of_word exi_word f us rest h = (us, refl, h)
of_word (Predicate exe_word) f us rest h = (us, refl, h)
of_word trans_word f us rest h = (us, refl, h)
of_word axiom_word f us rest h = (us, refl, h)
of_word (Cited theorem_word) f us rest h = (us, refl, h)
of_word (Cited assume_word) f us rest h = (us, refl, h)
of_word dis_word f us rest h = (us, refl, h)
of_word (Cited infer_word) f us rest h = (us, refl, h)
of_word rewrite_word f us rest h = (us, refl, h)
of_word cases_word f us rest h = (us, refl, h)
of_word (Placed unfold_word) f us rest h = (us, refl, h)
of_word fold_word f us rest h = (us, refl, h)
of_word (Placed recur_word) f us rest h = (us, refl, h)
of_word (Placed con_word) f us rest h = (us, refl, h)
of_word (Lone induct_word) f us rest h = ap (λ xs. name (spelling (Lone induct_word)) ∷ xs) h
of_word (Lone open_word) f us rest h = ap (λ xs. name (spelling (Lone open_word)) ∷ xs) h

pub deep_made : (w : StepWord) (f : Fields w) → fields_deep w f ≡ step_deep (made w f)
deep_made (Lone hyp_word) f = refl
deep_made (Lone truei_word) f = refl
deep_made (Lone em_word) f = refl
deep_made (Lone refl_word) f = refl
deep_made (Lone setmem_word) f = refl
deep_made (Lone boolmem_word) f = refl
deep_made (Lone calc_word) f = refl
deep_made weak_word f = never_any f
deep_made (Predicate cut_word) f = refl
deep_made (Lone falsee_word) f = refl
deep_made (Lone noti_word) f = refl
deep_made (Lone andi_word) f = refl
deep_made (Lone ori1_word) f = refl
deep_made (Lone ori2_word) f = refl
deep_made (Lone impi_word) f = refl
deep_made (Lone iffi_word) f = refl
deep_made (Lone alli_word) f = refl
deep_made (Lone sym_word) f = refl
deep_made (Lone cong_word) f = refl
deep_made (Predicate note_word) f = refl
deep_made (Predicate ande1_word) f = refl
deep_made (Predicate ande2_word) f = refl
deep_made (Predicate ore_word) f = refl
deep_made (Predicate impe_word) f = refl
deep_made (Predicate iffe1_word) f = refl
deep_made (Predicate iffe2_word) f = refl
deep_made alle_word f = refl
deep_made exi_word f = refl
deep_made (Predicate exe_word) f = refl
deep_made trans_word f = refl
deep_made axiom_word f = refl
deep_made (Cited theorem_word) f = refl
deep_made (Cited assume_word) f = refl
deep_made dis_word f = refl
deep_made (Cited infer_word) f = refl
deep_made rewrite_word f = ap (λ b. b || cite_deep f.1.1.1) (never_any f.1.1.0)
deep_made cases_word f = ap (λ b. b || cite_deep f.1.1) (never_any f.1.0)
deep_made (Placed unfold_word) f = never_any f
deep_made fold_word f = ap (λ b. b || cite_deep f.1.1) (never_any f.1.0)
deep_made (Placed recur_word) f = never_any f
deep_made (Placed con_word) f = never_any f
deep_made (Lone induct_word) f = refl
deep_made (Lone open_word) f = refl

-- a step of a word is made of what stands behind it
made_takes : (w : StepWord) (E : List Token → Type 0) (s t : State) (v : Option (Fields w)) (o : Option Step) → TakesFrom (ReadsFields w) E (fields_deep w) s v t → o ≡ option_map (made w) v
    → TakesFrom (OfWord w) E step_deep s o t
made_takes w E None t v o h e = h
made_takes w E (Some ts) None v o h e = λ b rest i k. h i.0 rest i.2 k
made_takes w E (Some ts) (Some us) v o h e = (
  made w h.0,
  e ∙ ap (option_map (made w)) h.1 ∙ map_kept (made w) (fields_deep w) step_deep h.0 (deep_made w h.0),
  (h.0, refl, h.2),
  h.3,
  λ b rest i k. let same = h.4 i.0 rest i.2 k in (i.1 ∙ ap (made w) same.0, same.1),
)

pub made_took : {E : List Token → Type 0} {s t : State} (w : StepWord) {v : Option (Fields w)} {o : Option Step} → Took (ReadsFields w) E (fields_deep w) s v t → o ≡ option_map (made w) v
    → Took (OfWord w) E step_deep s o t
made_took {E} {s} {t} w {v} {o} h e = record { takes = made_takes w E s t v o h.takes e }

-- a word alone
pub took_alone : {s : State} (w : LoneWord) → Took (ReadsFields (Lone w)) AtEnd (fields_deep (Lone w)) s (Some tt) s
took_alone {s} w = record { takes = go s }
  where
    go : (s : State) → TakesFrom (ReadsFields (Lone w)) AtEnd (fields_deep (Lone w)) s (Some tt) s
    go None = refl
    go (Some ts) = (tt, refl, refl, omega arith, λ b rest i e. (refl, sym i))

-- where no name stands, no step does
nameless : (s t : State) (o : Option (List ℕ)) → o ≡ None → TakesFrom Word Anything never s o t → TakesFrom ReadsStep AtEnd step_deep s None t
nameless None t o e h = h
nameless (Some ts) None o e h = λ b rest i f. let x = by_word b ts rest i in h (spelling x.0) x.1 x.2 tt
nameless (Some ts) (Some us) o e h = absurd (differ (sym e ∙ h.1))
  where
    differ : ◌≡◌ {A = Option (List ℕ)} None (Some h.0) → ⊥
    differ d = cc

pub no_name : {s t : State} {o : Option (List ℕ)} → o ≡ None → Took Word Anything never s o t → Took ReadsStep AtEnd step_deep s None t
no_name {s} {t} {o} e h = record { takes = nameless s t o e h.takes }

-- nor behind a name that is no word
unknown : (s t : State) (n : List ℕ) (v : Option Step) → word_of n ≡ None → TakesFrom Word Anything never s (Some n) t → TakesFrom ReadsStep AtEnd step_deep s v None
unknown None t n v e h = refl
unknown (Some ts) None n v e h = λ b rest i f. let x = by_word b ts rest i in h (spelling x.0) x.1 x.2 tt
unknown (Some ts) (Some us) n v e h = λ b rest i f. let x = by_word b ts rest i in
    let same = h.4 (spelling x.0) x.1 x.2 tt in
    differ x.0 (sym e ∙ ap word_of (named h.0 h.1 ∙ sym same.0) ∙ known x.0)
  where
    named : (m : List ℕ) → ◌≡◌ {A = Option (List ℕ)} (Some n) (Some m) → n ≡ m
    named m d = cc

    differ : (w : StepWord) → ◌≡◌ {A = Option StepWord} None (Some w) → ⊥
    differ w d = cc

pub no_word : {s t u : State} {o : Option (List ℕ)} {v : Option Step} (n : List ℕ) → o ≡ Some n → word_of n ≡ None → Took Word Anything never s o t → u ≡ None
    → Took ReadsStep AtEnd step_deep s v u
no_word {s} {t} {u} {o} {v} n d e h gone =
    record { takes = subst (TakesFrom ReadsStep AtEnd step_deep s v) (sym gone) (unknown s t n v e (subst (λ x. TakesFrom Word Anything never s x t) d h.takes)) }

-- a word and what stands behind it
behind_word : (s t u : State) (n : List ℕ) (w : StepWord) (v : Option Step) → word_of n ≡ Some w → TakesFrom Word Anything never s (Some n) t → TakesFrom (OfWord w) AtEnd step_deep t v u
    → TakesFrom ReadsStep AtEnd step_deep s v u
behind_word None t u n w v e h k = gone t h k
  where
    gone : (t : State) → t ≡ None → TakesFrom (OfWord w) AtEnd step_deep t v u → u ≡ None
    gone None d k = k
    gone (Some us) d k = cc
behind_word (Some ts) None None n w v e h k = λ b rest i f. let x = by_word b ts rest i in h (spelling x.0) x.1 x.2 tt
behind_word (Some ts) None (Some xs) n w v e h k = absurd (differ k)
  where
    differ : ◌≡◌ {A = State} (Some xs) None → ⊥
    differ d = cc
behind_word (Some ts) (Some us) u n w v e h k = go u k
  where
    named : (m : List ℕ) → ◌≡◌ {A = Option (List ℕ)} (Some n) (Some m) → n ≡ m
    named m d = cc

    one : (x y : StepWord) → ◌≡◌ {A = Option StepWord} (Some x) (Some y) → x ≡ y
    one x y d = cc

    begun : ts ≡ name (spelling w) ∷ us
    begun = h.2 ∙ ap (λ m. name m ∷ us) (sym (named h.0 h.1) ∙ spelled n w e)

    here : (b : Step) (rest : List Token) → ReadsStep b ts rest → OfWord w b us rest
    here b rest i = let x = by_word b ts rest i in
        let same = h.4 (spelling x.0) x.1 x.2 tt in
        let word : x.0 ≡ w = one x.0 w (sym (known x.0) ∙ ap word_of (same.0 ∙ sym (named h.0 h.1)) ∙ e) in
        subst (λ y. OfWord y b us rest) word (subst (λ xs. OfWord x.0 b xs rest) same.1 x.3)

    there : (b : Step) (rest : List Token) → OfWord w b us rest → ReadsStep b ts rest
    there b rest i = subst (λ y. ReadsStep y ts rest) (sym i.1) (subst (λ xs. ReadsStep (made w i.0) xs rest) (sym begun) (of_word w i.0 us rest i.2))

    go : (u : State) → Takes (OfWord w) AtEnd step_deep us v u → Takes ReadsStep AtEnd step_deep ts v u
    go None k = λ b rest i f. k b rest (here b rest i) f
    go (Some xs) k = (k.0, k.1, there k.0 xs k.2, omega (arith, h.3, k.3), λ b rest i f. k.4 b rest (here b rest i) f)

pub step_took : {s t u : State} {o : Option (List ℕ)} {v : Option Step} (n : List ℕ) (w : StepWord) → o ≡ Some n → word_of n ≡ Some w → Took Word Anything never s o t
    → Took (OfWord w) AtEnd step_deep t v u → Took ReadsStep AtEnd step_deep s v u
step_took {s} {t} {u} {o} {v} n w d e h k =
    record { takes = behind_word s t u n w v e (subst (λ x. TakesFrom Word Anything never s x t) d h.takes) k.takes }
