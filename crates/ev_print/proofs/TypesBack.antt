-- The text of a type reads back.
use Rattle.std.proofs.Common.{◌≡◌, ℕ, ◌<◌, ◌≤◌, ◌^◌, Bool as Boolean, true, false, List, ◌∷◌, ◌++◌, refl, sym, subst, arith, inl}
use Rattle.std.specs.Prelude.{Option, Some, None, codes, decimal, IsSomeAnd}
use Rattle.ev_terms.specs.declared.types.Ty.{Ty, Int, Bool, Prop, Param, Data}
use Rattle.ev_terms.specs.declared.types.Tys.{Tys, Empty}
use Rattle.ev_terms.specs.Types.{pow, prod, more}
use Rattle.ev_terms.specs.Measures.{type_params, types_params}
use Rattle.ev_typing.specs.declared.typing.DataDecl.{DataDecl}
use Rattle.ev_typing.specs.Env.{Env, Name, find_data}
use Rattle.ev_typing.specs.Typing.{IsProper, AreProper}
use Rattle.ev_syntax.specs.Marks.{open_paren, close_paren, comma, product_sign, int_word, bool_set_word, pow_word, param_sign}
use Rattle.ev_syntax.specs.Tokens.{Token, name, number, mark}
use Rattle.ev_syntax.specs.Names.{is_name}
use Rattle.ev_syntax.specs.Grammar.{Is, ◌then◌, ReadsType, ReadsMoreTypes}
use Rattle.ev_syntax.proofs.Wrapping.{paren_type}
use Rattle.unicode_ident.proofs.Computing.{unicode_ident}
use Rattle.ev_print.specs.Canon.{in_parens, with_commas, param_text, is_product, factor, type_text, type_texts}
use Rattle.ev_print.specs.Texts.{raw_type, raw_types}
use Rattle.ev_print.proofs.Lexing.{Lex, Breaks, after_any, after_word, any_breaks, word_lex, name_lex, number_lex}
use Rattle.ev_print.proofs.Signs.{param_lex, comma_lex, star_lex, blank_break, comma_break, parens_lex, call_lex}

-- reserved words
pub int_lex : Lex Breaks (codes "INT") (λ ks. mark int_word ∷ ks)
unfolding unicode_ident
int_lex = word_lex 73 (codes "NT") int_word refl refl

pub bool_lex : Lex Breaks (codes "BOOL") (λ ks. mark bool_set_word ∷ ks)
unfolding unicode_ident
bool_lex = word_lex 66 (codes "OOL") bool_set_word refl refl

pub pow_lex : Lex Breaks (codes "POW") (λ ks. mark pow_word ∷ ks)
unfolding unicode_ident
pow_lex = word_lex 80 (codes "OW") pow_word refl refl

pub param_text_lex : (i : ℕ) → i < 2 ^ 32 → Lex Breaks (param_text i) (λ ks. mark param_sign ∷ number i ∷ ks)
param_text_lex i h = after_any Breaks (codes "?") (decimal i) _ _ param_lex (number_lex i (omega arith))

-- the text is tokens that read as the type, as an operand of `**` too where it is no product
pub record TypeReading (A : Ty) : Type 0 where
  pub tokens : List Token → List Token
  pub lex : Lex Breaks (type_text A) tokens
  pub whole : (rest : List Token) → ReadsType (raw_type A) true (tokens rest) rest
  pub tight : is_product A ≡ false → (flag : Boolean) (rest : List Token) → ReadsType (raw_type A) flag (tokens rest) rest

-- as an operand
pub record FactorReading (A : Ty) : Type 0 where
  pub tokens : List Token → List Token
  pub lex : Lex Breaks (factor (is_product A) (type_text A)) tokens
  pub reads : (flag : Boolean) (rest : List Token) → ReadsType (raw_type A) flag (tokens rest) rest

factor_reading : (A : Ty) → TypeReading A → FactorReading A
factor_reading A r = by (is_product A) refl
  where
    by : (b : Boolean) → is_product A ≡ b → FactorReading A
    by false e = record {
      tokens = r.tokens;
      lex = subst (λ b. Lex Breaks (factor b (type_text A)) r.tokens) (sym e) r.lex;
      reads = r.tight e;
    }
    by true e = record {
      tokens = λ ks. mark open_paren ∷ r.tokens (mark close_paren ∷ ks);
      lex = subst (λ b. Lex Breaks (factor b (type_text A)) (λ ks. mark open_paren ∷ r.tokens (mark close_paren ∷ ks))) (sym e)
          (any_breaks (in_parens (type_text A)) _ (parens_lex (type_text A) r.tokens r.lex));
      reads = λ flag rest. (paren_type (raw_type A)).wraps flag _ _ rest refl (r.whole (mark close_paren ∷ rest));
    }

-- types between commas, at least one
pub record ListReading (A : Ty) (types : Tys) : Type 0 where
  pub tokens : List Token → List Token
  pub lex : Lex Breaks (with_commas (type_text A ∷ type_texts types)) tokens
  pub reads : (rest : List Token) → (ReadsType (raw_type A) true then ReadsMoreTypes (raw_types types)) (tokens rest) rest

abbrev ListsReading : Tys → Type 0
ListsReading Empty = Unit {0}
ListsReading (more A types) = ListReading A types

list_reading : (A : Ty) (types : Tys) → TypeReading A → ListsReading types → ListReading A types
list_reading A Empty r h = record { tokens = r.tokens; lex = r.lex; reads = λ rest. (rest, r.whole rest, refl) }
list_reading A (more B types) r h = record {
  tokens = λ ks. r.tokens (mark comma ∷ h.tokens ks);
  lex = after_word Breaks (type_text A) 44 (codes " " ++ with_commas (type_text B ∷ type_texts types)) r.tokens _ comma_break r.lex
      (after_any Breaks (codes ", ") (with_commas (type_text B ∷ type_texts types)) _ h.tokens comma_lex h.lex);
  reads = λ rest. (mark comma ∷ h.tokens rest, r.whole (mark comma ∷ h.tokens rest), (h.tokens rest, refl, h.reads rest));
}

module _ (env : Env) (named : (n : Name) (d : DataDecl) → find_data env n ≡ Some d → is_name n ≡ true) where
  data_named : (n : Name) (P : DataDecl → Type 0) → IsSomeAnd (find_data env n) P → is_name n ≡ true
  data_named n P h = by (find_data env n) refl h
    where
      by : (o : Option DataDecl) → find_data env n ≡ o → IsSomeAnd o P → is_name n ≡ true
      by None e h = absurd h
      by (Some d) e h = named n d e

  data_reading : (n : Name) (types : Tys) → is_name n ≡ true → ListsReading types → TypeReading (Data n types)
  data_reading n Empty e h = record {
    tokens = λ ks. name n ∷ ks;
    lex = name_lex n e;
    whole = λ rest. inl refl;
    tight = λ p flag rest. inl refl;
  }
  data_reading n (more A types) e h = record {
    tokens = λ ks. name n ∷ mark open_paren ∷ h.tokens (mark close_paren ∷ ks);
    lex = any_breaks _ _ (call_lex n (with_commas (type_text A ∷ type_texts types)) _ h.tokens (name_lex n e) h.lex);
    whole = λ rest. inl (reads rest);
    tight = λ p flag rest. inl (reads rest);
  }
    where
      reads : (rest : List Token) → (Is (name n) then Is (mark open_paren) then ReadsType (raw_type A) true then ReadsMoreTypes (raw_types types) then Is (mark close_paren))
          (name n ∷ mark open_paren ∷ h.tokens (mark close_paren ∷ rest)) rest
      reads rest =
          let (after, first, later) = h.reads (mark close_paren ∷ rest) in
          (mark open_paren ∷ h.tokens (mark close_paren ∷ rest), refl, (h.tokens (mark close_paren ∷ rest), refl, (after, first, (mark close_paren ∷ rest, later, refl))))

  mutual
    pub type_reading : (A : Ty) → IsProper env A → type_params A ≤ 2 ^ 32 → TypeReading A
    type_reading Int h s = record { tokens = λ ks. mark int_word ∷ ks; lex = int_lex; whole = λ rest. inl refl; tight = λ p flag rest. inl refl }
    type_reading Bool h s = record { tokens = λ ks. mark bool_set_word ∷ ks; lex = bool_lex; whole = λ rest. inl refl; tight = λ p flag rest. inl refl }
    type_reading Prop h s = absurd h
    type_reading (Param i) h s =
        let small : i < 2 ^ 32 = omega arith in
        record {
          tokens = λ ks. mark param_sign ∷ number i ∷ ks;
          lex = param_text_lex i small;
          whole = λ rest. inl (small, (number i ∷ rest, refl, refl));
          tight = λ p flag rest. inl (small, (number i ∷ rest, refl, refl));
        }
    type_reading (pow A) h s =
        let r = type_reading A h s in
        record {
          tokens = λ ks. mark pow_word ∷ mark open_paren ∷ r.tokens (mark close_paren ∷ ks);
          lex = any_breaks _ _ (call_lex (codes "POW") (type_text A) _ r.tokens pow_lex r.lex);
          whole = λ rest. inl (mark open_paren ∷ r.tokens (mark close_paren ∷ rest), refl, (r.tokens (mark close_paren ∷ rest), refl, (mark close_paren ∷ rest, r.whole (mark close_paren ∷ rest), refl)));
          tight = λ p flag rest. inl (mark open_paren ∷ r.tokens (mark close_paren ∷ rest), refl, (r.tokens (mark close_paren ∷ rest), refl, (mark close_paren ∷ rest, r.whole (mark close_paren ∷ rest), refl)));
        }
    type_reading (prod A B) h s =
        let x = factor_reading A (type_reading A h.0 (omega arith)) in
        let y = factor_reading B (type_reading B h.1 (omega arith)) in
        record {
          tokens = λ ks. x.tokens (mark product_sign ∷ y.tokens ks);
          lex = after_word Breaks (factor (is_product A) (type_text A)) 32 (codes "** " ++ factor (is_product B) (type_text B)) x.tokens _ blank_break x.lex
              (after_any Breaks (codes " ** ") (factor (is_product B) (type_text B)) _ y.tokens star_lex y.lex);
          whole = λ rest. inl (refl, (mark product_sign ∷ y.tokens rest, x.reads true (mark product_sign ∷ y.tokens rest), (y.tokens rest, refl, y.reads false rest)));
          tight = λ p flag rest. absurd (cc);
        }
    type_reading (Data n types) h s = data_reading n types (data_named n _ h.0) (types_reading types h.1 s)

    types_reading : (types : Tys) → AreProper env types → types_params types ≤ 2 ^ 32 → ListsReading types
    types_reading Empty h s = tt
    types_reading (more A types) h s = list_reading A types (type_reading A h.0 (omega arith)) (types_reading types h.1 (omega arith))
