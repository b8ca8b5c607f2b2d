-- Readings that give a variable.
use Rattle.std.specs.Prelude.{◌≡◌, ℕ, ◌==◌, Bool as Boolean, true, false, List, [], ◌∷◌, map, length, Option, Some, None, MatchBool, if◌then◌else◌, refl}
use Rattle.std.proofs.Common.{ap, sym, ◌∙◌, arith, inl, inr, subst as transport}
use Rattle.ev_terms.specs.declared.types.Ty.{Ty}
use Rattle.ev_terms.specs.declared.types.Tys.{Tys}
use Rattle.ev_terms.specs.declared.types.Sym.{Sym}
use Rattle.ev_terms.specs.declared.types.Sym.TheVariants.{User}
use Rattle.ev_terms.specs.Term.{Term, Terms, var, node, nil, cons}
use Rattle.ev_syntax.specs.Marks.{open_brace, union_over_word}
use Rattle.ev_syntax.specs.Raw.{Raw, Raws, word, literal, param, type_set, call, around, unary, binary, inverse, apply, image, of_type, quantified, set_of, collected, lambda, members, written, none, one}
use Rattle.ev_forms.specs.Base as base
use Rattle.ev_forms.specs.Base.{at_type, with_one}
use Rattle.ev_typing.specs.Env.{Env}
use Rattle.ev_typing.specs.Typing.{Typed}
use Rattle.ev_resolve.specs.Reading.{Known, Variable, context_of, Meaning, variable, predicate, parameter, symbol, nothing, meaning, Plain, infix_symbols, prefix_symbols, around_symbols, word_symbols, entry_of, and_not, IsPlain, IsWord, unnamed, IsCollected, Binds, IsCall, count_of, Gives}
use Rattle.ev_resolve.specs.Bare.{Bare, bare_var, bare_node, bare_none, bare_of}
use Rattle.ev_resolve.specs.Resolve.{bare_leaf, application_bare, call_bare, forget, resolve}
use Rattle.ev_infer.proofs.Sound.{some_gives}
use Rattle.ev_infer.proofs.ToBare.{meaning_forget, both_to}
use Rattle.ev_infer.proofs.FromBare.{both_gives}
use Rattle.ev_infer.specs.inner.Variables.{is_name, IsVariable}

no_node : (i : ℕ) (s : Sym) (As : Tys) (ts : Terms) → var i ≡ node s As ts → ⊥
no_node i s As ts e = cc

no_sign : (n : Boolean) (i : ℕ) (s : Sym) (As : Tys) (ts : Terms) → var i ≡ and_not n (node s As ts) → ⊥
no_sign false i s As ts e = cc
no_sign true i s As ts e = cc

no_plain : (o : Option Plain) (ts : Terms) (i : ℕ) → IsPlain o ts (var i) → ⊥
no_plain None ts i h = h
no_plain (Some e) ts i (types, q) = no_sign e.negated i e.sym types ts q

no_word : (m i : ℕ) → IsWord m (var i) → ⊥
no_word m i (inl h) = no_plain (entry_of word_symbols m) nil i h
no_word m i (inr (inl (e, q))) = cc
no_word m i (inr (inr (e, q))) = cc

no_over : (b : Boolean) (s : Sym) (set : Term → Type 0) (i : ℕ) → (set (var i) → ⊥) → MatchBool b (set (var i)) ((types : Tys) × (u : Term) × set u × (var i ≡ with_one s types u)) → ⊥
no_over true s set i n h = n h
no_over false s set i n (types, u, h, q) = cc

same_variable : (i j : ℕ) → var i ≡ var j → j ≡ i
same_variable i j e = cc

call_reads : (m : Meaning) (n : List ℕ) (count : ℕ) (args : Terms) (i : ℕ) → IsCall m n count args (var i) → (count ≡ 0) × (m ≡ variable i)
call_reads (variable j) n count args i (inl (c, q)) = (c, ap variable (same_variable i j q))
call_reads (variable j) n count args i (inr (c, (types, q))) = cc
call_reads (predicate j) n count args i (c, q) = cc
call_reads (parameter j) n count args i (c, q) = cc
call_reads (symbol k) n count args i (inl (c, types, q)) = cc
call_reads (symbol k) n count args i (inr (z, c, types, (types', q))) = cc
call_reads nothing n count args i h = absurd h

module _ (env : Env) (params : List (List ℕ)) (known : Known) where
  -- what a reading as a variable comes from
  pub record ReadsVariable (raw : Raw) (vs : List Variable) (i : ℕ) : Type 0 where
    pub name : is_name raw ≡ true
    pub bare : Bare
    pub resolved : resolve params known raw (map forget vs) ≡ Some bare
    pub is_variable : IsVariable bare (context_of vs) i

  no_args_call : (n : List ℕ) (es : Raws) (vs : List Variable) (i : ℕ) → count_of es ≡ 0 → meaning params known n vs 0 ≡ variable i → ReadsVariable (call n es) vs i
  no_args_call n none vs i c e = record {
    name = refl;
    bare = bare_var i;
    resolved = ap (λ m. call_bare m n 0 bare_none) (meaning_forget params known n vs 0 ∙ e);
    is_variable = refl;
  }
  no_args_call n (one x es) vs i c e = absurd (omega (arith, c))

  pub reads_variable : (raw : Raw) (vs : List Variable) (i : ℕ) → Gives params known (Typed env) raw vs (var i) → ReadsVariable raw vs i
  reads_variable (word m) vs i h = absurd (no_word m i h)
  reads_variable (literal n) vs i h = cc
  reads_variable (param j) vs i h = cc
  reads_variable (type_set r) vs i (a, e, h) = cc
  reads_variable (call n es) vs i (args, h, c) =
      let r = call_reads (meaning params known n vs 0) n (count_of es) args i c in
      no_args_call n es vs i r.0 r.1
  reads_variable (around m x) vs i (u, h, p) = absurd (no_plain (entry_of around_symbols m) _ i p)
  reads_variable (unary m x) vs i (u, h, p) = absurd (no_plain (entry_of prefix_symbols m) _ i p)
  reads_variable (binary m x y) vs i (u, v, hu, hv, p) = absurd (no_plain (entry_of infix_symbols m) _ i p)
  reads_variable (inverse x) vs i (types, u, h, q) = cc
  reads_variable (apply x y) vs i (types, u, v, hu, hv, q) = cc
  reads_variable (image x y) vs i (types, u, v, hu, hv, q) = cc
  reads_variable (of_type x r) vs i (a, q, h, typed) =
      let r' = reads_variable x vs i h in
      record {
        name = r'.name;
        bare = bare_of r'.bare a;
        resolved = both_to bare_of _ _ r'.bare a r'.resolved q;
        is_variable = (r'.is_variable, typed);
      }
  reads_variable (quantified m [] x) vs i h =
      let r' = reads_variable x vs i h in
      record { name = r'.name; bare = r'.bare; resolved = r'.resolved; is_variable = r'.is_variable }
  reads_variable (quantified m (b ∷ bs) x) vs i (a, u, w, rest, q) = cc
  reads_variable (set_of b x) vs i (a, u, w, rest, q) = cc
  reads_variable (collected m bs x y) vs i h =
      absurd (no_over (m == open_brace) (if m == union_over_word then base.big_union_sym else base.big_inter_sym)
      (λ set. (a : Ty) × (u : Term) × Binds params known (Typed env) base.for_some_sym bs (IsCollected (Gives params known (Typed env) x) (Gives params known (Typed env) y) a (length bs)) (unnamed a ∷ vs) u × (set ≡ with_one base.set_sym (at_type a) u))
      i (λ s. no_node i base.set_sym (at_type s.0) (cons s.1 nil) s.3) h)
  reads_variable (lambda z x y) vs i (a, u, h, q) = cc
  reads_variable (members none) vs i (a, q) = cc
  reads_variable (members (one x es)) vs i (a, u, v, hu, rest, q) = cc
  reads_variable (written r) vs i h = absurd h

  no_symbol : (c d : Boolean) (n : List ℕ) (b : Bare) (C : List Ty) (i : ℕ)
      → (if c then Some (bare_node (User n) None bare_none) else (if d then (if 0 == 1 then Some (application_bare (bare_leaf (User n) None) bare_none) else None) else None)) ≡ Some b → IsVariable b C i → ⊥
  no_symbol true d n b C i e h = transport (λ c. IsVariable c C i) (some_gives _ _ e) h
  no_symbol false true n b C i e h = cc
  no_symbol false false n b C i e h = cc

  name_call : (m : Meaning) (n : List ℕ) (b : Bare) (C : List Ty) (i : ℕ) → call_bare m n 0 bare_none ≡ Some b → IsVariable b C i → m ≡ variable i
  name_call (variable j) n b C i e h = ap variable (transport (λ c. IsVariable c C i) (some_gives _ _ e) h)
  name_call (predicate j) n b C i e h = absurd (transport (λ c. IsVariable c C i) (some_gives _ _ e) h)
  name_call (parameter j) n b C i e h = absurd (transport (λ c. IsVariable c C i) (some_gives _ _ e) h)
  name_call (symbol k) n b C i e h = absurd (no_symbol (0 == k) (k == 0) n b C i e h)
  name_call nothing n b C i e h = cc

  -- a name that stands for a variable gives it
  pub name_gives : (raw : Raw) (vs : List Variable) (i : ℕ) (b : Bare) → is_name raw ≡ true → resolve params known raw (map forget vs) ≡ Some b → IsVariable b (context_of vs) i → Gives params known (Typed env) raw vs (var i)
  name_gives (call n none) vs i b y e h =
      let m : meaning params known n vs 0 ≡ variable i = sym (meaning_forget params known n vs 0) ∙ name_call (meaning params known n (map forget vs) 0) n b (context_of vs) i e h in
      (nil, refl, transport (λ k. IsCall k n 0 nil (var i)) (sym m) (inl (refl, refl)))
  name_gives (of_type x r) vs i b y e h =
      let (c, a, ec, ea, q) = both_gives bare_of _ _ b e in
      let (hc, ha) = transport (λ d. IsVariable d (context_of vs) i) q h in
      (a, ea, name_gives x vs i c y ec hc, ha)
  name_gives (quantified m [] x) vs i b y e h = name_gives x vs i b y e h
  name_gives (quantified m (z ∷ zs) x) vs i b y e h = cc
  name_gives (call n (one x es)) vs i b y e h = cc
  name_gives (word m) vs i b y e h = cc
  name_gives (literal n) vs i b y e h = cc
  name_gives (param j) vs i b y e h = cc
  name_gives (type_set r) vs i b y e h = cc
  name_gives (around m x) vs i b y e h = cc
  name_gives (unary m x) vs i b y e h = cc
  name_gives (binary m x z) vs i b y e h = cc
  name_gives (inverse x) vs i b y e h = cc
  name_gives (apply x z) vs i b y e h = cc
  name_gives (image x z) vs i b y e h = cc
  name_gives (set_of z x) vs i b y e h = cc
  name_gives (collected m bs x z) vs i b y e h = cc
  name_gives (lambda p x z) vs i b y e h = cc
  name_gives (members es) vs i b y e h = cc
  name_gives (written r) vs i b y e h = cc
