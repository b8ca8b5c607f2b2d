-- The constructor of a name among the symbols of a datatype.
use Rattle.std.proofs.Common.{◌≡◌, ℕ, ◌+◌, ◌<◌, ◌≤◌, Bool as Boolean, true, false, cond, List, [], ◌∷◌, ◌++◌, length, drop, map, get_or, Option, Some, None, ap, sym, ◌∙◌, subst, refl, arith, true≢false}
use Rattle.std.specs.Prelude.{◌≢◌, ◌||◌, flat_map, bytes_eq}
use Rattle.std.specs.Option.{option_and_then}
use Rattle.std.specs.List.{enumerate_from, list_any}
use Rattle.std.proofs.lemmas.Bool.{false≢true}
use Rattle.ev_typing.specs.declared.typing.Entry.{Entry}
use Rattle.ev_typing.specs.declared.typing.Entry.TheVariants.{Constant, Direct, Recursive}
use Rattle.ev_typing.specs.declared.typing.DataDecl.{DataDecl}
use Rattle.ev_typing.specs.declared.typing.Con.{Con}
use Rattle.ev_typing.specs.declared.typing.Var.{Var}
use Rattle.ev_typing.specs.declared.typing.Signature.{Signature}
use Rattle.ev_typing.specs.Env.{Env, Name, Symbol, ConOf, DesOf, ConstantOf, DirectOf, RecursiveOf, look_up, symbols, con_symbols, find_symbol, declaring}
use Rattle.ev_typing.specs.WellFormed.{IsWellFormed}
use Rattle.ev_typing.proofs.Names.{drop_at, drop_all}
use Rattle.ev_typing.proofs.Entries.{find_symbol-declaring}
use Rattle.ev_terms.specs.Term.{Term}
use Rattle.ev_data.specs.inner.Found.{constructed}

field_found : (d : DataDecl) (c : Con) (n : Name) (i : ℕ) (fs : List Var) (rest : List (Name × Symbol)) → list_any (λ (f : Var). bytes_eq f.name n) fs ≡ true →
    constructed (look_up (map (λ (f : ℕ × Var). (f.1.name, DesOf d c f.0 f.1)) (enumerate_from i fs) ++ rest) n) ≡ None
field_found d c n i [] rest h = absurd (false≢true h)
field_found d c n i (f ∷ fs) rest h = by (bytes_eq f.name n) h (field_found d c n (i + 1) fs rest)
  where
    by : (b : Boolean) → (b || list_any (λ (g : Var). bytes_eq g.name n) fs) ≡ true →
        (list_any (λ (g : Var). bytes_eq g.name n) fs ≡ true → constructed (look_up (map (λ (g : ℕ × Var). (g.1.name, DesOf d c g.0 g.1)) (enumerate_from (i + 1) fs) ++ rest) n) ≡ None) →
        constructed (cond b (Some (DesOf d c i f)) (look_up (map (λ (g : ℕ × Var). (g.1.name, DesOf d c g.0 g.1)) (enumerate_from (i + 1) fs) ++ rest) n)) ≡ None
    by true e g = refl
    by false e g = g e

field_missed : (d : DataDecl) (c : Con) (n : Name) (i : ℕ) (fs : List Var) (rest : List (Name × Symbol)) → list_any (λ (f : Var). bytes_eq f.name n) fs ≡ false →
    look_up (map (λ (f : ℕ × Var). (f.1.name, DesOf d c f.0 f.1)) (enumerate_from i fs) ++ rest) n ≡ look_up rest n
field_missed d c n i [] rest h = refl
field_missed d c n i (f ∷ fs) rest h = by (bytes_eq f.name n) h (field_missed d c n (i + 1) fs rest)
  where
    by : (b : Boolean) → (b || list_any (λ (g : Var). bytes_eq g.name n) fs) ≡ false →
        (list_any (λ (g : Var). bytes_eq g.name n) fs ≡ false → look_up (map (λ (g : ℕ × Var). (g.1.name, DesOf d c g.0 g.1)) (enumerate_from (i + 1) fs) ++ rest) n ≡ look_up rest n) →
        cond b (Some (DesOf d c i f)) (look_up (map (λ (g : ℕ × Var). (g.1.name, DesOf d c g.0 g.1)) (enumerate_from (i + 1) fs) ++ rest) n) ≡ look_up rest n
    by true e g = absurd (true≢false e)
    by false e g = g e

-- what is looked up from a constructor on
from_here : (d : DataDecl) (cs : List Con) (i : ℕ) (n : Name) (c : Con) (b : Boolean) → c ≡ get_or cs i c → i < length cs → b ≡ bytes_eq c.name n →
    look_up (flat_map (con_symbols d) (drop i cs)) n
    ≡ cond b (Some (ConOf d c)) (look_up (map (λ (f : ℕ × Var). (f.1.name, DesOf d c f.0 f.1)) (enumerate_from 0 c.fields) ++ flat_map (con_symbols d) (drop (i + 1) cs)) n)
from_here d cs i n c b p h e =
    ap (λ xs. look_up (flat_map (con_symbols d) xs) n) (drop_at cs i c p h)
    ∙ ap (λ x. cond x (Some (ConOf d c)) (look_up (map (λ (f : ℕ × Var). (f.1.name, DesOf d c f.0 f.1)) (enumerate_from 0 c.fields) ++ flat_map (con_symbols d) (drop (i + 1) cs)) n)) (sym e)

pub con_named : (d : DataDecl) (cs : List Con) (i : ℕ) (n : Name) (c : Con) (o : Option Symbol) → c ≡ get_or cs i c → i < length cs → true ≡ bytes_eq c.name n →
    look_up (flat_map (con_symbols d) (drop i cs)) n ≡ o → o ≡ Some (ConOf d c)
con_named d cs i n c o p h e q = sym q ∙ from_here d cs i n c true p h e

pub con_found : (d : DataDecl) (cs : List Con) (i : ℕ) (n : Name) (c : Con) (o : Option Symbol) → c ≡ get_or cs i c → i < length cs → false ≡ bytes_eq c.name n →
    true ≡ list_any (λ (f : Var). bytes_eq f.name n) c.fields → look_up (flat_map (con_symbols d) (drop i cs)) n ≡ o → constructed o ≡ None
con_found d cs i n c o p h e g q =
    ap constructed (sym q ∙ from_here d cs i n c false p h e) ∙ field_found d c n 0 c.fields (flat_map (con_symbols d) (drop (i + 1) cs)) (sym g)

pub con_missed : (d : DataDecl) (cs : List Con) (i : ℕ) (n : Name) (c : Con) (o : Option Symbol) → c ≡ get_or cs i c → i < length cs → false ≡ bytes_eq c.name n →
    false ≡ list_any (λ (f : Var). bytes_eq f.name n) c.fields →
    look_up (flat_map (con_symbols d) (drop i cs)) n ≡ o → look_up (flat_map (con_symbols d) (drop (i + 1) cs)) n ≡ o
con_missed d cs i n c o p h e g q =
    sym (from_here d cs i n c false p h e ∙ field_missed d c n 0 c.fields (flat_map (con_symbols d) (drop (i + 1) cs)) (sym g)) ∙ q

pub con_nowhere : (d : DataDecl) (cs : List Con) (i : ℕ) (n : Name) (o : Option Symbol) → length cs ≤ i → look_up (flat_map (con_symbols d) (drop i cs)) n ≡ o → constructed o ≡ None
con_nowhere d cs i n o h q = ap constructed (sym q ∙ ap (λ xs. look_up (flat_map (con_symbols d) xs) n) (drop_all cs i h))

pub ruleset found = (con_named, con_found, con_missed, con_nowhere)

-- An operator is no constructor.
single : (b : Boolean) (s : Symbol) → constructed (Some s) ≡ None → constructed (cond b (Some s) None) ≡ None
single true s e = e
single false s e = refl

pub constant_apart : (n : Name) (sig : Signature) (o : Option Term) → constructed (look_up (symbols (Constant sig o)) n) ≡ None
constant_apart n sig o = single (bytes_eq sig.name n) (ConstantOf sig o) refl

pub direct_apart : (n : Name) (sig : Signature) (o : Option Term) (body : Term) → constructed (look_up (symbols (Direct sig o body)) n) ≡ None
direct_apart n sig o body = single (bytes_eq sig.name n) (DirectOf sig o body) refl

pub recursive_apart : (n : Name) (sig : Signature) (o : Option Term) (place : ℕ) (bodies : List Term) → constructed (look_up (symbols (Recursive sig o place bodies)) n) ≡ None
recursive_apart n sig o place bodies = single (bytes_eq sig.name n) (RecursiveOf sig o place bodies) refl

pub ruleset operators = (constant_apart, direct_apart, recursive_apart)

-- A symbol is that of the entry that declares the name.
pub symbol_declared : (env : Env) (n : Name) (e : Entry) → IsWellFormed env → Some e ≡ declaring env n → find_symbol env n ≡ look_up (symbols e) n
symbol_declared env n e w p = find_symbol-declaring env n w ∙ ap (option_and_then (λ d. look_up (symbols d) n)) (sym p)

pub symbol_undeclared : (env : Env) (n : Name) → IsWellFormed env → None ≡ declaring env n → find_symbol env n ≡ None
symbol_undeclared env n w p = find_symbol-declaring env n w ∙ ap (option_and_then (λ d. look_up (symbols d) n)) (sym p)

pub not_constructed : (o : Option Symbol) → constructed o ≡ None → (d : DataDecl) (c : Con) → o ≢ Some (ConOf d c)
not_constructed o e d c p = let q : constructed (Some (ConOf d c)) ≡ None = ap constructed (sym p) ∙ e in cc
