-- What the name of a symbol tells, and calls of user's symbols.
use Rattle.std.specs.Prelude.{◌≡◌, ◌+◌, ◌<◌, ℕ, zero, suc, List, [], ◌∷◌, Some, None, map, flat_map, length, slice_get, get_or, cond, option_map, IsSomeAnd, Contains, ⊤, refl}
use Rattle.std.specs.List.{AllByRecursion, enumerate_from}
use Rattle.std.proofs.Common.{ap, sym, subst as transport, arith}
use Rattle.ev_terms.specs.declared.types.Ty.{Ty}
use Rattle.ev_terms.specs.declared.types.Tys.{Tys}
use Rattle.ev_terms.specs.declared.types.Sym.TheVariants.{User}
use Rattle.ev_terms.specs.Term.{Terms, node}
use Rattle.ev_terms.specs.Substitution.{type_inst, type_at}
use Rattle.ev_typing.specs.declared.typing.Entry.{Entry}
use Rattle.ev_typing.specs.declared.typing.Entry.TheVariants.{Data, Constant, Direct, Recursive}
use Rattle.ev_typing.specs.declared.typing.DataDecl.{DataDecl}
use Rattle.ev_typing.specs.declared.typing.Con.{Con}
use Rattle.ev_typing.specs.declared.typing.Var.{Var}
use Rattle.ev_typing.specs.Profiles.{Profile}
use Rattle.ev_typing.specs.Env.{Env, Name, Symbol, ConOf, DesOf, ConstantOf, DirectOf, RecursiveOf, con_symbols, symbols, symbol_profile, datatypes, find_symbol, find_data}
use Rattle.ev_typing.specs.Typing.{Typed, AreTyped, IsTypedNode, inside}
use Rattle.ev_typing.specs.WellFormed.{IsWellFormed}
use Rattle.ev_typing.proofs.Checks.{inside_none}
use Rattle.ev_typing.proofs.Names.{all_append, name_same}
use Rattle.ev_typing.proofs.Entries.{datatypes_named}
use Rattle.ev_typing.proofs.Wholes.{found_whole}
use Rattle.ev_data.proofs.Environments.{IsGoodCon, look_up_all, found_data_good}
use Rattle.ev_ops.proofs.Basics.{contains_more, contains_first}
use Rattle.ev_sound.proofs.Places.{user_binds}

pub all_at : {X : Type 0} (P : X → Type 0) (xs : List X) (x : X) → AllByRecursion P xs → Contains xs x → P x
all_at {X} P xs x h c = by xs c.0 h c.1 c.2
  where
    by : (ys : List X) (k : ℕ) → AllByRecursion P ys → k < length ys → get_or ys k x ≡ x → P x
    by [] k f l e = absurd (omega (arith, l))
    by (y ∷ ys) zero f l e = let q : y ≡ x = e in transport P q f.0
    by (y ∷ ys) (suc k) f l e = by ys k f.1 (omega (arith, l)) e

pub all_slice : {X : Type 0} (P : X → Type 0) (xs : List X) (i : ℕ) (x : X) → AllByRecursion P xs → slice_get xs i ≡ Some x → P x
all_slice P [] i x h e = cc
all_slice P (y ∷ ys) zero x h e = let q : y ≡ x = cc in transport P q h.0
all_slice P (y ∷ ys) (suc i) x h e = all_slice P ys i x h.1 e

-- Of a destructor: its constructor has the field, and is one of a declared datatype.
pub record IsField (env : Env) (n : Name) (d : DataDecl) (c : Con) (i : ℕ) (f : Var) : Type 0 where
  pub named : f.name ≡ n
  pub field : slice_get c.fields i ≡ Some f
  pub con : Contains d.cons c
  pub decl : Contains env (Data d)

abbrev pub IsNamed : Env → Name → Symbol → Type 0
IsNamed env n (ConOf d c) = ⊤
IsNamed env n (DesOf d c i f) = IsField env n d c i f
IsNamed env n (ConstantOf sig condition) = ⊤
IsNamed env n (DirectOf sig condition body) = ⊤
IsNamed env n (RecursiveOf sig condition place bodies) = sig.name ≡ n

abbrev AreNamed : Env → List (Name × Symbol) → Type 0
AreNamed env ps = AllByRecursion (λ (p : Name × Symbol). IsNamed env p.0 p.1) ps

fields_named : (env : Env) (d : DataDecl) (c : Con) (i : ℕ) (fs : List Var) → Contains d.cons c → Contains env (Data d) → ((j : ℕ) (g : Var) → slice_get fs j ≡ Some g → slice_get c.fields (i + j) ≡ Some g) →
    AreNamed env (map (λ (f : ℕ × Var). (f.1.name, DesOf d c f.0 f.1)) (enumerate_from i fs))
fields_named env d c i [] h k r = tt
fields_named env d c i (f ∷ fs) h k r =
    let z : i + 0 ≡ i = omega arith in (
      record { named = refl; field = transport (λ j. slice_get c.fields j ≡ Some f) z (r 0 f refl); con = h; decl = k },
      fields_named env d c (i + 1) fs h k (λ j g e. let q : i + suc j ≡ i + 1 + j = omega arith in transport (λ m. slice_get c.fields m ≡ Some g) q (r (suc j) g e)),
    )

cons_named : (env : Env) (d : DataDecl) (cs : List Con) → ((c : Con) → Contains cs c → Contains d.cons c) → Contains env (Data d) → AreNamed env (flat_map (con_symbols d) cs)
cons_named env d [] r k = tt
cons_named env d (c ∷ cs) r k =
    all_append (λ (p : Name × Symbol). IsNamed env p.0 p.1) (con_symbols d c) (flat_map (con_symbols d) cs)
    (tt, fields_named env d c 0 c.fields (r c (contains_first c cs)) k (λ j g e. let z : 0 + j ≡ j = omega arith in transport (λ m. slice_get c.fields m ≡ Some g) (sym z) e))
    (cons_named env d cs (λ x h. r x (contains_more x c cs h)) k)

entries_named : (env es : Env) → ((e : Entry) → Contains es e → Contains env e) → AreNamed env (flat_map symbols es)
entries_named env [] r = tt
entries_named env (Data d ∷ es) r =
    all_append (λ (p : Name × Symbol). IsNamed env p.0 p.1) (flat_map (con_symbols d) d.cons) (flat_map symbols es)
    (cons_named env d d.cons (λ c h. h) (r (Data d) (contains_first (Data d) es))) (entries_named env es (λ x h. r x (contains_more x (Data d) es h)))
entries_named env (Constant sig c ∷ es) r = (tt, entries_named env es (λ x h. r x (contains_more x (Constant sig c) es h)))
entries_named env (Direct sig c body ∷ es) r = (tt, entries_named env es (λ x h. r x (contains_more x (Direct sig c body) es h)))
entries_named env (Recursive sig c place bodies ∷ es) r = (refl, entries_named env es (λ x h. r x (contains_more x (Recursive sig c place bodies) es h)))

pub symbol_named : (env : Env) (n : Name) (s : Symbol) → find_symbol env n ≡ Some s → IsNamed env n s
symbol_named env n s e = look_up_all (IsNamed env) (flat_map symbols env) n s (entries_named env env (λ x h. h)) e

-- A constructor of a declared datatype.
pub con_good : (env : Env) → IsWellFormed env → (d : DataDecl) (c : Con) → Contains d.cons c → Contains env (Data d) → IsGoodCon env d c
con_good env w d c h k =
    let q : find_data env d.name ≡ Some d = found_whole datatypes datatypes_named env (Data d) d.name d w.distinct k (ap (λ b. cond b (Some d) None) (name_same d.name)) in
    all_at (IsGoodCon env d) d.cons c (found_data_good env w d.name d q).1 h

-- A call of a user's symbol.
pub typed_call : (env : Env) (D : List Ty) (n : Name) (As : Tys) (ts : Terms) (B : Ty) (s : Symbol) → find_symbol env n ≡ Some s → Typed env D (node (User n) As ts) B →
    IsTypedNode env As (symbol_profile s) B (AreTyped env D ts (map (type_inst (type_at As)) (symbol_profile s).args))
typed_call env D n As ts B s e h =
    transport (λ X. IsTypedNode env As (symbol_profile s) B (AreTyped env X ts (map (type_inst (type_at As)) (symbol_profile s).args))) (sym (inside_none D (User n) As (user_binds n)))
    (transport (λ o. IsSomeAnd (option_map symbol_profile o) (λ (p : Profile). IsTypedNode env As p B (AreTyped env (inside D (User n) As) ts (map (type_inst (type_at As)) p.args)))) e h)

pub call_is_typed : (env : Env) (D : List Ty) (n : Name) (As : Tys) (ts : Terms) (B : Ty) (s : Symbol) → find_symbol env n ≡ Some s →
    IsTypedNode env As (symbol_profile s) B (AreTyped env D ts (map (type_inst (type_at As)) (symbol_profile s).args)) → Typed env D (node (User n) As ts) B
call_is_typed env D n As ts B s e h =
    transport (λ o. IsSomeAnd (option_map symbol_profile o) (λ (p : Profile). IsTypedNode env As p B (AreTyped env (inside D (User n) As) ts (map (type_inst (type_at As)) p.args)))) (sym e)
    (transport (λ X. IsTypedNode env As (symbol_profile s) B (AreTyped env X ts (map (type_inst (type_at As)) (symbol_profile s).args))) (inside_none D (User n) As (user_binds n)) h)
