-- A name that an element declares, as one more type parameter and as an entry: which names are formula names is the same.
use Rattle.std.specs.Prelude.{◌≡◌, ◌||◌, ◌++◌, ℕ, Bool, true, false, cond, List, [], ◌∷◌, Option, Some, None, length, flat_map, bytes_eq, is_some, option_map, refl}
use Rattle.std.proofs.Common.{ap, sym, ◌∙◌}
use Rattle.std.proofs.lemmas.List.Folds.{list_any-append}
use Rattle.std.proofs.lemmas.Grind.{flat_map-append}
use Rattle.ev_terms.specs.declared.types.Ty.{Prop}
use Rattle.ev_terms.specs.declared.types.Tys.{Empty}
use Rattle.ev_terms.specs.declared.types.Sym.TheVariants.{User}
use Rattle.ev_typing.specs.declared.typing.Entry.{Entry}
use Rattle.ev_typing.specs.declared.typing.Entry.TheVariants as entry
use Rattle.ev_typing.specs.declared.typing.DataDecl.{DataDecl}
use Rattle.ev_typing.specs.declared.typing.Signature.{Signature}
use Rattle.ev_typing.specs.Profiles.{Profile}
use Rattle.ev_typing.specs.Env.{Env, Name, ConstantOf, look_up, datatypes, symbols, find_data, find_symbol, symbol_profile, profile}
use Rattle.ev_resolve.specs.UsedNames.{is_formula_name, is_name_among}
use Rattle.ev_resolve.specs.Resolve.{known_of}
use Rattle.ev_resolve.proofs.Declared.{flip}
use Rattle.ev_elab.specs.Types.{with_data}
use Rattle.ev_elab.specs.Parts.{with_name}
use Rattle.ev_elab.specs.Unknown.{is_known}

found_append : {X : Type 0} (ps qs : List (Name × X)) (m : Name) → is_some (look_up (ps ++ qs) m) ≡ (is_some (look_up ps m) || is_some (look_up qs m))
found_append {X = X} [] qs m = refl
found_append {X = X} (p ∷ ps) qs m = go (bytes_eq p.0 m) (found_append ps qs m)
  where
    go : (b : Bool) → is_some (look_up (ps ++ qs) m) ≡ (is_some (look_up ps m) || is_some (look_up qs m))
        → is_some (cond b (Some p.1) (look_up (ps ++ qs) m)) ≡ (is_some (cond b (Some p.1) (look_up ps m)) || is_some (look_up qs m))
    go true h = refl
    go false h = h

some_cond : {X : Type 0} (x : X) (b : Bool) → is_some (cond b (Some x) None) ≡ b
some_cond x true = refl
some_cond x false = refl

one_found : {X : Type 0} (n : Name) (x : X) (m : Name) → is_some (look_up ((n, x) ∷ []) m) ≡ bytes_eq m n
one_found n x m = some_cond x (bytes_eq n m) ∙ flip n m

some_map : {X Y : Type 0} (f : X → Y) (o : Option X) → is_some (option_map f o) ≡ is_some o
some_map f None = refl
some_map f (Some x) = refl

counted : (env : Env) (m : Name) → is_some ((known_of env).argument_count m) ≡ is_some (find_symbol env m)
counted env m = some_map (λ (p : Profile). length p.args) (profile env (User m)) ∙ some_map symbol_profile (find_symbol env m)

data_more : (env : Env) (e : Entry) (m : Name) → is_some (find_data (env ++ e ∷ []) m) ≡ (is_some (find_data env m) || is_some (look_up (datatypes e ++ []) m))
data_more env e m = ap (λ l. is_some (look_up l m)) (flat_map-append datatypes env (e ∷ [])) ∙ found_append (flat_map datatypes env) (datatypes e ++ []) m

symbol_more : (env : Env) (e : Entry) (m : Name) → is_some ((known_of (env ++ e ∷ [])).argument_count m) ≡ (is_some ((known_of env).argument_count m) || is_some (look_up (symbols e ++ []) m))
symbol_more env e m =
    counted (env ++ e ∷ []) m
    ∙ ap (λ l. is_some (look_up l m)) (flat_map-append symbols env (e ∷ []))
    ∙ found_append (flat_map symbols env) (symbols e ++ []) m
    ∙ ap (λ b. b || is_some (look_up (symbols e ++ []) m)) (sym (counted env m))

or_data : (a b d s : Bool) → ((a || (b || false)) || (d || s)) ≡ (a || ((d || b) || (s || false)))
or_data true b d s = refl
or_data false true true s = refl
or_data false true false s = refl
or_data false false true s = refl
or_data false false false true = refl
or_data false false false false = refl

or_constant : (a b d s : Bool) → ((a || (b || false)) || (d || s)) ≡ (a || ((d || false) || (s || b)))
or_constant true b d s = refl
or_constant false true true s = refl
or_constant false true false true = refl
or_constant false true false false = refl
or_constant false false true s = refl
or_constant false false false true = refl
or_constant false false false false = refl

param_more : (params : List Name) (env : Env) (n m : Name) → is_formula_name (params ++ n ∷ []) (known_of env) m
    ≡ ((is_name_among params m || (bytes_eq m n || false)) || (is_some (find_data env m) || is_some ((known_of env).argument_count m)))
param_more params env n m = ap (λ b. b || (is_some (find_data env m) || is_some ((known_of env).argument_count m))) (list_any-append (bytes_eq m) params (n ∷ []))

entry_more : (params : List Name) (env : Env) (e : Entry) (m : Name) → is_known params (env ++ e ∷ []) m
    ≡ (is_name_among params m || ((is_some (find_data env m) || is_some (look_up (datatypes e ++ []) m)) || (is_some ((known_of env).argument_count m) || is_some (look_up (symbols e ++ []) m))))
entry_more params env e m =
    ap (λ b. is_name_among params m || (b || is_some ((known_of (env ++ e ∷ [])).argument_count m))) (data_more env e m)
    ∙ ap (λ b. is_name_among params m || ((is_some (find_data env m) || is_some (look_up (datatypes e ++ []) m)) || b)) (symbol_more env e m)

pub known_data : (params : List Name) (env : Env) (n : Name) (k : ℕ) (m : Name) → is_formula_name (params ++ n ∷ []) (known_of env) m ≡ is_known params (with_data env n k) m
known_data params env n k m =
    let d : DataDecl = record { name = n; params = k; cons = [] } in
    param_more params env n m
    ∙ or_data (is_name_among params m) (bytes_eq m n) (is_some (find_data env m)) (is_some ((known_of env).argument_count m))
    ∙ ap (λ b. is_name_among params m || ((is_some (find_data env m) || b) || (is_some ((known_of env).argument_count m) || false))) (sym (one_found n d m))
    ∙ sym (entry_more params env (entry.Data d) m)

pub known_name : (params : List Name) (env : Env) (n m : Name) → is_formula_name (params ++ n ∷ []) (known_of env) m ≡ is_known params (with_name env n) m
known_name params env n m =
    let sig : Signature = record { name = n; params = 0; args = Empty; result = Prop } in
    param_more params env n m
    ∙ or_constant (is_name_among params m) (bytes_eq m n) (is_some (find_data env m)) (is_some ((known_of env).argument_count m))
    ∙ ap (λ b. is_name_among params m || ((is_some (find_data env m) || false) || (is_some ((known_of env).argument_count m) || b))) (sym (one_found n (ConstantOf sig None) m))
    ∙ sym (entry_more params env (entry.Constant sig None) m)
