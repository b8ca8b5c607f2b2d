-- What an environment says of a name.
use Rattle.std.specs.Prelude.{◌≡◌, ◌||◌, Bool, true, false, cond, List, [], ◌∷◌, Option, Some, None, map, length, bytes_eq, is_some, option_map, refl}
use Rattle.std.specs.Option.{option_and_then}
use Rattle.std.specs.List.{list_any}
use Rattle.std.proofs.Common.{ap, sym, ◌∙◌}
use Rattle.std.proofs.lemmas.List.Folds.{list_any-append}
use Rattle.ev_terms.specs.declared.types.Sym.TheVariants.{User}
use Rattle.ev_typing.specs.declared.typing.Entry.{Entry}
use Rattle.ev_typing.specs.declared.typing.DataDecl.{DataDecl}
use Rattle.ev_typing.specs.Profiles.{Profile}
use Rattle.ev_typing.specs.Env.{Env, Name, Symbol, look_up, declares, declaring, datatypes, symbols, find_data, find_symbol, symbol_profile, profile}
use Rattle.ev_typing.specs.WellFormed.{IsWellFormed}
use Rattle.ev_typing.proofs.Names.{apart_flip, same_name, name_same}
use Rattle.ev_typing.proofs.Entries.{find_data-declaring, find_symbol-declaring}
use Rattle.ev_resolve.specs.UsedNames.{is_formula_name}
use Rattle.ev_resolve.specs.Resolve.{known_of}

pub flip : (m n : Name) → bytes_eq m n ≡ bytes_eq n m
flip m n = go (bytes_eq m n) refl
  where
    go : (b : Bool) → bytes_eq m n ≡ b → b ≡ bytes_eq n m
    go true e = sym (ap (λ x. bytes_eq n x) (same_name m n e) ∙ name_same n)
    go false e = sym (apart_flip m n e)

found_named : {X : Type 0} (ps : List (Name × X)) (n : Name) → is_some (look_up ps n) ≡ list_any (bytes_eq n) (map (λ (p : Name × X). p.0) ps)
found_named {X = X} [] n = refl
found_named {X = X} (p ∷ ps) n = go (bytes_eq p.0 n) (flip p.0 n) (found_named ps n)
  where
    go : (b : Bool) → b ≡ bytes_eq n p.0 → is_some (look_up ps n) ≡ list_any (bytes_eq n) (map (λ (q : Name × X). q.0) ps) → is_some (cond b (Some p.1) (look_up ps n)) ≡ (bytes_eq n p.0 || list_any (bytes_eq n) (map (λ (q : Name × X). q.0) ps))
    go true e h = ap (λ c. c || list_any (bytes_eq n) (map (λ (q : Name × X). q.0) ps)) e
    go false e h = h ∙ ap (λ c. c || list_any (bytes_eq n) (map (λ (q : Name × X). q.0) ps)) e

entry_named : (e : Entry) (n : Name) → (is_some (look_up (datatypes e) n) || is_some (look_up (symbols e) n)) ≡ declares n e
entry_named e n =
    ap (λ b. b || is_some (look_up (symbols e) n)) (found_named (datatypes e) n) ∙ ap (λ b. list_any (bytes_eq n) (map (λ (p : Name × DataDecl). p.0) (datatypes e)) || b) (found_named (symbols e) n)
    ∙ sym (list_any-append (bytes_eq n) (map (λ (p : Name × DataDecl). p.0) (datatypes e)) (map (λ (p : Name × Symbol). p.0) (symbols e)))

found_declares : (env : Env) (n : Name) (e : Entry) → declaring env n ≡ Some e → declares n e ≡ true
found_declares [] n e h = cc
found_declares (d ∷ ds) n e h = go (declares n d) refl (found_declares ds n e) h
  where
    go : (b : Bool) → declares n d ≡ b → (declaring ds n ≡ Some e → declares n e ≡ true) → cond b (Some d) (declaring ds n) ≡ Some e → declares n e ≡ true
    go true q k h = let i : d ≡ e = cc in ap (declares n) (sym i) ∙ q
    go false q k h = k h

some_map : {X Y : Type 0} (f : X → Y) (o : Option X) → is_some (option_map f o) ≡ is_some o
some_map f None = refl
some_map f (Some x) = refl

declared_is : (env : Env) (n : Name) → IsWellFormed env → is_some (declaring env n) ≡ (is_some (find_data env n) || is_some (find_symbol env n))
declared_is env n w = go (declaring env n) refl ∙ sym (ap (λ o. is_some o || is_some (find_symbol env n)) (find_data-declaring env n w) ∙ ap (λ o. is_some (option_and_then (λ e. look_up (datatypes e) n) (declaring env n)) || is_some o) (find_symbol-declaring env n w))
  where
    go : (o : Option Entry) → declaring env n ≡ o → is_some (declaring env n) ≡ (is_some (option_and_then (λ e. look_up (datatypes e) n) (declaring env n)) || is_some (option_and_then (λ e. look_up (symbols e) n) (declaring env n)))
    go None q = ap is_some q ∙ sym (ap (λ o. is_some (option_and_then (λ e. look_up (datatypes e) n) o) || is_some (option_and_then (λ e. look_up (symbols e) n) o)) q)
    go (Some e) q =
        ap is_some q ∙ sym (found_declares env n e q) ∙ sym (entry_named e n)
        ∙ sym (ap (λ o. is_some (option_and_then (λ e. look_up (datatypes e) n) o) || is_some (option_and_then (λ e. look_up (symbols e) n) o)) q)

pub formula_other : (env : Env) (params : List Name) (n : Name) → IsWellFormed env → false ≡ list_any (bytes_eq n) params → is_some (declaring env n) ≡ is_formula_name params (known_of env) n
formula_other env params n w h =
    declared_is env n w
    ∙ ap (λ b. is_some (find_data env n) || b) (sym (some_map (λ (p : Profile). length p.args) (profile env (User n)) ∙ some_map symbol_profile (find_symbol env n)))
    ∙ ap (λ b. b || (is_some (find_data env n) || is_some (option_map (λ (p : Profile). length p.args) (profile env (User n))))) h

pub formula_param : (env : Env) (params : List Name) (n : Name) → true ≡ list_any (bytes_eq n) params → true ≡ is_formula_name params (known_of env) n
formula_param env params n h = ap (λ b. b || (is_some (find_data env n) || is_some (option_map (λ (p : Profile). length p.args) (profile env (User n))))) h

pub ruleset walk = (formula_other, formula_param)
