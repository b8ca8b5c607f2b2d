-- A name that is not taken is declared by no entry.
use Rattle.std.specs.Prelude.{◌≡◌, ◌||◌, ◌++◌, Bool as Boolean, true, false, cond, List, [], ◌∷◌, Option, Some, None, map, flat_map, option_map, is_some, bytes_eq, refl}
use Rattle.std.specs.List.{AllByRecursion, IsDistinct, list_any}
use Rattle.std.proofs.Common.{ap, ◌∙◌, subst as transport, true≢false}
use Rattle.std.proofs.lemmas.List.Folds.{list_any-append}
use Rattle.ev_terms.specs.declared.types.Sym.TheVariants.{User}
use Rattle.ev_theory_text.specs.declared.forms.ElementForm.{ElementForm}
use Rattle.ev_typing.specs.declared.typing.Entry.{Entry}
use Rattle.ev_typing.specs.declared.typing.DataDecl.{DataDecl}
use Rattle.ev_typing.specs.Env.{Env, Name, Symbol, look_up, datatypes, symbols, names, declares, declaring, find_data, find_symbol, symbol_profile, profile}
use Rattle.ev_typing.specs.WellFormed.{HasNewNames}
use Rattle.ev_typing.proofs.Names.{apart_flip}
use Rattle.ev_resolve.specs.UsedNames.{is_name_among}
use Rattle.ev_elab.specs.Unknown.{is_known}
use Rattle.ev_elab.specs.Taken.{declared_formulas, declared_labels, repeats}
use Rattle.ev_elab.specs.States.{State, labels, own_names}
use Rattle.ev_elab.specs.Names.{has_taken}
use Rattle.ev_elab.proofs.Gathering.{or_none, any_none}

-- What is not found is not there.
cond_none : {X : Type 0} (b : Boolean) (x : X) (o : Option X) → cond b (Some x) o ≡ None → (b ≡ false) × (o ≡ None)
cond_none true x o e = cc
cond_none false x o e = (refl, e)

not_there : {X : Type 0} (ps : List (Name × X)) (n : Name) → look_up ps n ≡ None → list_any (bytes_eq n) (map (λ (p : Name × X). p.0) ps) ≡ false
not_there [] n e = refl
not_there (p ∷ ps) n e =
    let q = cond_none (bytes_eq p.0 n) p.1 (look_up ps n) e in
    ap (λ b. b || list_any (bytes_eq n) (map (λ r. r.0) ps)) (apart_flip p.0 n q.0) ∙ not_there ps n q.1

look_up_parts : {X : Type 0} (ps qs : List (Name × X)) (n : Name) → look_up (ps ++ qs) n ≡ None → (look_up ps n ≡ None) × (look_up qs n ≡ None)
look_up_parts [] qs n e = (refl, e)
look_up_parts (p ∷ ps) qs n e =
    let r = cond_none (bytes_eq p.0 n) p.1 (look_up (ps ++ qs) n) e in
    let s = look_up_parts ps qs n r.1 in
    (ap (λ b. cond b (Some p.1) (look_up ps n)) r.0 ∙ s.0, s.1)

pub nothing_declares : (env : Env) (n : Name) → find_data env n ≡ None → find_symbol env n ≡ None → declaring env n ≡ None
nothing_declares [] n d s = refl
nothing_declares (e ∷ es) n d s =
    let p = look_up_parts (datatypes e) (flat_map datatypes es) n d in
    let q = look_up_parts (symbols e) (flat_map symbols es) n s in
    let no : declares n e ≡ false =
    list_any-append (bytes_eq n) (map (λ (r : Name × DataDecl). r.0) (datatypes e)) (map (λ (r : Name × Symbol). r.0) (symbols e))
    ∙ ap (λ b. b || list_any (bytes_eq n) (map (λ (r : Name × Symbol). r.0) (symbols e))) (not_there (datatypes e) n p.0) ∙ not_there (symbols e) n q.0 in
    ap (λ b. cond b (Some e) (declaring es n)) no ∙ nothing_declares es n p.1 q.1

none_of : {X : Type 0} (o : Option X) → is_some o ≡ false → o ≡ None
none_of None e = refl
none_of (Some x) e = absurd (true≢false e)

none_of_map : {X Y : Type 0} (f : X → Y) (o : Option X) → is_some (option_map f o) ≡ false → o ≡ None
none_of_map f None e = refl
none_of_map f (Some x) e = absurd (true≢false e)

pub unknown_new : (params : List Name) (env : Env) (n : Name) → is_known params env n ≡ false → declaring env n ≡ None
unknown_new params env n e =
    let p = or_none (is_name_among params n) _ e in
    let q = or_none (is_some (find_data env n)) _ p.1 in
    let r : profile env (User n) ≡ None = none_of_map _ (profile env (User n)) q.1 in
    nothing_declares env n (none_of (find_data env n) q.0) (none_of_map symbol_profile (find_symbol env n) (ap is_some r))

-- What a form declares.
pub record AreFree (env : Env) (ns : List Name) : Type 0 where
  pub new : AllByRecursion (λ n. declaring env n ≡ None) ns
  pub different : IsDistinct bytes_eq ns

distinct : (ns : List Name) → repeats ns ≡ false → IsDistinct bytes_eq ns
unfolding IsDistinct
distinct [] e = tt
distinct (n ∷ ns) e = let p = or_none (is_name_among ns n) (repeats ns) e in (any_none (bytes_eq n) ns p.0, distinct ns p.1)

each_new : (params : List Name) (env : Env) (taken : List Name) (ns : List Name) → AllByRecursion (λ n. (is_known params env n || is_name_among taken n) ≡ false) ns → AllByRecursion (λ n. declaring env n ≡ None) ns
each_new params env taken [] h = tt
each_new params env taken (n ∷ ns) h = (unknown_new params env n (or_none (is_known params env n) (is_name_among taken n) h.0).0, each_new params env taken ns h.1)

pub declared_free : (s : State) (form : ElementForm) → has_taken s form ≡ false → AreFree s.env (declared_formulas form)
declared_free s form e =
    let known = list_any (λ n. is_known s.params s.env n || is_name_among (labels s.elements) n) (declared_formulas form) in
    let a = or_none known _ e in
    let b = or_none (list_any (λ n. is_name_among (labels s.elements) n || is_name_among (own_names s.elements) n) (declared_labels form)) _ a.1 in
    let c = or_none (list_any _ (declared_formulas form ++ declared_labels form)) _ b.1 in
    let d = or_none (repeats (declared_formulas form)) _ c.1 in
    record {
      new = each_new s.params s.env (labels s.elements) (declared_formulas form) (any_none _ (declared_formulas form) a.0);
      different = distinct (declared_formulas form) d.0;
    }

pub new_names : (env : Env) (e : Entry) (ns : List Name) → ns ≡ names e → AreFree env ns → HasNewNames env e
new_names env e ns q h = record { new = transport (AllByRecursion (λ n. declaring env n ≡ None)) q h.new; different = transport (IsDistinct bytes_eq) q h.different }
