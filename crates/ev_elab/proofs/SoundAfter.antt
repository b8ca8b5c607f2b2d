-- A sound environment is sound with an element that may follow.
use Rattle.std.specs.Prelude.{◌≡◌, ◌++◌, ℕ, List, [], ◌∷◌, Option, Some, None, option_map, slice_get, IsSomeAnd, refl}
use Rattle.std.specs.List.{AllByRecursion, AllZip}
use Rattle.std.proofs.Common.{ap, sym, ◌∙◌, subst as transport}
use Rattle.ev_terms.specs.declared.types.Ty.{Ty, Int, Bool, Prop, Param, Data as DataType}
use Rattle.ev_terms.specs.declared.types.Tys.{Tys}
use Rattle.ev_terms.specs.Types.{pow, prod, type_list}
use Rattle.ev_typing.specs.declared.typing.Entry.{Entry}
use Rattle.ev_typing.specs.declared.typing.Entry.TheVariants as entry
use Rattle.ev_typing.specs.declared.typing.Signature.{Signature}
use Rattle.ev_typing.specs.declared.typing.DataDecl.{DataDecl}
use Rattle.ev_typing.specs.Env.{Env, find_data}
use Rattle.ev_typing.specs.WellFormed.{data_of, inductive_data}
use Rattle.ev_typing.proofs.Names.{all_append, well_formed_with}
use Rattle.ev_typing.proofs.Wholes.{HasAll}
use Rattle.ev_data.specs.Guarded.{IsGuardedBody}
use Rattle.ev_data.specs.Sound.{IsAdmittedEntry, IsSound}
use Rattle.ev_rules.specs.declared.elements.Element.{Element}
use Rattle.ev_ops.specs.Entries.{entry_of, with_entry, with_element}
use Rattle.ev_ops.specs.Formulas.{IsNewEntry, MayFollow}
use Rattle.ev_elab.proofs.Wider.{more_has_all}

-- The datatype that a type is stays.
pub data_of_over : (e f : Env) → HasAll e f → (o : Option Ty) (p : DataDecl × Tys) → data_of e o ≡ Some p → data_of f o ≡ Some p
data_of_over e f k None p h = cc
data_of_over e f k (Some Int) p h = cc
data_of_over e f k (Some Bool) p h = cc
data_of_over e f k (Some Prop) p h = cc
data_of_over e f k (Some (Param i)) p h = cc
data_of_over e f k (Some (pow A)) p h = cc
data_of_over e f k (Some (prod A B)) p h = cc
data_of_over e f k (Some (DataType n As)) p h = by (find_data e n) refl h
  where
    by : (o : Option DataDecl) → find_data e n ≡ o → option_map (λ d. (d, As)) o ≡ Some p → option_map (λ d. (d, As)) (find_data f n) ≡ Some p
    by None q g = cc
    by (Some d) q g = ap (option_map (λ x. (x, As))) (k.decls n d q) ∙ g

pub inductive_over : (e f : Env) → HasAll e f → (sig : Signature) (place : ℕ) (p : DataDecl × Tys) → inductive_data e sig place ≡ Some p → inductive_data f sig place ≡ Some p
inductive_over e f k sig place p h = data_of_over e f k (slice_get (type_list sig.args) place) p h

pub some_over : {X : Type 0} (P : X → Type 0) (o r : Option X) → ((x : X) → o ≡ Some x → r ≡ Some x) → IsSomeAnd o P → IsSomeAnd r P
some_over P None r k h = absurd h
some_over P (Some x) r k h = transport (λ q. IsSomeAnd q P) (sym (k x refl)) h

-- Entries stay admitted.
entry_over : (e f : Env) → HasAll e f → (d : Entry) → IsAdmittedEntry e d → IsAdmittedEntry f d
entry_over e f k (entry.Data d) h = h
entry_over e f k (entry.Constant sig c) h = tt
entry_over e f k (entry.Direct sig c body) h = tt
entry_over e f k (entry.Recursive sig c place bodies) h =
    some_over (λ (p : DataDecl × Tys). AllZip (IsGuardedBody sig place p.0 p.1) p.0.cons bodies) (inductive_data e sig place) (inductive_data f sig place) (inductive_over e f k sig place) h

entries_over : (e f : Env) → HasAll e f → (ds : List Entry) → AllByRecursion (IsAdmittedEntry e) ds → AllByRecursion (IsAdmittedEntry f) ds
entries_over e f k [] h = tt
entries_over e f k (d ∷ ds) h = (entry_over e f k d h.0, entries_over e f k ds h.1)

sound_with : (env : Env) → IsSound env → (o : Option Entry) → IsNewEntry env o → IsSound (with_entry env o)
sound_with env u None h = u
sound_with env u (Some e) h =
    let w = well_formed_with env e u.well_formed h.0 h.1 in
    record {
      well_formed = w;
      admitted = all_append (IsAdmittedEntry (env ++ e ∷ [])) env (e ∷ []) (entries_over env (env ++ e ∷ []) (more_has_all env e w) env u.admitted) (h.2, tt);
    }

pub sound_after : (env : Env) → IsSound env → (e : Element) → MayFollow env e → IsSound (with_element env e)
sound_after env u e h = sound_with env u (entry_of env e) h.0
