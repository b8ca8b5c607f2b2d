-- The base of a well-formed environment is well formed.
use Rattle.std.specs.Prelude.{◌≡◌, ◌++◌, ℕ, List, [], ◌∷◌, Option, Some, None, flat_map, slice_get, bytes_eq, option_map, IsSomeAnd, refl}
use Rattle.std.specs.List.{AllByRecursion, AllZip, IsDistinct}
use Rattle.std.proofs.Common.{ap, sym, ◌∙◌, subst as transport}
use Rattle.std.proofs.lemmas.List.Elements.{filter_map-append}
use Rattle.ev_terms.specs.declared.types.Ty.{Ty, Int, Bool, Prop, Param, Data as DataType}
use Rattle.ev_terms.specs.declared.types.Tys.{Tys}
use Rattle.ev_terms.specs.Types.{pow, prod, type_list}
use Rattle.ev_terms.specs.Term.{Term}
use Rattle.ev_typing.specs.declared.typing.Entry.{Entry}
use Rattle.ev_typing.specs.declared.typing.Entry.TheVariants.{Data, Constant, Direct, Recursive}
use Rattle.ev_typing.specs.declared.typing.Signature.{Signature}
use Rattle.ev_typing.specs.declared.typing.DataDecl.{DataDecl}
use Rattle.ev_typing.specs.declared.typing.Con.{Con}
use Rattle.ev_typing.specs.Env.{Env, Name, names, field_types}
use Rattle.ev_typing.specs.Parts.{base_entry, base}
use Rattle.ev_typing.specs.Typing.{IsProper}
use Rattle.ev_typing.specs.WellFormed.{AreGoodAfter, AreGoodFields, IsGoodSignature, IsGoodBody, AreGoodBodies, inductive_data, data_of, case_context}
use Rattle.ev_typing.proofs.Entries.{distinct_right}
use Rattle.ev_ops.specs.UnfoldLaws.{BaseIsWellFormed}
use Rattle.ev_ops.proofs.Basics.{append_nil}
use Rattle.ev_ops.proofs.Basing.{find_data_base, proper_base, all_proper_base, result_base, typed_base, plain_base}

-- Names.
all_replace : (P : Name → Type 0) (ns rest rest' : List Name) → (AllByRecursion P rest → AllByRecursion P rest') → AllByRecursion P (ns ++ rest) → AllByRecursion P (ns ++ rest')
all_replace P [] rest rest' f h = f h
all_replace P (n ∷ ns) rest rest' f h = (h.0, all_replace P ns rest rest' f h.1)

all_behind : (P : Name → Type 0) (ns rest : List Name) → AllByRecursion P (ns ++ rest) → AllByRecursion P rest
all_behind P [] rest h = h
all_behind P (n ∷ ns) rest h = all_behind P ns rest h.1

all_names : (P : Name → Type 0) (env : Env) → AllByRecursion P (flat_map names env) → AllByRecursion P (flat_map names (base env))
all_names P [] h = h
all_names P (Data d ∷ env) h = all_replace P (names (Data d)) (flat_map names env) (flat_map names (base env)) (all_names P env) h
all_names P (Constant sig c ∷ env) h = all_replace P (names (Constant sig c)) (flat_map names env) (flat_map names (base env)) (all_names P env) h
all_names P (Direct sig c body ∷ env) h = all_names P env (all_behind P (names (Direct sig c body)) (flat_map names env) h)
all_names P (Recursive sig c place bodies ∷ env) h = all_replace P (names (Recursive sig c place bodies)) (flat_map names env) (flat_map names (base env)) (all_names P env) h

distinct_prefix : (ns rest rest' : List Name) → ((P : Name → Type 0) → AllByRecursion P rest → AllByRecursion P rest') → (IsDistinct bytes_eq rest → IsDistinct bytes_eq rest') → IsDistinct bytes_eq (ns ++ rest) →
    IsDistinct bytes_eq (ns ++ rest')
unfolding IsDistinct
distinct_prefix [] rest rest' f g d = g d
distinct_prefix (n ∷ ns) rest rest' f g d = (all_replace _ ns rest rest' (f _) d.0, distinct_prefix ns rest rest' f g d.1)

distinct_base : (env : Env) → IsDistinct bytes_eq (flat_map names env) → IsDistinct bytes_eq (flat_map names (base env))
distinct_base [] d = d
distinct_base (Data e ∷ env) d = distinct_prefix (names (Data e)) (flat_map names env) (flat_map names (base env)) (λ P. all_names P env) (distinct_base env) d
distinct_base (Constant sig c ∷ env) d = distinct_prefix (names (Constant sig c)) (flat_map names env) (flat_map names (base env)) (λ P. all_names P env) (distinct_base env) d
distinct_base (Direct sig c body ∷ env) d = distinct_base env (distinct_right (names (Direct sig c body)) (flat_map names env) d)
distinct_base (Recursive sig c place bodies ∷ env) d = distinct_prefix (names (Recursive sig c place bodies)) (flat_map names env) (flat_map names (base env)) (λ P. all_names P env) (distinct_base env) d

-- Entries.
all_types_base : (env : Env) (As : List Ty) → AllByRecursion (IsProper env) As → AllByRecursion (IsProper (base env)) As
all_types_base env [] p = tt
all_types_base env (A ∷ As) p = (proper_base env A p.0, all_types_base env As p.1)

fields_base : (env : Env) (n : ℕ) (cs : List Con) → AllByRecursion (AreGoodFields env n) cs → AllByRecursion (AreGoodFields (base env) n) cs
fields_base env n [] h = tt
fields_base env n (c ∷ cs) h = (record { count = h.0.count; proper = all_types_base env (field_types c) h.0.proper; parameters = h.0.parameters }, fields_base env n cs h.1)

signature_base : (env : Env) (sig : Signature) → IsGoodSignature env sig → IsGoodSignature (base env) sig
signature_base env sig h = record {
  count = h.count;
  args = all_proper_base env sig.args h.args;
  result = result_base env sig.result h.result;
  args_parameters = h.args_parameters;
  result_parameters = h.result_parameters;
  used = h.used;
}

pub data_of_base : (env : Env) (o : Option Ty) → data_of (base env) o ≡ data_of env o
data_of_base env None = refl
data_of_base env (Some Int) = refl
data_of_base env (Some Bool) = refl
data_of_base env (Some Prop) = refl
data_of_base env (Some (Param i)) = refl
data_of_base env (Some (pow A)) = refl
data_of_base env (Some (prod A B)) = refl
data_of_base env (Some (DataType n As)) = ap (option_map (λ (d : DataDecl). (d, As))) (find_data_base env n)

zip_map : {X Y : Type 0} (P Q : X → Y → Type 0) → ((x : X) (y : Y) → P x y → Q x y) → (xs : List X) (ys : List Y) → AllZip P xs ys → AllZip Q xs ys
zip_map P Q f [] [] z = tt
zip_map P Q f [] (y ∷ ys) z = z
zip_map P Q f (x ∷ xs) [] z = z
zip_map P Q f (x ∷ xs) (y ∷ ys) z = (f x y z.0, zip_map P Q f xs ys z.1)

body_base : (env : Env) (sig : Signature) (place : ℕ) (As : Tys) (c : Con) (body : Term) → IsGoodBody env sig place As c body → IsGoodBody (base env) sig place As c body
body_base env sig place As c body h = record {
  term = record { typed = typed_base env body (case_context sig place As c) sig.result h.term.typed h.plain; parameters = h.term.parameters; shallow = h.term.shallow };
  plain = plain_base env body;
}

bodies_base : (env : Env) (sig : Signature) (place : ℕ) (bodies : List Term) → AreGoodBodies env sig place bodies → AreGoodBodies (base env) sig place bodies
bodies_base env sig place bodies h =
    transport (λ o. IsSomeAnd o (λ (p : DataDecl × Tys). AllZip (IsGoodBody (base env) sig place p.1) p.0.cons bodies)) (sym (data_of_base env (slice_get (type_list sig.args) place)))
    (mapped (inductive_data env sig place) h)
  where
    mapped : (o : Option (DataDecl × Tys)) → IsSomeAnd o (λ p. AllZip (IsGoodBody env sig place p.1) p.0.cons bodies) → IsSomeAnd o (λ p. AllZip (IsGoodBody (base env) sig place p.1) p.0.cons bodies)
    mapped None k = k
    mapped (Some p) k = zip_map (IsGoodBody env sig place p.1) (IsGoodBody (base env) sig place p.1) (body_base env sig place p.1) p.0.cons bodies k

longer : (e : Env) (d d' : Entry) → base (d ∷ []) ≡ d' ∷ [] → base (e ++ d ∷ []) ≡ base e ++ d' ∷ []
longer e d d' h = filter_map-append base_entry e (d ∷ []) ∙ ap (λ x. base e ++ x) h

good_base : (e r : Env) → AreGoodAfter e r → AreGoodAfter (base e) (base r)
good_base e [] h = tt
good_base e (Data d ∷ r) h = (
  transport (λ x. AllByRecursion (AreGoodFields x d.params) d.cons) (longer e (Data d) (Data d) refl) (fields_base (e ++ Data d ∷ []) d.params d.cons h.0),
  transport (λ x. AreGoodAfter x (base r)) (longer e (Data d) (Data d) refl) (good_base (e ++ Data d ∷ []) r h.1),
)
good_base e (Constant sig c ∷ r) h = (
  record { signature = signature_base e sig h.0.signature; condition_good = tt; bodies = tt },
  transport (λ x. AreGoodAfter x (base r)) (longer e (Constant sig c) (Constant sig None) refl) (good_base (e ++ Constant sig c ∷ []) r h.1),
)
good_base e (Direct sig c body ∷ r) h =
    transport (λ x. AreGoodAfter x (base r)) (filter_map-append base_entry e (Direct sig c body ∷ []) ∙ append_nil (base e)) (good_base (e ++ Direct sig c body ∷ []) r h.1)
good_base e (Recursive sig c place bodies ∷ r) h = (
  record {
    signature = signature_base e sig h.0.signature;
    condition_good = tt;
    bodies = transport (λ x. AreGoodBodies x sig place bodies) (longer e (Recursive sig c place bodies) (Recursive sig None place bodies) refl) (bodies_base (e ++ Recursive sig c place bodies ∷ []) sig place bodies h.0.bodies);
  },
  transport (λ x. AreGoodAfter x (base r)) (longer e (Recursive sig c place bodies) (Recursive sig None place bodies) refl) (good_base (e ++ Recursive sig c place bodies ∷ []) r h.1),
)

pub base_well_formed : BaseIsWellFormed
base_well_formed env w = record { distinct = distinct_base env w.distinct; entries = good_base [] env w.entries }
