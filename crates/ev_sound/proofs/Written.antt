-- The bodies of a recursive operator as they are written, and those of its entry.
use Rattle.std.specs.Prelude.{◌≡◌, ◌++◌, ◌<◌, ℕ, zero, suc, Bool as Boolean, true, false, List, [], ◌∷◌, Option, Some, None, map, length, get_or, cond, bytes_eq, Contains, refl}
use Rattle.std.specs.List.{AllZip}
use Rattle.std.proofs.Common.{ap, sym, ◌∙◌, subst as transport, append_assoc, arith}
use Rattle.ev_terms.specs.Term.{Term}
use Rattle.ev_typing.specs.declared.typing.Entry.{Entry}
use Rattle.ev_typing.specs.declared.typing.Entry.TheVariants as entry
use Rattle.ev_typing.specs.declared.typing.Signature.{Signature}
use Rattle.ev_typing.specs.declared.typing.Con.{Con}
use Rattle.ev_typing.specs.Env.{Env, Name, RecursiveOf, look_up, symbols, find_symbol}
use Rattle.ev_typing.specs.Parts.{IsPartOf}
use Rattle.ev_typing.specs.WellFormed.{IsWellFormed, AreGoodAfter}
use Rattle.ev_typing.proofs.Names.{name_same}
use Rattle.ev_typing.proofs.Entries.{symbols_named}
use Rattle.ev_typing.proofs.Wholes.{found_whole}
use Rattle.ev_data.specs.Closed.{cases_by_name}
use Rattle.ev_rules.specs.declared.elements.Element.{Element}
use Rattle.ev_rules.specs.declared.elements.Element.TheVariants.{Recursive}
use Rattle.ev_ops.specs.Unfold.{unfolded}
use Rattle.ev_ops.specs.Entries.{entry_of, with_entry, with_element, with_elements}
use Rattle.ev_ops.proofs.Basics.{append_nil, contains_more, contains_first}
use Rattle.ev_ops.proofs.Fitting.{contains_front}
use Rattle.ev_ops.proofs.Keeping.{front_distinct}

-- The first entries.
good_front : (p e r : Env) → AreGoodAfter p (e ++ r) → AreGoodAfter p e
good_front p [] r h = tt
good_front p (d ∷ e) r h = (h.0, good_front (p ++ d ∷ []) e r h.1)

front_well_formed : (e r : Env) → IsWellFormed (e ++ r) → IsWellFormed e
front_well_formed e r w = record { distinct = front_distinct e r w.distinct; entries = good_front [] e r w.entries }

each_contained : (e f : Env) → ((x : Entry) → Contains e x → Contains f x) → IsPartOf e f
each_contained [] f h = tt
each_contained (d ∷ e) f h = (h d (contains_first d e), each_contained e f (λ x c. h x (contains_more x d e c)))

front_part : (e r : Env) → IsPartOf e (e ++ r)
front_part e r = each_contained e (e ++ r) (λ x c. contains_front e r x c)

behind : (e : Env) (d : Entry) (r : Env) → Contains (e ++ d ∷ r) d
behind [] d r = contains_first d r
behind (x ∷ e) d r = contains_more d x (e ++ d ∷ r) (behind e d r)

-- Elements add entries behind.
pub record IsLonger (e f : Env) : Type 0 where
  pub rest : Env
  pub is : f ≡ e ++ rest

with_entry_longer : (e : Env) (o : Option Entry) → IsLonger e (with_entry e o)
with_entry_longer e None = record { rest = []; is = sym (append_nil e) }
with_entry_longer e (Some d) = record { rest = d ∷ []; is = refl }

elements_longer : (e : Env) (xs : List Element) → IsLonger e (with_elements e xs)
elements_longer e [] = record { rest = []; is = sym (append_nil e) }
elements_longer e (x ∷ xs) =
    let a = with_entry_longer e (entry_of e x) in
    let b = elements_longer (with_element e x) xs in
    record { rest = a.rest ++ b.rest; is = b.is ∙ ap (λ y. y ++ b.rest) a.is ∙ append_assoc e a.rest b.rest }

-- the entry of a recursive operator stands behind those over which its written bodies are unfolded
pub record IsWrittenIn (env : Env) (sig : Signature) (condition : Option Term) (place : ℕ) (written : List Term) : Type 0 where
  pub first : Env
  pub rest : Env
  pub is : env ≡ first ++ (entry.Recursive sig condition place (map (unfolded first) written) ∷ rest)

written_at : (e : Env) (xs : List Element) (sig : Signature) (condition : Option Term) (place : ℕ) (written : List Term) (k : ℕ) → k < length xs →
    get_or xs k (Recursive sig condition place written) ≡ Recursive sig condition place written → IsWrittenIn (with_elements e xs) sig condition place written
written_at e [] sig condition place written k l h = absurd (omega (arith, l))
written_at e (x ∷ xs) sig condition place written zero l h =
    let d = entry.Recursive sig condition place (map (unfolded e) written) in
    let b = elements_longer (e ++ d ∷ []) xs in
    record { first = e; rest = b.rest; is = ap (λ y. with_elements (with_element e y) xs) h ∙ b.is ∙ append_assoc e (d ∷ []) b.rest }
written_at e (x ∷ xs) sig condition place written (suc k) l h = written_at (with_element e x) xs sig condition place written k (omega (arith, l)) h

pub written_there : (e : Env) (xs : List Element) (sig : Signature) (condition : Option Term) (place : ℕ) (written : List Term) → Contains xs (Recursive sig condition place written) →
    IsWrittenIn (with_elements e xs) sig condition place written
written_there e xs sig condition place written c = written_at e xs sig condition place written c.0 c.1 c.2

-- A recursive operator that is found is the one that was written.
pub record AreFrom (env : Env) (sig sig' : Signature) (place place' : ℕ) (bodies written : List Term) : Type 0 where
  pub first : Env
  pub well_formed : IsWellFormed first
  pub part : IsPartOf first env
  pub bodies_are : bodies ≡ map (unfolded first) written
  pub signature : sig' ≡ sig
  pub inductive : place' ≡ place

pub are_from : (env : Env) → IsWellFormed env → (n : Name) (sig sig' : Signature) (condition condition' : Option Term) (place place' : ℕ) (bodies written : List Term) → IsWrittenIn env sig' condition' place' written →
    sig'.name ≡ n → find_symbol env n ≡ Some (RecursiveOf sig condition place bodies) → AreFrom env sig sig' place place' bodies written
are_from env w n sig sig' condition condition' place place' bodies written k m e =
    let d = entry.Recursive sig' condition' place' (map (unfolded k.first) written) in
    let c : Contains env d = transport (λ x. Contains x d) (sym k.is) (behind k.first d k.rest) in
    let f : find_symbol env n ≡ Some (RecursiveOf sig' condition' place' (map (unfolded k.first) written)) =
    found_whole symbols symbols_named env d n (RecursiveOf sig' condition' place' (map (unfolded k.first) written)) w.distinct c
    (ap (λ b. cond b (Some (RecursiveOf sig' condition' place' (map (unfolded k.first) written))) None) (ap (λ x. bytes_eq x n) m ∙ name_same n)) in
    let q : Some (RecursiveOf sig condition place bodies) ≡ Some (RecursiveOf sig' condition' place' (map (unfolded k.first) written)) = sym e ∙ f in
    record {
      first = k.first;
      well_formed = front_well_formed k.first (d ∷ k.rest) (transport IsWellFormed k.is w);
      part = transport (IsPartOf k.first) (sym k.is) (front_part k.first (d ∷ k.rest));
      bodies_are = cc;
      signature = cc;
      inductive = cc;
    }

-- The case of a constructor.
pub case_mapped : (f : Term → Term) (cs : List Con) (bs : List Term) (c : Name) (k : Con) (b : Term) → look_up (cases_by_name cs bs) c ≡ Some (k, b) → look_up (cases_by_name cs (map f bs)) c ≡ Some (k, f b)
case_mapped f [] bs c k b e = cc
case_mapped f (x ∷ cs) [] c k b e = cc
case_mapped f (x ∷ cs) (y ∷ bs) c k b e = by (bytes_eq x.name c) e (case_mapped f cs bs c k b)
  where
    by : (t : Boolean) → cond t (Some (x, y)) (look_up (cases_by_name cs bs) c) ≡ Some (k, b) → (look_up (cases_by_name cs bs) c ≡ Some (k, b) → look_up (cases_by_name cs (map f bs)) c ≡ Some (k, f b)) →
        cond t (Some (x, f y)) (look_up (cases_by_name cs (map f bs)) c) ≡ Some (k, f b)
    by true g r = let q : (x, y) ≡ (k, b) = cc in ap (λ (z : Con × Term). Some (z.0, f z.1)) q
    by false g r = r g

pub found_case : (P : Con → Term → Type 0) (cs : List Con) (bs : List Term) → AllZip P cs bs → (n : Name) (k : Con) (b : Term) → look_up (cases_by_name cs bs) n ≡ Some (k, b) → P k b
found_case P [] [] h n k b e = cc
found_case P [] (y ∷ bs) h n k b e = absurd h
found_case P (x ∷ cs) [] h n k b e = absurd h
found_case P (x ∷ cs) (y ∷ bs) h n k b e = by (bytes_eq x.name n) e (found_case P cs bs h.1 n k b)
  where
    by : (t : Boolean) → cond t (Some (x, y)) (look_up (cases_by_name cs bs) n) ≡ Some (k, b) → (look_up (cases_by_name cs bs) n ≡ Some (k, b) → P k b) → P k b
    by true g r = let q : (x, y) ≡ (k, b) = cc in transport (λ (z : Con × Term). P z.0 z.1) q h.0
    by false g r = r g
