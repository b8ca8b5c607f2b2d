-- The theories that are reached make one sound environment.
use Rattle.std.specs.Prelude.{◌≡◌, ◌+◌, ◌++◌, ◌||◌, ◌&&◌, ◌<◌, ℕ, zero, suc, Bool as Boolean, true, false, not, if◌then◌else◌, List, [], ◌∷◌, Some, None, map, flat_map, length, get_or, bytes_eq, Contains, refl}
use Rattle.std.specs.List.{AllByRecursion, IsDistinct, list_any, enumerate_from}
use Rattle.std.proofs.Common.{ap, sym, ◌∙◌, subst as transport, append_assoc, arith, true≢false}
use Rattle.std.proofs.lemmas.Grind.{flat_map-append}
use Rattle.ev_typing.specs.declared.typing.Con.{Con}
use Rattle.ev_typing.specs.declared.typing.DataDecl.{DataDecl}
use Rattle.ev_typing.specs.declared.typing.Var.{Var}
use Rattle.ev_typing.specs.Env.{Name, Symbol, DesOf, con_symbols, declaring}
use Rattle.ev_typing.proofs.Names.{append_nil, all_append, apart_flip}
use Rattle.ev_theory_text.specs.declared.forms.ElementForm.TheVariants.{Import, Param, Datatype, Operator, Constant as ConstantForm, Axiom as AxiomForm, Theorem as TheoremForm, Rewrite as RewriteForm, Inference as InferenceForm}
use Rattle.ev_theory_text.specs.declared.elements.RawElement.{RawElement}
use Rattle.ev_theory_text.specs.declared.elements.RawElement.TheVariants.{Read, Bad}
use Rattle.ev_rules.specs.declared.elements.Element.{Element}
use Rattle.ev_rules.specs.declared.elements.Element.TheVariants as element
use Rattle.ev_resolve.specs.UsedNames.{is_name_among}
use Rattle.ev_data.specs.Sound.{IsSound}
use Rattle.ev_ops.specs.Entries.{env_of}
use Rattle.ev_ops.specs.Formulas.{MayFollowAll}
use Rattle.ev_ops.proofs.Basics.{contains_first, contains_more}
use Rattle.ev_elab.specs.declared.theories.Reached.{Reached}
use Rattle.ev_elab.specs.DeclaredNames.{con_names, entry_names}
use Rattle.ev_elab.specs.States.{all_reached, elements_of, reached_elements}
use Rattle.ev_elab.specs.Scopes.{import_count, declared_names, StandAfter, IsScope}
use Rattle.ev_elab.specs.Imports.{clash, import_clashes, taken_import_from, taken_import}
use Rattle.ev_elab.proofs.Standing.{declared_by, AreUndeclared, undeclared_after, follow_more, member_holds, sound_all, empty_sound}

-- The names that an element declares are those of its entry.
fields_named : (d : DataDecl) (c : Con) (i : ℕ) (fs : List Var) → map (λ (p : Name × Symbol). p.0) (map (λ (f : ℕ × Var). (f.1.name, DesOf d c f.0 f.1)) (enumerate_from i fs)) ≡ map (λ (f : Var). f.name) fs
fields_named d c i [] = refl
fields_named d c i (f ∷ fs) = ap (λ ns. f.name ∷ ns) (fields_named d c (i + 1) fs)

map_both : (ps qs : List (Name × Symbol)) → map (λ (p : Name × Symbol). p.0) (ps ++ qs) ≡ map (λ (p : Name × Symbol). p.0) ps ++ map (λ (p : Name × Symbol). p.0) qs
map_both [] qs = refl
map_both (p ∷ ps) qs = ap (λ ns. p.0 ∷ ns) (map_both ps qs)

cons_named : (d : DataDecl) (cs : List Con) → map (λ (p : Name × Symbol). p.0) (flat_map (con_symbols d) cs) ≡ flat_map con_names cs
cons_named d [] = refl
cons_named d (c ∷ cs) =
    map_both (con_symbols d c) (flat_map (con_symbols d) cs) ∙ ap (λ ns. ns ++ map (λ (p : Name × Symbol). p.0) (flat_map (con_symbols d) cs)) (ap (λ ns. c.name ∷ ns) (fields_named d c 0 c.fields))
    ∙ ap (λ ns. con_names c ++ ns) (cons_named d cs)

entry_named : (x : Element) → declared_by x ≡ entry_names x
entry_named (element.Import n) = refl
entry_named (element.Params ns) = refl
entry_named (element.Data d) = ap (λ ns. d.name ∷ ns) (cons_named d d.cons)
entry_named (element.Direct sig c body) = refl
entry_named (element.Recursive sig c place bodies) = refl
entry_named (element.Constant sig c) = refl
entry_named (element.Axiom l P) = refl
entry_named (element.Theorem l P) = refl
entry_named (element.Rewrite r) = refl
entry_named (element.Inference r) = refl

-- Tests that no item passes.
none_passes : {X : Type 0} (f : X → Boolean) (xs : List X) → list_any f xs ≡ false → AllByRecursion (λ x. f x ≡ false) xs
none_passes f [] h = tt
none_passes f (x ∷ xs) h = by (f x) refl h (none_passes f xs)
  where
    by : (b : Boolean) → f x ≡ b → (b || list_any f xs) ≡ false → (list_any f xs ≡ false → AllByRecursion (λ y. f y ≡ false) xs) → (f x ≡ false) × AllByRecursion (λ y. f y ≡ false) xs
    by true q k g = cc
    by false q k g = (q, g k)

passes_none : {X : Type 0} (f : X → Boolean) (xs : List X) → AllByRecursion (λ x. f x ≡ false) xs → list_any f xs ≡ false
passes_none f [] h = refl
passes_none f (x ∷ xs) h = ap (λ b. b || list_any f xs) h.0 ∙ passes_none f xs h.1

all_map : {X : Type 0} (P Q : X → Type 0) → ((x : X) → P x → Q x) → (xs : List X) → AllByRecursion P xs → AllByRecursion Q xs
all_map P Q g [] h = tt
all_map P Q g (x ∷ xs) h = (g x h.0, all_map P Q g xs h.1)

split_all : {X : Type 0} (P : X → Type 0) (xs ys : List X) → AllByRecursion P (xs ++ ys) → AllByRecursion P xs × AllByRecursion P ys
split_all P [] ys h = (tt, h)
split_all P (x ∷ xs) ys h = let r = split_all P xs ys h.1 in ((h.0, r.0), r.1)

all_flat : {X Y : Type 0} (P : Y → Type 0) (f : X → List Y) (xs : List X) → AllByRecursion (λ x. AllByRecursion P (f x)) xs → AllByRecursion P (flat_map f xs)
all_flat P f [] h = tt
all_flat P f (x ∷ xs) h = all_append P (f x) (flat_map f xs) h.0 (all_flat P f xs h.1)

flat_all : {X Y : Type 0} (P : Y → Type 0) (f : X → List Y) (xs : List X) → AllByRecursion P (flat_map f xs) → AllByRecursion (λ x. AllByRecursion P (f x)) xs
flat_all P f [] h = tt
flat_all P f (x ∷ xs) h = let r = split_all P (f x) (flat_map f xs) h in (r.0, flat_all P f xs r.1)

-- Where no import is taken, no two theories clash.
AllClear : List (List Reached) → List (List Reached) → Type 0
AllClear scope lists = AllByRecursion (λ new. import_clashes scope new ≡ false) lists

clear : (scope lists : List (List Reached)) (n : ℕ) (raws : List RawElement) → length lists ≡ import_count raws → taken_import_from scope lists n raws ≡ None → AllClear scope lists
unfolding AllClear
clear scope [] n raws c h = tt
clear scope (new ∷ lists) n [] c h = absurd (omega (arith, c))
clear scope (new ∷ lists) n (Bad k ∷ raws) c h = clear scope (new ∷ lists) (n + 1) raws c h
clear scope (new ∷ lists) n (Read (Import m) ∷ raws) c h = by (import_clashes scope new) refl h (clear scope lists (n + 1) raws (omega (arith, c)))
  where
    by : (b : Boolean) → import_clashes scope new ≡ b → (if b then Some n else taken_import_from scope lists (n + 1) raws) ≡ None → (taken_import_from scope lists (n + 1) raws ≡ None → AllClear scope lists) →
        (import_clashes scope new ≡ false) × AllClear scope lists
    by true q k g = cc
    by false q k g = (q, g k)
clear scope (new ∷ lists) n (Read (Param ns) ∷ raws) c h = clear scope (new ∷ lists) (n + 1) raws c h
clear scope (new ∷ lists) n (Read (Datatype m ps cs) ∷ raws) c h = clear scope (new ∷ lists) (n + 1) raws c h
clear scope (new ∷ lists) n (Read (Operator a b d) ∷ raws) c h = clear scope (new ∷ lists) (n + 1) raws c h
clear scope (new ∷ lists) n (Read (ConstantForm a b) ∷ raws) c h = clear scope (new ∷ lists) (n + 1) raws c h
clear scope (new ∷ lists) n (Read (AxiomForm a b) ∷ raws) c h = clear scope (new ∷ lists) (n + 1) raws c h
clear scope (new ∷ lists) n (Read (TheoremForm a b) ∷ raws) c h = clear scope (new ∷ lists) (n + 1) raws c h
clear scope (new ∷ lists) n (Read (RewriteForm a b d e f) ∷ raws) c h = clear scope (new ∷ lists) (n + 1) raws c h
clear scope (new ∷ lists) n (Read (InferenceForm a b d e) ∷ raws) c h = clear scope (new ∷ lists) (n + 1) raws c h

abbrev NoClash : List Reached → Reached → Type 0
NoClash all r = AllByRecursion (λ other. clash r other ≡ false) all

no_clash : (scope lists : List (List Reached)) → AllClear scope lists → AllByRecursion (NoClash (all_reached scope)) (all_reached lists)
unfolding AllClear
no_clash scope [] h = tt
no_clash scope (new ∷ lists) h =
    all_append (NoClash (all_reached scope)) new (all_reached lists) (all_map _ _ (λ r k. none_passes (clash r) (all_reached scope) k) new (none_passes (λ r. list_any (clash r) (all_reached scope)) new h.0)) (no_clash scope lists h.1)

-- Two theories with different names that do not clash declare no name in common.
not_shared : (r other : Reached) → bytes_eq r.name other.name ≡ false → clash r other ≡ false → AllByRecursion (λ n. is_name_among (declared_names other) n ≡ false) (declared_names r)
not_shared r other d c = none_passes (is_name_among (declared_names other)) (declared_names r) (by (bytes_eq r.name other.name) d c)
  where
    by : (b : Boolean) → b ≡ false → (not b && list_any (is_name_among (declared_names other)) (declared_names r)) ≡ false → list_any (is_name_among (declared_names other)) (declared_names r) ≡ false
    by true q k = absurd (true≢false q)
    by false q k = k

-- a name that stands in none of the theories' lists is declared by none of their elements
apart_elements : (n : Name) (other : Reached) → is_name_among (declared_names other) n ≡ false → AllByRecursion (λ y. list_any (bytes_eq n) (declared_by y) ≡ false) other.elements
apart_elements n other h =
    all_map _ _ (λ y k. ap (list_any (bytes_eq n)) (entry_named y) ∙ passes_none (bytes_eq n) (entry_names y) k) other.elements
    (flat_all (λ m. bytes_eq n m ≡ false) entry_names other.elements (none_passes (bytes_eq n) (flat_map entry_names other.elements) h))

-- the names of a theory are new to others that do not clash with it
all_new : (r : Reached) (earlier : List Reached) → AllByRecursion (λ o. bytes_eq r.name o.name ≡ false) earlier → NoClash earlier r → AllByRecursion (λ x. AreUndeclared (env_of (elements_of earlier)) (declared_by x)) r.elements
all_new r earlier d c =
    all_map _ _ (λ x k. transport (AreUndeclared (env_of (elements_of earlier))) (sym (entry_named x)) k) r.elements
    (flat_all (λ n. declaring (env_of (elements_of earlier)) n ≡ None) entry_names r.elements (each (declared_names r) (shared earlier d c)))
  where
    shared : (es : List Reached) → AllByRecursion (λ o. bytes_eq r.name o.name ≡ false) es → NoClash es r → AllByRecursion (λ n. AllByRecursion (λ (o : Reached). is_name_among (declared_names o) n ≡ false) es) (declared_names r)
    shared es h k = turn (declared_names r) es (λ o m. not_shared_at es h k o m)
      where
        not_shared_at : (fs : List Reached) → AllByRecursion (λ o. bytes_eq r.name o.name ≡ false) fs → NoClash fs r → (o : Reached) → Contains fs o → AllByRecursion (λ n. is_name_among (declared_names o) n ≡ false) (declared_names r)
        not_shared_at fs g i o m = not_shared r o (member_holds (λ x. bytes_eq r.name x.name ≡ false) fs o g m) (member_holds (λ x. clash r x ≡ false) fs o i m)

        turn : (ns : List Name) (fs : List Reached) → ((o : Reached) → Contains fs o → AllByRecursion (λ n. is_name_among (declared_names o) n ≡ false) ns) → AllByRecursion (λ n. AllByRecursion (λ (o : Reached). is_name_among (declared_names o) n ≡ false) fs) ns
        turn [] fs g = tt
        turn (n ∷ ns) fs g = (first fs (λ o m. (g o m).0), turn ns fs (λ o m. (g o m).1))
          where
            first : (gs : List Reached) → ((o : Reached) → Contains gs o → is_name_among (declared_names o) n ≡ false) → AllByRecursion (λ (o : Reached). is_name_among (declared_names o) n ≡ false) gs
            first [] k' = tt
            first (o ∷ gs) k' = (k' o (contains_first o gs), first gs (λ x m. k' x (contains_more x o gs m)))

    each : (ns : List Name) → AllByRecursion (λ n. AllByRecursion (λ (o : Reached). is_name_among (declared_names o) n ≡ false) earlier) ns → AllByRecursion (λ n. declaring (env_of (elements_of earlier)) n ≡ None) ns
    each [] h = tt
    each (n ∷ ns) h =
        (undeclared_after n (elements_of earlier) [] refl (all_flat _ (λ (o : Reached). o.elements) earlier (all_map _ _ (λ o k. apart_elements n o k) earlier h.0)), each ns h.1)

-- Theories one after the other.
elements_more : (earlier : List Reached) (r : Reached) → elements_of (earlier ++ r ∷ []) ≡ elements_of earlier ++ r.elements
elements_more earlier r = flat_map-append (λ (o : Reached). o.elements) earlier (r ∷ []) ∙ ap (λ es. elements_of earlier ++ es) (append_nil r.elements)

own_among : (earlier : List Reached) (b : Reached) → Contains earlier b → AllByRecursion (Contains (elements_of earlier)) b.elements
own_among earlier b (k, l, q) = at earlier k b l q
  where
    at : (es : List Reached) (j : ℕ) (o : Reached) → j < length es → get_or es j o ≡ o → AllByRecursion (Contains (elements_of es)) o.elements
    at [] j o m e = absurd (omega arith)
    at (x ∷ es) zero o m e = transport (λ (y : Reached). AllByRecursion (Contains (x.elements ++ elements_of es)) y.elements) e (front x.elements (elements_of es))
      where
        front : (xs ys : List Element) → AllByRecursion (Contains (xs ++ ys)) xs
        front [] ys = tt
        front (z ∷ zs) ys = (contains_first z (zs ++ ys), all_map _ _ (λ y c. contains_more y z (zs ++ ys) c) zs (front zs ys))
    at (x ∷ es) (suc j) o m e = all_map _ _ (λ y c. behind x.elements (elements_of es) y c) o.elements (at es j o (omega arith) e)
      where
        behind : (xs ys : List Element) (y : Element) → Contains ys y → Contains (xs ++ ys) y
        behind [] ys y c = c
        behind (z ∷ zs) ys y c = contains_more y z (zs ++ ys) (behind zs ys y c)

all_among : (earlier below : List Reached) → AllByRecursion (Contains earlier) below → AllByRecursion (Contains (elements_of earlier)) (elements_of below)
all_among earlier below h = all_flat (Contains (elements_of earlier)) (λ (o : Reached). o.elements) below (all_map _ _ (λ b c. own_among earlier b c) below h)

apart_earlier : (earlier : List Reached) (r : Reached) (rest : List Reached) → IsDistinct bytes_eq (map (λ (o : Reached). o.name) (earlier ++ r ∷ rest)) → AllByRecursion (λ (o : Reached). bytes_eq o.name r.name ≡ false) earlier
unfolding IsDistinct
apart_earlier [] r rest h = tt
apart_earlier (o ∷ es) r rest h = (at es h.0, apart_earlier es r rest h.1)
  where
    at : (fs : List Reached) → AllByRecursion (λ y. bytes_eq o.name y ≡ false) (map (λ (x : Reached). x.name) (fs ++ r ∷ rest)) → bytes_eq o.name r.name ≡ false
    at [] k = k.0
    at (f ∷ fs) k = at fs k.1

follow_from : (all earlier rest : List Reached) → earlier ++ rest ≡ all → IsDistinct bytes_eq (map (λ (o : Reached). o.name) all) → AllByRecursion (NoClash all) rest → MayFollowAll [] (elements_of earlier) → StandAfter earlier rest → MayFollowAll [] (elements_of all)
follow_from all earlier [] e d c h s = transport (λ rs. MayFollowAll [] (elements_of rs)) (sym (append_nil earlier) ∙ e) h
follow_from all earlier (r ∷ rest) e d c h s =
    let apart = all_map _ _ (λ o k. flipped r.name o.name k) earlier (apart_earlier earlier r rest (transport (λ rs. IsDistinct bytes_eq (map (λ (o : Reached). o.name) rs)) (sym e) d)) in
    let clear' : NoClash earlier r = (split_all (λ o. clash r o ≡ false) earlier (r ∷ rest) (transport (λ rs. NoClash rs r) (sym e) c.0)).0 in
    let own : MayFollowAll [] (elements_of s.0.below ++ r.elements) = transport (MayFollowAll []) (elements_more s.0.below r) s.0.follow in
    let next : MayFollowAll [] (elements_of earlier ++ r.elements) = follow_more (elements_of s.0.below) (elements_of earlier) r.elements own h (all_among earlier s.0.below s.0.among) (all_new r earlier apart clear') in
    follow_from all (earlier ++ r ∷ []) rest (append_assoc earlier (r ∷ []) rest ∙ e) d c.1 (transport (MayFollowAll []) (sym (elements_more earlier r)) next) s.1
  where
    flipped : (m n : Name) → bytes_eq n m ≡ false → bytes_eq m n ≡ false
    flipped m n k = apart_flip n m k

-- The elements of all theories of a scope may follow one another.
pub scope_follows : (scope : List (List Reached)) (raws : List RawElement) → IsScope scope raws → taken_import scope raws ≡ None → MayFollowAll [] (reached_elements scope)
scope_follows scope raws s t =
    follow_from (all_reached scope) [] (all_reached scope) refl s.distinct (no_clash scope scope (clear scope scope 1 raws s.count t)) tt s.theories

pub scope_sound : (scope : List (List Reached)) (raws : List RawElement) → IsScope scope raws → taken_import scope raws ≡ None → IsSound (env_of (reached_elements scope))
scope_sound scope raws s t = sound_all [] (reached_elements scope) empty_sound (scope_follows scope raws s t)
