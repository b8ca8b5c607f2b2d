-- What the proof of a sequent cites is needed, and holds where all that is needed is proved.
use Rattle.std.specs.Prelude.{◌≡◌, ◌≢◌, ◌+◌, ◌-◌, ◌++◌, ℕ, zero, suc, Bool as Boolean, true, false, cond, if◌then◌else◌, List, [], ◌∷◌, Option, Some, map, filter, flat_map, find, take, length, bytes_eq, option_map, Contains, ⊤, refl}
use Rattle.std.specs.List.{AllByRecursion}
use Rattle.std.proofs.Common.{ap, sym, ◌∙◌, subst as transport, append_assoc, arith}
use Rattle.ev_typing.specs.Env.{Env, Name}
use Rattle.ev_typing.specs.Typing.{IsPredicate}
use Rattle.ev_typing.specs.Parts.{IsPartOf}
use Rattle.ev_typing.proofs.Names.{name_same, append_nil, all_append}
use Rattle.ev_data.specs.Sound.{IsSound}
use Rattle.ev_terms.specs.declared.obligation.ObKind.{ObKind}
use Rattle.ev_rules.specs.declared.elements.Element.{Element}
use Rattle.ev_ops.specs.Entries.{with_element, with_elements, env_of}
use Rattle.ev_ops.specs.Formulas.{HasFormulas, MayFollowAll}
use Rattle.ev_ops.proofs.Basics.{contains_first, contains_more}
use Rattle.ev_ops.proofs.Fitting.{contains_front, contains_last}
use Rattle.ev_oblig.specs.declared.named.Named.{Named}
use Rattle.ev_oblig.specs.Obligations.{obligations}
use Rattle.ev_script.specs.declared.sequent_names.SeqName.{SeqName}
use Rattle.ev_proof.specs.declared.steps.Ref.{Ref}
use Rattle.ev_proof.specs.declared.steps.Step.{Step}
use Rattle.ev_replay.specs.declared.scopes.CiteElement.{CiteElement}
use Rattle.ev_replay.specs.Scopes.{is_labelled, is_named, cited}
use Rattle.ev_replay.specs.Replay.{cites}
use Rattle.ev_elab.specs.declared.theories.TheorySequent.{TheorySequent}
use Rattle.ev_elab.specs.DeclaredNames.{label_of, obligation_label}
use Rattle.ev_elab.specs.Elaborated.{sequent, sequents_from}
use Rattle.ev_elab.proofs.Standing.{sound_all, empty_sound, follow_split, parts}
use Rattle.ev_project.specs.declared.statuses.Status.{Status}
use Rattle.ev_project.specs.declared.statuses.Status.TheVariants.{NoProof, Broken, Partial, Leans, Assumed, Proved}
use Rattle.ev_project.specs.Projects.{Project, has_text}
use Rattle.ev_project.specs.Contents.{Contents}
use Rattle.ev_project.specs.Scopes.{cite_elements, sequent_name, cite_scope, theory_sequents, find_sequent}
use Rattle.ev_project.specs.Needs.{is_claim, is_axiom, with_theory, label_ref, has_ref, citable, claims, axioms, label_sequents, needs_of}
use Rattle.ev_project.specs.Statuses.{is_fine, status_axioms, assume_refs, assumed}
use Rattle.ev_sound.specs.Unfoldings.{HoldsUnfolded}
use Rattle.ev_sound.proofs.Goals.{member_holds, all_members}
use Rattle.ev_sound.proofs.Sequents.{StandsIn, in_front, behind, stands_append, IsClaimKind, has_kind, is_called, ClaimAt, claim_at, find_stands}
use Rattle.ev_sound.proofs.OverWhole.{holds_over}
use Rattle.ev_sound.proofs.Cited.{but_last, CitedFrom, reached, earlier, cited_from}
use Rattle.ev_sound.proofs.Positions.{position, map_both, take_front, plain_elements, plain_all, pred_is, elements_append, all_formulas, own_goals, own, reach, below, IsSoundAt, Position, citable_are, env_is, listed, listed_follow, scope_sound}
use Rattle.ev_sound.proofs.Claims.{stands_behind, map_stands, flat_stands, filter_stands, stands_filter, stands_any}

-- Lists.
pub all_map : {X : Type 0} (P Q : X → Type 0) → ((x : X) → P x → Q x) → (xs : List X) → AllByRecursion P xs → AllByRecursion Q xs
all_map P Q g [] h = tt
all_map P Q g (x ∷ xs) h = (g x h.0, all_map P Q g xs h.1)

all_left : {X : Type 0} (P : X → Type 0) (xs ys : List X) → AllByRecursion P (xs ++ ys) → AllByRecursion P xs
all_left P [] ys h = tt
all_left P (x ∷ xs) ys h = (h.0, all_left P xs ys h.1)

all_flat : {X Y : Type 0} (P : Y → Type 0) (f : X → List Y) (xs : List X) → ((x : X) → Contains xs x → AllByRecursion P (f x)) → AllByRecursion P (flat_map f xs)
all_flat P f [] h = tt
all_flat P f (x ∷ xs) h = all_append P (f x) (flat_map f xs) (h x (contains_first x xs)) (all_flat P f xs (λ y c. h y (contains_more y x xs c)))

each_in : {X : Type 0} (xs ys : List X) → ((x : X) → Contains xs x → Contains ys x) → AllByRecursion (Contains ys) xs
each_in [] ys h = tt
each_in (x ∷ xs) ys h = (h x (contains_first x xs), each_in xs ys (λ y c. h y (contains_more y x xs c)))

all_images : {X Y : Type 0} (f : X → Y) (xs ys : List X) → AllByRecursion (Contains ys) xs → AllByRecursion (Contains (map f ys)) (map f xs)
all_images f [] ys h = tt
all_images f (x ∷ xs) ys h = (map_stands f ys x h.0, all_images f xs ys h.1)

pub find_passes : {X : Type 0} (f : X → Boolean) (xs : List X) (x : X) → find f xs ≡ Some x → f x ≡ true
find_passes f [] x h = cc
find_passes f (y ∷ ys) x h = by (f y) refl h (find_passes f ys x)
  where
    by : (b : Boolean) → f y ≡ b → cond b (Some y) (find f ys) ≡ Some x → (find f ys ≡ Some x → f x ≡ true) → f x ≡ true
    by true q k g = let i : y ≡ x = cc in transport (λ z. f z ≡ true) i q
    by false q k g = g k

-- where an item of a list that is made of lists comes from
pub record IsFrom {X Y : Type 0} (f : X → List Y) (xs : List X) (y : Y) : Type 0 where
  pub item : X
  pub stands : Contains xs item
  pub within : Contains (f item) y

flat_from : {X Y : Type 0} (f : X → List Y) (xs : List X) (y : Y) → Contains (flat_map f xs) y → IsFrom f xs y
flat_from f [] y (k, l, q) = absurd (omega arith)
flat_from {X} {Y} f (x ∷ xs) y c = by (stands_append (f x) (flat_map f xs) y c) (flat_from f xs y)
  where
    by : StandsIn (f x) (flat_map f xs) y → (Contains (flat_map f xs) y → IsFrom f xs y) → IsFrom f (x ∷ xs) y
    by (in_front d) g = record { item = x; stands = contains_first x xs; within = d }
    by (behind d) g = let r = g d in record { item = r.item; stands = contains_more r.item x xs r.stands; within = r.within }

filter_passes : {X : Type 0} (f : X → Boolean) (xs : List X) (x : X) → Contains (filter f xs) x → f x ≡ true
filter_passes f [] x (k, l, q) = absurd (omega arith)
filter_passes {X} f (z ∷ zs) x c = by (f z) refl c (λ d. filter_passes f zs x d)
  where
    by : (b : Boolean) → f z ≡ b → Contains (if b then z ∷ filter f zs else filter f zs) x → (Contains (filter f zs) x → f x ≡ true) → f x ≡ true
    by true m (zero, l, q) g = transport (λ y. f y ≡ true) q m
    by true m (suc k, l, q) g = g (k, omega arith, q)
    by false m d g = g d

-- labels of more elements
refs_more : (f : CiteElement → Boolean) (xs ys : List CiteElement) (r : Ref) → AllByRecursion (Contains ys) xs → Contains (flat_map label_ref (filter f xs)) r → Contains (flat_map label_ref (filter f ys)) r
refs_more f xs ys r h c =
    let s = flat_from label_ref (filter f xs) r c in
    flat_stands label_ref (filter f ys) s.item r (filter_stands f ys s.item (member_holds (Contains ys) xs s.item h (stands_filter f xs s.item s.stands)) (filter_passes f xs s.item s.stands)) s.within

module _ (p : Project) (v : Contents) where
  -- the elements that may be cited before an element of a theory
  abbrev pub offered : Name → List Element → List CiteElement
  offered n before = flat_map (λ u. cite_elements u (own p v u)) (reach p v n) ++ cite_elements n before

  offered_plain : (n : Name) (before : List Element) → map (λ (c : CiteElement). c.element) (offered n before) ≡ below p v n ++ before
  offered_plain n before =
      map_both (λ (c : CiteElement). c.element) (flat_map (λ u. cite_elements u (own p v u)) (reach p v n)) (cite_elements n before)
      ∙ ap (λ es. es ++ map (λ (c : CiteElement). c.element) (cite_elements n before)) (plain_all (own p v) (reach p v n)) ∙ ap (λ es. below p v n ++ es) (plain_elements n before)

  citable_list : (name : SeqName) (s : TheorySequent) (k : IsSoundAt p v name.theory) (q : Position p v name s) → citable (cite_scope p v name.theory s.element) ≡ offered name.theory q.at.before
  citable_list name s k q = ap (λ n. take n (cite_scope p v name.theory s.element).elements) (pred_is (length (cite_scope p v name.theory s.element).elements)) ∙ citable_are p v name s k q

  -- the environment of what may be cited, with the element itself
  scope_env : (u : Name) (k : ℕ) → (cite_scope p v u k).env ≡ env_of (below p v u ++ take k (own p v u))
  scope_env u k = ap env_of (offered_plain u (take k (own p v u)))

  module _ (G : Name → Type 0) (sound_at : (n : Name) → G n → IsSoundAt p v n) (closed : (n u : Name) (e : Element) → G n → Contains (reach p v n) u → Contains (own p v u) e → G u)
      (within : (n u w : Name) → G n → Contains (reach p v n) u → Contains (reach p v u) w → Contains (reach p v n) w) where
    -- Where an element that is cited stands.
    pub record Source (n : Name) (before : List Element) (ref : Ref) (e : Element) : Type 0 where
      pub theory : Name
      pub same : ref.theory ≡ theory
      pub good : G theory
      pub here : has_text p theory ≡ true
      pub first : List Element
      pub rest : List Element
      pub split : own p v theory ≡ first ++ rest
      pub found : find (is_labelled ref.label) first ≡ Some e
      pub among : AllByRecursion (Contains (offered n before)) (offered theory first)

    block_in : (n u : Name) (before : List Element) → Contains (reach p v n) u → AllByRecursion (Contains (offered n before)) (cite_elements u (own p v u))
    block_in n u before m = each_in (cite_elements u (own p v u)) (offered n before) (λ x c. contains_front (flat_map (λ w. cite_elements w (own p v w)) (reach p v n)) (cite_elements n before) x (flat_stands (λ w. cite_elements w (own p v w)) (reach p v n) u x m c))

    offered_in : (n u : Name) (before : List Element) → G n → Contains (reach p v n) u → AllByRecursion (Contains (offered n before)) (offered u (own p v u))
    offered_in n u before g m =
        all_append (Contains (offered n before)) (flat_map (λ w. cite_elements w (own p v w)) (reach p v u)) (cite_elements u (own p v u))
        (all_flat (Contains (offered n before)) (λ w. cite_elements w (own p v w)) (reach p v u) (λ w c. block_in n w before (within n u w g m c))) (block_in n u before m)

    pub source : (name : SeqName) (s : TheorySequent) (g : G name.theory) (q : Position p v name s) (ref : Ref) (e : Element) → cited (cite_scope p v name.theory s.element) ref ≡ Some e → Source name.theory q.at.before ref e
    source name s g q ref e h =
        by (cited_from ref (own p v) (reach p v name.theory) name.theory q.at.before e
        (ap (λ es. option_map (λ (c : CiteElement). c.element) (find (is_named ref) es)) (sym (citable_are p v name s (sound_at name.theory g) q)) ∙ h))
      where
        by : CitedFrom ref (own p v) (reach p v name.theory) name.theory q.at.before e → Source name.theory q.at.before ref e
        by (reached u m w) = record {
          theory = u;
          same = w.theory;
          good = closed name.theory u e g m (find_stands (is_labelled ref.label) (own p v u) e w.found);
          here = (sound_at name.theory g).texts u m;
          first = own p v u;
          rest = [];
          split = sym (append_nil (own p v u));
          found = w.found;
          among = offered_in name.theory u q.at.before g m;
        }
        by (earlier w) = record {
          theory = name.theory;
          same = w.theory;
          good = g;
          here = q.here;
          first = q.at.before;
          rest = q.at.own ∷ q.at.later;
          split = q.at.split;
          found = w.found;
          among = all_members (offered name.theory q.at.before);
        }

    -- a label stands among those of the elements that may be cited and pass a test
    pub label_stands : (name : SeqName) (s : TheorySequent) (g : G name.theory) (q : Position p v name s) (ref : Ref) (e : Element) (src : Source name.theory q.at.before ref e) → label_of e ≡ Some ref.label → (f : CiteElement → Boolean) →
        f (record { theory = src.theory; element = e }) ≡ true → Contains (flat_map label_ref (filter f (citable (cite_scope p v name.theory s.element)))) ref
    label_stands name s g q ref e src label f passes =
        let item : CiteElement = record { theory = src.theory; element = e } in
        let ref_is : ref ≡ record { theory = src.theory; label = ref.label } = ap (λ t. record { theory = t; label = ref.label }) src.same in
        let stands : Contains (offered name.theory q.at.before) item =
        member_holds (Contains (offered name.theory q.at.before)) (offered src.theory src.first) item src.among
        (stands_behind (flat_map (λ u. cite_elements u (own p v u)) (reach p v src.theory)) (cite_elements src.theory src.first) item (map_stands (λ x. record { theory = src.theory; element = x }) src.first e (find_stands (is_labelled ref.label) src.first e src.found))) in
        let there : Contains (citable (cite_scope p v name.theory s.element)) item = transport (λ es. Contains es item) (sym (citable_list name s (sound_at name.theory g) q)) stands in
        let own_ref : Contains (label_ref item) ref = transport (λ l. Contains (with_theory src.theory l) ref) (sym label) (transport (Contains (record { theory = src.theory; label = ref.label } ∷ [])) (sym ref_is) (contains_first (record { theory = src.theory; label = ref.label }) [])) in
        flat_stands label_ref (filter f (citable (cite_scope p v name.theory s.element))) item ref (filter_stands f (citable (cite_scope p v name.theory s.element)) item there passes) own_ref

    abbrev pub Holds : SeqName → TheorySequent → Type 0
    Holds name s = HoldsUnfolded (cite_scope p v name.theory s.element).env s.goal

    -- What is known of a sequent from its status.
    pub record Known (name : SeqName) (st : Status) : Type 0 where
      pub holds : G name.theory → st ≡ Proved → (s : TheorySequent) → find_sequent p v name ≡ Some s → Holds name s
      pub axioms_there : (s : TheorySequent) → find_sequent p v name ≡ Some s → AllByRecursion (Contains (axioms (cite_scope p v name.theory s.element))) (status_axioms st)
      pub some : st ≢ Assumed []

    abbrev pub AreKnown : List SeqName → List Status → Type 0
    AreKnown [] [] = ⊤
    AreKnown (name ∷ names) (st ∷ sts) = Known name st × AreKnown names sts
    AreKnown _ _ = ⊥

    pub record KnownAt (sts : List Status) (name : SeqName) : Type 0 where
      pub status : Status
      pub known : Known name status
      pub fine : is_fine status ≡ true
      pub stands : Contains sts status

    known_at : (names : List SeqName) (sts : List Status) → AreKnown names sts → AllByRecursion (λ st. is_fine st ≡ true) sts → (name : SeqName) → Contains names name → KnownAt sts name
    known_at [] sts h f name (k, l, q) = absurd (omega arith)
    known_at (n ∷ ns) [] h f name c = absurd h
    known_at (n ∷ ns) (st ∷ sts) h f name (zero, l, q) = record { status = st; known = transport (λ m. Known m st) q h.0; fine = f.0; stands = contains_first st sts }
    known_at (n ∷ ns) (st ∷ sts) h f name (suc k, l, q) =
        let r = known_at ns sts h.1 f.1 name (k, omega arith, q) in
        record { status = r.status; known = r.known; fine = r.fine; stands = contains_more r.status st sts r.stands }

    -- A sequent whose needs are known, fine, and lean on no axiom.
    module _ (name : SeqName) (s : TheorySequent) (g : G name.theory) (q : Position p v name s) (lines : List (Option Step)) (sts : List Status) (known : AreKnown (needs_of p v name.theory s lines) sts)
        (fine : AllByRecursion (λ st. is_fine st ≡ true) sts) (none : assumed (cite_scope p v name.theory s.element) lines sts ≡ []) where
      cs_env : Env
      cs_env = (cite_scope p v name.theory s.element).env

      -- an axiom of the scope on which something leans would stand in the list
      pub no_axiom : (r : Ref) → Contains (axioms (cite_scope p v name.theory s.element)) r → Contains (flat_map assume_refs lines ++ flat_map status_axioms sts) r → ⊥
      no_axiom r c d = by (transport (λ rs. Contains rs r) none (filter_stands (has_ref (flat_map assume_refs lines ++ flat_map status_axioms sts)) (axioms (cite_scope p v name.theory s.element)) r c (stands_any (flat_map assume_refs lines ++ flat_map status_axioms sts) r d)))
        where
          by : Contains [] r → ⊥
          by (k, l, e) = omega arith

      pub record ClaimHolds (e : Element) (o : Env → Named) : Type 0 where
        pub env : Env
        pub sound : IsSound env
        pub part : IsPartOf env (cite_scope p v name.theory s.element).env
        pub formulas : HasFormulas env e
        pub holds : HoldsUnfolded (cite_scope p v name.theory s.element).env (o env).goal

      module _ (ref : Ref) (e : Element) (src : Source name.theory q.at.before ref e) (kind : ObKind) (claim : IsClaimKind kind) (o : Env → Named) (label : label_of e ≡ Some ref.label) (obligated : obligation_label e ≡ Some ref.label)
          (claimed : is_claim e ≡ true) (has : (D : Env) → find (has_kind kind) (obligations D e) ≡ Some (o D)) (kind_is : (D : Env) → (o D).kind ≡ kind) (listed_there : Contains (cites lines) ref) where
        abbrev other : SeqName
        other = record { theory = src.theory; label = ref.label; kind = kind }

        abbrev k' : IsSoundAt p v src.theory
        k' = sound_at src.theory src.good

        abbrev c : ClaimAt other claim (env_of (below p v src.theory)) 1 src.first src.rest e o
        c = claim_at other claim (env_of (below p v src.theory)) 1 src.first src.rest e o obligated has src.found

        abbrev D₀ : Env
        D₀ = with_element (with_elements (env_of (below p v src.theory)) c.before) e

        abbrev s' : TheorySequent
        s' = sequent (1 + length c.before) ref.label (o D₀)

        abbrev all : List Element
        all = below p v src.theory ++ (c.before ++ e ∷ [])

        found : find_sequent p v other ≡ Some s'
        found = ap (find (is_called other)) (k'.sequents src.here ∙ ap (sequents_from (env_of (below p v src.theory)) 1) src.split) ∙ c.found

        all_env : env_of all ≡ D₀
        all_env = elements_append [] (below p v src.theory) (c.before ++ e ∷ []) ∙ elements_append (env_of (below p v src.theory)) c.before (e ∷ [])

        own_split : own p v src.theory ≡ c.before ++ e ∷ (c.later ++ src.rest)
        own_split = src.split ∙ ap (λ es. es ++ src.rest) c.split ∙ append_assoc c.before (e ∷ c.later) src.rest

        taken : take (1 + length c.before) (own p v src.theory) ≡ c.before ++ e ∷ []
        taken =
            let z : 1 + length c.before ≡ suc (length c.before) = omega arith in
            ap (λ j. take j (own p v src.theory)) z ∙ ap (take (suc (length c.before))) own_split ∙ take_front c.before e (c.later ++ src.rest)

        other_env : (cite_scope p v src.theory s'.element).env ≡ env_of all
        other_env = scope_env src.theory (1 + length c.before) ∙ ap (λ es. env_of (below p v src.theory ++ es)) taken

        all_follow : MayFollowAll [] all
        all_follow =
            let whole : below p v src.theory ++ own p v src.theory ≡ all ++ (c.later ++ src.rest) =
            ap (λ es. below p v src.theory ++ es) (own_split ∙ sym (append_assoc c.before (e ∷ []) (c.later ++ src.rest))) ∙ sym (append_assoc (below p v src.theory) (c.before ++ e ∷ []) (c.later ++ src.rest)) in
            (follow_split [] all (c.later ++ src.rest) (transport (MayFollowAll []) whole k'.follow)).0

        all_sound : IsSound (env_of all)
        all_sound = sound_all [] all empty_sound all_follow

        -- its elements are among those that the sequent may cite
        first_listed : AllByRecursion (Contains (below p v name.theory ++ q.at.before)) (below p v src.theory ++ src.first)
        first_listed =
            transport (AllByRecursion (Contains (below p v name.theory ++ q.at.before))) (offered_plain src.theory src.first)
            (transport (λ es. AllByRecursion (Contains es) (map (λ (x : CiteElement). x.element) (offered src.theory src.first))) (offered_plain name.theory q.at.before)
            (all_images (λ (x : CiteElement). x.element) (offered src.theory src.first) (offered name.theory q.at.before) src.among))

        all_listed : AllByRecursion (Contains (below p v name.theory ++ (q.at.before ++ q.at.own ∷ []))) all
        all_listed =
            let near : AllByRecursion (Contains (below p v name.theory ++ q.at.before)) (all ++ c.later) =
            transport (AllByRecursion (Contains (below p v name.theory ++ q.at.before)))
            (ap (λ es. below p v src.theory ++ es) (c.split ∙ sym (append_assoc c.before (e ∷ []) c.later)) ∙ sym (append_assoc (below p v src.theory) (c.before ++ e ∷ []) c.later)) first_listed in
            all_map (Contains (below p v name.theory ++ q.at.before)) (Contains (below p v name.theory ++ (q.at.before ++ q.at.own ∷ [])))
            (λ x m. transport (λ es. Contains es x) (append_assoc (below p v name.theory) q.at.before (q.at.own ∷ [])) (contains_front (below p v name.theory ++ q.at.before) (q.at.own ∷ []) x m))
            all (all_left (Contains (below p v name.theory ++ q.at.before)) all c.later near)

        part : IsPartOf (env_of all) (cite_scope p v name.theory s.element).env
        part =
            transport (IsPartOf (env_of all)) (sym (env_is p v name s (sound_at name.theory g) q))
            (parts all (listed p v name s (sound_at name.theory g) q) all_follow (listed_follow p v name s (sound_at name.theory g) q) all_listed)

        -- it is needed
        may_cite : Contains (claims (cite_scope p v name.theory s.element)) ref
        may_cite = label_stands name s g q ref e src label (λ (x : CiteElement). is_claim x.element) claimed

        needed : Contains (needs_of p v name.theory s lines) other
        needed =
            flat_stands (label_sequents p v) (filter (has_ref (claims (cite_scope p v name.theory s.element))) (cites lines)) ref other
            (filter_stands (has_ref (claims (cite_scope p v name.theory s.element))) (cites lines) ref listed_there (stands_any (claims (cite_scope p v name.theory s.element)) ref may_cite)) sequents_there
          where
            other_is : sequent_name src.theory s' ≡ other
            other_is = ap (λ k. record { theory = src.theory; label = ref.label; kind = k }) (kind_is D₀)

            at_theory : Contains (map (sequent_name src.theory) (filter (λ (x : TheorySequent). bytes_eq x.label ref.label) (theory_sequents p v src.theory))) other
            at_theory =
                transport (Contains (map (sequent_name src.theory) (filter (λ (x : TheorySequent). bytes_eq x.label ref.label) (theory_sequents p v src.theory)))) other_is
                (map_stands (sequent_name src.theory) (filter (λ (x : TheorySequent). bytes_eq x.label ref.label) (theory_sequents p v src.theory)) s'
                (filter_stands (λ (x : TheorySequent). bytes_eq x.label ref.label) (theory_sequents p v src.theory) s' (find_stands (is_called other) (theory_sequents p v src.theory) s' found) (name_same ref.label)))

            sequents_there : Contains (label_sequents p v ref) other
            sequents_there = transport (λ t. Contains (map (sequent_name t) (filter (λ (x : TheorySequent). bytes_eq x.label ref.label) (theory_sequents p v t))) other) (sym src.same) at_theory

        -- so it is proved
        at : KnownAt sts other
        at = known_at (needs_of p v name.theory s lines) sts known fine other needed

        other_position : Position p v other s'
        other_position = position p v other s' k' found

        axioms_more : (r : Ref) → Contains (axioms (cite_scope p v src.theory s'.element)) r → Contains (axioms (cite_scope p v name.theory s.element)) r
        axioms_more r m =
            transport (λ es. Contains (flat_map label_ref (filter (λ (x : CiteElement). is_axiom x.element) es)) r) (sym (citable_list name s (sound_at name.theory g) q))
            (refs_more (λ (x : CiteElement). is_axiom x.element) (citable (cite_scope p v src.theory s'.element)) (offered name.theory q.at.before) r citable_among m)
          where
            before_is : citable (cite_scope p v src.theory s'.element) ≡ offered src.theory c.before
            before_is =
                let flat = flat_map (λ u. cite_elements u (own p v u)) (reach p v src.theory) in
                let item : CiteElement = record { theory = src.theory; element = e } in
                let els_are : (cite_scope p v src.theory s'.element).elements ≡ offered src.theory c.before ++ item ∷ [] =
                ap (λ es. flat ++ cite_elements src.theory es) taken ∙ ap (λ es. flat ++ es) (map_both (λ x. record { theory = src.theory; element = x }) c.before (e ∷ [])) ∙ sym (append_assoc flat (cite_elements src.theory c.before) (item ∷ [])) in
                ap (λ n. take n (cite_scope p v src.theory s'.element).elements) (pred_is (length (cite_scope p v src.theory s'.element).elements)) ∙ ap (λ (es : List CiteElement). take (length es - 1) es) els_are ∙ but_last (offered src.theory c.before) item

            citable_among : AllByRecursion (Contains (offered name.theory q.at.before)) (citable (cite_scope p v src.theory s'.element))
            citable_among =
                transport (AllByRecursion (Contains (offered name.theory q.at.before))) (sym before_is)
                (all_left (Contains (offered name.theory q.at.before)) (offered src.theory c.before) (cite_elements src.theory (e ∷ c.later))
                (transport (AllByRecursion (Contains (offered name.theory q.at.before)))
                (ap (λ es. flat_map (λ u. cite_elements u (own p v u)) (reach p v src.theory) ++ es) (ap (cite_elements src.theory) c.split ∙ map_both (λ x. record { theory = src.theory; element = x }) c.before (e ∷ c.later))
                ∙ sym (append_assoc (flat_map (λ u. cite_elements u (own p v u)) (reach p v src.theory)) (cite_elements src.theory c.before) (cite_elements src.theory (e ∷ c.later)))) src.among))

        proved : at.status ≡ Proved
        proved = by at.status refl
          where
            leaning : (r : Ref) (rs : List Ref) → at.status ≡ Assumed (r ∷ rs) → ⊥
            leaning r rs h =
                let there : Contains (axioms (cite_scope p v src.theory s'.element)) r = (transport (λ st. AllByRecursion (Contains (axioms (cite_scope p v src.theory s'.element))) (status_axioms st)) h (at.known.axioms_there s' found)).0 in
                no_axiom r (axioms_more r there)
                (stands_behind (flat_map assume_refs lines) (flat_map status_axioms sts) r (flat_stands status_axioms sts at.status r at.stands (transport (λ st. Contains (status_axioms st) r) (sym h) (contains_first r rs))))

            by : (st : Status) → at.status ≡ st → at.status ≡ Proved
            by NoProof h = let no : false ≡ true = ap is_fine (sym h) ∙ at.fine in cc
            by (Broken n) h = let no : false ≡ true = ap is_fine (sym h) ∙ at.fine in cc
            by (Partial n) h = let no : false ≡ true = ap is_fine (sym h) ∙ at.fine in cc
            by (Leans x) h = let no : false ≡ true = ap is_fine (sym h) ∙ at.fine in cc
            by (Assumed []) h = absurd (at.known.some h)
            by (Assumed (r ∷ rs)) h = absurd (leaning r rs h)
            by Proved h = h

        pub claim_holds : ClaimHolds e o
        claim_holds =
            let formulas : HasFormulas (env_of all) e =
            member_holds (HasFormulas (env_of all)) all e (all_formulas [] all empty_sound all_follow) (transport (λ es. Contains es e) (append_assoc (below p v src.theory) c.before (e ∷ [])) (contains_last (below p v src.theory ++ c.before) e)) in
            let w : IsSound D₀ = transport IsSound all_env all_sound in
            let typed₀ : IsPredicate D₀ [] (o D₀).goal =
            member_holds (λ (x : Named). IsPredicate D₀ [] x.goal) (obligations D₀ e) (o D₀) (own_goals (with_elements (env_of (below p v src.theory)) c.before) e w (transport (λ D. HasFormulas D e) all_env formulas)) (find_stands (has_kind kind) (obligations D₀ e) (o D₀) (has D₀)) in
            let typed : IsPredicate (env_of all) [] (o (env_of all)).goal = transport (λ D. IsPredicate D [] (o D).goal) (sym all_env) typed₀ in
            let h₀ : HoldsUnfolded (cite_scope p v src.theory s'.element).env (o D₀).goal = at.known.holds src.good proved s' found in
            let h₁ : HoldsUnfolded (env_of all) (o (env_of all)).goal = transport (λ D. HoldsUnfolded (env_of all) (o D).goal) (sym all_env) (transport (λ D. HoldsUnfolded D (o D₀).goal) other_env h₀) in
            record {
              env = env_of all;
              sound = all_sound;
              part = part;
              formulas = formulas;
              holds = holds_over (env_of all) (cite_scope p v name.theory s.element).env all_sound (scope_sound p v name s (sound_at name.theory g) q) part (o (env_of all)).goal typed h₁;
            }
