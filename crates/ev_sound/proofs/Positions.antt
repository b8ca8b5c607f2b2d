-- Where a sequent stands in its project: the elements that its proof may cite, and their environment.
use Rattle.std.specs.Prelude.{◌≡◌, ◌+◌, ◌-◌, ◌++◌, ℕ, zero, suc, Bool as Boolean, true, false, if◌then◌else◌, cond, List, [], ◌∷◌, Some, None, map, flat_map, find, take, length, pred, Contains, refl}
use Rattle.std.specs.List.{AllByRecursion}
use Rattle.std.proofs.Common.{ap, sym, ◌∙◌, subst as transport, append_assoc, arith}
use Rattle.ev_typing.specs.declared.typing.Entry.{Entry}
use Rattle.ev_typing.specs.declared.typing.Entry.TheVariants as entry
use Rattle.ev_typing.specs.Env.{Env, Name, Symbol, DirectOf, RecursiveOf, look_up, find_symbol, symbols}
use Rattle.ev_typing.specs.Typing.{IsPredicate, IsSequent}
use Rattle.ev_typing.proofs.Names.{name_same}
use Rattle.ev_typing.proofs.Entries.{symbols_named}
use Rattle.ev_typing.proofs.Wholes.{found_whole, whole_has_all}
use Rattle.ev_data.specs.Sound.{IsSound}
use Rattle.ev_rules.specs.declared.elements.Element.{Element}
use Rattle.ev_rules.specs.declared.elements.Element.TheVariants.{Import, Params, Data, Direct, Recursive, Constant, Axiom, Theorem, Rewrite, Inference}
use Rattle.ev_ops.specs.Entries.{with_element, with_elements, env_of}
use Rattle.ev_ops.specs.Formulas.{HasFormulas, MayFollowAll}
use Rattle.ev_ops.specs.Unfold.{unfold_by, bodies_after}
use Rattle.ev_ops.proofs.Fitting.{contains_last}
use Rattle.ev_oblig.specs.declared.named.Named.{Named}
use Rattle.ev_oblig.specs.Obligations.{obligations}
use Rattle.ev_script.specs.declared.sequent_names.SeqName.{SeqName}
use Rattle.ev_replay.specs.declared.scopes.CiteElement.{CiteElement}
use Rattle.ev_replay.specs.Scopes.{IsScope}
use Rattle.ev_elab.specs.declared.theories.TheorySequent.{TheorySequent}
use Rattle.ev_elab.specs.Elaborated.{sequents_from}
use Rattle.ev_elab.proofs.Standing.{sound_all, empty_sound, sound_after, formulas_over, part_elements, follow_split}
use Rattle.ev_project.specs.Projects.{Project, has_text}
use Rattle.ev_project.specs.Contents.{Contents, elements_of, sequents_of, imports}
use Rattle.ev_project.specs.Graphs.{reached_names}
use Rattle.ev_project.specs.Scopes.{cite_elements, goal_sequent, cite_scope, theory_sequents, find_sequent}
use Rattle.ev_sound.proofs.Goals.{Stands, goals_typed, member_holds}
use Rattle.ev_sound.proofs.Sequents.{SequentAt, is_called, find_stands, sequent_at}
use Rattle.ev_sound.proofs.Cited.{but_last}

-- Lists.
pub map_both : {X Y : Type 0} (f : X → Y) (xs ys : List X) → map f (xs ++ ys) ≡ map f xs ++ map f ys
map_both f [] ys = refl
map_both f (x ∷ xs) ys = ap (λ zs. f x ∷ zs) (map_both f xs ys)

pub take_front : {X : Type 0} (xs : List X) (x : X) (ys : List X) → take (suc (length xs)) (xs ++ x ∷ ys) ≡ xs ++ x ∷ []
take_front [] x ys = refl
take_front (z ∷ zs) x ys = ap (λ ws. z ∷ ws) (take_front zs x ys)

pub pred_is : (n : ℕ) → pred n ≡ n - 1
pred_is zero = refl
pred_is (suc n) = omega arith

pub plain_elements : (n : Name) (es : List Element) → map (λ (c : CiteElement). c.element) (cite_elements n es) ≡ es
plain_elements n [] = refl
plain_elements n (e ∷ es) = ap (λ xs. e ∷ xs) (plain_elements n es)

pub plain_all : (E : Name → List Element) (us : List Name) → map (λ (c : CiteElement). c.element) (flat_map (λ u. cite_elements u (E u)) us) ≡ flat_map E us
plain_all E [] = refl
plain_all E (u ∷ us) =
    map_both (λ (c : CiteElement). c.element) (cite_elements u (E u)) (flat_map (λ x. cite_elements x (E x)) us)
    ∙ ap (λ xs. xs ++ map (λ (c : CiteElement). c.element) (flat_map (λ x. cite_elements x (E x)) us)) (plain_elements u (E u)) ∙ ap (λ xs. E u ++ xs) (plain_all E us)

pub elements_append : (e : Env) (xs ys : List Element) → with_elements e (xs ++ ys) ≡ with_elements (with_elements e xs) ys
elements_append e [] ys = refl
elements_append e (x ∷ xs) ys = elements_append (with_element e x) xs ys

-- Elements that follow one another have formulas over the whole.
pub all_formulas : (e : Env) (xs : List Element) → IsSound e → MayFollowAll e xs → AllByRecursion (HasFormulas (with_elements e xs)) xs
all_formulas e [] s h = tt
all_formulas e (x ∷ xs) s h =
    let next = sound_after e _ s h.0.0 in
    let w = sound_all (with_element e x) xs next h.1 in
    (formulas_over (with_element e x) (with_elements (with_element e x) xs) (whole_has_all _ _ (part_elements (with_element e x) xs) w.well_formed.distinct) x h.0.1, all_formulas (with_element e x) xs next h.1)

-- An operator stands in the environment with it.
last_symbol : (e : Env) (d : Entry) (n : Name) (s : Symbol) → IsSound (e ++ d ∷ []) → symbols d ≡ (n, s) ∷ [] → find_symbol (e ++ d ∷ []) n ≡ Some s
last_symbol e d n s w q =
    found_whole symbols symbols_named (e ++ d ∷ []) d n s w.well_formed.distinct (contains_last e d)
    (ap (λ ps. look_up ps n) q ∙ ap (λ b. cond b (Some s) None) (name_same n))

stands_own : (e : Env) (x : Element) → IsSound (with_element e x) → Stands (with_element e x) x
stands_own e (Import n) w = tt
stands_own e (Params ns) w = tt
stands_own e (Data d) w = tt
stands_own e (Direct sig c body) w = last_symbol e (entry.Direct sig c body) sig.name (DirectOf sig c body) w refl
stands_own e (Recursive sig c place bodies) w =
    (map (unfold_by (bodies_after [] e)) bodies, last_symbol e (entry.Recursive sig c place (map (unfold_by (bodies_after [] e)) bodies)) sig.name (RecursiveOf sig c place (map (unfold_by (bodies_after [] e)) bodies)) w refl)
stands_own e (Constant sig c) w = tt
stands_own e (Axiom l P) w = tt
stands_own e (Theorem l P) w = tt
stands_own e (Rewrite r) w = tt
stands_own e (Inference r) w = tt

-- The goals of an element that follows others are closed predicates over the environment with it.
pub own_goals : (e : Env) (x : Element) → IsSound (with_element e x) → HasFormulas (with_element e x) x → AllByRecursion (λ (o : Named). IsPredicate (with_element e x) [] o.goal) (obligations (with_element e x) x)
own_goals e x w f = goals_typed (with_element e x) w.well_formed x (stands_own e x w) f

module _ (p : Project) (v : Contents) where
  -- the elements of a theory, and of those that it reaches
  abbrev pub own : Name → List Element
  own n = elements_of (v.elaboration n)

  abbrev pub reach : Name → List Name
  reach n = reached_names p (imports p v) n

  abbrev pub below : Name → List Element
  below n = flat_map own (reach n)

  -- a theory whose elements, and those of its scope, may follow one another; its sequents are theirs
  pub record IsSoundAt (n : Name) : Type 0 where
    pub follow : MayFollowAll [] (below n ++ own n)
    pub texts : (u : Name) → Contains (reach n) u → has_text p u ≡ true
    pub sequents : has_text p n ≡ true → theory_sequents p v n ≡ sequents_from (env_of (below n)) 1 (own n)

  -- A sequent of such a theory.
  pub record Position (name : SeqName) (s : TheorySequent) : Type 0 where
    pub here : has_text p name.theory ≡ true
    pub at : SequentAt (env_of (below name.theory)) 1 (own name.theory) s

  has_theory : (name : SeqName) (s : TheorySequent) → find_sequent p v name ≡ Some s → has_text p name.theory ≡ true
  has_theory name s h = by (has_text p name.theory) refl h
    where
      by : (b : Boolean) → has_text p name.theory ≡ b → find (is_called name) (if b then sequents_of (v.elaboration name.theory) else []) ≡ Some s → has_text p name.theory ≡ true
      by true q g = q
      by false q g = cc

  pub position : (name : SeqName) (s : TheorySequent) → IsSoundAt name.theory → find_sequent p v name ≡ Some s → Position name s
  position name s k h =
      let here = has_theory name s h in
      record { here = here; at = sequent_at (env_of (below name.theory)) 1 (own name.theory) s (find_stands (is_called name) (sequents_from (env_of (below name.theory)) 1 (own name.theory)) s (ap (find (is_called name)) (sym (k.sequents here)) ∙ h)) }

  module _ (name : SeqName) (s : TheorySequent) (k : IsSoundAt name.theory) (q : Position name s) where
    -- what may be cited, as elements
    abbrev pub listed : List Element
    listed = below name.theory ++ (q.at.before ++ q.at.own ∷ [])

    taken : take s.element (own name.theory) ≡ q.at.before ++ q.at.own ∷ []
    taken =
        let z : s.element ≡ suc (length q.at.before) = q.at.number ∙ (let y : 1 + length q.at.before ≡ suc (length q.at.before) = omega arith in y) in
        ap (λ j. take j (own name.theory)) z ∙ ap (take (suc (length q.at.before))) q.at.split ∙ take_front q.at.before q.at.own q.at.later

    pub elements_are : (cite_scope p v name.theory s.element).elements ≡ (flat_map (λ u. cite_elements u (own u)) (reach name.theory) ++ cite_elements name.theory q.at.before) ++ record { theory = name.theory; element = q.at.own } ∷ []
    elements_are =
        ap (λ es. flat_map (λ u. cite_elements u (own u)) (reach name.theory) ++ cite_elements name.theory es) taken
        ∙ ap (λ es. flat_map (λ u. cite_elements u (own u)) (reach name.theory) ++ es) (map_both (λ e. record { theory = name.theory; element = e }) q.at.before (q.at.own ∷ []))
        ∙ sym (append_assoc (flat_map (λ u. cite_elements u (own u)) (reach name.theory)) (cite_elements name.theory q.at.before) (record { theory = name.theory; element = q.at.own } ∷ []))

    pub citable_are : take (length (cite_scope p v name.theory s.element).elements - 1) (cite_scope p v name.theory s.element).elements ≡ flat_map (λ u. cite_elements u (own u)) (reach name.theory) ++ cite_elements name.theory q.at.before
    citable_are =
        ap (λ (es : List CiteElement). take (length es - 1) es) elements_are
        ∙ but_last (flat_map (λ u. cite_elements u (own u)) (reach name.theory) ++ cite_elements name.theory q.at.before) (record { theory = name.theory; element = q.at.own })

    pub listed_are : map (λ (c : CiteElement). c.element) (cite_scope p v name.theory s.element).elements ≡ listed
    listed_are =
        map_both (λ (c : CiteElement). c.element) (flat_map (λ u. cite_elements u (own u)) (reach name.theory)) (cite_elements name.theory (take s.element (own name.theory)))
        ∙ ap (λ es. es ++ map (λ (c : CiteElement). c.element) (cite_elements name.theory (take s.element (own name.theory)))) (plain_all own (reach name.theory))
        ∙ ap (λ es. below name.theory ++ es) (plain_elements name.theory (take s.element (own name.theory)) ∙ taken)

    pub env_is : (cite_scope p v name.theory s.element).env ≡ env_of listed
    env_is = ap env_of listed_are

    pub listed_follow : MayFollowAll [] listed
    listed_follow =
        let all : below name.theory ++ own name.theory ≡ listed ++ q.at.later =
        ap (λ es. below name.theory ++ es) (q.at.split ∙ sym (append_assoc q.at.before (q.at.own ∷ []) q.at.later)) ∙ sym (append_assoc (below name.theory) (q.at.before ++ q.at.own ∷ []) q.at.later) in
        (follow_split [] listed q.at.later (transport (MayFollowAll []) all k.follow)).0

    pub listed_sound : IsSound (env_of listed)
    listed_sound = sound_all [] listed empty_sound listed_follow

    pub own_env : env_of listed ≡ with_element (with_elements (env_of (below name.theory)) q.at.before) q.at.own
    own_env = elements_append [] (below name.theory) (q.at.before ++ q.at.own ∷ []) ∙ elements_append (env_of (below name.theory)) q.at.before (q.at.own ∷ [])

    own_formulas : HasFormulas (env_of listed) q.at.own
    own_formulas = last_holds listed_formulas
      where
        listed_formulas : AllByRecursion (HasFormulas (env_of listed)) listed
        listed_formulas = all_formulas [] listed empty_sound listed_follow

        last_holds : AllByRecursion (HasFormulas (env_of listed)) listed → HasFormulas (env_of listed) q.at.own
        last_holds h = member_holds (HasFormulas (env_of listed)) listed q.at.own h (transport (λ es. Contains es q.at.own) (append_assoc (below name.theory) q.at.before (q.at.own ∷ [])) (contains_last (below name.theory ++ q.at.before) q.at.own))

    pub goal_typed : IsPredicate (env_of listed) [] s.goal
    goal_typed =
        let D = with_element (with_elements (env_of (below name.theory)) q.at.before) q.at.own in
        let w : IsSound D = transport IsSound own_env listed_sound in
        let f : HasFormulas D q.at.own = transport (λ e. HasFormulas e q.at.own) own_env own_formulas in
        let typed : IsPredicate D [] q.at.obligation.goal = member_holds (λ (o : Named). IsPredicate D [] o.goal) (obligations D q.at.own) q.at.obligation (own_goals (with_elements (env_of (below name.theory)) q.at.before) q.at.own w f) q.at.among in
        transport (λ e. IsPredicate e [] s.goal) (sym own_env) (transport (IsPredicate D []) (sym q.at.goal) typed)

    -- the scope of its proof
    pub scope_is : IsScope (cite_scope p v name.theory s.element)
    scope_is = record {
      env_is = refl;
      formulas = transport (AllByRecursion (HasFormulas (cite_scope p v name.theory s.element).env)) (sym listed_are) (transport (λ e. AllByRecursion (HasFormulas e) listed) (sym env_is) (all_formulas [] listed empty_sound listed_follow));
    }

    pub scope_sound : IsSound (cite_scope p v name.theory s.element).env
    scope_sound = transport IsSound (sym env_is) listed_sound

    pub sequent_typed : IsSequent (cite_scope p v name.theory s.element).env (goal_sequent s)
    sequent_typed = record { context = tt; hyps = tt; goal = transport (λ e. IsPredicate e [] s.goal) (sym env_is) goal_typed }
