-- Where the status of a sequent is `proved`, its unfolded goal is derivable.
use Rattle.std.specs.Prelude.{◌≡◌, ◌++◌, ◌||◌, zero, suc, Bool as Boolean, true, false, if◌then◌else◌, List, [], ◌∷◌, Some, Ok, Err, map, flat_map, find, bytes_eq, Contains, refl}
use Rattle.std.specs.List.{AllByRecursion, list_any}
use Rattle.std.proofs.Common.{ap, sym, ◌∙◌, subst as transport, arith}
use Rattle.ev_typing.specs.Env.{Name}
use Rattle.ev_typing.proofs.Names.{same_name, name_same}
use Rattle.ev_rules.specs.declared.elements.Element.{Element}
use Rattle.ev_ops.specs.Entries.{env_of}
use Rattle.ev_ops.specs.Formulas.{MayFollowAll}
use Rattle.ev_ops.proofs.Basics.{contains_first, contains_more}
use Rattle.ev_script.specs.declared.sequent_names.SeqName.{SeqName}
use Rattle.ev_elab.specs.declared.theories.Theory.{Theory}
use Rattle.ev_elab.specs.declared.theories.TheorySequent.{TheorySequent}
use Rattle.ev_elab.specs.States.{elements_of as elements_of_all, reached_elements}
use Rattle.ev_elab.specs.Elaborated.{IsTheory, IsSoundTheory, sequents_from}
use Rattle.ev_elab.proofs.Standing.{follow_append}
use Rattle.ev_project.specs.declared.statuses.Status.TheVariants.{Proved}
use Rattle.ev_project.specs.Projects.{Project, has_text}
use Rattle.ev_project.specs.Texts.{is_among}
use Rattle.ev_project.specs.Contents.{Elaboration, Contents, IsElaboration, elements_of, sequents_of, imports}
use Rattle.ev_project.specs.Scopes.{reached_theory, scope, find_sequent, IsElaborated, IsReadAt}
use Rattle.ev_project.specs.Orders.{AreInOrder}
use Rattle.ev_project.specs.Kept.{IsKept}
use Rattle.ev_project.specs.Laws.{TheoriesAreSound}
use Rattle.ev_project.proofs.LawProofs.{reached_in_order, scopes_reached, scopes_sound}
use Rattle.ev_sound.specs.Headline.{ProvedIsDerivable}
use Rattle.ev_sound.proofs.Goals.{member_holds}
use Rattle.ev_sound.proofs.Sequents.{is_called}
use Rattle.ev_sound.proofs.Positions.{own, reach, below, IsSoundAt}
use Rattle.ev_sound.proofs.Proved.{known_of}

-- Names among others.
among_stands : (ns : List Name) (n : Name) → is_among ns n ≡ true → Contains ns n
among_stands [] n h = cc
among_stands (m ∷ ns) n h = by (bytes_eq n m) refl h (among_stands ns n)
  where
    by : (b : Boolean) → bytes_eq n m ≡ b → (b || list_any (bytes_eq n) ns) ≡ true → (list_any (bytes_eq n) ns ≡ true → Contains ns n) → Contains (m ∷ ns) n
    by true q k g = transport (λ y. Contains (m ∷ ns) y) (sym (same_name n m q)) (contains_first m ns)
    by false q k g = contains_more n m ns (g k)

stands_among : (ns : List Name) (n : Name) → Contains ns n → is_among ns n ≡ true
stands_among [] n (k, l, q) = absurd (omega arith)
stands_among (m ∷ ns) n (zero, l, q) = ap (λ b. b || list_any (bytes_eq n) ns) (ap (bytes_eq n) q ∙ name_same n)
stands_among (m ∷ ns) n (suc k, l, q) = by (bytes_eq n m) (stands_among ns n (k, omega arith, q))
  where
    by : (b : Boolean) → list_any (bytes_eq n) ns ≡ true → (b || list_any (bytes_eq n) ns) ≡ true
    by true g = refl
    by false g = g

each_in : (P : Name → Type 0) (ns : List Name) → ((n : Name) → Contains ns n → P n) → AllByRecursion P ns
each_in P [] h = tt
each_in P (n ∷ ns) h = (h n (contains_first n ns), each_in P ns (λ m c. h m (contains_more m n ns c)))

module _ (sound : TheoriesAreSound) (p : Project) (v : Contents) (kept : IsKept p) where
  -- a theory that is there and not faulty
  record IsGood (n : Name) : Type 0 where
    read : IsReadAt p v n
    here : has_text p n ≡ true
    theory : Theory
    elaborated : v.elaboration n ≡ Ok theory

  ordered : (n : Name) → IsGood n → AreInOrder p (imports p v) n
  ordered n g = reached_in_order p v kept.orderly.acyclic g.read.elements_read n

  reached_plain : (us : List Name) → elements_of_all (map (reached_theory p v) us) ≡ flat_map (own p v) us
  reached_plain [] = refl
  reached_plain (u ∷ us) = ap (λ es. own p v u ++ es) (reached_plain us)

  below_is : (n : Name) → has_text p n ≡ true → reached_elements (scope p v n) ≡ below p v n
  below_is n h = ap elements_of_all (scopes_reached p v n h) ∙ reached_plain (reach p v n)

  sound_at : (n : Name) → IsGood n → IsSoundAt p v n
  sound_at n g = record {
    follow =
        transport (λ es. MayFollowAll [] (below p v n ++ es)) (sym own_is)
        (follow_append [] (below p v n) g.theory.elements (transport (MayFollowAll []) (below_is n g.here) s.scope_follows) (transport (λ es. MayFollowAll (env_of es) g.theory.elements) (below_is n g.here) s.follow));
    texts = λ u c. (ordered n g).there u (stands_among (reach p v n) u c);
    sequents = λ h.
        ap (λ b. if b then sequents_of (v.elaboration n) else []) h ∙ ap sequents_of g.elaborated ∙ is_theory.sequents
        ∙ ap (λ es. sequents_from (env_of es) 1 g.theory.elements) (below_is n g.here) ∙ ap (sequents_from (env_of (below p v n)) 1) (sym own_is);
  }
    where
      s : IsSoundTheory (scope p v n) g.theory
      s = (scopes_sound sound).theories p v n kept g.read g.here g.theory g.elaborated

      own_is : own p v n ≡ g.theory.elements
      own_is = ap elements_of g.elaborated

      is_theory : IsTheory (scope p v n) (v.raw_elements n) g.theory
      is_theory = transport (IsElaboration (scope p v n) (v.raw_elements n)) g.elaborated (g.read.elaborated g.here)

  good_elaboration : (u : Name) (x : Element) → Contains (own p v u) x → (T : Theory) × (v.elaboration u ≡ Ok T)
  good_elaboration u x c = by (v.elaboration u) refl c
    where
      by : (e : Elaboration) → v.elaboration u ≡ e → Contains (elements_of e) x → (T : Theory) × (v.elaboration u ≡ Ok T)
      by (Ok T) q d = (T, q)
      by (Err f) q (k, l, i) = absurd (omega arith)

  within : (n u w : Name) → IsGood n → Contains (reach p v n) u → Contains (reach p v u) w → Contains (reach p v n) w
  within n u w g c d = among_stands (reach p v n) w ((ordered n g).within u w (stands_among (reach p v n) u c) (stands_among (reach p v u) w d))

  closed : (n u : Name) (x : Element) → IsGood n → Contains (reach p v n) u → Contains (own p v u) x → IsGood u
  closed n u x g c d =
      let t = good_elaboration u x d in
      record {
        read = record {
          elements_read = g.read.elements_read;
          elaborated = member_holds (IsElaborated p v) (reach p v n) u g.read.below c;
          below = each_in (IsElaborated p v) (reach p v u) (λ w m. member_holds (IsElaborated p v) (reach p v n) w g.read.below (within n u w g c m));
        };
        here = (ordered n g).there u (stands_among (reach p v n) u c);
        theory = t.0;
        elaborated = t.1;
      }

  good : (name : SeqName) (s : TheorySequent) → IsReadAt p v name.theory → find_sequent p v name ≡ Some s → IsGood name.theory
  good name s r f = by (has_text p name.theory) (v.elaboration name.theory) refl refl f
    where
      by : (b : Boolean) (e : Elaboration) → has_text p name.theory ≡ b → v.elaboration name.theory ≡ e → find (is_called name) (if b then sequents_of e else []) ≡ Some s → IsGood name.theory
      by true (Ok T) h q g = record { read = r; here = h; theory = T; elaborated = q }
      by true (Err x) h q g = cc
      by false e h q g = cc

pub proved_is_derivable : TheoriesAreSound → ProvedIsDerivable
proved_is_derivable sound p v name s kept r f st =
    (known_of p v (IsGood sound p v kept) (sound_at sound p v kept) (closed sound p v kept) (within sound p v kept) name Proved st).holds (good sound p v kept name s r f) refl s f
