-- How what the parts of a pattern add to what is found comes together.
use Rattle.std.proofs.Common.{◌≡◌, ℕ, zero, suc, ◌+◌, ◌-◌, ◌<◌, ◌≤◌, min, ◌^◌, List, [], ◌∷◌, length, reverse, replicate, drop, get_or, inl, inr, Some, None, slice_get, refl, sym, ap, ◌∙◌, arith, subst as transport}
use Rattle.std.specs.Prelude.{Bool as Boolean, true, false, ◌||◌, ◌==◌, ◌↔◌, ◌⊎◌, IsTrue, unwrap_or}
use Rattle.std.proofs.lemmas.Bool.Decides.{nat_tests}
use Rattle.std.proofs.lemmas.List.{length-set, length-replicate}
use Rattle.std.proofs.lemmas.Option.{slice_get-get_or, slice_get_past, same_Some, none-some}
use Rattle.ev_terms.specs.declared.types.Ty.{Ty, Int, Bool, Prop, Param, Data}
use Rattle.ev_terms.specs.declared.types.Tys.{Tys, Empty}
use Rattle.ev_terms.specs.declared.types.Ty.TheVariants.{Pow, Prod}
use Rattle.ev_terms.specs.declared.types.Tys.TheVariants.{More}
use Rattle.ev_terms.specs.declared.types.Sym.{Sym}
use Rattle.ev_terms.specs.Types.{pow, prod, more, Pow-pow, Prod-prod, More-more}
use Rattle.ev_terms.specs.Term.{Term, Terms, var, lit, node, nil, cons, terms, var_of, sym_of}
use Rattle.ev_terms.specs.Symbols.{binds}
use Rattle.ev_terms.specs.Measures.{loose, all_loose}
use Rattle.ev_terms.specs.Substitution.{shift, lifts, inst, insts, entry, type_at, type_inst, types_inst, retype, retypes}
use Rattle.ev_terms.proofs.Laws.{lifts-below, lifts-past, lifts-lifts, insts-id}
use Rattle.ev_terms.proofs.ListLaws.{subst-shift, insts_below}
use Rattle.ev_terms.proofs.Children.{drop_at, drop_all}
use Rattle.ev_terms.proofs.Sizes.{all_loose-retypes}
use Rattle.ev_terms.proofs.AnyLaws.{fill_given}
use Rattle.ev_typing.specs.TypeLists.{types}
use Rattle.ev_typing.specs.Occurs.{has_param, have_param, mentions_param, mention_param, has_var, have_var}
use Rattle.ev_typing.proofs.Laws.{type_list-types}
use Rattle.ev_rewrite.specs.declared.slots.Found.{Found}
use Rattle.ev_rewrite.specs.Matching.{Agree}
use Rattle.ev_rewrite.specs.inner.Slots.{IsPut, is_given}
use Rattle.ev_rewrite.specs.inner.Taken.{Agrees, Demand, IsStep, IsTaken, TypeTaken, TypesTaken, TermTaken, TermsTaken}
use Rattle.ev_rewrite.proofs.TypeParts.{pow_part, left_part, right_part, name_part, data_part, head_part, tail_part}
use Rattle.ev_rewrite.proofs.SlotSteps.{agree_put, put_agrees, open_for, given_put, agree_length}

-- Steps of any kind.
or_assoc : (a b c : Boolean) → ((a || b) || c) ≡ (a || (b || c))
or_assoc true b c = refl
or_assoc false b c = refl

or_false : (a : Boolean) → a ≡ (a || false)
or_false true = refl
or_false false = refl

pub step_of : (E : Demand) (p q : ℕ → Boolean) (old new : Found) (b : Boolean) → b ≡ true → IsTaken E p q old new b → IsStep E p q old new
step_of E p q old new true e h = h
step_of E p q old new false e h = cc

pub taken_by : (E : Demand) (p q : ℕ → Boolean) (old new : Found) (b : Boolean) → b ≡ true → IsStep E p q old new → IsTaken E p q old new b
taken_by E p q old new true e h = h
taken_by E p q old new false e h = cc

pub refused_by : (E : Demand) (p q : ℕ → Boolean) (old new : Found) (b : Boolean) → b ≡ false → IsTaken E p q old new b →
    (As : List Ty) (ts : List Term) → Agrees old As ts → ¬ E As ts
refused_by E p q old new true e h = cc
refused_by E p q old new false e h = h

-- a demand that is the same of all that agrees with what was found
pub along : (E F : Demand) (p q p' q' : ℕ → Boolean) (old new : Found) (b : Boolean) →
    ((As : List Ty) (ts : List Term) → Agrees old As ts → E As ts → F As ts) →
    ((As : List Ty) (ts : List Term) → Agrees old As ts → F As ts → E As ts) →
    ((j : ℕ) → j < length old.types.items → p j ≡ p' j) → ((i : ℕ) → i < length old.terms.items → q i ≡ q' i) →
    IsTaken E p q old new b → IsTaken F p' q' old new b
along E F p q p' q' old new true f g pp qq h = record {
  type_count = h.type_count;
  term_count = h.term_count;
  types_where = λ j k. h.types_where j k ∙ ap (λ x. is_given old.types.items j || x) (pp j k);
  terms_where = λ i k. h.terms_where i k ∙ ap (λ x. is_given old.terms.items (length old.terms.items - 1 - i) || x) (qq i k);
  before = h.before;
  holds = λ As ts a. f As ts (h.before As ts a) (h.holds As ts a);
  all = λ As ts a e. h.all As ts a (g As ts a e);
}
along E F p q p' q' old new false f g pp qq h = λ As ts a e. h As ts a (g As ts a e)

-- one demand after another
pub after_step : (E F : Demand) (p q p' q' : ℕ → Boolean) (old mid new : Found) (b : Boolean) → IsStep E p q old mid → IsTaken F p' q' mid new b →
    IsTaken (λ As ts. E As ts × F As ts) (λ j. p j || p' j) (λ i. q i || q' i) old new b
after_step E F p q p' q' old mid new true s h = record {
  type_count = h.type_count ∙ s.type_count;
  term_count = h.term_count ∙ s.term_count;
  types_where = λ j k. h.types_where j (transport (λ n. j < n) (sym s.type_count) k) ∙ ap (λ x. x || p' j) (s.types_where j k) ∙ or_assoc (is_given old.types.items j) (p j) (p' j);
  terms_where = λ i k.
      transport (λ n. is_given new.terms.items (n - 1 - i) ≡ (is_given mid.terms.items (n - 1 - i) || q' i)) s.term_count (h.terms_where i (transport (λ n. i < n) (sym s.term_count) k))
      ∙ ap (λ x. x || q' i) (s.terms_where i k) ∙ or_assoc (is_given old.terms.items (length old.terms.items - 1 - i)) (q i) (q' i);
  before = λ As ts a. s.before As ts (h.before As ts a);
  holds = λ As ts a. (s.holds As ts (h.before As ts a), h.holds As ts a);
  all = λ As ts a e. h.all As ts (s.all As ts a e.0) e.1;
}
after_step E F p q p' q' old mid new false s h = λ As ts a e. h As ts (s.all As ts a e.0) e.1

-- a demand that all meet
pub no_step : (E : Demand) (p q : ℕ → Boolean) (old : Found) → ((As : List Ty) (ts : List Term) → E As ts) → ((j : ℕ) → p j ≡ false) → ((i : ℕ) → q i ≡ false) → IsStep E p q old old
no_step E p q old f pp qq = record {
  type_count = refl;
  term_count = refl;
  types_where = λ j k. or_false (is_given old.types.items j) ∙ ap (λ x. is_given old.types.items j || x) (sym (pp j));
  terms_where = λ i k.
      or_false (is_given old.terms.items (length old.terms.items - 1 - i)) ∙ ap (λ x. is_given old.terms.items (length old.terms.items - 1 - i) || x) (sym (qq i));
  before = λ As ts a. a;
  holds = λ As ts a. f As ts;
  all = λ As ts a e. a;
}

-- a demand that is a fact, or a fault
pub fact_taken : (E : Demand) (p q : ℕ → Boolean) (old : Found) (P : Type 0) (b : Boolean) → (IsTrue b ↔ P) → (P → (As : List Ty) (ts : List Term) → E As ts) →
    ((As : List Ty) (ts : List Term) → E As ts → P) → ((j : ℕ) → p j ≡ false) → ((i : ℕ) → q i ≡ false) → IsTaken E p q old old b
fact_taken E p q old P true h f g pp qq = no_step E p q old (f (h.0 refl)) pp qq
fact_taken E p q old P false h f g pp qq = λ As ts a e. let never : IsTrue false = h.1 (g As ts e) in cc

-- Types.
prod_eq : (A B C D : Ty) → A ≡ C → B ≡ D → prod A B ≡ prod C D
prod_eq A B C D p q = ap (λ (X : Ty). prod X B) p ∙ ap (λ (Y : Ty). prod C Y) q

more_eq : (A B : Ty) (As Bs : Tys) → A ≡ B → As ≡ Bs → more A As ≡ more B Bs
more_eq A B As Bs p q = ap (λ (X : Ty). more X As) p ∙ ap (λ (Y : Tys). more B Y) q

pub taken_pow : (A B a b : Ty) (old new : Found) (r : Boolean) → A ≡ Pow a → B ≡ Pow b → TypeTaken a b old new r → TypeTaken A B old new r
taken_pow A B a b old new r p q h =
    transport (λ X. TypeTaken X B old new r) (sym (p ∙ Pow-pow a)) (transport (λ Y. TypeTaken (pow a) Y old new r) (sym (q ∙ Pow-pow b))
    (along (λ As ts. type_inst (type_at (types As)) a ≡ b) (λ As ts. type_inst (type_at (types As)) (pow a) ≡ pow b) (λ j. has_param j a) (λ i. false) (λ j. has_param j (pow a)) (λ i. false) old new r
    (λ As ts g e. ap (λ (X : Ty). pow X) e) (λ As ts g e. ap pow_part e) (λ j k. refl) (λ i k. refl) h))

pub taken_prod : (A B a b c d : Ty) (old mid new : Found) (s r : Boolean) → A ≡ Prod a b → B ≡ Prod c d → s ≡ true → TypeTaken a c old mid s → TypeTaken b d mid new r →
    TypeTaken A B old new r
taken_prod A B a b c d old mid new s r p q t g h =
    transport (λ X. TypeTaken X B old new r) (sym (p ∙ Prod-prod a b)) (transport (λ Y. TypeTaken (prod a b) Y old new r) (sym (q ∙ Prod-prod c d))
    (along (λ As ts. (type_inst (type_at (types As)) a ≡ c) × (type_inst (type_at (types As)) b ≡ d)) (λ As ts. type_inst (type_at (types As)) (prod a b) ≡ prod c d)
    (λ j. has_param j a || has_param j b) (λ i. false) (λ j. has_param j (prod a b)) (λ i. false) old new r
    (λ As ts g' e. prod_eq _ _ _ _ e.0 e.1) (λ As ts g' e. (ap left_part e, ap right_part e)) (λ j k. refl) (λ i k. refl)
    (after_step (λ As ts. type_inst (type_at (types As)) a ≡ c) (λ As ts. type_inst (type_at (types As)) b ≡ d) (λ j. has_param j a) (λ i. false) (λ j. has_param j b) (λ i. false) old mid new r
    (step_of _ _ _ old mid s t g) h)))

pub refused_prod : (A B a b c d : Ty) (old mid new : Found) (s : Boolean) → A ≡ Prod a b → B ≡ Prod c d → s ≡ false → TypeTaken a c old mid s → TypeTaken A B old new false
refused_prod A B a b c d old mid new s p q t g = λ As ts w e.
    let e' : type_inst (type_at (types As)) (prod a b) ≡ prod c d = sym (ap (type_inst (type_at (types As))) (p ∙ Prod-prod a b)) ∙ e ∙ q ∙ Prod-prod c d in
    refused_by _ _ _ old mid s t g As ts w (ap left_part e')

pub taken_data : (A B : Ty) (n m : List ℕ) (As Bs : Tys) (old new : Found) (r : Boolean) → A ≡ Data n As → B ≡ Data m Bs → n ≡ m → TypesTaken As Bs old new r → TypeTaken A B old new r
taken_data A B n m As Bs old new r p q e h =
    transport (λ X. TypeTaken X B old new r) (sym p) (transport (λ Y. TypeTaken (Data n As) Y old new r) (sym (q ∙ ap (λ k. Data k Bs) (sym e)))
    (along (λ Cs ts. types_inst (type_at (types Cs)) As ≡ Bs) (λ Cs ts. type_inst (type_at (types Cs)) (Data n As) ≡ Data n Bs) (λ j. have_param j As) (λ i. false) (λ j. has_param j (Data n As)) (λ i. false) old new r
    (λ Cs ts g f. ap (λ (X : Tys). Data n X) f) (λ Cs ts g f. ap data_part f) (λ j k. refl) (λ i k. refl) h))

-- a datatype of another name
pub refused_name : (A B : Ty) (n m : List ℕ) (As Bs : Tys) (old new : Found) → A ≡ Data n As → B ≡ Data m Bs → (n ≡ m → ⊥) → TypeTaken A B old new false
refused_name A B n m As Bs old new p q never = λ Cs ts w e.
    never (ap name_part (sym (ap (type_inst (type_at (types Cs))) p) ∙ e ∙ q))

-- a type of another form
pub refused_pow : (A B a : Ty) (old new : Found) → A ≡ Pow a → ((b : Ty) → B ≡ Pow b → ⊥) → TypeTaken A B old new false
refused_pow A B a old new p never = λ As ts w e.
    let θ : ℕ → Ty = type_at (types As) in
    never (type_inst θ a) (sym e ∙ ap (type_inst θ) (p ∙ Pow-pow a) ∙ sym (Pow-pow (type_inst θ a)))

pub refused_prod_form : (A B a b : Ty) (old new : Found) → A ≡ Prod a b → ((c d : Ty) → B ≡ Prod c d → ⊥) → TypeTaken A B old new false
refused_prod_form A B a b old new p never = λ As ts w e.
    let θ : ℕ → Ty = type_at (types As) in
    never (type_inst θ a) (type_inst θ b) (sym e ∙ ap (type_inst θ) (p ∙ Prod-prod a b) ∙ sym (Prod-prod (type_inst θ a) (type_inst θ b)))

pub refused_data : (A B : Ty) (n : List ℕ) (As : Tys) (old new : Found) → A ≡ Data n As → ((m : List ℕ) (Bs : Tys) → B ≡ Data m Bs → ⊥) → TypeTaken A B old new false
refused_data A B n As old new p never = λ Cs ts w e. never n (types_inst (type_at (types Cs)) As) (sym e ∙ ap (type_inst (type_at (types Cs))) p)

pub refused_more_form : (A B : Tys) (a : Ty) (Ds : Tys) (old new : Found) → A ≡ More a Ds → B ≡ Empty → TypesTaken A B old new false
refused_more_form A B a Ds old new p q = λ As ts w e.
    let e' : types_inst (type_at (types As)) (more a Ds) ≡ Empty = sym (ap (types_inst (type_at (types As))) (p ∙ More-more a Ds)) ∙ e ∙ q in cc

-- a type without parts
pub taken_int : (B : Ty) (A : Ty) (old : Found) (b : Boolean) → A ≡ Int → (IsTrue b ↔ (A ≡ B)) → TypeTaken A B old old b
taken_int B A old b p h = transport (λ X. TypeTaken X B old old b) (sym p)
    (fact_taken (λ As ts. Int ≡ B) (λ j. false) (λ i. false) old (A ≡ B) b h (λ e As ts. sym p ∙ e) (λ As ts e. p ∙ e) (λ j. refl) (λ i. refl))

pub taken_bool : (B : Ty) (A : Ty) (old : Found) (b : Boolean) → A ≡ Bool → (IsTrue b ↔ (A ≡ B)) → TypeTaken A B old old b
taken_bool B A old b p h = transport (λ X. TypeTaken X B old old b) (sym p)
    (fact_taken (λ As ts. Bool ≡ B) (λ j. false) (λ i. false) old (A ≡ B) b h (λ e As ts. sym p ∙ e) (λ As ts e. p ∙ e) (λ j. refl) (λ i. refl))

pub taken_prop : (B : Ty) (A : Ty) (old : Found) (b : Boolean) → A ≡ Prop → (IsTrue b ↔ (A ≡ B)) → TypeTaken A B old old b
taken_prop B A old b p h = transport (λ X. TypeTaken X B old old b) (sym p)
    (fact_taken (λ As ts. Prop ≡ B) (λ j. false) (λ i. false) old (A ≡ B) b h (λ e As ts. sym p ∙ e) (λ As ts e. p ∙ e) (λ j. refl) (λ i. refl))

pub taken_empty : (A B : Tys) (old : Found) (b : Boolean) → A ≡ Empty → (IsTrue b ↔ (A ≡ B)) → TypesTaken A B old old b
taken_empty A B old b p h = transport (λ X. TypesTaken X B old old b) (sym p)
    (fact_taken (λ As ts. Empty ≡ B) (λ j. false) (λ i. false) old (A ≡ B) b h (λ e As ts. sym p ∙ e) (λ As ts e. p ∙ e) (λ j. refl) (λ i. refl))

pub taken_more : (A B : Tys) (a b : Ty) (Ds Es : Tys) (old mid new : Found) (s r : Boolean) → A ≡ More a Ds → B ≡ More b Es → s ≡ true → TypeTaken a b old mid s → TypesTaken Ds Es mid new r →
    TypesTaken A B old new r
taken_more A B a b Ds Es old mid new s r p q t g h =
    transport (λ X. TypesTaken X B old new r) (sym (p ∙ More-more a Ds)) (transport (λ Y. TypesTaken (more a Ds) Y old new r) (sym (q ∙ More-more b Es))
    (along (λ As ts. (type_inst (type_at (types As)) a ≡ b) × (types_inst (type_at (types As)) Ds ≡ Es)) (λ As ts. types_inst (type_at (types As)) (more a Ds) ≡ more b Es)
    (λ j. has_param j a || have_param j Ds) (λ i. false) (λ j. have_param j (more a Ds)) (λ i. false) old new r
    (λ As ts g' e. more_eq _ _ _ _ e.0 e.1) (λ As ts g' e. (ap head_part e, ap tail_part e)) (λ j k. refl) (λ i k. refl)
    (after_step (λ As ts. type_inst (type_at (types As)) a ≡ b) (λ As ts. types_inst (type_at (types As)) Ds ≡ Es) (λ j. has_param j a) (λ i. false) (λ j. have_param j Ds) (λ i. false) old mid new r
    (step_of _ _ _ old mid s t g) h)))

pub refused_more : (A B : Tys) (a b : Ty) (Ds Es : Tys) (old mid new : Found) (s : Boolean) → A ≡ More a Ds → B ≡ More b Es → s ≡ false → TypeTaken a b old mid s → TypesTaken A B old new false
refused_more A B a b Ds Es old mid new s p q t g = λ As ts w e.
    let e' : types_inst (type_at (types As)) (more a Ds) ≡ more b Es = sym (ap (types_inst (type_at (types As))) (p ∙ More-more a Ds)) ∙ e ∙ q ∙ More-more b Es in
    refused_by _ _ _ old mid s t g As ts w (ap head_part e')

-- A type parameter.
type_given : (As : List Ty) (j : ℕ) (B : Ty) → slice_get As j ≡ Some B → type_at (types As) j ≡ B
type_given As j B p = ap (λ Bs. unwrap_or (slice_get Bs j) (Param j)) (type_list-types As) ∙ ap (λ o. unwrap_or o (Param j)) p

given_type : (As : List Ty) (j : ℕ) (B : Ty) → j < length As → type_at (types As) j ≡ B → slice_get As j ≡ Some B
given_type As j B h e =
    let q : slice_get As j ≡ Some (get_or As j B) = slice_get-get_or As j B h in
    q ∙ ap Some (sym (type_given As j (get_or As j B) q) ∙ e)

pub taken_param : (j : ℕ) (B : Ty) (old new : Found) (b : Boolean) → j < length old.types.items → new.terms.items ≡ old.terms.items →
    IsPut old.types.items j B new.types.items b → TypeTaken (Param j) B old new b
taken_param j B old new true h t p = record {
  type_count = ap length p.1 ∙ length-set old.types.items j (Some B);
  term_count = ap length t;
  types_where = λ i k. ap (λ slots. is_given slots i) p.1 ∙ given_put old.types.items j B i h;
  terms_where = λ i k. ap (λ slots. is_given slots (length old.terms.items - 1 - i)) t ∙ or_false (is_given old.terms.items (length old.terms.items - 1 - i));
  before = λ As ts a. ((agree_put old.types.items j B As p.0 (transport (λ slots. Agree slots As) p.1 a.0)).0, transport (λ slots. Agree slots ts) t a.1);
  holds = λ As ts a. type_given As j B (agree_put old.types.items j B As p.0 (transport (λ slots. Agree slots As) p.1 a.0)).1;
  all = λ As ts a e. (
    transport (λ slots. Agree slots As) (sym p.1) (put_agrees old.types.items j B As a.0 (given_type As j B (transport (λ n. j < n) (agree_length old.types.items As a.0) h) e)),
    transport (λ slots. Agree slots ts) (sym t) a.1,
  );
}
taken_param j B old new false h t p = λ As ts a e.
    p (open_for old.types.items j B As h a.0 (given_type As j B (transport (λ n. j < n) (agree_length old.types.items As a.0) h) e))

pub taken_past : (j : ℕ) (B : Ty) (old : Found) (b : Boolean) → length old.types.items ≤ j → (IsTrue b ↔ (B ≡ Param j)) → TypeTaken (Param j) B old old b
taken_past j B old b h i =
    along (λ As ts. Param j ≡ B) (λ As ts. type_at (types As) j ≡ B) (λ k. false) (λ k. false) (λ k. has_param k (Param j)) (λ k. false) old old b
    (λ As ts a e. past As ts a ∙ e) (λ As ts a e. sym (past As ts a) ∙ e) other (λ k l. refl)
    (fact_taken (λ As ts. Param j ≡ B) (λ k. false) (λ k. false) old (B ≡ Param j) b i (λ e As ts. sym e) (λ As ts e. sym e) (λ k. refl) (λ k. refl))
  where
    past : (As : List Ty) (ts : List Term) → Agrees old As ts → type_at (types As) j ≡ Param j
    past As ts a =
        let l : length As ≤ j = transport (λ n. n ≤ j) (agree_length old.types.items As a.0) h in
        ap (λ Bs. unwrap_or (slice_get Bs j) (Param j)) (type_list-types As) ∙ ap (λ o. unwrap_or o (Param j)) (slice_get_past As j l)

    other : (k : ℕ) → k < length old.types.items → false ≡ (j == k)
    other k l = grind (arith, nat_tests)

-- Terms whose variables are all bound.
mutual
  no_var : (t : Term) (k : ℕ) → loose t ≤ k → has_var k t ≡ false
  no_var (var i) k h = grind (arith, nat_tests)
  no_var (lit n) k h = refl
  no_var (node s As ts) k h = no_vars ts (k + binds s) (omega (arith, h))

  no_vars : (ts : Terms) (k : ℕ) → all_loose ts ≤ k → have_var k ts ≡ false
  no_vars nil k h = refl
  no_vars (cons t ts) k h = let p = no_var t k (omega (arith, h)) in let q = no_vars ts k (omega (arith, h)) in rw (p, q)

insts_closed : (ts : Terms) (d : ℕ) (σ : ℕ → Term) → all_loose ts ≤ d → insts (lifts d σ) ts ≡ ts
insts_closed ts d σ h = insts_below ts (lifts d σ) var (λ i k. lifts-below d σ i (omega (arith, h, k))) ∙ insts-id ts

le_cases : (m n : ℕ) → (m ≤ n) ⊎ (n ≤ m)
le_cases zero n = inl (omega arith)
le_cases (suc m) zero = inr (omega arith)
le_cases (suc m) (suc n) = elim (le_cases m n) [ inl h ↦ inl (omega (arith, h)) | inr h ↦ inr (omega (arith, h)) ]

-- a depth that stands still beyond all variables
same_depth : (ts : Terms) (most m u : ℕ) (σ : ℕ → Term) → u ≡ min m most → all_loose ts ≤ most → insts (lifts m σ) ts ≡ insts (lifts u σ) ts
same_depth ts most m u σ e h = by (le_cases m most)
  where
    by : (m ≤ most) ⊎ (most ≤ m) → insts (lifts m σ) ts ≡ insts (lifts u σ) ts
    by (inl k) = let q : m ≡ u = omega (arith, e, k) in ap (λ d. insts (lifts d σ) ts) q
    by (inr k) = insts_closed ts m σ (omega (arith, h, k)) ∙ sym (insts_closed ts u σ (omega (arith, e, h, k)))

same_occurs : (ts : Terms) (most m u i : ℕ) → u ≡ min m most → all_loose ts ≤ most → have_var (i + u) ts ≡ have_var (i + m) ts
same_occurs ts most m u i e h = by (le_cases m most)
  where
    by : (m ≤ most) ⊎ (most ≤ m) → have_var (i + u) ts ≡ have_var (i + m) ts
    by (inl k) = let q : u ≡ m = omega (arith, e, k) in ap (λ d. have_var (i + d) ts) q
    by (inr k) = no_vars ts (i + u) (omega (arith, e, h, k)) ∙ sym (no_vars ts (i + m) (omega (arith, h, k)))

-- Nodes.
abbrev node_types : Term → Tys
node_types (node s As ts) = As
node_types t = Empty

abbrev node_children : Term → Terms
node_children (node s As ts) = ts
node_children t = nil

abbrev first_of : Terms → Term
first_of (cons t ts) = t
first_of nil = lit 0

abbrev rest_of : Terms → Terms
rest_of (cons t ts) = ts
rest_of nil = nil

node_eq : (f : Sym) (As Bs : Tys) (ts us : Terms) → As ≡ Bs → ts ≡ us → node f As ts ≡ node f Bs us
node_eq f As Bs ts us p q = ap (λ Cs. node f Cs ts) p ∙ ap (node f Bs) q

cons_eq : (t u : Term) (ts us : Terms) → t ≡ u → ts ≡ us → cons t ts ≡ cons u us
cons_eq t u ts us p q = ap (λ v. cons v ts) p ∙ ap (cons u) q

abbrev arguments : List Term → ℕ → Term
arguments ts = entry (reverse ts)

children_same : (f : Sym) (ps : Terms) (d u : ℕ) (As : List Ty) (ts : List Term) → u ≡ min (d + binds f) (2 ^ 64 - 1) → all_loose ps ≤ 2 ^ 64 - 1 →
    insts (lifts (binds f) (lifts d (arguments ts))) (retypes (type_at (types As)) ps) ≡ insts (lifts u (arguments ts)) (retypes (type_at (types As)) ps)
children_same f ps d u As ts e h =
    let θ : ℕ → Ty = type_at (types As) in
    ap (λ τ. insts τ (retypes θ ps)) (lifts-lifts (binds f) d (arguments ts))
    ∙ same_depth (retypes θ ps) (2 ^ 64 - 1) (d + binds f) u (arguments ts) e (transport (λ n. n ≤ 2 ^ 64 - 1) (sym (all_loose-retypes ps θ)) h)

pub taken_node : (f : Sym) (As Bs : Tys) (ps ts : Terms) (d u : ℕ) (old mid new : Found) (s r : Boolean) → u ≡ min (d + binds f) (2 ^ 64 - 1) → all_loose ps ≤ 2 ^ 64 - 1 →
    s ≡ true → TypesTaken As Bs old mid s → TermsTaken ps u ts mid new r → TermTaken (node f As ps) d (node f Bs ts) old new r
taken_node f As Bs ps ts d u old mid new s r e h t g k =
    along (λ Cs us. (types_inst (type_at (types Cs)) As ≡ Bs) × (insts (lifts u (arguments us)) (retypes (type_at (types Cs)) ps) ≡ ts))
    (λ Cs us. inst (lifts d (arguments us)) (retype (type_at (types Cs)) (node f As ps)) ≡ node f Bs ts)
    (λ j. have_param j As || mention_param j ps) (λ i. have_var (i + u) ps) (λ j. mentions_param j (node f As ps)) (λ i. has_var (i + d) (node f As ps)) old new r
    (λ Cs us w p. node_eq f _ _ _ _ p.0 (children_same f ps d u Cs us e h ∙ p.1))
    (λ Cs us w p. (ap node_types p, sym (children_same f ps d u Cs us e h) ∙ ap node_children p))
    (λ j l. refl) (λ i l. where_same i)
    (after_step (λ Cs us. types_inst (type_at (types Cs)) As ≡ Bs) (λ Cs us. insts (lifts u (arguments us)) (retypes (type_at (types Cs)) ps) ≡ ts)
    (λ j. have_param j As) (λ i. false) (λ j. mention_param j ps) (λ i. have_var (i + u) ps) old mid new r (step_of _ _ _ old mid s t g) k)
  where
    where_same : (i : ℕ) → have_var (i + u) ps ≡ have_var ((i + d) + binds f) ps
    where_same i =
        let q : i + (d + binds f) ≡ (i + d) + binds f = omega arith in
        same_occurs ps (2 ^ 64 - 1) (d + binds f) u i e h ∙ ap (λ n. have_var n ps) q

pub refused_types : (f : Sym) (As Bs : Tys) (ps ts : Terms) (d : ℕ) (old mid new : Found) (s : Boolean) → s ≡ false → TypesTaken As Bs old mid s →
    TermTaken (node f As ps) d (node f Bs ts) old new false
refused_types f As Bs ps ts d old mid new s t g = λ Cs us w e. refused_by _ _ _ old mid s t g Cs us w (ap node_types e)

-- another symbol, or none
pub refused_symbol : (f g : Sym) (As : Tys) (ps : Terms) (t : Term) (d : ℕ) (old new : Found) → Some g ≡ sym_of t → (f ≡ g → ⊥) → TermTaken (node f As ps) d t old new false
refused_symbol f g As ps t d old new p never = λ Cs us w e. never (same_Some f g (ap sym_of e ∙ sym p))

pub refused_leaf : (f : Sym) (As : Tys) (ps : Terms) (t : Term) (d : ℕ) (old new : Found) → None ≡ sym_of t → TermTaken (node f As ps) d t old new false
refused_leaf f As ps t d old new p = λ Cs us w e. none-some f (p ∙ sym (ap sym_of e))

-- Children.
pub taken_nil : (d : ℕ) (old : Found) → TermsTaken nil d nil old old true
taken_nil d old = no_step (λ As ts. nil ≡ nil) (λ j. false) (λ i. false) old (λ As ts. refl) (λ j. refl) (λ i. refl)

pub taken_cons : (p t : Term) (ps ts : Terms) (d : ℕ) (old mid new : Found) (s r : Boolean) → s ≡ true → TermTaken p d t old mid s → TermsTaken ps d ts mid new r →
    TermsTaken (cons p ps) d (cons t ts) old new r
taken_cons p t ps ts d old mid new s r e g k =
    along (λ Cs us. (inst (lifts d (arguments us)) (retype (type_at (types Cs)) p) ≡ t) × (insts (lifts d (arguments us)) (retypes (type_at (types Cs)) ps) ≡ ts))
    (λ Cs us. insts (lifts d (arguments us)) (retypes (type_at (types Cs)) (cons p ps)) ≡ cons t ts)
    (λ j. mentions_param j p || mention_param j ps) (λ i. has_var (i + d) p || have_var (i + d) ps) (λ j. mention_param j (cons p ps)) (λ i. have_var (i + d) (cons p ps)) old new r
    (λ Cs us w q. cons_eq _ _ _ _ q.0 q.1) (λ Cs us w q. (ap first_of q, ap rest_of q)) (λ j l. refl) (λ i l. refl)
    (after_step (λ Cs us. inst (lifts d (arguments us)) (retype (type_at (types Cs)) p) ≡ t) (λ Cs us. insts (lifts d (arguments us)) (retypes (type_at (types Cs)) ps) ≡ ts)
    (λ j. mentions_param j p) (λ i. has_var (i + d) p) (λ j. mention_param j ps) (λ i. have_var (i + d) ps) old mid new r (step_of _ _ _ old mid s e g) k)

pub refused_cons : (p t : Term) (ps ts : Terms) (d : ℕ) (old mid new : Found) (s : Boolean) → s ≡ false → TermTaken p d t old mid s → TermsTaken (cons p ps) d (cons t ts) old new false
refused_cons p t ps ts d old mid new s e g = λ Cs us w q. refused_by _ _ _ old mid s e g Cs us w (ap first_of q)

-- another number of children
insts_count : (σ : ℕ → Term) (θ : ℕ → Ty) (ps ts : List Term) → insts σ (retypes θ (terms ps)) ≡ terms ts → length ps ≡ length ts
insts_count σ θ [] [] e = refl
insts_count σ θ [] (t ∷ ts) e = cc
insts_count σ θ (p ∷ ps) [] e = cc
insts_count σ θ (p ∷ ps) (t ∷ ts) e = ap suc (insts_count σ θ ps ts (ap rest_of e))

pub refused_count : (ps ts : List Term) (d : ℕ) (old new : Found) → (length ps ≡ length ts → ⊥) → TermsTaken (terms ps) d (terms ts) old new false
refused_count ps ts d old new never = λ Cs us w e. never (insts_count (lifts d (arguments us)) (type_at (types Cs)) ps ts e)

-- Leaves.
pub var_is : (t : Term) (i : ℕ) → Some i ≡ var_of t → t ≡ var i
var_is (var j) i e = ap var (sym (same_Some i j e))
var_is (lit n) i e = cc
var_is (node s As ts) i e = cc

pub taken_lit : (P t : Term) (d : ℕ) (old : Found) (b : Boolean) → sym_of P ≡ None → None ≡ var_of P → (IsTrue b ↔ (P ≡ t)) → TermTaken P d t old old b
taken_lit (var j) t d old b p q h = cc
taken_lit (lit n) t d old b p q h = fact_taken (λ As ts. lit n ≡ t) (λ j. false) (λ i. false) old (lit n ≡ t) b h (λ e As ts. e) (λ As ts e. e) (λ j. refl) (λ i. refl)
taken_lit (node s As ts) t d old b p q h = cc

pub taken_bound : (i : ℕ) (t : Term) (d : ℕ) (old : Found) (b : Boolean) → i < d → (IsTrue b ↔ (var_of t ≡ Some i)) → TermTaken (var i) d t old old b
taken_bound i t d old b l h =
    fact_taken (λ As ts. lifts d (arguments ts) i ≡ t) (λ j. false) (λ k. has_var (k + d) (var i)) old (var_of t ≡ Some i) b h
    (λ e As ts. lifts-below d (arguments ts) i l ∙ sym (var_is t i (sym e)))
    (λ As ts e. ap var_of (sym e ∙ lifts-below d (arguments ts) i l)) (λ j. refl) (λ k. inside k)
  where
    inside : (k : ℕ) → (i == k + d) ≡ false
    inside k = grind (arith, nat_tests)

-- a shift can be undone
shift_one_way : (t u : Term) (d : ℕ) → shift t 0 d ≡ shift u 0 d → t ≡ u
shift_one_way t u d e =
    let us : List Term = replicate d (lit 0) in
    let n : length us ≡ d = length-replicate d (lit 0) in
    sym (undone t) ∙ ap (λ v. inst (entry (replicate d (lit 0))) v) e ∙ undone u
  where
    undone : (v : Term) → inst (entry (replicate d (lit 0))) (shift v 0 d) ≡ v
    undone v = ap (λ n. inst (entry (replicate d (lit 0))) (shift v 0 n)) (sym (length-replicate d (lit 0))) ∙ subst-shift v (replicate d (lit 0))

pub refused_binder : (i : ℕ) (t : Term) (d : ℕ) (old new : Found) → d ≤ i → ((u : Term) → ¬ (shift u 0 d ≡ t)) → TermTaken (var i) d t old new false
refused_binder i t d old new h never = λ As ts a e. never (arguments ts (i - d)) (sym (lifts-past d (arguments ts) i h) ∙ e)

-- the argument of a variable of n, counted from 0
argument_given : (ts : List Term) (n at : ℕ) (u : Term) → n ≡ length ts → at < n → slice_get ts at ≡ Some u → arguments ts (n - 1 - at) ≡ u
argument_given ts n at u e h p = ap (λ m. arguments ts (m - 1 - at)) e ∙ fill_given ts at u p

given_argument : (ts : List Term) (n at : ℕ) (u : Term) → n ≡ length ts → at < n → arguments ts (n - 1 - at) ≡ u → slice_get ts at ≡ Some u
given_argument ts n at u e h p =
    let q : slice_get ts at ≡ Some (get_or ts at u) = slice_get-get_or ts at u (omega (arith, e, h)) in
    q ∙ ap Some (sym (argument_given ts n at (get_or ts at u) e h q) ∙ p)

slot_taken : (at : ℕ) (u : Term) (old new : Found) (b : Boolean) → at < length old.terms.items → new.types.items ≡ old.types.items →
    IsPut old.terms.items at u new.terms.items b → IsTaken (λ As ts. slice_get ts at ≡ Some u) (λ j. false) (λ i. at == length old.terms.items - 1 - i) old new b
slot_taken at u old new true h t p = record {
  type_count = ap length t;
  term_count = ap length p.1 ∙ length-set old.terms.items at (Some u);
  types_where = λ j k. ap (λ slots. is_given slots j) t ∙ or_false (is_given old.types.items j);
  terms_where = λ i k. ap (λ slots. is_given slots (length old.terms.items - 1 - i)) p.1 ∙ given_put old.terms.items at u (length old.terms.items - 1 - i) h;
  before = λ As ts a. (transport (λ slots. Agree slots As) t a.0, (agree_put old.terms.items at u ts p.0 (transport (λ slots. Agree slots ts) p.1 a.1)).0);
  holds = λ As ts a. (agree_put old.terms.items at u ts p.0 (transport (λ slots. Agree slots ts) p.1 a.1)).1;
  all = λ As ts a e. (transport (λ slots. Agree slots As) (sym t) a.0, transport (λ slots. Agree slots ts) (sym p.1) (put_agrees old.terms.items at u ts a.1 e));
}
slot_taken at u old new false h t p = λ As ts a e. p (open_for old.terms.items at u ts h a.1 e)

pub taken_variable : (i : ℕ) (t u : Term) (d at : ℕ) (old new : Found) (b : Boolean) → d ≤ i → i < d + length old.terms.items → at ≡ length old.terms.items - 1 - (i - d) →
    shift u 0 d ≡ t → new.types.items ≡ old.types.items → IsPut old.terms.items at u new.terms.items b → TermTaken (var i) d t old new b
taken_variable i t u d at old new b h l e s n p =
    along (λ As ts. slice_get ts at ≡ Some u) (λ As ts. lifts d (arguments ts) i ≡ t) (λ j. false) (λ k. at == length old.terms.items - 1 - k) (λ j. false) (λ k. has_var (k + d) (var i)) old new b
    (λ As ts a q. lifts-past d (arguments ts) i h ∙ ap (λ v. shift v 0 d) (ap (arguments ts) place ∙ argument_given ts (length old.terms.items) at u (agree_length old.terms.items ts a.1) below q) ∙ s)
    (λ As ts a q. given_argument ts (length old.terms.items) at u (agree_length old.terms.items ts a.1) below
    (sym (ap (arguments ts) place) ∙ shift_one_way (arguments ts (i - d)) u d (sym (lifts-past d (arguments ts) i h) ∙ q ∙ sym s)))
    (λ j k. refl) (λ k m. same_place k m)
    (slot_taken at u old new b below n p)
  where
    below : at < length old.terms.items
    below = omega (arith, h, l, e)

    place : i - d ≡ length old.terms.items - 1 - at
    place = omega (arith, h, l, e)

    same_place : (k : ℕ) → k < length old.terms.items → (at == length old.terms.items - 1 - k) ≡ (i == k + d)
    same_place k m = grind (arith, nat_tests)

-- the code's forms, at parts that it takes
pub prod_is : (A a b a' b' : Ty) → A ≡ Prod a b → a' ≡ a → b' ≡ b → A ≡ Prod a' b'
prod_is A a b a' b' e p q = e ∙ ap (λ X. Prod X b) (sym p) ∙ ap (λ Y. Prod a' Y) (sym q)

pub more_is : (A : Tys) (a a' : Ty) (As As' : Tys) → A ≡ More a As → a' ≡ a → As' ≡ As → A ≡ More a' As'
more_is A a a' As As' e p q = e ∙ ap (λ X. More X As) (sym p) ∙ ap (λ Y. More a' Y) (sym q)

-- the code's loop over children
pub rest_taken : (ps ts : List Term) (i : ℕ) (p t : Term) (d : ℕ) (old mid new : Found) (s b : Boolean) → p ≡ get_or ps i p → i < length ps → t ≡ get_or ts i t → i < length ts →
    s ≡ true → TermTaken p d t old mid s → TermsTaken (terms (drop (i + 1) ps)) d (terms (drop (i + 1) ts)) mid new b → TermsTaken (terms (drop i ps)) d (terms (drop i ts)) old new b
rest_taken ps ts i p t d old mid new s b e h f k z g r =
    transport (λ xs. TermsTaken (terms xs) d (terms (drop i ts)) old new b) (sym (drop_at ps i p e h))
    (transport (λ ys. TermsTaken (terms (p ∷ drop (i + 1) ps)) d (terms ys) old new b) (sym (drop_at ts i t f k))
    (taken_cons p t (terms (drop (i + 1) ps)) (terms (drop (i + 1) ts)) d old mid new s b z g r))

pub rest_refused : (ps ts : List Term) (i : ℕ) (p t : Term) (d : ℕ) (old mid new : Found) (s : Boolean) → p ≡ get_or ps i p → i < length ps → t ≡ get_or ts i t → i < length ts →
    s ≡ false → TermTaken p d t old mid s → TermsTaken (terms (drop i ps)) d (terms (drop i ts)) old new false
rest_refused ps ts i p t d old mid new s e h f k z g =
    transport (λ xs. TermsTaken (terms xs) d (terms (drop i ts)) old new false) (sym (drop_at ps i p e h))
    (transport (λ ys. TermsTaken (terms (p ∷ drop (i + 1) ps)) d (terms ys) old new false) (sym (drop_at ts i t f k))
    (refused_cons p t (terms (drop (i + 1) ps)) (terms (drop (i + 1) ts)) d old mid new s z g))

pub end_taken : (ps ts : List Term) (i d : ℕ) (old : Found) → length ps ≤ i → length ts ≤ i → TermsTaken (terms (drop i ps)) d (terms (drop i ts)) old old true
end_taken ps ts i d old h k =
    transport (λ xs. TermsTaken (terms xs) d (terms (drop i ts)) old old true) (sym (drop_all ps i h))
    (transport (λ ys. TermsTaken (terms []) d (terms ys) old old true) (sym (drop_all ts i k)) (taken_nil d old))

pub loose_at : (ts : List Term) (i : ℕ) (t : Term) → t ≡ get_or ts i t → i < length ts → loose t ≤ all_loose (terms ts)
loose_at [] i t e h = absurd (omega arith)
loose_at (u ∷ us) zero t e h = let p : loose t ≡ loose u = ap loose e in omega arith
loose_at (u ∷ us) (suc i) t e h = omega (arith, loose_at us i t e (omega arith))
