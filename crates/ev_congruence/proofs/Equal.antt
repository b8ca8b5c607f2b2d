-- Terms that lines equate, one by one and in lists.
use Rattle.std.specs.Prelude.{◌≡◌, ◌+◌, ◌<◌, ◌≤◌, ◌++◌, ℕ, zero, suc, List, [], ◌∷◌, Option, Some, None, length, take, get_or, refl}
use Rattle.std.specs.List.{AllByRecursion}
use Rattle.std.proofs.Common.{ap, sym, ◌∙◌, subst as transport, arith}
use Rattle.ev_terms.specs.declared.types.Ty.{Ty}
use Rattle.ev_terms.specs.Types.{type_list}
use Rattle.ev_terms.specs.Term.{Term, terms, term_list, term_list-terms}
use Rattle.ev_terms.specs.Substitution.{entry}
use Rattle.ev_forms.specs.Forms.{equation}
use Rattle.ev_typing.specs.declared.typing.Sequent.{Sequent}
use Rattle.ev_typing.specs.Env.{Env}
use Rattle.ev_typing.specs.Typing.{Typed}
use Rattle.ev_typing.specs.WellFormed.{IsWellFormed}
use Rattle.ev_typing.specs.Sequents.{◌⊢◌}
use Rattle.ev_typing.specs.BaseSequents.{IsBaseSequent}
use Rattle.ev_typing.proofs.Laws.{Typed-unique}
use Rattle.ev_kernel.specs.declared.rules.Line.{Line}
use Rattle.ev_kernel.specs.declared.rules.BaseRule.TheVariants.{Cong}
use Rattle.ev_kernel.specs.Row.{Row, AreEquated, at_children}
use Rattle.ev_congruence.specs.Growing.{concluded, AreConcluded, Extends}
use Rattle.ev_congruence.specs.Settings.{IsBaseContext, AreAlike}
use Rattle.ev_congruence.specs.Equating.{Equates, AreEquatedBy, IsSettled, AreSettled}
use Rattle.ev_congruence.specs.inner.Inside.{IsByCongruence}
use Rattle.ev_congruence.proofs.Appending.{concluded_stays}
use Rattle.ev_congruence.proofs.Contexts.{base_equation}

-- Lines that are appended change nothing.
pub equates_stays : (env : Env) (ls ms : List Line) (S : Sequent) (l r : Term) (n : ℕ) → Extends env ls ms → Equates ls S l r n → Equates ms S l r n
equates_stays env ls ms S l r n x e = record { ty = e.ty; line = concluded_stays env ls ms n (S ⊢ equation e.ty l r) x e.line }

pub equated_stays : (env : Env) (ls ms : List Line) (S : Sequent) (cs bs : List Term) (ns : List ℕ) → Extends env ls ms → AreEquatedBy ls S cs bs ns → AreEquatedBy ms S cs bs ns
equated_stays env ls ms S [] [] [] x h = tt
equated_stays env ls ms S [] [] (n ∷ ns) x h = h
equated_stays env ls ms S [] (b ∷ bs) ns x h = h
equated_stays env ls ms S (a ∷ cs) [] ns x h = h
equated_stays env ls ms S (a ∷ cs) (b ∷ bs) [] x h = h
equated_stays env ls ms S (a ∷ cs) (b ∷ bs) (n ∷ ns) x h = (equates_stays env ls ms S a b n x h.0, equated_stays env ls ms S cs bs ns x h.1)

pub settles_stays : (env : Env) (ls ms : List Line) (S : Sequent) (l r : Term) (o : Option ℕ) → Extends env ls ms → IsSettled ls S l r o → IsSettled ms S l r o
settles_stays env ls ms S l r None x h = h
settles_stays env ls ms S l r (Some n) x h = equates_stays env ls ms S l r n x h

pub settled_stays : (env : Env) (ls ms : List Line) (S : Sequent) (cs bs : List Term) (os : List (Option ℕ)) → Extends env ls ms → AreSettled ls S cs bs os → AreSettled ms S cs bs os
settled_stays env ls ms S [] [] [] x h = tt
settled_stays env ls ms S [] [] (n ∷ ns) x h = h
settled_stays env ls ms S [] (b ∷ bs) ns x h = h
settled_stays env ls ms S (a ∷ cs) [] ns x h = h
settled_stays env ls ms S (a ∷ cs) (b ∷ bs) [] x h = h
settled_stays env ls ms S (a ∷ cs) (b ∷ bs) (o ∷ os) x h = (settles_stays env ls ms S a b o x h.0, settled_stays env ls ms S cs bs os x h.1)

-- As many terms on each side cs lines.
pub equated_lengths : (ls : List Line) (S : Sequent) (cs bs : List Term) (ns : List ℕ) → AreEquatedBy ls S cs bs ns → (length bs ≡ length cs) × (length ns ≡ length cs)
equated_lengths ls S [] [] [] h = (refl, refl)
equated_lengths ls S [] [] (n ∷ ns) h = absurd h
equated_lengths ls S [] (b ∷ bs) ns h = absurd h
equated_lengths ls S (a ∷ cs) [] ns h = absurd h
equated_lengths ls S (a ∷ cs) (b ∷ bs) [] h = absurd h
equated_lengths ls S (a ∷ cs) (b ∷ bs) (n ∷ ns) h = let k = equated_lengths ls S cs bs ns h.1 in (ap suc k.0, ap suc k.1)

pub settled_lengths : (ls : List Line) (S : Sequent) (cs bs : List Term) (os : List (Option ℕ)) → AreSettled ls S cs bs os → (length bs ≡ length cs) × (length os ≡ length cs)
settled_lengths ls S [] [] [] h = (refl, refl)
settled_lengths ls S [] [] (n ∷ ns) h = absurd h
settled_lengths ls S [] (b ∷ bs) ns h = absurd h
settled_lengths ls S (a ∷ cs) [] ns h = absurd h
settled_lengths ls S (a ∷ cs) (b ∷ bs) [] h = absurd h
settled_lengths ls S (a ∷ cs) (b ∷ bs) (n ∷ ns) h = let k = settled_lengths ls S cs bs ns h.1 in (ap suc k.0, ap suc k.1)

-- One of them.
pub equated_at : (ls : List Line) (S : Sequent) (cs bs : List Term) (ns : List ℕ) (i : ℕ) (a b : Term) (n : ℕ) → AreEquatedBy ls S cs bs ns → i < length cs →
    a ≡ get_or cs i a → b ≡ get_or bs i b → n ≡ get_or ns i n → Equates ls S a b n
equated_at ls S [] bs ns i a b n h k e f g = absurd (omega arith)
equated_at ls S (x ∷ cs) [] ns i a b n h k e f g = absurd h
equated_at ls S (x ∷ cs) (y ∷ bs) [] i a b n h k e f g = absurd h
equated_at ls S (x ∷ cs) (y ∷ bs) (m ∷ ns) zero a b n h k e f g =
    transport (λ u. Equates ls S u b n) (sym e) (transport (λ u. Equates ls S x u n) (sym f) (transport (λ u. Equates ls S x y u) (sym g) h.0))
equated_at ls S (x ∷ cs) (y ∷ bs) (m ∷ ns) (suc i) a b n h k e f g = equated_at ls S cs bs ns i a b n h.1 (omega arith) e f g

pub settled_at : (ls : List Line) (S : Sequent) (cs bs : List Term) (os : List (Option ℕ)) (i : ℕ) (a b : Term) (o : Option ℕ) → AreSettled ls S cs bs os → i < length cs →
    a ≡ get_or cs i a → b ≡ get_or bs i b → o ≡ get_or os i o → IsSettled ls S a b o
settled_at ls S [] bs os i a b o h k e f g = absurd (omega arith)
settled_at ls S (x ∷ cs) [] os i a b o h k e f g = absurd h
settled_at ls S (x ∷ cs) (y ∷ bs) [] i a b o h k e f g = absurd h
settled_at ls S (x ∷ cs) (y ∷ bs) (m ∷ os) zero a b o h k e f g =
    transport (λ u. IsSettled ls S u b o) (sym e) (transport (λ u. IsSettled ls S x u o) (sym f) (transport (λ u. IsSettled ls S x y u) (sym g) h.0))
settled_at ls S (x ∷ cs) (y ∷ bs) (m ∷ os) (suc i) a b o h k e f g = settled_at ls S cs bs os i a b o h.1 (omega arith) e f g

-- One more of them.
equated_last : (ls : List Line) (S : Sequent) (cs bs : List Term) (ns : List ℕ) (a b : Term) (n : ℕ) → AreEquatedBy ls S cs bs ns → Equates ls S a b n →
    AreEquatedBy ls S (cs ++ a ∷ []) (bs ++ b ∷ []) (ns ++ n ∷ [])
equated_last ls S [] [] [] a b n h e = (e, tt)
equated_last ls S [] [] (m ∷ ns) a b n h e = absurd h
equated_last ls S [] (y ∷ bs) ns a b n h e = absurd h
equated_last ls S (x ∷ cs) [] ns a b n h e = absurd h
equated_last ls S (x ∷ cs) (y ∷ bs) [] a b n h e = absurd h
equated_last ls S (x ∷ cs) (y ∷ bs) (m ∷ ns) a b n h e = (h.0, equated_last ls S cs bs ns a b n h.1 e)

settled_last : (ls : List Line) (S : Sequent) (cs bs : List Term) (os : List (Option ℕ)) (a b : Term) (o : Option ℕ) → AreSettled ls S cs bs os → IsSettled ls S a b o →
    AreSettled ls S (cs ++ a ∷ []) (bs ++ b ∷ []) (os ++ o ∷ [])
settled_last ls S [] [] [] a b n h e = (e, tt)
settled_last ls S [] [] (m ∷ ns) a b n h e = absurd h
settled_last ls S [] (y ∷ bs) ns a b n h e = absurd h
settled_last ls S (x ∷ cs) [] ns a b n h e = absurd h
settled_last ls S (x ∷ cs) (y ∷ bs) [] a b n h e = absurd h
settled_last ls S (x ∷ cs) (y ∷ bs) (m ∷ ns) a b n h e = (h.0, settled_last ls S cs bs ns a b n h.1 e)

pub take_next : {X : Type 0} (xs : List X) (i : ℕ) (x : X) → x ≡ get_or xs i x → i < length xs → take (i + 1) xs ≡ take i xs ++ x ∷ []
take_next [] i x e h = absurd (omega arith)
take_next (y ∷ xs) zero x e h = ap (λ z. z ∷ []) (sym e)
take_next (y ∷ xs) (suc i) x e h =
    let k : suc i + 1 ≡ suc (i + 1) = omega arith in
    ap (λ j. take j (y ∷ xs)) k ∙ ap (λ zs. y ∷ zs) (take_next xs i x e (omega arith))

pub take_all : {X : Type 0} (xs : List X) (n : ℕ) → length xs ≤ n → take n xs ≡ xs
take_all [] zero h = refl
take_all [] (suc n) h = refl
take_all (x ∷ xs) zero h = absurd (omega arith)
take_all (x ∷ xs) (suc n) h = ap (λ ys. x ∷ ys) (take_all xs n (omega arith))

pub equated_step : (env : Env) (ls ms : List Line) (S : Sequent) (cs bs : List Term) (ns new : List ℕ) (i : ℕ) (a b : Term) (n : ℕ) → Extends env ls ms →
    AreEquatedBy ls S (take i cs) (take i bs) ns → Equates ms S a b n → a ≡ get_or cs i a → b ≡ get_or bs i b → i < length cs → length bs ≡ length cs → new ≡ ns ++ n ∷ [] →
    AreEquatedBy ms S (take (i + 1) cs) (take (i + 1) bs) new
equated_step env ls ms S cs bs ns new i a b n x h e f g k l q =
    transport (λ us. AreEquatedBy ms S us (take (i + 1) bs) new) (sym (take_next cs i a f k))
    (transport (λ us. AreEquatedBy ms S (take i cs ++ a ∷ []) us new) (sym (take_next bs i b g (omega arith)))
    (transport (λ us. AreEquatedBy ms S (take i cs ++ a ∷ []) (take i bs ++ b ∷ []) us) (sym q)
    (equated_last ms S (take i cs) (take i bs) ns a b n (equated_stays env ls ms S (take i cs) (take i bs) ns x h) e)))

pub equated_end : (ls : List Line) (S : Sequent) (cs bs : List Term) (ns : List ℕ) (i : ℕ) → AreEquatedBy ls S (take i cs) (take i bs) ns → length cs ≤ i → length bs ≡ length cs → AreEquatedBy ls S cs bs ns
equated_end ls S cs bs ns i h k l =
    transport (λ us. AreEquatedBy ls S us bs ns) (take_all cs i k) (transport (λ us. AreEquatedBy ls S (take i cs) us ns) (take_all bs i (omega arith)) h)

pub settled_step : (env : Env) (ls ms : List Line) (S : Sequent) (cs bs cs' bs' : List Term) (os os' : List (Option ℕ)) (a b : Term) (o : Option ℕ) → Extends env ls ms →
    AreSettled ls S cs bs os → IsSettled ms S a b o → cs' ≡ cs ++ a ∷ [] → bs' ≡ bs ++ b ∷ [] → os' ≡ os ++ o ∷ [] → AreSettled ms S cs' bs' os'
settled_step env ls ms S cs bs cs' bs' os os' a b o x h e f g q =
    transport (λ us. AreSettled ms S us bs' os') (sym f)
    (transport (λ us. AreSettled ms S (cs ++ a ∷ []) us os') (sym g)
    (transport (λ us. AreSettled ms S (cs ++ a ∷ []) (bs ++ b ∷ []) us) (sym q)
    (settled_last ms S cs bs os a b o (settled_stays env ls ms S cs bs os x h) e)))

-- Where no line was needed the terms are one.
pub settled_same : (ls : List Line) (S : Sequent) (cs bs : List Term) (os : List (Option ℕ)) → AreSettled ls S cs bs os → AllByRecursion (λ o. o ≡ None) os → cs ≡ bs
settled_same ls S [] [] [] h k = refl
settled_same ls S [] [] (o ∷ os) h k = absurd h
settled_same ls S [] (b ∷ bs) os h k = absurd h
settled_same ls S (a ∷ cs) [] os h k = absurd h
settled_same ls S (a ∷ cs) (b ∷ bs) [] h k = absurd h
settled_same ls S (a ∷ cs) (b ∷ bs) (o ∷ os) h k =
    let p : a ≡ b = transport (IsSettled ls S a b) k.0 h.0 in let q = settled_same ls S cs bs os h.1 k.1 in cc

-- Congruence.
pub sequents_of : (ls : List Line) (S : Sequent) (cs bs : List Term) (ns : List ℕ) → AreEquatedBy ls S cs bs ns → (Ss : List Sequent) × AreConcluded ls ns Ss × AreEquated S cs bs Ss
sequents_of ls S [] [] [] h = ([], tt, tt)
sequents_of ls S [] [] (n ∷ ns) h = absurd h
sequents_of ls S [] (b ∷ bs) ns h = absurd h
sequents_of ls S (a ∷ cs) [] ns h = absurd h
sequents_of ls S (a ∷ cs) (b ∷ bs) [] h = absurd h
sequents_of ls S (a ∷ cs) (b ∷ bs) (n ∷ ns) h =
    let k = sequents_of ls S cs bs ns h.1 in ((S ⊢ equation h.0.ty a b) ∷ k.0, (h.0.line, k.1), ((h.0.ty, refl), k.2))

-- the goal of the sequent does not count
pub equated_beside : (S T : Sequent) → ((G : Term) → (S ⊢ G) ≡ (T ⊢ G)) → (cs bs : List Term) (Ss : List Sequent) → AreEquated S cs bs Ss → AreEquated T cs bs Ss
equated_beside S T k [] [] [] h = tt
equated_beside S T k [] [] (P ∷ Ps) h = h
equated_beside S T k [] (b ∷ bs) Ps h = h
equated_beside S T k (a ∷ cs) [] Ps h = h
equated_beside S T k (a ∷ cs) (b ∷ bs) [] h = h
equated_beside S T k (a ∷ cs) (b ∷ bs) (P ∷ Ps) h = ((h.0.0, h.0.1 ∙ k (equation h.0.0 a b)), equated_beside S T k cs bs Ps h.1)

pub equated_by_beside : (ls : List Line) (S T : Sequent) → ((G : Term) → (S ⊢ G) ≡ (T ⊢ G)) → (cs bs : List Term) (ns : List ℕ) → AreEquatedBy ls S cs bs ns → AreEquatedBy ls T cs bs ns
equated_by_beside ls S T k [] [] [] h = tt
equated_by_beside ls S T k [] [] (P ∷ Ps) h = h
equated_by_beside ls S T k [] (b ∷ bs) Ps h = h
equated_by_beside ls S T k (a ∷ cs) [] Ps h = h
equated_by_beside ls S T k (a ∷ cs) (b ∷ bs) [] h = h
equated_by_beside ls S T k (a ∷ cs) (b ∷ bs) (n ∷ ns) h = (record { ty = h.0.ty; line = h.0.line ∙ ap Some (k (equation h.0.ty a b)) }, equated_by_beside ls S T k cs bs ns h.1)

pub congruence_row : (env : Env) (ls : List Line) (T S : Sequent) (A : Ty) (l r : Term) (ns : List ℕ) → T ≡ (S ⊢ equation A l r) → IsByCongruence ls S l r ns →
    (Ss : List Sequent) × AreConcluded ls ns Ss × Row env Ss Cong T
congruence_row env ls T S A l r ns e c =
    let k = sequents_of ls (at_children S c.symbol c.types) c.lefts c.rights ns c.children in
    let q : AreEquated (at_children S c.symbol c.types) (term_list (terms c.lefts)) (term_list (terms c.rights)) k.0 =
    transport (λ us. AreEquated (at_children S c.symbol c.types) us (term_list (terms c.rights)) k.0) (sym (term_list-terms c.lefts))
    (transport (λ us. AreEquated (at_children S c.symbol c.types) c.lefts us k.0) (sym (term_list-terms c.rights)) k.2) in (
      k.0,
      k.1,
      transport (Row env k.0 Cong) (sym e) (
        A,
        l,
        r,
        refl,
        (
          c.symbol,
          c.types,
          terms c.lefts,
          terms c.rights,
          c.left,
          c.right,
          equated_beside (at_children S c.symbol c.types) (at_children (S ⊢ equation A l r) c.symbol c.types) (λ G. refl) (term_list (terms c.lefts)) (term_list (terms c.rights)) k.0 q,
        ),
      ),
    )

-- a base sequent that equates two terms of one type
pub alike_base : (env : Env) → IsWellFormed env → (T S : Sequent) (A : Ty) (l r : Term) → T ≡ (S ⊢ equation A l r) → IsBaseContext env S → AreAlike env (type_list S.context) l r → Typed env (type_list S.context) l A →
    IsBaseSequent env T
alike_base env w T S A l r e b a h =
    transport (IsBaseSequent env) (sym e)
    (base_equation env w S A l r b h (transport (Typed env (type_list S.context) r) (Typed-unique env (type_list S.context) l a.ty A a.left h) a.right) a.left_plain a.right_plain)

-- a line of a term's equation with itself
pub equates_itself : (ls : List Line) (S : Sequent) (l r : Term) (A : Ty) (n : ℕ) → concluded ls n ≡ Some (S ⊢ equation A l l) → l ≡ r → Equates ls S l r n
equates_itself ls S l r A n h e = transport (λ u. Equates ls S l u n) e (record { ty = A; line = h })

-- Terms of the lists by their place.
pub entry_read : (ts : List Term) (i : ℕ) → i < length ts → entry ts i ≡ get_or ts i (entry ts i)
entry_read [] i h = absurd (omega arith)
entry_read (t ∷ ts) zero h = refl
entry_read (t ∷ ts) (suc i) h = entry_read ts i (omega arith)

pub entry_is : (xs ts : List Term) (i : ℕ) (a : Term) → xs ≡ ts → i < length ts → a ≡ get_or xs i a → a ≡ entry ts i
entry_is xs ts i a e h q = by ts i h (q ∙ ap (λ ys. get_or ys i a) e)
  where
    by : (ts : List Term) (i : ℕ) → i < length ts → a ≡ get_or ts i a → a ≡ entry ts i
    by [] i h q = absurd (omega arith)
    by (t ∷ ts) zero h q = q
    by (t ∷ ts) (suc i) h q = by ts i (omega arith) q

pub settled_entry : (ls : List Line) (S : Sequent) (cs bs : List Term) (os : List (Option ℕ)) (i : ℕ) (o : Option ℕ) → AreSettled ls S cs bs os → i < length cs → o ≡ get_or os i o →
    IsSettled ls S (entry cs i) (entry bs i) o
settled_entry ls S cs bs os i o h k e =
    let n = settled_lengths ls S cs bs os h in
    settled_at ls S cs bs os i (entry cs i) (entry bs i) o h k (entry_read cs i k) (entry_read bs i (omega (arith, n.0, k))) e

pub found_read : (ls : List Line) (S : Sequent) (cs bs : List Term) (os xs : List (Option ℕ)) (i : ℕ) → AreSettled ls S cs bs os → xs ≡ os → i < length cs → IsSettled ls S (entry cs i) (entry bs i) (get_or xs i None)
found_read ls S cs bs os xs i h e k =
    let n = settled_lengths ls S cs bs os h in
    transport (λ ys. IsSettled ls S (entry cs i) (entry bs i) (get_or ys i None)) (sym e)
    (settled_entry ls S cs bs os i (get_or os i None) h k (at os i (omega (arith, n.1, k))))
  where
    at : (os : List (Option ℕ)) (i : ℕ) → i < length os → get_or os i None ≡ get_or os i (get_or os i None)
    at [] i h = absurd (omega arith)
    at (o ∷ os) zero h = refl
    at (o ∷ os) (suc i) h = at os i (omega arith)
