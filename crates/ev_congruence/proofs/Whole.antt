-- Congruence as a whole.
use Rattle.std.specs.Prelude.{◌≡◌, ◌+◌, ◌++◌, ◌<◌, ◌^◌, ℕ, List, [], ◌∷◌, Option, Some, map, length, get_or, refl}
use Rattle.std.proofs.lemmas.List.{length-append}
use Rattle.std.proofs.Common.{ap, sym, ◌∙◌, subst as transport, arith}
use Rattle.ev_terms.specs.declared.types.Ty.{Ty}
use Rattle.ev_terms.specs.Types.{type_list}
use Rattle.ev_terms.specs.Term.{Term, terms}
use Rattle.ev_terms.specs.Measures.{depth, depths}
use Rattle.ev_terms.specs.Substitution.{fill}
use Rattle.ev_forms.specs.Forms.{equation}
use Rattle.ev_typing.specs.declared.typing.Sequent.{Sequent}
use Rattle.ev_typing.specs.TypeLists.{types}
use Rattle.ev_typing.specs.Env.{Env}
use Rattle.ev_typing.specs.Typing.{Typed, AreTyped}
use Rattle.ev_typing.specs.Occurs.{ArePlain}
use Rattle.ev_typing.specs.Sequents.{◌⊢◌}
use Rattle.ev_typing.proofs.Laws.{types-type_list, Typed-unique}
use Rattle.ev_kernel.specs.declared.rules.Line.{Line}
use Rattle.ev_kernel.specs.Derivable.{IsDerivation}
use Rattle.ev_congruence.specs.Growing.{concluded, Extends}
use Rattle.ev_congruence.specs.Settings.{AreAlike}
use Rattle.ev_congruence.specs.Equating.{Equates, AreEquatedBy, AreEquatedAt, IsSettled, AreReady, AreSettledFor, AreSettled, IsCongruence}
use Rattle.ev_congruence.specs.inner.Inside.{IsIndex, put}
use Rattle.ev_congruence.proofs.Terms.{append_nil}
use Rattle.ev_congruence.proofs.Appending.{extended_derivation, concluded_base, concluded_stays}
use Rattle.ev_congruence.proofs.Contexts.{map_shift_none, are_equals}
use Rattle.ev_congruence.proofs.Equal.{equated_by_beside}
use Rattle.ev_congruence.proofs.Bringing.{read_any}
use Rattle.ev_congruence.proofs.Bodies.{filled_alike}

-- The lines equate the terms, and both sides are alike.
pub record AreEquatedFor (env : Env) (lines : List Line) (S : Sequent) (body : Term) (ls rs : List Term) (ns : List ℕ) : Type 0 where
  pub equated : AreEquatedBy lines S ls rs ns
  pub alike : AreAlike env (type_list S.context) (fill body ls) (fill body rs)
  pub room : length (type_list S.context) + (depths (terms S.hyps) + depth body) < 2 ^ 32

-- what lines that equate the terms tell of them
pub record AreSides (env : Env) (C As : List Ty) (us vs : List Term) : Type 0 where
  pub lefts : AreTyped env C (terms us) As
  pub rights : AreTyped env C (terms vs) As
  pub lefts_plain : ArePlain env (terms us)
  pub rights_plain : ArePlain env (terms vs)

equated_sides : (env : Env) (ls : List Line) (S : Sequent) (As : List Ty) (us vs : List Term) (ns : List ℕ) → IsDerivation env ls → AreEquatedAt ls S As us vs ns → AreSides env (type_list S.context) As us vs
equated_sides env ls S [] [] [] [] d h = record { lefts = tt; rights = tt; lefts_plain = tt; rights_plain = tt }
equated_sides env ls S [] [] [] (n ∷ ns) d h = absurd h
equated_sides env ls S [] [] (v ∷ vs) ns d h = absurd h
equated_sides env ls S [] (u ∷ us) vs ns d h = absurd h
equated_sides env ls S (A ∷ As) [] vs ns d h = absurd h
equated_sides env ls S (A ∷ As) (u ∷ us) [] ns d h = absurd h
equated_sides env ls S (A ∷ As) (u ∷ us) (v ∷ vs) [] d h = absurd h
equated_sides env ls S (A ∷ As) (u ∷ us) (v ∷ vs) (n ∷ ns) d h =
    let b = are_equals env S A u v (concluded_base env ls n (S ⊢ equation A u v) d h.0) in
    let k = equated_sides env ls S As us vs ns d h.1 in record {
      lefts = (b.sides.left, k.lefts);
      rights = (b.sides.right, k.rights);
      lefts_plain = (b.left_plain, k.lefts_plain);
      rights_plain = (b.right_plain, k.rights_plain);
    }

equated_by : (ls : List Line) (S : Sequent) (As : List Ty) (us vs : List Term) (ns : List ℕ) → AreEquatedAt ls S As us vs ns → AreEquatedBy ls S us vs ns
equated_by ls S [] [] [] [] h = tt
equated_by ls S [] [] [] (n ∷ ns) h = absurd h
equated_by ls S [] [] (v ∷ vs) ns h = absurd h
equated_by ls S [] (u ∷ us) vs ns h = absurd h
equated_by ls S (A ∷ As) [] vs ns h = absurd h
equated_by ls S (A ∷ As) (u ∷ us) [] ns h = absurd h
equated_by ls S (A ∷ As) (u ∷ us) (v ∷ vs) [] h = absurd h
equated_by ls S (A ∷ As) (u ∷ us) (v ∷ vs) (n ∷ ns) h = (record { ty = A; line = h.0 }, equated_by ls S As us vs ns h.1)

-- one more of them
pub equated_more : (env : Env) (ls ms : List Line) (S : Sequent) (As Bs : List Ty) (us us' vs vs' : List Term) (ns ns' : List ℕ) (A : Ty) (u v : Term) (n : ℕ) → Extends env ls ms → AreEquatedAt ls S As us vs ns →
    concluded ms n ≡ Some (S ⊢ equation A u v) → Bs ≡ As ++ A ∷ [] → us' ≡ us ++ u ∷ [] → vs' ≡ vs ++ v ∷ [] → ns' ≡ ns ++ n ∷ [] → AreEquatedAt ms S Bs us' vs' ns'
equated_more env ls ms S As Bs us us' vs vs' ns ns' A u v n x h e b f g k =
    transport (λ w. AreEquatedAt ms S w us' vs' ns') (sym b)
    (transport (λ w. AreEquatedAt ms S (As ++ A ∷ []) w vs' ns') (sym f)
    (transport (λ w. AreEquatedAt ms S (As ++ A ∷ []) (us ++ u ∷ []) w ns') (sym g)
    (transport (AreEquatedAt ms S (As ++ A ∷ []) (us ++ u ∷ []) (vs ++ v ∷ [])) (sym k) (last As us vs ns h))))
  where
    last : (As : List Ty) (us vs : List Term) (ns : List ℕ) → AreEquatedAt ls S As us vs ns → AreEquatedAt ms S (As ++ A ∷ []) (us ++ u ∷ []) (vs ++ v ∷ []) (ns ++ n ∷ [])
    last [] [] [] [] h = (e, tt)
    last [] [] [] (m ∷ ns) h = absurd h
    last [] [] (y ∷ vs) ns h = absurd h
    last [] (z ∷ us) vs ns h = absurd h
    last (B ∷ As) [] vs ns h = absurd h
    last (B ∷ As) (z ∷ us) [] ns h = absurd h
    last (B ∷ As) (z ∷ us) (y ∷ vs) [] h = absurd h
    last (B ∷ As) (z ∷ us) (y ∷ vs) (m ∷ ns) h = (concluded_stays env ls ms m (S ⊢ equation B z y) x h.0, last As us vs ns h.1)

pub ready_alike : (env : Env) (ls : List Line) (S : Sequent) (t : Term) (us vs : List Term) (ns : List ℕ) → IsDerivation env ls → AreReady env ls S t us vs ns → AreEquatedFor env ls S t us vs ns
ready_alike env ls S t us vs ns d h =
    let n : length (type_list S.context ++ h.types) ≡ length (type_list S.context) + length h.types = length-append (type_list S.context) h.types in
    let k = equated_sides env ls S h.types us vs ns d h.equated in record {
      equated = equated_by ls S h.types us vs ns h.equated;
      alike = filled_alike env (type_list S.context) h.types t h.ty us vs (2 ^ 29) h.typed k.lefts k.rights h.plain k.lefts_plain k.rights_plain (omega (arith, h.lefts_depth))
          (omega (arith, h.rights_depth)) (omega (arith, n, h.few, h.body_depth));
      room = omega (arith, n, h.few, h.body_depth, h.hyps_depth);
    }

-- a sequent is inside itself
pub inside_itself : (S : Sequent) → IsIndex S S 0
inside_itself S = record {
  bound = [];
  are = refl;
  context = sym (ap types (append_nil (type_list S.context)) ∙ types-type_list S.context);
  hyps = sym (map_shift_none S.hyps);
}

pub put_none : (ts : List Term) (t : Term) → put 0 ts t ≡ fill t ts
unfolding put
put_none ts t = refl

pub alike_put : (env : Env) (C : List Ty) (t : Term) (ls rs : List Term) → AreAlike env C (fill t ls) (fill t rs) → AreAlike env C (put 0 ls t) (put 0 rs t)
unfolding put
alike_put env C t ls rs h = h

pub settled_put : (ls : List Line) (S : Sequent) (t : Term) (us vs : List Term) (l r : Term) (o : Option ℕ) → l ≡ put 0 us t → r ≡ put 0 vs t → IsSettled ls S (put 0 us t) (put 0 vs t) o → IsSettled ls S l r o
settled_put ls S t us vs l r o e f h = transport (λ x. IsSettled ls S x r o) (sym e) (transport (λ x. IsSettled ls S (put 0 us t) x o) (sym f) h)

pub alike_sides : (env : Env) (C : List Ty) (t : Term) (us vs : List Term) (l r : Term) → l ≡ put 0 us t → r ≡ put 0 vs t → AreAlike env C (fill t us) (fill t vs) → AreAlike env C l r
alike_sides env C t us vs l r e f h =
    transport (λ x. AreAlike env C x r) (sym (e ∙ put_none us t)) (transport (λ x. AreAlike env C (fill t us) x) (sym (f ∙ put_none vs t)) h)

pub equates_put : (ls : List Line) (S : Sequent) (t : Term) (us vs : List Term) (l r : Term) (n : ℕ) → l ≡ put 0 us t → r ≡ put 0 vs t → Equates ls S l r n → Equates ls S (fill t us) (fill t vs) n
equates_put ls S t us vs l r n e f h =
    transport (λ x. Equates ls S x (fill t vs) n) (e ∙ put_none us t) (transport (λ x. Equates ls S l x n) (f ∙ put_none vs t) h)

-- The context of the first premise.
first_of : (ls : List Line) (S : Sequent) (us vs : List Term) (ns : List ℕ) (m : ℕ) → AreEquatedBy ls S us vs ns → 0 < length ns → m ≡ get_or ns 0 m →
    (A : Ty) × (l r : Term) × (concluded ls m ≡ Some (S ⊢ equation A l r))
first_of ls S us vs [] m h k e = absurd (omega arith)
first_of ls S [] [] (n ∷ ns) m h k e = absurd h
first_of ls S [] (v ∷ vs) (n ∷ ns) m h k e = absurd h
first_of ls S (u ∷ us) [] (n ∷ ns) m h k e = absurd h
first_of ls S (u ∷ us) (v ∷ vs) (n ∷ ns) m h k e = (h.0.ty, u, v, ap (concluded ls) e ∙ h.0.line)

pub first_concluded : (ls : List Line) (S : Sequent) (us vs : List Term) (ns : List ℕ) (m : ℕ) → AreEquatedBy ls S us vs ns → 0 < length ns → m ≡ get_or ns 0 m → (P : Sequent) × (concluded ls m ≡ Some P)
first_concluded ls S us vs ns m h k e = let q = first_of ls S us vs ns m h k e in (S ⊢ equation q.0 q.1 q.2, q.3)

same_setting : (F S : Sequent) (A : Ty) (l r : Term) → F ≡ (S ⊢ equation A l r) → (G : Term) → (S ⊢ G) ≡ (F ⊢ G)
same_setting F S A l r e G = sym (ap (λ (x : Sequent). x ⊢ G) e)

found_is : (o : Option Sequent) (F P : Sequent) → o ≡ Some F → o ≡ Some P → F ≡ P
found_is o F P e f = let q : ◌≡◌ {A = Option Sequent} (Some F) (Some P) = sym e ∙ f in cc

pub beside_first : (ls : List Line) (S F : Sequent) (us vs : List Term) (ns : List ℕ) (m : ℕ) → AreEquatedBy ls S us vs ns → 0 < length ns → m ≡ get_or ns 0 m → concluded ls m ≡ Some F → (G : Term) → (S ⊢ G) ≡ (F ⊢ G)
beside_first ls S F us vs ns m h k e f G =
    let q = first_of ls S us vs ns m h k e in
    same_setting F S q.0 q.1 q.2 (found_is (concluded ls m) F (S ⊢ equation q.0 q.1 q.2) f q.3) G

pub ready_beside : (env : Env) (ls : List Line) (S F : Sequent) (t : Term) (us vs : List Term) (ns : List ℕ) → ((G : Term) → (S ⊢ G) ≡ (F ⊢ G)) → AreEquatedFor env ls S t us vs ns → AreEquatedFor env ls F t us vs ns
ready_beside env ls S F t us vs ns k h =
    let c : S.context ≡ F.context = ap (λ (x : Sequent). x.context) (k t) in
    let y : S.hyps ≡ F.hyps = ap (λ (x : Sequent). x.hyps) (k t) in record {
      equated = equated_by_beside ls S F k us vs ns h.equated;
      alike = transport (λ C. AreAlike env (type_list C) (fill t us) (fill t vs)) c h.alike;
      room = transport (λ C. length (type_list C) + (depths (terms F.hyps) + depth t) < 2 ^ 32) c
          (transport (λ H. length (type_list S.context) + (depths (terms H) + depth t) < 2 ^ 32) y h.room);
    }

-- the line that was found is that of the whole
pub congruence_is : (env : Env) (before after : List Line) (F : Sequent) (t : Term) (us vs : List Term) (ns : List ℕ) (m n : ℕ) → IsDerivation env before → Extends env before after → 0 < length ns → m ≡ get_or ns 0 m →
    concluded before m ≡ Some F → Equates after F (fill t us) (fill t vs) n → IsCongruence env before after t us vs ns n
congruence_is env before after F t us vs ns m n d x k e f h S A q y =
    let same = beside_first before S F us vs ns m q k e f in
    let b = are_equals env F h.ty (fill t us) (fill t vs) (concluded_base env after n (F ⊢ equation h.ty (fill t us) (fill t vs)) (extended_derivation env before after d x) h.line) in
    let z : Typed env (type_list F.context) (fill t us) A = transport (λ C. Typed env (type_list C) (fill t us) A) (ap (λ (w : Sequent). w.context) (same t)) y in
    let a : h.ty ≡ A = Typed-unique env (type_list F.context) (fill t us) h.ty A b.sides.left z in
    h.line ∙ ap (λ B. Some (F ⊢ equation B (fill t us) (fill t vs))) a ∙ ap Some (sym (same (equation A (fill t us) (fill t vs))))

-- through slices
pub first_number : (xs ys : List ℕ) → xs ≡ ys → 0 < length ys → get_or xs 0 0 ≡ get_or ys 0 (get_or xs 0 0)
first_number xs ys e h = transport (λ zs. get_or zs 0 0 ≡ get_or ys 0 (get_or zs 0 0)) (sym e) (read_any ys 0 0 h)

pub ready_by : (env : Env) (ls : List Line) (S : Sequent) (t : Term) (us vs us' vs' : List Term) (ns ns' : List ℕ) → us' ≡ us → vs' ≡ vs → ns' ≡ ns → AreEquatedFor env ls S t us vs ns → AreEquatedFor env ls S t us' vs' ns'
ready_by env ls S t us vs us' vs' ns ns' e f g h =
    transport (λ w. AreEquatedFor env ls S t w vs' ns') (sym e) (transport (λ w. AreEquatedFor env ls S t us w ns') (sym f) (transport (AreEquatedFor env ls S t us vs) (sym g) h))

pub equates_by : (ls : List Line) (S : Sequent) (t : Term) (us vs us' vs' : List Term) (n : ℕ) → us' ≡ us → vs' ≡ vs → Equates ls S (fill t us') (fill t vs') n → Equates ls S (fill t us) (fill t vs) n
equates_by ls S t us vs us' vs' n e f h = transport (λ w. Equates ls S (fill t w) (fill t vs) n) e (transport (λ w. Equates ls S (fill t us') (fill t w) n) f h)

-- each pair has a line
settled_from : (ls : List Line) (S : Sequent) (us vs : List Term) (ns : List ℕ) → AreEquatedBy ls S us vs ns → AreSettled ls S us vs (map (λ n. Some n) ns)
settled_from ls S [] [] [] h = tt
settled_from ls S [] [] (n ∷ ns) h = h
settled_from ls S [] (v ∷ vs) ns h = h
settled_from ls S (u ∷ us) [] ns h = h
settled_from ls S (u ∷ us) (v ∷ vs) [] h = h
settled_from ls S (u ∷ us) (v ∷ vs) (n ∷ ns) h = (h.0, settled_from ls S us vs ns h.1)

pub all_settled : (env : Env) (ls : List Line) (S : Sequent) (t : Term) (us vs : List Term) (ns : List ℕ) (os : List (Option ℕ)) → os ≡ map (λ n. Some n) ns → AreEquatedFor env ls S t us vs ns → AreSettledFor env ls S t us vs os
all_settled env ls S t us vs ns os e h =
    transport (AreSettledFor env ls S t us vs) (sym e) (record { settled = settled_from ls S us vs ns h.equated; alike = h.alike; room = h.room })
