-- The steps of the readers of bound names.
use Rattle.std.proofs.Common.{◌≡◌, ℕ, zero, suc, ◌+◌, ◌<◌, false, List, [], ◌∷◌, ◌++◌, drop, refl, ap, subst, sym, ◌∙◌, arith, append-nil, append_assoc}
use Rattle.std.specs.Prelude.{Option, Some, None}
use Rattle.ev_syntax.specs.Marks.{comma, oftype_word}
use Rattle.ev_syntax.specs.Tokens.{Token, name, mark}
use Rattle.ev_syntax.specs.Raw.{RawType, Binder}
use Rattle.ev_syntax.specs.inner.Finding.{Found, on_found, Comes}
use Rattle.ev_syntax.specs.inner.Resuming.{Settles}
use Rattle.ev_syntax.specs.inner.TypeParser.{begins, parse_type, a_type}
use Rattle.ev_syntax.specs.inner.BinderParser.{listed, plain_binder, typed_binder, parse_binder, parse_binders}
use Rattle.ev_syntax.specs.inner.BinderAnswers.{further, FurtherAnswer, BindersAnswer}
use Rattle.ev_syntax.specs.declared.read_pieces.Piece.{Piece}
use Rattle.ev_syntax.proofs.Resumes.{settles_always, settles_turn, comes_at_once, settles_bind}

abbrev pub IsBinder : List Token → Option (Found Binder) → Type 0
IsBinder ts o = Comes (λ g. parse_binder g ts) o

pub plain_name : (n : List ℕ) (ts us : List Token) → ts ≡ name n ∷ us → begins oftype_word us ≡ false → IsBinder ts (Some (plain_binder n, us))
plain_name n ts us e h = subst (λ xs. IsBinder xs (Some (plain_binder n, us))) (sym e) (comes_at_once (λ g. parse_binder g (name n ∷ us)) (Some (plain_binder n, us)) (λ g. rw h))

pub typed_name : (n : List ℕ) (ts us : List Token) (x : Option (Found RawType)) → ts ≡ name n ∷ mark oftype_word ∷ us → Comes (λ g. parse_type g a_type us) x
    → IsBinder ts (on_found x (λ a vs. Some (typed_binder n a, vs)))
typed_name n ts us x e c = subst (λ xs. IsBinder xs (on_found x (λ a vs. Some (typed_binder n a, vs)))) (sym e)
    (c.0, λ g le. ap (λ o. on_found o (λ a vs. Some (typed_binder n a, vs))) (c.1 g le))

-- lists
abbrev cons : Binder → List Binder → List Binder
cons b bs = b ∷ bs

abbrev joined : List Binder → Option (Found (List Binder)) → Option (Found (List Binder))
joined all x = on_found x (λ more us. Some (all ++ more, us))

abbrev consed : Binder → Option (Found (List Binder)) → Option (Found (List Binder))
consed a x = on_found x (λ more ws. Some (a ∷ more, ws))

one_more : (all : List Binder) (o : Option (Found Binder)) (rest : List Token → Option (Found (List Binder)))
    → joined all (on_found o (λ a vs. consed a (rest vs))) ≡ on_found o (λ a vs. joined (all ++ a ∷ []) (rest vs))
one_more all None rest = refl
one_more all (Some (a, vs)) rest = go (rest vs)
  where
    go : (x : Option (Found (List Binder))) → joined all (consed a x) ≡ joined (all ++ a ∷ []) x
    go None = refl
    go (Some (more, ws)) = ap (λ ys. Some (ys, ws)) (sym (append_assoc all (a ∷ []) more))

further_binder : (all : List Binder) (ts us : List Token) (x : Option (Found Binder)) (o : Option (Found (List Binder))) → ts ≡ mark comma ∷ us → IsBinder us x
    → Settles (λ n g. on_found x (λ a vs. further (all ++ a ∷ []) vs n g)) o → Settles (further all ts) o
further_binder all ts us x o e c s = subst (λ xs. Settles (further all xs) o) (sym e)
    (settles_turn (further all (mark comma ∷ us)) (λ n g. on_found (parse_binder g us) (λ a vs. further (all ++ a ∷ []) vs n g)) o
    (λ n g. one_more all (parse_binder g us) (listed [] cons n (parse_binder g)))
    (settles_bind (λ g. parse_binder g us) (λ n g a vs. further (all ++ a ∷ []) vs n g) x o c s))

pub next_binder : (all : List Binder) (b : Binder) (ts us vs : List Token) (o : Option (Found (List Binder))) → ts ≡ mark comma ∷ us → IsBinder us (Some (b, vs))
    → Settles (further (all ++ b ∷ []) vs) o → Settles (further all ts) o
next_binder all b ts us vs o e c s = further_binder all ts us (Some (b, vs)) o e c s

pub no_next_binder : (all : List Binder) (ts us : List Token) → ts ≡ mark comma ∷ us → IsBinder us None → Settles (further all ts) None
no_next_binder all ts us e c = further_binder all ts us None None e c (settles_always (λ n g. None) None (λ n g. refl))

no_item : (n : ℕ) (read : List Token → Option (Found Binder)) (ts : List Token) → begins comma ts ≡ false → listed [] cons n read ts ≡ Some ([], ts)
no_item zero read ts h = refl
no_item (suc n) read ts h = rw h

pub last_binder : (all : List Binder) (ts : List Token) → begins comma ts ≡ false → Settles (further all ts) (Some (all, ts))
last_binder all ts h = settles_always (further all ts) (Some (all, ts)) (λ n g. ap (λ o. on_found o (λ more us. Some (all ++ more, us))) (no_item n (parse_binder g) ts h) ∙ ap (λ ys. Some (ys, ts)) (append-nil all))

pub all_binders : (ts : List Token) (x : Option (Found Binder)) (o : Option (Found (List Binder))) → IsBinder ts x → Settles (λ n g. on_found x (λ b us. further (b ∷ []) us n g)) o → Comes (λ g. parse_binders g ts) o
all_binders ts x o c s = (c.0 + s.0, λ g le. ap (λ y. on_found y (λ b us. further (b ∷ []) us g g)) (c.1 g (omega arith)) ∙ s.1 g g (omega arith) (omega arith))

pub from_first : (limit : ℕ) (ts : List Token) (at to : ℕ) (b : Binder) → IsBinder (drop at ts) (Some (b, drop to ts)) → at < to → (o : Option (Piece (List Binder) × ℕ))
    → FurtherAnswer limit ts to (b ∷ []) o → BindersAnswer limit ts at o
from_first limit ts at to b c lt None h = all_binders (drop at ts) (Some (b, drop to ts)) None c h
from_first limit ts at to b c lt (Some (p, end)) h =
    (h.0, h.1, all_binders (drop at ts) (Some (b, drop to ts)) (Some (h.0, drop end ts)) c h.2, h.3, let w = h.4 in omega arith)
