-- Words, and how a run ends.
use Rattle.std.proofs.Common.{◌≡◌, ◌<◌, ◌≤◌, ◌↔◌, ◌⊎◌, inl, inr, ℕ, Bool, IsTrue, List, [], ◌∷◌, Option, Some, None, IfSome, get_or, length, map, refl, ap, sym, ◌∙◌, arith}
use Rattle.std.proofs.lemmas.Slice.Eq.{bytes_eq-Decides}
use Rattle.std.specs.Prelude.{bytes_eq}
use Rattle.theory.specs.declared.script.Script.{Script}
use Rattle.theory.specs.declared.answers.Exit.{Exit}
use Rattle.theory.specs.declared.answers.Exit.TheVariants as exit
use Rattle.theory.specs.Scripts.{IsScript}
use Rattle.theory.specs.Answers.{EndsWith, IsCheck, IsCut, input_limit}

never : (e : Exit) → (e ≡ exit.SinkFault → ⊥) → (e ≡ exit.NoMemory → ⊥) → IsCut e → ⊥
never e a b (inl h) = a h
never e a b (inr h) = b h

single : {S : Type 0} (bytes_of : S → List ℕ) (items : List S) (w : S) → 1 ≤ length items → length items < 2 → w ≡ get_or items 0 w → map bytes_of items ≡ bytes_of w ∷ []
single bytes_of [] w a b e = absurd (omega (arith, a))
single bytes_of (x ∷ []) w a b e = ap (λ y. bytes_of y ∷ []) (sym e)
single bytes_of (x ∷ y ∷ ys) w a b e = absurd (omega (arith, b))

only_one : (xs ys : List ℕ) → ◌≡◌ {A = List (List ℕ)} (xs ∷ []) (ys ∷ []) → xs ≡ ys
only_one xs ys e = cc

pub one_word : {S : Type 0} (bytes_of : S → List ℕ) (items seen : List S) (w : S) (text word : List ℕ) (same : Bool) → seen ≡ items → 1 ≤ length seen → length seen < 2 → w ≡ get_or seen 0 w → text ≡ bytes_of w
    → same ≡ bytes_eq text word → (IsTrue same ↔ (map bytes_of items ≡ word ∷ []))
one_word bytes_of items seen w text word same s a b e f g =
    let one = sym (ap (map bytes_of) s) ∙ single bytes_of seen w a b e in (
      (λ h. one ∙ ap (λ x. x ∷ []) (sym f ∙ (bytes_eq-Decides text word).0 (sym g ∙ h))),
      (λ h. g ∙ (bytes_eq-Decides text word).1 (f ∙ only_one (bytes_of w) word (sym one ∙ h))),
    )

-- a script that is read, where no count rose, is answered with its report
complete : (words : List (List ℕ)) (bytes : List ℕ) (e : Exit) (old new : Option (List ℕ)) (s : Script) → EndsWith words bytes e old new → IsCheck words → length bytes ≤ input_limit → IsScript bytes s
    → (e ≡ exit.SourceFault → ⊥) → (e ≡ exit.SinkFault → ⊥) → (e ≡ exit.Ok) ⊎ (e ≡ exit.NoMemory)
complete words bytes exit.Ok old new s h c l i source sink = inl refl
complete words bytes exit.NoMemory old new s h c l i source sink = inr refl
complete words bytes exit.SourceFault old new s h c l i source sink = absurd (source refl)
complete words bytes exit.SinkFault old new s h c l i source sink = absurd (sink refl)
complete words bytes exit.BadScript old new s (inl (text, a, w)) c l i source sink = absurd (a.2 s i)
complete words bytes exit.BadScript old new s (inr (cut, h)) c l i source sink = absurd (never exit.BadScript (λ p. cc) (λ p. cc) cut)
complete words bytes exit.Usage old new s (inl (text, a, w)) c l i source sink = absurd (a.0 c)
complete words bytes exit.Usage old new s (inr (cut, h)) c l i source sink = absurd (never exit.Usage (λ p. cc) (λ p. cc) cut)
complete words bytes exit.TooLong old new s (inl (text, a, w)) c l i source sink = absurd (omega (arith, a.1, l))
complete words bytes exit.TooLong old new s (inr (cut, h)) c l i source sink = absurd (never exit.TooLong (λ p. cc) (λ p. cc) cut)

-- the same where the source may tell its bytes
pub complete_of : {F G : Type 0} (words : List (List ℕ)) (left : Option (List ℕ)) (e : Exit) (old new : Option (List ℕ)) → IfSome left (λ bytes. EndsWith words bytes e old new)
    → (e ≡ exit.SourceFault → F) → (e ≡ exit.SinkFault → G)
    → IfSome left (λ bytes. IsCheck words → length bytes ≤ input_limit → (s : Script) → IsScript bytes s → (F → ⊥) → (G → ⊥) → (e ≡ exit.Ok) ⊎ (e ≡ exit.NoMemory))
complete_of words None e old new ends source sink = tt
complete_of words (Some bytes) e old new ends source sink =
    λ c l s i f g. complete words bytes e old new s ends c l i (λ h. f (source h)) (λ h. g (sink h))
