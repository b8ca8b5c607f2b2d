-- Limits that lines keep.
use Rattle.std.specs.Prelude.{◌≡◌, ◌+◌, ◌-◌, ◌<◌, ◌≤◌, ◌++◌, ◌⊎◌, ℕ, zero, suc, List, [], ◌∷◌, Some, map, max, length, take, get_or, slice_get, refl}
use Rattle.std.specs.Option.{unwrap_or}
use Rattle.std.specs.List.{AllByRecursion}
use Rattle.std.proofs.Common.{ap, sym, subst as transport, arith, inl, inr}
use Rattle.ev_terms.specs.declared.types.Ty.{Ty, Int, Bool, Prop, Param, Data}
use Rattle.ev_terms.specs.declared.types.Tys.{Tys, Empty}
use Rattle.ev_terms.specs.declared.types.Sym.{Sym}
use Rattle.ev_terms.specs.Types.{pow, prod, more, type_list}
use Rattle.ev_terms.specs.Term.{Term, var, lit, node, terms}
use Rattle.ev_terms.specs.Symbols.{binds}
use Rattle.ev_terms.specs.Measures.{type_depth, types_depth, depth, depths}
use Rattle.ev_terms.specs.Substitution.{shift, type_inst, type_at}
use Rattle.ev_terms.proofs.ListLaws.{depth-shift}
use Rattle.ev_terms.proofs.Sizes.{type_depth_inst_le}
use Rattle.ev_forms.specs.Forms.{equation, vars_above}
use Rattle.ev_typing.specs.declared.typing.Sequent.{Sequent}
use Rattle.ev_typing.specs.Env.{Env, profile}
use Rattle.ev_typing.specs.Typing.{Typed}
use Rattle.ev_typing.specs.Sequents.{◌⊢◌}
use Rattle.ev_typing.proofs.Names.{all_append}
use Rattle.ev_kernel.specs.declared.rules.BaseRule.{BaseRule}
use Rattle.ev_kernel.specs.declared.rules.Line.{Line}
use Rattle.ev_kernel.specs.Derivable.{numbered}
use Rattle.ev_kernel.specs.Row.{at_children}
use Rattle.ev_congruence.specs.Growing.{concluded}
use Rattle.ev_congruence.specs.Limits.{Count, IsWithin, TermsAreWithin, TypesAreWithin, RuleIsWithin, AreWithin, Keep, KeepBy, GoesByParts, HasRoom, KeepBetween, HasShallowSignatures, DepthIsCounted, DepthGoesByParts, NestingGoesByParts}
use Rattle.ev_congruence.specs.inner.Inside.{put}
use Rattle.ev_congruence.proofs.Terms.{all_take, all_reverse, all_get, some_out}
use Rattle.ev_congruence.proofs.Appending.{concluded_at}
use Rattle.ev_congruence.proofs.Nodes.{inner_context, put_sides}

-- Lists.
pub all_weaker : {X : Type 0} {P Q : X → Type 0} (xs : List X) → ((x : X) → P x → Q x) → AllByRecursion P xs → AllByRecursion Q xs
all_weaker [] f h = tt
all_weaker (x ∷ xs) f h = (f x h.0, all_weaker xs f h.1)

pub all_at : (P : Term → Type 0) (ts : List Term) (i : ℕ) (t : Term) → AllByRecursion P ts → t ≡ get_or ts i t → i < length ts → P t
all_at P [] i t h e k = absurd (omega arith)
all_at P (u ∷ ts) zero t h e k = transport P (sym e) h.0
all_at P (u ∷ ts) (suc i) t h e k = all_at P ts i t h.1 e (omega arith)

all_map : (P Q : Term → Type 0) (f : Term → Term) (ts : List Term) → ((t : Term) → P t → Q (f t)) → AllByRecursion P ts → AllByRecursion Q (map f ts)
all_map P Q f [] g h = tt
all_map P Q f (t ∷ ts) g h = (g t h.0, all_map P Q f ts g h.1)

all_unmap : (P : Term → Type 0) (f : Term → Term) (ts : List Term) (i : ℕ) (t : Term) → AllByRecursion P (map f ts) → t ≡ get_or ts i t → i < length ts → P (f t)
all_unmap P f [] i t h e k = absurd (omega arith)
all_unmap P f (u ∷ ts) zero t h e k = transport (λ w. P (f w)) (sym e) h.0
all_unmap P f (u ∷ ts) (suc i) t h e k = all_unmap P f ts i t h.1 e (omega arith)

-- Lines that are added.
slice_within : (m : Count) (d : ℕ) (ls : List Line) (i : ℕ) (l : Line) → AreWithin m d ls → numbered ls (suc i) ≡ Some l → IsWithin m d l.sequent
slice_within m d [] i l h e = cc
slice_within m d (k ∷ ls) zero l h e = let q : k ≡ l = cc in transport (λ (x : Line). IsWithin m d x.sequent) q h.0.0
slice_within m d (k ∷ ls) (suc i) l h e = slice_within m d ls i l h.1 e

numbered_line_within : (m : Count) (d : ℕ) (ls : List Line) (n : ℕ) (l : Line) → AreWithin m d ls → numbered ls n ≡ Some l → IsWithin m d l.sequent
numbered_line_within m d ls zero l h e = cc
numbered_line_within m d ls (suc i) l h e = slice_within m d ls i l h e

pub within_concluded : (m : Count) (d : ℕ) (ls : List Line) (n : ℕ) (S : Sequent) → AreWithin m d ls → concluded ls n ≡ Some S → IsWithin m d S
within_concluded m d ls n S h e =
    let q = concluded_at ls n S e in transport (IsWithin m d) q.2 (numbered_line_within m d ls n q.0 h q.1)

pub keep_one : (before after : List Line) (l : Line) → after ≡ before ++ l ∷ [] → KeepBy before after l.sequent l.rule
keep_one before after l e m d s r h =
    transport (AreWithin m d) (sym e) (all_append (λ (k : Line). IsWithin m d k.sequent × RuleIsWithin m d k.rule) before (l ∷ []) h ((s, r), tt))

pub keep_same : (before after : List Line) (S : Sequent) (rule : BaseRule) → after ≡ before → KeepBy before after S rule
keep_same before after S rule e m d s r h = transport (AreWithin m d) (sym e) h

-- a sequent that is another one
pub within_by : (m : Count) (d : ℕ) (S T : Sequent) → T ≡ S → IsWithin m d S → IsWithin m d T
within_by m d S T e h = transport (IsWithin m d) (sym e) h

-- Room.
pub room_context : (m : Count) (d : ℕ) (S : Sequent) (ts : List Term) → HasRoom m d S ts → TypesAreWithin m d (type_list S.context)
room_context m d S ts r = all_weaker (type_list S.context) (λ A h. omega (arith, h)) r.context

pub room_less : (m : Count) (d : ℕ) (S : Sequent) (ts us : List Term) → HasRoom m d S ts → AllByRecursion (λ t. m.of_term t + 201 ≤ d) us → HasRoom m d S us
room_less m d S ts us r h = record { context = r.context; some = r.some; hyps = r.hyps; sides = h }

pub room_beside : (m : Count) (d : ℕ) (S T : Sequent) (ts : List Term) → ((G : Term) → (S ⊢ G) ≡ (T ⊢ G)) → HasRoom m d S ts → HasRoom m d T ts
room_beside m d S T ts k r = record {
  context = transport (λ (x : Sequent). AllByRecursion (λ A. m.of_type A + 1 ≤ d) (type_list x.context)) (k S.goal) r.context;
  some = r.some;
  hyps = transport (λ (x : Sequent). TermsAreWithin m d x.hyps) (k S.goal) r.hyps;
  sides = r.sides;
}

pub equation_within : (env : Env) (m : Count) (d : ℕ) (S T : Sequent) (A : Ty) (l r : Term) → GoesByParts env m → HasRoom m d S (l ∷ []) → HasRoom m d S (r ∷ []) → Typed env (type_list S.context) l A →
    T ≡ (S ⊢ equation A l r) → IsWithin m d T
equation_within env m d S T A l r p a b h e =
    let k : m.of_term (equation A l r) ≤ 1 + max (m.of_type A) (max (m.of_term l) (m.of_term r)) = p.equations A l r in
    let q : m.of_type A ≤ max (d - 1) (200 + m.of_term l) = p.typed (type_list S.context) l A (d - 1) h (all_weaker (type_list S.context) (λ B g. omega (arith, g)) a.context) in
    let u : m.of_term l + 201 ≤ d = a.sides.0 in
    let v : m.of_term r + 201 ≤ d = b.sides.0 in
    let o : 1 ≤ d = a.some in
    within_by m d (S ⊢ equation A l r) T e (record { context = room_context m d S (l ∷ []) a; hyps = a.hyps; goal = omega (arith, k, q, u, v, o) })

pub room_children : (env : Env) (m : Count) (d : ℕ) (S I : Sequent) (s : Sym) (As : Tys) (ts : List Term) (G : Term) → GoesByParts env m → I ≡ (at_children S s As ⊢ G) →
    HasRoom m d S (node s As (terms ts) ∷ []) → HasRoom m d I ts
room_children env m d S I s As ts G p e r =
    let n : m.of_term (node s As (terms ts)) + 201 ≤ d = r.sides.0 in record {
      context = transport (AllByRecursion (λ A. m.of_type A + 1 ≤ d)) (sym (inner_context S I s As G e))
          (all_append (λ A. m.of_type A + 1 ≤ d) (type_list S.context) (take (binds s) (type_list As)) r.context
          (all_take (λ A. m.of_type A + 1 ≤ d) (binds s) (type_list As) (all_weaker (type_list As) (λ A h. omega (arith, h, n)) (p.types s As ts))));
      some = r.some;
      hyps = transport (λ (x : Sequent). TermsAreWithin m d x.hyps) (sym e)
          (all_map (λ P. m.of_term P ≤ d) (λ P. m.of_term P ≤ d) (λ P. shift P 0 (length (take (binds s) (type_list As)))) S.hyps (λ P h. let q = p.shifted P 0 (length (take (binds s) (type_list As))) in omega (arith, q, h)) r.hyps);
      sides = all_weaker ts (λ t h. omega (arith, h, n)) (p.children s As ts);
    }

pub room_sides : (m : Count) (d : ℕ) (S : Sequent) (us vs : List Term) → us ≡ vs → HasRoom m d S us → HasRoom m d S vs
room_sides m d S us vs e r = transport (HasRoom m d S) e r

pub room_each : (m : Count) (d : ℕ) (S : Sequent) (f : Term → Term) (ts : List Term) (i : ℕ) (t : Term) → HasRoom m d S (map f ts) → t ≡ get_or ts i t → i < length ts → HasRoom m d S (f t ∷ [])
room_each m d S f ts i t r e k = room_less m d S (map f ts) (f t ∷ []) r (all_unmap (λ u. m.of_term u + 201 ≤ d) f ts i t r.sides e k, tt)

pub room_item : (m : Count) (d : ℕ) (S : Sequent) (ts : List Term) (i : ℕ) (t : Term) → HasRoom m d S ts → t ≡ get_or ts i t → i < length ts → HasRoom m d S (t ∷ [])
room_item m d S ts i t r e k = room_less m d S ts (t ∷ []) r (all_at (λ u. m.of_term u + 201 ≤ d) ts i t r.sides e k, tt)

-- What is kept.
pub between_any : (env : Env) (before after : List Line) (S : Sequent) (ls rs : List Term) → KeepBetween env before after S [] [] → KeepBetween env before after S ls rs
between_any env before after S ls rs k m d p a b h = k m d p (room_less m d S ls [] a tt) (room_less m d S rs [] b tt) h

pub between_same : (env : Env) (ls : List Line) (S : Sequent) (us vs : List Term) → KeepBetween env ls ls S us vs
between_same env ls S us vs m d p a b h = h

pub between_twice : (env : Env) (before between after : List Line) (S : Sequent) (us vs : List Term) → KeepBetween env before between S us vs → KeepBetween env between after S us vs → KeepBetween env before after S us vs
between_twice env before between after S us vs j k m d p a b h = k m d p a b (j m d p a b h)

pub between_by : (env : Env) (before after : List Line) (S : Sequent) (us vs us' vs' : List Term) → us' ≡ us → vs' ≡ vs → KeepBetween env before after S us vs → KeepBetween env before after S us' vs'
between_by env before after S us vs us' vs' e f k =
    transport (λ w. KeepBetween env before after S w vs') (sym e) (transport (KeepBetween env before after S us) (sym f) k)

pub between_left : (env : Env) (before after : List Line) (S : Sequent) (us vs : List Term) → KeepBetween env before after S us [] → KeepBetween env before after S us vs
between_left env before after S us vs k m d p a b h = k m d p a (room_less m d S vs [] b tt) h

-- in the context of a symbol's children
pub between_inside : (env : Env) (before after : List Line) (S I : Sequent) (s : Sym) (As : Tys) (ls rs : List Term) (G : Term) → I ≡ (at_children S s As ⊢ G) → KeepBetween env before after I ls rs →
    KeepBetween env before after S (node s As (terms ls) ∷ []) (node s As (terms rs) ∷ [])
between_inside env before after S I s As ls rs G e k m d p a b h =
    k m d p (room_children env m d S I s As ls G p e a) (room_children env m d S I s As rs G p e b) h

-- a line by reflexivity, and one by congruence
pub between_itself : (env : Env) (before after : List Line) (S : Sequent) (A : Ty) (l : Term) → Typed env (type_list S.context) l A → Keep before after ((S ⊢ equation A l l) ∷ []) [] [] → KeepBetween env before after S (l ∷ []) []
between_itself env before after S A l t k m d p a b h = k m d (equation_within env m d S (S ⊢ equation A l l) A l l p a a t refl, tt) tt tt h

pub between_sides : (env : Env) (before after : List Line) (S T : Sequent) (A : Ty) (l r : Term) (rule : BaseRule) → Typed env (type_list S.context) l A → T ≡ (S ⊢ equation A l r) →
    ((m : Count) (d : ℕ) → RuleIsWithin m d rule) → KeepBy before after T rule → KeepBetween env before after S (l ∷ []) (r ∷ [])
between_sides env before after S T A l r rule t e f k m d p a b h = k m d (equation_within env m d S T A l r p a b t e) (f m d) h

-- variables
pub variables_within : (env : Env) (m : Count) (d : ℕ) → GoesByParts env m → 1 ≤ d → (n k : ℕ) → TermsAreWithin m d (vars_above n k)
variables_within env m d p o zero k = tt
variables_within env m d p o (suc n) k = let v = p.variables (n + k) in (omega (arith, v, o), variables_within env m d p o n k)

-- a line that is brought into a longer context
pub between_brought : (env : Env) (before after : List Line) (S F T : Sequent) (n i k : ℕ) → concluded before n ≡ Some F → T ≡ (S ⊢ shift F.goal 0 k) → Keep before after (T ∷ []) (vars_above i k) [] →
    KeepBetween env before after S [] []
between_brought env before after S F T n i k c e j m d p a b h =
    let f = within_concluded m d before n F h c in
    let g = p.shifted F.goal 0 k in
    j m d (within_by m d (S ⊢ shift F.goal 0 k) T e (record { context = room_context m d S [] a; hyps = a.hyps; goal = omega (arith, g, f.goal) }), tt) (variables_within env m d p a.some i k) tt h

-- Depth.
types_each : (As : Tys) (n : ℕ) → types_depth As ≤ n → AllByRecursion (λ A. type_depth A ≤ n) (type_list As)
types_each Empty n h = tt
types_each (more A As) n h = (omega (arith, h), types_each As n (omega (arith, h)))

each_type : (As : Tys) (n : ℕ) → AllByRecursion (λ A. type_depth A ≤ n) (type_list As) → types_depth As ≤ n
each_type Empty n h = omega arith
each_type (more A As) n h = omega (arith, h.0, each_type As n h.1)

terms_each : (ts : List Term) (n : ℕ) → depths (terms ts) ≤ n → AllByRecursion (λ t. depth t ≤ n) ts
terms_each [] n h = tt
terms_each (t ∷ ts) n h = (omega (arith, h), terms_each ts n (omega (arith, h)))

each_term : (ts : List Term) (n : ℕ) → AllByRecursion (λ t. depth t ≤ n) ts → depths (terms ts) ≤ n
each_term [] n h = omega arith
each_term (t ∷ ts) n h = omega (arith, h.0, each_term ts n h.1)

pub depth_is_counted : DepthIsCounted
depth_is_counted d S = (
  λ h. omega (arith, each_type S.context d h.context, each_term S.hyps d h.hyps, h.goal),
  λ h. record { context = types_each S.context d (omega (arith, h)); hyps = terms_each S.hyps d (omega (arith, h)); goal = omega (arith, h) },
)

equation_depth : (A : Ty) (l r : Term) → depth (equation A l r) ≤ 1 + max (type_depth A) (max (depth l) (depth r))
equation_depth Int l r = omega arith
equation_depth Bool l r = omega arith
equation_depth Prop l r = omega arith
equation_depth (Param i) l r = omega arith
equation_depth (pow A) l r = omega arith
equation_depth (prod A B) l r = omega arith
equation_depth (Data n As) l r = omega arith

arguments_depth : (As : Tys) (i : ℕ) → type_depth (type_at As i) ≤ types_depth As + 1
arguments_depth As i = by (types_depth As) (type_list As) i i (types_each As (types_depth As) (omega arith))
  where
    by : (n : ℕ) (Bs : List Ty) (i j : ℕ) → AllByRecursion (λ B. type_depth B ≤ n) Bs → type_depth (unwrap_or (slice_get Bs i) (Param j)) ≤ n + 1
    by n [] i j h = omega arith
    by n (B ∷ Bs) zero j h = omega (arith, h.0)
    by n (B ∷ Bs) (suc i) j h = by n Bs i j h.1

typed_depth : (env : Env) → HasShallowSignatures env → (C : List Ty) (t : Term) (A : Ty) (d : ℕ) → Typed env C t A → AllByRecursion (λ B. type_depth B ≤ d) C → type_depth A ≤ max d (200 + depth t)
typed_depth env w C (var i) A d h c = let q = all_get (λ B. type_depth B ≤ d) _ i A (all_reverse (λ B. type_depth B ≤ d) C c) h in omega (arith, q)
typed_depth env w C (lit n) A d h c = let q : type_depth A ≡ 1 = ap type_depth h.1 in omega (arith, q)
typed_depth env w C (node s As ts) A d h c =
    some_out (profile env s) (λ p e g.
    let q : type_depth A ≡ type_depth (type_inst (type_at As) p.result) = ap type_depth g.result in
    let k = type_depth_inst_le p.result (types_depth As) (type_at As) (arguments_depth As) in
    let b = w s p e in omega (arith, q, k, b)) h

pub depth_by_parts : DepthGoesByParts
depth_by_parts env w = record {
  variables = λ i. omega arith;
  shifted = λ t from by. let q = depth-shift t from by in omega (arith, q);
  types = λ s As ts. types_each As (depth (node s As (terms ts))) (omega arith);
  children = λ s As ts. terms_each ts (depth (node s As (terms ts))) (omega arith);
  equations = equation_depth;
  typed = typed_depth env w;
}

-- Nesting.
no_type : (n : ℕ) (As : List Ty) → AllByRecursion (λ A. 0 ≤ n) As
no_type n [] = tt
no_type n (A ∷ As) = (omega arith, no_type n As)

pub nesting_by_parts : NestingGoesByParts
nesting_by_parts env nesting w = record {
  variables = w.variables;
  shifted = w.shifted;
  types = λ s As ts. no_type (nesting (node s As (terms ts))) (type_list As);
  children = w.children;
  equations = λ A l r. let q = w.equations A l r in omega (arith, q);
  typed = λ C t A d h c. omega arith;
}

-- By a rule that names no type and no term.
pub keep_simple : (before after : List Line) (S T : Sequent) (rule : BaseRule) → T ≡ S → ((m : Count) (d : ℕ) → RuleIsWithin m d rule) → KeepBy before after T rule → Keep before after (S ∷ []) [] []
keep_simple before after S T rule e f k m d s t a h = k m d (within_by m d S T e s.0) (f m d) h

pub keep_grown : (before after : List Line) (l : Line) → (after ≡ before ++ l ∷ []) ⊎ (after ≡ before) → KeepBy before after l.sequent l.rule
keep_grown before after l (inl e) = keep_one before after l e
keep_grown before after l (inr e) = keep_same before after l.sequent l.rule e

-- In the loops over children.
pub between_step : (env : Env) (before between after : List Line) (S : Sequent) (f g : Term → Term) (ts : List Term) (i : ℕ) (t : Term) → KeepBetween env before between S (map f ts) (map g ts) →
    KeepBetween env between after S (f t ∷ []) (g t ∷ []) → t ≡ get_or ts i t → i < length ts → KeepBetween env before after S (map f ts) (map g ts)
between_step env before between after S f g ts i t j k e l m d p a b h = k m d p (room_each m d S f ts i t a e l) (room_each m d S g ts i t b e l) (j m d p a b h)

pub between_item : (env : Env) (before between after : List Line) (S : Sequent) (ts : List Term) (i : ℕ) (t : Term) → KeepBetween env before between S ts [] → KeepBetween env between after S (t ∷ []) [] →
    t ≡ get_or ts i t → i < length ts → KeepBetween env before after S ts []
between_item env before between after S ts i t j k e l m d p a b h = k m d p (room_item m d S ts i t a e l) (room_less m d S [] [] b tt) (j m d p a b h)

pub between_completed : (env : Env) (before after : List Line) (S I : Sequent) (s : Sym) (As : Tys) (us us' vs : List Term) (G : Term) → I ≡ (at_children S s As ⊢ G) → us' ≡ us → KeepBetween env before after I us' [] →
    KeepBetween env before after S (node s As (terms us) ∷ []) (node s As (terms vs) ∷ [])
between_completed env before after S I s As us us' vs G e f k =
    between_inside env before after S I s As us vs G e (between_left env before after I us vs (between_by env before after I us' [] us [] (sym f) refl k))

pub between_one : (env : Env) (before after : List Line) (S : Sequent) (l r l' r' : Term) → l' ≡ l → r' ≡ r → KeepBetween env before after S (l ∷ []) (r ∷ []) → KeepBetween env before after S (l' ∷ []) (r' ∷ [])
between_one env before after S l r l' r' e f k = between_by env before after S (l ∷ []) (r ∷ []) (l' ∷ []) (r' ∷ []) (ap (λ t. t ∷ []) e) (ap (λ t. t ∷ []) f) k

pub between_applied : (env : Env) (before after : List Line) (S I : Sequent) (d n : ℕ) (us vs : List Term) (s : Sym) (As : Tys) (ts : List Term) (G : Term) → I ≡ (at_children S s As ⊢ G) → n ≡ d + binds s →
    KeepBetween env before after I (map (put n us) ts) (map (put n vs) ts) → KeepBetween env before after S (put d us (node s As (terms ts)) ∷ []) (put d vs (node s As (terms ts)) ∷ [])
between_applied env before after S I d n us vs s As ts G e q k =
    between_one env before after S (node s As (terms (map (put n us) ts))) (node s As (terms (map (put n vs) ts))) (put d us (node s As (terms ts))) (put d vs (node s As (terms ts)))
    (put_sides d n us s As ts (map (put n us) ts) q refl) (put_sides d n vs s As ts (map (put n vs) ts) q refl)
    (between_inside env before after S I s As (map (put n us) ts) (map (put n vs) ts) G e k)

pub between_beside : (env : Env) (before after : List Line) (S F : Sequent) (us vs : List Term) → ((G : Term) → (S ⊢ G) ≡ (F ⊢ G)) → KeepBetween env before after F us vs → KeepBetween env before after S us vs
between_beside env before after S F us vs q k m d p a b h = k m d p (room_beside m d S F us q a) (room_beside m d S F vs q b) h

pub between_line : (env : Env) (before between after : List Line) (S : Sequent) (l r l' : Term) → l' ≡ l → KeepBetween env before between S (l ∷ []) (r ∷ []) → KeepBetween env between after S (l' ∷ []) [] →
    KeepBetween env before after S (l ∷ []) (r ∷ [])
between_line env before between after S l r l' e j k =
    between_twice env before between after S (l ∷ []) (r ∷ []) j (between_left env between after S (l ∷ []) (r ∷ []) (between_by env between after S (l' ∷ []) [] (l ∷ []) [] (ap (λ t. t ∷ []) (sym e)) refl k))
