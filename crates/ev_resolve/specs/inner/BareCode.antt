-- A code for bare terms, by which a proof tells them apart, from the codes of symbols and of types.
use Rattle.std.specs.Prelude.{◌≡◌, Option, refl}
use Rattle.std.specs.Coded.{Coded, coded_option}
use base.Stored.{Gv, gnil, gnum, gcons}
use Rattle.ev_terms.specs.declared.types.Ty.{Ty}
use Rattle.ev_terms.specs.declared.types.Sym.{Sym}
use Rattle.ev_resolve.specs.Bare.{Bare, Bares, bare_var, bare_lit, bare_node, bare_of, bare_none, bare_more}

module _ (sym : Coded Sym) (ty : Coded Ty) where
  mutual
    pub code : Bare → Gv
    code (bare_var i) = gcons (gnum 0) (gnum i)
    code (bare_lit n) = gcons (gnum 1) (gnum n)
    code (bare_node s w bs) = gcons (gnum 2) (gcons (sym.code s) (gcons ((coded_option ty).code w) (codes bs)))
    code (bare_of b A) = gcons (gnum 3) (gcons (code b) (ty.code A))

    pub codes : Bares → Gv
    codes bare_none = gnil
    codes (bare_more b bs) = gcons (code b) (codes bs)

  node_by : (s s' : Sym) (w w' : Option Ty) (bs bs' : Bares) → s ≡ s' → w ≡ w' → bs ≡ bs' → bare_node s w bs ≡ bare_node s' w' bs'
  node_by s s' w w' bs bs' e f g = cc

  of_by : (b b' : Bare) (A A' : Ty) → b ≡ b' → A ≡ A' → bare_of b A ≡ bare_of b' A'
  of_by b b' A A' e f = cc

  mutual
    unfolding code codes

    pub inj : (x y : Bare) → code x ≡ code y → x ≡ y
    inj (bare_var i) (bare_var j) e = cc
    inj (bare_var i) (bare_lit m) e = cc
    inj (bare_var i) (bare_node s w bs) e = cc
    inj (bare_var i) (bare_of b A) e = cc
    inj (bare_lit n) (bare_var j) e = cc
    inj (bare_lit n) (bare_lit m) e = cc
    inj (bare_lit n) (bare_node s w bs) e = cc
    inj (bare_lit n) (bare_of b A) e = cc
    inj (bare_node s w bs) (bare_var j) e = cc
    inj (bare_node s w bs) (bare_lit m) e = cc
    inj (bare_node s w bs) (bare_node s' w' bs') e =
        node_by _ _ _ _ _ _ (sym.inj s s' (cc)) ((coded_option ty).inj w w' (cc)) (injs bs bs' (cc))
    inj (bare_node s w bs) (bare_of b A) e = cc
    inj (bare_of b A) (bare_var j) e = cc
    inj (bare_of b A) (bare_lit m) e = cc
    inj (bare_of b A) (bare_node s w bs) e = cc
    inj (bare_of b A) (bare_of b' A') e = of_by _ _ _ _ (inj b b' (cc)) (ty.inj A A' (cc))

    pub injs : (x y : Bares) → codes x ≡ codes y → x ≡ y
    injs bare_none bare_none e = refl
    injs bare_none (bare_more b bs) e = cc
    injs (bare_more b bs) bare_none e = cc
    injs (bare_more b bs) (bare_more b' bs') e = let p : b ≡ b' = inj b b' (cc) in let q : bs ≡ bs' = injs bs bs' (cc) in cc

  abbrev pub bare_code : Coded Bare
  bare_code = record { code = code; inj = inj }
