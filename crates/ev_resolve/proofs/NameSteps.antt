-- A scope with one more variable.
use Rattle.std.specs.Prelude.{◌≡◌, List, [], ◌∷◌, ◌++◌, map, reverse}
use Rattle.std.proofs.Common.{ap, ◌∙◌}
use Rattle.std.proofs.lemmas.List.{reverse-append, map-append}
use Rattle.ev_resolve.specs.declared.scope.ScopeVariable.{ScopeVariable}
use Rattle.ev_resolve.specs.inner.Scopes.{seen, scope_of}

pub scope_more : (vs : List ScopeVariable) (v : ScopeVariable) → scope_of (vs ++ v ∷ []) ≡ seen v ∷ scope_of vs
scope_more vs v = ap reverse (map-append seen vs (v ∷ [])) ∙ reverse-append (map seen vs) (seen v ∷ [])
