use Rattle.std.proofs.Common.{Some, refl, subst, arith}
use Rattle.std.proofs.lemmas.Option.{slice_get_read}
use Rattle.ev_syntax.specs.inner.TokenAt.{IsTokenAt, IsIndex}
use Rattle.ev_syntax.proofs.Reading.{token_at_some, length-tokens}
use Rattle.ev_syntax.proofs.reader.Reader.kind.Goals as goal

pub returns-in-Some : goal.returns-in-Some
returns-in-Some c = let e = c.in-Some.ensures.lookup in record {
  token = subst (λ us. IsTokenAt (Some c.in-Some.token.now.kind) us c.args.at) c.self.view_is
      (token_at_some c.self.inside.text.now c.self.inside.tokens.now c.args.at c.in-Some.token.now (slice_get_read c.self.inside.tokens.now _ c.args.at c.in-Some.token.now refl e.3.0 e.1));
  inside = subst (λ us. IsIndex us c.args.at) c.self.view_is (let l = length-tokens c.self.inside.text.now c.self.inside.tokens.now in let r = c.self.told in let lt = e.3.0 in (omega arith, omega arith));
}
