use Rattle.std.proofs.Common.{◌≡◌, refl, subst}
use Rattle.std.specs.Prelude.{IfOk}
use Rattle.std.proofs.lemmas.Option.{slice_get_read}
use Rattle.ev_syntax.proofs.Reading.{name_there}
use Rattle.ev_syntax.proofs.reader.Reader.name.Goals as goal

pub returns-in-Some : goal.returns-in-Some
returns-in-Some c = let e = c.in-Some.ensures.lookup in
    name_there c.self.inside.text.now c.self.inside.tokens.now c.args.self.now c.args.at c.in-Some.token.now c.from_slice.result
    (slice_get_read c.self.inside.tokens.now _ c.args.at c.in-Some.token.now refl e.3.0 e.1) c.self.view_is
    (subst (λ b. IfOk c.from_slice.result (λ x. x ≡ b)) c.bytes.ensures c.from_slice.ensures)
