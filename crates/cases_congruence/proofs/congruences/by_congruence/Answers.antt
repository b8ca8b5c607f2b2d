use Rattle.std.proofs.Common.{rules, ap, arith, ◌≤◌, length, IfSome, subst as transport}
use Rattle.std.proofs.lemmas.List.{length-append}
use Rattle.ev_terms.specs.Types.{type_list}
use Rattle.ev_terms.specs.Term.{terms}
use Rattle.ev_terms.specs.Measures.{depths}
use Rattle.ev_congruence.specs.Equating.{AreEquatedAt}
use Rattle.cases_congruence.proofs.congruences.by_congruence.Goals as goal

pub congruence_of-requires-clause-ready : goal.congruence_of-requires-clause-ready
congruence_of-requires-clause-ready c =
    let few = length-append (type_list c.args.case.now.at.context) (type_list c.in-Some.premises.types) in
    let one : length (type_list c.args.case.now.at.context) ≤ 1000 = search (rules, c.are_few.ensures, c.if-not-are_few.false) in
    let two : length (type_list c.in-Some.premises.types) ≤ 1000 = search (rules, c.are_few-else-not-are_few.ensures, c.if-not-are_few-2.false) in
    let hyps : depths (terms c.as_slice.result.now) ≤ 1000 = search (rules, c.are_shallow.ensures, c.if-not-are_shallow.false) in
    let lefts : depths (terms c.as_slice-else-not-are_shallow.result.now) ≤ 1000 = search (rules, c.are_shallow-else-not-are_shallow.ensures, c.if-not-are_shallow-2.false) in
    let rights : depths (terms c.as_slice-else-not-are_shallow-2.result.now) ≤ 1000 = search (rules, c.are_shallow-else-not-are_shallow-2.ensures, c.if-not-are_shallow-3.false) in
    let typed = c.in_ok-is_typed.ensures.typed c.if-not-branch.false in (
      c.args.case.now.at,
      record {
        types = type_list c.in-Some.premises.types;
        ty = typed.0;
        equated = transport (λ o. IfSome o (λ p. AreEquatedAt c.premises_of.new.lines c.args.case.now.at (type_list p.types) p.left p.right p.numbers)) c.in-Some.is c.in_ok-premises.ensures.found;
        typed = typed.1;
        plain = c.in_ok-is_typed.ensures.plain c.if-not-branch.false;
        few = omega (arith, few, one, two);
        hyps_depth = omega (arith, hyps, ap (λ ts. depths (terms ts)) c.as_slice.ensures);
        body_depth = search (rules, arith, c.is_shallow.ensures, c.if-not-is_shallow.false);
        lefts_depth = omega (arith, lefts, ap (λ ts. depths (terms ts)) c.as_slice-else-not-are_shallow.ensures);
        rights_depth = omega (arith, rights, ap (λ ts. depths (terms ts)) c.as_slice-else-not-are_shallow-2.ensures);
      },
    )
