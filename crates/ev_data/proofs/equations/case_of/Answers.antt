use Rattle.ev_data.proofs.Cases.{place_within, con_small, found_formula}
use Rattle.ev_data.proofs.equations.case_of.Goals as goal

pub returns-in-Some-case_in-clause-small : goal.returns-in-Some-case_in-clause-small
returns-in-Some-case_in-clause-small c = (
  place_within c.args.env.now c.args.signature.now c.args.place c.in-Some.decl.now c.in-Some.types.now c.in-Some.ensures.found,
  c.requires.few_args,
  con_small c.args.env.now c.requires.well_formed c.args.signature.now c.args.place c.in-Some.decl.now c.in-Some.types.now c.args.bodies.now c.args.con.now
      c.in-Some-case_in.con.now c.in-Some-case_in.body.now c.in-Some.ensures.found c.in-Some-case_in.ensures.found,
)

pub returns-in-Some-case_in-clause-found : goal.returns-in-Some-case_in-clause-found
returns-in-Some-case_in-clause-found c =
    found_formula c.args.env.now c.args.signature.now c.args.place c.in-Some.decl.now c.in-Some.types.now c.args.bodies.now c.args.con.now c.in-Some-case_in.con.now c.in-Some-case_in.body.now
    c.in-Some.ensures.found c.in-Some-case_in.ensures.found
