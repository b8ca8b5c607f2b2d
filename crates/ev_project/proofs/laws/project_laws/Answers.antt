use Rattle.ev_project.proofs.CiteLaws.{cite_env}
use Rattle.ev_project.proofs.LawProofs.{graphs_acyclic, reached_in_order, scopes_reached}
use Rattle.ev_project.proofs.NextLaws.{next_orderly, next_kept, projects_orderly}
use Rattle.ev_project.proofs.laws.project_laws.Goals as goal

pub returns-clause-orderly : goal.returns-clause-orderly
returns-clause-orderly c = next_orderly

pub returns-clause-kept : goal.returns-clause-kept
returns-clause-kept c = next_kept

pub returns-clause-projects : goal.returns-clause-projects
returns-clause-projects c = projects_orderly

pub returns-clause-graphs : goal.returns-clause-graphs
returns-clause-graphs c = graphs_acyclic

pub returns-clause-reached : goal.returns-clause-reached
returns-clause-reached c = reached_in_order

pub returns-clause-scopes : goal.returns-clause-scopes
returns-clause-scopes c = scopes_reached

pub returns-clause-envs : goal.returns-clause-envs
returns-clause-envs c = cite_env
