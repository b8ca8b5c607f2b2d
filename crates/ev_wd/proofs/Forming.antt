-- Types as the code writes them.
use Rattle.ev_terms.specs.Types.{Pow-pow, Prod-prod, More-more}

pub ruleset types = (Pow-pow, Prod-prod, More-more)
