use Rattle.ev_typing.proofs.PlaceLaws.{put_turned}
use Rattle.ev_typing.proofs.environment.places.put_all.Goals as goal

pub returns : goal.returns
returns c = put_turned _ _ _ _ c.reverse.ensures.items c.put_from_end.ensures
