-- The theorem is proved in proofs/Periods.antt.
use Rattle.edf.proofs.Periods.{position_tells_releases}
use Rattle.edf.proofs.service.position_tells_releases.Goals as goal

pub returns : goal.returns
returns c = position_tells_releases
