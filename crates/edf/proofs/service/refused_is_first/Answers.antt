-- The theorem is proved in proofs/Refuse.antt.
use Rattle.edf.proofs.Refuse.{refused_is_first}
use Rattle.edf.proofs.service.refused_is_first.Goals as goal

pub returns : goal.returns
returns c = refused_is_first
