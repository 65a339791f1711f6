-- The theorem is proved in proofs/Locality.antt.
use Rattle.edf.proofs.Locality.{tick_reads}
use Rattle.edf.proofs.service.tick_reads.Goals as goal

pub returns : goal.returns
returns c = tick_reads
