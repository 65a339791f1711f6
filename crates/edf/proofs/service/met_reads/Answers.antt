-- The theorem is proved in proofs/Locality.antt.
use Rattle.edf.proofs.Locality.{met_reads}
use Rattle.edf.proofs.service.met_reads.Goals as goal

pub returns : goal.returns
returns c = met_reads
