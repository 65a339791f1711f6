-- The theorem is proved in proofs/Locality.antt.
use Rattle.edf.proofs.Locality.{trace_reads}
use Rattle.edf.proofs.service.trace_reads.Goals as goal

pub returns : goal.returns
returns c = trace_reads
