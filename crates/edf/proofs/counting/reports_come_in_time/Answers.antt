-- The theorem is proved in proofs/Counts.antt.
use Rattle.edf.proofs.Counts.{reports_come_in_time}
use Rattle.edf.proofs.counting.reports_come_in_time.Goals as goal

pub returns : goal.returns
returns c = reports_come_in_time
