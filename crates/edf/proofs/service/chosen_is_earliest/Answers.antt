-- The theorem is proved in proofs/Choice.antt.
use Rattle.edf.proofs.Choice.{chosen_is_earliest}
use Rattle.edf.proofs.service.chosen_is_earliest.Goals as goal

pub returns : goal.returns
returns c = chosen_is_earliest
