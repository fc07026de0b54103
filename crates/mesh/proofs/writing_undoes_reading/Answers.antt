use Rattle.mesh.proofs.Back.{written_back}
use Rattle.mesh.proofs.writing_undoes_reading.Goals as goal

pub returns : goal.returns
returns c = written_back
