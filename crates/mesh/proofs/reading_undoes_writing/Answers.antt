use Rattle.mesh.proofs.Back.{read_back}
use Rattle.mesh.proofs.reading_undoes_writing.Goals as goal

pub returns : goal.returns
returns c = read_back
