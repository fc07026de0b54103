use Rattle.piece.proofs.Table.{cut_by_table}
use Rattle.piece.proofs.pieces_are_cut_by_the_table.Goals as goal

pub returns : goal.returns
returns c = cut_by_table
