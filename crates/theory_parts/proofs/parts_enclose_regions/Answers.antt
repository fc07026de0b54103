-- Each part of a skin encloses a region, told by a test of its corners or by its number. Assumes nothing.
use Rattle.theory_parts.proofs.Enclosing.{parts_enclose}
use Rattle.theory_parts.proofs.Telling.{numbered_parts_enclose}
use Rattle.theory_parts.proofs.parts_enclose_regions.Goals as goal

pub returns : goal.returns
returns c = record { told = parts_enclose; numbered = numbered_parts_enclose }
