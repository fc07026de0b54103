-- The laws of numbers by links. Assumes nothing.
use Rattle.part.proofs.Laws.{only_by_links, links_number_parts, skins_numbered}
use Rattle.part.proofs.links_number_parts.Goals as goal

pub returns : goal.returns
returns c = record { only = only_by_links; parts = links_number_parts; skins = skins_numbered }
