mod Front
mod Skins
mod Building
mod Measuring
mod Solids
mod Accepting
mod Finishing
