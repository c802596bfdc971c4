pub mod RelocationLines
pub mod AtHand
pub mod Blocks
