mod DigitLemmas
mod Copies
mod HexBlocks
