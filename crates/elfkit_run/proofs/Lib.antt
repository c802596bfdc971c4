pub use Rattle.elfkit_words.proofs as elfkit_words
mod CommandLemmas
mod SplitLemmas
mod StripLemmas
