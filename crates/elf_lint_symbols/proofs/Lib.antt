mod ItemLemmas
mod ScanLemmas
pub mod SoundLemmas
mod TableLemmas
mod RelocationLemmas
