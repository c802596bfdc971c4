mod GnuWords
pub mod GnuChains
mod AllSteps
mod LentLemmas
mod ListedLemmas
mod SysvWords
mod PathLaws
mod SysvWhole
mod GnuWhole
