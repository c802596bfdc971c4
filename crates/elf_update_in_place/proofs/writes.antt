mod OverLaws
mod FillLaws
mod RebaseLaws
mod OverPieces
mod SkipLaws
mod PutLaws
mod WalkLaws
pub mod TornObjects
mod BegunLaws
mod EndLaws
mod StepLaws
