mod DueLemmas
mod LeftLemmas
mod CallsLemmas
mod BaseSteps
mod InPlaceLemmas
mod ChangingLemmas
