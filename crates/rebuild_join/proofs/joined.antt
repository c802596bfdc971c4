pub mod FaultLaws
pub mod LoadedLaws
pub mod MatchLaws
mod MoreLaws
pub mod NextLaws
pub mod AllLaws
pub mod FilledLaws
pub mod JoinLaws
