pub mod FaultLaws
pub mod StepLaws
pub mod TurnLaws
pub mod FindLaws
pub mod EditLaws
pub mod UpdateLaws
pub mod RenameLaws
pub mod FlagLaws
