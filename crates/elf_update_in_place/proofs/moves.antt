pub mod LineLaws
pub mod FlagLaws
mod ExtentLaws
mod MeetingLaws
pub mod SectionLaws
pub mod TornLaws
