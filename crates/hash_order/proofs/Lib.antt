mod IndexLaws
mod MovingLaws
mod CheckLaws
mod ReadLaws
mod DataLaws
mod FollowLaws
mod ItemLaws
pub mod StoreLaws
mod OrderLaws
mod PlanLaws
mod StoringLaws
mod EndLaws
