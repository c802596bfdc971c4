mod PairLaws
pub mod LeaveLaws
