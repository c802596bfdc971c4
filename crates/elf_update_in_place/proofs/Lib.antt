mod RoomLaws
mod LoadLaws
mod MarkSteps
mod FrontLaws
mod PhaseLaws
mod WriteLaws
mod EndLaws
