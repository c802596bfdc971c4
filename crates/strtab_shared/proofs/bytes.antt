mod StretchLaws
mod PartLaws
mod ShareLaws
mod CopyLaws
