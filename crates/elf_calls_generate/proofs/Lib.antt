mod NameUses
mod NameFronts
mod AddedLaws
mod StageLaws
mod MadeSections
