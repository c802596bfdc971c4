mod ArchiveLaws
mod EditLaws
mod HandleLaws
mod LayoutLaws
mod Refusals
mod TranslationLaws
mod WriteLaws
