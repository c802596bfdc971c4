mod FileKinds
mod RejoinLaws
