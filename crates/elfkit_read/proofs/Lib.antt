mod ObjectLemmas
mod TitleLemmas
mod TitledLemmas
