mod FileTreeLemmas
mod JoinLemmas
mod LevelLemmas
mod PartLemmas
