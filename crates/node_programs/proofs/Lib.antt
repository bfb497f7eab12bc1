mod PlayLemmas
mod EndLemmas
mod Owing
