mod KeeperLemmas
mod FileLemmas
