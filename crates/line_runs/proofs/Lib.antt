mod ChainLemmas
mod EchoLemmas
mod LineLemmas
mod NumberedLemmas
mod ProgressLemmas
mod RunLemmas
