mod BlockLemmas
mod FillingLemmas
mod Steps
