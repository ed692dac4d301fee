pub mod TrackedLemmas
