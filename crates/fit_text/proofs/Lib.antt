-- Public are the lemmas that proofs of the crates above cite.
pub mod PenLemmas
mod DecimalLemmas
mod PlanLemmas
pub mod ValueLemmas
mod DateLemmas
mod EmptyLemmas
mod FormLemmas
