pub mod ShortLemmas
