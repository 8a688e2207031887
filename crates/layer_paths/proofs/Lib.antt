pub mod DocumentLemmas
pub mod StemLemmas
