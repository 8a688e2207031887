pub mod BaseLemmas
pub mod CountLaws
pub mod ReadableLemmas
pub mod StandLaws
