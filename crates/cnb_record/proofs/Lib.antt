pub mod CheckLaws
pub mod CheckSteps
pub mod ChoosingLemmas
pub mod CountLaws
pub mod RecordCounts
pub mod RecordLaws
pub mod StandLemmas
