mod BlameLemmas
pub mod CountLaws
mod FilterLemmas
pub mod ImageLaws
pub mod ImageNamed
mod ListLemmas
mod NameLemmas
pub mod NamedDigests
pub mod NamedLaws
mod NamedSteps
mod PruneSteps
pub mod PruneLaws
pub mod RemovalLaws
mod ReadCauses
pub mod ReadDigests
pub mod RowsWhole
pub mod SurveyLaws
mod TreeSteps
pub mod VerifyLaws
mod VerifySteps
