pub mod Apply
pub mod Base
pub mod Buildpack
pub mod Contents
pub mod Files
pub mod Layers
pub mod Names
pub mod Platform
