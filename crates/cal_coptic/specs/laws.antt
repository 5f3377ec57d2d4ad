pub mod CopticLaws
pub mod CopticSystemLaws
pub mod EthiopianLaws
pub mod EthiopianSystemLaws
