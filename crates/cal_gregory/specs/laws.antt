pub mod CommonEraLaws
pub mod RocEraLaws
pub mod JapaneseLaws
