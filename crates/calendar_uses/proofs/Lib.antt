mod AlmanacLemmas
pub mod FeastLemmas
pub mod ComingLemmas
