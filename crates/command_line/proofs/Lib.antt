mod WordLemmas
mod PassLemmas
mod AskedLemmas
mod StandLemmas
mod FirstFaultLemmas
