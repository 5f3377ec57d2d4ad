mod BufferLemmas
mod LookLemmas
mod ReaderLemmas
