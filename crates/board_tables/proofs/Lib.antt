mod RowLemmas
mod BoardLemmas
mod MemLemmas
