mod AccessLemmas
mod SumLemmas
