mod WideLemmas
