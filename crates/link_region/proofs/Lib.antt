pub mod RegionLemmas
