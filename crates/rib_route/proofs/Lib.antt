pub mod IfaceLemmas
