pub mod TextLemmas
pub mod GroupLemmas
pub mod AddrLemmas
pub mod PrintedLemmas
