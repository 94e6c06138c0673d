pub mod OctetLemmas
