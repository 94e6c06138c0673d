pub mod ItemLemmas
pub mod PassLemmas
pub mod ValueLemmas
pub mod SpellingLemmas
pub mod GrammarLemmas
pub mod PartsLemmas
