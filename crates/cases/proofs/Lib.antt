pub mod HashedCases
pub mod CallCases
pub mod MadeCases
