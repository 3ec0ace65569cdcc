-- What is demanded of the library. Read Demands first: it has the demands' sentences, and says where each is stated.
pub mod Refusals
pub mod FileRefusals
pub mod MolfileRefusals
pub mod Rings
pub mod Calls
pub mod Files
pub mod Program
pub mod Renumbering
pub mod OneOutcome
pub mod Examples
pub mod Demands
