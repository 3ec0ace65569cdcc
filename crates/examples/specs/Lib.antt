-- P1 to P11 and what it means that they hold (Examples), the near misses (NearMisses and Repeats), and the tests that the checker
-- computes (Computed).
pub mod Examples
pub mod NearMisses
pub mod Repeats
pub mod Computed
