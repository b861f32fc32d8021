pub mod Faults
pub mod Verdict
pub mod Roles
pub mod Found
pub mod Counts
pub mod Firsts
pub mod Sites
pub mod Judged
