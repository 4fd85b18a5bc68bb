mod Chains
mod Checks
mod Digits
mod Matches
