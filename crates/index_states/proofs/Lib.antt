mod Runs
mod Fronts
mod Counting
mod Newest
mod Pairs
