mod Counts
mod Edges
mod PropTallies
mod Tests
mod Waiting
