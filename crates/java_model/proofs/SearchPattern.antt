-- Examples of patterns.
mod Examples
