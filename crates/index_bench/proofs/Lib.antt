mod FirstField
mod Whole
