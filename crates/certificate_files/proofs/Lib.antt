mod FirstLines
mod LongMatches
mod TextsTold
mod Checked
mod Kept
