mod Accepted
mod Completions
mod Digits
mod Judgments
mod Parts
mod Roads
