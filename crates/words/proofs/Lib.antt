-- What a write to a part of a slice leaves (Parts).
mod Parts
