-- What the functions of the sequences program ask of their arguments.
pub mod Fit
