-- Words stored one after another: what is left to store goes to the same words.
pub mod Storing
