-- What holds of the tokens of the inputs. Assumes nothing.
pub mod Tokens
