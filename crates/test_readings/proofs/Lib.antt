-- What the definitions say of the cases.
mod Examples
