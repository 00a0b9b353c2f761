-- No crate above uses it.
mod Scripts
