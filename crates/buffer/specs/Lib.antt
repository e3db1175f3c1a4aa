-- Records of one width in a buffer. Assumes nothing.
pub mod Rows
