-- Looking through a table word by word.
pub mod Scans
