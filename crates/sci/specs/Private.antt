-- What only private functions need: nothing here has to be believed, and no public contract cites it.
pub mod Steps
