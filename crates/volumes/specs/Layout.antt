-- THE BOOK'S LAYOUT, as crate sheets has it. Document 01, "The book".
-- Assumes nothing.
pub use Rattle.sheets.specs.Layout.{Layout, first_edition, block_bytes, most_n}
unfoldable pub use Rattle.sheets.specs.Layout.{blocks_of}
