pub mod BlockLaws
pub mod BlocksLaws
pub mod LayoutLaws
pub mod FillingLaws
pub mod Loading
