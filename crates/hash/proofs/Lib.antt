pub mod Computing
pub mod BytesLaws
pub mod BlockLaws
pub mod MessageLaws
pub mod HasherLaws
pub mod HmacLaws
pub mod StringLaws
pub mod Examples
