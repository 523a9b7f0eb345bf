pub mod Computing
pub mod ChoiceLaws
pub mod ListLaws
pub mod MemberLaws
pub mod RisingLaws
pub mod SameLaws
