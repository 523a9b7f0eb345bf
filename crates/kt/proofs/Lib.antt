pub mod ExportLaws
pub mod CallExportLaws
pub mod SignedTextExportLaws
