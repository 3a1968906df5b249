pub mod SizesLaws
