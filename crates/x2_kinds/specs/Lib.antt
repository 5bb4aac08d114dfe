pub mod KindFields
