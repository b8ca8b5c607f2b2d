pub mod OnlyAnnotation
