-- The classes of chunks, which are those of `mc_sizes`.
pub use Rattle.mc_sizes.specs.Classes.{page_size, next_size, sizes_from, chunk_sizes, IsClass, size_of, chunks_a_page, class_holding, class_of, PartsAt}
