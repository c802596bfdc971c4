pub use Rattle.rebuild_model.proofs.elf_object
