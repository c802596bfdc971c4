use Rattle.elf_object.proofs.PieceLaws.{home_piece_is}
use Rattle.section_data.proofs.piece.Piece.home.Goals as goal

pub invariant_of-result : goal.invariant_of-result
invariant_of-result c = home_piece_is
