-- What makes the pieces of a section (`IsPiece`, `OthersOwn`), and what keeps it.
use Rattle.std.proofs.Common.{ℕ, zero, suc, List, [], ◌∷◌, ◌++◌, set, refl}
use Rattle.std.specs.Prelude.{IsSome, IsTrue}
use lib.Count.{ones}
use Rattle.std.proofs.lemmas.List.Elements.{All-nil, All-set, All-push}
use Rattle.elf_ident.specs.elf_xlate.declared.content.Items.{Items}
use Rattle.elf_object.specs.Object.{Piece, home_piece}
use Rattle.elf_object.specs.Steps.{own_piece}
use Rattle.elf_object.specs.Calls.{is_piece_align}
use Rattle.elf_object.specs.Valid.{IsPiece, OthersOwn}

abbrev pub IsOwn : Piece → Type 0
IsOwn p = IsSome p.own

pub others_set : (l : List Piece) (i : ℕ) (p : Piece) → OthersOwn l → IsOwn p → OthersOwn (set l i p)
others_set [] i p others own = tt
others_set (x ∷ l) zero p others own = others
others_set (x ∷ l) (suc i) p others own = All-set IsOwn l i p own others

pub others_push : (l : List Piece) (p : Piece) → OthersOwn l → IsOwn p → OthersOwn (l ++ p ∷ [])
others_push [] p others own = All-nil IsOwn
others_push (x ∷ l) p others own = All-push IsOwn l p others own

pub own_piece_is : (items : Items) (align : ℕ) → IsTrue (is_piece_align align) → IsPiece (own_piece items align)
own_piece_is items align aligned = record { align = aligned; own = refl }

pub home_piece_is : IsPiece home_piece
unfolding is_piece_align ones
home_piece_is = record { align = refl; own = tt }
