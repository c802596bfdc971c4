-- Small images on which the definitions are computed, and forms of answers that the tests compare.
use Rattle.std.specs.Prelude.{ℕ, List, [], ◌∷◌, ◌++◌, codes, false, Result, Ok, Err}
use Rattle.hash_model.specs.elf_object.Object.{Object}
use Rattle.hash_model.specs.elf_object.Samples.{small64, symbols32, symbols64, with_number, object_in, hex}
use Rattle.rebuild_model.specs.Arranged.{Rebuilt}
use Rattle.rebuild_model.specs.Files.{file_of, file_made}
use Rattle.rebuild_model.specs.Rebuilt.{stripped}
use Rattle.rebuild_model.specs.Split.{debug_half}
use Rattle.rebuild_model.specs.Generated.{generated_and_shifted}
use Rattle.rebuild_model.specs.Copied.{Changes, copied}

-- an answer's value, or the empty one
abbrev pub bytes_or_none : {E : Type 0} → Result (List ℕ) E → List ℕ
bytes_or_none (Ok bytes) = bytes
bytes_or_none (Err e) = []

-- the symbols' image without a section of names
abbrev pub unnamed64 : Object
unnamed64 = object_in (with_number 62 2 0 small64)

-- the symbols' image with a symbol table that links to nothing
abbrev pub unlinked64 : Object
unlinked64 = object_in (with_number 288 4 0 small64)

abbrev pub no_changes : Changes
no_changes = record { remove = []; update = []; rename = []; flags = []; add = [] }

abbrev pub made_or_none : {E : Type 0} → Result Rebuilt E → List ℕ
made_or_none (Ok r) = bytes_or_none (file_of r.object)
made_or_none (Err e) = []

-- the bytes of the letters h and i
abbrev pub two_letters : List ℕ
two_letters = 0x68 ∷ 0x69 ∷ []

-- the symbols' image stripped, opened again, and the other image stripped, opened again
abbrev pub stripped64 : Object
stripped64 = object_in (bytes_or_none (file_made (stripped false [] symbols64)))

abbrev pub stripped32 : Object
stripped32 = object_in (bytes_or_none (file_made (stripped false [] symbols32)))

abbrev pub stripped_unnamed64 : Object
stripped_unnamed64 = object_in (bytes_or_none (file_made (stripped false [] unnamed64)))

-- the debug half of the symbols' image, opened again
abbrev pub debug64 : Object
debug64 = object_in (bytes_or_none (file_of (debug_half symbols64)))

-- a string index that is no section's
abbrev pub misnamed64 : Object
misnamed64 = object_in (with_number 62 2 7 small64)

-- new bytes for a section that is not there
abbrev pub updating_none : Changes
updating_none = record no_changes { update = (codes ".q", two_letters) ∷ [] }

abbrev pub adding : Changes
adding = record no_changes { add = (codes ".x", two_letters) ∷ [] }

-- the self test's image with one section, in 480 bytes: the section .s1 at 64, the symbols with
-- their new values 1 and 4 at 72, their names at 120, the sections' names at 124, and the table at
-- 160
unfoldable pub one_section64 : List ℕ
one_section64 =
    hex (codes "7f454c4602010100000000000000000001003e00010000000000000000000000")
    ++ hex (codes "0000000000000000a00000000000000000000000400000000000400005000400")
    ++ hex (codes "0101000000000000")
    ++ hex (codes "000000000000000001000000000000000000000000000000")
    ++ hex (codes "010000001100010004000000000000000200000000000000")
    ++ hex (codes "00793100")
    ++ hex (codes "002e7331002e73796d746162002e737472746162002e7368737472746162000000000000")
    ++ hex (codes "0000000000000000000000000000000000000000000000000000000000000000")
    ++ hex (codes "0000000000000000000000000000000000000000000000000000000000000000")
    ++ hex (codes "0100000001000000020000000000000000000000000000004000000000000000")
    ++ hex (codes "0200000000000000000000000000000001000000000000000000000000000000")
    ++ hex (codes "0500000002000000000000000000000000000000000000004800000000000000")
    ++ hex (codes "3000000000000000030000000100000008000000000000001800000000000000")
    ++ hex (codes "0d00000003000000000000000000000000000000000000007800000000000000")
    ++ hex (codes "0400000000000000000000000000000001000000000000000000000000000000")
    ++ hex (codes "1500000003000000000000000000000000000000000000007c00000000000000")
    ++ hex (codes "1f00000000000000000000000000000001000000000000000000000000000000")

-- the self test's image, opened again
abbrev pub selftest_again : ℕ → Object
selftest_again n = object_in (bytes_or_none (file_of (generated_and_shifted n)))

-- the image with a section .x of two bytes more
abbrev pub with_new_section : Object → List ℕ
with_new_section o = made_or_none (copied adding o)
