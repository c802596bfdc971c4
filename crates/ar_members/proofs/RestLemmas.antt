-- The rest of an archive gives back its walk and the rest of its own source.
use Rattle.std.proofs.Common.{◌≡◌, ◌==◌, ℕ, [], Bool, true, false, List, Option, get_or, drop, refl, sym, ap, ◌∙◌}
use Rattle.elf_outside.specs.Windows.{window_rest}
use Rattle.elf_outside.proofs.RestLemmas.{window_rest_same}
use Rattle.ar_members.specs.Archives.{Walk, flag, archive_rest}

flag_is : (stopped : Bool) → (flag stopped == 1) ≡ stopped
flag_is true = refl
flag_is false = refl

pub archive_rest_same : (walk walk' : Walk) (rest rest' : List (List ℕ)) → archive_rest walk rest ≡ archive_rest walk' rest' → (walk ≡ walk') × (rest ≡ rest')
archive_rest_same walk walk' rest rest' same =
    let place : walk.place ≡ walk'.place = ap (λ l. get_or (get_or l 0 []) 0 0) same in
    let stopped : walk.stopped ≡ walk'.stopped = sym (flag_is walk.stopped) ∙ ap (λ l. get_or (get_or l 0 []) 1 0 == 1) same ∙ flag_is walk'.stopped in
    let names : walk.names ≡ walk'.names = ap (λ l. get_or l 1 []) same in
    (λ j. record { place = place j; names = names j; stopped = stopped j }, ap (λ l. drop 2 l) same)

-- the rest of a window over an archive: the window's place, what the archive's source tells, the walk, and
-- the rest of that source
pub archive_window_same : (at at' size size' : ℕ) (bytes bytes' : Option (List ℕ)) (walk walk' : Walk) (rest rest' : List (List ℕ))
    → window_rest at size bytes (archive_rest walk rest) ≡ window_rest at' size' bytes' (archive_rest walk' rest')
    → (at ≡ at') × (size ≡ size') × (bytes ≡ bytes') × (walk ≡ walk') × (rest ≡ rest')
archive_window_same at at' size size' bytes bytes' walk walk' rest rest' same =
    let window = window_rest_same at at' size size' bytes bytes' (archive_rest walk rest) (archive_rest walk' rest') same in
    let archive = archive_rest_same walk walk' rest rest' window.3 in
    (window.0, window.1, window.2, archive.0, archive.1)
