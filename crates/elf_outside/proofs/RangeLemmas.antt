-- A read of a window is a read of the inner source.
use Rattle.std.proofs.Common.{◌≡◌, ℕ, ◌+◌, ◌-◌, ◌≤◌, List, Option, Some, None, Result, Ok, Err, OnOk, take, drop, refl, sym, ap, ◌∙◌, arith}
use Rattle.std.proofs.lemmas.List.{drop-drop, drop-take, take-take}
use Rattle.std.specs.Option.{IfSome, ForSome}
use Rattle.elf_outside.specs.Windows.{range_of}

-- a range of a range is a range of the whole
pub take-drop-range : (bytes : List ℕ) (at len place n : ℕ) → place + n ≤ len → take n (drop place (take len (drop at bytes))) ≡ take n (drop (at + place) bytes)
take-drop-range bytes at len place n in_range =
    let split : len ≡ place + (len - place) = omega arith in
    let fits : n ≤ len - place = omega arith in
    ap (λ l. take n (drop place (take l (drop at bytes)))) split
    ∙ ap (λ l. take n l) (drop-take place (len - place) (drop at bytes))
    ∙ take-take n (len - place) (drop place (drop at bytes)) fits
    ∙ ap (λ l. take n l) (drop-drop place at bytes)

range_some : (holds : Option (List ℕ)) (at len place n : ℕ) (buf : List ℕ) → place + n ≤ len → IfSome holds (λ bytes. buf ≡ take n (drop (at + place) bytes)) → IfSome (range_of at len holds) (λ bytes. buf ≡ take n (drop place bytes))
range_some None at len place n buf in_range reads = reads
range_some (Some bytes) at len place n buf in_range reads = reads ∙ sym (take-drop-range bytes at len place n in_range)

pub range_reads : {T E : Type 0} (result : Result T E) (holds : Option (List ℕ)) (at len place n : ℕ) (buf : List ℕ) → place + n ≤ len → OnOk result (IfSome holds (λ bytes. buf ≡ take n (drop (at + place) bytes))) → OnOk result (IfSome (range_of at len holds) (λ bytes. buf ≡ take n (drop place bytes)))
range_reads (Ok _) holds at len place n buf in_range reads = range_some holds at len place n buf in_range reads
range_reads (Err _) holds at len place n buf in_range reads = reads

-- a window that holds a range of the inner source's bytes serves a range within it
pub served : (holds : Option (List ℕ)) (held : List ℕ) (start at n size : ℕ) (buf : List ℕ) → ForSome holds (λ bytes. held ≡ take size (drop start bytes)) → start ≤ at → at + n ≤ start + size → buf ≡ take n (drop (at - start) held) → IfSome holds (λ bytes. buf ≡ take n (drop at bytes))
served None held start at n size buf same from to copied = tt
served (Some bytes) held start at n size buf same from to copied =
    let within : (at - start) + n ≤ size = omega arith in
    let place : start + (at - start) ≡ at = omega arith in
    copied
    ∙ ap (λ l. take n (drop (at - start) l)) (same bytes refl)
    ∙ take-drop-range bytes start size (at - start) n within
    ∙ ap (λ p. take n (drop p bytes)) place
