-- A section of a settled object.
use Rattle.std.proofs.Common.{◌≡◌, ℕ, ◌+◌, ◌<◌, true, false, List, length, get_or, refl, ap, ◌∙◌, arith}
use Rattle.std.specs.List.{enumerate_from}
use Rattle.std.proofs.lemmas.List.{get_or-map, length-map, length-replicate}
use Rattle.std.proofs.lemmas.List.FromFn.{length-enumerate_from, get_or-enumerate_from}
use Rattle.elf_object.specs.Object.{Object, Section, section_at, absent_section}
use Rattle.elf_object.specs.Joined.{file_bytes}
use Rattle.elf_object.specs.Settled.{settled_section, settled_over, settle, blank, untold_section, untold, settled}

pub section_at-settled : (image : List ℕ) (q : Object) (s : ℕ) → s < length q.sections
    → section_at (settled_over image q) s
    ≡ settled_section (length image) (file_bytes q s) (section_at q s).header
unfolding section_at settled_over
section_at-settled image q s h =
    let count = length-enumerate_from 0 q.sections in
    let row : get_or (enumerate_from 0 q.sections) s (0, absent_section)
    ≡ (0 + s, get_or q.sections s absent_section) =
    get_or-enumerate_from 0 q.sections s (0, absent_section) h in
    let number : 0 + s ≡ s = omega arith in
    let form : ℕ × Section → Section =
    λ r. settled_section (length image) (file_bytes q r.0) r.1.header in
    get_or-map form (enumerate_from 0 q.sections) s (0, absent_section) absent_section (omega arith)
    ∙ ap form row
    ∙ ap (λ (k : ℕ). form (k, get_or q.sections s absent_section)) number

-- ---- Over a source that does not tell its bytes

pub length-blank : (l : List ℕ) → length (blank l) ≡ length l
length-blank l = length-replicate {A = ℕ} (length l) 0

pub section_at-untold : (o : Object) (s : ℕ) → s < length o.sections
    → section_at (untold o) s ≡ untold_section (section_at o s)
unfolding section_at untold
section_at-untold o s h =
    get_or-map untold_section o.sections s absent_section absent_section h

pub section_count-untold : (o : Object) → length (untold o).sections ≡ length o.sections
unfolding untold
section_count-untold o = length-map o.sections untold_section

pub settled-told : (o : Object) → settled true o ≡ settle o
unfolding settled
settled-told o = refl

pub settled-untold : (o : Object) → settled false o ≡ untold (settle o)
unfolding settled
settled-untold o = refl
