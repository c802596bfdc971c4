-- Sums over section headers, one after another.
use Rattle.std.proofs.Common.{◌≡◌, ◌+◌, ◌<◌, ◌≤◌, ◌++◌, ℕ, Bool, List, [], ◌∷◌, length, take, map, get_or, refl, sym, ap, ◌∙◌, arith, take_all}
use Rattle.std.proofs.lemmas.List.{take_more, get_or-map, length-map, length-append, append-nil, append_assoc}
use Rattle.std.proofs.lemmas.List.Sums.{sum_by_push}
use Rattle.elf_types.specs.declared.records.Shdr.{Shdr}
use Rattle.elf_object.specs.Object.{Object, Section, section_at, absent_section}
use Rattle.size_tool.specs.declared.sums.Sums.{Sums}
use Rattle.size_tool.specs.Sums.{is_text, is_data, is_bss, size_if, size_of, header_sums, sums_of, sums_with_section, AreWithin, Adds}

size_pushed : (counts : Shdr → Bool) (headers : List Shdr) (h : Shdr)
    → size_of counts (headers ++ h ∷ []) ≡ size_of counts headers + size_if (counts h) h.size
unfolding size_of
size_pushed counts headers h = sum_by_push (λ x. size_if (counts x) x.size) headers h

-- one section more
pub sums_pushed : (headers : List Shdr) (h : Shdr)
    → sums_with_section (header_sums headers) h ≡ header_sums (headers ++ h ∷ [])
unfolding header_sums
sums_pushed headers h =
    rw (size_pushed is_text headers h, size_pushed is_data headers h, size_pushed is_bss headers h)
    refl

-- of more sections
pub within_more : (m n : ℕ) (sums : Sums) → m ≤ n → AreWithin m sums → AreWithin n sums
within_more m n sums more w = record {
  text = omega (arith, more, w.text);
  «data» = omega (arith, more, w.«data»);
  bss = omega (arith, more, w.bss);
}

-- ---- The sections of an object

-- the next of them is added
pub sums_next : (o : Object) (i : ℕ) (h : Shdr) (before after : Sums) → i < length o.sections
    → h ≡ (section_at o i).header → before ≡ header_sums (take i (map (λ s. s.header) o.sections))
    → after ≡ sums_with_section before h
    → after ≡ header_sums (take (i + 1) (map (λ s. s.header) o.sections))
unfolding section_at
sums_next o i h before after low is so_far added =
    let header : Section → Shdr = λ s. s.header in
    let headers = map header o.sections in
    let absent = absent_section.header in
    let here : get_or headers i absent ≡ h =
    get_or-map header o.sections i absent_section absent low ∙ sym is in
    let long : length headers ≡ length o.sections = length-map o.sections header in
    added
    ∙ ap (λ (sums : Sums). sums_with_section sums h) so_far
    ∙ sums_pushed (take i headers) h
    ∙ ap (λ (x : Shdr). header_sums (take i headers ++ x ∷ [])) (sym here)
    ∙ ap header_sums (sym (take_more headers i absent (omega (arith, low, long))))

-- they are all of them
pub sums_all : (sections : List Section) (i : ℕ) (sums : Sums) → length sections ≤ i
    → sums ≡ header_sums (take i (map (λ s. s.header) sections)) → sums ≡ sums_of sections
unfolding sums_of
sums_all sections i sums all is =
    let header : Section → Shdr = λ s. s.header in
    let long : length (map header sections) ≡ length sections = length-map sections header in
    is ∙ ap header_sums (take_all i (map header sections) (omega (arith, all, long)))

-- ---- More headers

pub adds_none : (sums : Sums) → Adds [] sums sums
adds_none sums = record {
  sums = λ headers is. is ∙ ap header_sums (sym (append-nil headers));
  within = λ n w. within_more n (n + 0) sums (omega arith) w;
}

-- and one more
pub adds_more : (more : List Shdr) (h : Shdr) (old mid new : Sums) → Adds more old mid
    → new ≡ sums_with_section mid h → ((n : ℕ) → AreWithin n mid → AreWithin (n + 1) new)
    → Adds (more ++ h ∷ []) old new
adds_more more h old mid new adds is within = record {
  sums = λ headers same.
      is
      ∙ ap (λ (sums : Sums). sums_with_section sums h) (adds.sums headers same)
      ∙ sums_pushed (headers ++ more) h
      ∙ ap header_sums (append_assoc headers more (h ∷ []));
  within = λ n w.
      let long : length (more ++ h ∷ []) ≡ length more + 1 = length-append more (h ∷ []) in
      within_more (n + length more + 1) (n + length (more ++ h ∷ [])) new (omega (arith, long))
      (within (n + length more) (adds.within n w));
}

-- with those before them they are so many at most
pub adds_within : (more : List Shdr) (old new : Sums) (m n : ℕ) → Adds more old new
    → AreWithin m old → m + length more ≤ n → AreWithin n new
adds_within more old new m n adds w few =
    within_more (m + length more) n new few (adds.within m w)
