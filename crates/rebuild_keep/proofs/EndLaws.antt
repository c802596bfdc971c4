-- What segments and homes reach to, found one after another.
use Rattle.std.proofs.Common.{◌≡◌, ◌+◌, ◌*◌, ◌^◌, ◌<◌, ◌≤◌, ℕ, Bool, true, false, not, cond, List, [], ◌∷◌, ◌++◌, length, map, take, take_all, get_or, Option, Some, None, Result, Ok, Err, refl, sym, ap, ◌∙◌, if◌then◌else◌, arith}
use Rattle.std.specs.Prelude.{max, min, filter}
use Rattle.std.specs.List.{range_with_len}
use Rattle.std.proofs.lemmas.List.{map-append, map_more}
use Rattle.std.proofs.lemmas.List.Elements.{filter-append}
use Rattle.std.proofs.lemmas.Bool.{ne_eqb, eq-eqb}
use Rattle.elf_types.specs.declared.records.Ehdr.{Ehdr}
use Rattle.elf_types.specs.declared.records.Phdr.{Phdr}
use Rattle.elf_types.specs.declared.errors.ElfError.{ElfError}
use Rattle.elf_types.specs.Answers.{answered}
use Rattle.rebuild_making.specs.elf_object.Calls.{home_answer}
use Rattle.rebuild_names.specs.elf_xlate.Headers.{ehdr_size, phdr_size}
use Rattle.rebuild_making.specs.elf_object.Object.{Object, Section, section_at, header_of}
use Rattle.rebuild_making.specs.elf_object.Sections.{is_among, greatest}
use Rattle.rebuild_making.specs.rebuild_model.Arranged.{segment_end, loaded_end, base_end, tail_of}
use Rattle.rebuild_making.specs.rebuild_model.Followed.{kept_sections}
use Rattle.rebuild_making.specs.rebuild_model.Rebuilt.{rebuilt_tail}
use Rattle.elf_update_plan.proofs.RowLaws.{ok_is}
use Rattle.rebuild_numbers.proofs.rebuild_select.SetLaws.{range_with_one_more}
use Rattle.rebuild_keep.proofs.HomeLaws.{no_section_there}
use Rattle.rebuild_keep.specs.Ends.{at_most_word, home_end, kept_end}

-- ---- The greatest

greatest-append : (a b : List ℕ) → greatest (a ++ b) ≡ max (greatest a) (greatest b)
unfolding greatest
greatest-append [] b = let same : greatest b ≡ max 0 (greatest b) = omega arith in same
greatest-append (x ∷ a) b =
    let later = greatest-append a b in
    let same : max x (greatest (a ++ b)) ≡ max (max x (greatest a)) (greatest b) = omega arith in
    same

greatest_one : (x : ℕ) → greatest (x ∷ []) ≡ x
unfolding greatest
greatest_one x = let same : max x 0 ≡ x = omega arith in same

greatest_none : greatest [] ≡ 0
unfolding greatest
greatest_none = refl

-- one more
capped_more : (e a x : ℕ) → max (at_most_word (max e a)) (at_most_word x) ≡ at_most_word (max e (max a x))
capped_more e a x = omega arith

pub capped_begins : (e : ℕ) → e < 2 ^ 64 → e ≡ at_most_word (max e 0)
capped_begins e small = omega arith

-- ---- Segments

pub segments_begin : (e : ℕ) (l : List Phdr) → e < 2 ^ 64
    → e ≡ at_most_word (max e (greatest (map segment_end (take 0 l))))
unfolding greatest
segments_begin e l small = capped_begins e small

pub segments_more : (e i reached end last : ℕ) (p d : Phdr) (l : List Phdr) → i < length l
    → p ≡ get_or l i d → end ≡ at_most_word (segment_end p) → last ≡ max reached end
    → reached ≡ at_most_word (max e (greatest (map segment_end (take i l))))
    → last ≡ at_most_word (max e (greatest (map segment_end (take (i + 1) l))))
segments_more e i reached end last p d l there at is one so_far =
    one
    ∙ ap (λ (n : ℕ). max n end) so_far
    ∙ ap (λ (n : ℕ). max (at_most_word (max e (greatest (map segment_end (take i l))))) n) is
    ∙ capped_more e (greatest (map segment_end (take i l))) (segment_end p)
    ∙ ap (λ (n : ℕ). at_most_word (max e n))
    (ap (λ (n : ℕ). max (greatest (map segment_end (take i l))) n)
    (ap segment_end at ∙ sym (greatest_one (segment_end (get_or l i d))))
    ∙ sym (greatest-append (map segment_end (take i l)) (segment_end (get_or l i d) ∷ []))
    ∙ ap greatest (sym (map_more segment_end l i d there)))

pub segments_all : (e i reached : ℕ) (l : List Phdr) → length l ≤ i
    → reached ≡ at_most_word (max e (greatest (map segment_end (take i l))))
    → reached ≡ at_most_word (max e (greatest (map segment_end l)))
segments_all e i reached l all so_far =
    so_far
    ∙ ap (λ (k : List Phdr). at_most_word (max e (greatest (map segment_end k)))) (take_all i l all)

-- ---- Homes

abbrev pub ends_below : Object → List ℕ → ℕ → List ℕ
ends_below o removed s =
    map loaded_end (map (section_at o)
    (filter (λ t. not (is_among removed t)) (range_with_len 0 s)))

pub homes_begin : (e : ℕ) (o : Object) (removed : List ℕ) → e < 2 ^ 64
    → e ≡ at_most_word (max e (greatest (ends_below o removed 0)))
unfolding greatest
homes_begin e o removed small = capped_begins e small

ends_more : (o : Object) (removed : List ℕ) (s : ℕ)
    → greatest (ends_below o removed (s + 1))
    ≡ max (greatest (ends_below o removed s)) (kept_end o removed s)
ends_more o removed s =
    let ends = λ (l : List ℕ). map loaded_end (map (section_at o) l) in
    let kept = λ (l : List ℕ). filter (λ t. not (is_among removed t)) l in
    ap (λ (l : List ℕ). greatest (ends (kept l)))
    (range_with_one_more 0 s ∙ ap (λ (k : ℕ). range_with_len 0 s ++ k ∷ [])
    (let at : 0 + s ≡ s = omega arith in at))
    ∙ ap (λ (l : List ℕ). greatest (ends l))
    (filter-append (λ t. not (is_among removed t)) (range_with_len 0 s) (s ∷ []))
    ∙ ap (λ (l : List Section). greatest (map loaded_end l))
    (map-append (section_at o) (kept (range_with_len 0 s)) (kept (s ∷ [])))
    ∙ ap greatest (map-append loaded_end (map (section_at o) (kept (range_with_len 0 s)))
    (map (section_at o) (kept (s ∷ []))))
    ∙ greatest-append (ends (kept (range_with_len 0 s))) (ends (kept (s ∷ [])))
    ∙ ap (λ (n : ℕ). max (greatest (ends (kept (range_with_len 0 s)))) n)
    (by_test (is_among removed s))
  where
    by_test : (b : Bool)
        → greatest (map loaded_end (map (section_at o) (cond (not b) (s ∷ []) [])))
        ≡ (if b then 0 else loaded_end (section_at o s))
    by_test true = greatest_none
    by_test false = greatest_one (loaded_end (section_at o s))

pub homes_more : (e s reached end last : ℕ) (o : Object) (removed : List ℕ)
    → end ≡ at_most_word (kept_end o removed s) → last ≡ max reached end
    → reached ≡ at_most_word (max e (greatest (ends_below o removed s)))
    → last ≡ at_most_word (max e (greatest (ends_below o removed (s + 1))))
homes_more e s reached end last o removed is one so_far =
    one
    ∙ ap (λ (n : ℕ). max n end) so_far
    ∙ ap (λ (n : ℕ). max (at_most_word (max e (greatest (ends_below o removed s)))) n) is
    ∙ capped_more e (greatest (ends_below o removed s)) (kept_end o removed s)
    ∙ ap (λ (n : ℕ). at_most_word (max e n)) (sym (ends_more o removed s))

pub homes_all : (e s reached : ℕ) (o : Object) (removed : List ℕ) → s ≡ length o.sections
    → reached ≡ at_most_word (max e (greatest (ends_below o removed s)))
    → reached ≡ at_most_word (max e (greatest (map loaded_end
    (map (section_at o) (kept_sections o removed)))))
unfolding kept_sections
homes_all e s reached o removed all so_far =
    so_far
    ∙ ap (λ (n : ℕ). at_most_word (max e (greatest (ends_below o removed n)))) all

-- ---- One end

pub home_end_is : (c : Section) (at len : ℕ) → at ≡ c.home.at → len ≡ c.home.len
    → home_end c.header at len ≡ loaded_end c
unfolding loaded_end
home_end_is c at len at_is len_is =
    ap (λ (n : ℕ). home_end c.header n len) at_is
    ∙ ap (λ (n : ℕ). home_end c.header c.home.at n) len_is

-- the place of the program headers, as the header tells it
pub program_table_place : (o : Object) (h : Ehdr)
    → ◌≡◌ {A = Result Ehdr ElfError} (Ok h) (Ok (header_of o)) → h.phoff ≡ o.header.phoff
unfolding header_of
program_table_place o h is = ap (λ (x : Ehdr). x.phoff) (ok_is h (header_of o) is)

-- the home of a section that is there is known
pub home_never : (o : Object) (s : ℕ) (e : ElfError) → s < length o.sections
    → ◌≡◌ {A = Result (ℕ × ℕ) ElfError} (Err e) (home_answer o s) → ⊥
unfolding home_answer
home_never o s e there came =
    let none : ◌≡◌ {A = Result (ℕ × ℕ) ElfError} (Err e)
    (Ok ((section_at o s).home.at, (section_at o s).home.len)) =
    came
    ∙ ap (λ (r : Option ElfError). answered r ((section_at o s).home.at, (section_at o s).home.len))
    (no_section_there o s there) in cc

-- ---- The tail

capped_twice : (x y : ℕ) → at_most_word (max (at_most_word x) y) ≡ at_most_word (max x y)
capped_twice x y = omega arith

capped_second : (x y z : ℕ) → at_most_word (max (max x (at_most_word y)) z) ≡ at_most_word (max (max x y) z)
capped_second x y z = omega arith

capped_last : (x n : ℕ) → n < 2 ^ 64 → min (at_most_word x) n ≡ min n x
capped_last x n small = omega arith

all_four : (a b c d : ℕ) → max (max (max a b) c) d ≡ max a (max b (max c d))
all_four a b c d = omega arith

end_is : (a b gs gh front first last base r : ℕ) → base < 2 ^ 64
    → front ≡ max a (at_most_word b) → first ≡ at_most_word (max front gs)
    → last ≡ at_most_word (max first gh) → r ≡ min last base
    → r ≡ min base (max a (max b (max gs gh)))
end_is a b gs gh front first last base r small one two three four =
    four
    ∙ ap (λ (n : ℕ). min n base)
    (three
    ∙ ap (λ (n : ℕ). at_most_word (max n gh))
    (two ∙ ap (λ (n : ℕ). at_most_word (max n gs)) one ∙ capped_second a b gs)
    ∙ capped_twice (max (max a b) gs) gh)
    ∙ capped_last (max (max (max a b) gs) gh) base small
    ∙ ap (λ (n : ℕ). min base n) (all_four a b gs gh)

module _ (o : Object) (removed : List ℕ) where
  abbrev kept_homes_end : ℕ
  kept_homes_end = greatest (map loaded_end (map (section_at o) (kept_sections o removed)))

  abbrev segments_end : ℕ
  segments_end = greatest (map segment_end o.phdrs)

  base_end_is : base_end o (map (section_at o) (kept_sections o removed))
      ≡ min (length o.base) (max (ehdr_size o.header.class)
      (max (o.header.phoff + length o.phdrs * phdr_size o.header.class)
      (max segments_end kept_homes_end)))
  unfolding base_end greatest
  base_end_is =
      ap (λ (n : ℕ). min (length o.base) (max (ehdr_size o.header.class)
      (max (o.header.phoff + length o.phdrs * phdr_size o.header.class) n)))
      (greatest-append (map segment_end o.phdrs)
      (map loaded_end (map (section_at o) (kept_sections o removed))))

  pub tail_none : length o.phdrs ≡ 0 → None ≡ rebuilt_tail o removed
  unfolding rebuilt_tail tail_of
  tail_none none =
      sym (ap (λ (b : Bool). if not b
      then Some (base_end o (map (section_at o) (kept_sections o removed))) else None)
      (eq-eqb (length o.phdrs) 0 none))

  tail_some : (length o.phdrs ≡ 0 → ⊥)
      → Some (base_end o (map (section_at o) (kept_sections o removed))) ≡ rebuilt_tail o removed
  unfolding rebuilt_tail tail_of
  tail_some some =
      sym (ap (λ (b : Bool). if not b
      then Some (base_end o (map (section_at o) (kept_sections o removed))) else None)
      (ne_eqb (length o.phdrs) 0 some))

  pub tail_is : (front first last base r size table : ℕ) → (length o.phdrs ≡ 0 → ⊥)
      → size ≡ ehdr_size o.header.class
      → table ≡ at_most_word (o.header.phoff + length o.phdrs * phdr_size o.header.class)
      → front ≡ max size table → first ≡ at_most_word (max front segments_end)
      → last ≡ at_most_word (max first kept_homes_end) → base ≡ length o.base → base < 2 ^ 64
      → r ≡ min last base → Some r ≡ rebuilt_tail o removed
  tail_is front first last base r size table some size_is table_is one two three long small four =
      let b = o.header.phoff + length o.phdrs * phdr_size o.header.class in
      let front_is : front ≡ max (ehdr_size o.header.class) (at_most_word b) =
      one ∙ ap (λ (n : ℕ). max n table) size_is
      ∙ ap (λ (n : ℕ). max (ehdr_size o.header.class) n) table_is in
      ap (λ (n : ℕ). Some n)
      (end_is (ehdr_size o.header.class) b segments_end kept_homes_end front first last base r
      small front_is two three four
      ∙ ap (λ (n : ℕ). min n (max (ehdr_size o.header.class) (max b
      (max segments_end kept_homes_end)))) long
      ∙ sym base_end_is)
      ∙ tail_some some
