-- What is kept of the sections of two halves, one after another.
use Rattle.std.proofs.Common.{◌≡◌, ◌+◌, ◌-◌, ◌<◌, ◌≤◌, ◌&&◌, ◌++◌, ℕ, Bool, true, false, List, length, map, Option, Some, None, Result, Ok, Err, refl, sym, ap, ◌∙◌, subst}
use Rattle.std.specs.Prelude.{IsTrue, IfErr, OnOk, slice_get}
use Rattle.std.specs.List.{range_with_len}
use Rattle.std.specs.Option.{option_map}
use Rattle.std.proofs.lemmas.Bool.{and_parts}
use Rattle.elf_types.specs.Answers.{first_refusal}
use Rattle.elf_types.specs.declared.records.Shdr.{Shdr}
use Rattle.elf_types.specs.declared.errors.ElfError.{ElfError}
use Rattle.elf_types.specs.declared.errors.ElfError.TheVariants.{Memory, Read, Write}
use Rattle.elf_object.specs.Answers.{raw_refusal}
use Rattle.elf_object.specs.Object.{Object, section_at}
use Rattle.elf_object.specs.Layout.{section_numbers}
use Rattle.rebuild_keep.specs.elf_descriptor.State.{State}
use Rattle.elf_object.specs.Sections.{is_allocated, header_at}
use Rattle.rebuild_model.specs.Split.{allocated, counterpart, loaded_header, combined_raw_refusal}
use Rattle.rebuild_model.specs.Split.{UnstripFault as stated}
use Rattle.rebuild_keep.specs.rebuild_making.Refused.{RefusedBy}
use Rattle.rebuild_keep.proofs.MakeLaws.{refused_unread}
use Rattle.rebuild_plan.specs.rebuild_image.declared.ranges.ranges.ByteRange.{ByteRange}
use Rattle.rebuild_plan.specs.declared.contents.Contents.{Contents}
use Rattle.rebuild_plan.specs.Contents.{HasOneMore, IsPutBehind, HasFirst}
use Rattle.rebuild_plan.proofs.KeepingLaws.{kept_more}
use Rattle.rebuild_join.specs.declared.joined.faults.UnstripFault.{UnstripFault as Fault}
use Rattle.rebuild_join.specs.declared.joined.faults.UnstripFault.TheVariants as faults
use Rattle.rebuild_join.specs.Joined.Answers.{stated_fault}
use Rattle.rebuild_join.specs.Joined.Joined.{allocated_below}
use Rattle.rebuild_join.proofs.joined.FaultLaws.{elf_fault, debug_fault, fault_as, fault_on}
use Rattle.rebuild_join.proofs.joined.LoadedLaws.{numbers_next, below_one, below_counts, below_stays, counterpart_some, counterpart_none}
use Rattle.rebuild_join.proofs.joined.NextLaws.{refused_by}
use Rattle.rebuild_join.proofs.joined.AllLaws.{passed_more, met_here}
use Rattle.rebuild_join.specs.Ranges.{FindsRaw}
use Rattle.rebuild_join.specs.Keeping.{joined_header, joined_bytes, IsUnreadFault, AddsHome, AddsJoined, AreJoined, AddsAllJoined}
use Rattle.rebuild_join.proofs.SectionLaws.{header_by, bytes_by}

-- ---- Faults

-- an error by which no read fails
pub elf_unread : (r : Option ElfError) (e : ElfError) → RefusedBy r e → IsUnreadFault (faults.Elf e)
elf_unread r Read by = by
elf_unread r Write by = by
elf_unread r e by = tt

pub debug_unread : (r : Option ElfError) (e : ElfError) → RefusedBy r e
    → IsUnreadFault (faults.Debug e)
debug_unread r Read by = by
debug_unread r Write by = by
debug_unread r e by = tt

-- ---- A home

module _ (told : Bool) (base : List ℕ) (h : Shdr) (o : Object) (n : ℕ) (contents next : Contents)
  where
    pub range_added : (range : ByteRange) (q : Result (Unit {0}) ElfError)
        → FindsRaw told base o n (Ok range) → OnOk q (IsPutBehind h range contents next)
        → IfErr q (λ e. e ≡ Memory) → AddsHome told base h o n q contents next
    range_added range (Ok u) found put only = record {
      ok = put told base (section_at o n).raw (found.ok contents.held);
      passed = found.passed;
      err = tt;
    }
    range_added range (Err e) found put only =
        subst (λ (d : ElfError). AddsHome told base h o n (Err d) contents next) (sym only)
        (record { ok = tt; passed = tt; err = tt })

    pub range_refused : (e : ElfError) → FindsRaw told base o n (Err e)
        → AddsHome told base h o n (Err e) contents next
    range_refused e found = record { ok = tt; passed = tt; err = found.err }

    -- the same header, told otherwise
    pub adds_as : (g : Shdr) (q : Result (Unit {0}) ElfError) → h ≡ g
        → AddsHome told base h o n q contents next → AddsHome told base g o n q contents next
    adds_as g q same is =
        subst (λ (k : Shdr). AddsHome told base k o n q contents next) same is

-- ---- One section

-- the same section, of which no more is told
one_as : (told less : Bool) (base : List ℕ) (h k : Shdr) (x y : List ℕ) (old new : Contents)
    → (IsTrue less → IsTrue told) → h ≡ k → x ≡ y → HasOneMore told base h x old new
    → HasOneMore less base k y old new
one_as told less base h k x y old new tells header bytes is =
    subst (λ (l : List ℕ). HasOneMore less base k l old new) bytes
    (subst (λ (g : Shdr). HasOneMore less base g x old new) header (record {
      size = is.size;
      range = is.range;
      added = is.added;
      headers = is.headers;
      sizes = is.sizes;
      ranges = is.ranges;
      held = is.held;
      small = is.small;
      size_is = λ t. is.size_is (tells t);
      is = λ t later. is.is (tells t) later;
    }))

module _ {S T : Type 0} (s : State S) (d : State T) (n taken : ℕ) (first : 1 ≤ n)
    (there : n < length d.o.sections) (count : taken ≡ length (allocated_below d.o n))
    (header : Shdr) (head : header ≡ header_at d.o n) (b : Bool) (test : b ≡ is_allocated header)
    (contents next : Contents) where
  loads_as : (t : Bool) → b ≡ t → is_allocated (header_at d.o n) ≡ t
  loads_as t is = sym (ap is_allocated head) ∙ sym test ∙ is

  -- ---- An allocated one
  module _ (is : b ≡ true) (l : List ℕ) (same : l ≡ allocated s.o) (t : ℕ)
      (at : slice_get l taken ≡ Some t) where
    found : counterpart s.o d.o n ≡ Some t
    found =
        counterpart_some s.o d.o n t first there (loads_as true is)
        (sym (ap (λ (k : ℕ). slice_get (allocated s.o) k) count)
        ∙ sym (ap (λ (x : List ℕ). slice_get x taken) same)
        ∙ at)

    pub loaded_added : AddsHome s.told (s.o.base ++ d.o.base)
        (loaded_header header (header_at s.o t)) s.o t (Ok tt) contents next
        → AddsJoined s d n (Ok (taken + 1)) contents next
    loaded_added adds = record {
      count = ap (λ (k : ℕ). k + 1) count
          ∙ sym (below_counts d.o n first (loads_as true is));
      ok = one_as s.told (s.told && d.told) (s.o.base ++ d.o.base)
          (loaded_header header (header_at s.o t)) (joined_header s.o d.o n)
          (section_at s.o t).raw (joined_bytes s.o d.o n) contents next
          (λ both. (and_parts s.told d.told both).0)
          (ap (λ (h : Shdr). loaded_header h (header_at s.o t)) head
          ∙ sym (header_by s.o d.o n (Some t) found))
          (sym (bytes_by s.o d.o n (Some t) found)) adds.ok;
      passed = refused_by s.o d.o n first (Some t) found
          ∙ ap (option_map stated.Elf) adds.passed;
      fault = tt;
      unread = tt;
    }

    pub loaded_refused : (e : ElfError) → AddsHome s.told (s.o.base ++ d.o.base)
        (loaded_header header (header_at s.o t)) s.o t (Err e) contents next
        → AddsJoined s d n (Err (faults.Elf e)) contents next
    loaded_refused e adds = record {
      count = tt;
      ok = tt;
      passed = tt;
      fault = fault_as (option_map stated.Elf (raw_refusal s.o t))
          (combined_raw_refusal s.o d.o n) (stated.Elf e)
          (sym (refused_by s.o d.o n first (Some t) found))
          (elf_fault (raw_refusal s.o t) e (refused_unread (raw_refusal s.o t) e adds.err));
      unread = elf_unread (raw_refusal s.o t) e adds.err;
    }

  -- ---- Any other
  module _ (is : b ≡ false) where
    nowhere : counterpart s.o d.o n ≡ None
    nowhere = counterpart_none s.o d.o n (loads_as false is)

    pub own_added : AddsHome d.told (s.o.base ++ d.o.base) header d.o n (Ok tt) contents next
        → AddsJoined s d n (Ok taken) contents next
    own_added adds = record {
      count = count ∙ sym (below_stays d.o n first (loads_as false is));
      ok = one_as d.told (s.told && d.told) (s.o.base ++ d.o.base) header
          (joined_header s.o d.o n) (section_at d.o n).raw (joined_bytes s.o d.o n) contents next
          (λ both. (and_parts s.told d.told both).1)
          (head ∙ sym (header_by s.o d.o n None nowhere))
          (sym (bytes_by s.o d.o n None nowhere)) adds.ok;
      passed = refused_by s.o d.o n first None nowhere
          ∙ ap (option_map stated.Debug) adds.passed;
      fault = tt;
      unread = tt;
    }

    pub own_refused : (e : ElfError)
        → AddsHome d.told (s.o.base ++ d.o.base) header d.o n (Err e) contents next
        → AddsJoined s d n (Err (faults.Debug e)) contents next
    own_refused e adds = record {
      count = tt;
      ok = tt;
      passed = tt;
      fault = fault_as (option_map stated.Debug (raw_refusal d.o n))
          (combined_raw_refusal s.o d.o n) (stated.Debug e)
          (sym (refused_by s.o d.o n first None nowhere))
          (debug_fault (raw_refusal d.o n) e (refused_unread (raw_refusal d.o n) e adds.err));
      unread = debug_unread (raw_refusal d.o n) e adds.err;
    }

-- ---- One after another

-- those below a number are kept, by so many allocated ones
pub record JoinedBelow {S T : Type 0} (s : State S) (d : State T) (x : Contents) (taken n : ℕ)
    : Type 0 where
  pub count : taken ≡ length (allocated_below d.o n)
  pub kept : AreJoined s d (range_with_len 1 (n - 1)) x
  pub passed : first_refusal (map (combined_raw_refusal s.o d.o) (range_with_len 1 (n - 1))) ≡ None

module _ {S T : Type 0} (s : State S) (d : State T) where
  pub none_below : (x : Contents) → HasFirst x → JoinedBelow s d x 0 1
  none_below x first = record {
    count = sym (ap (λ (l : List ℕ). length l) (below_one d.o));
    kept = first (s.told && d.told) (s.o.base ++ d.o.base) (joined_header s.o d.o)
        (joined_bytes s.o d.o);
    passed = refl;
  }

  module _ (x y : Contents) (taken n : ℕ) (first : 1 ≤ n) (so_far : JoinedBelow s d x taken n) where
    pub more_below : (k : ℕ) → AddsJoined s d n (Ok k) x y → JoinedBelow s d y k (n + 1)
    more_below k adds = record {
      count = adds.count;
      kept = subst (λ (l : List ℕ). AreJoined s d l y) (sym (numbers_next n first))
          (kept_more (s.told && d.told) (s.o.base ++ d.o.base) (joined_header s.o d.o)
          (joined_bytes s.o d.o) (range_with_len 1 (n - 1)) n x y so_far.kept adds.ok);
      passed = passed_more (combined_raw_refusal s.o d.o) n first so_far.passed adds.passed;
    }

    pub stop_below : n < length d.o.sections → (f : Fault) → AddsJoined s d n (Err f) x y
        → AddsAllJoined s d (Err f) y
    stop_below there f adds = record {
      ok = tt;
      passed = tt;
      fault = fault_on (combined_raw_refusal s.o d.o n)
          (first_refusal (map (combined_raw_refusal s.o d.o) (section_numbers d.o)))
          (stated_fault f)
          (met_here (combined_raw_refusal s.o d.o) n first so_far.passed (length d.o.sections)
          there (stated_fault f)) adds.fault;
      unread = adds.unread;
    }

  pub all_below : (x : Contents) (taken n : ℕ) → n ≡ length d.o.sections → JoinedBelow s d x taken n
      → AddsAllJoined s d (Ok tt) x
  all_below x taken n all so_far = record {
    ok = subst (λ (k : ℕ). AreJoined s d (range_with_len 1 (k - 1)) x) all so_far.kept;
    passed = subst (λ (k : ℕ).
        first_refusal (map (combined_raw_refusal s.o d.o) (range_with_len 1 (k - 1))) ≡ None) all
        so_far.passed;
    fault = tt;
    unread = tt;
  }
