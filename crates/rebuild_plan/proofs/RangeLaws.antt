-- Where the bytes of a section are that is taken as it is, and of one that is made.
use Rattle.std.proofs.Common.{◌≡◌, ◌==◌, ◌||◌, ◌<◌, ◌≤◌, ℕ, zero, suc, Bool, true, false, List, [], ◌++◌, length, take, drop, Option, None, Result, Ok, Err, if◌then◌else◌, refl, sym, ap, ◌∙◌, subst, arith}
use Rattle.std.specs.Prelude.{IsTrue, IfOk, IfErr}
use Rattle.std.proofs.lemmas.Bool.{ne_eqb, or_parts}
use Rattle.std.proofs.lemmas.List.{append-nil}
use Rattle.std.proofs.lemmas.Result.{IfOk-weaker}
use Rattle.elf_types.specs.declared.records.Ehdr.{Ehdr}
use Rattle.elf_types.specs.declared.errors.ElfError.{ElfError}
use Rattle.elf_types.specs.declared.errors.ElfError.TheVariants.{Memory, OutOfFile}
use Rattle.elf_types.specs.Answers.{refused_if}
use Rattle.elf_types.specs.Lists.{AreBytes}
use Rattle.elf_outside.specs.Asks.{ReadRose}
use Rattle.elf_outside.specs.declared.sources.Source.{Ghosts}
use Rattle.elf_xlate.specs.declared.content.Items.{Items}
use Rattle.elf_xlate.specs.declared.content.Items.TheVariants as items
use Rattle.elf_xlate.specs.Translation.{encoded, first_unfit}
use Rattle.law_rebuild.specs.elf_object.Object.{Object, section_at, header_of, is_dirty}
use Rattle.law_rebuild.specs.elf_object.Answers.{raw_refusal}
use Rattle.law_rebuild.specs.elf_object.Due.{homes_due}
use Rattle.law_rebuild.specs.elf_object.Valid.{IsObject, IsTied}
use Rattle.law_rebuild.proofs.law_object.KeepLaws.{section_at_is}
use Rattle.rebuild_tables.specs.elf_descriptor.State.{State}
use Rattle.rebuild_tables.specs.elf_descriptor.Reads.{Looks}
use Rattle.rebuild_tables.proofs.elf_update_plan.RowLaws.{ok_is}
use Rattle.law_rebuild.specs.rebuild_model.Followed.{symbols_follow, members_follow}
use Rattle.law_rebuild.proofs.strip.MadeSections.{bytes_encoded}
use Rattle.rebuild_tables.specs.rebuild_making.Making.{reading_homes}
use Rattle.rebuild_tables.specs.rebuild_making.Refused.{UnreadBy}
use Rattle.rebuild_tables.proofs.rebuild_making.MakingLaws.{memory_unread, passes_on, read_then_memory, one_unread}
use Rattle.rebuild_tables.specs.rebuild_image.declared.ranges.ranges.ByteRange.{ByteRange}
use Rattle.rebuild_tables.specs.rebuild_image.Ranges.Ranges.{range_bytes, range_due}
use Rattle.rebuild_tables.specs.rebuild_keep.declared.naming.Names.{Names}
use Rattle.rebuild_tables.specs.rebuild_keep.declared.naming.Names.TheVariants.{Stay, Anew, TooLarge}
use Rattle.rebuild_tables.specs.rebuild_keep.declared.keepers.Keeper.{Keeper}
use Rattle.rebuild_tables.specs.rebuild_keep.Homes.{home_refusal}
use Rattle.rebuild_tables.specs.rebuild_keep.Keepers.{indexes_by, kept_items_by, items_or_names, items_by, follows_by, is_renewed, makes_by, kept_refusal_by, refusal_or_none, refusal_by, reads_by, HasNewNameTable}
use Rattle.rebuild_tables.specs.rebuild_keep.Makes.{AsksFor}
use Rattle.rebuild_tables.proofs.rebuild_keep.AskLaws.{asks_looks, asks_nothing}
use Rattle.rebuild_tables.proofs.rebuild_keep.HomeLaws.{raw_there}
use Rattle.rebuild_tables.specs.rebuild_image.Fronts.{HoldsAppended}
use Rattle.rebuild_tables.proofs.rebuild_image.FrontLaws.{held_bytes_stay}
use Rattle.rebuild_tables.proofs.rebuild_image.HomeLaws.{homes_stand}
use Rattle.rebuild_plan.specs.Ranges.{base_place, home_range, FindsHome, bytes_by, IsRangeOf, making_due, base_due_by, FindsRange}
use Rattle.rebuild_plan.proofs.ReadingLaws.{held_range_due, taken_due}

-- ---- Homes

pub range_same : (o : Object) (s at len place : ℕ) → at ≡ (section_at o s).home.at
    → len ≡ (section_at o s).home.len → place ≡ base_place at len
    → ◌≡◌ {A = ByteRange} (record { held = false; at = place; len = len }) (home_range o s)
range_same o s at len place at_is len_is place_is =
    let made : ℕ → ℕ → ByteRange = λ p n. record { held = false; at = p; len = n } in
    ap (λ (p : ℕ). made p len) place_is
    ∙ ap (λ (n : ℕ). made (base_place n len) len) at_is
    ∙ ap (λ (n : ℕ). made (base_place (section_at o s).home.at n) n) len_is

-- the place of no bytes does not count
place_free : (at len : ℕ) (base : List ℕ)
    → take len (drop (base_place at len) base) ≡ take len (drop at base)
place_free at zero base = refl
place_free at (suc n) base =
    ap (λ (b : Bool). take (suc n) (drop (if b then 0 else at) base))
    (ne_eqb (suc n) 0 (λ none. omega (arith, none)))

-- its bytes stand in the base
pub home_bytes_in_base : (o : Object) (s : ℕ) (told : Bool) (range : ByteRange) (held : List ℕ) → IsObject o
    → is_dirty o ≡ false → (IsTrue told → IsTied o) → (section_at o s).home.out ≡ false
    → range ≡ home_range o s → IsRangeOf told o.base (section_at o s).raw held held range
home_bytes_in_base o s told range held is clean tied inside at = record {
  added = [];
  all = sym (append-nil held);
  long = λ t.
      ap (λ (r : ByteRange). r.len) at ∙ sym ((section_at_is o s is).home.inside inside);
  is = λ t later.
      ap (range_bytes (held ++ later) o.base) at
      ∙ place_free (section_at o s).home.at (section_at o s).home.len o.base
      ∙ sym (homes_stand o s (tied t) clean inside);
}

-- ---- What is taken as it is

items_stay : (names : Names) (b : Bool) (kept : Items) → is_renewed names b ≡ false
    → items_or_names names b kept ≡ kept
items_stay Stay b kept not_names = refl
items_stay (Anew names) b kept not_names =
    ap (λ (t : Bool). if t then items.Bytes names.table else kept) not_names
items_stay TooLarge b kept not_names = refl

refusal_stays : (names : Names) (b : Bool) (kept : Option ElfError) → is_renewed names b ≡ false
    → refusal_or_none names b kept ≡ kept
refusal_stays Stay b kept not_names = refl
refusal_stays (Anew names) b kept not_names =
    ap (λ (t : Bool). if t then None else kept) not_names
refusal_stays TooLarge b kept not_names = refl

module _ (k : Keeper) (o : Object) (s : ℕ) (taken : makes_by k o s ≡ false) where
  not_names : is_renewed k.names (s == o.header.shstrndx) ≡ false
  unfolding makes_by
  not_names =
      (or_parts (is_renewed k.names (s == o.header.shstrndx)) (follows_by k o s) taken).0

  not_follows : follows_by k o s ≡ false
  unfolding makes_by
  not_follows =
      (or_parts (is_renewed k.names (s == o.header.shstrndx)) (follows_by k o s) taken).1

  taken_kept : kept_items_by k o s ≡ items.Bytes (section_at o s).raw
  unfolding kept_items_by follows_by
  taken_kept =
      let last = or_parts (symbols_follow o s || members_follow o s) (indexes_by k o s)
      not_follows in
      let both = or_parts (symbols_follow o s) (members_follow o s) last.0 in
      rw (both.0, both.1, last.1) refl

  pub taken_items : items_by k o s ≡ items.Bytes (section_at o s).raw
  unfolding items_by
  taken_items =
      items_stay k.names (s == o.header.shstrndx) (kept_items_by k o s) not_names ∙ taken_kept

  pub taken_refusal : refusal_by k o s ≡ raw_refusal o s
  unfolding refusal_by kept_refusal_by
  taken_refusal =
      refusal_stays k.names (s == o.header.shstrndx) (kept_refusal_by k o s) not_names
      ∙ ap (λ (b : Bool). if b then home_refusal o s else raw_refusal o s) not_follows

  taken_bytes : IsObject o → bytes_by k o s ≡ (section_at o s).raw
  unfolding bytes_by
  taken_bytes is =
      ap (encoded o.header.class o.header.order) taken_items
      ∙ bytes_encoded o.header.class o.header.order (section_at o s).raw
      (section_at_is o s is).home.bytes

module _ {S : Type 0} (g : Ghosts S) (k : Keeper) (s : ℕ) (state : State S) (held : List ℕ)
    (there : s < length state.o.sections) (is : IsObject state.o)
    (clean : is_dirty state.o ≡ false) (tied : IsTrue state.told → IsTied state.o)
    (taken : makes_by k state.o s ≡ false) where
  inside_found : (range : ByteRange) → (section_at state.o s).home.out ≡ false
      → range ≡ home_range state.o s → FindsRange g k s (Ok range) state state held held
  inside_found range inside at = record {
    ok = subst (λ (l : List ℕ). IsRangeOf state.told state.o.base l held held range)
        (sym (taken_bytes k state.o s taken is))
        (home_bytes_in_base state.o s state.told range held is clean tied inside at);
    within = taken_due k state.o s range taken inside at;
    passed = taken_refusal k state.o s taken
        ∙ raw_there state.o s there
        ∙ ap (λ (b : Bool). refused_if b (OutOfFile s)) inside;
    err = tt;
    asks = asks_nothing g (Ok range) state (making_due k state.o s) tt;
  }

  outside_found : (e : ElfError) → (section_at state.o s).home.out ≡ true → e ≡ OutOfFile s
      → FindsRange g k s (Err e) state state held held
  outside_found e outside at =
      subst (λ (d : ElfError). FindsRange g k s (Err d) state state held held) (sym at)
      (record {
        ok = tt;
        within = tt;
        passed = tt;
        err = taken_refusal k state.o s taken
            ∙ raw_there state.o s there
            ∙ ap (λ (b : Bool). refused_if b (OutOfFile s)) outside;
        asks = asks_nothing g (Err (OutOfFile s)) state (making_due k state.o s) tt;
      })

  pub home_found : (r : Result ByteRange ElfError) → FindsHome state.o s r
      → FindsRange g k s r state state held held
  home_found (Ok range) found = inside_found range found.0 found.1
  home_found (Err e) found = outside_found e found.0 found.1

-- ---- What is made

pub header_class_fits : (o : Object) (h : Ehdr) (made : Items)
    → ◌≡◌ {A = Result Ehdr ElfError} (Ok h) (Ok (header_of o))
    → first_unfit o.header.class made ≡ None → first_unfit h.class made ≡ None
unfolding header_of
header_class_fits o h made told fits =
    ap (λ (x : Ehdr). first_unfit x.class made) (ok_is h (header_of o) told) ∙ fits

encoded_told : (o : Object) (h : Ehdr) (made : Items)
    → ◌≡◌ {A = Result Ehdr ElfError} (Ok h) (Ok (header_of o))
    → encoded h.class h.order made ≡ encoded o.header.class o.header.order made
unfolding header_of
encoded_told o h made told =
    ap (λ (x : Ehdr). encoded x.class x.order made) (ok_is h (header_of o) told)

module _ {S : Type 0} (g : Ghosts S) (k : Keeper) (s : ℕ) (old new : State S)
    (held : List ℕ) (makes : makes_by k old.o s ≡ true) where
  due_is : homes_due old.o [] (reads_by k old.o s) ≡ making_due k old.o s
  due_is = sym (ap (λ (b : Bool). if b then homes_due old.o [] (reads_by k old.o s) else 0) makes)

  asks_made : (q : Result ByteRange ElfError) → Looks g (reading_homes (λ o. reads_by k o s)) q old new
      → AsksFor g q old new (making_due k old.o s)
  asks_made q looks =
      subst (λ (n : ℕ). AsksFor g q old new n) due_is
      (asks_looks g q old new (λ o. reads_by k o s) looks)

  module _ (next : List ℕ) (h : Ehdr) (made : Items)
      (header : ◌≡◌ {A = Result Ehdr ElfError} (Ok h) (Ok (header_of old.o)))
      (told : IsTrue old.told → made ≡ items_by k old.o s) where
    made_bytes : IsTrue old.told → encoded h.class h.order made ≡ bytes_by k old.o s
    unfolding bytes_by
    made_bytes t =
        encoded_told old.o h made header
        ∙ ap (encoded old.o.header.class old.o.header.order) (told t)

    range_made : (range : ByteRange)
        → HoldsAppended (encoded h.class h.order made) held next range
        → IsRangeOf old.told old.o.base (bytes_by k old.o s) held next range
    range_made range holds = record {
      added = encoded h.class h.order made;
      all = holds.all;
      long = λ t. holds.len ∙ ap (λ (l : List ℕ). length l) (made_bytes t);
      is = λ t later.
          held_bytes_stay (encoded h.class h.order made) held next later old.o.base range holds
          ∙ made_bytes t;
    }

    pub made_found : (q : Result ByteRange ElfError) → refusal_by k old.o s ≡ None
        → Looks g (reading_homes (λ o. reads_by k o s)) (Ok made) old new
        → IfOk q (HoldsAppended (encoded h.class h.order made) held next)
        → IfErr q (λ e. e ≡ Memory) → FindsRange g k s q old new held next
    made_found q passed looks holds only = record {
      ok = IfOk-weaker q (HoldsAppended (encoded h.class h.order made) held next)
          (IsRangeOf old.told old.o.base (bytes_by k old.o s) held next) range_made holds;
      within = IfOk-weaker q (HoldsAppended (encoded h.class h.order made) held next)
          (λ range. range_due range ≤ base_due_by k old.o s)
          (λ range is. held_range_due range (base_due_by k old.o s) is.held) holds;
      passed = passes_on q (refusal_by k old.o s ≡ None) passed;
      err = memory_unread q (refusal_by k old.o s) only;
      asks = asks_made q (read_then_memory g made q old new (λ o. reads_by k o s) only looks);
    }

  pub made_refused : (e : ElfError) → UnreadBy (refusal_by k old.o s) e
      → Looks {T = Items} g (reading_homes (λ o. reads_by k o s)) (Err e) old new
      → FindsRange g k s (Err e) old new held held
  made_refused e by looks = record {
    ok = tt;
    within = tt;
    passed = tt;
    err = by;
    asks = asks_made (Err e)
        (one_unread {T = Items} {U = ByteRange} g e old new (λ o. reads_by k o s) looks);
  }

-- ---- The table of the names

rose_none : {T : Type 0} (q : Result T ElfError) (a b : ℕ) → IfErr q (λ e. e ≡ Memory)
    → ReadRose q a b
rose_none (Ok x) a b only = tt
rose_none {T} (Err e) a b only =
    subst (λ (d : ElfError). ReadRose {T = T} (Err d) a b) (sym only) tt

module _ {S : Type 0} (g : Ghosts S) (k : Keeper) (s : ℕ) (state : State S)
    (table held next : List ℕ) (has : HasNewNameTable k state.o s table) (are : AreBytes table) where
  table_bytes : bytes_by k state.o s ≡ table
  unfolding bytes_by
  table_bytes =
      ap (encoded state.o.header.class state.o.header.order) has.is
      ∙ bytes_encoded state.o.header.class state.o.header.order table are

  range_of_table : (range : ByteRange) → HoldsAppended table held next range
      → IsRangeOf state.told state.o.base (bytes_by k state.o s) held next range
  range_of_table range holds = record {
    added = table;
    all = holds.all;
    long = λ t. holds.len ∙ ap (λ (l : List ℕ). length l) (sym table_bytes);
    is = λ t later.
        held_bytes_stay table held next later state.o.base range holds ∙ sym table_bytes;
  }

  pub table_found : (q : Result ByteRange ElfError) → IfOk q (HoldsAppended table held next)
      → IfErr q (λ e. e ≡ Memory) → FindsRange g k s q state state held next
  table_found q holds only = record {
    ok = IfOk-weaker q (HoldsAppended table held next)
        (IsRangeOf state.told state.o.base (bytes_by k state.o s) held next) range_of_table holds;
    within = IfOk-weaker q (HoldsAppended table held next)
        (λ range. range_due range ≤ base_due_by k state.o s)
        (λ range is. held_range_due range (base_due_by k state.o s) is.held) holds;
    passed = passes_on q (refusal_by k state.o s ≡ None) has.passed;
    err = memory_unread q (refusal_by k state.o s) only;
    asks = asks_nothing g q state (making_due k state.o s)
        (rose_none q (g.faults state.source) (g.faults state.source) only);
  }
