-- What is made of a program, and what of its front stays.
use Rattle.std.proofs.Common.{◌≡◌, ℕ, Bool, true, false, List, length, take, replicate, Option, Some, refl, ap, ◌∙◌}
use Rattle.std.specs.Prelude.{if◌then◌else◌, ◌==◌, map}
use Rattle.std.specs.List.{enumerate_from}
use Rattle.std.proofs.lemmas.List.{length-map}
use Rattle.std.proofs.lemmas.List.FromFn.{length-enumerate_from}
use Rattle.hash_model.specs.elf_object.Object.{Object}
use Rattle.hash_model.specs.elf_object.Open.{created_over}
use Rattle.hash_model.specs.elf_object.Steps.{stored_ehdr, with_ehdr, with_phdrs}
use Rattle.rebuild_model.specs.Arranged.{over_base, section_from, table_place_from, placed_from}
use Rattle.rebuild_model.specs.Rebuilt.{rebuilt_sections, rebuilt_index, rebuilt_tail, rebuilt_object, assembled}

-- what is made over the bytes before a tail
abbrev pub made_over : Object → List ℕ → ℕ → Object
made_over o removed tail =
    assembled (over_base o (Some tail)) o (rebuilt_index o removed) (rebuilt_sections o removed)

-- the same with its places
abbrev pub stripped_over : Object → List ℕ → ℕ → Object
stripped_over o removed tail = placed_from (made_over o removed tail) tail

pub rebuilt_over : (o : Object) (removed : List ℕ) (tail : ℕ)
    → rebuilt_tail o removed ≡ Some tail → rebuilt_object o removed ≡ made_over o removed tail
unfolding rebuilt_object
rebuilt_over o removed tail is =
    ap (λ (t : Option ℕ).
    assembled (over_base o t) o (rebuilt_index o removed) (rebuilt_sections o removed)) is

-- what an object has of another one's front, and of its bytes before a tail
pub record KeepsFront (o q : Object) (tail : ℕ) : Type 0 where
  pub class : q.header.class ≡ o.header.class
  pub order : q.header.order ≡ o.header.order
  pub osabi : q.header.osabi ≡ o.header.osabi
  pub abiversion : q.header.abiversion ≡ o.header.abiversion
  pub etype : q.header.etype ≡ o.header.etype
  pub machine : q.header.machine ≡ o.header.machine
  pub entry : q.header.entry ≡ o.header.entry
  pub phoff : q.header.phoff ≡ o.header.phoff
  pub flags : q.header.flags ≡ o.header.flags
  pub pad : q.pad ≡ replicate 7 0
  pub phdrs : q.phdrs ≡ o.phdrs
  pub base : q.base ≡ take tail o.base
  pub layout : q.layout ≡ true

-- before its places are given
made_front_kept : (o : Object) (removed : List ℕ) (tail : ℕ)
    → KeepsFront o (made_over o removed tail) tail
unfolding assembled over_base created_over with_ehdr with_phdrs stored_ehdr
made_front_kept o removed tail = record {
  class = refl;
  order = refl;
  osabi = refl;
  abiversion = refl;
  etype = refl;
  machine = refl;
  entry = refl;
  phoff = refl;
  flags = refl;
  pad = refl;
  phdrs = refl;
  base = refl;
  layout = refl;
}

-- and with them
pub front_kept : (o : Object) (removed : List ℕ) (tail : ℕ)
    → KeepsFront o (stripped_over o removed tail) tail
unfolding placed_from assembled with_ehdr with_phdrs stored_ehdr
front_kept o removed tail =
    by_test (length (rebuilt_sections o removed) == 0) (made_front_kept o removed tail)
  where
    by_test : (b : Bool) → KeepsFront o (made_over o removed tail) tail
        → KeepsFront o (if b then made_over o removed tail else with_ehdr
        (record (made_over o removed tail) {
          sections = map (λ row. section_from (made_over o removed tail) tail row.0 row.1)
              (enumerate_from 0 (rebuilt_sections o removed));
        })
        (record (made_over o removed tail).header {
          shoff = table_place_from (made_over o removed tail) tail;
        })) tail
    by_test true made = made
    by_test false made = record {
      class = made.class;
      order = made.order;
      osabi = made.osabi;
      abiversion = made.abiversion;
      etype = made.etype;
      machine = made.machine;
      entry = made.entry;
      phoff = made.phoff;
      flags = made.flags;
      pad = made.pad;
      phdrs = made.phdrs;
      base = made.base;
      layout = made.layout;
    }

-- as many sections as are made
pub length-stripped : (o : Object) (removed : List ℕ) (tail : ℕ)
    → length (stripped_over o removed tail).sections ≡ length (rebuilt_sections o removed)
unfolding placed_from assembled with_ehdr with_phdrs
length-stripped o removed tail = by_test (length (rebuilt_sections o removed) == 0)
  where
    by_test : (b : Bool) → length (if b then made_over o removed tail else with_ehdr
        (record (made_over o removed tail) {
          sections = map (λ row. section_from (made_over o removed tail) tail row.0 row.1)
              (enumerate_from 0 (rebuilt_sections o removed));
        })
        (record (made_over o removed tail).header {
          shoff = table_place_from (made_over o removed tail) tail;
        })).sections ≡ length (rebuilt_sections o removed)
    by_test true = refl
    by_test false =
        length-map (enumerate_from 0 (rebuilt_sections o removed))
        (λ row. section_from (made_over o removed tail) tail row.0 row.1)
        ∙ length-enumerate_from 0 (rebuilt_sections o removed)

-- the place of the section header table
pub shoff-stripped : (o : Object) (removed : List ℕ) (tail : ℕ)
    → (length (rebuilt_sections o removed) == 0) ≡ false
    → (stripped_over o removed tail).header.shoff
    ≡ table_place_from (made_over o removed tail) tail
unfolding placed_from assembled with_ehdr with_phdrs stored_ehdr
shoff-stripped o removed tail some =
    ap (λ (b : Bool). (if b then made_over o removed tail else with_ehdr
    (record (made_over o removed tail) {
      sections = map (λ row. section_from (made_over o removed tail) tail row.0 row.1)
          (enumerate_from 0 (rebuilt_sections o removed));
    })
    (record (made_over o removed tail).header {
      shoff = table_place_from (made_over o removed tail) tail;
    })).header.shoff) some
