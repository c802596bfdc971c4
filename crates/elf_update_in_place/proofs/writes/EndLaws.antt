-- How the write phase ends: the device holds the image, or is torn, and so is the object's base.
use Rattle.std.proofs.Common.{◌≡◌, ◌⊎◌, inl, inr, ℕ, ◌-◌, ◌<◌, ◌≤◌, min, true, false, List, [], Option, Some, None, length, take, replicate, get_or, refl, sym, ap, ◌∙◌, subst, arith, ⊎_elim}
use Rattle.std.specs.Prelude.{IfSome}
use Rattle.std.specs.Option.{option_map}
use Rattle.std.proofs.lemmas.Bool.{cases_lt}
use Rattle.std.proofs.lemmas.List.{length-append, length-take, length-replicate, take_all, take_min, get_or-take, get_or-append_right, get_or_append_left, get_or-replicate, get_or_past}
use Rattle.elf_outside.specs.Writes.{resized}
use Rattle.elf_update_to.specs.elf_object.Blocks.{Block, is_covered}
use Rattle.elf_update_to.specs.elf_object.Object.{Object}
use Rattle.elf_update_to.specs.elf_object.Image.{image, image_length}
use Rattle.elf_update_to.specs.law_object.Laws.{IsTornImage}
use Rattle.elf_update_to.proofs.law_object.ImageLaws.{length-image}
use Rattle.elf_update_to.specs.law_object.Writing.Lines.{IsUnderWay}
use Rattle.elf_update_to.specs.law_object.Writing.Based.{IsBased}
use Rattle.elf_update_to.specs.law_object.Writing.Ready.{IsReady}
use Rattle.elf_update_to.proofs.law_object.writing.UnderWayLaws.{under_way_done}
use Rattle.elf_update_to.proofs.law_object.writing.DeviceLaws.{under_way_cut}
use Rattle.elf_update_to.proofs.law_object.writing.WriteLaws.{unwritten_same, torn_device}
use Rattle.elf_update_in_place.specs.Moves.Written.{written_line}
use Rattle.elf_update_in_place.proofs.moves.LineLaws.{line_covers}
use Rattle.elf_update_in_place.specs.Writes.Writes.{LeavesTorn}

-- ---- The base

-- of a device that does not tell its bytes the base counts as zeros, cut where the device is
base_cut : (was : Object) (base : List ℕ) (n : ℕ) → base ≡ take n was.base
    → (length was.base ≤ n) ⊎ (n ≡ image_length was) → IsTornImage was base
base_cut was base n is long =
    let whole = length-image was in
    let count = ap (λ (l : List ℕ). length l) is ∙ length-take n was.base in
    record {
      len = ⊎_elim (λ h. inl (omega (arith, count, h))) (λ h. inr (omega (arith, count, h, whole))) long;
      each = λ k below. inl (ap (λ (l : List ℕ). get_or l k 0) is
          ∙ get_or-take n was.base k 0 (omega (arith, below, count)));
    }

-- what a torn device leaves of it
pub base_lands : (was : Object) (base : List ℕ) (before after : Option (List ℕ)) (n : ℕ)
    → LeavesTorn before after (image was)
    → IfSome before (λ bytes. take (length was.base) bytes ≡ was.base)
    → IfSome after (λ held. take (length base) held ≡ base)
    → IfSome after (λ held. length held ≡ n) → length base ≡ min (length was.base) n
    → (after ≡ None → base ≡ take n was.base)
    → (length was.base ≤ n) ⊎ (n ≡ image_length was) → IsTornImage was base
base_lands was base None after n torn starts is sized long untold size =
    base_cut was base n (untold torn.1) size
base_lands was base (Some old) after n torn starts is sized long untold size =
    let begins = subst (λ (o : Option (List ℕ)). IfSome o (λ held. take (length base) held ≡ base))
    torn.1 is in
    let count = subst (λ (o : Option (List ℕ)). IfSome o (λ held. length held ≡ n)) torn.1 sized in
    let short : length base ≡ min (length was.base) (length torn.0) = omega (arith, long, count) in
    let same : take (length was.base) torn.0 ≡ base =
    sym (take_min (length was.base) torn.0) ∙ ap (λ (k : ℕ). take k torn.0) (sym short) ∙ begins in
    subst (λ (l : List ℕ). IsTornImage was l) same (torn_device was old torn.0 starts torn.2)

-- ---- The bytes

-- a device that was not written is torn
pub torn_still : (before : Option (List ℕ)) (new : List ℕ) → LeavesTorn before before new
torn_still None new = ([], refl, tt)
torn_still (Some old) new = (old, refl, record { len = inl refl; each = λ k below. inl refl })

-- one that holds the image is, too
pub torn_whole : (before after : Option (List ℕ)) (new : List ℕ)
    → after ≡ option_map (λ _. new) before → LeavesTorn before after new
torn_whole None after new is = (new, is, tt)
torn_whole (Some old) after new is =
    (new, is, record { len = inr refl; each = λ k below. inr (below, refl) })

resized_byte : (n : ℕ) (bytes : List ℕ) (k : ℕ) → k < n
    → get_or (resized n bytes) k 0 ≡ get_or bytes k 0
resized_byte n bytes k below =
    let front = length-take n bytes in
    ⊎_elim
    (λ inside.
    get_or_append_left (take n bytes) (replicate (n - length bytes) 0) 0 k (omega (arith, front, inside, below))
    ∙ get_or-take n bytes k 0 below)
    (λ past.
    let count : length (take n bytes) ≡ length bytes = omega (arith, front, past, below) in
    get_or-append_right (take n bytes) (replicate (n - length bytes) 0) (length bytes) k 0 count past
    ∙ get_or-replicate (n - length bytes) (k - length bytes) 0 0 (omega (arith, past, below))
    ∙ sym (get_or_past bytes k 0 past))
    (cases_lt k (length bytes))

resized_length : (n : ℕ) (bytes : List ℕ) → length (resized n bytes) ≡ n
resized_length n bytes =
    let front = length-take n bytes in
    let zeros = length-replicate {A = ℕ} (n - length bytes) 0 in
    let all = length-append (take n bytes) (replicate (n - length bytes) 0) in
    omega (arith, front, zeros, all)

-- one that was cut or lengthened to the image's length
pub torn_resized : (before after : Option (List ℕ)) (new : List ℕ)
    → after ≡ option_map (resized (length new)) before → LeavesTorn before after new
torn_resized None after new is = ([], is, tt)
torn_resized (Some old) after new is =
    let count = resized_length (length new) old in (
      resized (length new) old,
      is,
      record {
        len = inr count;
        each = λ k below. inl (resized_byte (length new) old k (omega (arith, below, count)));
      },
    )

-- ---- The way

-- bytes that are written over, where all others were the same
pub under_way_begins : (old new held : List ℕ) (blocks : List Block)
    → ((k : ℕ) → k < length held → get_or held k 0 ≡ get_or old k 0)
    → IsUnderWay old new held (length held) blocks blocks
under_way_begins old new held blocks same = record {
  len = refl;
  each = λ k below. inl (same k below);
  done = λ k over none. let clash : true ≡ false = sym over ∙ none in cc;
}

pub resized_begins : (old new : List ℕ) (n : ℕ) (blocks : List Block)
    → IsUnderWay old new (resized n old) n blocks blocks
resized_begins old new n blocks =
    let count = resized_length n old in
    subst (λ (k : ℕ). IsUnderWay old new (resized n old) k blocks blocks) count
    (under_way_begins old new (resized n old) blocks
    (λ k below. resized_byte n old k (omega (arith, below, count))))

-- what is not written has its byte already
others : (was : Object) (old : List ℕ) → IsReady was → IsBased was
    → take (length was.base) old ≡ was.base → (k : ℕ) → k < length (image was)
    → is_covered (written_line was) k ≡ false → get_or old k 0 ≡ get_or (image was) k 0
others was old ready based starts k below none =
    let whole = length-image was in
    unwritten_same was (written_line was) old k ready based
    (λ j over. line_covers was j ready ∙ over) starts (omega (arith, below, whole)) none

-- all is written over a device that is as long as the image
pub image_written : (was : Object) (old after : List ℕ) (n : ℕ) → IsReady was → IsBased was
    → take (length was.base) old ≡ was.base → n ≡ image_length was
    → IsUnderWay old (image was) after n (written_line was) [] → after ≡ image was
image_written was old after n ready based starts size is =
    let whole = length-image was in
    let len = is.len in
    sym (take_all (length (image was)) after (omega (arith, whole, len, size)))
    ∙ under_way_done old (image was) after n (written_line was) is (omega (arith, whole, size))
    (others was old ready based starts)

-- or over a longer one, which is cut
pub image_cut : (was : Object) (old after : List ℕ) (n : ℕ) → IsReady was → IsBased was
    → take (length was.base) old ≡ was.base → image_length was ≤ n
    → IsUnderWay old (image was) after n (written_line was) []
    → resized (image_length was) after ≡ image was
image_cut was old after n ready based starts size is =
    let whole = length-image was in
    ap (λ (k : ℕ). resized k after) (sym whole)
    ∙ under_way_cut old (image was) after n (written_line was) is (omega (arith, whole, size))
    (others was old ready based starts)
