-- What a walk over ranged parts has put and read, as the writing of an image.
use Rattle.std.proofs.Common.{◌≡◌, ◌⊎◌, inl, inr, ℕ, ◌≤◌, Bool, true, false, List, [], ◌++◌, Option, Some, None, Result, Ok, Err, length, refl, sym, ap, ◌∙◌, subst, arith, length-take}
use Rattle.std.specs.Prelude.{if◌then◌else◌, IfSome, IfErr, IsSome, OnOk}
use Rattle.std.proofs.lemmas.List.{append-nil}
use Rattle.elf_types.specs.declared.errors.ElfError.{ElfError}
use Rattle.elf_types.specs.declared.errors.ElfError.TheVariants.{Memory, Read, Write}
use Rattle.elf_outside.specs.Asks.{DeviceReadRose, Leaves, UsesSource}
use Rattle.elf_outside.specs.Puts.{UsesSink, Puts}
use Rattle.elf_outside.specs.Writes.{Appends, AppendsFront}
use Rattle.elf_outside.specs.declared.sources.Source.{Ghosts}
use Rattle.elf_outside.specs.declared.sinks.Sink.{Ghosts as SinkGhosts}
use Rattle.elf_outside.proofs.WriteLemmas.{front_none}
use Rattle.elf_update_to.specs.declared.parts.ImageParts.{Ghosts as PartsGhosts}
use Rattle.elf_update_to.specs.Texts.{Streams}
use Rattle.elf_update_to.specs.Emits.{Emits, UsesParts}
use Rattle.tool_output.specs.Stops.{stop_of}
use Rattle.rebuild_image.specs.declared.ranges.parts.RangedParts.{RangedParts}
use Rattle.rebuild_image.specs.Ranges.Ranges.{KeptRanges, kept_of_parts, ranged_base}

-- ---- What is put

all_put : (a b : Option (List ℕ)) (waits text : List ℕ) → Streams a b [] waits text → waits ≡ []
    → Appends a b text
all_put a b waits text streams empty =
    let all : text ≡ streams.put =
    streams.all ∙ ap (λ (l : List ℕ). streams.put ++ l) empty ∙ append-nil streams.put in
    subst (λ (l : List ℕ). Appends a b l) (sym all) streams.appends

module _ {P K : Type 0} (p : PartsGhosts P) (k : SinkGhosts K) (old new : P) (sink next : K)
    (waited waits text : List ℕ) (due : ℕ) (none : waited ≡ []) where
  puts_told : (r : Result (Unit {0}) ElfError) → Emits p k r old new sink next [] waits text due
      → OnOk r (waits ≡ []) → p.told (p.kept old) ≡ true → Puts k r sink next text
  puts_told (Ok x) put empty told = record {
    uses = put.flows.uses;
    ok = subst (λ (l : List ℕ). Appends (k.wrote sink) (k.wrote next) l) (put.is.exact told)
        (all_put (k.wrote sink) (k.wrote next) waits put.text put.flows.ok empty);
    err = tt;
  }
  puts_told (Err e) put empty told = record {
    uses = put.flows.uses;
    ok = tt;
    err = subst (λ (l : List ℕ). AppendsFront (k.wrote sink) (k.wrote next) l) (put.is.exact told)
        put.flows.err;
  }

  pub image_put : (r : Result (Unit {0}) ElfError) (told : Bool)
      → Emits p k r old new sink next waited waits text due → OnOk r (waits ≡ [])
      → p.told (p.kept old) ≡ told
      → IfSome (if told then Some text else None) (λ t. Puts k r sink next t)
  image_put r false put empty is = tt
  image_put r true put empty is =
      puts_told r (subst (λ (w : List ℕ). Emits p k r old new sink next w waits text due) none put)
      empty is

-- the memory of the page was wanted: nothing is put
pub nothing_put : {K : Type 0} (k : SinkGhosts K) (e : ElfError) (sink : K) (told : Bool)
    (text : List ℕ) → e ≡ Memory
    → IfSome (if told then Some text else None) (λ t. Puts {T = Unit {0}} k (Err e) sink sink t)
nothing_put k e sink false text is = tt
nothing_put k e sink true text is =
    subst (λ (x : ElfError). Puts {T = Unit {0}} k (Err x) sink sink text) (sym is) (record {
      uses = record { rest = refl; later = omega arith; write = tt };
      ok = tt;
      err = front_none (k.wrote sink) text;
    })

pub nothing_used : {K : Type 0} (k : SinkGhosts K) (e : ElfError) (sink : K) → e ≡ Memory
    → UsesSink {T = Unit {0}} k (Err e) sink sink
nothing_used k e sink is =
    subst (λ (x : ElfError). UsesSink {T = Unit {0}} k (Err x) sink sink) (sym is)
    (record { rest = refl; later = omega arith; write = tt })

-- ---- What is read

pub nothing_read : {S : Type 0} (g : Ghosts S) (e : ElfError) (s : S) (due : ℕ) → e ≡ Memory
    → UsesSource {T = Unit {0}} g (Err e) s s due
nothing_read g e s due is =
    subst (λ (x : ElfError). UsesSource {T = Unit {0}} g (Err x) s s due) (sym is) (record {
      leaves = record { same_len = refl; same_bytes = refl; same_rest = refl };
      later = omega arith;
      read = tt;
      taken = record { later = omega arith; no_more = omega arith };
    })

leaves_kept : {S : Type 0} (g : Ghosts S) (old new : RangedParts S)
    → kept_of_parts g new ≡ kept_of_parts g old → Leaves g old.source new.source
leaves_kept g old new same = record {
  same_len = ap (λ (x : KeptRanges). x.source.size) same;
  same_bytes = ap (λ (x : KeptRanges). x.source.holds) same;
  same_rest = ap (λ (x : KeptRanges). x.source.rest) same;
}

-- parts whose counts and whose source are these
pub source_read : {S T : Type 0} (p : PartsGhosts (RangedParts S)) (g : Ghosts S)
    (r : Result T ElfError) (old new : RangedParts S) (due : ℕ)
    → ((a b : RangedParts S) → p.kept b ≡ p.kept a → kept_of_parts g b ≡ kept_of_parts g a)
    → ((a : RangedParts S) → p.faults a ≡ g.faults a.source)
    → ((a : RangedParts S) → p.taken a ≡ g.taken a.source)
    → UsesParts p r old new due → UsesSource g r old.source new.source due
source_read {S} p g r old new due kept faults taken uses =
    let before = taken old in
    let after = taken new in
    let first = faults old in
    let last = faults new in
    let later = uses.later in
    let least = uses.taken.later in
    let most = uses.taken.no_more in
    record {
      leaves = leaves_kept g old new (kept old new uses.kept);
      later = omega (arith, later, first, last);
      read = subst (λ (n : ℕ). DeviceReadRose r n (g.faults new.source)) first
          (subst (λ (n : ℕ). DeviceReadRose r (p.faults old) n) last uses.read);
      taken = record {
        later = omega (arith, least, before, after);
        no_more = omega (arith, most, before, after);
      };
    }

-- ---- How it stops

pub memory_stops : (e : ElfError) → e ≡ Memory → IsSome (stop_of e)
memory_stops e is = subst (λ (x : ElfError). IsSome (stop_of x)) (sym is) refl

pub walk_stops : (r : Result (Unit {0}) ElfError) → IfErr r (λ e. (e ≡ Read) ⊎ (e ≡ Write))
    → IfErr r (λ e. IsSome (stop_of e))
walk_stops (Ok x) h = tt
walk_stops (Err e) (inl is) = subst (λ (x : ElfError). IsSome (stop_of x)) (sym is) refl
walk_stops (Err e) (inr is) = subst (λ (x : ElfError). IsSome (stop_of x)) (sym is) refl

-- ---- What the walk rests on

pub kept_within : (k : KeptRanges) (n : ℕ) → n ≡ k.kept → k.kept ≤ length k.source.base
    → n ≤ length (ranged_base k)
kept_within k n is inside =
    let long = length-take k.kept k.source.base in omega (arith, is, inside, long)
