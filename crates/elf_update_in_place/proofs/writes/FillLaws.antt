-- The fill byte, put over a device page by page.
use Rattle.std.proofs.Common.{◌≡◌, ℕ, ◌+◌, ◌-◌, ◌≤◌, List, ◌++◌, Result, Ok, Err, length, take, replicate, sym, ap, ◌∙◌, subst, arith}
use Rattle.std.specs.Prelude.{IfSome, IfErr}
use Rattle.std.proofs.lemmas.List.{length-replicate, take-replicate, replicate-append-replicate}
use Rattle.elf_types.specs.declared.errors.ElfError.{ElfError}
use Rattle.elf_types.specs.declared.errors.ElfError.TheVariants.{Write}
use Rattle.elf_outside.specs.declared.sources.Source.{Ghosts as SourceGhosts}
use Rattle.elf_outside.specs.declared.devices.Device.{Ghosts as DeviceGhosts}
use Rattle.elf_outside.specs.Patches.{Patches}
use Rattle.elf_update_to.specs.elf_descriptor.State.{State}
use Rattle.elf_update_to.specs.elf_descriptor.Cuts.{CutsBase}
use Rattle.elf_update_in_place.specs.Writes.Overwrites.{MayOverwrite, Overwrites}
use Rattle.elf_update_in_place.proofs.writes.OverLaws.{may_within, may_after, over_written, over_both, over_stop, over_as}

-- the front of a page that has one byte alone
pub front_same : (page : List ℕ) (n byte : ℕ) → page ≡ replicate (length page) byte → n ≤ length page
    → take n page ≡ replicate n byte
front_same page n byte same most =
    ap (take n) same ∙ take-replicate n (length page) byte most

module _ {D : Type 0} (s : SourceGhosts D) (d : DeviceGhosts D) (at count byte done : ℕ) where
  -- the next page may be put
  pub fill_may : (e f : State D) (n : ℕ) → done + n ≤ count → MayOverwrite s e at count
      → Overwrites s d (Ok (tt {0})) e f at (replicate done byte) → MayOverwrite s f (at + done) n
  fill_may e f n within may over =
      may_within s d f at count (at + done) n (omega arith) (omega (arith, within))
      (may_after s d (Ok (tt {0})) e f at at count (replicate done byte) over may)

  -- and is put, or refused
  pub fill_step : (r : Result (Unit {0}) ElfError) (e f g : State D) (n : ℕ) (page : List ℕ)
      → IfSome (s.holds e.source) (λ bytes. length bytes ≡ s.size e.source) → done + n ≤ count
      → page ≡ replicate n byte → MayOverwrite s e at count
      → Overwrites s d (Ok (tt {0})) e f at (replicate done byte) → CutsBase s f g
      → Patches s d r f.source g.source (at + done) page (length page) → IfErr r (λ x. x ≡ Write)
      → Overwrites s d r e g at (replicate (done + n) byte)
  fill_step r e f g n page sized most same may over cuts patches err =
      let put = length-replicate done byte in
      let long : length page ≡ n = ap (λ (l : List ℕ). length l) same ∙ length-replicate n byte in
      let whole = may.within in
      let place : at + length (replicate done byte) ≡ at + done = omega (arith, put) in
      let step = over_written s d r f g (at + done) page (replicate n byte)
      (subst (λ (k : ℕ). MayOverwrite s f (at + done) k) (sym long) (fill_may e f n most may over))
      cuts patches err (ap (λ (l : List ℕ). length l) same) (λ told. same) in
      over_as s d r e g at (replicate done byte ++ replicate n byte) (replicate (done + n) byte)
      (replicate-append-replicate done n byte)
      (over_both s d tt r e f g at (replicate done byte) (replicate n byte) sized
      (omega (arith, put, most, whole)) over
      (subst (λ (k : ℕ). Overwrites s d r f g k (replicate n byte)) (sym place) step))

  pub fill_stops : (x : ElfError) (e g : State D) (n : ℕ) → done + n ≤ count
      → Overwrites {T = Unit {0}} s d (Err x) e g at (replicate (done + n) byte)
      → Overwrites {T = Unit {0}} s d (Err x) e g at (replicate count byte)
  fill_stops x e g n most over =
      let all : done + n + (count - (done + n)) ≡ count = omega (arith, most) in
      over_as s d (Err x) e g at (replicate (done + n) byte ++ replicate (count - (done + n)) byte)
      (replicate count byte)
      (replicate-append-replicate (done + n) (count - (done + n)) byte
      ∙ ap (λ (k : ℕ). replicate k byte) all)
      (over_stop s d x e g at (replicate (done + n) byte) (replicate (count - (done + n)) byte) over)
