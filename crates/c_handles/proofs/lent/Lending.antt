-- A reference to bytes is made where a part of the right to them is had.
use Rattle.std.proofs.Common.{ℕ, [], ◌∷◌, w8}
use seplogic.Ra.Ura.{Ura}
use base.Logic.{sep, emp, id⊢}
use base.Fml.{Share, Lft, ftrue, fbor}
use types.Logic.{Logic, sem, lfts}
use types.Kit.{‵, raw, ◌⊛◌, later, ◌$◌, !, qed, use0, use2, await, split, fjoin, updating, now, done}
use denote.RattleType.{RattleType, RowLaws}
use denote.Array.{Array, Array-row_laws}
use denote.Builtin.{u8}
use denote.Copied.{Copied, Array-Copied, uint_Copied}
use denote.Memory.{part_at, shared_of}
use denote.Plain.{uint_row_laws}
use denote.RawPtr.{Ptr, block_ptr, null_ptr, lies_at}
use denote.Shares.{SharesFrom}
use denote.Struct.Lending.{lent_at, Lends, Lends-false}

pub bytes_laws : (count : ℕ) → RowLaws (Array u8 count)
bytes_laws count = Array-row_laws u8 (uint_row_laws w8) count

module _ {M : Type 1} {𝓤 : Ura M} (𝓛 : Logic 𝓤) where
  open 𝓛 use {H}

  pub bytes_copied : (count : ℕ) → Copied 𝓛 (Array u8 count)
  bytes_copied count = Array-Copied 𝓛 u8 (uint_Copied 𝓛 w8) tt count

  -- what lies at a place by a part of the right becomes what a reference to it holds; at null
  -- nothing lies
  pub lends_part : (q : Share) (R : RattleType) (l : Lft) (place : Ptr) (x : R.Denot)
      → SharesFrom 𝓛 q R x (shared_of R x) l
      → Lends 𝓛 (lies_at R q place x) (lent_at R place x) l
  lends_part q R l (block_ptr b o) x shares κ ts inc sp =
      qed 𝓛 (‵ (fbor κ (part_at R q x b o)) ∷ raw (lfts 𝓛 ts) ∷ [])
      {P = H.⇛ (sep 𝓤 (sem 𝓛 (lent_at R (block_ptr b o) x κ)) (lfts 𝓛 ts))} (
      updating ! $ use2 𝓛 (later (‵ (shared_of R x b o κ) ⊛ raw (lfts 𝓛 ts)))
      (shares κ ts b o inc sp) $
      await ! tt $ split ! $ use0 𝓛 (‵ ftrue) (id⊢ 𝓤 (emp 𝓤)) $ fjoin ! $ now ! $ done !)
  lends_part q R l null_ptr x shares κ ts inc sp =
      Lends-false 𝓛 (lent_at R null_ptr x) l κ ts inc sp
