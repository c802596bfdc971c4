-- A piece of a section becomes own: what its data is then, and that the descriptor stays sound.
use Rattle.std.proofs.Common.{◌≡◌, ◌≢◌, ℕ, zero, suc, ◌<◌, ◌≤◌, Bool, true, false, List, [], ◌∷◌, length, get_or, set, map, Option, Some, None, Ok, refl, sym, ap, ◌∙◌, subst, arith}
use Rattle.std.specs.Prelude.{All, is_some, ◌==◌}
use Rattle.std.proofs.lemmas.Bool.{eqb-true}
use Rattle.std.proofs.lemmas.List.{length-set, get_or-set_same, get_or-set_other}
use Rattle.std.proofs.lemmas.List.Elements.{All-get_or}
use Rattle.std.proofs.lemmas.Option.{get_or_from_slice_get, slice_get_within}
use Rattle.std.proofs.Math.Seq.{map-set}
use Rattle.elf_types.specs.declared.constants.TheConstants.{MAX_PIECES}
use Rattle.elf_types.specs.declared.records.Class.{Class}
use Rattle.elf_types.specs.declared.records.Order.{Order}
use Rattle.elf_types.specs.declared.records.Kind.{Kind}
use Rattle.elf_types.specs.declared.records.Ehdr.{Ehdr}
use Rattle.elf_types.specs.Answers.{answered}
use Rattle.section_table.specs.elf_xlate.declared.content.Items.{Items}
use Rattle.section_table.specs.elf_xlate.Translation.{items_kind}
use Rattle.section_table.specs.elf_object.Object.{Object, Section, Piece, home_piece}
use Rattle.section_table.specs.elf_object.Answers.{lend_refusal, items_at}
use Rattle.section_table.specs.elf_object.Steps.{with_own, with_section, own_piece}
use Rattle.section_table.specs.elf_object.Valid.{IsPiece, OthersOwn, KeepsObject, KeepsTied}
use Rattle.section_table.specs.elf_object.Calls as calls
use Rattle.section_table.proofs.elf_object.PieceLaws.{IsOwn}
use Rattle.law_object.specs.Writing.Based.{KeepsBased}
use Rattle.section_table.specs.section_data.Views.{CellView, IsCell}
use Rattle.section_table.specs.section_data.Held.{piece_in, piece_holds_items, ready}
use Rattle.section_table.specs.section_data.Leaves.{Owns, LiesIn}
use Rattle.section_table.proofs.section_data.Holdings.{ready_own}
use Rattle.section_table.proofs.section_data.Owning.{own_kind, claimed_piece}
use Rattle.section_table.specs.Sections.{SectionView as Scn, absent_scn}
use Rattle.elf_descriptor.specs.declared.body.Body.{Body}
use Rattle.elf_descriptor.specs.Views.{object_of, section_of, raw_of, scn_at, has_mark}
use Rattle.elf_descriptor.specs.Sound.{IsElf, IsSound, CellIn, source_part}
use Rattle.elf_descriptor.specs.Warmed.{Warmed}
use Rattle.elf_descriptor.specs.Owned.{IsOwned}
use Rattle.elf_descriptor.proofs.Objects.{section_is}
use Rattle.elf_descriptor.proofs.Warming.{warms_section, scn_written, other_number, cell_at, unread_before, part_within, cell_moved, standing_moved}
use Rattle.elf_descriptor.proofs.EditSteps.{pieces_stay}
use Rattle.elf_descriptor.proofs.EditPieces.{owned_in, piece_owned}
use Rattle.elf_descriptor.proofs.EditLaws.{has_counts, step_sound}
use Rattle.elf_descriptor.proofs.PieceCalls.{section_sound}

-- ---- The data of one section

-- what is held of it afterwards
pub owns_cell : (image : Option (List ℕ)) (class : Class) (order : Order) (old new : CellView) (p : ℕ) (o : Owns image class order old new p)
    → new ≡ record old { raw = o.warms.raw; held = o.claims.held; pieces = owned_in p o.claims.items old.pieces }
unfolding piece_in
owns_cell image class order old new p o =
    o.claims.cell ∙ ap (λ (c : CellView). record c { held = o.claims.held; pieces = owned_in p o.claims.items c.pieces }) o.warms.cell

-- an own piece changes nothing
pub owns_same : (image : Option (List ℕ)) (class : Class) (order : Order) (old new : CellView) (p : ℕ) → Owns image class order old new p → is_some (piece_in old p).own ≡ true → new ≡ old
owns_same image class order old new p o own =
    let same = o.stays own in
    o.claims.same (ap (λ (c : CellView). is_some (piece_in c p).own) same ∙ own) ∙ same

-- no piece but the first is clean
first_clean : (l : List Piece) (i : ℕ) → OthersOwn l → i < length l → is_some (get_or l i home_piece).own ≡ false → i ≡ 0
first_clean l zero others there clean = refl
first_clean [] (suc i) others there clean = absurd (omega (arith, there))
first_clean (x ∷ l) (suc i) others there clean =
    let own : IsOwn (get_or l i home_piece) = All-get_or IsOwn l i home_piece (omega (arith, there)) others in
    let never = sym own ∙ clean in cc

-- a piece that held its items holds them
pub owns_hold : (image : Option (List ℕ)) (class : Class) (order : Order) (old new : CellView) (p i : ℕ) → Owns image class order old new p → OthersOwn old.pieces → p < length old.pieces → i < length old.pieces
    → piece_holds_items old i ≡ true → piece_holds_items new i ≡ true
unfolding piece_in ready
owns_hold image class order old new p i o others there within holds = by_number (i == p) refl
  where
    pieces : new.pieces ≡ owned_in p o.claims.items old.pieces
    pieces = ap (λ (c : CellView). c.pieces) (owns_cell image class order old new p o)

    given : (j : Items) → (piece_in new i).own ≡ Some j → piece_holds_items new i ≡ true
    given j own = ap (λ (q : Option Items). is_some q) (ready_own new i j own)

    by_clean : (b : Bool) → is_some (piece_in old p).own ≡ b → (piece_in old i).own ≡ None → i ≢ p → piece_holds_items new i ≡ true
    by_clean true own clean other = ap (λ (c : CellView). piece_holds_items c i) (owns_same image class order old new p o own) ∙ holds
    by_clean false own clean other =
        absurd (other (first_clean old.pieces i others within (ap (λ (q : Option Items). is_some q) clean) ∙ sym (first_clean old.pieces p others there own)))

    by_own : (q : Option Items) → (piece_in old i).own ≡ q → i ≢ p → piece_holds_items new i ≡ true
    by_own (Some j) own other =
        given j (ap (λ (l : List Piece). (get_or l i home_piece).own) pieces ∙ ap (λ (x : Piece). x.own) (get_or-set_other old.pieces p i _ home_piece other) ∙ own)
    by_own None clean other = by_clean (is_some (piece_in old p).own) refl clean other

    by_number : (b : Bool) → (i == p) ≡ b → piece_holds_items new i ≡ true
    by_number true e =
        let same = eqb-true i p e in
        given o.claims.items
        (ap (λ (n : ℕ). (get_or new.pieces n home_piece).own) same ∙ ap (λ (l : List Piece). (get_or l p home_piece).own) pieces
        ∙ ap (λ (x : Piece). x.own) (get_or-set_same old.pieces p (own_piece o.claims.items (get_or old.pieces p home_piece).align) home_piece there))
    by_number false e = by_own (piece_in old i).own refl (other_number i p e)

-- ---- The section

-- held items are no part of it
held_apart : (image : Option (List ℕ)) (x : Scn) (c : CellView) (held : Option Items) → section_of image (record x { cell = record c { held = held } }) ≡ section_of image (record x { cell = c })
unfolding section_of raw_of
held_apart None x c held = refl
held_apart (Some image) x c held = refl

owned_section : (image : Option (List ℕ)) (class : Class) (order : Order) (x : Scn) (cell : CellView) (p : ℕ) (o : Owns image class order x.cell cell p)
    → section_of image (record x { cell = cell }) ≡ record (section_of image x) { pieces = owned_in p o.claims.items x.cell.pieces }
unfolding piece_in
owned_section image class order x cell p o =
    ap (λ (c : CellView). section_of image (record x { cell = c })) o.claims.cell
    ∙ pieces_stay image (record x { cell = record o.warm { held = o.claims.held } }) (owned_in p o.claims.items o.warm.pieces)
    ∙ ap (λ (c : Section). record c { pieces = owned_in p o.claims.items o.warm.pieces }) (held_apart image x o.warm o.claims.held ∙ warms_section image x o.warm o.warms)
    ∙ ap (λ (c : CellView). record (section_of image x) { pieces = owned_in p o.claims.items c.pieces }) o.warms.cell

-- ---- The object and the descriptor

module _ (image : Option (List ℕ)) (size : ℕ) (kind : Kind) (unready : Bool) (old new : Body) (s p : ℕ) (x : IsOwned image kind unready old new s p) where
  -- the items that the piece has then
  unfoldable pub owned_items : Items
  owned_items = x.owns.claims.items

  pub owned_object : object_of image size new ≡ with_own (object_of image size old) s p owned_items
  unfolding object_of with_section section_of owned_items
  owned_object =
      ap (λ (b : Body). object_of image size b) x.rest
      ∙ ap (λ (l : List Section). record (object_of image size old) { sections = l })
      (ap (λ (l : List Scn). map (section_of image) l) x.sections
      ∙ map-set (section_of image) old.sections s (record (scn_at old s) { cell = x.cell }))
      ∙ ap (λ (c : Section). with_section (object_of image size old) s c) (owned_section image old.header.class old.header.order (scn_at old s) x.cell p x.owns)
      ∙ ap (λ (c : Section). with_section (object_of image size old) s (record c { pieces = owned_in p x.owns.claims.items c.pieces })) (sym (section_is image size old s))
      ∙ piece_owned (object_of image size old) s p x.owns.claims.items

  pub owned_kind : items_kind owned_items ≡ kind
  unfolding owned_items
  owned_kind =
      let count = ap (λ (c : CellView). length c.pieces) x.owns.claims.cell ∙ length-set x.owns.warm.pieces p (own_piece x.owns.claims.items (piece_in x.owns.warm p).align) in
      let inside : p < length x.owns.warm.pieces = subst (λ (n : ℕ). p < n) count x.piece in
      own_kind kind (piece_in x.cell p) x.owns.claims.items x.own (ap (λ (q : Piece). q.own) (claimed_piece x.owns.warm x.cell p x.owns.claims inside))

  pub owned_header : new.header ≡ old.header
  owned_header = ap (λ (b : Body). b.header) x.rest

  owned_base : new.base ≡ old.base
  owned_base = ap (λ (b : Body). b.base) x.rest

  pub owned_here : scn_at new s ≡ record (scn_at old s) { cell = x.cell }
  owned_here = scn_written old new s (record (scn_at old s) { cell = x.cell }) x.there x.sections

  pub owned_other : (i : ℕ) → i ≢ s → scn_at new i ≡ scn_at old i
  unfolding scn_at
  owned_other i other =
      ap (λ (l : List Scn). get_or l i absent_scn) x.sections
      ∙ get_or-set_other old.sections s i (record (scn_at old s) { cell = x.cell }) absent_scn other

  pub owned_count : length new.sections ≡ length old.sections
  owned_count = ap length x.sections
      ∙ length-set old.sections s (record (scn_at old s) { cell = x.cell })

  owned_lies : (n : ℕ) → LiesIn (scn_at old s).cell n → LiesIn x.cell n
  owned_lies n lies =
      let o = x.owns in
      subst (λ (c : CellView). LiesIn c n) (sym (owns_cell image old.header.class old.header.order (scn_at old s).cell x.cell p o))
      (λ unread inside some. lies (unread_before image (scn_at old s).cell.home (scn_at old s).cell.raw o.warms.raw o.warms.bytes unread) inside some)

  owned_cells : IsElf image size old → (i : ℕ) → i < length old.sections
      → CellIn old.header.class old.header.order old.base i (scn_at new i)
  owned_cells is i there = by_number (i == s) refl
    where
      by_number : (b : Bool) → (i == s) ≡ b → CellIn old.header.class old.header.order old.base i (scn_at new i)
      by_number true e =
          let same = eqb-true i s e in
          let before = cell_at image size old s is x.there in
          subst (λ (n : ℕ). CellIn old.header.class old.header.order old.base n (scn_at new n)) (sym same)
          (subst (λ (y : Scn). CellIn old.header.class old.header.order old.base s y) (sym owned_here) (record {
            number = ap (λ (c : CellView). c.section) (owns_cell image old.header.class old.header.order (scn_at old s).cell x.cell p x.owns) ∙ before.number;
            lies = owned_lies (source_part old.base) before.lies;
            empty = λ none. ap (λ (c : CellView). c.home.len) (owns_cell image old.header.class old.header.order (scn_at old s).cell x.cell p x.owns) ∙ before.empty none;
            items = x.items;
          }))
      by_number false e =
          subst (λ (y : Scn). CellIn old.header.class old.header.order old.base i y) (sym (owned_other i (other_number i s e))) (cell_at image size old i is there)

  -- it stays sound, since lending the items of the piece keeps what is true of an object
  pub owned_elf : KeepsObject (calls.lend s p owned_items) → KeepsTied (calls.lend s p owned_items) → KeepsBased (calls.lend s p owned_items)
      → lend_refusal (object_of image size old) kind s p ≡ None → IsElf image size old → IsElf image size new
  unfolding scn_at
  owned_elf keeps ties bases passed is =
      let o = object_of image size old in
      let answer : answered (lend_refusal o (items_kind owned_items) s p) (items_at o s p) ≡ Ok (items_at o s p) =
      ap (λ (k : Kind). answered (lend_refusal o k s p) (items_at o s p)) owned_kind ∙ ap (λ (r : Option _). answered r (items_at o s p)) passed in
      let sound : IsSound image (object_of image size new) = subst (λ (q : Object). IsSound image q) (sym owned_object) (step_sound (calls.lend s p owned_items) image o (items_at o s p) keeps ties bases answer is.sound) in
      record {
        long = is.long;
        within = part_within old new size owned_base is.within;
        whole = λ h. owned_base ∙ is.whole (ap has_mark (sym x.rest) ∙ h);
        counts = has_counts image size new sound.object;
        cells = λ i y found.
            let there = slice_get_within new.sections i y found in
            let at = get_or_from_slice_get new.sections i y absent_scn found in
            cell_moved old new (ap (λ (h : Ehdr). h.class) owned_header) (ap (λ (h : Ehdr). h.order) owned_header) owned_base i y
            (subst (λ (z : Scn). CellIn old.header.class old.header.order old.base i z) at (owned_cells is i (omega (arith, there, owned_count))));
        written = standing_moved old new (ap (λ (h : Ehdr). h.class) owned_header) (ap (λ (h : Ehdr). h.order) owned_header) (ap (λ (b : Body). b.written) x.rest) is.written;
        sound = sound;
      }

  -- ---- The step before it became own: what was read and translated

  unfoldable pub before_own : Body
  before_own =
      record old { sections = set old.sections s (record (scn_at old s) { cell = x.owns.warm }) }

  pub before_warmed : Warmed image old before_own s
  unfolding before_own
  before_warmed = record { cell = x.owns.warm; rest = refl; sections = refl; warms = x.owns.warms; items = λ held. x.owns.items }

  -- its cell is one
  pub before_cell : IsElf image size old → IsCell x.owns.warm
  unfolding section_of
  before_cell is =
      let section = section_sound image size old s is x.there in
      let kept = subst (λ (c : CellView). IsCell c) x.owns.claims.cell x.kept in
      let pieces = ap (λ (c : CellView). c.pieces) x.owns.warms.cell in
      record {
        sized = kept.sized;
        outside = kept.outside;
        no_room = kept.no_room;
        few = subst (λ (l : List Piece). length l ≤ MAX_PIECES) (sym pieces) section.piece_count;
        each = subst (λ (l : List Piece). All IsPiece l) (sym pieces) section.pieces;
        others = subst (λ (l : List Piece). OthersOwn l) (sym pieces) section.others;
        empty = kept.empty;
      }
