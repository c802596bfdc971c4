-- A part, put over a device piece by piece.
use Rattle.std.proofs.Common.{◌≡◌, ℕ, ◌+◌, ◌-◌, ◌<◌, ◌≤◌, List, [], ◌++◌, Result, Ok, Err, length, take, drop, get_or, replicate, refl, sym, ap, ◌∙◌, subst, append_assoc, arith}
use Rattle.std.specs.Prelude.{IfSome}
use Rattle.std.proofs.Math.Seq.{take-add}
use Rattle.std.proofs.lemmas.List.{append-nil, length-append, length-replicate, length-take, length-drop, drop_more, drop_all, take_all, take-append-drop}
use Rattle.elf_types.specs.declared.errors.ElfError.{ElfError}
use Rattle.elf_layout.specs.Layout.{rounded_up}
use Rattle.elf_outside.specs.declared.sources.Source.{Ghosts as SourceGhosts}
use Rattle.elf_outside.specs.declared.devices.Device.{Ghosts as DeviceGhosts}
use Rattle.elf_update_to.specs.elf_object.Blocks.{stacked, last_end}
use Rattle.elf_update_to.proofs.law_object.PlaceLaws.{rounded_up-ge}
use Rattle.elf_update_to.specs.elf_descriptor.State.{State}
use Rattle.elf_update_to.specs.Origins.{absent_piece}
use Rattle.elf_update_to.specs.Pieces.{filled_piece, pieces_length, joined_from, stacked_text}
use Rattle.elf_update_to.proofs.PieceLaws.{joined_step, last_step, last_within, last_none, joined_none}
use Rattle.elf_update_in_place.specs.Writes.Overwrites.{MayOverwrite, Overwrites}
use Rattle.elf_update_in_place.proofs.writes.OverLaws.{may_within, may_after, over_none, over_both, over_stop, over_as, over_value}

-- ---- A piece, page by page

pub page_length : (page : List ℕ) (n : ℕ) → n ≤ length page → length (take n page) ≡ n
page_length page n most = let front = length-take n page in omega (arith, front, most)

take_range : (l : List ℕ) (n m : ℕ) → take (n + m) l ≡ take n l ++ take m (drop n l)
take_range l n m = take-add n m l

module _ {D : Type 0} (s : SourceGhosts D) (d : DeviceGhosts D) (at len done : ℕ) (piece : List ℕ)
    (whole : len ≡ length piece) where
  front_long : done ≤ len → length (take done piece) ≡ done
  front_long within = let front = length-take done piece in omega (arith, front, whole, within)

  pub range_may : (e f : State D) (n : ℕ) → done + n ≤ len → MayOverwrite s e at len
      → Overwrites s d (Ok (tt {0})) e f at (take done piece) → MayOverwrite s f (at + done) n
  range_may e f n within may over =
      may_within s d f at len (at + done) n (omega arith) (omega (arith, within))
      (may_after s d (Ok (tt {0})) e f at at len (take done piece) over may)

  pub range_step : (r : Result (Unit {0}) ElfError) (e f g : State D) (n : ℕ)
      → IfSome (s.holds e.source) (λ bytes. length bytes ≡ s.size e.source) → done + n ≤ len
      → MayOverwrite s e at len → Overwrites s d (Ok (tt {0})) e f at (take done piece)
      → Overwrites s d r f g (at + done) (take n (drop done piece))
      → Overwrites s d r e g at (take (done + n) piece)
  range_step r e f g n sized most may over step =
      let front = front_long (omega (arith, most)) in
      let bound = may.within in
      let place : at + length (take done piece) ≡ at + done = omega (arith, front) in
      over_as s d r e g at (take done piece ++ take n (drop done piece)) (take (done + n) piece)
      (sym (take_range piece done n))
      (over_both s d tt r e f g at (take done piece) (take n (drop done piece)) sized
      (omega (arith, front, most, bound)) over
      (subst (λ (k : ℕ). Overwrites s d r f g k (take n (drop done piece))) (sym place) step))

  pub range_stops : (x : ElfError) (e g : State D)
      → Overwrites {T = Unit {0}} s d (Err x) e g at (take done piece)
      → Overwrites {T = Unit {0}} s d (Err x) e g at piece
  range_stops x e g over =
      over_as s d (Err x) e g at (take done piece ++ drop done piece) piece
      (take-append-drop done piece)
      (over_stop s d x e g at (take done piece) (drop done piece) over)

  pub range_ends : (e g : State D) → len ≤ done
      → Overwrites s d (Ok (tt {0})) e g at (take done piece)
      → Overwrites s d (Ok (tt {0})) e g at piece
  range_ends e g past over =
      over_as s d (Ok tt) e g at (take done piece) piece
      (take_all done piece (omega (arith, whole, past))) over

-- a page whose front was changed is as long
pub page_kept : (front page : List ℕ) (n m : ℕ) → length front ≡ n → n ≤ length page → length page ≡ m
    → length (front ++ drop n page) ≡ m
page_kept front page n m is most same =
    let all = length-append front (drop n page) in
    let rest = length-drop n page in
    omega (arith, all, rest, is, most, same)

-- ---- A piece behind its fill

-- its place
module _ {D : Type 0} (s : SourceGhosts D) (d : DeviceGhosts D) (start end fill : ℕ)
    (piece : ℕ × List ℕ) (count : ℕ) (gap : count ≡ rounded_up end piece.0 - end) where
  fill_long : length (replicate count fill) ≡ count
  fill_long = length-replicate count fill

  both_long : length (filled_piece piece end fill) ≡ count + length piece.1
  both_long =
      let all = length-append (replicate (rounded_up end piece.0 - end) fill) piece.1 in
      let front = length-replicate (rounded_up end piece.0 - end) fill in
      omega (arith, all, front, gap)

  pub gap_may : (e : State D)
      → MayOverwrite s e (start + end) (length (filled_piece piece end fill))
      → MayOverwrite s e (start + end) count
  gap_may e may =
      let long = both_long in
      may_within s d e (start + end)
      (length (filled_piece piece end fill)) (start + end) count
      (omega arith) (omega (arith, long)) may

  pub piece_may : (e f : State D) (at : ℕ) → at ≡ end + count
      → MayOverwrite s e (start + end) (length (filled_piece piece end fill))
      → Overwrites s d (Ok (tt {0})) e f (start + end) (replicate count fill)
      → MayOverwrite s f (start + at) (length piece.1)
  piece_may e f at place may over =
      let long = both_long in
      may_within s d f (start + end)
      (length (filled_piece piece end fill)) (start + at) (length piece.1)
      (omega (arith, place)) (omega (arith, place, long))
      (may_after s d (Ok (tt {0})) e f (start + end) (start + end)
      (length (filled_piece piece end fill)) (replicate count fill) over may)

  text_is : (text : List ℕ) → text ≡ piece.1
      → replicate count fill ++ text ≡ filled_piece piece end fill
  text_is text same =
      ap (λ (n : ℕ). replicate n fill ++ text) gap
      ∙ ap (λ (l : List ℕ). replicate (rounded_up end piece.0 - end) fill ++ l) same

  -- the fill was refused
  pub gap_stops : {T : Type 0} (x : ElfError) (e f : State D)
      → Overwrites {T = Unit {0}} s d (Err x) e f (start + end) (replicate count fill)
      → Overwrites {T = T} s d (Err x) e f (start + end)
      (filled_piece piece end fill)
  gap_stops {T} x e f over =
      over_as s d {T = T} (Err x) e f (start + end) (replicate count fill ++ piece.1)
      (filled_piece piece end fill) (text_is piece.1 refl)
      (over_stop s d {T = Unit {0}} {U = T} x e f (start + end) (replicate count fill) piece.1 over)

  -- the piece behind it, put or refused
  pub piece_put : (r : Result (Unit {0}) ElfError) (e f g : State D) (at : ℕ) (text : List ℕ)
      → IfSome (s.holds e.source) (λ bytes. length bytes ≡ s.size e.source)
      → at ≡ end + count → text ≡ piece.1
      → MayOverwrite s e (start + end) (length (filled_piece piece end fill))
      → Overwrites s d (Ok (tt {0})) e f (start + end) (replicate count fill)
      → Overwrites s d r f g (start + at) text
      → Overwrites s d r e g (start + end) (filled_piece piece end fill)
  piece_put r e f g at text sized place same may over step =
      let front = fill_long in
      let long = both_long in
      let bound = may.within in
      let here : start + at ≡ start + end + length (replicate count fill) = omega (arith, place, front) in
      over_as s d r e g (start + end) (replicate count fill ++ text)
      (filled_piece piece end fill) (text_is text same)
      (over_both s d tt r e f g (start + end) (replicate count fill) text sized
      (omega (arith, front, long, bound)) over
      (subst (λ (k : ℕ). Overwrites s d r f g k text) here step))

  pub piece_stops : {T : Type 0} (x : ElfError) (e f g : State D) (at : ℕ) (text : List ℕ)
      → IfSome (s.holds e.source) (λ bytes. length bytes ≡ s.size e.source)
      → at ≡ end + count → text ≡ piece.1
      → MayOverwrite s e (start + end) (length (filled_piece piece end fill))
      → Overwrites s d (Ok (tt {0})) e f (start + end) (replicate count fill)
      → Overwrites {T = Unit {0}} s d (Err x) f g (start + at) text
      → Overwrites {T = T} s d (Err x) e g (start + end)
      (filled_piece piece end fill)
  piece_stops {T} x e f g at text sized place same may over step =
      let all : List ℕ = filled_piece piece end fill in
      over_as s d {T = T} (Err x) e g (start + end)
      ((filled_piece piece end fill) ++ [])
      (filled_piece piece end fill)
      (append-nil (filled_piece piece end fill))
      (over_stop s d {T = Unit {0}} {U = T} x e g (start + end)
      (filled_piece piece end fill) []
      (piece_put (Err x) e f g at text sized place same may over step))

  pub piece_ends : (y : ℕ) (e f g : State D) (at : ℕ) (text : List ℕ)
      → IfSome (s.holds e.source) (λ bytes. length bytes ≡ s.size e.source)
      → at ≡ end + count → text ≡ piece.1
      → MayOverwrite s e (start + end) (length (filled_piece piece end fill))
      → Overwrites s d (Ok (tt {0})) e f (start + end) (replicate count fill)
      → Overwrites s d (Ok (tt {0})) f g (start + at) text
      → Overwrites s d (Ok y) e g (start + end)
      (filled_piece piece end fill)
  piece_ends y e f g at text sized place same may over step =
      over_value s d tt y e g (start + end)
      (filled_piece piece end fill)
      (piece_put (Ok tt) e f g at text sized place same may over step)

-- ---- A part, piece by piece

-- the pieces before the one with an index stand, and end at a place of the part
pub record IsPartOver {D : Type 0} (s : SourceGhosts D) (d : DeviceGhosts D) (e f : State D)
    (start fill : ℕ) (pieces : List (ℕ × List ℕ)) (i end : ℕ) : Type 0 where
  pub done : List ℕ
  pub over : Overwrites s d (Ok (tt {0})) e f start done
  pub long : length done ≡ end
  pub all : done ++ joined_from fill (pieces_length pieces) end (drop i pieces) ≡ stacked_text fill pieces
  pub last : last_end end (stacked end (drop i pieces)) ≡ pieces_length pieces

module _ {D : Type 0} (s : SourceGhosts D) (d : DeviceGhosts D) (start fill : ℕ) (pieces : List (ℕ × List ℕ)) where
  pub part_starts : (e : State D) (n : ℕ) → MayOverwrite s e start n
      → IsPartOver s d e e start fill pieces 0 0
  unfolding stacked_text pieces_length
  part_starts e n may = record {
    done = [];
    over = over_none s d e start may.base;
    long = refl;
    all = refl;
    last = refl;
  }

  -- the next piece ends within the part
  pub next_within : (e f : State D) (i end : ℕ) → i < length pieces
      → IsPartOver s d e f start fill pieces i end
      → rounded_up end (get_or pieces i absent_piece).0 + length (get_or pieces i absent_piece).1
      ≤ pieces_length pieces
  next_within e f i end there put =
      let piece = get_or pieces i absent_piece in
      let next = drop_more pieces i absent_piece there in
      let last = sym put.last ∙ ap (λ (l : List (ℕ × List ℕ)). last_end end (stacked end l)) next
      ∙ last_step end (get_or pieces i absent_piece) (drop (i + 1) pieces) in
      let rest = last_within
      (rounded_up end (get_or pieces i absent_piece).0 + length (get_or pieces i absent_piece).1)
      (drop (i + 1) pieces) in
      omega (arith, last, rest)

  rest_is : (i end : ℕ) → i < length pieces
      → joined_from fill (pieces_length pieces) end (drop i pieces)
      ≡ filled_piece (get_or pieces i absent_piece) end fill
      ++ joined_from fill (pieces_length pieces)
      (rounded_up end (get_or pieces i absent_piece).0 + length (get_or pieces i absent_piece).1)
      (drop (i + 1) pieces)
  rest_is i end there =
      ap (λ (l : List (ℕ × List ℕ)). joined_from fill (pieces_length pieces) end l)
      (drop_more pieces i absent_piece there)
      ∙ joined_step fill (pieces_length pieces) end (get_or pieces i absent_piece) (drop (i + 1) pieces)

  -- it may be put
  pub next_may : (e f : State D) (n i end : ℕ) → n ≡ pieces_length pieces → i < length pieces
      → MayOverwrite s e start n → IsPartOver s d e f start fill pieces i end
      → MayOverwrite s f (start + end) (length (filled_piece (get_or pieces i absent_piece) end fill))
  next_may e f n i end long there may put =
      let up = rounded_up-ge end (get_or pieces i absent_piece).0 in
      let within = next_within e f i end there put in
      let all = length-append (replicate (rounded_up end (get_or pieces i absent_piece).0 - end) fill)
      (get_or pieces i absent_piece).1 in
      let front = length-replicate (rounded_up end (get_or pieces i absent_piece).0 - end) fill in
      may_within s d f start n (start + end) (length
      (filled_piece (get_or pieces i absent_piece) end fill)) (omega arith)
      (omega (arith, within, all, front, long, up))
      (may_after s d (Ok (tt {0})) e f start start n put.done put.over may)

  -- it was refused
  pub next_stops : {T : Type 0} (x : ElfError) (e f g : State D) (n i end : ℕ)
      → IfSome (s.holds e.source) (λ bytes. length bytes ≡ s.size e.source)
      → n ≡ pieces_length pieces → i < length pieces
      → MayOverwrite s e start n → IsPartOver s d e f start fill pieces i end
      → Overwrites {T = T} s d (Err x) f g (start + end) (filled_piece (get_or pieces i absent_piece) end fill)
      → Overwrites {T = Unit {0}} s d (Err x) e g start (stacked_text fill pieces)
  next_stops {T} x e f g n i end sized long there may put step =
      let up = rounded_up-ge end (get_or pieces i absent_piece).0 in
      let fits = next_within e f i end there put in
      let most : end ≤ n = omega (arith, up, fits, long) in
      let done = put.long in
      let bound = may.within in
      let place : start + end ≡ start + length put.done = omega (arith, done) in
      let rest : List ℕ = joined_from fill (pieces_length pieces)
      (rounded_up end (get_or pieces i absent_piece).0 + length (get_or pieces i absent_piece).1)
      (drop (i + 1) pieces) in
      over_as s d {T = Unit {0}} (Err x) e g start
      ((put.done ++ filled_piece (get_or pieces i absent_piece) end fill)
      ++ joined_from fill (pieces_length pieces)
      (rounded_up end (get_or pieces i absent_piece).0 + length (get_or pieces i absent_piece).1)
      (drop (i + 1) pieces)) (stacked_text fill pieces)
      (append_assoc put.done (filled_piece (get_or pieces i absent_piece) end fill)
      (joined_from fill (pieces_length pieces)
      (rounded_up end (get_or pieces i absent_piece).0 + length (get_or pieces i absent_piece).1)
      (drop (i + 1) pieces))
      ∙ ap (λ (l : List ℕ). put.done ++ l) (sym (rest_is i end there)) ∙ put.all)
      (over_stop s d {T = T} {U = Unit {0}} x e g start
      (put.done ++ filled_piece (get_or pieces i absent_piece) end fill)
      (joined_from fill (pieces_length pieces)
      (rounded_up end (get_or pieces i absent_piece).0 + length (get_or pieces i absent_piece).1)
      (drop (i + 1) pieces))
      (over_both s d {U = T} tt (Err x) e f g start put.done
      (filled_piece (get_or pieces i absent_piece) end fill) sized
      (omega (arith, done, bound, most)) put.over
      (subst (λ (k : ℕ). Overwrites {T = T} s d (Err x) f g k (filled_piece (get_or pieces i absent_piece) end fill))
      place step)))

  -- or it stands
  pub next_stands : (y : ℕ) (e f g : State D) (n i end after : ℕ)
      → IfSome (s.holds e.source) (λ bytes. length bytes ≡ s.size e.source)
      → n ≡ pieces_length pieces → i < length pieces
      → after ≡ rounded_up end (get_or pieces i absent_piece).0 + length (get_or pieces i absent_piece).1
      → MayOverwrite s e start n → IsPartOver s d e f start fill pieces i end
      → Overwrites s d (Ok y) f g (start + end) (filled_piece (get_or pieces i absent_piece) end fill)
      → IsPartOver s d e g start fill pieces (i + 1) after
  next_stands y e f g n i end after sized long there is may put step =
      let up = rounded_up-ge end (get_or pieces i absent_piece).0 in
      let fits = next_within e f i end there put in
      let most : end ≤ n = omega (arith, up, fits, long) in
      let done = put.long in
      let bound = may.within in
      let place : start + end ≡ start + length put.done = omega (arith, done) in
      let both = length-append put.done (filled_piece (get_or pieces i absent_piece) end fill) in
      let all = length-append (replicate (rounded_up end (get_or pieces i absent_piece).0 - end) fill)
      (get_or pieces i absent_piece).1 in
      let front = length-replicate (rounded_up end (get_or pieces i absent_piece).0 - end) fill in
      let E : ℕ = rounded_up end (get_or pieces i absent_piece).0 + length (get_or pieces i absent_piece).1 in
      subst (λ (k : ℕ). IsPartOver s d e g start fill pieces (i + 1) k) (sym is) (record {
        done = put.done ++ filled_piece (get_or pieces i absent_piece) end fill;
        over = over_value s d y tt e g start (put.done ++ filled_piece (get_or pieces i absent_piece) end fill)
            (over_both s d tt (Ok y) e f g start put.done (filled_piece (get_or pieces i absent_piece) end fill) sized
            (omega (arith, done, bound, most)) put.over
            (subst (λ (k : ℕ). Overwrites s d (Ok y) f g k (filled_piece (get_or pieces i absent_piece) end fill)) place
            step));
        long = omega (arith, both, all, front, done, up);
        all = append_assoc put.done (filled_piece (get_or pieces i absent_piece) end fill)
            (joined_from fill (pieces_length pieces)
            (rounded_up end (get_or pieces i absent_piece).0 + length (get_or pieces i absent_piece).1)
            (drop (i + 1) pieces))
            ∙ ap (λ (l : List ℕ). put.done ++ l) (sym (rest_is i end there)) ∙ put.all;
        last = sym (last_step end (get_or pieces i absent_piece) (drop (i + 1) pieces))
            ∙ sym (ap (λ (l : List (ℕ × List ℕ)). last_end end (stacked end l))
            (drop_more pieces i absent_piece there)) ∙ put.last;
      })

  -- all stand
  pub part_ends : (e f : State D) (i end : ℕ) → length pieces ≤ i
      → IsPartOver s d e f start fill pieces i end
      → Overwrites s d (Ok (tt {0})) e f start (stacked_text fill pieces)
  part_ends e f i end past put =
      let none = drop_all i pieces past in
      let last : pieces_length pieces ≡ end = sym put.last
      ∙ ap (λ (l : List (ℕ × List ℕ)). last_end end (stacked end l)) none ∙ last_none end in
      over_as s d (Ok tt) e f start put.done (stacked_text fill pieces)
      (sym (append-nil put.done)
      ∙ ap (λ (l : List ℕ). put.done ++ l) (sym (joined_none fill (pieces_length pieces) end last))
      ∙ ap (λ (l : List (ℕ × List ℕ)). put.done ++ joined_from fill (pieces_length pieces) end l)
      (sym none) ∙ put.all) put.over
